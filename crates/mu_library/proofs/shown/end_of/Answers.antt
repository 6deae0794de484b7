use Rattle.mu_library.proofs.shown.end_of.Goals as goal

pub returns : goal.returns
returns c k own stands none script same = (c.end.result, c.end.ensures k script own same stands none, c.told_end.ensures)
