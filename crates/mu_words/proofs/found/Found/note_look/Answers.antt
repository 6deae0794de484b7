use Rattle.std.proofs.Common.{refl, sym, arith}
use Rattle.std.proofs.lemmas.List.{set_past}
use Rattle.mu_words.proofs.Founds.{look_found}
use Rattle.mu_words.proofs.found.Found.note_look.Goals as goal

pub returns-then-at-len : goal.returns-then-at-len
returns-then-at-len c r a k mine seen was ready =
    look_found k r c.args.self.now mine seen c.args.p c.args.position c.place_of-at.result c.args.word a _ c.requires c.place_of-at.ensures refl was

pub returns-else-at-len : goal.returns-else-at-len
returns-else-at-len c r a k mine seen was ready =
    look_found k r c.args.self.now mine seen c.args.p c.args.position c.place_of-at.result c.args.word a c.args.self.now.places c.requires c.place_of-at.ensures
    (sym (set_past c.args.self.now.places.items c.place_of-at.result c.args.word (let l = c.if-at-len.false in let m = c.len.ensures in omega arith))) was
