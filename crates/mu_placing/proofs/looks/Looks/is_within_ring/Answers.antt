use Rattle.mu_placing.proofs.Tables.{region_found, region_there}
use Rattle.mu_placing.proofs.looks.Looks.is_within_ring.Goals as goal

pub returns-in-Some : goal.returns-in-Some
returns-in-Some c k r mine low held =
    let found = c.in-Some.ensures.lookup in
    c.is_within_ring.ensures k r c.args.p mine (region_found k r c.args.p mine c.args.self.now.regions.items c.deref.result.now c.from.result c.in-Some.looks.now c.deref.ensures.value c.from.ensures found.1 found.3.0 held.regions)

pub returns-in-None : goal.returns-in-None
returns-in-None c k r mine low held = absurd (region_there c.args.p c.from.result c.args.self.now.regions.items c.deref.result.now c.deref.ensures.value c.from.ensures c.in-None.ensures.lookup.3 held.seven low)
