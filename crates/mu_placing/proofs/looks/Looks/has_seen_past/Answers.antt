use Rattle.mu_placing.proofs.Tables.{region_found, region_there}
use Rattle.mu_placing.proofs.looks.Looks.has_seen_past.Goals as goal

pub returns-in-Some : goal.returns-in-Some
returns-in-Some c k r mine low near held =
    let found = c.in-Some.ensures.lookup in
    c.has_seen_past.ensures k r c.args.p mine held.begun_at near (region_found k r c.args.p mine c.args.self.now.regions.items c.deref.result.now c.from.result c.in-Some.looks.now c.deref.ensures.value c.from.ensures found.1 found.3.0 held.regions)

pub returns-in-None : goal.returns-in-None
returns-in-None c k r mine low near held = absurd (region_there c.args.p c.from.result c.args.self.now.regions.items c.deref.result.now c.deref.ensures.value c.from.ensures c.in-None.ensures.lookup.3 held.seven low)
