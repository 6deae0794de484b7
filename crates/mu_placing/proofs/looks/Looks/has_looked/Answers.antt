use Rattle.mu_placing.proofs.Tables.{region_found, region_there}
use Rattle.std.proofs.Common.{arith, ◌<◌}
use Rattle.mu_placing.proofs.looks.Looks.has_looked.Goals as goal

pub returns-in-Some : goal.returns-in-Some
returns-in-Some c k r s mine low config near held opened =
    let found = c.in-Some.ensures.lookup in
    let ring : 0 < k.ring = let least = config.ring.0 in omega (arith, least) in
    c.has_looked.ensures k r c.args.p s mine ring near (region_found k r c.args.p mine c.args.self.now.regions.items c.deref.result.now c.from.result c.in-Some.looks.now c.deref.ensures.value c.from.ensures found.1 found.3.0 held.regions) opened

pub returns-in-None : goal.returns-in-None
returns-in-None c k r s mine low config near held opened = absurd (region_there c.args.p c.from.result c.args.self.now.regions.items c.deref.result.now c.deref.ensures.value c.from.ensures c.in-None.ensures.lookup.3 held.seven low)
