use Rattle.std.proofs.Common.{[], ◌++◌, ◌∷◌, ◌∙◌, List, refl, ap, subst, sym, length}
use Rattle.std.specs.Prelude.{if◌then◌else◌}
use Rattle.mu_model.specs.Knowledge.{known}
use Rattle.mu_model.specs.Picks.{first_value}
use Rattle.mu_model.specs.declared.reason.Reason.{Reason}
use Rattle.mu_model.specs.Points.{clear_members, new_values, proposals, reserved_rooms, rooms}
use Rattle.mu_model.specs.Reasons.{Finds}
use Rattle.mu_replicas.proofs.Points.{apart, equal_as, no_more}
use Rattle.mu_replicas.proofs.replica.Replica.why_no_value.Goals as goal

pub returns-then-knows_at : goal.returns-then-knows_at
returns-then-knows_at c r mine reasons near held start =
    let k = c.args.config.now in
    let is = sym (c.knows_at.ensures k r mine held) ∙ c.if-knows_at.true in
    subst (λ t. Finds k r mine (reasons ++ (if t then [] else new_values k r mine c.args.i c.args.v)) c.args.found.reason) (sym is) (no_more k r mine reasons _ start)

pub returns : goal.returns
returns c r mine reasons near held start =
    let k = c.args.config.now in
    let i = c.args.i in
    let v = c.args.v in
    let is = sym (c.knows_at.ensures k r mine held) ∙ c.if-knows_at.false in
    let count = ap length (c.known-known.ensures k r mine held.known_log) in
    let next : List Reason = Reason.NotNext i (length (known k r mine)) ∷ [] in
    let free = rooms k r mine i 0 in
    let kept = reserved_rooms k r mine i v in
    let past = clear_members k i in
    let last = proposals k r mine i v (first_value r i mine) in
    let one = subst (λ n. Finds k r mine (reasons ++ Reason.NotNext i n ∷ []) c.needs-found.result.reason) count (c.needs-found.ensures k r mine reasons start (λ m. equal_as _ _ _ _ c.from.ensures refl)) in
    let two = c.why_no_room-found.ensures r mine (reasons ++ next) held one in
    let three = c.why_no_reserve-found.ensures r mine ((reasons ++ next) ++ free) near held two in
    let four = c.why_past_seen-found.ensures r mine (((reasons ++ next) ++ free) ++ kept) near held three in
    let five = c.why_no_proposal.ensures r mine ((((reasons ++ next) ++ free) ++ kept) ++ past) near held four in
    subst (λ t. Finds k r mine (reasons ++ (if t then [] else new_values k r mine i v)) c.why_no_proposal.result.reason) (sym is)
    (apart k r mine reasons next (free ++ (kept ++ (past ++ last))) _
    (apart k r mine (reasons ++ next) free (kept ++ (past ++ last)) _
    (apart k r mine ((reasons ++ next) ++ free) kept (past ++ last) _
    (apart k r mine (((reasons ++ next) ++ free) ++ kept) past last _ five))))
