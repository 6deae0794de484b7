use Rattle.std.specs.Prelude.{◌&&◌, if◌then◌else◌, nat_lt}
use Rattle.mu_model.specs.Points.{batch_points, batch_written, later_points}
use Rattle.mu_model.specs.Reasons.{Finds}
use Rattle.std.proofs.Common.{[], ◌++◌, ◌∷◌, ◌+◌, ◌≡◌, ◌/◌, ◌%◌, List, refl, sym, ◌∙◌, ap, subst}
use Rattle.std.proofs.lemmas.Bool.{and_parts, false≢true, ltb-true}
use Rattle.mu_model.specs.Contents.{begins_batch, client_of, command_count, number_of, row_count}
use Rattle.mu_model.specs.Knowledge.{known}
use Rattle.mu_model.specs.declared.reason.Reason.{Reason}
use Rattle.mu_model.proofs.AllMet.{met_rest}
use Rattle.mu_replicas.proofs.Points.{apart, equal_as, no_more, stops, tells}
use Rattle.mu_replicas.proofs.replica.Replica.why_no_offer.Goals as goal

pub returns-then-is_offer_of_mark : goal.returns-then-is_offer_of_mark
returns-then-is_offer_of_mark c r mine reasons held start =
    let k = c.args.config.now in
    let mark = sym (c.is_offer_of_mark.ensures r mine held) ∙ c.if-is_offer_of_mark.true in
    subst (λ t. Finds k r mine (reasons ++ (if t then [] else batch_points k r mine c.args.v)) c.args.found.reason) (sym mark) (no_more k r mine reasons _ start)

pub returns-then-not-batch : goal.returns-then-not-batch
returns-then-not-batch c r mine reasons held start =
    let k = c.args.config.now in
    let v = c.args.v in
    let mark = sym (c.is_offer_of_mark.ensures r mine held) ∙ c.if-is_offer_of_mark.false in
    let one = c.needs-found.ensures k r mine reasons start (λ m. tells _ _ c.stands_for_batch-batch.ensures) in
    let first : List Reason = Reason.NoBatch v ∷ [] in
    let more = stops k r mine (reasons ++ first) (later_points k r mine v) _ (λ m. false≢true (sym c.if-not-batch.true ∙ (c.stands_for_batch-batch.ensures ∙ (met_rest k r mine reasons first m).0))) one in
    subst (λ t. Finds k r mine (reasons ++ (if t then [] else batch_points k r mine v)) c.needs-found.result.reason) (sym mark) (apart k r mine reasons first (later_points k r mine v) _ more)

pub returns : goal.returns
returns c r mine reasons held start =
    let k = c.args.config.now in
    let v = c.args.v in
    let mark = sym (c.is_offer_of_mark.ensures r mine held) ∙ c.if-is_offer_of_mark.false in
    let batch = sym c.stands_for_batch-batch.ensures ∙ c.if-not-batch.false in
    let inside = (and_parts (nat_lt (v % 4096) (row_count k)) (begins_batch k (v % 4096)) (and_parts (nat_lt (v / 4096) k.replicas) (nat_lt (v % 4096) (row_count k) && begins_batch k (v % 4096)) batch).1).0 in
    let a : List Reason = Reason.NoBatch v ∷ [] in
    let b : List Reason = Reason.NotOwn v ∷ [] in
    let d = batch_written k v in
    let e : List Reason = Reason.NotNextOfClient v c.row_number-number.result c.count_of-known.result ∷ [] in
    let f : List Reason = Reason.NotNextOfClient v (number_of k (v % 4096)) (command_count k (client_of k (v % 4096)) (known k r mine)) ∷ [] in
    let one = c.needs-found.ensures k r mine reasons start (λ m. tells _ _ c.stands_for_batch-batch.ensures) in
    let two = c.needs-found-2.ensures k r mine (reasons ++ a) one (λ m. equal_as _ _ _ _ refl (c.from.ensures ∙ held.replica)) in
    let three = c.why_not_written-found.ensures r mine ((reasons ++ a) ++ b) (ltb-true _ _ inside) held two in
    let four = c.needs.ensures k r mine (((reasons ++ a) ++ b) ++ d) three (λ m. equal_as _ _ _ _ c.from-2.ensures (ap (λ n. n + 1) c.from-3.ensures)) in
    let count = subst (λ w. c.count_of-known.result ≡ command_count k w (known k r mine)) c.row_client.ensures (c.count_of-known.ensures k r mine held.known_log) in
    let five = subst (λ n. Finds k r mine ((((reasons ++ a) ++ b) ++ d) ++ Reason.NotNextOfClient v n (command_count k (client_of k (v % 4096)) (known k r mine)) ∷ []) c.needs.result.reason) c.row_number-number.ensures
    (subst (λ n. Finds k r mine ((((reasons ++ a) ++ b) ++ d) ++ Reason.NotNextOfClient v c.row_number-number.result n ∷ []) c.needs.result.reason) count four) in
    subst (λ t. Finds k r mine (reasons ++ (if t then [] else batch_points k r mine v)) c.needs.result.reason) (sym mark)
    (apart k r mine reasons a (b ++ (d ++ f)) _ (apart k r mine (reasons ++ a) b (d ++ f) _ (apart k r mine ((reasons ++ a) ++ b) d f _ five)))
