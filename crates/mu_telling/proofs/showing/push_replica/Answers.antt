use Rattle.std.proofs.Common.{◌∷◌, ◌++◌, ◌∙◌, [], ap, append_assoc}
use Rattle.std.specs.List.{slice_get}
use Rattle.mu_model.specs.Knowledge.{known}
use Rattle.mu_model.specs.Leaderships.{is_member}
use Rattle.mu_model.specs.Scores.{is_failed}
use Rattle.mu_telling.specs.Shown.{failed_fact, given_below, known_fact, member_fact, positions}
use Rattle.mu_telling.proofs.FactLists.{on_ok, two_and_two}
use Rattle.mu_telling.proofs.showing.push_replica.Goals as goal

pub returns : goal.returns
returns c = λ mine s held is long.
    let r = c.args.replica in
    let old = c.args.facts.now.items in
    let one = c.push_given.new.list.items in
    let two = c.push_given-2.new.list.items in
    let three = c.push_members.new.facts.items in
    let four = c.push_failed.new.facts.items in
    let failed = given_below s.replicas (λ q. failed_fact r q (is_failed r q mine)) in
    let values = given_below (positions s) (λ i. known_fact r i (slice_get (known s r mine) i)) in
    let first = c.in_ok-push_given.ensures ∙ ap (λ f. old ++ f ∷ []) (c.reached_by.ensures mine s held) in
    let second = c.in_ok-push_given-2.ensures ∙ ap (λ f. one ++ f ∷ []) (c.leadership_of.ensures mine s held) in
    let third = c.in_ok-push_members.ensures mine s held ∙ ap (λ n. two ++ given_below n (λ p. member_fact r p (is_member r p mine))) is in
    let fourth = c.in_ok-push_failed.ensures mine s held is ∙ ap (λ n. three ++ given_below n (λ q. failed_fact r q (is_failed r q mine))) is in
    on_ok _ _ c.push_known.result
    (λ last. two_and_two old one two three _ _ _ _ _ first second third
    (last
    ∙ (ap (λ l. four ++ given_below c.args.positions (λ i. known_fact r i (slice_get l i))) (c.known.ensures s r mine held)
    ∙ (ap (λ n. four ++ given_below n (λ i. known_fact r i (slice_get (known s r mine) i))) long
    ∙ (ap (λ l. l ++ values) fourth ∙ append_assoc three failed values)))))
    c.push_known.ensures
