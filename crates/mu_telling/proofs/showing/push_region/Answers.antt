use Rattle.std.proofs.Common.{◌∷◌, ◌++◌, ◌∙◌, [], ap}
use Rattle.mu_model.specs.Answers.{answer_of}
use Rattle.mu_model.specs.Knowledge.{grown}
use Rattle.mu_model.specs.Regions.{asks}
use Rattle.mu_model.specs.declared.event.Verb.{Verb}
use Rattle.mu_telling.specs.Shown.{asks_fact, entry_fact, given_below}
use Rattle.mu_telling.proofs.FactLists.{on_ok, two_and_two}
use Rattle.mu_telling.proofs.showing.push_region.Goals as goal

pub returns : goal.returns
returns c = λ past s low held is long.
    let p = c.args.region in
    let old = c.args.facts.now.items in
    let one = c.push_given.new.list.items in
    let two = c.push_given-2.new.list.items in
    let three = c.push_asks.new.facts.items in
    let first = c.in_ok-push_given.ensures ∙ ap (grown old) (c.fence_of.ensures past s low held) in
    let second = c.in_ok-push_given-2.ensures ∙ ap (λ f. one ++ f ∷ []) (c.numbers_of.ensures past s low held) in
    let third = c.in_ok-push_asks.ensures past s low held is ∙ ap (λ n. two ++ given_below n (λ w. asks_fact p w (asks w p past))) is in
    on_ok _ _ c.push_entries.result
    (λ last. two_and_two old one two three _ _ _ _ _ first second third
    (last ∙ ap (λ n. three ++ given_below n (λ i. entry_fact p i (answer_of s p past (Verb.Look p i)))) long))
    (c.push_entries.ensures past s low held)
