use Rattle.std.proofs.Common.{◌≡◌, map, take, ℕ, ◌++◌, length, [], List, Bor, ap, ◌∙◌, arith}
use Rattle.std.proofs.lemmas.Grind.{common_steps}
use Rattle.std.specs.Option.{option_map_or}
use Rattle.mu_text.specs.Lines.{words}
use Rattle.mu_text.proofs.FirstWords.{taken_full, taken_all}
use Rattle.mu_text.proofs.line_words.split_words.Goals as goal

pub returns-after-loop-count-clause-words : goal.returns-after-loop-count-clause-words
returns-after-loop-count-clause-words c =
    let i = c.loop-count.invariant in
    let m = map (λ (word : Bor (List ℕ)). word.now) (take c.loop-count.count c.loop-count.items) in
    let many : length m ≡ c.loop-count.count = grind (arith, common_steps, i) in
    taken_full 14 (words c.args.line.now) m _ i.taken (omega (arith, many, i.few, c.loop-count-test.false))

pub returns-in_default-clause-words : goal.returns-in_default-clause-words
returns-in_default-clause-words c =
    let i = c.loop-count.invariant in
    let m = map (λ (word : Bor (List ℕ)). word.now) (take c.loop-count.count c.loop-count.items) in
    let many : length m ≡ c.loop-count.count = grind (arith, common_steps, i) in
    taken_all 14 (words c.args.line.now) m
    (i.taken ∙ ap (λ rest. m ++ option_map_or (λ (rest : Bor (List ℕ)). words rest.now) rest []) c.in_default.is)
    (omega (arith, many, i.few))
