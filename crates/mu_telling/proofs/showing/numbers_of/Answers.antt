use Rattle.std.proofs.Common.{◌≡◌, ◌∙◌, ap}
use Rattle.mu_model.specs.Regions.{beats, region_fuo, region_head, region_min}
use Rattle.mu_telling.specs.Shown.{number_shown}
use Rattle.mu_outcome.specs.declared.moment.Fact.{Fact}
use Rattle.mu_telling.proofs.showing.numbers_of.Goals as goal

pub returns : goal.returns
returns c = λ past s low held.
    let p = c.args.region in
    let minimum : c.number_in.result ≡ region_min p past = c.number_in.ensures ∙ ap number_shown (c.answer.ensures past s (record { replica = low; read = low; near = tt }) held) in
    let fuo : c.number_in-2.result ≡ region_fuo p past = c.number_in-2.ensures ∙ ap number_shown (c.answer-2.ensures past s (record { replica = low; read = low; near = tt }) held) in
    let head : c.number_in-3.result ≡ region_head p past = c.number_in-3.ensures ∙ ap number_shown (c.answer-3.ensures past s (record { replica = low; read = low; near = tt }) held) in
    let beat : c.number_in-4.result ≡ beats p past = c.number_in-4.ensures ∙ ap number_shown (c.answer-4.ensures past s (record { replica = low; read = low; near = tt }) held) in
    ap (λ x. Fact.Numbers p x c.number_in-2.result c.number_in-3.result c.number_in-4.result) minimum
    ∙ (ap (λ x. Fact.Numbers p (region_min p past) x c.number_in-3.result c.number_in-4.result) fuo
    ∙ (ap (λ x. Fact.Numbers p (region_min p past) (region_fuo p past) x c.number_in-4.result) head
    ∙ ap (λ x. Fact.Numbers p (region_min p past) (region_fuo p past) (region_head p past) x) beat))
