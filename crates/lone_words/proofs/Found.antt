-- A word that some legal list leaves where a step finds it makes a possible event, and passes the test.
use Rattle.std.proofs.Common.{◌≡◌, ◌∙◌, Bool, cond, false, true, List, ◌∷◌, ap, eq-eqb, refl, subst, sym}
use Rattle.mu_model.specs.declared.event.Event.{Event}
use Rattle.mu_model.specs.declared.event.Verb.{Verb}
use Rattle.mu_model.specs.Allowed.{Allowed}
use Rattle.mu_model.specs.Answers.{answer_of}
use Rattle.mu_model.specs.Histories.{part}
use Rattle.mu_words.specs.Finding.{expected, name_of, sights}
use Rattle.mu_words.specs.Standing.{standing_word}
use Rattle.mu_words.specs.Verbs.{answer_from}
use Rattle.mu_words.proofs.Law.{word_steps_law}
use Rattle.lone_words.specs.Memory.{FoundIsPossible, Own, event_at, stores}
use Rattle.lone_words.specs.Right.{FoundMayBeTold, may_be_told}
use Rattle.lone_words.proofs.OneList.{same_answer}
use Rattle.lone_words.proofs.Right.{found_law}

pub found_possible : FoundIsPossible
found_possible c r own v word good allowed found =
    let hist = found.past in
    let may : Allowed c r (part r hist) v = subst (λ (l : List Event). Allowed c r l v) (sym found.mine) allowed in
    let x = expected c r (part r hist) (sights c r hist) v in
    let stands = standing_word c hist (name_of c r (part r hist) v) in
    let both : own ≡ (part r hist, sights c r hist) = λ i. ((sym found.mine) i, (sym found.seen) i) in
    let same : stores v ≡ false → word ≡ stands = λ no. found.stands no ∙ ap (λ (l : List Event). standing_word c hist (name_of c r l v)) (sym found.mine) in
    let answer : answer_from c.ring v (expected c r own.0 own.1 v) word ≡ answer_of c r hist v = ap (λ (o : Own). answer_from c.ring v (expected c r o.0 o.1 v) word) both ∙ (same_answer c.ring v x word stands same ∙ (word_steps_law c r hist v good found.legal may).answer) in
    let e = event_at c r own v word in
    record {
      past = e ∷ hist;
      legal = (found.legal, record { allowed = may; answer = answer });
      is = ap (λ (t : Bool). cond t (e ∷ part r hist) (part r hist)) (eq-eqb r r refl) ∙ ap (λ (l : List Event). e ∷ l) found.mine;
    }

-- what is told but a word of a row passes the test
pub found_told : FoundMayBeTold
found_told c r own (Verb.WriteRow j k x) word good found none = refl
found_told c r own (Verb.ReadRow v k) word good found none = absurd (true_false none)
  where
    true_false : true ≡ false → ⊥
    true_false e = cc
found_told c r own v word good found none =
    ap (may_be_told c v (name_of c r own.0 v)) (found.stands refl)
    ∙ (ap (λ (l : List Event). may_be_told c v (name_of c r l v) (standing_word c found.past (name_of c r l v))) (sym found.mine) ∙ found_law c found.past r v good found.legal none)
