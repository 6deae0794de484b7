-- Each list has one verdict.
use Rattle.std.proofs.Common.{List, ◌∷◌, Some, ℕ, suc, ◌<◌, ◌≡◌, inl, inr, refl, sym, ap, subst, ◌∙◌, arith, take, drop}
use Rattle.std.specs.List.{slice_get}
use Rattle.std.proofs.lemmas.Bool.{cases_lt}
use Rattle.mu_model.specs.declared.config.Config.{Config}
use Rattle.mu_model.specs.declared.event.Event.{Event}
use Rattle.mu_model.specs.Histories.{history}
use Rattle.mu_model.specs.Legal.{IsLegal, IsLegalHistory, MayFollow}
use Rattle.mu_outcome.specs.declared.verdict.Verdict.{Verdict}
use Rattle.mu_outcome.specs.declared.verdict.Wrong.{Wrong}
use Rattle.mu_outcome.specs.Verdicts.{AtMostOneVerdict, BreaksAt, IsWrong}
use Rattle.mu_outcome.proofs.Places.{history_at, slice_get-take, take-take}
use Rattle.mu_agree.proofs.Legal.{legal_older}

-- each event of a legal list may come after those before it
legal_at : (c : Config) (events : List Event) (i : ℕ) (e : Event) → IsLegal c events → slice_get events i ≡ Some e → MayFollow c (history (take i events)) e
legal_at c events i e legal is =
    (legal_older c (history (drop (suc i) events)) (e ∷ history (take i events)) (subst (λ l. IsLegalHistory c l) (history_at events i e is) legal)).1

-- no event is both right and wrong
not_wrong : (c : Config) (past : List Event) (e : Event) (cause : Wrong) → MayFollow c past e → IsWrong c past e cause → ⊥
not_wrong c past e Wrong.NotAllowed right wrong = wrong right.allowed
not_wrong c past e (Wrong.WrongAnswer expected) right wrong = wrong.2 (right.answer ∙ sym wrong.1)

-- an event is wrong for one cause
one_cause : (c : Config) (past : List Event) (e : Event) (a b : Wrong) → IsWrong c past e a → IsWrong c past e b → a ≡ b
one_cause c past e Wrong.NotAllowed Wrong.NotAllowed first second = refl
one_cause c past e Wrong.NotAllowed (Wrong.WrongAnswer y) first second = absurd (first second.0)
one_cause c past e (Wrong.WrongAnswer x) Wrong.NotAllowed first second = absurd (second first.0)
one_cause c past e (Wrong.WrongAnswer x) (Wrong.WrongAnswer y) first second = ap (λ z. Wrong.WrongAnswer z) (first.1 ∙ sym second.1)

-- a legal list breaks nowhere
legal_unbroken : (c : Config) (events : List Event) (i : ℕ) (cause : Wrong) → IsLegal c events → BreaksAt c events i cause → ⊥
legal_unbroken c events i cause legal broken =
    not_wrong c (history (take i events)) broken.event cause (legal_at c events i broken.event legal broken.there) broken.wrong

-- nor does a list before the index where it breaks
broken_once : (c : Config) (events : List Event) (i j : ℕ) (a b : Wrong) → i < j → BreaksAt c events i a → BreaksAt c events j b → ⊥
broken_once c events i j a b less first second =
    let there : slice_get (take j events) i ≡ Some first.event = slice_get-take events j i less ∙ first.there in
    let right = legal_at c (take j events) i first.event second.before there in
    not_wrong c (history (take i events)) first.event a (subst (λ l. MayFollow c (history l) first.event) (take-take events j i (omega arith)) right) first.wrong

-- a list breaks at an index for one cause
broken_here : (c : Config) (events : List Event) (i : ℕ) (a b : Wrong) → BreaksAt c events i a → BreaksAt c events i b → a ≡ b
broken_here c events i a b first second =
    let some : Some first.event ≡ Some second.event = sym first.there ∙ second.there in
    let same : first.event ≡ second.event = cc in
    one_cause c (history (take i events)) second.event a b (subst (λ e. IsWrong c (history (take i events)) e a) same first.wrong) second.wrong

broken_same : (c : Config) (events : List Event) (i j : ℕ) (a b : Wrong) → i ≡ j → BreaksAt c events i a → BreaksAt c events j b → Verdict.Illegal i a ≡ Verdict.Illegal j b
broken_same c events i j a b same first second =
    let cause = broken_here c events j a b (subst (λ k. BreaksAt c events k a) same first) second in
    ap (λ k. Verdict.Illegal k a) same ∙ ap (λ w. Verdict.Illegal j w) cause

pub one_verdict : AtMostOneVerdict
one_verdict c events Verdict.Legal Verdict.Legal first second = refl
one_verdict c events Verdict.Legal (Verdict.Illegal j b) first second = absurd (legal_unbroken c events j b first second)
one_verdict c events (Verdict.Illegal i a) Verdict.Legal first second = absurd (legal_unbroken c events i a second first)
one_verdict c events (Verdict.Illegal i a) (Verdict.Illegal j b) first second = elim (cases_lt i j) [
  | inl less ↦ absurd (broken_once c events i j a b less first second)
  | inr least ↦ elim (cases_lt j i) [
    | inl less ↦ absurd (broken_once c events j i b a less second first)
    | inr most ↦ broken_same c events i j a b (omega arith) first second
  ]
]
