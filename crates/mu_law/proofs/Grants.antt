-- What may come next.
use Rattle.std.proofs.Common.{◌≡◌, ◌≢◌, ◌⊎◌, inl, inr, ℕ, ◌+◌, ◌<◌, ◌≤◌, Bool, false, None, List, [], ◌∷◌, ap, arith, length, refl, sym, ◌∙◌}
use Rattle.std.specs.Prelude.{IsTrue, if◌then◌else◌, nat_lt, ◌↔◌}
use Rattle.std.specs.List.{slice_get}
use Rattle.std.proofs.lemmas.Bool.{le-ltb, ne_eqb}
use Rattle.mu_model.specs.declared.config.Config.{Config}
use Rattle.mu_model.specs.declared.event.Answer.{Answer}
use Rattle.mu_model.specs.declared.event.Event.{Event}
use Rattle.mu_model.specs.declared.event.Verb.{Verb}
use Rattle.mu_model.specs.Allowed.{Needs}
use Rattle.mu_model.specs.Answers.{answer_of, shown}
use Rattle.mu_model.specs.Histories.{history, part}
use Rattle.mu_model.specs.Legal.{IsLegal, IsLegalHistory}
use Rattle.mu_model.specs.Regions.{log_with, region_head, region_log}
use Rattle.mu_agree.specs.Agreement.{IsMarked}
use Rattle.mu_agree.proofs.Room.{place_kept}

-- a look from the head on isn't past, unless a mark of the replica is chosen
pub kept_or_marked : (c : Config) (events : List Event) (r i : ℕ) (b : Bool) → (IsTrue b ↔ (answer_of c r (history events) (Verb.Look r i) ≢ Answer.Past)) → IsLegal c events → r < c.replicas
    → region_head r (history events) ≤ i → IsTrue b ⊎ IsMarked c r (history events)
kept_or_marked c events r i b is h l k = go (answer_of c r (history events) (Verb.Look r i)) refl
  where
    go : (a : Answer) → answer_of c r (history events) (Verb.Look r i) ≡ a → IsTrue b ⊎ IsMarked c r (history events)
    go Answer.Past e = inr (place_kept c r r i (history events) h l k e)
    go a e = inl (is.1 (λ p. (let d : a ≡ Answer.Past = sym e ∙ p in cc)))

-- a region that isn't there stays empty
none_there : (c : Config) (r : ℕ) (past : List Event) → IsLegalHistory c past → c.replicas ≤ r → region_log r past ≡ []
none_there c r [] legal above = refl
none_there c r (e ∷ past) legal above = stays e.verb e.answer legal.1.allowed.may ∙ none_there c r past legal.0 above
  where
    stays : (verb : Verb) (answer : Answer) → Needs c e.by (part e.by past) verb → log_with r verb answer (region_log r past) ≡ region_log r past
    stays (Verb.PutSlot q i b v) Answer.Done needs = let low = needs.0 in rw (ne_eqb q r (λ same. absurd (omega (arith, low, above, same)))) refl
    stays verb answer needs = refl

-- so a look there is never past
pub none_past : (c : Config) (r i : ℕ) (past : List Event) → IsLegalHistory c past → c.replicas ≤ r → answer_of c r past (Verb.Look r i) ≢ Answer.Past
none_past c r i past legal above is =
    let empty = none_there c r past legal above in
    let none = ap length empty in
    let short : nat_lt (i + c.ring) (length (region_log r past)) ≡ false = le-ltb (i + c.ring) (length (region_log r past)) (omega (arith, none)) in
    let there : slice_get (region_log r past) i ≡ None = ap (λ l. slice_get l i) empty in
    let shows : Answer.Past ≡ Answer.Empty = sym is ∙ (ap (λ t. if t then Answer.Past else shown (slice_get (region_log r past) i)) short ∙ ap shown there) in
    cc
