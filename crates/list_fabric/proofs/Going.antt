-- A fabric whose list is kept makes one more step that is allowed.
use Rattle.std.proofs.Common.{◌≡◌, ℕ, ◌+◌, ◌*◌, ◌<◌, List, [], ◌∷◌, ◌++◌, length, sym, subst, arith}
use Rattle.std.proofs.lemmas.List.{length-append, length-reverse, reverse-append}
use Rattle.mu_model.specs.declared.config.Config.{Config}
use Rattle.mu_model.specs.declared.event.Event.{Event}
use Rattle.mu_model.specs.declared.event.Verb.{Verb}
use Rattle.mu_model.specs.Allowed.{Allowed}
use Rattle.mu_model.specs.Answers.{answer_of}
use Rattle.mu_model.specs.Histories.{history, part}
use Rattle.mu_model.specs.Legal.{IsLegalHistory}
use Rattle.mu_regions.specs.Range.{IsNear}
use Rattle.mu_regions.specs.Stands.{Stands}
use Rattle.mu_regions.specs.declared.regions.Regions.{Regions}
use Rattle.mu_regions.proofs.Range.{in_range}
use Rattle.list_fabric.specs.Kept.{IsListKept}
use Rattle.mu_model.proofs.Budgets.{few_steps, legal_keeps, room_for}

-- there is room for the step
pub has_room : (c : Config) (events : List Event) (room : ℕ) (state : Regions) (r : ℕ) (verb : Verb) → IsListKept c events room state → Allowed c r (part r (history events)) verb
    → length events < c.replicas * c.budget
has_room c events room state r verb kept may = room_for c.replicas c.budget events r (legal_keeps c (history events) kept.legal) may.replica may.budget

-- the history is short
short_history : (c : Config) (events : List Event) (room : ℕ) (state : Regions) (r : ℕ) (verb : Verb) → IsListKept c events room state → Allowed c r (part r (history events)) verb
    → length (history events) < 1048576
short_history c events room state r verb kept may =
    let same : length (history events) ≡ length events = length-reverse events in
    let less = has_room c events room state r verb kept may in
    let few = few_steps c.replicas c.budget kept.few kept.short in
    omega (arith, same, less, few)

-- the fabric after the step
pub kept_next : (c : Config) (events : List Event) (room left : ℕ) (state new : Regions) (e : Event) → IsListKept c events room state → Allowed c e.by (part e.by (history events)) e.verb
    → e.answer ≡ answer_of c e.by (history events) e.verb
    → (length (history events) < 1048576 → IsNear c e.verb → Stands c (history events) state → Stands c (e ∷ history events) new)
    → left + 1 ≡ room → IsListKept c (events ++ e ∷ []) left new
kept_next c events room left state new e kept may answer step less = record {
  few = kept.few;
  short = kept.short;
  legal = subst (λ past. IsLegalHistory c past) longer (kept.legal, record { allowed = may; answer = answer });
  room_left = let long = length-append events (e ∷ []) in let was = kept.room_left in omega (arith, long, was, less);
  stands = subst (λ past. Stands c past new) longer (step (short_history c events room state e.by e.verb kept may) (in_range c e.by (part e.by (history events)) e.verb may).near kept.stands);
}
  where
    longer : e ∷ history events ≡ history (events ++ e ∷ [])
    longer = sym (reverse-append events (e ∷ []))
