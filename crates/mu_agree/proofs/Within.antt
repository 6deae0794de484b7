-- What a possible part puts is there, it is short, and what it knows grows.
use Rattle.std.proofs.Common.{Bool, List, None, Some, [], ap, arith, false, length, subst, take, true, ℕ, ◌<◌, ◌==◌, ◌∷◌, ◌≡◌, ◌≤◌}
use Rattle.std.specs.Prelude.{if◌then◌else◌}
use Rattle.std.specs.declared.option.Option.{Option}
use Rattle.std.proofs.lemmas.List.{length-append}
use Rattle.std.proofs.Math.Seq.{take-append_seam, take-length}
use Rattle.mu_model.specs.declared.config.Config.{Config}
use Rattle.mu_model.specs.declared.event.Event.{Event}
use Rattle.mu_model.specs.declared.event.Verb.{Verb}
use Rattle.mu_model.specs.Allowed.{Allowed}
use Rattle.mu_model.specs.Contents.{IsConfig}
use Rattle.mu_model.specs.Knowledge.{grown, known, learnt_by}
use Rattle.mu_model.specs.Parts.{IsPossible}
use Rattle.mu_model.specs.Room.{reserve}
use Rattle.mu_agree.proofs.Possible.{parts_shorten_law}
use Rattle.mu_agree.proofs.Readings.{known_within}

-- a region whose minimum is put is one of seven
pub puts_within : (c : Config) (r p b : ℕ) (mine : List Event) (e : Event) → c.replicas ≤ 7 → IsPossible c r (e ∷ mine) → e.verb ≡ Verb.PutMin p b → p < 7
puts_within c r p b mine e few possible is =
    let may : Allowed c r mine (Verb.PutMin p b) = subst (λ v. Allowed c r mine v) is (parts_shorten_law c r mine e possible).allowed in
    let low = may.may.0 in omega (arith, low, few)

-- a part has no more events than steps are allowed
pub is_short : (c : Config) (r : ℕ) (mine : List Event) (e : Event) → IsConfig c → IsPossible c r (e ∷ mine) → length mine < 131071
is_short c r mine e config possible =
    let low = (parts_shorten_law c r mine e possible).allowed.budget in
    let high = config.budget.1 in omega (arith, low, high)

-- the replica of a possible part is one of seven
pub replica_is_low : (c : Config) (r : ℕ) (mine : List Event) (e : Event) → IsConfig c → IsPossible c r (e ∷ mine) → r < 7
replica_is_low c r mine e good possible = let few = good.replicas.1 in let low = (parts_shorten_law c r mine e possible).allowed.replica in omega arith

reserve_few : (t : Bool) (n : ℕ) → (if t then n else 0) ≤ n
reserve_few true n = omega arith
reserve_few false n = omega arith

-- a possible part knows few positions
pub known_few : (c : Config) (r : ℕ) (mine : List Event) → IsConfig c → IsPossible c r mine → length (known c r mine) < 65536
known_few c r mine config possible =
    let most = known_within c r mine possible in
    let rows = config.few in
    let spare : reserve c ≤ c.replicas = reserve_few (c.version == 2) c.replicas in
    let few = config.replicas.1 in
    omega (arith, most, rows, spare, few)

grown_front : (values : List ℕ) (o : Option ℕ) → take (length values) (grown values o) ≡ values
grown_front values None = take-length values
grown_front values (Some v) = take-append_seam values (v ∷ [])

-- what was known before the event is the front of what is known after it
pub known_before : (c : Config) (r : ℕ) (mine : List Event) (e : Event) (values : List ℕ) (n : ℕ) → values ≡ known c r (e ∷ mine) → n ≡ length (known c r mine) → take n values ≡ known c r mine
known_before c r mine e values n is same = rw (is, same) (grown_front (known c r mine) (learnt_by c r mine (length (known c r mine)) e.by e.verb e.answer (e ∷ mine)))

-- no value that was known before is missing after it
pub known_grows : (c : Config) (r : ℕ) (mine : List Event) (e : Event) (values : List ℕ) (n : ℕ) → values ≡ known c r (e ∷ mine) → n ≡ length (known c r mine) → n ≤ length values
known_grows c r mine e values n is same = go (learnt_by c r mine (length (known c r mine)) e.by e.verb e.answer (e ∷ mine)) (ap length is)
  where
    go : (o : Option ℕ) → length values ≡ length (grown (known c r mine) o) → n ≤ length values
    go None long = omega arith
    go (Some v) long = let more = length-append (known c r mine) (v ∷ []) in omega arith
