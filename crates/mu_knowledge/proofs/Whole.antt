-- An event whose row still lacks its last word makes no entry whole.
use Rattle.std.proofs.Common.{◌≡◌, ◌≢◌, ℕ, ◌+◌, ◌*◌, ◌/◌, ◌%◌, ◌≤◌, ◌==◌, ◌&&◌, Bool, Some, true, false, cond, List, [], ◌∷◌, refl, sym, ◌∙◌, arith, length, subst, inl, inr}
use Rattle.std.specs.Prelude.{if◌then◌else◌, ◌||◌, not}
use Rattle.std.proofs.Math.Bool.{and-false}
use Rattle.std.proofs.lemmas.Bool.{ne_eqb, true≢false}
use Rattle.std.proofs.lemmas.Bool.Decides.{eqb_tells}
use Rattle.mu_model.specs.declared.config.Config.{Config}
use Rattle.mu_model.specs.declared.event.Answer.{Answer}
use Rattle.mu_model.specs.declared.event.Event.{Event}
use Rattle.mu_model.specs.declared.event.Verb.{Verb}
use Rattle.mu_model.specs.Contents.{IsConfig, is_batch, rest_of}
use Rattle.mu_model.specs.Histories.{all_below, has, event_by}
use Rattle.mu_model.specs.Knowledge.{applied, fetched_prefix, front, has_entry, has_row, has_word, is_read, known, wrote}
use Rattle.mu_model.proofs.Basics.{none_some, same_some}
use Rattle.mu_model.proofs.Scans.{all_at}
use Rattle.mu_agree.proofs.Sound.{all_implied}
use Rattle.mu_knowledge.specs.HeldRows.{IsOfRows, row_named}
use Rattle.mu_knowledge.proofs.Fetched.{row_test}

-- the words of another row are as they were
other_row : (c : Config) (r u v k by : ℕ) (verb : Verb) (answer : Answer) (mine : List Event) → IsConfig c → IsOfRows c verb → row_named r verb ≡ Some v → u ≢ v
    → has_word r u k (event_by by verb answer ∷ mine) ≡ true → has_word r u k mine ≡ true
other_row c r u v k by (Verb.WriteRow j word x) answer mine good names is differs =
    let rows = good.few in
    let low = names.0 in
    let number = same_some (r * 4096 + j) v is in
    let apart : ((u / 4096 == r) && (j == u % 4096)) ≡ false = sym (row_test u r j (omega (arith, low, rows))) ∙ ne_eqb u (r * 4096 + j) (λ same. differs (same ∙ number)) in
    go (u / 4096 == r) (j == u % 4096) (word == k) (by == r) (wrote r (u % 4096) k mine) (has (λ f. is_read r u k f.by f.verb) mine) apart
  where
    go : (a b d o w h : Bool) → (a && b) ≡ false → ((a && cond (o && (b && d)) true w) || h) ≡ true → ((a && w) || h) ≡ true
    go true true d o w h apart there = absurd (true≢false apart)
    go true false d true w h apart there = there
    go true false d false w h apart there = there
    go false b d o w h apart there = there
other_row c r u v k by (Verb.ReadRow w word) answer mine good names is differs =
    let other : (w == u) ≡ false = ne_eqb w u (λ same. differs (sym same ∙ same_some w v is)) in
    rw (other, and-false (by == r)) (λ there. there)
other_row c r u v k by verb answer mine good names is differs = absurd (none_some v is)

-- no row is whole that wasn't before
row_was : (c : Config) (r u v by : ℕ) (verb : Verb) (answer : Answer) (mine : List Event) → IsConfig c → IsOfRows c verb → row_named r verb ≡ Some v → has_word r v 11 (event_by by verb answer ∷ mine) ≡ false
    → has_row r u (event_by by verb answer ∷ mine) ≡ true → has_row r u mine ≡ true
row_was c r u v by verb answer mine good names is lacks whole = elim (eqb_tells u v) [
  | inl here ↦
      let last = all_at 12 (λ k. has_word r u k (event_by by verb answer ∷ mine)) whole 11 (omega arith) in
      absurd (true≢false (sym last ∙ subst (λ w. has_word r w 11 (event_by by verb answer ∷ mine) ≡ false) (sym here.1) lacks))
  | inr other ↦ all_implied 12 (λ k. has_word r u k (event_by by verb answer ∷ mine)) (λ k. has_word r u k mine) (λ k there. other_row c r u v k by verb answer mine good names is other.1 there) whole
]

-- no entry either
entry_was : (c : Config) (r u v by : ℕ) (verb : Verb) (answer : Answer) (mine : List Event) → IsConfig c → IsOfRows c verb → row_named r verb ≡ Some v → has_word r v 11 (event_by by verb answer ∷ mine) ≡ false
    → has_entry c r u (event_by by verb answer ∷ mine) ≡ true → has_entry c r u mine ≡ true
entry_was c r u v by verb answer mine good names is lacks = go (is_batch c u)
  where
    n : ℕ
    n = rest_of c (u % 4096) + 1

    go : (t : Bool) → (not t || all_below n (λ t. has_row r (u + t) (event_by by verb answer ∷ mine))) ≡ true → (not t || all_below n (λ t. has_row r (u + t) mine)) ≡ true
    go true all = all_implied n (λ t. has_row r (u + t) (event_by by verb answer ∷ mine)) (λ t. has_row r (u + t) mine) (λ t whole. row_was c r (u + t) v by verb answer mine good names is lacks whole) all
    go false all = refl

-- no more pass by a stronger test
front_within : (test later : ℕ → Bool) → ((v : ℕ) → later v ≡ true → test v ≡ true) → (xs : List ℕ) → length (front later xs) ≤ length (front test xs)
front_within test later on [] = omega arith
front_within test later on (x ∷ xs) = go (later x) refl (front_within test later on xs)
  where
    go : (t : Bool) → later x ≡ t → length (front later xs) ≤ length (front test xs) → length (if t then (x ∷ front later xs) else []) ≤ length (if test x then (x ∷ front test xs) else [])
    go true is more = rw (on x is) (omega (arith, more))
    go false is more = omega arith

-- words of rows make no value known
known_same : (c : Config) (r v by : ℕ) (verb : Verb) (answer : Answer) (mine : List Event) → row_named r verb ≡ Some v → known c r (event_by by verb answer ∷ mine) ≡ known c r mine
known_same c r v by (Verb.WriteRow j word x) answer mine is = refl
known_same c r v by (Verb.ReadRow w word) answer mine is = refl
known_same c r v by verb answer mine is = absurd (none_some v is)

-- no more is applied than before
pub applied_was : (c : Config) (r v : ℕ) (e : Event) (mine : List Event) → IsConfig c → IsOfRows c e.verb → row_named r e.verb ≡ Some v → has_word r v 11 (e ∷ mine) ≡ false → length (applied c r (e ∷ mine)) ≤ length (applied c r mine)
applied_was c r v e mine good names is lacks =
    subst (λ values. length (fetched_prefix c r (e ∷ mine) values) ≤ length (applied c r mine)) (sym (known_same c r v e.by e.verb e.answer mine is))
    (front_within (λ u. has_entry c r u mine) (λ u. has_entry c r u (e ∷ mine)) (λ u whole. entry_was c r u v e.by e.verb e.answer mine good names is lacks whole) (known c r mine))
