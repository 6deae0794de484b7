-- Lists of facts, piece by piece, and how many facts there are.
use Rattle.std.proofs.Common.{◌≡◌, ℕ, zero, suc, ◌+◌, ◌*◌, ◌<◌, ◌≤◌, ◌^◌, Bool, true, false, if◌then◌else◌, ◌==◌, List, [], ◌∷◌, ◌++◌, Option, None, Some, Result, Ok, Err, ap, append_assoc, arith, length, length-append, refl, subst, sym, ◌∙◌}
use Rattle.std.specs.Prelude.{OnOk}
use Rattle.std.specs.List.{slice_get}
use Rattle.mu_model.specs.Answers.{answer_of}
use Rattle.mu_model.specs.Contents.{IsConfig}
use Rattle.mu_model.specs.Histories.{part}
use Rattle.mu_model.specs.Knowledge.{grown, known}
use Rattle.mu_model.specs.Leaderships.{is_member}
use Rattle.mu_model.specs.Regions.{asks}
use Rattle.mu_model.specs.Scores.{is_failed}
use Rattle.mu_model.specs.declared.config.Config.{Config}
use Rattle.mu_model.specs.declared.event.Event.{Event}
use Rattle.mu_model.specs.declared.event.Verb.{Verb}
use Rattle.mu_outcome.specs.declared.moment.Fact.{Fact}
use Rattle.mu_telling.specs.Shown.{asks_fact, entry_fact, facts_of, failed_fact, given_below, joined_below, known_fact, member_fact, positions, region_facts, replica_facts}

-- what holds if a call went well, and follows from what does
pub on_ok : {A E : Type 0} (P Q : Type 0) (r : Result A E) → (P → Q) → OnOk r P → OnOk r Q
on_ok P Q (Ok a) follows p = follows p
on_ok P Q (Err e) follows p = tt

grown_append : {A : Type 0} (xs ys : List A) (x : Option A) → grown (xs ++ ys) x ≡ xs ++ grown ys x
grown_append xs ys None = refl
grown_append xs ys (Some x) = append_assoc xs ys (x ∷ [])

-- one more that is given
pub given_next : {A : Type 0} (had all now : List A) (r : ℕ) (f : ℕ → Option A) (x : Option A) → all ≡ had ++ given_below r f → now ≡ grown all x → x ≡ f r → now ≡ had ++ given_below (r + 1) f
given_next had all now r f x before added is =
    let next : suc r ≡ r + 1 = omega arith in
    added
    ∙ (ap (λ l. grown l x) before
    ∙ (grown_append had (given_below r f) x ∙ (ap (λ y. had ++ grown (given_below r f) y) is ∙ ap (λ n. had ++ given_below n f) next)))

-- two facts, and two lists after them
pub two_and_two : {A : Type 0} (old one two three four : List A) (x y : A) (a b : List A) → one ≡ old ++ x ∷ [] → two ≡ one ++ y ∷ [] → three ≡ two ++ a → four ≡ three ++ b → four ≡ old ++ (x ∷ y ∷ (a ++ b))
two_and_two old one two three four x y a b first second third fourth =
    fourth
    ∙ (ap (λ l. l ++ b) (third ∙ ap (λ l. l ++ a) (second ∙ ap (λ l. l ++ y ∷ []) first))
    ∙ (append_assoc (old ++ x ∷ [] ++ y ∷ []) a b ∙ whole))
  where
    whole : ((old ++ x ∷ []) ++ y ∷ []) ++ (a ++ b) ≡ old ++ (x ∷ y ∷ (a ++ b))
    whole = append_assoc (old ++ x ∷ []) (y ∷ []) (a ++ b) ∙ append_assoc old (x ∷ []) (y ∷ (a ++ b))

-- no more facts than there are numbers
length_grown : {A : Type 0} (xs : List A) (x : Option A) → length (grown xs x) ≤ length xs + 1
length_grown xs None = omega arith
length_grown xs (Some x) = omega (arith, length-append xs (x ∷ []))

pub length_given : {A : Type 0} (n : ℕ) (f : ℕ → Option A) → length (given_below n f) ≤ n
length_given zero f = omega arith
length_given (suc n) f = omega (arith, length_given n f, length_grown (given_below n f) (f n))

length_joined : {A : Type 0} (n m : ℕ) (f : ℕ → List A) → ((r : ℕ) → length (f r) ≤ m) → length (joined_below n f) ≤ n * m
length_joined zero m f few = omega arith
length_joined (suc n) m f few = omega (arith, length_joined n m f few, few n, length-append (joined_below n f) (f n))

region_few : (c : Config) (past : List Event) (p : ℕ) → length (region_facts c past p) ≤ 2 + (c.replicas + positions c)
region_few c past p =
    let askers = given_below c.replicas (λ w. asks_fact p w (asks w p past)) in
    let entries = given_below (positions c) (λ i. entry_fact p i (answer_of c p past (Verb.Look p i))) in
    omega (
      arith,
      length_given c.replicas (λ w. asks_fact p w (asks w p past)),
      length_given (positions c) (λ i. entry_fact p i (answer_of c p past (Verb.Look p i))),
      length-append askers entries,
    )

replica_few : (c : Config) (r : ℕ) (mine : List Event) → length (replica_facts c r mine) ≤ 2 + (c.replicas + (c.replicas + positions c))
replica_few c r mine =
    let members = given_below c.replicas (λ p. member_fact r p (is_member r p mine)) in
    let failed = given_below c.replicas (λ q. failed_fact r q (is_failed r q mine)) in
    let values = given_below (positions c) (λ i. known_fact r i (slice_get (known c r mine) i)) in
    omega (
      arith,
      length_given c.replicas (λ p. member_fact r p (is_member r p mine)),
      length_given c.replicas (λ q. failed_fact r q (is_failed r q mine)),
      length_given (positions c) (λ i. known_fact r i (slice_get (known c r mine) i)),
      length-append failed values,
      length-append members (failed ++ values),
    )

reserve_few : (t : Bool) (n : ℕ) → n ≤ 7 → (if t then n else 0) ≤ 7
reserve_few true n few = few
reserve_few false n few = omega arith

-- a moment has few facts
facts_few : (c : Config) (past : List Event) → IsConfig c → length (facts_of c past) < 2 ^ 32
facts_few c past config =
    let low = config.replicas.1 in
    let rows = config.few in
    let spare = reserve_few (c.version == 2) c.replicas low in
    let regions = joined_below c.replicas (region_facts c past) in
    let replicas = joined_below c.replicas (λ r. replica_facts c r (part r past)) in
    let one : length regions ≤ c.replicas * 2100 = length_joined c.replicas 2100 (region_facts c past) (λ p. omega (arith, region_few c past p, low, rows, spare)) in
    let other : length replicas ≤ c.replicas * 2100 = length_joined c.replicas 2100 (λ r. replica_facts c r (part r past)) (λ r. omega (arith, replica_few c r (part r past), low, rows, spare)) in
    omega (arith, one, other, low, length-append regions replicas)

pub few_of : (c : Config) (past : List Event) (facts : List Fact) → IsConfig c → facts ≡ facts_of c past → length facts < 2 ^ 32
few_of c past facts config are = subst (λ l. length l < 2 ^ 32) (sym are) (facts_few c past config)
