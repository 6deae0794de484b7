-- Replies told of one row are equal, and logs keep real time.
use Rattle.std.proofs.Common.{◌≡◌, ℕ, zero, suc, ◌<◌, ◌≤◌, ◌⊎◌, inl, inr, true, List, [], ◌∷◌, ◌++◌, length, reverse, take, refl, sym, ◌∙◌, ap, arith, Some, subst, true≢false, append_assoc}
use Rattle.std.specs.List.{slice_get}
use Rattle.std.proofs.lemmas.Option.{slice_get_within}
use Rattle.mu_clients.proofs.Agreeing.{attested_older, before_at, beside_at, events_legal, events_parts, logs_agree, reply_along}
use Rattle.mu_clients.proofs.Putting.{applied_put, put_along}
use Rattle.mu_clients.specs.Attested.{IsAttested, IsAttestedBack, MayCome, events_in, rows_put}
use Rattle.mu_clients.specs.Laws.{AttestedAgree, AttestedInTime}
use Rattle.mu_clients.specs.declared.items.Item.{Item}
use Rattle.mu_input.specs.declared.job.Job.{Job}
use Rattle.mu_model.proofs.Basics.{same_some}
use Rattle.mu_model.proofs.Lists.{get_front}
use Rattle.mu_model.proofs.Scans.{rows_in-append}
use Rattle.mu_model.specs.Contents.{includes, rows_in}
use Rattle.mu_model.specs.Histories.{part, IsPrefixOf}
use Rattle.mu_model.specs.Knowledge.{applied}
use Rattle.mu_model.specs.declared.event.Event.{Event}

-- what stands at a place of an attested list: the items before it are attested, and it may come
-- after them; their events are the older ones of all
record Stands (job : Job) (items : List Item) (i : ℕ) (item : Item) : Type 0 where
  before : IsAttestedBack job (reverse (take i items))
  may : MayCome job (reverse (take i items)) item
  newer : List Event
  all : events_in (reverse items) ≡ newer ++ events_in (reverse (take i items))

stands_at : (job : Job) (items : List Item) (i : ℕ) (item : Item) → IsAttested job items → slice_get items i ≡ Some item → Stands job items i item
stands_at job items i item held at =
    let b = before_at items i item at in
    let older = attested_older job b.newer (item ∷ reverse (take i items)) (subst (IsAttestedBack job) b.is held) in
    record {
      before = older.0;
      may = older.1;
      newer = events_in (b.newer ++ item ∷ []);
      all = ap events_in (b.is ∙ sym (append_assoc b.newer (item ∷ []) (reverse (take i items)))) ∙ events_parts (b.newer ++ item ∷ []) (reverse (take i items));
    }

pub attested_agree : AttestedAgree
attested_agree job items held i j r s row first second one two =
    let a = stands_at job items i (Item.Told r row first) held one in
    let b = stands_at job items j (Item.Told s row second) held two in
    let here = events_in (reverse (take i items)) in
    let there = events_in (reverse (take j items)) in
    elim (logs_agree job.config r s (events_in (reverse items)) here there a.newer b.newer (events_legal job (reverse items) held) a.all b.all) [
      | inl begins ↦ same_some first second (sym (reply_along job (applied job.config r (part r here)) (applied job.config s (part s there)) row first begins a.may.0) ∙ b.may.0)
      | inr begins ↦ same_some first second (sym a.may.0 ∙ reply_along job (applied job.config s (part s there)) (applied job.config r (part r here)) row second begins b.may.0)
    ]

-- a place in a list and what comes behind
pub split_at : (xs ys : List ℕ) (k x : ℕ) → slice_get (xs ++ ys) k ≡ Some x → (slice_get xs k ≡ Some x) ⊎ (length xs ≤ k)
split_at [] ys k x at = inr (omega arith)
split_at (z ∷ xs) ys zero x at = inl at
split_at (z ∷ xs) ys (suc k) x at = elim (split_at xs ys k x at) [ inl there ↦ inl there | inr long ↦ inr (omega (arith, long)) ]

-- what came before a later place of a list, seen from there
earlier : {A : Type 0} (items : List A) (i j : ℕ) (x : A) → i < j → slice_get items i ≡ Some x → (slice_get (take j items) i ≡ Some x) × (take i (take j items) ≡ take i items)
earlier [] i j x low at = cc
earlier (y ∷ items) zero zero x low at = absurd (omega (arith, low))
earlier (y ∷ items) zero (suc j) x low at = (at, refl)
earlier (y ∷ items) (suc i) zero x low at = absurd (omega (arith, low))
earlier (y ∷ items) (suc i) (suc j) x low at = let rest = earlier items i j x (omega (arith, low)) at in (rest.0, ap (λ l. y ∷ l) rest.1)

pub attested_in_time : AttestedInTime
attested_in_time job items held i j r s sooner later reply low one two k at =
    let told = stands_at job items i (Item.Told r sooner reply) held one in
    let got = stands_at job items j (Item.Got later) held two in
    let before = earlier items i j (Item.Told r sooner reply) low one in
    let inside = stands_at job (take j items) i (Item.Told r sooner reply) got.before before.0 in
    let seen : (x : ℕ) × (slice_get (rows_in job.config log) x ≡ Some sooner) = beside_at sooner (rows_in job.config log) _ reply told.may.0 in
    let never : (x : ℕ) → slice_get (rows_in job.config log) x ≡ Some later → ⊥ =
    λ x there.
    let put = applied_put job.config r x later here (events_legal job (reverse (take i items)) told.before) there in
    let still = put_along job.config later inside.newer here put in
    let whole = subst (λ l. includes later (rows_put job.config l) ≡ true) (sym (inside.all ∙ ap (λ l. inside.newer ++ events_in (reverse l)) before.1)) still in
    true≢false (sym whole ∙ got.may.1) in
    elim (logs_agree job.config r s all here all told.newer [] (events_legal job (reverse items) held) told.all refl) [
      | inl begins ↦ longer begins seen never
      | inr begins ↦ absurd (never k (subst (λ l. slice_get l k ≡ Some later) (sym (rows_on _ _ begins)) (get_front (rows_in job.config (applied job.config s (part s all))) (rows_in job.config begins.0) k later at)))
    ]
  where
    all : List Event
    all = events_in (reverse items)

    here : List Event
    here = events_in (reverse (take i items))

    log : List ℕ
    log = applied job.config r (part r here)

    rows_on : (xs ys : List ℕ) → (begins : IsPrefixOf xs ys) → rows_in job.config ys ≡ rows_in job.config xs ++ rows_in job.config begins.0
    rows_on xs ys begins = ap (rows_in job.config) begins.1 ∙ rows_in-append job.config xs begins.0

    longer : IsPrefixOf log (applied job.config s (part s all)) → (x : ℕ) × (slice_get (rows_in job.config log) x ≡ Some sooner) → ((x : ℕ) → slice_get (rows_in job.config log) x ≡ Some later → ⊥)
        → (x : ℕ) × (x < k) × (slice_get (rows_in job.config (applied job.config s (part s all))) x ≡ Some sooner)
    longer begins seen never = elim (split_at (rows_in job.config log) (rows_in job.config begins.0) k later (subst (λ l. slice_get l k ≡ Some later) (rows_on _ _ begins) at)) [
      | inl there ↦ absurd (never k there)
      | inr long ↦ (
          let within = slice_get_within (rows_in job.config log) seen.0 sooner seen.1 in
          (seen.0, omega (arith, within, long), subst (λ l. slice_get l seen.0 ≡ Some sooner) (sym (rows_on _ _ begins)) (get_front (rows_in job.config log) (rows_in job.config begins.0) seen.0 sooner seen.1)))
    ]
