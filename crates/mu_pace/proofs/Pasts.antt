-- What stays as a history grows.
use Rattle.std.proofs.Common.{◌≡◌, ◌∙◌, ℕ, ◌+◌, ◌≤◌, ◌==◌, ◌&&◌, Bool, true, false, cond, not, List, [], ◌∷◌, ◌++◌, ap, arith, eqb-true, inl, inr, length, refl, sym, true≢false}
use Rattle.std.proofs.lemmas.Bool.{and_from, and_parts, cases_lt}
use Rattle.mu_agree.proofs.Possible.{parts_shorten_law}
use Rattle.mu_model.specs.declared.config.Config.{Config}
use Rattle.mu_model.specs.declared.event.Answer.{Answer}
use Rattle.mu_model.specs.declared.event.Event.{Event}
use Rattle.mu_model.specs.declared.event.Verb.{Verb}
use Rattle.mu_model.specs.Histories.{has, how_many}
use Rattle.mu_model.specs.Knowledge.{is_written}
use Rattle.mu_model.specs.Leaderships.{begins_leadership, has_begun, leadership}
use Rattle.mu_model.specs.Parts.{IsPossible}
use Rattle.mu_model.specs.Steps.{has_min, is_ask_read_verb, is_min, is_min_verb}
use Rattle.mu_model.proofs.Owned.{IsOwnTest}

pub and_false : (t : Bool) → (t && false) ≡ false
and_false true = refl
and_false false = refl

-- the oldest n of the events, and those after them
pub record Cut (n : ℕ) (events : List Event) : Type 0 where
  pub newer : List Event
  pub rest : List Event
  pub is : events ≡ newer ++ rest
  pub count : length rest ≡ n

pub cut : (n : ℕ) (events : List Event) → n ≤ length events → Cut n events
cut n [] few = record { newer = []; rest = []; is = refl; count = omega (arith, few) }
cut n (e ∷ events) few = elim (cases_lt (length events) n) [
  | inl more ↦ record { newer = []; rest = e ∷ events; is = refl; count = omega (arith, few, more) }
  | inr less ↦ let k = cut n events less in record { newer = e ∷ k.newer; rest = k.rest; is = ap (λ l. e ∷ l) k.is; count = k.count }
]

-- what was met earlier was met
pub has_later : (test : Event → Bool) (newer older : List Event) → has test older ≡ true → has test (newer ++ older) ≡ true
has_later test [] older some = some
has_later test (e ∷ newer) older some = go (test e) (has_later test newer older some)
  where
    go : (t : Bool) → has test (newer ++ older) ≡ true → cond t true (has test (newer ++ older)) ≡ true
    go true ih = refl
    go false ih = ih

-- what was met lately was met
pub has_newer : (test : Event → Bool) (newer older : List Event) → has test newer ≡ true → has test (newer ++ older) ≡ true
has_newer test [] older some = absurd (true≢false (sym some))
has_newer test (e ∷ newer) older some = go (test e) some (has_newer test newer older)
  where
    go : (t : Bool) → cond t true (has test newer) ≡ true → (has test newer ≡ true → has test (newer ++ older) ≡ true) → cond t true (has test (newer ++ older)) ≡ true
    go true some ih = refl
    go false some ih = ih some

pub how_many-append : (test : Event → Bool) (xs ys : List Event) → how_many test (xs ++ ys) ≡ how_many test xs + how_many test ys
how_many-append test [] ys = omega arith
how_many-append test (x ∷ xs) ys = go (test x) (how_many-append test xs ys)
  where
    go : (t : Bool) → how_many test (xs ++ ys) ≡ how_many test xs + how_many test ys → cond t (how_many test (xs ++ ys) + 1) (how_many test (xs ++ ys)) ≡ cond t (how_many test xs + 1) (how_many test xs) + how_many test ys
    go true ih = omega (arith, ih)
    go false ih = ih

-- what was met was met once at least
pub some_counted : (test : Event → Bool) (xs : List Event) → has test xs ≡ true → 1 ≤ how_many test xs
some_counted test [] some = absurd (true≢false (sym some))
some_counted test (x ∷ xs) some = go (test x) some (some_counted test xs)
  where
    go : (t : Bool) → cond t true (has test xs) ≡ true → (has test xs ≡ true → 1 ≤ how_many test xs) → 1 ≤ cond t (how_many test xs + 1) (how_many test xs)
    go true some ih = omega arith
    go false some ih = ih some

-- who has begun a leadership has begun one
pub begun_on : (r : ℕ) (e : Event) (past : List Event) → has_begun r past ≡ true → has_begun r (e ∷ past) ≡ true
begun_on r e past is = go (begins_leadership r e)
  where
    go : (t : Bool) → cond t true (has_begun r past) ≡ true
    go true = refl
    go false = is

pub begun_still : (r : ℕ) (newer older : List Event) → has_begun r older ≡ true → has_begun r (newer ++ older) ≡ true
begun_still r [] older begun = begun
begun_still r (e ∷ newer) older begun = begun_on r e (newer ++ older) (begun_still r newer older begun)

-- who has read a minimum has read it until another leadership begins
pub min_on : (r : ℕ) (e : Event) (past : List Event) → begins_leadership r e ≡ false → has_min r past ≡ true → has_min r (e ∷ past) ≡ true
min_on r e past same is =
    let parts = and_parts (has_begun r past) (has is_min (leadership r past)) is in
    and_from (has_begun r (e ∷ past)) (has is_min (leadership r (e ∷ past))) (ap (λ t. cond t true (has_begun r past)) same ∙ parts.0)
    (ap (λ t. has is_min (cond t [] (e ∷ leadership r past))) same ∙ any (is_min e) parts.1)
  where
    any : (t : Bool) → has is_min (leadership r past) ≡ true → cond t true (has is_min (leadership r past)) ≡ true
    any true h = refl
    any false h = h

pub min_now : (r : ℕ) (e : Event) (past : List Event) → is_min e ≡ true → has_begun r past ≡ true → has_min r (e ∷ past) ≡ true
min_now r e past is begun = go e.by e.verb e.answer is
  where
    go : (by : ℕ) (verb : Verb) (answer : Answer) → is_min_verb verb ≡ true → has_min r (record { by = by; verb = verb; answer = answer } ∷ past) ≡ true
    go by (Verb.Min q) answer is = and_from (has_begun r past) true begun refl
    go by verb answer is = absurd (true≢false (sym is))

pub reads_ask : (w : ℕ) (verb : Verb) → is_ask_read_verb w verb ≡ true → verb ≡ Verb.ReadAsk w
reads_ask w (Verb.ReadAsk q) h = ap (λ x. Verb.ReadAsk x) (eqb-true q w h)
reads_ask w verb h = absurd (true≢false (sym h))

-- whether r wrote a word depends on its own events
pub written-own : (r j k : ℕ) → IsOwnTest r (λ e. is_written r j k e.by e.verb)
written-own r j k = record { own = λ e h. go e.by e.verb h }
  where
    go : (by : ℕ) (verb : Verb) → (by == r) ≡ false → is_written r j k by verb ≡ false
    go by (Verb.WriteRow row word x) h = rw h refl
    go by verb h = refl

pub possible_before : (c : Config) (r : ℕ) (newer older : List Event) → IsPossible c r (newer ++ older) → IsPossible c r older
possible_before c r [] older possible = possible
possible_before c r (e ∷ newer) older possible = possible_before c r newer older (parts_shorten_law c r (newer ++ older) e possible).before
