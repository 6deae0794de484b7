-- No two leaderships have the same number.
use Rattle.std.proofs.Common.{◌≡◌, ℕ, ◌%◌, ◌<◌, ◌≤◌, ◌⊎◌, inl, inr, max, Bool, true, false, ◌==◌, List, [], ◌∷◌, ◌++◌, refl, sym, ◌∙◌, ap, arith, Some, None, subst, eqb-true}
use Rattle.std.specs.declared.option.Option.{Option}
use Rattle.mu_model.specs.declared.config.Config.{Config}
use Rattle.mu_model.specs.declared.event.Event.{Event}
use Rattle.mu_model.specs.declared.event.Verb.{Verb}
use Rattle.mu_model.specs.declared.event.Answer.{Answer}
use Rattle.mu_agree.specs.Laws.{NumbersDiffer}
use Rattle.mu_model.specs.Allowed.{Needs}
use Rattle.mu_model.specs.Entering.{number_allowed}
use Rattle.mu_model.specs.Histories.{earlier_or, greatest, oldest, part, since}
use Rattle.mu_model.specs.Leaderships.{begins_leadership, is_first_ask, leaderships, number_put, proposal_number}
use Rattle.mu_model.specs.Legal.{IsLegalHistory}
use Rattle.std.proofs.lemmas.List.{reverse-append}
use mathlib.Core.List.{reverse}
use Rattle.mu_model.proofs.Owned.{IsOwn, oldest-part, greatest-part, since-part, begins-own}
use Rattle.mu_model.proofs.Basics.{same_some}
use Rattle.mu_model.proofs.Putting.{MayPutMin, min_facts}

number_put-own_at : (r by : ℕ) (v : Verb) → (by == r) ≡ false → number_put r by v ≡ None
number_put-own_at r by (Verb.PutMin p b) h = rw h refl
number_put-own_at r by _ h = refl

pub number_put-own : (r : ℕ) → IsOwn r (λ e. number_put r e.by e.verb)
number_put-own r = record { own = λ e h. number_put-own_at r e.by e.verb h }

-- a number of the part is that of the history
pub number-part : (r : ℕ) (past : List Event) → proposal_number r (part r past) ≡ proposal_number r past
number-part r past =
    ap (oldest (λ e. number_put r e.by e.verb)) (since-part (begins_leadership r) r (begins-own r) past)
    ∙ oldest-part (λ e. number_put r e.by e.verb) r (number_put-own r) (since (begins_leadership r) past)

-- the greatest number that r put
abbrev pub greatest_own_put : ℕ → List Event → ℕ
greatest_own_put r past = greatest (λ e. number_put r e.by e.verb) past

pub greatest_own_put-part : (r : ℕ) (past : List Event) → greatest_own_put r (part r past) ≡ greatest_own_put r past
greatest_own_put-part r past = greatest-part (λ e. number_put r e.by e.verb) r (number_put-own r) past

-- the number b was that of the n-th leadership of r, and is passed by each later one
pub record Stands (r b n : ℕ) (past : List Event) : Type 0 where
  pub put : b ≤ greatest_own_put r past
  pub own : b % 8 ≡ r
  pub case : ((leaderships r past ≡ n) × (proposal_number r past ≡ Some b)) ⊎ ((n < leaderships r past) × ((m : ℕ) → proposal_number r past ≡ Some m → b < m))

-- each number of a leadership under way was put, and is of its replica
pub record Numbered (r : ℕ) (past : List Event) : Type 0 where
  pub put : (m : ℕ) → proposal_number r past ≡ Some m → m ≤ greatest_own_put r past
  pub own : (m : ℕ) → proposal_number r past ≡ Some m → m % 8 ≡ r

-- if there is no number yet, a new one is above all that r put
fresh_at : (r b : ℕ) (past : List Event) (o : Option ℕ) → number_allowed r past b o → o ≡ None → (greatest_own_put r past < b) × (b % 8 ≡ r)
fresh_at r b past None h e = (h.3, h.0)
fresh_at r b past (Some x) h e = cc

pub fresh : (r p b : ℕ) (past : List Event) → MayPutMin r (part r past) p b → proposal_number r past ≡ None → (greatest_own_put r past < b) × (b % 8 ≡ r)
fresh r p b past may e = rw (← greatest_own_put-part r past) (fresh_at r b (part r past) (proposal_number r (part r past)) may.numbered (number-part r past ∙ e))

pub fresh_by : (r by p b : ℕ) (past : List Event) → MayPutMin by (part by past) p b → (by == r) ≡ true → proposal_number r past ≡ None → (greatest_own_put r past < b) × (b % 8 ≡ r)
fresh_by r by p b past may h = fresh r p b past (subst (λ x. MayPutMin x (part x past) p b) (eqb-true by r h) may)

step_ask : (r b n by p : ℕ) (a : Answer) (past : List Event) → Stands r b n past → (t : Bool) → is_first_ask r by (Verb.Ask p) ≡ t → Stands r b n (record { by = by; verb = Verb.Ask p; answer = a } ∷ past)
step_ask r b n by p a past s true h = record { put = s.put; own = s.own; case = rw h (inr (omega arith, λ m e. cc)) }
step_ask r b n by p a past s false h = record { put = s.put; own = s.own; case = rw h s.case }

put_case : (L n b b' : ℕ) (o : Option ℕ) → (o ≡ None → b < b') → ((L ≡ n) × (o ≡ Some b)) ⊎ ((n < L) × ((m : ℕ) → o ≡ Some m → b < m))
    → ((L ≡ n) × (earlier_or (Some b') o ≡ Some b)) ⊎ ((n < L) × ((m : ℕ) → earlier_or (Some b') o ≡ Some m → b < m))
put_case L n b b' None f (inl h) = cc
put_case L n b b' None f (inr h) = inr (h.0, λ m e. subst (λ x. b < x) (same_some b' m e) (f refl))
put_case L n b b' (Some x) f h = h

step_put : (r b n by p b' : ℕ) (a : Answer) (past : List Event) → ((by == r) ≡ true → proposal_number r past ≡ None → (greatest_own_put r past < b') × (b' % 8 ≡ r)) → Stands r b n past → (t : Bool) → (by == r) ≡ t → Stands r b n (record { by = by; verb = Verb.PutMin p b'; answer = a } ∷ past)
step_put r b n by p b' a past new s true h = record { put = rw h (omega arith); own = s.own; case = rw h (put_case (leaderships r past) n b b' (proposal_number r past) (λ e. omega (arith, (new h e).0)) s.case) }
step_put r b n by p b' a past new s false h = record { put = rw h s.put; own = s.own; case = rw h s.case }

step : (c : Config) (r b n by : ℕ) (v : Verb) (a : Answer) (past : List Event) → Needs c by (part by past) v → Stands r b n past → Stands r b n (record { by = by; verb = v; answer = a } ∷ past)
step c r b n by (Verb.Ask p) a past may s = step_ask r b n by p a past s (is_first_ask r by (Verb.Ask p)) refl
step c r b n by (Verb.PutMin p b') a past may s = step_put r b n by p b' a past (fresh_by r by p b' past (min_facts c by (part by past) p b' may)) s (by == r) refl
step c r b n by v a past may s = record { put = s.put; own = s.own; case = s.case }

number_ask : (r by p : ℕ) (a : Answer) (past : List Event) → Numbered r past → (t : Bool) → is_first_ask r by (Verb.Ask p) ≡ t → Numbered r (record { by = by; verb = Verb.Ask p; answer = a } ∷ past)
number_ask r by p a past s true h = record { put = rw h (λ m e. cc); own = rw h (λ m e. cc) }
number_ask r by p a past s false h = record { put = rw h s.put; own = rw h s.own }

number_case : (r b : ℕ) (o : Option ℕ) → (o ≡ None → b % 8 ≡ r) → ((m : ℕ) → o ≡ Some m → m % 8 ≡ r) → (m : ℕ) → earlier_or (Some b) o ≡ Some m → m % 8 ≡ r
number_case r b None f g m e = subst (λ x. x % 8 ≡ r) (same_some b m e) (f refl)
number_case r b (Some x) f g m e = g m e

top_case : (t b : ℕ) (o : Option ℕ) → ((m : ℕ) → o ≡ Some m → m ≤ t) → (m : ℕ) → earlier_or (Some b) o ≡ Some m → m ≤ max b t
top_case t b None g m e = let k : b ≡ m = same_some b m e in omega arith
top_case t b (Some x) g m e = let k : m ≤ t = g m e in omega arith

number_step_put : (r by p b : ℕ) (a : Answer) (past : List Event) → ((by == r) ≡ true → proposal_number r past ≡ None → (greatest_own_put r past < b) × (b % 8 ≡ r)) → Numbered r past → (t : Bool) → (by == r) ≡ t → Numbered r (record { by = by; verb = Verb.PutMin p b; answer = a } ∷ past)
number_step_put r by p b a past new s true h = record { put = rw h (top_case (greatest_own_put r past) b (proposal_number r past) s.put); own = rw h (number_case r b (proposal_number r past) (λ e. (new h e).1) s.own) }
number_step_put r by p b a past new s false h = record { put = rw h s.put; own = rw h s.own }

number_step : (c : Config) (r by : ℕ) (v : Verb) (a : Answer) (past : List Event) → Needs c by (part by past) v → Numbered r past → Numbered r (record { by = by; verb = v; answer = a } ∷ past)
number_step c r by (Verb.Ask p) a past may s = number_ask r by p a past s (is_first_ask r by (Verb.Ask p)) refl
number_step c r by (Verb.PutMin p b) a past may s = number_step_put r by p b a past (fresh_by r by p b past (min_facts c by (part by past) p b may)) s (by == r) refl
number_step c r by v a past may s = record { put = s.put; own = s.own }

pub numbered : (c : Config) (r : ℕ) (past : List Event) → IsLegalHistory c past → Numbered r past
numbered c r [] h = record { put = λ m e. cc; own = λ m e. cc }
numbered c r (e ∷ past) h = number_step c r e.by e.verb e.answer past h.1.allowed.may (numbered c r past h.0)

stands : (c : Config) (r b : ℕ) (newer older : List Event) → IsLegalHistory c (newer ++ older) → proposal_number r older ≡ Some b → Stands r b (leaderships r older) (newer ++ older)
stands c r b [] older h e = let k = numbered c r older h in record { put = k.put b e; own = k.own b e; case = inl (refl, e) }
stands c r b (x ∷ newer) older h e = step c r b (leaderships r older) x.by x.verb x.answer (newer ++ older) h.1.allowed.may (stands c r b newer older h.0 e)

same_leadership : (L n b : ℕ) (o : Option ℕ) → o ≡ Some b → ((L ≡ n) × (o ≡ Some b)) ⊎ ((n < L) × ((m : ℕ) → o ≡ Some m → b < m)) → L ≡ n
same_leadership L n b o e (inl h) = h.0
same_leadership L n b o e (inr h) = absurd (let k : b < b = h.1 b e in omega arith)

pub one_leadership : (c : Config) (r s b : ℕ) (newer older : List Event) → IsLegalHistory c (newer ++ older) → proposal_number r older ≡ Some b → proposal_number s (newer ++ older) ≡ Some b
    → (r ≡ s) × (leaderships r (newer ++ older) ≡ leaderships r older)
one_leadership c r s b newer older h e k =
    let st = stands c r b newer older h e in
    let is : r ≡ s = sym st.own ∙ (numbered c s (newer ++ older) h).own b k in
    (is, same_leadership (leaderships r (newer ++ older)) (leaderships r older) b (proposal_number r (newer ++ older)) (rw is k) st.case)

along : (c : Config) (r s b : ℕ) (newer older all : List Event) → all ≡ newer ++ older → IsLegalHistory c all → proposal_number r older ≡ Some b → proposal_number s all ≡ Some b
    → (r ≡ s) × (leaderships r all ≡ leaderships r older)
along c r s b newer older all e = rw e (one_leadership c r s b newer older)

pub numbers_differ_law : NumbersDiffer
numbers_differ_law c earlier later r s b = along c r s b (reverse later) (reverse earlier) (reverse (earlier ++ later)) (reverse-append earlier later)
