-- What a step of a leader that leads on does to its number, its members and what it knows.
use Rattle.std.proofs.Common.{◌≡◌, ℕ, ◌≤◌, ◌==◌, ◌&&◌, ◌||◌, not, Bool, true, false, cond, Some, None, List, [], ◌∷◌, ◌++◌, length, refl, sym, ◌∙◌, ap, arith, subst, eqb-true, true≢false, is_some}
use Rattle.std.specs.declared.option.Option.{Option}
use Rattle.std.specs.Prelude.{if◌then◌else◌, nat_le, nat_lt}
use Rattle.std.proofs.lemmas.Bool.{and_from, and_parts, eq-eqb, le-leb, leb-true, ltb-false}
use Rattle.std.proofs.lemmas.List.{length-append}
use Rattle.mu_model.specs.declared.config.Config.{Config}
use Rattle.mu_model.specs.declared.event.Answer.{Answer}
use Rattle.mu_model.specs.declared.event.Event.{Event}
use Rattle.mu_model.specs.declared.event.Verb.{Verb}
use Rattle.mu_model.specs.Bounds.{is_learning, stays}
use Rattle.mu_model.specs.Histories.{earlier_or, greatest, max_with, newer_or, oldest, event_by}
use Rattle.mu_model.specs.Knowledge.{commits, grown, is_accepted_by_all, known}
use Rattle.mu_model.specs.Leaderships.{begins_leadership, grant_at_joining, is_member, is_over, lands_min, leadership, noted_grant, number_put, proposal_number}
use Rattle.mu_model.specs.Parts.{IsPossible}
use Rattle.mu_model.specs.Picks.{is_joining}
use Rattle.mu_model.specs.Placing.{fuo_read_or_raised}
use Rattle.mu_model.specs.Steps.{commits_more, has_min, is_named, is_over_after}
use Rattle.mu_agree.proofs.Possible.{parts_shorten_law}
use Rattle.mu_agree.specs.Moments.{AtEachMoment, AtEachStep}
use Rattle.mu_pace.specs.Watches.{is_brought_up, is_raise_to_verb}
use Rattle.mu_pace.proofs.Counting.{last_moment}
use Rattle.mu_pace.proofs.Growing.{stays_less}
use Rattle.mu_pace.proofs.Pasts.{min_on}

-- a member has its number
pub numbered_on : (a : ℕ) (e : Event) (past : List Event) → begins_leadership a e ≡ false → is_some (proposal_number a past) ≡ true → is_some (proposal_number a (e ∷ past)) ≡ true
numbered_on a e past same some = ap (λ t. is_some (oldest (λ f. number_put a f.by f.verb) (cond t [] (e ∷ leadership a past)))) same ∙ go (number_put a e.by e.verb) (proposal_number a past) some
  where
    go : (o n : Option ℕ) → is_some n ≡ true → is_some (earlier_or o n) ≡ true
    go None (Some x) s = refl
    go (Some y) (Some x) s = refl
    go None None s = absurd (true≢false (sym s))
    go (Some y) None s = absurd (true≢false (sym s))

pub numbered_stays : (a : ℕ) (window base : List Event) → stays a window ≡ true → is_some (proposal_number a base) ≡ true → is_some (proposal_number a (window ++ base)) ≡ true
numbered_stays a [] base same some = some
numbered_stays a (e ∷ window) base same some = let less = stays_less a e window same in numbered_on a e (window ++ base) less.0 (numbered_stays a window base less.1 some)

pub min_stays : (a : ℕ) (window base : List Event) → stays a window ≡ true → has_min a base ≡ true → has_min a (window ++ base) ≡ true
min_stays a [] base same some = some
min_stays a (e ∷ window) base same some = let less = stays_less a e window same in min_on a e (window ++ base) less.0 (min_stays a window base less.1 some)

lands_number : (a p by : ℕ) (verb : Verb) (answer : Answer) (n : Option ℕ) → lands_min a p by verb answer ≡ true → is_some (earlier_or (number_put a by verb) n) ≡ true
lands_number a p by (Verb.PutMin q b) Answer.Done n lands = go (by == a) (and_parts (by == a) (q == p) lands).0 n
  where
    go : (t : Bool) → t ≡ true → (n : Option ℕ) → is_some (earlier_or (cond t (Some b) None) n) ≡ true
    go true is None = refl
    go true is (Some x) = refl
    go false is n = absurd (true≢false (sym is))
lands_number a p by verb answer n lands = absurd (true≢false (sym lands))

pub member_numbered : (a p : ℕ) (past : List Event) → is_member a p past ≡ true → is_some (proposal_number a past) ≡ true
member_numbered a p [] member = absurd (true≢false (sym member))
member_numbered a p (e ∷ past) member = go (begins_leadership a e) refl (lands_min a p e.by e.verb e.answer) refl member (member_numbered a p past)
  where
    go : (b : Bool) → begins_leadership a e ≡ b → (t : Bool) → lands_min a p e.by e.verb e.answer ≡ t → is_some (if b then None else if t then newer_or (grant_at_joining a p past) (Some (noted_grant a p past)) else grant_at_joining a p past) ≡ true
        → (is_member a p past ≡ true → is_some (proposal_number a past) ≡ true) → is_some (proposal_number a (e ∷ past)) ≡ true
    go true begins t lands member ih = absurd (true≢false (sym member))
    go false same true lands member ih = ap (λ t. is_some (oldest (λ f. number_put a f.by f.verb) (cond t [] (e ∷ leadership a past)))) same ∙ lands_number a p e.by e.verb e.answer (proposal_number a past) lands
    go false same false lands member ih = numbered_on a e past same (ih member)

-- the put by which a region becomes one
pub joins_here : (a p by : ℕ) (verb : Verb) (answer : Answer) (past : List Event) → lands_min a p by verb answer ≡ true → is_member a p past ≡ false → is_joining a past by verb answer ≡ true
joins_here a p by (Verb.PutMin q b) Answer.Done past lands none =
    let both = and_parts (by == a) (q == p) lands in
    and_from (by == a) (not (is_member a q past)) both.0 (ap not (subst (λ x. is_member a x past ≡ false) (sym (eqb-true q p both.1)) none))
joins_here a p by verb answer past lands none = absurd (true≢false (sym lands))

-- what is known grows only by commits and by looks
pub same_known : (c : Config) (a by : ℕ) (verb : Verb) (answer : Answer) (past : List Event) → commits_more c a past (event_by by verb answer) ≡ false → is_learning c a past (event_by by verb answer) ≡ false → length (known c a (event_by by verb answer ∷ past)) ≤ length (known c a past)
same_known c a by (Verb.PutSlot p i b v) Answer.Done past none learns = go ((by == a) && ((i == length (known c a past)) && is_accepted_by_all c a (event_by by (Verb.PutSlot p i b v) Answer.Done ∷ past) i b v)) none
  where
    go : (t : Bool) → nat_lt (length (commits c a past)) (length (grown (commits c a past) (if t then Some (i, v) else None))) ≡ false → length (grown (known c a past) (if t then Some v else None)) ≤ length (known c a past)
    go true none = absurd (let long = length-append (commits c a past) ((i, v) ∷ []) in let few = ltb-false (length (commits c a past)) (length (commits c a past ++ (i, v) ∷ [])) none in omega (arith, long, few))
    go false none = omega arith
same_known c a by (Verb.Look p i) answer past none learns = ltb-false (length (known c a past)) (length (known c a (event_by by (Verb.Look p i) answer ∷ past))) learns
same_known c a by verb answer past none learns = omega arith

-- a raise to all that is known
pub raises_brought : (c : Config) (a p by : ℕ) (verb : Verb) (answer : Answer) (past : List Event) → by ≡ a → is_raise_to_verb p (length (known c a past)) verb ≡ true → is_brought_up c a p (event_by by verb answer ∷ past) ≡ true
raises_brought c a p by (Verb.RaiseFuo q x) answer past own is =
    let both = and_parts (q == p) (nat_le (length (known c a past)) x) is in
    go ((by == a) && (q == p)) (and_from (by == a) (q == p) (eq-eqb by a own) both.0) (leb-true (length (known c a past)) x both.1)
  where
    go : (t : Bool) → t ≡ true → length (known c a past) ≤ x → nat_le (length (known c a past)) (max_with (cond t (Some x) None) (greatest (λ e. fuo_read_or_raised a p e.by e.verb e.answer) (leadership a past))) ≡ true
    go true is low = le-leb (length (known c a past)) (max_with (Some x) (greatest (λ e. fuo_read_or_raised a p e.by e.verb e.answer) (leadership a past))) (omega (arith, low))
    go false is low = absurd (true≢false (sym is))
raises_brought c a p by verb answer past own is = absurd (true≢false (sym is))

-- what holds of each event of a leader that leads on
pub record Steady (c : Config) (a : ℕ) (past : List Event) (e : Event) : Type 0 where
  pub own : e.by ≡ a
  pub on : is_over_after a past e ≡ false
  pub named : is_some (proposal_number a past) ≡ true → is_named c a past ≡ true

pub steady_steps : (c : Config) (a : ℕ) (mine : List Event) → IsPossible c a mine → AtEachMoment (λ now. is_over a now ≡ false) mine → AtEachMoment (λ now. is_some (proposal_number a now) ≡ true → is_named c a now ≡ true) mine → AtEachStep (Steady c a) mine
steady_steps c a [] possible on named = tt
steady_steps c a (e ∷ mine) possible on named =
    let came = parts_shorten_law c a mine e possible in (
      steady_steps c a mine came.before on.0 named.0,
      record { own = came.by_own; on = on.1; named = last_moment (λ now. is_some (proposal_number a now) ≡ true → is_named c a now ≡ true) mine named.0 },
    )

-- a step of it is away by no more than what is waited for
pub not_away : (b t n m : Bool) → b ≡ false → n ≡ true → m ≡ false → (b || (t && (not n || m))) ≡ false
not_away b t n m hb hn hm = rw (hb, hn, hm) (go t)
  where
    go : (t : Bool) → (t && false) ≡ false
    go true = refl
    go false = refl

pub away_by : (b t n m : Bool) → b ≡ false → n ≡ true → (b || (t && (not n || m))) ≡ true → (t ≡ true) × (m ≡ true)
away_by false t true m hb hn is = and_parts t m is
away_by true t n m hb hn is = absurd (true≢false hb)
away_by false t false m hb hn is = absurd (true≢false (sym hn))
