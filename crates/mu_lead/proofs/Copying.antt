-- What a leader read of a region and put there: if its FUO was read, and nothing was put beyond
-- what it has, an entry is brought to it for the first time.
use Rattle.std.proofs.Common.{Bool, List, None, Some, [], ap, arith, cond, eq-eqb, eqb-true, false, get_or, inl, inr, refl, subst, sym, true, true≢false, ℕ, ◌&&◌, ◌+◌, ◌==◌, ◌∙◌, ◌∷◌, ◌≡◌, ◌≢◌, ◌≤◌}
use Rattle.std.specs.Prelude.{min, nat_le, not}
use Rattle.std.specs.List.{slice_get}
use Rattle.std.specs.declared.option.Option.{Option}
use Rattle.std.proofs.lemmas.Bool.{cases_lt, le-leb, leb-true}
use Rattle.mu_model.specs.declared.config.Config.{Config}
use Rattle.mu_model.specs.declared.event.Answer.{Answer}
use Rattle.mu_model.specs.declared.event.Event.{Event}
use Rattle.mu_model.specs.declared.event.Verb.{Verb}
use Rattle.mu_model.specs.Allowed.{Needs}
use Rattle.mu_model.specs.Bounds.{first_fuo, is_at_most, is_copy_of_verb, was_copied}
use Rattle.mu_model.specs.Entering.{grant_seen}
use Rattle.mu_model.specs.Histories.{earlier_or, greatest, has, max_with, newer_or, newest, oldest, event_by}
use Rattle.mu_model.specs.Knowledge.{fuo_read, is_value, known}
use Rattle.mu_model.specs.Leaderships.{begins_leadership, fence_seen, grant_for, is_member, leadership, noted_grant, owner_is}
use Rattle.mu_model.specs.Parts.{IsPossible}
use Rattle.mu_model.specs.Picks.{first_value, value_put}
use Rattle.mu_model.specs.Placing.{fuo_read_or_raised}
use Rattle.mu_model.proofs.Basics.{none_some, same_number, same_some}
use Rattle.mu_agree.specs.Agreement.{end_put, fuo_under, kept_if, lesser_or, put_end}
use Rattle.mu_agree.proofs.Landings.{greatest_since}
use Rattle.mu_agree.proofs.Possible.{parts_shorten_law}
use Rattle.mu_agree.proofs.FuosRead.{fuos_rise}
use Rattle.mu_agree.proofs.Members.{member_on}
use Rattle.mu_lead.specs.Leading.{HasPutNone, IsClear, IsRead, is_put_at}
use Rattle.mu_lead.proofs.Keeping.{fuo_event}

-- the fence of a noted grant was seen
pub seen_noted : (r p g : ℕ) (past : List Event) → grant_for r (newest (λ e. fence_seen r p e.by e.verb e.answer) past) ≡ Some g → has (λ e. grant_seen r p g e.by e.verb e.answer) past ≡ true
seen_noted r p g [] is = absurd (none_some g is)
seen_noted r p g (e ∷ past) is = go e.by e.verb e.answer is (seen_noted r p g past)
  where
    grant_is : (t : Bool) (n : ℕ) → cond t (Some n) None ≡ Some g → (n == g) ≡ true
    grant_is true n is = eq-eqb n g (same_some n g is)
    grant_is false n is = absurd (none_some g is)

    go : (by : ℕ) (v : Verb) (a : Answer) → grant_for r (newer_or (fence_seen r p by v a) (newest (λ f. fence_seen r p f.by f.verb f.answer) past)) ≡ Some g
        → (grant_for r (newest (λ f. fence_seen r p f.by f.verb f.answer) past) ≡ Some g → has (λ f. grant_seen r p g f.by f.verb f.answer) past ≡ true)
        → cond (grant_seen r p g by v a) true (has (λ f. grant_seen r p g f.by f.verb f.answer) past) ≡ true
    go by (Verb.Fence q) (Answer.Seen f) is before = at_p (by == r) (q == p) is
      where
        at_p : (s t : Bool) → grant_for r (newer_or (cond (s && t) (Some f) None) (newest (λ h. fence_seen r p h.by h.verb h.answer) past)) ≡ Some g
            → cond (s && (t && (f.grant == g))) true (has (λ h. grant_seen r p g h.by h.verb h.answer) past) ≡ true
        at_p true true is = rw (grant_is (not f.closing && owner_is r f.owner) f.grant is) refl
        at_p true false is = before is
        at_p false t is = before is
    go by v a is before = before is

-- at most u is at most what is no less
at_most_more : (u w : ℕ) (o : Option ℕ) → u ≤ w → is_at_most u o ≡ true → is_at_most w o ≡ true
at_most_more u w None low is = absurd (true≢false (sym is))
at_most_more u w (Some x) low is = le-leb x w (let less = leb-true x u is in omega (arith, low, less))

pub read_less : (r p u w : ℕ) (mine : List Event) → u ≤ w → IsRead r mine p u → IsRead r mine p w
read_less r p u w mine low read g noted = at_most_more u w (fuo_under r p g (leadership r mine)) low (read g noted)

-- the lesser of two is at most what one of them is
lesser_first : (w u : ℕ) (rest : Option ℕ) → u ≤ w → is_at_most w (lesser_or (Some u) rest) ≡ true
lesser_first w u None low = le-leb u w low
lesser_first w u (Some y) low = le-leb (min u y) w (omega (arith, low))

lesser_rest : (w : ℕ) (o rest : Option ℕ) → is_at_most w rest ≡ true → is_at_most w (lesser_or o rest) ≡ true
lesser_rest w None rest is = is
lesser_rest w (Some x) None is = absurd (true≢false (sym is))
lesser_rest w (Some x) (Some y) is = le-leb (min x y) w (let low = leb-true y w is in omega (arith, low))

-- the FUO was just read
pub fuo_read_now : (r p u w : ℕ) (mine : List Event) → u ≤ w → IsRead r (fuo_event r p u ∷ mine) p w
fuo_read_now r p u w mine low g noted = go (r == r) (p == p) (has (λ e. grant_seen r p g e.by e.verb e.answer) (leadership r mine)) (fuo_under r p g (leadership r mine)) (same_number r) (same_number p) (seen_noted r p g (leadership r mine) noted)
  where
    go : (s t k : Bool) (rest : Option ℕ) → s ≡ true → t ≡ true → k ≡ true → is_at_most w (lesser_or (kept_if k (cond (s && t) (Some u) None)) rest) ≡ true
    go s t k rest a b d = rw (a, b, d) (lesser_first w u rest low)

-- what was read of a region stays, whatever FUO is read then
pub read_on : (r p q w : ℕ) (answer : Answer) (mine : List Event) → IsRead r mine q w → IsRead r (event_by r (Verb.Fuo p) answer ∷ mine) q w
read_on r p q w answer mine read g noted = lesser_rest w (kept_if (has (λ e. grant_seen r q g e.by e.verb e.answer) (leadership r mine)) (fuo_read r q r (Verb.Fuo p) answer)) (fuo_under r q g (leadership r mine)) (read g noted)

pub fuo_read_on : (r p q u w : ℕ) (mine : List Event) → IsRead r mine q w → IsRead r (fuo_event r p u ∷ mine) q w
fuo_read_on r p q u w mine read = read_on r p q w (Answer.Number u) mine read

-- which FUO was read
fuo_is : (r p x by : ℕ) (v : Verb) (a : Answer) → fuo_read r p by v a ≡ Some x → (v ≡ Verb.Fuo p) × (a ≡ Answer.Number x)
fuo_is r p x by (Verb.Fuo q) (Answer.Number y) is = at_p (by == r) (q == p) refl is
  where
    at_p : (s t : Bool) → (q == p) ≡ t → cond (s && t) (Some y) None ≡ Some x → (Verb.Fuo q ≡ Verb.Fuo p) × (Answer.Number y ≡ Answer.Number x)
    at_p true true same is = (ap (λ z. Verb.Fuo z) (eqb-true q p same), ap (λ z. Answer.Number z) (same_some y x is))
    at_p true false same is = absurd (none_some x is)
    at_p false t same is = absurd (none_some x is)
fuo_is r p x by v a is = absurd (none_some x is)

-- the first FUO that was read is at most the greatest that was read or raised
first_low : (r p y : ℕ) (past : List Event) → oldest (λ e. fuo_read r p e.by e.verb e.answer) past ≡ Some y → y ≤ greatest (λ e. fuo_read_or_raised r p e.by e.verb e.answer) past
first_low r p y [] is = absurd (none_some y is)
first_low r p y (e ∷ past) is = go e.by e.verb e.answer (oldest (λ f. fuo_read r p f.by f.verb f.answer) past) (greatest (λ f. fuo_read_or_raised r p f.by f.verb f.answer) past) (first_low r p y past) is
  where
    either_low : (o rest : Option ℕ) (n : ℕ) → (rest ≡ Some y → y ≤ n) → earlier_or o rest ≡ Some y → y ≤ max_with o n
    either_low None rest n before is = before is
    either_low (Some x) None n before is = (let same = same_some x y is in omega (arith, same))
    either_low (Some x) (Some z) n before is = (let low = before is in omega (arith, low))

    more_low : (o : Option ℕ) (n : ℕ) → y ≤ n → y ≤ max_with o n
    more_low None n low = low
    more_low (Some x) n low = omega (arith, low)

    go : (by : ℕ) (v : Verb) (a : Answer) (rest : Option ℕ) (n : ℕ) → (rest ≡ Some y → y ≤ n) → earlier_or (fuo_read r p by v a) rest ≡ Some y → y ≤ max_with (fuo_read_or_raised r p by v a) n
    go by (Verb.Fuo q) (Answer.Number x) rest n before is = either_low (cond ((by == r) && (q == p)) (Some x) None) rest n before is
    go by v a rest n before is = more_low (fuo_read_or_raised r p by v a) n (before is)

-- if one that was read under a grant is at most u the first one is
first_at_most : (c : Config) (r p g u : ℕ) (mine : List Event) → IsPossible c r mine → is_at_most u (fuo_under r p g (leadership r mine)) ≡ true → is_at_most u (first_fuo r p mine) ≡ true
first_at_most c r p g u [] possible is = absurd (true≢false (sym is))
first_at_most c r p g u (e ∷ mine) possible is = go (begins_leadership r e) is (first_at_most c r p g u mine (parts_shorten_law c r mine e possible).before)
  where
    earlier_low : (x : ℕ) (rest : Option ℕ) → ((y : ℕ) → rest ≡ Some y → y ≤ u) → nat_le x u ≡ true → is_at_most u (earlier_or (Some x) rest) ≡ true
    earlier_low x None lows is = is
    earlier_low x (Some y) lows is = le-leb y u (lows y refl)

    earlier_on : (x : ℕ) (rest : Option ℕ) → is_at_most u rest ≡ true → is_at_most u (earlier_or (Some x) rest) ≡ true
    earlier_on x None is = absurd (true≢false (sym is))
    earlier_on x (Some y) is = is

    rises : (x : ℕ) → fuo_read r p e.by e.verb e.answer ≡ Some x → x ≤ u → (y : ℕ) → first_fuo r p mine ≡ Some y → y ≤ u
    rises x at low y first =
        let read = fuo_is r p x e.by e.verb e.answer at in
        let rise = fuos_rise c r p x mine e possible read.0 read.1 in
        let below = first_low r p y (leadership r mine) first in
        let all = greatest_since (λ f. fuo_read_or_raised r p f.by f.verb f.answer) (begins_leadership r) mine in omega (arith, low, rise, below, all)

    either : (x : ℕ) (rest : Option ℕ) → fuo_read r p e.by e.verb e.answer ≡ Some x → is_at_most u (lesser_or (Some x) rest) ≡ true → (is_at_most u rest ≡ true → is_at_most u (first_fuo r p mine) ≡ true)
        → is_at_most u (earlier_or (Some x) (first_fuo r p mine)) ≡ true
    either x None at is before = earlier_low x (first_fuo r p mine) (rises x at (leb-true x u is)) is
    either x (Some y) at is before = elim (cases_lt u x) [
      | inl above ↦ earlier_on x (first_fuo r p mine) (before (le-leb y u (let low = leb-true (min x y) u is in omega (arith, low, above))))
      | inr below ↦ earlier_low x (first_fuo r p mine) (rises x at below) (le-leb x u below)
    ]

    by_read : (o : Option ℕ) (k : Bool) → fuo_read r p e.by e.verb e.answer ≡ o → is_at_most u (lesser_or (kept_if k o) (fuo_under r p g (leadership r mine))) ≡ true
        → (is_at_most u (fuo_under r p g (leadership r mine)) ≡ true → is_at_most u (first_fuo r p mine) ≡ true) → is_at_most u (earlier_or o (first_fuo r p mine)) ≡ true
    by_read None k at is before = before is
    by_read (Some x) true at is before = either x (fuo_under r p g (leadership r mine)) at is before
    by_read (Some x) false at is before = earlier_on x (first_fuo r p mine) (before is)

    go : (t : Bool) → is_at_most u (fuo_under r p g (cond t [] (e ∷ leadership r mine))) ≡ true → (is_at_most u (fuo_under r p g (leadership r mine)) ≡ true → is_at_most u (first_fuo r p mine) ≡ true)
        → is_at_most u (oldest (λ f. fuo_read r p f.by f.verb f.answer) (cond t [] (e ∷ leadership r mine))) ≡ true
    go true is before = absurd (true≢false (sym is))
    go false is before = by_read (fuo_read r p e.by e.verb e.answer) (has (λ f. grant_seen r p g f.by f.verb f.answer) (leadership r mine)) refl is before

-- so it is if the FUO was read under the noted grant
pub first_read : (c : Config) (r p g u : ℕ) (mine : List Event) → IsPossible c r mine → noted_grant r p mine ≡ Some g → IsRead r mine p u → is_at_most u (first_fuo r p mine) ≡ true
first_read c r p g u mine possible noted read = first_at_most c r p g u mine possible (read g noted)

-- what was never put was never copied
pub uncopied : (c : Config) (r p j : ℕ) (mine : List Event) → IsPossible c r mine → has (λ e. is_put_at r p j e.by e.verb) (leadership r mine) ≡ false → was_copied c r p j mine ≡ false
uncopied c r p j [] possible none = refl
uncopied c r p j (e ∷ mine) possible none =
    let came = parts_shorten_law c r mine e possible in
    go (begins_leadership r e) came.by_own none (uncopied c r p j mine came.before)
  where
    by_tests : (s t k x : Bool) → s ≡ true → cond (s && (t && k)) true (has (λ f. is_put_at r p j f.by f.verb) (leadership r mine)) ≡ false
        → (has (λ f. is_put_at r p j f.by f.verb) (leadership r mine) ≡ false → was_copied c r p j mine ≡ false) → cond (t && (k && x)) true (was_copied c r p j mine) ≡ false
    by_tests true true true x own none before = absurd (true≢false none)
    by_tests true true false x own none before = before none
    by_tests true false k x own none before = before none
    by_tests false t k x own none before = absurd (true≢false (sym own))

    step : (by : ℕ) (v : Verb) → by ≡ r → cond (is_put_at r p j by v) true (has (λ f. is_put_at r p j f.by f.verb) (leadership r mine)) ≡ false
        → (has (λ f. is_put_at r p j f.by f.verb) (leadership r mine) ≡ false → was_copied c r p j mine ≡ false) → cond (is_copy_of_verb c r p j mine v) true (was_copied c r p j mine) ≡ false
    step by (Verb.PutSlot q i b v) own none before = by_tests (by == r) (q == p) (i == j) (is_value (slice_get (known c r mine) j) v) (eq-eqb by r own) none before
    step by v own none before = before none

    go : (t : Bool) → e.by ≡ r → has (λ f. is_put_at r p j f.by f.verb) (cond t [] (e ∷ leadership r mine)) ≡ false
        → (has (λ f. is_put_at r p j f.by f.verb) (leadership r mine) ≡ false → was_copied c r p j mine ≡ false)
        → cond t false (cond (is_copy_of_verb c r p j mine e.verb) true (was_copied c r p j mine)) ≡ false
    go true own none before = refl
    go false own none before = step e.by e.verb own none before

none_first : (t rest : Bool) → cond t true rest ≡ false → rest ≡ false
none_first true rest none = absurd (true≢false none)
none_first false rest none = none

-- if nothing was put from u on the puts end at u
pub puts_low : (r p u : ℕ) (past : List Event) → ((j : ℕ) → u ≤ j → has (λ e. is_put_at r p j e.by e.verb) past ≡ false) → put_end r p past ≤ u
puts_low r p u [] none = omega arith
puts_low r p u (e ∷ past) none = go e.by e.verb e.answer none (puts_low r p u past (λ j high. none_first (is_put_at r p j e.by e.verb) (has (λ f. is_put_at r p j f.by f.verb) past) (none j high)))
  where
    go : (by : ℕ) (v : Verb) (a : Answer) → ((j : ℕ) → u ≤ j → cond (is_put_at r p j by v) true (has (λ f. is_put_at r p j f.by f.verb) past) ≡ false) → put_end r p past ≤ u → max_with (end_put r p by v a) (put_end r p past) ≤ u
    go by (Verb.PutSlot q i b v) Answer.Done none low = at_p (by == r) (q == p) (none i)
      where
        at_p : (s t : Bool) → (u ≤ i → cond (s && (t && (i == i))) true (has (λ f. is_put_at r p i f.by f.verb) past) ≡ false) → max_with (cond (s && t) (Some (i + 1)) None) (put_end r p past) ≤ u
        at_p true true here = elim (cases_lt i u) [
          | inl less ↦ omega (arith, less, low)
          | inr more ↦ absurd (true≢false (sym (ap (λ k. cond k true (has (λ f. is_put_at r p i f.by f.verb) past)) (same_number i)) ∙ here more))
        ]
        at_p true false here = low
        at_p false t here = low
    go by v a none low = low

-- nothing was put if no value was
pub none_put : (r p j : ℕ) (past : List Event) → oldest (λ e. value_put r j e.by e.verb) past ≡ None → has (λ e. is_put_at r p j e.by e.verb) past ≡ false
none_put r p j [] none = refl
none_put r p j (e ∷ past) none = go e.by e.verb none (none_put r p j past)
  where
    some_earlier : (x : ℕ) (rest : Option ℕ) → earlier_or (Some x) rest ≡ None → ⊥
    some_earlier x None is = none_some x (sym is)
    some_earlier x (Some y) is = none_some y (sym is)

    go : (by : ℕ) (v : Verb) → earlier_or (value_put r j by v) (oldest (λ f. value_put r j f.by f.verb) past) ≡ None
        → (oldest (λ f. value_put r j f.by f.verb) past ≡ None → has (λ f. is_put_at r p j f.by f.verb) past ≡ false) → cond (is_put_at r p j by v) true (has (λ f. is_put_at r p j f.by f.verb) past) ≡ false
    go by (Verb.PutSlot q i b v) none before = at_p (by == r) (q == p) (i == j) none
      where
        at_p : (s t k : Bool) → earlier_or (cond (s && k) (Some v) None) (oldest (λ f. value_put r j f.by f.verb) past) ≡ None → cond (s && (t && k)) true (has (λ f. is_put_at r p j f.by f.verb) past) ≡ false
        at_p true t true none = absurd (some_earlier v (oldest (λ f. value_put r j f.by f.verb) past) none)
        at_p true true false none = before none
        at_p true false false none = before none
        at_p false t k none = before none
    go by v none before = before none

pub clear_all : (r : ℕ) (mine : List Event) (up : List ℕ) → HasPutNone r mine → IsClear r mine up
clear_all r mine up unput q j member low = none_put r q j (leadership r mine) (unput j)

-- if every member has all below n, and nothing was put from n on
pub clear_above : (r n : ℕ) (mine : List Event) (up : List ℕ) → ((j : ℕ) → n ≤ j → first_value r j mine ≡ None) → ((q : ℕ) → is_member r q mine ≡ true → n ≤ get_or up q 0) → IsClear r mine up
clear_above r n mine up unput have q j member low = none_put r q j (leadership r mine) (unput j (let all = have q member in omega (arith, all, low)))

-- nothing was put at a region that is no member
pub stranger_clear : (c : Config) (r p j : ℕ) (mine : List Event) → IsPossible c r mine → is_member r p mine ≡ false → has (λ e. is_put_at r p j e.by e.verb) (leadership r mine) ≡ false
stranger_clear c r p j [] possible stranger = refl
stranger_clear c r p j (e ∷ mine) possible stranger =
    let came = parts_shorten_law c r mine e possible in
    go (begins_leadership r e) refl came.allowed.may (stranger_clear c r p j mine came.before)
  where
    was : begins_leadership r e ≡ false → (t : Bool) → is_member r p mine ≡ t → is_member r p mine ≡ false
    was on true is = absurd (true≢false (sym (member_on r p e mine on is) ∙ stranger))
    was on false is = is

    step : (by : ℕ) (v : Verb) → Needs c r mine v → is_member r p mine ≡ false → (is_member r p mine ≡ false → has (λ f. is_put_at r p j f.by f.verb) (leadership r mine) ≡ false)
        → cond (is_put_at r p j by v) true (has (λ f. is_put_at r p j f.by f.verb) (leadership r mine)) ≡ false
    step by (Verb.PutSlot q i b v) may out before = at_p (by == r) (q == p) (i == j) refl
      where
        at_p : (s t k : Bool) → (q == p) ≡ t → cond (s && (t && k)) true (has (λ f. is_put_at r p j f.by f.verb) (leadership r mine)) ≡ false
        at_p true true k same = absurd (true≢false (sym (subst (λ x. is_member r x mine ≡ true) (eqb-true q p same) may.1.1.1.1.1.0) ∙ out))
        at_p true false k same = before out
        at_p false t k same = before out
    step by v may out before = before out

    go : (t : Bool) → begins_leadership r e ≡ t → Needs c r mine e.verb → (is_member r p mine ≡ false → has (λ f. is_put_at r p j f.by f.verb) (leadership r mine) ≡ false)
        → has (λ f. is_put_at r p j f.by f.verb) (cond t [] (e ∷ leadership r mine)) ≡ false
    go true on may before = refl
    go false on may before = step e.by e.verb may (was on (is_member r p mine) refl) before

-- a put at another position or region
pub put_elsewhere : (r p i q j : ℕ) (rest : Bool) → (p ≡ q → i ≢ j) → rest ≡ false → cond ((r == r) && ((p == q) && (i == j))) true rest ≡ false
put_elsewhere r p i q j rest other none = go (r == r) (p == q) (i == j) refl refl
  where
    go : (s t k : Bool) → (p == q) ≡ t → (i == j) ≡ k → cond (s && (t && k)) true rest ≡ false
    go true true true a b = absurd (other (eqb-true p q a) (eqb-true i j b))
    go true true false a b = none
    go true false k a b = none
    go false t k a b = none
