-- What a leader has applied all that keep up with it have applied in time, and raised their heads to it.
use Rattle.std.proofs.Common.{◌≡◌, ◌≢◌, ◌⊎◌, ℕ, zero, suc, ◌+◌, ◌<◌, ◌≤◌, ◌==◌, inl, inr, Bool, true, false, cond, Some, None, List, [], ◌∷◌, ◌++◌, length, refl, sym, ◌∙◌, ap, arith, subst, eqb-true, true≢false, append_assoc, is_some, take, ◌*◌}
use Rattle.std.specs.declared.option.Option.{Option}
use Rattle.std.specs.Prelude.{if◌then◌else◌, nat_le}
use Rattle.std.specs.List.{slice_get}
use Rattle.std.proofs.lemmas.Bool.{and_from, cases_eq, cases_lt, eq-eqb, le-leb}
use Rattle.std.proofs.lemmas.List.{length-append, length-take}
use Rattle.mu_model.specs.declared.config.Config.{Config}
use Rattle.mu_model.specs.declared.event.Answer.{Answer}
use Rattle.mu_model.specs.declared.event.Event.{Event}
use Rattle.mu_model.specs.declared.event.Verb.{Verb}
use Rattle.mu_model.specs.Answers.{answer_of}
use Rattle.mu_model.specs.Contents.{IsConfig, holds_all}
use Rattle.mu_model.specs.Diligence.{TellsHeads}
use Rattle.mu_model.specs.Histories.{IsPrefixOf, greatest, has, max_with, newer_or, newest, part}
use Rattle.mu_model.specs.Knowledge.{applied, front, has_entry, known}
use Rattle.mu_model.specs.Leaderships.{fence_seen, grant_for, leadership, noted_grant}
use Rattle.mu_model.specs.Legal.{IsLegalHistory}
use Rattle.mu_model.specs.Parts.{IsPossible}
use Rattle.mu_model.specs.Placing.{fuo_read_or_raised, reaches_head}
use Rattle.mu_model.specs.Regions.{fence, head_raised, region_fuo, region_head}
use Rattle.mu_model.specs.Steps.{is_fencing, is_fencing_verb, is_named, knows_all}
use Rattle.mu_model.proofs.Lists.{get_front}
use Rattle.mu_model.proofs.Owned.{IsOwn, greatest-part}
use Rattle.mu_model.proofs.Parts.{filter-append, part_is_possible}
use Rattle.mu_agree.proofs.Knowing.{known_stays}
use Rattle.mu_agree.proofs.Legal.{legal_older}
use Rattle.mu_agree.proofs.Prefixes.{known_agree}
use Rattle.mu_agree.proofs.Room.{covers_below}
use Rattle.mu_agree.specs.Moments.{AtEachMoment, AtEachStep}
use Rattle.mu_pace.proofs.Counting.{last_moment, moments_before}
use Rattle.mu_model.specs.Bounds.{cycle}
use Rattle.mu_alive.specs.Bringing.{IsGranted, LeadsOn, joining_steps}
use Rattle.mu_alive.specs.Finishing.{HaveAllRaised, KeepUp, spreading_steps}
use Rattle.mu_alive.specs.Following.{FollowsOn, RaisesToAll, catching_steps, following_steps}
use Rattle.mu_alive.specs.Near.{IsNear}
use Rattle.mu_alive.proofs.Beginning.{CutAt, cut_at}
use Rattle.mu_alive.proofs.Bringing.{brought_up, granted_first, leads_older}
use Rattle.mu_alive.proofs.Cutting.{Located, located}
use Rattle.mu_alive.proofs.Fetching.{applied_grows}
use Rattle.mu_alive.proofs.Following.{follows_up, head_follows}
use Rattle.mu_agree.proofs.Sessions.{same_list}

pub get_take : (l : ℕ) (xs : List ℕ) (i v : ℕ) → slice_get (take l xs) i ≡ Some v → slice_get xs i ≡ Some v
get_take zero xs i v at = cc
get_take (suc l) [] i v at = at
get_take (suc l) (x ∷ xs) zero v at = at
get_take (suc l) (x ∷ xs) (suc i) v at = get_take l xs i v at

pub get_of_front : (test : ℕ → Bool) (xs : List ℕ) (i v : ℕ) → slice_get (front test xs) i ≡ Some v → slice_get xs i ≡ Some v
get_of_front test [] i v at = at
get_of_front test (x ∷ xs) i v at = go (test x) i at (get_of_front test xs)
  where
    go : (t : Bool) (i : ℕ) → slice_get (cond t (x ∷ front test xs) []) i ≡ Some v → ((i v : ℕ) → slice_get (front test xs) i ≡ Some v → slice_get xs i ≡ Some v) → slice_get (x ∷ xs) i ≡ Some v
    go true zero at ih = at
    go true (suc i) at ih = ih i v at
    go false i at ih = cc

-- what a read or raised of the FUO of p it has
reached : (l : ℕ) (tells : Event → Option ℕ) (events : List Event) → 1 ≤ l → l ≤ greatest tells events → has (λ e. reaches_head l (tells e)) events ≡ true
reached l tells [] some high = absurd (omega (arith, some, high))
reached l tells (e ∷ events) some high = go (tells e) high (reached l tells events some)
  where
    go : (o : Option ℕ) → l ≤ max_with o (greatest tells events) → (l ≤ greatest tells events → has (λ e. reaches_head l (tells e)) events ≡ true) → cond (reaches_head l o) true (has (λ e. reaches_head l (tells e)) events) ≡ true
    go None high ih = ih high
    go (Some u) high ih = by_size (cases_lt u l) ih
      where
        by_size : (u < l) ⊎ (l ≤ u) → (l ≤ greatest tells events → has (λ e. reaches_head l (tells e)) events ≡ true) → cond (nat_le l u) true (has (λ e. reaches_head l (tells e)) events) ≡ true
        by_size (inl less) ih = any (nat_le l u) (ih (omega (arith, less, high)))
          where
            any : (t : Bool) → has (λ e. reaches_head l (tells e)) events ≡ true → cond t true (has (λ e. reaches_head l (tells e)) events) ≡ true
            any true there = refl
            any false there = there
        by_size (inr more) ih = ap (λ t. cond t true (has (λ e. reaches_head l (tells e)) events)) (le-leb l u more)

pub in_region : (c : Config) (a p l : ℕ) (past : List Event) → IsLegalHistory c past → l ≤ greatest (λ e. fuo_read_or_raised a p e.by e.verb e.answer) (part a past) → l ≤ region_fuo p past
in_region c a p zero past legal high = omega arith
in_region c a p (suc l) past legal high = covers_below c a p past legal (suc l) (reached (suc l) (λ e. fuo_read_or_raised a p e.by e.verb e.answer) (part a past) (omega arith) high)

pub heads-own : (r : ℕ) → IsOwn r (λ e. head_raised r e.by e.verb)
heads-own r = record { own = λ e other. go e.by e.verb other }
  where
    go : (by : ℕ) (verb : Verb) → (by == r) ≡ false → head_raised r by verb ≡ None
    go by (Verb.RaiseHead h) other = ap (λ t. cond t (Some h) None) other
    go by verb other = refl

pub moments_more : (P Q : List Event → Type 0) → ((now : List Event) → P now → Q now) → (mine : List Event) → AtEachMoment P mine → AtEachMoment Q mine
moments_more P Q more [] held = more [] held
moments_more P Q more (e ∷ mine) held = (moments_more P Q more mine held.0, more (e ∷ mine) held.1)

-- a fence of p that a reads grants to it if the fence is such
pub fence_notes : (c : Config) (a p : ℕ) (e : Event) (past : List Event) → IsLegalHistory c (e ∷ past) → e.by ≡ a → is_fencing p e ≡ true → is_some (grant_for a (Some (fence p past))) ≡ true → is_some (noted_grant a p (e ∷ part a past)) ≡ true
fence_notes c a p e past legal own fences grants = go e.by e.verb e.answer own fences legal.1.answer
  where
    go : (by : ℕ) (verb : Verb) (answer : Answer) → by ≡ a → is_fencing_verb p verb ≡ true → answer ≡ answer_of c by past verb → is_some (noted_grant a p (record { by = by; verb = verb; answer = answer } ∷ part a past)) ≡ true
    go by (Verb.Fence q) answer own fences is =
        subst (λ x. is_some (noted_grant a p (record { by = by; verb = Verb.Fence q; answer = x } ∷ part a past)) ≡ true) (sym is)
        (ap (λ t. is_some (grant_for a (newer_or (if t then Some (fence q past) else None) (newest (λ f. fence_seen a p f.by f.verb f.answer) (leadership a (part a past)))))) (and_from (by == a) (q == p) (eq-eqb by a own) fences)
        ∙ ap (λ x. is_some (grant_for a (Some (fence x past)))) (eqb-true q p fences) ∙ grants)
    go by verb answer own fences is = absurd (true≢false (sym fences))

-- so over a stretch each fence of p that a reads grants to it
pub each_notes : (c : Config) (a p : ℕ) (newer older above below : List Event) (e : Event) → IsLegalHistory c (newer ++ older) → ((xs ys : List Event) → newer ≡ xs ++ ys → is_some (grant_for a (Some (fence p (ys ++ older)))) ≡ true) → part a newer ≡ above ++ e ∷ below → is_fencing p e ≡ true → is_some (noted_grant a p (e ∷ (below ++ part a older))) ≡ true
each_notes c a p newer older above below e legal grants mine fences = at (located a newer above below e mine)
  where
    at : Located a newer e below → is_some (noted_grant a p (e ∷ (below ++ part a older))) ≡ true
    at l =
        let whole : newer ++ older ≡ l.newer ++ e ∷ (l.older ++ older) = ap (λ x. x ++ older) l.is ∙ append_assoc l.newer (e ∷ l.older) older in
        let parts : part a (l.older ++ older) ≡ below ++ part a older = filter-append (λ e. e.by == a) l.older older ∙ ap (λ x. x ++ part a older) l.before in
        subst (λ x. is_some (noted_grant a p (e ∷ x)) ≡ true) parts
        (fence_notes c a p e (l.older ++ older) (legal_older c l.newer (e ∷ (l.older ++ older)) (subst (IsLegalHistory c) whole legal)) l.own fences (grants (l.newer ++ e ∷ []) l.older (l.is ∙ sym (append_assoc l.newer (e ∷ []) l.older))))

-- from the older events on a leads, and the regions of all that keep up grant to it
pub record Governs (c : Config) (live : ℕ → Bool) (a : ℕ) (newer older : List Event) : Type 0 where
  pub inside : a < c.replicas
  pub lives : live a ≡ true
  pub legal : IsLegalHistory c (newer ++ older)
  pub near : AtEachMoment (IsNear c live a) (newer ++ older)
  pub leads : LeadsOn c a (part a newer ++ part a older)
  pub granted : (p : ℕ) → p < c.replicas → live p ≡ true → IsGranted c a p (part a newer) (part a older)

-- each other follows
pub follows_on : (c : Config) (live : ℕ → Bool) (a r : ℕ) (newer older : List Event) → IsLegalHistory c (newer ++ older) → KeepUp c live a (newer ++ older) → r < c.replicas → live r ≡ true → r ≢ a → FollowsOn c r newer older
follows_on c live a r newer older legal keep low lives other = record {
  inside = low;
  legal = legal;
  replays = keep.replays r low lives;
  heads = keep.heads r low lives;
  raises = keep.raises r low lives;
  unnamed = moments_more (λ now. is_named c r now ≡ false) (λ now. length (part r older) ≤ length now → is_named c r now ≡ false) (λ now off _. off) (part r (newer ++ older)) (keep.unnamed r low lives other);
}

-- before the last round of them a has applied l entries
abbrev pub AppliesMeanwhile : Config → ℕ → ℕ → List Event → List Event → Type 0
AppliesMeanwhile c a l newer older =
    (top bottom : List Event) → newer ≡ top ++ bottom → joining_steps c + (2 * cycle c + catching_steps c) ≤ length (part a bottom) → l ≤ length (applied c a (part a (bottom ++ older)))

-- this many steps later all that keep up have applied what it knew, and raised their heads to it, if it has applied it
pub spreads : (c : Config) (live : ℕ → Bool) (a l : ℕ) (newer older : List Event) → IsConfig c → Governs c live a newer older → KeepUp c live a (newer ++ older) → l ≤ length (known c a (part a older)) → AppliesMeanwhile c a l newer older → spreading_steps c ≤ length (part a newer)
    → (r : ℕ) → r < c.replicas → live r ≡ true → (l ≤ length (applied c r (part r (newer ++ older)))) × (l ≤ region_head r (newer ++ older))
spreads c live a l newer older good g keep knows applies many r low lives = which (cases_eq r a)
  where
    past : List Event
    past = newer ++ older

    total : length (part a past) ≡ length (part a newer) + length (part a older)
    total = ap length (filter-append (λ e. e.by == a) newer older) ∙ length-append (part a newer) (part a older)

    upper : CutAt a (joining_steps c) newer
    upper = cut_at a (joining_steps c) newer (omega (arith, many))

    joined : List Event
    joined = upper.rest ++ older

    at : past ≡ upper.newer ++ joined
    at = ap (λ x. x ++ older) upper.is ∙ append_assoc upper.newer upper.rest older

    parts : (q : ℕ) → part q past ≡ part q upper.newer ++ part q joined
    parts q = ap (part q) at ∙ filter-append (λ e. e.by == q) upper.newer joined

    lower : part a joined ≡ part a upper.rest ++ part a older
    lower = filter-append (λ e. e.by == a) upper.rest older

    fuo : (top bottom : List Event) → newer ≡ top ++ bottom → joining_steps c ≤ length (part a bottom) → (p : ℕ) → p < c.replicas → live p ≡ true → l ≤ greatest (λ e. fuo_read_or_raised a p e.by e.verb e.answer) (part a (bottom ++ older))
    fuo top bottom is long p inside goes =
        subst (λ x. l ≤ greatest (λ e. fuo_read_or_raised a p e.by e.verb e.answer) x) (sym (filter-append (λ e. e.by == a) bottom older))
        (brought_up c a p l (part a bottom) (part a older) good leads (granted_first c a p (part a top) (part a bottom) (part a older) (subst (λ x. IsGranted c a p x (part a older)) window (g.granted p inside goes))) knows long)
      where
        window : part a newer ≡ part a top ++ part a bottom
        window = ap (part a) is ∙ filter-append (λ e. e.by == a) top bottom

        leads : LeadsOn c a (part a bottom ++ part a older)
        leads = leads_older c a (part a top) (part a bottom ++ part a older) (subst (LeadsOn c a) (ap (λ x. x ++ part a older) window ∙ append_assoc (part a top) (part a bottom) (part a older)) g.leads)

    legal : IsLegalHistory c joined
    legal = legal_older c upper.newer joined (subst (IsLegalHistory c) at g.legal)

    taken : length (part a joined) ≡ joining_steps c + length (part a older)
    taken = let sum = ap length lower ∙ length-append (part a upper.rest) (part a older) in let count = upper.count in omega (arith, sum, count)

    follower : r ≢ a → (l ≤ length (applied c r (part r past))) × (l ≤ region_head r past)
    follower other =
        subst (λ x. (l ≤ length (applied c r (part r x))) × (l ≤ region_head r x)) (sym at)
        (follows_up c r l upper.newer joined good (follows_on c live a r upper.newer joined (subst (IsLegalHistory c) at g.legal) (subst (KeepUp c live a) at keep) low lives other) (in_region c a r l joined legal (fuo upper.newer upper.rest upper.is (let count = upper.count in omega (arith, count)) r low lives)) enough)
      where
        enough : following_steps c ≤ length (part r upper.newer)
        enough =
            let late = (last_moment (IsNear c live a) past g.near r low lives).1 in
            let early = (last_moment (IsNear c live a) joined (moments_before (IsNear c live a) upper.newer joined (subst (AtEachMoment (IsNear c live a)) at g.near)) r low lives).0 in
            let split = ap length (parts r) ∙ length-append (part r upper.newer) (part r joined) in
            let took = taken in
            let all = total in
            omega (arith, late, early, split, took, all, many)

    leader : (l ≤ length (applied c a (part a past))) × (l ≤ region_head a past)
    leader = (omega (arith, grows, same, had), omega (arith, head, region, whole))
      where
        late : CutAt a (joining_steps c + (2 * cycle c + catching_steps c)) newer
        late = cut_at a (joining_steps c + (2 * cycle c + catching_steps c)) newer (omega (arith, many))

        moment : List Event
        moment = late.rest ++ older

        split : part a past ≡ part a late.newer ++ part a moment
        split = ap (part a) (ap (λ x. x ++ older) late.is ∙ append_assoc late.newer late.rest older) ∙ filter-append (λ e. e.by == a) late.newer moment

        had : l ≤ length (applied c a (part a moment))
        had = applies late.newer late.rest late.is (let count = late.count in omega (arith, count))

        grows : length (applied c a (part a moment)) ≤ length (applied c a (part a late.newer ++ part a moment))
        grows = applied_grows c a (part a late.newer) (part a moment)

        same : length (applied c a (part a past)) ≡ length (applied c a (part a late.newer ++ part a moment))
        same = ap (λ x. length (applied c a x)) split

        left : cycle c ≤ length (part a late.newer)
        left =
            let sum = ap length (ap (part a) late.is ∙ filter-append (λ e. e.by == a) late.newer late.rest) ∙ length-append (part a late.newer) (part a late.rest) in
            let count = late.count in
            omega (arith, sum, count, many)

        covered : l ≤ greatest (λ e. fuo_read_or_raised a a e.by e.verb e.answer) (part a moment)
        covered = fuo late.newer late.rest late.is (let count = late.count in omega (arith, count)) a g.inside g.lives

        head : l ≤ region_head a (part a late.newer ++ part a moment)
        head = head_follows c a l (part a late.newer) (part a moment) (subst (IsPossible c a) split (part_is_possible c a past g.legal)) (subst (TellsHeads c a) split (keep.heads a g.inside g.lives)) (subst (AtEachStep (RaisesToAll c a)) split (keep.raises a g.inside g.lives)) had covered left

        region : region_head a (part a past) ≡ region_head a past
        region = greatest-part (λ e. head_raised a e.by e.verb) a (heads-own a) past

        whole : region_head a (part a past) ≡ region_head a (part a late.newer ++ part a moment)
        whole = ap (region_head a) split

    which : (r ≡ a) ⊎ (r ≢ a) → (l ≤ length (applied c r (part r past))) × (l ≤ region_head r past)
    which (inl same) = subst (λ x. (l ≤ length (applied c x (part x past))) × (l ≤ region_head x past)) (sym same) leader
    which (inr other) = follower other

-- if it knew every command, then all have
pub all_raised : (c : Config) (live : ℕ → Bool) (a : ℕ) (newer older : List Event) → IsLegalHistory c (newer ++ older) → knows_all c a (part a older) ≡ true
    → ((r : ℕ) → r < c.replicas → live r ≡ true → (length (known c a (part a older)) ≤ length (applied c r (part r (newer ++ older)))) × (length (known c a (part a older)) ≤ region_head r (newer ++ older))) → HaveAllRaised c live (newer ++ older)
all_raised c live a newer older legal knows there = record { upto = length all; raised = λ r low lives. (there r low lives).1; reached = λ r low lives. (there r low lives).0; held = held }
  where
    past : List Event
    past = newer ++ older

    -- all commands
    all : List ℕ
    all = known c a (part a older)

    more : IsPrefixOf (known c a (part a older)) (known c a (part a past))
    more = subst (λ x. IsPrefixOf (known c a (part a older)) (known c a x)) (sym (filter-append (λ e. e.by == a) newer older)) (known_stays c a (part a newer) (part a older))

    agree : (r i v w : ℕ) → slice_get (take (length all) (applied c r (part r past))) i ≡ Some v → slice_get all i ≡ Some w → v ≡ w
    agree r i v w at held =
        known_agree c r a past legal i v w (get_of_front (λ v. has_entry c r v (part r past)) (known c r (part r past)) i v (get_take (length all) (applied c r (part r past)) i v at))
        (ap (λ l. slice_get l i) more.1 ∙ get_front all more.0 i w held)

    held : (r : ℕ) → r < c.replicas → live r ≡ true → holds_all c (take (length all) (applied c r (part r past))) ≡ true
    held r low lives = ap (holds_all c) (same_list (take (length all) (applied c r (part r past))) all (let long = (there r low lives).0 in let taken = length-take (length all) (applied c r (part r past)) in omega (arith, long, taken)) (agree r)) ∙ knows
