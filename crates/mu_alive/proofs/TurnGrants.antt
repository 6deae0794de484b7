-- If replicas ask in turn, a host grants its region to the last one that asked.
use Rattle.std.proofs.Common.{◌≡◌, ℕ, zero, suc, ◌+◌, ◌*◌, ◌<◌, ◌≤◌, inl, inr, Bool, true, false, cond, ◌&&◌, not, ◌==◌, List, [], ◌∷◌, ◌++◌, length, refl, sym, ◌∙◌, ap, arith, Some, None, subst, eqb-true, true≢false, append_assoc}
use Rattle.std.specs.declared.option.Option.{Option}
use Rattle.std.specs.Prelude.{max, nat_lt}
use Rattle.std.proofs.lemmas.Bool.{and_from, and_parts, cases_eq, cases_order, eq-eqb, lt-ltb, ne_eqb}
use Rattle.std.proofs.lemmas.List.{length-append}
use Rattle.mu_model.specs.declared.config.Config.{Config}
use Rattle.mu_model.specs.declared.event.Answer.{Answer}
use Rattle.mu_model.specs.declared.event.Event.{Event}
use Rattle.mu_model.specs.declared.event.Verb.{Verb}
use Rattle.mu_model.specs.Allowed.{Needs}
use Rattle.mu_model.specs.Answers.{answer_of}
use Rattle.mu_model.specs.Bounds.{cycle}
use Rattle.mu_model.specs.Diligence.{GrantsInTime, ReadsInTime}
use Rattle.mu_model.specs.Histories.{all_below, before, count_below, has, newer_or, newest, or_zero, part}
use Rattle.mu_model.specs.Leaderships.{has_begun, owner_is}
use Rattle.mu_model.specs.Legal.{IsLegalHistory}
use Rattle.mu_model.specs.Regions.{asks, fence_closing, fence_owner, granted_by, is_ask_by}
use Rattle.mu_model.specs.Serving.{ask_read, has_unserved_ask, is_grant_to, read_while_owner, seen_asks, served, served_as_owner, served_by_grant}
use Rattle.mu_model.specs.Steps.{is_ask_read, is_granting, is_granting_verb}
use Rattle.mu_model.proofs.Basics.{same_number, same_some}
use Rattle.mu_model.proofs.Parts.{filter-append}
use Rattle.mu_agree.proofs.Legal.{event_after, legal_older}
use Rattle.mu_alive.specs.Turns.{AreInTurn, HostsGrantInTurn}
use Rattle.mu_alive.proofs.Beginning.{cut_at, grants_before, reads_before}
use Rattle.mu_alive.proofs.Calm.{count_adds, count_few}
use Rattle.mu_alive.proofs.Cutting.{Located, located, met, more_pass}
use Rattle.mu_alive.proofs.TurnOwners.{IsHighest, StaysOpen, Waits, no_grant, stays_open, served-part, top_induction, waiter_begun, waits, owner-part, seen-part}
use Rattle.mu_alive.proofs.Turns.{not_begun, turns_before}
use Rattle.mu_pace.proofs.Pasts.{has_later, begun_still, cut, reads_ask}

-- what comes before an event that never comes is nothing
none_before : (test : Event → Bool) (mine : List Event) → has test mine ≡ false → before test mine ≡ []
none_before test [] none = refl
none_before test (e ∷ mine) none = go (test e) none (none_before test mine)
  where
    go : (t : Bool) → cond t true (has test mine) ≡ false → (has test mine ≡ false → before test mine ≡ []) → cond t mine (before test mine) ≡ []
    go true none ih = absurd (true≢false none)
    go false none ih = ih none

pub highest_older : (r : ℕ) (newer older : List Event) → IsHighest r (newer ++ older) → IsHighest r older
highest_older r [] older high = high
highest_older r (e ∷ newer) older high = highest_older r newer older (λ w above. not_begun w e (newer ++ older) (high w above))

-- while r doesn't own the region it was never granted to it
abbrev NeverGranted : ℕ → ℕ → List Event → Type 0
NeverGranted r p past = (fence_owner p past ≡ Some r → ⊥) → (has (λ e. is_grant_to p r e.by e.verb) past ≡ false) × (served_as_owner p r past ≡ None)

never_grant : (c : Config) (r p by q : ℕ) (past : List Event) → StaysOpen r p past → Needs c by (part by past) (Verb.Grant q) → NeverGranted r p past → NeverGranted r p (event_after c past by (Verb.Grant q) ∷ past)
never_grant c r p by q past top may s = go (by == p) refl
  where
    go : (t : Bool) → (by == p) ≡ t → NeverGranted r p (event_after c past by (Verb.Grant q) ∷ past)
    go true h = rw h (λ other.
        let k = s (λ owns. no_grant c r p by q past top may h owns) in
        (ap (λ t. cond t true (has (λ e. is_grant_to p r e.by e.verb) past)) (ne_eqb q r (λ same. other (ap Some same))) ∙ k.0, k.1))
    go false h = rw h s

never_read : (c : Config) (r p by q : ℕ) (past : List Event) → NeverGranted r p past → NeverGranted r p (event_after c past by (Verb.ReadAsk q) ∷ past)
never_read c r p by q past s = λ other. let k = s other in (k.0, ap (λ o. newer_or o (served_as_owner p r past)) (unread (fence_owner p past) refl other) ∙ k.1)
  where
    unread : (o : Option ℕ) → fence_owner p past ≡ o → (fence_owner p past ≡ Some r → ⊥) → read_while_owner p r past by (Verb.ReadAsk q) (Answer.Number (asks q by past)) ≡ None
    unread o is other = rw is (go (by == p) (q == r) (owner_is r o) (not_owner o (λ same. other (is ∙ same))))
      where
        not_owner : (o : Option ℕ) → (o ≡ Some r → ⊥) → owner_is r o ≡ false
        not_owner None other = refl
        not_owner (Some w) other = ne_eqb w r (λ same. other (ap Some same))

        go : (t u w : Bool) → w ≡ false → cond (t && (u && (w && not (fence_closing p past)))) (Some (asks q by past)) None ≡ None
        go true true w h = rw h refl
        go true false w h = refl
        go false u w h = refl

never_step : (c : Config) (r p by : ℕ) (v : Verb) (past : List Event) → StaysOpen r p past → Needs c by (part by past) v → NeverGranted r p past → NeverGranted r p (event_after c past by v ∷ past)
never_step c r p by (Verb.Grant q) past top may s = never_grant c r p by q past top may s
never_step c r p by (Verb.ReadAsk q) past top may s = never_read c r p by q past s
never_step c r p by v past top may s = s

never_granted : (c : Config) (r p : ℕ) (past : List Event) → IsLegalHistory c past → AreInTurn past → IsHighest r past → NeverGranted r p past
never_granted c r p = top_induction c r (NeverGranted r p) (λ _. (refl, refl)) (λ past by v legal turns turn high may s. never_step c r p by v past (stays_open c r p past legal turns high) may.may s)

never_served : (c : Config) (r p : ℕ) (past : List Event) → NeverGranted r p past → (fence_owner p past ≡ Some r → ⊥) → served p r past ≡ 0
never_served c r p past never other =
    let k = never other in
    ap (λ l. max (seen_asks p r l) (or_zero (served_as_owner p r past))) (none_before (λ e. is_grant_to p r e.by e.verb) past k.0) ∙ ap (λ o. max 0 (or_zero o)) k.1

-- once r owns the region it goes on owning it
owner_before : (c : Config) (r p : ℕ) (newer older : List Event) → IsLegalHistory c (newer ++ older) → AreInTurn (newer ++ older) → IsHighest r (newer ++ older) → fence_owner p older ≡ Some r → fence_owner p (newer ++ older) ≡ Some r
owner_before c r p [] older legal turns high owns = owns
owner_before c r p (e ∷ newer) older legal turns high owns =
    let before : IsHighest r (newer ++ older) = (λ w above. not_begun w e (newer ++ older) (high w above)) in
    let ih = owner_before c r p newer older legal.0 turns.0 before owns in
    keeps e.by e.verb (stays_open c r p (newer ++ older) legal.0 turns.0 before) legal.1.allowed.may ih
  where
    keeps : (by : ℕ) (v : Verb) → StaysOpen r p (newer ++ older) → Needs c by (part by (newer ++ older)) v → fence_owner p (newer ++ older) ≡ Some r → newer_or (granted_by p by v) (fence_owner p (newer ++ older)) ≡ Some r
    keeps by (Verb.Grant q) top may ih = go (by == p) refl
      where
        go : (t : Bool) → (by == p) ≡ t → newer_or (cond t (Some q) None) (fence_owner p (newer ++ older)) ≡ Some r
        go true h = absurd (no_grant c r p by q (newer ++ older) top may h ih)
        go false h = ih
    keeps by v top may ih = ih

-- what was seen of a lower one stays
seen_still : (c : Config) (r p w : ℕ) (newer older : List Event) → IsLegalHistory c (newer ++ older) → AreInTurn (newer ++ older) → has_begun r older ≡ true → w < r → seen_asks p w (newer ++ older) ≡ seen_asks p w older
seen_still c r p w [] older legal turns begun below = refl
seen_still c r p w (e ∷ newer) older legal turns begun below =
    ap (λ o. or_zero (newer_or o (newest (λ f. ask_read p w f.by f.verb f.answer) (newer ++ older)))) (ap (ask_read p w e.by e.verb) legal.1.answer)
    ∙ read e.by e.verb (λ q is. turns.1.fresh q r is) (seen_still c r p w newer older legal.0 turns.0 begun below)
  where
    read : (by : ℕ) (v : Verb) → ((q : ℕ) → v ≡ Verb.ReadAsk q → q < r → has_begun r (newer ++ older) ≡ true → asks q by (newer ++ older) ≡ seen_asks by q (newer ++ older)) → seen_asks p w (newer ++ older) ≡ seen_asks p w older
        → or_zero (newer_or (ask_read p w by v (answer_of c by (newer ++ older) v)) (newest (λ f. ask_read p w f.by f.verb f.answer) (newer ++ older))) ≡ seen_asks p w older
    read by (Verb.ReadAsk q) fresh ih = go (by == p) refl (q == w) refl
      where
        go : (t : Bool) → (by == p) ≡ t → (u : Bool) → (q == w) ≡ u → or_zero (newer_or (cond (t && u) (Some (asks q by (newer ++ older))) None) (newest (λ f. ask_read p w f.by f.verb f.answer) (newer ++ older))) ≡ seen_asks p w older
        go true ht true hu =
            let here = eqb-true q w hu in
            fresh q refl (omega (arith, here, below)) (begun_still r newer older begun) ∙ ap (λ x. seen_asks x q (newer ++ older)) (eqb-true by p ht) ∙ ap (λ x. seen_asks p x (newer ++ older)) here ∙ ih
        go true ht false hu = ih
        go false ht u hu = ih
    read by v fresh ih = ih

-- who was granted the region since doesn't wait there
record Since (p q : ℕ) (newer older : List Event) : Type 0 where
  rest : List Event
  later : List Event
  split : newer ≡ later ++ rest
  is : before (λ e. is_grant_to p q e.by e.verb) (newer ++ older) ≡ rest ++ older

granted_since : (p q : ℕ) (newer older : List Event) → has (λ e. is_grant_to p q e.by e.verb) newer ≡ true → Since p q newer older
granted_since p q [] older some = absurd (true≢false (sym some))
granted_since p q (e ∷ newer) older some = go (is_grant_to p q e.by e.verb) refl some (granted_since p q newer older)
  where
    go : (t : Bool) → is_grant_to p q e.by e.verb ≡ t → cond t true (has (λ e. is_grant_to p q e.by e.verb) newer) ≡ true → (has (λ e. is_grant_to p q e.by e.verb) newer ≡ true → Since p q newer older) → Since p q (e ∷ newer) older
    go true is some ih = record { rest = newer; later = e ∷ []; split = refl; is = ap (λ t. cond t (newer ++ older) (before (λ e. is_grant_to p q e.by e.verb) (newer ++ older))) is }
    go false is some ih = let k = ih some in record { rest = k.rest; later = e ∷ k.later; split = ap (λ l. e ∷ l) k.split; is = ap (λ t. cond t (newer ++ older) (before (λ e. is_grant_to p q e.by e.verb) (newer ++ older))) is ∙ k.is }

not_again : (c : Config) (r p q : ℕ) (newer older : List Event) → IsLegalHistory c (newer ++ older) → AreInTurn (newer ++ older) → has_begun r older ≡ true → q < r → Waits p q (newer ++ older) → has (λ e. is_grant_to p q e.by e.verb) newer ≡ false
not_again c r p q newer older legal turns begun below waiting = go (has (λ e. is_grant_to p q e.by e.verb) newer) refl
  where
    go : (t : Bool) → has (λ e. is_grant_to p q e.by e.verb) newer ≡ t → t ≡ false
    go true some =
        let k = granted_since p q newer older some in
        let whole : newer ++ older ≡ k.later ++ (k.rest ++ older) = ap (λ l. l ++ older) k.split ∙ append_assoc k.later k.rest older in
        let now = seen_still c r p q newer older legal turns begun below in
        let rest_legal = legal_older c k.later (k.rest ++ older) (subst (IsLegalHistory c) whole legal) in
        let rest_turns = turns_before k.later (k.rest ++ older) (subst AreInTurn whole turns) in
        let then = seen_still c r p q k.rest older rest_legal rest_turns begun below in
        let served_is : served_by_grant p q (newer ++ older) ≡ seen_asks p q older = ap (seen_asks p q) k.is ∙ then in
        let more = waiting.more in
        absurd (omega (arith, now, served_is, more))
    go false none = refl

-- the parts of the whole, and that it is one in turn
record InRound (c : Config) (r p : ℕ) (whole older : List Event) : Type 0 where
  inside : r < c.replicas
  legal : IsLegalHistory c whole
  turns : AreInTurn whole
  high : IsHighest r whole
  reads : ReadsInTime c p (part p whole)
  grants : GrantsInTime c p (part p whole)
  other : fence_owner p whole ≡ Some r → ⊥
  begun : has_begun r older ≡ true
  asked : 1 ≤ asks r p older

-- how many lower ones were granted the region
abbrev granted_count : ℕ → ℕ → List Event → ℕ
granted_count r p newer = count_below r (λ w. has (λ e. is_grant_to p w e.by e.verb) newer)

-- the read of r's asks leaves it waiting
read_waits : (c : Config) (r p : ℕ) (x : Event) (past : List Event) → IsLegalHistory c (x ∷ past) → AreInTurn (x ∷ past) → IsHighest r (x ∷ past) → (fence_owner p (x ∷ past) ≡ Some r → ⊥) → x.by ≡ p → is_ask_read r x ≡ true → 1 ≤ asks r p past → has_unserved_ask p (part p (x ∷ past)) r ≡ true
read_waits c r p x past legal turns high other own reads asked =
    and_from (not (owner_is r (fence_owner p (part p (x ∷ past))))) (nat_lt (served p r (part p (x ∷ past))) (seen_asks p r (part p (x ∷ past))))
    (ap not (ap (owner_is r) (owner-part p (x ∷ past)) ∙ not_owner (fence_owner p (x ∷ past)) other))
    (lt-ltb (served p r (part p (x ∷ past))) (seen_asks p r (part p (x ∷ past))) (let a = served-part p r (x ∷ past) in let b = seen-part p r (x ∷ past) in let z = never_served c r p (x ∷ past) (never_granted c r p (x ∷ past) legal turns high) other in let s = seen in omega (arith, a, b, z, s, asked)))
  where
    not_owner : (o : Option ℕ) → (o ≡ Some r → ⊥) → owner_is r o ≡ false
    not_owner None other = refl
    not_owner (Some w) other = ne_eqb w r (λ same. other (ap Some same))

    sees : (by : ℕ) (verb : Verb) (answer : Answer) → by ≡ p → verb ≡ Verb.ReadAsk r → answer ≡ answer_of c by past (Verb.ReadAsk r) → seen_asks p r (record { by = by; verb = verb; answer = answer } ∷ past) ≡ asks r p past
    sees by verb answer own is says =
        subst (λ v. seen_asks p r (record { by = by; verb = v; answer = answer } ∷ past) ≡ asks r p past) (sym is)
        (subst (λ y. seen_asks p r (record { by = by; verb = Verb.ReadAsk r; answer = y } ∷ past) ≡ asks r p past) (sym says) (rw (eq-eqb by p own, same_number r) (ap (λ i. asks r i past) own)))

    seen : seen_asks p r (x ∷ past) ≡ asks r p past
    seen = let verb = reads_ask r x.verb reads in sees x.by x.verb x.answer own verb (legal.1.answer ∙ ap (answer_of c x.by past) verb)

-- what a grant in turn does to the count
grant_counts : (c : Config) (r p : ℕ) (front middle bottom older : List Event) (g : Event) → InRound c r p (front ++ g ∷ (middle ++ (bottom ++ older))) older → g.by ≡ p → is_granting g ≡ true → granted_count r p bottom + 1 ≤ granted_count r p ((front ++ g ∷ middle) ++ bottom)
grant_counts c r p front middle bottom older g at own grants = go g.verb refl grants
  where
    past : List Event
    past = middle ++ (bottom ++ older)

    legal : IsLegalHistory c (g ∷ past)
    legal = legal_older c front (g ∷ past) at.legal

    turns : AreInTurn (g ∷ past)
    turns = turns_before front (g ∷ past) at.turns

    high : IsHighest r (g ∷ past)
    high = highest_older r front (g ∷ past) at.high

    inner : past ≡ (middle ++ bottom) ++ older
    inner = sym (append_assoc middle bottom older)

    lower : (q : ℕ) → g.verb ≡ Verb.Grant q → Waits p q past → q < r
    lower q is waiting = elim (cases_order q r) [
      | inl same ↦ absurd (at.other (owner_before c r p front (g ∷ past) at.legal at.turns at.high (owns g.by g.verb own is same)))
      | inr (inl below) ↦ below
      | inr (inr above) ↦ absurd (true≢false (sym (waiter_begun c p q past legal.0 waiting) ∙ highest_older r (g ∷ []) past high q above))
    ]
      where
        owns : (by : ℕ) (verb : Verb) → by ≡ p → verb ≡ Verb.Grant q → q ≡ r → newer_or (granted_by p by verb) (fence_owner p past) ≡ Some r
        owns by verb own is same = subst (λ v. newer_or (granted_by p by v) (fence_owner p past) ≡ Some r) (sym is) (rw (eq-eqb by p own) (ap Some same))

    counted : (q : ℕ) → g.verb ≡ Verb.Grant q → Waits p q past → granted_count r p bottom + 1 ≤ granted_count r p ((front ++ g ∷ middle) ++ bottom)
    counted q is waiting =
        let below = lower q is waiting in
        let fresh = not_again c r p q (middle ++ bottom) older (subst (IsLegalHistory c) inner legal.0) (subst AreInTurn inner turns.0) at.begun below (subst (Waits p q) inner waiting) in
        let none = older_none middle fresh in
        count_adds r q (λ w. has (λ e. is_grant_to p w e.by e.verb) bottom) (λ w. has (λ e. is_grant_to p w e.by e.verb) ((front ++ g ∷ middle) ++ bottom)) below none (there q is)
        (λ w l some. has_later (λ e. is_grant_to p w e.by e.verb) (front ++ g ∷ middle) bottom some)
      where
        older_none : (xs : List Event) → has (λ e. is_grant_to p q e.by e.verb) (xs ++ bottom) ≡ false → has (λ e. is_grant_to p q e.by e.verb) bottom ≡ false
        older_none xs none = by_test (has (λ e. is_grant_to p q e.by e.verb) bottom) refl
          where
            by_test : (t : Bool) → has (λ e. is_grant_to p q e.by e.verb) bottom ≡ t → t ≡ false
            by_test true some = absurd (true≢false (sym (has_later (λ e. is_grant_to p q e.by e.verb) xs bottom some) ∙ none))
            by_test false is = refl

        there : (q : ℕ) → g.verb ≡ Verb.Grant q → has (λ e. is_grant_to p q e.by e.verb) ((front ++ g ∷ middle) ++ bottom) ≡ true
        there q is =
            subst (λ l. has (λ e. is_grant_to p q e.by e.verb) l ≡ true) (sym (append_assoc front (g ∷ middle) bottom))
            (has_later (λ e. is_grant_to p q e.by e.verb) front (g ∷ (middle ++ bottom)) (passes g.by g.verb own is))
          where
            passes : (by : ℕ) (verb : Verb) → by ≡ p → verb ≡ Verb.Grant q → cond (is_grant_to p q by verb) true (has (λ e. is_grant_to p q e.by e.verb) (middle ++ bottom)) ≡ true
            passes by verb own is = subst (λ v. cond (is_grant_to p q by v) true (has (λ e. is_grant_to p q e.by e.verb) (middle ++ bottom)) ≡ true) (sym is) (rw (eq-eqb by p own, same_number q) refl)

    go : (verb : Verb) → g.verb ≡ verb → is_granting_verb verb ≡ true → granted_count r p bottom + 1 ≤ granted_count r p ((front ++ g ∷ middle) ++ bottom)
    go (Verb.Grant q) is _ =
        let may : Needs c g.by (part g.by past) (Verb.Grant q) = subst (Needs c g.by (part g.by past)) is legal.1.allowed.may in
        let at_p = subst (λ i. Needs c i (part i past) (Verb.Grant q)) own may in
        counted q is (waits p q past (and_parts (has_unserved_ask p (part p past) q) (all_below q (λ w. not (has_unserved_ask p (part p past) w))) at_p.1.1.1.0).0)
    go verb is h = absurd (true≢false (sym h))

-- in two rounds some lower one is granted the region that was not before
one_round : (c : Config) (r p : ℕ) (top bottom older : List Event) → InRound c r p (top ++ (bottom ++ older)) older → 2 * cycle c ≤ length (part p top) → granted_count r p bottom + 1 ≤ granted_count r p (top ++ bottom)
one_round c r p top bottom older at long =
    let first = cut (cycle c) (part p top) (omega (arith, long)) in
    let split : part p (top ++ (bottom ++ older)) ≡ part p top ++ part p (bottom ++ older) = filter-append (λ e. e.by == p) top (bottom ++ older) in
    let read = met (is_ask_read r) first.rest (at.reads.asks r first.rest (part p (bottom ++ older)) at.inside (record { newer = first.newer; is = split ∙ ap (λ l. l ++ part p (bottom ++ older)) first.is ∙ append_assoc first.newer first.rest (part p (bottom ++ older)) }) first.count) in
    let whole : part p top ≡ (first.newer ++ read.newer) ++ read.event ∷ read.older = first.is ∙ ap (λ l. first.newer ++ l) read.is ∙ sym (append_assoc first.newer read.newer (read.event ∷ read.older)) in
    let enough : cycle c ≤ length (first.newer ++ read.newer) = (let a = length-append first.newer read.newer in let b = ap length first.is ∙ length-append first.newer first.rest in let n = first.count in omega (arith, a, b, n, long)) in
    asks_then read.event read.older (first.newer ++ read.newer) whole enough split read.passes (located p top (first.newer ++ read.newer) read.older read.event whole)
  where
    asks_then : (x : Event) (after between : List Event) → part p top ≡ between ++ x ∷ after → cycle c ≤ length between → part p (top ++ (bottom ++ older)) ≡ part p top ++ part p (bottom ++ older) → is_ask_read r x ≡ true → Located p top x after → granted_count r p bottom + 1 ≤ granted_count r p (top ++ bottom)
    asks_then x after between whole enough split reads_it l =
        let second = cut (cycle c) between enough in
        let there : top ++ (bottom ++ older) ≡ l.newer ++ (x ∷ (l.older ++ (bottom ++ older))) = ap (λ y. y ++ (bottom ++ older)) l.is ∙ append_assoc l.newer (x ∷ l.older) (bottom ++ older) in
        let legal = legal_older c l.newer (x ∷ (l.older ++ (bottom ++ older))) (subst (IsLegalHistory c) there at.legal) in
        let turns = turns_before l.newer (x ∷ (l.older ++ (bottom ++ older))) (subst AreInTurn there at.turns) in
        let high = highest_older r l.newer (x ∷ (l.older ++ (bottom ++ older))) (subst (IsHighest r) there at.high) in
        let other : fence_owner p (x ∷ (l.older ++ (bottom ++ older))) ≡ Some r → ⊥ = λ owns. at.other (ap (fence_owner p) there ∙ owner_before c r p l.newer (x ∷ (l.older ++ (bottom ++ older))) (subst (IsLegalHistory c) there at.legal) (subst AreInTurn there at.turns) (subst (IsHighest r) there at.high) owns) in
        let more = more_pass (λ e. is_ask_by r p e.by e.verb) (l.older ++ bottom) older in
        let same = ap (asks r p) (append_assoc l.older bottom older) in
        let asked = at.asked in
        let waiting = read_waits c r p x (l.older ++ (bottom ++ older)) legal turns high other l.own reads_it (omega (arith, more, same, asked)) in
        let mine : part p (x ∷ (l.older ++ (bottom ++ older))) ≡ x ∷ (after ++ part p (bottom ++ older)) =
        ap (λ t. cond t (x ∷ part p (l.older ++ (bottom ++ older))) (part p (l.older ++ (bottom ++ older)))) (eq-eqb x.by p l.own) ∙ ap (λ y. x ∷ y) (filter-append (λ e. e.by == p) l.older (bottom ++ older) ∙ ap (λ y. y ++ part p (bottom ++ older)) l.before) in
        let stretch : part p (top ++ (bottom ++ older)) ≡ second.newer ++ (second.rest ++ (x ∷ (after ++ part p (bottom ++ older)))) =
        split ∙ ap (λ y. y ++ part p (bottom ++ older)) (whole ∙ ap (λ y. y ++ x ∷ after) second.is) ∙ append_assoc (second.newer ++ second.rest) (x ∷ after) (part p (bottom ++ older)) ∙ append_assoc second.newer second.rest (x ∷ (after ++ part p (bottom ++ older))) in
        let comes = at.grants r x second.rest (after ++ part p (bottom ++ older)) (record { newer = second.newer; is = stretch }) reads_it (subst (λ y. has_unserved_ask p y r ≡ true) mine waiting) second.count in
        let grant = met is_granting second.rest comes in
        let place : part p top ≡ (second.newer ++ grant.newer) ++ grant.event ∷ (grant.older ++ x ∷ after) =
        whole ∙ ap (λ y. y ++ x ∷ after) (second.is ∙ ap (λ y. second.newer ++ y) grant.is ∙ sym (append_assoc second.newer grant.newer (grant.event ∷ grant.older))) ∙ append_assoc (second.newer ++ grant.newer) (grant.event ∷ grant.older) (x ∷ after) in
        grants_then grant.event (grant.older ++ x ∷ after) grant.passes (located p top (second.newer ++ grant.newer) (grant.older ++ x ∷ after) grant.event place)
      where
        grants_then : (g : Event) (after : List Event) → is_granting g ≡ true → Located p top g after → granted_count r p bottom + 1 ≤ granted_count r p (top ++ bottom)
        grants_then g after is l =
            let there : top ++ (bottom ++ older) ≡ l.newer ++ (g ∷ (l.older ++ (bottom ++ older))) = ap (λ y. y ++ (bottom ++ older)) l.is ∙ append_assoc l.newer (g ∷ l.older) (bottom ++ older) in
            subst (λ y. granted_count r p bottom + 1 ≤ granted_count r p (y ++ bottom)) (sym l.is) (grant_counts c r p l.newer l.older bottom older g (subst (λ y. InRound c r p y older) there at) l.own is)

-- a shorter list is one in turn too
round_before : (c : Config) (r p : ℕ) (newer rest older : List Event) → InRound c r p (newer ++ (rest ++ older)) older → InRound c r p (rest ++ older) older
round_before c r p newer rest older at = record {
  inside = at.inside;
  legal = legal_older c newer (rest ++ older) at.legal;
  turns = turns_before newer (rest ++ older) at.turns;
  high = highest_older r newer (rest ++ older) at.high;
  reads = reads_before c p (part p newer) (part p (rest ++ older)) (subst (ReadsInTime c p) split at.reads);
  grants = grants_before c p (part p newer) (part p (rest ++ older)) (subst (GrantsInTime c p) split at.grants);
  other = λ owns. at.other (owner_before c r p newer (rest ++ older) at.legal at.turns at.high owns);
  begun = at.begun;
  asked = at.asked;
}
  where
    split : part p (newer ++ (rest ++ older)) ≡ part p newer ++ part p (rest ++ older)
    split = filter-append (λ e. e.by == p) newer (rest ++ older)

-- so in k rounds at least k are
rounds : (c : Config) (r p k : ℕ) (newer older : List Event) → InRound c r p (newer ++ older) older → k * (2 * cycle c) ≤ length (part p newer) → k ≤ granted_count r p newer
rounds c r p zero newer older at long = omega arith
rounds c r p (suc k) newer older at long =
    let next : suc k * (2 * cycle c) ≡ k * (2 * cycle c) + 2 * cycle c = omega arith in
    let cuts = cut_at p (k * (2 * cycle c)) newer (omega (arith, next, long)) in
    let whole : newer ++ older ≡ cuts.newer ++ (cuts.rest ++ older) = ap (λ l. l ++ older) cuts.is ∙ append_assoc cuts.newer cuts.rest older in
    let here = subst (λ l. InRound c r p l older) whole at in
    let count = cuts.count in
    let ih = rounds c r p k cuts.rest older (round_before c r p cuts.newer cuts.rest older here) (omega (arith, count)) in
    let split = ap (λ l. length (part p l)) cuts.is ∙ ap length (filter-append (λ e. e.by == p) cuts.newer cuts.rest) ∙ length-append (part p cuts.newer) (part p cuts.rest) in
    let more = one_round c r p cuts.newer cuts.rest older here (omega (arith, split, count, next, long)) in
    let same = ap (granted_count r p) cuts.is in
    omega (arith, ih, more, same)

pub hosts_grant : HostsGrantInTurn
hosts_grant c r p newer older inside legal turns high reads grants begun asked long = go (fence_owner p (newer ++ older)) refl
  where
    late : (fence_owner p (newer ++ older) ≡ Some r → ⊥) → ⊥
    late other =
        let many = rounds c r p (r + 1) newer older (record { inside = inside; legal = legal; turns = turns; high = high; reads = reads; grants = grants; other = other; begun = begun; asked = asked }) long in
        let few = count_few r (λ w. has (λ e. is_grant_to p w e.by e.verb) newer) in
        omega (arith, many, few)

    go : (o : Option ℕ) → fence_owner p (newer ++ older) ≡ o → o ≡ Some r
    go None is = absurd (late (λ owns. (let k = sym is ∙ owns in cc)))
    go (Some w) is = elim (cases_eq w r) [
      | inl same ↦ ap Some same
      | inr other ↦ absurd (late (λ owns. other (same_some w r (sym is ∙ owns))))
    ]
