-- So its leaderships never end.
use Rattle.std.proofs.Common.{◌≡◌, ℕ, ◌%◌, ◌<◌, ◌≤◌, Bool, true, false, ◌&&◌, ◌==◌, List, ◌∷◌, refl, sym, ◌∙◌, ap, arith, Some, None, subst, eqb-true, true≢false, ◌||◌}
use Rattle.std.specs.declared.option.Option.{Option}
use Rattle.std.specs.Prelude.{is_some}
use Rattle.std.proofs.lemmas.Bool.{and_parts, le-ltb}
use Rattle.mu_model.specs.declared.config.Config.{Config}
use Rattle.mu_model.specs.declared.event.Answer.{Answer}
use Rattle.mu_model.specs.declared.event.Event.{Event}
use Rattle.mu_model.specs.declared.event.Target.{Target}
use Rattle.mu_model.specs.declared.event.Verb.{Verb}
use Rattle.mu_model.specs.Allowed.{Needs}
use Rattle.mu_model.specs.Answers.{drained, entered_or_lost, put_answer}
use Rattle.mu_model.specs.Entering.{open_target}
use Rattle.mu_model.specs.Histories.{newer_or, part}
use Rattle.mu_model.specs.Leaderships.{grant_at_joining, grant_for, is_above, is_changed, is_first_ask, is_over, noted_grant, proposal_number}
use Rattle.mu_model.specs.Legal.{IsLegalHistory}
use Rattle.mu_model.specs.Regions.{fence, fence_closing, fence_grant, fence_owner, fence_target, region_min}
use Rattle.mu_model.specs.Serving.{has_target, names_target}
use Rattle.mu_model.proofs.Basics.{same_number, same_some}
use Rattle.mu_model.proofs.Owned.{noted-part}
use Rattle.mu_agree.proofs.Access.{entered_facts, last_close, must_drain-part, no_target, open_target-part}
use Rattle.mu_agree.proofs.Entering.{slot_entered}
use Rattle.mu_agree.proofs.Legal.{event_after, legal_older}
use Rattle.mu_agree.proofs.Members.{joined_under-part, over-part}
use Rattle.mu_agree.specs.Moments.{AtEachMoment}
use Rattle.mu_alive.specs.Turns.{AreInTurn, IsInTurn, TurnsLeadOn}
use Rattle.mu_alive.proofs.TurnOwners.{IsHighest, NotesStanding, StaysOpen, no_grant, notes_standing, stays_open, seen_again, top_induction}
use Rattle.mu_alive.proofs.Turns.{turn_induction, turns_before}
use Rattle.mu_alive.proofs.TurnNumbers.{are_first, own_number, region_low}
use Rattle.mu_model.proofs.Putting.{MayEnter, put_facts}
use Rattle.mu_alive.proofs.Cutting.{moments_of}

-- an open `Enter` of r holds the region, undrained, under the noted grant
pub record HoldsOpen (r : ℕ) (owner : Option ℕ) (drain : Bool) (note : Option ℕ) (grant : ℕ) : Type 0 where
  pub owns : owner ≡ Some r
  pub undrained : drain ≡ false
  pub noted : note ≡ Some grant

abbrev pub OpensHeld : ℕ → ℕ → List Event → Type 0
OpensHeld r p past = (t : Target) → open_target r p past ≡ Some t → has_target t ≡ true → HoldsOpen r (fence_owner p past) (drained r p past) (noted_grant r p past) (fence_grant p past)

opens_ask : (c : Config) (r p by q : ℕ) (past : List Event) → OpensHeld r p past → (t : Bool) → is_first_ask r by (Verb.Ask q) ≡ t → OpensHeld r p (event_after c past by (Verb.Ask q) ∷ past)
opens_ask c r p by q past s true h = rw h (λ t e. cc)
opens_ask c r p by q past s false h = rw h s

opens_fence : (c : Config) (r p by q : ℕ) (past : List Event) → StaysOpen r p past → OpensHeld r p past → (t : Bool) → (by == r) ≡ t → (u : Bool) → (q == p) ≡ u → OpensHeld r p (event_after c past by (Verb.Fence q) ∷ past)
opens_fence c r p by q past top s true ht true hu =
    rw (ht, hu) (λ t e f. let k = s t e f in record { owns = k.owns; undrained = k.undrained; noted = subst (λ x. grant_for r (Some (fence x past)) ≡ Some (fence_grant p past)) (sym (eqb-true q p hu)) (seen_again r p past top k.owns) })
opens_fence c r p by q past top s true ht false hu = rw (ht, hu) s
opens_fence c r p by q past top s false ht u hu = rw ht s

opens_put_min : (c : Config) (r p by q b : ℕ) (past : List Event) → OpensHeld r p past → (t : Bool) → ((by == r) && (q == p)) ≡ t → OpensHeld r p (event_after c past by (Verb.PutMin q b) ∷ past)
opens_put_min c r p by q b past s true h = rw h (λ t e f. absurd (no_target t e f))
opens_put_min c r p by q b past s false h = rw h s

opens_put_slot : (c : Config) (r p by q i b v : ℕ) (past : List Event) → OpensHeld r p past → (t : Bool) → ((by == r) && (q == p)) ≡ t → OpensHeld r p (event_after c past by (Verb.PutSlot q i b v) ∷ past)
opens_put_slot c r p by q i b v past s true h = rw h (λ t e f. absurd (no_target t e f))
opens_put_slot c r p by q i b v past s false h = rw h s

opens_drain : (c : Config) (r p by : ℕ) (past : List Event) → StaysOpen r p past → Needs c by (part by past) Verb.Drain → OpensHeld r p past → (t : Bool) → (by == p) ≡ t → OpensHeld r p (event_after c past by Verb.Drain ∷ past)
opens_drain c r p by past top may s true h = λ t e f.
    let k = s t e f in
    let drains = sym (must_drain-part p past) ∙ (subst (λ x. Needs c x (part x past) Verb.Drain) (eqb-true by p h) may).0 in
    absurd (true≢false (sym (and_parts (fence_closing p past) (names_target (last_close p past)) drains).0 ∙ top k.owns))
opens_drain c r p by past top may s false h = rw h s

opens_grant : (c : Config) (r p by q : ℕ) (past : List Event) → StaysOpen r p past → Needs c by (part by past) (Verb.Grant q) → OpensHeld r p past → (t : Bool) → (by == p) ≡ t → OpensHeld r p (event_after c past by (Verb.Grant q) ∷ past)
opens_grant c r p by q past top may s true h = λ t e f. absurd (no_grant c r p by q past top may h (s t e f).owns)
opens_grant c r p by q past top may s false h = rw h s

pub opens_enter : (r p by q : ℕ) (t : Target) (past : List Event) → NotesStanding r p past → OpensHeld r p past
    → (answer : Answer) → entered_or_lost (noted_grant by q past) (fence q past) ≡ answer → (x : Bool) → (by == r) ≡ x → (y : Bool) → (q == p) ≡ y
    → OpensHeld r p (record { by = by; verb = Verb.Enter q t; answer = answer } ∷ past)
opens_enter r p by q t past n s Answer.Entered e true hx true hy =
    let at_p = subst (λ z. entered_or_lost (noted_grant by z past) (fence z past) ≡ Answer.Entered) (eqb-true q p hy) e in
    let at_r = subst (λ z. entered_or_lost (noted_grant z p past) (fence p past) ≡ Answer.Entered) (eqb-true by r hx) at_p in
    let k = entered_facts (noted_grant r p past) (fence p past) at_r in
    let one = n k.g k.is in
    rw (hx, hy) (λ t' e' f. record { owns = one.1; undrained = refl; noted = k.is ∙ ap Some one.0 })
opens_enter r p by q t past n s Answer.Entered e true hx false hy = rw (hx, hy) s
opens_enter r p by q t past n s Answer.Entered e false hx y hy = rw hx s
opens_enter r p by q t past n s answer e true hx true hy = rw (hx, hy) (λ t' e' f. absurd (no_target t' e' f))
opens_enter r p by q t past n s answer e true hx false hy = rw (hx, hy) s
opens_enter r p by q t past n s answer e false hx y hy = rw hx s

pub opens_step : (c : Config) (r p by : ℕ) (v : Verb) (past : List Event) → StaysOpen r p past → NotesStanding r p past → Needs c by (part by past) v → OpensHeld r p past → OpensHeld r p (event_after c past by v ∷ past)
opens_step c r p by (Verb.Ask q) past top n may s = opens_ask c r p by q past s (is_first_ask r by (Verb.Ask q)) refl
opens_step c r p by (Verb.Fence q) past top n may s = opens_fence c r p by q past top s (by == r) refl (q == p) refl
opens_step c r p by (Verb.Enter q t) past top n may s = opens_enter r p by q t past n s (entered_or_lost (noted_grant by q past) (fence q past)) refl (by == r) refl (q == p) refl
opens_step c r p by (Verb.PutMin q b) past top n may s = opens_put_min c r p by q b past s ((by == r) && (q == p)) refl
opens_step c r p by (Verb.PutSlot q i b v) past top n may s = opens_put_slot c r p by q i b v past s ((by == r) && (q == p)) refl
opens_step c r p by Verb.Drain past top n may s = opens_drain c r p by past top may s (by == p) refl
opens_step c r p by (Verb.Grant q) past top n may s = opens_grant c r p by q past top may s (by == p) refl
opens_step c r p by v past top n may s = s

pub opens_held : (c : Config) (r p : ℕ) (past : List Event) → IsLegalHistory c past → AreInTurn past → IsHighest r past → OpensHeld r p past
opens_held c r p = top_induction c r (OpensHeld r p) (λ t e. cc) (λ past by v legal turns turn high may s. opens_step c r p by v past (stays_open c r p past legal turns high) (notes_standing c r p past legal turns high) may.may s)

-- a member grants to r, and r notes it
pub record HoldsMember (r : ℕ) (joined : Option ℕ) (owner : Option ℕ) (note : Option ℕ) (grant : ℕ) : Type 0 where
  pub one : joined ≡ Some grant
  pub owns : owner ≡ Some r
  pub noted : note ≡ Some grant

abbrev pub MembersHeld : ℕ → ℕ → List Event → Type 0
MembersHeld r p past = (o : Option ℕ) → grant_at_joining r p past ≡ Some o → HoldsMember r o (fence_owner p past) (noted_grant r p past) (fence_grant p past)

members_ask : (c : Config) (r p by q : ℕ) (past : List Event) → MembersHeld r p past → (t : Bool) → is_first_ask r by (Verb.Ask q) ≡ t → MembersHeld r p (event_after c past by (Verb.Ask q) ∷ past)
members_ask c r p by q past s true h = rw h (λ o e. cc)
members_ask c r p by q past s false h = rw h s

members_fence : (c : Config) (r p by q : ℕ) (past : List Event) → StaysOpen r p past → MembersHeld r p past → (t : Bool) → (by == r) ≡ t → (u : Bool) → (q == p) ≡ u → MembersHeld r p (event_after c past by (Verb.Fence q) ∷ past)
members_fence c r p by q past top s true ht true hu =
    rw (ht, hu) (λ j e. let k = s j e in record { one = k.one; owns = k.owns; noted = subst (λ x. grant_for r (Some (fence x past)) ≡ Some (fence_grant p past)) (sym (eqb-true q p hu)) (seen_again r p past top k.owns) })
members_fence c r p by q past top s true ht false hu = rw (ht, hu) s
members_fence c r p by q past top s false ht u hu = rw ht s

members_grant : (c : Config) (r p by q : ℕ) (past : List Event) → StaysOpen r p past → Needs c by (part by past) (Verb.Grant q) → MembersHeld r p past → (t : Bool) → (by == p) ≡ t → MembersHeld r p (event_after c past by (Verb.Grant q) ∷ past)
members_grant c r p by q past top may s true h = λ o e. absurd (no_grant c r p by q past top may h (s o e).owns)
members_grant c r p by q past top may s false h = rw h s

joins_now : (r grant : ℕ) (n : Option ℕ) (j : Option (Option ℕ)) (o owner : Option ℕ) → ((x : Option ℕ) → j ≡ Some x → HoldsMember r x owner n grant) → owner ≡ Some r → n ≡ Some grant → newer_or j (Some n) ≡ Some o → HoldsMember r o owner n grant
joins_now r grant n None o owner s owns noted e = record { one = sym (same_some n o e) ∙ noted; owns = owns; noted = noted }
joins_now r grant n (Some x) o owner s owns noted e = s o e

-- the put of a number finds an open `Enter`
min_open : (c : Config) (r p by q b : ℕ) (past : List Event) → OpensHeld r p past → Needs c by (part by past) (Verb.PutMin q b) → (by == r) ≡ true → (q == p) ≡ true → HoldsOpen r (fence_owner p past) (drained r p past) (noted_grant r p past) (fence_grant p past)
min_open c r p by q b past opens may hx hy =
    let at_r = subst (λ z. Needs c z (part z past) (Verb.PutMin q b)) (eqb-true by r hx) may in
    let at_p = subst (λ z. Needs c r (part r past) (Verb.PutMin z b)) (eqb-true q p hy) at_r in
    opens Target.Min (sym (open_target-part r p past) ∙ at_p.1.1.0) refl

members_put : (c : Config) (r p by q b : ℕ) (past : List Event) → OpensHeld r p past → Needs c by (part by past) (Verb.PutMin q b) → MembersHeld r p past
    → (answer : Answer) → (x : Bool) → (by == r) ≡ x → (y : Bool) → (q == p) ≡ y → MembersHeld r p (record { by = by; verb = Verb.PutMin q b; answer = answer } ∷ past)
members_put c r p by q b past opens may s Answer.Done true hx true hy =
    let k = min_open c r p by q b past opens may hx hy in
    rw (hx, hy) (λ o e. joins_now r (fence_grant p past) (noted_grant r p past) (grant_at_joining r p past) o (fence_owner p past) s k.owns k.noted e)
members_put c r p by q b past opens may s Answer.Done true hx false hy = rw (hx, hy) s
members_put c r p by q b past opens may s Answer.Done false hx y hy = rw hx s
members_put c r p by q b past opens may s answer x hx y hy = s

pub members_step : (c : Config) (r p by : ℕ) (v : Verb) (past : List Event) → StaysOpen r p past → OpensHeld r p past → Needs c by (part by past) v → MembersHeld r p past → MembersHeld r p (event_after c past by v ∷ past)
members_step c r p by (Verb.Ask q) past top opens may s = members_ask c r p by q past s (is_first_ask r by (Verb.Ask q)) refl
members_step c r p by (Verb.Fence q) past top opens may s = members_fence c r p by q past top s (by == r) refl (q == p) refl
members_step c r p by (Verb.PutMin q b) past top opens may s = members_put c r p by q b past opens may s (put_answer (drained by q past)) (by == r) refl (q == p) refl
members_step c r p by (Verb.Grant q) past top opens may s = members_grant c r p by q past top may s (by == p) refl
members_step c r p by v past top opens may s = s

pub members_held : (c : Config) (r p : ℕ) (past : List Event) → IsLegalHistory c past → AreInTurn past → IsHighest r past → MembersHeld r p past
members_held c r p = top_induction c r (MembersHeld r p) (λ o e. cc) (λ past by v legal turns turn high may s. members_step c r p by v past (stays_open c r p past legal turns high) (opens_held c r p past legal turns high) may.may s)

-- so a leadership never ends
abbrev pub GoesOn : ℕ → List Event → Type 0
GoesOn a past = is_over a past ≡ false

pub over_ask : (c : Config) (a by q : ℕ) (past : List Event) → GoesOn a past → (t : Bool) → is_first_ask a by (Verb.Ask q) ≡ t → GoesOn a (event_after c past by (Verb.Ask q) ∷ past)
over_ask c a by q past s true h = rw h refl
over_ask c a by q past s false h = rw h s

pub still_on : (x y : Bool) → x ≡ false → y ≡ false → (x || y) ≡ false
still_on true y h k = absurd (true≢false h)
still_on false y h k = k

pub not_above : (o : Option ℕ) (x : ℕ) → ((b : ℕ) → o ≡ Some b → x ≤ b) → is_above o x ≡ false
not_above None x s = refl
not_above (Some b) x s = le-ltb b x (s b refl)

pub over_enter : (a by q : ℕ) (t : Target) (past : List Event) → GoesOn a past → ((by == a) ≡ true → entered_or_lost (noted_grant by q past) (fence q past) ≡ Answer.Entered) → (answer : Answer) → entered_or_lost (noted_grant by q past) (fence q past) ≡ answer → (x : Bool) → (by == a) ≡ x
    → GoesOn a (record { by = by; verb = Verb.Enter q t; answer = answer } ∷ past)
over_enter a by q t past s in' (Answer.Lost f) e true h = absurd (let k = sym (in' h) ∙ e in cc)
over_enter a by q t past s in' (Answer.Lost f) e false h = rw h s
over_enter a by q t past s in' answer e x h = s

pub over_put_min : (c : Config) (a by q b : ℕ) (past : List Event) → GoesOn a past → (d : Bool) → ((by == a) && d) ≡ false → GoesOn a (record { by = by; verb = Verb.PutMin q b; answer = put_answer d } ∷ past)
over_put_min c a by q b past s true h = still_on (by == a) (is_over a past) (true_and (by == a) h) s
  where
    true_and : (x : Bool) → (x && true) ≡ false → x ≡ false
    true_and true h = h
    true_and false h = refl
over_put_min c a by q b past s false h = s

pub over_put_slot : (c : Config) (a by q i b v : ℕ) (past : List Event) → GoesOn a past → (d : Bool) → ((by == a) && d) ≡ false → GoesOn a (record { by = by; verb = Verb.PutSlot q i b v; answer = put_answer d } ∷ past)
over_put_slot c a by q i b v past s true h = still_on (by == a) (is_over a past) (true_and (by == a) h) s
  where
    true_and : (x : Bool) → (x && true) ≡ false → x ≡ false
    true_and true h = h
    true_and false h = refl
over_put_slot c a by q i b v past s false h = s

-- so a leadership never ends: its events come while nobody above has asked
none_both : (x y : Bool) → (x ≡ true → y ≡ false) → (x && y) ≡ false
none_both true y h = h refl
none_both false y h = refl

unchanged : (r p : ℕ) (past : List Event) (j : Option (Option ℕ)) → (is_some (noted_grant r p past) ≡ true → fence_closing p past ≡ false) → ((o : Option ℕ) → j ≡ Some o → HoldsMember r o (fence_owner p past) (noted_grant r p past) (fence_grant p past)) → is_changed j (fence p past) ≡ false
unchanged r p past None top s = refl
unchanged r p past (Some x) top s =
    let k = s x refl in
    same x (fence_closing p past) k.one (top (ap is_some k.noted))
  where
    same : (x : Option ℕ) (t : Bool) → x ≡ Some (fence_grant p past) → t ≡ false → is_changed (Some x) (record { owner = fence_owner p past; grant = fence_grant p past; closing = t; target = fence_target p past }) ≡ false
    same x t hx ht = rw (hx, ht, same_number (fence_grant p past)) refl

-- what holds when r makes an event: a region whose grant it noted isn't closing, and has no minimum above its number
pub record AtTurn (c : Config) (r : ℕ) (past : List Event) : Type 0 where
  pub top : (p : ℕ) → is_some (noted_grant r p past) ≡ true → fence_closing p past ≡ false
  pub notes : (p : ℕ) → NotesStanding r p past
  pub opens : (p : ℕ) → OpensHeld r p past
  pub members : (p : ℕ) → MembersHeld r p past
  pub within : (p b : ℕ) → is_some (noted_grant r p past) ≡ true → proposal_number r past ≡ Some b → region_min p past ≤ b

noted_open : (r p : ℕ) (past : List Event) → StaysOpen r p past → NotesStanding r p past → is_some (noted_grant r p past) ≡ true → fence_closing p past ≡ false
noted_open r p past top notes some = go (noted_grant r p past) refl some
  where
    go : (o : Option ℕ) → noted_grant r p past ≡ o → is_some o ≡ true → fence_closing p past ≡ false
    go None is none = absurd (true≢false (sym none))
    go (Some g) is _ = top (notes g is).1

at_turn : (c : Config) (r by : ℕ) (v : Verb) (past : List Event) → c.replicas < 8 → IsLegalHistory c past → AreInTurn past → IsInTurn past (event_after c past by v) → (by == r) ≡ true → AtTurn c r past
at_turn c r by v past few legal turns turn own = record {
  top = λ p. noted_open r p past (stays_open c r p past legal turns high) (notes_standing c r p past legal turns high);
  notes = λ p. notes_standing c r p past legal turns high;
  opens = λ p. opens_held c r p past legal turns high;
  members = λ p. members_held c r p past legal turns high;
  within = λ p b _ is. (let low = region_low c r p past few legal turns high in let number = own_number r past (are_first c past few legal turns) b is in omega (arith, low, number));
}
  where
    high : IsHighest r past
    high w above = turn.last w (let same = eqb-true by r own in omega (arith, same, above))

-- who may enter has noted the grant that stands
enters : (c : Config) (r p : ℕ) (t : Target) (past : List Event) → AtTurn c r past → MayEnter c r (part r past) p t → (noted_grant r p past ≡ Some (fence_grant p past)) × (fence_owner p past ≡ Some r)
enters c r p Target.None past at may = absurd may.0
enters c r p Target.Min past at may = go (noted_grant r p past) refl (subst (λ o. is_some o ≡ true) (noted-part r p past) may.0)
  where
    go : (o : Option ℕ) → noted_grant r p past ≡ o → is_some o ≡ true → (noted_grant r p past ≡ Some (fence_grant p past)) × (fence_owner p past ≡ Some r)
    go None is some = absurd (true≢false (sym some))
    go (Some g) is some = let k = at.notes p g is in (is ∙ ap Some k.0, k.1)
enters c r p (Target.Place x) past at may = go (grant_at_joining r p past) refl (subst (λ j. is_some j ≡ true) (joined_under-part r p past) may.0)
  where
    go : (j : Option (Option ℕ)) → grant_at_joining r p past ≡ j → is_some j ≡ true → (noted_grant r p past ≡ Some (fence_grant p past)) × (fence_owner p past ≡ Some r)
    go None is some = absurd (true≢false (sym some))
    go (Some o) is some = let k = at.members p o is in (k.noted, k.owns)

not_lost : (r p : ℕ) (past : List Event) (n : Option ℕ) → (is_some (noted_grant r p past) ≡ true → fence_closing p past ≡ false) → n ≡ Some (fence_grant p past) → noted_grant r p past ≡ Some (fence_grant p past) → entered_or_lost n (fence p past) ≡ Answer.Entered
not_lost r p past n top noted here = is n (fence_closing p past) noted (top (ap is_some here))
  where
    is : (n : Option ℕ) (t : Bool) → n ≡ Some (fence_grant p past) → t ≡ false → entered_or_lost n (record { owner = fence_owner p past; grant = fence_grant p past; closing = t; target = fence_target p past }) ≡ Answer.Entered
    is n t hn ht = rw (hn, ht, same_number (fence_grant p past)) refl

pub over_step : (c : Config) (r by : ℕ) (v : Verb) (past : List Event) → ((by == r) ≡ true → AtTurn c r past) → Needs c by (part by past) v → GoesOn r past → GoesOn r (event_after c past by v ∷ past)
over_step c r by (Verb.Ask q) past at may s = over_ask c r by q past s (is_first_ask r by (Verb.Ask q)) refl
over_step c r by (Verb.Fence q) past at may s =
    still_on ((by == r) && is_changed (grant_at_joining r q past) (fence q past)) (is_over r past)
    (none_both (by == r) (is_changed (grant_at_joining r q past) (fence q past)) (λ own. unchanged r q past (grant_at_joining r q past) ((at own).top q) ((at own).members q))) s
over_step c r by (Verb.Min q) past at may s =
    still_on ((by == r) && is_above (proposal_number r past) (region_min q past)) (is_over r past)
    (none_both (by == r) (is_above (proposal_number r past) (region_min q past)) (λ own. not_above (proposal_number r past) (region_min q past) (λ b e. (at own).within q b (subst (λ o. is_some o ≡ true) (noted-part r q past) (subst (λ z. Needs c z (part z past) (Verb.Min q)) (eqb-true by r own) may).1.0) e))) s
over_step c r by (Verb.Enter q t) past at may s =
    over_enter r by q t past s
    (λ h.
    let at_r = subst (λ z. Needs c z (part z past) (Verb.Enter q t)) (eqb-true by r h) may in
    let k = enters c r q t past (at h) at_r.1 in
    not_lost r q past (noted_grant by q past) ((at h).top q) (ap (λ z. noted_grant z q past) (eqb-true by r h) ∙ k.0) k.0)
    (entered_or_lost (noted_grant by q past) (fence q past)) refl (by == r) refl
over_step c r by (Verb.PutMin q b) past at may s =
    over_put_min c r by q b past s (drained by q past)
    (none_both (by == r) (drained by q past) (λ h. ap (λ z. drained z q past) (eqb-true by r h) ∙ (min_open c r q by q b past ((at h).opens q) may h (same_number q)).undrained))
over_step c r by (Verb.PutSlot q i b v) past at may s =
    over_put_slot c r by q i b v past s (drained by q past)
    (none_both (by == r) (drained by q past)
    (λ h.
    let at_r = subst (λ z. Needs c z (part z past) (Verb.PutSlot q i b v)) (eqb-true by r h) may in
    ap (λ z. drained z q past) (eqb-true by r h)
    ∙ ((at h).opens q (Target.Place (i % c.ring)) (sym (open_target-part r q past) ∙ slot_entered c r q i b v (part r past) (put_facts c r (part r past) q i b v at_r)) refl).undrained))
over_step c r by v past at may s = s

pub turns_lead_on : TurnsLeadOn
turns_lead_on c past r legal turns few =
    turn_induction c (GoesOn r) refl (λ past by v h turns turn may s. over_step c r by v past (λ own. at_turn c r by v past few h turns turn own) may.may s) past legal turns

-- at each moment of each part
pub lead_on_moments : (c : Config) (r : ℕ) (past : List Event) → IsLegalHistory c past → AreInTurn past → c.replicas < 8 → AtEachMoment (λ now. is_over r now ≡ false) (part r past)
lead_on_moments c r past legal turns few = moments_of r (λ now. is_over r now ≡ false) past (λ newer older is. over-part r older ∙ turns_lead_on c older r (legal_older c newer older (subst (IsLegalHistory c) is legal)) (turns_before newer older (subst AreInTurn is turns)) few)
