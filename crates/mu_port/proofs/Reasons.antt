-- Each of the four answers has its cause.
use Rattle.std.proofs.Common.{◌≡◌, ◌≢◌, ◌⊎◌, inl, inr, ℕ, ◌+◌, ◌<◌, ◌≤◌, ◌==◌, ◌&&◌, Bool, true, false, not, cond, List, length, Some, None, refl, sym, ap, ◌∙◌, subst, arith, eqb-true, true≢false}
use Rattle.std.proofs.lemmas.Bool.{eqb-false, lt-ltb, ltb-true}
use Rattle.std.proofs.lemmas.Option.{slice_get_cases, slice_get_past}
use Rattle.std.specs.Prelude.{get_or, if◌then◌else◌, nat_lt}
use Rattle.std.specs.declared.option.Option.{Option}
use Rattle.std.specs.List.{slice_get}
use Rattle.mu_model.specs.declared.config.Config.{Config}
use Rattle.mu_model.specs.declared.event.Answer.{Answer}
use Rattle.mu_model.specs.declared.event.Event.{Event}
use Rattle.mu_model.specs.declared.event.Fence.{Fence}
use Rattle.mu_model.specs.declared.event.Target.{Target}
use Rattle.mu_model.specs.declared.event.Verb.{Verb}
use Rattle.mu_model.specs.Answers.{answer_of, drained, entered_or_lost, put_answer, shown}
use Rattle.mu_model.specs.Leaderships.{noted_grant}
use Rattle.mu_model.specs.Regions.{fence, region_log}
use Rattle.mu_port.specs.Causes.{HasCauses}
use Rattle.mu_model.proofs.Basics.{same_some}
use Rattle.mu_model.proofs.Owned.{noted-part}

lost_is : (f g : Fence) → Answer.Lost f ≡ Answer.Lost g → f ≡ g
lost_is f g e = cc

-- an `Enter` is lost exactly if the fence found is closing or has another grant than the noted one
abbrev IsOther : Option ℕ → Fence → Type 0
IsOther noted f = (f.closing ≡ true) ⊎ (noted ≢ Some f.grant)

why_lost : (noted : Option ℕ) (now f : Fence) → entered_or_lost noted now ≡ Answer.Lost f → (f ≡ now) × IsOther noted f
why_lost None now f e = (sym (lost_is now f e), inr (λ k. cc))
why_lost (Some g) now f e = go (now.closing) refl (now.grant == g) refl e
  where
    go : (t : Bool) → now.closing ≡ t → (u : Bool) → (now.grant == g) ≡ u → cond (not t && u) Answer.Entered (Answer.Lost now) ≡ Answer.Lost f → (f ≡ now) × IsOther (Some g) f
    go true h u k e = let same = lost_is now f e in (sym same, inl (subst (λ x. x.closing ≡ true) same h))
    go false h true k e = cc
    go false h false k e = let same = lost_is now f e in (sym same, inr (subst (λ x. Some g ≢ Some x.grant) same (λ i. eqb-false now.grant g k (sym (same_some g now.grant i)))))

gets_lost : (noted : Option ℕ) (now : Fence) → IsOther noted now → entered_or_lost noted now ≡ Answer.Lost now
gets_lost None now other = refl
gets_lost (Some g) now other = go (now.closing) refl (now.grant == g) refl other
  where
    go : (t : Bool) → now.closing ≡ t → (u : Bool) → (now.grant == g) ≡ u → IsOther (Some g) now → entered_or_lost (Some g) now ≡ Answer.Lost now
    go true h u k o = rw h refl
    go false h true k (inl o) = absurd (true≢false (sym o ∙ h))
    go false h true k (inr o) = absurd (o (ap Some (sym (eqb-true now.grant g k))))
    go false h false k o = rw (h, k) refl

-- two answers differ if one passes a test and the other does not
differ : {A : Type 0} (test : Answer → Bool) (a b : Answer) → test a ≡ true → test b ≡ false → a ≡ b → A
differ test a b passes fails same = absurd (true≢false (sym passes ∙ (ap test same ∙ fails)))

-- what an `Enter`, a put and a look may find
abbrev of_enter : Answer → Bool
of_enter Answer.Entered = true
of_enter (Answer.Lost f) = true
of_enter _ = false

abbrev of_put : Answer → Bool
of_put Answer.Done = true
of_put Answer.Missed = true
of_put _ = false

abbrev of_look : Answer → Bool
of_look Answer.Past = true
of_look Answer.Empty = true
of_look (Answer.Entry b v) = true
of_look _ = false

finds_enter : (noted : Option ℕ) (now : Fence) → of_enter (entered_or_lost noted now) ≡ true
finds_enter None now = refl
finds_enter (Some g) now = go (not now.closing && (now.grant == g))
  where
    go : (t : Bool) → of_enter (cond t Answer.Entered (Answer.Lost now)) ≡ true
    go true = refl
    go false = refl

finds_put : (d : Bool) → of_put (put_answer d) ≡ true
finds_put true = refl
finds_put false = refl

abbrev look : ℕ → List (ℕ × ℕ) → ℕ → Answer
look ring log i = if nat_lt (i + ring) (length log) then Answer.Past else shown (slice_get log i)

finds_look : (ring : ℕ) (log : List (ℕ × ℕ)) (i : ℕ) → of_look (look ring log i) ≡ true
finds_look ring log i = go (nat_lt (i + ring) (length log)) (slice_get log i)
  where
    go : (t : Bool) (entry : Option (ℕ × ℕ)) → of_look (cond t Answer.Past (shown entry)) ≡ true
    go true entry = refl
    go false None = refl
    go false (Some entry) = refl

enters : (c : Config) (r p : ℕ) (t : Target) (past : List Event) → HasCauses c r past (Verb.Enter p t) (entered_or_lost (noted_grant r p past) (fence p past))
enters c r p t past = record {
  lost = λ f. (
    λ e. let why = why_lost (noted_grant r p past) (fence p past) f e in record { found = why.0; other = subst (λ n. IsOther n f) (sym (noted-part r p past)) why.1 },
    λ o. subst (λ g. entered_or_lost (noted_grant r p past) (fence p past) ≡ Answer.Lost g) (sym o.found)
        (gets_lost (noted_grant r p past) (fence p past) (subst (λ g. IsOther (noted_grant r p past) g) o.found (subst (λ n. IsOther n f) (noted-part r p past) o.other))),
  );
  missed = (differ of_enter now Answer.Missed finds refl, λ o. absurd o);
  overwritten = (differ of_enter now Answer.Past finds refl, λ o. absurd o);
  empty = (differ of_enter now Answer.Empty finds refl, λ o. absurd o);
}
  where
    now : Answer
    now = entered_or_lost (noted_grant r p past) (fence p past)

    finds : of_enter (entered_or_lost (noted_grant r p past) (fence p past)) ≡ true
    finds = finds_enter (noted_grant r p past) (fence p past)

why_missed : (d : Bool) → put_answer d ≡ Answer.Missed → d ≡ true
why_missed true e = refl
why_missed false e = cc

why_past : (ring : ℕ) (log : List (ℕ × ℕ)) (i : ℕ) → look ring log i ≡ Answer.Past → i + ring < length log
why_past ring log i e = go (nat_lt (i + ring) (length log)) refl (slice_get log i) e
  where
    go : (t : Bool) → nat_lt (i + ring) (length log) ≡ t → (entry : Option (ℕ × ℕ)) → cond t Answer.Past (shown entry) ≡ Answer.Past → i + ring < length log
    go true h entry e = ltb-true (i + ring) (length log) h
    go false h None e = cc
    go false h (Some entry) e = cc

why_empty : (ring : ℕ) (log : List (ℕ × ℕ)) (i : ℕ) → look ring log i ≡ Answer.Empty → length log ≤ i
why_empty ring log i e = go (nat_lt (i + ring) (length log)) (slice_get_cases log i).1 e
  where
    go : (t : Bool) → ((x : ℕ × ℕ) × (i < length log) × (slice_get log i ≡ Some x) × (get_or log i x ≡ x)) ⊎ ((length log ≤ i) × (slice_get log i ≡ None)) → cond t Answer.Past (shown (slice_get log i)) ≡ Answer.Empty → length log ≤ i
    go true cases e = cc
    go false (inl k) e = let found : Answer.Entry k.0.0 k.0.1 ≡ Answer.Empty = subst (λ x. shown x ≡ Answer.Empty) k.2 e in cc
    go false (inr k) e = k.0

gets_empty : (ring : ℕ) (log : List (ℕ × ℕ)) (i : ℕ) → length log ≤ i → look ring log i ≡ Answer.Empty
gets_empty ring log i short =
    let within : nat_lt (i + ring) (length log) ≡ false = ltb-from (i + ring) (length log) (omega (arith, short)) in
    rw (within, slice_get_past log i short) refl
  where
    ltb-from : (a b : ℕ) → b ≤ a → nat_lt a b ≡ false
    ltb-from a b low = go (nat_lt a b) refl
      where
        go : (t : Bool) → nat_lt a b ≡ t → t ≡ false
        go true h = let less = ltb-true a b h in absurd (omega (arith, less, low))
        go false h = refl

looks : (c : Config) (r p i : ℕ) (past : List Event) → HasCauses c r past (Verb.Look p i) (look c.ring (region_log p past) i)
looks c r p i past = record {
  lost = λ f. (differ of_look now (Answer.Lost f) finds refl, λ o. absurd o);
  missed = (differ of_look now Answer.Missed finds refl, λ o. absurd o);
  overwritten = (why_past c.ring (region_log p past) i, λ late. rw (lt-ltb (i + c.ring) (length (region_log p past)) late) refl);
  empty = (why_empty c.ring (region_log p past) i, gets_empty c.ring (region_log p past) i);
}
  where
    now : Answer
    now = look c.ring (region_log p past) i

    finds : of_look (look c.ring (region_log p past) i) ≡ true
    finds = finds_look c.ring (region_log p past) i

-- a put finds no such answer
no_put : {A : Type 0} (d : Bool) (a : Answer) → of_put a ≡ false → put_answer d ≡ a → A
no_put d a = differ of_put (put_answer d) a (finds_put d)

pub has_causes : (c : Config) (r : ℕ) (past : List Event) (verb : Verb) → HasCauses c r past verb (answer_of c r past verb)
has_causes c r past (Verb.Enter p t) = enters c r p t past
has_causes c r past (Verb.Look p i) = looks c r p i past
has_causes c r past (Verb.PutMin p b) = record {
  lost = λ f. (no_put (drained r p past) (Answer.Lost f) refl, λ o. absurd o);
  missed = (why_missed (drained r p past), λ o. ap put_answer o);
  overwritten = (no_put (drained r p past) Answer.Past refl, λ o. absurd o);
  empty = (no_put (drained r p past) Answer.Empty refl, λ o. absurd o);
}
has_causes c r past (Verb.PutSlot p i b v) = record {
  lost = λ f. (no_put (drained r p past) (Answer.Lost f) refl, λ o. absurd o);
  missed = (why_missed (drained r p past), λ o. ap put_answer o);
  overwritten = (no_put (drained r p past) Answer.Past refl, λ o. absurd o);
  empty = (no_put (drained r p past) Answer.Empty refl, λ o. absurd o);
}
has_causes c r past _ = record {
  lost = λ f. (λ e. cc, λ o. absurd o);
  missed = (λ e. cc, λ o. absurd o);
  overwritten = (λ e. cc, λ o. absurd o);
  empty = (λ e. cc, λ o. absurd o);
}
