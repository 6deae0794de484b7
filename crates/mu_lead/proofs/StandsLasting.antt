-- What stands at a place lasts along the listing, with the tables.
use Rattle.mu_knowledge.proofs.Firsts.{first_in_is}
use Rattle.mu_knowledge.specs.Offers.{IsFirst}
use Rattle.mu_lead.proofs.Asking.{begins_not}
use Rattle.mu_lead.proofs.Bringing.{put_event}
use Rattle.mu_lead.proofs.Keeping.{fuo_event}
use Rattle.mu_lead.proofs.Puts.{known_more, known_same, took_all}
use Rattle.mu_lead.proofs.Replies.{answer_is, enters_or, puts_min_or, puts_slot_or, sees_fence, tells_fuo, tells_head, tells_min}
use Rattle.mu_lead.proofs.FirstPlaces.{is_first_place}
use Rattle.mu_lead.proofs.StandsBringing.{copied_stands, entered_behind_stands, fenced_behind_stands, fuo_stands, learning_stands, look_behind_stands, lost_stands, missed_slot_stands, raised_behind_stands, widening_stands}
use Rattle.mu_lead.proofs.StandsFirsts.{stands_last}
use Rattle.mu_lead.proofs.StandsLate.{entered_late_stands, joined_late_stands, late_fenced_stands, late_left_stands, late_read_stands, late_told_stands, missed_min_stands}
use Rattle.mu_lead.proofs.StandsOnward.{Stand, Stood, keeps}
use Rattle.mu_lead.proofs.StandsPutting.{entered_new_stands, head_stands, look_stands, put_last_stands, put_next_stands, raised_stands, word_stands}
use Rattle.mu_lead.proofs.Tables.{tables_first, tables_kept}
use Rattle.mu_lead.proofs.Writes.{entry_brought, fuo_left, fuo_tells, put_alone, put_commits}
use Rattle.mu_lead.specs.Journal.{fuo_in, set_where, tables_with}
use Rattle.mu_lead.specs.Lasting.{step_of, verb_or}
use Rattle.mu_lead.specs.Leading.{AtLateFuo, HoldsTables, end_of, most_replicas}
use Rattle.mu_lead.specs.Listing.{Tables, first_member, late_from, member_from, next_place, or_else}
use Rattle.mu_lead.specs.Offering.{AtPut, LooksShow}
use Rattle.mu_lead.specs.Standing.{At, NumberAfter, verb_at}
use Rattle.mu_lead.specs.declared.place.Offer.{Offer}
use Rattle.mu_lead.specs.declared.place.Place.{Place}
use Rattle.mu_model.specs.Contents.{config_word}
use Rattle.mu_model.specs.Knowledge.{known}
use Rattle.mu_model.specs.Leaderships.{is_member}
use Rattle.mu_model.specs.Parts.{IsPossible}
use Rattle.mu_model.specs.declared.config.Config.{Config}
use Rattle.mu_model.specs.declared.event.Answer.{Answer}
use Rattle.mu_model.specs.declared.event.Event.{Event}
use Rattle.mu_model.specs.declared.event.Fence.{Fence}
use Rattle.mu_model.specs.declared.event.Target.{Target}
use Rattle.mu_model.specs.declared.event.Verb.{Verb}
use Rattle.mu_model.specs.Histories.{event_by}
use Rattle.std.proofs.Common.{Bool, List, None, Some, [], ap, arith, eq-eqb, eqb-true, false, get_or, inl, inr, is_some, length, length-append, refl, replicate, subst, sym, true, true≢false, ℕ, ◌%◌, ◌+◌, ◌==◌, ◌∙◌, ◌∷◌, ◌≡◌}
use Rattle.std.proofs.lemmas.Bool.{le-leb, lt-leb, ltb-false, ltb-true}
use Rattle.std.specs.Prelude.{if◌then◌else◌, nat_lt, set}
use Rattle.std.specs.declared.option.Option.{Option}

-- the tables after the step of a place
abbrev pub after_step : Config → ℕ → ℕ → List Event → Tables → Place → Answer → Tables
after_step c r b mine old place a = tables_with c r mine (step_of c r b mine old.up old.written place a ∷ mine) old (verb_or (verb_at c b (known c r mine) old.up old.written place)) a

-- the step leads to a place at which what stands there holds, under the number d
abbrev pub Comes : Config → ℕ → ℕ → ℕ → List Event → Tables → Place → Answer → Type 0
Comes c r b d mine old place a = Stood c r d (step_of c r b mine old.up old.written place a ∷ mine) (after_step c r b mine old place a) (next_place c r b (step_of c r b mine old.up old.written place a ∷ mine) (after_step c r b mine old place a) a place)

abbrev IsStep : Config → ℕ → ℕ → List Event → Tables → Place → Answer → Type 0
IsStep c r b mine old place a = IsPossible c r (step_of c r b mine old.up old.written place a ∷ mine)

-- an answer that is the one of the verb
by_answer : (c : Config) (r b : ℕ) (mine : List Event) (old : Tables) (place : Place) (a x : Answer) → a ≡ x → IsStep c r b mine old place a → (IsStep c r b mine old place x → Comes c r b b mine old place x) → Comes c r b b mine old place a
by_answer c r b mine old place a x is possible comes = subst (λ y. Comes c r b b mine old place y) (sym is) (comes (subst (λ y. IsStep c r b mine old place y) is possible))

-- the tables after an `Ask`
ask_tables : (c : Config) (r p : ℕ) (a : Answer) (mine : List Event) (t : Tables) → HoldsTables c r mine t.up t.reach t.heads t.written → IsPossible c r (event_by r (Verb.Ask p) a ∷ mine)
    → HoldsTables c r (event_by r (Verb.Ask p) a ∷ mine) (if p == 0 then replicate {A = ℕ} most_replicas 0 else t.up) (if p == 0 then replicate most_replicas None else t.reach) t.heads t.written
ask_tables c r p a mine t h possible = go (p == 0) refl
  where
    go : (x : Bool) → (p == 0) ≡ x → HoldsTables c r (event_by r (Verb.Ask p) a ∷ mine) (if x then replicate {A = ℕ} most_replicas 0 else t.up) (if x then replicate most_replicas None else t.reach) t.heads t.written
    go true first = tables_first c r p a mine t.up t.reach t.heads t.written (eqb-true p 0 first) possible h
    go false later = tables_kept c r (event_by r (Verb.Ask p) a) mine t.up t.reach t.heads t.written possible (begins_not r p a (λ is. true≢false (sym (eq-eqb p 0 is) ∙ later))) refl h

-- until the number is put
first_comes : (c : Config) (r b d : ℕ) (mine : List Event) (old : Tables) (place : Place) (a : Answer) → is_first_place place ≡ true → Stand c r mine old → At c r b mine old.up old.reach old.written place → IsStep c r b mine old place a
    → NumberAfter c r b d (step_of c r b mine old.up old.written place a ∷ mine) place → HoldsTables c r (step_of c r b mine old.up old.written place a ∷ mine) (after_step c r b mine old place a).up (after_step c r b mine old place a).reach (after_step c r b mine old place a).heads (after_step c r b mine old place a).written → Comes c r b d mine old place a
first_comes c r b d mine old place a one s at possible number tables = record { tables = tables; at = stands_last c r b d mine old.up old.reach old.written (after_step c r b mine old place a) place a one s.is s.inside at possible number }

-- the FUO of a late follower
late_fuo_comes : (c : Config) (r b p u : ℕ) (mine : List Event) (old : Tables) → Stand c r mine old → AtLateFuo c r b mine old.up old.reach p → IsPossible c r (fuo_event r p u ∷ mine) → Comes c r b b mine old (Place.LateFuo p) (Answer.Number u)
late_fuo_comes c r b p u mine old s at possible = go (nat_lt (end_of c r mine) u) refl
  where
    go : (x : Bool) → nat_lt (end_of c r mine) u ≡ x → Stood c r b (fuo_event r p u ∷ mine) (after_step c r b mine old (Place.LateFuo p) (Answer.Number u)) (if x then late_from c r (fuo_event r p u ∷ mine) old.heads (p + 1) else Place.LateEnter p)
    go true above =
        let more = ltb-true (end_of c r mine) u above in
        subst (λ t. Stood c r b (fuo_event r p u ∷ mine) t (late_from c r (fuo_event r p u ∷ mine) old.heads (p + 1))) (fuo_left c r p u mine (fuo_event r p u ∷ mine) old.up old.reach (fuo_in old.reach p u) old.heads old.written (rw (at.late.stranger, lt-leb u (end_of c r mine) more) refl) refl)
        (late_left_stands c r b p u mine old s at possible)
    go false within =
        let low = ltb-false (end_of c r mine) u within in
        subst (λ t. Stood c r b (fuo_event r p u ∷ mine) t (Place.LateEnter p)) (fuo_tells c r p u mine (fuo_event r p u ∷ mine) old.up (set old.up p u) old.reach (fuo_in old.reach p u) old.heads old.written (rw (at.late.stranger, le-leb u (end_of c r mine) low) refl) refl refl)
        (late_read_stands c r b p u mine old s at low possible)

-- a put of the offer
put_comes : (c : Config) (r b p : ℕ) (offer : Offer) (mine : List Event) (old : Tables) → Stand c r mine old → AtPut c r b offer.value mine old.up old.reach p → LooksShow c r mine (end_of c r mine) offer.adopted → IsPossible c r (put_event r p (end_of c r mine) b offer.value ∷ mine) → Comes c r b b mine old (Place.Put p offer) Answer.Done
put_comes c r b p offer mine old s at shows possible = go (member_from c r (put_event r p (end_of c r mine) b offer.value ∷ mine) (p + 1)) (first_in_is (λ k. is_member r k mine) (p + 1) c.replicas)
  where
    go : (o : Option ℕ) → IsFirst (λ k. is_member r k mine) (p + 1) c.replicas o
        → Stood c r b (put_event r p (end_of c r mine) b offer.value ∷ mine) (after_step c r b mine old (Place.Put p offer) Answer.Done) (or_else o (λ q. Place.Enter q offer) (Place.Raise (first_member c r (put_event r p (end_of c r mine) b offer.value ∷ mine))))
    go (Some q) first =
        let low = first.0 in
        let now = put_event r p (end_of c r mine) b offer.value ∷ mine in
        subst (λ t. Stood c r b now t (Place.Enter q offer))
        (put_alone c r p (end_of c r mine) b offer.value mine now old.up old.reach old.heads old.written refl (ap length (known_same c r p q (end_of c r mine) b offer.value mine first.1 first.2 (λ is. (omega (arith, low, is))) (at.entering.offering.above q (omega (arith, low))))))
        (put_next_stands c r b p q offer mine old s at shows possible first)
    go None none =
        let now = put_event r p (end_of c r mine) b offer.value ∷ mine in
        subst (λ t. Stood c r b now t (Place.Raise (first_member c r now)))
        (put_commits c r p (end_of c r mine) b offer.value mine now old.up (set_where (λ q. is_member r q mine) (end_of c r mine + 1) 0 old.up) old.reach old.heads old.written refl (ap length (known_more c r b offer.value p mine old.up old.reach at.entering.offering (took_all c r b offer.value p (p + 1) mine old.up old.reach at refl none)) ∙ length-append (known c r mine) (offer.value ∷ [])) refl)
        (put_last_stands c r b p offer mine old s at possible none)

-- an `Enter`: the region is entered, or the leadership is over
enter_comes : (c : Config) (r b p : ℕ) (target : Target) (mine : List Event) (old : Tables) (place : Place) (a : Answer) → IsPossible c r (event_by r (Verb.Enter p target) a ∷ mine) → IsStep c r b mine old place a → (IsStep c r b mine old place Answer.Entered → Comes c r b b mine old place Answer.Entered)
    → ((f : Fence) → IsStep c r b mine old place (Answer.Lost f) → Comes c r b b mine old place (Answer.Lost f)) → Comes c r b b mine old place a
enter_comes c r b p target mine old place a may possible entered lost = elim (enters_or c r p target a mine may) [
  | inl in_time ↦ by_answer c r b mine old place a Answer.Entered in_time possible entered
  | inr late ↦ by_answer c r b mine old place a (Answer.Lost late.0) late.1 possible (lost late.0)
]

-- after that
later_comes : (c : Config) (r b : ℕ) (mine : List Event) (old : Tables) (place : Place) (a : Answer) → is_first_place place ≡ false → is_some (verb_at c b (known c r mine) old.up old.written place) ≡ true → Stand c r mine old → At c r b mine old.up old.reach old.written place → IsStep c r b mine old place a
    → Comes c r b b mine old place a
later_comes c r b mine old (Place.ReadFuo p source) a later some s at possible =
    let x = tells_fuo c r p a mine possible in
    by_answer c r b mine old (Place.ReadFuo p source) a (Answer.Number x.0) x.1 possible (λ may.
    (let now = fuo_event r p x.0 ∷ mine in
    subst (λ t. Stood c r b now t (next_place c r b now t (Answer.Number x.0) (Place.ReadFuo p source))) (fuo_tells c r p x.0 mine now old.up (set old.up p x.0) old.reach (fuo_in old.reach p x.0) old.heads old.written (rw at.member refl) refl refl) (fuo_stands c r b p x.0 source mine old s at may)))
later_comes c r b mine old (Place.Learn p) a later some s at possible = learning_stands c r b p a mine old s at possible
later_comes c r b mine old (Place.WidenBehind p on) a later some s at possible = by_answer c r b mine old (Place.WidenBehind p on) a Answer.Done (answer_is c r (Verb.RaiseFuo p (get_or old.up p 0)) a mine possible).1 possible (widening_stands c r b p on mine old s at)
later_comes c r b mine old (Place.LookBehind p on) a later some s at possible = look_behind_stands c r b p on a mine old s at possible
later_comes c r b mine old (Place.EnterBehind p on) a later some s at possible = enter_comes c r b p (Target.Place (get_or old.up p 0 % c.ring)) mine old (Place.EnterBehind p on) a possible possible (entered_behind_stands c r b p on mine old s at) (λ f. lost_stands c r b p (Target.Place (get_or old.up p 0 % c.ring)) f mine old s)
later_comes c r b mine old (Place.PutBehind p on) a later some s at possible =
    let u = get_or old.up p 0 in
    let v = get_or (known c r mine) u 0 in
    elim (puts_slot_or c r p u b v a mine possible) [
      | inl done ↦ by_answer c r b mine old (Place.PutBehind p on) a Answer.Done done possible (λ may.
          (let now = put_event r p u b v ∷ mine in
          subst (λ t. Stood c r b now t (next_place c r b now t Answer.Done (Place.PutBehind p on))) (entry_brought c r p u b v mine now old.up (set old.up p (u + 1)) old.reach old.heads old.written at.near.lacks refl) (copied_stands c r b p on mine old s at may)))
      | inr missed ↦ by_answer c r b mine old (Place.PutBehind p on) a Answer.Missed missed possible (missed_slot_stands c r b p u v mine old s at.near.behind.region at.near.behind.leads.begun at.under)
    ]
later_comes c r b mine old (Place.RaiseBehind p on) a later some s at possible = by_answer c r b mine old (Place.RaiseBehind p on) a Answer.Done (answer_is c r (Verb.RaiseFuo p (get_or old.up p 0)) a mine possible).1 possible (raised_behind_stands c r b p on mine old s at)
later_comes c r b mine old (Place.FenceBehind p on) a later some s at possible = let x = sees_fence c r p a mine possible in by_answer c r b mine old (Place.FenceBehind p on) a (Answer.Seen x.0) x.1 possible (fenced_behind_stands c r b p x.0 on mine old s at)
later_comes c r b mine old (Place.LateFence p) a later some s at possible = let x = sees_fence c r p a mine possible in by_answer c r b mine old (Place.LateFence p) a (Answer.Seen x.0) x.1 possible (late_fenced_stands c r b p x.0 mine old s at)
later_comes c r b mine old (Place.LateMin p) a later some s at possible = let x = tells_min c r p a mine possible in by_answer c r b mine old (Place.LateMin p) a (Answer.Number x.0) x.1 possible (late_told_stands c r b p x.0 mine old s at)
later_comes c r b mine old (Place.LateFuo p) a later some s at possible = let x = tells_fuo c r p a mine possible in by_answer c r b mine old (Place.LateFuo p) a (Answer.Number x.0) x.1 possible (late_fuo_comes c r b p x.0 mine old s at)
later_comes c r b mine old (Place.LateEnter p) a later some s at possible = enter_comes c r b p Target.Min mine old (Place.LateEnter p) a possible possible (entered_late_stands c r b p mine old s at) (λ f. lost_stands c r b p Target.Min f mine old s)
later_comes c r b mine old (Place.LatePut p) a later some s at possible = elim (puts_min_or c r p b a mine possible) [
  | inl done ↦ by_answer c r b mine old (Place.LatePut p) a Answer.Done done possible (joined_late_stands c r b p mine old s at)
  | inr missed ↦ by_answer c r b mine old (Place.LatePut p) a Answer.Missed missed possible (missed_min_stands c r b p mine old s at.entering.told.late.region at.entering.told.late.level.leads.begun at.under)
]
later_comes c r b mine old (Place.ReadHead q candidate) a later some s at possible = let x = tells_head c r q a mine possible in by_answer c r b mine old (Place.ReadHead q candidate) a (Answer.Number x.0) x.1 possible (head_stands c r b q x.0 candidate mine old s at)
later_comes c r b mine old (Place.Look p i candidate best) a later some s at possible = look_stands c r b p i candidate best a mine old s at possible
later_comes c r b mine old (Place.Write j last offer) a later some s at possible = by_answer c r b mine old (Place.Write j last offer) a Answer.Done (answer_is c r (Verb.WriteRow j (get_or old.written j 12) (config_word c j (get_or old.written j 12))) a mine possible).1 possible (word_stands c r b j last offer mine old s at.0)
later_comes c r b mine old (Place.Enter p offer) a later some s at possible = enter_comes c r b p (Target.Place (end_of c r mine % c.ring)) mine old (Place.Enter p offer) a possible possible (entered_new_stands c r b p offer mine old s at.0 at.1) (λ f. lost_stands c r b p (Target.Place (end_of c r mine % c.ring)) f mine old s)
later_comes c r b mine old (Place.Put p offer) a later some s at possible = elim (puts_slot_or c r p (end_of c r mine) b offer.value a mine possible) [
  | inl done ↦ by_answer c r b mine old (Place.Put p offer) a Answer.Done done possible (put_comes c r b p offer mine old s at.0 at.1)
  | inr missed ↦ by_answer c r b mine old (Place.Put p offer) a Answer.Missed missed possible (missed_slot_stands c r b p (end_of c r mine) offer.value mine old s at.0.entering.region at.0.entering.offering.begun at.0.under)
]
later_comes c r b mine old (Place.Raise p) a later some s at possible = by_answer c r b mine old (Place.Raise p) a Answer.Done (answer_is c r (Verb.RaiseFuo p (end_of c r mine)) a mine possible).1 possible (raised_stands c r b p mine old s at)
later_comes c r b mine old Place.Outrun a later some s at possible = absurd (true≢false (sym some))
later_comes c r b mine old Place.Rest a later some s at possible = absurd (true≢false (sym some))
later_comes c r b mine old place a later some s at possible = absurd (true≢false later)

-- a step of a place leads to a place at which what stands there holds
pub stands_along : (c : Config) (r b d : ℕ) (mine : List Event) (old : Tables) (place : Place) (a : Answer) → is_some (verb_at c b (known c r mine) old.up old.written place) ≡ true → Stand c r mine old → At c r b mine old.up old.reach old.written place → IsStep c r b mine old place a
    → NumberAfter c r b d (step_of c r b mine old.up old.written place a ∷ mine) place → Comes c r b d mine old place a
stands_along c r b d mine old (Place.Ask p) a some s at possible number = first_comes c r b d mine old (Place.Ask p) a refl s at possible number (ask_tables c r p a mine old s.tables possible)
stands_along c r b d mine old (Place.Confirm round p) a some s at possible number = first_comes c r b d mine old (Place.Confirm round p) a refl s at possible number (keeps c r (event_by r (Verb.Fence p) a) mine old s possible refl refl)
stands_along c r b d mine old (Place.ReadMin p) a some s at possible number = first_comes c r b d mine old (Place.ReadMin p) a refl s at possible number (keeps c r (event_by r (Verb.Min p) a) mine old s possible refl refl)
stands_along c r b d mine old (Place.EnterMin p) a some s at possible number = first_comes c r b d mine old (Place.EnterMin p) a refl s at possible number (keeps c r (event_by r (Verb.Enter p Target.Min) a) mine old s possible refl refl)
stands_along c r b d mine old (Place.PutMin p) a some s at possible number = first_comes c r b d mine old (Place.PutMin p) a refl s at possible number (keeps c r (event_by r (Verb.PutMin p b) a) mine old s possible refl refl)
stands_along c r b d mine old (Place.Evidence p) a some s at possible number = first_comes c r b d mine old (Place.Evidence p) a refl s at possible number (keeps c r (event_by r (Verb.Fence p) a) mine old s possible refl refl)
stands_along c r b d mine old place a some s at possible number = subst (λ n. Comes c r b n mine old place a) (sym number) (later_comes c r b mine old place a refl some s at possible)
