-- What lasts along the listing: misses are explained, FUOs raised, minima read, late followers join.
use Rattle.std.proofs.Common.{◌≡◌, ℕ, ◌+◌, ◌<◌, inl, inr, Bool, true, false, List, ◌∷◌, length, None, Some, is_some, refl, sym, ◌∙◌, subst, arith, true≢false}
use Rattle.std.specs.Prelude.{if◌then◌else◌, nat_lt, not, ◌&&◌, ◌==◌, ◌⊎◌}
use Rattle.std.specs.declared.option.Option.{Option}
use Rattle.std.proofs.lemmas.Bool.{and_parts, le-ltb, ltb-true, or_left}
use Rattle.mu_model.specs.declared.config.Config.{Config}
use Rattle.mu_model.specs.declared.event.Answer.{Answer}
use Rattle.mu_model.specs.declared.event.Event.{Event}
use Rattle.mu_model.specs.declared.event.Target.{Target}
use Rattle.mu_model.specs.declared.event.Verb.{Verb}
use Rattle.mu_model.specs.Diligence.{is_confirmed}
use Rattle.mu_model.specs.Knowledge.{commits}
use Rattle.mu_model.specs.Leaderships.{is_member, is_over, noted_grant, proposal_number}
use Rattle.mu_model.specs.Parts.{IsPossible}
use Rattle.mu_model.specs.Steps.{is_fencing, is_missed_at_verb, is_min_put}
use Rattle.mu_model.specs.Stretches.{is_replication}
use Rattle.mu_model.proofs.Basics.{same_number}
use Rattle.mu_model.specs.Histories.{event_by}
use Rattle.mu_pace.specs.Watches.{joining}
use Rattle.mu_pace.proofs.Beside.{not_more}
use Rattle.mu_pace.proofs.Countdowns.{countdowns_run}
use Rattle.mu_pace.proofs.Rooms.{kinds_of_step}
use Rattle.mu_lead.specs.declared.place.Offer.{Offer}
use Rattle.mu_lead.specs.declared.place.Place.{Place}
use Rattle.mu_lively.specs.Confirmations.{ConfirmsAt, NoneIsAwaited}
use Rattle.mu_lively.specs.Evidence.{ExplainsAt, IsExplained}
use Rattle.mu_lively.specs.Lasting.{Lasts}
use Rattle.mu_lead.specs.Lasting.{step_of}
use Rattle.mu_lead.specs.Leading.{end_of}
use Rattle.mu_lead.specs.Listing.{after_round, late_from, member_from, next_place, noted_from, or_else, or_own}
use Rattle.mu_lead.specs.Offering.{AtPut}
use Rattle.mu_lively.specs.Raising.{IsRaisedEverywhere, RaisesAt}
use Rattle.mu_knowledge.specs.Offers.{IsFirst}
use Rattle.mu_lively.specs.Welcomes.{JoinsAt}
use Rattle.mu_lively.proofs.Confirms.{anywhere, last_fence, later_read, next_fence, read_on, round_again, unconfirmed_fence}
use Rattle.mu_knowledge.proofs.Firsts.{first_in_is}
use Rattle.mu_lively.proofs.Gathering.{lost_over}
use Rattle.mu_lively.proofs.Joins.{answered, four_left, joined, joins_anywhere, none_asked, none_fenced, none_numbered, over_answers, quiet_at, read_fuo, read_min, waits_on, welcomed_or_not}
use Rattle.mu_lively.proofs.Misses.{explained_anywhere, explained_on, fenced_now, landed_min, landed_slot, waits_now}
use Rattle.mu_lead.proofs.Puts.{known_more, took_all}
use Rattle.mu_lively.proofs.Raises.{copy_commits_none, raised_anywhere, raised_on, raises_committed, raises_last, raises_member}
use Rattle.mu_lead.proofs.Replies.{answer_is, enters_or, puts_slot_or, tells_fuo, tells_min}
use Rattle.mu_lively.proofs.RoomsMin.{min_now}
use Rattle.mu_lively.proofs.RoomsPutting.{next_put_commits_none, put_commits}

-- a put lands, or misses and is explained next
put_explained : (c : Config) (r p : ℕ) (verb : Verb) (a : Answer) (mine : List Event) (next : Answer → Place) → next Answer.Missed ≡ Place.Evidence p → ((q : ℕ) → is_missed_at_verb q verb Answer.Missed ≡ (p == q))
    → (a ≡ Answer.Missed) ⊎ ((q : ℕ) → is_missed_at_verb q verb a ≡ false) → IsExplained c r mine → ExplainsAt c r (event_by r verb a ∷ mine) (next a)
put_explained c r p verb a mine next goes missed (inl is) at =
    subst (λ x. ExplainsAt c r (event_by r verb x ∷ mine) (next x)) (sym is) (subst (ExplainsAt c r (event_by r verb Answer.Missed ∷ mine)) (sym goes) (waits_now c r p mine (event_by r verb Answer.Missed) missed at))
put_explained c r p verb a mine next goes missed (inr landed) at = explained_anywhere c r (event_by r verb a ∷ mine) (next a) (explained_on c r mine (event_by r verb a) landed at)

slot_or : (p i b v : ℕ) (a : Answer) → (a ≡ Answer.Missed) ⊎ ((q : ℕ) → is_missed_at_verb q (Verb.PutSlot p i b v) a ≡ false)
slot_or p i b v a = elim (landed_slot p a) [ inl missed ↦ inl missed | inr landed ↦ inr (λ q. landed i b v q) ]

pub misses_are_explained : Lasts ExplainsAt
misses_are_explained c r b mine up reach written t (Place.PutMin p) a is inside at possible turn explained =
    put_explained c r p (Verb.PutMin p b) a mine (λ x. next_place c r b (event_by r (Verb.PutMin p b) x ∷ mine) t x (Place.PutMin p)) refl (λ q. refl) (landed_min b p a) explained
misses_are_explained c r b mine up reach written t (Place.LatePut p) a is inside at possible turn explained =
    put_explained c r p (Verb.PutMin p b) a mine (λ x. next_place c r b (event_by r (Verb.PutMin p b) x ∷ mine) t x (Place.LatePut p)) refl (λ q. refl) (landed_min b p a) explained
misses_are_explained c r b mine up reach written t (Place.PutBehind p on) a is inside at possible turn explained =
    let e = step_of c r b mine up written (Place.PutBehind p on) a in
    put_explained c r p e.verb a mine (λ x. next_place c r b (event_by r e.verb x ∷ mine) t x (Place.PutBehind p on)) refl (λ q. refl) (slot_or p 0 b 0 a) explained
misses_are_explained c r b mine up reach written t (Place.Put p offer) a is inside at possible turn explained =
    let e = step_of c r b mine up written (Place.Put p offer) a in
    put_explained c r p e.verb a mine (λ x. next_place c r b (event_by r e.verb x ∷ mine) t x (Place.Put p offer)) refl (λ q. refl) (slot_or p 0 b 0 a) explained
misses_are_explained c r b mine up reach written t (Place.Evidence p) a is inside at possible turn waits = fenced_now c r p a mine turn waits
misses_are_explained c r b mine up reach written t place a is inside at possible turn explained =
    let e = step_of c r b mine up written place a in
    explained_anywhere c r (e ∷ mine) (next_place c r b (e ∷ mine) t a place) (explained_on c r mine e (λ q. refl) explained)

-- the offer was put at p: the next member's turn, or each FUO is raised
put_raised : (c : Config) (r b p : ℕ) (mine : List Event) (up : List ℕ) (reach : List (Option ℕ)) (offer : Offer) (o f : Option ℕ) → r < c.replicas → AtPut c r b offer.value mine up reach p
    → IsFirst (λ k. is_member r k mine) (p + 1) c.replicas o → IsFirst (λ k. is_member r k mine) 0 c.replicas f → IsRaisedEverywhere c r mine
    → RaisesAt c r (event_by r (Verb.PutSlot p (end_of c r mine) b offer.value) Answer.Done ∷ mine) (or_else o (λ q. Place.Enter q offer) (Place.Raise (or_own r f)))
put_raised c r b p mine up reach offer (Some q) f inside at next first raised =
    raised_on c r mine (event_by r (Verb.PutSlot p (end_of c r mine) b offer.value) Answer.Done)
    (let low = next.0 in next_put_commits_none c r p q (end_of c r mine) b offer.value mine next.1 next.2 (λ same. omega (arith, low, same)) (at.entering.offering.above q (omega (arith, low)))) raised
put_raised c r b p mine up reach offer None f inside at next first raised =
    raises_committed c r (or_own r f) mine (event_by r (Verb.PutSlot p (end_of c r mine) b offer.value) Answer.Done)
    (put_commits c r p (end_of c r mine) b offer.value mine (known_more c r b offer.value p mine up reach at.entering.offering (took_all c r b offer.value p (p + 1) mine up reach at refl next)))
    (below f first) raised
  where
    below : (g : Option ℕ) → IsFirst (λ k. is_member r k mine) 0 c.replicas g → (k : ℕ) → k < or_own r g → is_member r k mine ≡ false
    below None none k low = none k (omega arith) (omega (arith, low, inside))
    below (Some q) some k low = some.3 k (omega arith) low

-- the FUO of p was raised: the next member's turn, or all are
raise_raised : (c : Config) (r p : ℕ) (mine : List Event) (o : Option ℕ) (other : Place) → IsPossible c r (event_by r (Verb.RaiseFuo p (end_of c r mine)) Answer.Done ∷ mine) → is_replication mine (event_by r (Verb.RaiseFuo p (end_of c r mine)) Answer.Done) ≡ true
    → p < c.replicas → is_member r p mine ≡ true → IsFirst (λ k. is_member r k mine) (p + 1) c.replicas o → RaisesAt c r mine (Place.Raise p) → RaisesAt c r (event_by r (Verb.RaiseFuo p (end_of c r mine)) Answer.Done ∷ mine) (or_else o Place.Raise other)
raise_raised c r p mine (Some q) other possible turn region member next raised =
    raises_member c r p q (end_of c r mine) mine turn (omega arith)
    (record { there = region; member = member; above = (let low = next.0 in omega (arith, low)); between = λ k after before. next.3 k (omega (arith, after)) before }) raised
raise_raised c r p mine None other possible turn region member none raised =
    raises_last c r p (end_of c r mine) other mine possible turn (omega arith) region member (λ k after before. none k (omega (arith, after)) before) raised

pub fuos_are_raised : Lasts RaisesAt
fuos_are_raised c r b mine up reach written t (Place.Raise p) a is inside at possible turn raised =
    let vf = Verb.RaiseFuo p (end_of c r mine) in
    let x = answer_is c r vf a mine possible in
    subst (λ y. RaisesAt c r (event_by r vf y ∷ mine) (next_place c r b (event_by r vf y ∷ mine) t y (Place.Raise p))) (sym x.1)
    (raise_raised c r p mine (member_from c r (event_by r vf Answer.Done ∷ mine) (p + 1)) (late_from c r (event_by r vf Answer.Done ∷ mine) t.heads 0) (subst (λ y. IsPossible c r (event_by r vf y ∷ mine)) x.1 possible) turn at.region at.member
    (first_in_is (λ k. is_member r k mine) (p + 1) c.replicas) raised)
fuos_are_raised c r b mine up reach written t (Place.Put p offer) a is inside at possible turn raised =
    let vf = Verb.PutSlot p (end_of c r mine) b offer.value in
    let now = λ (y : Answer). event_by r vf y ∷ mine in
    elim (puts_slot_or c r p (end_of c r mine) b offer.value a mine possible) [
      | inl done ↦ subst (λ y. RaisesAt c r (now y) (next_place c r b (now y) t y (Place.Put p offer))) (sym done)
          (put_raised c r b p mine up reach offer (member_from c r (now Answer.Done) (p + 1)) (member_from c r (now Answer.Done) 0) inside at.0
          (first_in_is (λ k. is_member r k mine) (p + 1) c.replicas) (first_in_is (λ k. is_member r k mine) 0 c.replicas) raised)
      | inr missed ↦ subst (λ y. RaisesAt c r (now y) (next_place c r b (now y) t y (Place.Put p offer))) (sym missed) (raised_on c r mine (event_by r vf Answer.Missed) (not_more (length (commits c r mine))) raised)
    ]
fuos_are_raised c r b mine up reach written t (Place.PutBehind p on) a is inside at possible turn raised =
    let e = step_of c r b mine up written (Place.PutBehind p on) a in
    raised_anywhere c r (e ∷ mine) (next_place c r b (e ∷ mine) t a (Place.PutBehind p on)) (raised_on c r mine e (copy_commits_none c r p _ b _ a mine at.near.lacks) raised)
fuos_are_raised c r b mine up reach written t place a is inside at possible turn raised =
    let e = step_of c r b mine up written place a in
    raised_anywhere c r (e ∷ mine) (next_place c r b (e ∷ mine) t a place) (raised_on c r mine e (not_more (length (commits c r mine))) raised)

-- a minimum is read in time
pub minima_are_read : Lasts ConfirmsAt
minima_are_read c r b mine up reach written t (Place.Ask p) a is inside at possible turn none = go (nat_lt (p + 1) c.replicas) (countdowns_run.confirms.quiet c r mine (event_by r (Verb.Ask p) a) refl none)
  where
    go : (t : Bool) → NoneIsAwaited c r (event_by r (Verb.Ask p) a ∷ mine) → ConfirmsAt c r (event_by r (Verb.Ask p) a ∷ mine) (if t then Place.Ask (p + 1) else Place.Confirm 0 0)
    go true now = now
    go false now = round_again c r 0 (event_by r (Verb.Ask p) a ∷ mine) now
minima_are_read c r b mine up reach written t (Place.Confirm round p) a is inside at possible turn room = go (nat_lt (p + 1) c.replicas) refl
  where
    now : List Event
    now = event_by r (Verb.Fence p) a ∷ mine

    own_noted : (x y : Bool) → (x && y) ≡ true → x ≡ false → ⊥
    own_noted x y both none = true≢false (sym (and_parts x y both).0 ∙ none)

    reads : is_confirmed c r now ≡ true → (o : Option ℕ) → IsFirst (λ k. is_some (noted_grant r k now)) 0 c.replicas o → ConfirmsAt c r now (or_else o Place.ReadMin Place.Rest)
    reads confirmed (Some q) first = last_fence c r p a mine at.1.region room
    reads confirmed None none = absurd (own_noted (is_some (noted_grant r r now)) _ confirmed (none r (omega arith) inside))

    again : (x : Bool) → NoneIsAwaited c r now → ConfirmsAt c r now (if x then Place.Confirm (round + 1) 0 else Place.Ask 0)
    again true none = round_again c r round now none
    again false none = none

    ends : (x : Bool) → is_confirmed c r now ≡ x → ConfirmsAt c r now (if x then or_else (noted_from c r now 0) Place.ReadMin Place.Rest else (if nat_lt round 15 then Place.Confirm (round + 1) 0 else Place.Ask 0))
    ends true confirmed = reads confirmed (noted_from c r now 0) (first_in_is (λ k. is_some (noted_grant r k now)) 0 c.replicas)
    ends false unconfirmed = again (nat_lt round 15) (unconfirmed_fence c r p a mine turn unconfirmed)

    go : (x : Bool) → nat_lt (p + 1) c.replicas ≡ x → ConfirmsAt c r now (if x then Place.Confirm round (p + 1) else after_round c r now round)
    go true more = next_fence c r p (p + 1) a mine refl (ltb-true (p + 1) c.replicas more) room
    go false last = ends (is_confirmed c r now) refl
minima_are_read c r b mine up reach written t (Place.ReadMin p) a is inside at possible turn in_time =
    let e = event_by r (Verb.Min p) a in
    anywhere c r (e ∷ mine) (next_place c r b (e ∷ mine) t a (Place.ReadMin p)) (record { read = min_now r p a mine at.telling.fresh.begun; none = countdowns_run.confirms.begun c r mine e turn refl })
minima_are_read c r b mine up reach written t (Place.LateMin p) a is inside at possible turn read =
    let e = event_by r (Verb.Min p) a in
    anywhere c r (e ∷ mine) (next_place c r b (e ∷ mine) t a (Place.LateMin p)) (read_on c r mine e (later_read r p a mine read.read) read)
minima_are_read c r b mine up reach written t place a is inside at possible turn read =
    let e = step_of c r b mine up written place a in
    anywhere c r (e ∷ mine) (next_place c r b (e ∷ mine) t a place) (read_on c r mine e read.read read)

-- who is welcomed joins in time
pub followers_join : Lasts JoinsAt
followers_join c r b mine up reach written t (Place.Ask p) a is inside at possible turn joins =
    let e = event_by r (Verb.Ask p) a in
    joins_anywhere c r (e ∷ mine) (next_place c r b (e ∷ mine) t a (Place.Ask p)) (none_asked c r p a mine joins)
followers_join c r b mine up reach written t (Place.Confirm round p) a is inside at possible turn none =
    let e = event_by r (Verb.Fence p) a in
    joins_anywhere c r (e ∷ mine) (next_place c r b (e ∷ mine) t a (Place.Confirm round p)) (none_numbered c r p a mine at.1.fresh.unnumbered none)
followers_join c r b mine up reach written t (Place.FenceBehind p on) a is inside at possible turn none =
    let e = event_by r (Verb.Fence p) a in
    joins_anywhere c r (e ∷ mine) (next_place c r b (e ∷ mine) t a (Place.FenceBehind p on)) (none_fenced c r p a mine
    (joined (is_fencing p e) (is_some (proposal_number r mine)) (not (is_over r mine)) (is_member r p mine) (is_some (noted_grant r p (e ∷ mine))) at.near.behind.member) none)
followers_join c r b mine up reach written t (Place.LateFence p) a is inside at possible turn none =
    let e = event_by r (Verb.Fence p) a in
    welcomed_or_not c r p a mine (next_place c r b (e ∷ mine) t a (Place.LateFence p)) (λ granted. rw granted refl) none
followers_join c r b mine up reach written t (Place.LateMin p) a is inside at possible turn waits =
    let told = tells_min c r p a mine possible in
    subst (λ y. JoinsAt c r (event_by r (Verb.Min p) y ∷ mine) (next_place c r b (event_by r (Verb.Min p) y ∷ mine) t y (Place.LateMin p))) (sym told.1)
    (read_min c r p b told.0 mine (if nat_lt b told.0 then Place.Ask 0 else Place.LateFuo p) turn at.late.level.leads.numbered (λ low. rw (le-ltb b told.0 low) refl) waits)
followers_join c r b mine up reach written t (Place.LateFuo p) a is inside at possible turn waits =
    let told = tells_fuo c r p a mine possible in
    subst (λ y. JoinsAt c r (event_by r (Verb.Fuo p) y ∷ mine) (next_place c r b (event_by r (Verb.Fuo p) y ∷ mine) t y (Place.LateFuo p))) (sym told.1)
    (read_fuo c r p told.0 mine (next_place c r b (event_by r (Verb.Fuo p) (Answer.Number told.0) ∷ mine) t (Answer.Number told.0) (Place.LateFuo p)) turn (λ low. rw (le-ltb (end_of c r mine) told.0 low) refl) waits)
followers_join c r b mine up reach written t (Place.LateEnter p) a is inside at possible turn waits =
    let vf = Verb.Enter p Target.Min in
    elim (enters_or c r p Target.Min a mine possible) [
      | inl entered ↦ subst (λ y. JoinsAt c r (event_by r vf y ∷ mine) (next_place c r b (event_by r vf y ∷ mine) t y (Place.LateEnter p))) (sym entered) (waits_on c r p 1 vf Answer.Entered mine (λ q. refl) waits)
      | inr lost ↦ joins_anywhere c r (event_by r vf a ∷ mine) (next_place c r b (event_by r vf a ∷ mine) t a (Place.LateEnter p)) (answered c r p 2 vf a mine turn (λ q. refl) (over_answers c r p mine (event_by r vf a) (lost_over r p Target.Min a lost.0 mine lost.1)) waits)
    ]
followers_join c r b mine up reach written t (Place.LatePut p) a is inside at possible turn waits =
    let e = event_by r (Verb.PutMin p b) a in
    joins_anywhere c r (e ∷ mine) (next_place c r b (e ∷ mine) t a (Place.LatePut p)) (answered c r p 1 (Verb.PutMin p b) a mine turn (λ q. refl) (or_left (is_min_put p e) _ (same_number p)) waits)
followers_join c r b mine up reach written t (Place.Evidence p) a is inside at possible turn none = record {
  first = λ begins q. kinds_of_step.less (joining c r q) 4 1 (event_by r (Verb.Fence p) a ∷ mine) (omega arith) (four_left c r q mine (event_by r (Verb.Fence p) a) (none q));
  later = λ other. absurd (other refl);
}
followers_join c r b mine up reach written t place a is inside at possible turn none =
    let e = step_of c r b mine up written place a in
    joins_anywhere c r (e ∷ mine) (next_place c r b (e ∷ mine) t a place) (λ q. quiet_at c r q mine e refl (none q))
