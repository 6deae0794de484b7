-- The counts of a leader while heads are read.
use Rattle.std.proofs.Common.{◌≡◌, ℕ, ◌+◌, ◌<◌, ◌≤◌, inl, inr, Bool, true, false, ◌&&◌, ◌==◌, eqb-true, subst, List, ◌∷◌, length, refl, sym, ◌∙◌, ap, arith, true≢false}
use Rattle.std.specs.Prelude.{nat_lt, not}
use Rattle.std.specs.declared.option.Option.{Option}
use Rattle.std.proofs.lemmas.Bool.{le-leb, lt-ltb, ltb-false}
use Rattle.mu_model.specs.declared.config.Config.{Config}
use Rattle.mu_model.specs.declared.event.Answer.{Answer}
use Rattle.mu_model.specs.declared.event.Event.{Event}
use Rattle.mu_model.specs.declared.event.Verb.{Verb}
use Rattle.mu_model.specs.Contents.{IsConfig, marked}
use Rattle.mu_model.specs.Knowledge.{commits, known}
use Rattle.mu_model.specs.Leaderships.{is_member}
use Rattle.mu_model.specs.Parts.{IsPossible}
use Rattle.mu_model.specs.Room.{head_read, lacks_room, reserve}
use Rattle.mu_model.specs.Scores.{is_failed}
use Rattle.mu_model.specs.Steps.{is_lagging}
use Rattle.mu_model.specs.Stretches.{is_replication}
use Rattle.mu_model.proofs.Basics.{same_number}
use Rattle.mu_agree.proofs.Possible.{parts_trust_self_law}
use Rattle.mu_agree.proofs.Reserve.{part_heads_leave_room_law}
use Rattle.mu_pace.specs.Asking.{far, is_far, turns}
use Rattle.mu_pace.specs.Blocking.{can_be_marked, is_blocking}
use Rattle.mu_pace.specs.Placed.{IsPlacedAt, is_level}
use Rattle.mu_pace.specs.Weights.{GoesOn, IsPlace, Stage, at_head, at_late_fence, at_look, last_head, next_head}
use Rattle.mu_pace.proofs.Beside.{not_more}
use Rattle.mu_pace.proofs.Placed.{places_lead}
use Rattle.mu_pace.proofs.Rooms.{steps_of_progress}
use Rattle.mu_pace.proofs.Weights.{weights_fall}
use Rattle.mu_lead.specs.declared.place.Place.{Place}
use Rattle.mu_lead.specs.Leading.{end_of}
use Rattle.mu_lead.specs.Listing.{may_mark}
use Rattle.mu_lively.specs.Onward.{MayGoOn}
use Rattle.mu_lively.specs.Rooms.{IsLed, IsPlaced, sizes_of}
use Rattle.mu_lead.proofs.Looks.{head_event}
use Rattle.mu_lead.proofs.Puts.{all_fails}
use Rattle.mu_lively.proofs.RoomsOnward.{first_below, room_level, room_place}
use Rattle.mu_lively.proofs.RoomsQuiet.{IsSilent, quiet_milestone, config_is_sized, steps_on}

head_silent : (c : Config) (r q h : ℕ) (mine : List Event) → is_lagging c r mine (head_event r q h) ≡ false → IsSilent c r mine (head_event r q h)
head_silent c r q h mine room = record {
  no_milestone = quiet_milestone c r mine (head_event r q h) refl (not_more (length (commits c r mine))) room;
  none_behind = λ k. refl;
  same = refl;
}

-- a head was read: it leaves room, or the step is progress
pub rooms_head : (c : Config) (r q h : ℕ) (candidate : Option ℕ) (u : Stage) (mine : List Event) (written : List ℕ) → IsConfig c → is_replication mine (head_event r q h) ≡ true → IsPlaced c r mine written (Place.ReadHead q candidate)
    → GoesOn (sizes_of c r mine) (Stage.ReadHead q) u → IsPlace (sizes_of c r mine) u → ((k : ℕ) → is_far k u ≡ true) → is_level u ≡ true → IsLed c r (head_event r q h ∷ mine) u
rooms_head c r q h candidate u mine written is turn at edge place distant level = record { read = at.read; placed = go (is_lagging c r mine (head_event r q h)) refl }
  where
    go : (t : Bool) → is_lagging c r mine (head_event r q h) ≡ t → IsPlacedAt c r (sizes_of c r mine) u (head_event r q h ∷ mine)
    go false room = steps_on c r (Stage.ReadHead q) u mine (head_event r q h) is turn (head_silent c r q h mine room) at.placed edge place (λ k low stranger. inl (far (Stage.ReadHead q) u edge refl (distant k))) (λ high. inl refl)
    go true lags =
        let progress = steps_of_progress.lag c r mine (head_event r q h) turn lags in
        places_lead.milestone c r (sizes_of c r mine) (Stage.ReadHead q) u mine (head_event r q h) (config_is_sized c r mine is) at.placed (record {
          turn = turn;
          place = place;
          milestone = progress.0;
          progress = progress.1;
          advance = inr edge;
          none_behind = λ k. refl;
          same = refl;
          asks = λ k low stranger. inl (far (Stage.ReadHead q) u edge refl (distant k));
          from_level = refl;
          to_level = level;
        })

-- another head is read
pub rooms_next_head : (c : Config) (r q k h : ℕ) (candidate : Option ℕ) (mine : List Event) (written : List ℕ) → IsConfig c → is_replication mine (head_event r q h) ≡ true → q < k → k < c.replicas → IsPlaced c r mine written (Place.ReadHead q candidate)
    → IsLed c r (head_event r q h ∷ mine) (Stage.ReadHead k)
rooms_next_head c r q k h candidate mine written is turn above low at = rooms_head c r q h candidate (Stage.ReadHead k) mine written is turn at (next_head q k above low) (at_head k) (λ l. refl) refl

-- or the looks begin
pub rooms_last_head : (c : Config) (r q k h : ℕ) (candidate : Option ℕ) (mine : List Event) (written : List ℕ) → IsConfig c → is_replication mine (head_event r q h) ≡ true → q < c.replicas → k ≤ (sizes_of c r mine).members → IsPlaced c r mine written (Place.ReadHead q candidate)
    → IsLed c r (head_event r q h ∷ mine) (Stage.LookAt k)
rooms_last_head c r q k h candidate mine written is turn low few at = rooms_head c r q h candidate (Stage.LookAt k) mine written is turn at (last_head q k low few) (at_look k few) (λ l. refl) refl

unmarked_lags : (m lacks : Bool) → m ≡ false → lacks ≡ true → not (not m && lacks) ≡ false
unmarked_lags m lacks a b = rw (a, b) refl

-- a head that leaves no room lags, if no mark of its replica is known
head_lags : (c : Config) (r q h : ℕ) (mine : List Event) → q < c.replicas → marked c q (known c r mine) ≡ false → nat_lt (end_of c r mine + reserve c) (h + c.ring) ≡ false → is_lagging c r mine (head_event r q h) ≡ true
head_lags c r q h mine region unmarked low =
    let lacks : lacks_room c (end_of c r mine + reserve c) (head_read r q r (Verb.Head q) (Answer.Number h)) ≡ true =
    rw (same_number r, same_number q) (le-leb (h + c.ring) (end_of c r mine + reserve c) (ltb-false (end_of c r mine + reserve c) (h + c.ring) low)) in
    ap not (all_fails c.replicas q (λ k. not (not (marked c k (known c r mine)) && lacks_room c (end_of c r mine + reserve c) (head_read r k r (Verb.Head q) (Answer.Number h)))) region
    (unmarked_lags (marked c q (known c r mine)) (lacks_room c (end_of c r mine + reserve c) (head_read r q r (Verb.Head q) (Answer.Number h))) unmarked lacks))

unmarked_blocks : (m lacks can : Bool) → m ≡ false → lacks ≡ true → can ≡ false → not (not m && (lacks && not can)) ≡ false
unmarked_blocks m lacks can a b d = rw (a, b, d) refl

-- it blocks, if its replica may not be marked: in version 2 that replica isn't held failed, since there is a place for its mark
head_blocks : (c : Config) (r q h : ℕ) (mine : List Event) → IsConfig c → IsPossible c r (head_event r q h ∷ mine) → q < c.replicas → marked c q (known c r mine) ≡ false → nat_lt (end_of c r mine + reserve c) (h + c.ring) ≡ false
    → may_mark c r (head_event r q h ∷ mine) q h ≡ false → is_blocking c r mine (head_event r q h) ≡ true
head_blocks c r q h mine is possible region unmarked low off =
    let lacks : lacks_room c (end_of c r mine + reserve c) (head_read r q r (Verb.Head q) (Answer.Number h)) ≡ true =
    rw (same_number r, same_number q) (le-leb (h + c.ring) (end_of c r mine + reserve c) (ltb-false (end_of c r mine + reserve c) (h + c.ring) low)) in
    ap not (all_fails c.replicas q (λ k. not (not (marked c k (known c r mine)) && (lacks_room c (end_of c r mine + reserve c) (head_read r k r (Verb.Head q) (Answer.Number h)) && not (can_be_marked c r k now)))) region
    (unmarked_blocks (marked c q (known c r mine)) (lacks_room c (end_of c r mine + reserve c) (head_read r q r (Verb.Head q) (Answer.Number h))) (can_be_marked c r q now) unmarked lacks (can (c.version == 2) refl (is_failed r q now) refl)))
  where
    now : List Event
    now = head_event r q h ∷ mine

    place : (c.version == 2) ≡ true → nat_lt (end_of c r now) (h + c.ring) ≡ true
    place two = let k = part_heads_leave_room_law c r q h mine (head_event r q h) is possible (eqb-true c.version 2 two) refl refl unmarked in lt-ltb (end_of c r now) (h + c.ring) (omega (arith, k))

    other : (t : Bool) → (q == r) ≡ t → is_failed r q now ≡ true → (c.version == 2) ≡ true → (not t && (is_failed r q now && nat_lt (end_of c r now) (h + c.ring))) ≡ false → ⊥
    other true own failed two k = true≢false (sym (subst (λ z. is_failed r z now ≡ true) (eqb-true q r own) failed) ∙ parts_trust_self_law c r now possible)
    other false own failed two k = true≢false (sym (rw (failed, place two) refl) ∙ k)

    can : (two : Bool) → (c.version == 2) ≡ two → (failed : Bool) → is_failed r q now ≡ failed → (two && failed) ≡ false
    can false e failed f = refl
    can true e false f = refl
    can true e true f = absurd (other (q == r) refl f e off)

-- a head without room is progress, after which late followers are asked after; it blocks
pub rooms_no_room : (c : Config) (r q h : ℕ) (candidate : Option ℕ) (mine : List Event) (written : List ℕ) → IsConfig c → is_replication mine (head_event r q h) ≡ true → q < c.replicas → marked c q (known c r mine) ≡ false → nat_lt (end_of c r mine + reserve c) (h + c.ring) ≡ false
    → IsPossible c r (head_event r q h ∷ mine) → may_mark c r (head_event r q h ∷ mine) q h ≡ false → IsPlaced c r mine written (Place.ReadHead q candidate) → MayGoOn c r (head_event r q h ∷ mine) 0
rooms_no_room c r q h candidate mine written is turn region unmarked low possible off at =
    let e = head_event r q h in
    let s = sizes_of c r mine in
    let t = Stage.ReadHead q in
    let progress = steps_of_progress.lag c r mine e turn (head_lags c r q h mine region unmarked low) in
    let advance = steps_of_progress.block c r mine e turn (head_blocks c r q h mine is possible region unmarked low off) in
    let heavy = weights_fall.heavy s (Stage.ReadHead q) (config_is_sized c r mine is) at.placed.place in
    record {
      asks = λ k first. record {
        read = at.read;
        placed = places_lead.milestone c r s t (Stage.LateFence k) mine e (config_is_sized c r mine is) at.placed (record {
          turn = turn;
          place = at_late_fence k;
          milestone = progress.0;
          progress = progress.1;
          advance = inl advance;
          none_behind = λ l. refl;
          same = refl;
          asks = λ l few stranger. inl (turns (Stage.ReadHead q) k refl heavy (first_below (λ j. not (is_member r j (e ∷ mine))) 0 c.replicas k l first (omega arith) (ap not stranger)));
          from_level = refl;
          to_level = refl;
        });
      };
      again = λ k none first all. absurd (true≢false (sym first.2 ∙ none k first.0 first.1));
      beyond = λ u none room. record {
        read = at.read;
        placed = places_lead.milestone c r s t u mine e (config_is_sized c r mine is) at.placed (record {
          turn = turn;
          place = room_place s u room;
          milestone = progress.0;
          progress = progress.1;
          advance = inl advance;
          none_behind = λ l. refl;
          same = refl;
          asks = λ l few stranger. absurd (true≢false (sym (ap not stranger) ∙ none l (omega arith) few));
          from_level = refl;
          to_level = room_level s u room;
        });
      };
    }
