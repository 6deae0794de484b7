-- The counts of a leader while minima are read and the number is put.
use Rattle.std.proofs.Common.{◌≡◌, ℕ, ◌+◌, ◌<◌, ◌≤◌, inl, inr, Bool, true, false, ◌&&◌, ◌==◌, List, ◌∷◌, None, is_some, refl, sym, ◌∙◌, ap, subst, arith, true≢false}
use Rattle.std.specs.Prelude.{not}
use Rattle.mu_model.specs.declared.config.Config.{Config}
use Rattle.mu_model.specs.declared.event.Answer.{Answer}
use Rattle.mu_model.specs.declared.event.Event.{Event}
use Rattle.mu_model.specs.declared.event.Fence.{Fence}
use Rattle.mu_model.specs.declared.event.Target.{Target}
use Rattle.mu_model.specs.declared.event.Verb.{Verb}
use Rattle.mu_model.specs.Bounds.{members}
use Rattle.mu_model.specs.Contents.{IsConfig}
use Rattle.mu_model.specs.Histories.{has, event_by}
use Rattle.mu_model.specs.Leaderships.{grant_at_joining, has_begun, is_changed, is_member, is_over, leadership}
use Rattle.mu_model.specs.Steps.{has_min, is_min, leads}
use Rattle.mu_model.specs.Stretches.{is_replication}
use Rattle.mu_model.proofs.Basics.{same_number, or_true}
use Rattle.mu_pace.specs.Asking.{far, far_join, is_far}
use Rattle.mu_pace.specs.Away.{IsFresh}
use Rattle.mu_pace.specs.Members.{members_from}
use Rattle.mu_pace.specs.Placed.{IsPlacedAt, is_level}
use Rattle.mu_pace.specs.Weights.{GoesOn, IsPlace, Stage, at_entering, at_fuo, at_min, at_number, entered_min, joined, last_join, last_min, next_join, next_min}
use Rattle.mu_pace.proofs.Away.{away_is_in_time}
use Rattle.mu_pace.proofs.Members.{counts_of_members}
use Rattle.mu_pace.proofs.Placed.{places_lead}
use Rattle.mu_lively.specs.Rooms.{IsEnded, IsLed, IsNumbering, IsOut, IsPlaced, IsReading, sizes_of}
use Rattle.mu_lead.specs.declared.place.Place.{Place}
use Rattle.mu_lead.proofs.Numbering.{joining_other}
use Rattle.mu_lively.proofs.RoomsQuiet.{first_min, landed_no_milestone, later_min, missed_min_silent, missed_slot_silent, silent_verbs_are_silent, config_is_sized, steps_on}

-- the region is entered
pub rooms_entered : (c : Config) (r p : ℕ) (mine : List Event) → IsConfig c → is_replication mine (event_by r (Verb.Enter p Target.Min) Answer.Entered) ≡ true → IsNumbering c r mine p Stage.EnterMin
    → IsNumbering c r (event_by r (Verb.Enter p Target.Min) Answer.Entered ∷ mine) p Stage.PutMin
rooms_entered c r p mine is turn at =
    let e = event_by r (Verb.Enter p Target.Min) Answer.Entered in
    record {
      left = at.left;
      led = record { read = at.led.read; placed = steps_on c r Stage.EnterMin Stage.PutMin mine e is turn (silent_verbs_are_silent c r mine r (Verb.Enter p Target.Min) Answer.Entered refl) at.led.placed entered_min at_number (λ q low stranger. inl (far Stage.EnterMin Stage.PutMin entered_min refl refl)) (λ level. absurd (true≢false (sym level))) };
    }

-- a leadership that is over isn't led
pub over_unled : (r : ℕ) (mine : List Event) → is_over r mine ≡ true → leads r mine ≡ false
over_unled r mine over = go (has_min r mine) (is_over r mine) over
  where
    go : (t u : Bool) → u ≡ true → (t && not u) ≡ false
    go true u h = rw h refl
    go false u h = refl

-- an enter that is lost ends the leadership, wherever the leader was
pub rooms_lost : (c : Config) (r p : ℕ) (t : Target) (f : Fence) (stage : Stage) (mine : List Event) → IsConfig c → is_replication mine (event_by r (Verb.Enter p t) (Answer.Lost f)) ≡ true → IsPlacedAt c r (sizes_of c r mine) stage mine
    → IsOut c r (event_by r (Verb.Enter p t) (Answer.Lost f) ∷ mine)
rooms_lost c r p t f stage mine is turn at =
    let e = event_by r (Verb.Enter p t) (Answer.Lost f) in
    let quiet = silent_verbs_are_silent c r mine r (Verb.Enter p t) (Answer.Lost f) refl in
    let over : is_over r (e ∷ mine) ≡ true = rw (same_number r) refl in
    record {
      left = inl (over_unled r (e ∷ mine) over);
      away = away_is_in_time.over c r (sizes_of c r mine) stage mine e (config_is_sized c r mine is) at turn over quiet.no_milestone quiet.none_behind;
    }

-- and so does a fence that ends it
pub rooms_fenced : (c : Config) (r p : ℕ) (f : Fence) (stage : Stage) (mine : List Event) → IsConfig c → is_replication mine (event_by r (Verb.Fence p) (Answer.Seen f)) ≡ true → is_over r (event_by r (Verb.Fence p) (Answer.Seen f) ∷ mine) ≡ true → IsPlacedAt c r (sizes_of c r mine) stage mine
    → IsOut c r (event_by r (Verb.Fence p) (Answer.Seen f) ∷ mine)
rooms_fenced c r p f stage mine is turn over at =
    let e = event_by r (Verb.Fence p) (Answer.Seen f) in
    let quiet = silent_verbs_are_silent c r mine r (Verb.Fence p) (Answer.Seen f) refl in
    record {
      left = inl (over_unled r (e ∷ mine) over);
      away = away_is_in_time.over c r (sizes_of c r mine) stage mine e (config_is_sized c r mine is) at turn over quiet.no_milestone quiet.none_behind;
    }

-- and so does a put that misses
pub rooms_missed_min : (c : Config) (r p b : ℕ) (stage : Stage) (mine : List Event) → IsConfig c → is_replication mine (event_by r (Verb.PutMin p b) Answer.Missed) ≡ true → IsPlacedAt c r (sizes_of c r mine) stage mine
    → IsEnded c r (event_by r (Verb.PutMin p b) Answer.Missed ∷ mine)
rooms_missed_min c r p b stage mine is turn at =
    let e = event_by r (Verb.PutMin p b) Answer.Missed in
    let quiet = missed_min_silent c r p b mine in
    let over : is_over r (e ∷ mine) ≡ true = rw (same_number r) refl in
    record { over = over; away = away_is_in_time.over c r (sizes_of c r mine) stage mine e (config_is_sized c r mine is) at turn over quiet.no_milestone quiet.none_behind }

pub rooms_missed_slot : (c : Config) (r p i b v : ℕ) (stage : Stage) (mine : List Event) → IsConfig c → is_replication mine (event_by r (Verb.PutSlot p i b v) Answer.Missed) ≡ true → IsPlacedAt c r (sizes_of c r mine) stage mine
    → IsEnded c r (event_by r (Verb.PutSlot p i b v) Answer.Missed ∷ mine)
rooms_missed_slot c r p i b v stage mine is turn at =
    let e = event_by r (Verb.PutSlot p i b v) Answer.Missed in
    let quiet = missed_slot_silent c r p i b v mine in
    let over : is_over r (e ∷ mine) ≡ true = rw (same_number r) refl in
    record { over = over; away = away_is_in_time.over c r (sizes_of c r mine) stage mine e (config_is_sized c r mine is) at turn over quiet.no_milestone quiet.none_behind }

pub rooms_evidence : (c : Config) (r p : ℕ) (f : Fence) (mine : List Event) → is_replication mine (event_by r (Verb.Fence p) (Answer.Seen f)) ≡ true → IsEnded c r mine → IsOut c r (event_by r (Verb.Fence p) (Answer.Seen f) ∷ mine)
rooms_evidence c r p f mine turn at =
    let e = event_by r (Verb.Fence p) (Answer.Seen f) in
    let quiet = silent_verbs_are_silent c r mine r (Verb.Fence p) (Answer.Seen f) refl in
    let over : is_over r (e ∷ mine) ≡ true = or_true ((r == r) && is_changed (grant_at_joining r p mine) f) (is_over r mine) at.over in
    record {
      left = inl (over_unled r (e ∷ mine) over);
      away = away_is_in_time.away_step c r mine e at.away (record { turn = turn; not_led = over_unled r mine at.over; no_milestone = quiet.no_milestone; none_behind = quiet.none_behind }) (inr (inl over));
    }

both : (a b : Bool) → a ≡ true → (a && b) ≡ false → b ≡ false
both true b h k = k
both false b h k = absurd (true≢false (sym h))

pub second : (a b : Bool) → (a && b) ≡ true → b ≡ true
second true b h = h
second false b h = absurd (true≢false (sym h))

-- a minimum was read
pub min_now : (r p : ℕ) (a : Answer) (mine : List Event) → has_begun r mine ≡ true → has_min r (event_by r (Verb.Min p) a ∷ mine) ≡ true
min_now r p a mine begun = rw begun refl

-- the first `Min` of a leadership leads to its places
begins_places : (c : Config) (r p : ℕ) (a : Answer) (u : Stage) (mine : List Event) → IsConfig c → is_replication mine (event_by r (Verb.Min p) a) ≡ true → has_begun r mine ≡ true → has_min r mine ≡ false → IsFresh c r mine
    → IsPlace (sizes_of c r mine) u → IsPlacedAt c r (sizes_of c r mine) u (event_by r (Verb.Min p) a ∷ mine)
begins_places c r p a u mine is turn begun unread fresh place =
    places_lead.first c r (sizes_of c r mine) u mine (event_by r (Verb.Min p) a) (config_is_sized c r mine is) (record {
      turn = turn;
      place = place;
      sizes = record { replicas = refl; width = refl; members = refl };
      milestone = first_min c r p a mine (both (has_begun r mine) (has is_min (leadership r mine)) begun unread);
      none_behind = λ q. refl;
      not_led = ap (λ t. t && not (is_over r mine)) unread;
      quiet = fresh.progressing;
      quiet_advancing = fresh.advancing;
      quiet_bringing = fresh.bringing;
    })

-- another one goes on
goes_on_places : (c : Config) (r p : ℕ) (a : Answer) (u : Stage) (mine : List Event) → IsConfig c → is_replication mine (event_by r (Verb.Min p) a) ≡ true → has_min r mine ≡ true → IsPlacedAt c r (sizes_of c r mine) (Stage.ReadMin p) mine
    → GoesOn (sizes_of c r mine) (Stage.ReadMin p) u → ((q : ℕ) → is_far q u ≡ true) → is_level u ≡ false → IsPlace (sizes_of c r mine) u → IsPlacedAt c r (sizes_of c r mine) u (event_by r (Verb.Min p) a ∷ mine)
goes_on_places c r p a u mine is turn read at edge distant low place =
    places_lead.step c r (sizes_of c r mine) (Stage.ReadMin p) u mine (event_by r (Verb.Min p) a) (config_is_sized c r mine is) at (record {
      turn = turn;
      edge = edge;
      place = place;
      no_milestone = later_min c r p a mine (second (has_begun r mine) (has is_min (leadership r mine)) read);
      none_behind = λ q. refl;
      same = refl;
      asks = λ q l stranger. inl (far (Stage.ReadMin p) u edge refl (distant q));
      levels = λ level. absurd (true≢false (sym level ∙ low));
    })

-- by a minimum that is read the counts go on, or begin
reads_on : (c : Config) (r p : ℕ) (a : Answer) (u : Stage) (mine : List Event) (written : List ℕ) → IsConfig c → is_replication mine (event_by r (Verb.Min p) a) ≡ true → has_begun r mine ≡ true → IsReading c r mine written p
    → GoesOn (sizes_of c r mine) (Stage.ReadMin p) u → ((q : ℕ) → is_far q u ≡ true) → is_level u ≡ false → IsPlace (sizes_of c r mine) u → IsPlacedAt c r (sizes_of c r mine) u (event_by r (Verb.Min p) a ∷ mine)
reads_on c r p a u mine written is turn begun at edge distant low place = go (has_min r mine) refl
  where
    go : (t : Bool) → has_min r mine ≡ t → IsPlacedAt c r (sizes_of c r mine) u (event_by r (Verb.Min p) a ∷ mine)
    go true read = goes_on_places c r p a u mine is turn read (at.goes_on read).placed edge distant low place
    go false unread = begins_places c r p a u mine is turn begun unread (at.waits unread) place

-- to the next noted region
pub rooms_next_min : (c : Config) (r p q : ℕ) (a : Answer) (mine : List Event) (written : List ℕ) → IsConfig c → is_replication mine (event_by r (Verb.Min p) a) ≡ true → has_begun r mine ≡ true → p < q → q < c.replicas → IsReading c r mine written p
    → IsReading c r (event_by r (Verb.Min p) a ∷ mine) written q
rooms_next_min c r p q a mine written is turn begun above low at = record {
  waits = λ unread. absurd (true≢false (sym (min_now r p a mine begun) ∙ unread));
  goes_on = λ read. record { read = read; placed = reads_on c r p a (Stage.ReadMin q) mine written is turn begun at (next_min p q above low) (λ k. refl) refl (at_min q) };
}

-- or to the number
pub rooms_last_min : (c : Config) (r p : ℕ) (a : Answer) (mine : List Event) (written : List ℕ) → IsConfig c → is_replication mine (event_by r (Verb.Min p) a) ≡ true → has_begun r mine ≡ true → p < c.replicas → IsReading c r mine written p
    → IsLed c r (event_by r (Verb.Min p) a ∷ mine) Stage.EnterMin
rooms_last_min c r p a mine written is turn begun low at = record { read = min_now r p a mine begun; placed = reads_on c r p a Stage.EnterMin mine written is turn begun at (last_min p low) (λ k. refl) refl at_entering }

-- one more member
pub more_sizes : (c : Config) (r : ℕ) (u : Stage) (mine now : List Event) → members c r now ≡ members c r mine + 1 → IsPlacedAt c r (joined (sizes_of c r mine)) u now → IsPlacedAt c r (sizes_of c r now) u now
more_sizes c r u mine now more at = subst (λ m. IsPlacedAt c r (record { replicas = c.replicas; width = c.width; members = m }) u now) (sym more) at

left_joined : (r p q b : ℕ) (mine : List Event) → p < q → ((k : ℕ) → p ≤ k → is_member r k mine ≡ false) → (k : ℕ) → q ≤ k → is_member r k (event_by r (Verb.PutMin p b) Answer.Done ∷ mine) ≡ false
left_joined r p q b mine above left k up = ap is_some (joining_other r p k b mine (λ same. omega arith)) ∙ left k (omega arith)

-- the region became a member, and the next one is entered
pub rooms_next_join : (c : Config) (r p q b : ℕ) (mine : List Event) → IsConfig c → is_replication mine (event_by r (Verb.PutMin p b) Answer.Done) ≡ true → p < c.replicas → p < q → IsNumbering c r mine p Stage.PutMin
    → IsNumbering c r (event_by r (Verb.PutMin p b) Answer.Done ∷ mine) q Stage.EnterMin
rooms_next_join c r p q b mine is turn low above at =
    let e = event_by r (Verb.PutMin p b) Answer.Done in
    let more = counts_of_members.joined c r p b mine low (at.left p (omega arith)) in
    record {
      left = left_joined r p q b mine above at.left;
      led = record {
        read = at.led.read;
        placed = more_sizes c r Stage.EnterMin mine (e ∷ mine) more (places_lead.join c r (sizes_of c r mine) Stage.PutMin Stage.EnterMin mine e (config_is_sized c r mine is) at.led.placed (record {
          turn = turn;
          edge = next_join;
          place = at_entering;
          no_milestone = landed_no_milestone c r p b mine;
          more = more;
          asks = λ k l stranger. inl (far_join Stage.PutMin Stage.EnterMin next_join refl refl);
          levels = λ level. absurd (true≢false (sym level));
        }));
      };
    }

-- or the members' FUOs are read
pub rooms_last_join : (c : Config) (r p q b : ℕ) (mine : List Event) (written : List ℕ) → IsConfig c → is_replication mine (event_by r (Verb.PutMin p b) Answer.Done) ≡ true → p < c.replicas → IsNumbering c r mine p Stage.PutMin
    → IsPlaced c r (event_by r (Verb.PutMin p b) Answer.Done ∷ mine) written (Place.ReadFuo q None)
rooms_last_join c r p q b mine written is turn low at =
    let e = event_by r (Verb.PutMin p b) Answer.Done in
    let k = members_from c r q (e ∷ mine) in
    let more = counts_of_members.joined c r p b mine low (at.left p (omega arith)) in
    let few : k ≤ members c r mine + 1 = (let all = counts_of_members.all c r q (e ∷ mine) in omega arith) in
    record {
      read = at.led.read;
      placed = more_sizes c r (Stage.ReadFuo k) mine (e ∷ mine) more (places_lead.join c r (sizes_of c r mine) Stage.PutMin (Stage.ReadFuo k) mine e (config_is_sized c r mine is) at.led.placed (record {
        turn = turn;
        edge = last_join k few;
        place = at_fuo k few;
        no_milestone = landed_no_milestone c r p b mine;
        more = more;
        asks = λ j l stranger. inl (far_join Stage.PutMin (Stage.ReadFuo k) (last_join k few) refl refl);
        levels = λ level. absurd (true≢false (sym level));
      }));
    }
