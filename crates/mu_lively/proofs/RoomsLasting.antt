-- The counts of a leader last along its listing.
use Rattle.std.proofs.Common.{Bool, List, None, Some, ap, arith, false, get_or, inl, inr, is_some, refl, subst, sym, true, true≢false, ℕ, ◌%◌, ◌+◌, ◌-◌, ◌<◌, ◌∙◌, ◌∷◌, ◌≡◌}
use Rattle.std.proofs.lemmas.Bool.{lt-ltb, ltb-false, ltb-true}
use Rattle.std.proofs.lemmas.Option.{slice_get-get_or}
use Rattle.std.specs.Prelude.{if◌then◌else◌, nat_lt}
use Rattle.std.specs.declared.option.Option.{Option}
use Rattle.mu_model.specs.Contents.{IsConfig, config_word, holds_all}
use Rattle.mu_model.specs.Knowledge.{known}
use Rattle.mu_model.specs.Leaderships.{is_member, noted_grant}
use Rattle.mu_model.specs.Parts.{IsPossible}
use Rattle.mu_model.specs.Picks.{is_past}
use Rattle.mu_model.specs.Room.{reserve}
use Rattle.mu_model.specs.Steps.{knows_more}
use Rattle.mu_model.specs.Stretches.{is_replication}
use Rattle.mu_model.specs.declared.config.Config.{Config}
use Rattle.mu_model.specs.declared.event.Answer.{Answer}
use Rattle.mu_model.specs.declared.event.Event.{Event}
use Rattle.mu_model.specs.declared.event.Fence.{Fence}
use Rattle.mu_model.specs.declared.event.Target.{Target}
use Rattle.mu_model.specs.declared.event.Verb.{Verb}
use Rattle.mu_agree.proofs.Possible.{parts_shorten_law}
use Rattle.mu_knowledge.proofs.Firsts.{first_in_is}
use Rattle.mu_knowledge.specs.Offers.{IsFirst, first_in}
use Rattle.mu_lead.proofs.Bringing.{look_event, look_known, put_event}
use Rattle.mu_lead.proofs.Copying.{first_read, uncopied}
use Rattle.mu_lead.proofs.Keeping.{fuo_event, raise_event}
use Rattle.mu_lead.proofs.Lates.{fence_ends, fence_event}
use Rattle.mu_lead.proofs.Looks.{head_event, look_same}
use Rattle.mu_lead.proofs.Numbering.{landed_min}
use Rattle.mu_lead.proofs.Offers.{row_event}
use Rattle.mu_lead.proofs.Puts.{known_more, took_all}
use Rattle.mu_lead.proofs.Replies.{answer_is, enters_or, puts_min_or, puts_slot_or, sees_fence, tells_fuo, tells_head, tells_min}
use Rattle.mu_lively.proofs.RoomsBringing.{rooms_entered_behind, rooms_looked, rooms_widened}
use Rattle.mu_lively.proofs.RoomsCopying.{copies_put, rooms_copied}
use Rattle.mu_lively.proofs.RoomsFirsts.{rooms_last}
use Rattle.mu_lively.proofs.RoomsFollowers.{rooms_ahead, rooms_joined_behind, rooms_joined_level, rooms_late_fuo, rooms_passed, rooms_welcomed}
use Rattle.mu_lively.proofs.RoomsHeads.{rooms_last_head, rooms_next_head, rooms_no_room}
use Rattle.mu_lively.proofs.RoomsLate.{rooms_entered_late, rooms_higher, rooms_late_min}
use Rattle.mu_lively.proofs.RoomsLearning.{rooms_learnt, rooms_learnt_all, rooms_learnt_level}
use Rattle.mu_lively.proofs.RoomsListed.{bring_rooms, brought_rooms, entering_rooms, heads_rooms, late_brought, late_rooms, pick_rooms}
use Rattle.mu_lively.proofs.RoomsLooking.{rooms_next_look, rooms_outrun, rooms_picks, rooms_writes}
use Rattle.mu_lively.proofs.RoomsMin.{rooms_fenced, rooms_lost, rooms_missed_min, rooms_missed_slot}
use Rattle.mu_lively.proofs.RoomsOutrun.{rooms_outrun_learning, rooms_outrun_looking}
use Rattle.mu_lively.proofs.RoomsPosition.{none_passes, not_none, passes_left, past_untaught, rooms_last_position, rooms_learnt_here, rooms_next_position, untaught}
use Rattle.mu_lively.proofs.RoomsPutting.{rooms_committed, rooms_entered_new, rooms_next_put}
use Rattle.mu_lively.proofs.RoomsRaising.{rooms_all_brought, rooms_brought_joined, rooms_next_behind, rooms_next_raise, rooms_raised}
use Rattle.mu_lively.proofs.RoomsReading.{rooms_brings, rooms_learns, rooms_level, rooms_next_fuo}
use Rattle.mu_lively.proofs.RoomsWriting.{rooms_last_word, rooms_next_word, skip_full, some_words}
use Rattle.mu_lead.proofs.Rows.{learning_taught}
use Rattle.mu_lead.specs.Lasting.{step_of}
use Rattle.mu_lead.specs.Leading.{HoldsTables, end_of}
use Rattle.mu_lead.specs.Listing.{Tables, after_look, bring_up, bring_up_from, farther, first_member, heads_from, larger_sight, late_from, learn_from, least_candidate, may_mark, member_from, next_place, or_else, pick, sight_of}
use Rattle.mu_lively.specs.Onward.{MayBringUp}
use Rattle.mu_lively.specs.Rooms.{IsLed, IsOut, IsPlaced, KeepsTables, RoomsAt, lag_of, words_left}
use Rattle.mu_lead.specs.Standing.{At, verb_at}
use Rattle.mu_lead.specs.declared.place.Offer.{Offer}
use Rattle.mu_lead.specs.declared.place.Place.{Place}
use Rattle.mu_lead.specs.declared.place.Sight.{Sight}
use Rattle.mu_lead.specs.declared.place.Then.{Then}
use Rattle.mu_model.specs.Histories.{event_by}
use Rattle.mu_pace.specs.Members.{members_from}
use Rattle.mu_pace.specs.Weights.{Bringing, Stage}

-- a replication step from the place, with the tables before and after it, by which the leader comes to what stands
pub record Steps (c : Config) (r b n : ℕ) (mine : List Event) (old new : Tables) (place : Place) (a : Answer) : Type 0 where
  pub is : IsConfig c
  pub inside : r < c.replicas
  pub tables : HoldsTables c r mine old.up old.reach old.heads old.written
  pub at : At c r b mine old.up old.reach old.written place
  pub possible : IsPossible c r (step_of c r b mine old.up old.written place a ∷ mine)
  pub turn : is_replication mine (step_of c r b mine old.up old.written place a) ≡ true
  pub kept : KeepsTables old new place
  pub held : HoldsTables c r (step_of c r b mine old.up old.written place a ∷ mine) new.up new.reach new.heads new.written
  pub next : At c r n (step_of c r b mine old.up old.written place a ∷ mine) new.up new.reach new.written (next_place c r b (step_of c r b mine old.up old.written place a ∷ mine) new a place)
  pub rooms : RoomsAt c r mine old.written place

-- the counts have room at the place that follows
abbrev pub Goes : Config → ℕ → ℕ → List Event → Tables → Tables → Place → Answer → Type 0
Goes c r b mine old new place a = RoomsAt c r (step_of c r b mine old.up old.written place a ∷ mine) new.written (next_place c r b (step_of c r b mine old.up old.written place a ∷ mine) new a place)

-- an answer that is the one of the verb
by_answer : (c : Config) (r b n : ℕ) (mine : List Event) (old new : Tables) (place : Place) (a x : Answer) → Steps c r b n mine old new place a → a ≡ x → (Steps c r b n mine old new place x → Goes c r b mine old new place x) → Goes c r b mine old new place a
by_answer c r b n mine old new place a x s is goes = subst (λ y. Goes c r b mine old new place y) (sym is) (goes (subst (λ y. Steps c r b n mine old new place y) is s))

-- the regions are asked anew
begins_anew : (c : Config) (r : ℕ) (now : List Event) (written : List ℕ) → IsOut c r now → RoomsAt c r now written (Place.Ask 0)
begins_anew c r now written out = ((λ same. out), λ other. absurd (other refl))

-- the FUO of a member was read
fuo_goes : (c : Config) (r b n : ℕ) (mine : List Event) (old new : Tables) (p : ℕ) (source : Option ℕ) (u : ℕ) → Steps c r b n mine old new (Place.ReadFuo p source) (Answer.Number u) → Goes c r b mine old new (Place.ReadFuo p source) (Answer.Number u)
fuo_goes c r b n mine old new p source u s = go (member_from c r (fuo_event r p u ∷ mine) (p + 1)) (first_in_is (λ k. is_member r k mine) (p + 1) c.replicas) s.next
  where
    learn : (x : Bool) → At c r n (fuo_event r p u ∷ mine) new.up new.reach new.written (if x then Place.Learn (farther new.up source p) else bring_up_from c r (fuo_event r p u ∷ mine) new 0 Then.Late)
        → RoomsAt c r (fuo_event r p u ∷ mine) new.written (if x then Place.Learn (farther new.up source p) else bring_up_from c r (fuo_event r p u ∷ mine) new 0 Then.Late)
    learn true here = rooms_learns c r p u source mine new.written s.is s.turn s.at.region s.at.member s.rooms
    learn false here = brought_rooms c r n (fuo_event r p u ∷ mine) new 0 Then.Late (λ q first. rooms_brings c r p q u source mine new.written s.is s.turn s.at.region s.at.member s.rooms) (λ none levels. rooms_level c r p u source mine new.written s.is s.turn s.at.region s.at.member levels s.rooms) s.possible s.held here

    go : (o : Option ℕ) → IsFirst (λ k. is_member r k mine) (p + 1) c.replicas o
        → At c r n (fuo_event r p u ∷ mine) new.up new.reach new.written (or_else o (λ q. Place.ReadFuo q (Some (farther new.up source p))) (learn_from c r (fuo_event r p u ∷ mine) new (farther new.up source p)))
        → RoomsAt c r (fuo_event r p u ∷ mine) new.written (or_else o (λ q. Place.ReadFuo q (Some (farther new.up source p))) (learn_from c r (fuo_event r p u ∷ mine) new (farther new.up source p)))
    go (Some q) first here = rooms_next_fuo c r p q u source (Some (farther new.up source p)) mine new.written s.is s.turn (record { there = s.at.region; member = s.at.member; above = (let low = first.0 in omega (arith, low)); between = λ k after before. first.3 k (omega (arith, after)) before }) s.rooms
    go None none here = learn (nat_lt (end_of c r (fuo_event r p u ∷ mine)) (get_or new.up (farther new.up source p) 0)) here

-- a look at what is known elsewhere
learning_goes : (c : Config) (r b n : ℕ) (mine : List Event) (old new : Tables) (p : ℕ) (a : Answer) → Steps c r b n mine old new (Place.Learn p) a → Goes c r b mine old new (Place.Learn p) a
learning_goes c r b n mine old new p a s = go (is_past a) refl s.next
  where
    learn : (x : Bool) → knows_more c r mine (look_event r p (end_of c r mine) a) ≡ true → At c r n (look_event r p (end_of c r mine) a ∷ mine) new.up new.reach new.written (if x then Place.Learn p else bring_up_from c r (look_event r p (end_of c r mine) a ∷ mine) new 0 Then.Late)
        → RoomsAt c r (look_event r p (end_of c r mine) a ∷ mine) new.written (if x then Place.Learn p else bring_up_from c r (look_event r p (end_of c r mine) a ∷ mine) new 0 Then.Late)
    learn true more here = rooms_learnt c r p (end_of c r mine) a mine s.is s.turn more s.rooms
    learn false more here = brought_rooms c r n (look_event r p (end_of c r mine) a ∷ mine) new 0 Then.Late (λ q first. rooms_learnt_all c r p (end_of c r mine) q a mine s.is s.turn more s.rooms) (λ none levels. rooms_learnt_level c r p (end_of c r mine) a mine s.is s.turn more s.rooms levels) s.possible s.held here

    go : (x : Bool) → is_past a ≡ x → At c r n (look_event r p (end_of c r mine) a ∷ mine) new.up new.reach new.written (if x then Place.Outrun else learn_from c r (look_event r p (end_of c r mine) a ∷ mine) new p)
        → RoomsAt c r (look_event r p (end_of c r mine) a ∷ mine) new.written (if x then Place.Outrun else learn_from c r (look_event r p (end_of c r mine) a ∷ mine) new p)
    go true past here = rooms_outrun_learning c r p (end_of c r mine) a mine s.is s.turn past refl s.rooms
    go false not_past here = learn (nat_lt (end_of c r (look_event r p (end_of c r mine) a ∷ mine)) (get_or new.up p 0)) (learning_taught c r p a mine s.possible ((s.tables.brought p).caught_up (end_of c r mine) s.at.lacks) not_past) here

-- a look at what a region lacks
look_behind_goes : (c : Config) (r b n : ℕ) (mine : List Event) (old new : Tables) (p : ℕ) (on : Then) (a : Answer) → Steps c r b n mine old new (Place.LookBehind p on) a → Goes c r b mine old new (Place.LookBehind p on) a
look_behind_goes c r b n mine old new p on a s = go (is_past a)
  where
    both : IsPlaced c r (look_event r p (get_or old.up p 0) a ∷ mine) new.written (Place.EnterBehind p on) × IsPlaced c r (look_event r p (get_or old.up p 0) a ∷ mine) new.written (Place.FenceBehind p on)
    both = rooms_looked c r p (get_or old.up p 0) a mine new.written on s.is s.turn (look_known c r p (get_or old.up p 0) a mine (λ e. (let lacks = s.at.lacks in omega (arith, lacks, e)))) s.at.behind.region s.at.behind.member s.rooms

    go : (x : Bool) → RoomsAt c r (look_event r p (get_or old.up p 0) a ∷ mine) new.written (if x then Place.FenceBehind p on else Place.EnterBehind p on)
    go true = both.1
    go false = both.0

-- an entry was brought to it
copy_goes : (c : Config) (r b n : ℕ) (mine : List Event) (old new : Tables) (p : ℕ) (on : Then) → Steps c r b n mine old new (Place.PutBehind p on) Answer.Done → Goes c r b mine old new (Place.PutBehind p on) Answer.Done
copy_goes c r b n mine old new p on s =
    let u = get_or old.up p 0 in
    let v = get_or (known c r mine) u 0 in
    let behind = s.at.near.behind in
    let before = (parts_shorten_law c r mine (put_event r p u b v) s.possible).before in
    let held = behind.leads.held p behind.region behind.member in
    let copies = copies_put c r p u b v mine (slice_get-get_or (known c r mine) u 0 s.at.near.lacks) (uncopied c r p u mine before (behind.clear p u behind.member (omega arith))) (first_read c r p held.grant u mine before held.noted (behind.read p behind.region behind.member)) in
    let may = rooms_copied c r p u b v mine new.written on s.is s.turn behind.region behind.member s.at.near.lacks copies s.rooms in
    go (nat_lt (get_or new.up p 0) (end_of c r (put_event r p u b v ∷ mine))) may.0 may.1
  where
    go : (x : Bool) → MayBringUp c r (put_event r p (get_or old.up p 0) b (get_or (known c r mine) (get_or old.up p 0) 0) ∷ mine) p on → IsLed c r (put_event r p (get_or old.up p 0) b (get_or (known c r mine) (get_or old.up p 0) 0) ∷ mine) (Stage.Bring (lag_of c r (put_event r p (get_or old.up p 0) b (get_or (known c r mine) (get_or old.up p 0) 0) ∷ mine) p on) Bringing.Raise)
        → RoomsAt c r (put_event r p (get_or old.up p 0) b (get_or (known c r mine) (get_or old.up p 0) 0) ∷ mine) new.written (if x then bring_up c new.up new.reach p on else Place.RaiseBehind p on)
    go true ups raise = bring_rooms c r (put_event r p (get_or old.up p 0) b (get_or (known c r mine) (get_or old.up p 0) 0) ∷ mine) new.up new.reach new.written p on ups
    go false ups raise = raise

-- a region was brought up
raise_behind_goes : (c : Config) (r b n : ℕ) (mine : List Event) (old new : Tables) (p : ℕ) (on : Then) → Steps c r b n mine old new (Place.RaiseBehind p on) Answer.Done → Goes c r b mine old new (Place.RaiseBehind p on) Answer.Done
raise_behind_goes c r b n mine old new p Then.Joined s =
    let u = get_or old.up p 0 in
    late_rooms c r (p + 1) (raise_event r p u ∷ mine) new.heads new.written (rooms_brought_joined c r p (p + 1) u mine new.written s.is s.turn s.at.behind.region refl (late_brought c r n (p + 1) (raise_event r p u ∷ mine) new s.possible s.held s.next) s.rooms)
raise_behind_goes c r b n mine old new p Then.Late s =
    let u = get_or old.up p 0 in
    brought_rooms c r n (raise_event r p u ∷ mine) new (p + 1) Then.Late (λ q first. rooms_next_behind c r p q u mine new.written s.is s.turn s.rooms) (λ none levels. rooms_all_brought c r p u mine new.written s.is s.turn levels s.rooms) s.possible s.held s.next
raise_behind_goes c r b n mine old new p Then.Position s =
    let u = get_or old.up p 0 in
    brought_rooms c r n (raise_event r p u ∷ mine) new (p + 1) Then.Position
    (λ q first. rooms_next_position c r p q u mine new.written s.is s.turn
    (record {
      there = s.at.behind.region;
      member = s.at.behind.member;
      above = (let from = first.0 in omega (arith, from));
      between = λ k after before. none_passes (is_member r k mine) (nat_lt (get_or new.up k 0) (end_of c r mine)) (lacks k (let to = first.1 in omega (arith, to, before)) after) (first.3 k (omega (arith, after)) before);
    })
    first.1 (passes_left (is_member r q mine) (nat_lt (get_or new.up q 0) (end_of c r mine)) first.2) s.rooms)
    (λ none levels. rooms_last_position c r p u mine new.written s.is s.turn
    (record {
      there = s.at.behind.region;
      member = s.at.behind.member;
      above = s.at.behind.region;
      between = λ k after before. none_passes (is_member r k mine) (nat_lt (get_or new.up k 0) (end_of c r mine)) (lacks k before after) (none k (omega (arith, after)) before);
    })
    levels s.rooms) s.possible s.held s.next
  where
    lacks : (k : ℕ) → k < c.replicas → p < k → is_member r k mine ≡ true → nat_lt (get_or new.up k 0) (end_of c r mine) ≡ true
    lacks k low after member = subst (λ xs. nat_lt (get_or xs k 0) (end_of c r mine) ≡ true) (sym s.kept) (lt-ltb (get_or old.up k 0) (end_of c r mine) ((s.at.behind.few k low member).1 (omega (arith, after))))

-- the fence of a region whose log had moved on
fence_behind_goes : (c : Config) (r b n : ℕ) (mine : List Event) (old new : Tables) (p : ℕ) (on : Then) (f : Fence) → Steps c r b n mine old new (Place.FenceBehind p on) (Answer.Seen f) → Goes c r b mine old new (Place.FenceBehind p on) (Answer.Seen f)
fence_behind_goes c r b n mine old new p on f s =
    let now = fence_event r p f ∷ mine in
    let over = fence_ends c r p (get_or old.up p 0) f mine s.possible s.at.near.behind.region s.at.past in
    subst (λ x. RoomsAt c r now new.written (if x then Place.Ask 0 else Place.LookBehind p on)) (sym over) (begins_anew c r now new.written (rooms_fenced c r p f (Stage.Bring (lag_of c r mine p on) Bringing.Fence) mine s.is s.turn over s.rooms.placed))

-- the fence of a late follower
late_fence_goes : (c : Config) (r b n : ℕ) (mine : List Event) (old new : Tables) (p : ℕ) (f : Fence) → Steps c r b n mine old new (Place.LateFence p) (Answer.Seen f) → Goes c r b mine old new (Place.LateFence p) (Answer.Seen f)
late_fence_goes c r b n mine old new p f s = go (is_some (noted_grant r p (fence_event r p f ∷ mine)))
  where
    go : (x : Bool) → RoomsAt c r (fence_event r p f ∷ mine) new.written (if x then Place.LateMin p else late_from c r (fence_event r p f ∷ mine) new.heads (p + 1))
    go true = rooms_welcomed c r p f mine new.written s.is s.turn s.at.region s.rooms
    go false = late_rooms c r (p + 1) (fence_event r p f ∷ mine) new.heads new.written (rooms_passed c r p (p + 1) f mine new.written s.is s.turn s.at.region refl s.rooms)

-- its minimum
late_min_goes : (c : Config) (r b n : ℕ) (mine : List Event) (old new : Tables) (p x : ℕ) → Steps c r b n mine old new (Place.LateMin p) (Answer.Number x) → Goes c r b mine old new (Place.LateMin p) (Answer.Number x)
late_min_goes c r b n mine old new p x s = go (nat_lt b x) refl
  where
    go : (t : Bool) → nat_lt b x ≡ t → RoomsAt c r (event_by r (Verb.Min p) (Answer.Number x) ∷ mine) new.written (if t then Place.Ask 0 else Place.LateFuo p)
    go true more = begins_anew c r (event_by r (Verb.Min p) (Answer.Number x) ∷ mine) new.written (rooms_higher c r p b x mine new.written s.is s.turn s.at.late.level.leads.numbered (ltb-true b x more) s.rooms)
    go false less = rooms_late_min c r p (Answer.Number x) mine new.written s.is s.turn s.at.late.region s.at.late.level.leads.begun s.rooms

-- its FUO
late_fuo_goes : (c : Config) (r b n : ℕ) (mine : List Event) (old new : Tables) (p u : ℕ) → Steps c r b n mine old new (Place.LateFuo p) (Answer.Number u) → Goes c r b mine old new (Place.LateFuo p) (Answer.Number u)
late_fuo_goes c r b n mine old new p u s = go (nat_lt (end_of c r (fuo_event r p u ∷ mine)) u)
  where
    go : (x : Bool) → RoomsAt c r (fuo_event r p u ∷ mine) new.written (if x then late_from c r (fuo_event r p u ∷ mine) new.heads (p + 1) else Place.LateEnter p)
    go true = late_rooms c r (p + 1) (fuo_event r p u ∷ mine) new.heads new.written (rooms_ahead c r p (p + 1) u mine new.written s.is s.turn s.at.late.region refl s.rooms)
    go false = rooms_late_fuo c r p u mine new.written s.is s.turn s.at.late.region s.rooms

-- it became a member
late_put_goes : (c : Config) (r b n : ℕ) (mine : List Event) (old new : Tables) (p : ℕ) → Steps c r b n mine old new (Place.LatePut p) Answer.Done → Goes c r b mine old new (Place.LatePut p) Answer.Done
late_put_goes c r b n mine old new p s = go (nat_lt (get_or new.up p 0) (end_of c r (landed_min r p b ∷ mine))) s.next
  where
    go : (x : Bool) → At c r n (landed_min r p b ∷ mine) new.up new.reach new.written (if x then bring_up c new.up new.reach p Then.Joined else late_from c r (landed_min r p b ∷ mine) new.heads (p + 1))
        → RoomsAt c r (landed_min r p b ∷ mine) new.written (if x then bring_up c new.up new.reach p Then.Joined else late_from c r (landed_min r p b ∷ mine) new.heads (p + 1))
    go true here = bring_rooms c r (landed_min r p b ∷ mine) new.up new.reach new.written p Then.Joined (rooms_joined_behind c r p b mine new.written s.is s.turn s.at.entering.told.late.region s.at.entering.told.late.stranger s.rooms)
    go false here = late_rooms c r (p + 1) (landed_min r p b ∷ mine) new.heads new.written (rooms_joined_level c r p (p + 1) b mine new.written s.is s.turn s.at.entering.told.late.region s.at.entering.told.late.stranger refl (late_brought c r n (p + 1) (landed_min r p b ∷ mine) new s.possible s.held here) s.rooms)

-- a head
head_goes : (c : Config) (r b n : ℕ) (mine : List Event) (old new : Tables) (q : ℕ) (candidate : Option ℕ) (h : ℕ) → Steps c r b n mine old new (Place.ReadHead q candidate) (Answer.Number h) → Goes c r b mine old new (Place.ReadHead q candidate) (Answer.Number h)
head_goes c r b n mine old new q candidate h s = go (nat_lt (end_of c r mine + reserve c) (h + c.ring)) (may_mark c r (head_event r q h ∷ mine) q h) refl refl
  where
    on : (k : Option ℕ) → RoomsAt c r (head_event r q h ∷ mine) new.written (heads_from c r (head_event r q h ∷ mine) new.heads (q + 1) k)
    on k = heads_rooms c r (head_event r q h ∷ mine) new.heads new.written (q + 1) k (λ j from few. rooms_next_head c r q j h candidate mine new.written s.is s.turn (omega (arith, from)) few s.rooms) (λ j few. rooms_last_head c r q j h candidate mine new.written s.is s.turn s.at.region few s.rooms)

    go : (x y : Bool) → nat_lt (end_of c r mine + reserve c) (h + c.ring) ≡ x → may_mark c r (head_event r q h ∷ mine) q h ≡ y
        → RoomsAt c r (head_event r q h ∷ mine) new.written (if x then heads_from c r (head_event r q h ∷ mine) new.heads (q + 1) candidate else (if y then heads_from c r (head_event r q h ∷ mine) new.heads (q + 1) (least_candidate candidate q) else late_from c r (head_event r q h ∷ mine) new.heads 0))
    go true y high may = on candidate
    go false true low may = on (least_candidate candidate q)
    go false false low off = late_rooms c r 0 (head_event r q h ∷ mine) new.heads new.written (rooms_no_room c r q h candidate mine new.written s.is s.turn s.at.region s.at.unmarked low s.possible off s.rooms)

-- a look at a new position
look_goes : (c : Config) (r b n : ℕ) (mine : List Event) (old new : Tables) (p i : ℕ) (candidate : Option ℕ) (best : Option Sight) (a : Answer) → Steps c r b n mine old new (Place.Look p i candidate best) a → Goes c r b mine old new (Place.Look p i candidate best) a
look_goes c r b n mine old new p i candidate best a s = go (is_past a) refl s.next
  where
    lacks : end_of c r mine < end_of c r (look_event r p i a ∷ mine) → (k : ℕ) → k < c.replicas → is_member r k mine ≡ true → nat_lt (get_or new.up k 0) (end_of c r (look_event r p i a ∷ mine)) ≡ true
    lacks grew k low member = lt-ltb (get_or new.up k 0) (end_of c r (look_event r p i a ∷ mine)) (let less = s.at.looking.level.few k low member in let same = ap (λ (xs : List ℕ). get_or xs k 0) s.kept in omega (arith, less, grew, same))

    looks : (o : Option ℕ) → knows_more c r mine (look_event r p i a) ≡ false → known c r (look_event r p i a ∷ mine) ≡ known c r mine → IsFirst (λ k. is_member r k mine) (p + 1) c.replicas o
        → At c r n (look_event r p i a ∷ mine) new.up new.reach new.written (or_else o (λ q. Place.Look q (end_of c r (look_event r p i a ∷ mine)) candidate (larger_sight best (sight_of a))) (pick c r (look_event r p i a ∷ mine) new.written candidate (larger_sight best (sight_of a))))
        → RoomsAt c r (look_event r p i a ∷ mine) new.written (or_else o (λ q. Place.Look q (end_of c r (look_event r p i a ∷ mine)) candidate (larger_sight best (sight_of a))) (pick c r (look_event r p i a ∷ mine) new.written candidate (larger_sight best (sight_of a))))
    looks (Some q) none same first here = rooms_next_look c r p q i a mine s.is s.turn none (record { there = s.at.region; member = s.at.member; above = (let low = first.0 in omega (arith, low)); between = λ k after before. first.3 k (omega (arith, after)) before }) s.rooms
    looks None none same last here = pick_rooms c r n (look_event r p i a ∷ mine) new.up new.reach new.written candidate (larger_sight best (sight_of a)) s.is (ap (holds_all c) same ∙ s.at.looking.roomy.lacks)
        (λ k some few. rooms_picks c r p i k a mine s.is s.turn none s.at.region s.at.member some few s.rooms) (λ words some few. rooms_writes c r p i words a mine s.is s.turn none s.at.region s.at.member some few s.rooms) here

    taught : (x : Bool) → nat_lt i (end_of c r (look_event r p i a ∷ mine)) ≡ x
        → At c r n (look_event r p i a ∷ mine) new.up new.reach new.written (if x then bring_up_from c r (look_event r p i a ∷ mine) new 0 Then.Position else or_else (member_from c r (look_event r p i a ∷ mine) (p + 1)) (λ q. Place.Look q (end_of c r (look_event r p i a ∷ mine)) candidate (larger_sight best (sight_of a))) (pick c r (look_event r p i a ∷ mine) new.written candidate (larger_sight best (sight_of a))))
        → RoomsAt c r (look_event r p i a ∷ mine) new.written (if x then bring_up_from c r (look_event r p i a ∷ mine) new 0 Then.Position else or_else (member_from c r (look_event r p i a ∷ mine) (p + 1)) (λ q. Place.Look q (end_of c r (look_event r p i a ∷ mine)) candidate (larger_sight best (sight_of a))) (pick c r (look_event r p i a ∷ mine) new.written candidate (larger_sight best (sight_of a))))
    taught true is here =
        let grew : end_of c r mine < end_of c r (look_event r p i a ∷ mine) = (let more = ltb-true i (end_of c r (look_event r p i a ∷ mine)) is in let position = s.at.position in omega (arith, more, position)) in
        brought_rooms c r n (look_event r p i a ∷ mine) new 0 Then.Position
        (λ q first. rooms_learnt_here c r p q i a mine s.is s.turn (lt-ltb (end_of c r mine) (end_of c r (look_event r p i a ∷ mine)) grew) s.at.region s.at.member s.at.looking.level.leads.carried
        (λ k below. none_passes (is_member r k mine) (nat_lt (get_or new.up k 0) (end_of c r (look_event r p i a ∷ mine))) (lacks grew k (let to = first.1 in omega (arith, to, below))) (first.3 k (omega arith) below)) s.rooms)
        (λ none levels. absurd (not_none (is_member r p mine) (nat_lt (get_or new.up p 0) (end_of c r (look_event r p i a ∷ mine))) s.at.member (lacks grew p s.at.region s.at.member) (none p (omega arith) s.at.region))) s.possible s.held here
    taught false is here =
        let same = look_same c r (look_event r p i a) mine (let less = ltb-false i (end_of c r (look_event r p i a ∷ mine)) is in let position = s.at.position in omega (arith, less, position)) in
        looks (member_from c r (look_event r p i a ∷ mine) (p + 1)) (untaught c r (look_event r p i a) mine same) same (first_in_is (λ k. is_member r k mine) (p + 1) c.replicas) here

    go : (x : Bool) → is_past a ≡ x → At c r n (look_event r p i a ∷ mine) new.up new.reach new.written (if x then Place.Outrun else after_look c r (look_event r p i a ∷ mine) new p i candidate (larger_sight best (sight_of a)))
        → RoomsAt c r (look_event r p i a ∷ mine) new.written (if x then Place.Outrun else after_look c r (look_event r p i a ∷ mine) new p i candidate (larger_sight best (sight_of a)))
    go true past here = rooms_outrun_looking c r p i a mine s.is s.turn past s.at.position (rooms_outrun c r p i a mine s.is s.turn (past_untaught c r p i a mine past) s.at.region s.at.member s.rooms)
    go false not_past here = taught (nat_lt i (end_of c r (look_event r p i a ∷ mine))) refl here

-- a word of a row
write_goes : (c : Config) (r b n : ℕ) (mine : List Event) (old new : Tables) (j last : ℕ) (offer : Offer) → Steps c r b n mine old new (Place.Write j last offer) Answer.Done → Goes c r b mine old new (Place.Write j last offer) Answer.Done
write_goes c r b n mine old new j last offer s = go (first_in (λ i. nat_lt (get_or new.written i 12) 12) j (last + 1)) (first_in_is (λ i. nat_lt (get_or new.written i 12) 12) j (last + 1)) s.next
  where
    go : (o : Option ℕ) → IsFirst (λ i. nat_lt (get_or new.written i 12) 12) j (last + 1) o
        → At c r n (row_event r j (get_or old.written j 12) (config_word c j (get_or old.written j 12)) ∷ mine) new.up new.reach new.written (or_else o (λ i. Place.Write i last offer) (Place.Enter (first_member c r (row_event r j (get_or old.written j 12) (config_word c j (get_or old.written j 12)) ∷ mine)) offer))
        → RoomsAt c r (row_event r j (get_or old.written j 12) (config_word c j (get_or old.written j 12)) ∷ mine) new.written (or_else o (λ i. Place.Write i last offer) (Place.Enter (first_member c r (row_event r j (get_or old.written j 12) (config_word c j (get_or old.written j 12)) ∷ mine)) offer))
    go (Some i) first here =
        let k = get_or old.written j 12 in
        let from = first.0 in
        let high = first.1 in
        let same = skip_full new.written (i - j) j i (last + 1 - i) (last + 1 - j) (omega (arith, from)) (omega (arith, from, high)) first.3 in
        let some = some_words new.written i (last + 1 - i) (omega (arith, high)) (ltb-true (get_or new.written i 12) 12 first.2) in
        subst (λ x. IsLed c r (row_event r j k (config_word c j k) ∷ mine) (Stage.Write x)) same
        (rooms_next_word c r j k (config_word c j k) (words_left old.written j (last + 1 - j)) (words_left new.written j (last + 1 - j)) mine s.is s.turn s.kept (omega (arith, same, some)) s.rooms)
    go None none here =
        let k = get_or old.written j 12 in
        entering_rooms c r n (first_member c r (row_event r j k (config_word c j k) ∷ mine)) (row_event r j k (config_word c j k) ∷ mine) new.up new.reach new.written offer
        (λ m some most. rooms_last_word c r j k (config_word c j k) (words_left old.written j (last + 1 - j)) m mine s.is s.turn (let one = s.kept in omega (arith, one)) some most s.rooms) here

-- the offer was put
put_goes : (c : Config) (r b n : ℕ) (mine : List Event) (old new : Tables) (p : ℕ) (offer : Offer) → Steps c r b n mine old new (Place.Put p offer) Answer.Done → Goes c r b mine old new (Place.Put p offer) Answer.Done
put_goes c r b n mine old new p offer s = go (member_from c r (put_event r p (end_of c r mine) b offer.value ∷ mine) (p + 1)) (first_in_is (λ k. is_member r k mine) (p + 1) c.replicas)
  where
    go : (o : Option ℕ) → IsFirst (λ k. is_member r k mine) (p + 1) c.replicas o
        → RoomsAt c r (put_event r p (end_of c r mine) b offer.value ∷ mine) new.written (or_else o (λ q. Place.Enter q offer) (Place.Raise (first_member c r (put_event r p (end_of c r mine) b offer.value ∷ mine))))
    go (Some q) first =
        let low = first.0 in
        let above : p < q = omega (arith, low) in
        rooms_next_put c r p q (end_of c r mine) b offer.value offer mine new.written s.is s.turn (record { there = s.at.0.entering.region; member = s.at.0.entering.member; above = above; between = λ k after before. first.3 k (omega (arith, after)) before }) first.1 first.2 (s.at.0.entering.offering.above q (omega (arith, above))) s.rooms
    go None none =
        let all = took_all c r b offer.value p (p + 1) mine old.up old.reach s.at.0 refl none in
        rooms_committed c r p (first_member c r (put_event r p (end_of c r mine) b offer.value ∷ mine)) (end_of c r mine) b offer.value offer mine new.written s.is s.turn s.at.0.entering.region s.at.0.entering.member (known_more c r b offer.value p mine old.up old.reach s.at.0.entering.offering all) s.rooms

-- the FUO of a member was raised over what was committed
raise_goes : (c : Config) (r b n : ℕ) (mine : List Event) (old new : Tables) (p : ℕ) → Steps c r b n mine old new (Place.Raise p) Answer.Done → Goes c r b mine old new (Place.Raise p) Answer.Done
raise_goes c r b n mine old new p s = go (member_from c r (raise_event r p (end_of c r mine) ∷ mine) (p + 1)) (first_in_is (λ k. is_member r k mine) (p + 1) c.replicas)
  where
    go : (o : Option ℕ) → IsFirst (λ k. is_member r k mine) (p + 1) c.replicas o → RoomsAt c r (raise_event r p (end_of c r mine) ∷ mine) new.written (or_else o Place.Raise (late_from c r (raise_event r p (end_of c r mine) ∷ mine) new.heads 0))
    go (Some q) first = rooms_next_raise c r p q (end_of c r mine) mine new.written s.is s.turn (record { there = s.at.region; member = s.at.member; above = (let low = first.0 in omega (arith, low)); between = λ k after before. first.3 k (omega (arith, after)) before }) s.rooms
    go None none = late_rooms c r 0 (raise_event r p (end_of c r mine) ∷ mine) new.heads new.written (rooms_raised c r p (end_of c r mine) mine new.written s.is s.turn s.at.region s.at.member s.rooms)

-- an `Enter`: the region is entered, or the leadership is over
enter_goes : (c : Config) (r b n : ℕ) (mine : List Event) (old new : Tables) (place : Place) (a : Answer) (p : ℕ) (target : Target) → Steps c r b n mine old new place a
    → IsPossible c r (event_by r (Verb.Enter p target) a ∷ mine) → (Steps c r b n mine old new place Answer.Entered → Goes c r b mine old new place Answer.Entered) → ((f : Fence) → Steps c r b n mine old new place (Answer.Lost f) → Goes c r b mine old new place (Answer.Lost f)) → Goes c r b mine old new place a
enter_goes c r b n mine old new place a p target s possible entered lost = elim (enters_or c r p target a mine possible) [
  | inl in_time ↦ by_answer c r b n mine old new place a Answer.Entered s in_time entered
  | inr late ↦ by_answer c r b n mine old new place a (Answer.Lost late.0) s late.1 (lost late.0)
]

-- the counts have room at the place that follows each place that has a verb
pub rooms_last_along : (c : Config) (r b n : ℕ) (mine : List Event) (old new : Tables) (place : Place) (a : Answer) → is_some (verb_at c b (known c r mine) old.up old.written place) ≡ true → Steps c r b n mine old new place a → Goes c r b mine old new place a
rooms_last_along c r b n mine old new (Place.Ask p) a some s = rooms_last c r b mine old.up old.reach new.written new (Place.Ask p) a refl s.is s.inside s.at s.possible s.turn s.rooms
rooms_last_along c r b n mine old new (Place.Confirm round p) a some s = rooms_last c r b mine old.up old.reach new.written new (Place.Confirm round p) a refl s.is s.inside s.at s.possible s.turn s.rooms
rooms_last_along c r b n mine old new (Place.ReadMin p) a some s = rooms_last c r b mine old.up old.reach new.written new (Place.ReadMin p) a refl s.is s.inside s.at s.possible s.turn (record { waits = s.rooms.waits; goes_on = s.rooms.goes_on })
rooms_last_along c r b n mine old new (Place.EnterMin p) a some s = rooms_last c r b mine old.up old.reach new.written new (Place.EnterMin p) a refl s.is s.inside s.at s.possible s.turn s.rooms
rooms_last_along c r b n mine old new (Place.PutMin p) a some s = rooms_last c r b mine old.up old.reach new.written new (Place.PutMin p) a refl s.is s.inside s.at s.possible s.turn s.rooms
rooms_last_along c r b n mine old new (Place.Evidence p) a some s = rooms_last c r b mine old.up old.reach new.written new (Place.Evidence p) a refl s.is s.inside s.at s.possible s.turn s.rooms
rooms_last_along c r b n mine old new (Place.ReadFuo p source) a some s = let x = tells_fuo c r p a mine s.possible in by_answer c r b n mine old new (Place.ReadFuo p source) a (Answer.Number x.0) s x.1 (fuo_goes c r b n mine old new p source x.0)
rooms_last_along c r b n mine old new (Place.Learn p) a some s = learning_goes c r b n mine old new p a s
rooms_last_along c r b n mine old new (Place.WidenBehind p on) a some s = by_answer c r b n mine old new (Place.WidenBehind p on) a Answer.Done s (answer_is c r (Verb.RaiseFuo p (get_or old.up p 0)) a mine s.possible).1
    (λ s. rooms_widened c r p (get_or old.up p 0) mine new.written on s.is s.turn s.at.behind.region s.at.behind.member s.rooms)
rooms_last_along c r b n mine old new (Place.LookBehind p on) a some s = look_behind_goes c r b n mine old new p on a s
rooms_last_along c r b n mine old new (Place.EnterBehind p on) a some s =
    let target = Target.Place (get_or old.up p 0 % c.ring) in
    enter_goes c r b n mine old new (Place.EnterBehind p on) a p target s s.possible (λ s. rooms_entered_behind c r p target mine new.written on s.is s.turn s.at.near.behind.region s.at.near.behind.member s.rooms)
    (λ f s. begins_anew c r (event_by r (Verb.Enter p target) (Answer.Lost f) ∷ mine) new.written (rooms_lost c r p target f (Stage.Bring (lag_of c r mine p on) Bringing.Enter) mine s.is s.turn s.rooms.placed))
rooms_last_along c r b n mine old new (Place.PutBehind p on) a some s =
    let u = get_or old.up p 0 in
    let v = get_or (known c r mine) u 0 in
    elim (puts_slot_or c r p u b v a mine s.possible) [
      | inl done ↦ by_answer c r b n mine old new (Place.PutBehind p on) a Answer.Done s done (copy_goes c r b n mine old new p on)
      | inr missed ↦ by_answer c r b n mine old new (Place.PutBehind p on) a Answer.Missed s missed (λ s. rooms_missed_slot c r p u b v (Stage.Bring (lag_of c r mine p on) Bringing.Put) mine s.is s.turn s.rooms.placed)
    ]
rooms_last_along c r b n mine old new (Place.RaiseBehind p on) a some s = by_answer c r b n mine old new (Place.RaiseBehind p on) a Answer.Done s (answer_is c r (Verb.RaiseFuo p (get_or old.up p 0)) a mine s.possible).1 (raise_behind_goes c r b n mine old new p on)
rooms_last_along c r b n mine old new (Place.FenceBehind p on) a some s = let x = sees_fence c r p a mine s.possible in by_answer c r b n mine old new (Place.FenceBehind p on) a (Answer.Seen x.0) s x.1 (fence_behind_goes c r b n mine old new p on x.0)
rooms_last_along c r b n mine old new (Place.LateFence p) a some s = let x = sees_fence c r p a mine s.possible in by_answer c r b n mine old new (Place.LateFence p) a (Answer.Seen x.0) s x.1 (late_fence_goes c r b n mine old new p x.0)
rooms_last_along c r b n mine old new (Place.LateMin p) a some s = let x = tells_min c r p a mine s.possible in by_answer c r b n mine old new (Place.LateMin p) a (Answer.Number x.0) s x.1 (late_min_goes c r b n mine old new p x.0)
rooms_last_along c r b n mine old new (Place.LateFuo p) a some s = let x = tells_fuo c r p a mine s.possible in by_answer c r b n mine old new (Place.LateFuo p) a (Answer.Number x.0) s x.1 (late_fuo_goes c r b n mine old new p x.0)
rooms_last_along c r b n mine old new (Place.LateEnter p) a some s =
    enter_goes c r b n mine old new (Place.LateEnter p) a p Target.Min s s.possible (λ s. rooms_entered_late c r p mine new.written s.is s.turn s.at.told.late.region s.rooms)
    (λ f s. begins_anew c r (event_by r (Verb.Enter p Target.Min) (Answer.Lost f) ∷ mine) new.written (rooms_lost c r p Target.Min f (Stage.LateEnter p) mine s.is s.turn s.rooms.placed))
rooms_last_along c r b n mine old new (Place.LatePut p) a some s = elim (puts_min_or c r p b a mine s.possible) [
  | inl done ↦ by_answer c r b n mine old new (Place.LatePut p) a Answer.Done s done (late_put_goes c r b n mine old new p)
  | inr missed ↦ by_answer c r b n mine old new (Place.LatePut p) a Answer.Missed s missed (λ s. rooms_missed_min c r p b (Stage.LatePut p) mine s.is s.turn s.rooms.placed)
]
rooms_last_along c r b n mine old new (Place.ReadHead q candidate) a some s = let x = tells_head c r q a mine s.possible in by_answer c r b n mine old new (Place.ReadHead q candidate) a (Answer.Number x.0) s x.1 (head_goes c r b n mine old new q candidate x.0)
rooms_last_along c r b n mine old new (Place.Look p i candidate best) a some s = look_goes c r b n mine old new p i candidate best a s
rooms_last_along c r b n mine old new (Place.Write j last offer) a some s =
    let k = get_or old.written j 12 in
    by_answer c r b n mine old new (Place.Write j last offer) a Answer.Done s (answer_is c r (Verb.WriteRow j k (config_word c j k)) a mine s.possible).1 (write_goes c r b n mine old new j last offer)
rooms_last_along c r b n mine old new (Place.Enter p offer) a some s =
    let target = Target.Place (end_of c r mine % c.ring) in
    enter_goes c r b n mine old new (Place.Enter p offer) a p target s s.possible (λ s. rooms_entered_new c r p target offer mine new.written s.is s.turn s.at.0.region s.at.0.member s.rooms)
    (λ f s. begins_anew c r (event_by r (Verb.Enter p target) (Answer.Lost f) ∷ mine) new.written (rooms_lost c r p target f (Stage.EnterAt (members_from c r p mine)) mine s.is s.turn s.rooms.placed))
rooms_last_along c r b n mine old new (Place.Put p offer) a some s = elim (puts_slot_or c r p (end_of c r mine) b offer.value a mine s.possible) [
  | inl done ↦ by_answer c r b n mine old new (Place.Put p offer) a Answer.Done s done (put_goes c r b n mine old new p offer)
  | inr missed ↦ by_answer c r b n mine old new (Place.Put p offer) a Answer.Missed s missed (λ s. rooms_missed_slot c r p (end_of c r mine) b offer.value (Stage.PutAt (members_from c r p mine)) mine s.is s.turn s.rooms.placed)
]
rooms_last_along c r b n mine old new (Place.Raise p) a some s = by_answer c r b n mine old new (Place.Raise p) a Answer.Done s (answer_is c r (Verb.RaiseFuo p (end_of c r mine)) a mine s.possible).1 (raise_goes c r b n mine old new p)
rooms_last_along c r b n mine old new Place.Outrun a some s = absurd (true≢false (sym some))
rooms_last_along c r b n mine old new Place.Rest a some s = absurd (true≢false (sym some))
