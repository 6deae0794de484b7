-- The counts of a leader while it learns what others committed.
use Rattle.std.proofs.Common.{◌≡◌, ℕ, inl, true, List, ◌∷◌, length, refl, sym, ◌∙◌, ap, arith, true≢false}
use Rattle.std.specs.Prelude.{not}
use Rattle.mu_model.specs.declared.config.Config.{Config}
use Rattle.mu_model.specs.declared.event.Answer.{Answer}
use Rattle.mu_model.specs.declared.event.Event.{Event}
use Rattle.mu_model.specs.Bounds.{is_copying}
use Rattle.mu_model.specs.Contents.{IsConfig}
use Rattle.mu_model.specs.Knowledge.{commits, known}
use Rattle.mu_model.specs.Leaderships.{is_member}
use Rattle.mu_model.specs.Picks.{is_past}
use Rattle.mu_model.specs.Steps.{knows_more}
use Rattle.mu_model.specs.Stretches.{is_replication}
use Rattle.mu_pace.specs.Asking.{AsksCopying, far_copy, turns_copying}
use Rattle.mu_pace.specs.Placed.{Asks, is_level}
use Rattle.mu_pace.specs.Watches.{is_brought_up}
use Rattle.mu_pace.specs.Weights.{Copies, IsPlace, Lag, Stage, asks, at_behind, at_late_fence, at_learning, beyond, learnt, learnt_all, learnt_level}
use Rattle.mu_pace.proofs.Beside.{not_more}
use Rattle.mu_pace.proofs.Placed.{places_lead}
use Rattle.mu_lead.specs.declared.place.Then.{Then}
use Rattle.mu_lively.specs.Onward.{MayBringUp, MayGoOn}
use Rattle.mu_lively.specs.Rooms.{IsLed, sizes_of}
use Rattle.mu_lead.proofs.Bringing.{look_event}
use Rattle.mu_lively.proofs.RoomsOnward.{first_below, room_place}
use Rattle.mu_lively.proofs.RoomsQuiet.{no_heads, quiet_milestone, config_is_sized}
use Rattle.mu_model.proofs.Basics.{true_or}

-- a past look teaches nothing
pub past_none : (c : Config) (r p i : ℕ) (a : Answer) (mine : List Event) → is_past a ≡ true → known c r (look_event r p i a ∷ mine) ≡ known c r mine
past_none c r p i Answer.Past mine past = refl
past_none c r p i (Answer.Entry b v) mine past = absurd (true≢false (sym past))
past_none c r p i a mine past = refl

-- an entry was learnt
learns_on : (c : Config) (r p i : ℕ) (a : Answer) (u : Stage) (mine : List Event) → IsConfig c → is_replication mine (look_event r p i a) ≡ true → knows_more c r mine (look_event r p i a) ≡ true → IsLed c r mine Stage.Learn
    → Copies (sizes_of c r mine) Stage.Learn u → IsPlace (sizes_of c r mine) u → Asks (AsksCopying (sizes_of c r mine)) c r Stage.Learn u mine (look_event r p i a)
    → (is_level u ≡ true → (k : ℕ) → is_member r k (look_event r p i a ∷ mine) ≡ true → is_brought_up c r k (look_event r p i a ∷ mine) ≡ true) → IsLed c r (look_event r p i a ∷ mine) u
learns_on c r p i a u mine is turn more at edge place late levels = record {
  read = at.read;
  placed = places_lead.copy c r (sizes_of c r mine) Stage.Learn u mine (look_event r p i a) (config_is_sized c r mine is) at.placed (record {
    turn = turn;
    edge = edge;
    place = place;
    no_milestone = quiet_milestone c r mine (look_event r p i a) refl (not_more (length (commits c r mine))) (no_heads c r mine);
    copies = true_or (knows_more c r mine (look_event r p i a)) (is_copying c r mine (look_event r p i a)) more;
    same = refl;
    asks = late;
    levels = levels;
  });
}

-- the next one is looked at
pub rooms_learnt : (c : Config) (r p i : ℕ) (a : Answer) (mine : List Event) → IsConfig c → is_replication mine (look_event r p i a) ≡ true → knows_more c r mine (look_event r p i a) ≡ true → IsLed c r mine Stage.Learn → IsLed c r (look_event r p i a ∷ mine) Stage.Learn
rooms_learnt c r p i a mine is turn more at = learns_on c r p i a Stage.Learn mine is turn more at learnt at_learning (λ k low stranger. inl (far_copy Stage.Learn Stage.Learn learnt refl refl)) (λ level. absurd (true≢false (sym level)))

-- members that are behind are brought up
pub rooms_learnt_all : (c : Config) (r p i q : ℕ) (a : Answer) (mine : List Event) → IsConfig c → is_replication mine (look_event r p i a) ≡ true → knows_more c r mine (look_event r p i a) ≡ true → IsLed c r mine Stage.Learn → MayBringUp c r (look_event r p i a ∷ mine) q Then.Late
rooms_learnt_all c r p i q a mine is turn more at step first =
    learns_on c r p i a (Stage.Bring Lag.Behind step) mine is turn more at (learnt_all step first) (at_behind step) (λ k low stranger. inl (far_copy Stage.Learn (Stage.Bring Lag.Behind step) (learnt_all step first) refl refl)) (λ level. absurd (true≢false (sym level)))

-- or late followers are asked after
pub rooms_learnt_level : (c : Config) (r p i : ℕ) (a : Answer) (mine : List Event) → IsConfig c → is_replication mine (look_event r p i a) ≡ true → knows_more c r mine (look_event r p i a) ≡ true → IsLed c r mine Stage.Learn
    → ((k : ℕ) → is_member r k (look_event r p i a ∷ mine) ≡ true → is_brought_up c r k (look_event r p i a ∷ mine) ≡ true) → MayGoOn c r (look_event r p i a ∷ mine) 0
rooms_learnt_level c r p i a mine is turn more at levels =
    let e = look_event r p i a in
    record {
      asks = λ q first. learns_on c r p i a (Stage.LateFence q) mine is turn more at (learnt_level (Stage.LateFence q) (asks q first.0 first.1)) (at_late_fence q)
          (λ k low stranger. inl (turns_copying Stage.Learn q refl (first_below (λ j. not (is_member r j (e ∷ mine))) 0 c.replicas q k first (omega arith) (ap not stranger)))) (λ level. levels);
      again = λ q none first all. absurd (true≢false (sym first.2 ∙ none q first.0 first.1));
      beyond = λ u none room. learns_on c r p i a u mine is turn more at (learnt_level u (beyond u (omega arith) room)) (room_place (sizes_of c r mine) u room)
          (λ k low stranger. absurd (true≢false (sym (ap not stranger) ∙ none k (omega arith) low))) (λ level. levels);
    }
