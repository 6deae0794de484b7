-- The counts of a leader while each member is brought up at one position that a look taught.
use Rattle.std.proofs.Common.{◌≡◌, ℕ, ◌+◌, ◌<◌, inl, inr, Bool, true, false, ◌&&◌, List, ◌∷◌, length, refl, sym, ◌∙◌, subst, arith, true≢false}
use Rattle.std.specs.Prelude.{nat_le, nat_lt}
use Rattle.std.proofs.lemmas.Bool.{leb-true}
use Rattle.mu_model.specs.declared.config.Config.{Config}
use Rattle.mu_model.specs.declared.event.Answer.{Answer}
use Rattle.mu_model.specs.declared.event.Event.{Event}
use Rattle.mu_model.specs.declared.event.Verb.{Verb}
use Rattle.mu_model.specs.Bounds.{is_copying, members}
use Rattle.mu_model.specs.Contents.{IsConfig}
use Rattle.mu_model.specs.Knowledge.{commits, known}
use Rattle.mu_model.specs.Leaderships.{has_quorum, is_member}
use Rattle.mu_model.specs.Picks.{is_past}
use Rattle.mu_model.specs.Steps.{knows_more}
use Rattle.mu_model.specs.Stretches.{is_replication}
use Rattle.mu_model.proofs.Basics.{true_or}
use Rattle.mu_model.specs.Histories.{event_by}
use Rattle.mu_pace.specs.Asking.{far, far_copy, turns}
use Rattle.mu_pace.specs.Members.{IsNextMember, members_below, members_from}
use Rattle.mu_pace.specs.Watches.{is_brought_up}
use Rattle.mu_pace.specs.Weights.{Bringing, From, GoesOn, Lag, Stage, asks, at_position, beyond, last_position, learnt_here, next_position}
use Rattle.mu_pace.proofs.Beside.{not_more}
use Rattle.mu_pace.proofs.Members.{counts_of_members, none_counted}
use Rattle.mu_pace.proofs.Placed.{places_lead}
use Rattle.mu_pace.proofs.Weights.{weights_fall}
use Rattle.mu_lead.specs.declared.place.Place.{Place}
use Rattle.mu_lead.specs.declared.place.Then.{Then}
use Rattle.mu_lively.specs.Onward.{MayBringUp, MayGoOn}
use Rattle.mu_lively.specs.Rooms.{IsLed, IsPlaced, sizes_of}
use Rattle.mu_lead.proofs.Bringing.{look_event}
use Rattle.mu_lively.proofs.RoomsLearning.{past_none}
use Rattle.mu_lively.proofs.RoomsOnward.{onward_step}
use Rattle.mu_lively.proofs.RoomsQuiet.{no_heads, quiet_milestone, silent_verbs_are_silent, config_is_sized, steps_on}

-- what leaves the known list teaches nothing
pub untaught : (c : Config) (r : ℕ) (e : Event) (mine : List Event) → known c r (e ∷ mine) ≡ known c r mine → knows_more c r mine e ≡ false
untaught c r e mine same = subst (λ xs. nat_lt (length (known c r mine)) (length xs) ≡ false) (sym same) (not_more (length (known c r mine)))

-- so a past look doesn't
pub past_untaught : (c : Config) (r p i : ℕ) (a : Answer) (mine : List Event) → is_past a ≡ true → knows_more c r mine (look_event r p i a) ≡ false
past_untaught c r p i a mine past = untaught c r (look_event r p i a) mine (past_none c r p i a mine past)

-- who passes the first test passes the second, and none passes both
pub none_passes : (x y : Bool) → (x ≡ true → y ≡ true) → (x && y) ≡ false → x ≡ false
none_passes true y then_so none = absurd (true≢false (sym (then_so refl) ∙ none))
none_passes false y then_so none = refl

pub passes_left : (x y : Bool) → (x && y) ≡ true → x ≡ true
passes_left true y both = refl
passes_left false y both = both

pub not_none : (x y : Bool) → x ≡ true → y ≡ true → (x && y) ≡ false → ⊥
not_none true true a b none = true≢false none
not_none true false a b none = true≢false (sym b)
not_none false y a b none = true≢false (sym a)

-- an entry was learnt that every member lacks: the first one is brought up
pub rooms_learnt_here : (c : Config) (r p q i : ℕ) (a : Answer) (mine : List Event) → IsConfig c → is_replication mine (look_event r p i a) ≡ true → knows_more c r mine (look_event r p i a) ≡ true → p < c.replicas → is_member r p mine ≡ true → has_quorum c r mine ≡ true
    → ((k : ℕ) → k < q → is_member r k mine ≡ false) → IsLed c r mine (Stage.LookAt (members_from c r p mine)) → MayBringUp c r (look_event r p i a ∷ mine) q Then.Position
rooms_learnt_here c r p q i a mine is turn more region member quorum none at step first =
    let e = look_event r p i a in
    let k = members_from c r p mine in
    let some = counts_of_members.some c r p mine region member in
    let all = counts_of_members.all c r p mine in
    let many = counts_of_members.majority c r mine quorum in
    let edge = learnt_here k step some many first in
    subst (λ m. IsLed c r (e ∷ mine) (Stage.Bring (Lag.Position m) step)) (sym (counts_of_members.none_below c r q (e ∷ mine) none)) (record {
      read = at.read;
      placed = places_lead.copy c r (sizes_of c r mine) (Stage.LookAt k) (Stage.Bring (Lag.Position 0) step) mine e (config_is_sized c r mine is) at.placed (record {
        turn = turn;
        edge = edge;
        place = at_position 0 step (omega (arith, some, all));
        no_milestone = quiet_milestone c r mine e refl (not_more (length (commits c r mine))) (no_heads c r mine);
        copies = true_or (knows_more c r mine e) (is_copying c r mine e) more;
        same = refl;
        asks = λ l low stranger. inl (far_copy (Stage.LookAt k) (Stage.Bring (Lag.Position 0) step) edge refl refl);
        levels = λ level. absurd (true≢false (sym level));
      });
    })

-- a member was brought up at the position, and the next one is
pub rooms_next_position : (c : Config) (r p q u : ℕ) (mine : List Event) (written : List ℕ) → IsConfig c → is_replication mine (event_by r (Verb.RaiseFuo p u) Answer.Done) ≡ true → IsNextMember c r p q mine → q < c.replicas → is_member r q mine ≡ true
    → IsPlaced c r mine written (Place.RaiseBehind p Then.Position) → MayBringUp c r (event_by r (Verb.RaiseFuo p u) Answer.Done ∷ mine) q Then.Position
rooms_next_position c r p q u mine written is turn next region member at step first =
    let e = event_by r (Verb.RaiseFuo p u) Answer.Done in
    let below = members_below c r p mine in
    let one : members_below c r q mine ≡ below + 1 = counts_of_members.next_below c r p q mine next in
    let some = counts_of_members.some c r q mine region member in
    let all = counts_of_members.all c r q mine in
    let edge = next_position below step first in
    subst (λ m. IsLed c r (e ∷ mine) (Stage.Bring (Lag.Position m) step)) (sym one) (record {
      read = at.read;
      placed = steps_on c r (Stage.Bring (Lag.Position below) Bringing.Raise) (Stage.Bring (Lag.Position (below + 1)) step) mine e is turn (silent_verbs_are_silent c r mine r (Verb.RaiseFuo p u) Answer.Done refl) at.placed edge (at_position (below + 1) step (omega (arith, one, some, all)))
          (λ k low stranger. inl (far (Stage.Bring (Lag.Position below) Bringing.Raise) (Stage.Bring (Lag.Position (below + 1)) step) edge refl refl)) (λ level. absurd (true≢false (sym level)));
    })

-- no member lies beyond all regions
none_beyond : (c : Config) (r : ℕ) (mine : List Event) → members_from c r c.replicas mine ≡ 0
none_beyond c r mine = none_counted c.replicas (λ q. nat_le c.replicas q && is_member r q mine) (λ k low. outside (nat_le c.replicas k) (is_member r k mine) (λ h. (let up = leb-true c.replicas k h in omega (arith, up, low))))
  where
    outside : (x y : Bool) → (x ≡ true → ⊥) → (x && y) ≡ false
    outside true y no_way = absurd (no_way refl)
    outside false y no_way = refl

-- or all were, and the next position begins
pub rooms_last_position : (c : Config) (r p u : ℕ) (mine : List Event) (written : List ℕ) → IsConfig c → is_replication mine (event_by r (Verb.RaiseFuo p u) Answer.Done) ≡ true → IsNextMember c r p c.replicas mine
    → ((k : ℕ) → is_member r k (event_by r (Verb.RaiseFuo p u) Answer.Done ∷ mine) ≡ true → is_brought_up c r k (event_by r (Verb.RaiseFuo p u) Answer.Done ∷ mine) ≡ true)
    → IsPlaced c r mine written (Place.RaiseBehind p Then.Position) → MayGoOn c r (event_by r (Verb.RaiseFuo p u) Answer.Done ∷ mine) c.replicas
rooms_last_position c r p u mine written is turn next levels at =
    let below = members_below c r p mine in
    let stage = Stage.Bring (Lag.Position below) Bringing.Raise in
    let one = counts_of_members.next c r p c.replicas mine next in
    let last = none_beyond c r mine in
    let all = counts_of_members.all c r p mine in
    onward_step c r c.replicas stage mine (event_by r (Verb.RaiseFuo p u) Answer.Done) is turn (silent_verbs_are_silent c r mine r (Verb.RaiseFuo p u) Answer.Done refl) refl at.read at (omega arith) (λ t goes. from_room below t (omega (arith, one, last, all)) goes)
    (record {
      nearer = λ k q low above stranger. inl (turns stage q refl (weights_fall.heavy (sizes_of c r mine) stage (config_is_sized c r mine is) at.placed.place) above);
      farther = λ k low stranger. inl refl;
    })
    (inr levels)
  where
    from_room : (below : ℕ) (t : Stage) → below + 1 ≡ members c r mine → From (sizes_of c r mine) c.replicas t → GoesOn (sizes_of c r mine) (Stage.Bring (Lag.Position below) Bringing.Raise) t
    from_room below t all (asks q from to) = absurd (omega (arith, from, to))
    from_room below t all (beyond u few room) = last_position below u all room
