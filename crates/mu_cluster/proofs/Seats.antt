-- The turn of a replica in a round.
use Rattle.std.proofs.Common.{◌≡◌, ◌∙◌, ℕ, suc, ◌+◌, ◌^◌, ◌<◌, ◌≤◌, Bool, true, false, List, [], ◌∷◌, ◌++◌, ap, append-nil, arith, inl, inr, length, map, refl, subst, sym}
use Rattle.std.proofs.lemmas.Bool.{lt-ltb, le-ltb, true≢false}
use Rattle.std.proofs.lemmas.List.{map-append}
use Rattle.mu_model.specs.declared.config.Config.{Config}
use Rattle.mu_model.specs.declared.event.Event.{Event}
use Rattle.mu_model.specs.declared.script.End.{End}
use Rattle.mu_model.specs.declared.script.Pause.{Pause}
use Rattle.mu_model.specs.declared.script.Script.{Script}
use Rattle.mu_model.specs.Ends.{EndsBy}
use Rattle.mu_node.specs.declared.zeal.Zeal.{Zeal}
use Rattle.mu_node.specs.declared.node.Node.{Node}
use Rattle.mu_node.specs.Following.{FollowsTurns}
use Rattle.mu_node.specs.Node.{StandsForNode}
use Rattle.mu_node.specs.Turns.{HasNoEnd}
use Rattle.mu_cluster.specs.declared.rounds.Seat.{Seat}
use Rattle.mu_cluster.specs.Rounds.{EndsNowhereBefore, KeepsPace, Plays, Sits, id_of, left_of, part_of}
use Rattle.mu_outcome.specs.Turns.{Pace, is_due, pace, rounds_paused}
use Rattle.mu_cluster.specs.Pauses.{IsNextPause}

-- who has taken all steps isn't due
spent : (pauses : List Pause) (r all : ℕ) (p : Pace) → p.taken ≡ all → is_due pauses r all p ≡ false
spent pauses r all p is = rw (le-ltb p.taken all (omega (arith, is))) refl

-- who has a step left and has waited long enough is due
ready : (pauses : List Pause) (r all n w : ℕ) (p : Pace) → p.taken ≡ n → p.waited ≡ w → n < all → rounds_paused pauses r n ≤ w → is_due pauses r all p ≡ true
ready pauses r all n w p taken waited low long = rw (taken, waited, lt-ltb n all low, le-ltb w (rounds_paused pauses r n) long) refl

pub no_end : (b : Bool) → b ≡ false → b ≡ true → ⊥
no_end b is other = true≢false (sym other ∙ is)

-- the turn in which a replica finds its end
pub ends_here : {kind : Zeal} (c : Config) (script : Script) (r : ℕ) (events : List Event) (before after : Seat) (rounds : ℕ) (end : End)
    → Sits kind c script r (part_of r events) before rounds → before.ended ≡ false → after.ended ≡ true → after.waited ≡ before.waited → after.next ≡ before.next
    → FollowsTurns c r (part_of r events) after.node → after.node.stops.items ≡ script.stops → after.node.zeal ≡ kind → EndsBy c script r (part_of r events) end
    → Plays kind c script r events events before after rounds
ends_here c script r events before after rounds end sits going ended waited same follows stops zeal ends = record {
  sits = record { follows = follows; stops = stops; zeal = zeal; next = subst (IsNextPause script.pauses r (length (part_of r events))) (sym same) sits.next; keeps = keeps; ended = λ _. (end, ends); before = sits.before };
  grows = inl refl;
  stays = λ is. absurd (no_end before.ended going is);
  ids = λ all low is. let at = sits.keeps all low (λ was. absurd (no_end before.ended going was)) in rw (spent script.pauses r all (pace script.pauses r all rounds) (at.0 ∙ sym (is ended))) (sym (append-nil (map id_of events)));
}
  where
    keeps : KeepsPace script.pauses r after.ended (length (part_of r events)) after.waited (suc rounds)
    keeps all low is =
        let at = sits.keeps all low (λ was. absurd (no_end before.ended going was)) in
        rw (spent script.pauses r all (pace script.pauses r all rounds) (at.0 ∙ sym (is ended))) (at.0, λ more. absurd (omega (arith, more, is ended)))

abbrev rest_of_list : List Event → List Event
rest_of_list [] = []
rest_of_list (e ∷ es) = es

-- after one more step no beginning has an end
pub next_before : (c : Config) (script : Script) (r : ℕ) (e : Event) (mine : List Event) → HasNoEnd c script r mine → EndsNowhereBefore c script r mine → EndsNowhereBefore c script r (e ∷ mine)
next_before c script r e mine none before [] older end same some ends = some refl
next_before c script r e mine none before (x ∷ []) older end same some ends = none end (subst (λ l. EndsBy c script r l end) (sym (ap rest_of_list same)) ends)
next_before c script r e mine none before (x ∷ y ∷ newer) older end same some ends = before (y ∷ newer) older end (ap rest_of_list same) (λ empty. absurd (let long = ap length empty in omega (arith, long))) ends

-- the turn in which a replica takes a step
pub steps_here : {kind : Zeal} (c : Config) (script : Script) (r : ℕ) (old new : List Event) (e : Event) (before after : Seat) (rounds : ℕ)
    → Sits kind c script r (part_of r old) before rounds → before.ended ≡ false → rounds_paused script.pauses r (length (part_of r old)) ≤ before.waited
    → after.ended ≡ false → after.waited ≡ 0 → IsNextPause script.pauses r (length (part_of r new)) after.next → FollowsTurns c r (part_of r new) after.node → after.node.stops.items ≡ script.stops → after.node.zeal ≡ kind
    → HasNoEnd c script r (part_of r old) → new ≡ old ++ e ∷ [] → e.by ≡ r → part_of r new ≡ e ∷ part_of r old
    → Plays kind c script r old new before after rounds
steps_here c script r old new e before after rounds sits going long on zeroed next follows stops zeal none list by is = record {
  sits = record {
    follows = follows;
    stops = stops;
    zeal = zeal;
    next = next;
    keeps = keeps;
    ended = λ was. absurd (no_end after.ended on was);
    before = subst (λ l. EndsNowhereBefore c script r l) (sym is) (next_before c script r e (part_of r old) none sits.before);
  };
  grows = inr (e, by, list);
  stays = λ was. absurd (no_end before.ended going was);
  ids = λ all low _. rw (due all low) (ap (map id_of) list ∙ (map-append id_of old (e ∷ []) ∙ ap (λ i. map id_of old ++ i ∷ []) by));
}
  where
    more : length (part_of r new) ≡ length (part_of r old) + 1
    more = ap length is ∙ omega arith

    at : (all : ℕ) → length (part_of r new) ≤ all → ((pace script.pauses r all rounds).taken ≡ length (part_of r old)) × (length (part_of r old) < all → (pace script.pauses r all rounds).waited ≡ before.waited)
    at all low = sits.keeps all (omega (arith, low, more)) (λ was. absurd (no_end before.ended going was))

    due : (all : ℕ) → length (part_of r new) ≤ all → is_due script.pauses r all (pace script.pauses r all rounds) ≡ true
    due all low =
        let below : length (part_of r old) < all = omega (arith, low, more) in
        ready script.pauses r all (length (part_of r old)) before.waited (pace script.pauses r all rounds) (at all low).0 ((at all low).1 below) below long

    keeps : KeepsPace script.pauses r after.ended (length (part_of r new)) after.waited (suc rounds)
    keeps all low _ = rw (due all low) ((let taken = (at all low).0 in omega (arith, taken, more)), λ _. sym zeroed)

-- a step leaves fewer turns
pub fewer_left : (c : Config) (r : ℕ) (old new : List Event) (before after : Seat) → StandsForNode c r old before.node → StandsForNode c r new after.node → length new ≡ length old + 1 → length new ≤ c.budget
    → before.ended ≡ false → after.ended ≡ false → before.waited < 2 ^ 32 → left_of after + 1 ≤ left_of before
fewer_left c r old new before after held now more within going on short =
    let a = held.beside.budget in let b = now.beside.budget in let s = held.beside.follow.steps in let t = now.beside.follow.steps in
    rw (going, on) (omega (arith, a, b, s, t, more, within, short))

-- a replica before any step
pub sits_first : {kind : Zeal} (c : Config) (script : Script) (r : ℕ) (node : Node) (seat : Seat) → FollowsTurns c r [] node → node.stops.items ≡ script.stops → node.zeal ≡ kind → seat.node ≡ node → seat.ended ≡ false → seat.waited ≡ 0 → IsNextPause script.pauses r 0 seat.next → Sits kind c script r [] seat 0
sits_first c script r node seat follows stops zeal same going waited next = record {
  follows = subst (λ n. FollowsTurns c r [] n) (sym same) follows;
  stops = ap (λ (n : Node). n.stops.items) same ∙ stops;
  zeal = ap (λ (n : Node). n.zeal) same ∙ zeal;
  next = next;
  keeps = λ all low _. (refl, λ _. sym waited);
  ended = λ is. absurd (no_end seat.ended going is);
  before = none;
}
  where
    none : EndsNowhereBefore c script r []
    none [] older end same some ends = some refl
    none (x ∷ newer) older end same some ends = absurd (let long = ap length same in omega (arith, long))
