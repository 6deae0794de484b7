-- The nodes sit at their places after a turn of one of them.
use Rattle.std.proofs.Common.{◌≡◌, ◌≢◌, ◌∙◌, ℕ, List, [], ◌∷◌, ◌++◌, ap, inl, inr, length-set, refl, set, subst, sym}
use Rattle.std.proofs.lemmas.Bool.{ne_eqb}
use Rattle.std.proofs.lemmas.List.{reverse-append}
use Rattle.mu_model.specs.declared.config.Config.{Config}
use Rattle.mu_model.specs.declared.event.Event.{Event}
use Rattle.mu_model.specs.Histories.{part}
use Rattle.mu_model.proofs.Lists.{set_get}
use Rattle.mu_node.specs.Node.{StandsForNode}
use Rattle.mu_engine.specs.declared.hold.Hold.{Hold}
use Rattle.mu_engine.specs.declared.seat.Seat.{Seat}
use Rattle.mu_engine.specs.Seats.{AreSeated, Plays, Sits, part_of}

-- an event of another replica
part_kept : (s : ℕ) (old : List Event) (e : Event) → s ≢ e.by → part_of s (old ++ e ∷ []) ≡ part_of s old
part_kept s old e other = ap (part s) (reverse-append old (e ∷ [])) ∙ rw (ne_eqb e.by s (λ same. other (sym same))) refl

others_kept : (c : Config) (r s : ℕ) (hold : Hold) (old new : List Event) → Plays c r hold old new → s ≢ r → part_of s new ≡ part_of s old
others_kept c r s hold old new (inl none) other = ap (part_of s) none.0
others_kept c r s hold old new (inr one) other = ap (part_of s) one.4 ∙ part_kept s old one.0 (λ is. other (is ∙ one.1))

pub seated_on : (c : Config) (old new : List Event) (seats : List Seat) (k : ℕ) (hold : Hold) (after : Seat) → Plays c k hold old new → Sits c k new after → AreSeated c old seats → AreSeated c new (set seats k after)
seated_on c old new seats k hold after plays sits was = record {
  count = length-set seats k after ∙ was.count;
  each = λ r seat at. elim (set_get seats k after r seat at) [
    | inl here ↦ subst (λ i. Sits c i new seat) (sym here.0) (subst (λ s. Sits c k new s) here.1 sits)
    | inr other ↦
        let sat = was.each r seat other.1 in
        record { lives = subst (λ l. StandsForNode c r l seat.node) (sym (others_kept c k r hold old new plays other.0)) sat.lives; stops = sat.stops; zeal = sat.zeal }
  ];
}

-- they sit there if one of them is changed
pub seated_set : (c : Config) (events : List Event) (seats : List Seat) (k : ℕ) (new : Seat) → Sits c k events new → AreSeated c events seats → AreSeated c events (set seats k new)
seated_set c events seats k new sits was = record {
  count = length-set seats k new ∙ was.count;
  each = λ r seat at. elim (set_get seats k new r seat at) [
    | inl here ↦ subst (λ i. Sits c i events seat) (sym here.0) (subst (λ s. Sits c k events s) here.1 sits)
    | inr other ↦ was.each r seat other.1
  ];
}

-- a replica sits at its own id
pub sits_own : (f c : Config) (r : ℕ) (events : List Event) (seat : Seat) → f ≡ c → Sits c r events seat → Sits f seat.node.id events seat
sits_own f c r events seat same sits = subst (λ k. Sits k seat.node.id events seat) (sym same) (subst (λ i. Sits c i events seat) (sym sits.lives.beside.id) sits)

-- and there after its turn
pub sits_there : (f c : Config) (r id : ℕ) (events : List Event) (seat : Seat) → f ≡ c → id ≡ r → Sits f id events seat → Sits c r events seat
sits_there f c r id events seat same here sits = subst (λ i. Sits c i events seat) here (subst (λ k. Sits k id events seat) same sits)

pub plays_there : (f c : Config) (r id : ℕ) (hold : Hold) (old new : List Event) → f ≡ c → id ≡ r → Plays f id hold old new → Plays c r hold old new
plays_there f c r id hold old new same here plays = subst (λ i. Plays c i hold old new) here (subst (λ k. Plays k id hold old new) same plays)
