-- goes on (gathering): the place to which the listing goes on from asks, fences, minima and lost
-- leaderships; from then on it leads until the leadership is over.
use Rattle.std.specs.Prelude.{Bool, List, false, true, ℕ, ◌+◌, ◌<◌, ◌==◌, ◌≡◌, ◌≤◌, ◌⊎◌}
use Rattle.mu_model.specs.declared.event.Event.{Event}
use Rattle.mu_model.specs.Leaderships.{is_over}
use Rattle.mu_lead.specs.declared.place.Place.{Place}
use Rattle.mu_lead.specs.Beside.{leads_at}

-- minima are read
abbrev pub reads_first : Place → Bool
reads_first (Place.ReadMin p) = true
reads_first Place.Rest = true
reads_first place = false

-- after the ask of p the next region of n is asked, and after the last one fences are read
abbrev pub FollowsAsk : ℕ → ℕ → Place → Type 0
FollowsAsk n p new = (new ≡ Place.Ask (p + 1)) ⊎ ((n ≤ p + 1) × (new ≡ Place.Confirm 0 0))

-- after a round comes another one, or the asks again after 16 rounds, or the minima
abbrev pub FollowsRound : ℕ → Place → Type 0
FollowsRound round new =
    ((round < 15) × (new ≡ Place.Confirm (round + 1) 0))
    ⊎ (((15 ≤ round) × (new ≡ Place.Ask 0)) ⊎ (reads_first new ≡ true))

-- after the fence of p the next one of n is read, and the last one ends the round
abbrev pub FollowsFence : ℕ → ℕ → ℕ → Place → Type 0
FollowsFence n round p new =
    (new ≡ Place.Confirm round (p + 1)) ⊎ ((n ≤ p + 1) × FollowsRound round new)

-- the regions are asked again, or the fence of a put that missed is read
abbrev pub ends_at : Place → Bool
ends_at (Place.Ask p) = p == 0
ends_at (Place.Evidence p) = true
ends_at place = false

-- the leader leads on, or the leadership is over
abbrev pub LeadsOrEnds : ℕ → List Event → Place → Type 0
LeadsOrEnds r now new = (leads_at new ≡ true) ⊎ ((is_over r now ≡ true) × (ends_at new ≡ true))

-- the place that follows another, with these events of r after the step
abbrev pub GoesFrom : ℕ → ℕ → List Event → Place → Place → Type 0
GoesFrom n r now (Place.Ask p) new = FollowsAsk n p new
GoesFrom n r now (Place.Confirm round p) new = FollowsFence n round p new
GoesFrom n r now (Place.ReadMin p) new = leads_at new ≡ true
GoesFrom n r now (Place.Evidence p) new = new ≡ Place.Ask 0
GoesFrom n r now place new = LeadsOrEnds r now new
