-- Where a leader is that was told which leader the scores name.
use Rattle.std.proofs.Common.{Bool, false, refl, sym, true, true≢false, ℕ, ◌&&◌, ◌∙◌, ◌≡◌, ◌||◌}
use Rattle.std.specs.Prelude.{if◌then◌else◌, nat_lt}
use Rattle.mu_lead.specs.declared.lead.Lead.{Lead}
use Rattle.mu_lead.specs.declared.place.Place.{Place}
use Rattle.mu_lead.specs.Beside.{leads_at}
use Rattle.mu_lead.specs.Resigning.{IsTold, gives_up}

-- it asks anew if it gives up, and else is where it was
pub gives_place : (gives : Bool) (old : Place) → gives ≡ true → Place.Ask 0 ≡ (if gives then Place.Ask 0 else old)
gives_place true old h = refl
gives_place false old h = absurd (true≢false (sym h))

pub keeps_place : (gives : Bool) (old : Place) → gives ≡ false → old ≡ (if gives then Place.Ask 0 else old)
keeps_place true old h = absurd (true≢false h)
keeps_place false old h = refl

-- it is where it was if no lower replica is named
pub told_still : (old new : Lead) (leader : ℕ) → IsTold old leader new → nat_lt leader old.id ≡ false → new.place ≡ old.place
told_still old new leader told own = told.place ∙ sym (keeps_place (gives_up old leader) old.place (stays (old.under_way || leads_at old.place) (nat_lt leader old.id) own))
  where
    stays : (t u : Bool) → u ≡ false → (t && u) ≡ false
    stays true u none = none
    stays false u none = refl
