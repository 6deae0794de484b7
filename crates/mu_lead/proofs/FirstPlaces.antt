-- The places until the number is put.
use Rattle.std.proofs.Common.{Bool, false, true}
use Rattle.mu_lead.specs.declared.place.Place.{Place}

-- regions are asked, fences and minima are read, the number is put, or the evidence of a miss is read
abbrev pub is_first_place : Place → Bool
is_first_place (Place.Ask p) = true
is_first_place (Place.Confirm round p) = true
is_first_place (Place.ReadMin p) = true
is_first_place (Place.EnterMin p) = true
is_first_place (Place.PutMin p) = true
is_first_place (Place.Evidence p) = true
is_first_place place = false
