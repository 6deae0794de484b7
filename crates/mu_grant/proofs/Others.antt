-- What events that the host doesn't note leave as it is.
use Rattle.std.proofs.Common.{List, Some, false, refl, sym, true, ℕ, ◌==◌, ◌∷◌, ◌≡◌, ◌≢◌}
use Rattle.std.proofs.Math.Bool.{and-false}
use Rattle.std.proofs.lemmas.Bool.{ne_eqb, true≢false}
use Rattle.mu_model.specs.declared.event.Answer.{Answer}
use Rattle.mu_model.specs.declared.event.Event.{Event}
use Rattle.mu_model.specs.declared.event.Verb.{Verb}
use Rattle.mu_model.specs.Histories.{event_by}
use Rattle.mu_grant.specs.Stands.{HoldsGuest, HoldsGuests, OthersKeep, StandsFor, guest_named, is_host_step, is_noted, is_read_of_asks}
use Rattle.mu_grant.specs.declared.grants.Grants.{Grants}
use Rattle.mu_grant.specs.declared.grants.Guest.{Guest}

-- the state with other guests
abbrev pub with_guests : Grants → List Guest → Grants
with_guests state guests = record { replicas = state.replicas; id = state.id; owner = state.owner; closing = state.closing; named = state.named; looked = state.looked; drained = state.drained; guests = guests }

-- an event in parts that the host doesn't note
kept_by : (n r by : ℕ) (verb : Verb) (answer : Answer) (mine : List Event) (state : Grants) → is_noted verb answer ≡ false → StandsFor n r mine state → StandsFor n r (record { by = by; verb = verb; answer = answer } ∷ mine) state
kept_by n r by (Verb.ReadAsk w) (Answer.Number x) mine state none held = cc
kept_by n r by Verb.Close answer mine state none held = cc
kept_by n r by Verb.LookTarget answer mine state none held = cc
kept_by n r by Verb.Drain answer mine state none held = cc
kept_by n r by (Verb.Grant w) answer mine state none held = cc
kept_by n r by verb answer mine state none held = record {
  few = held.few;
  inside = held.inside;
  replicas = held.replicas;
  id = held.id;
  owner = held.owner;
  closing = held.closing;
  named = held.named;
  looked = held.looked;
  drained = held.drained;
  looked_first = held.looked_first;
  guests = λ w guest there. record { seen = (held.guests w guest there).seen; at_grant = (held.guests w guest there).at_grant; as_owner = (held.guests w guest there).as_owner };
}

-- an event that the host doesn't note leaves what the state stands for
pub others_kept : OthersKeep
others_kept n r mine state event none held = kept_by n r event.by event.verb event.answer mine state none held

-- a verb that neither reads asks nor is of a host is not noted, whatever is answered
pub not_noted : (verb : Verb) (answer : Answer) → is_host_step verb ≡ false → is_noted verb answer ≡ false
not_noted (Verb.ReadAsk w) answer none = absurd (true≢false none)
not_noted Verb.Close answer none = absurd (true≢false none)
not_noted Verb.LookTarget answer none = absurd (true≢false none)
not_noted Verb.Drain answer none = absurd (true≢false none)
not_noted (Verb.Grant w) answer none = absurd (true≢false none)
not_noted verb answer none = refl

-- an event that names no guest, or another one, leaves what is held of a guest
pub guest_kept : (r w by : ℕ) (verb : Verb) (answer : Answer) (mine : List Event) (guest : Guest) → ((q : ℕ) → guest_named verb ≡ Some q → q ≢ w) → HoldsGuest r w mine guest → HoldsGuest r w (record { by = by; verb = verb; answer = answer } ∷ mine) guest
guest_kept r w by (Verb.ReadAsk q) (Answer.Number x) mine guest differs held =
    let other : (q == w) ≡ false = ne_eqb q w (differs q refl) in
    record { seen = rw (other, and-false (by == r)) held.seen; at_grant = held.at_grant; as_owner = rw (other, and-false (by == r)) held.as_owner }
guest_kept r w by (Verb.Grant q) answer mine guest differs held =
    let other : (q == w) ≡ false = ne_eqb q w (differs q refl) in
    record { seen = held.seen; at_grant = rw (other, and-false (by == r)) held.at_grant; as_owner = held.as_owner }
guest_kept r w by verb answer mine guest differs held = record { seen = held.seen; at_grant = held.at_grant; as_owner = held.as_owner }

-- a read of asks changes nothing but what is held of guests
pub asks_change_guests : (n r by : ℕ) (verb : Verb) (answer : Answer) (mine : List Event) (state : Grants) (guests : List Guest) → is_read_of_asks verb ≡ true → StandsFor n r mine state → HoldsGuests r (event_by by verb answer ∷ mine) guests → StandsFor n r (event_by by verb answer ∷ mine) (with_guests state guests)
asks_change_guests n r by (Verb.ReadAsk w) answer mine state guests is held now = record {
  few = held.few;
  inside = held.inside;
  replicas = held.replicas;
  id = held.id;
  owner = held.owner;
  closing = held.closing;
  named = held.named;
  looked = held.looked;
  drained = held.drained;
  looked_first = held.looked_first;
  guests = now;
}
asks_change_guests n r by verb answer mine state guests is held now = absurd (true≢false (sym is))
