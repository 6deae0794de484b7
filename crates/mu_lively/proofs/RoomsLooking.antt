-- The counts of a leader while it looks at a new position, if the looks teach nothing.
use Rattle.std.proofs.Common.{◌≡◌, ℕ, ◌*◌, ◌<◌, ◌≤◌, inl, true, false, List, ◌∷◌, refl, arith}
use Rattle.mu_model.specs.declared.config.Config.{Config}
use Rattle.mu_model.specs.declared.event.Answer.{Answer}
use Rattle.mu_model.specs.declared.event.Event.{Event}
use Rattle.mu_model.specs.Bounds.{members}
use Rattle.mu_model.specs.Contents.{IsConfig}
use Rattle.mu_model.specs.Leaderships.{is_member}
use Rattle.mu_model.specs.Steps.{knows_more}
use Rattle.mu_model.specs.Stretches.{is_replication}
use Rattle.mu_pace.specs.Asking.{far, is_far}
use Rattle.mu_pace.specs.Members.{IsNextMember, members_from}
use Rattle.mu_pace.specs.Weights.{GoesOn, IsPlace, Stage, at_look, at_rest, at_slot, at_writing, next_look, outrun_looking, picks, writes}
use Rattle.mu_pace.proofs.Members.{counts_of_members}
use Rattle.mu_lead.specs.Leading.{end_of}
use Rattle.mu_lively.specs.Rooms.{IsLed, sizes_of}
use Rattle.mu_lead.proofs.Bringing.{look_event}
use Rattle.mu_lead.proofs.Looks.{look_same}
use Rattle.mu_lively.proofs.RoomsPutting.{in_turn}
use Rattle.mu_lively.proofs.RoomsQuiet.{known_look_silent, steps_on}
use Rattle.std.proofs.lemmas.Bool.{ltb-false}

-- what teaches nothing leaves what is known
pub none_longer : (c : Config) (r : ℕ) (e : Event) (mine : List Event) → knows_more c r mine e ≡ false → end_of c r (e ∷ mine) ≤ end_of c r mine
none_longer c r e mine none = ltb-false (end_of c r mine) (end_of c r (e ∷ mine)) none

looks_on : (c : Config) (r p i : ℕ) (a : Answer) (u : Stage) (mine : List Event) → IsConfig c → is_replication mine (look_event r p i a) ≡ true → knows_more c r mine (look_event r p i a) ≡ false → IsLed c r mine (Stage.LookAt (members_from c r p mine))
    → GoesOn (sizes_of c r mine) (Stage.LookAt (members_from c r p mine)) u → IsPlace (sizes_of c r mine) u → ((k : ℕ) → is_far k u ≡ true) → IsLed c r (look_event r p i a ∷ mine) u
looks_on c r p i a u mine is turn none at edge place distant = record {
  read = at.read;
  placed = steps_on c r (Stage.LookAt (members_from c r p mine)) u mine (look_event r p i a) is turn (known_look_silent c r p i a mine (look_same c r (look_event r p i a) mine (none_longer c r (look_event r p i a) mine none))) at.placed edge place
      (λ k low stranger. inl (far (Stage.LookAt (members_from c r p mine)) u edge refl (distant k))) (λ level. inl refl);
}

-- the next member is looked at
pub rooms_next_look : (c : Config) (r p q i : ℕ) (a : Answer) (mine : List Event) → IsConfig c → is_replication mine (look_event r p i a) ≡ true → knows_more c r mine (look_event r p i a) ≡ false → IsNextMember c r p q mine → IsLed c r mine (Stage.LookAt (members_from c r p mine))
    → IsLed c r (look_event r p i a ∷ mine) (Stage.LookAt (members_from c r q mine))
rooms_next_look c r p q i a mine is turn none next at =
    let k = members_from c r p mine in
    let j = members_from c r q mine in
    let one = counts_of_members.next c r p q mine next in
    looks_on c r p i a (Stage.LookAt j) mine is turn none at (next_look k j (omega (arith, one))) (at_look j (in_turn c r q mine)) (λ l. refl)

-- rows are written
pub rooms_writes : (c : Config) (r p i words : ℕ) (a : Answer) (mine : List Event) → IsConfig c → is_replication mine (look_event r p i a) ≡ true → knows_more c r mine (look_event r p i a) ≡ false → p < c.replicas → is_member r p mine ≡ true → 1 ≤ words → words ≤ 12 * c.width
    → IsLed c r mine (Stage.LookAt (members_from c r p mine)) → IsLed c r (look_event r p i a ∷ mine) (Stage.Write words)
rooms_writes c r p i words a mine is turn none region member some few at =
    looks_on c r p i a (Stage.Write words) mine is turn none at (writes (members_from c r p mine) words (counts_of_members.some c r p mine region member) few) (at_writing words some few) (λ l. refl)

-- or the value is put
pub rooms_picks : (c : Config) (r p i m : ℕ) (a : Answer) (mine : List Event) → IsConfig c → is_replication mine (look_event r p i a) ≡ true → knows_more c r mine (look_event r p i a) ≡ false → p < c.replicas → is_member r p mine ≡ true → 1 ≤ m → m ≤ members c r mine
    → IsLed c r mine (Stage.LookAt (members_from c r p mine)) → IsLed c r (look_event r p i a ∷ mine) (Stage.EnterAt m)
rooms_picks c r p i m a mine is turn none region member some few at =
    looks_on c r p i a (Stage.EnterAt m) mine is turn none at (picks (members_from c r p mine) m (counts_of_members.some c r p mine region member) few) (at_slot m some few) (λ l. refl)

-- or nothing more is due
pub rooms_outrun : (c : Config) (r p i : ℕ) (a : Answer) (mine : List Event) → IsConfig c → is_replication mine (look_event r p i a) ≡ true → knows_more c r mine (look_event r p i a) ≡ false → p < c.replicas → is_member r p mine ≡ true
    → IsLed c r mine (Stage.LookAt (members_from c r p mine)) → IsLed c r (look_event r p i a ∷ mine) Stage.Rest
rooms_outrun c r p i a mine is turn none region member at =
    looks_on c r p i a Stage.Rest mine is turn none at (outrun_looking (members_from c r p mine) (counts_of_members.some c r p mine region member)) at_rest (λ l. refl)
