-- written ahead: the next word of its own rows that a leader writes in the background, before it
-- offers their batch.
use Rattle.std.specs.Prelude.{List, None, Some, get_or, if◌then◌else◌, length, nat_lt, true, ℕ, ◌%◌, ◌&&◌, ◌+◌, ◌-◌, ◌/◌, ◌<◌, ◌==◌, ◌≡◌}
use Rattle.std.specs.declared.option.Option.{Option}
use Rattle.std.specs.List.{slice_get}
use Rattle.mu_model.specs.declared.config.Config.{Config}
use Rattle.mu_model.specs.declared.event.Answer.{Answer}
use Rattle.mu_model.specs.declared.event.Event.{Event}
use Rattle.mu_model.specs.declared.event.Verb.{Verb}
use Rattle.mu_model.specs.Contents.{config_word, is_batch, rest_of}
use Rattle.mu_knowledge.specs.Offers.{first_in}
use Rattle.mu_lead.specs.declared.lead.Lead.{Lead}
use Rattle.mu_lead.specs.declared.place.Offer.{Offer}
use Rattle.mu_lead.specs.declared.place.Place.{Place}
use Rattle.mu_lead.specs.Beside.{leads_at}

-- the entry after which the leader writes ahead: the one that is offered, else the last known one
abbrev pub entry_before : List ℕ → Place → Option ℕ
entry_before values (Place.Write j last offer) = Some offer.value
entry_before values (Place.Enter p offer) = Some offer.value
entry_before values (Place.Put p offer) = Some offer.value
entry_before values place = slice_get values (length values - 1)

-- the next word of the row, if there is one
abbrev pub word_of : Config → List ℕ → Option ℕ → Option Verb
word_of c written None = None
word_of c written (Some j) =
    Some (Verb.WriteRow j (get_or written j 12) (config_word c j (get_or written j 12)))

-- the next word of the batch that begins with row `from`
abbrev pub word_from : Config → List ℕ → ℕ → Option Verb
word_from c written from =
    word_of c written
    (first_in (λ j. nat_lt (get_or written j 12) 12) from (from + rest_of c from + 1))

-- the same of the batch after the entry, if that is an own batch
abbrev pub word_after : Config → ℕ → List ℕ → Option ℕ → Option Verb
word_after c r written None = None
word_after c r written (Some v) =
    if is_batch c v && (v / 4096 == r)
    then word_from c written (v % 4096 + rest_of c (v % 4096) + 1) else None

-- the word that is written ahead at the place, while r leads
abbrev pub ahead_at : Config → ℕ → List ℕ → List ℕ → Place → Option Verb
ahead_at c r values written place =
    if leads_at place then word_after c r written (entry_before values place) else None

-- the next word of row j, and its event
abbrev pub ahead_verb : Lead → ℕ → Verb
ahead_verb l j =
    Verb.WriteRow j (get_or l.written.items j 12)
    (config_word l.config j (get_or l.written.items j 12))

abbrev pub ahead_event : Lead → ℕ → Answer → Event
ahead_event l j answer = record { by = l.id; verb = ahead_verb l j; answer = answer }

-- the leader leads, row j isn't written whole, and it comes after what is being written to be
-- offered
pub record IsAhead (l : Lead) (j : ℕ) : Type 0 where
  pub leads : leads_at l.place ≡ true
  pub lacks : get_or l.written.items j 12 < 12
  pub after : (u last : ℕ) (offer : Offer) → l.place ≡ Place.Write u last offer → last < j
