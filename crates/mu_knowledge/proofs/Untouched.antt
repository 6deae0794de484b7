-- An event that neither writes nor reads a row leaves the rows as they were, and one that tells nothing what is known.
use Rattle.std.proofs.Common.{◌≡◌, ◌||◌, ℕ, Bool, true, false, List, ◌∷◌, refl}
use Rattle.std.proofs.lemmas.Bool.{true≢false}
use Rattle.mu_model.specs.declared.config.Config.{Config}
use Rattle.mu_model.specs.declared.event.Answer.{Answer}
use Rattle.mu_model.specs.declared.event.Event.{Event}
use Rattle.mu_model.specs.declared.event.Verb.{Verb}
use Rattle.mu_model.specs.Histories.{event_by}
use Rattle.mu_knowledge.specs.HeldRows.{HasWords, StandsForHeldRows, WroteWords, is_of_row}
use Rattle.mu_knowledge.specs.KnownLog.{StandsForKnownLog, is_telling}
use Rattle.mu_knowledge.specs.declared.held_rows.HeldRows.{HeldRows}
use Rattle.mu_knowledge.specs.declared.known_log.KnownLog.{KnownLog}

-- the words that r has
pub got_stays : (c : Config) (r by : ℕ) (verb : Verb) (answer : Answer) (mine : List Event) (got : List Bool) → is_of_row verb ≡ false → HasWords c r mine got → HasWords c r (record { by = by; verb = verb; answer = answer } ∷ mine) got
got_stays c r by (Verb.WriteRow j k x) answer mine got other held = absurd (true≢false other)
got_stays c r by (Verb.ReadRow v k) answer mine got other held = absurd (true≢false other)
got_stays c r by verb answer mine got other held = held

-- and the words that it wrote
pub written_stays : (c : Config) (r by : ℕ) (verb : Verb) (answer : Answer) (mine : List Event) (written : List Bool) → is_of_row verb ≡ false → WroteWords c r mine written → WroteWords c r (record { by = by; verb = verb; answer = answer } ∷ mine) written
written_stays c r by (Verb.WriteRow j k x) answer mine written other held = absurd (true≢false other)
written_stays c r by (Verb.ReadRow v k) answer mine written other held = absurd (true≢false other)
written_stays c r by verb answer mine written other held = held

-- and what is known
known_stays : (c : Config) (r by : ℕ) (verb : Verb) (answer : Answer) (mine : List Event) (state : KnownLog) → is_telling verb ≡ false → StandsForKnownLog c r mine state → StandsForKnownLog c r (event_by by verb answer ∷ mine) state
known_stays c r by (Verb.Look p i) answer mine state other held = absurd (true≢false other)
known_stays c r by (Verb.PutSlot p i b v) answer mine state other held = absurd (true≢false other)
known_stays c r by (Verb.Fuo p) answer mine state other held = absurd (true≢false other)
known_stays c r by verb answer mine state other held = record { values = held.values; fuos = held.fuos; positions = held.positions; seen = held.seen }

pub known_kept : (c : Config) (r : ℕ) (e : Event) (mine : List Event) (state : KnownLog) → is_telling e.verb ≡ false → StandsForKnownLog c r mine state → StandsForKnownLog c r (e ∷ mine) state
known_kept c r e mine state other held = known_stays c r e.by e.verb e.answer mine state other held

-- with neither, which rows are there and what is applied
rows_stay : (c : Config) (r by : ℕ) (verb : Verb) (answer : Answer) (mine : List Event) (state : HeldRows) → is_of_row verb ≡ false → is_telling verb ≡ false → StandsForHeldRows c r mine state → StandsForHeldRows c r (event_by by verb answer ∷ mine) state
rows_stay c r by (Verb.WriteRow j k x) answer mine state other quiet held = absurd (true≢false other)
rows_stay c r by (Verb.ReadRow v k) answer mine state other quiet held = absurd (true≢false other)
rows_stay c r by (Verb.Look p i) answer mine state other quiet held = absurd (true≢false quiet)
rows_stay c r by (Verb.PutSlot p i b v) answer mine state other quiet held = absurd (true≢false quiet)
rows_stay c r by (Verb.Fuo p) answer mine state other quiet held = absurd (true≢false quiet)
rows_stay c r by verb answer mine state other quiet held = record { written = held.written; got = held.got; applied = held.applied }

neither : (a b : Bool) → (a || b) ≡ false → (a ≡ false) × (b ≡ false)
neither true b e = absurd (true≢false e)
neither false b e = (refl, e)

pub rows_kept : (c : Config) (r : ℕ) (e : Event) (mine : List Event) (state : HeldRows) → (is_of_row e.verb || is_telling e.verb) ≡ false → StandsForHeldRows c r mine state → StandsForHeldRows c r (e ∷ mine) state
rows_kept c r e mine state still held = let parts = neither (is_of_row e.verb) (is_telling e.verb) still in rows_stay c r e.by e.verb e.answer mine state parts.0 parts.1 held
