-- An event whose verb isn't a leader's leaves what is known of the logs.
use Rattle.std.proofs.Common.{◌≡◌, ℕ, false, List, ◌∷◌}
use Rattle.mu_model.specs.declared.config.Config.{Config}
use Rattle.mu_model.specs.declared.event.Answer.{Answer}
use Rattle.mu_model.specs.declared.event.Event.{Event}
use Rattle.mu_model.specs.declared.event.Verb.{Verb}
use Rattle.mu_model.specs.Histories.{event_by}
use Rattle.mu_leadership.specs.Bearing.{is_leader_verb}
use Rattle.mu_placing.specs.FilledLogs.{StandsForFilledLogs}
use Rattle.mu_placing.specs.declared.filled_logs.FilledLogs.{FilledLogs}

kept_by : (c : Config) (r by : ℕ) (verb : Verb) (answer : Answer) (mine : List Event) (state : FilledLogs) → is_leader_verb verb ≡ false → StandsForFilledLogs c r mine state → StandsForFilledLogs c r (event_by by verb answer ∷ mine) state
kept_by c r by (Verb.Ask p) answer mine state other held = cc
kept_by c r by (Verb.Fence p) answer mine state other held = cc
kept_by c r by (Verb.Min p) answer mine state other held = cc
kept_by c r by (Verb.Enter p t) answer mine state other held = cc
kept_by c r by (Verb.PutMin p b) answer mine state other held = cc
kept_by c r by (Verb.Look p i) answer mine state other held = cc
kept_by c r by (Verb.PutSlot p i b v) answer mine state other held = cc
kept_by c r by (Verb.Fuo p) answer mine state other held = cc
kept_by c r by (Verb.RaiseFuo p u) answer mine state other held = cc
kept_by c r by verb answer mine state other held = record {
  count = held.count;
  each = λ p region there.
      let h = held.each p region there in
      record { id = h.id; log = record { room = h.log.room; filled = h.log.filled; next = h.log.next }; caught = h.caught; caught_next = h.caught_next };
}

pub covering_kept : (c : Config) (r : ℕ) (e : Event) (mine : List Event) (state : FilledLogs) → is_leader_verb e.verb ≡ false → StandsForFilledLogs c r mine state → StandsForFilledLogs c r (e ∷ mine) state
covering_kept c r e mine state other held = kept_by c r e.by e.verb e.answer mine state other held
