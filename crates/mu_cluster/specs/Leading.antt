-- lead on: no leadership of a replay without a pause is ever over.
use Rattle.std.specs.Prelude.{List, [], false, ℕ, ◌++◌, ◌<◌, ◌≡◌}
use Rattle.mu_model.specs.declared.event.Event.{Event}
use Rattle.mu_model.specs.Histories.{history}
use Rattle.mu_model.specs.Leaderships.{is_over}
use Rattle.mu_outcome.specs.declared.outcome.Outcome.{Outcome}
use Rattle.mu_outcome.specs.Outcomes.{journal_of}

-- if the script has no pause, no leadership is ever over
abbrev pub LeadOnUnpaused : Outcome → Type 0
LeadOnUnpaused o =
    o.job.script.pauses ≡ [] → (r : ℕ) (newer older : List Event) → r < o.job.config.replicas
    → history (journal_of o r) ≡ newer ++ older → is_over r older ≡ false
