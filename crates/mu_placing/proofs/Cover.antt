-- How one event changes what covers the log of a region.
use Rattle.std.proofs.Common.{◌≡◌, ℕ, List, ◌∷◌, sym, ◌∙◌, subst}
use Rattle.std.specs.Prelude.{if◌then◌else◌}
use Rattle.std.specs.declared.option.Option.{Option}
use Rattle.mu_model.specs.declared.config.Config.{Config}
use Rattle.mu_model.specs.declared.event.Event.{Event}
use Rattle.mu_model.specs.Histories.{max_with}
use Rattle.mu_model.specs.Knowledge.{fuo_read}
use Rattle.mu_model.specs.Leaderships.{begins_leadership}
use Rattle.mu_placing.specs.FilledLogs.{HoldsCoverage, IsFirstBehind}
use Rattle.mu_knowledge.specs.FilledLog.{StandsForFilledLog}
use Rattle.mu_placing.specs.declared.filled_logs.Coverage.{Coverage}
use Rattle.mu_placing.proofs.Caught.{caught_step}

step_at : (c : Config) (r p : ℕ) (e : Event) (mine : List Event) (old new : Coverage) (read : Option ℕ) → HoldsCoverage c r p mine old → new.id ≡ old.id → StandsForFilledLog c r p (e ∷ mine) new.log
    → read ≡ fuo_read r p e.by e.verb e.answer
    → IsFirstBehind c r p (e ∷ mine) (max_with read (if begins_leadership r e then 0 else old.caught_to)) new.caught_to
    → HoldsCoverage c r p (e ∷ mine) new
step_at c r p e mine old new read held id log reads behind =
    let caught = caught_step c r p old.caught_to new.caught_to e mine held.caught held.caught_next (subst (λ o. IsFirstBehind c r p (e ∷ mine) (max_with o (if begins_leadership r e then 0 else old.caught_to)) new.caught_to) reads behind) in
    record { id = id ∙ held.id; log = log; caught = caught.0; caught_next = caught.1 }

-- the same in terms of the region that the state names
pub coverage_step : (c : Config) (r p : ℕ) (e : Event) (mine : List Event) (old new : Coverage) (read : Option ℕ) → HoldsCoverage c r p mine old → new.id ≡ old.id
    → (StandsForFilledLog c r old.id mine old.log → StandsForFilledLog c r old.id (e ∷ mine) new.log)
    → read ≡ fuo_read r old.id e.by e.verb e.answer
    → IsFirstBehind c r old.id (e ∷ mine) (max_with read (if begins_leadership r e then 0 else old.caught_to)) new.caught_to
    → HoldsCoverage c r p (e ∷ mine) new
coverage_step c r p e mine old new read held id log reads behind =
    let own = subst (λ q. HoldsCoverage c r q mine old) (sym held.id) held in
    subst (λ q. HoldsCoverage c r q (e ∷ mine) new) held.id (step_at c r old.id e mine old new read own id (log own.log) reads behind)
