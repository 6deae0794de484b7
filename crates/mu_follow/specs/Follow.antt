-- stands for (replayer): the state of a replayer stands for the events of replica r.
use Rattle.std.specs.Prelude.{Bool, IfSome, List, None, Some, length, ℕ, ◌+◌, ◌<◌, ◌∷◌, ◌≡◌}
use Rattle.std.specs.declared.option.Option.{Option}
use Rattle.mu_model.specs.declared.config.Config.{Config}
use Rattle.mu_model.specs.declared.event.Event.{Event}
use Rattle.mu_model.specs.declared.event.Verb.{Verb}
use Rattle.mu_model.specs.Allowed.{Allowed}
use Rattle.mu_model.specs.Ends.{outrun}
use Rattle.mu_model.specs.Knowledge.{applied, committed, known}
use Rattle.mu_model.specs.Parts.{IsPossible}
use Rattle.mu_knowledge.specs.FilledLog.{StandsForFilledLog}
use Rattle.mu_knowledge.specs.HeldRows.{StandsForHeldRows}
use Rattle.mu_knowledge.specs.KnownLog.{StandsForKnownLog}
use Rattle.mu_knowledge.specs.RowWords.{StandsForRowWords}
use Rattle.mu_follow.specs.declared.follow.Follow.{Follow}
use Rattle.mu_follow.specs.declared.kind.Kind.{Kind}
use Rattle.mu_follow.specs.Commits.{HoldsCommits}
use Rattle.mu_follow.specs.Completion.{HoldsCompletion}
use Rattle.mu_follow.specs.Due.{HoldsProgress, IsReplay}
use Rattle.mu_follow.specs.Kinds.{kind_of}
use Rattle.mu_follow.specs.Published.{HoldsPublished}

-- what it knows, has and did stands for the events; count events are counted
pub record HoldsFollow (c : Config) (r : ℕ) (mine : List Event) (count : ℕ)
    (state : Follow) : Type 0 where
  pub config : state.config ≡ c
  pub replica : state.replica ≡ r
  pub inside : r < c.replicas
  pub steps : state.steps ≡ count
  pub knowing : StandsForKnownLog c r mine state.knowing
  pub rows : StandsForHeldRows c r mine state.rows
  pub words : StandsForRowWords c r mine state.words
  pub own_log : StandsForFilledLog c r r mine state.own_log
  pub heads : HoldsPublished r mine state.heads
  pub completion : HoldsCompletion c (applied c r mine) state.completion
  pub commits : HoldsCommits c r mine state.commits
  pub outrun : state.outrun ≡ outrun c r mine
  pub progress : HoldsProgress c r mine state.progress

-- the state stands for the events
abbrev pub StandsForFollow : Config → ℕ → List Event → Follow → Type 0
StandsForFollow c r mine state = HoldsFollow c r mine (length mine) state

-- the position and the value that the next event of r after its part mine commits
abbrev pub commit_of : Config → ℕ → List Event → Event → Option (ℕ × ℕ)
commit_of c r mine e =
    committed c r (length (known c r mine)) e.by e.verb e.answer (e ∷ mine)

-- the state counts one event more than it stands for: a put that made its entry known, which is
-- told next
abbrev pub AwaitsEntry : Config → ℕ → List Event → Follow → Type 0
AwaitsEntry c r mine state = HoldsFollow c r mine (length mine + 1) state

-- the answer is this of the replica's events, which it was allowed
abbrev pub Plans : {A : Type 0} → Follow → (Config → ℕ → List Event → A) → A → Type 0
Plans state of answer =
    (c : Config) → (r : ℕ) → (mine : List Event) → IsPossible c r mine
    → StandsForFollow c r mine state → answer ≡ of c r mine

-- if a verb is due, the replica may make it, and it is one of a replayer
abbrev pub MayReplay : Follow → Bool → Option Verb → Type 0
MayReplay state leading due =
    (c : Config) → (r : ℕ) → (mine : List Event) → IsPossible c r mine → length mine < c.budget
    → StandsForFollow c r mine state
    → IfSome due (λ verb. Allowed c r mine verb × IsReplay leading verb)

-- the state takes the event of r, with n events counted
abbrev pub Takes : ℕ → List Event → ℕ → Event → Follow → Follow → Type 0
Takes r mine n e before after =
    IsPossible before.config r (e ∷ mine) → HoldsFollow before.config r mine n before
    → HoldsFollow before.config r (e ∷ mine) n after

-- the same of an event whose verb is of this kind
abbrev pub TakesKind : Kind → Event → Follow → Follow → Type 0
TakesKind kind e before after =
    (mine : List Event) → (n : ℕ) → kind_of e.verb ≡ kind → Takes e.by mine n e before after

-- the same of an event that commits no entry
abbrev pub TakesWhole : Event → Follow → Follow → Type 0
TakesWhole e before after =
    (mine : List Event) → (n : ℕ) → IsPossible before.config e.by (e ∷ mine)
    → HoldsFollow before.config e.by mine n before → commit_of before.config e.by mine e ≡ None
    → HoldsFollow before.config e.by (e ∷ mine) n after

-- an event that commits an entry leaves the state as it was, but for the count
abbrev pub LeavesEntry : Event → Follow → Follow → Type 0
LeavesEntry e before after =
    (mine : List Event) → (n : ℕ) → (entry : ℕ × ℕ)
    → HoldsFollow before.config e.by mine n before
    → commit_of before.config e.by mine e ≡ Some entry
    → HoldsFollow before.config e.by mine n after

-- the step keeps the configuration, and how many entries were handed on
pub record KeepsPlan (before after : Follow) : Type 0 where
  pub config : after.config ≡ before.config
  pub handed : after.progress.handed ≡ before.progress.handed
