-- are diligent, are nodes: the journal of each replica of an outcome is diligent; in each turn of
-- the leader it did what is due to a plain node, or to an eager one.
use Rattle.std.specs.Prelude.{Bool, false, ℕ, ◌<◌}
use Rattle.mu_model.specs.Diligence.{IsDiligentBy}
use Rattle.mu_model.specs.Histories.{history}
use Rattle.mu_node.specs.declared.zeal.Zeal.{Zeal}
use Rattle.mu_node.specs.Journal.{IsListed}
use Rattle.mu_outcome.specs.declared.outcome.Outcome.{Outcome}
use Rattle.mu_outcome.specs.Outcomes.{journal_of}
use Rattle.mu_agree.specs.Moments.{AtEachStep}

-- the journal of each replica is diligent, and asks again if it may
abbrev pub AreDiligentBy : Bool → Outcome → Type 0
AreDiligentBy again o =
    (r : ℕ) → r < o.job.config.replicas
    → IsDiligentBy again o.job.config r (history (journal_of o r))

-- the same of replicas that never ask again
abbrev pub AreDiligent : Outcome → Type 0
AreDiligent o = AreDiligentBy false o

-- each replica is a node of this kind: in each turn of its leader it did what is due to such a node
abbrev pub AreNodesOf : Zeal → Outcome → Type 0
AreNodesOf kind o =
    (r : ℕ) → r < o.job.config.replicas
    → AtEachStep (IsListed kind o.job.config r) (history (journal_of o r))

-- each is an eager one
abbrev pub AreEager : Outcome → Type 0
AreEager o = AreNodesOf Zeal.Eager o

-- each is a plain one
abbrev pub ArePlain : Outcome → Type 0
ArePlain o = AreNodesOf Zeal.Plain o
