use Rattle.std.proofs.Common.{ℕ, ◌<◌, arith}
use Rattle.mu_model.specs.Histories.{history}
use Rattle.mu_model.specs.Regions.{fence_grant}
use Rattle.mu_model.proofs.Counts.{grants_within}
use Rattle.worked_rows.proofs.model.answer.Goals as goal

pub answers-requires : goal.answers-requires
answers-requires c = record { few = few }
  where
    few : (p : ℕ) → fence_grant p (history c.args.events.now) < 4294967296
    few p =
        let within = grants_within p c.args.events.now in
        let short = c.requires in
        omega (arith, within, short)
