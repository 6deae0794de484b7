use Rattle.std.proofs.Common.{◌≡◌, ◌≤◌, length}
use Rattle.mu_model.specs.Contents.{numbers_in, rows_from}
use Rattle.mu_model.proofs.contents.rows_of_client.Given as goal

abbrev pub invariant-loop-t : goal.invariant-loop-t
invariant-loop-t l = record { so_far : l.count ≡ length (numbers_in l.config l.client (rows_from l.t l.j)); few : l.count ≤ l.t }
