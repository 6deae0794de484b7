use Rattle.std.proofs.Common.{arith, [], ◌++◌, ◌∷◌, sym}
use Rattle.mu_model.specs.declared.reason.Reason.{Reason}
use Rattle.mu_model.specs.Points.{bounds, spelled_word}
use Rattle.mu_replicas.proofs.Points.{denies, equal, less, stops}
use Rattle.mu_replicas.proofs.replica.Replica.why_no_write_row.Goals as goal

pub returns-then-k-ge12 : goal.returns-then-k-ge12
returns-then-k-ge12 c r mine held start =
    let k = c.args.config.now in
    let one = c.needs.ensures k r mine (bounds r mine) start (λ m. c.is_row.ensures) in
    let two = c.needs-found.ensures k r mine (bounds r mine ++ Reason.NoRow c.args.j ∷ []) one (λ m. less _ _) in
    let high = c.if-k-ge12.true in
    stops k r mine (bounds r mine ++ Reason.NoRow c.args.j ∷ Reason.NoWord c.args.k ∷ []) (spelled_word k c.args.j c.args.k c.args.x ∷ Reason.Written c.args.j c.args.k ∷ []) _ (λ m. let l = m.1.1.1.0 in absurd (omega (arith, l, high))) two

pub returns : goal.returns
returns c r mine held start =
    let k = c.args.config.now in
    let one = c.needs.ensures k r mine (bounds r mine) start (λ m. c.is_row.ensures) in
    let two = c.needs-found.ensures k r mine (bounds r mine ++ Reason.NoRow c.args.j ∷ []) one (λ m. less _ _) in
    let three = c.needs-2.ensures k r mine (bounds r mine ++ Reason.NoRow c.args.j ∷ Reason.NoWord c.args.k ∷ []) two (λ m. equal _ _) in
    let four = c.needs-3.ensures k r mine (bounds r mine ++ Reason.NoRow c.args.j ∷ Reason.NoWord c.args.k ∷ Reason.OtherWord c.args.j c.args.k c.args.x c.row_word-spelled.result c.row_client-client.result c.row_number-number.result ∷ []) three (λ m. denies _ _ (c.has_written-written.ensures k r mine m.1.1.0 m.1.1.1.0 held.held_rows)) in
    rw (sym c.row_word-spelled.ensures) (rw (sym c.row_client-client.ensures) (rw (sym c.row_number-number.ensures) four))
