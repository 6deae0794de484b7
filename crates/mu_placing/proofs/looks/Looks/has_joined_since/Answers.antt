use Rattle.std.proofs.Common.{◌≡◌, sym, ap, ◌∙◌, ◌&&◌, true, false}
use Rattle.std.specs.Prelude.{nat_lt}
use Rattle.std.proofs.lemmas.Bool.{le-ltb, lt-ltb}
use Rattle.mu_placing.specs.Looks.{begun_time, joining_time}
use Rattle.mu_placing.proofs.looks.Looks.has_joined_since.Goals as goal

pub returns-then-self-first : goal.returns-then-self-first
returns-then-self-first c k r mine low held =
    let first = c.first-first.ensures k r mine low held in
    let since : nat_lt (begun_time r mine) c.first-first.result.put_at ≡ true = ap (λ t. nat_lt t c.first-first.result.put_at) (sym held.begun_at) ∙ lt-ltb c.args.self.now.begun_at c.first-first.result.put_at c.if-self-first.true in
    ap (λ t. nat_lt c.first-first.result.put_at t) held.joined_at ∙ sym (first.joined ∙ ap (λ b. b && nat_lt c.first-first.result.put_at (joining_time r mine)) since)

pub returns-else-self-first : goal.returns-else-self-first
returns-else-self-first c k r mine low held =
    let first = c.first-first.ensures k r mine low held in
    let never : nat_lt c.args.self.now.begun_at c.first-first.result.put_at ≡ false = le-ltb c.args.self.now.begun_at c.first-first.result.put_at c.if-self-first.false in
    let since : nat_lt (begun_time r mine) c.first-first.result.put_at ≡ false = ap (λ t. nat_lt t c.first-first.result.put_at) (sym held.begun_at) ∙ never in
    never ∙ sym (first.joined ∙ ap (λ b. b && nat_lt c.first-first.result.put_at (joining_time r mine)) since)
