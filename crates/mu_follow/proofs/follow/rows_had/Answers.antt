use Rattle.std.proofs.Common.{Bool, ap, arith, sym, ℕ, ◌+◌, ◌≡◌, ◌∙◌}
use Rattle.mu_model.specs.Knowledge.{has_row}
use Rattle.mu_follow.proofs.Due.{firsts_pass, one_more}
use Rattle.mu_follow.proofs.follow.rows_had.Goals as goal

pub loop-had-preserved : goal.loop-had-preserved
loop-had-preserved c =
    let v = c.args.v in
    let n = c.loop-had.had in
    let inside = c.loop-had-test.true in
    let next : c.saturating_add-had.result ≡ n + 1 = omega (arith, c.saturating_add-had.ensures, inside, c.ranges.n.fits) in
    let at : c.from.result + c.from-in-loop-had.result ≡ v + n = omega (arith, c.from.ensures, c.from-in-loop-had.ensures) in
    record {
      within = omega (arith, next, inside);
      there = λ k r mine low small few held.
          let row : c.has_row.result ≡ has_row r (v + n) mine = c.has_row.ensures k r mine (omega (arith, at, inside, low, small, few)) (omega (arith, at, inside, low, small, few)) held.got ∙ ap (λ x. has_row r x mine) at in
          one_more (λ t. has_row r (v + t) mine) n c.saturating_add-had.result (c.loop-had.invariant.there k r mine low small few held) (sym row ∙ c.if-has_row.true) next;
    }

pub returns-else-has_row : goal.returns-else-has_row
returns-else-has_row c k r mine low small few held =
    let v = c.args.v in
    let n = c.loop-had.had in
    let inside = c.loop-had-test.true in
    let test : ℕ → Bool = λ t. has_row r (v + t) mine in
    let at : c.from.result + c.from-in-loop-had.result ≡ v + n = omega (arith, c.from.ensures, c.from-in-loop-had.ensures) in
    let row : c.has_row.result ≡ test n = c.has_row.ensures k r mine (omega (arith, at, inside, low, small, few)) (omega (arith, at, inside, low, small, few)) held.got ∙ ap (λ x. has_row r x mine) at in
    firsts_pass test c.args.n n (c.loop-had.invariant.there k r mine low small few held) c.loop-had.invariant.within (λ less. sym row ∙ c.if-has_row.false)

pub returns-after-loop-had : goal.returns-after-loop-had
returns-after-loop-had c k r mine low small few held =
    firsts_pass (λ t. has_row r (c.args.v + t) mine) c.args.n c.loop-had.had (c.loop-had.invariant.there k r mine low small few held) c.loop-had.invariant.within (λ less. absurd (omega (arith, less, c.loop-had-test.false)))
