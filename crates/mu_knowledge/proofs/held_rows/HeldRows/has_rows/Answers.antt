use Rattle.std.proofs.Common.{rules, arith, ℕ, ◌≡◌, ◌∙◌, ◌+◌, ◌&&◌, sym, subst, ap, Bool}
use Rattle.mu_model.specs.Histories.{all_below}
use Rattle.mu_model.specs.Knowledge.{has_row}
use Rattle.mu_model.proofs.Scans.{all_more}
use Rattle.mu_knowledge.proofs.held_rows.HeldRows.has_rows.Goals as goal

pub loop-t-preserved : goal.loop-t-preserved
loop-t-preserved c k r mine low small few held =
    let t = c.loop-t.t in
    let v = c.args.v in
    let test : ℕ → Bool = λ n. has_row r (v + n) mine in
    let so_far : c.loop-t.all ≡ all_below t test = c.loop-t.invariant k r mine low small few held in
    let at : c.from.result + c.from-in-loop-t.result ≡ v + t = omega (arith, c.from.ensures, c.from-in-loop-t.ensures) in
    let inside = c.loop-t-test.true in
    let row : c.has_row.result ≡ has_row r (v + t) mine = c.has_row.ensures k r mine (omega (arith, at, inside, low, small, few)) (omega (arith, at, inside, low, small, few)) held ∙ ap (λ x. has_row r x mine) at in
    let both : c.if-has_row.all ≡ (c.has_row.result && c.loop-t.all) = search rules in
    both ∙ rw (row, so_far) (sym (all_more test t))

pub returns : goal.returns
returns c k r mine low small few held =
    let last : c.loop-t.t ≡ c.args.n = omega (arith, c.loop-t-test.false, c.loop-t.auto.t-end) in
    subst (λ n. c.loop-t.all ≡ all_below n (λ t. has_row r (c.args.v + t) mine)) last (c.loop-t.invariant k r mine low small few held)
