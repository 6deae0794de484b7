use Rattle.std.proofs.Common.{rules, arith, ℕ, ◌≡◌, ◌∙◌, ◌&&◌, sym, subst, Bool}
use Rattle.mu_model.specs.Histories.{all_below}
use Rattle.mu_model.specs.Knowledge.{has_word}
use Rattle.mu_model.proofs.Scans.{all_more}
use Rattle.mu_knowledge.proofs.held_rows.HeldRows.has_all_words.Goals as goal

pub loop-k-preserved : goal.loop-k-preserved
loop-k-preserved c k r mine low small held =
    let test : ℕ → Bool = λ n. has_word r c.args.v n mine in
    let so_far : c.loop-k.all ≡ all_below c.loop-k.k test = c.loop-k.invariant k r mine low small held in
    let word : c.has_word.result ≡ has_word r c.args.v c.loop-k.k mine = c.has_word.ensures k r mine low small c.loop-k-test.true held in
    let both : c.if-has_word.all ≡ (c.has_word.result && c.loop-k.all) = search rules in
    both ∙ rw (word, so_far) (sym (all_more test c.loop-k.k))

pub returns : goal.returns
returns c k r mine low small held =
    let last : c.loop-k.k ≡ 12 = omega (arith, c.loop-k-test.false, c.loop-k.auto.k-end) in
    subst (λ n. c.loop-k.all ≡ all_below n (λ k. has_word r c.args.v k mine)) last (c.loop-k.invariant k r mine low small held)
