use Rattle.std.proofs.Common.{Bool, ap, arith, sym, ℕ, ◌+◌, ◌≡◌, ◌∙◌}
use Rattle.mu_model.specs.Knowledge.{has_word}
use Rattle.mu_follow.proofs.Due.{firsts_pass, one_more}
use Rattle.mu_follow.proofs.catching_up.words_had.Goals as goal

pub loop-had-preserved : goal.loop-had-preserved
loop-had-preserved c =
    let v = c.args.v in
    let n = c.loop-had.had in
    let inside = c.loop-had-test.true in
    let next : c.saturating_add-had.result ≡ n + 1 = omega (arith, c.saturating_add-had.ensures, inside) in
    record {
      within = omega (arith, next, inside);
      there = λ x r mine low small held.
          let word : c.has_word.result ≡ has_word r v n mine = c.has_word.ensures x r mine (omega (arith, c.from.ensures, low)) (omega (arith, c.from.ensures, small)) inside held.got ∙ ap (λ y. has_word r y n mine) c.from.ensures in
          one_more (λ j. has_word r v j mine) n c.saturating_add-had.result (c.loop-had.invariant.there x r mine low small held) (sym word ∙ c.if-has_word.true) next;
    }

pub returns-else-has_word : goal.returns-else-has_word
returns-else-has_word c x r mine low small held =
    let v = c.args.v in
    let n = c.loop-had.had in
    let inside = c.loop-had-test.true in
    let test : ℕ → Bool = λ j. has_word r v j mine in
    let word : c.has_word.result ≡ test n = c.has_word.ensures x r mine (omega (arith, c.from.ensures, low)) (omega (arith, c.from.ensures, small)) inside held.got ∙ ap (λ y. has_word r y n mine) c.from.ensures in
    firsts_pass test 12 n (c.loop-had.invariant.there x r mine low small held) c.loop-had.invariant.within (λ less. sym word ∙ c.if-has_word.false)

pub returns-after-loop-had : goal.returns-after-loop-had
returns-after-loop-had c x r mine low small held =
    firsts_pass (λ j. has_word r c.args.v j mine) 12 c.loop-had.had (c.loop-had.invariant.there x r mine low small held) c.loop-had.invariant.within (λ less. absurd (omega (arith, less, c.loop-had-test.false)))
