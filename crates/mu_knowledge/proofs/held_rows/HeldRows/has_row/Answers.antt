use Rattle.std.proofs.Common.{rules, arith, ℕ, ◌≡◌, ◌∙◌, ◌&&◌, sym, ap, Bool, false}
use Rattle.mu_model.specs.Histories.{all_below}
use Rattle.mu_model.specs.Knowledge.{has_word}
use Rattle.mu_model.proofs.Scans.{all_more}
use Rattle.mu_knowledge.proofs.held_rows.HeldRows.has_row.Goals as goal

pub returns-else-has_word : goal.returns-else-has_word
returns-else-has_word c k r mine low small held =
    let test : ℕ → Bool = λ n. has_word r c.args.v n mine in
    let off : c.has_word.result ≡ false = search rules in
    let last : test 11 ≡ false = sym (c.has_word.ensures k r mine low small (omega arith) held) ∙ off in
    off ∙ sym (all_more test 11 ∙ ap (λ t. t && all_below 11 test) last)
