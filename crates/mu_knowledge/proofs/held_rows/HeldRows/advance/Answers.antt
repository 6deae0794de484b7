use Rattle.std.proofs.Common.{rules, ◌≡◌, ◌≤◌, ◌∷◌, ◌∙◌, arith, false, length, subst, sym}
use Rattle.mu_model.specs.Knowledge.{applied, fetched_prefix, has_word}
use Rattle.mu_knowledge.proofs.Fetched.{applied_grows}
use Rattle.mu_knowledge.proofs.Whole.{applied_was}
use Rattle.mu_knowledge.proofs.held_rows.HeldRows.advance.Goals as goal

pub returns-then-has_word : goal.returns-then-has_word
returns-then-has_word c r mine e good low small near names are written got before =
    let k = c.args.config.now in
    let self = c.args.self.now in
    let grows : self.applied ≤ length (fetched_prefix k r (e ∷ mine) c.args.known_after.now) =
    subst (λ values. self.applied ≤ length (fetched_prefix k r (e ∷ mine) values)) (sym are) (subst (λ n. n ≤ length (applied k r (e ∷ mine))) (sym before) (applied_grows k r mine e)) in
    record {
      written = written;
      got = got;
      applied = subst (λ values. c.front_from-self.result ≡ length (fetched_prefix k r (e ∷ mine) values)) are (c.front_from-self.ensures r (e ∷ mine) good got grows);
    }

pub returns-else-has_word : goal.returns-else-has_word
returns-else-has_word c r mine e good low small near names are written got before =
    let k = c.args.config.now in
    let v = c.args.v in
    let off : c.has_word.result ≡ false = search rules in
    let lacked : has_word r v 11 (e ∷ mine) ≡ false = sym (c.has_word.ensures k r (e ∷ mine) low small (omega arith) got) ∙ off in
    let more = applied_grows k r mine e in
    let less = applied_was k r v e mine good near names lacked in
    record { written = written; got = got; applied = omega (arith, before, more, less) }
