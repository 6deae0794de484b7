use Rattle.std.proofs.Common.{◌≡◌, ◌≤◌, ◌∷◌, length, subst, sym}
use Rattle.mu_model.specs.Knowledge.{applied, fetched_prefix}
use Rattle.mu_knowledge.proofs.Fetched.{applied_grows}
use Rattle.mu_knowledge.proofs.Untouched.{got_stays, written_stays}
use Rattle.mu_knowledge.proofs.held_rows.HeldRows.pass.Goals as goal

pub returns : goal.returns
returns c r mine e good other are held =
    let k = c.args.config.now in
    let self = c.args.self.now in
    let got = got_stays k r e.by e.verb e.answer mine self.got.items other held.got in
    let grows : self.applied ≤ length (fetched_prefix k r (e ∷ mine) c.args.known_after.now) =
    subst (λ values. self.applied ≤ length (fetched_prefix k r (e ∷ mine) values)) (sym are) (subst (λ n. n ≤ length (applied k r (e ∷ mine))) (sym held.applied) (applied_grows k r mine e)) in
    record {
      written = written_stays k r e.by e.verb e.answer mine self.written.items other held.written;
      got = got;
      applied = subst (λ values. c.front_from-self.result ≡ length (fetched_prefix k r (e ∷ mine) values)) are (c.front_from-self.ensures r (e ∷ mine) good got grows);
    }
