use Rattle.std.proofs.Common.{◌∷◌, arith, ap, ◌<◌, ◌∙◌, length, refl, subst}
use Rattle.mu_model.specs.Allowed.{Needs}
use Rattle.mu_agree.proofs.Possible.{parts_shorten_law}
use Rattle.mu_agree.proofs.Within.{is_short, known_before, known_grows}
use Rattle.mu_replicas.proofs.replica.Replica.take.Goals as goal

pub returns : goal.returns
returns c mine possible held =
    let k = c.args.config.now in
    let r = c.args.event.now.by in
    let e = c.args.event.now in
    let few : length mine < 131071 = is_short k r mine e c.requires.config possible in
    let leadership = c.take-2.ensures k mine c.requires.config.replicas.1 possible held.leadership in
    let landed_puts = c.take-4.ensures k mine c.requires.config possible held.landed_puts in
    let accepted = c.is_accepted-accepted.ensures k mine refl c.requires.config possible leadership landed_puts in
    let known_log = c.take-5.ensures mine c.requires.config possible accepted held.known_log in
    let now = c.known-known.ensures k r (e ∷ mine) known_log in
    let count = c.known-before.ensures k r mine held.known_log in
    let long = ap length count in
    let before = c.first_values.ensures (known_grows k r mine e c.known-known.result.now _ now long) ∙ known_before k r mine e c.known-known.result.now _ now long in
    record {
      replica = held.replica;
      steps = let s = held.steps in let more = c.steps_after-self.ensures (omega arith) in omega arith;
      leadership = leadership;
      grants = c.note.ensures k.replicas r mine (λ drains. (subst (λ v. Needs k r mine v) drains (parts_shorten_law k r mine e possible).allowed.may).1.0) held.grants;
      heads = c.take-3.ensures k mine held.heads;
      known_log = known_log;
      held_rows = c.take-6.ensures mine c.requires.config possible now held.held_rows;
      landed_puts = landed_puts;
      filled_logs = c.take-7.ensures k mine c.requires.config possible before now landed_puts held.filled_logs;
      looks = c.take.ensures k r mine c.requires.config possible held.leadership held.looks;
    }
