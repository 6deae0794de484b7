use Rattle.std.proofs.Common.{◌∙◌, ap}
use Rattle.mu_verdict.proofs.AttestedItems.{told_judged}
use Rattle.mu_clients.specs.Attested.{events_in, reply_over}
use Rattle.mu_model.specs.Contents.{includes}
use Rattle.mu_verdict.proofs.attestor.Attestor.take_told.Goals as goal

pub returns : goal.returns
returns c = λ past held.
    let job = c.args.job.now in
    let log = c.applied_values.ensures (events_in past) job.config c.requires.within held.walk in
    told_judged job past c.args.by c.args.row c.args.reply.now c.in_ok-right.right _ _ c.args.self.now (c.in_ok-right.ensures ∙ ap (λ l. reply_over job l c.args.row) log) (c.has_row-is_got.ensures ∙ ap (includes c.args.row) c.as_slice.ensures.value) c.flaw_of_reply.ensures held
