use Rattle.std.proofs.Common.{◌∙◌, None, ap, map, refl}
use Rattle.kv_store.specs.Tables.{replies}
use Rattle.mu_model.specs.Histories.{history}
use Rattle.mu_outcome.specs.declared.outcome.Outcome.{Outcome}
use Rattle.mu_outcome.specs.Entries.{commands_in, longest}
use Rattle.mu_outcome.proofs.Agreeing.{agrees_on, within_on}
use Rattle.mu_telling.proofs.Reaching.{reached_of}
use Rattle.mu_telling.proofs.account.account_of.Goals as goal

pub returns-clause-is : goal.returns-clause-is
returns-clause-is c = λ events held.
    let job = c.args.job in
    let past = history events in
    let o : Outcome = record { job = job; logs = c.in_ok-logs.logs; commits = c.in_ok-commits.commits; replies = c.in_ok-replies.replies; own_replies = c.in_ok-own_replies.own_replies; ends = c.from_vec.result; order = None; gathered = None } in
    record {
      reached = reached_of o events (c.in_ok-logs.ensures past job.config refl held) (c.in_ok-commits.ensures past job.config refl held)
          (c.in_ok-own_replies.ensures ∙ ap (map (λ log. replies (commands_in job log))) c.as_slice.ensures)
          (c.in_ok-replies.ensures ∙ ap (λ l. replies (commands_in job l)) (c.longest.ensures ∙ ap longest c.as_slice-2.ensures));
      ends = c.in_ok-ends.ensures past held;
    }

pub returns-clause-agrees : goal.returns-clause-agrees
returns-clause-agrees c = λ events held. agrees_on _ events c.requires.config c.requires.heads held.legal (returns-clause-is c events held).reached

pub returns-clause-reach : goal.returns-clause-reach
returns-clause-reach c = λ events held. within_on _ events c.requires.config c.requires.heads held.legal (returns-clause-is c events held).reached
