-- The replicas of a run agree, and the replies are the store's over what they agree on.
use Rattle.std.proofs.Common.{◌≡◌, ◌∙◌, ℕ, ◌<◌, List, ap}
use Rattle.mu_input.specs.Heads.{HaveHeads}
use Rattle.mu_model.specs.declared.event.Event.{Event}
use Rattle.mu_model.specs.Contents.{IsConfig}
use Rattle.mu_model.specs.Histories.{history, part}
use Rattle.mu_model.specs.Knowledge.{applied, commits}
use Rattle.mu_model.proofs.Parts.{history-part}
use Rattle.mu_outcome.specs.declared.outcome.Outcome.{Outcome}
use Rattle.mu_outcome.specs.Outcomes.{Agrees, IsRun, IsWithinJob, journal_of, or_empty}
use Rattle.mu_outcome.specs.Reached.{IsReached}
use Rattle.mu_outcome.specs.Runs.{IsRunOver}
use Rattle.mu_outcome.proofs.Agreeing.{agrees_on, within_on}

-- a run over a list is what the list has come to
is_reached : (o : Outcome) (events : List Event) → IsRunOver events o → IsReached events o
is_reached o events run = record {
  count = run.counts.0;
  logs = λ r low. run.logs r low ∙ ap (applied o.job.config r) (own r low);
  commits = λ r low. run.commits r low ∙ ap (commits o.job.config r) (own r low);
  own_replies = run.own_replies;
  replies = run.replies;
}
  where
    own : (r : ℕ) → r < o.job.config.replicas → history (journal_of o r) ≡ part r (history events)
    own r low = ap (λ x. history (or_empty x)) (run.parts.each r low) ∙ history-part r events

-- the replicas agree, in whatever order they took their turns
pub agrees_over : (o : Outcome) (events : List Event) → IsConfig o.job.config → HaveHeads o.job.config.width o.job.commands o.job.config.rows → IsRunOver events o → Agrees o
agrees_over o events good have run = agrees_on o events good have run.legal (is_reached o events run)

-- whatever the order, a run stays within the positions of its job
pub within_over : (o : Outcome) (events : List Event) → IsConfig o.job.config → HaveHeads o.job.config.width o.job.commands o.job.config.rows → IsRunOver events o → IsWithinJob o
within_over o events good have run = within_on o events good have run.legal (is_reached o events run)

-- the list of a replay is such a list
pub over_order : (o : Outcome) (run : IsRun o) → IsRunOver run.order.events o
over_order o run = record { legal = run.legal; parts = run.parts; counts = run.counts; ended = run.ended; logs = run.logs; commits = run.commits; replies = run.replies; reply_count = run.reply_count; own_replies = run.own_replies }

-- the replicas of a run agree
pub agrees_of : (o : Outcome) → IsConfig o.job.config → HaveHeads o.job.config.width o.job.commands o.job.config.rows → IsRun o → Agrees o
agrees_of o good have run = agrees_over o run.order.events good have (over_order o run)

-- a replay stays within the positions of its job
pub within_of : (o : Outcome) → IsConfig o.job.config → HaveHeads o.job.config.width o.job.commands o.job.config.rows → IsRun o → IsWithinJob o
within_of o good have run = within_over o run.order.events good have (over_order o run)
