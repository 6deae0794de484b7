use Rattle.std.proofs.Common.{sym, ap}
use Rattle.mu_model.specs.Contents.{command_count, session}
use Rattle.mu_model.specs.Histories.{history, part}
use Rattle.mu_model.specs.Knowledge.{known}
use Rattle.mu_law.proofs.Lists.{numbers_counted}
use Rattle.mu_law.proofs.Stepping.{nothing_made}
use Rattle.mu_law.proofs.sessions.session_of.Goals as goal

pub returns-then-config-r-clause-count : goal.returns-then-config-r-clause-count
returns-then-config-r-clause-count c =
    let none = nothing_made c.args.config.now c.args.r (history c.args.events.now) c.requires.legal c.if-config-r.true in
    sym (ap (λ mine. command_count c.args.config.now c.args.client (known c.args.config.now c.args.r mine)) none)

pub returns-then-config-r-clause-numbers : goal.returns-then-config-r-clause-numbers
returns-then-config-r-clause-numbers c =
    let none = nothing_made c.args.config.now c.args.r (history c.args.events.now) c.requires.legal c.if-config-r.true in
    ap (λ mine. session c.args.config.now c.args.client (known c.args.config.now c.args.r mine)) none

pub returns-clause-numbers : goal.returns-clause-numbers
returns-clause-numbers c =
    let count = c.count_of.ensures c.args.config.now c.args.r (part c.args.r (history c.args.events.now)) c.in_ok-state.ensures.known_log in
    numbers_counted c.args.config.now c.args.events.now c.args.r c.args.client c.count_of.result c.requires.config c.requires.legal count
