use Rattle.std.proofs.Common.{ap, subst, ◌∙◌}
use Rattle.mu_inbox.specs.declared.taking.Came.{Came as ListCame}
use Rattle.mu_model.specs.declared.config.Config.{Config}
use Rattle.mu_model.specs.Contents.{row_count}
use Rattle.shared_replica.specs.Standing.{ListTook}
use Rattle.shared_replica.proofs.Bringing.{takes_closed, takes_free, takes_nothing, takes_placed, takes_row}
use Rattle.shared_replica.proofs.shared.SharedReplica.take_came.Goals as goal

pub returns-in-Nothing-clause-takes : goal.returns-in-Nothing-clause-takes
returns-in-Nothing-clause-takes g c =
    let old = c.args.self.now in
    takes_nothing g.at old c.args._word c.args.found c.args.list c.requires.0 c.requires.1.0
    (subst (λ (k : ListCame). ListTook g.at old old.list.due c.args._word c.args.list k) c.in-Nothing.is c.requires.1.1)

pub returns-in-Free-clause-takes : goal.returns-in-Free-clause-takes
returns-in-Free-clause-takes g c =
    let old = c.args.self.now in
    takes_free g.at old c.args._word c.args.found c.args.list c.requires.0 c.requires.1.0
    (subst (λ (k : ListCame). ListTook g.at old old.list.due c.args._word c.args.list k) c.in-Free.is c.requires.1.1)

pub returns-in-Closed-clause-takes : goal.returns-in-Closed-clause-takes
returns-in-Closed-clause-takes g c =
    let old = c.args.self.now in
    takes_closed g.at old c.args._word c.args.found c.args.list c.requires.0 c.requires.1.0
    (subst (λ (k : ListCame). ListTook g.at old old.list.due c.args._word c.args.list k) c.in-Closed.is c.requires.1.1)

pub returns-in-Taken-clause-takes : goal.returns-in-Taken-clause-takes
returns-in-Taken-clause-takes g c =
    let old = c.args.self.now in
    takes_placed g.at old c.args._word c.args.found c.in-Taken.field-0 c.len.result c.args.list c.requires.0 c.requires.1.0
    (subst (λ (k : ListCame). ListTook g.at old old.list.due c.args._word c.args.list k) c.in-Taken.is c.requires.1.1)
    (c.len.ensures ∙ ap (λ (k : Config). row_count k) (c.config.ensures ∙ c.requires.0.replica.parts.config))

pub returns-in_ok-number-in-Row-clause-takes : goal.returns-in_ok-number-in-Row-clause-takes
returns-in_ok-number-in-Row-clause-takes g c =
    let old = c.args.self.now in
    takes_row g.at old c.append.new.self c.args._word c.args.found c.in_ok-number-in-Row.number c.in-Row.row c.args.list c.requires.0 c.requires.1.0
    (subst (λ (k : ListCame). ListTook g.at old old.list.due c.args._word c.args.list k) c.in-Row.is c.requires.1.1)
    c.in_ok-number-in-Row.ensures.appends c.append.ensures.replica c.append.ensures.due c.append.ensures.id c.append.ensures.found
