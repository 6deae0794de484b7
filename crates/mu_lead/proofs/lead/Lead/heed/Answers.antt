use Rattle.std.proofs.Common.{refl, subst, sym, ◌∙◌}
use Rattle.mu_lead.proofs.lead.Lead.heed.Goals.{then-gives_up, else-gives_up}
use Rattle.mu_lead.specs.Resigning.{IsTold}
use Rattle.mu_lead.proofs.Told.{gives_place, keeps_place}
use Rattle.mu_lead.proofs.lead.Lead.heed.Goals as goal

pub returns-then-resigns-clause-told : goal.returns-then-resigns-clause-told
returns-then-resigns-clause-told g c =
    let old = c.args.self.now in
    elim c.if-gives_up.branch [
      | then-gives_up w ↦ subst (IsTold old c.args.leader) (sym w.self-is) (record { config = refl; id = refl; written = refl; tables = refl; place = gives_place _ old.place (sym c.gives_up.ensures ∙ w.if-gives_up.true) })
      | else-gives_up w ↦ subst (IsTold old c.args.leader) (sym w.self-is) (record { config = refl; id = refl; written = refl; tables = refl; place = keeps_place _ old.place (sym c.gives_up.ensures ∙ w.if-gives_up.false) })
    ]

pub returns-else-resigns-clause-told : goal.returns-else-resigns-clause-told
returns-else-resigns-clause-told g c =
    let old = c.args.self.now in
    elim c.if-gives_up.branch [
      | then-gives_up w ↦ subst (IsTold old c.args.leader) (sym w.self-is) (record { config = refl; id = refl; written = refl; tables = refl; place = gives_place _ old.place (sym c.gives_up.ensures ∙ w.if-gives_up.true) })
      | else-gives_up w ↦ subst (IsTold old c.args.leader) (sym w.self-is) (record { config = refl; id = refl; written = refl; tables = refl; place = keeps_place _ old.place (sym c.gives_up.ensures ∙ w.if-gives_up.false) })
    ]
