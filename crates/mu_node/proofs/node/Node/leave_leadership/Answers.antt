use Rattle.std.proofs.Common.{not, refl, subst, sym, true, ◌≡◌, ◌∙◌}
use Rattle.std.specs.Prelude.{not}
use Rattle.mu_follow.specs.Follow.{StandsForFollow}
use Rattle.mu_model.specs.Again.{asks_again}
use Rattle.mu_lead.specs.Again.{TellsAstray}
use Rattle.mu_lead.specs.Journal.{IsWhere}
use Rattle.mu_node.specs.Placed.{IsWhereTold}
use Rattle.mu_node.proofs.Leads.{beside_lead}
use Rattle.mu_node.proofs.Moving.{to_own}
use Rattle.mu_node.proofs.node.Node.leave_leadership.Goals as goal

pub returns-clause-stands : goal.returns-clause-stands
returns-clause-stands g c =
    let node = c.args.self.now in
    let new = c.heed.new.self in
    let held = c.heed.ensures.stands in
    let left = c.leave.ensures.left in
    record {
      beside = beside_lead (StandsForFollow node.follow.config node.id g.mine) node.follow.config node.id g.mine new c.leave.new.self held.beside;
      lead = record { config = left.config ∙ held.lead.config; id = left.id ∙ held.lead.id; stands = c.leave.ensures.stands };
      handed = held.handed;
      answers = held.answers;
      reads = held.reads;
    }

pub returns-clause-left : goal.returns-clause-left
returns-clause-left g c was =
    let node = c.args.self.now in
    let left = c.leave.ensures.left in
    let at : IsWhere node.follow.config node.id g.mine c.heed.new.self.lead = subst (λ t. IsWhereTold (not t) node.follow.config node.id g.mine c.heed.new.self.lead) c.requires.1.0 (c.heed.ensures.placed was) in
    record { place = left.place; tables = left.tables ∙ at.tables }

pub returns-clause-begins : goal.returns-clause-begins
returns-clause-begins g c = c.leave.ensures.left.place

pub leave-requires : goal.leave-requires
leave-requires g c =
    let held = c.heed.ensures.stands in
    (held.lead.stands, (c.heed.ensures.heeded, to_own {mine = g.mine} (λ k i l. asks_again k i l ≡ true) held.lead.config held.lead.id refl c.requires.1.1))

pub returns-clause-told : goal.returns-clause-told
returns-clause-told g c =
    let held = c.heed.ensures.stands in
    to_own {mine = g.mine} (λ k i l. TellsAstray k i l c.leave.result) (sym held.lead.config) (sym held.lead.id) refl c.leave.ensures.told
