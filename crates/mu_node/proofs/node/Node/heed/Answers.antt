use Rattle.std.proofs.Common.{◌≡◌, ◌∙◌, ◌==◌, ◌&&◌, ap, refl}
use Rattle.std.specs.Prelude.{if◌then◌else◌, nat_lt, not}
use Rattle.mu_model.specs.Scores.{leader}
use Rattle.mu_follow.specs.Follow.{StandsForFollow}
use Rattle.mu_lead.specs.declared.note.Note.{Note}
use Rattle.mu_lead.specs.Beside.{leads_at}
use Rattle.mu_lead.specs.Standing.{TellsFailed}
use Rattle.mu_lead.proofs.Told.{told_still}
use Rattle.mu_node.proofs.Leading.{rests_named}
use Rattle.mu_node.proofs.Leads.{beside_lead, heed_due}
use Rattle.mu_node.proofs.Moving.{to_own}
use Rattle.mu_node.proofs.Where.{where_told}
use Rattle.mu_node.proofs.node.Node.heed.Goals as goal

pub returns-clause-stands : goal.returns-clause-stands
returns-clause-stands g c =
    let node = c.args.self.now in
    let held = c.requires in
    record {
      beside = beside_lead (StandsForFollow node.follow.config node.id g.mine) node.follow.config node.id g.mine node c.heed.new.self held.beside;
      lead = record { config = c.heed.ensures.told.config ∙ held.lead.config; id = c.heed.ensures.told.id ∙ held.lead.id; stands = c.heed.ensures.stands };
      handed = held.handed;
      answers = held.answers;
      reads = held.reads;
    }

pub returns-clause-placed : goal.returns-clause-placed
returns-clause-placed g c at =
    let node = c.args.self.now in
    let held = c.requires in
    let named = c.leader-leader.ensures node.follow.config node.id g.mine held.beside.watch in
    where_told node.follow.config node.id g.mine node.lead c.heed.new.self c.leader-leader.result held.beside.follow.inside named held.lead.id c.heed.ensures.told c.heed.ensures.going at

pub returns-clause-named : goal.returns-clause-named
returns-clause-named g c =
    let node = c.args.self.now in
    let held = c.requires in
    let named = c.leader-leader.ensures node.follow.config node.id g.mine held.beside.watch in
    c.heed.ensures.named ∙ (ap (λ l. l == node.lead.id) named ∙ ap (λ i. leader node.follow.config node.id g.mine == i) held.lead.id)

pub returns-clause-heeded : goal.returns-clause-heeded
returns-clause-heeded g c =
    let node = c.args.self.now in
    let held = c.requires in
    c.heed.ensures.heeded (to_own {mine = g.mine} (λ k r l. TellsFailed k r l c.failed_replicas-failed.result) held.lead.config held.lead.id refl
    (c.failed_replicas-failed.ensures node.follow.config node.id g.mine held.beside.watch))

pub returns-clause-due : goal.returns-clause-due
returns-clause-due g c =
    let node = c.args.self.now in
    let held = c.requires in
    let named = c.leader-leader.ensures node.follow.config node.id g.mine held.beside.watch in
    let same : nat_lt c.leader-leader.result node.lead.id ≡ nat_lt (leader node.follow.config node.id g.mine) node.id = ap (λ l. nat_lt l node.lead.id) named ∙ ap (λ i. nat_lt (leader node.follow.config node.id g.mine) i) held.lead.id in
    heed_due node.follow.config node.id g.mine node.lead c.heed.new.self (λ low. c.heed.ensures.due (same ∙ low))

pub returns-clause-note : goal.returns-clause-note
returns-clause-note g c =
    let node = c.args.self.now in
    let held = c.requires in
    let named = c.leader-leader.ensures node.follow.config node.id g.mine held.beside.watch in
    c.heed.ensures.resigned
    ∙ (ap (λ l. if (node.lead.under_way && nat_lt l node.lead.id) then Note.Resigned l else Note.Working) named
    ∙ ap (λ i. if (node.lead.under_way && nat_lt (leader node.follow.config node.id g.mine) i) then Note.Resigned (leader node.follow.config node.id g.mine) else Note.Working) held.lead.id)

pub returns-clause-leads : goal.returns-clause-leads
returns-clause-leads g c =
    let node = c.args.self.now in
    let held = c.requires in
    let named = c.leader-leader.ensures node.follow.config node.id g.mine held.beside.watch in
    let same : nat_lt c.leader-leader.result node.lead.id ≡ nat_lt (leader node.follow.config node.id g.mine) node.id = ap (λ l. nat_lt l node.lead.id) named ∙ ap (λ i. nat_lt (leader node.follow.config node.id g.mine) i) held.lead.id in
    rests_named node.follow.config node.id g.mine (leads_at node.lead.place) (leads_at c.heed.new.self.place) held.beside.follow.inside (c.heed.ensures.rests ∙ ap (λ t. leads_at node.lead.place && not t) same)

pub returns-clause-told : goal.returns-clause-told
returns-clause-told g c =
    let node = c.args.self.now in
    let held = c.requires in
    let named = c.leader-leader.ensures node.follow.config node.id g.mine held.beside.watch in
    let same : nat_lt c.leader-leader.result node.lead.id ≡ nat_lt (leader node.follow.config node.id g.mine) node.id = ap (λ l. nat_lt l node.lead.id) named ∙ ap (λ i. nat_lt (leader node.follow.config node.id g.mine) i) held.lead.id in
    record {
      going = c.heed.ensures.going ∙ ap (λ t. node.lead.under_way && not t) same;
      place = λ low. told_still node.lead c.heed.new.self c.leader-leader.result c.heed.ensures.told (same ∙ low);
      up = ap (λ t. t.up) c.heed.ensures.told.tables;
      tables = c.heed.ensures.told.tables;
    }
