use Rattle.std.proofs.Common.{◌≡◌, ◌∙◌, Some, [], ap, subst, sym}
use Rattle.atomic_table.specs.Table.{Me}
use Rattle.mu_model.specs.Contents.{IsConfig}
use Rattle.shared_steps.specs.declared.rule.View.{View}
use Rattle.shared_steps.specs.Rule.{entry, entry_of}
use Rattle.shared_steps.specs.Seats.{Board, Root}
use Rattle.shared_steps.proofs.Cuts.{cuts, fresh_part, fresh_seated}
use Rattle.shared_steps.proofs.root.RootSeat.split.Goals as goal

pub split-seat-requires-clause-rule : goal.split-seat-requires-clause-rule
split-seat-requires-clause-rule c =
    cuts c.words.inside.table.shared.key c.self.inside.seat.id c.args.id c.self.inside.seat.me.0 (entry c.args.id [] []) (subst (λ (p : Root). entry_of c.args.id p.entries ≡ Some (entry c.args.id [] [])) (sym c.self.view_is) c.requires.has)

pub invariant_of-result : goal.invariant_of-result
invariant_of-result c =
    let key = c.args.words.now.key in
    let v = c.self.inside.seat.me.0 in
    let config : v.config ≡ Some key = ap (λ (p : Root). p.config) c.self.view_is ∙ c.requires.of.config in
    let has : entry_of c.args.id v.entries ≡ Some (entry c.args.id [] []) = ap (λ (p : Root). entry_of c.args.id p.entries) c.self.view_is ∙ c.requires.has in
    record {
      config = key;
      is_config = subst (λ (b : Board). IsConfig b.key) c.words.view_is c.words.invariant.is_config;
      seated = fresh_seated key c.args.id v c.split-seat.result.me config has c.split-seat.ensures.cut.1 c.args.found c.requires.found;
    }

pub returns-clause-seat : goal.returns-clause-seat
returns-clause-seat c =
    let key = c.args.words.now.key in
    let v = c.self.inside.seat.me.0 in
    let config : v.config ≡ Some key = ap (λ (p : Root). p.config) c.self.view_is ∙ c.requires.of.config in
    let has : entry_of c.args.id v.entries ≡ Some (entry c.args.id [] []) = ap (λ (p : Root). entry_of c.args.id p.entries) c.self.view_is ∙ c.requires.has in
    let empty = fresh_part key c.args.id v c.split-seat.result.me config has c.split-seat.ensures.cut.1 in
    let table_is = c.split-seat.ensures.cut.0 ∙ ap (λ (p : Root). p.table) c.self.view_is in
    let config_is = ap (λ (m : Me (Unit {0}) View). m.0.config) c.split-seat.ensures.cut.1 ∙ ap (λ (p : Root). p.config) c.self.view_is in
    λ i. record { table = table_is i; config = config_is i; id = c.args.id; part = empty i }
