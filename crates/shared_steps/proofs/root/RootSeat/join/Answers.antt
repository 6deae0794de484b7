use Rattle.std.proofs.Common.{rules, ◌≡◌, ◌∙◌, sym, ap, subst, ◌∷◌, ◌++◌}
use Rattle.atomic_table.specs.Table.{Joins, Me}
use Rattle.shared_steps.specs.declared.rule.View.{View}
use Rattle.shared_steps.specs.Insides.{mine_of}
use Rattle.shared_steps.specs.Rule.{Holds, entry, spent_view, united}
use Rattle.shared_steps.specs.Seats.{Root}
use Rattle.shared_steps.proofs.Joins.{takes_in}
use Rattle.shared_steps.proofs.Opening.{some_word}
use Rattle.shared_steps.proofs.root.RootSeat.join.Goals as goal

pub join_seat-requires : goal.join_seat-requires
join_seat-requires c =
    let p = c.port.inside in
    let seated = c.port.invariant.seated in
    let key = c.words.inside.table.shared.key in (
      search rules,
      search rules,
      ap (λ (m : Me (Unit {0}) View). m.1) seated.is_single,
      some_word key c.words.inside.table.shared.table_id.words c.words.invariant.is_config c.words.invariant.count,
      subst (λ (w : View). Joins (Holds key) c.self.inside.seat.id c.self.inside.seat.me.0 p.seat.id w (united c.self.inside.seat.me.0 w) spent_view) (sym (ap (λ (m : Me (Unit {0}) View). m.0) seated.is_single))
          (takes_in key c.self.inside.seat.id c.self.inside.seat.me.0 p.seat.id p.id c.port.invariant.config (mine_of p) seated.seen),
    )

pub returns : goal.returns
returns c =
    let p = c.port.inside in
    let seated = c.port.invariant.seated in
    let seen = seated.seen in
    let its : entry p.id (mine_of p) seen ≡ entry c.args.port.id c.args.port.part seen = λ i. entry ((c.port.view_is i).id) ((c.port.view_is i).part) seen in
    let united_now : c.join_seat.new.seat.me.0.entries ≡ entry p.id (mine_of p) seen ∷ c.self.inside.seat.me.0.entries =
    ap (λ (m : Me (Unit {0}) View). m.0.entries) c.join_seat.ensures.2 ∙ ap (λ (m : Me (Unit {0}) View). m.0.entries ++ c.self.inside.seat.me.0.entries) seated.is_single in
    let config_now = ap (λ (m : Me (Unit {0}) View). m.0.config) c.join_seat.ensures.2 ∙ ap (λ (r : Root). r.config) c.self.view_is in (
      seen,
      λ i. record { table = (c.join_seat.ensures.0 ∙ ap (λ (r : Root). r.table) c.self.view_is) i; config = config_now i; entries = (united_now ∙ (λ j. its j ∷ (c.self.view_is j).entries)) i },
    )
