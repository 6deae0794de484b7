use Rattle.std.proofs.Common.{[], ◌+◌, ◌<◌, ◌∙◌, ◌∷◌, ◌≡◌, ap, arith, refl, subst, sym, ℕ, List}
use Rattle.kv_store.specs.Commands.{Request}
use Rattle.mu_model.specs.declared.config.Config.{Config}
use Rattle.mu_model.specs.declared.config.Row.{Row}
use Rattle.mu_model.specs.Contents.{IsConfig, row_count, rows_before}
use Rattle.mu_model.specs.Growing.{with_more}
use Rattle.mu_model.specs.Parts.{IsPossible}
use Rattle.lone_words.specs.declared.access.Shape.{Shape}
use Rattle.lone_words.specs.declared.accesses.Accesses.{Accesses}
use Rattle.mu_node.specs.Growing.{StandsInTurn}
use Rattle.mu_node.specs.Node.{StandsForNode}
use Rattle.lone_replica.specs.Appending.{next_request, row_of}
use Rattle.lone_replica.specs.Standing.{StandsForReplica}
use Rattle.lone_replica.proofs.Adding.{in_turn_held, next_is_config, replica_grown}
use Rattle.lone_replica.proofs.replica.Replica.append.Goals as goal

pub grow-requires : goal.grow-requires
grow-requires g c =
    let old = c.args.self.now in
    let parts = c.requires.1.1.parts in
    let command = c.next_command-command.result in
    let row = c.encode-row.result in
    let told = c.next_command-command.ensures ∙ ap (λ (k : Config). next_request k c.args.client c.args.op) parts.config in
    let client = ap (λ (x : Request). x.client) told in
    let number = ap (λ (x : Request). x.number) told ∙ ap (λ i. rows_before g.at.0 i (row_count g.at.0) + 1) (sym client) in
    let same = ap (λ (k : Config). row_count k) parts.config in
    let rows = ap (λ (s : Shape). s.rows) c.shape.ensures in
    let most = parts.few in
    let few : row_count g.at.0 < 1500 = omega (arith, c.if-len-from.false, same, rows, most) in
    let own = c.in_ok-copies.ensures.own ∙ ap (λ (k : Config). with_more k (row ∷ [])) parts.config in
    let grown = next_is_config g.at.0 command row parts.good few number c.encode-row.ensures.client c.encode-row.ensures.number c.encode-row.ensures.rest in
    let mid = c.make_room.new.self in
    let id = c.make_room.ensures.id in
    let held = in_turn_held g.at.0 old.id g.at.1 mid.accesses.shape mid.node mid.due c.make_room.ensures.stands.node in (
      refl,
      (
        parts.good,
        (
          own,
          (
            c.in_ok-copies.ensures.lead,
            (
              c.in_ok-copies.ensures.follow,
              (
                subst IsConfig (sym own) grown,
                (
                  subst (λ (i : ℕ). IsPossible g.at.0 i g.at.1.0) (sym id) parts.possible,
                  (subst (λ (i : ℕ). StandsInTurn g.at.0 i g.at.1.0 mid.node) (sym id) held, c.in_ok-make_room.ensures.room),
                ),
              ),
            ),
          ),
        ),
      ),
    )

pub returns-clause-appended : goal.returns-clause-appended
returns-clause-appended g c =
    let old = c.args.self.now in
    let parts = c.requires.1.1.parts in
    let command = c.next_command-command.result in
    let row = c.encode-row.result in
    let told = c.next_command-command.ensures ∙ ap (λ (k : Config). next_request k c.args.client c.args.op) parts.config in
    let client = ap (λ (x : Request). x.client) told in
    let number = ap (λ (x : Request). x.number) told ∙ ap (λ i. rows_before g.at.0 i (row_count g.at.0) + 1) (sym client) in
    let same = ap (λ (k : Config). row_count k) parts.config in
    let rows = ap (λ (s : Shape). s.rows) c.shape.ensures in
    let most = parts.few in
    let room : row_count g.at.0 < old.accesses.shape.rows = omega (arith, c.if-len-from.false, same, rows) in
    let few : row_count g.at.0 < 1500 = omega (arith, room, most) in
    let own = c.in_ok-copies.ensures.own ∙ ap (λ (k : Config). with_more k (row ∷ [])) parts.config in
    let grown = next_is_config g.at.0 command row parts.good few number c.encode-row.ensures.client c.encode-row.ensures.number c.encode-row.ensures.rest in
    let mid = c.make_room.new.self in
    let new = c.grow.new.self in
    let of : List ℕ → Row = λ ws. record { words = ws } in
    let spelled : row ≡ row_of (next_request g.at.0 c.args.client c.args.op) = ap of c.encode-row.ensures.words ∙ ap row_of told in
    let kept = c.make_room.ensures.id in
    let lives : StandsForNode g.at.0 old.id g.at.1.0 mid.node → StandsForNode (with_more g.at.0 (row ∷ [])) old.id g.at.1.0 new.node =
    λ was. subst (λ (k : Config). StandsForNode k old.id g.at.1.0 new.node) own
    (subst (λ (i : ℕ). StandsForNode c.in_ok-copies.copies.own i g.at.1.0 new.node) kept (c.grow.ensures.lives (subst (λ (i : ℕ). StandsForNode g.at.0 i g.at.1.0 mid.node) (sym kept) was))) in
    subst (λ (x : Row). StandsForReplica (with_more g.at.0 (x ∷ [])) old.id g.at.1 new) spelled
    (replica_grown g.at.0 row old.id g.at.1 mid new grown (subst (λ (a : Accesses). row_count g.at.0 < a.shape.rows) (sym c.make_room.ensures.accesses) room) c.make_room.ensures.stands (c.grow.ensures.config ∙ own)
    (c.grow.ensures.follow ∙ own) c.grow.ensures.node lives c.grow.ensures.decided c.grow.ensures.due c.grow.ensures.id c.grow.ensures.last c.grow.ensures.accesses)
