use Rattle.std.proofs.Common.{◌≡◌, ◌∙◌, ◌++◌, ◌∷◌, [], List, ap, arith, length, length-append, subst, sym}
use Rattle.atomic_table.specs.Table.{Me}
use Rattle.kv_store.specs.Commands.{Request}
use Rattle.kv_store.specs.Tables.{Table, store, table_after}
use Rattle.kv_store.proofs.Runs.{store-push}
use Rattle.mu_model.specs.Histories.{IsPrefixOf}
use Rattle.snap_reads.specs.declared.rule.View.{View}
use Rattle.snap_reads.specs.Published.{AllBegin}
use Rattle.snap_reads.specs.Seats.{Reading}
use Rattle.snap_reads.specs.Steps.{ShortBegin}
use Rattle.snap_reads.proofs.Rows.{all_seen, begins_longer}
use Rattle.snap_reads.proofs.reader.SnapReader.get.Goals as goal

pub loop-seen-preserved : goal.loop-seen-preserved
loop-seen-preserved c =
    let before = c.count-count.new.seat.me in
    let mid = c.loop-seen.self-inside.seat.me in
    let command = c.read_command-command.result in
    let inv = c.loop-seen.invariant in
    let read = c.read_command-command.ensures.read in
    let seen : c.read_command-command.new.seat.me.0.seen ≡ mid.0.seen ++ command ∷ [] = ap (λ (m : Me (Unit {0}) View). m.0.seen) read in
    record {
      board = inv.board;
      table = c.read_command-command.ensures.same ∙ inv.table;
      view = read ∙ ((λ i. (record (inv.view i).0 { seen = mid.0.seen ++ command ∷ []; words = [] }, (inv.view i).1)) ∙ (λ i. (record before.0 { seen = (sym seen) i; words = [] }, before.1)));
      seen = subst (λ (l : List Request). IsPrefixOf before.0.seen l) (sym seen) (begins_longer before.0.seen mid.0.seen (command ∷ []) inv.seen);
      count_is = omega (arith, ap length seen, length-append mid.0.seen (command ∷ []), inv.count_is);
      store = c.apply.ensures.table ∙ (ap (λ (t : Table). table_after t command.op) inv.store ∙ (sym (store-push mid.0.seen command) ∙ ap store (sym seen)));
      room = omega (arith, inv.room, c.apply.ensures.room);
      told = subst (λ (l : List Request). ShortBegin before.0.told l) (sym seen)
          (subst (λ (l : List (List Request)). ShortBegin l (mid.0.seen ++ command ∷ [])) (ap (λ (m : Me (Unit {0}) View). m.0.told) inv.view) c.read_command-command.ensures.told);
    }

pub returns-clause-told : goal.returns-clause-told
returns-clause-told c =
    let inv = c.loop-seen.invariant in
    let counted = c.count-count.ensures.counted in
    let short = subst (λ (l : List (List Request)). ShortBegin l c.loop-seen.self-inside.seat.me.0.seen) (ap (λ (m : Me (Unit {0}) View). m.0.told) counted.after_is) inv.told in
    subst (λ (r : Reading). AllBegin r.told c.loop-seen.self-inside.seat.me.0.seen) c.self.view_is
    (all_seen _ _ c.count-count.result counted.told_within short (omega (arith, c.loop-seen-test.false, inv.count_is)))
