use Rattle.std.proofs.Common.{◌≡◌, ◌∙◌, ap, sym, List, ℕ, arith, length, subst}
use Rattle.std.specs.Prelude.{All}
use Rattle.std.proofs.lemmas.List.{length-map, length-replicate}
use Rattle.kv_store.specs.Commands.{Request}
use Rattle.mu_outcome.specs.Entries.{commands_in, longest}
use Rattle.snap_reads.specs.declared.watching.Watcher.{Watcher}
use Rattle.snap_reads.specs.Keys.{gets_beside, keys_of}
use Rattle.snap_reads.specs.Lives.{AreSights, HasWatched, told_commands}
use Rattle.snap_reads.specs.Seats.{Reading, Writing, fresh_reader}
use Rattle.snap_reads.proofs.Keying.{keys_few}
use Rattle.snap_reads.proofs.Watched.{all_fresh, all_watched}
use Rattle.snap_reads.proofs.living.live.Goals as goal

pub watchers-requires-clause-keys : goal.watchers-requires-clause-keys
watchers-requires-clause-keys g c =
    let told : c.in_ok-commands.commands.items ≡ told_commands c.args.outcome.now =
    c.in_ok-commands.ensures ∙ ap (commands_in c.args.outcome.now.job) (c.longest-log.ensures ∙ ap longest c.as_slice.ensures) in
    let few = keys_few c.as_slice-2.result.now in
    let keys = ap length c.in_ok-keys.ensures in
    let commands = ap length (c.as_slice-2.ensures.value ∙ told) in
    omega (arith, c.len-3.ensures, few, keys, commands, c.requires.few)

pub last_reads-requires-clause-watched : goal.last_reads-requires-clause-watched
last_reads-requires-clause-watched g c =
    let made = c.beside-writer in
    let first = fresh_reader c.in_ok-writer.writer.table c.len.result in
    let keys = c.as_slice-4.result.now in
    let table : made.result.0.table ≡ c.in_ok-writer.writer.table = ap (λ (w : Writing). w.table) made.ensures.writer in
    let capacity : made.result.0.capacity ≡ c.len.result = ap (λ (w : Writing). w.capacity) made.ensures.writer ∙ ap (λ (w : Writing). w.capacity) c.in_ok-writer.ensures.writer in
    let fresh = all_fresh first c.args.readers c.in_ok-watchers.watchers.items (c.in_ok-watchers.ensures.readers ∙ c.in_ok-writer.ensures.readers) in
    let watched = all_watched first keys (gets_beside keys) c.in_ok-watchers.watchers.items made.result.1.items made.ensures.count fresh made.ensures.each in
    subst (λ (ks : List (List ℕ)). All (HasWatched (fresh_reader made.result.0.table made.result.0.capacity) ks (gets_beside ks)) made.result.1.items) (c.as_slice-4.ensures.value ∙ sym c.as_slice-5.ensures.value)
    (subst (λ (r : Reading). All (HasWatched r keys (gets_beside keys)) made.result.1.items) (λ i. fresh_reader (sym table i) (sym capacity i)) watched)

pub returns : goal.returns
returns g c =
    let made = c.beside-writer in
    let told : c.in_ok-commands.commands.items ≡ told_commands c.args.outcome.now =
    c.in_ok-commands.ensures ∙ ap (commands_in c.args.outcome.now.job) (c.longest-log.ensures ∙ ap longest c.as_slice.ensures) in
    let published : made.result.0.published ≡ told_commands c.args.outcome.now = ap (λ (w : Writing). w.published) made.ensures.writer ∙ (c.as_slice-3.ensures.value ∙ told) in
    let keys : c.as_slice-5.result.now ≡ keys_of (told_commands c.args.outcome.now) = c.as_slice-5.ensures.value ∙ (c.in_ok-keys.ensures ∙ ap keys_of (c.as_slice-2.ensures.value ∙ told)) in
    let lists = c.last_reads.result in
    let many : length c.in_ok-watchers.watchers.items ≡ c.args.readers =
    sym (length-map c.in_ok-watchers.watchers.items (λ (w : Watcher). w.reader)) ∙ (ap length (c.in_ok-watchers.ensures.readers ∙ c.in_ok-writer.ensures.readers) ∙ length-replicate c.args.readers (fresh_reader c.in_ok-writer.writer.table c.len.result)) in
    record {
      count = c.last_reads.ensures.count ∙ (made.ensures.count ∙ many);
      each = subst (λ (l : List Request). All (AreSights l (keys_of (told_commands c.args.outcome.now))) lists) published
          (subst (λ (ks : List (List ℕ)). All (AreSights made.result.0.published ks) lists) keys c.last_reads.ensures.sights);
    }
