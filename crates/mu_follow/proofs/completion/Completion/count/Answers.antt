use Rattle.std.proofs.Common.{◌≤◌, ◌+◌, ◌∙◌, ◌∷◌, ◌++◌, [], Bool, ap, arith, drop, length, Some, subst, sym, take, ℕ}
use Rattle.std.proofs.lemmas.List.{length_push, take_at}
use Rattle.mu_model.specs.Contents.{holds_all, includes, rows_in, rows_of}
use Rattle.mu_model.proofs.Basics.{true_or}
use Rattle.mu_follow.specs.Completion.{MarksRows}
use Rattle.mu_follow.proofs.Full.{full_next, includes_next}
use Rattle.mu_model.proofs.Scans.{least_below_fits}
use Rattle.mu_follow.proofs.completion.Completion.count.Goals as goal

pub returns-clause-holds : goal.returns-clause-holds
returns-clause-holds c values good held =
    let k = c.args.config.now in
    let v = c.args.v in
    let f : ℕ → Bool = λ j. includes j (rows_in k values) in
    let g : ℕ → Bool = λ j. includes j (rows_in k (values ++ v ∷ [])) in
    let marked = c.hold_entry.ensures f good (subst (λ l. MarksRows k f l) (sym c.deref_mut.ensures.value) held.held) in
    let back = take_at c.hold_entry.new.held (drop (length c.hold_entry.new.held) c.args.self.now.held.items) c.args.self.now.held.len (c.hold_entry.auto.held ∙ c.deref_mut.ensures.len) in
    let rows = ap length back ∙ (c.hold_entry.auto.held ∙ (ap length c.deref_mut.ensures.value ∙ held.rows)) in
    let marks : MarksRows k g _ = subst (λ l. MarksRows k g l) (sym back) (λ j low. marked j low ∙ ap Some (sym (includes_next k j v values))) in
    let seen = c.deref.ensures.value in
    let first = c.first_missing-self.ensures k g (ap length seen ∙ rows) (subst (λ l. MarksRows k g l) (sym seen) marks) held.first.within
    (λ j low. includes_next k j v values ∙ true_or (f j) (includes j (rows_of k v)) (held.first.below j low)) in
    let all = c.is_whole-all.ensures g first in
    let least = least_below_fits (length values + 1) (λ m. holds_all k (take m values)) in
    let fits : c.args.self.now.full ≤ c.args.self.now.counted + 1 = omega (arith, least, held.full, held.counted) in
    record {
      counted = omega (arith, c.saturating_add-self.ensures, c.requires, held.counted, length_push values v);
      rows = rows;
      held = marks;
      first = first;
      full = c.full_after-self.ensures fits ∙ rw (held.full, held.counted, all) (sym (full_next k v values));
    }
