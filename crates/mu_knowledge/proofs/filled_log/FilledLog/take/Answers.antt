use Rattle.std.proofs.Common.{List, Bool, false, ℕ, ◌∙◌, ◌≡◌, ◌<◌, ◌||◌, length, drop, ap, subst}
use Rattle.std.specs.Prelude.{nat_lt}
use Rattle.std.proofs.lemmas.List.{take_at}
use Rattle.std.specs.List.{slice_get}
use Rattle.mu_knowledge.specs.FilledLog.{is_at}
use Rattle.mu_knowledge.specs.KnownLog.{is_set}
use Rattle.mu_knowledge.proofs.Filled.{log_step}
use Rattle.mu_knowledge.proofs.filled_log.FilledLog.take.Goals as goal

pub returns : goal.returns
returns c k r p e mine possible reads shows held =
    let self = c.args.self.now in
    let same = c.deref_mut.ensures.value in
    let long = c.mark.auto.marks in
    let marks = c.mark.new.marks in
    let back = take_at marks (drop (length marks) self.filled.items) self.filled.len (long ∙ c.deref_mut.ensures.len) in
    let marked = subst (λ (l : List Bool). (j : ℕ) → j < length l → is_set (slice_get marks j) ≡ (is_at c.args.spot j || is_set (slice_get l j))) same c.mark.ensures in
    let view = c.deref.ensures.value ∙ back in
    let to = c.first_unmarked-self.result in
    let moved = subst (λ (l : List Bool). (j : ℕ) → (nat_lt j to || is_set (slice_get l j)) ≡ (nat_lt j c.greater_of.result || is_set (slice_get l j))) view c.first_unmarked-self.ensures.same in
    let moved_from = subst (λ n. (j : ℕ) → (nat_lt j to || is_set (slice_get marks j)) ≡ (nat_lt j n || is_set (slice_get marks j))) c.greater_of.ensures moved in
    let next = subst (λ (l : List Bool). is_set (slice_get l to) ≡ false) view c.first_unmarked-self.ensures.next in
    log_step k r p e mine self _ marks c.args.read c.args.spot possible held back (long ∙ ap length same) reads shows marked moved_from next
