use Rattle.std.proofs.Common.{[], ap, arith, drop, length, subst, sym, ◌++◌, ◌<◌, ◌∙◌, ◌∷◌, List, ℕ}
use Rattle.std.proofs.lemmas.List.{take_at}
use Rattle.mu_knowledge.specs.KnownLog.{CountsCommands}
use Rattle.mu_knowledge.proofs.Learning.{few_places}
use Rattle.mu_knowledge.proofs.known_log.KnownLog.learn.Goals as goal

pub returns-in-Some-clause-values : goal.returns-in-Some-clause-values
returns-in-Some-clause-values c = λ values good fits held.
    let k = c.args.config.now in
    let v = c.in-Some.v in
    let places = fits v c.in-Some.is in
    let room = held.room in
    let long = ap length held.are in
    let few = few_places k good in
    let short : length values < 2000 = omega (arith, places, few) in
    let pushed = c.push_within.ensures.items (omega (arith, places, room, long)) in
    let same = c.deref_mut.ensures.value in
    let back = take_at c.count_rows.new.counts (drop (length c.count_rows.new.counts) c.args.self.now.counts.items) c.args.self.now.counts.len (c.count_rows.auto.counts ∙ c.deref_mut.ensures.len) in
    let counts = c.count_rows.ensures values good short (subst (λ (counts : List ℕ). CountsCommands k values counts) (sym same) held.counts) in
    rw c.in-Some.is (record {
      are = pushed ∙ ap (λ xs. xs ++ v ∷ []) held.are;
      room = rw c.push_within.ensures.room room;
      marks = c.note_mark.ensures values held.marks;
      counts = subst (λ (counts : List ℕ). CountsCommands k (values ++ v ∷ []) counts) (sym back) counts;
      rows = c.rows_after-self.ensures values good short held.rows;
      by_client = held.by_client;
    })
