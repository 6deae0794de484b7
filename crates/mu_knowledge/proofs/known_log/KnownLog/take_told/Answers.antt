use Rattle.std.proofs.Common.{Bool, List, ◌≡◌, ◌∷◌, ◌∙◌, ap, drop, length, subst, sym}
use Rattle.mu_model.specs.Knowledge.{grown, known}
use Rattle.std.proofs.lemmas.List.{take_at}
use Rattle.mu_knowledge.specs.KnownLog.{HoldsValues, ReadsFuos, SeesEntries}
use Rattle.mu_knowledge.proofs.Learning.{learns_within}
use Rattle.mu_knowledge.proofs.Placed.{event_within}
use Rattle.mu_knowledge.proofs.known_log.KnownLog.take_told.Goals as goal

pub returns : goal.returns
returns c mine good possible accepted held =
    let k = c.args.config.now in
    let r = c.args.r in
    let e = c.args.event.now in
    let near = event_within k r mine e good possible in
    let is = c.learnt-learnt.ensures k mine near accepted held in
    let some = c.learn.ensures.values (known k r mine) good (λ v taught. learns_within k r (length (known k r mine)) v e.by e.verb e.answer mine (e ∷ mine) near (sym is ∙ taught)) held.values in
    let values = subst (λ x. HoldsValues k (grown (known k r mine) x) c.learn.new.self) is some in
    let same : c.deref_mut.result.now ≡ c.args.self.now.seen.items = c.deref_mut.ensures.value ∙ ap (λ x. x.items) c.learn.ensures.seen in
    let long : length c.note_seen.new.seen ≡ length c.args.self.now.seen.items = c.note_seen.auto.seen ∙ ap length same in
    let back = take_at c.note_seen.new.seen (drop (length c.note_seen.new.seen) c.learn.new.self.seen.items) c.learn.new.self.seen.len (c.note_seen.auto.seen ∙ c.deref_mut.ensures.len) in
    let before = subst (λ (seen : List Bool). SeesEntries r mine seen) (sym same) held.seen in
    record {
      values = record { are = values.are; room = values.room; marks = values.marks; counts = values.counts; rows = values.rows; by_client = values.by_client };
      fuos = c.note_fuo.ensures mine (subst (λ fuos. ReadsFuos r mine fuos) (sym c.learn.ensures.fuos) held.fuos);
      positions = ap length back ∙ (long ∙ held.positions);
      seen = subst (λ (seen : List Bool). SeesEntries r (e ∷ mine) seen) (sym back) (c.note_seen.ensures k mine near (ap length same ∙ held.positions) before);
    }
