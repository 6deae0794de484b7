use Rattle.std.proofs.Common.{List, ◌∷◌, ◌∙◌, length, drop, sym, ap, subst, arith}
use Rattle.std.specs.declared.option.Option.{Option}
use Rattle.std.proofs.lemmas.List.{take_at}
use Rattle.mu_placing.specs.LandedPuts.{NotesEach}
use Rattle.mu_placing.specs.declared.landed_puts.Landing.{Landing}
use Rattle.mu_agree.proofs.Within.{is_short}
use Rattle.mu_placing.proofs.landed_puts.LandedPuts.take.Goals as goal

pub returns : goal.returns
returns c c' mine config possible held =
    let now = c.leadership_after-self.ensures mine (let low = is_short c' c.args.r mine c.args.event.now config possible in omega arith) held.leadership in
    let same = c.deref_mut.ensures.value in
    let long = c.note_landing.auto.notes in
    let back = take_at c.note_landing.new.notes (drop (length c.note_landing.new.notes) c.args.self.now.notes.items) c.args.self.now.notes.len (long ∙ c.deref_mut.ensures.len) in
    let before = subst (λ (notes : List (Option Landing)). NotesEach c.args.r mine notes) (sym same) held.notes in
    record {
      leadership = now;
      room = ap length back ∙ (long ∙ (ap length same ∙ held.room));
      notes = subst (λ (notes : List (Option Landing)). NotesEach c.args.r (c.args.event.now ∷ mine) notes) (sym back) (c.note_landing.ensures mine now before);
    }
