use Rattle.std.proofs.Common.{[], List, Some, ℕ, ◌++◌, ◌-◌, ◌<◌, ◌≡◌, ◌∙◌, ◌∷◌, ap, append-nil, arith, drop, get_or, length, subst, sym, take}
use Rattle.std.specs.List.{slice_get}
use Rattle.std.proofs.lemmas.List.{length-drop}
use Rattle.std.proofs.lemmas.Option.{slice_get-get_or}
use Rattle.mu_follow.specs.Groups.{group_of, groups_of}
use Rattle.mu_model.specs.Contents.{rows_in, rows_of}
use Rattle.mu_model.proofs.Scans.{rows_in-append}
use Rattle.mu_eras.specs.Applied.{Applies, AreKept}
use Rattle.mu_eras.proofs.Applying.{applies_more, group_fits, groups_next, rest_is, take_more, take_whole}
use Rattle.mu_eras.proofs.Kept.{kept_both, kept_on, kept_rows}
use Rattle.mu_eras.proofs.applied.Applied.take.Goals as goal

-- the entry at a place of the rest
at_place : (n : ℕ) (xs : List ℕ) (i : ℕ) → i < length xs - n → slice_get (take (length xs - n) (drop n xs)) i ≡ Some (get_or (take (length xs - n) (drop n xs)) i 0)
at_place n xs i low =
    let long = length-drop n xs in
    let same = ap length (rest_is n xs) in
    slice_get-get_or (take (length xs - n) (drop n xs)) i 0 (omega (arith, long, same, low))

pub take_entry-requires-clause-room : goal.take_entry-requires-clause-room
take_entry-requires-clause-room c =
    let k = c.args.config.now in
    let commands = c.args.commands.now in
    let n = c.args.self.now.entries in
    let xs = c.args.entries.now in
    let rest = take (length xs - n) (drop n xs) in
    let i = c.loop-i.i in
    let long = length-drop n xs in
    let same = ap length (rest_is n xs) in
    let low : c.loop-i.i < length c.args.entries.now - c.args.self.now.entries = omega (arith, c.loop-i-test.true, long, same) in
    let fits = group_fits k commands rest i (get_or rest i 0) (at_place n xs i low) in
    let whole = ap (λ l. length (groups_of k commands l)) (rest_is n xs) in
    let room = c.requires.room in
    let left = c.loop-i.invariant.applies.room in
    omega (arith, fits, whole, room, left)

pub take_entry-requires-clause-few : goal.take_entry-requires-clause-few
take_entry-requires-clause-few c =
    let k = c.args.config.now in
    let commands = c.args.commands.now in
    let n = c.args.self.now.entries in
    let xs = c.args.entries.now in
    let rest = take (length xs - n) (drop n xs) in
    let i = c.loop-i.i in
    let long = length-drop n xs in
    let same = ap length (rest_is n xs) in
    let low : c.loop-i.i < length c.args.entries.now - c.args.self.now.entries = omega (arith, c.loop-i-test.true, long, same) in
    let fits = group_fits k commands rest i (get_or rest i 0) (at_place n xs i low) in
    let whole = ap (λ l. length (groups_of k commands l)) (rest_is n xs) in
    let few = c.requires.few in
    let count = c.loop-i.invariant.applies.count in
    omega (arith, fits, whole, few, count)

pub loop-i-preserved : goal.loop-i-preserved
loop-i-preserved c =
    let k = c.args.config.now in
    let commands = c.args.commands.now in
    let n = c.args.self.now.entries in
    let xs = c.args.entries.now in
    let rest = take (length xs - n) (drop n xs) in
    let i = c.loop-i.i in
    let v = get_or rest i 0 in
    let long = length-drop n xs in
    let same = ap length (rest_is n xs) in
    let low : c.loop-i.i < length c.args.entries.now - c.args.self.now.entries = omega (arith, c.loop-i-test.true, long, same) in
    let more = take_more i rest v (at_place n xs i low) in
    record {
      applies =
          subst (λ l. Applies c.args.commands.now l c.args.self.now c.take_entry.new.self c.args.replies.now c.take_entry.new.replies)
          (sym (ap (groups_of k commands) more ∙ groups_next k commands (take i rest) v))
          (applies_more commands (groups_of k commands (take i rest)) (group_of k commands v) c.args.self.now c.loop-i.self c.take_entry.new.self c.args.replies.now c.loop-i.replies c.take_entry.new.replies c.loop-i.invariant.applies c.take_entry.ensures.applies);
      fresh =
          subst (λ rows. AreKept rows c.take_entry.new.replies) (sym (ap (rows_in k) more ∙ rows_in-append k (take i rest) (v ∷ []) ∙ ap (λ l. rows_in k (take i rest) ++ l) (append-nil (rows_of k v))))
          (kept_both (rows_in k (take i rest)) (rows_of k v) c.take_entry.new.replies
          (kept_on (rows_in k (take i rest)) c.loop-i.replies c.take_entry.new.replies c.take_entry.ensures.applies.keeps c.loop-i.invariant.fresh)
          (kept_rows k v c.take_entry.new.replies c.take_entry.ensures.fresh));
    }

pub returns-clause-fresh : goal.returns-clause-fresh
returns-clause-fresh c =
    let n = c.args.self.now.entries in
    let xs = c.args.entries.now in
    let rest = take (length xs - n) (drop n xs) in
    subst (λ l. AreKept (rows_in c.args.config.now l) c.loop-i.replies)
    (take_whole c.loop-i.i rest (let end = c.loop-i.auto.i-end in omega (arith, c.loop-i-test.false, end)) ∙ rest_is n xs) c.loop-i.invariant.fresh
