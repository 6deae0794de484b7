use Rattle.std.proofs.Common.{[], ◌+◌, ◌%◌, ◌∷◌, ◌≡◌, ◌∙◌, ap, arith, inl, inr, subst, sym, take}
use Rattle.std.specs.List.{slice_get}
use Rattle.std.proofs.lemmas.Bool.{cases_eq}
use Rattle.std.proofs.lemmas.List.{length-take}
use Rattle.mu_follow.specs.Groups.{group_of, group_size}
use Rattle.mu_eras.specs.Applied.{Applies, IsKept}
use Rattle.mu_eras.proofs.Applying.{NextOf, applies_more, next_of, whole_of}
use Rattle.mu_eras.proofs.applied.Applied.take_entry.Goals as goal

pub take_row-requires-clause-row : goal.take_row-requires-clause-row
take_row-requires-clause-row c =
    let size = c.group_size-t-end.ensures in
    let next : NextOf c.args.config.now c.args.commands.now c.args.v c.loop-t.t = next_of c.args.config.now c.args.commands.now c.args.v c.loop-t.t c.requires.config c.requires.spelled (omega (arith, c.loop-t-test.true, size)) in
    let low = next.low in
    let few = c.requires.config.few in
    let count = c.requires.spelled.count in
    omega (arith, c.saturating_add.ensures, low, few, count)

pub take_row-requires-clause-room : goal.take_row-requires-clause-room
take_row-requires-clause-room c =
    let size = c.group_size-t-end.ensures in
    let next : NextOf c.args.config.now c.args.commands.now c.args.v c.loop-t.t = next_of c.args.config.now c.args.commands.now c.args.v c.loop-t.t c.requires.config c.requires.spelled (omega (arith, c.loop-t-test.true, size)) in
    let low = next.inside in
    let long = length-take c.loop-t.t (group_of c.args.config.now c.args.commands.now c.args.v) in
    let room = c.requires.room in
    let left = c.loop-t.invariant.applies.room in
    omega (arith, low, long, room, left)

pub take_row-requires-clause-few : goal.take_row-requires-clause-few
take_row-requires-clause-few c =
    let size = c.group_size-t-end.ensures in
    let next : NextOf c.args.config.now c.args.commands.now c.args.v c.loop-t.t = next_of c.args.config.now c.args.commands.now c.args.v c.loop-t.t c.requires.config c.requires.spelled (omega (arith, c.loop-t-test.true, size)) in
    let low = next.inside in
    let long = length-take c.loop-t.t (group_of c.args.config.now c.args.commands.now c.args.v) in
    let few = c.requires.few in
    let count = c.loop-t.invariant.applies.count in
    omega (arith, low, long, few, count)

pub loop-t-preserved : goal.loop-t-preserved
loop-t-preserved c =
    let k = c.args.config.now in
    let commands = c.args.commands.now in
    let v = c.args.v in
    let t = c.loop-t.t in
    let size = c.group_size-t-end.ensures in
    let next : NextOf c.args.config.now c.args.commands.now c.args.v c.loop-t.t = next_of c.args.config.now c.args.commands.now c.args.v c.loop-t.t c.requires.config c.requires.spelled (omega (arith, c.loop-t-test.true, size)) in
    let low = next.low in
    let few = c.requires.config.few in
    let here : c.saturating_add.result ≡ c.args.v % 4096 + c.loop-t.t = omega (arith, c.saturating_add.ensures, low, few) in
    let one = c.take_row.ensures.applies next.command (ap (λ n. slice_get c.args.commands.now n) here ∙ next.at) in
    record {
      applies =
          subst (λ l. Applies c.args.commands.now l c.args.self.now c.take_row.new.self c.args.replies.now c.take_row.new.replies) (sym next.more)
          (applies_more commands (take t (group_of k commands v)) (next.command ∷ []) c.args.self.now c.loop-t.self c.take_row.new.self c.args.replies.now c.loop-t.replies c.take_row.new.replies c.loop-t.invariant.applies one);
      fresh = λ s below. elim (cases_eq s c.loop-t.t) [
        | inl same ↦ subst (IsKept c.take_row.new.replies) (omega (arith, here, same)) c.take_row.ensures.kept
        | inr other ↦ one.keeps (c.args.v % 4096 + s) (c.loop-t.invariant.fresh s (omega (arith, below, other)))
      ];
    }

pub returns-clause-fresh : goal.returns-clause-fresh
returns-clause-fresh c t below =
    let size = c.group_size-t-end.ensures in
    let end = c.loop-t.auto.t-end in
    c.loop-t.invariant.fresh t (omega (arith, below, c.loop-t-test.false, end, size))

pub returns-clause-applies : goal.returns-clause-applies
returns-clause-applies c =
    let size = c.group_size-t-end.ensures in
    let end = c.loop-t.auto.t-end in
    let last : c.loop-t.t ≡ group_size c.args.config.now c.args.v = omega (arith, c.loop-t-test.false, end, size) in
    subst (λ l. Applies c.args.commands.now l c.args.self.now c.loop-t.self c.args.replies.now c.loop-t.replies)
    (ap (λ n. take n (group_of c.args.config.now c.args.commands.now c.args.v)) last ∙ whole_of c.args.config.now c.args.commands.now c.args.v) c.loop-t.invariant.applies
