use Rattle.std.proofs.Common.{◌≡◌, ◌∙◌, arith, length-set, refl, subst, []}
use Rattle.snap_reads.specs.Steps.{HasPart}
use Rattle.snap_reads.proofs.Words.{awaits, loaded_length, part_begins, part_loads, row_ends}
use Rattle.snap_reads.proofs.reader.read_row.Goals as goal

pub loop-k-init : goal.loop-k-init
loop-k-init c = (refl, refl, part_begins c.args.seat.now.me [])

pub load-requires-clause-of : goal.load-requires-clause-of
load-requires-clause-of c = c.loop-k.invariant.0 ∙ c.requires.of

pub load-requires-clause-at : goal.load-requires-clause-at
load-requires-clause-at c = awaits _ _ _ _ _ _ c.requires.row c.requires.next c.loop-k.invariant.2 c.loop-k.invariant.1 (omega (arith, c.loop-k-test.true))

pub loop-k-preserved : goal.loop-k-preserved
loop-k-preserved c =
    let words = loaded_length c.loop-k.k _ _ _ c.requires.row c.loop-k.invariant.2 c.loop-k.invariant.1 (omega (arith, c.loop-k-test.true)) in (
      c.load.ensures.same ∙ c.loop-k.invariant.0,
      length-set c.loop-k.words c.loop-k.k c.load.result ∙ c.loop-k.invariant.1,
      part_loads _ _ _ _ _ _ c.loop-k.invariant.2 (omega (arith, c.loop-k-test.true, c.loop-k.invariant.1))
          (c.load.ensures.loaded.other (omega (arith, c.loop-k-test.true, words))).after_is,
    )

pub load-requires-2-clause-of : goal.load-requires-2-clause-of
load-requires-2-clause-of c = c.loop-k.invariant.0 ∙ c.requires.of

pub load-requires-2-clause-at : goal.load-requires-2-clause-at
load-requires-2-clause-at c =
    let at_last : c.loop-k.k ≡ 11 = omega (arith, c.loop-k-test.false, c.loop-k.auto.k-end) in
    let part = subst (λ k. HasPart c.args.seat.now.me k c.loop-k.words c.loop-k.seat.me) at_last c.loop-k.invariant.2 in
    awaits _ _ 11 _ _ _ c.requires.row c.requires.next part c.loop-k.invariant.1 (omega arith)

pub returns-clause-same : goal.returns-clause-same
returns-clause-same c = c.load-2.ensures.same ∙ c.loop-k.invariant.0

pub returns-clause-row : goal.returns-clause-row
returns-clause-row c =
    let at_last : c.loop-k.k ≡ 11 = omega (arith, c.loop-k-test.false, c.loop-k.auto.k-end) in
    let part = subst (λ k. HasPart c.args.seat.now.me k c.loop-k.words c.loop-k.seat.me) at_last c.loop-k.invariant.2 in
    let words = loaded_length 11 _ _ _ c.requires.row part c.loop-k.invariant.1 (omega arith) in
    row_ends _ _ _ _ _ c.requires.row.none c.loop-k.invariant.1 part (c.load-2.ensures.loaded.last words)
