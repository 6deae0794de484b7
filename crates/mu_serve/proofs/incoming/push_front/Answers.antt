use Rattle.std.proofs.Common.{[], ◌∷◌, ◌++◌, ◌∙◌, ap, arith, length, length-append, sym}
use Rattle.std.proofs.lemmas.List.{take-append-le, take_all}
use Rattle.mu_serve.proofs.incoming.push_front.Goals as goal

pub returns-then-as_slice-lt-LINE_BYTES : goal.returns-then-as_slice-lt-LINE_BYTES
returns-then-as_slice-lt-LINE_BYTES c =
    let size = ap length c.as_slice.ensures in
    c.push_byte.ensures.bytes
    ∙ sym (take_all 192 (c.args.front.now ++ c.args.byte ∷ [])
    (omega (
      arith,
      size,
      c.if-as_slice-lt-LINE_BYTES.true,
      length-append c.args.front.now (c.args.byte ∷ []),
    )))

pub returns-else-as_slice-lt-LINE_BYTES : goal.returns-else-as_slice-lt-LINE_BYTES
returns-else-as_slice-lt-LINE_BYTES c =
    let size = ap length c.as_slice.ensures in
    sym (take-append-le 192 c.args.front.now (c.args.byte ∷ [])
    (omega (arith, size, c.if-as_slice-lt-LINE_BYTES.false))
    ∙ take_all 192 c.args.front.now c.requires)
