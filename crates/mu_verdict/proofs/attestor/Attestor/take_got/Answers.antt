use Rattle.std.proofs.Common.{◌++◌, ◌∷◌, [], ◌∙◌, ap, sym}
use Rattle.mu_model.specs.Contents.{includes}
use Rattle.mu_verdict.proofs.attestor.Attestor.take_got.Goals as goal

pub returns-then-has_row : goal.returns-then-has_row
returns-then-has_row c = λ job past held.
    ap (includes c.args.row) (sym held.got ∙ sym c.as_slice.ensures.value) ∙ sym c.has_row.ensures ∙ c.if-has_row.true

pub returns-then-has_row-2 : goal.returns-then-has_row-2
returns-then-has_row-2 c = λ job past held. (
  ap (includes c.args.row) (sym held.got ∙ sym c.as_slice.ensures.value) ∙ sym c.has_row.ensures ∙ c.if-has_row.false,
  ap (includes c.args.row) (sym held.put ∙ sym c.as_slice-2.ensures.value) ∙ sym c.has_row-2.ensures ∙ c.if-has_row-2.true,
)

pub returns : goal.returns
returns c = λ job past held. record {
  attested = (
    held.attested,
    (
      ap (includes c.args.row) (sym held.got ∙ sym c.as_slice.ensures.value) ∙ sym c.has_row.ensures ∙ c.if-has_row.false,
      ap (includes c.args.row) (sym held.put ∙ sym c.as_slice-2.ensures.value) ∙ sym c.has_row-2.ensures ∙ c.if-has_row-2.false,
    ),
  );
  walk = held.walk;
  got = c.in_ok-push.ensures.items ∙ ap (λ l. l ++ c.args.row ∷ []) held.got;
  put = held.put;
  events = held.events;
}
