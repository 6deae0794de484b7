use Rattle.std.proofs.Common.{rules, ◌≡◌, false, get_or, ◌∷◌, ◌++◌, [], arith, sym, ◌∙◌, ap, Some, length, length-set}
use Rattle.std.proofs.lemmas.Option.{slice_get-get_or, slice_get_within}
use Rattle.mu_model.specs.Contents.{marked}
use Rattle.mu_model.proofs.Basics.{same_some}
use Rattle.mu_model.proofs.Lists.{upto_all, upto_next}
use Rattle.mu_knowledge.proofs.known_log.note_mark.Goals as goal

pub loop-q-init : goal.loop-q-init
loop-q-init c =
    let seven : length c.args.marks.now ≡ 7 = search rules in
    record {
      count = seven;
      upto = λ values held q mark there.
          let low = slice_get_within c.args.marks.now q mark there in
          (λ below. absurd (omega (arith, below)), λ above. same_some mark (marked c.args.config.now q values) (sym there ∙ held q (omega (arith, low, seven))));
    }

pub loop-q-preserved : goal.loop-q-preserved
loop-q-preserved c =
    let k = c.args.config.now in
    let seven : length c.loop-q.marks ≡ 7 = c.loop-q.invariant.count in
    record {
      count = length-set c.loop-q.marks c.from-at.result c.mark_after.result ∙ seven;
      upto = λ values held.
          upto_next (λ q mark. mark ≡ marked k q values) (λ q mark. mark ≡ marked k q (values ++ c.args.v ∷ [])) c.loop-q.q c.from-at.result c.loop-q.marks false c.mark_after.result c.from-at.ensures (omega (arith, seven, c.loop-q-test.true))
          (λ was. c.mark_after.ensures values was) (c.loop-q.invariant.upto values held);
    }

pub returns : goal.returns
returns c values held q small =
    let k = c.args.config.now in
    let marks = c.loop-q.marks in
    let seven : length marks ≡ 7 = c.loop-q.invariant.count in
    let found = slice_get-get_or marks q false (omega (arith, small, seven)) in
    found ∙ ap (λ mark. Some mark) (upto_all (λ q mark. mark ≡ marked k q values) (λ q mark. mark ≡ marked k q (values ++ c.args.v ∷ [])) c.loop-q.q marks (omega (arith, seven, c.loop-q-test.false)) (c.loop-q.invariant.upto values held) q (get_or marks q false) found)
