use Rattle.std.proofs.Common.{◌≡◌, ◌∙◌, ap, slice_index, slice_set, subst}
use Rattle.mu_words.specs.Finding.{expected}
use Rattle.mu_words.specs.Places.{place_of}
use Rattle.mu_words.specs.Founds.{Notes}
use Rattle.mu_words.specs.Verbs.{answer_from, name_at, word_after}
use Rattle.word_fabric.specs.Kept.{place_at}
use Rattle.word_fabric.proofs.making.make_step.Goals as goal

pub returns : goal.returns
returns c =
    let l = c.args.layout.now in
    let v = c.args.verb.now in
    let words = c.args.words.now in
    let found = c.args.found.now in
    let place : c.place_of-place.result ≡ place_at l c.args.by found v =
    c.place_of-place.ensures ∙ (ap (place_of l) c.name_of.ensures ∙ ap (λ t. place_of l (name_at l.ring c.args.by t v)) c.close_target.ensures) in
    record {
      answered = λ k mine seen was ready. c.answer_from-answer.ensures ∙ ap (λ x. answer_from l.ring v x (slice_index words c.place_of-place.result)) (c.expected_word-expected.ensures k mine seen was ready)
          ∙ ap (λ i. answer_from l.ring v (expected k c.args.by mine seen v) (slice_index words i)) place;
      written = λ k mine seen was ready. ap (slice_set words c.place_of-place.result) (c.word_after.ensures ∙ ap (λ x. word_after l.ring v x (slice_index words c.place_of-place.result)) (c.expected_word-expected.ensures k mine seen was ready))
          ∙ ap (λ i. slice_set words i (word_after l.ring v (expected k c.args.by mine seen v) (slice_index words i))) place;
      noted = subst (λ i. Notes c.args.by v c.answer_from-answer.result (slice_index words i) found c.note.new.self) place c.note.ensures;
    }
