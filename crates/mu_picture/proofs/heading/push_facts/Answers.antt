use Rattle.std.proofs.Common.{◌-◌, ◌++◌, ◌∙◌, ap, length}
use Rattle.mu_picture.specs.Drawing.{brief_words, facts_with}
use Rattle.mu_picture.proofs.Appends.{on_ok}
use Rattle.mu_picture.proofs.heading.push_facts.Goals as goal

pub returns : goal.returns
returns c =
    let config = c.args.config.now in
    let picture = c.args.picture.now in
    let old = c.args.sheet.now in
    let steps = picture.end - picture.first in
    on_ok c.push_parts.result c.push_parts.ensures
    (λ is. is
    ∙ (ap (λ v. old ++ facts_with v c.from-2.result c.from-3.result c.drawn_in.result c.from-4.result c.brief_words.result.now c.from-5.result) c.from.ensures
    ∙ (ap (λ n. old ++ facts_with config.version n c.from-3.result c.drawn_in.result c.from-4.result c.brief_words.result.now c.from-5.result) c.from-2.ensures
    ∙ (ap (λ r. old ++ facts_with config.version config.replicas r c.drawn_in.result c.from-4.result c.brief_words.result.now c.from-5.result) c.from-3.ensures
    ∙ (ap (λ m. old ++ facts_with config.version config.replicas config.ring m c.from-4.result c.brief_words.result.now c.from-5.result) c.drawn_in.ensures
    ∙ (ap (λ d. old ++ facts_with config.version config.replicas config.ring (length picture.marks.items) d c.brief_words.result.now c.from-5.result) c.from-4.ensures
    ∙ (ap (λ b. old ++ facts_with config.version config.replicas config.ring (length picture.marks.items) steps b c.from-5.result) c.brief_words.ensures
    ∙ ap (λ k. old ++ facts_with config.version config.replicas config.ring (length picture.marks.items) steps (brief_words picture.brief) k) c.from-5.ensures)))))))
