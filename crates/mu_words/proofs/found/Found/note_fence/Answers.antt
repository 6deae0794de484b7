use Rattle.std.proofs.Common.{◌∙◌, ap, set, sym, subst}
use Rattle.mu_model.specs.declared.event.Verb.{Verb}
use Rattle.mu_words.specs.Founds.{Notes}
use Rattle.mu_words.proofs.Founds.{fence_found}
use Rattle.mu_words.proofs.found.Found.note_fence.Goals as goal

pub returns-in-Seen : goal.returns-in-Seen
returns-in-Seen c w k mine seen was ready =
    let noted = c.put_at.ensures ∙ ap (λ at. set c.args.self.now.noted at c.open_grant.result) c.from.ensures ∙ ap (set c.args.self.now.noted c.args.p) c.open_grant.ensures in
    let targets = c.put_at-in-Seen.ensures ∙ ap (λ at. set c.args.self.now.targets at c.in-Seen.fence.target) c.from-in-Seen.ensures in
    subst (λ a. Notes c.args.id (Verb.Fence c.args.p) a w c.args.self.now (record c.args.self.now { noted = c.put_at.new.items; targets = c.put_at-in-Seen.new.items })) (sym c.in-Seen.is)
    (λ k' mine' seen' was' ready'. fence_found k' c.args.id c.args.self.now mine' seen' c.args.p w c.in-Seen.fence c.put_at.new.items c.put_at-in-Seen.new.items noted targets was') k mine seen was ready
