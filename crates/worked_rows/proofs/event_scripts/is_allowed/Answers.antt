use Rattle.std.proofs.Common.{◌≡◌, List, ap, subst, ◌∙◌}
use Rattle.mu_model.specs.Allowed.{Allowed}
use Rattle.mu_model.specs.Histories.{history, part}
use Rattle.mu_model.specs.declared.config.Config.{Config}
use Rattle.mu_model.specs.declared.event.Event.{Event}
use Rattle.mu_model.proofs.Parts.{history-part}
use Rattle.worked_rows.proofs.event_scripts.is_allowed.Goals as goal

pub returns : goal.returns
returns g c allowed =
    let by = c.args.by in
    let config = g.M.Memory.config c.args.memory.now in
    let events = g.M.Memory.events c.args.memory.now in
    let kept = c.as_slice.ensures.value ∙ (c.in_ok-events.ensures ∙ c.events.ensures.events) in
    let mine : c.as_slice-2.result.now ≡ part by events = c.as_slice-2.ensures.value ∙ (c.in_ok-mine.ensures ∙ ap (part by) kept) in
    let past : history c.as_slice-2.result.now ≡ part by (history events) = ap (λ (l : List Event). history l) mine ∙ history-part by events in
    let may = subst (λ (k : Config). Allowed k by (history c.as_slice-2.result.now) c.args.verb.now) c.config-2.ensures (c.allows.ensures.0 allowed) in
    subst (λ (l : List Event). Allowed config by l c.args.verb.now) past may
