use Rattle.std.proofs.Common.{[], ap, map, ◌++◌, ◌∙◌, ◌∷◌, ◌≡◌}
use Rattle.std.proofs.lemmas.List.{map-append}
use Rattle.mu_model.specs.declared.event.Event.{Event}
use Rattle.mu_model.specs.Journals.{Record}
use Rattle.mu_model.specs.Packing.{unpacked_of}
use Rattle.mu_model.proofs.Unpacking.{unpacked_packed}
use Rattle.mu_model.proofs.journal.Journal.push.Goals as goal

pub returns-clause-events : goal.returns-clause-events
returns-clause-events c =
    let words = c.self.inside.words.items in
    let e = c.args.event in
    let back : unpacked_of c.packed.result ≡ e = ap unpacked_of c.packed.ensures.words ∙ unpacked_packed e c.packed.ensures.fits c.requires.fits in
    ap (map unpacked_of) c.push_reserved.ensures.items
    ∙ map-append unpacked_of words (c.packed.result ∷ [])
    ∙ ap (λ (x : Event). map unpacked_of words ++ x ∷ []) back
    ∙ ap (λ (r : Record). r.events ++ e ∷ []) c.self.view_is
