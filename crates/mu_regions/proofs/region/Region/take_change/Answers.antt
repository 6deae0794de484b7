use Rattle.std.proofs.Common.{◌∙◌, ◌∷◌, ◌≡◌, rules, subst, sym, true}
use Rattle.mu_model.specs.Regions.{beats}
use Rattle.mu_regions.proofs.Elsewhere.{beat_taken}
use Rattle.mu_regions.proofs.region.Region.take_change.Goals as goal

pub returns : goal.returns
returns c k p past short near held = c.take_other.ensures k p past short near held

pub returns-then-is_beat : goal.returns-then-is_beat
returns-then-is_beat c k p past short near held =
    let e = c.args.event.now in
    let on : c.is_beat.result ≡ true = search rules in
    let count = subst (λ q. c.beats_after-self.result ≡ beats q (e ∷ past)) held.id (c.beats_after-self.ensures past short (subst (λ q. c.args.self.now.beats ≡ beats q past) (sym held.id) held.beats)) in
    beat_taken k p e.by c.beats_after-self.result e.verb e.answer past c.args.self.now (sym c.is_beat.ensures ∙ on) count held
