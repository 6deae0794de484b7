-- How lanes stand after one more event.
use Rattle.std.proofs.Common.{◌≡◌, ◌≢◌, ℕ, ◌∷◌, ◌∙◌, List, Some, refl, sym, set, inl, inr}
use Rattle.std.specs.List.{slice_get}
use Rattle.std.proofs.lemmas.Bool.{eq-eqb, ne_eqb}
use Rattle.mu_model.specs.declared.config.Config.{Config}
use Rattle.mu_model.specs.declared.event.Event.{Event}
use Rattle.mu_model.specs.declared.script.Script.{Script}
use Rattle.mu_model.proofs.Lists.{set_get}
use Rattle.mu_picture.specs.Standings.{deed_after, halt_by, standing_of, standing_with}
use Rattle.mu_picture.specs.declared.standings.Standing.{Standing}

-- the lane of the replica that made the event stands as it left it
own : (c : Config) (script : Script) (past : List Event) (e : Event) (r : ℕ) → e.by ≡ r → standing_of c script r (e ∷ past) ≡ standing_with (deed_after c past e) (halt_by c script past e)
own c script past e r by = rw (eq-eqb e.by r by) refl

-- the others stand as before
other : (c : Config) (script : Script) (past : List Event) (e : Event) (r : ℕ) → e.by ≢ r → standing_of c script r (e ∷ past) ≡ standing_of c script r past
other c script past e r differ = rw (ne_eqb e.by r differ) refl

pub standings_next : (c : Config) (script : Script) (past : List Event) (e : Event) (k : ℕ) (lanes : List Standing) (new : Standing) → k ≡ e.by
    → new ≡ standing_with (deed_after c past e) (halt_by c script past e) → ((r : ℕ) (s : Standing) → slice_get lanes r ≡ Some s → s ≡ standing_of c script r past)
    → (r : ℕ) (s : Standing) → slice_get (set lanes k new) r ≡ Some s → s ≡ standing_of c script r (e ∷ past)
standings_next c script past e k lanes new by is held r s there = elim (set_get lanes k new r s there) [
  | inl here ↦ sym here.1 ∙ (is ∙ sym (own c script past e r (sym by ∙ sym here.0)))
  | inr kept ↦ held r s kept.1 ∙ sym (other c script past e r (λ same. kept.0 (sym same ∙ sym by)))
]
