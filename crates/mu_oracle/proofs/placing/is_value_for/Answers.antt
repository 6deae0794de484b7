use Rattle.std.proofs.Common.{Some, inl, inr, rules, ◌≡◌}
use Rattle.std.specs.List.{slice_get}
use Rattle.mu_model.specs.Histories.{history}
use Rattle.mu_model.specs.Knowledge.{known}
use Rattle.mu_model.proofs.Putting.{values_met}
use Rattle.mu_oracle.proofs.placing.is_value_for.Goals as goal

pub returns-else-eq : goal.returns-else-eq
returns-else-eq c =
    let met = values_met c.args.config.now c.args.r (history c.args.part.now) c.args.i c.args.v in
    let other : (slice_get (known c.args.config.now c.args.r (history c.args.part.now)) c.args.i ≡ Some c.args.v) → ⊥ = λ is. search rules in (
      λ h. let all = c.may_begin.ensures.0 h in met.1 (inr (record { next = all.0; room = all.1; reserve_kept = all.2; none_past = all.3; value = all.4 })),
      λ m. elim (met.0 m) [ inl is ↦ absurd (other is) | inr new ↦ c.may_begin.ensures.1 (new.next, new.room, new.reserve_kept, new.none_past, new.value) ],
    )
