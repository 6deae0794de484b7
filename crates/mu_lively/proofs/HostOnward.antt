-- The cycle's order is kept by what is due.
use Rattle.std.proofs.Common.{List, None, Some, true, ℕ, ◌<◌, ◌≡◌, arith, inl, inr, refl, subst, sym, ◌∙◌, true≢false}
use Rattle.std.specs.declared.option.Option.{Option}
use Rattle.mu_model.specs.declared.config.Config.{Config}
use Rattle.mu_model.specs.declared.event.Event.{Event}
use Rattle.mu_model.specs.declared.event.Verb.{Verb}
use Rattle.mu_lively.specs.Order.{DueFollows, IsAtPlace, IsElsewhere, OtherFollows}
use Rattle.mu_grant.specs.Pace.{host_place}
use Rattle.mu_grant.specs.Stands.{Gives, is_of_place}

-- a place of the host has no read of asks
no_ask : (d w : ℕ) (verb : Verb) → is_of_place d verb ≡ true → verb ≡ Verb.ReadAsk w → ⊥
no_ask d w verb of is = true≢false (sym (subst (λ v. is_of_place d v ≡ true) is of))

-- what is made as it was due follows the cycle
pub due_is_next : DueFollows
due_is_next c r d past e due own low at held wanted idle = record {
  own = own;
  host = λ k few there. let here = at.place_is in let also = there.place_is in let same : d ≡ k = omega arith in record {
    due = due;
    gives = subst (λ p. Gives c r past p due) same held;
    made = wanted;
    idle = λ none. (idle none).0;
  };
  nowhere_else = λ is. (d, omega arith, at);
  asks = λ w is. absurd (go due refl w is);
}
  where
    go : (o : Option Verb) → due ≡ o → (w : ℕ) → e.verb ≡ Verb.ReadAsk w → ⊥
    go None none w is = (idle none).1 w is
    go (Some v) some w is = no_ask d w v (held.given v some).0 (sym (wanted v some) ∙ is)

-- elsewhere none of the host's places is the next
not_at_host : (c : Config) (d : ℕ) (past : List Event) → IsElsewhere c past → d < 4 → IsAtPlace c (host_place c d) past → ⊥
not_at_host c d past (inl odd) low at = true≢false (sym odd ∙ at.background)
not_at_host c d past (inr (inl under)) low at = let is = at.place_is in omega arith
not_at_host c d past (inr (inr over)) low at = let is = at.place_is in omega arith

-- what is none of the host's follows the cycle elsewhere
pub other_is_next : OtherFollows
other_is_next c r past e own away idle asks = record { own = own; host = λ d low at. absurd (not_at_host c d past away (omega arith) at); nowhere_else = λ is. absurd (true≢false (sym is ∙ idle)); asks = asks }
