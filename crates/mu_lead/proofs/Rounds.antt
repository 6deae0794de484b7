-- When the notes of a round of fences come.
use Rattle.mu_lead.proofs.Majorities.{is_majority}
use Rattle.mu_lead.proofs.NoteKinds.{differs_by_test}
use Rattle.mu_lead.specs.Confirming.{Confirmed}
use Rattle.mu_lead.specs.Noting.{note_of_round}
use Rattle.mu_lead.specs.Saying.{SaysRound, ends_round}
use Rattle.mu_lead.specs.Sets.{bits}
use Rattle.mu_lead.specs.declared.note.Note.{Note}
use Rattle.mu_lead.specs.declared.place.Place.{Place}
use Rattle.mu_model.specs.Diligence.{is_confirmed as is_confirmed_by}
use Rattle.mu_model.specs.Histories.{count_below}
use Rattle.mu_model.specs.Leaderships.{majority_of, noted_grant}
use Rattle.mu_model.specs.declared.config.Config.{Config}
use Rattle.mu_model.specs.declared.event.Event.{Event}
use Rattle.std.proofs.Common.{Bool, List, ap, arith, eq-eqb, false, is_some, refl, sym, true, true≢false, ℕ, ◌+◌, ◌<◌, ◌==◌, ◌∙◌, ◌≡◌}
use Rattle.std.proofs.lemmas.Bool.{and_from, le-leb, ltb-false, ltb-true, ne_eqb}
use Rattle.std.specs.Prelude.{if◌then◌else◌, nat_le, nat_lt}

abbrev pub is_confirmed : Note → Bool
is_confirmed (Note.Confirmed s) = true
is_confirmed note = false

abbrev pub is_not_confirmed : Note → Bool
is_not_confirmed (Note.NotConfirmed s) = true
is_not_confirmed note = false

same_confirmed : (s t : ℕ) → Note.Confirmed s ≡ Note.Confirmed t → s ≡ t
same_confirmed s t is = cc

same_not_confirmed : (s t : ℕ) → Note.NotConfirmed s ≡ Note.NotConfirmed t → s ≡ t
same_not_confirmed s t is = cc

-- a note of another kind, if no round ended
pub round_none : (c : Config) (r : ℕ) (now : List Event) (place : Place) (note : Note) → is_confirmed note ≡ false → is_not_confirmed note ≡ false → ends_round c place ≡ false → SaysRound c r now place note
round_none c r now place note confirmed unconfirmed out = record {
  confirmed = λ s. ((λ is. absurd (differs_by_test is_confirmed note (Note.Confirmed s) confirmed refl is)), (λ row. absurd (true≢false (sym row.0.ends ∙ out))));
  not_confirmed = λ s. ((λ is. absurd (differs_by_test is_not_confirmed note (Note.NotConfirmed s) unconfirmed refl is)), (λ row. absurd (true≢false (sym row.0.ends ∙ out))));
}

-- a round that confirms has its majority
confirmed_is : (c : Config) (r : ℕ) (now : List Event) → Confirmed c r now → is_confirmed_by c r now ≡ true
confirmed_is c r now k = and_from (is_some (noted_grant r r now)) (nat_le (majority_of c.replicas) (count_below c.replicas (λ p. is_some (noted_grant r p now)))) k.own (le-leb (majority_of c.replicas) (count_below c.replicas (λ p. is_some (noted_grant r p now))) k.many)

-- the note of a fence in a round
pub round_says : (c : Config) (r round p : ℕ) (now : List Event) → p < c.replicas → SaysRound c r now (Place.Confirm round p) (if nat_lt (p + 1) c.replicas then Note.Working else note_of_round c r now)
round_says c r round p now low = go (nat_lt (p + 1) c.replicas) refl
  where
    named : ℕ
    named = bits (λ q. is_some (noted_grant r q now))

    last : (x : Bool) → is_confirmed_by c r now ≡ x → (p + 1 == c.replicas) ≡ true → SaysRound c r now (Place.Confirm round p) (if x then Note.Confirmed (bits (λ q. is_some (noted_grant r q now))) else Note.NotConfirmed (bits (λ q. is_some (noted_grant r q now))))
    last true confirmed ends = record {
      confirmed = λ u. (
        (λ same. (record { ends = ends; named = sym (same_confirmed named u same) }, is_majority c r now confirmed)),
        (λ row. ap Note.Confirmed (sym row.0.named)),
      );
      not_confirmed = λ u. ((λ same. absurd (differs_by_test is_not_confirmed (Note.Confirmed named) (Note.NotConfirmed u) refl refl same)), (λ row. absurd (row.1 (is_majority c r now confirmed))));
    }
    last false fails ends = record {
      confirmed = λ u. ((λ same. absurd (differs_by_test is_confirmed (Note.NotConfirmed named) (Note.Confirmed u) refl refl same)), (λ row. absurd (true≢false (sym (confirmed_is c r now row.1) ∙ fails))));
      not_confirmed = λ u. (
        (λ same. (record { ends = ends; named = sym (same_not_confirmed named u same) }, λ k. true≢false (sym (confirmed_is c r now k) ∙ fails))),
        (λ row. ap Note.NotConfirmed (sym row.0.named)),
      );
    }

    go : (x : Bool) → nat_lt (p + 1) c.replicas ≡ x → SaysRound c r now (Place.Confirm round p) (if x then Note.Working else note_of_round c r now)
    go true more = round_none c r now (Place.Confirm round p) Note.Working refl refl (ne_eqb (p + 1) c.replicas (λ same. absurd (let less = ltb-true (p + 1) c.replicas more in omega (arith, less, same))))
    go false ends = last (is_confirmed_by c r now) refl (eq-eqb (p + 1) c.replicas (let high = ltb-false (p + 1) c.replicas ends in omega (arith, high, low)))
