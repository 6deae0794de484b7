-- What a replica keeps that never asks again it keeps also as one that may.
use Rattle.std.proofs.Common.{◌≡◌, ◌||◌, ℕ, Bool, true, false, List, refl}
use Rattle.std.proofs.lemmas.Bool.{or_left}
use Rattle.mu_model.specs.declared.config.Config.{Config}
use Rattle.mu_model.specs.declared.event.Event.{Event}
use Rattle.mu_model.specs.Again.{asks_again}
use Rattle.mu_model.specs.Diligence.{AsksWithCauseBy, may_ask_anew, may_begin}
use Rattle.mu_pace.specs.Collecting.{LeaderKeepsBy}

begins_wider : (again : Bool) (c : Config) (r : ℕ) (past : List Event) → may_begin again c r past ≡ true → may_begin true c r past ≡ true
begins_wider false c r past may = or_left (may_ask_anew c r past) (asks_again c r past) may
begins_wider true c r past may = may

pub causes_wider : (again : Bool) (c : Config) (r : ℕ) (past : List Event) → AsksWithCauseBy again c r past → AsksWithCauseBy true c r past
causes_wider again c r past held = record { named = held.named; anew = λ e older s asks. begins_wider again c r older (held.anew e older s asks) }

pub keeps_wider : (again : Bool) (c : Config) (r : ℕ) (past : List Event) (e : Event) → LeaderKeepsBy again c r past e → LeaderKeepsBy true c r past e
keeps_wider again c r past e kept = record {
  asks = kept.asks;
  cause = record { named = kept.cause.named; anew = λ asks. begins_wider again c r past (kept.cause.anew asks) };
  confirmation = kept.confirmation;
  places = kept.places;
  evidence = kept.evidence;
  raises = kept.raises;
  joins = kept.joins;
}

-- and as long as no region has gone astray, one that may ask again has no more causes
pub unless_again : (c : Config) (r : ℕ) (past : List Event) → asks_again c r past ≡ false → may_begin true c r past ≡ true → may_ask_anew c r past ≡ true
unless_again c r past none may = first (may_ask_anew c r past) (asks_again c r past) none may
  where
    first : (t u : Bool) → u ≡ false → (t || u) ≡ true → t ≡ true
    first true u none may = refl
    first false true none may = absurd (let k = none in cc)
    first false false none may = may
