-- What the words hold after a legal history has room in their fields.
use Rattle.std.proofs.Common.{ℕ, ◌<◌, List, arith, length}
use Rattle.std.proofs.lemmas.Option.{slice_get_within}
use Rattle.mu_model.specs.declared.config.Config.{Config}
use Rattle.mu_model.specs.declared.event.Event.{Event}
use Rattle.mu_model.specs.declared.event.Target.{Target}
use Rattle.mu_model.specs.Legal.{IsLegalHistory}
use Rattle.mu_model.specs.Regions.{region_log}
use Rattle.mu_words.specs.Standing.{stamp}
use Rattle.mu_words.specs.Stands.{FieldsAlwaysFit, FieldsFit}
use Rattle.mu_words.proofs.Entries.{entry_fits, lap_fits, log_fits}
use Rattle.mu_words.proofs.Fences.{fitting}
use Rattle.mu_words.proofs.Limits.{Limits, config_is_limited}
use Rattle.mu_words.proofs.Ranges.{grant_fits, min_fits, stamps_within}
use Rattle.mu_model.proofs.Budgets.{part_within_budget}

stamps_fit : (c : Config) (past : List Event) → Limits c → IsLegalHistory c past → (p : ℕ) (t : Target) → stamp c p t past < 131072
stamps_fit c past l legal p t =
    let drained = stamps_within c p t past in
    let short = part_within_budget c p past legal in
    let most = l.budget in
    omega (arith, drained, short, most)

fields : (c : Config) (past : List Event) → Limits c → IsLegalHistory c past → FieldsFit c past
fields c past l legal = record {
  fences = λ p. (let fits = fitting c p past l legal in record { grant_fits = grant_fits c p past l legal; owner_fits = fits.by_owner; target_fits = fits.with_target });
  stamps = stamps_fit c past l legal;
  minima = λ p. min_fits c p past l legal;
  entries = λ p i entry found.
      (let fits = entry_fits c p past l legal i entry found in
      let within : i < length (region_log p past) = slice_get_within (region_log p past) i entry found in
      let most = (log_fits c p past l legal).most in
      (lap_fits c i l (omega (arith, within, most)), fits.number, fits.value));
}

pub fields_always_fit : FieldsAlwaysFit
fields_always_fit c past good legal = fields c past (config_is_limited c good) legal
