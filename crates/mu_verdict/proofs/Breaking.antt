-- What breaks the first events of a list breaks the list.
use Rattle.std.proofs.Common.{◌≡◌, ℕ, List, ◌++◌, drop, subst, sym, take, arith}
use Rattle.std.proofs.lemmas.List.{take-append-drop, take-append-le}
use Rattle.std.proofs.lemmas.Option.{slice_get_within}
use Rattle.mu_model.proofs.Lists.{get_front}
use Rattle.mu_model.specs.Histories.{history}
use Rattle.mu_model.specs.Legal.{IsLegal}
use Rattle.mu_model.specs.declared.config.Config.{Config}
use Rattle.mu_model.specs.declared.event.Event.{Event}
use Rattle.mu_outcome.specs.Breaks.{IsBroken, IsFault}
use Rattle.mu_outcome.specs.declared.fault.Broken.{Broken}

-- whatever comes behind them
pub broken_before : (c : Config) (past more : List Event) (found : Broken) → IsBroken c past found → IsBroken c (past ++ more) found
broken_before c past more found broken =
    let within = slice_get_within past found.index found.event broken.there in
    let front : take found.index (past ++ more) ≡ take found.index past = take-append-le found.index past more (omega (arith, within)) in
    record {
      there = get_front past more found.index found.event broken.there;
      before = subst (λ l. IsLegal c l) (sym front) broken.before;
      fault = subst (λ l. IsFault c (history l) found.event found.fault) (sym front) broken.fault;
    }

pub broken_among : (c : Config) (n : ℕ) (events : List Event) (found : Broken) → IsBroken c (take n events) found → IsBroken c events found
broken_among c n events found broken =
    subst (λ l. IsBroken c l found) (take-append-drop n events) (broken_before c (take n events) (drop n events) found broken)
