-- How far positions go: there are no more than rows and places kept free.
use Rattle.std.proofs.Common.{ℕ, ◌+◌, ◌≤◌, List, length, arith, subst}
use Rattle.std.proofs.lemmas.Map.Steps.{length-le_from_distinct_below}
use Rattle.mu_model.specs.declared.config.Config.{Config}
use Rattle.mu_model.specs.declared.event.Event.{Event}
use Rattle.mu_model.specs.Contents.{IsConfig, row_count}
use Rattle.mu_model.specs.Histories.{part}
use Rattle.mu_model.specs.Knowledge.{known}
use Rattle.mu_model.specs.Legal.{IsLegalHistory}
use Rattle.mu_model.specs.Room.{reserve}
use Rattle.mu_agree.proofs.Fitting.{among_keys, distinct_keys, key, key_below, keys, keys_differ, keys_short}
use Rattle.mu_agree.proofs.Sessions.{AreChosen, known_are_chosen}
use Rattle.mu_pace.specs.Possible.{KnownFits}

-- what is chosen has places of its own
chosen_fit : (c : Config) (past : List Event) (xs : List ℕ) → IsConfig c → IsLegalHistory c past → AreChosen c xs past → length xs ≤ row_count c + reserve c
chosen_fit c past xs g h k =
    let most = length-le_from_distinct_below (keys (key c) xs) (row_count c + reserve c) (distinct_keys (key c) xs (λ i j v w a b l e. keys_differ c i j v w past g h (k i v a) (k j w b) l e))
    (λ q e. among_keys (key c) q (row_count c + reserve c) xs (λ i v a. key_below c i v past g h (k i v a)) e) in
    let same = keys_short (key c) xs in omega arith

all_fit : (c : Config) (r : ℕ) (past : List Event) → IsConfig c → IsLegalHistory c past → length (known c r (part r past)) ≤ row_count c + reserve c
all_fit c r past g h = chosen_fit c past (known c r (part r past)) g h (known_are_chosen c r past h)

pub known_fits : KnownFits
known_fits c r mine g p = subst (λ z. length (known c r z) ≤ row_count c + reserve c) p.is (all_fit c r p.past g p.legal)
