-- known fits: there are no more positions that a replica knows than rows and places kept free.
use Rattle.std.specs.Prelude.{List, length, ℕ, ◌+◌, ◌≤◌}
use Rattle.mu_model.specs.declared.config.Config.{Config}
use Rattle.mu_model.specs.declared.event.Event.{Event}
use Rattle.mu_model.specs.Contents.{IsConfig, row_count}
use Rattle.mu_model.specs.Knowledge.{known}
use Rattle.mu_model.specs.Parts.{IsPossible}
use Rattle.mu_model.specs.Room.{reserve}

-- what a replica knows are at most as many entries as there are rows and places kept free
abbrev pub KnownFits : Type 0
KnownFits =
    (c : Config) (r : ℕ) (mine : List Event) → IsConfig c → IsPossible c r mine
    → length (known c r mine) ≤ row_count c + reserve c
