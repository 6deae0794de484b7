-- beside: the reply that stands beside a number, in a list of numbers and one of replies.
use Rattle.std.specs.Prelude.{List, None, Some, if◌then◌else◌, ℕ, ◌==◌, ◌∷◌}
use Rattle.std.specs.declared.option.Option.{Option}
use Rattle.kv_store.specs.declared.store.Reply.{Reply}

-- the reply beside the first of these rows that is j
abbrev pub beside : ℕ → List ℕ → List Reply → Option Reply
beside j (row ∷ rows) (reply ∷ replies) =
    if row == j then Some reply else beside j rows replies
beside j _ _ = None
