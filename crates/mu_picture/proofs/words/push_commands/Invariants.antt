-- The commands before this one are there.
use Rattle.std.proofs.Common.{◌≡◌, ◌++◌, drop}
use Rattle.mu_picture.specs.Words.{commands_words}
use Rattle.mu_picture.proofs.words.push_commands.Given as goal

abbrev pub invariant-loop-command : goal.invariant-loop-command
invariant-loop-command l =
    l.sheet ++ commands_words (drop l.command-index l.commands) ≡ l.initial.sheet ++ commands_words l.commands
