-- The commands before this one were applied.
use Rattle.std.proofs.Common.{◌≡◌, ◌+◌, ◌++◌, List, take}
use Rattle.kv_store.specs.Commands.{Request}
use Rattle.match_book.specs.Ledgers.{HaveDifferentIds}
use Rattle.match_book.specs.Stands.{StandsFor}
use Rattle.match_book.proofs.book.Book.apply_all.Given as goal

abbrev pub invariant-loop-command : goal.invariant-loop-command
invariant-loop-command l = record {
  room : l.self.room + l.command-index ≡ l.initial.self.room;
  stands : (before : List Request) → HaveDifferentIds (before ++ l.commands) → StandsFor before l.initial.self → StandsFor (before ++ take l.command-index l.commands) l.self;
}
