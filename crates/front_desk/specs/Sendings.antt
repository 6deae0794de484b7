-- sent: what the clients of passes have sent.
use Rattle.std.specs.Prelude.{ℕ, ◌+◌, ◌≡◌, List, [], ◌∷◌, Option}
use Rattle.kv_store.specs.Commands.{Request}
use Rattle.crossbeam_queue.specs.Passes.{Pass, view, IsPassOf}
use Rattle.crossbeam_queue.specs.declared.array_queue.Doing.{Doing}
use Rattle.crossbeam_queue.specs.declared.array_queue.Slotted.{Slotted}
use Rattle.front_desk.specs.Line.{sending_hand}
use Rattle.front_desk.specs.declared.line.Entry.{Entry}
use Rattle.front_desk.specs.declared.line.Hand.{Hand}
use Rattle.front_desk.specs.declared.sending.Pair.{Pair}

-- what the client of the first of these has sent
abbrev pub commands_at : List Entry → List Request
commands_at [] = []
commands_at (e ∷ es) = e.commands

-- what the client of a hand has sent
abbrev pub sent_by : Hand → List Request
sent_by v = commands_at v.entries

module _ {Q A : Type 0} where
  -- it is a pass of this line, and its client has sent these
  abbrev pub Sends :
      Slotted (Option Request) (Doing Request Hand) Q A → ℕ → List Request → Pass Request Hand
      → Type 0
  Sends line client commands pass = IsPassOf line pass × (view pass ≡ sending_hand client commands)

  -- the same of two clients that follow each other
  abbrev pub BothSend :
      Slotted (Option Request) (Doing Request Hand) Q A → ℕ → (ℕ → List Request) → Pair → Type 0
  BothSend line client commands pair =
      Sends line client (commands client) pair.low
      × Sends line (client + 1) (commands (client + 1)) pair.high
