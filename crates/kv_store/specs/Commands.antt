-- request, key of an operation, short texts: the commands of clients, the key that an operation
-- names, and which texts have to be short.
use Rattle.std.specs.Prelude.{ℕ, List, ◌≤◌, length, ⊤}
use Rattle.kv_store.specs.declared.TheConstants.{LAST_CLIENT, LAST_NUMBER, CAS_TEXT_BYTES}
use Rattle.kv_store.specs.declared.command.Op.{Op}
use Rattle.kv_store.specs.declared.command.Arguments.{Arguments}
use Rattle.kv_store.specs.Kinds.{parts_of}

-- what a client asks for: the client, the number of the command among those of this client, and the
-- operation
pub record Request : Type 0 where
  pub client : ℕ
  pub number : ℕ
  pub op : Op

-- the key that an operation is of
abbrev pub key_of : Op → List ℕ
key_of op = (parts_of op).key

-- of two texts neither is longer than half the place of a text, so that both stand side by side in
-- it; a text that is alone may fill it
abbrev pub AreShort : Arguments → Type 0
AreShort (Arguments.Texts first second) =
    (length first ≤ CAS_TEXT_BYTES) × (length second ≤ CAS_TEXT_BYTES)
AreShort _ = ⊤

-- the texts of the operation are short, if it has two
abbrev pub HasShortTexts : Op → Type 0
HasShortTexts op = AreShort (parts_of op).arguments

-- a client that there may be, a number that a command may have, and an operation with short texts
pub record IsAllowed (client number : ℕ) (op : Op) : Type 0 where
  pub client_known : client ≤ LAST_CLIENT
  pub numbered : 1 ≤ number
  pub number_fits : number ≤ LAST_NUMBER
  pub short_texts : HasShortTexts op
