-- board, port, root: the words and the seats as contracts see them.
use Rattle.std.specs.Prelude.{List, Some, ℕ, ◌∷◌, ◌≡◌}
use Rattle.std.specs.declared.option.Option.{Option}
use Rattle.atomic_table.specs.Seated.{TableId}
use Rattle.mu_model.specs.declared.config.Config.{Config}
use Rattle.mu_model.specs.declared.event.Answer.{Answer}
use Rattle.mu_model.specs.declared.event.Event.{Event}
use Rattle.mu_model.specs.declared.event.Verb.{Verb}
use Rattle.shared_steps.specs.declared.rule.Entry.{Entry}
use Rattle.shared_steps.specs.Rule.{empty_entries}

-- which table the words are in, and the configuration that is its key
pub record Board : Type 0 where
  pub table : TableId
  pub key : Config

-- the seat of one replica: which table it is of, its configuration, its replica, and the part,
-- newest first
pub record Port : Type 0 where
  pub table : TableId
  pub config : Option Config
  pub id : ℕ
  pub part : List Event

-- the seat is of these words
pub record IsOf (b : Board) (p : Port) : Type 0 where
  pub table : p.table ≡ b.table
  pub config : p.config ≡ Some b.key

-- the seat after a step of the verb with this answer: the event is the newest of its part
abbrev pub after_step : Port → Verb → Answer → Port
after_step p v a = record p { part = (record { by = p.id; verb = v; answer = a }) ∷ p.part }

-- the first seat: which table it is of, its configuration, and the entries that it has
pub record Root : Type 0 where
  pub table : TableId
  pub config : Option Config
  pub entries : List Entry

-- the first seat before any other was cut off: it has an empty entry for each replica
abbrev pub opening_root : TableId → Config → Root
opening_root t c = record { table = t; config = Some c; entries = empty_entries c.replicas }

-- the first seat is of these words
pub record IsRootOf (b : Board) (s : Root) : Type 0 where
  pub table : s.table ≡ b.table
  pub config : s.config ≡ Some b.key
