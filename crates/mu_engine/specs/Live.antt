-- live: an engine as contracts see it, and what each call makes of it.
use Rattle.std.specs.Prelude.{Bool, List, None, Some, [], false, not, replicate, suc, true, zero, ℕ, ◌&&◌, ◌++◌, ◌+◌, ◌-◌, ◌==◌, ◌∷◌}
use Rattle.std.specs.declared.option.Option.{Option}
use Rattle.std.specs.List.{slice_get}
use Rattle.kv_store.specs.Commands.{Request}
use Rattle.kv_store.specs.declared.command.Op.{Op}
use Rattle.mu_input.specs.declared.job.Job.{Job}
use Rattle.mu_model.specs.declared.config.Row.{Row}
use Rattle.mu_model.specs.declared.event.Event.{Event}
use Rattle.mu_model.specs.Contents.{row_count, rows_before}
use Rattle.mu_model.specs.Growing.{with_more}
use Rattle.mu_rows.specs.Rows.{spelled}
use Rattle.mu_engine.specs.declared.hold.Hold.{Hold}
use Rattle.mu_engine.specs.declared.shape.Shape.{Shape}
use Rattle.mu_engine.specs.Shapes.{first_job}

-- the commands that were submitted so far, as a job; how many more may be; the events so far; and
-- what holds each replica
pub record Live : Type 0 where
  pub job : Job
  pub room : ℕ
  pub events : List Event
  pub holds : List Hold

-- nothing holds a replica
abbrev pub free : Hold
free = record { stopped = false; rounds = 0 }

-- an engine before any command and any event
abbrev pub first_live : Shape → Live
first_live shape = record {
  job = first_job shape;
  room = shape.room;
  events = [];
  holds = replicate shape.replicas free;
}

-- nothing keeps the replica from its turn
abbrev pub is_free : Hold → Bool
is_free hold = not hold.stopped && (hold.rounds == 0)

-- the replica at this place takes its turn in the next round
abbrev pub is_free_at : Option Hold → Bool
is_free_at None = false
is_free_at (Some hold) = is_free hold

abbrev pub takes_turn : List Hold → ℕ → Bool
takes_turn holds r = is_free_at (slice_get holds r)

-- what holds it after one more round
abbrev pub after_round : Hold → Hold
after_round hold = record { stopped = hold.stopped; rounds = hold.rounds - 1 }

-- the holds with what f makes of the one at this place
abbrev pub changed_at : (Hold → Hold) → List Hold → ℕ → List Hold
changed_at f [] r = []
changed_at f (hold ∷ holds) zero = f hold ∷ holds
changed_at f (hold ∷ holds) (suc r) = hold ∷ changed_at f holds r

-- what holds a replica that is stopped
abbrev pub stopped : Hold → Hold
stopped hold = record { stopped = true; rounds = hold.rounds }

-- what holds one that takes no turn in this many rounds
abbrev pub paused : ℕ → Hold → Hold
paused rounds hold = record { stopped = hold.stopped; rounds = rounds }

-- what holds one that is held so, whatever held it before
abbrev pub held : Hold → Hold → Hold
held hold before = hold

-- the row of a command, which is a batch of its own
abbrev pub row_of : Request → Row
row_of command = record { words = spelled command 0 }

-- the job with one command more
abbrev pub with_command : Job → Request → Job
with_command job command = record {
  config = with_more job.config (row_of command ∷ []);
  commands = job.commands ++ command ∷ [];
  script = job.script;
}

-- the next command of a client
abbrev pub next_command : Job → ℕ → Op → Request
next_command job client op = record {
  client = client;
  number = rows_before job.config client (row_count job.config) + 1;
  op = op;
}

-- an engine that took the next command of a client
abbrev pub submitted : Live → ℕ → Op → Live
submitted live client op = record live {
  job = with_command live.job (next_command live.job client op);
  room = live.room - 1;
}
