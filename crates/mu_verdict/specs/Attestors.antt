-- stands for (attestor), stays or takes: the items are attested, and the states are those that they
-- lead to; an item was taken, or this is wrong with it.
use Rattle.std.specs.Prelude.{◌+◌, ◌≡◌, ◌≢◌, Bool, List, ◌∷◌, None, Some, false, length, true}
use Rattle.std.specs.declared.option.Option.{Option}
use Rattle.kv_store.specs.declared.store.Reply.{Reply}
use Rattle.mu_verdict.specs.declared.attestor.Attestor.{Attestor}
use Rattle.mu_clients.specs.Attested.{IsAttestedBack, IsFlaw, events_in, rows_got, rows_put}
use Rattle.mu_clients.specs.declared.items.Attested.{Attested}
use Rattle.mu_clients.specs.declared.items.Flaw.{Flaw}
use Rattle.mu_clients.specs.declared.items.Item.{Item}
use Rattle.mu_course.specs.Walks.{StandsForWalk}
use Rattle.mu_input.specs.declared.job.Job.{Job}

-- the items, with the newest first, are attested, and the states are those that they lead to
pub record StandsForAttestor (job : Job) (past : List Item) (attestor : Attestor) : Type 0 where
  pub attested : IsAttestedBack job past
  pub walk : StandsForWalk job.config (events_in past) attestor.walk
  pub got : attestor.got.items ≡ rows_got past
  pub put : attestor.put.items ≡ rows_put job.config (events_in past)
  pub events : attestor.events ≡ length (events_in past)

-- the item was taken, or this is wrong with it
abbrev pub StaysOrTakes : Job → List Item → Item → Attestor → Option Flaw → Type 0
StaysOrTakes job past item new None = StandsForAttestor job (item ∷ past) new
StaysOrTakes job past item new (Some flaw) = IsFlaw job past item flaw

-- what is wrong with a reply, if this is the right one, or there is none; and if its command was got
abbrev pub FlawOfReply : Option Reply → Reply → Bool → Option Flaw → Type 0
FlawOfReply right reply is_got None = (right ≡ Some reply) × (is_got ≡ true)
FlawOfReply right reply is_got (Some Flaw.NotApplied) = right ≡ None
FlawOfReply right reply is_got (Some (Flaw.OtherReply other)) =
    (right ≡ Some other) × (other ≢ reply)
FlawOfReply right reply is_got (Some Flaw.NeverGot) = (right ≡ Some reply) × (is_got ≡ false)
FlawOfReply right reply is_got (Some _) = ⊥

-- how many of these items there are of each kind
pub record CountsItems (past : List Item) (counts : Attested) : Type 0 where
  pub events : counts.events ≡ length (events_in past)
  pub gots : counts.gots ≡ length (rows_got past)
  pub all : counts.events + counts.gots + counts.tolds ≡ length past
