-- Tests that what is due fails, and what is written ahead.
use Rattle.std.proofs.Common.{◌≡◌, ℕ, ◌+◌, ◌-◌, ◌/◌, ◌%◌, ◌==◌, ◌&&◌, Bool, true, false, None, Some, List, get_or}
use Rattle.std.specs.Prelude.{if◌then◌else◌, nat_lt}
use Rattle.std.specs.declared.option.Option.{Option}
use Rattle.mu_model.specs.declared.config.Config.{Config}
use Rattle.mu_model.specs.declared.event.Event.{Event}
use Rattle.mu_model.specs.declared.event.Verb.{Verb}
use Rattle.mu_model.specs.Contents.{config_word, is_batch, rest_of}
use Rattle.mu_model.specs.Knowledge.{known}
use Rattle.mu_knowledge.specs.Offers.{first_in}
use Rattle.mu_follow.specs.CatchingUp.{or_else}
use Rattle.mu_lead.specs.declared.lead.Lead.{Lead}
use Rattle.mu_lead.specs.declared.place.Place.{Place}
use Rattle.mu_lead.specs.Ahead.{ahead_at, entry_before, word_after, word_from, word_of}
use Rattle.mu_lead.specs.Beside.{leads_at}
use Rattle.mu_lead.specs.Journal.{place_after, tables_at}
use Rattle.mu_node.specs.declared.zeal.Zeal.{Zeal}
use Rattle.mu_node.specs.Cycle.{other_at, read_at}
use Rattle.mu_node.specs.Due.{held_write_due, write_due, verb_or_beat}

-- what is due, or else a beat, fails a test
abbrev pub Fails : (Verb → Bool) → Option Verb → Type 0
Fails test due = test (verb_or_beat due) ≡ false

pub either : (test : Verb → Bool) (t : Bool) (a b : Option Verb) → Fails test a → Fails test b → Fails test (if t then a else b)
either test true a b left right = left
either test false a b left right = right

-- so do the beat and the reads before the places of the host
pub read_fails : (test : Verb → Bool) → test Verb.Beat ≡ false → ((q : ℕ) → test (Verb.ReadBeat q) ≡ false) → ((w : ℕ) → test (Verb.ReadAsk w) ≡ false) → (n r place : ℕ) → test (read_at n r place) ≡ false
read_fails test beat beats asks n r place = go (place == 0) (nat_lt place n)
  where
    go : (s t : Bool) → test (if s then Verb.Beat else if t then Verb.ReadBeat (other_at r place) else Verb.ReadAsk (place - n)) ≡ false
    go true t = beat
    go false true = beats (other_at r place)
    go false false = asks (place - n)

-- the word that is written ahead at a place fails a test that no beat and no write passes
word_fails : (test : Verb → Bool) → test Verb.Beat ≡ false → ((j k x : ℕ) → test (Verb.WriteRow j k x) ≡ false) → (c : Config) (r : ℕ) (values written : List ℕ) (place : Place) → Fails test (ahead_at c r values written place)
word_fails test beat write c r values written place = either test (leads_at place) (word_after c r written (entry_before values place)) None (after (entry_before values place)) beat
  where
    word : (o : Option ℕ) → Fails test (word_of c written o)
    word None = beat
    word (Some j) = write j (get_or written j 12) (config_word c j (get_or written j 12))

    after : (o : Option ℕ) → Fails test (word_after c r written o)
    after None = beat
    after (Some v) = either test (is_batch c v && (v / 4096 == r)) (word_from c written (v % 4096 + rest_of c (v % 4096) + 1)) None
        (word (first_in (λ j. nat_lt (get_or written j 12) 12) (v % 4096 + rest_of c (v % 4096) + 1) (v % 4096 + rest_of c (v % 4096) + 1 + rest_of c (v % 4096 + rest_of c (v % 4096) + 1) + 1))) beat

-- so does what a node writes ahead, by the journal and by what its leader holds
pub ahead_fails : (test : Verb → Bool) → test Verb.Beat ≡ false → ((j k x : ℕ) → test (Verb.WriteRow j k x) ≡ false) → (zeal : Zeal) (c : Config) (r : ℕ) (mine : List Event) → Fails test (write_due zeal c r mine)
ahead_fails test beat write Zeal.Plain c r mine = beat
ahead_fails test beat write Zeal.Eager c r mine = word_fails test beat write c r (known c r mine) (tables_at c r mine).written (place_after c r mine)

pub led_ahead_fails : (test : Verb → Bool) → test Verb.Beat ≡ false → ((j k x : ℕ) → test (Verb.WriteRow j k x) ≡ false) → (zeal : Zeal) (c : Config) (r : ℕ) (mine : List Event) (lead : Lead) → Fails test (held_write_due zeal c r mine lead)
led_ahead_fails test beat write Zeal.Plain c r mine lead = beat
led_ahead_fails test beat write Zeal.Eager c r mine lead = word_fails test beat write lead.config lead.id (known c r mine) lead.written.items lead.place

-- what is due or else something other
pub else_fails : (test : Verb → Bool) (due other : Option Verb) → Fails test due → Fails test other → Fails test (or_else due other)
else_fails test None other one two = two
else_fails test (Some verb) other one two = one
