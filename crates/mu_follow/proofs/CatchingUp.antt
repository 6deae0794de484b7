-- What a replica reads next to catch up is allowed.
use Rattle.std.proofs.Common.{◌≡◌, ℕ, ◌<◌, Bool, true, false, List, refl, arith, length, None, Some}
use Rattle.std.specs.Prelude.{IfSome, if◌then◌else◌, nat_lt}
use Rattle.std.specs.declared.option.Option.{Option}
use Rattle.std.specs.List.{slice_get}
use Rattle.std.proofs.lemmas.Bool.{ltb-true}
use Rattle.mu_model.specs.declared.config.Config.{Config}
use Rattle.mu_model.specs.declared.event.Event.{Event}
use Rattle.mu_model.specs.declared.event.Verb.{Verb}
use Rattle.mu_model.specs.Allowed.{Allowed}
use Rattle.mu_model.specs.Contents.{IsConfig}
use Rattle.mu_model.specs.Knowledge.{applied, known}
use Rattle.mu_model.specs.Parts.{IsPossible}
use Rattle.mu_follow.specs.CatchingUp.{catch_up_due, entry_due, lacked_word_due, lacked_word_of, or_else, words_had}
use Rattle.mu_follow.specs.Due.{IsReplay, first_word_of, next_due, row_under_way}
use Rattle.mu_follow.proofs.Due.{replay_allowed, row_there}

-- r may make it, and it is a verb of the replayer
abbrev IsMet : Config → ℕ → List Event → Option Verb → Type 0
IsMet c r mine due = IfSome due (λ verb. Allowed c r mine verb × IsReplay false verb)

either_met : (c : Config) (r : ℕ) (mine : List Event) (a b : Option Verb) → IsMet c r mine a → IsMet c r mine b → IsMet c r mine (or_else a b)
either_met c r mine None b one other = other
either_met c r mine (Some verb) b one other = one

word_met : (c : Config) (r : ℕ) (mine : List Event) (row : Option ℕ) → row_under_way mine ≡ row → IsPossible c r mine → r < c.replicas → length mine < c.budget → IsMet c r mine (lacked_word_of r mine row)
word_met c r mine None is possible inside short = tt
word_met c r mine (Some v) is possible inside short = go (nat_lt (words_had r mine v) 12) refl
  where
    go : (t : Bool) → nat_lt (words_had r mine v) 12 ≡ t → IsMet c r mine (if t then Some (Verb.ReadRow v (words_had r mine v)) else None)
    go true low = let there = row_there c r mine v possible is in (record { budget = short; replica = inside; may = (there.0, (there.1, (ltb-true (words_had r mine v) 12 low, tt))) }, refl)
    go false high = tt

pub catch_up_allowed : (c : Config) (r : ℕ) (mine : List Event) → IsConfig c → IsPossible c r mine → r < c.replicas → length mine < c.budget → IfSome (catch_up_due c r mine) (λ verb. Allowed c r mine verb × IsReplay false verb)
catch_up_allowed c r mine good possible inside short =
    either_met c r mine (lacked_word_due r mine) (entry_due c r mine) (word_met c r mine (row_under_way mine) refl possible inside short)
    (either_met c r mine (first_word_of c r mine (slice_get (known c r mine) (length (applied c r mine)))) (next_due c r mine)
    (replay_allowed c r (length (applied c r mine)) 3 mine false good possible inside short (omega arith))
    (replay_allowed c r (length (applied c r mine)) 2 mine false good possible inside short (omega arith)))
