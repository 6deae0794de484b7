-- takers: the regions that took a value under a number, and what a landed put shows to be chosen
-- (only for private contracts of `mu_law`).
use Rattle.std.specs.Prelude.{Bool, List, None, Some, if◌then◌else◌, nat_le, ℕ, ◌&&◌, ◌==◌}
use Rattle.std.specs.declared.option.Option.{Option}
use Rattle.mu_model.specs.declared.config.Config.{Config}
use Rattle.mu_model.specs.declared.event.Answer.{Answer}
use Rattle.mu_model.specs.declared.event.Event.{Event}
use Rattle.mu_model.specs.declared.event.Verb.{Verb}
use Rattle.mu_model.specs.Chosen.{is_accepted_at}
use Rattle.mu_model.specs.Contents.{is_mark}
use Rattle.mu_model.specs.Histories.{count_below, has}
use Rattle.mu_model.specs.Leaderships.{majority_of}

-- how many regions below n took v at i under the number b
abbrev pub takers : ℕ → List Event → ℕ → ℕ → ℕ → ℕ
takers n past i b v = count_below n (λ p. has (λ e. is_accepted_at p i b v e.verb e.answer) past)

-- a majority of the regions took v at i under the number b
abbrev pub is_chosen_by : Config → List Event → ℕ → ℕ → ℕ → Bool
is_chosen_by c past i b v = nat_le (majority_of c.replicas) (takers c.replicas past i b v)

-- the value of the put, if it landed at i and a majority took it
abbrev pub choice_at : Config → List Event → ℕ → Verb → Answer → Option ℕ
choice_at c past i (Verb.PutSlot p j b v) Answer.Done =
    if (j == i) && is_chosen_by c past j b v then Some v else None
choice_at c past i _ _ = None

-- the position of the put, if it landed, its value is a mark of q and a majority took it
abbrev pub choice_of_mark : Config → List Event → ℕ → Verb → Answer → Option ℕ
choice_of_mark c past q (Verb.PutSlot p j b v) Answer.Done =
    if is_mark c q v && is_chosen_by c past j b v then Some j else None
choice_of_mark c past q _ _ = None
