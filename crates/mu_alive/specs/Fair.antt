-- finds beats, keeps up, keeps pace: each read of the beats of a replica by others finds new ones, and
-- so they hold it alive in time; in any stretch of some events in which it takes so many steps each
-- other one takes some. What follows if the replica is no slower than the others, and if all keep
-- step.
use Rattle.std.specs.Prelude.{Bool, List, length, true, ℕ, ◌*◌, ◌++◌, ◌+◌, ◌<◌, ◌∷◌, ◌≡◌, ◌≢◌, ◌≤◌}
use Rattle.mu_model.specs.declared.config.Config.{Config}
use Rattle.mu_model.specs.declared.event.Event.{Event}
use Rattle.mu_model.specs.Diligence.{ReadsInTime}
use Rattle.mu_model.specs.Histories.{part}
use Rattle.mu_model.specs.Legal.{IsLegalHistory}
use Rattle.mu_model.specs.Steps.{is_beat_read}
use Rattle.mu_alive.specs.Settling.{HoldAlive}

-- in these events no two reads by another of these replicas of the beats of a have the same answer
abbrev pub FindsBeats : Config → (ℕ → Bool) → ℕ → List Event → Type 0
FindsBeats c live a events =
    (r : ℕ) (newer between older : List Event) (later read : Event) → r < c.replicas → a ≢ r
    → live r ≡ true → events ≡ newer ++ later ∷ (between ++ read ∷ older) → later.by ≡ r
    → read.by ≡ r → is_beat_read a later ≡ true → is_beat_read a read ≡ true
    → later.answer ≢ read.answer

-- in each stretch in which a takes ratio k + lag steps each of these replicas takes k
abbrev pub KeepsUp : Config → (ℕ → Bool) → ℕ → ℕ → ℕ → List Event → Type 0
KeepsUp c live ratio lag a events =
    (q k : ℕ) (newer window older : List Event) → q < c.replicas → live q ≡ true
    → events ≡ newer ++ (window ++ older) → ratio * k + lag ≤ length (part a window)
    → k ≤ length (part q window)

-- in each stretch each of these replicas takes at most one step more than a
abbrev pub KeepsPace : Config → (ℕ → Bool) → ℕ → List Event → Type 0
KeepsPace c live a events =
    (r : ℕ) (newer window older : List Event) → r < c.replicas → live r ≡ true
    → events ≡ newer ++ (window ++ older) → length (part r window) ≤ length (part a window) + 1

-- each of these replicas keeps pace with each
abbrev pub KeepsStep : Config → (ℕ → Bool) → List Event → Type 0
KeepsStep c live events =
    (a : ℕ) → a < c.replicas → live a ≡ true → KeepsPace c live a events

-- if the others find its beats at the heartbeat pace, they hold it alive in time, whatever the
-- scores were
abbrev pub HeldAliveInTime : Type 0
HeldAliveInTime =
    (c : Config) (live : ℕ → Bool) (a : ℕ) (newer older : List Event) → a < c.replicas
    → IsLegalHistory c (newer ++ older)
    → ((r : ℕ) → r < c.replicas → live r ≡ true → ReadsInTime c r (part r (newer ++ older)))
    → FindsBeats c live a newer → HoldAlive c live a newer older

-- if they keep step, they keep up at the ratio 1 with a lag of 1
abbrev pub EvenOnesKeepUp : Type 0
EvenOnesKeepUp =
    (c : Config) (live : ℕ → Bool) (a : ℕ) (events : List Event) → a < c.replicas → live a ≡ true
    → KeepsStep c live events → KeepsUp c live 1 1 a events

-- the beats of one that keeps pace are found, at the heartbeat pace
abbrev pub FastOnesAreFound : Type 0
FastOnesAreFound =
    (c : Config) (live : ℕ → Bool) (a : ℕ) (newer older : List Event) → a < c.replicas
    → live a ≡ true → IsLegalHistory c (newer ++ older)
    → ((r : ℕ) → r < c.replicas → live r ≡ true → ReadsInTime c r (part r (newer ++ older)))
    → KeepsPace c live a newer → FindsBeats c live a newer
