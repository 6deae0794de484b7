-- sight, kept word, expected word: a replica's events, each with the word that its load found; the
-- word as the replica saw or put it last, and at its last `Enter`; the word that its next exchange
-- expects.
use Rattle.std.specs.Prelude.{List, None, Some, [], false, if◌then◌else◌, ℕ, ◌%◌, ◌&&◌, ◌==◌, ◌∷◌}
use Rattle.std.specs.declared.option.Option.{Option}
use Rattle.mu_model.specs.declared.config.Config.{Config}
use Rattle.mu_model.specs.declared.event.Answer.{Answer}
use Rattle.mu_model.specs.declared.event.Event.{Event}
use Rattle.mu_model.specs.declared.event.Target.{Target}
use Rattle.mu_model.specs.declared.event.Verb.{Verb}
use Rattle.mu_model.specs.Histories.{newest, part}
use Rattle.mu_model.specs.Leaderships.{noted_grant}
use Rattle.mu_model.specs.Regions.{or_no_target}
use Rattle.mu_words.specs.declared.layout.Name.{Name}
use Rattle.mu_words.specs.Standing.{close_target, is_same_target, standing_word}
use Rattle.mu_words.specs.Verbs.{is_load, name_at, with_content}
use Rattle.mu_words.specs.Words.{fence_bits}

-- the word on which r makes a step after its own events
abbrev pub name_of : Config → ℕ → List Event → Verb → Name
name_of c r mine v = name_at c.ring r (close_target r mine) v

-- the word w, if the step is a load that finds it, else 0
abbrev pub loaded_by : Verb → ℕ → ℕ
loaded_by v w = if is_load v then w else 0

-- the word that the step of r finds after the history, if it is a load, else 0
abbrev pub found_word : Config → ℕ → List Event → Verb → ℕ
found_word c r past v = loaded_by v (standing_word c past (name_of c r (part r past) v))

-- the replica's events, each with the word that its load found
abbrev pub sights : Config → ℕ → List Event → List (Event × ℕ)
sights c r [] = []
sights c r (e ∷ past) =
    if e.by == r then ((e, found_word c r past e.verb) ∷ sights c r past) else sights c r past

-- after one more step: the word that t names at p as r saw or put it last, and as that was at r's
-- last `Enter` at p
abbrev pub kept_after : Config → ℕ → Target → Verb → Answer → ℕ → ℕ × ℕ → ℕ × ℕ
kept_after c p t (Verb.Min q) a w k =
    if is_same_target t Target.Min && (q == p) then (w, k.1) else k
kept_after c p t (Verb.Look q i) a w k =
    if is_same_target t (Target.Place (i % c.ring)) && (q == p) then (w, k.1) else k
kept_after c p t (Verb.PutMin q b) Answer.Done w k =
    if is_same_target t Target.Min && (q == p) then (with_content k.1 b, k.1) else k
kept_after c p t (Verb.Enter q u) a w k = if q == p then (k.0, k.0) else k
kept_after c p t _ a w k = k

-- the word that t names at p as r saw it last (a minimum also as r put it last), and as that was at
-- r's last `Enter` at p
abbrev pub kept : Config → ℕ → Target → List (Event × ℕ) → ℕ × ℕ
kept c p t [] = (0, 0)
kept c p t (x ∷ seen) = kept_after c p t x.0.verb x.0.answer x.1 (kept c p t seen)

-- after one more step: the word that the last `LookTarget` found
abbrev pub loaded_after : Verb → ℕ → ℕ → ℕ
loaded_after Verb.LookTarget w k = w
loaded_after _ w k = k

-- the word that the last `LookTarget` found
abbrev pub loaded : List (Event × ℕ) → ℕ
loaded [] = 0
loaded (x ∷ seen) = loaded_after x.0.verb x.1 (loaded seen)

-- the target of the fence of p as the step of r saw or wrote it
abbrev pub target_told : ℕ → ℕ → ℕ → Verb → Answer → Option Target
target_told r p by (Verb.Fence q) (Answer.Seen f) =
    if (by == r) && (q == p) then Some f.target else None
target_told r p by (Verb.Enter q t) Answer.Entered = if (by == r) && (q == p) then Some t else None
target_told r p by _ _ = None

-- the target of the fence of p as r saw or wrote it last
abbrev pub known_target : ℕ → ℕ → List Event → Target
known_target r p mine = or_no_target (newest (λ e. target_told r p e.by e.verb e.answer) mine)

-- the word of an open fence of r with the grant and the target; 0, which never stands, if no grant
-- is noted
abbrev pub open_word : ℕ → Target → Option ℕ → ℕ
open_word r t None = 0
open_word r t (Some g) = fence_bits g false (Some r) t

-- the word that the next step of r expects, if it is an exchange, else 0
abbrev pub expected : Config → ℕ → List Event → List (Event × ℕ) → Verb → ℕ
expected c r mine seen (Verb.Enter p t) = open_word r (known_target r p mine) (noted_grant r p mine)
expected c r mine seen (Verb.PutMin p b) = (kept c p Target.Min seen).1
expected c r mine seen (Verb.PutSlot p i b v) = (kept c p (Target.Place (i % c.ring)) seen).1
expected c r mine seen Verb.Drain = loaded seen
expected c r mine seen _ = 0
