-- standing word, stamp, content: the word under a name after a history; how many drains took it,
-- and its fields below that.
use Rattle.std.specs.Prelude.{Bool, List, None, Some, [], false, if◌then◌else◌, length, not, suc, true, zero, ℕ, ◌%◌, ◌&&◌, ◌*◌, ◌+◌, ◌/◌, ◌==◌, ◌∷◌}
use Rattle.std.specs.declared.option.Option.{Option}
use Rattle.std.specs.List.{slice_get}
use Rattle.mu_model.specs.declared.config.Config.{Config}
use Rattle.mu_model.specs.declared.event.Answer.{Answer}
use Rattle.mu_model.specs.declared.event.Event.{Event}
use Rattle.mu_model.specs.declared.event.Fence.{Fence}
use Rattle.mu_model.specs.declared.event.Target.{Target}
use Rattle.mu_model.specs.declared.event.Verb.{Verb}
use Rattle.mu_model.specs.Histories.{newest, or_zero}
use Rattle.mu_model.specs.Regions.{asks, beats, fence, region_fuo, region_head, region_log, region_min, word_written}
use Rattle.mu_model.specs.Serving.{close_seen, is_target_look}
use Rattle.mu_words.specs.declared.layout.Name.{Name}
use Rattle.mu_words.specs.Words.{fence_bits}

-- the fields of a slot word below the stamp: the lap of position i, the number b and the value v
abbrev pub fields : ℕ → ℕ → ℕ → ℕ → ℕ
fields ring i b v = i / ring * 274877906944 + b * 32768 + v

-- the same of an entry, if there is one
abbrev pub entry_fields : ℕ → ℕ → Option (ℕ × ℕ) → ℕ
entry_fields ring i None = 0
entry_fields ring i (Some entry) = fields ring i entry.0 entry.1

-- what the place s shows of the entries below k: the last of them whose position is of this place
abbrev pub place_fields_below : ℕ → ℕ → List (ℕ × ℕ) → ℕ → ℕ
place_fields_below ring s log zero = 0
place_fields_below ring s log (suc k) =
    if k % ring == s then entry_fields ring k (slice_get log k) else place_fields_below ring s log k

-- what the place s shows of a log
abbrev pub place_fields : ℕ → ℕ → List (ℕ × ℕ) → ℕ
place_fields ring s log = place_fields_below ring s log (length log)

-- what the word that t names at p has below its stamp
abbrev pub content : Config → ℕ → Target → List Event → ℕ
content c p Target.None past = 0
content c p Target.Min past = region_min p past
content c p (Target.Place s) past = place_fields c.ring s (region_log p past)

-- the two targets name one word
abbrev pub is_same_target : Target → Target → Bool
is_same_target Target.Min Target.Min = true
is_same_target (Target.Place s) (Target.Place t) = s == t
is_same_target _ _ = false

-- what a put that lands leaves below the stamp of the word that t names at p, if it is of this word
abbrev pub leaves : Config → ℕ → Target → Verb → Answer → Option ℕ
leaves c p t (Verb.PutMin q b) Answer.Done =
    if (q == p) && is_same_target t Target.Min then Some b else None
leaves c p t (Verb.PutSlot q i b v) Answer.Done =
    if (q == p) && is_same_target t (Target.Place (i % c.ring)) then Some (fields c.ring i b v)
    else None
leaves c p t _ _ = None

-- something is left, and it is not x
abbrev pub is_unlike : Option ℕ → ℕ → Bool
is_unlike None x = false
is_unlike (Some y) x = not (y == x)

-- the target of the fence, if there is one
abbrev pub named_target : Option Fence → Target
named_target None = Target.None
named_target (Some f) = f.target

-- the target that the last answer of `Close` of p names
abbrev pub close_target : ℕ → List Event → Target
close_target p past = named_target (newest (λ e. close_seen p e.by e.verb e.answer) past)

-- the grant of the fence, if there is one, else 0
abbrev pub named_grant : Option Fence → ℕ
named_grant None = 0
named_grant (Some f) = f.grant

-- the grant that the last answer of `Close` of p names
abbrev pub close_grant : ℕ → List Event → ℕ
close_grant p past = named_grant (newest (λ e. close_seen p e.by e.verb e.answer) past)

-- since the last `LookTarget` of p, or ever if there is none, a put landed that changed the word
-- which the last `Close` names; one that leaves what stood there changes nothing
abbrev pub changed_since_look : Config → ℕ → List Event → Bool
changed_since_look c p [] = false
changed_since_look c p (e ∷ past) =
    if is_target_look p e.by e.verb
    then false
    else if is_unlike (leaves c p (close_target p past) e.verb e.answer)
    (content c p (close_target p past) past)
    then true
    else changed_since_look c p past

-- the step is a `Drain` of p for the word that t names, and its exchange took
abbrev pub drain_took : Config → ℕ → Target → List Event → ℕ → Verb → Bool
drain_took c p t past by Verb.Drain =
    (by == p) && (is_same_target t (close_target p past) && not (changed_since_look c p past))
drain_took c p t past by _ = false

-- the stamp of the word that t names at p: how many such drains there were
abbrev pub stamp : Config → ℕ → Target → List Event → ℕ
stamp c p t [] = 0
stamp c p t (e ∷ past) =
    if drain_took c p t past e.by e.verb then stamp c p t past + 1 else stamp c p t past

-- the word that t names at p
abbrev pub target_word : Config → ℕ → Target → List Event → ℕ
target_word c p t past = stamp c p t past * 140737488355328 + content c p t past

-- the word of a fence
abbrev pub fence_word : Fence → ℕ
fence_word f = fence_bits f.grant f.closing f.owner f.target

-- the word that stands under a name
abbrev pub standing_word : Config → List Event → Name → ℕ
standing_word c past (Name.Fence p) = fence_word (fence p past)
standing_word c past (Name.Min p) = target_word c p Target.Min past
standing_word c past (Name.Fuo p) = region_fuo p past
standing_word c past (Name.Head p) = region_head p past
standing_word c past (Name.Beat p) = beats p past
standing_word c past (Name.Ask p w) = asks w p past
standing_word c past (Name.Slot p s) = target_word c p (Target.Place s) past
standing_word c past (Name.Row r j k) = or_zero (newest (λ e. word_written r j k e.by e.verb) past)
