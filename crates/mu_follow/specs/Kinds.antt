-- kinds: what the verb of an event means for a replayer, and which of its states it can change.
use Rattle.std.specs.Prelude.{Bool, List, None, Some, false, if◌then◌else◌, true, ℕ, ◌&&◌, ◌==◌}
use Rattle.std.specs.declared.option.Option.{Option}
use Rattle.std.specs.List.{slice_get}
use Rattle.mu_model.specs.declared.event.Answer.{Answer}
use Rattle.mu_model.specs.declared.event.Verb.{Verb}
use Rattle.mu_model.specs.Knowledge.{is_value}
use Rattle.mu_follow.specs.declared.kind.Kind.{Kind}

-- the kind of the verb
abbrev pub kind_of : Verb → Kind
kind_of (Verb.Look p i) = Kind.Look
kind_of (Verb.PutSlot p i b v) = Kind.Put
kind_of (Verb.Fuo p) = Kind.Fuo
kind_of (Verb.RaiseFuo p u) = Kind.Fuo
kind_of (Verb.WriteRow j k x) = Kind.Row
kind_of (Verb.ReadRow v k) = Kind.Row
kind_of (Verb.Head q) = Kind.Head
kind_of (Verb.RaiseHead h) = Kind.Head
kind_of _ = Kind.Other

-- looks and puts may teach
abbrev pub teaches : Kind → Bool
teaches Kind.Look = true
teaches Kind.Put = true
teaches _ = false

-- looks, puts and FUOs may show what is filled, and what may be learnt
abbrev pub shows : Kind → Bool
shows Kind.Look = true
shows Kind.Put = true
shows Kind.Fuo = true
shows _ = false

-- looks, puts and words of rows may change what is applied
abbrev pub applies : Kind → Bool
applies Kind.Look = true
applies Kind.Put = true
applies Kind.Row = true
applies _ = false

-- the kind is this one
abbrev pub is_look : Kind → Bool
is_look Kind.Look = true
is_look _ = false

abbrev pub is_put : Kind → Bool
is_put Kind.Put = true
is_put _ = false

abbrev pub is_fuo : Kind → Bool
is_fuo Kind.Fuo = true
is_fuo _ = false

abbrev pub is_row : Kind → Bool
is_row Kind.Row = true
is_row _ = false

abbrev pub is_head : Kind → Bool
is_head Kind.Head = true
is_head _ = false

-- the position of its own log that a put of a known value fills
abbrev pub put_spot : ℕ → List ℕ → Verb → Answer → Option ℕ
put_spot r values (Verb.PutSlot q i b v) Answer.Done =
    if (q == r) && is_value (slice_get values i) v then Some i else None
put_spot r values verb answer = None
