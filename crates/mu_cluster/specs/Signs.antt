-- signs: what the own events of a replica show of how others and it itself get on.
use Rattle.std.specs.Prelude.{List, if◌then◌else◌, map, nat_lt, ℕ, ◌==◌}
use Rattle.mu_model.specs.declared.event.Answer.{Answer}
use Rattle.mu_model.specs.declared.event.Event.{Event}
use Rattle.mu_model.specs.declared.event.Verb.{Verb}
use Rattle.mu_rest.specs.declared.sign.Sign.{Sign}

-- the sign of a step: a count of beats or a head that was found, of one of seven replicas; a word of
-- a row that was written or read, a FUO or the own head raised; a fence, a minimum or a slot
-- changed; the end of a cycle, in which the asks of replica 0 are read once
abbrev pub sign_of : Verb → Answer → Sign
sign_of (Verb.ReadBeat q) (Answer.Number x) = if nat_lt q 7 then Sign.Beats q x else Sign.Nothing
sign_of (Verb.Head q) (Answer.Number x) = if nat_lt q 7 then Sign.Head q x else Sign.Nothing
sign_of (Verb.WriteRow j k x) answer = Sign.Work
sign_of (Verb.ReadRow v k) answer = Sign.Work
sign_of (Verb.RaiseFuo p u) answer = Sign.Work
sign_of (Verb.RaiseHead h) answer = Sign.Work
sign_of (Verb.Enter p t) Answer.Entered = Sign.Change
sign_of (Verb.PutMin p n) Answer.Done = Sign.Change
sign_of (Verb.PutSlot p i n v) Answer.Done = Sign.Change
sign_of Verb.Close answer = Sign.Change
sign_of Verb.Drain answer = Sign.Change
sign_of (Verb.Grant w) answer = Sign.Change
sign_of (Verb.ReadAsk q) answer = if q == 0 then Sign.CycleEnd else Sign.Nothing
sign_of _ _ = Sign.Nothing

-- the signs of these events
abbrev pub signs_of : List Event → List Sign
signs_of mine = map (λ (e : Event). sign_of e.verb e.answer) mine
