-- The marks of the last steps of journals.
use Rattle.std.proofs.Common.{◌≡◌, ◌≢◌, ◌<◌, ◌+◌, ◌==◌, ℕ, zero, suc, Bool, true, false, List, [], ◌∷◌, None, Some, length, refl, sym, ◌∙◌, ap, arith, subst, cond}
use Rattle.std.specs.Prelude.{◌&&◌, ◌||◌, nat_le, slice_index}
use Rattle.std.specs.declared.option.Option.{Option}
use Rattle.std.proofs.lemmas.Bool.{eq-eqb, ne_eqb}
use Rattle.mu_model.specs.declared.config.Config.{Config}
use Rattle.mu_model.specs.declared.event.Answer.{Answer}
use Rattle.mu_model.specs.declared.event.Event.{Event}
use Rattle.mu_model.specs.declared.event.Verb.{Verb}
use Rattle.mu_model.specs.declared.script.End.{End}
use Rattle.mu_model.specs.declared.script.Script.{Script}
use Rattle.mu_model.specs.Ends.{EndsBy, IsGoing, Obeys, head_known, is_finished, outrun, outrun_by, stops_at}
use Rattle.mu_model.specs.Histories.{earlier_or, part}
use Rattle.mu_model.specs.Knowledge.{known}
use Rattle.mu_model.specs.Regions.{fence_grant}
use Rattle.mu_model.proofs.Basics.{none_some, same_some}
use Rattle.mu_course.specs.Courses.{finishes}
use Rattle.mu_picture.specs.Deeds.{deed_of, drawn_if}
use Rattle.mu_picture.specs.Endings.{Shows, deed_in, halt_in}
use Rattle.mu_course.specs.Halts.{halt_after}
use Rattle.mu_picture.specs.Marks.{is_chief, kept, made_of, mark_of, resumed_by}
use Rattle.mu_picture.specs.Standings.{deed_after, halt_by}
use Rattle.mu_picture.specs.declared.deeds.Deed.{Deed}
use Rattle.mu_picture.specs.declared.standings.Resumed.{Resumed}
use Rattle.mu_course.specs.declared.halts.Halt.{Halt}
use Rattle.mu_model.proofs.Parts.{part_of_maker}

one_of : (x y : Bool) → (x || (y || true)) ≡ true
one_of true y = refl
one_of false true = refl
one_of false false = refl

-- a mark with what befalls its replica is kept, and tells that
halt_made : (brief : Bool) (step : ℕ) (e : Event) (resumed : Option Resumed) (deed : Option Deed) (halt : Halt) → halt_in (kept brief (made_of step e resumed deed (Some halt))) ≡ Some halt
halt_made false step e None None halt = refl
halt_made false step e None (Some deed) halt = refl
halt_made false step e (Some resumed) deed halt = refl
halt_made true step e None None halt = refl
halt_made true step e None (Some deed) halt = rw (one_of false (is_chief (Some deed))) refl
halt_made true step e (Some resumed) deed halt = refl

-- a mark with a place that is found used again is kept, and tells that
deed_made : (brief : Bool) (step : ℕ) (e : Event) (resumed : Option Resumed) (p i : ℕ) (halt : Option Halt) → deed_in (kept brief (made_of step e resumed (Some (Deed.Outrun p i)) halt)) ≡ Some (Deed.Outrun p i)
deed_made false step e None p i halt = refl
deed_made false step e (Some resumed) p i halt = refl
deed_made true step e None p i halt = refl
deed_made true step e (Some resumed) p i halt = refl

none_behind : {A : Type 0} (x : Option A) → earlier_or x None ≡ x
none_behind None = refl
none_behind (Some x) = refl

-- the heads that r knows, as an end lists them
abbrev heads_of : ℕ → List Event → List ℕ
heads_of r mine = head_known r mine 0 ∷ head_known r mine 1 ∷ head_known r mine 2 ∷ head_known r mine 3 ∷ head_known r mine 4 ∷ head_known r mine 5 ∷ head_known r mine 6 ∷ []

heads_are : (r : ℕ) (mine : List Event) (q : ℕ) → q < 7 → slice_index (heads_of r mine) q ≡ head_known r mine q
heads_are r mine zero low = refl
heads_are r mine (suc zero) low = refl
heads_are r mine (suc (suc zero)) low = refl
heads_are r mine (suc (suc (suc zero))) low = refl
heads_are r mine (suc (suc (suc (suc zero)))) low = refl
heads_are r mine (suc (suc (suc (suc (suc zero))))) low = refl
heads_are r mine (suc (suc (suc (suc (suc (suc zero)))))) low = refl
heads_are r mine (suc (suc (suc (suc (suc (suc (suc q))))))) low = absurd (omega (arith, low))

-- the journal has no end
abbrev NoEnd : Config → Script → ℕ → List Event → Type 0
NoEnd c script r mine = (end : End) → EndsBy c script r mine end → ⊥

is_none : {A : Type 0} (o : Option A) → ((x : A) → o ≡ Some x → ⊥) → o ≡ None
is_none None never = refl
is_none (Some x) never = absurd (never x refl)

is_false : (b : Bool) → (b ≡ true → ⊥) → b ≡ false
is_false true never = absurd (never refl)
is_false false never = refl

going : (c : Config) (script : Script) (r : ℕ) (mine : List Event) → NoEnd c script r mine → IsGoing c script r mine
going c script r mine none =
    let on : stops_at r (length mine) script.stops ≡ false = is_false (stops_at r (length mine) script.stops) (λ is. none End.Stopped is) in
    (on, λ is. none End.Budget (on, is))

not_outrun : (c : Config) (script : Script) (r : ℕ) (mine : List Event) → NoEnd c script r mine → outrun c r mine ≡ None
not_outrun c script r mine none = is_none (outrun c r mine) (λ x is. none (End.Outrun x.0 x.1) (going c script r mine none, is))

not_finished : (c : Config) (script : Script) (r : ℕ) (mine : List Event) → NoEnd c script r mine → is_finished c r mine ≡ false
not_finished c script r mine none =
    is_false (is_finished c r mine) (λ is. none (End.Finished (heads_of r mine)) (going c script r mine none, not_outrun c script r mine none, is, heads_are r mine))

not_empty : (e : Event) (l : List Event) → e ∷ l ≢ []
not_empty e l same = let none : suc (length l) ≡ 0 = ap length same in omega (arith, none)

-- the journal before the last step has none
none_before : (c : Config) (script : Script) (r : ℕ) (e : Event) (mine : List Event) (end : End) → Obeys c script r (e ∷ mine) end → NoEnd c script r mine
none_before c script r e mine end obeys other is = obeys.first (e ∷ []) mine other refl (not_empty e []) is

stop_shown : (c : Config) (script : Script) (r k : ℕ) (f : Bool) → stops_at r k script.stops ≡ true → halt_after c script r k f ≡ Some Halt.Stop
stop_shown c script r k f is = rw is refl

spent_shown : (c : Config) (script : Script) (r k : ℕ) (f : Bool) → stops_at r k script.stops ≡ false → k ≡ c.budget → halt_after c script r k f ≡ Some Halt.Spent
spent_shown c script r k f on is = rw (on, eq-eqb k c.budget is) refl

finish_shown : (c : Config) (script : Script) (r k : ℕ) (f : Bool) → stops_at r k script.stops ≡ false → k ≢ c.budget → f ≡ true → halt_after c script r k f ≡ Some Halt.Finish
finish_shown c script r k f on left is = rw (on, ne_eqb k c.budget left, is) refl

looked : (low : Bool) (a b p i : ℕ) → cond {A = Option (ℕ × ℕ)} low (Some (a, b)) None ≡ Some (p, i) → drawn_if low (Deed.Outrun a b) ≡ Some (Deed.Outrun p i)
looked true a b p i is = let same : (a, b) ≡ (p, i) = same_some (a, b) (p, i) is in ap (λ (q : ℕ × ℕ). Some (Deed.Outrun q.0 q.1)) same
looked false a b p i is = absurd (none_some (p, i) is)

own : (t low : Bool) (a b p i : ℕ) → cond {A = Option (ℕ × ℕ)} (t && low) (Some (a, b)) None ≡ Some (p, i) → drawn_if low (Deed.Outrun a b) ≡ Some (Deed.Outrun p i)
own true low a b p i is = looked low a b p i is
own false low a b p i is = absurd (none_some (p, i) is)

-- the look that finds a place used again
outrun_by_verb : (c : Config) (r : ℕ) (mine : List Event) (granted by : ℕ) (verb : Verb) (answer : Answer) (p i : ℕ) → by ≡ r → outrun_by r (length (known c r mine)) by verb answer ≡ Some (p, i)
    → deed_of c mine granted (record { by = by; verb = verb; answer = answer }) ≡ Some (Deed.Outrun p i)
outrun_by_verb c r mine granted by (Verb.Look a b) Answer.Past p i same is =
    subst (λ q. drawn_if (nat_le (length (known c q mine)) b) (Deed.Outrun a b) ≡ Some (Deed.Outrun p i)) (sym same) (own (by == r) (nat_le (length (known c r mine)) b) a b p i is)
outrun_by_verb c r mine granted by verb answer p i same is = absurd (none_some (p, i) is)

-- of a journal that obeys the script
shown : (c : Config) (script : Script) (brief : Bool) (past : List Event) (e : Event) (end : End) → Obeys c script e.by (e ∷ part e.by past) end → Shows (kept brief (mark_of c script past e)) end
shown c script brief past e end obeys = go end obeys.ends
  where
    mine : List Event
    mine = part e.by past

    none : NoEnd c script e.by mine
    none = none_before c script e.by e mine end obeys

    halted : (h : Halt) → halt_after c script e.by (length mine + 1) (finishes c e.by mine e) ≡ Some h → halt_in (kept brief (mark_of c script past e)) ≡ Some h
    halted h is =
        ap (λ o. halt_in (kept brief (made_of (length past) e (resumed_by c script past e) (deed_after c past e) o))) is
        ∙ halt_made brief (length past) e (resumed_by c script past e) (deed_after c past e) h

    one : suc (length mine) ≡ length mine + 1
    one = omega arith

    go : (other : End) → EndsBy c script e.by (e ∷ mine) other → Shows (kept brief (mark_of c script past e)) other
    go End.Stopped is = halted Halt.Stop (stop_shown c script e.by (length mine + 1) (finishes c e.by mine e) (subst (λ k. stops_at e.by k script.stops ≡ true) one is))
    go End.Budget is = halted Halt.Spent (spent_shown c script e.by (length mine + 1) (finishes c e.by mine e) (subst (λ k. stops_at e.by k script.stops ≡ false) one is.0) (sym one ∙ is.1))
    go (End.Outrun p i) is =
        let older = not_outrun c script e.by mine none in
        let here : outrun_by e.by (length (known c e.by mine)) e.by e.verb e.answer ≡ Some (p, i) =
        sym (none_behind (outrun_by e.by (length (known c e.by mine)) e.by e.verb e.answer)) ∙ (ap (λ o. earlier_or (outrun_by e.by (length (known c e.by mine)) e.by e.verb e.answer) o) (sym older) ∙ is.1) in
        ap (λ d. deed_in (kept brief (made_of (length past) e (resumed_by c script past e) d (halt_by c script past e))))
        (outrun_by_verb c e.by mine (fence_grant e.by past) e.by e.verb e.answer p i refl here)
        ∙ deed_made brief (length past) e (resumed_by c script past e) p i (halt_by c script past e)
    go (End.Finished heads) is =
        let done : finishes c e.by mine e ≡ true = rw (not_finished c script e.by mine none) is.2 in
        halted Halt.Finish (finish_shown c script e.by (length mine + 1) (finishes c e.by mine e) (subst (λ k. stops_at e.by k script.stops ≡ false) one is.0.0) (λ same. is.0.1 (one ∙ same)) done)

pub ends_drawn : (c : Config) (script : Script) (brief : Bool) (past : List Event) (e : Event) (end : End) → Obeys c script e.by (part e.by (e ∷ past)) end → Shows (kept brief (mark_of c script past e)) end
ends_drawn c script brief past e end obeys = shown c script brief past e end (subst (λ l. Obeys c script e.by l end) (part_of_maker e past) obeys)
