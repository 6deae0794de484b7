-- A region that joined after the first put at a position.
use Rattle.std.proofs.Common.{◌≡◌, ℕ, Bool, true, false, cond, ◌&&◌, ◌==◌, List, [], ◌∷◌, refl, sym, ◌∙◌, Some, None, true≢false}
use Rattle.std.specs.declared.option.Option.{Option}
use Rattle.std.specs.Prelude.{is_some, is_none, if◌then◌else◌}
use Rattle.mu_model.specs.declared.event.Event.{Event}
use Rattle.mu_model.specs.declared.event.Verb.{Verb}
use Rattle.mu_model.specs.declared.event.Answer.{Answer}
use Rattle.mu_model.specs.Histories.{earlier_or, oldest}
use Rattle.mu_model.specs.Leaderships.{is_first_ask, leadership}
use Rattle.mu_model.specs.Picks.{first_value, is_joining, joined_since_first_put, since_last_joining, value_put}
use Rattle.mu_model.proofs.Basics.{none_some}

-- no put at i came since the last joining
abbrev pub joined_late : ℕ → ℕ → List Event → Bool
joined_late r i past = is_none (oldest (λ e. value_put r i e.by e.verb) (since_last_joining r past))

some_join : (o : Option ℕ) (t : Bool) (f : ℕ) → o ≡ Some f → (if true && is_some o then true else t) ≡ false → true ≡ false
some_join (Some x) t f e k = k
some_join None t f e k = absurd (none_some f e)

-- if nothing joined since the first put, that put came since the last joining
pub not_late : (r i f : ℕ) (J : List Event) → first_value r i J ≡ Some f → joined_since_first_put r i J ≡ false → joined_late r i J ≡ false
not_late r i f [] e k = absurd (none_some f e)
not_late r i f (x ∷ J) e k = go x.by x.verb x.answer (first_value r i J) refl e k (λ g. not_late r i g J)
  where
    go : (by : ℕ) (v : Verb) (a : Answer) (o : Option ℕ) → first_value r i J ≡ o
        → first_value r i (record { by = by; verb = v; answer = a } ∷ J) ≡ Some f
        → joined_since_first_put r i (record { by = by; verb = v; answer = a } ∷ J) ≡ false
        → ((g : ℕ) → first_value r i J ≡ Some g → joined_since_first_put r i J ≡ false → joined_late r i J ≡ false)
        → joined_late r i (record { by = by; verb = v; answer = a } ∷ J) ≡ false
    go by (Verb.Ask q) a o eo e k ih = at (is_first_ask r by (Verb.Ask q)) e k
      where
        at : (t : Bool) → oldest (λ y. value_put r i y.by y.verb) (cond t [] (record { by = by; verb = Verb.Ask q; answer = a } ∷ leadership r J)) ≡ Some f → cond t false (joined_since_first_put r i J) ≡ false
            → is_none (oldest (λ y. value_put r i y.by y.verb) (cond t [] (record { by = by; verb = Verb.Ask q; answer = a } ∷ since_last_joining r J))) ≡ false
        at true e k = absurd (none_some f e)
        at false e k = ih f e k
    go by (Verb.PutMin q b) Answer.Done o eo e k ih = at (is_joining r J by (Verb.PutMin q b) Answer.Done) o eo k
      where
        at : (t : Bool) (o : Option ℕ) → first_value r i J ≡ o → (if t && is_some (first_value r i J) then true else joined_since_first_put r i J) ≡ false
            → is_none (oldest (λ y. value_put r i y.by y.verb) (cond t [] (record { by = by; verb = Verb.PutMin q b; answer = Answer.Done } ∷ since_last_joining r J))) ≡ false
        at true o eo k = absurd (true≢false (some_join (first_value r i J) (joined_since_first_put r i J) f e k))
        at false o eo k = ih f e k
    go by (Verb.PutSlot q j n w) a None eo e k ih = at ((by == r) && (j == i)) (oldest (λ y. value_put r i y.by y.verb) (since_last_joining r J)) e
      where
        at : (t : Bool) (o : Option ℕ) → earlier_or (cond t (Some w) None) (first_value r i J) ≡ Some f → is_none (earlier_or (cond t (Some w) None) o) ≡ false
        at true None e = refl
        at true (Some z) e = refl
        at false o e = absurd (none_some f (sym eo ∙ e))
    go by (Verb.PutSlot q j n w) a (Some g) eo e k ih = at (cond ((by == r) && (j == i)) (Some w) None) (oldest (λ y. value_put r i y.by y.verb) (since_last_joining r J)) (ih g eo k)
      where
        at : (x o : Option ℕ) → is_none o ≡ false → is_none (earlier_or x o) ≡ false
        at None o h = h
        at (Some y) None h = refl
        at (Some y) (Some z) h = refl
    go by v a o eo e k ih = ih f e k
