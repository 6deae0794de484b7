-- A slot is put under an `Enter` of the same leadership.
use Rattle.std.proofs.Common.{◌≡◌, ℕ, ◌%◌, Bool, true, false, cond, List, [], ◌∷◌, refl, sym, ◌∙◌, ap, Some, true≢false}
use Rattle.std.specs.declared.option.Option.{Option}
use Rattle.mu_model.specs.declared.config.Config.{Config}
use Rattle.mu_model.specs.declared.event.Event.{Event}
use Rattle.mu_model.specs.declared.event.Verb.{Verb}
use Rattle.mu_model.specs.declared.event.Answer.{Answer}
use Rattle.mu_model.specs.declared.event.Target.{Target}
use Rattle.mu_model.specs.Answers.{is_enter_by, is_enter_of}
use Rattle.mu_model.specs.Entering.{enter_open, last_opened, open_target}
use Rattle.mu_model.specs.Histories.{before, has, newer_or, newest, since}
use Rattle.mu_model.specs.Leaderships.{begins_leadership, is_member}
use Rattle.mu_model.specs.Picks.{look_answer}
use Rattle.mu_model.specs.Placing.{is_good_look, is_slot_put_at, since_joining}
use Rattle.mu_model.proofs.Putting.{MayPutSlot}

same_entered : (r p by : ℕ) (v : Verb) (a : Answer) (x y : Option Target) → is_enter_by r p by v ≡ true → newer_or (enter_open r p by v a) x ≡ newer_or (enter_open r p by v a) y
same_entered r p by (Verb.Enter q t) Answer.Entered x y h = rw h refl
same_entered r p by (Verb.Enter q t) a x y h = rw h refl
same_entered r p by v a x y h = absurd (true≢false (sym h))

-- an `Enter` since p became a member is one of this leadership
entered_since : (r p : ℕ) (past : List Event) → is_member r p past ≡ true → (before (is_enter_of r p) (since_joining r p past) ≡ [] → ⊥) → last_opened r p past ≡ open_target r p past
entered_since r p [] m some = absurd (true≢false (sym m))
entered_since r p (e ∷ past) m some = go (begins_leadership r e) refl (is_member r p past) refl (is_enter_by r p e.by e.verb) refl m some (entered_since r p past)
  where
    go : (t : Bool) → begins_leadership r e ≡ t → (u : Bool) → is_member r p past ≡ u → (x : Bool) → is_enter_by r p e.by e.verb ≡ x → is_member r p (e ∷ past) ≡ true → (before (is_enter_of r p) (cond t [] (cond u (e ∷ since_joining r p past) [])) ≡ [] → ⊥)
        → (is_member r p past ≡ true → (before (is_enter_of r p) (since_joining r p past) ≡ [] → ⊥) → last_opened r p past ≡ open_target r p past)
        → newer_or (enter_open r p e.by e.verb e.answer) (last_opened r p past) ≡ newest (λ f. enter_open r p f.by f.verb f.answer) (cond t [] (e ∷ since (begins_leadership r) past))
    go true ht u hu x hx m some ih = absurd (true≢false (sym m ∙ no_member ht))
      where
        no_member : begins_leadership r e ≡ true → is_member r p (e ∷ past) ≡ false
        no_member h = rw h refl
    go false ht false hu x hx m some ih = absurd (some refl)
    go false ht true hu true hx m some ih = same_entered r p e.by e.verb e.answer (last_opened r p past) (open_target r p past) hx
    go false ht true hu false hx m some ih = ap (newer_or (enter_open r p e.by e.verb e.answer)) (ih hu (λ k. some (skips hx ∙ k)))
      where
        skips : is_enter_by r p e.by e.verb ≡ false → before (is_enter_of r p) (e ∷ since_joining r p past) ≡ before (is_enter_of r p) (since_joining r p past)
        skips h = rw h refl

nothing_before : (test stop : Event → Bool) (xs : List Event) → has test (since stop xs) ≡ true → xs ≡ [] → ⊥
nothing_before test stop xs h e = true≢false (sym h ∙ ap (λ ys. has test (since stop ys)) e)

pub slot_entered : (c : Config) (r p i b v : ℕ) (past : List Event) → MayPutSlot c r past p i b v → open_target r p past ≡ Some (Target.Place (i % c.ring))
slot_entered c r p i b v past may =
    sym (entered_since r p past may.member (λ e. nothing_before (λ f. is_good_look (look_answer r p i f.by f.verb f.answer)) (λ f. is_slot_put_at r p c.ring i f.by f.verb) (before (is_enter_of r p) (since_joining r p past)) may.looked e))
    ∙ may.entered
