-- Cutting lists of events, and finding events in them.
use Rattle.std.proofs.Common.{◌≡◌, ℕ, ◌+◌, ◌≤◌, ◌==◌, Bool, true, false, cond, List, [], ◌∷◌, ◌++◌, refl, sym, ◌∙◌, ap, arith, eqb-true, subst, true≢false, append_assoc}
use Rattle.mu_model.specs.declared.event.Event.{Event}
use Rattle.mu_agree.specs.Moments.{AtEachMoment}
use Rattle.mu_model.specs.Histories.{has, how_many, part}
use Rattle.mu_model.specs.Stretches.{IsStretch}
use Rattle.mu_pace.proofs.Pasts.{has_later}

-- the newest event that passes
pub record Met (test : Event → Bool) (events : List Event) : Type 0 where
  pub newer : List Event
  pub event : Event
  pub older : List Event
  pub is : events ≡ newer ++ event ∷ older
  pub passes : test event ≡ true

pub met : (test : Event → Bool) (events : List Event) → has test events ≡ true → Met test events
met test [] some = absurd (true≢false (sym some))
met test (e ∷ events) some = go (test e) refl some (met test events)
  where
    go : (t : Bool) → test e ≡ t → cond t true (has test events) ≡ true → (has test events ≡ true → Met test events) → Met test (e ∷ events)
    go true is some ih = record { newer = []; event = e; older = events; is = refl; passes = is }
    go false is some ih = let k = ih some in record { newer = e ∷ k.newer; event = k.event; older = k.older; is = ap (λ l. e ∷ l) k.is; passes = k.passes }

-- where an event of a part stands among the events
pub record Located (p : ℕ) (events : List Event) (e : Event) (mine : List Event) : Type 0 where
  pub newer : List Event
  pub older : List Event
  pub is : events ≡ newer ++ e ∷ older
  pub before : part p older ≡ mine
  pub own : e.by ≡ p

pub located : (p : ℕ) (events between mine : List Event) (e : Event) → part p events ≡ between ++ e ∷ mine → Located p events e mine
located p [] [] mine e is = cc
located p [] (b ∷ between) mine e is = cc
located p (f ∷ events) between mine e is = go (f.by == p) refl between is (located p events)
  where
    go : (t : Bool) → (f.by == p) ≡ t → (between : List Event) → cond t (f ∷ part p events) (part p events) ≡ between ++ e ∷ mine
        → ((between mine : List Event) (e : Event) → part p events ≡ between ++ e ∷ mine → Located p events e mine) → Located p (f ∷ events) e mine
    go true own [] is ih =
        let same : f ≡ e = cc in
        record { newer = []; older = events; is = ap (λ x. x ∷ events) same; before = cc; own = ap (λ (x : Event). x.by) (sym same) ∙ eqb-true f.by p own }
    go true own (b ∷ between) is ih = let k = ih between mine e cc in record { newer = f ∷ k.newer; older = k.older; is = ap (λ l. f ∷ l) k.is; before = k.before; own = k.own }
    go false own between is ih = let k = ih between mine e is in record { newer = f ∷ k.newer; older = k.older; is = ap (λ l. f ∷ l) k.is; before = k.before; own = k.own }

-- if none of two stretches passes, none of either does
pub none_newer : (test : Event → Bool) (newer older : List Event) → has test (newer ++ older) ≡ false → has test newer ≡ false
none_newer test [] older none = refl
none_newer test (e ∷ newer) older none = go (test e) none (none_newer test newer older)
  where
    go : (t : Bool) → cond t true (has test (newer ++ older)) ≡ false → (has test (newer ++ older) ≡ false → has test newer ≡ false) → cond t true (has test newer) ≡ false
    go true none ih = absurd (true≢false none)
    go false none ih = ih none

pub none_older : (test : Event → Bool) (newer older : List Event) → has test (newer ++ older) ≡ false → has test older ≡ false
none_older test [] older none = none
none_older test (e ∷ newer) older none = go (test e) none (none_older test newer older)
  where
    go : (t : Bool) → cond t true (has test (newer ++ older)) ≡ false → (has test (newer ++ older) ≡ false → has test older ≡ false) → has test older ≡ false
    go true none ih = absurd (true≢false none)
    go false none ih = ih none

-- more events pass among more events
pub more_pass : (test : Event → Bool) (newer older : List Event) → how_many test older ≤ how_many test (newer ++ older)
more_pass test [] older = omega arith
more_pass test (e ∷ newer) older = go (test e) (more_pass test newer older)
  where
    go : (t : Bool) → how_many test older ≤ how_many test (newer ++ older) → how_many test older ≤ cond t (how_many test (newer ++ older) + 1) (how_many test (newer ++ older))
    go true l = omega (arith, l)
    go false l = l

-- what holds of the part at each beginning of the events holds at each moment of the part
pub moments_of : (a : ℕ) (P : List Event → Type 0) (past : List Event) → ((newer older : List Event) → past ≡ newer ++ older → P (part a older)) → AtEachMoment P (part a past)
moments_of a P [] all = all [] [] refl
moments_of a P (e ∷ past) all = go (e.by == a) refl (moments_of a P past (λ newer older is. all (e ∷ newer) older (ap (λ l. e ∷ l) is)))
  where
    go : (t : Bool) → (e.by == a) ≡ t → AtEachMoment P (part a past) → AtEachMoment P (cond t (e ∷ part a past) (part a past))
    go true own rest = (rest, subst P (ap (λ t. cond t (e ∷ part a past) (part a past)) own) (all [] (e ∷ past) refl))
    go false other rest = rest

-- an event that passes in a part is among the events
pub there_in_part : (test found : Event → Bool) (r : ℕ) → ((e : Event) → e.by ≡ r → test e ≡ true → found e ≡ true) → (past : List Event) → has test (part r past) ≡ true → has found past ≡ true
there_in_part test found r finds past some =
    let m = met test (part r past) some in
    let l = located r past m.newer m.older m.event m.is in
    ap (has found) l.is ∙ has_later found l.newer (m.event ∷ l.older) (ap (λ t. cond t true (has found l.older)) (finds m.event l.own m.passes))

-- a stretch of older events is one of all
pub longer : (newer older window base : List Event) → IsStretch older window base → IsStretch (newer ++ older) window base
longer newer older window base s = record { newer = newer ++ s.newer; is = ap (λ l. newer ++ l) s.is ∙ sym (append_assoc newer s.newer (window ++ base)) }
