-- In a replay without a pause replicas keep near each other, and up to the last event of replica 0 no
-- other asks or writes rows.
use Rattle.std.proofs.Common.{◌≡◌, ◌∙◌, ℕ, ◌+◌, ◌<◌, ◌≤◌, ◌==◌, inl, inr, Bool, true, false, cond, None, Some, List, [], ◌∷◌, ◌++◌, ap, append_assoc, arith, eqb-true, length, refl, subst, sym}
use Rattle.std.specs.declared.option.Option.{Option}
use Rattle.std.specs.Prelude.{nat_lt, not}
use Rattle.std.proofs.lemmas.Bool.{cases_lt, eq-eqb, ltb-true, true≢false}
use Rattle.std.proofs.lemmas.List.{reverse-append, reverse-reverse}
use Rattle.mu_model.specs.declared.config.Config.{Config}
use Rattle.mu_model.specs.declared.event.Event.{Event}
use Rattle.mu_model.specs.declared.event.Verb.{Verb}
use Rattle.mu_model.specs.Ends.{outrun}
use Rattle.mu_model.specs.Histories.{has, history, part}
use Rattle.mu_model.specs.Scores.{leader}
use Rattle.mu_model.specs.Steps.{is_named}
use Rattle.mu_node.specs.Journal.{WasMade}
use Rattle.mu_lively.proofs.Naming.{first_named, is_row_write, writer_named}
use Rattle.mu_agree.specs.Moments.{AtEachMoment, AtEachStep}
use Rattle.mu_alive.specs.Alone.{WritesAlone}
use Rattle.mu_cluster.specs.Naming.{IsReached, NamesFirst}
use Rattle.mu_cluster.proofs.InStep.{StaysAhead}
use Rattle.mu_cluster.proofs.Passes.{has_history}
use Rattle.mu_cluster.proofs.Naming.{AreUnpaused, before_end, none_here, part_before, part_step}
use Rattle.mu_pace.proofs.Pasts.{has_newer, has_later}

-- r is at most a step ahead of q at each moment
pub near_one : (lead q most r : ℕ) (past : List Event) → AtEachStep (StaysAhead lead q most r) past → length (part r past) ≤ most → AtEachMoment (λ now. length (part r now) ≤ length (part q now) + 1) past
near_one lead q most r [] ahead few = omega arith
near_one lead q most r (e ∷ past) ahead few = go (e.by == r) refl (e.by == q) few (λ less. near_one lead q most r past ahead.0 less)
  where
    stays : (u : Bool) → length (part q past) ≤ length (cond u (e ∷ part q past) (part q past))
    stays true = omega arith
    stays false = omega arith

    last : (past : List Event) → AtEachMoment (λ now. length (part r now) ≤ length (part q now) + 1) past → length (part r past) ≤ length (part q past) + 1
    last [] h = h
    last (f ∷ past) h = h.1

    go : (t : Bool) → (e.by == r) ≡ t → (u : Bool) → length (cond t (e ∷ part r past) (part r past)) ≤ most
        → (length (part r past) ≤ most → AtEachMoment (λ now. length (part r now) ≤ length (part q now) + 1) past)
        → AtEachMoment (λ now. length (part r now) ≤ length (part q now) + 1) past × (length (cond t (e ∷ part r past) (part r past)) ≤ length (cond u (e ∷ part q past) (part q past)) + 1)
    go true own u few earlier =
        let here = ahead.1 (eqb-true e.by r own) in
        let enough : length (part r past) ≤ length (part q past) = elim (cases_lt most (length (part r past) + lead)) [
          | inl over ↦ (let all = here.1 (omega (arith, over)) in omega (arith, all, few))
          | inr under ↦ (let all = here.0 under in omega (arith, all))
        ] in
        let more = stays u in
        (earlier (omega (arith, few)), omega (arith, enough, more))
    go false other u few earlier = let ih = earlier few in let now = last past ih in let more = stays u in (ih, omega (arith, now, more))

-- the same of each replica
pub each_near : (n : ℕ) (live : ℕ → Bool) (Q : ℕ → List Event → Type 0) (past : List Event) → ((r : ℕ) → r < n → live r ≡ true → AtEachMoment (Q r) past) → AtEachMoment (λ now. (r : ℕ) → r < n → live r ≡ true → Q r now) past
each_near n live Q [] all = λ r low there. all r low there
each_near n live Q (e ∷ past) all = (each_near n live Q past (λ r low there. (all r low there).0), λ r low there. (all r low there).1)

pub near_self : (a : ℕ) (past : List Event) → AtEachMoment (λ now. (length (part a now) ≤ length (part a now) + 1) × (length (part a now) ≤ length (part a now) + 1)) past
near_self a [] = (omega arith, omega arith)
near_self a (e ∷ past) = (near_self a past, (omega arith, omega arith))

-- an event before a later one of replica 0 is reached
reached : (events front older : List Event) (e : Event) → history events ≡ front ++ e ∷ older → has (λ f. f.by == 0) front ≡ true → IsReached events (history older) e
reached events front older e is some = record {
  later = history front;
  is = sym (reverse-reverse events) ∙ ap history is ∙ reverse-append front (e ∷ older) ∙ ap (λ l. l ++ history front) (reverse-append (e ∷ []) older) ∙ append_assoc (history older) (e ∷ []) (history front);
  left = has_later (λ f. f.by == 0) (e ∷ []) (history front) (has_history (λ f. f.by == 0) front some);
}

pub more_front : (events front older : List Event) (e : Event) → history events ≡ front ++ e ∷ older → history events ≡ (front ++ e ∷ []) ++ older
more_front events front older e is = is ∙ sym (append_assoc front (e ∷ []) older)

-- and no other writes rows
pub writes_alone : (c : Config) (events front past : List Event) (lengths : List ℕ) (rounds : ℕ) → NamesFirst c events → AreUnpaused c events lengths rounds → history events ≡ front ++ past → has (λ f. f.by == 0) front ≡ true → WritesAlone 0 past
writes_alone c events front [] lengths rounds names run is some = tt
writes_alone c events front (e ∷ past) lengths rounds names run is some =
    (writes_alone c events (front ++ e ∷ []) past lengths rounds names run (more_front events front past e is) (has_newer (λ f. f.by == 0) front (e ∷ []) some), writes)
  where
    inside : (t : Bool) → nat_lt e.by c.replicas ≡ t → e.by < c.replicas
    inside true low = ltb-true e.by c.replicas low
    inside false high = absurd (true≢false (sym (ap not high) ∙ none_here (λ f. not (nat_lt f.by c.replicas)) front past e (sym (ap (has (λ f. not (nat_lt f.by c.replicas))) is) ∙ run.whole)))

    writes : (j k x : ℕ) → e.verb ≡ Verb.WriteRow j k x → e.by ≡ 0
    writes j k x wrote =
        let at = reached events front past e is some in
        let there = subst (λ l. AtEachStep (WasMade c e.by) (part e.by l)) is (run.made e.by (inside (nat_lt e.by c.replicas) refl)) in
        let made = part_step (WasMade c e.by) past e (part_before (WasMade c e.by) e.by front (e ∷ past) there) in
        let whole = subst (λ l. AtEachStep (WasMade c e.by) (part e.by l)) (more_front events front past e is) (run.made e.by (inside (nat_lt e.by c.replicas) refl)) in
        let before = part_before (WasMade c e.by) e.by (front ++ e ∷ []) past whole in
        let named = ap (λ l. leader c e.by (part e.by l)) (sym (reverse-reverse past)) ∙ names.named (history past) e.by (before_end events (history past) e at) (inside (nat_lt e.by c.replicas) refl) in
        sym (writer_named c e.by (part e.by past) e before made (ap is_row_write wrote)) ∙ named

-- replica 0 names itself
pub names_itself : (c : Config) (mine : List Event) → 0 < c.replicas → AtEachMoment (λ now. is_named c 0 now ≡ true) mine
names_itself c [] some = eq-eqb (leader c 0 []) 0 (first_named c 0 [] some (λ other. absurd (other refl)))
names_itself c (e ∷ mine) some = (names_itself c mine some, eq-eqb (leader c 0 (e ∷ mine)) 0 (first_named c 0 (e ∷ mine) some (λ other. absurd (other refl))))

pub none_of : (c : Config) (r : ℕ) (mine : List Event) (o : Option (ℕ × ℕ)) → outrun c r mine ≡ o → ((p i : ℕ) → outrun c r mine ≡ Some (p, i) → ⊥) → outrun c r mine ≡ None
none_of c r mine None is none = is
none_of c r mine (Some (p, i)) is none = absurd (none p i is)
