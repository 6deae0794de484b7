-- If replicas ask in turn, no leadership ends: what they note, and what numbers they put.
use Rattle.std.proofs.Common.{◌≡◌, ℕ, ◌+◌, inl, inr, Bool, true, false, cond, ◌&&◌, ◌||◌, ◌==◌, List, [], ◌∷◌, refl, sym, ◌∙◌, ap, Some, None, subst, eqb-true, true≢false, ◌++◌}
use Rattle.std.specs.declared.option.Option.{Option}
use Rattle.std.specs.Prelude.{is_some}
use Rattle.std.proofs.lemmas.Bool.{and_from, eq-eqb}
use Rattle.mu_model.specs.declared.config.Config.{Config}
use Rattle.mu_model.specs.declared.event.Answer.{Answer}
use Rattle.mu_model.specs.declared.event.Event.{Event}
use Rattle.mu_model.specs.declared.event.Target.{Target}
use Rattle.mu_model.specs.declared.event.Verb.{Verb}
use Rattle.mu_model.specs.Allowed.{Allowed, Needs}
use Rattle.mu_model.specs.Answers.{entered_or_lost}
use Rattle.mu_model.specs.Entering.{grant_seen, min_read, min_read_since, min_read_under, open_target}
use Rattle.mu_model.specs.Histories.{earlier_or, has, part}
use Rattle.mu_model.specs.Leaderships.{begins_leadership, has_begun, is_first_ask, leadership, noted_grant, proposal_number}
use Rattle.mu_model.specs.Legal.{IsLegalHistory}
use Rattle.mu_model.specs.Regions.{asks, fence}
use Rattle.mu_model.specs.Serving.{seen_asks}
use Rattle.mu_model.specs.Steps.{has_min, is_min, is_min_verb}
use Rattle.mu_model.proofs.Basics.{same_some}
use Rattle.mu_model.proofs.Owned.{begins-own, has-part, noted-part}
use Rattle.mu_agree.proofs.Access.{no_target, open_target-part}
use Rattle.mu_agree.proofs.Legal.{event_after, legal_induction}
use Rattle.mu_agree.proofs.Numbers.{greatest_own_put}
use Rattle.mu_alive.specs.Turns.{AreInTurn, IsInTurn, is_own_min}
use Rattle.mu_pace.proofs.Pasts.{begun_on, min_on}
use Rattle.mu_model.proofs.Putting.{MayEnter}

-- what came before some events in turn was in turn
pub turns_before : (newer older : List Event) → AreInTurn (newer ++ older) → AreInTurn older
turns_before [] older turns = turns
turns_before (e ∷ newer) older turns = turns_before newer older turns.0

-- an induction over the legal histories in turn
pub turn_induction : (c : Config) (P : List Event → Type 0) → P []
    → ((past : List Event) (by : ℕ) (v : Verb) → IsLegalHistory c past → AreInTurn past → IsInTurn past (event_after c past by v) → Allowed c by (part by past) v → P past → P (event_after c past by v ∷ past))
    → (past : List Event) → IsLegalHistory c past → AreInTurn past → P past
turn_induction c P base step =
    legal_induction c (λ past. AreInTurn past → P past) (λ _. base)
    (λ past by v h may ih turns. step past by v h turns.0 turns.1 may (ih turns.0))

pub begun-part : (r : ℕ) (past : List Event) → has_begun r (part r past) ≡ has_begun r past
begun-part r past = has-part (begins_leadership r) r (begins-own r) past

-- so has that of who asks
abbrev pub AskedBegun : ℕ → ℕ → List Event → Type 0
AskedBegun w p past = has_begun w past ≡ false → asks w p past ≡ 0

asked_step : (c : Config) (w p by : ℕ) (v : Verb) (past : List Event) → Needs c by (part by past) v → AskedBegun w p past → AskedBegun w p (event_after c past by v ∷ past)
asked_step c w p by (Verb.Ask q) past may s = λ none. go (by == w) refl (q == 0) refl none
  where
    begun : (by == w) ≡ true → (q == 0) ≡ false → has_begun w past ≡ true
    begun own other = elim may.1.0 [
      | inl first ↦ absurd (true≢false (sym (eq-eqb q 0 first) ∙ other))
      | inr more ↦ subst (λ x. has_begun x past ≡ true) (eqb-true by w own) (sym (begun-part by past) ∙ more.0)
    ]

    go : (t : Bool) → (by == w) ≡ t → (u : Bool) → (q == 0) ≡ u → cond ((by == w) && (q == 0)) true (has_begun w past) ≡ false → cond ((by == w) && (q == p)) (asks w p past + 1) (asks w p past) ≡ 0
    go true ht true hu none = absurd (true≢false (sym (rw (ht, hu) refl) ∙ none))
    go true ht false hu none = absurd (true≢false (sym (begun ht hu) ∙ sym (ap (λ t. cond (t && (q == 0)) true (has_begun w past)) ht ∙ ap (λ t. cond t true (has_begun w past)) hu) ∙ none))
    go false ht u hu none = rw ht (s (sym (ap (λ t. cond (t && (q == 0)) true (has_begun w past)) ht) ∙ none))
asked_step c w p by v past may s = s

pub none_asked : (c : Config) (w p : ℕ) (past : List Event) → IsLegalHistory c past → AskedBegun w p past
none_asked c w p = legal_induction c (AskedBegun w p) (λ _. refl) (λ past by v h may s. asked_step c w p by v past may.may s)

-- and of whose asks are seen
abbrev pub SeenBegun : ℕ → ℕ → List Event → Type 0
SeenBegun p w past = has_begun w past ≡ false → seen_asks p w past ≡ 0

pub not_begun : (w : ℕ) (e : Event) (past : List Event) → has_begun w (e ∷ past) ≡ false → has_begun w past ≡ false
not_begun w e past none = go (has_begun w past) refl
  where
    go : (t : Bool) → has_begun w past ≡ t → t ≡ false
    go true is = absurd (true≢false (sym (begun_on w e past is) ∙ none))
    go false is = refl

seen_step : (c : Config) (p w by : ℕ) (v : Verb) (past : List Event) → IsLegalHistory c past → SeenBegun p w past → SeenBegun p w (event_after c past by v ∷ past)
seen_step c p w by (Verb.ReadAsk q) past legal s = λ none. go (by == p) refl (q == w) refl (not_begun w (event_after c past by (Verb.ReadAsk q)) past none)
  where
    go : (t : Bool) → (by == p) ≡ t → (u : Bool) → (q == w) ≡ u → has_begun w past ≡ false → seen_asks p w (event_after c past by (Verb.ReadAsk q) ∷ past) ≡ 0
    go true ht true hu none = rw (ht, hu) (ap (λ x. asks x by past) (eqb-true q w hu) ∙ none_asked c w by past legal none)
    go true ht false hu none = rw (ht, hu) (s none)
    go false ht u hu none = rw ht (s none)
seen_step c p w by (Verb.Ask q) past legal s = λ none. s (not_begun w (event_after c past by (Verb.Ask q)) past none)
seen_step c p w by v past legal s = s

pub none_seen : (c : Config) (p w : ℕ) (past : List Event) → IsLegalHistory c past → SeenBegun p w past
none_seen c p w = legal_induction c (SeenBegun p w) (λ _. refl) (λ past by v h may s. seen_step c p w by v past h s)

-- who notes a grant has begun
abbrev pub NotedBegun : ℕ → ℕ → List Event → Type 0
NotedBegun w p past = is_some (noted_grant w p past) ≡ true → has_begun w past ≡ true

noted_begun_step : (c : Config) (w p by : ℕ) (v : Verb) (past : List Event) → Needs c by (part by past) v → NotedBegun w p past → NotedBegun w p (event_after c past by v ∷ past)
noted_begun_step c w p by (Verb.Ask q) past may s = go (is_first_ask w by (Verb.Ask q)) refl
  where
    go : (t : Bool) → is_first_ask w by (Verb.Ask q) ≡ t → NotedBegun w p (event_after c past by (Verb.Ask q) ∷ past)
    go true h = rw h (λ _. refl)
    go false h = rw h s
noted_begun_step c w p by (Verb.Fence q) past may s = go (by == w) refl
  where
    go : (t : Bool) → (by == w) ≡ t → NotedBegun w p (event_after c past by (Verb.Fence q) ∷ past)
    go true h = λ _. subst (λ x. has_begun x past ≡ true) (eqb-true by w h) (sym (begun-part by past) ∙ may.1.0)
    go false h = rw h s
noted_begun_step c w p by v past may s = s

pub noted_begun : (c : Config) (w p : ℕ) (past : List Event) → IsLegalHistory c past → NotedBegun w p past
noted_begun c w p = legal_induction c (NotedBegun w p) (λ some. absurd (true≢false (sym some))) (λ past by v h may s. noted_begun_step c w p by v past may.may s)

-- who reads a minimum has begun
abbrev pub MinBegun : ℕ → List Event → Type 0
MinBegun w past = has (is_own_min w) past ≡ true → has_begun w past ≡ true

min_begun_step : (c : Config) (w by : ℕ) (v : Verb) (past : List Event) → IsLegalHistory c past → Needs c by (part by past) v → MinBegun w past → MinBegun w (event_after c past by v ∷ past)
min_begun_step c w by (Verb.Min q) past legal may s = go (by == w) refl
  where
    go : (t : Bool) → (by == w) ≡ t → MinBegun w (event_after c past by (Verb.Min q) ∷ past)
    go true h = λ _. subst (λ x. has_begun x past ≡ true) (eqb-true by w h) (noted_begun c by q past legal (ap is_some (sym (noted-part by q past)) ∙ may.1.0))
    go false h = rw h s
min_begun_step c w by (Verb.Ask q) past legal may s = λ some. begun_on w (event_after c past by (Verb.Ask q)) past (s some)
min_begun_step c w by v past legal may s = s

pub min_begun : (c : Config) (w : ℕ) (past : List Event) → IsLegalHistory c past → MinBegun w past
min_begun c w = legal_induction c (MinBegun w) (λ some. absurd (true≢false (sym some))) (λ past by v h may s. min_begun_step c w by v past h may.may s)

-- who has an open `Enter` for a minimum has read one
pub own_more : (w : ℕ) (e : Event) (past : List Event) → has (is_own_min w) past ≡ true → has (is_own_min w) (e ∷ past) ≡ true
own_more w e past some = go (is_own_min w e)
  where
    go : (t : Bool) → cond t true (has (is_own_min w) past) ≡ true
    go true = refl
    go false = some

under_read : (w p g : ℕ) (past : List Event) → min_read_under w p g past ≡ true → has (is_own_min w) past ≡ true
under_read w p g [] some = absurd (true≢false (sym some))
under_read w p g (e ∷ past) some = go (is_some (min_read w p e.by e.verb e.answer)) refl (has (λ f. grant_seen w p g f.by f.verb f.answer) past) some (under_read w p g past)
  where
    reads : (by : ℕ) (verb : Verb) (answer : Answer) → is_some (min_read w p by verb answer) ≡ true → (is_min_verb verb && (by == w)) ≡ true
    reads by (Verb.Min q) (Answer.Number x) is = go (by == w) (q == p) is
      where
        go : (t u : Bool) → is_some (cond (t && u) (Some x) None) ≡ true → (true && t) ≡ true
        go true u is = refl
        go false u is = absurd (true≢false (sym is))
    reads by verb answer is = absurd (true≢false (sym is))

    go : (t : Bool) → is_some (min_read w p e.by e.verb e.answer) ≡ t → (u : Bool) → ((t && u) || min_read_under w p g past) ≡ true → (min_read_under w p g past ≡ true → has (is_own_min w) past ≡ true) → has (is_own_min w) (e ∷ past) ≡ true
    go true is u some ih = ap (λ t. cond t true (has (is_own_min w) past)) (reads e.by e.verb e.answer is)
    go false is u some ih = own_more w e past (ih some)

pub own_min-part : (w : ℕ) (past : List Event) → has (is_own_min w) (part w past) ≡ has (is_own_min w) past
own_min-part w past = has-part (is_own_min w) w (record { own = λ e other. go (is_min e) (e.by == w) other }) past
  where
    go : (t u : Bool) → u ≡ false → (t && u) ≡ false
    go true u h = h
    go false u h = refl

abbrev OpenRead : ℕ → ℕ → List Event → Type 0
OpenRead w p past = open_target w p past ≡ Some Target.Min → has (is_own_min w) past ≡ true

open_enter : (c : Config) (w p by q : ℕ) (t : Target) (past : List Event) → ((by == w) ≡ true → t ≡ Target.Min → has (is_own_min w) past ≡ true) → OpenRead w p past → (answer : Answer) → (x : Bool) → (by == w) ≡ x → (y : Bool) → (q == p) ≡ y
    → OpenRead w p (record { by = by; verb = Verb.Enter q t; answer = answer } ∷ past)
open_enter c w p by q t past reads s Answer.Entered true hx true hy = rw (hx, hy) (λ is. reads hx (same_some t Target.Min is))
open_enter c w p by q t past reads s Answer.Entered true hx false hy = rw (hx, hy) s
open_enter c w p by q t past reads s Answer.Entered false hx y hy = rw hx s
open_enter c w p by q t past reads s answer true hx true hy = rw (hx, hy) (λ is. absurd (no_target Target.Min is refl))
open_enter c w p by q t past reads s answer true hx false hy = rw (hx, hy) s
open_enter c w p by q t past reads s answer false hx y hy = rw hx s

open_step : (c : Config) (w p by : ℕ) (v : Verb) (past : List Event) → Needs c by (part by past) v → OpenRead w p past → OpenRead w p (event_after c past by v ∷ past)
open_step c w p by (Verb.Ask q) past may s = go (is_first_ask w by (Verb.Ask q)) refl
  where
    go : (t : Bool) → is_first_ask w by (Verb.Ask q) ≡ t → OpenRead w p (event_after c past by (Verb.Ask q) ∷ past)
    go true h = rw h (λ is. cc)
    go false h = rw h s
open_step c w p by (Verb.Enter q t) past may s = open_enter c w p by q t past reads s (entered_or_lost (noted_grant by q past) (fence q past)) (by == w) refl (q == p) refl
  where
    reads : (by == w) ≡ true → t ≡ Target.Min → has (is_own_min w) past ≡ true
    reads own is =
        let needs : MayEnter c by (part by past) q Target.Min = subst (MayEnter c by (part by past) q) is may.1 in
        let read = go (noted_grant by q (part by past)) needs.1.1.0 in
        subst (λ x. has (is_own_min x) past ≡ true) (eqb-true by w own) (sym (own_min-part by past) ∙ read)
      where
        go : (o : Option ℕ) → min_read_since by q (part by past) o ≡ true → has (is_own_min by) (part by past) ≡ true
        go None is = absurd (true≢false (sym is))
        go (Some g) is = under_read by q g (part by past) is
open_step c w p by (Verb.PutMin q b) past may s = go ((by == w) && (q == p)) refl
  where
    go : (t : Bool) → ((by == w) && (q == p)) ≡ t → OpenRead w p (event_after c past by (Verb.PutMin q b) ∷ past)
    go true h = rw h (λ is. absurd (no_target Target.Min is refl))
    go false h = rw h s
open_step c w p by (Verb.PutSlot q i b v) past may s = go ((by == w) && (q == p)) refl
  where
    go : (t : Bool) → ((by == w) && (q == p)) ≡ t → OpenRead w p (event_after c past by (Verb.PutSlot q i b v) ∷ past)
    go true h = rw h (λ is. absurd (no_target Target.Min is refl))
    go false h = rw h s
open_step c w p by (Verb.Min q) past may s = λ is. own_more w (event_after c past by (Verb.Min q)) past (s is)
open_step c w p by v past may s = s

open_read : (c : Config) (w p : ℕ) (past : List Event) → IsLegalHistory c past → OpenRead w p past
open_read c w p = legal_induction c (OpenRead w p) (λ is. cc) (λ past by v h may s. open_step c w p by v past may.may s)

-- who puts a number has read a minimum
pub put_reads : (c : Config) (by q b : ℕ) (past : List Event) → IsLegalHistory c past → Needs c by (part by past) (Verb.PutMin q b) → has (is_own_min by) past ≡ true
put_reads c by q b past legal may = open_read c by q past legal (sym (open_target-part by q past) ∙ may.1.1.0)

abbrev pub PutRead : ℕ → List Event → Type 0
PutRead w past = has (is_own_min w) past ≡ false → greatest_own_put w past ≡ 0

put_read_step : (c : Config) (w by : ℕ) (v : Verb) (past : List Event) → IsLegalHistory c past → Needs c by (part by past) v → PutRead w past → PutRead w (event_after c past by v ∷ past)
put_read_step c w by (Verb.PutMin q b) past legal may s = go (by == w) refl
  where
    go : (t : Bool) → (by == w) ≡ t → PutRead w (event_after c past by (Verb.PutMin q b) ∷ past)
    go true h = λ none. absurd (true≢false (sym (subst (λ x. has (is_own_min x) past ≡ true) (eqb-true by w h) (put_reads c by q b past legal may)) ∙ none))
    go false h = rw h s
put_read_step c w by (Verb.Min q) past legal may s = go (by == w) refl
  where
    go : (t : Bool) → (by == w) ≡ t → PutRead w (event_after c past by (Verb.Min q) ∷ past)
    go true h = rw h (λ none. absurd (true≢false none))
    go false h = rw h s
put_read_step c w by v past legal may s = s

pub put_read : (c : Config) (w : ℕ) (past : List Event) → IsLegalHistory c past → PutRead w past
put_read c w = legal_induction c (PutRead w) (λ _. refl) (λ past by v h may s. put_read_step c w by v past h may.may s)

-- a leadership without a number has put none before
abbrev pub NoneBefore : ℕ → List Event → Type 0
NoneBefore w past = proposal_number w past ≡ None → greatest_own_put w past ≡ 0

none_before_step : (c : Config) (w by : ℕ) (v : Verb) (past : List Event) → IsLegalHistory c past → IsInTurn past (event_after c past by v) → NoneBefore w past → NoneBefore w (event_after c past by v ∷ past)
none_before_step c w by (Verb.Ask q) past legal turn s = go (by == w) refl (q == 0) refl
  where
    go : (t : Bool) → (by == w) ≡ t → (u : Bool) → (q == 0) ≡ u → NoneBefore w (event_after c past by (Verb.Ask q) ∷ past)
    go true ht true hu = λ _. put_read c w past legal (subst (λ x. has (is_own_min x) past ≡ false) (eqb-true by w ht) (turn.once (ap (λ x. Verb.Ask x) (eqb-true q 0 hu))))
    go true ht false hu = rw (ht, hu) s
    go false ht u hu = rw ht s
none_before_step c w by (Verb.PutMin q b) past legal turn s = go (by == w) refl
  where
    some : (o : Option ℕ) → earlier_or (Some b) o ≡ None → ⊥
    some None is = cc
    some (Some x) is = cc

    go : (t : Bool) → (by == w) ≡ t → NoneBefore w (event_after c past by (Verb.PutMin q b) ∷ past)
    go true ht = rw ht (λ none. absurd (some (proposal_number w past) none))
    go false ht = rw ht s
none_before_step c w by v past legal turn s = s

pub none_before : (c : Config) (w : ℕ) (past : List Event) → IsLegalHistory c past → AreInTurn past → NoneBefore w past
none_before c w = turn_induction c (NoneBefore w) (λ _. refl) (λ past by v h turns turn may s. none_before_step c w by v past h turn s)

-- who has read a minimum has read one in the leadership under way
abbrev pub MinLeads : ℕ → List Event → Type 0
MinLeads r past = has (is_own_min r) past ≡ true → has_min r (part r past) ≡ true

part_min_on : (r : ℕ) (e : Event) (past : List Event) → begins_leadership r e ≡ false → has_min r (part r past) ≡ true → has_min r (part r (e ∷ past)) ≡ true
part_min_on r e past same is = go (e.by == r)
  where
    go : (t : Bool) → has_min r (cond t (e ∷ part r past) (part r past)) ≡ true
    go true = min_on r e (part r past) same is
    go false = is

min_leads_step : (c : Config) (r by : ℕ) (v : Verb) (past : List Event) → IsLegalHistory c past → IsInTurn past (event_after c past by v) → Needs c by (part by past) v → MinLeads r past → MinLeads r (event_after c past by v ∷ past)
min_leads_step c r by (Verb.Ask q) past legal turn may s = λ some. go (by == r) refl (q == 0) refl some
  where
    go : (t : Bool) → (by == r) ≡ t → (u : Bool) → (q == 0) ≡ u → has (is_own_min r) past ≡ true → has_min r (part r (event_after c past by (Verb.Ask q) ∷ past)) ≡ true
    go true ht true hu some = absurd (true≢false (sym some ∙ subst (λ x. has (is_own_min x) past ≡ false) (eqb-true by r ht) (turn.once (ap (λ x. Verb.Ask x) (eqb-true q 0 hu)))))
    go true ht false hu some = part_min_on r (event_after c past by (Verb.Ask q)) past (rw (ht, hu) refl) (s some)
    go false ht u hu some = part_min_on r (event_after c past by (Verb.Ask q)) past (rw ht refl) (s some)
min_leads_step c r by (Verb.Min q) past legal turn may s = λ some. go (by == r) refl some
  where
    begun : (by == r) ≡ true → has_begun r (part r past) ≡ true
    begun own = begun-part r past ∙ subst (λ x. has_begun x past ≡ true) (eqb-true by r own) (noted_begun c by q past legal (ap is_some (sym (noted-part by q past)) ∙ may.1.0))

    go : (t : Bool) → (by == r) ≡ t → has (is_own_min r) (event_after c past by (Verb.Min q) ∷ past) ≡ true → has_min r (cond t (event_after c past by (Verb.Min q) ∷ part r past) (part r past)) ≡ true
    go true own some = and_from (has_begun r (event_after c past by (Verb.Min q) ∷ part r past)) (has is_min (leadership r (event_after c past by (Verb.Min q) ∷ part r past))) (begun own) refl
    go false other some = s (sym (ap (λ t. cond t true (has (is_own_min r) past)) other) ∙ some)
min_leads_step c r by v past legal turn may s = λ some. part_min_on r (event_after c past by v) past refl (s some)

pub min_leads : (c : Config) (r : ℕ) (past : List Event) → IsLegalHistory c past → AreInTurn past → MinLeads r past
min_leads c r = turn_induction c (MinLeads r) (λ some. absurd (true≢false (sym some))) (λ past by v h turns turn may s. min_leads_step c r by v past h turn may.may s)
