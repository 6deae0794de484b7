-- What a leader's looks at its members say.
use Rattle.std.proofs.Common.{◌≡◌, ℕ, zero, suc, ◌+◌, ◌<◌, ◌≤◌, Bool, true, false, cond, ◌==◌, List, [], ◌∷◌, refl, sym, ◌∙◌, ap, arith, Some, None, subst, eqb-true, length}
use Rattle.std.specs.declared.option.Option.{Option}
use Rattle.std.specs.Prelude.{nat_lt}
use Rattle.std.specs.List.{slice_get}
use Rattle.std.proofs.lemmas.Bool.{false_from_ne_true}
use Rattle.mu_model.specs.declared.config.Config.{Config}
use Rattle.mu_model.specs.declared.event.Event.{Event}
use Rattle.mu_model.specs.declared.event.Verb.{Verb}
use Rattle.mu_model.specs.declared.event.Answer.{Answer}
use Rattle.mu_model.specs.Allowed.{Needs}
use Rattle.mu_model.specs.Answers.{drained, put_answer, shown}
use Rattle.mu_model.specs.Entering.{number_allowed}
use Rattle.mu_model.specs.Histories.{earlier_or, part}
use Rattle.mu_model.specs.Leaderships.{is_first_ask, is_member, proposal_number}
use Rattle.mu_model.specs.Legal.{IsLegalHistory}
use Rattle.mu_model.specs.Picks.{last_look}
use Rattle.mu_model.specs.Regions.{region_log, region_min}
use Rattle.mu_agree.proofs.Legal.{event_after, legal_induction}
use Rattle.mu_agree.proofs.Minimum.{rises_step, number_first}
use Rattle.mu_agree.proofs.Members.{number_with, number_stays}
use Rattle.mu_agree.proofs.Landings.{at_part, look_reply}
use Rattle.mu_agree.proofs.Landed.{has_landed, landed_facts, landed_within, lands_no_more, landed_stays}
use Rattle.mu_model.proofs.Basics.{same_some}
use Rattle.mu_model.proofs.Putting.{MayPutMin, min_facts}

-- a member's leadership has a number, which the member's minimum has reached
pub record Reached (num : Option ℕ) (least : ℕ) : Type 0 where
  pub b : ℕ
  pub is : num ≡ Some b
  pub below : b ≤ least

abbrev pub MemberReached : ℕ → ℕ → List Event → Type 0
MemberReached r p past = is_member r p (part r past) ≡ true → Reached (proposal_number r (part r past)) (region_min p past)

reached_put : (b : ℕ) (num : Option ℕ) (least later : ℕ) → least ≤ later → Reached num least → Reached (earlier_or (Some b) num) later
reached_put b num least later l s = record { b = s.b; is = number_stays b s.b num s.is; below = (let k = s.below in omega arith) }

member_own : (r p by q b least later : ℕ) (J : List Event) → least ≤ later → earlier_or (Some b) (proposal_number r J) ≡ Some b → (is_member r p J ≡ true → Reached (proposal_number r J) least)
    → (a : Answer) → (a ≡ Answer.Done → (q == p) ≡ true → b ≤ later) → (by == r) ≡ true → (y : Bool) → (q == p) ≡ y
    → is_member r p (record { by = by; verb = Verb.PutMin q b; answer = a } ∷ J) ≡ true → Reached (proposal_number r (record { by = by; verb = Verb.PutMin q b; answer = a } ∷ J)) later
member_own r p by q b least later J l num s Answer.Done f hx true hy = rw hx (λ m. record { b = b; is = num; below = f refl hy })
member_own r p by q b least later J l num s Answer.Done f hx false hy = rw (hx, hy) (λ m. reached_put b (proposal_number r J) least later l (s m))
member_own r p by q b least later J l num s a f hx y hy = rw hx (λ m. reached_put b (proposal_number r J) least later l (s m))

min_here : (p by q b : ℕ) (past : List Event) (a : Answer) → a ≡ Answer.Done → (q == p) ≡ true → b ≤ region_min p (record { by = by; verb = Verb.PutMin q b; answer = a } ∷ past)
min_here p by q b past Answer.Done e hq = rw hq (omega arith)
min_here p by q b past a e hq = cc

pub own_number : (r by p b : ℕ) (past : List Event) → MayPutMin by (part by past) p b → (by == r) ≡ true → earlier_or (Some b) (proposal_number r (part r past)) ≡ Some b
own_number r by p b past may hx = number_with b (proposal_number r (part r past)) (number_first r b (part r past) (proposal_number r (part r past)) (subst (λ z. number_allowed z (part z past) b (proposal_number z (part z past))) (eqb-true by r hx) may.numbered))

member_put : (c : Config) (r p by q b : ℕ) (past : List Event) → IsLegalHistory c past → Needs c by (part by past) (Verb.PutMin q b) → MemberReached r p past → MemberReached r p (event_after c past by (Verb.PutMin q b) ∷ past)
member_put c r p by q b past h may s =
    let f = event_after c past by (Verb.PutMin q b) in
    let l : region_min p past ≤ region_min p (f ∷ past) = rises_step c p by (region_min p past) (Verb.PutMin q b) past h may (omega arith) in
    at_part (λ J. is_member r p J ≡ true → Reached (proposal_number r J) (region_min p (f ∷ past))) r f past
    (λ m. let t = s m in record { b = t.b; is = t.is; below = (let k = t.below in omega arith) })
    (λ hx. member_own r p by q b (region_min p past) (region_min p (f ∷ past)) (part r past) l (own_number r by q b past (min_facts c by (part by past) q b may) hx) s (put_answer (drained by q past)) (min_here p by q b past (put_answer (drained by q past))) hx (q == p) refl)

member_ask : (c : Config) (r p by q : ℕ) (past : List Event) → MemberReached r p past → (t : Bool) → is_first_ask r by (Verb.Ask q) ≡ t → is_member r p (event_after c past by (Verb.Ask q) ∷ part r past) ≡ true → Reached (proposal_number r (event_after c past by (Verb.Ask q) ∷ part r past)) (region_min p past)
member_ask c r p by q past s true h = rw h (λ m. cc)
member_ask c r p by q past s false h = rw h s

member_step : (c : Config) (r p by : ℕ) (v : Verb) (past : List Event) → IsLegalHistory c past → Needs c by (part by past) v → MemberReached r p past → MemberReached r p (event_after c past by v ∷ past)
member_step c r p by (Verb.PutMin q b) past h may s = member_put c r p by q b past h may s
member_step c r p by (Verb.Ask q) past h may s = at_part (λ J. is_member r p J ≡ true → Reached (proposal_number r J) (region_min p past)) r (event_after c past by (Verb.Ask q)) past s (λ _. member_ask c r p by q past s (is_first_ask r by (Verb.Ask q)) refl)
member_step c r p by v past h may s = at_part (λ J. is_member r p J ≡ true → Reached (proposal_number r J) (region_min p past)) r (event_after c past by v) past s (λ _. s)

pub member_reached : (c : Config) (r p : ℕ) (past : List Event) → IsLegalHistory c past → MemberReached r p past
member_reached c r p = legal_induction c (MemberReached r p) (λ m. cc) (λ past by v h may s. member_step c r p by v past h may.may s)

-- what a look by number b at p says of position i
abbrev pub LookSays : ℕ → ℕ → ℕ → List Event → Answer → Type 0
LookSays b p i past Answer.Empty = (n w : ℕ) → n < b → has_landed p i n w past ≡ false
LookSays b p i past (Answer.Entry m v) = (has_landed p i m v past ≡ true) × ((n w : ℕ) → m < n → n < b → has_landed p i n w past ≡ false)
LookSays b p i past Answer.Past = Unit {0}
LookSays b p i past _ = ⊥

abbrev pub LooksSay : ℕ → ℕ → ℕ → List Event → Type 0
LooksSay r p i past = (a : Answer) (b : ℕ) → last_look r p i (part r past) ≡ Some a → is_member r p (part r past) ≡ true → proposal_number r (part r past) ≡ Some b → LookSays b p i past a

-- what a look said stays true while the minimum is at least its number
says_stays : (c : Config) (b p i by : ℕ) (v : Verb) (past : List Event) → IsLegalHistory c past → Needs c by (part by past) v → b ≤ region_min p past → (a : Answer) → LookSays b p i past a → LookSays b p i (event_after c past by v ∷ past) a
says_stays c b p i by v past h may l Answer.Empty s = λ n w k. lands_no_more c p i n w by v past h may (omega arith) (s n w k)
says_stays c b p i by v past h may l (Answer.Entry m x) s = (landed_stays p i m x (event_after c past by v) past s.0, λ n w j k. lands_no_more c p i n w by v past h may (omega arith) (s.1 n w j k))
says_stays c b p i by v past h may l Answer.Past s = s
says_stays c b p i by v past h may l Answer.Done s = s
says_stays c b p i by v past h may l Answer.Missed s = s
says_stays c b p i by v past h may l Answer.Entered s = s
says_stays c b p i by v past h may l (Answer.Lost f) s = s
says_stays c b p i by v past h may l (Answer.Seen f) s = s
says_stays c b p i by v past h may l (Answer.Number x) s = s

-- what a look finds now
found_now : (c : Config) (b p i : ℕ) (past : List Event) → IsLegalHistory c past → LookSays b p i past (look_reply c.ring (region_log p past) i)
found_now c b p i past h = go (nat_lt (i + c.ring) (length (region_log p past)))
  where
    at : (o : Option (ℕ × ℕ)) → slice_get (region_log p past) i ≡ o → LookSays b p i past (shown o)
    at None e = λ n w k. false_from_ne_true (has_landed p i n w past) (λ m. (let l = landed_within c p i n w past h m in nothing (region_log p past) i l e))
      where
        nothing : (log : List (ℕ × ℕ)) (i : ℕ) → i < length log → slice_get log i ≡ None → ⊥
        nothing [] i l e = omega arith
        nothing (x ∷ log) zero l e = cc
        nothing (x ∷ log) (suc i) l e = nothing log i (omega arith) e
    at (Some y) e = ((landed_facts c p past h).in_log i y.0 y.1 e, λ n w j k. false_from_ne_true (has_landed p i n w past) (λ m. (let l = (landed_facts c p past h).most i n w y m e in omega arith)))

    go : (t : Bool) → LookSays b p i past (cond t Answer.Past (shown (slice_get (region_log p past) i)))
    go true = tt
    go false = at (slice_get (region_log p past) i) refl

reach : (b least : ℕ) (num : Option ℕ) → Reached num least → num ≡ Some b → b ≤ least
reach b least num s e = let k = s.below in let i : s.b ≡ b = same_some s.b b (sym s.is ∙ e) in omega arith

-- after a step that is none of a look's, what the looks said is still true
looks_kept : (c : Config) (r p i by : ℕ) (v : Verb) (past : List Event) → IsLegalHistory c past → Needs c by (part by past) v → LooksSay r p i past
    → (a : Answer) (b : ℕ) → last_look r p i (part r past) ≡ Some a → is_member r p (part r past) ≡ true → proposal_number r (part r past) ≡ Some b → LookSays b p i (event_after c past by v ∷ past) a
looks_kept c r p i by v past h may s a b l m n = says_stays c b p i by v past h may (reach b (region_min p past) (proposal_number r (part r past)) (member_reached c r p past h m) n) a (s a b l m n)

abbrev pub Says : ℕ → ℕ → ℕ → List Event → List Event → Type 0
Says r p i past J = (a : Answer) (b : ℕ) → last_look r p i J ≡ Some a → is_member r p J ≡ true → proposal_number r J ≡ Some b → LookSays b p i past a

says_look : (c : Config) (r p i by q j : ℕ) (past : List Event) → IsLegalHistory c past → Needs c by (part by past) (Verb.Look q j) → Says r p i (event_after c past by (Verb.Look q j) ∷ past) (part r past)
    → (by == r) ≡ true → (y : Bool) → (q == p) ≡ y → (z : Bool) → (j == i) ≡ z → Says r p i (event_after c past by (Verb.Look q j) ∷ past) (event_after c past by (Verb.Look q j) ∷ part r past)
says_look c r p i by q j past h may s hx true hy true hz = rw (hx, hy, hz) (λ a b l m n.
    let now : LookSays b p i past (look_reply c.ring (region_log p past) i) = found_now c b p i past h in
    let same : look_reply c.ring (region_log q past) j ≡ look_reply c.ring (region_log p past) i = ap (λ x. look_reply c.ring (region_log x past) j) (eqb-true q p hy) ∙ ap (look_reply c.ring (region_log p past)) (eqb-true j i hz) in
    let is : look_reply c.ring (region_log p past) i ≡ a = sym same ∙ same_some (look_reply c.ring (region_log q past) j) a l in
    says_stays c b p i by (Verb.Look q j) past h may (reach b (region_min p past) (proposal_number r (part r past)) (member_reached c r p past h m) n) a (subst (LookSays b p i past) is now))
says_look c r p i by q j past h may s hx true hy false hz = rw (hx, hy, hz) s
says_look c r p i by q j past h may s hx false hy z hz = rw (hx, hy) s

pub number_back : (b' b least : ℕ) (num : Option ℕ) → Reached num least → earlier_or (Some b') num ≡ Some b → num ≡ Some b
number_back b' b least None s e = (let k = s.is in cc)
number_back b' b least (Some x) s e = e

says_put : (c : Config) (r p i by q b' least : ℕ) (past J : List Event) → Says r p i past J → (is_member r p J ≡ true → Reached (proposal_number r J) least) → (a : Answer) → (by == r) ≡ true → (y : Bool) → (q == p) ≡ y → (k : Bool) → is_member r q J ≡ k
    → Says r p i past (record { by = by; verb = Verb.PutMin q b'; answer = a } ∷ J)
says_put c r p i by q b' least past J s f Answer.Done hx true hy true hk = rw (hx, hy, hk) (λ a b l m n.
    let o : is_member r p J ≡ true = subst (λ x. is_member r x J ≡ true) (eqb-true q p hy) hk in s a b l o (number_back b' b least (proposal_number r J) (f o) n))
says_put c r p i by q b' least past J s f Answer.Done hx false hy true hk = rw (hx, hy, hk) (λ a b l m n. s a b l m (number_back b' b least (proposal_number r J) (f m) n))
says_put c r p i by q b' least past J s f Answer.Done hx y hy false hk = rw (hx, hk) (λ a b l. cc)
says_put c r p i by q b' least past J s f x hx y hy k hk = rw hx (λ a b l m n. s a b l m (number_back b' b least (proposal_number r J) (f m) n))

says_step : (c : Config) (r p i by : ℕ) (v : Verb) (past : List Event) → IsLegalHistory c past → Needs c by (part by past) v → LooksSay r p i past → LooksSay r p i (event_after c past by v ∷ past)
says_step c r p i by (Verb.Ask q) past h may s = at_part (Says r p i (event_after c past by (Verb.Ask q) ∷ past)) r (event_after c past by (Verb.Ask q)) past (looks_kept c r p i by (Verb.Ask q) past h may s)
    (λ _. says_ask' (looks_kept c r p i by (Verb.Ask q) past h may s) (is_first_ask r by (Verb.Ask q)) refl)
  where
    says_ask' : Says r p i (event_after c past by (Verb.Ask q) ∷ past) (part r past) → (t : Bool) → is_first_ask r by (Verb.Ask q) ≡ t → Says r p i (event_after c past by (Verb.Ask q) ∷ past) (event_after c past by (Verb.Ask q) ∷ part r past)
    says_ask' s true h = rw h (λ a b l. cc)
    says_ask' s false h = rw h s
says_step c r p i by (Verb.Look q j) past h may s = at_part (Says r p i (event_after c past by (Verb.Look q j) ∷ past)) r (event_after c past by (Verb.Look q j)) past (looks_kept c r p i by (Verb.Look q j) past h may s)
    (λ hx. says_look c r p i by q j past h may (looks_kept c r p i by (Verb.Look q j) past h may s) hx (q == p) refl (j == i) refl)
says_step c r p i by (Verb.PutMin q b) past h may s = at_part (Says r p i (event_after c past by (Verb.PutMin q b) ∷ past)) r (event_after c past by (Verb.PutMin q b)) past (looks_kept c r p i by (Verb.PutMin q b) past h may s)
    (λ hx. says_put c r p i by q b (region_min p past) (event_after c past by (Verb.PutMin q b) ∷ past) (part r past) (looks_kept c r p i by (Verb.PutMin q b) past h may s) (member_reached c r p past h) (put_answer (drained by q past)) hx (q == p) refl (is_member r q (part r past)) refl)
says_step c r p i by v past h may s = at_part (Says r p i (event_after c past by v ∷ past)) r (event_after c past by v) past (looks_kept c r p i by v past h may s) (λ _. looks_kept c r p i by v past h may s)

pub looks_say : (c : Config) (r p i : ℕ) (past : List Event) → IsLegalHistory c past → LooksSay r p i past
looks_say c r p i = legal_induction c (LooksSay r p i) (λ a b l. cc) (λ past by v h may s. says_step c r p i by v past h may.may s)
