-- The short counts of a leader.
use Rattle.std.proofs.Common.{◌≡◌, ℕ, ◌+◌, ◌<◌, ◌≤◌, ◌⊎◌, inl, inr, Bool, true, false, ◌&&◌, List, [], ◌∷◌, refl, sym, ◌∙◌, arith, Some, None, subst, true≢false}
use Rattle.std.specs.Prelude.{if◌then◌else◌, not, ◌||◌}
use Rattle.std.proofs.lemmas.Bool.{cases_lt, cases_order}
use Rattle.mu_agree.specs.Paces.{asks_or_rests, steps_since}
use Rattle.mu_model.specs.declared.config.Config.{Config}
use Rattle.mu_model.specs.declared.event.Event.{Event}
use Rattle.mu_model.specs.declared.event.Verb.{Verb}
use Rattle.mu_model.specs.Bounds.{members}
use Rattle.mu_model.specs.Diligence.{has_to_ask, is_confirmed}
use Rattle.mu_model.specs.Leaderships.{begins_leadership, has_begun, is_member}
use Rattle.mu_model.specs.Steps.{commits_more, has_min, is_any_fencing, is_any_fencing_verb, is_fencing, is_min, is_min_verb, is_missed_at, is_named}
use Rattle.mu_model.specs.Stretches.{is_replication}
use Rattle.mu_pace.specs.Countdowns.{AreRaisedBelow, AsksInTurn, ConfirmsInTurn, CountdownsRun, ExplainsInTurn, JoinsInTurn, RaisesInTurn}
use Rattle.mu_pace.specs.Counters.{HasRoom, allowed_after, steps_left}
use Rattle.mu_pace.specs.Watches.{confirming, explaining, is_answer_to_welcome, is_confirming, is_full_raise, is_welcoming, joining, raising, turns_away}
use Rattle.mu_pace.proofs.Beside.{unallowed}
use Rattle.mu_pace.proofs.Counting.{allowed_here}
use Rattle.mu_agree.proofs.Members.{member_on}
use Rattle.mu_pace.proofs.Placed.{met_leaves, shut}
use Rattle.mu_pace.proofs.Rooms.{kinds_of_step}

-- raised FUOs
raises_none : (c : Config) (r p : ℕ) (past : List Event) (e : Event) → (commits_more c r past e && is_member r p (e ∷ past)) ≡ false → allowed_after (λ before f. commits_more c r before f && is_member r p (f ∷ before)) (members c r) (e ∷ past) ≡ None
raises_none c r p past e h = unallowed (λ before f. commits_more c r before f && is_member r p (f ∷ before)) (members c r) past e h

both_false : (a b : Bool) → (a ≡ false) ⊎ (b ≡ false) → (a && b) ≡ false
both_false true true (inl h) = h
both_false true true (inr h) = h
both_false true false h = refl
both_false false b h = refl

raise_quiet : (c : Config) (r p : ℕ) (past : List Event) (e : Event) → commits_more c r past e ≡ false → steps_left (raising c r p) past ≡ None → steps_left (raising c r p) (e ∷ past) ≡ None
raise_quiet c r p past e n o = kinds_of_step.stays_closed (raising c r p) past e (raises_none c r p past e (both_false (commits_more c r past e) (is_member r p (e ∷ past)) (inl n))) o

-- the count of one that is no member is closed
raising_none : (c : Config) (r p : ℕ) (now : List Event) → is_member r p now ≡ false → steps_left (raising c r p) now ≡ None
raising_none c r p [] m = refl
raising_none c r p (e ∷ past) m = go (begins_leadership r e) refl (raising_none c r p past)
  where
    none : allowed_after (λ before f. commits_more c r before f && is_member r p (f ∷ before)) (members c r) (e ∷ past) ≡ None
    none = raises_none c r p past e (both_false (commits_more c r past e) (is_member r p (e ∷ past)) (inr m))

    before : begins_leadership r e ≡ false → (t : Bool) → is_member r p past ≡ t → is_member r p past ≡ false
    before b true k = absurd (true≢false (sym (member_on r p e past b k) ∙ m))
    before b false k = k

    begins : (t u : Bool) → t ≡ true → (t || u) ≡ true
    begins true u h = refl
    begins false u h = absurd (true≢false (sym h))

    go : (t : Bool) → begins_leadership r e ≡ t → (is_member r p past ≡ false → steps_left (raising c r p) past ≡ None) → steps_left (raising c r p) (e ∷ past) ≡ None
    go true b ih = shut (raising c r p) past e none (begins (begins_leadership r e) (turns_away c r (is_full_raise c r p) past e) b)
    go false b ih = kinds_of_step.stays_closed (raising c r p) past e none (ih (before b (is_member r p past) refl))

commit : (c : Config) (r q : ℕ) (past : List Event) (e : Event) → commits_more c r past e ≡ true → ((p : ℕ) → steps_left (raising c r p) past ≡ None) → ((p : ℕ) → p < q → is_member r p (e ∷ past) ≡ false)
    → AreRaisedBelow c r q (members c r (e ∷ past)) (e ∷ past)
commit c r q past e m o none = record {
  done = λ p l. raising_none c r p (e ∷ past) (none p l);
  room = λ p. go p (commits_more c r past e && is_member r p (e ∷ past)) refl;
}
  where
    go : (p : ℕ) (t : Bool) → (commits_more c r past e && is_member r p (e ∷ past)) ≡ t → HasRoom (raising c r p) (members c r (e ∷ past)) (e ∷ past)
    go p true k = kinds_of_step.opens (raising c r p) (members c r (e ∷ past)) (members c r (e ∷ past)) past e (allowed_here (λ before f. commits_more c r before f && is_member r p (f ∷ before)) (members c r) past e k) (o p) (omega arith)
    go p false k = kinds_of_step.closed (raising c r p) (members c r (e ∷ past)) (e ∷ past) (kinds_of_step.stays_closed (raising c r p) past e (raises_none c r p past e k) (o p))

raise : (c : Config) (r q next left : ℕ) (past : List Event) (e : Event) → AreRaisedBelow c r q (left + 1) past → is_replication past e ≡ true → is_full_raise c r q past e ≡ true → commits_more c r past e ≡ false
    → ((p : ℕ) → q < p → p < next → is_member r p (e ∷ past) ≡ false) → AreRaisedBelow c r next left (e ∷ past)
raise c r q next left past e a t f n none = record {
  done = λ p l. elim (cases_order p q) [
    | inl same ↦ subst (λ z. steps_left (raising c r z) (e ∷ past) ≡ None) (sym same)
        (shut (raising c r q) past e (raises_none c r q past e (both_false (commits_more c r past e) (is_member r q (e ∷ past)) (inl n))) (met_leaves c r (is_full_raise c r q) past e t f))
    | inr (inl below) ↦ raise_quiet c r p past e n (a.done p below)
    | inr (inr above) ↦ raising_none c r p (e ∷ past) (none p above l)
  ];
  room = λ p. kinds_of_step.goes_on (raising c r p) (left + 1) left past e (raises_none c r p past e (both_false (commits_more c r past e) (is_member r p (e ∷ past)) (inl n))) (omega arith) (a.room p);
}

all : (c : Config) (r q left : ℕ) (now : List Event) → AreRaisedBelow c r q left now → ((p : ℕ) → q ≤ p → is_member r p now ≡ false) → (p : ℕ) → steps_left (raising c r p) now ≡ None
all c r q left now a none p = elim (cases_lt p q) [ inl l ↦ a.done p l | inr l ↦ raising_none c r p now (none p l) ]

raises : RaisesInTurn
raises = record { commit = commit; raise = raise; all = all; quiet = raise_quiet }

-- joining
welcome : (c : Config) (r p : ℕ) (past : List Event) (e : Event) → is_welcoming c r p past e ≡ true → steps_left (joining c r p) past ≡ None → HasRoom (joining c r p) 4 (e ∷ past)
welcome c r p past e w o = kinds_of_step.opens (joining c r p) 4 4 past e (allowed_here (is_welcoming c r p) (λ now. 4) past e w) o (omega arith)

join_step : (c : Config) (r p left : ℕ) (past : List Event) (e : Event) → is_welcoming c r p past e ≡ false → HasRoom (joining c r p) (left + 1) past → HasRoom (joining c r p) left (e ∷ past)
join_step c r p left past e w h = kinds_of_step.goes_on (joining c r p) (left + 1) left past e (unallowed (is_welcoming c r p) (λ now. 4) past e w) (omega arith) h

answer : (c : Config) (r p : ℕ) (past : List Event) (e : Event) → is_replication past e ≡ true → is_answer_to_welcome c r p past e ≡ true → is_welcoming c r p past e ≡ false → steps_left (joining c r p) (e ∷ past) ≡ None
answer c r p past e t a w = shut (joining c r p) past e (unallowed (is_welcoming c r p) (λ now. 4) past e w) (met_leaves c r (is_answer_to_welcome c r p) past e t a)

join_quiet : (c : Config) (r p : ℕ) (past : List Event) (e : Event) → is_welcoming c r p past e ≡ false → steps_left (joining c r p) past ≡ None → steps_left (joining c r p) (e ∷ past) ≡ None
join_quiet c r p past e w o = kinds_of_step.stays_closed (joining c r p) past e (unallowed (is_welcoming c r p) (λ now. 4) past e w) o

joins : JoinsInTurn
joins = record { welcome = welcome; step = join_step; answer = answer; quiet = join_quiet }

-- confirmation
met_away : (c : Config) (r : ℕ) (met : List Event → Event → Bool) (past : List Event) (e : Event) → is_replication past e ≡ true → met past e ≡ true → turns_away c r met past e ≡ true
met_away c r met past e t m = go (is_replication past e) (is_named c r past) (met past e) t m
  where
    go : (t u v : Bool) → t ≡ true → v ≡ true → (t && (not u || v)) ≡ true
    go true true v t m = m
    go true false v t m = refl
    go false u v t m = absurd (true≢false (sym t))

only_fences : (a b m k : Bool) → (b ≡ false) ⊎ (k ≡ false) → (a && (b && (not m && k))) ≡ false
only_fences true true true k h = refl
only_fences true true false true (inl h) = absurd (true≢false h)
only_fences true true false true (inr h) = absurd (true≢false h)
only_fences true true false false h = refl
only_fences true false m k h = refl
only_fences false b m k h = refl

confirms_none : (c : Config) (r : ℕ) (past : List Event) (e : Event) → (is_any_fencing e ≡ false) ⊎ (is_confirmed c r (e ∷ past) ≡ false) → allowed_after (is_confirming c r) (λ now. c.replicas) (e ∷ past) ≡ None
confirms_none c r past e h = unallowed (is_confirming c r) (λ now. c.replicas) past e (only_fences (has_begun r past) (is_any_fencing e) (has_min r past) (is_confirmed c r (e ∷ past)) h)

confirm_fence : (c : Config) (r left : ℕ) (past : List Event) (e : Event) → left ≤ c.replicas → HasRoom (confirming c r) (left + 1) past → HasRoom (confirming c r) left (e ∷ past)
confirm_fence c r left past e l h = kinds_of_step.takes (confirming c r) (left + 1) left past e (λ a k. within (is_confirming c r past e) a k) (omega arith) h
  where
    within : (t : Bool) (a : ℕ) → (if t then Some c.replicas else None) ≡ Some a → left ≤ a
    within true a k = let e : c.replicas ≡ a = cc in omega arith
    within false a k = cc

unconfirmed : (c : Config) (r : ℕ) (past : List Event) (e : Event) → is_replication past e ≡ true → is_any_fencing e ≡ true → is_confirmed c r (e ∷ past) ≡ false → steps_left (confirming c r) (e ∷ past) ≡ None
unconfirmed c r past e t f n =
    shut (confirming c r) past e (confirms_none c r past e (inr n))
    (met_away c r (λ before g. is_min g || (is_any_fencing g && not (is_confirmed c r (g ∷ before)))) past e t (ends (is_min e) (is_any_fencing e) (is_confirmed c r (e ∷ past)) f n))
  where
    ends : (a b k : Bool) → b ≡ true → k ≡ false → (a || (b && not k)) ≡ true
    ends true b k f n = refl
    ends false true true f n = absurd (true≢false n)
    ends false true false f n = refl
    ends false false k f n = absurd (true≢false (sym f))

no_fence : (v : Verb) → is_min_verb v ≡ true → is_any_fencing_verb v ≡ false
no_fence (Verb.Min p) h = refl
no_fence (Verb.Fence p) h = absurd (true≢false (sym h))
no_fence v h = refl

begun : (c : Config) (r : ℕ) (past : List Event) (e : Event) → is_replication past e ≡ true → is_min e ≡ true → steps_left (confirming c r) (e ∷ past) ≡ None
begun c r past e t m =
    shut (confirming c r) past e (confirms_none c r past e (inl (no_fence e.verb m)))
    (met_away c r (λ before g. is_min g || (is_any_fencing g && not (is_confirmed c r (g ∷ before)))) past e t (ends (is_min e) (is_any_fencing e && not (is_confirmed c r (e ∷ past))) m))
  where
    ends : (a b : Bool) → a ≡ true → (a || b) ≡ true
    ends true b h = refl
    ends false b h = absurd (true≢false (sym h))

confirm_quiet : (c : Config) (r : ℕ) (past : List Event) (e : Event) → is_any_fencing e ≡ false → steps_left (confirming c r) past ≡ None → steps_left (confirming c r) (e ∷ past) ≡ None
confirm_quiet c r past e n o = kinds_of_step.stays_closed (confirming c r) past e (confirms_none c r past e (inl n)) o

confirms : ConfirmsInTurn
confirms = record { fence = confirm_fence; unconfirmed = unconfirmed; begun = begun; quiet = confirm_quiet }

-- evidence after a miss
miss : (c : Config) (r p : ℕ) (past : List Event) (e : Event) → is_missed_at p e ≡ true → steps_left (explaining c r p) past ≡ None → HasRoom (explaining c r p) 1 (e ∷ past)
miss c r p past e m o = kinds_of_step.opens (explaining c r p) 1 1 past e (allowed_here (λ before f. is_missed_at p f) (λ now. 1) past e m) o (omega arith)

explain : (c : Config) (r p : ℕ) (past : List Event) (e : Event) → is_replication past e ≡ true → is_fencing p e ≡ true → is_missed_at p e ≡ false → steps_left (explaining c r p) (e ∷ past) ≡ None
explain c r p past e t f n = shut (explaining c r p) past e (unallowed (λ before f. is_missed_at p f) (λ now. 1) past e n) (met_away c r (λ before g. is_fencing p g) past e t f)

explain_quiet : (c : Config) (r p : ℕ) (past : List Event) (e : Event) → is_missed_at p e ≡ false → steps_left (explaining c r p) past ≡ None → steps_left (explaining c r p) (e ∷ past) ≡ None
explain_quiet c r p past e n o = kinds_of_step.stays_closed (explaining c r p) past e (unallowed (λ before f. is_missed_at p f) (λ now. 1) past e n) o

explains : ExplainsInTurn
explains = record { miss = miss; fence = explain; quiet = explain_quiet }

-- steps since an ask
after_ask : (t u w : Bool) (n : ℕ) → t ≡ true → (u ≡ true) ⊎ (w ≡ false) → (if t && (u || not w) then 0 else (if t then n + 1 else n)) ≡ 0
after_ask true true w n h k = refl
after_ask true false false n h k = refl
after_ask true false true n h (inl k) = absurd (true≢false (sym k))
after_ask true false true n h (inr k) = absurd (true≢false k)
after_ask false u w n h k = absurd (true≢false (sym h))

one_step : (t u : Bool) (n : ℕ) → (if t then 0 else (if u then n + 1 else n)) ≤ n + 1
one_step true u n = omega arith
one_step false true n = omega arith
one_step false false n = omega arith

no_step : (t u : Bool) (n : ℕ) → t ≡ false → (if t && u then 0 else (if t then n + 1 else n)) ≡ n
no_step true u n h = absurd (true≢false h)
no_step false u n h = refl

asks : AsksInTurn
asks = record {
  asked = λ c r test past e t h. after_ask (is_replication past e) (test e) (has_to_ask c r past) (steps_since (asks_or_rests c r test) past) t (inl h);
  rests = λ c r test past e t h. after_ask (is_replication past e) (test e) (has_to_ask c r past) (steps_since (asks_or_rests c r test) past) t (inr h);
  step = λ c r test past e. one_step (asks_or_rests c r test past e) (is_replication past e) (steps_since (asks_or_rests c r test) past);
  beside = λ c r test past e t. no_step (is_replication past e) (test e || not (has_to_ask c r past)) (steps_since (asks_or_rests c r test) past) t;
}

pub countdowns_run : CountdownsRun
countdowns_run = record { raises = raises; joins = joins; confirms = confirms; explains = explains; asks = asks }
