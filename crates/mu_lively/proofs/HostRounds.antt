-- How a host whose places are called in the cycle's order comes to a grant.
use Rattle.std.proofs.Common.{Bool, List, None, Some, [], false, true, ℕ, ◌*◌, ◌++◌, ◌+◌, ◌<◌, ◌==◌, ◌∷◌, ◌≡◌, ◌≤◌, ◌⊎◌, arith, inl, inr, length, length-append, refl, subst, sym, ◌∙◌, true≢false}
use Rattle.std.specs.declared.option.Option.{Option}
use Rattle.std.proofs.lemmas.Bool.{cases_lt, eq-eqb, eqb-true, and_parts}
use Rattle.mu_model.specs.declared.config.Config.{Config}
use Rattle.mu_model.specs.declared.event.Answer.{Answer}
use Rattle.mu_model.specs.declared.event.Event.{Event}
use Rattle.mu_model.specs.declared.event.Verb.{Verb}
use Rattle.mu_model.specs.Allowed.{Allowed, Needs}
use Rattle.mu_model.specs.Histories.{has, event_by}
use Rattle.mu_model.specs.Regions.{fence_closing}
use Rattle.mu_model.specs.Serving.{drained_since_close, has_unserved_ask, looked_since_close, must_drain}
use Rattle.mu_model.specs.Steps.{is_ask_read, is_ask_read_verb, is_granting, is_granting_verb}
use Rattle.mu_lively.specs.Order.{FollowsCycle, GrantsInTheRound, GrantsWithinTheCycle, InCycleOrder, MakesDue, is_host_verb}
use Rattle.mu_grant.specs.Pace.{ask_place, host_place}
use Rattle.mu_grant.specs.Stands.{is_of_place}
use Rattle.mu_lively.proofs.HostPlaces.{IsNext, at_place, next, next_is, place_at, position}
use Rattle.mu_lively.proofs.HostTurns.{closes, closing_on, granted_before, granted_now, least, not_all, of_grants, of_host, reads_ask, waits_on}

-- what holds of the host before each turn: a pending `Close` has somebody waiting, is looked at and drained by its place, and is granted on by the place of grants
record IsReady (c : Config) (r : ℕ) (past : List Event) : Type 0 where
  rested : (position c past ≤ 4 * c.replicas) ⊎ (4 * c.replicas + 7 ≤ position c past) → fence_closing r past ≡ false
  waited : fence_closing r past ≡ true → (w : ℕ) × (w < c.replicas) × (has_unserved_ask r past w ≡ true)
  looked : 4 * c.replicas + 3 ≤ position c past → must_drain r past ≡ true → looked_since_close r past ≡ true
  drained : 4 * c.replicas + 5 ≤ position c past → must_drain r past ≡ true → drained_since_close r past ≡ true

-- the premises of one turn
record IsTurn (c : Config) (r by : ℕ) (verb : Verb) (answer : Answer) (past : List Event) : Type 0 where
  inside : r < c.replicas
  left : length past < c.budget
  turn : FollowsCycle c r past (event_by by verb answer)

-- a verb of the host that is made at a place was due there
at_due : (c : Config) (r d : ℕ) (past : List Event) (verb : Verb) → MakesDue c r past d verb → is_host_verb verb ≡ true → (is_of_place d verb ≡ true) × Allowed c r past verb
at_due c r d past verb m is = go m.due refl
  where
    go : (o : Option Verb) → m.due ≡ o → (is_of_place d verb ≡ true) × Allowed c r past verb
    go None none = absurd (true≢false (sym is ∙ m.idle none))
    go (Some v) some = rw (m.made v some) (m.gives.given v some)

-- if a verb of the place is allowed, one of the place is made
is_made : (c : Config) (r d : ℕ) (past : List Event) (verb wanted : Verb) → MakesDue c r past d verb → is_of_place d wanted ≡ true → Allowed c r past wanted → is_of_place d verb ≡ true
is_made c r d past verb wanted m of may = go m.due refl
  where
    go : (o : Option Verb) → m.due ≡ o → is_of_place d verb ≡ true
    go None none = absurd (m.gives.none none wanted of may)
    go (Some v) some = rw (m.made v some) (m.gives.given v some).0

-- the same at a turn
has_to : (c : Config) (r by d : ℕ) (verb : Verb) (answer : Answer) (past : List Event) → IsTurn c r by verb answer past → d < 4 → position c past ≡ 4 * c.replicas + 2 * d → (wanted : Verb) → is_of_place d wanted ≡ true → Needs c r past wanted → is_of_place d verb ≡ true
has_to c r by d verb answer past t low at wanted of needs =
    is_made c r d past verb wanted (t.turn.host d (omega arith) (place_at c (host_place c d) past (omega arith))) of (record { budget = t.left; replica = t.inside; may = needs })

-- if no verb of the host is made at a place of the host, none of the place was allowed
idles : (c : Config) (r by d : ℕ) (verb : Verb) (answer : Answer) (past : List Event) → IsTurn c r by verb answer past → is_host_verb verb ≡ false → d < 4 → position c past ≡ 4 * c.replicas + 2 * d → (wanted : Verb) → is_of_place d wanted ≡ true → Needs c r past wanted → true ≡ false
idles c r by d verb answer past t idle low at wanted of needs = sym (of_host d verb (has_to c r by d verb answer past t low at wanted of needs)) ∙ idle

-- the place at which a verb of the host is made, and that the verb was allowed
record IsHostTurn (c : Config) (r : ℕ) (past : List Event) (verb : Verb) : Type 0 where
  d : ℕ
  low : d < 4
  at : position c past ≡ 4 * c.replicas + 2 * d
  of : is_of_place d verb ≡ true
  needs : Needs c r past verb

host_turn : (c : Config) (r by : ℕ) (verb : Verb) (answer : Answer) (past : List Event) → IsTurn c r by verb answer past → is_host_verb verb ≡ true → IsHostTurn c r past verb
host_turn c r by verb answer past t is =
    let h = t.turn.nowhere_else is in
    let few = h.1 in
    let due = at_due c r h.0 past verb (t.turn.host h.0 (omega arith) h.2) is in
    let p = at_place c (host_place c h.0) past h.2 in
    record { d = h.0; low = omega arith; at = omega arith; of = due.0; needs = due.1.may }

-- the event is of r
own_is : (c : Config) (r by : ℕ) (verb : Verb) (answer : Answer) (past : List Event) → IsTurn c r by verb answer past → (by == r) ≡ true
own_is c r by verb answer past t = eq-eqb by r t.turn.own

-- if a `Close` is pending and what it named is drained, somebody may be granted to
grant_needs : (c : Config) (r : ℕ) (past : List Event) → IsReady c r past → 4 * c.replicas + 5 ≤ position c past → fence_closing r past ≡ true → (w : ℕ) × Needs c r past (Verb.Grant w)
grant_needs c r past ready late closing =
    let some = ready.waited closing in
    let first = least c.replicas (has_unserved_ask r past) (not_all c.replicas some.0 (has_unserved_ask r past) some.1 some.2) in
    (first.0, (first.1, (closing, (ready.drained late, (first.2, tt)))))

-- if no verb of the host is made, no `Close` is left pending past the place of grants
rests : (c : Config) (r by : ℕ) (verb : Verb) (answer : Answer) (past : List Event) (now : ℕ) → IsTurn c r by verb answer past → IsReady c r past → is_host_verb verb ≡ false
    → IsNext c.replicas (position c past) now → (now ≤ 4 * c.replicas) ⊎ (4 * c.replicas + 7 ≤ now) → fence_closing r past ≡ false
rests c r by verb answer past now t ready idle (inr round) there = let last = round.0 in ready.rested (inr (omega arith))
rests c r by verb answer past now t ready idle (inl up) (inl low) = ready.rested (inl (omega arith))
rests c r by verb answer past now t ready idle (inl up) (inr high) = elim (cases_lt (4 * c.replicas + 6) (position c past)) [
  | inl over ↦ ready.rested (inr (omega arith))
  | inr under ↦ go (omega arith) (fence_closing r past) refl
]
  where
    go : position c past ≡ 4 * c.replicas + 2 * 3 → (t : Bool) → fence_closing r past ≡ t → t ≡ false
    go at false is = refl
    go at true is = let grant = grant_needs c r past ready (omega arith) is in idles c r by 3 verb answer past t idle (omega arith) at (Verb.Grant grant.0) refl grant.1

-- if no verb of the host is made, no look at the target is passed over
looks : (c : Config) (r by : ℕ) (verb : Verb) (answer : Answer) (past : List Event) (now : ℕ) → IsTurn c r by verb answer past → IsReady c r past → is_host_verb verb ≡ false
    → IsNext c.replicas (position c past) now → 4 * c.replicas + 3 ≤ now → must_drain r past ≡ true → looked_since_close r past ≡ true
looks c r by verb answer past now t ready idle (inr round) late must = let first = round.1 in absurd (omega arith)
looks c r by verb answer past now t ready idle (inl up) late must = elim (cases_lt (4 * c.replicas + 2) (position c past)) [
  | inl over ↦ ready.looked (omega arith) must
  | inr under ↦ go (omega arith) (looked_since_close r past) refl
]
  where
    go : position c past ≡ 4 * c.replicas + 2 * 1 → (t : Bool) → looked_since_close r past ≡ t → t ≡ true
    go at true is = refl
    go at false is = sym (idles c r by 1 verb answer past t idle (omega arith) at Verb.LookTarget refl (must, (is, tt)))

-- if no verb of the host is made, no drain is passed over
drains : (c : Config) (r by : ℕ) (verb : Verb) (answer : Answer) (past : List Event) (now : ℕ) → IsTurn c r by verb answer past → IsReady c r past → is_host_verb verb ≡ false
    → IsNext c.replicas (position c past) now → 4 * c.replicas + 5 ≤ now → must_drain r past ≡ true → drained_since_close r past ≡ true
drains c r by verb answer past now t ready idle (inr round) late must = let first = round.1 in absurd (omega arith)
drains c r by verb answer past now t ready idle (inl up) late must = elim (cases_lt (4 * c.replicas + 4) (position c past)) [
  | inl over ↦ ready.drained (omega arith) must
  | inr under ↦ go (omega arith) (drained_since_close r past) refl
]
  where
    go : position c past ≡ 4 * c.replicas + 2 * 2 → (t : Bool) → drained_since_close r past ≡ t → t ≡ true
    go at true is = refl
    go at false is = sym (idles c r by 2 verb answer past t idle (omega arith) at Verb.Drain refl (must, (ready.looked (omega arith) must, (is, tt))))

-- with no `Close` pending a host is ready
ready_open : (c : Config) (r : ℕ) (past : List Event) → fence_closing r past ≡ false → IsReady c r past
ready_open c r past is = record {
  rested = λ there. is;
  waited = λ closing. absurd (true≢false (sym closing ∙ is));
  looked = λ late must. absurd (true≢false (sym (and_parts (fence_closing r past) _ must).0 ∙ is));
  drained = λ late must. absurd (true≢false (sym (and_parts (fence_closing r past) _ must).0 ∙ is));
}

-- a host stays ready at each turn
ready_next : (c : Config) (r by : ℕ) (verb : Verb) (answer : Answer) (past : List Event) → IsTurn c r by verb answer past → IsReady c r past → IsReady c r (event_by by verb answer ∷ past)
ready_next c r by Verb.Close answer past t ready =
    let h = host_turn c r by Verb.Close answer past t refl in
    let zeroth = eqb-true h.d 0 h.of in
    let at = h.at in
    let now = next_is c (event_by by Verb.Close answer) past (4 * c.replicas) (omega arith) (omega arith) in
    let first = least c.replicas (has_unserved_ask r past) h.needs.1.0 in record {
      rested = λ there. elim there [ inl low ↦ absurd (omega arith) | inr high ↦ absurd (omega arith) ];
      waited = λ is. (first.0, first.1, (and_parts (has_unserved_ask r past first.0) _ first.2).0);
      looked = λ late must. absurd (omega arith);
      drained = λ late must. absurd (omega arith);
    }
ready_next c r by Verb.LookTarget answer past t ready =
    let h = host_turn c r by Verb.LookTarget answer past t refl in
    let first = eqb-true h.d 1 h.of in
    let at = h.at in
    let now = next_is c (event_by by Verb.LookTarget answer) past (4 * c.replicas + 2) (omega arith) (omega arith) in record {
      rested = λ there. elim there [ inl low ↦ absurd (omega arith) | inr high ↦ absurd (omega arith) ];
      waited = ready.waited;
      looked = λ late must. rw (own_is c r by Verb.LookTarget answer past t) refl;
      drained = λ late must. absurd (omega arith);
    }
ready_next c r by Verb.Drain answer past t ready =
    let h = host_turn c r by Verb.Drain answer past t refl in
    let second = eqb-true h.d 2 h.of in
    let at = h.at in
    let now = next_is c (event_by by Verb.Drain answer) past (4 * c.replicas + 4) (omega arith) (omega arith) in record {
      rested = λ there. elim there [ inl low ↦ absurd (omega arith) | inr high ↦ absurd (omega arith) ];
      waited = ready.waited;
      looked = λ late must. h.needs.1.0;
      drained = λ late must. rw (own_is c r by Verb.Drain answer past t) refl;
    }
ready_next c r by (Verb.Grant w) answer past t ready = ready_open c r (event_by by (Verb.Grant w) answer ∷ past) (rw (own_is c r by (Verb.Grant w) answer past t) refl)
ready_next c r by (Verb.ReadAsk w) answer past t ready =
    let asked = t.turn.asks w refl in
    let low = asked.0 in
    let at = at_place c (ask_place c w) past asked.1 in
    ready_open c r (event_by by (Verb.ReadAsk w) answer ∷ past) (ready.rested (inl (omega arith)))
ready_next c r by verb answer past t ready = record {
  rested = rests c r by verb answer past (position c (event_by by verb answer ∷ past)) t ready refl (next c (event_by by verb answer) past);
  waited = ready.waited;
  looked = looks c r by verb answer past (position c (event_by by verb answer ∷ past)) t ready refl (next c (event_by by verb answer) past);
  drained = drains c r by verb answer past (position c (event_by by verb answer ∷ past)) t ready refl (next c (event_by by verb answer) past);
}

-- a host is ready throughout
ready : (c : Config) (r : ℕ) (past : List Event) → r < c.replicas → length past ≤ c.budget → InCycleOrder c r past → IsReady c r past
ready c r [] inside left order = ready_open c r [] refl
ready c r (e ∷ past) inside left order = ready_next c r e.by e.verb e.answer past (record { inside = inside; left = omega arith; turn = order.1 }) (ready c r past inside (omega arith) order.0)

-- asks are read while the region isn't closing
pub reads_open : (c : Config) (r w : ℕ) (past : List Event) (e : Event) → r < c.replicas → length past < c.budget → InCycleOrder c r (e ∷ past) → e.verb ≡ Verb.ReadAsk w → fence_closing r past ≡ false
reads_open c r w past e inside left order is =
    let asked = order.1.asks w is in
    let at = at_place c (ask_place c w) past asked.1 in
    let low = asked.0 in
    (ready c r past inside (omega (arith, left)) order.0).rested (inl (omega (arith, at, low)))

-- what came before some events was in order too
older_order : (c : Config) (r : ℕ) (newer past : List Event) → InCycleOrder c r (newer ++ past) → InCycleOrder c r past
older_order c r [] past order = order
older_order c r (e ∷ newer) past order = older_order c r newer past order.0

-- since the read that left w unserved nothing was granted, and the place of grants is not passed
record IsPending (c : Config) (r w since : ℕ) (past : List Event) : Type 0 where
  at : position c past ≡ 2 * c.replicas + 2 * w + 1 + since
  near : position c past ≤ 4 * c.replicas + 6
  waiting : position c past ≤ 4 * c.replicas → has_unserved_ask r past w ≡ true
  closing : 4 * c.replicas + 1 ≤ position c past → fence_closing r past ≡ true

-- from the place of closing on a `Close` is pending, if the next event grants nothing
closes_now : (c : Config) (r w since by : ℕ) (verb : Verb) (answer : Answer) (past : List Event) → w < c.replicas → IsTurn c r by verb answer past → IsReady c r past → IsPending c r w since past
    → is_granting_verb verb ≡ false → 4 * c.replicas ≤ position c past → fence_closing r (event_by by verb answer ∷ past) ≡ true
closes_now c r w since by verb answer past low t ready pending none late = elim (cases_lt (4 * c.replicas) (position c past)) [
  | inl over ↦ closing_on r by verb answer past (own_is c r by verb answer past t) none (pending.closing (omega arith))
  | inr under ↦
      closes r by verb answer past (own_is c r by verb answer past t)
      (has_to c r by 0 verb answer past t (omega arith) (omega arith) Verb.Close refl (ready.rested (inl under), (not_all c.replicas w (has_unserved_ask r past) low (pending.waiting under), tt)))
]

-- the next event isn't at the place of grants, if it grants nothing
grants_now : (c : Config) (r w since by : ℕ) (verb : Verb) (answer : Answer) (past : List Event) → IsTurn c r by verb answer past → IsReady c r past → IsPending c r w since past → is_granting_verb verb ≡ false → position c past ≤ 4 * c.replicas + 5
grants_now c r w since by verb answer past t ready pending none = elim (cases_lt (position c past) (4 * c.replicas + 6)) [
  | inl under ↦ omega arith
  | inr over ↦
      let near = pending.near in
      let grant = grant_needs c r past ready (omega arith) (pending.closing (omega arith)) in
      absurd (true≢false (sym (of_grants verb (has_to c r by 3 verb answer past t (omega arith) (omega arith) (Verb.Grant grant.0) refl grant.1)) ∙ none))
]

-- its asks are not read again before the place of closing
reads_now : (c : Config) (r w since by : ℕ) (verb : Verb) (answer : Answer) (past : List Event) → IsTurn c r by verb answer past → IsPending c r w since past → is_ask_read_verb w verb ≡ false
reads_now c r w since by verb answer past t pending = go (is_ask_read_verb w verb) refl
  where
    go : (u : Bool) → is_ask_read_verb w verb ≡ u → u ≡ false
    go false is = refl
    go true is = let at = at_place c (ask_place c w) past (t.turn.asks w (reads_ask w verb is)).1 in let now = pending.at in absurd (omega arith)

-- one more event that grants nothing
pending_next : (c : Config) (r w since by : ℕ) (verb : Verb) (answer : Answer) (past : List Event) → w < c.replicas → IsTurn c r by verb answer past → IsReady c r past → IsPending c r w since past → is_granting_verb verb ≡ false
    → IsPending c r w (since + 1) (event_by by verb answer ∷ past)
pending_next c r w since by verb answer past low t ready pending none =
    let at = pending.at in
    let near = grants_now c r w since by verb answer past t ready pending none in
    let now = next_is c (event_by by verb answer) past (position c past) refl (omega arith) in record {
      at = omega arith;
      near = omega arith;
      waiting = λ early. waits_on r w by verb answer past (own_is c r by verb answer past t) none (reads_now c r w since by verb answer past t pending) ∙ pending.waiting (omega arith);
      closing = λ late. closes_now c r w since by verb answer past low t ready pending none (omega arith);
    }

-- right after the read
pending_first : (c : Config) (r w : ℕ) (e : Event) (older : List Event) → w < c.replicas → position c older ≡ 2 * (c.replicas + w) → has_unserved_ask r (e ∷ older) w ≡ true → IsPending c r w 0 (e ∷ older)
pending_first c r w e older low at waits =
    let now = next_is c e older (2 * (c.replicas + w)) at (omega arith) in record {
      at = omega arith;
      near = omega arith;
      waiting = λ early. waits;
      closing = λ late. absurd (omega arith);
    }

-- a grant came, or it is still pending
granted_or_pending : (c : Config) (r w : ℕ) (window after : List Event) → r < c.replicas → w < c.replicas → length (window ++ after) ≤ c.budget → InCycleOrder c r (window ++ after) → IsPending c r w 0 after
    → (has is_granting window ≡ true) ⊎ IsPending c r w (length window) (window ++ after)
granted_or_pending c r w [] after inside low left order first = inr first
granted_or_pending c r w (e ∷ window) after inside low left order first = elim (granted_or_pending c r w window after inside low (omega arith) order.0 first) [
  | inl granted ↦ inl (granted_before e window granted)
  | inr pending ↦ go pending (is_granting e) refl
]
  where
    go : IsPending c r w (length window) (window ++ after) → (t : Bool) → is_granting e ≡ t → (has is_granting (e ∷ window) ≡ true) ⊎ IsPending c r w (length (e ∷ window)) (e ∷ (window ++ after))
    go pending true is = inl (granted_now e window is)
    go pending false is =
        let one : length window + 1 ≡ length (e ∷ window) = omega arith in
        inr (subst (λ k. IsPending c r w k (e ∷ (window ++ after))) one (pending_next c r w (length window) e.by e.verb e.answer (window ++ after) low
        (record { inside = inside; left = omega arith; turn = order.1 }) (ready c r (window ++ after) inside (omega arith) order.0) pending is))

-- the grant comes at the latest at the next place of grants
in_the_round : (c : Config) (r w : ℕ) (e : Event) (window older : List Event) → r < c.replicas → length (window ++ (e ∷ older)) ≤ c.budget → InCycleOrder c r (window ++ (e ∷ older)) → is_ask_read w e ≡ true → has_unserved_ask r (e ∷ older) w ≡ true
    → 2 * c.replicas + 6 ≤ length window + 2 * w → has is_granting window ≡ true
in_the_round c r w e window older inside left order read waits long =
    let asked = (older_order c r window (e ∷ older) order).1.asks w (reads_ask w e.verb read) in
    elim (granted_or_pending c r w window (e ∷ older) inside asked.0 left order (pending_first c r w e older asked.0 (at_place c (ask_place c w) older asked.1) waits)) [
      | inl granted ↦ granted
      | inr pending ↦ let at = pending.at in let near = pending.near in absurd (omega arith)
    ]

-- of a journal too
pub rounds : GrantsInTheRound
rounds c r past inside left order w e window older stretch read waits long =
    let within = length-append stretch.newer (window ++ (e ∷ older)) in
    let all : length (stretch.newer ++ (window ++ (e ∷ older))) ≤ c.budget = subst (λ xs. length xs ≤ c.budget) stretch.is left in
    in_the_round c r w e window older inside (omega arith) (older_order c r stretch.newer (window ++ (e ∷ older)) (subst (λ xs. InCycleOrder c r xs) stretch.is order)) read waits (omega arith)

-- a round of the cycle is longer than that
pub cycles : GrantsWithinTheCycle
cycles c r past inside left order w e window older stretch read waits long = rounds c r past inside (omega arith) order w e window older stretch read waits (omega arith)
