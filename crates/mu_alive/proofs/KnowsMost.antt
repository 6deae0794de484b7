-- In a history in which one replica asks alone nobody knows more than it, and no FUO is above that.
use Rattle.std.proofs.Common.{◌≡◌, ◌≢◌, ◌⊎◌, ℕ, ◌+◌, ◌<◌, ◌≤◌, ◌==◌, ◌&&◌, ◌||◌, not, inl, inr, Bool, true, false, cond, Some, None, List, [], ◌∷◌, length, refl, sym, ◌∙◌, ap, arith, subst, eqb-true, true≢false}
use Rattle.std.specs.Prelude.{if◌then◌else◌, is_some, nat_lt}
use Rattle.std.proofs.lemmas.Bool.{and_parts, cases_eq, eq-eqb, le-leb, le-ltb, ltb-true}
use Rattle.std.proofs.lemmas.List.{length-append}
use Rattle.std.proofs.lemmas.Option.{slice_get_within}
use Rattle.mu_model.specs.declared.config.Config.{Config}
use Rattle.mu_model.specs.declared.event.Answer.{Answer}
use Rattle.mu_model.specs.declared.event.Event.{Event}
use Rattle.mu_model.specs.declared.event.Verb.{Verb}
use Rattle.mu_model.specs.Allowed.{Allowed}
use Rattle.mu_model.specs.Answers.{answer_of, drained, put_answer}
use Rattle.mu_model.specs.Bounds.{is_at_most, is_learning}
use Rattle.mu_model.specs.Diligence.{is_fuo_above}
use Rattle.mu_model.specs.Histories.{has, max_with, part}
use Rattle.mu_model.specs.Knowledge.{entry_seen, greatest_fuo_read, grown, is_known_decided, known}
use Rattle.mu_model.specs.Legal.{IsLegalHistory}
use Rattle.mu_model.specs.Regions.{region_fuo, region_log}
use Rattle.mu_agree.specs.Laws.{is_landing}
use Rattle.mu_agree.proofs.Access.{landed}
use Rattle.mu_agree.proofs.Landings.{look_reply, look_stands}
use Rattle.mu_agree.proofs.Landed.{lands_within}
use Rattle.mu_agree.proofs.Legal.{event_after, legal_older, legal_induction}
use Rattle.mu_agree.proofs.Room.{length_put_room}
use Rattle.mu_agree.proofs.Slots.{put_in'}
use Rattle.mu_agree.proofs.Tame.{known_longer}
use Rattle.mu_agree.specs.Moments.{AtEachStep}
use Rattle.mu_alive.proofs.TurnOwners.{IsLone, lone_before, owner_begun}
use Rattle.mu_alive.proofs.Bringing.{Ahead}
use Rattle.mu_alive.proofs.Cutting.{Located, located}
use Rattle.mu_model.proofs.Putting.{MayPutSlot, put_facts}
use Rattle.mu_model.specs.Leaderships.{has_begun}

-- how many entries a knows
abbrev knows : Config → ℕ → List Event → ℕ
knows c a past = length (known c a (part a past))

-- no replica knows more than a, no FUO is above that, whether it was read or not, and no log has
-- more than one place above
pub record KnowsMost (c : Config) (a : ℕ) (past : List Event) : Type 0 where
  pub others : (r : ℕ) → length (known c r (part r past)) ≤ knows c a past
  pub fuos : (q : ℕ) → region_fuo q past ≤ knows c a past
  pub read : (r q : ℕ) → greatest_fuo_read r q (part r past) ≤ knows c a past
  pub logs : (q : ℕ) → length (region_log q past) ≤ knows c a past + 1
  pub seen : (r j : ℕ) → has (entry_seen r r j) (part r past) ≡ true → j ≤ knows c a past

more_known : (c : Config) (a : ℕ) (e : Event) (past : List Event) → knows c a past ≤ knows c a (e ∷ past)
more_known c a e past = go (e.by == a)
  where
    go : (t : Bool) → length (known c a (part a past)) ≤ length (known c a (cond t (e ∷ part a past) (part a past)))
    go true = known_longer c a e (part a past)
    go false = omega arith

-- what is below what a knew is below what it knows
up : (c : Config) (a x : ℕ) (e : Event) (past : List Event) → x ≤ knows c a past → x ≤ knows c a (e ∷ past)
up c a x e past low = let more = more_known c a e past in omega (arith, low, more)

raise_step : (c : Config) (a by q u : ℕ) (past : List Event) → u ≤ knows c a past → KnowsMost c a past → KnowsMost c a (event_after c past by (Verb.RaiseFuo q u) ∷ past)
raise_step c a by q u past low k = record {
  others = λ r. up c a (length (known c r (part r (e ∷ past)))) e past (other r (by == r));
  fuos = λ p. up c a (region_fuo p (e ∷ past)) e past (fuo p (q == p));
  read = λ r p. up c a (greatest_fuo_read r p (part r (e ∷ past))) e past (reads r p (by == r));
  logs = λ p. let more = more_known c a e past in let l = k.logs p in omega (arith, more, l);
  seen = λ r j is. up c a j e past (sees r j (by == r) is);
}
  where
    e : Event
    e = event_after c past by (Verb.RaiseFuo q u)

    other : (r : ℕ) (t : Bool) → length (known c r (cond t (e ∷ part r past) (part r past))) ≤ knows c a past
    other r true = k.others r
    other r false = k.others r

    fuo : (p : ℕ) (t : Bool) → max_with (cond t (Some u) None) (region_fuo p past) ≤ knows c a past
    fuo p true = let old = k.fuos p in omega (arith, old, low)
    fuo p false = k.fuos p

    reads : (r p : ℕ) (t : Bool) → greatest_fuo_read r p (cond t (e ∷ part r past) (part r past)) ≤ knows c a past
    reads r p true = k.read r p
    reads r p false = k.read r p

    sees : (r j : ℕ) (t : Bool) → has (entry_seen r r j) (cond t (e ∷ part r past) (part r past)) ≡ true → j ≤ knows c a past
    sees r j true is = k.seen r j is
    sees r j false is = k.seen r j is

fuo_step : (c : Config) (a by q : ℕ) (past : List Event) → KnowsMost c a past → KnowsMost c a (event_after c past by (Verb.Fuo q) ∷ past)
fuo_step c a by q past k = record {
  others = λ r. up c a (length (known c r (part r (e ∷ past)))) e past (other r (by == r));
  fuos = λ p. up c a (region_fuo p (e ∷ past)) e past (k.fuos p);
  read = λ r p. up c a (greatest_fuo_read r p (part r (e ∷ past))) e past (reads r p (by == r) refl);
  logs = λ p. let more = more_known c a e past in let l = k.logs p in omega (arith, more, l);
  seen = λ r j is. up c a j e past (sees r j (by == r) is);
}
  where
    e : Event
    e = event_after c past by (Verb.Fuo q)

    other : (r : ℕ) (t : Bool) → length (known c r (cond t (e ∷ part r past) (part r past))) ≤ knows c a past
    other r true = k.others r
    other r false = k.others r

    reads : (r p : ℕ) (t : Bool) → (by == r) ≡ t → greatest_fuo_read r p (cond t (e ∷ part r past) (part r past)) ≤ knows c a past
    reads r p false is = k.read r p
    reads r p true is = here ((by == r) && (q == p))
      where
        here : (t : Bool) → max_with (cond t (Some (region_fuo q past)) None) (greatest_fuo_read r p (part r past)) ≤ knows c a past
        here true = let old = k.read r p in let new = k.fuos q in omega (arith, old, new)
        here false = k.read r p

    sees : (r j : ℕ) (t : Bool) → has (entry_seen r r j) (cond t (e ∷ part r past) (part r past)) ≡ true → j ≤ knows c a past
    sees r j true is = k.seen r j is
    sees r j false is = k.seen r j is

-- what is decided for r lies below what a knows
decided_below : (c : Config) (a r p i : ℕ) (past : List Event) → KnowsMost c a past → is_known_decided r (part r past) p i ≡ true → i < knows c a past
decided_below c a r p i past k is = go (nat_lt i (greatest_fuo_read r p (part r past))) refl is
  where
    go : (t : Bool) → nat_lt i (greatest_fuo_read r p (part r past)) ≡ t → (t || ((p == r) && has (entry_seen r r (i + 1)) (part r past))) ≡ true → i < knows c a past
    go true low is = let l = ltb-true i (greatest_fuo_read r p (part r past)) low in let most = k.read r p in omega (arith, l, most)
    go false low is = let most = k.seen r (i + 1) (and_parts (p == r) (has (entry_seen r r (i + 1)) (part r past)) is).1 in omega (arith, most)

look_step : (c : Config) (a by q i : ℕ) (past : List Event) → KnowsMost c a past → (answer : Answer) → look_reply c.ring (region_log q past) i ≡ answer → KnowsMost c a (record { by = by; verb = Verb.Look q i; answer = answer } ∷ past)
look_step c a by q i past k (Answer.Entry b v) shows = record {
  others = λ r. others r (by == r) refl;
  fuos = λ p. up c a (region_fuo p past) e past (k.fuos p);
  read = λ r p. up c a (greatest_fuo_read r p (part r (e ∷ past))) e past (reads r p (by == r));
  logs = λ p. let more = more_known c a e past in let l = k.logs p in omega (arith, more, l);
  seen = λ r j is. up c a j e past (sees r j (by == r) refl is);
}
  where
    e : Event
    e = record { by = by; verb = Verb.Look q i; answer = Answer.Entry b v }

    others : (r : ℕ) (t : Bool) → (by == r) ≡ t → length (known c r (cond t (e ∷ part r past) (part r past))) ≤ knows c a (e ∷ past)
    others r false other = up c a (length (known c r (part r past))) e past (k.others r)
    others r true own = up c a (length (known c r (e ∷ part r past))) e past (learns ((by == r) && ((i == length (known c r (part r past))) && is_known_decided r (part r past) q i)) refl)
      where
        learns : (t : Bool) → ((by == r) && ((i == length (known c r (part r past))) && is_known_decided r (part r past) q i)) ≡ t → length (grown (known c r (part r past)) (if t then Some v else None)) ≤ knows c a past
        learns false is = k.others r
        learns true is =
            let both = and_parts (i == length (known c r (part r past))) (is_known_decided r (part r past) q i) (and_parts (by == r) _ is).1 in
            let at = eqb-true i (length (known c r (part r past))) both.0 in
            let low = decided_below c a r q i past k both.1 in
            let long = length-append (known c r (part r past)) (v ∷ []) in
            omega (arith, at, low, long)

    reads : (r p : ℕ) (t : Bool) → greatest_fuo_read r p (cond t (e ∷ part r past) (part r past)) ≤ knows c a past
    reads r p true = k.read r p
    reads r p false = k.read r p

    sees : (r j : ℕ) (t : Bool) → (by == r) ≡ t → has (entry_seen r r j) (cond t (e ∷ part r past) (part r past)) ≡ true → j ≤ knows c a past
    sees r j false other is = k.seen r j is
    sees r j true own is = here ((by == r) && ((q == r) && (i == j))) refl is
      where
        here : (t : Bool) → ((by == r) && ((q == r) && (i == j))) ≡ t → cond t true (has (entry_seen r r j) (part r past)) ≡ true → j ≤ knows c a past
        here false there is = k.seen r j is
        here true there is =
            let same = eqb-true i j (and_parts (q == r) (i == j) (and_parts (by == r) _ there).1).1 in
            let within = slice_get_within (region_log q past) i (b, v) (look_stands c.ring (region_log q past) i b v shows) in
            let most = k.logs q in
            omega (arith, same, within, most)
look_step c a by q i past k answer shows = record {
  others = λ r. up c a (length (known c r (part r (e ∷ past)))) e past (other r (by == r));
  fuos = λ p. up c a (region_fuo p past) e past (k.fuos p);
  read = λ r p. up c a (greatest_fuo_read r p (part r (e ∷ past))) e past (reads r p (by == r));
  logs = λ p. let more = more_known c a e past in let l = k.logs p in omega (arith, more, l);
  seen = λ r j is. up c a j e past (sees r j (by == r) is);
}
  where
    e : Event
    e = record { by = by; verb = Verb.Look q i; answer = answer }

    other : (r : ℕ) (t : Bool) → length (known c r (cond t (e ∷ part r past) (part r past))) ≤ knows c a past
    other r true = k.others r
    other r false = k.others r

    reads : (r p : ℕ) (t : Bool) → greatest_fuo_read r p (cond t (e ∷ part r past) (part r past)) ≤ knows c a past
    reads r p true = k.read r p
    reads r p false = k.read r p

    sees : (r j : ℕ) (t : Bool) → has (entry_seen r r j) (cond t (e ∷ part r past) (part r past)) ≡ true → j ≤ knows c a past
    sees r j true is = k.seen r j is
    sees r j false is = k.seen r j is

-- a puts at a place that it knows, or at the next
put_low : (c : Config) (a q i b v : ℕ) (mine : List Event) → MayPutSlot c a mine q i b v → i ≤ length (known c a mine)
put_low c a q i b v mine may = elim may.value [
  | inl there ↦ (let l = slice_get_within (known c a mine) i v there in omega (arith, l))
  | inr new ↦ (let next = new.next in omega (arith, next))
]

put_step : (c : Config) (a by q i b v : ℕ) (past : List Event) → KnowsMost c a past → (answer : Answer) → (answer ≡ Answer.Done → (by ≡ a) × (i ≤ knows c a past) × (i ≤ length (region_log q past))) → KnowsMost c a (record { by = by; verb = Verb.PutSlot q i b v; answer = answer } ∷ past)
put_step c a by q i b v past k Answer.Done lands = record {
  others = λ r. others r (cases_eq r a);
  fuos = λ p. up c a (region_fuo p past) e past (k.fuos p);
  read = λ r p. up c a (greatest_fuo_read r p (part r (e ∷ past))) e past (reads r p (by == r));
  logs = λ p. let more = more_known c a e past in let l = logs p (q == p) refl in omega (arith, more, l);
  seen = λ r j is. up c a j e past (sees r j (by == r) is);
}
  where
    e : Event
    e = record { by = by; verb = Verb.PutSlot q i b v; answer = Answer.Done }

    own : (by ≡ a) × (i ≤ knows c a past) × (i ≤ length (region_log q past))
    own = lands refl

    others : (r : ℕ) → (r ≡ a) ⊎ (r ≢ a) → length (known c r (part r (e ∷ past))) ≤ knows c a (e ∷ past)
    others r (inl same) = let is = ap (λ x. length (known c x (part x (e ∷ past)))) same in omega (arith, is)
    others r (inr other) = up c a (length (known c r (part r (e ∷ past)))) e past (away (by == r) refl)
      where
        away : (t : Bool) → (by == r) ≡ t → length (known c r (cond t (e ∷ part r past) (part r past))) ≤ knows c a past
        away false is = k.others r
        away true is = absurd (other (sym (eqb-true by r is) ∙ own.0))

    reads : (r p : ℕ) (t : Bool) → greatest_fuo_read r p (cond t (e ∷ part r past) (part r past)) ≤ knows c a past
    reads r p true = k.read r p
    reads r p false = k.read r p

    logs : (p : ℕ) (t : Bool) → (q == p) ≡ t → length (cond t (put_in' (region_log p past) i (b, v)) (region_log p past)) ≤ knows c a past + 1
    logs p true is = length_put_room (region_log p past) i (knows c a past + 1) (b, v) (let within = own.2 in let same = ap (λ x. length (region_log x past)) (eqb-true q p is) in omega (arith, within, same)) (k.logs p) (let low = own.1 in omega (arith, low))
    logs p false is = k.logs p

    sees : (r j : ℕ) (t : Bool) → has (entry_seen r r j) (cond t (e ∷ part r past) (part r past)) ≡ true → j ≤ knows c a past
    sees r j true is = k.seen r j is
    sees r j false is = k.seen r j is
put_step c a by q i b v past k answer lands = record {
  others = λ r. up c a (length (known c r (part r (e ∷ past)))) e past (other r (by == r));
  fuos = λ p. up c a (region_fuo p past) e past (k.fuos p);
  read = λ r p. up c a (greatest_fuo_read r p (part r (e ∷ past))) e past (reads r p (by == r));
  logs = λ p. let more = more_known c a e past in let l = k.logs p in omega (arith, more, l);
  seen = λ r j is. up c a j e past (sees r j (by == r) is);
}
  where
    e : Event
    e = record { by = by; verb = Verb.PutSlot q i b v; answer = answer }

    other : (r : ℕ) (t : Bool) → length (known c r (cond t (e ∷ part r past) (part r past))) ≤ knows c a past
    other r true = k.others r
    other r false = k.others r

    reads : (r p : ℕ) (t : Bool) → greatest_fuo_read r p (cond t (e ∷ part r past) (part r past)) ≤ knows c a past
    reads r p true = k.read r p
    reads r p false = k.read r p

    sees : (r j : ℕ) (t : Bool) → has (entry_seen r r j) (cond t (e ∷ part r past) (part r past)) ≡ true → j ≤ knows c a past
    sees r j true is = k.seen r j is
    sees r j false is = k.seen r j is

knows_step : (c : Config) (a by : ℕ) (v : Verb) (past : List Event) → IsLegalHistory c past → IsLone a past → Allowed c by (part by past) v → KnowsMost c a past → KnowsMost c a (event_after c past by v ∷ past)
knows_step c a by (Verb.RaiseFuo q u) past legal alone may k = raise_step c a by q u past (let low = may.may.1.0 in let most = k.others by in omega (arith, low, most)) k
knows_step c a by (Verb.Fuo q) past legal alone may k = fuo_step c a by q past k
knows_step c a by (Verb.Look q i) past legal alone may k = look_step c a by q i past k (answer_of c by past (Verb.Look q i)) refl
knows_step c a by (Verb.PutSlot q i b w) past legal alone may k = put_step c a by q i b w past k (answer_of c by past (Verb.PutSlot q i b w)) lands
  where
    lands : put_answer (drained by q past) ≡ Answer.Done → (by ≡ a) × (i ≤ knows c a past) × (i ≤ length (region_log q past))
    lands done =
        let may_land = landed c q (event_after c past by (Verb.PutSlot q i b w)) past legal (record { allowed = may; answer = refl }) (subst (λ x. is_landing q (Verb.PutSlot q i b w) x ≡ true) (sym done) (eq-eqb q q refl)) in
        let own = by_owner (cases_eq by a) (owner_begun c q past legal by may_land.by_owner) in
        (own, subst (λ x. i ≤ length (known c x (part x past))) own (put_low c by q i b w (part by past) (put_facts c by (part by past) q i b w may.may)), lands_within c q by i b w past legal may.may)
      where
        by_owner : (by ≡ a) ⊎ (by ≢ a) → has_begun by past ≡ true → by ≡ a
        by_owner (inl same) begun = same
        by_owner (inr other) begun = absurd (true≢false (sym begun ∙ alone by other))
knows_step c a by v past legal alone may k = record {
  others = λ r. up c a (length (known c r (part r (e ∷ past)))) e past (other r (by == r));
  fuos = λ p. up c a (region_fuo p past) e past (k.fuos p);
  read = λ r p. up c a (greatest_fuo_read r p (part r (e ∷ past))) e past (reads r p (by == r));
  logs = λ p. let more = more_known c a e past in let l = k.logs p in omega (arith, more, l);
  seen = λ r j is. up c a j e past (sees r j (by == r) is);
}
  where
    e : Event
    e = event_after c past by v

    other : (r : ℕ) (t : Bool) → length (known c r (cond t (e ∷ part r past) (part r past))) ≤ knows c a past
    other r true = k.others r
    other r false = k.others r

    reads : (r p : ℕ) (t : Bool) → greatest_fuo_read r p (cond t (e ∷ part r past) (part r past)) ≤ knows c a past
    reads r p true = k.read r p
    reads r p false = k.read r p

    sees : (r j : ℕ) (t : Bool) → has (entry_seen r r j) (cond t (e ∷ part r past) (part r past)) ≡ true → j ≤ knows c a past
    sees r j true is = k.seen r j is
    sees r j false is = k.seen r j is

pub knows_most : (c : Config) (a : ℕ) (past : List Event) → IsLegalHistory c past → IsLone a past → KnowsMost c a past
knows_most c a =
    legal_induction c (λ past. IsLone a past → KnowsMost c a past) (λ _. record { others = λ r. omega arith; fuos = λ q. omega arith; read = λ r q. omega arith; logs = λ q. omega arith; seen = λ r j is. absurd (true≢false (sym is)) })
    (λ past by v legal may k alone. let before = lone_before a (event_after c past by v ∷ []) past alone in knows_step c a by v past legal before may (k before))

-- so no look of a teaches it anything
pub learns_nothing : (c : Config) (a : ℕ) (past : List Event) → KnowsMost c a past → (by : ℕ) (verb : Verb) (answer : Answer) → is_learning c a (part a past) (record { by = by; verb = verb; answer = answer }) ≡ false
learns_nothing c a past k by (Verb.Look q i) (Answer.Entry b v) = taught ((by == a) && ((i == knows c a past) && is_known_decided a (part a past) q i)) refl
  where
    taught : (t : Bool) → ((by == a) && ((i == knows c a past) && is_known_decided a (part a past) q i)) ≡ t → nat_lt (knows c a past) (length (grown (known c a (part a past)) (if t then Some v else None))) ≡ false
    taught false is = le-ltb (knows c a past) (knows c a past) (omega arith)
    taught true is =
        let both = and_parts (i == knows c a past) (is_known_decided a (part a past) q i) (and_parts (by == a) _ is).1 in
        let at = eqb-true i (knows c a past) both.0 in
        let low = decided_below c a a q i past k both.1 in
        absurd (omega (arith, at, low))
learns_nothing c a past k by (Verb.Look q i) answer = le-ltb (knows c a past) (knows c a past) (omega arith)
learns_nothing c a past k by verb answer = refl

-- and no FUO that it reads is above what it knows
pub none_ahead : (c : Config) (a p : ℕ) (mine : List Event) (by : ℕ) (verb : Verb) (answer : Answer) → greatest_fuo_read a p (record { by = by; verb = verb; answer = answer } ∷ mine) ≤ length (known c a (record { by = by; verb = verb; answer = answer } ∷ mine))
    → is_fuo_above a p (length (known c a mine)) (record { by = by; verb = verb; answer = answer }) ≡ false
none_ahead c a p mine by (Verb.Fuo q) (Answer.Number x) most = go ((by == a) && (q == p)) most
  where
    go : (t : Bool) → max_with (cond t (Some x) None) (greatest_fuo_read a p mine) ≤ length (known c a mine) → (not (is_at_most (length (known c a mine)) (cond t (Some x) None)) && is_some (cond t (Some x) None)) ≡ false
    go false most = refl
    go true most = ap (λ t. not t && true) (le-leb x (length (known c a mine)) (omega (arith, most)))
none_ahead c a p mine by verb answer most = refl

-- in a whole history, at each of its steps
pub quiet_steps : (c : Config) (a : ℕ) (past : List Event) → IsLegalHistory c past → IsLone a past → AtEachStep (λ now e. is_learning c a now e ≡ false) (part a past)
quiet_steps c a [] legal alone = tt
quiet_steps c a (e ∷ past) legal alone = go (e.by == a) (quiet_steps c a past legal.0 (lone_before a (e ∷ []) past alone))
  where
    go : (t : Bool) → AtEachStep (λ now f. is_learning c a now f ≡ false) (part a past) → AtEachStep (λ now f. is_learning c a now f ≡ false) (cond t (e ∷ part a past) (part a past))
    go true ih = (ih, learns_nothing c a past (knows_most c a past legal.0 (lone_before a (e ∷ []) past alone)) e.by e.verb e.answer)
    go false ih = ih

pub never_ahead : (c : Config) (a p l : ℕ) (past : List Event) → IsLegalHistory c past → IsLone a past → Ahead c a p l (part a past) → ⊥
never_ahead c a p l past legal alone k = at (located a past k.newer k.older k.event k.is)
  where
    at : Located a past k.event k.older → ⊥
    at s = true≢false (sym k.above ∙ none_ahead c a p k.older k.event.by k.event.verb k.event.answer (subst (λ x. greatest_fuo_read a p x ≤ length (known c a x)) mine (here.read a p)))
      where
        here : KnowsMost c a (k.event ∷ s.older)
        here = knows_most c a (k.event ∷ s.older) (legal_older c s.newer (k.event ∷ s.older) (subst (IsLegalHistory c) s.is legal)) (lone_before a s.newer (k.event ∷ s.older) (subst (IsLone a) s.is alone))

        mine : part a (k.event ∷ s.older) ≡ k.event ∷ k.older
        mine = ap (λ t. cond t (k.event ∷ part a s.older) (part a s.older)) (eq-eqb k.event.by a s.own) ∙ ap (λ x. k.event ∷ x) s.before
