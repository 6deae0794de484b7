-- A host serves the old asks in time; then it closes its region only for the one that goes on asking.
use Rattle.std.proofs.Common.{◌≡◌, ◌≢◌, ℕ, zero, suc, ◌+◌, ◌*◌, ◌<◌, ◌≤◌, ◌==◌, ◌&&◌, not, inl, inr, Bool, true, false, cond, Some, None, List, [], ◌∷◌, ◌++◌, length, refl, sym, ◌∙◌, ap, arith, subst, eqb-true, true≢false, append_assoc}
use Rattle.std.specs.declared.option.Option.{Option}
use Rattle.std.specs.Prelude.{max, nat_lt}
use Rattle.std.proofs.lemmas.Bool.{and_from, and_parts, cases_eq, cases_lt, eq-eqb, lt-ltb, ltb-true, ne_eqb}
use Rattle.std.proofs.lemmas.List.{length-append}
use Rattle.mu_model.specs.declared.config.Config.{Config}
use Rattle.mu_model.specs.declared.event.Answer.{Answer}
use Rattle.mu_model.specs.declared.event.Event.{Event}
use Rattle.mu_model.specs.declared.event.Verb.{Verb}
use Rattle.mu_model.specs.Allowed.{Needs}
use Rattle.mu_model.specs.Bounds.{cycle}
use Rattle.mu_model.specs.Diligence.{GrantsInTime, ReadsInTime}
use Rattle.mu_model.specs.Histories.{all_below, before, count_below, newer_or, or_zero, part}
use Rattle.mu_model.specs.Leaderships.{owner_is}
use Rattle.mu_model.specs.Legal.{IsLegalHistory}
use Rattle.mu_model.specs.Regions.{asks, fence_closing, fence_grant, fence_owner, granted_by, is_ask_by, is_grant_by}
use Rattle.mu_model.specs.Serving.{has_unserved_ask, is_grant_to, read_while_owner, seen_asks, served, served_as_owner, served_by_grant}
use Rattle.mu_model.specs.Steps.{is_ask_read, is_granting, is_granting_verb}
use Rattle.mu_model.proofs.Basics.{same_number, same_some}
use Rattle.mu_model.proofs.Parts.{filter-append}
use Rattle.mu_agree.proofs.Access.{grant_needs}
use Rattle.mu_agree.proofs.Counting.{count_more}
use Rattle.mu_agree.proofs.Legal.{event_after, legal_older}
use Rattle.mu_agree.specs.Moments.{AtEachStep}
use Rattle.mu_pace.proofs.Counting.{steps_before}
use Rattle.mu_pace.proofs.Pasts.{cut}
use Rattle.mu_alive.specs.Alone.{AsksAlone}
use Rattle.mu_alive.specs.Clearing.{Clears, LeastIsGranted, LeastKeepsRegions, OldAsksAreServed, clearing_steps}
use Rattle.mu_alive.specs.Settling.{KeepGoing, ReadsOpen}
use Rattle.mu_alive.proofs.Beginning.{CutAt, alone_before, cut_at}
use Rattle.mu_alive.proofs.Calm.{count_adds, count_few}
use Rattle.mu_alive.proofs.Cutting.{Located, located, met, more_pass}
use Rattle.mu_alive.proofs.Settling.{goes_on_before, least_asks}
use Rattle.mu_alive.proofs.TurnOwners.{Waits, served-part, waits, owner-part, seen-part}
use Rattle.mu_alive.proofs.SeenAsks.{HasSeen, Hosts, Lacks, SomeWaits, closes_for, hosts_after, hosts_before, lacked, lacked_before, owner_is_served, read_sees, seen_by, seen_on, served_few}

-- how many others than a lack, counted twice, and one more if a doesn't own the region
abbrev lagging : Config → ℕ → ℕ → List Event → ℕ
lagging c a p past = count_below c.replicas (λ w. not (w == a) && nat_lt (served p w past) (seen_asks p w past))

abbrev lent : ℕ → Option ℕ → ℕ
lent a owner = cond (owner_is a owner) 0 1

lent_few : (a : ℕ) (o : Option ℕ) → lent a o ≤ 1
lent_few a None = omega arith
lent_few a (Some w) = go (w == a)
  where
    go : (t : Bool) → cond t 0 1 ≤ 1
    go true = omega arith
    go false = omega arith

not_own : (a : ℕ) (o : Option ℕ) → (o ≡ Some a → ⊥) → lent a o ≡ 1
not_own a None other = refl
not_own a (Some w) other = rw (ne_eqb w a (λ same. other (ap Some same))) refl

abbrev load : Config → ℕ → ℕ → List Event → ℕ
load c a p past = 2 * lagging c a p past + lent a (fence_owner p past)

-- all asks of others were seen
abbrev SeesAll : Config → ℕ → ℕ → List Event → Type 0
SeesAll c a p past = (w : ℕ) → w < c.replicas → w ≢ a → HasSeen p w past

counted : (a p w : ℕ) (past : List Event) → (not (w == a) && nat_lt (served p w past) (seen_asks p w past)) ≡ true → (w ≢ a) × Lacks p w past
counted a p w past is =
    let parts = and_parts (not (w == a)) (nat_lt (served p w past) (seen_asks p w past)) is in
    (λ same. true≢false (sym parts.0 ∙ ap not (eq-eqb w a same)), ltb-true (served p w past) (seen_asks p w past) parts.1)

counts : (a p w : ℕ) (past : List Event) → w ≢ a → Lacks p w past → (not (w == a) && nat_lt (served p w past) (seen_asks p w past)) ≡ true
counts a p w past other lacks = and_from (not (w == a)) (nat_lt (served p w past) (seen_asks p w past)) (ap not (ne_eqb w a other)) (lt-ltb (served p w past) (seen_asks p w past) lacks)

fewer_lag : (c : Config) (a p : ℕ) (e : Event) (past : List Event) → IsLegalHistory c (e ∷ past) → SeesAll c a p past → (w : ℕ) → w < c.replicas → (not (w == a) && nat_lt (served p w (e ∷ past)) (seen_asks p w (e ∷ past))) ≡ true → (not (w == a) && nat_lt (served p w past) (seen_asks p w past)) ≡ true
fewer_lag c a p e past legal seen w low is = let k = counted a p w (e ∷ past) is in counts a p w past k.0 (lacked c p w e past legal (seen w low k.0) k.1)

lagging_falls : (c : Config) (a p : ℕ) (e : Event) (past : List Event) → IsLegalHistory c (e ∷ past) → SeesAll c a p past → lagging c a p (e ∷ past) ≤ lagging c a p past
lagging_falls c a p e past legal seen = count_more c.replicas (λ w. not (w == a) && nat_lt (served p w (e ∷ past)) (seen_asks p w (e ∷ past))) (λ w. not (w == a) && nat_lt (served p w past) (seen_asks p w past)) (fewer_lag c a p e past legal seen)

-- another event leaves the owner
owner_stays : (p by : ℕ) (v : Verb) (past : List Event) → is_grant_by p by v ≡ false → granted_by p by v ≡ None
owner_stays p by (Verb.Grant w) past none = rw none refl
owner_stays p by v past none = refl

-- a grant takes one off
grant_lightens : (c : Config) (a p by q : ℕ) (answer : Answer) (past : List Event) → IsLegalHistory c (record { by = by; verb = Verb.Grant q; answer = answer } ∷ past) → SeesAll c a p past → (by == p) ≡ true → load c a p (record { by = by; verb = Verb.Grant q; answer = answer } ∷ past) + 1 ≤ load c a p past
grant_lightens c a p by q answer past legal seen own = elim (cases_eq q a) [
  | inl same ↦
      let falls = lagging_falls c a p now past legal seen in
      let after : lent a (fence_owner p (now ∷ past)) ≡ 0 = rw (own, eq-eqb q a same) refl in
      let before = not_own a (fence_owner p past) (λ owns. waiting.other (owns ∙ ap Some (sym same))) in
      omega (arith, falls, after, before)
  | inr other ↦
      let adds = count_adds c.replicas q (λ w. not (w == a) && nat_lt (served p w (now ∷ past)) (seen_asks p w (now ∷ past))) (λ w. not (w == a) && nat_lt (served p w past) (seen_asks p w past)) at_p.0 serves (counts a p q past other waiting.more) (fewer_lag c a p now past legal seen) in
      let most = lent_few a (fence_owner p (now ∷ past)) in
      omega (arith, adds, most)
]
  where
    now : Event
    now = record { by = by; verb = Verb.Grant q; answer = answer }

    at_p : Needs c p (part p past) (Verb.Grant q)
    at_p = subst (λ x. Needs c x (part x past) (Verb.Grant q)) (eqb-true by p own) legal.1.allowed.may

    waiting : Waits p q past
    waiting = waits p q past (and_parts (has_unserved_ask p (part p past) q) (all_below q (λ w. not (has_unserved_ask p (part p past) w))) at_p.1.1.1.0).0

    serves : (not (q == a) && nat_lt (served p q (now ∷ past)) (seen_asks p q (now ∷ past))) ≡ false
    serves = go (not (q == a) && nat_lt (served p q (now ∷ past)) (seen_asks p q (now ∷ past))) refl
      where
        all : seen_asks p q (now ∷ past) ≤ served p q (now ∷ past)
        all = rw (own, same_number q) (omega arith)

        go : (t : Bool) → (not (q == a) && nat_lt (served p q (now ∷ past)) (seen_asks p q (now ∷ past))) ≡ t → t ≡ false
        go true is = absurd (let l = (counted a p q (now ∷ past) is).1 in omega (arith, l, all))
        go false is = refl

lightens : (c : Config) (a p : ℕ) (e : Event) (past : List Event) → IsLegalHistory c (e ∷ past) → SeesAll c a p past → e.by ≡ p → is_granting e ≡ true → load c a p (e ∷ past) + 1 ≤ load c a p past
lightens c a p e past legal seen own grants = go e.by e.verb e.answer legal own grants
  where
    go : (by : ℕ) (verb : Verb) (answer : Answer) → IsLegalHistory c (record { by = by; verb = verb; answer = answer } ∷ past) → by ≡ p → is_granting_verb verb ≡ true → load c a p (record { by = by; verb = verb; answer = answer } ∷ past) + 1 ≤ load c a p past
    go by (Verb.Grant q) answer legal own grants = grant_lightens c a p by q answer past legal seen (eq-eqb by p own)
    go by verb answer legal own grants = absurd (true≢false (sym grants))

load_falls : (c : Config) (a p : ℕ) (e : Event) (past : List Event) → IsLegalHistory c (e ∷ past) → SeesAll c a p past → load c a p (e ∷ past) ≤ load c a p past
load_falls c a p e past legal seen = go e.by e.verb e.answer legal (is_grant_by p e.by e.verb) refl
  where
    same : (by : ℕ) (verb : Verb) (answer : Answer) → is_grant_by p by verb ≡ false → fence_owner p (record { by = by; verb = verb; answer = answer } ∷ past) ≡ fence_owner p past
    same by verb answer none = ap (λ o. newer_or o (fence_owner p past)) (owner_stays p by verb past none)

    go : (by : ℕ) (verb : Verb) (answer : Answer) → IsLegalHistory c (record { by = by; verb = verb; answer = answer } ∷ past) → (t : Bool) → is_grant_by p by verb ≡ t → load c a p (record { by = by; verb = verb; answer = answer } ∷ past) ≤ load c a p past
    go by (Verb.Grant q) answer legal true is = let less = grant_lightens c a p by q answer past legal seen is in omega (arith, less)
    go by verb answer legal false is =
        let falls = lagging_falls c a p (record { by = by; verb = verb; answer = answer }) past legal seen in
        let owner = ap (lent a) (same by verb answer is) in
        omega (arith, falls, owner)
    go by verb answer legal true is = absurd (true≢false (sym is))

sees_on : (c : Config) (a p : ℕ) (later base : List Event) → IsLegalHistory c (later ++ base) → AsksAlone a later → SeesAll c a p base → SeesAll c a p (later ++ base)
sees_on c a p later base legal alone seen w low other = seen_on c a p w later base legal alone other (seen w low other)

load_stays : (c : Config) (a p : ℕ) (later base : List Event) → IsLegalHistory c (later ++ base) → AsksAlone a later → SeesAll c a p base → load c a p (later ++ base) ≤ load c a p base
load_stays c a p [] base legal alone seen = omega arith
load_stays c a p (e ∷ later) base legal alone seen =
    let ih = load_stays c a p later base legal.0 alone.0 seen in
    let here = load_falls c a p e (later ++ base) legal (sees_on c a p later base legal.0 alone.0 seen) in
    omega (arith, ih, here)

-- a read of asks of which some aren't served is followed by a grant, and that takes one off
read_lightens : (c : Config) (a p w : ℕ) (later base : List Event) → Hosts c a p later base → SeesAll c a p base → w < c.replicas → ((x : Event) (top after : List Event) → later ≡ top ++ x ∷ after → x.by ≡ p → is_ask_read w x ≡ true → has_unserved_ask p (part p (x ∷ (after ++ base))) w ≡ true) → 2 * cycle c ≤ length (part p later) → load c a p (later ++ base) + 1 ≤ load c a p base
read_lightens c a p w later base h seen low waiting long =
    let first = cut (cycle c) (part p later) (omega (arith, long)) in
    let split : part p (later ++ base) ≡ part p later ++ part p base = filter-append (λ e. e.by == p) later base in
    let read = met (is_ask_read w) first.rest (h.reads.asks w first.rest (part p base) low (record { newer = first.newer; is = split ∙ ap (λ l. l ++ part p base) first.is ∙ append_assoc first.newer first.rest (part p base) }) first.count) in
    let whole : part p later ≡ (first.newer ++ read.newer) ++ read.event ∷ read.older = first.is ∙ ap (λ l. first.newer ++ l) read.is ∙ sym (append_assoc first.newer read.newer (read.event ∷ read.older)) in
    let enough : cycle c ≤ length (first.newer ++ read.newer) = (let a = length-append first.newer read.newer in let b = ap length first.is ∙ length-append first.newer first.rest in let n = first.count in omega (arith, a, b, n, long)) in
    asks_then read.event read.older (first.newer ++ read.newer) whole enough split read.passes (located p later (first.newer ++ read.newer) read.older read.event whole)
  where
    asks_then : (x : Event) (after between : List Event) → part p later ≡ between ++ x ∷ after → cycle c ≤ length between → part p (later ++ base) ≡ part p later ++ part p base → is_ask_read w x ≡ true → Located p later x after → load c a p (later ++ base) + 1 ≤ load c a p base
    asks_then x after between whole enough split reads_it l =
        let second = cut (cycle c) between enough in
        let unserved = waiting x l.newer l.older l.is l.own reads_it in
        let mine : part p (x ∷ (l.older ++ base)) ≡ x ∷ (after ++ part p base) =
        ap (λ t. cond t (x ∷ part p (l.older ++ base)) (part p (l.older ++ base))) (eq-eqb x.by p l.own) ∙ ap (λ y. x ∷ y) (filter-append (λ e. e.by == p) l.older base ∙ ap (λ y. y ++ part p base) l.before) in
        let stretch : part p (later ++ base) ≡ second.newer ++ (second.rest ++ (x ∷ (after ++ part p base))) =
        split ∙ ap (λ y. y ++ part p base) (whole ∙ ap (λ y. y ++ x ∷ after) second.is) ∙ append_assoc (second.newer ++ second.rest) (x ∷ after) (part p base) ∙ append_assoc second.newer second.rest (x ∷ (after ++ part p base)) in
        let comes = h.grants w x second.rest (after ++ part p base) (record { newer = second.newer; is = stretch }) reads_it (subst (λ y. has_unserved_ask p y w ≡ true) mine unserved) second.count in
        let grant = met is_granting second.rest comes in
        let place : part p later ≡ (second.newer ++ grant.newer) ++ grant.event ∷ (grant.older ++ x ∷ after) =
        whole ∙ ap (λ y. y ++ x ∷ after) (second.is ∙ ap (λ y. second.newer ++ y) grant.is ∙ sym (append_assoc second.newer grant.newer (grant.event ∷ grant.older))) ∙ append_assoc (second.newer ++ grant.newer) (grant.event ∷ grant.older) (x ∷ after) in
        grants_then grant.event (grant.older ++ x ∷ after) grant.passes (located p later (second.newer ++ grant.newer) (grant.older ++ x ∷ after) grant.event place)
      where
        grants_then : (g : Event) (after : List Event) → is_granting g ≡ true → Located p later g after → load c a p (later ++ base) + 1 ≤ load c a p base
        grants_then g after is l =
            let there : later ++ base ≡ l.newer ++ (g ∷ (l.older ++ base)) = ap (λ y. y ++ base) l.is ∙ append_assoc l.newer (g ∷ l.older) base in
            let at = subst (λ y. Hosts c a p y base) l.is h in
            let on = hosts_after c a p l.newer (g ∷ l.older) base at in
            let under = hosts_before c a p (l.newer ++ g ∷ []) l.older base (subst (λ y. Hosts c a p y base) (sym (append_assoc l.newer (g ∷ []) l.older)) at) in
            let here = legal_older c l.newer (g ∷ (l.older ++ base)) on.legal in
            let sees_here = sees_on c a p l.older base under.legal under.alone seen in
            let sees_now : SeesAll c a p (g ∷ (l.older ++ base)) = λ v v_low v_other. seen_on c a p v (g ∷ l.older) base here (alone_before a l.newer (g ∷ l.older) at.alone) v_other (seen v v_low v_other) in
            let top = load_stays c a p l.newer (g ∷ (l.older ++ base)) on.legal on.alone sees_now in
            let less = lightens c a p g (l.older ++ base) here sees_here l.own is in
            let down = load_stays c a p l.older base under.legal under.alone seen in
            let same = ap (load c a p) there in
            omega (arith, top, less, down, same)

not_owner : (w : ℕ) (o : Option ℕ) → (o ≡ Some w → ⊥) → owner_is w o ≡ false
not_owner w None other = refl
not_owner w (Some v) other = ne_eqb v w (λ same. other (ap Some same))

-- who isn't the owner and has asks that weren't served waits
unserved_of : (p w : ℕ) (past : List Event) → (fence_owner p past ≡ Some w → ⊥) → Lacks p w past → has_unserved_ask p (part p past) w ≡ true
unserved_of p w past other lacks =
    and_from (not (owner_is w (fence_owner p (part p past)))) (nat_lt (served p w (part p past)) (seen_asks p w (part p past)))
    (ap not (ap (owner_is w) (owner-part p past) ∙ not_owner w (fence_owner p past) other))
    (lt-ltb (served p w (part p past)) (seen_asks p w (part p past)) (let a = served-part p w past in let b = seen-part p w past in omega (arith, a, b, lacks)))

-- while some other than a lacks, each two rounds take one off
lacking_round : (c : Config) (a p w : ℕ) (later base : List Event) → Hosts c a p later base → SeesAll c a p base → w < c.replicas → w ≢ a → Lacks p w (later ++ base) → 2 * cycle c ≤ length (part p later) → load c a p (later ++ base) + 1 ≤ load c a p base
lacking_round c a p w later base h seen low other lacks long = read_lightens c a p w later base h seen low waiting long
  where
    waiting : (x : Event) (top after : List Event) → later ≡ top ++ x ∷ after → x.by ≡ p → is_ask_read w x ≡ true → has_unserved_ask p (part p (x ∷ (after ++ base))) w ≡ true
    waiting x top after is own reads =
        let at = subst (λ y. Hosts c a p y base) is h in
        let on = hosts_after c a p top (x ∷ after) base at in
        let here = legal_older c top (x ∷ (after ++ base)) on.legal in
        let rests = steps_before ReadsOpen top (x ∷ (after ++ base)) on.resting in
        let split : later ++ base ≡ top ++ (x ∷ (after ++ base)) = ap (λ y. y ++ base) is ∙ append_assoc top (x ∷ after) base in
        let sees = seen_on c a p w (x ∷ after) base here (alone_before a top (x ∷ after) at.alone) other (seen w low other) in
        let lack = lacked_before c a p w top (x ∷ (after ++ base)) on.legal on.alone other sees (subst (Lacks p w) split lacks) in
        unserved_of p w (x ∷ (after ++ base)) (λ owns. let l = owner_is_served c p (x ∷ (after ++ base)) here rests w owns in omega (arith, l, lack)) lack

lacking_rounds : (c : Config) (a p w k : ℕ) (later base : List Event) → Hosts c a p later base → SeesAll c a p base → w < c.replicas → w ≢ a → Lacks p w (later ++ base) → k * (2 * cycle c) ≤ length (part p later) → load c a p (later ++ base) + k ≤ load c a p base
lacking_rounds c a p w zero later base h seen low other lacks long = let l = load_stays c a p later base h.legal h.alone seen in omega (arith, l)
lacking_rounds c a p w (suc k) later base h seen low other lacks long =
    let next : suc k * (2 * cycle c) ≡ k * (2 * cycle c) + 2 * cycle c = omega arith in
    let cuts = cut_at p (k * (2 * cycle c)) later (omega (arith, next, long)) in
    let at = subst (λ y. Hosts c a p y base) cuts.is h in
    let under = hosts_before c a p cuts.newer cuts.rest base at in
    let over = hosts_after c a p cuts.newer cuts.rest base at in
    let whole : later ++ base ≡ cuts.newer ++ (cuts.rest ++ base) = ap (λ l. l ++ base) cuts.is ∙ append_assoc cuts.newer cuts.rest base in
    let sees = sees_on c a p cuts.rest base under.legal under.alone seen in
    let lack = subst (Lacks p w) whole lacks in
    let lacked_there = lacked_before c a p w cuts.newer (cuts.rest ++ base) over.legal over.alone other (sees w low other) lack in
    let count = cuts.count in
    let ih = lacking_rounds c a p w k cuts.rest base under seen low other lacked_there (omega (arith, count)) in
    let split = ap (λ l. length (part p l)) cuts.is ∙ ap length (filter-append (λ e. e.by == p) cuts.newer cuts.rest) ∙ length-append (part p cuts.newer) (part p cuts.rest) in
    let more = lacking_round c a p w cuts.newer (cuts.rest ++ base) over sees low other lack (omega (arith, split, count, next, long)) in
    let same = ap (load c a p) whole in
    omega (arith, ih, more, same)

load_few : (c : Config) (a p : ℕ) (past : List Event) → load c a p past ≤ 2 * c.replicas + 1
load_few c a p past = let few = count_few c.replicas (λ w. not (w == a) && nat_lt (served p w past) (seen_asks p w past)) in let one = lent_few a (fence_owner p past) in omega (arith, few, one)

-- the host that clears is one that keeps its paces, and only a asks
clears_hosts : (c : Config) (live : ℕ → Bool) (a p : ℕ) (later newer older : List Event) → Clears c live a p later newer older → Hosts c a p later (newer ++ older)
clears_hosts c live a p later newer older k = record {
  inside = k.on.inside;
  legal = subst (IsLegalHistory c) whole k.on.legal;
  alone = least_asks c live a later newer older k.on k.taken;
  resting = subst (AtEachStep ReadsOpen) whole k.on.resting;
  reads = subst (λ l. ReadsInTime c p (part p l)) whole (k.on.reads p k.inside k.lives);
  grants = subst (λ l. GrantsInTime c p (part p l)) whole (k.on.grants p k.inside k.lives);
}
  where
    whole : (later ++ newer) ++ older ≡ later ++ (newer ++ older)
    whole = append_assoc later newer older

pub old_asks_served : OldAsksAreServed
old_asks_served c live a p w later newer older k low other = record { seen = sees; served = serves }
  where
    h : Hosts c a p later (newer ++ older)
    h = clears_hosts c live a p later newer older k

    cuts : CutAt p (cycle c) later
    cuts = cut_at p (cycle c) later (let long = k.cleared in omega (arith, long))

    at : Hosts c a p (cuts.newer ++ cuts.rest) (newer ++ older)
    at = subst (λ y. Hosts c a p y (newer ++ older)) cuts.is h

    under : Hosts c a p cuts.rest (newer ++ older)
    under = hosts_before c a p cuts.newer cuts.rest (newer ++ older) at

    over : Hosts c a p cuts.newer (cuts.rest ++ (newer ++ older))
    over = hosts_after c a p cuts.newer cuts.rest (newer ++ older) at

    whole : later ++ (newer ++ older) ≡ cuts.newer ++ (cuts.rest ++ (newer ++ older))
    whole = ap (λ l. l ++ (newer ++ older)) cuts.is ∙ append_assoc cuts.newer cuts.rest (newer ++ older)

    base_sees : SeesAll c a p (cuts.rest ++ (newer ++ older))
    base_sees = λ v v_low v_other. let count = cuts.count in seen_by c a p v cuts.rest (newer ++ older) under v_low v_other (omega (arith, count))

    sees : HasSeen p w (later ++ (newer ++ older))
    sees = subst (HasSeen p w) (sym whole) (sees_on c a p cuts.newer (cuts.rest ++ (newer ++ older)) over.legal over.alone base_sees w low other)

    enough : (2 * c.replicas + 2) * (2 * cycle c) ≤ length (part p cuts.newer)
    enough =
        let all : clearing_steps c ≡ (2 * c.replicas + 2) * (2 * cycle c) + cycle c = omega arith in
        let long = k.cleared in
        let count = cuts.count in
        let split = ap (λ l. length (part p l)) cuts.is ∙ ap length (filter-append (λ e. e.by == p) cuts.newer cuts.rest) ∙ length-append (part p cuts.newer) (part p cuts.rest) in
        omega (arith, all, long, count, split)

    serves : seen_asks p w (later ++ (newer ++ older)) ≤ served p w (later ++ (newer ++ older))
    serves = elim (cases_lt (served p w (later ++ (newer ++ older))) (seen_asks p w (later ++ (newer ++ older)))) [
      | inl lacks ↦
          let falls = lacking_rounds c a p w (2 * c.replicas + 2) cuts.newer (cuts.rest ++ (newer ++ older)) over base_sees low other (subst (Lacks p w) whole lacks) enough in
          let few = load_few c a p (cuts.rest ++ (newer ++ older)) in
          absurd (omega (arith, falls, few))
      | inr fits ↦ fits
    ]

-- the same later
pub clears_on : (c : Config) (live : ℕ → Bool) (a p : ℕ) (latest later newer older : List Event) → KeepGoing c live a (latest ++ (later ++ newer)) older → Clears c live a p later newer older → Clears c live a p (latest ++ later) newer older
clears_on c live a p latest later newer older on k = record {
  on = subst (λ l. KeepGoing c live a l older) (sym (append_assoc latest later newer)) on;
  taken = k.taken;
  inside = k.inside;
  lives = k.lives;
  cleared = (let long = k.cleared in let sum = ap length (filter-append (λ e. e.by == p) latest later) ∙ length-append (part p latest) (part p later) in omega (arith, long, sum));
}

-- a region that a owns isn't closing
open_then : (c : Config) (live : ℕ → Bool) (a p : ℕ) (later newer older : List Event) → Clears c live a p later newer older → fence_owner p (later ++ (newer ++ older)) ≡ Some a → fence_closing p (later ++ (newer ++ older)) ≡ false
open_then c live a p later newer older k owns = go (fence_closing p (later ++ (newer ++ older))) refl
  where
    h : Hosts c a p later (newer ++ older)
    h = clears_hosts c live a p later newer older k

    nobody : SomeWaits c p (later ++ (newer ++ older)) → ⊥
    nobody s = elim (cases_eq s.0 a) [
      | inl same ↦ s.2.other (owns ∙ ap Some (sym same))
      | inr other ↦ (let all = (old_asks_served c live a p s.0 later newer older k s.1 other).served in let more = s.2.more in omega (arith, all, more))
    ]

    go : (t : Bool) → fence_closing p (later ++ (newer ++ older)) ≡ t → t ≡ false
    go true is = absurd (nobody (closes_for c p (later ++ (newer ++ older)) h.legal h.resting is))
    go false is = refl

-- an event leaves the owner and the grant of a region that isn't closing
record Keeps (a grant : ℕ) (owner : Option ℕ) (now : ℕ) : Type 0 where
  owns : owner ≡ Some a
  same : now ≡ grant

keeps_step : (c : Config) (a p grant by : ℕ) (v : Verb) (answer : Answer) (past : List Event) → Needs c by (part by past) v → fence_closing p past ≡ false → Keeps a grant (fence_owner p past) (fence_grant p past) → Keeps a grant (fence_owner p (record { by = by; verb = v; answer = answer } ∷ past)) (fence_grant p (record { by = by; verb = v; answer = answer } ∷ past))
keeps_step c a p grant by (Verb.Grant q) answer past may shut k = go (by == p) refl
  where
    go : (t : Bool) → (by == p) ≡ t → Keeps a grant (fence_owner p (record { by = by; verb = Verb.Grant q; answer = answer } ∷ past)) (fence_grant p (record { by = by; verb = Verb.Grant q; answer = answer } ∷ past))
    go true h = absurd (true≢false (sym (grant_needs c p q past (subst (λ x. Needs c x (part x past) (Verb.Grant q)) (eqb-true by p h) may)).0 ∙ shut))
    go false h = rw h k
keeps_step c a p grant by v answer past may shut k = k

kept : (c : Config) (live : ℕ → Bool) (a p : ℕ) (latest later newer older : List Event) → KeepGoing c live a (latest ++ (later ++ newer)) older → Clears c live a p later newer older → fence_owner p (later ++ (newer ++ older)) ≡ Some a
    → Keeps a (fence_grant p (later ++ (newer ++ older))) (fence_owner p (latest ++ (later ++ (newer ++ older)))) (fence_grant p (latest ++ (later ++ (newer ++ older))))
kept c live a p [] later newer older on k owns = record { owns = owns; same = refl }
kept c live a p (e ∷ latest) later newer older on k owns =
    let before = goes_on_before c live a (e ∷ []) (latest ++ (later ++ newer)) older on in
    let ih = kept c live a p latest later newer older before k owns in
    let shut = open_at c live a p latest later newer older before k ih.owns in
    keeps_step c a p (fence_grant p (later ++ (newer ++ older))) e.by e.verb e.answer (latest ++ (later ++ (newer ++ older))) legal.1.allowed.may shut ih
  where
    whole : (latest ++ (later ++ newer)) ++ older ≡ latest ++ (later ++ (newer ++ older))
    whole = append_assoc latest (later ++ newer) older ∙ ap (λ l. latest ++ l) (append_assoc later newer older)

    legal : IsLegalHistory c (e ∷ (latest ++ (later ++ (newer ++ older))))
    legal = subst (λ l. IsLegalHistory c (e ∷ l)) whole on.legal

    open_at : (c : Config) (live : ℕ → Bool) (a p : ℕ) (latest later newer older : List Event) → KeepGoing c live a (latest ++ (later ++ newer)) older → Clears c live a p later newer older → fence_owner p (latest ++ (later ++ (newer ++ older))) ≡ Some a → fence_closing p (latest ++ (later ++ (newer ++ older))) ≡ false
    open_at c live a p latest later newer older on k owns =
        let same = append_assoc latest later (newer ++ older) in
        ap (fence_closing p) (sym same) ∙ open_then c live a p (latest ++ later) newer older (clears_on c live a p latest later newer older on k) (ap (fence_owner p) same ∙ owns)

pub keeps_regions : LeastKeepsRegions
keeps_regions c live a p latest later newer older on k owns =
    let all = kept c live a p latest later newer older on k owns in
    let same = append_assoc latest later (newer ++ older) in
    let shut = open_then c live a p (latest ++ later) newer older (clears_on c live a p latest later newer older on k) (ap (fence_owner p) same ∙ all.owns) in
    (all.owns, all.same, ap (fence_closing p) (sym same) ∙ shut)

-- while a doesn't own the region nothing of it is served
unserved_step : (c : Config) (a p by : ℕ) (v : Verb) (past : List Event) → (fence_owner p past ≡ Some a → ⊥) → (fence_owner p (event_after c past by v ∷ past) ≡ Some a → ⊥) → served p a (event_after c past by v ∷ past) ≡ served p a past
unserved_step c a p by (Verb.Grant q) past was now = go (by == p) refl (q == a) refl now
  where
    go : (t : Bool) → (by == p) ≡ t → (u : Bool) → (q == a) ≡ u → (newer_or (cond (by == p) (Some q) None) (fence_owner p past) ≡ Some a → ⊥)
        → max (seen_asks p a (cond ((by == p) && (q == a)) past (before (λ (e : Event). is_grant_to p a e.by e.verb) past))) (or_zero (served_as_owner p a past)) ≡ served p a past
    go true ht true hu = rw (ht, hu) (λ other. absurd (other (ap Some (eqb-true q a hu))))
    go true ht false hu = rw (ht, hu) (λ other. refl)
    go false ht u hu = rw ht (λ other. refl)
unserved_step c a p by (Verb.ReadAsk q) past was now = ap (λ o. max (served_by_grant p a past) (or_zero (newer_or o (served_as_owner p a past)))) (unread (fence_owner p past) refl)
  where
    go : (t u w : Bool) → w ≡ false → cond (t && (u && (w && not (fence_closing p past)))) (Some (asks q by past)) None ≡ None
    go true true w h = rw h refl
    go true false w h = refl
    go false u w h = refl

    unread : (o : Option ℕ) → fence_owner p past ≡ o → read_while_owner p a past by (Verb.ReadAsk q) (Answer.Number (asks q by past)) ≡ None
    unread o is = go (by == p) (q == a) (owner_is a (fence_owner p past)) (not_owner a (fence_owner p past) was)
unserved_step c a p by v past was now = refl

unserved_still : (c : Config) (a p : ℕ) (latest base : List Event) → IsLegalHistory c (latest ++ base) → ((top l : List Event) → latest ≡ top ++ l → fence_owner p (l ++ base) ≡ Some a → ⊥) → served p a (latest ++ base) ≡ served p a base
unserved_still c a p [] base legal others = refl
unserved_still c a p (e ∷ latest) base legal others =
    subst (λ y. served p a (record { by = e.by; verb = e.verb; answer = y } ∷ (latest ++ base)) ≡ served p a (latest ++ base)) (sym legal.1.answer)
    (unserved_step c a p e.by e.verb (latest ++ base) (others (e ∷ []) latest refl)
    (subst (λ y. fence_owner p (record { by = e.by; verb = e.verb; answer = y } ∷ (latest ++ base)) ≡ Some a → ⊥) legal.1.answer (others [] (e ∷ latest) refl)))
    ∙ unserved_still c a p latest base legal.0 (λ top l is. others (e ∷ top) l (ap (λ m. e ∷ m) is))

pub least_granted : LeastIsGranted
least_granted c live a p latest later newer older e on k own asks_it long = go (fence_owner p (latest ++ base)) refl
  where
    x : List Event
    x = later ++ (newer ++ older)

    base : List Event
    base = e ∷ x

    now : Clears c live a p (latest ++ (e ∷ later)) newer older
    now = record {
      on = subst (λ l. KeepGoing c live a l older) (sym (append_assoc latest (e ∷ later) newer)) on;
      taken = k.taken;
      inside = k.inside;
      lives = k.lives;
      cleared = (let l = k.cleared in let sum = ap length (filter-append (λ f. f.by == p) (latest ++ (e ∷ [])) later) ∙ length-append (part p (latest ++ (e ∷ []))) (part p later) in let same = ap (λ m. length (part p m)) (append_assoc latest (e ∷ []) later) in omega (arith, l, sum, same));
    }

    h : Hosts c a p latest base
    h = hosts_after c a p latest (e ∷ later) (newer ++ older) (clears_hosts c live a p (latest ++ (e ∷ later)) newer older now)

    at_ask : KeepGoing c live a ((e ∷ []) ++ (later ++ newer)) older
    at_ask = goes_on_before c live a latest (e ∷ (later ++ newer)) older on

    then : Clears c live a p (e ∷ later) newer older
    then = clears_on c live a p (e ∷ []) later newer older at_ask k

    sees : SeesAll c a p base
    sees = λ w low other. (old_asks_served c live a p w (e ∷ later) newer older then low other).seen

    light : lagging c a p base ≡ 0
    light = none_below c.replicas (λ w. not (w == a) && nat_lt (served p w base) (seen_asks p w base)) (λ w low. none w low (not (w == a) && nat_lt (served p w base) (seen_asks p w base)) refl)
      where
        none_below : (n : ℕ) (f : ℕ → Bool) → ((w : ℕ) → w < n → f w ≡ false) → count_below n f ≡ 0
        none_below zero f none = refl
        none_below (suc n) f none = rw (none n (omega arith)) (none_below n f (λ w low. none w (omega (arith, low))))

        none : (w : ℕ) → w < c.replicas → (t : Bool) → (not (w == a) && nat_lt (served p w base) (seen_asks p w base)) ≡ t → t ≡ false
        none w low true is = (let lack = counted a p w base is in let all = (old_asks_served c live a p w (e ∷ later) newer older then low lack.0).served in let more = lack.1 in absurd (omega (arith, all, more)))
        none w low false is = refl

    -- one ask more than was served
    more : served p a base < asks a p base
    more =
        let here = legal_older c latest base h.legal in
        let few = served_few c p a x here.0 in
        asked e.by e.verb e.answer own asks_it few
      where
        asked : (by : ℕ) (verb : Verb) (answer : Answer) → by ≡ a → verb ≡ Verb.Ask p → served p a x ≤ asks a p x → served p a (record { by = by; verb = verb; answer = answer } ∷ x) < asks a p (record { by = by; verb = verb; answer = answer } ∷ x)
        asked by verb answer own is few = subst (λ v. served p a (record { by = by; verb = v; answer = answer } ∷ x) < asks a p (record { by = by; verb = v; answer = answer } ∷ x)) (sym is) (rw (eq-eqb by a own, same_number p) (omega (arith, few)))

    whole : latest ++ base ≡ (latest ++ (e ∷ later)) ++ (newer ++ older)
    whole = sym (append_assoc latest (e ∷ later) (newer ++ older))

    late : (fence_owner p (latest ++ base) ≡ Some a → ⊥) → ⊥
    late other = heavy (read_lightens c a p a latest base h sees k.on.inside waiting long)
      where
        others : (top l : List Event) → latest ≡ top ++ l → fence_owner p (l ++ base) ≡ Some a → ⊥
        others top l is owns =
            let split : latest ++ (e ∷ (later ++ newer)) ≡ top ++ ((l ++ (e ∷ later)) ++ newer) = ap (λ m. m ++ (e ∷ (later ++ newer))) is ∙ append_assoc top l (e ∷ (later ++ newer)) ∙ ap (λ m. top ++ m) (sym (append_assoc l (e ∷ later) newer)) in
            let on_there = subst (λ m. KeepGoing c live a m older) split on in
            let under = goes_on_before c live a top ((l ++ (e ∷ later)) ++ newer) older on_there in
            let there : Clears c live a p (l ++ (e ∷ later)) newer older = clears_on c live a p l (e ∷ later) newer older (subst (λ m. KeepGoing c live a m older) (append_assoc l (e ∷ later) newer) under) then in
            let owned_there : fence_owner p ((l ++ (e ∷ later)) ++ (newer ++ older)) ≡ Some a = ap (fence_owner p) (append_assoc l (e ∷ later) (newer ++ older)) ∙ owns in
            let stays = (keeps_regions c live a p top (l ++ (e ∷ later)) newer older on_there there owned_there).0 in
            let same : latest ++ base ≡ top ++ ((l ++ (e ∷ later)) ++ (newer ++ older)) = ap (λ m. m ++ base) is ∙ append_assoc top l base ∙ ap (λ m. top ++ m) (sym (append_assoc l (e ∷ later) (newer ++ older))) in
            other (ap (fence_owner p) same ∙ stays)

        waiting : (y : Event) (top after : List Event) → latest ≡ top ++ y ∷ after → y.by ≡ p → is_ask_read a y ≡ true → has_unserved_ask p (part p (y ∷ (after ++ base))) a ≡ true
        waiting y top after is own reads =
            let split : latest ++ base ≡ top ++ (y ∷ (after ++ base)) = ap (λ m. m ++ base) is ∙ append_assoc top (y ∷ after) base in
            let here = legal_older c top (y ∷ (after ++ base)) (subst (IsLegalHistory c) split h.legal) in
            let seen = read_sees c p a y (after ++ base) here own reads in
            let still = unserved_still c a p (y ∷ after) base here (λ t l cuts. others (top ++ t) l (is ∙ ap (λ m. top ++ m) cuts ∙ sym (append_assoc top t l))) in
            let grows = more_pass (λ f. is_ask_by a p f.by f.verb) (y ∷ after) base in
            unserved_of p a (y ∷ (after ++ base)) (others top (y ∷ after) is) (omega (arith, seen, still, grows, more))

        heavy : load c a p (latest ++ base) + 1 ≤ load c a p base → ⊥
        heavy less =
            let one = not_own a (fence_owner p (latest ++ base)) other in
            let most = lent_few a (fence_owner p base) in
            omega (arith, less, one, most, light)

    go : (o : Option ℕ) → fence_owner p (latest ++ base) ≡ o → o ≡ Some a
    go None is = absurd (late (λ owns. (let k = sym is ∙ owns in cc)))
    go (Some w) is = elim (cases_eq w a) [
      | inl same ↦ ap Some same
      | inr other ↦ absurd (late (λ owns. other (same_some w a (sym is ∙ owns))))
    ]
