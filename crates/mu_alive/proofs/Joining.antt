-- While the clock goes on, each region that grants to the leader becomes a member, or its FUO is seen above
-- what was known.
use Rattle.std.proofs.Common.{◌≡◌, ◌⊎◌, ℕ, ◌+◌, ◌*◌, ◌<◌, ◌≤◌, ◌==◌, inl, inr, Bool, true, List, [], ◌++◌, length, refl, sym, ◌∙◌, ap, arith, subst, append_assoc}
use Rattle.std.proofs.lemmas.List.{length-append}
use Rattle.mu_model.specs.declared.config.Config.{Config}
use Rattle.mu_model.specs.declared.event.Event.{Event}
use Rattle.mu_model.specs.Bounds.{stays}
use Rattle.mu_model.specs.Histories.{greatest, part}
use Rattle.mu_model.specs.Knowledge.{known}
use Rattle.mu_model.specs.Leaderships.{is_member}
use Rattle.mu_model.specs.Placing.{fuo_read_or_raised}
use Rattle.mu_model.specs.Stretches.{replications}
use Rattle.mu_model.proofs.Parts.{filter-append}
use Rattle.mu_pace.specs.Counters.{paid}
use Rattle.mu_pace.specs.Watches.{earns, limit}
use Rattle.mu_alive.specs.Bringing.{LeadsOn}
use Rattle.mu_alive.proofs.Bringing.{Joins, ahead_covers, joins_in_time}
use Rattle.mu_alive.proofs.LastRaising.{asks_all, governs}
use Rattle.mu_alive.proofs.Moments.{at_least_halves}
use Rattle.mu_alive.proofs.Since.{paid_on}
use Rattle.mu_alive.proofs.Spreading.{Governs}
use Rattle.mu_alive.proofs.Ticking.{IsBelow, IsReached, below_more, reached}
use Rattle.mu_alive.proofs.Waiting.{paid_both, stays_newer}
use Rattle.mu_alive.proofs.Stopped.{Waits, begun_by, opening_steps, waits_before}

-- p is a member, or a has read or raised its FUO to k
abbrev pub HasJoined : Config → ℕ → ℕ → ℕ → List Event → Type 0
HasJoined c a p k now = (is_member a p now ≡ true) ⊎ (k ≤ greatest (λ e. fuo_read_or_raised a p e.by e.verb e.answer) now)

-- a stretch of this many steps by the clock in which a leads on, after k entries were known
pub record Began (c : Config) (a start k at : ℕ) (n base past : List Event) : Type 0 where
  pub seg : List Event
  pub before : List Event
  pub first : List Event
  pub is : past ≡ seg ++ before
  pub parts : n ≡ part a seg ++ first
  pub own : part a before ≡ first ++ base
  pub late : start + opening_steps c a ≤ length (part a before)
  pub knew : k ≤ length (known c a (part a before))
  pub below : IsBelow c a at first base

pub began_on : (c : Config) (a start k at : ℕ) (n base lower past : List Event) → Began c a start k at n base past → Began c a start k at (part a lower ++ n) base (lower ++ past)
began_on c a start k at n base lower past b = record {
  seg = lower ++ b.seg;
  before = b.before;
  first = b.first;
  is = ap (λ l. lower ++ l) b.is ∙ sym (append_assoc lower b.seg b.before);
  parts = ap (λ l. part a lower ++ l) b.parts ∙ sym (append_assoc (part a lower) (part a b.seg) b.first) ∙ ap (λ l. l ++ b.first) (sym (filter-append (λ e. e.by == a) lower b.seg));
  own = b.own;
  late = b.late;
  knew = b.knew;
  below = b.below;
}

joined_by : (c : Config) (live : ℕ → Bool) (a start k at p : ℕ) (first base seg before : List Event) → Waits c live a start (seg ++ before) → part a before ≡ first ++ base → start + opening_steps c a ≤ length (part a before) → k ≤ length (known c a (part a before)) → IsBelow c a at first base
    → at + (4 * limit c c.replicas + 8) + 4 * paid (earns c a) (part a seg ++ first) base ≤ length (part a seg ++ first) → p < c.replicas → live p ≡ true → HasJoined c a p (k + 1) (part a seg ++ part a before)
joined_by c live a start k at p first base seg before w own late knew below long low lives = joined (joins_in_time c a p k v u (part a before) w.good leads (here.granted p low lives) (stays_newer a v u same) knew enough four)
  where
    there : IsReached c a (at + 4 * limit c c.replicas) first base seg
    there =
        reached c a (at + 4 * limit c c.replicas) first base seg (below_more c a at (at + 4 * limit c c.replicas) first base (omega arith) below) (omega (arith, long))

    u : List Event
    u = part a there.lower

    v : List Event
    v = part a there.upper

    halves : part a seg ≡ v ++ u
    halves = ap (part a) there.is ∙ filter-append (λ e. e.by == a) there.upper there.lower

    whole : seg ++ before ≡ there.upper ++ (there.lower ++ before)
    whole = ap (λ l. l ++ before) there.is ∙ append_assoc there.upper there.lower before

    waits : Waits c live a start (there.lower ++ before)
    waits = waits_before c live a start there.upper (there.lower ++ before) (subst (Waits c live a start) whole w)

    here : Governs c live a there.lower before
    here =
        governs c live a start there.lower before w.good waits.last (asks_all c live a start (there.lower ++ before) waits.last waits.free.opens.asks waits.free.keep.asked) (begun_by c live a start before (waits_before c live a start there.lower before waits) late) (omega (arith, late))

    all : Governs c live a seg before
    all = governs c live a start seg before w.good w.last (asks_all c live a start (seg ++ before) w.last w.free.opens.asks w.free.keep.asked) (begun_by c live a start before (waits_before c live a start seg before w) late) (omega (arith, late))

    same : stays a (v ++ u) ≡ true
    same = subst (λ l. stays a l ≡ true) halves (all.granted p low lives).same

    leads : LeadsOn c a (v ++ (u ++ part a before))
    leads = subst (LeadsOn c a) (ap (λ l. l ++ part a before) halves ∙ append_assoc v u (part a before)) all.leads

    enough : 2 * limit c c.replicas + 2 * paid (earns c a) u (part a before) ≤ replications u (part a before)
    enough =
        let half = at_least_halves u (part a before) in
        let both = paid_both (earns c a) u first base in
        let same = ap (paid (earns c a) u) own in
        let sum = length-append u first in
        let few = below [] first refl in
        let far = there.enough in
        omega (arith, half, both, same, sum, few, far)

    four : 4 ≤ replications v (u ++ part a before)
    four =
        let half = at_least_halves v (u ++ part a before) in
        let parts : part a seg ++ first ≡ v ++ (u ++ first) = ap (λ l. l ++ first) halves ∙ append_assoc v u first in
        let sum = ap length parts ∙ length-append v (u ++ first) in
        let same = ap (λ l. paid (earns c a) l base) parts in
        let more = paid_on c a v (u ++ first) base in
        let few = there.below [] (u ++ first) refl in
        omega (arith, half, sum, same, more, few, long)

    back : v ++ (u ++ part a before) ≡ part a seg ++ part a before
    back = sym (append_assoc v u (part a before)) ∙ ap (λ l. l ++ part a before) (sym halves)

    joined : Joins c a p k (v ++ (u ++ part a before)) → HasJoined c a p (k + 1) (part a seg ++ part a before)
    joined (inl member) = inl (subst (λ l. is_member a p l ≡ true) back member)
    joined (inr ahead) = inr (let covers = ahead_covers c a p k (v ++ (u ++ part a before)) ahead in let same = ap (greatest (λ e. fuo_read_or_raised a p e.by e.verb e.answer)) back in omega (arith, covers, same))

-- so when the clock has gone on far enough
pub joined_then : (c : Config) (live : ℕ → Bool) (a start k at p : ℕ) (n base past : List Event) → Waits c live a start past → (b : Began c a start k at n base past) → at + (4 * limit c c.replicas + 8) + 4 * paid (earns c a) n base ≤ length n → p < c.replicas → live p ≡ true → HasJoined c a p (k + 1) (n ++ base)
joined_then c live a start k at p n base past w b long low lives =
    subst (HasJoined c a p (k + 1)) (ap (λ l. part a b.seg ++ l) b.own ∙ sym (append_assoc (part a b.seg) b.first base) ∙ ap (λ l. l ++ base) (sym b.parts))
    (joined_by c live a start k at p b.first base b.seg b.before (subst (Waits c live a start) b.is w) b.own b.late b.knew b.below (subst (λ l. at + (4 * limit c c.replicas + 8) + 4 * paid (earns c a) l base ≤ length l) b.parts long) low lives)
