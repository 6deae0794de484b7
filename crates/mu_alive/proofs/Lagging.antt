-- Replica 0, if it leads alone and all others keep up with it, has applied every command in time, though
-- heads lag.
use Rattle.std.proofs.Common.{◌≡◌, ℕ, ◌+◌, ◌*◌, ◌<◌, ◌≤◌, ◌==◌, inl, inr, Bool, true, false, List, ◌∷◌, ◌++◌, length, refl, sym, ◌∙◌, ap, arith, subst}
use Rattle.std.proofs.lemmas.List.{length-append}
use Rattle.mu_model.specs.declared.config.Config.{Config}
use Rattle.mu_model.specs.declared.event.Event.{Event}
use Rattle.mu_model.specs.Bounds.{cycle, stays}
use Rattle.mu_model.specs.Contents.{IsConfig, holds_all, row_count}
use Rattle.mu_model.specs.Histories.{part}
use Rattle.mu_model.specs.Leaderships.{is_member}
use Rattle.mu_model.specs.Room.{reserve}
use Rattle.mu_model.specs.Steps.{knows_all}
use Rattle.mu_model.proofs.Parts.{filter-append}
use Rattle.mu_agree.specs.Moments.{AtEachMoment, AtEachStep}
use Rattle.mu_pace.specs.Watches.{limit}
use Rattle.mu_pace.proofs.Growing.{member_stays}
use Rattle.mu_alive.specs.Alone.{WritesAlone}
use Rattle.mu_alive.specs.Bringing.{LeadsOn, bringing_steps, joining_steps, most_paid}
use Rattle.mu_alive.specs.Enough.{beginning_steps, asking_steps, granting_steps}
use Rattle.mu_alive.specs.Finishing.{KeepUp, spreading_steps}
use Rattle.mu_alive.specs.Lagging.{LoneLeadersApplyAllInAnyRing, LoneLeadersRaiseAllInAnyRing, commit_steps, gain_steps, steps_in_any_ring}
use Rattle.mu_alive.proofs.Applying.{applied_is_known}
use Rattle.mu_alive.proofs.Beginning.{CutAt, cut_at}
use Rattle.mu_alive.proofs.Bringing.{Ahead, Joins, joins_up}
use Rattle.mu_alive.proofs.Enough.{IsFine, Leads, min_or_none}
use Rattle.mu_alive.proofs.KnowsMost.{never_ahead, quiet_steps}
use Rattle.mu_alive.proofs.Moments.{halves}
use Rattle.mu_alive.proofs.Opening.{Open, open_first, open_on}
use Rattle.mu_alive.proofs.Settled.{HasRaised, IsQuiet, settles}
use Rattle.mu_alive.proofs.Started.{Started}
use Rattle.mu_alive.proofs.Catching.{commits_all}
use Rattle.mu_alive.proofs.Rising.{Lacking, Later, Ready, lacking_before, later, stays_on, lone_of, on_of}
use Rattle.mu_alive.specs.Last.{LeadsLast, last_granting_steps}
use Rattle.mu_alive.specs.Opens.{OpensInTime}
use Rattle.mu_alive.proofs.Lasting.{last_before, last_begins}
use Rattle.mu_alive.proofs.LastRaising.{asks_all, each_unread, governs, last_started, leads_on, opens_before, raised_by, keep_before, writes_before}
use Rattle.mu_alive.proofs.Spreading.{Governs}

-- the steps of the first before it reads a minimum
granting_same : (c : Config) (a : ℕ) → a ≡ 0 → last_granting_steps c a ≡ granting_steps c
granting_same c a first = ap (last_granting_steps c) first ∙ base
  where
    base : last_granting_steps c 0 ≡ granting_steps c
    base = omega arith

-- the bound is open since the first minimum
open_begun : (c : Config) (live : ℕ → Bool) (a : ℕ) (past : List Event) → Lacking c live a past → beginning_steps c ≤ length (part a past) → (base : List Event) × Open c a 0 base (part a past)
open_begun c live a past l long = elim (min_or_none a (part a past)) [
  | inl none ↦ absurd (let few = last_begins c live a 0 past l.good l.last (each_unread c a 0 (part a past) l.opens.asks l.last.named none) none in let same = granting_same c a l.first in omega (arith, few, long, same))
  | inr m ↦
      let on = on_of c live a past l in
      (m.first ∷ m.older, subst (Open c a 0 (m.first ∷ m.older)) (sym m.is) (open_on c a 0 (m.first ∷ m.older) m.newer (m.first ∷ m.older) (subst (AtEachStep (Leads c a)) m.is on.0) (subst (AtEachMoment (IsFine c a)) m.is on.1) (open_first c a (part a past) m)))
]

-- then all regions become members, and their FUOs are raised
settle : (c : Config) (live : ℕ → Bool) (a x rest : ℕ) (base whole newer older : List Event) → Lacking c live a whole → whole ≡ newer ++ older → Open c a x base (part a older) → beginning_steps c ≤ length (part a older) → most_paid c ≤ x + rest
    → (2 * cycle c + 2) + joining_steps c + ((row_count c + reserve c) * commit_steps c + (c.width + 1) * (row_count c + reserve c) * gain_steps c + 2 * rest) ≤ length (part a newer) → ⊥
settle c live a x rest base whole newer older lacking is o late pays long =
    commits_all c live a (row_count c + reserve c) ((c.width + 1) * (row_count c + reserve c)) 0 x rest base whole third.upper moment lacking third.is ready third.open_yet (omega arith) (omega arith) pays
    (let n = first.above in let p = second.above in let q = third.above in rest_of_it (2 * cycle c + 2) (bringing_steps c) ((row_count c + reserve c) * commit_steps c + (c.width + 1) * (row_count c + reserve c) * gain_steps c + 2 * rest) (length (part a newer)) (length (part a first.upper)) (length (part a second.upper)) (length (part a third.upper)) n p q long)
  where
    fewer : (x b y n : ℕ) → x + (6 * b + 8) + y ≤ n → x ≤ n
    fewer x b y n long = omega (arith, long)

    fewer_yet : (x b y n m : ℕ) → n ≡ m + x → x + (6 * b + 8) + y ≤ n → 4 * b + 8 ≤ m
    fewer_yet x b y n m is long = omega (arith, is, long)

    fewest : (x b y n m k : ℕ) → n ≡ m + x → m ≡ k + (4 * b + 8) → x + (6 * b + 8) + y ≤ n → 2 * b ≤ k
    fewest x b y n m k is at long = omega (arith, is, at, long)

    rest_of_it : (x b y n m k j : ℕ) → n ≡ m + x → m ≡ k + (4 * b + 8) → k ≡ j + 2 * b → x + (6 * b + 8) + y ≤ n → y ≤ j
    rest_of_it x b y n m k j is at up long = omega (arith, is, at, up, long)

    left : ℕ
    left = (row_count c + reserve c) * commit_steps c + (c.width + 1) * (row_count c + reserve c) * gain_steps c + 2 * rest

    first : Later c live a (2 * cycle c + 2) x 0 base whole newer older
    first = later c live a (2 * cycle c + 2) x 0 base whole newer older lacking is o (omega arith) (fewer (2 * cycle c + 2) (bringing_steps c) left (length (part a newer)) long)

    granted : List Event
    granted = first.lower ++ older

    second : Later c live a (4 * bringing_steps c + 8) x 0 base whole first.upper granted
    second = later c live a (4 * bringing_steps c + 8) x 0 base whole first.upper granted lacking first.is first.open_yet (omega arith) (let n = first.above in fewer_yet (2 * cycle c + 2) (bringing_steps c) left (length (part a newer)) (length (part a first.upper)) n long)

    joined : List Event
    joined = second.lower ++ granted

    third : Later c live a (2 * bringing_steps c) x 0 base whole second.upper joined
    third = later c live a (2 * bringing_steps c) x 0 base whole second.upper joined lacking second.is second.open_yet (omega arith) (let n = first.above in let p = second.above in fewest (2 * cycle c + 2) (bringing_steps c) left (length (part a newer)) (length (part a first.upper)) (length (part a second.upper)) n p long)

    moment : List Event
    moment = third.lower ++ joined

    enough : length (part a granted) ≡ (2 * cycle c + 2) + length (part a older)
    enough = let sum = ap length (filter-append (λ e. e.by == a) first.lower older) ∙ length-append (part a first.lower) (part a older) in let taken = first.taken in omega (arith, sum, taken)

    begun : Started c a granted
    begun = last_started c live a 0 granted first.there.good first.there.last first.there.opens first.there.keep.asked (let n = enough in let same = granting_same c a first.there.first in omega (arith, n, late, same))

    leads : Governs c live a second.lower granted
    leads =
        governs c live a 0 second.lower granted second.there.good second.there.last (asks_all c live a 0 joined second.there.last second.there.opens.asks second.there.keep.asked) begun
        (let n = enough in let same = granting_same c a first.there.first in omega (arith, n, late, same))

    parts : (newer older : List Event) → part a (newer ++ older) ≡ part a newer ++ part a older
    parts newer older = filter-append (λ e. e.by == a) newer older

    member : (p : ℕ) → p < c.replicas → is_member a p (part a joined) ≡ true
    member p low = joins
        (joins_up c a p 0 (part a second.lower) (part a granted) second.there.good leads.leads (leads.granted p low (second.there.all p low)) (omega arith) (let taken = second.taken in omega (arith, taken)))
      where
        joins : Joins c a p 0 (part a second.lower ++ part a granted) → is_member a p (part a joined) ≡ true
        joins (inl there) = subst (λ z. is_member a p z ≡ true) (sym (parts second.lower granted)) there
        joins (inr ahead) = absurd (never_ahead c a p 0 joined second.there.last.legal (lone_of c live a joined second.there) (subst (Ahead c a p 0) (sym (parts second.lower granted)) ahead))

    stayed : stays a (part a third.lower) ≡ true
    stayed = stays_on c live a third.lower joined third.there second.open_yet.read

    ready : Ready c a 0 moment
    ready = record {
      members = λ p low. subst (λ z. is_member a p z ≡ true) (sym (parts third.lower joined)) (member_stays a p (part a third.lower) (part a joined) stayed (member p low));
      raised = λ p low. subst (HasRaised c a p) (sym (parts third.lower joined))
          (settles c a p (part a third.lower) (part a joined) third.there.good (subst (LeadsOn c a) (parts third.lower joined) (leads_on c live a 0 moment third.there.good third.there.last)) (subst (IsQuiet c a) (parts third.lower joined) (quiet_steps c a moment third.there.last.legal (lone_of c live a moment third.there))) low stayed (member p low)
          (let half = halves (bringing_steps c) (part a third.lower) (part a joined) third.taken in omega (arith, half)));
      gained = λ r low. omega arith;
    }

-- so it knows every command
knows_in_any_ring : (c : Config) (live : ℕ → Bool) (past : List Event) → IsConfig c → ((r : ℕ) → r < c.replicas → live r ≡ true) → LeadsLast c live 0 0 past → OpensInTime c 0 (part 0 past) → WritesAlone 0 past → KeepUp c live 0 past → steps_in_any_ring c ≤ length (part 0 past) → knows_all c 0 (part 0 past) ≡ true
knows_in_any_ring c live past good all last opens writes keep long = go (knows_all c 0 (part 0 past)) refl
  where
    first : CutAt 0 (beginning_steps c) past
    first = cut_at 0 (beginning_steps c) past (at_least (beginning_steps c) (2 * cycle c + 2) (joining_steps c) (2 * bringing_steps c) ((row_count c + reserve c) * commit_steps c) ((c.width + 1) * (row_count c + reserve c) * gain_steps c) (length (part 0 past)) long)
      where
        at_least : (b x j y z w n : ℕ) → b + x + j + y + z + w ≤ n → b ≤ n
        at_least b x j y z w n long = omega (arith, long)

    above : length (part 0 past) ≡ length (part 0 first.newer) + beginning_steps c
    above = let sum = ap (λ z. length (part 0 z)) first.is ∙ ap length (filter-append (λ e. e.by == 0) first.newer first.rest) ∙ length-append (part 0 first.newer) (part 0 first.rest) in let count = first.count in omega (arith, sum, count)

    -- what is left after the first minimum
    left : (b x j l m z w n k : ℕ) → b + x + j + 2 * (l + m) + z + w ≤ n → n ≡ k + b → x + j + (z + w + 2 * m) ≤ k
    left b x j l m z w n k long is = omega (arith, long, is)

    never : knows_all c 0 (part 0 past) ≡ false → ⊥
    never lacks =
        let whole : Lacking c live 0 past = record { good = good; all = all; first = refl; last = last; opens = opens; writes = writes; keep = keep; lacks = lacks } in
        let o = open_begun c live 0 first.rest (lacking_before c live 0 first.newer first.rest (subst (Lacking c live 0) first.is whole)) (let count = first.count in omega (arith, count)) in
        settle c live 0 0 (most_paid c) o.0 past first.newer first.rest whole first.is o.1 (let count = first.count in omega (arith, count)) (omega arith)
        (left (beginning_steps c) (2 * cycle c + 2) (joining_steps c) (limit c c.replicas) (most_paid c) ((row_count c + reserve c) * commit_steps c) ((c.width + 1) * (row_count c + reserve c) * gain_steps c) (length (part 0 past)) (length (part 0 first.newer)) long above)

    go : (t : Bool) → knows_all c 0 (part 0 past) ≡ t → t ≡ true
    go true is = refl
    go false lacks = absurd (never lacks)

pub applies_in_any_ring : LoneLeadersApplyAllInAnyRing
applies_in_any_ring c live past good all last opens writes keep long = ap (holds_all c) (applied_is_known c 0 past good last.legal writes) ∙ knows_in_any_ring c live past good all last opens writes keep long

pub raises_in_any_ring : LoneLeadersRaiseAllInAnyRing
raises_in_any_ring c live past good all last opens fetches writes keep long =
    raised_by c live 0 0 (steps_in_any_ring c) past good last opens fetches keep
    (begins (beginning_steps c) (2 * cycle c + 2) (joining_steps c) (2 * bringing_steps c) ((row_count c + reserve c) * commit_steps c) ((c.width + 1) * (row_count c + reserve c) * gain_steps c) (0 + last_granting_steps c 0 + 2 * asking_steps c + 2 * (c.replicas + 2)) (omega arith))
    (λ newer older is enough.
    knows_in_any_ring c live older good all (last_before c live 0 0 newer older (subst (LeadsLast c live 0 0) is last)) (opens_before c 0 (part 0 newer) (part 0 older) (subst (OpensInTime c 0) (ap (part 0) is ∙ filter-append (λ e. e.by == 0) newer older) opens)) (writes_before 0 newer older (subst (WritesAlone 0) is writes))
    (keep_before c live 0 newer older (subst (KeepUp c live 0) is keep)) enough)
    (fewer (steps_in_any_ring c) (2 * cycle c + 2) (spreading_steps c) (length (part 0 past)) long)
  where
    begins : (b x j y z w n : ℕ) → n ≤ b + x → n ≤ b + x + j + y + z + w
    begins b x j y z w n few = omega (arith, few)

    fewer : (m x s n : ℕ) → m + (x + s) ≤ n → m + s ≤ n
    fewer m x s n long = omega (arith, long)
