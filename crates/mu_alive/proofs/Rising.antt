-- What rises while a leader lacks a command: FUOs, what others read of them and gain, and their heads.
use Rattle.std.proofs.Common.{◌≡◌, ◌≢◌, ℕ, suc, ◌+◌, ◌*◌, ◌<◌, ◌≤◌, ◌==◌, Bool, true, false, cond, List, ◌++◌, length, sym, ◌∙◌, ap, arith, subst, append_assoc}
use Rattle.std.proofs.lemmas.List.{length-append}
use Rattle.std.proofs.Math.Nat.{mul-le-mul_left}
use Rattle.mu_model.specs.declared.config.Config.{Config}
use Rattle.mu_model.specs.declared.event.Event.{Event}
use Rattle.mu_model.specs.Bounds.{cycle, stays}
use Rattle.mu_model.specs.Contents.{IsConfig, row_count}
use Rattle.mu_model.specs.Diligence.{TellsHeads}
use Rattle.mu_model.specs.Histories.{greatest, part}
use Rattle.mu_model.specs.Knowledge.{applied, fuo_read, greatest_fuo_read, known}
use Rattle.mu_model.specs.Leaderships.{is_member}
use Rattle.mu_model.specs.Legal.{IsLegalHistory}
use Rattle.mu_model.specs.Parts.{IsPossible}
use Rattle.mu_model.specs.Placing.{fuo_read_or_raised}
use Rattle.mu_model.specs.Regions.{head_raised, region_fuo, region_head}
use Rattle.mu_model.specs.Room.{reserve}
use Rattle.mu_model.specs.Steps.{has_min, knows_all}
use Rattle.mu_model.proofs.Owned.{greatest-part}
use Rattle.mu_model.proofs.Parts.{filter-append, part_is_possible}
use Rattle.mu_agree.proofs.Fitting.{part_positions_suffice_law}
use Rattle.mu_agree.proofs.Prefixes.{greatest_along}
use Rattle.mu_pace.specs.Counters.{IsInTime}
use Rattle.mu_agree.specs.Moments.{AtEachMoment, AtEachStep}
use Rattle.mu_pace.specs.Watches.{raising}
use Rattle.mu_pace.proofs.Counting.{last_moment, moments_before}
use Rattle.mu_pace.proofs.Growing.{known_grows, member_stays}
use Rattle.mu_alive.specs.Alone.{WritesAlone}
use Rattle.mu_alive.specs.Finishing.{KeepUp}
use Rattle.mu_alive.specs.Following.{FollowsOn, RaisesToAll}
use Rattle.mu_alive.specs.Lagging.{gain_steps}
use Rattle.mu_alive.specs.Near.{IsNear}
use Rattle.mu_alive.proofs.Applying.{applied_is_known}
use Rattle.mu_alive.proofs.Beginning.{CutAt, cut_at}
use Rattle.mu_alive.proofs.Bringing.{raising_moments}
use Rattle.mu_alive.proofs.Enough.{IsFine, Leads, fine_moments, lacks_older}
use Rattle.mu_alive.proofs.Spreading.{follows_on, heads-own}
use Rattle.mu_alive.proofs.Following.{fuo_read_in_time, gains_in_time, head_follows, own_fuo}
use Rattle.mu_alive.proofs.Gaining.{gain, gain_known, gain_some, gain_stays}
use Rattle.mu_alive.proofs.KnowsMost.{quiet_steps}
use Rattle.mu_alive.proofs.Moments.{halves}
use Rattle.mu_alive.proofs.Opening.{Open, open_on}
use Rattle.mu_alive.proofs.Settled.{HasRaised, IsQuiet, raised_along, reaches_known}
use Rattle.mu_alive.proofs.Started.{one_leads}
use Rattle.mu_alive.proofs.Steady.{Steady, steady_steps}
use Rattle.mu_pace.proofs.Pasts.{cut}
use Rattle.mu_alive.specs.Last.{LeadsLast}
use Rattle.mu_alive.specs.Opens.{OpensInTime}
use Rattle.mu_alive.proofs.Lasting.{last_before, last_leads}
use Rattle.mu_alive.proofs.LastRaising.{leads_on, opens_before, keep_before, writes_before}
use Rattle.mu_alive.proofs.TurnFences.{lead_on_moments}
use Rattle.mu_alive.proofs.TurnOwners.{IsLone}

pub reserve_fits : (c : Config) → IsConfig c → reserve c < c.ring
reserve_fits c good = let low = good.ring.0 in let most = good.replicas.1 in reserves (c.version == 2) low most
  where
    reserves : (t : Bool) → 8 ≤ c.ring → c.replicas ≤ 7 → cond t c.replicas 0 < c.ring
    reserves true low most = omega (arith, low, most)
    reserves false low most = omega (arith, low)

-- what is refuted: a is the first and leads alone, all keep up with it, and a command is missing
pub record Lacking (c : Config) (live : ℕ → Bool) (a : ℕ) (past : List Event) : Type 0 where
  pub good : IsConfig c
  pub all : (r : ℕ) → r < c.replicas → live r ≡ true
  pub first : a ≡ 0
  pub last : LeadsLast c live a 0 past
  pub opens : OpensInTime c a (part a past)
  pub writes : WritesAlone a past
  pub keep : KeepUp c live a past
  pub lacks : knows_all c a (part a past) ≡ false

pub lacking_before : (c : Config) (live : ℕ → Bool) (a : ℕ) (newer older : List Event) → Lacking c live a (newer ++ older) → Lacking c live a older
lacking_before c live a newer older l = record {
  good = l.good;
  all = l.all;
  first = l.first;
  last = last_before c live a 0 newer older l.last;
  opens = opens_before c a (part a newer) (part a older) (subst (OpensInTime c a) (filter-append (λ e. e.by == a) newer older) l.opens);
  writes = writes_before a newer older l.writes;
  keep = keep_before c live a newer older l.keep;
  lacks = lacks_older c a newer older l.lacks;
}

-- no other has asked
pub lone_of : (c : Config) (live : ℕ → Bool) (a : ℕ) (past : List Event) → Lacking c live a past → IsLone a past
lone_of c live a past l w other = l.last.highest w (let first = l.first in omega (arith, first, other))

-- no leadership of it ends, and it begins no other
pub on_of : (c : Config) (live : ℕ → Bool) (a : ℕ) (past : List Event) → Lacking c live a past → AtEachStep (Leads c a) (part a past) × AtEachMoment (IsFine c a) (part a past)
on_of c live a past l = (last_leads c a 0 past l.last.turns l.last.named, fine_moments c a past l.last.legal (lead_on_moments c a past l.last.legal l.last.turns (let most = l.good.replicas.1 in omega (arith, most))) l.last.going l.lacks)

-- so fewer entries are known than there are positions
pub few_known : (c : Config) (live : ℕ → Bool) (a : ℕ) (past : List Event) → Lacking c live a past → length (known c a (part a past)) < row_count c + reserve c
few_known c live a past l = let few = part_positions_suffice_law c a (part a past) l.good (part_is_possible c a past l.last.legal) l.lacks in omega (arith, few)

steady_of : (c : Config) (live : ℕ → Bool) (a : ℕ) (past : List Event) → Lacking c live a past → AtEachStep (Steady c a) (part a past)
steady_of c live a past l = let on = leads_on c live a 0 past l.good l.last in steady_steps c a (part a past) on.possible on.on on.named

-- all regions are members, each FUO is raised to what is known or soon will be, and each replica has
-- gained m or more
pub record Ready (c : Config) (a m : ℕ) (past : List Event) : Type 0 where
  pub members : (p : ℕ) → p < c.replicas → is_member a p (part a past) ≡ true
  pub raised : (p : ℕ) → p < c.replicas → HasRaised c a p (part a past)
  pub gained : (r : ℕ) → r < c.replicas → m ≤ gain c r (part r past)

pub gained_on : (c : Config) (r m : ℕ) (newer older : List Event) → m ≤ gain c r (part r older) → m ≤ gain c r (part r (newer ++ older))
gained_on c r m newer older few = let stays = gain_stays c r (part r newer) (part r older) in let same = ap (gain c r) (filter-append (λ e. e.by == r) newer older) in omega (arith, few, stays, same)

-- one leadership goes on
pub stays_on : (c : Config) (live : ℕ → Bool) (a : ℕ) (newer older : List Event) → Lacking c live a (newer ++ older) → has_min a (part a older) ≡ true → stays a (part a newer) ≡ true
stays_on c live a newer older l read = (one_leads c a (part a newer) (part a older) (subst (AtEachStep (Leads c a)) (filter-append (λ e. e.by == a) newer older) (on_of c live a (newer ++ older) l).0) read).0

pub ready_on : (c : Config) (live : ℕ → Bool) (a m : ℕ) (newer older : List Event) → Lacking c live a (newer ++ older) → has_min a (part a older) ≡ true → Ready c a m older → Ready c a m (newer ++ older)
ready_on c live a m newer older l read k = record {
  members = λ p low. subst (λ x. is_member a p x ≡ true) (sym mine) (member_stays a p (part a newer) (part a older) stayed (k.members p low));
  raised = λ p low. subst (HasRaised c a p) (sym mine) (raised_along c a p (part a newer) (part a older) (subst (AtEachStep (Steady c a)) mine (steady_of c live a (newer ++ older) l)) (subst (IsQuiet c a) mine (quiet_steps c a (newer ++ older) l.last.legal (lone_of c live a (newer ++ older) l))) stayed (k.members p low) (k.raised p low));
  gained = λ r low. gained_on c r m newer older (k.gained r low);
}
  where
    mine : part a (newer ++ older) ≡ part a newer ++ part a older
    mine = filter-append (λ e. e.by == a) newer older

    stayed : stays a (part a newer) ≡ true
    stayed = stays_on c live a newer older l read

open_later : (c : Config) (live : ℕ → Bool) (a x : ℕ) (base newer older : List Event) → Lacking c live a (newer ++ older) → Open c a x base (part a older) → Open c a x base (part a (newer ++ older))
open_later c live a x base newer older l o =
    let mine = filter-append (λ e. e.by == a) newer older in
    let on = on_of c live a (newer ++ older) l in
    subst (Open c a x base) (sym mine) (open_on c a x base (part a newer) (part a older) (subst (AtEachStep (Leads c a)) mine on.0) (subst (AtEachMoment (IsFine c a)) mine on.1) o)

-- those that go on keep up with a
pub record GoOn (c : Config) (live : ℕ → Bool) (a : ℕ) (past : List Event) : Type 0 where
  pub legal : IsLegalHistory c past
  pub near : AtEachMoment (IsNear c live a) past
  pub keep : KeepUp c live a past

pub lacking_on : (c : Config) (live : ℕ → Bool) (a : ℕ) (past : List Event) → Lacking c live a past → GoOn c live a past
lacking_on c live a past l = record { legal = l.last.legal; near = l.last.near; keep = l.keep }

-- how many steps the others take meanwhile
pub near_steps : (c : Config) (live : ℕ → Bool) (a r n : ℕ) (newer older : List Event) → GoOn c live a (newer ++ older) → r < c.replicas → live r ≡ true → n + 2 ≤ length (part a newer) → n ≤ length (part r newer)
near_steps c live a r n newer older l low lives long =
    let late = (last_moment (IsNear c live a) (newer ++ older) l.near r low lives).1 in
    let early = (last_moment (IsNear c live a) older (moments_before (IsNear c live a) newer older l.near) r low lives).0 in
    let theirs = ap length (filter-append (λ e. e.by == r) newer older) ∙ length-append (part r newer) (part r older) in
    let mine = ap length (filter-append (λ e. e.by == a) newer older) ∙ length-append (part a newer) (part a older) in
    omega (arith, late, early, theirs, mine, long)

-- in a turn of each member each FUO comes to what was known
pub fuos_rise : (c : Config) (live : ℕ → Bool) (a m : ℕ) (newer older : List Event) → Lacking c live a (newer ++ older) → has_min a (part a older) ≡ true → Ready c a m older → length (part a newer) ≡ 2 * c.replicas
    → (p : ℕ) → p < c.replicas → length (known c a (part a older)) ≤ greatest (λ e. fuo_read_or_raised a p e.by e.verb e.answer) (part a (newer ++ older))
fuos_rise c live a m newer older l read k long p low =
    let mine = filter-append (λ e. e.by == a) newer older in
    let half = halves c.replicas (part a newer) (part a older) long in
    subst (λ x. length (known c a (part a older)) ≤ greatest (λ e. fuo_read_or_raised a p e.by e.verb e.answer) x) (sym mine)
    (reaches_known c a p (part a newer) (part a older) (subst (AtEachStep (Steady c a)) mine (steady_of c live a (newer ++ older) l)) (subst (AtEachMoment (IsInTime (raising c a p))) mine (raising_moments c a p (part a (newer ++ older)) low l.last.led)) (stays_on c live a newer older l read) (k.members p low) (k.raised p low) (omega (arith, half)))

follows_here : (c : Config) (live : ℕ → Bool) (a r : ℕ) (newer older : List Event) → GoOn c live a (newer ++ older) → r < c.replicas → live r ≡ true → r ≢ a → FollowsOn c r newer older
follows_here c live a r newer older l low lives other = follows_on c live a r newer older l.legal l.keep low lives other

-- in two rounds each other replica reads that
pub read_in_time : (c : Config) (live : ℕ → Bool) (a k : ℕ) (newer older : List Event) → GoOn c live a (newer ++ older) → ((p : ℕ) → p < c.replicas → live p ≡ true → k ≤ region_fuo p older) → gain_steps c ≤ length (part a newer)
    → (r : ℕ) → r < c.replicas → live r ≡ true → r ≢ a → k ≤ greatest_fuo_read r r (part r (newer ++ older))
read_in_time c live a k newer older l fuos long r low lives other =
    let two = cut (2 * cycle c) (part r newer) (near_steps c live a r (2 * cycle c) newer older l low lives (omega (arith, long))) in
    let read = fuo_read_in_time c r k newer older (follows_here c live a r newer older l low lives other) (fuos r low lives) two.newer two.rest two.is two.count in
    let up = greatest_along (λ e. fuo_read r r e.by e.verb e.answer) two.newer (two.rest ++ part r older) in
    let same = ap (greatest_fuo_read r r) (filter-append (λ e. e.by == r) newer older ∙ ap (λ x. x ++ part r older) two.is ∙ append_assoc two.newer two.rest (part r older)) in
    omega (arith, read, up, same)

pub fuos_read : (c : Config) (live : ℕ → Bool) (a k : ℕ) (newer older : List Event) → Lacking c live a (newer ++ older) → ((p : ℕ) → p < c.replicas → k ≤ region_fuo p older) → gain_steps c ≤ length (part a newer)
    → (r : ℕ) → r < c.replicas → r ≢ a → k ≤ greatest_fuo_read r r (part r (newer ++ older))
fuos_read c live a k newer older l fuos long r low other = read_in_time c live a k newer older (lacking_on c live a (newer ++ older) l) (λ p inside _. fuos p inside) long r low (l.all r low) other

-- who has applied less than it knows to be decided gains in two rounds
pub gains_one : (c : Config) (live : ℕ → Bool) (a r k : ℕ) (newer older : List Event) → GoOn c live a (newer ++ older) → r < c.replicas → live r ≡ true → r ≢ a → k ≤ greatest_fuo_read r r (part r older) → length (applied c r (part r older)) < k → gain_steps c ≤ length (part a newer)
    → gain c r (part r older) + 1 ≤ gain c r (part r (newer ++ older))
gains_one c live a r k newer older l low lives other read lags long =
    let two = cut (2 * cycle c) (part r newer) (near_steps c live a r (2 * cycle c) newer older l low lives (omega (arith, long))) in
    let mine = filter-append (λ e. e.by == r) newer older ∙ ap (λ x. x ++ part r older) two.is ∙ append_assoc two.newer two.rest (part r older) in
    let some = gains_in_time c r newer older (follows_here c live a r newer older l low lives other) two.newer two.rest (part r older) mine (omega arith) two.count (omega (arith, lags, read)) in
    let one = gain_some c r two.rest (part r older) some in
    let stays = gain_stays c r two.newer (two.rest ++ part r older) in
    let same = ap (gain c r) mine in
    omega (arith, one, stays, same)

-- in a round who has applied so much raises its head to it
pub raise_in_time : (c : Config) (live : ℕ → Bool) (a k : ℕ) (newer older : List Event) → GoOn c live a (newer ++ older) → ((r : ℕ) → r < c.replicas → live r ≡ true → k ≤ own_fuo r (part r older)) → ((r : ℕ) → r < c.replicas → live r ≡ true → k ≤ length (applied c r (part r older))) → cycle c + 2 ≤ length (part a newer)
    → (r : ℕ) → r < c.replicas → live r ≡ true → k ≤ region_head r (newer ++ older)
raise_in_time c live a k newer older l decided had long r low lives =
    let mine = filter-append (λ e. e.by == r) newer older in
    let head = head_follows c r k (part r newer) (part r older) (subst (IsPossible c r) mine (part_is_possible c r (newer ++ older) l.legal)) (subst (TellsHeads c r) mine (l.keep.heads r low lives)) (subst (AtEachStep (RaisesToAll c r)) mine (l.keep.raises r low lives)) (had r low lives) (decided r low lives) (near_steps c live a r (cycle c) newer older l low lives long) in
    let region = greatest-part (λ e. head_raised r e.by e.verb) r (heads-own r) (newer ++ older) in
    let same = ap (region_head r) mine in
    omega (arith, head, region, same)

pub heads_rise : (c : Config) (live : ℕ → Bool) (a k : ℕ) (newer older : List Event) → Lacking c live a (newer ++ older) → ((r : ℕ) → r < c.replicas → k ≤ own_fuo r (part r older)) → ((r : ℕ) → r < c.replicas → k ≤ length (applied c r (part r older))) → cycle c + 2 ≤ length (part a newer)
    → (r : ℕ) → r < c.replicas → k ≤ region_head r (newer ++ older)
heads_rise c live a k newer older l decided had long r low = raise_in_time c live a k newer older (lacking_on c live a (newer ++ older) l) (λ q inside _. decided q inside) (λ q inside _. had q inside) long r low (l.all r low)

-- what the leader knows it has applied
pub applies_own : (c : Config) (live : ℕ → Bool) (a : ℕ) (past : List Event) → Lacking c live a past → length (applied c a (part a past)) ≡ length (known c a (part a past))
applies_own c live a past l = ap length (applied_is_known c a past l.good l.last.legal l.writes)

-- each FUO of one that goes on is known to it, up to k
pub record Decided (c : Config) (live : ℕ → Bool) (a k : ℕ) (past : List Event) : Type 0 where
  pub own : (r : ℕ) → r < c.replicas → live r ≡ true → k ≤ own_fuo r (part r past)
  pub read : (r : ℕ) → r < c.replicas → live r ≡ true → r ≢ a → k ≤ greatest_fuo_read r r (part r past)

pub decided_on : (c : Config) (live : ℕ → Bool) (a k : ℕ) (newer older : List Event) → Decided c live a k older → Decided c live a k (newer ++ older)
decided_on c live a k newer older d = record {
  own = λ r low lives. let up = greatest_along (λ f. fuo_read_or_raised r r f.by f.verb f.answer) (part r newer) (part r older) in let same = ap (own_fuo r) (filter-append (λ e. e.by == r) newer older) in let high = d.own r low lives in omega (arith, up, same, high);
  read = λ r low lives other. let up = greatest_along (λ f. fuo_read r r f.by f.verb f.answer) (part r newer) (part r older) in let same = ap (greatest_fuo_read r r) (filter-append (λ e. e.by == r) newer older) in let high = d.read r low lives other in omega (arith, up, same, high);
}

-- nobody has gained all rows while a command is missing
pub few_gained : (c : Config) (live : ℕ → Bool) (a m : ℕ) (past : List Event) → Lacking c live a past → Ready c a m past → m < (c.width + 1) * (row_count c + reserve c)
few_gained c live a m past l k =
    let low = k.gained a l.last.inside in
    let most = gain_known c a (part a past) l.good in
    let few = few_known c live a past l in
    let fewer : (c.width + 1) * suc (length (known c a (part a past))) ≤ (c.width + 1) * (row_count c + reserve c) = mul-le-mul_left (c.width + 1) few in
    let next : (c.width + 1) * suc (length (known c a (part a past))) ≡ (c.width + 1) * length (known c a (part a past)) + (c.width + 1) = omega arith in
    omega (arith, low, most, fewer, next)

-- a later moment
pub record Later (c : Config) (live : ℕ → Bool) (a n x k : ℕ) (base whole newer older : List Event) : Type 0 where
  pub upper : List Event
  pub lower : List Event
  pub cuts : newer ≡ upper ++ lower
  pub taken : length (part a lower) ≡ n
  pub above : length (part a newer) ≡ length (part a upper) + n
  pub is : whole ≡ upper ++ (lower ++ older)
  pub lacking : Lacking c live a (upper ++ (lower ++ older))
  pub there : Lacking c live a (lower ++ older)
  pub open_yet : Open c a x base (part a (lower ++ older))
  pub knows : k ≤ length (known c a (part a (lower ++ older)))

pub later : (c : Config) (live : ℕ → Bool) (a n x k : ℕ) (base whole newer older : List Event) → Lacking c live a whole → whole ≡ newer ++ older → Open c a x base (part a older) → k ≤ length (known c a (part a older)) → n ≤ length (part a newer) → Later c live a n x k base whole newer older
later c live a n x k base whole newer older lacking is o knew long = record { upper = at.newer; lower = at.rest; cuts = at.is; taken = at.count; above = above; is = whole_is; lacking = all; there = there; open_yet = open_later c live a x base at.rest older there o; knows = knows }
  where
    at : CutAt a n newer
    at = cut_at a n newer long

    whole_is : whole ≡ at.newer ++ (at.rest ++ older)
    whole_is = is ∙ ap (λ z. z ++ older) at.is ∙ append_assoc at.newer at.rest older

    all : Lacking c live a (at.newer ++ (at.rest ++ older))
    all = subst (Lacking c live a) whole_is lacking

    there : Lacking c live a (at.rest ++ older)
    there = lacking_before c live a at.newer (at.rest ++ older) all

    above : length (part a newer) ≡ length (part a at.newer) + n
    above = let sum = ap (λ z. length (part a z)) at.is ∙ ap length (filter-append (λ e. e.by == a) at.newer at.rest) ∙ length-append (part a at.newer) (part a at.rest) in let count = at.count in omega (arith, sum, count)

    knows : k ≤ length (known c a (part a (at.rest ++ older)))
    knows = let grows = known_grows c a (part a at.rest) (part a older) in let same = ap (λ z. length (known c a z)) (filter-append (λ e. e.by == a) at.rest older) in omega (arith, grows, same, knew)
