-- Where a leader stands that others block: its clock since its first minimum, and which counts are open.
use Rattle.std.proofs.Common.{◌≡◌, ℕ, ◌+◌, ◌*◌, ◌<◌, ◌≤◌, ◌==◌, inl, inr, Bool, true, false, List, [], ◌++◌, length, refl, sym, ◌∙◌, ap, arith, subst, append_assoc}
use Rattle.std.proofs.lemmas.Bool.{cases_eq, cases_lt}
use Rattle.std.proofs.lemmas.List.{length-append}
use Rattle.mu_model.specs.declared.config.Config.{Config}
use Rattle.mu_model.specs.declared.event.Event.{Event}
use Rattle.mu_model.specs.Bounds.{cycle, stays}
use Rattle.mu_model.specs.Histories.{part}
use Rattle.mu_model.specs.Knowledge.{applied, known}
use Rattle.mu_model.specs.Parts.{IsPossible}
use Rattle.mu_model.specs.Steps.{has_min, knows_all}
use Rattle.mu_model.proofs.Parts.{filter-append, part_is_possible}
use Rattle.mu_pace.specs.Counters.{paid}
use Rattle.mu_agree.specs.Moments.{AtEachMoment, AtEachStep}
use Rattle.mu_pace.specs.Watches.{earns}
use Rattle.mu_pace.proofs.Counting.{steps_before}
use Rattle.mu_pace.proofs.Growing.{known_grows}
use Rattle.mu_alive.specs.Bringing.{most_paid}
use Rattle.mu_alive.specs.Lagging.{gain_steps}
use Rattle.mu_alive.specs.Stopping.{ReadsInOrder}
use Rattle.mu_alive.proofs.Bringing.{paid_at_most}
use Rattle.mu_alive.proofs.Enough.{IsFine, Leads}
use Rattle.mu_alive.proofs.Gaining.{gain}
use Rattle.mu_alive.proofs.GainingUpTo.{fetches_up_to, gain_up_to, learns_up_to, up_to_grows}
use Rattle.mu_alive.proofs.Reaching.{IsAdvancing, advancing_on}
use Rattle.mu_alive.proofs.Rising.{Decided, gains_one, near_steps}
use Rattle.mu_alive.proofs.Since.{BroughtSince, brought_since, paid_on}
use Rattle.mu_alive.proofs.Started.{one_leads}
use Rattle.mu_alive.proofs.Steady.{Steady}
use Rattle.mu_alive.proofs.Ticking.{IsBelow, IsReached, below_more, reached}
use Rattle.mu_alive.proofs.Waiting.{stays_both}
use Rattle.mu_alive.proofs.Stopped.{Waits, fine_of, go_on, leads_of, steady_of, waits_before}
use Rattle.mu_pace.proofs.Pasts.{cut}

-- one leadership, which has read a minimum, goes on since the base; the clock was never above `now`; counts of regions of
-- those that go on were opened since then, and so was the count of its advance
pub record Stands (c : Config) (live : ℕ → Bool) (a now : ℕ) (n base past : List Event) : Type 0 where
  pub is : part a past ≡ n ++ base
  pub read : has_min a (n ++ base) ≡ true
  pub one : stays a n ≡ true
  pub lacks : knows_all c a (part a past) ≡ false
  pub below : IsBelow c a now n base
  pub brought : (p : ℕ) → p < c.replicas → live p ≡ true → BroughtSince c a p n base
  pub advancing : IsAdvancing c a n base

-- a later moment
pub record Later (c : Config) (live : ℕ → Bool) (a start : ℕ) (n base newer older upper lower : List Event) : Type 0 where
  pub whole : newer ++ older ≡ upper ++ (lower ++ older)
  pub waits : Waits c live a start (upper ++ (lower ++ older))
  pub there : Waits c live a start (lower ++ older)
  pub parts : part a (lower ++ older) ≡ (part a lower ++ n) ++ base
  pub same : stays a (part a lower) ≡ true
  pub total : length (part a newer ++ n) ≡ length (part a upper ++ (part a lower ++ n))
  pub few : paid (earns c a) (part a lower ++ n) base ≤ most_paid c
  pub knows : length (known c a (part a older)) ≤ length (known c a (part a (lower ++ older)))
  pub late : length (part a older) ≤ length (part a (lower ++ older))
  pub stands : (now : ℕ) → IsBelow c a now (part a lower ++ n) base → knows_all c a (part a (lower ++ older)) ≡ false → Stands c live a now (part a lower ++ n) base (lower ++ older)

pub later : (c : Config) (live : ℕ → Bool) (a start at : ℕ) (n base newer older upper lower : List Event) → Waits c live a start (newer ++ older) → Stands c live a at n base older → newer ≡ upper ++ lower → Later c live a start n base newer older upper lower
later c live a start at n base newer older upper lower w s cuts = record {
  whole = whole;
  waits = waits;
  there = there;
  parts = parts;
  same = goes.0;
  total = ap length (ap (λ l. l ++ n) (ap (part a) cuts ∙ filter-append (λ e. e.by == a) upper lower) ∙ append_assoc (part a upper) (part a lower) n);
  few = paid_at_most c a (part a lower ++ n) base w.good (subst (IsPossible c a) parts (part_is_possible c a (lower ++ older) there.last.legal)) one;
  knows = (let more = known_grows c a (part a lower) (part a older) in let e = ap (λ l. length (known c a l)) split in omega (arith, more, e));
  late = (let sum = ap length split ∙ length-append (part a lower) (part a older) in omega (arith, sum));
  stands = λ now below lacks. record {
    is = parts;
    read = subst (λ l. has_min a l ≡ true) (sym assoc) goes.1;
    one = one;
    lacks = lacks;
    below = below;
    brought = λ p low lives. brought_since c a p (part a lower) n base (subst (AtEachStep (Steady c a)) parts (steady_of c live a start (lower ++ older) there)) (s.brought p low lives);
    advancing = advancing_on c a (part a lower) n base leads (subst (AtEachMoment (IsFine c a)) parts (fine_of c live a start (lower ++ older) there lacks)) s.read s.advancing;
  };
}
  where
    whole : newer ++ older ≡ upper ++ (lower ++ older)
    whole = ap (λ l. l ++ older) cuts ∙ append_assoc upper lower older

    waits : Waits c live a start (upper ++ (lower ++ older))
    waits = subst (Waits c live a start) whole w

    there : Waits c live a start (lower ++ older)
    there = waits_before c live a start upper (lower ++ older) waits

    split : part a (lower ++ older) ≡ part a lower ++ part a older
    split = filter-append (λ e. e.by == a) lower older

    parts : part a (lower ++ older) ≡ (part a lower ++ n) ++ base
    parts = split ∙ ap (λ l. part a lower ++ l) s.is ∙ sym (append_assoc (part a lower) n base)

    assoc : (part a lower ++ n) ++ base ≡ part a lower ++ (n ++ base)
    assoc = append_assoc (part a lower) n base

    leads : AtEachStep (Leads c a) ((part a lower ++ n) ++ base)
    leads = subst (AtEachStep (Leads c a)) parts (leads_of c live a start (lower ++ older) there)

    goes : (stays a (part a lower) ≡ true) × (has_min a (part a lower ++ (n ++ base)) ≡ true)
    goes = one_leads c a (part a lower) (n ++ base) (subst (AtEachStep (Leads c a)) assoc leads) s.read

    one : stays a (part a lower ++ n) ≡ true
    one = stays_both a (part a lower) n goes.0 s.one

-- the moment at which the clock has gone on by d
pub record Ticked (c : Config) (live : ℕ → Bool) (a start at d : ℕ) (n base newer older : List Event) : Type 0 where
  pub upper : List Event
  pub lower : List Event
  pub then : Later c live a start n base newer older upper lower
  pub enough : at + d + 4 * paid (earns c a) (part a lower ++ n) base ≤ length (part a lower ++ n)
  pub below : IsBelow c a (at + d) (part a lower ++ n) base
  pub long : d ≤ length (part a lower)

pub ticked : (c : Config) (live : ℕ → Bool) (a start at d : ℕ) (n base newer older : List Event) → Waits c live a start (newer ++ older) → Stands c live a at n base older → at + d + 4 * most_paid c ≤ length (part a newer ++ n) → Ticked c live a start at d n base newer older
ticked c live a start at d n base newer older w s room = record {
  upper = there.upper;
  lower = there.lower;
  then = later c live a start at n base newer older there.upper there.lower w s there.is;
  enough = there.enough;
  below = there.below;
  long = (let low = s.below [] n refl in let more = paid_on c a (part a there.lower) n base in let sum = length-append (part a there.lower) n in let enough = there.enough in omega (arith, low, more, sum, enough));
}
  where
    all : Later c live a start n base newer older [] newer
    all = later c live a start at n base newer older [] newer w s refl

    there : IsReached c a (at + d) n base newer
    there = reached c a (at + d) n base newer (below_more c a at (at + d) n base (omega arith) s.below) (let few = all.few in omega (arith, few, room))

-- who goes on and has applied less than k gains of it in two rounds
pub lags_gains : (c : Config) (live : ℕ → Bool) (a start k q : ℕ) (newer older : List Event) → Waits c live a start (newer ++ older) → Decided c live a k older → k ≤ length (known c a (part a older)) → q < c.replicas → live q ≡ true → length (applied c q (part q older)) < k → gain_steps c ≤ length (part a newer)
    → gain_up_to c k q (part q older) + 1 ≤ gain_up_to c k q (part q (newer ++ older))
lags_gains c live a start k q newer older w d knew low lives lags long = elim (cases_lt (length (applied c q (part q older))) (length (known c q (part q older)))) [
  | inl more ↦ fetches more
  | inr all ↦ elim (cases_eq q a) [
    | inl same ↦ absurd (let own = ap (λ i. length (known c i (part i older))) same in omega (arith, own, all, lags, knew))
    | inr other ↦ subst (λ l. gain_up_to c k q (part q older) + 1 ≤ gain_up_to c k q l) (sym split)
        (learns_up_to c k q (part q newer) (part q older) all lags (subst (λ l. gain c q (part q older) + 1 ≤ gain c q l) split (gains_one c live a q k newer older (go_on c live a start (newer ++ older) w) low lives other (d.read q low lives other) lags long)))
  ]
]
  where
    split : part q (newer ++ older) ≡ part q newer ++ part q older
    split = filter-append (λ e. e.by == q) newer older

    fetches : length (applied c q (part q older)) < length (known c q (part q older)) → gain_up_to c k q (part q older) + 1 ≤ gain_up_to c k q (part q (newer ++ older))
    fetches more =
        let two = cut (2 * cycle c) (part q newer) (near_steps c live a q (2 * cycle c) newer older (go_on c live a start (newer ++ older) w) low lives (omega (arith, long))) in
        let mine : part q (newer ++ older) ≡ two.newer ++ (two.rest ++ part q older) = split ∙ ap (λ x. x ++ part q older) two.is ∙ append_assoc two.newer two.rest (part q older) in
        let some = w.free.fetches q low lives two.rest (part q older) (record { newer = two.newer; is = mine }) two.count more in
        let one = fetches_up_to c k q two.rest (part q older) (steps_before (ReadsInOrder c q) two.newer (two.rest ++ part q older) (subst (AtEachStep (ReadsInOrder c q)) mine (w.free.ordered q low lives))) lags some in
        let stays = up_to_grows c k k q two.newer (two.rest ++ part q older) (omega arith) in
        let same = ap (gain_up_to c k q) mine in
        omega (arith, one, stays, same)
