-- After the last disturbance the least that goes on knows every command in time.
use Rattle.std.proofs.Common.{◌≡◌, ℕ, ◌+◌, ◌*◌, ◌<◌, ◌≤◌, ◌==◌, Bool, true, false, cond, Some, List, [], ◌∷◌, ◌++◌, length, refl, sym, ◌∙◌, ap, arith, subst, append_assoc, append-nil}
use Rattle.std.proofs.Math.Nat.{mul-le-mul_left}
use Rattle.std.proofs.lemmas.Bool.{eq-eqb}
use Rattle.std.proofs.lemmas.List.{length-append}
use Rattle.mu_model.specs.declared.config.Config.{Config}
use Rattle.mu_model.specs.declared.event.Event.{Event}
use Rattle.mu_model.specs.Bounds.{cycle}
use Rattle.mu_model.specs.Contents.{IsConfig, holds_all, row_count}
use Rattle.mu_model.specs.Histories.{has, part, IsPrefixOf}
use Rattle.mu_model.specs.Knowledge.{applied, front, has_entry, known}
use Rattle.mu_model.specs.Regions.{fence_owner}
use Rattle.mu_model.specs.Room.{reserve}
use Rattle.mu_model.specs.Steps.{is_asking, knows_all}
use Rattle.mu_model.proofs.Parts.{filter-append, part_is_possible}
use Rattle.mu_agree.proofs.Knowing.{known_stays}
use Rattle.mu_agree.specs.Moments.{AtEachStep}
use Rattle.mu_pace.specs.Watches.{limit}
use Rattle.mu_alive.specs.Clearing.{Clears, clearing_steps}
use Rattle.mu_alive.specs.Enough.{HasLargeRing, asking_steps}
use Rattle.mu_alive.specs.Failing.{failing_steps}
use Rattle.mu_alive.specs.Missing.{Knew, ResumedLeadersKnowMissing, waiting_for}
use Rattle.mu_alive.specs.Resuming.{FollowsListing, LeadsAfter, ResumedLeadersApplyAll, ResumedLeadersKnowAll, resuming_steps}
use Rattle.mu_alive.specs.Settling.{HaveTaken, KeepGoing}
use Rattle.mu_alive.proofs.Anew.{Lacking, lacking_before}
use Rattle.mu_alive.proofs.Beginning.{CutAt, begins_now, cut_at}
use Rattle.mu_alive.proofs.Clearing.{clears_on, keeps_regions, least_granted}
use Rattle.mu_alive.proofs.Cutting.{Located, located, met, Met}
use Rattle.mu_alive.proofs.Enduring.{Begins, upto}
use Rattle.mu_alive.proofs.Enough.{holds_more, asks_verb, lacks_older}
use Rattle.mu_alive.proofs.Fetching.{fetched, front_begins}
use Rattle.mu_alive.proofs.Missing.{above_it, knew_later, known_up}
use Rattle.mu_alive.proofs.Settling.{goes_on_before}
use Rattle.mu_alive.proofs.LastAsks.{Asked, ask_next, asked_each, lacking_of, leads_after_before, leads_wider, no_more, settled_at}

-- the steps in which each other one that keeps up takes k
abbrev steps_of_each : ℕ → ℕ → ℕ → ℕ
steps_of_each ratio lag k = ratio * k + lag

-- the steps after which a was granted all regions that go on
abbrev granting_steps : Config → ℕ → ℕ → ℕ → ℕ → ℕ
granting_steps c already missing ratio lag = steps_of_each ratio lag (failing_steps c) + steps_of_each ratio lag (clearing_steps c) + waiting_for c already missing + asking_steps c + steps_of_each ratio lag (2 * cycle c)

-- the events since the last disturbance, cut at a's steps: the scores settle (n), the hosts serve old asks (l), a asks (e), asks all (w) and is granted all (v)
record Granted (c : Config) (already : ℕ) (live : ℕ → Bool) (ratio lag a : ℕ) (newer older : List Event) : Type 0 where
  up : List Event
  later : List Event
  first : List Event
  is : newer ≡ up ++ (later ++ first)
  settled : settled_at c a older ≤ length (part a (first ++ older))
  clear : (p : ℕ) → p < c.replicas → live p ≡ true → Clears c live a p later first older
  owns : (p : ℕ) → p < c.replicas → live p ≡ true → fence_owner p (later ++ (first ++ older)) ≡ Some a
  gain : ℕ
  knew : already + gain ≤ length (known c a (part a ((later ++ first) ++ older)))
  fits : already + gain ≤ row_count c + reserve c
  left : length (part a newer) ≤ length (part a up) + granting_steps c already gain ratio lag

cut_sum : (a k : ℕ) (events : List Event) (at : CutAt a k events) → length (part a events) ≡ length (part a at.newer) + k
cut_sum a k events at = let n = at.count in let sum = ap (λ l. length (part a l)) at.is ∙ ap length (filter-append (λ e. e.by == a) at.newer at.rest) ∙ length-append (part a at.newer) (part a at.rest) in omega (arith, n, sum)

-- a stretch in which a takes these steps has k of each that goes on
all_take : (c : Config) (live : ℕ → Bool) (ratio lag a k : ℕ) (newer older top window below : List Event) → LeadsAfter true c live ratio lag a newer older → newer ≡ top ++ (window ++ below) → length (part a window) ≡ steps_of_each ratio lag k → HaveTaken c live k window
all_take c live ratio lag a k newer older top window below after is long r low lives = after.keeps_up r k top window below low lives is (omega (arith, long))

-- the same events, cut another way
six : (up v w y l n : List Event) (e : Event) → ((((up ++ v) ++ w) ++ (e ∷ y)) ++ l) ++ n ≡ up ++ ((v ++ ((w ++ e ∷ []) ++ (y ++ l))) ++ n)
six up v w y l n e =
    ap (λ m. m ++ n)
    (append_assoc ((up ++ v) ++ w) (e ∷ y) l ∙ append_assoc (up ++ v) w (e ∷ (y ++ l)) ∙ ap (λ m. (up ++ v) ++ m) (sym (append_assoc w (e ∷ []) (y ++ l)))
    ∙ append_assoc up v ((w ++ e ∷ []) ++ (y ++ l)))
    ∙ append_assoc up (v ++ ((w ++ e ∷ []) ++ (y ++ l))) n

seven : (v x y z n : List Event) (f : Event) → (v ++ ((x ++ f ∷ y) ++ z)) ++ n ≡ (v ++ x) ++ (f ∷ ((y ++ z) ++ n))
seven v x y z n f = append_assoc v ((x ++ f ∷ y) ++ z) n ∙ ap (λ m. v ++ m) (ap (λ m. m ++ n) (append_assoc x (f ∷ y) z) ∙ append_assoc x (f ∷ (y ++ z)) n) ∙ sym (append_assoc v x (f ∷ ((y ++ z) ++ n)))

-- a host that goes on grants its region to a, two rounds after a asked for it
granted_there : (c : Config) (live : ℕ → Bool) (a p : ℕ) (v w y l n older : List Event) → KeepGoing c live a ((v ++ (w ++ (y ++ l))) ++ n) older → Clears c live a p l n older → p < c.replicas → live p ≡ true → 2 * cycle c ≤ length (part p v) → has (is_asking p) (part a w) ≡ true
    → fence_owner p ((v ++ (w ++ (y ++ l))) ++ (n ++ older)) ≡ Some a
granted_there c live a p v w y l n older on clear low lives long some = there (met (is_asking p) (part a w) some)
  where
    there : Met (is_asking p) (part a w) → fence_owner p ((v ++ (w ++ (y ++ l))) ++ (n ++ older)) ≡ Some a
    there m = at (located a w m.newer m.older m.event m.is)
      where
        at : Located a w m.event m.older → fence_owner p ((v ++ (w ++ (y ++ l))) ++ (n ++ older)) ≡ Some a
        at f =
            ap (fence_owner p) (same (n ++ older))
            ∙ least_granted c live a p (v ++ f.newer) (f.older ++ (y ++ l)) n older m.event on_there clear_there f.own (asks_verb p m.event.verb m.passes) (let sum = ap length (filter-append (λ e. e.by == p) v f.newer) ∙ length-append (part p v) (part p f.newer) in omega (arith, sum, long))
          where
            same : (rest : List Event) → (v ++ (w ++ (y ++ l))) ++ rest ≡ (v ++ f.newer) ++ (m.event ∷ ((f.older ++ (y ++ l)) ++ rest))
            same rest = ap (λ m. (v ++ (m ++ (y ++ l))) ++ rest) f.is ∙ seven v f.newer f.older (y ++ l) rest m.event

            on_there : KeepGoing c live a ((v ++ f.newer) ++ (m.event ∷ ((f.older ++ (y ++ l)) ++ n))) older
            on_there = subst (λ x. KeepGoing c live a x older) (same n) on

            below : KeepGoing c live a ((f.older ++ (y ++ l)) ++ n) older
            below = goes_on_before c live a ((v ++ f.newer) ++ (m.event ∷ [])) ((f.older ++ (y ++ l)) ++ n) older (subst (λ x. KeepGoing c live a x older) (sym (append_assoc (v ++ f.newer) (m.event ∷ []) ((f.older ++ (y ++ l)) ++ n))) on_there)

            clear_there : Clears c live a p (f.older ++ (y ++ l)) n older
            clear_there =
                subst (λ x. Clears c live a p x n older) (append_assoc f.older y l)
                (clears_on c live a p (f.older ++ y) l n older (subst (λ x. KeepGoing c live a x older) (ap (λ x. x ++ n) (sym (append_assoc f.older y l)) ∙ append_assoc (f.older ++ y) l n) below) clear)

-- the events up to the last cut, and the steps in them
low_cut : (a : ℕ) (newer : List Event) {f g : ℕ} (n : CutAt a f newer) (l : CutAt a g n.newer) → newer ≡ l.newer ++ (l.rest ++ n.rest)
low_cut a newer n l = n.is ∙ ap (λ m. m ++ n.rest) l.is ∙ append_assoc l.newer l.rest n.rest

settled_cut : (c : Config) (a : ℕ) (rest older : List Event) → failing_steps c ≤ length (part a rest) → settled_at c a older ≤ length (part a (rest ++ older))
settled_cut c a rest older many = let sum = ap length (filter-append (λ e. e.by == a) rest older) ∙ length-append (part a rest) (part a older) in omega (arith, many, sum)

late_cut : (c : Config) (a : ℕ) (between rest older : List Event) → failing_steps c ≤ length (part a rest) → settled_at c a older ≤ length (part a ((between ++ rest) ++ older))
late_cut c a between rest older many = let s = settled_cut c a rest older many in let sum = ap (λ m. length (part a m)) (append_assoc between rest older) ∙ ap length (filter-append (λ e. e.by == a) between (rest ++ older)) ∙ length-append (part a between) (part a (rest ++ older)) in omega (arith, s, sum)

-- the steps of each in the events in which the scores settle
settling_take : (c : Config) (live : ℕ → Bool) (ratio lag a : ℕ) (newer older : List Event) → LeadsAfter true c live ratio lag a newer older → (n : CutAt a (steps_of_each ratio lag (failing_steps c)) newer) → HaveTaken c live (failing_steps c) n.rest
settling_take c live ratio lag a newer older k n = all_take c live ratio lag a (failing_steps c) newer older n.newer n.rest [] k (n.is ∙ ap (λ m. n.newer ++ m) (sym (append-nil n.rest))) n.count

granted_by : (c : Config) (already : ℕ) (live : ℕ → Bool) (ratio lag a : ℕ) (newer older : List Event) → IsConfig c → HasLargeRing c → LeadsAfter true c live ratio lag a newer older → knows_all c a (part a (newer ++ older)) ≡ false
    → (n : CutAt a (steps_of_each ratio lag (failing_steps c)) newer) → (l : CutAt a (steps_of_each ratio lag (clearing_steps c)) n.newer) → (asked : Asked c already a l.newer ((l.rest ++ n.rest) ++ older)) → (w : CutAt a (asking_steps c) asked.above) → (v : CutAt a (steps_of_each ratio lag (2 * cycle c)) w.newer) → Granted c already live ratio lag a newer older
granted_by c already live ratio lag a newer older good large k lacks n l asked w v = record {
  up = v.newer;
  later = later;
  first = n.rest;
  is = whole;
  settled = settled;
  clear = clear;
  owns = owns;
  gain = asked.gain;
  knew = knows;
  fits = asked.fits;
  left = (let s1 = cut_sum a (steps_of_each ratio lag (failing_steps c)) newer n in let s2 = cut_sum a (steps_of_each ratio lag (clearing_steps c)) n.newer l in let s3 = asked.left in let s4 = cut_sum a (asking_steps c) asked.above w in let s5 = cut_sum a (steps_of_each ratio lag (2 * cycle c)) w.newer v in omega (arith, s1, s2, s3, s4, s5));
}
  where
    low : newer ≡ l.newer ++ (l.rest ++ n.rest)
    low = low_cut a newer n l

    taken : HaveTaken c live (failing_steps c) n.rest
    taken = settling_take c live ratio lag a newer older k n

    settled : settled_at c a older ≤ length (part a (n.rest ++ older))
    settled = settled_cut c a n.rest older (taken a k.on.inside k.on.lives)

    late : settled_at c a older ≤ length (part a ((l.rest ++ n.rest) ++ older))
    late = late_cut c a l.rest n.rest older (taken a k.on.inside k.on.lives)

    later : List Event
    later = v.rest ++ ((w.rest ++ asked.event ∷ []) ++ (asked.below ++ l.rest))

    whole : newer ≡ v.newer ++ (later ++ n.rest)
    whole =
        n.is ∙ ap (λ m. m ++ n.rest) (l.is ∙ ap (λ m. m ++ l.rest) (asked.is ∙ ap (λ m. m ++ asked.event ∷ asked.below) (w.is ∙ ap (λ m. m ++ w.rest) v.is)))
        ∙ six v.newer v.rest w.rest asked.below l.rest n.rest asked.event

    knows : already + asked.gain ≤ length (known c a (part a ((later ++ n.rest) ++ older)))
    knows =
        let top = v.rest ++ (w.rest ++ asked.event ∷ []) in
        let same : (later ++ n.rest) ++ older ≡ top ++ (asked.below ++ ((l.rest ++ n.rest) ++ older)) =
        append_assoc later n.rest older
        ∙ append_assoc v.rest ((w.rest ++ asked.event ∷ []) ++ (asked.below ++ l.rest)) (n.rest ++ older)
        ∙ ap (λ m. v.rest ++ m) (append_assoc (w.rest ++ asked.event ∷ []) (asked.below ++ l.rest) (n.rest ++ older))
        ∙ sym (append_assoc v.rest (w.rest ++ asked.event ∷ []) ((asked.below ++ l.rest) ++ (n.rest ++ older)))
        ∙ ap (λ m. top ++ m) (append_assoc asked.below l.rest (n.rest ++ older) ∙ ap (λ m. asked.below ++ m) (sym (append_assoc l.rest n.rest older))) in
        let more = known_up c a top (asked.below ++ ((l.rest ++ n.rest) ++ older)) in
        let is = ap (λ m. length (known c a (part a m))) same in
        let g = asked.gained in
        omega (arith, more, is, g)

    on : KeepGoing c live a (later ++ n.rest) older
    on = goes_on_before c live a v.newer (later ++ n.rest) older (subst (λ m. KeepGoing c live a m older) whole k.on)

    clear_low : (p : ℕ) → p < c.replicas → live p ≡ true → Clears c live a p l.rest n.rest older
    clear_low p inside lives = record {
      on = goes_on_before c live a l.newer (l.rest ++ n.rest) older (subst (λ m. KeepGoing c live a m older) low k.on);
      taken = taken;
      inside = inside;
      lives = lives;
      cleared = all_take c live ratio lag a (clearing_steps c) newer older l.newer l.rest n.rest k low l.count p inside lives;
    }

    clear : (p : ℕ) → p < c.replicas → live p ≡ true → Clears c live a p later n.rest older
    clear p inside lives =
        let same : (v.rest ++ ((w.rest ++ asked.event ∷ []) ++ asked.below)) ++ l.rest ≡ later = append_assoc v.rest ((w.rest ++ asked.event ∷ []) ++ asked.below) l.rest ∙ ap (λ m. v.rest ++ m) (append_assoc (w.rest ++ asked.event ∷ []) asked.below l.rest) in
        subst (λ m. Clears c live a p m n.rest older) same
        (clears_on c live a p (v.rest ++ ((w.rest ++ asked.event ∷ []) ++ asked.below)) l.rest n.rest older
        (subst (λ m. KeepGoing c live a m older) (ap (λ m. m ++ n.rest) (sym same) ∙ append_assoc (v.rest ++ ((w.rest ++ asked.event ∷ []) ++ asked.below)) l.rest n.rest) on) (clear_low p inside lives))

    -- the events up to the asks of all regions
    base : List Event
    base = asked.below ++ (l.rest ++ (n.rest ++ older))

    split : newer ++ older ≡ w.newer ++ (w.rest ++ asked.event ∷ base)
    split =
        ap (λ m. m ++ older) (low ∙ ap (λ m. m ++ (l.rest ++ n.rest)) (asked.is ∙ ap (λ m. m ++ asked.event ∷ asked.below) w.is))
        ∙ append_assoc ((w.newer ++ w.rest) ++ asked.event ∷ asked.below) (l.rest ++ n.rest) older
        ∙ ap (λ m. ((w.newer ++ w.rest) ++ asked.event ∷ asked.below) ++ m) (append_assoc l.rest n.rest older)
        ∙ append_assoc (w.newer ++ w.rest) (asked.event ∷ asked.below) (l.rest ++ (n.rest ++ older))
        ∙ append_assoc w.newer w.rest (asked.event ∷ base)

    mine : part a (asked.event ∷ base) ≡ asked.event ∷ part a base
    mine = ap (λ t. cond t (asked.event ∷ part a base) (part a base)) (eq-eqb asked.event.by a asked.own)

    lacking : Lacking c a (settled_at c a older) (part a w.rest ++ asked.event ∷ part a base)
    lacking =
        lacking_before c a (settled_at c a older) (part a w.newer) (part a w.rest ++ asked.event ∷ part a base)
        (subst (Lacking c a (settled_at c a older)) (ap (part a) split ∙ filter-append (λ e. e.by == a) w.newer (w.rest ++ asked.event ∷ base) ∙ ap (λ m. part a w.newer ++ m) (filter-append (λ e. e.by == a) w.rest (asked.event ∷ base) ∙ ap (λ m. part a w.rest ++ m) mine)) (lacking_of c live ratio lag a newer older k lacks))

    low_base : settled_at c a older ≤ length (part a base)
    low_base = let s = late in let sum = ap length (filter-append (λ e. e.by == a) asked.below (l.rest ++ (n.rest ++ older))) ∙ length-append (part a asked.below) (part a (l.rest ++ (n.rest ++ older))) in let same = ap (λ m. length (part a m)) (append_assoc l.rest n.rest older) in omega (arith, s, sum, same)

    each : (p : ℕ) → p < c.replicas → has (is_asking p) (part a (w.rest ++ asked.event ∷ [])) ≡ true
    each p inside =
        ap (has (is_asking p)) (filter-append (λ e. e.by == a) w.rest (asked.event ∷ []) ∙ ap (λ t. part a w.rest ++ cond t (asked.event ∷ []) []) (eq-eqb asked.event.by a asked.own))
        ∙ asked_each c a (settled_at c a older) p (part a w.rest) (part a base) asked.event lacking (let s = low_base in omega (arith, s)) w.count inside (begins_now a asked.event asked.own asked.asks) asked.asks

    owns : (p : ℕ) → p < c.replicas → live p ≡ true → fence_owner p (later ++ (n.rest ++ older)) ≡ Some a
    owns p inside lives =
        granted_there c live a p v.rest (w.rest ++ asked.event ∷ []) asked.below l.rest n.rest older on (clear_low p inside lives) inside lives
        (all_take c live ratio lag a (2 * cycle c) newer older v.newer v.rest (((w.rest ++ asked.event ∷ []) ++ (asked.below ++ l.rest)) ++ n.rest) k (whole ∙ ap (λ m. v.newer ++ m) (append_assoc v.rest ((w.rest ++ asked.event ∷ []) ++ (asked.below ++ l.rest)) n.rest)) v.count p inside lives)
        (each p inside)

grants_all : (c : Config) (already missing : ℕ) (live : ℕ → Bool) (ratio lag a : ℕ) (newer older : List Event) → IsConfig c → HasLargeRing c → Knew c already missing a older → LeadsAfter true c live ratio lag a newer older → knows_all c a (part a (newer ++ older)) ≡ false
    → granting_steps c already missing ratio lag ≤ length (part a newer)
    → Granted c already live ratio lag a newer older
grants_all c already missing live ratio lag a newer older good large knew k lacks long = granted_by c already live ratio lag a newer older good large k lacks n l asked w
    (cut_at a (steps_of_each ratio lag (2 * cycle c)) w.newer (let s1 = cut_sum a (steps_of_each ratio lag (failing_steps c)) newer n in let s2 = cut_sum a (steps_of_each ratio lag (clearing_steps c)) n.newer l in let s3 = asked.left in let s4 = cut_sum a (asking_steps c) asked.above w in let s5 = shorter_wait in omega (arith, s1, s2, s3, s4, s5, long)))
  where
    n : CutAt a (steps_of_each ratio lag (failing_steps c)) newer
    n = cut_at a (steps_of_each ratio lag (failing_steps c)) newer (omega (arith, long))

    l : CutAt a (steps_of_each ratio lag (clearing_steps c)) n.newer
    l = cut_at a (steps_of_each ratio lag (clearing_steps c)) n.newer (let s1 = cut_sum a (steps_of_each ratio lag (failing_steps c)) newer n in omega (arith, s1, long))

    asked : Asked c already a l.newer ((l.rest ++ n.rest) ++ older)
    asked =
        ask_next c already missing live ratio lag a l.newer (l.rest ++ n.rest) older good large (subst (λ m. LeadsAfter true c live ratio lag a m older) (low_cut a newer n l) k) (sym (ap (λ m. knows_all c a (part a (m ++ older))) (low_cut a newer n l)) ∙ lacks) (late_cut c a l.rest n.rest older (settling_take c live ratio lag a newer older k n a k.on.inside k.on.lives)) (knew_later c already missing a (l.rest ++ n.rest) older knew) knew.lacks
        (let s1 = cut_sum a (steps_of_each ratio lag (failing_steps c)) newer n in let s2 = cut_sum a (steps_of_each ratio lag (clearing_steps c)) n.newer l in omega (arith, s1, s2, long))

    shorter_wait : waiting_for c already asked.gain ≤ waiting_for c already missing
    shorter_wait =
        let f = asked.fits in
        let l = knew.lacks in
        let m : limit c c.replicas * (asked.gain + 1) ≤ limit c c.replicas * (missing + 1) = mul-le-mul_left (limit c c.replicas) (omega (arith, f, l)) in
        omega (arith, m)

    w : CutAt a (asking_steps c) asked.above
    w = cut_at a (asking_steps c) asked.above (let s1 = cut_sum a (steps_of_each ratio lag (failing_steps c)) newer n in let s2 = cut_sum a (steps_of_each ratio lag (clearing_steps c)) n.newer l in let s3 = asked.left in let s5 = shorter_wait in omega (arith, s1, s2, s3, s5, long))

-- so in the end a leadership begins that is never over, and after which it can't ask: by then it knows all
pub resumed_missing : ResumedLeadersKnowMissing
resumed_missing again c already missing live ratio lag a newer older good large leads knew many = go (knows_all c a (part a (newer ++ older))) refl
  where
    k : LeadsAfter true c live ratio lag a newer older
    k = leads_wider again c live ratio lag a newer older leads

    go : (t : Bool) → knows_all c a (part a (newer ++ older)) ≡ t → t ≡ true
    go true is = refl
    go false lacks = absurd (late (grants_all c already missing live ratio lag a newer older good large knew k lacks (omega (arith, many))))
      where
        late : Granted c already live ratio lag a newer older → ⊥
        late g = second (ask_next c (already + g.gain) rest.0 live ratio lag a g.up (g.later ++ g.first) older good large k2 lacks2 settled2 g.knew (let is = rest.1 in let l = knew.lacks in omega (arith, is, l)) (let left = g.left in let p = rest_times in omega (arith, left, many, p)))
          where
            -- what is missing after the first wait
            rest : (d : ℕ) × (missing ≡ g.gain + d)
            rest = above_it g.gain missing (let f = g.fits in let l = knew.lacks in omega (arith, f, l))

            rest_times : limit c c.replicas * missing ≡ limit c c.replicas * g.gain + limit c c.replicas * rest.0
            rest_times = ap (λ m. limit c c.replicas * m) rest.1 ∙ omega arith

            k2 : LeadsAfter true c live ratio lag a (g.up ++ (g.later ++ g.first)) older
            k2 = subst (λ m. LeadsAfter true c live ratio lag a m older) g.is k

            lacks2 : knows_all c a (part a ((g.up ++ (g.later ++ g.first)) ++ older)) ≡ false
            lacks2 = sym (ap (λ m. knows_all c a (part a (m ++ older))) g.is) ∙ lacks

            settled2 : settled_at c a older ≤ length (part a ((g.later ++ g.first) ++ older))
            settled2 = let s = g.settled in let sum = ap (λ m. length (part a m)) (append_assoc g.later g.first older) ∙ ap length (filter-append (λ e. e.by == a) g.later (g.first ++ older)) ∙ length-append (part a g.later) (part a (g.first ++ older)) in omega (arith, s, sum)

            second : Asked c (already + g.gain) a g.up ((g.later ++ g.first) ++ older) → ⊥
            second x = third (ask_next c (already + g.gain + x.gain) last.0 live ratio lag a x.above low older good large k3 lacks3 settled3 knew3 (let is = rest.1 in let more = last.1 in let l = knew.lacks in omega (arith, is, more, l)) (let left = g.left in let less = x.left in let p = rest_times in let q = last_times in omega (arith, left, less, many, p, q)))
              where
                -- and after the second
                last : (d : ℕ) × (rest.0 ≡ x.gain + d)
                last = above_it x.gain rest.0 (let f = x.fits in let is = rest.1 in let l = knew.lacks in omega (arith, f, is, l))

                last_times : limit c c.replicas * rest.0 ≡ limit c c.replicas * x.gain + limit c c.replicas * last.0
                last_times = ap (λ m. limit c c.replicas * m) last.1 ∙ omega arith

                low : List Event
                low = x.event ∷ (x.below ++ (g.later ++ g.first))

                knew3 : already + g.gain + x.gain ≤ length (known c a (part a (low ++ older)))
                knew3 =
                    let g3 = x.gained in
                    let more = known_up c a (x.event ∷ []) (x.below ++ ((g.later ++ g.first) ++ older)) in
                    let same = ap (λ m. length (known c a (part a (x.event ∷ m)))) (append_assoc x.below (g.later ++ g.first) older) in
                    omega (arith, g3, more, same)

                cut_here : g.up ++ (g.later ++ g.first) ≡ x.above ++ low
                cut_here = ap (λ m. m ++ (g.later ++ g.first)) x.is ∙ append_assoc x.above (x.event ∷ x.below) (g.later ++ g.first)

                k3 : LeadsAfter true c live ratio lag a (x.above ++ low) older
                k3 = subst (λ m. LeadsAfter true c live ratio lag a m older) cut_here k2

                lacks3 : knows_all c a (part a ((x.above ++ low) ++ older)) ≡ false
                lacks3 = sym (ap (λ m. knows_all c a (part a (m ++ older))) cut_here) ∙ lacks2

                settled3 : settled_at c a older ≤ length (part a (low ++ older))
                settled3 =
                    let s = settled2 in
                    let same : low ++ older ≡ (x.event ∷ x.below) ++ ((g.later ++ g.first) ++ older) = append_assoc (x.event ∷ x.below) (g.later ++ g.first) older in
                    let sum = ap (λ m. length (part a m)) same ∙ ap length (filter-append (λ e. e.by == a) (x.event ∷ x.below) ((g.later ++ g.first) ++ older)) ∙ length-append (part a (x.event ∷ x.below)) (part a ((g.later ++ g.first) ++ older)) in
                    omega (arith, s, sum)

                third : Asked c (already + g.gain + x.gain) a x.above (low ++ older) → ⊥
                third y = no_more c live a (settled_at c a older) y.below x.event (x.below ++ g.later) g.first older y.event begins y.own y.asks y.none lacking settled4
                  where
                    rest : List Event
                    rest = x.event ∷ ((x.below ++ g.later) ++ g.first)

                    low_same : low ≡ rest
                    low_same = ap (λ m. x.event ∷ m) (sym (append_assoc x.below g.later g.first))

                    cut_there : x.above ++ low ≡ y.above ++ (y.event ∷ (y.below ++ rest))
                    cut_there = ap (λ m. x.above ++ m) low_same ∙ ap (λ m. m ++ rest) y.is ∙ append_assoc y.above (y.event ∷ y.below) rest

                    k4 : LeadsAfter true c live ratio lag a (y.event ∷ (y.below ++ rest)) older
                    k4 = leads_after_before c live ratio lag a y.above (y.event ∷ (y.below ++ rest)) older (subst (λ m. LeadsAfter true c live ratio lag a m older) cut_there k3)

                    k5 : LeadsAfter true c live ratio lag a (y.below ++ rest) older
                    k5 = leads_after_before c live ratio lag a (y.event ∷ []) (y.below ++ rest) older k4

                    lacks4 : knows_all c a (part a ((y.event ∷ (y.below ++ rest)) ++ older)) ≡ false
                    lacks4 = lacks_older c a y.above ((y.event ∷ (y.below ++ rest)) ++ older) (sym (ap (λ m. knows_all c a (part a m)) (ap (λ m. m ++ older) cut_there ∙ append_assoc y.above (y.event ∷ (y.below ++ rest)) older)) ∙ lacks3)

                    whole : (y.below ++ rest) ++ older ≡ upto y.below x.event (x.below ++ g.later) g.first older
                    whole = append_assoc y.below rest older ∙ ap (λ m. y.below ++ (x.event ∷ m)) (append_assoc (x.below ++ g.later) g.first older)

                    lacking : Lacking c a (settled_at c a older) (part a (y.event ∷ upto y.below x.event (x.below ++ g.later) g.first older))
                    lacking = subst (λ m. Lacking c a (settled_at c a older) (part a (y.event ∷ m))) whole (lacking_of c live ratio lag a (y.event ∷ (y.below ++ rest)) older k4 lacks4)

                    settled4 : settled_at c a older ≤ length (part a ((x.below ++ g.later) ++ (g.first ++ older)))
                    settled4 =
                        let s = g.settled in
                        let sum = ap length (filter-append (λ e. e.by == a) (x.below ++ g.later) (g.first ++ older)) ∙ length-append (part a (x.below ++ g.later)) (part a (g.first ++ older)) in
                        omega (arith, s, sum)

                    on_low : KeepGoing c live a (x.below ++ (g.later ++ g.first)) older
                    on_low = goes_on_before c live a (x.above ++ (x.event ∷ [])) (x.below ++ (g.later ++ g.first)) older (subst (λ m. KeepGoing c live a m older) (sym (append_assoc x.above (x.event ∷ []) (x.below ++ (g.later ++ g.first)))) k3.on)

                    begins : Begins c live a y.below x.event (x.below ++ g.later) g.first older
                    begins = record {
                      on = k5.on;
                      clear = λ p inside lives. clears_on c live a p x.below g.later g.first older on_low (g.clear p inside lives);
                      owns = λ p inside lives. ap (fence_owner p) (append_assoc x.below g.later (g.first ++ older)) ∙ (keeps_regions c live a p x.below g.later g.first older on_low (g.clear p inside lives) (g.owns p inside lives)).0;
                      own = x.own;
                      asks = x.asks;
                      listed = subst (λ m. AtEachStep (FollowsListing c a) (part a m)) whole k5.listed;
                    }

-- also if it knew nothing
pub resumed_knows : ResumedLeadersKnowAll
resumed_knows again c live ratio lag a newer older good large leads many =
    resumed_missing again c 0 (row_count c + reserve c) live ratio lag a newer older good large leads (record { knew = omega arith; lacks = omega arith })
    (omega (arith, many))

-- and fetches what it lacks
pub resumed_applies : ResumedLeadersApplyAll
resumed_applies again c live ratio lag a newer older good large leads fetches many =
    subst (λ l. holds_all c (applied c a l) ≡ true) (sym split)
    (subst (λ l. holds_all c l ≡ true) (sym begins.1) (holds_more c (known c a (part a (at.rest ++ older))) begins.0 knows))
  where
    k : LeadsAfter true c live ratio lag a newer older
    k = leads_wider again c live ratio lag a newer older leads

    at : CutAt a (resuming_steps c ratio lag) newer
    at = cut_at a (resuming_steps c ratio lag) newer (omega (arith, many))

    split : part a (newer ++ older) ≡ part a at.newer ++ part a (at.rest ++ older)
    split = ap (λ l. part a (l ++ older)) at.is ∙ ap (part a) (append_assoc at.newer at.rest older) ∙ filter-append (λ e. e.by == a) at.newer (at.rest ++ older)

    knows : knows_all c a (part a (at.rest ++ older)) ≡ true
    knows = resumed_knows true c live ratio lag a at.rest older good large (leads_after_before c live ratio lag a at.newer at.rest older (subst (λ l. LeadsAfter true c live ratio lag a l older) at.is k)) (let count = at.count in omega (arith, count))

    long : length (known c a (part a (at.rest ++ older))) ≤ length (applied c a (part a at.newer ++ part a (at.rest ++ older)))
    long =
        fetched c a (part a (newer ++ older)) [] (part a at.newer) (part a (at.rest ++ older)) good (part_is_possible c a (newer ++ older) k.on.legal) fetches split
        (let sum = cut_sum a (resuming_steps c ratio lag) newer at in omega (arith, sum, many))

    begins : IsPrefixOf (known c a (part a (at.rest ++ older))) (applied c a (part a at.newer ++ part a (at.rest ++ older)))
    begins =
        let more = known_stays c a (part a at.newer) (part a (at.rest ++ older)) in
        subst (λ l. IsPrefixOf (known c a (part a (at.rest ++ older))) (front (λ v. has_entry c a v (part a at.newer ++ part a (at.rest ++ older))) l)) (sym more.1)
        (front_begins (λ v. has_entry c a v (part a at.newer ++ part a (at.rest ++ older))) (known c a (part a (at.rest ++ older))) more.0 (subst (λ l. length (known c a (part a (at.rest ++ older))) ≤ length (front (λ v. has_entry c a v (part a at.newer ++ part a (at.rest ++ older))) l)) more.1 long))
