-- The progress bound of a replica that leads alone is open from its first minimum on, and what is paid
-- between two commits is paid once.
use Rattle.std.proofs.Common.{◌≡◌, ℕ, ◌+◌, ◌-◌, ◌*◌, ◌<◌, ◌≤◌, ◌==◌, ◌&&◌, ◌||◌, suc, not, inl, inr, Bool, true, false, cond, Some, None, List, [], ◌∷◌, ◌++◌, length, refl, sym, ◌∙◌, ap, arith, subst, true≢false, append_assoc, is_some}
use Rattle.std.specs.Prelude.{if◌then◌else◌}
use Rattle.std.proofs.lemmas.Bool.{cases_lt, eq-eqb, lt-leb}
use Rattle.std.proofs.lemmas.List.{length-append}
use Rattle.mu_model.specs.declared.config.Config.{Config}
use Rattle.mu_model.specs.declared.event.Answer.{Answer}
use Rattle.mu_model.specs.declared.event.Event.{Event}
use Rattle.mu_model.specs.declared.event.Verb.{Verb}
use Rattle.mu_model.specs.Allowed.{Needs}
use Rattle.mu_model.specs.Answers.{answer_of}
use Rattle.mu_model.specs.Bounds.{stays}
use Rattle.mu_model.specs.Contents.{IsConfig, marked}
use Rattle.mu_model.specs.Diligence.{is_milestone}
use Rattle.mu_model.specs.Ends.{outrun}
use Rattle.mu_model.specs.Histories.{has, part}
use Rattle.mu_model.specs.Knowledge.{known}
use Rattle.mu_model.specs.Leaderships.{begins_leadership, leadership}
use Rattle.mu_model.specs.Legal.{IsLegalHistory}
use Rattle.mu_model.specs.Parts.{IsPossible}
use Rattle.mu_model.specs.Regions.{head_raised, region_head}
use Rattle.mu_model.specs.Room.{head_read, lacks_room, reserve}
use Rattle.mu_model.specs.Steps.{commits_more, has_min, is_lagging, is_min, is_named, is_over_after, knows_all}
use Rattle.mu_model.specs.Stretches.{each_step, is_replication, replications}
use Rattle.mu_model.proofs.Parts.{filter-append, part_is_possible}
use Rattle.mu_agree.proofs.Legal.{legal_older}
use Rattle.mu_agree.proofs.Possible.{parts_shorten_law}
use Rattle.mu_agree.proofs.Prefixes.{greatest_along}
use Rattle.mu_pace.specs.Blocking.{is_progress_by}
use Rattle.mu_pace.specs.Counters.{IsInTime, paid}
use Rattle.mu_agree.specs.Moments.{AtEachMoment, AtEachStep}
use Rattle.mu_pace.specs.Watches.{earns, limit, limit_now, progressing, progressing_by}
use Rattle.mu_pace.proofs.Counting.{allowed_here, last_moment, moments_before, shorter, steps_before}
use Rattle.mu_pace.proofs.Growing.{known_grows}
use Rattle.mu_pace.proofs.Leading.{commit_known}
use Rattle.mu_alive.specs.Bringing.{most_paid}
use Rattle.mu_alive.proofs.Bringing.{paid_at_most}
use Rattle.mu_alive.proofs.Calm.{limit_fits}
use Rattle.mu_alive.proofs.Cutting.{Located, located}
use Rattle.mu_alive.proofs.Enough.{FirstMin, IsFine, Leads, fine_moments, first_is_milestone, progress_moments, roomy}
use Rattle.mu_alive.proofs.Moments.{at_least_halves}
use Rattle.mu_alive.proofs.Started.{one_leads}
use Rattle.mu_alive.proofs.Steady.{away_by}
use Rattle.mu_alive.proofs.Waiting.{Closed, closed_or, each_both, steps_both, paid_both, stays_both}
use Rattle.mu_pace.proofs.Pasts.{min_on, min_now}
use Rattle.mu_alive.specs.Last.{LeadsLast}
use Rattle.mu_alive.proofs.Lasting.{last_leads}
use Rattle.mu_alive.proofs.TurnFences.{lead_on_moments}

-- in one leadership since `base` the progress bound was opened last after x or more was paid
pub record Open (c : Config) (a x : ℕ) (base now : List Event) : Type 0 where
  pub window : List Event
  pub mid : List Event
  pub amount : ℕ
  pub is : now ≡ window ++ (mid ++ base)
  pub read : has_min a now ≡ true
  pub same : stays a (window ++ mid) ≡ true
  pub allows : (progressing c a).allows (mid ++ base) ≡ Some amount
  pub few : amount ≤ limit c c.replicas
  pub unclosed : each_step (λ past e. not ((progressing c a).closes past e)) window (mid ++ base) ≡ true
  pub spent : x ≤ paid (earns c a) mid base

-- a milestone opens it anew
reopens : (c : Config) (a x : ℕ) (e : Event) (window base : List Event) → is_milestone c a (window ++ base) e ≡ true → has_min a (e ∷ (window ++ base)) ≡ true → begins_leadership a e ≡ false → stays a window ≡ true → x ≤ paid (earns c a) window base → Open c a x base (e ∷ (window ++ base))
reopens c a x e window base milestone read same stayed spent = record {
  window = [];
  mid = e ∷ window;
  amount = limit_now c a (e ∷ (window ++ base));
  is = refl;
  read = read;
  same = ap (λ t. not (if t then true else has (begins_leadership a) window)) same ∙ stayed;
  allows = allowed_here (is_milestone c a) (limit_now c a) (window ++ base) e milestone;
  few = limit_fits c a (e ∷ (window ++ base));
  unclosed = refl;
  spent = (omega (arith, spent));
}

-- the first minimum does
pub open_first : (c : Config) (a : ℕ) (mine : List Event) (m : FirstMin a mine) → Open c a 0 (m.first ∷ m.older) (m.first ∷ m.older)
open_first c a mine m = record {
  window = [];
  mid = [];
  amount = limit_now c a (m.first ∷ m.older);
  is = refl;
  read = min_now a m.first m.older m.min m.begun;
  same = refl;
  allows = allowed_here (is_milestone c a) (limit_now c a) m.older m.first (first_is_milestone c a m.first m.older m.min m.begun (last_moment (λ now. has_min a now ≡ false) m.older m.none));
  few = limit_fits c a (m.first ∷ m.older);
  unclosed = refl;
  spent = omega arith;
}

-- what closes a count of progress is a commit or a head that passes its test
pub closing_by : (stops : List Event → Event → Bool) (c : Config) (a : ℕ) (past : List Event) (e : Event) → begins_leadership a e ≡ false → is_named c a past ≡ true → is_over_after a past e ≡ false → knows_all c a past ≡ false → outrun c a (e ∷ past) ≡ None → (progressing_by stops c a).closes past e ≡ true
    → (is_replication past e ≡ true) × ((commits_more c a past e || stops past e) ≡ true)
closing_by stops c a past e same named on lacks going closes =
    let away = away_by (begins_leadership a e) (is_replication past e) (is_named c a past) (is_progress_by stops c a past e) same named closes in
    (away.0, two (commits_more c a past e) (is_over_after a past e) (stops past e) (knows_all c a past) (is_some (outrun c a (e ∷ past))) on lacks (ap is_some going) away.1)
  where
    two : (m o l k x : Bool) → o ≡ false → k ≡ false → x ≡ false → (m || (o || (l || (k || x)))) ≡ true → (m || l) ≡ true
    two true o l k x ho hk hx is = refl
    two false false true k x ho hk hx is = refl
    two false false false false false ho hk hx is = is
    two false true l k x ho hk hx is = absurd (true≢false ho)
    two false false false true x ho hk hx is = absurd (true≢false hk)
    two false false false false true ho hk hx is = absurd (true≢false hx)

-- either is a milestone
pub closing_opens : (c : Config) (a : ℕ) (past : List Event) (e : Event) → (is_replication past e ≡ true) × ((commits_more c a past e || is_lagging c a past e) ≡ true) → is_milestone c a past e ≡ true
closing_opens c a past e is = either (is_min e && not (has is_min (leadership a past))) (commits_more c a past e) (is_replication past e) (is_lagging c a past e) is.0 is.1
  where
    either : (f m t l : Bool) → t ≡ true → (m || l) ≡ true → (f || (m || (t && l))) ≡ true
    either true m t l ht is = refl
    either false true t l ht is = refl
    either false false true true ht is = refl
    either false false false l ht is = absurd (true≢false (sym ht))
    either false false true false ht is = is

open_step : (c : Config) (a x : ℕ) (base : List Event) (e : Event) (past : List Event) → Leads c a past e → AtEachMoment (IsFine c a) (e ∷ past) → Open c a x base past → Open c a x base (e ∷ past)
open_step c a x base e past leads fine o = go ((progressing c a).closes past e) refl
  where
    same : begins_leadership a e ≡ false
    same = leads.same o.read

    flat : past ≡ (o.window ++ o.mid) ++ base
    flat = o.is ∙ sym (append_assoc o.window o.mid base)

    go : (t : Bool) → (progressing c a).closes past e ≡ t → Open c a x base (e ∷ past)
    go true closes =
        let here = last_moment (IsFine c a) past fine.0 in
        let milestone = closing_opens c a past e (closing_by (is_lagging c a) c a past e same (leads.named o.read) fine.1.on here.lacks fine.1.going closes) in
        let more = paid_both (earns c a) o.window o.mid base in
        let spent = o.spent in
        subst (λ l. Open c a x base (e ∷ l)) (sym flat) (reopens c a x e (o.window ++ o.mid) base (subst (λ l. is_milestone c a l e ≡ true) flat milestone) (subst (λ l. has_min a (e ∷ l) ≡ true) flat (min_on a e past same o.read)) same o.same (omega (arith, more, spent)))
    go false stays_open = record {
      window = e ∷ o.window;
      mid = o.mid;
      amount = o.amount;
      is = ap (λ l. e ∷ l) o.is;
      read = min_on a e past same o.read;
      same = ap (λ t. not (if t then true else has (begins_leadership a) (o.window ++ o.mid))) same ∙ o.same;
      allows = o.allows;
      few = o.few;
      unclosed = ap (λ t. if not t then each_step (λ past e. not ((progressing c a).closes past e)) o.window (o.mid ++ base) else false) (ap (λ l. (progressing c a).closes l e) (sym o.is) ∙ stays_open) ∙ o.unclosed;
      spent = o.spent;
    }

pub open_on : (c : Config) (a x : ℕ) (base newer older : List Event) → AtEachStep (Leads c a) (newer ++ older) → AtEachMoment (IsFine c a) (newer ++ older) → Open c a x base older → Open c a x base (newer ++ older)
open_on c a x base [] older leads fine o = o
open_on c a x base (e ∷ newer) older leads fine o = open_step c a x base e (newer ++ older) leads.1 fine (open_on c a x base newer older leads.0 fine.0 o)

-- while the ring has places above the heads of all, besides those for marks, none lags
room_left : (c : Config) (a q l k by : ℕ) (verb : Verb) (answer : Answer) (past : List Event) → k + reserve c < l + c.ring → Needs c by (part by past) verb → answer ≡ answer_of c by past verb → ((r : ℕ) → r < c.replicas → l ≤ region_head r past) → lacks_room c (k + reserve c) (head_read a q by verb answer) ≡ false
room_left c a q l k by (Verb.Head p) answer past room needs is heads = subst (λ x. lacks_room c (k + reserve c) (head_read a q by (Verb.Head p) x) ≡ false) (sym is) (go ((by == a) && (p == q)) refl)
  where
    go : (t : Bool) → ((by == a) && (p == q)) ≡ t → lacks_room c (k + reserve c) (cond t (Some (region_head p past)) None) ≡ false
    go true read = lt-leb (region_head p past + c.ring) (k + reserve c) (let high = heads p needs.0 in omega (arith, high, room))
    go false other = refl
room_left c a q l k by verb answer past room needs is heads = refl

none_lags : (c : Config) (a l k : ℕ) (past : List Event) (e : Event) → k + reserve c < l + c.ring → IsLegalHistory c (e ∷ past) → length (known c a (part a past)) ≡ k → ((r : ℕ) → r < c.replicas → l ≤ region_head r past) → is_lagging c a (part a past) e ≡ false
none_lags c a l k past e room legal long heads =
    roomy c.replicas (λ q. not (marked c q (known c a (part a past))) && lacks_room c (length (known c a (part a past)) + reserve c) (head_read a q e.by e.verb e.answer))
    (λ q. off (not (marked c q (known c a (part a past)))) (lacks_room c (length (known c a (part a past)) + reserve c) (head_read a q e.by e.verb e.answer)) (ap (λ n. lacks_room c (n + reserve c) (head_read a q e.by e.verb e.answer)) long ∙ room_left c a q l k e.by e.verb e.answer past room legal.1.allowed.may legal.1.answer heads))
  where
    off : (t u : Bool) → u ≡ false → (t && u) ≡ false
    off true u h = h
    off false u h = refl

-- the next commit, with what was paid until then, and what may still be paid
pub record Committed (c : Config) (a k left : ℕ) (base newer older : List Event) : Type 0 where
  pub upper : List Event
  pub lower : List Event
  pub is : newer ≡ upper ++ lower
  pub more : k + 1 ≤ length (known c a (part a (lower ++ older)))
  pub spent : ℕ
  pub open_yet : Open c a spent base (part a (lower ++ older))
  pub rest : ℕ
  pub all : most_paid c ≤ spent + rest
  pub long : length (part a newer) + 2 * rest ≤ length (part a upper) + 2 * limit c c.replicas + 2 * left

-- if all heads have come to k, and k entries are known, another is within the bound and what is paid
pub commits_next : (c : Config) (live : ℕ → Bool) (a k x left : ℕ) (base newer older : List Event) → IsConfig c → reserve c < c.ring → LeadsLast c live a 0 (newer ++ older) → knows_all c a (part a (newer ++ older)) ≡ false → Open c a x base (part a older) → ((r : ℕ) → r < c.replicas → k ≤ region_head r older) → k ≤ length (known c a (part a older))
    → most_paid c ≤ x + left → 2 * limit c c.replicas + 2 * left ≤ length (part a newer) → Committed c a k left base newer older
commits_next c live a k x left base newer older good fits last lacks o heads knew all long = elim (closed_or (progressing c a) (part a newer) (part a older)) [
  | inl f ↦ closed f (located a newer f.newer f.older f.event f.is)
  | inr open_yet ↦ absurd (never open_yet)
]
  where
    possible_rest : (xs ys : List Event) → IsPossible c a (xs ++ ys) → IsPossible c a ys
    possible_rest [] ys is = is
    possible_rest (e ∷ xs) ys is = possible_rest xs ys (parts_shorten_law c a (xs ++ ys) e is).before

    mine : part a (newer ++ older) ≡ part a newer ++ part a older
    mine = filter-append (λ e. e.by == a) newer older

    leads : AtEachStep (Leads c a) (part a newer ++ part a older)
    leads = subst (AtEachStep (Leads c a)) mine (last_leads c a 0 (newer ++ older) last.turns last.named)

    fine : AtEachMoment (IsFine c a) (part a newer ++ part a older)
    fine = subst (AtEachMoment (IsFine c a)) mine (fine_moments c a (newer ++ older) last.legal (lead_on_moments c a (newer ++ older) last.legal last.turns (let most = good.replicas.1 in omega (arith, most))) last.going lacks)

    possible : IsPossible c a (part a newer ++ part a older)
    possible = subst (IsPossible c a) mine (part_is_possible c a (newer ++ older) last.legal)

    -- what a stretch that doesn't close it counts and is paid, and all that is paid since the beginning
    at : (w above : List Event) → part a newer ≡ above ++ w → part a newer ++ part a older ≡ above ++ ((w ++ (o.window ++ o.mid)) ++ base)
    at w above cuts =
        ap (λ l. l ++ part a older) cuts ∙ append_assoc above w (part a older) ∙ ap (λ l. above ++ (w ++ l)) (o.is ∙ sym (append_assoc o.window o.mid base)) ∙ ap (λ l. above ++ l) (sym (append_assoc w (o.window ++ o.mid) base))

    stayed : (w above : List Event) → part a newer ≡ above ++ w → stays a (w ++ (o.window ++ o.mid)) ≡ true
    stayed w above cuts = stays_both a w (o.window ++ o.mid) (one_leads c a w (part a older) (steps_before (Leads c a) above (w ++ part a older) (subst (AtEachStep (Leads c a)) (ap (λ l. l ++ part a older) cuts ∙ append_assoc above w (part a older)) leads)) o.read).0 o.same

    most : (w above : List Event) → part a newer ≡ above ++ w → paid (earns c a) (w ++ (o.window ++ o.mid)) base ≤ most_paid c
    most w above cuts = paid_at_most c a (w ++ (o.window ++ o.mid)) base good (possible_rest above ((w ++ (o.window ++ o.mid)) ++ base) (subst (IsPossible c a) (at w above cuts) possible)) (stayed w above cuts)

    short : (w above : List Event) → part a newer ≡ above ++ w → each_step (λ past e. not ((progressing c a).closes past e)) w (part a older) ≡ true → replications w (part a older) < limit c c.replicas + paid (earns c a) (w ++ o.window) (o.mid ++ base)
    short w above cuts unclosed =
        let held : AtEachMoment (IsInTime (progressing c a)) (w ++ part a older) = moments_before (IsInTime (progressing c a)) above (w ++ part a older) (subst (AtEachMoment (IsInTime (progressing c a))) (mine ∙ ap (λ l. l ++ part a older) cuts ∙ append_assoc above w (part a older)) (progress_moments false c a (part a (newer ++ older)) last.led)) in
        let both = each_both (λ past e. not ((progressing c a).closes past e)) w o.window (o.mid ++ base) (subst (λ l. each_step (λ past e. not ((progressing c a).closes past e)) w l ≡ true) o.is unclosed) o.unclosed in
        let whole : w ++ part a older ≡ (w ++ o.window) ++ (o.mid ++ base) = ap (λ l. w ++ l) o.is ∙ sym (append_assoc w o.window (o.mid ++ base)) in
        let less = shorter (progressing c a) o.amount (w ++ part a older) (w ++ o.window) (o.mid ++ base) held (record { newer = []; is = whole }) o.allows both in
        let more = steps_both is_replication w o.window (o.mid ++ base) in
        let same = ap (replications w) o.is in
        let few = o.few in
        omega (arith, less, more, same, few)

    sum : (w : List Event) → x + paid (earns c a) (w ++ o.window) (o.mid ++ base) ≤ paid (earns c a) (w ++ (o.window ++ o.mid)) base
    sum w =
        let flat = ap (λ l. paid (earns c a) l base) (append_assoc w o.window o.mid) in
        let both = paid_both (earns c a) (w ++ o.window) o.mid base in
        let spent = o.spent in
        omega (arith, flat, both, spent)

    never : each_step (λ past e. not ((progressing c a).closes past e)) (part a newer) (part a older) ≡ true → ⊥
    never open_yet =
        let less = short (part a newer) [] refl open_yet in
        let half = at_least_halves (part a newer) (part a older) in
        let total = sum (part a newer) in
        let few = most (part a newer) [] refl in
        omega (arith, less, half, total, few, all, long)

    closed : (f : Closed (progressing c a) (part a newer) (part a older)) → Located a newer f.event f.older → Committed c a k left base newer older
    closed f l = record { upper = l.newer; lower = f.event ∷ l.older; is = l.is; more = more; spent = spent; open_yet = opened; rest = most_paid c - spent; all = (omega arith); long = fewer }
      where
        past : List Event
        past = f.older ++ part a older

        cuts : part a newer ≡ (f.newer ++ f.event ∷ []) ++ f.older
        cuts = f.is ∙ sym (append_assoc f.newer (f.event ∷ []) f.older)

        split : part a newer ++ part a older ≡ f.newer ++ f.event ∷ past
        split = ap (λ z. z ++ part a older) f.is ∙ append_assoc f.newer (f.event ∷ f.older) (part a older)

        leads_here : AtEachStep (Leads c a) (f.event ∷ past)
        leads_here = steps_before (Leads c a) f.newer (f.event ∷ past) (subst (AtEachStep (Leads c a)) split leads)

        fine_here : AtEachMoment (IsFine c a) (f.event ∷ past)
        fine_here = moments_before (IsFine c a) f.newer (f.event ∷ past) (subst (AtEachMoment (IsFine c a)) split fine)

        on : (stays a f.older ≡ true) × (has_min a past ≡ true)
        on = one_leads c a f.older (part a older) leads_here.0 o.read

        same : begins_leadership a f.event ≡ false
        same = leads_here.1.same on.1

        closing : (is_replication past f.event ≡ true) × ((commits_more c a past f.event || is_lagging c a past f.event) ≡ true)
        closing = closing_by (is_lagging c a) c a past f.event same (leads_here.1.named on.1) fine_here.1.on (last_moment (IsFine c a) past fine_here.0).lacks fine_here.1.going f.closes

        mine_is : part a (l.older ++ older) ≡ past
        mine_is = filter-append (λ e. e.by == a) l.older older ∙ ap (λ z. z ++ part a older) l.before

        own : part a (f.event ∷ (l.older ++ older)) ≡ f.event ∷ past
        own = ap (λ t. cond t (f.event ∷ part a (l.older ++ older)) (part a (l.older ++ older))) (eq-eqb f.event.by a l.own) ∙ ap (λ z. f.event ∷ z) mine_is

        legal : IsLegalHistory c (f.event ∷ (l.older ++ older))
        legal = legal_older c l.newer (f.event ∷ (l.older ++ older)) (subst (IsLegalHistory c) (ap (λ z. z ++ older) l.is ∙ append_assoc l.newer (f.event ∷ l.older) older) last.legal)

        higher : (r : ℕ) → r < c.replicas → k ≤ region_head r (l.older ++ older)
        higher r low = let more = greatest_along (λ e. head_raised r e.by e.verb) l.older older in let high = heads r low in omega (arith, more, high)

        -- a head lags only if another entry is known already
        more_here : k + 1 ≤ length (known c a (f.event ∷ past))
        more_here = elim (cases_lt k (length (known c a past))) [
          | inl more ↦ (let grows = known_grows c a (f.event ∷ []) past in omega (arith, more, grows))
          | inr few ↦
              let grows = known_grows c a f.older (part a older) in
              let exact : length (known c a past) ≡ k = omega (arith, few, grows, knew) in
              let off = subst (λ z. is_lagging c a z f.event ≡ false) mine_is (none_lags c a k k (l.older ++ older) f.event (omega (arith, fits)) legal (ap (λ z. length (known c a z)) mine_is ∙ exact) higher) in
              commit exact (commits_more c a past f.event) refl (is_lagging c a past f.event) off closing.1
        ]
          where
            commit : length (known c a past) ≡ k → (m : Bool) → commits_more c a past f.event ≡ m → (t : Bool) → t ≡ false → (m || t) ≡ true → k + 1 ≤ length (known c a (f.event ∷ past))
            commit exact true commits t off is = let more = commit_known c a past f.event.by f.event.verb f.event.answer commits in omega (arith, more, exact)
            commit exact false none true off is = absurd (true≢false off)
            commit exact false none false off is = absurd (true≢false (sym is))

        more : k + 1 ≤ length (known c a (part a ((f.event ∷ l.older) ++ older)))
        more = subst (λ z. k + 1 ≤ length (known c a z)) (sym own) more_here

        spent : ℕ
        spent = x + paid (earns c a) (f.older ++ o.window) (o.mid ++ base)

        flat : past ≡ (f.older ++ (o.window ++ o.mid)) ++ base
        flat = ap (λ z. f.older ++ z) (o.is ∙ sym (append_assoc o.window o.mid base)) ∙ sym (append_assoc f.older (o.window ++ o.mid) base)

        opened : Open c a spent base (part a ((f.event ∷ l.older) ++ older))
        opened =
            subst (Open c a spent base) (sym (own ∙ ap (λ z. f.event ∷ z) flat))
            (reopens c a spent f.event (f.older ++ (o.window ++ o.mid)) base (subst (λ z. is_milestone c a z f.event ≡ true) flat (closing_opens c a past f.event closing)) (subst (λ z. has_min a (f.event ∷ z) ≡ true) flat (min_on a f.event past same on.1)) same
            (stayed f.older (f.newer ++ f.event ∷ []) cuts) (sum f.older))

        fewer : length (part a newer) + 2 * (most_paid c - spent) ≤ length (part a l.newer) + 2 * limit c c.replicas + 2 * left
        fewer =
            let less = short f.older (f.newer ++ f.event ∷ []) cuts f.unclosed in
            let half = at_least_halves f.older (part a older) in
            let total = sum f.older in
            let few = most f.older (f.newer ++ f.event ∷ []) cuts in
            let lengths = ap (λ z. length (part a z)) l.is ∙ ap length (filter-append (λ e. e.by == a) l.newer (f.event ∷ l.older)) ∙ length-append (part a l.newer) (part a (f.event ∷ l.older)) in
            let one = ap (λ t. length (cond t (f.event ∷ part a l.older) (part a l.older))) (eq-eqb f.event.by a l.own) in
            let rest = ap length l.before in
            counts (length (part a newer)) (length (part a l.newer)) (length (part a (f.event ∷ l.older))) (length (part a l.older)) (length f.older) (replications f.older (part a older)) (limit c c.replicas) x (paid (earns c a) (f.older ++ o.window) (o.mid ++ base)) (paid (earns c a) (f.older ++ (o.window ++ o.mid)) base) (most_paid c) left lengths one rest half less total few all
          where
            counts : (n u e b f r b' x pd p m left : ℕ) → n ≡ u + e → e ≡ suc b → b ≡ f → f ≤ 2 * r + 1 → r < b' + pd → x + pd ≤ p → p ≤ m → m ≤ x + left → n + 2 * (m - (x + pd)) ≤ u + 2 * b' + 2 * left
            counts n u e b f r b' x pd p m left h1 h2 h3 h4 h5 h6 h7 h8 = omega (arith, h1, h2, h3, h4, h5, h6, h7, h8)
