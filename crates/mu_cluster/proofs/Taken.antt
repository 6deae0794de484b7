-- In a replay without a pause: the moment at which a replica has taken a given number of steps, and how it and those that keep up made theirs.
use Rattle.std.proofs.Common.{◌≡◌, ◌∙◌, ◌≢◌, ◌⊎◌, ℕ, ◌+◌, ◌<◌, ◌≤◌, ◌==◌, inl, inr, Bool, true, false, cond, List, [], ◌∷◌, ◌++◌, ap, append_assoc, arith, length, refl, subst, sym}
use Rattle.std.specs.Prelude.{min, slice_index}
use Rattle.std.proofs.lemmas.Bool.{cases_eq, cases_lt, eq-eqb, ne_eqb, true≢false}
use Rattle.std.proofs.lemmas.List.{length-append}
use Rattle.mu_agree.proofs.Legal.{legal_older}
use Rattle.mu_agree.proofs.Possible.{parts_shorten_law}
use Rattle.mu_model.specs.declared.config.Config.{Config}
use Rattle.mu_model.specs.declared.event.Event.{Event}
use Rattle.mu_model.specs.Contents.{IsConfig}
use Rattle.mu_model.specs.Diligence.{IsDiligent, Replays, TellsHeads}
use Rattle.mu_model.specs.Ends.{is_finished}
use Rattle.mu_model.specs.Histories.{count_below, history, part}
use Rattle.mu_model.specs.Leaderships.{majority_of}
use Rattle.mu_model.specs.Legal.{IsLegalHistory}
use Rattle.mu_model.specs.Parts.{IsPossible}
use Rattle.mu_model.specs.Scores.{least_below}
use Rattle.mu_model.specs.Steps.{is_named}
use Rattle.mu_model.proofs.Parts.{filter-append, part_is_possible}
use Rattle.mu_node.specs.declared.zeal.Zeal.{Zeal}
use Rattle.mu_node.specs.Journal.{IsListed, WasMade}
use Rattle.mu_lively.proofs.Asked.{MadePlain, asks_all_first}
use Rattle.mu_lively.proofs.HeadRaises.{raises_to_all}
use Rattle.mu_pace.specs.Collecting.{LeaderKeeps}
use Rattle.mu_agree.specs.Moments.{AtEachMoment, AtEachStep}
use Rattle.mu_pace.proofs.Counting.{steps_before, both_moments}
use Rattle.mu_alive.specs.Finishing.{KeepUp}
use Rattle.mu_alive.specs.Following.{RaisesToAll}
use Rattle.mu_alive.proofs.Cutting.{Located, located, moments_of}
use Rattle.mu_cluster.specs.Rounds.{part_of}
use Rattle.mu_cluster.proofs.InStep.{StaysAhead, in_step}
use Rattle.mu_cluster.proofs.Living.{each_near, near_one, near_self}
use Rattle.mu_cluster.proofs.Naming.{AreUnpaused, few_steps, part_before, trusts_then}
use Rattle.mu_detect.proofs.Leaders.{alive_leads, may_lead}
use Rattle.mu_lively.proofs.Asked.{asks_until_min}
use Rattle.mu_lively.proofs.Numbered.{numbers_in_time}
use Rattle.mu_lively.proofs.Fetching.{rows_fetched}
use Rattle.mu_node.proofs.Reading.{reads_in_order}
use Rattle.mu_alive.specs.Finishing.{AsksAllFirst}
use Rattle.mu_alive.specs.Last.{FetchesInTime}
use Rattle.mu_alive.specs.Near.{IsNear}
use Rattle.mu_alive.specs.Opens.{OpensInTime}
use Rattle.mu_alive.specs.Stopping.{ReadsInOrder}
use Rattle.mu_node.proofs.Leading.{least_most}
use Rattle.mu_pace.proofs.Pasts.{cut, Cut}
use Rattle.mu_alive.proofs.LastRaising.{heads_before, replays_before}

-- the moment at which a has taken this many steps: none that goes on has taken more, and all are near a
pub record TakenAt (c : Config) (live : ℕ → Bool) (a : ℕ) (events : List Event) (most : ℕ) : Type 0 where
  pub front : List Event
  pub last : Event
  pub older : List Event
  pub is : history events ≡ front ++ last ∷ older
  pub own : last.by ≡ a
  pub taken : length (part a (last ∷ older)) ≡ most
  pub few : (r : ℕ) → r < c.replicas → live r ≡ true → length (part r (last ∷ older)) ≤ most
  pub near : AtEachMoment (IsNear c live a) (last ∷ older)

pub taken_at : (c : Config) (live : ℕ → Bool) (a : ℕ) (events : List Event) (lengths : List ℕ) (rounds most : ℕ) → AreUnpaused c events lengths rounds → a < c.replicas → live a ≡ true → 1 ≤ most → ((r : ℕ) → r < c.replicas → live r ≡ true → most ≤ slice_index lengths r) → TakenAt c live a events most
taken_at c live a events lengths rounds most run inside lives one_more late = at (bottom.rest) refl
  where
    bottom : Cut most (part_of a events)
    bottom = cut most (part_of a events) (let taken = run.taken a inside in let l = late a inside lives in omega (arith, taken, l))

    at : (rest : List Event) → bottom.rest ≡ rest → TakenAt c live a events most
    at [] is = absurd (let count = bottom.count in let none = ap length is in omega (arith, count, none, one_more))
    at (last ∷ mine) is = there (located a (history events) bottom.newer mine last (bottom.is ∙ ap (λ l. bottom.newer ++ l) is))
      where
        there : Located a (history events) last mine → TakenAt c live a events most
        there l = record { front = l.newer; last = last; older = l.older; is = l.is; own = l.own; taken = taken; few = few; near = near }
          where
            past : List Event
            past = last ∷ l.older

            own_part : part a past ≡ last ∷ mine
            own_part = ap (λ t. cond t (last ∷ part a l.older) (part a l.older)) (eq-eqb last.by a l.own) ∙ ap (λ x. last ∷ x) l.before

            taken : length (part a past) ≡ most
            taken = let same = ap length own_part in let count = bottom.count in let e = ap length is in omega (arith, same, count, e)

            few : (r : ℕ) → r < c.replicas → live r ≡ true → length (part r past) ≤ most
            few r low lives = elim (cases_eq r a) [
              | inl same ↦ (let e = ap (λ x. length (part x past)) same in let n = taken in omega (arith, e, n))
              | inr other ↦
                  let steps = few_steps c events lengths rounds r a l.newer l.older last run l.is l.own low other in
                  let mine_is = ap length l.before in
                  let n = taken in
                  let own = ap length own_part in
                  let same : length (part r past) ≡ length (part r l.older) = ap (λ t. length (cond t (last ∷ part r l.older) (part r l.older))) (ne_eqb last.by r (λ e. other (sym (sym l.own ∙ e)))) in
                  omega (arith, steps, mine_is, n, own, same)
            ]

            behind : (q r : ℕ) → q ≢ r → q < c.replicas → live q ≡ true → r < c.replicas → live r ≡ true → AtEachMoment (λ now. length (part r now) ≤ length (part q now) + 1) past
            behind q r other low lives inside here =
                let count = run.count in
                let step = in_step lengths rounds q r events other (omega (arith, low, count)) run.order in
                let enough = late q low lives in
                let limit = few r inside here in
                near_one step.lead q (slice_index lengths q) r past (steps_before (StaysAhead step.lead q (slice_index lengths q) r) l.newer past (subst (AtEachStep (StaysAhead step.lead q (slice_index lengths q) r)) l.is step.each)) (omega (arith, limit, enough))

            one : (r : ℕ) → r < c.replicas → live r ≡ true → (r ≡ a) ⊎ (r ≢ a) → AtEachMoment (λ now. (length (part r now) ≤ length (part a now) + 1) × (length (part a now) ≤ length (part r now) + 1)) past
            one r low goes (inl same) = subst (λ i. AtEachMoment (λ now. (length (part i now) ≤ length (part a now) + 1) × (length (part a now) ≤ length (part i now) + 1)) past) (sym same) (near_self a past)
            one r low goes (inr other) =
                both_moments (λ now. length (part r now) ≤ length (part a now) + 1) (λ now. length (part a now) ≤ length (part r now) + 1) (λ now. (length (part r now) ≤ length (part a now) + 1) × (length (part a now) ≤ length (part r now) + 1)) (λ now x y. (x, y)) past
                (behind a r (λ same. other (sym same)) inside lives low goes) (behind r a other low goes inside lives)

            near : AtEachMoment (IsNear c live a) past
            near = each_near c.replicas live (λ r now. (length (part r now) ≤ length (part a now) + 1) × (length (part a now) ≤ length (part r now) + 1)) past (λ r low goes. one r low goes (cases_eq r a))

-- those that weren't stopped: a majority, and s is the least of them; each spent its budget or finished
pub record GoOn (c : Config) (live : ℕ → Bool) (s : ℕ) (events : List Event) : Type 0 where
  pub inside : s < c.replicas
  pub lives : live s ≡ true
  pub lower : (r : ℕ) → r < s → live r ≡ false
  pub majority : majority_of c.replicas ≤ count_below c.replicas live
  pub diligent : (r : ℕ) → r < c.replicas → IsDiligent c r (part_of r events)
  pub led : AtEachStep (LeaderKeeps c s) (part_of s events)
  pub ended : (r : ℕ) → r < c.replicas → live r ≡ true → (length (part_of r events) ≡ c.budget) ⊎ (is_finished c r (part_of r events) ≡ true)

-- two facts of each event hold together
both_steps : (P Q : List Event → Event → Type 0) (past : List Event) → AtEachStep P past → AtEachStep Q past → AtEachStep (λ before e. P before e × Q before e) past
both_steps P Q [] one other = tt
both_steps P Q (e ∷ past) one other = (both_steps P Q past one.0 other.0, (one.1, other.1))

-- each part up to there was made turn by turn
made_at : (c : Config) (live : ℕ → Bool) (a : ℕ) (events : List Event) (lengths : List ℕ) (rounds most r : ℕ) → AreUnpaused c events lengths rounds → (t : TakenAt c live a events most) → r < c.replicas → AtEachStep (WasMade c r) (part r (t.last ∷ t.older))
made_at c live a events lengths rounds most r run t low = part_before (WasMade c r) r t.front (t.last ∷ t.older) (subst (λ x. AtEachStep (WasMade c r) (part r x)) t.is (run.made r low))

plain_at : (c : Config) (live : ℕ → Bool) (a : ℕ) (events : List Event) (lengths : List ℕ) (rounds most r : ℕ) → AreUnpaused c events lengths rounds → (t : TakenAt c live a events most) → r < c.replicas → AtEachStep (MadePlain c r) (part r (t.last ∷ t.older))
plain_at c live a events lengths rounds most r run t low =
    both_steps (WasMade c r) (IsListed Zeal.Plain c r) (part r (t.last ∷ t.older)) (made_at c live a events lengths rounds most r run t low)
    (part_before (IsListed Zeal.Plain c r) r t.front (t.last ∷ t.older) (subst (λ x. AtEachStep (IsListed Zeal.Plain c r) (part r x)) t.is (run.listed r low)))

possible_at : (c : Config) (live : ℕ → Bool) (a : ℕ) (events : List Event) (lengths : List ℕ) (rounds most r : ℕ) → AreUnpaused c events lengths rounds → (t : TakenAt c live a events most) → IsPossible c r (part r (t.last ∷ t.older))
possible_at c live a events lengths rounds most r run t = part_is_possible c r (t.last ∷ t.older) (legal_older c t.front (t.last ∷ t.older) (subst (IsLegalHistory c) t.is run.legal))

raises_steps : (c : Config) (r : ℕ) (mine : List Event) → AtEachStep (WasMade c r) mine → AtEachStep (RaisesToAll c r) mine
raises_steps c r [] made = tt
raises_steps c r (e ∷ mine) made = (raises_steps c r mine made.0, λ h is. raises_to_all c r h mine e made.1 is)

-- all keep up with s
pub keep_at : (c : Config) (live : ℕ → Bool) (s : ℕ) (events : List Event) (lengths : List ℕ) (rounds most : ℕ) → AreUnpaused c events lengths rounds → GoOn c live s events → (t : TakenAt c live s events most) → ((r : ℕ) → r < c.replicas → live r ≡ true → most ≤ slice_index lengths r) → KeepUp c live s (t.last ∷ t.older)
keep_at c live s events lengths rounds most run on t late = record {
  replays = λ r low _. replays_before c r (part r t.front) (part r past) (subst (Replays c r) (split r) (on.diligent r low).replayer_pace);
  heads = λ r low _. heads_before c r (part r t.front) (part r past) (subst (TellsHeads c r) (split r) (on.diligent r low).head_pace);
  raises = λ r low _. raises_steps c r (part r past) (made_at c live s events lengths rounds most r run t low);
  unnamed = λ r low lives other. moments_of r (λ now. is_named c r now ≡ false) past (off r low lives other);
  asked = asked;
}
  where
    past : List Event
    past = t.last ∷ t.older

    split : (r : ℕ) → part_of r events ≡ part r t.front ++ part r past
    split r = ap (part r) t.is ∙ filter-append (λ e. e.by == r) t.front past

    off : (r : ℕ) → r < c.replicas → live r ≡ true → r ≢ s → (newer older : List Event) → past ≡ newer ++ older → is_named c r (part r older) ≡ false
    off r low lives other newer older cuts =
        let whole : history events ≡ (t.front ++ newer) ++ older = t.is ∙ ap (λ x. t.front ++ x) cuts ∙ sym (append_assoc t.front newer older) in
        let sum = ap length (ap (part r) cuts ∙ filter-append (λ e. e.by == r) newer older) ∙ length-append (part r newer) (part r older) in
        let limit = t.few r low lives in
        let enough = late s on.inside on.lives in
        let all = run.taken s on.inside in
        let alive = trusts_then c events lengths rounds s r (t.front ++ newer) older run whole on.inside low (λ same. other (sym same)) (omega (arith, sum, limit, enough, all)) in
        let least = least_most c.replicas s (may_lead r (part r older)) on.inside (alive_leads r s (part r older) alive) in
        ne_eqb (least_below c.replicas (may_lead r (part r older))) r (λ same. above (cases_lt s r) (omega (arith, least, same)))
      where
        above : (s < r) ⊎ (r ≤ s) → r ≤ s → ⊥
        above (inl more) low = omega (arith, more, low)
        above (inr less) low = true≢false (sym lives ∙ on.lower r (omega (arith, less, other)))

    asked : AsksAllFirst c s (part s past)
    asked newer older e p cuts min none low = asks_all_first c s older e on.inside (steps_before (WasMade c s) newer (e ∷ older) (subst (AtEachStep (WasMade c s)) cuts (made_at c live s events lengths rounds most s run t on.inside))) none min p low

-- a opens its leadership in time
pub opens_at : (c : Config) (live : ℕ → Bool) (a : ℕ) (events : List Event) (lengths : List ℕ) (rounds most : ℕ) → AreUnpaused c events lengths rounds → a < c.replicas → (t : TakenAt c live a events most) → OpensInTime c a (part a (t.last ∷ t.older))
opens_at c live a events lengths rounds most run inside t = record {
  asks = λ p window older low s many named none. asks_until_min c a p window older inside low (made s.newer (window ++ older) s.is) none many named;
  numbers = λ e window older s min none on named long. numbers_in_time c a e window older inside (possible_here s.newer (window ++ e ∷ older) (subst (IsPossible c a) s.is (possible_at c live a events lengths rounds most a run t))) (made s.newer (window ++ e ∷ older) s.is) min none on named long;
}
  where
    mine : List Event
    mine = part a (t.last ∷ t.older)

    made : (newer rest : List Event) → mine ≡ newer ++ rest → AtEachStep (MadePlain c a) rest
    made newer rest is = steps_before (MadePlain c a) newer rest (subst (AtEachStep (MadePlain c a)) is (plain_at c live a events lengths rounds most a run t inside))

    possible_here : (xs ys : List Event) → IsPossible c a (xs ++ ys) → IsPossible c a ys
    possible_here [] ys is = is
    possible_here (x ∷ xs) ys is = possible_here xs ys (parts_shorten_law c a (xs ++ ys) x is).before

-- and each fetches rows in time, and reads them in order
pub fetches_at : (c : Config) (live : ℕ → Bool) (a : ℕ) (events : List Event) (lengths : List ℕ) (rounds most r : ℕ) → IsConfig c → AreUnpaused c events lengths rounds → r < c.replicas → (t : TakenAt c live a events most) → FetchesInTime c r (part r (t.last ∷ t.older))
fetches_at c live a events lengths rounds most r good run inside t window older stretch many low =
    rows_fetched c r (part r (t.last ∷ t.older)) window older good (possible_at c live a events lengths rounds most r run t) (made_at c live a events lengths rounds most r run t inside) stretch many low

pub ordered_at : (c : Config) (live : ℕ → Bool) (a : ℕ) (events : List Event) (lengths : List ℕ) (rounds most r : ℕ) → AreUnpaused c events lengths rounds → r < c.replicas → (t : TakenAt c live a events most) → AtEachStep (ReadsInOrder c r) (part r (t.last ∷ t.older))
ordered_at c live a events lengths rounds most r run inside t = reads_in_order c r (part r (t.last ∷ t.older)) (made_at c live a events lengths rounds most r run t inside)
