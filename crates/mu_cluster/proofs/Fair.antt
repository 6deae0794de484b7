-- Nodes of which a majority goes on fairly, whatever the order of their steps.
use Rattle.std.proofs.Common.{◌≡◌, ◌∙◌, ℕ, ◌+◌, ◌<◌, ◌≤◌, ◌==◌, Bool, true, false, cond, None, List, [], ◌∷◌, ◌++◌, ap, append_assoc, length, refl, subst, sym, true≢false, inl, inr}
use Rattle.mu_model.specs.declared.config.Config.{Config}
use Rattle.mu_model.specs.declared.event.Event.{Event}
use Rattle.mu_model.specs.declared.event.Verb.{Verb}
use Rattle.mu_model.specs.Contents.{IsConfig, holds_all}
use Rattle.mu_model.specs.Diligence.{AsksInTime, AsksWithCauseBy, GrantsInTime, IsDiligentBy, ReadsInTime}
use Rattle.mu_model.specs.Ends.{outrun}
use Rattle.mu_model.specs.Histories.{has, history, part}
use Rattle.mu_model.specs.Knowledge.{applied}
use Rattle.mu_model.specs.Leaderships.{leadership}
use Rattle.mu_model.specs.Legal.{IsLegal, IsLegalHistory}
use Rattle.mu_model.specs.Regions.{fence_closing}
use Rattle.mu_model.proofs.Basics.{same_number}
use Rattle.mu_model.proofs.Parts.{filter-append, part_is_possible}
use Rattle.mu_agree.proofs.Legal.{legal_older}
use Rattle.mu_lively.specs.Order.{InCycleOrder}
use Rattle.mu_lively.proofs.HostRounds.{reads_open}
use Rattle.mu_node.specs.Journal.{WasMade}
use Rattle.mu_lively.proofs.Anew.{asked_before_min, fenced_before_number, is_min_at, read_before_number, returns_by_asking}
use Rattle.mu_lively.proofs.Fetching.{rows_fetched}
use Rattle.mu_pace.specs.Collecting.{LeaderKeepsBy}
use Rattle.mu_agree.specs.Moments.{AtEachStep}
use Rattle.mu_pace.proofs.Counting.{steps_before}
use Rattle.mu_alive.specs.Enough.{HasLargeRing}
use Rattle.mu_alive.specs.Last.{FetchesInTime, fetching_steps}
use Rattle.mu_alive.specs.Resuming.{FollowsListing, LeadsAfter, is_min_of, is_min_of_verb, resuming_steps}
use Rattle.mu_alive.specs.Settling.{HoldAlive, ReadsOpen}
use Rattle.mu_alive.proofs.Again.{causes_wider}
use Rattle.mu_alive.proofs.Beginning.{grants_before, reads_before}
use Rattle.mu_alive.proofs.Finding.{held_alive}
use Rattle.mu_alive.proofs.Enough.{asks_before}
use Rattle.mu_alive.proofs.Fetching.{applied_on}
use Rattle.mu_alive.proofs.Resuming.{resumed_applies}
use Rattle.mu_alive.proofs.Settling.{causes_before}
use Rattle.mu_alive.proofs.TurnOwners.{closing-part}
use Rattle.mu_cluster.specs.Fair.{IsFairStretch}
use Rattle.mu_cluster.specs.Rounds.{part_of}

-- each step of a journal follows the listing
listing_of : (c : Config) (r : ℕ) (mine : List Event) → r < c.replicas → AtEachStep (WasMade c r) mine → AtEachStep (FollowsListing c r) mine
listing_of c r [] inside made = tt
listing_of c r (e ∷ mine) inside made = (
  listing_of c r mine inside made.0,
  record {
    returns = λ odd named is. returns_by_asking c r mine e made odd named is;
    asked = λ p low other min _. asked_before_min c r p mine e inside made low other min;
    fenced = λ p low puts. fenced_before_number c r p puts.region puts.number mine e inside made puts.puts puts.first low;
    read = λ p low puts noted. has_same p (leadership r mine) (read_before_number c r p puts.region puts.number mine e inside made puts.puts puts.first low noted);
  },
)
  where
    same : (p : ℕ) (verb : Verb) → is_min_at p verb ≡ is_min_of_verb p verb
    same p (Verb.Min q) = refl
    same p verb = refl

    has_same : (p : ℕ) (xs : List Event) → has (λ f. is_min_at p f.verb) xs ≡ true → has (is_min_of p) xs ≡ true
    has_same p [] some = some
    has_same p (x ∷ xs) some = go (is_min_at p x.verb) (is_min_of p x) (same p x.verb) some (has_same p xs)
      where
        go : (t u : Bool) → t ≡ u → cond t true (has (λ f. is_min_at p f.verb) xs) ≡ true → (has (λ f. is_min_at p f.verb) xs ≡ true → has (is_min_of p) xs ≡ true) → cond u true (has (is_min_of p) xs) ≡ true
        go true true e some ih = refl
        go true false e some ih = absurd (true≢false e)
        go false true e some ih = refl
        go false false e some ih = ih some

-- the events are those of nodes, which ask again if they may, in any order
pub record AreRunNodes (again : Bool) (c : Config) (events : List Event) : Type 0 where
  pub legal : IsLegal c events
  pub made : (r : ℕ) → r < c.replicas → AtEachStep (WasMade c r) (part_of r events)
  pub order : (r : ℕ) → r < c.replicas → InCycleOrder c r (part_of r events)
  pub led : (r : ℕ) → r < c.replicas → AtEachStep (LeaderKeepsBy again c r) (part_of r events)
  pub diligent : (r : ℕ) → r < c.replicas → IsDiligentBy again c r (part_of r events)

-- the least of a majority that goes on fairly leads after
pub leads_in : (again : Bool) (c : Config) (live : ℕ → Bool) (ratio lag s : ℕ) (events front newer older : List Event) → AreRunNodes again c events → history events ≡ front ++ (newer ++ older) → IsFairStretch c live ratio lag s newer older → outrun c s (part s (newer ++ older)) ≡ None → LeadsAfter again c live ratio lag s newer older
leads_in again c live ratio lag s events front newer older run is on going = leads
  where
    split : (r : ℕ) → part_of r events ≡ part r front ++ part r (newer ++ older)
    split r = ap (part r) is ∙ filter-append (λ e. e.by == r) front (newer ++ older)

    legal : IsLegalHistory c (newer ++ older)
    legal = legal_older c front (newer ++ older) (subst (IsLegalHistory c) is run.legal)

    order_before : (r : ℕ) (xs ys : List Event) → InCycleOrder c r (xs ++ ys) → InCycleOrder c r ys
    order_before r [] ys order = order
    order_before r (e ∷ xs) ys order = order_before r xs ys order.0

    rests : (top past : List Event) → newer ++ older ≡ top ++ past → AtEachStep ReadsOpen past
    rests top [] cuts = tt
    rests top (e ∷ past) cuts = (rests (top ++ e ∷ []) past (cuts ∙ sym (append_assoc top (e ∷ []) past)), λ w reads. open_there w reads)
      where
        here : IsLegalHistory c (e ∷ past)
        here = legal_older c top (e ∷ past) (subst (IsLegalHistory c) cuts legal)

        mine : part_of e.by events ≡ (part e.by front ++ part e.by top) ++ (e ∷ part e.by past)
        mine =
            split e.by ∙ ap (λ l. part e.by front ++ l) (ap (part e.by) cuts ∙ filter-append (λ f. f.by == e.by) top (e ∷ past) ∙ ap (λ t. part e.by top ++ cond t (e ∷ part e.by past) (part e.by past)) (same_number e.by))
            ∙ sym (append_assoc (part e.by front) (part e.by top) (e ∷ part e.by past))

        open_there : (w : ℕ) → e.verb ≡ Verb.ReadAsk w → fence_closing e.by past ≡ false
        open_there w reads =
            sym (closing-part e.by past)
            ∙ reads_open c e.by w (part e.by past) e here.1.allowed.replica here.1.allowed.budget (order_before e.by (part e.by front ++ part e.by top) (e ∷ part e.by past) (subst (InCycleOrder c e.by) mine (run.order e.by here.1.allowed.replica))) reads

    made : AtEachStep (WasMade c s) (part s (newer ++ older))
    made = steps_before (WasMade c s) (part s front) (part s (newer ++ older)) (subst (AtEachStep (WasMade c s)) (split s) (run.made s on.inside))

    reads : (r : ℕ) → r < c.replicas → live r ≡ true → ReadsInTime c r (part r (newer ++ older))
    reads r inside _ = reads_before c r (part r front) (part r (newer ++ older)) (subst (ReadsInTime c r) (split r) (run.diligent r inside).heartbeat_pace)

    alive : HoldAlive c live s newer older
    alive = elim on.seen [
      | inl finds ↦ held_alive c live s newer older on.inside legal reads finds
      | inr held ↦ held
    ]

    leads : LeadsAfter again c live ratio lag s newer older
    leads = record {
      on = record {
        inside = on.inside;
        lives = on.lives;
        least = on.least;
        majority = on.majority;
        legal = legal;
        alive = alive;
        quiet = on.quiet;
        reads = reads;
        grants = λ r inside _. grants_before c r (part r front) (part r (newer ++ older)) (subst (GrantsInTime c r) (split r) (run.diligent r inside).grant_pace);
        causes = λ r inside _. causes_wider again c r (part r (newer ++ older)) (causes_before again c r (part r front) (part r (newer ++ older)) (subst (AsksWithCauseBy again c r) (split r) (run.diligent r inside).ask_discipline));
        resting = rests [] (newer ++ older) refl;
      };
      keeps_up = on.keeps_up;
      asks = asks_before c s (part s front) (part s (newer ++ older)) (subst (AsksInTime c s) (split s) (run.diligent s on.inside).election_pace);
      led = steps_before (LeaderKeepsBy again c s) (part s front) (part s (newer ++ older)) (subst (AtEachStep (LeaderKeepsBy again c s)) (split s) (run.led s on.inside));
      listed = listing_of c s (part s (newer ++ older)) on.inside made;
      going = going;
    }

-- so it has every row in its log then
pub applies_then : (again : Bool) (c : Config) (live : ℕ → Bool) (ratio lag s : ℕ) (events front newer older : List Event) → IsConfig c → HasLargeRing c → AreRunNodes again c events → history events ≡ front ++ (newer ++ older) → LeadsAfter again c live ratio lag s newer older → resuming_steps c ratio lag + fetching_steps c ≤ length (part s newer)
    → holds_all c (applied c s (part s (newer ++ older))) ≡ true
applies_then again c live ratio lag s events front newer older good large run is leads many =
    let split : part_of s events ≡ part s front ++ part s (newer ++ older) = ap (part s) is ∙ filter-append (λ e. e.by == s) front (newer ++ older) in
    let made = steps_before (WasMade c s) (part s front) (part s (newer ++ older)) (subst (AtEachStep (WasMade c s)) split (run.made s leads.on.inside)) in
    let fetches : FetchesInTime c s (part s (newer ++ older)) = λ window before stretch many low. rows_fetched c s (part s (newer ++ older)) window before good (part_is_possible c s (newer ++ older) leads.on.legal) made stretch many low in
    resumed_applies again c live ratio lag s newer older good large leads fetches many

-- and at the end too
pub applies_in : (again : Bool) (c : Config) (live : ℕ → Bool) (ratio lag s : ℕ) (events front newer older : List Event) → IsConfig c → HasLargeRing c → AreRunNodes again c events → history events ≡ front ++ (newer ++ older) → LeadsAfter again c live ratio lag s newer older → resuming_steps c ratio lag + fetching_steps c ≤ length (part s newer)
    → holds_all c (applied c s (part_of s events)) ≡ true
applies_in again c live ratio lag s events front newer older good large run is leads many =
    let split : part_of s events ≡ part s front ++ part s (newer ++ older) = ap (part s) is ∙ filter-append (λ e. e.by == s) front (newer ++ older) in
    subst (λ l. holds_all c (applied c s l) ≡ true) (sym split) (applied_on c s (part s front) (part s (newer ++ older)) (applies_then again c live ratio lag s events front newer older good large run is leads many))
