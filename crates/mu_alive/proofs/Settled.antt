-- Once a region is a member, its FUO is raised in time to all that a leader knows that learns by its own
-- commits only.
use Rattle.std.proofs.Common.{◌≡◌, ◌⊎◌, ℕ, ◌<◌, ◌≤◌, ◌&&◌, inl, inr, Bool, true, false, List, [], ◌∷◌, ◌++◌, length, refl, ◌∙◌, ap, arith, subst, append_assoc}
use Rattle.std.proofs.lemmas.Bool.{and_from, leb-true}
use Rattle.mu_model.specs.declared.config.Config.{Config}
use Rattle.mu_model.specs.declared.event.Event.{Event}
use Rattle.mu_model.specs.Bounds.{is_learning, members, stays}
use Rattle.mu_model.specs.Contents.{IsConfig}
use Rattle.mu_model.specs.Histories.{greatest}
use Rattle.mu_model.specs.Knowledge.{known}
use Rattle.mu_model.specs.Leaderships.{begins_leadership, is_member, leadership}
use Rattle.mu_model.specs.Placing.{fuo_read_or_raised}
use Rattle.mu_model.specs.Steps.{commits_more, is_named}
use Rattle.mu_model.specs.Stretches.{is_replication, replications}
use Rattle.mu_agree.proofs.Landings.{greatest_since}
use Rattle.mu_agree.proofs.Prefixes.{greatest_along}
use Rattle.mu_pace.specs.Counters.{IsInTime}
use Rattle.mu_agree.specs.Moments.{AtEachMoment, AtEachStep}
use Rattle.mu_pace.specs.Watches.{is_full_raise, raising}
use Rattle.mu_pace.proofs.Counting.{allowed_here, steps_before}
use Rattle.mu_pace.proofs.Growing.{known_grows, member_stays, stays_less}
use Rattle.mu_agree.proofs.Members.{member_on}
use Rattle.mu_alive.specs.Bringing.{LeadsOn, bringing_steps}
use Rattle.mu_alive.proofs.Bringing.{member_in_time}
use Rattle.mu_alive.proofs.Steady.{Steady, away_by, member_numbered, raises_brought, same_known, steady_steps}
use Rattle.mu_alive.proofs.Calm.{count_few}
use Rattle.mu_alive.proofs.Waiting.{Pending, closed_or, open_short, pending_on, stays_older, unpaid}

-- a has read or raised the FUO of p to all that it knows, or a commit waits for that raise
abbrev pub HasRaised : Config → ℕ → ℕ → List Event → Type 0
HasRaised c a p now = (length (known c a now) ≤ greatest (λ e. fuo_read_or_raised a p e.by e.verb e.answer) now) ⊎ Pending a (raising c a p) c.replicas now

-- no look of a teaches it anything
abbrev pub IsQuiet : Config → ℕ → List Event → Type 0
IsQuiet c a mine = AtEachStep (λ now e. is_learning c a now e ≡ false) mine

-- a step that commits opens the count, and another goes on as before
raised_step : (c : Config) (a p : ℕ) (e : Event) (past : List Event) → Steady c a past e → begins_leadership a e ≡ false → is_member a p past ≡ true → is_learning c a past e ≡ false
    → HasRaised c a p (e ∷ past) ⊎ ((length (known c a (e ∷ past)) ≤ length (known c a past)) × (HasRaised c a p past → HasRaised c a p (e ∷ past)))
raised_step c a p e past steady same member quiet = go (commits_more c a past e) refl
  where
    still : length (known c a (e ∷ past)) ≤ length (known c a past) → (t : Bool) → (raising c a p).closes past e ≡ t → HasRaised c a p past → HasRaised c a p (e ∷ past)
    still few t closes (inl up) = inl (let along = greatest_along (λ f. fuo_read_or_raised a p f.by f.verb f.answer) (e ∷ []) past in omega (arith, few, up, along))
    still few false stays_open (inr k) = inr (pending_on a (raising c a p) c.replicas e past same stays_open k)
    still few true closes (inr k) =
        let raise = away_by (begins_leadership a e) (is_replication past e) (is_named c a past) (is_full_raise c a p past e) same (steady.named (member_numbered a p past member)) closes in
        let high = leb-true (length (known c a (e ∷ past))) (greatest (λ f. fuo_read_or_raised a p f.by f.verb f.answer) (leadership a (e ∷ past))) (raises_brought c a p e.by e.verb e.answer past steady.own raise.1) in
        let all = greatest_since (λ f. fuo_read_or_raised a p f.by f.verb f.answer) (begins_leadership a) (e ∷ past) in
        inl (omega (arith, high, all))

    go : (t : Bool) → commits_more c a past e ≡ t → HasRaised c a p (e ∷ past) ⊎ ((length (known c a (e ∷ past)) ≤ length (known c a past)) × (HasRaised c a p past → HasRaised c a p (e ∷ past)))
    go true commits = inl (inr (record {
      window = [];
      opened = e ∷ past;
      amount = members c a (e ∷ past);
      is = refl;
      same = refl;
      allows = allowed_here (λ past e. commits_more c a past e && is_member a p (e ∷ past)) (members c a) past e (and_from (commits_more c a past e) (is_member a p (e ∷ past)) commits (member_on a p e past same member));
      few = count_few c.replicas (λ q. is_member a q (e ∷ past));
      unclosed = refl;
    }))
    go false none =
        let few = same_known c a e.by e.verb e.answer past none quiet in
        inr (few, still few ((raising c a p).closes past e) refl)

-- along a stretch nothing more is known, or a commit came
raised_or : (c : Config) (a p : ℕ) (window base : List Event) → AtEachStep (Steady c a) (window ++ base) → IsQuiet c a (window ++ base) → stays a window ≡ true → is_member a p base ≡ true → (length (known c a (window ++ base)) ≤ length (known c a base)) ⊎ HasRaised c a p (window ++ base)
raised_or c a p [] base steady quiet same member = inl (omega arith)
raised_or c a p (e ∷ window) base steady quiet same member =
    let less = stays_less a e window same in
    go (raised_or c a p window base steady.0 quiet.0 less.1 member) (raised_step c a p e (window ++ base) steady.1 less.0 (member_stays a p window base less.1 member) quiet.1)
  where
    go : (length (known c a (window ++ base)) ≤ length (known c a base)) ⊎ HasRaised c a p (window ++ base) → HasRaised c a p (e ∷ (window ++ base)) ⊎ ((length (known c a (e ∷ (window ++ base))) ≤ length (known c a (window ++ base))) × (HasRaised c a p (window ++ base) → HasRaised c a p (e ∷ (window ++ base))))
        → (length (known c a (e ∷ (window ++ base))) ≤ length (known c a base)) ⊎ HasRaised c a p (e ∷ (window ++ base))
    go ih (inl raised) = inr raised
    go (inl few) (inr on) = inl (let l = on.0 in omega (arith, few, l))
    go (inr raised) (inr on) = inr (on.1 raised)

pub raised_along : (c : Config) (a p : ℕ) (window base : List Event) → AtEachStep (Steady c a) (window ++ base) → IsQuiet c a (window ++ base) → stays a window ≡ true → is_member a p base ≡ true → HasRaised c a p base → HasRaised c a p (window ++ base)
raised_along c a p [] base steady quiet same member raised = raised
raised_along c a p (e ∷ window) base steady quiet same member raised =
    let less = stays_less a e window same in
    go (raised_step c a p e (window ++ base) steady.1 less.0 (member_stays a p window base less.1 member) quiet.1) (raised_along c a p window base steady.0 quiet.0 less.1 member raised)
  where
    go : HasRaised c a p (e ∷ (window ++ base)) ⊎ ((length (known c a (e ∷ (window ++ base))) ≤ length (known c a (window ++ base))) × (HasRaised c a p (window ++ base) → HasRaised c a p (e ∷ (window ++ base)))) → HasRaised c a p (window ++ base) → HasRaised c a p (e ∷ (window ++ base))
    go (inl now) ih = now
    go (inr on) ih = on.1 ih

-- so long after it became a member
pub settles : (c : Config) (a p : ℕ) (window base : List Event) → IsConfig c → LeadsOn c a (window ++ base) → IsQuiet c a (window ++ base) → p < c.replicas → stays a window ≡ true → is_member a p base ≡ true → bringing_steps c ≤ replications window base → HasRaised c a p (window ++ base)
settles c a p window base good leads quiet low same member long = elim (raised_or c a p window base (steady_steps c a (window ++ base) leads.possible leads.on leads.named) quiet same member) [
  | inl few ↦ inl (let there = member_in_time c a p (length (known c a base)) window base good leads low same member (omega arith) long in omega (arith, few, there))
  | inr raised ↦ raised
]

-- a raise comes within a turn of each member
pub reaches_known : (c : Config) (a p : ℕ) (window base : List Event) → AtEachStep (Steady c a) (window ++ base) → AtEachMoment (IsInTime (raising c a p)) (window ++ base) → stays a window ≡ true → is_member a p base ≡ true → HasRaised c a p base → c.replicas ≤ replications window base
    → length (known c a base) ≤ greatest (λ e. fuo_read_or_raised a p e.by e.verb e.answer) (window ++ base)
reaches_known c a p window base steady timely same member (inl up) long = let along = greatest_along (λ e. fuo_read_or_raised a p e.by e.verb e.answer) window base in omega (arith, up, along)
reaches_known c a p window base steady timely same member (inr k) long = elim (closed_or (raising c a p) window base) [
  | inl x ↦
      let whole : window ++ base ≡ x.newer ++ x.event ∷ (x.older ++ base) = ap (λ z. z ++ base) x.is ∙ append_assoc x.newer (x.event ∷ x.older) base in
      let less = stays_less a x.event x.older (stays_older a x.newer (x.event ∷ x.older) (subst (λ z. stays a z ≡ true) x.is same)) in
      let s = (steps_before (Steady c a) x.newer (x.event ∷ (x.older ++ base)) (subst (AtEachStep (Steady c a)) whole steady)).1 in
      let there = member_stays a p x.older base less.1 member in
      let raise = away_by (begins_leadership a x.event) (is_replication (x.older ++ base) x.event) (is_named c a (x.older ++ base)) (is_full_raise c a p (x.older ++ base) x.event) less.0 (s.named (member_numbered a p (x.older ++ base) there)) x.closes in
      let high = leb-true (length (known c a (x.event ∷ (x.older ++ base)))) (greatest (λ f. fuo_read_or_raised a p f.by f.verb f.answer) (leadership a (x.event ∷ (x.older ++ base)))) (raises_brought c a p x.event.by x.event.verb x.event.answer (x.older ++ base) s.own raise.1) in
      let all = greatest_since (λ f. fuo_read_or_raised a p f.by f.verb f.answer) (begins_leadership a) (x.event ∷ (x.older ++ base)) in
      let along = greatest_along (λ e. fuo_read_or_raised a p e.by e.verb e.answer) x.newer (x.event ∷ (x.older ++ base)) in
      let more = ap (greatest (λ e. fuo_read_or_raised a p e.by e.verb e.answer)) whole in
      let grows = known_grows c a (x.event ∷ x.older) base in
      omega (arith, high, all, along, more, grows)
  | inr open_yet ↦
      let less = open_short a (raising c a p) c.replicas window base timely k open_yet in
      let none = unpaid (window ++ k.window) k.opened in
      absurd (omega (arith, less, none, long))
]
