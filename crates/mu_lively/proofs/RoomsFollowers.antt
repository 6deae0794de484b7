-- The counts of a leader while it asks after late followers, when it goes on to the next.
use Rattle.std.proofs.Common.{◌≡◌, ℕ, ◌+◌, ◌<◌, ◌≤◌, ◌⊎◌, inl, inr, true, false, ◌==◌, List, ◌∷◌, refl, sym, subst, arith, true≢false}
use Rattle.std.proofs.lemmas.Bool.{cases_lt, le-leb, lt-ltb}
use Rattle.mu_model.specs.declared.config.Config.{Config}
use Rattle.mu_model.specs.declared.event.Answer.{Answer}
use Rattle.mu_model.specs.declared.event.Event.{Event}
use Rattle.mu_model.specs.declared.event.Fence.{Fence}
use Rattle.mu_model.specs.declared.event.Verb.{Verb}
use Rattle.mu_model.specs.Contents.{IsConfig}
use Rattle.mu_model.specs.Leaderships.{is_member}
use Rattle.mu_model.specs.Steps.{is_fencing_verb}
use Rattle.mu_model.specs.Stretches.{is_replication}
use Rattle.mu_model.proofs.Basics.{same_number}
use Rattle.mu_model.specs.Histories.{event_by}
use Rattle.mu_pace.specs.Asking.{AsksJoining, AsksOn, far, far_join, near_ahead, near_fuo, near_joined, near_level, near_passed, near_welcomed}
use Rattle.mu_pace.specs.Watches.{is_brought_up}
use Rattle.mu_pace.specs.Weights.{Bringing, Lag, Sizes, Stage, ahead, at_joined, at_late_enter, at_late_min, is_first, joins_behind, joins_level, late_fuo, passed, welcomed}
use Rattle.mu_pace.proofs.Members.{counts_of_members}
use Rattle.mu_pace.proofs.Placed.{places_lead}
use Rattle.mu_lead.specs.declared.place.Place.{Place}
use Rattle.mu_lead.specs.declared.place.Then.{Then}
use Rattle.mu_lively.specs.Onward.{MayBringUp, MayGoOn}
use Rattle.mu_lively.specs.Rooms.{IsPlaced, sizes_of}
use Rattle.mu_lively.proofs.RoomsMin.{more_sizes}
use Rattle.mu_lively.proofs.RoomsOnward.{onward_join, onward_step}
use Rattle.mu_lively.proofs.RoomsQuiet.{landed_no_milestone, silent_verbs_are_silent, config_is_sized, steps_on}

fenced_here : (p k : ℕ) → p ≤ k → k ≤ p → is_fencing_verb k (Verb.Fence p) ≡ true
fenced_here p k low high = let same : p ≡ k = omega arith in subst (λ q. (p == q) ≡ true) same (same_number p)

asks_welcomed : (s : Sizes) (p k : ℕ) → p < s.replicas → AsksOn s k (Stage.LateFence p) (Stage.LateMin p) ⊎ (is_fencing_verb k (Verb.Fence p) ≡ true)
asks_welcomed s p k region = elim (cases_lt p k) [
  | inl above ↦ inl (near_welcomed p above)
  | inr high ↦ elim (cases_lt k p) [
    | inl less ↦ inl (far (Stage.LateFence p) (Stage.LateMin p) (welcomed p region) (lt-ltb k p less) (le-leb k p high))
    | inr low ↦ inr (fenced_here p k low high)
  ]
]

-- the late follower names the leader
pub rooms_welcomed : (c : Config) (r p : ℕ) (f : Fence) (mine : List Event) (written : List ℕ) → IsConfig c → is_replication mine (event_by r (Verb.Fence p) (Answer.Seen f)) ≡ true → p < c.replicas → IsPlaced c r mine written (Place.LateFence p)
    → IsPlaced c r (event_by r (Verb.Fence p) (Answer.Seen f) ∷ mine) written (Place.LateMin p)
rooms_welcomed c r p f mine written is turn region at = record {
  read = at.read;
  placed = steps_on c r (Stage.LateFence p) (Stage.LateMin p) mine (event_by r (Verb.Fence p) (Answer.Seen f)) is turn (silent_verbs_are_silent c r mine r (Verb.Fence p) (Answer.Seen f) refl) at.placed (welcomed p region) (at_late_min p region)
      (λ k low stranger. asks_welcomed (sizes_of c r mine) p k region) (λ level. inl refl);
}

-- or is passed over
pub rooms_passed : (c : Config) (r p from : ℕ) (f : Fence) (mine : List Event) (written : List ℕ) → IsConfig c → is_replication mine (event_by r (Verb.Fence p) (Answer.Seen f)) ≡ true → p < c.replicas → from ≡ p + 1 → IsPlaced c r mine written (Place.LateFence p)
    → MayGoOn c r (event_by r (Verb.Fence p) (Answer.Seen f) ∷ mine) from
rooms_passed c r p from f mine written is turn region next at =
    let e = event_by r (Verb.Fence p) (Answer.Seen f) in
    subst (MayGoOn c r (e ∷ mine)) (sym next)
    (onward_step c r (p + 1) (Stage.LateFence p) mine e is turn (silent_verbs_are_silent c r mine r (Verb.Fence p) (Answer.Seen f) refl) refl at.read at (omega (arith, region)) (λ u goes. passed p u region goes)
    (record {
      nearer = λ k q low above stranger. inl (near_passed p q (omega (arith, low)) above);
      farther = λ k below stranger. elim (cases_lt k p) [
        | inl less ↦ inl (lt-ltb k p less)
        | inr low ↦ inr (fenced_here p k low (omega (arith, below)))
      ];
    })
    (inl refl))

asks_fuo : (s : Sizes) (p k : ℕ) → AsksOn s k (Stage.LateFuo p) (Stage.LateEnter p)
asks_fuo s p k = elim (cases_lt p k) [ inl low ↦ near_fuo p low | inr high ↦ far (Stage.LateFuo p) (Stage.LateEnter p) (late_fuo p) (le-leb k p high) (le-leb k p high) ]

-- its FUO lets it join
pub rooms_late_fuo : (c : Config) (r p u : ℕ) (mine : List Event) (written : List ℕ) → IsConfig c → is_replication mine (event_by r (Verb.Fuo p) (Answer.Number u)) ≡ true → p < c.replicas → IsPlaced c r mine written (Place.LateFuo p)
    → IsPlaced c r (event_by r (Verb.Fuo p) (Answer.Number u) ∷ mine) written (Place.LateEnter p)
rooms_late_fuo c r p u mine written is turn region at = record {
  read = at.read;
  placed = steps_on c r (Stage.LateFuo p) (Stage.LateEnter p) mine (event_by r (Verb.Fuo p) (Answer.Number u)) is turn (silent_verbs_are_silent c r mine r (Verb.Fuo p) (Answer.Number u) refl) at.placed (late_fuo p) (at_late_enter p region)
      (λ k low stranger. inl (asks_fuo (sizes_of c r mine) p k)) (λ level. inl refl);
}

-- or shows that it is ahead
pub rooms_ahead : (c : Config) (r p from u : ℕ) (mine : List Event) (written : List ℕ) → IsConfig c → is_replication mine (event_by r (Verb.Fuo p) (Answer.Number u)) ≡ true → p < c.replicas → from ≡ p + 1 → IsPlaced c r mine written (Place.LateFuo p)
    → MayGoOn c r (event_by r (Verb.Fuo p) (Answer.Number u) ∷ mine) from
rooms_ahead c r p from u mine written is turn region next at =
    let e = event_by r (Verb.Fuo p) (Answer.Number u) in
    subst (MayGoOn c r (e ∷ mine)) (sym next)
    (onward_step c r (p + 1) (Stage.LateFuo p) mine e is turn (silent_verbs_are_silent c r mine r (Verb.Fuo p) (Answer.Number u) refl) refl at.read at (omega (arith, region)) (λ t goes. ahead p t goes)
    (record {
      nearer = λ k q low above stranger. inl (near_ahead p q (omega (arith, low)) above);
      farther = λ k below stranger. inl (le-leb k p (omega (arith, below)));
    })
    (inl refl))

asks_joining : (s : Sizes) (p k : ℕ) (b : Bringing) → is_first b ≡ true → AsksJoining s k (Stage.LatePut p) (Stage.Bring (Lag.Joined p) b)
asks_joining s p k b first = elim (cases_lt p k) [ inl low ↦ near_joined p b low first | inr high ↦ far_join (Stage.LatePut p) (Stage.Bring (Lag.Joined p) b) (joins_behind p b first) (le-leb k p high) (le-leb k p high) ]

-- it became a member, and is brought up
pub rooms_joined_behind : (c : Config) (r p b : ℕ) (mine : List Event) (written : List ℕ) → IsConfig c → is_replication mine (event_by r (Verb.PutMin p b) Answer.Done) ≡ true → p < c.replicas → is_member r p mine ≡ false → IsPlaced c r mine written (Place.LatePut p)
    → MayBringUp c r (event_by r (Verb.PutMin p b) Answer.Done ∷ mine) p Then.Joined
rooms_joined_behind c r p b mine written is turn region stranger at step first =
    let e = event_by r (Verb.PutMin p b) Answer.Done in
    let more = counts_of_members.joined c r p b mine region stranger in
    record {
      read = at.read;
      placed = more_sizes c r (Stage.Bring (Lag.Joined p) step) mine (e ∷ mine) more (places_lead.join c r (sizes_of c r mine) (Stage.LatePut p) (Stage.Bring (Lag.Joined p) step) mine e (config_is_sized c r mine is) at.placed (record {
        turn = turn;
        edge = joins_behind p step first;
        place = at_joined p step region;
        no_milestone = landed_no_milestone c r p b mine;
        more = more;
        asks = λ k low other. inl (asks_joining (sizes_of c r mine) p k step first);
        levels = λ level. absurd (true≢false (sym level));
      }));
    }

-- or has what is known
pub rooms_joined_level : (c : Config) (r p from b : ℕ) (mine : List Event) (written : List ℕ) → IsConfig c → is_replication mine (event_by r (Verb.PutMin p b) Answer.Done) ≡ true → p < c.replicas → is_member r p mine ≡ false → from ≡ p + 1 → ((k : ℕ) → is_member r k (event_by r (Verb.PutMin p b) Answer.Done ∷ mine) ≡ true → is_brought_up c r k (event_by r (Verb.PutMin p b) Answer.Done ∷ mine) ≡ true)
    → IsPlaced c r mine written (Place.LatePut p) → MayGoOn c r (event_by r (Verb.PutMin p b) Answer.Done ∷ mine) from
rooms_joined_level c r p from b mine written is turn region stranger next levels at =
    let e = event_by r (Verb.PutMin p b) Answer.Done in
    subst (MayGoOn c r (e ∷ mine)) (sym next)
    (onward_join c r (p + 1) (Stage.LatePut p) mine e is turn (landed_no_milestone c r p b mine) (counts_of_members.joined c r p b mine region stranger) refl at.read at (omega (arith, region)) (λ t goes. joins_level p t goes)
    (record {
      nearer = λ k q low above other. inl (near_level p q (omega (arith, low)) above);
      farther = λ k below other. inl (le-leb k p (omega (arith, below)));
    })
    levels)
