-- From a place to the one that the listing goes on to once regions were gone through.
use Rattle.std.proofs.Common.{◌≡◌, ℕ, ◌+◌, ◌<◌, ◌≤◌, ◌⊎◌, inl, inr, Bool, true, false, List, ◌∷◌, None, Some, refl, sym, ◌∙◌, ap, subst, arith, true≢false}
use Rattle.std.specs.Prelude.{not}
use Rattle.std.proofs.lemmas.Bool.{cases_lt, lt-ltb}
use Rattle.mu_model.specs.declared.config.Config.{Config}
use Rattle.mu_model.specs.declared.event.Event.{Event}
use Rattle.mu_model.specs.Bounds.{members}
use Rattle.mu_model.specs.Contents.{IsConfig, holds_all}
use Rattle.mu_model.specs.Diligence.{is_milestone}
use Rattle.mu_model.specs.Knowledge.{known}
use Rattle.mu_model.specs.Leaderships.{is_member}
use Rattle.mu_model.specs.Steps.{has_min, is_fencing}
use Rattle.mu_model.specs.Stretches.{is_replication}
use Rattle.mu_pace.specs.Asking.{AsksJoining, AsksOn, far, far_join, is_far, turns, turns_joining}
use Rattle.mu_pace.specs.Placed.{Asks, IsPlacedAt, is_level}
use Rattle.mu_pace.specs.Watches.{is_brought_up}
use Rattle.mu_pace.specs.Weights.{AtRoom, From, GoesOn, IsPlace, Joins, Sizes, Stage, asks, at_head, at_late_fence, at_look, at_rest, beyond, heads, joined, looks, rests}
use Rattle.mu_pace.proofs.Placed.{places_lead}
use Rattle.mu_pace.proofs.Weights.{weights_fall}
use Rattle.mu_lively.specs.Onward.{IsNextStranger, MayGoOn}
use Rattle.mu_lively.specs.Rooms.{IsLed, sizes_of}
use Rattle.mu_knowledge.specs.Offers.{IsFirst}
use Rattle.mu_lively.proofs.RoomsMin.{more_sizes}
use Rattle.mu_lively.proofs.RoomsQuiet.{IsSilent, config_is_sized, steps_on}

-- what passes isn't below the first that does
pub first_below : (test : ℕ → Bool) (p n q k : ℕ) → IsFirst test p n (Some q) → p ≤ k → test k ≡ true → q ≤ k
first_below test p n q k first from passes = elim (cases_lt k q) [
  | inl less ↦ absurd (true≢false (sym passes ∙ first.3 k from less))
  | inr more ↦ more
]

-- what a step leaves for the late followers: it leads nearer to those from p on, and the place lay before those below p
pub record Passes (edge : ℕ → Stage → Stage → Type 0) (r : ℕ) (t : Stage) (p : ℕ) (mine : List Event) (e : Event) : Type 0 where
  pub nearer : (k q : ℕ) → p ≤ q → q ≤ k → is_member r k (e ∷ mine) ≡ false → edge k t (Stage.LateFence q) ⊎ (is_fencing k e ≡ true)
  pub farther : (k : ℕ) → k < p → is_member r k (e ∷ mine) ≡ false → (is_far k t ≡ true) ⊎ (is_fencing k e ≡ true)

-- heads, looks and rest lie before the late followers
room_far : (s : Sizes) (k : ℕ) (u : Stage) → AtRoom s u → is_far k u ≡ true
room_far s k u (heads q low) = refl
room_far s k u (looks m few) = refl
room_far s k u rests = refl

-- and every member has what is known there
pub room_level : (s : Sizes) (u : Stage) → AtRoom s u → is_level u ≡ true
room_level s u (heads q low) = refl
room_level s u (looks m few) = refl
room_level s u rests = refl

pub room_place : (s : Sizes) (u : Stage) → AtRoom s u → IsPlace s u
room_place s u (heads q low) = at_head q
room_place s u (looks m few) = at_look m few
room_place s u rests = at_rest

-- the late followers, if one is asked next
asks_next : (edge : ℕ → Stage → Stage → Type 0) (c : Config) (r p q : ℕ) (t : Stage) (mine : List Event) (e : Event) → Passes edge r t p mine e → IsNextStranger c r (e ∷ mine) p (Some q)
    → ((k : ℕ) → is_far k t ≡ true → is_far k (Stage.LateFence q) ≡ true → edge k t (Stage.LateFence q)) → Asks edge c r t (Stage.LateFence q) mine e
asks_next edge c r p q t mine e passes first goes k low stranger = elim (cases_lt k p) [
  | inl below ↦ elim (passes.farther k below stranger) [
    | inl distant ↦ inl (goes k distant (lt-ltb k q (let from = first.0 in omega (arith, from, below))))
    | inr fenced ↦ inr fenced
  ]
  | inr from ↦ passes.nearer k q first.0 (first_below (λ j. not (is_member r j (e ∷ mine))) p c.replicas q k first from (ap not stranger)) stranger
]

-- if none is left from p on, they are asked after again
asks_again : (edge : ℕ → Stage → Stage → Type 0) (c : Config) (r p q : ℕ) (t : Stage) (mine : List Event) (e : Event) → Passes edge r t p mine e → IsNextStranger c r (e ∷ mine) p None → IsNextStranger c r (e ∷ mine) 0 (Some q)
    → ((k : ℕ) → is_far k t ≡ true → q ≤ k → edge k t (Stage.LateFence q)) → Asks edge c r t (Stage.LateFence q) mine e
asks_again edge c r p q t mine e passes none first goes k low stranger = elim (cases_lt k p) [
  | inl below ↦ elim (passes.farther k below stranger) [
    | inl distant ↦ inl (goes k distant (first_below (λ j. not (is_member r j (e ∷ mine))) 0 c.replicas q k first (omega arith) (ap not stranger)))
    | inr fenced ↦ inr fenced
  ]
  | inr from ↦ absurd (true≢false (sym (ap not stranger) ∙ none k from low))
]

-- or the next position begins
asks_beyond : (edge : ℕ → Stage → Stage → Type 0) (c : Config) (r p : ℕ) (t u : Stage) (s : Sizes) (mine : List Event) (e : Event) → Passes edge r t p mine e → IsNextStranger c r (e ∷ mine) p None → AtRoom s u
    → ((k : ℕ) → is_far k t ≡ true → is_far k u ≡ true → edge k t u) → Asks edge c r t u mine e
asks_beyond edge c r p t u s mine e passes none room goes k low stranger = elim (cases_lt k p) [
  | inl below ↦ elim (passes.farther k below stranger) [
    | inl distant ↦ inl (goes k distant (room_far s k u room))
    | inr fenced ↦ inr fenced
  ]
  | inr from ↦ absurd (true≢false (sym (ap not stranger) ∙ none k from low))
]

same_sizes : (c : Config) (r : ℕ) (u : Stage) (mine : List Event) (e : Event) → members c r (e ∷ mine) ≡ members c r mine → IsPlacedAt c r (sizes_of c r mine) u (e ∷ mine) → IsPlacedAt c r (sizes_of c r (e ∷ mine)) u (e ∷ mine)
same_sizes c r u mine e same at = subst (λ m. IsPlacedAt c r (record { replicas = c.replicas; width = c.width; members = m }) u (e ∷ mine)) (sym same) at

-- every member is brought up now, or was
abbrev pub IsLevelled : Config → ℕ → Stage → List Event → Event → Type 0
IsLevelled c r t mine e = (is_level t ≡ true) ⊎ ((k : ℕ) → is_member r k (e ∷ mine) ≡ true → is_brought_up c r k (e ∷ mine) ≡ true)

-- by a step that nothing pays for
pub onward_step : (c : Config) (r p : ℕ) (t : Stage) (mine : List Event) (e : Event) → IsConfig c → is_replication mine e ≡ true → IsSilent c r mine e → known c r (e ∷ mine) ≡ known c r mine → has_min r (e ∷ mine) ≡ true → IsLed c r mine t → p ≤ c.replicas
    → ((u : Stage) → From (sizes_of c r mine) p u → GoesOn (sizes_of c r mine) t u) → Passes (AsksOn (sizes_of c r mine)) r t p mine e → IsLevelled c r t mine e → MayGoOn c r (e ∷ mine) p
onward_step c r p t mine e is turn quiet same read at few edge passes levels =
    let s = sizes_of c r mine in
    record {
      asks = λ q first. record {
        read = read;
        placed = same_sizes c r (Stage.LateFence q) mine e quiet.same (steps_on c r t (Stage.LateFence q) mine e is turn quiet at.placed (edge (Stage.LateFence q) (asks q first.0 first.1)) (at_late_fence q)
            (asks_next (AsksOn s) c r p q t mine e passes first (λ k distant there. far t (Stage.LateFence q) (edge (Stage.LateFence q) (asks q first.0 first.1)) distant there)) (λ level. levels));
      };
      again = λ q none first all. record {
        read = read;
        placed = same_sizes c r (Stage.LateFence q) mine e quiet.same (places_lead.known c r s t (Stage.LateFence q) mine e (config_is_sized c r mine is) at.placed (record {
          turn = turn;
          known = sym (ap (holds_all c) same) ∙ all;
          place = at_late_fence q;
          no_milestone = quiet.no_milestone;
          none_behind = quiet.none_behind;
          same = quiet.same;
          asks = asks_again (AsksOn s) c r p q t mine e passes none first (λ k distant low. turns t q distant (weights_fall.heavy s t (config_is_sized c r mine is) at.placed.place) low);
          to_level = refl;
          levels = λ level. levels;
        }));
      };
      beyond = λ u none room.
          let here : AtRoom s u = subst (λ m. AtRoom (record { replicas = c.replicas; width = c.width; members = m }) u) quiet.same room in
          let goes = edge u (beyond u few here) in
          record {
            read = read;
            placed = same_sizes c r u mine e quiet.same (steps_on c r t u mine e is turn quiet at.placed goes (room_place s u here) (asks_beyond (AsksOn s) c r p t u s mine e passes none here (λ k distant there. far t u goes distant there)) (λ level. levels));
          };
    }

-- by one by which a region becomes a member
pub onward_join : (c : Config) (r p : ℕ) (t : Stage) (mine : List Event) (e : Event) → IsConfig c → is_replication mine e ≡ true → is_milestone c r mine e ≡ false → members c r (e ∷ mine) ≡ members c r mine + 1 → known c r (e ∷ mine) ≡ known c r mine → has_min r (e ∷ mine) ≡ true → IsLed c r mine t → p ≤ c.replicas
    → ((u : Stage) → From (joined (sizes_of c r mine)) p u → Joins (sizes_of c r mine) t u) → Passes (AsksJoining (sizes_of c r mine)) r t p mine e → ((k : ℕ) → is_member r k (e ∷ mine) ≡ true → is_brought_up c r k (e ∷ mine) ≡ true) → MayGoOn c r (e ∷ mine) p
onward_join c r p t mine e is turn plain more same read at few edge passes levels =
    let s = sizes_of c r mine in
    record {
      asks = λ q first. record {
        read = read;
        placed = more_sizes c r (Stage.LateFence q) mine (e ∷ mine) more (places_lead.join c r s t (Stage.LateFence q) mine e (config_is_sized c r mine is) at.placed (record {
          turn = turn;
          edge = edge (Stage.LateFence q) (asks q first.0 first.1);
          place = at_late_fence q;
          no_milestone = plain;
          more = more;
          asks = asks_next (AsksJoining s) c r p q t mine e passes first (λ k distant there. far_join t (Stage.LateFence q) (edge (Stage.LateFence q) (asks q first.0 first.1)) distant there);
          levels = λ level. levels;
        }));
      };
      again = λ q none first all. record {
        read = read;
        placed = more_sizes c r (Stage.LateFence q) mine (e ∷ mine) more (places_lead.last_join c r s t (Stage.LateFence q) mine e (config_is_sized c r mine is) at.placed (record {
          turn = turn;
          known = sym (ap (holds_all c) same) ∙ all;
          place = at_late_fence q;
          no_milestone = plain;
          more = more;
          asks = asks_again (AsksJoining s) c r p q t mine e passes none first (λ k distant low. turns_joining t q distant low);
          to_level = refl;
          levels = levels;
        }));
      };
      beyond = λ u none room.
          let here : AtRoom (joined s) u = subst (λ m. AtRoom (record { replicas = c.replicas; width = c.width; members = m }) u) more room in
          let goes = edge u (beyond u few here) in
          record {
            read = read;
            placed = more_sizes c r u mine (e ∷ mine) more (places_lead.join c r s t u mine e (config_is_sized c r mine is) at.placed (record {
              turn = turn;
              edge = goes;
              place = room_place (joined s) u here;
              no_milestone = plain;
              more = more;
              asks = asks_beyond (AsksJoining s) c r p t u (joined s) mine e passes none here (λ k distant there. far_join t u goes distant there);
              levels = λ level. levels;
            }));
          };
    }
