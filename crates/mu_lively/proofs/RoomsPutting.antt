-- The counts of a leader while the value is put at a new position.
use Rattle.std.proofs.Common.{◌≡◌, ◌≢◌, ℕ, ◌+◌, ◌<◌, ◌≤◌, inl, Bool, true, false, ◌&&◌, ◌==◌, List, [], ◌∷◌, ◌++◌, length, length-append, None, Some, refl, ◌∙◌, ap, arith}
use Rattle.std.specs.Prelude.{if◌then◌else◌, nat_lt}
use Rattle.std.proofs.lemmas.Bool.{lt-ltb}
use Rattle.mu_model.specs.declared.config.Config.{Config}
use Rattle.mu_model.specs.declared.event.Answer.{Answer}
use Rattle.mu_model.specs.declared.event.Event.{Event}
use Rattle.mu_model.specs.declared.event.Target.{Target}
use Rattle.mu_model.specs.declared.event.Verb.{Verb}
use Rattle.mu_model.specs.Bounds.{members}
use Rattle.mu_model.specs.Contents.{IsConfig}
use Rattle.mu_model.specs.Knowledge.{commits, grown, is_accepted_by_all, known}
use Rattle.mu_model.specs.Leaderships.{is_member}
use Rattle.mu_model.specs.Steps.{commits_more, is_lagging}
use Rattle.mu_model.specs.Stretches.{is_replication}
use Rattle.mu_model.specs.Histories.{event_by}
use Rattle.mu_pace.specs.Asking.{far, commits as commits_there}
use Rattle.mu_pace.specs.Blocking.{is_blocking}
use Rattle.mu_pace.specs.Members.{IsNextMember, members_from}
use Rattle.mu_pace.specs.Weights.{Stage, at_put, at_raise, at_slot, entered_slot, next_put}
use Rattle.mu_pace.proofs.Beside.{not_more}
use Rattle.mu_pace.proofs.Members.{counts_of_members}
use Rattle.mu_pace.proofs.Placed.{places_lead}
use Rattle.mu_pace.proofs.Rooms.{steps_of_progress}
use Rattle.mu_lead.specs.declared.place.Offer.{Offer}
use Rattle.mu_lead.specs.declared.place.Place.{Place}
use Rattle.mu_lead.specs.Offering.{took}
use Rattle.mu_lively.specs.Rooms.{IsPlaced, sizes_of}
use Rattle.mu_lead.proofs.Puts.{not_accepted}
use Rattle.mu_lively.proofs.RoomsQuiet.{IsSilent, no_heads, quiet_milestone, silent_verbs_are_silent, config_is_sized, steps_on}

-- the members in turn are some, and no more than all
pub in_turn : (c : Config) (r p : ℕ) (mine : List Event) → members_from c r p mine ≤ members c r mine
in_turn c r p mine = let all = counts_of_members.all c r p mine in omega arith

-- the member is entered
pub rooms_entered_new : (c : Config) (r p : ℕ) (target : Target) (offer : Offer) (mine : List Event) (written : List ℕ) → IsConfig c → is_replication mine (event_by r (Verb.Enter p target) Answer.Entered) ≡ true → p < c.replicas → is_member r p mine ≡ true
    → IsPlaced c r mine written (Place.Enter p offer) → IsPlaced c r (event_by r (Verb.Enter p target) Answer.Entered ∷ mine) written (Place.Put p offer)
rooms_entered_new c r p target offer mine written is turn region member at =
    let k = members_from c r p mine in
    let some = counts_of_members.some c r p mine region member in
    record {
      read = at.read;
      placed = steps_on c r (Stage.EnterAt k) (Stage.PutAt k) mine (event_by r (Verb.Enter p target) Answer.Entered) is turn (silent_verbs_are_silent c r mine r (Verb.Enter p target) Answer.Entered refl) at.placed (entered_slot k some) (at_put k some (in_turn c r p mine))
          (λ q low stranger. inl (far (Stage.EnterAt k) (Stage.PutAt k) (entered_slot k some) refl refl)) (λ level. inl refl);
    }

-- a put that not every member took commits nothing
none_committed : (xs : List (ℕ × ℕ)) (x : ℕ × ℕ) (a b all : Bool) → all ≡ false → nat_lt (length xs) (length (grown xs (if a && (b && all) then Some x else None))) ≡ false
none_committed xs x true true all h = rw h (not_more (length xs))
none_committed xs x true false all h = not_more (length xs)
none_committed xs x false b all h = not_more (length xs)

-- nor does one that a member in turn hasn't taken yet
pub next_put_commits_none : (c : Config) (r p q i b v : ℕ) (mine : List Event) → q < c.replicas → is_member r q mine ≡ true → p ≢ q → took r q i b v mine ≡ false → commits_more c r mine (event_by r (Verb.PutSlot p i b v) Answer.Done) ≡ false
next_put_commits_none c r p q i b v mine low member other none =
    let e = event_by r (Verb.PutSlot p i b v) Answer.Done in
    none_committed (commits c r mine) (i, v) (r == r) (i == length (known c r mine)) (is_accepted_by_all c r (e ∷ mine) i b v) (not_accepted c r p q i b v mine low member other none)

quiet_put : (c : Config) (r p q i b v : ℕ) (mine : List Event) → q < c.replicas → is_member r q mine ≡ true → p ≢ q → took r q i b v mine ≡ false → IsSilent c r mine (event_by r (Verb.PutSlot p i b v) Answer.Done)
quiet_put c r p q i b v mine low member other none =
    let e = event_by r (Verb.PutSlot p i b v) Answer.Done in
    record {
      no_milestone = quiet_milestone c r mine e refl (next_put_commits_none c r p q i b v mine low member other none) (no_heads c r mine);
      none_behind = λ k. refl;
      same = refl;
    }

-- the member took it, and the next one is entered
pub rooms_next_put : (c : Config) (r p q i b v : ℕ) (offer : Offer) (mine : List Event) (written : List ℕ) → IsConfig c → is_replication mine (event_by r (Verb.PutSlot p i b v) Answer.Done) ≡ true → IsNextMember c r p q mine → q < c.replicas → is_member r q mine ≡ true
    → took r q i b v mine ≡ false → IsPlaced c r mine written (Place.Put p offer) → IsPlaced c r (event_by r (Verb.PutSlot p i b v) Answer.Done ∷ mine) written (Place.Enter q offer)
rooms_next_put c r p q i b v offer mine written is turn next low member none at =
    let k = members_from c r p mine in
    let j = members_from c r q mine in
    let above = next.above in
    let one = counts_of_members.next c r p q mine next in
    let less : j < k = omega (arith, one) in
    let some = counts_of_members.some c r q mine low member in
    record {
      read = at.read;
      placed = steps_on c r (Stage.PutAt k) (Stage.EnterAt j) mine (event_by r (Verb.PutSlot p i b v) Answer.Done) is turn (quiet_put c r p q i b v mine low member (λ e. omega (arith, above, e)) none) at.placed (next_put k j less) (at_slot j some (in_turn c r q mine))
          (λ q low stranger. inl (far (Stage.PutAt k) (Stage.EnterAt j) (next_put k j less) refl refl)) (λ level. inl refl);
    }

-- a put by which the known list grows commits
one_longer : {A : Type 0} (xs : List A) (x : A) → length (xs ++ x ∷ []) ≡ length xs + 1
one_longer xs x = length-append xs (x ∷ [])

not_longer : {A : Type 0} (xs : List A) (x : A) → xs ≡ xs ++ x ∷ [] → ⊥
not_longer xs x h = let same = ap length h ∙ one_longer xs x in omega (arith, same)

one_committed : (known_values : List ℕ) (v : ℕ) (xs : List (ℕ × ℕ)) (x : ℕ × ℕ) (a b all : Bool) → grown known_values (if a && (b && all) then Some v else None) ≡ known_values ++ v ∷ []
    → nat_lt (length xs) (length (grown xs (if a && (b && all) then Some x else None))) ≡ true
one_committed known_values v xs x true true true h = lt-ltb (length xs) (length (xs ++ x ∷ [])) (let long = one_longer xs x in omega (arith, long))
one_committed known_values v xs x true true false h = absurd (not_longer known_values v h)
one_committed known_values v xs x true false all h = absurd (not_longer known_values v h)
one_committed known_values v xs x false b all h = absurd (not_longer known_values v h)

pub put_commits : (c : Config) (r p i b v : ℕ) (mine : List Event) → known c r (event_by r (Verb.PutSlot p i b v) Answer.Done ∷ mine) ≡ known c r mine ++ v ∷ [] → commits_more c r mine (event_by r (Verb.PutSlot p i b v) Answer.Done) ≡ true
put_commits c r p i b v mine grows =
    let e = event_by r (Verb.PutSlot p i b v) Answer.Done in
    one_committed (known c r mine) v (commits c r mine) (i, v) (r == r) (i == length (known c r mine)) (is_accepted_by_all c r (e ∷ mine) i b v) grows

-- the last member took it: a commit, after which each member's FUO is raised
pub rooms_committed : (c : Config) (r p q i b v : ℕ) (offer : Offer) (mine : List Event) (written : List ℕ) → IsConfig c → is_replication mine (event_by r (Verb.PutSlot p i b v) Answer.Done) ≡ true → p < c.replicas → is_member r p mine ≡ true
    → known c r (event_by r (Verb.PutSlot p i b v) Answer.Done ∷ mine) ≡ known c r mine ++ v ∷ [] → IsPlaced c r mine written (Place.Put p offer) → IsPlaced c r (event_by r (Verb.PutSlot p i b v) Answer.Done ∷ mine) written (Place.Raise q)
rooms_committed c r p q i b v offer mine written is turn region member grows at =
    let e = event_by r (Verb.PutSlot p i b v) Answer.Done in
    let k = members_from c r p mine in
    let j = members_from c r q mine in
    let some = counts_of_members.some c r p mine region member in
    let more = put_commits c r p i b v mine grows in
    let progress = steps_of_progress.commit (is_lagging c r) c r mine e turn more in
    record {
      read = at.read;
      placed = places_lead.milestone c r (sizes_of c r mine) (Stage.PutAt k) (Stage.RaiseAt j) mine e (config_is_sized c r mine is) at.placed (record {
        turn = turn;
        place = at_raise j (in_turn c r q mine);
        milestone = progress.0;
        progress = progress.1;
        advance = inl (steps_of_progress.commit (is_blocking c r) c r mine e turn more).1;
        none_behind = λ k. refl;
        same = refl;
        asks = λ l low stranger. inl (commits_there k j some (in_turn c r q mine));
        from_level = refl;
        to_level = refl;
      });
    }
