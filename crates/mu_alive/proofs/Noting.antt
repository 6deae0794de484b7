-- A leadership that notes the grants of a majority, and read each of their fences often, is confirmed.
use Rattle.std.proofs.Common.{◌≡◌, ℕ, ◌+◌, ◌<◌, ◌≤◌, ◌==◌, ◌&&◌, Bool, true, false, cond, List, [], ◌∷◌, refl, ◌∙◌, ap, arith, subst, Some, ◌++◌, sym, eqb-true, true≢false}
use Rattle.std.specs.Prelude.{is_some, nat_le}
use Rattle.std.proofs.lemmas.Bool.{and_from, le-leb, leb-true}
use Rattle.mu_model.specs.declared.config.Config.{Config}
use Rattle.mu_model.specs.declared.event.Event.{Event}
use Rattle.mu_model.specs.Diligence.{is_confirmed}
use Rattle.mu_model.specs.Histories.{all_below, count_below, has, how_many, part, newest}
use Rattle.mu_model.specs.Leaderships.{begins_leadership, leadership, majority_of, noted_grant, fence_seen, grant_for, is_first_ask}
use Rattle.mu_model.specs.Steps.{is_fencing, is_asking_verb}
use Rattle.mu_model.proofs.Owned.{begins-own, noted-part, since-part}
use Rattle.mu_model.proofs.Scans.{all_at}
use Rattle.mu_agree.proofs.Counting.{count_more}
use Rattle.std.specs.declared.option.Option.{Option}
use Rattle.mu_model.specs.declared.event.Answer.{Answer}
use Rattle.mu_model.specs.declared.event.Verb.{Verb}
use Rattle.mu_model.specs.Allowed.{Needs}
use Rattle.mu_model.specs.Legal.{IsLegalHistory}
use Rattle.mu_model.specs.Regions.{fence, fence_owner}
use Rattle.mu_agree.proofs.Legal.{event_after, legal_onward}
use Rattle.mu_alive.specs.Turns.{AreInTurn}
use Rattle.mu_alive.proofs.TurnOwners.{IsHighest, StaysOpen, no_grant, stays_open, seen_again}
use Rattle.mu_alive.proofs.Turns.{not_begun}

-- the event is a read by a of the fence of p
abbrev pub reads_fence : ℕ → ℕ → Event → Bool
reads_fence a p e = is_fencing p e && (e.by == a)

-- reads of fences in the part are a's own
pub some_read : (a p : ℕ) (past : List Event) → 1 ≤ how_many (is_fencing p) (part a past) → has (reads_fence a p) past ≡ true
some_read a p [] some = absurd (omega (arith, some))
some_read a p (e ∷ past) some = go (is_fencing p e) refl (e.by == a) refl some (some_read a p past)
  where
    go : (t : Bool) → is_fencing p e ≡ t → (u : Bool) → (e.by == a) ≡ u → 1 ≤ how_many (is_fencing p) (cond u (e ∷ part a past) (part a past)) → (1 ≤ how_many (is_fencing p) (part a past) → has (reads_fence a p) past ≡ true) → cond (t && u) true (has (reads_fence a p) past) ≡ true
    go true ht true hu some ih = refl
    go true ht false hu some ih = ih some
    go false ht true hu some ih = ih (subst (λ x. 1 ≤ cond x (how_many (is_fencing p) (part a past) + 1) (how_many (is_fencing p) (part a past))) ht some)
    go false ht false hu some ih = ih some

-- so if each fence of a majority was read often, and the reads note the grants, a is confirmed
pub confirmed : (c : Config) (live : ℕ → Bool) (a : ℕ) (past : List Event) → a < c.replicas → live a ≡ true → majority_of c.replicas ≤ count_below c.replicas live
    → ((p : ℕ) → p < c.replicas → live p ≡ true → has (reads_fence a p) (leadership a past) ≡ true → is_some (noted_grant a p past) ≡ true)
    → all_below c.replicas (λ p. nat_le 16 (how_many (is_fencing p) (leadership a (part a past)))) ≡ true → is_confirmed c a (part a past) ≡ true
confirmed c live a past inside lives majority notes often =
    and_from (is_some (noted_grant a a (part a past))) (nat_le (majority_of c.replicas) (count_below c.replicas (λ p. is_some (noted_grant a p (part a past)))))
    (noted a inside lives)
    (le-leb (majority_of c.replicas) (count_below c.replicas (λ p. is_some (noted_grant a p (part a past)))) (let more = count_more c.replicas live (λ p. is_some (noted_grant a p (part a past))) noted in omega (arith, more, majority)))
  where
    noted : (p : ℕ) → p < c.replicas → live p ≡ true → is_some (noted_grant a p (part a past)) ≡ true
    noted p low lives =
        let many : 16 ≤ how_many (is_fencing p) (leadership a (part a past)) = leb-true 16 (how_many (is_fencing p) (leadership a (part a past))) (all_at c.replicas (λ p. nat_le 16 (how_many (is_fencing p) (leadership a (part a past)))) often p low) in
        let same = ap (how_many (is_fencing p)) (since-part (begins_leadership a) a (begins-own a) past) in
        let read = some_read a p (leadership a past) (omega (arith, many, same)) in
        ap is_some (noted-part a p past) ∙ notes p low lives read

-- a owns p, and once it read its fence in the leadership it notes a grant
pub record NotesSome (owner note : Option ℕ) (a : ℕ) (read : Bool) : Type 0 where
  pub owns : owner ≡ Some a
  pub noted : read ≡ true → is_some note ≡ true

abbrev pub NotesIt : ℕ → ℕ → List Event → Type 0
NotesIt a p past = NotesSome (fence_owner p past) (noted_grant a p past) a (has (reads_fence a p) (leadership a past))

abbrev pub NotesOwn : ℕ → ℕ → List Event → Type 0
NotesOwn a p past = AreInTurn past → IsHighest a past → NotesIt a p past

note_ask : (c : Config) (a p by q : ℕ) (past : List Event) → NotesIt a p past → (t : Bool) → is_first_ask a by (Verb.Ask q) ≡ t
    → NotesSome (fence_owner p past) (grant_for a (newest (λ e. fence_seen a p e.by e.verb e.answer) (cond t [] (event_after c past by (Verb.Ask q) ∷ leadership a past)))) a (has (reads_fence a p) (cond t [] (event_after c past by (Verb.Ask q) ∷ leadership a past)))
note_ask c a p by q past n true h = record { owns = n.owns; noted = λ none. absurd (true≢false (sym none)) }
note_ask c a p by q past n false h = record { owns = n.owns; noted = n.noted }

note_fence : (c : Config) (a p by q : ℕ) (past : List Event) → StaysOpen a p past → NotesIt a p past → (t : Bool) → (by == a) ≡ t → (u : Bool) → (q == p) ≡ u → NotesIt a p (event_after c past by (Verb.Fence q) ∷ past)
note_fence c a p by q past top n true ht true hu = rw (ht, hu) (record { owns = n.owns; noted = λ _. subst (λ x. is_some (grant_for a (Some (fence x past))) ≡ true) (sym (eqb-true q p hu)) (ap is_some (seen_again a p past top n.owns)) })
note_fence c a p by q past top n true ht false hu = rw (ht, hu) (record { owns = n.owns; noted = n.noted })
note_fence c a p by q past top n false ht true hu = rw (ht, hu) (record { owns = n.owns; noted = n.noted })
note_fence c a p by q past top n false ht false hu = rw (ht, hu) (record { owns = n.owns; noted = n.noted })

note_grant : (c : Config) (a p by w : ℕ) (past : List Event) → StaysOpen a p past → Needs c by (part by past) (Verb.Grant w) → NotesIt a p past → (t : Bool) → (by == p) ≡ t → NotesIt a p (event_after c past by (Verb.Grant w) ∷ past)
note_grant c a p by w past top may n true h = absurd (no_grant c a p by w past top may h n.owns)
note_grant c a p by w past top may n false h = rw h n

pub note_step : (c : Config) (a p by : ℕ) (v : Verb) (past : List Event) → StaysOpen a p past → Needs c by (part by past) v → NotesIt a p past → NotesIt a p (event_after c past by v ∷ past)
note_step c a p by (Verb.Ask q) past top may n = note_ask c a p by q past n (is_first_ask a by (Verb.Ask q)) refl
note_step c a p by (Verb.Fence q) past top may n = note_fence c a p by q past top n (by == a) refl (q == p) refl
note_step c a p by (Verb.Grant w) past top may n = note_grant c a p by w past top may n (by == p) refl
note_step c a p by v past top may n = record { owns = n.owns; noted = n.noted }

-- the first ask of a leadership
note_first : (a p by : ℕ) (verb : Verb) (answer : Answer) (past : List Event) → is_asking_verb 0 verb ≡ true → (by == a) ≡ true → fence_owner p past ≡ Some a → NotesOwn a p (record { by = by; verb = verb; answer = answer } ∷ past)
note_first a p by (Verb.Ask q) answer past asks own owns = λ turns high. rw (own, asks) (record { owns = owns; noted = λ none. absurd (true≢false (sym none)) })
note_first a p by verb answer past asks own owns = absurd (true≢false (sym asks))

pub notes_own : (c : Config) (a p : ℕ) (newer older : List Event) (first : Event) → is_asking_verb 0 first.verb ≡ true → (first.by == a) ≡ true → fence_owner p older ≡ Some a → IsLegalHistory c (newer ++ first ∷ older) → NotesOwn a p (newer ++ first ∷ older)
notes_own c a p newer older first asks own owns =
    legal_onward c (NotesOwn a p) (first ∷ older) (note_first a p first.by first.verb first.answer older asks own owns)
    (λ past by v legal may n turns high.
    let before : IsHighest a past = (λ w above. not_begun w (event_after c past by v) past (high w above)) in
    note_step c a p by v past (stays_open c a p past legal turns.0 before) may.may (n turns.0 before)) newer
