-- A background event alongside the leader leaves the room of each count.
use Rattle.std.proofs.Common.{◌≡◌, ℕ, ◌*◌, Bool, true, false, ◌&&◌, List, ◌∷◌, length, refl, sym, ◌∙◌, ap, arith, Some, None, true≢false}
use Rattle.std.specs.Prelude.{if◌then◌else◌, nat_lt, not, ◌||◌}
use Rattle.std.proofs.lemmas.Bool.{ltb-true}
use Rattle.mu_model.specs.declared.config.Config.{Config}
use Rattle.mu_model.specs.declared.event.Answer.{Answer}
use Rattle.mu_model.specs.declared.event.Event.{Event}
use Rattle.mu_model.specs.declared.event.Verb.{Verb}
use Rattle.mu_model.specs.Bounds.{members}
use Rattle.mu_model.specs.Diligence.{is_milestone}
use Rattle.mu_model.specs.Knowledge.{commits}
use Rattle.mu_model.specs.Leaderships.{has_begun, is_member}
use Rattle.mu_model.specs.Steps.{commits_more, is_lagging, is_missed_at}
use Rattle.mu_model.specs.Stretches.{is_replication}
use Rattle.mu_model.specs.Histories.{event_by}
use Rattle.mu_pace.specs.Beside.{BesideKeepsRooms, Keeps, KeepsRooms, is_beside}
use Rattle.mu_pace.specs.Counters.{HasRoom, Watch, allowed_after}
use Rattle.mu_pace.specs.Watches.{advancing, asking_after, bringing_up, confirming, explaining, falls_behind, is_confirming, is_welcoming, joining, limit, limit_now, progressing, raising}
use Rattle.mu_pace.proofs.Counting.{allowed_now, opened}
use Rattle.mu_pace.proofs.Rooms.{kinds_of_step}
use Rattle.mu_pace.proofs.Pasts.{and_false}

pub not_more : (n : ℕ) → nat_lt n n ≡ false
not_more n = go (nat_lt n n) refl
  where
    go : (t : Bool) → nat_lt n n ≡ t → t ≡ false
    go true h = absurd (let l = ltb-true n n h in omega arith)
    go false h = refl

-- what a count of such an event needs: nothing new is allowed
pub unallowed : (test : List Event → Event → Bool) (amount : List Event → ℕ) (past : List Event) (e : Event) → test past e ≡ false → allowed_after test amount (e ∷ past) ≡ None
unallowed test amount past e h = go (test past e) h
  where
    go : (t : Bool) → t ≡ false → (if t then Some (amount (e ∷ past)) else None) ≡ None
    go true h = absurd (true≢false h)
    go false h = refl

keeps : (w : Watch) (past : List Event) (e : Event) → w.counts past e ≡ false → w.allows (e ∷ past) ≡ None → Keeps w past e
keeps w past e f n weight h = kinds_of_step.stays w weight weight past e n f (omega arith) h

-- tests that such an event fails, and the members that it leaves
pub record IsQuiet (c : Config) (r : ℕ) (past : List Event) (e : Event) : Type 0 where
  pub commits : commits_more c r past e ≡ false
  pub milestone : is_replication past e ≡ false → is_milestone c r past e ≡ false
  pub confirming : is_confirming c r past e ≡ false
  pub welcoming : (p : ℕ) → is_welcoming c r p past e ≡ false
  pub behind : (p : ℕ) → falls_behind c r p past e ≡ false
  pub missed : (p : ℕ) → is_missed_at p e ≡ false
  pub member : (p : ℕ) → is_member r p (e ∷ past) ≡ is_member r p past
  pub members : members c r (e ∷ past) ≡ members c r past

pub no_milestone : (c : Config) (r : ℕ) (past : List Event) (e : Event) → (more turn lag : Bool) → more ≡ false → turn ≡ false → (false || (more || (turn && lag))) ≡ false
no_milestone c r past e more turn lag a b = rw (a, b) refl

pub quiet : (c : Config) (r : ℕ) (past : List Event) (by : ℕ) (v : Verb) (a : Answer) → is_beside v ≡ true → IsQuiet c r past (event_by by v a)
quiet c r past by (Verb.Ask p) a h = absurd (true≢false (sym h))
quiet c r past by (Verb.Fence p) a h = absurd (true≢false (sym h))
quiet c r past by (Verb.Min p) a h = absurd (true≢false (sym h))
quiet c r past by (Verb.Enter p t) a h = absurd (true≢false (sym h))
quiet c r past by (Verb.PutMin p b) a h = absurd (true≢false (sym h))
quiet c r past by (Verb.Look p i) a h = absurd (true≢false (sym h))
quiet c r past by (Verb.PutSlot p i b v) a h = absurd (true≢false (sym h))
quiet c r past by v a h = record {
  commits = not_more (length (commits c r past));
  milestone = λ t. no_milestone c r past (event_by by v a) (commits_more c r past (event_by by v a)) (is_replication past (event_by by v a)) (is_lagging c r past (event_by by v a)) (not_more (length (commits c r past))) t;
  confirming = and_false (has_begun r past);
  welcoming = λ p. refl;
  behind = λ p. refl;
  missed = λ p. refl;
  member = λ p. refl;
  members = refl;
}

-- a late follower may be waited for as long as before
pub asked_on : (c : Config) (r p : ℕ) (past : List Event) (e : Event) → is_replication past e ≡ false → is_member r p (e ∷ past) ≡ is_member r p past → members c r (e ∷ past) ≡ members c r past → Keeps (asking_after c r p) past e
asked_on c r p past e t m n weight h = go (is_member r p past) refl
  where
    go : (b : Bool) → is_member r p past ≡ b → HasRoom (asking_after c r p) weight (e ∷ past)
    go true k = kinds_of_step.stays (asking_after c r p) weight weight past e (none (is_member r p (e ∷ past)) (m ∙ k)) t (omega arith) h
      where
        none : (b : Bool) → b ≡ true → (if not b then Some (2 * limit_now c r (e ∷ past)) else None) ≡ None
        none true k = refl
        none false k = absurd (true≢false (sym k))
    go false k =
        let before = opened (asking_after c r p) (2 * limit_now c r past) past (allowed_now (λ now. not (is_member r p now)) (λ now. 2 * limit_now c r now) past (ap not k)) in
        let low = h before.left before.is in let few = before.few in
        let same : limit_now c r (e ∷ past) ≡ limit_now c r past = ap (limit c) n in
        kinds_of_step.opens_beside (asking_after c r p) (2 * limit_now c r (e ∷ past)) weight weight past e
        (allowed_now (λ now. not (is_member r p now)) (λ now. 2 * limit_now c r now) (e ∷ past) (ap not (m ∙ k))) (omega arith) t (omega arith) h

pub beside_keeps : BesideKeepsRooms
beside_keeps c r past e t b = keeps_all (quiet c r past e.by e.verb e.answer b)
  where
    keeps_all : IsQuiet c r past e → KeepsRooms c r past e
    keeps_all q = record {
      progressing = keeps (progressing c r) past e t (unallowed (is_milestone c r) (limit_now c r) past e (q.milestone t));
      advancing = keeps (advancing c r) past e t (unallowed (is_milestone c r) (limit_now c r) past e (q.milestone t));
      explaining = λ p. keeps (explaining c r p) past e t (unallowed (λ before f. is_missed_at p f) (λ now. 1) past e (q.missed p));
      confirming = keeps (confirming c r) past e t (unallowed (is_confirming c r) (λ now. c.replicas) past e q.confirming);
      raising = λ p. keeps (raising c r p) past e t (unallowed (λ before f. commits_more c r before f && is_member r p (f ∷ before)) (members c r) past e (ap (λ z. z && is_member r p (e ∷ past)) q.commits));
      asking_after = λ p. asked_on c r p past e t (q.member p) q.members;
      joining = λ p. keeps (joining c r p) past e t (unallowed (is_welcoming c r p) (λ now. 4) past e (q.welcoming p));
      bringing_up = λ p. keeps (bringing_up c r p) past e t (unallowed (falls_behind c r p) (limit_now c r) past e (q.behind p));
    }
