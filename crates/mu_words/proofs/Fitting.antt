-- Every word that stands, and every field of an allowed verb, is in its range.
use Rattle.std.proofs.Common.{◌≡◌, ℕ, ◌+◌, ◌*◌, ◌/◌, ◌%◌, ◌<◌, ◌≤◌, Bool, true, false, cond, ◌==◌, List, ◌∷◌, refl, sym, ◌∙◌, arith, subst, eqb-true}
use Rattle.std.proofs.lemmas.Nat.{mod_below}
use Rattle.mu_model.specs.declared.config.Config.{Config}
use Rattle.mu_model.specs.declared.event.Answer.{Answer}
use Rattle.mu_model.specs.declared.event.Event.{Event}
use Rattle.mu_model.specs.declared.event.Target.{Target}
use Rattle.mu_model.specs.declared.event.Verb.{Verb}
use Rattle.mu_model.specs.Allowed.{Allowed, Needs}
use Rattle.mu_model.specs.Answers.{entered_or_lost}
use Rattle.mu_model.specs.Contents.{row_count}
use Rattle.mu_model.specs.Histories.{part}
use Rattle.mu_model.specs.Leaderships.{noted_grant, proposal_number}
use Rattle.mu_model.specs.Legal.{IsLegalHistory}
use Rattle.mu_model.specs.Regions.{fence, fence_target}
use Rattle.mu_model.specs.Room.{reserve}
use Rattle.mu_model.proofs.Budgets.{short_history, part_within_budget}
use Rattle.mu_agree.proofs.Legal.{legal_induction, event_after}
use Rattle.mu_agree.proofs.Minimum.{top_is}
use Rattle.mu_agree.proofs.Numbers.{number-part, greatest_own_put}
use Rattle.mu_words.specs.declared.layout.Layout.{Layout}
use Rattle.mu_words.specs.declared.layout.Name.{Name}
use Rattle.mu_words.specs.Places.{IsLayoutOf, IsName}
use Rattle.mu_words.specs.Founds.{IsInRing}
use Rattle.mu_words.specs.Standing.{standing_word, content, stamp, close_target}
use Rattle.mu_words.specs.Finding.{name_of}
use Rattle.mu_words.specs.Verbs.{VerbFits, WordFits, target_name}
use Rattle.mu_words.proofs.Prepared.{enter_ring}
use Rattle.mu_words.proofs.Limits.{Limits}
use Rattle.mu_words.proofs.Others.{close_target-part}
use Rattle.mu_words.proofs.Fences.{enter_fits}
use Rattle.mu_words.proofs.Ranges.{stamps_within, beats_within, asks_within, next_below, top_below_highest, highest_below}
use Rattle.mu_words.proofs.Entries.{content_fits, lap_fits}
use Rattle.mu_words.proofs.Values.{put_small}
use Rattle.mu_words.proofs.Loading.{drain_target, named_word}
use Rattle.mu_model.proofs.Putting.{put_facts, min_facts}

position_below : (c : Config) (i : ℕ) → Limits c → i ≤ row_count c + reserve c → i < 4096
position_below c i l h = go (c.version == 2) h
  where
    go : (t : Bool) → i ≤ row_count c + cond t c.replicas 0 → i < 4096
    go true h = let j = l.commands in let k = l.replicas in omega arith
    go false h = let j = l.commands in omega arith

-- the fields of an allowed verb
pub verb_fits : (c : Config) (past : List Event) (r : ℕ) (v : Verb) → Limits c → IsLegalHistory c past → Allowed c r (part r past) v → VerbFits c.ring v
verb_fits c past r (Verb.Enter p t) l h may = enter_fits c r (part r past) p t l may.may.1
verb_fits c past r (Verb.PutMin p b) l h may =
    let m = may.replica in let n = l.replicas in
    let k = next_below c r b past h (omega arith) (highest_below c past l h) (proposal_number r (part r past)) refl (min_facts c r (part r past) p b may.may).numbered in
    let d = short_history c past h l.replicas (let m = l.budget in omega arith) in
    omega arith
verb_fits c past r (Verb.PutSlot p i b v) l h may =
    let m = may.replica in let n = l.replicas in
    let t : greatest_own_put r past ≡ b = top_is c r past h b (sym (number-part r past) ∙ (put_facts c r (part r past) p i b v may.may).numbered) in
    let k = top_below_highest c r past h in
    let e = highest_below c past l h in
    let d = short_history c past h l.replicas (let m = l.budget in omega arith) in
    let s = put_small c r p i b v past l h may.may in
    (lap_fits c i l (position_below c i l may.may.1.0), omega arith, omega arith)
verb_fits c past r (Verb.Grant w) l h may = let i = l.replicas in let j = may.may.0 in omega arith
verb_fits c past r v l h may = tt

-- the word that an allowed step finds leaves room for it
drain_room : (st old w : ℕ) → w ≡ st * 140737488355328 + old → old < 140737488355328 → st < 131071 → w / 140737488355328 < 131071
drain_room st old w e h g = omega (arith, e)

pub word_fits : (c : Config) (past : List Event) (r : ℕ) (v : Verb) → Limits c → IsLegalHistory c past → Allowed c r (part r past) v → WordFits v (standing_word c past (name_of c r (part r past) v))
word_fits c past r (Verb.Ask p) l h may = let a = asks_within r p past in let b = part_within_budget c r past h in let d = l.budget in omega arith
word_fits c past r Verb.Beat l h may = let a = beats_within r past in let b = part_within_budget c r past h in let d = l.budget in omega arith
word_fits c past r Verb.Drain l h may =
    let t = close_target r past in
    let k = drain_target r past may.may.0 in
    let a = stamps_within c r t past in let b = may.budget in let d = l.budget in
    subst (λ z. standing_word c past (target_name r z) / 140737488355328 < 131071) (sym (close_target-part r past))
    (drain_room (stamp c r t past) (content c r t past) (standing_word c past (target_name r t)) (named_word c r t past k.1) (content_fits c r t past l h) (omega arith))
word_fits c past r v l h may = tt

-- the target of a fence is a place of the ring
abbrev RingTargets : Config → ℕ → List Event → Type 0
RingTargets c p past = IsInRing c.ring (fence_target p past) × IsInRing c.ring (close_target p past)

ring_enter : (c : Config) (p by q : ℕ) (t : Target) (past : List Event) → IsInRing c.ring t → RingTargets c p past → (a : Answer) → (y : Bool) → (q == p) ≡ y → RingTargets c p (record { by = by; verb = Verb.Enter q t; answer = a } ∷ past)
ring_enter c p by q t past h s Answer.Entered true k = rw k (h, s.1)
ring_enter c p by q t past h s Answer.Entered false k = rw k s
ring_enter c p by q t past h s a y k = s

ring_close : (c : Config) (p by : ℕ) (past : List Event) → RingTargets c p past → (y : Bool) → (by == p) ≡ y → RingTargets c p (event_after c past by Verb.Close ∷ past)
ring_close c p by past s true k = rw k (s.0, subst (λ z. IsInRing c.ring (fence_target z past)) (sym (eqb-true by p k)) s.0)
ring_close c p by past s false k = rw k s

ring_grant : (c : Config) (p by w : ℕ) (past : List Event) → RingTargets c p past → (y : Bool) → (by == p) ≡ y → RingTargets c p (event_after c past by (Verb.Grant w) ∷ past)
ring_grant c p by w past s true k = rw k (tt, s.1)
ring_grant c p by w past s false k = rw k s

ring_step : (c : Config) (p by : ℕ) (v : Verb) (past : List Event) → Needs c by (part by past) v → RingTargets c p past → RingTargets c p (event_after c past by v ∷ past)
ring_step c p by (Verb.Enter q t) past may s = ring_enter c p by q t past (enter_ring c by (part by past) q t may.1) s (entered_or_lost (noted_grant by q past) (fence q past)) (q == p) refl
ring_step c p by Verb.Close past may s = ring_close c p by past s (by == p) refl
ring_step c p by (Verb.Grant w) past may s = ring_grant c p by w past s (by == p) refl
ring_step c p by v past may s = s

pub ring_targets : (c : Config) (p : ℕ) (past : List Event) → IsLegalHistory c past → RingTargets c p past
ring_targets c p = legal_induction c (RingTargets c p) (tt, tt) (λ past by v h may s. ring_step c p by v past may.may s)

-- the place of an allowed step is one of the table
pub target_named : (c : Config) (l : Layout) (r : ℕ) (t : Target) → IsLayoutOf c l → r < c.replicas → IsInRing c.ring t → IsName l (target_name r t)
target_named c l r Target.None f h g = let k = f.replicas in omega arith
target_named c l r Target.Min f h g = let k = f.replicas in omega arith
target_named c l r (Target.Place s) f h g = let k = f.replicas in let m = f.ring in (omega arith, omega arith)

pub slot_named : (c : Config) (l : Layout) (p i : ℕ) → Limits c → IsLayoutOf c l → p < c.replicas → IsName l (Name.Slot p (i % c.ring))
slot_named c l p i li f h = let k = f.replicas in let m = f.ring in let n = li.ring_least in let o = mod_below i c.ring (omega arith) in (omega arith, omega arith)

pub region_named : (c : Config) (l : Layout) (p : ℕ) → IsLayoutOf c l → p < c.replicas → p < l.replicas
region_named c l p f h = let k = f.replicas in omega arith

pub row_named : (c : Config) (l : Layout) (r j k : ℕ) → IsLayoutOf c l → r < c.replicas → j < row_count c → k < 12 → IsName l (Name.Row r j k)
row_named c l r j k f h g m = let n = f.replicas in let o = f.rows in (omega arith, omega arith, m)
