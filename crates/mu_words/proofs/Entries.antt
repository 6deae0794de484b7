-- Every field of every slot word is in its range.
use Rattle.std.proofs.Common.{◌≡◌, ℕ, zero, suc, ◌+◌, ◌/◌, ◌%◌, ◌<◌, ◌≤◌, inl, inr, Bool, true, false, cond, ◌==◌, List, [], ◌∷◌, refl, sym, ◌∙◌, ap, arith, Some, None, eqb-true, length, ◌++◌, set, length-set}
use Rattle.std.specs.declared.option.Option.{Option}
use Rattle.std.specs.List.{slice_get}
use Rattle.std.proofs.lemmas.Nat.{div_below}
use Rattle.mu_model.specs.declared.config.Config.{Config}
use Rattle.mu_model.specs.declared.event.Answer.{Answer}
use Rattle.mu_model.specs.declared.event.Event.{Event}
use Rattle.mu_model.specs.declared.event.Target.{Target}
use Rattle.mu_model.specs.declared.event.Verb.{Verb}
use Rattle.mu_model.specs.Allowed.{Needs}
use Rattle.mu_model.specs.Answers.{drained, put_answer}
use Rattle.mu_model.specs.Contents.{row_count}
use Rattle.mu_model.specs.Entering.{number_allowed}
use Rattle.mu_model.specs.Histories.{earlier_or, part}
use Rattle.mu_model.specs.Leaderships.{is_first_ask, proposal_number}
use Rattle.mu_model.specs.Legal.{IsLegalHistory}
use Rattle.mu_model.specs.Regions.{region_log}
use Rattle.mu_model.specs.Room.{reserve}
use Rattle.mu_agree.proofs.Legal.{legal_induction, event_after}
use Rattle.mu_agree.proofs.Numbers.{number-part}
use Rattle.mu_agree.proofs.Slots.{get_put, log_below, put_in'}
use Rattle.mu_words.specs.Standing.{content, entry_fields, place_fields_below}
use Rattle.mu_words.proofs.Limits.{Limits}
use Rattle.mu_words.proofs.Logs.{length_added}
use Rattle.mu_words.proofs.Ranges.{min_fits}
use Rattle.mu_words.proofs.Values.{log_small}
use Rattle.mu_model.proofs.Putting.{put_facts, min_facts}

-- numbers are at least 8
abbrev Least : ℕ → List Event → Type 0
Least r past = (m : ℕ) → proposal_number r past ≡ Some m → 8 ≤ m

least_case : (b m : ℕ) (o : Option ℕ) → (o ≡ None → 8 ≤ b) → ((m : ℕ) → o ≡ Some m → 8 ≤ m) → earlier_or (Some b) o ≡ Some m → 8 ≤ m
least_case b m None f g e = let i : b ≡ m = cc in let j = f refl in omega arith
least_case b m (Some x) f g e = g m e

least_of : (r : ℕ) (mine : List Event) (b : ℕ) (o : Option ℕ) → number_allowed r mine b o → o ≡ None → 8 ≤ b
least_of r mine b None h e = h.1
least_of r mine b (Some x) h e = cc

least_put : (c : Config) (r by q b : ℕ) (past : List Event) → Needs c by (part by past) (Verb.PutMin q b) → Least r past → (t : Bool) → (by == r) ≡ t → Least r (event_after c past by (Verb.PutMin q b) ∷ past)
least_put c r by q b past may s true k =
    rw k (λ m e. least_case b m (proposal_number r past) (λ n. least_of by (part by past) b (proposal_number by (part by past)) (min_facts c by (part by past) q b may).numbered (number-part by past ∙ ap (λ z. proposal_number z past) (eqb-true by r k) ∙ n)) s e)
least_put c r by q b past may s false k = rw k s

least_ask : (c : Config) (r by q : ℕ) (past : List Event) → Least r past → (t : Bool) → is_first_ask r by (Verb.Ask q) ≡ t → Least r (event_after c past by (Verb.Ask q) ∷ past)
least_ask c r by q past s true h = rw h (λ m e. cc)
least_ask c r by q past s false h = rw h s

least_step : (c : Config) (r by : ℕ) (v : Verb) (past : List Event) → Needs c by (part by past) v → Least r past → Least r (event_after c past by v ∷ past)
least_step c r by (Verb.Ask q) past may s = least_ask c r by q past s (is_first_ask r by (Verb.Ask q)) refl
least_step c r by (Verb.PutMin q b) past may s = least_put c r by q b past may s (by == r) refl
least_step c r by v past may s = s

pub least : (c : Config) (r : ℕ) (past : List Event) → IsLegalHistory c past → Least r past
least c r = legal_induction c (Least r) (λ m e. cc) (λ past by v h may s. least_step c r by v past may.may s)

-- entries have numbers from 8 on, and the log is no longer than the positions
pub record LogFits (log : List (ℕ × ℕ)) : Type 0 where
  pub numbers : (i : ℕ) (y : ℕ × ℕ) → slice_get log i ≡ Some y → 8 ≤ y.0
  pub most : length log ≤ 1508

length_put_most : (log : List (ℕ × ℕ)) (i : ℕ) (z : ℕ × ℕ) → length log ≤ 1508 → i ≤ 1507 → length (put_in' log i z) ≤ 1508
length_put_most log i z h k = go (i == length log) refl
  where
    go : (t : Bool) → (i == length log) ≡ t → length (cond t (log ++ z ∷ []) (set log i z)) ≤ 1508
    go true e = let n = length_added log z in let m = eqb-true i (length log) e in omega arith
    go false e = let n = length-set log i z in omega arith

log_put : (c : Config) (p by q i b v : ℕ) (past : List Event) → Limits c → IsLegalHistory c past → Needs c by (part by past) (Verb.PutSlot q i b v) → LogFits (region_log p past) → (a : Answer) → (y : Bool) → (q == p) ≡ y
    → LogFits (region_log p (record { by = by; verb = Verb.PutSlot q i b v; answer = a } ∷ past))
log_put c p by q i b v past l h may s Answer.Done true hy =
    rw hy (record {
      numbers = λ j y k. elim (get_put (region_log p past) i j (b, v) y k) [
        | inl m ↦ s.numbers j y m
        | inr m ↦ (let n = least c by past h b (sym (number-part by past) ∙ (put_facts c by (part by past) q i b v may).numbered) in let o : y.0 ≡ b = ap (λ z. z.0) m.1 in omega arith)
      ];
      most = length_put_most (region_log p past) i (b, v) s.most (position_most c i l may.1.0);
    })
  where
    position_most : (c : Config) (i : ℕ) → Limits c → i ≤ row_count c + reserve c → i ≤ 1507
    position_most c i l h = go (c.version == 2) h
      where
        go : (t : Bool) → i ≤ row_count c + cond t c.replicas 0 → i ≤ 1507
        go true h = let j = l.commands in let k = l.replicas in omega arith
        go false h = let j = l.commands in omega arith
log_put c p by q i b v past l h may s Answer.Done false hy = rw hy s
log_put c p by q i b v past l h may s a y hy = s

log_step : (c : Config) (p by : ℕ) (v : Verb) (past : List Event) → Limits c → IsLegalHistory c past → Needs c by (part by past) v → LogFits (region_log p past) → LogFits (region_log p (event_after c past by v ∷ past))
log_step c p by (Verb.PutSlot q i b v) past l h may s = log_put c p by q i b v past l h may s (put_answer (drained by q past)) (q == p) refl
log_step c p by v past l h may s = s

pub log_fits : (c : Config) (p : ℕ) (past : List Event) → Limits c → IsLegalHistory c past → LogFits (region_log p past)
log_fits c p past l h = legal_induction c (λ past. LogFits (region_log p past)) (record { numbers = λ i y e. cc; most = omega arith }) (λ past by v h may s. log_step c p by v past l h may.may s) past h

pub record EntryFits (y : ℕ × ℕ) : Type 0 where
  pub least : 8 ≤ y.0
  pub number : y.0 < 8388608
  pub value : y.1 < 32768

pub entry_fits : (c : Config) (p : ℕ) (past : List Event) → Limits c → IsLegalHistory c past → (i : ℕ) (y : ℕ × ℕ) → slice_get (region_log p past) i ≡ Some y → EntryFits y
entry_fits c p past l h i y e = record {
  least = (log_fits c p past l h).numbers i y e;
  number = (let a = log_below c p past h i y e in let b = min_fits c p past l h in omega arith);
  value = (let a = log_small c p past l h i y e in omega arith);
}

pub lap_fits : (c : Config) (i : ℕ) → Limits c → i < 4096 → i / c.ring < 512
lap_fits c i l h = let r = l.ring_least in div_below i c.ring 512 (omega arith) (omega arith)

entry_below : (c : Config) (i : ℕ) (o : Option (ℕ × ℕ)) → Limits c → i < 4096 → ((y : ℕ × ℕ) → o ≡ Some y → EntryFits y) → entry_fields c.ring i o < 140737488355328
entry_below c i None l h f = omega arith
entry_below c i (Some y) l h f = let a = f y refl in let b = a.number in let d = a.value in let e = lap_fits c i l h in omega arith

shown_fits : (c : Config) (p s : ℕ) (past : List Event) → Limits c → IsLegalHistory c past → (k : ℕ) → k ≤ 4096 → place_fields_below c.ring s (region_log p past) k < 140737488355328
shown_fits c p s past l h zero m = omega arith
shown_fits c p s past l h (suc k) m = go (k % c.ring == s) (shown_fits c p s past l h k (omega arith))
  where
    go : (t : Bool) → place_fields_below c.ring s (region_log p past) k < 140737488355328 → cond t (entry_fields c.ring k (slice_get (region_log p past) k)) (place_fields_below c.ring s (region_log p past) k) < 140737488355328
    go true i = entry_below c k (slice_get (region_log p past) k) l (omega arith) (λ y e. entry_fits c p past l h k y e)
    go false i = i

-- what stands below the stamp is below the lowest bit of the stamp
pub content_fits : (c : Config) (p : ℕ) (t : Target) (past : List Event) → Limits c → IsLegalHistory c past → content c p t past < 140737488355328
content_fits c p Target.None past l h = omega arith
content_fits c p Target.Min past l h = let k = min_fits c p past l h in omega arith
content_fits c p (Target.Place s) past l h = shown_fits c p s past l h (length (region_log p past)) (let k = (log_fits c p past l h).most in omega arith)
