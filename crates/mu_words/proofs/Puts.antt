-- The law of word steps for minima, puts and drains.
use Rattle.std.proofs.Common.{◌≡◌, ℕ, ◌+◌, ◌*◌, ◌%◌, ◌<◌, Bool, true, false, cond, not, ◌==◌, List, ◌∷◌, refl, sym, ◌∙◌, ap, arith, subst}
use Rattle.std.proofs.lemmas.Bool.{ne_eqb}
use Rattle.mu_model.specs.declared.config.Config.{Config}
use Rattle.mu_model.specs.declared.event.Answer.{Answer}
use Rattle.mu_model.specs.declared.event.Event.{Event}
use Rattle.mu_model.specs.declared.event.Target.{Target}
use Rattle.mu_model.specs.declared.event.Verb.{Verb}
use Rattle.mu_model.specs.Allowed.{Needs}
use Rattle.mu_model.specs.Answers.{drained, put_answer}
use Rattle.mu_model.specs.Histories.{part}
use Rattle.mu_model.specs.Legal.{IsLegalHistory}
use Rattle.mu_model.specs.Regions.{region_min}
use Rattle.mu_model.specs.Serving.{has_target}
use Rattle.mu_model.proofs.Basics.{same_number}
use Rattle.mu_agree.proofs.Access.{drained_since-part, open_target-part}
use Rattle.mu_agree.proofs.Entering.{slot_entered}
use Rattle.mu_words.specs.Standing.{standing_word, content, stamp, target_word, leaves, fields, changed_since_look, close_target, drain_took}
use Rattle.mu_words.specs.Finding.{kept, loaded, sights}
use Rattle.mu_words.specs.Steps.{event_of, StepsByWord}
use Rattle.mu_words.specs.Verbs.{target_name, with_content}
use Rattle.mu_words.proofs.Limits.{Limits}
use Rattle.mu_words.proofs.Others.{others_keep, close_target-part}
use Rattle.mu_words.proofs.Tracking.{kept_in_history, kept_is_in_history, loaded_load}
use Rattle.mu_words.proofs.Ranges.{min_fits}
use Rattle.mu_words.proofs.Entries.{content_fits}
use Rattle.mu_words.proofs.Contents.{or_old, content_after, put_tie, looked_of}
use Rattle.mu_words.proofs.MinTies.{min_tie}
use Rattle.mu_words.proofs.Loading.{loading, named_word, drain_target, LoadedWord}
use Rattle.mu_words.proofs.Stamps.{min_outdated, place_outdated, looked_since_close-part, same_self}
use Rattle.mu_model.proofs.Putting.{put_facts, min_facts}

pub min_step : (c : Config) (past : List Event) (r p : ℕ) → Limits c → IsLegalHistory c past → StepsByWord c r past (Verb.Min p)
min_step c past r p l h =
    let k = min_fits c p past l h in
    let e : (stamp c p Target.Min past * 140737488355328 + region_min p past) % 8388608 ≡ region_min p past = omega arith in
    record { answer = ap Answer.Number e; here = refl; others = others_keep c past r (Verb.Min p) }

-- an exchange by the same stamp takes exactly if no drain came since
record PutNumbers (x w new y : ℕ) (d : Bool) : Type 0 where
  answers : cond (x == w) Answer.Done Answer.Missed ≡ put_answer d
  leaves_word : new ≡ cond (x == w) (with_content x y) w

put_numbers : (st old now y x : ℕ) (d : Bool) → old < 140737488355328 → (d ≡ false → (x ≡ st * 140737488355328 + old) × (now ≡ y)) → (d ≡ true → (x < st * 140737488355328) × (now ≡ old))
    → PutNumbers x (st * 140737488355328 + old) (st * 140737488355328 + now) y d
put_numbers st old now y x false h f g =
    let k = f refl in
    record {
      answers = rw (k.0, same_number (st * 140737488355328 + old)) refl;
      leaves_word = rw (k.0, same_number (st * 140737488355328 + old)) (let i = k.1 in omega arith);
    }
put_numbers st old now y x true h f g =
    let k = g refl in
    let n : (x == st * 140737488355328 + old) ≡ false = ne_eqb x (st * 140737488355328 + old) (λ e. let i = k.0 in omega (arith, e)) in
    record {
      answers = rw n refl;
      leaves_word = rw n (ap (λ z. st * 140737488355328 + z) k.1);
    }

pub put_min_step : (c : Config) (past : List Event) (r p b : ℕ) → Limits c → IsLegalHistory c past → Needs c r (part r past) (Verb.PutMin p b) → StepsByWord c r past (Verb.PutMin p b)
put_min_step c past r p b l h may =
    let ev = event_of c r past (Verb.PutMin p b) in
    let o = sym (open_target-part r p past) ∙ (min_facts c r (part r past) p b may).entered in
    let x : (kept c p Target.Min (sights c r past)).1 ≡ (kept_in_history c r p Target.Min past).1 = ap (λ k. k.1) (kept_is_in_history c r p Target.Min past) in
    let after : region_min p (ev ∷ past) ≡ or_old (leaves c p Target.Min (Verb.PutMin p b) (put_answer (drained r p past))) (region_min p past) = content_after c p r Target.Min (Verb.PutMin p b) past l h may in
    let n = put_numbers (stamp c p Target.Min past) (region_min p past) (region_min p (ev ∷ past)) b ((kept c p Target.Min (sights c r past)).1) (drained r p past) (let k = min_fits c p past l h in omega arith)
    (λ d. (x ∙ (min_tie c r p past l h).1 o d, after ∙ ap (λ t. or_old (leaves c p Target.Min (Verb.PutMin p b) (put_answer t)) (region_min p past)) d ∙ rw (same_number p) refl))
    (λ d. (subst (λ z. z < stamp c p Target.Min past * 140737488355328) (sym x) (min_outdated c r p past l h o d), after ∙ ap (λ t. or_old (leaves c p Target.Min (Verb.PutMin p b) (put_answer t)) (region_min p past)) d)) in
    record { answer = n.answers; here = n.leaves_word; others = others_keep c past r (Verb.PutMin p b) }

pub put_slot_step : (c : Config) (past : List Event) (r p i b v : ℕ) → Limits c → IsLegalHistory c past → Needs c r (part r past) (Verb.PutSlot p i b v) → StepsByWord c r past (Verb.PutSlot p i b v)
put_slot_step c past r p i b v l h may =
    let ev = event_of c r past (Verb.PutSlot p i b v) in
    let t = Target.Place (i % c.ring) in
    let o = sym (open_target-part r p past) ∙ slot_entered c r p i b v (part r past) (put_facts c r (part r past) p i b v may) in
    let x : (kept c p t (sights c r past)).1 ≡ (kept_in_history c r p t past).1 = ap (λ k. k.1) (kept_is_in_history c r p t past) in
    let after : content c p t (ev ∷ past) ≡ or_old (leaves c p t (Verb.PutSlot p i b v) (put_answer (drained r p past))) (content c p t past) = content_after c p r t (Verb.PutSlot p i b v) past l h may in
    let n = put_numbers (stamp c p t past) (content c p t past) (content c p t (ev ∷ past)) (fields c.ring i b v) ((kept c p t (sights c r past)).1) (drained r p past) (content_fits c p t past l h)
    (λ d. (x ∙ (put_tie c r p i b v past h may d).is, after ∙ ap (λ z. or_old (leaves c p t (Verb.PutSlot p i b v) (put_answer z)) (content c p t past)) d ∙ rw (same_number p, same_number (i % c.ring)) refl))
    (λ d. (subst (λ z. z < stamp c p t past * 140737488355328) (sym x) (place_outdated c r p i past l h o d (looked_of c r p i b v past may)), after ∙ ap (λ z. or_old (leaves c p t (Verb.PutSlot p i b v) (put_answer z)) (content c p t past)) d)) in
    record { answer = n.answers; here = n.leaves_word; others = others_keep c past r (Verb.PutSlot p i b v) }

-- the exchange of a `Drain`
drain_numbers : (st old now x w : ℕ) (ch took : Bool) → w ≡ st * 140737488355328 + old → now ≡ old → took ≡ not ch → LoadedWord ch x (st * 140737488355328 + old)
    → cond took (st + 1) st * 140737488355328 + now ≡ cond (x == w) (x + 140737488355328) w
drain_numbers st old now x w true took e f g s = rw (g, ne_eqb x w (λ k. s.1 refl (k ∙ e))) (omega (arith, e, f))
drain_numbers st old now x w false took e f g s = rw (g, s.0 refl ∙ sym e, same_number w) (omega (arith, e, f))

took_is : (c : Config) (r : ℕ) (past : List Event) → has_target (close_target r past) ≡ true → drain_took c r (close_target r past) past r Verb.Drain ≡ not (changed_since_look c r past)
took_is c r past h = rw (same_number r, same_self (close_target r past) h) refl

pub drain_step : (c : Config) (past : List Event) (r : ℕ) → Limits c → IsLegalHistory c past → Needs c r (part r past) Verb.Drain → StepsByWord c r past Verb.Drain
drain_step c past r l h may =
    let ev = event_of c r past Verb.Drain in
    let t = close_target r past in
    let k = drain_target r past may.0 in
    let x = loaded_load c r past in
    let s = loading c r past l h k.0 (sym (looked_since_close-part r past) ∙ may.1.0) (sym (drained_since-part r past) ∙ may.1.1.0) in
    let n = drain_numbers (stamp c r t past) (content c r t past) (content c r t (ev ∷ past)) (loaded (sights c r past)) (standing_word c past (target_name r t)) (changed_since_look c r past) (drain_took c r t past r Verb.Drain)
    (named_word c r t past k.1) (content_after c r r t Verb.Drain past l h may) (took_is c r past k.1)
    (subst (λ z. LoadedWord (changed_since_look c r past) z (target_word c r t past)) (sym x) s) in
    record {
      answer = refl;
      here = subst (λ z. standing_word c (ev ∷ past) (target_name r z) ≡ cond (loaded (sights c r past) == standing_word c past (target_name r z)) (loaded (sights c r past) + 140737488355328) (standing_word c past (target_name r z)))
          (sym (close_target-part r past)) (named_word c r t (ev ∷ past) k.1 ∙ n);
      others = others_keep c past r Verb.Drain;
    }
