-- The law of word steps, and the places of all steps.
use Rattle.std.proofs.Common.{◌≡◌, ℕ, ◌%◌, ◌/◌, List, ◌∷◌, refl, subst, sym}
use Rattle.mu_model.specs.declared.config.Config.{Config}
use Rattle.mu_model.specs.declared.event.Event.{Event}
use Rattle.mu_model.specs.declared.event.Target.{Target}
use Rattle.mu_model.specs.declared.event.Verb.{Verb}
use Rattle.mu_model.specs.Allowed.{Allowed}
use Rattle.mu_model.specs.Histories.{part}
use Rattle.mu_model.specs.Legal.{IsLegalHistory}
use Rattle.mu_model.proofs.Basics.{same_number}
use Rattle.mu_words.specs.declared.layout.Layout.{Layout}
use Rattle.mu_words.specs.Finding.{name_of}
use Rattle.mu_words.specs.Places.{IsLayoutOf, IsName}
use Rattle.mu_words.specs.Standing.{close_target, standing_word}
use Rattle.mu_words.specs.Steps.{StepsByWord, WordSteps, event_of}
use Rattle.mu_words.specs.Verbs.{target_name}
use Rattle.mu_words.proofs.Entering.{enter_step}
use Rattle.mu_words.proofs.Fences.{fence_step, close_step, grant_step}
use Rattle.mu_words.proofs.Fitting.{region_named, ring_targets, row_named, slot_named, target_named}
use Rattle.mu_words.proofs.Limits.{Limits, config_is_limited}
use Rattle.mu_words.proofs.LookWords.{look_step}
use Rattle.mu_words.proofs.Others.{close_target-part, others_keep}
use Rattle.mu_words.proofs.Puts.{min_step, put_min_step, put_slot_step, drain_step}

-- a `LookTarget` leaves its word
target_stays : (c : Config) (past : List Event) (r p : ℕ) (t : Target) → standing_word c (event_of c r past Verb.LookTarget ∷ past) (target_name p t) ≡ standing_word c past (target_name p t)
target_stays c past r p Target.None = refl
target_stays c past r p Target.Min = refl
target_stays c past r p (Target.Place s) = refl

-- the last clause is of loads of numbers
step : (c : Config) (past : List Event) (r : ℕ) (v : Verb) → Limits c → IsLegalHistory c past → Allowed c r (part r past) v → StepsByWord c r past v
step c past r (Verb.Ask p) l h may = record { answer = refl; here = rw (same_number r, same_number p) refl; others = others_keep c past r (Verb.Ask p) }
step c past r (Verb.Fence p) l h may = fence_step c past r p l h
step c past r (Verb.Min p) l h may = min_step c past r p l h
step c past r (Verb.Enter p t) l h may = enter_step c past r p t l h may.replica
step c past r (Verb.PutMin p b) l h may = put_min_step c past r p b l h may.may
step c past r (Verb.Look p i) l h may = look_step c past r p i l h
step c past r (Verb.PutSlot p i b v) l h may = put_slot_step c past r p i b v l h may.may
step c past r (Verb.RaiseFuo p u) l h may = record { answer = refl; here = rw (same_number p) refl; others = others_keep c past r (Verb.RaiseFuo p u) }
step c past r (Verb.WriteRow j k x) l h may = record { answer = refl; here = rw (same_number r, same_number j, same_number k) refl; others = others_keep c past r (Verb.WriteRow j k x) }
step c past r (Verb.RaiseHead x) l h may = record { answer = refl; here = rw (same_number r) refl; others = others_keep c past r (Verb.RaiseHead x) }
step c past r Verb.Beat l h may = record { answer = refl; here = rw (same_number r) refl; others = others_keep c past r Verb.Beat }
step c past r Verb.Close l h may = close_step c past r l h
step c past r Verb.LookTarget l h may = record { answer = refl; here = target_stays c past r r (close_target r (part r past)); others = others_keep c past r Verb.LookTarget }
step c past r Verb.Drain l h may = drain_step c past r l h may.may
step c past r (Verb.Grant w) l h may = grant_step c past r w l h
step c past r v l h may = record { answer = refl; here = refl; others = others_keep c past r v }

pub word_steps_law : WordSteps
word_steps_law c r past v is legal may = step c past r v (config_is_limited c is) legal may

-- the place of an allowed step is one of the table; the last clause is of steps on a region that
-- they name first
pub place_named : (c : Config) (l : Layout) (past : List Event) (r : ℕ) (v : Verb) → Limits c → IsLayoutOf c l → IsLegalHistory c past → Allowed c r (part r past) v → IsName l (name_of c r (part r past) v)
place_named c l past r (Verb.Ask p) li f h may = (region_named c l p f may.may.0, region_named c l r f may.replica)
place_named c l past r (Verb.Look p i) li f h may = slot_named c l p i li f may.may.0
place_named c l past r (Verb.PutSlot p i b v) li f h may = slot_named c l p i li f may.may.0
place_named c l past r (Verb.WriteRow j k x) li f h may = row_named c l r j k f may.replica may.may.0 may.may.1.0
place_named c l past r (Verb.ReadRow v k) li f h may = row_named c l (v / 4096) (v % 4096) k f may.may.0 may.may.1.0 may.may.1.1.0
place_named c l past r (Verb.RaiseHead x) li f h may = region_named c l r f may.replica
place_named c l past r Verb.Beat li f h may = region_named c l r f may.replica
place_named c l past r (Verb.ReadAsk w) li f h may = (region_named c l r f may.replica, region_named c l w f may.may.0)
place_named c l past r Verb.Close li f h may = region_named c l r f may.replica
place_named c l past r Verb.LookTarget li f h may = subst (λ z. IsName l (target_name r z)) (sym (close_target-part r past)) (target_named c l r (close_target r past) f may.replica (ring_targets c r past h).1)
place_named c l past r Verb.Drain li f h may = subst (λ z. IsName l (target_name r z)) (sym (close_target-part r past)) (target_named c l r (close_target r past) f may.replica (ring_targets c r past h).1)
place_named c l past r (Verb.Grant w) li f h may = region_named c l r f may.replica
place_named c l past r v li f h may = region_named c l _ f may.may.0
