-- What was put is the answer of a call, also if there was no memory for its text.
use Rattle.std.proofs.Common.{◌≡◌, ◌⊎◌, inl, inr, ℕ, List, Option, None, Some, arith, refl, sym, subst, ◌∙◌}
use Rattle.mu_drawing.specs.Answers as drawing
use Rattle.mu_picture.specs.declared.pictures.Extent.{Extent}
use Rattle.mu_drawing.specs.declared.drawing.Output.{Output}
use Rattle.mu_input.specs.declared.job.InputEnd.{InputEnd}
use Rattle.mu_handle.specs.declared.holding.Held.{Held}
use Rattle.mu_verdict.specs.LineJudges.{said_by, HasTaken, IsEndOfJob, Opens}
use Rattle.mu_verdict.specs.declared.line_judge.LineJudge.{LineJudge}
use Rattle.mu_library.specs.Calls.{Answers, CanTake, Draws, EndsJob, HasNew, OpensJudge, PutsSaid, PutsTold, SaysSoFar}
use Rattle.mu_model.specs.Contents.{IsConfig}
use Rattle.mu_model.specs.declared.config.Config.{Config}
use Rattle.mu_outcome.specs.Statuses.{code_of}
use Rattle.mu_model.specs.declared.event.Event.{Event}
use Rattle.mu_report.specs.Said.{said_of_end}
use Rattle.mu_report.specs.declared.said.Said.{Said}
use Rattle.mu_report.specs.Statuses.{status_for}
use Rattle.mu_top.specs.Answers.{Tells}
use Rattle.mu_top.specs.declared.asking.Asked.{Asked}

pub answered : (asked : Option Asked) (said : Said) (input before after : List ℕ) (status taken : ℕ) → Tells asked (Some input) (Some input) 0 0 said
    → PutsSaid said before after status taken ⊎ PutsSaid Said.NoMemory before after status taken → Answers asked input before after status taken
answered asked said input before after status taken tells (inl puts) = record { said = said; tells = inr tells; puts = puts }
answered asked said input before after status taken tells (inr puts) = record { said = Said.NoMemory; tells = inl refl; puts = puts }

pub drawn : (asked : Option Extent) (told : Output) (input before after : List ℕ) (status taken : ℕ) → drawing.TellsOfCall asked (Some input) (Some input) 0 0 told
    → PutsTold told before after status taken ⊎ PutsTold (Output.Said Said.NoMemory) before after status taken → Draws asked input before after status taken
drawn asked told input before after status taken tells (inl puts) = record { told = told; tells = inr tells; puts = puts }
drawn asked told input before after status taken tells (inr puts) = record { told = Output.Said Said.NoMemory; tells = inl refl; puts = puts }

-- why no judge was made
pub ends_job : (bytes : List ℕ) (end : InputEnd) → IsEndOfJob bytes end → EndsJob bytes (said_of_end end)
ends_job bytes (InputEnd.Refused line cause) leaves = leaves
ends_job bytes InputEnd.NoMemory any = tt

pub not_opened : (bytes : List ℕ) (said : Said) (held : Option Held) (before after : List ℕ) (status taken : ℕ) → EndsJob bytes said
    → PutsSaid said before after status taken ⊎ PutsSaid Said.NoMemory before after status taken → OpensJudge bytes held held before after status taken
not_opened bytes said held before after status taken ends (inl puts) = inr (refl, record { said = said; ends = ends; puts = puts })
not_opened bytes said held before after status taken ends (inr puts) = inr (refl, record { said = Said.NoMemory; ends = tt; puts = puts })

pub opened : (bytes : List ℕ) (judge : LineJudge) (old new : Option Held) (before after : List ℕ) (status taken : ℕ) → Opens bytes judge
    → ((status ≡ 0) × (new ≡ Some (Held.Judge judge)) × (taken ≡ 0) × (after ≡ before)) ⊎ ((new ≡ old) × PutsSaid Said.NoMemory before after status taken)
    → OpensJudge bytes old new before after status taken
opened bytes judge old new before after status taken opens (inl (done, has, none, same)) = inl (done, subst (HasNew bytes) (sym has) opens, none, same)
opened bytes judge old new before after status taken opens (inr (same, puts)) = inr (same, record { said = Said.NoMemory; ends = tt; puts = puts })

-- what a judge says of the lines that it took is put
pub says_so_far : (judge : LineJudge) (said : Said) (before after : List ℕ) (status taken : ℕ)
    → ((c : Config) (start : ℕ) (past : List Event) → HasTaken c start past judge → said ≡ said_by judge)
    → PutsSaid said before after status taken ⊎ PutsSaid Said.NoMemory before after status taken → SaysSoFar judge before after status taken
says_so_far judge said before after status taken says (inl puts) = record { said = said; says = inr says; puts = puts }
says_so_far judge said before after status taken says (inr puts) = record { said = Said.NoMemory; says = inl refl; puts = puts }

-- with status 0 there is a judge that can take lines
pub ready : (bytes : List ℕ) (old new : Option Held) (before after : List ℕ) (status taken : ℕ) → OpensJudge bytes old new before after status taken → status ≡ 0 → CanTake new
ready bytes old new before after status taken (inl (done, has, none, same)) zero_is = by_new new has
  where
    by_new : (new : Option Held) → HasNew bytes new → CanTake new
    by_new None has = absurd has
    by_new (Some (Held.Engine engine)) has = absurd has
    by_new (Some (Held.Replica replica)) has = absurd has
    by_new (Some (Held.Judge judge)) has = subst (λ k. IsConfig k) (sym has.taken.config) has.taken.is_config
ready bytes old new before after status taken (inr (same, why)) zero_is = absurd (by_said why.said why.ends (sym why.puts.code_is ∙ zero_is))
  where
    by_said : (said : Said) → EndsJob bytes said → code_of (status_for said) ≡ 0 → ⊥
    by_said (Said.Refused line cause) ends is = let clash : 2 ≡ 0 = is in omega (arith, clash)
    by_said Said.TooLong ends is = let clash : 8 ≡ 0 = is in omega (arith, clash)
    by_said Said.NoMemory ends is = let clash : 6 ≡ 0 = is in omega (arith, clash)
    by_said said ends is = absurd ends
