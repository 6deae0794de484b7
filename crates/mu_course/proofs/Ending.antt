-- The end of a journal is the first that holds of stopped, budget, outrun and finished.
use Rattle.std.proofs.Common.{◌≡◌, ◌≢◌, ◌<◌, ◌==◌, ℕ, zero, suc, Bool, true, false, List, [], ◌∷◌, None, Some, arith, length, refl, sym, ◌∙◌, true≢false}
use Rattle.std.specs.Prelude.{slice_index}
use Rattle.std.specs.declared.option.Option.{Option}
use Rattle.std.proofs.lemmas.Bool.{eqb-true, eq-eqb}
use Rattle.mu_model.specs.declared.config.Config.{Config}
use Rattle.mu_model.specs.declared.event.Event.{Event}
use Rattle.mu_model.specs.declared.script.End.{End}
use Rattle.mu_model.specs.declared.script.Script.{Script}
use Rattle.mu_model.specs.Ends.{EndsBy, head_known, is_finished, outrun, stops_at}
use Rattle.mu_model.proofs.Basics.{none_some}
use Rattle.mu_course.specs.SoFar.{IsSoFar, first_end}

differs : (m n : ℕ) → (m == n) ≡ false → m ≢ n
differs m n off same = true≢false (sym (eq-eqb m n same) ∙ off)

-- the heads that r knows, as an end lists them
abbrev heads_of : ℕ → List Event → List ℕ
heads_of r mine = head_known r mine 0 ∷ head_known r mine 1 ∷ head_known r mine 2 ∷ head_known r mine 3 ∷ head_known r mine 4 ∷ head_known r mine 5 ∷ head_known r mine 6 ∷ []

heads_are : (r : ℕ) (mine : List Event) (q : ℕ) → q < 7 → slice_index (heads_of r mine) q ≡ head_known r mine q
heads_are r mine zero low = refl
heads_are r mine (suc zero) low = refl
heads_are r mine (suc (suc zero)) low = refl
heads_are r mine (suc (suc (suc zero))) low = refl
heads_are r mine (suc (suc (suc (suc zero)))) low = refl
heads_are r mine (suc (suc (suc (suc (suc zero))))) low = refl
heads_are r mine (suc (suc (suc (suc (suc (suc zero)))))) low = refl
heads_are r mine (suc (suc (suc (suc (suc (suc (suc q))))))) low = absurd (omega (arith, low))

no_end : (c : Config) (script : Script) (r : ℕ) (mine : List Event) → stops_at r (length mine) script.stops ≡ false → length mine ≢ c.budget → outrun c r mine ≡ None → is_finished c r mine ≡ false
    → (end : End) → EndsBy c script r mine end → ⊥
no_end c script r mine on left none unfinished End.Stopped is = true≢false (sym is ∙ on)
no_end c script r mine on left none unfinished End.Budget is = left is.1
no_end c script r mine on left none unfinished (End.Outrun p i) is = none_some (p, i) (sym none ∙ is.1)
no_end c script r mine on left none unfinished (End.Finished heads) is = true≢false (sym is.2 ∙ unfinished)

pub so_far_is : (c : Config) (script : Script) (r : ℕ) (mine : List Event) (stopped spent : Bool) (look : Option (ℕ × ℕ)) (finished : Bool)
    → stops_at r (length mine) script.stops ≡ stopped → (length mine == c.budget) ≡ spent → outrun c r mine ≡ look → is_finished c r mine ≡ finished
    → IsSoFar c script r mine (first_end stopped spent look finished)
so_far_is c script r mine true spent look finished is at seen all = is
so_far_is c script r mine false true look finished on at seen all = (on, eqb-true (length mine) c.budget at)
so_far_is c script r mine false false (Some look) finished on off seen all = ((on, differs (length mine) c.budget off), seen)
so_far_is c script r mine false false None true on off seen all =
    (heads_of r mine, ((on, differs (length mine) c.budget off), seen, all, heads_are r mine))
so_far_is c script r mine false false None false on off seen all = no_end c script r mine on (differs (length mine) c.budget off) seen all
