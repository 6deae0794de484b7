-- Sights stay right if more commands are seen.
use Rattle.std.proofs.Common.{◌≡◌, ℕ, ◌≤◌, List, [], ◌∷◌, ◌++◌, length, take, sym, ap, ◌∙◌, arith, take_all}
use Rattle.std.proofs.lemmas.List.{take-append-le}
use Rattle.std.specs.FinMap as map
use Rattle.kv_store.specs.Commands.{Request}
use Rattle.kv_store.specs.Tables.{store}
use Rattle.mu_model.specs.Histories.{IsPrefixOf}
use Rattle.snap_reads.specs.declared.sight.Sight.{Sight}
use Rattle.snap_reads.specs.Sights.{AreRight, IsRight, NeverFall}
use Rattle.snap_reads.proofs.Rows.{prefix_length}

pub right_longer : (commands more : List Request) (sight : Sight) → IsPrefixOf commands more → IsRight commands sight → IsRight more sight
right_longer commands more sight begins right = record {
  within = omega (arith, right.within, prefix_length commands more begins);
  value = right.value ∙ ap (λ (l : List Request). map.get (store l) sight.key) (sym (ap (take sight.seen.upto) begins.1 ∙ take-append-le sight.seen.upto commands begins.0 right.within));
}

pub are_right_longer : (commands more : List Request) (sights : List Sight) → IsPrefixOf commands more → AreRight commands sights → AreRight more sights
are_right_longer commands more [] begins right = tt
are_right_longer commands more (sight ∷ sights) begins right = (right_longer commands more sight begins right.0, are_right_longer commands more sights begins right.1)

pub are_right_joined : (commands : List Request) (sights : List Sight) (sight : Sight) → AreRight commands sights → IsRight commands sight → AreRight commands (sights ++ sight ∷ [])
are_right_joined commands [] sight right also = (also, tt)
are_right_joined commands (first ∷ sights) sight right also = (right.0, are_right_joined commands sights sight right.1 also)

-- a sight of all that was seen is right
pub right_now : (commands : List Request) (sight : Sight) → sight.seen.upto ≡ length commands → sight.seen.value ≡ map.get (store commands) sight.key → IsRight commands sight
right_now commands sight upto value = record {
  within = omega (arith, upto);
  value = value ∙ ap (λ (l : List Request). map.get (store l) sight.key) (sym (take_all sight.seen.upto commands (omega (arith, upto))));
}

-- one that saw all comes after those that saw a part
pub rise_joined : (least : ℕ) (commands : List Request) (sights : List Sight) (sight : Sight) → AreRight commands sights → least ≤ length commands → NeverFall least sights → sight.seen.upto ≡ length commands → NeverFall least (sights ++ sight ∷ [])
rise_joined least commands [] sight right few rise upto = (omega (arith, few, upto), tt)
rise_joined least commands (first ∷ sights) sight right few rise upto = (rise.0, rise_joined first.seen.upto commands sights sight right.1 right.0.within rise.1 upto)
