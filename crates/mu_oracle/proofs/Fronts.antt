-- How many of the first values are there, after one more.
use Rattle.std.proofs.Common.{◌⊎◌, inl, inr, ◌≡◌, ℕ, suc, ◌+◌, Bool, true, false, List, [], ◌∷◌, ◌++◌, refl, ap, arith, length, ◌&&◌, ◌==◌, eqb-true}
use Rattle.std.specs.Prelude.{if◌then◌else◌}
use Rattle.std.proofs.lemmas.Bool.{eqb-false}
use Rattle.mu_model.specs.declared.config.Config.{Config}
use Rattle.mu_model.specs.declared.event.Event.{Event}
use Rattle.mu_model.specs.Knowledge.{fetched_prefix, has_entry}

front_whole : (c : Config) (r v : ℕ) (past : List Event) (xs : List ℕ) → length (fetched_prefix c r past xs) ≡ length xs → has_entry c r v past ≡ true → length (fetched_prefix c r past (xs ++ v ∷ [])) ≡ length xs + 1
front_whole c r v past [] e h = rw h refl
front_whole c r v past (x ∷ xs) e h = go (has_entry c r x past) e (front_whole c r v past xs)
  where
    go : (t : Bool) → length (if t then (x ∷ fetched_prefix c r past xs) else []) ≡ suc (length xs) → (length (fetched_prefix c r past xs) ≡ length xs → has_entry c r v past ≡ true → length (fetched_prefix c r past (xs ++ v ∷ [])) ≡ length xs + 1)
        → length (if t then (x ∷ fetched_prefix c r past (xs ++ v ∷ [])) else []) ≡ suc (length xs) + 1
    go true e ih = let k = ih (omega arith) h in omega arith
    go false e ih = absurd (omega arith)

front_stays : (c : Config) (r v : ℕ) (past : List Event) (xs : List ℕ) → ((length (fetched_prefix c r past xs) ≡ length xs) → ⊥) ⊎ (has_entry c r v past ≡ false) → length (fetched_prefix c r past (xs ++ v ∷ [])) ≡ length (fetched_prefix c r past xs)
front_stays c r v past [] (inl d) = absurd (d refl)
front_stays c r v past [] (inr h) = rw h refl
front_stays c r v past (x ∷ xs) o = go (has_entry c r x past) o (front_stays c r v past xs)
  where
    go : (t : Bool) → ((length (if t then (x ∷ fetched_prefix c r past xs) else []) ≡ suc (length xs)) → ⊥) ⊎ (has_entry c r v past ≡ false)
        → (((length (fetched_prefix c r past xs) ≡ length xs) → ⊥) ⊎ (has_entry c r v past ≡ false) → length (fetched_prefix c r past (xs ++ v ∷ [])) ≡ length (fetched_prefix c r past xs))
        → length (if t then (x ∷ fetched_prefix c r past (xs ++ v ∷ [])) else []) ≡ length (if t then (x ∷ fetched_prefix c r past xs) else [])
    go true (inl d) ih = ap suc (ih (inl (λ e. d (ap suc e))))
    go true (inr h) ih = ap suc (ih (inr h))
    go false o ih = refl

pub front_after : (c : Config) (r v : ℕ) (past : List Event) (xs : List ℕ) → length (fetched_prefix c r past (xs ++ v ∷ [])) ≡ (if (length (fetched_prefix c r past xs) == length xs) && has_entry c r v past then length (fetched_prefix c r past xs) + 1 else length (fetched_prefix c r past xs))
front_after c r v past xs = go (length (fetched_prefix c r past xs) == length xs) refl (has_entry c r v past) refl
  where
    go : (t : Bool) → (length (fetched_prefix c r past xs) == length xs) ≡ t → (u : Bool) → has_entry c r v past ≡ u → length (fetched_prefix c r past (xs ++ v ∷ [])) ≡ (if t && u then length (fetched_prefix c r past xs) + 1 else length (fetched_prefix c r past xs))
    go true ht true hu = let e = eqb-true (length (fetched_prefix c r past xs)) (length xs) ht in let k = front_whole c r v past xs e hu in omega arith
    go true ht false hu = front_stays c r v past xs (inr hu)
    go false ht u hu = front_stays c r v past xs (inl (eqb-false (length (fetched_prefix c r past xs)) (length xs) ht))
