-- Some event passes in two lists, or in one turned round.
use Rattle.std.proofs.Common.{◌≡◌, Bool, true, false, cond, List, [], ◌∷◌, ◌++◌, ap, refl, subst, sym}
use Rattle.std.proofs.lemmas.List.{reverse-append}
use Rattle.mu_model.specs.declared.event.Event.{Event}
use Rattle.mu_model.specs.Histories.{has, history}
use Rattle.mu_pace.proofs.Pasts.{has_newer, has_later}

pub has_history : (test : Event → Bool) (xs : List Event) → has test xs ≡ true → has test (history xs) ≡ true
has_history test [] some = some
has_history test (x ∷ xs) some = go (test x) refl some (has_history test xs)
  where
    split : history (x ∷ xs) ≡ history xs ++ x ∷ []
    split = reverse-append (x ∷ []) xs

    go : (t : Bool) → test x ≡ t → cond t true (has test xs) ≡ true → (has test xs ≡ true → has test (history xs) ≡ true) → has test (history (x ∷ xs)) ≡ true
    go true is some ih = subst (λ l. has test l ≡ true) (sym split) (has_later test (history xs) (x ∷ []) (ap (λ t. cond t true false) is))
    go false is some ih = subst (λ l. has test l ≡ true) (sym split) (has_newer test (history xs) (x ∷ []) (ih some))
