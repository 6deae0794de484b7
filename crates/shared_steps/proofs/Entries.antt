-- Entries of views, and parts with one event more.
use Rattle.std.proofs.Common.{◌≡◌, ◌≢◌, ◌⊎◌, ℕ, zero, suc, ◌<◌, ◌==◌, Bool, true, false, cond, List, [], ◌∷◌, ◌++◌, set, Option, Some, None, refl, sym, ap, ◌∙◌, ⊎_elim, eq-eqb, ne_eqb, eqb-true, inl, inr, arith}
use Rattle.std.proofs.lemmas.Bool.{eqb-false}
use mathlib.Core.Option as opt
use mathlib.Core.Option.{some-ne-none}
use lib.ListN.{get_elem?}
use Rattle.mu_model.specs.declared.config.Config.{Config}
use Rattle.mu_model.specs.declared.event.Event.{Event}
use Rattle.mu_model.specs.Histories.{history, part}
use Rattle.mu_model.proofs.Basics.{same_some, none_some}
use Rattle.mu_words.specs.Finding.{found_word, sights}
use Rattle.mu_words.proofs.Stand.{longer}
use Rattle.shared_steps.specs.declared.rule.Entry.{Entry}
use Rattle.shared_steps.specs.declared.rule.View.{View}
use Rattle.shared_steps.specs.Rule.{empty_entries, entry, entry_of, listed, without}

pub set_there : (l : List View) (i : ℕ) (a b : View) → get_elem? l i ≡ opt.some a → get_elem? (set l i b) i ≡ opt.some b
set_there [] i a b e = absurd (some-ne-none a (sym e))
set_there (x ∷ xs) zero a b e = refl
set_there (x ∷ xs) (suc i) a b e = set_there xs i a b e

-- the first entry is of this replica
pub entry_here : (x : Entry) (es : List Entry) (q : ℕ) → x.id ≡ q → entry_of q (x ∷ es) ≡ Some x
entry_here x es q is = ap (λ b. cond b (Some x) (entry_of q es)) (eq-eqb x.id q is)

-- the first entry is of another replica
pub entry_there : (x : Entry) (es : List Entry) (q : ℕ) → x.id ≢ q → entry_of q (x ∷ es) ≡ entry_of q es
entry_there x es q ne = ap (λ b. cond b (Some x) (entry_of q es)) (ne_eqb x.id q ne)

-- the entry of a replica is the first one, or is among the others
pub entry_cases : (x : Entry) (es : List Entry) (q : ℕ) (e : Entry) → entry_of q (x ∷ es) ≡ Some e → ((x.id ≡ q) × (x ≡ e)) ⊎ ((x.id ≢ q) × (entry_of q es ≡ Some e))
entry_cases x es q e h = go (x.id == q) refl
  where
    go : (t : Bool) → (x.id == q) ≡ t → ((x.id ≡ q) × (x ≡ e)) ⊎ ((x.id ≢ q) × (entry_of q es ≡ Some e))
    go true k = let i = eqb-true x.id q k in inl (i, same_some x e (sym (entry_here x es q i) ∙ h))
    go false k = let i = eqb-false x.id q k in inr (i, sym (entry_there x es q i) ∙ h)

-- the only entry
pub only : (x : Entry) (q : ℕ) (e : Entry) → entry_of q (x ∷ []) ≡ Some e → (x.id ≡ q) × (x ≡ e)
only x q e h = ⊎_elim (λ t. t) (λ t. absurd (none_some e t.1)) (entry_cases x [] q e h)

-- the part of the replica that made the last event
pub part_same : (events : List Event) (e : Event) → part e.by (history (events ++ e ∷ [])) ≡ e ∷ part e.by (history events)
part_same events e = ap (part e.by) (longer events e) ∙ ap (λ b. cond b (e ∷ part e.by (history events)) (part e.by (history events))) (eq-eqb e.by e.by refl)

-- the parts of the others
pub part_other : (events : List Event) (e : Event) (q : ℕ) → e.by ≢ q → part q (history (events ++ e ∷ [])) ≡ part q (history events)
part_other events e q ne = ap (part q) (longer events e) ∙ ap (λ b. cond b (e ∷ part q (history events)) (part q (history events))) (ne_eqb e.by q ne)

-- the same together with the words found
pub sights_same : (c : Config) (events : List Event) (e : Event) → sights c e.by (history (events ++ e ∷ [])) ≡ (e, found_word c e.by (history events) e.verb) ∷ sights c e.by (history events)
sights_same c events e =
    ap (sights c e.by) (longer events e) ∙ ap (λ b. cond b ((e, found_word c e.by (history events) e.verb) ∷ sights c e.by (history events)) (sights c e.by (history events))) (eq-eqb e.by e.by refl)

pub sights_other : (c : Config) (events : List Event) (e : Event) (q : ℕ) → e.by ≢ q → sights c q (history (events ++ e ∷ [])) ≡ sights c q (history events)
sights_other c events e q ne =
    ap (sights c q) (longer events e) ∙ ap (λ b. cond b ((e, found_word c q (history events) e.verb) ∷ sights c q (history events)) (sights c q (history events))) (ne_eqb e.by q ne)

pub without_here : (x : Entry) (es : List Entry) (r : ℕ) → x.id ≡ r → without r (x ∷ es) ≡ without r es
without_here x es r is = ap (λ b. cond b (without r es) (x ∷ without r es)) (eq-eqb x.id r is)

pub without_there : (x : Entry) (es : List Entry) (r : ℕ) → x.id ≢ r → without r (x ∷ es) ≡ x ∷ without r es
without_there x es r ne = ap (λ b. cond b (without r es) (x ∷ without r es)) (ne_eqb x.id r ne)

-- the entries of the others are theirs, and none is that of r
pub in_rest : (r q : ℕ) (es : List Entry) (e : Entry) → entry_of q (without r es) ≡ Some e → (q ≢ r) × (entry_of q es ≡ Some e)
in_rest r q [] e h = absurd (none_some e h)
in_rest r q (x ∷ xs) e h = go (x.id == r) refl (in_rest r q xs e)
  where
    go : (t : Bool) → (x.id == r) ≡ t → (entry_of q (without r xs) ≡ Some e → (q ≢ r) × (entry_of q xs ≡ Some e)) → (q ≢ r) × (entry_of q (x ∷ xs) ≡ Some e)
    go true k rest =
        let is = eqb-true x.id r k in
        let m = rest (ap (entry_of q) (sym (without_here x xs r is)) ∙ h) in
        (m.0, entry_there x xs q (λ same. m.0 (sym same ∙ is)) ∙ m.1)
    go false k rest =
        let ne = eqb-false x.id r k in
        ⊎_elim
        (λ (t : (x.id ≡ q) × (x ≡ e)). ((λ same. ne (t.0 ∙ same)), entry_here x xs q t.0 ∙ ap Some t.1))
        (λ (t : (x.id ≢ q) × (entry_of q (without r xs) ≡ Some e)). let m = rest t.1 in (m.0, entry_there x xs q t.0 ∙ m.1))
        (entry_cases x (without r xs) q e (ap (entry_of q) (sym (without_there x xs r ne)) ∙ h))

pub entry_of_without : (r q : ℕ) (es : List Entry) → q ≢ r → entry_of q (without r es) ≡ entry_of q es
entry_of_without r q [] ne = refl
entry_of_without r q (x ∷ xs) ne = go (x.id == r) refl (entry_of_without r q xs ne)
  where
    go : (t : Bool) → (x.id == r) ≡ t → entry_of q (without r xs) ≡ entry_of q xs → entry_of q (without r (x ∷ xs)) ≡ entry_of q (x ∷ xs)
    go true k rest = let is = eqb-true x.id r k in ap (entry_of q) (without_here x xs r is) ∙ (rest ∙ sym (entry_there x xs q (λ same. ne (sym same ∙ is))))
    go false k rest = ap (entry_of q) (without_there x xs r (eqb-false x.id r k)) ∙ ap (λ (o : Option Entry). cond (x.id == q) (Some x) o) rest

-- the entry of r has the number r
pub has_id : (r : ℕ) (es : List Entry) (e : Entry) → entry_of r es ≡ Some e → e.id ≡ r
has_id r [] e h = absurd (none_some e h)
has_id r (x ∷ xs) e h = go (has_id r xs e) (entry_cases x xs r e h)
  where
    go : (entry_of r xs ≡ Some e → e.id ≡ r) → ((x.id ≡ r) × (x ≡ e)) ⊎ ((x.id ≢ r) × (entry_of r xs ≡ Some e)) → e.id ≡ r
    go rest c = ⊎_elim (λ (t : (x.id ≡ r) × (x ≡ e)). ap (λ (y : Entry). y.id) (sym t.1) ∙ t.0) (λ (t : (x.id ≢ r) × (entry_of r xs ≡ Some e)). rest t.1) c

-- the only entry of a seat that was cut off
pub in_listed : (r q : ℕ) (o : Option Entry) (e : Entry) → ((x : Entry) → o ≡ Some x → x.id ≡ r) → entry_of q (listed o) ≡ Some e → (q ≡ r) × (o ≡ Some e)
in_listed r q None e ids h = absurd (none_some e h)
in_listed r q (Some x) e ids h = let t = only x q e h in (sym t.0 ∙ ids x refl, ap Some t.1)

-- the entries at the start
pub entry_empty : (n r : ℕ) (e : Entry) → entry_of r (empty_entries n) ≡ Some e → e ≡ entry r [] []
entry_empty zero r e h = absurd (none_some e h)
entry_empty (suc n) r e h = go (entry_empty n r e) (entry_cases (entry n [] []) (empty_entries n) r e h)
  where
    go : (entry_of r (empty_entries n) ≡ Some e → e ≡ entry r [] []) → ((n ≡ r) × (entry n [] [] ≡ e)) ⊎ ((n ≢ r) × (entry_of r (empty_entries n) ≡ Some e)) → e ≡ entry r [] []
    go rest c = ⊎_elim (λ (t : (n ≡ r) × (entry n [] [] ≡ e)). sym t.1 ∙ ap (λ (q : ℕ). entry q [] []) t.0) (λ (t : (n ≢ r) × (entry_of r (empty_entries n) ≡ Some e)). rest t.1) c

pub entry_of_empty : (n r : ℕ) → r < n → entry_of r (empty_entries n) ≡ Some (entry r [] [])
entry_of_empty zero r h = absurd (omega arith)
entry_of_empty (suc n) r h = go (n == r) refl (λ k. entry_of_empty n r k)
  where
    go : (t : Bool) → (n == r) ≡ t → (r < n → entry_of r (empty_entries n) ≡ Some (entry r [] [])) → entry_of r (empty_entries (suc n)) ≡ Some (entry r [] [])
    go true k rest = let is = eqb-true n r k in entry_here (entry n [] []) (empty_entries n) r is ∙ ap (λ (q : ℕ). Some (entry q [] [])) is
    go false k rest = let ne = eqb-false n r k in entry_there (entry n [] []) (empty_entries n) r ne ∙ rest (omega (arith, ne))
