-- Cutting a seat off keeps the rule.
use Rattle.std.proofs.Common.{◌≡◌, ◌≢◌, ◌⊎◌, ℕ, zero, suc, ◌==◌, Bool, true, false, cond, List, [], ◌∷◌, ◌++◌, length, set, Option, Some, refl, sym, ap, subst, ◌∙◌, inl, inr, ⊎_elim, eq-eqb, ne_eqb, eqb-true}
use Rattle.std.proofs.lemmas.Bool.{eqb-false}
use mathlib.Core.Option as opt
use mathlib.Core.Option.{some-injective, some-ne-none}
use lib.ListN.{get_elem?}
use Rattle.atomic_table.specs.Table.{Me, Splits}
use Rattle.atomic_table.proofs.Lists.{at_last, at_longer, at_set, set_else}
use Rattle.mu_model.specs.declared.config.Config.{Config}
use Rattle.mu_model.specs.Histories.{history, part}
use Rattle.mu_model.proofs.Basics.{same_some}
use Rattle.mu_words.specs.declared.found.Found.{Found}
use Rattle.mu_words.specs.Founds.{FoundIs}
use Rattle.shared_steps.specs.declared.rule.Entry.{Entry}
use Rattle.shared_steps.specs.declared.rule.View.{View}
use Rattle.shared_steps.specs.Insides.{Seated}
use Rattle.shared_steps.specs.Rule.{Fits, FitsEntry, HasNone, Holds, entry, entry_of, listed, only_view, part_in, single, without_view}
use Rattle.shared_steps.proofs.Entries.{entry_here, entry_of_without, has_id, in_listed, in_rest, set_there}

-- what stands at a place of a longer list
at_end : (l : List View) (a b : View) (j : ℕ) → get_elem? (l ++ a ∷ []) j ≡ opt.some b → (get_elem? l j ≡ opt.some b) ⊎ ((j ≡ length l) × (a ≡ b))
at_end [] a b zero e = inr (refl, some-injective a b e)
at_end [] a b (suc j) e = absurd (some-ne-none b (sym e))
at_end (x ∷ xs) a b zero e = inl e
at_end (x ∷ xs) a b (suc j) e = ⊎_elim (λ h. inl h) (λ t. inr (ap suc t.0, t.1)) (at_end xs a b j e)

-- the owner of each replica, after that of r changed
abbrev pub given : (ℕ → Option ℕ) → ℕ → ℕ → ℕ → Option ℕ
given owner r n q = cond (q == r) (Some n) (owner q)

pub given_here : (owner : ℕ → Option ℕ) (r n : ℕ) → given owner r n r ≡ Some n
given_here owner r n = ap (λ b. cond b (Some n) (owner r)) (eq-eqb r r refl)

pub given_there : (owner : ℕ → Option ℕ) (r n q : ℕ) → q ≢ r → given owner r n q ≡ owner q
given_there owner r n q ne = ap (λ b. cond b (Some n) (owner q)) (ne_eqb q r ne)

pub cuts : (c : Config) (id r : ℕ) (v : View) (x : Entry) → entry_of r v.entries ≡ Some x → Splits (Holds c) id v (without_view r v) (only_view r v)
cuts c id r v x has s h at = record { events = h.events; owner = given h.owner r (length (set s.views id (without_view r v))); is_config = h.is_config; legal = h.legal; shows = h.shows; idle = idle; fits = fits }
  where
    views : List View
    views = set s.views id (without_view r v)

    owner : ℕ → Option ℕ
    owner = given h.owner r (length (set s.views id (without_view r v)))

    mine : Fits c h.events h.owner id v
    mine = h.fits id v at

    owned_r : h.owner r ≡ Some id
    owned_r = (mine.entries r x has).owned

    -- what is of another replica stays
    stays : (j q : ℕ) (e : Entry) → q ≢ r → FitsEntry c h.events h.owner j q e → FitsEntry c h.events (given h.owner r (length (set s.views id (without_view r v)))) j q e
    stays j q e ne f = record { owned = given_there h.owner r (length (set s.views id (without_view r v))) q ne ∙ f.owned; is_part = f.is_part; is_seen = f.is_seen }

    left : Fits c h.events (given h.owner r (length (set s.views id (without_view r v)))) id (without_view r v)
    left = record { configured = mine.configured; entries = λ q e k. let t = in_rest r q v.entries e k in stays id q e t.0 (mine.entries q e t.1) }

    right : Fits c h.events (given h.owner r (length (set s.views id (without_view r v)))) (length (set s.views id (without_view r v))) (only_view r v)
    right = record {
      configured = mine.configured;
      entries = λ q e k.
          let t = in_listed r q (entry_of r v.entries) e (λ y is. has_id r v.entries y is) k in
          let f = mine.entries r e t.1 in
          subst (λ (p : ℕ). FitsEntry c h.events (given h.owner r (length (set s.views id (without_view r v)))) (length (set s.views id (without_view r v))) p e) (sym t.0)
          record { owned = given_here h.owner r (length (set s.views id (without_view r v))); is_part = f.is_part; is_seen = f.is_seen };
    }

    old : (j : ℕ) (u : View) → get_elem? (set s.views id (without_view r v)) j ≡ opt.some u → Fits c h.events (given h.owner r (length (set s.views id (without_view r v)))) j u
    old j u k = ⊎_elim
        (λ (t : (j ≡ id) × (without_view r v ≡ u)). subst (λ (i : ℕ). Fits c h.events (given h.owner r (length (set s.views id (without_view r v)))) i u) (sym t.0) (subst (λ (w : View). Fits c h.events (given h.owner r (length (set s.views id (without_view r v)))) id w) t.1 left))
        (λ (t : (j ≢ id) × (get_elem? s.views j ≡ opt.some u)).
        let f = h.fits j u t.1 in
        record { configured = f.configured; entries = λ q e m. let g = f.entries q e m in stays j q e (λ same. t.0 (same_some j id (sym g.owned ∙ (ap h.owner same ∙ owned_r)))) g })
        (at_set s.views id j (without_view r v) u k)

    idle : (q : ℕ) → HasNone (set s.views id (without_view r v) ++ only_view r v ∷ []) q → part q (history h.events) ≡ []
    idle q none = h.idle q before
      where
        mine_none : (e : Entry) → entry_of q v.entries ≡ Some e → ⊥
        mine_none e its = go (q == r) refl
          where
            go : (t : Bool) → (q == r) ≡ t → ⊥
            go true k =
                let own : entry_of r v.entries ≡ Some e = ap (λ p. entry_of p v.entries) (sym (eqb-true q r k)) ∙ its in
                none (length (set s.views id (without_view r v))) (only_view r v) e (at_last (set s.views id (without_view r v)) (only_view r v) (length (set s.views id (without_view r v))) refl)
                (ap (λ o. entry_of q (listed o)) own ∙ entry_here e [] q (has_id q v.entries e its))
            go false k = none id (without_view r v) e (at_longer (set s.views id (without_view r v)) (only_view r v ∷ []) id (without_view r v) (set_there s.views id v (without_view r v) at)) (entry_of_without r q v.entries (eqb-false q r k) ∙ its)

        before : HasNone s.views q
        before j u e got its = go (j == id) refl
          where
            go : (t : Bool) → (j == id) ≡ t → ⊥
            go true k =
                let is : v ≡ u = some-injective v u (sym at ∙ (ap (get_elem? s.views) (sym (eqb-true j id k)) ∙ got)) in
                mine_none e (ap (λ (y : View). entry_of q y.entries) is ∙ its)
            go false k = none j u e (at_longer (set s.views id (without_view r v)) (only_view r v ∷ []) j u (set_else s.views id j (without_view r v) (eqb-false j id k) ∙ got)) its

    fits : (j : ℕ) (u : View) → get_elem? (set s.views id (without_view r v) ++ only_view r v ∷ []) j ≡ opt.some u → Fits c h.events (given h.owner r (length (set s.views id (without_view r v)))) j u
    fits j u k = ⊎_elim
        (λ (m : get_elem? (set s.views id (without_view r v)) j ≡ opt.some u). old j u m)
        (λ (t : (j ≡ length (set s.views id (without_view r v))) × (only_view r v ≡ u)).
        subst (λ (i : ℕ). Fits c h.events (given h.owner r (length (set s.views id (without_view r v)))) i u) (sym t.0)
        (subst (λ (w : View). Fits c h.events (given h.owner r (length (set s.views id (without_view r v)))) (length (set s.views id (without_view r v))) w) t.1 right))
        (at_end (set s.views id (without_view r v)) (only_view r v) u j k)

-- a seat that was cut off with an empty entry
module _ (c : Config) (r : ℕ) (v : View) (me : Me (Unit {0}) View) (config : v.config ≡ Some c) (has : entry_of r v.entries ≡ Some (entry r [] [])) (cut : me ≡ (only_view r v, [])) where
  fresh_single : me ≡ (single c r [] [], [])
  fresh_single = cut ∙ (λ i. (record { config = config i; entries = listed (has i) }, []))

  pub fresh_part : part_in me.0.entries ≡ []
  fresh_part = ap (λ (m : Me (Unit {0}) View). part_in m.0.entries) fresh_single

  pub fresh_seated : (found : Found) → FoundIs c r found [] [] → Seated c r (part_in me.0.entries) found me
  fresh_seated found is = subst (λ l. Seated c r l found me) (sym fresh_part) (record { seen = []; is_single = fresh_single; found_is = is; possible = record { past = []; legal = tt; is = refl } })
