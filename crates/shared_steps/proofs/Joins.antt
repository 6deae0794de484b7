-- Taking a seat in keeps the rule, and a load by a seat learns that one list has all its entries.
use Rattle.std.proofs.Common.{◌≡◌, ◌≢◌, ℕ, ◌==◌, Bool, true, false, List, [], ◌∷◌, set, Some, refl, sym, ap, subst, ◌∙◌, ⊎_elim, eqb-true}
use Rattle.std.proofs.lemmas.Bool.{eqb-false}
use Rattle.std.proofs.lemmas.List.{set-get_or}
use mathlib.Core.Option as opt
use mathlib.Core.Option.{some-injective}
use lib.ListN.{get_elem?}
use Rattle.atomic_table.specs.Table.{Allows, Joins, Me, keeps}
use Rattle.atomic_table.proofs.Lists.{at_set, set_again, set_else}
use Rattle.mu_model.specs.declared.config.Config.{Config}
use Rattle.mu_model.specs.declared.event.Event.{Event}
use Rattle.mu_model.specs.Histories.{history, part}
use Rattle.mu_model.proofs.Basics.{none_some, same_some}
use Rattle.shared_steps.specs.declared.rule.Entry.{Entry}
use Rattle.shared_steps.specs.declared.rule.View.{View}
use Rattle.shared_steps.specs.Rule.{Fits, FitsEntry, HasNone, HaveOneList, Holds, Shows, entry, entry_of, single, spent_view, united}
use Rattle.shared_steps.proofs.Cuts.{given, given_here, given_there}
use Rattle.shared_steps.proofs.Entries.{entry_cases, entry_here, entry_there, only, set_there}

pub takes_in : (c : Config) (id : ℕ) (v : View) (other r : ℕ) (k : Config) (mine : List Event) (seen : List (Event × ℕ)) → Joins (Holds c) id v other (single k r mine seen) (united v (single k r mine seen)) spent_view
takes_in c id v other r k mine seen s h at apart there = record { events = h.events; owner = given h.owner r id; is_config = h.is_config; legal = h.legal; shows = h.shows; idle = idle; fits = fits }
  where
    both : View
    both = united v (single k r mine seen)

    its_entry : Entry
    its_entry = entry r mine seen

    of_v : Fits c h.events h.owner id v
    of_v = h.fits id v at

    was : get_elem? s.views other ≡ opt.some (single k r mine seen)
    was = sym (set_else s.views id other (united v (single k r mine seen)) apart) ∙ there

    its : FitsEntry c h.events h.owner other r (entry r mine seen)
    its = (h.fits other (single k r mine seen) was).entries r (entry r mine seen) (entry_here (entry r mine seen) [] r refl)

    -- what is of another replica stays
    stays : (j q : ℕ) (e : Entry) → q ≢ r → FitsEntry c h.events h.owner j q e → FitsEntry c h.events (given h.owner r id) j q e
    stays j q e ne f = record { owned = given_there h.owner r id q ne ∙ f.owned; is_part = f.is_part; is_seen = f.is_seen }

    entries : (q : ℕ) (e : Entry) → entry_of q (entry r mine seen ∷ v.entries) ≡ Some e → FitsEntry c h.events (given h.owner r id) id q e
    entries q e m = ⊎_elim
        (λ (t : (r ≡ q) × (entry r mine seen ≡ e)).
        subst (λ (p : ℕ). FitsEntry c h.events (given h.owner r id) id p e) t.0
        (subst (λ (y : Entry). FitsEntry c h.events (given h.owner r id) id r y) t.1 record { owned = given_here h.owner r id; is_part = its.is_part; is_seen = its.is_seen }))
        (λ (t : (r ≢ q) × (entry_of q v.entries ≡ Some e)). stays id q e (λ same. t.0 (sym same)) (of_v.entries q e t.1))
        (entry_cases (entry r mine seen) v.entries q e m)

    new : Fits c h.events (given h.owner r id) id (united v (single k r mine seen))
    new = record { configured = of_v.configured; entries = entries }

    spent : (j : ℕ) → Fits c h.events (given h.owner r id) j spent_view
    spent j = record { configured = λ y e. absurd (none_some y e); entries = λ q e m. absurd (none_some e m) }

    one : (j : ℕ) (u : View) → j ≢ other → get_elem? (set s.views id (united v (single k r mine seen))) j ≡ opt.some u → Fits c h.events (given h.owner r id) j u
    one j u away m = ⊎_elim
        (λ (t : (j ≡ id) × (united v (single k r mine seen) ≡ u)). subst (λ (i : ℕ). Fits c h.events (given h.owner r id) i u) (sym t.0) (subst (λ (y : View). Fits c h.events (given h.owner r id) id y) t.1 new))
        (λ (t : (j ≢ id) × (get_elem? s.views j ≡ opt.some u)).
        let f = h.fits j u t.1 in
        record { configured = f.configured; entries = λ q e n. let g = f.entries q e n in stays j q e (λ same. away (same_some j other (sym g.owned ∙ (ap h.owner same ∙ its.owned)))) g })
        (at_set s.views id j (united v (single k r mine seen)) u m)

    idle : (q : ℕ) → HasNone (set (set s.views id (united v (single k r mine seen))) other spent_view) q → part q (history h.events) ≡ []
    idle q none = h.idle q before
      where
        here : get_elem? (set (set s.views id (united v (single k r mine seen))) other spent_view) id ≡ opt.some (united v (single k r mine seen))
        here = set_else (set s.views id (united v (single k r mine seen))) other id spent_view (λ same. apart (sym same)) ∙ set_there s.views id v (united v (single k r mine seen)) at

        not_r : r ≢ q
        not_r same = none id (united v (single k r mine seen)) (entry r mine seen) here (entry_here (entry r mine seen) v.entries q same)

        elsewhere : (j : ℕ) (u : View) (e : Entry) → j ≢ id → get_elem? s.views j ≡ opt.some u → entry_of q u.entries ≡ Some e → ⊥
        elsewhere j u e ne got has = go (j == other) refl
          where
            go : (t : Bool) → (j == other) ≡ t → ⊥
            go true n =
                let is : single k r mine seen ≡ u = some-injective _ _ (sym was ∙ (ap (get_elem? s.views) (sym (eqb-true j other n)) ∙ got)) in
                not_r (only (entry r mine seen) q e (subst (λ (y : View). entry_of q y.entries ≡ Some e) (sym is) has)).0
            go false n = none j u e (set_else (set s.views id (united v (single k r mine seen))) other j spent_view (eqb-false j other n) ∙ (set_else s.views id j (united v (single k r mine seen)) ne ∙ got)) has

        before : HasNone s.views q
        before j u e got has = go (j == id) refl
          where
            go : (t : Bool) → (j == id) ≡ t → ⊥
            go true n =
                let is : v ≡ u = some-injective v u (sym at ∙ (ap (get_elem? s.views) (sym (eqb-true j id n)) ∙ got)) in
                none id (united v (single k r mine seen)) e here (entry_there (entry r mine seen) v.entries q not_r ∙ (ap (λ (y : View). entry_of q y.entries) is ∙ has))
            go false n = elsewhere j u e (eqb-false j id n) got has

    fits : (j : ℕ) (u : View) → get_elem? (set (set s.views id (united v (single k r mine seen))) other spent_view) j ≡ opt.some u → Fits c h.events (given h.owner r id) j u
    fits j u m = ⊎_elim
        (λ (t : (j ≡ other) × (spent_view ≡ u)). subst (λ (y : View). Fits c h.events (given h.owner r id) j y) t.1 (spent j))
        (λ (t : (j ≢ other) × (get_elem? (set s.views id (united v (single k r mine seen))) j ≡ opt.some u)). one j u t.0 t.1)
        (at_set (set s.views id (united v (single k r mine seen))) other j spent_view u m)

pub learns : (c : Config) (slots id i : ℕ) (me : Me (Unit {0}) View) → Allows (Holds c) slots id me i (λ n. n) (λ n after. (after ≡ me) × ((k : Config) → me.0.config ≡ Some k → HaveOneList k me.0.entries))
learns c slots id i me s h some_slots at bound = (
  me.0,
  keeps,
  tt,
  record {
    events = h.events;
    owner = h.owner;
    is_config = h.is_config;
    legal = h.legal;
    shows = subst (λ (ws : List ℕ). Shows c h.events ws) (sym (set-get_or s.words i 0)) h.shows;
    idle = λ q none. h.idle q (subst (λ (l : List View). HasNone l q) (set_again s.views id me.0 at) none);
    fits = λ j u k. h.fits j u (subst (λ (l : List View). get_elem? l j ≡ opt.some u) (set_again s.views id me.0 at) k);
  },
  (refl, λ k is. subst (λ (y : Config). HaveOneList y me.0.entries) (sym (of.configured k is)) record { events = h.events; legal = h.legal; parts = λ r e has. (of.entries r e has).is_part }),
)
  where
    of : Fits c h.events h.owner id me.0
    of = h.fits id me.0 at
