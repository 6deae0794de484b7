-- A step on the word of its verb keeps the rule.
use Rattle.std.proofs.Common.{◌≡◌, ◌≢◌, ℕ, ◌<◌, ◌==◌, Bool, true, false, List, [], ◌∷◌, ◌++◌, length, set, Option, Some, refl, sym, ap, subst, ◌∙◌, ⊎_elim, arith, length-set, eqb-true}
use Rattle.std.specs.Prelude.{slice_index, slice_set}
use Rattle.std.proofs.lemmas.Bool.{eqb-false}
use mathlib.Core.Option as opt
use mathlib.Core.Option.{some-injective}
use lib.ListN.{get_elem?}
use Rattle.atomic_table.specs.Table.{Act, Allows, Me, State, Valid, carried_after, keeps, stepped}
use Rattle.atomic_table.proofs.Lists.{at_set, set_else}
use Rattle.mu_model.specs.declared.config.Config.{Config}
use Rattle.mu_model.specs.declared.event.Answer.{Answer}
use Rattle.mu_model.specs.declared.event.Event.{Event}
use Rattle.mu_model.specs.declared.event.Verb.{Verb}
use Rattle.mu_model.specs.Allowed.{Allowed}
use Rattle.mu_model.specs.Histories.{history, part}
use Rattle.mu_model.specs.Legal.{IsLegalHistory}
use Rattle.mu_model.proofs.Basics.{same_some}
use Rattle.mu_words.specs.Finding.{expected, loaded_by, name_of, sights}
use Rattle.mu_words.specs.Places.{IsLayoutOf, place_of}
use Rattle.mu_words.specs.Standing.{standing_word}
use Rattle.mu_words.specs.Stands.{IsStepOn, Stands, set_word}
use Rattle.mu_words.specs.Steps.{event_of}
use Rattle.mu_words.specs.Verbs.{WordFits, word_after}
use Rattle.mu_words.proofs.Places.{places_inside_law}
use Rattle.mu_words.proofs.Stand.{longer, stands_written, words_stand_law}
use Rattle.shared_steps.specs.declared.rule.Entry.{Entry}
use Rattle.shared_steps.specs.declared.rule.View.{View}
use Rattle.shared_steps.specs.Rule.{Fits, FitsEntry, Grew, HasNone, Holds, Shows, Told, entry, entry_of, event_at, grown_view, layout_of, single}
use Rattle.shared_steps.proofs.Entries.{entry_here, only, part_other, part_same, set_there, sights_other, sights_same}

pub layout_is : (c : Config) → IsLayoutOf c (layout_of c)
layout_is c = record { replicas = refl; ring = refl; rows = omega arith }

-- what f makes of the word of the verb is what the law makes of it
abbrev pub Does : Config → ℕ → List Event → List (Event × ℕ) → Verb → (ℕ → ℕ) → Type 0
Does c r mine seen v f = (past : List Event) (w : ℕ) → IsLegalHistory c past → part r past ≡ mine → w ≡ standing_word c past (name_of c r mine v) → WordFits v w → f w ≡ word_after c.ring v (expected c r mine seen v) w

-- what `Allows` asks in one state
abbrev StepGoesOn : Config → State (Unit {0}) View → ℕ → Me (Unit {0}) View → ℕ → (ℕ → ℕ) → (ℕ → Me (Unit {0}) View → Type 0) → Type 0
StepGoesOn c s id me i f then =
    (w : View) × (a : Act (Unit {0})) × Valid s.homes me.1 a × Holds c (stepped s i (f (slice_index s.words i)) id me.1 w a) × then (slice_index s.words i) (w, carried_after me.1 a)

abbrev first_entry : List Entry → Entry
first_entry [] = entry 0 [] []
first_entry (e ∷ es) = e

-- what a step of one seat tells, whatever the seat is called
pub told : (c : Config) (r : ℕ) (mine : List Event) (seen : List (Event × ℕ)) (v : Verb) (n : ℕ) (after : Me (Unit {0}) View) → Grew c r mine seen v n after → Told v (single c r mine seen, []) n after
told c r mine seen v n after g c' r' mine' seen' is =
    subst (λ (k : Config × ℕ × List Event × List (Event × ℕ)). Grew k.0 k.1 k.2 k.3 v n after)
    (λ i. (
      (same_some c c' (ap (λ (m : Me (Unit {0}) View). m.0.config) is)) i,
      (ap (λ (m : Me (Unit {0}) View). (first_entry m.0.entries).id) is) i,
      (ap (λ (m : Me (Unit {0}) View). (first_entry m.0.entries).part) is) i,
      (ap (λ (m : Me (Unit {0}) View). (first_entry m.0.entries).seen) is) i,
    ))
    g

shows_more : (c : Config) (events : List Event) (words : List ℕ) (r : ℕ) (v : Verb) (i x w : ℕ) → Shows c events words → IsStepOn c (layout_of c) events r v (slice_index words) i x → i < length words → w ≡ word_after c.ring v x (slice_index words i)
    → Shows c (events ++ event_of c r (history events) v ∷ []) (slice_set words i w)
shows_more c events words r v i x w shows step below is = record {
  count = length-set words i w ∙ shows.count;
  stands = stands_written c (layout_of c) (events ++ event_of c r (history events) v ∷ []) words i w below
      (subst (λ (m : ℕ). Stands c (layout_of c) (events ++ event_of c r (history events) v ∷ []) (set_word (slice_index words) i m)) (sym is) step.stands);
}

-- the views with one event more of the seat id
fits_more : (c : Config) (events : List Event) (owner : ℕ → Option ℕ) (views : List View) (id : ℕ) (e : Event) (w : View)
    → ((j : ℕ) (u : View) → get_elem? views j ≡ opt.some u → Fits c events owner j u)
    → owner e.by ≡ Some id
    → w ≡ single c e.by (part e.by (history (events ++ e ∷ []))) (sights c e.by (history (events ++ e ∷ [])))
    → (j : ℕ) (u : View) → get_elem? (set views id w) j ≡ opt.some u → Fits c (events ++ e ∷ []) owner j u
fits_more c events owner views id e w old own is j u at = ⊎_elim mine others (at_set views id j w u at)
  where
    new : Entry
    new = entry e.by (part e.by (history (events ++ e ∷ []))) (sights c e.by (history (events ++ e ∷ [])))

    its : Fits c (events ++ e ∷ []) owner id (single c e.by (part e.by (history (events ++ e ∷ []))) (sights c e.by (history (events ++ e ∷ []))))
    its = record {
      configured = λ k h. sym (same_some c k h);
      entries = λ q x h.
          let t = only new q x h in
          subst (λ (y : Entry). FitsEntry c (events ++ e ∷ []) owner id q y) t.1
          (subst (λ (p : ℕ). FitsEntry c (events ++ e ∷ []) owner id p new) t.0 record { owned = own; is_part = refl; is_seen = refl });
    }

    mine : (j ≡ id) × (w ≡ u) → Fits c (events ++ e ∷ []) owner j u
    mine t = subst (λ (i : ℕ). Fits c (events ++ e ∷ []) owner i u) (sym t.0) (subst (λ (x : View). Fits c (events ++ e ∷ []) owner id x) (sym is ∙ t.1) its)

    others : (j ≢ id) × (get_elem? views j ≡ opt.some u) → Fits c (events ++ e ∷ []) owner j u
    others t =
        let f = old j u t.1 in
        record {
          configured = f.configured;
          entries = λ q x h.
              let g = f.entries q x h in
              let ne : e.by ≢ q = λ same. t.0 (same_some j id (sym g.owned ∙ (ap owner (sym same) ∙ own))) in
              record { owned = g.owned; is_part = g.is_part ∙ sym (part_other events e q ne); is_seen = g.is_seen ∙ sym (sights_other c events e q ne) };
        }

-- a replica without an entry still has none
idle_more : (c : Config) (events : List Event) (views : List View) (id : ℕ) (e : Event) (mine mine' : List Event) (seen seen' : List (Event × ℕ))
    → get_elem? views id ≡ opt.some (single c e.by mine seen)
    → ((q : ℕ) → HasNone views q → part q (history events) ≡ [])
    → (q : ℕ) → HasNone (set views id (single c e.by mine' seen')) q → part q (history (events ++ e ∷ [])) ≡ []
idle_more c events views id e mine mine' seen seen' at old q none = part_other events e q apart ∙ old q before
  where
    apart : e.by ≢ q
    apart same = none id (single c e.by mine' seen') (entry e.by mine' seen') (set_there views id (single c e.by mine seen) (single c e.by mine' seen') at) (entry_here (entry e.by mine' seen') [] q same)

    before : HasNone views q
    before j u x got has = go (j == id) refl
      where
        go : (t : Bool) → (j == id) ≡ t → ⊥
        go true k =
            let same = eqb-true j id k in
            let is : single c e.by mine seen ≡ u = some-injective _ _ (sym at ∙ (ap (get_elem? views) (sym same) ∙ got)) in
            apart (only (entry e.by mine seen) q x (subst (λ (y : View). entry_of q y.entries ≡ Some x) (sym is) has)).0
        go false k = none j u x (set_else views id j (single c e.by mine' seen') (eqb-false j id k) ∙ got) has

-- the step, if the seat is named by the list
goes : (c : Config) (s : State (Unit {0}) View) (h : Holds c s) (id r : ℕ) (v : Verb) (f : ℕ → ℕ) → h.owner r ≡ Some id
    → get_elem? s.views id ≡ opt.some (single c r (part r (history h.events)) (sights c r (history h.events)))
    → Allowed c r (part r (history h.events)) v
    → Does c r (part r (history h.events)) (sights c r (history h.events)) v f
    → StepGoesOn c s id (single c r (part r (history h.events)) (sights c r (history h.events)), []) (place_of (layout_of c) (name_of c r (part r (history h.events)) v)) f (Told v (single c r (part r (history h.events)) (sights c r (history h.events)), []))
goes c s h id r v f own at may does =
    let past = history h.events in
    let mine = part r past in
    let seen = sights c r past in
    let name = name_of c r mine v in
    let i = place_of (layout_of c) name in
    let n = slice_index s.words i in
    let law = words_stand_law c (layout_of c) h.events r v (slice_index s.words) h.is_config (layout_is c) h.legal may h.shows.stands in
    let is_n : n ≡ standing_word c past name = h.shows.stands name law.named in
    let inside = places_inside_law (layout_of c) name law.named in
    let count = h.shows.count in
    let below : i < length s.words = omega arith in
    let e = event_of c r past v in
    let x = expected c r mine seen v in
    let is_e : event_at c r mine seen v n ≡ e = ap (λ (a : Answer). record { by = r; verb = v; answer = a }) law.is.answer in
    let legal : IsLegalHistory c (e ∷ past) = (h.legal, record { allowed = may; answer = refl }) in
    let part_now : event_at c r mine seen v n ∷ mine ≡ part r (history (h.events ++ e ∷ [])) = ap (λ (y : Event). y ∷ mine) is_e ∙ sym (part_same h.events e) in
    let seen_now : (event_at c r mine seen v n, loaded_by v n) ∷ seen ≡ sights c r (history (h.events ++ e ∷ [])) = (λ j. (is_e j, loaded_by v (is_n j)) ∷ seen) ∙ sym (sights_same c h.events e) in
    let w = grown_view c r mine seen v n in (
      w,
      keeps,
      tt,
      record {
        events = h.events ++ e ∷ [];
        owner = h.owner;
        is_config = h.is_config;
        legal = subst (IsLegalHistory c) (sym (longer h.events e)) legal;
        shows = shows_more c h.events s.words r v i x (f n) h.shows law.is below (does past n h.legal refl is_n law.is.word_fits);
        idle = idle_more c h.events s.views id e mine (event_at c r mine seen v n ∷ mine) seen ((event_at c r mine seen v n, loaded_by v n) ∷ seen) at h.idle;
        fits = fits_more c h.events h.owner s.views id e w h.fits own (λ j. single c r (part_now j) (seen_now j));
      },
      told c r mine seen v n (w, [])
          record {
            is = refl;
            possible = record { past = e ∷ past; legal = legal; is = ap (part r) (sym (longer h.events e)) ∙ sym part_now };
          },
    )

-- A step of the seat of r on the word of its verb, which makes of the word what the law makes of it, keeps the rule and tells its event
pub steps : (c : Config) (id r : ℕ) (mine : List Event) (seen : List (Event × ℕ)) (v : Verb) (i : ℕ) (f : ℕ → ℕ) → i ≡ place_of (layout_of c) (name_of c r mine v) → Allowed c r mine v → Does c r mine seen v f
    → Allows (Holds c) 0 id (single c r mine seen, []) i f (Told v (single c r mine seen, []))
steps c id r mine seen v i f is_i may does s h slots at bound =
    let e = (h.fits id (single c r mine seen) at).entries r (entry r mine seen) (entry_here (entry r mine seen) [] r refl) in
    let P : List Event × List (Event × ℕ) → Type 0 = λ m.
    get_elem? s.views id ≡ opt.some (single c r m.0 m.1) → Allowed c r m.0 v → Does c r m.0 m.1 v f → StepGoesOn c s id (single c r m.0 m.1, []) (place_of (layout_of c) (name_of c r m.0 v)) f (Told v (single c r m.0 m.1, [])) in
    subst (λ (k : ℕ). StepGoesOn c s id (single c r mine seen, []) k f (Told v (single c r mine seen, []))) (sym is_i)
    (subst P (λ j. ((sym e.is_part) j, (sym e.is_seen) j)) (goes c s h id r v f e.owned) at may does)
