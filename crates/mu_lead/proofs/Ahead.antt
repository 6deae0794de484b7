-- What a leader writes ahead is allowed, and leaves what it stands for.
use Rattle.std.proofs.Common.{◌≡◌, ◌∙◌, ℕ, zero, suc, ◌+◌, ◌%◌, ◌/◌, ◌<◌, ◌≤◌, ◌==◌, ◌&&◌, Bool, true, false, List, [], ◌∷◌, None, Some, ap, arith, get_or, length, refl, subst, sym}
use Rattle.std.specs.Prelude.{if◌then◌else◌, nat_lt}
use Rattle.std.specs.declared.option.Option.{Option}
use Rattle.std.proofs.lemmas.Bool.{ltb-true}
use Rattle.mu_model.specs.declared.config.Config.{Config}
use Rattle.mu_model.specs.declared.event.Event.{Event}
use Rattle.mu_model.specs.declared.event.Verb.{Verb}
use Rattle.mu_model.specs.Allowed.{Allowed}
use Rattle.mu_model.specs.Contents.{IsConfig, config_word, is_batch, rest_of, row_count}
use Rattle.mu_model.proofs.Basics.{none_some, same_some}
use Rattle.mu_knowledge.specs.Offers.{IsFirst, first_in}
use Rattle.mu_knowledge.proofs.Firsts.{first_in_is}
use Rattle.mu_lead.specs.declared.lead.Lead.{Lead}
use Rattle.mu_lead.specs.declared.place.Offer.{Offer}
use Rattle.mu_lead.specs.declared.place.Place.{Place}
use Rattle.mu_lead.specs.Ahead.{IsAhead, ahead_at, ahead_verb, entry_before, word_after, word_from, word_of}
use Rattle.mu_lead.specs.Beside.{leads_at}
use Rattle.mu_lead.specs.Leading.{HoldsTables}
use Rattle.mu_lead.specs.Standing.{At, StandsFor}
use Rattle.mu_lead.proofs.Allowing.{may_write}
use Rattle.mu_lead.proofs.Due.{default_is}

-- a row that isn't written whole is one
pub row_there : (xs : List ℕ) (j : ℕ) → get_or xs j 12 < 12 → j < length xs
row_there [] j low = absurd (omega (arith, low))
row_there (x ∷ xs) zero low = omega arith
row_there (x ∷ xs) (suc j) low = let rest = row_there xs j low in omega (arith, rest)

-- what stands at a place but for the rows stands with a table that has the same of the row at hand
pub at_written : (c : Config) (r b : ℕ) (mine : List Event) (up : List ℕ) (reach : List (Option ℕ)) (written written' : List ℕ) (place : Place) → ((u last : ℕ) (offer : Offer) → place ≡ Place.Write u last offer → get_or written' u 12 ≡ get_or written u 12) → At c r b mine up reach written place
    → At c r b mine up reach written' place
at_written c r b mine up reach written written' (Place.Write u last offer) same at = (record { writing = at.0.writing; inside = at.0.inside }, subst (λ n. n < 12) (sym (same u last offer refl)) at.1)
at_written c r b mine up reach written written' place same at = at

-- the verb is the next word of a row of its own, after what is being written, and r may write it
pub record MayWriteAhead (c : Config) (r : ℕ) (mine : List Event) (written : List ℕ) (place : Place) (verb : Verb) : Type 0 where
  pub row : ℕ
  pub is : verb ≡ Verb.WriteRow row (get_or written row 12) (config_word c row (get_or written row 12))
  pub leads : leads_at place ≡ true
  pub lacks : get_or written row 12 < 12
  pub there : row < row_count c
  pub after : (u last : ℕ) (offer : Offer) → place ≡ Place.Write u last offer → last < row
  pub allowed : Allowed c r mine verb

-- the same of a leader
pub record MayAhead (mine : List Event) (l : Lead) (verb : Verb) : Type 0 where
  pub row : ℕ
  pub is : verb ≡ ahead_verb l row
  pub ahead : IsAhead l row
  pub allowed : Allowed l.config l.id mine verb

-- the row comes after what is being written, since that is of the batch before
after_offer : (c : Config) (r b v j : ℕ) (mine : List Event) (up values : List ℕ) (reach : List (Option ℕ)) (written : List ℕ) (place : Place) → At c r b mine up reach written place → entry_before values place ≡ Some v → v % 4096 + rest_of c (v % 4096) + 1 ≤ j → r < 7 → row_count c ≤ 1500
    → (u last : ℕ) (offer : Offer) → place ≡ Place.Write u last offer → last < j
after_offer c r b v j mine up values reach written place at entry from few all u last offer here =
    let w = (subst (At c r b mine up reach written) here at).0.writing in
    let value = same_some offer.value v (sym (ap (entry_before values) here) ∙ entry) in
    let is = w.value in
    let row = w.batch.row in
    let first : v % 4096 ≡ w.first = omega (arith, value, is, row, all) in
    let from_first : w.first + rest_of c w.first + 1 ≤ j = subst (λ x. x + rest_of c x + 1 ≤ j) first from in
    let last_is = w.last_row in
    omega (arith, from_first, last_is)

pub may_write_ahead : (c : Config) (r b : ℕ) (mine : List Event) (values up : List ℕ) (reach : List (Option ℕ)) (heads written : List ℕ) (place : Place) (verb : Verb) → IsConfig c → r < c.replicas → HoldsTables c r mine up reach heads written → At c r b mine up reach written place → length mine < c.budget
    → ahead_at c r values written place ≡ Some verb → MayWriteAhead c r mine written place verb
may_write_ahead c r b mine values up reach heads written place verb good inside tables at short is = led (leads_at place) refl is
  where
    found : (v : ℕ) → leads_at place ≡ true → entry_before values place ≡ Some v → (o : Option ℕ) → IsFirst (λ j. nat_lt (get_or written j 12) 12) (v % 4096 + rest_of c (v % 4096) + 1) (v % 4096 + rest_of c (v % 4096) + 1 + rest_of c (v % 4096 + rest_of c (v % 4096) + 1) + 1) o
        → word_of c written o ≡ Some verb → MayWriteAhead c r mine written place verb
    found v leads entry None first is = absurd (none_some verb is)
    found v leads entry (Some j) first is =
        let lacks = ltb-true (get_or written j 12) 12 first.2 in
        let there = row_there written j lacks in
        let rows = tables.rows in
        let row : j < row_count c = omega (arith, there, rows) in
        let few = good.replicas.1 in
        let word : Verb = Verb.WriteRow j (get_or written j 12) (config_word c j (get_or written j 12)) in
        let made : verb ≡ word = sym (same_some word verb is) in
        record {
          row = j;
          is = made;
          leads = leads;
          lacks = lacks;
          there = row;
          after = after_offer c r b v j mine up values reach written place at entry first.0 (omega (arith, few, inside)) good.few;
          allowed = subst (Allowed c r mine) (sym made) (record { budget = short; replica = inside; may = may_write c r j (get_or written j 12) (get_or written j 0) mine row lacks (tables.words j (get_or written j 12) row lacks) (default_is written j there) });
        }

    after : (o : Option ℕ) → leads_at place ≡ true → entry_before values place ≡ o → word_after c r written o ≡ Some verb → MayWriteAhead c r mine written place verb
    after None leads entry is = absurd (none_some verb is)
    after (Some v) leads entry is = own (is_batch c v && (v / 4096 == r)) is
      where
        own : (t : Bool) → (if t then word_from c written (v % 4096 + rest_of c (v % 4096) + 1) else None) ≡ Some verb → MayWriteAhead c r mine written place verb
        own true is = found v leads entry (first_in (λ j. nat_lt (get_or written j 12) 12) (v % 4096 + rest_of c (v % 4096) + 1) (v % 4096 + rest_of c (v % 4096) + 1 + rest_of c (v % 4096 + rest_of c (v % 4096) + 1) + 1))
            (first_in_is (λ j. nat_lt (get_or written j 12) 12) (v % 4096 + rest_of c (v % 4096) + 1) (v % 4096 + rest_of c (v % 4096) + 1 + rest_of c (v % 4096 + rest_of c (v % 4096) + 1) + 1)) is
        own false is = absurd (none_some verb is)

    led : (t : Bool) → leads_at place ≡ t → (if t then word_after c r written (entry_before values place) else None) ≡ Some verb → MayWriteAhead c r mine written place verb
    led true leads is = after (entry_before values place) leads refl is
    led false leads is = absurd (none_some verb is)

pub ahead_may : (mine : List Event) (l : Lead) (values : List ℕ) (verb : Verb) → StandsFor mine l → length mine < l.config.budget → ahead_at l.config l.id values l.written.items l.place ≡ Some verb → MayAhead mine l verb
ahead_may mine l values verb s short is =
    let may = may_write_ahead l.config l.id l.number mine values l.up l.reach l.heads l.written.items l.place verb s.config s.inside s.tables s.at short is in
    record { row = may.row; is = may.is; ahead = record { leads = may.leads; lacks = may.lacks; after = may.after }; allowed = may.allowed }
