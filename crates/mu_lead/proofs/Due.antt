-- The verb that is due is allowed.
use Rattle.std.proofs.Common.{List, None, Some, [], ap, arith, get_or, length, refl, suc, subst, zero, sym, ℕ, ◌%◌, ◌+◌, ◌<◌, ◌∙◌, ◌∷◌, ◌≡◌}
use Rattle.std.specs.Prelude.{IfSome}
use Rattle.std.specs.declared.option.Option.{Option}
use Rattle.mu_model.specs.declared.config.Config.{Config}
use Rattle.mu_model.specs.declared.event.Event.{Event}
use Rattle.mu_model.specs.declared.event.Target.{Target}
use Rattle.mu_model.specs.declared.event.Verb.{Verb}
use Rattle.mu_model.specs.Allowed.{Allowed, Needs}
use Rattle.mu_model.specs.Contents.{IsConfig, config_word, rest_of, row_count}
use Rattle.mu_model.specs.Knowledge.{known}
use Rattle.mu_model.specs.Parts.{IsPossible}
use Rattle.mu_model.proofs.Basics.{same_some}
use Rattle.mu_lead.specs.declared.lead.Lead.{Lead}
use Rattle.mu_lead.specs.declared.place.Place.{Place}
use Rattle.mu_lead.specs.Leading.{HoldsTables, end_of}
use Rattle.mu_lead.specs.Offering.{AtWrite}
use Rattle.mu_lead.specs.declared.place.Offer.{Offer}
use Rattle.mu_lead.specs.Standing.{At, StandsFor, verb_at, verb_of}
use Rattle.mu_lead.proofs.Allowing.{may_ask, may_confirm, may_enter_late, may_enter_min, may_enter_place, may_learn, may_look_behind, may_look_new, may_put_behind, may_put_late, may_put_min, may_put_new, may_raise, may_read_min, may_write}

-- the default of a place that is there doesn't matter
pub default_is : (xs : List ℕ) (j : ℕ) → j < length xs → get_or xs j 0 ≡ get_or xs j 12
default_is [] j low = absurd (omega arith)
default_is (x ∷ xs) zero low = refl
default_is (x ∷ xs) (suc j) low = default_is xs j (omega arith)

-- the last row of a batch is there
pub last_there : (c : Config) (j k : ℕ) → IsConfig c → j < row_count c → rest_of c j ≡ k → j + k < row_count c
last_there c j zero config low is = omega (arith, low)
last_there c j (suc k) config low is = let next = config.batches j k low is in let more = last_there c (j + 1) k config next.0 next.2 in omega (arith, more)

needs_at : (c : Config) (r b : ℕ) (mine : List Event) (up : List ℕ) (reach : List (Option ℕ)) (heads written : List ℕ) (place : Place) (verb : Verb) → IsConfig c → r < c.replicas → IsPossible c r mine → HoldsTables c r mine up reach heads written
    → At c r b mine up reach written place → verb_at c b (known c r mine) up written place ≡ Some verb → Needs c r mine verb
needs_at c r b mine up reach heads written place verb config own possible t at is = go place at is
  where
    ring : 0 < c.ring
    ring = let low = config.ring.0 in omega (arith, low)

    -- a row of a batch is there
    row_there : (j last : ℕ) (offer : Offer) → AtWrite c r b mine up reach written j last offer → j < row_count c
    row_there j last offer at = let w = at.writing in let low = last_there c w.first (rest_of c w.first) config w.batch.row refl in let to = at.inside in let end = w.last_row in omega (arith, low, to, end)

    by : (v : Verb) → Some v ≡ Some verb → Needs c r mine v → Needs c r mine verb
    by v same needs = subst (λ x. Needs c r mine x) (same_some v verb same) needs

    go : (place : Place) → At c r b mine up reach written place → verb_at c b (known c r mine) up written place ≡ Some verb → Needs c r mine verb
    go (Place.Ask p) at is = by (Verb.Ask p) is (may_ask c r p mine at)
    go (Place.Confirm round p) at is = by (Verb.Fence p) is (may_confirm c r p mine at.1)
    go (Place.ReadMin p) at is = by (Verb.Min p) is (may_read_min c r p mine at)
    go (Place.EnterMin p) at is = by (Verb.Enter p Target.Min) is (may_enter_min c r b p mine own at)
    go (Place.PutMin p) at is = by (Verb.PutMin p b) is (may_put_min c r b p mine at)
    go (Place.ReadFuo p source) at is = by (Verb.Fuo p) is (at.region, tt)
    go (Place.Learn p) at is = by (Verb.Look p (end_of c r mine)) is (may_learn c r b p mine up reach (t.within p) at)
    go (Place.WidenBehind p then) at is = by (Verb.RaiseFuo p (get_or up p 0)) is (may_raise c r p (get_or up p 0) (get_or up p 0) mine at.behind.region (omega arith) (let low = at.lacks in omega (arith, low)) (t.brought p))
    go (Place.LookBehind p then) at is = by (Verb.Look p (get_or up p 0)) is (may_look_behind c r p (get_or up p 0) mine possible at.behind.leads.held at.behind.region at.behind.member at.lacks)
    go (Place.EnterBehind p then) at is = by (Verb.Enter p (Target.Place (get_or up p 0 % c.ring))) is (let b = at.near.behind in may_enter_place c r p (get_or up p 0) mine ring b.region b.member b.leads.goes_on)
    go (Place.PutBehind p then) at is = by (Verb.PutSlot p (get_or up p 0) b (get_or (known c r mine) (get_or up p 0) 0)) is (may_put_behind c r b p mine up reach then possible (t.brought p) (t.reached p) at)
    go (Place.RaiseBehind p then) at is = by (Verb.RaiseFuo p (get_or up p 0)) is (may_raise c r p (get_or up p 0) (get_or up p 0) mine at.behind.region (omega arith) (let same = at.done in omega (arith, same)) (t.brought p))
    go (Place.FenceBehind p then) at is = by (Verb.Fence p) is (at.near.behind.region, (at.near.behind.leads.begun, tt))
    go (Place.LateFence p) at is = by (Verb.Fence p) is (at.region, (at.level.leads.begun, tt))
    go (Place.LateMin p) at is = by (Verb.Min p) is (at.late.region, (at.granted, (at.late.level.leads.goes_on, tt)))
    go (Place.LateFuo p) at is = by (Verb.Fuo p) is (at.late.region, tt)
    go (Place.LateEnter p) at is = by (Verb.Enter p Target.Min) is (may_enter_late c r b p mine up reach at)
    go (Place.LatePut p) at is = by (Verb.PutMin p b) is (may_put_late c r b p mine up reach at)
    go (Place.ReadHead q candidate) at is = by (Verb.Head q) is (at.region, tt)
    go (Place.Look p i candidate best) at is = by (Verb.Look p i) is (let l = at.looking in let low = l.roomy.within in let here = at.position in may_look_new c r p i mine l.level.leads.held at.region at.member (omega (arith, low, here)))
    go (Place.Write j last offer) at is =
        let k = get_or written j 12 in
        let row = row_there j last offer at.0 in
        by (Verb.WriteRow j k (config_word c j k)) is (may_write c r j k (get_or written j 0) mine row at.1 (t.words j k row at.1) (default_is written j (let all = t.rows in omega (arith, all, row))))
    go (Place.Enter p offer) at is = by (Verb.Enter p (Target.Place (end_of c r mine % c.ring))) is (let o = at.0.offering in may_enter_place c r p (end_of c r mine) mine ring at.0.region at.0.member o.goes_on)
    go (Place.Put p offer) at is = by (Verb.PutSlot p (end_of c r mine) b offer.value) is (may_put_new c r b offer.value p mine up reach ring (t.brought p) (t.reached p) at.0)
    go (Place.Raise p) at is = by (Verb.RaiseFuo p (end_of c r mine)) is (may_raise c r p (get_or up p 0) (end_of c r mine) mine at.region (let same = at.have p at.region at.member in omega (arith, same)) (omega arith) (t.brought p))
    go (Place.Evidence p) at is = by (Verb.Fence p) is (at.region, (at.begun, tt))
    go Place.Outrun at is = cc
    go Place.Rest at is = cc

-- the verb that is due is allowed
pub due_allowed : (mine : List Event) (l : Lead) (verb : Verb) → StandsFor mine l → IsPossible l.config l.id mine → length mine < l.config.budget → verb_of l (known l.config l.id mine) ≡ Some verb → Allowed l.config l.id mine verb
due_allowed mine l verb s possible short is = record {
  budget = short;
  replica = s.inside;
  may = needs_at l.config l.id l.number mine l.up l.reach l.heads l.written.items l.place verb s.config s.inside possible s.tables s.at is;
}

-- what is due, if something is, is allowed
pub due_fits : (mine : List Event) (l : Lead) (values : List ℕ) (due : Option Verb) → StandsFor mine l → IsPossible l.config l.id mine → length mine < l.config.budget → values ≡ known l.config l.id mine → due ≡ verb_of l values → IfSome due (λ verb. Allowed l.config l.id mine verb)
due_fits mine l values None s possible short same is = tt
due_fits mine l values (Some verb) s possible short same is = due_allowed mine l verb s possible short (ap (verb_of l) (sym same) ∙ sym is)
