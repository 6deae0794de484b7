-- What a background turn has due, with what is written ahead, fits the leader.
use Rattle.std.proofs.Common.{◌≡◌, ◌∙◌, ℕ, ◌<◌, true, false, None, Some, List, ap, length, refl, subst, sym}
use Rattle.std.specs.Prelude.{IfSome}
use Rattle.std.specs.declared.option.Option.{Option}
use Rattle.std.proofs.lemmas.Bool.{true≢false}
use Rattle.mu_model.specs.declared.config.Config.{Config}
use Rattle.mu_model.specs.declared.event.Event.{Event}
use Rattle.mu_model.specs.declared.event.Verb.{Verb}
use Rattle.mu_model.specs.Allowed.{Allowed}
use Rattle.mu_model.specs.Knowledge.{known}
use Rattle.mu_follow.specs.CatchingUp.{or_else}
use Rattle.mu_lead.specs.declared.lead.Lead.{Lead}
use Rattle.mu_lead.specs.Ahead.{ahead_at}
use Rattle.mu_lead.specs.Beside.{is_beside, leads_at, writes_row}
use Rattle.mu_lead.specs.Journal.{IsWhere, tables_at}
use Rattle.mu_lead.specs.Listing.{Tables}
use Rattle.mu_lead.proofs.Ahead.{MayAhead, ahead_may}
use Rattle.mu_node.specs.declared.zeal.Zeal.{Zeal}
use Rattle.mu_node.specs.Due.{FitsLead, MayBeside, held_write_due, write_due, verb_or_beat, written_row}
use Rattle.mu_node.specs.Node.{StandsForLead}

-- the row of a verb that writes one, and of one that doesn't
pub unwritten : (verb : Verb) → written_row verb ≡ None → writes_row verb ≡ false
unwritten (Verb.WriteRow j k x) is = cc
unwritten verb is = refl

pub is_written : (verb : Verb) (j : ℕ) → written_row verb ≡ Some j → writes_row verb ≡ true
is_written (Verb.WriteRow j k x) i is = refl
is_written verb i is = cc

-- what the leader writes ahead is what the journal has it write
ahead_listed : (c : Config) (r : ℕ) (mine : List Event) (lead : Lead) → StandsForLead c r mine lead → IsWhere c r mine lead → ahead_at lead.config lead.id (known c r mine) lead.written.items lead.place ≡ write_due Zeal.Eager c r mine
ahead_listed c r mine lead held listed =
    ap (λ k. ahead_at k lead.id (known c r mine) lead.written.items lead.place) held.config
    ∙ (ap (λ i. ahead_at c i (known c r mine) lead.written.items lead.place) held.id
    ∙ (ap (λ (t : Tables). ahead_at c r (known c r mine) t.written lead.place) listed.tables
    ∙ ap (λ p. ahead_at c r (known c r mine) (tables_at c r mine).written p) listed.place))

-- a verb of the cycle, or one that is written ahead, is allowed and fits the leader
pub record Fits (c : Config) (r : ℕ) (mine : List Event) (lead : Lead) (due : Option Verb) : Type 0 where
  pub allowed : Allowed c r mine (verb_or_beat due)
  pub fits : FitsLead c r mine lead false due

pub cycle_fits : (zeal : Zeal) (c : Config) (r : ℕ) (mine : List Event) (lead : Lead) (first : Option Verb) → StandsForLead c r mine lead → length mine < c.budget → r < c.replicas → IfSome first (λ verb. MayBeside c r mine lead verb)
    → writes_row (verb_or_beat first) ≡ false → Fits c r mine lead (or_else first (held_write_due zeal c r mine lead))
cycle_fits zeal c r mine lead (Some verb) held short inside may none = record {
  allowed = may.allowed;
  fits = (may.beside, λ writes. absurd (true≢false (sym writes ∙ none)));
}
cycle_fits Zeal.Plain c r mine lead None held short inside may none = record {
  allowed = record { budget = short; replica = inside; may = tt };
  fits = (refl, λ writes. absurd (true≢false (sym writes)));
}
cycle_fits Zeal.Eager c r mine lead None held short inside may none = go (held_write_due Zeal.Eager c r mine lead) refl
  where
    go : (due : Option Verb) → held_write_due Zeal.Eager c r mine lead ≡ due → Fits c r mine lead due
    go None is = record {
      allowed = record { budget = short; replica = inside; may = tt };
      fits = (refl, λ writes. absurd (true≢false (sym writes)));
    }
    go (Some verb) is =
        let a : MayAhead mine lead verb = ahead_may mine lead (known c r mine) verb held.stands (subst (λ (k : Config). length mine < k.budget) (sym held.config) short) is in
        record {
          allowed = subst (λ i. Allowed c i mine verb) held.id (subst (λ k. Allowed k lead.id mine verb) held.config a.allowed);
          fits = (subst (λ v. is_beside (leads_at lead.place) v ≡ true) (sym a.is) a.ahead.leads, λ writes. (a.row, (a.is, a.ahead)));
        }

-- what such a node writes ahead by its leader is what the journal has it write
pub ahead_is : (zeal : Zeal) (c : Config) (r : ℕ) (mine : List Event) (lead : Lead) → StandsForLead c r mine lead → IsWhere c r mine lead → held_write_due zeal c r mine lead ≡ write_due zeal c r mine
ahead_is Zeal.Plain c r mine lead held listed = refl
ahead_is Zeal.Eager c r mine lead held listed = ahead_listed c r mine lead held listed
