use Rattle.std.proofs.Common.{[], ◌++◌, ◌<◌, ◌∷◌, ◌∙◌, ap, subst, sym}
use Rattle.mu_model.specs.declared.config.Config.{Config}
use Rattle.mu_model.specs.Contents.{IsConfig}
use Rattle.mu_model.specs.Knowledge.{known as known_of}
use Rattle.mu_model.specs.Parts.{IsPossible}
use Rattle.mu_model.specs.Growing.{with_more}
use Rattle.mu_agree.proofs.Growing.{known_kept}
use Rattle.mu_lead.specs.Leading.{HoldsTables}
use Rattle.mu_lead.specs.Listing.{Tables, late_from}
use Rattle.mu_lead.specs.Standing.{At}
use Rattle.mu_lead.proofs.Growing.{place_grown, place_more, possible_more, tables_more, wakes, works_at}
use Rattle.mu_lead.proofs.lead.Lead.add_last.Goals as goal

pub returns-then-is_resting-clause-stands : goal.returns-then-is_resting-clause-stands
returns-then-is_resting-clause-stands g c row same counts =
    let mine = g.mine in
    let l = c.args.self.now in
    let k = l.config in
    let r = l.id in
    let new : Config = c.args.config in
    let stands = c.requires.0 in
    let good = subst (λ z. IsConfig z) same c.requires.1.1.1.0 in
    let possible = possible_more k (row ∷ []) r mine stands.config good c.requires.1.0 in
    let pushed = c.push_within.ensures.items c.requires.1.1.1.1 in
    let words = c.push_within.new.items.items in
    let tables = subst (λ w. HoldsTables (with_more k (row ∷ [])) r mine l.up l.reach l.heads w) (sym pushed) (tables_more k row r mine l.up l.reach l.heads l.written.items c.requires.1.0 stands.tables) in
    let inside = subst (λ (z : Config). r < z.replicas) (sym same) stands.inside in
    let table = subst (λ z. HoldsTables z r mine l.up l.reach l.heads words) (sym same) tables in
    let next = c.late_from-self.ensures counts mine
    (record { possible = subst (λ z. IsPossible z r mine) (sym same) possible; config = c.requires.1.1.1.0; inside = inside; leading = stands.leading; tables = table })
    (c.requires.1.1.0 ∙ sym (known_kept k (row ∷ []) r mine) ∙ ap (λ z. known_of z r mine) (sym same)) in
    let t : Tables = record { up = l.up; reach = l.reach; heads = l.heads; written = words } in
    let woken = wakes k row r l.number mine t l.place good stands.inside possible tables (sym c.is_resting.ensures ∙ c.if-is_resting.true) l.written.items stands.at in
    let there = subst (λ z. At z r l.number mine l.up l.reach words (late_from z r mine l.heads 0)) (sym same) woken in
    record {
      config = c.requires.1.1.1.0;
      inside = inside;
      leading = stands.leading;
      tables = table;
      at = subst (λ p. At new r l.number mine l.up l.reach words p) (sym next) there;
    }

pub returns-else-is_resting-clause-stands : goal.returns-else-is_resting-clause-stands
returns-else-is_resting-clause-stands g c row same counts =
    let mine = g.mine in
    let l = c.args.self.now in
    let k = l.config in
    let r = l.id in
    let stands = c.requires.0 in
    let good = subst (λ z. IsConfig z) same c.requires.1.1.1.0 in
    let pushed = c.push_within.ensures.items c.requires.1.1.1.1 in
    let words = c.push_within.new.items.items in
    let tables = subst (λ w. HoldsTables (with_more k (row ∷ [])) r mine l.up l.reach l.heads w) (sym pushed) (tables_more k row r mine l.up l.reach l.heads l.written.items c.requires.1.0 stands.tables) in
    let works = works_at l.place (sym c.is_resting.ensures ∙ c.if-is_resting.false) in
    let grown = place_grown k row r l.number mine l.up l.reach l.written.items l.place stands.tables.rows stands.at in
    let there = place_more k (row ∷ []) r l.number mine l.up l.reach (l.written.items ++ 0 ∷ []) l.place stands.config good c.requires.1.0 works grown in
    let here = subst (λ w. At (with_more k (row ∷ [])) r l.number mine l.up l.reach w l.place) (sym pushed) there in
    record {
      config = c.requires.1.1.1.0;
      inside = subst (λ (z : Config). r < z.replicas) (sym same) stands.inside;
      leading = stands.leading;
      tables = subst (λ z. HoldsTables z r mine l.up l.reach l.heads words) (sym same) tables;
      at = subst (λ z. At z r l.number mine l.up l.reach words l.place) (sym same) here;
    }

pub returns-then-is_resting-clause-wakes : goal.returns-then-is_resting-clause-wakes
returns-then-is_resting-clause-wakes g c row same counts rests =
    let mine = g.mine in
    let l = c.args.self.now in
    let k = l.config in
    let r = l.id in
    let new : Config = c.args.config in
    let stands = c.requires.0 in
    let good = subst (λ z. IsConfig z) same c.requires.1.1.1.0 in
    let possible = possible_more k (row ∷ []) r mine stands.config good c.requires.1.0 in
    let pushed = c.push_within.ensures.items c.requires.1.1.1.1 in
    let words = c.push_within.new.items.items in
    let tables = subst (λ w. HoldsTables (with_more k (row ∷ [])) r mine l.up l.reach l.heads w) (sym pushed) (tables_more k row r mine l.up l.reach l.heads l.written.items c.requires.1.0 stands.tables) in
    c.late_from-self.ensures counts mine
    (record {
      possible = subst (λ z. IsPossible z r mine) (sym same) possible;
      config = c.requires.1.1.1.0;
      inside = subst (λ (z : Config). r < z.replicas) (sym same) stands.inside;
      leading = stands.leading;
      tables = subst (λ z. HoldsTables z r mine l.up l.reach l.heads words) (sym same) tables;
    })
    (c.requires.1.1.0 ∙ sym (known_kept k (row ∷ []) r mine) ∙ ap (λ z. known_of z r mine) (sym same))
