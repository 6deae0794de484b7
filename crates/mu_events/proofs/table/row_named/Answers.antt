use Rattle.std.proofs.Common.{◌∙◌, ap, find, map, refl, rules, tests}
use Rattle.std.specs.Option.{option_map}
use Rattle.std.specs.Str.{bytes_eq}
use Rattle.std.proofs.lemmas.Iterator.{YieldsList-from_slice}
use Rattle.std.proofs.lemmas.Iterator.Search.{find_from_yields_List}
use Rattle.mu_events.specs.Table.{passed}
use Rattle.mu_events.proofs.TableBack.{found_passed, short_passed}
use Rattle.mu_events.proofs.table.row_named.Goals as goal

pub returns-clause-row : goal.returns-clause-row
returns-clause-row c =
    ap (option_map passed) (c.copied.ensures ∙ find_from_yields_List (λ row. bytes_eq c.args.name.now row.1.now) _ _ _ c.find.ensures.ran (YieldsList-from_slice c.iter.result.rest.now refl) (λ x b q k. search (rules, tests)))
    ∙ found_passed (λ row. bytes_eq c.args.name.now row.name) c.iter.result.rest.now ∙ ap (λ given. find (λ row. bytes_eq c.args.name.now row.name) (map passed given)) c.iter.ensures.rest

pub returns-clause-short : goal.returns-clause-short
returns-clause-short c = short_passed (λ row. bytes_eq c.args.name.now row.name) c.copied.result (returns-clause-row c)
