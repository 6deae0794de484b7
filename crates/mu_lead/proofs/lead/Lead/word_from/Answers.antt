use Rattle.std.proofs.Common.{◌≡◌, ◌∙◌, ◌+◌, Some, None, ap, arith, get_or, subst}
use Rattle.std.specs.Prelude.{nat_lt}
use Rattle.std.proofs.lemmas.Bool.{ltb-true}
use Rattle.mu_model.specs.Contents.{rest_of}
use Rattle.mu_knowledge.specs.Offers.{IsFirst}
use Rattle.mu_knowledge.proofs.Firsts.{found_is}
use Rattle.mu_lead.specs.Ahead.{word_of}
use Rattle.mu_lead.proofs.lead.Lead.word_from.Goals as goal

pub returns-in-Some : goal.returns-in-Some
returns-in-Some c low =
    let l = c.args.self.now in
    let from = c.args.from in
    let last : c.saturating_add-last.result + 1 ≡ from + rest_of l.config from + 1 = omega (arith, c.saturating_add-last.ensures, c.from.ensures, c.row_rest.ensures, low) in
    let first = c.in-Some.ensures (omega (arith, c.saturating_add-last.ensures, c.from.ensures, c.row_rest.ensures, low)) in
    let found = found_is (λ j. nat_lt (get_or l.written.items j 12) 12) from (from + rest_of l.config from + 1) (Some c.in-Some.j) (subst (λ n. IsFirst (λ j. nat_lt (get_or l.written.items j 12) 12) from n (Some c.in-Some.j)) last first) in
    ap (λ v. Some v) (c.write_next.ensures (ltb-true (get_or l.written.items c.in-Some.j 12) 12 first.2)) ∙ ap (word_of l.config l.written.items) found

pub returns-in-None : goal.returns-in-None
returns-in-None c low =
    let l = c.args.self.now in
    let from = c.args.from in
    let last : c.saturating_add-last.result + 1 ≡ from + rest_of l.config from + 1 = omega (arith, c.saturating_add-last.ensures, c.from.ensures, c.row_rest.ensures, low) in
    let first = c.in-None.ensures (omega (arith, c.saturating_add-last.ensures, c.from.ensures, c.row_rest.ensures, low)) in
    let found = found_is (λ j. nat_lt (get_or l.written.items j 12) 12) from (from + rest_of l.config from + 1) None (subst (λ n. IsFirst (λ j. nat_lt (get_or l.written.items j 12) 12) from n None) last first) in
    ap (word_of l.config l.written.items) found
