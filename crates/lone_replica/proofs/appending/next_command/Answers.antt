use Rattle.std.proofs.Common.{arith, sym}
use Rattle.std.proofs.lemmas.Bool.{true≢false}
use Rattle.mu_model.specs.Contents.{row_count}
use Rattle.lone_replica.proofs.Adding.{few_before}
use Rattle.lone_replica.proofs.appending.next_command.Goals as goal

pub unreachable-requires : goal.unreachable-requires
unreachable-requires c =
    let config = c.args.config.now in
    let few = few_before config c.args.client (row_count config) in
    let number = c.next_number.ensures in
    let rows = c.requires.rows in
    true≢false (sym (c.in-None.ensures.allowed.1 (record {
      client_known = c.requires.client;
      numbered = omega (arith, number);
      number_fits = omega (arith, number, few, rows);
      short_texts = c.requires.texts;
    })))
