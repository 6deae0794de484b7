use Rattle.std.proofs.Common.{◌≡◌, ◌+◌, length, arith, refl}
use Rattle.mu_input.proofs.Advancing.{few_lines}
use Rattle.mu_text.specs.Lines.{lines}
use Rattle.mu_verdict.proofs.line_judge.LineJudge.new.Goals as goal

pub returns-clause-opens : goal.returns-clause-opens
returns-clause-opens c =
    let bytes = c.args.bytes.now in
    let few = few_lines bytes in
    let first : c.saturating_add.result ≡ length (lines bytes) + 1 = omega (arith, c.saturating_add.ensures, c.count_of_lines.ensures, few, c.requires) in
    record {
      given = c.in_ok-config.field-0;
      fits = c.in_ok-config.ensures.reading;
      taken = record {
        config = refl;
        is_config = c.in_ok-config.ensures.config;
        first = first;
        few = omega (arith, few, c.requires);
        explains = c.in_ok-judge.ensures.legal;
        count = refl;
        goes_on = c.in_ok-judge.ensures;
      };
    }
