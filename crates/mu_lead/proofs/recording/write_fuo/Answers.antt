use Rattle.std.proofs.Common.{ap, arith, length, refl, sym, ◌∙◌}
use Rattle.std.proofs.lemmas.Bool.{le-leb, lt-leb}
use Rattle.mu_lead.specs.Leading.{end_of}
use Rattle.mu_lead.proofs.recording.write_fuo.Goals.{then-is_member-via-then-is_member, then-is_member-via-else-is_member+then-u-known}
use Rattle.mu_lead.proofs.recording.write_fuo.Goals as goal

pub returns-then-is_member : goal.returns-then-is_member
returns-then-is_member c = λ k r past now seven low told held.
    let member = sym (c.is_member.ensures r _ low held) in
    elim c.then-is_member.branch [
      | then-is_member-via-then-is_member w ↦ rw (member ∙ w.if-is_member.true) (c.set_at.ensures seven)
      | then-is_member-via-else-is_member+then-u-known w ↦
          let long = ap length told in
          let less = w.if-u-known.true in
          rw (member ∙ w.if-is_member.false, le-leb c.args.u (end_of k r past) (omega (arith, less, long))) (c.set_at.ensures seven)
    ]

pub returns-else-u-known : goal.returns-else-u-known
returns-else-u-known c = λ k r past now seven low told held.
    let member = sym (c.is_member.ensures r _ low held) in
    let long = ap length told in
    let more = c.if-u-known.false in
    rw (member ∙ c.if-is_member.false, lt-leb c.args.u (end_of k r past) (omega (arith, more, long))) refl
