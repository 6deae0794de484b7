use Rattle.std.proofs.Common.{◌∙◌, refl}
use Rattle.mu_serve.proofs.Held.{whole_behind, whole_untouched}
use Rattle.mu_serve.proofs.LinesSoFar.{byte_fewer, front_fits, so_far_found, so_far_line, so_far_more, so_far_none, so_far_nothing, so_far_stops}
use Rattle.mu_serve.proofs.incoming.Incoming.line_on.Goals as goal

pub bytes-init : goal.bytes-init
bytes-init g c = record {
  so_far = so_far_none _ _ _ c.requires.some c.requires.goes_on c.new-line.ensures;
  goes_on = c.requires.goes_on;
  held = λ whole. (whole, refl);
  same_faults = refl;
}

pub push_front-requires : goal.push_front-requires
push_front-requires g c =
    front_fits c.bytes.invariant.so_far.line _ c.bytes.invariant.so_far.is

pub returns-then-byte-eq-LINE_FEED-clause-line : goal.returns-then-byte-eq-LINE_FEED-clause-line
returns-then-byte-eq-LINE_FEED-clause-line g c =
    let next = rw c.in-Ok-Some.field-0-is at c.in-Ok-Some.ensures.byte in
    so_far_line _ _ _ _ _ _ _ _ c.bytes.invariant.so_far next c.if-byte-eq-LINE_FEED.true
    (c.in-Ok-Some.ensures.over ∙ c.bytes.invariant.goes_on)

pub bytes-smaller : goal.bytes-smaller
bytes-smaller g c =
    let next = rw c.in-Ok-Some.field-0-is at c.in-Ok-Some.ensures.byte in
    byte_fewer _ _ _ _ _ next

pub bytes-preserved : goal.bytes-preserved
bytes-preserved g c =
    let next = rw c.in-Ok-Some.field-0-is at c.in-Ok-Some.ensures.byte in
    record {
      so_far = so_far_more _ _ _ _ _ _ _ _ _ c.bytes.invariant.so_far next
          c.if-byte-eq-LINE_FEED.false c.push_front.ensures;
      goes_on = c.in-Ok-Some.ensures.over ∙ c.bytes.invariant.goes_on;
      held = λ whole.
          let before = c.bytes.invariant.held whole in
          let takes = rw c.in-Ok-Some.field-0-is at c.in-Ok-Some.ensures.held in (
            whole_behind _ _ _ _ takes c.if-byte-eq-LINE_FEED.false before.0,
            whole_untouched _ _ _ _ takes before.0 ∙ before.1,
          );
      same_faults = c.in-Ok-Some.ensures.same_faults ∙ c.bytes.invariant.same_faults;
    }

pub returns-in-Ok-None-clause-line : goal.returns-in-Ok-None-clause-line
returns-in-Ok-None-clause-line g c =
    let next = rw c.in-Ok-None.field-0-is at c.in-Ok-None.ensures.byte in
    let ensures = c.last_line.ensures in
    so_far_found _ _ _ _ _ _ _ _ _ c.bytes.invariant.so_far next ensures.some ensures.over
    ensures.held ensures.room

pub returns-in-Ok-None-clause-none : goal.returns-in-Ok-None-clause-none
returns-in-Ok-None-clause-none g c = λ none.
    let next = rw c.in-Ok-None.field-0-is at c.in-Ok-None.ensures.byte in
    so_far_nothing _ _ _ _ _ _ _ c.bytes.invariant.so_far next (c.last_line.ensures.none none)

pub returns-in-Err-clause-end : goal.returns-in-Err-clause-end
returns-in-Err-clause-end g c =
    so_far_stops _ _ _ _ _ _ _ _ _ _ c.bytes.invariant.so_far c.in-Err.ensures.end
    c.bytes.invariant.same_faults

pub returns-then-byte-eq-LINE_FEED-clause-held : goal.returns-then-byte-eq-LINE_FEED-clause-held
returns-then-byte-eq-LINE_FEED-clause-held g c = λ whole.
    let before = c.bytes.invariant.held whole in
    whole_untouched _ _ _ _ c.in-Ok-Some.ensures.held before.0 ∙ before.1

pub returns-in-Ok-None-clause-held : goal.returns-in-Ok-None-clause-held
returns-in-Ok-None-clause-held g c = λ whole.
    let before = c.bytes.invariant.held whole in
    whole_untouched _ _ _ _ c.in-Ok-None.ensures.held before.0 ∙ before.1

pub returns-in-Err-clause-held : goal.returns-in-Err-clause-held
returns-in-Err-clause-held g c = λ whole.
    let before = c.bytes.invariant.held whole in
    whole_untouched _ _ _ _ c.in-Err.ensures.held before.0 ∙ before.1
