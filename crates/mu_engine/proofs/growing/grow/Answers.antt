use Rattle.std.proofs.Common.{◌≡◌, ◌∙◌, ◌<◌, ◌∷◌, [], Some, ap, arith, inl, inr, length, length-set, refl, subst, sym}
use Rattle.std.specs.Prelude.{slice_index_or}
use Rattle.std.specs.List.{slice_get}
use Rattle.std.proofs.lemmas.Option.{slice_get-get_or, slice_get_within}
use Rattle.mu_model.specs.Contents.{IsConfig}
use Rattle.mu_model.specs.Growing.{with_more}
use Rattle.mu_model.specs.Histories.{history}
use Rattle.mu_model.proofs.Parts.{part_is_possible}
use Rattle.mu_node.specs.Node.{StandsForNode}
use Rattle.mu_model.proofs.Lists.{get_set_other, set_get}
use Rattle.mu_engine.specs.Seats.{Sits, part_of}
use Rattle.mu_engine.proofs.Holds.{held_map}
use Rattle.mu_engine.proofs.Taking.{popped}
use Rattle.mu_engine.proofs.growing.grow.Goals as goal

pub grow-requires : goal.grow-requires
grow-requires c =
    let k = c.loop-k.k in
    let seats = c.loop-k.seats in
    let f = c.args.port.now.config in
    let events = c.args.port.now.events in
    let g = with_more f (c.args.row.now ∷ []) in
    let old = slice_index_or seats k c.index-seats-k.result in
    let low : k < length seats = omega (arith, c.loop-k-test.true, c.loop-k.invariant.whole) in
    let at : slice_get seats k ≡ Some old = slice_get-get_or seats k c.index-seats-k.result low in
    let was : slice_get c.args.seats.now k ≡ Some old = sym (c.loop-k.invariant.ahead k (omega arith)) ∙ at in
    let sits = c.requires.seated.each k old was in
    let pair = popped g c.loop-k.copies.items c.pop.new.self.items c.pop.result c.in-Some.pair c.pop.ensures.items c.in-Some.is c.loop-k.invariant.pairs in (
      refl,
      (
        c.requires.config,
        (
          subst IsConfig (sym pair.first) c.requires.grown,
          (
            pair.second ∙ sym pair.first,
            (
              pair.first,
              (
                part_is_possible f old.node.id (history events) c.requires.legal,
                (subst (λ i. StandsForNode f i (part_of i events) old.node) (sym sits.lives.beside.id) sits.lives, c.requires.room k old was),
              ),
            ),
          ),
        ),
      ),
    )

pub loop-k-preserved : goal.loop-k-preserved
loop-k-preserved c =
    let k = c.loop-k.k in
    let seats = c.loop-k.seats in
    let f = c.args.port.now.config in
    let events = c.args.port.now.events in
    let g = with_more f (c.args.row.now ∷ []) in
    let old = slice_index_or seats k c.index-seats-k.result in
    let new = c.grow.new.self in
    let low : k < length seats = omega (arith, c.loop-k-test.true, c.loop-k.invariant.whole) in
    let at : slice_get seats k ≡ Some old = slice_get-get_or seats k c.index-seats-k.result low in
    let was : slice_get c.args.seats.now k ≡ Some old = sym (c.loop-k.invariant.ahead k (omega arith)) ∙ at in
    let sits = c.requires.seated.each k old was in
    let pair = popped g c.loop-k.copies.items c.pop.new.self.items c.pop.result c.in-Some.pair c.pop.ensures.items c.in-Some.is c.loop-k.invariant.pairs in
    let lives = subst (λ i. StandsForNode g i (part_of i events) new.node) sits.lives.beside.id (subst (λ h. StandsForNode h old.node.id (part_of old.node.id events) new.node) pair.first c.grow.ensures.lives) in
    let sat : Sits g k events new = record { lives = lives; stops = ap (λ v. v.items) c.grow.ensures.stops ∙ sits.stops; zeal = c.grow.ensures.zeal ∙ sits.zeal } in
    record {
      whole = length-set seats k new ∙ c.loop-k.invariant.whole;
      count = omega (arith, pair.count, c.loop-k.invariant.count);
      pairs = pair.rest;
      done = λ r seat below there. elim (set_get seats k new r seat there) [
        | inl here ↦ subst (λ i. Sits g i events seat) (sym here.0) (subst (λ s. Sits g k events s) here.1 sat)
        | inr other ↦ c.loop-k.invariant.done r seat (let differ = other.0 in omega (arith, below, differ)) other.1
      ];
      ahead = λ r above. get_set_other seats r k new (λ same. absurd (omega (arith, above, same))) ∙ c.loop-k.invariant.ahead r (omega (arith, above));
      holds = held_map seats k old new at c.grow.ensures.hold ∙ c.loop-k.invariant.holds;
    }

pub returns-clause-seated : goal.returns-clause-seated
returns-clause-seated c = record {
  count = c.loop-k.invariant.whole ∙ c.requires.seated.count;
  each = λ r seat at. (let low = slice_get_within c.loop-k.seats r seat at in c.loop-k.invariant.done r seat (omega (arith, low, c.loop-k-test.false, c.loop-k.invariant.whole)) at);
}
