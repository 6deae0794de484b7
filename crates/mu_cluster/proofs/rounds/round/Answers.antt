use Rattle.std.proofs.Common.{◌≡◌, ◌∙◌, ◌<◌, ◌+◌, suc, Some, ap, arith, inl, inr, length, length-set, set, subst, sym}
use Rattle.std.specs.Prelude.{slice_index_or}
use Rattle.std.specs.List.{slice_get}
use Rattle.std.proofs.lemmas.Bool.{cases_lt}
use Rattle.std.proofs.lemmas.Option.{slice_get-get_or, slice_get_within}
use Rattle.mu_model.proofs.Basics.{same_some}
use Rattle.mu_model.proofs.Lists.{get_set_other}
use Rattle.mu_cluster.specs.declared.rounds.Seat.{Seat}
use Rattle.mu_cluster.specs.Rounds.{PlayedBy, one_if_going}
use Rattle.mu_cluster.proofs.Rounding.{play_on, plays_there, round_done, left_set, sits_own}
use Rattle.mu_cluster.proofs.rounds.round.Goals as goal

pub play-requires-clause-inside : goal.play-requires-clause-inside
play-requires-clause-inside g c =
    let k = c.loop-k.k in
    let seats = c.loop-k.seats in
    let kind = c.requires.played.0 in
    let played = c.requires.played.1 in
    let was = c.loop-k.invariant.played kind played.0 played.1.0 played.1.1.0 played.1.1.1 in
    let low : k < length seats = omega (arith, c.loop-k-test.true, c.loop-k.invariant.count) in
    let sits = was.waits k _ (slice_get-get_or seats k c.index-seats-k.result low) (omega arith) in
    let same = ap (λ x. x.replicas) c.loop-k.invariant.config in
    let id = sits.follows.stands.beside.id in
    omega (arith, low, was.count, same, id)

pub play-requires-clause-sits : goal.play-requires-clause-sits
play-requires-clause-sits g c =
    let k = c.loop-k.k in
    let seats = c.loop-k.seats in
    let kind = c.requires.played.0 in
    let played = c.requires.played.1 in
    let was = c.loop-k.invariant.played kind played.0 played.1.0 played.1.1.0 played.1.1.1 in
    let low : k < length seats = omega (arith, c.loop-k-test.true, c.loop-k.invariant.count) in
    let sits = was.waits k _ (slice_get-get_or seats k c.index-seats-k.result low) (omega arith) in
    (kind, (played.0, (played.1.0, sits_own c.args.port.now.config c.loop-k.port.config played.0 k played.1.0 c.loop-k.port.events _ c.loop-k.invariant.config sits)))

pub loop-k-preserved : goal.loop-k-preserved
loop-k-preserved g c =
    let k = c.loop-k.k in
    let seats = c.loop-k.seats in
    let f = c.args.port.now.config in
    let old = slice_index_or seats k c.index-seats-k.result in
    let new = c.play.new.self in
    let low : k < length seats = omega (arith, c.loop-k-test.true, c.loop-k.invariant.count) in
    let at : slice_get seats k ≡ Some old = slice_get-get_or seats k c.index-seats-k.result low in
    let kind = c.requires.played.0 in
    let played = c.requires.played.1 in
    let first = c.loop-k.invariant.played kind played.0 played.1.0 played.1.1.0 played.1.1.1 in
    let own = sits_own f c.loop-k.port.config played.0 k played.1.0 c.loop-k.port.events old c.loop-k.invariant.config (first.waits k old at (omega arith)) in
    let left = c.play.ensures.left kind played.0 played.1.0 own in
    let total = left_set seats k old new at in
    record {
      config = c.play.ensures.config ∙ c.loop-k.invariant.config;
      count = length-set seats k new ∙ c.loop-k.invariant.count;
      ahead = λ r above. get_set_other seats r k new (λ same. absurd (omega (arith, above, same))) ∙ c.loop-k.invariant.ahead r (omega (arith, above));
      played = λ kind script rounds same was.
          let now = c.loop-k.invariant.played kind script rounds same was in
          let sits = now.waits k old at (omega arith) in
          let plays = c.play.ensures.plays kind script rounds same (sits_own f c.loop-k.port.config script k rounds c.loop-k.port.events old c.loop-k.invariant.config sits) in
          let there = plays_there f c.loop-k.port.config script k old.node.id rounds c.loop-k.port.events c.play.new.port.events old new c.loop-k.invariant.config sits.follows.stands.beside.id plays in
          let one : suc k ≡ k + 1 = omega arith in
          subst (λ n. PlayedBy kind f script c.play.new.port.events (set seats k new) rounds n) one (play_on f script c.loop-k.port.events c.play.new.port.events seats k rounds old new (omega (arith, low, now.count)) at there now);
      left = omega (arith, left, total, c.loop-k.invariant.left);
      less = λ i seat there going below. elim (cases_lt i k) [
        | inl before ↦ let less = c.loop-k.invariant.less i seat there going before in omega (arith, less, left, total)
        | inr after ↦
            let here : i ≡ k = omega (arith, below, after) in
            let found = c.loop-k.invariant.ahead k (omega arith) in
            let same : old ≡ seat = same_some old seat (sym at ∙ (found ∙ subst (λ n. slice_get c.args.seats.now n ≡ Some seat) here there)) in
            let goes = ap one_if_going (ap (λ (s : Seat). s.ended) same ∙ going) in
            omega (arith, goes, left, total, c.loop-k.invariant.left)
      ];
    }

pub returns-clause-played : goal.returns-clause-played
returns-clause-played g c kind script rounds same was =
    round_done c.args.port.now.config script c.loop-k.port.events c.loop-k.seats c.loop-k.k rounds (omega (arith, c.loop-k-test.false, c.loop-k.invariant.count)) (omega (arith, c.loop-k.auto.k-end, c.loop-k.invariant.count))
    (c.loop-k.invariant.played kind script rounds same was)

pub returns-clause-left : goal.returns-clause-left
returns-clause-left g c k seat at going = let low = slice_get_within c.args.seats.now k seat at in c.loop-k.invariant.less k seat at going (omega (arith, low, c.loop-k-test.false))
