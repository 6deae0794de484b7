use Rattle.std.proofs.Common.{[], get_or, refl, subst, sym, take}
use Rattle.std.proofs.lemmas.Option.{slice_get-get_or}
use Rattle.mu_server.specs.Holding.{rows_so_far}
use Rattle.mu_server.specs.Serving.{MovesTo, bytes_of, no_bytes}
use Rattle.mu_server.proofs.Slots.{bytes-here, bytes-there, moves-at}
use Rattle.mu_server.proofs.Steps.{moves-gave}
use Rattle.mu_server.proofs.single.give_at.Goals as goal

pub returns : goal.returns
returns c = λ life k connection session here holds.
    let all = c.args.connections.now in
    let at = c.args.at in
    let new = c.give.new.self in
    let old = get_or all at c.index-connections-at.result in
    let bytes = take c.give.result c.give.new.out in
    moves-at life all at old new no_bytes (bytes_of at bytes) (slice_get-get_or all at c.index-connections-at.result c.requires) (λ number is. (refl, bytes-there at number bytes is))
    (λ s held. subst (λ l. MovesTo (rows_so_far life) life at [] l s new) (sym (bytes-here at bytes))
    (moves-gave life at s old new bytes c.give.ensures.given c.give.ensures.input c.give.ensures.waiting c.give.ensures.ending c.give.ensures.read held)) k connection session here holds
