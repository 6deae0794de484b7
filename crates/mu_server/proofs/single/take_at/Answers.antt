use Rattle.std.proofs.Common.{◌≡◌, [], ap, get_or, refl, subst, sym, take}
use Rattle.std.proofs.lemmas.Option.{slice_get-get_or}
use Rattle.std.proofs.lemmas.Result.{IfOk-weaker}
use Rattle.mu_server.specs.Holding.{rows_so_far}
use Rattle.mu_server.specs.Serving.{MovesTo, bytes_of, no_bytes}
use Rattle.mu_server.proofs.Slots.{bytes-here, bytes-there, moves-at}
use Rattle.mu_server.proofs.Steps.{moves-came}
use Rattle.mu_server.proofs.single.take_at.Goals as goal

pub returns-clause-moves : goal.returns-clause-moves
returns-clause-moves c =
    let all = c.args.connections.now in
    let at = c.args.at in
    let new = c.take.new.self in
    let old = get_or all at c.index-connections-at.result in
    IfOk-weaker c.take.result _ _
    (λ count came. λ life k connection session here holds.
    let bytes = take count c.args.bytes.now in
    moves-at life all at old new (bytes_of at bytes) no_bytes (slice_get-get_or all at c.index-connections-at.result c.requires) (λ number is. (bytes-there at number bytes is, refl))
    (λ s held. subst (λ l. MovesTo (rows_so_far life) life at l [] s new) (sym (bytes-here at bytes))
    (moves-came life at s old new bytes (ap (λ n. n.input) came) (ap (λ n. n.output) came) (ap (λ n. n.waiting.items) came) (ap (λ n. n.is_ending) came) (ap (λ n. n.is_read) came) held)) k connection session here holds)
    c.take.ensures.came
