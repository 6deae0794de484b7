use Rattle.std.proofs.Common.{◌≡◌, ◌∙◌, [], ap, arith, length, subst, sym, take}
use Rattle.std.specs.List.{slice_get}
use Rattle.std.proofs.lemmas.Result.{IfOk-weaker}
use Rattle.mu_server.specs.Holding.{rows_so_far}
use Rattle.mu_server.specs.Serving.{MovesAt, bytes_of}
use Rattle.mu_server.proofs.Lists.{written}
use Rattle.mu_server.proofs.Slots.{bytes-none, moves-none}
use Rattle.mu_server.proofs.server.Server.take.Goals as goal

pub returns-then-at-len-clause-moves : goal.returns-then-at-len-clause-moves
returns-then-at-len-clause-moves g c = λ life k connection session here holds.
    subst (λ l. MovesAt (rows_so_far life) life k l [] session c.args.self.now.connections.items) (sym (bytes-none c.args.number k)) (moves-none life k connection session c.args.self.now.connections.items here holds)

pub returns-clause-moves : goal.returns-clause-moves
returns-clause-moves g c =
    let whole : c.args.self.now.connections.len ≡ length c.take_at.new.connections = omega arith in
    IfOk-weaker c.take_at.result _ _
    (λ count moves. λ life k connection session here holds.
    subst (λ l. MovesAt (rows_so_far life) life k (bytes_of c.args.number (take count c.args.bytes.now) k) [] session l) (sym (written c.args.self.now.connections.len c.take_at.new.connections c.args.self.now.connections.items whole))
    (moves life k connection session (ap (λ l. slice_get l k) c.as_mut_slice.ensures.value ∙ here) holds))
    c.take_at.ensures.moves
