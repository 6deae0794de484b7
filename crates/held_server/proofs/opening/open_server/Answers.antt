use Rattle.std.proofs.Common.{arith, inl, inr}
use Rattle.held_server.specs.Servers.{MayHave}
use Rattle.held_server.proofs.opening.open_server.Goals as goal

pub returns : goal.returns
returns c =
    let may : MayHave c.args.replicas = (omega (arith, c.if-replicas-eq0.false), c.if-replicas-gt-MOST_REPLICAS.false) in
    elim c.open_shape.ensures [ inl done ↦ inl (may, done.0, done.1, done.2, done.3) | inr none ↦ inr (inl (may, none.0, none.1)) ]
