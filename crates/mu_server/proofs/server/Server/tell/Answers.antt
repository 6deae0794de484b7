use Rattle.std.proofs.Common.{◌≡◌, arith, length, sym}
use Rattle.mu_server.proofs.Lists.{written}
use Rattle.mu_server.proofs.Slots.{serves-over}
use Rattle.mu_server.proofs.server.Server.tell.Goals as goal

pub returns : goal.returns
returns g c = λ life now.
    let whole : c.args.self.now.connections.len ≡ length c.tell_all.new.connections = omega arith in
    serves-over _ _ life _ _ _ _ c.as_mut_slice.ensures.value (sym (written c.args.self.now.connections.len c.tell_all.new.connections c.args.self.now.connections.items whole)) (c.tell_all.ensures life now)
