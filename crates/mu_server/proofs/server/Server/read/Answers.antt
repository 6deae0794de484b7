use Rattle.std.proofs.Common.{◌≡◌, arith, length, sym}
use Rattle.mu_server.proofs.Lists.{written}
use Rattle.mu_server.proofs.Slots.{serves-over}
use Rattle.mu_server.proofs.server.Server.read.Goals as goal

pub returns-in_err-is_full : goal.returns-in_err-is_full
returns-in_err-is_full g c = λ life now.
    let whole : c.args.self.now.connections.len ≡ length c.read_all.new.connections = omega arith in
    serves-over _ _ life _ _ _ _ c.as_mut_slice.ensures.value (sym (written c.args.self.now.connections.len c.read_all.new.connections c.args.self.now.connections.items whole)) (c.read_all.ensures life now)

pub returns : goal.returns
returns g c = λ life now.
    let whole : c.args.self.now.connections.len ≡ length c.read_all.new.connections = omega arith in
    serves-over _ _ life _ _ _ _ c.as_mut_slice.ensures.value (sym (written c.args.self.now.connections.len c.read_all.new.connections c.args.self.now.connections.items whole)) (c.read_all.ensures life now)
