use Rattle.std.proofs.Common.{subst, sym}
use Rattle.held_server.specs.Servers.{OpensServer}
use Rattle.libmu.proofs.servers.mu_server_renew.Goals as goal

pub returns : goal.returns
returns c = subst (λ status. OpensServer c.args.replicas c.args.server.now.held c.open_server.new.handle.held status) (sym c.from.ensures) c.open_server.ensures
