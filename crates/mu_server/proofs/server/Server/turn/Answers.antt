use Rattle.mu_server.proofs.Slots.{serves-along, serves-round}
use Rattle.mu_server.proofs.server.Server.turn.Goals as goal

pub returns-in_err-round : goal.returns-in_err-round
returns-in_err-round g c = λ life now. serves-round _ _ _ _ life c.args.self.now.connections.items c.round.ensures.orders c.round.ensures.replicas now

pub returns-then-not-is_due : goal.returns-then-not-is_due
returns-then-not-is_due g c = λ life now. serves-round _ _ _ _ life c.args.self.now.connections.items c.round.ensures.orders c.round.ensures.replicas now

pub returns-in_err-tell : goal.returns-in_err-tell
returns-in_err-tell g c = λ life now.
    let first = serves-round (g.S.OrderedStore.stands c.args.self.now.store) (g.S.OrderedStore.stands c.round.new.self) (g.S.OrderedStore.replicas c.args.self.now.store) (g.S.OrderedStore.replicas c.round.new.self) life c.args.self.now.connections.items
    c.round.ensures.orders c.round.ensures.replicas now in
    serves-along _ _ _ _ life _ _ _ first (c.tell.ensures first.after first.now)

pub returns : goal.returns
returns g c = λ life now.
    let first = serves-round (g.S.OrderedStore.stands c.args.self.now.store) (g.S.OrderedStore.stands c.round.new.self) (g.S.OrderedStore.replicas c.args.self.now.store) (g.S.OrderedStore.replicas c.round.new.self) life c.args.self.now.connections.items
    c.round.ensures.orders c.round.ensures.replicas now in
    let told = serves-along (g.S.OrderedStore.stands c.round.new.self) (g.S.OrderedStore.stands c.tell.new.self.store) (g.S.OrderedStore.replicas c.round.new.self) (g.S.OrderedStore.replicas c.tell.new.self.store) life c.args.self.now.connections.items c.args.self.now.connections.items c.tell.new.self.connections.items
    first (c.tell.ensures first.after first.now) in
    serves-along _ _ _ _ life _ _ _ told (c.read.ensures told.after told.now)
