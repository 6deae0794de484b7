use Rattle.lone_replica.proofs.replica.Replica.append.Given as goal

abbrev pub ghost-make_room : goal.ghost-make_room
ghost-make_room g a = g.at

abbrev pub ghost-grow : goal.ghost-grow
ghost-grow g a = record { config = g.at.0; row = a._row.now; replica = a.self.now.id; mine = g.at.1.0 }
