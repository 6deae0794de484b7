use Rattle.std.proofs.Common.{length, refl}
use Rattle.std.proofs.lemmas.Option.{slice_get_read}
use Rattle.mu_server.proofs.single.free_place.Goals as goal

pub returns-then-is_free : goal.returns-then-is_free
returns-then-is_free c = record {
  connection = c.index-connections-place.result;
  there = slice_get_read c.args.connections.now (length c.args.connections.now) c.places.place c.index-connections-place.result refl c.places-test.true c.index-connections-place.is;
  none_waits = c.is_free.ensures c.if-is_free.true;
}
