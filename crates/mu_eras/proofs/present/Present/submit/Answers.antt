use Rattle.std.proofs.Common.{◌∙◌, ap, length, sym}
use Rattle.std.proofs.Math.Logic.{∥∥₁_map}
use Rattle.kv_store.specs.Tables.{store}
use Rattle.mu_eras.specs.Eras.{order_of}
use Rattle.mu_eras.proofs.present.Present.submit.Goals as goal

pub returns-clause-inside : goal.returns-clause-inside
returns-clause-inside c = record {
  count = c.requires.inside.count ∙ ap length (sym c.take_command.ensures.held);
  places = c.take_command.ensures.places;
  space = c.take_command.ensures.space;
  stores = ∥∥₁_map c.requires.inside.stores (λ h. (h.0, c.take_command.ensures.holds h.0 c.args.self.now.stores.items h.1));
}

pub returns-clause-holds : goal.returns-clause-holds
returns-clause-holds c past held = record {
  eras = held.eras;
  moment = c.take_command.ensures.moment;
  count = held.count ∙ ap length (sym c.take_command.ensures.held);
  places = c.take_command.ensures.places;
  space = c.take_command.ensures.space;
  stores = c.take_command.ensures.holds (store (order_of past)) c.args.self.now.stores.items held.stores;
  told = c.take_command.ensures.tells (store (order_of past)) held.told;
  kept = c.take_command.ensures.kept held.kept;
}
