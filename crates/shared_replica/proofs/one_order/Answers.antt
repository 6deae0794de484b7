use Rattle.shared_replica.proofs.Knowing.{one_order_law}
use Rattle.shared_replica.proofs.one_order.Goals as goal

pub returns : goal.returns
returns c = one_order_law c.one_list.ensures c.list_goes_on.ensures c.rows_differ.ensures
