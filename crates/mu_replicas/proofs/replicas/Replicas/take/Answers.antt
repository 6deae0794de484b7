use Rattle.std.proofs.Common.{Some, ◌∙◌, ap, length-set, sym}
use Rattle.std.proofs.lemmas.Option.{slice_get-get_or}
use Rattle.mu_replicas.proofs.Whole.{each_next}
use Rattle.mu_replicas.proofs.replicas.Replicas.take.Goals as goal

pub returns-in-Some : goal.returns-in-Some
returns-in-Some c past legal held = record {
  count = length-set c.args.self.now.replicas.items c.from.result c.take.new.self ∙ held.count;
  each = each_next c.args.config.now past c.args.event.now c.from.result c.args.self.now.replicas.items c.in-Some.replica.now c.take.new.self c.from.ensures (slice_get-get_or c.args.self.now.replicas.items c.from.result c.in-Some.replica.now c.in-Some.ensures.item.3.0 ∙ ap Some (sym c.in-Some.ensures.value)) legal (λ possible was. c.take.ensures _ possible was) held.each;
}
