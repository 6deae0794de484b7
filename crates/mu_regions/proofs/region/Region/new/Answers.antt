use Rattle.std.proofs.Common.{rules, ◌≡◌, ◌*◌, None, false, replicate, arith}
use Rattle.std.proofs.lemmas.List.{get_or-replicate}
use Rattle.mu_regions.proofs.region.Region.new.Goals as goal
use Rattle.mu_model.proofs.Lists.{get_replicate}

pub returns : goal.returns
returns c = record {
  id = search rules;
  fence = search rules;
  minimum = search rules;
  log = search rules;
  log_room = search rules;
  fuo = search rules;
  head = search rules;
  beats = search rules;
  asks = λ w small. get_or-replicate 7 w 0 0 small;
  noted = λ r small. get_replicate 7 r None small;
  drained = λ r small. get_replicate 7 r false small;
  rows = λ v k own low few.
      let zeros : c.in_ok-vec.field-0.items ≡ replicate (c.len.result * 12) 0 = search (rules, c.in_ok-vec.ensures.items_if_clones_equal) in
      rw zeros (get_replicate (c.len.result * 12) _ 0 (omega (arith, low, few, c.len.ensures)));
  words = search rules;
}
