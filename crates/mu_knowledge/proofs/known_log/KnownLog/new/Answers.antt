use Rattle.std.proofs.Common.{rules, ◌≡◌, false, replicate, ◌∙◌, refl}
use Rattle.std.proofs.lemmas.List.{length-replicate}
use Rattle.mu_model.proofs.Lists.{copies_fail, get_replicate}
use Rattle.mu_knowledge.specs.KnownLog.{is_set}
use Rattle.mu_knowledge.proofs.known_log.KnownLog.new.Goals as goal

pub returns : goal.returns
returns c r =
    let zeros : c.in_ok-no_counts.field-0.items ≡ replicate 256 0 = c.in_ok-no_counts.ensures in
    let unset : c.in_ok-vec.field-0.items ≡ replicate c.positions_in-positions.result false = search (rules, c.in_ok-vec.ensures.items_if_clones_equal) in
    record {
      values = record {
        are = search rules;
        room = search rules;
        marks = λ q small. get_replicate 7 q false small;
        counts = λ client small. rw zeros (get_replicate 256 client 0 small);
        rows = refl;
        by_client = c.in_ok-new.ensures;
      };
      fuos = λ p small. get_replicate 7 p 0 small;
      positions = rw unset (length-replicate c.positions_in-positions.result false ∙ c.positions_in-positions.ensures.count);
      seen = λ i. rw unset (copies_fail is_set c.positions_in-positions.result i false refl refl);
    }
