use Rattle.std.proofs.Common.{subst, sym}
use Rattle.mu_model.specs.Histories.{part}
use Rattle.mu_detect.specs.Stands.{StandsFor as ScoresStandFor}
use Rattle.mu_replicas.specs.Stands.{StandsForReplica}
use Rattle.mu_model.proofs.Parts.{part_of_maker, possible_for_maker}
use Rattle.worked_leads.proofs.driven.note_own.Goals as goal

pub returns : goal.returns
returns c past legal held =
    let e = c.args.event.now in
    let k = c.args.config.now in
    let same = part_of_maker e past in
    record {
      config = held.config;
      three = held.three;
      own_stands = subst (λ l. StandsForReplica k e.by l c.take.new.self) (sym same) (c.take.ensures (part e.by past) (possible_for_maker k e past legal) held.own_stands);
      scores_stand = subst (λ l. ScoresStandFor 3 e.by l c.note.new.self) (sym same) (c.note.ensures 3 e.by (part e.by past) held.scores_stand);
      all_stand = c.take-2.ensures past legal held.all_stand;
    }
