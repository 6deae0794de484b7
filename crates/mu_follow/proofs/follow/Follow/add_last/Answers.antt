use Rattle.std.proofs.Common.{refl, subst, sym}
use Rattle.mu_model.specs.Contents.{IsConfig}
use Rattle.mu_knowledge.specs.HeldRows.{StandsForHeldRows}
use Rattle.mu_knowledge.specs.KnownLog.{StandsForKnownLog}
use Rattle.mu_knowledge.specs.RowWords.{StandsForRowWords}
use Rattle.mu_follow.specs.declared.follow.Follow.{Follow}
use Rattle.mu_follow.specs.Follow.{StandsForFollow}
use Rattle.mu_follow.proofs.Growing.{applied_entries, applied_short, follow_more}
use Rattle.mu_follow.proofs.follow.Follow.add_last.Goals as goal

pub returns-clause-stands : goal.returns-clause-stands
returns-clause-stands c row r mine same possible room held =
    let old = c.args.self.now in
    let k = old.config in
    let good = c.requires.was in
    let more = subst IsConfig same c.requires.config in
    let new : Follow = record {
      config = c.args.config;
      replica = old.replica;
      steps = old.steps;
      knowing = c.add_last.new.self;
      rows = c.add_last-2.new.self;
      words = c.add_last-3.new.self;
      own_log = c.add_last-4.new.self;
      heads = old.heads;
      completion = c.add_last-5.new.self;
      commits = old.commits;
      outrun = old.outrun;
      progress = old.progress;
    } in
    let knowing = c.add_last.ensures k row r mine good c.requires.config same possible room.knowing held.knowing in
    let rows = c.add_last-2.ensures k row r mine good c.requires.config same possible room.rows held.rows in
    let words = c.add_last-3.ensures k row r mine c.requires.config same possible room.words held.words in
    let own_log = c.add_last-4.ensures k row r r mine room.own_log held.own_log in
    let completion = c.add_last-5.ensures k row _ good more (applied_entries k r mine possible) (applied_short k r mine good possible) room.completion held.completion in
    subst (λ z. StandsForFollow z r mine new) (sym same)
    (follow_more k row r mine old new good more possible held same refl refl (subst (λ z. StandsForKnownLog z r mine new.knowing) same knowing) (subst (λ z. StandsForHeldRows z r mine new.rows) same rows) (subst (λ z. StandsForRowWords z r mine new.words) same words) own_log refl completion refl room.commits refl refl)
