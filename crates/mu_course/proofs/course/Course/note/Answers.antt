use Rattle.std.proofs.Common.{◌≡◌, ◌∷◌, ◌∙◌, ap, arith, false, length, map, sym}
use Rattle.std.specs.Prelude.{if◌then◌else◌, ◌||◌}
use Rattle.std.proofs.lemmas.List.{length-map}
use Rattle.mu_model.specs.Leaderships.{begins_leadership}
use Rattle.mu_model.specs.Knowledge.{commits, grown, known}
use Rattle.mu_agree.proofs.Readings.{known_within}
use Rattle.mu_knowledge.specs.Commits.{pair_of}
use Rattle.mu_follow.proofs.Kept.{few_commits}
use Rattle.mu_course.specs.Committing.{commit_by}
use Rattle.mu_course.specs.Resigning.{yields}
use Rattle.mu_course.proofs.Teaching.{commits_next}
use Rattle.mu_course.proofs.course.Course.note.Goals as goal

pub returns-clause-stands : goal.returns-clause-stands
returns-clause-stands c = λ mine possible stands is.
    let config = c.args.config.now in
    let e = c.args.event.now in
    let was = c.args.self.now.resigned in
    let after = c.take_event-told.ensures.stands mine possible stands.replica in
    let told = c.take_event-told.ensures.tells mine possible stands.replica in
    let old = c.args.self.now.commits in
    let commit = c.commit_in-commit.ensures ∙ ap (commit_by e.verb) told.taught in
    let are : map pair_of (grown old.items c.commit_in-commit.result) ≡ commits config e.by (e ∷ mine) =
    ap (λ o. map pair_of (grown old.items o)) commit
    ∙ commits_next config e.by e.by (length (known config e.by mine)) e.verb e.answer mine (e ∷ mine) old.items (commits config e.by mine) stands.commits.are in
    let long : length (grown old.items c.commit_in-commit.result) ≡ length (commits config e.by (e ∷ mine)) =
    sym (length-map (grown old.items c.commit_in-commit.result) pair_of) ∙ ap length are in
    let few = few_commits config e.by (e ∷ mine) in
    let within = known_within config e.by (e ∷ mine) possible in
    let room = stands.commits.room in
    let pushed = c.push_commit.ensures.items (omega (arith, long, few, within, room)) in
    record {
      commits = record { are = ap (map pair_of) pushed ∙ are; room = omega (arith, room, c.push_commit.ensures.room) };
      outrun = c.outrun_after-self.ensures config mine told.known stands.outrun;
      replica = after;
      scores = c.note.ensures config.replicas e.by mine stands.scores;
      resigned = c.resigned_after-self.ensures
          ∙ (ap (λ b. if b then false else (c.args.yields || was)) c.begins.ensures
          ∙ (ap (λ y. if begins_leadership e.by e then false else (y || was)) is
          ∙ ap (λ w. if begins_leadership e.by e then false else (yields config e.by mine e || w)) stands.resigned));
      heads = c.note-2.ensures mine stands.heads;
      completion = c.count_applied.ensures e.by mine e c.requires.config possible after.known_log after.held_rows stands.completion;
    }
