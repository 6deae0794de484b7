use Rattle.std.proofs.Common.{◌≡◌, ◌∙◌, ◌++◌, ap, arith, cond, is_ok, length, map, subst, sym, take}
use Rattle.std.proofs.lemmas.List.{length-map}
use Rattle.mu_model.specs.Knowledge.{applied, commits, has_entry, known}
use Rattle.mu_agree.proofs.Readings.{known_within}
use Rattle.mu_knowledge.proofs.Fetched.{front_fits}
use Rattle.mu_knowledge.specs.Commits.{pair_of}
use Rattle.mu_follow.proofs.Kept.{applied_is, few_commits}
use Rattle.mu_node.specs.Answers.{HoldsAnswers}
use Rattle.mu_node.proofs.Reading.{all_known}
use Rattle.mu_node.proofs.node.Node.into_result.Goals as goal

pub unwrap-requires : goal.unwrap-requires
unwrap-requires c =
    let k = c.requires.stands.0 in
    let r = c.requires.stands.1 in
    let mine = c.requires.stands.2 in
    let held = c.requires.stands.5 in
    let follow = c.apply_ready.ensures.stands k r mine held.beside.follow in
    let within = known_within k r mine c.requires.stands.4 in
    let fits = front_fits (λ v. has_entry k r v mine) (known k r mine) in
    let values = c.known.ensures k r mine (length mine) follow in
    let count = c.applied_count.ensures k r mine follow in
    let long = ap length values in
    let first = c.first_values.ensures (omega (arith, fits, long, count)) in
    let is : c.first_values.result.now ≡ applied k r mine = first ∙ (ap (λ n. take n c.known.result.now) count ∙ (ap (λ l. take (length (applied k r mine)) l) values ∙ applied_is k r mine)) in
    let log_long = ap length is in
    let none = ap length held.beside.no_log in
    c.extend_from_slice.ensures.succeeds (omega (arith, none, log_long, fits, within, held.beside.log_room))

pub unwrap-requires-2 : goal.unwrap-requires-2
unwrap-requires-2 c =
    let k = c.requires.stands.0 in
    let r = c.requires.stands.1 in
    let mine = c.requires.stands.2 in
    let held = c.requires.stands.5 in
    let follow = c.apply_ready.ensures.stands k r mine held.beside.follow in
    let within = known_within k r mine c.requires.stands.4 in
    let listed = c.commits.ensures k r mine follow in
    let few = few_commits k r mine in
    let long : length c.commits.result.now ≡ length (commits k r mine) = sym (length-map c.commits.result.now pair_of) ∙ ap length listed in
    let none = ap length held.beside.no_commits in
    c.extend_from_slice-2.ensures.succeeds (omega (arith, none, long, few, within, held.beside.commit_room))

pub returns-clause-left : goal.returns-clause-left
returns-clause-left c k r mine good possible held =
    let follow = c.apply_ready.ensures.stands k r mine held.beside.follow in
    let fits = front_fits (λ v. has_entry k r v mine) (known k r mine) in
    let values = c.known.ensures k r mine (length mine) follow in
    let count = c.applied_count.ensures k r mine follow in
    let long = ap length values in
    let first = c.first_values.ensures (omega (arith, fits, long, count)) in
    let told = c.first_values.result.now in
    let is : told ≡ applied k r mine = first ∙ (ap (λ n. take n c.known.result.now) count ∙ (ap (λ l. take (length (applied k r mine)) l) values ∙ applied_is k r mine)) in
    let before = c.args.self.log.items in
    let log = c.extend_from_slice.ensures.items ∙ (ap (λ x. cond (is_ok x) (before ++ told) before) c.unwrap.ensures ∙ ap (λ l. l ++ told) held.beside.no_log) in
    let listed = c.commits.ensures k r mine follow in
    let made = c.commits.result.now in
    let none = c.args.self.commits.items in
    let list = c.extend_from_slice-2.ensures.items ∙ (ap (λ x. cond (is_ok x) (none ++ made) none) c.unwrap-2.ensures ∙ ap (λ l. l ++ made) held.beside.no_commits) in
    record {
      log = c.from_vec.ensures ∙ (log ∙ is);
      commits = ap (map pair_of) (c.from_vec-2.ensures ∙ list) ∙ listed;
      replies = λ commands are.
          let before = subst (λ n. HoldsAnswers k commands (take n (applied k r mine)) c.args.self.answers) (sym held.handed) (held.answers commands are) in
          c.into_replies.ensures ∙ (c.apply_ready.ensures.answers k r mine commands good possible (all_known k r mine held.reads) are held.beside.follow before).replies;
    }
