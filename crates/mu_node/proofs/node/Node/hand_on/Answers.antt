use Rattle.std.proofs.Common.{◌≡◌, ◌∙◌, ◌==◌, ◌+◌, ◌*◌, ap, arith, false, length, subst, sym, take, true}
use Rattle.std.proofs.lemmas.Bool.{eq-eqb, ne_eqb}
use Rattle.mu_model.specs.Contents.{IsConfig}
use Rattle.mu_model.specs.Knowledge.{applied}
use Rattle.mu_node.specs.Answers.{HoldsAnswers}
use Rattle.mu_node.specs.Cycle.{place_now}
use Rattle.mu_node.proofs.Answering.{take_whole}
use Rattle.mu_node.proofs.Reading.{all_known}
use Rattle.mu_node.proofs.Turning.{handed_elsewhere, handed_here}
use Rattle.mu_node.proofs.node.Node.hand_on.Goals as goal

pub returns-then-place-saturating_add-clause-stands : goal.returns-then-place-saturating_add-clause-stands
returns-then-place-saturating_add-clause-stands c k r mine even possible at held =
    let good = subst (λ x. IsConfig x) held.beside.follow.config c.requires.config in
    let few = good.replicas.1 in
    let n = held.beside.replicas in
    let here : (place_now k mine == 2 * k.replicas + 20) ≡ true = eq-eqb (place_now k mine) (2 * k.replicas + 20) (omega (arith, at, few, n, c.if-place-saturating_add.true, c.saturating_add.ensures, c.saturating_mul.ensures)) in
    let b = held.beside in
    record {
      beside = record {
        id = b.id;
        replicas = b.replicas;
        budget = b.budget;
        grants = b.grants;
        watch = b.watch;
        follow = c.apply_ready.ensures.stands k r mine b.follow;
        no_log = b.no_log;
        log_room = b.log_room;
        no_commits = b.no_commits;
        commit_room = b.commit_room;
      };
      lead = held.lead;
      handed = c.apply_ready.ensures.all k r mine b.follow ∙ sym (handed_here k r mine even here);
      answers = λ commands are.
          let before = subst (λ n. HoldsAnswers k commands (take n (applied k r mine)) c.args.self.now.answers) (sym held.handed) (held.answers commands are) in
          let now = c.apply_ready.ensures.answers k r mine commands good possible (all_known k r mine held.reads) are b.follow before in
          subst (λ l. HoldsAnswers k commands l c.apply_ready.new.answers) (sym (ap (λ n. take n (applied k r mine)) (handed_here k r mine even here) ∙ take_whole (length (applied k r mine)) (applied k r mine) (omega arith))) now;
      reads = held.reads;
    }

pub returns-else-place-saturating_add-clause-stands : goal.returns-else-place-saturating_add-clause-stands
returns-else-place-saturating_add-clause-stands c k r mine even possible at held =
    let good = subst (λ x. IsConfig x) held.beside.follow.config c.requires.config in
    let few = good.replicas.1 in
    let n = held.beside.replicas in
    let other : (place_now k mine == 2 * k.replicas + 20) ≡ false = ne_eqb (place_now k mine) (2 * k.replicas + 20) (λ e. absurd (c.if-place-saturating_add.false (omega (arith, at, e, few, n, c.saturating_add.ensures, c.saturating_mul.ensures)))) in
    record {
      beside = held.beside;
      lead = held.lead;
      handed = held.handed ∙ sym (handed_elsewhere k r mine other);
      answers = λ commands are. subst (λ n. HoldsAnswers k commands (take n (applied k r mine)) c.args.self.now.answers) (sym (handed_elsewhere k r mine other)) (held.answers commands are);
      reads = held.reads;
    }
