use Rattle.std.proofs.Common.{arith, [], ◌≡◌, ◌∙◌, ◌+◌, ◌%◌, ◌∷◌, ap, subst, sym, take}
use Rattle.std.proofs.lemmas.List.{length-take}
use Rattle.mu_follow.specs.Groups.{group_of, group_size}
use Rattle.mu_follow.proofs.Handing.{applied_words}
use Rattle.mu_node.specs.Answers.{HasAnswered, IsHeldRow}
use Rattle.mu_node.proofs.Answering.{more_answered, next_command, whole_group}
use Rattle.mu_node.proofs.answers.answer_entry.Goals as goal

pub loop-t-preserved : goal.loop-t-preserved
loop-t-preserved c k r mine commands i good possible reads are stands at size room =
    let v = c.args.ready.value in
    let t = c.loop-t.t in
    let follow = c.args.follow.now in
    let so_far = c.loop-t.invariant k r mine commands i good possible reads are stands at size room in
    let inside = c.loop-t-test.true in
    let next = next_command k commands v t good are (omega (arith, inside, size)) in
    let few = good.few in
    let near = next.low in
    let low = next.inside in
    let here : c.saturating_add.result ≡ v % 4096 + t = omega (arith, c.saturating_add.ensures, near, few) in
    let row : IsHeldRow k r mine (v % 4096 + t) next.command follow = record {
      there = next.low;
      stands = stands;
      words = applied_words k r mine i v t good possible reads at next.batch next.within;
      spelled = are.each (v % 4096 + t) next.command next.at;
    } in
    let left = so_far.left in
    let long = length-take t (group_of k commands v) in
    let one = c.answer_row.ensures next.command (k, r, mine, subst (λ n. IsHeldRow k r mine n next.command follow) (sym here) row) (omega (arith, left, long, low, room)) in
    subst (λ l. HasAnswered l c.args.answers.now c.answer_row.new.answers) (sym next.more)
    (more_answered (take t (group_of k commands v)) (next.command ∷ []) c.args.answers.now c.loop-t.answers c.answer_row.new.answers so_far one)

pub returns : goal.returns
returns c k r mine commands i good possible reads are stands at size room =
    let v = c.args.ready.value in
    let done = c.loop-t.invariant k r mine commands i good possible reads are stands at size room in
    let last : c.loop-t.t ≡ group_size k v = omega (arith, c.loop-t-test.false, c.loop-t.auto.t-end, size) in
    subst (λ l. HasAnswered l c.args.answers.now c.loop-t.answers) (ap (λ n. take n (group_of k commands v)) last ∙ whole_group k commands v) done
