use Rattle.std.proofs.Common.{rules, ◌≡◌, ◌∙◌, ap, arith, drop, false, subst, sym, take, true}
use Rattle.std.specs.List.{slice_get}
use Rattle.kv_store.specs.Tables.{replies}
use Rattle.mu_model.specs.Contents.{includes, rows_in}
use Rattle.mu_model.specs.Knowledge.{applied}
use Rattle.mu_follow.specs.Groups.{groups_of}
use Rattle.mu_node.specs.Cycle.{handed_before}
use Rattle.mu_node.specs.Telling.{TellsPlace}
use Rattle.mu_node.proofs.FewRows.{few_rows_first, first_lack}
use Rattle.mu_node.proofs.Telling.{beside_none, beside_place, lacked_first, told_of}
use Rattle.mu_node.proofs.node.Node.reply_to.Goals as goal

pub returns-then-not-has_applied : goal.returns-then-not-has_applied
returns-then-not-has_applied c k r mine commands good possible are held =
    let n = handed_before k r mine in
    let told = replies (groups_of k commands (take n (applied k r mine))) in
    let none : includes c.args.row (rows_in k (applied k r mine)) ≡ false = sym (c.has_applied.ensures k r mine good held.beside.follow) ∙ search rules in
    sym (beside_none c.args.row (rows_in k (take n (applied k r mine))) told (lacked_first k n c.args.row (applied k r mine) none))

pub returns-then-is_among : goal.returns-then-is_among
returns-then-is_among c k r mine commands good possible are held =
    let n = handed_before k r mine in
    let log = applied k r mine in
    let row = c.args.row in
    let told = replies (groups_of k commands (take n log)) in
    let entries = c.entries_to_hand_on.ensures k r mine held.beside.follow ∙ ap (λ m. drop m log) held.handed in
    let config = c.config.ensures ∙ held.beside.follow.config in
    let there : includes row (rows_in k (drop n log)) ≡ true = sym (ap (λ l. includes row (rows_in k l)) entries) ∙ (sym (ap (λ z. includes row (rows_in z c.entries_to_hand_on.result.now)) config) ∙ (sym c.is_among.ensures ∙ c.if-is_among.true)) in
    sym (beside_none row (rows_in k (take n log)) told (first_lack k r n row mine good possible there))

pub returns-in-Some : goal.returns-in-Some
returns-in-Some c k r mine commands good possible are held =
    let entries = take (handed_before k r mine) (applied k r mine) in
    let told = replies (groups_of k commands entries) in
    let few = few_rows_first k r (handed_before k r mine) mine good possible in
    let place = told_of k c.config-2.result.now c.args.row entries c.entries_handed_on.result.now c.place_in.result (c.config-2.ensures ∙ held.beside.follow.config) (c.entries_handed_on.ensures k r mine held.beside ∙ ap (λ m. take m (applied k r mine)) held.handed) (omega (arith, few, good.few)) c.place_in.ensures in
    let first = subst (λ o. TellsPlace c.args.row (rows_in k entries) o) c.in-Some.is place in
    c.reply.ensures ∙ (ap (λ l. slice_get l c.in-Some.at) (held.answers commands are).replies ∙ sym (beside_place c.args.row (rows_in k entries) told c.in-Some.at first))

pub returns-in-None : goal.returns-in-None
returns-in-None c k r mine commands good possible are held =
    let entries = take (handed_before k r mine) (applied k r mine) in
    let told = replies (groups_of k commands entries) in
    let few = few_rows_first k r (handed_before k r mine) mine good possible in
    let place = told_of k c.config-2.result.now c.args.row entries c.entries_handed_on.result.now c.place_in.result (c.config-2.ensures ∙ held.beside.follow.config) (c.entries_handed_on.ensures k r mine held.beside ∙ ap (λ m. take m (applied k r mine)) held.handed) (omega (arith, few, good.few)) c.place_in.ensures in
    sym (beside_none c.args.row (rows_in k entries) told (subst (λ o. TellsPlace c.args.row (rows_in k entries) o) c.in-None.is place))
