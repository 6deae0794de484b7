use Rattle.std.proofs.Common.{◌≡◌, ◌∙◌, ◌+◌, ◌-◌, ◌<◌, ◌≤◌, [], ◌∷◌, ◌++◌, None, Some, ap, arith, inl, inr, length, subst, sym}
use Rattle.std.proofs.lemmas.Bool.{cases_lt}
use Rattle.std.proofs.lemmas.List.{length_push}
use Rattle.mu_engine.specs.Laws.{order_after}
use Rattle.std.specs.List.{slice_get}
use Rattle.mu_model.proofs.Lists.{get_front}
use Rattle.mu_engine.specs.Live.{Live, next_command}
use Rattle.mu_engine.specs.Moments.{IsMoment}
use Rattle.mu_eras.specs.Applied.{TellsOrder}
use Rattle.mu_eras.specs.Holding.{AreFollowed, HoldStores}
use Rattle.mu_eras.proofs.Handing.{stores_go, tells_go, tells_push}
use Rattle.mu_eras.proofs.Kept.{followed_still}
use Rattle.mu_eras.proofs.submitting.take_command.Goals as goal

pub returns-in_err-row-clause-holds : goal.returns-in_err-row-clause-holds
returns-in_err-row-clause-holds c base stores held = subst (λ live. HoldStores base live stores) (sym c.in_err-row.ensures.refused) held

pub returns-clause-holds : goal.returns-clause-holds
returns-clause-holds c base stores held =
    let live = c.args.engine.now in
    let later = c.submit.new.self in
    let taken = c.in_ok-row.ensures.taken in
    let many = ap (λ (l : Live). length l.job.commands) taken ∙ length_push live.job.commands (next_command live.job c.args.client c.args.op) in
    let left = ap (λ (l : Live). l.room) taken in
    let never : c.args.engine.now.room ≡ 0 → ⊥ = λ none. (let same = c.in_ok-row.ensures.full.1 none in cc) in
    let some : 0 < c.args.engine.now.room = elim (cases_lt 0 c.args.engine.now.room) [ inl low ↦ low | inr high ↦ absurd (never (omega (arith, high))) ] in
    let few : length c.submit.new.self.job.commands + c.submit.new.self.room ≤ length c.args.engine.now.job.commands + c.args.engine.now.room = omega (arith, many, left, some) in
    stores_go base live later stores c.events.ensures.moment c.events-2.ensures.moment c.submit.ensures.goes few held

pub returns-clause-tells : goal.returns-clause-tells
returns-clause-tells c base told =
    let live = c.args.engine.now in
    let later = c.submit.new.self in
    subst (λ l. TellsOrder base later.job.commands (order_after later.job later.events) l) (sym c.push_reserved.ensures.items)
    (tells_go base live later (c.args.replies.now.items ++ None ∷ []) c.events.ensures.moment c.events-2.ensures.moment c.submit.ensures.goes
    (tells_push base live.job.commands (order_after live.job live.events) c.args.replies.now.items told))

pub returns-in_err-row-clause-held : goal.returns-in_err-row-clause-held
returns-in_err-row-clause-held c = ap (λ (l : Live). l.holds) c.in_err-row.ensures.refused

pub returns-clause-held : goal.returns-clause-held
returns-clause-held c = ap (λ (l : Live). l.holds) c.in_ok-row.ensures.taken

pub returns-in_err-row-clause-kept : goal.returns-in_err-row-clause-kept
returns-in_err-row-clause-kept c are = subst (λ (live : Live). AreFollowed live c.args.replies.now.items) (sym c.in_err-row.ensures.refused) are

pub returns-clause-kept : goal.returns-clause-kept
returns-clause-kept c are =
    let live = c.args.engine.now in
    let command = next_command live.job c.args.client c.args.op in
    let taken = c.in_ok-row.ensures.taken in
    subst (λ (l : Live). AreFollowed l c.push_reserved.new.self.items) (sym taken)
    (followed_still live command (live.room - 1) c.args.replies.now.items c.push_reserved.new.self.items c.events.ensures.moment
    (subst (λ (l : Live). IsMoment l.job l.events) taken c.events-2.ensures.moment)
    (λ row is. record { reply = is.reply; at = ap (λ l. slice_get l row) c.push_reserved.ensures.items ∙ get_front c.args.replies.now.items (None ∷ []) row (Some is.reply) is.at }) are)
