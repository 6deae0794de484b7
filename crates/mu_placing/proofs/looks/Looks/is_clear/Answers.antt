use Rattle.std.proofs.Common.{◌≡◌, sym, ap, ◌∙◌, ◌&&◌, true}
use Rattle.std.specs.Prelude.{not}
use Rattle.mu_model.specs.Histories.{has}
use Rattle.mu_model.specs.Leaderships.{is_member, leadership}
use Rattle.mu_model.specs.Picks.{is_past_look, look_answer}
use Rattle.mu_placing.proofs.looks.Looks.is_clear.Goals as goal

pub returns-then-is_member : goal.returns-then-is_member
returns-then-is_member c k r mine low near leading held =
    let member : is_member r c.args.p mine ≡ true = sym (c.is_member.ensures r mine low leading) ∙ c.if-is_member.true in
    ap not (c.has_seen_past.ensures k r mine low near held) ∙ sym (ap (λ b. not (b && has (λ e. is_past_look (look_answer r c.args.p c.args.i e.by e.verb e.answer)) (leadership r mine))) member)
