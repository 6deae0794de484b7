use Rattle.mu_lead.specs.Leading.{end_of}
use Rattle.mu_lead.specs.Listing.{may_mark}
use Rattle.mu_lead.specs.Notes.{note_of_head}
use Rattle.mu_lead.specs.Saying.{note_of_learning}
use Rattle.mu_lead.specs.Sets.{is_bit}
use Rattle.mu_lead.specs.Stepping.{GoesBy}
use Rattle.mu_agree.proofs.Within.{known_few}
use Rattle.mu_model.specs.Room.{reserve}
use Rattle.mu_model.specs.Scores.{is_failed}
use Rattle.std.proofs.Common.{List, ap, arith, length, subst, sym, ℕ, ◌&&◌, ◌+◌, ◌<◌, ◌==◌, ◌∙◌, ◌≡◌}
use Rattle.std.specs.Prelude.{min, nat_lt, not}
use Rattle.mu_lead.proofs.lead.Lead.note.Goals as goal

pub returns-in-Learn : goal.returns-in-Learn
returns-in-Learn c = λ past now t taken commits.
    let l = c.args.self.now in
    let s = taken.stands in
    let told = subst (GoesBy l.config l.id l.failed past now c.args.known.now c.args.answer) c.in-Learn.is taken.goes in
    rw c.in-Learn.is (c.note_of_learning.ensures (subst (λ xs. length xs < 65536) (sym told) (known_few l.config l.id now s.config s.possible)) ∙ ap (λ xs. note_of_learning (length xs) c.args.answer) told)

pub returns-in-ReadHead : goal.returns-in-ReadHead
returns-in-ReadHead c = λ past now t taken commits.
    let l = c.args.self.now in
    let s = taken.stands in
    let q = c.in-ReadHead.q in
    let goes = subst (GoesBy l.config l.id l.failed past now c.args.known.now c.args.answer) c.in-ReadHead.is taken.goes in
    let told = goes.0 in
    let x = c.number_told-in-ReadHead.result in
    let end = end_of l.config l.id now in
    let few = subst (λ xs. length xs < 65536) (sym told) (known_few l.config l.id now s.config s.possible) in
    rw c.in-ReadHead.is
    (c.note_of_head.ensures few
    ∙ ap (λ (xs : List ℕ). note_of_head q (min x 65535) (length xs) (nat_lt (length xs + reserve l.config) (x + l.config.ring)) (not (q == l.id) && (is_bit q l.failed && nat_lt (length xs + 0) (x + l.config.ring)))) told
    ∙ ap (λ t. note_of_head q (min x 65535) end (nat_lt (end + reserve l.config) (x + l.config.ring)) (not (q == l.id) && (t && nat_lt (end + 0) (x + l.config.ring)))) goes.1
    ∙ ap (λ n. note_of_head q (min x 65535) end (nat_lt (end + reserve l.config) (x + l.config.ring)) (not (q == l.id) && (is_failed l.id q now && nat_lt n (x + l.config.ring)))) (let none : end + 0 ≡ end = omega arith in none)
    ∙ ap (λ n. note_of_head q (min n 65535) end (nat_lt (end + reserve l.config) (n + l.config.ring)) (may_mark l.config l.id now q n)) c.number_told-in-ReadHead.ensures)
