use Rattle.mu_lead.specs.Leading.{end_of}
use Rattle.mu_lead.specs.Listing.{heads_from, may_mark}
use Rattle.mu_agree.proofs.Within.{known_few}
use Rattle.mu_model.specs.Scores.{is_failed}
use Rattle.std.proofs.Common.{List, Some, ap, arith, length, subst, sym, ℕ, ◌&&◌, ◌+◌, ◌<◌, ◌==◌, ◌∙◌, ◌≡◌}
use Rattle.std.specs.Prelude.{nat_lt, not}
use Rattle.mu_lead.proofs.lead.Lead.after_head.Goals as goal

pub returns-then-leaves_room : goal.returns-then-leaves_room
returns-then-leaves_room c = λ counts now s told region heeded.
    let l = c.args.self.now in
    let few = s.config.replicas.1 in
    let h = c.args.head in
    let short = subst (λ values. length values < 65536) (sym told) (known_few l.config l.id now s.config s.possible) in
    let high = subst (λ values. c.leaves_room.result ≡ nat_lt (length values + c.reserve_of.result) (h + l.config.ring)) told (c.leaves_room.ensures short) ∙ ap (λ free. nat_lt (end_of l.config l.id now + free) (h + l.config.ring)) c.reserve_of.ensures in
    let more = c.saturating_add-next.ensures in
    let next : c.saturating_add-next.result ≡ c.args.q + 1 = omega (arith, more, region, few) in
    rw (sym high ∙ c.if-leaves_room.true) (c.heads_from.ensures counts now s told ∙ ap (λ k. heads_from l.config l.id now l.heads k c.args.candidate) next)

pub returns-then-may_mark : goal.returns-then-may_mark
returns-then-may_mark c = λ counts now s told region heeded.
    let l = c.args.self.now in
    let few = s.config.replicas.1 in
    let q = c.args.q in
    let h = c.args.head in
    let short = subst (λ values. length values < 65536) (sym told) (known_few l.config l.id now s.config s.possible) in
    let high = subst (λ values. c.leaves_room.result ≡ nat_lt (length values + c.reserve_of.result) (h + l.config.ring)) told (c.leaves_room.ensures short) ∙ ap (λ free. nat_lt (end_of l.config l.id now + free) (h + l.config.ring)) c.reserve_of.ensures in
    let may : may_mark l.config l.id now q h ≡ c.may_mark.result = sym (c.may_mark.ensures short ∙ ap (λ t. not (q == l.id) && (t && nat_lt (length c.args.known.now + 0) (h + l.config.ring))) heeded ∙ ap (λ (values : List ℕ). not (q == l.id) && (is_failed l.id q now && nat_lt (length values + 0) (h + l.config.ring))) told ∙ ap (λ n. not (q == l.id) && (is_failed l.id q now && nat_lt n (h + l.config.ring))) (let plain : end_of l.config l.id now + 0 ≡ end_of l.config l.id now = omega arith in plain)) in
    let more = c.saturating_add-next.ensures in
    let next : c.saturating_add-next.result ≡ c.args.q + 1 = omega (arith, more, region, few) in
    rw (sym high ∙ c.if-leaves_room.false, may ∙ c.if-may_mark.true) (c.heads_from-then-may_mark.ensures counts now s told ∙ ap (λ k. heads_from l.config l.id now l.heads k (Some c.first_of.result)) next ∙ ap (heads_from l.config l.id now l.heads (q + 1)) c.first_of.ensures)

pub returns-else-may_mark : goal.returns-else-may_mark
returns-else-may_mark c = λ counts now s told region heeded.
    let l = c.args.self.now in
    let q = c.args.q in
    let h = c.args.head in
    let short = subst (λ values. length values < 65536) (sym told) (known_few l.config l.id now s.config s.possible) in
    let high = subst (λ values. c.leaves_room.result ≡ nat_lt (length values + c.reserve_of.result) (h + l.config.ring)) told (c.leaves_room.ensures short) ∙ ap (λ free. nat_lt (end_of l.config l.id now + free) (h + l.config.ring)) c.reserve_of.ensures in
    let may : may_mark l.config l.id now q h ≡ c.may_mark.result = sym (c.may_mark.ensures short ∙ ap (λ t. not (q == l.id) && (t && nat_lt (length c.args.known.now + 0) (h + l.config.ring))) heeded ∙ ap (λ (values : List ℕ). not (q == l.id) && (is_failed l.id q now && nat_lt (length values + 0) (h + l.config.ring))) told ∙ ap (λ n. not (q == l.id) && (is_failed l.id q now && nat_lt n (h + l.config.ring))) (let plain : end_of l.config l.id now + 0 ≡ end_of l.config l.id now = omega arith in plain)) in
    rw (sym high ∙ c.if-leaves_room.false, may ∙ c.if-may_mark.false) (c.late_from.ensures counts now s told)
