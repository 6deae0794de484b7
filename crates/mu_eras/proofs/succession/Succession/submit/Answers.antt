use Rattle.std.proofs.Common.{◌≡◌, ◌∙◌, ◌<◌, ap, arith, inl, inr, length, refl}
use Rattle.std.proofs.lemmas.Bool.{cases_lt}
use Rattle.std.proofs.lemmas.List.{length_push}
use Rattle.mu_engine.specs.Live.{Live, next_command}
use Rattle.mu_eras.specs.declared.succession.Succession.{Succession}
use Rattle.mu_eras.proofs.Lasting.{eras_on, lasting_on}
use Rattle.mu_eras.proofs.succession.Succession.submit.Goals as goal

pub returns-clause-inside : goal.returns-clause-inside
returns-clause-inside c =
    let e = c.args.self.now in
    let live = e.present.engine in
    let taken = c.in_ok-submit.ensures.taken in
    let many = ap (λ (l : Live). length l.job.commands) taken ∙ length_push live.job.commands (next_command live.job c.args.client c.args.op) in
    let left = ap (λ (l : Live). l.room) taken in
    let never : c.args.self.now.present.engine.room ≡ 0 → ⊥ = λ none. (let same = c.in_ok-submit.ensures.full.1 none in cc) in
    let some : 0 < c.args.self.now.present.engine.room = elim (cases_lt 0 c.args.self.now.present.engine.room) [ inl low ↦ low | inr high ↦ absurd (never (omega (arith, high))) ] in
    let d : Succession = record { alloc = e.alloc; shape = e.shape; present = c.submit.new.self; last = e.last; past = e.past; ended = e.ended; rounds = e.rounds; halted = e.halted } in
    lasting_on e d c.requires.inside c.submit.ensures.inside refl refl (ap length c.submit.ensures.held) (omega (arith, many, left, some)) c.submit.ensures.space refl

pub returns-clause-here : goal.returns-clause-here
returns-clause-here c past held =
    let e = c.args.self.now in
    let d : Succession = record { alloc = e.alloc; shape = e.shape; present = c.submit.new.self; last = e.last; past = e.past; ended = e.ended; rounds = e.rounds; halted = e.halted } in
    eras_on past e d held (c.submit.ensures.holds past held.present) refl refl refl
