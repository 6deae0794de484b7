use Rattle.std.proofs.Common.{◌+◌, ap, false, inl, inr, refl, subst, sym}
use Rattle.mu_engine.specs.Live.{Live}
use Rattle.mu_engine.specs.Moments.{GoesOn}
use Rattle.mu_engine.proofs.Going.{goes_still}
use Rattle.mu_eras.specs.declared.succession.Succession.{Succession}
use Rattle.mu_eras.proofs.Lasting.{eras_next, eras_on, lasts_next, lasts_on}
use Rattle.mu_eras.proofs.succession.Succession.renew.Goals as goal

pub returns-in_default-clause-lasts : goal.returns-in_default-clause-lasts
returns-in_default-clause-lasts c past held = let e = c.args.self.now in lasts_on past e e held (goes_still e.present.engine.job e.present.engine.events) refl

pub returns-in_err-renew-clause-lasts : goal.returns-in_err-renew-clause-lasts
returns-in_err-renew-clause-lasts c past held =
    let e = c.args.self.now in
    let live = e.present.engine in
    let d : Succession = record { alloc = e.alloc; shape = e.shape; present = c.renew.new.self; last = c.renew.new.last; past = e.past; ended = e.ended; rounds = e.rounds; halted = e.halted } in
    let same = c.in_err-renew.ensures.same in
    lasts_on past e d (eras_on past e d held (c.in_err-renew.ensures.kept past held.present) refl refl (ap (λ v. v.items) c.in_err-renew.ensures.same_last))
    (subst (λ (l : Live). GoesOn live.job live.events l.job l.events) (sym same) (goes_still live.job live.events)) (ap (λ (l : Live). l.job) same)

pub returns-clause-lasts : goal.returns-clause-lasts
returns-clause-lasts c past held =
    let e = c.args.self.now in
    let d : Succession = record { alloc = e.alloc; shape = e.shape; present = c.renew.new.self; last = c.renew.new.last; past = c.in-Some.past; ended = e.ended + 1; rounds = 0; halted = false } in
    lasts_next past e d
    (eras_next past e d c.args.from held c.requires.settled (c.in_ok-renew.ensures.next past held.present) c.in_ok-renew.ensures.last c.in-Some.ensures.count refl)
    (ap (λ (l : Live). l.job.commands) c.in_ok-renew.ensures.live)

pub returns-in_default-clause-now : goal.returns-in_default-clause-now
returns-in_default-clause-now c = inl refl

pub returns-in_err-renew-clause-now : goal.returns-in_err-renew-clause-now
returns-in_err-renew-clause-now c = inl c.in_err-renew.ensures.same

pub returns-clause-now : goal.returns-clause-now
returns-clause-now c = inr c.in_ok-renew.ensures.live
