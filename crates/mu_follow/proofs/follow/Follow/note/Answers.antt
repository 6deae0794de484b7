use Rattle.std.proofs.Common.{List, arith, length, subst, ℕ, ◌+◌, ◌<◌, ◌∷◌, ◌≡◌}
use Rattle.mu_model.specs.declared.config.Config.{Config}
use Rattle.mu_model.specs.declared.event.Event.{Event}
use Rattle.mu_agree.proofs.Within.{is_short}
use Rattle.mu_follow.specs.declared.follow.Follow.{Follow}
use Rattle.mu_follow.specs.Follow.{HoldsFollow}
use Rattle.mu_follow.proofs.follow.Follow.note.Goals as goal

-- the same with another count of events
counted : (k : Config) (r n m : ℕ) (mine : List Event) (state : Follow) (steps : ℕ) → steps ≡ m → HoldsFollow k r mine n state → HoldsFollow k r mine m (record state { steps = steps })
counted k r n m mine state steps is held = record {
  config = held.config;
  replica = held.replica;
  inside = held.inside;
  steps = is;
  knowing = held.knowing;
  rows = held.rows;
  words = held.words;
  own_log = held.own_log;
  heads = held.heads;
  completion = held.completion;
  commits = held.commits;
  outrun = held.outrun;
  progress = held.progress;
}

pub returns-clause-stands : goal.returns-clause-stands
returns-clause-stands c mine possible held none =
    let state = c.args.self.now in
    let k = state.config in
    let e = c.args.event.now in
    let few : length mine < 131071 = is_short k e.by mine e c.requires.config possible in
    let was = held.steps in
    let up = c.steps_after-self.ensures (omega (arith, few, was)) in
    let more : length mine + 1 ≡ length (e ∷ mine) = omega arith in
    subst (λ n. HoldsFollow k e.by (e ∷ mine) n c.note_by_kind.new.self) more
    (c.note_by_kind.ensures.stands mine (length mine + 1) possible (counted k e.by (length mine) (length mine + 1) mine state c.steps_after-self.result (omega (arith, up, was)) held) none)

pub returns-clause-awaits : goal.returns-clause-awaits
returns-clause-awaits c mine entry possible held some =
    let state = c.args.self.now in
    let k = state.config in
    let e = c.args.event.now in
    let few : length mine < 131071 = is_short k e.by mine e c.requires.config possible in
    let was = held.steps in
    let up = c.steps_after-self.ensures (omega (arith, few, was)) in
    c.note_by_kind.ensures.awaits mine (length mine + 1) entry (counted k e.by (length mine) (length mine + 1) mine state c.steps_after-self.result (omega (arith, up, was)) held) some
