-- A reply that was told is told at each later moment.
use Rattle.std.proofs.Common.{◌≡◌, ◌∙◌, ℕ, suc, zero, ◌==◌, Bool, true, false, List, [], ◌∷◌, ◌++◌, ap, append-nil, append_assoc, drop, length, refl, subst, sym, take}
use Rattle.std.specs.Prelude.{if◌then◌else◌}
use Rattle.std.proofs.lemmas.List.{reverse-append, take-append-drop}
use Rattle.mu_input.specs.declared.job.Job.{Job}
use Rattle.mu_model.specs.declared.config.Config.{Config}
use Rattle.mu_model.specs.declared.config.Row.{Row}
use Rattle.mu_model.specs.declared.event.Event.{Event}
use Rattle.mu_model.specs.Contents.{IsConfig}
use Rattle.mu_model.specs.Growing.{with_more}
use Rattle.mu_model.specs.Histories.{IsPrefixOf, history, part}
use Rattle.mu_model.specs.Knowledge.{applied}
use Rattle.mu_model.specs.Legal.{IsLegal}
use Rattle.mu_model.proofs.Parts.{filter-append, part_is_possible}
use Rattle.mu_agree.proofs.Growing.{applied_stays_law}
use Rattle.mu_follow.specs.Completion.{AreEntries}
use Rattle.mu_follow.proofs.Growing.{taken_entries}
use Rattle.mu_node.specs.Cycle.{handed_before, hands_on}
use Rattle.mu_node.proofs.Growing.{handed_kept}
use Rattle.mu_clients.proofs.Agreeing.{reply_along}
use Rattle.mu_outcome.specs.LogsAfter.{log_after}
use Rattle.mu_outcome.proofs.LogsAgreeing.{logs_agree_law}
use Rattle.mu_engine.specs.Laws.{RepliesLast}
use Rattle.mu_engine.specs.Moments.{GoesOn, IsMoment}
use Rattle.mu_engine.specs.Telling.{handed_log}
use Rattle.mu_engine.proofs.Going.{applied_begins, over_stays}

-- a front begins that of a longer list
take_on : {A : Type 0} (n : ℕ) (xs more : List A) → IsPrefixOf (take n xs) (take n (xs ++ more))
take_on zero xs more = ([], refl)
take_on (suc n) [] more = (take (suc n) more, refl)
take_on (suc n) (x ∷ xs) more =
    let rest = take_on n xs more in (rest.0, ap (λ l. x ∷ l) rest.1)

take_along : {A : Type 0} (n : ℕ) (xs ys : List A) → IsPrefixOf xs ys
    → IsPrefixOf (take n xs) (take n ys)
take_along n xs ys begins =
    subst (λ l. IsPrefixOf (take n xs) (take n l)) (sym begins.1) (take_on n xs begins.0)

-- and the whole list, as far as the longer one goes on from it
take_whole : {A : Type 0} (xs more : List A) → take (length xs) (xs ++ more) ≡ xs
take_whole [] more = refl
take_whole (x ∷ xs) more = ap (λ l. x ∷ l) (take_whole xs more)

front_of_whole : {A : Type 0} (n : ℕ) (xs ys : List A) → IsPrefixOf xs ys
    → IsPrefixOf (take n xs) (take (length xs) ys)
front_of_whole n xs ys begins = (
  drop n xs,
  ap (take (length xs)) begins.1 ∙ take_whole xs begins.0 ∙ sym (take-append-drop n xs),
)

-- what a replica has handed on after its events, newest first
abbrev handed_on : Config → ℕ → List Event → List ℕ
handed_on c r mine = take (handed_before c r mine) (applied c r mine)

-- one event more takes nothing of it
handed_next : (c : Config) (r : ℕ) (e : Event) (mine : List Event)
    → IsPrefixOf (handed_on c r mine) (handed_on c r (e ∷ mine))
handed_next c r e mine = go (hands_on c mine)
  where
    begins : IsPrefixOf (applied c r mine) (applied c r (e ∷ mine))
    begins = applied_begins c r (e ∷ []) mine

    go : (t : Bool) → IsPrefixOf (handed_on c r mine)
        (take (if t then length (applied c r mine) else handed_before c r mine)
        (applied c r (e ∷ mine)))
    go true = front_of_whole (handed_before c r mine) (applied c r mine) (applied c r (e ∷ mine)) begins
    go false = take_along (handed_before c r mine) (applied c r mine) (applied c r (e ∷ mine)) begins

handed_along : (c : Config) (r : ℕ) (newer mine : List Event)
    → IsPrefixOf (handed_on c r mine) (handed_on c r (newer ++ mine))
handed_along c r [] mine = ([], sym (append-nil (handed_on c r mine)))
handed_along c r (e ∷ newer) mine =
    let first = handed_along c r newer mine in let next = handed_next c r e (newer ++ mine) in (
      first.0 ++ next.0,
      next.1 ∙ ap (λ l. l ++ next.0) first.1 ∙ append_assoc (handed_on c r mine) first.0 next.0,
    )

-- nor do rows that come
handed_same : (c : Config) (more : List Row) (r : ℕ) (events : List Event) → IsConfig c
    → IsConfig (with_more c more) → IsLegal c events
    → handed_log (with_more c more) events r ≡ handed_log c events r
handed_same c more r events good grown legal =
    let mine = part r (history events) in
    let possible = part_is_possible c r (history events) legal in
    ap (λ n. take n (applied (with_more c more) r mine)) (handed_kept c more r mine good grown possible)
    ∙ ap (take (handed_before c r mine)) (applied_stays_law c more r mine good grown possible)

handed_stays : (c : Config) (more : List Row) (older newer : List Event) (r : ℕ) → IsConfig c
    → IsConfig (with_more c more) → IsLegal c older
    → IsPrefixOf (handed_log c older r) (handed_log (with_more c more) (older ++ newer) r)
handed_stays c more older newer r good grown legal =
    let mine = part r (history older) in let next = part r (history newer) in
    let whole : part r (history (older ++ newer)) ≡ next ++ mine =
    ap (part r) (reverse-append older newer)
    ∙ filter-append (λ e. e.by == r) (history newer) (history older) in
    let begins = handed_along (with_more c more) r next mine in
    let same = handed_same c more r older good grown legal in (
      begins.0,
      ap (handed_on (with_more c more) r) whole ∙ begins.1 ∙ ap (λ l. l ++ begins.0) same,
    )

-- what a replica has handed on begins what it has at a later moment
pub handed_goes : (job : Job) (events : List Event) (later : Job) (after : List Event) (r : ℕ)
    → IsMoment job events → IsMoment later after → GoesOn job events later after
    → IsPrefixOf (handed_log job.config events r) (handed_log later.config after r)
handed_goes job events later after r was is goes =
    subst (λ k. IsPrefixOf (handed_log job.config events r) (handed_log k after r))
    (sym goes.config_is)
    (subst
    (λ l. IsPrefixOf (handed_log job.config events r)
    (handed_log (with_more job.config goes.rows) l r)) (sym goes.events_are)
    (handed_stays job.config goes.rows events goes.steps r was.config
    (subst IsConfig goes.config_is is.config) was.legal))

pub handed_entries : (job : Job) (events : List Event) (r : ℕ) → IsMoment job events
    → AreEntries job.config (handed_log job.config events r)
handed_entries job events r at =
    taken_entries job.config (handed_before job.config r (part r (history events)))
    (log_after job.config events r)
    (λ i v there. (logs_agree_law job events at.config at.heads at.legal).entries r i v there)

pub replies_last_law : RepliesLast
replies_last_law job events later after r row reply was is goes told =
    let old = handed_log job.config events r in
    reply_along later old (handed_log later.config after r) row reply
    (handed_goes job events later after r was is goes)
    (over_stays job events later after old row was is goes (handed_entries job events r was) ∙ told)
