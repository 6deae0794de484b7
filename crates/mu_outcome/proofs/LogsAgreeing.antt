-- The logs of a legal list agree at each moment, and so do the replies over them.
use Rattle.std.proofs.Common.{◌≡◌, ◌∙◌, ℕ, suc, zero, ◌+◌, ◌<◌, ◌≤◌, List, [], ◌∷◌, ◌++◌, Some, ap, append-nil, arith, drop, inl, inr, length, refl, subst, sym, ◌⊎◌}
use Rattle.std.specs.List.{slice_get}
use Rattle.std.proofs.lemmas.Bool.{cases_lt}
use Rattle.std.proofs.lemmas.List.{length_push}
use Rattle.std.proofs.lemmas.Option.{slice_get_within}
use Rattle.kv_store.specs.Sessions.{IsInSession}
use Rattle.kv_store.specs.Tables.{replies}
use Rattle.mu_input.specs.Heads.{HaveHeads}
use Rattle.mu_input.specs.declared.job.Job.{Job}
use Rattle.mu_model.specs.declared.config.Config.{Config}
use Rattle.mu_model.specs.declared.event.Event.{Event}
use Rattle.mu_model.specs.Contents.{IsConfig}
use Rattle.mu_model.specs.Histories.{IsPrefixOf, history, part}
use Rattle.mu_model.specs.Knowledge.{applied, commits, known}
use Rattle.mu_model.specs.Legal.{IsLegal}
use Rattle.mu_model.proofs.Basics.{same_some}
use Rattle.mu_model.proofs.Lists.{get_front, get_push_here}
use Rattle.mu_agree.proofs.Prefixes.{known_agree, lists_agree}
use Rattle.mu_agree.proofs.Sessions.{known_in_session_law, known_stands_law}
use Rattle.mu_outcome.specs.Entries.{commands_in, longest}
use Rattle.mu_outcome.specs.LogsAfter.{AgreesNow, LogsAgree, log_after, logs_after, longest_after}
use Rattle.mu_outcome.proofs.Agreeing.{all_known, applied_known, commit_known, empty_one, has_value, in_session, replies_begin, same_begun}
use Rattle.mu_outcome.proofs.LongestLogs.{longest_is, longest_most}

logs_count : (c : Config) (events : List Event) (n : ℕ) → length (logs_after c events n) ≡ n
logs_count c events zero = refl
logs_count c events (suc n) = let long = length_push (logs_after c events n) (log_after c events n) in let rest = logs_count c events n in omega (arith, long, rest)

-- the log of a replica among those of all
pub log_at : (c : Config) (events : List Event) (n r : ℕ) → r < n → slice_get (logs_after c events n) r ≡ Some (log_after c events r)
log_at c events zero r low = absurd (omega (arith, low))
log_at c events (suc n) r low = elim (cases_lt r n) [
  | inl below ↦ get_front (logs_after c events n) (log_after c events n ∷ []) r (log_after c events r) (log_at c events n r below)
  | inr above ↦
      let same : n ≡ r = omega (arith, low, above) in
      subst (λ i. slice_get (logs_after c events n ++ log_after c events n ∷ []) i ≡ Some (log_after c events i)) same (get_push_here (logs_after c events n) n (log_after c events n) (sym (logs_count c events n)))
]

-- of any two logs of a legal list one begins the other
pub logs_begin : (c : Config) (events : List Event) (r s : ℕ) → IsLegal c events
    → IsPrefixOf (log_after c events r) (log_after c events s) ⊎ IsPrefixOf (log_after c events s) (log_after c events r)
logs_begin c events r s legal =
    lists_agree (log_after c events r) (log_after c events s) (λ i v w a b.
    known_agree c r s (history events) legal i v w (applied_known c r i v (part r (history events)) a) (applied_known c s i w (part s (history events)) b))

-- the longest log is that of a replica, or there is nothing in any
pub longest_among : (c : Config) (events : List Event) → (longest_after c events ≡ []) ⊎ ((k : ℕ) × (k < c.replicas) × (log_after c events k ≡ longest_after c events))
longest_among c events = elim (longest_is (logs_after c events c.replicas)) [
  | inl none ↦ inl none
  | inr some ↦
      let within = slice_get_within (logs_after c events c.replicas) some.0 (longest_after c events) some.1 in
      let count = logs_count c events c.replicas in
      let low : some.0 < c.replicas = omega (arith, within, count) in
      inr (some.0, low, same_some (log_after c events some.0) (longest_after c events) (sym (log_at c events c.replicas some.0 low) ∙ some.1))
]

-- a log begins the longest
pub begins_longest : (c : Config) (events : List Event) (r : ℕ) → IsLegal c events → r < c.replicas → IsPrefixOf (log_after c events r) (longest_after c events)
begins_longest c events r legal low = elim (longest_among c events) [
  | inl none ↦ (let zero = ap length none in let nothing = empty_one (log_after c events r) (omega (arith, short, zero)) in (longest_after c events, ap (λ l. l ++ longest_after c events) (sym nothing)))
  | inr some ↦ (
      let long = ap length some.2 in
      subst (λ l. IsPrefixOf (log_after c events r) l) some.2 (elim (logs_begin c events r some.0 legal) [
        | inl begins ↦ begins
        | inr begins ↦ ([], sym (append-nil (log_after c events r) ∙ same_begun (log_after c events some.0) (log_after c events r) begins (omega (arith, short, long))))
      ]))
]
  where
    short : length (log_after c events r) ≤ length (longest_after c events)
    short = longest_most (logs_after c events c.replicas) r (log_after c events r) (log_at c events c.replicas r low)

pub logs_agree_law : LogsAgree
logs_agree_law job events good have legal = record {
  prefixes = λ r s. logs_begin job.config events r s legal;
  entries = λ r i v at. known_stands_law job.config events r i v legal (applied_known job.config r i v (part r (history events)) at);
  sessions = λ r.
      let mine = part r (history events) in
      let n = length (applied job.config r mine) in
      in_session job (applied job.config r mine) (drop n (known job.config r mine)) (known job.config r mine) good have (all_known job.config r mine) (known_in_session_law job.config events r good legal);
  committed = λ r s k i v made inside.
      let knows = commit_known job.config r k i v (part r (history events)) made in
      let found = has_value (log_after job.config events s) i inside in
      let there = applied_known job.config s i found.0 (part s (history events)) found.1 in
      found.1 ∙ ap (λ w. Some w) (known_agree job.config s r (history events) legal i found.0 v there knows);
  begin = λ r low. begins_longest job.config events r legal low;
  replied = λ r low. replies_begin job (log_after job.config events r) (longest_after job.config events) (begins_longest job.config events r legal low);
}
