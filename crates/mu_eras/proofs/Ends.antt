-- At the end of an era each replica has applied every command of it, in the order of the longest log.
use Rattle.std.proofs.Common.{◌≡◌, ◌∙◌, ℕ, ◌+◌, ◌<◌, ◌≤◌, List, [], ◌∷◌, ◌++◌, Some, ap, append-nil, arith, drop, inl, inr, length, refl, set, subst, sym, take}
use Rattle.std.specs.List.{slice_get}
use Rattle.std.specs.declared.option.Option.{Option}
use Rattle.std.proofs.lemmas.Bool.{cases_eq, cases_lt}
use Rattle.std.proofs.lemmas.List.{length-append, take-append-drop}
use Rattle.kv_store.specs.Commands.{Request}
use Rattle.kv_store.specs.Tables.{Table, store_from}
use Rattle.kv_store.specs.declared.store.Reply.{Reply}
use Rattle.kv_store.proofs.Runs.{store_from-append}
use Rattle.mu_follow.specs.Groups.{groups_of}
use Rattle.mu_input.proofs.JobConfigs.{as_many}
use Rattle.mu_model.specs.Histories.{IsPrefixOf, history, part}
use Rattle.mu_model.proofs.Basics.{same_some}
use Rattle.mu_model.proofs.Lists.{get_set_here, get_set_other}
use Rattle.mu_model.proofs.Parts.{part_is_possible}
use Rattle.mu_node.proofs.FewRows.{few_applied}
use Rattle.mu_outcome.specs.Entries.{commands_in}
use Rattle.mu_outcome.specs.LogsAfter.{log_after, longest_after}
use Rattle.mu_outcome.proofs.LogCommands.{commands_in-append}
use Rattle.mu_outcome.proofs.LogsAgreeing.{begins_longest, longest_among}
use Rattle.mu_engine.specs.Laws.{order_after}
use Rattle.mu_engine.specs.Live.{Live}
use Rattle.mu_engine.specs.Moments.{IsMoment}
use Rattle.mu_engine.proofs.Going.{commands_grouped}
use Rattle.mu_engine.proofs.Linear.{begins_on, handed_begins}
use Rattle.mu_eras.specs.Applied.{Applies}
use Rattle.mu_eras.specs.Holding.{HoldsApplied, HoldsEnded, HoldsWhole, IsSettledBy, handed_by}
use Rattle.mu_eras.specs.declared.applied.Applied.{Applied}
use Rattle.mu_eras.proofs.Applying.{take_twice, take_whole}
use Rattle.mu_eras.proofs.Handing.{few_handed, take_on, two_parts}

-- the order has no more commands than there are
pub few_ordered : (live : Live) → IsMoment live.job live.events → length (order_after live.job live.events) ≤ length live.job.commands
few_ordered live at = elim (longest_among live.job.config live.events) [
  | inl none ↦ (let empty = ap (λ l. length (commands_in live.job l)) none in omega (arith, empty))
  | inr some ↦
      let c = live.job.config in
      let mine = part some.0 (history live.events) in
      let few = few_applied c some.0 mine live.job.commands at.config (part_is_possible c some.0 (history live.events) at.legal) in
      let same = ap length (commands_grouped live.job (log_after c live.events some.0)) in
      let many = as_many c.width live.job.commands c.rows at.heads in
      let long = ap (λ l. length (commands_in live.job l)) some.2 in
      omega (arith, few, same, many, long)
]

pub none_longer : {A : Type 0} (xs : List A) → length xs ≤ 0 → xs ≡ []
none_longer [] few = refl
none_longer (x ∷ xs) few = absurd (omega (arith, few))

-- entries that begin the longest log and have all commands have them in its order
pub all_there : (live : Live) (xs : List ℕ) → IsMoment live.job live.events → IsPrefixOf xs (longest_after live.job.config live.events) → length live.job.commands ≤ length (commands_in live.job xs)
    → commands_in live.job xs ≡ order_after live.job live.events
all_there live xs at begins all =
    let order : order_after live.job live.events ≡ commands_in live.job xs ++ commands_in live.job begins.0 = ap (commands_in live.job) begins.1 ∙ commands_in-append live.job xs begins.0 in
    let few = few_ordered live at in
    let long = ap length order in
    let both = length-append (commands_in live.job xs) (commands_in live.job begins.0) in
    let none = none_longer (commands_in live.job begins.0) (omega (arith, few, long, both, all)) in
    sym (order ∙ ap (λ l. commands_in live.job xs ++ l) none ∙ append-nil (commands_in live.job xs))

-- what is handed on begins the longest log
pub handed_longest : (live : Live) (r : ℕ) → IsMoment live.job live.events → r < live.job.config.replicas → IsPrefixOf (handed_by live r) (longest_after live.job.config live.events)
handed_longest live r at low =
    begins_on (handed_by live r) (log_after live.job.config live.events r) (longest_after live.job.config live.events) (handed_begins live.job live.events r) (begins_longest live.job.config live.events r at.legal low)

-- the first entries that two replicas have handed on are the same
pub same_first : (live : Live) (r s n : ℕ) → IsMoment live.job live.events → r < live.job.config.replicas → s < live.job.config.replicas → n ≤ length (handed_by live r) → n ≤ length (handed_by live s)
    → take n (handed_by live r) ≡ take n (handed_by live s)
same_first live r s n at low there first second =
    let one = handed_longest live r at low in
    let other = handed_longest live s at there in
    sym (take_on n (handed_by live r) one.0 first) ∙ ap (take n) (sym one.1 ∙ other.1) ∙ take_on n (handed_by live s) other.0 second

-- a replica that lags and applied the rest
pub caught_up : (base : Table) (live : Live) (from r : ℕ) (a b : Applied) (told after : List (Option Reply)) → IsMoment live.job live.events → from < live.job.config.replicas → r < live.job.config.replicas → IsSettledBy live from
    → a.entries ≤ length (handed_by live from) → HoldsApplied base live r a → Applies live.job.commands (groups_of live.job.config live.job.commands (drop a.entries (handed_by live from))) a b told after → HoldsWhole base live b
caught_up base live from r a b told after at low there settled within held applies = record {
  table =
      applies.table ∙ ap (λ t. store_from t group) (held.table ∙ ap (λ l. store_from base (commands_in live.job l)) same) ∙ sym (store_from-append base (commands_in live.job (take a.entries (handed_by live from))) group)
      ∙ ap (store_from base) (sym (two_parts live from a.entries) ∙ whole);
  room =
      (let one = applies.room in
      let room = held.room in
      let count = held.count in
      let alike = ap (λ l. length (commands_in live.job l)) same in
      let both = ap length (two_parts live from a.entries) in
      let long = length-append (commands_in live.job (take a.entries (handed_by live from))) group in
      omega (arith, one, room, count, alike, both, long, settled));
}
  where
    group : List Request
    group = groups_of live.job.config live.job.commands (drop a.entries (handed_by live from))

    same : take a.entries (handed_by live r) ≡ take a.entries (handed_by live from)
    same = same_first live r from a.entries at there low held.within within

    whole : commands_in live.job (handed_by live from) ≡ order_after live.job live.events
    whole = all_there live (handed_by live from) at (handed_longest live from at low) (omega (arith, settled))

-- there is room for what it lacks
pub room_to_catch_up : (base : Table) (live : Live) (from r : ℕ) (a : Applied) → IsMoment live.job live.events → from < live.job.config.replicas → r < live.job.config.replicas
    → a.entries ≤ length (handed_by live from) → HoldsApplied base live r a → length (groups_of live.job.config live.job.commands (drop a.entries (handed_by live from))) + a.commands ≤ length live.job.commands
room_to_catch_up base live from r a at low there within held =
    let same = ap (λ l. length (commands_in live.job l)) (same_first live r from a.entries at there low held.within within) in
    let few = few_handed live from at in
    let both = ap length (two_parts live from a.entries) in
    let long = length-append (commands_in live.job (take a.entries (handed_by live from))) (groups_of live.job.config live.job.commands (drop a.entries (handed_by live from))) in
    let count = held.count in
    omega (arith, same, few, both, long, count)

-- a replica that has handed on no less has applied every command
pub is_whole : (base : Table) (live : Live) (from r : ℕ) (a : Applied) → IsMoment live.job live.events → from < live.job.config.replicas → r < live.job.config.replicas → IsSettledBy live from
    → length (handed_by live from) ≤ a.entries → HoldsApplied base live r a → HoldsWhole base live a
is_whole base live from r a at low there settled beyond held = record {
  table = held.table ∙ ap (store_from base) whole;
  room = (let room = held.room in let count = held.count in let all = ap length whole in let few = few_ordered live at in omega (arith, room, count, all, few));
}
  where
    -- what `from` has handed on begins what this one has applied
    front : take (length (handed_by live from)) (take a.entries (handed_by live r)) ≡ handed_by live from
    front =
        take_twice (length (handed_by live from)) a.entries (handed_by live r) beyond
        ∙ same_first live r from (length (handed_by live from)) at there low (let within = held.within in omega (arith, beyond, within)) (omega arith)
        ∙ take_whole (length (handed_by live from)) (handed_by live from) (omega arith)

    begins : IsPrefixOf (take a.entries (handed_by live r)) (longest_after live.job.config live.events)
    begins = begins_on (take a.entries (handed_by live r)) (handed_by live r) (longest_after live.job.config live.events) (drop a.entries (handed_by live r), sym (take-append-drop a.entries (handed_by live r))) (handed_longest live r at there)

    whole : commands_in live.job (take a.entries (handed_by live r)) ≡ order_after live.job live.events
    whole =
        let xs = take a.entries (handed_by live r) in
        let split = ap (commands_in live.job) (sym (take-append-drop (length (handed_by live from)) xs)) ∙ commands_in-append live.job (take (length (handed_by live from)) xs) (drop (length (handed_by live from)) xs) in
        let long = ap length split in
        let both = length-append (commands_in live.job (take (length (handed_by live from)) xs)) (commands_in live.job (drop (length (handed_by live from)) xs)) in
        let same = ap (λ l. length (commands_in live.job l)) front in
        all_there live xs at begins (omega (arith, long, both, same, settled))

-- an era that has ended for a replica
pub is_ended : (base : Table) (live : Live) (a b : Applied) → HoldsWhole base live a → b.store ≡ a.store → b.entries ≡ 0 → b.commands ≡ 0 → HoldsEnded base live b
is_ended base live a b whole same entries commands = record {
  whole = record { table = ap (λ s. s.table) same ∙ whole.table; room = (let alike = ap (λ s. s.room) same in let room = whole.room in omega (arith, alike, room)) };
  entries = entries;
  commands = commands;
}

-- what holds of the first stores, after that of one replica more has changed
pub ended_set : (P : Applied → Type 0) (stores : List Applied) (r : ℕ) (b : Applied) (n : ℕ) → n ≡ r → r < length stores → ((s : ℕ) (x : Applied) → s < n → slice_get stores s ≡ Some x → P x) → P b
    → (s : ℕ) (x : Applied) → s < n + 1 → slice_get (set stores r b) s ≡ Some x → P x
ended_set P stores r b n is low done own s x below at = elim (cases_eq s r) [
  | inl same ↦ subst P (same_some b x (sym (get_set_here stores r b low) ∙ ap (slice_get (set stores r b)) (sym same) ∙ at)) own
  | inr other ↦ done s x (before s other below) (sym (get_set_other stores s r b other) ∙ at)
]
  where
    before : (s : ℕ) → (s ≡ r → ⊥) → s < n + 1 → s < n
    before s other below = elim (cases_lt s n) [
      | inl fine ↦ fine
      | inr high ↦ absurd (other (omega (arith, high, below, is)))
    ]

-- what holds of all stores, after that of one has changed
pub all_set : (P : Applied → Type 0) (stores : List Applied) (r : ℕ) (b : Applied) → r < length stores → ((s : ℕ) (x : Applied) → slice_get stores s ≡ Some x → P x) → P b → (s : ℕ) (x : Applied) → slice_get (set stores r b) s ≡ Some x → P x
all_set P stores r b low all own s x at = elim (cases_eq s r) [
  | inl same ↦ subst P (same_some b x (sym (get_set_here stores r b low) ∙ ap (slice_get (set stores r b)) (sym same) ∙ at)) own
  | inr other ↦ all s x (sym (get_set_other stores s r b other) ∙ at)
]

-- room that is made keeps what a replica has applied
pub applied_kept : (base : Table) (live : Live) (r : ℕ) (a b : Applied) → b.store.table ≡ a.store.table → a.store.room ≤ b.store.room → b.entries ≡ a.entries → b.commands ≡ a.commands → HoldsApplied base live r a → HoldsApplied base live r b
applied_kept base live r a b table room entries commands held = record {
  within = (let within = held.within in omega (arith, within, entries));
  table = table ∙ held.table ∙ ap (λ n. store_from base (commands_in live.job (take n (handed_by live r)))) (sym entries);
  count = commands ∙ held.count ∙ ap (λ n. length (commands_in live.job (take n (handed_by live r)))) (sym entries);
  room = (let was = held.room in omega (arith, was, room, commands));
}
