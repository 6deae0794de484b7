-- A replica that applies what its node has handed on.
use Rattle.std.proofs.Common.{◌≡◌, ◌∙◌, ℕ, suc, zero, ◌+◌, ◌<◌, ◌≤◌, List, [], ◌∷◌, ◌++◌, None, Some, ap, arith, drop, inl, inr, length, refl, set, subst, sym, take}
use Rattle.std.specs.List.{slice_get}
use Rattle.std.specs.declared.option.Option.{Option}
use Rattle.std.proofs.lemmas.Bool.{cases_eq}
use Rattle.std.proofs.lemmas.List.{length-append, take-append-drop}
use Rattle.kv_store.specs.Commands.{Request}
use Rattle.kv_store.specs.Tables.{Table, replies_from, store_from}
use Rattle.kv_store.specs.declared.store.Reply.{Reply}
use Rattle.kv_store.proofs.Runs.{replies_from-append, store_from-append}
use Rattle.mu_follow.specs.Groups.{groups_of}
use Rattle.mu_follow.proofs.Growing.{taken_entries}
use Rattle.mu_model.specs.declared.config.Config.{Config}
use Rattle.mu_model.specs.Histories.{IsPrefixOf, history, part}
use Rattle.mu_model.proofs.Basics.{same_some}
use Rattle.mu_model.proofs.Lists.{get_front, get_push_here, get_push_other, get_set_here, get_set_other}
use Rattle.mu_model.proofs.Parts.{part_is_possible}
use Rattle.mu_input.proofs.JobConfigs.{as_many}
use Rattle.mu_node.specs.Cycle.{handed_before}
use Rattle.mu_node.proofs.FewRows.{few_first}
use Rattle.mu_outcome.specs.Entries.{commands_in}
use Rattle.mu_outcome.specs.LogsAfter.{log_after, longest_after}
use Rattle.mu_outcome.proofs.LogCommands.{commands_in-append}
use Rattle.mu_outcome.proofs.LogsAgreeing.{begins_longest}
use Rattle.mu_engine.specs.Laws.{order_after}
use Rattle.mu_engine.specs.Live.{Live}
use Rattle.mu_engine.specs.Moments.{GoesOn, IsMoment}
use Rattle.mu_engine.proofs.Going.{commands_grouped, commands_stay}
use Rattle.mu_engine.proofs.Lasting.{handed_entries, handed_goes}
use Rattle.mu_engine.proofs.Linear.{begins_on, handed_begins, order_goes}
use Rattle.mu_eras.specs.Applied.{Applies, TellsOrder}
use Rattle.mu_eras.specs.Holding.{HoldStores, HoldsApplied, handed_by}
use Rattle.mu_eras.specs.declared.applied.Applied.{Applied}
use Rattle.mu_eras.proofs.Applying.{take_whole}

-- what is handed on are no more commands than there are
pub few_handed : (live : Live) (r : ℕ) → IsMoment live.job live.events → length (commands_in live.job (handed_by live r)) ≤ length live.job.commands
few_handed live r at =
    let c = live.job.config in
    let mine = part r (history live.events) in
    let few = few_first c r (handed_before c r mine) mine live.job.commands at.config (part_is_possible c r (history live.events) at.legal) in
    let same = ap length (commands_grouped live.job (handed_by live r)) in
    let many = as_many c.width live.job.commands c.rows at.heads in
    omega (arith, few, same, many)

-- what was applied and what is left
pub two_parts : (live : Live) (r n : ℕ) → commands_in live.job (handed_by live r) ≡ commands_in live.job (take n (handed_by live r)) ++ groups_of live.job.config live.job.commands (drop n (handed_by live r))
two_parts live r n =
    ap (commands_in live.job) (sym (take-append-drop n (handed_by live r))) ∙ commands_in-append live.job (take n (handed_by live r)) (drop n (handed_by live r))
    ∙ ap (λ l. commands_in live.job (take n (handed_by live r)) ++ l) (sym (commands_grouped live.job (drop n (handed_by live r))))

-- there is room for what is left
pub room_for_rest : (base : Table) (live : Live) (r : ℕ) (a : Applied) → IsMoment live.job live.events → HoldsApplied base live r a → length (groups_of live.job.config live.job.commands (drop a.entries (handed_by live r))) ≤ a.store.room
room_for_rest base live r a at held =
    let few = few_handed live r at in
    let both = ap length (two_parts live r a.entries) in
    let long = length-append (commands_in live.job (take a.entries (handed_by live r))) (groups_of live.job.config live.job.commands (drop a.entries (handed_by live r))) in
    let room = held.room in
    let count = held.count in
    omega (arith, few, both, long, room, count)

-- and it is few
pub few_in_all : (base : Table) (live : Live) (r : ℕ) (a : Applied) → IsMoment live.job live.events → HoldsApplied base live r a → length live.job.commands ≤ 1500 → a.commands + length (groups_of live.job.config live.job.commands (drop a.entries (handed_by live r))) ≤ 65535
few_in_all base live r a at held most =
    let few = few_handed live r at in
    let both = ap length (two_parts live r a.entries) in
    let long = length-append (commands_in live.job (take a.entries (handed_by live r))) (groups_of live.job.config live.job.commands (drop a.entries (handed_by live r))) in
    let count = held.count in
    omega (arith, few, both, long, count, most)

-- what is handed on, and what follows in the order
pub order_parts : (live : Live) (r n : ℕ) → IsMoment live.job live.events → r < live.job.config.replicas
    → (rest : List Request) × (order_after live.job live.events ≡ commands_in live.job (take n (handed_by live r)) ++ groups_of live.job.config live.job.commands (drop n (handed_by live r)) ++ rest)
order_parts live r n at low =
    let c = live.job.config in
    let begins = begins_on (handed_by live r) (log_after c live.events r) (longest_after c live.events) (handed_begins live.job live.events r) (begins_longest c live.events r at.legal low) in (
      commands_in live.job begins.0,
      ap (commands_in live.job) begins.1 ∙ commands_in-append live.job (handed_by live r) begins.0 ∙ ap (λ l. l ++ commands_in live.job begins.0) (two_parts live r n),
    )

-- it has applied all that is handed on
pub followed : (base : Table) (live : Live) (r : ℕ) (a b : Applied) (told after : List (Option Reply)) → HoldsApplied base live r a
    → Applies live.job.commands (groups_of live.job.config live.job.commands (drop a.entries (handed_by live r))) a b told after → b.entries ≡ length (handed_by live r) → HoldsApplied base live r b
followed base live r a b told after held applies all = record {
  within = omega (arith, all);
  table = applies.table ∙ ap (λ t. store_from t group) held.table ∙ sym (store_from-append base (commands_in live.job (take a.entries (handed_by live r))) group) ∙ ap (store_from base) (sym (two_parts live r a.entries) ∙ whole);
  count = (let long = length-append (commands_in live.job (take a.entries (handed_by live r))) group in let both = ap length (two_parts live r a.entries) in let same = ap length whole in let one = applies.count in let was = held.count in omega (arith, long, both, same, one, was));
  room = (let one = applies.room in let count = applies.count in let was = held.room in omega (arith, one, count, was));
}
  where
    group : List Request
    group = groups_of live.job.config live.job.commands (drop a.entries (handed_by live r))

    whole : commands_in live.job (handed_by live r) ≡ commands_in live.job (take b.entries (handed_by live r))
    whole = ap (commands_in live.job) (sym (take_whole b.entries (handed_by live r) (omega (arith, all))))

-- and what is told is the order's
pub follow_tells : (base : Table) (live : Live) (r : ℕ) (a b : Applied) (told after : List (Option Reply)) → IsMoment live.job live.events → r < live.job.config.replicas → HoldsApplied base live r a
    → Applies live.job.commands (groups_of live.job.config live.job.commands (drop a.entries (handed_by live r))) a b told after
    → TellsOrder base live.job.commands (order_after live.job live.events) told → TellsOrder base live.job.commands (order_after live.job live.events) after
follow_tells base live r a b told after at low held applies was =
    let parts = order_parts live r a.entries at low in
    subst (λ o. TellsOrder base live.job.commands o after) (sym parts.1)
    (applies.tells base (commands_in live.job (take a.entries (handed_by live r))) parts.0 held.table (subst (λ o. TellsOrder base live.job.commands o told) parts.1 was))

-- the same commands of the same entries
pub group_same : (k c : Config) (cs commands : List Request) (es entries : List ℕ) (n : ℕ) → k ≡ c → cs ≡ commands → es ≡ entries → groups_of k cs (drop n es) ≡ groups_of c commands (drop n entries)
group_same k c cs commands es entries n one two three = ap (λ x. groups_of x cs (drop n es)) one ∙ ap (λ l. groups_of c l (drop n es)) two ∙ ap (λ l. groups_of c commands (drop n l)) three

-- the stores after that of one replica has changed
pub hold_set : (base : Table) (live : Live) (stores : List Applied) (r : ℕ) (b : Applied) → r < length stores → HoldStores base live stores → HoldsApplied base live r b → HoldStores base live (set stores r b)
hold_set base live stores r b low held own s x at = elim (cases_eq s r) [
  | inl same ↦
      let here : slice_get (set stores r b) r ≡ Some x = ap (slice_get (set stores r b)) (sym same) ∙ at in
      let is = same_some b x (sym (get_set_here stores r b low) ∙ here) in
      subst (λ n. HoldsApplied base live n x) (sym same) (subst (HoldsApplied base live r) is own)
  | inr other ↦ held s x (sym (get_set_other stores s r b other) ∙ at)
]

-- a front stays in a list that goes on
pub take_on : {A : Type 0} (n : ℕ) (xs more : List A) → n ≤ length xs → take n (xs ++ more) ≡ take n xs
take_on zero xs more low = refl
take_on (suc n) [] more low = absurd (omega (arith, low))
take_on (suc n) (x ∷ xs) more low = ap (λ l. x ∷ l) (take_on n xs more (omega (arith, low)))

-- what a replica has applied, at a later moment of the era
pub applied_goes : (base : Table) (live later : Live) (r : ℕ) (a : Applied) → IsMoment live.job live.events → IsMoment later.job later.events → GoesOn live.job live.events later.job later.events
    → length later.job.commands + later.room ≤ length live.job.commands + live.room → HoldsApplied base live r a → HoldsApplied base later r a
applied_goes base live later r a was is goes few held = record {
  within = (let long = ap length begins.1 ∙ length-append (handed_by live r) begins.0 in let within = held.within in omega (arith, long, within));
  table = held.table ∙ ap (store_from base) (sym same);
  count = held.count ∙ ap length (sym same);
  room = (let room = held.room in omega (arith, room, few));
}
  where
    begins : IsPrefixOf (handed_by live r) (handed_by later r)
    begins = handed_goes live.job live.events later.job later.events r was is goes

    same : commands_in later.job (take a.entries (handed_by later r)) ≡ commands_in live.job (take a.entries (handed_by live r))
    same =
        ap (λ l. commands_in later.job (take a.entries l)) begins.1 ∙ ap (commands_in later.job) (take_on a.entries (handed_by live r) begins.0 held.within)
        ∙ commands_stay live.job live.events later.job later.events (take a.entries (handed_by live r)) was is goes (taken_entries live.job.config a.entries (handed_by live r) (handed_entries live.job live.events r was))

pub stores_go : (base : Table) (live later : Live) (stores : List Applied) → IsMoment live.job live.events → IsMoment later.job later.events → GoesOn live.job live.events later.job later.events
    → length later.job.commands + later.room ≤ length live.job.commands + live.room → HoldStores base live stores → HoldStores base later stores
stores_go base live later stores was is goes few held r a at = applied_goes base live later r a was is goes few (held r a at)

-- what is told, at a later moment of the era
pub tells_go : (base : Table) (live later : Live) (told : List (Option Reply)) → IsMoment live.job live.events → IsMoment later.job later.events → GoesOn live.job live.events later.job later.events
    → TellsOrder base live.job.commands (order_after live.job live.events) told → TellsOrder base later.job.commands (order_after later.job later.events) told
tells_go base live later told was is goes tells row reply at =
    let is_told = tells row reply at in
    let order = order_after live.job live.events in
    let more = order_goes live.job live.events later.job later.events was is goes in
    record {
      place = is_told.place;
      command = is_told.command;
      submitted = ap (λ l. slice_get l row) goes.commands_are ∙ get_front live.job.commands goes.commands row is_told.command is_told.submitted;
      ordered = ap (λ l. slice_get l is_told.place) more.1 ∙ get_front order more.0 is_told.place is_told.command is_told.ordered;
      replied =
          ap (λ l. slice_get (replies_from base l) is_told.place) more.1 ∙ ap (λ l. slice_get l is_told.place) (replies_from-append base order more.0)
          ∙ get_front (replies_from base order) (replies_from (store_from base order) more.0) is_told.place reply is_told.replied;
    }

-- a command that has no reply yet
pub tells_push : (base : Table) (commands order : List Request) (told : List (Option Reply)) → TellsOrder base commands order told → TellsOrder base commands order (told ++ None ∷ [])
tells_push base commands order told tells row reply at = elim (cases_eq row (length told)) [
  | inl last ↦ absurd (never None refl (same_some None (Some reply) (sym (get_push_here told row None last) ∙ at)))
  | inr other ↦ tells row reply (sym (get_push_other told row None other) ∙ at)
]
  where
    never : (x : Option Reply) → x ≡ None → x ≡ Some reply → ⊥
    never x none some = cc
