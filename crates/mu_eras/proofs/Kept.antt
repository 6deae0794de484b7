-- Each command that a replica has handed on has its reply.
use Rattle.std.proofs.Common.{◌≡◌, ◌∙◌, ℕ, suc, zero, ◌+◌, ◌%◌, ◌<◌, ◌≤◌, Bool, true, false, cond, List, [], ◌∷◌, ◌++◌, None, Some, ap, arith, drop, inl, inr, length, refl, subst, sym, take}
use Rattle.std.specs.List.{slice_get}
use Rattle.std.specs.declared.option.Option.{Option}
use Rattle.std.proofs.lemmas.List.{take-append-drop}
use Rattle.std.proofs.lemmas.Option.{slice_get_within}
use Rattle.kv_store.specs.Commands.{Request}
use Rattle.kv_store.specs.Tables.{Table, replies_from, store}
use Rattle.kv_store.specs.declared.store.Reply.{Reply}
use Rattle.mu_agree.proofs.Growing.{applied_stays_law}
use Rattle.mu_clients.proofs.Agreeing.{beside_at}
use Rattle.mu_follow.proofs.Growing.{taken_entries}
use Rattle.mu_follow.specs.Groups.{group_size}
use Rattle.mu_input.specs.declared.job.Job.{Job}
use Rattle.mu_model.specs.declared.config.Config.{Config}
use Rattle.mu_model.specs.declared.event.Event.{Event}
use Rattle.mu_model.specs.Contents.{is_batch, rest_of, rows_from, rows_in, rows_of}
use Rattle.mu_model.specs.Histories.{IsPrefixOf, history, part}
use Rattle.mu_model.proofs.Basics.{same_some}
use Rattle.mu_model.proofs.Lists.{get_front}
use Rattle.mu_model.proofs.Parts.{part_is_possible}
use Rattle.mu_model.proofs.Scans.{rows_in-append}
use Rattle.mu_node.specs.Cycle.{handed_before}
use Rattle.mu_node.proofs.Growing.{handed_kept}
use Rattle.mu_outcome.specs.Entries.{commands_in}
use Rattle.mu_outcome.specs.LogsAfter.{log_after}
use Rattle.mu_engine.specs.Live.{Live, row_of, with_command}
use Rattle.mu_engine.specs.Moments.{GoesOn, IsMoment}
use Rattle.mu_engine.specs.Telling.{handed_log}
use Rattle.mu_engine.proofs.Going.{goes_command, rows_stay}
use Rattle.mu_engine.proofs.Lasting.{handed_entries, handed_goes}
use Rattle.mu_eras.specs.Applied.{AreKept, IsKept, KeepsReplies}
use Rattle.mu_eras.specs.Eras.{Era, order_of, reply_from}
use Rattle.mu_eras.specs.Holding.{AreFollowed, AreTaken, HoldStores, handed_by}
use Rattle.mu_eras.specs.Telling.{IsUnapplied}
use Rattle.mu_eras.specs.declared.applied.Applied.{Applied}
use Rattle.mu_eras.proofs.Handing.{take_on}
use Rattle.mu_eras.proofs.Linear.{get_either}

-- what is kept stays
pub kept_on : (rows : List ℕ) (told after : List (Option Reply)) → KeepsReplies told after → AreKept rows told → AreKept rows after
kept_on rows told after keeps are place row at = keeps row (are place row at)

-- some rows, and others
pub kept_both : (xs ys : List ℕ) (told : List (Option Reply)) → AreKept xs told → AreKept ys told → AreKept (xs ++ ys) told
kept_both xs ys told first next place row at = elim (get_either xs ys place row at) [
  | inl here ↦ first place row here
  | inr behind ↦ next behind.0 row behind.1
]

pub kept_front : (xs ys : List ℕ) (told : List (Option Reply)) → AreKept (xs ++ ys) told → AreKept xs told
kept_front xs ys told are place row at = are place row (get_front xs ys place row at)

-- the rows from one on
from_get : (n j k row : ℕ) → slice_get (rows_from n j) k ≡ Some row → (k < n) × (row ≡ j + k)
from_get zero j k row at = cc
from_get (suc n) j zero row at = let is = same_some j row at in (omega arith, omega (arith, is))
from_get (suc n) j (suc k) row at = let rest = from_get n (j + 1) k row at in let low = rest.0 in let is = rest.1 in (omega (arith, low), omega (arith, is))

-- the rows of an entry, by their places in it
pub kept_rows : (c : Config) (v : ℕ) (told : List (Option Reply)) → ((t : ℕ) → t < group_size c v → IsKept told (v % 4096 + t)) → AreKept (rows_of c v) told
kept_rows c v told each = go (is_batch c v) each
  where
    go : (b : Bool) → ((t : ℕ) → t < cond b (rest_of c (v % 4096) + 1) 0 → IsKept told (v % 4096 + t)) → AreKept (cond b (rows_from (rest_of c (v % 4096) + 1) (v % 4096)) []) told
    go true all place row at = let found = from_get (rest_of c (v % 4096) + 1) (v % 4096) place row at in subst (IsKept told) (sym found.1) (all place found.0)
    go false all place row at = cc

-- what was applied and what was left
pub kept_whole : (c : Config) (n : ℕ) (log : List ℕ) (told : List (Option Reply)) → AreKept (rows_in c (take n log)) told → AreKept (rows_in c (drop n log)) told → AreKept (rows_in c log) told
kept_whole c n log told first next =
    subst (λ l. AreKept (rows_in c l) told) (take-append-drop n log)
    (subst (λ rows. AreKept rows told) (sym (rows_in-append c (take n log) (drop n log))) (kept_both (rows_in c (take n log)) (rows_in c (drop n log)) told first next))

-- and the first of it
pub kept_first : (c : Config) (n : ℕ) (log : List ℕ) (told : List (Option Reply)) → AreKept (rows_in c log) told → AreKept (rows_in c (take n log)) told
kept_first c n log told are =
    kept_front (rows_in c (take n log)) (rows_in c (drop n log)) told
    (subst (λ rows. AreKept rows told) (rows_in-append c (take n log) (drop n log)) (subst (λ l. AreKept (rows_in c l) told) (sym (take-append-drop n log)) are))

-- at a later moment of the era, what each replica has applied
pub taken_goes : (base : Table) (live later : Live) (stores : List Applied) (told : List (Option Reply)) → IsMoment live.job live.events → IsMoment later.job later.events → GoesOn live.job live.events later.job later.events
    → length stores ≡ length live.holds → HoldStores base live stores → AreFollowed live told → AreTaken later stores told
taken_goes base live later stores told was is goes many held are r a at =
    let begins : IsPrefixOf (handed_by live r) (handed_by later r) = handed_goes live.job live.events later.job later.events r was is goes in
    let within = (held r a at).within in
    let front : take a.entries (handed_by later r) ≡ take a.entries (handed_by live r) = ap (take a.entries) begins.1 ∙ take_on a.entries (handed_by live r) begins.0 within in
    let low = slice_get_within stores r a at in
    let rows = rows_stay live.job live.events later.job later.events (take a.entries (handed_by live r)) was is goes (taken_entries live.job.config a.entries (handed_by live r) (handed_entries live.job live.events r was)) in
    subst (λ l. AreKept l told) (sym (ap (rows_in later.job.config) front ∙ rows)) (kept_first live.job.config a.entries (handed_by live r) told (are r (omega (arith, low, many))))

-- what is handed on stays if a command comes
handed_still : (job : Job) (events : List Event) (command : Request) (r : ℕ) → IsMoment job events → IsMoment (with_command job command) events → handed_log (with_command job command).config events r ≡ handed_log job.config events r
handed_still job events command r was is =
    let mine = part r (history events) in
    let possible = part_is_possible job.config r (history events) was.legal in
    let c = (with_command job command).config in
    ap (λ n. take n (log_after c events r)) (handed_kept job.config (row_of command ∷ []) r mine was.config is.config possible)
    ∙ ap (take (handed_before job.config r mine)) (applied_stays_law job.config (row_of command ∷ []) r mine was.config is.config possible)

pub followed_still : (live : Live) (command : Request) (room : ℕ) (told after : List (Option Reply)) → IsMoment live.job live.events → IsMoment (with_command live.job command) live.events → KeepsReplies told after → AreFollowed live told
    → AreFollowed (record live { job = with_command live.job command; room = room }) after
followed_still live command room told after was is keeps are r low =
    let rows = rows_stay live.job live.events (with_command live.job command) live.events (handed_by live r) was is (goes_command live.job live.events command) (handed_entries live.job live.events r was) in
    subst (λ l. AreKept l after) (sym (ap (rows_in (with_command live.job command).config) (handed_still live.job live.events command r was is) ∙ rows)) (kept_on (rows_in live.job.config (handed_by live r)) told after keeps (are r low))

-- nothing is handed on before the first event
pub followed_none : (live : Live) (told : List (Option Reply)) → live.events ≡ [] → AreFollowed live told
followed_none live told none r low place row at = absurd (never place (ap (λ e. slice_get (rows_in live.job.config (handed_log live.job.config e r)) place) (sym none) ∙ at))
  where
    never : (place : ℕ) → slice_get (rows_in live.job.config (handed_log live.job.config [] r)) place ≡ Some row → ⊥
    never place there = cc

-- what has no reply was handed on by nobody
pub unapplied : (past : List Era) (live : Live) (told : List (Option Reply)) (row : ℕ) → AreFollowed live told → length live.holds ≡ live.job.config.replicas → (IsKept told row → ⊥)
    → IsUnapplied past (record { job = live.job; events = live.events }) row
unapplied past live told row are many out r low = go (reply_from base live.job log row) refl
  where
    base : Table
    base = store (order_of past)

    log : List ℕ
    log = handed_by live r

    go : (o : Option Reply) → reply_from base live.job log row ≡ o → reply_from base live.job log row ≡ None
    go None is = is
    go (Some x) is =
        let there = beside_at row (rows_in live.job.config log) (replies_from base (commands_in live.job log)) x is in
        absurd (out (are r (omega (arith, low, many)) there.0 row there.1))
