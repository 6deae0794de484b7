-- The replicas of a legal list agree, and the replies are the store's over what they agree on.
use Rattle.std.proofs.Common.{◌≡◌, ◌∙◌, ℕ, suc, zero, ◌+◌, ◌%◌, ◌<◌, ◌≤◌, ◌==◌, ◌&&◌, Bool, true, false, cond, List, [], ◌∷◌, ◌++◌, None, Some, ap, append-nil, arith, drop, get_or, inl, inr, length, refl, subst, sym, take, ◌⊎◌}
use Rattle.std.specs.List.{slice_get}
use Rattle.std.specs.Prelude.{if◌then◌else◌}
use Rattle.std.proofs.lemmas.Bool.{cases_eq, eqb-true}
use Rattle.std.proofs.lemmas.List.{length-append, take-append-drop}
use Rattle.std.proofs.lemmas.Option.{slice_get-get_or, slice_get_within}
use Rattle.kv_store.specs.Commands.{Request}
use Rattle.kv_store.specs.Sessions.{CountsFrom, IsInSession, numbers_of}
use Rattle.kv_store.proofs.InSession.{numbers_of-append}
use Rattle.kv_store.proofs.Runs.{replies_from-append}
use Rattle.kv_store.specs.Tables.{empty_table, replies, replies_from, store}
use Rattle.mu_input.specs.Heads.{HaveHeads}
use Rattle.mu_input.specs.declared.job.Job.{Job}
use Rattle.mu_input.proofs.JobConfigs.{as_many, row_at}
use Rattle.mu_model.specs.declared.config.Config.{Config}
use Rattle.mu_model.specs.declared.event.Answer.{Answer}
use Rattle.mu_model.specs.declared.event.Event.{Event}
use Rattle.mu_model.specs.declared.event.Verb.{Verb}
use Rattle.mu_model.specs.Contents.{IsConfig, IsInSession as IsListInSession, client_of, counted, is_batch, numbers_in, rest_of, row_count, rows_from, rows_of, session}
use Rattle.mu_model.specs.Histories.{history, part, IsPrefixOf}
use Rattle.mu_model.specs.Knowledge.{applied, commits, front, grown, has_entry, is_accepted_by_all, is_known_decided, known}
use Rattle.mu_model.proofs.Basics.{same_some}
use Rattle.mu_model.proofs.Lists.{get_front, get_push_here, get_push_other}
use Rattle.mu_model.proofs.Parts.{part_is_possible}
use Rattle.mu_model.proofs.Scans.{session_append}
use Rattle.mu_agree.proofs.Prefixes.{known_agree, lists_agree}
use Rattle.mu_agree.proofs.Sessions.{known_in_session_law, known_stands_law}
use Rattle.mu_agree.proofs.Readings.{known_within}
use Rattle.mu_knowledge.proofs.Fetched.{batch_there, front_fits}
use Rattle.mu_model.specs.Room.{reserve}
use Rattle.std.proofs.lemmas.List.Elements.{All-from_get_or}
use Rattle.mu_outcome.specs.declared.outcome.Outcome.{Outcome}
use Rattle.mu_outcome.proofs.LongestLogs.{longest_is}
use Rattle.mu_outcome.proofs.LogCommands.{commands_in-append}
use Rattle.mu_outcome.specs.Entries.{commands_in, commands_of, longest}
use Rattle.mu_outcome.specs.Outcomes.{Agrees, IsWithinJob, log_of, or_empty, replies_of}
use Rattle.mu_model.specs.Legal.{IsLegal}
use Rattle.mu_outcome.specs.Reached.{IsReached}

-- the values before the first that fails, and the rest
front_whole : (test : ℕ → Bool) (xs : List ℕ) → front test xs ++ drop (length (front test xs)) xs ≡ xs
front_whole test [] = refl
front_whole test (x ∷ xs) = go (test x) (front_whole test xs)
  where
    go : (t : Bool) → front test xs ++ drop (length (front test xs)) xs ≡ xs → (if t then (x ∷ front test xs) else []) ++ drop (length (if t then (x ∷ front test xs) else [])) (x ∷ xs) ≡ x ∷ xs
    go true ih = ap (λ l. x ∷ l) ih
    go false ih = refl

-- what is applied, and the rest, is what is known
pub all_known : (c : Config) (r : ℕ) (mine : List Event) → applied c r mine ++ drop (length (applied c r mine)) (known c r mine) ≡ known c r mine
all_known c r mine = front_whole (λ v. has_entry c r v mine) (known c r mine)

-- what is applied is known
pub applied_known : (c : Config) (r i v : ℕ) (mine : List Event) → slice_get (applied c r mine) i ≡ Some v → slice_get (known c r mine) i ≡ Some v
applied_known c r i v mine at =
    subst (λ l. slice_get l i ≡ Some v) (all_known c r mine) (get_front (applied c r mine) (drop (length (applied c r mine)) (known c r mine)) i v at)

-- what is committed is known
known_after : (c : Config) (r i v by : ℕ) (verb : Verb) (answer : Answer) (mine : List Event) → slice_get (known c r mine) i ≡ Some v → slice_get (known c r (record { by = by; verb = verb; answer = answer } ∷ mine)) i ≡ Some v
known_after c r i v by (Verb.PutSlot q j b w) Answer.Done mine at = go ((by == r) && ((j == length (known c r mine)) && is_accepted_by_all c r (record { by = by; verb = Verb.PutSlot q j b w; answer = Answer.Done } ∷ mine) j b w))
  where
    go : (t : Bool) → slice_get (grown (known c r mine) (cond t (Some w) None)) i ≡ Some v
    go true = get_front (known c r mine) (w ∷ []) i v at
    go false = at
known_after c r i v by (Verb.Look q j) (Answer.Entry b w) mine at = go ((by == r) && ((j == length (known c r mine)) && is_known_decided r mine q j))
  where
    go : (t : Bool) → slice_get (grown (known c r mine) (cond t (Some w) None)) i ≡ Some v
    go true = get_front (known c r mine) (w ∷ []) i v at
    go false = at
known_after c r i v by verb answer mine at = at

commit_by : (c : Config) (r k i v by : ℕ) (verb : Verb) (answer : Answer) (mine : List Event) → (slice_get (commits c r mine) k ≡ Some (i, v) → slice_get (known c r mine) i ≡ Some v)
    → slice_get (commits c r (record { by = by; verb = verb; answer = answer } ∷ mine)) k ≡ Some (i, v) → slice_get (known c r (record { by = by; verb = verb; answer = answer } ∷ mine)) i ≡ Some v
commit_by c r k i v by (Verb.PutSlot q j b w) Answer.Done mine before at = go (by == r) (j == length (known c r mine)) refl (is_accepted_by_all c r (record { by = by; verb = Verb.PutSlot q j b w; answer = Answer.Done } ∷ mine) j b w) at
  where
    go : (t x : Bool) → (j == length (known c r mine)) ≡ x → (y : Bool) → slice_get (grown (commits c r mine) (cond (t && (x && y)) (Some (j, w)) None)) k ≡ Some (i, v) → slice_get (grown (known c r mine) (cond (t && (x && y)) (Some w) None)) i ≡ Some v
    go true true here true found = elim (cases_eq k (length (commits c r mine))) [
      | inl new ↦
          let same = same_some (j, w) (i, v) (sym (get_push_here (commits c r mine) k (j, w) new) ∙ found) in
          let at_end : i ≡ length (known c r mine) = ap (λ p. p.0) (sym same) ∙ eqb-true j (length (known c r mine)) here in
          get_push_here (known c r mine) i w at_end ∙ ap (λ p. Some p.1) same
      | inr old ↦ get_front (known c r mine) (w ∷ []) i v (before (sym (get_push_other (commits c r mine) k (j, w) old) ∙ found))
    ]
    go true true here false found = before found
    go true false here y found = before found
    go false x here y found = before found
commit_by c r k i v by (Verb.Look q j) (Answer.Entry b w) mine before at = known_after c r i v by (Verb.Look q j) (Answer.Entry b w) mine (before at)
commit_by c r k i v by verb answer mine before at = known_after c r i v by verb answer mine (before at)

pub commit_known : (c : Config) (r k i v : ℕ) (mine : List Event) → slice_get (commits c r mine) k ≡ Some (i, v) → slice_get (known c r mine) i ≡ Some v
commit_known c r k i v [] at = cc
commit_known c r k i v (e ∷ mine) at = commit_by c r k i v e.by e.verb e.answer mine (commit_known c r k i v mine) at

abbrev head_or : ℕ → List ℕ → ℕ
head_or k [] = k
head_or k (x ∷ xs) = x

abbrev tail_of : List ℕ → List ℕ
tail_of [] = []
tail_of (x ∷ xs) = xs

pub has_value : (xs : List ℕ) (i : ℕ) → i < length xs → (x : ℕ) × (slice_get xs i ≡ Some x)
has_value [] i low = absurd (omega (arith, low))
has_value (x ∷ xs) zero low = (x, refl)
has_value (x ∷ xs) (suc i) low = has_value xs i (omega (arith, low))

-- the front of a counted list counts
counts_front : (xs ys : List ℕ) (n k : ℕ) → xs ++ ys ≡ counted n k → CountsFrom k xs
counts_front [] ys n k same = tt
counts_front (x ∷ xs) ys zero k same = cc
counts_front (x ∷ xs) ys (suc n) k same = (ap (head_or k) same, counts_front xs ys n (k + 1) (ap tail_of same))

drop_at : (xs : List Request) (j : ℕ) (x : Request) → slice_get xs j ≡ Some x → drop j xs ≡ x ∷ drop (suc j) xs
drop_at [] j x at = cc
drop_at (y ∷ ys) zero x at = ap (λ z. z ∷ ys) (same_some y x at)
drop_at (y ∷ ys) (suc j) x at = drop_at ys j x at

-- the numbers of n commands are those of their rows
numbers_same : (job : Job) (client n j : ℕ) → HaveHeads job.config.width job.commands job.config.rows → j + n ≤ row_count job.config → numbers_of client (take n (drop j job.commands)) ≡ numbers_in job.config client (rows_from n j)
numbers_same job client zero j have low = refl
numbers_same job client (suc n) j have low =
    let at = row_at job.config.width job.commands job.config.rows have j (omega (arith, low)) in
    let one : suc j ≡ j + 1 = omega arith in
    let rest = ap (λ i. numbers_of client (take n (drop i job.commands))) one ∙ numbers_same job client n (j + 1) have (omega (arith, low)) in
    ap (λ l. numbers_of client (take (suc n) l)) (drop_at job.commands j at.0 at.1.there)
    ∙ (ap (λ l. cond (at.0.client == client) (at.0.number ∷ l) l) rest
    ∙ (ap (λ m. cond (m == client) (at.0.number ∷ numbers_in job.config client (rows_from n (j + 1))) (numbers_in job.config client (rows_from n (j + 1)))) (sym at.1.client)
    ∙ ap (λ m. cond (client_of job.config j == client) (m ∷ numbers_in job.config client (rows_from n (j + 1))) (numbers_in job.config client (rows_from n (j + 1)))) (sym at.1.number)))

numbers_of_entry : (job : Job) (client v : ℕ) → IsConfig job.config → HaveHeads job.config.width job.commands job.config.rows → numbers_of client (commands_of job v) ≡ numbers_in job.config client (rows_of job.config v)
numbers_of_entry job client v good have = go (is_batch job.config v) refl
  where
    go : (t : Bool) → is_batch job.config v ≡ t → numbers_of client (cond t (take (rest_of job.config (v % 4096) + 1) (drop (v % 4096) job.commands)) []) ≡ numbers_in job.config client (cond t (rows_from (rest_of job.config (v % 4096) + 1) (v % 4096)) [])
    go true batch = numbers_same job client (rest_of job.config (v % 4096) + 1) (v % 4096) have (batch_there job.config v good batch).1
    go false batch = refl

session_same : (job : Job) (client : ℕ) (values : List ℕ) → IsConfig job.config → HaveHeads job.config.width job.commands job.config.rows → numbers_of client (commands_in job values) ≡ session job.config client values
session_same job client [] good have = refl
session_same job client (v ∷ vs) good have =
    numbers_of-append client (commands_of job v) (commands_in job vs)
    ∙ (ap (λ l. l ++ numbers_of client (commands_in job vs)) (numbers_of_entry job client v good have) ∙ ap (λ l. numbers_in job.config client (rows_of job.config v) ++ l) (session_same job client vs good have))

-- a list that begins one in session has its commands in session
pub in_session : (job : Job) (values rest all : List ℕ) → IsConfig job.config → HaveHeads job.config.width job.commands job.config.rows → values ++ rest ≡ all → IsListInSession job.config all → IsInSession (commands_in job values)
in_session job values rest all good have begins whole client =
    let c = job.config in
    let both = ap (session c client) begins in
    let front = sym (session_append c client values rest) ∙ (both ∙ whole client) in
    subst (λ l. CountsFrom 1 l) (sym (session_same job client values good have)) (counts_front (session c client values) (session c client rest) (length (session c client all)) 1 front)

-- a list that begins one no longer is that one
pub same_begun : (xs ys : List ℕ) → IsPrefixOf xs ys → length ys ≤ length xs → ys ≡ xs
same_begun xs ys begins few = go begins.0 begins.1
  where
    go : (rest : List ℕ) → ys ≡ xs ++ rest → ys ≡ xs
    go [] is = is ∙ append-nil xs
    go (z ∷ rest) is = let long = ap length is in let both = length-append xs (z ∷ rest) in absurd (omega (arith, long, both, few))

pub empty_one : (xs : List ℕ) → length xs ≡ 0 → xs ≡ []
empty_one [] none = refl
empty_one (x ∷ xs) none = absurd (omega (arith, none))

-- the replies over a log begin those over a longer one
pub replies_begin : (job : Job) (xs ys : List ℕ) → IsPrefixOf xs ys → IsPrefixOf (replies (commands_in job xs)) (replies (commands_in job ys))
replies_begin job xs ys begins = (
  replies_from (store (commands_in job xs)) (commands_in job begins.0),
  ap (λ l. replies (commands_in job l)) begins.1 ∙ ap replies (commands_in-append job xs begins.0) ∙ replies_from-append empty_table (commands_in job xs) (commands_in job begins.0),
)

-- the replicas agree on what a legal list has come to
pub agrees_on : (o : Outcome) (events : List Event) → IsConfig o.job.config → HaveHeads o.job.config.width o.job.commands o.job.config.rows → IsLegal o.job.config events → IsReached events o → Agrees o
agrees_on o events good have legal run = record {
  prefixes = prefixes;
  entries = λ r i v low at. known_stands_law c events r i v legal (known_at r i v low at);
  sessions = λ r low.
      let mine = part r (history events) in
      let n = length (applied c r mine) in
      subst (λ l. IsInSession (commands_in o.job l)) (sym (log_is r low)) (in_session o.job (applied c r mine) (drop n (known c r mine)) (known c r mine) good have (all_known c r mine) (known_in_session_law c events r good legal));
  committed = λ r s k i v low there at inside.
      let made = subst (λ l. slice_get l k ≡ Some (i, v)) (run.commits r low) at in
      let knows = commit_known c r k i v (part r (history events)) made in
      let found = has_value (log_of o s) i inside in
      found.1 ∙ ap (λ w. Some w) (known_agree c s r (history events) legal i found.0 v (known_at s i found.0 there found.1) knows);
  answered = run.replies;
  told = told;
  replied = replied;
}
  where
    c : Config
    c = o.job.config

    log_is : (r : ℕ) → r < o.job.config.replicas → log_of o r ≡ applied o.job.config r (part r (history events))
    log_is r low = run.logs r low

    known_at : (r i v : ℕ) → r < o.job.config.replicas → slice_get (log_of o r) i ≡ Some v → slice_get (known o.job.config r (part r (history events))) i ≡ Some v
    known_at r i v low at = applied_known o.job.config r i v (part r (history events)) (subst (λ l. slice_get l i ≡ Some v) (log_is r low) at)

    prefixes : (r s : ℕ) → r < o.job.config.replicas → s < o.job.config.replicas → IsPrefixOf (log_of o r) (log_of o s) ⊎ IsPrefixOf (log_of o s) (log_of o r)
    prefixes r s low there = lists_agree (log_of o r) (log_of o s) (λ i v w a b. known_agree o.job.config r s (history events) legal i v w (known_at r i v low a) (known_at s i w there b))

    -- a log as long as the longest is that one
    same_as_longest : (r : ℕ) → r < o.job.config.replicas → length (log_of o r) ≡ length (longest o.logs) → log_of o r ≡ longest o.logs
    same_as_longest r low long = elim (longest_is o.logs) [
      | inl none ↦ (let zero = ap length none in empty_one (log_of o r) (omega (arith, long, zero)) ∙ sym none)
      | inr some ↦ (
          let at = some.1 in
          let count = run.count in
          let within = slice_get_within o.logs some.0 (longest o.logs) at in
          let is : log_of o some.0 ≡ longest o.logs = ap or_empty at in
          let as_long = ap length is in
          elim (prefixes r some.0 low (omega (arith, within, count))) [
            | inl begins ↦ sym (same_begun (log_of o r) (log_of o some.0) begins (omega (arith, long, as_long))) ∙ is
            | inr begins ↦ same_begun (log_of o some.0) (log_of o r) begins (omega (arith, long, as_long)) ∙ is
          ])
    ]

    told : (r : ℕ) → r < o.job.config.replicas → length (log_of o r) ≡ length (longest o.logs) → o.replies ≡ replies_of o r
    told r low long = run.replies ∙ ap (λ l. replies (commands_in o.job l)) (sym (same_as_longest r low long)) ∙ sym (run.own_replies r low)

    replied : (r s : ℕ) → r < o.job.config.replicas → s < o.job.config.replicas → length (log_of o r) ≤ length (log_of o s) → IsPrefixOf (replies_of o r) (replies_of o s)
    replied r s low there short =
        let begins : IsPrefixOf (log_of o r) (log_of o s) = elim (prefixes r s low there) [
          | inl begins ↦ begins
          | inr begins ↦ ([], sym (append-nil (log_of o r) ∙ same_begun (log_of o s) (log_of o r) begins short))
        ] in
        let more = replies_begin o.job (log_of o r) (log_of o s) begins in
        (more.0, run.own_replies s there ∙ more.1 ∙ ap (λ l. l ++ more.0) (sym (run.own_replies r low)))

reserve_few : (t : Bool) (n : ℕ) → n ≤ 7 → cond t n 0 ≤ 7
reserve_few true n few = few
reserve_few false n few = omega arith

-- what a legal list has come to stays within the positions of its job
pub within_on : (o : Outcome) (events : List Event) → IsConfig o.job.config → HaveHeads o.job.config.width o.job.commands o.job.config.rows → IsLegal o.job.config events → IsReached events o → IsWithinJob o
within_on o events good have legal run =
    let many = as_many o.job.config.width o.job.commands o.job.config.rows have in
    let few = good.few in
    let left = reserve_few (o.job.config.version == 2) o.job.config.replicas good.replicas.1 in
    (omega (arith, many, few), All-from_get_or (λ log. length log ≤ row_count o.job.config + reserve o.job.config + 1) o.logs [] each, omega (arith, few, left))
  where
    each : (r : ℕ) → r < length o.logs → length (get_or o.logs r []) ≤ row_count o.job.config + reserve o.job.config + 1
    each r low =
        let count = run.count in
        let inside : r < o.job.config.replicas = omega (arith, low, count) in
        let at = slice_get-get_or o.logs r [] low in
        let is = run.logs r inside in
        let same = ap length (sym (ap or_empty at) ∙ is) in
        let mine = part r (history events) in
        let fits = front_fits (λ v. has_entry o.job.config r v mine) (known o.job.config r mine) in
        let within = known_within o.job.config r mine (part_is_possible o.job.config r (history events) legal) in
        omega (arith, same, fits, within)
