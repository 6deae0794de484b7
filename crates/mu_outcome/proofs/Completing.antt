-- When every command is in the longest log, and how replicas ended if one isn't.
use Rattle.std.proofs.Common.{◌≡◌, ◌∙◌, ℕ, suc, zero, ◌+◌, ◌<◌, ◌≤◌, ◌==◌, Bool, true, false, cond, List, [], ◌∷◌, ◌++◌, Some, ap, append-nil, arith, eqb-true, get_or, inl, inr, length, refl, subst, sym, take, drop, true≢false}
use Rattle.std.specs.List.{list_any, slice_get}
use Rattle.std.proofs.Math.Dec.{eqb}
use Rattle.std.proofs.lemmas.Bool.{and_parts, cases_Bool, cases_eq, eq-eqb, leb-true}
use Rattle.std.proofs.lemmas.List.{take-append-drop}
use Rattle.std.proofs.lemmas.Option.{get_or_from_slice_get, slice_get-get_or, slice_get_within}
use Rattle.kv_store.specs.Commands.{Request}
use Rattle.kv_store.specs.Sessions.{CountsFrom, IsInSession}
use Rattle.mu_input.specs.Heads.{HaveHeads}
use Rattle.mu_input.specs.declared.job.Job.{Job}
use Rattle.mu_input.proofs.JobConfigs.{as_many, row_at}
use Rattle.mu_model.specs.declared.config.Config.{Config}
use Rattle.mu_model.specs.declared.event.Event.{Event}
use Rattle.mu_model.specs.declared.script.End.{End}
use Rattle.mu_model.specs.Contents.{IsConfig, holds_all, includes, row_count, rows_in}
use Rattle.mu_model.specs.Ends.{EndsBy, full_length, is_finished, is_full}
use Rattle.mu_model.specs.Histories.{history, IsPrefixOf}
use Rattle.mu_model.specs.Knowledge.{applied}
use Rattle.mu_model.specs.Scores.{least_below}
use Rattle.mu_model.proofs.Basics.{same_some}
use Rattle.mu_model.proofs.Scans.{all_at, rows_in-append}
use Rattle.mu_outcome.specs.declared.outcome.Outcome.{Outcome}
use Rattle.mu_outcome.specs.declared.status.Status.{Status}
use Rattle.mu_outcome.specs.Completion.{Completes, HasAllCommands, IsCutShort}
use Rattle.mu_outcome.specs.Entries.{commands_in, longest}
use Rattle.mu_outcome.specs.Outcomes.{Agrees, journal_of, log_of, or_empty}
use Rattle.mu_outcome.specs.Runs.{IsRunOver}
use Rattle.mu_outcome.proofs.LongestLogs.{longest_is, longest_most}
use Rattle.mu_rows.proofs.RowsOnce.{Count, at_least, at_most, fewer, once, place_of, stands_at}
use Rattle.mu_outcome.proofs.Spelled.{spell_at, spell_in, spell_length, spell_numbers, spell_row}
use Rattle.mu_agree.proofs.NextBatch.{same_number_same_row}

-- rows with the same command are one
same_row : (job : Job) (j k : ℕ) (x : Request) → IsConfig job.config → HaveHeads job.config.width job.commands job.config.rows → slice_get job.commands j ≡ Some x → slice_get job.commands k ≡ Some x → j ≡ k
same_row job j k x good have at there =
    let c = job.config in
    let many = as_many c.width job.commands c.rows have in
    let low = slice_get_within job.commands j x at in
    let high = slice_get_within job.commands k x there in
    let one = row_at c.width job.commands c.rows have j (omega (arith, many, low)) in
    let other = row_at c.width job.commands c.rows have k (omega (arith, many, high)) in
    let same : one.0 ≡ other.0 = same_some one.0 x (sym one.1.there ∙ at) ∙ sym (same_some other.0 x (sym other.1.there ∙ there)) in
    same_number_same_row c good j k (omega (arith, many, low)) (omega (arith, many, high))
    (one.1.client ∙ (ap (λ (y : Request). y.client) same ∙ sym other.1.client))
    (one.1.number ∙ (ap (λ (y : Request). y.number) same ∙ sym other.1.number))

-- what a job's log has come to: its rows stand once each, and all are there
record Told (o : Outcome) : Type 0 where
  good : IsConfig o.job.config
  have : HaveHeads o.job.config.width o.job.commands o.job.config.rows
  session : IsInSession (commands_in o.job (longest o.logs))

has_all_from_rows : (o : Outcome) → Told o → ((q : ℕ) → q < row_count o.job.config → list_any (eqb q) (rows_in o.job.config (longest o.logs)) ≡ true) → HasAllCommands o
has_all_from_rows o told all j command at =
    let c = o.job.config in
    let many = as_many c.width o.job.commands c.rows told.have in
    let low = slice_get_within o.job.commands j command at in
    let place = place_of j (rows_in c (longest o.logs)) (all j (omega (arith, many, low))) in
    let spelled = spell_in o.job (longest o.logs) told.good told.have in
    let found = spell_at o.job.commands (rows_in c (longest o.logs)) (commands_in o.job (longest o.logs)) place.0 j spelled place.1 in
    let same : found.0 ≡ command = same_some found.0 command (sym found.2 ∙ at) in
    let there : slice_get (commands_in o.job (longest o.logs)) place.0 ≡ Some command = found.1 ∙ ap (λ x. Some x) same in
    (place.0, slice_get_within (commands_in o.job (longest o.logs)) place.0 command there, get_or_from_slice_get (commands_in o.job (longest o.logs)) place.0 command command there)

rows_from_all : (o : Outcome) → Told o → HasAllCommands o → (q : ℕ) → q < row_count o.job.config → list_any (eqb q) (rows_in o.job.config (longest o.logs)) ≡ true
rows_from_all o told all q low =
    let c = o.job.config in
    let row = row_at c.width o.job.commands c.rows told.have q low in
    let held = all q row.0 row.1.there in
    let at : slice_get (commands_in o.job (longest o.logs)) held.0 ≡ Some row.0 = slice_get-get_or (commands_in o.job (longest o.logs)) held.0 row.0 held.1 ∙ ap (λ x. Some x) held.2 in
    let spelled = spell_in o.job (longest o.logs) told.good told.have in
    let found = spell_row o.job.commands (rows_in c (longest o.logs)) (commands_in o.job (longest o.logs)) held.0 row.0 spelled at in
    let same : found.0 ≡ q = same_row o.job found.0 q row.0 told.good told.have found.2 row.1.there in
    stands_at (rows_in c (longest o.logs)) held.0 q (found.1 ∙ ap (λ j. Some j) same)

rows_once : (o : Outcome) → Told o → Count o.job.config (rows_in o.job.config (longest o.logs))
rows_once o told client = (1, subst (λ l. CountsFrom 1 l) (spell_numbers o.job client (rows_in o.job.config (longest o.logs)) (commands_in o.job (longest o.logs)) told.have (spell_in o.job (longest o.logs) told.good told.have)) (told.session client))

rows_below : (o : Outcome) → Told o → (q : ℕ) → list_any (eqb q) (rows_in o.job.config (longest o.logs)) ≡ true → q < row_count o.job.config
rows_below o told q there =
    let c = o.job.config in
    let place = place_of q (rows_in c (longest o.logs)) there in
    let found = spell_at o.job.commands (rows_in c (longest o.logs)) (commands_in o.job (longest o.logs)) place.0 q (spell_in o.job (longest o.logs) told.good told.have) place.1 in
    let low = slice_get_within o.job.commands q found.0 found.2 in
    let many = as_many c.width o.job.commands c.rows told.have in
    omega (arith, low, many)

-- as many commands are told as the job has exactly if each is told
count_from_all : (o : Outcome) → Told o → HasAllCommands o → length (commands_in o.job (longest o.logs)) ≡ length o.job.commands
count_from_all o told all =
    let c = o.job.config in
    let js = rows_in c (longest o.logs) in
    let long = spell_length o.job.commands js (commands_in o.job (longest o.logs)) (spell_in o.job (longest o.logs) told.good told.have) in
    let many = as_many c.width o.job.commands c.rows told.have in
    let most = at_most (row_count c) js (once c js (rows_once o told)) (rows_below o told) in
    let least = at_least (row_count c) js (rows_from_all o told all) in
    omega (arith, long, many, most, least)

all_from_count : (o : Outcome) → Told o → length (commands_in o.job (longest o.logs)) ≡ length o.job.commands → HasAllCommands o
all_from_count o told same = has_all_from_rows o told (λ q low. elim (cases_Bool (list_any (eqb q) (rows_in o.job.config (longest o.logs)))) [
  | inl there ↦ there
  | inr out ↦
      let c = o.job.config in
      let js = rows_in c (longest o.logs) in
      let long = spell_length o.job.commands js (commands_in o.job (longest o.logs)) (spell_in o.job (longest o.logs) told.good told.have) in
      let many = as_many c.width o.job.commands c.rows told.have in
      let less = fewer (row_count c) q js (once c js (rows_once o told)) (rows_below o told) low (λ there. true≢false (sym there ∙ out)) in
      absurd (omega (arith, long, many, less, same))
])

-- the status by the count
done_by : (a b : ℕ) → cond (a == b) Status.Done Status.Unfinished ≡ Status.Done → a ≡ b
done_by a b is = go (a == b) refl is
  where
    go : (t : Bool) → (a == b) ≡ t → cond t Status.Done Status.Unfinished ≡ Status.Done → a ≡ b
    go true same is = eqb-true a b same
    go false same is = cc

by_done : (a b : ℕ) → a ≡ b → cond (a == b) Status.Done Status.Unfinished ≡ Status.Done
by_done a b same = ap (λ t. cond t Status.Done Status.Unfinished) (eq-eqb a b same)

unfinished_by : (a b : ℕ) → cond (a == b) Status.Done Status.Unfinished ≡ Status.Unfinished → a ≡ b → ⊥
unfinished_by a b is same = let done = by_done a b same in cc

by_unfinished : (a b : ℕ) → (a ≡ b → ⊥) → cond (a == b) Status.Done Status.Unfinished ≡ Status.Unfinished
by_unfinished a b differ = go (a == b) refl
  where
    go : (t : Bool) → (a == b) ≡ t → cond t Status.Done Status.Unfinished ≡ Status.Unfinished
    go true same = absurd (differ (eqb-true a b same))
    go false same = refl

-- a least number that fits passes the test
pub least_passes : (n : ℕ) (test : ℕ → Bool) → least_below n test < n → test (least_below n test) ≡ true
least_passes zero test low = absurd (omega (arith, low))
least_passes (suc n) test low = go (least_below n test == n) refl (test n) refl low (least_passes n test)
  where
    below : (m : ℕ) → m < suc n → (m == n) ≡ false → m < n
    below m low e = elim (cases_eq m n) [
      | inl same ↦ absurd (true≢false (sym (eq-eqb m n same) ∙ e))
      | inr other ↦ omega (arith, low, other)
    ]

    go : (s : Bool) → (least_below n test == n) ≡ s → (t : Bool) → test n ≡ t → cond s (cond t n (n + 1)) (least_below n test) < suc n → (least_below n test < n → test (least_below n test) ≡ true) → test (cond s (cond t n (n + 1)) (least_below n test)) ≡ true
    go true e true passes low rest = passes
    go true e false fails low rest = absurd (omega (arith, low))
    go false e t is low rest = rest (below (least_below n test) low e)

-- the rows of the front of a list are among its rows
among_both : (q : ℕ) (xs ys : List ℕ) → list_any (eqb q) xs ≡ true → list_any (eqb q) (xs ++ ys) ≡ true
among_both q xs ys there = let at = place_of q xs there in stands_at (xs ++ ys) at.0 q (front xs at.0 at.1)
  where
    front : (zs : List ℕ) (i : ℕ) → slice_get zs i ≡ Some q → slice_get (zs ++ ys) i ≡ Some q
    front [] i at = cc
    front (z ∷ zs) zero at = at
    front (z ∷ zs) (suc i) at = front zs i at

among_front : (c : Config) (q : ℕ) (values rest all : List ℕ) → all ≡ values ++ rest → list_any (eqb q) (rows_in c values) ≡ true → list_any (eqb q) (rows_in c all) ≡ true
among_front c q values rest all is there = subst (λ l. list_any (eqb q) l ≡ true) (sym (ap (rows_in c) is ∙ rows_in-append c values rest)) (among_both q (rows_in c values) (rows_in c rest) there)

pub included_among : (q : ℕ) (js : List ℕ) → includes q js ≡ true → list_any (eqb q) js ≡ true
included_among q [] there = absurd (true≢false (sym there))
included_among q (j ∷ js) there = go (j == q) refl there (included_among q js)
  where
    go : (t : Bool) → (j == q) ≡ t → cond t true (includes q js) ≡ true → (includes q js ≡ true → list_any (eqb q) js ≡ true) → list_any (eqb q) (j ∷ js) ≡ true
    go true same there rest = stands_at (j ∷ js) 0 q (ap (λ x. Some x) (eqb-true j q same))
    go false other there rest = let at = place_of q js (rest there) in stands_at (j ∷ js) (suc at.0) q at.1

-- a full log holds all rows
full_rows : (c : Config) (r : ℕ) (mine : List Event) → is_full c r mine ≡ true → (q : ℕ) → q < row_count c → list_any (eqb q) (rows_in c (applied c r mine)) ≡ true
full_rows c r mine full q low =
    let log = applied c r mine in
    let k = full_length c r mine in
    let fits : k ≤ length log = leb-true k (length log) full in
    let holds : holds_all c (take k log) ≡ true = least_passes (length log + 1) (λ n. holds_all c (take n log)) (omega (arith, fits)) in
    let there = included_among q (rows_in c (take k log)) (all_at (row_count c) (λ j. includes j (rows_in c (take k log))) holds q low) in
    among_front c q (take k log) (drop k log) log (sym (take-append-drop k log)) there

-- the log of a replica begins the longest one
begins_longest : (o : Outcome) → Agrees o → length o.logs ≡ o.job.config.replicas → (r : ℕ) → r < o.job.config.replicas → IsPrefixOf (log_of o r) (longest o.logs)
begins_longest o agrees count r low = elim (longest_is o.logs) [
  | inl none ↦
      let most = longest_most o.logs r (get_or o.logs r []) (slice_get-get_or o.logs r [] (omega (arith, low, count))) in
      let is : log_of o r ≡ get_or o.logs r [] = ap or_empty (slice_get-get_or o.logs r [] (omega (arith, low, count))) in
      let long = ap length none in
      let same = ap length is in
      (longest o.logs, ap (λ l. l ++ longest o.logs) (sym (empty_list (log_of o r) (omega (arith, most, long, same)))))
  | inr some ↦
      let s = some.0 in
      let at = slice_get_within o.logs s (longest o.logs) some.1 in
      let is : log_of o s ≡ longest o.logs = ap or_empty some.1 in
      let most = longest_most o.logs r (get_or o.logs r []) (slice_get-get_or o.logs r [] (omega (arith, low, count))) in
      let mine : log_of o r ≡ get_or o.logs r [] = ap or_empty (slice_get-get_or o.logs r [] (omega (arith, low, count))) in
      elim (agrees.prefixes r s low (omega (arith, at, count))) [
        | inl begins ↦ (begins.0, sym is ∙ begins.1)
        | inr begins ↦
            let same = ap length begins.1 ∙ length_both (log_of o s) begins.0 in
            let long = ap length is in
            let short = ap length mine in
            let rest = empty_list begins.0 (omega (arith, same, long, short, most)) in
            ([], sym is ∙ (sym (append-nil (log_of o s)) ∙ (ap (λ l. log_of o s ++ l) (sym rest) ∙ (sym begins.1 ∙ sym (append-nil (log_of o r))))))
      ]
]
  where
    empty_list : (xs : List ℕ) → length xs ≤ 0 → xs ≡ []
    empty_list [] low = refl
    empty_list (x ∷ xs) low = absurd (omega (arith, low))

    length_both : (xs ys : List ℕ) → length (xs ++ ys) ≡ length xs + length ys
    length_both [] ys = omega arith
    length_both (x ∷ xs) ys = let rest = length_both xs ys in omega (arith, rest)

told_of : (o : Outcome) → IsConfig o.job.config → HaveHeads o.job.config.width o.job.commands o.job.config.rows → Agrees o → length o.logs ≡ o.job.config.replicas → Told o
told_of o good have agrees count = record {
  good = good;
  have = have;
  session = elim (longest_is o.logs) [
    | inl none ↦ subst (λ l. IsInSession (commands_in o.job l)) (sym none) (λ client. tt)
    | inr some ↦
        let at = slice_get_within o.logs some.0 (longest o.logs) some.1 in
        subst (λ l. IsInSession (commands_in o.job l)) (ap or_empty some.1) (agrees.sessions some.0 (omega (arith, at, count)))
  ];
}

-- a replica that finished has all rows in its log
finished_rows : (o : Outcome) (events : List Event) → IsRunOver events o → (r : ℕ) → r < o.job.config.replicas → is_finished o.job.config r (history (journal_of o r)) ≡ true
    → (q : ℕ) → q < row_count o.job.config → list_any (eqb q) (rows_in o.job.config (log_of o r)) ≡ true
finished_rows o events run r low finished q inside =
    subst (λ l. list_any (eqb q) (rows_in o.job.config l) ≡ true) (sym (run.logs r low))
    (full_rows o.job.config r (history (journal_of o r)) (and_parts (is_full o.job.config r (history (journal_of o r))) _ finished).0 q inside)

-- the commands of the longest log are in session, and no more than the job has
pub session_told : (o : Outcome) (events : List Event) → IsConfig o.job.config → HaveHeads o.job.config.width o.job.commands o.job.config.rows → IsRunOver events o → Agrees o → IsInSession (commands_in o.job (longest o.logs))
session_told o events good have run agrees = (told_of o good have agrees run.counts.0).session

pub few_told : (o : Outcome) (events : List Event) → IsConfig o.job.config → HaveHeads o.job.config.width o.job.commands o.job.config.rows → IsRunOver events o → Agrees o → length (commands_in o.job (longest o.logs)) ≤ length o.job.commands
few_told o events good have run agrees =
    let told = told_of o good have agrees run.counts.0 in
    let c = o.job.config in
    let js = rows_in c (longest o.logs) in
    let long = spell_length o.job.commands js (commands_in o.job (longest o.logs)) (spell_in o.job (longest o.logs) good have) in
    let many = as_many c.width o.job.commands c.rows have in
    let most = at_most (row_count c) js (once c js (rows_once o told)) (rows_below o told) in
    omega (arith, long, many, most)

-- a log that holds every row tells every command
pub all_from_log : (o : Outcome) (events : List Event) → IsConfig o.job.config → HaveHeads o.job.config.width o.job.commands o.job.config.rows → IsRunOver events o → Agrees o → (r : ℕ) → r < o.job.config.replicas → holds_all o.job.config (log_of o r) ≡ true → HasAllCommands o
all_from_log o events good have run agrees r low holds =
    let c = o.job.config in
    let begins = begins_longest o agrees run.counts.0 r low in
    has_all_from_rows o (told_of o good have agrees run.counts.0)
    (λ q inside. among_front c q (log_of o r) begins.0 (longest o.logs) begins.1 (included_among q (rows_in c (log_of o r)) (all_at (row_count c) (λ j. includes j (rows_in c (log_of o r))) holds q inside)))

-- how a run ends if some command is missing, and what its status says
pub completes_over : (o : Outcome) (events : List Event) → IsConfig o.job.config → HaveHeads o.job.config.width o.job.commands o.job.config.rows → IsRunOver events o → Agrees o → Completes o
completes_over o events good have run agrees = record {
  done = (λ is. all_from_count o told (done_by count all is), λ has. by_done count all (count_from_all o told has));
  unfinished = (λ is has. unfinished_by count all is (count_from_all o told has), λ lacks. by_unfinished count all (λ same. lacks (all_from_count o told same)));
  cut_short = λ lacks r low. let ended = run.ended r low in (ended.0, ended.1, short lacks r low ended.0 ended.2.ends);
}
  where
    told : Told o
    told = told_of o good have agrees run.counts.0

    count : ℕ
    count = length (commands_in o.job (longest o.logs))

    all : ℕ
    all = length o.job.commands

    short : (HasAllCommands o → ⊥) → (r : ℕ) → r < o.job.config.replicas → (end : End) → EndsBy o.job.config o.job.script r (history (journal_of o r)) end → IsCutShort end
    short lacks r low End.Stopped ends = tt
    short lacks r low End.Budget ends = tt
    short lacks r low (End.Outrun p i) ends = tt
    short lacks r low (End.Finished heads) ends =
        let begins = begins_longest o agrees run.counts.0 r low in
        absurd (lacks (has_all_from_rows o told (λ q inside. among_front o.job.config q (log_of o r) begins.0 (longest o.logs) begins.1 (finished_rows o events run r low ends.2 q inside))))
