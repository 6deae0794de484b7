-- Which rows the counted entries hold, with one row more.
use Rattle.std.proofs.Common.{◌≡◌, ◌∙◌, ℕ, zero, suc, ◌+◌, ◌%◌, ◌<◌, ◌≤◌, ◌&&◌, ◌||◌, inl, inr, Bool, true, false, List, [], ◌∷◌, ◌++◌, None, Some, ap, arith, length, length-append, refl, subst, sym, take}
use Rattle.std.specs.Prelude.{if◌then◌else◌, vec_capacity}
use Rattle.std.specs.List.{slice_get}
use Rattle.std.proofs.lemmas.Bool.{cases_lt, eq-eqb, ne_eqb}
use Rattle.mu_model.specs.declared.config.Config.{Config}
use Rattle.mu_model.specs.declared.config.Row.{Row}
use Rattle.mu_model.specs.Contents.{IsConfig, holds_all, includes, is_batch, rest_of, row_count, rows_from, rows_in, rows_of}
use Rattle.mu_model.specs.declared.event.Event.{Event}
use Rattle.mu_model.specs.Ends.{outrun, outrun_by}
use Rattle.mu_model.specs.Histories.{all_below, earlier_or}
use Rattle.mu_model.specs.Knowledge.{applied, has_entry, known}
use Rattle.mu_model.specs.Parts.{IsPossible}
use Rattle.mu_model.specs.Room.{reserve}
use Rattle.mu_model.specs.Scores.{least_below}
use Rattle.mu_model.proofs.Lists.{get_front, get_push_here}
use Rattle.mu_model.specs.Growing.{with_more}
use Rattle.mu_agree.proofs.Growing.{applied_kept, commits_kept, known_kept, rows_in_kept}
use Rattle.mu_agree.proofs.Possible.{part_entries_stand_law}
use Rattle.mu_agree.proofs.Sessions.{batch_within, row_within}
use Rattle.mu_agree.proofs.Within.{known_few}
use Rattle.mu_knowledge.proofs.Fetched.{front_fits}
use Rattle.mu_follow.specs.declared.completion.Completion.{Completion}
use Rattle.mu_knowledge.specs.FilledLog.{StandsForFilledLog}
use Rattle.mu_knowledge.specs.HeldRows.{StandsForHeldRows}
use Rattle.mu_knowledge.specs.KnownLog.{StandsForKnownLog}
use Rattle.mu_knowledge.specs.RowWords.{StandsForRowWords}
use Rattle.mu_follow.specs.declared.follow.Follow.{Follow}
use Rattle.mu_follow.specs.Commits.{HoldsCommits}
use Rattle.mu_follow.specs.Completion.{AreEntries, HoldsCompletion}
use Rattle.mu_follow.specs.Due.{HoldsProgress}
use Rattle.mu_follow.specs.Follow.{StandsForFollow}
use Rattle.mu_follow.specs.Published.{HoldsPublished}
use Rattle.mu_follow.proofs.Full.{includes_both}
use Rattle.mu_follow.proofs.Kept.{applied_is}

-- rows below a number hold no greater one
pub from_below : (n i j : ℕ) → i + n ≤ j → includes j (rows_from n i) ≡ false
from_below zero i j low = refl
from_below (suc n) i j low = ap (λ t. if t then true else includes j (rows_from n (i + 1))) (ne_eqb i j (λ same. omega (arith, low, same))) ∙ from_below n (i + 1) j (omega (arith, low))

-- entries hold only rows that are there
entry_below : (c : Config) (v j : ℕ) → IsConfig c → row_count c ≤ j → includes j (rows_of c v) ≡ false
entry_below c v j good above = go (is_batch c v) refl
  where
    go : (t : Bool) → is_batch c v ≡ t → includes j (if t then rows_from (rest_of c (v % 4096) + 1) (v % 4096) else []) ≡ false
    go true batch = let within = batch_within c good (rest_of c (v % 4096)) (v % 4096) (row_within c v batch) refl in from_below (rest_of c (v % 4096) + 1) (v % 4096) j (omega (arith, within, above))
    go false batch = refl

pub entries_below : (c : Config) (values : List ℕ) (j : ℕ) → IsConfig c → row_count c ≤ j → includes j (rows_in c values) ≡ false
entries_below c [] j good above = refl
entries_below c (v ∷ values) j good above = includes_both j (rows_of c v) (rows_in c values) ∙ (ap (λ t. t || includes j (rows_in c values)) (entry_below c v j good above) ∙ entries_below c values j good above)

-- a test that passes nowhere below a number
none_below : (n : ℕ) (test : ℕ → Bool) → ((k : ℕ) → k < n → test k ≡ false) → least_below n test ≡ n
none_below zero test fails = refl
none_below (suc n) test fails =
    let before = none_below n test (λ k low. fails k (omega (arith, low))) in
    ap (λ t. if t then (if test n then n else n + 1) else least_below n test) (eq-eqb (least_below n test) n before)
    ∙ (ap (λ t. if t then n else n + 1) (fails n (omega arith)) ∙ omega arith)

-- some of the values
pub taken_entries : (c : Config) (k : ℕ) (values : List ℕ) → AreEntries c values → AreEntries c (take k values)
taken_entries c zero values are i v at = absurd (none_some_at v at)
  where
    none_some_at : (v : ℕ) → None ≡ Some v → ⊥
    none_some_at v e = cc
taken_entries c (suc k) [] are i v at = are i v at
taken_entries c (suc k) (x ∷ xs) are zero v at = are 0 v at
taken_entries c (suc k) (x ∷ xs) are (suc i) v at = taken_entries c k xs (λ j w here. are (suc j) w here) i v at

pub one_more : (c : Config) (row : Row) → row_count (with_more c (row ∷ [])) ≡ suc (row_count c)
one_more c row = let e = length-append c.rows (row ∷ []) in omega (arith, e)

-- so no values hold all with one row more
lacks_last : (c : Config) (row : Row) (values : List ℕ) → IsConfig c → IsConfig (with_more c (row ∷ [])) → AreEntries c values → holds_all (with_more c (row ∷ [])) values ≡ false
lacks_last c row values good more are =
    let there : ℕ → Bool = λ j. includes j (rows_in (with_more c (row ∷ [])) values) in
    ap (λ n. all_below n there) (one_more c row)
    ∙ ap (λ t. t && all_below (row_count c) there) (ap (includes (row_count c)) (rows_in_kept c (row ∷ []) values good more are) ∙ entries_below c values (row_count c) good (omega arith))

pub completion_more : (c : Config) (row : Row) (values : List ℕ) (old new : Completion) → IsConfig c → IsConfig (with_more c (row ∷ [])) → AreEntries c values
    → new.counted ≡ old.counted → new.held.items ≡ old.held.items ++ false ∷ [] → new.held_to ≡ old.held_to → new.full ≡ old.counted + 1
    → HoldsCompletion c values old → HoldsCompletion (with_more c (row ∷ [])) values new
completion_more c row values old new good more are counted marks to full held = record {
  counted = counted ∙ held.counted;
  rows = ap length marks ∙ (let long = length-append old.held.items (false ∷ []) in let rows = held.rows in let one = one_more c row in omega (arith, long, rows, one));
  held = λ j low. ap (λ xs. slice_get xs j) marks ∙ (marked j low ∙ ap Some (sym (same j)));
  first = record {
    within = (let one = one_more c row in let within = held.first.within in omega (arith, one, within, to));
    below = λ j low. same j ∙ held.first.below j (omega (arith, low, to));
    missing = λ low. same new.held_to ∙ (ap (λ j. includes j (rows_in c values)) to ∙ missing);
  };
  full = full ∙ (ap (λ n. n + 1) held.counted ∙ sym (none_below (length values + 1) (λ k. holds_all (with_more c (row ∷ [])) (take k values)) (λ k low. lacks_last c row (take k values) good more (taken_entries c k values are))));
}
  where
    same : (j : ℕ) → includes j (rows_in (with_more c (row ∷ [])) values) ≡ includes j (rows_in c values)
    same j = ap (includes j) (rows_in_kept c (row ∷ []) values good more are)

    marked : (j : ℕ) → j < row_count (with_more c (row ∷ [])) → slice_get (old.held.items ++ false ∷ []) j ≡ Some (includes j (rows_in c values))
    marked j low = elim (cases_lt j (row_count c)) [
      | inl here ↦ get_front old.held.items (false ∷ []) j (includes j (rows_in c values)) (held.held j here)
      | inr above ↦ (let one = one_more c row in let rows = held.rows in
          get_push_here old.held.items j false (omega (arith, one, rows, above, low)) ∙ ap Some (sym (entries_below c values j good (omega (arith, above)))))
    ]

    missing : includes old.held_to (rows_in c values) ≡ false
    missing = elim (cases_lt old.held_to (row_count c)) [
      | inl here ↦ held.first.missing here
      | inr above ↦ entries_below c values old.held_to good (omega (arith, above))
    ]

-- what is applied stands for entries, and is short
pub applied_entries : (c : Config) (r : ℕ) (mine : List Event) → IsPossible c r mine → AreEntries c (applied c r mine)
applied_entries c r mine possible = subst (AreEntries c) (applied_is c r mine) (taken_entries c (length (applied c r mine)) (known c r mine) (λ i v k. part_entries_stand_law c r i v mine possible k))

pub applied_short : (c : Config) (r : ℕ) (mine : List Event) → IsConfig c → IsPossible c r mine → length (applied c r mine) < 65536
applied_short c r mine good possible = let fits = front_fits (λ v. has_entry c r v mine) (known c r mine) in let few = known_few c r mine good possible in omega (arith, fits, few)

-- what is looked at too late is the same
outrun_kept : (c : Config) (more : List Row) (r : ℕ) (mine : List Event) → outrun (with_more c more) r mine ≡ outrun c r mine
outrun_kept c more r [] = refl
outrun_kept c more r (e ∷ mine) =
    ap (λ l. earlier_or (outrun_by r (length l) e.by e.verb e.answer) (outrun (with_more c more) r mine)) (known_kept c more r mine)
    ∙ ap (earlier_or (outrun_by r (length (known c r mine)) e.by e.verb e.answer)) (outrun_kept c more r mine)

-- the replayer stands for the same events if each of its parts does
pub follow_more : (c : Config) (row : Row) (r : ℕ) (mine : List Event) (old new : Follow) → IsConfig c → IsConfig (with_more c (row ∷ [])) → IsPossible c r mine → StandsForFollow c r mine old
    → new.config ≡ with_more c (row ∷ []) → new.replica ≡ old.replica → new.steps ≡ old.steps → StandsForKnownLog (with_more c (row ∷ [])) r mine new.knowing → StandsForHeldRows (with_more c (row ∷ [])) r mine new.rows
    → StandsForRowWords (with_more c (row ∷ [])) r mine new.words → StandsForFilledLog (with_more c (row ∷ [])) r r mine new.own_log → new.heads ≡ old.heads → HoldsCompletion (with_more c (row ∷ [])) (applied c r mine) new.completion
    → new.commits ≡ old.commits → row_count c + reserve c + 1 < vec_capacity old.commits → new.outrun ≡ old.outrun → new.progress ≡ old.progress → StandsForFollow (with_more c (row ∷ [])) r mine new
follow_more c row r mine old new good more possible held config replica steps knowing rows words own_log heads completion commits room outrun progress =
    let same : applied (with_more c (row ∷ [])) r mine ≡ applied c r mine = applied_kept c (row ∷ []) r mine good more (λ i v k. part_entries_stand_law c r i v mine possible k) in
    record {
      config = config;
      replica = replica ∙ held.replica;
      inside = held.inside;
      steps = steps ∙ held.steps;
      knowing = knowing;
      rows = rows;
      words = words;
      own_log = own_log;
      heads = subst (HoldsPublished r mine) (sym heads) held.heads;
      completion = subst (λ l. HoldsCompletion (with_more c (row ∷ [])) l new.completion) (sym same) completion;
      commits = subst (HoldsCommits (with_more c (row ∷ [])) r mine) (sym commits) (record { are = held.commits.are ∙ sym (commits_kept c (row ∷ []) r mine); room = (let one = one_more c row in omega (arith, one, room)) });
      outrun = outrun ∙ (held.outrun ∙ sym (outrun_kept c (row ∷ []) r mine));
      progress = subst (HoldsProgress (with_more c (row ∷ [])) r mine) (sym progress) (record { fuo = held.progress.fuo; row = held.progress.row; handed = subst (λ l. old.progress.handed ≤ length l) (sym same) held.progress.handed });
    }

-- and with other room in its parts
pub follow_same : (c : Config) (r : ℕ) (mine : List Event) (old new : Follow) → StandsForFollow c r mine old → new.config ≡ old.config → new.replica ≡ old.replica → new.steps ≡ old.steps → StandsForKnownLog c r mine new.knowing → StandsForHeldRows c r mine new.rows → StandsForRowWords c r mine new.words
    → StandsForFilledLog c r r mine new.own_log → new.heads ≡ old.heads → HoldsCompletion c (applied c r mine) new.completion → HoldsCommits c r mine new.commits → new.outrun ≡ old.outrun → new.progress ≡ old.progress → StandsForFollow c r mine new
follow_same c r mine old new held config replica steps knowing rows words own_log heads completion commits outrun progress = record {
  config = config ∙ held.config;
  replica = replica ∙ held.replica;
  inside = held.inside;
  steps = steps ∙ held.steps;
  knowing = knowing;
  rows = rows;
  words = words;
  own_log = own_log;
  heads = subst (HoldsPublished r mine) (sym heads) held.heads;
  completion = completion;
  commits = commits;
  outrun = outrun ∙ held.outrun;
  progress = subst (HoldsProgress c r mine) (sym progress) held.progress;
}
