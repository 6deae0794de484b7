-- What an access to the list brings.
use Rattle.std.proofs.Common.{◌≡◌, ◌∙◌, ◌∷◌, ◌+◌, ◌==◌, ◌≤◌, ℕ, List, [], ap, arith, inl, inr, refl, subst, sym}
use Rattle.std.specs.Prelude.{None, Some, is_some, suc, true, zero}
use Rattle.std.specs.declared.option.Option.{Option}
use Rattle.lone_replica.specs.Standing.{StandsForReplica}
use Rattle.mu_inbox.specs.declared.access.Verb.{Verb as ListVerb}
use Rattle.mu_inbox.specs.declared.inbox.Inbox.{Inbox}
use Rattle.mu_inbox.specs.declared.taking.Came.{Came as ListCame}
use Rattle.mu_inbox.specs.Entries.{IsRead}
use Rattle.mu_inbox.specs.Memory.{Made, has_found, has_taken}
use Rattle.mu_inbox.specs.Standing.{IsNext as IsNextInList, StandsForInbox, is_done, made_with, with_due}
use Rattle.mu_model.specs.declared.config.Config.{Config}
use Rattle.mu_model.specs.declared.config.Row.{Row}
use Rattle.mu_model.specs.Contents.{row_count}
use Rattle.shared_replica.specs.declared.shared.Found.{Found}
use Rattle.shared_replica.specs.declared.shared.SharedReplica.{SharedReplica}
use Rattle.shared_replica.specs.declared.taking.Came.{Came}
use Rattle.shared_replica.specs.Knowing.{Knows, ReadsCommand, with_command}
use Rattle.shared_replica.specs.Standing.{Appends, BringsBy, IsUnderWay, ListTook, Moment, StandsFor, TakesBy, TakesWord, with_made}

-- what is known stays known
pub knows_on : (base c : Config) (own : List Made) (m : Made) (p : ℕ) → Knows base own p c → Knows base (m ∷ own) p c
knows_on base c own m zero is = is
knows_on base c own m (suc p) (before, command, later, earlier, parts, reads, knew, is) =
    (before, command, m ∷ later, earlier, ap (λ (l : List Made). m ∷ l) parts, reads, knew, is)

-- the value with another list, and something else found
abbrev pub relisted : SharedReplica → Inbox → Found → SharedReplica
relisted x list f = record x { list = list; found = f }

stands_on : (at : Moment) (m : Made) (x : SharedReplica) (list : Inbox) (f : Found) → StandsFor at x → StandsForInbox (m ∷ at.list) list → list.id ≡ x.list.id → list.place ≡ x.list.place → IsUnderWay f x.replica.due → StandsFor (with_made at m) (relisted x list f)
stands_on at m x list f was stands id place due = record {
  replica = was.replica;
  same = was.same;
  list = stands;
  writer = id ∙ was.writer;
  client = was.client;
  rows = subst (λ (p : ℕ). Knows at.base (m ∷ at.list) p at.knows) (sym place) (knows_on at.base at.knows at.list m x.list.place was.rows);
  found = due;
}

-- the replica's access is under way while a word that it found waits
waits : (at : Moment) (x : SharedReplica) (found : ℕ) → StandsFor at x → x.found ≡ Found.Unread found → is_some x.replica.due ≡ true
waits at x found was is = subst (λ (f : Found). IsUnderWay f x.replica.due) is was.found

nothing_by : (at : Moment) (x : SharedReplica) (due : Option ListVerb) (word found : ℕ) (list : Inbox) → StandsFor at x → x.found ≡ Found.Unread found → ListTook at x due word list ListCame.Nothing → BringsBy at x due word found Came.Nothing (relisted x list x.found)
nothing_by at x None word found list was is took = absurd took
nothing_by at x (Some verb) word found list was is took =
    (stands_on at (made_with x.list verb word) x list x.found was took.stands took.id took.came was.found, is, took.came)

free_by : (at : Moment) (x : SharedReplica) (due : Option ListVerb) (word found : ℕ) (list : Inbox) → StandsFor at x → x.found ≡ Found.Unread found → ListTook at x due word list ListCame.Free → BringsBy at x due word found Came.Ended (relisted x list (Found.Read found))
free_by at x None word found list was is took = absurd took
free_by at x (Some verb) word found list was is took =
    let made = made_with x.list verb word in
    let place = took.came.0 in (
      stands_on at made x list (Found.Read found) was took.stands took.id place (waits at x found was is),
      refl,
      inl (subst (λ (p : ℕ). has_found p (λ n. n == 0) (made ∷ at.list) ≡ true) (sym place) took.came.1),
      place,
    )

closed_by : (at : Moment) (x : SharedReplica) (due : Option ListVerb) (word found : ℕ) (list : Inbox) → StandsFor at x → x.found ≡ Found.Unread found → ListTook at x due word list ListCame.Closed → BringsBy at x due word found Came.Ended (relisted x list (Found.Read found))
closed_by at x None word found list was is took = absurd took
closed_by at x (Some verb) word found list was is took = (
  stands_on at (made_with x.list verb word) x list (Found.Read found) was took.stands took.id took.came.0 (waits at x found was is),
  refl,
  inr took.came.1,
  took.came.0,
)

placed_by : (at : Moment) (x : SharedReplica) (due : Option ListVerb) (word found p row : ℕ) (list : Inbox) → StandsFor at x → x.found ≡ Found.Unread found → ListTook at x due word list (ListCame.Taken p) → row ≡ row_count at.knows → BringsBy at x due word found (Came.Placed row) (relisted x list x.found)
placed_by at x None word found p row list was is took numbered = absurd took
placed_by at x (Some verb) word found p row list was is took numbered =
    let made = made_with x.list verb word in
    let place = took.came.0 in
    let has = took.came.2 in (
      stands_on at made x list x.found was took.stands took.id place was.found,
      is,
      numbered,
      (x.list.taken, subst (λ (q : ℕ). has_taken q x.list.taken (made ∷ at.list) ≡ true) (has.place ∙ sym place) has.taken),
      place,
    )

one_more : (p : ℕ) → p + 1 ≡ suc p
one_more p = omega arith

row_by : (at : Moment) (x y : SharedReplica) (due : Option ListVerb) (word found number : ℕ) (row : Row) (list : Inbox) → StandsFor at x → x.found ≡ Found.Unread found → ListTook at x due word list (ListCame.Row row) → Appends at x row number y → y.replica.id ≡ x.replica.id → y.replica.due ≡ x.replica.due → y.id ≡ x.id → y.found ≡ x.found → BringsBy at x due word found (Came.Row number) (relisted y list y.found)
row_by at x y None word found number row list was is took appended one other id same = absurd took
row_by at x y (Some verb) word found number row list was is took (command, words, spells, numbered, stands) one other id same =
    let made = made_with x.list verb word in
    let waiting = same ∙ is in
    let reads : ReadsCommand (made ∷ at.list) x.list.place command = record {
      is = spells;
      read = subst (λ (ws : List ℕ). IsRead (made ∷ at.list) x.list.place ws) words took.came.1;
    } in
    let knew = knows_on at.base at.knows at.list made x.list.place was.rows in
    let known : Knows at.base (made ∷ at.list) (suc x.list.place) (with_command at.knows command) =
    (at.knows, command, [], made ∷ at.list, refl, reads, knew, refl) in (
      command,
      record {
        replica = subst (λ (r : ℕ). StandsForReplica (with_command at.knows command) r at.own y.replica) (sym id) stands;
        same = one ∙ (was.same ∙ sym id);
        list = took.stands;
        writer = took.id ∙ (was.writer ∙ sym id);
        client = subst (λ (r : ℕ). r ≤ 15) (sym id) was.client;
        rows = subst (λ (p : ℕ). Knows at.base (made ∷ at.list) p (with_command at.knows command)) (sym (took.came.0 ∙ one_more x.list.place)) known;
        found = subst (λ (f : Found). IsUnderWay f y.replica.due) (sym waiting) (ap is_some other ∙ waits at x found was is);
      },
      waiting,
      numbered,
      reads,
      took.came.0,
    )

-- the word that the replica found waits
found_waits : (at : Moment) (x y : SharedReplica) (word found : ℕ) (came : Came) → x.found ≡ Found.Unread found → BringsBy at x x.list.due word found came y → TakesWord at x word y came
found_waits at x y word found came is brings = subst (λ (f : Found). TakesBy at x f word came y) (sym is) brings

pub takes_nothing : (at : Moment) (x : SharedReplica) (word found : ℕ) (list : Inbox) → StandsFor at x → x.found ≡ Found.Unread found → ListTook at x x.list.due word list ListCame.Nothing → TakesWord at x word (relisted x list x.found) Came.Nothing
takes_nothing at x word found list was is took =
    found_waits at x (relisted x list x.found) word found Came.Nothing is (nothing_by at x x.list.due word found list was is took)

pub takes_free : (at : Moment) (x : SharedReplica) (word found : ℕ) (list : Inbox) → StandsFor at x → x.found ≡ Found.Unread found → ListTook at x x.list.due word list ListCame.Free → TakesWord at x word (relisted x list (Found.Read found)) Came.Ended
takes_free at x word found list was is took =
    found_waits at x (relisted x list (Found.Read found)) word found Came.Ended is (free_by at x x.list.due word found list was is took)

pub takes_closed : (at : Moment) (x : SharedReplica) (word found : ℕ) (list : Inbox) → StandsFor at x → x.found ≡ Found.Unread found → ListTook at x x.list.due word list ListCame.Closed → TakesWord at x word (relisted x list (Found.Read found)) Came.Ended
takes_closed at x word found list was is took =
    found_waits at x (relisted x list (Found.Read found)) word found Came.Ended is (closed_by at x x.list.due word found list was is took)

pub takes_placed : (at : Moment) (x : SharedReplica) (word found p row : ℕ) (list : Inbox) → StandsFor at x → x.found ≡ Found.Unread found → ListTook at x x.list.due word list (ListCame.Taken p) → row ≡ row_count at.knows → TakesWord at x word (relisted x list x.found) (Came.Placed row)
takes_placed at x word found p row list was is took numbered =
    found_waits at x (relisted x list x.found) word found (Came.Placed row) is (placed_by at x x.list.due word found p row list was is took numbered)

pub takes_row : (at : Moment) (x y : SharedReplica) (word found number : ℕ) (row : Row) (list : Inbox) → StandsFor at x → x.found ≡ Found.Unread found → ListTook at x x.list.due word list (ListCame.Row row) → Appends at x row number y → y.replica.id ≡ x.replica.id → y.replica.due ≡ x.replica.due → y.id ≡ x.id → y.found ≡ x.found → TakesWord at x word (relisted y list y.found) (Came.Row number)
takes_row at x y word found number row list was is took appended one other id same =
    found_waits at x (relisted y list y.found) word found (Came.Row number) is
    (row_by at x y x.list.due word found number row list was is took appended one other id same)

none_done : (x : Inbox) (due : Option ListVerb) → IsNextInList x due None → is_done x ≡ true
none_done x None is = is
none_done x (Some verb) is = absurd is

-- nothing comes next only if nothing more comes
pub done_if_none : (x after : Inbox) → IsNextInList after after.due None → after ≡ with_due after.due x → is_done x ≡ true
done_if_none x after is same = subst (λ (y : Inbox). is_done y ≡ true) same (none_done after after.due is)
