-- What is known of a trace whose items are judged as they are read.
use Rattle.std.proofs.Common.{◌≡◌, ℕ, ◌+◌, ◌-◌, ◌≤◌, Bool, List, [], ◌∷◌, ◌++◌, length, take, sym, ap, subst, ◌∙◌, append_assoc, arith, Some, None, Ok, Err}
use Rattle.std.proofs.Math.Seq.{take-append_seam}
use Rattle.std.proofs.lemmas.List.{length-reverse, length_push, reverse-append}
use Rattle.kv_store.specs.declared.store.Reply.{Reply}
use Rattle.std.specs.declared.option.Option.{Option}
use Rattle.mu_verdict.specs.Attestors.{CountsItems, FlawOfReply, StandsForAttestor, StaysOrTakes}
use Rattle.mu_verdict.specs.Attests.{GivesMore, IsEndOfItems, IsFound, IsRight, IsWrong}
use Rattle.mu_verdict.specs.declared.finding.Found.{Found}
use Rattle.std.specs.Prelude.{IfErr, IfOk}
use Rattle.mu_verdict.specs.Traces.{GivesItem, OpensItems, attested_trace, items_with, job_lines, later_lines, of_items, of_job}
use Rattle.mu_input.specs.Grammar.{job}
use Rattle.mu_input.specs.declared.job.InputEnd.{InputEnd}
use Rattle.mu_input.specs.declared.job.InputEnd.TheVariants.{Refused, NoMemory}
use Rattle.std.specs.declared.result.Result.{Result}
use Rattle.mu_verdict.specs.declared.attestor.Attestor.{Attestor}
use Rattle.mu_clients.proofs.Telling.{attested_agree, attested_in_time}
use Rattle.mu_clients.specs.Attested.{IsAttested, IsFlaw, events_in, items_back, reply_by, rows_got}
use Rattle.mu_clients.specs.declared.items.Attested.{Attested}
use Rattle.mu_clients.specs.declared.items.Flaw.{Flaw}
use Rattle.mu_clients.specs.declared.items.Flawed.{Flawed}
use Rattle.mu_clients.specs.declared.items.Item.{Item}
use Rattle.mu_input.specs.Readings.{Fits}
use Rattle.mu_input.specs.declared.job.Job.{Job}
use Rattle.mu_model.proofs.Budgets.{short_history}
use Rattle.mu_model.proofs.Lists.{get_front, get_push_here}
use Rattle.mu_model.specs.Contents.{IsConfig, includes, row_count}
use Rattle.mu_text.specs.Lines.{Left, ended, lines}

-- some items were read and are attested, and the states are those that they lead to
pub record HasAttested (bytes : List ℕ) (job : Job) (first : ℕ) (left : Left) (attestor : Attestor) : Type 0 where
  pub past : List Item
  pub reading : attested_trace bytes ≡ of_items job (items_with job.config.replicas (row_count job.config) past left)
  pub opens : first ≡ length (job_lines (lines bytes)) + 1
  pub number : left.number ≡ first + length past
  pub stands : StandsForAttestor job (items_back past) attestor

pub back_push : (past : List Item) (item : Item) → items_back (past ++ item ∷ []) ≡ item ∷ items_back past
back_push past item = reverse-append past (item ∷ [])

-- one more that may come
pub attested_more : (bytes : List ℕ) (job : Job) (first : ℕ) (left next : Left) (old new : Attestor) (item : Item) → (held : HasAttested bytes job first left old)
    → items_with job.config.replicas (row_count job.config) held.past left ≡ items_with job.config.replicas (row_count job.config) (held.past ++ item ∷ []) next → next.number ≡ left.number + 1
    → StandsForAttestor job (item ∷ items_back held.past) new → HasAttested bytes job first next new
attested_more bytes job first left next old new item held gives count stands = record {
  past = held.past ++ item ∷ [];
  reading = held.reading ∙ ap (of_items job) gives;
  opens = held.opens;
  number = (let one = length_push held.past item in let were = held.number in omega (arith, one, were, count));
  stands = subst (λ l. StandsForAttestor job l new) (sym (back_push held.past item)) stands;
}

-- all of them are right
pub attested_all : (bytes : List ℕ) (job : Job) (first : ℕ) (left : Left) (attestor : Attestor) (counts : Attested) → (held : HasAttested bytes job first left attestor)
    → items_with job.config.replicas (row_count job.config) held.past left ≡ Fits held.past → CountsItems (items_back held.past) counts → IsRight bytes counts
attested_all bytes job first left attestor counts held gives are = record {
  spelled = record { job = job; items = held.past };
  fits = held.reading ∙ ap (of_items job) gives;
  attested = held.stands.attested;
  events = are.events;
  gots = are.gots;
  all = are.all ∙ length-reverse held.past;
  agree = attested_agree job held.past held.stands.attested;
  in_time = attested_in_time job held.past held.stands.attested;
}

-- one that is wrong, whatever comes behind it
pub attested_to : (bytes : List ℕ) (job : Job) (first : ℕ) (left next : Left) (attestor : Attestor) (flawed : Flawed) (more : List Item) → (held : HasAttested bytes job first left attestor)
    → items_with job.config.replicas (row_count job.config) held.past left ≡ items_with job.config.replicas (row_count job.config) (held.past ++ flawed.item ∷ []) next
    → items_with job.config.replicas (row_count job.config) (held.past ++ flawed.item ∷ []) next ≡ Fits (held.past ++ flawed.item ∷ [] ++ more)
    → IsFlaw job (items_back held.past) flawed.item flawed.flaw → flawed.line ≡ left.number → flawed.line ≡ first + flawed.index → flawed.events ≡ length (events_in (items_back held.past)) → IsWrong bytes flawed
attested_to bytes job first left next attestor flawed more held gives rest flaw line place events =
    let were = held.number in
    let opens = held.opens in
    let at : flawed.index ≡ length held.past = omega (arith, were, line, place) in
    let front : take flawed.index (held.past ++ flawed.item ∷ [] ++ more) ≡ held.past =
    ap (λ n. take n (held.past ++ flawed.item ∷ [] ++ more)) at ∙ ap (take (length held.past)) (append_assoc held.past (flawed.item ∷ []) more) ∙ take-append_seam held.past (flawed.item ∷ more) in
    record {
      spelled = record { job = job; items = held.past ++ flawed.item ∷ [] ++ more };
      fits = held.reading ∙ ap (of_items job) (gives ∙ rest);
      there = get_front (held.past ++ flawed.item ∷ []) more flawed.index flawed.item (get_push_here held.past flawed.index flawed.item at);
      before = subst (λ l. IsAttested job l) (sym front) held.stands.attested;
      flaw = subst (λ l. IsFlaw job (items_back l) flawed.item flawed.flaw) (sym front) flaw;
      events = events ∙ ap (λ l. length (events_in (items_back l))) (sym front);
      line = omega (arith, line, were, at, opens, place);
    }

-- fewer events came than a legal list may have
pub few_events : (job : Job) (past : List Item) (attestor : Attestor) → IsConfig job.config → StandsForAttestor job past attestor → length (events_in past) ≤ 917497
few_events job past attestor good stands = short_history job.config (events_in past) stands.walk.legal good.replicas.1 good.budget.1

-- each item is an event, a command that was got, or a reply
pub counts_fit : (past : List Item) → length (events_in past) + length (rows_got past) ≤ length past
counts_fit [] = omega arith
counts_fit (Item.Event event ∷ past) = let rest = counts_fit past in omega (arith, rest)
counts_fit (Item.Got row ∷ past) = let rest = counts_fit past in let one = length_push (rows_got past) row in omega (arith, rest, one)
counts_fit (Item.Told by row reply ∷ past) = let rest = counts_fit past in omega (arith, rest)

-- a reply that was told is right, or this is wrong with it
pub told_judged : (job : Job) (past : List Item) (by row : ℕ) (reply : Reply) (right : Option Reply) (is_got : Bool) (flaw : Option Flaw) (attestor : Attestor) → right ≡ reply_by job by (events_in past) row → is_got ≡ includes row attestor.got.items → FlawOfReply right reply is_got flaw
    → StandsForAttestor job past attestor → StaysOrTakes job past (Item.Told by row reply) attestor flaw
told_judged job past by row reply right is_got None attestor is had judged held = record {
  attested = (held.attested, (sym is ∙ judged.0, ap (includes row) (sym held.got) ∙ sym had ∙ judged.1));
  walk = held.walk;
  got = held.got;
  put = held.put;
  events = held.events;
}
told_judged job past by row reply right is_got (Some (Flaw.Fault fault)) attestor is had judged held = absurd judged
told_judged job past by row reply right is_got (Some Flaw.GotBefore) attestor is had judged held = absurd judged
told_judged job past by row reply right is_got (Some Flaw.PutBefore) attestor is had judged held = absurd judged
told_judged job past by row reply right is_got (Some Flaw.NotApplied) attestor is had judged held = sym is ∙ judged
told_judged job past by row reply right is_got (Some (Flaw.OtherReply other)) attestor is had judged held = (sym is ∙ judged.0, judged.1)
told_judged job past by row reply right is_got (Some Flaw.NeverGot) attestor is had judged held = (sym is ∙ judged.0, ap (includes row) (sym held.got) ∙ sym had ∙ judged.1)

-- what is left of so many items is the replies
pub counts_all : (past : List Item) (items events gots : ℕ) (counts : Attested) → items ≡ length past → events ≡ length (events_in past) → gots ≡ length (rows_got past) → counts.events ≡ events → counts.gots ≡ gots
    → counts.tolds ≡ items - events - gots → CountsItems past counts
counts_all past items events gots counts all one two same other rest =
    let fit = counts_fit past in
    record { events = same ∙ one; gots = other ∙ two; all = omega (arith, fit, all, one, two, same, other, rest) }

-- the job is read, and the items are left
pub opens_items : (bytes text : List ℕ) (given : Job) (start left : Left) → start.number ≡ 1 → start.lines ≡ lines bytes → text ≡ ended (job_lines start.lines) → left.lines ≡ later_lines start.lines
    → left.number ≡ start.number + length (job_lines start.lines) → job text ≡ Fits given → OpensItems bytes given left
opens_items bytes text given start left one all is later count fits =
    let many = ap (λ l. length (job_lines l)) all in
    let number : left.number ≡ length (job_lines (lines bytes)) + 1 = omega (arith, one, count, many) in
    record {
      reading = ap (λ r. of_job r (lines bytes)) (ap (λ l. job (ended (job_lines l))) (sym all) ∙ ap job (sym is) ∙ fits)
          ∙ ap (λ k. of_items given (items_with given.config.replicas (row_count given.config) [] (record { number = k; lines = later_lines (lines bytes) }))) (sym number)
          ∙ ap (λ l. of_items given (items_with given.config.replicas (row_count given.config) [] (record { number = left.number; lines = l }))) (ap later_lines (sym all) ∙ sym later);
      number = number;
    }

-- what is given of the items by a count of the rows
pub by_rows : (n rows count : ℕ) (past : List Item) (left : Left) (found : Result (Option Item) InputEnd) (next : Left) → rows ≡ count → GivesItem n rows past left found next → GivesItem n count past left found next
by_rows n rows count past left found next same gives = subst (λ k. GivesItem n k past left found next) same gives

pub more_by_rows : (n rows count : ℕ) (past : List Item) (left : Left) (flawed : Flawed) (result : Result Found InputEnd) → rows ≡ count → GivesMore n rows past left flawed result → GivesMore n count past left flawed result
more_by_rows n rows count past left flawed result same gives = subst (λ k. GivesMore n k past left flawed result) same gives

-- a line that leaves the grammar
pub item_refused : (bytes : List ℕ) (job : Job) (first : ℕ) (left next : Left) (attestor : Attestor) (end : InputEnd) → (held : HasAttested bytes job first left attestor)
    → GivesItem job.config.replicas (row_count job.config) held.past left (Err end) next → IsEndOfItems bytes end
item_refused bytes job first left next attestor (Refused line cause) held gives = held.reading ∙ ap (of_items job) gives
item_refused bytes job first left next attestor NoMemory held gives = tt

-- an item is wrong, whatever comes behind it; or a line behind it leaves the grammar
pub wrong_found : (bytes : List ℕ) (job : Job) (first : ℕ) (left next : Left) (attestor : Attestor) (flawed : Flawed) (result : Result Found InputEnd) → (held : HasAttested bytes job first left attestor)
    → items_with job.config.replicas (row_count job.config) held.past left ≡ items_with job.config.replicas (row_count job.config) (held.past ++ flawed.item ∷ []) next
    → GivesMore job.config.replicas (row_count job.config) (held.past ++ flawed.item ∷ []) next flawed result
    → IsFlaw job (items_back held.past) flawed.item flawed.flaw → flawed.line ≡ left.number → flawed.line ≡ first + flawed.index → flawed.events ≡ length (events_in (items_back held.past)) → IfOk result (IsFound bytes)
wrong_found bytes job first left next attestor flawed (Ok found) held gives more flaw line place events =
    subst (IsFound bytes) (sym more.0) (attested_to bytes job first left next attestor flawed more.1 held gives more.2 flaw line place events)
wrong_found bytes job first left next attestor flawed (Err end) held gives more flaw line place events = tt

pub wrong_refused : (bytes : List ℕ) (job : Job) (first : ℕ) (left next : Left) (attestor : Attestor) (flawed : Flawed) (result : Result Found InputEnd) → (held : HasAttested bytes job first left attestor)
    → items_with job.config.replicas (row_count job.config) held.past left ≡ items_with job.config.replicas (row_count job.config) (held.past ++ flawed.item ∷ []) next
    → GivesMore job.config.replicas (row_count job.config) (held.past ++ flawed.item ∷ []) next flawed result → IfErr result (IsEndOfItems bytes)
wrong_refused bytes job first left next attestor flawed (Ok found) held gives more = tt
wrong_refused bytes job first left next attestor flawed (Err (Refused line cause)) held gives more = held.reading ∙ ap (of_items job) (gives ∙ more)
wrong_refused bytes job first left next attestor flawed (Err NoMemory) held gives more = tt
