-- One command and its row more.
use Rattle.std.proofs.Common.{◌≡◌, ◌∙◌, ℕ, suc, zero, ◌+◌, ◌%◌, ◌/◌, ◌^◌, ◌<◌, ◌≤◌, ◌==◌, Bool, true, false, List, [], ◌∷◌, ◌++◌, Some, ap, arith, inl, inr, length, refl, subst, sym}
use Rattle.std.specs.Prelude.{if◌then◌else◌, slice_index}
use Rattle.std.specs.List.{slice_get}
use Rattle.std.proofs.lemmas.List.{length_push}
use Rattle.std.proofs.lemmas.Bool.{cases_eq, eq-eqb}
use Rattle.std.proofs.lemmas.Option.{slice_get_within}
use Rattle.kv_store.specs.Commands.{Request}
use Rattle.mu_follow.specs.Groups.{AreSpelled, IsSpelled, Spells}
use Rattle.mu_input.specs.Batches.{followers}
use Rattle.mu_input.specs.Heads.{HasHead, HaveHeads}
use Rattle.mu_model.specs.declared.config.Config.{Config}
use Rattle.mu_model.specs.declared.config.Row.{Row}
use Rattle.mu_model.specs.declared.event.Event.{Event}
use Rattle.mu_knowledge.specs.RowWords.{config_words}
use Rattle.mu_model.specs.Contents.{IsConfig, client_of, row_count, rows_before, word_of}
use Rattle.mu_model.specs.Growing.{with_more}
use Rattle.mu_model.proofs.Basics.{same_some}
use Rattle.mu_model.proofs.Lists.{get_front, get_push_here, get_push_other, item_below}
use Rattle.mu_rows.specs.Rows.{IsCommand, spelled}
use Rattle.mu_agree.proofs.Growing.{grown_is_config_law, legal_stays_law}
use Rattle.mu_input.specs.declared.job.Job.{Job}
use Rattle.mu_engine.specs.declared.hold.Hold.{Hold}
use Rattle.mu_engine.specs.Live.{Live, row_of, with_command}
use Rattle.mu_engine.specs.Moments.{IsMoment}
use Rattle.mu_engine.specs.Shapes.{no_script}

-- a batch of one command has no followers
pub alone : (command : Request) (commands : List Request) → followers 1 command commands ≡ 0
alone command [] = refl
alone command (next ∷ commands) = ap (λ t. if t then 0 else (if next.client == command.client then followers 1 next commands + 1 else 0)) (eq-eqb (command.number % 1) 0 (omega arith))

-- the head words of the rows with one more
pub heads_push : (commands : List Request) (rows : List Row) (command : Request) (row : Row) → HaveHeads 1 commands rows → HasHead row command 0 → HaveHeads 1 (commands ++ command ∷ []) (rows ++ row ∷ [])
heads_push [] [] command row have head = (head, tt)
heads_push [] (first ∷ rows) command row have head = absurd have
heads_push (first ∷ commands) [] command row have head = absurd have
heads_push (first ∷ commands) (own ∷ rows) command row have head =
    (subst (HasHead own first) (alone first commands ∙ sym (alone first (commands ++ command ∷ []))) have.0, heads_push commands rows command row have.1 head)

-- the words of a row that was there
words_kept : (c : Config) (more : List Row) (j : ℕ) → j < row_count c → config_words (with_more c more) j ≡ config_words c j
words_kept c more j low =
    let x = item_below c.rows j low in
    ap (λ o. word_of o 0 ∷ word_of o 1 ∷ word_of o 2 ∷ word_of o 3 ∷ word_of o 4 ∷ word_of o 5 ∷ word_of o 6 ∷ word_of o 7 ∷ word_of o 8 ∷ word_of o 9 ∷ word_of o 10 ∷ word_of o 11 ∷ []) (get_front c.rows more j x.0 x.1 ∙ sym x.1)

-- no client has more rows before a row than there are
pub few_before : (c : Config) (client j : ℕ) → rows_before c client j ≤ j
few_before c client zero = omega arith
few_before c client (suc j) = go (client_of c j == client) (few_before c client j)
  where
    go : (t : Bool) → rows_before c client j ≤ j → (if t then rows_before c client j + 1 else rows_before c client j) ≤ suc j
    go true few = omega (arith, few)
    go false few = omega (arith, few)

-- the rows with one more spell the commands with one more
pub spelled_push : (c : Config) (commands : List Request) (command : Request) → AreSpelled c commands → IsCommand command → AreSpelled (with_more c (row_of command ∷ [])) (commands ++ command ∷ [])
spelled_push c commands command was is = record { count = count; each = each }
  where
    count : length (commands ++ command ∷ []) ≡ length (c.rows ++ row_of command ∷ [])
    count = let one = length_push commands command in let other = length_push c.rows (row_of command) in let same = was.count in omega (arith, one, other, same)

    each : (j : ℕ) (x : Request) → slice_get (commands ++ command ∷ []) j ≡ Some x → IsSpelled (with_more c (row_of command ∷ [])) j x
    each j x at = elim (cases_eq j (length commands)) [
      | inl last ↦
          let same = same_some command x (sym (get_push_here commands j command last) ∙ at) in
          let here : slice_get (c.rows ++ row_of command ∷ []) j ≡ Some (row_of command) = get_push_here c.rows j (row_of command) (last ∙ was.count) in
          subst (IsSpelled (with_more c (row_of command ∷ [])) j) same (record {
            is = is;
            rest = 0;
            low = omega arith;
            words = ap (λ o. word_of o 0 ∷ word_of o 1 ∷ word_of o 2 ∷ word_of o 3 ∷ word_of o 4 ∷ word_of o 5 ∷ word_of o 6 ∷ word_of o 7 ∷ word_of o 8 ∷ word_of o 9 ∷ word_of o 10 ∷ word_of o 11 ∷ []) here;
          })
      | inr other ↦
          let there = sym (get_push_other commands j command other) ∙ at in
          let low = slice_get_within commands j x there in
          let same = was.count in
          subst (λ words. Spells words x) (sym (words_kept c (row_of command ∷ []) j (omega (arith, low, same)))) (was.each j x there)
    ]

-- the moment after a command was submitted
pub moment_grown : (job : Job) (events : List Event) (command : Request) (words : List ℕ) → IsMoment job events → job.config.width ≡ 1 → row_count job.config < 1500 → IsCommand command
    → command.number ≡ rows_before job.config command.client (row_count job.config) + 1
    → words ≡ spelled command 0 → slice_index words 0 / 2 ^ 8 % 2 ^ 8 ≡ command.client → slice_index words 0 / 2 ^ 16 % 2 ^ 16 ≡ command.number → slice_index words 0 / 2 ^ 56 ≡ 0
    → IsMoment (with_command job command) events
moment_grown job events command words was plain few is numbered told client number rest = record {
  config = grown;
  heads = subst (λ w. HaveHeads w (job.commands ++ command ∷ []) (job.config.rows ++ row_of command ∷ [])) (sym plain)
      (heads_push job.commands job.config.rows command (row_of command) (subst (λ w. HaveHeads w job.commands job.config.rows) plain was.heads) head);
  spelled = spelled_push job.config job.commands command was.spelled is;
  legal = legal_stays_law job.config (row_of command ∷ []) events was.config grown was.legal;
}
  where
    head : HasHead (row_of command) command 0
    head = record {
      client = ap (λ ws. slice_index ws 0 / 2 ^ 8 % 2 ^ 8) (sym told) ∙ client;
      number = ap (λ ws. slice_index ws 0 / 2 ^ 16 % 2 ^ 16) (sym told) ∙ number;
      rest = ap (λ ws. slice_index ws 0 / 2 ^ 56) (sym told) ∙ rest;
    }

    grown : IsConfig (with_more job.config (row_of command ∷ []))
    grown = grown_is_config_law job.config (row_of command) was.config few head.rest (head.number ∙ numbered ∙ ap (λ x. rows_before job.config x (row_count job.config) + 1) (sym head.client))

-- an engine by its parts
abbrev pub live_by : Config → List Request → ℕ → List Event → List Hold → Live
live_by c commands room events holds = record { job = record { config = c; commands = commands; script = no_script }; room = room; events = events; holds = holds }

pub live_same : (c d : Config) (xs ys : List Request) (m n : ℕ) (es fs : List Event) (hs gs : List Hold) → c ≡ d → xs ≡ ys → m ≡ n → es ≡ fs → hs ≡ gs → live_by c xs m es hs ≡ live_by d ys n fs gs
live_same c d xs ys m n es fs hs gs one two three four five =
    ap (λ k. live_by k xs m es hs) one ∙ ap (λ l. live_by d l m es hs) two ∙ ap (λ k. live_by d ys k es hs) three ∙ ap (λ l. live_by d ys n l hs) four ∙ ap (λ l. live_by d ys n fs l) five
