-- Lists of what each replica has come to.
use Rattle.std.proofs.Common.{◌≡◌, ℕ, zero, suc, ◌<◌, List, [], ◌∷◌, ◌++◌, Some, ap, append_assoc, arith, length, map, refl, sym, ◌∙◌, inl, inr}
use Rattle.std.specs.Option.{option_map}
use Rattle.std.specs.List.{slice_get}
use Rattle.std.proofs.lemmas.Bool.{cases_eq}
use Rattle.std.proofs.lemmas.List.{length_push}
use Rattle.std.proofs.lemmas.Option.{slice_get-map}
use Rattle.kv_store.specs.Commands.{Request}
use Rattle.kv_store.specs.declared.store.Reply.{Reply}
use Rattle.kv_store.specs.Tables.{Table, replies, replies_from, reply_to, table_after}
use Rattle.mu_knowledge.specs.Commits.{pair_of}
use Rattle.mu_model.specs.declared.event.Event.{Event}
use Rattle.mu_model.specs.Histories.{history, part}
use Rattle.mu_model.specs.Knowledge.{applied, commits}
use Rattle.mu_model.proofs.Lists.{get_push_here, get_push_other}
use Rattle.mu_outcome.specs.declared.outcome.Outcome.{Outcome}
use Rattle.mu_outcome.specs.Entries.{commands_in, longest}
use Rattle.mu_outcome.specs.Outcomes.{log_of, or_empty}
use Rattle.mu_outcome.specs.Reached.{IsReached}
use Rattle.mu_telling.specs.Accounts.{each_below}

pub length_each : {A : Type 0} (n : ℕ) (f : ℕ → A) → length (each_below n f) ≡ n
length_each zero f = refl
length_each (suc n) f = let one = length_push (each_below n f) (f n) in let before = length_each n f in omega (arith, one, before)

-- what f gives of r stands at r
pub get_each : {A : Type 0} (n r : ℕ) (f : ℕ → A) → r < n → slice_get (each_below n f) r ≡ Some (f r)
get_each zero r f low = absurd (omega (arith, low))
get_each (suc n) r f low = elim (cases_eq r (length (each_below n f))) [
  | inl here ↦ get_push_here (each_below n f) r (f n) here ∙ ap (λ k. Some (f k)) (sym (here ∙ length_each n f))
  | inr other ↦ (
      let long = length_each n f in
      get_push_other (each_below n f) r (f n) other ∙ get_each n r f (below r n low (λ same. other (same ∙ sym long))))
]
  where
    below : (r n : ℕ) → r < suc n → (r ≡ n → ⊥) → r < n
    below r n low differ = elim (cases_eq r n) [ inl same ↦ absurd (differ same) | inr off ↦ omega (arith, low, off) ]

-- the replies with that to the next command
pub answered_next : (table after : Table) (had told : List Reply) (reply : Reply) (command : Request) (rest : List Request) → told ≡ had ++ reply ∷ [] → reply ≡ reply_to table command.op
    → after ≡ table_after table command.op → told ++ replies_from after rest ≡ had ++ replies_from table (command ∷ rest)
answered_next table after had told reply command rest is answer left =
    ap (λ l. l ++ replies_from after rest) is
    ∙ (append_assoc had (reply ∷ []) (replies_from after rest)
    ∙ (ap (λ r. had ++ (r ∷ replies_from after rest)) answer ∙ ap (λ t. had ++ (reply_to table command.op ∷ replies_from t rest)) left))

-- an outcome of such lists is what the list of events has come to
pub reached_of : (o : Outcome) (events : List Event) → o.logs ≡ each_below o.job.config.replicas (λ r. applied o.job.config r (part r (history events)))
    → map (map pair_of) o.commits ≡ each_below o.job.config.replicas (λ r. commits o.job.config r (part r (history events))) → o.own_replies ≡ map (λ log. replies (commands_in o.job log)) o.logs
    → o.replies ≡ replies (commands_in o.job (longest o.logs)) → IsReached events o
reached_of o events logs made own told = record {
  count = ap length logs ∙ length_each n log;
  logs = log_is;
  commits = λ r low. ap or_empty (ap (λ l. slice_get l r) made ∙ get_each n r (λ q. commits o.job.config q (part q (history events))) low);
  own_replies = λ r low.
      ap or_empty (ap (λ l. slice_get l r) own ∙ (slice_get-map answers o.logs r ∙ ap (option_map answers) (at r low))) ∙ ap answers (sym (log_is r low));
  replies = told;
}
  where
    n : ℕ
    n = o.job.config.replicas

    log : ℕ → List ℕ
    log r = applied o.job.config r (part r (history events))

    answers : List ℕ → List Reply
    answers l = replies (commands_in o.job l)

    at : (r : ℕ) → r < o.job.config.replicas → slice_get o.logs r ≡ Some (applied o.job.config r (part r (history events)))
    at r low = ap (λ l. slice_get l r) logs ∙ get_each o.job.config.replicas r (λ q. applied o.job.config q (part q (history events))) low

    log_is : (r : ℕ) → r < o.job.config.replicas → log_of o r ≡ applied o.job.config r (part r (history events))
    log_is r low = ap or_empty (at r low)
