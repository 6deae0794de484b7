-- How what a leader has with it follows the events.
use Rattle.std.proofs.Common.{◌≡◌, ◌≢◌, ◌∙◌, ℕ, ◌==◌, Bool, ap, true, false, List, ◌∷◌, ◌++◌, [], Some, None, refl, sym, subst}
use Rattle.std.proofs.lemmas.Bool.{ne_eqb, true≢false}
use Rattle.std.proofs.lemmas.List.{reverse-append}
use Rattle.std.specs.Prelude.{IfSome, if◌then◌else◌}
use Rattle.std.specs.declared.option.Option.{Option}
use Rattle.mu_model.specs.declared.config.Config.{Config}
use Rattle.mu_model.specs.declared.event.Event.{Event}
use Rattle.mu_model.specs.declared.event.Answer.{Answer}
use Rattle.mu_model.specs.declared.event.Verb.{Verb}
use Rattle.mu_model.specs.Histories.{history, part, event_by}
use Rattle.mu_model.specs.Knowledge.{known}
use Rattle.mu_model.specs.Legal.{IsLegal, IsLegalHistory}
use Rattle.mu_model.proofs.Basics.{none_some}
use Rattle.mu_detect.specs.declared.scores.Scores.{Scores}
use Rattle.mu_lead.specs.declared.lead.Lead.{Lead}
use Rattle.mu_lead.specs.Beside.{is_beside, leads_at, writes_row}
use Rattle.mu_lead.specs.Standing.{StandsFor, known_told}
use Rattle.mu_lead.proofs.Others.{others_kept}
use Rattle.mu_replicas.specs.declared.replica.Replica.{Replica}
use Rattle.mu_replicas.specs.declared.replicas.Replicas.{Replicas}
use Rattle.worked_leads.specs.Driven.{Beside}
use Rattle.mu_model.specs.Steps.{is_slot_put_verb}
use Rattle.mu_model.proofs.Parts.{part_of_maker}

-- the history of a list with one event more
pub history_after : (events now past : List Event) (e : Event) → history events ≡ past → now ≡ events ++ e ∷ [] → history now ≡ e ∷ past
history_after events now past e was is = ap (λ l. history l) is ∙ (reverse-append events (e ∷ []) ∙ ap (λ l. e ∷ l) was)

-- is legal if the list is
pub legal_after : (k c : Config) (events now past : List Event) (e : Event) → k ≡ c → history events ≡ past → now ≡ events ++ e ∷ [] → IsLegal k now → IsLegalHistory c (e ∷ past)
legal_after k c events now past e same was is legal =
    subst (λ l. IsLegalHistory c l) (history_after events now past e was is) (subst (λ x. IsLegalHistory x (history now)) same legal)

-- what stands beside a leader does beside one of the same replica
pub beside_same : (past : List Event) (old new : Lead) (own : Replica) (scores : Scores) (all : Replicas) → new.config ≡ old.config → new.id ≡ old.id → Beside old.config old.id past own scores all → Beside new.config new.id past own scores all
beside_same past old new own scores all same_config same_id held =
    subst (λ k. Beside k new.id past own scores all) (sym same_config) (subst (λ i. Beside old.config i past own scores all) (sym same_id) held)

-- what a put that was due has made known is told apart
pub told_put : (c : Config) (r : ℕ) (mine : List Event) (verb : Verb) (answer : Answer) → is_slot_put_verb verb ≡ true → known c r mine ≡ known_told c r mine r verb answer
told_put c r mine (Verb.PutSlot p i b v) answer put = refl
told_put c r mine verb answer put = absurd (true≢false (sym put))

-- and after any other step what is known is
pub told_other : (c : Config) (r : ℕ) (mine : List Event) (verb : Verb) (answer : Answer) → is_slot_put_verb verb ≡ false → known c r (event_by r verb answer ∷ mine) ≡ known_told c r mine r verb answer
told_other c r mine (Verb.PutSlot p i b v) answer other = absurd (true≢false other)
told_other c r mine verb answer other = refl

-- a verb that is beside the leader whether it leads or not writes no row
aside_writes_none : (verb : Verb) → is_beside false verb ≡ true → writes_row verb ≡ false
aside_writes_none (Verb.WriteRow j k x) beside = absurd (true≢false (sym beside))
aside_writes_none verb beside = refl

-- a step of another machine keeps what the leader stands for
pub stands_aside : (past : List Event) (e : Event) (l : Lead) → e.by ≡ l.id → ((leading : Bool) → is_beside leading e.verb ≡ true) → IsLegalHistory l.config (e ∷ past) → StandsFor (part l.id past) l → StandsFor (part l.id (e ∷ past)) l
stands_aside past e l is beside legal stands =
    let own : part l.id (e ∷ past) ≡ event_by l.id e.verb e.answer ∷ part l.id past =
    subst (λ r. part r (e ∷ past) ≡ event_by r e.verb e.answer ∷ part r past) is (part_of_maker e past) in
    subst (λ m. StandsFor m l) (sym own) (others_kept (part l.id past) l e.verb e.answer (aside_writes_none e.verb (beside false)) (beside (leads_at l.place)) (record { past = e ∷ past; legal = legal; is = own }) stands)
