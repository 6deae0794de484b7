-- What was handed on before a turn, and what its note tells.
use Rattle.std.proofs.Common.{◌≡◌, ◌∙◌, ◌==◌, ◌&&◌, ◌||◌, ◌*◌, ◌+◌, ℕ, Bool, true, false, List, ◌∷◌, None, Some, ap, length, take, refl, subst, sym}
use Rattle.std.specs.Prelude.{if◌then◌else◌, is_some, nat_lt, not}
use Rattle.std.specs.declared.option.Option.{Option}
use Rattle.std.proofs.lemmas.Bool.{true≢false}
use Rattle.mu_model.specs.declared.config.Config.{Config}
use Rattle.mu_model.specs.declared.event.Answer.{Answer}
use Rattle.mu_model.specs.declared.event.Event.{Event}
use Rattle.mu_model.specs.declared.event.Verb.{Verb}
use Rattle.mu_model.specs.Knowledge.{applied}
use Rattle.mu_model.specs.Parts.{IsPossible}
use Rattle.mu_model.specs.Scores.{leader}
use Rattle.mu_model.specs.Stretches.{is_odd}
use Rattle.mu_model.specs.Histories.{event_by}
use Rattle.mu_lead.specs.declared.note.Note.{Note}
use Rattle.mu_lead.specs.declared.lead.Lead.{Lead}
use Rattle.mu_lead.specs.Going.{begins_at, going_after}
use Rattle.mu_lead.specs.Saying.{Says}
use Rattle.mu_node.specs.declared.node.Node.{Node}
use Rattle.mu_node.specs.Answers.{HoldsAnswers}
use Rattle.mu_node.specs.Cycle.{handed, handed_before, place_now}
use Rattle.mu_node.specs.declared.zeal.Zeal.{Zeal}
use Rattle.mu_node.specs.Due.{asks_out_of_turn, idle_due, lead_due, verb_or_beat}
use Rattle.mu_follow.specs.CatchingUp.{or_else}
use Rattle.std.proofs.Math.Bool.{and-false}
use Rattle.mu_node.specs.Node.{HasPlanned, StandsForLead, StandsForNode}
use Rattle.mu_node.specs.Notes.{HasTold, MovesGoing, SaysTook, TellsNote, TellsTook, heed_note, note_before, note_at}
use Rattle.mu_node.proofs.Leads.{due_named, due_unresigned}
use Rattle.mu_node.proofs.Where.{due_listed}
use Rattle.mu_lead.specs.Journal.{IsWhere, due_after, place_after}
use Rattle.mu_lead.specs.Lasting.{tables_of}
use Rattle.mu_lead.specs.Listing.{Tables}

-- in a turn of the leader nothing is handed on
pub odd_planned : (c : Config) (r : ℕ) (mine : List Event) (node : Node) → is_odd (length mine) ≡ true → StandsForNode c r mine node → HasPlanned c r mine node
odd_planned c r mine node odd held = record {
  beside = held.beside;
  lead = held.lead;
  handed = held.handed ∙ sym (ap (λ t. if (not t && (place_now c mine == 2 * c.replicas + 20)) then length (applied c r mine) else handed_before c r mine) odd);
  answers = λ commands are. subst (λ n. HoldsAnswers c commands (take n (applied c r mine)) node.answers) (sym (ap (λ t. if (not t && (place_now c mine == 2 * c.replicas + 20)) then length (applied c r mine) else handed_before c r mine) odd)) (held.answers commands are);
  reads = held.reads;
}

-- nor in a background turn at another place
pub handed_elsewhere : (c : Config) (r : ℕ) (mine : List Event) → (place_now c mine == 2 * c.replicas + 20) ≡ false → handed c r mine ≡ handed_before c r mine
handed_elsewhere c r mine other = go (is_odd (length mine)) (place_now c mine == 2 * c.replicas + 20) other
  where
    go : (s t : Bool) → t ≡ false → (if (not s && t) then length (applied c r mine) else handed_before c r mine) ≡ handed_before c r mine
    go true t is = refl
    go false false is = refl
    go false true is = absurd (true≢false is)

-- at that of the head all that is applied is
pub handed_here : (c : Config) (r : ℕ) (mine : List Event) → is_odd (length mine) ≡ false → (place_now c mine == 2 * c.replicas + 20) ≡ true → handed c r mine ≡ length (applied c r mine)
handed_here c r mine even here =
    ap (λ s. if (not s && (place_now c mine == 2 * c.replicas + 20)) then length (applied c r mine) else handed_before c r mine) even
    ∙ ap (λ t. if t then length (applied c r mine) else handed_before c r mine) here

-- whether the verb is the leader's: in a turn of its own, if it has one due
abbrev pub IsLed : Config → ℕ → List Event → Lead → Bool → Type 0
IsLed c r mine lead leads = leads ≡ (is_odd (length mine) && is_some (lead_due c r mine lead))

led_even : (c : Config) (r : ℕ) (mine : List Event) (lead : Lead) (leads : Bool) → IsLed c r mine lead leads → is_odd (length mine) ≡ false → leads ≡ false
led_even c r mine lead leads turn even = turn ∙ ap (λ t. t && is_some (lead_due c r mine lead)) even

led_idle : (c : Config) (r : ℕ) (mine : List Event) (lead : Lead) (leads : Bool) → IsLed c r mine lead leads → lead_due c r mine lead ≡ None → leads ≡ false
led_idle c r mine lead leads turn none = turn ∙ (ap (λ due. is_odd (length mine) && is_some due) none ∙ and-false (is_odd (length mine)))

led_on : (c : Config) (r : ℕ) (mine : List Event) (lead : Lead) (leads : Bool) (verb : Verb) → IsLed c r mine lead leads → is_odd (length mine) ≡ true → lead_due c r mine lead ≡ Some verb → leads ≡ true
led_on c r mine lead leads verb turn odd some = turn ∙ (ap (λ due. is_odd (length mine) && is_some due) some ∙ ap (λ t. t && true) odd)

-- in a turn of the leader what it has due is due, and what an idle turn gives if it has nothing due
abbrev pub IsTurnDue : Zeal → Config → ℕ → List Event → Lead → Option Verb → Type 0
IsTurnDue zeal c r mine lead due = is_odd (length mine) ≡ true → due ≡ or_else (lead_due c r mine lead) (idle_due zeal c r mine)

due_some : (zeal : Zeal) (c : Config) (r : ℕ) (mine : List Event) (lead : Lead) (due : Option Verb) (verb : Verb) → IsTurnDue zeal c r mine lead due → is_odd (length mine) ≡ true → lead_due c r mine lead ≡ Some verb → due ≡ Some verb
due_some zeal c r mine lead due verb led odd some = led odd ∙ ap (λ o. or_else o (idle_due zeal c r mine)) some

-- what a turn is noted as
pub note_told : (zeal : Zeal) (c : Config) (r : ℕ) (mine : List Event) (lead planned next : Lead) (leads : Bool) (due : Option Verb) (heeded : Note) (answer : Answer) (note : Note) → IsLed c r mine lead leads → IsTurnDue zeal c r mine lead due
    → heeded ≡ note_before c r mine lead → IsPossible c r (event_by r (verb_or_beat due) answer ∷ mine) → TellsTook c r mine leads due heeded answer note
    → (is_odd (length mine) ≡ true → HasTold c r mine lead planned) → SaysTook c r mine leads due heeded planned next answer note → StandsForLead c r mine lead → IsWhere c r mine lead → (is_odd (length mine) ≡ true → asks_out_of_turn zeal c r mine ≡ false) → TellsNote zeal c r mine lead answer note
note_told zeal c r mine lead planned next leads due heeded answer note turn led before possible took told says held listed calm = record {
  background = λ even. took.beside (led_even c r mine lead leads turn even) ∙ (before ∙ ap (λ t. if t then heed_note c r mine lead else Note.Working) even);
  idle = λ inside odd none. took.beside (led_idle c r mine lead leads turn (same ∙ none)) ∙ (before ∙ ap (λ t. if t then heed_note c r mine lead else Note.Working) odd);
  taken = λ verb inside odd due_now.
      let some = same ∙ due_now in
      took.taken verb (led_on c r mine lead leads verb turn odd some) (due_some zeal c r mine lead due verb led odd some) (before ∙ (ap (λ t. if t then heed_note c r mine lead else Note.Working) odd ∙ due_unresigned c r mine lead verb some))
      (subst (λ v. IsPossible c r (event_by r v answer ∷ mine)) (ap verb_or_beat (due_some zeal c r mine lead due verb led odd some)) possible);
  says = λ verb inside odd due_now.
      let some = same ∙ due_now in
      let stays = (told odd).place (due_named c r mine lead verb some) in
      subst (λ u. Says c r mine u (place_after c r mine) verb answer note) (ap (λ (t : Tables). t.up) listed.tables)
      (subst (λ p. Says c r mine lead.up p verb answer note) (stays ∙ listed.place)
      (subst (λ u. Says c r mine u planned.place verb answer note) (told odd).up
      (says.says verb (led_on c r mine lead leads verb turn odd some) (due_some zeal c r mine lead due verb led odd some) (before ∙ (ap (λ t. if t then heed_note c r mine lead else Note.Working) odd ∙ due_unresigned c r mine lead verb some))
      (subst (λ v. IsPossible c r (event_by r v answer ∷ mine)) (ap verb_or_beat (due_some zeal c r mine lead due verb led odd some)) possible))));
  noted = λ verb inside odd due_now.
      let some = same ∙ due_now in
      let stays = (told odd).place (due_named c r mine lead verb some) in
      subst (λ t. note ≡ note_at c r mine t (place_after c r mine) verb answer) ((told odd).tables ∙ listed.tables)
      (subst (λ p. note ≡ note_at c r mine (tables_of planned) p verb answer) (stays ∙ listed.place)
      (says.noted verb (led_on c r mine lead leads verb turn odd some) (due_some zeal c r mine lead due verb led odd some) (before ∙ (ap (λ t. if t then heed_note c r mine lead else Note.Working) odd ∙ due_unresigned c r mine lead verb some))
      (subst (λ v. IsPossible c r (event_by r v answer ∷ mine)) (ap verb_or_beat (due_some zeal c r mine lead due verb led odd some)) possible)));
  again = λ out odd. absurd (true≢false (sym out ∙ calm odd));
}
  where
    same : lead_due c r mine lead ≡ due_after c r mine
    same = due_listed c r mine lead held listed

-- if the scores name r, its leadership is under way as before
told_going : (under low : Bool) → low ≡ false → (under && not low) ≡ under
told_going true low is = ap not is
told_going false low is = refl

-- and whether a leadership is under way after it
pub going_moves : (zeal : Zeal) (c : Config) (r : ℕ) (mine : List Event) (lead planned next : Lead) (leads : Bool) (due : Option Verb) (heeded : Note) (answer : Answer) (note : Note) → IsLed c r mine lead leads → IsTurnDue zeal c r mine lead due
    → heeded ≡ note_before c r mine lead → (is_odd (length mine) ≡ true → HasTold c r mine lead planned) → (is_odd (length mine) ≡ false → planned ≡ lead)
    → SaysTook c r mine leads due heeded planned next answer note → MovesGoing c r mine lead next note
going_moves zeal c r mine lead planned next leads due heeded answer note turn led before told same says = record {
  background = λ even. says.beside (led_even c r mine lead leads turn even) ∙ ap (λ (l : Lead). l.under_way) (same even);
  idle = λ odd none. says.beside (led_idle c r mine lead leads turn none) ∙ (told odd).going;
  taken = λ verb odd some.
      let low = due_named c r mine lead verb some in
      says.going verb (led_on c r mine lead leads verb turn odd some) (due_some zeal c r mine lead due verb led odd some) (before ∙ (ap (λ t. if t then heed_note c r mine lead else Note.Working) odd ∙ due_unresigned c r mine lead verb some))
      ∙ (ap (λ p. going_after (begins_at p || planned.under_way) note) ((told odd).place low)
      ∙ ap (λ t. going_after (begins_at lead.place || t) note) ((told odd).going ∙ told_going lead.under_way (nat_lt (leader c r mine) r) low));
}
