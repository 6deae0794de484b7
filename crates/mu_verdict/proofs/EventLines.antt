-- The lines of a trace that spell its events.
use Rattle.std.proofs.Common.{◌≡◌, ℕ, zero, suc, ◌+◌, ◌-◌, ◌≤◌, ◌<◌, ◌^◌, ◌==◌, Bool, true, false, if◌then◌else◌, List, [], ◌∷◌, ◌++◌, length, None, Some, Option, codes, refl, sym, ap, subst, ◌∙◌, append_assoc, arith}
use Rattle.std.specs.Prelude.{IfSome}
use Rattle.std.specs.Option.{option_map_or}
use Rattle.std.specs.List.{slice_get}
use Rattle.std.specs.Str.{bytes_eq}
use Rattle.std.proofs.lemmas.List.{append-nil, length-append}
use Rattle.std.proofs.lemmas.Option.{slice_get_within}
use Rattle.kv_store.specs.Commands.{Request}
use Rattle.mu_events.specs.Events.{event_of}
use Rattle.mu_model.specs.declared.event.Event.{Event}
use Rattle.mu_model.specs.declared.script.Pause.{Pause}
use Rattle.mu_model.specs.declared.script.Script.{Script}
use Rattle.mu_model.specs.declared.script.Stop.{Stop}
use Rattle.mu_text.specs.Lines.{Left, lines, words}
use Rattle.mu_input.specs.Bodies.{body_after, body_from, body_line}
use Rattle.mu_input.specs.Grammar.{all_lines, job_at}
use Rattle.mu_input.specs.Readings.{Front, Begins, Breaks, Fits, Leaves, Line, Says, Wrong, followed, whole, whole_from}
use Rattle.mu_input.specs.Scripts.{script_after, script_at, script_from, script_line}
use Rattle.mu_input.specs.Settings.{setting, setting_among, setting_at, settings_at, width_at}
use Rattle.mu_input.specs.Traces.{Trace, events_at, events_from, trace, trace_at}
use Rattle.mu_input.specs.declared.TheConstants.{MOST_REPLICAS, LEAST_RING, MOST_RING, MOST_STEPS, MOST_WIDTH}
use Rattle.mu_input.specs.declared.cause.TheConstants.{HEAD, REPLICAS, RING, BUDGET, BATCH, EVENT}
use Rattle.mu_input.specs.declared.bodies.Body.{Body}
use Rattle.mu_input.specs.declared.bodies.BodyLine.{BodyLine}
use Rattle.mu_input.specs.declared.bodies.BodyLine.TheVariants as body
use Rattle.mu_input.specs.declared.scripts.ScriptLine.{ScriptLine}
use Rattle.mu_input.specs.declared.scripts.ScriptLine.TheVariants as script
use Rattle.mu_outcome.specs.Breaks.{Explains}
use Rattle.mu_outcome.specs.declared.fault.Broken.{Broken}
use Rattle.mu_verdict.specs.Explained.{IsExplained, IsLineOf}

-- these lines are what follows some of those
record Rest (before after : List (List ℕ)) : Type 0 where
  front : List (List ℕ)
  same : before ≡ front ++ after

all_rest : (text : List (List ℕ)) → Rest text text
all_rest text = record { front = []; same = refl }

one_less : (line : List ℕ) (text after : List (List ℕ)) → Rest text after → Rest (line ∷ text) after
one_less line text after rest = record { front = line ∷ rest.front; same = ap (λ l. line ∷ l) rest.same }

both_rest : (before mid after : List (List ℕ)) → Rest before mid → Rest mid after → Rest before after
both_rest before mid after one two = record { front = one.front ++ two.front; same = one.same ∙ ap (λ l. one.front ++ l) two.same ∙ sym (append_assoc one.front two.front after) }

-- what begins the lines leaves some of them
abbrev LeavesRest : {A : Type 0} → Left → Front A → Type 0
LeavesRest left (Begins a after) = Rest left.lines after.lines
LeavesRest left (Breaks line cause) = Unit {0}

rest_followed : {A : Type 0} {B : Type 0} (left : Left) (front : Front A) (next : A → Left → Front B)
    → LeavesRest left front → ((a : A) (after : Left) → LeavesRest after (next a after)) → LeavesRest left (followed front next)
rest_followed left (Begins a after) next first rest = onward left after (next a after) first (rest a after)
  where
    onward : {B : Type 0} (left after : Left) (front : Front B) → Rest left.lines after.lines → LeavesRest after front → LeavesRest left front
    onward left after (Begins b end) same further = both_rest left.lines after.lines end.lines same further
    onward left after (Breaks line cause) same further = tt
rest_followed left (Breaks line cause) next first rest = tt

setting_rest : (name : List ℕ) (low high cause number : ℕ) (text : List (List ℕ)) → LeavesRest (record { number = number; lines = text }) (setting_among name low high cause number text)
setting_rest name low high cause number [] = tt
setting_rest name low high cause number (line ∷ text) = by_value (setting name low high (words line))
  where
    by_value : (value : Option ℕ) → LeavesRest (record { number = number; lines = line ∷ text })
        (option_map_or (λ value. Begins value (record { number = number + 1; lines = text })) value (Breaks number cause))
    by_value None = tt
    by_value (Some value) = one_less line text text (all_rest text)

setting_at_rest : (name : List ℕ) (low high cause : ℕ) (left : Left) → LeavesRest left (setting_at name low high cause left)
setting_at_rest name low high cause left = setting_rest name low high cause left.number left.lines

width_rest : (version : ℕ) (left : Left) → LeavesRest left (width_at version left)
width_rest version left = by_test (version == 2)
  where
    by_test : (two : Bool) → LeavesRest left (if two then setting_at (codes "batch") 1 MOST_WIDTH BATCH left else Begins 1 left)
    by_test true = setting_at_rest (codes "batch") 1 MOST_WIDTH BATCH left
    by_test false = all_rest left.lines

settings_rest : (left : Left) → LeavesRest left (settings_at left)
settings_rest left =
    rest_followed left _ _ (setting_at_rest (codes "mu") 1 2 HEAD left) (λ version left.
    rest_followed left _ _ (setting_at_rest (codes "replicas") 1 MOST_REPLICAS REPLICAS left) (λ replicas left.
    rest_followed left _ _ (setting_at_rest (codes "ring") LEAST_RING MOST_RING RING left) (λ ring left.
    rest_followed left _ _ (setting_at_rest (codes "budget") 1 MOST_STEPS BUDGET left) (λ budget left.
    rest_followed left _ _ (width_rest version left) (λ width left. all_rest left.lines)))))

body_rest : (clients : ℕ) (commands : List Request) (number : ℕ) (text : List (List ℕ)) → LeavesRest (record { number = number; lines = text }) (body_from clients commands number text)
body_rest clients commands number [] = tt
body_rest clients commands number (line ∷ text) = by_line (λ clients commands. body_rest clients commands (number + 1) text) (body_line clients (length commands) (words line))
  where
    onward : (front : Front Body) → LeavesRest (record { number = number + 1; lines = text }) front → LeavesRest (record { number = number; lines = line ∷ text }) front
    onward (Begins b end) further = one_less line text end.lines further
    onward (Breaks at cause) further = tt

    by_line : ((clients : ℕ) (commands : List Request) → LeavesRest (record { number = number + 1; lines = text }) (body_from clients commands (number + 1) text))
        → (said : Line BodyLine) → LeavesRest (record { number = number; lines = line ∷ text })
        (body_after clients commands number (record { number = number + 1; lines = text }) (λ clients commands. body_from clients commands (number + 1) text) said)
    by_line again (Says body.Client) = onward (body_from (clients + 1) commands (number + 1) text) (again (clients + 1) commands)
    by_line again (Says (body.Operation op)) = onward (body_from clients _ (number + 1) text) (again clients _)
    by_line again (Says body.Script) = one_less line text text (all_rest text)
    by_line again (Says body.End) = one_less line text text (all_rest text)
    by_line again (Wrong cause) = tt

script_rest : (replicas : ℕ) (stops : List Stop) (pauses : List Pause) (number : ℕ) (text : List (List ℕ)) → LeavesRest (record { number = number; lines = text }) (script_from replicas stops pauses number text)
script_rest replicas stops pauses number [] = tt
script_rest replicas stops pauses number (line ∷ text) = by_line (λ stops pauses. script_rest replicas stops pauses (number + 1) text) (script_line replicas stops pauses (words line))
  where
    onward : (front : Front Script) → LeavesRest (record { number = number + 1; lines = text }) front → LeavesRest (record { number = number; lines = line ∷ text }) front
    onward (Begins b end) further = one_less line text end.lines further
    onward (Breaks at cause) further = tt

    by_line : ((stops : List Stop) (pauses : List Pause) → LeavesRest (record { number = number + 1; lines = text }) (script_from replicas stops pauses (number + 1) text))
        → (said : Line ScriptLine) → LeavesRest (record { number = number; lines = line ∷ text })
        (script_after replicas stops pauses number (record { number = number + 1; lines = text }) (λ stops pauses. script_from replicas stops pauses (number + 1) text) said)
    by_line again (Says (script.Stop stop)) = onward (script_from replicas _ pauses (number + 1) text) (again _ pauses)
    by_line again (Says (script.Pause pause)) = onward (script_from replicas stops _ (number + 1) text) (again stops _)
    by_line again (Says script.End) = one_less line text text (all_rest text)
    by_line again (Wrong cause) = tt

script_at_rest : (follows : Bool) (replicas : ℕ) (left : Left) → LeavesRest left (script_at follows replicas left)
script_at_rest true replicas left = script_rest replicas [] [] left.number left.lines
script_at_rest false replicas left = all_rest left.lines

job_rest : (left : Left) → LeavesRest left (job_at left)
job_rest left =
    rest_followed left _ _ (settings_rest left) (λ settings left.
    rest_followed left _ _ (body_rest 0 [] left.number left.lines) (λ body left.
    rest_followed left _ _ (script_at_rest body.has_script settings.replicas left) (λ script left. all_rest left.lines)))

-- each of these lines spells the event at its place
abbrev Spell : ℕ → List (List ℕ) → List Event → Type 0
Spell replicas [] [] = Unit {0}
Spell replicas (line ∷ lines) (event ∷ events) = (event_of replicas (words line) ≡ Some event) × Spell replicas lines events
Spell replicas [] (event ∷ events) = ⊥
Spell replicas (line ∷ lines) [] = ⊥

-- lines that spell these events come first, and then one more
record EventsFirst (replicas : ℕ) (before all : List Event) (text after : List (List ℕ)) : Type 0 where
  mine : List (List ℕ)
  events : List Event
  ending : List ℕ
  lines : text ≡ mine ++ ending ∷ after
  grown : all ≡ before ++ events
  spell : Spell replicas mine events

events_first : (replicas : ℕ) (before all : List Event) (number : ℕ) (text : List (List ℕ)) (after : Left) → events_from replicas before number text ≡ Begins all after → EventsFirst replicas before all text after.lines
events_first replicas before all number [] after is = absurd (breaks number _ is)
  where
    breaks : (n cause : ℕ) → Breaks n cause ≡ Begins all after → ⊥
    breaks n cause same = cc
events_first replicas before all number (line ∷ text) after is = by_test (λ before. events_first replicas before all (number + 1) text after) (bytes_eq line (codes "end")) is
  where
    next : (event : Event) → event_of replicas (words line) ≡ Some event → EventsFirst replicas (before ++ event ∷ []) all text after.lines → EventsFirst replicas before all (line ∷ text) after.lines
    next event said rest = record {
      mine = line ∷ rest.mine;
      events = event ∷ rest.events;
      ending = rest.ending;
      lines = ap (λ l. line ∷ l) rest.lines;
      grown = rest.grown ∙ append_assoc before (event ∷ []) rest.events;
      spell = (said, rest.spell);
    }

    by_event : ((before : List Event) → events_from replicas before (number + 1) text ≡ Begins all after → EventsFirst replicas before all text after.lines)
        → (event : Option Event) → event_of replicas (words line) ≡ event
        → option_map_or (λ event. events_from replicas (before ++ event ∷ []) (number + 1) text) event (Breaks number EVENT) ≡ Begins all after
        → EventsFirst replicas before all (line ∷ text) after.lines
    by_event again None said same = absurd (let clash : Breaks number EVENT ≡ Begins all after = same in cc)
    by_event again (Some event) said same = next event said (again (before ++ event ∷ []) same)

    at_end : Begins before (record { number = number + 1; lines = text }) ≡ Begins all after → EventsFirst replicas before all (line ∷ text) after.lines
    at_end same =
        let list : before ≡ all = cc in
        let left : record { number = number + 1; lines = text } ≡ after = cc in
        record { mine = []; events = []; ending = line; lines = ap (λ (l : Left). line ∷ l.lines) left; grown = sym list ∙ sym (append-nil before); spell = tt }

    by_test : ((before : List Event) → events_from replicas before (number + 1) text ≡ Begins all after → EventsFirst replicas before all text after.lines)
        → (ends : Bool)
        → (if ends then Begins before (record { number = number + 1; lines = text })
        else option_map_or (λ event. events_from replicas (before ++ event ∷ []) (number + 1) text) (event_of replicas (words line)) (Breaks number EVENT)) ≡ Begins all after
        → EventsFirst replicas before all (line ∷ text) after.lines
    by_test again true same = at_end same
    by_test again false same = by_event again (event_of replicas (words line)) refl same

-- there are as many lines
same_length : (replicas : ℕ) (mine : List (List ℕ)) (events : List Event) → Spell replicas mine events → length mine ≡ length events
same_length replicas [] [] spell = refl
same_length replicas (line ∷ mine) (event ∷ events) spell = ap suc (same_length replicas mine events spell.1)
same_length replicas [] (event ∷ events) spell = absurd spell
same_length replicas (line ∷ mine) [] spell = absurd spell

-- the line of the event at a place, with lines after it
spelled_at : (replicas : ℕ) (mine more : List (List ℕ)) (events : List Event) (i : ℕ) (event : Event) → Spell replicas mine events → slice_get events i ≡ Some event
    → (text : List ℕ) × (slice_get (mine ++ more) i ≡ Some text) × (event_of replicas (words text) ≡ Some event)
spelled_at replicas [] more [] i event spell is = absurd (let low = slice_get_within [] i event is in omega (arith, low))
spelled_at replicas (line ∷ mine) more (e ∷ events) zero event spell is = (line, refl, spell.0 ∙ is)
spelled_at replicas (line ∷ mine) more (e ∷ events) (suc i) event spell is = spelled_at replicas mine more events i event spell.1 is
spelled_at replicas [] more (e ∷ events) i event spell is = absurd spell
spelled_at replicas (line ∷ mine) more [] i event spell is = absurd spell

-- the same behind other lines
behind : (front text : List (List ℕ)) (i : ℕ) → slice_get (front ++ text) (length front + i) ≡ slice_get text i
behind [] text i = let none : 0 + i ≡ i = omega arith in ap (λ k. slice_get text k) none
behind (line ∷ front) text i = let next : suc (length front) + i ≡ suc (length front + i) = omega arith in ap (λ k. slice_get (line ∷ (front ++ text)) k) next ∙ behind front text i

-- what is followed by something begins the lines
followed_from : {A B : Type 0} (front : Front A) (next : A → Left → Front B) (b : B) (after : Left) → followed front next ≡ Begins b after → (a : A) × ((mid : Left) × (front ≡ Begins a mid) × (next a mid ≡ Begins b after))
followed_from (Begins a mid) next b after is = (a, (mid, refl, is))
followed_from (Breaks line cause) next b after is = absurd (let clash : Breaks line cause ≡ Begins b after = is in cc)

-- all lines are one trace
whole_trace : (front : Front Trace) (spelled : Trace) → whole front ≡ Fits spelled → (left : Left) × (front ≡ Begins spelled left) × (left.lines ≡ [])
whole_trace (Begins a left) spelled is = at_end left.lines refl is
  where
    at_end : (text : List (List ℕ)) → left.lines ≡ text → whole_from a left.number text ≡ Fits spelled → (mid : Left) × (Begins a left ≡ Begins spelled mid) × (mid.lines ≡ [])
    at_end [] none same = let one : a ≡ spelled = cc in (left, ap (λ t. Begins t left) one, none)
    at_end (line ∷ text) none same = absurd (let clash : Leaves left.number _ ≡ Fits spelled = same in cc)
whole_trace (Breaks line cause) spelled is = absurd (let clash : Leaves line cause ≡ Fits spelled = is in cc)

-- lines of a job, lines that spell the events, and one more
record TraceLines (bytes : List ℕ) (spelled : Trace) : Type 0 where
  front : List (List ℕ)
  mine : List (List ℕ)
  ending : List ℕ
  all : lines bytes ≡ front ++ (mine ++ ending ∷ [])
  spell : Spell spelled.job.config.replicas mine spelled.events

trace_lines : (bytes : List ℕ) (spelled : Trace) → trace bytes ≡ Fits spelled → TraceLines bytes spelled
trace_lines bytes spelled fits =
    let left = all_lines bytes in
    let end = whole_trace (trace_at left) spelled fits in
    let first = followed_from (job_at left) _ spelled end.0 end.1 in
    let second = followed_from (events_at first.0.config.replicas first.1.0) _ spelled end.0 first.1.2 in
    let told : Begins (record { job = first.0; events = second.0 }) second.1.0 ≡ Begins spelled end.0 = second.1.2 in
    let same : record { job = first.0; events = second.0 } ≡ spelled = cc in
    let over : second.1.0 ≡ end.0 = cc in
    let rest : Rest (lines bytes) first.1.0.lines = subst (LeavesRest left) first.1.1 (job_rest left) in
    let found = events_first first.0.config.replicas [] second.0 first.1.0.number first.1.0.lines second.1.0 second.1.1 in
    let none : second.1.0.lines ≡ [] = ap (λ (l : Left). l.lines) over ∙ end.2 in
    record {
      front = rest.front;
      mine = found.mine;
      ending = found.ending;
      all = rest.same ∙ ap (λ l. rest.front ++ l) (found.lines ∙ ap (λ l. found.mine ++ found.ending ∷ l) none);
      spell = subst (λ (t : Trace). Spell t.job.config.replicas found.mine t.events) same (subst (λ es. Spell first.0.config.replicas found.mine es) (sym found.grown) found.spell);
    }

-- there are more lines than events
pub few_events : (bytes : List ℕ) (spelled : Trace) → trace bytes ≡ Fits spelled → length spelled.events ≤ length (lines bytes)
few_events bytes spelled fits =
    let found = trace_lines bytes spelled fits in
    let count = same_length spelled.job.config.replicas found.mine spelled.events found.spell in
    let all = ap length found.all ∙ length-append found.front (found.mine ++ found.ending ∷ []) in
    let more = length-append found.mine (found.ending ∷ []) in
    omega (arith, count, all, more)

-- the line at the event's place spells it
pub event_line_is : (bytes : List ℕ) (spelled : Trace) (line index : ℕ) (event : Event) → trace bytes ≡ Fits spelled → slice_get spelled.events index ≡ Some event → line + length spelled.events ≡ length (lines bytes) + index → IsLineOf bytes spelled line index event
event_line_is bytes spelled line index event fits is place =
    let found = trace_lines bytes spelled fits in
    let n = spelled.job.config.replicas in
    let count = same_length n found.mine spelled.events found.spell in
    let all = ap length found.all ∙ length-append found.front (found.mine ++ found.ending ∷ []) in
    let more = length-append found.mine (found.ending ∷ []) in
    let at = spelled_at n found.mine (found.ending ∷ []) spelled.events index event found.spell is in
    let number : line - 1 ≡ length found.front + index = omega (arith, place, count, all, more) in
    record {
      counted = omega (arith, place, count, all, more);
      place = place;
      text = at.0;
      there = ap (λ l. slice_get l (line - 1)) found.all ∙ ap (slice_get (found.front ++ (found.mine ++ found.ending ∷ []))) number ∙ behind found.front (found.mine ++ found.ending ∷ []) index ∙ at.1;
      spells = at.2;
    }

-- what is told of where the trace breaks, and of the line there
pub explained_is : (bytes : List ℕ) (spelled : Trace) (events count line : ℕ) (broken : Option Broken) → trace bytes ≡ Fits spelled → events ≡ length spelled.events → count ≡ length (lines bytes) → Explains spelled.job.config spelled.events broken
    → count < 2 ^ 31 → IfSome broken (λ b. events ≤ count → b.index ≤ events → count < 2 ^ 31 → line + events ≡ count + b.index) → IsExplained bytes events line broken
explained_is bytes spelled events count line None fits many all explains small told = record { spelled = spelled; fits = fits; count = many; explains = explains; tells_line = tt }
explained_is bytes spelled events count line (Some b) fits many all explains small told =
    let few = few_events bytes spelled fits in
    let within = slice_get_within spelled.events b.index b.event explains.there in
    let place = told (omega (arith, many, all, few)) (omega (arith, many, within)) small in
    record { spelled = spelled; fits = fits; count = many; explains = explains; tells_line = event_line_is bytes spelled line b.index b.event fits explains.there (omega (arith, place, many, all)) }
