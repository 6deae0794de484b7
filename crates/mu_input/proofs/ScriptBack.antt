-- The lines of a script are read back as its stops and pauses.
use Rattle.std.proofs.Common.{◌≡◌, ◌≢◌, ℕ, zero, suc, ◌+◌, ◌^◌, ◌<◌, ◌≤◌, ◌==◌, nat_lt, not, ◌&&◌, ◌||◌, Bool, true, false, cond, List, [], ◌∷◌, ◌++◌, length, map, get_or, codes, None, Some, refl, sym, ap, subst, ◌∙◌, ⊎_elim, arith, append_assoc, append-nil, length-append}
use Rattle.std.specs.Bool.{⊤}
use Rattle.std.specs.Fmt.{decimal}
use Rattle.std.specs.List.{All}
use Rattle.std.specs.Str.{bytes_eq}
use Rattle.std.specs.declared.option.Option.{Option}
use Rattle.std.proofs.lemmas.Bool.Decides.{Decides-eqb, eqb_tells, nat_tests}
use Rattle.std.proofs.lemmas.List.Elements.{All-cons, All-head, All-nil, All-push, All-tail}
use Rattle.mu_model.specs.declared.script.Pause.{Pause}
use Rattle.mu_model.specs.declared.script.Script.{Script}
use Rattle.mu_model.specs.declared.script.Stop.{Stop}
use Rattle.mu_model.specs.Stops.{is_stopped}
use Rattle.mu_text.specs.Lines.{Left, is_alone, words}
use Rattle.mu_text.specs.Numbers.{below, number_of, within}
use Rattle.mu_text.specs.declared.TheConstants.{SPACE}
use Rattle.mu_text.proofs.Decimals.{below-decimal, within-decimal}
use Rattle.mu_text.proofs.SpelledWords.{IsOneLine, IsOneWord, Spells, Spells-join, Spells-word, one_number, written}
use Rattle.mu_input.specs.JobLines.{stop_line as line_of_stop, pause_line as line_of_pause}
use Rattle.mu_input.specs.Readings.{Begins, Line, Says, Wrong}
use Rattle.mu_input.specs.Scripts.{another_pause, another_stop, pause_line, pauses_before, pauses_in_order, pauses_of, script_after, script_at, script_from, script_line, script_of, stop_line, stop_or_pause, stops_in_order, stops_of, with_room}
use Rattle.mu_input.specs.declared.TheConstants.{MOST_REPLICAS, MOST_ROUNDS, MOST_SCRIPT_LINES, MOST_STEPS}
use Rattle.mu_input.specs.declared.cause.TheConstants.{SCRIPT, TOO_MANY}
use Rattle.mu_input.specs.declared.scripts.ScriptLine.{ScriptLine}
use Rattle.mu_input.specs.declared.scripts.ScriptLine.TheVariants as line
use Rattle.mu_input.proofs.Fronts.{Gives}
use Rattle.mu_input.proofs.SettingsBack.{numbered-spells, within-gives}
use Rattle.mu_input.proofs.KeyOrder.{All-in_key_order, Pairs, Pairs-in_key_order, Pairs-push, in_key_order, in_key_order-twice, length-in_key_order}
use Rattle.mu_input.proofs.StopsAndPauses.{pauses_of-filter, stops_of-filter}
use Rattle.std.proofs.lemmas.Bool.{and_parts, ne_eqb}

abbrev of_stop : Stop → ℕ
of_stop stop = stop.replica

abbrev of_pause : Pause → ℕ
of_pause pause = pause.replica

-- one of this many replicas stops or pauses as a line may say
pub record IsStop (replicas : ℕ) (stop : Stop) : Type 0 where
  pub known : stop.replica < replicas
  pub steps : stop.steps ≤ MOST_STEPS

pub record IsPause (replicas : ℕ) (pause : Pause) : Type 0 where
  pub known : pause.replica < replicas
  pub steps : pause.steps ≤ MOST_STEPS
  pub some : 1 ≤ pause.rounds
  pub rounds : pause.rounds ≤ MOST_ROUNDS

-- stops and pauses that a script may have: a replica stops once, and pauses after more and more steps
pub record AreScripted (replicas : ℕ) (stopping : List Stop) (pausing : List Pause) : Type 0 where
  pub few : length stopping + length pausing ≤ MOST_SCRIPT_LINES
  pub stops : All (IsStop replicas) stopping
  pub pauses : All (IsPause replicas) pausing
  pub once : Pairs of_stop (λ _ _. ⊥) stopping
  pub rising : Pairs of_pause (λ first second. first.steps < second.steps) pausing

stops_in_order-key : (r : ℕ) (stops : List Stop) → stops_in_order r stops ≡ in_key_order of_stop r stops
stops_in_order-key zero stops = refl
stops_in_order-key (suc r) stops =
    ap (λ front. front ++ stops_of r stops) (stops_in_order-key r stops) ∙ ap (λ back. in_key_order of_stop r stops ++ back) (stops_of-filter r stops)

pauses_in_order-key : (r : ℕ) (pauses : List Pause) → pauses_in_order r pauses ≡ in_key_order of_pause r pauses
pauses_in_order-key zero pauses = refl
pauses_in_order-key (suc r) pauses =
    ap (λ front. front ++ pauses_of r pauses) (pauses_in_order-key r pauses) ∙ ap (λ back. in_key_order of_pause r pauses ++ back) (pauses_of-filter r pauses)

-- no more stops and pauses come by putting them in order
pub length-stops_in_order : (r : ℕ) (stops : List Stop) → length (stops_in_order r stops) ≤ length stops
length-stops_in_order r stops = omega (arith, ap length (stops_in_order-key r stops), length-in_key_order of_stop r stops)

pub length-pauses_in_order : (r : ℕ) (pauses : List Pause) → length (pauses_in_order r pauses) ≤ length pauses
length-pauses_in_order r pauses = omega (arith, ap length (pauses_in_order-key r pauses), length-in_key_order of_pause r pauses)

-- a script has so few lines that there was room for them
abbrev HasRoom : Script → Type 0
HasRoom script = length script.stops + length script.pauses ≤ MOST_SCRIPT_LINES

pub in_order-few : (script : Script) (replicas : ℕ) (stops : List Stop) (pauses : List Pause) → script ≡ script_of replicas stops pauses → length stops + length pauses ≤ MOST_SCRIPT_LINES → HasRoom script
in_order-few script replicas stops pauses is few =
    let fewer_stops : length script.stops ≤ length stops = omega (arith, ap (λ (s : Script). length s.stops) is, length-stops_in_order replicas stops) in
    let fewer_pauses : length script.pauses ≤ length pauses = omega (arith, ap (λ (s : Script). length s.pauses) is, length-pauses_in_order replicas pauses) in
    omega (arith, fewer_stops, fewer_pauses, few)

-- put in order, they may still be a script's
pub AreScripted-in_order : (replicas : ℕ) (stops : List Stop) (pauses : List Pause) → AreScripted replicas stops pauses → AreScripted replicas (stops_in_order replicas stops) (pauses_in_order replicas pauses)
AreScripted-in_order replicas stops pauses are = record {
  few = omega (arith, are.few, length-stops_in_order replicas stops, length-pauses_in_order replicas pauses);
  stops = subst (All (IsStop replicas)) (sym (stops_in_order-key replicas stops)) (All-in_key_order of_stop (IsStop replicas) replicas stops are.stops);
  pauses = subst (All (IsPause replicas)) (sym (pauses_in_order-key replicas pauses)) (All-in_key_order of_pause (IsPause replicas) replicas pauses are.pauses);
  once = subst (Pairs of_stop (λ _ _. ⊥)) (sym (stops_in_order-key replicas stops)) (Pairs-in_key_order of_stop (λ _ _. ⊥) replicas stops are.once);
  rising = subst (Pairs of_pause (λ first second. first.steps < second.steps)) (sym (pauses_in_order-key replicas pauses)) (Pairs-in_key_order of_pause (λ first second. first.steps < second.steps) replicas pauses are.rising);
}

-- a script that is in order stays as it is
in_order-twice : (replicas : ℕ) (stops : List Stop) (pauses : List Pause) → script_of replicas (stops_in_order replicas stops) (pauses_in_order replicas pauses) ≡ script_of replicas stops pauses
in_order-twice replicas stops pauses =
    let same_stops : stops_in_order replicas (stops_in_order replicas stops) ≡ stops_in_order replicas stops =
    stops_in_order-key replicas (stops_in_order replicas stops) ∙ ap (in_key_order of_stop replicas) (stops_in_order-key replicas stops)
    ∙ in_key_order-twice of_stop replicas replicas stops (omega arith) ∙ sym (stops_in_order-key replicas stops) in
    let same_pauses : pauses_in_order replicas (pauses_in_order replicas pauses) ≡ pauses_in_order replicas pauses =
    pauses_in_order-key replicas (pauses_in_order replicas pauses) ∙ ap (in_key_order of_pause replicas) (pauses_in_order-key replicas pauses)
    ∙ in_key_order-twice of_pause replicas replicas pauses (omega arith) ∙ sym (pauses_in_order-key replicas pauses) in
    ap (λ (stops : List Stop). let made : Script = record { stops = stops; pauses = pauses_in_order replicas (pauses_in_order replicas pauses) } in made) same_stops
    ∙ ap (λ (pauses : List Pause). let made : Script = record { stops = stops_in_order replicas stops; pauses = pauses } in made) same_pauses

stopped_none : (r : ℕ) (stops : List Stop) → is_stopped r stops ≡ false → All (λ stop. of_stop stop ≡ r → ⊥) stops
stopped_none r [] e = All-nil (λ stop. of_stop stop ≡ r → ⊥)
stopped_none r (stop ∷ stops) e = by_test (stop.replica == r) refl (stopped_none r stops) e
  where
    by_test : (b : Bool) → (stop.replica == r) ≡ b → (is_stopped r stops ≡ false → All (λ stop. of_stop stop ≡ r → ⊥) stops) → (b || is_stopped r stops) ≡ false → All (λ stop. of_stop stop ≡ r → ⊥) (stop ∷ stops)
    by_test true is again e = cc
    by_test false is again e =
        All-cons (λ stop. of_stop stop ≡ r → ⊥) stop stops (λ same. let clash : true ≡ false = sym ((Decides-eqb stop.replica r).1 same) ∙ is in cc) (again e)

-- a replica that pauses after fewer steps so far
before_it : (r k : ℕ) (pauses : List Pause) → All (λ pause. of_pause pause ≡ r → pause.steps < k) pauses → pauses_before r k pauses ≡ true
before_it r k [] all = refl
before_it r k (pause ∷ pauses) all =
    let here = All-head (λ (pause : Pause). of_pause pause ≡ r → pause.steps < k) pause pauses all in
    ⊎_elim
    (λ (t : ((pause.replica == r) ≡ true) × (pause.replica ≡ r)).
    let less : pause.steps < k = here t.1 in
    let test : nat_lt pause.steps k ≡ true = grind (arith, nat_tests) in
    ap (λ b. (not b || nat_lt pause.steps k) && pauses_before r k pauses) t.0 ∙ ap (λ b. b && pauses_before r k pauses) test)
    (λ (t : ((pause.replica == r) ≡ false) × (pause.replica ≢ r)). ap (λ b. (not b || nat_lt pause.steps k) && pauses_before r k pauses) t.0)
    (eqb_tells pause.replica r)
    ∙ before_it r k pauses (All-tail (λ (pause : Pause). of_pause pause ≡ r → pause.steps < k) pause pauses all)

paused_before : (r k : ℕ) (pauses : List Pause) → pauses_before r k pauses ≡ true → All (λ pause. of_pause pause ≡ r → pause.steps < k) pauses
paused_before r k [] e = All-nil (λ (pause : Pause). of_pause pause ≡ r → pause.steps < k)
paused_before r k (pause ∷ pauses) e =
    let tests = and_parts (not (pause.replica == r) || nat_lt pause.steps k) (pauses_before r k pauses) e in
    All-cons (λ (pause : Pause). of_pause pause ≡ r → pause.steps < k) pause pauses
    (λ same. let mine : (pause.replica == r) ≡ true = (Decides-eqb pause.replica r).1 same in
    let less : nat_lt pause.steps k ≡ true = sym (ap (λ b. not b || nat_lt pause.steps k) mine) ∙ tests.0 in
    grind (arith, nat_tests))
    (paused_before r k pauses tests.1)

-- lines of two and of three numbers
two : (name : List ℕ) (first second : ℕ) → IsOneWord name → first < 2 ^ 64 → second < 2 ^ 64 → Spells (((name ++ SPACE ∷ decimal first) ++ SPACE ∷ []) ++ decimal second) (name ∷ decimal first ∷ decimal second ∷ [])
two name first second word a b =
    Spells-join (name ++ SPACE ∷ decimal first) (decimal second) (name ∷ decimal first ∷ []) (decimal second ∷ []) (numbered-spells name first word a) (Spells-word (decimal second) (one_number second b))

stop-spells : (replicas : ℕ) (stop : Stop) → replicas ≤ MOST_REPLICAS → IsStop replicas stop → Spells (line_of_stop stop) (codes "stop" ∷ decimal stop.replica ∷ decimal stop.steps ∷ [])
stop-spells replicas stop few is = two (codes "stop") stop.replica stop.steps (written (codes "stop") refl) (omega (arith, few, is.known)) (omega (arith, is.steps))

pause-spells : (replicas : ℕ) (pause : Pause) → replicas ≤ MOST_REPLICAS → IsPause replicas pause
    → Spells (line_of_pause pause) (codes "pause" ∷ decimal pause.replica ∷ decimal pause.steps ∷ decimal pause.rounds ∷ [])
pause-spells replicas pause few is =
    Spells-join (((codes "pause" ++ SPACE ∷ decimal pause.replica) ++ SPACE ∷ []) ++ decimal pause.steps) (decimal pause.rounds) (codes "pause" ∷ decimal pause.replica ∷ decimal pause.steps ∷ []) (decimal pause.rounds ∷ [])
    (two (codes "pause") pause.replica pause.steps (written (codes "pause") refl) (omega (arith, few, is.known)) (omega (arith, is.steps)))
    (Spells-word (decimal pause.rounds) (one_number pause.rounds (omega (arith, is.rounds))))

room-is : (count : ℕ) (said : ScriptLine) → count < MOST_SCRIPT_LINES → with_room count (Some said) ≡ Says said
room-is count said room = let test : nat_lt count MOST_SCRIPT_LINES ≡ true = grind (arith, nat_tests) in ap (λ b. cond b (Says said) (Wrong TOO_MANY)) test

-- a line of a stop is read back after others
stop-back : (replicas : ℕ) (stops : List Stop) (pauses : List Pause) (stop : Stop) → replicas ≤ MOST_REPLICAS → IsStop replicas stop → is_stopped stop.replica stops ≡ false → length stops + length pauses < MOST_SCRIPT_LINES
    → script_line replicas stops pauses (words (line_of_stop stop)) ≡ Says (line.Stop stop)
stop-back replicas stops pauses stop few is new room =
    let made : stop_line replicas stops (codes "stop" ∷ decimal stop.replica ∷ decimal stop.steps ∷ []) ≡ Some stop =
    ap (λ r. another_stop stops r (within 0 MOST_STEPS (number_of (decimal stop.steps)))) (below-decimal replicas stop.replica is.known (omega (arith, few, is.known)))
    ∙ ap (another_stop stops (Some stop.replica)) (within-decimal 0 MOST_STEPS stop.steps (omega arith) is.steps (omega (arith, is.steps)))
    ∙ ap (λ b. cond b None (Some stop)) new in
    ap (script_line replicas stops pauses) (stop-spells replicas stop few is).alone
    ∙ ap (λ made. with_room (length stops + length pauses) (stop_or_pause made None)) made
    ∙ room-is (length stops + length pauses) (line.Stop stop) room

-- and so is one of a pause
pause-back : (replicas : ℕ) (stops : List Stop) (pauses : List Pause) (pause : Pause) → replicas ≤ MOST_REPLICAS → IsPause replicas pause → pauses_before pause.replica pause.steps pauses ≡ true
    → length stops + length pauses < MOST_SCRIPT_LINES → script_line replicas stops pauses (words (line_of_pause pause)) ≡ Says (line.Pause pause)
pause-back replicas stops pauses pause few is later room =
    let steps = within 0 MOST_STEPS (number_of (decimal pause.steps)) in
    let rounds = within 1 MOST_ROUNDS (number_of (decimal pause.rounds)) in
    let made : pause_line replicas pauses (codes "pause" ∷ decimal pause.replica ∷ decimal pause.steps ∷ decimal pause.rounds ∷ []) ≡ Some pause =
    ap (λ r. another_pause pauses r steps rounds) (below-decimal replicas pause.replica is.known (omega (arith, few, is.known)))
    ∙ ap (λ steps. another_pause pauses (Some pause.replica) steps rounds) (within-decimal 0 MOST_STEPS pause.steps (omega arith) is.steps (omega (arith, is.steps)))
    ∙ ap (another_pause pauses (Some pause.replica) (Some pause.steps)) (within-decimal 1 MOST_ROUNDS pause.rounds is.some is.rounds (omega (arith, is.rounds)))
    ∙ ap (λ b. cond b (Some pause) None) later in
    ap (script_line replicas stops pauses) (pause-spells replicas pause few is).alone
    ∙ ap (λ made. with_room (length stops + length pauses) (stop_or_pause None made)) made
    ∙ room-is (length stops + length pauses) (line.Pause pause) room

still_new : (r : ℕ) (stop : Stop) (done : List Stop) → is_stopped r done ≡ false → (of_stop stop ≡ r → ⊥) → is_stopped r (done ++ stop ∷ []) ≡ false
still_new r stop [] none different = ap (λ b. b || false) (ne_eqb stop.replica r different)
still_new r stop (first ∷ done) none different = by_test (first.replica == r) (λ none. still_new r stop done none different) none
  where
    by_test : (b : Bool) → (is_stopped r done ≡ false → is_stopped r (done ++ stop ∷ []) ≡ false) → (b || is_stopped r done) ≡ false → (b || is_stopped r (done ++ stop ∷ [])) ≡ false
    by_test true again none = none
    by_test false again none = again none

-- the lines of stops are read after others
stops-back : (replicas : ℕ) (done stops : List Stop) (number : ℕ) (rest : List (List ℕ)) → replicas ≤ MOST_REPLICAS → All (IsStop replicas) stops → Pairs of_stop (λ _ _. ⊥) stops
    → All (λ (stop : Stop). is_stopped stop.replica done ≡ false) stops → length done + length stops ≤ MOST_SCRIPT_LINES
    → script_from replicas done [] number (map line_of_stop stops ++ rest) ≡ script_from replicas (done ++ stops) [] (number + length stops) rest
stops-back replicas done [] number rest few are once new room =
    let same : number ≡ number + 0 = omega arith in
    ap (λ done. script_from replicas done [] number rest) (sym (append-nil done)) ∙ ap (λ number. script_from replicas (done ++ []) [] number rest) same
stops-back replicas done (stop ∷ stops) number rest few are once new room =
    let here = stop-back replicas done [] stop few (All-head (IsStop replicas) stop stops are) (All-head (λ (stop : Stop). is_stopped stop.replica done ≡ false) stop stops new) (omega (arith, room)) in
    let counted : number + 1 + length stops ≡ number + length (stop ∷ stops) = omega arith in
    let others : All (λ (later : Stop). is_stopped later.replica (done ++ stop ∷ []) ≡ false) stops = λ k d below.
    still_new (get_or stops k d).replica stop done (All-tail (λ (stop : Stop). is_stopped stop.replica done ≡ false) stop stops new k d below) (λ same. once.0 k d below same) in
    ap (script_after replicas done [] number (record { number = number + 1; lines = map line_of_stop stops ++ rest }) (λ more pauses. script_from replicas more pauses (number + 1) (map line_of_stop stops ++ rest))) here
    ∙ stops-back replicas (done ++ stop ∷ []) stops (number + 1) rest few (All-tail (IsStop replicas) stop stops are) once.1 others (omega (arith, room, length-append done (stop ∷ [])))
    ∙ ap (λ done. script_from replicas done [] (number + 1 + length stops) rest) (append_assoc done (stop ∷ []) stops)
    ∙ ap (λ number. script_from replicas (done ++ stop ∷ stops) [] number rest) counted

still_before : (r k : ℕ) (pause : Pause) (done : List Pause) → pauses_before r k done ≡ true → (of_pause pause ≡ r → pause.steps < k) → pauses_before r k (done ++ pause ∷ []) ≡ true
still_before r k pause done before less =
    before_it r k (done ++ pause ∷ []) (All-push (λ (pause : Pause). of_pause pause ≡ r → pause.steps < k) done pause (paused_before r k done before) less)

-- and the lines of pauses after those
pauses-back : (replicas : ℕ) (stops : List Stop) (done pauses : List Pause) (number : ℕ) (rest : List (List ℕ)) → replicas ≤ MOST_REPLICAS → All (IsPause replicas) pauses
    → Pairs of_pause (λ first second. first.steps < second.steps) pauses → All (λ (pause : Pause). pauses_before pause.replica pause.steps done ≡ true) pauses
    → length stops + length done + length pauses ≤ MOST_SCRIPT_LINES
    → script_from replicas stops done number (map line_of_pause pauses ++ rest) ≡ script_from replicas stops (done ++ pauses) (number + length pauses) rest
pauses-back replicas stops done [] number rest few are rising later room =
    let same : number ≡ number + 0 = omega arith in
    ap (λ done. script_from replicas stops done number rest) (sym (append-nil done)) ∙ ap (λ number. script_from replicas stops (done ++ []) number rest) same
pauses-back replicas stops done (pause ∷ pauses) number rest few are rising later room =
    let here = pause-back replicas stops done pause few (All-head (IsPause replicas) pause pauses are) (All-head (λ (pause : Pause). pauses_before pause.replica pause.steps done ≡ true) pause pauses later) (omega (arith, room)) in
    let counted : number + 1 + length pauses ≡ number + length (pause ∷ pauses) = omega arith in
    let others : All (λ (next : Pause). pauses_before next.replica next.steps (done ++ pause ∷ []) ≡ true) pauses = λ k d below.
    still_before (get_or pauses k d).replica (get_or pauses k d).steps pause done (All-tail (λ (pause : Pause). pauses_before pause.replica pause.steps done ≡ true) pause pauses later k d below) (λ same. rising.0 k d below same) in
    ap (script_after replicas stops done number (record { number = number + 1; lines = map line_of_pause pauses ++ rest }) (λ stops more. script_from replicas stops more (number + 1) (map line_of_pause pauses ++ rest))) here
    ∙ pauses-back replicas stops (done ++ pause ∷ []) pauses (number + 1) rest few (All-tail (IsPause replicas) pause pauses are) rising.1 others (omega (arith, room, length-append done (pause ∷ [])))
    ∙ ap (λ done. script_from replicas stops done (number + 1 + length pauses) rest) (append_assoc done (pause ∷ []) pauses)
    ∙ ap (λ number. script_from replicas stops (done ++ pause ∷ pauses) number rest) counted

end-back : (replicas : ℕ) (stops : List Stop) (pauses : List Pause) → script_line replicas stops pauses (words (codes "end")) ≡ Says line.End
end-back replicas stops pauses = ap (script_line replicas stops pauses) (Spells-word (codes "end") (written (codes "end") refl)).alone

-- the script of these stops and pauses is read back from its lines, up to the end
pub script-back : (replicas : ℕ) (stops : List Stop) (pauses : List Pause) (number : ℕ) (rest : List (List ℕ)) → replicas ≤ MOST_REPLICAS → AreScripted replicas stops pauses
    → script_from replicas [] [] number (map line_of_stop stops ++ (map line_of_pause pauses ++ codes "end" ∷ rest))
    ≡ Begins (script_of replicas stops pauses) (record { number = number + length stops + length pauses + 1; lines = rest })
script-back replicas stops pauses number rest few are =
    stops-back replicas [] stops number (map line_of_pause pauses ++ codes "end" ∷ rest) few are.stops are.once (λ k d below. refl) (omega (arith, are.few))
    ∙ pauses-back replicas stops [] pauses (number + length stops) (codes "end" ∷ rest) few are.pauses are.rising (λ k d below. refl) (omega (arith, are.few))
    ∙ ap (script_after replicas stops pauses (number + length stops + length pauses) (record { number = number + length stops + length pauses + 1; lines = rest }) (λ stops pauses. script_from replicas stops pauses (number + length stops + length pauses + 1) rest))
    (end-back replicas stops pauses)

-- a script that is in its order, as a job has it
pub record IsScripted (replicas : ℕ) (script : Script) : Type 0 where
  pub are : AreScripted replicas script.stops script.pauses
  pub ordered : script_of replicas script.stops script.pauses ≡ script

ordered : (replicas : ℕ) (stops : List Stop) (pauses : List Pause) → AreScripted replicas stops pauses → IsScripted replicas (script_of replicas stops pauses)
ordered replicas stops pauses are = record { are = AreScripted-in_order replicas stops pauses are; ordered = in_order-twice replicas stops pauses }

-- what a line of a script adds is such
abbrev Adds : ℕ → List Stop → List Pause → ScriptLine → Type 0
Adds replicas stops pauses (line.Stop stop) = (length stops + length pauses < MOST_SCRIPT_LINES) × IsStop replicas stop × All (λ earlier. of_stop earlier ≡ stop.replica → ⊥) stops
Adds replicas stops pauses (line.Pause pause) = (length stops + length pauses < MOST_SCRIPT_LINES) × IsPause replicas pause × All (λ (earlier : Pause). of_pause earlier ≡ pause.replica → earlier.steps < pause.steps) pauses
Adds replicas stops pauses line.End = ⊤

below-gives : (limit : ℕ) (said : Option ℕ) (n : ℕ) → below limit said ≡ Some n → n < limit
below-gives limit None n e = cc
below-gives limit (Some m) n e = by_test (nat_lt m limit) refl e
  where
    by_test : (b : Bool) → nat_lt m limit ≡ b → cond b (Some m) None ≡ Some n → n < limit
    by_test true is e = let same : m ≡ n = cc in let less : m < limit = grind (arith, nat_tests) in omega (arith, same, less)
    by_test false is e = cc

another_stop-gives : (replicas : ℕ) (stops : List Stop) (r k : Option ℕ) (stop : Stop) → ((n : ℕ) → r ≡ Some n → n < replicas) → ((n : ℕ) → k ≡ Some n → n ≤ MOST_STEPS) → another_stop stops r k ≡ Some stop
    → IsStop replicas stop × All (λ earlier. of_stop earlier ≡ stop.replica → ⊥) stops
another_stop-gives replicas stops None k stop known steps e = cc
another_stop-gives replicas stops (Some r) None stop known steps e = cc
another_stop-gives replicas stops (Some r) (Some k) stop known steps e = by_test (is_stopped r stops) refl e
  where
    by_test : (b : Bool) → is_stopped r stops ≡ b → cond b None (let made : Stop = record { replica = r; steps = k } in Some made) ≡ Some stop → IsStop replicas stop × All (λ earlier. of_stop earlier ≡ stop.replica → ⊥) stops
    by_test true is e = cc
    by_test false is e =
        let same : (let made : Stop = record { replica = r; steps = k } in made) ≡ stop = cc in
        subst (λ (stop : Stop). IsStop replicas stop × All (λ earlier. of_stop earlier ≡ stop.replica → ⊥) stops) same
        (record { known = known r refl; steps = steps k refl }, stopped_none r stops is)

another_pause-gives : (replicas : ℕ) (pauses : List Pause) (r k m : Option ℕ) (pause : Pause) → ((n : ℕ) → r ≡ Some n → n < replicas) → ((n : ℕ) → k ≡ Some n → n ≤ MOST_STEPS) → ((n : ℕ) → m ≡ Some n → (1 ≤ n) × (n ≤ MOST_ROUNDS))
    → another_pause pauses r k m ≡ Some pause → IsPause replicas pause × All (λ (earlier : Pause). of_pause earlier ≡ pause.replica → earlier.steps < pause.steps) pauses
another_pause-gives replicas pauses None k m pause known steps rounds e = cc
another_pause-gives replicas pauses (Some r) None m pause known steps rounds e = cc
another_pause-gives replicas pauses (Some r) (Some k) None pause known steps rounds e = cc
another_pause-gives replicas pauses (Some r) (Some k) (Some m) pause known steps rounds e = by_test (pauses_before r k pauses) refl e
  where
    by_test : (b : Bool) → pauses_before r k pauses ≡ b → cond b (let made : Pause = record { replica = r; steps = k; rounds = m } in Some made) None ≡ Some pause
        → IsPause replicas pause × All (λ (earlier : Pause). of_pause earlier ≡ pause.replica → earlier.steps < pause.steps) pauses
    by_test false is e = cc
    by_test true is e =
        let same : (let made : Pause = record { replica = r; steps = k; rounds = m } in made) ≡ pause = cc in
        subst (λ (pause : Pause). IsPause replicas pause × All (λ (earlier : Pause). of_pause earlier ≡ pause.replica → earlier.steps < pause.steps) pauses) same
        (record { known = known r refl; steps = steps k refl; some = (rounds m refl).0; rounds = (rounds m refl).1 }, paused_before r k pauses is)

stop_line-gives : (replicas : ℕ) (stops : List Stop) (ws : List (List ℕ)) (stop : Stop) → stop_line replicas stops ws ≡ Some stop → IsStop replicas stop × All (λ earlier. of_stop earlier ≡ stop.replica → ⊥) stops
stop_line-gives replicas stops [] stop e = cc
stop_line-gives replicas stops (name ∷ []) stop e = cc
stop_line-gives replicas stops (name ∷ r ∷ []) stop e = cc
stop_line-gives replicas stops (name ∷ r ∷ k ∷ []) stop e = by_test (bytes_eq name (codes "stop")) e
  where
    by_test : (b : Bool) → cond b (another_stop stops (below replicas (number_of r)) (within 0 MOST_STEPS (number_of k))) None ≡ Some stop → IsStop replicas stop × All (λ earlier. of_stop earlier ≡ stop.replica → ⊥) stops
    by_test true e =
        another_stop-gives replicas stops (below replicas (number_of r)) (within 0 MOST_STEPS (number_of k)) stop (λ n is. below-gives replicas (number_of r) n is) (λ n is. (within-gives 0 MOST_STEPS (number_of k) n is).1) e
    by_test false e = cc
stop_line-gives replicas stops (name ∷ r ∷ k ∷ m ∷ rest) stop e = cc

pause_line-gives : (replicas : ℕ) (pauses : List Pause) (ws : List (List ℕ)) (pause : Pause) → pause_line replicas pauses ws ≡ Some pause
    → IsPause replicas pause × All (λ (earlier : Pause). of_pause earlier ≡ pause.replica → earlier.steps < pause.steps) pauses
pause_line-gives replicas pauses [] pause e = cc
pause_line-gives replicas pauses (name ∷ []) pause e = cc
pause_line-gives replicas pauses (name ∷ r ∷ []) pause e = cc
pause_line-gives replicas pauses (name ∷ r ∷ k ∷ []) pause e = cc
pause_line-gives replicas pauses (name ∷ r ∷ k ∷ m ∷ []) pause e = by_test (bytes_eq name (codes "pause")) e
  where
    by_test : (b : Bool) → cond b (another_pause pauses (below replicas (number_of r)) (within 0 MOST_STEPS (number_of k)) (within 1 MOST_ROUNDS (number_of m))) None ≡ Some pause
        → IsPause replicas pause × All (λ (earlier : Pause). of_pause earlier ≡ pause.replica → earlier.steps < pause.steps) pauses
    by_test true e =
        another_pause-gives replicas pauses (below replicas (number_of r)) (within 0 MOST_STEPS (number_of k)) (within 1 MOST_ROUNDS (number_of m)) pause
        (λ n is. below-gives replicas (number_of r) n is) (λ n is. (within-gives 0 MOST_STEPS (number_of k) n is).1) (λ n is. within-gives 1 MOST_ROUNDS (number_of m) n is) e
    by_test false e = cc
pause_line-gives replicas pauses (name ∷ r ∷ k ∷ m ∷ more ∷ rest) pause e = cc

abbrev with_room_as : Bool → Option ScriptLine → Line ScriptLine
with_room_as room None = Wrong SCRIPT
with_room_as room (Some said) = cond room (Says said) (Wrong TOO_MANY)

-- what a line says may be added
line-adds : (replicas : ℕ) (stops : List Stop) (pauses : List Pause) (ws : List (List ℕ)) (said : ScriptLine) → script_line replicas stops pauses ws ≡ Says said → Adds replicas stops pauses said
line-adds replicas stops pauses ws said is =
    by_end (is_alone (codes "end") ws) (stop_line replicas stops ws) (pause_line replicas pauses ws) (nat_lt (length stops + length pauses) MOST_SCRIPT_LINES) refl (λ stop e. stop_line-gives replicas stops ws stop e) (λ pause e. pause_line-gives replicas pauses ws pause e) is
  where
    by_end : (end : Bool) (stop : Option Stop) (pause : Option Pause) (room : Bool) → nat_lt (length stops + length pauses) MOST_SCRIPT_LINES ≡ room
        → ((made : Stop) → stop ≡ Some made → IsStop replicas made × All (λ earlier. of_stop earlier ≡ made.replica → ⊥) stops)
        → ((made : Pause) → pause ≡ Some made → IsPause replicas made × All (λ (earlier : Pause). of_pause earlier ≡ made.replica → earlier.steps < made.steps) pauses)
        → cond end (Says line.End) (with_room_as room (stop_or_pause stop pause)) ≡ Says said → Adds replicas stops pauses said
    by_end true stop pause room few stops_so pauses_so e = let same : line.End ≡ said = cc in subst (Adds replicas stops pauses) same tt
    by_end false (Some stop) pause true few stops_so pauses_so e =
        let same : line.Stop stop ≡ said = cc in let fits : length stops + length pauses < MOST_SCRIPT_LINES = grind (arith, nat_tests) in let made = stops_so stop refl in
        subst (Adds replicas stops pauses) same (fits, made.0, made.1)
    by_end false (Some stop) pause false few stops_so pauses_so e = cc
    by_end false None (Some pause) true few stops_so pauses_so e =
        let same : line.Pause pause ≡ said = cc in let fits : length stops + length pauses < MOST_SCRIPT_LINES = grind (arith, nat_tests) in let made = pauses_so pause refl in
        subst (Adds replicas stops pauses) same (fits, made.0, made.1)
    by_end false None (Some pause) false few stops_so pauses_so e = cc
    by_end false None None room few stops_so pauses_so e = cc

-- a script that was read is such
scripted-from : (replicas : ℕ) (stops : List Stop) (pauses : List Pause) (number : ℕ) (text : List (List ℕ)) → AreScripted replicas stops pauses → Gives (IsScripted replicas) (script_from replicas stops pauses number text)
scripted-from replicas stops pauses number [] are = tt
scripted-from replicas stops pauses number (here ∷ text) are =
    by_line (λ stops pauses. scripted-from replicas stops pauses (number + 1) text) (script_line replicas stops pauses (words here)) (λ said. line-adds replicas stops pauses (words here) said)
  where
    by_line : ((stops : List Stop) (pauses : List Pause) → AreScripted replicas stops pauses → Gives (IsScripted replicas) (script_from replicas stops pauses (number + 1) text))
        → (said : Line ScriptLine) → ((is : ScriptLine) → said ≡ Says is → Adds replicas stops pauses is)
        → Gives (IsScripted replicas) (script_after replicas stops pauses number (record { number = number + 1; lines = text }) (λ stops pauses. script_from replicas stops pauses (number + 1) text) said)
    by_line again (Says (line.Stop stop)) adds =
        let more = adds (line.Stop stop) refl in
        again (stops ++ stop ∷ []) pauses (record {
          few = omega (arith, more.0, length-append stops (stop ∷ []));
          stops = All-push (IsStop replicas) stops stop are.stops more.1;
          pauses = are.pauses;
          once = Pairs-push of_stop (λ _ _. ⊥) stops stop are.once more.2;
          rising = are.rising;
        })
    by_line again (Says (line.Pause pause)) adds =
        let more = adds (line.Pause pause) refl in
        again stops (pauses ++ pause ∷ []) (record {
          few = omega (arith, more.0, length-append pauses (pause ∷ []));
          stops = are.stops;
          pauses = All-push (IsPause replicas) pauses pause are.pauses more.1;
          once = are.once;
          rising = Pairs-push of_pause (λ first second. first.steps < second.steps) pauses pause are.rising more.2;
        })
    by_line again (Says line.End) adds = ordered replicas stops pauses are
    by_line again (Wrong cause) adds = tt

none_yet : (replicas : ℕ) → AreScripted replicas [] []
none_yet replicas = record { few = omega arith; stops = All-nil (IsStop replicas); pauses = All-nil (IsPause replicas); once = tt; rising = tt }

empty : (replicas : ℕ) → IsScripted replicas (let made : Script = record { stops = []; pauses = [] } in made)
empty replicas = record { are = none_yet replicas; ordered = nothing replicas }
  where
    no_stop : (r : ℕ) → stops_in_order r [] ≡ []
    no_stop zero = refl
    no_stop (suc r) = append-nil (stops_in_order r []) ∙ no_stop r

    no_pause : (r : ℕ) → pauses_in_order r [] ≡ []
    no_pause zero = refl
    no_pause (suc r) = append-nil (pauses_in_order r []) ∙ no_pause r

    nothing : (replicas : ℕ) → script_of replicas [] [] ≡ record { stops = []; pauses = [] }
    nothing replicas =
        ap (λ (stops : List Stop). let made : Script = record { stops = stops; pauses = pauses_in_order replicas [] } in made) (no_stop replicas)
        ∙ ap (λ (pauses : List Pause). let made : Script = record { stops = []; pauses = pauses } in made) (no_pause replicas)

pub script_at-gives : (follows : Bool) (replicas : ℕ) (left : Left) → Gives (IsScripted replicas) (script_at follows replicas left)
script_at-gives true replicas left = scripted-from replicas [] [] left.number left.lines (none_yet replicas)
script_at-gives false replicas left = empty replicas

-- each of its lines is one line
pub stops-one : (replicas : ℕ) (stops : List Stop) → replicas ≤ MOST_REPLICAS → All (IsStop replicas) stops → All IsOneLine (map line_of_stop stops)
stops-one replicas [] few are = All-nil IsOneLine
stops-one replicas (stop ∷ stops) few are =
    All-cons IsOneLine (line_of_stop stop) (map line_of_stop stops) (stop-spells replicas stop few (All-head (IsStop replicas) stop stops are)).one_line (stops-one replicas stops few (All-tail (IsStop replicas) stop stops are))

pub pauses-one : (replicas : ℕ) (pauses : List Pause) → replicas ≤ MOST_REPLICAS → All (IsPause replicas) pauses → All IsOneLine (map line_of_pause pauses)
pauses-one replicas [] few are = All-nil IsOneLine
pauses-one replicas (pause ∷ pauses) few are =
    All-cons IsOneLine (line_of_pause pause) (map line_of_pause pauses) (pause-spells replicas pause few (All-head (IsPause replicas) pause pauses are)).one_line (pauses-one replicas pauses few (All-tail (IsPause replicas) pause pauses are))
