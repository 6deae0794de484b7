-- Stops and pauses: the tests of one more, and their order.
use Rattle.std.proofs.Common.{Bor, ◌≡◌, ◌≢◌, ℕ, ◌+◌, ◌<◌, ◌==◌, nat_lt, Bool, not, ◌&&◌, ◌||◌, cond, List, [], ◌∷◌, ◌++◌, length, map, take, get_or, codes, true, false, None, Some, refl, sym, ap, ◌∙◌, arith}
use Rattle.std.proofs.lemmas.List.{length-map}
use Rattle.std.proofs.lemmas.List.Elements.{filter_more}
use Rattle.std.proofs.lemmas.List.Recursion.{same_from_clauses}
use Rattle.std.proofs.lemmas.Bool.Decides.{nat_tests}
use Rattle.std.specs.declared.option.Option.{Option}
use Rattle.std.specs.List.{filter, list_all}
use Rattle.mu_model.specs.declared.script.Stop.{Stop}
use Rattle.mu_model.specs.declared.script.Pause.{Pause}
use Rattle.mu_text.specs.Lines.{is_alone, words}
use Rattle.mu_input.specs.Readings.{Line, Says, Wrong}
use Rattle.mu_input.specs.Scripts.{stop_line, pauses_before, pause_line, script_after, script_from, script_line, stop_or_pause, with_room, stops_of, pauses_of}
use Rattle.mu_input.specs.declared.scripts.ScriptLine.{ScriptLine}
use Rattle.mu_input.specs.declared.scripts.ScriptLine.TheVariants as line
use Rattle.mu_input.specs.declared.cause.TheConstants.{TOO_MANY}
use Rattle.mu_text.specs.declared.TheConstants.{MANY_WORDS}
use Rattle.mu_input.specs.declared.TheConstants.{MOST_SCRIPT_LINES}

-- the test of a pause is one of each of them
pub pauses_before-all : (r k : ℕ) (pauses : List Pause) → list_all (λ (pause : Pause). not (pause.replica == r) || nat_lt pause.steps k) pauses ≡ pauses_before r k pauses
pauses_before-all r k pauses = same_from_clauses (list_all (λ (pause : Pause). not (pause.replica == r) || nat_lt pause.steps k)) (pauses_before r k) (λ (pause : Pause) (rest : Bool). (not (pause.replica == r) || nat_lt pause.steps k) && rest) refl (λ _ _. refl) (λ _ _. refl) pauses

pub stops_of-filter : (r : ℕ) (stops : List Stop) → stops_of r stops ≡ filter (λ (stop : Stop). stop.replica == r) stops
stops_of-filter r stops = same_from_clauses (stops_of r) (filter (λ (stop : Stop). stop.replica == r)) (λ (stop : Stop) rest. cond (stop.replica == r) (stop ∷ rest) rest) refl (λ _ _. refl) (λ _ _. refl) stops

-- one more stop
pub stops_of-more : (r : ℕ) (stops : List Stop) (i : ℕ) (d : Stop) → i < length stops → stops_of r (take (i + 1) stops) ≡ stops_of r (take i stops) ++ cond ((get_or stops i d).replica == r) (get_or stops i d ∷ []) []
stops_of-more r stops i d below =
    stops_of-filter r (take (i + 1) stops) ∙ filter_more (λ (stop : Stop). stop.replica == r) stops i d below
    ∙ ap (λ front. front ++ cond ((get_or stops i d).replica == r) (get_or stops i d ∷ []) []) (sym (stops_of-filter r (take i stops)))

pub pauses_of-filter : (r : ℕ) (pauses : List Pause) → pauses_of r pauses ≡ filter (λ (pause : Pause). pause.replica == r) pauses
pauses_of-filter r pauses = same_from_clauses (pauses_of r) (filter (λ (pause : Pause). pause.replica == r)) (λ (pause : Pause) rest. cond (pause.replica == r) (pause ∷ rest) rest) refl (λ _ _. refl) (λ _ _. refl) pauses

-- one more pause
pub pauses_of-more : (r : ℕ) (pauses : List Pause) (i : ℕ) (d : Pause) → i < length pauses → pauses_of r (take (i + 1) pauses) ≡ pauses_of r (take i pauses) ++ cond ((get_or pauses i d).replica == r) (get_or pauses i d ∷ []) []
pauses_of-more r pauses i d below =
    pauses_of-filter r (take (i + 1) pauses) ∙ filter_more (λ (pause : Pause). pause.replica == r) pauses i d below
    ∙ ap (λ front. front ++ cond ((get_or pauses i d).replica == r) (get_or pauses i d ∷ []) []) (sym (pauses_of-filter r (take i pauses)))

stop_line-other : (replicas : ℕ) (stops : List Stop) (ws : List (List ℕ)) → length ws ≢ 3 → stop_line replicas stops ws ≡ None
stop_line-other replicas stops [] other = refl
stop_line-other replicas stops (name ∷ []) other = refl
stop_line-other replicas stops (name ∷ r ∷ []) other = refl
stop_line-other replicas stops (name ∷ r ∷ k ∷ []) other = absurd (other refl)
stop_line-other replicas stops (name ∷ r ∷ k ∷ m ∷ rest) other = refl

pause_line-other : (replicas : ℕ) (pauses : List Pause) (ws : List (List ℕ)) → length ws ≢ 4 → pause_line replicas pauses ws ≡ None
pause_line-other replicas pauses [] other = refl
pause_line-other replicas pauses (name ∷ []) other = refl
pause_line-other replicas pauses (name ∷ r ∷ []) other = refl
pause_line-other replicas pauses (name ∷ r ∷ k ∷ []) other = refl
pause_line-other replicas pauses (name ∷ r ∷ k ∷ m ∷ []) other = absurd (other refl)
pause_line-other replicas pauses (name ∷ r ∷ k ∷ m ∷ more ∷ rest) other = refl

abbrev texts : List (Bor (List ℕ)) → List (List ℕ)
texts ws = map (λ (word : Bor (List ℕ)). word.now) ws

-- a line of a stop has three words
pub no_stop : (replicas : ℕ) (stops : List Stop) (ws : List (Bor (List ℕ))) → length ws ≢ 3 → None ≡ stop_line replicas stops (texts ws)
no_stop replicas stops ws other = sym (stop_line-other replicas stops (texts ws) (λ three. other (sym (length-map ws (λ (word : Bor (List ℕ)). word.now)) ∙ three)))

-- and one of a pause has four
pub no_pause : (replicas : ℕ) (pauses : List Pause) (ws : List (Bor (List ℕ))) → length ws ≢ 4 → None ≡ pause_line replicas pauses (texts ws)
no_pause replicas pauses ws other = sym (pause_line-other replicas pauses (texts ws) (λ four. other (sym (length-map ws (λ (word : Bor (List ℕ)). word.now)) ∙ four)))

-- the first words of a line say what the line says
pub script_line-front : (replicas : ℕ) (stops : List Stop) (pauses : List Pause) (ws : List (List ℕ)) → script_line replicas stops pauses (take MANY_WORDS ws) ≡ script_line replicas stops pauses ws
script_line-front replicas stops pauses [] = refl
script_line-front replicas stops pauses (a ∷ []) = refl
script_line-front replicas stops pauses (a ∷ b ∷ []) = refl
script_line-front replicas stops pauses (a ∷ b ∷ c ∷ []) = refl
script_line-front replicas stops pauses (a ∷ b ∷ c ∷ d ∷ []) = refl
script_line-front replicas stops pauses (a ∷ b ∷ c ∷ d ∷ e ∷ rest) = refl

-- one line after the other
pub line_by_line : (replicas : ℕ) (stops : List Stop) (pauses : List Pause) (number : ℕ) (left : List (List ℕ)) (text : List ℕ) (lines : List (List ℕ)) (said : Line ScriptLine)
    → left ≡ text ∷ lines → script_line replicas stops pauses (take MANY_WORDS (words text)) ≡ said
    → script_from replicas stops pauses number left
    ≡ script_after replicas stops pauses number (record { number = number + 1; lines = lines }) (λ stops pauses. script_from replicas stops pauses (number + 1) lines) said
line_by_line replicas stops pauses number left text lines said first says =
    ap (script_from replicas stops pauses number) first
    ∙ ap (script_after replicas stops pauses number (record { number = number + 1; lines = lines }) (λ stops pauses. script_from replicas stops pauses (number + 1) lines))
    (sym (script_line-front replicas stops pauses (words text)) ∙ says)

taken : (b : Bool) (one : ScriptLine) (cause : ℕ) (said : ScriptLine) → cond b (Says one) (Wrong cause) ≡ Says said → b ≡ true
taken true one cause said e = refl
taken false one cause said e = cc

fits : (end : Bool) (count : ℕ) (made : Option ScriptLine) (said : ScriptLine) → said ≢ line.End → cond end (Says line.End) (with_room count made) ≡ Says said → count < MOST_SCRIPT_LINES
fits true count made said goes e = absurd (goes cc)
fits false count None said goes e = cc
fits false count (Some one) said goes e = let t = taken (nat_lt count MOST_SCRIPT_LINES) one TOO_MANY said e in grind (arith, nat_tests, t)

-- a line that goes on has room
pub room : (replicas : ℕ) (stops : List Stop) (pauses : List Pause) (ws : List (List ℕ)) (said : ScriptLine) → said ≢ line.End → script_line replicas stops pauses ws ≡ Says said → length stops + length pauses < MOST_SCRIPT_LINES
room replicas stops pauses ws said goes e = fits (is_alone (codes "end") ws) (length stops + length pauses) (stop_or_pause (stop_line replicas stops ws) (pause_line replicas pauses ws)) said goes e

-- what a line says, of the lists and words that it was asked with
pub told : (replicas : ℕ) (stops lent_stops : List Stop) (pauses lent_pauses : List Pause) (text : List ℕ) (ws of : List (List ℕ)) (said is : ScriptLine)
    → lent_stops ≡ stops → lent_pauses ≡ pauses → ws ≡ of → of ≡ take MANY_WORDS (words text) → said ≡ is
    → script_line replicas lent_stops lent_pauses ws ≡ Says said → script_line replicas stops pauses (take MANY_WORDS (words text)) ≡ Says is
told replicas stops lent_stops pauses lent_pauses text ws of said is a b c d e says =
    ap (λ ws. script_line replicas stops pauses ws) (sym (c ∙ d))
    ∙ ap (λ stops. script_line replicas stops pauses ws) (sym a) ∙ ap (λ pauses. script_line replicas lent_stops pauses ws) (sym b) ∙ says ∙ ap Says e
