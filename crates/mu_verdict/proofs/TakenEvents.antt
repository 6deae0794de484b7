-- What a judge that takes lines knows after one event more.
use Rattle.std.proofs.Common.{◌≡◌, ℕ, ◌+◌, ◌<◌, ◌≤◌, ◌^◌, List, [], ◌∷◌, ◌++◌, length, take, None, Some, Option, refl, sym, ap, subst, ◌∙◌, arith}
use Rattle.std.specs.Prelude.{IfSome}
use Rattle.std.proofs.Math.Seq.{take-append_seam}
use Rattle.std.proofs.lemmas.List.{length-reverse, length-take-le, length_push, reverse-append}
use Rattle.std.proofs.lemmas.Option.{slice_get_within}
use Rattle.mu_judge.specs.Judges.{StandsForJudge}
use Rattle.mu_input.proofs.Advancing.{few_lines}
use Rattle.mu_input.specs.Readings.{Fits}
use Rattle.mu_input.specs.Traces.{Trace, trace}
use Rattle.mu_input.specs.declared.TheConstants.{TRACE_LIMIT}
use Rattle.mu_verdict.proofs.Breaking.{broken_before}
use Rattle.mu_verdict.proofs.EventLines.{explained_is}
use Rattle.mu_verdict.specs.Explained.{IsExplained}
use Rattle.mu_verdict.specs.LineJudges.{GoesOn, HasTaken}
use Rattle.mu_verdict.specs.declared.line_judge.LineJudge.{LineJudge}
use Rattle.mu_model.proofs.Budgets.{short_history}
use Rattle.mu_model.proofs.Lists.{get_push_here}
use Rattle.mu_model.specs.Histories.{history}
use Rattle.mu_model.specs.Legal.{IsLegal}
use Rattle.mu_model.specs.declared.config.Config.{Config}
use Rattle.mu_model.specs.declared.event.Event.{Event}
use Rattle.mu_outcome.specs.Breaks.{Explains, IsBroken, IsFault, reached}
use Rattle.mu_outcome.specs.declared.fault.Broken.{Broken}
use Rattle.mu_outcome.specs.declared.fault.Fault.{Fault}
use Rattle.mu_text.specs.Lines.{lines}

-- the history of one event more
pub history_push : (past : List Event) (e : Event) → history (past ++ e ∷ []) ≡ e ∷ history past
history_push past e = reverse-append past (e ∷ [])

-- a list that isn't broken: all its events were counted, and the states are those that it leads to
pub record Whole (c : Config) (past : List Event) (judge : LineJudge) : Type 0 where
  pub count : judge.events ≡ length past
  pub stands : StandsForJudge c (history past) judge.judge

pub whole_of : (c : Config) (start : ℕ) (past : List Event) (judge : LineJudge) → judge.broken ≡ None → HasTaken c start past judge → Whole c past judge
whole_of c start past judge none held = by_broken judge.broken none held.count held.goes_on
  where
    by_broken : (b : Option Broken) → b ≡ None → judge.events ≡ reached b (length past) → GoesOn c past b judge.judge → Whole c past judge
    by_broken None is count stands = record { count = count; stands = stands }
    by_broken (Some broken) clash count stands = absurd (let no : Some broken ≡ None = clash in cc)

-- the list goes on with an event that may follow
pub goes_on : (c : Config) (start : ℕ) (past : List Event) (e : Event) (old new : LineJudge) → old.broken ≡ None → new.broken ≡ None → new.config ≡ old.config → new.first ≡ old.first
    → HasTaken c start past old → StandsForJudge c (e ∷ history past) new.judge → new.events ≡ old.events + 1 → HasTaken c start (past ++ e ∷ []) new
goes_on c start past e old new before after config first held stands more = by_broken new.broken after refl
  where
    whole : Whole c past old
    whole = whole_of c start past old before held

    stands_more : StandsForJudge c (history (past ++ e ∷ [])) new.judge
    stands_more = subst (λ h. StandsForJudge c h new.judge) (sym (history_push past e)) stands

    count : new.events ≡ length (past ++ e ∷ [])
    count = let longer = length_push past e in let were = whole.count in omega (arith, longer, more, were)

    by_broken : (b : Option Broken) → b ≡ None → new.broken ≡ b → HasTaken c start (past ++ e ∷ []) new
    by_broken (Some broken) clash is = absurd (let no : Some broken ≡ None = clash in cc)
    by_broken None none is = record {
      config = config ∙ held.config;
      is_config = held.is_config;
      first = first ∙ held.first;
      few = held.few;
      explains = subst (λ b. Explains c (past ++ e ∷ []) b) (sym is) stands_more.legal;
      count = subst (λ b. new.events ≡ reached b (length (past ++ e ∷ []))) (sym is) count;
      goes_on = subst (λ b. GoesOn c (past ++ e ∷ []) b new.judge) (sym is) stands_more;
    }

-- the list breaks at an event with which something is wrong
pub breaks : (c : Config) (start : ℕ) (past : List Event) (e : Event) (fault : Fault) (old new : LineJudge) → old.broken ≡ None
    → new.broken ≡ Some (record { index = old.events; event = e; fault = fault }) → new.config ≡ old.config → new.first ≡ old.first → new.events ≡ old.events
    → HasTaken c start past old → IsFault c (history past) e fault → HasTaken c start (past ++ e ∷ []) new
breaks c start past e fault old new before after config first same held wrong =
    let whole = whole_of c start past old before held in
    let found : Broken = record { index = old.events; event = e; fault = fault } in
    let front : take old.events (past ++ e ∷ []) ≡ past = ap (λ n. take n (past ++ e ∷ [])) whole.count ∙ take-append_seam past (e ∷ []) in
    let breaks_there : IsBroken c (past ++ e ∷ []) found = record {
      there = get_push_here past old.events e whole.count;
      before = subst (λ l. IsLegal c l) (sym front) whole.stands.legal;
      fault = subst (λ l. IsFault c (history l) e fault) (sym front) wrong;
    } in
    record {
      config = config ∙ held.config;
      is_config = held.is_config;
      first = first ∙ held.first;
      few = held.few;
      explains = subst (λ b. Explains c (past ++ e ∷ []) b) (sym after) breaks_there;
      count = subst (λ b. new.events ≡ reached b (length (past ++ e ∷ []))) (sym after) same;
      goes_on = subst (λ b. GoesOn c (past ++ e ∷ []) b new.judge) (sym after) tt;
    }

-- a list that is broken stays so, whatever comes
pub stays_broken : (c : Config) (start : ℕ) (past more : List Event) (judge : LineJudge) (found : Broken) → judge.broken ≡ Some found → HasTaken c start past judge → HasTaken c start (past ++ more) judge
stays_broken c start past more judge found is held =
    let broken : IsBroken c past found = subst (λ b. Explains c past b) is held.explains in
    record {
      config = held.config;
      is_config = held.is_config;
      first = held.first;
      few = held.few;
      explains = subst (λ b. Explains c (past ++ more) b) (sym is) (broken_before c past more found broken);
      count = subst (λ b. judge.events ≡ reached b (length (past ++ more))) (sym is) (subst (λ b. judge.events ≡ reached b (length past)) is held.count);
      goes_on = subst (λ b. GoesOn c (past ++ more) b judge.judge) (sym is) tt;
    }

-- fewer events are counted than a legal list may have
pub few_counted : (c : Config) (start : ℕ) (past : List Event) (judge : LineJudge) → HasTaken c start past judge → judge.events ≤ 917497
few_counted c start past judge held = by_broken judge.broken held.explains held.count
  where
    short : (events : List Event) → IsLegal c events → length events ≤ 917497
    short events legal =
        let few = short_history c (history events) legal held.is_config.replicas.1 held.is_config.budget.1 in
        let same = length-reverse events in
        omega (arith, few, same)

    by_broken : (b : Option Broken) → Explains c past b → judge.events ≡ reached b (length past) → judge.events ≤ 917497
    by_broken None legal count = let few = short past legal in omega (arith, few, count)
    by_broken (Some found) broken count =
        let within = slice_get_within past found.index found.event broken.there in
        let few = short (take found.index past) broken.before in
        let front = length-take-le found.index past (omega (arith, within)) in
        omega (arith, few, count, front)

-- the answer on all events of a trace is the answer on the trace
pub told_as_a_whole : (bytes : List ℕ) (spelled : Trace) (start : ℕ) (judge : LineJudge) → length bytes ≤ TRACE_LIMIT → trace bytes ≡ Fits spelled → length (lines bytes) ≡ start + length spelled.events
    → HasTaken spelled.job.config start spelled.events judge → IsExplained bytes (length spelled.events) (start + judge.events) judge.broken
told_as_a_whole bytes spelled start judge limit fits count held =
    let few = few_lines bytes in
    explained_is bytes spelled (length spelled.events) (length (lines bytes)) (start + judge.events) judge.broken fits refl refl held.explains (omega (arith, few, limit)) (place judge.broken held.count)
  where
    place : (b : Option Broken) → judge.events ≡ reached b (length spelled.events)
        → IfSome b (λ b. length spelled.events ≤ length (lines bytes) → b.index ≤ length spelled.events → length (lines bytes) < 2 ^ 31 → start + judge.events + length spelled.events ≡ length (lines bytes) + b.index)
    place None is = tt
    place (Some b) is = λ few within small. omega (arith, is, count)
