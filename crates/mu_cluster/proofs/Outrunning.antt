-- In a replay whose script has no pause no replica is outrun.
use Rattle.std.proofs.Common.{◌≡◌, ◌∙◌, ℕ, ◌+◌, ◌<◌, ◌≤◌, ◌==◌, ◌&&◌, inr, Bool, true, false, cond, None, Some, List, [], ◌∷◌, ◌++◌, ap, append_assoc, arith, eqb-true, length, refl, subst, sym}
use Rattle.std.specs.declared.option.Option.{Option}
use Rattle.std.specs.Prelude.{map, nat_le}
use Rattle.std.specs.List.{slice_get}
use Rattle.std.proofs.lemmas.Bool.{leb-true, not-true, true≢false}
use Rattle.std.proofs.lemmas.List.{length-append}
use Rattle.mu_agree.specs.Agreement.{WasHeldFailed}
use Rattle.mu_agree.proofs.Legal.{legal_older}
use Rattle.mu_agree.proofs.Room.{look_kept}
use Rattle.mu_agree.proofs.Sessions.{marked_was_held}
use Rattle.mu_model.specs.declared.config.Config.{Config}
use Rattle.mu_model.specs.declared.event.Answer.{Answer}
use Rattle.mu_model.specs.declared.event.Event.{Event}
use Rattle.mu_model.specs.declared.event.Verb.{Verb}
use Rattle.mu_model.specs.declared.script.End.{End}
use Rattle.mu_model.specs.declared.script.Script.{Script}
use Rattle.mu_model.specs.Contents.{IsConfig}
use Rattle.mu_model.specs.Ends.{EndsBy, outrun, outrun_by, stops_at}
use Rattle.mu_model.specs.Histories.{earlier_or, history, part}
use Rattle.mu_model.specs.Journals.{Record}
use Rattle.mu_model.specs.Knowledge.{known}
use Rattle.mu_model.specs.Legal.{IsLegalHistory}
use Rattle.mu_model.specs.Scores.{score}
use Rattle.mu_model.proofs.Basics.{same_some}
use Rattle.mu_model.proofs.Parts.{filter-append, history-part}
use Rattle.mu_node.specs.declared.zeal.Zeal.{Zeal}
use Rattle.mu_node.specs.Journal.{WasMade}
use Rattle.mu_agree.specs.Moments.{AtEachStep}
use Rattle.mu_outcome.specs.declared.outcome.Outcome.{Outcome}
use Rattle.mu_outcome.specs.Completion.{Completes, HasAllCommands, IsCutShort}
use Rattle.mu_outcome.specs.Outcomes.{IsRun, journal_of, journals_of, or_empty}
use Rattle.mu_cluster.specs.declared.rounds.Seat.{Seat}
use Rattle.mu_cluster.specs.Naming.{NoneOutrunUnpaused, SpendsBudgets}
use Rattle.mu_cluster.specs.Rounds.{PlayedBy, part_of}
use Rattle.mu_cluster.proofs.Naming.{AreUnpausedBy, few_steps, trusts_then, unpaused_of}

-- the step is a look of a place that is used again, at what r still has to read
pub record IsPastLook (r p i known_length by : ℕ) (verb : Verb) (answer : Answer) : Type 0 where
  pub looks : verb ≡ Verb.Look p i
  pub past : answer ≡ Answer.Past
  pub unread : known_length ≤ i

pub past_look : (r p i n by : ℕ) (verb : Verb) (answer : Answer) → outrun_by r n by verb answer ≡ Some (p, i) → IsPastLook r p i n by verb answer
past_look r p i n by (Verb.Look q j) Answer.Past is = go (by == r) (nat_le n j) refl is
  where
    go : (s t : Bool) → nat_le n j ≡ t → cond {A = Option (ℕ × ℕ)} (s && t) (Some (q, j)) None ≡ Some (p, i) → IsPastLook r p i n by (Verb.Look q j) Answer.Past
    go true true low is =
        let same = same_some (q, j) (p, i) is in
        let position : j ≡ i = ap (λ x. x.1) same in
        let below = leb-true n j low in
        record { looks = ap (λ (x : ℕ × ℕ). Verb.Look x.0 x.1) same; past = refl; unread = omega (arith, below, position) }
    go true false low is = cc
    go false t low is = cc
past_look r p i n by verb answer is = cc

-- where the newest event of a part stands in the history
pub record StandsLast (q : ℕ) (past : List Event) (e : Event) (mine : List Event) : Type 0 where
  pub newer : List Event
  pub older : List Event
  pub is : past ≡ newer ++ e ∷ older
  pub before : part q older ≡ mine
  pub own : e.by ≡ q

pub stands_last : (q : ℕ) (past : List Event) (e : Event) (mine : List Event) → part q past ≡ e ∷ mine → StandsLast q past e mine
stands_last q [] e mine is = cc
stands_last q (f ∷ past) e mine is = go (f.by == q) refl is (stands_last q past e mine)
  where
    go : (t : Bool) → (f.by == q) ≡ t → cond t (f ∷ part q past) (part q past) ≡ e ∷ mine → (part q past ≡ e ∷ mine → StandsLast q past e mine) → StandsLast q (f ∷ past) e mine
    go true own is ih =
        let same : f ≡ e = cc in
        record { newer = []; older = past; is = ap (λ x. x ∷ past) same; before = cc; own = ap (λ (x : Event). x.by) (sym same) ∙ eqb-true f.by q own }
    go false own is ih = let at = ih is in record { newer = f ∷ at.newer; older = at.older; is = ap (λ l. f ∷ l) at.is; before = at.before; own = at.own }

-- before its last event no other held a replica to be failed
not_held : {kind : Zeal} (c : Config) (events : List Event) (lengths : List ℕ) (rounds q : ℕ) (newer older : List Event) (e : Event) → AreUnpausedBy kind c events lengths rounds → history events ≡ newer ++ e ∷ older → e.by ≡ q → q < c.replicas
    → length (part q older) + 1 ≡ length (part_of q events) → WasHeldFailed c q older → ⊥
not_held c events lengths rounds q newer older e run is own low last held =
    let few = few_steps c events lengths rounds held.by q newer older e run is own held.inside held.other in
    let split : length (part held.by older) ≡ length (part held.by held.newer) + length (part held.by held.older) =
    ap (λ l. length (part held.by l)) held.is ∙ (ap length (filter-append (λ f. f.by == held.by) held.newer held.older) ∙ length-append (part held.by held.newer) (part held.by held.older)) in
    let whole : history events ≡ (newer ++ e ∷ held.newer) ++ held.older = is ∙ (ap (λ l. newer ++ e ∷ l) held.is ∙ sym (append_assoc newer (e ∷ held.newer) held.older)) in
    let alive = trusts_then c events lengths rounds q held.by (newer ++ e ∷ held.newer) held.older run whole low held.inside (λ same. held.other (sym same)) (omega (arith, few, split, last)) in
    true≢false (sym alive ∙ not-true (score held.by q (part held.by held.older)).1 held.failed)

pub none_earlier : (o : Option (ℕ × ℕ)) → earlier_or o None ≡ o
none_earlier None = refl
none_earlier (Some x) = refl

-- so it meets no place that is used again
pub none_outrun : {kind : Zeal} (c : Config) (events : List Event) (lengths : List ℕ) (rounds q p i : ℕ) → IsConfig c → AreUnpausedBy kind c events lengths rounds → q < c.replicas → outrun c q (part_of q events) ≡ Some (p, i) → ⊥
none_outrun c events lengths rounds q p i good run low = go (part_of q events) refl (run.made q low)
  where
    go : (mine : List Event) → part_of q events ≡ mine → AtEachStep (WasMade c q) mine → outrun c q mine ≡ Some (p, i) → ⊥
    go [] is made some = cc
    go (e ∷ mine) is made some =
        let look = past_look q p i (length (known c q mine)) e.by e.verb e.answer (sym (none_earlier (outrun_by q (length (known c q mine)) e.by e.verb e.answer)) ∙ (sym (ap (λ o. earlier_or (outrun_by q (length (known c q mine)) e.by e.verb e.answer) o) made.1.going) ∙ some)) in
        let at = stands_last q (history events) e mine is in
        let legal : IsLegalHistory c (e ∷ at.older) = legal_older c at.newer (e ∷ at.older) (subst (IsLegalHistory c) at.is run.legal) in
        let unread : length (known c e.by (part e.by at.older)) ≤ i = subst (λ by. length (known c by (part by at.older)) ≤ i) (sym at.own) (subst (λ l. length (known c q l) ≤ i) (sym at.before) look.unread) in
        let marked = look_kept c p i e at.older legal.0 legal.1 look.looks look.past (inr unread) in
        let held = marked_was_held c e.by at.older good legal.0 marked in
        let last : length (part q at.older) + 1 ≡ length (part_of q events) = (let one = ap length at.before in let all = ap length is in omega (arith, one, all)) in
        not_held c events lengths rounds q at.newer at.older e run at.is at.own low last (subst (λ r. WasHeldFailed c r at.older) at.own held)

pub outrun_end : (c : Config) (script : Script) (r p i : ℕ) (mine : List Event) (end : End) → end ≡ End.Outrun p i → EndsBy c script r mine end → outrun c r mine ≡ Some (p, i)
outrun_end c script r p i mine end is ends = (subst (EndsBy c script r mine) is ends).1

-- in what a replay leaves
pub none_outrun_of : {kind : Zeal} (o : Outcome) (order : Record) (seats : List Seat) (rounds : ℕ) → IsConfig o.job.config → IsRun o → o.order ≡ Some order → PlayedBy kind o.job.config o.job.script order.events seats rounds 0 → NoneOutrunUnpaused o
none_outrun_of o order seats rounds good run given played unpaused r p i low is =
    let all = unpaused_of o order seats rounds run given played unpaused in
    let ended = run.ended r low in
    let journal : history (journal_of o r) ≡ part_of r run.order.events = ap (λ l. history (or_empty l)) (run.parts.each r low) ∙ history-part r run.order.events in
    none_outrun o.job.config run.order.events (map length (journals_of o)) run.turns.rounds r p i good all low
    (subst (λ l. outrun o.job.config r l ≡ Some (p, i)) journal (outrun_end o.job.config o.job.script r p i (history (journal_of o r)) ended.0 (same_some ended.0 (End.Outrun p i) (sym ended.1 ∙ is)) ended.2.ends))

-- if none is stopped or outrun, who is cut short spent its budget
pub spends_of : (o : Outcome) → IsRun o → Completes o → NoneOutrunUnpaused o → SpendsBudgets o
spends_of o run completes none = record { none_outrun = none; spent = spent }
  where
    spent : o.job.script.pauses ≡ [] → o.job.script.stops ≡ [] → ¬ HasAllCommands o → (r : ℕ) → r < o.job.config.replicas → slice_get o.ends r ≡ Some End.Budget
    spent unpaused unstopped lacks r low = go (run.ended r low).0 (run.ended r low).1 (run.ended r low).2.ends (completes.cut_short lacks r low)
      where
        go : (end : End) → slice_get o.ends r ≡ Some end → EndsBy o.job.config o.job.script r (history (journal_of o r)) end → ((e : End) × (slice_get o.ends r ≡ Some e) × IsCutShort e) → slice_get o.ends r ≡ Some End.Budget
        go End.Stopped is ends short = absurd (true≢false (sym (subst (λ stops. stops_at r (length (history (journal_of o r))) stops ≡ true) unstopped ends)))
        go End.Budget is ends short = is
        go (End.Outrun p i) is ends short = absurd (none unpaused r p i low is)
        go (End.Finished heads) is ends short = absurd (subst IsCutShort (same_some short.0 (End.Finished heads) (sym short.1 ∙ is)) short.2)
