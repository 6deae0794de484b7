-- A replica holds another that keeps step with it to be alive.
use Rattle.std.proofs.Common.{◌≡◌, ◌∙◌, ◌≢◌, ℕ, suc, ◌+◌, ◌<◌, ◌≤◌, ◌==◌, ◌⊎◌, inl, inr, Bool, true, false, cond, None, Some, List, [], ◌∷◌, ◌++◌, ap, arith, eqb-true, length, refl, subst, sym}
use Rattle.std.proofs.Math.Nat.{mod-eq_of_lt}
use Rattle.std.proofs.lemmas.Bool.{true≢false}
use Rattle.std.proofs.lemmas.List.{length-append}
use Rattle.mu_model.specs.declared.config.Config.{Config}
use Rattle.mu_model.specs.declared.event.Event.{Event}
use Rattle.mu_model.specs.declared.event.Verb.{Verb}
use Rattle.mu_model.specs.Bounds.{cycle}
use Rattle.mu_model.specs.Histories.{has, how_many, part, since}
use Rattle.mu_model.specs.Legal.{IsLegalHistory}
use Rattle.mu_model.specs.Scores.{beat_read, score}
use Rattle.mu_model.specs.Steps.{is_beat, is_beat_read, is_beat_read_verb, is_beat_verb}
use Rattle.mu_detect.specs.Stands.{last_count}
use Rattle.mu_node.specs.Journal.{WasMade}
use Rattle.mu_lively.proofs.Rounding.{read_here}
use Rattle.mu_lively.proofs.Naming.{beats_part, count_read, count_unread, full_kept, has_beaten, more_beaten, reads_apart, reads_beats, reads_no_beat, score_unread}
use Rattle.mu_agree.specs.Moments.{AtEachStep}
use Rattle.mu_cluster.proofs.InStep.{StaysAhead}

-- r, whose events are mine, has read no count of q
abbrev pub HasNotRead : ℕ → ℕ → List Event → Type 0
HasNotRead q r mine = (has (is_beat_read q) mine ≡ false) × (last_count r q mine ≡ 0)

-- r read the count of q last when q had made only the older of its events, as many as r before this read and the lead
pub record HasRead (lead q r : ℕ) (theirs mine : List Event) : Type 0 where
  pub newer : List Event
  pub older : List Event
  pub whole : theirs ≡ newer ++ older
  pub count : last_count r q mine ≡ how_many is_beat older
  pub steps : length older + length (since (is_beat_read q) mine) + 1 ≡ length mine + lead
  pub some : has (is_beat_read q) mine ≡ true

-- r gives q the full score
pub record Trusts (lead q r : ℕ) (theirs mine : List Event) : Type 0 where
  pub full : score r q mine ≡ (15, true)
  pub read : HasNotRead q r mine ⊎ HasRead lead q r theirs mine

-- q makes an event
their_step : (lead q r : ℕ) (theirs mine : List Event) (e : Event) → Trusts lead q r theirs mine → Trusts lead q r (e ∷ theirs) mine
their_step lead q r theirs mine e was = record { full = was.full; read = go was.read }
  where
    go : HasNotRead q r mine ⊎ HasRead lead q r theirs mine → HasNotRead q r mine ⊎ HasRead lead q r (e ∷ theirs) mine
    go (inl none) = inl none
    go (inr read) = inr (record { newer = e ∷ read.newer; older = read.older; whole = ap (λ l. e ∷ l) read.whole; count = read.count; steps = read.steps; some = read.some })

-- r makes one that reads no count of q
own_step : (lead q r : ℕ) (theirs mine : List Event) (e : Event) → is_beat_read q e ≡ false → Trusts lead q r theirs mine → Trusts lead q r theirs (e ∷ mine)
own_step lead q r theirs mine e other was =
    let none = reads_no_beat r q e.by e.verb e.answer other in
    record { full = score_unread r q mine e none ∙ was.full; read = go none was.read }
  where
    go : beat_read r q e.by e.verb e.answer ≡ None → HasNotRead q r mine ⊎ HasRead lead q r theirs mine → HasNotRead q r (e ∷ mine) ⊎ HasRead lead q r theirs (e ∷ mine)
    go none (inl unread) = inl (ap (λ t. cond t true (has (is_beat_read q) mine)) other ∙ unread.0, count_unread r q mine e none ∙ unread.1)
    go none (inr read) = inr (record {
      newer = read.newer;
      older = read.older;
      whole = read.whole;
      count = count_unread r q mine e none ∙ read.count;
      steps = (let since_is : length (since (is_beat_read q) (e ∷ mine)) ≡ suc (length (since (is_beat_read q) mine)) = ap (λ t. length (cond t [] (e ∷ since (is_beat_read q) mine))) other in let steps = read.steps in omega (arith, since_is, steps));
      some = ap (λ t. cond t true (has (is_beat_read q) mine)) other ∙ read.some;
    })

-- the first event of a node reads no count
reads_later : (c : Config) (q r : ℕ) (mine : List Event) (e : Event) → r < c.replicas → AtEachStep (WasMade c r) (e ∷ mine) → is_beat_read q e ≡ true → 1 ≤ length mine
reads_later c q r [] e inside made reads = absurd (beat_reads e.verb (ap is_beat_verb (read_here c r 0 [] e made.1 (mod-eq_of_lt some) (omega (arith, inside)))) reads)
  where
    some : 0 < cycle c
    some = omega arith

    beat_reads : (verb : Verb) → is_beat_verb verb ≡ true → is_beat_read_verb q verb ≡ true → ⊥
    beat_reads Verb.Beat is reads = true≢false (sym reads)
    beat_reads verb is reads = true≢false (sym is)
reads_later c q r (f ∷ mine) e inside made reads = omega arith

-- r reads the count of q, which is another than before
own_read : (c : Config) (lead q r : ℕ) (theirs mine : List Event) (e : Event) → q < c.replicas → r < c.replicas → AtEachStep (WasMade c q) theirs → AtEachStep (WasMade c r) (e ∷ mine) → is_beat_read q e ≡ true
    → beat_read r q e.by e.verb e.answer ≡ Some (how_many is_beat theirs) → length theirs ≡ length mine + lead → Trusts lead q r theirs mine → Trusts lead q r theirs (e ∷ mine)
own_read c lead q r theirs mine e low inside made own reads tells long was = record {
  full = full_kept r q (how_many is_beat theirs) mine e tells (changed was.read) was.full;
  read = inr (record {
    newer = [];
    older = theirs;
    whole = refl;
    count = count_read r q (how_many is_beat theirs) mine e tells;
    steps = (let none : length (since (is_beat_read q) (e ∷ mine)) ≡ 0 = ap (λ t. length (cond t [] (e ∷ since (is_beat_read q) mine))) reads in omega (arith, none, long));
    some = ap (λ t. cond t true (has (is_beat_read q) mine)) reads;
  });
}
  where
    changed : HasNotRead q r mine ⊎ HasRead lead q r theirs mine → how_many is_beat theirs ≢ last_count r q mine
    changed (inl unread) same = (let first = reads_later c q r mine e inside own reads in let some = has_beaten c q theirs low made (omega (arith, long, first)) in let none = unread.1 in omega (arith, same, some, none))
    changed (inr read) same =
        let far = reads_apart c r q mine e inside own reads read.some in
        let parts = ap length read.whole ∙ length-append read.newer read.older in
        let steps = read.steps in
        let more = more_beaten c q read.newer read.older low (subst (AtEachStep (WasMade c q)) read.whole made) (omega (arith, far, parts, steps, long)) in
        let whole = ap (how_many is_beat) read.whole in
        let count = read.count in
        omega (arith, same, more, whole, count)

-- while r has taken no more steps than q takes in all
pub trusts : (c : Config) (lead q r most : ℕ) (past : List Event) → q < c.replicas → r < c.replicas → q ≢ r → lead ≤ 1 → IsLegalHistory c past → AtEachStep (StaysAhead lead q most r) past
    → AtEachStep (WasMade c q) (part q past) → AtEachStep (WasMade c r) (part r past) → length (part r past) ≤ most → Trusts lead q r (part q past) (part r past)
trusts c lead q r most [] low inside other short legal ahead theirs mine few = record { full = refl; read = inl (refl, refl) }
trusts c lead q r most (e ∷ past) low inside other short legal ahead theirs mine few =
    go (e.by == r) refl (e.by == q) refl (λ made own within. trusts c lead q r most past low inside other short legal.0 ahead.0 made own within) theirs mine few
  where
    own : e.by ≡ r → AtEachStep (WasMade c q) (part q past) → AtEachStep (WasMade c r) (e ∷ part r past) → length (part r past) + 1 ≤ most → Trusts lead q r (part q past) (part r past) → (t : Bool) → is_beat_read q e ≡ t → Trusts lead q r (part q past) (e ∷ part r past)
    own by made mine few was true reads =
        own_read c lead q r (part q past) (part r past) e low inside made mine reads
        (reads_beats c r q e.by e.verb e.answer past by reads legal.1.answer ∙ ap (λ n. Some n) (sym (beats_part q past)))
        ((ahead.1 by).0 (omega (arith, few, short))) was
    own by made mine few was false reads = own_step lead q r (part q past) (part r past) e reads was

    go : (s : Bool) → (e.by == r) ≡ s → (t : Bool) → (e.by == q) ≡ t
        → (AtEachStep (WasMade c q) (part q past) → AtEachStep (WasMade c r) (part r past) → length (part r past) ≤ most → Trusts lead q r (part q past) (part r past)) → AtEachStep (WasMade c q) (cond t (e ∷ part q past) (part q past)) → AtEachStep (WasMade c r) (cond s (e ∷ part r past) (part r past))
        → length (cond s (e ∷ part r past) (part r past)) ≤ most → Trusts lead q r (cond t (e ∷ part q past) (part q past)) (cond s (e ∷ part r past) (part r past))
    go true by true same ih theirs mine few = absurd (other (sym (eqb-true e.by q same) ∙ eqb-true e.by r by))
    go true by false same ih theirs mine few = own (eqb-true e.by r by) theirs mine (omega (arith, few)) (ih theirs mine.0 (omega (arith, few))) (is_beat_read q e) refl
    go false by true same ih theirs mine few = their_step lead q r (part q past) (part r past) e (ih theirs.0 mine few)
    go false by false same ih theirs mine few = ih theirs mine few
