-- A replica that makes no more events is held failed in time.
use Rattle.std.proofs.Common.{◌≡◌, ◌≢◌, ℕ, zero, suc, ◌+◌, ◌-◌, ◌*◌, ◌<◌, ◌≤◌, ◌==◌, ◌&&◌, not, Bool, true, false, cond, Some, None, List, [], ◌∷◌, ◌++◌, length, refl, sym, ◌∙◌, ap, arith, subst, eqb-true, true≢false, append_assoc}
use Rattle.std.specs.declared.option.Option.{Option}
use Rattle.std.proofs.lemmas.Bool.{eq-eqb, lt-ltb}
use Rattle.std.proofs.lemmas.List.{length-append}
use Rattle.mu_model.specs.declared.config.Config.{Config}
use Rattle.mu_model.specs.declared.event.Answer.{Answer}
use Rattle.mu_model.specs.declared.event.Event.{Event}
use Rattle.mu_model.specs.declared.event.Verb.{Verb}
use Rattle.mu_model.specs.Answers.{answer_of}
use Rattle.mu_model.specs.Bounds.{cycle}
use Rattle.mu_model.specs.Diligence.{ReadsInTime}
use Rattle.mu_model.specs.Histories.{how_many, newer_or, newest, or_zero, part}
use Rattle.mu_model.specs.Legal.{IsLegalHistory}
use Rattle.mu_model.specs.Regions.{beats, is_beat_by}
use Rattle.mu_model.specs.Scores.{alive_after, beat_read, points_after, score, score_after_read}
use Rattle.mu_model.specs.Steps.{is_beat_read, is_beat_read_verb}
use Rattle.mu_model.proofs.Parts.{filter-append}
use Rattle.mu_agree.proofs.Legal.{legal_older}
use Rattle.mu_alive.specs.Failing.{HeldFailedInTime}
use Rattle.mu_alive.proofs.Cutting.{Located, located, met}
use Rattle.mu_pace.proofs.Pasts.{how_many-append, some_counted, cut}

-- the count of q that r read last, 0 before any
abbrev pub last_read : ℕ → ℕ → List Event → ℕ
last_read r q past = or_zero (newest (λ e. beat_read r q e.by e.verb e.answer) past)

-- who makes no event in some events makes none in all but the newest of them
fewer : (q : ℕ) (e : Event) (newer : List Event) → length (part q (e ∷ newer)) ≡ 0 → length (part q newer) ≡ 0
fewer q e newer none = go (e.by == q) none
  where
    go : (t : Bool) → length (cond t (e ∷ part q newer) (part q newer)) ≡ 0 → length (part q newer) ≡ 0
    go true none = absurd (omega (arith, none))
    go false none = none

-- if q makes no event its count stays
pub quiet_beats : (q : ℕ) (newer older : List Event) → length (part q newer) ≡ 0 → beats q (newer ++ older) ≡ beats q older
quiet_beats q [] older none = refl
quiet_beats q (e ∷ newer) older none = go (e.by == q) refl none (quiet_beats q newer older)
  where
    other : (by : ℕ) (verb : Verb) → (by == q) ≡ false → is_beat_by q by verb ≡ false
    other by Verb.Beat h = h
    other by verb h = refl

    go : (t : Bool) → (e.by == q) ≡ t → length (cond t (e ∷ part q newer) (part q newer)) ≡ 0 → (length (part q newer) ≡ 0 → beats q (newer ++ older) ≡ beats q older) → cond (is_beat_by q e.by e.verb) (beats q (newer ++ older) + 1) (beats q (newer ++ older)) ≡ beats q older
    go true is none ih = absurd (omega (arith, none))
    go false is none ih = ap (λ t. cond t (beats q (newer ++ older) + 1) (beats q (newer ++ older))) (other e.by e.verb is) ∙ ih none

-- and so does what was read of it
pub quiet_last : (c : Config) (r q : ℕ) (newer older : List Event) → IsLegalHistory c (newer ++ older) → length (part q newer) ≡ 0 → last_read r q older ≡ beats q older → last_read r q (newer ++ older) ≡ beats q older
quiet_last c r q [] older legal none seen = seen
quiet_last c r q (e ∷ newer) older legal none seen =
    ap (λ o. or_zero (newer_or o (newest (λ f. beat_read r q f.by f.verb f.answer) (newer ++ older)))) (ap (beat_read r q e.by e.verb) legal.1.answer)
    ∙ read e.by e.verb (quiet_last c r q newer older legal.0 (fewer q e newer none) seen)
  where
    read : (by : ℕ) (verb : Verb) → last_read r q (newer ++ older) ≡ beats q older → or_zero (newer_or (beat_read r q by verb (answer_of c by (newer ++ older) verb)) (newest (λ f. beat_read r q f.by f.verb f.answer) (newer ++ older))) ≡ beats q older
    read by (Verb.ReadBeat p) ih = go (by == r) (p == q) refl
      where
        go : (t u : Bool) → (p == q) ≡ u → or_zero (newer_or (cond (t && u) (Some (beats p (newer ++ older))) None) (newest (λ f. beat_read r q f.by f.verb f.answer) (newer ++ older))) ≡ beats q older
        go true true hu = ap (λ x. beats x (newer ++ older)) (eqb-true p q hu) ∙ quiet_beats q newer older (fewer q e newer none)
        go true false hu = ih
        go false u hu = ih
    read by verb ih = ih

pub beat_verb : (q : ℕ) (verb : Verb) → is_beat_read_verb q verb ≡ true → verb ≡ Verb.ReadBeat q
beat_verb q (Verb.ReadBeat p) h = ap (λ x. Verb.ReadBeat x) (eqb-true p q h)
beat_verb q verb h = absurd (true≢false (sym h))

-- a read of the count tells it
pub sees_count : (c : Config) (r q by : ℕ) (verb : Verb) (answer : Answer) (past : List Event) → by ≡ r → is_beat_read_verb q verb ≡ true → answer ≡ answer_of c by past verb → last_read r q (record { by = by; verb = verb; answer = answer } ∷ past) ≡ beats q (record { by = by; verb = verb; answer = answer } ∷ past)
sees_count c r q by (Verb.ReadBeat p) answer past own reads says =
    subst (λ y. last_read r q (record { by = by; verb = Verb.ReadBeat p; answer = y } ∷ past) ≡ beats q past) (sym says) (rw (eq-eqb by r own, reads) (ap (λ x. beats x past) (eqb-true p q reads)))
sees_count c r q by verb answer past own reads says = absurd (true≢false (sym reads))

-- a score is at most 15, and one below 2 is failed
points_most : (r q : ℕ) (past : List Event) → (score r q past).0 ≤ 15
points_most r q [] = omega arith
points_most r q (e ∷ past) = go (beat_read r q e.by e.verb e.answer) (points_most r q past)
  where
    few : (n : ℕ) (t : Bool) → n ≤ 15 → points_after n t ≤ 15
    few n true most = omega arith
    few n false most = omega (arith, most)

    go : (o : Option ℕ) → (score r q past).0 ≤ 15 → (score_after_read (score r q past) (last_read r q past) o).0 ≤ 15
    go None most = most
    go (Some x) most = few (score r q past).0 (not (x == last_read r q past)) most

points_failed : (r q : ℕ) (past : List Event) → (score r q past).0 < 2 → (score r q past).1 ≡ false
points_failed r q [] low = absurd (omega (arith, low))
points_failed r q (e ∷ past) low = go (beat_read r q e.by e.verb e.answer) low (points_failed r q past)
  where
    dead : (n : ℕ) (was : Bool) → n < 2 → alive_after n was ≡ false
    dead n was low = rw (lt-ltb n 2 low) refl

    go : (o : Option ℕ) → (score_after_read (score r q past) (last_read r q past) o).0 < 2 → ((score r q past).0 < 2 → (score r q past).1 ≡ false) → (score_after_read (score r q past) (last_read r q past) o).1 ≡ false
    go None low ih = ih low
    go (Some x) low ih = dead (points_after (score r q past).0 (not (x == last_read r q past))) (score r q past).1 low

-- the event is a read of the count of q by r
abbrev pub reads_own : ℕ → ℕ → Event → Bool
reads_own r q e = is_beat_read q e && (e.by == r)

pub own_reads : (r q : ℕ) (past : List Event) → how_many (reads_own r q) past ≡ how_many (is_beat_read q) (part r past)
own_reads r q [] = refl
own_reads r q (e ∷ past) = go (is_beat_read q e) refl (e.by == r) (own_reads r q past)
  where
    go : (t : Bool) → is_beat_read q e ≡ t → (u : Bool) → how_many (reads_own r q) past ≡ how_many (is_beat_read q) (part r past) → cond (t && u) (how_many (reads_own r q) past + 1) (how_many (reads_own r q) past) ≡ how_many (is_beat_read q) (cond u (e ∷ part r past) (part r past))
    go true ht true ih = ap (λ n. n + 1) ih ∙ sym (ap (λ t. cond t (how_many (is_beat_read q) (part r past) + 1) (how_many (is_beat_read q) (part r past))) ht)
    go false ht true ih = ih ∙ sym (ap (λ t. cond t (how_many (is_beat_read q) (part r past) + 1) (how_many (is_beat_read q) (part r past))) ht)
    go true ht false ih = ih
    go false ht false ih = ih

-- with each read of a count that stays the score falls by one
fall_step : (c : Config) (r q by : ℕ) (verb : Verb) (past : List Event) → last_read r q past ≡ beats q past → (score_after_read (score r q past) (last_read r q past) (beat_read r q by verb (answer_of c by past verb))).0 ≤ (score r q past).0 - cond (is_beat_read_verb q verb && (by == r)) 1 0
fall_step c r q by (Verb.ReadBeat p) past last = go (by == r) (p == q) refl
  where
    go : (t u : Bool) → (p == q) ≡ u → (score_after_read (score r q past) (last_read r q past) (cond (t && u) (Some (beats p past)) None)).0 ≤ (score r q past).0 - cond (u && t) 1 0
    go true true hu =
        let same : (beats p past == last_read r q past) ≡ true = eq-eqb (beats p past) (last_read r q past) (ap (λ x. beats x past) (eqb-true p q hu) ∙ sym last) in
        let is = ap (λ t. points_after (score r q past).0 (not t)) same in
        omega (arith, is)
    go true false hu = omega arith
    go false true hu = omega arith
    go false false hu = omega arith
fall_step c r q by verb past last = omega arith

score_falls : (c : Config) (r q : ℕ) (newer older : List Event) → IsLegalHistory c (newer ++ older) → length (part q newer) ≡ 0 → last_read r q older ≡ beats q older → (score r q (newer ++ older)).0 ≤ (score r q older).0 - how_many (reads_own r q) newer
score_falls c r q [] older legal none seen = omega arith
score_falls c r q (e ∷ newer) older legal none seen =
    let quiet = fewer q e newer none in
    let last = quiet_last c r q newer older legal.0 quiet seen ∙ sym (quiet_beats q newer older quiet) in
    let step = fall_step c r q e.by e.verb (newer ++ older) last in
    let is = ap (λ a. (score_after_read (score r q (newer ++ older)) (last_read r q (newer ++ older)) (beat_read r q e.by e.verb a)).0) legal.1.answer in
    let ih = score_falls c r q newer older legal.0 quiet seen in
    let count = counted (reads_own r q e) (how_many (reads_own r q) newer) in
    omega (arith, step, is, ih, count)
  where
    counted : (t : Bool) (n : ℕ) → cond t (n + 1) n ≡ n + cond t 1 0
    counted true n = refl
    counted false n = omega arith

pub many_reads : (c : Config) (q r k : ℕ) (mine top window older : List Event) → ReadsInTime c r mine → mine ≡ top ++ (window ++ older) → q < c.replicas → q ≢ r → k * cycle c ≤ length window → k ≤ how_many (is_beat_read q) window
many_reads c q r zero mine top window older reads is low other long = omega arith
many_reads c q r (suc k) mine top window older reads is low other long =
    let next : suc k * cycle c ≡ k * cycle c + cycle c = omega arith in
    let under = cut (k * cycle c) window (omega (arith, next, long)) in
    let count = under.count in
    let sum = ap length under.is ∙ length-append under.newer under.rest in
    let round = cut (cycle c) under.newer (omega (arith, next, long, count, sum)) in
    let lower : mine ≡ (top ++ under.newer) ++ (under.rest ++ older) = is ∙ ap (λ l. top ++ (l ++ older)) under.is ∙ ap (λ l. top ++ l) (append_assoc under.newer under.rest older) ∙ sym (append_assoc top under.newer (under.rest ++ older)) in
    let upper : mine ≡ (top ++ round.newer) ++ (round.rest ++ (under.rest ++ older)) =
    lower ∙ ap (λ l. (top ++ l) ++ (under.rest ++ older)) round.is ∙ ap (λ l. l ++ (under.rest ++ older)) (sym (append_assoc top round.newer round.rest)) ∙ append_assoc (top ++ round.newer) round.rest (under.rest ++ older) in
    let one = some_counted (is_beat_read q) round.rest (reads.beats q round.rest (under.rest ++ older) low other (record { newer = top ++ round.newer; is = upper }) round.count) in
    let ih = many_reads c q r k mine (top ++ under.newer) under.rest older reads lower low other (omega (arith, count)) in
    let all = ap (how_many (is_beat_read q)) under.is ∙ how_many-append (is_beat_read q) under.newer under.rest in
    let here = ap (how_many (is_beat_read q)) round.is ∙ how_many-append (is_beat_read q) round.newer round.rest in
    omega (arith, one, ih, all, here)

pub held_failed : HeldFailedInTime
held_failed c q r newer older low other legal none reads long = ap not (points_failed r q (newer ++ older) few)
  where
    split : part r (newer ++ older) ≡ part r newer ++ part r older
    split = filter-append (λ e. e.by == r) newer older

    found : (x : Event) (top after : List Event) → part r newer ≡ top ++ x ∷ after → length after < cycle c → is_beat_read q x ≡ true → Located r newer x after → (score r q (newer ++ older)).0 < 2
    found x top after is short reads_it l =
        let whole : newer ++ older ≡ l.newer ++ (x ∷ (l.older ++ older)) = ap (λ y. y ++ older) l.is ∙ append_assoc l.newer (x ∷ l.older) older in
        let base = legal_older c l.newer (x ∷ (l.older ++ older)) (subst (IsLegalHistory c) whole legal) in
        let seen = sees_count c r q x.by x.verb x.answer (l.older ++ older) l.own reads_it base.1.answer in
        let mute = ap length none in
        let parts = ap (λ y. length (part q y)) l.is ∙ ap length (filter-append (λ e. e.by == q) l.newer (x ∷ l.older)) ∙ length-append (part q l.newer) (part q (x ∷ l.older)) in
        let falls = score_falls c r q l.newer (x ∷ (l.older ++ older)) (subst (IsLegalHistory c) whole legal) (omega (arith, mute, parts)) seen in
        let above : part r newer ≡ part r l.newer ++ part r (x ∷ l.older) = ap (part r) l.is ∙ filter-append (λ e. e.by == r) l.newer (x ∷ l.older) in
        let mine : part r (x ∷ l.older) ≡ x ∷ part r l.older = ap (λ t. cond t (x ∷ part r l.older) (part r l.older)) (eq-eqb x.by r l.own) in
        let sum = ap length above ∙ length-append (part r l.newer) (part r (x ∷ l.older)) in
        let one = ap length mine in
        let same = ap length l.before in
        let enough : 14 * cycle c ≤ length (part r l.newer) = omega (arith, sum, one, same, short, long) in
        let there : part r (newer ++ older) ≡ [] ++ (part r l.newer ++ (part r (x ∷ l.older) ++ part r older)) = split ∙ ap (λ y. y ++ part r older) above ∙ append_assoc (part r l.newer) (part r (x ∷ l.older)) (part r older) in
        let many = many_reads c q r 14 (part r (newer ++ older)) [] (part r l.newer) (part r (x ∷ l.older) ++ part r older) reads there low other enough in
        let counted = own_reads r q l.newer in
        let most = points_most r q (x ∷ (l.older ++ older)) in
        let now = ap (λ y. (score r q y).0) whole in
        omega (arith, falls, many, counted, most, now)

    few : (score r q (newer ++ older)).0 < 2
    few =
        let round : cycle c ≤ length (part r newer) = omega (arith, long) in
        let bottom = cut (cycle c) (part r newer) round in
        let stretch : part r (newer ++ older) ≡ bottom.newer ++ (bottom.rest ++ part r older) = split ∙ ap (λ l. l ++ part r older) bottom.is ∙ append_assoc bottom.newer bottom.rest (part r older) in
        let read = met (is_beat_read q) bottom.rest (reads.beats q bottom.rest (part r older) low other (record { newer = bottom.newer; is = stretch }) bottom.count) in
        let is : part r newer ≡ (bottom.newer ++ read.newer) ++ read.event ∷ read.older = bottom.is ∙ ap (λ l. bottom.newer ++ l) read.is ∙ sym (append_assoc bottom.newer read.newer (read.event ∷ read.older)) in
        let count = bottom.count in
        let sum = ap length read.is ∙ length-append read.newer (read.event ∷ read.older) in
        found read.event (bottom.newer ++ read.newer) read.older is (omega (arith, count, sum)) read.passes (located r newer (bottom.newer ++ read.newer) read.older read.event is)
