-- Replicas that find each other's beats hold each other alive in time, whatever their scores were.
use Rattle.std.proofs.Common.{◌≡◌, ◌≢◌, ℕ, ◌+◌, ◌*◌, ◌<◌, ◌≤◌, ◌==◌, ◌&&◌, not, inl, inr, Bool, true, false, cond, Some, None, List, [], ◌∷◌, ◌++◌, length, refl, sym, ◌∙◌, ap, arith, subst, eqb-true, true≢false, append_assoc}
use Rattle.std.specs.Prelude.{if◌then◌else◌, min, nat_lt}
use Rattle.std.proofs.lemmas.Bool.{and_parts, cases_eq, eq-eqb, le-ltb, lt-ltb, ne_eqb}
use Rattle.std.proofs.lemmas.List.{length-append}
use Rattle.mu_model.specs.declared.config.Config.{Config}
use Rattle.mu_model.specs.declared.event.Answer.{Answer}
use Rattle.mu_model.specs.declared.event.Event.{Event}
use Rattle.mu_model.specs.declared.event.Verb.{Verb}
use Rattle.mu_model.specs.Answers.{answer_of}
use Rattle.mu_model.specs.Bounds.{cycle}
use Rattle.mu_model.specs.Diligence.{ReadsInTime}
use Rattle.mu_model.specs.Histories.{how_many, newer_or, newest, or_zero, part}
use Rattle.mu_model.specs.Legal.{IsLegalHistory}
use Rattle.mu_model.specs.Regions.{beats, is_beat_by}
use Rattle.mu_model.specs.Scores.{beat_read, is_failed, next_score, score, score_after_read}
use Rattle.mu_model.specs.Steps.{is_beat_read, is_beat_read_verb}
use Rattle.mu_model.proofs.Parts.{filter-append}
use Rattle.mu_agree.proofs.Legal.{legal_older}
use Rattle.mu_pace.proofs.Pasts.{cut, how_many-append}
use Rattle.mu_alive.specs.Failing.{failing_steps}
use Rattle.mu_alive.specs.Fair.{FindsBeats, HeldAliveInTime}
use Rattle.mu_alive.proofs.Beginning.{reads_before}
use Rattle.mu_alive.proofs.Cutting.{Located, located, met}
use Rattle.mu_alive.proofs.Fair.{beats_after, told}
use Rattle.mu_alive.proofs.Failing.{last_read, many_reads, own_reads, reads_own, sees_count}

-- the replicas find each other's beats at the heartbeat pace
record Finds (c : Config) (live : ℕ → Bool) (q : ℕ) (newer older : List Event) : Type 0 where
  legal : IsLegalHistory c (newer ++ older)
  reads : (r : ℕ) → r < c.replicas → live r ≡ true → ReadsInTime c r (part r (newer ++ older))
  finds : FindsBeats c live q newer

finds_before : (c : Config) (live : ℕ → Bool) (q : ℕ) (top newer older : List Event) → Finds c live q (top ++ newer) older → Finds c live q newer older
finds_before c live q top newer older on = record {
  legal = legal_older c top (newer ++ older) (subst (IsLegalHistory c) whole on.legal);
  reads = λ r low lives. reads_before c r (part r top) (part r (newer ++ older)) (subst (ReadsInTime c r) (split r) (on.reads r low lives));
  finds = λ r above between below later read lr other hr is. on.finds r (top ++ above) between below later read lr other hr (ap (λ l. top ++ l) is ∙ sym (append_assoc top above (later ∷ (between ++ read ∷ below))));
}
  where
    whole : (top ++ newer) ++ older ≡ top ++ (newer ++ older)
    whole = append_assoc top newer older

    split : (r : ℕ) → part r ((top ++ newer) ++ older) ≡ part r top ++ part r (newer ++ older)
    split r = ap (part r) whole ∙ filter-append (λ e. e.by == r) top (newer ++ older)

-- a read of a count that grew raises the score
rise_read : (c : Config) (r q by : ℕ) (verb : Verb) (answer : Answer) (past : List Event) → by ≡ r → is_beat_read_verb q verb ≡ true → answer ≡ answer_of c by past verb → last_read r q past < beats q past
    → score r q (record { by = by; verb = verb; answer = answer } ∷ past) ≡ next_score (score r q past).0 (score r q past).1 true
rise_read c r q by (Verb.ReadBeat p) answer past own reads says more =
    subst (λ y. score r q (record { by = by; verb = Verb.ReadBeat p; answer = y } ∷ past) ≡ next_score (score r q past).0 (score r q past).1 true) (sym says)
    (rw (eq-eqb by r own, reads) (ap (λ t. next_score (score r q past).0 (score r q past).1 (not t)) differs))
  where
    differs : (beats p past == last_read r q past) ≡ false
    differs = ne_eqb (beats p past) (last_read r q past) (λ same. (let here = ap (λ x. beats x past) (eqb-true p q reads) in omega (arith, same, here, more)))
rise_read c r q by verb answer past own reads says more = absurd (true≢false (sym reads))

-- another event is no read of the count
other_read : (r q by : ℕ) (verb : Verb) (answer : Answer) → (is_beat_read_verb q verb && (by == r)) ≡ false → beat_read r q by verb answer ≡ None
other_read r q by (Verb.ReadBeat p) (Answer.Number x) none = go (by == r) (p == q) none
  where
    go : (t u : Bool) → (u && t) ≡ false → cond (t && u) (Some x) None ≡ None
    go true true h = absurd (true≢false h)
    go true false h = refl
    go false u h = refl
other_read r q by verb answer none = refl

-- since the first read r has read the count of q in each round, and each read found more than the one before
record Rising (r q k : ℕ) (seen older : List Event) : Type 0 where
  later : List Event
  read : Event
  before : List Event
  is : seen ≡ later ++ read ∷ before
  own : read.by ≡ r
  reads : is_beat_read q read ≡ true
  last : last_read r q (seen ++ older) ≡ beats q (read ∷ (before ++ older))
  points : min 15 k ≤ (score r q (seen ++ older)).0
  alive : 7 ≤ k → (score r q (seen ++ older)).1 ≡ true

-- between two reads of the count there is a beat
beats_between : (c : Config) (live : ℕ → Bool) (q r : ℕ) (top later before older : List Event) (e read : Event) → Finds c live q (top ++ e ∷ (later ++ read ∷ before)) older → q < c.replicas → r < c.replicas → q ≢ r → live r ≡ true
    → e.by ≡ r → is_beat_read q e ≡ true → read.by ≡ r → is_beat_read q read ≡ true → 1 ≤ beats q later
beats_between c live q r top later before older e read on low inside other lr own reads was reads_it = elim (cases_eq (beats q later) 0) [
  | inl none ↦ absurd (on.finds r top later before e read inside other lr refl own was reads reads_it (same none))
  | inr some ↦ omega (arith, some)
]
  where
    whole : (top ++ e ∷ (later ++ read ∷ before)) ++ older ≡ top ++ e ∷ (later ++ read ∷ (before ++ older))
    whole = append_assoc top (e ∷ (later ++ read ∷ before)) older ∙ ap (λ l. top ++ e ∷ l) (append_assoc later (read ∷ before) older)

    here : IsLegalHistory c (e ∷ (later ++ read ∷ (before ++ older)))
    here = legal_older c top (e ∷ (later ++ read ∷ (before ++ older))) (subst (IsLegalHistory c) whole on.legal)

    there : IsLegalHistory c (read ∷ (before ++ older))
    there = legal_older c later (read ∷ (before ++ older)) here.0

    same : beats q later ≡ 0 → e.answer ≡ read.answer
    same none =
        told c q e.by e.verb e.answer (later ++ read ∷ (before ++ older)) reads here.1.answer
        ∙ ap (λ n. Answer.Number n) (let sum = beats_after q later (before ++ older) read reads_it in omega (arith, sum, none))
        ∙ sym (told c q read.by read.verb read.answer (before ++ older) reads_it there.1.answer)

-- one more event
rises : (c : Config) (live : ℕ → Bool) (q r k : ℕ) (top seen older : List Event) (e : Event) → Finds c live q (top ++ e ∷ seen) older → q < c.replicas → r < c.replicas → q ≢ r → live r ≡ true
    → Rising r q k seen older → (t : Bool) → (is_beat_read q e && (e.by == r)) ≡ t → Rising r q (cond t (k + 1) k) (e ∷ seen) older
rises c live q r k top seen older e on low inside other lr was true is = record {
  later = [];
  read = e;
  before = seen;
  is = refl;
  own = own;
  reads = reads;
  last = sees_count c r q e.by e.verb e.answer (seen ++ older) own reads legal.1.answer;
  points = (let up = ap (λ s. s.0) now in let p = was.points in omega (arith, up, p));
  alive = λ many. ap (λ s. s.1) now ∙ lives many;
}
  where
    parts : (is_beat_read q e ≡ true) × ((e.by == r) ≡ true)
    parts = and_parts (is_beat_read q e) (e.by == r) is

    reads : is_beat_read q e ≡ true
    reads = parts.0

    own : e.by ≡ r
    own = eqb-true e.by r parts.1

    legal : IsLegalHistory c (e ∷ (seen ++ older))
    legal = legal_older c top (e ∷ (seen ++ older)) (subst (IsLegalHistory c) (append_assoc top (e ∷ seen) older) on.legal)

    beat : 1 ≤ beats q was.later
    beat = beats_between c live q r top was.later was.before older e was.read (subst (λ l. Finds c live q (top ++ e ∷ l) older) was.is on) low inside other lr own reads was.own was.reads

    more : last_read r q (seen ++ older) < beats q (seen ++ older)
    more =
        let sum = ap (λ l. beats q (l ++ older)) was.is ∙ ap (beats q) (append_assoc was.later (was.read ∷ was.before) older) ∙ how_many-append (λ f. is_beat_by q f.by f.verb) was.later (was.read ∷ (was.before ++ older)) in
        let last = was.last in
        omega (arith, sum, last, beat)

    now : score r q (e ∷ (seen ++ older)) ≡ next_score (score r q (seen ++ older)).0 (score r q (seen ++ older)).1 true
    now = rise_read c r q e.by e.verb e.answer (seen ++ older) own reads legal.1.answer more

    high : 7 ≤ k + 1 → 7 ≤ min 15 ((score r q (seen ++ older)).0 + 1)
    high many = let p = was.points in omega (arith, many, p)

    living : (n : ℕ) (before : Bool) → 7 ≤ n → (if nat_lt n 2 then false else (if nat_lt 6 n then true else before)) ≡ true
    living n before enough = rw (le-ltb n 2 (omega (arith, enough)), lt-ltb 6 n (omega (arith, enough))) refl

    lives : 7 ≤ k + 1 → (next_score (score r q (seen ++ older)).0 (score r q (seen ++ older)).1 true).1 ≡ true
    lives many = living (min 15 ((score r q (seen ++ older)).0 + 1)) (score r q (seen ++ older)).1 (high many)
rises c live q r k top seen older e on low inside other lr was false is = record {
  later = e ∷ was.later;
  read = was.read;
  before = was.before;
  is = ap (λ l. e ∷ l) was.is;
  own = was.own;
  reads = was.reads;
  last = ap (λ o. or_zero (newer_or o (newest (λ f. beat_read r q f.by f.verb f.answer) (seen ++ older)))) unread ∙ was.last;
  points = subst (λ s. min 15 k ≤ s.0) (sym same) was.points;
  alive = λ many. ap (λ s. s.1) same ∙ was.alive many;
}
  where
    unread : beat_read r q e.by e.verb e.answer ≡ None
    unread = other_read r q e.by e.verb e.answer is

    same : score r q (e ∷ (seen ++ older)) ≡ score r q (seen ++ older)
    same = ap (λ o. score_after_read (score r q (seen ++ older)) (last_read r q (seen ++ older)) o) unread

-- so after k reads
risen : (c : Config) (live : ℕ → Bool) (q r : ℕ) (top win base older : List Event) → Finds c live q (top ++ (win ++ base)) older → q < c.replicas → r < c.replicas → q ≢ r → live r ≡ true → Rising r q 0 base older → Rising r q (how_many (reads_own r q) win) (win ++ base) older
risen c live q r top [] base older on low inside other lr was = was
risen c live q r top (e ∷ win) base older on low inside other lr was =
    rises c live q r (how_many (reads_own r q) win) top (win ++ base) older e on low inside other lr
    (risen c live q r (top ++ e ∷ []) win base older (subst (λ l. Finds c live q l older) (sym (append_assoc top (e ∷ []) (win ++ base))) on) low inside other lr was)
    (reads_own r q e) refl

-- the first read
first_read : (c : Config) (q r : ℕ) (x : Event) (base older : List Event) → IsLegalHistory c (x ∷ (base ++ older)) → x.by ≡ r → is_beat_read q x ≡ true → Rising r q 0 (x ∷ base) older
first_read c q r x base older legal own reads = record {
  later = [];
  read = x;
  before = base;
  is = refl;
  own = own;
  reads = reads;
  last = sees_count c r q x.by x.verb x.answer (base ++ older) own reads legal.1.answer;
  points = omega arith;
  alive = λ none. absurd (omega (arith, none));
}

held : (c : Config) (live : ℕ → Bool) (q r : ℕ) (newer older : List Event) → Finds c live q newer older → q < c.replicas → r < c.replicas → q ≢ r → live r ≡ true → failing_steps c ≤ length (part r newer) → is_failed r q (newer ++ older) ≡ false
held c live q r newer older on low inside other lr long = ap not alive
  where
    split : part r (newer ++ older) ≡ part r newer ++ part r older
    split = filter-append (λ e. e.by == r) newer older

    found : (x : Event) (top after : List Event) → part r newer ≡ top ++ x ∷ after → length after < cycle c → is_beat_read q x ≡ true → Located r newer x after → (score r q (newer ++ older)).1 ≡ true
    found x top after is short reads_it l =
        let whole : newer ++ older ≡ l.newer ++ (x ∷ (l.older ++ older)) = ap (λ y. y ++ older) l.is ∙ append_assoc l.newer (x ∷ l.older) older in
        let base = legal_older c l.newer (x ∷ (l.older ++ older)) (subst (IsLegalHistory c) whole on.legal) in
        let up = risen c live q r [] l.newer (x ∷ l.older) older (subst (λ y. Finds c live q y older) l.is on) low inside other lr (first_read c q r x l.older older base l.own reads_it) in
        let above : part r newer ≡ part r l.newer ++ part r (x ∷ l.older) = ap (part r) l.is ∙ filter-append (λ e. e.by == r) l.newer (x ∷ l.older) in
        let mine : part r (x ∷ l.older) ≡ x ∷ part r l.older = ap (λ t. cond t (x ∷ part r l.older) (part r l.older)) (eq-eqb x.by r l.own) in
        let sum = ap length above ∙ length-append (part r l.newer) (part r (x ∷ l.older)) in
        let one = ap length mine in
        let same = ap length l.before in
        let enough : 14 * cycle c ≤ length (part r l.newer) = omega (arith, sum, one, same, short, long) in
        let there : part r (newer ++ older) ≡ [] ++ (part r l.newer ++ (part r (x ∷ l.older) ++ part r older)) = split ∙ ap (λ y. y ++ part r older) above ∙ append_assoc (part r l.newer) (part r (x ∷ l.older)) (part r older) in
        let many = many_reads c q r 14 (part r (newer ++ older)) [] (part r l.newer) (part r (x ∷ l.older) ++ part r older) (on.reads r inside lr) there low other enough in
        let counted = own_reads r q l.newer in
        ap (λ y. (score r q (y ++ older)).1) l.is ∙ up.alive (omega (arith, many, counted))

    alive : (score r q (newer ++ older)).1 ≡ true
    alive =
        let round : cycle c ≤ length (part r newer) = omega (arith, long) in
        let bottom = cut (cycle c) (part r newer) round in
        let stretch : part r (newer ++ older) ≡ bottom.newer ++ (bottom.rest ++ part r older) = split ∙ ap (λ l. l ++ part r older) bottom.is ∙ append_assoc bottom.newer bottom.rest (part r older) in
        let read = met (is_beat_read q) bottom.rest ((on.reads r inside lr).beats q bottom.rest (part r older) low other (record { newer = bottom.newer; is = stretch }) bottom.count) in
        let is : part r newer ≡ (bottom.newer ++ read.newer) ++ read.event ∷ read.older = bottom.is ∙ ap (λ l. bottom.newer ++ l) read.is ∙ sym (append_assoc bottom.newer read.newer (read.event ∷ read.older)) in
        let count = bottom.count in
        let sum = ap length read.is ∙ length-append read.newer (read.event ∷ read.older) in
        found read.event (bottom.newer ++ read.newer) read.older is (omega (arith, count, sum)) read.passes (located r newer (bottom.newer ++ read.newer) read.older read.event is)

pub held_alive : HeldAliveInTime
held_alive c live q newer older low legal reads finds r latest before inside other lr is long =
    held c live q r before older (finds_before c live q latest before older (subst (λ l. Finds c live q l older) is (record { legal = legal; reads = reads; finds = finds }))) low inside other lr long
