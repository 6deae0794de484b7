-- What replicas that keep step, or take a step in any few of another, find of beats, and how they keep up.
use Rattle.std.proofs.Common.{◌≡◌, ◌≢◌, ℕ, ◌+◌, ◌*◌, ◌<◌, ◌≤◌, ◌==◌, Bool, true, false, cond, List, [], ◌∷◌, ◌++◌, length, refl, sym, ◌∙◌, ap, arith, subst, eqb-true, true≢false, append_assoc}
use Rattle.std.proofs.lemmas.Bool.{eq-eqb, ne_eqb}
use Rattle.std.proofs.lemmas.List.{length-append}
use Rattle.mu_model.specs.declared.config.Config.{Config}
use Rattle.mu_model.specs.declared.event.Answer.{Answer}
use Rattle.mu_model.specs.declared.event.Event.{Event}
use Rattle.mu_model.specs.declared.event.Verb.{Verb}
use Rattle.mu_model.specs.Answers.{answer_of}
use Rattle.mu_model.specs.Bounds.{cycle}
use Rattle.mu_model.specs.Diligence.{ReadsInTime}
use Rattle.mu_model.specs.Histories.{has, part}
use Rattle.mu_model.specs.Legal.{IsLegalHistory}
use Rattle.mu_model.specs.Regions.{beats, is_beat_by}
use Rattle.mu_model.specs.Steps.{is_beat, is_beat_read, is_beat_read_verb, is_beat_verb}
use Rattle.mu_model.proofs.Parts.{filter-append}
use Rattle.mu_agree.proofs.Legal.{legal_older}
use Rattle.mu_pace.proofs.Pasts.{cut, has_later, how_many-append, some_counted}
use Rattle.mu_alive.specs.Fair.{EvenOnesKeepUp, FastOnesAreFound, KeepsPace}
use Rattle.mu_alive.proofs.Cutting.{there_in_part}

-- a read of the count is answered by it
pub told : (c : Config) (q by : ℕ) (verb : Verb) (answer : Answer) (past : List Event) → is_beat_read_verb q verb ≡ true → answer ≡ answer_of c by past verb → answer ≡ Answer.Number (beats q past)
told c q by (Verb.ReadBeat p) answer past reads says = says ∙ ap (λ x. Answer.Number (beats x past)) (eqb-true p q reads)
told c q by verb answer past reads says = absurd (true≢false (sym reads))

-- and is no beat
no_beat : (q by : ℕ) (verb : Verb) → is_beat_read_verb q verb ≡ true → is_beat_by q by verb ≡ false
no_beat q by (Verb.ReadBeat p) reads = refl
no_beat q by verb reads = absurd (true≢false (sym reads))

-- the count after a read of it
pub beats_after : (q : ℕ) (between past : List Event) (read : Event) → is_beat_read q read ≡ true → beats q (between ++ read ∷ past) ≡ beats q between + beats q past
beats_after q between past read reads = how_many-append (λ f. is_beat_by q f.by f.verb) between (read ∷ past) ∙ ap (λ t. beats q between + cond t (beats q past + 1) (beats q past)) (no_beat q read.by read.verb reads)

-- a beat in a part is one that is counted
own_beats : (q : ℕ) (events : List Event) → has is_beat (part q events) ≡ true → 1 ≤ beats q events
own_beats q events some = some_counted (λ e. is_beat_by q e.by e.verb) events (there_in_part is_beat (λ e. is_beat_by q e.by e.verb) q (λ e own beat. by_q e.by e.verb own beat) events some)
  where
    by_q : (by : ℕ) (verb : Verb) → by ≡ q → is_beat_verb verb ≡ true → is_beat_by q by verb ≡ true
    by_q by Verb.Beat own beat = eq-eqb by q own
    by_q by verb own beat = absurd (true≢false (sym beat))

-- between two reads of the count of one that keeps pace there is a beat
even_between : (c : Config) (live : ℕ → Bool) (q r : ℕ) (top later before older : List Event) (e read : Event) → ((p : ℕ) → p < c.replicas → live p ≡ true → ReadsInTime c p (part p ((top ++ e ∷ (later ++ read ∷ before)) ++ older))) → KeepsPace c live q (top ++ e ∷ (later ++ read ∷ before)) → q < c.replicas → r < c.replicas → q ≢ r → live q ≡ true → live r ≡ true
    → e.by ≡ r → is_beat_read q e ≡ true → read.by ≡ r → is_beat_read q read ≡ true → 1 ≤ beats q later
even_between c live q r top later before older e read reads_all even low inside other lq lr own reads was reads_it = own_beats q later beaten
  where
    now : List Event
    now = top ++ e ∷ (later ++ read ∷ before)

    split : (p : ℕ) → part p (now ++ older) ≡ part p (top ++ e ∷ []) ++ (part p later ++ (part p (read ∷ before) ++ part p older))
    split p =
        ap (part p) (append_assoc top (e ∷ (later ++ read ∷ before)) older ∙ ap (λ l. top ++ e ∷ l) (append_assoc later (read ∷ before) older) ∙ sym (append_assoc top (e ∷ []) (later ++ ((read ∷ before) ++ older))))
        ∙ filter-append (λ f. f.by == p) (top ++ e ∷ []) (later ++ ((read ∷ before) ++ older))
        ∙ ap (λ l. part p (top ++ e ∷ []) ++ l) (filter-append (λ f. f.by == p) later ((read ∷ before) ++ older) ∙ ap (λ l. part p later ++ l) (filter-append (λ f. f.by == p) (read ∷ before) older))

    mine : (xs : List Event) (f : Event) → f.by ≡ r → part r (f ∷ xs) ≡ f ∷ part r xs
    mine xs f h = ap (λ t. cond t (f ∷ part r xs) (part r xs)) (eq-eqb f.by r h)

    apart : 4 * c.replicas + 43 ≤ length (part r later)
    apart =
        (reads_all r inside lr).apart q e read (part r later) (part r before ++ part r older)
        (record { newer = part r top; is = split r ∙ ap (λ l. l ++ (part r later ++ (part r (read ∷ before) ++ part r older))) (filter-append (λ f. f.by == r) top (e ∷ []) ∙ ap (λ l. part r top ++ l) (mine [] e own)) ∙ append_assoc (part r top) (e ∷ []) (part r later ++ (part r (read ∷ before) ++ part r older)) ∙ ap (λ l. part r top ++ e ∷ (part r later ++ (l ++ part r older))) (mine before read was) ∙ ap (λ l. part r top ++ e ∷ l) (sym (append_assoc (part r later) (read ∷ []) (part r before ++ part r older))) })
        reads reads_it

    step : length (part r (e ∷ (later ++ read ∷ []))) ≤ length (part q (e ∷ (later ++ read ∷ []))) + 1
    step = even r top (e ∷ (later ++ read ∷ [])) before inside lr (ap (λ l. top ++ e ∷ l) (sym (append_assoc later (read ∷ []) before)))

    own_steps : length (part r (e ∷ (later ++ read ∷ []))) ≡ length (part r later) + 2
    own_steps =
        let one = ap length (mine (later ++ read ∷ []) e own) in
        let sum = ap length (filter-append (λ f. f.by == r) later (read ∷ [])) ∙ length-append (part r later) (part r (read ∷ [])) in
        let last = ap length (mine [] read was) in
        omega (arith, one, sum, last)

    not_mine : (xs : List Event) (f : Event) → f.by ≡ r → part q (f ∷ xs) ≡ part q xs
    not_mine xs f h = ap (λ t. cond t (f ∷ part q xs) (part q xs)) (ne_eqb f.by q (λ same. other (sym same ∙ h)))

    others : length (part q (e ∷ (later ++ read ∷ []))) ≡ length (part q later)
    others =
        let one = ap length (not_mine (later ++ read ∷ []) e own) in
        let sum = ap length (filter-append (λ f. f.by == q) later (read ∷ [])) ∙ length-append (part q later) (part q (read ∷ [])) in
        let last = ap length (not_mine [] read was) in
        omega (arith, one, sum, last)

    round : cycle c ≤ length (part q later)
    round = omega (arith, apart, step, own_steps, others)

    beaten : has is_beat (part q later) ≡ true
    beaten =
        let bottom = cut (cycle c) (part q later) round in
        let there : part q (now ++ older) ≡ (part q (top ++ e ∷ []) ++ bottom.newer) ++ (bottom.rest ++ (part q (read ∷ before) ++ part q older)) =
        split q ∙ ap (λ l. part q (top ++ e ∷ []) ++ (l ++ (part q (read ∷ before) ++ part q older))) bottom.is ∙ ap (λ l. part q (top ++ e ∷ []) ++ l) (append_assoc bottom.newer bottom.rest (part q (read ∷ before) ++ part q older)) ∙ sym (append_assoc (part q (top ++ e ∷ [])) bottom.newer (bottom.rest ++ (part q (read ∷ before) ++ part q older))) in
        let one = (reads_all q low lq).beat bottom.rest (part q (read ∷ before) ++ part q older) (record { newer = part q (top ++ e ∷ []) ++ bottom.newer; is = there }) bottom.count in
        ap (has is_beat) bottom.is ∙ has_later is_beat bottom.newer bottom.rest one

-- so the two have different answers
pub fast_found : FastOnesAreFound
fast_found c live q newer older low lq legal reads_all even r top between before e read inside other lr is own was reads reads_it same =
    let beat = even_between c live q r top between before older e read (λ p p_low lp. subst (λ l. ReadsInTime c p (part p (l ++ older))) is (reads_all p p_low lp)) (subst (KeepsPace c live q) is even) low inside other lq lr own reads was reads_it in
    let sum = beats_after q between (before ++ older) read reads_it in
    let one = told c q e.by e.verb e.answer (between ++ read ∷ (before ++ older)) reads here.1.answer in
    let two = told c q read.by read.verb read.answer (before ++ older) reads_it there.1.answer in
    let equal = numbers (beats q (between ++ read ∷ (before ++ older))) (beats q (before ++ older)) (sym one ∙ same ∙ two) in
    omega (arith, beat, sum, equal)
  where
    whole : newer ++ older ≡ top ++ e ∷ (between ++ read ∷ (before ++ older))
    whole = ap (λ l. l ++ older) is ∙ append_assoc top (e ∷ (between ++ read ∷ before)) older ∙ ap (λ l. top ++ e ∷ l) (append_assoc between (read ∷ before) older)

    here : IsLegalHistory c (e ∷ (between ++ read ∷ (before ++ older)))
    here = legal_older c top (e ∷ (between ++ read ∷ (before ++ older))) (subst (IsLegalHistory c) whole legal)

    there : IsLegalHistory c (read ∷ (before ++ older))
    there = legal_older c between (read ∷ (before ++ older)) here.0

    numbers : (x y : ℕ) → Answer.Number x ≡ Answer.Number y → x ≡ y
    numbers x y is = let k = is in cc

pub even_keep : EvenOnesKeepUp
even_keep c live a events inside lives even q k newer window older low lq is long = let near = even q low lq a newer window older inside lives is in omega (arith, near, long)
