-- Replicas that hold each other alive name the least of them, and only that one asks.
use Rattle.std.proofs.Common.{◌≡◌, ◌≢◌, ℕ, ◌<◌, ◌≤◌, ◌==◌, ◌||◌, not, inl, inr, Bool, true, false, cond, None, List, [], ◌∷◌, ◌++◌, length, refl, sym, ◌∙◌, ap, arith, subst, eqb-true, true≢false, append_assoc}
use Rattle.std.proofs.lemmas.Bool.{cases_eq, eq-eqb, ne_eqb}
use Rattle.std.proofs.lemmas.List.{length-append}
use Rattle.mu_model.specs.declared.config.Config.{Config}
use Rattle.mu_model.specs.declared.event.Answer.{Answer}
use Rattle.mu_model.specs.declared.event.Event.{Event}
use Rattle.mu_model.specs.declared.event.Verb.{Verb}
use Rattle.mu_model.specs.Diligence.{AsksWithCauseBy, GrantsInTime, ReadsInTime}
use Rattle.mu_model.specs.Histories.{newest, or_zero, part}
use Rattle.mu_model.specs.Legal.{IsLegalHistory}
use Rattle.mu_model.specs.Scores.{beat_read, is_failed, leader, score, score_after_read}
use Rattle.mu_model.specs.Steps.{is_asking_verb}
use Rattle.mu_model.proofs.Basics.{same_number}
use Rattle.mu_model.proofs.Least.{least_found, least_none}
use Rattle.mu_model.proofs.Owned.{IsOwn, newest-part}
use Rattle.mu_model.proofs.Parts.{filter-append}
use Rattle.mu_agree.proofs.Legal.{legal_older}
use Rattle.mu_agree.specs.Moments.{AtEachStep}
use Rattle.mu_pace.proofs.Counting.{steps_before}
use Rattle.mu_alive.specs.Failing.{failing_steps}
use Rattle.mu_alive.specs.Settling.{KeepGoing, LeastIsNamed, OnlyLeastAsks, ReadsOpen}
use Rattle.mu_alive.proofs.Beginning.{grants_before, reads_before}
use Rattle.mu_alive.proofs.Failing.{held_failed}
use Rattle.mu_alive.proofs.Cutting.{longer}

-- what holds of more events held of fewer
pub causes_before : (again : Bool) (c : Config) (r : ℕ) (newer older : List Event) → AsksWithCauseBy again c r (newer ++ older) → AsksWithCauseBy again c r older
causes_before again c r newer older held = record {
  named = λ p e o s. held.named p e o (longer newer older (e ∷ []) o s);
  anew = λ e o s. held.anew e o (longer newer older (e ∷ []) o s);
}

none_of : (r : ℕ) (top newer : List Event) → part r (top ++ newer) ≡ [] → part r newer ≡ []
none_of r top newer none = empty (part r top) (part r newer) (sym (filter-append (λ e. e.by == r) top newer) ∙ none)
  where
    empty : (xs ys : List Event) → xs ++ ys ≡ [] → ys ≡ []
    empty [] ys is = is
    empty (x ∷ xs) ys is = cc

pub goes_on_before : (c : Config) (live : ℕ → Bool) (a : ℕ) (top newer older : List Event) → KeepGoing c live a (top ++ newer) older → KeepGoing c live a newer older
goes_on_before c live a top newer older on = record {
  inside = on.inside;
  lives = on.lives;
  least = on.least;
  majority = on.majority;
  legal = legal_older c top (newer ++ older) (subst (IsLegalHistory c) whole on.legal);
  alive = λ r latest before lr other hr is long. on.alive r (top ++ latest) before lr other hr (ap (λ l. top ++ l) is ∙ sym (append_assoc top latest before)) long;
  quiet = λ r low gone. none_of r top newer (on.quiet r low gone);
  reads = λ r low lives. reads_before c r (part r top) (part r (newer ++ older)) (subst (ReadsInTime c r) (split r) (on.reads r low lives));
  grants = λ r low lives. grants_before c r (part r top) (part r (newer ++ older)) (subst (GrantsInTime c r) (split r) (on.grants r low lives));
  causes = λ r low lives. causes_before true c r (part r top) (part r (newer ++ older)) (subst (AsksWithCauseBy true c r) (split r) (on.causes r low lives));
  resting = steps_before ReadsOpen top (newer ++ older) (subst (AtEachStep ReadsOpen) whole on.resting);
}
  where
    whole : (top ++ newer) ++ older ≡ top ++ (newer ++ older)
    whole = append_assoc top newer older

    split : (r : ℕ) → part r ((top ++ newer) ++ older) ≡ part r top ++ part r (newer ++ older)
    split r = ap (part r) whole ∙ filter-append (λ e. e.by == r) top (newer ++ older)

-- a score is the same of the part
beat_read-own : (r q : ℕ) → IsOwn r (λ e. beat_read r q e.by e.verb e.answer)
beat_read-own r q = record { own = λ e h. go e.by e.verb e.answer h }
  where
    go : (by : ℕ) (v : Verb) (a : Answer) → (by == r) ≡ false → beat_read r q by v a ≡ None
    go by (Verb.ReadBeat p) (Answer.Number x) h = rw h refl
    go by v a h = refl

pub score-part : (r q : ℕ) (past : List Event) → score r q (part r past) ≡ score r q past
score-part r q [] = refl
score-part r q (e ∷ past) = go (e.by == r) refl (score-part r q past)
  where
    last : newest (λ f. beat_read r q f.by f.verb f.answer) (part r past) ≡ newest (λ f. beat_read r q f.by f.verb f.answer) past
    last = newest-part (λ f. beat_read r q f.by f.verb f.answer) r (beat_read-own r q) past

    go : (t : Bool) → (e.by == r) ≡ t → score r q (part r past) ≡ score r q past → score r q (cond t (e ∷ part r past) (part r past)) ≡ score r q (e ∷ past)
    go true own ih =
        ap (λ s. score_after_read s (or_zero (newest (λ f. beat_read r q f.by f.verb f.answer) (part r past))) (beat_read r q e.by e.verb e.answer)) ih
        ∙ ap (λ o. score_after_read (score r q past) (or_zero o) (beat_read r q e.by e.verb e.answer)) last
    go false other ih = ih ∙ sym (ap (λ o. score_after_read (score r q past) (or_zero (newest (λ f. beat_read r q f.by f.verb f.answer) past)) o) ((beat_read-own r q).own e other))

pub least_named : LeastIsNamed
least_named c live a r newer older on low lives long =
    let named : ℕ → Bool = λ q. (q == r) || not (is_failed r q (part r (newer ++ older))) in
    least_found named c.replicas a (least_none a named lower) own on.inside
  where
    of_part : (q : ℕ) → is_failed r q (part r (newer ++ older)) ≡ is_failed r q (newer ++ older)
    of_part q = ap (λ s. not s.1) (score-part r q (newer ++ older))

    differ : (q : ℕ) → q < a → q ≢ r
    differ q below same = true≢false (sym lives ∙ ap live (sym same) ∙ on.least q below)

    gone : (q : ℕ) → q < a → q < c.replicas
    gone q below = let l = on.inside in omega (arith, l, below)

    none_or : (t u : Bool) → t ≡ false → u ≡ true → (t || not u) ≡ false
    none_or t u ht hu = rw (ht, hu) refl

    lower : (q : ℕ) → q < a → ((q == r) || not (is_failed r q (part r (newer ++ older)))) ≡ false
    lower q below =
        none_or (q == r) (is_failed r q (part r (newer ++ older))) (ne_eqb q r (differ q below))
        (of_part q ∙ held_failed c q r newer older (gone q below) (differ q below) on.legal (on.quiet q (gone q below) (on.least q below)) (on.reads r low lives) long)

    either : (t u : Bool) → u ≡ false → (t || not u) ≡ true
    either true u hu = refl
    either false u hu = rw hu refl

    own : ((a == r) || not (is_failed r a (part r (newer ++ older)))) ≡ true
    own = elim (cases_eq a r) [
      | inl same ↦ ap (λ t. t || not (is_failed r a (part r (newer ++ older)))) (eq-eqb a r same)
      | inr other ↦ either (a == r) (is_failed r a (part r (newer ++ older))) (of_part a ∙ on.alive r [] newer low other lives refl long)
    ]

pub least_asks : OnlyLeastAsks
least_asks c live a [] newer older on taken = tt
least_asks c live a (e ∷ later) newer older on taken = (least_asks c live a later newer older before taken, λ p is. asker p is)
  where
    before : KeepGoing c live a (later ++ newer) older
    before = goes_on_before c live a (e ∷ []) (later ++ newer) older on

    here : part e.by (e ∷ (later ++ newer)) ≡ e ∷ part e.by (later ++ newer)
    here = ap (λ t. cond t (e ∷ part e.by (later ++ newer)) (part e.by (later ++ newer))) (same_number e.by)

    inside : e.by < c.replicas
    inside = on.legal.1.allowed.replica

    goes : (t : Bool) → live e.by ≡ t → live e.by ≡ true
    goes true is = is
    goes false is = absurd (let none = sym here ∙ on.quiet e.by inside is in cc)

    lives : live e.by ≡ true
    lives = goes (live e.by) refl

    mine : part e.by (e ∷ ((later ++ newer) ++ older)) ≡ [] ++ ((e ∷ []) ++ part e.by ((later ++ newer) ++ older))
    mine = ap (λ t. cond t (e ∷ part e.by ((later ++ newer) ++ older)) (part e.by ((later ++ newer) ++ older))) (same_number e.by)

    long : failing_steps c ≤ length (part e.by (later ++ newer))
    long = let sum = ap length (filter-append (λ f. f.by == e.by) later newer) ∙ length-append (part e.by later) (part e.by newer) in let t = taken e.by inside lives in omega (arith, sum, t)

    asker : (p : ℕ) → e.verb ≡ Verb.Ask p → e.by ≡ a
    asker p is =
        let named = (on.causes e.by inside lives).named p e (part e.by ((later ++ newer) ++ older)) (record { newer = []; is = mine }) (ap (is_asking_verb p) is ∙ same_number p) in
        sym (eqb-true (leader c e.by (part e.by ((later ++ newer) ++ older))) e.by named) ∙ least_named c live a e.by (later ++ newer) older before inside lives long
