-- What was answered was so with more rows at the end too.
use Rattle.std.proofs.Common.{◌≡◌, ◌∙◌, ℕ, ◌%◌, ◌==◌, cond, List, [], ◌∷◌, ap, refl, subst, sym}
use Rattle.mu_model.specs.declared.config.Config.{Config}
use Rattle.mu_model.specs.declared.config.Row.{Row}
use Rattle.mu_model.specs.declared.event.Answer.{Answer}
use Rattle.mu_model.specs.declared.event.Event.{Event}
use Rattle.mu_model.specs.declared.event.Target.{Target}
use Rattle.mu_model.specs.declared.event.Verb.{Verb}
use Rattle.mu_model.specs.Allowed.{Allowed}
use Rattle.mu_model.specs.Contents.{IsConfig}
use Rattle.mu_model.specs.Growing.{with_more}
use Rattle.mu_model.specs.Answers.{answer_of}
use Rattle.mu_model.specs.Histories.{event_by, part}
use Rattle.mu_model.specs.Legal.{IsLegalHistory}
use Rattle.mu_model.specs.Parts.{IsPossible}
use Rattle.mu_agree.proofs.Growing.{legal_kept}
use Rattle.mu_words.specs.Finding.{expected, kept, kept_after, loaded_by, name_of}
use Rattle.mu_words.specs.Standing.{close_grant}
use Rattle.mu_words.specs.Verbs.{IsMove, answer_from}
use Rattle.lone_words.specs.declared.access.Shape.{Shape}
use Rattle.lone_words.specs.declared.access.Spot.{Spot}
use Rattle.lone_words.specs.Coming.{Decided, DecidedAreAnswered, IsDecidedOnce, RowsMayCome, accesses_of}
use Rattle.lone_words.specs.Memory.{AreAnswered, IsAnsweredOnce, Made, Own, events_after, held, left_by, own_after, own_with, spot_made}
use Rattle.lone_words.specs.Spots.{IsShapeOf, is_same_spot, spot_of}
use Rattle.lone_words.proofs.OneList.{one_list_law}

-- what an exchange expects
after_same : (c : Config) (more : List Row) (p : ℕ) (t : Target) (v : Verb) (a : Answer) (w : ℕ) (k : ℕ × ℕ) → kept_after (with_more c more) p t v a w k ≡ kept_after c p t v a w k
after_same c more p t (Verb.Look q i) a w k = refl
after_same c more p t v a w k = refl

kept_same : (c : Config) (more : List Row) (p : ℕ) (t : Target) (seen : List (Event × ℕ)) → kept (with_more c more) p t seen ≡ kept c p t seen
kept_same c more p t [] = refl
kept_same c more p t (x ∷ seen) = ap (λ (k : ℕ × ℕ). kept_after (with_more c more) p t x.0.verb x.0.answer x.1 k) (kept_same c more p t seen) ∙ after_same c more p t x.0.verb x.0.answer x.1 (kept c p t seen)

pub expected_same : (c : Config) (more : List Row) (r : ℕ) (own : Own) (v : Verb) → expected (with_more c more) r own.0 own.1 v ≡ expected c r own.0 own.1 v
expected_same c more r own (Verb.PutMin p b) = ap (λ (k : ℕ × ℕ). k.1) (kept_same c more p Target.Min own.1)
expected_same c more r own (Verb.PutSlot p i b v) = ap (λ (k : ℕ × ℕ). k.1) (kept_same c more p (Target.Place (i % c.ring)) own.1)
expected_same c more r own v = refl

-- what r has come to with one access more, which expects x
abbrev own_by : Config → ℕ → Own → Verb → ℕ → ℕ → Own
own_by c r own v x n = (event_by r v (answer_from c.ring v x n) ∷ own.0, (event_by r v (answer_from c.ring v x n), loaded_by v n) ∷ own.1)

with_same : (c : Config) (more : List Row) (r : ℕ) (own : Own) (v : Verb) (n : ℕ) → own_with (with_more c more) r own v n ≡ own_with c r own v n
with_same c more r own v n = ap (λ (x : ℕ). own_by c r own v x n) (expected_same c more r own v)

pub own_same : (c : Config) (more : List Row) (r : ℕ) (past : List Made) → own_after (with_more c more) r past ≡ own_after c r past
own_same c more r [] = refl
own_same c more r (m ∷ past) =
    ap (λ (o : Own). cond (m.by == r) (own_with (with_more c more) r o m.verb m.word) o) (own_same c more r past)
    ∙ ap (λ (o : Own). cond (m.by == r) o (own_after c r past)) (with_same c more r (own_after c r past) m.verb m.word)

pub spot_same : (c : Config) (more : List Row) (s : Shape) (past : List Made) (m : Made) → spot_made (with_more c more) s past m ≡ spot_made c s past m
spot_same c more s past m = ap (λ (o : Own). spot_of s (name_of c m.by o.0 m.verb)) (own_same c more m.by past)

pub held_same : (c : Config) (more : List Row) (s : Shape) (past : List Made) (spot : Spot) → held (with_more c more) s past spot ≡ held c s past spot
held_same c more s [] spot = refl
held_same c more s (m ∷ past) spot =
    ap (λ (x : Spot). cond (is_same_spot spot x) (left_by m.step (held (with_more c more) s past spot)) (held (with_more c more) s past spot)) (spot_same c more s past m)
    ∙ ap (λ (w : ℕ). cond (is_same_spot spot (spot_made c s past m)) (left_by m.step w) w) (held_same c more s past spot)

-- one access
once_same : (c : Config) (more : List Row) (s : Shape) (past : List Made) (m : Made) → Allowed (with_more c more) m.by (own_after c m.by past).0 m.verb → IsAnsweredOnce c s past m → IsAnsweredOnce (with_more c more) s past m
once_same c more s past m allowed told =
    let own = own_after c m.by past in
    let back = sym (own_same c more m.by past) in
    let step : IsMove c.ring (close_grant m.by own.0) m.verb (expected (with_more c more) m.by own.0 own.1 m.verb) m.step = subst (λ (x : ℕ). IsMove c.ring (close_grant m.by own.0) m.verb x m.step) (sym (expected_same c more m.by own m.verb)) told.step in
    record {
      allowed = subst (λ (o : Own). Allowed (with_more c more) m.by o.0 m.verb) back allowed;
      step = subst (λ (o : Own). IsMove c.ring (close_grant m.by o.0) m.verb (expected (with_more c more) m.by o.0 o.1 m.verb) m.step) back step;
      found = λ no. told.found no ∙ (sym (held_same c more s past (spot_made c s past m)) ∙ ap (held (with_more c more) s past) (sym (spot_same c more s past m)));
    }

answered_same : (c : Config) (more : List Row) (s : Shape) (past : List Made) → IsConfig c → IsConfig (with_more c more) → IsShapeOf c s → AreAnswered c s past → AreAnswered (with_more c more) s past
answered_same c more s [] good grown fits answered = tt
answered_same c more s (m ∷ past) good grown fits answered =
    let one = one_list_law c s (m ∷ past) good fits answered in
    let before = one_list_law c s past good fits answered.0 in
    let legal = legal_kept c more (events_after c (m ∷ past)) good grown one.legal in
    let allowed : Allowed (with_more c more) m.by (own_after c m.by past).0 m.verb = subst (λ (l : List Event). Allowed (with_more c more) m.by l m.verb) (before.parts m.by) legal.1.allowed in
    (answered_same c more s past good grown fits answered.0, once_same c more s past m allowed answered.1)

pub rows_law : RowsMayCome
rows_law c more s past good grown fits answered = record {
  answered = answered_same c more s past good grown fits answered;
  own = λ r. own_same c more r past;
  held = λ spot. held_same c more s past spot;
}

-- what a replica may make it may make with rows more
allowed_same : (c : Config) (more : List Row) (r : ℕ) (mine : List Event) (verb : Verb) → IsConfig c → IsConfig (with_more c more) → IsPossible c r mine → Allowed c r mine verb → Allowed (with_more c more) r mine verb
allowed_same c more r mine verb good grown possible allowed =
    let past = possible.past in
    let e = event_by r verb (answer_of c r past verb) in
    let here : Allowed c r (part r past) verb = subst (λ (l : List Event). Allowed c r l verb) (sym possible.is) allowed in
    let legal : IsLegalHistory c (e ∷ past) = (possible.legal, record { allowed = here; answer = refl }) in
    subst (λ (l : List Event). Allowed (with_more c more) r l verb) possible.is (legal_kept c more (e ∷ past) good grown legal).1.allowed

-- an access that was decided by the first rows was answered with all
once_known : (c : Config) (s : Shape) (past : List Made) (d : Decided) (more : List Row) → c ≡ with_more d.knew more → IsConfig c → IsDecidedOnce s past d → IsAnsweredOnce c s past d.made
once_known c s past d more is good it =
    let m = d.made in
    let grown = subst IsConfig is good in
    let may = allowed_same d.knew more m.by (own_after d.knew m.by past).0 m.verb it.good grown it.possible it.answered.allowed in
    subst (λ (k : Config). IsAnsweredOnce k s past m) (sym is) (once_same d.knew more s past m may it.answered)

pub decided_law : DecidedAreAnswered
decided_law c s [] good known decided = tt
decided_law c s (d ∷ past) good known decided = (
  decided_law c s past good known.0 decided.0,
  once_known c s (accesses_of past) d known.1 known.2 good decided.1,
)
