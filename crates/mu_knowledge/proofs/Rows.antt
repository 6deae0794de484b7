-- The rows that a replica has are those of the configuration.
use Rattle.std.proofs.Common.{◌≡◌, ◌∙◌, ℕ, ◌+◌, ◌%◌, ◌/◌, ◌<◌, ◌==◌, ◌&&◌, ◌||◌, Bool, true, false, cond, List, [], ◌∷◌, Some, None, refl, sym, ap, arith, subst, eqb-true, true≢false}
use Rattle.std.specs.declared.option.Option.{Option}
use Rattle.std.specs.Prelude.{is_some}
use Rattle.std.proofs.lemmas.Bool.{and_parts, eq-eqb}
use Rattle.mu_model.specs.declared.config.Config.{Config}
use Rattle.mu_model.specs.declared.event.Event.{Event}
use Rattle.mu_model.specs.declared.event.Verb.{Verb}
use Rattle.mu_model.specs.declared.event.Answer.{Answer}
use Rattle.mu_model.specs.Allowed.{Allowed, Needs}
use Rattle.mu_model.specs.Answers.{answer_of}
use Rattle.mu_model.specs.Contents.{IsConfig, config_word, rest_of}
use Rattle.mu_model.specs.Histories.{has, newer_or, or_zero, part}
use Rattle.mu_model.specs.Knowledge.{has_word, is_read, wrote}
use Rattle.mu_model.specs.Legal.{IsLegalHistory}
use Rattle.mu_model.specs.Parts.{IsPossible}
use Rattle.mu_model.specs.Regions.{row_word}
use Rattle.mu_model.proofs.Basics.{same_some}
use Rattle.mu_model.proofs.Scans.{all_at}
use Rattle.mu_agree.proofs.Legal.{event_after, legal_induction}
use Rattle.mu_agree.proofs.Sessions.{batch_within, row_within, rows_read}
use Rattle.mu_knowledge.specs.RowWords.{IsReadKnown, ReadsKnown, RowsAreRight, word_held, word_met, word_told}

-- a word that was met is this one
abbrev IsWord : ℕ → Option ℕ → Type 0
IsWord w o = (x : ℕ) → o ≡ Some x → x ≡ w

is_newer : (w : ℕ) (o older : Option ℕ) → IsWord w o → IsWord w older → IsWord w (newer_or o older)
is_newer w None older here before = before
is_newer w (Some y) older here before = here

none_met : (w : ℕ) → IsWord w None
none_met w x at = cc

-- the word that a step of r tells is the configuration's
told_right : (c : Config) (r j k by : ℕ) (v : Verb) (past : List Event) → IsConfig c → IsLegalHistory c (event_after c past by v ∷ past) → by ≡ r
    → Needs c by (part by past) v → IsReadKnown c r (part r past) v → k < 12 → IsWord (config_word c j k) (word_told r j k by v (answer_of c by past v))
told_right c r j k by (Verb.WriteRow row word x) past good legal own may known few = go ((by == r) && ((row == j) && (word == k))) refl
  where
    go : (t : Bool) → ((by == r) && ((row == j) && (word == k))) ≡ t → IsWord (config_word c j k) (cond t (Some x) None)
    go true is y at =
        let a = and_parts (by == r) ((row == j) && (word == k)) is in
        let b = and_parts (row == j) (word == k) a.1 in
        sym (same_some x y at) ∙ may.1.1.0 ∙ ap (λ i. config_word c i word) (eqb-true row j b.0) ∙ ap (λ i. config_word c j i) (eqb-true word k b.1)
    go false is y at = none_met (config_word c j k) y at
told_right c r j k by (Verb.ReadRow w word) past good legal own may known few = go ((by == r) && ((w % 4096 == j) && (word == k))) refl
  where
    go : (t : Bool) → ((by == r) && ((w % 4096 == j) && (word == k))) ≡ t → IsWord (config_word c j k) (cond t (Some (row_word w word past)) None)
    go true is y at =
        let a = and_parts (by == r) ((w % 4096 == j) && (word == k)) is in
        let b = and_parts (w % 4096 == j) (word == k) a.1 in
        let v = known.value in
        let t = known.row in
        let here : word ≡ k = eqb-true word k b.1 in
        let at_row : w % 4096 ≡ j = eqb-true (w % 4096) j b.0 in
        let last = batch_within c good (rest_of c (v % 4096)) (v % 4096) (row_within c v known.batch) refl in
        let rows = good.few in
        let within = known.within in
        let named = known.is in
        let row : v % 4096 + t ≡ j = omega (arith, last, rows, within, named, at_row) in
        let answer : Answer.Number (row_word w word past) ≡ Answer.Number (config_word c (v % 4096 + t) word) =
        rows_read c r known.position v t word (event_after c past by (Verb.ReadRow w word)) [] past (event_after c past by (Verb.ReadRow w word) ∷ past) refl good legal known.known known.batch within (omega (arith, here, few)) (ap (λ n. Verb.ReadRow n word) named) in
        sym (same_some (row_word w word past) y at) ∙ same_number (row_word w word past) (config_word c (v % 4096 + t) word) answer ∙ ap (λ i. config_word c i word) row ∙ ap (λ i. config_word c j i) here
      where
        same_number : (m n : ℕ) → Answer.Number m ≡ Answer.Number n → m ≡ n
        same_number m n e = cc
    go false is y at = none_met (config_word c j k) y at
told_right c r j k by v past good legal own may known few = none_met (config_word c j k)

-- every word that is met is the configuration's
met_right : (c : Config) (r j k : ℕ) (past : List Event) → IsConfig c → k < 12 → IsLegalHistory c past → ReadsKnown c r (part r past) → IsWord (config_word c j k) (word_met r j k (part r past))
met_right c r j k past good few =
    legal_induction c (λ past. ReadsKnown c r (part r past) → IsWord (config_word c j k) (word_met r j k (part r past))) (λ reads. none_met (config_word c j k))
    (λ past by v h may before reads. step past by v h may before reads (by == r) refl) past
  where
    step : (past : List Event) (by : ℕ) (v : Verb) → IsLegalHistory c past → Allowed c by (part by past) v → (ReadsKnown c r (part r past) → IsWord (config_word c j k) (word_met r j k (part r past)))
        → ReadsKnown c r (part r (event_after c past by v ∷ past)) → (t : Bool) → (by == r) ≡ t → IsWord (config_word c j k) (word_met r j k (part r (event_after c past by v ∷ past)))
    step past by v h may before reads true is =
        let here : part r (event_after c past by v ∷ past) ≡ event_after c past by v ∷ part r past = rw is refl in
        let known : ReadsKnown c r (event_after c past by v ∷ part r past) = subst (ReadsKnown c r) here reads in
        subst (λ m. IsWord (config_word c j k) (word_met r j k m)) (sym here)
        (is_newer (config_word c j k) (word_told r j k by v (answer_of c by past v)) (word_met r j k (part r past))
        (told_right c r j k by v past good (h, record { allowed = may; answer = refl }) (eqb-true by r is) may.may known.1 few) (before known.0))
    step past by v h may before reads false is =
        let here : part r (event_after c past by v ∷ past) ≡ part r past = rw is refl in
        subst (λ m. IsWord (config_word c j k) (word_met r j k m)) (sym here) (before (subst (ReadsKnown c r) here reads))

-- a word that r has was met
newer_some : (o older : Option ℕ) → is_some older ≡ true → is_some (newer_or o older) ≡ true
newer_some None older is = is
newer_some (Some x) older is = refl

met_step : (c : Config) (r w k by : ℕ) (v : Verb) (past mine : List Event) → (has_word r w k mine ≡ true → is_some (word_met r (w % 4096) k mine) ≡ true) → has_word r w k (event_after c past by v ∷ mine) ≡ true
    → is_some (word_met r (w % 4096) k (event_after c past by v ∷ mine)) ≡ true
met_step c r w k by (Verb.WriteRow row word x) past mine before has_it = go ((by == r) && ((row == w % 4096) && (word == k))) has_it
  where
    go : (t : Bool) → (((w / 4096 == r) && cond t true (wrote r (w % 4096) k mine)) || has (λ e. is_read r w k e.by e.verb) mine) ≡ true → is_some (newer_or (cond t (Some x) None) (word_met r (w % 4096) k mine)) ≡ true
    go true is = refl
    go false is = before is
met_step c r w k by (Verb.ReadRow u word) past mine before has_it = go ((by == r) && ((u == w) && (word == k))) refl has_it
  where
    word_now : ℕ
    word_now = row_word u word past

    go : (t : Bool) → ((by == r) && ((u == w) && (word == k))) ≡ t → (((w / 4096 == r) && wrote r (w % 4096) k mine) || cond t true (has (λ e. is_read r w k e.by e.verb) mine)) ≡ true
        → is_some (newer_or (cond ((by == r) && ((u % 4096 == w % 4096) && (word == k))) (Some word_now) None) (word_met r (w % 4096) k mine)) ≡ true
    go true is has_now =
        let a = and_parts (by == r) ((u == w) && (word == k)) is in
        let b = and_parts (u == w) (word == k) a.1 in
        rw (a.0, b.1, eq-eqb (u % 4096) (w % 4096) (ap (λ n. n % 4096) (eqb-true u w b.0))) refl
    go false is has_now = newer_some (cond ((by == r) && ((u % 4096 == w % 4096) && (word == k))) (Some word_now) None) (word_met r (w % 4096) k mine) (before has_now)
met_step c r w k by v past mine before has_it = before has_it

has_met : (c : Config) (r w k : ℕ) (past : List Event) → IsLegalHistory c past → has_word r w k (part r past) ≡ true → is_some (word_met r (w % 4096) k (part r past)) ≡ true
has_met c r w k =
    legal_induction c (λ past. has_word r w k (part r past) ≡ true → is_some (word_met r (w % 4096) k (part r past)) ≡ true) (λ is. nothing (w / 4096 == r) is)
    (λ past by v h may before is. step past by v before is (by == r) refl)
  where
    nothing : (t : Bool) → ((t && false) || false) ≡ true → is_some (word_met r (w % 4096) k []) ≡ true
    nothing true is = absurd (true≢false (sym is))
    nothing false is = absurd (true≢false (sym is))

    step : (past : List Event) (by : ℕ) (v : Verb) → (has_word r w k (part r past) ≡ true → is_some (word_met r (w % 4096) k (part r past)) ≡ true)
        → has_word r w k (part r (event_after c past by v ∷ past)) ≡ true → (t : Bool) → (by == r) ≡ t → is_some (word_met r (w % 4096) k (part r (event_after c past by v ∷ past))) ≡ true
    step past by v before is true own =
        let here : part r (event_after c past by v ∷ past) ≡ event_after c past by v ∷ part r past = rw own refl in
        subst (λ m. is_some (word_met r (w % 4096) k m) ≡ true) (sym here) (met_step c r w k by v past (part r past) before (subst (λ m. has_word r w k m ≡ true) here is))
    step past by v before is false own =
        let here : part r (event_after c past by v ∷ past) ≡ part r past = rw own refl in
        subst (λ m. is_some (word_met r (w % 4096) k m) ≡ true) (sym here) (before (subst (λ m. has_word r w k m ≡ true) here is))

held_is : (w : ℕ) (o : Option ℕ) → IsWord w o → is_some o ≡ true → or_zero o ≡ w
held_is w None right is = absurd (true≢false (sym is))
held_is w (Some x) right is = right x refl

-- a word that r has is the configuration's
pub word_is_right : (c : Config) (r w k : ℕ) (mine : List Event) → IsConfig c → k < 12 → IsPossible c r mine → ReadsKnown c r mine → has_word r w k mine ≡ true → word_held r (w % 4096) k mine ≡ config_word c (w % 4096) k
word_is_right c r w k mine good few possible reads is =
    subst (λ m. ReadsKnown c r m → has_word r w k m ≡ true → word_held r (w % 4096) k m ≡ config_word c (w % 4096) k) possible.is
    (λ known has_it. held_is (config_word c (w % 4096) k) (word_met r (w % 4096) k (part r possible.past)) (met_right c r (w % 4096) k possible.past good few possible.legal known) (has_met c r w k possible.past possible.legal has_it))
    reads is

pub rows_are_right_law : RowsAreRight
rows_are_right_law c r mine v t good possible reads batch within has_it =
    rw (at 0 (omega arith), at 1 (omega arith), at 2 (omega arith), at 3 (omega arith), at 4 (omega arith), at 5 (omega arith), at 6 (omega arith), at 7 (omega arith), at 8 (omega arith), at 9 (omega arith), at 10 (omega arith), at 11 (omega arith)) refl
  where
    row : (v + t) % 4096 ≡ v % 4096 + t
    row = let last = batch_within c good (rest_of c (v % 4096)) (v % 4096) (row_within c v batch) refl in let rows = good.few in omega (arith, last, rows, within)

    at : (k : ℕ) → k < 12 → word_held r (v % 4096 + t) k mine ≡ config_word c (v % 4096 + t) k
    at k low = subst (λ j. word_held r j k mine ≡ config_word c j k) row (word_is_right c r (v + t) k mine good low possible reads (all_at 12 (λ i. has_word r (v + t) i mine) has_it k low))

-- the words after a step of r
held_after : (t : Bool) (x : ℕ) (older : Option ℕ) → or_zero (newer_or (cond t (Some x) None) older) ≡ cond t x (or_zero older)
held_after true x older = refl
held_after false x older = refl

pub own_word_held : (r j k row word x : ℕ) (e : Event) (mine : List Event) → e.verb ≡ Verb.WriteRow row word x → (e.by == r) ≡ true → cond ((row == j) && (word == k)) x (word_held r j k mine) ≡ word_held r j k (e ∷ mine)
own_word_held r j k row word x e mine verb own = rw (verb, own) (sym (held_after ((row == j) && (word == k)) x (word_met r j k mine)))

pub read_word_held : (r j k v word x : ℕ) (e : Event) (mine : List Event) → e.verb ≡ Verb.ReadRow v word → e.answer ≡ Answer.Number x → (e.by == r) ≡ true
    → cond ((v % 4096 == j) && (word == k)) x (word_held r j k mine) ≡ word_held r j k (e ∷ mine)
read_word_held r j k v word x e mine verb answer own = rw (verb, answer, own) (sym (held_after ((v % 4096 == j) && (word == k)) x (word_met r j k mine)))
