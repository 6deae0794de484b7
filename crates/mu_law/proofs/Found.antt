-- What the landed puts of a list show to be chosen.
use Rattle.std.proofs.Common.{◌≡◌, ℕ, ◌&&◌, ◌==◌, Bool, true, false, true≢false, List, [], ◌∷◌, refl, sym, ◌∙◌, ap, arith, None, Some, eqb-true, subst}
use Rattle.std.specs.Prelude.{if◌then◌else◌, ◌↔◌}
use Rattle.std.specs.declared.option.Option.{Option}
use Rattle.std.proofs.lemmas.Bool.{and_parts, and_from, leb-true, le-leb}
use Rattle.std.proofs.lemmas.Option.{cond_some, none-some}
use Rattle.mu_model.specs.declared.config.Config.{Config}
use Rattle.mu_model.specs.declared.event.Answer.{Answer}
use Rattle.mu_model.specs.declared.event.Event.{Event}
use Rattle.mu_model.specs.declared.event.Verb.{Verb}
use Rattle.mu_model.specs.Chosen.{IsChosen, IsChosenUnder, is_accepted_at}
use Rattle.mu_model.specs.Contents.{IsConfig, is_mark}
use Rattle.mu_model.specs.Histories.{has, history, newer_or, newest}
use Rattle.mu_model.specs.Leaderships.{majority_of}
use Rattle.mu_model.specs.Legal.{IsLegal}
use Rattle.mu_agree.proofs.Counting.{Member, some_below}
use Rattle.mu_agree.proofs.Phases.{at_most_one_chosen_law}
use Rattle.mu_agree.proofs.Sessions.{marked_once_law}
use Rattle.mu_law.specs.Choosing.{choice_at, choice_of_mark, is_chosen_by, takers}
use Rattle.mu_law.specs.Laws.{IsMarkedAt}

-- some step tells it
record IsTold (tells : Verb → Answer → Option ℕ) (x : ℕ) : Type 0 where
  verb : Verb
  answer : Answer
  is : tells verb answer ≡ Some x

told : (tells : Verb → Answer → Option ℕ) (x : ℕ) (past : List Event) → newest (λ e. tells e.verb e.answer) past ≡ Some x → IsTold tells x
told tells x [] h = absurd (none-some x h)
told tells x (e ∷ past) h = go (tells e.verb e.answer) refl h (told tells x past)
  where
    go : (o : Option ℕ) → tells e.verb e.answer ≡ o → newer_or o (newest (λ f. tells f.verb f.answer) past) ≡ Some x → (newest (λ f. tells f.verb f.answer) past ≡ Some x → IsTold tells x) → IsTold tells x
    go None k m ih = ih m
    go (Some y) k m ih = record { verb = e.verb; answer = e.answer; is = k ∙ m }

-- if a step that tells something passed, something is told
telling : (tells : Verb → Answer → Option ℕ) (test : Verb → Answer → Bool) → ((verb : Verb) (answer : Answer) → test verb answer ≡ true → (x : ℕ) × (tells verb answer ≡ Some x))
    → (past : List Event) → has (λ e. test e.verb e.answer) past ≡ true → (x : ℕ) × (newest (λ e. tells e.verb e.answer) past ≡ Some x)
telling tells test f [] h = absurd (true≢false (sym h))
telling tells test f (e ∷ past) h = go (tells e.verb e.answer) refl (test e.verb e.answer) refl h (telling tells test f past)
  where
    go : (o : Option ℕ) → tells e.verb e.answer ≡ o → (t : Bool) → test e.verb e.answer ≡ t → (if t then true else has (λ f. test f.verb f.answer) past) ≡ true
        → (has (λ f. test f.verb f.answer) past ≡ true → (x : ℕ) × (newest (λ f. tells f.verb f.answer) past ≡ Some x)) → (x : ℕ) × (newer_or o (newest (λ f. tells f.verb f.answer) past) ≡ Some x)
    go (Some y) k t m n ih = (y, refl)
    go None k true m n ih = let z = f e.verb e.answer m in absurd (none-some z.0 (sym k ∙ z.1))
    go None k false m n ih = ih n

-- some region took what is chosen
taken_somewhere : (c : Config) (i b v : ℕ) (past : List Event) → IsChosenUnder c past i b v → Member c.replicas (λ p. has (λ e. is_accepted_at p i b v e.verb e.answer) past)
taken_somewhere c i b v past h = some_below c.replicas (λ p. has (λ e. is_accepted_at p i b v e.verb e.answer) past) (omega arith)

chosen_by : (c : Config) (i b v : ℕ) (past : List Event) → is_chosen_by c past i b v ≡ true → IsChosen c past i v
chosen_by c i b v past h = (b, leb-true (majority_of c.replicas) (takers c.replicas past i b v) h)

-- what a put shows at i is chosen there
choice_is_chosen : (c : Config) (i v : ℕ) (past : List Event) (verb : Verb) (answer : Answer) → choice_at c past i verb answer ≡ Some v → IsChosen c past i v
choice_is_chosen c i v past (Verb.PutSlot p j b w) Answer.Done h =
    let k = cond_some ((j == i) && is_chosen_by c past j b w) w v h in
    let m = and_parts (j == i) (is_chosen_by c past j b w) k.0 in
    subst (λ z. IsChosen c past z v) (eqb-true j i m.0) (subst (λ z. IsChosen c past j z) k.1 (chosen_by c j b w past m.1))
choice_is_chosen c i v past verb answer h = absurd (none-some v h)

-- a put of what is chosen shows it
shows_choice : (c : Config) (p i b v : ℕ) (past : List Event) → IsChosenUnder c past i b v → (verb : Verb) (answer : Answer) → is_accepted_at p i b v verb answer ≡ true
    → (x : ℕ) × (choice_at c past i verb answer ≡ Some x)
shows_choice c p i b v past h (Verb.PutSlot q j n w) Answer.Done m =
    let x = and_parts (q == p) ((j == i) && ((n == b) && (w == v))) m in
    let y = and_parts (j == i) ((n == b) && (w == v)) x.1 in
    let z = and_parts (n == b) (w == v) y.1 in
    let here = eqb-true j i y.0 in
    let under = eqb-true n b z.0 in
    let value = eqb-true w v z.1 in
    let full : is_chosen_by c past i b v ≡ true = le-leb (majority_of c.replicas) (takers c.replicas past i b v) h in
    let same : is_chosen_by c past j n w ≡ true = ap (λ k. is_chosen_by c past k n w) here ∙ ap (λ k. is_chosen_by c past i k w) under ∙ ap (λ k. is_chosen_by c past i b k) value ∙ full in
    (w, ap (λ t. if t then Some w else None) (and_from (j == i) (is_chosen_by c past j n w) y.0 same))
shows_choice c p i b v past h verb answer m = absurd (true≢false (sym m))

-- what is found is what is chosen
pub choice_is : (c : Config) (events : List Event) (i v : ℕ) → IsLegal c events → (newest (λ e. choice_at c (history events) i e.verb e.answer) (history events) ≡ Some v) ↔ IsChosen c (history events) i v
choice_is c events i v h = (found, finds)
  where
    found : newest (λ e. choice_at c (history events) i e.verb e.answer) (history events) ≡ Some v → IsChosen c (history events) i v
    found k = let t = told (choice_at c (history events) i) v (history events) k in choice_is_chosen c i v (history events) t.verb t.answer t.is

    finds : IsChosen c (history events) i v → newest (λ e. choice_at c (history events) i e.verb e.answer) (history events) ≡ Some v
    finds k =
        let m = taken_somewhere c i k.0 v (history events) k.1 in
        let z = telling (choice_at c (history events) i) (is_accepted_at m.who i k.0 v) (shows_choice c m.who i k.0 v (history events) k.1) (history events) m.passes in
        let t = told (choice_at c (history events) i) z.0 (history events) z.1 in
        let y = choice_is_chosen c i z.0 (history events) t.verb t.answer t.is in
        z.1 ∙ ap (λ x. Some x) (at_most_one_chosen_law c events i z.0 v h y k)

-- if a put shows a mark to be chosen, one is
mark_is_chosen : (c : Config) (q i : ℕ) (past : List Event) (verb : Verb) (answer : Answer) → choice_of_mark c past q verb answer ≡ Some i → IsMarkedAt c q past i
mark_is_chosen c q i past (Verb.PutSlot p j b w) Answer.Done h =
    let k = cond_some (is_mark c q w && is_chosen_by c past j b w) j i h in
    let m = and_parts (is_mark c q w) (is_chosen_by c past j b w) k.0 in
    record { value = w; chosen = subst (λ z. IsChosen c past z w) k.1 (chosen_by c j b w past m.1); mark = m.0 }
mark_is_chosen c q i past verb answer h = absurd (none-some i h)

shows_mark : (c : Config) (q p i b v : ℕ) (past : List Event) → IsChosenUnder c past i b v → is_mark c q v ≡ true → (verb : Verb) (answer : Answer) → is_accepted_at p i b v verb answer ≡ true
    → (x : ℕ) × (choice_of_mark c past q verb answer ≡ Some x)
shows_mark c q p i b v past h mark (Verb.PutSlot r j n w) Answer.Done m =
    let x = and_parts (r == p) ((j == i) && ((n == b) && (w == v))) m in
    let y = and_parts (j == i) ((n == b) && (w == v)) x.1 in
    let z = and_parts (n == b) (w == v) y.1 in
    let here = eqb-true j i y.0 in
    let under = eqb-true n b z.0 in
    let value = eqb-true w v z.1 in
    let full : is_chosen_by c past i b v ≡ true = le-leb (majority_of c.replicas) (takers c.replicas past i b v) h in
    let same : is_chosen_by c past j n w ≡ true = ap (λ k. is_chosen_by c past k n w) here ∙ ap (λ k. is_chosen_by c past i k w) under ∙ ap (λ k. is_chosen_by c past i b k) value ∙ full in
    let marks : is_mark c q w ≡ true = ap (is_mark c q) value ∙ mark in
    (j, ap (λ t. if t then Some j else None) (and_from (is_mark c q w) (is_chosen_by c past j n w) marks same))
shows_mark c q p i b v past h mark verb answer m = absurd (true≢false (sym m))

-- at most one mark of q is chosen
pub marked_once : (c : Config) (events : List Event) (q i j : ℕ) → IsConfig c → IsLegal c events → IsMarkedAt c q (history events) i → IsMarkedAt c q (history events) j → i ≡ j
marked_once c events q i j is h a b = marked_once_law c events q i j a.value b.value is h a.chosen b.chosen a.mark b.mark

-- the mark that is found is the one that is chosen
pub mark_is : (c : Config) (events : List Event) (q i : ℕ) → IsConfig c → IsLegal c events
    → (newest (λ e. choice_of_mark c (history events) q e.verb e.answer) (history events) ≡ Some i) ↔ IsMarkedAt c q (history events) i
mark_is c events q i is h = (found, finds)
  where
    found : newest (λ e. choice_of_mark c (history events) q e.verb e.answer) (history events) ≡ Some i → IsMarkedAt c q (history events) i
    found k = let t = told (choice_of_mark c (history events) q) i (history events) k in mark_is_chosen c q i (history events) t.verb t.answer t.is

    finds : IsMarkedAt c q (history events) i → newest (λ e. choice_of_mark c (history events) q e.verb e.answer) (history events) ≡ Some i
    finds k =
        let b = k.chosen.0 in
        let m = taken_somewhere c i b k.value (history events) k.chosen.1 in
        let z = telling (choice_of_mark c (history events) q) (is_accepted_at m.who i b k.value) (shows_mark c q m.who i b k.value (history events) k.chosen.1 k.mark) (history events) m.passes in
        let t = told (choice_of_mark c (history events) q) z.0 (history events) z.1 in
        let y = mark_is_chosen c q z.0 (history events) t.verb t.answer t.is in
        z.1 ∙ ap (λ x. Some x) (marked_once c events q z.0 i is h y k)
