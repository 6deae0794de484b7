-- What a replica applied and committed stays so.
use Rattle.std.proofs.Common.{◌≡◌, ℕ, ◌≤◌, Bool, true, false, ◌==◌, ◌&&◌, List, [], ◌∷◌, ◌++◌, cond, refl, ap, ◌∙◌, arith, length, map, take, subst, None, Some, sym}
use Rattle.std.specs.Prelude.{if◌then◌else◌}
use Rattle.std.proofs.lemmas.List.{length_push, take-append-le}
use Rattle.mu_model.specs.declared.config.Config.{Config}
use Rattle.mu_model.specs.declared.event.Answer.{Answer}
use Rattle.mu_model.specs.declared.event.Event.{Event}
use Rattle.mu_model.specs.declared.event.Verb.{Verb}
use Rattle.mu_model.specs.Knowledge.{applied, commits, front, grown, has_entry, is_accepted_by_all, is_known_decided, known}
use Rattle.mu_agree.proofs.Knowing.{known_stays}
use Rattle.mu_knowledge.proofs.Fetched.{front_fits}
use Rattle.mu_knowledge.specs.declared.commit.Commit.{Commit}
use Rattle.mu_knowledge.specs.Commits.{pair_of}

-- the values before the first that fails are the first ones
pub front_begins : (test : ℕ → Bool) (xs : List ℕ) → take (length (front test xs)) xs ≡ front test xs
front_begins test [] = refl
front_begins test (x ∷ xs) = go (test x) (front_begins test xs)
  where
    go : (t : Bool) → take (length (front test xs)) xs ≡ front test xs → take (length (if t then (x ∷ front test xs) else [])) (x ∷ xs) ≡ (if t then (x ∷ front test xs) else [])
    go true ih = ap (λ l. x ∷ l) ih
    go false ih = refl

-- what was applied begins what is known later
pub applied_begins : (c : Config) (r : ℕ) (e : Event) (mine : List Event) → take (length (applied c r mine)) (known c r (e ∷ mine)) ≡ applied c r mine
applied_begins c r e mine =
    let begins = known_stays c r (e ∷ []) mine in
    let test : ℕ → Bool = λ v. has_entry c r v mine in
    subst (λ values. take (length (applied c r mine)) values ≡ applied c r mine) (sym begins.1)
    (take-append-le (length (applied c r mine)) (known c r mine) begins.0 (front_fits test (known c r mine)) ∙ front_begins test (known c r mine))

-- what is applied begins what is known
pub applied_is : (c : Config) (r : ℕ) (mine : List Event) → take (length (applied c r mine)) (known c r mine) ≡ applied c r mine
applied_is c r mine = front_begins (λ v. has_entry c r v mine) (known c r mine)

few_by : (c : Config) (r by : ℕ) (verb : Verb) (answer : Answer) (mine : List Event) → length (commits c r mine) ≤ length (known c r mine)
    → length (commits c r (record { by = by; verb = verb; answer = answer } ∷ mine)) ≤ length (known c r (record { by = by; verb = verb; answer = answer } ∷ mine))
few_by c r by (Verb.PutSlot q i b v) Answer.Done mine fits = go ((by == r) && ((i == length (known c r mine)) && is_accepted_by_all c r (record { by = by; verb = Verb.PutSlot q i b v; answer = Answer.Done } ∷ mine) i b v))
  where
    go : (t : Bool) → length (grown (commits c r mine) (cond t (Some (i, v)) None)) ≤ length (grown (known c r mine) (cond t (Some v) None))
    go true = let one = length_push (known c r mine) v in let other = length_push (commits c r mine) (i, v) in omega (arith, one, other, fits)
    go false = fits
few_by c r by (Verb.Look q i) (Answer.Entry b v) mine fits = go ((by == r) && ((i == length (known c r mine)) && is_known_decided r mine q i))
  where
    go : (t : Bool) → length (commits c r mine) ≤ length (grown (known c r mine) (cond t (Some v) None))
    go true = let one = length_push (known c r mine) v in omega (arith, one, fits)
    go false = fits
few_by c r by verb answer mine fits = fits

-- each commit makes an entry known
pub few_commits : (c : Config) (r : ℕ) (mine : List Event) → length (commits c r mine) ≤ length (known c r mine)
few_commits c r [] = omega arith
few_commits c r (e ∷ mine) = few_by c r e.by e.verb e.answer mine (few_commits c r mine)

-- the pairs of a list of commits with one more
pub pairs_push : (xs : List Commit) (x : Commit) → map pair_of (xs ++ x ∷ []) ≡ map pair_of xs ++ pair_of x ∷ []
pairs_push [] x = refl
pairs_push (y ∷ xs) x = ap (λ l. pair_of y ∷ l) (pairs_push xs x)
