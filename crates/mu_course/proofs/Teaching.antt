-- What an event leaves of the values that its replica knows, and of what it committed.
use Rattle.std.proofs.Common.{◌≡◌, ℕ, Bool, true, false, ◌==◌, ◌&&◌, ◌∷◌, List, [], ◌++◌, None, Some, length, map, refl, arith, ap, ◌∙◌, cond}
use Rattle.std.specs.declared.option.Option.{Option}
use Rattle.std.specs.List.{slice_get}
use Rattle.std.proofs.lemmas.Option.{slice_get_past}
use Rattle.mu_model.specs.declared.config.Config.{Config}
use Rattle.mu_model.specs.declared.event.Answer.{Answer}
use Rattle.mu_model.specs.declared.event.Event.{Event}
use Rattle.mu_model.specs.declared.event.Verb.{Verb}
use Rattle.mu_model.specs.Knowledge.{committed, grown, is_accepted_by_all, learnt_by}
use Rattle.mu_knowledge.specs.declared.commit.Commit.{Commit}
use Rattle.mu_knowledge.specs.Commits.{pair_of}
use Rattle.mu_follow.proofs.Kept.{pairs_push}
use Rattle.mu_course.specs.Committing.{commit_by}

at_end : (xs : List ℕ) (v : ℕ) → slice_get (xs ++ v ∷ []) (length xs) ≡ Some v
at_end [] v = refl
at_end (x ∷ xs) v = at_end xs v

-- behind the values that were known stands the one that was learnt, if any was
pub learnt_next : (xs : List ℕ) (o : Option ℕ) → slice_get (grown xs o) (length xs) ≡ o
learnt_next xs None = slice_get_past xs (length xs) (omega arith)
learnt_next xs (Some v) = at_end xs v

-- the commits with that of the next event, as it teaches a value
pub commits_next : (c : Config) (r by known_length : ℕ) (verb : Verb) (answer : Answer) (mine now : List Event) (commits : List Commit) (pairs : List (ℕ × ℕ)) → map pair_of commits ≡ pairs
    → map pair_of (grown commits (commit_by verb (learnt_by c r mine known_length by verb answer now))) ≡ grown pairs (committed c r known_length by verb answer now)
commits_next c r by known_length (Verb.PutSlot p i b v) Answer.Done mine now commits pairs are = go ((by == r) && ((i == known_length) && is_accepted_by_all c r now i b v))
  where
    go : (t : Bool) → map pair_of (grown commits (commit_by (Verb.PutSlot p i b v) (cond t (Some v) None))) ≡ grown pairs (cond t (Some (i, v)) None)
    go true = pairs_push commits (record { position = i; value = v }) ∙ ap (λ l. l ++ (i, v) ∷ []) are
    go false = are
commits_next c r by known_length verb answer mine now commits pairs are = are
