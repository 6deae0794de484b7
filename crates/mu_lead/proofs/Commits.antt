-- When the notes of entries that a put made known come.
use Rattle.mu_lead.proofs.NoteKinds.{differs_by_test}
use Rattle.mu_lead.proofs.Rows.{grows_not, same_last}
use Rattle.mu_lead.specs.Leading.{end_of}
use Rattle.mu_lead.specs.Notes.{note_of_commit, value_committed}
use Rattle.mu_lead.specs.Offering.{LooksEmpty, LooksShow, ShowsEntry, is_entry_look, is_full_look}
use Rattle.mu_lead.specs.Saying.{Commits, SaysCommit}
use Rattle.mu_lead.specs.Standing.{known_told}
use Rattle.mu_lead.specs.declared.note.Note.{Note}
use Rattle.mu_lead.specs.declared.place.Offer.{Offer}
use Rattle.mu_model.specs.Histories.{has, event_by}
use Rattle.mu_model.specs.Knowledge.{grown, known}
use Rattle.mu_model.specs.Leaderships.{leadership}
use Rattle.mu_model.specs.Picks.{look_answer}
use Rattle.mu_model.specs.declared.config.Config.{Config}
use Rattle.mu_model.specs.declared.event.Answer.{Answer}
use Rattle.mu_model.specs.declared.event.Event.{Event}
use Rattle.mu_model.specs.declared.event.Verb.{Verb}
use Rattle.std.proofs.Common.{Bool, List, None, Some, [], ap, cond, false, inl, inr, length, refl, subst, sym, true, true≢false, ℕ, ◌++◌, ◌∙◌, ◌∷◌, ◌≡◌}
use Rattle.std.specs.Prelude.{if◌then◌else◌, ◌⊎◌}

abbrev pub is_committed : Note → Bool
is_committed (Note.Committed i v) = true
is_committed note = false

abbrev pub is_adopted : Note → Bool
is_adopted (Note.Adopted i v) = true
is_adopted note = false

same_committed : (i j v w : ℕ) → Note.Committed i v ≡ Note.Committed j w → (i ≡ j) × (v ≡ w)
same_committed i j v w is = (cc, cc)

same_adopted : (i j v w : ℕ) → Note.Adopted i v ≡ Note.Adopted j w → (i ≡ j) × (v ≡ w)
same_adopted i j v w is = (cc, cc)

-- a note of another kind tells of no value
pub none_committed : (note : Note) → is_committed note ≡ false → is_adopted note ≡ false → value_committed note ≡ None
none_committed (Note.Committed i v) committed adopted = absurd (true≢false committed)
none_committed (Note.Adopted i v) committed adopted = absurd (true≢false adopted)
none_committed note committed adopted = refl

-- if an entry was shown not all looks were empty
has_more : (f g : Event → Bool) (xs : List Event) → ((e : Event) → f e ≡ true → g e ≡ true) → has f xs ≡ true → has g xs ≡ true
has_more f g [] more is = is
has_more f g (e ∷ xs) more is = go (f e) refl is (has_more f g xs more)
  where
    later : (t : Bool) → has g xs ≡ true → cond t true (has g xs) ≡ true
    later true is = refl
    later false is = is

    go : (t : Bool) → f e ≡ t → cond t true (has f xs) ≡ true → (has f xs ≡ true → has g xs ≡ true) → cond (g e) true (has g xs) ≡ true
    go true here is rest = rw (more e here) refl
    go false here is rest = later (g e) (rest is)

not_empty : (c : Config) (r i : ℕ) (mine : List Event) → ShowsEntry c r mine i → LooksEmpty c r mine i → ⊥
not_empty c r i mine s none = true≢false (sym (has_more (λ e. is_entry_look (look_answer r s.region i e.by e.verb e.answer)) (λ e. is_full_look (look_answer r s.region i e.by e.verb e.answer)) (leadership r mine) (λ e is. rw is refl) s.shown) ∙ none s.region s.within s.member)

-- a put that made nothing known
pub commit_none : (c : Config) (r : ℕ) (mine : List Event) (verb : Verb) (answer : Answer) (values : List ℕ) (note : Note) → is_committed note ≡ false → is_adopted note ≡ false
    → known c r (event_by r verb answer ∷ mine) ≡ grown values (value_committed note) → values ≡ known_told c r mine r verb answer → SaysCommit c r mine verb answer note
commit_none c r mine verb answer values note committed adopted tells told = record {
  committed = λ i v. ((λ is. absurd (differs_by_test is_committed note (Note.Committed i v) committed refl is)), (λ row. absurd (nothing i v row.0)));
  adopted = λ i v. ((λ is. absurd (differs_by_test is_adopted note (Note.Adopted i v) adopted refl is)), (λ row. absurd (nothing i v row.0)));
}
  where
    nothing : (i v : ℕ) → Commits c r mine verb answer i v → ⊥
    nothing i v row =
        let same : values ≡ known c r mine = subst (λ w. values ≡ known_told c r mine r w answer) row.put told in
        grows_not (known c r mine) v (sym same ∙ sym (tells ∙ ap (grown values) (none_committed note committed adopted)) ∙ row.grew)

-- the put of the offer
pub commit_says : (c : Config) (r p b : ℕ) (mine : List Event) (answer : Answer) (values : List ℕ) (offer : Offer) (note : Note) → LooksShow c r mine (end_of c r mine) offer.adopted → (note ≡ Note.Working) ⊎ (note ≡ note_of_commit (length values) offer)
    → known c r (event_by r (Verb.PutSlot p (end_of c r mine) b offer.value) answer ∷ mine) ≡ grown values (value_committed note) → values ≡ known c r mine → SaysCommit c r mine (Verb.PutSlot p (end_of c r mine) b offer.value) answer note
commit_says c r p b mine answer values offer note shows (inl is) tells same = commit_none c r mine (Verb.PutSlot p (end_of c r mine) b offer.value) answer values note (ap is_committed is) (ap is_adopted is) tells same
commit_says c r p b mine answer values offer note shows (inr is) tells same = go offer.adopted shows (is ∙ ap (λ n. note_of_commit n offer) (ap length same))
  where
    end : ℕ
    end = end_of c r mine

    -- the row of the commit
    commits : (i v : ℕ) → end ≡ i → offer.value ≡ v → known c r (event_by r (Verb.PutSlot p end b offer.value) answer ∷ mine) ≡ known c r mine ++ offer.value ∷ [] → Commits c r mine (Verb.PutSlot p end b offer.value) answer i v
    commits i v here value grew = record {
      region = p;
      number = b;
      put = ap (λ n. Verb.PutSlot p n b offer.value) here ∙ ap (Verb.PutSlot p i b) value;
      position = sym here;
      grew = subst (λ w. known c r (event_by r (Verb.PutSlot p end b offer.value) answer ∷ mine) ≡ known c r mine ++ w ∷ []) value grew;
    }

    grew_by : (note' : Note) → note ≡ note' → value_committed note' ≡ Some offer.value → known c r (event_by r (Verb.PutSlot p end b offer.value) answer ∷ mine) ≡ known c r mine ++ offer.value ∷ []
    grew_by note' now value = tells ∙ ap (grown values) (ap value_committed now ∙ value) ∙ ap (λ xs. xs ++ offer.value ∷ []) same

    go : (t : Bool) → LooksShow c r mine end t → note ≡ (if t then Note.Adopted end offer.value else Note.Committed end offer.value) → SaysCommit c r mine (Verb.PutSlot p end b offer.value) answer note
    go true shows now =
        let grew = grew_by (Note.Adopted end offer.value) now refl in
        record {
          committed = λ i v. (
            (λ same. absurd (differs_by_test is_committed note (Note.Committed i v) (ap is_committed now) refl same)),
            (λ row. absurd (not_empty c r end mine shows (subst (LooksEmpty c r mine) row.0.position row.1))),
          );
          adopted = λ i v. (
            (λ same. let x = same_adopted end i offer.value v (sym now ∙ same) in (commits i v x.0 x.1 grew, subst (ShowsEntry c r mine) x.0 shows)),
            (λ row. now ∙ ap (λ n. Note.Adopted n offer.value) (sym row.0.position) ∙ ap (Note.Adopted i) (same_last (known c r mine) offer.value v (sym grew ∙ row.0.grew))),
          );
        }
    go false shows now =
        let grew = grew_by (Note.Committed end offer.value) now refl in
        record {
          committed = λ i v. (
            (λ same. let x = same_committed end i offer.value v (sym now ∙ same) in (commits i v x.0 x.1 grew, subst (LooksEmpty c r mine) x.0 shows)),
            (λ row. now ∙ ap (λ n. Note.Committed n offer.value) (sym row.0.position) ∙ ap (Note.Committed i) (same_last (known c r mine) offer.value v (sym grew ∙ row.0.grew))),
          );
          adopted = λ i v. (
            (λ same. absurd (differs_by_test is_adopted note (Note.Adopted i v) (ap is_adopted now) refl same)),
            (λ row. absurd (not_empty c r end mine (subst (ShowsEntry c r mine) row.0.position row.1) shows)),
          );
        }
