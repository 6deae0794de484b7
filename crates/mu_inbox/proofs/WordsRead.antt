-- Words read: the words of a row as they are read one by one.
use Rattle.std.proofs.Common.{◌≡◌, ◌⊎◌, ℕ, suc, ◌+◌, ◌<◌, ◌≤◌, ◌==◌, ◌&&◌, Bool, true, cond, List, [], ◌∷◌, None, Some, inl, inr, length, get_or, refl, sym, ap, subst, ◌∙◌, eqb-true, ne_eqb, eq-eqb, arith}
use Rattle.std.specs.declared.option.Option.{Option}
use Rattle.std.specs.Prelude.{slice_index}
use Rattle.std.proofs.lemmas.Bool.{and_from, and_parts, and_right, cases_lt, or_cases, or_left, or_right}
use Rattle.std.proofs.lemmas.List.{get_or-set_other, get_or-set_same, length-set}
use Rattle.mu_inbox.specs.declared.access.Shape.{Shape}
use Rattle.mu_inbox.specs.declared.access.Verb.{Verb}
use Rattle.mu_inbox.specs.declared.inbox.Inbox.{Inbox}
use Rattle.mu_inbox.specs.declared.inbox.Reading.{Reading}
use Rattle.mu_inbox.specs.declared.taking.Came.{Came}
use Rattle.mu_inbox.specs.Entries.{read_at, reads}
use Rattle.mu_inbox.specs.Memory.{Made, has_found, has_passed, is_about, is_reference, reference, row_in, writer_in}
use Rattle.mu_inbox.specs.Standing.{IsLonger, IsNextRead, IsReadVerb, IsReading, StandsForInbox, StandsForReading, TakesVerb, made_with}
use Rattle.mu_inbox.proofs.Growing.{due_is, found_grows, offer_same, read_grows}
use Rattle.mu_inbox.proofs.Rows.{is_row, row_of, writer_of}

-- what passes one test passes a weaker one
found_weaker : (p : ℕ) (one other : ℕ → Bool) → ((n : ℕ) → one n ≡ true → other n ≡ true) → (own : List Made) → has_found p one own ≡ true → has_found p other own ≡ true
found_weaker p one other weaker [] is = is
found_weaker p one other weaker (m ∷ own) is = go (found_weaker p one other weaker own) (or_cases (is_about p m.verb && one m.word) (has_found p one own) is)
  where
    go : (has_found p one own ≡ true → has_found p other own ≡ true) → ((is_about p m.verb && one m.word) ≡ true) ⊎ (has_found p one own ≡ true) → has_found p other (m ∷ own) ≡ true
    go ih (inl t) =
        let both = and_parts (is_about p m.verb) (one m.word) t in
        or_left (is_about p m.verb && other m.word) (has_found p other own) (and_from (is_about p m.verb) (other m.word) both.0 (weaker m.word both.1))
    go ih (inr t) = or_right (is_about p m.verb && other m.word) (has_found p other own) (ih t)

row_found : (p r j : ℕ) (own : List Made) → has_found p (λ n. n == reference r j) own ≡ true → has_passed (p + 1) own ≡ true
row_found p r j own is =
    subst (λ (n : ℕ). has_passed n own ≡ true) next
    (found_weaker p (λ n. n == reference r j) is_reference (λ n t. ap is_reference (eqb-true n (reference r j) t) ∙ is_row r j) own is)
  where
    next : suc p ≡ p + 1
    next = omega arith

-- each word that is read so far, with this one
word_read : (s : Shape) (p id word : ℕ) (own : List Made) (x next : Reading) → IsReading s p own x → IsLonger x word next → (k : ℕ) → k < x.done + 1
    → read_at p (reference x.writer x.row) k (record { by = id; verb = Verb.Read x.writer x.row x.done; word = word } ∷ own) ≡ Some (slice_index next.words.words k)
word_read s p id word own x next is longer k less = go (cases_lt k x.done)
  where
    m : Made
    m = record { by = id; verb = Verb.Read x.writer x.row x.done; word = word }

    inside : x.done < length x.words.words
    inside = let more = is.more in let twelve = is.twelve in omega (arith, more, twelve)

    last : x.done ≤ k → k ≡ x.done
    last least = omega (arith, less, least)

    here : reads (reference x.writer x.row) x.done (Verb.Read x.writer x.row x.done) ≡ true
    here =
        and_from (writer_in (reference x.writer x.row) == x.writer) ((row_in (reference x.writer x.row) == x.row) && (x.done == x.done)) (eq-eqb (writer_in (reference x.writer x.row)) x.writer (writer_of x.writer x.row is.few))
        (and_from (row_in (reference x.writer x.row) == x.row) (x.done == x.done) (eq-eqb (row_in (reference x.writer x.row)) x.row (row_of x.writer x.row is.few)) (eq-eqb x.done x.done refl))

    new : read_at p (reference x.writer x.row) x.done (m ∷ own) ≡ Some (slice_index next.words.words x.done)
    new =
        ap (λ (b : Bool). cond b (Some word) (read_at p (reference x.writer x.row) x.done own)) (and_from (reads (reference x.writer x.row) x.done m.verb) (has_found p (λ n. n == reference x.writer x.row) own) here is.found)
        ∙ ap (λ (n : ℕ). Some n) (sym (ap (λ (l : List ℕ). get_or l x.done 0) longer.words ∙ get_or-set_same x.words.words x.done word 0 inside))

    apart : k < x.done → k ≡ x.done → ⊥
    apart below e = omega (arith, below, e)

    go : (k < x.done) ⊎ (x.done ≤ k) → read_at p (reference x.writer x.row) k (m ∷ own) ≡ Some (slice_index next.words.words k)
    go (inl below) =
        read_grows m own p (reference x.writer x.row) k (slice_index next.words.words k)
        (and_right (writer_in (reference x.writer x.row) == x.writer) ((row_in (reference x.writer x.row) == x.row) && (k == x.done)) (and_right (row_in (reference x.writer x.row) == x.row) (k == x.done) (ne_eqb k x.done (apart below))))
        (is.words k below ∙ ap (λ (n : ℕ). Some n) (sym (ap (λ (l : List ℕ). get_or l k 0) longer.words ∙ get_or-set_other x.words.words x.done k word 0 (apart below))))
    go (inr least) = subst (λ (n : ℕ). read_at p (reference x.writer x.row) n (m ∷ own) ≡ Some (slice_index next.words.words n)) (sym (last least)) new

-- the last word of a row
last_at : (own : List Made) (x : Inbox) (rd next : Reading) (word : ℕ) → StandsForInbox own x → IsReading x.shape x.place own rd → IsLonger rd word next → 12 ≤ next.done
    → TakesVerb own x (Verb.Read rd.writer rd.row rd.done) word (record x { place = x.place + 1; reading = None; due = None }) (Came.Row next.words)
last_at own x rd next word stands is longer all = record {
  stands = record {
    writer = stands.writer;
    few = stands.few;
    room = stands.room;
    passed = row_found x.place rd.writer rd.row (m ∷ own) (found_grows m own x.place (λ n. n == reference rd.writer rd.row) is.found);
    reading = tt;
    last = stands.last;
    later = stands.later;
    offer = offer_same x.shape x.taken m own x.offer (λ i. refl) (λ i k w. refl) stands.offer;
    due = tt;
  };
  came = (
    refl,
    record {
      word = reference rd.writer rd.row;
      row = is_row rd.writer rd.row;
      twelve = ap (λ (l : List ℕ). length l) longer.words ∙ (length-set rd.words.words rd.done word ∙ is.twelve);
      each = λ k few. word_read x.shape x.place x.id word own rd next is longer k (below k few);
    },
  );
  id = refl;
  shape = refl;
  free = refl;
}
  where
    m : Made
    m = made_with x (Verb.Read rd.writer rd.row rd.done) word

    below : (k : ℕ) → k < 12 → k < rd.done + 1
    below k few = let done = longer.done in omega (arith, few, done, all)

last_by : (own : List Made) (x : Inbox) (w j k : ℕ) (rd next : Reading) (word : ℕ) → StandsForInbox own x → IsReading x.shape x.place own rd → IsNextRead (Some rd) w j k → IsLonger rd word next → 12 ≤ next.done
    → TakesVerb own x (Verb.Read w j k) word (record x { place = x.place + 1; reading = None; due = None }) (Came.Row next.words)
last_by own x w j k rd next word stands is at longer all =
    let here = last_at own x rd next word stands is longer all in
    subst (λ (v : Verb). TakesVerb own x v word (record x { place = x.place + 1; reading = None; due = None }) (Came.Row next.words)) same here
  where
    same : Verb.Read rd.writer rd.row rd.done ≡ Verb.Read w j k
    same = λ i. Verb.Read ((sym at.0) i) ((sym at.1) i) ((sym at.2) i)

pub reading_is : (own : List Made) (x : Inbox) (rd : Reading) → StandsForInbox own x → x.reading ≡ Some rd → IsReading x.shape x.place own rd
reading_is own x rd stands is = subst (λ (o : Option Reading). StandsForReading x.shape x.place own o) is stands.reading

pub last_word : (own : List Made) (x : Inbox) (verb : Verb) (rd next : Reading) (word : ℕ) → StandsForInbox own x → x.due ≡ Some verb → IsReadVerb verb → x.reading ≡ Some rd → IsLonger rd word next → 12 ≤ next.done
    → TakesVerb own x verb word (record x { place = x.place + 1; reading = None; due = None }) (Came.Row next.words)
last_word own x (Verb.Read w j k) rd next word stands due reads is longer all =
    let fits = (due_is own x (Verb.Read w j k) stands due).fits in
    last_by own x w j k rd next word stands (reading_is own x rd stands is) (subst (λ (o : Option Reading). IsNextRead o w j k) is fits) longer all
last_word own x (Verb.Look p) rd next word stands due reads is longer all = absurd reads
last_word own x (Verb.Put p j) rd next word stands due reads is longer all = absurd reads
last_word own x (Verb.Close p) rd next word stands due reads is longer all = absurd reads
last_word own x (Verb.Write j k y) rd next word stands due reads is longer all = absurd reads
