-- Known lists are in session, and their rows read right.
use Rattle.mu_model.proofs.Scans.{session_append}
use Rattle.std.proofs.Common.{◌≡◌, ℕ, zero, suc, ◌+◌, ◌/◌, ◌%◌, ◌<◌, ◌≤◌, inl, inr, Bool, true, false, cond, ◌&&◌, ◌||◌, ◌==◌, List, [], ◌∷◌, ◌++◌, length, reverse, refl, sym, ◌∙◌, ap, arith, Some, None, subst, eqb-true, true≢false}
use Rattle.std.specs.Prelude.{nat_lt, if◌then◌else◌}
use Rattle.std.specs.List.{slice_get}
use Rattle.std.proofs.lemmas.List.{append-nil, append_assoc}
use Rattle.std.proofs.lemmas.Bool.{and_parts, eq-eqb, ltb-true, cases_order}
use Rattle.mu_model.specs.declared.config.Config.{Config}
use Rattle.mu_model.specs.declared.event.Event.{Event}
use Rattle.mu_model.specs.declared.event.Verb.{Verb}
use Rattle.mu_model.specs.declared.event.Answer.{Answer}
use Rattle.mu_agree.specs.Agreement.{IsMarked, MarksHaveCause, WasHeldFailed}
use Rattle.mu_agree.specs.Sessions.{KnownInSession, KnownMarkedOnce, KnownStands, MarkedOnce, RowsComeFirst, RowsReadRight}
use Rattle.mu_model.specs.Allowed.{Needs}
use Rattle.mu_model.specs.Answers.{answer_of}
use Rattle.mu_model.specs.Chosen.{IsChosen}
use Rattle.mu_model.specs.Contents.{IsConfig, IsInSession, StandsForEntry, begins_batch, client_of, config_word, counted, is_batch, is_mark, marked, number_of, numbers_in, rest_of, row_count, rows_before, rows_from, rows_of, session}
use Rattle.mu_model.specs.Histories.{all_below, history, newer_or, newest, or_zero, part}
use Rattle.mu_model.specs.Knowledge.{known, wrote, wrote_batch}
use Rattle.mu_model.specs.Legal.{IsLegalHistory}
use Rattle.mu_model.specs.Regions.{row_word, word_written}
use Rattle.mu_agree.proofs.Legal.{event_after, legal_induction, legal_older}
use Rattle.mu_agree.proofs.Access.{reversed_at}
use Rattle.mu_model.proofs.Scans.{all_at}
use Rattle.mu_agree.proofs.Phases.{one_chosen, known_chosen}
use Rattle.mu_agree.proofs.Sound.{Fits, by_batch, by_mark, Sound, chosen_sound, all_sound, put_sound}
use Rattle.mu_model.proofs.Basics.{same_some}
use Rattle.mu_model.proofs.Lists.{get_front, item_below}
use Rattle.mu_model.proofs.Putting.{put_facts}

-- laws of lists of numbers
pub length_counted : (n k : ℕ) → length (counted n k) ≡ n
length_counted zero k = refl
length_counted (suc n) k = ap suc (length_counted n (k + 1))

pub counted_append : (m n k l : ℕ) → l ≡ k + m → counted m k ++ counted n l ≡ counted (m + n) k
counted_append zero n k l e = let same : l ≡ k = omega arith in let none : n ≡ 0 + n = omega arith in ap (λ z. counted n z) same ∙ ap (λ z. counted z k) none
counted_append (suc m) n k l e =
    let sum : suc (m + n) ≡ suc m + n = omega arith in
    ap (λ xs. k ∷ xs) (counted_append m n (k + 1) l (omega arith)) ∙ ap (λ z. counted z k) sum

-- a list that counts from 1, and one that counts on from it
pub counts_on : (xs ys : List ℕ) (n : ℕ) → xs ≡ counted (length xs) 1 → ys ≡ counted n (length xs + 1) → xs ++ ys ≡ counted (length (xs ++ ys)) 1
counts_on xs ys n e f =
    let joined : xs ++ ys ≡ counted (length xs + n) 1 = ap (λ z. z ++ ys) e ∙ ap (λ z. counted (length xs) 1 ++ z) f ∙ counted_append (length xs) n 1 (length xs + 1) (omega arith) in
    let long : length (xs ++ ys) ≡ length xs + n = ap (λ z. length z) joined ∙ length_counted (length xs + n) 1 in
    joined ∙ ap (λ z. counted z 1) (sym long)

-- the rows of a batch are of one client, and count on
next_number : (c : Config) (j : ℕ) → IsConfig c → (k : ℕ) → j < row_count c → rest_of c j ≡ suc k → number_of c (j + 1) ≡ number_of c j + 1
next_number c j g k l e =
    let b = g.batches j k l e in
    let here = g.numbers j l in
    let there = g.numbers (j + 1) b.0 in
    let one : j + 1 ≡ suc j = omega arith in
    let step : rows_before c (client_of c (j + 1)) (j + 1) ≡ rows_before c (client_of c j) j + 1 = ap (λ z. rows_before c z (j + 1)) b.1 ∙ ap (λ z. rows_before c (client_of c j) z) one ∙ own (client_of c j == client_of c j) (eq-eqb (client_of c j) (client_of c j) refl) in
    omega arith
  where
    own : (t : Bool) → t ≡ true → (if t then rows_before c (client_of c j) j + 1 else rows_before c (client_of c j) j) ≡ rows_before c (client_of c j) j + 1
    own true h = refl
    own false h = absurd (true≢false (sym h))

pub batch_numbers : (c : Config) → IsConfig c → (client k j : ℕ) → j < row_count c → rest_of c j ≡ k
    → numbers_in c client (rows_from (suc k) j) ≡ (if client_of c j == client then counted (suc k) (number_of c j) else [])
batch_numbers c g client zero j l e = refl
batch_numbers c g client (suc k) j l e =
    let b = g.batches j k l e in
    let n = next_number c j g k l e in
    let ih = batch_numbers c g client k (j + 1) b.0 b.2 in
    go (client_of c j == client) (ih ∙ ap (λ z. if z == client then counted (suc k) (number_of c (j + 1)) else []) b.1 ∙ ap (λ z. if client_of c j == client then counted (suc k) z else []) n)
  where
    go : (t : Bool) → numbers_in c client (rows_from (suc k) (j + 1)) ≡ (if t then counted (suc k) (number_of c j + 1) else [])
        → (if t then (number_of c j ∷ numbers_in c client (rows_from (suc k) (j + 1))) else numbers_in c client (rows_from (suc k) (j + 1))) ≡ (if t then counted (suc (suc k)) (number_of c j) else [])
    go true h = ap (λ z. number_of c j ∷ z) h
    go false h = h

-- a batch ends before the rows do
pub batch_within : (c : Config) → IsConfig c → (k j : ℕ) → j < row_count c → rest_of c j ≡ k → j + k < row_count c
batch_within c g zero j l e = omega arith
batch_within c g (suc k) j l e = let b = g.batches j k l e in let ih = batch_within c g k (j + 1) b.0 b.2 in omega arith

pub row_within : (c : Config) (v : ℕ) → is_batch c v ≡ true → v % 4096 < row_count c
row_within c v h = ltb-true (v % 4096) (row_count c) (and_parts (nat_lt (v % 4096) (row_count c)) (begins_batch c (v % 4096)) (and_parts (nat_lt (v / 4096) c.replicas) (nat_lt (v % 4096) (row_count c) && begins_batch c (v % 4096)) h).1).0

-- a mark is no batch, and of one replica
pub mark_place : (c : Config) (q v : ℕ) → is_mark c q v ≡ true → v % 4096 ≡ 4080 + q
mark_place c q v h = eqb-true (v % 4096) (4080 + q) (and_parts (nat_lt q c.replicas) (v % 4096 == 4080 + q) (and_parts (c.version == 2) (nat_lt q c.replicas && (v % 4096 == 4080 + q)) (and_parts (nat_lt (v / 4096) c.replicas) ((c.version == 2) && (nat_lt q c.replicas && (v % 4096 == 4080 + q))) h).1).1).1

pub mark_no_batch : (c : Config) (q v : ℕ) → IsConfig c → is_mark c q v ≡ true → is_batch c v ≡ true → ⊥
mark_no_batch c q v g m b = let x = mark_place c q v m in let y = row_within c v b in let z = g.few in omega arith

-- one entry more keeps the session
pub entry_in_session : (c : Config) (v : ℕ) (values : List ℕ) (past : List Event) → IsConfig c → Fits c v values past → IsInSession c values → IsInSession c (values ++ v ∷ [])
entry_in_session c v values past g f s client =
    let split : session c client (values ++ v ∷ []) ≡ session c client values ++ numbers_in c client (rows_of c v) = session_append c client values (v ∷ []) ∙ ap (λ z. session c client values ++ z) (append-nil (numbers_in c client (rows_of c v))) in
    split ∙ go f ∙ ap (λ z. counted (length z) 1) (sym split)
  where
    go : Fits c v values past → session c client values ++ numbers_in c client (rows_of c v) ≡ counted (length (session c client values ++ numbers_in c client (rows_of c v))) 1
    go (by_mark q m n _) = none (is_batch c v) refl
      where
        none : (t : Bool) → is_batch c v ≡ t → session c client values ++ numbers_in c client (if t then rows_from (rest_of c (v % 4096) + 1) (v % 4096) else []) ≡ counted (length (session c client values ++ numbers_in c client (if t then rows_from (rest_of c (v % 4096) + 1) (v % 4096) else []))) 1
        none true h = absurd (mark_no_batch c q v g m h)
        none false h = counts_on (session c client values) [] 0 (s client) refl
    go (by_batch b w n) = rw b (at (client_of c (v % 4096) == client) refl)
      where
        one_more : rest_of c (v % 4096) + 1 ≡ suc (rest_of c (v % 4096))
        one_more = omega arith

        at : (t : Bool) → (client_of c (v % 4096) == client) ≡ t → session c client values ++ numbers_in c client (rows_from (rest_of c (v % 4096) + 1) (v % 4096)) ≡ counted (length (session c client values ++ numbers_in c client (rows_from (rest_of c (v % 4096) + 1) (v % 4096)))) 1
        at true h =
            let num : number_of c (v % 4096) ≡ length (session c client values) + 1 = subst (λ z. number_of c (v % 4096) ≡ length (session c z values) + 1) (eqb-true (client_of c (v % 4096)) client h) n in
            counts_on (session c client values) (numbers_in c client (rows_from (rest_of c (v % 4096) + 1) (v % 4096))) (suc (rest_of c (v % 4096))) (s client)
            (ap (λ z. numbers_in c client (rows_from z (v % 4096))) one_more ∙ batch_numbers c g client (rest_of c (v % 4096)) (v % 4096) (row_within c v b) refl ∙ yes (client_of c (v % 4096) == client) h ∙ ap (counted (suc (rest_of c (v % 4096)))) num)
          where
            yes : (t : Bool) → t ≡ true → (if t then counted (suc (rest_of c (v % 4096))) (number_of c (v % 4096)) else []) ≡ counted (suc (rest_of c (v % 4096))) (number_of c (v % 4096))
            yes true k = refl
            yes false k = absurd (true≢false (sym k))
        at false h =
            counts_on (session c client values) (numbers_in c client (rows_from (rest_of c (v % 4096) + 1) (v % 4096))) 0 (s client)
            (ap (λ z. numbers_in c client (rows_from z (v % 4096))) one_more ∙ batch_numbers c g client (rest_of c (v % 4096)) (v % 4096) (row_within c v b) refl ∙ no (client_of c (v % 4096) == client) h)
          where
            no : (t : Bool) → t ≡ false → (if t then counted (suc (rest_of c (v % 4096))) (number_of c (v % 4096)) else []) ≡ []
            no true k = absurd (true≢false k)
            no false k = refl

-- lists of chosen values
pub same_list : (xs ys : List ℕ) → length xs ≡ length ys → ((k x y : ℕ) → slice_get xs k ≡ Some x → slice_get ys k ≡ Some y → x ≡ y) → xs ≡ ys
same_list [] [] e f = refl
same_list [] (y ∷ ys) e f = absurd (omega arith)
same_list (x ∷ xs) [] e f = absurd (omega arith)
same_list (x ∷ xs) (y ∷ ys) e f = ap (λ z. z ∷ xs) (f 0 x y refl refl) ∙ ap (λ z. y ∷ z) (same_list xs ys (omega arith) (λ k a b. f (suc k) a b))

get_middle : (xs ys : List ℕ) (v : ℕ) → slice_get (xs ++ v ∷ ys) (length xs) ≡ Some v
get_middle [] ys v = refl
get_middle (z ∷ xs) ys v = get_middle xs ys v

abbrev pub AreChosen : Config → List ℕ → List Event → Type 0
AreChosen c values past = (k x : ℕ) → slice_get values k ≡ Some x → IsChosen c past k x

chosen_in_session : (c : Config) (past : List Event) → IsConfig c → IsLegalHistory c past → (done rest : List ℕ) → IsInSession c done → AreChosen c (done ++ rest) past → IsInSession c (done ++ rest)
chosen_in_session c past g h done [] s k = subst (IsInSession c) (sym (append-nil done)) s
chosen_in_session c past g h done (v ∷ rest) s k =
    let x = chosen_sound c (length done) v past h (k (length done) v (get_middle done rest v)) in
    let same : x.values ≡ done = same_list x.values done x.count (λ i a b p q.
    let u = x.chosen i a p in
    let w = k i b (get_front done (v ∷ rest) i b q) in
    one_chosen c i u.0 a w.0 b past h u.1 w.1) in
    let next : IsInSession c (done ++ v ∷ []) = entry_in_session c v done past g (subst (λ z. Fits c v z past) same x.fits) s in
    let whole : (done ++ v ∷ []) ++ rest ≡ done ++ v ∷ rest = append_assoc done (v ∷ []) rest in
    subst (IsInSession c) whole (chosen_in_session c past g h (done ++ v ∷ []) rest next (subst (λ z. AreChosen c z past) (sym whole) k))

pub known_are_chosen : (c : Config) (r : ℕ) (past : List Event) → IsLegalHistory c past → AreChosen c (known c r (part r past)) past
known_are_chosen c r past h k x e = let y = known_chosen c r k x past h e in (y.b, y.is)

pub known_in_session : (c : Config) (r : ℕ) (past : List Event) → IsConfig c → IsLegalHistory c past → IsInSession c (known c r (part r past))
known_in_session c r past g h = chosen_in_session c past g h [] (known c r (part r past)) (λ client. refl) (known_are_chosen c r past h)

pub known_in_session_law : KnownInSession
known_in_session_law c events r g h = known_in_session c r (history events) g h

pub fits_stands : (c : Config) (v : ℕ) (values : List ℕ) (past : List Event) → Fits c v values past → StandsForEntry c v
fits_stands c v values past (by_batch b w n) = inl b
fits_stands c v values past (by_mark q m n _) = inr (q, m)

pub known_stands_law : KnownStands
known_stands_law c events r i v h k =
    let x = known_chosen c r i v (history events) h k in
    let s = chosen_sound c i v (history events) h (x.b, x.is) in fits_stands c v s.values (history events) s.fits

-- marks
pub is_marked : (c : Config) (q : ℕ) (values : List ℕ) (k v : ℕ) → slice_get values k ≡ Some v → is_mark c q v ≡ true → marked c q values ≡ true
is_marked c q [] k v e m = cc
is_marked c q (x ∷ xs) zero v e m = let same : x ≡ v = same_some x v e in here (is_mark c q x) (marked c q xs) (subst (λ z. is_mark c q z ≡ true) (sym same) m)
  where
    here : (t u : Bool) → t ≡ true → (t || u) ≡ true
    here true u h = refl
    here false u h = absurd (true≢false (sym h))
is_marked c q (x ∷ xs) (suc k) v e m = later (is_mark c q x) (marked c q xs) (is_marked c q xs k v e m)
  where
    later : (t u : Bool) → u ≡ true → (t || u) ≡ true
    later true u h = refl
    later false u h = h

pub no_later_mark : (c : Config) (q i j v w : ℕ) (past : List Event) → IsConfig c → IsLegalHistory c past → IsChosen c past i v → Sound c j w past → is_mark c q v ≡ true → is_mark c q w ≡ true → i < j → ⊥
no_later_mark c q i j v w past g h a s m n l = go s.fits
  where
    go : Fits c w s.values past → ⊥
    go (by_batch x y z) = mark_no_batch c q w g n x
    go (by_mark q' x z _) =
        let same : q' ≡ q = (let e = mark_place c q w n in let f = mark_place c q' w x in omega arith) in
        let y = item_below s.values i (let e = s.count in omega arith) in
        let u = s.chosen i y.0 y.1 in
        let is : v ≡ y.0 = one_chosen c i a.0 v u.0 y.0 past h a.1 u.1 in
        true≢false (sym (is_marked c q s.values i y.0 y.1 (subst (λ t. is_mark c q t ≡ true) is m)) ∙ subst (λ t. marked c t s.values ≡ false) same z)

pub marked_once : (c : Config) (q i j v w : ℕ) (past : List Event) → IsConfig c → IsLegalHistory c past → IsChosen c past i v → IsChosen c past j w → is_mark c q v ≡ true → is_mark c q w ≡ true → i ≡ j
marked_once c q i j v w past g h a b m n = elim (cases_order i j) [
  | inl e ↦ e
  | inr o ↦ elim o [ inl l ↦ absurd (no_later_mark c q i j v w past g h a (chosen_sound c j w past h b) m n l) | inr l ↦ absurd (no_later_mark c q j i w v past g h b (chosen_sound c i v past h a) n m l) ]
]

pub marked_once_law : MarkedOnce
marked_once_law c events q i j v w g h a b m n = marked_once c q i j v w (history events) g h a b m n

pub known_marked_once_law : KnownMarkedOnce
known_marked_once_law c events r q i j v w g h a b m n =
    marked_once c q i j v w (history events) g h (known_are_chosen c r (history events) h i v a) (known_are_chosen c r (history events) h j w b) m n

-- a mark has a cause
pub marked_was_held : (c : Config) (q : ℕ) (past : List Event) → IsConfig c → IsLegalHistory c past → IsMarked c q past → WasHeldFailed c q past
marked_was_held c q past g h m = go (chosen_sound c m.position m.value past h m.chosen).fits
  where
    go : Fits c m.value (chosen_sound c m.position m.value past h m.chosen).values past → WasHeldFailed c q past
    go (by_batch x y z) = absurd (mark_no_batch c q m.value g m.mark x)
    go (by_mark q' x z held) =
        let same : q' ≡ q = (let e = mark_place c q m.value m.mark in let f = mark_place c q' m.value x in omega arith) in
        subst (λ s. WasHeldFailed c s past) same held

pub marks_have_cause_law : MarksHaveCause
marks_have_cause_law c events q g h m = marked_was_held c q (history events) g h m

-- rows come first
fits_written : (c : Config) (v : ℕ) (values : List ℕ) (past : List Event) → IsConfig c → Fits c v values past → is_batch c v ≡ true → wrote_batch c (v / 4096) (v % 4096) past ≡ true
fits_written c v values past g (by_batch b w n) h = w
fits_written c v values past g (by_mark q m n _) h = absurd (mark_no_batch c q v g m h)

rows_first : (c : Config) (p i b v : ℕ) (e : Event) (newer older all : List Event) → all ≡ newer ++ (e ∷ older) → IsConfig c → IsLegalHistory c all → e.verb ≡ Verb.PutSlot p i b v → is_batch c v ≡ true → wrote_batch c (v / 4096) (v % 4096) older ≡ true
rows_first c p i b v e newer older all is g h ev k =
    let legal : IsLegalHistory c (e ∷ older) = legal_older c newer (e ∷ older) (subst (IsLegalHistory c) is h) in
    let may : Needs c e.by (part e.by older) (Verb.PutSlot p i b v) = subst (λ z. Needs c e.by (part e.by older) z) ev legal.1.allowed.may in
    let s = put_sound c e.by p i b v older legal.0 (all_sound c older legal.0) (put_facts c e.by (part e.by older) p i b v may) in
    fits_written c v s.values older g s.fits k

pub rows_come_first_law : RowsComeFirst
rows_come_first_law c earlier later e p i b v g h = rows_first c p i b v e (reverse later) (reverse earlier) (reverse (earlier ++ e ∷ later)) (reversed_at earlier later e) g h

-- a word that was written is the configuration's
abbrev pub WordRight : Config → ℕ → ℕ → ℕ → List Event → Type 0
WordRight c r j k past = wrote r j k past ≡ true → newest (λ e. word_written r j k e.by e.verb) past ≡ Some (config_word c j k)

word_step : (c : Config) (r j k by : ℕ) (v : Verb) (past : List Event) → Needs c by (part by past) v → WordRight c r j k past → WordRight c r j k (event_after c past by v ∷ past)
word_step c r j k by (Verb.WriteRow row word x) past may s = go ((by == r) && ((row == j) && (word == k))) refl
  where
    go : (t : Bool) → ((by == r) && ((row == j) && (word == k))) ≡ t → cond t true (wrote r j k past) ≡ true → newer_or (cond t (Some x) None) (newest (λ e. word_written r j k e.by e.verb) past) ≡ Some (config_word c j k)
    go true h m =
        let y = and_parts (by == r) ((row == j) && (word == k)) h in
        let z = and_parts (row == j) (word == k) y.1 in
        ap Some (may.1.1.0 ∙ ap (λ a. config_word c a word) (eqb-true row j z.0) ∙ ap (λ a. config_word c j a) (eqb-true word k z.1))
    go false h m = s m
word_step c r j k by v past may s = s

pub word_right : (c : Config) (r j k : ℕ) (past : List Event) → IsLegalHistory c past → WordRight c r j k past
word_right c r j k = legal_induction c (WordRight c r j k) (λ m. absurd (true≢false (sym m))) (λ past by v h may s. word_step c r j k by v past may.may s)

read_right : (c : Config) (v t k : ℕ) (past : List Event) → IsConfig c → IsLegalHistory c past → is_batch c v ≡ true → t ≤ rest_of c (v % 4096) → k < 12 → wrote_batch c (v / 4096) (v % 4096) past ≡ true → row_word (v + t) k past ≡ config_word c (v % 4096 + t) k
read_right c v t k past g h b l m w =
    let in_rows = batch_within c g (rest_of c (v % 4096)) (v % 4096) (row_within c v b) refl in
    let few = g.few in
    let same_replica : (v + t) / 4096 ≡ v / 4096 = omega arith in
    let same_row : (v + t) % 4096 ≡ v % 4096 + t = omega arith in
    let a = all_at (rest_of c (v % 4096) + 1) (λ s. all_below 12 (λ u. wrote (v / 4096) (v % 4096 + s) u past)) w t (omega arith) in
    let d = all_at 12 (λ u. wrote (v / 4096) (v % 4096 + t) u past) a k m in
    ap (λ z. or_zero (newest (λ e. word_written z ((v + t) % 4096) k e.by e.verb) past)) same_replica
    ∙ ap (λ z. or_zero (newest (λ e. word_written (v / 4096) z k e.by e.verb) past)) same_row
    ∙ ap (λ z. or_zero z) (word_right c (v / 4096) (v % 4096 + t) k past h d)

pub rows_read : (c : Config) (r i v t k : ℕ) (e : Event) (newer older all : List Event) → all ≡ newer ++ (e ∷ older) → IsConfig c → IsLegalHistory c all
    → slice_get (known c r (part r older)) i ≡ Some v → is_batch c v ≡ true → t ≤ rest_of c (v % 4096) → k < 12 → e.verb ≡ Verb.ReadRow (v + t) k → e.answer ≡ Answer.Number (config_word c (v % 4096 + t) k)
rows_read c r i v t k e newer older all is g h kn b l m ev =
    let legal : IsLegalHistory c (e ∷ older) = legal_older c newer (e ∷ older) (subst (IsLegalHistory c) is h) in
    let s = chosen_sound c i v older legal.0 (known_are_chosen c r older legal.0 i v kn) in
    legal.1.answer ∙ ap (λ z. answer_of c e.by older z) ev ∙ ap (λ z. Answer.Number z) (read_right c v t k older g legal.0 b l m (fits_written c v s.values older g s.fits b))

pub rows_read_right_law : RowsReadRight
rows_read_right_law c earlier later e r i v t k g h = rows_read c r i v t k e (reverse later) (reverse earlier) (reverse (earlier ++ e ∷ later)) (reversed_at earlier later e) g h
