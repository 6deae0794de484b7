-- Commands answered one after the other, and the answers to the entries that a replica applied.
use Rattle.std.proofs.Common.{◌≡◌, ◌∙◌, ℕ, zero, suc, ◌+◌, ◌%◌, ◌<◌, ◌≤◌, Bool, true, false, cond, List, [], ◌∷◌, ◌++◌, None, Some, ap, append-nil, append_assoc, arith, drop, length, refl, subst, sym, take, inl, inr}
use Rattle.std.specs.List.{slice_get}
use Rattle.std.proofs.lemmas.Bool.{cases_lt}
use Rattle.std.proofs.lemmas.List.{length-append, length-take}
use Rattle.std.proofs.lemmas.Option.{slice_get_within}
use Rattle.kv_store.specs.Commands.{Request}
use Rattle.kv_store.specs.Tables.{empty_table, replies, replies_from, reply_to, store, store_from, table_after}
use Rattle.kv_store.proofs.Runs.{replies_from-append, store_from-append}
use Rattle.mu_model.specs.declared.config.Config.{Config}
use Rattle.mu_model.specs.declared.event.Event.{Event}
use Rattle.mu_model.specs.Contents.{IsConfig, is_batch, rest_of, row_count}
use Rattle.mu_model.specs.Knowledge.{applied, known}
use Rattle.mu_model.specs.Parts.{IsPossible}
use Rattle.mu_model.proofs.Basics.{none_some, same_some}
use Rattle.mu_model.proofs.Lists.{item_below}
use Rattle.mu_knowledge.proofs.Fetched.{applied_grows, batch_there}
use Rattle.mu_follow.proofs.Spelled.{get_first}
use Rattle.mu_follow.specs.Groups.{AreSpelled, group_of, group_size, groups_of}
use Rattle.mu_follow.proofs.Kept.{applied_begins, applied_is}
use Rattle.mu_node.specs.Answering.{Answering}
use Rattle.mu_node.specs.Answers.{HasAnswered, HoldsAnswers}
use Rattle.mu_node.proofs.FewRows.{few_first}

-- lists
pub take_whole : {A : Type 0} (n : ℕ) (xs : List A) → length xs ≤ n → take n xs ≡ xs
take_whole zero [] few = refl
take_whole zero (x ∷ xs) few = absurd (omega (arith, few))
take_whole (suc n) [] few = refl
take_whole (suc n) (x ∷ xs) few = ap (λ l. x ∷ l) (take_whole n xs (omega (arith, few)))

pub take_more : {A : Type 0} (n : ℕ) (xs : List A) (x : A) → slice_get xs n ≡ Some x → take (n + 1) xs ≡ take n xs ++ x ∷ []
take_more n [] x at = cc
take_more zero (y ∷ ys) x at = ap (λ z. z ∷ []) (same_some y x at)
take_more (suc n) (y ∷ ys) x at = let one : suc n + 1 ≡ suc (n + 1) = omega arith in ap (λ m. take m (y ∷ ys)) one ∙ ap (λ l. y ∷ l) (take_more n ys x at)

get_drop : {A : Type 0} (m i : ℕ) (xs : List A) → slice_get (drop m xs) i ≡ slice_get xs (m + i)
get_drop zero i xs = let same : i ≡ 0 + i = omega arith in ap (λ n. slice_get xs n) same
get_drop (suc m) i [] = refl
get_drop (suc m) i (x ∷ xs) = let same : suc (m + i) ≡ suc m + i = omega arith in get_drop m i xs ∙ ap (λ n. slice_get (x ∷ xs) n) same

pub take_twice : {A : Type 0} (n m : ℕ) (xs : List A) → n ≤ m → take n (take m xs) ≡ take n xs
take_twice zero m xs low = refl
take_twice (suc n) zero xs low = absurd (omega (arith, low))
take_twice (suc n) (suc m) [] low = refl
take_twice (suc n) (suc m) (x ∷ xs) low = ap (λ l. x ∷ l) (take_twice n m xs (omega (arith, low)))

pub none_within : {A : Type 0} (xs : List A) (n : ℕ) → slice_get xs n ≡ None → length xs ≤ n
none_within xs n none = elim (cases_lt n (length xs)) [
  | inl low ↦ (let found = item_below xs n low in absurd (none_some found.0 (sym none ∙ found.1)))
  | inr high ↦ high
]

-- what was handed on stays
pub handed_stays : (c : Config) (r n : ℕ) (e : Event) (mine : List Event) → n ≤ length (applied c r mine) → take n (applied c r (e ∷ mine)) ≡ take n (applied c r mine)
handed_stays c r n e mine low =
    let grows = applied_grows c r mine e in
    let now = known c r (e ∷ mine) in
    ap (λ l. take n l) (sym (applied_is c r (e ∷ mine)))
    ∙ take_twice n (length (applied c r (e ∷ mine))) now (omega (arith, low, grows))
    ∙ sym (ap (λ l. take n l) (sym (applied_begins c r e mine)) ∙ take_twice n (length (applied c r mine)) now low)

pub one_answered : (command : Request) (a b : Answering) → b.table ≡ table_after a.table command.op → b.replies ≡ a.replies ++ reply_to a.table command.op ∷ [] → b.left + 1 ≡ a.left → HasAnswered (command ∷ []) a b
one_answered command a b table told left = record { replies = told; table = table; left = omega (arith, left) }

pub more_answered : (xs ys : List Request) (a b d : Answering) → HasAnswered xs a b → HasAnswered ys b d → HasAnswered (xs ++ ys) a d
more_answered xs ys a b d first next = record {
  replies =
      next.replies ∙ ap (λ l. l ++ replies_from b.table ys) first.replies ∙ ap (λ t. (a.replies ++ replies_from a.table xs) ++ replies_from t ys) first.table
      ∙ append_assoc a.replies (replies_from a.table xs) (replies_from (store_from a.table xs) ys)
      ∙ ap (λ l. a.replies ++ l) (sym (replies_from-append a.table xs ys));
  table = next.table ∙ ap (λ t. store_from t ys) first.table ∙ sym (store_from-append a.table xs ys);
  left = (let long = length-append xs ys in let one = first.left in let two = next.left in omega (arith, long, one, two));
}

-- the next command of an entry
pub record NextCommand (c : Config) (commands : List Request) (v t : ℕ) : Type 0 where
  pub command : Request
  pub batch : is_batch c v ≡ true
  pub within : t ≤ rest_of c (v % 4096)
  pub low : v % 4096 + t < row_count c
  pub inside : t < length (group_of c commands v)
  pub at : slice_get commands (v % 4096 + t) ≡ Some command
  pub more : take (t + 1) (group_of c commands v) ≡ take t (group_of c commands v) ++ command ∷ []

pub next_command : (c : Config) (commands : List Request) (v t : ℕ) → IsConfig c → AreSpelled c commands → t < group_size c v → NextCommand c commands v t
next_command c commands v t good are low = go (is_batch c v) refl low
  where
    go : (b : Bool) → is_batch c v ≡ b → t < cond b (rest_of c (v % 4096) + 1) 0 → NextCommand c commands v t
    go true batch low =
        let there = (batch_there c v good batch).1 in
        let long = are.count in
        let found = item_below commands (v % 4096 + t) (omega (arith, long, there, low)) in
        let whole : group_of c commands v ≡ take (rest_of c (v % 4096) + 1) (drop (v % 4096) commands) = rw batch refl in
        let here : slice_get (group_of c commands v) t ≡ Some found.0 = ap (λ l. slice_get l t) whole ∙ get_first (rest_of c (v % 4096) + 1) t (drop (v % 4096) commands) low ∙ get_drop (v % 4096) t commands ∙ found.1 in
        record {
          command = found.0;
          batch = batch;
          within = omega (arith, low);
          low = omega (arith, there, low);
          inside = slice_get_within (group_of c commands v) t found.0 here;
          at = found.1;
          more = take_more t (group_of c commands v) found.0 here;
        }
    go false batch low = absurd (omega (arith, low))

-- all commands of an entry
pub whole_group : (c : Config) (commands : List Request) (v : ℕ) → take (group_size c v) (group_of c commands v) ≡ group_of c commands v
whole_group c commands v = take_whole (group_size c v) (group_of c commands v) (go (is_batch c v))
  where
    go : (b : Bool) → length (cond b (take (rest_of c (v % 4096) + 1) (drop (v % 4096) commands)) []) ≤ cond b (rest_of c (v % 4096) + 1) 0
    go true = let long = length-take (rest_of c (v % 4096) + 1) (drop (v % 4096) commands) in omega (arith, long)
    go false = omega arith

-- the commands of entries, and of one more
pub groups-append : (c : Config) (commands : List Request) (xs ys : List ℕ) → groups_of c commands (xs ++ ys) ≡ groups_of c commands xs ++ groups_of c commands ys
groups-append c commands [] ys = refl
groups-append c commands (x ∷ xs) ys = ap (λ l. group_of c commands x ++ l) (groups-append c commands xs ys) ∙ sym (append_assoc (group_of c commands x) (groups_of c commands xs) (groups_of c commands ys))

pub groups-push : (c : Config) (commands : List Request) (xs : List ℕ) (v : ℕ) → groups_of c commands (xs ++ v ∷ []) ≡ groups_of c commands xs ++ group_of c commands v
groups-push c commands xs v = groups-append c commands xs (v ∷ []) ∙ ap (λ l. groups_of c commands xs ++ l) (append-nil (group_of c commands v))

-- one more entry is answered
pub hold_more : (c : Config) (commands : List Request) (xs : List ℕ) (v : ℕ) (a b : Answering) → HoldsAnswers c commands xs a → HasAnswered (group_of c commands v) a b → HoldsAnswers c commands (xs ++ v ∷ []) b
hold_more c commands xs v a b held answered = record {
  replies =
      answered.replies ∙ ap (λ l. l ++ replies_from a.table (group_of c commands v)) held.replies ∙ ap (λ t. replies (groups_of c commands xs) ++ replies_from t (group_of c commands v)) held.table
      ∙ sym (ap replies (groups-push c commands xs v) ∙ replies_from-append _ (groups_of c commands xs) (group_of c commands v));
  table = answered.table ∙ ap (λ t. store_from t (group_of c commands v)) held.table ∙ sym (ap store (groups-push c commands xs v) ∙ store_from-append _ (groups_of c commands xs) (group_of c commands v));
  left = (let more = ap length (groups-push c commands xs v) in let long = length-append (groups_of c commands xs) (group_of c commands v) in let left = held.left in let one = answered.left in omega (arith, more, long, left, one));
}

-- there is room for the next entry
pub room_left : (c : Config) (r n v : ℕ) (mine : List Event) (commands : List Request) (a : Answering) → IsConfig c → IsPossible c r mine → slice_get (applied c r mine) n ≡ Some v → HoldsAnswers c commands (take n (applied c r mine)) a
    → length (group_of c commands v) ≤ a.left
room_left c r n v mine commands a good possible at held =
    let few = few_first c r (n + 1) mine commands good possible in
    let next = ap (λ l. length (groups_of c commands l)) (take_more n (applied c r mine) v at) in
    let more = ap length (groups-push c commands (take n (applied c r mine)) v) in
    let long = length-append (groups_of c commands (take n (applied c r mine))) (group_of c commands v) in
    let left = held.left in
    omega (arith, few, next, more, long, left)

-- the answers before any entry
pub first_answers : (c : Config) (commands : List Request) (a : Answering) → a.table ≡ empty_table → a.replies ≡ [] → a.left ≡ row_count c → HoldsAnswers c commands [] a
first_answers c commands a table told left = record { replies = told; table = table; left = omega (arith, left) }

-- the answers stay as an event comes
pub answers_stay : (c : Config) (r n : ℕ) (e : Event) (mine : List Event) (old new : Answering) → new ≡ old → (handed : ℕ) → handed ≤ length (applied c r mine) → handed ≡ n
    → ((commands : List Request) → AreSpelled c commands → HoldsAnswers c commands (take n (applied c r mine)) old) → (commands : List Request) → AreSpelled c commands → HoldsAnswers c commands (take n (applied c r (e ∷ mine))) new
answers_stay c r n e mine old new same handed within is held commands are =
    subst (λ l. HoldsAnswers c commands l new) (sym (handed_stays c r n e mine (omega (arith, within, is)))) (subst (λ a. HoldsAnswers c commands (take n (applied c r mine)) a) (sym same) (held commands are))
