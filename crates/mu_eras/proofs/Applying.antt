-- Commands that a replica applies one after the other, and the replies that are kept of them.
use Rattle.std.proofs.Common.{◌≡◌, ◌∙◌, ℕ, suc, zero, ◌+◌, ◌-◌, ◌%◌, ◌<◌, ◌≤◌, Bool, true, false, cond, List, [], ◌∷◌, ◌++◌, Some, ap, append-nil, append_assoc, arith, drop, inl, inr, length, refl, set, subst, sym, take}
use Rattle.std.specs.List.{slice_get}
use Rattle.std.specs.declared.option.Option.{Option}
use Rattle.std.proofs.lemmas.Bool.{cases_eq}
use Rattle.std.proofs.lemmas.List.{length-append, length-drop, length-take, take-append-drop}
use Rattle.std.proofs.lemmas.Option.{slice_get_within}
use Rattle.kv_store.specs.Commands.{Request}
use Rattle.kv_store.specs.Tables.{Table, replies_from, reply_to, store_from, table_after}
use Rattle.kv_store.specs.declared.store.Reply.{Reply}
use Rattle.kv_store.proofs.Runs.{length-replies_from, replies_from-append, store_from-append}
use Rattle.mu_model.specs.declared.config.Config.{Config}
use Rattle.mu_model.specs.Contents.{IsConfig, is_batch, rest_of, row_count}
use Rattle.mu_model.proofs.Basics.{same_some}
use Rattle.mu_model.proofs.Lists.{get_set_here, get_set_other, item_below}
use Rattle.mu_knowledge.proofs.Fetched.{batch_there}
use Rattle.mu_follow.proofs.Spelled.{get_first}
use Rattle.mu_follow.specs.Groups.{AreSpelled, group_of, group_size, groups_of}
use Rattle.mu_eras.specs.Applied.{Applies, IsKept, IsTold, TellsOrder}
use Rattle.mu_eras.specs.declared.applied.Applied.{Applied}

-- what stands behind a list
pub get_behind : {A : Type 0} (xs ys : List A) (k : ℕ) → slice_get (xs ++ ys) (length xs + k) ≡ slice_get ys k
get_behind [] ys k = ap (slice_get ys) (omega arith)
get_behind (x ∷ xs) ys k = (let on : suc (length xs) + k ≡ suc (length xs + k) = omega arith in ap (slice_get (x ∷ xs ++ ys)) on) ∙ get_behind xs ys k

-- some, and then others
pub applies_more : (commands xs ys : List Request) (a b d : Applied) (t u v : List (Option Reply)) → Applies commands xs a b t u → Applies commands ys b d u v → Applies commands (xs ++ ys) a d t v
applies_more commands xs ys a b d t u v first next = record {
  table = next.table ∙ ap (λ s. store_from s ys) first.table ∙ sym (store_from-append a.store.table xs ys);
  room = (let long = length-append xs ys in let one = first.room in let two = next.room in omega (arith, long, one, two));
  count = (let long = length-append xs ys in let one = first.count in let two = next.count in omega (arith, long, one, two));
  places = next.places ∙ first.places;
  keeps = λ row is. next.keeps row (first.keeps row is);
  tells = tells;
}
  where
    tells : (base : Table) (before rest : List Request) → a.store.table ≡ store_from base before → TellsOrder base commands (before ++ (xs ++ ys) ++ rest) t → TellsOrder base commands (before ++ (xs ++ ys) ++ rest) v
    tells base before rest is told =
        let split : before ++ (xs ++ ys) ++ rest ≡ before ++ xs ++ ys ++ rest = ap (λ l. l ++ rest) (sym (append_assoc before xs ys)) in
        let over : before ++ xs ++ ys ++ rest ≡ before ++ xs ++ (ys ++ rest) = append_assoc (before ++ xs) ys rest in
        let mid = first.tells base before (ys ++ rest) is (subst (λ o. TellsOrder base commands o t) (split ∙ over) told) in
        let table = first.table ∙ ap (λ s. store_from s xs) is ∙ sym (store_from-append base before xs) in
        let last = next.tells base (before ++ xs) rest table (subst (λ o. TellsOrder base commands o u) (sym over) mid) in
        subst (λ o. TellsOrder base commands o v) (sym split) last

-- one command
pub applies_one : (commands : List Request) (command : Request) (row : ℕ) (a b : Applied) (t u : List (Option Reply)) → slice_get commands row ≡ Some command → row < length t → u ≡ set t row (Some (reply_to a.store.table command.op))
    → length u ≡ length t → b.store.table ≡ table_after a.store.table command.op → a.store.room ≤ b.store.room + 1 → b.commands ≡ a.commands + 1 → Applies commands (command ∷ []) a b t u
applies_one commands command row a b t u at low is places table room count = record { table = table; room = omega (arith, room); count = omega (arith, count); places = places; keeps = keeps; tells = tells }
  where
    reply : Reply
    reply = reply_to a.store.table command.op

    keeps : (i : ℕ) → IsKept t i → IsKept u i
    keeps i kept = elim (cases_eq i row) [
      | inl same ↦ record {
        reply = reply_to a.store.table command.op;
        at =
            ap (λ l. slice_get l i) is ∙ ap (slice_get (set t row (Some (reply_to a.store.table command.op)))) same
            ∙ get_set_here t row (Some (reply_to a.store.table command.op)) low;
      }
      | inr other ↦ record {
        reply = kept.reply;
        at = ap (λ l. slice_get l i) is ∙ get_set_other t i row (Some (reply_to a.store.table command.op)) other ∙ kept.at;
      }
    ]

    here : (base : Table) (before rest : List Request) → a.store.table ≡ store_from base before → IsTold base commands (before ++ (command ∷ []) ++ rest) row (reply_to a.store.table command.op)
    here base before rest is_table = subst (λ o. IsTold base commands o row (reply_to a.store.table command.op)) (sym (append_assoc before (command ∷ []) rest)) (record {
      place = length before + 0;
      command = command;
      submitted = at;
      ordered = get_behind before (command ∷ rest) 0;
      replied =
          ap (λ l. slice_get l (length before + 0)) (replies_from-append base before (command ∷ rest))
          ∙ ap (λ n. slice_get (replies_from base before ++ replies_from (store_from base before) (command ∷ rest)) (n + 0)) (sym (length-replies_from base before))
          ∙ get_behind (replies_from base before) (replies_from (store_from base before) (command ∷ rest)) 0
          ∙ ap (λ s. Some (reply_to s command.op)) (sym is_table);
    })

    tells : (base : Table) (before rest : List Request) → a.store.table ≡ store_from base before → TellsOrder base commands (before ++ (command ∷ []) ++ rest) t → TellsOrder base commands (before ++ (command ∷ []) ++ rest) u
    tells base before rest is_table told i x there = elim (cases_eq i row) [
      | inl same ↦
          let found : slice_get (set t row (Some (reply_to a.store.table command.op))) i ≡ Some (Some x) = ap (λ l. slice_get l i) (sym is) ∙ there in
          let own : Some (Some (reply_to a.store.table command.op)) ≡ Some (Some x) = sym (get_set_here t row (Some (reply_to a.store.table command.op)) low) ∙ ap (slice_get (set t row (Some (reply_to a.store.table command.op)))) (sym same) ∙ found in
          let value = same_some (reply_to a.store.table command.op) x (same_some (Some (reply_to a.store.table command.op)) (Some x) own) in
          subst (λ n. IsTold base commands (before ++ (command ∷ []) ++ rest) n x) (sym same) (subst (IsTold base commands (before ++ (command ∷ []) ++ rest) row) value (here base before rest is_table))
      | inr other ↦ told i x (sym (get_set_other t i row (Some (reply_to a.store.table command.op)) other) ∙ ap (λ l. slice_get l i) (sym is) ∙ there)
    ]

pub take_more : {A : Type 0} (n : ℕ) (xs : List A) (x : A) → slice_get xs n ≡ Some x → take (n + 1) xs ≡ take n xs ++ x ∷ []
take_more n [] x at = cc
take_more zero (y ∷ ys) x at = ap (λ z. z ∷ []) (same_some y x at)
take_more (suc n) (y ∷ ys) x at = let one : suc n + 1 ≡ suc (n + 1) = omega arith in ap (λ m. take m (y ∷ ys)) one ∙ ap (λ l. y ∷ l) (take_more n ys x at)

pub take_whole : {A : Type 0} (n : ℕ) (xs : List A) → length xs ≤ n → take n xs ≡ xs
take_whole zero [] few = refl
take_whole zero (x ∷ xs) few = absurd (omega (arith, few))
take_whole (suc n) [] few = refl
take_whole (suc n) (x ∷ xs) few = ap (λ l. x ∷ l) (take_whole n xs (omega (arith, few)))

pub take_twice : {A : Type 0} (n m : ℕ) (xs : List A) → n ≤ m → take n (take m xs) ≡ take n xs
take_twice zero m xs low = refl
take_twice (suc n) zero xs low = absurd (omega (arith, low))
take_twice (suc n) (suc m) [] low = refl
take_twice (suc n) (suc m) (x ∷ xs) low = ap (λ l. x ∷ l) (take_twice n m xs (omega (arith, low)))

get_drop : {A : Type 0} (m i : ℕ) (xs : List A) → slice_get (drop m xs) i ≡ slice_get xs (m + i)
get_drop zero i xs = let same : i ≡ 0 + i = omega arith in ap (λ n. slice_get xs n) same
get_drop (suc m) i [] = refl
get_drop (suc m) i (x ∷ xs) = let same : suc (m + i) ≡ suc m + i = omega arith in get_drop m i xs ∙ ap (λ n. slice_get (x ∷ xs) n) same

-- the next command of an entry
pub record NextOf (c : Config) (commands : List Request) (v t : ℕ) : Type 0 where
  pub command : Request
  pub low : v % 4096 + t < row_count c
  pub inside : t < length (group_of c commands v)
  pub at : slice_get commands (v % 4096 + t) ≡ Some command
  pub more : take (t + 1) (group_of c commands v) ≡ take t (group_of c commands v) ++ command ∷ []

pub next_of : (c : Config) (commands : List Request) (v t : ℕ) → IsConfig c → AreSpelled c commands → t < group_size c v → NextOf c commands v t
next_of c commands v t good are low = go (is_batch c v) refl low
  where
    go : (b : Bool) → is_batch c v ≡ b → t < cond b (rest_of c (v % 4096) + 1) 0 → NextOf c commands v t
    go true batch low =
        let there = (batch_there c v good batch).1 in
        let long = are.count in
        let found = item_below commands (v % 4096 + t) (omega (arith, long, there, low)) in
        let whole : group_of c commands v ≡ take (rest_of c (v % 4096) + 1) (drop (v % 4096) commands) = rw batch refl in
        let here : slice_get (group_of c commands v) t ≡ Some found.0 = ap (λ l. slice_get l t) whole ∙ get_first (rest_of c (v % 4096) + 1) t (drop (v % 4096) commands) low ∙ get_drop (v % 4096) t commands ∙ found.1 in
        record {
          command = found.0;
          low = omega (arith, there, low);
          inside = slice_get_within (group_of c commands v) t found.0 here;
          at = found.1;
          more = take_more t (group_of c commands v) found.0 here;
        }
    go false batch low = absurd (omega (arith, low))

-- all commands of an entry
pub whole_of : (c : Config) (commands : List Request) (v : ℕ) → take (group_size c v) (group_of c commands v) ≡ group_of c commands v
whole_of c commands v = take_whole (group_size c v) (group_of c commands v) (go (is_batch c v))
  where
    go : (b : Bool) → length (cond b (take (rest_of c (v % 4096) + 1) (drop (v % 4096) commands)) []) ≤ cond b (rest_of c (v % 4096) + 1) 0
    go true = let long = length-take (rest_of c (v % 4096) + 1) (drop (v % 4096) commands) in omega (arith, long)
    go false = omega arith

-- the commands of entries, and of one more
pub groups_both : (c : Config) (commands : List Request) (xs ys : List ℕ) → groups_of c commands (xs ++ ys) ≡ groups_of c commands xs ++ groups_of c commands ys
groups_both c commands [] ys = refl
groups_both c commands (x ∷ xs) ys = ap (λ l. group_of c commands x ++ l) (groups_both c commands xs ys) ∙ sym (append_assoc (group_of c commands x) (groups_of c commands xs) (groups_of c commands ys))

pub groups_next : (c : Config) (commands : List Request) (xs : List ℕ) (v : ℕ) → groups_of c commands (xs ++ v ∷ []) ≡ groups_of c commands xs ++ group_of c commands v
groups_next c commands xs v = groups_both c commands xs (v ∷ []) ∙ ap (λ l. groups_of c commands xs ++ l) (append-nil (group_of c commands v))

-- an entry of a list of entries has no more commands than are left
pub group_fits : (c : Config) (commands : List Request) (xs : List ℕ) (i v : ℕ) → slice_get xs i ≡ Some v → length (groups_of c commands (take i xs)) + length (group_of c commands v) ≤ length (groups_of c commands xs)
group_fits c commands xs i v at =
    let front = take (i + 1) xs in
    let back = drop (i + 1) xs in
    let whole = ap (λ l. length (groups_of c commands l)) (take-append-drop (i + 1) xs) in
    let both = ap length (groups_both c commands front back) in
    let long = length-append (groups_of c commands front) (groups_of c commands back) in
    let next = ap (λ l. length (groups_of c commands l)) (take_more i xs v at) in
    let more = ap length (groups_next c commands (take i xs) v) in
    let one = length-append (groups_of c commands (take i xs)) (group_of c commands v) in
    omega (arith, whole, both, long, next, more, one)

-- a slice from a place on
pub rest_is : (n : ℕ) (xs : List ℕ) → take (length xs - n) (drop n xs) ≡ drop n xs
rest_is n xs = take_whole (length xs - n) (drop n xs) (let long = length-drop n xs in omega (arith, long))
