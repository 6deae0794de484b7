-- Readers that were told of all commands, and what their last gets leave.
use Rattle.std.proofs.Common.{◌≡◌, ℕ, suc, ◌+◌, ◌<◌, ◌≤◌, List, [], ◌∷◌, ◌++◌, length, take, drop, refl, sym, ap, subst, ◌∙◌, arith, append_assoc, append-nil, length-append, length-take-le, take-suc, take_all, Vec, Global}
use Rattle.std.specs.Prelude.{All, slice_index_or, vec_capacity}
use Rattle.std.proofs.lemmas.List.{drop-append-le, drop_all, length-map, map_push}
use Rattle.std.proofs.lemmas.List.Elements.{All-nil, All-push}
use Rattle.kv_store.specs.Commands.{Request}
use Rattle.mu_model.specs.Histories.{IsPrefixOf}
use Rattle.snap_reads.specs.declared.sight.Sight.{Sight}
use Rattle.snap_reads.specs.declared.watching.Watcher.{Watcher}
use Rattle.snap_reads.specs.Keys.{gets_beside, round}
use Rattle.snap_reads.specs.Lives.{AreSights, HasWatched, keys_seen}
use Rattle.snap_reads.specs.Published.{AllBegin}
use Rattle.snap_reads.specs.Seats.{Note, Reading, fresh_reader}
use Rattle.snap_reads.specs.Sights.{AreRight, NeverFall}
use Rattle.snap_reads.proofs.Watched.{round_length, watched_length}

-- a reader of as many commands as the note tells, which took it in and has got this many keys since
pub record HasRead (told : Note) (all : List (List ℕ)) (count : ℕ) (reader : Reading) (sights : Vec Sight Global) : Type 0 where
  pub same : reader ≡ record { table = told.table; capacity = length told.list; seen = reader.seen; told = told.list ∷ [] }
  pub right : AreRight reader.seen sights.items
  pub keys : keys_seen sights.items ≡ round all (gets_beside all) ++ take count all
  pub rise : NeverFall 0 sights.items
  pub last : All (λ (s : Sight). s.seen.upto ≡ length told.list) (drop (gets_beside all) sights.items)
  pub whole : 0 < count → reader.seen ≡ told.list
  pub room : 200 + length all ≤ vec_capacity sights

-- it took the note in
pub told_first : (told : Note) (all : List (List ℕ)) (w : Watcher) (reader : Reading) → HasWatched (fresh_reader told.table (length told.list)) all (gets_beside all) w
    → reader ≡ record w.reader { told = told.list ∷ w.reader.told } → HasRead told all 0 reader w.sights
told_first told all w reader watched is = record {
  same = is ∙ (ap (λ (r : Reading). record r { told = told.list ∷ r.told }) watched.reader ∙ (λ i. record { table = told.table; capacity = length told.list; seen = (sym seen) i; told = told.list ∷ [] }));
  right = subst (λ (l : List Request). AreRight l w.sights.items) (sym seen) watched.right;
  keys = watched.keys ∙ sym (append-nil (round all (gets_beside all)));
  rise = watched.rise;
  last = subst (All (λ (s : Sight). s.seen.upto ≡ length told.list)) (sym (drop_all (gets_beside all) w.sights.items (omega (arith, watched_length (fresh_reader told.table (length told.list)) all (gets_beside all) w watched)))) (All-nil (λ (s : Sight). s.seen.upto ≡ length told.list));
  whole = λ some. absurd (omega (arith, some));
  room = watched.room;
}
  where
    seen : reader.seen ≡ w.reader.seen
    seen = ap (λ (r : Reading). r.seen) is

-- a list that another one begins, and that is no longer, is that one
whole_prefix : (xs list : List Request) → IsPrefixOf xs list → length list ≤ length xs → list ≡ xs
whole_prefix xs list begins short = begins.1 ∙ (ap (λ l. xs ++ l) (empty begins.0 (let long = ap length begins.1 in let both = length-append xs begins.0 in omega (arith, long, both, short))) ∙ append-nil xs)
  where
    empty : (ys : List Request) → length ys ≤ 0 → ys ≡ []
    empty [] low = refl
    empty (y ∷ ys) low = absurd (omega (arith, low))

-- there is a sight of each get
read_length : (told : Note) (all : List (List ℕ)) (count : ℕ) (reader : Reading) (sights : Vec Sight Global) → HasRead told all count reader sights → length sights.items ≡ gets_beside all + length (take count all)
read_length told all count reader sights read =
    let there = sym (length-map sights.items (λ (s : Sight). s.key)) ∙ ap length read.keys in
    let both = length-append (round all (gets_beside all)) (take count all) in
    let beside = round_length all (gets_beside all) in
    omega (arith, there, both, beside)

-- one more get
pub read_more : (told : Note) (all : List (List ℕ)) (k : ℕ) (before after : Reading) (old new : Vec Sight Global) (key : List ℕ) → HasRead told all k before old → k < length all → key ≡ slice_index_or all k key
    → after ≡ record before { seen = after.seen } → AllBegin before.told after.seen → length after.seen ≤ after.capacity
    → (sight : Sight) × (new.items ≡ old.items ++ sight ∷ []) × (sight.key ≡ key) × (sight.seen.upto ≡ length after.seen)
    → AreRight after.seen new.items → NeverFall 0 new.items → vec_capacity new ≡ vec_capacity old → HasRead told all (k + 1) after new
read_more told all k before after old new key read low is same begins within sight right rise capacity = record {
  same = same ∙ ap (λ (r : Reading). record r { seen = after.seen }) read.same;
  right = right;
  keys = ap keys_seen sight.1 ∙ (map_push (λ (s : Sight). s.key) old.items sight.0 ∙ (ap (λ l. l ++ sight.0.key ∷ []) read.keys
      ∙ (append_assoc (round all (gets_beside all)) (take k all) (sight.0.key ∷ [])
      ∙ ap (λ l. round all (gets_beside all) ++ l) (ap (λ x. take k all ++ x ∷ []) (sight.2 ∙ is) ∙ (sym (take-suc all k key low) ∙ ap (λ n. take n all) one)))));
  rise = rise;
  last = subst (All saw) (sym (ap (drop (gets_beside all)) sight.1 ∙ drop-append-le (gets_beside all) old.items (sight.0 ∷ []) (let long = read_length told all k before old read in omega (arith, long))))
      (All-push saw (drop (gets_beside all) old.items) sight.0 read.last (sight.3 ∙ ap length seen));
  whole = λ some. seen;
  room = (let room = read.room in omega (arith, room, capacity));
}
  where
    saw : Sight → Type 0
    saw s = s.seen.upto ≡ length told.list

    one : suc k ≡ k + 1
    one = omega arith

    full : after.capacity ≡ length told.list
    full = ap (λ (r : Reading). r.capacity) same ∙ ap (λ (r : Reading). r.capacity) read.same

    seen : after.seen ≡ told.list
    seen =
        let all_told = subst (λ (l : List (List Request)). AllBegin l after.seen) (ap (λ (r : Reading). r.told) read.same) begins in
        whole_prefix told.list after.seen all_told.0 (omega (arith, within, full))

few_gets : (all : List (List ℕ)) → gets_beside all ≤ 200
few_gets [] = omega arith
few_gets (key ∷ all) = omega arith

-- there is room for one more
pub read_room : (told : Note) (all : List (List ℕ)) (k : ℕ) (reader : Reading) (sights : Vec Sight Global) → HasRead told all k reader sights → k < length all → length sights.items < vec_capacity sights
read_room told all k reader sights read low =
    let long = read_length told all k reader sights read in
    let taken = length-take-le k all (omega (arith, low)) in
    let few = few_gets all in
    let room = read.room in
    omega (arith, long, taken, few, room, low)

no_sights : (sights : List Sight) → keys_seen sights ≡ [] → sights ≡ []
no_sights [] none = refl
no_sights (s ∷ sights) none = absurd (let long = ap length none in omega (arith, long))

right_without : (told : Note) (all : List (List ℕ)) (reader : Reading) (sights : Vec Sight Global) → HasRead told all (length all) reader sights → AreRight told.list sights.items
right_without told [] reader sights read = subst (λ (l : List Sight). AreRight told.list l) (sym (no_sights sights.items read.keys)) tt
right_without told (key ∷ all) reader sights read = subst (λ (l : List Request). AreRight l sights.items) (read.whole (omega arith)) read.right

-- it got every key
pub read_done : (told : Note) (all : List (List ℕ)) (count : ℕ) (reader : Reading) (sights : Vec Sight Global) → count ≡ length all → HasRead told all count reader sights → AreSights told.list all sights.items
read_done told all count reader sights is read =
    let done = subst (λ n. HasRead told all n reader sights) is read in
    record {
      right = right_without told all reader sights done;
      keys = done.keys ∙ ap (λ l. round all (gets_beside all) ++ l) (take_all (length all) all (omega arith));
      rise = done.rise;
      last = done.last;
    }
