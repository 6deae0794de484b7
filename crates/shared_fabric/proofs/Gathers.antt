-- For cutting all seats off and taking them in.
use Rattle.std.proofs.Common.{◌≡◌, ℕ, zero, suc, ◌+◌, ◌<◌, ◌==◌, Bool, true, false, cond, List, [], ◌∷◌, ◌++◌, get_or, length, map, reverse, Some, refl, sym, ap, subst, ◌∙◌, eqb-true, length-append, arith}
use Rattle.std.specs.Prelude.{All, nat_lt, not}
use Rattle.std.specs.List.{slice_get}
use Rattle.std.proofs.lemmas.Bool.{eqb-false, lt-ltb}
use Rattle.std.proofs.lemmas.List.{reverse-reverse}
use Rattle.std.proofs.lemmas.Option.{slice_get-get_or, slice_get-map, slice_get_within}
use Rattle.std.specs.Option.{option_map}
use Rattle.atomic_table.specs.Seated.{TableId}
use Rattle.mu_model.specs.declared.config.Config.{Config}
use Rattle.mu_model.specs.declared.event.Event.{Event}
use Rattle.mu_model.specs.Histories.{has, history, part}
use Rattle.mu_model.specs.Legal.{IsLegalHistory}
use Rattle.mu_model.proofs.Basics.{none_some, same_some}
use Rattle.mu_model.proofs.Lists.{get_push_here, get_push_other}
use Rattle.mu_model.proofs.Parts.{history-part}
use Rattle.shared_steps.specs.declared.rule.Entry.{Entry}
use Rattle.shared_steps.specs.Rule.{HaveOneList, entry, entry_of}
use Rattle.shared_steps.proofs.Entries.{entry_here, entry_there}
use Rattle.shared_fabric.specs.Gathering.{AreOfOneList, ArePorts, IsPortOf, IsSamePort, PortValue, StayingIsEnough, collected, fresh_port, fresh_ports, part_of_entry, parts_from}

pub length_fresh : (table : TableId) (c : Config) (n : ℕ) → length (fresh_ports table c n) ≡ n
length_fresh table c zero = refl
length_fresh table c (suc n) = omega (arith, length-append (fresh_ports table c n) (fresh_port table c n ∷ []), length_fresh table c n)

pub fresh_more : (table : TableId) (c : Config) (n : ℕ) → fresh_ports table c (n + 1) ≡ fresh_ports table c n ++ fresh_port table c n ∷ []
fresh_more table c n = let e : n + 1 ≡ suc n = omega arith in ap (fresh_ports table c) e

all_last : {X : Type 0} (P : X → Type 0) → (xs : List X) (x : X) → All P (xs ++ x ∷ []) → P x
all_last P [] x h = h 0 x (omega arith)
all_last P (y ∷ ys) x h = all_last P ys x (λ k d l. h (suc k) d (omega arith))

-- what holds of all holds of the last
pub last_of : {X : Type 0} (P : X → Type 0) → (xs ys : List X) (x : X) → ys ≡ xs ++ x ∷ [] → All P ys → P x
last_of P xs ys x is h = all_last P xs x (subst (λ l. All P l) is h)

pub map_snoc : {X Y : Type 0} (f : X → Y) → (xs : List X) (x : X) → map f (xs ++ x ∷ []) ≡ map f xs ++ f x ∷ []
map_snoc f [] x = refl
map_snoc f (y ∷ ys) x = ap (λ l. f y ∷ l) (map_snoc f ys x)

pub length_of_map : {X Y : Type 0} (f : X → Y) → (xs : List X) → length (map f xs) ≡ length xs
length_of_map f [] = refl
length_of_map f (x ∷ xs) = ap suc (length_of_map f xs)

pub nothing_left : {X : Type 0} → (l : List X) → length l ≡ 0 → l ≡ []
nothing_left [] h = refl
nothing_left (x ∷ xs) h = absurd (omega arith)

pub get_middle : {X : Type 0} → (xs ys : List X) (x : X) → slice_get (xs ++ x ∷ ys) (length xs) ≡ Some x
get_middle [] ys x = refl
get_middle (z ∷ zs) ys x = get_middle zs ys x

pub some_at : {X : Type 0} → (xs : List X) (i : ℕ) → i < length xs → (x : X) × (slice_get xs i ≡ Some x)
some_at [] i h = absurd (omega arith)
some_at (x ∷ xs) zero h = (x, refl)
some_at (x ∷ xs) (suc i) h = some_at xs i (omega arith)

-- the entries of the ports that were taken in, with one more of them
pub taken_more : (ports : List PortValue) (p : PortValue) (es es' : List Entry) (q : ℕ) (mine : List Event) (seen : List (Event × ℕ)) → q ≡ length ports → mine ≡ p.part → es' ≡ entry q mine seen ∷ es
    → ((r : ℕ) (x : PortValue) → slice_get ports r ≡ Some x → (s : List (Event × ℕ)) × (entry_of r es ≡ Some (entry r x.part s)))
    → (r : ℕ) (x : PortValue) → slice_get (ports ++ p ∷ []) r ≡ Some x → (s : List (Event × ℕ)) × (entry_of r es' ≡ Some (entry r x.part s))
taken_more ports p es es' q mine seen is_q is_mine is old r x at = go (r == length ports) refl
  where
    go : (t : Bool) → (r == length ports) ≡ t → (s : List (Event × ℕ)) × (entry_of r es' ≡ Some (entry r x.part s))
    go true k =
        let here = eqb-true r (length ports) k in
        let same : p ≡ x = same_some p x (sym (get_push_here ports r p here) ∙ at) in
        let is_r : q ≡ r = is_q ∙ sym here in
        (seen, ap (entry_of r) is ∙ (entry_here (entry q mine seen) es r is_r ∙ (λ i. Some (entry (is_r i) ((is_mine ∙ ap (λ (y : PortValue). y.part) same) i) seen))))
    go false k =
        let ne = eqb-false r (length ports) k in
        let o = old r x (sym (get_push_other ports r p ne) ∙ at) in
        (o.0, ap (entry_of r) is ∙ (entry_there (entry q mine seen) es r (λ same. ne (sym same ∙ is_q)) ∙ o.1))

-- a legal list has no event of another replica
only_replicas : (c : Config) (past : List Event) → IsLegalHistory c past → has (λ e. not (nat_lt e.by c.replicas)) past ≡ false
only_replicas c [] h = refl
only_replicas c (e ∷ past) h = ap (λ b. cond (not b) true (has (λ x. not (nat_lt x.by c.replicas)) past)) (lt-ltb e.by c.replicas h.1.allowed.replica) ∙ only_replicas c past h.0

-- the part of r in the list, which is in true order
in_order : (events : List Event) (r : ℕ) (mine : List Event) → mine ≡ part r (history events) → reverse mine ≡ part r events
in_order events r mine is = ap reverse is ∙ (sym (ap reverse (history-part r events)) ∙ reverse-reverse (part r events))

-- the parts of replicas from k on, as entries have them, are those of the ports
parts_are : (es : List Entry) (k : ℕ) (ports : List PortValue)
    → ((i : ℕ) (p : PortValue) → slice_get ports i ≡ Some p → (seen : List (Event × ℕ)) × (entry_of (k + i) es ≡ Some (entry (k + i) p.part seen)))
    → parts_from k (length ports) es ≡ map (λ (p : PortValue). reverse p.part) ports
parts_are es k [] taken = refl
parts_are es k (p ∷ ps) taken =
    let here = taken 0 p refl in
    let same : k ≡ k + 0 = omega arith in
    let head : part_of_entry (entry_of k es) ≡ reverse p.part = ap (λ n. part_of_entry (entry_of n es)) same ∙ ap part_of_entry here.1 in
    let rest : parts_from (suc k) (length ps) es ≡ map (λ (q : PortValue). reverse q.part) ps = parts_are es (suc k) ps (λ i q at.
    let on : k + suc i ≡ suc k + i = omega arith in
    let t = taken (suc i) q at in
    (t.0, subst (λ n. entry_of n es ≡ Some (entry n q.part t.0)) on t.1)) in
    λ i. head i ∷ rest i

-- the ports were taken in
module _ (c : Config) (ports : List PortValue) (es : List Entry) (count : length ports ≡ c.replicas)
    (taken : (r : ℕ) (p : PortValue) → slice_get ports r ≡ Some p → (seen : List (Event × ℕ)) × (entry_of r es ≡ Some (entry r p.part seen))) where
  all_parts : parts_from 0 c.replicas es ≡ map (λ (p : PortValue). reverse p.part) ports
  all_parts = ap (λ n. parts_from 0 n es) (sym count)
      ∙ parts_are es 0 ports (λ i p at. let same : i ≡ 0 + i = omega arith in let t = taken i p at in (t.0, subst (λ n. entry_of n es ≡ Some (entry n p.part t.0)) same t.1))

  pub gathered_is : collected c es ≡ record { config = c; parts = map (λ (p : PortValue). reverse p.part) ports }
  gathered_is = λ i. record { config = c; parts = all_parts i }

  pub gathers : HaveOneList c es → AreOfOneList (collected c es)
  gathers one = record {
    events = one.events;
    legal = one.legal;
    has_parts = record {
      count = ap length all_parts ∙ (length_of_map (λ (p : PortValue). reverse p.part) ports ∙ count);
      each = λ r below.
          let p = some_at ports r (omega (arith, count)) in
          let t = taken r p.0 p.1 in
          let its : reverse p.0.part ≡ part r one.events = in_order one.events r p.0.part (one.parts r (entry r p.0.part t.0) t.1) in
          ap (λ (l : List (List Event)). slice_get l r) all_parts
          ∙ (slice_get-map (λ (x : PortValue). reverse x.part) ports r ∙ (ap (option_map (λ (x : PortValue). reverse x.part)) p.1 ∙ ap Some its));
      whole = only_replicas c (history one.events) one.legal;
    };
  }

fresh_each : (table : TableId) (c : Config) (n r : ℕ) (p : PortValue) → slice_get (fresh_ports table c n) r ≡ Some p → IsPortOf table c r p
fresh_each table c zero r p h = absurd (none_some p h)
fresh_each table c (suc n) r p h = go (r == length (fresh_ports table c n)) refl (fresh_each table c n r p)
  where
    go : (t : Bool) → (r == length (fresh_ports table c n)) ≡ t → (slice_get (fresh_ports table c n) r ≡ Some p → IsPortOf table c r p) → IsPortOf table c r p
    go true k rest =
        let here = eqb-true r (length (fresh_ports table c n)) k in
        let same : fresh_port table c n ≡ p = same_some (fresh_port table c n) p (sym (get_push_here (fresh_ports table c n) r (fresh_port table c n) here) ∙ h) in
        subst (λ (x : PortValue). IsPortOf table c r x) same record { same_table = refl; same_config = refl; same_id = sym (here ∙ length_fresh table c n) }
    go false k rest = rest (sym (get_push_other (fresh_ports table c n) r (fresh_port table c n) (eqb-false r (length (fresh_ports table c n)) k)) ∙ h)

-- fresh ports are the ports of all replicas
pub fresh_are : (table : TableId) (c : Config) (ports : List PortValue) → ports ≡ fresh_ports table c c.replicas → ArePorts table c ports
fresh_are table c ports is = subst (ArePorts table c) (sym is) record { count = length_fresh table c c.replicas; each = fresh_each table c c.replicas }

pub staying_is_enough_law : StayingIsEnough
staying_is_enough_law table c old new are stay = record {
  count = stay.count ∙ are.count;
  each = λ r q at.
      let below = slice_get_within new r q at in
      let before : r < length old = omega (arith, below, stay.count) in
      let here : get_or new r q ≡ q = same_some (get_or new r q) q (sym (slice_get-get_or new r q below) ∙ at) in
      let was = are.each r (get_or old r q) (slice_get-get_or old r q before) in
      let same = subst (λ (x : PortValue). IsSamePort (get_or old r q) x) here (stay.each r q before) in
      record { same_table = same.table ∙ was.same_table; same_config = same.config ∙ was.same_config; same_id = same.id ∙ was.same_id };
}
