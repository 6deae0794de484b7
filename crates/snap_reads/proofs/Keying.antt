-- The keys of commands in order of first use.
use Rattle.std.proofs.Common.{◌≡◌, ℕ, suc, ◌+◌, ◌<◌, ◌≤◌, Bool, true, false, cond, ◌&&◌, ◌||◌, not, List, [], ◌∷◌, ◌++◌, length, drop, get_or, refl, sym, ap, ◌∙◌, arith, append_assoc, filter}
use Rattle.std.specs.List.{list_any}
use Rattle.std.specs.Str.{bytes_eq}
use Rattle.std.specs.Cmp.Lexicographic.{bytes_decides}
use Rattle.std.proofs.Math.Seq.{drop-cons}
use Rattle.kv_store.specs.Commands.{Request, key_of}
use Rattle.snap_reads.specs.Keys.{keys_of}

-- whether the key is one of these
abbrev pub has : List (List ℕ) → List ℕ → Bool
has known key = list_any (λ other. bytes_eq other key) known

-- the keys that aren't known
abbrev pub lacking : List (List ℕ) → List (List ℕ) → List (List ℕ)
lacking known keys = filter (λ key. not (has known key)) keys

filter_agrees : (p q : List ℕ → Bool) (keys : List (List ℕ)) → ((key : List ℕ) → p key ≡ q key) → filter p keys ≡ filter q keys
filter_agrees p q keys same i = filter (λ key. same key i) keys

filter_twice : (p q : List ℕ → Bool) (keys : List (List ℕ)) → filter p (filter q keys) ≡ filter (λ key. q key && p key) keys
filter_twice p q [] = refl
filter_twice p q (key ∷ keys) = go (q key) (filter_twice p q keys)
  where
    go : (b : Bool) → filter p (filter q keys) ≡ filter (λ other. q other && p other) keys
        → filter p (cond b (key ∷ filter q keys) (filter q keys)) ≡ cond (b && p key) (key ∷ filter (λ other. q other && p other) keys) (filter (λ other. q other && p other) keys)
    go true rest = ap (λ l. cond (p key) (key ∷ l) l) rest
    go false rest = rest

-- no key is known at first
pub lacking_none : (keys : List (List ℕ)) → lacking [] keys ≡ keys
lacking_none [] = refl
lacking_none (key ∷ keys) = ap (λ l. key ∷ l) (lacking_none keys)

has_joined : (known : List (List ℕ)) (key other : List ℕ) → has (known ++ key ∷ []) other ≡ has known other || bytes_eq key other
has_joined [] key other = go (bytes_eq key other)
  where
    go : (b : Bool) → (b || false) ≡ (false || b)
    go true = refl
    go false = refl
has_joined (first ∷ known) key other = ap (λ b. bytes_eq first other || b) (has_joined known key other) ∙ go (bytes_eq first other)
  where
    go : (b : Bool) → (b || (has known other || bytes_eq key other)) ≡ ((b || has known other) || bytes_eq key other)
    go true = refl
    go false = refl

-- a key that is known is not noted again
pub known_key : (known keys : List (List ℕ)) (key : List ℕ) → has known key ≡ true → lacking known (key ∷ filter (λ other. not (bytes_eq key other)) keys) ≡ lacking known keys
known_key known keys key is =
    ap (λ b. cond (not b) (key ∷ lacking known (filter (λ other. not (bytes_eq key other)) keys)) (lacking known (filter (λ other. not (bytes_eq key other)) keys))) is
    ∙ (filter_twice (λ other. not (has known other)) (λ other. not (bytes_eq key other)) keys
    ∙ filter_agrees (λ other. not (bytes_eq key other) && not (has known other)) (λ other. not (has known other)) keys (λ other. go other (bytes_eq key other) refl))
  where
    go : (other : List ℕ) (b : Bool) → bytes_eq key other ≡ b → (not b && not (has known other)) ≡ not (has known other)
    go other true same = sym (ap (λ k. not (has known k)) (sym ((bytes_decides key other).0 same)) ∙ ap not is)
    go other false same = refl

-- a key that isn't known is noted
pub new_key : (known keys : List (List ℕ)) (key : List ℕ) → has known key ≡ false
    → known ++ lacking known (key ∷ filter (λ other. not (bytes_eq key other)) keys) ≡ (known ++ key ∷ []) ++ lacking (known ++ key ∷ []) keys
new_key known keys key is =
    ap (λ b. known ++ cond (not b) (key ∷ lacking known (filter (λ other. not (bytes_eq key other)) keys)) (lacking known (filter (λ other. not (bytes_eq key other)) keys))) is
    ∙ (ap (λ l. known ++ key ∷ l) (filter_twice (λ other. not (has known other)) (λ other. not (bytes_eq key other)) keys
    ∙ filter_agrees (λ other. not (bytes_eq key other) && not (has known other)) (λ other. not (has (known ++ key ∷ []) other)) keys (λ other. go (bytes_eq key other) (has known other) ∙ ap not (sym (has_joined known key other))))
    ∙ sym (append_assoc known (key ∷ []) (lacking (known ++ key ∷ []) keys)))
  where
    go : (a b : Bool) → (not a && not b) ≡ not (b || a)
    go true true = refl
    go true false = refl
    go false true = refl
    go false false = refl

-- the keys of the commands from one on
pub keys_of-drop : (commands : List Request) (i : ℕ) (command : Request) → i < length commands → command ≡ get_or commands i command
    → keys_of (drop i commands) ≡ key_of command.op ∷ filter (λ key. not (bytes_eq (key_of command.op) key)) (keys_of (drop (i + 1) commands))
keys_of-drop commands i command low is =
    ap keys_of (drop-cons commands i command low)
    ∙ (ap (λ (c : Request). keys_of (c ∷ drop (suc i) commands)) (sym is)
    ∙ (let one : suc i ≡ i + 1 = omega arith in ap (λ n. key_of command.op ∷ filter (λ key. not (bytes_eq (key_of command.op) key)) (keys_of (drop n commands))) one))

filter_shorter : (p : List ℕ → Bool) (keys : List (List ℕ)) → length (filter p keys) ≤ length keys
filter_shorter p [] = omega arith
filter_shorter p (key ∷ keys) = go (p key) (filter_shorter p keys)
  where
    go : (b : Bool) → length (filter p keys) ≤ length keys → length (cond b (key ∷ filter p keys) (filter p keys)) ≤ suc (length keys)
    go true rest = omega (arith, rest)
    go false rest = omega (arith, rest)

-- there are no more keys than commands
pub keys_few : (commands : List Request) → length (keys_of commands) ≤ length commands
keys_few [] = omega arith
keys_few (command ∷ commands) =
    let rest = keys_few commands in
    let less = filter_shorter (λ key. not (bytes_eq (key_of command.op) key)) (keys_of commands) in
    omega (arith, rest, less)
