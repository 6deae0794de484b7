-- The commands of a client among others.
use Rattle.std.proofs.Common.{◌≡◌, ◌≢◌, ℕ, zero, suc, ◌+◌, ◌<◌, ◌≤◌, ◌==◌, Bool, true, false, List, [], ◌∷◌, ◌++◌, length, map, take, refl, sym, ap, subst, ◌∙◌, ⊎_elim, eq-eqb, ne_eqb, arith, append-nil, length-append, take-suc}
use Rattle.std.specs.Prelude.{if◌then◌else◌, slice_index_or}
use Rattle.std.proofs.lemmas.List.Elements.{All-head, All-tail}
use Rattle.std.proofs.lemmas.Bool.Decides.{eqb_tells, leb_tells}
use Rattle.kv_store.specs.Commands.{Request}
use Rattle.kv_store.specs.Sessions.{numbers_of, CountsFrom, IsInSession}
use Rattle.mu_input.specs.Senders.{HaveSenders}
use Rattle.mu_input.specs.declared.TheConstants.{MOST_SENDERS}
use Rattle.front_desk.specs.Arrivals.{commands_by, IsArrival}

joined : (b : Bool) (x : Request) (xs ys : List Request) → (if b then x ∷ (xs ++ ys) else (xs ++ ys)) ≡ (if b then x ∷ xs else xs) ++ ys
joined true x xs ys = refl
joined false x xs ys = refl

pub commands_by-append : (client : ℕ) (xs ys : List Request) → commands_by client (xs ++ ys) ≡ commands_by client xs ++ commands_by client ys
commands_by-append client [] ys = refl
commands_by-append client (x ∷ xs) ys =
    ap (λ rest. if x.client == client then x ∷ rest else rest) (commands_by-append client xs ys) ∙ joined (x.client == client) x (commands_by client xs) (commands_by client ys)

pub commands_by-own : (client : ℕ) (x : Request) (xs : List Request) → x.client ≡ client → commands_by client (x ∷ xs) ≡ x ∷ commands_by client xs
commands_by-own client x xs is = ap (λ b. if b then x ∷ commands_by client xs else commands_by client xs) (eq-eqb x.client client is)

pub commands_by-other : (client : ℕ) (x : Request) (xs : List Request) → x.client ≢ client → commands_by client (x ∷ xs) ≡ commands_by client xs
commands_by-other client x xs apart = ap (λ b. if b then x ∷ commands_by client xs else commands_by client xs) (ne_eqb x.client client apart)

-- how many commands the first clients have
abbrev total : ℕ → List Request → ℕ
total zero xs = 0
total (suc n) xs = total n xs + length (commands_by n xs)

total-nil : (n : ℕ) → total n [] ≡ 0
total-nil zero = refl
total-nil (suc n) = omega (arith, total-nil n)

total-out : (n : ℕ) (x : Request) (xs : List Request) → n ≤ x.client → total n (x ∷ xs) ≡ total n xs
total-out zero x xs out = refl
total-out (suc n) x xs out = omega (arith, total-out n x xs (omega (arith, out)), ap length (commands_by-other n x xs (λ e. absurd (omega (arith, out, e)))))

total-in : (n : ℕ) (x : Request) (xs : List Request) → x.client < n → total n (x ∷ xs) ≡ suc (total n xs)
total-in zero x xs inside = absurd (omega (arith, inside))
total-in (suc n) x xs inside = ⊎_elim
    (λ (t : ((x.client == n) ≡ true) × (x.client ≡ n)). omega (arith, total-out n x xs (omega (arith, t.1)), ap length (commands_by-own n x xs t.1)))
    (λ (t : ((x.client == n) ≡ false) × (x.client ≢ n)). omega (arith, total-in n x xs (omega (arith, inside, t.1)), ap length (commands_by-other n x xs t.1)))
    (eqb_tells x.client n)

-- if no client past the first has any, these are all commands
total-all : (n : ℕ) (xs : List Request) → ((client : ℕ) → n ≤ client → commands_by client xs ≡ []) → total n xs ≡ length xs
total-all n [] none = total-nil n
total-all n (x ∷ xs) none = ⊎_elim
    (λ (t : _ × (n ≤ x.client)). absurd (some_left x (commands_by x.client xs) (sym (commands_by-own x.client x xs refl) ∙ none x.client t.1)))
    (λ (t : _ × (x.client < n)). total-in n x xs t.1 ∙ ap suc (total-all n xs (λ client past. sym (commands_by-other client x xs (λ e. absurd (omega (arith, past, e, t.1)))) ∙ none client past)))
    (leb_tells n x.client)
  where
    some_left : (y : Request) (ys : List Request) → y ∷ ys ≡ [] → ⊥
    some_left y ys e = cc

total-same : (n : ℕ) (xs ys : List Request) → ((client : ℕ) → commands_by client xs ≡ commands_by client ys) → total n xs ≡ total n ys
total-same zero xs ys same = refl
total-same (suc n) xs ys same = omega (arith, total-same n xs ys same, ap length (same n))

-- commands that all have a sender are of no client past the last
pub none_beyond : (commands : List Request) → HaveSenders commands → (client : ℕ) → MOST_SENDERS ≤ client → commands_by client commands ≡ []
none_beyond [] all client past = refl
none_beyond (x ∷ xs) all client past =
    let mine : x.client < MOST_SENDERS = All-head (λ (c : Request). c.client < MOST_SENDERS) x xs all in
    commands_by-other client x xs (λ e. absurd (omega (arith, past, e, mine))) ∙ none_beyond xs (All-tail (λ (c : Request). c.client < MOST_SENDERS) x xs all) client past

nothing : (xs : List Request) → length xs ≡ 0 → xs ≡ []
nothing [] e = refl
nothing (x ∷ xs) e = absurd (omega (arith, e))

-- if what arrived has as many commands, nothing is left behind it
pub whole_arrival : (given arrived left : List Request) → HaveSenders given → length arrived ≡ length given → IsArrival given (arrived ++ left) → IsArrival given arrived
whole_arrival given arrived left all count same client =
    ap (commands_by client) (sym (append-nil arrived) ∙ ap (λ rest. arrived ++ rest) (sym none)) ∙ same client
  where
    none : left ≡ []
    none = nothing left (omega (
      arith,
      total-all 4 given (none_beyond given all),
      total-all 4 (arrived ++ left) (λ client past. same client ∙ none_beyond given all client past),
      total-same 4 (arrived ++ left) given same,
      length-append arrived left,
      count,
    ))

numbers-are : (client : ℕ) (xs : List Request) → numbers_of client xs ≡ map (λ (x : Request). x.number) (commands_by client xs)
numbers-are client [] = refl
numbers-are client (x ∷ xs) = by_test (x.client == client) (numbers-are client xs)
  where
    by_test : (b : Bool) → numbers_of client xs ≡ map (λ (x : Request). x.number) (commands_by client xs)
        → (if b then x.number ∷ numbers_of client xs else numbers_of client xs) ≡ map (λ (x : Request). x.number) (if b then x ∷ commands_by client xs else commands_by client xs)
    by_test true rest = ap (λ numbers. x.number ∷ numbers) rest
    by_test false rest = rest

-- an arrival of commands in session is in session
pub arrival_in_session : (given arrived : List Request) → IsArrival given arrived → IsInSession given → IsInSession arrived
arrival_in_session given arrived same session client =
    subst (CountsFrom 1) (numbers-are client given ∙ ap (map (λ (x : Request). x.number)) (sym (same client)) ∙ sym (numbers-are client arrived)) (session client)

-- the commands of a client among the first of a list, with one more
pub commands_by-next : (client i : ℕ) (xs : List Request) (x : Request) → i < length xs → x ≡ slice_index_or xs i x → commands_by client (take (i + 1) xs) ≡ commands_by client (take i xs) ++ commands_by client (x ∷ [])
commands_by-next client i xs x inside is =
    ap (commands_by client) (ap (λ k. take k xs) one ∙ (take-suc xs i x inside ∙ ap (λ y. take i xs ++ y ∷ []) (sym is))) ∙ commands_by-append client (take i xs) (x ∷ [])
  where
    one : i + 1 ≡ suc i
    one = omega arith
