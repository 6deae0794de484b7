-- Which batch is offered, as the listing has it.
use Rattle.std.proofs.Common.{◌≡◌, ◌%◌, ℕ, ◌+◌, ◌<◌, ◌≤◌, Bool, true, false, List, None, Some, inl, inr, is_some, ap, refl, sym, ◌∙◌, arith, true≢false}
use Rattle.std.specs.Prelude.{if◌then◌else◌}
use Rattle.std.specs.declared.option.Option.{Option}
use Rattle.std.proofs.lemmas.Bool.{cases_eq, cases_lt, false_from_ne_true}
use Rattle.mu_model.specs.declared.config.Config.{Config}
use Rattle.mu_model.specs.Contents.{client_of, command_count, row_count}
use Rattle.mu_knowledge.specs.Offers.{IsFirst, IsNextRow, batch_of, begins_after, clients_below, first_in}
use Rattle.mu_lead.specs.Listing.{batch_of_named, client_round, own_offer}
use Rattle.mu_knowledge.proofs.Firsts.{first_in_is, found_is}
use Rattle.mu_knowledge.proofs.Lasts.{below_clients}
use Rattle.mu_knowledge.proofs.NextRows.{after_passes, next_row, no_next_row}
use Rattle.mu_model.proofs.Basics.{none_some}

-- if the client has no next batch
some_row : (c : Config) (values : List ℕ) (client : ℕ) (o : Option ℕ) → IsFirst (begins_after c client (command_count c client values)) 0 (row_count c) o → is_some o ≡ true → (j : ℕ) × ((client_of c j ≡ client) × IsNextRow c values j)
some_row c values client None first some = absurd (true≢false (sym some))
some_row c values client (Some j) first some =
    let is = after_passes c client (command_count c client values) j first.1 first.2 in
    (j, (is.2, record { row = is.0; begins = is.1; next = is.3 ∙ ap (λ w. command_count c w values + 1) (sym is.2) }))

pub no_batch : (c : Config) (values : List ℕ) (client : ℕ) → ((j : ℕ) → client_of c j ≡ client → IsNextRow c values j → ⊥) → is_some (batch_of c values client) ≡ false
no_batch c values client none = false_from_ne_true (is_some (batch_of c values client)) (λ some. let x = some_row c values client (batch_of c values client) (first_in_is (begins_after c client (command_count c client values)) 0 (row_count c)) some in none x.0 x.1.0 x.1.1)

-- the first client that has one
pub client_found : (c : Config) (values : List ℕ) (from to client j : ℕ) → from ≤ client → client < to → Some j ≡ batch_of c values client → ((k : ℕ) → from ≤ k → k < client → is_some (batch_of c values k) ≡ false)
    → Some j ≡ batch_of_named c values (first_in (λ w. is_some (batch_of c values w)) from to)
client_found c values from to client j low high is none =
    is ∙ ap (batch_of_named c values) (found_is (λ w. is_some (batch_of c values w)) from to (Some client) (low, high, ap is_some (sym is), none))

pub none_found : (c : Config) (values : List ℕ) (from to : ℕ) → ((k : ℕ) → from ≤ k → k < to → is_some (batch_of c values k) ≡ false) → None ≡ batch_of_named c values (first_in (λ w. is_some (batch_of c values w)) from to)
none_found c values from to none = ap (batch_of_named c values) (found_is (λ w. is_some (batch_of c values w)) from to None none)

-- the clients round from k
round_here : (c : Config) (values : List ℕ) (k n : ℕ) (o : Option ℕ) → IsFirst (λ w. is_some (batch_of c values w)) k n o → is_some (batch_of_named c values o) ≡ is_some o
round_here c values k n None first = refl
round_here c values k n (Some w) first = first.2

pick_round : (c : Config) (values : List ℕ) (t : Bool) (x y : Option ℕ) → t ≡ is_some (batch_of_named c values x) → is_some (batch_of_named c values x) ≡ is_some x → (if t then batch_of_named c values x else batch_of_named c values y) ≡ batch_of_named c values (if is_some x then x else y)
pick_round c values true x y is same = rw (sym (is ∙ same)) refl
pick_round c values false x y is same = rw (sym (is ∙ same)) refl

pub round_on : (c : Config) (values : List ℕ) (k n : ℕ) (o : Option ℕ) → None ≡ batch_of_named c values (first_in (λ w. is_some (batch_of c values w)) k n) → o ≡ batch_of_named c values (first_in (λ w. is_some (batch_of c values w)) 0 k) → o ≡ batch_of_named c values (client_round c values k n)
round_on c values k n o none is =
    is ∙ pick_round c values false (first_in (λ w. is_some (batch_of c values w)) k n) (first_in (λ w. is_some (batch_of c values w)) 0 k) (ap is_some none) (round_here c values k n (first_in (λ w. is_some (batch_of c values w)) k n) (first_in_is (λ w. is_some (batch_of c values w)) k n))

-- the first client from k on, if it has one
pub round_found : (c : Config) (values : List ℕ) (k n j : ℕ) → Some j ≡ batch_of_named c values (first_in (λ w. is_some (batch_of c values w)) k n) → Some j ≡ batch_of_named c values (client_round c values k n)
round_found c values k n j is =
    is ∙ pick_round c values true (first_in (λ w. is_some (batch_of c values w)) k n) (first_in (λ w. is_some (batch_of c values w)) 0 k) (ap is_some is) (round_here c values k n (first_in (λ w. is_some (batch_of c values w)) k n) (first_in_is (λ w. is_some (batch_of c values w)) k n))

-- if there are no rows, there is no client with one
nothing : (c : Config) (values : List ℕ) (k n : ℕ) (o : Option ℕ) → row_count c ≡ 0 → IsFirst (λ w. is_some (batch_of c values w)) k n o → None ≡ batch_of_named c values o
nothing c values k n None none first = refl
nothing c values k n (Some w) none first = absurd (true≢false (sym first.2 ∙ no_batch c values w (λ j same row. (let there = row.row in omega (arith, there, none)))))

pub no_clients : (c : Config) (values : List ℕ) (k n : ℕ) → row_count c ≡ 0 → None ≡ batch_of_named c values (client_round c values k n)
no_clients c values k n none =
    let ahead = nothing c values k n (first_in (λ w. is_some (batch_of c values w)) k n) none (first_in_is (λ w. is_some (batch_of c values w)) k n) in
    let round = nothing c values 0 k (first_in (λ w. is_some (batch_of c values w)) 0 k) none (first_in_is (λ w. is_some (batch_of c values w)) 0 k) in
    round_on c values k n None ahead round

-- who counts no client has no rows
pub no_rows : (c : Config) → clients_below c (row_count c) ≡ 0 → row_count c ≡ 0
no_rows c none = elim (cases_eq (row_count c) 0) [
  | inl empty ↦ empty
  | inr some ↦ absurd (let below = below_clients c (row_count c) 0 (omega (arith, some)) in omega (arith, below, none))
]

-- the row of the batch that is offered begins the next batch of its client
pub offered_row : (c : Config) (r i j : ℕ) (values : List ℕ) → own_offer c r values i ≡ Some j → IsNextRow c values j
offered_row c r i j values is = go (client_round c values ((r + i) % clients_below c (row_count c)) (clients_below c (row_count c))) is
  where
    go : (o : Option ℕ) → batch_of_named c values o ≡ Some j → IsNextRow c values j
    go None is = absurd (none_some j is)
    go (Some w) is = next_row c values w j (sym is)

none_there : (o : Option ℕ) → is_some o ≡ false → None ≡ o
none_there None is = refl
none_there (Some x) is = absurd (true≢false is)

-- if none is offered, no row does
pub offered_none : (c : Config) (r i : ℕ) (values : List ℕ) → own_offer c r values i ≡ None → (j : ℕ) → IsNextRow c values j → ⊥
offered_none c r i values is j row =
    let n = clients_below c (row_count c) in
    let k = (r + i) % n in
    go k n (first_in (λ w. is_some (batch_of c values w)) k n) (first_in (λ w. is_some (batch_of c values w)) 0 k) (below_clients c (row_count c) j row.row) (first_in_is (λ w. is_some (batch_of c values w)) k n) (first_in_is (λ w. is_some (batch_of c values w)) 0 k) is
  where
    go : (k n : ℕ) (x y : Option ℕ) → client_of c j < n → IsFirst (λ w. is_some (batch_of c values w)) k n x → IsFirst (λ w. is_some (batch_of c values w)) 0 k y → batch_of_named c values (if is_some x then x else y) ≡ None → ⊥
    go k n (Some w) y below first round is = true≢false (sym first.2 ∙ ap is_some is)
    go k n None (Some w) below first round is = true≢false (sym round.2 ∙ ap is_some is)
    go k n None None below first round is = elim (cases_lt (client_of c j) k) [
      | inl less ↦ no_next_row c values (client_of c j) (none_there (batch_of c values (client_of c j)) (round (client_of c j) (omega arith) less)) j refl row
      | inr more ↦ no_next_row c values (client_of c j) (none_there (batch_of c values (client_of c j)) (first (client_of c j) more below)) j refl row
    ]
