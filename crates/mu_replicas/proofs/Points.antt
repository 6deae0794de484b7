-- Tests that tell whether a point is met.
use Rattle.std.proofs.lemmas.List.{append-nil}
use Rattle.std.proofs.Common.{suc, ◌+◌, ℕ, ◌<◌, ◌≤◌, ◌≡◌, Bool, true, false, None, Some, List, [], ◌∷◌, ◌++◌, refl, sym, ◌∙◌, ap, subst, arith, append_assoc}
use Rattle.std.specs.Prelude.{IsTrue, is_some, max, nat_le, nat_lt, not, ◌==◌, ◌↔◌, ◌≢◌}
use Rattle.std.specs.declared.option.Option.{Option}
use Rattle.std.proofs.lemmas.Bool.{and_parts, eq-eqb, eqb-true, eqb-false, false≢true, le-leb, leb-true, lt-ltb, ltb-true, ne_eqb, not-true, not_from_false}
use Rattle.mu_model.specs.declared.config.Config.{Config}
use Rattle.mu_model.specs.declared.event.Event.{Event}
use Rattle.mu_model.specs.declared.event.Verb.{Verb}
use Rattle.mu_model.specs.Entering.{any_min_read}
use Rattle.mu_model.specs.Histories.{all_below, greatest}
use Rattle.mu_model.specs.Leaderships.{leadership, number_put, proposal_number}
use Rattle.mu_model.specs.Serving.{has_unserved_ask, is_least_waiting}
use Rattle.mu_model.specs.declared.reason.Reason.{Reason}
use Rattle.mu_model.specs.Points.{AreMet, IsMet, bounds, each_below, first_below, greatest_used, points, right_number}
use Rattle.mu_model.specs.Reasons.{Finds}
use Rattle.mu_model.proofs.AllMet.{met_append, met_front, met_rest}
use Rattle.mu_model.proofs.Reasons.{found_on}
use Rattle.mu_model.proofs.FirstBelow.{none_found, one_found}

pub low : (p n : ℕ) → p < n → n ≤ 7 → p < 7
low p n below few = omega (arith, below, few)

pub less : (a b : ℕ) → (IsTrue (nat_lt a b) ↔ (a < b))
less a b = (λ t. ltb-true a b t, λ h. lt-ltb a b h)

pub at_most : (a b : ℕ) → (IsTrue (nat_le a b) ↔ (a ≤ b))
at_most a b = (λ t. leb-true a b t, λ h. le-leb a b h)

pub equal : (a b : ℕ) → (IsTrue (a == b) ↔ (a ≡ b))
equal a b = (λ t. eqb-true a b t, λ h. eq-eqb a b h)

pub unequal : (a b : ℕ) → (IsTrue (not (a == b)) ↔ (a ≢ b))
unequal a b = (λ t same. eqb-false a b (not-true _ t) same, λ h. not_from_false _ (ne_eqb a b h))

pub tells : (t u : Bool) → t ≡ u → (IsTrue t ↔ (u ≡ true))
tells t u same = (λ h. sym same ∙ h, λ h. same ∙ h)

pub denies : (t u : Bool) → t ≡ u → (IsTrue (not t) ↔ (u ≡ false))
denies t u same = (λ h. sym same ∙ not-true t h, λ h. not_from_false t (same ∙ h))

-- a list of points that goes on
pub apart : (c : Config) (r : ℕ) (past : List Event) (xs ys zs : List Reason) (found : Option Reason) → Finds c r past ((xs ++ ys) ++ zs) found → Finds c r past (xs ++ (ys ++ zs)) found
apart c r past xs ys zs found finds = subst (λ l. Finds c r past l found) (append_assoc xs ys zs) finds

pub less_as : (a b n : ℕ) → b ≡ n → (IsTrue (nat_lt a b) ↔ (a < n))
less_as a b n same = subst (λ k. (IsTrue (nat_lt a b) ↔ (a < k))) same (less a b)

pub at_most_as : (a b m n : ℕ) → a ≡ m → b ≡ n → (IsTrue (nat_le a b) ↔ (m ≤ n))
at_most_as a b m n same also = subst (λ k. (IsTrue (nat_le a b) ↔ (m ≤ k))) also (subst (λ k. (IsTrue (nat_le a b) ↔ (k ≤ b))) same (at_most a b))

pub equal_as : (a b m n : ℕ) → a ≡ m → b ≡ n → (IsTrue (a == b) ↔ (m ≡ n))
equal_as a b m n same also = subst (λ k. (IsTrue (a == b) ↔ (m ≡ k))) also (subst (λ k. (IsTrue (a == b) ↔ (k ≡ b))) same (equal a b))

pub unequal_to : (a b n : ℕ) → b ≡ n → (IsTrue (not (a == b)) ↔ (a ≢ n))
unequal_to a b n same = subst (λ k. (IsTrue (not (a == b)) ↔ (a ≢ k))) same (unequal a b)

-- if a point fails, the search is over
pub stops : (c : Config) (r : ℕ) (past : List Event) (xs more : List Reason) (found : Option Reason) → (AreMet c r past xs → ⊥) → Finds c r past xs found → Finds c r past (xs ++ more) found
stops c r past xs more None fails finds = absurd (fails finds)
stops c r past xs more (Some q) fails finds = found_on c r past xs more q finds

abbrev head_or : Reason → List Reason → Reason
head_or d [] = d
head_or d (x ∷ xs) = x

abbrev tail_of : List Reason → List Reason
tail_of [] = []
tail_of (x ∷ xs) = xs

within : (c : Config) (r : ℕ) (past : List Event) (xs more before after : List Reason) (q : Reason) → xs ++ more ≡ before ++ q ∷ after → AreMet c r past before → (AreMet c r past xs → ⊥) → (rest : List Reason) × (xs ≡ before ++ q ∷ rest)
within c r past [] more before after q same met fails = absurd (fails tt)
within c r past (x ∷ xs) more [] after q same met fails = (xs, ap (λ y. y ∷ xs) (ap (head_or q) same))
within c r past (x ∷ xs) more (b ∷ before) after q same met fails =
    let first : x ≡ b = ap (head_or q) same in
    let rest = within c r past xs more before after q (ap tail_of same) met.1 (λ m. fails (subst (λ y. IsMet c r past y) (sym first) met.0, m)) in
    (rest.0, ap (λ y. y ∷ xs) first ∙ ap (λ ys. b ∷ ys) rest.1)

-- if a point fails, what would come after it doesn't count
pub elsewhere : (c : Config) (r : ℕ) (past : List Event) (xs more other : List Reason) (found : Option Reason) → (AreMet c r past xs → ⊥) → Finds c r past (xs ++ more) found → Finds c r past (xs ++ other) found
elsewhere c r past xs more other None fails finds = absurd (fails (met_front c r past xs more finds))
elsewhere c r past xs more other (Some q) fails finds =
    let here = within c r past xs more finds.before finds.after q finds.order finds.met fails in
    record { before = finds.before; after = here.0 ++ other; order = ap (λ l. l ++ other) here.1 ∙ append_assoc finds.before (q ∷ here.0) other; met = finds.met; fails = finds.fails }

-- no point is found exactly if all are met
pub none_met : (c : Config) (r : ℕ) (past : List Event) (reasons : List Reason) (found : Option Reason) (none : Bool) → is_some found ≡ not none → Finds c r past reasons found → (IsTrue none ↔ AreMet c r past reasons)
none_met c r past reasons None true is finds = (λ h. finds, λ m. refl)
none_met c r past reasons None false is finds = absurd (false≢true is)
none_met c r past reasons (Some q) true is finds = absurd (false≢true (sym is))
none_met c r past reasons (Some q) false is finds = (
  λ h. absurd (false≢true h),
  λ m. absurd (finds.fails (met_rest c r past finds.before (q ∷ finds.after) (subst (AreMet c r past) finds.order m)).0),
)

-- a verb's points are met if a search over them that began with nothing finds none
pub met_by : (c : Config) (r : ℕ) (past : List Event) (verb of : Verb) (fresh found : Option Reason) (none : Bool) → fresh ≡ None → verb ≡ of → (Finds c r past (bounds r past) fresh → Finds c r past (points c r past of) found)
    → ((reasons : List Reason) → Finds c r past reasons found → (IsTrue none ↔ AreMet c r past reasons)) → AreMet c r past (bounds r past) → (IsTrue none ↔ AreMet c r past (points c r past verb))
met_by c r past verb of fresh found none new is search tells met =
    subst (λ v. (IsTrue none ↔ AreMet c r past (points c r past v))) (sym is) (tells (points c r past of) (search (subst (λ f. Finds c r past (bounds r past) f) (sym new) met)))

-- a list of points of numbers, with those of one number more
pub one_more : (c : Config) (r : ℕ) (past : List Event) (xs : List Reason) (n : ℕ) (of_each : ℕ → List Reason) (found : Option Reason) → Finds c r past ((xs ++ each_below n of_each) ++ of_each n) found → Finds c r past (xs ++ each_below (n + 1) of_each) found
one_more c r past xs n of_each found finds =
    let next : suc n ≡ n + 1 = omega arith in
    subst (λ k. Finds c r past (xs ++ each_below k of_each) found) next (apart c r past xs (each_below n of_each) (of_each n) found finds)

-- a list of points of as many numbers
pub all_of : (c : Config) (r : ℕ) (past : List Event) (xs : List Reason) (n m : ℕ) (of_each : ℕ → List Reason) (found : Option Reason) → n ≡ m → Finds c r past (xs ++ each_below n of_each) found → Finds c r past (xs ++ each_below m of_each) found
all_of c r past xs n m of_each found same finds = subst (λ k. Finds c r past (xs ++ each_below k of_each) found) same finds

-- further points that are met
pub more_met : (c : Config) (r : ℕ) (past : List Event) (xs more : List Reason) (found : Option Reason) → AreMet c r past more → Finds c r past xs found → Finds c r past (xs ++ more) found
more_met c r past xs more None met finds = met_append c r past xs more finds met
more_met c r past xs more (Some q) met finds = found_on c r past xs more q finds

-- no further points
pub no_more : (c : Config) (r : ℕ) (past : List Event) (xs : List Reason) (found : Option Reason) → Finds c r past xs found → Finds c r past (xs ++ []) found
no_more c r past xs found finds = subst (λ l. Finds c r past l found) (sym (append-nil xs)) finds

pub less_from : (a b n : ℕ) → a ≡ n → (IsTrue (nat_lt a b) ↔ (n < b))
less_from a b n same = subst (λ k. (IsTrue (nat_lt a b) ↔ (k < b))) same (less a b)

-- the first that waits, if one was found, and if nobody does
pub waiting_is : (n r : ℕ) (mine : List Event) (found : Option ℕ) → ((w : ℕ) → found ≡ Some w → (w < n) × (is_least_waiting r mine w ≡ true)) → (found ≡ None → all_below n (λ w. not (has_unserved_ask r mine w)) ≡ true) → found ≡ first_below n (has_unserved_ask r mine)
waiting_is n r mine None one nobody = sym (none_found n (has_unserved_ask r mine) (nobody refl))
waiting_is n r mine (Some w) one nobody =
    let first = one w refl in
    let least = and_parts (has_unserved_ask r mine w) (all_below w (λ q. not (has_unserved_ask r mine q))) first.1 in
    sym (one_found n w (has_unserved_ask r mine) first.0 least.0 least.1)

-- the first that waits, if one was found, is this one exactly if it is the least that waits
pub least_is_first : (n r w : ℕ) (mine : List Event) (found : Option ℕ) → w < n → ((q : ℕ) → found ≡ Some q → (q < n) × (is_least_waiting r mine q ≡ true)) → (found ≡ None → all_below n (λ q. not (has_unserved_ask r mine q)) ≡ true) → ((found ≡ Some w) ↔ (is_least_waiting r mine w ≡ true))
least_is_first n r w mine found near one nobody = (
  λ is. (one w is).1,
  λ least.
      let both = and_parts (has_unserved_ask r mine w) (all_below w (λ q. not (has_unserved_ask r mine q))) least in
      waiting_is n r mine found one nobody ∙ one_found n w (has_unserved_ask r mine) near both.0 both.1,
)

-- the number that is told is that of the definitions
pub number_told : (r : ℕ) (mine : List Event) (own : Option ℕ) (read put id above : ℕ) (right : Option ℕ) → own ≡ proposal_number r mine → read ≡ greatest (λ e. any_min_read r e.by e.verb e.answer) (leadership r mine) → put ≡ greatest (λ e. number_put r e.by e.verb) mine → id ≡ r → above ≡ max read put → right ≡ right_number id above own → right ≡ right_number r (greatest_used r mine) (proposal_number r mine)
number_told r mine own read put id above right is saw made self most told =
    told
    ∙ ap (λ i. right_number i above own) self
    ∙ ap (λ a. right_number r a own) (most ∙ ap (λ x. max x put) saw ∙ ap (λ x. max (greatest (λ e. any_min_read r e.by e.verb e.answer) (leadership r mine)) x) made)
    ∙ ap (λ o. right_number r (greatest_used r mine) o) is
