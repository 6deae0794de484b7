-- Filters that split a list.
use Rattle.std.proofs.Common.{◌≡◌, Bool, true, false, not, cond, List, [], ◌∷◌, ◌++◌, refl, sym, ap, ◌∙◌}
use Rattle.std.specs.List.{AllByRecursion, filter}
use Rattle.std.proofs.lemmas.List.Elements.{filter-append}

-- both cases of a test
pub by_cases : {A : Type 0} (b : Bool) → (b ≡ true → A) → (b ≡ false → A) → A
by_cases true f g = f refl
by_cases false f g = g refl

pub not_both : {A : Type 0} (b : Bool) → b ≡ true → b ≡ false → A
not_both true e f = cc
not_both false e f = cc

pub not_is : (b : Bool) → not b ≡ true → b ≡ false
not_is true e = cc
not_is false e = refl

-- all pass
pub filter_all : {X : Type 0} (p : X → Bool) (xs : List X) → AllByRecursion (λ x. p x ≡ true) xs → filter p xs ≡ xs
filter_all p [] all = refl
filter_all p (x ∷ xs) all = ap (λ b. cond b (x ∷ filter p xs) (filter p xs)) all.0 ∙ ap (λ rest. x ∷ rest) (filter_all p xs all.1)

-- none passes
filter_none : {X : Type 0} (p : X → Bool) (xs : List X) → AllByRecursion (λ x. p x ≡ false) xs → filter p xs ≡ []
filter_none p [] all = refl
filter_none p (x ∷ xs) all = ap (λ b. cond b (x ∷ filter p xs) (filter p xs)) all.0 ∙ filter_none p xs all.1

pub all_imply : {X : Type 0} (P Q : X → Type 0) → ((x : X) → P x → Q x) → (xs : List X) → AllByRecursion P xs → AllByRecursion Q xs
all_imply P Q f [] all = tt
all_imply P Q f (x ∷ xs) all = (f x all.0, all_imply P Q f xs all.1)

pub all_append : {X : Type 0} (P : X → Type 0) (xs ys : List X) → AllByRecursion P xs → AllByRecursion P ys → AllByRecursion P (xs ++ ys)
all_append P [] ys front back = back
all_append P (x ∷ xs) ys front back = (front.0, all_append P xs ys front.1 back)

pub all_front : {X : Type 0} (P : X → Type 0) (xs ys : List X) → AllByRecursion P (xs ++ ys) → AllByRecursion P xs
all_front P [] ys all = tt
all_front P (x ∷ xs) ys all = (all.0, all_front P xs ys all.1)

pub all_back : {X : Type 0} (P : X → Type 0) (xs ys : List X) → AllByRecursion P (xs ++ ys) → AllByRecursion P ys
all_back P [] ys all = all
all_back P (x ∷ xs) ys all = all_back P xs ys all.1

all_choose : {X : Type 0} (P : X → Type 0) (b : Bool) (x : X) (xs : List X) → (b ≡ true → P x) → AllByRecursion P xs → AllByRecursion P (cond b (x ∷ xs) xs)
all_choose P true x xs one all = (one refl, all)
all_choose P false x xs one all = all

pub all_filter : {X : Type 0} (P : X → Type 0) (p : X → Bool) (xs : List X) → AllByRecursion P xs → AllByRecursion P (filter p xs)
all_filter P p [] all = tt
all_filter P p (x ∷ xs) all = all_choose P (p x) x (filter p xs) (λ _. all.0) (all_filter P p xs all.1)

pub all_pass : {X : Type 0} (p : X → Bool) (xs : List X) → AllByRecursion (λ x. p x ≡ true) (filter p xs)
all_pass p [] = tt
all_pass p (x ∷ xs) = all_choose (λ y. p y ≡ true) (p x) x (filter p xs) (λ e. e) (all_pass p xs)

not_false : (b : Bool) → b ≡ false → not b ≡ true
not_false b e = ap not e

-- a list whose front passes and whose back fails, through the filter and through its opposite
pub filter_parted : {X : Type 0} (p : X → Bool) (front back : List X) → AllByRecursion (λ x. p x ≡ true) front → AllByRecursion (λ x. p x ≡ false) back → filter p (front ++ back) ≡ front
filter_parted p [] back pass fail = filter_none p back fail
filter_parted p (x ∷ front) back pass fail = ap (λ b. cond b (x ∷ filter p (front ++ back)) (filter p (front ++ back))) pass.0 ∙ ap (λ rest. x ∷ rest) (filter_parted p front back pass.1 fail)

pub filter_other : {X : Type 0} (p : X → Bool) (front back : List X) → AllByRecursion (λ x. p x ≡ true) front → AllByRecursion (λ x. p x ≡ false) back → filter (λ x. not (p x)) (front ++ back) ≡ back
filter_other p [] back pass fail = filter_all (λ x. not (p x)) back (all_imply (λ x. p x ≡ false) (λ x. not (p x) ≡ true) (λ x e. not_false (p x) e) back fail)
filter_other p (x ∷ front) back pass fail = ap (λ b. cond (not b) (x ∷ filter (λ y. not (p y)) (front ++ back)) (filter (λ y. not (p y)) (front ++ back))) pass.0 ∙ filter_other p front back pass.1 fail

-- what fails a test doesn't pass its opposite
pub all_fail : {X : Type 0} (p : X → Bool) (xs : List X) → AllByRecursion (λ x. p x ≡ false) (filter (λ x. not (p x)) xs)
all_fail p xs = all_imply (λ x. not (p x) ≡ true) (λ x. p x ≡ false) (λ x e. not_is (p x) e) (filter (λ x. not (p x)) xs) (all_pass (λ x. not (p x)) xs)

pass_cond : {X : Type 0} (p : X → Bool) (b : Bool) (x : X) (xs : List X) → filter p (cond b (x ∷ xs) xs) ≡ cond b (cond (p x) (x ∷ filter p xs) (filter p xs)) (filter p xs)
pass_cond p true x xs = refl
pass_cond p false x xs = refl

turn : {X : Type 0} (p q : Bool) (x : X) (xs ys : List X) → xs ≡ ys → cond q (cond p (x ∷ xs) xs) xs ≡ cond p (cond q (x ∷ ys) ys) ys
turn true true x xs ys e = ap (λ zs. x ∷ zs) e
turn true false x xs ys e = e
turn false true x xs ys e = e
turn false false x xs ys e = e

-- two filters, in either order
pub filters_turn : {X : Type 0} (p q : X → Bool) (xs : List X) → filter p (filter q xs) ≡ filter q (filter p xs)
filters_turn p q [] = refl
filters_turn p q (x ∷ xs) = pass_cond p (q x) x (filter q xs) ∙ turn (p x) (q x) x (filter p (filter q xs)) (filter q (filter p xs)) (filters_turn p q xs) ∙ sym (pass_cond q (p x) x (filter p xs))

-- no element passes both
pub filters_clash : {X : Type 0} (p q : X → Bool) (never : (x : X) → q x ≡ true → p x ≡ false) (xs : List X) → filter p (filter q xs) ≡ []
filters_clash p q never xs = filter_none p (filter q xs) (all_imply (λ x. q x ≡ true) (λ x. p x ≡ false) never (filter q xs) (all_pass q xs))

pub filter_middle : {X : Type 0} (p : X → Bool) (front : List X) (x : X) (back : List X) → filter p (front ++ x ∷ back) ≡ filter p front ++ cond (p x) (x ∷ filter p back) (filter p back)
filter_middle p front x back = filter-append p front (x ∷ back)

choose_all : {X : Type 0} (P : X → Type 0) (b : Bool) (x : X) (xs ys : List X) → AllByRecursion P (cond b (x ∷ xs) xs) → AllByRecursion P (cond (not b) (x ∷ ys) ys) → P x × (AllByRecursion P xs × AllByRecursion P ys)
choose_all P true x xs ys one two = (one.0, (one.1, two))
choose_all P false x xs ys one two = (two.0, (one, two.1))

both_all : {X : Type 0} (P : X → Type 0) (p : X → Bool) (xs : List X) → AllByRecursion P (filter p xs) → AllByRecursion P (filter (λ x. not (p x)) xs) → AllByRecursion P xs
both_all P p [] one two = tt
both_all P p (x ∷ xs) one two =
    let parts = choose_all P (p x) x (filter p xs) (filter (λ y. not (p y)) xs) one two in
    (parts.0, both_all P p xs parts.1.0 parts.1.1)

-- what holds of all that a list splits into around an element holds of the element and of all of the list
pub parted_all : {X : Type 0} (P : X → Type 0) (p : X → Bool) (x : X) (xs : List X) → AllByRecursion P (filter p xs ++ x ∷ filter (λ y. not (p y)) xs) → P x × AllByRecursion P xs
parted_all P p x xs all =
    let back = all_back P (filter p xs) (x ∷ filter (λ y. not (p y)) xs) all in
    (back.0, both_all P p xs (all_front P (filter p xs) (x ∷ filter (λ y. not (p y)) xs) all) back.1)
