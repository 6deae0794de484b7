-- The leader's tables after each step: what a place writes is what the step's verb does.
use Rattle.std.proofs.Common.{Bool, List, [], ap, arith, cond, false, get_or, length, refl, suc, subst, sym, true, zero, ℕ, ◌+◌, ◌<◌, ◌||◌, ◌∙◌, ◌∷◌, ◌≡◌}
use Rattle.std.specs.Prelude.{if◌then◌else◌, nat_le, nat_lt, set}
use Rattle.std.specs.declared.option.Option.{Option}
use Rattle.std.proofs.lemmas.Bool.{le-ltb, lt-ltb}
use Rattle.mu_model.specs.declared.config.Config.{Config}
use Rattle.mu_model.specs.declared.event.Answer.{Answer}
use Rattle.mu_model.specs.declared.event.Event.{Event}
use Rattle.mu_model.specs.declared.event.Verb.{Verb}
use Rattle.mu_model.specs.Leaderships.{is_member}
use Rattle.mu_lead.specs.Journal.{fuo_in, set_where, tables_with, up_with}
use Rattle.mu_lead.specs.Leading.{end_of}
use Rattle.mu_lead.specs.Listing.{Tables}

-- tables of these lists
abbrev pub four : List ℕ → List (Option ℕ) → List ℕ → List ℕ → Tables
four up reach heads written = record { up = up; reach = reach; heads = heads; written = written }

pub four_same : (u u' : List ℕ) (v v' : List (Option ℕ)) (h h' w w' : List ℕ) → u ≡ u' → v ≡ v' → h ≡ h' → w ≡ w' → four u v h w ≡ four u' v' h' w'
four_same u u' v v' h h' w w' a b d e = ap (λ x. four x v h w) a ∙ ap (λ x. four u' x h w) b ∙ ap (λ x. four u' v' x w) d ∙ ap (λ x. four u' v' h' x) e

chosen : {A : Type 0} (t : Bool) (x y : A) → t ≡ true → (if t then x else y) ≡ x
chosen t x y is = rw is refl

left_out : {A : Type 0} (t : Bool) (x y : A) → t ≡ false → (if t then x else y) ≡ y
left_out t x y is = rw is refl

-- a FUO that tells how far p is, and one that doesn't
pub fuo_tells : (c : Config) (r p u : ℕ) (mine now : List Event) (up up' : List ℕ) (reach reach' : List (Option ℕ)) (heads written : List ℕ) → (is_member r p mine || nat_le u (end_of c r mine)) ≡ true → up' ≡ set up p u → reach' ≡ fuo_in reach p u
    → four up' reach' heads written ≡ tables_with c r mine now (four up reach heads written) (Verb.Fuo p) (Answer.Number u)
fuo_tells c r p u mine now up up' reach reach' heads written tells ups reaches = four_same up' (up_with c r mine now up (Verb.Fuo p) (Answer.Number u)) reach' (fuo_in reach p u) heads heads written written (ups ∙ sym (chosen (is_member r p mine || nat_le u (end_of c r mine)) (set up p u) up tells)) reaches refl refl

pub fuo_left : (c : Config) (r p u : ℕ) (mine now : List Event) (up : List ℕ) (reach reach' : List (Option ℕ)) (heads written : List ℕ) → (is_member r p mine || nat_le u (end_of c r mine)) ≡ false → reach' ≡ fuo_in reach p u
    → four up reach' heads written ≡ tables_with c r mine now (four up reach heads written) (Verb.Fuo p) (Answer.Number u)
fuo_left c r p u mine now up reach reach' heads written tells reaches = four_same up (up_with c r mine now up (Verb.Fuo p) (Answer.Number u)) reach' (fuo_in reach p u) heads heads written written (sym (left_out (is_member r p mine || nat_le u (end_of c r mine)) (set up p u) up tells)) reaches refl refl

-- an entry that is brought to p
pub entry_brought : (c : Config) (r p i b v : ℕ) (mine now : List Event) (up up' : List ℕ) (reach : List (Option ℕ)) (heads written : List ℕ) → i < end_of c r mine → up' ≡ set up p (i + 1)
    → four up' reach heads written ≡ tables_with c r mine now (four up reach heads written) (Verb.PutSlot p i b v) Answer.Done
entry_brought c r p i b v mine now up up' reach heads written low ups = four_same up' (up_with c r mine now up (Verb.PutSlot p i b v) Answer.Done) reach reach heads heads written written (ups ∙ sym (chosen (nat_lt i (end_of c r mine)) (set up p (i + 1)) (if nat_lt (end_of c r mine) (end_of c r now) then set_where (λ q. is_member r q mine) (i + 1) 0 up else up) (lt-ltb i (end_of c r mine) low))) refl refl refl

-- a put by which nothing is known, and one by which its entry is
pub put_alone : (c : Config) (r p i b v : ℕ) (mine now : List Event) (up : List ℕ) (reach : List (Option ℕ)) (heads written : List ℕ) → i ≡ end_of c r mine → end_of c r now ≡ end_of c r mine
    → four up reach heads written ≡ tables_with c r mine now (four up reach heads written) (Verb.PutSlot p i b v) Answer.Done
put_alone c r p i b v mine now up reach heads written here same =
    let all = set_where (λ q. is_member r q mine) (i + 1) 0 up in
    four_same up (up_with c r mine now up (Verb.PutSlot p i b v) Answer.Done) reach reach heads heads written written
    (sym (left_out (nat_lt i (end_of c r mine)) (set up p (i + 1)) (if nat_lt (end_of c r mine) (end_of c r now) then all else up) (le-ltb i (end_of c r mine) (omega (arith, here)))
    ∙ left_out (nat_lt (end_of c r mine) (end_of c r now)) all up (le-ltb (end_of c r mine) (end_of c r now) (omega (arith, same))))) refl refl refl

pub put_commits : (c : Config) (r p i b v : ℕ) (mine now : List Event) (up up' : List ℕ) (reach : List (Option ℕ)) (heads written : List ℕ) → i ≡ end_of c r mine → end_of c r now ≡ end_of c r mine + 1 → up' ≡ set_where (λ q. is_member r q mine) (i + 1) 0 up
    → four up' reach heads written ≡ tables_with c r mine now (four up reach heads written) (Verb.PutSlot p i b v) Answer.Done
put_commits c r p i b v mine now up up' reach heads written here more ups =
    let all = set_where (λ q. is_member r q mine) (i + 1) 0 up in
    four_same up' (up_with c r mine now up (Verb.PutSlot p i b v) Answer.Done) reach reach heads heads written written
    (ups ∙ sym (left_out (nat_lt i (end_of c r mine)) (set up p (i + 1)) (if nat_lt (end_of c r mine) (end_of c r now) then all else up) (le-ltb i (end_of c r mine) (omega (arith, here)))
    ∙ chosen (nat_lt (end_of c r mine) (end_of c r now)) all up (lt-ltb (end_of c r mine) (end_of c r now) (omega (arith, more))))) refl refl refl

-- lists of as many numbers that agree at each place are the same
same_lists : (xs ys : List ℕ) → length xs ≡ length ys → ((q : ℕ) → q < length xs → get_or xs q 0 ≡ get_or ys q 0) → xs ≡ ys
same_lists [] [] long at = refl
same_lists [] (y ∷ ys) long at = absurd (omega (arith, long))
same_lists (x ∷ xs) [] long at = absurd (omega (arith, long))
same_lists (x ∷ xs) (y ∷ ys) long at = ap (λ z. z ∷ xs) (at 0 (omega arith)) ∙ ap (λ zs. y ∷ zs) (same_lists xs ys (omega (arith, long)) (λ q low. at (suc q) (omega (arith, low))))

pub length_where : (test : ℕ → Bool) (u k : ℕ) (xs : List ℕ) → length (set_where test u k xs) ≡ length xs
length_where test u k [] = refl
length_where test u k (x ∷ xs) = ap suc (length_where test u (k + 1) xs)

pub at_where : (test : ℕ → Bool) (u k q : ℕ) (xs : List ℕ) → q < length xs → get_or (set_where test u k xs) q 0 ≡ cond (test (k + q)) u (get_or xs q 0)
at_where test u k q [] low = absurd (omega (arith, low))
at_where test u k zero (x ∷ xs) low = subst (λ n. cond (test k) u x ≡ cond (test n) u x) (let same : k ≡ k + 0 = omega arith in same) refl
at_where test u k (suc q) (x ∷ xs) low = subst (λ n. get_or (set_where test u (k + 1) xs) q 0 ≡ cond (test n) u (get_or xs q 0)) (let same : k + 1 + q ≡ k + suc q = omega arith in same) (at_where test u (k + 1) q xs (omega (arith, low)))

-- the table in which each place that passes has u, and each other is as it was
pub where_is : (test : ℕ → Bool) (u : ℕ) (xs ys : List ℕ) → length ys ≡ length xs → ((q : ℕ) → q < length xs → test q ≡ true → get_or ys q 0 ≡ u) → ((q : ℕ) → test q ≡ false → get_or ys q 0 ≡ get_or xs q 0) → ys ≡ set_where test u 0 xs
where_is test u xs ys long here others = same_lists ys (set_where test u 0 xs) (long ∙ sym (length_where test u 0 xs)) (λ q low. let there : q < length xs = omega (arith, low, long) in go q there (test q) refl ∙ sym (at_where test u 0 q xs there))
  where
    at_q : (q : ℕ) (t : Bool) → test q ≡ t → test (0 + q) ≡ t
    at_q q t is = subst (λ n. test n ≡ t) (let same : q ≡ 0 + q = omega arith in same) is

    go : (q : ℕ) → q < length xs → (t : Bool) → test q ≡ t → get_or ys q 0 ≡ cond (test (0 + q)) u (get_or xs q 0)
    go q low true is = here q low is ∙ sym (ap (λ t. cond t u (get_or xs q 0)) (at_q q true is))
    go q low false is = others q is ∙ sym (ap (λ t. cond t u (get_or xs q 0)) (at_q q false is))
