-- Small facts about numbers, booleans and options.
use Rattle.std.proofs.Common.{◌≡◌, ℕ, Bool, true, false, ◌==◌, ◌&&◌, ◌||◌, refl, sym, None, Some, eq-eqb, true≢false}

-- two things that are there and equal as such are the same thing
pub same_some : {A : Type 0} (x y : A) → Some x ≡ Some y → x ≡ y
same_some x y same = cc

-- what isn't there is nothing that is
pub none_some : {A : Type 0} (x : A) → None ≡ Some x → ⊥
none_some x same = cc

-- a number equals itself
pub same_number : (n : ℕ) → n == n ≡ true
same_number n = eq-eqb n n refl

-- if one of two tests passes, one of them does
pub true_or : (a b : Bool) → a ≡ true → a || b ≡ true
true_or true b is = refl
true_or false b is = absurd (true≢false (sym is))

-- the same of the second
pub or_true : (a b : Bool) → b ≡ true → a || b ≡ true
or_true true b is = refl
or_true false b is = is

-- if none of two tests passes, the first doesn't
pub none_of_or : (a b : Bool) → (a || b) ≡ false → a ≡ false
none_of_or true b is = absurd (true≢false is)
none_of_or false b is = refl

-- if one of two tests fails, not both pass
pub false_and : (a b : Bool) → a ≡ false → (a && b) ≡ false
false_and true b is = absurd (true≢false is)
false_and false b is = refl

-- the same of the second
pub and_false : (a b : Bool) → b ≡ false → (a && b) ≡ false
and_false true b is = is
and_false false b is = refl
