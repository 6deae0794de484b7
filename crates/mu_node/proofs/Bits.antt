-- Seven bits as one number.
use Rattle.std.proofs.Common.{◌≡◌, ◌==◌, ◌+◌, ◌*◌, ◌/◌, ◌%◌, ◌<◌, ◌≤◌, ℕ, zero, suc, Bool, true, false, arith}
use Rattle.std.proofs.lemmas.Bool.{eq-eqb, ne_eqb}
use Rattle.mu_lead.specs.Sets.{bit, is_bit}

one_bit : (t : Bool) (x s : ℕ) → s % 2 ≡ x → x ≡ bit t → (s % 2 == 1) ≡ t
one_bit true x s is told = eq-eqb (s % 2) 1 (omega (arith, is, told))
one_bit false x s is told = ne_eqb (s % 2) 1 (λ e. absurd (omega (arith, is, told, e)))

-- each bit of the sum is that of its place
pub bit_at : (test : ℕ → Bool) (n q a b d e f g h : ℕ) → n ≤ 7 → q < n → a ≤ 1 → b ≤ 1 → d ≤ 1 → e ≤ 1 → f ≤ 1 → g ≤ 1 → h ≤ 1
    → (0 < n → a ≡ bit (test 0)) → (1 < n → b ≡ bit (test 1)) → (2 < n → d ≡ bit (test 2)) → (3 < n → e ≡ bit (test 3)) → (4 < n → f ≡ bit (test 4)) → (5 < n → g ≡ bit (test 5)) → (6 < n → h ≡ bit (test 6))
    → is_bit q (a + 2 * b + 4 * d + 8 * e + 16 * f + 32 * g + 64 * h) ≡ test q
bit_at test n zero a b d e f g h few low la lb ld le lf lg lh ta tb td te tf tg th = one_bit (test 0) a (a + 2 * b + 4 * d + 8 * e + 16 * f + 32 * g + 64 * h) (omega (arith, la)) (ta low)
bit_at test n (suc zero) a b d e f g h few low la lb ld le lf lg lh ta tb td te tf tg th = one_bit (test 1) b ((a + 2 * b + 4 * d + 8 * e + 16 * f + 32 * g + 64 * h) / 2) (omega (arith, la, lb)) (tb low)
bit_at test n (suc (suc zero)) a b d e f g h few low la lb ld le lf lg lh ta tb td te tf tg th = one_bit (test 2) d ((a + 2 * b + 4 * d + 8 * e + 16 * f + 32 * g + 64 * h) / 2 / 2) (omega (arith, la, lb, ld)) (td low)
bit_at test n (suc (suc (suc zero))) a b d e f g h few low la lb ld le lf lg lh ta tb td te tf tg th = one_bit (test 3) e ((a + 2 * b + 4 * d + 8 * e + 16 * f + 32 * g + 64 * h) / 2 / 2 / 2) (omega (arith, la, lb, ld, le)) (te low)
bit_at test n (suc (suc (suc (suc zero)))) a b d e f g h few low la lb ld le lf lg lh ta tb td te tf tg th = one_bit (test 4) f ((a + 2 * b + 4 * d + 8 * e + 16 * f + 32 * g + 64 * h) / 2 / 2 / 2 / 2) (omega (arith, la, lb, ld, le, lf)) (tf low)
bit_at test n (suc (suc (suc (suc (suc zero))))) a b d e f g h few low la lb ld le lf lg lh ta tb td te tf tg th = one_bit (test 5) g ((a + 2 * b + 4 * d + 8 * e + 16 * f + 32 * g + 64 * h) / 2 / 2 / 2 / 2 / 2) (omega (arith, la, lb, ld, le, lf, lg)) (tg low)
bit_at test n (suc (suc (suc (suc (suc (suc zero)))))) a b d e f g h few low la lb ld le lf lg lh ta tb td te tf tg th = one_bit (test 6) h ((a + 2 * b + 4 * d + 8 * e + 16 * f + 32 * g + 64 * h) / 2 / 2 / 2 / 2 / 2 / 2) (omega (arith, la, lb, ld, le, lf, lg, lh)) (th low)
bit_at test n (suc (suc (suc (suc (suc (suc (suc q))))))) a b d e f g h few low la lb ld le lf lg lh ta tb td te tf tg th = absurd (omega (arith, few, low))
