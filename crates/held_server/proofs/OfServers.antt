-- What a call makes of what a handle has, by what it makes of the server.
use Rattle.std.proofs.Common.{◌≡◌, ℕ, Bool, false, true, Some, subst, sym, refl}
use Rattle.std.specs.declared.option.Option.{Option}
use mir.Val.{bool_byte}
use Rattle.held_server.specs.Servers.{OfServer}
use Rattle.held_server.specs.declared.holding.Held.{Held}

pub of_server : (Nothing : Type 0) (Does : Held → Held → ℕ → Type 0) (old new : Option Held) (before seen after : Held) (status : ℕ) → old ≡ Some before → seen ≡ before → new ≡ Some after → Does seen after status
    → OfServer Nothing Does old new status
of_server Nothing Does old new before seen after status old_is seen_is new_is does =
    subst (λ o. OfServer Nothing Does o new status) (sym old_is) (after, new_is, subst (λ b. Does b after status) seen_is does)

pub no_byte : (b : Bool) → bool_byte b ≡ 0 → b ≡ false
no_byte true is = cc
no_byte false is = refl
