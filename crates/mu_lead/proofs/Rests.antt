-- If nothing is due, all commands are known, and every region is a member.
use Rattle.std.proofs.Common.{Bool, List, arith, false, subst, sym, true, ℕ, ◌+◌, ◌<◌, ◌≡◌, ◌≤◌}
use Rattle.std.specs.Prelude.{not}
use Rattle.mu_model.specs.declared.config.Config.{Config}
use Rattle.mu_model.specs.declared.event.Event.{Event}
use Rattle.mu_model.specs.Contents.{IsConfig, IsInSession, holds_all, row_count}
use Rattle.mu_model.specs.Knowledge.{known}
use Rattle.mu_model.specs.Leaderships.{is_member}
use Rattle.mu_model.specs.Parts.{IsPossible}
use Rattle.mu_model.specs.Room.{reserve}
use Rattle.mu_agree.proofs.Fitting.{part_positions_suffice_law}
use Rattle.mu_agree.proofs.NextBatch.{parts_have_next_law}
use Rattle.mu_agree.proofs.Possible.{parts_in_session_law}
use Rattle.mu_lead.specs.Leading.{end_of}
use Rattle.mu_lead.specs.Offering.{AtRest}
use Rattle.mu_knowledge.specs.Offers.{IsNextRow}
use Rattle.std.proofs.lemmas.Bool.{not-false}

-- what is asked of the known list is asked of what the replica knows
pub knows_is : (c : Config) (r : ℕ) (mine : List Event) (values : List ℕ) (told : Bool) → IsConfig c → IsPossible c r mine → values ≡ known c r mine
    → (IsConfig c → IsInSession c values → told ≡ holds_all c values) → told ≡ holds_all c (known c r mine)
knows_is c r mine values told config possible same is =
    subst (λ xs. told ≡ holds_all c xs) same (is config (subst (IsInSession c) (sym same) (parts_in_session_law c r mine config possible)))

-- all is known and no region is left
pub rests : (c : Config) (r : ℕ) (mine : List Event) → holds_all c (known c r mine) ≡ true → ((k : ℕ) → 0 ≤ k → k < c.replicas → not (is_member r k mine) ≡ false) → AtRest c r mine
rests c r mine all none = record { all = all; members = λ p low. not-false (is_member r p mine) (none p (omega arith) low) }

-- while some command isn't known there is a position for it
pub no_end : (c : Config) (r : ℕ) (mine : List Event) → IsConfig c → IsPossible c r mine → holds_all c (known c r mine) ≡ false → row_count c + reserve c ≤ end_of c r mine → ⊥
no_end c r mine config possible lacks high = let low = part_positions_suffice_law c r mine config possible lacks in omega (arith, low, high)

-- and some client has a next batch
pub some_next : (c : Config) (r : ℕ) (mine : List Event) → IsConfig c → IsPossible c r mine → holds_all c (known c r mine) ≡ false → ((j : ℕ) → IsNextRow c (known c r mine) j → ⊥) → ⊥
some_next c r mine config possible lacks none = let n = parts_have_next_law c r mine config possible lacks in none n.row (record { row = n.within; begins = n.begins; next = n.number })
