-- The access under way of one process.
use Rattle.std.proofs.Common.{Bool, cond, ◌∷◌, ap, eq-eqb, ne_eqb, refl}
use Rattle.mu_inbox.specs.Memory.{own_of}
use Rattle.mu_inbox.specs.Running.{AccessesGoOn}
use Rattle.mu_inbox.specs.Standing.{made_with}
use Rattle.mu_inbox.proofs.Growing.{due_is}

pub accesses_law : AccessesGoOn
accesses_law made x verb word answered stands due found = record {
  answered = (answered, record { allowed = (due_is (own_of x.id made) x verb stands due).allowed; found = found });
  own = ap (λ (b : Bool). cond b (made_with x verb word ∷ own_of x.id made) (own_of x.id made)) (eq-eqb x.id x.id refl);
  others = λ q ne. ap (λ (b : Bool). cond b (made_with x verb word ∷ own_of q made) (own_of q made)) (ne_eqb q x.id ne);
}
