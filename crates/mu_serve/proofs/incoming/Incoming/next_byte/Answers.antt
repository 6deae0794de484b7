use Rattle.std.proofs.Common.{refl}
use Rattle.mu_serve.proofs.Held.{first_held}
use Rattle.mu_serve.proofs.incoming.Incoming.next_byte.Goals as goal

pub returns-in-Some-clause-held : goal.returns-in-Some-clause-held
returns-in-Some-clause-held g c = first_held _ _ _ _ c.in-Some.ensures refl
