-- What the note does to the leadership under way.
use Rattle.std.proofs.Common.{Bool, ap, inl, inr, sym, ◌∙◌, ◌≡◌}
use Rattle.mu_lead.specs.declared.note.Note.{Note}
use Rattle.mu_lead.specs.Going.{going_after}
use Rattle.mu_lead.proofs.Says.{IsToldAs}

-- `Idle` in place of `Working` changes nothing
pub goes_idle : (was : Bool) (note result : Note) → IsToldAs note result → going_after was result ≡ going_after was note
goes_idle was note result (inl same) = ap (going_after was) same
goes_idle was note result (inr idle) = ap (going_after was) idle.0 ∙ sym (ap (going_after was) idle.1)
