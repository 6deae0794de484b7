-- A leader whose look is past at what it doesn't know is outrun: its journal ends, and its counts are in time.
use Rattle.std.proofs.Common.{◌≡◌, ℕ, Bool, true, List, ◌∷◌, Some, None, inl, refl, subst, sym, true≢false, arith}
use Rattle.std.specs.Prelude.{is_some}
use Rattle.std.specs.declared.option.Option.{Option}
use Rattle.mu_model.specs.declared.config.Config.{Config}
use Rattle.mu_model.specs.declared.event.Answer.{Answer}
use Rattle.mu_model.specs.declared.event.Event.{Event}
use Rattle.mu_model.specs.Contents.{IsConfig}
use Rattle.mu_model.specs.Diligence.{is_milestone}
use Rattle.mu_model.specs.Ends.{outrun}
use Rattle.mu_model.specs.Histories.{earlier_or}
use Rattle.mu_model.specs.Picks.{is_past}
use Rattle.mu_model.specs.Steps.{commits_more, is_lagging, is_over_after, knows_all}
use Rattle.mu_model.specs.Stretches.{is_replication}
use Rattle.mu_model.proofs.Basics.{same_number, or_true}
use Rattle.mu_pace.specs.Asking.{far}
use Rattle.mu_pace.specs.Away.{IsAway}
use Rattle.mu_pace.specs.Blocking.{is_blocking, is_progress_by}
use Rattle.mu_pace.specs.Placed.{AreInTime, IsPlacedAt}
use Rattle.mu_pace.specs.Watches.{advancing, limit_now, progressing}
use Rattle.mu_pace.specs.Weights.{Bringing, Lag, Stage, at_behind, widened}
use Rattle.mu_pace.proofs.Beside.{unallowed}
use Rattle.mu_pace.proofs.Placed.{met_leaves, places_lead, shut}
use Rattle.mu_lead.specs.Leading.{end_of}
use Rattle.mu_lively.specs.Rooms.{IsLed, sizes_of}
use Rattle.mu_lead.proofs.Bringing.{look_event}
use Rattle.mu_lively.proofs.RoomsLearning.{past_none}
use Rattle.mu_lively.proofs.RoomsQuiet.{IsSilent, known_look_silent, config_is_sized, steps_on}
use Rattle.std.proofs.lemmas.Bool.{le-leb}

some_earlier : (x : ℕ × ℕ) (o : Option (ℕ × ℕ)) → is_some (earlier_or (Some x) o) ≡ true
some_earlier x None = refl
some_earlier x (Some y) = refl

-- such a look
is_outrun : (c : Config) (r p : ℕ) (a : Answer) (mine : List Event) → is_past a ≡ true → is_some (outrun c r (look_event r p (end_of c r mine) a ∷ mine)) ≡ true
is_outrun c r p Answer.Past mine past = rw (same_number r, le-leb (end_of c r mine) (end_of c r mine) (omega arith)) (some_earlier (p, end_of c r mine) (outrun c r mine))
is_outrun c r p (Answer.Entry b v) mine past = absurd (true≢false (sym past))
is_outrun c r p a mine past = absurd (true≢false (sym past))

-- is progress
outrun_progress : (stops : List Event → Event → Bool) (c : Config) (r : ℕ) (mine : List Event) (e : Event) → is_some (outrun c r (e ∷ mine)) ≡ true → is_progress_by stops c r mine e ≡ true
outrun_progress stops c r mine e h = or_true (commits_more c r mine e) _ (or_true (is_over_after r mine e) _ (or_true (stops mine e) _ (or_true (knows_all c r mine) _ h)))

-- so what is in time is done
ends_outrun : (c : Config) (r p i : ℕ) (a : Answer) (mine : List Event) → is_replication mine (look_event r p i a) ≡ true → is_past a ≡ true → i ≡ end_of c r mine → AreInTime c r (look_event r p i a ∷ mine) → IsAway c r (look_event r p i a ∷ mine)
ends_outrun c r p i a mine turn past here in_time =
    let e = look_event r p i a in
    let quiet = known_look_silent c r p i a mine (past_none c r p i a mine past) in
    let all : is_some (outrun c r (e ∷ mine)) ≡ true = subst (λ x. is_some (outrun c r (look_event r p x a ∷ mine)) ≡ true) (sym here) (is_outrun c r p a mine past) in
    record {
      progressing = shut (progressing c r) mine e (unallowed (is_milestone c r) (limit_now c r) mine e quiet.no_milestone) (met_leaves c r (is_progress_by (is_lagging c r) c r) mine e turn (outrun_progress (is_lagging c r) c r mine e all));
      advancing = shut (advancing c r) mine e (unallowed (is_milestone c r) (limit_now c r) mine e quiet.no_milestone) (met_leaves c r (is_progress_by (is_blocking c r) c r) mine e turn (outrun_progress (is_blocking c r) c r mine e all));
      asking = in_time.asking;
      bringing = in_time.bringing;
    }

-- while it learns, as while a member is brought up
learning_in_time : (c : Config) (r : ℕ) (mine : List Event) (e : Event) → IsConfig c → is_replication mine e ≡ true → IsSilent c r mine e → IsPlacedAt c r (sizes_of c r mine) Stage.Learn mine → AreInTime c r (e ∷ mine)
learning_in_time c r mine e is turn quiet at =
    let widens : IsPlacedAt c r (sizes_of c r mine) (Stage.Bring Lag.Behind Bringing.Widen) mine = record { sizes = at.sizes; place = at_behind Bringing.Widen; progressing = at.progressing; advancing = at.advancing; asking = at.asking; bringing = at.bringing } in
    places_lead.in_time c r (sizes_of c r mine) (Stage.Bring Lag.Behind Bringing.Look) (e ∷ mine) (config_is_sized c r mine is)
    (steps_on c r (Stage.Bring Lag.Behind Bringing.Widen) (Stage.Bring Lag.Behind Bringing.Look) mine e is turn quiet widens (widened Lag.Behind) (at_behind Bringing.Look)
    (λ k low stranger. inl (far (Stage.Bring Lag.Behind Bringing.Widen) (Stage.Bring Lag.Behind Bringing.Look) (widened Lag.Behind) refl refl)) (λ level. absurd (true≢false (sym level))))

pub rooms_outrun_learning : (c : Config) (r p i : ℕ) (a : Answer) (mine : List Event) → IsConfig c → is_replication mine (look_event r p i a) ≡ true → is_past a ≡ true → i ≡ end_of c r mine → IsLed c r mine Stage.Learn → IsAway c r (look_event r p i a ∷ mine)
rooms_outrun_learning c r p i a mine is turn past here at = ends_outrun c r p i a mine turn past here (learning_in_time c r mine (look_event r p i a) is turn (known_look_silent c r p i a mine (past_none c r p i a mine past)) at.placed)

-- while it looks at the new position
pub rooms_outrun_looking : (c : Config) (r p i : ℕ) (a : Answer) (mine : List Event) → IsConfig c → is_replication mine (look_event r p i a) ≡ true → is_past a ≡ true → i ≡ end_of c r mine → IsLed c r (look_event r p i a ∷ mine) Stage.Rest → IsAway c r (look_event r p i a ∷ mine)
rooms_outrun_looking c r p i a mine is turn past here at = ends_outrun c r p i a mine turn past here (places_lead.in_time c r (sizes_of c r (look_event r p i a ∷ mine)) Stage.Rest (look_event r p i a ∷ mine) (config_is_sized c r (look_event r p i a ∷ mine) is) at.placed)
