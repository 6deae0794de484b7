-- The counts of a leader close with a replication event before which another replica is named.
use Rattle.std.proofs.Common.{◌≡◌, ℕ, ◌*◌, Bool, true, false, List, ◌∷◌, refl, sym, ap, arith, true≢false}
use Rattle.std.specs.Prelude.{not, ◌&&◌, ◌||◌}
use Rattle.mu_model.specs.declared.config.Config.{Config}
use Rattle.mu_model.specs.declared.event.Event.{Event}
use Rattle.mu_model.specs.Bounds.{members}
use Rattle.mu_model.specs.Diligence.{is_confirmed, is_milestone}
use Rattle.mu_model.specs.Leaderships.{is_member}
use Rattle.mu_model.specs.Steps.{commits_more, is_any_fencing, is_fencing, is_lagging, is_min, is_missed_at, is_named, is_over_after, leads}
use Rattle.mu_model.specs.Stretches.{is_replication}
use Rattle.mu_pace.specs.Asking.{asking}
use Rattle.mu_pace.specs.Away.{IsFresh}
use Rattle.mu_pace.specs.Blocking.{is_blocking, is_progress_by}
use Rattle.mu_pace.specs.Closing.{AreClosed, CountsClose, OpensNone}
use Rattle.mu_pace.specs.Placed.{FitsSizes, IsPlacedAt, is_level}
use Rattle.mu_pace.specs.Watches.{advancing, asking_after, bringing_up, confirming, explaining, falls_behind, is_answer_to_welcome, is_brought_up, is_confirming, is_full_raise, is_welcoming, joining, leaves, limit_now, progressing, raising, turns_away}
use Rattle.mu_pace.specs.Weights.{IsPlace, IsSized, Sizes, Stage, weight}
use Rattle.mu_pace.proofs.Asking.{asking_falls}
use Rattle.mu_pace.proofs.Beside.{unallowed}
use Rattle.mu_pace.proofs.Placed.{asks_anew, closed_brought, same_limit, shut, unnamed_leaves}
use Rattle.mu_pace.proofs.Rooms.{kinds_of_step}
use Rattle.mu_model.proofs.Basics.{or_true}

-- a replication event before which another is named turns away, whatever is waited for
pub unnamed_turns : (c : Config) (r : ℕ) (met : List Event → Event → Bool) (past : List Event) (e : Event) → is_replication past e ≡ true → is_named c r past ≡ false → turns_away c r met past e ≡ true
unnamed_turns c r met past e t n = both (is_replication past e) (is_named c r past) (met past e) t n
  where
    both : (t u v : Bool) → t ≡ true → u ≡ false → (t && (not u || v)) ≡ true
    both true true v t n = absurd (true≢false n)
    both true false v t n = refl
    both false u v t n = absurd (true≢false (sym t))

unnamed : (c : Config) (r : ℕ) (past : List Event) (e : Event) → is_replication past e ≡ true → is_named c r past ≡ false → OpensNone c r past e → AreClosed c r (e ∷ past)
unnamed c r past e t n o = record {
  progressing = shut (progressing c r) past e (unallowed (is_milestone c r) (limit_now c r) past e o.milestone) (unnamed_leaves c r (is_progress_by (is_lagging c r) c r) past e t n);
  advancing = shut (advancing c r) past e (unallowed (is_milestone c r) (limit_now c r) past e o.milestone) (unnamed_leaves c r (is_progress_by (is_blocking c r) c r) past e t n);
  explaining = λ p. shut (explaining c r p) past e (unallowed (λ before f. is_missed_at p f) (λ now. 1) past e (o.missed p)) (unnamed_turns c r (λ before f. is_fencing p f) past e t n);
  confirming = shut (confirming c r) past e (unallowed (is_confirming c r) (λ now. c.replicas) past e o.confirming)
      (unnamed_turns c r (λ before f. is_min f || (is_any_fencing f && not (is_confirmed c r (f ∷ before)))) past e t n);
  raising = λ p. shut (raising c r p) past e (unallowed (λ before f. commits_more c r before f && is_member r p (f ∷ before)) (members c r) past e (ap (λ z. z && is_member r p (e ∷ past)) o.commits))
      (unnamed_leaves c r (is_full_raise c r p) past e t n);
  asking = λ p. asks_anew c r p past e (2 * limit_now c r (e ∷ past)) (omega arith) (unnamed_leaves c r (λ before f. not (leads r before) || is_fencing p f) past e t n);
  joining = λ p. shut (joining c r p) past e (unallowed (is_welcoming c r p) (λ now. 4) past e (o.welcoming p)) (unnamed_leaves c r (is_answer_to_welcome c r p) past e t n);
  bringing = λ p. shut (bringing_up c r p) past e (unallowed (falls_behind c r p) (limit_now c r) past e (o.behind p))
      (or_true (is_brought_up c r p (e ∷ past)) (leaves c r (is_over_after r) past e) (unnamed_leaves c r (is_over_after r) past e t n));
}

fresh : (c : Config) (r : ℕ) (now : List Event) → AreClosed c r now → IsFresh c r now
fresh c r now a = record {
  progressing = a.progressing;
  advancing = a.advancing;
  asking = λ p low. kinds_of_step.less (asking_after c r p) (2 * limit_now c r now) 1 now (omega arith) (a.asking p);
  bringing = a.bringing;
}

placed : (c : Config) (r : ℕ) (s : Sizes) (t : Stage) (now : List Event) → IsSized s → FitsSizes c r s now → IsPlace s t → AreClosed c r now → IsPlacedAt c r s t now
placed c r s t now z fits place a = record {
  sizes = fits;
  place = place;
  progressing = kinds_of_step.closed (progressing c r) (weight s t) now a.progressing;
  advancing = kinds_of_step.closed (advancing c r) (weight s t) now a.advancing;
  asking = λ p low. kinds_of_step.less (asking_after c r p) (2 * limit_now c r now) (asking s p t) now (let b = asking_falls.light s p t z (let d = fits.replicas in omega arith) place in let d = same_limit c r s now fits in omega arith) (a.asking p);
  bringing = λ p. closed_brought (is_level t) (bringing_up c r p) (weight s t) now (a.bringing p);
}

pub counts_close : CountsClose
counts_close = record { unnamed = unnamed; fresh = fresh; placed = placed }
