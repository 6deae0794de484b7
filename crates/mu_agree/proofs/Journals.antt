-- Beginnings of a journal: what a stretch of one is a stretch of the whole.
use Rattle.std.proofs.Common.{ℕ, suc, ◌≡◌, ◌≢◌, List, [], ◌∷◌, ◌++◌, length, refl, sym, ap, ◌∙◌, arith}
use Rattle.std.proofs.lemmas.List.{append_assoc}
use Rattle.mu_model.specs.declared.config.Config.{Config}
use Rattle.mu_model.specs.declared.event.Event.{Event}
use Rattle.mu_model.specs.Bounds.{Follows}
use Rattle.mu_model.specs.Stretches.{IsStretch}
use Rattle.mu_agree.specs.Journals.{BeginningsAreDiligent, ObeysOnce}

-- a stretch of a beginning is a stretch of the whole
stretch : (newer past window older : List Event) → IsStretch past window older → IsStretch (newer ++ past) window older
stretch newer past window older s = record { newer = newer ++ s.newer; is = ap (λ l. newer ++ l) s.is ∙ sym (append_assoc newer s.newer (window ++ older)) }

-- and so is one of a leadership
follows : (c : Config) (r : ℕ) (newer past window older : List Event) (count : ℕ) → Follows c r past window older count → Follows c r (newer ++ past) window older count
follows c r newer past window older count f = record { stretch = stretch newer past window older f.stretch; count_is = f.count_is; same = f.same; named = f.named }

pub diligent_beginning : BeginningsAreDiligent
diligent_beginning c r newer past d =
    record {
      heartbeat_pace = record {
        beat = λ w o s. d.heartbeat_pace.beat w o (stretch newer past w o s);
        beats = λ q w o low other s. d.heartbeat_pace.beats q w o low other (stretch newer past w o s);
        asks = λ q w o low s. d.heartbeat_pace.asks q w o low (stretch newer past w o s);
        apart = λ q later earlier between o s. d.heartbeat_pace.apart q later earlier between o (stretch newer past (later ∷ between ++ earlier ∷ []) o s);
      };
      grant_pace = λ q e w o s. d.grant_pace q e w o (stretch newer past w (e ∷ o) s);
      election_pace = record {
        asks = λ p w o low s. d.election_pace.asks p w o low (stretch newer past w o s);
        fences = λ p w o low s. d.election_pace.fences p w o low (stretch newer past w o s);
      };
      progress_bound = λ e w o m f. d.progress_bound e w o m (follows c r newer past w (e ∷ o) _ f);
      evidence_after_a_miss = λ p e next between o s. d.evidence_after_a_miss p e next between o (stretch newer past (next ∷ between) (e ∷ o) s);
      ask_discipline = record {
        named = λ p e o s. d.ask_discipline.named p e o (stretch newer past (e ∷ []) o s);
        anew = λ e o s. d.ask_discipline.anew e o (stretch newer past (e ∷ []) o s);
      };
      confirmation = λ e w o s. d.confirmation e w o (stretch newer past w (e ∷ o) s);
      raised_fuos = λ p e w o m f. d.raised_fuos p e w o m (follows c r newer past w (e ∷ o) _ f);
      asking_after = λ p w o f. d.asking_after p w o (follows c r newer past w o _ f);
      joining = λ p e w o low fencing some going out noted f. d.joining p e w o low fencing some going out noted (follows c r newer past w (e ∷ o) _ f);
      bringing_up = λ e w o m some f. d.bringing_up e w o m some (follows c r newer past w (e ∷ o) _ f);
      replayer_pace = record {
        reads = λ w o s. d.replayer_pace.reads w o (stretch newer past w o s);
        learns = λ w o s. d.replayer_pace.learns w o (stretch newer past w o s);
      };
      head_pace = record {
        raises = λ w o s. d.head_pace.raises w o (stretch newer past w o s);
        reads = λ q w o low other s. d.head_pace.reads q w o low other (stretch newer past w o s);
      };
    }

not_empty : (e : Event) (l : List Event) → e ∷ l ≢ []
not_empty e l h = let none : suc (length l) ≡ 0 = ap length h in omega (arith, none)

pub obeys_once_law : ObeysOnce
obeys_once_law c script r [] past end other whole shorter = refl
obeys_once_law c script r (e ∷ newer) past end other whole shorter = absurd (whole.first (e ∷ newer) past other refl (not_empty e newer) shorter.ends)
