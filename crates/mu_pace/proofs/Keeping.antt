-- A journal in which each event keeps every pace is diligent.
use Rattle.std.proofs.Common.{◌≡◌, ℕ, ◌+◌, ◌*◌, ◌<◌, ◌≤◌, ◌∙◌, sym, refl, subst, Bool, List, [], ◌∷◌, length, true, None, Some, arith}
use Rattle.mu_agree.specs.Paces.{IsRecent, IsRecentStep, IsSpaced, asks_or_rests, steps_since}
use Rattle.mu_agree.proofs.Windows.{asks_in_time, reads_in_time}
use Rattle.mu_model.specs.declared.config.Config.{Config}
use Rattle.mu_model.specs.declared.event.Event.{Event}
use Rattle.mu_model.specs.Bounds.{cycle}
use Rattle.mu_model.specs.Histories.{has, since}
use Rattle.mu_model.specs.Steps.{is_ask_read, is_asking, is_beat, is_beat_read, is_fencing, is_head_of}
use Rattle.mu_model.proofs.Basics.{none_some, same_some}
use Rattle.mu_pace.specs.Counters.{IsInTime, Watch}
use Rattle.mu_agree.specs.Moments.{AtEachMoment, AtEachStep}
use Rattle.mu_pace.specs.Keeping.{ConfirmsInTime, HasCauseBy, IsDiligentAtEachMomentBy, KeepsPaceBy}
use Rattle.mu_pace.specs.Paces.{KeptPaceIsDiligent}
use Rattle.mu_pace.specs.Watches.{asking_after, bringing_up, explaining, granting, joining, progressing, raising, raising_head, reading_own, replaying}
use Rattle.mu_pace.proofs.Confirming.{asks_have_cause, confirmed_begin}
use Rattle.mu_pace.proofs.Hosts.{grants_come, misses_explained}
use Rattle.mu_pace.proofs.Leading.{members_brought_up, others_asked, progress_comes, raised_in_time, welcomed_join}
use Rattle.mu_pace.proofs.Replaying.{heads_told, replay_goes_on}

-- what each event keeps holds at each moment
moments : (again : Bool) (c : Config) (r : ℕ) (P : List Event → Type 0) → P [] → ((past : List Event) (e : Event) → KeepsPaceBy again c r past e → P (e ∷ past)) → (past : List Event) → IsDiligentAtEachMomentBy again c r past → AtEachMoment P past
moments again c r P base keeps [] h = base
moments again c r P base keeps (e ∷ past) h = (moments again c r P base keeps past h.0, keeps past e h.1)

-- and of each event
each_event : (again : Bool) (c : Config) (r : ℕ) (P : List Event → Event → Type 0) → ((past : List Event) (e : Event) → KeepsPaceBy again c r past e → P past e) → (past : List Event) → IsDiligentAtEachMomentBy again c r past → AtEachStep P past
each_event again c r P keeps [] h = tt
each_event again c r P keeps (e ∷ past) h = (each_event again c r P keeps past h.0, keeps past e h.1)

-- a count that nothing opened
unopened : (w : Watch) → w.allows [] ≡ None → IsInTime w []
unopened w n left is = absurd (none_some left (subst (λ o. o ≡ Some left) n is))

-- a count that stands open from the first moment on
opened_first : (w : Watch) (a : ℕ) → w.allows [] ≡ Some a → 1 ≤ a → IsInTime w []
opened_first w a n l left is = let e = same_some a left (sym n ∙ is) in omega arith

-- the same in the words of the heartbeat and the election pace
lately : (again : Bool) (c : Config) (r : ℕ) (test : Event → Bool) (k : ℕ) → ((past : List Event) (e : Event) → KeepsPaceBy again c r past e → length (since test (e ∷ past)) < k) → (past : List Event) → IsDiligentAtEachMomentBy again c r past → IsRecent test k past
lately again c r test k keeps [] h = tt
lately again c r test k keeps (e ∷ past) h = (lately again c r test k keeps past h.0, keeps past e h.1)

spaced : (again : Bool) (c : Config) (r : ℕ) (test : Event → Bool) (k : ℕ) → ((past : List Event) (e : Event) → KeepsPaceBy again c r past e → test e ≡ true → has test past ≡ true → k ≤ length (since test past)) → (past : List Event) → IsDiligentAtEachMomentBy again c r past → IsSpaced test k past
spaced again c r test k keeps [] h = tt
spaced again c r test k keeps (e ∷ past) h = (spaced again c r test k keeps past h.0, keeps past e h.1)

lately_step : (again : Bool) (c : Config) (r : ℕ) (held : List Event → Event → Bool) (k : ℕ) → ((past : List Event) (e : Event) → KeepsPaceBy again c r past e → steps_since held (e ∷ past) < k) → (past : List Event) → IsDiligentAtEachMomentBy again c r past → IsRecentStep held k past
lately_step again c r held k keeps [] h = tt
lately_step again c r held k keeps (e ∷ past) h = (lately_step again c r held k keeps past h.0, keeps past e h.1)

pub kept_pace_is_diligent : KeptPaceIsDiligent
kept_pace_is_diligent again c r past h = record {
  heartbeat_pace = reads_in_time c r past (record {
    beat = lately again c r is_beat (cycle c) (λ past e k. k.heartbeat_pace.beat) past h;
    beats = λ q l d. lately again c r (is_beat_read q) (cycle c) (λ past e k. k.heartbeat_pace.beats q l d) past h;
    asks = λ w l. lately again c r (is_ask_read w) (cycle c) (λ past e k. k.heartbeat_pace.asks w l) past h;
  }) (λ q. spaced again c r (is_beat_read q) (4 * c.replicas + 43) (λ past e k. k.heartbeat_pace.apart q) past h);
  grant_pace = grants_come c r past (λ w. moments again c r (IsInTime (granting c r w)) (unopened (granting c r w) refl) (λ past e k. k.grant_pace w) past h);
  election_pace = asks_in_time c r past (record {
    asks = λ p l. lately_step again c r (asks_or_rests c r (is_asking p)) (17 * c.replicas + 1) (λ past e k. k.election_pace.asks p l) past h;
    fences = λ p l. lately_step again c r (asks_or_rests c r (is_fencing p)) (17 * c.replicas + 1) (λ past e k. k.election_pace.fences p l) past h;
  });
  progress_bound = progress_comes c r past (moments again c r (IsInTime (progressing c r)) (unopened (progressing c r) refl) (λ past e k. k.progress_bound) past h);
  evidence_after_a_miss = misses_explained c r past (λ p. moments again c r (IsInTime (explaining c r p)) (unopened (explaining c r p) refl) (λ past e k. k.evidence_after_a_miss p) past h);
  ask_discipline = asks_have_cause again c r past (each_event again c r (HasCauseBy again c r) (λ past e k. k.ask_discipline) past h);
  confirmation = confirmed_begin c r past (each_event again c r (ConfirmsInTime c r) (λ past e k. k.confirmation) past h);
  raised_fuos = raised_in_time c r past (λ p l. moments again c r (IsInTime (raising c r p)) (unopened (raising c r p) refl) (λ past e k. k.raised_fuos p l) past h);
  asking_after = others_asked c r past (λ p l. moments again c r (IsInTime (asking_after c r p)) (opened_first (asking_after c r p) _ refl (omega arith)) (λ past e k. k.asking_after p l) past h);
  joining = welcomed_join c r past (λ p l. moments again c r (IsInTime (joining c r p)) (unopened (joining c r p) refl) (λ past e k. k.joining p l) past h);
  bringing_up = members_brought_up c r past (λ p l. moments again c r (IsInTime (bringing_up c r p)) (unopened (bringing_up c r p) refl) (λ past e k. k.bringing_up p l) past h);
  replayer_pace = replay_goes_on c r past
      (moments again c r (IsInTime (reading_own c r)) (opened_first (reading_own c r) (8 * c.replicas + 88) refl (omega arith)) (λ past e k. k.replayer_pace.reads) past h)
      (moments again c r (IsInTime (replaying c r)) (unopened (replaying c r) refl) (λ past e k. k.replayer_pace.learns) past h);
  head_pace = heads_told c r past
      (moments again c r (IsInTime (raising_head c r)) (unopened (raising_head c r) refl) (λ past e k. k.head_pace.raises) past h)
      (λ q l d. lately again c r (is_head_of q) (c.replicas * cycle c) (λ past e k. k.head_pace.reads q l d) past h);
}
