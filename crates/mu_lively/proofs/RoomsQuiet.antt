-- Steps that no count but the passing of steps sees.
use Rattle.std.proofs.Common.{◌≡◌, ℕ, zero, suc, Bool, true, false, ◌&&◌, List, ◌∷◌, length, refl, sym, ap, subst, true≢false}
use Rattle.std.specs.Prelude.{nat_lt, not, ◌||◌}
use Rattle.mu_model.specs.declared.config.Config.{Config}
use Rattle.mu_model.specs.declared.event.Answer.{Answer}
use Rattle.mu_model.specs.declared.event.Event.{Event}
use Rattle.mu_model.specs.declared.event.Verb.{Verb}
use Rattle.mu_model.specs.Bounds.{members}
use Rattle.mu_model.specs.Contents.{IsConfig, marked}
use Rattle.mu_model.specs.Diligence.{is_milestone}
use Rattle.mu_model.specs.Histories.{all_below, has, event_by}
use Rattle.mu_model.specs.Knowledge.{commits, known}
use Rattle.mu_model.specs.Leaderships.{leadership}
use Rattle.mu_model.specs.Steps.{commits_more, is_lagging, is_min, knows_more}
use Rattle.mu_model.specs.Stretches.{is_replication}
use Rattle.mu_model.proofs.Basics.{false_and}
use Rattle.mu_pace.specs.Asking.{AsksOn}
use Rattle.mu_pace.specs.Placed.{Asks, IsPlacedAt, Levels}
use Rattle.mu_pace.specs.Watches.{falls_behind}
use Rattle.mu_pace.specs.Weights.{GoesOn, IsPlace, IsSized, Stage}
use Rattle.mu_pace.proofs.Beside.{not_more}
use Rattle.mu_pace.proofs.Placed.{places_lead}
use Rattle.mu_lively.specs.Rooms.{sizes_of}

-- a configuration has replicas and rows
pub config_is_sized : (c : Config) (r : ℕ) (mine : List Event) → IsConfig c → IsSized (sizes_of c r mine)
config_is_sized c r mine is = record { replicas = is.replicas.0; width = is.widths.0 }

nowhere : (t : Bool) → not (t && false) ≡ true
nowhere true = refl
nowhere false = refl

all_pass : (n : ℕ) (test : ℕ → Bool) → all_below n (λ q. not (test q && false)) ≡ true
all_pass zero test = refl
all_pass (suc n) test = rw (nowhere (test n), all_pass n test) refl

-- a step that commits nothing and teaches nothing, by which no region becomes a member, and that is no `Min` and no head
pub record IsSilent (c : Config) (r : ℕ) (past : List Event) (e : Event) : Type 0 where
  pub no_milestone : is_milestone c r past e ≡ false
  pub none_behind : (p : ℕ) → falls_behind c r p past e ≡ false
  pub same : members c r (e ∷ past) ≡ members c r past

plain : (min has more turn lag : Bool) → min ≡ false → more ≡ false → lag ≡ false → ((min && not has) || (more || (turn && lag))) ≡ false
plain min has more true lag a b d = rw (a, b, d) refl
plain min has more false lag a b d = rw (a, b) refl

-- what neither reads a minimum nor commits, and shows no lagging head, is no milestone
pub quiet_milestone : (c : Config) (r : ℕ) (past : List Event) (e : Event) → is_min e ≡ false → commits_more c r past e ≡ false → is_lagging c r past e ≡ false → is_milestone c r past e ≡ false
quiet_milestone c r past e a b d = plain (is_min e) (has is_min (leadership r past)) (commits_more c r past e) (is_replication past e) (is_lagging c r past e) a b d

-- a step that reads no head shows none that lags
pub no_heads : (c : Config) (r : ℕ) (past : List Event) → not (all_below c.replicas (λ q. not (not (marked c q (known c r past)) && false))) ≡ false
no_heads c r past = ap not (all_pass c.replicas (λ q. not (marked c q (known c r past))))

-- the verb reads no minimum and no head, puts nothing, asks nothing and looks at nothing
abbrev pub is_silent : Verb → Bool
is_silent (Verb.Ask p) = false
is_silent (Verb.Min p) = false
is_silent (Verb.PutMin p b) = false
is_silent (Verb.PutSlot p i b v) = false
is_silent (Verb.Look p i) = false
is_silent (Verb.Head q) = false
is_silent _ = true

pub silent_verbs_are_silent : (c : Config) (r : ℕ) (past : List Event) (by : ℕ) (v : Verb) (a : Answer) → is_silent v ≡ true → IsSilent c r past (event_by by v a)
silent_verbs_are_silent c r past by (Verb.Ask p) a h = absurd (true≢false (sym h))
silent_verbs_are_silent c r past by (Verb.Min p) a h = absurd (true≢false (sym h))
silent_verbs_are_silent c r past by (Verb.PutMin p b) a h = absurd (true≢false (sym h))
silent_verbs_are_silent c r past by (Verb.PutSlot p i b v) a h = absurd (true≢false (sym h))
silent_verbs_are_silent c r past by (Verb.Look p i) a h = absurd (true≢false (sym h))
silent_verbs_are_silent c r past by (Verb.Head q) a h = absurd (true≢false (sym h))
silent_verbs_are_silent c r past by v a h = record {
  no_milestone = quiet_milestone c r past (event_by by v a) refl (not_more (length (commits c r past))) (no_heads c r past);
  none_behind = λ p. refl;
  same = refl;
}

-- so is a put that missed
pub missed_min_silent : (c : Config) (r p b : ℕ) (past : List Event) → IsSilent c r past (event_by r (Verb.PutMin p b) Answer.Missed)
missed_min_silent c r p b past = record {
  no_milestone = quiet_milestone c r past (event_by r (Verb.PutMin p b) Answer.Missed) refl (not_more (length (commits c r past))) (no_heads c r past);
  none_behind = λ q. refl;
  same = refl;
}

pub missed_slot_silent : (c : Config) (r p i b v : ℕ) (past : List Event) → IsSilent c r past (event_by r (Verb.PutSlot p i b v) Answer.Missed)
missed_slot_silent c r p i b v past = record {
  no_milestone = quiet_milestone c r past (event_by r (Verb.PutSlot p i b v) Answer.Missed) refl (not_more (length (commits c r past))) (no_heads c r past);
  none_behind = λ q. refl;
  same = refl;
}

-- a number that lands is no milestone
pub landed_no_milestone : (c : Config) (r p b : ℕ) (past : List Event) → is_milestone c r past (event_by r (Verb.PutMin p b) Answer.Done) ≡ false
landed_no_milestone c r p b past = quiet_milestone c r past (event_by r (Verb.PutMin p b) Answer.Done) refl (not_more (length (commits c r past))) (no_heads c r past)

-- nor is an ask
pub asked_no_milestone : (c : Config) (r p : ℕ) (a : Answer) (past : List Event) → is_milestone c r past (event_by r (Verb.Ask p) a) ≡ false
asked_no_milestone c r p a past = quiet_milestone c r past (event_by r (Verb.Ask p) a) refl (not_more (length (commits c r past))) (no_heads c r past)

-- nor a minimum, but for the first one of a leadership
later : (t more turn lag : Bool) → t ≡ true → more ≡ false → lag ≡ false → (not t || (more || (turn && lag))) ≡ false
later t more true lag a b d = rw (a, b, d) refl
later t more false lag a b d = rw (a, b) refl

pub later_min : (c : Config) (r p : ℕ) (a : Answer) (past : List Event) → has is_min (leadership r past) ≡ true → is_milestone c r past (event_by r (Verb.Min p) a) ≡ false
later_min c r p a past read = later (has is_min (leadership r past)) (commits_more c r past (event_by r (Verb.Min p) a)) (is_replication past (event_by r (Verb.Min p) a)) (is_lagging c r past (event_by r (Verb.Min p) a)) read (not_more (length (commits c r past))) (no_heads c r past)

begins : (t rest : Bool) → t ≡ false → (not t || rest) ≡ true
begins t rest a = rw a refl

pub first_min : (c : Config) (r p : ℕ) (a : Answer) (past : List Event) → has is_min (leadership r past) ≡ false → is_milestone c r past (event_by r (Verb.Min p) a) ≡ true
first_min c r p a past unread = begins (has is_min (leadership r past)) _ unread

pub known_look_silent : (c : Config) (r p i : ℕ) (a : Answer) (past : List Event) → known c r (event_by r (Verb.Look p i) a ∷ past) ≡ known c r past → IsSilent c r past (event_by r (Verb.Look p i) a)
known_look_silent c r p i a past same =
    let none : knows_more c r past (event_by r (Verb.Look p i) a) ≡ false = subst (λ xs. nat_lt (length (known c r past)) (length xs) ≡ false) (sym same) (not_more (length (known c r past))) in
    record {
      no_milestone = quiet_milestone c r past (event_by r (Verb.Look p i) a) refl (not_more (length (commits c r past))) (no_heads c r past);
      none_behind = λ q. false_and (knows_more c r past (event_by r (Verb.Look p i) a)) _ none;
      same = refl;
    }

-- a minimum that isn't the first one
pub later_min_silent : (c : Config) (r p : ℕ) (a : Answer) (past : List Event) → has is_min (leadership r past) ≡ true → IsSilent c r past (event_by r (Verb.Min p) a)
later_min_silent c r p a past read = record { no_milestone = later_min c r p a past read; none_behind = λ q. refl; same = refl }

-- a silent step by an edge of the weights
pub steps_on : (c : Config) (r : ℕ) (t u : Stage) (past : List Event) (e : Event) → IsConfig c → is_replication past e ≡ true → IsSilent c r past e → IsPlacedAt c r (sizes_of c r past) t past
    → GoesOn (sizes_of c r past) t u → IsPlace (sizes_of c r past) u → Asks (AsksOn (sizes_of c r past)) c r t u past e → Levels c r t u past e → IsPlacedAt c r (sizes_of c r past) u (e ∷ past)
steps_on c r t u past e is turn quiet at edge place asks levels = places_lead.step c r (sizes_of c r past) t u past e (config_is_sized c r past is) at (record {
  turn = turn;
  edge = edge;
  place = place;
  no_milestone = quiet.no_milestone;
  none_behind = quiet.none_behind;
  same = quiet.same;
  asks = asks;
  levels = levels;
})
