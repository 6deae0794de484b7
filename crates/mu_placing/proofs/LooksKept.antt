-- After an event whose verb isn't a leader's one event more has come, and nothing was looked at or put.
use Rattle.std.proofs.Common.{◌≡◌, ℕ, ◌+◌, false, true≢false, List, ◌∷◌, sym, ap, ◌∙◌, arith}
use Rattle.mu_model.specs.declared.config.Config.{Config}
use Rattle.mu_model.specs.declared.event.Answer.{Answer}
use Rattle.mu_model.specs.declared.event.Event.{Event}
use Rattle.mu_model.specs.declared.event.Verb.{Verb}
use Rattle.mu_model.specs.Histories.{event_by}
use Rattle.mu_leadership.specs.Bearing.{is_leader_verb}
use Rattle.mu_placing.specs.Looks.{StandsForLooks}
use Rattle.mu_placing.specs.declared.looks.Looks.{Looks}
use Rattle.mu_placing.proofs.Tables.{firsts_stay, looks_stay}

-- the same with this time
abbrev pub at_time : Looks → ℕ → Looks
at_time state time = record { replica = state.replica; time = time; begun_at = state.begun_at; joined_at = state.joined_at; own_reach = state.own_reach; firsts = state.firsts; regions = state.regions }

kept_by : (c : Config) (r by : ℕ) (verb : Verb) (answer : Answer) (mine : List Event) (state : Looks) (time : ℕ) → is_leader_verb verb ≡ false → time ≡ state.time + 1 → StandsForLooks c r mine state → StandsForLooks c r (event_by by verb answer ∷ mine) (at_time state time)
kept_by c r by (Verb.Ask p) answer mine state time other later held = cc
kept_by c r by (Verb.Fence p) answer mine state time other later held = cc
kept_by c r by (Verb.Min p) answer mine state time other later held = cc
kept_by c r by (Verb.Enter p t) answer mine state time other later held = cc
kept_by c r by (Verb.PutMin p b) answer mine state time other later held = cc
kept_by c r by (Verb.Look p i) answer mine state time other later held = cc
kept_by c r by (Verb.PutSlot p i b v) answer mine state time other later held = cc
kept_by c r by (Verb.Fuo p) answer mine state time other later held = cc
kept_by c r by (Verb.RaiseFuo p u) answer mine state time other later held = cc
kept_by c r by verb answer mine state time other later held = record {
  replica = held.replica;
  time = let at = held.time in omega (arith, later, at);
  begun_at = held.begun_at;
  joined_at = held.joined_at;
  own_reach = held.own_reach;
  positions = held.positions;
  firsts = firsts_stay r mine (event_by by verb answer) state.firsts.items (λ q j b v put own. absurd (true≢false (sym (ap is_leader_verb put) ∙ other))) held.firsts;
  seven = held.seven;
  regions = λ p looks there.
      let h = held.regions p looks there in
      record {
        region = h.region;
        member_since = h.member_since;
        entered_at = h.entered_at;
        reach = h.reach;
        places = h.places;
        puts = h.puts;
        positions = h.positions;
        looks = looks_stay c r p mine (event_by by verb answer) looks.looks.items (λ q j look own here. absurd (true≢false (sym (ap is_leader_verb look) ∙ other))) h.looks;
      };
}

pub placing_kept : (c : Config) (r : ℕ) (e : Event) (mine : List Event) (state : Looks) (time : ℕ) → is_leader_verb e.verb ≡ false → time ≡ state.time + 1 → StandsForLooks c r mine state → StandsForLooks c r (e ∷ mine) (at_time state time)
placing_kept c r e mine state time other later held = kept_by c r e.by e.verb e.answer mine state time other later held
