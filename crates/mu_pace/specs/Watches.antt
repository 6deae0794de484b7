-- watches of the paces: for each pace, what opens and closes its count of steps, which steps count
-- and which pay.
use Rattle.std.specs.Prelude.{Bool, List, false, if◌then◌else◌, is_some, length, min, nat_le, nat_lt, not, true, ℕ, ◌&&◌, ◌*◌, ◌+◌, ◌-◌, ◌==◌, ◌||◌, ◌∷◌}
use Rattle.mu_model.specs.declared.config.Config.{Config}
use Rattle.mu_model.specs.declared.event.Event.{Event}
use Rattle.mu_model.specs.declared.event.Verb.{Verb}
use Rattle.mu_agree.specs.Moments.{is_named_turn}
use Rattle.mu_model.specs.Bounds.{cycle, is_copying, is_learning, members}
use Rattle.mu_model.specs.Diligence.{completes_row, is_confirmed, is_fuo_above, is_joining_step, is_milestone}
use Rattle.mu_model.specs.Entering.{min_read}
use Rattle.mu_model.specs.Histories.{greatest, newest, or_zero}
use Rattle.mu_model.specs.Knowledge.{applied, greatest_fuo_read, known}
use Rattle.mu_model.specs.Leaderships.{begins_leadership, has_begun, is_member, is_over, leadership, noted_grant, number_put, proposal_number}
use Rattle.mu_model.specs.Placing.{fuo_read_or_raised}
use Rattle.mu_model.specs.Regions.{region_head}
use Rattle.mu_model.specs.Serving.{has_unserved_ask}
use Rattle.mu_model.specs.Steps.{commits_more, has_min, is_any_fencing, is_ask_read, is_fencing, is_fuo_of, is_granting, is_head_raise, is_lagging, is_min, is_min_put, is_missed_at, is_named, is_over_after, knows_more, leads}
use Rattle.mu_model.specs.Stretches.{is_replication}
use Rattle.mu_pace.specs.Blocking.{is_blocking, is_progress_by}
use Rattle.mu_pace.specs.Counters.{Watch, allowed_after, allowed_while}

-- each event counts
abbrev pub every : List Event → Event → Bool
every past e = true

-- no step gives more steps
abbrev pub nothing : List Event → Event → ℕ
nothing past e = 0

-- the event puts a number of r
abbrev pub puts_number : ℕ → Event → Bool
puts_number r e = is_some (number_put r e.by e.verb)

-- a replication event before which another replica is named, or that meets what is waited for
abbrev pub turns_away : Config → ℕ → (List Event → Event → Bool) → List Event → Event → Bool
turns_away c r met past e = is_replication past e && (not (is_named c r past) || met past e)

-- the same, or a new leadership
abbrev pub leaves : Config → ℕ → (List Event → Event → Bool) → List Event → Event → Bool
leaves c r met past e = begins_leadership r e || turns_away c r met past e

-- how many steps a leadership may take from one progress to the next, with m members, if nothing is
-- copied
abbrev pub limit : Config → ℕ → ℕ
limit c m = 6 * m + 7 * c.replicas + 8 + 12 * c.width

-- the same with the members of the moment
abbrev pub limit_now : Config → ℕ → List Event → ℕ
limit_now c r past = limit c (members c r past)

-- how many more steps the step gives: six for each region that becomes a member by it, eight if it
-- learns or copies an entry
abbrev pub earns : Config → ℕ → List Event → Event → ℕ
earns c r past e =
    6 * (members c r (e ∷ past) - members c r past)
    + (if is_learning c r past e || is_copying c r past e then 8 else 0)

-- grant pace: a read that leaves w unserved waits for a grant
abbrev pub granting : Config → ℕ → ℕ → Watch
granting c r w = record {
  allows =
      allowed_after (λ past e. is_ask_read w e && has_unserved_ask r (e ∷ past) w) (λ now. cycle c);
  closes = λ past e. is_granting e;
  counts = every;
  pays = nothing;
}

-- a milestone waits for progress, in which a head that passes the test is some
abbrev pub progressing_by : (List Event → Event → Bool) → Config → ℕ → Watch
progressing_by stops c r = record {
  allows = allowed_after (is_milestone c r) (limit_now c r);
  closes = leaves c r (is_progress_by stops c r);
  counts = is_replication;
  pays = earns c r;
}

-- progress bound: a milestone waits for progress
abbrev pub progressing : Config → ℕ → Watch
progressing c r = progressing_by (is_lagging c r) c r

-- a milestone waits for an advance, also beyond the head of a replica that can be marked
abbrev pub advancing : Config → ℕ → Watch
advancing c r = progressing_by (is_blocking c r) c r

-- evidence after a miss: a put at p that missed waits for the fence of p, and the next replication
-- event has to read it
abbrev pub explaining : Config → ℕ → ℕ → Watch
explaining c r p = record {
  allows = allowed_after (λ past e. is_missed_at p e) (λ now. 1);
  closes = turns_away c r (λ past e. is_fencing p e);
  counts = is_replication;
  pays = nothing;
}

-- the fence that was read confirms a leadership without a `Min`
abbrev pub is_confirming : Config → ℕ → List Event → Event → Bool
is_confirming c r past e =
    has_begun r past && (is_any_fencing e && (not (has_min r past) && is_confirmed c r (e ∷ past)))

-- confirmation: such a leadership waits for its `Min`, or for a fence that takes the confirmation
-- back
abbrev pub confirming : Config → ℕ → Watch
confirming c r = record {
  allows = allowed_after (is_confirming c r) (λ now. c.replicas);
  closes =
      turns_away c r
      (λ past e. is_min e || (is_any_fencing e && not (is_confirmed c r (e ∷ past))));
  counts = is_replication;
  pays = nothing;
}

-- the verb raises the FUO of p to at least u
abbrev pub is_raise_to_verb : ℕ → ℕ → Verb → Bool
is_raise_to_verb p u (Verb.RaiseFuo q x) = (q == p) && nat_le u x
is_raise_to_verb p u _ = false

-- the event raises the FUO of p to all that r knows
abbrev pub is_full_raise : Config → ℕ → ℕ → List Event → Event → Bool
is_full_raise c r p past e = is_raise_to_verb p (length (known c r past)) e.verb

-- raised FUOs: a commit waits for the raise of the FUO of p, a member, and each member has a turn
abbrev pub raising : Config → ℕ → ℕ → Watch
raising c r p = record {
  allows =
      allowed_after (λ past e. commits_more c r past e && is_member r p (e ∷ past)) (members c r);
  closes = leaves c r (is_full_raise c r p);
  counts = is_replication;
  pays = nothing;
}

-- asking after late followers: at each moment, if p is no member, its fence is waited for while r
-- leads
abbrev pub asking_after : Config → ℕ → ℕ → Watch
asking_after c r p = record {
  allows = allowed_while (λ now. not (is_member r p now)) (λ now. 2 * limit_now c r now);
  closes =
      λ past e. is_member r p (e ∷ past)
      || leaves c r (λ before f. not (leads r before) || is_fencing p f) past e;
  counts = is_replication;
  pays = λ past e. 2 * earns c r past e;
}

-- the fence that was read shows a late follower that grants to r
abbrev pub is_welcoming : Config → ℕ → ℕ → List Event → Event → Bool
is_welcoming c r p past e =
    is_fencing p e
    && (is_some (proposal_number r past)
    && (not (is_over r past)
    && (not (is_member r p past) && is_some (noted_grant r p (e ∷ past)))))

-- the step enters the number, ends the leadership, or shows that p is ahead
abbrev pub is_answer_to_welcome : Config → ℕ → ℕ → List Event → Event → Bool
is_answer_to_welcome c r p past e =
    is_min_put p e || (is_over_after r past e || is_fuo_above r p (length (known c r past)) e)

-- joining: such a fence waits for the number to be entered
abbrev pub joining : Config → ℕ → ℕ → Watch
joining c r p = record {
  allows = allowed_after (is_welcoming c r p) (λ now. 4);
  closes = leaves c r (is_answer_to_welcome c r p);
  counts = is_replication;
  pays = nothing;
}

-- a FUO of p was read or raised in the leadership that covers all that r knows
abbrev pub is_brought_up : Config → ℕ → ℕ → List Event → Bool
is_brought_up c r p now =
    nat_le (length (known c r now))
    (greatest (λ e. fuo_read_or_raised r p e.by e.verb e.answer) (leadership r now))

-- a region became a member, or an entry was learnt, and the member p is not brought up
abbrev pub falls_behind : Config → ℕ → ℕ → List Event → Event → Bool
falls_behind c r p past e =
    (is_joining_step r past e || is_learning c r past e)
    && (is_some (proposal_number r (e ∷ past))
    && (is_member r p (e ∷ past) && not (is_brought_up c r p (e ∷ past))))

-- bringing up: a member that falls behind waits to be brought up
abbrev pub bringing_up : Config → ℕ → ℕ → Watch
bringing_up c r p = record {
  allows = allowed_after (falls_behind c r p) (limit_now c r);
  closes = λ past e. is_brought_up c r p (e ∷ past) || leaves c r (is_over_after r) past e;
  counts = is_replication;
  pays = earns c r;
}

-- replayer pace: at each moment a read of the replica's own FUO is waited for
abbrev pub reading_own : Config → ℕ → Watch
reading_own c r = record {
  allows = allowed_while (λ now. true) (λ now. 8 * c.replicas + 88);
  closes = λ past e. is_fuo_of r e || is_named_turn c r past e;
  counts = every;
  pays = nothing;
}

-- its own FUO was read above what is applied
abbrev pub is_replay_due : Config → ℕ → List Event → Bool
is_replay_due c r now = nat_lt (length (applied c r now)) (greatest_fuo_read r r now)

-- while that is so, an entry or a row more is waited for
abbrev pub replaying : Config → ℕ → Watch
replaying c r = record {
  allows = allowed_while (is_replay_due c r) (λ now. 8 * c.replicas + 88);
  closes =
      λ past e. (knows_more c r past e || completes_row c r past e) || is_named_turn c r past e;
  counts = every;
  pays = nothing;
}

-- its own head is below what is applied and within its own FUO
abbrev pub is_head_due : Config → ℕ → List Event → Bool
is_head_due c r now =
    nat_lt (region_head r now)
    (min (length (applied c r now))
    (greatest (λ e. fuo_read_or_raised r r e.by e.verb e.answer) now))

-- head pace: while that is so, a raise of its own head is waited for
abbrev pub raising_head : Config → ℕ → Watch
raising_head c r = record {
  allows = allowed_while (is_head_due c r) (λ now. cycle c);
  closes = λ past e. is_head_raise e;
  counts = every;
  pays = nothing;
}
