-- Once its number was put the listing of a leader goes on with later places, or begins again.
use Rattle.std.proofs.Common.{◌≡◌, ℕ, ◌+◌, ◌==◌, Bool, true, false, Some, List, refl, sym, get_or}
use Rattle.std.specs.Prelude.{if◌then◌else◌, is_some, nat_lt}
use Rattle.std.proofs.lemmas.Bool.{true≢false}
use Rattle.mu_model.specs.declared.config.Config.{Config}
use Rattle.mu_model.specs.declared.event.Answer.{Answer}
use Rattle.mu_model.specs.declared.event.Event.{Event}
use Rattle.mu_model.specs.Picks.{is_past}
use Rattle.mu_model.specs.Leaderships.{is_over, noted_grant}
use Rattle.mu_lead.specs.declared.place.Place.{Place}
use Rattle.mu_lead.specs.declared.place.Then.{Then}
use Rattle.mu_lively.proofs.Onwards.{if_passes, is_onward, bring_onward, head_onward, late_onward, learning_onward, look_onward, region_onward, written_onward, or_passes}
use Rattle.mu_lead.specs.Leading.{end_of}
use Rattle.mu_lead.specs.Listing.{Tables, after_copy, after_look, bring_up, farther, first_member, is_lost, is_missed, larger_sight, late_from, learn_from, member_from, next_place, number_told, or_else, sight_of, unless_lost, unless_missed}

-- the place comes after the number was put
abbrev pub is_started : Place → Bool
is_started (Place.Ask p) = false
is_started (Place.Confirm k p) = false
is_started (Place.ReadMin p) = false
is_started (Place.EnterMin p) = false
is_started (Place.PutMin p) = false
is_started place = true

-- such a place, or the first ask
abbrev pub is_later : Place → Bool
is_later (Place.Ask p) = p == 0
is_later place = is_started place

onward_later : (x : Place) → is_onward x ≡ true → is_later x ≡ true
onward_later (Place.Ask p) is = absurd (true≢false (sym is))
onward_later (Place.Confirm k p) is = is
onward_later (Place.ReadMin p) is = is
onward_later (Place.EnterMin p) is = is
onward_later (Place.PutMin p) is = is
onward_later x is = refl

lost_later : (a : Answer) (on : Place) → is_later on ≡ true → is_later (unless_lost a on) ≡ true
lost_later a on later = if_passes is_later (is_lost a) (Place.Ask 0) on refl later

missed_later : (a : Answer) (p : ℕ) (on : Place) → is_later on ≡ true → is_later (unless_missed a p on) ≡ true
missed_later a p on later = if_passes is_later (is_missed a) (Place.Evidence p) on refl later

-- once the number was put the listing goes on so, or begins again
pub later_goes : (c : Config) (r b : ℕ) (now : List Event) (t : Tables) (a : Answer) (place : Place) → is_started place ≡ true → is_later (next_place c r b now t a place) ≡ true
later_goes c r b now t a (Place.Ask p) is = absurd (true≢false (sym is))
later_goes c r b now t a (Place.Confirm k p) is = absurd (true≢false (sym is))
later_goes c r b now t a (Place.ReadMin p) is = absurd (true≢false (sym is))
later_goes c r b now t a (Place.EnterMin p) is = absurd (true≢false (sym is))
later_goes c r b now t a (Place.PutMin p) is = absurd (true≢false (sym is))
later_goes c r b now t a (Place.ReadFuo p source) is = let s = farther t.up source p in or_passes is_later (member_from c r now (p + 1)) (λ q. Place.ReadFuo q (Some s)) (learn_from c r now t s) (λ q. refl) (onward_later _ (learning_onward c r now t s))
later_goes c r b now t a (Place.Learn p) is = if_passes is_later (is_past a) Place.Outrun (learn_from c r now t p) refl (onward_later _ (learning_onward c r now t p))
later_goes c r b now t a (Place.WidenBehind p on) is = refl
later_goes c r b now t a (Place.LookBehind p on) is = if_passes is_later (is_past a) (Place.FenceBehind p on) (Place.EnterBehind p on) refl refl
later_goes c r b now t a (Place.EnterBehind p on) is = lost_later a (Place.PutBehind p on) refl
later_goes c r b now t a (Place.PutBehind p on) is = missed_later a p (after_copy c r now t.up t.reach p on) (if_passes is_later (nat_lt (get_or t.up p 0) (end_of c r now)) (bring_up c t.up t.reach p on) (Place.RaiseBehind p on) (onward_later _ (bring_onward c t.up t.reach p on)) refl)
later_goes c r b now t a (Place.RaiseBehind p on) is = onward_later _ (region_onward c r now t p on)
later_goes c r b now t a (Place.FenceBehind p on) is = if_passes is_later (is_over r now) (Place.Ask 0) (Place.LookBehind p on) refl refl
later_goes c r b now t a (Place.LateFence p) is = if_passes is_later (is_some (noted_grant r p now)) (Place.LateMin p) (late_from c r now t.heads (p + 1)) refl (onward_later _ (late_onward c r now t.heads (p + 1)))
later_goes c r b now t a (Place.LateMin p) is = if_passes is_later (nat_lt b (number_told a)) (Place.Ask 0) (Place.LateFuo p) refl refl
later_goes c r b now t a (Place.LateFuo p) is = if_passes is_later (nat_lt (end_of c r now) (number_told a)) (late_from c r now t.heads (p + 1)) (Place.LateEnter p) (onward_later _ (late_onward c r now t.heads (p + 1))) refl
later_goes c r b now t a (Place.LateEnter p) is = lost_later a (Place.LatePut p) refl
later_goes c r b now t a (Place.LatePut p) is =
    missed_later a p (if nat_lt (get_or t.up p 0) (end_of c r now) then bring_up c t.up t.reach p Then.Joined else late_from c r now t.heads (p + 1))
    (if_passes is_later (nat_lt (get_or t.up p 0) (end_of c r now)) (bring_up c t.up t.reach p Then.Joined) (late_from c r now t.heads (p + 1)) (onward_later _ (bring_onward c t.up t.reach p Then.Joined)) (onward_later _ (late_onward c r now t.heads (p + 1))))
later_goes c r b now t a (Place.ReadHead q candidate) is = onward_later _ (head_onward c r now t.heads q candidate (number_told a))
later_goes c r b now t a (Place.Look p i candidate best) is = let s = larger_sight best (sight_of a) in if_passes is_later (is_past a) Place.Outrun (after_look c r now t p i candidate s) refl (onward_later _ (look_onward c r now t p i candidate s))
later_goes c r b now t a (Place.Write j last offer) is = onward_later _ (written_onward c r now t.written j last offer)
later_goes c r b now t a (Place.Enter p offer) is = lost_later a (Place.Put p offer) refl
later_goes c r b now t a (Place.Put p offer) is = missed_later a p (or_else (member_from c r now (p + 1)) (λ q. Place.Enter q offer) (Place.Raise (first_member c r now))) (or_passes is_later (member_from c r now (p + 1)) (λ q. Place.Enter q offer) (Place.Raise (first_member c r now)) (λ q. refl) refl)
later_goes c r b now t a (Place.Raise p) is = or_passes is_later (member_from c r now (p + 1)) Place.Raise (late_from c r now t.heads 0) (λ q. refl) (onward_later _ (late_onward c r now t.heads 0))
later_goes c r b now t a (Place.Evidence p) is = refl
later_goes c r b now t a Place.Outrun is = refl
later_goes c r b now t a Place.Rest is = refl
