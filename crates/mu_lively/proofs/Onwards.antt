-- Where the listing goes on, as far as asks depend on it: it leads on until the leadership is over.
use Rattle.std.proofs.Common.{◌≡◌, ℕ, ◌+◌, ◌<◌, ◌≤◌, inl, inr, Bool, true, false, List, ◌∷◌, None, Some, is_some, refl, ◌∙◌, ap, subst}
use Rattle.std.specs.Prelude.{get_or, if◌then◌else◌, nat_lt, not, ◌%◌, ◌&&◌, ◌*◌, ◌==◌, ◌⊎◌}
use Rattle.std.specs.declared.option.Option.{Option}
use Rattle.std.proofs.lemmas.Bool.{ltb-false, ltb-true}
use Rattle.mu_model.specs.declared.config.Config.{Config}
use Rattle.mu_model.specs.declared.event.Answer.{Answer}
use Rattle.mu_model.specs.declared.event.Event.{Event}
use Rattle.mu_model.specs.declared.event.Target.{Target}
use Rattle.mu_model.specs.declared.event.Verb.{Verb}
use Rattle.mu_model.specs.Contents.{holds_all, rest_of, row_count}
use Rattle.mu_model.specs.Diligence.{is_confirmed}
use Rattle.mu_model.specs.Knowledge.{known}
use Rattle.mu_model.specs.Leaderships.{is_over, noted_grant}
use Rattle.mu_model.specs.Parts.{IsPossible}
use Rattle.mu_model.specs.Picks.{is_past}
use Rattle.mu_model.specs.Placing.{is_within_ring}
use Rattle.mu_model.specs.Room.{reserve}
use Rattle.mu_model.specs.Histories.{event_by}
use Rattle.mu_lead.specs.declared.place.Offer.{Offer}
use Rattle.mu_lead.specs.declared.place.Place.{Place}
use Rattle.mu_lead.specs.declared.place.Sight.{Sight}
use Rattle.mu_lead.specs.declared.place.Then.{Then}
use Rattle.mu_lead.specs.Beside.{leads_at}
use Rattle.mu_lively.specs.Gathering.{FollowsFence, FollowsRound, GoesFrom, LeadsOrEnds, ends_at, reads_first}
use Rattle.mu_lead.specs.Lasting.{step_of}
use Rattle.mu_lead.specs.Leading.{end_of}
use Rattle.mu_lead.specs.Listing.{Tables, after_head, behind_from, farther, first_member, larger_sight, low_from, member_from, sight_of, stranger_from, after_look, after_members, after_region, after_round, bring_up, bring_up_from, heads_from, late_from, learn_from, least_candidate, may_mark, next_place, next_position, noted_from, number_told, offer_row, or_else, own_offer, pick, unless_lost, unless_missed, write_from}
use Rattle.mu_knowledge.specs.Offers.{first_in}
use Rattle.mu_lead.specs.Standing.{At}
use Rattle.mu_lively.proofs.Gathering.{higher_over, lost_over, missed_min_over, missed_slot_over}
use Rattle.mu_lead.proofs.Replies.{enters_or, puts_min_or, puts_slot_or, tells_min}

pub if_passes : (test : Place → Bool) (t : Bool) (x y : Place) → test x ≡ true → test y ≡ true → test (if t then x else y) ≡ true
if_passes test true x y one other = one
if_passes test false x y one other = other

pub or_passes : (test : Place → Bool) (o : Option ℕ) (there : ℕ → Place) (other : Place) → ((q : ℕ) → test (there q) ≡ true) → test other ≡ true → test (or_else o there other) ≡ true
or_passes test None there other each last = last
or_passes test (Some q) there other each last = each q

-- a place of a leader whose number is put at each member
abbrev pub is_onward : Place → Bool
is_onward (Place.Ask p) = false
is_onward (Place.Confirm k p) = false
is_onward (Place.ReadMin p) = false
is_onward (Place.EnterMin p) = false
is_onward (Place.PutMin p) = false
is_onward (Place.Evidence p) = false
is_onward place = true

onward_leads : (x : Place) → is_onward x ≡ true → leads_at x ≡ true
onward_leads (Place.Ask p) is = is
onward_leads (Place.Confirm k p) is = is
onward_leads (Place.Evidence p) is = is
onward_leads x is = refl

pub heads_onward : (c : Config) (r : ℕ) (now : List Event) (heads : List ℕ) (q : ℕ) (candidate : Option ℕ) → is_onward (heads_from c r now heads q candidate) ≡ true
heads_onward c r now heads q candidate = or_passes is_onward (low_from c r now heads q) (λ k. Place.ReadHead k candidate) (Place.Look (first_member c r now) (end_of c r now) candidate None) (λ k. refl) refl

pub position_onward : (c : Config) (r : ℕ) (now : List Event) (heads : List ℕ) → is_onward (next_position c r now heads) ≡ true
position_onward c r now heads = if_passes is_onward (holds_all c (known c r now)) (or_else (stranger_from c r now 0) Place.LateFence Place.Rest) (if nat_lt (end_of c r now) (row_count c + reserve c) then heads_from c r now heads 0 None else Place.Rest) (or_passes is_onward (stranger_from c r now 0) Place.LateFence Place.Rest (λ q. refl) refl) (if_passes is_onward (nat_lt (end_of c r now) (row_count c + reserve c)) (heads_from c r now heads 0 None) Place.Rest (heads_onward c r now heads 0 None) refl)

pub late_onward : (c : Config) (r : ℕ) (now : List Event) (heads : List ℕ) (p : ℕ) → is_onward (late_from c r now heads p) ≡ true
late_onward c r now heads p = or_passes is_onward (stranger_from c r now p) Place.LateFence (next_position c r now heads) (λ q. refl) (position_onward c r now heads)

pub bring_onward : (c : Config) (up : List ℕ) (reach : List (Option ℕ)) (p : ℕ) (on : Then) → is_onward (bring_up c up reach p on) ≡ true
bring_onward c up reach p on = if_passes is_onward (c.version == 2 && not (is_within_ring (get_or up p 0) c.ring (get_or reach p None))) (Place.WidenBehind p on) (Place.LookBehind p on) refl refl

pub members_onward : (c : Config) (r : ℕ) (now : List Event) (heads : List ℕ) (on : Then) → is_onward (after_members c r now heads on) ≡ true
members_onward c r now heads Then.Late = late_onward c r now heads 0
members_onward c r now heads on = position_onward c r now heads

pub brought_onward : (c : Config) (r : ℕ) (now : List Event) (t : Tables) (p : ℕ) (on : Then) → is_onward (bring_up_from c r now t p on) ≡ true
brought_onward c r now t p on = or_passes is_onward (behind_from c r now t.up p) (λ q. bring_up c t.up t.reach q on) (after_members c r now t.heads on) (λ q. bring_onward c t.up t.reach q on) (members_onward c r now t.heads on)

pub region_onward : (c : Config) (r : ℕ) (now : List Event) (t : Tables) (p : ℕ) (on : Then) → is_onward (after_region c r now t p on) ≡ true
region_onward c r now t p Then.Joined = late_onward c r now t.heads (p + 1)
region_onward c r now t p on = brought_onward c r now t (p + 1) on

pub learning_onward : (c : Config) (r : ℕ) (now : List Event) (t : Tables) (s : ℕ) → is_onward (learn_from c r now t s) ≡ true
learning_onward c r now t s = if_passes is_onward (nat_lt (end_of c r now) (get_or t.up s 0)) (Place.Learn s) (bring_up_from c r now t 0 Then.Late) refl (brought_onward c r now t 0 Then.Late)

pub written_onward : (c : Config) (r : ℕ) (now : List Event) (written : List ℕ) (first last : ℕ) (offer : Offer) → is_onward (write_from c r now written first last offer) ≡ true
written_onward c r now written first last offer = or_passes is_onward (first_in (λ j. nat_lt (get_or written j 12) 12) first (last + 1)) (λ j. Place.Write j last offer) (Place.Enter (first_member c r now) offer) (λ j. refl) refl

pub pick_onward : (c : Config) (r : ℕ) (now : List Event) (written : List ℕ) (candidate : Option ℕ) (best : Option Sight) → is_onward (pick c r now written candidate best) ≡ true
pick_onward c r now written candidate (Some s) = refl
pick_onward c r now written (Some q) None = refl
pick_onward c r now written None None = or_passes is_onward (own_offer c r (known c r now) (end_of c r now)) (offer_row c r now written) Place.Rest (λ j. written_onward c r now written j (j + rest_of c j) (record { value = r * 4096 + j; adopted = false })) refl

pub look_onward : (c : Config) (r : ℕ) (now : List Event) (t : Tables) (p i : ℕ) (candidate : Option ℕ) (best : Option Sight) → is_onward (after_look c r now t p i candidate best) ≡ true
look_onward c r now t p i candidate best = if_passes is_onward (nat_lt i (end_of c r now)) (bring_up_from c r now t 0 Then.Position) (or_else (member_from c r now (p + 1)) (λ q. Place.Look q (end_of c r now) candidate best) (pick c r now t.written candidate best)) (brought_onward c r now t 0 Then.Position)
    (or_passes is_onward (member_from c r now (p + 1)) (λ q. Place.Look q (end_of c r now) candidate best) (pick c r now t.written candidate best) (λ q. refl) (pick_onward c r now t.written candidate best))

pub head_onward : (c : Config) (r : ℕ) (now : List Event) (heads : List ℕ) (q : ℕ) (candidate : Option ℕ) (h : ℕ) → is_onward (after_head c r now heads q candidate h) ≡ true
head_onward c r now heads q candidate h = if_passes is_onward (nat_lt (end_of c r now + reserve c) (h + c.ring)) (heads_from c r now heads (q + 1) candidate) (if may_mark c r now q h then heads_from c r now heads (q + 1) (least_candidate candidate q) else late_from c r now heads 0) (heads_onward c r now heads (q + 1) candidate) (if_passes is_onward (may_mark c r now q h) (heads_from c r now heads (q + 1) (least_candidate candidate q)) (late_from c r now heads 0) (heads_onward c r now heads (q + 1) (least_candidate candidate q)) (late_onward c r now heads 0))

-- an `Enter` takes, or is lost
enter_goes : (c : Config) (r p : ℕ) (target : Target) (a : Answer) (mine : List Event) (on : Place) → IsPossible c r (event_by r (Verb.Enter p target) a ∷ mine) → leads_at on ≡ true → LeadsOrEnds r (event_by r (Verb.Enter p target) a ∷ mine) (unless_lost a on)
enter_goes c r p target a mine on possible leads = elim (enters_or c r p target a mine possible) [
  | inl entered ↦ inl (ap (λ x. leads_at (unless_lost x on)) entered ∙ leads)
  | inr lost ↦ inr (lost_over r p target a lost.0 mine lost.1, ap (λ x. ends_at (unless_lost x on)) lost.1)
]

-- a put lands, or misses
missed_goes : (r p : ℕ) (verb : Verb) (a : Answer) (mine : List Event) (on : Place) → (a ≡ Answer.Done) ⊎ (a ≡ Answer.Missed) → (a ≡ Answer.Missed → is_over r (event_by r verb a ∷ mine) ≡ true) → leads_at on ≡ true → LeadsOrEnds r (event_by r verb a ∷ mine) (unless_missed a p on)
missed_goes r p verb a mine on (inl done) over leads = inl (ap (λ x. leads_at (unless_missed x p on)) done ∙ leads)
missed_goes r p verb a mine on (inr missed) over leads = inr (over missed, ap (λ x. ends_at (unless_missed x p on)) missed)

slot_goes : (c : Config) (r p i b v : ℕ) (a : Answer) (mine : List Event) (on : Place) → IsPossible c r (event_by r (Verb.PutSlot p i b v) a ∷ mine) → leads_at on ≡ true → LeadsOrEnds r (event_by r (Verb.PutSlot p i b v) a ∷ mine) (unless_missed a p on)
slot_goes c r p i b v a mine on possible leads = missed_goes r p (Verb.PutSlot p i b v) a mine on (puts_slot_or c r p i b v a mine possible) (missed_slot_over r p i b v a mine) leads

pub listing_goes : (c : Config) (r b : ℕ) (mine : List Event) (up : List ℕ) (reach : List (Option ℕ)) (written : List ℕ) (t : Tables) (place : Place) (a : Answer) → At c r b mine up reach written place → IsPossible c r (step_of c r b mine up written place a ∷ mine)
    → GoesFrom c.replicas r (step_of c r b mine up written place a ∷ mine) place (next_place c r b (step_of c r b mine up written place a ∷ mine) t a place)
listing_goes c r b mine up reach written t (Place.Ask p) a at possible = go (nat_lt (p + 1) c.replicas) refl
  where
    go : (x : Bool) → nat_lt (p + 1) c.replicas ≡ x → ((if x then Place.Ask (p + 1) else Place.Confirm 0 0) ≡ Place.Ask (p + 1)) ⊎ ((c.replicas ≤ p + 1) × ((if x then Place.Ask (p + 1) else Place.Confirm 0 0) ≡ Place.Confirm 0 0))
    go true more = inl refl
    go false last = inr (ltb-false (p + 1) c.replicas last, refl)
listing_goes c r b mine up reach written t (Place.Confirm round p) a at possible = go (nat_lt (p + 1) c.replicas) refl
  where
    now : List Event
    now = event_by r (Verb.Fence p) a ∷ mine

    reads : (o : Option ℕ) → reads_first (or_else o Place.ReadMin Place.Rest) ≡ true
    reads None = refl
    reads (Some q) = refl

    again : (x : Bool) → nat_lt round 15 ≡ x → FollowsRound round (if x then Place.Confirm (round + 1) 0 else Place.Ask 0)
    again true low = inl (ltb-true round 15 low, refl)
    again false high = inr (inl (ltb-false round 15 high, refl))

    ends : (x : Bool) → FollowsRound round (if x then or_else (noted_from c r now 0) Place.ReadMin Place.Rest else (if nat_lt round 15 then Place.Confirm (round + 1) 0 else Place.Ask 0))
    ends true = inr (inr (reads (noted_from c r now 0)))
    ends false = again (nat_lt round 15) refl

    go : (x : Bool) → nat_lt (p + 1) c.replicas ≡ x → FollowsFence c.replicas round p (if x then Place.Confirm round (p + 1) else after_round c r now round)
    go true more = inl refl
    go false last = inr (ltb-false (p + 1) c.replicas last, ends (is_confirmed c r now))
listing_goes c r b mine up reach written t (Place.ReadMin p) a at possible =
    let now = event_by r (Verb.Min p) a ∷ mine in
    or_passes leads_at (noted_from c r now (p + 1)) Place.ReadMin (or_else (noted_from c r now 0) Place.EnterMin Place.Rest) (λ q. refl) (or_passes leads_at (noted_from c r now 0) Place.EnterMin Place.Rest (λ q. refl) refl)
listing_goes c r b mine up reach written t (Place.EnterMin p) a at possible = enter_goes c r p Target.Min a mine (Place.PutMin p) possible refl
listing_goes c r b mine up reach written t (Place.PutMin p) a at possible =
    (let now = event_by r (Verb.PutMin p b) a ∷ mine in missed_goes r p (Verb.PutMin p b) a mine (or_else (noted_from c r now (p + 1)) Place.EnterMin (Place.ReadFuo (first_member c r now) None)) (puts_min_or c r p b a mine possible) (missed_min_over r p b a mine) (or_passes leads_at (noted_from c r now (p + 1)) Place.EnterMin (Place.ReadFuo (first_member c r now) None) (λ q. refl) refl))
listing_goes c r b mine up reach written t (Place.ReadFuo p source) a at possible = (let now = event_by r (Verb.Fuo p) a ∷ mine in let s = farther t.up source p in inl (or_passes leads_at (member_from c r now (p + 1)) (λ q. Place.ReadFuo q (Some s)) (learn_from c r now t s) (λ q. refl) (onward_leads _ (learning_onward c r now t s))))
listing_goes c r b mine up reach written t (Place.Learn p) a at possible = (let now = event_by r (Verb.Look p (end_of c r mine)) a ∷ mine in inl (if_passes leads_at (is_past a) Place.Outrun (learn_from c r now t p) refl (onward_leads _ (learning_onward c r now t p))))
listing_goes c r b mine up reach written t (Place.WidenBehind p on) a at possible = inl refl
listing_goes c r b mine up reach written t (Place.LookBehind p on) a at possible = inl (if_passes leads_at (is_past a) (Place.FenceBehind p on) (Place.EnterBehind p on) refl refl)
listing_goes c r b mine up reach written t (Place.EnterBehind p on) a at possible = enter_goes c r p (Target.Place (get_or up p 0 % c.ring)) a mine (Place.PutBehind p on) possible refl
listing_goes c r b mine up reach written t (Place.PutBehind p on) a at possible = (let now = step_of c r b mine up written (Place.PutBehind p on) a ∷ mine in
    slot_goes c r p (get_or up p 0) b (get_or (known c r mine) (get_or up p 0) 0) a mine (if nat_lt (get_or t.up p 0) (end_of c r now) then bring_up c t.up t.reach p on else Place.RaiseBehind p on) possible (if_passes leads_at (nat_lt (get_or t.up p 0) (end_of c r now)) (bring_up c t.up t.reach p on) (Place.RaiseBehind p on) (onward_leads _ (bring_onward c t.up t.reach p on)) refl))
listing_goes c r b mine up reach written t (Place.RaiseBehind p on) a at possible = inl (onward_leads _ (region_onward c r (event_by r (Verb.RaiseFuo p (get_or up p 0)) a ∷ mine) t p on))
listing_goes c r b mine up reach written t (Place.FenceBehind p on) a at possible = go (is_over r (event_by r (Verb.Fence p) a ∷ mine)) refl
  where
    go : (x : Bool) → is_over r (event_by r (Verb.Fence p) a ∷ mine) ≡ x → LeadsOrEnds r (event_by r (Verb.Fence p) a ∷ mine) (if x then Place.Ask 0 else Place.LookBehind p on)
    go true over = inr (over, refl)
    go false on = inl refl
listing_goes c r b mine up reach written t (Place.LateFence p) a at possible = (let now = event_by r (Verb.Fence p) a ∷ mine in inl (if_passes leads_at (is_some (noted_grant r p now)) (Place.LateMin p) (late_from c r now t.heads (p + 1)) refl (onward_leads _ (late_onward c r now t.heads (p + 1)))))
listing_goes c r b mine up reach written t (Place.LateMin p) a at possible = go (nat_lt b (number_told a)) refl
  where
    told : (n : ℕ) × (a ≡ Answer.Number n)
    told = tells_min c r p a mine possible

    go : (x : Bool) → nat_lt b (number_told a) ≡ x → LeadsOrEnds r (event_by r (Verb.Min p) a ∷ mine) (if x then Place.Ask 0 else Place.LateFuo p)
    go true more = inr (higher_over r p b told.0 a mine told.1 at.late.level.leads.numbered (subst (λ n. b < n) (ap number_told told.1) (ltb-true b (number_told a) more)), refl)
    go false low = inl refl
listing_goes c r b mine up reach written t (Place.LateFuo p) a at possible = (let now = event_by r (Verb.Fuo p) a ∷ mine in inl (if_passes leads_at (nat_lt (end_of c r now) (number_told a)) (late_from c r now t.heads (p + 1)) (Place.LateEnter p) (onward_leads _ (late_onward c r now t.heads (p + 1))) refl))
listing_goes c r b mine up reach written t (Place.LateEnter p) a at possible = enter_goes c r p Target.Min a mine (Place.LatePut p) possible refl
listing_goes c r b mine up reach written t (Place.LatePut p) a at possible =
    (let now = event_by r (Verb.PutMin p b) a ∷ mine in
    missed_goes r p (Verb.PutMin p b) a mine (if nat_lt (get_or t.up p 0) (end_of c r now) then bring_up c t.up t.reach p Then.Joined else late_from c r now t.heads (p + 1)) (puts_min_or c r p b a mine possible) (missed_min_over r p b a mine)
    (if_passes leads_at (nat_lt (get_or t.up p 0) (end_of c r now)) (bring_up c t.up t.reach p Then.Joined) (late_from c r now t.heads (p + 1)) (onward_leads _ (bring_onward c t.up t.reach p Then.Joined)) (onward_leads _ (late_onward c r now t.heads (p + 1)))))
listing_goes c r b mine up reach written t (Place.ReadHead q candidate) a at possible = inl (onward_leads _ (head_onward c r (event_by r (Verb.Head q) a ∷ mine) t.heads q candidate (number_told a)))
listing_goes c r b mine up reach written t (Place.Look p i candidate best) a at possible = (let now = event_by r (Verb.Look p i) a ∷ mine in let s = larger_sight best (sight_of a) in inl (if_passes leads_at (is_past a) Place.Outrun (after_look c r now t p i candidate s) refl (onward_leads _ (look_onward c r now t p i candidate s))))
listing_goes c r b mine up reach written t (Place.Write j last offer) a at possible = inl (onward_leads _ (written_onward c r (step_of c r b mine up written (Place.Write j last offer) a ∷ mine) t.written j last offer))
listing_goes c r b mine up reach written t (Place.Enter p offer) a at possible = enter_goes c r p (Target.Place (end_of c r mine % c.ring)) a mine (Place.Put p offer) possible refl
listing_goes c r b mine up reach written t (Place.Put p offer) a at possible = (let now = event_by r (Verb.PutSlot p (end_of c r mine) b offer.value) a ∷ mine in
    slot_goes c r p (end_of c r mine) b offer.value a mine (or_else (member_from c r now (p + 1)) (λ q. Place.Enter q offer) (Place.Raise (first_member c r now))) possible (or_passes leads_at (member_from c r now (p + 1)) (λ q. Place.Enter q offer) (Place.Raise (first_member c r now)) (λ q. refl) refl))
listing_goes c r b mine up reach written t (Place.Raise p) a at possible = (let now = event_by r (Verb.RaiseFuo p (end_of c r mine)) a ∷ mine in inl (or_passes leads_at (member_from c r now (p + 1)) Place.Raise (late_from c r now t.heads 0) (λ q. refl) (onward_leads _ (late_onward c r now t.heads 0))))
listing_goes c r b mine up reach written t (Place.Evidence p) a at possible = refl
listing_goes c r b mine up reach written t Place.Outrun a at possible = inl refl
listing_goes c r b mine up reach written t Place.Rest a at possible = inl refl
