-- listing, next place: the place of a leader that follows each place, by the answer to its verb;
-- and the tables that it looks at.
use Rattle.std.specs.Prelude.{Bool, List, None, Some, false, get_or, if◌then◌else◌, is_some, nat_lt, not, true, ℕ, ◌%◌, ◌&&◌, ◌*◌, ◌+◌, ◌==◌, ◌||◌}
use Rattle.std.specs.declared.option.Option.{Option}
use Rattle.mu_model.specs.declared.config.Config.{Config}
use Rattle.mu_model.specs.declared.event.Answer.{Answer}
use Rattle.mu_model.specs.declared.event.Event.{Event}
use Rattle.mu_model.specs.Contents.{holds_all, marked, rest_of, row_count}
use Rattle.mu_model.specs.Diligence.{is_confirmed}
use Rattle.mu_model.specs.Knowledge.{known}
use Rattle.mu_model.specs.Leaderships.{is_member, is_over, noted_grant}
use Rattle.mu_model.specs.Picks.{is_past}
use Rattle.mu_model.specs.Placing.{is_within_ring}
use Rattle.mu_model.specs.Room.{reserve}
use Rattle.mu_model.specs.Scores.{is_failed}
use Rattle.mu_knowledge.specs.Offers.{batch_of, clients_below, first_in}
use Rattle.mu_lead.specs.declared.place.Offer.{Offer}
use Rattle.mu_lead.specs.declared.place.Place.{Place}
use Rattle.mu_lead.specs.declared.place.Sight.{Sight}
use Rattle.mu_lead.specs.declared.place.Then.{Then}
use Rattle.mu_lead.specs.Leading.{end_of}

-- up to which position each region has what is known, the greatest FUO of each that was read or
-- raised, the heads read last, and how many words of each row of its own are written
pub record Tables : Type 0 where
  pub up : List ℕ
  pub reach : List (Option ℕ)
  pub heads : List ℕ
  pub written : List ℕ

-- the place of the region, if there is one, else another place
abbrev pub or_else : Option ℕ → (ℕ → Place) → Place → Place
or_else None there other = other
or_else (Some q) there other = there q

-- the first member, which there is while members are asked after
abbrev pub or_own : ℕ → Option ℕ → ℕ
or_own r None = r
or_own r (Some q) = q

-- regions from `from` on: the first whose grant is noted, the first member, the first that is none,
-- and the first member that is behind
abbrev pub noted_from : Config → ℕ → List Event → ℕ → Option ℕ
noted_from c r now from = first_in (λ p. is_some (noted_grant r p now)) from c.replicas

abbrev pub member_from : Config → ℕ → List Event → ℕ → Option ℕ
member_from c r now from = first_in (λ p. is_member r p now) from c.replicas

abbrev pub stranger_from : Config → ℕ → List Event → ℕ → Option ℕ
stranger_from c r now from = first_in (λ p. not (is_member r p now)) from c.replicas

abbrev pub behind_from : Config → ℕ → List Event → List ℕ → ℕ → Option ℕ
behind_from c r now up from =
    first_in (λ p. is_member r p now && nat_lt (get_or up p 0) (end_of c r now)) from c.replicas

abbrev pub first_member : Config → ℕ → List Event → ℕ
first_member c r now = or_own r (member_from c r now 0)

-- the first replica from `from` on without a known mark whose head, as it was read last, leaves too
-- little room
abbrev pub low_from : Config → ℕ → List Event → List ℕ → ℕ → Option ℕ
low_from c r now heads from =
    first_in
    (λ q. not
    (marked c q (known c r now)
    || nat_lt (end_of c r now + reserve c) (get_or heads q 0 + c.ring)))
    from c.replicas

-- after a round of fences: the minima if it confirms, else another round, after 16 the asks
abbrev pub after_round : Config → ℕ → List Event → ℕ → Place
after_round c r now round =
    if is_confirmed c r now then or_else (noted_from c r now 0) Place.ReadMin Place.Rest
    else (if nat_lt round 15 then Place.Confirm (round + 1) 0 else Place.Ask 0)

-- the heads that are too low are read, and then the position is looked at
abbrev pub heads_from : Config → ℕ → List Event → List ℕ → ℕ → Option ℕ → Place
heads_from c r now heads q candidate =
    or_else (low_from c r now heads q) (λ k. Place.ReadHead k candidate)
    (Place.Look (first_member c r now) (end_of c r now) candidate None)

-- the next position; if all commands are known, the first late follower, or nothing
abbrev pub next_position : Config → ℕ → List Event → List ℕ → Place
next_position c r now heads =
    if holds_all c (known c r now)
    then or_else (stranger_from c r now 0) Place.LateFence Place.Rest
    else (if nat_lt (end_of c r now) (row_count c + reserve c)
    then heads_from c r now heads 0 None
    else Place.Rest)

-- the next late follower, and after the last one the next position
abbrev pub late_from : Config → ℕ → List Event → List ℕ → ℕ → Place
late_from c r now heads p =
    or_else (stranger_from c r now p) Place.LateFence (next_position c r now heads)

-- a region is brought up: its FUO is raised first if the ring does not reach what it lacks
abbrev pub bring_up : Config → List ℕ → List (Option ℕ) → ℕ → Then → Place
bring_up c up reach p on =
    if c.version == 2 && not (is_within_ring (get_or up p 0) c.ring (get_or reach p None))
    then Place.WidenBehind p on else Place.LookBehind p on

-- what comes once the members were brought up
abbrev pub after_members : Config → ℕ → List Event → List ℕ → Then → Place
after_members c r now heads Then.Late = late_from c r now heads 0
after_members c r now heads on = next_position c r now heads

-- the next member that is behind
abbrev pub bring_up_from : Config → ℕ → List Event → Tables → ℕ → Then → Place
bring_up_from c r now t p on =
    or_else (behind_from c r now t.up p) (λ q. bring_up c t.up t.reach q on)
    (after_members c r now t.heads on)

-- after a region was brought up: the next late follower, or the next member
abbrev pub after_region : Config → ℕ → List Event → Tables → ℕ → Then → Place
after_region c r now t p Then.Joined = late_from c r now t.heads (p + 1)
after_region c r now t p on = bring_up_from c r now t (p + 1) on

-- after p was given one entry: the next one, and after the last one its FUO is raised
abbrev pub after_copy : Config → ℕ → List Event → List ℕ → List (Option ℕ) → ℕ → Then → Place
after_copy c r now up reach p on =
    if nat_lt (get_or up p 0) (end_of c r now) then bring_up c up reach p on
    else Place.RaiseBehind p on

-- what is known elsewhere is learnt from the region of the greatest FUO, then members are brought
-- up
abbrev pub learn_from : Config → ℕ → List Event → Tables → ℕ → Place
learn_from c r now t source =
    if nat_lt (end_of c r now) (get_or t.up source 0)
    then Place.Learn source else bring_up_from c r now t 0 Then.Late

-- of two regions the one of the greater FUO, the first at a tie
abbrev pub farther : List ℕ → Option ℕ → ℕ → ℕ
farther up None p = p
farther up (Some q) p = if nat_lt (get_or up q 0) (get_or up p 0) then p else q

-- the FUO of the next member is read
abbrev pub after_fuo : Config → ℕ → List Event → Tables → ℕ → ℕ → Place
after_fuo c r now t p source =
    or_else (member_from c r now (p + 1)) (λ q. Place.ReadFuo q (Some source))
    (learn_from c r now t source)

-- the least of the replicas that may be marked
abbrev pub least_candidate : Option ℕ → ℕ → Option ℕ
least_candidate None q = Some q
least_candidate (Some k) q = Some k

-- q, another replica, counts as failed, and its head h leaves room only for the next position
abbrev pub may_mark : Config → ℕ → List Event → ℕ → ℕ → Bool
may_mark c r now q h = not (q == r) && (is_failed r q now && nat_lt (end_of c r now) (h + c.ring))

-- after the head h of q
abbrev pub after_head : Config → ℕ → List Event → List ℕ → ℕ → Option ℕ → ℕ → Place
after_head c r now heads q candidate h =
    if nat_lt (end_of c r now + reserve c) (h + c.ring)
    then heads_from c r now heads (q + 1) candidate
    else (if may_mark c r now q h
    then heads_from c r now heads (q + 1) (least_candidate candidate q)
    else late_from c r now heads 0)

-- the same of the client, if one is named
abbrev pub batch_of_named : Config → List ℕ → Option ℕ → Option ℕ
batch_of_named c values None = None
batch_of_named c values (Some client) = batch_of c values client

-- the client, counted upwards and round from k, that has a next batch first
abbrev pub client_round : Config → List ℕ → ℕ → ℕ → Option ℕ
client_round c values k clients =
    if is_some (first_in (λ w. is_some (batch_of c values w)) k clients)
    then first_in (λ w. is_some (batch_of c values w)) k clients
    else first_in (λ w. is_some (batch_of c values w)) 0 k

-- the row of the batch that r offers at position i
abbrev pub own_offer : Config → ℕ → List ℕ → ℕ → Option ℕ
own_offer c r values i =
    batch_of_named c values
    (client_round c values ((r + i) % clients_below c (row_count c))
    (clients_below c (row_count c)))

-- the rows are written up to the last one, as far as they aren't; then the offer is put
abbrev pub write_from : Config → ℕ → List Event → List ℕ → ℕ → ℕ → Offer → Place
write_from c r now written first last offer =
    or_else (first_in (λ j. nat_lt (get_or written j 12) 12) first (last + 1))
    (λ j. Place.Write j last offer) (Place.Enter (first_member c r now) offer)

-- a batch of its own is offered
abbrev pub offer_row : Config → ℕ → List Event → List ℕ → ℕ → Place
offer_row c r now written j =
    write_from c r now written j (j + rest_of c j)
    (record { value = r * 4096 + j; adopted = false })

-- the value is picked: the entry of the largest number, else the mark of the least candidate, else
-- a batch of its own
abbrev pub pick : Config → ℕ → List Event → List ℕ → Option ℕ → Option Sight → Place
pick c r now written candidate (Some s) =
    Place.Enter (first_member c r now) (record { value = s.value; adopted = true })
pick c r now written (Some q) None =
    Place.Enter (first_member c r now)
    (record { value = r * 4096 + (4080 + q); adopted = false })
pick c r now written None None =
    or_else (own_offer c r (known c r now) (end_of c r now)) (offer_row c r now written) Place.Rest

-- the entry of the larger number, the first at a tie
abbrev pub larger_sight : Option Sight → Option Sight → Option Sight
larger_sight None other = other
larger_sight (Some s) None = Some s
larger_sight (Some s) (Some t) = if nat_lt s.number t.number then Some t else Some s

-- the entry that a look showed
abbrev pub sight_of : Answer → Option Sight
sight_of (Answer.Entry b v) = Some (record { number = b; value = v })
sight_of answer = None

-- after a look at position i of p that was not past: if it made i known, members are brought up;
-- else the next member is looked at, and after the last one the value is picked
abbrev pub after_look : Config → ℕ → List Event → Tables → ℕ → ℕ → Option ℕ → Option Sight → Place
after_look c r now t p i candidate best =
    if nat_lt i (end_of c r now) then bring_up_from c r now t 0 Then.Position
    else or_else (member_from c r now (p + 1)) (λ q. Place.Look q (end_of c r now) candidate best)
    (pick c r now t.written candidate best)

-- what a number tells, else 0
abbrev pub number_told : Answer → ℕ
number_told (Answer.Number x) = x
number_told answer = 0

-- an `Enter` was lost, and a put missed
abbrev pub is_lost : Answer → Bool
is_lost (Answer.Lost f) = true
is_lost answer = false

abbrev pub is_missed : Answer → Bool
is_missed Answer.Missed = true
is_missed answer = false

-- the regions are asked again after a lost `Enter`; the fence is read after a put that missed
abbrev pub unless_lost : Answer → Place → Place
unless_lost a on = if is_lost a then Place.Ask 0 else on

abbrev pub unless_missed : Answer → ℕ → Place → Place
unless_missed a p on = if is_missed a then Place.Evidence p else on

-- the place that follows, by the answer a: with these events of r, the answer's among them, under
-- the number b, and with the tables after the answer
abbrev pub next_place : Config → ℕ → ℕ → List Event → Tables → Answer → Place → Place
next_place c r b now t a (Place.Ask p) =
    if nat_lt (p + 1) c.replicas then Place.Ask (p + 1) else Place.Confirm 0 0
next_place c r b now t a (Place.Confirm round p) =
    if nat_lt (p + 1) c.replicas then Place.Confirm round (p + 1) else after_round c r now round
next_place c r b now t a (Place.ReadMin p) =
    or_else (noted_from c r now (p + 1)) Place.ReadMin
    (or_else (noted_from c r now 0) Place.EnterMin Place.Rest)
next_place c r b now t a (Place.EnterMin p) = unless_lost a (Place.PutMin p)
next_place c r b now t a (Place.PutMin p) =
    unless_missed a p
    (or_else (noted_from c r now (p + 1)) Place.EnterMin
    (Place.ReadFuo (first_member c r now) None))
next_place c r b now t a (Place.ReadFuo p source) =
    after_fuo c r now t p (farther t.up source p)
next_place c r b now t a (Place.Learn source) =
    if is_past a then Place.Outrun else learn_from c r now t source
next_place c r b now t a (Place.WidenBehind p on) = Place.LookBehind p on
next_place c r b now t a (Place.LookBehind p on) =
    if is_past a then Place.FenceBehind p on else Place.EnterBehind p on
next_place c r b now t a (Place.EnterBehind p on) = unless_lost a (Place.PutBehind p on)
next_place c r b now t a (Place.PutBehind p on) =
    unless_missed a p (after_copy c r now t.up t.reach p on)
next_place c r b now t a (Place.RaiseBehind p on) = after_region c r now t p on
next_place c r b now t a (Place.FenceBehind p on) =
    if is_over r now then Place.Ask 0 else Place.LookBehind p on
next_place c r b now t a (Place.LateFence p) =
    if is_some (noted_grant r p now) then Place.LateMin p else late_from c r now t.heads (p + 1)
next_place c r b now t a (Place.LateMin p) =
    if nat_lt b (number_told a) then Place.Ask 0 else Place.LateFuo p
next_place c r b now t a (Place.LateFuo p) =
    if nat_lt (end_of c r now) (number_told a) then late_from c r now t.heads (p + 1)
    else Place.LateEnter p
next_place c r b now t a (Place.LateEnter p) = unless_lost a (Place.LatePut p)
next_place c r b now t a (Place.LatePut p) =
    unless_missed a p
    (if nat_lt (get_or t.up p 0) (end_of c r now) then bring_up c t.up t.reach p Then.Joined
    else late_from c r now t.heads (p + 1))
next_place c r b now t a (Place.ReadHead q candidate) =
    after_head c r now t.heads q candidate (number_told a)
next_place c r b now t a (Place.Look p i candidate best) =
    if is_past a then Place.Outrun
    else after_look c r now t p i candidate (larger_sight best (sight_of a))
next_place c r b now t a (Place.Write j last offer) = write_from c r now t.written j last offer
next_place c r b now t a (Place.Enter p offer) = unless_lost a (Place.Put p offer)
next_place c r b now t a (Place.Put p offer) =
    unless_missed a p
    (or_else (member_from c r now (p + 1)) (λ q. Place.Enter q offer)
    (Place.Raise (first_member c r now)))
next_place c r b now t a (Place.Raise p) =
    or_else (member_from c r now (p + 1)) Place.Raise (late_from c r now t.heads 0)
next_place c r b now t a (Place.Evidence p) = Place.Ask 0
next_place c r b now t a Place.Outrun = Place.Outrun
next_place c r b now t a Place.Rest = Place.Rest
