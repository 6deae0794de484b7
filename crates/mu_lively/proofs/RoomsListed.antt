-- The counts of a leader have room at the place that its listing goes on to.
use Rattle.std.proofs.Common.{Bool, List, None, Some, arith, false, get_or, refl, sym, true, true≢false, ℕ, ◌&&◌, ◌*◌, ◌+◌, ◌-◌, ◌<◌, ◌==◌, ◌||◌, ◌∙◌, ◌≡◌, ◌≤◌}
use Rattle.std.specs.Prelude.{if◌then◌else◌, nat_lt, not}
use Rattle.std.specs.declared.option.Option.{Option}
use Rattle.mu_model.specs.Bounds.{members}
use Rattle.mu_model.specs.Contents.{IsConfig, holds_all, marked, rest_of, row_count}
use Rattle.mu_model.specs.Knowledge.{known}
use Rattle.mu_model.specs.Leaderships.{is_member}
use Rattle.mu_model.specs.Parts.{IsPossible}
use Rattle.mu_model.specs.Placing.{is_within_ring}
use Rattle.mu_model.specs.Room.{reserve}
use Rattle.mu_model.specs.declared.config.Config.{Config}
use Rattle.mu_model.specs.declared.event.Event.{Event}
use Rattle.mu_knowledge.proofs.Firsts.{first_in_is}
use Rattle.mu_knowledge.specs.Offers.{IsFirst, first_in}
use Rattle.mu_lively.proofs.RoomsBrought.{level_brought}
use Rattle.mu_lively.proofs.RoomsPutting.{in_turn}
use Rattle.mu_lively.proofs.RoomsWriting.{some_words, words_few}
use Rattle.mu_lead.specs.Leading.{HoldsTables, Level, end_of}
use Rattle.mu_lead.specs.Listing.{Tables, after_members, behind_from, bring_up, bring_up_from, first_member, heads_from, late_from, low_from, next_position, offer_row, or_else, own_offer, pick, stranger_from}
use Rattle.mu_lively.specs.Onward.{IsNextBehind, IsNextStranger, MayBringUp, MayGoOn, passed_over}
use Rattle.mu_lively.specs.Rooms.{IsLed, RoomsAt, words_left}
use Rattle.mu_lead.specs.Standing.{At}
use Rattle.mu_lead.specs.declared.place.Offer.{Offer}
use Rattle.mu_lead.specs.declared.place.Place.{Place}
use Rattle.mu_lead.specs.declared.place.Sight.{Sight}
use Rattle.mu_lead.specs.declared.place.Then.{Then}
use Rattle.mu_pace.proofs.Members.{counts_of_members}
use Rattle.mu_pace.specs.Members.{members_from}
use Rattle.mu_pace.specs.Watches.{is_brought_up}
use Rattle.mu_pace.specs.Weights.{Bringing, Stage, heads as head_room, looks as look_room, rests as rest_room}

-- every member has what is known, with its FUO
abbrev pub AreBroughtUp : Config → ℕ → List Event → Type 0
AreBroughtUp c r now = (k : ℕ) → is_member r k now ≡ true → is_brought_up c r k now ≡ true

-- the next low head is read, or the next position is looked at
pub heads_rooms : (c : Config) (r : ℕ) (now : List Event) (highs written : List ℕ) (q : ℕ) (candidate : Option ℕ) → ((h : ℕ) → q ≤ h → h < c.replicas → IsLed c r now (Stage.ReadHead h)) → ((k : ℕ) → k ≤ members c r now → IsLed c r now (Stage.LookAt k))
    → RoomsAt c r now written (heads_from c r now highs q candidate)
heads_rooms c r now highs written q candidate reads looks = go (low_from c r now highs q) (first_in_is (λ k. not (marked c k (known c r now) || nat_lt (end_of c r now + reserve c) (get_or highs k 0 + c.ring))) q c.replicas)
  where
    go : (o : Option ℕ) → IsFirst (λ k. not (marked c k (known c r now) || nat_lt (end_of c r now + reserve c) (get_or highs k 0 + c.ring))) q c.replicas o → RoomsAt c r now written (or_else o (λ k. Place.ReadHead k candidate) (Place.Look (first_member c r now) (end_of c r now) candidate None))
    go (Some h) first = reads h first.0 first.1
    go None none = looks (members_from c r (first_member c r now) now) (in_turn c r (first_member c r now) now)

-- the next position begins
pub position_rooms : (c : Config) (r p : ℕ) (now : List Event) (highs written : List ℕ) → IsNextStranger c r now p None → MayGoOn c r now p → RoomsAt c r now written (next_position c r now highs)
position_rooms c r p now highs written none may = go (holds_all c (known c r now)) refl
  where
    late : holds_all c (known c r now) ≡ true → (o : Option ℕ) → IsNextStranger c r now 0 o → RoomsAt c r now written (or_else o Place.LateFence Place.Rest)
    late all (Some q) first = may.again q none first all
    late all None rest = may.beyond Stage.Rest none rest_room

    next : (y : Bool) → RoomsAt c r now written (if y then heads_from c r now highs 0 None else Place.Rest)
    next true = heads_rooms c r now highs written 0 None (λ h from low. may.beyond (Stage.ReadHead h) none (head_room h low)) (λ k few. may.beyond (Stage.LookAt k) none (look_room k few))
    next false = may.beyond Stage.Rest none rest_room

    go : (x : Bool) → holds_all c (known c r now) ≡ x → RoomsAt c r now written (if x then or_else (stranger_from c r now 0) Place.LateFence Place.Rest else (if nat_lt (end_of c r now) (row_count c + reserve c) then heads_from c r now highs 0 None else Place.Rest))
    go true all = late all (stranger_from c r now 0) (first_in_is (λ k. not (is_member r k now)) 0 c.replicas)
    go false lacks = next (nat_lt (end_of c r now) (row_count c + reserve c))

-- late followers are asked after
pub late_rooms : (c : Config) (r p : ℕ) (now : List Event) (highs written : List ℕ) → MayGoOn c r now p → RoomsAt c r now written (late_from c r now highs p)
late_rooms c r p now highs written may = go (stranger_from c r now p) (first_in_is (λ k. not (is_member r k now)) p c.replicas)
  where
    go : (o : Option ℕ) → IsNextStranger c r now p o → RoomsAt c r now written (or_else o Place.LateFence (next_position c r now highs))
    go (Some q) first = may.asks q first
    go None none = position_rooms c r p now highs written none may

-- a region is brought up
pub bring_rooms : (c : Config) (r : ℕ) (now : List Event) (up : List ℕ) (reach : List (Option ℕ)) (written : List ℕ) (p : ℕ) (on : Then) → MayBringUp c r now p on → RoomsAt c r now written (bring_up c up reach p on)
bring_rooms c r now up reach written p on may = go (c.version == 2 && not (is_within_ring (get_or up p 0) c.ring (get_or reach p None)))
  where
    go : (x : Bool) → RoomsAt c r now written (if x then Place.WidenBehind p on else Place.LookBehind p on)
    go true = may Bringing.Widen refl
    go false = may Bringing.Look refl

members_rooms : (c : Config) (r : ℕ) (now : List Event) (highs written : List ℕ) (on : Then) → MayGoOn c r now (passed_over c on) → RoomsAt c r now written (after_members c r now highs on)
members_rooms c r now highs written Then.Late may = late_rooms c r 0 now highs written may
members_rooms c r now highs written Then.Position may = position_rooms c r c.replicas now highs written (λ k from low. absurd (omega (arith, from, low))) may
members_rooms c r now highs written Then.Joined may = position_rooms c r c.replicas now highs written (λ k from low. absurd (omega (arith, from, low))) may

-- members are level when the next position begins, or late followers are asked after
position_level : (c : Config) (r b : ℕ) (now : List Event) (up : List ℕ) (reach : List (Option ℕ)) (highs written : List ℕ) → At c r b now up reach written (next_position c r now highs) → Level c r b now up reach
position_level c r b now up reach highs written at = go (holds_all c (known c r now)) (nat_lt (end_of c r now) (row_count c + reserve c)) at
  where
    late : (o : Option ℕ) → At c r b now up reach written (or_else o Place.LateFence Place.Rest) → Level c r b now up reach
    late (Some q) here = here.level
    late None here = here.1

    next : (o : Option ℕ) → At c r b now up reach written (or_else o (λ k. Place.ReadHead k None) (Place.Look (first_member c r now) (end_of c r now) None None)) → Level c r b now up reach
    next (Some q) here = here.level
    next None here = here.looking.level

    go : (x y : Bool) → At c r b now up reach written (if x then or_else (stranger_from c r now 0) Place.LateFence Place.Rest else (if y then heads_from c r now highs 0 None else Place.Rest)) → Level c r b now up reach
    go true y here = late (stranger_from c r now 0) here
    go false true here = next (low_from c r now highs 0) here
    go false false here = here.1

late_is_level : (c : Config) (r b p : ℕ) (now : List Event) (up : List ℕ) (reach : List (Option ℕ)) (highs written : List ℕ) → At c r b now up reach written (late_from c r now highs p) → Level c r b now up reach
late_is_level c r b p now up reach highs written at = go (stranger_from c r now p) at
  where
    go : (o : Option ℕ) → At c r b now up reach written (or_else o Place.LateFence (next_position c r now highs)) → Level c r b now up reach
    go (Some q) here = here.level
    go None here = position_level c r b now up reach highs written here

members_level : (c : Config) (r b : ℕ) (now : List Event) (up : List ℕ) (reach : List (Option ℕ)) (highs written : List ℕ) (on : Then) → At c r b now up reach written (after_members c r now highs on) → Level c r b now up reach
members_level c r b now up reach highs written Then.Late at = late_is_level c r b 0 now up reach highs written at
members_level c r b now up reach highs written Then.Position at = position_level c r b now up reach highs written at
members_level c r b now up reach highs written Then.Joined at = position_level c r b now up reach highs written at

pub late_brought : (c : Config) (r b p : ℕ) (now : List Event) (t : Tables) → IsPossible c r now → HoldsTables c r now t.up t.reach t.heads t.written → At c r b now t.up t.reach t.written (late_from c r now t.heads p) → AreBroughtUp c r now
late_brought c r b p now t possible held at = level_brought c r b now t.up t.reach t.heads t.written possible held (late_is_level c r b p now t.up t.reach t.heads t.written at)

-- the next member that is behind is brought up, or the listing goes on
pub brought_rooms : (c : Config) (r b : ℕ) (now : List Event) (t : Tables) (p : ℕ) (on : Then) → ((q : ℕ) → IsNextBehind c r now t.up p (Some q) → MayBringUp c r now q on) → (IsNextBehind c r now t.up p None → AreBroughtUp c r now → MayGoOn c r now (passed_over c on))
    → IsPossible c r now → HoldsTables c r now t.up t.reach t.heads t.written → At c r b now t.up t.reach t.written (bring_up_from c r now t p on) → RoomsAt c r now t.written (bring_up_from c r now t p on)
brought_rooms c r b now t p on ups alls possible held at = go (behind_from c r now t.up p) (first_in_is (λ k. is_member r k now && nat_lt (get_or t.up k 0) (end_of c r now)) p c.replicas) at
  where
    go : (o : Option ℕ) → IsNextBehind c r now t.up p o → At c r b now t.up t.reach t.written (or_else o (λ q. bring_up c t.up t.reach q on) (after_members c r now t.heads on)) → RoomsAt c r now t.written (or_else o (λ q. bring_up c t.up t.reach q on) (after_members c r now t.heads on))
    go (Some q) first here = bring_rooms c r now t.up t.reach t.written q on (ups q first)
    go None none here = members_rooms c r now t.heads t.written on (alls none (level_brought c r b now t.up t.reach t.heads t.written possible held (members_level c r b now t.up t.reach t.heads t.written on here)))

-- the offer is put
pub entering_rooms : (c : Config) (r b q : ℕ) (now : List Event) (up : List ℕ) (reach : List (Option ℕ)) (written : List ℕ) (offer : Offer) → ((k : ℕ) → 1 ≤ k → k ≤ members c r now → IsLed c r now (Stage.EnterAt k)) → At c r b now up reach written (Place.Enter q offer)
    → RoomsAt c r now written (Place.Enter q offer)
entering_rooms c r b q now up reach written offer enters at = enters (members_from c r q now) (counts_of_members.some c r q now at.0.region at.0.member) (in_turn c r q now)

-- rows are written
writing_rooms : (c : Config) (r b j last : ℕ) (now : List Event) (up : List ℕ) (reach : List (Option ℕ)) (written : List ℕ) (offer : Offer) → IsConfig c → ((words : ℕ) → 1 ≤ words → words ≤ 12 * c.width → IsLed c r now (Stage.Write words)) → At c r b now up reach written (Place.Write j last offer)
    → RoomsAt c r now written (Place.Write j last offer)
writing_rooms c r b j last now up reach written offer is writes at =
    let w = at.0.writing in
    let inside = at.0.inside in
    let last_is = w.last_row in
    let from = w.from in
    let rest = is.rests w.first w.batch.row in
    let few = words_few written j (last + 1 - j) in
    writes (words_left written j (last + 1 - j)) (some_words written j (last + 1 - j) (omega (arith, inside)) at.1) (omega (arith, few, last_is, from, rest))

-- a value is picked
pub pick_rooms : (c : Config) (r b : ℕ) (now : List Event) (up : List ℕ) (reach : List (Option ℕ)) (written : List ℕ) (candidate : Option ℕ) (best : Option Sight) → IsConfig c → holds_all c (known c r now) ≡ false → ((k : ℕ) → 1 ≤ k → k ≤ members c r now → IsLed c r now (Stage.EnterAt k))
    → ((words : ℕ) → 1 ≤ words → words ≤ 12 * c.width → IsLed c r now (Stage.Write words)) → At c r b now up reach written (pick c r now written candidate best) → RoomsAt c r now written (pick c r now written candidate best)
pick_rooms c r b now up reach written candidate (Some s) is lacks enters writes at = entering_rooms c r b (first_member c r now) now up reach written (record { value = s.value; adopted = true }) enters at
pick_rooms c r b now up reach written (Some q) None is lacks enters writes at = entering_rooms c r b (first_member c r now) now up reach written (record { value = r * 4096 + (4080 + q); adopted = false }) enters at
pick_rooms c r b now up reach written None None is lacks enters writes at = own (own_offer c r (known c r now) (end_of c r now)) at
  where
    rows : (last : ℕ) (offer : Offer) (o : Option ℕ) → At c r b now up reach written (or_else o (λ i. Place.Write i last offer) (Place.Enter (first_member c r now) offer)) → RoomsAt c r now written (or_else o (λ i. Place.Write i last offer) (Place.Enter (first_member c r now) offer))
    rows last offer (Some i) here = writing_rooms c r b i last now up reach written offer is writes here
    rows last offer None here = entering_rooms c r b (first_member c r now) now up reach written offer enters here

    own : (o : Option ℕ) → At c r b now up reach written (or_else o (offer_row c r now written) Place.Rest) → RoomsAt c r now written (or_else o (offer_row c r now written) Place.Rest)
    own (Some j) here = rows (j + rest_of c j) (record { value = r * 4096 + j; adopted = false }) (first_in (λ i. nat_lt (get_or written i 12) 12) j (j + rest_of c j + 1)) here
    own None here = absurd (true≢false (sym here.0.all ∙ lacks))
