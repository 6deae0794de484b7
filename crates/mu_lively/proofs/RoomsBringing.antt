-- The counts of a leader while members and late followers are brought up.
use Rattle.std.proofs.Common.{◌≡◌, ℕ, ◌<◌, inl, inr, true, List, ◌∷◌, refl, sym, arith, true≢false}
use Rattle.std.proofs.lemmas.Bool.{cases_lt, le-leb}
use Rattle.mu_model.specs.declared.config.Config.{Config}
use Rattle.mu_model.specs.declared.event.Answer.{Answer}
use Rattle.mu_model.specs.declared.event.Event.{Event}
use Rattle.mu_model.specs.declared.event.Target.{Target}
use Rattle.mu_model.specs.declared.event.Verb.{Verb}
use Rattle.mu_model.specs.Contents.{IsConfig}
use Rattle.mu_model.specs.Knowledge.{known}
use Rattle.mu_model.specs.Leaderships.{is_member}
use Rattle.mu_model.specs.Stretches.{is_replication}
use Rattle.mu_model.specs.Histories.{event_by}
use Rattle.mu_pace.specs.Asking.{AsksOn, far, near_entered, near_looked, near_past, near_widened}
use Rattle.mu_pace.specs.Members.{members_below}
use Rattle.mu_pace.specs.Placed.{IsPlacedAt}
use Rattle.mu_pace.specs.Weights.{Bringing, GoesOn, IsPlace, Lag, Sizes, Stage, at_behind, at_joined, at_position, entered, looked, looked_past, widened}
use Rattle.mu_pace.proofs.Members.{counts_of_members}
use Rattle.mu_lead.specs.declared.place.Place.{Place}
use Rattle.mu_lead.specs.declared.place.Then.{Then}
use Rattle.mu_lively.specs.Rooms.{IsLed, IsPlaced, lag_of, sizes_of}
use Rattle.mu_lively.proofs.RoomsQuiet.{IsSilent, known_look_silent, silent_verbs_are_silent, steps_on}

-- one step of bringing up after another, whoever is brought up
asks_bringing : (s : Sizes) (b next : Bringing) → ((l : Lag) → GoesOn s (Stage.Bring l b) (Stage.Bring l next)) → ((q k : ℕ) → q < k → AsksOn s k (Stage.Bring (Lag.Joined q) b) (Stage.Bring (Lag.Joined q) next))
    → (l : Lag) (k : ℕ) → AsksOn s k (Stage.Bring l b) (Stage.Bring l next)
asks_bringing s b next edge near Lag.Behind k = far (Stage.Bring Lag.Behind b) (Stage.Bring Lag.Behind next) (edge Lag.Behind) refl refl
asks_bringing s b next edge near (Lag.Position below) k = far (Stage.Bring (Lag.Position below) b) (Stage.Bring (Lag.Position below) next) (edge (Lag.Position below)) refl refl
asks_bringing s b next edge near (Lag.Joined q) k = elim (cases_lt q k) [
  | inl low ↦ near q k low
  | inr high ↦ far (Stage.Bring (Lag.Joined q) b) (Stage.Bring (Lag.Joined q) next) (edge (Lag.Joined q)) (le-leb k q high) (le-leb k q high)
]

brings_on : (c : Config) (r : ℕ) (b next : Bringing) (l : Lag) (mine : List Event) (e : Event) → IsConfig c → is_replication mine e ≡ true → IsSilent c r mine e
    → ((l : Lag) → GoesOn (sizes_of c r mine) (Stage.Bring l b) (Stage.Bring l next)) → ((q k : ℕ) → q < k → AsksOn (sizes_of c r mine) k (Stage.Bring (Lag.Joined q) b) (Stage.Bring (Lag.Joined q) next))
    → IsPlace (sizes_of c r mine) (Stage.Bring l next) → IsPlacedAt c r (sizes_of c r mine) (Stage.Bring l b) mine → IsPlacedAt c r (sizes_of c r mine) (Stage.Bring l next) (e ∷ mine)
brings_on c r b next l mine e is turn quiet edge near place at =
    steps_on c r (Stage.Bring l b) (Stage.Bring l next) mine e is turn quiet at (edge l) place (λ k low stranger. inl (asks_bringing (sizes_of c r mine) b next edge near l k)) (λ level. absurd (true≢false (sym level)))

-- a region that is brought up is at its place
pub bring_place : (c : Config) (r p : ℕ) (mine : List Event) (then_what : Then) (b : Bringing) → p < c.replicas → is_member r p mine ≡ true → IsPlace (sizes_of c r mine) (Stage.Bring (lag_of c r mine p then_what) b)
bring_place c r p mine Then.Late b region member = at_behind b
bring_place c r p mine Then.Position b region member =
    let all = counts_of_members.all c r p mine in
    let some = counts_of_members.some c r p mine region member in
    at_position (members_below c r p mine) b (omega arith)
bring_place c r p mine Then.Joined b region member = at_joined p b region

-- its FUO was raised, and its log is looked at
pub rooms_widened : (c : Config) (r p u : ℕ) (mine : List Event) (written : List ℕ) (on : Then) → IsConfig c → is_replication mine (event_by r (Verb.RaiseFuo p u) Answer.Done) ≡ true → p < c.replicas → is_member r p mine ≡ true → IsPlaced c r mine written (Place.WidenBehind p on)
    → IsPlaced c r (event_by r (Verb.RaiseFuo p u) Answer.Done ∷ mine) written (Place.LookBehind p on)
rooms_widened c r p u mine written on is turn region member at = go on (bring_place c r p mine on Bringing.Look region member) at
  where
    on_with : (l : Lag) → IsPlace (sizes_of c r mine) (Stage.Bring l Bringing.Look) → IsLed c r mine (Stage.Bring l Bringing.Widen) → IsLed c r (event_by r (Verb.RaiseFuo p u) Answer.Done ∷ mine) (Stage.Bring l Bringing.Look)
    on_with l place led = record { read = led.read; placed = brings_on c r Bringing.Widen Bringing.Look l mine (event_by r (Verb.RaiseFuo p u) Answer.Done) is turn (silent_verbs_are_silent c r mine r (Verb.RaiseFuo p u) Answer.Done refl) widened (λ q k low. near_widened q low) place led.placed }

    go : (t : Then) → IsPlace (sizes_of c r mine) (Stage.Bring (lag_of c r mine p t) Bringing.Look) → IsPlaced c r mine written (Place.WidenBehind p t) → IsPlaced c r (event_by r (Verb.RaiseFuo p u) Answer.Done ∷ mine) written (Place.LookBehind p t)
    go Then.Late place led = on_with Lag.Behind place led
    go Then.Position place led = on_with (Lag.Position (members_below c r p mine)) place led
    go Then.Joined place led = on_with (Lag.Joined p) place led

-- a look at what is known: it showed something, or it was past
pub rooms_looked : (c : Config) (r p i : ℕ) (a : Answer) (mine : List Event) (written : List ℕ) (on : Then) → IsConfig c → is_replication mine (event_by r (Verb.Look p i) a) ≡ true → known c r (event_by r (Verb.Look p i) a ∷ mine) ≡ known c r mine
    → p < c.replicas → is_member r p mine ≡ true → IsPlaced c r mine written (Place.LookBehind p on)
    → IsPlaced c r (event_by r (Verb.Look p i) a ∷ mine) written (Place.EnterBehind p on) × IsPlaced c r (event_by r (Verb.Look p i) a ∷ mine) written (Place.FenceBehind p on)
rooms_looked c r p i a mine written on is turn same region member at = go on (bring_place c r p mine on Bringing.Enter region member) (bring_place c r p mine on Bringing.Fence region member) at
  where
    enters : (l : Lag) → IsPlace (sizes_of c r mine) (Stage.Bring l Bringing.Enter) → IsLed c r mine (Stage.Bring l Bringing.Look) → IsLed c r (event_by r (Verb.Look p i) a ∷ mine) (Stage.Bring l Bringing.Enter)
    enters l place led = record { read = led.read; placed = brings_on c r Bringing.Look Bringing.Enter l mine (event_by r (Verb.Look p i) a) is turn (known_look_silent c r p i a mine same) looked (λ q k low. near_looked q low) place led.placed }

    fences : (l : Lag) → IsPlace (sizes_of c r mine) (Stage.Bring l Bringing.Fence) → IsLed c r mine (Stage.Bring l Bringing.Look) → IsLed c r (event_by r (Verb.Look p i) a ∷ mine) (Stage.Bring l Bringing.Fence)
    fences l place led = record { read = led.read; placed = brings_on c r Bringing.Look Bringing.Fence l mine (event_by r (Verb.Look p i) a) is turn (known_look_silent c r p i a mine same) looked_past (λ q k low. near_past q low) place led.placed }

    go : (t : Then) → IsPlace (sizes_of c r mine) (Stage.Bring (lag_of c r mine p t) Bringing.Enter) → IsPlace (sizes_of c r mine) (Stage.Bring (lag_of c r mine p t) Bringing.Fence) → IsPlaced c r mine written (Place.LookBehind p t)
        → IsPlaced c r (event_by r (Verb.Look p i) a ∷ mine) written (Place.EnterBehind p t) × IsPlaced c r (event_by r (Verb.Look p i) a ∷ mine) written (Place.FenceBehind p t)
    go Then.Late enter fence led = (enters Lag.Behind enter led, fences Lag.Behind fence led)
    go Then.Position enter fence led = (enters (Lag.Position (members_below c r p mine)) enter led, fences (Lag.Position (members_below c r p mine)) fence led)
    go Then.Joined enter fence led = (enters (Lag.Joined p) enter led, fences (Lag.Joined p) fence led)

-- it was entered
pub rooms_entered_behind : (c : Config) (r p : ℕ) (target : Target) (mine : List Event) (written : List ℕ) (on : Then) → IsConfig c → is_replication mine (event_by r (Verb.Enter p target) Answer.Entered) ≡ true → p < c.replicas → is_member r p mine ≡ true
    → IsPlaced c r mine written (Place.EnterBehind p on) → IsPlaced c r (event_by r (Verb.Enter p target) Answer.Entered ∷ mine) written (Place.PutBehind p on)
rooms_entered_behind c r p target mine written on is turn region member at = go on (bring_place c r p mine on Bringing.Put region member) at
  where
    on_with : (l : Lag) → IsPlace (sizes_of c r mine) (Stage.Bring l Bringing.Put) → IsLed c r mine (Stage.Bring l Bringing.Enter) → IsLed c r (event_by r (Verb.Enter p target) Answer.Entered ∷ mine) (Stage.Bring l Bringing.Put)
    on_with l place led = record { read = led.read; placed = brings_on c r Bringing.Enter Bringing.Put l mine (event_by r (Verb.Enter p target) Answer.Entered) is turn (silent_verbs_are_silent c r mine r (Verb.Enter p target) Answer.Entered refl) entered (λ q k low. near_entered q low) place led.placed }

    go : (t : Then) → IsPlace (sizes_of c r mine) (Stage.Bring (lag_of c r mine p t) Bringing.Put) → IsPlaced c r mine written (Place.EnterBehind p t) → IsPlaced c r (event_by r (Verb.Enter p target) Answer.Entered ∷ mine) written (Place.PutBehind p t)
    go Then.Late place led = on_with Lag.Behind place led
    go Then.Position place led = on_with (Lag.Position (members_below c r p mine)) place led
    go Then.Joined place led = on_with (Lag.Joined p) place led
