-- A replica that names itself asks each region in turn, and reads a minimum only after that.
use Rattle.std.proofs.Common.{◌≡◌, ◌∙◌, ◌≢◌, ℕ, suc, ◌+◌, ◌*◌, ◌<◌, ◌≤◌, ◌==◌, ◌&&◌, ◌||◌, ◌⊎◌, inl, inr, Bool, true, false, cond, None, Some, List, [], ◌∷◌, ◌++◌, ap, arith, length, refl, subst, sym}
use Rattle.std.specs.declared.option.Option.{Option}
use Rattle.std.specs.Prelude.{if◌then◌else◌, is_some, nat_lt, not}
use Rattle.std.proofs.Math.Nat.{mul-le-mul_right}
use Rattle.std.proofs.lemmas.Bool.{and_from, and_parts, cases_eq, cases_lt, eq-eqb, eqb-true, ltb-false, ltb-true, true≢false}
use Rattle.mu_agree.proofs.Landings.{has_more}
use Rattle.mu_model.specs.declared.config.Config.{Config}
use Rattle.mu_model.specs.declared.event.Event.{Event}
use Rattle.mu_model.specs.declared.event.Verb.{Verb}
use Rattle.mu_model.specs.Diligence.{is_confirmed}
use Rattle.mu_model.specs.Histories.{has, or_zero}
use Rattle.mu_model.specs.Knowledge.{known}
use Rattle.mu_model.specs.Leaderships.{begins_leadership, has_begun, is_first_ask, noted_grant, proposal_number}
use Rattle.mu_model.specs.Scores.{leader}
use Rattle.mu_model.specs.Steps.{has_min, is_asking, is_asking_verb, is_min, is_min_verb, is_named, named_throughout, replicates}
use Rattle.mu_model.specs.Stretches.{is_odd, replications}
use Rattle.mu_model.proofs.Basics.{same_some}
use Rattle.mu_grant.specs.Pace.{host_place}
use Rattle.mu_grant.specs.Stands.{is_of_place}
use Rattle.mu_knowledge.specs.Offers.{IsFirst}
use Rattle.mu_knowledge.proofs.Firsts.{first_in_is}
use Rattle.mu_lead.specs.declared.place.Place.{Place}
use Rattle.mu_lead.specs.Beside.{leads_at}
use Rattle.mu_lead.specs.Journal.{due_after, number_due, place_after, place_before, tables_at}
use Rattle.mu_lead.proofs.Folding.{before_due}
use Rattle.mu_lead.specs.Listing.{after_round, next_place, noted_from, or_else}
use Rattle.mu_lead.specs.Standing.{verb_at}
use Rattle.mu_agree.specs.Moments.{AtEachMoment, AtEachStep}
use Rattle.mu_follow.specs.CatchingUp.{or_else as or_else_due}
use Rattle.mu_node.proofs.CatchingUp.{catches_reading, made_led, reading_fails}
use Rattle.mu_node.proofs.Failing.{read_fails}
use Rattle.mu_node.specs.Cycle.{place_now}
use Rattle.mu_node.specs.Due.{or_ahead, verb_or_beat}
use Rattle.mu_node.specs.Journal.{IsListed, WasMade}
use Rattle.mu_node.specs.declared.zeal.Zeal.{Zeal}
use Rattle.mu_node.proofs.Cycled.{FailsBackground, background_fails}
use Rattle.mu_pace.proofs.Pasts.{min_now}

-- the place of the listing that the event was made from
abbrev pub place_of : Config → ℕ → List Event → Event → Place
place_of c r mine e = place_before r e (place_after c r mine)

-- the verb of a place
abbrev pub placed : Config → ℕ → List Event → Place → Option Verb
placed c r mine place = verb_at c (number_due r mine) (known c r mine) (tables_at c r mine).up (tables_at c r mine).written place

-- an event that begins a leadership is the first ask
pub begins_first : (r : ℕ) (e : Event) → begins_leadership r e ≡ true → e.verb ≡ Verb.Ask 0
begins_first r e begins = go e.by e.verb begins
  where
    go : (by : ℕ) (verb : Verb) → is_first_ask r by verb ≡ true → verb ≡ Verb.Ask 0
    go by (Verb.Ask p) is = ap Verb.Ask (eqb-true p 0 (and_parts (by == r) (p == 0) is).1)
    go by verb is = absurd (true≢false (sym is))

-- and a first ask of r begins one
pub first_begins : (r : ℕ) (e : Event) → e.by ≡ r → e.verb ≡ Verb.Ask 0 → begins_leadership r e ≡ true
first_begins r e own first = ap (is_first_ask r e.by) first ∙ ap (λ t. t && (0 == 0)) (eq-eqb e.by r own)

-- such a verb is one of the leader, in a turn of its own
pub record OfLead (c : Config) (r : ℕ) (mine : List Event) (e : Event) (held : WasMade c r mine e) : Type 0 where
  pub odd : is_odd (length mine) ≡ true
  pub named : is_named c r mine ≡ true
  pub verb : placed c r mine (place_of c r mine e) ≡ Some e.verb

pub of_lead : (test : Verb → Bool) (c : Config) (r : ℕ) (mine : List Event) (e : Event) (held : WasMade c r mine e) → FailsBackground test → ((j k x : ℕ) → test (Verb.WriteRow j k x) ≡ false) → test Verb.Beat ≡ false → ((q : ℕ) → test (Verb.ReadBeat q) ≡ false) → ((w : ℕ) → test (Verb.ReadAsk w) ≡ false) → test e.verb ≡ true → OfLead c r mine e held
of_lead test c r mine e held fails write beat beats asks is = go (is_odd (length mine)) refl
  where
    there : Option Verb
    there = placed c r mine (place_after c r mine)

    mine_due : (o : Option Verb) → e.verb ≡ verb_or_beat o → o ≡ Some e.verb
    mine_due None made = absurd (true≢false (sym is ∙ (ap test made ∙ beat)))
    mine_due (Some verb) made = ap Some (sym made)

    named : (t : Bool) → e.verb ≡ verb_or_beat (if t then there else None) → there ≡ Some e.verb
    named true made = mine_due there made
    named false made = absurd (true≢false (sym is ∙ (ap test made ∙ beat)))

    is_mine : (t : Bool) → e.verb ≡ verb_or_beat (if t then there else None) → t ≡ true
    is_mine true made = refl
    is_mine false made = absurd (true≢false (sym is ∙ (ap test made ∙ beat)))

    from : (t : Bool) → begins_leadership r e ≡ t → (t ≡ false → there ≡ Some e.verb) → placed c r mine (if t then Place.Ask 0 else place_after c r mine) ≡ Some e.verb
    from true begins other = ap Some (sym (begins_first r e begins))
    from false none other = other refl

    go : (t : Bool) → is_odd (length mine) ≡ t → OfLead c r mine e held
    go true odd = elim (made_led held.zeal c r mine e.verb (held.made.replication odd)) [
      | inl listed ↦ record { odd = odd; named = is_mine (leader c r mine == r) listed; verb = from (begins_leadership r e) refl (λ _. named (leader c r mine == r) listed) }
      | inr other ↦ elim other [
        | inl caught ↦ absurd (true≢false (sym is ∙ reading_fails test e.verb (catches_reading c r mine e.verb caught.due) fails.replays.look fails.replays.row))
        | inr out ↦ record { odd = odd; named = out.named; verb = from (begins_leadership r e) refl (λ none. absurd (true≢false (sym (first_begins r e held.own out.first) ∙ none))) }
      ]
    ]
    go false even =
        let made = held.made.background even in
        elim (cases_lt (place_now c mine) (host_place c 0)) [
          | inl low ↦ absurd (true≢false (sym is ∙ (ap test (made.2 ∙ ap (or_ahead held.zeal c r mine) (made.1.read low)) ∙ read_fails test beat beats asks c.replicas r (place_now c mine))))
          | inr high ↦ absurd (true≢false (sym is ∙ (ap test made.2 ∙ background_fails test fails write held.zeal c r mine (leads_at (place_after c r mine)) made.0 high made.1)))
        ]

-- an ask is none of the background
abbrev pub is_any_ask : Verb → Bool
is_any_ask (Verb.Ask p) = true
is_any_ask _ = false

pub any_asks_fail : FailsBackground is_any_ask
any_asks_fail = record { replays = record { beat = refl; fuo = λ q. refl; look = λ q i. refl; row = λ v k. refl; raise = λ q u. refl; raise_head = λ h. refl; head = λ q. refl }; host = host }
  where
    host : (d : ℕ) (verb : Verb) → is_of_place d verb ≡ true → is_any_ask verb ≡ false
    host d (Verb.Ask q) is = absurd (true≢false (sym is))
    host d verb is = refl

-- a minimum is read by the leader too
pub mins_fail : FailsBackground is_min_verb
mins_fail = record { replays = record { beat = refl; fuo = λ q. refl; look = λ q i. refl; row = λ v k. refl; raise = λ q u. refl; raise_head = λ h. refl; head = λ q. refl }; host = host }
  where
    host : (d : ℕ) (verb : Verb) → is_of_place d verb ≡ true → is_min_verb verb ≡ false
    host d (Verb.Min q) is = absurd (true≢false (sym is))
    host d verb is = refl

-- in a turn of its own a replica that names itself makes the verb of the place that it makes it from
pub made_verb : (c : Config) (r : ℕ) (mine : List Event) (e : Event) (verb : Verb) → WasMade c r mine e → is_odd (length mine) ≡ true → is_named c r mine ≡ true → placed c r mine (place_of c r mine e) ≡ Some verb → e.verb ≡ verb
made_verb c r mine e verb held odd named is = go (begins_leadership r e) refl is
  where
    go : (t : Bool) → begins_leadership r e ≡ t → placed c r mine (if t then Place.Ask 0 else place_after c r mine) ≡ Some verb → e.verb ≡ verb
    go true begins is = begins_first r e begins ∙ same_some (Verb.Ask 0) verb is
    go false none is = elim (made_led held.zeal c r mine e.verb (held.made.replication odd)) [
      | inl listed ↦ listed ∙ ap verb_or_beat (ap (λ t. if t then placed c r mine (place_after c r mine) else None) named ∙ is)
      | inr other ↦ elim other [
        | inl caught ↦ absurd (true≢false (sym named ∙ caught.unnamed))
        | inr out ↦ absurd (true≢false (sym (first_begins r e held.own out.first) ∙ none))
      ]
    ]

-- what holds at the place after the events, and at a first ask, holds at the place it makes it from
pub at_place : (P : Place → Type 0) (c : Config) (r : ℕ) (mine : List Event) (e : Event) → P (Place.Ask 0) → P (place_after c r mine) → P (place_of c r mine e)
at_place P c r mine e first there = go (begins_leadership r e)
  where
    go : (t : Bool) → P (if t then Place.Ask 0 else place_after c r mine)
    go true = first
    go false = there

-- and the next place follows; another turn leaves the place, or begins again
abbrev pub follows : Config → ℕ → List Event → Event → Place → Place
follows c r mine e place = next_place c r (or_zero (proposal_number r mine)) (e ∷ mine) (tables_at c r (e ∷ mine)) e.answer place

pub place_on : (c : Config) (r : ℕ) (mine : List Event) (e : Event) → is_odd (length mine) ≡ true → is_named c r mine ≡ true → place_after c r (e ∷ mine) ≡ follows c r mine e (place_of c r mine e)
place_on c r mine e odd named = ap (λ t. if t then (if is_named c r mine then follows c r mine e (place_of c r mine e) else Place.Ask 0) else place_after c r mine) odd ∙ ap (λ t. if t then follows c r mine e (place_of c r mine e) else Place.Ask 0) named

pub place_anew : (c : Config) (r : ℕ) (mine : List Event) (e : Event) → is_odd (length mine) ≡ true → is_named c r mine ≡ false → place_after c r (e ∷ mine) ≡ Place.Ask 0
place_anew c r mine e odd named = ap (λ t. if t then (if is_named c r mine then follows c r mine e (place_of c r mine e) else Place.Ask 0) else place_after c r mine) odd ∙ ap (λ t. if t then follows c r mine e (place_of c r mine e) else Place.Ask 0) named

pub place_still : (c : Config) (r : ℕ) (mine : List Event) (e : Event) → is_odd (length mine) ≡ false → place_after c r (e ∷ mine) ≡ place_after c r mine
place_still c r mine e even = ap (λ t. if t then (if is_named c r mine then follows c r mine e (place_of c r mine e) else Place.Ask 0) else place_after c r mine) even

-- each event was made, by a plain node
abbrev pub MadePlain : Config → ℕ → List Event → Event → Type 0
MadePlain c r mine e = WasMade c r mine e × IsListed Zeal.Plain c r mine e

-- which makes in a turn of its leader what the listing has due, so from the place after its events
pub placed_before : (c : Config) (r : ℕ) (mine : List Event) (e : Event) → MadePlain c r mine e → is_odd (length mine) ≡ true → is_named c r mine ≡ true → place_of c r mine e ≡ place_after c r mine
placed_before c r mine e held odd named = go (placed c r mine place) refl
  where
    place : Place
    place = place_after c r mine

    alone : (o : Option Verb) → or_else_due o None ≡ o
    alone None = refl
    alone (Some verb) = refl

    due : e.verb ≡ verb_or_beat (placed c r mine place)
    due = held.1 odd ∙ ap verb_or_beat (alone (due_after c r mine)) ∙ ap (λ t. verb_or_beat (if t then placed c r mine place else None)) named

    is : (verb : Verb) → e.verb ≡ verb → place_before r (record { by = r; verb = verb; answer = e.answer }) place ≡ place → place_before r e place ≡ place
    is verb same before = subst (λ b. place_before r (record { by = b; verb = e.verb; answer = e.answer }) place ≡ place) (sym held.0.own) (subst (λ v. place_before r (record { by = r; verb = v; answer = e.answer }) place ≡ place) (sym same) before)

    go : (o : Option Verb) → placed c r mine place ≡ o → place_before r e place ≡ place
    go (Some verb) some = is verb (due ∙ ap verb_or_beat some) (before_due c r (number_due r mine) (known c r mine) (tables_at c r mine).up (tables_at c r mine).written place verb e.answer some)
    go None none = is Verb.Beat (due ∙ ap verb_or_beat none) refl

pub each_made : (c : Config) (r : ℕ) (mine : List Event) → AtEachStep (MadePlain c r) mine → AtEachStep (WasMade c r) mine
each_made c r [] made = tt
each_made c r (e ∷ mine) made = (each_made c r mine made.0, made.1.0)

-- of the noted grants from a region on there is a first one, if one is there
pub first_noted : (c : Config) (r from p : ℕ) (now : List Event) (P : Place → Type 0) (there : ℕ → Place) (other : Place) → from ≤ p → p < c.replicas → is_some (noted_grant r p now) ≡ true → ((q : ℕ) → from ≤ q → q < c.replicas → P (there q)) → P (or_else (noted_from c r now from) there other)
first_noted c r from p now P there other low inside some all = go (noted_from c r now from) (first_in_is (λ q. is_some (noted_grant r q now)) from c.replicas)
  where
    go : (o : Option ℕ) → IsFirst (λ q. is_some (noted_grant r q now)) from c.replicas o → P (or_else o there other)
    go None none = absurd (true≢false (sym some ∙ none p low inside))
    go (Some q) first = all q first.0 first.1

-- the events of r: who asked region 0 has begun, and a minimum is the first of the leadership then
pub begun_asked : (c : Config) (r : ℕ) (mine : List Event) → AtEachStep (WasMade c r) mine → has (is_asking 0) mine ≡ true → has_begun r mine ≡ true
begun_asked c r [] made some = absurd (true≢false (sym some))
begun_asked c r (e ∷ mine) made some = go (is_asking 0 e) refl some (begun_asked c r mine made.0)
  where
    begins : (by : ℕ) (verb : Verb) → by ≡ r → is_asking_verb 0 verb ≡ true → is_first_ask r by verb ≡ true
    begins by (Verb.Ask q) own is = and_from (by == r) (q == 0) (eq-eqb by r own) is
    begins by verb own is = absurd (true≢false (sym is))

    go : (t : Bool) → is_asking 0 e ≡ t → cond t true (has (is_asking 0) mine) ≡ true → (has (is_asking 0) mine ≡ true → has_begun r mine ≡ true) → has_begun r (e ∷ mine) ≡ true
    go true is some ih = ap (λ t. cond t true (has_begun r mine)) (begins e.by e.verb made.1.own is)
    go false is some ih = has_more (begins_leadership r) e mine (ih some)

-- the places before the first minimum: those below were asked, then all
abbrev pub Opens : Config → List Event → Place → Type 0
Opens c mine (Place.Ask p) = (p < c.replicas) × ((q : ℕ) → q < p → has (is_asking q) mine ≡ true)
Opens c mine (Place.Confirm k p) = (k < 16) × (p < c.replicas) × ((q : ℕ) → q < c.replicas → has (is_asking q) mine ≡ true)
Opens c mine (Place.ReadMin p) = (q : ℕ) → q < c.replicas → has (is_asking q) mine ≡ true
Opens c mine place = ⊥

opens_first : (c : Config) (r : ℕ) (mine : List Event) → r < c.replicas → Opens c mine (Place.Ask 0)
opens_first c r mine inside = (omega (arith, inside), λ q low. absurd (omega (arith, low)))

opens_more : (c : Config) (e : Event) (mine : List Event) (place : Place) → Opens c mine place → Opens c (e ∷ mine) place
opens_more c e mine (Place.Ask p) o = (o.0, λ q low. has_more (is_asking q) e mine (o.1 q low))
opens_more c e mine (Place.Confirm k p) o = (o.0, o.1, λ q low. has_more (is_asking q) e mine (o.2 q low))
opens_more c e mine (Place.ReadMin p) o = λ q low. has_more (is_asking q) e mine (o q low)
opens_more c e mine place o = absurd o

verb_asks : (q p : ℕ) (e : Event) → e.verb ≡ Verb.Ask p → q ≡ p → is_asking q e ≡ true
verb_asks q p e is same = ap (is_asking_verb q) is ∙ eq-eqb p q (sym same)

-- in a turn of its own
opens_on : (c : Config) (r : ℕ) (mine : List Event) (e : Event) (place : Place) → r < c.replicas → ((verb : Verb) → placed c r mine place ≡ Some verb → e.verb ≡ verb) → AtEachStep (WasMade c r) mine → has_min r (e ∷ mine) ≡ false → Opens c mine place → Opens c (e ∷ mine) (follows c r mine e place)
opens_on c r mine e (Place.Ask p) inside verb made none o = go (nat_lt (p + 1) c.replicas) refl
  where
    asked : (q : ℕ) → q < p + 1 → has (is_asking q) (e ∷ mine) ≡ true
    asked q low = elim (cases_eq q p) [
      | inl same ↦ ap (λ t. cond t true (has (is_asking q) mine)) (verb_asks q p e (verb (Verb.Ask p) refl) same)
      | inr other ↦ has_more (is_asking q) e mine (o.1 q (omega (arith, low, other)))
    ]

    go : (t : Bool) → nat_lt (p + 1) c.replicas ≡ t → Opens c (e ∷ mine) (if t then Place.Ask (p + 1) else Place.Confirm 0 0)
    go true low = (ltb-true (p + 1) c.replicas low, asked)
    go false high = let most = ltb-false (p + 1) c.replicas high in let l = o.0 in (omega arith, omega (arith, l), λ q low. asked q (omega (arith, most, low)))
opens_on c r mine e (Place.Confirm k p) inside verb made none o = go (nat_lt (p + 1) c.replicas) refl
  where
    asked : (q : ℕ) → q < c.replicas → has (is_asking q) (e ∷ mine) ≡ true
    asked q low = has_more (is_asking q) e mine (o.2 q low)

    again : (t : Bool) → nat_lt k 15 ≡ t → Opens c (e ∷ mine) (if t then Place.Confirm (k + 1) 0 else Place.Ask 0)
    again true low = let few = ltb-true k 15 low in (omega (arith, few), omega (arith, inside), asked)
    again false high = opens_first c r (e ∷ mine) inside

    confirmed : (t : Bool) → is_confirmed c r (e ∷ mine) ≡ t → Opens c (e ∷ mine) (if t then or_else (noted_from c r (e ∷ mine) 0) Place.ReadMin Place.Rest else (if nat_lt k 15 then Place.Confirm (k + 1) 0 else Place.Ask 0))
    confirmed true is = first_noted c r 0 r (e ∷ mine) (Opens c (e ∷ mine)) Place.ReadMin Place.Rest (omega arith) inside (and_parts (is_some (noted_grant r r (e ∷ mine))) _ is).0 (λ q low few. asked)
    confirmed false is = again (nat_lt k 15) refl

    go : (t : Bool) → nat_lt (p + 1) c.replicas ≡ t → Opens c (e ∷ mine) (if t then Place.Confirm k (p + 1) else after_round c r (e ∷ mine) k)
    go true low = (o.0, ltb-true (p + 1) c.replicas low, asked)
    go false high = confirmed (is_confirmed c r (e ∷ mine)) refl
opens_on c r mine e (Place.ReadMin p) inside verb made none o = absurd (true≢false (sym (min_now r e mine (ap is_min_verb (verb (Verb.Min p) refl)) (begun_asked c r mine made (o 0 (omega (arith, inside))))) ∙ none))
opens_on c r mine e place inside verb made none o = absurd o

-- so before it reads a minimum it is at one of them
opens : (c : Config) (r : ℕ) (mine : List Event) → r < c.replicas → AtEachStep (WasMade c r) mine → AtEachMoment (λ now. has_min r now ≡ false) mine → Opens c mine (place_after c r mine)
opens c r [] inside made none = opens_first c r [] inside
opens c r (e ∷ mine) inside made none = go (is_odd (length mine)) refl (is_named c r mine) refl (opens c r mine inside made.0 none.0)
  where
    go : (t : Bool) → is_odd (length mine) ≡ t → (u : Bool) → is_named c r mine ≡ u → Opens c mine (place_after c r mine) → Opens c (e ∷ mine) (place_after c r (e ∷ mine))
    go true odd true named o = subst (Opens c (e ∷ mine)) (sym (place_on c r mine e odd named)) (opens_on c r mine e (place_of c r mine e) inside (λ verb is. made_verb c r mine e verb made.1 odd named is) made.0 none.1 (at_place (Opens c mine) c r mine e (opens_first c r mine inside) o))
    go true odd false named o = subst (Opens c (e ∷ mine)) (sym (place_anew c r mine e odd named)) (opens_first c r (e ∷ mine) inside)
    go false even u named o = subst (Opens c (e ∷ mine)) (sym (place_still c r mine e even)) (opens_more c e mine (place_after c r mine) o)

pub opened : (c : Config) (r : ℕ) (mine : List Event) (e : Event) → r < c.replicas → AtEachStep (WasMade c r) mine → AtEachMoment (λ now. has_min r now ≡ false) mine → Opens c mine (place_of c r mine e)
opened c r mine e inside made none = at_place (Opens c mine) c r mine e (opens_first c r mine inside) (opens c r mine inside made none)

-- before its first minimum it has asked each region
pub asks_all_first : (c : Config) (r : ℕ) (mine : List Event) (e : Event) → r < c.replicas → AtEachStep (WasMade c r) (e ∷ mine) → AtEachMoment (λ now. has_min r now ≡ false) mine → is_min e ≡ true → (p : ℕ) → p < c.replicas → has (is_asking p) mine ≡ true
asks_all_first c r mine e inside made none min p low = go (place_of c r mine e) (ap due_min turn.verb ∙ min) (opened c r mine e inside made.0 none)
  where
    turn : OfLead c r mine e made.1
    turn = of_lead is_min_verb c r mine e made.1 mins_fail (λ j k x. refl) refl (λ q. refl) (λ w. refl) min

    due_min : Option Verb → Bool
    due_min None = false
    due_min (Some verb) = is_min_verb verb

    go : (place : Place) → due_min (placed c r mine place) ≡ true → Opens c mine place → has (is_asking p) mine ≡ true
    go (Place.ReadMin q) is o = o p low
    go (Place.Ask q) is o = absurd (true≢false (sym is))
    go (Place.Confirm k q) is o = absurd (true≢false (sym is))
    go place is o = absurd o

-- within d steps p is asked, or a minimum is read
abbrev ToAsk : Config → ℕ → ℕ → Place → Type 0
ToAsk c p d (Place.Ask q) = ((q ≤ p) × (p < q + d)) ⊎ (17 * c.replicas + p < q + d)
ToAsk c p d (Place.Confirm k q) = 17 * c.replicas + p < c.replicas + k * c.replicas + q + d
ToAsk c p d (Place.ReadMin q) = 0 < d
ToAsk c p d place = ⊥

at_most : (c : Config) (p : ℕ) (mine : List Event) (place : Place) → p < c.replicas → Opens c mine place → ToAsk c p (17 * c.replicas + 1) place
at_most c p mine (Place.Ask q) low o = elim (cases_lt p q) [
  | inl below ↦ inr (omega (arith, below))
  | inr above ↦ inl (above, omega (arith, low))
]
at_most c p mine (Place.Confirm k q) low o = let l = low in few c.replicas (k * c.replicas) p q low
  where
    few : (n kn p q : ℕ) → p < n → 17 * n + p < n + kn + q + (17 * n + 1)
    few n kn p q low = omega (arith, low)
at_most c p mine (Place.ReadMin q) low o = omega arith
at_most c p mine place low o = absurd o

few_rounds : (k n : ℕ) → k < 16 → k * n ≤ 15 * n
few_rounds k n few = mul-le-mul_right n (let l : k ≤ 15 = omega (arith, few) in l)

-- each step of a replica that names itself takes one
nearer : (c : Config) (r p d : ℕ) (mine : List Event) (e : Event) (place : Place) → r < c.replicas → p < c.replicas → ((verb : Verb) → placed c r mine place ≡ Some verb → e.verb ≡ verb) → AtEachStep (WasMade c r) mine → has_min r (e ∷ mine) ≡ false → Opens c mine place → is_asking p e ≡ false → ToAsk c p (suc d) place → ToAsk c p d (follows c r mine e place)
nearer c r p d mine e (Place.Ask q) inside low verb made none o not_asked near = go (nat_lt (q + 1) c.replicas) refl
  where
    other : q ≢ p
    other same = true≢false (sym (verb_asks p q e (verb (Verb.Ask q) refl) (sym same)) ∙ not_asked)

    go : (t : Bool) → nat_lt (q + 1) c.replicas ≡ t → ToAsk c p d (if t then Place.Ask (q + 1) else Place.Confirm 0 0)
    go true more = elim near [
      | inl k ↦ let a = k.0 in let b = k.1 in inl (omega (arith, a, other), omega (arith, b))
      | inr k ↦ inr (omega (arith, k))
    ]
    go false high = let most = ltb-false (q + 1) c.replicas high in let few = o.0 in elim near [
      | inl k ↦ absurd (let a = k.0 in omega (arith, a, other, most, low))
      | inr k ↦ omega (arith, k, most, few)
    ]
nearer c r p d mine e (Place.Confirm k q) inside low verb made none o not_asked near = go (nat_lt (q + 1) c.replicas) refl
  where
    rounds : k * c.replicas ≤ 15 * c.replicas
    rounds = few_rounds k c.replicas o.0

    again : (t : Bool) → nat_lt k 15 ≡ t → ToAsk c p d (if t then Place.Confirm (k + 1) 0 else Place.Ask 0)
    again true few = let l = o.1 in let next : (k + 1) * c.replicas ≡ k * c.replicas + c.replicas = omega arith in omega (arith, near, next, l)
    again false many = let l = o.1 in let r = rounds in inl (omega arith, omega (arith, near, l, r))

    confirmed : (t : Bool) → is_confirmed c r (e ∷ mine) ≡ t → ToAsk c p d (if t then or_else (noted_from c r (e ∷ mine) 0) Place.ReadMin Place.Rest else (if nat_lt k 15 then Place.Confirm (k + 1) 0 else Place.Ask 0))
    confirmed true is =
        first_noted c r 0 r (e ∷ mine) (ToAsk c p d) Place.ReadMin Place.Rest (omega arith) inside (and_parts (is_some (noted_grant r r (e ∷ mine))) _ is).0
        (λ _ _ _. let l = o.1 in let r = rounds in omega (arith, near, l, r))
    confirmed false is = again (nat_lt k 15) refl

    go : (t : Bool) → nat_lt (q + 1) c.replicas ≡ t → ToAsk c p d (if t then Place.Confirm k (q + 1) else after_round c r (e ∷ mine) k)
    go true more = omega (arith, near)
    go false high = confirmed (is_confirmed c r (e ∷ mine)) refl
nearer c r p d mine e (Place.ReadMin q) inside low verb made none o not_asked near = absurd (true≢false (sym (min_now r e mine (ap is_min_verb (verb (Verb.Min q) refl)) (begun_asked c r mine made (o 0 (omega (arith, inside))))) ∙ none))
nearer c r p d mine e place inside low verb made none o not_asked near = absurd o

toward : (c : Config) (r p d : ℕ) (window older : List Event) → r < c.replicas → p < c.replicas → AtEachStep (MadePlain c r) (window ++ older) → AtEachMoment (λ now. has_min r now ≡ false) (window ++ older) → named_throughout c r window older ≡ true → d + replications window older ≡ 17 * c.replicas + 1
    → (replicates (λ before e. is_asking p e) window older ≡ true) ⊎ ToAsk c p d (place_after c r (window ++ older))
toward c r p d [] older inside low made none named all = inr (subst (λ n. ToAsk c p n (place_after c r older)) (let is : 17 * c.replicas + 1 ≡ d = omega (arith, all) in is) (at_most c p older (place_after c r older) low (opens c r older inside (each_made c r older made) none)))
toward c r p d (e ∷ window) older inside low made none named all = go (is_odd (length mine)) refl (is_named c r mine) refl (is_asking p e) refl named all (λ n. toward c r p n window older inside low made.0 none.0)
  where
    mine : List Event
    mine = window ++ older

    go : (t : Bool) → is_odd (length mine) ≡ t → (u : Bool) → is_named c r mine ≡ u → (w : Bool) → is_asking p e ≡ w → (if not t || u then named_throughout c r window older else false) ≡ true → d + (if t then replications window older + 1 else replications window older) ≡ 17 * c.replicas + 1
        → ((n : ℕ) → named_throughout c r window older ≡ true → n + replications window older ≡ 17 * c.replicas + 1 → (replicates (λ before e. is_asking p e) window older ≡ true) ⊎ ToAsk c p n (place_after c r mine))
        → ((if t && w then true else replicates (λ before e. is_asking p e) window older) ≡ true) ⊎ ToAsk c p d (place_after c r (e ∷ mine))
    go true odd true is true asked named all ih = inl refl
    go true odd true is false other named all ih = elim (ih (suc d) named (omega (arith, all))) [
      | inl some ↦ inl some
      | inr near ↦ inr (subst (ToAsk c p d) (sym (place_on c r mine e odd is)) (nearer c r p d mine e (place_of c r mine e) inside low (λ verb due. made_verb c r mine e verb made.1.0 odd is due) (each_made c r mine made.0) none.1 (opened c r mine e inside (each_made c r mine made.0) none.0) other (subst (ToAsk c p (suc d)) (sym (placed_before c r mine e made.1 odd is)) near)))
    ]
    go true odd false is w asked named all ih = absurd (true≢false (sym named))
    go false even u is w asked named all ih = elim (ih d (throughout u named) all) [
      | inl some ↦ inl some
      | inr near ↦ inr (subst (ToAsk c p d) (sym (place_still c r mine e even)) near)
    ]
      where
        throughout : (u : Bool) → (if true || u then named_throughout c r window older else false) ≡ true → named_throughout c r window older ≡ true
        throughout u named = named

-- in 17 n + 1 replication events it asks each region, if it names itself and reads no minimum
pub asks_until_min : (c : Config) (r p : ℕ) (window older : List Event) → r < c.replicas → p < c.replicas → AtEachStep (MadePlain c r) (window ++ older) → AtEachMoment (λ now. has_min r now ≡ false) (window ++ older) → replications window older ≡ 17 * c.replicas + 1 → named_throughout c r window older ≡ true
    → replicates (λ before e. is_asking p e) window older ≡ true
asks_until_min c r p window older inside low made none many named = elim (toward c r p 0 window older inside low made none named (omega (arith, many))) [
  | inl some ↦ some
  | inr near ↦ absurd (never (place_after c r (window ++ older)) (opens c r (window ++ older) inside (each_made c r (window ++ older) made) none) near)
]
  where
    never : (place : Place) → Opens c (window ++ older) place → ToAsk c p 0 place → ⊥
    never (Place.Ask q) o (inl k) = let a = k.0 in let b = k.1 in omega (arith, a, b)
    never (Place.Ask q) o (inr k) = let l = o.0 in omega (arith, k, l)
    never (Place.Confirm k q) o near = let l = o.1 in let r = few_rounds k c.replicas o.0 in omega (arith, near, l, r)
    never (Place.ReadMin q) o near = omega (arith, near)
    never place o near = o
