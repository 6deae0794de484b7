-- A node reads only rows of known batches, up to the first that it hasn't applied.
use Rattle.std.proofs.Common.{◌≡◌, ◌∙◌, ℕ, ◌+◌, ◌-◌, ◌*◌, ◌/◌, ◌%◌, ◌<◌, ◌≤◌, ◌==◌, Bool, true, false, None, Some, List, [], ◌∷◌, ap, arith, inl, inr, length, refl, subst, suc, sym, take, true≢false, zero}
use Rattle.std.specs.Prelude.{IfSome, if◌then◌else◌, min, nat_lt}
use Rattle.std.specs.declared.option.Option.{Option}
use Rattle.std.specs.List.{slice_get}
use Rattle.std.proofs.lemmas.Bool.{cases_lt, ltb-true}
use Rattle.mu_model.specs.declared.config.Config.{Config}
use Rattle.mu_model.specs.declared.event.Answer.{Answer}
use Rattle.mu_model.specs.declared.event.Event.{Event}
use Rattle.mu_model.specs.declared.event.Verb.{Verb}
use Rattle.mu_model.specs.Contents.{is_batch, rest_of, row_count}
use Rattle.mu_model.specs.Diligence.{is_row_of}
use Rattle.mu_model.specs.Knowledge.{applied, grown, is_known_decided, known, learnt_by}
use Rattle.mu_model.specs.Regions.{region_head}
use Rattle.mu_model.specs.Room.{reserve}
use Rattle.mu_model.specs.Scores.{leader}
use Rattle.mu_model.specs.Stretches.{is_odd}
use Rattle.mu_model.proofs.Lists.{get_front}
use Rattle.mu_grant.specs.Pace.{host_place}
use Rattle.mu_grant.specs.Stands.{Gives, is_of_place}
use Rattle.mu_knowledge.specs.RowWords.{IsReadKnown, ReadsKnown}
use Rattle.mu_knowledge.proofs.Fetched.{applied_grows}
use Rattle.mu_follow.proofs.Waiting.{row_of_known}
use Rattle.mu_follow.specs.Due.{ahead_due, filled_known, fuo_due, head_due, next_due, other_head_due, other_of, own_fuo, first_word_of, look_due, next_word_of, raise_due, replay_due, row_read, row_under_way, rows_had, word_due}
use Rattle.mu_lead.specs.declared.place.Place.{Place}
use Rattle.mu_lead.specs.Beside.{leads_at}
use Rattle.mu_lead.specs.Standing.{verb_at, verb_of}
use Rattle.mu_agree.specs.Moments.{AtEachStep}
use Rattle.mu_node.specs.declared.zeal.Zeal.{Zeal}
use Rattle.mu_lead.specs.declared.lead.Lead.{Lead}
use Rattle.mu_node.specs.Due.{ReadsOn, held_write_due, lead_due, write_due, or_ahead, verb_or_beat, listed_due}
use Rattle.mu_node.proofs.Failing.{ahead_fails, led_ahead_fails, read_fails}
use Rattle.mu_node.proofs.CatchingUp.{made_led}
use Rattle.mu_follow.specs.CatchingUp.{catch_up_due, entry_due, lacked_word_due, lacked_word_of, or_else, words_had}
use Rattle.mu_node.specs.Cycle.{IsBackgroundDue, handed, handed_before, hands_on, place_now, read_at}
use Rattle.mu_node.specs.Journal.{WasMade}
use Rattle.mu_node.specs.Reads.{IsNext, IsReadNext, ReadsNext}
use Rattle.mu_lead.specs.Journal.{due_after, number_due, place_after, tables_at}

-- a row of a known batch stays one
grown_begins : (values : List ℕ) (o : Option ℕ) (i v : ℕ) → slice_get values i ≡ Some v → slice_get (grown values o) i ≡ Some v
grown_begins values None i v at = at
grown_begins values (Some w) i v at = get_front values (w ∷ []) i v at

-- and up to the first that isn't applied
next_stays : (c : Config) (r : ℕ) (e : Event) (mine : List Event) (w : ℕ) → IsNext c r mine w → IsNext c r (e ∷ mine) w
next_stays c r e mine w is = record {
  of = record {
    position = is.of.position;
    value = is.of.value;
    row = is.of.row;
    known = grown_begins (known c r mine) (learnt_by c r mine (length (known c r mine)) e.by e.verb e.answer (e ∷ mine)) is.of.position is.of.value is.of.known;
    batch = is.of.batch;
    within = is.of.within;
    is = is.of.is;
  };
  low = (let low = is.low in let more = applied_grows c r mine e in omega (arith, low, more));
}

-- no more was handed on than is applied
handed_before_low : (c : Config) (r : ℕ) (mine : List Event) → handed_before c r mine ≤ length (applied c r mine)
handed_before_low c r [] = omega arith
handed_before_low c r (e ∷ mine) = go (hands_on c mine) (handed_before_low c r mine) (applied_grows c r mine e)
  where
    go : (t : Bool) → handed_before c r mine ≤ length (applied c r mine) → length (applied c r mine) ≤ length (applied c r (e ∷ mine)) → (if t then length (applied c r mine) else handed_before c r mine) ≤ length (applied c r (e ∷ mine))
    go true low more = more
    go false low more = omega (arith, low, more)

handed_low : (c : Config) (r : ℕ) (mine : List Event) → handed c r mine ≤ length (applied c r mine)
handed_low c r mine = go (hands_on c mine) (handed_before_low c r mine)
  where
    go : (t : Bool) → handed_before c r mine ≤ length (applied c r mine) → (if t then length (applied c r mine) else handed_before c r mine) ≤ length (applied c r mine)
    go true low = omega arith
    go false low = low

-- the row whose words are being read is one
under_way_after : (c : Config) (r by : ℕ) (verb : Verb) (answer : Answer) (mine : List Event) (w : ℕ) → IsReadNext c r mine verb → ((u : ℕ) → row_under_way mine ≡ Some u → IsNext c r mine u) → row_read verb (row_under_way mine) ≡ Some w → IsNext c r mine w
under_way_after c r by (Verb.ReadRow v k) answer mine w here before is = go (nat_lt k 11) is
  where
    go : (t : Bool) → (if t then Some v else None) ≡ Some w → IsNext c r mine w
    go true same = subst (IsNext c r mine) (same_number v w same) here
      where
        same_number : (m n : ℕ) → Some m ≡ Some n → m ≡ n
        same_number m n e = cc
    go false none = cc
under_way_after c r by verb answer mine w here before is = before w is

under_way_known : (c : Config) (r : ℕ) (mine : List Event) (w : ℕ) → ReadsNext c r mine → row_under_way mine ≡ Some w → IsNext c r mine w
under_way_known c r [] w reads is = cc
under_way_known c r (e ∷ mine) w reads is = next_stays c r e mine w (under_way_after c r e.by e.verb e.answer mine w reads.1 (λ u under. under_way_known c r mine u reads.0 under) is)

-- what is due, or else a beat, reads only such rows
abbrev pub Reads : Config → ℕ → List Event → Option Verb → Type 0
Reads c r mine due = IsReadNext c r mine (verb_or_beat due)

either : (c : Config) (r : ℕ) (mine : List Event) (t : Bool) (a b : Option Verb) → (t ≡ true → Reads c r mine a) → Reads c r mine b → Reads c r mine (if t then a else b)
either c r mine true a b left right = left refl
either c r mine false a b left right = right

-- the replayer
first_reads : (c : Config) (r count : ℕ) (mine : List Event) (o : Option ℕ) → count ≤ length (applied c r mine) → slice_get (known c r mine) count ≡ o → Reads c r mine (first_word_of c r mine o)
first_reads c r count mine None low at = tt
first_reads c r count mine (Some v) count_low at =
    either c r mine (is_batch c v) (if nat_lt (rows_had c r mine v) (rest_of c (v % 4096) + 1) then Some (Verb.ReadRow (v + rows_had c r mine v) 0) else None) None
    (λ batch. either c r mine (nat_lt (rows_had c r mine v) (rest_of c (v % 4096) + 1)) (Some (Verb.ReadRow (v + rows_had c r mine v) 0)) None
    (λ low. record {
      of = record {
        position = count;
        value = v;
        row = rows_had c r mine v;
        known = at;
        batch = batch;
        within = (let few = ltb-true (rows_had c r mine v) (rest_of c (v % 4096) + 1) low in omega (arith, few));
        is = refl;
      };
      low = count_low;
    })
    tt)
    tt

next_reads : (c : Config) (r k : ℕ) (mine : List Event) (o : Option ℕ) → ((u : ℕ) → o ≡ Some u → IsNext c r mine u) → Reads c r mine (next_word_of k o)
next_reads c r k mine None are = tt
next_reads c r k mine (Some v) are = are v refl

-- no verb but a read of a row
abbrev is_row_read : Verb → Bool
is_row_read (Verb.ReadRow v k) = true
is_row_read _ = false

reads_other : (c : Config) (r : ℕ) (mine : List Event) (verb : Verb) → is_row_read verb ≡ false → IsReadNext c r mine verb
reads_other c r mine (Verb.ReadRow v k) other = absurd (true≢false other)
reads_other c r mine verb other = tt

choose : (t : Bool) (a b : Option Verb) → is_row_read (verb_or_beat a) ≡ false → is_row_read (verb_or_beat b) ≡ false → is_row_read (verb_or_beat (if t then a else b)) ≡ false
choose true a b left right = left
choose false a b left right = right

look_reads : (c : Config) (r f : ℕ) (mine : List Event) → is_row_read (verb_or_beat (look_due c r mine f)) ≡ false
look_reads c r f mine =
    choose (f == 0) (Some (Verb.Fuo r)) (if f == 1 then ahead_due c r mine else next_due c r mine) refl
    (choose (f == 1) (ahead_due c r mine) (next_due c r mine)
    (choose (nat_lt (length (known c r mine) + 1) (row_count c + reserve c)) (Some (Verb.Look r (length (known c r mine) + 1))) None refl refl)
    (choose (is_known_decided r mine r (length (known c r mine))) (Some (Verb.Look r (length (known c r mine)))) None refl refl))

raise_reads : (c : Config) (r count f : ℕ) (mine : List Event) → is_row_read (verb_or_beat (raise_due c r mine count f)) ≡ false
raise_reads c r count f mine =
    choose (f == 15) (fuo_due c r mine) (if f == 16 then head_due r mine count else if f == 17 then other_head_due c r mine else None)
    (choose (nat_lt (own_fuo r mine) (filled_known c r mine)) (Some (Verb.RaiseFuo r (filled_known c r mine))) None refl refl)
    (choose (f == 16) (head_due r mine count) (if f == 17 then other_head_due c r mine else None)
    (choose (nat_lt (region_head r mine) (min count (own_fuo r mine))) (Some (Verb.RaiseHead (min count (own_fuo r mine)))) None refl refl)
    (choose (f == 17) (other_head_due c r mine) None
    (choose (c.replicas == 1) None (Some (Verb.Head (other_of r (length mine / 2 / (2 * c.replicas + 22) % (c.replicas - 1))))) refl refl) refl))

replay_reads : (c : Config) (r count f : ℕ) (leading : Bool) (mine : List Event) → count ≤ length (applied c r mine) → ReadsNext c r mine → Reads c r mine (replay_due c r mine count f leading)
replay_reads c r count f leading mine few reads =
    either c r mine (nat_lt f 3) (if leading then None else look_due c r mine f) (if nat_lt f 15 then word_due c r mine count (f - 3) else raise_due c r mine count f)
    (λ low. either c r mine leading None (look_due c r mine f) (λ on. tt) (reads_other c r mine (verb_or_beat (look_due c r mine f)) (look_reads c r f mine)))
    (either c r mine (nat_lt f 15) (word_due c r mine count (f - 3)) (raise_due c r mine count f)
    (λ low. either c r mine (f - 3 == 0) (first_word_of c r mine (slice_get (known c r mine) count)) (next_word_of (f - 3) (row_under_way mine))
    (λ first. first_reads c r count mine (slice_get (known c r mine) count) few refl)
    (next_reads c r (f - 3) mine (row_under_way mine) (λ u under. under_way_known c r mine u reads under)))
    (reads_other c r mine (verb_or_beat (raise_due c r mine count f)) (raise_reads c r count f mine)))

-- what it reads on with
catch_reads : (c : Config) (r : ℕ) (mine : List Event) → ReadsNext c r mine → Reads c r mine (catch_up_due c r mine)
catch_reads c r mine reads =
    other (lacked_word_due r mine) (entry_due c r mine) (lacked (row_under_way mine) (λ u under. under_way_known c r mine u reads under))
    (other (first_word_of c r mine (slice_get (known c r mine) (length (applied c r mine)))) (next_due c r mine) (first_reads c r (length (applied c r mine)) mine (slice_get (known c r mine) (length (applied c r mine))) (omega arith) refl)
    (reads_other c r mine (verb_or_beat (next_due c r mine)) (choose (is_known_decided r mine r (length (known c r mine))) (Some (Verb.Look r (length (known c r mine)))) None refl refl)))
  where
    other : (a b : Option Verb) → Reads c r mine a → Reads c r mine b → Reads c r mine (or_else a b)
    other None b one it = it
    other (Some verb) b one it = one

    lacked : (o : Option ℕ) → ((u : ℕ) → o ≡ Some u → IsNext c r mine u) → Reads c r mine (lacked_word_of r mine o)
    lacked None are = tt
    lacked (Some v) are = either c r mine (nat_lt (words_had r mine v) 12) (Some (Verb.ReadRow v (words_had r mine v))) None (λ low. are v refl) tt

-- the leader
listed_reads : (c : Config) (b : ℕ) (values up written : List ℕ) (place : Place) → is_row_read (verb_or_beat (verb_at c b values up written place)) ≡ false
listed_reads c b values up written Place.Rest = refl
listed_reads c b values up written place = refl

led_reads : (c : Config) (r : ℕ) (mine : List Event) → is_row_read (verb_or_beat (due_after c r mine)) ≡ false
led_reads c r mine = choose (leader c r mine == r) (listed_due c r mine) None (listed_reads c (number_due r mine) (known c r mine) (tables_at c r mine).up (tables_at c r mine).written (place_after c r mine)) refl

pub lead_reads : (c : Config) (r : ℕ) (mine : List Event) (lead : Lead) → IsReadNext c r mine (verb_or_beat (lead_due c r mine lead))
lead_reads c r mine lead = reads_other c r mine (verb_or_beat (lead_due c r mine lead)) (choose (leader c r mine == r) (verb_of lead (known c r mine)) None (listed_reads lead.config lead.number (known c r mine) lead.up lead.written.items lead.place) refl)

-- what an idle node reads on with
pub idle_reads : (c : Config) (r : ℕ) (mine : List Event) (due : Option Verb) → ReadsNext c r mine → IfSome due (λ verb. ReadsOn c r mine verb) → IsReadNext c r mine (verb_or_beat due)
idle_reads c r mine None reads on = tt
idle_reads c r mine (Some verb) reads on = subst (Reads c r mine) on.due (catch_reads c r mine reads)

-- the host
host_reads : (d : ℕ) (verb : Verb) → is_of_place d verb ≡ true → is_row_read verb ≡ false
host_reads d (Verb.ReadRow v k) is = absurd (true≢false (sym is))
host_reads d verb is = refl

gives_reads : (c : Config) (r d : ℕ) (mine : List Event) (due : Option Verb) → Gives c r mine d due → is_row_read (verb_or_beat due) ≡ false
gives_reads c r d mine None gives = refl
gives_reads c r d mine (Some verb) gives = host_reads d verb (gives.given verb refl).0

-- the reads before
read_reads : (n r place : ℕ) → is_row_read (read_at n r place) ≡ false
read_reads n r place = read_fails is_row_read refl (λ q. refl) (λ w. refl) n r place

pub background_reads : (c : Config) (r : ℕ) (mine : List Event) (leading : Bool) (due : Option Verb) → ReadsNext c r mine → IsBackgroundDue c r mine leading due → Reads c r mine due
background_reads c r mine leading due reads is = elim (cases_lt place (host_place c 0)) [
  | inl low ↦ reads_other c r mine (verb_or_beat due) (ap (λ d. is_row_read (verb_or_beat d)) (is.read low) ∙ read_reads c.replicas r place)
  | inr high ↦ elim (cases_lt place (host_place c 4)) [
    | inl near ↦ (let at : place ≡ host_place c (place - host_place c 0) = omega (arith, high) in
        reads_other c r mine (verb_or_beat due) (gives_reads c r (place - host_place c 0) mine due (is.host (place - host_place c 0) (omega (arith, near, high)) at)))
    | inr far ↦ (let at = is.replay (place - host_place c 4) (omega (arith, far)) in
        subst (Reads c r mine) (sym at) (replay_reads c r (handed c r mine) (place - host_place c 4) leading mine (handed_low c r mine) reads))
  ]
]
  where
    place : ℕ
    place = place_now c mine

pub led_ahead_reads : (c : Config) (r : ℕ) (mine : List Event) (zeal : Zeal) (lead : Lead) (due : Option Verb) → Reads c r mine due → Reads c r mine (or_else due (held_write_due zeal c r mine lead))
led_ahead_reads c r mine zeal lead (Some verb) is = is
led_ahead_reads c r mine zeal lead None is = reads_other c r mine (verb_or_beat (held_write_due zeal c r mine lead)) (led_ahead_fails is_row_read refl (λ j k x. refl) zeal c r mine lead)

ahead_reads : (c : Config) (r : ℕ) (mine : List Event) (zeal : Zeal) (due : Option Verb) → Reads c r mine due → IsReadNext c r mine (or_ahead zeal c r mine due)
ahead_reads c r mine zeal (Some verb) is = is
ahead_reads c r mine zeal None is = reads_other c r mine (verb_or_beat (write_due zeal c r mine)) (ahead_fails is_row_read refl (λ j k x. refl) zeal c r mine)

made_reads : (c : Config) (r : ℕ) (mine : List Event) (e : Event) → ReadsNext c r mine → WasMade c r mine e → IsReadNext c r mine e.verb
made_reads c r mine e reads was = go (is_odd (length mine)) refl
  where
    go : (t : Bool) → is_odd (length mine) ≡ t → IsReadNext c r mine e.verb
    go true odd = elim (made_led was.zeal c r mine e.verb (was.made.replication odd)) [
      | inl listed ↦ subst (IsReadNext c r mine) (sym listed) (reads_other c r mine (verb_or_beat (due_after c r mine)) (led_reads c r mine))
      | inr third ↦ elim third [
        | inl caught ↦ subst (Reads c r mine) caught.due (catch_reads c r mine reads)
        | inr out ↦ subst (IsReadNext c r mine) (sym out.first) (reads_other c r mine (Verb.Ask 0) refl)
      ]
    ]
    go false even = let made = was.made.background even in subst (IsReadNext c r mine) (sym made.2) (ahead_reads c r mine was.zeal made.0 (background_reads c r mine (leads_at (place_after c r mine)) made.0 reads made.1))

reads_next : (c : Config) (r : ℕ) (mine : List Event) → AtEachStep (WasMade c r) mine → ReadsNext c r mine
reads_next c r [] made = tt
reads_next c r (e ∷ mine) made = let before = reads_next c r mine made.0 in (before, made_reads c r mine e before made.1)

-- a node reads only rows of known batches
known_of : (c : Config) (r : ℕ) (mine : List Event) (verb : Verb) → IsReadNext c r mine verb → IsReadKnown c r mine verb
known_of c r mine (Verb.ReadRow w k) is = is.of
known_of c r mine verb is = tt

pub all_known : (c : Config) (r : ℕ) (mine : List Event) → ReadsNext c r mine → ReadsKnown c r mine
all_known c r [] reads = tt
all_known c r (e ∷ mine) reads = (all_known c r mine reads.0, known_of c r mine e.verb reads.1)

-- and in order
get_taken : (n i v : ℕ) (xs : List ℕ) → i < n → slice_get xs i ≡ Some v → slice_get (take n xs) i ≡ Some v
get_taken zero i v xs low at = absurd (omega (arith, low))
get_taken (suc n) i v [] low at = cc
get_taken (suc n) zero v (x ∷ xs) low at = at
get_taken (suc n) (suc i) v (x ∷ xs) low at = get_taken n i v xs (omega (arith, low)) at

row_of_next : (c : Config) (r u : ℕ) (mine : List Event) → IsNext c r mine u → is_row_of c u (take (length (applied c r mine) + 1) (known c r mine)) ≡ true
row_of_next c r u mine is =
    let low = is.low in
    let within = is.of.within in
    let same = is.of.is in
    row_of_known c is.of.position is.of.value u (take (length (applied c r mine) + 1) (known c r mine)) (get_taken (length (applied c r mine) + 1) is.of.position is.of.value (known c r mine) (omega (arith, low)) is.of.known) is.of.batch (omega (arith, same)) (omega (arith, same, within))

pub reads_in_order : (c : Config) (r : ℕ) (mine : List Event) → AtEachStep (WasMade c r) mine → AtEachStep (λ past e. (u k : ℕ) → e.verb ≡ Verb.ReadRow u k → is_row_of c u (take (length (applied c r past) + 1) (known c r past)) ≡ true) mine
reads_in_order c r [] made = tt
reads_in_order c r (e ∷ mine) made = (reads_in_order c r mine made.0, λ u k is. row_of_next c r u mine (subst (IsReadNext c r mine) is (made_reads c r mine e (reads_next c r mine made.0) made.1)))
