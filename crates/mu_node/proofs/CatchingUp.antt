-- A replica that reads on in a turn of its leader: which verbs these are, and what they leave of the
-- counts of that leader.
use Rattle.std.proofs.Common.{◌≡◌, ◌∙◌, ℕ, ◌+◌, ◌%◌, ◌||◌, ◌⊎◌, inl, inr, Bool, true, false, None, Some, List, ◌∷◌, ap, length, refl, subst, sym}
use Rattle.std.specs.Prelude.{IfSome, if◌then◌else◌, nat_lt, not, ◌&&◌}
use Rattle.std.specs.declared.option.Option.{Option}
use Rattle.std.specs.List.{slice_get}
use Rattle.std.proofs.lemmas.Bool.{true≢false}
use Rattle.mu_model.specs.Again.{asks_again}
use Rattle.mu_model.specs.declared.config.Config.{Config}
use Rattle.mu_model.specs.declared.event.Answer.{Answer}
use Rattle.mu_model.specs.declared.event.Event.{Event}
use Rattle.mu_model.specs.declared.event.Verb.{Verb}
use Rattle.mu_model.specs.Contents.{is_batch, rest_of}
use Rattle.mu_model.specs.Knowledge.{applied, is_known_decided, known}
use Rattle.mu_model.specs.Steps.{is_named}
use Rattle.mu_model.specs.Histories.{event_by}
use Rattle.mu_follow.specs.CatchingUp.{catch_up_due, entry_due, lacked_word_due, lacked_word_of, or_else, words_had}
use Rattle.mu_follow.specs.Due.{first_word_of, next_due, row_under_way, rows_had}
use Rattle.mu_lead.specs.declared.lead.Lead.{Lead}
use Rattle.mu_lead.specs.Beside.{is_beside, leads_at, writes_row}
use Rattle.mu_lead.specs.Journal.{due_after, place_after, tables_at, tables_with}
use Rattle.mu_node.specs.declared.zeal.Zeal.{Zeal}
use Rattle.mu_node.specs.Due.{AsksOutOfTurn, CatchesUp, FitsLead, IsIdle, ReadsOn, idle_due, lead_due, turn_due, verb_or_beat}

-- the verb looks, or reads a word of a row
abbrev pub is_reading : Verb → Bool
is_reading (Verb.Look p i) = true
is_reading (Verb.ReadRow v k) = true
is_reading verb = false

-- such is what is due to catch up
abbrev AreReadings : Option Verb → Type 0
AreReadings due = (verb : Verb) → due ≡ Some verb → is_reading verb ≡ true

none_read : AreReadings None
none_read verb is = cc

one_reads : (verb : Verb) → is_reading verb ≡ true → AreReadings (Some verb)
one_reads verb reads other is = subst (λ v. is_reading v ≡ true) (let same : verb ≡ other = cc in same) reads

if_reads : (t : Bool) (a b : Option Verb) → AreReadings a → AreReadings b → AreReadings (if t then a else b)
if_reads true a b one other = one
if_reads false a b one other = other

else_reads : (a b : Option Verb) → AreReadings a → AreReadings b → AreReadings (or_else a b)
else_reads None b one other = other
else_reads (Some verb) b one other = one

pub catches_reading : (c : Config) (r : ℕ) (mine : List Event) (verb : Verb) → catch_up_due c r mine ≡ Some verb → is_reading verb ≡ true
catches_reading c r mine verb is =
    else_reads (lacked_word_due r mine) (entry_due c r mine) (lacked (row_under_way mine))
    (else_reads (first_word_of c r mine (slice_get (known c r mine) (length (applied c r mine)))) (next_due c r mine) (first (slice_get (known c r mine) (length (applied c r mine))))
    (if_reads (is_known_decided r mine r (length (known c r mine))) (Some (Verb.Look r (length (known c r mine)))) None (one_reads (Verb.Look r (length (known c r mine))) refl) none_read))
    verb is
  where
    lacked : (row : Option ℕ) → AreReadings (lacked_word_of r mine row)
    lacked None = none_read
    lacked (Some v) = if_reads (nat_lt (words_had r mine v) 12) (Some (Verb.ReadRow v (words_had r mine v))) None (one_reads (Verb.ReadRow v (words_had r mine v)) refl) none_read

    first : (entry : Option ℕ) → AreReadings (first_word_of c r mine entry)
    first None = none_read
    first (Some v) =
        if_reads (is_batch c v) (if nat_lt (rows_had c r mine v) (rest_of c (v % 4096) + 1) then Some (Verb.ReadRow (v + rows_had c r mine v) 0) else None) None
        (if_reads (nat_lt (rows_had c r mine v) (rest_of c (v % 4096) + 1)) (Some (Verb.ReadRow (v + rows_had c r mine v) 0)) None (one_reads (Verb.ReadRow (v + rows_had c r mine v) 0) refl) none_read) none_read

-- a test that no look and no read of a row passes, no such verb passes
pub reading_fails : (test : Verb → Bool) (verb : Verb) → is_reading verb ≡ true → ((p i : ℕ) → test (Verb.Look p i) ≡ false) → ((v k : ℕ) → test (Verb.ReadRow v k) ≡ false) → test verb ≡ false
reading_fails test (Verb.Look p i) reads looks rows = looks p i
reading_fails test (Verb.ReadRow v k) reads looks rows = rows v k
reading_fails test verb reads looks rows = absurd (true≢false (sym reads))

-- in a turn of the leader the verb is what its listing has due, or a beat, or r catches up
pub made_as : (zeal : Zeal) (c : Config) (r : ℕ) (mine : List Event) (verb : Verb) (listed : Option Verb) → verb ≡ verb_or_beat (or_else listed (idle_due zeal c r mine)) → (verb ≡ verb_or_beat listed) ⊎ CatchesUp c r mine verb
made_as zeal c r mine verb (Some due) is = inl is
made_as Zeal.Plain c r mine verb None is = inl is
made_as Zeal.Eager c r mine verb None is = go (leads_at (place_after c r mine)) refl (is_named c r mine) refl (catch_up_due c r mine) refl is
  where
    go : (s : Bool) → leads_at (place_after c r mine) ≡ s → (t : Bool) → is_named c r mine ≡ t → (due : Option Verb) → catch_up_due c r mine ≡ due → verb ≡ verb_or_beat (if (s || t) then None else due) → (verb ≡ Verb.Beat) ⊎ CatchesUp c r mine verb
    go true led t named due caught is = inl is
    go false led true named due caught is = inl is
    go false led false named None caught is = inl is
    go false led false named (Some it) caught is = inr (record { unled = led; unnamed = named; due = caught ∙ ap Some (sym is) })

pub made_led : (zeal : Zeal) (c : Config) (r : ℕ) (mine : List Event) (verb : Verb) → verb ≡ verb_or_beat (turn_due zeal c r mine) → (verb ≡ verb_or_beat (due_after c r mine)) ⊎ (CatchesUp c r mine verb ⊎ AsksOutOfTurn c r mine verb)
made_led zeal c r mine verb is = go zeal is
  where
    listed : (zeal : Zeal) → verb ≡ verb_or_beat (or_else (due_after c r mine) (idle_due zeal c r mine)) → (verb ≡ verb_or_beat (due_after c r mine)) ⊎ (CatchesUp c r mine verb ⊎ AsksOutOfTurn c r mine verb)
    listed zeal is = elim (made_as zeal c r mine verb (due_after c r mine) is) [
      | inl due ↦ inl due
      | inr caught ↦ inr (inl caught)
    ]

    asked : (s t : Bool) → is_named c r mine ≡ s → asks_again c r mine ≡ t → verb ≡ verb_or_beat (if s && t then Some (Verb.Ask 0) else or_else (due_after c r mine) (idle_due Zeal.Eager c r mine)) → (verb ≡ verb_or_beat (due_after c r mine)) ⊎ (CatchesUp c r mine verb ⊎ AsksOutOfTurn c r mine verb)
    asked true true named asks is = inr (inr (record { named = named; asks = asks; first = is }))
    asked true false named asks is = listed Zeal.Eager is
    asked false t named asks is = listed Zeal.Eager is

    go : (zeal : Zeal) → verb ≡ verb_or_beat (turn_due zeal c r mine) → (verb ≡ verb_or_beat (due_after c r mine)) ⊎ (CatchesUp c r mine verb ⊎ AsksOutOfTurn c r mine verb)
    go Zeal.Plain is = listed Zeal.Plain is
    go Zeal.Eager is = asked (is_named c r mine) (asks_again c r mine) refl refl is

-- while r doesn't lead such a verb is one of another machine
pub reading_beside : (leading : Bool) (verb : Verb) → leading ≡ false → is_reading verb ≡ true → is_beside leading verb ≡ true
reading_beside leading (Verb.Look p i) unled reads = ap not unled
reading_beside leading (Verb.ReadRow v k) unled reads = refl
reading_beside leading verb unled reads = absurd (true≢false (sym reads))

-- in an idle turn nothing is due, or what r reads on with, and so it is not of the leader
idle_is : (zeal : Zeal) (c : Config) (r : ℕ) (mine : List Event) (due : Option Verb) → due ≡ idle_due zeal c r mine → (due ≡ None) ⊎ ((verb : Verb) × ((due ≡ Some verb) × CatchesUp c r mine verb))
idle_is Zeal.Plain c r mine due is = inl is
idle_is Zeal.Eager c r mine due is = go (leads_at (place_after c r mine)) refl (is_named c r mine) refl (catch_up_due c r mine) refl is
  where
    go : (s : Bool) → leads_at (place_after c r mine) ≡ s → (t : Bool) → is_named c r mine ≡ t → (o : Option Verb) → catch_up_due c r mine ≡ o → due ≡ (if (s || t) then None else o) → (due ≡ None) ⊎ ((verb : Verb) × ((due ≡ Some verb) × CatchesUp c r mine verb))
    go true led t named o caught is = inl is
    go false led true named o caught is = inl is
    go false led false named None caught is = inl is
    go false led false named (Some it) caught is = inr (it, (is, record { unled = led; unnamed = named; due = caught }))

pub idle_is_idle : (zeal : Zeal) (c : Config) (r : ℕ) (mine : List Event) (lead : Lead) (due : Option Verb) → due ≡ idle_due zeal c r mine → lead_due c r mine lead ≡ None → IsIdle c r mine lead (verb_or_beat due)
idle_is_idle zeal c r mine lead due is none odd = elim (idle_is zeal c r mine due is) [
  | inl nothing ↦ (none, inl (ap verb_or_beat nothing))
  | inr some ↦ (none, inr (subst (λ d. CatchesUp c r mine (verb_or_beat d)) (sym some.1.0) some.1.1))
]

-- what r reads on with is not of the leader
pub idle_fits : (c : Config) (r : ℕ) (mine : List Event) (lead : Lead) (due : Option Verb) → IfSome due (λ verb. ReadsOn c r mine verb) → (leads_at lead.place ≡ true → is_named c r mine ≡ true) → FitsLead c r mine lead false due
idle_fits c r mine lead None reads named = (refl, λ writes. absurd (true≢false (sym writes)))
idle_fits c r mine lead (Some verb) reads named =
    let is = catches_reading c r mine verb reads.due in (
      reading_beside (leads_at lead.place) verb (unled (leads_at lead.place) named) is,
      λ writes. absurd (true≢false (sym writes ∙ reading_fails writes_row verb is (λ p i. refl) (λ v k. refl))),
    )
  where
    unled : (t : Bool) → (t ≡ true → is_named c r mine ≡ true) → t ≡ false
    unled true named = absurd (true≢false (sym (named refl) ∙ reads.unnamed))
    unled false named = refl

-- such a verb leaves the tables of the leader
pub reading_tables : (c : Config) (r : ℕ) (mine : List Event) (verb : Verb) (answer : Answer) → is_reading verb ≡ true → tables_with c r mine (event_by r verb answer ∷ mine) (tables_at c r mine) verb answer ≡ tables_at c r mine
reading_tables c r mine (Verb.Look p i) answer reads = refl
reading_tables c r mine (Verb.ReadRow v k) answer reads = refl
reading_tables c r mine verb answer reads = absurd (true≢false (sym reads))
