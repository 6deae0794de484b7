-- What the laws of agreement say of one list.
use Rattle.std.proofs.Common.{◌≡◌, ℕ, ◌≤◌, inl, inr, List, ◌++◌, sym, ◌∙◌, ap, arith, Some, subst}
use Rattle.std.specs.List.{slice_get}
use Rattle.std.specs.Prelude.{◌↔◌}
use Rattle.std.proofs.lemmas.List.{reverse-append}
use Rattle.mu_model.specs.declared.config.Config.{Config}
use Rattle.mu_model.specs.declared.event.Event.{Event}
use Rattle.mu_model.specs.Contents.{IsConfig, IsInSession, command_count, counted, session}
use Rattle.mu_model.specs.Histories.{history, part}
use Rattle.mu_model.specs.Knowledge.{known}
use Rattle.mu_model.specs.Legal.{IsLegal, IsLegalHistory}
use Rattle.mu_model.specs.Regions.{region_head, region_log}
use Rattle.mu_agree.proofs.Access.{only_owners_put_law}
use Rattle.mu_agree.proofs.Legal.{legal_older}
use Rattle.mu_agree.proofs.Minimum.{minimum_rises_law}
use Rattle.mu_agree.proofs.Numbers.{numbers_differ_law}
use Rattle.mu_agree.proofs.Phases.{at_most_one_chosen_law, known_is_chosen_law}
use Rattle.mu_agree.proofs.Prefixes.{fuo_is_kept_law, known_agree, known_agree_law}
use Rattle.mu_agree.proofs.Sessions.{known_in_session_law, known_marked_once_law, known_stands_law, rows_come_first_law, rows_read_right_law}
use Rattle.mu_agree.proofs.Room.{head_known, looks_are_kept_law, places_are_kept_law}
use Rattle.mu_agree.proofs.Slots.{slot_numbers_rise_law}
use Rattle.mu_law.specs.Laws.{AreChosen, AreMarkedOnce, BothKnow, ChosenOnce, FuosHold, FuosLast, KeepsPlaces, KeptPlaces, KnownListsAgree, MinimumsRise, NumbersAreOwn, OwnersPut, RowsAreFirst, RowsAreRight, SlotsRise, StandForEntries}

-- what a legal list begins with is legal
legal_front : (c : Config) (earlier later : List Event) → IsLegal c (earlier ++ later) → IsLegal c earlier
legal_front c earlier later h =
    legal_older c (history later) (history earlier) (subst (IsLegalHistory c) (reverse-append earlier later) h)

legal_between : (c : Config) (events earlier between later : List Event) → IsLegal c events → events ≡ earlier ++ between ++ later → IsLegal c (earlier ++ between)
legal_between c events earlier between later h e =
    legal_front c (earlier ++ between) later (subst (IsLegal c) e h)

pub chosen_once : (c : Config) (events : List Event) → IsLegal c events → ChosenOnce c events
chosen_once c events h i v w = at_most_one_chosen_law c events i v w h

pub fuos_hold : (c : Config) (events : List Event) → IsLegal c events → FuosHold c events
fuos_hold c events h earlier later p i e l =
    let k = fuo_is_kept_law c earlier later p i (subst (IsLegal c) e h) l in
    (k.0, (k.1.0, (ap (λ all. slice_get (region_log p (history all)) i) e ∙ k.1.1.0, k.1.1.1)))

pub owners_put : (c : Config) (events : List Event) → IsLegal c events → OwnersPut events
owners_put c events h earlier later e p is = only_owners_put_law c earlier later e p (subst (IsLegal c) is h)

pub minimums_rise : (c : Config) (events : List Event) → IsLegal c events → MinimumsRise events
minimums_rise c events h earlier between later p is = minimum_rises_law c earlier between p (legal_between c events earlier between later h is)

pub slots_rise : (c : Config) (events : List Event) → IsLegal c events → SlotsRise events
slots_rise c events h earlier between later p i x y is = slot_numbers_rise_law c earlier between p i x y (legal_between c events earlier between later h is)

pub numbers_are_own : (c : Config) (events : List Event) → IsLegal c events → NumbersAreOwn events
numbers_are_own c events h earlier between later r s b is = numbers_differ_law c earlier between r s b (legal_between c events earlier between later h is)

pub known_lists_agree : (c : Config) (events : List Event) → IsLegal c events → KnownListsAgree c events
known_lists_agree c events h r s = known_agree_law c events r s h

pub both_known : (c : Config) (events : List Event) (r s i v w : ℕ) (xs ys : List ℕ) → xs ≡ known c r (part r (history events)) → ys ≡ known c s (part s (history events))
    → ((slice_get xs i ≡ Some v) × (slice_get ys i ≡ Some w)) ↔ BothKnow c events r s i v w
both_known c events r s i v w xs ys e f = (
  (λ k. record { first = ap (λ l. slice_get l i) (sym e) ∙ k.0; second = ap (λ l. slice_get l i) (sym f) ∙ k.1 }),
  (λ k. (ap (λ l. slice_get l i) e ∙ k.first, ap (λ l. slice_get l i) f ∙ k.second)),
)

pub same_known : (c : Config) (events : List Event) (r s i v w : ℕ) → IsLegal c events → BothKnow c events r s i v w → v ≡ w
same_known c events r s i v w h b = known_agree c r s (history events) h i v w b.first b.second

pub list_chosen : (c : Config) (events : List Event) (r : ℕ) (values : List ℕ) → IsLegal c events → values ≡ known c r (part r (history events)) → AreChosen c events values
list_chosen c events r values h e i v k = known_is_chosen_law c events r i v h (ap (λ l. slice_get l i) (sym e) ∙ k)

pub list_stands : (c : Config) (events : List Event) (r : ℕ) (values : List ℕ) → IsLegal c events → values ≡ known c r (part r (history events)) → StandForEntries c values
list_stands c events r values h e i v k = known_stands_law c events r i v h (ap (λ l. slice_get l i) (sym e) ∙ k)

pub list_in_session : (c : Config) (events : List Event) (r : ℕ) (values : List ℕ) → IsLegal c events → values ≡ known c r (part r (history events)) → IsConfig c → IsInSession c values
list_in_session c events r values h e is = subst (IsInSession c) (sym e) (known_in_session_law c events r is h)

pub list_marked_once : (c : Config) (events : List Event) (r : ℕ) (values : List ℕ) → IsLegal c events → values ≡ known c r (part r (history events)) → IsConfig c → AreMarkedOnce c values
list_marked_once c events r values h e is q i j v w a b =
    known_marked_once_law c events r q i j v w is h (ap (λ l. slice_get l i) (sym e) ∙ a) (ap (λ l. slice_get l j) (sym e) ∙ b)

-- the numbers of a client's commands in order
pub numbers_counted : (c : Config) (events : List Event) (r client k : ℕ) → IsConfig c → IsLegal c events → k ≡ command_count c client (known c r (part r (history events)))
    → session c client (known c r (part r (history events))) ≡ counted k 1
numbers_counted c events r client k is h e = known_in_session_law c events r is h client ∙ ap (λ n. counted n 1) (sym e)

pub fuos_last : (c : Config) (events : List Event) → FuosLast c events
fuos_last c events more p i h l = fuo_is_kept_law c events more p i h l

pub rows_first : (c : Config) (events : List Event) → IsConfig c → IsLegal c events → RowsAreFirst c events
rows_first c events is h earlier later e p i b v at verb batch = rows_come_first_law c earlier later e p i b v is (subst (IsLegal c) at h) verb batch

pub rows_right : (c : Config) (events : List Event) → IsConfig c → IsLegal c events → RowsAreRight c events
rows_right c events is h earlier later e r i v t k at known_at batch few word verb =
    rows_read_right_law c earlier later e r i v t k is (subst (IsLegal c) at h) known_at batch few word verb

pub keeps_places : (c : Config) (events : List Event) → IsLegal c events → KeepsPlaces c events
keeps_places c events h r p i l need past =
    let low : region_head r (history events) ≤ i = elim need [ inl x ↦ x | inr x ↦ (let y = head_known c r (history events) h in omega arith) ] in
    places_are_kept_law c events r p i h l low past

pub kept_places : (c : Config) (events : List Event) → IsLegal c events → KeptPlaces c events
kept_places c events h earlier later e p i at verb past need = looks_are_kept_law c earlier later e p i (subst (IsLegal c) at h) verb past need
