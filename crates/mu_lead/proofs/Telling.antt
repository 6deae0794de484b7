-- What the notes tell of the known list.
use Rattle.mu_knowledge.proofs.Firsts.{first_in_is}
use Rattle.mu_knowledge.specs.Offers.{IsFirst, first_in}
use Rattle.mu_lead.proofs.Bringing.{put_known}
use Rattle.mu_lead.proofs.Commits.{is_adopted, is_committed, none_committed}
use Rattle.mu_lead.proofs.NoteKinds.{round_quiet}
use Rattle.mu_lead.proofs.Puts.{known_more, known_same, took_all}
use Rattle.mu_lead.proofs.Quiet.{Spares, spared}
use Rattle.mu_lead.proofs.Replies.{puts_slot_or}
use Rattle.mu_model.specs.Diligence.{is_confirmed}
use Rattle.mu_lead.specs.Lasting.{step_of, verb_or}
use Rattle.mu_lead.specs.Leading.{end_of}
use Rattle.mu_lead.specs.Listing.{Tables}
use Rattle.mu_lead.specs.Notes.{note_of_commit, value_committed}
use Rattle.mu_lead.specs.Noting.{next_note, note_of_round}
use Rattle.mu_lead.specs.Offering.{AtPut}
use Rattle.mu_lead.specs.Sets.{bits}
use Rattle.mu_lead.specs.Standing.{At, known_told, verb_at}
use Rattle.mu_lead.specs.declared.note.Note.{Note}
use Rattle.mu_lead.specs.declared.place.Offer.{Offer}
use Rattle.mu_lead.specs.declared.place.Place.{Place}
use Rattle.mu_model.specs.Knowledge.{grown, known}
use Rattle.mu_model.specs.Leaderships.{is_member, noted_grant}
use Rattle.mu_model.specs.Parts.{IsPossible}
use Rattle.mu_model.specs.declared.config.Config.{Config}
use Rattle.mu_model.specs.declared.event.Answer.{Answer}
use Rattle.mu_model.specs.declared.event.Event.{Event}
use Rattle.mu_model.specs.declared.event.Verb.{Verb}
use Rattle.mu_model.specs.Histories.{event_by}
use Rattle.std.proofs.Common.{Bool, List, None, Some, [], ap, arith, false, get_or, inl, inr, is_some, length, length-append, refl, subst, sym, true, ℕ, ◌++◌, ◌+◌, ◌<◌, ◌∙◌, ◌∷◌, ◌≡◌}
use Rattle.std.proofs.lemmas.Bool.{le-ltb, lt-ltb}
use Rattle.std.specs.Prelude.{if◌then◌else◌, nat_lt, ◌⊎◌}
use Rattle.std.specs.declared.option.Option.{Option}

commit_tells : (i : ℕ) (offer : Offer) (t : Bool) → offer.adopted ≡ t → value_committed (note_of_commit i offer) ≡ Some offer.value
commit_tells i offer true is = rw is refl
commit_tells i offer false is = rw is refl

-- a put at a known position leaves what is known, however it is answered
pub put_any : (c : Config) (r p i b v : ℕ) (answer : Answer) (mine : List Event) → i < end_of c r mine → known c r (event_by r (Verb.PutSlot p i b v) answer ∷ mine) ≡ known c r mine
put_any c r p i b v Answer.Done mine low = put_known c r p i b v mine low
put_any c r p i b v answer mine low = refl

-- a put of the offer makes it known, or nothing
pub put_grows : (c : Config) (r b p : ℕ) (offer : Offer) (mine : List Event) (up : List ℕ) (reach : List (Option ℕ)) (a : Answer) → AtPut c r b offer.value mine up reach p → IsPossible c r (event_by r (Verb.PutSlot p (end_of c r mine) b offer.value) a ∷ mine)
    → (known c r (event_by r (Verb.PutSlot p (end_of c r mine) b offer.value) a ∷ mine) ≡ known c r mine) ⊎ (known c r (event_by r (Verb.PutSlot p (end_of c r mine) b offer.value) a ∷ mine) ≡ known c r mine ++ offer.value ∷ [])
put_grows c r b p offer mine up reach a at possible = elim (puts_slot_or c r p (end_of c r mine) b offer.value a mine possible) [
  | inl done ↦ subst Grows (sym done) (go (first_in (λ k. is_member r k mine) (p + 1) c.replicas) (first_in_is (λ k. is_member r k mine) (p + 1) c.replicas))
  | inr missed ↦ subst Grows (sym missed) (inl refl)
]
  where
    Grows : Answer → Type 0
    Grows y = (known c r (event_by r (Verb.PutSlot p (end_of c r mine) b offer.value) y ∷ mine) ≡ known c r mine) ⊎ (known c r (event_by r (Verb.PutSlot p (end_of c r mine) b offer.value) y ∷ mine) ≡ known c r mine ++ offer.value ∷ [])

    go : (o : Option ℕ) → IsFirst (λ k. is_member r k mine) (p + 1) c.replicas o → Grows Answer.Done
    go (Some q) first = (let low = first.0 in inl (known_same c r p q (end_of c r mine) b offer.value mine first.1 first.2 (λ is. (omega (arith, low, is))) (at.entering.offering.above q (omega (arith, low)))))
    go None none = inr (known_more c r b offer.value p mine up reach at.entering.offering (took_all c r b offer.value p (p + 1) mine up reach at refl none))

-- its note tells so
pub put_tells : (c : Config) (r : ℕ) (mine now : List Event) (offer : Offer) → (known c r now ≡ known c r mine) ⊎ (known c r now ≡ known c r mine ++ offer.value ∷ [])
    → known c r now ≡ grown (known c r mine) (value_committed (if nat_lt (end_of c r mine) (end_of c r now) then note_of_commit (end_of c r mine) offer else Note.Working))
put_tells c r mine now offer (inl same) =
    let long = ap length same in
    same ∙ sym (ap (λ x. grown (known c r mine) (value_committed (if x then note_of_commit (end_of c r mine) offer else Note.Working))) (le-ltb (end_of c r mine) (end_of c r now) (omega (arith, long))))
put_tells c r mine now offer (inr more) =
    let long = ap length more in
    let one = length-append (known c r mine) (offer.value ∷ []) in
    more ∙ ap (grown (known c r mine)) (sym (commit_tells (end_of c r mine) offer offer.adopted refl))
    ∙ sym (ap (λ x. grown (known c r mine) (value_committed (if x then note_of_commit (end_of c r mine) offer else Note.Working))) (lt-ltb (end_of c r mine) (end_of c r now) (omega (arith, long, one))))

pub spares_committed : Spares is_committed
spares_committed = record { working = refl; learnt = λ i v. refl; joined = λ p. refl; lost = λ p f. refl; higher = λ p m. refl; room = λ q h i. refl }

pub spares_adopted : Spares is_adopted
spares_adopted = record { working = refl; learnt = λ i v. refl; joined = λ p. refl; lost = λ p f. refl; higher = λ p m. refl; room = λ q h i. refl }

-- so does the note of each place
pub tells_say : (c : Config) (r b : ℕ) (mine : List Event) (old : Tables) (a : Answer) (place : Place) → At c r b mine old.up old.reach old.written place → IsPossible c r (step_of c r b mine old.up old.written place a ∷ mine)
    → known c r (step_of c r b mine old.up old.written place a ∷ mine) ≡ grown (known_told c r mine r (verb_or (verb_at c b (known c r mine) old.up old.written place)) a) (value_committed (next_note c r b mine (step_of c r b mine old.up old.written place a ∷ mine) old a place))
tells_say c r b mine old a (Place.Confirm round p) at possible =
    let now = event_by r (Verb.Fence p) a ∷ mine in
    let note = if nat_lt (p + 1) c.replicas then Note.Working else note_of_round c r now in
    let named = bits (λ q. is_some (noted_grant r q now)) in
    sym (ap (grown (known c r now)) (none_committed note (round_quiet is_committed (nat_lt (p + 1) c.replicas) (is_confirmed c r now) named named refl (λ s. refl) (λ s. refl)) (round_quiet is_adopted (nat_lt (p + 1) c.replicas) (is_confirmed c r now) named named refl (λ s. refl) (λ s. refl))))
tells_say c r b mine old a (Place.PutBehind p on) at possible = put_any c r p (get_or old.up p 0) b (get_or (known c r mine) (get_or old.up p 0) 0) a mine at.near.lacks
tells_say c r b mine old a (Place.Put p offer) at possible = put_tells c r mine (event_by r (Verb.PutSlot p (end_of c r mine) b offer.value) a ∷ mine) offer (put_grows c r b p offer mine old.up old.reach a at.0 possible)
tells_say c r b mine old a place at possible =
    let now = step_of c r b mine old.up old.written place a ∷ mine in
    sym (ap (grown (known c r now)) (none_committed (next_note c r b mine now old a place) (spared is_committed c r b mine now old a place spares_committed refl) (spared is_adopted c r b mine now old a place spares_adopted refl)))
