-- What the leader goes by at each place, by the verb that was due there and its answer.
use Rattle.mu_knowledge.proofs.Firsts.{first_in_is}
use Rattle.mu_knowledge.specs.Offers.{IsFirst}
use Rattle.mu_lead.proofs.Bringing.{put_known}
use Rattle.mu_lead.proofs.Puts.{known_more, known_same, took_all}
use Rattle.mu_lead.proofs.Replies.{puts_slot_or, tells_min}
use Rattle.mu_lead.proofs.Rows.{min_small}
use Rattle.mu_lead.specs.Journal.{tables_with}
use Rattle.mu_lead.specs.Leading.{end_of}
use Rattle.mu_lead.specs.Listing.{Tables, member_from, number_told}
use Rattle.mu_lead.specs.Noting.{next_note}
use Rattle.mu_lead.specs.Offering.{AtPut}
use Rattle.mu_lead.specs.Sets.{is_bit}
use Rattle.mu_lead.specs.Standing.{At, known_told, verb_at}
use Rattle.mu_lead.specs.Stepping.{GoesBy, lands_last}
use Rattle.mu_lead.specs.declared.place.Offer.{Offer}
use Rattle.mu_lead.specs.declared.place.Place.{Place}
use Rattle.mu_model.proofs.Basics.{same_some}
use Rattle.mu_model.specs.Contents.{IsConfig}
use Rattle.mu_model.specs.Knowledge.{known}
use Rattle.mu_model.specs.Leaderships.{is_member}
use Rattle.mu_model.specs.Parts.{IsPossible}
use Rattle.mu_model.specs.Scores.{is_failed}
use Rattle.mu_model.specs.Steps.{is_slot_put_verb}
use Rattle.mu_model.specs.declared.config.Config.{Config}
use Rattle.mu_model.specs.declared.event.Answer.{Answer}
use Rattle.mu_model.specs.declared.event.Event.{Event}
use Rattle.mu_model.specs.declared.event.Verb.{Verb}
use Rattle.mu_model.specs.Histories.{event_by}
use Rattle.std.proofs.Common.{List, None, Some, [], ap, arith, false, get_or, inl, inr, is_some, length, length-append, refl, subst, sym, true≢false, ℕ, ◌+◌, ◌<◌, ◌∙◌, ◌∷◌, ◌≡◌}
use Rattle.std.proofs.lemmas.Bool.{le-ltb, lt-ltb, ltb-false}
use Rattle.std.specs.Prelude.{nat_lt, not}
use Rattle.std.specs.declared.option.Option.{Option}

-- a put of the offer makes it known if it lands and no member is left
put_grows : (c : Config) (r b p : ℕ) (offer : Offer) (mine : List Event) (up : List ℕ) (reach : List (Option ℕ)) (a : Answer) → AtPut c r b offer.value mine up reach p → IsPossible c r (event_by r (Verb.PutSlot p (end_of c r mine) b offer.value) a ∷ mine)
    → nat_lt (end_of c r mine) (end_of c r (event_by r (Verb.PutSlot p (end_of c r mine) b offer.value) a ∷ mine)) ≡ lands_last c r (event_by r (Verb.PutSlot p (end_of c r mine) b offer.value) a ∷ mine) a p
put_grows c r b p offer mine up reach a at possible = elim (puts_slot_or c r p (end_of c r mine) b offer.value a mine possible) [
  | inl done ↦ subst Grows (sym done) (landed (member_from c r mine (p + 1)) (first_in_is (λ k. is_member r k mine) (p + 1) c.replicas))
  | inr missed ↦ subst Grows (sym missed) (le-ltb (end_of c r mine) (end_of c r mine) (omega arith))
]
  where
    put : Answer → List Event
    put x = event_by r (Verb.PutSlot p (end_of c r mine) b offer.value) x ∷ mine

    Grows : Answer → Type 0
    Grows x = nat_lt (end_of c r mine) (end_of c r (put x)) ≡ lands_last c r (put x) x p

    landed : (o : Option ℕ) → IsFirst (λ k. is_member r k mine) (p + 1) c.replicas o → nat_lt (end_of c r mine) (end_of c r (put Answer.Done)) ≡ not (is_some o)
    landed (Some q) first =
        let low = first.0 in
        let same = ap length (known_same c r p q (end_of c r mine) b offer.value mine first.1 first.2 (λ is. (omega (arith, low, is))) (at.entering.offering.above q (omega (arith, low)))) in
        le-ltb (end_of c r mine) (end_of c r (put Answer.Done)) (omega (arith, same))
    landed None none =
        let more = ap length (known_more c r b offer.value p mine up reach at.entering.offering (took_all c r b offer.value p (p + 1) mine up reach at refl none)) in
        let one = length-append (known c r mine) (offer.value ∷ []) in
        lt-ltb (end_of c r mine) (end_of c r (put Answer.Done)) (omega (arith, more, one))

-- what is told is known, but after a put of an entry
told_known : (c : Config) (r : ℕ) (mine : List Event) (values : List ℕ) (verb : Verb) (a : Answer) → is_slot_put_verb verb ≡ false → values ≡ known_told c r mine r verb a → values ≡ known c r (event_by r verb a ∷ mine)
told_known c r mine values (Verb.PutSlot p i b v) a other told = absurd (true≢false other)
told_known c r mine values verb a other told = told

-- and after one at a position that is known already
copy_known : (c : Config) (r p i b v : ℕ) (mine : List Event) (values : List ℕ) (a : Answer) → i < end_of c r mine → IsPossible c r (event_by r (Verb.PutSlot p i b v) a ∷ mine) → values ≡ known c r mine → values ≡ known c r (event_by r (Verb.PutSlot p i b v) a ∷ mine)
copy_known c r p i b v mine values a low possible told = elim (puts_slot_or c r p i b v a mine possible) [
  | inl done ↦ subst (λ x. values ≡ known c r (event_by r (Verb.PutSlot p i b v) x ∷ mine)) (sym done) (told ∙ sym (put_known c r p i b v mine low))
  | inr missed ↦ subst (λ x. values ≡ known c r (event_by r (Verb.PutSlot p i b v) x ∷ mine)) (sym missed) told
]

-- what the leader goes by after the verb of its place
pub goes_by : (c : Config) (r b failed : ℕ) (mine : List Event) (up : List ℕ) (reach : List (Option ℕ)) (written values : List ℕ) (verb : Verb) (a : Answer) (place : Place) → IsConfig c → At c r b mine up reach written place → verb_at c b (known c r mine) up written place ≡ Some verb
    → IsPossible c r (event_by r verb a ∷ mine) → values ≡ known_told c r mine r verb a → ((q : ℕ) → q < c.replicas → is_bit q failed ≡ is_failed r q mine) → GoesBy c r failed mine (event_by r verb a ∷ mine) values a place
goes_by c r b failed mine up reach written values verb a place config at due possible told heeded = go place at due
  where
    Knows : Verb → Type 0
    Knows v = values ≡ known c r (event_by r v a ∷ mine)

    by : (w : Verb) → is_slot_put_verb w ≡ false → Some w ≡ Some verb → Knows verb
    by w other same =
        let is = same_some w verb same in
        subst Knows is (told_known c r mine values w a other (subst (λ v. values ≡ known_told c r mine r v a) (sym is) told))

    may : (w : Verb) → Some w ≡ Some verb → IsPossible c r (event_by r w a ∷ mine)
    may w same = subst (λ v. IsPossible c r (event_by r v a ∷ mine)) (sym (same_some w verb same)) possible

    told_at : (w : Verb) → Some w ≡ Some verb → values ≡ known_told c r mine r w a
    told_at w same = subst (λ v. values ≡ known_told c r mine r v a) (sym (same_some w verb same)) told

    min_is : (p : ℕ) → Some (Verb.Min p) ≡ Some verb → number_told a < 4294967296
    min_is p same =
        let x = tells_min c r p a mine (may (Verb.Min p) same) in
        subst (λ y. number_told y < 4294967296) (sym x.1) (min_small c r p x.0 mine config (subst (λ y. IsPossible c r (event_by r (Verb.Min p) y ∷ mine)) x.1 (may (Verb.Min p) same)))

    go : (place : Place) → At c r b mine up reach written place → verb_at c b (known c r mine) up written place ≡ Some verb → GoesBy c r failed mine (event_by r verb a ∷ mine) values a place
    go (Place.PutBehind p on) at due =
        let u = get_or up p 0 in
        let v = get_or (known c r mine) u 0 in
        let put = Verb.PutSlot p u b v in
        subst Knows (same_some put verb due) (copy_known c r p u b v mine values a at.near.lacks (may put due) (told_at put due))
    go (Place.LateMin p) at due = min_is p due
    go (Place.ReadHead q candidate) at due = (by (Verb.Head q) refl due, subst (λ v. is_bit q failed ≡ is_failed r q (event_by r v a ∷ mine)) (same_some (Verb.Head q) verb due) (heeded q at.region))
    go (Place.Put p offer) at due =
        let put = Verb.PutSlot p (end_of c r mine) b offer.value in (
          told_at put due,
          subst (λ v. nat_lt (end_of c r mine) (end_of c r (event_by r v a ∷ mine)) ≡ lands_last c r (event_by r v a ∷ mine) a p) (same_some put verb due) (put_grows c r b p offer mine up reach a at.0 (may put due)),
        )
    go Place.Outrun at due = cc
    go Place.Rest at due = cc
    go place at due = by _ refl due

-- a FUO is that of a region
same_fuo : (p q : ℕ) → Verb.Fuo q ≡ Verb.Fuo p → q ≡ p
same_fuo p q is = cc

pub fuo_inside : (c : Config) (r b p : ℕ) (mine : List Event) (up : List ℕ) (reach : List (Option ℕ)) (written values : List ℕ) (place : Place) → At c r b mine up reach written place → verb_at c b values up written place ≡ Some (Verb.Fuo p) → p < c.replicas
fuo_inside c r b p mine up reach written values (Place.ReadFuo q source) at due = subst (λ k. k < c.replicas) (same_fuo p q (same_some (Verb.Fuo q) (Verb.Fuo p) due)) at.region
fuo_inside c r b p mine up reach written values (Place.LateFuo q) at due = subst (λ k. k < c.replicas) (same_fuo p q (same_some (Verb.Fuo q) (Verb.Fuo p) due)) at.late.region
fuo_inside c r b p mine up reach written values place at due = cc

-- a word that is written is one that the row lacks
same_row : (i j k x l y : ℕ) → Verb.WriteRow i l y ≡ Verb.WriteRow j k x → i ≡ j
same_row i j k x l y is = cc

pub word_lacks : (c : Config) (r b j k x : ℕ) (mine : List Event) (up : List ℕ) (reach : List (Option ℕ)) (written values : List ℕ) (place : Place) → At c r b mine up reach written place → verb_at c b values up written place ≡ Some (Verb.WriteRow j k x) → get_or written j 12 < 12
word_lacks c r b j k x mine up reach written values (Place.Write i last offer) at due = subst (λ n. get_or written n 12 < 12) (same_row i j k x _ _ (same_some _ (Verb.WriteRow j k x) due)) at.1
word_lacks c r b j k x mine up reach written values place at due = cc

-- an entry that isn't known is put as the offer
same_position : (p i b v q u d w : ℕ) → Verb.PutSlot q u d w ≡ Verb.PutSlot p i b v → u ≡ i
same_position p i b v q u d w is = cc

pub put_offer : (T : Type 0) (c : Config) (r b p i d v : ℕ) (mine : List Event) (up : List ℕ) (reach : List (Option ℕ)) (written values : List ℕ) (place : Place) → At c r b mine up reach written place → verb_at c b values up written place ≡ Some (Verb.PutSlot p i d v) → nat_lt i (end_of c r mine) ≡ false
    → ((q : ℕ) (offer : Offer) → place ≡ Place.Put q offer → T) → T
put_offer T c r b p i d v mine up reach written values (Place.PutBehind q on) at due high found =
    let same = same_position p i d v q (get_or up q 0) b _ (same_some _ (Verb.PutSlot p i d v) due) in
    let lacks = at.near.lacks in
    let above = ltb-false i (end_of c r mine) high in
    absurd (omega (arith, same, lacks, above))
put_offer T c r b p i d v mine up reach written values (Place.Put q offer) at due high found = found q offer refl
put_offer T c r b p i d v mine up reach written values place at due high found = cc

-- of the tables a note looks only at how far a late follower is, and its put leaves that
pub same_tables_note : (c : Config) (r b : ℕ) (mine now : List Event) (old : Tables) (values : List ℕ) (verb : Verb) (a : Answer) (place : Place) → verb_at c b values old.up old.written place ≡ Some verb
    → next_note c r b mine now (tables_with c r mine now old verb a) a place ≡ next_note c r b mine now old a place
same_tables_note c r b mine now old values verb a (Place.LatePut p) due = subst (λ v. next_note c r b mine now (tables_with c r mine now old v a) a (Place.LatePut p) ≡ next_note c r b mine now old a (Place.LatePut p)) (same_some (Verb.PutMin p b) verb due) refl
same_tables_note c r b mine now old values verb a place due = refl
