-- A replica that names itself again asks at once; each leadership asks every region before its first minimum, and reads every fence and each noted minimum before its number is put.
use Rattle.std.proofs.Common.{◌≡◌, ◌∙◌, ◌≢◌, ℕ, ◌+◌, ◌<◌, ◌≤◌, ◌==◌, ◌&&◌, ◌||◌, ◌⊎◌, inl, inr, Bool, true, false, cond, None, Some, List, [], ◌∷◌, ap, arith, length, refl, subst, sym}
use Rattle.std.specs.declared.option.Option.{Option}
use Rattle.std.specs.Prelude.{if◌then◌else◌, is_some, nat_lt, not}
use Rattle.std.proofs.lemmas.Bool.{and_parts, cases_eq, cases_lt, eq-eqb, eqb-true, ltb-false, ltb-true, ne_eqb, true≢false}
use Rattle.mu_agree.proofs.Landings.{has_more}
use Rattle.mu_model.specs.declared.config.Config.{Config}
use Rattle.mu_model.specs.declared.event.Answer.{Answer}
use Rattle.mu_model.specs.declared.event.Event.{Event}
use Rattle.mu_model.specs.declared.event.Target.{Target}
use Rattle.mu_model.specs.declared.event.Verb.{Verb}
use Rattle.mu_model.specs.Diligence.{is_confirmed, was_unnamed}
use Rattle.mu_model.specs.Histories.{earlier_or, has, how_many, newer_or, newest, oldest, or_zero}
use Rattle.mu_model.specs.Leaderships.{begins_leadership, fence_seen, grant_for, has_begun, is_first_ask, leadership, noted_grant, number_put, proposal_number}
use Rattle.mu_model.specs.Steps.{is_any_fencing, is_any_fencing_verb, is_asking, is_asking_verb, is_fencing, is_fencing_verb, is_min, is_min_verb, is_named}
use Rattle.mu_model.specs.Stretches.{is_odd, is_replication}
use Rattle.mu_grant.specs.Stands.{is_of_place}
use Rattle.mu_knowledge.specs.Offers.{IsFirst}
use Rattle.mu_knowledge.proofs.Firsts.{first_in_is}
use Rattle.mu_lead.specs.declared.place.Place.{Place}
use Rattle.mu_lead.specs.Journal.{number_due, place_after, tables_at}
use Rattle.mu_lead.specs.Listing.{after_round, first_member, is_lost, is_missed, noted_from, or_else}
use Rattle.mu_agree.specs.Moments.{AtEachStep}
use Rattle.mu_node.specs.Journal.{WasMade}
use Rattle.mu_lively.proofs.Asked.{OfLead, any_asks_fail, at_place, first_begins, follows, is_any_ask, made_verb, mins_fail, of_lead, place_anew, place_of, place_on, place_still, placed}
use Rattle.mu_node.proofs.Cycled.{FailsBackground}
use Rattle.mu_lively.proofs.Later.{is_later, later_goes}

-- the verb is `Min(q)`
abbrev pub is_min_at : ℕ → Verb → Bool
is_min_at q (Verb.Min p) = p == q
is_min_at q verb = false

-- what the leadership has done: it has begun and asked all, read all fences, and the minima of the noted regions below k
pub record AskedAll (c : Config) (r : ℕ) (mine : List Event) : Type 0 where
  pub asked : (q : ℕ) → q < c.replicas → q ≢ 0 → has (is_asking q) (leadership r mine) ≡ true
  pub begun : has_begun r mine ≡ true

abbrev FencedAll : Config → ℕ → List Event → Type 0
FencedAll c r mine = (q : ℕ) → q < c.replicas → 1 ≤ how_many (is_fencing q) (leadership r mine)

abbrev ReadBelow : ℕ → ℕ → List Event → Type 0
ReadBelow r k mine = (q : ℕ) → q < k → is_some (noted_grant r q mine) ≡ true → has (λ e. is_min_at q e.verb) (leadership r mine) ≡ true

record AtConfirm (c : Config) (r k p : ℕ) (mine : List Event) : Type 0 where
  inside : p < c.replicas
  all : AskedAll c r mine
  fenced : (q : ℕ) → q < c.replicas → (q < p) ⊎ (0 < k) → 1 ≤ how_many (is_fencing q) (leadership r mine)

record AtReadMin (c : Config) (r p : ℕ) (mine : List Event) : Type 0 where
  inside : p < c.replicas
  noted : is_some (noted_grant r p mine) ≡ true
  all : AskedAll c r mine
  fenced : FencedAll c r mine
  read : ReadBelow r p mine

record AtNumber (c : Config) (r : ℕ) (mine : List Event) : Type 0 where
  all : AskedAll c r mine
  fenced : FencedAll c r mine
  read : proposal_number r mine ≡ None → ReadBelow r c.replicas mine

record AtAsk (c : Config) (r p : ℕ) (mine : List Event) : Type 0 where
  inside : p < c.replicas
  asked : (q : ℕ) → q < p → q ≢ 0 → has (is_asking q) (leadership r mine) ≡ true
  begun : 0 < p → has_begun r mine ≡ true

record AtLater (c : Config) (r : ℕ) (mine : List Event) : Type 0 where
  all : AskedAll c r mine
  number : is_some (proposal_number r mine) ≡ true

abbrev Stood : Config → ℕ → List Event → Place → Type 0
Stood c r mine (Place.Ask p) = AtAsk c r p mine
Stood c r mine (Place.Confirm k p) = AtConfirm c r k p mine
Stood c r mine (Place.ReadMin p) = AtReadMin c r p mine
Stood c r mine (Place.EnterMin p) = AtNumber c r mine
Stood c r mine (Place.PutMin p) = AtNumber c r mine
Stood c r mine place = AtLater c r mine

-- an event that begins no leadership
led_more : (r : ℕ) (e : Event) (mine : List Event) → begins_leadership r e ≡ false → leadership r (e ∷ mine) ≡ e ∷ leadership r mine
led_more r e mine silent = ap (λ t. cond t [] (e ∷ leadership r mine)) silent

has_on : (test : Event → Bool) (r : ℕ) (e : Event) (mine : List Event) → begins_leadership r e ≡ false → has test (leadership r mine) ≡ true → has test (leadership r (e ∷ mine)) ≡ true
has_on test r e mine silent some = ap (has test) (led_more r e mine silent) ∙ has_more test e (leadership r mine) some

count_on : (test : Event → Bool) (r : ℕ) (e : Event) (mine : List Event) → begins_leadership r e ≡ false → 1 ≤ how_many test (leadership r mine) → 1 ≤ how_many test (leadership r (e ∷ mine))
count_on test r e mine silent some = subst (λ l. 1 ≤ how_many test l) (sym (led_more r e mine silent)) (go (test e))
  where
    go : (t : Bool) → 1 ≤ cond t (how_many test (leadership r mine) + 1) (how_many test (leadership r mine))
    go true = omega (arith, some)
    go false = some

count_here : (test : Event → Bool) (r : ℕ) (e : Event) (mine : List Event) → begins_leadership r e ≡ false → test e ≡ true → 1 ≤ how_many test (leadership r (e ∷ mine))
count_here test r e mine silent is = subst (λ l. 1 ≤ how_many test l) (sym (led_more r e mine silent)) (subst (λ t. 1 ≤ cond t (how_many test (leadership r mine) + 1) (how_many test (leadership r mine))) (sym is) (omega arith))

has_here : (test : Event → Bool) (r : ℕ) (e : Event) (mine : List Event) → begins_leadership r e ≡ false → test e ≡ true → has test (leadership r (e ∷ mine)) ≡ true
has_here test r e mine silent is = ap (has test) (led_more r e mine silent) ∙ ap (λ t. cond t true (has test (leadership r mine))) is

all_on : (c : Config) (r : ℕ) (e : Event) (mine : List Event) → begins_leadership r e ≡ false → AskedAll c r mine → AskedAll c r (e ∷ mine)
all_on c r e mine silent a = record { asked = λ q low other. has_on (is_asking q) r e mine silent (a.asked q low other); begun = has_more (begins_leadership r) e mine a.begun }

unfenced : (r p by : ℕ) (verb : Verb) (answer : Answer) → is_any_fencing_verb verb ≡ false → fence_seen r p by verb answer ≡ None
unfenced r p by (Verb.Fence q) answer h = absurd (true≢false h)
unfenced r p by verb answer h = refl

noted_on : (r p : ℕ) (e : Event) (mine : List Event) → begins_leadership r e ≡ false → is_any_fencing e ≡ false → noted_grant r p (e ∷ mine) ≡ noted_grant r p mine
noted_on r p e mine silent none = ap (λ l. grant_for r (newest (λ f. fence_seen r p f.by f.verb f.answer) l)) (led_more r e mine silent) ∙ ap (λ o. grant_for r (newer_or o (newest (λ f. fence_seen r p f.by f.verb f.answer) (leadership r mine)))) (unfenced r p e.by e.verb e.answer none)

number_on : (r : ℕ) (e : Event) (mine : List Event) → begins_leadership r e ≡ false → proposal_number r (e ∷ mine) ≡ earlier_or (number_put r e.by e.verb) (proposal_number r mine)
number_on r e mine silent = ap (oldest (λ f. number_put r f.by f.verb)) (led_more r e mine silent)

some_on : (r : ℕ) (e : Event) (mine : List Event) → begins_leadership r e ≡ false → is_some (proposal_number r mine) ≡ true → is_some (proposal_number r (e ∷ mine)) ≡ true
some_on r e mine silent some = ap is_some (number_on r e mine silent) ∙ go (number_put r e.by e.verb) (proposal_number r mine) some
  where
    go : (o p : Option ℕ) → is_some p ≡ true → is_some (earlier_or o p) ≡ true
    go None p h = h
    go (Some x) None h = refl
    go (Some x) (Some y) h = refl

none_on : (r : ℕ) (e : Event) (mine : List Event) → begins_leadership r e ≡ false → proposal_number r (e ∷ mine) ≡ None → proposal_number r mine ≡ None
none_on r e mine silent none = go (number_put r e.by e.verb) (proposal_number r mine) (sym (number_on r e mine silent) ∙ none)
  where
    go : (o p : Option ℕ) → earlier_or o p ≡ None → p ≡ None
    go None p h = h
    go (Some x) None h = refl
    go (Some x) (Some y) h = absurd (let k = h in cc)

read_on : (r k : ℕ) (e : Event) (mine : List Event) → begins_leadership r e ≡ false → is_any_fencing e ≡ false → ReadBelow r k mine → ReadBelow r k (e ∷ mine)
read_on r k e mine silent none read q low noted = has_on (λ f. is_min_at q f.verb) r e mine silent (read q low (ap is_some (sym (noted_on r q e mine silent none)) ∙ noted))

number_stays : (c : Config) (r : ℕ) (e : Event) (mine : List Event) → begins_leadership r e ≡ false → is_any_fencing e ≡ false → AtNumber c r mine → AtNumber c r (e ∷ mine)
number_stays c r e mine silent none s = record { all = all_on c r e mine silent s.all; fenced = λ q low. count_on (is_fencing q) r e mine silent (s.fenced q low); read = λ n. read_on r c.replicas e mine silent none (s.read (none_on r e mine silent n)) }

-- an event that is no ask and no fence leaves all that
stays : (c : Config) (r : ℕ) (e : Event) (mine : List Event) (place : Place) → begins_leadership r e ≡ false → is_any_fencing e ≡ false → Stood c r mine place → Stood c r (e ∷ mine) place
stays c r e mine (Place.Ask p) silent none s = record { inside = s.inside; asked = λ q low other. has_on (is_asking q) r e mine silent (s.asked q low other); begun = λ some. has_more (begins_leadership r) e mine (s.begun some) }
stays c r e mine (Place.Confirm k p) silent none s = record { inside = s.inside; all = all_on c r e mine silent s.all; fenced = λ q low either. count_on (is_fencing q) r e mine silent (s.fenced q low either) }
stays c r e mine (Place.ReadMin p) silent none s = record { inside = s.inside; noted = ap is_some (noted_on r p e mine silent none) ∙ s.noted; all = all_on c r e mine silent s.all; fenced = λ q low. count_on (is_fencing q) r e mine silent (s.fenced q low); read = read_on r p e mine silent none s.read }
stays c r e mine (Place.EnterMin p) silent none s = number_stays c r e mine silent none s
stays c r e mine (Place.PutMin p) silent none s = number_stays c r e mine silent none s
stays c r e mine place silent none s = record { all = all_on c r e mine silent s.all; number = some_on r e mine silent s.number }

-- the first ask of a leadership is to come
anew : (c : Config) (r : ℕ) (mine : List Event) → r < c.replicas → AtAsk c r 0 mine
anew c r mine inside = record { inside = omega (arith, inside); asked = λ q low other. absurd (omega (arith, low)); begun = λ none. absurd (omega (arith, none)) }

from_later : (c : Config) (r : ℕ) (mine : List Event) (place : Place) → r < c.replicas → is_later place ≡ true → AtLater c r mine → Stood c r mine place
from_later c r mine (Place.Ask p) inside is s = subst (λ q. AtAsk c r q mine) (sym (eqb-true p 0 is)) (anew c r mine inside)
from_later c r mine (Place.Confirm k p) inside is s = absurd (true≢false (sym is))
from_later c r mine (Place.ReadMin p) inside is s = absurd (true≢false (sym is))
from_later c r mine (Place.EnterMin p) inside is s = absurd (true≢false (sym is))
from_later c r mine (Place.PutMin p) inside is s = absurd (true≢false (sym is))
from_later c r mine place inside is s = s

-- a turn of its own
record OwnTurn (c : Config) (r : ℕ) (mine : List Event) (e : Event) (place : Place) : Type 0 where
  inside : r < c.replicas
  own : e.by ≡ r
  verb : (v : Verb) → placed c r mine place ≡ Some v → e.verb ≡ v

asks_first : (c : Config) (r p : ℕ) (mine : List Event) (e : Event) → OwnTurn c r mine e (Place.Ask p) → AtAsk c r p mine → Stood c r (e ∷ mine) (follows c r mine e (Place.Ask p))
asks_first c r p mine e t s = go (nat_lt (p + 1) c.replicas) refl
  where
    is : e.verb ≡ Verb.Ask p
    is = t.verb (Verb.Ask p) refl

    starts : (u : Bool) → (p == 0) ≡ u → begins_leadership r e ≡ u
    starts u h = ap (is_first_ask r e.by) is ∙ ap (λ x. x && (p == 0)) (eq-eqb e.by r t.own) ∙ h

    asked : (q : ℕ) → q < p + 1 → q ≢ 0 → has (is_asking q) (leadership r (e ∷ mine)) ≡ true
    asked q low other = elim (cases_eq q p) [
      | inl same ↦ has_here (is_asking q) r e mine (starts false (ne_eqb p 0 (λ z. other (same ∙ z)))) (ap (is_asking_verb q) is ∙ eq-eqb p q (sym same))
      | inr more ↦ has_on (is_asking q) r e mine (starts false (ne_eqb p 0 (λ z. omega (arith, z, low, other)))) (s.asked q (omega (arith, low, more)) other)
    ]

    begun : has_begun r (e ∷ mine) ≡ true
    begun = elim (cases_eq p 0) [
      | inl zeroth ↦ ap (λ x. cond x true (has_begun r mine)) (starts true (eq-eqb p 0 zeroth))
      | inr later ↦ has_more (begins_leadership r) e mine (s.begun (omega (arith, later)))
    ]

    go : (u : Bool) → nat_lt (p + 1) c.replicas ≡ u → Stood c r (e ∷ mine) (if u then Place.Ask (p + 1) else Place.Confirm 0 0)
    go true low = record { inside = ltb-true (p + 1) c.replicas low; asked = asked; begun = λ _. begun }
    go false high =
        let most = ltb-false (p + 1) c.replicas high in
        let l = t.inside in
        record {
          inside = omega (arith, l);
          all = record { asked = λ q low other. asked q (omega (arith, low, most)) other; begun = begun };
          fenced = λ q low either. elim either [ inl x ↦ absurd (omega (arith, x)) | inr x ↦ absurd (omega (arith, x)) ];
        }

confirms : (c : Config) (r k p : ℕ) (mine : List Event) (e : Event) → OwnTurn c r mine e (Place.Confirm k p) → begins_leadership r e ≡ false → AtConfirm c r k p mine → Stood c r (e ∷ mine) (follows c r mine e (Place.Confirm k p))
confirms c r k p mine e t silent s = go (nat_lt (p + 1) c.replicas) refl
  where
    is : e.verb ≡ Verb.Fence p
    is = t.verb (Verb.Fence p) refl

    all : AskedAll c r (e ∷ mine)
    all = all_on c r e mine silent s.all

    here : (q : ℕ) → q ≡ p → 1 ≤ how_many (is_fencing q) (leadership r (e ∷ mine))
    here q same = count_here (is_fencing q) r e mine silent (ap (is_fencing_verb q) is ∙ eq-eqb p q (sym same))

    fenced : (q : ℕ) → q < c.replicas → (q < p + 1) ⊎ (0 < k) → 1 ≤ how_many (is_fencing q) (leadership r (e ∷ mine))
    fenced q low either = elim (cases_eq q p) [
      | inl same ↦ here q same
      | inr other ↦ count_on (is_fencing q) r e mine silent (s.fenced q low (elim either [ inl x ↦ inl (omega (arith, x, other)) | inr x ↦ inr x ]))
    ]

    after : (high : c.replicas ≤ p + 1) → (u : Bool) → is_confirmed c r (e ∷ mine) ≡ u → Stood c r (e ∷ mine) (if u then or_else (noted_from c r (e ∷ mine) 0) Place.ReadMin Place.Rest else (if nat_lt k 15 then Place.Confirm (k + 1) 0 else Place.Ask 0))
    after high true sure = first (noted_from c r (e ∷ mine) 0) (first_in_is (λ q. is_some (noted_grant r q (e ∷ mine))) 0 c.replicas)
      where
        first : (o : Option ℕ) → IsFirst (λ q. is_some (noted_grant r q (e ∷ mine))) 0 c.replicas o → Stood c r (e ∷ mine) (or_else o Place.ReadMin Place.Rest)
        first None none = absurd (true≢false (sym (and_parts (is_some (noted_grant r r (e ∷ mine))) _ sure).0 ∙ none r (omega arith) t.inside))
        first (Some q) f = record { inside = f.1; noted = f.2; all = all; fenced = λ x low. fenced x low (inl (omega (arith, low, high))); read = λ x low noted. absurd (true≢false (sym noted ∙ f.3 x (omega arith) low)) }
    after high false sure = again (nat_lt k 15) refl
      where
        again : (u : Bool) → nat_lt k 15 ≡ u → Stood c r (e ∷ mine) (if u then Place.Confirm (k + 1) 0 else Place.Ask 0)
        again true few = (let l = t.inside in record { inside = omega (arith, l); all = all; fenced = λ q low either. fenced q low (inl (omega (arith, low, high))) })
        again false many = anew c r (e ∷ mine) t.inside

    go : (u : Bool) → nat_lt (p + 1) c.replicas ≡ u → Stood c r (e ∷ mine) (if u then Place.Confirm k (p + 1) else after_round c r (e ∷ mine) k)
    go true low = record { inside = ltb-true (p + 1) c.replicas low; all = all; fenced = fenced }
    go false high = after (ltb-false (p + 1) c.replicas high) (is_confirmed c r (e ∷ mine)) refl

reads_min : (c : Config) (r p : ℕ) (mine : List Event) (e : Event) → OwnTurn c r mine e (Place.ReadMin p) → begins_leadership r e ≡ false → AtReadMin c r p mine → Stood c r (e ∷ mine) (follows c r mine e (Place.ReadMin p))
reads_min c r p mine e t silent s = go (noted_from c r (e ∷ mine) (p + 1)) (first_in_is (λ q. is_some (noted_grant r q (e ∷ mine))) (p + 1) c.replicas)
  where
    is : e.verb ≡ Verb.Min p
    is = t.verb (Verb.Min p) refl

    open_fence : is_any_fencing e ≡ false
    open_fence = ap is_any_fencing_verb is

    all : AskedAll c r (e ∷ mine)
    all = all_on c r e mine silent s.all

    fenced : FencedAll c r (e ∷ mine)
    fenced q low = count_on (is_fencing q) r e mine silent (s.fenced q low)

    read : ReadBelow r (p + 1) (e ∷ mine)
    read q low noted = elim (cases_eq q p) [
      | inl same ↦ has_here (λ f. is_min_at q f.verb) r e mine silent (ap (is_min_at q) is ∙ eq-eqb p q (sym same))
      | inr other ↦ read_on r p e mine silent open_fence s.read q (omega (arith, low, other)) noted
    ]

    noted_here : is_some (noted_grant r p (e ∷ mine)) ≡ true
    noted_here = ap is_some (noted_on r p e mine silent open_fence) ∙ s.noted

    go : (o : Option ℕ) → IsFirst (λ q. is_some (noted_grant r q (e ∷ mine))) (p + 1) c.replicas o → Stood c r (e ∷ mine) (or_else o Place.ReadMin (or_else (noted_from c r (e ∷ mine) 0) Place.EnterMin Place.Rest))
    go (Some q) f = record { inside = f.1; noted = f.2; all = all; fenced = fenced; read = λ x low noted. elim (cases_lt x (p + 1)) [ inl below ↦ read x below noted | inr above ↦ absurd (true≢false (sym noted ∙ f.3 x above low)) ] }
    go None none = first (noted_from c r (e ∷ mine) 0) (first_in_is (λ q. is_some (noted_grant r q (e ∷ mine))) 0 c.replicas)
      where
        first : (o : Option ℕ) → IsFirst (λ q. is_some (noted_grant r q (e ∷ mine))) 0 c.replicas o → Stood c r (e ∷ mine) (or_else o Place.EnterMin Place.Rest)
        first None empty = absurd (true≢false (sym noted_here ∙ empty p (omega arith) s.inside))
        first (Some q) f = record { all = all; fenced = fenced; read = λ _ x low noted. elim (cases_lt x (p + 1)) [ inl below ↦ read x below noted | inr above ↦ absurd (true≢false (sym noted ∙ none x above low)) ] }

puts_min : (c : Config) (r p : ℕ) (mine : List Event) (e : Event) → OwnTurn c r mine e (Place.PutMin p) → begins_leadership r e ≡ false → AtNumber c r mine → Stood c r (e ∷ mine) (follows c r mine e (Place.PutMin p))
puts_min c r p mine e t silent s = go (is_missed e.answer)
  where
    is : e.verb ≡ Verb.PutMin p (number_due r mine)
    is = t.verb (Verb.PutMin p (number_due r mine)) refl

    all : AskedAll c r (e ∷ mine)
    all = all_on c r e mine silent s.all

    number : is_some (proposal_number r (e ∷ mine)) ≡ true
    number = ap is_some (number_on r e mine silent) ∙ some (number_put r e.by e.verb) (proposal_number r mine) (ap (λ v. is_some (number_put r e.by v)) is ∙ ap (λ x. is_some (if x then Some (number_due r mine) else None)) (eq-eqb e.by r t.own))
      where
        some : (o q : Option ℕ) → is_some o ≡ true → is_some (earlier_or o q) ≡ true
        some None q h = absurd (true≢false (sym h))
        some (Some x) None h = refl
        some (Some x) (Some y) h = refl

    later : AtLater c r (e ∷ mine)
    later = record { all = all; number = number }

    next : (o : Option ℕ) → Stood c r (e ∷ mine) (or_else o Place.EnterMin (Place.ReadFuo (first_member c r (e ∷ mine)) None))
    next None = later
    next (Some q) = record { all = all; fenced = λ x low. count_on (is_fencing x) r e mine silent (s.fenced x low); read = λ none. absurd (true≢false (sym number ∙ ap is_some none)) }

    go : (u : Bool) → Stood c r (e ∷ mine) (if u then Place.Evidence p else or_else (noted_from c r (e ∷ mine) (p + 1)) Place.EnterMin (Place.ReadFuo (first_member c r (e ∷ mine)) None))
    go true = later
    go false = next (noted_from c r (e ∷ mine) (p + 1))

enters_min : (c : Config) (r p : ℕ) (mine : List Event) (e : Event) → OwnTurn c r mine e (Place.EnterMin p) → begins_leadership r e ≡ false → AtNumber c r mine → Stood c r (e ∷ mine) (follows c r mine e (Place.EnterMin p))
enters_min c r p mine e t silent s = go (is_lost e.answer)
  where
    go : (u : Bool) → Stood c r (e ∷ mine) (if u then Place.Ask 0 else Place.PutMin p)
    go true = anew c r (e ∷ mine) t.inside
    go false = number_stays c r e mine silent (ap is_any_fencing_verb (t.verb (Verb.Enter p Target.Min) refl)) s

-- the verb that is due is an ask
abbrev due_ask : Option Verb → Bool
due_ask None = false
due_ask (Some verb) = is_any_ask verb

stood_on : (c : Config) (r : ℕ) (mine : List Event) (e : Event) (place : Place) → OwnTurn c r mine e place → (due_ask (placed c r mine place) ≡ false → begins_leadership r e ≡ false) → Stood c r mine place → Stood c r (e ∷ mine) (follows c r mine e place)
stood_on c r mine e (Place.Ask p) t silent s = asks_first c r p mine e t s
stood_on c r mine e (Place.Confirm k p) t silent s = confirms c r k p mine e t (silent refl) s
stood_on c r mine e (Place.ReadMin p) t silent s = reads_min c r p mine e t (silent refl) s
stood_on c r mine e (Place.EnterMin p) t silent s = enters_min c r p mine e t (silent refl) s
stood_on c r mine e (Place.PutMin p) t silent s = puts_min c r p mine e t (silent refl) s
stood_on c r mine e place t silent s =
    from_later c r (e ∷ mine) (follows c r mine e place) t.inside (later_goes c r (or_zero (proposal_number r mine)) (e ∷ mine) (tables_at c r (e ∷ mine)) e.answer place refl)
    (record { all = all_on c r e mine (silent refl) s.all; number = some_on r e mine (silent refl) s.number })

fences_fail : FailsBackground is_any_fencing_verb
fences_fail = record { replays = record { beat = refl; fuo = λ q. refl; look = λ q i. refl; row = λ v k. refl; raise = λ q u. refl; raise_head = λ h. refl; head = λ q. refl }; host = host }
  where
    host : (d : ℕ) (verb : Verb) → is_of_place d verb ≡ true → is_any_fencing_verb verb ≡ false
    host d (Verb.Fence q) is = absurd (true≢false (sym is))
    host d verb is = refl

any : (r by : ℕ) (verb : Verb) → is_first_ask r by verb ≡ true → is_any_ask verb ≡ true
any r by (Verb.Ask q) is = refl
any r by verb is = absurd (true≢false (sym is))

-- an event of the background is no ask and no fence
silent_beside : (c : Config) (r : ℕ) (mine : List Event) (e : Event) → WasMade c r mine e → is_odd (length mine) ≡ false → (begins_leadership r e ≡ false) × (is_any_fencing e ≡ false)
silent_beside c r mine e held even = (ask (begins_leadership r e) refl, fence (is_any_fencing e) refl)
  where
    ask : (t : Bool) → begins_leadership r e ≡ t → t ≡ false
    ask false is = refl
    ask true is = absurd (true≢false (sym (of_lead is_any_ask c r mine e held any_asks_fail (λ j k x. refl) refl (λ q. refl) (λ w. refl) (any r e.by e.verb is)).odd ∙ even))

    fence : (t : Bool) → is_any_fencing e ≡ t → t ≡ false
    fence false is = refl
    fence true is = absurd (true≢false (sym (of_lead is_any_fencing_verb c r mine e held fences_fail (λ j k x. refl) refl (λ q. refl) (λ w. refl) is).odd ∙ even))

silent_at : (c : Config) (r : ℕ) (mine : List Event) (e : Event) → WasMade c r mine e → due_ask (placed c r mine (place_of c r mine e)) ≡ false → begins_leadership r e ≡ false
silent_at c r mine e held none = go (begins_leadership r e) refl
  where
    go : (t : Bool) → begins_leadership r e ≡ t → t ≡ false
    go false is = refl
    go true is = (let ask = any r e.by e.verb is in let turn = of_lead is_any_ask c r mine e held any_asks_fail (λ j k x. refl) refl (λ q. refl) (λ w. refl) ask in absurd (true≢false (sym (ap due_ask turn.verb ∙ ask) ∙ none)))

stood : (c : Config) (r : ℕ) (mine : List Event) → r < c.replicas → AtEachStep (WasMade c r) mine → Stood c r mine (place_after c r mine)
stood c r [] inside made = anew c r [] inside
stood c r (e ∷ mine) inside made = go (is_odd (length mine)) refl (is_named c r mine) refl (stood c r mine inside made.0)
  where
    go : (t : Bool) → is_odd (length mine) ≡ t → (u : Bool) → is_named c r mine ≡ u → Stood c r mine (place_after c r mine) → Stood c r (e ∷ mine) (place_after c r (e ∷ mine))
    go true odd true named s = subst (Stood c r (e ∷ mine)) (sym (place_on c r mine e odd named)) (stood_on c r mine e (place_of c r mine e) (record { inside = inside; own = made.1.own; verb = λ v is. made_verb c r mine e v made.1 odd named is }) (silent_at c r mine e made.1) (at_place (Stood c r mine) c r mine e (anew c r mine inside) s))
    go true odd false named s = subst (Stood c r (e ∷ mine)) (sym (place_anew c r mine e odd named)) (anew c r (e ∷ mine) inside)
    go false even u named s = (let k = silent_beside c r mine e made.1 even in subst (Stood c r (e ∷ mine)) (sym (place_still c r mine e even)) (stays c r e mine (place_after c r mine) k.0 k.1 s))

-- and so it is at the place that it makes an event from
stood_of : (c : Config) (r : ℕ) (mine : List Event) (e : Event) → r < c.replicas → AtEachStep (WasMade c r) mine → Stood c r mine (place_of c r mine e)
stood_of c r mine e inside made = at_place (Stood c r mine) c r mine e (anew c r mine inside) (stood c r mine inside made)

-- who was unnamed since it asked, or never asked, is to ask
abbrev Returns : Config → ℕ → List Event → Type 0
Returns c r mine = (was_unnamed c r mine || not (has_begun r mine)) ≡ true → place_after c r mine ≡ Place.Ask 0

asks_zero : (c : Config) (r : ℕ) (mine : List Event) (e : Event) → WasMade c r mine e → is_odd (length mine) ≡ true → is_named c r mine ≡ true → place_after c r mine ≡ Place.Ask 0 → begins_leadership r e ≡ true
asks_zero c r mine e held odd named is = first_begins r e held.own (made_verb c r mine e (Verb.Ask 0) held odd named (ap (placed c r mine) (at_place (λ place. place ≡ Place.Ask 0) c r mine e refl is)))

returns : (c : Config) (r : ℕ) (mine : List Event) → AtEachStep (WasMade c r) mine → Returns c r mine
returns c r [] made = λ _. refl
returns c r (e ∷ mine) made = go (is_odd (length mine)) refl (is_named c r mine) refl (was_unnamed c r mine || not (has_begun r mine)) refl (returns c r mine made.0)
  where
    same : (b : Bool) → begins_leadership r e ≡ b → (t u : Bool) → (t && not u) ≡ false → ((if t && not u then true else (if begins_leadership r e then false else was_unnamed c r mine)) || not (cond (begins_leadership r e) true (has_begun r mine))) ≡ (if b then false else (was_unnamed c r mine || not (has_begun r mine)))
    same true is t u none = rw (none, is) refl
    same false is t u none = rw (none, is) refl

    go : (t : Bool) → is_odd (length mine) ≡ t → (u : Bool) → is_named c r mine ≡ u → (w : Bool) → (was_unnamed c r mine || not (has_begun r mine)) ≡ w → Returns c r mine → Returns c r (e ∷ mine)
    go true odd false named w was ih = λ _. place_anew c r mine e odd named
    go true odd true named true was ih = λ is. (let begins = asks_zero c r mine e made.1 odd named (ih was) in absurd (true≢false (sym is ∙ ap (λ t. (if t && not (is_named c r mine) then true else (if begins_leadership r e then false else was_unnamed c r mine)) || not (cond (begins_leadership r e) true (has_begun r mine))) odd ∙ ap (λ u. (if true && not u then true else (if begins_leadership r e then false else was_unnamed c r mine)) || not (cond (begins_leadership r e) true (has_begun r mine))) named ∙ same true begins true true refl)))
    go true odd true named false was ih = λ is. absurd (true≢false (sym is ∙ ap (λ t. (if t && not (is_named c r mine) then true else (if begins_leadership r e then false else was_unnamed c r mine)) || not (cond (begins_leadership r e) true (has_begun r mine))) odd ∙ ap (λ u. (if true && not u then true else (if begins_leadership r e then false else was_unnamed c r mine)) || not (cond (begins_leadership r e) true (has_begun r mine))) named ∙ not_yet (begins_leadership r e) refl))
      where
        not_yet : (b : Bool) → begins_leadership r e ≡ b → ((if true && not true then true else (if begins_leadership r e then false else was_unnamed c r mine)) || not (cond (begins_leadership r e) true (has_begun r mine))) ≡ false
        not_yet true b = same true b true true refl
        not_yet false b = same false b true true refl ∙ was
    go false even u named w was ih = λ is. place_still c r mine e even ∙ ih (sym (ap (λ t. (if t && not (is_named c r mine) then true else (if begins_leadership r e then false else was_unnamed c r mine)) || not (cond (begins_leadership r e) true (has_begun r mine))) even ∙ same false (silent_beside c r mine e made.1 even).0 false (is_named c r mine) refl) ∙ is)

-- so it asks at its next turn
pub returns_by_asking : (c : Config) (r : ℕ) (mine : List Event) (e : Event) → AtEachStep (WasMade c r) (e ∷ mine) → is_replication mine e ≡ true → is_named c r mine ≡ true → (was_unnamed c r mine || not (has_begun r mine)) ≡ true → begins_leadership r e ≡ true
returns_by_asking c r mine e made odd named is = asks_zero c r mine e made.1 odd named (returns c r mine made.0 is)

abbrev due_min : Option Verb → Bool
due_min None = false
due_min (Some verb) = is_min_verb verb

-- it has asked each region before a minimum
pub asked_before_min : (c : Config) (r p : ℕ) (mine : List Event) (e : Event) → r < c.replicas → AtEachStep (WasMade c r) (e ∷ mine) → p < c.replicas → p ≢ 0 → is_min e ≡ true → has (is_asking p) (leadership r mine) ≡ true
asked_before_min c r p mine e inside made low other min = go (place_of c r mine e) (ap due_min turn.verb ∙ min) (stood_of c r mine e inside made.0)
  where
    turn : OfLead c r mine e made.1
    turn = of_lead is_min_verb c r mine e made.1 mins_fail (λ j k x. refl) refl (λ q. refl) (λ w. refl) min

    go : (place : Place) → due_min (placed c r mine place) ≡ true → Stood c r mine place → has (is_asking p) (leadership r mine) ≡ true
    go (Place.Ask q) is s = absurd (true≢false (sym is))
    go (Place.Confirm k q) is s = absurd (true≢false (sym is))
    go (Place.ReadMin q) is s = s.all.asked p low other
    go (Place.EnterMin q) is s = absurd (true≢false (sym is))
    go (Place.PutMin q) is s = absurd (true≢false (sym is))
    go place is s = s.all.asked p low other

-- a number is put by the leader
abbrev is_any_min_put : Verb → Bool
is_any_min_put (Verb.PutMin p b) = true
is_any_min_put _ = false

puts_fail : FailsBackground is_any_min_put
puts_fail = record { replays = record { beat = refl; fuo = λ q. refl; look = λ q i. refl; row = λ v k. refl; raise = λ q u. refl; raise_head = λ h. refl; head = λ q. refl }; host = host }
  where
    host : (d : ℕ) (verb : Verb) → is_of_place d verb ≡ true → is_any_min_put verb ≡ false
    host d (Verb.PutMin q b) is = absurd (true≢false (sym is))
    host d verb is = refl

abbrev due_put : Option Verb → Bool
due_put None = false
due_put (Some verb) = is_any_min_put verb

at_number : (c : Config) (r p b : ℕ) (mine : List Event) (e : Event) → r < c.replicas → AtEachStep (WasMade c r) (e ∷ mine) → e.verb ≡ Verb.PutMin p b → proposal_number r mine ≡ None → AtNumber c r mine
at_number c r p b mine e inside made is none = go (place_of c r mine e) (ap due_put turn.verb ∙ ap is_any_min_put is) (stood_of c r mine e inside made.0)
  where
    turn : OfLead c r mine e made.1
    turn = of_lead is_any_min_put c r mine e made.1 puts_fail (λ j k x. refl) refl (λ q. refl) (λ w. refl) (ap is_any_min_put is)

    go : (place : Place) → due_put (placed c r mine place) ≡ true → Stood c r mine place → AtNumber c r mine
    go (Place.Ask q) put s = absurd (true≢false (sym put))
    go (Place.Confirm k q) put s = absurd (true≢false (sym put))
    go (Place.ReadMin q) put s = absurd (true≢false (sym put))
    go (Place.EnterMin q) put s = s
    go (Place.PutMin q) put s = s
    go place put s = absurd (true≢false (sym s.number ∙ ap is_some none))

-- and before its number it has read each fence, and the minimum of each region that it noted
pub fenced_before_number : (c : Config) (r q p b : ℕ) (mine : List Event) (e : Event) → r < c.replicas → AtEachStep (WasMade c r) (e ∷ mine) → e.verb ≡ Verb.PutMin p b → proposal_number r mine ≡ None → q < c.replicas → 1 ≤ how_many (is_fencing q) (leadership r mine)
fenced_before_number c r q p b mine e inside made is none low = (at_number c r p b mine e inside made is none).fenced q low

pub read_before_number : (c : Config) (r q p b : ℕ) (mine : List Event) (e : Event) → r < c.replicas → AtEachStep (WasMade c r) (e ∷ mine) → e.verb ≡ Verb.PutMin p b → proposal_number r mine ≡ None → q < c.replicas → is_some (noted_grant r q mine) ≡ true → has (λ f. is_min_at q f.verb) (leadership r mine) ≡ true
read_before_number c r q p b mine e inside made is none low noted = (at_number c r p b mine e inside made is none).read none q low noted
