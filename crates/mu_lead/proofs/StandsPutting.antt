-- What stands lasts along the listing at a new position: heads, looks, rows, puts and FUOs.
use Rattle.mu_agree.proofs.Possible.{parts_shorten_law}
use Rattle.mu_knowledge.proofs.Firsts.{first_in_is}
use Rattle.mu_knowledge.specs.Offers.{IsFirst}
use Rattle.mu_lead.proofs.Bringing.{enter_event, look_event, put_event}
use Rattle.mu_lead.proofs.Copying.{clear_above}
use Rattle.mu_lead.proofs.Due.{last_there}
use Rattle.mu_lead.proofs.Keeping.{leads_kept, raise_event, raised_now}
use Rattle.mu_lead.proofs.Looks.{head_event, level_head, look_same, looking_on, looking_to, marks_head, marks_now, roomy_marked, roomy_read}
use Rattle.mu_lead.proofs.Offers.{row_event, writing_row}
use Rattle.mu_lead.proofs.Puts.{enters_next, known_more, known_same, member_within, puts_new, raised_all, raises_first, raises_next, took_all}
use Rattle.mu_lead.proofs.Sights.{outrun_by, shows_kept}
use Rattle.mu_lead.proofs.StandsOnward.{Ready, Stand, StandsAt, Stood, brought_stand, first_is, heads_stand, keeps, late_stands, pick_stands, ready, write_stands}
use Rattle.mu_lead.proofs.StandsTables.{commit_tables, fuo_heads, fuo_others, head_tables, raise_tables, where_so, word_tables}
use Rattle.mu_lead.proofs.Writes.{four}
use Rattle.mu_lead.specs.Journal.{fuo_in, set_where}
use Rattle.mu_lead.specs.Leading.{AtRaise, IsRaised, Level, end_of}
use Rattle.mu_lead.specs.Listing.{Tables, after_head, after_look, bring_up_from, first_member, heads_from, larger_sight, late_from, least_candidate, may_mark, member_from, or_else, pick, sight_of, write_from}
use Rattle.mu_lead.specs.Offering.{AtEnter, AtLook, AtPut, AtReadHead, AtWrite, Looking, LooksShow, MayBeMarked, entry_in}
use Rattle.mu_lead.specs.declared.place.Offer.{Offer}
use Rattle.mu_lead.specs.declared.place.Place.{Place}
use Rattle.mu_lead.specs.declared.place.Sight.{Sight}
use Rattle.mu_lead.specs.declared.place.Then.{Then}
use Rattle.mu_model.proofs.Basics.{none_some}
use Rattle.mu_model.specs.Contents.{config_word, rest_of}
use Rattle.mu_model.specs.Leaderships.{is_member}
use Rattle.mu_model.specs.Parts.{IsPossible}
use Rattle.mu_model.specs.Picks.{entry_of, is_past, larger}
use Rattle.mu_model.specs.Room.{reserve}
use Rattle.mu_model.specs.Scores.{is_failed}
use Rattle.mu_model.specs.declared.config.Config.{Config}
use Rattle.mu_model.specs.declared.event.Answer.{Answer}
use Rattle.mu_model.specs.declared.event.Event.{Event}
use Rattle.mu_model.specs.declared.event.Target.{Target}
use Rattle.mu_model.specs.declared.event.Verb.{Verb}
use Rattle.std.proofs.Common.{Bool, List, None, Some, ap, arith, eq-eqb, false, get_or, length, refl, subst, sym, true, true≢false, ℕ, ◌%◌, ◌&&◌, ◌+◌, ◌<◌, ◌==◌, ◌∙◌, ◌∷◌, ◌≡◌}
use Rattle.std.proofs.lemmas.Bool.{and_parts, ltb-false, ltb-true}
use Rattle.std.specs.Prelude.{if◌then◌else◌, nat_lt, not, set}
use Rattle.std.specs.declared.option.Option.{Option}

-- what may be marked, when q and maybe an earlier one may
pub marks_least : (c : Config) (r q : ℕ) (now : List Event) (candidate : Option ℕ) → MayBeMarked c r now candidate → MayBeMarked c r now (Some q) → MayBeMarked c r now (least_candidate candidate q)
marks_least c r q now None old new = new
marks_least c r q now (Some k) old new = old

least_some : (candidate : Option ℕ) (q : ℕ) → (k : ℕ) × (least_candidate candidate q ≡ Some k)
least_some None q = (q, refl)
least_some (Some k) q = (k, refl)

-- the head of q
pub head_stands : (c : Config) (r b q h : ℕ) (candidate : Option ℕ) (mine : List Event) (old : Tables) → Stand c r mine old → AtReadHead c r b mine old.up old.reach q candidate → IsPossible c r (head_event r q h ∷ mine)
    → Stood c r b (head_event r q h ∷ mine) (four old.up old.reach (set old.heads q h) old.written) (after_head c r (head_event r q h ∷ mine) (set old.heads q h) q candidate h)
head_stands c r b q h candidate mine old s at possible =
    let region = at.region in
    let few = s.is.replicas.1 in
    let t = four old.up old.reach (set old.heads q h) old.written in
    let tables = head_tables c r q h mine old possible (omega (arith, region, few)) s.tables in
    record { tables = tables; at = go (nat_lt (end_of c r mine + reserve c) (h + c.ring)) (may_mark c r (head_event r q h ∷ mine) q h) refl refl t (ready c r mine (head_event r q h ∷ mine) old t s possible tables) (level_head c r b q h mine old.up old.reach at.level) }
  where
    marked : (t : Tables) → (k : Option ℕ) → least_candidate candidate q ≡ k → MayBeMarked c r (head_event r q h ∷ mine) k → nat_lt (end_of c r mine + 0) (h + c.ring) ≡ true → Ready c r (head_event r q h ∷ mine) t → Level c r b (head_event r q h ∷ mine) t.up t.reach
        → StandsAt c r b (head_event r q h ∷ mine) t (heads_from c r (head_event r q h ∷ mine) t.heads (q + 1) k)
    marked t None is marks room x level = (let some = least_some candidate q in absurd (none_some some.0 (sym is ∙ some.1)))
    marked t (Some k) is marks room x level = heads_stand c r b (q + 1) (head_event r q h ∷ mine) t (Some k) x level (roomy_marked c r q h (q + 1) k mine candidate refl at.roomy room marks)

    go : (x y : Bool) → nat_lt (end_of c r mine + reserve c) (h + c.ring) ≡ x → may_mark c r (head_event r q h ∷ mine) q h ≡ y → (t : Tables) → Ready c r (head_event r q h ∷ mine) t → Level c r b (head_event r q h ∷ mine) t.up t.reach
        → StandsAt c r b (head_event r q h ∷ mine) t (if x then heads_from c r (head_event r q h ∷ mine) t.heads (q + 1) candidate else (if y then heads_from c r (head_event r q h ∷ mine) t.heads (q + 1) (least_candidate candidate q) else late_from c r (head_event r q h ∷ mine) t.heads 0))
    go true y high may t x level = heads_stand c r b (q + 1) (head_event r q h ∷ mine) t candidate x level (roomy_read c r q h (q + 1) mine candidate refl at.roomy high)
    go false true low may t x level =
        let parts = and_parts (not (q == r)) (is_failed r q mine && nat_lt (end_of c r mine) (h + c.ring)) may in
        let more = and_parts (is_failed r q mine) (nat_lt (end_of c r mine) (h + c.ring)) parts.1 in
        let room = subst (λ n. nat_lt n (h + c.ring) ≡ true) (let same : end_of c r mine ≡ end_of c r mine + 0 = omega arith in same) more.1 in
        let mark = marks_now c r q h mine at.region (λ same. true≢false (sym parts.0 ∙ ap not (eq-eqb q r same))) at.unmarked more.0 low room in
        marked t (least_candidate candidate q) refl (marks_least c r q (head_event r q h ∷ mine) candidate (marks_head c r q h mine candidate at.roomy.marks) mark) room x level
    go false false low may t x level = late_stands c r b 0 (head_event r q h ∷ mine) t x level

-- the entry of a larger sight
entry_larger : (best next : Option Sight) → entry_in (larger_sight best next) ≡ larger (entry_in best) (entry_in next)
entry_larger None next = refl
entry_larger (Some s) None = refl
entry_larger (Some s) (Some n) = go (nat_lt s.number n.number)
  where
    go : (x : Bool) → entry_in (if x then Some n else Some s) ≡ (if x then Some (n.number, n.value) else Some (s.number, s.value))
    go true = refl
    go false = refl

entry_sight : (a : Answer) → entry_in (sight_of a) ≡ entry_of (Some a)
entry_sight (Answer.Entry n v) = refl
entry_sight answer = refl

-- the next member is looked at, or the value is picked
pub looks_stand : (c : Config) (r b p : ℕ) (now : List Event) (t : Tables) (candidate : Option ℕ) (best : Option Sight) → Ready c r now t → p < c.replicas → Looking c r b now t.up t.reach (p + 1) candidate best
    → StandsAt c r b now t (or_else (member_from c r now (p + 1)) (λ q. Place.Look q (end_of c r now) candidate best) (pick c r now t.written candidate best))
looks_stand c r b p now t candidate best x region looking = go (member_from c r now (p + 1)) (first_in_is (λ k. is_member r k now) (p + 1) c.replicas)
  where
    go : (o : Option ℕ) → IsFirst (λ k. is_member r k now) (p + 1) c.replicas o → StandsAt c r b now t (or_else o (λ q. Place.Look q (end_of c r now) candidate best) (pick c r now t.written candidate best))
    go (Some q) first = record { region = first.1; member = first.2; position = refl; looking = looking_to c r b (p + 1) q now t.up t.reach candidate best first.0 first.3 looking }
    go None none = pick_stands c r b now t candidate best x (looking_to c r b (p + 1) c.replicas now t.up t.reach candidate best (omega (arith, region)) none looking)

-- a look at the new position
pub look_stands : (c : Config) (r b p i : ℕ) (candidate : Option ℕ) (best : Option Sight) (a : Answer) (mine : List Event) (t : Tables) → Stand c r mine t → AtLook c r b mine t.up t.reach p i candidate best → IsPossible c r (look_event r p i a ∷ mine)
    → Stood c r b (look_event r p i a ∷ mine) t (if is_past a then Place.Outrun else after_look c r (look_event r p i a ∷ mine) t p i candidate (larger_sight best (sight_of a)))
look_stands c r b p i candidate best a mine t s at possible =
    let tables = keeps c r (look_event r p i a) mine t s possible refl refl in
    record { tables = tables; at = go (is_past a) refl (ready c r mine (look_event r p i a ∷ mine) t t s possible tables) }
  where
    taught : (x : Bool) → nat_lt i (end_of c r (look_event r p i a ∷ mine)) ≡ x → is_past a ≡ false → Ready c r (look_event r p i a ∷ mine) t
        → StandsAt c r b (look_event r p i a ∷ mine) t (if x then bring_up_from c r (look_event r p i a ∷ mine) t 0 Then.Position else or_else (member_from c r (look_event r p i a ∷ mine) (p + 1)) (λ q. Place.Look q (end_of c r (look_event r p i a ∷ mine)) candidate (larger_sight best (sight_of a))) (pick c r (look_event r p i a ∷ mine) t.written candidate (larger_sight best (sight_of a))))
    taught true more not_past x =
        let level = at.looking.level in
        let grew = ltb-true i (end_of c r (look_event r p i a ∷ mine)) more in
        let position = at.position in
        brought_stand c r b 0 (look_event r p i a ∷ mine) t Then.Position x (leads_kept c r b r (Verb.Look p i) a mine refl level.leads) level.raised
        (clear_above r (end_of c r mine) mine t.up level.leads.unput (λ q member. level.have q (member_within c r q mine (parts_shorten_law c r mine (look_event r p i a) possible).before member) member)) (λ k region member done. absurd (omega (arith, done)))
        (λ k region member. (let low = level.few k region member in (omega (arith, low, grew, position), λ left. omega (arith, low, grew, position)))) (λ is. cc)
    taught false none not_past x =
        let high = ltb-false i (end_of c r (look_event r p i a ∷ mine)) none in
        let position = at.position in
        let same = look_same c r (look_event r p i a) mine (omega (arith, high, position)) in
        looks_stand c r b p (look_event r p i a ∷ mine) t candidate (larger_sight best (sight_of a)) x at.region
        (looking_on c r b p i a mine t.up t.reach candidate best (larger_sight best (sight_of a)) possible at same not_past (entry_larger best (sight_of a) ∙ ap (larger (entry_in best)) (entry_sight a)))

    go : (x : Bool) → is_past a ≡ x → Ready c r (look_event r p i a ∷ mine) t → StandsAt c r b (look_event r p i a ∷ mine) t (if x then Place.Outrun else after_look c r (look_event r p i a ∷ mine) t p i candidate (larger_sight best (sight_of a)))
    go true past x = outrun_by c r p i a mine at.region at.member past at.position
    go false not_past x = taught (nat_lt i (end_of c r (look_event r p i a ∷ mine))) refl not_past x

-- a word of row j
pub word_stands : (c : Config) (r b j last : ℕ) (offer : Offer) (mine : List Event) (old : Tables) → Stand c r mine old → AtWrite c r b mine old.up old.reach old.written j last offer → IsPossible c r (row_event r j (get_or old.written j 12) (config_word c j (get_or old.written j 12)) ∷ mine)
    → Stood c r b (row_event r j (get_or old.written j 12) (config_word c j (get_or old.written j 12)) ∷ mine) (four old.up old.reach old.heads (set old.written j (get_or old.written j 12 + 1)))
    (write_from c r (row_event r j (get_or old.written j 12) (config_word c j (get_or old.written j 12)) ∷ mine) (set old.written j (get_or old.written j 12 + 1)) j last offer)
word_stands c r b j last offer mine old s at possible =
    let k = get_or old.written j 12 in
    let now = row_event r j k (config_word c j k) ∷ mine in
    let t = four old.up old.reach old.heads (set old.written j (k + 1)) in
    let w = at.writing in
    let end = last_there c w.first (rest_of c w.first) s.is w.batch.row refl in
    let inside = at.inside in
    let is_last = w.last_row in
    let tables = word_tables c r j mine old possible (omega (arith, end, inside, is_last)) s.tables in
    record { tables = tables; at = write_stands c r b j last now t offer (ready c r mine now old t s possible tables) (writing_row c r b j k (config_word c j k) j last offer mine old.up old.reach w) }

-- a region was entered for the offer
pub entered_new_stands : (c : Config) (r b p : ℕ) (offer : Offer) (mine : List Event) (t : Tables) → Stand c r mine t → AtEnter c r b offer.value mine t.up t.reach p → LooksShow c r mine (end_of c r mine) offer.adopted → IsPossible c r (enter_event r p (end_of c r mine % c.ring) ∷ mine)
    → Stood c r b (enter_event r p (end_of c r mine % c.ring) ∷ mine) t (Place.Put p offer)
entered_new_stands c r b p offer mine t s at shows possible = record {
  tables = keeps c r (enter_event r p (end_of c r mine % c.ring)) mine t s possible refl refl;
  at = (puts_new c r b offer.value p mine t.up t.reach at, shows_kept c r (end_of c r mine) r (Verb.Enter p (Target.Place (end_of c r mine % c.ring))) Answer.Entered mine offer.adopted refl shows);
}

-- the offer was put at p, and another member is left
pub put_next_stands : (c : Config) (r b p q : ℕ) (offer : Offer) (mine : List Event) (t : Tables) → Stand c r mine t → AtPut c r b offer.value mine t.up t.reach p → LooksShow c r mine (end_of c r mine) offer.adopted → IsPossible c r (put_event r p (end_of c r mine) b offer.value ∷ mine)
    → IsFirst (λ k. is_member r k mine) (p + 1) c.replicas (Some q) → Stood c r b (put_event r p (end_of c r mine) b offer.value ∷ mine) t (Place.Enter q offer)
put_next_stands c r b p q offer mine t s at shows possible first =
    let low = first.0 in
    let now = put_event r p (end_of c r mine) b offer.value ∷ mine in
    let same = known_same c r p q (end_of c r mine) b offer.value mine first.1 first.2 (λ is. (omega (arith, low, is))) (at.entering.offering.above q (omega (arith, low))) in
    record {
      tables = keeps c r (put_event r p (end_of c r mine) b offer.value) mine t s possible refl refl;
      at = (
        enters_next c r b offer.value p q (p + 1) mine t.up t.reach at refl first,
        subst (λ n. LooksShow c r now n offer.adopted) (sym (ap length same)) (shows_kept c r (end_of c r mine) r (Verb.PutSlot p (end_of c r mine) b offer.value) Answer.Done mine offer.adopted refl shows),
      );
    }

-- it was put at the last member: it is committed
pub put_last_stands : (c : Config) (r b p : ℕ) (offer : Offer) (mine : List Event) (old : Tables) → Stand c r mine old → AtPut c r b offer.value mine old.up old.reach p → IsPossible c r (put_event r p (end_of c r mine) b offer.value ∷ mine)
    → IsFirst (λ k. is_member r k mine) (p + 1) c.replicas None → Stood c r b (put_event r p (end_of c r mine) b offer.value ∷ mine) (four (set_where (λ q. is_member r q mine) (end_of c r mine + 1) 0 old.up) old.reach old.heads old.written)
    (Place.Raise (first_member c r (put_event r p (end_of c r mine) b offer.value ∷ mine)))
put_last_stands c r b p offer mine old s at possible none =
    let end = end_of c r mine in
    let now = put_event r p end b offer.value ∷ mine in
    let o = at.entering.offering in
    let few = s.is.replicas.1 in
    let ups = s.tables.ups in
    let up = set_where (λ q. is_member r q mine) (end + 1) 0 old.up in
    let all = took_all c r b offer.value p (p + 1) mine old.up old.reach at refl none in
    let grows = known_more c r b offer.value p mine old.up old.reach o all in
    record {
      tables = commit_tables c r b p offer.value mine old possible o all few s.tables;
      at = raises_first c r b offer.value p (first_member c r now) mine old.up up old.reach at grows (λ q low member. where_so (λ k. is_member r k mine) (end + 1) q old.up (omega (arith, low, few, ups)) member) (first_is c r p now at.entering.region at.entering.member);
    }

-- the FUO of p was raised over what was committed
pub raised_stands : (c : Config) (r b p : ℕ) (mine : List Event) (old : Tables) → Stand c r mine old → AtRaise c r b mine old.up old.reach p → IsPossible c r (raise_event r p (end_of c r mine) ∷ mine)
    → Stood c r b (raise_event r p (end_of c r mine) ∷ mine) (four old.up (fuo_in old.reach p (end_of c r mine)) old.heads old.written)
    (or_else (member_from c r (raise_event r p (end_of c r mine) ∷ mine) (p + 1)) Place.Raise (late_from c r (raise_event r p (end_of c r mine) ∷ mine) old.heads 0))
raised_stands c r b p mine old s at possible =
    let end = end_of c r mine in
    let now = raise_event r p end ∷ mine in
    let region = at.region in
    let few = s.is.replicas.1 in
    let reaches = s.tables.reaches in
    let reach = fuo_in old.reach p end in
    let t = four old.up reach old.heads old.written in
    let tables = raise_tables c r p end mine old possible (omega (arith, region, few)) s.tables in
    let has = at.have p region at.member in
    let now_raised = raised_now p end old.up (get_or old.reach p None) reach (omega (arith, has)) (fuo_heads old.reach p end (omega (arith, region, few, reaches))) in
    record { tables = tables; at = go (member_from c r now (p + 1)) (first_in_is (λ k. is_member r k mine) (p + 1) c.replicas) (ready c r mine now old t s possible tables) now_raised }
  where
    go : (o : Option ℕ) → IsFirst (λ k. is_member r k mine) (p + 1) c.replicas o → Ready c r (raise_event r p (end_of c r mine) ∷ mine) (four old.up (fuo_in old.reach p (end_of c r mine)) old.heads old.written) → IsRaised old.up (fuo_in old.reach p (end_of c r mine)) p
        → StandsAt c r b (raise_event r p (end_of c r mine) ∷ mine) (four old.up (fuo_in old.reach p (end_of c r mine)) old.heads old.written) (or_else o Place.Raise (late_from c r (raise_event r p (end_of c r mine) ∷ mine) old.heads 0))
    go (Some q) first x raised = raises_next c r b p q (p + 1) mine old.up old.reach (fuo_in old.reach p (end_of c r mine)) at (fuo_others old.reach p (end_of c r mine)) raised refl first
    go None none x raised = late_stands c r b 0 (raise_event r p (end_of c r mine) ∷ mine) (four old.up (fuo_in old.reach p (end_of c r mine)) old.heads old.written) x (raised_all c r b p (p + 1) mine old.up old.reach (fuo_in old.reach p (end_of c r mine)) at (fuo_others old.reach p (end_of c r mine)) raised refl none)
