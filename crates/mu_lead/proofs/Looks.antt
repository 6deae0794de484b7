-- Heads that are read, looks at a new position, and the value that is picked.
use Rattle.std.proofs.Common.{Bool, List, None, Some, [], ap, arith, cond, eq-eqb, eqb-true, false, get_or, inl, inr, is_some, length, length-append, refl, suc, subst, sym, true, true≢false, zero, ℕ, ◌%◌, ◌&&◌, ◌*◌, ◌+◌, ◌-◌, ◌/◌, ◌<◌, ◌==◌, ◌||◌, ◌∙◌, ◌∷◌, ◌≡◌, ◌≢◌, ◌≤◌}
use Rattle.std.specs.Prelude.{is_none, nat_lt, not}
use Rattle.std.specs.declared.option.Option.{Option}
use Rattle.std.proofs.lemmas.Bool.{and_from, cases_eq, cases_lt, le-leb, le-ltb, lt-ltb, ltb-false, ltb-true, ne_eqb}
use Rattle.mu_model.specs.declared.config.Config.{Config}
use Rattle.mu_model.specs.declared.event.Answer.{Answer}
use Rattle.mu_model.specs.declared.event.Event.{Event}
use Rattle.mu_model.specs.declared.event.Verb.{Verb}
use Rattle.mu_model.specs.Contents.{IsConfig, begins_batch, client_of, command_count, holds_all, is_batch, is_mark, marked, number_of, row_count}
use Rattle.mu_model.specs.Histories.{all_below, earlier_or, has, oldest, event_by}
use Rattle.mu_model.specs.Knowledge.{grown, is_put_done, known, learnt_by, lands_entry, wrote_batch}
use Rattle.mu_model.specs.Leaderships.{begins_leadership, is_member, leadership}
use Rattle.mu_model.specs.Parts.{IsPossible}
use Rattle.mu_model.specs.Picks.{entry_of, highest_accepted, is_mark_offer, is_offer, is_past, is_past_look, larger, last_look, look_answer, may_pick_at, may_propose, value_put}
use Rattle.mu_model.specs.Points.{AreMet, new_values}
use Rattle.mu_model.specs.Room.{is_mark_candidate, lacks_room, head_read, last_head, reserve}
use Rattle.mu_model.specs.Scores.{is_failed}
use Rattle.mu_model.proofs.Basics.{none_some, or_true, same_number, true_or}
use Rattle.mu_model.proofs.Scans.{all_at, each_all}
use Rattle.mu_agree.proofs.Landings.{has_since}
use Rattle.mu_agree.proofs.Readings.{part_looks_stay_past_law}
use Rattle.mu_lead.specs.declared.place.Sight.{Sight}
use Rattle.mu_lead.specs.Leading.{HoldsTables, Level, end_of}
use Rattle.mu_lead.specs.Offering.{AtEnter, AtLook, IsCandidate, Looked, Looking, MayBeMarked, MayOffer, Roomy, entry_in, has_seen_past, leaves_room}
use Rattle.mu_knowledge.specs.Offers.{IsFirst}
use Rattle.mu_lead.proofs.Bringing.{look_event, looked_now}
use Rattle.mu_lead.proofs.Keeping.{leads_kept}
use Rattle.mu_lead.proofs.Sights.{all_empty}
use Rattle.mu_model.proofs.Putting.{new_met}

-- the event of a head that was read
abbrev pub head_event : ℕ → ℕ → ℕ → Event
head_event r q h = event_by r (Verb.Head q) (Answer.Number h)

pub level_head : (c : Config) (r b q h : ℕ) (mine : List Event) (up : List ℕ) (reach : List (Option ℕ)) → Level c r b mine up reach → Level c r b (head_event r q h ∷ mine) up reach
level_head c r b q h mine up reach l = record { leads = leads_kept c r b r (Verb.Head q) (Answer.Number h) mine refl l.leads; have = l.have; raised = l.raised; few = l.few }

pub marks_head : (c : Config) (r q h : ℕ) (mine : List Event) (candidate : Option ℕ) → MayBeMarked c r mine candidate → MayBeMarked c r (head_event r q h ∷ mine) candidate
marks_head c r q h mine None m = tt
marks_head c r q h mine (Some k) m = record {
  region = m.region;
  other = m.other;
  version = m.version;
  unmarked = m.unmarked;
  stuck = or_true (lacks_room c (end_of c r mine + reserve c) (head_read r k r (Verb.Head q) (Answer.Number h)) && is_failed r k (head_event r q h ∷ mine)) (is_mark_candidate c r k (end_of c r mine + reserve c) mine) m.stuck;
}

head_other : (r q k h : ℕ) (mine : List Event) → q ≢ k → last_head r k (head_event r q h ∷ mine) ≡ last_head r k mine
head_other r q k h mine other = rw (same_number r, ne_eqb q k other) refl

pub head_now : (r q h : ℕ) (mine : List Event) → last_head r q (head_event r q h ∷ mine) ≡ h
head_now r q h mine = rw (same_number r, same_number q) refl

roomy_head : (c : Config) (r q h : ℕ) (mine : List Event) (candidate : Option ℕ) → Roomy c r mine q candidate → Roomy c r (head_event r q h ∷ mine) q candidate
roomy_head c r q h mine candidate l = record {
  within = l.within;
  lacks = l.lacks;
  room = λ k low. subst (λ x. (marked c k (known c r mine) || nat_lt (end_of c r mine + 0) (x + c.ring)) ≡ true) (sym (head_other r q k h mine (λ e. absurd (omega (arith, low, e))))) (l.room k low);
  free = λ none k low. subst (λ x. (marked c k (known c r mine) || nat_lt (end_of c r mine + reserve c) (x + c.ring)) ≡ true) (sym (head_other r q k h mine (λ e. absurd (omega (arith, low, e))))) (l.free none k low);
  marks = marks_head c r q h mine candidate l.marks;
}

room_of : (m : Bool) (x y : ℕ) → nat_lt x y ≡ true → (m || nat_lt x y) ≡ true
room_of m x y is = or_true m (nat_lt x y) is

less_of : (i free h : ℕ) → nat_lt (i + free) h ≡ true → nat_lt (i + 0) h ≡ true
less_of i free h is = lt-ltb (i + 0) h (let low = ltb-true (i + free) h is in omega (arith, low))

-- the head leaves room with the reserve
pub roomy_read : (c : Config) (r q h from : ℕ) (mine : List Event) (candidate : Option ℕ) → from ≡ q + 1 → Roomy c r mine q candidate → nat_lt (end_of c r mine + reserve c) (h + c.ring) ≡ true → Roomy c r (head_event r q h ∷ mine) from candidate
roomy_read c r q h from mine candidate is l high =
    let on = roomy_head c r q h mine candidate l in
    record {
      within = on.within;
      lacks = on.lacks;
      room = λ k low. elim (cases_eq k q) [
        | inl same ↦ subst (λ x. leaves_room c r (head_event r q h ∷ mine) (end_of c r mine) 0 x ≡ true) (sym same) (subst (λ x. (marked c q (known c r mine) || nat_lt (end_of c r mine + 0) (x + c.ring)) ≡ true) (sym (head_now r q h mine)) (room_of (marked c q (known c r mine)) (end_of c r mine + 0) (h + c.ring) (less_of (end_of c r mine) (reserve c) (h + c.ring) high)))
        | inr other ↦ on.room k (omega (arith, low, is, other))
      ];
      free = λ none k low. elim (cases_eq k q) [
        | inl same ↦ subst (λ x. leaves_room c r (head_event r q h ∷ mine) (end_of c r mine) (reserve c) x ≡ true) (sym same) (subst (λ x. (marked c q (known c r mine) || nat_lt (end_of c r mine + reserve c) (x + c.ring)) ≡ true) (sym (head_now r q h mine)) (room_of (marked c q (known c r mine)) (end_of c r mine + reserve c) (h + c.ring) high))
        | inr other ↦ on.free none k (omega (arith, low, is, other))
      ];
      marks = on.marks;
    }

-- the head leaves room, but for the reserve, and its replica may be marked
pub roomy_marked : (c : Config) (r q h from k : ℕ) (mine : List Event) (candidate : Option ℕ) → from ≡ q + 1 → Roomy c r mine q candidate → nat_lt (end_of c r mine + 0) (h + c.ring) ≡ true → MayBeMarked c r (head_event r q h ∷ mine) (Some k) → Roomy c r (head_event r q h ∷ mine) from (Some k)
roomy_marked c r q h from k mine candidate is l high marks =
    let on = roomy_head c r q h mine candidate l in
    record {
      within = on.within;
      lacks = on.lacks;
      room = λ j low. elim (cases_eq j q) [
        | inl same ↦ subst (λ x. leaves_room c r (head_event r q h ∷ mine) (end_of c r mine) 0 x ≡ true) (sym same) (subst (λ x. (marked c q (known c r mine) || nat_lt (end_of c r mine + 0) (x + c.ring)) ≡ true) (sym (head_now r q h mine)) (room_of (marked c q (known c r mine)) (end_of c r mine + 0) (h + c.ring) high))
        | inr other ↦ on.room j (omega (arith, low, is, other))
      ];
      free = λ none. absurd (none_some k (sym none));
      marks = marks;
    }

version_of : (c : Config) (i h : ℕ) → nat_lt (i + reserve c) h ≡ false → nat_lt (i + 0) h ≡ true → c.version ≡ 2
version_of c i h low high = go (c.version == 2) refl
  where
    go : (t : Bool) → (c.version == 2) ≡ t → c.version ≡ 2
    go true is = eqb-true c.version 2 is
    go false is = absurd (true≢false (sym high ∙ subst (λ x. nat_lt (i + x) h ≡ false) (none is) low))
      where
        none : (c.version == 2) ≡ false → reserve c ≡ 0
        none is = rw is refl

-- a failed replica whose head lacks room may be marked
pub marks_now : (c : Config) (r q h : ℕ) (mine : List Event) → q < c.replicas → q ≢ r → marked c q (known c r mine) ≡ false → is_failed r q mine ≡ true → nat_lt (end_of c r mine + reserve c) (h + c.ring) ≡ false → nat_lt (end_of c r mine + 0) (h + c.ring) ≡ true
    → IsCandidate c r (head_event r q h ∷ mine) q
marks_now c r q h mine region other unmarked failed low high = record {
  region = region;
  other = other;
  version = version_of c (end_of c r mine) (h + c.ring) low high;
  unmarked = unmarked;
  stuck = true_or (lacks_room c (end_of c r mine + reserve c) (head_read r q r (Verb.Head q) (Answer.Number h)) && is_failed r q (head_event r q h ∷ mine)) (is_mark_candidate c r q (end_of c r mine + reserve c) mine)
      (and_from (lacks_room c (end_of c r mine + reserve c) (head_read r q r (Verb.Head q) (Answer.Number h))) (is_failed r q mine)
      (rw (same_number r, same_number q) (le-leb (h + c.ring) (end_of c r mine + reserve c) (ltb-false (end_of c r mine + reserve c) (h + c.ring) low))) failed);
}

-- a table of heads in which one changed
pub tables_head : (c : Config) (r q h : ℕ) (now : List Event) (up : List ℕ) (reach : List (Option ℕ)) (heads heads' written : List ℕ) → HoldsTables c r now up reach heads written → length heads' ≡ 7 → get_or heads' q 0 ≡ h
    → ((k : ℕ) → k ≢ q → get_or heads' k 0 ≡ get_or heads k 0) → h ≤ last_head r q now → HoldsTables c r now up reach heads' written
tables_head c r q h now up reach heads heads' written t long here others low = record {
  ups = t.ups;
  reaches = t.reaches;
  all_heads = long;
  rows = t.rows;
  brought = t.brought;
  within = t.within;
  reached = t.reached;
  read = λ k. elim (cases_eq k q) [
    | inl same ↦ subst (λ x. get_or heads' x 0 ≤ last_head r x now) (sym same) (omega (arith, here, low))
    | inr other ↦ subst (λ x. x ≤ last_head r k now) (sym (others k other)) (t.read k)
  ];
  words = t.words;
}

-- if the list got no longer, it is the same
pub look_same : (c : Config) (r : ℕ) (e : Event) (mine : List Event) → end_of c r (e ∷ mine) ≤ end_of c r mine → known c r (e ∷ mine) ≡ known c r mine
look_same c r e mine low = go (learnt_by c r mine (length (known c r mine)) e.by e.verb e.answer (e ∷ mine)) low
  where
    go : (o : Option ℕ) → length (grown (known c r mine) o) ≤ length (known c r mine) → grown (known c r mine) o ≡ known c r mine
    go None low = refl
    go (Some v) low = absurd (let more = length-append (known c r mine) (v ∷ []) in omega (arith, more, low))

pub level_looked : (c : Config) (r b p i : ℕ) (a : Answer) (mine : List Event) (up : List ℕ) (reach : List (Option ℕ)) → known c r (look_event r p i a ∷ mine) ≡ known c r mine → Level c r b mine up reach → Level c r b (look_event r p i a ∷ mine) up reach
level_looked c r b p i a mine up reach same l = record {
  leads = leads_kept c r b r (Verb.Look p i) a mine refl l.leads;
  have = λ k region member. subst (λ values. length values ≤ get_or up k 0) (sym same) (l.have k region member);
  raised = l.raised;
  few = λ k region member. subst (λ values. get_or up k 0 ≤ length values) (sym same) (l.few k region member);
}

marks_looked : (c : Config) (r p i : ℕ) (a : Answer) (mine : List Event) (candidate : Option ℕ) → known c r (look_event r p i a ∷ mine) ≡ known c r mine → MayBeMarked c r mine candidate → MayBeMarked c r (look_event r p i a ∷ mine) candidate
marks_looked c r p i a mine None same m = tt
marks_looked c r p i a mine (Some k) same m = record {
  region = m.region;
  other = m.other;
  version = m.version;
  unmarked = subst (λ values. marked c k values ≡ false) (sym same) m.unmarked;
  stuck = subst (λ values. is_mark_candidate c r k (length values + reserve c) mine ≡ true) (sym same) m.stuck;
}

pub roomy_looked : (c : Config) (r p i n : ℕ) (a : Answer) (mine : List Event) (candidate : Option ℕ) → known c r (look_event r p i a ∷ mine) ≡ known c r mine → Roomy c r mine n candidate → Roomy c r (look_event r p i a ∷ mine) n candidate
roomy_looked c r p i n a mine candidate same l = record {
  within = subst (λ values. length values < row_count c + reserve c) (sym same) l.within;
  lacks = subst (λ values. holds_all c values ≡ false) (sym same) l.lacks;
  room = λ k low. subst (λ values. (marked c k values || nat_lt (length values + 0) (last_head r k mine + c.ring)) ≡ true) (sym same) (l.room k low);
  free = λ none k low. subst (λ values. (marked c k values || nat_lt (length values + reserve c) (last_head r k mine + c.ring)) ≡ true) (sym same) (l.free none k low);
  marks = marks_looked c r p i a mine candidate same l.marks;
}

last_now : (r p i : ℕ) (a : Answer) (mine : List Event) → last_look r p i (look_event r p i a ∷ mine) ≡ Some a
last_now r p i a mine = rw (same_number r, same_number p, same_number i) refl

last_other : (r p q i : ℕ) (a : Answer) (mine : List Event) → p ≢ q → last_look r q i (look_event r p i a ∷ mine) ≡ last_look r q i mine
last_other r p q i a mine other = rw (same_number r, ne_eqb p q other) refl

-- what the members below k showed isn't changed by a look at p, if k is at most p
shows_other : (r p i k : ℕ) (a : Answer) (mine : List Event) → k ≤ p → highest_accepted r i (look_event r p i a ∷ mine) k ≡ highest_accepted r i mine k
shows_other r p i zero a mine low = refl
shows_other r p i (suc k) a mine low =
    let before = shows_other r p i k a mine (omega (arith, low)) in
    let last = last_other r p k i a mine (λ e. absurd (omega (arith, low, e))) in
    ap (λ x. larger x (cond (is_member r k mine) (entry_of (last_look r k i (look_event r p i a ∷ mine))) None)) before ∙ ap (λ x. larger (highest_accepted r i mine k) (cond (is_member r k mine) (entry_of x) None)) last

shows_now : (r p i : ℕ) (a : Answer) (mine : List Event) → is_member r p mine ≡ true → highest_accepted r i (look_event r p i a ∷ mine) (suc p) ≡ larger (highest_accepted r i mine p) (entry_of (Some a))
shows_now r p i a mine member =
    ap (λ x. larger x (cond (is_member r p mine) (entry_of (last_look r p i (look_event r p i a ∷ mine))) None)) (shows_other r p i p a mine (omega arith))
    ∙ ap (λ t. larger (highest_accepted r i mine p) (cond t (entry_of (last_look r p i (look_event r p i a ∷ mine))) None)) member
    ∙ ap (λ x. larger (highest_accepted r i mine p) (entry_of x)) (last_now r p i a mine)

larger_none : (o : Option (ℕ × ℕ)) → larger o None ≡ o
larger_none None = refl
larger_none (Some x) = refl

-- regions that are no members show nothing
shows_to : (r i d k : ℕ) (mine : List Event) → ((j : ℕ) → k ≤ j → j < k + d → is_member r j mine ≡ false) → highest_accepted r i mine (k + d) ≡ highest_accepted r i mine k
shows_to r i zero k mine none = let same : k + 0 ≡ k = omega arith in subst (λ x. highest_accepted r i mine x ≡ highest_accepted r i mine k) (sym same) refl
shows_to r i (suc d) k mine none =
    let same : k + suc d ≡ suc (k + d) = omega arith in
    subst (λ x. highest_accepted r i mine x ≡ highest_accepted r i mine k) (sym same)
    (ap (λ t. larger (highest_accepted r i mine (k + d)) (cond t (entry_of (last_look r (k + d) i mine)) None)) (none (k + d) (omega arith) (omega arith)) ∙ larger_none (highest_accepted r i mine (k + d)) ∙ shows_to r i d k mine (λ j more low. none j more (omega (arith, low))))

looked_here : (c : Config) (r p i : ℕ) (a : Answer) (mine : List Event) → IsPossible c r (look_event r p i a ∷ mine) → is_member r p mine ≡ true → is_past a ≡ false → has_seen_past r p i (leadership r mine) ≡ false → Looked c r i (look_event r p i a ∷ mine) p
looked_here c r p i a mine possible member not_past clear = record {
  good = looked_now c r p i a mine member not_past;
  last = ap is_some (last_now r p i a mine);
  clear = rw (same_number r, same_number p, same_number i, not_past) clear;
  empty = λ none. (let empty = sym (ap entry_of (last_now r p i a mine)) ∙ none in rw (same_number r, same_number p, same_number i, empty, not_past) (all_empty c r p i a mine possible not_past empty));
}

looked_other : (c : Config) (r p q i : ℕ) (a : Answer) (mine : List Event) → is_member r q mine ≡ true → p ≢ q → Looked c r i mine q → Looked c r i (look_event r p i a ∷ mine) q
looked_other c r p q i a mine member other l = record {
  good = rw (member, same_number r, ne_eqb p q other) l.good;
  last = ap is_some (last_other r p q i a mine other) ∙ l.last;
  clear = rw (same_number r, ne_eqb p q other) l.clear;
  empty = λ none. rw (same_number r, ne_eqb p q other) (l.empty (sym (ap entry_of (last_other r p q i a mine other)) ∙ none));
}

-- a look that isn't past comes after none that was
never_past : (c : Config) (r p i : ℕ) (a : Answer) (mine : List Event) → IsPossible c r (look_event r p i a ∷ mine) → is_past a ≡ false → has_seen_past r p i (leadership r mine) ≡ false
never_past c r p i a mine possible not_past = go (has_seen_past r p i (leadership r mine)) refl
  where
    go : (t : Bool) → has_seen_past r p i (leadership r mine) ≡ t → has_seen_past r p i (leadership r mine) ≡ false
    go false is = is
    go true is =
        let seen = has_since (λ e. is_past_look (look_answer r p i e.by e.verb e.answer)) (begins_leadership r) mine is in
        let answer = part_looks_stay_past_law c r p i mine (look_event r p i a) possible refl seen in
        absurd (true≢false (sym (ap is_past answer) ∙ not_past))

-- p was looked at as well
pub looking_on : (c : Config) (r b p i : ℕ) (a : Answer) (mine : List Event) (up : List ℕ) (reach : List (Option ℕ)) (candidate : Option ℕ) (best best' : Option Sight) → IsPossible c r (look_event r p i a ∷ mine) → AtLook c r b mine up reach p i candidate best
    → known c r (look_event r p i a ∷ mine) ≡ known c r mine → is_past a ≡ false → entry_in best' ≡ larger (entry_in best) (entry_of (Some a)) → Looking c r b (look_event r p i a ∷ mine) up reach (p + 1) candidate best'
looking_on c r b p i a mine up reach candidate best best' possible at same not_past is =
    let l = at.looking in
    let clear = never_past c r p i a mine possible not_past in
    let here : i ≡ end_of c r (look_event r p i a ∷ mine) = at.position ∙ sym (ap length same) in
    record {
      level = level_looked c r b p i a mine up reach same l.level;
      roomy = roomy_looked c r p i c.replicas a mine candidate same l.roomy;
      looked = λ q low member. subst (λ x. Looked c r x (look_event r p i a ∷ mine) q) here (elim (cases_eq q p) [
        | inl e ↦ subst (λ x. Looked c r i (look_event r p i a ∷ mine) x) (sym e) (looked_here c r p i a mine possible at.member not_past clear)
        | inr other ↦ looked_other c r p q i a mine member (λ e. other (sym e)) (subst (λ x. Looked c r x mine q) (sym at.position) (l.looked q (omega (arith, low, other)) member))
      ]);
      shows = subst (λ x. highest_accepted r x (look_event r p i a ∷ mine) (p + 1) ≡ entry_in best') here (subst (λ x. highest_accepted r i (look_event r p i a ∷ mine) x ≡ entry_in best') (let one : suc p ≡ p + 1 = omega arith in one)
          (shows_now r p i a mine at.member ∙ ap (λ x. larger x (entry_of (Some a))) (subst (λ x. highest_accepted r x mine p ≡ entry_in best) (sym at.position) l.shows) ∙ sym is));
    }

-- up to the next member
pub looking_to : (c : Config) (r b p q : ℕ) (mine : List Event) (up : List ℕ) (reach : List (Option ℕ)) (candidate : Option ℕ) (best : Option Sight) → p ≤ q → ((k : ℕ) → p ≤ k → k < q → is_member r k mine ≡ false) → Looking c r b mine up reach p candidate best → Looking c r b mine up reach q candidate best
looking_to c r b p q mine up reach candidate best low none l = record {
  level = l.level;
  roomy = l.roomy;
  looked = λ k less member. elim (cases_lt k p) [ inl below ↦ l.looked k below member | inr above ↦ absurd (true≢false (sym member ∙ none k above less)) ];
  shows = subst (λ x. highest_accepted r (end_of c r mine) mine x ≡ entry_in best) (let all : p + (q - p) ≡ q = omega (arith, low) in all)
      (shows_to r (end_of c r mine) (q - p) p mine (λ j more less. none j more (omega (arith, low, less))) ∙ l.shows);
}

seen_at : (m n : Bool) → (m ≡ true → n ≡ false) → not (m && n) ≡ true
seen_at true n h = ap not (h refl)
seen_at false n h = refl

pub either_way : (m n : Bool) → (m ≡ true → n ≡ true) → (not m || n) ≡ true
either_way true n h = h refl
either_way false n h = refl

-- the value that is picked may be put
pub new_picked : (c : Config) (r b v : ℕ) (mine : List Event) (up : List ℕ) (reach : List (Option ℕ)) (candidate : Option ℕ) (best : Option Sight) → Looking c r b mine up reach c.replicas candidate best → MayOffer c r mine candidate v → AreMet c r mine (new_values c r mine (end_of c r mine) v)
new_picked c r b v mine up reach candidate best l may =
    let i = end_of c r mine in
    (new_met c r mine i v).1 record {
      next = refl;
      room = each_all c.replicas (leaves_room c r mine i 0) (λ k low. l.roomy.room k low);
      reserve_kept = λ fresh. each_all c.replicas (leaves_room c r mine i (reserve c)) (λ k low. l.roomy.free (may.fresh fresh) k low);
      none_past = each_all c.replicas (λ q. not (is_member r q mine && has_seen_past r q i (leadership r mine))) (λ q low. seen_at (is_member r q mine) (has_seen_past r q i (leadership r mine)) (λ member. (l.looked q low member).clear));
      value = subst (λ o. may_propose c r mine i v o ≡ true) (sym (l.level.leads.unput i (omega arith)))
          (and_from (all_below c.replicas (λ q. not (is_member r q mine) || is_some (last_look r q i mine))) (may_pick_at c r mine i v)
          (each_all c.replicas (λ q. not (is_member r q mine) || is_some (last_look r q i mine)) (λ q low. either_way (is_member r q mine) (is_some (last_look r q i mine)) (λ member. (l.looked q low member).last))) may.picked);
    }

pub earlier_none : (o x : Option ℕ) → earlier_or o x ≡ None → x ≡ None
earlier_none None x is = is
earlier_none (Some y) None is = absurd (none_some y (sym is))
earlier_none (Some y) (Some z) is = absurd (none_some z (sym is))

earlier_some : (x : ℕ) (o : Option ℕ) → earlier_or (Some x) o ≡ None → ⊥
earlier_some x None is = none_some x (sym is)
earlier_some x (Some y) is = none_some y (sym is)

-- if nothing was put no region took anything
took_none : (r q i b v : ℕ) (events : List Event) → oldest (λ e. value_put r i e.by e.verb) events ≡ None → has (lands_entry r q i b v) events ≡ false
took_none r q i b v [] is = refl
took_none r q i b v (e ∷ events) is = go e.by e.verb e.answer is (took_none r q i b v events (earlier_none (value_put r i e.by e.verb) (oldest (λ f. value_put r i f.by f.verb) events) is))
  where
    go : (by : ℕ) (verb : Verb) (answer : Answer) → earlier_or (value_put r i by verb) (oldest (λ f. value_put r i f.by f.verb) events) ≡ None → has (lands_entry r q i b v) events ≡ false
        → cond (is_put_done r q i b v by verb answer) true (has (lands_entry r q i b v) events) ≡ false
    go by (Verb.PutSlot p j n x) Answer.Done is before = by_test (by == r) (p == q) (j == i) is
      where
        by_test : (s t u : Bool) → earlier_or (cond (s && u) (Some x) None) (oldest (λ f. value_put r i f.by f.verb) events) ≡ None
            → cond (s && (t && (u && ((n == b) && (x == v))))) true (has (lands_entry r q i b v) events) ≡ false
        by_test true true true is = absurd (earlier_some x (oldest (λ f. value_put r i f.by f.verb) events) is)
        by_test true true false is = before
        by_test true false u is = before
        by_test false t u is = before
    go by verb answer is before = before

-- the first member is entered for the value
pub enters_new : (c : Config) (r b v first : ℕ) (mine : List Event) (up : List ℕ) (reach : List (Option ℕ)) (candidate : Option ℕ) (best : Option Sight) → Looking c r b mine up reach c.replicas candidate best → MayOffer c r mine candidate v
    → IsFirst (λ k. is_member r k mine) 0 c.replicas (Some first) → AtEnter c r b v mine up reach first
enters_new c r b v first mine up reach candidate best l may is =
    let leads = l.level.leads in
    record {
      region = is.1;
      member = is.2;
      offering = record {
        begun = leads.begun;
        goes_on = leads.goes_on;
        numbered = leads.numbered;
        carried = leads.carried;
        held = leads.held;
        have = l.level.have;
        raised = l.level.raised;
        few = l.level.few;
        within = (let low = l.roomy.within in omega (arith, low));
        new = new_picked c r b v mine up reach candidate best l may;
        below = λ q low member. absurd (true≢false (sym member ∙ is.3 q (omega arith) low));
        above = λ q more. took_none r q (end_of c r mine) b v (leadership r mine) (leads.unput (end_of c r mine) (omega arith));
        unput = λ i more. leads.unput i (omega (arith, more));
      };
      looked = λ q more region member. (l.looked q region member).good;
    }

-- the entry of the largest number may be offered
pub may_adopt : (c : Config) (r b n : ℕ) (sight : Sight) (mine : List Event) (up : List ℕ) (reach : List (Option ℕ)) (candidate : Option ℕ) → Looking c r b mine up reach c.replicas candidate (Some sight) → MayOffer c r mine candidate sight.value
may_adopt c r b n sight mine up reach candidate l = record {
  picked = rw l.shows (same_number sight.value);
  fresh = λ is. absurd (true≢false (sym is ∙ rw l.shows (and_none (is_batch c sight.value))));
}
  where
    and_none : (t : Bool) → (t && false) ≡ false
    and_none true = refl
    and_none false = refl

all_fail : (n q : ℕ) (f : ℕ → Bool) → q < n → f q ≡ false → not (all_below n f) ≡ true
all_fail n q f low fails = go (all_below n f) refl
  where
    go : (t : Bool) → all_below n f ≡ t → not t ≡ true
    go true is = absurd (true≢false (sym (all_at n f is q low) ∙ fails))
    go false is = refl

pub four : (a b d e : Bool) → a ≡ true → b ≡ true → d ≡ true → e ≡ true → (a && (b && (d && e))) ≡ true
four a b d e h k l m = rw (h, k, l, m) refl

-- a mark of the candidate may be offered
pub may_mark_it : (c : Config) (r b q v : ℕ) (mine : List Event) (up : List ℕ) (reach : List (Option ℕ)) → IsConfig c → r < c.replicas → Looking c r b mine up reach c.replicas (Some q) None → v ≡ r * 4096 + (4080 + q) → MayOffer c r mine (Some q) v
may_mark_it c r b q v mine up reach config own l is =
    let few = config.replicas.1 in
    let d = l.roomy.marks in
    let region = d.region in
    let high : v / 4096 ≡ r = omega (arith, is, region, few) in
    let low : v % 4096 ≡ 4080 + q = omega (arith, is, region, few) in
    let rows = config.few in
    record {
      picked = rw l.shows (or_true (is_offer c r mine v) (is_mark_offer c r mine v)
          (and_from (v / 4096 == r) (not (all_below c.replicas (λ k. not (is_mark c k v && (not (k == r) && (not (marked c k (known c r mine)) && is_mark_candidate c r k (end_of c r mine + reserve c) mine)))))) (eq-eqb (v / 4096) r high)
          (all_fail c.replicas q (λ k. not (is_mark c k v && (not (k == r) && (not (marked c k (known c r mine)) && is_mark_candidate c r k (end_of c r mine + reserve c) mine)))) region
          (ap not (four (is_mark c q v) (not (q == r)) (not (marked c q (known c r mine))) (is_mark_candidate c r q (end_of c r mine + reserve c) mine)
          (four (nat_lt (v / 4096) c.replicas) (c.version == 2) (nat_lt q c.replicas) (v % 4096 == 4080 + q) (lt-ltb (v / 4096) c.replicas (omega (arith, high, own))) (eq-eqb c.version 2 d.version) (lt-ltb q c.replicas region) (eq-eqb (v % 4096) (4080 + q) low))
          (ap not (ne_eqb q r d.other)) (ap not d.unmarked) d.stuck)))));
      fresh = λ is_fresh. absurd (true≢false (sym is_fresh ∙ no_batch (nat_lt (v / 4096) c.replicas) (begins_batch c (v % 4096)) (is_none (highest_accepted r (end_of c r mine) mine c.replicas)) (le-ltb (v % 4096) (row_count c) (omega (arith, low, rows)))));
    }
  where
    no_batch : (a b d : Bool) → nat_lt (v % 4096) (row_count c) ≡ false → ((a && (nat_lt (v % 4096) (row_count c) && b)) && d) ≡ false
    no_batch true b d none = rw none refl
    no_batch false b d none = refl

-- an own batch may be offered
pub may_offer_own : (c : Config) (r b j v : ℕ) (mine : List Event) (up : List ℕ) (reach : List (Option ℕ)) → IsConfig c → r < c.replicas → Looking c r b mine up reach c.replicas None None → v ≡ r * 4096 + j → is_batch c v ≡ true → j < row_count c
    → wrote_batch c r j mine ≡ true → number_of c j ≡ command_count c (client_of c j) (known c r mine) + 1 → MayOffer c r mine None v
may_offer_own c r b j v mine up reach config own l is batch row wrote_all next =
    let rows = config.few in
    let few = config.replicas.1 in
    let high : v / 4096 ≡ r = omega (arith, is, row, rows) in
    let low : v % 4096 ≡ j = omega (arith, is, row, rows) in
    record {
      picked = rw l.shows (true_or (is_offer c r mine v) (is_mark_offer c r mine v)
          (four (is_batch c v) (v / 4096 == r) (wrote_batch c r (v % 4096) mine) (number_of c (v % 4096) == command_count c (client_of c (v % 4096)) (known c r mine) + 1)
          batch (eq-eqb (v / 4096) r high) (subst (λ x. wrote_batch c r x mine ≡ true) (sym low) wrote_all)
          (eq-eqb (number_of c (v % 4096)) (command_count c (client_of c (v % 4096)) (known c r mine) + 1) (subst (λ x. number_of c x ≡ command_count c (client_of c x) (known c r mine) + 1) (sym low) next))));
      fresh = λ fresh. refl;
    }
