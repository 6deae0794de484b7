-- What a leader keeps while it leads.
use Rattle.std.proofs.Common.{Bool, List, None, Some, [], ap, arith, cond, false, get_or, inl, inr, length, length-append, max, refl, subst, sym, true, true≢false, ℕ, ◌+◌, ◌||◌, ◌∙◌, ◌∷◌, ◌≡◌, ◌≢◌, ◌≤◌}
use Rattle.std.specs.Prelude.{nat_lt}
use Rattle.std.specs.declared.option.Option.{Option}
use Rattle.std.proofs.lemmas.Bool.{cases_eq, le-leb, lt-ltb}
use Rattle.mu_model.specs.declared.config.Config.{Config}
use Rattle.mu_model.specs.declared.event.Answer.{Answer}
use Rattle.mu_model.specs.declared.event.Event.{Event}
use Rattle.mu_model.specs.declared.event.Verb.{Verb}
use Rattle.mu_model.specs.Contents.{row_count}
use Rattle.mu_model.specs.Histories.{has, event_by}
use Rattle.mu_model.specs.Knowledge.{greatest_fuo_read, grown, is_filled, known, learnt_by}
use Rattle.mu_model.specs.Leaderships.{is_member, leadership}
use Rattle.mu_model.specs.Placing.{fuo_read_or_raised, is_known_put, is_within_ring, reaches_head}
use Rattle.mu_model.specs.Room.{reserve}
use Rattle.mu_model.proofs.Basics.{same_number, true_or}
use Rattle.mu_leadership.specs.Leadership.{StandsForLeadership}
use Rattle.mu_leadership.specs.declared.leadership.Leadership.{Leadership}
use Rattle.mu_lead.specs.Stepping.{is_calm}
use Rattle.mu_lead.specs.Leading.{Brought, HasMost, HoldsTables, IsMember, IsRaised, IsReached, Leads, end_of}

-- the known list never gets shorter
pub end_rises : (c : Config) (r : ℕ) (e : Event) (mine : List Event) → end_of c r mine ≤ end_of c r (e ∷ mine)
end_rises c r e mine = go (learnt_by c r mine (length (known c r mine)) e.by e.verb e.answer (e ∷ mine))
  where
    go : (o : Option ℕ) → length (known c r mine) ≤ length (grown (known c r mine) o)
    go None = omega arith
    go (Some v) = let more = length-append (known c r mine) (v ∷ []) in omega arith

-- the leadership goes on by a calm verb
pub leads_kept : (c : Config) (r b by : ℕ) (verb : Verb) (answer : Answer) (mine : List Event) → is_calm verb ≡ true → Leads c r b mine → Leads c r b (event_by by verb answer ∷ mine)
leads_kept c r b by (Verb.Ask p) answer mine calm l = absurd (true≢false (sym calm))
leads_kept c r b by (Verb.Fence p) answer mine calm l = absurd (true≢false (sym calm))
leads_kept c r b by (Verb.Min p) answer mine calm l = absurd (true≢false (sym calm))
leads_kept c r b by (Verb.Enter p t) answer mine calm l = absurd (true≢false (sym calm))
leads_kept c r b by (Verb.PutMin p n) answer mine calm l = absurd (true≢false (sym calm))
leads_kept c r b by (Verb.PutSlot p i n v) answer mine calm l = absurd (true≢false (sym calm))
leads_kept c r b by verb answer mine calm l = record {
  begun = l.begun;
  goes_on = l.goes_on;
  numbered = l.numbered;
  carried = l.carried;
  held = λ q region member. (let h = l.held q region member in record { grant = h.grant; noted = h.noted; joined = h.joined });
  unput = λ i low. l.unput i (let more = end_rises c r (event_by by verb answer) mine in omega (arith, low, more));
}

-- a table in which one place changed
pub tables_up : (c : Config) (r p u : ℕ) (now : List Event) (up up' : List ℕ) (reach : List (Option ℕ)) (heads written : List ℕ) → HoldsTables c r now up reach heads written → length up' ≡ 7 → get_or up' p 0 ≡ u
    → ((q : ℕ) → q ≢ p → get_or up' q 0 ≡ get_or up q 0) → Brought c r now p u → u ≤ row_count c + reserve c + 1 → HoldsTables c r now up' reach heads written
tables_up c r p u now up up' reach heads written t long here others b low = record {
  ups = long;
  reaches = t.reaches;
  all_heads = t.all_heads;
  rows = t.rows;
  brought = λ q. elim (cases_eq q p) [
    | inl same ↦ subst (λ x. Brought c r now x (get_or up' x 0)) (sym same) (subst (λ x. Brought c r now p x) (sym here) b)
    | inr other ↦ subst (λ x. Brought c r now q x) (sym (others q other)) (t.brought q)
  ];
  within = λ q. elim (cases_eq q p) [
    | inl same ↦ subst (λ x. get_or up' x 0 ≤ row_count c + reserve c + 1) (sym same) (subst (λ x. x ≤ row_count c + reserve c + 1) (sym here) low)
    | inr other ↦ subst (λ x. x ≤ row_count c + reserve c + 1) (sym (others q other)) (t.within q)
  ];
  reached = t.reached;
  read = t.read;
  words = t.words;
}

pub tables_reach : (c : Config) (r p : ℕ) (now : List Event) (up : List ℕ) (reach reach' : List (Option ℕ)) (heads written : List ℕ) → HoldsTables c r now up reach heads written → length reach' ≡ 7
    → ((q : ℕ) → q ≢ p → get_or reach' q None ≡ get_or reach q None) → IsReached r now p (get_or reach' p None) → HoldsTables c r now up reach' heads written
tables_reach c r p now up reach reach' heads written t long others here = record {
  ups = t.ups;
  reaches = long;
  all_heads = t.all_heads;
  rows = t.rows;
  brought = t.brought;
  within = t.within;
  reached = λ q. elim (cases_eq q p) [
    | inl same ↦ subst (λ x. IsReached r now x (get_or reach' x None)) (sym same) here
    | inr other ↦ subst (λ x. IsReached r now q x) (sym (others q other)) (t.reached q)
  ];
  read = t.read;
  words = t.words;
}

-- the event of a FUO that was read
abbrev pub fuo_event : ℕ → ℕ → ℕ → Event
fuo_event r p u = event_by r (Verb.Fuo p) (Answer.Number u)

-- below a FUO that was read all is brought
pub brought_read : (c : Config) (r p u : ℕ) (mine : List Event) → Brought c r (fuo_event r p u ∷ mine) p u
brought_read c r p u mine = record {
  caught_up = λ j low. rw (same_number r, same_number p) (true_or (nat_lt j (max u (greatest_fuo_read r p (leadership r mine)))) (has (λ e. is_known_put (known c r mine) r p j e.by e.verb e.answer) (leadership r mine)) (lt-ltb j (max u (greatest_fuo_read r p (leadership r mine))) (omega (arith, low))));
  filled = λ j low. rw (same_number r, same_number p) (true_or (nat_lt j u) (is_filled c r p mine j) (lt-ltb j u low));
}

-- it reaches as far as it is
reached_more : (r p u : ℕ) (mine : List Event) (e : Event) (held reach : Option ℕ) → fuo_read_or_raised r p e.by e.verb e.answer ≡ Some u → leadership r (e ∷ mine) ≡ e ∷ leadership r mine
    → ((i ring : ℕ) → is_within_ring i ring reach ≡ (is_within_ring i ring (Some u) || is_within_ring i ring held)) → IsReached r mine p held → IsReached r (e ∷ mine) p reach
reached_more r p u mine e held reach is goes_on farther old i ring within =
    subst (λ past. has (λ f. is_within_ring i ring (fuo_read_or_raised r p f.by f.verb f.answer)) past ≡ true) (sym goes_on)
    (here_or (is_within_ring i ring (fuo_read_or_raised r p e.by e.verb e.answer)) refl (sym (farther i ring) ∙ within))
  where
    here_or : (t : Bool) → is_within_ring i ring (fuo_read_or_raised r p e.by e.verb e.answer) ≡ t → (is_within_ring i ring (Some u) || is_within_ring i ring held) ≡ true
        → cond t true (has (λ f. is_within_ring i ring (fuo_read_or_raised r p f.by f.verb f.answer)) (leadership r mine)) ≡ true
    here_or true at way = refl
    here_or false at way = old i ring (second (is_within_ring i ring (Some u)) (is_within_ring i ring held) (sym (ap (is_within_ring i ring) is) ∙ at) way)
      where
        second : (a b : Bool) → a ≡ false → (a || b) ≡ true → b ≡ true
        second a b none way = sym (ap (λ x. x || b) none) ∙ way

pub reached_read : (r p u : ℕ) (mine : List Event) (held reach : Option ℕ) → ((i ring : ℕ) → is_within_ring i ring reach ≡ (is_within_ring i ring (Some u) || is_within_ring i ring held)) → IsReached r mine p held → IsReached r (fuo_event r p u ∷ mine) p reach
reached_read r p u mine held reach farther old = reached_more r p u mine (fuo_event r p u) held reach (rw (same_number r, same_number p) refl) refl farther old

-- the event of a FUO that was raised
abbrev pub raise_event : ℕ → ℕ → ℕ → Event
raise_event r p u = event_by r (Verb.RaiseFuo p u) Answer.Done

pub reached_raised : (r p u : ℕ) (mine : List Event) (held reach : Option ℕ) → ((i ring : ℕ) → is_within_ring i ring reach ≡ (is_within_ring i ring (Some u) || is_within_ring i ring held)) → IsReached r mine p held → IsReached r (raise_event r p u ∷ mine) p reach
reached_raised r p u mine held reach farther old = reached_more r p u mine (raise_event r p u) held reach (rw (same_number r, same_number p) refl) refl farther old

-- p is raised as far as the FUO that was added
pub raised_now : (p u : ℕ) (up : List ℕ) (held : Option ℕ) (reach : List (Option ℕ)) → get_or up p 0 ≤ u → ((h : ℕ) → reaches_head h (get_or reach p None) ≡ (reaches_head h (Some u) || reaches_head h held)) → IsRaised up reach p
raised_now p u up held reach low farther = farther (get_or up p 0) ∙ true_or (reaches_head (get_or up p 0) (Some u)) (reaches_head (get_or up p 0) held) (le-leb (get_or up p 0) u low)

-- another region stays raised
pub raised_other : (p q : ℕ) (up up' : List ℕ) (reach reach' : List (Option ℕ)) → q ≢ p → ((k : ℕ) → k ≢ p → get_or up' k 0 ≡ get_or up k 0) → ((k : ℕ) → k ≢ p → get_or reach' k None ≡ get_or reach k None) → IsRaised up reach q → IsRaised up' reach' q
raised_other p q up up' reach reach' other ups reaches is = ap (λ x. reaches_head x (get_or reach' q None)) (ups q other) ∙ ap (reaches_head (get_or up q 0)) (reaches q other) ∙ is

-- the state of leaderships stays by a calm verb
pub leading_calm : (r by : ℕ) (verb : Verb) (answer : Answer) (mine : List Event) (state : Leadership) → is_calm verb ≡ true → StandsForLeadership r mine state → StandsForLeadership r (event_by by verb answer ∷ mine) state
leading_calm r by (Verb.Ask p) answer mine state calm held = absurd (true≢false (sym calm))
leading_calm r by (Verb.Fence p) answer mine state calm held = absurd (true≢false (sym calm))
leading_calm r by (Verb.Min p) answer mine state calm held = absurd (true≢false (sym calm))
leading_calm r by (Verb.Enter p t) answer mine state calm held = absurd (true≢false (sym calm))
leading_calm r by (Verb.PutMin p b) answer mine state calm held = absurd (true≢false (sym calm))
leading_calm r by (Verb.PutSlot p i b v) answer mine state calm held = absurd (true≢false (sym calm))
leading_calm r by verb answer mine state calm held = record {
  replica = held.replica;
  begun = held.begun;
  asked = held.asked;
  over = held.over;
  number = held.number;
  read = held.read;
  put = held.put;
  notes = λ p notes there. (let d = held.notes p notes there in record { noted = d.noted; joined = d.joined; entered = d.entered; opened = d.opened; minimum = d.minimum; has_read = d.has_read; seen = d.seen; foreign = d.foreign });
}

-- a member stays one by a calm verb
pub source_calm : (c : Config) (r by : ℕ) (verb : Verb) (answer : Answer) (mine : List Event) (source : Option ℕ) → is_calm verb ≡ true → IsMember c r mine source → IsMember c r (event_by by verb answer ∷ mine) source
source_calm c r by verb answer mine None calm is = tt
source_calm c r by verb answer mine (Some q) calm is = (is.0, member_calm r q by verb answer mine calm is.1)
  where
    member_calm : (r q by : ℕ) (verb : Verb) (answer : Answer) (mine : List Event) → is_calm verb ≡ true → is_member r q mine ≡ true → is_member r q (event_by by verb answer ∷ mine) ≡ true
    member_calm r q by (Verb.Ask p) answer mine calm is = absurd (true≢false (sym calm))
    member_calm r q by (Verb.PutMin p b) answer mine calm is = absurd (true≢false (sym calm))
    member_calm r q by verb answer mine calm is = is

-- which of the members below p has the most, if the members are the same
pub most_on : (r p : ℕ) (mine now : List Event) (up : List ℕ) (source : Option ℕ) → ((q : ℕ) → is_member r q now ≡ is_member r q mine) → HasMost r mine up p source → HasMost r now up p source
most_on r p mine now up None same few = λ q low. same q ∙ few q low
most_on r p mine now up (Some s) same few = (few.0, λ q low member. few.1 q low (sym (same q) ∙ member))

-- and if only p has another number
pub most_up : (r p : ℕ) (mine : List Event) (up up' : List ℕ) (source : Option ℕ) → ((k : ℕ) → k ≢ p → get_or up' k 0 ≡ get_or up k 0) → HasMost r mine up p source → HasMost r mine up' p source
most_up r p mine up up' None ups few = few
most_up r p mine up up' (Some s) ups few = (
  few.0,
  λ q low member. (let at_q = ups q (λ same. absurd (omega (arith, low, same))) in let at_s = ups s (λ same. (let below = few.0 in absurd (omega (arith, below, same)))) in let less = few.1 q low member in omega (arith, at_q, at_s, less)),
)
