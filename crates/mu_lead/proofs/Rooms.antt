-- Heads that leave room, and who may be marked.
use Rattle.std.proofs.Common.{Bool, List, None, Some, arith, false, get_or, inl, inr, refl, suc, sym, true, true≢false, zero, ℕ, ◌+◌, ◌<◌, ◌||◌, ◌∙◌, ◌≡◌, ◌≤◌}
use Rattle.std.specs.Prelude.{nat_lt, not}
use Rattle.std.specs.declared.option.Option.{Option}
use Rattle.std.proofs.lemmas.Bool.{cases_lt, ltb-true, lt-ltb, not-true, not-false}
use Rattle.mu_model.specs.declared.config.Config.{Config}
use Rattle.mu_model.specs.declared.event.Event.{Event}
use Rattle.mu_model.specs.Contents.{holds_all, marked, row_count}
use Rattle.mu_model.specs.Knowledge.{known}
use Rattle.mu_model.specs.Leaderships.{is_member}
use Rattle.mu_model.specs.Picks.{highest_accepted}
use Rattle.mu_model.specs.Room.{last_head, reserve}
use Rattle.mu_lead.specs.Leading.{Level, end_of}
use Rattle.mu_lead.specs.Offering.{AtLook, AtReadHead, Roomy, leaves_room}
use Rattle.mu_knowledge.specs.Offers.{IsFirst}

-- the heads are read from the first replica on
pub roomy_first : (c : Config) (r : ℕ) (mine : List Event) → end_of c r mine < row_count c + reserve c → holds_all c (known c r mine) ≡ false → Roomy c r mine 0 None
roomy_first c r mine within lacks = record {
  within = within;
  lacks = lacks;
  room = λ k low. absurd (omega arith);
  free = λ none k low. absurd (omega arith);
  marks = tt;
}

pub higher : (m : Bool) (i free head last ring : ℕ) → head ≤ last → (m || nat_lt (i + free) (head + ring)) ≡ true → (m || nat_lt (i + free) (last + ring)) ≡ true
higher true i free head last ring low is = refl
higher false i free head last ring low is = lt-ltb (i + free) (last + ring) (let h = ltb-true (i + free) (head + ring) is in omega (arith, h, low))

less_free : (m : Bool) (i free head ring : ℕ) → (m || nat_lt (i + free) (head + ring)) ≡ true → (m || nat_lt (i + 0) (head + ring)) ≡ true
less_free true i free head ring is = refl
less_free false i free head ring is = lt-ltb (i + 0) (head + ring) (let h = ltb-true (i + free) (head + ring) is in omega (arith, h))

-- up to the next low head, all leave room
pub roomy_to : (c : Config) (r q p : ℕ) (mine : List Event) (heads : List ℕ) (candidate : Option ℕ) → ((k : ℕ) → get_or heads k 0 ≤ last_head r k mine) → Roomy c r mine q candidate
    → ((k : ℕ) → q ≤ k → k < p → not (marked c k (known c r mine) || nat_lt (end_of c r mine + reserve c) (get_or heads k 0 + c.ring)) ≡ false) → Roomy c r mine p candidate
roomy_to c r q p mine heads candidate lows roomy none = record {
  within = roomy.within;
  lacks = roomy.lacks;
  room = λ k low. elim (cases_lt k q) [
    | inl less ↦ roomy.room k less
    | inr more ↦ less_free (marked c k (known c r mine)) (end_of c r mine) (reserve c) (last_head r k mine) c.ring (all k more low)
  ];
  free = λ is k low. elim (cases_lt k q) [ inl less ↦ roomy.free is k less | inr more ↦ all k more low ];
  marks = roomy.marks;
}
  where
    all : (k : ℕ) → q ≤ k → k < p → leaves_room c r mine (end_of c r mine) (reserve c) k ≡ true
    all k more low = higher (marked c k (known c r mine)) (end_of c r mine) (reserve c) (get_or heads k 0) (last_head r k mine) c.ring (lows k)
        (not-false (marked c k (known c r mine) || nat_lt (end_of c r mine + reserve c) (get_or heads k 0 + c.ring)) (none k more low))

-- the next low head is read
pub reads_head : (c : Config) (r b q p : ℕ) (mine : List Event) (up : List ℕ) (reach : List (Option ℕ)) (heads : List ℕ) (candidate : Option ℕ) → ((k : ℕ) → get_or heads k 0 ≤ last_head r k mine) → Level c r b mine up reach → Roomy c r mine q candidate
    → IsFirst (λ k. not (marked c k (known c r mine) || nat_lt (end_of c r mine + reserve c) (get_or heads k 0 + c.ring))) q c.replicas (Some p) → AtReadHead c r b mine up reach p candidate
reads_head c r b q p mine up reach heads candidate lows level roomy first = record {
  region = first.1;
  unmarked = left (marked c p (known c r mine)) (nat_lt (end_of c r mine + reserve c) (get_or heads p 0 + c.ring)) (not-true (marked c p (known c r mine) || nat_lt (end_of c r mine + reserve c) (get_or heads p 0 + c.ring)) first.2);
  level = level;
  roomy = roomy_to c r q p mine heads candidate lows roomy first.3;
}
  where
    left : (x y : Bool) → (x || y) ≡ false → x ≡ false
    left true y is = absurd (true≢false is)
    left false y is = refl

-- the first member is looked at
pub looks_first : (c : Config) (r b q p i : ℕ) (mine : List Event) (up : List ℕ) (reach : List (Option ℕ)) (heads : List ℕ) (candidate : Option ℕ) → ((k : ℕ) → get_or heads k 0 ≤ last_head r k mine) → Level c r b mine up reach → Roomy c r mine q candidate
    → IsFirst (λ k. not (marked c k (known c r mine) || nat_lt (end_of c r mine + reserve c) (get_or heads k 0 + c.ring))) q c.replicas None → IsFirst (λ k. is_member r k mine) 0 c.replicas (Some p) → i ≡ end_of c r mine → AtLook c r b mine up reach p i candidate None
looks_first c r b q p i mine up reach heads candidate lows level roomy none first here = record {
  region = first.1;
  member = first.2;
  position = here;
  looking = record {
    level = level;
    roomy = roomy_to c r q c.replicas mine heads candidate lows roomy none;
    looked = λ k low member. absurd (true≢false (sym member ∙ first.3 k (omega arith) low));
    shows = shows_nothing p (λ k low. first.3 k (omega arith) low);
  };
}
  where
    shows_nothing : (k : ℕ) → ((j : ℕ) → j < k → is_member r j mine ≡ false) → highest_accepted r (end_of c r mine) mine k ≡ None
    shows_nothing zero none = refl
    shows_nothing (suc k) none = rw (none k (omega arith), shows_nothing k (λ j low. none j (omega arith))) refl
