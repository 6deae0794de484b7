-- What the points of a put come to: records of facts, which the laws use.
use Rattle.std.proofs.Common.{◌<◌, List, [], ◌++◌, ◌∷◌, ℕ, ◌≤◌, ◌≡◌, None, Some, Bool, true, false, refl, sym, ◌∙◌, ap, inl, inr}
use Rattle.std.specs.Prelude.{not, ◌&&◌, ◌||◌, ◌==◌, ◌↔◌, ◌⊎◌, ◌+◌, ◌%◌, if◌then◌else◌, nat_le, nat_lt, is_some, length}
use Rattle.std.specs.declared.option.Option.{Option}
use Rattle.std.specs.List.{slice_get}
use Rattle.mu_model.specs.declared.config.Config.{Config}
use Rattle.mu_model.specs.declared.event.Event.{Event}
use Rattle.mu_model.specs.declared.event.Target.{Target}
use Rattle.mu_model.specs.declared.event.Verb.{Verb}
use Rattle.mu_model.specs.Allowed.{Needs}
use Rattle.mu_model.specs.Contents.{client_of, command_count, marked, number_of, rest_of, row_count}
use Rattle.mu_model.specs.Histories.{all_below, has, newest, or_zero}
use Rattle.mu_model.specs.Knowledge.{applied, is_filled, is_value, known, wrote, wrote_batch}
use Rattle.mu_model.specs.Leaderships.{has_quorum, is_member, is_over, leadership, proposal_number}
use Rattle.mu_model.specs.Picks.{first_value, highest_accepted, is_fresh_batch, is_mark_offer, is_offer, is_past_look, joined_since_first_put, last_look, look_answer, may_propose, pick}
use Rattle.mu_model.specs.Entering.{last_opened, min_read, number_allowed, open_target}
use Rattle.mu_model.specs.Placing.{fuo_read_or_raised, is_caught_up_at, is_within_ring, looked_before_entering, reaches_head}
use Rattle.mu_model.specs.Room.{has_room, last_head, reserve}
use Rattle.std.proofs.lemmas.Bool.{and_from, and_parts, eq-eqb, eqb-true, false≢true, le-leb, leb-true, not-true, not_from_false, or_cases}
use Rattle.std.proofs.lemmas.Bool.Decides.{eqb_tells}
use Rattle.mu_model.proofs.Basics.{none_some, or_true, same_some, true_or}
use Rattle.mu_model.proofs.Scans.{all_at, each_all}
use Rattle.mu_model.specs.declared.reason.Reason.{Reason}
use Rattle.mu_model.specs.Points.{AreMet, applied_to, batch_points, batch_written, clear_members, each_below, enters, entry_there, new_values, offers, picks, proposals, puts, reserved_rooms, rooms, row_written, values}
use Rattle.mu_model.proofs.AllMet.{each_met, met_append, met_each, met_front, met_rest}

-- r may enter p with the target
abbrev pub MayEnter : Config → ℕ → List Event → ℕ → Target → Type 0
MayEnter c r past p t = AreMet c r past (enters p t)

-- r may put the number b into the minimum of p
pub record MayPutMin (r : ℕ) (past : List Event) (p b : ℕ) : Type 0 where
  pub not_over : is_over r past ≡ false
  pub entered : open_target r p past ≡ Some Target.Min
  pub read : or_zero (newest (λ e. min_read r p e.by e.verb e.answer) past) ≤ b
  pub numbered : number_allowed r past b (proposal_number r past)

-- v may be put at the new position i, which r does not know yet
pub record IsNew (c : Config) (r : ℕ) (past : List Event) (i v : ℕ) : Type 0 where
  pub next : i ≡ length (known c r past)
  pub room : has_room c r past i 0 ≡ true
  pub reserve_kept : is_fresh_batch c r past i v ≡ true → has_room c r past i (reserve c) ≡ true
  pub none_past :
      all_below c.replicas
      (λ p. not
      (is_member r p past
      && has (λ e. is_past_look (look_answer r p i e.by e.verb e.answer)) (leadership r past)))
      ≡ true
  pub value : may_propose c r past i v (first_value r i past) ≡ true

-- r may put v at position i of region p under the number b
pub record MayPutSlot (c : Config) (r : ℕ) (past : List Event) (p i b v : ℕ) : Type 0 where
  pub within_ring :
      c.version ≡ 2
      → has (λ e. is_within_ring i c.ring (fuo_read_or_raised r p e.by e.verb e.answer))
      (leadership r past)
      ≡ true
  pub not_over : is_over r past ≡ false
  pub carried : has_quorum c r past ≡ true
  pub member : is_member r p past ≡ true
  pub numbered : proposal_number r past ≡ Some b
  pub entered : last_opened r p past ≡ Some (Target.Place (i % c.ring))
  pub looked : looked_before_entering c r p i past ≡ true
  pub caught_up : (j : ℕ) → j < i → is_caught_up_at c r p past j ≡ true
  pub value : (slice_get (known c r past) i ≡ Some v) ⊎ IsNew c r past i v

-- the points of all numbers below n are met exactly if each number passes a test
pub all_met : (c : Config) (r : ℕ) (past : List Event) (n : ℕ) (test : ℕ → Bool) (of_each : ℕ → List Reason) → ((j : ℕ) → (AreMet c r past (of_each j) ↔ (test j ≡ true))) → (AreMet c r past (each_below n of_each) ↔ (all_below n test ≡ true))
all_met c r past n test of_each tells = (
  λ m. each_all n test (λ j low. (tells j).0 (met_each c r past n of_each m j low)),
  λ h. each_met c r past n of_each (λ j low. (tells j).1 (all_at n test h j low)),
)

-- the points of room are met exactly if there is room
rooms_met : (c : Config) (r : ℕ) (past : List Event) (i free : ℕ) → (AreMet c r past (rooms c r past i free) ↔ (has_room c r past i free ≡ true))
rooms_met c r past i free =
    let one : ℕ → Bool = λ q. marked c q (known c r past) || nat_lt (i + free) (last_head r q past + c.ring) in (
      λ m. each_all c.replicas one (λ q low. (met_each c r past c.replicas (λ q. Reason.NoRoom i free q (last_head r q past) ∷ []) m q low).0),
      λ h. each_met c r past c.replicas (λ q. Reason.NoRoom i free q (last_head r q past) ∷ []) (λ q low. (all_at c.replicas one h q low, tt)),
    )

-- points that only a fresh batch has to meet are met exactly if v isn't fresh or they are met
where_fresh : (c : Config) (r : ℕ) (past : List Event) (t room : Bool) (xs : List Reason) → (AreMet c r past xs ↔ (room ≡ true)) → (AreMet c r past (if t then xs else []) ↔ (t ≡ true → room ≡ true))
where_fresh c r past true room xs met = (λ m is. met.0 m, λ h. met.1 (h refl))
where_fresh c r past false room xs met = (λ m is. absurd (false≢true is), λ h. tt)

-- so are those of the reserve
reserved_met : (c : Config) (r : ℕ) (past : List Event) (i v : ℕ) → (AreMet c r past (reserved_rooms c r past i v) ↔ (is_fresh_batch c r past i v ≡ true → has_room c r past i (reserve c) ≡ true))
reserved_met c r past i v = where_fresh c r past (is_fresh_batch c r past i v) (has_room c r past i (reserve c)) (rooms c r past i (reserve c)) (rooms_met c r past i (reserve c))

-- the points of the rows of a batch are met exactly if the batch is written
pub batch_written_met : (c : Config) (r : ℕ) (past : List Event) (v : ℕ) → (AreMet c r past (batch_written c v) ↔ (wrote_batch c r (v % 4096) past ≡ true))
batch_written_met c r past v =
    all_met c r past (rest_of c (v % 4096) + 1) (λ t. all_below 12 (λ k. wrote r (v % 4096 + t) k past)) (λ t. row_written v (v % 4096 + t)) (λ t.
    all_met c r past 12 (λ k. wrote r (v % 4096 + t) k past) (λ k. Reason.NotWritten v (v % 4096 + t) k ∷ []) (λ k. (λ m. m.0, λ h. (h, tt))))

-- the last point fails exactly if more than `count` entries are to be applied
where_applied : (c : Config) (r : ℕ) (past : List Event) (t : Bool) (h count : ℕ) (xs : List Reason) → nat_le h count ≡ t → (AreMet c r past (if t then [] else (xs ++ Reason.NotApplied h count ∷ [])) ↔ (h ≤ count))
where_applied c r past true h count xs is = (λ m. leb-true h count is, λ low. tt)
where_applied c r past false h count xs is = (λ m. (met_rest c r past xs (Reason.NotApplied h count ∷ []) m).0, λ low. absurd (false≢true (sym is ∙ le-leb h count low)))

-- the points of a head are met exactly if so many entries are applied
applied_met : (c : Config) (r : ℕ) (past : List Event) (h count : ℕ) → (AreMet c r past (applied_to c r past h count) ↔ (h ≤ count))
applied_met c r past h count = where_applied c r past (nat_le h count) h count (entry_there c h count (slice_get (known c r past) count)) refl

-- four facts hold exactly if the test that joins them passes: from the facts
all_four : (a b : Bool) (x y n m : ℕ) → a ≡ true → x ≡ y → b ≡ true → n ≡ m → (a && ((x == y) && (b && (n == m)))) ≡ true
all_four a b x y n m p q s t = and_from _ _ p (and_from _ _ (eq-eqb x y q) (and_from _ _ s (eq-eqb n m t)))

-- and from the test
each_of_four : (a b : Bool) (x y n m : ℕ) → (a && ((x == y) && (b && (n == m)))) ≡ true → (a ≡ true) × (x ≡ y) × (b ≡ true) × (n ≡ m)
each_of_four a b x y n m h =
    let one = and_parts a ((x == y) && (b && (n == m))) h in
    let two = and_parts (x == y) (b && (n == m)) one.1 in
    let three = and_parts b (n == m) two.1 in
    (one.0, eqb-true x y two.0, three.0, eqb-true n m three.1)

-- the points of an offer are met exactly if the pick allows it
offers_met : (c : Config) (r : ℕ) (past : List Event) (v : ℕ) → (AreMet c r past (offers c r past v) ↔ (pick c r past v None ≡ true))
offers_met c r past v = go (is_mark_offer c r past v)
  where
    go : (t : Bool) → (AreMet c r past (if t then [] else batch_points c r past v)
        ↔ ((is_offer c r past v || t) ≡ true))
    go true = (λ m. or_true _ true refl, λ h. tt)
    go false =
        let rows = batch_written c v in
        let last : List Reason = Reason.NotNextOfClient v (number_of c (v % 4096)) (command_count c (client_of c (v % 4096)) (known c r past)) ∷ [] in (
          λ m. true_or _ false (all_four _ _ _ _ _ _ m.0 m.1.0 ((batch_written_met c r past v).0 (met_front c r past rows last m.1.1)) (met_rest c r past rows last m.1.1).0),
          λ h. elim (or_cases _ false h) [ inl own ↦ (let all = each_of_four _ _ _ _ _ _ own in (all.0, (all.1, met_append c r past rows last ((batch_written_met c r past v).1 all.2) (all.3, tt)))) | inr bad ↦ absurd (false≢true bad) ],
        )

-- so are those of a value by what the looks show
picks_met : (c : Config) (r : ℕ) (past : List Event) (i v : ℕ) (o : Option (ℕ × ℕ)) → (AreMet c r past (picks c r past i v o) ↔ (pick c r past v o ≡ true))
picks_met c r past i v (Some entry) = (λ m. eq-eqb entry.1 v m.0, λ h. (eqb-true entry.1 v h, tt))
picks_met c r past i v None = offers_met c r past v

-- the points of a proposal are met exactly if r may propose it
proposals_met : (c : Config) (r : ℕ) (past : List Event) (i v : ℕ) (o : Option ℕ) → (AreMet c r past (proposals c r past i v o) ↔ (may_propose c r past i v o ≡ true))
proposals_met c r past i v (Some first) = (
  λ m. and_from _ _ (eq-eqb v first m.0) (not_from_false _ m.1.0),
  λ h. let both = and_parts (v == first) (not (joined_since_first_put r i past)) h in (eqb-true v first both.0, (not-true _ both.1, tt)),
)
proposals_met c r past i v None =
    let one : ℕ → Bool = λ p. not (is_member r p past) || is_some (last_look r p i past) in
    let each : ℕ → List Reason = λ p. Reason.MemberNotLooked p i ∷ [] in
    let top = highest_accepted r i past c.replicas in (
      λ m. and_from _ _
          (each_all c.replicas one (λ p low. (met_each c r past c.replicas each (met_front c r past (each_below c.replicas each) (picks c r past i v top) m) p low).0))
          ((picks_met c r past i v top).0 (met_rest c r past (each_below c.replicas each) (picks c r past i v top) m)),
      λ h. let both = and_parts (all_below c.replicas one) (pick c r past v top) h in
          met_append c r past (each_below c.replicas each) (picks c r past i v top)
          (each_met c r past c.replicas each (λ p low. (all_at c.replicas one both.0 p low, tt)))
          ((picks_met c r past i v top).1 both.1),
    )

-- the points of members that were seen past a position are met exactly if none was
clear_met : (c : Config) (r : ℕ) (past : List Event) (i : ℕ) → (AreMet c r past (clear_members c i) ↔ (all_below c.replicas (λ p. not (is_member r p past && has (λ e. is_past_look (look_answer r p i e.by e.verb e.answer)) (leadership r past))) ≡ true))
clear_met c r past i =
    all_met c r past c.replicas (λ p. not (is_member r p past && has (λ e. is_past_look (look_answer r p i e.by e.verb e.answer)) (leadership r past))) (λ p. Reason.PastSeen p i ∷ []) (λ p. (λ m. m.0, λ h. (h, tt)))

-- the points of a new value are met exactly if r may put it as new
pub new_met : (c : Config) (r : ℕ) (past : List Event) (i v : ℕ) → (AreMet c r past (new_values c r past i v) ↔ IsNew c r past i v)
new_met c r past i v =
    let first = first_value r i past in
    let clear = clear_members c i in
    let offered = proposals c r past i v first in
    let late = clear ++ offered in
    let kept = reserved_rooms c r past i v in
    let all = rooms c r past i 0 in (
      λ m.
          let more = met_rest c r past all (kept ++ late) m.1 in
          let last = met_rest c r past kept late more in
          record { next = m.0; room = (rooms_met c r past i 0).0 (met_front c r past all (kept ++ late) m.1); reserve_kept = (reserved_met c r past i v).0 (met_front c r past kept late more); none_past = (clear_met c r past i).0 (met_front c r past clear offered last); value = (proposals_met c r past i v first).0 (met_rest c r past clear offered last) },
      λ h. (h.next, met_append c r past all (kept ++ late) ((rooms_met c r past i 0).1 h.room) (met_append c r past kept late ((reserved_met c r past i v).1 h.reserve_kept) (met_append c r past clear offered ((clear_met c r past i).1 h.none_past) ((proposals_met c r past i v first).1 h.value)))),
    )

-- a value is allowed exactly if it is known at the position, or meets the points of a new one
where_known : (c : Config) (r : ℕ) (past : List Event) (o : Option ℕ) (v : ℕ) (xs : List Reason) (New : Type 0) → (AreMet c r past xs ↔ New) → (AreMet c r past (if is_value o v then [] else xs) ↔ ((o ≡ Some v) ⊎ New))
where_known c r past None v xs New met = (λ m. inr (met.0 m), λ h. elim h [ inl is ↦ absurd (none_some v is) | inr new ↦ met.1 new ])
where_known c r past (Some w) v xs New met = elim (eqb_tells w v) [
  | inl same ↦ rw same.0 (λ m. inl (ap Some same.1), λ h. tt)
  | inr other ↦ rw other.0 (λ m. inr (met.0 m), λ h. elim h [ inl is ↦ absurd (other.1 (same_some w v is)) | inr new ↦ met.1 new ])
]

-- the points of a value are met exactly if it is known there, or may be put as new
pub values_met : (c : Config) (r : ℕ) (past : List Event) (i v : ℕ) → (AreMet c r past (values c r past i v) ↔ ((slice_get (known c r past) i ≡ Some v) ⊎ IsNew c r past i v))
values_met c r past i v = where_known c r past (slice_get (known c r past) i) v (new_values c r past i v) (IsNew c r past i v) (new_met c r past i v)

-- a put of a number that is allowed is one that r may make
pub min_facts : (c : Config) (r : ℕ) (past : List Event) (p b : ℕ) → Needs c r past (Verb.PutMin p b) → MayPutMin r past p b
min_facts c r past p b m = record { not_over = m.1.0; entered = m.1.1.0; read = m.1.1.1.0; numbered = m.1.1.1.1.0 }

-- a put of an entry that is allowed is one that r may make
pub put_facts : (c : Config) (r : ℕ) (past : List Event) (p i b v : ℕ) → Needs c r past (Verb.PutSlot p i b v) → MayPutSlot c r past p i b v
put_facts c r past p i b v m =
    let each : ℕ → List Reason = λ j. Reason.Behind p j ∷ [] in
    let front = m.1.1 in
    let more = met_rest c r past (puts c r past p i b) (each_below i each ++ values c r past i v) front in
    let caught = met_front c r past (each_below i each) (values c r past i v) more in
    let value = met_rest c r past (each_below i each) (values c r past i v) more in
    record {
      within_ring = front.0;
      not_over = front.1.0;
      carried = front.1.1.0;
      member = front.1.1.1.0;
      numbered = front.1.1.1.1.0;
      entered = front.1.1.1.1.1.0;
      looked = front.1.1.1.1.1.1.0;
      caught_up = λ j low. (met_each c r past i each caught j low).0;
      value = (values_met c r past i v).0 value;
    }

-- a put of an entry that r may make, in a region and at a position that are there, is allowed
pub put_points : (c : Config) (r : ℕ) (past : List Event) (p i b v : ℕ) → p < c.replicas → i ≤ row_count c + reserve c → MayPutSlot c r past p i b v → Needs c r past (Verb.PutSlot p i b v)
put_points c r past p i b v inside near may =
    let each : ℕ → List Reason = λ j. Reason.Behind p j ∷ [] in
    let caught = each_met c r past i each (λ j low. (may.caught_up j low, tt)) in
    let value = (values_met c r past i v).1 may.value in
    let more = met_append c r past (each_below i each) (values c r past i v) caught value in
    (inside, (near, (may.within_ring, (may.not_over, (may.carried, (may.member, (may.numbered, (may.entered, (may.looked, more)))))))))

-- a FUO may be raised only if all positions below it are filled
pub raise_facts : (c : Config) (r : ℕ) (past : List Event) (p u : ℕ) → Needs c r past (Verb.RaiseFuo p u) → all_below u (is_filled c r p past) ≡ true
raise_facts c r past p u m = each_all u (is_filled c r p past) (λ j low. (met_each c r past u (λ j. Reason.NotFilled p j ∷ []) m.1.1 j low).0)

-- a FUO may be raised to what r knows, if all positions below it are filled
pub raise_points : (c : Config) (r : ℕ) (past : List Event) (p u : ℕ) → p < c.replicas → u ≤ length (known c r past) → all_below u (is_filled c r p past) ≡ true → Needs c r past (Verb.RaiseFuo p u)
raise_points c r past p u inside few all = (inside, (few, each_met c r past u (λ j. Reason.NotFilled p j ∷ []) (λ j low. (all_at u (is_filled c r p past) all j low, tt))))

-- a head may be raised only to entries that are applied
pub head_applied : (c : Config) (r : ℕ) (past : List Event) (h : ℕ) → Needs c r past (Verb.RaiseHead h) → h ≤ length (applied c r past)
head_applied c r past h m = (applied_met c r past h (length (applied c r past))).0 (met_front c r past (applied_to c r past h (length (applied c r past))) (Reason.NotReached h ∷ []) m)

-- a head may be raised only to what a FUO that r read or raised reaches
pub head_reached : (c : Config) (r : ℕ) (past : List Event) (h : ℕ) → Needs c r past (Verb.RaiseHead h) → has (λ e. reaches_head h (fuo_read_or_raised r r e.by e.verb e.answer)) past ≡ true
head_reached c r past h m = (met_rest c r past (applied_to c r past h (length (applied c r past))) (Reason.NotReached h ∷ []) m).0

-- a head may be raised so far as entries are applied and such a FUO reaches
pub head_points : (c : Config) (r : ℕ) (past : List Event) (h : ℕ) → h ≤ length (applied c r past) → has (λ e. reaches_head h (fuo_read_or_raised r r e.by e.verb e.answer)) past ≡ true → Needs c r past (Verb.RaiseHead h)
head_points c r past h few reached = met_append c r past (applied_to c r past h (length (applied c r past))) (Reason.NotReached h ∷ []) ((applied_met c r past h (length (applied c r past))).1 few) (reached, tt)
