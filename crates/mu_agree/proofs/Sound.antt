-- Each value that is put continues the chosen ones.
use Rattle.std.proofs.Common.{◌≡◌, ℕ, zero, suc, ◌+◌, ◌/◌, ◌%◌, ◌<◌, ◌≢◌, inl, inr, Bool, true, false, cond, ◌&&◌, ◌||◌, not, ◌==◌, List, [], ◌∷◌, ap, length, refl, sym, ◌∙◌, arith, Some, None, subst, eqb-true, true≢false}
use Rattle.std.specs.declared.option.Option.{Option}
use Rattle.std.specs.List.{slice_get}
use Rattle.std.specs.Prelude.{if◌then◌else◌, nat_lt}
use Rattle.std.proofs.lemmas.Bool.{and_parts, and_from, or_cases, not-true, not-false, eq-eqb, ltb-true}
use Rattle.mu_model.specs.declared.config.Config.{Config}
use Rattle.mu_model.specs.declared.event.Event.{Event}
use Rattle.mu_model.specs.declared.event.Verb.{Verb}
use Rattle.mu_model.specs.declared.event.Answer.{Answer}
use Rattle.mu_model.specs.Allowed.{Needs}
use Rattle.mu_model.specs.Answers.{drained, put_answer}
use Rattle.mu_model.specs.Chosen.{IsChosen}
use Rattle.mu_model.specs.Contents.{client_of, command_count, is_batch, is_mark, marked, number_of, rest_of, session}
use Rattle.mu_model.specs.Histories.{all_below, earlier_or, has, part}
use Rattle.mu_model.specs.Knowledge.{is_written, known, wrote, wrote_batch}
use Rattle.mu_model.specs.Leaderships.{begins_leadership}
use Rattle.mu_model.specs.Legal.{IsLegalHistory}
use Rattle.mu_model.specs.Picks.{is_mark_offer, is_offer, pick}
use Rattle.mu_model.specs.Room.{head_read, is_mark_candidate, lacks_room, reserve}
use Rattle.mu_model.specs.Scores.{is_failed}
use Rattle.mu_agree.specs.Agreement.{WasHeldFailed}
use Rattle.mu_agree.proofs.Legal.{event_after, legal_induction}
use Rattle.mu_agree.proofs.Landings.{has_cases, has_more, has_implied, has_of_part}
use Rattle.mu_agree.proofs.Landed.{slot_landed, has_landed}
use Rattle.mu_agree.proofs.Offers.{slot_value, first_offered}
use Rattle.mu_agree.proofs.Choice.{Found, none_accepted, takes_highest, Seeing, chosen_somewhere}
use Rattle.mu_agree.proofs.Tame.{chosen_stays}
use Rattle.mu_agree.proofs.Early.{PutValue, copies_known, repeats_offer, offers_first, put_value}
use Rattle.mu_agree.proofs.Phases.{known_chosen}
use Rattle.mu_model.proofs.Putting.{MayPutSlot, put_facts}

-- v was put at i, whether it landed or not
abbrev pub is_try : ℕ → ℕ → Verb → Bool
is_try i v (Verb.PutSlot p j b w) = (j == i) && (w == v)
is_try i v _ = false

abbrev pub tried : ℕ → ℕ → List Event → Bool
tried i v past = has (λ e. is_try i v e.verb) past

held_on : (c : Config) (q : ℕ) (e : Event) (past : List Event) → WasHeldFailed c q past → WasHeldFailed c q (e ∷ past)
held_on c q e past held = record { newer = e ∷ held.newer; older = held.older; is = ap (λ l. e ∷ l) held.is; by = held.by; inside = held.inside; other = held.other; failed = held.failed }

-- a candidate for a mark was held failed
candidate_held : (c : Config) (r q limit : ℕ) (past : List Event) → r < c.replicas → r ≢ q → is_mark_candidate c r q limit (part r past) ≡ true → WasHeldFailed c q past
candidate_held c r q limit [] inside other none = absurd (true≢false (sym none))
candidate_held c r q limit (e ∷ past) inside other is = go (e.by == r) refl is (λ was. held_on c q e past (candidate_held c r q limit past inside other was))
  where
    go : (t : Bool) → (e.by == r) ≡ t → is_mark_candidate c r q limit (cond t (e ∷ part r past) (part r past)) ≡ true → (is_mark_candidate c r q limit (part r past) ≡ true → WasHeldFailed c q (e ∷ past)) → WasHeldFailed c q (e ∷ past)
    go false own is before = before is
    go true own is before = begun (begins_leadership r e) is
      where
        here : Bool
        here = lacks_room c limit (head_read r q e.by e.verb e.answer) && is_failed r q (e ∷ part r past)

        begun : (t : Bool) → (if t then false else (here || is_mark_candidate c r q limit (part r past))) ≡ true → WasHeldFailed c q (e ∷ past)
        begun true none = absurd (true≢false (sym none))
        begun false some = elim (or_cases here (is_mark_candidate c r q limit (part r past)) some) [
          | inl now ↦ record {
            newer = [];
            older = e ∷ past;
            is = refl;
            by = r;
            inside = inside;
            other = other;
            failed = rw own (and_parts (lacks_room c limit (head_read r q e.by e.verb e.answer)) (is_failed r q (e ∷ part r past)) now).1;
          }
          | inr was ↦ before was
        ]

-- v may come after these values: a batch that is written and next of its client, or a mark that isn't among them,
-- of a replica that another held failed
pub data Fits (c : Config) (v : ℕ) (values : List ℕ) (past : List Event) : Type 0 where
  by_batch : is_batch c v ≡ true → wrote_batch c (v / 4096) (v % 4096) past ≡ true → number_of c (v % 4096) ≡ length (session c (client_of c (v % 4096)) values) + 1 → Fits c v values past
  by_mark : (q : ℕ) → is_mark c q v ≡ true → marked c q values ≡ false → WasHeldFailed c q past → Fits c v values past

-- v fits the values chosen below i
pub record Sound (c : Config) (i v : ℕ) (past : List Event) : Type 0 where
  pub values : List ℕ
  pub count : length values ≡ i
  pub chosen : (k x : ℕ) → slice_get values k ≡ Some x → IsChosen c past k x
  pub fits : Fits c v values past

-- what was written stays written
pub all_implied : (n : ℕ) (f g : ℕ → Bool) → ((k : ℕ) → f k ≡ true → g k ≡ true) → all_below n f ≡ true → all_below n g ≡ true
all_implied zero f g h a = refl
all_implied (suc n) f g h a = let x = and_parts (f n) (all_below n f) a in and_from (g n) (all_below n g) (h n x.0) (all_implied n f g h x.1)

pub wrote_more : (c : Config) (r j : ℕ) (e : Event) (past : List Event) → wrote_batch c r j past ≡ true → wrote_batch c r j (e ∷ past) ≡ true
wrote_more c r j e past h =
    all_implied (rest_of c j + 1) (λ t. all_below 12 (λ k. wrote r (j + t) k past)) (λ t. all_below 12 (λ k. wrote r (j + t) k (e ∷ past)))
    (λ t a. all_implied 12 (λ k. wrote r (j + t) k past) (λ k. wrote r (j + t) k (e ∷ past)) (λ k b. has_more (λ f. is_written r (j + t) k f.by f.verb) e past b) a) h

wrote_of_part : (c : Config) (r j by : ℕ) (past : List Event) → wrote_batch c r j (part by past) ≡ true → wrote_batch c r j past ≡ true
wrote_of_part c r j by past h =
    all_implied (rest_of c j + 1) (λ t. all_below 12 (λ k. wrote r (j + t) k (part by past))) (λ t. all_below 12 (λ k. wrote r (j + t) k past))
    (λ t a. all_implied 12 (λ k. wrote r (j + t) k (part by past)) (λ k. wrote r (j + t) k past) (λ k b. has_of_part (λ f. is_written r (j + t) k f.by f.verb) by past b) a) h

fits_more : (c : Config) (v : ℕ) (values : List ℕ) (e : Event) (past : List Event) → Fits c v values past → Fits c v values (e ∷ past)
fits_more c v values e past (by_batch b w n) = by_batch b (wrote_more c (v / 4096) (v % 4096) e past w) n
fits_more c v values e past (by_mark q m n held) = by_mark q m n (held_on c q e past held)

pub sound_stays : (c : Config) (i v : ℕ) (e : Event) (past : List Event) → Sound c i v past → Sound c i v (e ∷ past)
sound_stays c i v e past s = record {
  values = s.values;
  count = s.count;
  chosen = λ k x h. let y = s.chosen k x h in (y.0, chosen_stays c k y.0 x e past y.1);
  fits = fits_more c v s.values e past s.fits;
}

abbrev pub AllSound : Config → List Event → Type 0
AllSound c past = (i v : ℕ) → tried i v past ≡ true → Sound c i v past

-- a number below n that fails
pub record Failing (n : ℕ) (f : ℕ → Bool) : Type 0 where
  pub who : ℕ
  pub below : who < n
  pub fails : f who ≡ false

pub some_fails : (n : ℕ) (f : ℕ → Bool) → all_below n f ≡ false → Failing n f
some_fails zero f h = absurd (true≢false h)
some_fails (suc n) f h = go (f n) refl h (some_fails n f)
  where
    go : (t : Bool) → f n ≡ t → (t && all_below n f) ≡ false → (all_below n f ≡ false → Failing n f) → Failing (suc n) f
    go true e k ih = let x = ih k in record { who = x.who; below = (let l = x.below in omega arith); fails = x.fails }
    go false e k ih = record { who = n; below = omega arith; fails = e }

-- an offer was put
pub offered_tried : (i b v : ℕ) (past : List Event) → first_offered i b past ≡ Some v → tried i v past ≡ true
offered_tried i b v [] e = cc
offered_tried i b v (f ∷ past) e = go f.verb e (offered_tried i b v past)
  where
    go : (verb : Verb) → earlier_or (slot_value i b verb) (first_offered i b past) ≡ Some v → (first_offered i b past ≡ Some v → tried i v past ≡ true) → cond (is_try i v verb) true (tried i v past) ≡ true
    go (Verb.PutSlot p j n w) e ih = at (j == i) refl (n == b) (first_offered i b past) refl e
      where
        at : (t : Bool) → (j == i) ≡ t → (u : Bool) (o : Option ℕ) → first_offered i b past ≡ o → earlier_or (cond (t && u) (Some w) None) o ≡ Some v → cond (t && (w == v)) true (tried i v past) ≡ true
        at true h true None eo e = let k : w ≡ v = cc in rw (eq-eqb w v k) refl
        at true h true (Some z) eo e = more (w == v) (ih (eo ∙ e))
          where
            more : (x : Bool) → tried i v past ≡ true → cond x true (tried i v past) ≡ true
            more true m = refl
            more false m = m
        at true h false o eo e = more (w == v) (ih (eo ∙ e))
          where
            more : (x : Bool) → tried i v past ≡ true → cond x true (tried i v past) ≡ true
            more true m = refl
            more false m = m
        at false h u o eo e = ih (eo ∙ e)
    go verb e ih = ih e

pub landed_tried : (p i b v : ℕ) (past : List Event) → has_landed p i b v past ≡ true → tried i v past ≡ true
landed_tried p i b v past h = has_implied (λ e. slot_landed p i b v e.verb e.answer) (λ e. is_try i v e.verb) (λ e m. at e.verb e.answer m) past h
  where
    at : (verb : Verb) (a : Answer) → slot_landed p i b v verb a ≡ true → is_try i v verb ≡ true
    at (Verb.PutSlot q j n w) Answer.Done m =
        let x = and_parts (q == p) ((j == i) && ((n == b) && (w == v))) m in
        let y = and_parts (j == i) ((n == b) && (w == v)) x.1 in
        and_from (j == i) (w == v) y.0 (and_parts (n == b) (w == v) y.1).1
    at verb a m = absurd (true≢false (sym m))

pub chosen_tried : (c : Config) (i v : ℕ) (past : List Event) → IsChosen c past i v → tried i v past ≡ true
chosen_tried c i v past h = let m = chosen_somewhere c i h.0 v past h.1 in landed_tried m.who i h.0 v past m.passes

-- a value that is put is sound
pub put_sound : (c : Config) (r p i b v : ℕ) (past : List Event) → IsLegalHistory c past → AllSound c past → MayPutSlot c r (part r past) p i b v → Sound c i v past
put_sound c r p i b v past h s may = go (put_value c r p i b v past h may)
  where
    free_fits : (is_offer c r (part r past) v || is_mark_offer c r (part r past) v) ≡ true → Fits c v (known c r (part r past)) past
    free_fits k = elim (or_cases (is_offer c r (part r past) v) (is_mark_offer c r (part r past) v) k) [ inl m ↦ batch m | inr m ↦ mark m ]
      where
        batch : is_offer c r (part r past) v ≡ true → Fits c v (known c r (part r past)) past
        batch m =
            let last : Bool = number_of c (v % 4096) == command_count c (client_of c (v % 4096)) (known c r (part r past)) + 1 in
            let x = and_parts (is_batch c v) ((v / 4096 == r) && (wrote_batch c r (v % 4096) (part r past) && last)) m in
            let y = and_parts (v / 4096 == r) (wrote_batch c r (v % 4096) (part r past) && last) x.1 in
            let z = and_parts (wrote_batch c r (v % 4096) (part r past)) last y.1 in
            by_batch x.0 (subst (λ u. wrote_batch c u (v % 4096) past ≡ true) (sym (eqb-true (v / 4096) r y.0)) (wrote_of_part c r (v % 4096) r past z.0))
            (eqb-true (number_of c (v % 4096)) (command_count c (client_of c (v % 4096)) (known c r (part r past)) + 1) z.1)

        mark : is_mark_offer c r (part r past) v ≡ true → Fits c v (known c r (part r past)) past
        mark m =
            let test : (ℕ → Bool) = λ q. not (is_mark c q v && (not (q == r) && (not (marked c q (known c r (part r past))) && is_mark_candidate c r q (length (known c r (part r past)) + reserve c) (part r past)))) in
            let x = and_parts (v / 4096 == r) (not (all_below c.replicas test)) m in
            let f = some_fails c.replicas test (not-true (all_below c.replicas test) x.1) in
            let full = not-false (is_mark c f.who v && (not (f.who == r) && (not (marked c f.who (known c r (part r past))) && is_mark_candidate c r f.who (length (known c r (part r past)) + reserve c) (part r past)))) f.fails in
            let y = and_parts (is_mark c f.who v) (not (f.who == r) && (not (marked c f.who (known c r (part r past))) && is_mark_candidate c r f.who (length (known c r (part r past)) + reserve c) (part r past))) full in
            let z = and_parts (not (f.who == r)) (not (marked c f.who (known c r (part r past))) && is_mark_candidate c r f.who (length (known c r (part r past)) + reserve c) (part r past)) y.1 in
            let w = and_parts (not (marked c f.who (known c r (part r past)))) (is_mark_candidate c r f.who (length (known c r (part r past)) + reserve c) (part r past)) z.1 in
            let own : v / 4096 ≡ r = eqb-true (v / 4096) r x.0 in
            let few = ltb-true (v / 4096) c.replicas (and_parts (nat_lt (v / 4096) c.replicas) ((c.version == 2) && (nat_lt f.who c.replicas && (v % 4096 == 4080 + f.who))) y.0).0 in
            by_mark f.who y.0 (not-true (marked c f.who (known c r (part r past))) w.0)
            (candidate_held c r f.who (length (known c r (part r past)) + reserve c) past (omega (arith, own, few)) (λ same. true≢false (sym (eq-eqb f.who r (sym same)) ∙ not-true (f.who == r) z.0)) w.1)

    first : i ≡ length (known c r (part r past)) → Found c r i b v past → Seeing c r i b v past → Sound c i v past
    first nx (none_accepted e many) see = record {
      values = known c r (part r past);
      count = sym nx;
      chosen = λ k x m. let y = known_chosen c r k x past h m in (y.b, y.is);
      fits = free_fits (subst (λ o. pick c r (part r past) v o ≡ true) e see.picked);
    }
    first nx (takes_highest m p e at many) see = s i v (landed_tried p i m v past at)

    go : PutValue c r i b v past → Sound c i v past
    go (copies_known k) = let x = known_chosen c r i v past h k in s i v (chosen_tried c i v past (x.b, x.is))
    go (repeats_offer o f nx j) = s i v (offered_tried i b v past o)
    go (offers_first o f nx fd see) = first nx fd see

sound_put : (c : Config) (by p j n w : ℕ) (past : List Event) → IsLegalHistory c past → Needs c by (part by past) (Verb.PutSlot p j n w) → AllSound c past → (a : Answer) → AllSound c (record { by = by; verb = Verb.PutSlot p j n w; answer = a } ∷ past)
sound_put c by p j n w past h may s a i v m = elim (has_cases ((j == i) && (w == v)) (tried i v past) m) [
  | inl k ↦ (let x = and_parts (j == i) (w == v) k in
      sound_stays c i v (record { by = by; verb = Verb.PutSlot p j n w; answer = a }) past
      (subst (λ z. Sound c z v past) (eqb-true j i x.0) (subst (λ z. Sound c j z past) (eqb-true w v x.1) (put_sound c by p j n w past h s (put_facts c by (part by past) p j n w may)))))
  | inr k ↦ sound_stays c i v (record { by = by; verb = Verb.PutSlot p j n w; answer = a }) past (s i v k)
]

sound_step : (c : Config) (by : ℕ) (v : Verb) (past : List Event) → IsLegalHistory c past → Needs c by (part by past) v → AllSound c past → AllSound c (event_after c past by v ∷ past)
sound_step c by (Verb.PutSlot p j n w) past h may s = sound_put c by p j n w past h may s (put_answer (drained by p past))
sound_step c by v past h may s = λ i x m. sound_stays c i x (event_after c past by v) past (s i x m)

pub all_sound : (c : Config) (past : List Event) → IsLegalHistory c past → AllSound c past
all_sound c = legal_induction c (AllSound c) (λ i v m. absurd (true≢false (sym m))) (λ past by v h may s. sound_step c by v past h may.may s)

-- a chosen value is sound
pub chosen_sound : (c : Config) (i v : ℕ) (past : List Event) → IsLegalHistory c past → IsChosen c past i v → Sound c i v past
chosen_sound c i v past h k = all_sound c past h i v (chosen_tried c i v past k)
