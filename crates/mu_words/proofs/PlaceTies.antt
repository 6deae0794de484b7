-- A place of a member stays as its leader saw it: the word is the one that was seen, and the log isn't past what was seen.
use Rattle.std.proofs.Common.{◌≡◌, ℕ, ◌+◌, ◌*◌, ◌%◌, ◌≤◌, ◌⊎◌, inl, inr, Bool, true, false, cond, ◌&&◌, not, ◌==◌, List, [], ◌∷◌, ◌++◌, refl, sym, ◌∙◌, ap, arith, Some, None, subst, eqb-true, true≢false, length, set, length-set, suc}
use Rattle.std.specs.declared.option.Option.{Option}
use Rattle.std.specs.List.{slice_get}
use Rattle.std.specs.Prelude.{is_some, nat_lt}
use Rattle.std.proofs.lemmas.Bool.{and_parts, and_from, false_from_ne_true}
use Rattle.std.proofs.Math.Nat.{add-mul-mod_self_left}
use Rattle.mu_model.specs.declared.config.Config.{Config}
use Rattle.mu_model.specs.declared.event.Answer.{Answer}
use Rattle.mu_model.specs.declared.event.Event.{Event}
use Rattle.mu_model.specs.declared.event.Target.{Target}
use Rattle.mu_model.specs.declared.event.Verb.{Verb}
use Rattle.mu_model.specs.Allowed.{Needs}
use Rattle.mu_model.specs.Answers.{drained, entered_or_lost, is_enter_of, put_answer, shown}
use Rattle.mu_model.specs.Entering.{open_target}
use Rattle.mu_model.specs.Histories.{before, has, newer_or, part, since}
use Rattle.mu_model.specs.Leaderships.{begins_leadership, grant_at_joining, is_first_ask, is_member, is_over, noted_grant}
use Rattle.mu_model.specs.Legal.{IsLegalHistory}
use Rattle.mu_model.specs.Picks.{is_past, look_answer}
use Rattle.mu_model.specs.Placing.{is_good_look, is_slot_put_at, looked_before_entering, since_joining}
use Rattle.mu_model.specs.Regions.{fence, fence_closing, fence_grant, is_drain_of, is_grant_of, region_log}
use Rattle.mu_model.proofs.Basics.{same_number, same_some}
use Rattle.mu_agree.proofs.Access.{drained_law, entered_facts, opened_is_held}
use Rattle.mu_agree.proofs.Legal.{legal_induction, event_after}
use Rattle.mu_agree.proofs.Members.{join_noted, joining, place_needs, stays_noted}
use Rattle.mu_agree.proofs.Slots.{put_in'}
use Rattle.mu_words.specs.Standing.{stamp, target_word}
use Rattle.mu_words.proofs.Logs.{length_added, shown_elsewhere}
use Rattle.mu_words.proofs.Tracking.{kept_in_history}
use Rattle.mu_words.proofs.Opening.{not_other_slot}
use Rattle.mu_model.proofs.Putting.{MayEnter}

abbrev pub sees : ℕ → ℕ → ℕ → Event → Bool
sees r p i e = is_good_look (look_answer r p i e.by e.verb e.answer)

abbrev pub puts_at : ℕ → ℕ → ℕ → ℕ → Event → Bool
puts_at r p ring i e = is_slot_put_at r p ring i e.by e.verb

-- since p became a member a look at i was no `Past`, and no put of r came since at that place
abbrev pub looked_since : Config → ℕ → ℕ → ℕ → List Event → Bool
looked_since c r p i past = has (sees r p i) (since (puts_at r p c.ring i) (since_joining r p past))

pub record Looked (m pe le rest : Bool) : Type 0 where
  pub member : m ≡ true
  pub no_put : pe ≡ false
  pub case : (le ≡ true) ⊎ (rest ≡ true)

looked_back : (L P : Event → Bool) (e : Event) (sj : List Event) (begins m : Bool) (pe : Bool) → P e ≡ pe → (le : Bool) → L e ≡ le → has L (since P (cond begins [] (cond m (e ∷ sj) []))) ≡ true → Looked m pe le (has L (since P sj))
looked_back L P e sj true m pe hp le hl h = cc
looked_back L P e sj false false pe hp le hl h = cc
looked_back L P e sj false true true hp le hl h = absurd (true≢false (sym h ∙ ap (λ t. has L (cond t [] (e ∷ since P sj))) hp))
looked_back L P e sj false true false hp true hl h = record { member = refl; no_put = refl; case = inl refl }
looked_back L P e sj false true false hp false hl h = record { member = refl; no_put = refl; case = inr (sym (ap (λ t. has L (cond t [] (e ∷ since P sj))) hp ∙ ap (λ t. cond t true (has L (since P sj))) hl) ∙ h) }

pub looks_back : (c : Config) (r p i : ℕ) (e : Event) (past : List Event) → looked_since c r p i (e ∷ past) ≡ true → Looked (is_member r p past) (puts_at r p c.ring i e) (sees r p i e) (looked_since c r p i past)
looks_back c r p i e past h = looked_back (sees r p i) (puts_at r p c.ring i) e (since_joining r p past) (begins_leadership r e) (is_member r p past) (puts_at r p c.ring i e) refl (sees r p i e) refl h

-- a step that is no look leaves what was looked at
quiet_case : (le rest : Bool) → le ≡ false → (le ≡ true) ⊎ (rest ≡ true) → rest ≡ true
quiet_case le rest h (inl e) = absurd (true≢false (sym e ∙ h))
quiet_case le rest h (inr e) = e

-- the same if the event is known not to begin a leadership
quiet_on : (c : Config) (r p i : ℕ) (e : Event) (past : List Event) → sees r p i e ≡ false → has (sees r p i) (since (puts_at r p c.ring i) (cond (is_member r p past) (e ∷ since_joining r p past) [])) ≡ true → looked_since c r p i past ≡ true
quiet_on c r p i e past n h =
    quiet_case (sees r p i e) (looked_since c r p i past) n
    (looked_back (sees r p i) (puts_at r p c.ring i) e (since_joining r p past) false (is_member r p past) (puts_at r p c.ring i e) refl (sees r p i e) refl h).case

pub quiet : (c : Config) (r p i : ℕ) (e : Event) (past : List Event) → sees r p i e ≡ false → looked_since c r p i (e ∷ past) ≡ true → looked_since c r p i past ≡ true
quiet c r p i e past n h = quiet_case (sees r p i e) (looked_since c r p i past) n (looks_back c r p i e past h).case

-- the log isn't past i, and the word is the one kept
pub record Tied (ring i len kept word : ℕ) : Type 0 where
  pub room : len ≤ i + ring
  pub is : kept ≡ word

abbrev pub place_word : Config → ℕ → ℕ → List Event → ℕ
place_word c p i past = target_word c p (Target.Place (i % c.ring)) past

abbrev pub SeenTie : Config → ℕ → ℕ → ℕ → List Event → Type 0
SeenTie c r p i past =
    (g : ℕ) → grant_at_joining r p past ≡ Some (Some g) → g ≡ fence_grant p past → has (is_drain_of p) (since (is_grant_of p) past) ≡ false → looked_since c r p i past ≡ true
    → Tied c.ring i (length (region_log p past)) (kept_in_history c r p (Target.Place (i % c.ring)) past).0 (place_word c p i past)

seen_ask : (c : Config) (r p i by q : ℕ) (past : List Event) → SeenTie c r p i past → (t : Bool) → is_first_ask r by (Verb.Ask q) ≡ t → SeenTie c r p i (event_after c past by (Verb.Ask q) ∷ past)
seen_ask c r p i by q past s true h = rw h (λ g j. cc)
seen_ask c r p i by q past s false h = rw h (λ g j k d l. s g j k d (quiet_on c r p i (event_after c past by (Verb.Ask q)) past refl l))

seen_grant : (c : Config) (r p i by w : ℕ) (past : List Event) → IsLegalHistory c past → SeenTie c r p i past → (t : Bool) → (by == p) ≡ t → SeenTie c r p i (event_after c past by (Verb.Grant w) ∷ past)
seen_grant c r p i by w past h s true k =
    rw k (λ g j m d l. absurd (let n = (joining c r p past h g ((join_noted c r p past h).is g j)).0 in omega arith))
seen_grant c r p i by w past h s false k = rw k (λ g j m d l. s g j m d (quiet c r p i (event_after c past by (Verb.Grant w)) past refl l))

seen_drain : (c : Config) (r p i by : ℕ) (past : List Event) → SeenTie c r p i past → (t : Bool) → (by == p) ≡ t → SeenTie c r p i (event_after c past by Verb.Drain ∷ past)
seen_drain c r p i by past s true k = rw k (λ g j m d. absurd (true≢false d))
seen_drain c r p i by past s false k = rw k (λ g j m d l. s g j m d (quiet c r p i (event_after c past by Verb.Drain) past refl l))

seen_enter : (c : Config) (r p i by q : ℕ) (t : Target) (a : Answer) (past : List Event) → SeenTie c r p i past → (x : Bool) → ((by == r) && (q == p)) ≡ x → SeenTie c r p i (record { by = by; verb = Verb.Enter q t; answer = a } ∷ past)
seen_enter c r p i by q t a past s true k = rw k (λ g j m d l. s g j m d (quiet c r p i (record { by = by; verb = Verb.Enter q t; answer = a }) past refl l))
seen_enter c r p i by q t a past s false k = rw k (λ g j m d l. s g j m d (quiet c r p i (record { by = by; verb = Verb.Enter q t; answer = a }) past refl l))

stays_member : (j : Option (Option ℕ)) (n : Option ℕ) → is_some j ≡ true → newer_or j (Some n) ≡ j
stays_member None n h = absurd (true≢false (sym h))
stays_member (Some o) n h = refl

seen_put_min : (c : Config) (r p i by q b : ℕ) (a : Answer) (past : List Event) → SeenTie c r p i past → (x : Bool) → ((by == r) && (q == p)) ≡ x → SeenTie c r p i (record { by = by; verb = Verb.PutMin q b; answer = a } ∷ past)
seen_put_min c r p i by q b Answer.Done past s true k =
    rw k (λ g j m d l.
    let e = looks_back c r p i (record { by = by; verb = Verb.PutMin q b; answer = Answer.Done }) past l in
    s g (sym (stays_member (grant_at_joining r p past) (noted_grant r p past) e.member) ∙ j) m d (quiet c r p i (record { by = by; verb = Verb.PutMin q b; answer = Answer.Done }) past refl l))
seen_put_min c r p i by q b Answer.Done past s false k = rw k (λ g j m d l. s g j m d (quiet c r p i (record { by = by; verb = Verb.PutMin q b; answer = Answer.Done }) past refl l))
seen_put_min c r p i by q b a past s x k = λ g j m d l. s g j m d (quiet c r p i (record { by = by; verb = Verb.PutMin q b; answer = a }) past refl l)

-- a look that isn't `Past` shows that there is room
abbrev pub look_of : ℕ → List (ℕ × ℕ) → ℕ → Answer
look_of ring log i = cond (nat_lt (i + ring) (length log)) Answer.Past (shown (slice_get log i))

pub not_past_room : (ring : ℕ) (log : List (ℕ × ℕ)) (i : ℕ) → not (is_past (look_of ring log i)) ≡ true → length log ≤ i + ring
not_past_room ring log i h = go (nat_lt (i + ring) (length log)) refl h
  where
    go : (t : Bool) → nat_lt (i + ring) (length log) ≡ t → not (is_past (cond t Answer.Past (shown (slice_get log i)))) ≡ true → length log ≤ i + ring
    go true e k = absurd (true≢false (sym k))
    go false e k = grind (arith)

pub record LookParts (r p i by q j : ℕ) (a : Answer) : Type 0 where
  pub by_r : by ≡ r
  pub at_p : q ≡ p
  pub at_i : j ≡ i
  pub good : not (is_past a) ≡ true

look_parts : (r p i by q j : ℕ) (a : Answer) → sees r p i (record { by = by; verb = Verb.Look q j; answer = a }) ≡ true → LookParts r p i by q j a
look_parts r p i by q j a h = go ((by == r) && ((q == p) && (j == i))) refl h
  where
    go : (t : Bool) → ((by == r) && ((q == p) && (j == i))) ≡ t → is_good_look (cond t (Some a) None) ≡ true → LookParts r p i by q j a
    go true e k = let x = and_parts (by == r) ((q == p) && (j == i)) e in let y = and_parts (q == p) (j == i) x.1 in record { by_r = eqb-true by r x.0; at_p = eqb-true q p y.0; at_i = eqb-true j i y.1; good = k }
    go false e k = absurd (true≢false (sym k))

seen_look : (c : Config) (r p i by q j : ℕ) (past : List Event) → SeenTie c r p i past → (x : Bool) → ((i % c.ring == j % c.ring) && ((by == r) && (q == p))) ≡ x → SeenTie c r p i (event_after c past by (Verb.Look q j) ∷ past)
seen_look c r p i by q j past s true h =
    let x = and_parts (i % c.ring == j % c.ring) ((by == r) && (q == p)) h in
    let at_p = eqb-true q p (and_parts (by == r) (q == p) x.1).1 in
    rw h (λ g k m d l. record {
      room = elim ((looks_back c r p i (event_after c past by (Verb.Look q j)) past l).case) [
        | inl e ↦ (let f = look_parts r p i by q j (look_of c.ring (region_log q past) j) e in
            subst (λ z. length (region_log z past) ≤ i + c.ring) at_p (subst (λ z. length (region_log q past) ≤ z + c.ring) f.at_i (not_past_room c.ring (region_log q past) j f.good)))
        | inr e ↦ (s g k m d e).room
      ];
      is = ap (λ z. target_word c z (Target.Place (j % c.ring)) past) at_p ∙ ap (λ z. target_word c p (Target.Place z) past) (sym (eqb-true (i % c.ring) (j % c.ring) x.0));
    })
seen_look c r p i by q j past s false h =
    rw h (λ g k m d l. elim ((looks_back c r p i (event_after c past by (Verb.Look q j)) past l).case) [
      | inl e ↦ (let f = look_parts r p i by q j (look_of c.ring (region_log q past) j) e in
          absurd (true≢false (sym (and_from (i % c.ring == j % c.ring) ((by == r) && (q == p)) (subst (λ z. (z % c.ring == j % c.ring) ≡ true) f.at_i (same_number (j % c.ring))) (and_from (by == r) (q == p) (subst (λ z. (by == z) ≡ true) f.by_r (same_number by)) (subst (λ z. (q == z) ≡ true) f.at_p (same_number q)))) ∙ h)))
      | inr e ↦ s g k m d e
    ])

pub add-mod : (ring i : ℕ) → (i + ring) % ring ≡ i % ring
add-mod ring i = ap (λ x. (i + x) % ring) (let o : ring ≡ ring * 1 = omega arith in o) ∙ add-mul-mod_self_left i ring 1

below_from : (a b n : ℕ) → (a ≡ b → ⊥) → a ≤ b → n ≡ suc a → n ≤ b
below_from a b n d h e = grind (arith)

-- a put at another place leaves room at i
room_after : (ring : ℕ) (log : List (ℕ × ℕ)) (i j : ℕ) (z : ℕ × ℕ) → (j % ring ≡ i % ring → ⊥) → length log ≤ i + ring → length (put_in' log j z) ≤ i + ring
room_after ring log i j z d h = go (j == length log) refl
  where
    go : (t : Bool) → (j == length log) ≡ t → length (cond t (log ++ z ∷ []) (set log j z)) ≤ i + ring
    go true e =
        let n = length_added log z in
        let k = eqb-true j (length log) e in
        let apart : length log ≡ i + ring → ⊥ = λ m. d (ap (λ x. x % ring) (k ∙ m) ∙ add-mod ring i) in
        below_from (length log) (i + ring) (length (log ++ z ∷ [])) apart h n
    go false e = let n = length-set log j z in omega arith

seen_put_slot : (c : Config) (r p i by q j b w : ℕ) (past : List Event) → IsLegalHistory c past → Needs c by (part by past) (Verb.PutSlot q j b w) → SeenTie c r p i past
    → (a : Answer) → put_answer (drained by q past) ≡ a → (x : Bool) → (by == r) ≡ x → (y : Bool) → (q == p) ≡ y
    → SeenTie c r p i (record { by = by; verb = Verb.PutSlot q j b w; answer = a } ∷ past)
seen_put_slot c r p i by q j b w past h may s Answer.Done e true hx true hy =
    rw hy (λ g k m d l.
    let f = looks_back c r p i (record { by = by; verb = Verb.PutSlot q j b w; answer = Answer.Done }) past l in
    let o = s g k m d (quiet c r p i (record { by = by; verb = Verb.PutSlot q j b w; answer = Answer.Done }) past refl l) in
    let apart : j % c.ring ≡ i % c.ring → ⊥ = λ t. true≢false (sym (and_from (by == r) ((q == p) && (j % c.ring == i % c.ring)) hx (and_from (q == p) (j % c.ring == i % c.ring) hy (subst (λ z. (j % c.ring == z) ≡ true) t (same_number (j % c.ring))))) ∙ f.no_put) in
    record {
      room = room_after c.ring (region_log p past) i j (b, w) apart o.room;
      is = o.is ∙ ap (λ x. stamp c p (Target.Place (i % c.ring)) past * 140737488355328 + x) (sym (shown_elsewhere c.ring (i % c.ring) (region_log p past) j (b, w) apart));
    })
seen_put_slot c r p i by q j b w past h may s Answer.Done e false hx true hy =
    rw hy (λ g k m d l. absurd (not_other_slot c r p by q j b w past h may e hx hy ((joining c r p past h g ((join_noted c r p past h).is g k)).1 m).0))
seen_put_slot c r p i by q j b w past h may s Answer.Done e x hx false hy =
    rw hy (λ g k m d l. s g k m d (quiet c r p i (record { by = by; verb = Verb.PutSlot q j b w; answer = Answer.Done }) past refl l))
seen_put_slot c r p i by q j b w past h may s a e x hx y hy =
    λ g k m d l. s g k m d (quiet c r p i (record { by = by; verb = Verb.PutSlot q j b w; answer = a }) past refl l)

seen_step : (c : Config) (r p i by : ℕ) (v : Verb) (past : List Event) → IsLegalHistory c past → Needs c by (part by past) v → SeenTie c r p i past → SeenTie c r p i (event_after c past by v ∷ past)
seen_step c r p i by (Verb.Ask q) past h may s = seen_ask c r p i by q past s (is_first_ask r by (Verb.Ask q)) refl
seen_step c r p i by (Verb.Enter q t) past h may s = seen_enter c r p i by q t (entered_or_lost (noted_grant by q past) (fence q past)) past s ((by == r) && (q == p)) refl
seen_step c r p i by (Verb.PutMin q b) past h may s = seen_put_min c r p i by q b (put_answer (drained by q past)) past s ((by == r) && (q == p)) refl
seen_step c r p i by (Verb.Look q j) past h may s = seen_look c r p i by q j past s ((i % c.ring == j % c.ring) && ((by == r) && (q == p))) refl
seen_step c r p i by (Verb.PutSlot q j b w) past h may s = seen_put_slot c r p i by q j b w past h may s (put_answer (drained by q past)) refl (by == r) refl (q == p) refl
seen_step c r p i by Verb.Drain past h may s = seen_drain c r p i by past s (by == p) refl
seen_step c r p i by (Verb.Grant w) past h may s = seen_grant c r p i by w past h s (by == p) refl
seen_step c r p i by v past h may s = λ g k m d l. s g k m d (quiet c r p i (event_after c past by v) past refl l)

pub seen_tie : (c : Config) (r p i : ℕ) (past : List Event) → IsLegalHistory c past → SeenTie c r p i past
seen_tie c r p i = legal_induction c (SeenTie c r p i) (λ g j. cc) (λ past by v h may s. seen_step c r p i by v past h may.may s)

before_back : (L P E : Event → Bool) (e : Event) (sj : List Event) (begins m : Bool) → E e ≡ false → has L (since P (before E (cond begins [] (cond m (e ∷ sj) [])))) ≡ true → has L (since P (before E sj)) ≡ true
before_back L P E e sj true m n h = cc
before_back L P E e sj false true n h = sym (ap (λ t. has L (since P (cond t sj (before E sj)))) n) ∙ h
before_back L P E e sj false false n h = cc

before_here : (L P E : Event → Bool) (e : Event) (sj : List Event) (begins m : Bool) → E e ≡ true → has L (since P (before E (cond begins [] (cond m (e ∷ sj) [])))) ≡ true → has L (since P sj) ≡ true
before_here L P E e sj true m n h = cc
before_here L P E e sj false true n h = sym (ap (λ t. has L (since P (cond t sj (before E sj)))) n) ∙ h
before_here L P E e sj false false n h = cc

pub before_quiet : (c : Config) (r p i : ℕ) (e : Event) (past : List Event) → is_enter_of r p e ≡ false → looked_before_entering c r p i (e ∷ past) ≡ true → looked_before_entering c r p i past ≡ true
before_quiet c r p i e past n h = before_back (sees r p i) (puts_at r p c.ring i) (is_enter_of r p) e (since_joining r p past) (begins_leadership r e) (is_member r p past) n h

-- the same if the event is known not to begin a leadership
before_quiet_on : (c : Config) (r p i : ℕ) (e : Event) (past : List Event) → is_enter_of r p e ≡ false
    → has (sees r p i) (since (puts_at r p c.ring i) (before (is_enter_of r p) (cond (is_member r p past) (e ∷ since_joining r p past) []))) ≡ true → looked_before_entering c r p i past ≡ true
before_quiet_on c r p i e past n h = before_back (sees r p i) (puts_at r p c.ring i) (is_enter_of r p) e (since_joining r p past) false (is_member r p past) n h

-- the same for what was seen before the `Enter` that is open
abbrev pub FixedTie : Config → ℕ → ℕ → ℕ → List Event → Type 0
FixedTie c r p i past =
    (u : ℕ) → open_target r p past ≡ Some (Target.Place u) → drained r p past ≡ false → looked_before_entering c r p i past ≡ true
    → Tied c.ring i (length (region_log p past)) (kept_in_history c r p (Target.Place (i % c.ring)) past).1 (place_word c p i past)

fixed_ask : (c : Config) (r p i by q : ℕ) (past : List Event) → FixedTie c r p i past → (t : Bool) → is_first_ask r by (Verb.Ask q) ≡ t → FixedTie c r p i (event_after c past by (Verb.Ask q) ∷ past)
fixed_ask c r p i by q past s true h = rw h (λ u e. cc)
fixed_ask c r p i by q past s false h = rw h (λ u e d l. s u e d (before_quiet_on c r p i (event_after c past by (Verb.Ask q)) past refl l))

fixed_put_min : (c : Config) (r p i by q b : ℕ) (a : Answer) (past : List Event) → FixedTie c r p i past → (x : Bool) → ((by == r) && (q == p)) ≡ x → FixedTie c r p i (record { by = by; verb = Verb.PutMin q b; answer = a } ∷ past)
fixed_put_min c r p i by q b a past s true k = rw k (λ u e. cc)
fixed_put_min c r p i by q b Answer.Done past s false k = rw k (λ u e d l. s u e d (before_quiet c r p i (record { by = by; verb = Verb.PutMin q b; answer = Answer.Done }) past refl l))
fixed_put_min c r p i by q b a past s false k = rw k (λ u e d l. s u e d (before_quiet c r p i (record { by = by; verb = Verb.PutMin q b; answer = a }) past refl l))

fixed_put_slot : (c : Config) (r p i by q j b w : ℕ) (past : List Event) → IsLegalHistory c past → Needs c by (part by past) (Verb.PutSlot q j b w) → FixedTie c r p i past
    → (a : Answer) → put_answer (drained by q past) ≡ a → (x : Bool) → (by == r) ≡ x → (y : Bool) → (q == p) ≡ y
    → FixedTie c r p i (record { by = by; verb = Verb.PutSlot q j b w; answer = a } ∷ past)
fixed_put_slot c r p i by q j b w past h may s a e true hx true hy = rw (hx, hy) (λ u e'. cc)
fixed_put_slot c r p i by q j b w past h may s Answer.Done e false hx true hy =
    rw (hx, hy) (λ u e' d l. absurd (not_other_slot c r p by q j b w past h may e hx hy (opened_is_held c r p past h (Target.Place u) e' refl d).by_owner))
fixed_put_slot c r p i by q j b w past h may s Answer.Done e true hx false hy =
    rw (hx, hy) (λ u e' d l. s u e' d (before_quiet c r p i (record { by = by; verb = Verb.PutSlot q j b w; answer = Answer.Done }) past refl l))
fixed_put_slot c r p i by q j b w past h may s Answer.Done e false hx false hy =
    rw (hx, hy) (λ u e' d l. s u e' d (before_quiet c r p i (record { by = by; verb = Verb.PutSlot q j b w; answer = Answer.Done }) past refl l))
fixed_put_slot c r p i by q j b w past h may s a e true hx false hy =
    rw (hx, hy) (λ u e' d l. s u e' d (before_quiet c r p i (record { by = by; verb = Verb.PutSlot q j b w; answer = a }) past refl l))
fixed_put_slot c r p i by q j b w past h may s a e false hx y hy =
    rw hx (λ u e' d l. s u e' d (before_quiet c r p i (record { by = by; verb = Verb.PutSlot q j b w; answer = a }) past refl l))

fixed_drain : (c : Config) (r p i by : ℕ) (past : List Event) → FixedTie c r p i past → (t : Bool) → (by == p) ≡ t → FixedTie c r p i (event_after c past by Verb.Drain ∷ past)
fixed_drain c r p i by past s true k = rw k (λ u e d. absurd (true≢false d))
fixed_drain c r p i by past s false k = rw k (λ u e d l. s u e d (before_quiet c r p i (event_after c past by Verb.Drain) past refl l))

fixed_look : (c : Config) (r p i by q j : ℕ) (past : List Event) → FixedTie c r p i past → (x : Bool) → ((i % c.ring == j % c.ring) && ((by == r) && (q == p))) ≡ x → FixedTie c r p i (event_after c past by (Verb.Look q j) ∷ past)
fixed_look c r p i by q j past s true h = rw h (λ u e d l. s u e d (before_quiet c r p i (event_after c past by (Verb.Look q j)) past refl l))
fixed_look c r p i by q j past s false h = rw h (λ u e d l. s u e d (before_quiet c r p i (event_after c past by (Verb.Look q j)) past refl l))

-- an `Enter` for a place takes what was seen
entering_tie : (c : Config) (r p i u : ℕ) (t : Target) (past : List Event) → IsLegalHistory c past → MayEnter c r (part r past) p t → t ≡ Target.Place u → entered_or_lost (noted_grant r p past) (fence p past) ≡ Answer.Entered → looked_since c r p i past ≡ true
    → Tied c.ring i (length (region_log p past)) (kept_in_history c r p (Target.Place (i % c.ring)) past).0 (place_word c p i past)
entering_tie c r p i u t past h may e en l =
    let k = entered_facts (noted_grant r p past) (fence p past) en in
    let m = place_needs c r p u t past may e in
    member_tie (grant_at_joining r p past) refl m.0 k.g k.is (sym k.same) m.1 k.not_closing
  where
    member_tie : (o : Option (Option ℕ)) → grant_at_joining r p past ≡ o → is_some o ≡ true → (g : ℕ) → noted_grant r p past ≡ Some g → g ≡ fence_grant p past → is_over r past ≡ false → fence_closing p past ≡ false
        → Tied c.ring i (length (region_log p past)) (kept_in_history c r p (Target.Place (i % c.ring)) past).0 (place_word c p i past)
    member_tie None e m g n k v f = absurd (true≢false (sym m))
    member_tie (Some o) e m g n k v f =
        seen_tie c r p i past h g (e ∙ ap Some (stays_noted c r p past h o g v e n)) k
        (false_from_ne_true (has (is_drain_of p) (since (is_grant_of p) past)) (λ d. true≢false (sym (drained_law c p past h d).0 ∙ f))) l

fixed_enter : (c : Config) (r p i by q : ℕ) (t : Target) (past : List Event) → IsLegalHistory c past → MayEnter c by (part by past) q t → FixedTie c r p i past
    → (a : Answer) → entered_or_lost (noted_grant by q past) (fence q past) ≡ a → (x : Bool) → (by == r) ≡ x → (y : Bool) → (q == p) ≡ y
    → FixedTie c r p i (record { by = by; verb = Verb.Enter q t; answer = a } ∷ past)
fixed_enter c r p i by q t past h may s Answer.Entered e true hx true hy =
    let at_p = subst (λ z. entered_or_lost (noted_grant by z past) (fence z past) ≡ Answer.Entered) (eqb-true q p hy) e in
    let at_r = subst (λ z. entered_or_lost (noted_grant z p past) (fence p past) ≡ Answer.Entered) (eqb-true by r hx) at_p in
    let may_p = subst (λ z. MayEnter c by (part by past) z t) (eqb-true q p hy) may in
    let may_r = subst (λ z. MayEnter c z (part z past) p t) (eqb-true by r hx) may_p in
    let ev : Event = record { by = by; verb = Verb.Enter q t; answer = Answer.Entered } in
    rw (hx, hy) (λ u e' d l. entering_tie c r p i u t past h may_r (same_some t (Target.Place u) e') at_r
    (before_here (sees r p i) (puts_at r p c.ring i) (is_enter_of r p) ev (since_joining r p past) (begins_leadership r ev) (is_member r p past) (and_from (by == r) (q == p) hx hy) l))
fixed_enter c r p i by q t past h may s Answer.Entered e true hx false hy =
    rw (hx, hy) (λ u e' d l. s u e' d (before_quiet c r p i (record { by = by; verb = Verb.Enter q t; answer = Answer.Entered }) past (rw (hx, hy) refl) l))
fixed_enter c r p i by q t past h may s Answer.Entered e false hx y hy =
    rw hx (λ u e' d l. s u e' d (before_quiet c r p i (record { by = by; verb = Verb.Enter q t; answer = Answer.Entered }) past (rw hx refl) l))
fixed_enter c r p i by q t past h may s a e true hx true hy = rw (hx, hy) (λ u e'. cc)
fixed_enter c r p i by q t past h may s a e true hx false hy =
    rw (hx, hy) (λ u e' d l. s u e' d (before_quiet c r p i (record { by = by; verb = Verb.Enter q t; answer = a }) past (rw (hx, hy) refl) l))
fixed_enter c r p i by q t past h may s a e false hx y hy =
    rw hx (λ u e' d l. s u e' d (before_quiet c r p i (record { by = by; verb = Verb.Enter q t; answer = a }) past (rw hx refl) l))

fixed_step : (c : Config) (r p i by : ℕ) (v : Verb) (past : List Event) → IsLegalHistory c past → Needs c by (part by past) v → FixedTie c r p i past → FixedTie c r p i (event_after c past by v ∷ past)
fixed_step c r p i by (Verb.Ask q) past h may s = fixed_ask c r p i by q past s (is_first_ask r by (Verb.Ask q)) refl
fixed_step c r p i by (Verb.Enter q t) past h may s = fixed_enter c r p i by q t past h may.1 s (entered_or_lost (noted_grant by q past) (fence q past)) refl (by == r) refl (q == p) refl
fixed_step c r p i by (Verb.PutMin q b) past h may s = fixed_put_min c r p i by q b (put_answer (drained by q past)) past s ((by == r) && (q == p)) refl
fixed_step c r p i by (Verb.PutSlot q j b w) past h may s = fixed_put_slot c r p i by q j b w past h may s (put_answer (drained by q past)) refl (by == r) refl (q == p) refl
fixed_step c r p i by (Verb.Look q j) past h may s = fixed_look c r p i by q j past s ((i % c.ring == j % c.ring) && ((by == r) && (q == p))) refl
fixed_step c r p i by Verb.Drain past h may s = fixed_drain c r p i by past s (by == p) refl
fixed_step c r p i by v past h may s = λ u e d l. s u e d (before_quiet c r p i (event_after c past by v) past refl l)

pub fixed_tie : (c : Config) (r p i : ℕ) (past : List Event) → IsLegalHistory c past → FixedTie c r p i past
fixed_tie c r p i = legal_induction c (FixedTie c r p i) (λ u e. cc) (λ past by v h may s. fixed_step c r p i by v past h may.may s)
