-- What a step leaves below the stamps.
use Rattle.std.proofs.Common.{◌≡◌, ℕ, zero, suc, ◌+◌, ◌*◌, ◌/◌, ◌%◌, ◌<◌, ◌≤◌, Bool, true, false, cond, ◌&&◌, ◌==◌, List, [], ◌∷◌, ◌++◌, refl, sym, ◌∙◌, ap, arith, Some, None, subst, eqb-true, true≢false, length, set, length-set}
use Rattle.std.specs.declared.option.Option.{Option}
use Rattle.std.specs.List.{slice_get}
use Rattle.std.specs.Prelude.{is_some}
use Rattle.std.proofs.lemmas.Bool.{eqb-false}
use Rattle.std.proofs.Math.Nat.{div-add-mod, mul-le-mul_left, lt_of_mul-lt-mul_left}
use Rattle.mu_model.specs.declared.config.Config.{Config}
use Rattle.mu_model.specs.declared.event.Answer.{Answer}
use Rattle.mu_model.specs.declared.event.Event.{Event}
use Rattle.mu_model.specs.declared.event.Target.{Target}
use Rattle.mu_model.specs.declared.event.Verb.{Verb}
use Rattle.mu_model.specs.Allowed.{Needs}
use Rattle.mu_model.specs.Answers.{answer_of, drained, is_enter_by, is_enter_of, put_answer}
use Rattle.mu_model.specs.Histories.{before, has, part, since}
use Rattle.mu_model.specs.Leaderships.{begins_leadership, is_member}
use Rattle.mu_model.specs.Legal.{IsLegalHistory}
use Rattle.mu_model.specs.Picks.{look_answer}
use Rattle.mu_model.specs.Placing.{is_good_look, is_slot_put_at, looked_before_entering, since_joining}
use Rattle.mu_model.specs.Regions.{region_log, region_min}
use Rattle.mu_model.proofs.Basics.{same_number}
use Rattle.mu_model.proofs.Owned.{IsOwnTest, before-part, begins-own, has-part, since-part}
use Rattle.mu_agree.proofs.Access.{open_target-part, put_done_undrained}
use Rattle.mu_agree.proofs.Entering.{slot_entered}
use Rattle.mu_agree.proofs.Landed.{get_put_same, lands_within}
use Rattle.mu_agree.proofs.Legal.{event_after}
use Rattle.mu_agree.proofs.Members.{joined_under-part}
use Rattle.mu_agree.proofs.Slots.{put_in'}
use Rattle.mu_words.specs.Standing.{content, place_fields, place_fields_below, fields, entry_fields, leaves}
use Rattle.mu_words.proofs.Limits.{Limits}
use Rattle.mu_words.proofs.Logs.{length_added, shown_elsewhere}
use Rattle.mu_words.proofs.Tracking.{kept_in_history}
use Rattle.mu_words.proofs.PlaceTies.{sees, puts_at, Tied, fixed_tie, place_word}
use Rattle.mu_model.proofs.Putting.{put_facts}

pub mod_near : (ring i k : ℕ) → i < k → k < i + ring → k % ring ≡ i % ring → ⊥
mod_near ring i k h g e =
    let a = div-add-mod k ring in
    let b = div-add-mod i ring in
    let l : ring * (i / ring) < ring * (k / ring) = omega arith in
    let m = lt_of_mul-lt-mul_left ring l in
    let n : ring * (i / ring + 1) ≤ ring * (k / ring) = mul-le-mul_left ring (omega arith) in
    let o = step ring (i / ring) in
    omega arith
  where
    step : (a b : ℕ) → a * (b + 1) ≡ a * b + a
    step a b = grind (arith)

-- among the positions below k, i is the last of its place
pub shown_at : (ring i : ℕ) (log : List (ℕ × ℕ)) (k : ℕ) → i < k → k ≤ i + ring → place_fields_below ring (i % ring) log k ≡ entry_fields ring i (slice_get log i)
shown_at ring i log zero h g = absurd (omega arith)
shown_at ring i log (suc k) h g = go (k % ring == i % ring) refl (k == i) refl (λ m. shown_at ring i log k m (omega arith))
  where
    go : (t : Bool) → (k % ring == i % ring) ≡ t → (u : Bool) → (k == i) ≡ u → (i < k → place_fields_below ring (i % ring) log k ≡ entry_fields ring i (slice_get log i))
        → cond t (entry_fields ring k (slice_get log k)) (place_fields_below ring (i % ring) log k) ≡ entry_fields ring i (slice_get log i)
    go true e true f ih = ap (λ x. entry_fields ring x (slice_get log x)) (eqb-true k i f)
    go true e false f ih = let d = eqb-false k i f in absurd (mod_near ring i k (omega arith) (omega arith) (eqb-true (k % ring) (i % ring) e))
    go false e true f ih = absurd (true≢false (sym (ap (λ x. (x % ring == i % ring)) (eqb-true k i f) ∙ same_number (i % ring)) ∙ e))
    go false e false f ih = let d = eqb-false k i f in ih (omega arith)

length_after : (ring : ℕ) (log : List (ℕ × ℕ)) (i : ℕ) (z : ℕ × ℕ) → 1 ≤ ring → i ≤ length log → length log ≤ i + ring → (i < length (put_in' log i z)) × (length (put_in' log i z) ≤ i + ring)
length_after ring log i z r h g = go (i == length log) refl
  where
    go : (t : Bool) → (i == length log) ≡ t → (i < length (cond t (log ++ z ∷ []) (set log i z))) × (length (cond t (log ++ z ∷ []) (set log i z)) ≤ i + ring)
    go true e = let n = length_added log z in let k = eqb-true i (length log) e in (omega arith, omega arith)
    go false e = let n = length-set log i z in let k = eqb-false i (length log) e in (omega arith, omega arith)

pub shown_here : (ring : ℕ) (log : List (ℕ × ℕ)) (i : ℕ) (z : ℕ × ℕ) → 1 ≤ ring → i ≤ length log → length log ≤ i + ring → place_fields ring (i % ring) (put_in' log i z) ≡ fields ring i z.0 z.1
shown_here ring log i z r h g =
    let k = length_after ring log i z r h g in
    shown_at ring i (put_in' log i z) (length (put_in' log i z)) k.0 k.1 ∙ ap (entry_fields ring i) (get_put_same log i z h)

-- what allows a put is the same on the part
sees-own : (r p i : ℕ) → IsOwnTest r (sees r p i)
sees-own r p i = record { own = λ e h. go e.by e.verb e.answer h }
  where
    go : (by : ℕ) (v : Verb) (a : Answer) → (by == r) ≡ false → is_good_look (look_answer r p i by v a) ≡ false
    go by (Verb.Look q j) a h = rw h refl
    go by v a h = refl

puts_at-own : (r p ring i : ℕ) → IsOwnTest r (puts_at r p ring i)
puts_at-own r p ring i = record { own = λ e h. go e.by e.verb h }
  where
    go : (by : ℕ) (v : Verb) → (by == r) ≡ false → is_slot_put_at r p ring i by v ≡ false
    go by (Verb.PutSlot q j b v) h = rw h refl
    go by v h = refl

enters-own : (r p : ℕ) → IsOwnTest r (is_enter_of r p)
enters-own r p = record { own = λ e h. go e.by e.verb h }
  where
    go : (by : ℕ) (v : Verb) → (by == r) ≡ false → is_enter_by r p by v ≡ false
    go by (Verb.Enter q t) h = rw h refl
    go by v h = refl

member-part : (r p : ℕ) (past : List Event) → is_member r p (part r past) ≡ is_member r p past
member-part r p past = ap is_some (joined_under-part r p past)

-- another's event leaves r's membership
member-other : (r p : ℕ) (e : Event) (past : List Event) → (e.by == r) ≡ false → is_member r p (e ∷ past) ≡ true → is_member r p past ≡ true
member-other r p e past h m =
    sym (member-part r p past) ∙ ap (λ t. is_member r p (cond t (e ∷ part r past) (part r past))) (sym h) ∙ member-part r p (e ∷ past) ∙ m

since_joining-part : (r p : ℕ) (past : List Event) → is_member r p past ≡ true → since_joining r p (part r past) ≡ part r (since_joining r p past)
since_joining-part r p [] m = refl
since_joining-part r p (e ∷ past) m = go (e.by == r) refl (begins_leadership r e) refl (is_member r p past) refl (member-part r p past) (since_joining-part r p past) (member-other r p e past)
  where
    going : begins_leadership r e ≡ false → since_joining r p (e ∷ part r past) ≡ cond (is_member r p (part r past)) (e ∷ since_joining r p (part r past)) []
    going hb = rw hb refl

    go : (t : Bool) → (e.by == r) ≡ t → (b : Bool) → begins_leadership r e ≡ b → (n : Bool) → is_member r p past ≡ n → is_member r p (part r past) ≡ is_member r p past → (is_member r p past ≡ true → since_joining r p (part r past) ≡ part r (since_joining r p past))
        → ((e.by == r) ≡ false → is_member r p (e ∷ past) ≡ true → is_member r p past ≡ true)
        → since_joining r p (cond t (e ∷ part r past) (part r past)) ≡ part r (cond b [] (cond n (e ∷ since_joining r p past) []))
    go true h true hb n k f ih g = ap (λ x. cond x [] (cond (is_member r p (part r past)) (e ∷ since_joining r p (part r past)) [])) hb
    go true h false hb true k f ih g = going hb ∙ ap (λ x. cond x (e ∷ since_joining r p (part r past)) []) (f ∙ k) ∙ ap (λ x. e ∷ x) (ih k) ∙ ap (λ x. cond x (e ∷ part r (since_joining r p past)) (part r (since_joining r p past))) (sym h)
    go true h false hb false k f ih g = going hb ∙ ap (λ x. cond x (e ∷ since_joining r p (part r past)) []) (f ∙ k)
    go false h true hb n k f ih g = absurd (true≢false (sym hb ∙ (begins-own r).own e h))
    go false h false hb true k f ih g = ih k ∙ ap (λ x. cond x (e ∷ part r (since_joining r p past)) (part r (since_joining r p past))) (sym h)
    go false h false hb false k f ih g = absurd (true≢false (sym (g h m) ∙ k))

pub looked_before-part : (c : Config) (r p i : ℕ) (past : List Event) → is_member r p past ≡ true → looked_before_entering c r p i (part r past) ≡ looked_before_entering c r p i past
looked_before-part c r p i past m =
    ap (λ x. has (sees r p i) (since (puts_at r p c.ring i) (before (is_enter_of r p) x))) (since_joining-part r p past m)
    ∙ ap (λ x. has (sees r p i) (since (puts_at r p c.ring i) x)) (before-part (is_enter_of r p) r (enters-own r p) (since_joining r p past))
    ∙ ap (has (sees r p i)) (since-part (puts_at r p c.ring i) r (puts_at-own r p c.ring i) (before (is_enter_of r p) (since_joining r p past)))
    ∙ has-part (sees r p i) r (sees-own r p i) (since (puts_at r p c.ring i) (before (is_enter_of r p) (since_joining r p past)))

-- an allowed put at a place that isn't drained finds the word that was seen, and room
pub put_tie : (c : Config) (r p i b v : ℕ) (past : List Event) → IsLegalHistory c past → Needs c r (part r past) (Verb.PutSlot p i b v) → drained r p past ≡ false
    → Tied c.ring i (length (region_log p past)) (kept_in_history c r p (Target.Place (i % c.ring)) past).1 (place_word c p i past)
put_tie c r p i b v past h may d =
    fixed_tie c r p i past h (i % c.ring) (sym (open_target-part r p past) ∙ slot_entered c r p i b v (part r past) (put_facts c r (part r past) p i b v may)) d
    (sym (looked_before-part c r p i past (sym (member-part r p past) ∙ (put_facts c r (part r past) p i b v may).member)) ∙ (put_facts c r (part r past) p i b v may).looked)

pub looked_of : (c : Config) (r p i b v : ℕ) (past : List Event) → Needs c r (part r past) (Verb.PutSlot p i b v) → looked_before_entering c r p i past ≡ true
looked_of c r p i b v past may = sym (looked_before-part c r p i past (sym (member-part r p past) ∙ (put_facts c r (part r past) p i b v may).member)) ∙ (put_facts c r (part r past) p i b v may).looked

-- what stands below the stamp after a step
abbrev pub or_old : Option ℕ → ℕ → ℕ
or_old None x = x
or_old (Some y) x = y

none_min : (c : Config) (p by q b : ℕ) (past : List Event) (a : Answer) (y : Bool) → (q == p) ≡ y
    → content c p Target.Min (record { by = by; verb = Verb.PutMin q b; answer = a } ∷ past) ≡ or_old (leaves c p Target.Min (Verb.PutMin q b) a) (region_min p past)
none_min c p by q b past Answer.Done true h = rw h refl
none_min c p by q b past Answer.Done false h = rw h refl
none_min c p by q b past a y h = refl

none_slot : (c : Config) (p by q i b v : ℕ) (past : List Event) (a : Answer) (y : Bool) → (q == p) ≡ y
    → content c p Target.Min (record { by = by; verb = Verb.PutSlot q i b v; answer = a } ∷ past) ≡ or_old (leaves c p Target.Min (Verb.PutSlot q i b v) a) (region_min p past)
none_slot c p by q i b v past Answer.Done true h = rw h refl
none_slot c p by q i b v past Answer.Done false h = rw h refl
none_slot c p by q i b v past a y h = refl

place_min : (c : Config) (p s by q b : ℕ) (past : List Event) (a : Answer) (y : Bool) → (q == p) ≡ y
    → content c p (Target.Place s) (record { by = by; verb = Verb.PutMin q b; answer = a } ∷ past) ≡ or_old (leaves c p (Target.Place s) (Verb.PutMin q b) a) (content c p (Target.Place s) past)
place_min c p s by q b past Answer.Done true h = rw h refl
place_min c p s by q b past Answer.Done false h = rw h refl
place_min c p s by q b past a y h = refl

no_target_puts : (c : Config) (p by : ℕ) (v : Verb) (past : List Event) (a : Answer) → 0 ≡ or_old (leaves c p Target.None v a) 0
no_target_puts c p by (Verb.PutMin q b) past Answer.Done = go (q == p)
  where
    go : (t : Bool) → 0 ≡ or_old (cond (t && false) (Some b) None) 0
    go true = refl
    go false = refl
no_target_puts c p by (Verb.PutSlot q i b v) past Answer.Done = go (q == p)
  where
    go : (t : Bool) → 0 ≡ or_old (cond (t && false) (Some (fields c.ring i b v)) None) 0
    go true = refl
    go false = refl
no_target_puts c p by v past a = refl

place_slot : (c : Config) (p s by q i b v : ℕ) (past : List Event) → Limits c → IsLegalHistory c past → Needs c by (part by past) (Verb.PutSlot q i b v)
    → (a : Answer) → put_answer (drained by q past) ≡ a → (y : Bool) → (q == p) ≡ y → (z : Bool) → (s == i % c.ring) ≡ z
    → content c p (Target.Place s) (record { by = by; verb = Verb.PutSlot q i b v; answer = a } ∷ past) ≡ or_old (leaves c p (Target.Place s) (Verb.PutSlot q i b v) a) (content c p (Target.Place s) past)
place_slot c p s by q i b v past l h may Answer.Done e true hy true hz =
    let at = eqb-true q p hy in
    let room = (put_tie c by q i b v past h may (put_done_undrained (drained by q past) e)).room in
    let inside = lands_within c q by i b v past h may in
    let k = shown_here c.ring (region_log p past) i (b, v) (let m = l.ring_least in omega arith) (subst (λ x. i ≤ length (region_log x past)) at inside) (subst (λ x. length (region_log x past) ≤ i + c.ring) at room) in
    rw (hy, hz) (ap (λ x. place_fields c.ring x (put_in' (region_log p past) i (b, v))) (eqb-true s (i % c.ring) hz) ∙ k)
place_slot c p s by q i b v past l h may Answer.Done e true hy false hz =
    rw (hy, hz) (shown_elsewhere c.ring s (region_log p past) i (b, v) (λ m. true≢false (sym (subst (λ x. (x == i % c.ring) ≡ true) m (same_number (i % c.ring))) ∙ hz)))
place_slot c p s by q i b v past l h may Answer.Done e false hy z hz = rw hy refl
place_slot c p s by q i b v past l h may a e y hy z hz = refl

pub content_after : (c : Config) (p by : ℕ) (t : Target) (v : Verb) (past : List Event) → Limits c → IsLegalHistory c past → Needs c by (part by past) v
    → content c p t (event_after c past by v ∷ past) ≡ or_old (leaves c p t v (answer_of c by past v)) (content c p t past)
content_after c p by Target.None v past l h may = no_target_puts c p by v past (answer_of c by past v)
content_after c p by Target.Min (Verb.PutMin q b) past l h may = none_min c p by q b past (put_answer (drained by q past)) (q == p) refl
content_after c p by Target.Min (Verb.PutSlot q i b v) past l h may = none_slot c p by q i b v past (put_answer (drained by q past)) (q == p) refl
content_after c p by Target.Min v past l h may = refl
content_after c p by (Target.Place s) (Verb.PutMin q b) past l h may = place_min c p s by q b past (put_answer (drained by q past)) (q == p) refl
content_after c p by (Target.Place s) (Verb.PutSlot q i b v) past l h may = place_slot c p s by q i b v past l h may (put_answer (drained by q past)) refl (q == p) refl (s == i % c.ring) refl
content_after c p by (Target.Place s) v past l h may = refl
