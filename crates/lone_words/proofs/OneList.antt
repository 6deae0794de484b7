-- The law of accesses that were answered: one legal list has the events of all replicas.
use Rattle.std.proofs.Common.{◌≡◌, ◌≢◌, ℕ, ◌+◌, ◌*◌, ◌==◌, Bool, true, false, cond, List, [], ◌∷◌, refl, sym, ap, subst, ◌∙◌, eqb-true, ne_eqb, arith}
use Rattle.mu_model.specs.declared.config.Config.{Config}
use Rattle.mu_model.specs.declared.event.Answer.{Answer}
use Rattle.mu_model.specs.declared.event.Event.{Event}
use Rattle.mu_model.specs.declared.event.Verb.{Verb}
use Rattle.mu_model.specs.Allowed.{Allowed}
use Rattle.mu_model.specs.Answers.{answer_of}
use Rattle.mu_model.specs.Contents.{IsConfig}
use Rattle.mu_model.specs.Histories.{event_by, part}
use Rattle.mu_words.specs.declared.layout.Name.{Name}
use Rattle.mu_words.specs.Finding.{expected, found_word, loaded_by, name_of, sights}
use Rattle.mu_words.specs.Places.{IsLayoutOf, IsName}
use Rattle.mu_words.specs.Standing.{close_grant, standing_word}
use Rattle.mu_words.specs.Steps.{event_of}
use Rattle.mu_words.specs.Verbs.{IsMove, answer_from}
use Rattle.mu_words.proofs.Fitting.{word_fits}
use Rattle.mu_words.proofs.Law.{place_named, word_steps_law}
use Rattle.mu_words.proofs.Limits.{config_is_limited}
use Rattle.lone_words.specs.declared.access.Shape.{Shape}
use Rattle.lone_words.specs.Memory.{IsAnsweredOnce, IsOneList, Made, OneLegalList, Own, event_at, events_after, held, held_first, left_by, own_after, own_with, spot_made, stores}
use Rattle.lone_words.specs.Spots.{IsShapeOf, first_row, is_same_spot, layout_of, spot_of}
use Rattle.lone_words.proofs.Effects.{leaves_as_law}
use Rattle.lone_words.proofs.Spots.{differ, same_spot, spots_differ_law}

-- the words before any access are those before any event
abbrev word_at : Bool → ℕ
word_at t = cond t 14336 0

no_place : (o : ℕ) → o ≢ 0 → word_at (o == 0) ≡ 0
no_place o ne = ap word_at (ne_eqb o 0 ne)

at_first : (c : Config) (s : Shape) (n : Name) → held_first (spot_of s n) ≡ standing_word c [] n
at_first c s (Name.Ask p w) = no_place (5 + w) (λ e. omega (arith, e))
at_first c s (Name.Slot p i) = no_place (5 + s.replicas + i) (λ e. omega (arith, e))
at_first c s (Name.Row r j k) = no_place (first_row s + j * 12 + k) (λ e. omega (arith, e))
at_first c s n = refl

-- the answer and the kept word don't depend on a word that isn't looked at
pub same_answer : (ring : ℕ) (v : Verb) (x n w : ℕ) → (stores v ≡ false → n ≡ w) → answer_from ring v x n ≡ answer_from ring v x w
same_answer ring (Verb.WriteRow j k y) x n w is = refl
same_answer ring v x n w is = ap (answer_from ring v x) (is refl)

same_load : (v : Verb) (n w : ℕ) → (stores v ≡ false → n ≡ w) → loaded_by v n ≡ loaded_by v w
same_load (Verb.WriteRow j k y) n w is = refl
same_load v n w is = ap (loaded_by v) (is refl)

pub is_layout : (c : Config) (s : Shape) → IsShapeOf c s → IsLayoutOf c (layout_of s)
is_layout c s is = record { replicas = is.replicas; ring = is.ring; rows = is.rows }

-- the list with one event more of r, whose part and kept words were those of the replica
record Goes (c : Config) (s : Shape) (past : List Made) (m : Made) : Type 0 where
  answer : answer_from c.ring m.verb (expected c m.by (own_after c m.by past).0 (own_after c m.by past).1 m.verb) m.word ≡ answer_of c m.by (events_after c past) m.verb
  load : loaded_by m.verb m.word ≡ found_word c m.by (events_after c past) m.verb
  words : (n : Name) → IsName (layout_of s) n → held c s (m ∷ past) (spot_of s n) ≡ standing_word c (event_of c m.by (events_after c past) m.verb ∷ events_after c past) n

-- the words after the access
written : (c : Config) (s : Shape) (past : List Made) (m : Made) (n at : Name) (now : ℕ) → IsName (layout_of s) n → IsName (layout_of s) at → spot_made c s past m ≡ spot_of s at
    → (n ≡ at → left_by m.step (held c s past (spot_of s n)) ≡ now) → (n ≢ at → held c s past (spot_of s n) ≡ now) → held c s (m ∷ past) (spot_of s n) ≡ now
written c s past m n at now h g is here others = go (is_same_spot (spot_of s n) (spot_made c s past m)) refl
  where
    go : (t : Bool) → is_same_spot (spot_of s n) (spot_made c s past m) ≡ t → cond t (left_by m.step (held c s past (spot_of s n))) (held c s past (spot_of s n)) ≡ now
    go true k = here (spots_differ_law s n at h g (same_spot (spot_of s n) (spot_made c s past m) k ∙ is))
    go false k = others (λ same. differ (spot_of s n) (spot_made c s past m) (ap (spot_of s) same ∙ sym is) k)

-- the same once the part and the kept words are named by the list
goes_by : (c : Config) (s : Shape) (past : List Made) (m : Made) → IsConfig c → IsShapeOf c s → IsOneList c s past → IsAnsweredOnce c s past m
    → own_after c m.by past ≡ (part m.by (events_after c past), sights c m.by (events_after c past)) → Goes c s past m
goes_by c s past m good fits one told both =
    let r = m.by in
    let v = m.verb in
    let hist = events_after c past in
    let may : Allowed c r (part r hist) v = subst (λ (o : Own). Allowed c r o.0 v) both told.allowed in
    let law = word_steps_law c r hist v good one.legal may in
    let name = name_of c r (part r hist) v in
    let named = place_named c (layout_of s) hist r v (config_is_limited c good) (is_layout c s fits) one.legal may in
    let x = expected c r (part r hist) (sights c r hist) v in
    let at : spot_made c s past m ≡ spot_of s name = ap (λ (o : Own). spot_of s (name_of c r o.0 v)) both in
    let stands : held c s past (spot_of s name) ≡ standing_word c hist name = one.words name named in
    let found : stores v ≡ false → m.word ≡ standing_word c hist name = λ no. told.found no ∙ (ap (held c s past) at ∙ stands) in
    let step : IsMove c.ring (close_grant r (part r hist)) v x m.step = subst (λ (o : Own). IsMove c.ring (close_grant r o.0) v (expected c r o.0 o.1 v) m.step) both told.step in
    let room = word_fits c hist r v (config_is_limited c good) one.legal may in
    record {
      answer = ap (λ (o : Own). answer_from c.ring v (expected c r o.0 o.1 v) m.word) both ∙ (same_answer c.ring v x m.word (standing_word c hist name) found ∙ law.answer);
      load = same_load v m.word (standing_word c hist name) found;
      words = λ n h. written c s past m n name (standing_word c (event_of c r hist v ∷ hist) n) h named at
          (λ e.
          ap (λ (z : Name). left_by m.step (held c s past (spot_of s z))) e ∙ (ap (left_by m.step) stands
          ∙ (leaves_as_law c hist r v x (standing_word c hist name) m.step good one.legal may refl room step ∙ (sym law.here ∙ ap (standing_word c (event_of c r hist v ∷ hist)) (sym e)))))
          (λ ne. one.words n h ∙ sym (law.others n ne));
    }

-- and then the longer list is the one
longer : (c : Config) (s : Shape) (past : List Made) (m : Made) → IsOneList c s past → Allowed c m.by (part m.by (events_after c past)) m.verb → Goes c s past m → IsOneList c s (m ∷ past)
longer c s past m one may goes = record {
  legal = (one.legal, record { allowed = may; answer = goes.answer });
  parts = λ q. part_of q (m.by == q) refl;
  seen = λ q. seen_of q (m.by == q) refl;
  words = λ n h. goes.words n h ∙ ap (λ (a : Answer). standing_word c (event_by m.by m.verb a ∷ events_after c past) n) (sym goes.answer);
}
  where
    e : Event
    e = event_at c m.by (own_after c m.by past) m.verb m.word

    part_of : (q : ℕ) (t : Bool) → (m.by == q) ≡ t → cond t (e ∷ part q (events_after c past)) (part q (events_after c past)) ≡ (cond t (own_with c q (own_after c q past) m.verb m.word) (own_after c q past)).0
    part_of q true k =
        let is = eqb-true m.by q k in
        ap (λ (z : ℕ). event_at c z (own_after c z past) m.verb m.word ∷ part q (events_after c past)) is
        ∙ ap (λ (l : List Event). event_at c q (own_after c q past) m.verb m.word ∷ l) (one.parts q)
    part_of q false k = one.parts q

    seen_of : (q : ℕ) (t : Bool) → (m.by == q) ≡ t
        → cond t ((e, found_word c q (events_after c past) m.verb) ∷ sights c q (events_after c past)) (sights c q (events_after c past)) ≡ (cond t (own_with c q (own_after c q past) m.verb m.word) (own_after c q past)).1
    seen_of q true k =
        let is = eqb-true m.by q k in
        let load : found_word c q (events_after c past) m.verb ≡ loaded_by m.verb m.word = sym (goes.load ∙ ap (λ (z : ℕ). found_word c z (events_after c past) m.verb) is) in
        λ i. (event_at c (is i) (own_after c (is i) past) m.verb m.word, load i) ∷ (one.seen q) i
    seen_of q false k = one.seen q

pub one_list_law : OneLegalList
one_list_law c s [] good fits answered = record {
  legal = tt;
  parts = λ r. refl;
  seen = λ r. refl;
  words = λ n h. at_first c s n;
}
one_list_law c s (m ∷ past) good fits answered =
    let one = one_list_law c s past good fits answered.0 in
    let told = answered.1 in
    let same : own_after c m.by past ≡ (part m.by (events_after c past), sights c m.by (events_after c past)) = λ i. ((sym (one.parts m.by)) i, (sym (one.seen m.by)) i) in
    longer c s past m one (subst (λ (l : List Event). Allowed c m.by l m.verb) (sym (one.parts m.by)) told.allowed)
    (goes_by c s past m good fits one told same)
