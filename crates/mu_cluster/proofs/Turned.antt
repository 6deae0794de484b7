-- In a replay whose script has no pause each event is in turn.
use Rattle.std.proofs.Common.{◌≡◌, ◌∙◌, ℕ, ◌+◌, ◌*◌, ◌<◌, ◌≤◌, ◌==◌, true, false, cond, List, [], ◌∷◌, ◌++◌, ap, append_assoc, arith, length, refl, subst, sym}
use Rattle.std.proofs.lemmas.Bool.{eq-eqb, ne_eqb, true≢false}
use Rattle.std.proofs.lemmas.List.{length-append}
use Rattle.mu_agree.proofs.Legal.{legal_older}
use Rattle.mu_model.specs.declared.config.Config.{Config}
use Rattle.mu_model.specs.declared.event.Answer.{Answer}
use Rattle.mu_model.specs.declared.event.Event.{Event}
use Rattle.mu_model.specs.declared.event.Verb.{Verb}
use Rattle.mu_model.specs.Answers.{answer_of}
use Rattle.mu_model.specs.Bounds.{cycle}
use Rattle.mu_model.specs.Diligence.{ReadsInTime}
use Rattle.mu_model.specs.Histories.{history, part}
use Rattle.mu_model.specs.Leaderships.{has_begun}
use Rattle.mu_model.specs.Legal.{IsLegalHistory}
use Rattle.mu_model.specs.Regions.{asks, fence_closing}
use Rattle.mu_model.specs.Serving.{seen_asks}
use Rattle.mu_model.specs.Steps.{is_ask_read}
use Rattle.mu_model.proofs.Basics.{same_number}
use Rattle.mu_model.proofs.Parts.{filter-append}
use Rattle.mu_lively.specs.Order.{InCycleOrder}
use Rattle.mu_lively.proofs.HostRounds.{reads_open}
use Rattle.mu_alive.proofs.Cutting.{Located, located, met}
use Rattle.mu_alive.proofs.TurnOwners.{closing-part}
use Rattle.mu_cluster.specs.Rounds.{part_of}
use Rattle.mu_cluster.proofs.Naming.{AreUnpaused}
use Rattle.mu_cluster.proofs.Turning.{asks_late, outlasted}
use Rattle.mu_cluster.proofs.InTurn.{asked, insider, none_below, none_left, quiet_asks, quiet_seen, steps_then}
use Rattle.mu_pace.proofs.Pasts.{cut, reads_ask}

-- the whole part of a maker
pub part_split : (events front past : List Event) (e : Event) (p : ℕ) → history events ≡ front ++ e ∷ past → e.by ≡ p → part_of p events ≡ (part p front ++ e ∷ []) ++ part p past
part_split events front past e p is own =
    ap (part p) is ∙ filter-append (λ f. f.by == p) front (e ∷ past) ∙ ap (λ t. part p front ++ cond t (e ∷ part p past) (part p past)) (eq-eqb e.by p own) ∙ sym (append_assoc (part p front) (e ∷ []) (part p past))

-- the asks of a lower one that are read were seen already
pub fresh_read : (c : Config) (events : List Event) (lengths : List ℕ) (rounds : ℕ) (front past : List Event) (e : Event) (w r : ℕ) → AreUnpaused c events lengths rounds → ((p : ℕ) → p < c.replicas → ReadsInTime c p (part_of p events)) → history events ≡ front ++ e ∷ past → w < r → has_begun r past ≡ true
    → asks w e.by past ≡ seen_asks e.by w past
fresh_read c events lengths rounds front past e w r run reads is below begun =
    let a = asked r past begun in
    let whole : history events ≡ (front ++ e ∷ a.newer) ++ a.event ∷ a.older = is ∙ ap (λ l. front ++ e ∷ l) a.is ∙ sym (append_assoc front (e ∷ a.newer) (a.event ∷ a.older)) in
    let inside = subst (λ i. i < c.replicas) a.own (insider c events lengths rounds (front ++ e ∷ a.newer) a.older a.event run whole) in
    let far = asks_late c events lengths rounds w r 0 (front ++ e ∷ a.newer) a.older a.event run whole a.own a.asks below inside in
    let host = insider c events lengths rounds front past e run is in
    let steps = steps_then c events lengths rounds e.by r front a.newer a.older e a.event run (is ∙ ap (λ l. front ++ e ∷ l) a.is) refl a.own host in
    let same = ap (λ l. length (part e.by l)) a.is in
    let long : length (part_of w events) + 2 * cycle c ≤ length (part e.by past) = omega (arith, far, steps, same) in
    found (omega (arith, below, inside)) host (λ other. true≢false (sym begun ∙ none_below c events lengths rounds front past e r run is (omega (arith, other, below)))) long
  where
    found : w < c.replicas → e.by < c.replicas → (w ≡ e.by → ⊥) → length (part_of w events) + 2 * cycle c ≤ length (part e.by past) → asks w e.by past ≡ seen_asks e.by w past
    found low host other long =
        let at = cut (length (part_of w events) + cycle c) (part e.by past) (omega (arith, long)) in
        let split = ap length at.is ∙ length-append at.newer at.rest in
        let last = cut (cycle c) at.newer (let n = at.count in omega (arith, long, split, n)) in
        let stretch : part_of e.by events ≡ ((part e.by front ++ e ∷ []) ++ last.newer) ++ (last.rest ++ at.rest) =
        part_split events front past e e.by is refl ∙ ap (λ l. (part e.by front ++ e ∷ []) ++ l) (at.is ∙ ap (λ l. l ++ at.rest) last.is ∙ append_assoc last.newer last.rest at.rest)
        ∙ sym (append_assoc (part e.by front ++ e ∷ []) last.newer (last.rest ++ at.rest)) in
        let read = met (is_ask_read w) last.rest ((reads e.by host).asks w last.rest at.rest low (record { newer = (part e.by front ++ e ∷ []) ++ last.newer; is = stretch }) last.count) in
        let mine : part e.by past ≡ (last.newer ++ read.newer) ++ read.event ∷ (read.older ++ at.rest) =
        at.is ∙ ap (λ l. l ++ at.rest) (last.is ∙ ap (λ l. last.newer ++ l) read.is) ∙ append_assoc last.newer (read.newer ++ read.event ∷ read.older) at.rest ∙ ap (λ l. last.newer ++ l) (append_assoc read.newer (read.event ∷ read.older) at.rest)
        ∙ sym (append_assoc last.newer read.newer (read.event ∷ (read.older ++ at.rest))) in
        settled low other at.rest at.count read.older read.event read.passes (located e.by past (last.newer ++ read.newer) (read.older ++ at.rest) read.event mine)
      where
        settled : w < c.replicas → (w ≡ e.by → ⊥) → (rest : List Event) → length rest ≡ length (part_of w events) + cycle c → (older : List Event) (x : Event) → is_ask_read w x ≡ true → Located e.by past x (older ++ rest) → asks w e.by past ≡ seen_asks e.by w past
        settled low other rest count older x reads_it l =
            let whole : history events ≡ (front ++ e ∷ l.newer) ++ x ∷ l.older = is ∙ ap (λ y. front ++ e ∷ y) l.is ∙ sym (append_assoc front (e ∷ l.newer) (x ∷ l.older)) in
            let long = ap length l.before ∙ length-append older rest in
            let gone = outlasted c events lengths rounds w e.by (front ++ e ∷ l.newer) l.older x run whole l.own low other (omega (arith, long, count)) in
            let not_its : (x.by == w) ≡ false = ne_eqb x.by w (λ y. other (sym y ∙ l.own)) in
            let same : length (part w (x ∷ l.older)) ≡ length (part w l.older) = ap (λ t. length (cond t (x ∷ part w l.older) (part w l.older))) not_its in
            let split : history events ≡ (front ++ e ∷ []) ++ (l.newer ++ (x ∷ l.older)) = is ∙ ap (λ y. front ++ e ∷ y) l.is ∙ sym (append_assoc front (e ∷ []) (l.newer ++ (x ∷ l.older))) in
            let quiet = none_left c events (front ++ e ∷ []) l.newer (x ∷ l.older) w split (same ∙ gone) in
            let legal = legal_older c (front ++ e ∷ []) (l.newer ++ x ∷ l.older) (subst (IsLegalHistory c) split run.legal) in
            let here = legal_older c l.newer (x ∷ l.older) legal in
            let verb = reads_ask w x.verb reads_it in
            let answer = here.1.answer ∙ ap (answer_of c x.by l.older) verb in
            let seen : seen_asks e.by w (x ∷ l.older) ≡ asks w e.by (x ∷ l.older) = sees x.by x.verb x.answer l.older l.own verb answer in
            ap (asks w e.by) l.is ∙ quiet_asks w e.by l.newer (x ∷ l.older) quiet ∙ sym (ap (seen_asks e.by w) l.is ∙ quiet_seen c w e.by l.newer (x ∷ l.older) legal quiet seen)
          where
            sees : (by : ℕ) (verb : Verb) (answer : Answer) (o : List Event) → by ≡ e.by → verb ≡ Verb.ReadAsk w → answer ≡ answer_of c by o (Verb.ReadAsk w) → seen_asks e.by w (record { by = by; verb = verb; answer = answer } ∷ o) ≡ asks w e.by (record { by = by; verb = verb; answer = answer } ∷ o)
            sees by verb answer o own is_read says =
                subst (λ v. seen_asks e.by w (record { by = by; verb = v; answer = answer } ∷ o) ≡ asks w e.by (record { by = by; verb = v; answer = answer } ∷ o)) (sym is_read)
                (subst (λ y. seen_asks e.by w (record { by = by; verb = Verb.ReadAsk w; answer = y } ∷ o) ≡ asks w e.by o) (sym says)
                (rw (eq-eqb by e.by own, same_number w) (ap (λ i. asks w i o) own)))

-- the region isn't closing when asks are read
order_before : (c : Config) (r : ℕ) (newer older : List Event) → InCycleOrder c r (newer ++ older) → InCycleOrder c r older
order_before c r [] older order = order
order_before c r (e ∷ newer) older order = order_before c r newer older order.0

pub resting_read : (c : Config) (events : List Event) (lengths : List ℕ) (rounds : ℕ) (front past : List Event) (e : Event) (w : ℕ) → AreUnpaused c events lengths rounds → InCycleOrder c e.by (part_of e.by events) → history events ≡ front ++ e ∷ past → e.verb ≡ Verb.ReadAsk w → fence_closing e.by past ≡ false
resting_read c events lengths rounds front past e w run order is reads =
    let split = part_split events front past e e.by is refl ∙ append_assoc (part e.by front) (e ∷ []) (part e.by past) in
    let here = order_before c e.by (part e.by front) (e ∷ part e.by past) (subst (InCycleOrder c e.by) split order) in
    let legal = legal_older c front (e ∷ past) (subst (IsLegalHistory c) is run.legal) in
    sym (closing-part e.by past) ∙ reads_open c e.by w (part e.by past) e (insider c events lengths rounds front past e run is) legal.1.allowed.budget here reads
