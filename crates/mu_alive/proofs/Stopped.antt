-- While a command is missing no head of one that goes on blocks its leader for long, and none of a failed replica does.
use Rattle.std.proofs.Common.{◌≡◌, ℕ, ◌+◌, ◌*◌, ◌<◌, ◌≤◌, ◌==◌, ◌&&◌, not, Bool, true, false, cond, Some, None, List, ◌∷◌, ◌++◌, length, refl, sym, ◌∙◌, ap, arith, subst, true≢false, append_assoc, eqb-true}
use Rattle.std.specs.declared.option.Option.{Option}
use Rattle.std.proofs.lemmas.Bool.{and_from, and_parts, eq-eqb, lt-leb}
use Rattle.mu_model.specs.declared.config.Config.{Config}
use Rattle.mu_model.specs.declared.event.Answer.{Answer}
use Rattle.mu_model.specs.declared.event.Event.{Event}
use Rattle.mu_model.specs.declared.event.Verb.{Verb}
use Rattle.mu_model.specs.Answers.{answer_of}
use Rattle.mu_model.specs.Contents.{IsConfig, marked}
use Rattle.mu_model.specs.Histories.{part}
use Rattle.mu_model.specs.Knowledge.{known}
use Rattle.mu_model.specs.Legal.{IsLegalHistory}
use Rattle.mu_model.specs.Regions.{region_head}
use Rattle.mu_model.specs.Room.{head_read, lacks_room, reserve}
use Rattle.mu_model.specs.Scores.{is_failed}
use Rattle.mu_model.specs.Steps.{knows_all}
use Rattle.mu_model.specs.Stretches.{IsStretch}
use Rattle.mu_model.proofs.Parts.{filter-append, part_is_possible}
use Rattle.mu_model.proofs.Scans.{each_all}
use Rattle.mu_pace.specs.Blocking.{can_be_marked, is_blocking}
use Rattle.mu_agree.specs.Moments.{AtEachMoment, AtEachStep}
use Rattle.mu_pace.proofs.Counting.{moments_before, steps_before}
use Rattle.mu_alive.specs.Enough.{asking_steps}
use Rattle.mu_alive.specs.Last.{LeadsLast, last_granting_steps}
use Rattle.mu_alive.specs.Stopping.{HoldsFailed, IsUnblocked, ReadsInOrder}
use Rattle.mu_alive.proofs.Enough.{IsFine, Leads, fine_moments}
use Rattle.mu_alive.proofs.LastRaising.{last_started, number_named, keep_before}
use Rattle.mu_alive.proofs.Lasting.{last_before, last_leads}
use Rattle.mu_alive.proofs.Rising.{GoOn, reserve_fits}
use Rattle.mu_alive.proofs.Started.{Started}
use Rattle.mu_alive.proofs.Steady.{Steady, steady_steps}
use Rattle.mu_alive.proofs.TurnFences.{lead_on_moments}

-- a head that has come to k doesn't block while k entries are known, nor does that of a failed replica
pub head_free : (c : Config) (a k q by : ℕ) (verb : Verb) (answer : Answer) (past : List Event) (goes marks : Bool) → reserve c < c.ring → answer ≡ answer_of c by past verb → (goes ≡ true → k ≤ region_head q past) → (goes ≡ false → marks ≡ true)
    → (lacks_room c (k + reserve c) (head_read a q by verb answer) && not marks) ≡ false
head_free c a k q by (Verb.Head p) answer past goes marks fits is high stopped = subst (λ x. (lacks_room c (k + reserve c) (head_read a q by (Verb.Head p) x) && not marks) ≡ false) (sym is) (go ((by == a) && (p == q)) refl goes high stopped)
  where
    off : (l m : Bool) → m ≡ true → (l && not m) ≡ false
    off true true h = refl
    off true false h = absurd (true≢false (sym h))
    off false m h = refl

    go : (t : Bool) → ((by == a) && (p == q)) ≡ t → (goes : Bool) → (goes ≡ true → k ≤ region_head q past) → (goes ≡ false → marks ≡ true) → (lacks_room c (k + reserve c) (cond {A = Option ℕ} t (Some (region_head p past)) None) && not marks) ≡ false
    go false other goes high stopped = refl
    go true read true high stopped =
        let same = ap (λ x. region_head x past) (eqb-true p q (and_parts (by == a) (p == q) read).1) in
        let h = high refl in
        ap (λ t. t && not marks) (lt-leb (region_head p past + c.ring) (k + reserve c) (omega (arith, h, same, fits)))
    go true read false high stopped = off (lacks_room c (k + reserve c) (Some (region_head p past))) marks (stopped refl)
head_free c a k q by verb answer past goes marks fits is high stopped = refl

pub none_blocks : (c : Config) (live : ℕ → Bool) (a start k : ℕ) (past : List Event) (e : Event) → IsConfig c → c.version ≡ 2 → IsLegalHistory c (e ∷ past) → HoldsFailed c live a start (e ∷ part a past) → start ≤ length (part a past) → length (known c a (part a past)) ≡ k → ((r : ℕ) → r < c.replicas → live r ≡ true → k ≤ region_head r past)
    → is_blocking c a (part a past) e ≡ false
none_blocks c live a start k past e good two legal failed late exact heads = ap not (each_all c.replicas blocked (λ q low. ap not (off q low (marked c q (known c a (part a past))))))
  where
    blocked : ℕ → Bool
    blocked q = not (not (marked c q (known c a (part a past))) && (lacks_room c (length (known c a (part a past)) + reserve c) (head_read a q e.by e.verb e.answer) && not (can_be_marked c a q (e ∷ part a past))))

    off : (q : ℕ) → q < c.replicas → (m : Bool) → (not m && (lacks_room c (length (known c a (part a past)) + reserve c) (head_read a q e.by e.verb e.answer) && not (can_be_marked c a q (e ∷ part a past)))) ≡ false
    off q low true = refl
    off q low false =
        subst (λ n. (lacks_room c (n + reserve c) (head_read a q e.by e.verb e.answer) && not (can_be_marked c a q (e ∷ part a past))) ≡ false) (sym exact)
        (head_free c a k q e.by e.verb e.answer past (live q) (can_be_marked c a q (e ∷ part a past)) (reserve_fits c good) legal.1.answer (heads q low)
        (λ gone. and_from (c.version == 2) (is_failed a q (e ∷ part a past)) (eq-eqb c.version 2 two) (failed (omega (arith, late)) q low gone)))

-- what holds of the whole history held of each beginning
pub unblocked_before : (c : Config) (live : ℕ → Bool) (a start : ℕ) (newer older : List Event) → IsUnblocked c live a start (newer ++ older) → IsUnblocked c live a start older
unblocked_before c live a start newer older u = record {
  opens = record { asks = λ p window o low s. u.opens.asks p window o low (more window o s); numbers = λ e window o s. u.opens.numbers e window o (more window (e ∷ o) s) };
  fetches = λ r low lives window o s. u.fetches r low lives window o (record { newer = part r newer ++ s.newer; is = filter-append (λ e. e.by == r) newer older ∙ ap (λ l. part r newer ++ l) s.is ∙ sym (append_assoc (part r newer) s.newer (window ++ o)) });
  ordered = λ r low lives. steps_before (ReadsInOrder c r) (part r newer) (part r older) (subst (AtEachStep (ReadsInOrder c r)) (filter-append (λ e. e.by == r) newer older) (u.ordered r low lives));
  keep = keep_before c live a newer older u.keep;
  failed = moments_before (HoldsFailed c live a start) (part a newer) (part a older) (subst (AtEachMoment (HoldsFailed c live a start)) split u.failed);
}
  where
    split : part a (newer ++ older) ≡ part a newer ++ part a older
    split = filter-append (λ e. e.by == a) newer older

    more : (window o : List Event) → IsStretch (part a older) window o → IsStretch (part a (newer ++ older)) window o
    more window o s = record { newer = part a newer ++ s.newer; is = split ∙ ap (λ l. part a newer ++ l) s.is ∙ sym (append_assoc (part a newer) s.newer (window ++ o)) }

-- a leads last in version 2, and nothing but heads blocks it
pub record Waits (c : Config) (live : ℕ → Bool) (a start : ℕ) (past : List Event) : Type 0 where
  pub good : IsConfig c
  pub two : c.version ≡ 2
  pub last : LeadsLast c live a start past
  pub free : IsUnblocked c live a start past

pub waits_before : (c : Config) (live : ℕ → Bool) (a start : ℕ) (newer older : List Event) → Waits c live a start (newer ++ older) → Waits c live a start older
waits_before c live a start newer older w = record {
  good = w.good;
  two = w.two;
  last = last_before c live a start newer older w.last;
  free = unblocked_before c live a start newer older w.free;
}

-- the steps after which it has started to lead
abbrev pub opening_steps : Config → ℕ → ℕ
opening_steps c a = last_granting_steps c a + 2 * asking_steps c + 2 * (c.replicas + 2)

pub begun_by : (c : Config) (live : ℕ → Bool) (a start : ℕ) (past : List Event) → Waits c live a start past → start + opening_steps c a ≤ length (part a past) → Started c a past
begun_by c live a start past w late = last_started c live a start past w.good w.last w.free.opens w.free.keep.asked (omega (arith, late))

pub leads_of : (c : Config) (live : ℕ → Bool) (a start : ℕ) (past : List Event) → Waits c live a start past → AtEachStep (Leads c a) (part a past)
leads_of c live a start past w = last_leads c a start past w.last.turns w.last.named

pub fine_of : (c : Config) (live : ℕ → Bool) (a start : ℕ) (past : List Event) → Waits c live a start past → knows_all c a (part a past) ≡ false → AtEachMoment (IsFine c a) (part a past)
fine_of c live a start past w lacks = fine_moments c a past w.last.legal (lead_on_moments c a past w.last.legal w.last.turns (let most = w.good.replicas.1 in omega (arith, most))) w.last.going lacks

pub go_on : (c : Config) (live : ℕ → Bool) (a start : ℕ) (past : List Event) → Waits c live a start past → GoOn c live a past
go_on c live a start past w = record { legal = w.last.legal; near = w.last.near; keep = w.free.keep }

pub steady_of : (c : Config) (live : ℕ → Bool) (a start : ℕ) (past : List Event) → Waits c live a start past → AtEachStep (Steady c a) (part a past)
steady_of c live a start past w = steady_steps c a (part a past) (part_is_possible c a past w.last.legal) (lead_on_moments c a past w.last.legal w.last.turns (let most = w.good.replicas.1 in omega (arith, most))) (number_named c a start past w.last.legal w.last.named)
