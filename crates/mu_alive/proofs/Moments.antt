-- What holds at each moment of a journal, in its stretches.
use Rattle.std.proofs.Common.{◌≡◌, ℕ, suc, zero, ◌+◌, ◌*◌, ◌%◌, ◌<◌, ◌≤◌, ◌&&◌, ◌||◌, not, inl, inr, Bool, true, false, cond, List, [], ◌∷◌, ◌++◌, length, refl, sym, ◌∙◌, ap, arith, subst, true≢false, append_assoc}
use Rattle.std.specs.Prelude.{if◌then◌else◌}
use Rattle.std.proofs.lemmas.Bool.{cases_eq, eq-eqb, ne_eqb}
use Rattle.std.proofs.lemmas.List.{length-append}
use Rattle.mu_model.specs.declared.config.Config.{Config}
use Rattle.mu_model.specs.declared.event.Event.{Event}
use Rattle.mu_model.specs.Diligence.{AsksInTime, has_to_ask}
use Rattle.mu_model.specs.Histories.{has}
use Rattle.mu_model.specs.Steps.{is_asking, replicates}
use Rattle.mu_model.specs.Stretches.{IsStretch, each_step, is_odd, is_replication, replications}
use Rattle.mu_agree.specs.Moments.{AtEachMoment}
use Rattle.mu_alive.specs.Enough.{asking_steps}
use Rattle.mu_pace.proofs.Counting.{last_moment, moments_before}
use Rattle.mu_pace.proofs.Pasts.{cut}

-- of two moments in a row one has an odd count
one_odd : (m k : ℕ) → (if is_odd (suc m) then (if is_odd m then k + 1 else k) + 1 else (if is_odd m then k + 1 else k)) ≡ k + 1
one_odd m k = elim (cases_eq (m % 2) 1) [
  | inl odd ↦ let next : suc m % 2 ≡ 0 = omega (arith, odd) in rw (eq-eqb (m % 2) 1 odd, ne_eqb (suc m % 2) 1 (λ one. absurd (omega (arith, next, one)))) refl
  | inr even ↦ let next : suc m % 2 ≡ 1 = omega (arith, even) in rw (ne_eqb (m % 2) 1 even, eq-eqb (suc m % 2) 1 next) refl
]

-- half of the events of a stretch are replication events
pub halves : (n : ℕ) (window older : List Event) → length window ≡ 2 * n → replications window older ≡ n
halves zero [] older long = refl
halves zero (e ∷ window) older long = absurd (omega (arith, long))
halves (suc n) [] older long = absurd (omega (arith, long))
halves (suc n) (e ∷ []) older long = absurd (omega (arith, long))
halves (suc n) (e ∷ f ∷ window) older long =
    let ih = halves n window older (omega (arith, long)) in
    let one = one_odd (length (window ++ older)) (replications window older) in
    omega (arith, ih, one)

-- what holds at the moments that are so long
abbrev pub From : ℕ → (List Event → Type 0) → List Event → Type 0
From start P now = start ≤ length now → P now

-- and the last moment is one of them
pub last_from : (start : ℕ) (P : List Event → Type 0) (newer older : List Event) → start ≤ length older → AtEachMoment (From start P) (newer ++ older) → P (newer ++ older)
last_from start P newer older late held = last_moment (From start P) (newer ++ older) held (let long = length-append newer older in omega (arith, long, late))

-- a test that passes at each moment of a stretch passes before each step
pub each_before : (start : ℕ) (test : List Event → Bool) (unless : List Event → Event → Bool) (window older : List Event) → start ≤ length older → AtEachMoment (From start (λ now. test now ≡ true)) (window ++ older) → each_step (λ before e. not (unless before e) || test before) window older ≡ true
each_before start test unless [] older late held = refl
each_before start test unless (e ∷ window) older late held = go (unless (window ++ older) e) (test (window ++ older)) (last_from start (λ now. test now ≡ true) window older late held.0) (each_before start test unless window older late held.0)
  where
    go : (t u : Bool) → u ≡ true → each_step (λ before e. not (unless before e) || test before) window older ≡ true → (if not t || u then each_step (λ before e. not (unless before e) || test before) window older else false) ≡ true
    go true true is ih = ih
    go true false is ih = absurd (true≢false (sym is))
    go false u is ih = ih

-- if a replication event passes, an event does
pub some_event : (test : Event → Bool) (window older : List Event) → replicates (λ before e. test e) window older ≡ true → has test window ≡ true
some_event test [] older some = absurd (true≢false (sym some))
some_event test (e ∷ window) older some = go (is_replication (window ++ older) e) (test e) some (some_event test window older)
  where
    go : (t u : Bool) → (if t && u then true else replicates (λ before e. test e) window older) ≡ true → (replicates (λ before e. test e) window older ≡ true → has test window ≡ true) → cond u true (has test window) ≡ true
    go true true some ih = refl
    go true false some ih = ih some
    go false true some ih = refl
    go false false some ih = ih some

-- at most one event of a stretch is in no pair with a replication event
pub at_least_halves : (window older : List Event) → length window ≤ 2 * replications window older + 1
at_least_halves [] older = omega arith
at_least_halves (e ∷ []) older = omega arith
at_least_halves (e ∷ f ∷ window) older =
    let ih = at_least_halves window older in
    let one = one_odd (length (window ++ older)) (replications window older) in
    omega (arith, ih, one)

-- from some step on, this many steps in a row hold an ask of each region
abbrev pub AsksEach : Config → ℕ → List Event → Type 0
AsksEach c start mine = (p : ℕ) (newer window older : List Event) → mine ≡ newer ++ (window ++ older) → length window ≡ asking_steps c → start ≤ length older → p < c.replicas → has (is_asking p) window ≡ true

pub each_older : (c : Config) (start : ℕ) (newer older : List Event) → AsksEach c start (newer ++ older) → AsksEach c start older
each_older c start newer older each p above window base is = each p (newer ++ above) window base (ap (λ l. newer ++ l) is ∙ sym (append_assoc newer above (window ++ base)))

-- so they do while it has to ask
pub asks_there : (c : Config) (start r p : ℕ) (past newer window older : List Event) → AsksInTime c r past → past ≡ newer ++ (window ++ older) → length window ≡ asking_steps c → start ≤ length older → p < c.replicas → AtEachMoment (From start (λ now. has_to_ask c r now ≡ true)) past
    → has (is_asking p) window ≡ true
asks_there c start r p past newer window older asks is long late low held =
    some_event (is_asking p) window older
    (asks.asks p window older low (record { newer = newer; is = is }) (halves (17 * c.replicas + 1) window older long)
    (each_before start (has_to_ask c r) is_replication window older late
    (moments_before (From start (λ now. has_to_ask c r now ≡ true)) newer (window ++ older) (subst (AtEachMoment (From start (λ now. has_to_ask c r now ≡ true))) is held))))

-- if each m events of a stretch add one to what only grows, k times as many add k
pub adds_up : (m k : ℕ) (gain : List Event → ℕ) (whole top window base : List Event) → ((newer older : List Event) → gain older ≤ gain (newer ++ older))
    → ((w rest : List Event) → IsStretch whole w (rest ++ base) → length w ≡ m → gain (rest ++ base) + 1 ≤ gain (w ++ (rest ++ base)))
    → whole ≡ top ++ (window ++ base) → k * m ≤ length window → k ≤ gain (window ++ base)
adds_up m zero gain whole top window base grows adds is long = omega arith
adds_up m (suc k) gain whole top window base grows adds is long =
    let next : suc k * m ≡ k * m + m = omega arith in
    let under = cut (k * m) window (omega (arith, next, long)) in
    let count = under.count in
    let sum = ap length under.is ∙ length-append under.newer under.rest in
    let round = cut m under.newer (omega (arith, next, long, count, sum)) in
    let lower : whole ≡ (top ++ under.newer) ++ (under.rest ++ base) = is ∙ ap (λ l. top ++ (l ++ base)) under.is ∙ ap (λ l. top ++ l) (append_assoc under.newer under.rest base) ∙ sym (append_assoc top under.newer (under.rest ++ base)) in
    let upper : whole ≡ (top ++ round.newer) ++ (round.rest ++ (under.rest ++ base)) =
    lower ∙ ap (λ l. (top ++ l) ++ (under.rest ++ base)) round.is ∙ ap (λ l. l ++ (under.rest ++ base)) (sym (append_assoc top round.newer round.rest)) ∙ append_assoc (top ++ round.newer) round.rest (under.rest ++ base) in
    let ih = adds_up m k gain whole (top ++ under.newer) under.rest base grows adds lower (omega (arith, count)) in
    let one = adds round.rest under.rest (record { newer = top ++ round.newer; is = upper }) round.count in
    let all : window ++ base ≡ round.newer ++ (round.rest ++ (under.rest ++ base)) =
    ap (λ l. l ++ base) under.is ∙ append_assoc under.newer under.rest base ∙ ap (λ l. l ++ (under.rest ++ base)) round.is ∙ append_assoc round.newer round.rest (under.rest ++ base) in
    let stays = grows round.newer (round.rest ++ (under.rest ++ base)) in
    let same = ap gain all in
    omega (arith, ih, one, stays, same)
