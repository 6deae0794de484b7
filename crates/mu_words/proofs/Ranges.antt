-- Numbers stay in their range.
use Rattle.std.proofs.Common.{◌≡◌, ℕ, suc, ◌+◌, ◌*◌, ◌<◌, ◌≤◌, max, Bool, true, false, cond, ◌&&◌, not, ◌==◌, List, [], ◌∷◌, refl, sym, ◌∙◌, arith, Some, None, length}
use Rattle.std.specs.declared.option.Option.{Option}
use Rattle.mu_model.specs.declared.config.Config.{Config}
use Rattle.mu_model.specs.declared.event.Answer.{Answer}
use Rattle.mu_model.specs.declared.event.Event.{Event}
use Rattle.mu_model.specs.declared.event.Target.{Target}
use Rattle.mu_model.specs.declared.event.Verb.{Verb}
use Rattle.mu_model.specs.Allowed.{Needs}
use Rattle.mu_model.specs.Answers.{drained, put_answer}
use Rattle.mu_model.specs.Entering.{any_min_read, number_allowed}
use Rattle.mu_model.specs.Histories.{greatest, how_many, max_with, part}
use Rattle.mu_model.specs.Leaderships.{begins_leadership, leadership, proposal_number}
use Rattle.mu_model.specs.Legal.{IsLegalHistory}
use Rattle.mu_model.specs.Regions.{asks, beats, fence_grant, is_ask_by, is_beat_by, is_drain_by, is_drain_of, is_grant_of, region_min}
use Rattle.mu_model.proofs.Budgets.{short_history, part_within_budget}
use Rattle.mu_model.proofs.Counts.{how_many_within}
use Rattle.mu_model.proofs.Owned.{IsOwn, IsOwnTest, greatest-part, how_many-part, beats-own, asks-own}
use Rattle.mu_agree.proofs.Access.{drains-own, grants-own}
use Rattle.mu_agree.proofs.Landings.{greatest_since}
use Rattle.mu_agree.proofs.Legal.{legal_induction, event_after}
use Rattle.mu_agree.proofs.Minimum.{top_is}
use Rattle.mu_agree.proofs.Numbers.{number-part, greatest_own_put, greatest_own_put-part}
use Rattle.mu_words.specs.Standing.{stamp, drain_took, is_same_target, close_target, changed_since_look}
use Rattle.mu_words.proofs.Limits.{Limits}
use Rattle.mu_model.proofs.Putting.{min_facts}

-- the greatest number that anybody put
abbrev pub put_of : Verb → Option ℕ
put_of (Verb.PutMin p b) = Some b
put_of _ = None

abbrev pub highest : List Event → ℕ
highest past = greatest (λ e. put_of e.verb) past

abbrev MinBelow : ℕ → List Event → Type 0
MinBelow p past = region_min p past ≤ highest past

min_below_put : (p by q b : ℕ) (past : List Event) → MinBelow p past → (a : Answer) → (y : Bool) → (q == p) ≡ y → MinBelow p (record { by = by; verb = Verb.PutMin q b; answer = a } ∷ past)
min_below_put p by q b past s Answer.Done true h = rw h (omega arith)
min_below_put p by q b past s Answer.Done false h = rw h (omega arith)
min_below_put p by q b past s a y h = omega arith

min_below_step : (c : Config) (p by : ℕ) (v : Verb) (past : List Event) → MinBelow p past → MinBelow p (event_after c past by v ∷ past)
min_below_step c p by (Verb.PutMin q b) past s = min_below_put p by q b past s (put_answer (drained by q past)) (q == p) refl
min_below_step c p by v past s = s

min_below : (c : Config) (p : ℕ) (past : List Event) → IsLegalHistory c past → MinBelow p past
min_below c p = legal_induction c (MinBelow p) (omega arith) (λ past by v h may s. min_below_step c p by v past s)

abbrev reads : ℕ → List Event → ℕ
reads r past = greatest (λ e. any_min_read r e.by e.verb e.answer) past

reads_min : (c : Config) (r by q : ℕ) (past : List Event) → IsLegalHistory c past → reads r past ≤ highest past → (t : Bool) → (by == r) ≡ t → reads r (event_after c past by (Verb.Min q) ∷ past) ≤ highest past
reads_min c r by q past h s true k = rw k (let m = min_below c q past h in omega arith)
reads_min c r by q past h s false k = rw k s

reads_step : (c : Config) (r by : ℕ) (v : Verb) (past : List Event) → IsLegalHistory c past → reads r past ≤ highest past → reads r (event_after c past by v ∷ past) ≤ highest (event_after c past by v ∷ past)
reads_step c r by (Verb.Min q) past h s = reads_min c r by q past h s (by == r) refl
reads_step c r by (Verb.PutMin q b) past h s = omega arith
reads_step c r by v past h s = s

reads_below : (c : Config) (r : ℕ) (past : List Event) → IsLegalHistory c past → reads r past ≤ highest past
reads_below c r = legal_induction c (λ past. reads r past ≤ highest past) (omega arith) (λ past by v h may s. reads_step c r by v past h s)

top_step : (c : Config) (r by : ℕ) (v : Verb) (past : List Event) → greatest_own_put r past ≤ highest past → greatest_own_put r (event_after c past by v ∷ past) ≤ highest (event_after c past by v ∷ past)
top_step c r by (Verb.PutMin q b) past s = go (by == r) refl
  where
    go : (t : Bool) → (by == r) ≡ t → max_with (cond t (Some b) None) (greatest_own_put r past) ≤ max b (highest past)
    go true k = omega arith
    go false k = omega arith
top_step c r by v past s = s

pub top_below_highest : (c : Config) (r : ℕ) (past : List Event) → IsLegalHistory c past → greatest_own_put r past ≤ highest past
top_below_highest c r = legal_induction c (λ past. greatest_own_put r past ≤ highest past) (omega arith) (λ past by v h may s. top_step c r by v past s)

any_min_read-own : (r : ℕ) → IsOwn r (λ e. any_min_read r e.by e.verb e.answer)
any_min_read-own r = record { own = λ e h. go e.by e.verb e.answer h }
  where
    go : (by : ℕ) (v : Verb) (a : Answer) → (by == r) ≡ false → any_min_read r by v a ≡ None
    go by (Verb.Min q) (Answer.Number x) h = rw h refl
    go by v a h = refl

-- the next number is at most eight above all that was put
pub next_below : (c : Config) (r b : ℕ) (past : List Event) → IsLegalHistory c past → r < 8 → highest past ≤ 8 * length past + 7 → (o : Option ℕ) → proposal_number r (part r past) ≡ o → number_allowed r (part r past) b o → b ≤ 8 * length past + 15
next_below c r b past h m s (Some x) e k =
    let t : greatest_own_put r past ≡ x = top_is c r past h x (sym (number-part r past) ∙ e) in
    let i = top_below_highest c r past h in
    omega (arith, k)
next_below c r b past h m s None e k =
    let a : reads r (leadership r (part r past)) ≤ reads r (part r past) = greatest_since (λ x. any_min_read r x.by x.verb x.answer) (begins_leadership r) (part r past) in
    let d : reads r (part r past) ≡ reads r past = greatest-part (λ x. any_min_read r x.by x.verb x.answer) r (any_min_read-own r) past in
    let f = reads_below c r past h in
    let g : greatest_own_put r (part r past) ≡ greatest_own_put r past = greatest_own_put-part r past in
    let i = top_below_highest c r past h in
    let j = k.4 (8 * length past + 8 + r) (omega arith) (omega arith) (omega arith) (omega arith) in
    omega arith

highest_step : (c : Config) (by : ℕ) (v : Verb) (past : List Event) → IsLegalHistory c past → by < 8 → Needs c by (part by past) v → highest past ≤ 8 * length past + 7 → highest (event_after c past by v ∷ past) ≤ 8 * suc (length past) + 7
highest_step c by (Verb.PutMin q b) past h m may s = let k = next_below c by b past h m s (proposal_number by (part by past)) refl (min_facts c by (part by past) q b may).numbered in omega arith
highest_step c by v past h m may s = omega arith

pub highest_below : (c : Config) (past : List Event) → Limits c → IsLegalHistory c past → highest past ≤ 8 * length past + 7
highest_below c past l h = legal_induction c (λ past. highest past ≤ 8 * length past + 7) (omega arith) (λ past by v h may s. highest_step c by v past h (let i = may.replica in let j = l.replicas in omega arith) may.may s) past h

pub min_fits : (c : Config) (p : ℕ) (past : List Event) → Limits c → IsLegalHistory c past → region_min p past < 8388608
min_fits c p past l h = let a = min_below c p past h in let b = highest_below c past l h in let d = short_history c past h l.replicas (let m = l.budget in omega arith) in omega arith

-- counts of a replica's events are at most its part
pub own_count : (test : Event → Bool) (r : ℕ) (past : List Event) → IsOwnTest r test → how_many test past ≤ length (part r past)
own_count test r past o = let k = how_many-part test r o past in let i = how_many_within test (part r past) in omega arith

pub grants_within : (p : ℕ) (past : List Event) → fence_grant p past ≤ length (part p past)
grants_within p past = own_count (is_grant_of p) p past (grants-own p)

pub grant_fits : (c : Config) (p : ℕ) (past : List Event) → Limits c → IsLegalHistory c past → fence_grant p past < 131072
grant_fits c p past l h = let a = grants_within p past in let b = part_within_budget c p past h in let d = l.budget in omega arith

-- a stamp is at most the count of drains
stamp_drains : (c : Config) (p : ℕ) (t : Target) (past : List Event) → stamp c p t past ≤ how_many (is_drain_of p) past
stamp_drains c p t [] = omega arith
stamp_drains c p t (e ∷ past) = go e.by e.verb (stamp_drains c p t past)
  where
    both : (x y : Bool) (m n : ℕ) → m ≤ n → cond (x && y) (m + 1) m ≤ cond x (n + 1) n
    both true true m n h = omega arith
    both true false m n h = omega arith
    both false y m n h = h

    go : (by : ℕ) (v : Verb) → stamp c p t past ≤ how_many (is_drain_of p) past → cond (drain_took c p t past by v) (stamp c p t past + 1) (stamp c p t past) ≤ cond (is_drain_by p by v) (how_many (is_drain_of p) past + 1) (how_many (is_drain_of p) past)
    go by Verb.Drain k = both (by == p) (is_same_target t (close_target p past) && not (changed_since_look c p past)) (stamp c p t past) (how_many (is_drain_of p) past) k
    go by v k = k

pub stamps_within : (c : Config) (p : ℕ) (t : Target) (past : List Event) → stamp c p t past ≤ length (part p past)
stamps_within c p t past = let a = stamp_drains c p t past in let b = own_count (is_drain_of p) p past (drains-own p) in omega arith

pub beats_within : (q : ℕ) (past : List Event) → beats q past ≤ length (part q past)
beats_within q past = own_count (λ e. is_beat_by q e.by e.verb) q past (beats-own q)

pub asks_within : (w p : ℕ) (past : List Event) → asks w p past ≤ length (part w past)
asks_within w p past = own_count (λ e. is_ask_by w p e.by e.verb) w past (asks-own w p)
