-- What a host has seen and served of asks, while only one replica goes on asking.
use Rattle.std.proofs.Common.{◌≡◌, ◌≢◌, ℕ, zero, suc, ◌<◌, ◌≤◌, ◌==◌, ◌&&◌, not, Bool, true, false, cond, Some, None, List, [], ◌∷◌, ◌++◌, length, refl, sym, ◌∙◌, ap, arith, subst, eqb-true, true≢false, append_assoc}
use Rattle.std.specs.Prelude.{max}
use Rattle.std.proofs.lemmas.Bool.{eq-eqb, ne_eqb}
use Rattle.mu_model.specs.declared.config.Config.{Config}
use Rattle.mu_model.specs.declared.event.Answer.{Answer}
use Rattle.mu_model.specs.declared.event.Event.{Event}
use Rattle.mu_model.specs.declared.event.Verb.{Verb}
use Rattle.mu_model.specs.Allowed.{Allowed, Needs}
use Rattle.mu_model.specs.Answers.{answer_of}
use Rattle.mu_model.specs.Bounds.{cycle}
use Rattle.mu_model.specs.Diligence.{GrantsInTime, ReadsInTime}
use Rattle.mu_model.specs.Histories.{all_below, before, has, newer_or, newest, or_zero, part, since}
use Rattle.mu_model.specs.Leaderships.{owner_is}
use Rattle.mu_model.specs.Legal.{IsLegalHistory}
use Rattle.mu_model.specs.Regions.{asks, fence_closing, fence_owner, is_close_of, is_grant_of}
use Rattle.mu_model.specs.Serving.{ask_read, has_unserved_ask, is_grant_to, seen_asks, served, served_as_owner, served_by_grant}
use Rattle.mu_model.specs.Steps.{is_ask_read}
use Rattle.mu_model.proofs.Basics.{same_number, same_some}
use Rattle.mu_model.proofs.Parts.{filter-append}
use Rattle.mu_agree.proofs.Legal.{event_after, legal_induction, legal_older}
use Rattle.mu_agree.specs.Moments.{AtEachStep}
use Rattle.mu_pace.proofs.Counting.{steps_before}
use Rattle.mu_pace.proofs.Pasts.{cut, reads_ask, Cut}
use Rattle.mu_alive.specs.Alone.{AsksAlone}
use Rattle.mu_alive.specs.Settling.{ReadsOpen}
use Rattle.mu_alive.proofs.Beginning.{alone_before, grants_before, reads_before}
use Rattle.mu_alive.proofs.Cutting.{Located, located, met, Met}
use Rattle.mu_alive.proofs.TurnOwners.{Waits, waits}

-- an induction over the legal histories in which asks are read only while the region isn't closing
pub open_induction : (c : Config) (P : List Event → Type 0) → P []
    → ((past : List Event) (by : ℕ) (v : Verb) → IsLegalHistory c past → ReadsOpen past (event_after c past by v) → Allowed c by (part by past) v → P past → P (event_after c past by v ∷ past))
    → (past : List Event) → IsLegalHistory c past → AtEachStep ReadsOpen past → P past
open_induction c P base step =
    legal_induction c (λ past. AtEachStep ReadsOpen past → P past) (λ _. base)
    (λ past by v h may ih rests. step past by v h rests.1 may (ih rests.0))

-- an owner's asks are served
abbrev pub OwnerServed : ℕ → List Event → Type 0
OwnerServed p past = (w : ℕ) → fence_owner p past ≡ Some w → seen_asks p w past ≤ served p w past

pub owner_step : (c : Config) (p by : ℕ) (v : Verb) (past : List Event) → ReadsOpen past (event_after c past by v) → OwnerServed p past → OwnerServed p (event_after c past by v ∷ past)
owner_step c p by (Verb.ReadAsk q) past rests s = λ w owns. go w owns (by == p) refl (q == w) refl
  where
    go : (w : ℕ) → fence_owner p past ≡ Some w → (t : Bool) → (by == p) ≡ t → (u : Bool) → (q == w) ≡ u → seen_asks p w (event_after c past by (Verb.ReadAsk q) ∷ past) ≤ served p w (event_after c past by (Verb.ReadAsk q) ∷ past)
    go w owns true ht true hu =
        let open_now = subst (λ x. fence_closing x past ≡ false) (eqb-true by p ht) (rests q refl) in
        rw (ht, hu, owns, open_now, same_number w) (omega arith)
    go w owns true ht false hu = rw (ht, hu) (s w owns)
    go w owns false ht u hu = rw ht (s w owns)
owner_step c p by (Verb.Grant q) past rests s = go (by == p) refl
  where
    go : (t : Bool) → (by == p) ≡ t → OwnerServed p (event_after c past by (Verb.Grant q) ∷ past)
    go true h = rw h (λ w is. rw (eq-eqb q w (same_some q w is)) (omega arith))
    go false h = rw h s
owner_step c p by v past rests s = s

pub owner_is_served : (c : Config) (p : ℕ) (past : List Event) → IsLegalHistory c past → AtEachStep ReadsOpen past → OwnerServed p past
owner_is_served c p = open_induction c (OwnerServed p) (λ w is. cc) (λ past by v h rests may s. owner_step c p by v past rests s)

-- some number below n passes if not all fail
pub passes_below : (n : ℕ) (f : ℕ → Bool) → all_below n (λ w. not (f w)) ≡ false → (w : ℕ) × (w < n) × (f w ≡ true)
passes_below zero f none = absurd (true≢false none)
passes_below (suc n) f none = go (f n) refl none (passes_below n f)
  where
    go : (t : Bool) → f n ≡ t → (not t && all_below n (λ w. not (f w))) ≡ false → (all_below n (λ w. not (f w)) ≡ false → (w : ℕ) × (w < n) × (f w ≡ true)) → (w : ℕ) × (w < suc n) × (f w ≡ true)
    go true is rest ih = (n, omega arith, is)
    go false is rest ih = let k = ih rest in let low = k.1 in (k.0, omega (arith, low), k.2)

-- somebody waits at p
abbrev pub SomeWaits : Config → ℕ → List Event → Type 0
SomeWaits c p past = (w : ℕ) × (w < c.replicas) × Waits p w past

-- while a region is closing somebody waits there
abbrev pub ClosesFor : Config → ℕ → List Event → Type 0
ClosesFor c p past = fence_closing p past ≡ true → SomeWaits c p past

pub closes_close : (c : Config) (p by : ℕ) (past : List Event) → Needs c by (part by past) Verb.Close → ClosesFor c p past → (t : Bool) → (by == p) ≡ t → ClosesFor c p (event_after c past by Verb.Close ∷ past)
closes_close c p by past may s true h = λ is.
    let at_p = subst (λ x. Needs c x (part x past) Verb.Close) (eqb-true by p h) may in
    let some = passes_below c.replicas (has_unserved_ask p (part p past)) at_p.1.0 in
    let k = waits p some.0 past some.2 in
    (some.0, some.1, record { other = k.other; more = k.more })
closes_close c p by past may s false h = rw h (λ is. let k = s is in (k.0, k.1, record { other = k.2.other; more = k.2.more }))

pub closes_grant : (c : Config) (p by q : ℕ) (past : List Event) → ClosesFor c p past → (t : Bool) → (by == p) ≡ t → ClosesFor c p (event_after c past by (Verb.Grant q) ∷ past)
closes_grant c p by q past s true h = rw h (λ is. absurd (true≢false (sym is)))
closes_grant c p by q past s false h = λ is.
    let k = s (sym (ap (λ t. has (is_close_of p) (cond t [] (event_after c past by (Verb.Grant q) ∷ since (is_grant_of p) past))) h) ∙ is) in
    (k.0, k.1, record { other = λ owns. k.2.other (sym (ap (λ t. newer_or (cond t (Some q) None) (fence_owner p past)) h) ∙ owns); more = subst (λ t. max (seen_asks p k.0 (cond (t && (q == k.0)) past (before (λ (e : Event). is_grant_to p k.0 e.by e.verb) past))) (or_zero (served_as_owner p k.0 past)) < seen_asks p k.0 past) (sym h) k.2.more })

pub closes_read : (c : Config) (p by q : ℕ) (past : List Event) → ReadsOpen past (event_after c past by (Verb.ReadAsk q)) → ClosesFor c p past → (t : Bool) → (by == p) ≡ t → ClosesFor c p (event_after c past by (Verb.ReadAsk q) ∷ past)
closes_read c p by q past rests s true h = λ is. absurd (true≢false (sym is ∙ subst (λ x. fence_closing x past ≡ false) (eqb-true by p h) (rests q refl)))
closes_read c p by q past rests s false h = λ is.
    let k = s is in
    (k.0, k.1, record { other = k.2.other; more = rw h (k.2.more) })

pub closes_step : (c : Config) (p by : ℕ) (v : Verb) (past : List Event) → ReadsOpen past (event_after c past by v) → Needs c by (part by past) v → ClosesFor c p past → ClosesFor c p (event_after c past by v ∷ past)
closes_step c p by Verb.Close past rests may s = closes_close c p by past may s (by == p) refl
closes_step c p by (Verb.Grant q) past rests may s = closes_grant c p by q past s (by == p) refl
closes_step c p by (Verb.ReadAsk q) past rests may s = closes_read c p by q past rests s (by == p) refl
closes_step c p by v past rests may s = λ is. let k = s is in (k.0, k.1, record { other = k.2.other; more = k.2.more })

pub closes_for : (c : Config) (p : ℕ) (past : List Event) → IsLegalHistory c past → AtEachStep ReadsOpen past → ClosesFor c p past
closes_for c p = open_induction c (ClosesFor c p) (λ is. absurd (true≢false (sym is))) (λ past by v h rests may s. closes_step c p by v past rests may.may s)

-- no more asks are seen, and served, than there are
pub record WithinAsks (granted owned seen all : ℕ) : Type 0 where
  pub granted_few : granted ≤ all
  pub owned_few : owned ≤ all
  pub seen_few : seen ≤ all

abbrev pub CountsAsks : ℕ → ℕ → List Event → Type 0
CountsAsks p w past = WithinAsks (served_by_grant p w past) (or_zero (served_as_owner p w past)) (seen_asks p w past) (asks w p past)

pub counts_ask : (c : Config) (p w by q : ℕ) (past : List Event) → CountsAsks p w past → (t : Bool) → ((by == w) && (q == p)) ≡ t → CountsAsks p w (event_after c past by (Verb.Ask q) ∷ past)
counts_ask c p w by q past s true h = rw h (let a = s.granted_few in let b = s.owned_few in let d = s.seen_few in record { granted_few = omega (arith, a); owned_few = omega (arith, b); seen_few = omega (arith, d) })
counts_ask c p w by q past s false h = rw h s

pub counts_read : (c : Config) (p w by q : ℕ) (past : List Event) → CountsAsks p w past → (t : Bool) → (by == p) ≡ t → (u : Bool) → (q == w) ≡ u → (o : Bool) → (owner_is w (fence_owner p past) && not (fence_closing p past)) ≡ o → CountsAsks p w (event_after c past by (Verb.ReadAsk q) ∷ past)
counts_read c p w by q past s true ht true hu true ho =
    let all : asks q by past ≤ asks w p past = (let one = ap (λ x. asks x by past) (eqb-true q w hu) in let two = ap (λ x. asks w x past) (eqb-true by p ht) in omega (arith, one, two)) in
    rw (ht, hu, ho) (record { granted_few = s.granted_few; owned_few = all; seen_few = all })
counts_read c p w by q past s true ht true hu false ho =
    let all : asks q by past ≤ asks w p past = (let one = ap (λ x. asks x by past) (eqb-true q w hu) in let two = ap (λ x. asks w x past) (eqb-true by p ht) in omega (arith, one, two)) in
    rw (ht, hu, ho) (record { granted_few = s.granted_few; owned_few = s.owned_few; seen_few = all })
counts_read c p w by q past s true ht false hu o ho = rw (ht, hu) s
counts_read c p w by q past s false ht u hu o ho = rw ht s

pub counts_grant : (c : Config) (p w by q : ℕ) (past : List Event) → CountsAsks p w past → (t : Bool) → ((by == p) && (q == w)) ≡ t → CountsAsks p w (event_after c past by (Verb.Grant q) ∷ past)
counts_grant c p w by q past s true h = rw h (record { granted_few = s.seen_few; owned_few = s.owned_few; seen_few = s.seen_few })
counts_grant c p w by q past s false h = rw h s

pub counts_step : (c : Config) (p w by : ℕ) (v : Verb) (past : List Event) → CountsAsks p w past → CountsAsks p w (event_after c past by v ∷ past)
counts_step c p w by (Verb.Ask q) past s = counts_ask c p w by q past s ((by == w) && (q == p)) refl
counts_step c p w by (Verb.ReadAsk q) past s = counts_read c p w by q past s (by == p) refl (q == w) refl (owner_is w (fence_owner p past) && not (fence_closing p past)) refl
counts_step c p w by (Verb.Grant q) past s = counts_grant c p w by q past s ((by == p) && (q == w)) refl
counts_step c p w by v past s = s

pub served_few : (c : Config) (p w : ℕ) (past : List Event) → IsLegalHistory c past → served p w past ≤ asks w p past
served_few c p w past legal =
    let k = legal_induction c (CountsAsks p w) (record { granted_few = omega arith; owned_few = omega arith; seen_few = omega arith }) (λ past by v h may s. counts_step c p w by v past s) past legal in
    let a = k.granted_few in let b = k.owned_few in omega (arith, a, b)

-- all asks of w that there are were seen
abbrev pub HasSeen : ℕ → ℕ → List Event → Type 0
HasSeen p w past = seen_asks p w past ≡ asks w p past

pub seen_step : (c : Config) (a p w by : ℕ) (v : Verb) (past : List Event) → ((q : ℕ) → v ≡ Verb.Ask q → by ≡ a) → w ≢ a → HasSeen p w past → HasSeen p w (event_after c past by v ∷ past)
seen_step c a p w by (Verb.Ask q) past own other s = rw (false_here (by == w) (q == p) (ne_eqb by w (λ same. other (sym same ∙ own q refl)))) s
  where
    false_here : (t u : Bool) → t ≡ false → (t && u) ≡ false
    false_here t u h = rw h refl
seen_step c a p w by (Verb.ReadAsk q) past own other s = go (by == p) refl (q == w) refl
  where
    go : (t : Bool) → (by == p) ≡ t → (u : Bool) → (q == w) ≡ u → HasSeen p w (event_after c past by (Verb.ReadAsk q) ∷ past)
    go true ht true hu = rw (ht, hu) (ap (λ x. asks x by past) (eqb-true q w hu) ∙ ap (λ x. asks w x past) (eqb-true by p ht))
    go true ht false hu = rw (ht, hu) s
    go false ht u hu = rw ht s
seen_step c a p w by v past own other s = s

pub seen_on : (c : Config) (a p w : ℕ) (later base : List Event) → IsLegalHistory c (later ++ base) → AsksAlone a later → w ≢ a → HasSeen p w base → HasSeen p w (later ++ base)
seen_on c a p w [] base legal alone other s = s
seen_on c a p w (e ∷ later) base legal alone other s =
    subst (λ y. HasSeen p w (record { by = e.by; verb = e.verb; answer = y } ∷ (later ++ base))) (sym legal.1.answer)
    (seen_step c a p w e.by e.verb (later ++ base) alone.1 other (seen_on c a p w later base legal.0 alone.0 other s))

-- a read sees them
pub read_sees : (c : Config) (p w : ℕ) (x : Event) (past : List Event) → IsLegalHistory c (x ∷ past) → x.by ≡ p → is_ask_read w x ≡ true → HasSeen p w (x ∷ past)
read_sees c p w x past legal own reads = let verb = reads_ask w x.verb reads in sees x.by x.verb x.answer own verb (legal.1.answer ∙ ap (answer_of c x.by past) verb)
  where
    sees : (by : ℕ) (verb : Verb) (answer : Answer) → by ≡ p → verb ≡ Verb.ReadAsk w → answer ≡ answer_of c by past (Verb.ReadAsk w) → HasSeen p w (record { by = by; verb = verb; answer = answer } ∷ past)
    sees by verb answer own is says =
        subst (λ v. HasSeen p w (record { by = by; verb = v; answer = answer } ∷ past)) (sym is)
        (subst (λ y. HasSeen p w (record { by = by; verb = Verb.ReadAsk w; answer = y } ∷ past)) (sym says) (rw (eq-eqb by p own, same_number w) (ap (λ i. asks w i past) own)))

-- the host p keeps its paces, and only a asks
pub record Hosts (c : Config) (a p : ℕ) (later base : List Event) : Type 0 where
  pub inside : a < c.replicas
  pub legal : IsLegalHistory c (later ++ base)
  pub alone : AsksAlone a later
  pub resting : AtEachStep ReadsOpen (later ++ base)
  pub reads : ReadsInTime c p (part p (later ++ base))
  pub grants : GrantsInTime c p (part p (later ++ base))

pub hosts_before : (c : Config) (a p : ℕ) (top later base : List Event) → Hosts c a p (top ++ later) base → Hosts c a p later base
hosts_before c a p top later base h = record {
  inside = h.inside;
  legal = legal_older c top (later ++ base) (subst (IsLegalHistory c) whole h.legal);
  alone = alone_before a top later h.alone;
  resting = steps_before ReadsOpen top (later ++ base) (subst (AtEachStep ReadsOpen) whole h.resting);
  reads = reads_before c p (part p top) (part p (later ++ base)) (subst (ReadsInTime c p) split h.reads);
  grants = grants_before c p (part p top) (part p (later ++ base)) (subst (GrantsInTime c p) split h.grants);
}
  where
    whole : (top ++ later) ++ base ≡ top ++ (later ++ base)
    whole = append_assoc top later base

    split : part p ((top ++ later) ++ base) ≡ part p top ++ part p (later ++ base)
    split = ap (part p) whole ∙ filter-append (λ e. e.by == p) top (later ++ base)

-- the older of these events may count to those before
pub hosts_after : (c : Config) (a p : ℕ) (top later base : List Event) → Hosts c a p (top ++ later) base → Hosts c a p top (later ++ base)
hosts_after c a p top later base h = record {
  inside = h.inside;
  legal = subst (IsLegalHistory c) whole h.legal;
  alone = alone_newer top h.alone;
  resting = subst (AtEachStep ReadsOpen) whole h.resting;
  reads = subst (λ l. ReadsInTime c p (part p l)) whole h.reads;
  grants = subst (λ l. GrantsInTime c p (part p l)) whole h.grants;
}
  where
    whole : (top ++ later) ++ base ≡ top ++ (later ++ base)
    whole = append_assoc top later base

    alone_newer : (xs : List Event) → AsksAlone a (xs ++ later) → AsksAlone a xs
    alone_newer [] alone = tt
    alone_newer (e ∷ xs) alone = (alone_newer xs alone.0, alone.1)

-- after a round of the cycle all asks of another were seen
pub seen_by : (c : Config) (a p w : ℕ) (later base : List Event) → Hosts c a p later base → w < c.replicas → w ≢ a → cycle c ≤ length (part p later) → HasSeen p w (later ++ base)
seen_by c a p w later base h low other long = there read.event (bottom.newer ++ read.newer) read.older whole read.passes (located p later (bottom.newer ++ read.newer) read.older read.event whole)
  where
    bottom : Cut (cycle c) (part p later)
    bottom = cut (cycle c) (part p later) long

    stretch : part p (later ++ base) ≡ bottom.newer ++ (bottom.rest ++ part p base)
    stretch = filter-append (λ e. e.by == p) later base ∙ ap (λ l. l ++ part p base) bottom.is ∙ append_assoc bottom.newer bottom.rest (part p base)

    read : Met (is_ask_read w) bottom.rest
    read = met (is_ask_read w) bottom.rest (h.reads.asks w bottom.rest (part p base) low (record { newer = bottom.newer; is = stretch }) bottom.count)

    whole : part p later ≡ (bottom.newer ++ read.newer) ++ read.event ∷ read.older
    whole = bottom.is ∙ ap (λ l. bottom.newer ++ l) read.is ∙ sym (append_assoc bottom.newer read.newer (read.event ∷ read.older))

    there : (x : Event) (top after : List Event) → part p later ≡ top ++ x ∷ after → is_ask_read w x ≡ true → Located p later x after → HasSeen p w (later ++ base)
    there x top after is reads l =
        let at = subst (λ y. Hosts c a p y base) l.is h in
        let split : later ++ base ≡ l.newer ++ (x ∷ (l.older ++ base)) = ap (λ y. y ++ base) l.is ∙ append_assoc l.newer (x ∷ l.older) base in
        let on = hosts_after c a p l.newer (x ∷ l.older) base at in
        subst (HasSeen p w) (sym split) (seen_on c a p w l.newer (x ∷ (l.older ++ base)) on.legal on.alone other (read_sees c p w x (l.older ++ base) (legal_older c l.newer (x ∷ (l.older ++ base)) on.legal) l.own reads))

-- some asks of w that were seen aren't served
abbrev pub Lacks : ℕ → ℕ → List Event → Type 0
Lacks p w past = served p w past < seen_asks p w past

-- once all were seen, who lacks lacked before
pub lacks_step : (c : Config) (p w by : ℕ) (v : Verb) (past : List Event) → HasSeen p w past → Lacks p w (event_after c past by v ∷ past) → Lacks p w past
lacks_step c p w by (Verb.ReadAsk q) past seen lacks = go (by == p) refl (q == w) refl (owner_is w (fence_owner p past) && not (fence_closing p past)) refl lacks
  where
    go : (t : Bool) → (by == p) ≡ t → (u : Bool) → (q == w) ≡ u → (o : Bool) → (owner_is w (fence_owner p past) && not (fence_closing p past)) ≡ o
        → max (served_by_grant p w past) (or_zero (newer_or (cond ((by == p) && ((q == w) && (owner_is w (fence_owner p past) && not (fence_closing p past)))) (Some (asks q by past)) None) (served_as_owner p w past))) < or_zero (newer_or (cond ((by == p) && (q == w)) (Some (asks q by past)) None) (newest (λ e. ask_read p w e.by e.verb e.answer) past)) → Lacks p w past
    go true ht true hu true ho = rw (ht, hu, ho) (λ l. absurd (omega (arith, l)))
    go true ht true hu false ho = rw (ht, hu, ho) (λ l. (let one = ap (λ x. asks x by past) (eqb-true q w hu) in let two = ap (λ x. asks w x past) (eqb-true by p ht) in omega (arith, l, one, two, seen)))
    go true ht false hu o ho = rw (ht, hu) (λ l. l)
    go false ht u hu o ho = rw ht (λ l. l)
lacks_step c p w by (Verb.Grant q) past seen lacks = go ((by == p) && (q == w)) refl lacks
  where
    go : (t : Bool) → ((by == p) && (q == w)) ≡ t → max (seen_asks p w (cond ((by == p) && (q == w)) past (before (λ e. is_grant_to p w e.by e.verb) past))) (or_zero (served_as_owner p w past)) < seen_asks p w past → Lacks p w past
    go true h = rw h (λ l. absurd (omega (arith, l)))
    go false h = rw h (λ l. l)
lacks_step c p w by v past seen lacks = lacks

pub lacked : (c : Config) (p w : ℕ) (e : Event) (past : List Event) → IsLegalHistory c (e ∷ past) → HasSeen p w past → Lacks p w (e ∷ past) → Lacks p w past
lacked c p w e past legal seen lacks = lacks_step c p w e.by e.verb past seen (subst (λ y. Lacks p w (record { by = e.by; verb = e.verb; answer = y } ∷ past)) legal.1.answer lacks)

pub lacked_before : (c : Config) (a p w : ℕ) (later base : List Event) → IsLegalHistory c (later ++ base) → AsksAlone a later → w ≢ a → HasSeen p w base → Lacks p w (later ++ base) → Lacks p w base
lacked_before c a p w [] base legal alone other seen lacks = lacks
lacked_before c a p w (e ∷ later) base legal alone other seen lacks = lacked_before c a p w later base legal.0 alone.0 other seen (lacked c p w e (later ++ base) legal (seen_on c a p w later base legal.0 alone.0 other seen) lacks)
