-- All that keep up with the last that asks in turn have applied all in time, and raised their heads to it.
use Rattle.std.proofs.Common.{eqb-true, true≢false, ◌≡◌, ℕ, ◌+◌, ◌*◌, ◌<◌, ◌≤◌, ◌==◌, inl, inr, Bool, true, false, Some, List, [], ◌∷◌, ◌++◌, length, refl, sym, ◌∙◌, ap, arith, subst, append_assoc, is_some}
use Rattle.std.proofs.Math.Nat.{mul-le-mul_right}
use Rattle.std.proofs.lemmas.List.{length-append}
use Rattle.mu_model.specs.declared.config.Config.{Config}
use Rattle.mu_model.specs.declared.event.Event.{Event}
use Rattle.mu_model.specs.declared.event.Verb.{Verb}
use Rattle.mu_model.specs.Allowed.{Needs}
use Rattle.mu_model.specs.Bounds.{stays}
use Rattle.mu_model.specs.Bounds.{cycle}
use Rattle.mu_model.specs.Contents.{IsConfig, row_count}
use Rattle.mu_model.specs.Histories.{has, part}
use Rattle.mu_model.specs.Knowledge.{applied, known}
use Rattle.mu_model.specs.Room.{reserve}
use Rattle.mu_model.specs.Leaderships.{grant_for, has_begun, is_over, proposal_number}
use Rattle.mu_model.specs.Legal.{IsLegalHistory}
use Rattle.mu_model.specs.Regions.{fence}
use Rattle.mu_model.specs.Steps.{has_min, is_asking, is_named, knows_all}
use Rattle.mu_model.specs.Stretches.{is_replication}
use Rattle.mu_model.proofs.Parts.{filter-append, part_is_possible}
use Rattle.mu_agree.proofs.Landings.{has_of_part}
use Rattle.mu_agree.proofs.Legal.{event_after, legal_induction, legal_older}
use Rattle.mu_agree.specs.Moments.{AtEachMoment, AtEachStep}
use Rattle.mu_pace.proofs.Counting.{moments_before, both_moments, steps_before}
use Rattle.mu_alive.specs.Following.{catching_steps, RaisesToAll}
use Rattle.mu_alive.specs.Bringing.{IsGranted, LeadsOn}
use Rattle.mu_alive.specs.Enough.{asking_steps}
use Rattle.mu_alive.specs.Finishing.{AsksAllFirst, HaveAllRaised, KeepUp, LastLeadersRaiseAll, spreading_steps}
use Rattle.mu_alive.specs.Last.{FetchesInTime, LeadsLast, NamesItself, fetching_steps, last_granting_steps, last_steps}
use Rattle.mu_alive.specs.Opens.{AsksUntilMin, OpensInTime}
use Rattle.mu_alive.specs.Turns.{is_own_min}
use Rattle.mu_alive.proofs.Beginning.{CutAt, cut_at}
use Rattle.mu_alive.proofs.Cutting.{located, longer, moments_of}
use Rattle.mu_alive.proofs.Enough.{FirstMin, Leads, min_or_none, min_parts}
use Rattle.mu_alive.proofs.Fetching.{fetched}
use Rattle.mu_alive.proofs.Lasting.{AsksAllBy, all_by_each, last_before, last_begins, last_knows_all, last_leads, late_named, owned}
use Rattle.mu_alive.proofs.Moments.{AsksEach, From, at_least_halves, each_before, halves, some_event}
use Rattle.mu_alive.proofs.Spreading.{AppliesMeanwhile, Governs, all_raised, each_notes, moments_more, spreads}
use Rattle.mu_alive.proofs.Started.{Started, numbered_there, numbered_with, one_leads, some_asked}
use Rattle.mu_alive.proofs.TurnFences.{lead_on_moments}
use Rattle.mu_alive.proofs.TurnOwners.{stays_open, seen_again}
use Rattle.mu_alive.proofs.Turns.{begun-part, min_begun, put_reads}
use Rattle.mu_pace.proofs.Pasts.{begun_on, min_now}
use Rattle.mu_pace.specs.Watches.{puts_number}
use Rattle.mu_model.specs.Diligence.{Replays, TellsHeads}
use Rattle.mu_alive.specs.Alone.{WritesAlone}

-- what a journal keeps its beginnings keep
pub replays_before : (c : Config) (r : ℕ) (newer older : List Event) → Replays c r (newer ++ older) → Replays c r older
replays_before c r newer older held = record {
  reads = λ window o s n off. held.reads window o (longer newer older window o s) n off;
  learns = λ window o s n off low. held.learns window o (longer newer older window o s) n off low;
}

pub heads_before : (c : Config) (r : ℕ) (newer older : List Event) → TellsHeads c r (newer ++ older) → TellsHeads c r older
heads_before c r newer older held = record {
  raises = λ window o s low n. held.raises window o (longer newer older window o s) low n;
  reads = λ q window o low other s n. held.reads q window o low other (longer newer older window o s) n;
}

pub keep_before : (c : Config) (live : ℕ → Bool) (a : ℕ) (newer older : List Event) → KeepUp c live a (newer ++ older) → KeepUp c live a older
keep_before c live a newer older keep = record {
  replays = λ r low lives. replays_before c r (part r newer) (part r older) (subst (Replays c r) (split r) (keep.replays r low lives));
  heads = λ r low lives. heads_before c r (part r newer) (part r older) (subst (TellsHeads c r) (split r) (keep.heads r low lives));
  raises = λ r low lives. steps_before (RaisesToAll c r) (part r newer) (part r older) (subst (AtEachStep (RaisesToAll c r)) (split r) (keep.raises r low lives));
  unnamed = λ r low lives other. moments_before (λ now. is_named c r now ≡ false) (part r newer) (part r older) (subst (AtEachMoment (λ now. is_named c r now ≡ false)) (split r) (keep.unnamed r low lives other));
  asked = λ above below e p is min waits on low. keep.asked (part a newer ++ above) below e p (split a ∙ ap (λ x. part a newer ++ x) is ∙ sym (append_assoc (part a newer) above (e ∷ below))) min waits on low;
}
  where
    split : (r : ℕ) → part r (newer ++ older) ≡ part r newer ++ part r older
    split r = filter-append (λ e. e.by == r) newer older

pub writes_before : (a : ℕ) (newer older : List Event) → WritesAlone a (newer ++ older) → WritesAlone a older
writes_before a [] older writes = writes
writes_before a (e ∷ newer) older writes = writes_before a newer older writes.0

-- while it has read no minimum it asks again and again, whatever it knows
pub each_unread : (c : Config) (a start : ℕ) (mine : List Event) → AsksUntilMin c a mine → AtEachMoment (NamesItself c a start) mine → AtEachMoment (λ now. has_min a now ≡ false) mine → AsksEach c start mine
each_unread c a start mine asks named none p newer window older is long late low =
    some_event (is_asking p) window older
    (asks p window older low (record { newer = newer; is = is }) (halves (17 * c.replicas + 1) window older long)
    (each_before start (is_named c a) is_replication window older late (moments_before (From start (λ now. is_named c a now ≡ true)) newer (window ++ older) (subst (AtEachMoment (From start (λ now. is_named c a now ≡ true))) is (late_named c a start mine named))))
    (moments_before (λ now. has_min a now ≡ false) newer (window ++ older) (subst (AtEachMoment (λ now. has_min a now ≡ false)) is none)))

-- what a journal keeps of its opening its beginnings keep
asks_older : (c : Config) (a : ℕ) (newer older : List Event) → AsksUntilMin c a (newer ++ older) → AsksUntilMin c a older
asks_older c a newer older asks p window base low s = asks p window base low (longer newer older window base s)

pub opens_before : (c : Config) (a : ℕ) (newer older : List Event) → OpensInTime c a (newer ++ older) → OpensInTime c a older
opens_before c a newer older opens = record { asks = asks_older c a newer older opens.asks; numbers = λ e window o s. opens.numbers e window o (longer newer older window (e ∷ o) s) }

-- so after this many steps it has asked each region: before its first minimum, or since it names itself
pub asks_all : (c : Config) (live : ℕ → Bool) (a start : ℕ) (past : List Event) → LeadsLast c live a start past → AsksUntilMin c a (part a past) → AsksAllFirst c a (part a past) → AsksAllBy c a (start + asking_steps c) past
asks_all c live a start past last asks first front rest is count q low = elim (min_or_none a (part a rest)) [
  | inl none ↦
      let there = last_before c live a start front rest (subst (LeadsLast c live a start) is last) in
      all_by_each c a start rest (each_unread c a start (part a rest) (asks_older c a (part a front) (part a rest) (subst (AsksUntilMin c a) split asks)) there.named none) [] rest refl count q low
  | inr f ↦
      let up : part a past ≡ (part a front ++ f.newer) ++ f.first ∷ f.older = split ∙ ap (λ l. part a front ++ l) f.is ∙ sym (append_assoc (part a front) f.newer (f.first ∷ f.older)) in
      let asked = first (part a front ++ f.newer) f.older f.first q up f.min f.none low in
      ap (has (is_asking q)) f.is ∙ some_asked q f.newer (f.first ∷ f.older) (some_asked q (f.first ∷ []) f.older asked)
]
  where
    split : part a past ≡ part a front ++ part a rest
    split = ap (part a) is ∙ filter-append (λ e. e.by == a) front rest

-- who has a minimum names itself
min_named : (c : Config) (a start : ℕ) (now : List Event) → NamesItself c a start now → has_min a now ≡ true → is_named c a now ≡ true
min_named c a start now named some = named (inr (min_parts a now some).0)

-- it has started to lead after this many steps
pub last_started : (c : Config) (live : ℕ → Bool) (a start : ℕ) (past : List Event) → IsConfig c → LeadsLast c live a start past → OpensInTime c a (part a past) → AsksAllFirst c a (part a past) → start + last_granting_steps c a + 2 * asking_steps c + 2 * (c.replicas + 2) ≤ length (part a past) → Started c a past
last_started c live a start past good last opens first many = elim (min_or_none a (part a past)) [
  | inl none ↦ absurd (let few = last_begins c live a start past good last (each_unread c a start (part a past) opens.asks last.named none) none in omega (arith, few, many))
  | inr f ↦ found f
]
  where
    on : AtEachMoment (λ now. is_over a now ≡ false) (part a past)
    on = lead_on_moments c a past last.legal last.turns (let most = good.replicas.1 in omega (arith, most))

    found : FirstMin a (part a past) → Started c a past
    found f = record {
      read = ap (has_min a) f.is ∙ goes.1;
      numbered = ap (λ x. is_some (proposal_number a x)) f.is ∙ numbered_with a f.newer (f.first ∷ f.older) goes.0 puts;
      asked = λ p low. subst (λ x. has (is_asking p) x ≡ true) (sym f.is) (some_asked p f.newer (f.first ∷ f.older) (some_asked p (f.first ∷ []) f.older (first f.newer f.older f.first p f.is f.min f.none low)));
    }
      where
        goes : (stays a f.newer ≡ true) × (has_min a (f.newer ++ f.first ∷ f.older) ≡ true)
        goes = one_leads c a f.newer (f.first ∷ f.older) (subst (AtEachStep (Leads c a)) f.is (last_leads c a start past last.turns last.named)) (min_now a f.first f.older f.min f.begun)

        few : length f.older < start + last_granting_steps c a + 2 * asking_steps c
        few =
            let at = located a past f.newer f.older f.first f.is in
            let whole : past ≡ (at.newer ++ f.first ∷ []) ++ at.older = at.is ∙ sym (append_assoc at.newer (f.first ∷ []) at.older) in
            let there = last_before c live a start (at.newer ++ f.first ∷ []) at.older (subst (LeadsLast c live a start) whole last) in
            let unread = subst (AtEachMoment (λ now. has_min a now ≡ false)) (sym at.before) f.none in
            let split : part a past ≡ (f.newer ++ f.first ∷ []) ++ part a at.older = f.is ∙ ap (λ l. f.newer ++ f.first ∷ l) (sym at.before) ∙ sym (append_assoc f.newer (f.first ∷ []) (part a at.older)) in
            let short = last_begins c live a start at.older good there (each_unread c a start (part a at.older) (asks_older c a (f.newer ++ f.first ∷ []) (part a at.older) (subst (AsksUntilMin c a) split opens.asks)) there.named unread) unread in
            let same = ap length at.before in
            omega (arith, short, same)

        puts : has (puts_number a) f.newer ≡ true
        puts =
            opens.numbers f.first f.newer f.older (record { newer = []; is = f.is }) f.min f.none (subst (AtEachMoment (λ now. is_over a now ≡ false)) f.is on)
            (subst (AtEachMoment (λ now. has_min a now ≡ true → is_named c a now ≡ true)) f.is (moments_more (NamesItself c a start) (λ now. has_min a now ≡ true → is_named c a now ≡ true) (min_named c a start) (part a past) last.named))
            (let sum = ap length f.is ∙ length-append f.newer (f.first ∷ f.older) in let short = few in let half = at_least_halves f.newer (f.first ∷ f.older) in omega (arith, sum, short, many, half))

-- who has put a number has begun
abbrev NumberBegun : ℕ → List Event → Type 0
NumberBegun w past = has (puts_number w) past ≡ true → has_begun w past ≡ true

number_begun_step : (c : Config) (w by : ℕ) (v : Verb) (past : List Event) → IsLegalHistory c past → Needs c by (part by past) v → NumberBegun w past → NumberBegun w (event_after c past by v ∷ past)
number_begun_step c w by (Verb.PutMin q b) past legal may s = go (by == w) refl
  where
    go : (t : Bool) → (by == w) ≡ t → NumberBegun w (event_after c past by (Verb.PutMin q b) ∷ past)
    go true h = λ _. min_begun c w past legal (subst (λ x. has (is_own_min x) past ≡ true) (eqb-true by w h) (put_reads c by q b past legal may))
    go false h = rw h s
number_begun_step c w by (Verb.Ask q) past legal may s = λ some. begun_on w (event_after c past by (Verb.Ask q)) past (s some)
number_begun_step c w by v past legal may s = s

number_begun : (c : Config) (w : ℕ) (past : List Event) → IsLegalHistory c past → NumberBegun w past
number_begun c w = legal_induction c (NumberBegun w) (λ some. absurd (true≢false (sym some))) (λ past by v h may s. number_begun_step c w by v past h may.may s)

-- so it names itself while it has a number
pub number_named : (c : Config) (a start : ℕ) (past : List Event) → IsLegalHistory c past → AtEachMoment (NamesItself c a start) (part a past) → AtEachMoment (λ now. is_some (proposal_number a now) ≡ true → is_named c a now ≡ true) (part a past)
number_named c a start past legal named =
    both_moments (NamesItself c a start) (λ now. is_some (proposal_number a now) ≡ true → has_begun a now ≡ true) (λ now. is_some (proposal_number a now) ≡ true → is_named c a now ≡ true) (λ now itself begun some. itself (inr (begun some))) (part a past) named
    (moments_of a (λ now. is_some (proposal_number a now) ≡ true → has_begun a now ≡ true) past (λ newer older is some. begun-part a older ∙ number_begun c a older (legal_older c newer older (subst (IsLegalHistory c) is legal)) (has_of_part (puts_number a) a older (numbered_there a (part a older) some))))

-- so it leads on
pub leads_on : (c : Config) (live : ℕ → Bool) (a start : ℕ) (past : List Event) → IsConfig c → LeadsLast c live a start past → LeadsOn c a (part a past)
leads_on c live a start past good last = record {
  inside = last.inside;
  possible = part_is_possible c a past last.legal;
  on = lead_on_moments c a past last.legal last.turns (let most = good.replicas.1 in omega (arith, most));
  named = number_named c a start past last.legal last.named;
  led = last.led;
}

-- from then on the regions of all that keep up grant to it
pub governs : (c : Config) (live : ℕ → Bool) (a start : ℕ) (newer older : List Event) → IsConfig c → LeadsLast c live a start (newer ++ older) → AsksAllBy c a (start + asking_steps c) (newer ++ older) → Started c a older → start + last_granting_steps c a ≤ length (part a older) → Governs c live a newer older
governs c live a start newer older good last asks begun late = record {
  inside = last.inside;
  lives = last.lives;
  legal = last.legal;
  near = last.near;
  leads = subst (LeadsOn c a) split (leads_on c live a start (newer ++ older) good last);
  granted = granted;
}
  where
    split : part a (newer ++ older) ≡ part a newer ++ part a older
    split = filter-append (λ e. e.by == a) newer older

    goes : (stays a (part a newer) ≡ true) × (has_min a (part a newer ++ part a older) ≡ true)
    goes = one_leads c a (part a newer) (part a older) (subst (AtEachStep (Leads c a)) split (last_leads c a start (newer ++ older) last.turns last.named)) begun.read

    granted : (p : ℕ) → p < c.replicas → live p ≡ true → IsGranted c a p (part a newer) (part a older)
    granted p low lives = record { inside = low; read = begun.read; numbered = begun.numbered; same = goes.0; notes = λ above below e. each_notes c a p newer older above below e last.legal grants }
      where
        grants : (above below : List Event) → newer ≡ above ++ below → is_some (grant_for a (Some (fence p (below ++ older)))) ≡ true
        grants above below cuts =
            let whole : newer ++ older ≡ above ++ (below ++ older) = ap (λ x. x ++ older) cuts ∙ append_assoc above below older in
            let there = last_before c live a start above (below ++ older) (subst (LeadsLast c live a start) whole last) in
            let more = ap length (filter-append (λ e. e.by == a) below older) ∙ length-append (part a below) (part a older) in
            ap is_some (seen_again a p (below ++ older) (stays_open c a p (below ++ older) there.legal there.turns there.highest)
            (owned c live a start p (below ++ older) there (λ front rest is. asks (above ++ front) rest (whole ∙ ap (λ l. above ++ l) is ∙ sym (append_assoc above front rest))) low lives (omega (arith, more, late))))

-- so once it knows every command, all that keep up with it have applied all and
-- raised their heads to it `spreading_steps` later
pub raised_by : (c : Config) (live : ℕ → Bool) (a start most : ℕ) (past : List Event) → IsConfig c → LeadsLast c live a start past → OpensInTime c a (part a past) → FetchesInTime c a (part a past) → KeepUp c live a past → start + last_granting_steps c a + 2 * asking_steps c + 2 * (c.replicas + 2) ≤ most
    → ((newer older : List Event) → past ≡ newer ++ older → most ≤ length (part a older) → knows_all c a (part a older) ≡ true) → most + spreading_steps c ≤ length (part a past) → HaveAllRaised c live past
raised_by c live a start most past good last opens fetches keep late by many =
    subst (HaveAllRaised c live) (sym at.is)
    (all_raised c live a at.newer at.rest (subst (IsLegalHistory c) at.is last.legal) knows
    (spreads c live a (length (known c a (part a at.rest))) at.newer at.rest good
    (governs c live a start at.newer at.rest good (subst (LeadsLast c live a start) at.is last) (subst (AsksAllBy c a (start + asking_steps c)) at.is (asks_all c live a start past last opens.asks keep.asked)) begun (let count = at.count in omega (arith, count, late)))
    (subst (KeepUp c live a) at.is keep) (omega arith) applies (let sum = ap length split ∙ length-append (part a at.newer) (part a at.rest) in let count = at.count in omega (arith, sum, count, many))))
  where
    at : CutAt a most past
    at = cut_at a most past (omega (arith, many))

    split : part a past ≡ part a at.newer ++ part a at.rest
    split = ap (part a) at.is ∙ filter-append (λ e. e.by == a) at.newer at.rest

    there : LeadsLast c live a start at.rest
    there = last_before c live a start at.newer at.rest (subst (LeadsLast c live a start) at.is last)

    knows : knows_all c a (part a at.rest) ≡ true
    knows = by at.newer at.rest at.is (let count = at.count in omega (arith, count))

    begun : Started c a at.rest
    begun =
        last_started c live a start at.rest good there
        (opens_before c a (part a at.newer) (part a at.rest) (subst (OpensInTime c a) split opens))
        (keep_before c live a at.newer at.rest (subst (KeepUp c live a) at.is keep)).asked (let count = at.count in omega (arith, count, late))

    -- it fetches the rows while the others join and follow
    fetches_less : fetching_steps c ≤ catching_steps c
    fetches_less = mul-le-mul_right (2 * cycle c) (let more : (c.width + 1) * (row_count c + reserve c) ≡ c.width * (row_count c + reserve c) + (row_count c + reserve c) = omega arith in let l : c.width * (row_count c + reserve c) + 1 ≤ (c.width + 1) * (row_count c + reserve c) + 1 = omega (arith, more) in l)

    applies : AppliesMeanwhile c a (length (known c a (part a at.rest))) at.newer at.rest
    applies top bottom is long =
        subst (λ l. length (known c a (part a at.rest)) ≤ length (applied c a l)) (sym (filter-append (λ e. e.by == a) bottom at.rest))
        (fetched c a (part a past) (part a top) (part a bottom) (part a at.rest) good (part_is_possible c a past last.legal) fetches
        (split ∙ ap (λ l. l ++ part a at.rest) (ap (part a) is ∙ filter-append (λ e. e.by == a) top bottom) ∙ append_assoc (part a top) (part a bottom) (part a at.rest))
        (let less = fetches_less in omega (arith, long, less)))

pub last_raises_all : LastLeadersRaiseAll
last_raises_all c live a start past good large last opens fetches keep many =
    raised_by c live a start (start + last_steps c a) past good last opens fetches keep (omega arith) (λ newer older is enough. last_knows_all c live a start older good large (last_before c live a start newer older (subst (LeadsLast c live a start) is last)) enough) (omega (arith, many))
