-- A replica that doesn't lead applies what is decided in time, and raises its head to it.
use Rattle.std.proofs.Common.{◌≡◌, ℕ, ◌+◌, ◌*◌, ◌<◌, ◌≤◌, ◌==◌, ◌&&◌, not, inl, inr, Bool, true, false, cond, Some, None, List, [], ◌∷◌, ◌++◌, length, refl, sym, ◌∙◌, ap, arith, subst, eqb-true, true≢false, append_assoc}
use Rattle.std.specs.Prelude.{min}
use Rattle.std.proofs.lemmas.Bool.{and_from, cases_lt, eq-eqb}
use Rattle.std.proofs.lemmas.List.{length-append}
use Rattle.mu_model.specs.declared.config.Config.{Config}
use Rattle.mu_model.specs.declared.event.Answer.{Answer}
use Rattle.mu_model.specs.declared.event.Event.{Event}
use Rattle.mu_model.specs.declared.event.Verb.{Verb}
use Rattle.mu_model.specs.Answers.{answer_of}
use Rattle.mu_model.specs.Bounds.{cycle}
use Rattle.mu_model.specs.Contents.{IsConfig, row_count}
use Rattle.mu_model.specs.Diligence.{TellsHeads}
use Rattle.mu_model.specs.Histories.{greatest, max_with, part}
use Rattle.mu_model.specs.Knowledge.{applied, fuo_read, greatest_fuo_read}
use Rattle.mu_model.specs.Legal.{IsLegalHistory}
use Rattle.mu_model.specs.Parts.{IsPossible}
use Rattle.mu_model.specs.Placing.{fuo_read_or_raised}
use Rattle.mu_model.specs.Regions.{fuo_raised, head_raised, region_fuo, region_head}
use Rattle.mu_model.specs.Room.{reserve}
use Rattle.mu_model.specs.Steps.{is_fuo_of, is_fuo_of_verb, is_head_raise, is_head_raise_verb, is_named, unnamed_throughout}
use Rattle.mu_model.specs.Stretches.{IsStretch, is_replication, some_step}
use Rattle.mu_model.proofs.Counts.{max_with_grows}
use Rattle.mu_model.proofs.Owned.{IsOwn, greatest-part}
use Rattle.mu_model.proofs.Parts.{filter-append, part_is_possible}
use Rattle.mu_agree.proofs.Legal.{legal_older}
use Rattle.mu_agree.proofs.Possible.{parts_shorten_law}
use Rattle.mu_agree.proofs.Prefixes.{greatest_along}
use Rattle.mu_agree.specs.Moments.{AtEachMoment, AtEachStep}
use Rattle.mu_pace.proofs.Counting.{moments_before, steps_before}
use Rattle.mu_alive.specs.Following.{FollowersCatchUp, FollowsOn, RaisesToAll, catching_steps}
use Rattle.mu_alive.proofs.Cutting.{Located, Met, located, met}
use Rattle.mu_alive.proofs.Fetching.{applied_grows}
use Rattle.mu_alive.proofs.Gaining.{gain, gain_few, gain_some, gain_stays, gains}
use Rattle.mu_alive.proofs.Moments.{From, adds_up, each_before}
use Rattle.mu_pace.proofs.Pasts.{cut, Cut}

-- who gains in each two rounds while it has applied less than l entries has applied l in time
pub catches_up : (c : Config) (r l : ℕ) (window base : List Event) → IsConfig c → IsPossible c r (window ++ base)
    → ((w rest : List Event) → IsStretch (window ++ base) w (rest ++ base) → length w ≡ 2 * cycle c → length (applied c r (rest ++ base)) < l → some_step (gains c r) w (rest ++ base) ≡ true)
    → catching_steps c ≤ length window → l ≤ length (applied c r (window ++ base))
catches_up c r l window base good possible moves long = elim (cases_lt (length (applied c r (window ++ base))) l) [
  | inr there ↦ there
  | inl short ↦
      let got = adds_up (2 * cycle c) ((c.width + 1) * (row_count c + reserve c) + 1) (gain c r) (window ++ base) [] window base (gain_stays c r) (λ w rest s two. gain_some c r w (rest ++ base) (moves w rest s two (less short w rest s))) refl long in
      let few = gain_few c r (window ++ base) good possible in
      absurd (omega (arith, got, few))
]
  where
    less : length (applied c r (window ++ base)) < l → (w rest : List Event) → IsStretch (window ++ base) w (rest ++ base) → length (applied c r (rest ++ base)) < l
    less short w rest s =
        let grows = applied_grows c r (s.newer ++ w) (rest ++ base) in
        let same = ap (λ x. length (applied c r x)) (s.is ∙ sym (append_assoc s.newer w (rest ++ base))) in
        omega (arith, grows, same, short)

-- the greatest FUO of its own region that r read or raised
abbrev pub own_fuo : ℕ → List Event → ℕ
own_fuo r past = greatest (λ f. fuo_read_or_raised r r f.by f.verb f.answer) past

raise_verb : (verb : Verb) → is_head_raise_verb verb ≡ true → (h : ℕ) × (verb ≡ Verb.RaiseHead h)
raise_verb (Verb.RaiseHead h) is = (h, refl)
raise_verb verb is = absurd (true≢false (sym is))

raised_to : (r by h old : ℕ) (verb : Verb) → by ≡ r → verb ≡ Verb.RaiseHead h → h ≤ max_with (head_raised r by verb) old
raised_to r by h old verb own is = subst (λ v. h ≤ max_with (head_raised r by v) old) (sym is) (go (by == r) (eq-eqb by r own))
  where
    go : (t : Bool) → t ≡ true → h ≤ max_with (cond t (Some h) None) old
    go true is = omega arith
    go false is = absurd (true≢false (sym is))

-- the events of a possible part are r's own
own_event : (c : Config) (r : ℕ) (newer older : List Event) (e : Event) → IsPossible c r (newer ++ e ∷ older) → e.by ≡ r
own_event c r [] older e possible = (parts_shorten_law c r older e possible).by_own
own_event c r (f ∷ newer) older e possible = own_event c r newer older e (parts_shorten_law c r (newer ++ e ∷ older) f possible).before

-- in one more round it raises its head to what it has applied and its FUO has reached
pub head_follows : (c : Config) (r l : ℕ) (window base : List Event) → IsPossible c r (window ++ base) → TellsHeads c r (window ++ base) → AtEachStep (RaisesToAll c r) (window ++ base) → l ≤ length (applied c r base) → l ≤ own_fuo r base → cycle c ≤ length window
    → l ≤ region_head r (window ++ base)
head_follows c r l window base possible heads raises held decided long = elim (cases_lt (region_head r base) l) [
  | inr there ↦ (let up = greatest_along (λ e. head_raised r e.by e.verb) window base in omega (arith, there, up))
  | inl low ↦ raised (met is_head_raise round.rest (heads.raises round.rest base (record { newer = round.newer; is = split }) (due (length (applied c r base)) (own_fuo r base) low held decided) round.count))
]
  where
    round : Cut (cycle c) window
    round = cut (cycle c) window long

    split : window ++ base ≡ round.newer ++ (round.rest ++ base)
    split = ap (λ x. x ++ base) round.is ∙ append_assoc round.newer round.rest base

    due : (a f : ℕ) → region_head r base < l → l ≤ a → l ≤ f → region_head r base < min a f
    due a f low x y = omega (arith, low, x, y)

    raised : Met is_head_raise round.rest → l ≤ region_head r (window ++ base)
    raised m =
        let whole : window ++ base ≡ (round.newer ++ m.newer) ++ m.event ∷ (m.older ++ base) =
        split ∙ ap (λ x. round.newer ++ (x ++ base)) m.is ∙ ap (λ x. round.newer ++ x) (append_assoc m.newer (m.event ∷ m.older) base) ∙ sym (append_assoc round.newer m.newer (m.event ∷ (m.older ++ base))) in
        let verb = raise_verb m.event.verb m.passes in
        let goes = (steps_before (RaisesToAll c r) (round.newer ++ m.newer) (m.event ∷ (m.older ++ base)) (subst (AtEachStep (RaisesToAll c r)) whole raises)).1 verb.0 verb.1 in
        let more = applied_grows c r m.older base in
        let higher = greatest_along (λ f. fuo_read_or_raised r r f.by f.verb f.answer) m.older base in
        let there = raised_to r m.event.by verb.0 (region_head r (m.older ++ base)) m.event.verb (own_event c r (round.newer ++ m.newer) (m.older ++ base) m.event (subst (IsPossible c r) whole possible)) verb.1 in
        let up = greatest_along (λ e. head_raised r e.by e.verb) (round.newer ++ m.newer) (m.event ∷ (m.older ++ base)) in
        let same = ap (region_head r) whole in
        let least = both (length (applied c r (m.older ++ base))) (own_fuo r (m.older ++ base)) (omega (arith, more, held)) (omega (arith, higher, decided)) in
        omega (arith, goes, least, there, up, same)
      where
        both : (a f : ℕ) → l ≤ a → l ≤ f → l ≤ min a f
        both a f x y = omega (arith, x, y)

-- a FUO that is read is one that is read or raised
pub read_is_less : (r : ℕ) (past : List Event) → greatest_fuo_read r r past ≤ own_fuo r past
read_is_less r [] = omega arith
read_is_less r (e ∷ past) = go e.by e.verb e.answer (read_is_less r past)
  where
    both : (o : ℕ) → greatest_fuo_read r r past ≤ own_fuo r past → max_with (Some o) (greatest_fuo_read r r past) ≤ max_with (Some o) (own_fuo r past)
    both o less = omega (arith, less)

    go : (by : ℕ) (verb : Verb) (answer : Answer) → greatest_fuo_read r r past ≤ own_fuo r past → max_with (fuo_read r r by verb answer) (greatest_fuo_read r r past) ≤ max_with (fuo_read_or_raised r r by verb answer) (own_fuo r past)
    go by (Verb.Fuo q) (Answer.Number x) less = read ((by == r) && (q == r))
      where
        read : (t : Bool) → max_with (cond t (Some x) None) (greatest_fuo_read r r past) ≤ max_with (cond t (Some x) None) (own_fuo r past)
        read true = both x less
        read false = less
    go by (Verb.RaiseFuo q u) answer less = let more = max_with_grows (cond ((by == r) && (q == r)) (Some u) None) (own_fuo r past) in omega (arith, more, less)
    go by verb answer less = less

fuo_verb : (r : ℕ) (verb : Verb) → is_fuo_of_verb r verb ≡ true → verb ≡ Verb.Fuo r
fuo_verb r (Verb.Fuo q) is = go (q == r) refl is
  where
    go : (t : Bool) → (q == r) ≡ t → t ≡ true → Verb.Fuo q ≡ Verb.Fuo r
    go true same is = ap (λ x. Verb.Fuo x) (eqb-true q r same)
    go false same is = absurd (true≢false (sym is))
fuo_verb r verb is = absurd (true≢false (sym is))

reads_fuo : (r by x old : ℕ) (verb : Verb) (answer : Answer) → by ≡ r → verb ≡ Verb.Fuo r → answer ≡ Answer.Number x → x ≤ max_with (fuo_read r r by verb answer) old
reads_fuo r by x old verb answer own is tells =
    subst (λ v. x ≤ max_with (fuo_read r r by v answer) old) (sym is)
    (subst (λ a. x ≤ max_with (fuo_read r r by (Verb.Fuo r) a) old) (sym tells) (go ((by == r) && (r == r)) (and_from (by == r) (r == r) (eq-eqb by r own) (eq-eqb r r refl))))
  where
    go : (t : Bool) → t ≡ true → x ≤ max_with (cond t (Some x) None) old
    go true is = omega arith
    go false is = absurd (true≢false (sym is))

-- it doesn't name itself in a stretch
away : (c : Config) (r : ℕ) (newer older : List Event) → FollowsOn c r newer older → (top w base : List Event) → part r (newer ++ older) ≡ top ++ (w ++ base) → length (part r older) ≤ length base → unnamed_throughout c r w base ≡ true
away c r newer older follows top w base is late =
    each_before (length (part r older)) (λ now. not (is_named c r now)) is_replication w base late
    (not_named (w ++ base) (moments_before (λ now. length (part r older) ≤ length now → is_named c r now ≡ false) top (w ++ base) (subst (AtEachMoment (λ now. length (part r older) ≤ length now → is_named c r now ≡ false)) is follows.unnamed)))
  where
    not_named : (past : List Event) → AtEachMoment (λ now. length (part r older) ≤ length now → is_named c r now ≡ false) past → AtEachMoment (From (length (part r older)) (λ now. not (is_named c r now) ≡ true)) past
    not_named [] held = λ late. ap not (held late)
    not_named (e ∷ past) held = (not_named past held.0, λ late. ap not (held.1 late))

-- its FUO is read in two rounds
pub fuo_read_in_time : (c : Config) (r l : ℕ) (newer older : List Event) → FollowsOn c r newer older → l ≤ region_fuo r older → (top window : List Event) → part r newer ≡ top ++ window → length window ≡ 2 * cycle c → l ≤ greatest_fuo_read r r (window ++ part r older)
fuo_read_in_time c r l newer older follows fuo top window is two = at (located r newer (top ++ read.newer) read.older read.event (is ∙ ap (λ x. top ++ x) read.is ∙ sym (append_assoc top read.newer (read.event ∷ read.older))))
  where
    base : List Event
    base = part r older

    mine : part r (newer ++ older) ≡ top ++ (window ++ base)
    mine = filter-append (λ e. e.by == r) newer older ∙ ap (λ x. x ++ base) is ∙ append_assoc top window base

    read : Met (is_fuo_of r) window
    read = met (is_fuo_of r) window (follows.replays.reads window base (record { newer = top; is = mine }) (omega (arith, two)) (away c r newer older follows top window base mine (omega arith)))

    at : Located r newer read.event read.older → l ≤ greatest_fuo_read r r (window ++ base)
    at place =
        let whole : newer ++ older ≡ place.newer ++ read.event ∷ (place.older ++ older) = ap (λ x. x ++ older) place.is ∙ append_assoc place.newer (read.event ∷ place.older) older in
        let legal = (legal_older c place.newer (read.event ∷ (place.older ++ older)) (subst (IsLegalHistory c) whole follows.legal)).1 in
        let verb = fuo_verb r read.event.verb read.passes in
        let answer : read.event.answer ≡ Answer.Number (region_fuo r (place.older ++ older)) = legal.answer ∙ ap (answer_of c read.event.by (place.older ++ older)) verb in
        let higher : region_fuo r older ≤ region_fuo r (place.older ++ older) = greatest_along (λ e. fuo_raised r e.verb) place.older older in
        let seen = reads_fuo r read.event.by (region_fuo r (place.older ++ older)) (greatest_fuo_read r r (read.older ++ base)) read.event.verb read.event.answer place.own verb answer in
        let up = greatest_along (λ e. fuo_read r r e.by e.verb e.answer) read.newer (read.event ∷ (read.older ++ base)) in
        let same = ap (greatest_fuo_read r r) (ap (λ x. x ++ base) read.is ∙ append_assoc read.newer (read.event ∷ read.older) base) in
        omega (arith, fuo, higher, seen, up, same)

-- and it gains in two rounds while that is above what it has applied
pub gains_in_time : (c : Config) (r : ℕ) (newer older : List Event) → FollowsOn c r newer older → (top w base : List Event) → part r (newer ++ older) ≡ top ++ (w ++ base) → length (part r older) ≤ length base → length w ≡ 2 * cycle c → length (applied c r base) < greatest_fuo_read r r base → some_step (gains c r) w base ≡ true
gains_in_time c r newer older follows top w base is late two low = follows.replays.learns w base (record { newer = top; is = is }) (omega (arith, two)) (away c r newer older follows top w base is late) low

pub follows_up : FollowersCatchUp
follows_up c r l newer older good follows fuo long = (there.0, subst (λ x. l ≤ x) (greatest-part (λ e. head_raised r e.by e.verb) r heads-own (newer ++ older)) there.1)
  where
    base : List Event
    base = part r older

    mine : part r (newer ++ older) ≡ part r newer ++ base
    mine = filter-append (λ e. e.by == r) newer older

    first : Cut (2 * cycle c) (part r newer)
    first = cut (2 * cycle c) (part r newer) (omega (arith, long))

    second : Cut (catching_steps c) first.newer
    second = cut (catching_steps c) first.newer (let sum = ap length first.is ∙ length-append first.newer first.rest in let count = first.count in omega (arith, sum, count, long))

    heads-own : IsOwn r (λ e. head_raised r e.by e.verb)
    heads-own = record { own = λ e other. go e.by e.verb other }
      where
        go : (by : ℕ) (verb : Verb) → (by == r) ≡ false → head_raised r by verb ≡ None
        go by (Verb.RaiseHead h) other = ap (λ t. cond t (Some h) None) other
        go by verb other = refl

    lower : part r (newer ++ older) ≡ first.newer ++ (first.rest ++ base)
    lower = mine ∙ ap (λ x. x ++ base) first.is ∙ append_assoc first.newer first.rest base

    upper : part r (newer ++ older) ≡ second.newer ++ (second.rest ++ (first.rest ++ base))
    upper = lower ∙ ap (λ x. x ++ (first.rest ++ base)) second.is ∙ append_assoc second.newer second.rest (first.rest ++ base)

    possible : IsPossible c r (part r (newer ++ older))
    possible = part_is_possible c r (newer ++ older) follows.legal

    knows : l ≤ greatest_fuo_read r r (first.rest ++ base)
    knows = fuo_read_in_time c r l newer older follows fuo first.newer first.rest first.is first.count

    -- then it gains in each two rounds
    moves : (w rest : List Event) → IsStretch (second.rest ++ (first.rest ++ base)) w (rest ++ (first.rest ++ base)) → length w ≡ 2 * cycle c → length (applied c r (rest ++ (first.rest ++ base))) < l → some_step (gains c r) w (rest ++ (first.rest ++ base)) ≡ true
    moves w rest s two low =
        let higher = greatest_along (λ e. fuo_read r r e.by e.verb e.answer) rest (first.rest ++ base) in
        let some = knows in
        gains_in_time c r newer older follows (second.newer ++ s.newer) w (rest ++ (first.rest ++ base)) (upper ∙ ap (λ x. second.newer ++ x) s.is ∙ sym (append_assoc second.newer s.newer (w ++ (rest ++ (first.rest ++ base))))) (let sum = length-append rest (first.rest ++ base) in let more = length-append first.rest base in omega (arith, sum, more)) two (omega (arith, low, higher, some))

    held : l ≤ length (applied c r (second.rest ++ (first.rest ++ base)))
    held = catches_up c r l second.rest (first.rest ++ base) good (older_possible second.newer (second.rest ++ (first.rest ++ base)) (subst (IsPossible c r) upper possible)) moves (let count = second.count in omega (arith, count))
      where
        older_possible : (xs ys : List Event) → IsPossible c r (xs ++ ys) → IsPossible c r ys
        older_possible [] ys p = p
        older_possible (e ∷ xs) ys p = older_possible xs ys (parts_shorten_law c r (xs ++ ys) e p).before

    there : (l ≤ length (applied c r (part r (newer ++ older)))) × (l ≤ region_head r (part r (newer ++ older)))
    there =
        let grows = applied_grows c r second.newer (second.rest ++ (first.rest ++ base)) in
        let same = ap (λ x. length (applied c r x)) upper in
        let some = knows in
        let all = held in
        let decided = greatest_along (λ f. fuo_read_or_raised r r f.by f.verb f.answer) second.rest (first.rest ++ base) in
        let less = read_is_less r (first.rest ++ base) in
        let sum = ap length first.is ∙ length-append first.newer first.rest in
        let sums = ap length second.is ∙ length-append second.newer second.rest in
        let count = first.count in
        let counts = second.count in (
          omega (arith, grows, same, all),
          subst (λ x. l ≤ region_head r x) (sym upper)
              (head_follows c r l second.newer (second.rest ++ (first.rest ++ base)) (subst (IsPossible c r) upper possible) (subst (TellsHeads c r) upper follows.heads) (subst (AtEachStep (RaisesToAll c r)) upper follows.raises) held (omega (arith, some, decided, less)) (omega (arith, sum, sums, count, counts, long))),
        )
