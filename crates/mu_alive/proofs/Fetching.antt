-- A replica that completes a row in each two rounds has applied all that it knows in time.
use Rattle.std.proofs.Common.{◌≡◌, ℕ, suc, ◌+◌, ◌-◌, ◌*◌, ◌%◌, ◌/◌, ◌<◌, ◌≤◌, ◌==◌, ◌&&◌, ◌||◌, not, inl, inr, Bool, true, false, cond, List, [], ◌∷◌, ◌++◌, length, refl, sym, ◌∙◌, ap, arith, subst, true≢false, append_assoc}
use Rattle.std.specs.Prelude.{nat_le}
use Rattle.std.proofs.Math.Nat.{mul-le-mul_left}
use Rattle.std.proofs.lemmas.Bool.{and_parts, cases_lt, leb-true}
use Rattle.std.proofs.lemmas.List.{length-append}
use Rattle.mu_model.specs.declared.config.Config.{Config}
use Rattle.mu_model.specs.declared.event.Event.{Event}
use Rattle.mu_model.specs.declared.event.Verb.{Verb}
use Rattle.mu_model.specs.Bounds.{cycle}
use Rattle.mu_model.specs.Contents.{IsConfig, holds_all, is_batch, rest_of, row_count}
use Rattle.mu_model.specs.Diligence.{completes_row, completes_row_verb, is_row_of}
use Rattle.mu_model.specs.Histories.{IsPrefixOf, all_below, count_below, has, part}
use Rattle.mu_model.specs.Knowledge.{applied, front, has_entry, has_row, has_word, is_read, is_written, known, wrote}
use Rattle.mu_model.specs.Room.{reserve}
use Rattle.mu_model.specs.Steps.{knows_all}
use Rattle.mu_model.specs.Stretches.{IsStretch, some_step}
use Rattle.mu_model.proofs.Basics.{or_true, true_or}
use Rattle.mu_model.proofs.Parts.{filter-append, part_is_possible}
use Rattle.mu_model.proofs.Scans.{all_at, each_all}
use Rattle.mu_agree.proofs.Counting.{count_more}
use Rattle.mu_agree.proofs.Knowing.{known_stays}
use Rattle.mu_agree.proofs.Landings.{has_more}
use Rattle.mu_agree.proofs.Possible.{parts_shorten_law}
use Rattle.mu_agree.proofs.Sessions.{row_within}
use Rattle.mu_pace.proofs.Growing.{known_grows}
use Rattle.mu_model.specs.Parts.{IsPossible}
use Rattle.mu_pace.proofs.Positions.{known_fits}
use Rattle.mu_alive.specs.Last.{FetchesInTime, LastLeadersApplyAll, LeadsLast, fetching_steps, last_steps}
use Rattle.mu_alive.proofs.Beginning.{CutAt, cut_at}
use Rattle.mu_alive.proofs.Calm.{count_adds, count_few}
use Rattle.mu_alive.proofs.Enough.{holds_more}
use Rattle.mu_alive.proofs.Lasting.{last_before, last_knows_all}
use Rattle.mu_alive.proofs.Moments.{adds_up}

-- what r has it goes on having
word_on : (r u k : ℕ) (e : Event) (past : List Event) → has_word r u k past ≡ true → has_word r u k (e ∷ past) ≡ true
word_on r u k e past is = go (u / 4096 == r) (wrote r (u % 4096) k past) refl (has (λ f. is_read r u k f.by f.verb) past) refl is
  where
    go : (t w : Bool) → wrote r (u % 4096) k past ≡ w → (x : Bool) → has (λ f. is_read r u k f.by f.verb) past ≡ x → ((t && w) || x) ≡ true → ((t && wrote r (u % 4096) k (e ∷ past)) || has (λ f. is_read r u k f.by f.verb) (e ∷ past)) ≡ true
    go t w hw true hx is = or_true (t && wrote r (u % 4096) k (e ∷ past)) (has (λ f. is_read r u k f.by f.verb) (e ∷ past)) (has_more (λ f. is_read r u k f.by f.verb) e past hx)
    go true true hw false hx is = true_or (wrote r (u % 4096) k (e ∷ past)) (has (λ f. is_read r u k f.by f.verb) (e ∷ past)) (has_more (λ f. is_written r (u % 4096) k f.by f.verb) e past hw)
    go true false hw false hx is = absurd (true≢false (sym is))
    go false w hw false hx is = absurd (true≢false (sym is))

pub row_on : (r u : ℕ) (e : Event) (past : List Event) → has_row r u past ≡ true → has_row r u (e ∷ past) ≡ true
row_on r u e past is = each_all 12 (λ k. has_word r u k (e ∷ past)) (λ k low. word_on r u k e past (all_at 12 (λ k. has_word r u k past) is k low))

entry_on : (c : Config) (r v : ℕ) (e : Event) (past : List Event) → has_entry c r v past ≡ true → has_entry c r v (e ∷ past) ≡ true
entry_on c r v e past is = go (not (is_batch c v)) is
  where
    go : (t : Bool) → (t || all_below (rest_of c (v % 4096) + 1) (λ x. has_row r (v + x) past)) ≡ true → (t || all_below (rest_of c (v % 4096) + 1) (λ x. has_row r (v + x) (e ∷ past))) ≡ true
    go true is = refl
    go false is = each_all (rest_of c (v % 4096) + 1) (λ x. has_row r (v + x) (e ∷ past)) (λ x low. row_on r (v + x) e past (all_at (rest_of c (v % 4096) + 1) (λ x. has_row r (v + x) past) is x low))

-- so what is applied stays
front_grows : (test now : ℕ → Bool) (xs ys : List ℕ) → ((v : ℕ) → test v ≡ true → now v ≡ true) → IsPrefixOf (front test xs) (front now (xs ++ ys))
front_grows test now [] ys more = (front now ys, refl)
front_grows test now (x ∷ xs) ys more = go (test x) refl (front_grows test now xs ys more)
  where
    go : (t : Bool) → test x ≡ t → IsPrefixOf (front test xs) (front now (xs ++ ys)) → IsPrefixOf (cond t (x ∷ front test xs) []) (cond (now x) (x ∷ front now (xs ++ ys)) [])
    go true is ih = (ih.0, ap (λ t. cond t (x ∷ front now (xs ++ ys)) []) (more x is) ∙ ap (λ l. x ∷ l) ih.1)
    go false is ih = (cond (now x) (x ∷ front now (xs ++ ys)) [], refl)

applied_more : (c : Config) (r : ℕ) (e : Event) (past : List Event) → IsPrefixOf (applied c r past) (applied c r (e ∷ past))
applied_more c r e past =
    let more = known_stays c r (e ∷ []) past in
    let grows = front_grows (λ v. has_entry c r v past) (λ v. has_entry c r v (e ∷ past)) (known c r past) more.0 (λ v is. entry_on c r v e past is) in
    (grows.0, ap (front (λ v. has_entry c r v (e ∷ past))) more.1 ∙ grows.1)

pub applied_grows : (c : Config) (r : ℕ) (newer older : List Event) → length (applied c r older) ≤ length (applied c r (newer ++ older))
applied_grows c r [] older = omega arith
applied_grows c r (e ∷ newer) older =
    let ih = applied_grows c r newer older in
    let more = applied_more c r e (newer ++ older) in
    let long = ap length more.1 ∙ length-append (applied c r (newer ++ older)) more.0 in
    omega (arith, ih, long)

pub applied_on : (c : Config) (r : ℕ) (newer older : List Event) → holds_all c (applied c r older) ≡ true → holds_all c (applied c r (newer ++ older)) ≡ true
applied_on c r [] older all = all
applied_on c r (e ∷ newer) older all =
    let more = applied_more c r e (newer ++ older) in
    subst (λ l. holds_all c l ≡ true) (sym more.1) (holds_more c (applied c r (newer ++ older)) more.0 (applied_on c r newer older all))

-- how many rows of an entry r has, and of some entries
abbrev pub rows_of_entry : Config → ℕ → List Event → ℕ → ℕ
rows_of_entry c r past v = cond (is_batch c v) (count_below (rest_of c (v % 4096) + 1) (λ t. has_row r (v + t) past)) 0

abbrev pub rows_got : Config → ℕ → List Event → List ℕ → ℕ
rows_got c r past [] = 0
rows_got c r past (v ∷ vs) = rows_of_entry c r past v + rows_got c r past vs

pub few_rows : (c : Config) (r : ℕ) (past : List Event) (values : List ℕ) → IsConfig c → rows_got c r past values ≤ c.width * length values
few_rows c r past [] good = omega arith
few_rows c r past (v ∷ vs) good =
    let ih = few_rows c r past vs good in
    let one = few (is_batch c v) refl in
    let next : c.width * suc (length vs) ≡ c.width * length vs + c.width = omega arith in
    omega (arith, ih, one, next)
  where
    few : (t : Bool) → is_batch c v ≡ t → cond t (count_below (rest_of c (v % 4096) + 1) (λ x. has_row r (v + x) past)) 0 ≤ c.width
    few true batch =
        let most = count_few (rest_of c (v % 4096) + 1) (λ x. has_row r (v + x) past) in
        let rests = good.rests (v % 4096) (row_within c v batch) in
        omega (arith, most, rests)
    few false other = omega arith

pub more_of_entry : (c : Config) (r : ℕ) (e : Event) (past : List Event) (v : ℕ) → rows_of_entry c r past v ≤ rows_of_entry c r (e ∷ past) v
more_of_entry c r e past v = go (is_batch c v)
  where
    go : (t : Bool) → cond t (count_below (rest_of c (v % 4096) + 1) (λ x. has_row r (v + x) past)) 0 ≤ cond t (count_below (rest_of c (v % 4096) + 1) (λ x. has_row r (v + x) (e ∷ past))) 0
    go true = count_more (rest_of c (v % 4096) + 1) (λ x. has_row r (v + x) past) (λ x. has_row r (v + x) (e ∷ past)) (λ x low is. row_on r (v + x) e past is)
    go false = omega arith

pub more_got : (c : Config) (r : ℕ) (e : Event) (past : List Event) (values : List ℕ) → rows_got c r past values ≤ rows_got c r (e ∷ past) values
more_got c r e past [] = omega arith
more_got c r e past (v ∷ vs) = let ih = more_got c r e past vs in let one = more_of_entry c r e past v in omega (arith, ih, one)

pub got_both : (c : Config) (r : ℕ) (past : List Event) (xs ys : List ℕ) → rows_got c r past xs ≤ rows_got c r past (xs ++ ys)
got_both c r past [] ys = omega arith
got_both c r past (x ∷ xs) ys = let ih = got_both c r past xs ys in omega (arith, ih)

-- of all that it knows
abbrev pub got_now : Config → ℕ → List Event → ℕ
got_now c r past = rows_got c r past (known c r past)

got_on : (c : Config) (r : ℕ) (e : Event) (past : List Event) → rows_got c r (e ∷ past) (known c r past) ≤ got_now c r (e ∷ past)
got_on c r e past =
    let more = known_stays c r (e ∷ []) past in
    subst (λ l. rows_got c r (e ∷ past) (known c r past) ≤ rows_got c r (e ∷ past) l) (sym more.1) (got_both c r (e ∷ past) (known c r past) more.0)

pub got_stays : (c : Config) (r : ℕ) (newer older : List Event) → got_now c r older ≤ got_now c r (newer ++ older)
got_stays c r [] older = omega arith
got_stays c r (e ∷ newer) older =
    let ih = got_stays c r newer older in
    let here = more_got c r e (newer ++ older) (known c r (newer ++ older)) in
    let on = got_on c r e (newer ++ older) in
    omega (arith, ih, here, on)

-- a row that is completed is one more
pub one_more : (c : Config) (r u : ℕ) (e : Event) (past : List Event) (values : List ℕ) → is_row_of c u values ≡ true → has_row r u past ≡ false → has_row r u (e ∷ past) ≡ true → rows_got c r past values + 1 ≤ rows_got c r (e ∷ past) values
one_more c r u e past [] is lacks has_it = absurd (true≢false (sym is))
one_more c r u e past (v ∷ vs) is lacks has_it = go (is_batch c v) refl (nat_le v u) refl (nat_le u (v + rest_of c (v % 4096))) refl is (one_more c r u e past vs)
  where
    later : (is_row_of c u vs ≡ true → has_row r u past ≡ false → has_row r u (e ∷ past) ≡ true → rows_got c r past vs + 1 ≤ rows_got c r (e ∷ past) vs) → is_row_of c u vs ≡ true → rows_of_entry c r past v + rows_got c r past vs + 1 ≤ rows_of_entry c r (e ∷ past) v + rows_got c r (e ∷ past) vs
    later ih there = let more = ih there lacks has_it in let one = more_of_entry c r e past v in omega (arith, more, one)

    here : is_batch c v ≡ true → v ≤ u → u ≤ v + rest_of c (v % 4096) → rows_of_entry c r past v + rows_got c r past vs + 1 ≤ rows_of_entry c r (e ∷ past) v + rows_got c r (e ∷ past) vs
    here batch low high =
        let at : v + (u - v) ≡ u = omega (arith, low) in
        let adds = count_adds (rest_of c (v % 4096) + 1) (u - v) (λ x. has_row r (v + x) past) (λ x. has_row r (v + x) (e ∷ past)) (omega (arith, low, high)) (ap (λ x. has_row r x past) at ∙ lacks) (ap (λ x. has_row r x (e ∷ past)) at ∙ has_it) (λ x l is. row_on r (v + x) e past is) in
        let before = ap (λ t. cond t (count_below (rest_of c (v % 4096) + 1) (λ x. has_row r (v + x) past)) 0) batch in
        let now = ap (λ t. cond t (count_below (rest_of c (v % 4096) + 1) (λ x. has_row r (v + x) (e ∷ past))) 0) batch in
        let rest = more_got c r e past vs in
        omega (arith, adds, before, now, rest)

    go : (b : Bool) → is_batch c v ≡ b → (l : Bool) → nat_le v u ≡ l → (h : Bool) → nat_le u (v + rest_of c (v % 4096)) ≡ h → ((b && (l && h)) || is_row_of c u vs) ≡ true
        → (is_row_of c u vs ≡ true → has_row r u past ≡ false → has_row r u (e ∷ past) ≡ true → rows_got c r past vs + 1 ≤ rows_got c r (e ∷ past) vs) → rows_of_entry c r past v + rows_got c r past vs + 1 ≤ rows_of_entry c r (e ∷ past) v + rows_got c r (e ∷ past) vs
    go true hb true hl true hh is ih = here hb (leb-true v u hl) (leb-true u (v + rest_of c (v % 4096)) hh)
    go true hb true hl false hh is ih = later ih is
    go true hb false hl h hh is ih = later ih is
    go false hb l hl h hh is ih = later ih is

pub completes_one : (c : Config) (r : ℕ) (e : Event) (past : List Event) → completes_row c r past e ≡ true → got_now c r past + 1 ≤ got_now c r (e ∷ past)
completes_one c r e past is = go e.verb is
  where
    go : (verb : Verb) → completes_row_verb c r past (e ∷ past) verb ≡ true → got_now c r past + 1 ≤ got_now c r (e ∷ past)
    go (Verb.ReadRow u k) is =
        let a = and_parts (is_row_of c u (known c r past)) (not (has_row r u past) && has_row r u (e ∷ past)) is in
        let b = and_parts (not (has_row r u past)) (has_row r u (e ∷ past)) a.1 in
        let more = one_more c r u e past (known c r past) a.0 (lacks (has_row r u past) b.0) b.1 in
        let on = got_on c r e past in
        omega (arith, more, on)
      where
        lacks : (t : Bool) → not t ≡ true → t ≡ false
        lacks true is = absurd (true≢false (sym is))
        lacks false is = refl
    go verb is = absurd (true≢false (sym is))

pub some_completed : (c : Config) (r : ℕ) (window older : List Event) → some_step (completes_row c r) window older ≡ true → got_now c r older + 1 ≤ got_now c r (window ++ older)
some_completed c r [] older some = absurd (true≢false (sym some))
some_completed c r (e ∷ window) older some = go (completes_row c r (window ++ older) e) refl some (some_completed c r window older)
  where
    go : (t : Bool) → completes_row c r (window ++ older) e ≡ t → cond t true (some_step (completes_row c r) window older) ≡ true → (some_step (completes_row c r) window older ≡ true → got_now c r older + 1 ≤ got_now c r (window ++ older)) → got_now c r older + 1 ≤ got_now c r (e ∷ (window ++ older))
    go true is some ih = let one = completes_one c r e (window ++ older) is in let stays = got_stays c r window older in omega (arith, one, stays)
    go false is some ih = let more = ih some in let stays = got_stays c r (e ∷ []) (window ++ older) in omega (arith, more, stays)

-- so a replica that fetches rows in time has applied what it knew this many steps later
pub fetched : (c : Config) (r : ℕ) (whole top window base : List Event) → IsConfig c → IsPossible c r whole → FetchesInTime c r whole → whole ≡ top ++ (window ++ base) → fetching_steps c ≤ length window → length (known c r base) ≤ length (applied c r (window ++ base))
fetched c r whole top window base good possible fetches is long = elim (cases_lt (length (applied c r (window ++ base))) (length (known c r base))) [
  | inr all ↦ all
  | inl less ↦
      let got = adds_up (2 * cycle c) (c.width * (row_count c + reserve c) + 1) (got_now c r) (window ++ base) [] window base (got_stays c r) (rows less) refl long in
      let few = few_rows c r (window ++ base) (known c r (window ++ base)) good in
      let fits = known_fits c r (window ++ base) good (possible_older top (window ++ base) (subst (IsPossible c r) is possible)) in
      let most : c.width * length (known c r (window ++ base)) ≤ c.width * (row_count c + reserve c) = mul-le-mul_left c.width fits in
      absurd (omega (arith, got, few, most))
]
  where
    possible_older : (xs ys : List Event) → IsPossible c r (xs ++ ys) → IsPossible c r ys
    possible_older [] ys p = p
    possible_older (e ∷ xs) ys p = possible_older xs ys (parts_shorten_law c r (xs ++ ys) e p).before

    -- this many rounds complete as many rows
    rows : length (applied c r (window ++ base)) < length (known c r base) → (w rest : List Event) → IsStretch (window ++ base) w (rest ++ base) → length w ≡ 2 * cycle c → got_now c r (rest ++ base) + 1 ≤ got_now c r (w ++ (rest ++ base))
    rows less w rest s two =
        some_completed c r w (rest ++ base)
        (fetches w (rest ++ base) (record { newer = top ++ s.newer; is = is ∙ ap (λ l. top ++ l) s.is ∙ sym (append_assoc top s.newer (w ++ (rest ++ base))) }) two
        (let up : window ++ base ≡ (s.newer ++ w) ++ (rest ++ base) = s.is ∙ sym (append_assoc s.newer w (rest ++ base)) in
        let few = applied_grows c r (s.newer ++ w) (rest ++ base) in
        let same = ap (λ l. length (applied c r l)) up in
        let more = known_grows c r rest base in
        omega (arith, few, same, more, less)))

-- a front as long as what the list begins with begins so too
pub front_begins : (test : ℕ → Bool) (xs ys : List ℕ) → length xs ≤ length (front test (xs ++ ys)) → IsPrefixOf xs (front test (xs ++ ys))
front_begins test [] ys long = (front test ys, refl)
front_begins test (x ∷ xs) ys long = go (test x) long (front_begins test xs ys)
  where
    go : (t : Bool) → suc (length xs) ≤ length (cond t (x ∷ front test (xs ++ ys)) []) → (length xs ≤ length (front test (xs ++ ys)) → IsPrefixOf xs (front test (xs ++ ys))) → IsPrefixOf (x ∷ xs) (cond t (x ∷ front test (xs ++ ys)) [])
    go true long ih = let k = ih (omega (arith, long)) in (k.0, ap (λ l. x ∷ l) k.1)
    go false long ih = absurd (omega (arith, long))

-- so who knows every command has applied it `fetching_steps` later
pub applied_by : (c : Config) (live : ℕ → Bool) (a start most : ℕ) (past : List Event) → IsConfig c → LeadsLast c live a start past → FetchesInTime c a (part a past) → ((newer older : List Event) → past ≡ newer ++ older → most ≤ length (part a older) → knows_all c a (part a older) ≡ true) → most + fetching_steps c ≤ length (part a past)
    → holds_all c (applied c a (part a past)) ≡ true
applied_by c live a start most past good last fetches by many =
    subst (λ l. holds_all c (applied c a l) ≡ true) (sym split)
    (subst (λ l. holds_all c l ≡ true) (sym begins.1) (holds_more c (known c a (part a at.rest)) begins.0 knows))
  where
    at : CutAt a most past
    at = cut_at a most past (omega (arith, many))

    split : part a past ≡ part a at.newer ++ part a at.rest
    split = ap (part a) at.is ∙ filter-append (λ e. e.by == a) at.newer at.rest

    knows : knows_all c a (part a at.rest) ≡ true
    knows = by at.newer at.rest at.is (let count = at.count in omega (arith, count))

    long : length (known c a (part a at.rest)) ≤ length (applied c a (part a at.newer ++ part a at.rest))
    long =
        fetched c a (part a past) [] (part a at.newer) (part a at.rest) good (part_is_possible c a past last.legal) fetches split
        (let count = at.count in let sum = ap length split ∙ length-append (part a at.newer) (part a at.rest) in omega (arith, count, sum, many))

    begins : IsPrefixOf (known c a (part a at.rest)) (applied c a (part a at.newer ++ part a at.rest))
    begins =
        let more = known_stays c a (part a at.newer) (part a at.rest) in
        subst (λ l. IsPrefixOf (known c a (part a at.rest)) (front (λ v. has_entry c a v (part a at.newer ++ part a at.rest)) l)) (sym more.1)
        (front_begins (λ v. has_entry c a v (part a at.newer ++ part a at.rest)) (known c a (part a at.rest)) more.0 (subst (λ l. length (known c a (part a at.rest)) ≤ length (front (λ v. has_entry c a v (part a at.newer ++ part a at.rest)) l)) more.1 long))

pub last_applies_all : LastLeadersApplyAll
last_applies_all c live a start past good large last fetches many = applied_by c live a start (start + last_steps c a) past good last fetches (λ newer older is enough. last_knows_all c live a start older good large (last_before c live a start newer older (subst (LeadsLast c live a start) is last)) enough) many
