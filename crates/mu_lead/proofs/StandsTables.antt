-- The tables of a leader hold after each verb that writes one.
use Rattle.mu_agree.proofs.Possible.{parts_shorten_law}
use Rattle.mu_agree.proofs.Readings.{known_within, part_fuos_are_within_law}
use Rattle.mu_lead.proofs.Bringing.{brought_put, put_event}
use Rattle.mu_lead.proofs.Due.{default_is}
use Rattle.mu_lead.proofs.Keeping.{brought_read, fuo_event, raise_event, reached_raised, reached_read, tables_reach, tables_up}
use Rattle.mu_lead.proofs.Looks.{head_event, head_now, tables_head}
use Rattle.mu_lead.proofs.Offers.{row_event, tables_row}
use Rattle.mu_lead.proofs.Puts.{brought_committed, brought_less, known_more, member_within, tables_committed}
use Rattle.mu_lead.proofs.Tables.{tables_kept}
use Rattle.mu_lead.proofs.Writes.{at_where, length_where}
use Rattle.mu_lead.specs.Journal.{fuo_in, greater_fuo, set_where}
use Rattle.mu_lead.specs.Leading.{Brought, HoldsTables, end_of}
use Rattle.mu_lead.specs.Listing.{Tables}
use Rattle.mu_lead.specs.Offering.{Offering, took}
use Rattle.mu_model.specs.Contents.{config_word, row_count}
use Rattle.mu_model.specs.Knowledge.{known}
use Rattle.mu_model.specs.Leaderships.{is_member}
use Rattle.mu_model.specs.Parts.{IsPossible}
use Rattle.mu_model.specs.Placing.{is_within_ring, reaches_head}
use Rattle.mu_model.specs.declared.config.Config.{Config}
use Rattle.mu_model.specs.declared.event.Event.{Event}
use Rattle.std.proofs.Common.{Bool, List, None, Some, [], ap, arith, cond, false, get_or, length, length-append, max, refl, subst, suc, sym, true, zero, ℕ, ◌+◌, ◌<◌, ◌||◌, ◌∙◌, ◌∷◌, ◌≡◌, ◌≢◌, ◌≤◌}
use Rattle.std.proofs.lemmas.Bool.{le-leb, le-ltb, leb-false, leb-true, lt-leb, lt-ltb, ltb-false, ltb-true}
use Rattle.std.proofs.lemmas.List.{get_or-set_other, get_or-set_same, length-set}
use Rattle.std.specs.List.{slice_get}
use Rattle.std.specs.Prelude.{if◌then◌else◌, nat_le, nat_lt, set}
use Rattle.std.specs.declared.option.Option.{Option}

either : (t : Bool) → t ≡ (t || false)
either true = refl
either false = refl

within_greater : (i ring u x : ℕ) → nat_lt i (max u x + ring) ≡ (nat_lt i (u + ring) || nat_lt i (x + ring))
within_greater i ring u x = go (nat_lt i (u + ring)) (nat_lt i (x + ring)) refl refl
  where
    go : (s t : Bool) → nat_lt i (u + ring) ≡ s → nat_lt i (x + ring) ≡ t → nat_lt i (max u x + ring) ≡ (s || t)
    go true t low other = lt-ltb i (max u x + ring) (let is = ltb-true i (u + ring) low in omega (arith, is))
    go false true high low = lt-ltb i (max u x + ring) (let is = ltb-true i (x + ring) low in omega (arith, is))
    go false false high higher = le-ltb i (max u x + ring) (let is = ltb-false i (u + ring) high in let too = ltb-false i (x + ring) higher in omega (arith, is, too))

head_greater : (h u x : ℕ) → nat_le h (max u x) ≡ (nat_le h u || nat_le h x)
head_greater h u x = go (nat_le h u) (nat_le h x) refl refl
  where
    go : (s t : Bool) → nat_le h u ≡ s → nat_le h x ≡ t → nat_le h (max u x) ≡ (s || t)
    go true t low other = le-leb h (max u x) (let is = leb-true h u low in omega (arith, is))
    go false true high low = le-leb h (max u x) (let is = leb-true h x low in omega (arith, is))
    go false false high higher = lt-leb h (max u x) (let is = leb-false h u high in let too = leb-false h x higher in omega (arith, is, too))

greater_within : (i ring u : ℕ) (held : Option ℕ) → is_within_ring i ring (greater_fuo held u) ≡ (is_within_ring i ring (Some u) || is_within_ring i ring held)
greater_within i ring u None = either (nat_lt i (u + ring))
greater_within i ring u (Some x) = within_greater i ring u x

greater_head : (h u : ℕ) (held : Option ℕ) → reaches_head h (greater_fuo held u) ≡ (reaches_head h (Some u) || reaches_head h held)
greater_head h u None = either (nat_le h u)
greater_head h u (Some x) = head_greater h u x

-- the table of FUOs with one more
pub fuo_rings : (reach : List (Option ℕ)) (p u : ℕ) → p < length reach → (i ring : ℕ) → is_within_ring i ring (get_or (fuo_in reach p u) p None) ≡ (is_within_ring i ring (Some u) || is_within_ring i ring (get_or reach p None))
fuo_rings reach p u low i ring = ap (is_within_ring i ring) (get_or-set_same reach p (greater_fuo (get_or reach p None) u) None low) ∙ greater_within i ring u (get_or reach p None)

pub fuo_heads : (reach : List (Option ℕ)) (p u : ℕ) → p < length reach → (h : ℕ) → reaches_head h (get_or (fuo_in reach p u) p None) ≡ (reaches_head h (Some u) || reaches_head h (get_or reach p None))
fuo_heads reach p u low h = ap (reaches_head h) (get_or-set_same reach p (greater_fuo (get_or reach p None) u) None low) ∙ greater_head h u (get_or reach p None)

pub fuo_others : (reach : List (Option ℕ)) (p u q : ℕ) → q ≢ p → get_or (fuo_in reach p u) q None ≡ get_or reach q None
fuo_others reach p u q other = get_or-set_other reach p q (greater_fuo (get_or reach p None) u) None other

pub up_others : (up : List ℕ) (p u q : ℕ) → q ≢ p → get_or (set up p u) q 0 ≡ get_or up q 0
up_others up p u q other = get_or-set_other up p q u 0 other

-- the table with a number at each place that passes
pub where_so : (test : ℕ → Bool) (u q : ℕ) (xs : List ℕ) → q < length xs → test q ≡ true → get_or (set_where test u 0 xs) q 0 ≡ u
where_so test u q xs low passes = at_where test u 0 q xs low ∙ subst (λ n. cond (test n) u (get_or xs q 0) ≡ u) (let same : q ≡ 0 + q = omega arith in same) (ap (λ x. cond x u (get_or xs q 0)) passes)

unless_passed : (t : Bool) (u x : ℕ) → t ≡ false → (if t then u else x) ≡ x
unless_passed t u x out = rw out refl

where_not_from : (test : ℕ → Bool) (u k q : ℕ) (xs : List ℕ) → test (k + q) ≡ false → get_or (set_where test u k xs) q 0 ≡ get_or xs q 0
where_not_from test u k q [] out = refl
where_not_from test u k zero (x ∷ xs) out = unless_passed (test k) u x (subst (λ n. test n ≡ false) (let same : k + 0 ≡ k = omega arith in same) out)
where_not_from test u k (suc q) (x ∷ xs) out = where_not_from test u (k + 1) q xs (subst (λ n. test n ≡ false) (let same : k + suc q ≡ k + 1 + q = omega arith in same) out)

pub where_not : (test : ℕ → Bool) (u q : ℕ) (xs : List ℕ) → test q ≡ false → get_or (set_where test u 0 xs) q 0 ≡ get_or xs q 0
where_not test u q xs out = where_not_from test u 0 q xs (subst (λ n. test n ≡ false) (let same : q ≡ 0 + q = omega arith in same) out)

-- the FUO of p was read, and p has more than r knows
pub left_tables : (c : Config) (r p u : ℕ) (mine : List Event) (t : Tables) → IsPossible c r (fuo_event r p u ∷ mine) → p < 7 → HoldsTables c r mine t.up t.reach t.heads t.written → HoldsTables c r (fuo_event r p u ∷ mine) t.up (fuo_in t.reach p u) t.heads t.written
left_tables c r p u mine t possible low h =
    let reaches = h.reaches in
    tables_reach c r p (fuo_event r p u ∷ mine) t.up t.reach (fuo_in t.reach p u) t.heads t.written (tables_kept c r (fuo_event r p u) mine t.up t.reach t.heads t.written possible refl refl h) (length-set t.reach p (greater_fuo (get_or t.reach p None) u) ∙ h.reaches)
    (fuo_others t.reach p u) (reached_read r p u mine (get_or t.reach p None) (get_or (fuo_in t.reach p u) p None) (fuo_rings t.reach p u (omega (arith, low, reaches))) (h.reached p))

-- it was read, and p has what is below it
pub fuo_tables : (c : Config) (r p u : ℕ) (mine : List Event) (t : Tables) → IsPossible c r (fuo_event r p u ∷ mine) → p < 7 → HoldsTables c r mine t.up t.reach t.heads t.written → HoldsTables c r (fuo_event r p u ∷ mine) (set t.up p u) (fuo_in t.reach p u) t.heads t.written
fuo_tables c r p u mine t possible low h =
    let ups = h.ups in
    tables_up c r p u (fuo_event r p u ∷ mine) t.up (set t.up p u) (fuo_in t.reach p u) t.heads t.written (left_tables c r p u mine t possible low h) (length-set t.up p u ∙ h.ups) (get_or-set_same t.up p u 0 (omega (arith, low, ups))) (up_others t.up p u)
    (brought_read c r p u mine) (part_fuos_are_within_law c r p u mine (fuo_event r p u) possible refl refl)

-- the FUO of p was raised
pub raise_tables : (c : Config) (r p u : ℕ) (mine : List Event) (t : Tables) → IsPossible c r (raise_event r p u ∷ mine) → p < 7 → HoldsTables c r mine t.up t.reach t.heads t.written → HoldsTables c r (raise_event r p u ∷ mine) t.up (fuo_in t.reach p u) t.heads t.written
raise_tables c r p u mine t possible low h =
    let reaches = h.reaches in
    tables_reach c r p (raise_event r p u ∷ mine) t.up t.reach (fuo_in t.reach p u) t.heads t.written (tables_kept c r (raise_event r p u) mine t.up t.reach t.heads t.written possible refl refl h) (length-set t.reach p (greater_fuo (get_or t.reach p None) u) ∙ h.reaches)
    (fuo_others t.reach p u) (reached_raised r p u mine (get_or t.reach p None) (get_or (fuo_in t.reach p u) p None) (fuo_rings t.reach p u (omega (arith, low, reaches))) (h.reached p))

-- an entry that is known was put at p
pub copy_tables : (c : Config) (r b p u v : ℕ) (mine : List Event) (t : Tables) → IsPossible c r (put_event r p u b v ∷ mine) → p < 7 → u < end_of c r mine → slice_get (known c r mine) u ≡ Some v → u ≡ get_or t.up p 0 → HoldsTables c r mine t.up t.reach t.heads t.written
    → HoldsTables c r (put_event r p u b v ∷ mine) (set t.up p (u + 1)) t.reach t.heads t.written
copy_tables c r b p u v mine t possible low lacks value here h =
    let ups = h.ups in
    let most = known_within c r mine (parts_shorten_law c r mine (put_event r p u b v) possible).before in
    tables_up c r p (u + 1) (put_event r p u b v ∷ mine) t.up (set t.up p (u + 1)) t.reach t.heads t.written (tables_kept c r (put_event r p u b v) mine t.up t.reach t.heads t.written possible refl refl h) (length-set t.up p (u + 1) ∙ h.ups)
    (get_or-set_same t.up p (u + 1) 0 (omega (arith, low, ups))) (up_others t.up p (u + 1)) (brought_put c r b v p u mine lacks value (subst (Brought c r mine p) (sym here) (h.brought p))) (omega (arith, lacks, most))

-- the head of q was read
pub head_tables : (c : Config) (r q x : ℕ) (mine : List Event) (t : Tables) → IsPossible c r (head_event r q x ∷ mine) → q < 7 → HoldsTables c r mine t.up t.reach t.heads t.written → HoldsTables c r (head_event r q x ∷ mine) t.up t.reach (set t.heads q x) t.written
head_tables c r q x mine t possible low h =
    let all = h.all_heads in
    let now = head_now r q x mine in
    tables_head c r q x (head_event r q x ∷ mine) t.up t.reach t.heads (set t.heads q x) t.written (tables_kept c r (head_event r q x) mine t.up t.reach t.heads t.written possible refl refl h) (length-set t.heads q x ∙ h.all_heads) (get_or-set_same t.heads q x 0 (omega (arith, low, all))) (up_others t.heads q x) (omega (arith, now))

-- a word of row j was written
pub word_tables : (c : Config) (r j : ℕ) (mine : List Event) (t : Tables) → IsPossible c r (row_event r j (get_or t.written j 12) (config_word c j (get_or t.written j 12)) ∷ mine) → j < row_count c → HoldsTables c r mine t.up t.reach t.heads t.written
    → HoldsTables c r (row_event r j (get_or t.written j 12) (config_word c j (get_or t.written j 12)) ∷ mine) t.up t.reach t.heads (set t.written j (get_or t.written j 12 + 1))
word_tables c r j mine t possible low h =
    let k = get_or t.written j 12 in
    let rows = h.rows in
    let there : j < length t.written = omega (arith, low, rows) in
    tables_row c r j k (config_word c j k) mine t.up t.reach t.heads t.written (set t.written j (k + 1)) possible h (sym (default_is t.written j there)) (length-set t.written j (k + 1)) (get_or-set_same t.written j (k + 1) 0 there) (up_others t.written j (k + 1))

-- the last put of an entry made it known: each member has it
pub commit_tables : (c : Config) (r b p v : ℕ) (mine : List Event) (t : Tables) → IsPossible c r (put_event r p (end_of c r mine) b v ∷ mine) → Offering c r b v mine t.up t.reach p
    → ((q : ℕ) → q < c.replicas → is_member r q mine ≡ true → took r q (end_of c r mine) b v (put_event r p (end_of c r mine) b v ∷ mine) ≡ true) → c.replicas ≤ 7 → HoldsTables c r mine t.up t.reach t.heads t.written
    → HoldsTables c r (put_event r p (end_of c r mine) b v ∷ mine) (set_where (λ q. is_member r q mine) (end_of c r mine + 1) 0 t.up) t.reach t.heads t.written
commit_tables c r b p v mine t possible o all few h =
    let end = end_of c r mine in
    let now = put_event r p end b v ∷ mine in
    let grows = known_more c r b v p mine t.up t.reach o all in
    let most = known_within c r now possible in
    let long = ap length grows ∙ length-append (known c r mine) (v ∷ []) in
    let ups = h.ups in
    tables_committed c r (end + 1) now t.up (set_where (λ q. is_member r q mine) (end + 1) 0 t.up) t.reach t.heads t.written (tables_kept c r (put_event r p end b v) mine t.up t.reach t.heads t.written possible refl refl h) (length_where (λ q. is_member r q mine) (end + 1) 0 t.up ∙ h.ups)
    (λ q stranger. where_not (λ k. is_member r k mine) (end + 1) q t.up stranger)
    (λ q member. (let low = member_within c r q now possible member in
    (where_so (λ k. is_member r k mine) (end + 1) q t.up (omega (arith, low, few, ups)) member, brought_committed c r b v p q mine grows (brought_less c r q end (get_or t.up q 0) mine (o.have q low member) (h.brought q)) (all q low member))))
    (omega (arith, most, long))
