-- If only one replica writes rows, it applies all that it knows.
use Rattle.std.proofs.Common.{◌≡◌, ℕ, suc, ◌+◌, ◌/◌, ◌%◌, ◌<◌, ◌==◌, ◌&&◌, ◌||◌, not, Bool, true, false, cond, Some, List, [], ◌∷◌, refl, sym, ◌∙◌, ap, arith, subst, eqb-true, true≢false}
use Rattle.std.specs.List.{slice_get}
use Rattle.std.proofs.lemmas.Bool.{and_from, and_parts, eq-eqb}
use Rattle.mu_model.specs.declared.config.Config.{Config}
use Rattle.mu_model.specs.declared.event.Event.{Event}
use Rattle.mu_model.specs.declared.event.Verb.{Verb}
use Rattle.mu_model.specs.Contents.{IsConfig, holds_all, is_batch, rest_of}
use Rattle.mu_model.specs.Histories.{all_below, has, part}
use Rattle.mu_model.specs.Knowledge.{applied, front, has_entry, has_row, has_word, is_read, is_written, known, wrote, wrote_batch}
use Rattle.mu_model.specs.Legal.{IsLegalHistory}
use Rattle.mu_model.proofs.Basics.{true_or}
use Rattle.mu_model.proofs.Owned.{has-part}
use Rattle.mu_model.proofs.Scans.{all_at, each_all}
use Rattle.mu_agree.proofs.Phases.{known_chosen}
use Rattle.mu_agree.proofs.Sessions.{batch_within, mark_no_batch, row_within}
use Rattle.mu_agree.proofs.Sound.{Fits, by_batch, by_mark, chosen_sound}
use Rattle.mu_alive.specs.Alone.{WritesAlone}
use Rattle.mu_alive.specs.Last.{LoneWritersApplyAll}
use Rattle.mu_alive.proofs.Lasting.{last_knows_all}
use Rattle.mu_pace.proofs.Pasts.{written-own}

-- who wrote a word is a
writer_is : (a q j k : ℕ) (past : List Event) → WritesAlone a past → wrote q j k past ≡ true → q ≡ a
writer_is a q j k [] alone some = absurd (true≢false (sym some))
writer_is a q j k (e ∷ past) alone some = go (is_written q j k e.by e.verb) refl some (writer_is a q j k past alone.0)
  where
    here : (by : ℕ) (verb : Verb) → is_written q j k by verb ≡ true → ((i l x : ℕ) → verb ≡ Verb.WriteRow i l x → by ≡ a) → q ≡ a
    here by (Verb.WriteRow row word x) is own = sym (eqb-true by q (and_parts (by == q) ((row == j) && (word == k)) is).0) ∙ own row word x refl
    here by verb is own = absurd (true≢false (sym is))

    go : (t : Bool) → is_written q j k e.by e.verb ≡ t → cond t true (wrote q j k past) ≡ true → (wrote q j k past ≡ true → q ≡ a) → q ≡ a
    go true is some ih = here e.by e.verb is alone.1
    go false is some ih = ih some

-- the rows of a batch that a wrote are there
batch_had : (c : Config) (a v : ℕ) (past : List Event) → IsConfig c → WritesAlone a past → is_batch c v ≡ true → wrote_batch c (v / 4096) (v % 4096) past ≡ true → all_below (rest_of c (v % 4096) + 1) (λ t. has_row a (v + t) (part a past)) ≡ true
batch_had c a v past good alone batch written = each_all (rest_of c (v % 4096) + 1) (λ t. has_row a (v + t) (part a past)) (λ t low. each_all 12 (λ k. has_word a (v + t) k (part a past)) (λ k few. word t k low few))
  where
    there : (t k : ℕ) → t < rest_of c (v % 4096) + 1 → k < 12 → wrote (v / 4096) (v % 4096 + t) k past ≡ true
    there t k low few = all_at 12 (λ k. wrote (v / 4096) (v % 4096 + t) k past) (all_at (rest_of c (v % 4096) + 1) (λ t. all_below 12 (λ k. wrote (v / 4096) (v % 4096 + t) k past)) written t low) k few

    word : (t k : ℕ) → t < rest_of c (v % 4096) + 1 → k < 12 → has_word a (v + t) k (part a past) ≡ true
    word t k low few =
        let is = there t k low few in
        let own = writer_is a (v / 4096) (v % 4096 + t) k past alone is in
        let most = batch_within c good (rest_of c (v % 4096)) (v % 4096) (row_within c v batch) refl in
        let all = good.few in
        let high : (v + t) / 4096 ≡ a = omega (arith, own, most, all, low) in
        let rest : v % 4096 + t ≡ (v + t) % 4096 = omega (arith, most, all, low) in
        let mine : wrote a ((v + t) % 4096) k (part a past) ≡ true =
        has-part (λ e. is_written a ((v + t) % 4096) k e.by e.verb) a (written-own a ((v + t) % 4096) k) past ∙ (subst (λ i. wrote a i k past ≡ true) rest (subst (λ q. wrote q (v % 4096 + t) k past ≡ true) own is)) in
        true_or (((v + t) / 4096 == a) && wrote a ((v + t) % 4096) k (part a past)) (has (λ e. is_read a (v + t) k e.by e.verb) (part a past)) (and_from ((v + t) / 4096 == a) (wrote a ((v + t) % 4096) k (part a past)) (eq-eqb ((v + t) / 4096) a high) mine)

-- so each entry that it knows it has in full
entry_had : (c : Config) (a i v : ℕ) (past : List Event) → IsConfig c → IsLegalHistory c past → WritesAlone a past → slice_get (known c a (part a past)) i ≡ Some v → has_entry c a v (part a past) ≡ true
entry_had c a i v past good legal alone at = go (is_batch c v) refl
  where
    fits : (values : List ℕ) → Fits c v values past → is_batch c v ≡ true → wrote_batch c (v / 4096) (v % 4096) past ≡ true
    fits values (by_batch b w n) batch = w
    fits values (by_mark q m n _) batch = absurd (mark_no_batch c q v good m batch)

    go : (t : Bool) → is_batch c v ≡ t → (not t || all_below (rest_of c (v % 4096) + 1) (λ t. has_row a (v + t) (part a past))) ≡ true
    go false is = refl
    go true is =
        let x = known_chosen c a i v past legal at in
        let s = chosen_sound c i v past legal (x.b, x.is) in
        batch_had c a v past good alone is (fits s.values s.fits is)

-- the front of a list in which all pass is the list
all_front : (test : ℕ → Bool) (xs : List ℕ) → ((i v : ℕ) → slice_get xs i ≡ Some v → test v ≡ true) → front test xs ≡ xs
all_front test [] all = refl
all_front test (x ∷ xs) all = go (test x) (all 0 x refl) (all_front test xs (λ i v at. all (suc i) v at))
  where
    go : (t : Bool) → t ≡ true → front test xs ≡ xs → cond t (x ∷ front test xs) [] ≡ x ∷ xs
    go true is ih = ap (λ l. x ∷ l) ih
    go false is ih = absurd (true≢false (sym is))

pub applied_is_known : (c : Config) (a : ℕ) (past : List Event) → IsConfig c → IsLegalHistory c past → WritesAlone a past → applied c a (part a past) ≡ known c a (part a past)
applied_is_known c a past good legal alone = all_front (λ v. has_entry c a v (part a past)) (known c a (part a past)) (λ i v at. entry_had c a i v past good legal alone at)

pub writer_applies_all : LoneWritersApplyAll
writer_applies_all c live a start past good large last alone many = ap (holds_all c) (applied_is_known c a past good last.legal alone) ∙ last_knows_all c live a start past good large last many
