-- What a replica offers of its own.
use Rattle.std.proofs.Common.{Bool, List, None, ap, arith, cond, eq-eqb, eqb-true, false, get_or, inl, inr, length, refl, subst, sym, true, true≢false, ℕ, ◌%◌, ◌&&◌, ◌*◌, ◌+◌, ◌/◌, ◌<◌, ◌==◌, ◌∙◌, ◌∷◌, ◌≡◌, ◌≢◌, ◌≤◌}
use Rattle.std.specs.Prelude.{nat_lt}
use Rattle.std.specs.declared.option.Option.{Option}
use Rattle.std.proofs.lemmas.Bool.{and_from, cases_eq, cases_lt, le-ltb, lt-ltb, ltb-false, ne_eqb}
use Rattle.mu_model.specs.declared.config.Config.{Config}
use Rattle.mu_model.specs.declared.event.Answer.{Answer}
use Rattle.mu_model.specs.declared.event.Event.{Event}
use Rattle.mu_model.specs.declared.event.Verb.{Verb}
use Rattle.mu_model.specs.Contents.{IsConfig, begins_batch, rest_of, row_count}
use Rattle.mu_model.specs.Histories.{all_below, event_by}
use Rattle.mu_model.specs.Knowledge.{known, wrote, wrote_batch}
use Rattle.mu_model.specs.Parts.{IsPossible}
use Rattle.mu_model.proofs.Basics.{same_number}
use Rattle.mu_model.proofs.Scans.{all_at, each_all}
use Rattle.mu_lead.specs.declared.place.Offer.{Offer}
use Rattle.mu_lead.specs.Leading.{HoldsTables}
use Rattle.mu_lead.specs.Offering.{IsNextBatch, Looking, Writing}
use Rattle.mu_knowledge.specs.Offers.{IsNextRow}
use Rattle.mu_lead.proofs.Due.{default_is, last_there}
use Rattle.mu_lead.proofs.Keeping.{leads_kept}
use Rattle.mu_lead.proofs.Tables.{brought_kept, head_kept, reached_kept}

-- the next batch of a client is one of the replica's own
pub own_batch : (c : Config) (r j v : ℕ) (mine : List Event) → IsConfig c → r < c.replicas → v ≡ r * 4096 + j → IsNextRow c (known c r mine) j → IsNextBatch c r mine j
own_batch c r j v mine config own is n =
    let rows = config.few in
    let row = n.row in
    let high : (r * 4096 + j) / 4096 ≡ r = omega (arith, row, rows) in
    let low : (r * 4096 + j) % 4096 ≡ j = omega (arith, row, rows) in
    record {
      batch = and_from (nat_lt ((r * 4096 + j) / 4096) c.replicas) (nat_lt ((r * 4096 + j) % 4096) (row_count c) && begins_batch c ((r * 4096 + j) % 4096)) (lt-ltb ((r * 4096 + j) / 4096) c.replicas (omega (arith, high, own)))
          (and_from (nat_lt ((r * 4096 + j) % 4096) (row_count c)) (begins_batch c ((r * 4096 + j) % 4096)) (lt-ltb ((r * 4096 + j) % 4096) (row_count c) (omega (arith, low, row))) (subst (λ x. begins_batch c x ≡ true) (sym low) n.begins));
      row = n.row;
      next = n.next;
    }

-- the rows up to the first that isn't written in full are
pub written_to : (c : Config) (r b from j last : ℕ) (offer : Offer) (mine : List Event) (up : List ℕ) (reach : List (Option ℕ)) (written : List ℕ) → IsConfig c → length written ≡ row_count c
    → ((k w : ℕ) → k < row_count c → w < 12 → wrote r k w mine ≡ nat_lt w (get_or written k 0)) → Writing c r b mine up reach from last offer → from ≤ j → j ≤ last + 1
    → ((k : ℕ) → from ≤ k → k < j → nat_lt (get_or written k 12) 12 ≡ false) → Writing c r b mine up reach j last offer
written_to c r b from j last offer mine up reach written config all words w low high full = record {
  looking = w.looking;
  first = w.first;
  value = w.value;
  own = w.own;
  batch = w.batch;
  last_row = w.last_row;
  from = (let start = w.from in omega (arith, start, low));
  to = high;
  below = λ k more less. elim (cases_lt k from) [
    | inl before ↦ w.below k more before
    | inr after ↦ each_all 12 (λ x. wrote r k x mine) (λ x small. words_there k x after less small)
  ];
}
  where
    words_there : (k x : ℕ) → from ≤ k → k < j → x < 12 → wrote r k x mine ≡ true
    words_there k x after less small =
        let end = last_there c w.first (rest_of c w.first) config w.batch.row refl in
        let is = w.last_row in
        let row : k < row_count c = omega (arith, less, high, is, end) in
        let same = default_is written k (omega (arith, row, all)) in
        let full_row = ltb-false (get_or written k 12) 12 (full k after less) in
        words k x row small ∙ lt-ltb x (get_or written k 0) (omega (arith, small, full_row, same))

-- all rows are written
pub wrote_all : (c : Config) (r b from last : ℕ) (offer : Offer) (mine : List Event) (up : List ℕ) (reach : List (Option ℕ)) (w : Writing c r b mine up reach from last offer) → from ≡ last + 1 → wrote_batch c r w.first mine ≡ true
wrote_all c r b from last offer mine up reach w done =
    let is = w.last_row in
    each_all (rest_of c w.first + 1) (λ t. all_below 12 (λ k. wrote r (w.first + t) k mine)) (λ t low. w.below (w.first + t) (omega arith) (omega (arith, low, is, done)))

-- a word of a row is written
abbrev pub row_event : ℕ → ℕ → ℕ → ℕ → Event
row_event r j k x = event_by r (Verb.WriteRow j k x) Answer.Done

looking_row : (c : Config) (r b j k x p : ℕ) (mine : List Event) (up : List ℕ) (reach : List (Option ℕ)) → Looking c r b mine up reach p None None → Looking c r b (row_event r j k x ∷ mine) up reach p None None
looking_row c r b j k x p mine up reach l = record {
  level = record { leads = leads_kept c r b r (Verb.WriteRow j k x) Answer.Done mine refl l.level.leads; have = l.level.have; raised = l.level.raised; few = l.level.few };
  roomy = record { within = l.roomy.within; lacks = l.roomy.lacks; room = l.roomy.room; free = l.roomy.free; marks = tt };
  looked = λ q low member. (let d = l.looked q low member in record { good = rw member d.good; last = d.last; clear = d.clear; empty = d.empty });
  shows = l.shows;
}

pub more_all : (r i j k x : ℕ) (mine : List Event) → all_below 12 (λ w. wrote r i w mine) ≡ true → all_below 12 (λ w. wrote r i w (row_event r j k x ∷ mine)) ≡ true
more_all r i j k x mine is = each_all 12 (λ w. wrote r i w (row_event r j k x ∷ mine)) (λ w low. still (((r == r) && ((j == i) && (k == w)))) (wrote r i w mine) (all_at 12 (λ w. wrote r i w mine) is w low))
  where
    still : (t s : Bool) → s ≡ true → cond t true s ≡ true
    still true s is = refl
    still false s is = is

pub writing_row : (c : Config) (r b j k x i last : ℕ) (offer : Offer) (mine : List Event) (up : List ℕ) (reach : List (Option ℕ)) → Writing c r b mine up reach i last offer → Writing c r b (row_event r j k x ∷ mine) up reach i last offer
writing_row c r b j k x i last offer mine up reach w = record {
  looking = looking_row c r b j k x c.replicas mine up reach w.looking;
  first = w.first;
  value = w.value;
  own = w.own;
  batch = record { batch = w.batch.batch; row = w.batch.row; next = w.batch.next };
  last_row = w.last_row;
  from = w.from;
  to = w.to;
  below = λ q more less. more_all r q j k x mine (w.below q more less);
}

word_more : (t : Bool) (w n : ℕ) → (n == w) ≡ t → cond t true (nat_lt w n) ≡ nat_lt w (n + 1)
word_more true w n same = sym (lt-ltb w (n + 1) (let is = eqb-true n w same in omega (arith, is)))
word_more false w n other = elim (cases_lt w n) [
  | inl low ↦ lt-ltb w n low ∙ sym (lt-ltb w (n + 1) (omega (arith, low)))
  | inr high ↦ le-ltb w n high ∙ sym (le-ltb w (n + 1) (let differs : n ≢ w = (λ is. true≢false (sym (eq-eqb n w is) ∙ other)) in omega (arith, high, differs)))
]

-- the count of words of row j rises by one
pub tables_row : (c : Config) (r j k x : ℕ) (mine : List Event) (up : List ℕ) (reach : List (Option ℕ)) (heads written written' : List ℕ) → IsPossible c r (row_event r j k x ∷ mine) → HoldsTables c r mine up reach heads written → k ≡ get_or written j 0 → length written' ≡ length written
    → get_or written' j 0 ≡ k + 1 → ((i : ℕ) → i ≢ j → get_or written' i 0 ≡ get_or written i 0) → HoldsTables c r (row_event r j k x ∷ mine) up reach heads written'
tables_row c r j k x mine up reach heads written written' possible t is long here others = record {
  ups = t.ups;
  reaches = t.reaches;
  all_heads = t.all_heads;
  rows = long ∙ t.rows;
  brought = λ p. brought_kept c r p (get_or up p 0) (row_event r j k x) mine refl (t.brought p);
  within = t.within;
  reached = λ p. reached_kept r p (get_or reach p None) (row_event r j k x) mine refl (t.reached p);
  read = λ q. (let more = head_kept c r q (row_event r j k x) mine possible in let low = t.read q in omega (arith, more, low));
  words = λ i w row small. elim (cases_eq i j) [
    | inl same ↦ subst (λ y. wrote r y w (row_event r j k x ∷ mine) ≡ nat_lt w (get_or written' y 0)) (sym same)
        (rw (same_number r, same_number j) (ap (cond (k == w) true) (t.words j w (subst (λ y. y < row_count c) same row) small ∙ ap (nat_lt w) (sym is)) ∙ word_more (k == w) w k refl ∙ ap (nat_lt w) (sym here)))
    | inr other ↦ rw (same_number r, ne_eqb j i (λ e. other (sym e))) (t.words i w row small ∙ ap (nat_lt w) (sym (others i other)))
  ];
}
