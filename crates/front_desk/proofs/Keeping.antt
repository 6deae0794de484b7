-- Each move keeps the rule of the line.
use Rattle.std.proofs.Common.{◌≡◌, ◌≢◌, ◌⊎◌, ℕ, zero, suc, ◌<◌, ◌≤◌, ◌==◌, true, false, List, [], ◌∷◌, ◌++◌, length, set, Some, None, refl, sym, ap, subst, ◌∙◌, arith, ⊎_elim, eq-eqb, ne_eqb, append_assoc, append-nil, true≢false, inl, inr}
use Rattle.std.specs.Prelude.{if◌then◌else◌}
use Rattle.std.proofs.lemmas.Bool.Decides.{eqb_tells}
use mathlib.Core.Option as opt
use lib.ListN.{get_elem?}
use Rattle.crossbeam_queue.specs.Fifo.{Pushes, Pops, Forks, Merges, Learns}
use Rattle.crossbeam_queue.proofs.Lists.{at_set, at_last, at_longer, set_else}
use Rattle.kv_store.specs.Commands.{Request}
use Rattle.mu_input.specs.declared.TheConstants.{MOST_SENDERS}
use Rattle.mu_input.specs.Senders.{HaveSenders}
use Rattle.front_desk.specs.Arrivals.{commands_by, IsArrival}
use Rattle.front_desk.specs.Line.{entry, entry_of, without, whole_hand, sending_hand, spent_hand, after_first, first_alone, united, HasSent, HasTaken, KnowsItsPart, HasEntry, HasTheTaken, KeepsOrder, Delivers}
use Rattle.front_desk.specs.declared.line.Entry.{Entry}
use Rattle.front_desk.specs.declared.line.Hand.{Hand}
use Rattle.front_desk.proofs.Clients.{commands_by-append, commands_by-own, commands_by-other, none_beyond, whole_arrival}

some_is : {A : Type 0} → (x y : A) → Some x ≡ Some y → x ≡ y
some_is x y e = cc

none_is : {A : Type 0} → (x : A) → None ≡ Some x → ⊥
none_is x e = cc

no_false : {A : Type 0} → false ≡ true → A
no_false e = absurd (true≢false (sym e))

-- a hand of one entry has only the entry of that client
only : (e : Entry) (client : ℕ) (found : Entry) → entry_of client (e ∷ []) ≡ Some found → (client ≡ e.client) × (e ≡ found)
only e client found is = ⊎_elim
    (λ (t : ((e.client == client) ≡ true) × (e.client ≡ client)). (sym t.1, some_is e found (subst (λ b. (if b then Some e else None) ≡ Some found) t.0 is)))
    (λ (t : ((e.client == client) ≡ false) × (e.client ≢ client)). absurd (none_is found (subst (λ b. (if b then Some e else None) ≡ Some found) t.0 is)))
    (eqb_tells e.client client)

-- what is found among the entries of the others is another's, and stood there before
in_others : (mine client : ℕ) (es : List Entry) (found : Entry) → entry_of client (without mine es) ≡ Some found → (client ≢ mine) × (entry_of client es ≡ Some found)
in_others mine client [] found is = absurd (none_is found is)
in_others mine client (e ∷ es) found is = ⊎_elim
    (λ (t : ((e.client == mine) ≡ true) × (e.client ≡ mine)).
    let rest = in_others mine client es found (subst (λ b. entry_of client (if b then without mine es else e ∷ without mine es) ≡ Some found) t.0 is) in
    (rest.0, ap (λ b. if b then Some e else entry_of client es) (ne_eqb e.client client (λ same. rest.0 (sym same ∙ t.1))) ∙ rest.1))
    (λ (t : ((e.client == mine) ≡ false) × (e.client ≢ mine)).
    let there : (if e.client == client then Some e else entry_of client (without mine es)) ≡ Some found = subst (λ b. entry_of client (if b then without mine es else e ∷ without mine es) ≡ Some found) t.0 is in
    ⊎_elim
    (λ (u : ((e.client == client) ≡ true) × (e.client ≡ client)).
    ((λ same. t.1 (u.1 ∙ same)), ap (λ b. if b then Some e else entry_of client es) u.0 ∙ subst (λ b. (if b then Some e else entry_of client (without mine es)) ≡ Some found) u.0 there))
    (λ (u : ((e.client == client) ≡ false) × (e.client ≢ client)).
    let rest = in_others mine client es found (subst (λ b. (if b then Some e else entry_of client (without mine es)) ≡ Some found) u.0 there) in
    (rest.0, ap (λ b. if b then Some e else entry_of client es) u.0 ∙ rest.1))
    (eqb_tells e.client client))
    (eqb_tells e.client mine)

at_end : (l : List Hand) (a b : Hand) (j : ℕ) → get_elem? (l ++ a ∷ []) j ≡ opt.some b → (get_elem? l j ≡ opt.some b) ⊎ ((j ≡ length l) × (a ≡ b))
at_end [] a b zero e = inr (refl, opt.some-injective a b e)
at_end [] a b (suc j) e = absurd (opt.some-ne-none b (sym e))
at_end (x ∷ xs) a b zero e = inl e
at_end (x ∷ xs) a b (suc j) e = ⊎_elim (λ t. inl t) (λ t. inr (ap suc t.0, t.1)) (at_end xs a b j e)

-- each of the hands knows its part if the one that is set does, and the others do
all_set : (F : ℕ → Hand → Type 0) (views : List Hand) (pass : ℕ) (w : Hand) → F pass w → ((j : ℕ) (u : Hand) → j ≢ pass → get_elem? views j ≡ opt.some u → F j u)
    → (j : ℕ) (u : Hand) → get_elem? (set views pass w) j ≡ opt.some u → F j u
all_set F views pass w mine others j u e = ⊎_elim
    (λ (t : (j ≡ pass) × (w ≡ u)). subst (λ i. F i u) (sym t.0) (subst (λ y. F pass y) t.1 mine))
    (λ (t : (j ≢ pass) × (get_elem? views j ≡ opt.some u)). others j u t.0 t.1)
    (at_set views pass j w u e)

spent_knows : (owner : ℕ → ℕ) (sent : ℕ → List Request) (taker : ℕ) (got : List Request) (pass : ℕ) → KnowsItsPart owner sent taker got pass spent_hand
spent_knows owner sent taker got pass = record { entries = λ client e is. absurd (none_is e is); takes = λ e. no_false e }

set_there : (l : List Hand) (i : ℕ) (v w : Hand) → get_elem? l i ≡ opt.some v → get_elem? (set l i w) i ≡ opt.some w
set_there [] i v w at = absurd (opt.some-ne-none v (sym at))
set_there (x ∷ xs) zero v w at = refl
set_there (x ∷ xs) (suc i) v w at = set_there xs i v w at

-- a pass still has an entry, provided that the hand that is set has it if the one before had
has_set : (views : List Hand) (pass p client : ℕ) (v w : Hand) → get_elem? views pass ≡ opt.some v → ((e : Entry) → entry_of client v.entries ≡ Some e → (f : Entry) × (entry_of client w.entries ≡ Some f))
    → HasEntry views p client → HasEntry (set views pass w) p client
has_set views pass p client v w at keeps has = ⊎_elim
    (λ (t : ((p == pass) ≡ true) × (p ≡ pass)).
    let same : has.hand ≡ v = opt.some-injective has.hand v (sym has.there ∙ (ap (get_elem? views) t.1 ∙ at)) in
    let kept = keeps has.its (ap (λ (h : Hand). entry_of client h.entries) (sym same) ∙ has.found) in
    record { hand = w; its = kept.0; there = ap (get_elem? (set views pass w)) t.1 ∙ set_there views pass v w at; found = kept.1 })
    (λ (t : ((p == pass) ≡ false) × (p ≢ pass)). record { hand = has.hand; its = has.its; there = set_else views pass p w t.1 ∙ has.there; found = has.found })
    (eqb_tells p pass)

-- and still takes, provided that the hand that is set takes if the one before did
takes_set : (views : List Hand) (pass p : ℕ) (v w : Hand) → get_elem? views pass ≡ opt.some v → (v.takes ≡ true → w.takes ≡ true) → HasTheTaken views p → HasTheTaken (set views pass w) p
takes_set views pass p v w at keeps has = ⊎_elim
    (λ (t : ((p == pass) ≡ true) × (p ≡ pass)).
    let same : has.hand ≡ v = opt.some-injective has.hand v (sym has.there ∙ (ap (get_elem? views) t.1 ∙ at)) in
    record { hand = w; there = ap (get_elem? (set views pass w)) t.1 ∙ set_there views pass v w at; takes = keeps (ap (λ (h : Hand). h.takes) (sym same) ∙ has.takes) })
    (λ (t : ((p == pass) ≡ false) × (p ≢ pass)). record { hand = has.hand; there = set_else views pass p w t.1 ∙ has.there; takes = has.takes })
    (eqb_tells p pass)

-- the entry of another stands among the entries of the others
stands_in_others : (mine client : ℕ) (es : List Entry) (x : Entry) → client ≢ mine → entry_of client es ≡ Some x → entry_of client (without mine es) ≡ Some x
stands_in_others mine client [] x apart is = is
stands_in_others mine client (e ∷ es) x apart is = ⊎_elim
    (λ (t : ((e.client == mine) ≡ true) × (e.client ≡ mine)).
    let rest : entry_of client es ≡ Some x = subst (λ b. (if b then Some e else entry_of client es) ≡ Some x) (ne_eqb e.client client (λ same. apart (sym same ∙ t.1))) is in
    ap (λ b. entry_of client (if b then without mine es else e ∷ without mine es)) t.0 ∙ stands_in_others mine client es x apart rest)
    (λ (t : ((e.client == mine) ≡ false) × (e.client ≢ mine)).
    ap (λ b. entry_of client (if b then without mine es else e ∷ without mine es)) t.0 ∙ ⊎_elim
    (λ (u : ((e.client == client) ≡ true) × (e.client ≡ client)).
    ap (λ b. if b then Some e else entry_of client (without mine es)) u.0 ∙ subst (λ b. (if b then Some e else entry_of client es) ≡ Some x) u.0 is)
    (λ (u : ((e.client == client) ≡ false) × (e.client ≢ client)).
    ap (λ b. if b then Some e else entry_of client (without mine es)) u.0 ∙ stands_in_others mine client es x apart (subst (λ b. (if b then Some e else entry_of client es) ≡ Some x) u.0 is))
    (eqb_tells e.client client))
    (eqb_tells e.client mine)

-- the rule at the start
pub begins : KeepsOrder [] (whole_hand ∷ [])
begins = record { owner = λ _. 0; sent = λ _. []; taker = 0; got = []; delivered = λ _. refl; beyond = λ _ _. refl; held = held; taking = record { hand = whole_hand; there = refl; takes = refl }; parts = parts }
  where
    held : (client : ℕ) → client < MOST_SENDERS → HasEntry (whole_hand ∷ []) 0 client
    held zero few = record { hand = whole_hand; its = entry 0 []; there = refl; found = refl }
    held (suc zero) few = record { hand = whole_hand; its = entry 1 []; there = refl; found = refl }
    held (suc (suc zero)) few = record { hand = whole_hand; its = entry 2 []; there = refl; found = refl }
    held (suc (suc (suc zero))) few = record { hand = whole_hand; its = entry 3 []; there = refl; found = refl }
    held (suc (suc (suc (suc client)))) few = absurd (omega (arith, few))

    put : (client : ℕ) (k : ℕ) (es : List Entry) → ((x : Entry) → entry_of client es ≡ Some x → x.commands ≡ []) → (x : Entry) → entry_of client (entry k [] ∷ es) ≡ Some x → x.commands ≡ []
    put client k es rest x is = ⊎_elim
        (λ (t : ((k == client) ≡ true) × (k ≡ client)). ap (λ (y : Entry). y.commands) (sym (some_is (entry k []) x (subst (λ b. (if b then Some (entry k []) else entry_of client es) ≡ Some x) t.0 is))))
        (λ (t : ((k == client) ≡ false) × (k ≢ client)). rest x (subst (λ b. (if b then Some (entry k []) else entry_of client es) ≡ Some x) t.0 is))
        (eqb_tells k client)

    whole : KnowsItsPart (λ _. 0) (λ _. []) 0 [] 0 whole_hand
    whole = record {
      entries = λ client e is. (refl, put client 0 (entry 1 [] ∷ entry 2 [] ∷ entry 3 [] ∷ []) (put client 1 (entry 2 [] ∷ entry 3 [] ∷ []) (put client 2 (entry 3 [] ∷ []) (put client 3 [] (λ x none. absurd (none_is x none))))) e is);
      takes = λ _. (refl, refl);
    }

    parts : (pass : ℕ) (v : Hand) → get_elem? (whole_hand ∷ []) pass ≡ opt.some v → KnowsItsPart (λ _. 0) (λ _. []) 0 [] pass v
    parts zero v is = subst (λ u. KnowsItsPart (λ _. 0) (λ _. []) 0 [] 0 u) (opt.some-injective whole_hand v is) whole
    parts (suc pass) v is = absurd (opt.some-ne-none v (sym is))

-- a client sends one more of its commands
pub sends : (n pass client : ℕ) (xs : List Request) (x : Request) (v : Hand) → v ≡ sending_hand client xs → x.client ≡ client → client < MOST_SENDERS → Pushes KeepsOrder n pass v x (HasSent v x)
sends n pass client xs x v is own few = subst (λ u. Pushes KeepsOrder n pass u x (HasSent u x)) (sym is) pushes
  where
    w : Hand
    w = sending_hand client (xs ++ x ∷ [])

    pushes : Pushes KeepsOrder n pass (sending_hand client xs) x (HasSent (sending_hand client xs) x)
    pushes items views room h at = (w, record { owner = h.owner; sent = sent; taker = h.taker; got = h.got; delivered = delivered; beyond = beyond; held = held; taking = takes_set views pass h.taker (sending_hand client xs) w at (λ on. on) h.taking; parts = parts }, refl)
      where
        sent : ℕ → List Request
        sent q = h.sent q ++ commands_by q (x ∷ [])

        mine : KnowsItsPart h.owner h.sent h.taker h.got pass (sending_hand client xs)
        mine = h.parts pass (sending_hand client xs) at

        its : (h.owner client ≡ pass) × (xs ≡ h.sent client)
        its = mine.entries client (entry client xs) (ap (λ b. if b then Some (entry client xs) else None) (eq-eqb client client refl))

        delivered : (q : ℕ) → commands_by q (h.got ++ (items ++ x ∷ [])) ≡ sent q
        delivered q = ap (commands_by q) (sym (append_assoc h.got items (x ∷ []))) ∙ (commands_by-append q (h.got ++ items) (x ∷ []) ∙ ap (λ l. l ++ commands_by q (x ∷ [])) (h.delivered q))

        other : (q : ℕ) → q ≢ client → sent q ≡ h.sent q
        other q apart = ap (λ l. h.sent q ++ l) (commands_by-other q x [] (λ e. apart (sym e ∙ own))) ∙ append-nil (h.sent q)

        beyond : (q : ℕ) → MOST_SENDERS ≤ q → sent q ≡ []
        beyond q past = other q (λ e. absurd (omega (arith, past, e, few))) ∙ h.beyond q past

        held : (q : ℕ) → q < MOST_SENDERS → HasEntry (set views pass w) (h.owner q) q
        held q less = has_set views pass (h.owner q) q (sending_hand client xs) w at
            (λ e k. let t = only (entry client xs) q e k in (entry client (xs ++ x ∷ []), ap (λ b. if b then Some (entry client (xs ++ x ∷ [])) else None) (eq-eqb client q (sym t.0))))
            (h.held q less)

        new : KnowsItsPart h.owner sent h.taker h.got pass w
        new = record {
          entries = λ q e k.
              let t = only (entry client (xs ++ x ∷ [])) q e k in
              let grown : xs ++ x ∷ [] ≡ sent client = ap (λ l. l ++ x ∷ []) its.1 ∙ ap (λ l. h.sent client ++ l) (sym (commands_by-own client x [] own)) in
              (ap h.owner t.0 ∙ its.0, ap (λ (y : Entry). y.commands) (sym t.1) ∙ (grown ∙ sym (ap sent t.0)));
          takes = λ e. no_false e;
        }

        parts : (j : ℕ) (u : Hand) → get_elem? (set views pass w) j ≡ opt.some u → KnowsItsPart h.owner sent h.taker h.got j u
        parts = all_set (λ j u. KnowsItsPart h.owner sent h.taker h.got j u) views pass w new (λ j u apart there.
            let f = h.parts j u there in
            record {
              entries = λ q e m. let g = f.entries q e m in (g.0, g.1 ∙ sym (other q (λ same. apart (sym g.0 ∙ (ap h.owner same ∙ its.0)))));
              takes = f.takes;
            })

-- the hand that takes takes one more
pub takes : (pass : ℕ) (v : Hand) → v.takes ≡ true → Pops KeepsOrder pass v (HasTaken v)
takes pass v may x items views h at = (w, record { owner = h.owner; sent = h.sent; taker = h.taker; got = h.got ++ x ∷ []; delivered = delivered; beyond = h.beyond; held = λ q less. has_set views pass (h.owner q) q v w at (λ e k. (e, k)) (h.held q less); taking = takes_set views pass h.taker v w at (λ on. on) h.taking; parts = parts }, refl)
  where
    w : Hand
    w = record { entries = v.entries; takes = v.takes; taken = v.taken ++ x ∷ [] }

    mine : KnowsItsPart h.owner h.sent h.taker h.got pass v
    mine = h.parts pass v at

    its : (pass ≡ h.taker) × (v.taken ≡ h.got)
    its = mine.takes may

    delivered : (q : ℕ) → commands_by q ((h.got ++ x ∷ []) ++ items) ≡ h.sent q
    delivered q = ap (commands_by q) (append_assoc h.got (x ∷ []) items) ∙ h.delivered q

    parts : (j : ℕ) (u : Hand) → get_elem? (set views pass w) j ≡ opt.some u → KnowsItsPart h.owner h.sent h.taker (h.got ++ x ∷ []) j u
    parts = all_set (λ j u. KnowsItsPart h.owner h.sent h.taker (h.got ++ x ∷ []) j u) views pass w
        (record { entries = mine.entries; takes = λ e. (its.0, ap (λ l. l ++ x ∷ []) its.1) })
        (λ j u apart there. let f = h.parts j u there in record { entries = f.entries; takes = λ on. absurd (apart ((f.takes on).0 ∙ sym its.0)) })

-- the first entry of a hand goes to a new pass
pub forks : (pass : ℕ) (v : Hand) (e : Entry) (es : List Entry) → v.entries ≡ e ∷ es → Forks KeepsOrder pass v (after_first v) (first_alone v)
forks pass v e es is = subst (λ u. Forks KeepsOrder pass u (after_first u) (first_alone u)) (ap (λ l. hand l) (sym is)) forked
  where
    hand : List Entry → Hand
    hand l = record { entries = l; takes = v.takes; taken = v.taken }

    forked : Forks KeepsOrder pass (hand (e ∷ es)) (after_first (hand (e ∷ es))) (first_alone (hand (e ∷ es)))
    forked items views h at = record { owner = owner; sent = h.sent; taker = h.taker; got = h.got; delivered = h.delivered; beyond = h.beyond; held = held; taking = taking; parts = parts }
      where
        left : Hand
        left = hand (without e.client es)

        right : Hand
        right = record { entries = e ∷ []; takes = false; taken = [] }

        last : ℕ
        last = length (set views pass left)

        owner : ℕ → ℕ
        owner q = if q == e.client then last else h.owner q

        mine : KnowsItsPart h.owner h.sent h.taker h.got pass (hand (e ∷ es))
        mine = h.parts pass (hand (e ∷ es)) at

        its : (h.owner e.client ≡ pass) × (e.commands ≡ h.sent e.client)
        its = mine.entries e.client e (ap (λ b. if b then Some e else entry_of e.client es) (eq-eqb e.client e.client refl))

        stays : (q : ℕ) → q ≢ e.client → owner q ≡ h.owner q
        stays q apart = ap (λ b. if b then last else h.owner q) (ne_eqb q e.client apart)

        held : (q : ℕ) → q < MOST_SENDERS → HasEntry (set views pass left ++ right ∷ []) (owner q) q
        held q less = ⊎_elim
            (λ (t : ((q == e.client) ≡ true) × (q ≡ e.client)).
            subst (λ p. HasEntry (set views pass left ++ right ∷ []) p q) (sym (ap (λ b. if b then last else h.owner q) t.0))
            (record { hand = right; its = e; there = at_last (set views pass left) right last refl; found = ap (λ b. if b then Some e else None) (eq-eqb e.client q (sym t.1)) }))
            (λ (t : ((q == e.client) ≡ false) × (q ≢ e.client)).
            let k = has_set views pass (h.owner q) q (hand (e ∷ es)) left at
            (λ x has. (x, stands_in_others e.client q es x t.1 (subst (λ b. (if b then Some e else entry_of q es) ≡ Some x) (ne_eqb e.client q (λ same. t.1 (sym same))) has))) (h.held q less) in
            subst (λ p. HasEntry (set views pass left ++ right ∷ []) p q) (sym (stays q t.1))
            (record { hand = k.hand; its = k.its; there = at_longer (set views pass left) (right ∷ []) (h.owner q) k.hand k.there; found = k.found }))
            (eqb_tells q e.client)

        taking : HasTheTaken (set views pass left ++ right ∷ []) h.taker
        taking =
            let k = takes_set views pass h.taker (hand (e ∷ es)) left at (λ on. on) h.taking in
            record { hand = k.hand; there = at_longer (set views pass left) (right ∷ []) h.taker k.hand k.there; takes = k.takes }

        left_knows : KnowsItsPart owner h.sent h.taker h.got pass left
        left_knows = record {
          entries = λ q found k.
              let t = in_others e.client q es found k in
              let g = mine.entries q found (ap (λ b. if b then Some e else entry_of q es) (ne_eqb e.client q (λ same. t.0 (sym same))) ∙ t.1) in
              (stays q t.0 ∙ g.0, g.1);
          takes = mine.takes;
        }

        right_knows : KnowsItsPart owner h.sent h.taker h.got last right
        right_knows = record {
          entries = λ q found k.
              let t = only e q found k in
              (ap (λ b. if b then last else h.owner q) (eq-eqb q e.client t.0), ap (λ (y : Entry). y.commands) (sym t.1) ∙ (its.1 ∙ ap h.sent (sym t.0)));
          takes = λ on. no_false on;
        }

        old : (j : ℕ) (u : Hand) → get_elem? (set views pass left) j ≡ opt.some u → KnowsItsPart owner h.sent h.taker h.got j u
        old = all_set (λ j u. KnowsItsPart owner h.sent h.taker h.got j u) views pass left left_knows (λ j u apart there.
            let f = h.parts j u there in
            record {
              entries = λ q found m. let g = f.entries q found m in (stays q (λ same. apart (sym g.0 ∙ (ap h.owner same ∙ its.0))) ∙ g.0, g.1);
              takes = f.takes;
            })

        parts : (j : ℕ) (u : Hand) → get_elem? (set views pass left ++ right ∷ []) j ≡ opt.some u → KnowsItsPart owner h.sent h.taker h.got j u
        parts j u k = ⊎_elim
            (λ (m : get_elem? (set views pass left) j ≡ opt.some u). old j u m)
            (λ (t : (j ≡ last) × (right ≡ u)). subst (λ i. KnowsItsPart owner h.sent h.taker h.got i u) (sym t.0) (subst (λ y. KnowsItsPart owner h.sent h.taker h.got last y) t.1 right_knows))
            (at_end (set views pass left) right u j k)

-- a hand takes in the entry of a client
pub merges : (pass : ℕ) (v : Hand) (other client : ℕ) (xs : List Request) (w : Hand) → w ≡ sending_hand client xs → Merges KeepsOrder pass v other w (united v w) spent_hand
merges pass v other client xs w is = subst (λ u. Merges KeepsOrder pass v other u (united v u) spent_hand) (sym is) merged
  where
    both : Hand
    both = record { entries = entry client xs ∷ v.entries; takes = v.takes; taken = v.taken }

    merged : Merges KeepsOrder pass v other (sending_hand client xs) (united v (sending_hand client xs)) spent_hand
    merged items views h at two there = record { owner = owner; sent = h.sent; taker = h.taker; got = h.got; delivered = h.delivered; beyond = h.beyond; held = held; taking = taking; parts = parts }
      where
        owner : ℕ → ℕ
        owner q = if q == client then pass else h.owner q

        mine : KnowsItsPart h.owner h.sent h.taker h.got pass v
        mine = h.parts pass v at

        was : get_elem? views other ≡ opt.some (sending_hand client xs)
        was = ⊎_elim
            (λ (t : (other ≡ pass) × (both ≡ sending_hand client xs)). absurd (two t.0))
            (λ (t : (other ≢ pass) × (get_elem? views other ≡ opt.some (sending_hand client xs))). t.1)
            (at_set views pass other both (sending_hand client xs) there)

        its : (h.owner client ≡ other) × (xs ≡ h.sent client)
        its = (h.parts other (sending_hand client xs) was).entries client (entry client xs) (ap (λ b. if b then Some (entry client xs) else None) (eq-eqb client client refl))

        stays : (q : ℕ) → q ≢ client → owner q ≡ h.owner q
        stays q apart = ap (λ b. if b then pass else h.owner q) (ne_eqb q client apart)

        -- of the hand that is taken in nothing is kept but its entry
        apart : (p q : ℕ) → q ≢ client → HasEntry views p q → p ≢ other
        apart p q away has same =
            let is : has.hand ≡ sending_hand client xs = opt.some-injective has.hand (sending_hand client xs) (sym has.there ∙ (ap (get_elem? views) same ∙ was)) in
            away (only (entry client xs) q has.its (ap (λ (u : Hand). entry_of q u.entries) (sym is) ∙ has.found)).0

        held : (q : ℕ) → q < MOST_SENDERS → HasEntry (set (set views pass both) other spent_hand) (owner q) q
        held q less = ⊎_elim
            (λ (t : ((q == client) ≡ true) × (q ≡ client)).
            subst (λ p. HasEntry (set (set views pass both) other spent_hand) p q) (sym (ap (λ b. if b then pass else h.owner q) t.0))
            (record {
              hand = both;
              its = entry client xs;
              there = set_else (set views pass both) other pass spent_hand (λ same. two (sym same)) ∙ set_there views pass v both at;
              found = ap (λ b. if b then Some (entry client xs) else entry_of q v.entries) (eq-eqb client q (sym t.1));
            }))
            (λ (t : ((q == client) ≡ false) × (q ≢ client)).
            let k = has_set views pass (h.owner q) q v both at (λ e has. (e, ap (λ b. if b then Some (entry client xs) else entry_of q v.entries) (ne_eqb client q (λ same. t.1 (sym same))) ∙ has)) (h.held q less) in
            subst (λ p. HasEntry (set (set views pass both) other spent_hand) p q) (sym (stays q t.1))
            (record { hand = k.hand; its = k.its; there = set_else (set views pass both) other (h.owner q) spent_hand (apart (h.owner q) q t.1 (h.held q less)) ∙ k.there; found = k.found }))
            (eqb_tells q client)

        taking : HasTheTaken (set (set views pass both) other spent_hand) h.taker
        taking =
            let k = takes_set views pass h.taker v both at (λ on. on) h.taking in
            let away : h.taker ≢ other = λ same. no_false (ap (λ (u : Hand). u.takes) (sym (opt.some-injective h.taking.hand (sending_hand client xs) (sym h.taking.there ∙ (ap (get_elem? views) same ∙ was)))) ∙ h.taking.takes) in
            record { hand = k.hand; there = set_else (set views pass both) other h.taker spent_hand away ∙ k.there; takes = k.takes }

        both_knows : KnowsItsPart owner h.sent h.taker h.got pass both
        both_knows = record {
          entries = λ q found k. ⊎_elim
              (λ (t : ((client == q) ≡ true) × (client ≡ q)).
              let same = some_is (entry client xs) found (subst (λ b. (if b then Some (entry client xs) else entry_of q v.entries) ≡ Some found) t.0 k) in
              (ap (λ b. if b then pass else h.owner q) (eq-eqb q client (sym t.1)), ap (λ (y : Entry). y.commands) (sym same) ∙ (its.1 ∙ ap h.sent t.1)))
              (λ (t : ((client == q) ≡ false) × (client ≢ q)).
              let g = mine.entries q found (subst (λ b. (if b then Some (entry client xs) else entry_of q v.entries) ≡ Some found) t.0 k) in
              (stays q (λ same. t.1 (sym same)) ∙ g.0, g.1))
              (eqb_tells client q);
          takes = mine.takes;
        }

        one : (j : ℕ) (u : Hand) → get_elem? (set views pass both) j ≡ opt.some u → j ≢ other → KnowsItsPart owner h.sent h.taker h.got j u
        one = all_set (λ j u. j ≢ other → KnowsItsPart owner h.sent h.taker h.got j u) views pass both (λ _. both_knows) (λ j u apart stood away.
            let f = h.parts j u stood in
            record {
              entries = λ q found m. let g = f.entries q found m in (stays q (λ same. away (sym g.0 ∙ (ap h.owner same ∙ its.0))) ∙ g.0, g.1);
              takes = f.takes;
            })

        parts : (j : ℕ) (u : Hand) → get_elem? (set (set views pass both) other spent_hand) j ≡ opt.some u → KnowsItsPart owner h.sent h.taker h.got j u
        parts = all_set (λ j u. KnowsItsPart owner h.sent h.taker h.got j u) (set views pass both) other spent_hand (spent_knows owner h.sent h.taker h.got other) (λ j u away stood. one j u stood away)

-- the hand that takes learns what stands in the line
pub learns : (pass : ℕ) (v : Hand) → v.takes ≡ true → Learns KeepsOrder pass v (Delivers v)
learns pass v may items views h at =
    let mine = h.parts pass v at in
    let got = (mine.takes may).1 in
    record {
      each = λ client e is. ap (λ l. commands_by client (l ++ items)) got ∙ (h.delivered client ∙ sym (mine.entries client e is).1);
      beyond = λ client past. ap (λ l. commands_by client (l ++ items)) got ∙ (h.delivered client ∙ h.beyond client past);
    }

-- the hand that has taken everything in: the entries of all four clients, and what was taken
abbrev pub full_hand : List Request → List Request → Hand
full_hand given arrived = record {
  entries = entry 0 (commands_by 0 given) ∷ entry 1 (commands_by 1 given) ∷ entry 2 (commands_by 2 given) ∷ entry 3 (commands_by 3 given) ∷ [];
  takes = true;
  taken = arrived;
}

-- a hand that took in the entry of a client
pub united_is : (v was w u : Hand) (client : ℕ) (xs : List Request) → v ≡ was → w ≡ sending_hand client xs → u ≡ united v w → u ≡ united was (sending_hand client xs)
united_is v was w u client xs first second is = is ∙ (ap (λ x. united x w) first ∙ ap (united was) second)

-- if the four have sent all commands, what was taken is an arrival
pub arrival : (given arrived left : List Request) (v : Hand) → v ≡ full_hand given arrived → Delivers v left → HaveSenders given → length arrived ≡ length given → IsArrival given arrived
arrival given arrived left v is delivers senders count = whole_arrival given arrived left senders count all
  where
    full : Delivers (full_hand given arrived) left
    full = subst (λ u. Delivers u left) is delivers

    all : IsArrival given (arrived ++ left)
    all zero = full.each 0 (entry 0 (commands_by 0 given)) refl
    all (suc zero) = full.each 1 (entry 1 (commands_by 1 given)) refl
    all (suc (suc zero)) = full.each 2 (entry 2 (commands_by 2 given)) refl
    all (suc (suc (suc zero))) = full.each 3 (entry 3 (commands_by 3 given)) refl
    all (suc (suc (suc (suc client)))) = full.beyond (suc (suc (suc (suc client)))) (omega arith) ∙ sym (none_beyond given senders (suc (suc (suc (suc client)))) (omega arith))
