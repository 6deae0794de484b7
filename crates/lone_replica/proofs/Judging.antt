-- No word that some legal list leaves where the access under way is made is refused.
use Rattle.std.proofs.Common.{◌≡◌, ◌∙◌, ℕ, ◌+◌, ◌%◌, ◌≤◌, Bool, false, true, List, ◌∷◌, None, Ok, Some, ap, arith, eq-eqb, refl, subst, sym}
use Rattle.std.specs.Prelude.{Err}
use Rattle.std.specs.declared.option.Option.{Option}
use Rattle.std.specs.declared.result.Result.{Result}
use Rattle.mu_model.specs.declared.config.Config.{Config}
use Rattle.mu_model.specs.declared.event.Answer.{Answer}
use Rattle.mu_model.specs.declared.event.Event.{Event}
use Rattle.mu_model.specs.declared.event.Verb.{Verb}
use Rattle.mu_model.specs.Allowed.{Allowed}
use Rattle.mu_model.specs.Contents.{IsConfig, config_word, rest_of}
use Rattle.mu_model.specs.Histories.{event_by}
use Rattle.mu_model.specs.Parts.{IsPossible}
use Rattle.mu_agree.proofs.Possible.{part_rows_read_right_law}
use Rattle.mu_agree.proofs.Sessions.{batch_within, row_within}
use Rattle.mu_words.specs.Finding.{expected, name_of}
use Rattle.mu_words.specs.Verbs.{answer_from}
use Rattle.lone_words.specs.declared.access.Shape.{Shape}
use Rattle.lone_words.specs.Accesses.{StandsForAccesses}
use Rattle.lone_words.specs.Memory.{IsFound, Own, event_at, own_with}
use Rattle.lone_words.specs.Right.{may_be_told}
use Rattle.lone_words.proofs.Found.{found_possible, found_told}
use Rattle.mu_node.specs.declared.node.Node.{Node}
use Rattle.mu_node.specs.declared.deciding.Decision.{Decision}
use Rattle.mu_node.specs.Deciding.{HasDecided, StandsAfter}
use Rattle.mu_node.specs.Node.{StandsForNode}
use Rattle.mu_node.specs.Reads.{IsNext, IsReadNext}
use Rattle.lone_replica.specs.declared.due.Due.{Due}
use Rattle.lone_replica.specs.declared.replica.Untaken.{Untaken}
use Rattle.lone_replica.specs.declared.replica.Replica.{Replica}
use Rattle.lone_replica.specs.Standing.{HoldsNode, HoldsParts, IsDue, MayTake, StandsForReplica, judged_for}

-- the access under way is allowed
pub allowed_due : (c : Config) (r : ℕ) (own : Own) (s : Shape) (node : Node) (due : Due) → IsDue c r own s node due → Allowed c r own.0 due.decision.plan.verb
allowed_due c r own s node due is =
    subst (λ (k : Config). Allowed k r own.0 due.decision.plan.verb) is.config
    (subst (λ (i : ℕ). Allowed node.follow.config i own.0 due.decision.plan.verb) is.id is.decided.allowed)

-- a row is read only of a known batch
reads_next : (mine : List Event) (node : Node) (d : Decision) → HasDecided mine node d → IsReadNext node.follow.config node.id mine d.plan.verb
reads_next mine node d is = go d.again refl
  where
    go : (t : Bool) → d.again ≡ t → IsReadNext node.follow.config node.id mine d.plan.verb
    go true on = subst (λ (v : Verb). IsReadNext node.follow.config node.id mine v) (sym (is.asks on).verb) tt
    go false off = let by = is.plans off in subst (λ (v : Verb). IsReadNext node.follow.config node.id mine v) (sym by.made) by.reads

reads_due : (c : Config) (r : ℕ) (own : Own) (s : Shape) (node : Node) (due : Due) → IsDue c r own s node due → IsReadNext c r own.0 due.decision.plan.verb
reads_due c r own s node due is =
    subst (λ (k : Config). IsReadNext k r own.0 due.decision.plan.verb) is.config
    (subst (λ (i : ℕ). IsReadNext node.follow.config i own.0 due.decision.plan.verb) is.id (reads_next own.0 node due.decision is.decided))

-- a word of a row
number_of : (a b : ℕ) → Answer.Number a ≡ Answer.Number b → a ≡ b
number_of a b e = cc

row_told : (c : Config) (r : ℕ) (own : Own) (w k word : ℕ) (v : Verb) → v ≡ Verb.ReadRow w k → IsConfig c → Allowed c r own.0 (Verb.ReadRow w k) → IsFound c r own (Verb.ReadRow w k) word → IsNext c r own.0 w → word ≡ config_word c (w % 4096) k
row_told c r own w k word v same good allowed found next =
    let of = next.of in
    let possible = found_possible c r own (Verb.ReadRow w k) word good allowed found in
    let e = event_at c r own (Verb.ReadRow w k) word in
    let verb : e.verb ≡ Verb.ReadRow (of.value + of.row) k = ap (λ (x : ℕ). Verb.ReadRow x k) of.is in
    let told = part_rows_read_right_law c r of.position of.value of.row k own.0 e good possible of.known of.batch of.within allowed.may.1.1.0 verb in
    let inside = batch_within c good (rest_of c (of.value % 4096)) (of.value % 4096) (row_within c of.value of.batch) refl in
    let few = good.few in
    let low = of.within in
    let is = of.is in
    let place : of.value % 4096 + of.row ≡ w % 4096 = omega (arith, inside, few, low, is) in
    number_of word (config_word c (of.value % 4096 + of.row) k) told ∙ ap (λ (j : ℕ). config_word c j k) place

told_by : (c : Config) (r : ℕ) (own : Own) (v : Verb) (word : ℕ) → IsConfig c → Allowed c r own.0 v → IsFound c r own v word → IsReadNext c r own.0 v → may_be_told c v (name_of c r own.0 v) word ≡ true
told_by c r own (Verb.ReadRow w k) word good allowed found next = eq-eqb word (config_word c (w % 4096) k) (row_told c r own w k word (Verb.ReadRow w k) refl good allowed found next)
told_by c r own v word good allowed found next = found_told c r own v word good found refl

pub right_due : (c : Config) (r : ℕ) (own : Own) (s : Shape) (node : Node) (due : Due) (word : ℕ) → IsConfig c → IsDue c r own s node due → IsFound c r own due.decision.plan.verb word
    → may_be_told c due.decision.plan.verb (name_of c r own.0 due.decision.plan.verb) word ≡ true
right_due c r own s node due word good is found = told_by c r own due.decision.plan.verb word good (allowed_due c r own s node due is) found (reads_due c r own s node due is)

pub possible_due : (c : Config) (r : ℕ) (own : Own) (s : Shape) (node : Node) (due : Due) (word : ℕ) → IsConfig c → IsDue c r own s node due → IsFound c r own due.decision.plan.verb word → IsPossible c r (event_at c r own due.decision.plan.verb word ∷ own.0)
possible_due c r own s node due word good is found = found_possible c r own due.decision.plan.verb word good (allowed_due c r own s node due is) found

-- so it is taken
pub right_taken : (c : Config) (r : ℕ) (own : Own) (s : Shape) (node : Node) (o : Option Due) (word : ℕ) → IsConfig c → HoldsNode c r own s node o → MayTake c r own o word → judged_for c r own o word ≡ Ok tt
right_taken c r own s node None word good holds may = absurd may
right_taken c r own s node (Some due) word good holds may = rw (right_due c r own s node due word good holds may) refl

pub err_ok : (why : Untaken) (told : Result (Unit {0}) Untaken) → told ≡ Err why → told ≡ Ok (tt {0}) → ⊥
err_ok why (Ok done) is same = cc
err_ok why (Err other) is same = cc

-- the value once it took a word that it may be told
pub settled : (c : Config) (r : ℕ) (own : Own) (old new : Replica) (due : Due) (word : ℕ) (verb : Verb) (answer : Answer) → HoldsParts c r own old → IsDue c r own old.accesses.shape old.node due → IsFound c r own due.decision.plan.verb word
    → verb ≡ due.decision.plan.verb → answer ≡ answer_from c.ring verb (expected c old.accesses.id own.0 own.1 verb) word → StandsForAccesses c old.accesses.id (own_with c old.accesses.id own verb word) new.accesses → new.accesses.shape ≡ old.accesses.shape
    → StandsAfter own.0 old.node due.decision answer new.node → new.config ≡ old.config → new.id ≡ old.id → new.due ≡ None → new.last ≡ Some (event_by old.id verb answer) → StandsForReplica c r (own_with c r own due.decision.plan.verb word) new
settled c r own old new due word verb answer parts is found same told stands shape lives config id none last = record {
  parts = record {
    good = parts.good;
    config = config ∙ parts.config;
    id = id ∙ parts.id;
    possible = possible;
    accesses = accesses;
    few = subst (λ (z : Shape). z.rows ≤ 1500) (sym shape) parts.few;
    last = last ∙ ((λ i. Some (event_by (parts.id i) (same i) answer)) ∙ ap (λ (e : Event). Some e) event);
  };
  node = subst (λ (o : Option Due). HoldsNode c r (own_with c r own v word) new.accesses.shape new.node o) (sym none) lived;
}
  where
    v : Verb
    v = due.decision.plan.verb

    node : Node
    node = old.node

    answered : answer ≡ answer_from c.ring v (expected c r own.0 own.1 v) word
    answered = told ∙ (λ i. answer_from c.ring (same i) (expected c (parts.accesses.id i) own.0 own.1 (same i)) word)

    event : event_by r v answer ≡ event_at c r own v word
    event = ap (event_by r v) answered

    possible : IsPossible c r (event_at c r own v word ∷ own.0)
    possible = possible_due c r own old.accesses.shape node due word parts.good is found

    accesses : StandsForAccesses c r (own_with c r own v word) new.accesses
    accesses = subst (λ (p : ℕ × Verb). StandsForAccesses c p.0 (own_with c p.0 own p.1 word) new.accesses) (λ i. (parts.accesses.id i, same i)) stands

    possible_there : IsPossible node.follow.config node.id (event_by node.id v answer ∷ own.0)
    possible_there =
        subst (λ (k : Config). IsPossible k node.id (event_by node.id v answer ∷ own.0)) (sym is.config)
        (subst (λ (i : ℕ). IsPossible c i (event_by i v answer ∷ own.0)) (sym is.id)
        (subst (λ (e : Event). IsPossible c r (e ∷ own.0)) (sym event) possible))

    lived : StandsForNode c r (event_at c r own v word ∷ own.0) new.node
    lived =
        subst (λ (e : Event). StandsForNode c r (e ∷ own.0) new.node) event
        (subst (λ (i : ℕ). StandsForNode c i (event_by i v answer ∷ own.0) new.node) is.id
        (subst (λ (k : Config). StandsForNode k node.id (event_by node.id v answer ∷ own.0) new.node) is.config (lives possible_there)))
