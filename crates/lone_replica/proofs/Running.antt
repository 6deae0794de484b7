-- The access under way of one replica, made on words that held what the accesses before left.
use Rattle.std.proofs.Common.{◌≡◌, ◌≢◌, ℕ, Bool, false, cond, List, ◌∷◌, Some, refl, sym, ap, subst, ◌∙◌, eq-eqb, ne_eqb}
use Rattle.std.specs.declared.option.Option.{Option}
use Rattle.mu_model.specs.declared.config.Config.{Config}
use Rattle.mu_model.specs.declared.config.Row.{Row}
use Rattle.mu_model.specs.declared.event.Event.{Event}
use Rattle.mu_model.specs.Allowed.{Allowed}
use Rattle.mu_model.specs.Contents.{IsConfig}
use Rattle.mu_model.specs.Growing.{with_more}
use Rattle.mu_model.specs.Histories.{part}
use Rattle.mu_words.specs.Finding.{name_of}
use Rattle.mu_words.specs.Places.{IsName}
use Rattle.mu_words.proofs.Law.{place_named}
use Rattle.mu_words.proofs.Limits.{config_is_limited}
use Rattle.lone_words.specs.declared.access.Shape.{Shape}
use Rattle.lone_words.specs.declared.access.Spot.{Spot}
use Rattle.lone_words.specs.Coming.{IsDecidedOnce, accesses_of}
use Rattle.lone_words.specs.Memory.{AreAnswered, IsAnsweredOnce, IsFound, Made, Own, events_after, held, own_after, own_with, stores}
use Rattle.lone_words.specs.Spots.{IsShapeOf, layout_of, spot_of}
use Rattle.lone_words.proofs.Coming.{decided_law, held_same}
use Rattle.lone_words.proofs.OneList.{is_layout, one_list_law}
use Rattle.lone_replica.specs.declared.due.Due.{Due}
use Rattle.lone_replica.specs.declared.replica.Replica.{Replica}
use Rattle.lone_replica.specs.Running.{AccessesGoOn, DecidedGoOn, decided_by, made_by}
use Rattle.lone_replica.specs.Standing.{HoldsNode, IsDue, MayTake, StandsForReplica}

-- what the replica decided it may do
allowed_now : (c : Config) (r : ℕ) (own : Own) (s : Shape) (replica : Replica) (due : Due) → IsDue c r own s replica.node due → Allowed c r own.0 due.decision.plan.verb
allowed_now c r own s replica due is =
    subst (λ (k : Config). Allowed k r own.0 due.decision.plan.verb) is.config
    (subst (λ (i : ℕ). Allowed replica.node.follow.config i own.0 due.decision.plan.verb) is.id is.decided.allowed)

own_here : (c : Config) (past : List Made) (r : ℕ) (due : Due) (word : ℕ) → own_after c r (made_by r due word ∷ past) ≡ own_with c r (own_after c r past) due.decision.plan.verb word
own_here c past r due word = ap (λ (b : Bool). cond b (own_with c r (own_after c r past) due.decision.plan.verb word) (own_after c r past)) (eq-eqb r r refl)

own_there : (c : Config) (past : List Made) (r : ℕ) (due : Due) (word q : ℕ) → r ≢ q → own_after c q (made_by r due word ∷ past) ≡ own_after c q past
own_there c past r due word q ne = ap (λ (b : Bool). cond b (own_with c q (own_after c q past) due.decision.plan.verb word) (own_after c q past)) (ne_eqb r q ne)

-- the word that is held at the access, or that stores, is one that r may be told
found_here : (c : Config) (s : Shape) (past : List Made) (r : ℕ) (due : Due) (word : ℕ) → IsConfig c → IsShapeOf c s → AreAnswered c s past → Allowed c r (own_after c r past).0 due.decision.plan.verb → due.access.spot ≡ spot_of s (name_of c r (own_after c r past).0 due.decision.plan.verb)
    → (stores due.decision.plan.verb ≡ false → word ≡ held c s past due.access.spot) → IsFound c r (own_after c r past) due.decision.plan.verb word
found_here c s past r due word good fits answered allowed spot found =
    let one = one_list_law c s past good fits answered in
    let own = own_after c r past in
    let verb = due.decision.plan.verb in
    let hist = events_after c past in
    let may : Allowed c r (part r hist) verb = subst (λ (l : List Event). Allowed c r l verb) (sym (one.parts r)) allowed in
    let named : IsName (layout_of s) (name_of c r own.0 verb) = subst (λ (l : List Event). IsName (layout_of s) (name_of c r l verb)) (one.parts r) (place_named c (layout_of s) hist r verb (config_is_limited c good) (is_layout c s fits) one.legal may) in
    record {
      past = hist;
      legal = one.legal;
      mine = one.parts r;
      seen = one.seen r;
      stands = λ no. found no ∙ (ap (held c s past) spot ∙ one.words (name_of c r own.0 verb) named);
    }

-- the value with an access under way has decided on it
decided_now : (c : Config) (s : Shape) (r : ℕ) (own : Own) (replica : Replica) (due : Due) → StandsForReplica c r own replica → replica.accesses.shape ≡ s → replica.due ≡ Some due → IsDue c r own s replica.node due
decided_now c s r own replica due stands shape under = subst (λ (o : Option Due). HoldsNode c r own s replica.node o) under (subst (λ (z : Shape). HoldsNode c r own z replica.node replica.due) shape stands.node)

pub goes_on_law : AccessesGoOn
goes_on_law c s past r replica due word good fits answered stands shape under found =
    let own = own_after c r past in
    let node = decided_now c s r own replica due stands shape under in
    let allowed = allowed_now c r own s replica due node in
    let once : IsAnsweredOnce c s past (made_by r due word) = record {
      allowed = allowed;
      step = node.access.step;
      found = λ no. found no ∙ ap (λ (p : Spot). held c s past p) node.access.spot;
    } in
    let all : AreAnswered c s (made_by r due word ∷ past) = (answered, once) in
    let one = one_list_law c s (made_by r due word ∷ past) good fits all in
    let right = found_here c s past r due word good fits answered allowed node.access.spot found in
    record {
      may = subst (λ (o : Option Due). MayTake c r own o word) (sym under) right;
      answered = all;
      own = own_here c past r due word;
      others = λ q ne. own_there c past r due word q ne;
      legal = one.legal;
      parts = one.parts;
    }

-- the access that was decided by the rows of k
decided_once : (k : Config) (more : List Row) (s : Shape) (past : List Made) (r : ℕ) (before : Replica) (due : Due) (word : ℕ) → StandsForReplica k r (own_after k r past) before → before.accesses.shape ≡ s → before.due ≡ Some due
    → (stores due.decision.plan.verb ≡ false → word ≡ held (with_more k more) s past due.access.spot) → IsDecidedOnce s past (decided_by k r due word)
decided_once k more s past r before due word stands shape under found =
    let own = own_after k r past in
    let node = decided_now k s r own before due stands shape under in
    record {
      good = stands.parts.good;
      possible = stands.parts.possible;
      answered = record {
        allowed = allowed_now k r own s before due node;
        step = node.access.step;
        found = λ no. found no ∙ (held_same k more s past due.access.spot ∙ ap (λ (p : Spot). held k s past p) node.access.spot);
      };
    }

pub decided_goes_on_law : DecidedGoOn
decided_goes_on_law k more s past r before replica due word fits decided known was was_shape was_under stands shape under found =
    let c = with_more k more in
    record {
      decided = (decided, decided_once k more s (accesses_of past) r before due word was was_shape was_under found);
      goes = goes_on_law c s (accesses_of past) r replica due word stands.parts.good fits (decided_law c s past stands.parts.good known decided) stands shape under found;
    }
