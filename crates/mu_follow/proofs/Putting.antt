-- How a put changes what a replica knows, and what is filled of its own log.
use Rattle.std.proofs.Common.{◌≡◌, ℕ, ◌+◌, ◌<◌, ◌==◌, ◌&&◌, ◌||◌, Bool, true, false, cond, List, [], ◌∷◌, ◌++◌, length, refl, sym, ◌∙◌, ap, arith, Some, None, eqb-true, eq-eqb}
use Rattle.std.specs.Prelude.{not}
use Rattle.std.specs.declared.option.Option.{Option}
use Rattle.std.specs.List.{slice_get}
use Rattle.std.proofs.Math.Bool.{and-false}
use Rattle.std.proofs.lemmas.Bool.{and_parts, ne_eqb, true≢false}
use Rattle.std.proofs.lemmas.List.{length_push}
use Rattle.std.proofs.lemmas.Option.{slice_get_past}
use Rattle.mu_model.specs.declared.config.Config.{Config}
use Rattle.mu_model.specs.declared.event.Answer.{Answer}
use Rattle.mu_model.specs.declared.event.Event.{Event}
use Rattle.mu_model.specs.declared.event.Verb.{Verb}
use Rattle.mu_model.specs.Histories.{all_below, has, event_by}
use Rattle.mu_model.specs.Knowledge.{applied, committed, fetched_prefix, grown, is_accepted_by_all, is_number, is_value, known, learnt_by, lands_entry}
use Rattle.mu_model.specs.Leaderships.{has_quorum, is_member, is_over, leadership, proposal_number}
use Rattle.mu_model.proofs.Basics.{none_some, or_true, same_some}
use Rattle.mu_model.proofs.Scans.{all_at}
use Rattle.mu_knowledge.specs.FilledLog.{filled_spot}
use Rattle.mu_knowledge.specs.HeldRows.{StandsForHeldRows}
use Rattle.mu_knowledge.specs.declared.held_rows.HeldRows.{HeldRows}
use Rattle.mu_knowledge.specs.KnownLog.{HoldsValues, StandsForKnownLog}
use Rattle.mu_knowledge.specs.declared.known_log.KnownLog.{KnownLog}
use Rattle.mu_follow.specs.Kinds.{is_put, kind_of, put_spot}

-- the value of what is committed, if something is
abbrev pub value_of : Option (ℕ × ℕ) → Option ℕ
value_of None = None
value_of (Some entry) = Some entry.1

-- a put teaches what it commits
pub put_teaches : (c : Config) (r by n : ℕ) (verb : Verb) (answer : Answer) (mine now : List Event) → is_put (kind_of verb) ≡ true → learnt_by c r mine n by verb answer now ≡ value_of (committed c r n by verb answer now)
put_teaches c r by n (Verb.PutSlot p i b v) Answer.Done mine now put = go ((by == r) && ((i == n) && is_accepted_by_all c r now i b v))
  where
    go : (t : Bool) → cond t (Some v) None ≡ value_of (cond t (Some (i, v)) None)
    go true = refl
    go false = refl
put_teaches c r by n (Verb.PutSlot p i b v) answer mine now put = refl
put_teaches c r by n verb answer mine now put = absurd (true≢false (sym put))

-- only puts commit
pub commits_by_put : (c : Config) (r by n : ℕ) (verb : Verb) (answer : Answer) (now : List Event) (entry : ℕ × ℕ) → committed c r n by verb answer now ≡ Some entry → is_put (kind_of verb) ≡ true
commits_by_put c r by n (Verb.PutSlot p i b v) answer now entry is = refl
commits_by_put c r by n verb answer now entry is = absurd (none_some entry is)

-- a put that commits nothing leaves what is known
pub put_known : (c : Config) (r by : ℕ) (verb : Verb) (answer : Answer) (mine : List Event) → is_put (kind_of verb) ≡ true → committed c r (length (known c r mine)) by verb answer (event_by by verb answer ∷ mine) ≡ None
    → known c r (event_by by verb answer ∷ mine) ≡ known c r mine
put_known c r by verb answer mine put none = ap (grown (known c r mine)) (put_teaches c r by (length (known c r mine)) verb answer mine (event_by by verb answer ∷ mine) put ∙ ap value_of none)

-- the other facts about what is known stay
pub put_knowing : (c : Config) (r by : ℕ) (verb : Verb) (answer : Answer) (mine : List Event) (state : KnownLog) → is_put (kind_of verb) ≡ true → HoldsValues c (known c r (event_by by verb answer ∷ mine)) state
    → (old : KnownLog) → state.fuos ≡ old.fuos → state.seen ≡ old.seen → StandsForKnownLog c r mine old → StandsForKnownLog c r (event_by by verb answer ∷ mine) state
put_knowing c r by (Verb.PutSlot p i b v) answer mine state put values old fuos seen held = record {
  values = values;
  fuos = rw fuos held.fuos;
  positions = rw seen held.positions;
  seen = rw seen held.seen;
}
put_knowing c r by verb answer mine state put values old fuos seen held = absurd (true≢false (sym put))

-- and the rows
pub put_rows : (c : Config) (r by : ℕ) (verb : Verb) (answer : Answer) (mine : List Event) (state : HeldRows) → is_put (kind_of verb) ≡ true → known c r (event_by by verb answer ∷ mine) ≡ known c r mine → StandsForHeldRows c r mine state
    → StandsForHeldRows c r (event_by by verb answer ∷ mine) state
put_rows c r by (Verb.PutSlot p i b v) answer mine state put same held = record {
  written = held.written;
  got = held.got;
  applied = held.applied ∙ ap (λ values. length (fetched_prefix c r mine values)) (sym same);
}
put_rows c r by verb answer mine state put same held = absurd (true≢false (sym put))

pub put_applied : (c : Config) (r by : ℕ) (verb : Verb) (answer : Answer) (mine : List Event) → is_put (kind_of verb) ≡ true → known c r (event_by by verb answer ∷ mine) ≡ known c r mine → applied c r (event_by by verb answer ∷ mine) ≡ applied c r mine
put_applied c r by (Verb.PutSlot p i b v) answer mine put same = ap (fetched_prefix c r mine) same
put_applied c r by verb answer mine put same = absurd (true≢false (sym put))

-- no list ends at a position and one after it
not_both : (n j : ℕ) (t : Bool) → ((n == j) && ((n == j + 1) && t)) ≡ false
not_both n j t = go (n == j) refl
  where
    go : (s : Bool) → (n == j) ≡ s → (s && ((n == j + 1) && t)) ≡ false
    go true is = let same = eqb-true n j is in rw (ne_eqb n (j + 1) (λ e. omega (arith, same, e))) refl
    go false is = refl

-- a put that commits nothing fills the own log if it is of a known value
pub spot_put : (c : Config) (r by : ℕ) (verb : Verb) (answer : Answer) (mine : List Event) → by ≡ r → is_put (kind_of verb) ≡ true → known c r (event_by by verb answer ∷ mine) ≡ known c r mine
    → put_spot r (known c r mine) verb answer ≡ filled_spot c r r mine by verb answer (event_by by verb answer ∷ mine)
spot_put c r by (Verb.PutSlot q i b v) Answer.Done mine own put same =
    let now : List Event = event_by by (Verb.PutSlot q i b v) Answer.Done ∷ mine in
    let landed : Bool = has (lands_entry r r i b v) (leadership r now) in
    let long = ap length same in
    let second : ((length (known c r mine) == i) && ((length (known c r now) == i + 1) && landed)) ≡ false =
    ap (λ n. (length (known c r mine) == i) && ((n == i + 1) && landed)) long ∙ not_both (length (known c r mine)) i landed in
    go ((q == r) && is_value (slice_get (known c r mine) i) v) (by == r) (eq-eqb by r own) ((length (known c r mine) == i) && ((length (known c r now) == i + 1) && landed)) second
  where
    go : (a o : Bool) → o ≡ true → (s : Bool) → s ≡ false → cond a (Some i) None ≡ cond (o && (a || s)) (Some i) None
    go true true is s none = refl
    go false true is s none = rw none refl
    go a false is s none = absurd (true≢false (sym is))
spot_put c r by (Verb.PutSlot q i b v) answer mine own put same = refl
spot_put c r by verb answer mine own put same = absurd (true≢false (sym put))

-- what a put commits: the value is learnt, at the next position, and there the own log is filled
pub record IsCommitted (c : Config) (r by : ℕ) (verb : Verb) (answer : Answer) (mine : List Event) (position value : ℕ) : Type 0 where
  pub learnt : known c r (event_by by verb answer ∷ mine) ≡ known c r mine ++ value ∷ []
  pub next : position ≡ length (known c r mine)
  pub spot : filled_spot c r r mine by verb answer (event_by by verb answer ∷ mine) ≡ Some position
  pub unknown : put_spot r (known c r mine) verb answer ≡ None

-- an accepted entry landed in the own region
pub own_landed : (c : Config) (r i b v : ℕ) (now : List Event) → r < c.replicas → is_accepted_by_all c r now i b v ≡ true → has (lands_entry r r i b v) (leadership r now) ≡ true
own_landed c r i b v now inside is =
    let taken : ℕ → Bool = λ p. not (is_member r p now) || has (lands_entry r p i b v) (leadership r now) in
    let first = and_parts (not (is_over r now)) (is_number (proposal_number r now) b && (has_quorum c r now && all_below c.replicas taken)) is in
    let second = and_parts (is_number (proposal_number r now) b) (has_quorum c r now && all_below c.replicas taken) first.1 in
    let third = and_parts (has_quorum c r now) (all_below c.replicas taken) second.1 in
    let member = and_parts (is_member r r now) _ third.0 in
    go (is_member r r now) member.0 (all_at c.replicas taken third.1 r inside)
  where
    go : (t : Bool) → t ≡ true → (not t || has (lands_entry r r i b v) (leadership r now)) ≡ true → has (lands_entry r r i b v) (leadership r now) ≡ true
    go true is landed = landed
    go false is landed = absurd (true≢false (sym is))

-- the first test passes, and of two others the last
passes : (o a s : Bool) → o ≡ true → s ≡ true → (o && (a || s)) ≡ true
passes true a s first last = or_true a s last
passes false a s first last = absurd (true≢false (sym first))

pub is_committed : (c : Config) (r by : ℕ) (verb : Verb) (answer : Answer) (mine : List Event) (position value : ℕ) → r < c.replicas
    → committed c r (length (known c r mine)) by verb answer (event_by by verb answer ∷ mine) ≡ Some (position, value) → IsCommitted c r by verb answer mine position value
is_committed c r by (Verb.PutSlot q i b v) Answer.Done mine position value inside is = go ((by == r) && ((i == n) && is_accepted_by_all c r now i b v)) refl is
  where
    n : ℕ
    n = length (known c r mine)

    now : List Event
    now = event_by by (Verb.PutSlot q i b v) Answer.Done ∷ mine

    go : (t : Bool) → ((by == r) && ((i == n) && is_accepted_by_all c r now i b v)) ≡ t → cond {A = Option (ℕ × ℕ)} t (Some (i, v)) None ≡ Some (position, value) → IsCommitted c r by (Verb.PutSlot q i b v) Answer.Done mine position value
    go false none some = absurd (none_some (position, value) some)
    go true all some =
        let own = and_parts (by == r) ((i == n) && is_accepted_by_all c r now i b v) all in
        let at = and_parts (i == n) (is_accepted_by_all c r now i b v) own.1 in
        let here : i ≡ n = eqb-true i n at.0 in
        let first : ℕ × ℕ = (i, v) in
        let last : ℕ × ℕ = (position, value) in
        let pair : first ≡ last = same_some first last some in
        let same_position : i ≡ position = ap (λ z. z.0) pair in
        let same_value : v ≡ value = ap (λ z. z.1) pair in
        let learnt : known c r now ≡ known c r mine ++ v ∷ [] = ap (λ t. grown (known c r mine) (cond t (Some v) None)) all in
        let long : length (known c r now) ≡ i + 1 = ap length learnt ∙ (length_push (known c r mine) v ∙ ap (λ m. m + 1) (sym here)) in
        let landed = own_landed c r i b v now inside at.1 in
        let past : slice_get (known c r mine) i ≡ None = slice_get_past (known c r mine) i (omega (arith, here)) in
        let spread : ((n == i) && ((length (known c r now) == i + 1) && has (lands_entry r r i b v) (leadership r now))) ≡ true =
        rw (eq-eqb n i (sym here), eq-eqb (length (known c r now)) (i + 1) long, landed) refl in
        record {
          learnt = learnt ∙ ap (λ w. known c r mine ++ w ∷ []) same_value;
          next = sym same_position ∙ here;
          spot = ap (λ t. cond t (Some i) None) (passes (by == r) ((q == r) && is_value (slice_get (known c r mine) i) v) ((n == i) && ((length (known c r now) == i + 1) && has (lands_entry r r i b v) (leadership r now))) own.0 spread) ∙ ap Some same_position;
          unknown = ap (λ t. cond t (Some i) None) (ap (λ o. (q == r) && is_value o v) past ∙ and-false (q == r));
        }
is_committed c r by verb answer mine position value inside is = absurd (none_some (position, value) is)
