-- A leader with the other parts of its node: what keeps what it stands for, and what the node
-- makes.
use Rattle.std.proofs.Common.{◌≡◌, ◌∙◌, ◌==◌, ◌++◌, ◌+◌, ◌&&◌, ◌*◌, ◌-◌, ◌≢◌, ℕ, ◌<◌, eqb-true, Bool, true, false, List, [], ◌∷◌, ap, arith, length, refl, subst, sym, Some, None}
use Rattle.std.specs.Prelude.{IfSome, if◌then◌else◌, is_some, nat_lt}
use Rattle.std.proofs.Math.Bool.{and-false}
use Rattle.std.specs.declared.option.Option.{Option}
use Rattle.std.proofs.lemmas.Bool.{eqb-false, le-ltb, ltb-false, ltb-true, true≢false}
use Rattle.std.proofs.lemmas.List.{length_push}
use Rattle.mu_model.specs.declared.config.Config.{Config}
use Rattle.mu_model.specs.declared.event.Answer.{Answer}
use Rattle.mu_model.specs.declared.event.Event.{Event}
use Rattle.mu_model.specs.declared.event.Verb.{Verb}
use Rattle.mu_model.specs.Allowed.{Allowed, Needs}
use Rattle.mu_model.specs.Contents.{IsConfig, holds_all}
use Rattle.mu_model.specs.Knowledge.{grown, known}
use Rattle.mu_model.specs.Parts.{IsPossible}
use Rattle.mu_model.specs.Scores.{leader}
use Rattle.mu_model.proofs.Basics.{none_some}
use Rattle.mu_model.specs.Histories.{event_by}
use Rattle.mu_grant.specs.declared.grants.Grants.{Grants}
use Rattle.mu_grant.specs.Stands.{Gives, StandsFor as HostStandsFor, is_of_place}
use Rattle.mu_agree.proofs.Within.{known_few}
use Rattle.mu_follow.specs.declared.follow.Follow.{Follow}
use Rattle.mu_follow.specs.Due.{IsReplay, is_replay}
use Rattle.mu_follow.specs.Follow.{AwaitsEntry, HoldsFollow, StandsForFollow, commit_of}
use Rattle.mu_follow.proofs.Putting.{is_committed, put_known}
use Rattle.mu_knowledge.specs.declared.known_log.KnownLog.{KnownLog}
use Rattle.mu_knowledge.specs.KnownLog.{HoldsValues}
use Rattle.mu_lead.specs.Ahead.{ahead_event, ahead_verb}
use Rattle.mu_lead.specs.declared.lead.Lead.{Lead}
use Rattle.mu_lead.specs.Beside.{is_beside, leads_at, writes_row}
use Rattle.mu_lead.specs.declared.note.Note.{Note}
use Rattle.mu_lead.specs.Notes.{value_committed}
use Rattle.mu_lead.specs.Saying.{Says, SaysNext}
use Rattle.mu_lead.specs.Standing.{HasHeeded, StandsFor, TakesNext, TellsNext, known_told, verb_of}
use Rattle.mu_lead.proofs.Noted.{same_number_note}
use Rattle.mu_lead.proofs.Others.{others_kept}
use Rattle.mu_lead.specs.Lasting.{tables_of}
use Rattle.mu_lead.specs.Noting.{NotedNext, or_idle}
use Rattle.mu_node.specs.Notes.{SaysTook, TellsTook, note_at, heed_note}
use Rattle.mu_node.specs.declared.node.Node.{Node}
use Rattle.mu_node.specs.declared.watch.Watch.{Watch}
use Rattle.mu_node.specs.Watch.{StandsForWatch}
use Rattle.mu_node.specs.Cycle.{other_at, read_at}
use Rattle.mu_node.specs.Due.{FitsLead, MayBeside, WritesAhead, lead_due, verb_or_beat}
use Rattle.mu_node.specs.Node.{AwaitsBeside, HoldsBeside, HoldsWith, StandsForLead}

-- if the event commits nothing, the leader is told all that is known after it
told_none : (c : Config) (r : ℕ) (mine : List Event) (verb : Verb) (answer : Answer) → commit_of c r mine (event_by r verb answer) ≡ None → known c r (event_by r verb answer ∷ mine) ≡ known_told c r mine r verb answer
told_none c r mine (Verb.PutSlot p i b v) answer none = put_known c r r (Verb.PutSlot p i b v) answer mine refl none
told_none c r mine verb answer none = refl

-- if it commits an entry, what was known before it
told_some : (c : Config) (r : ℕ) (mine : List Event) (verb : Verb) (answer : Answer) (entry : ℕ × ℕ) → commit_of c r mine (event_by r verb answer) ≡ Some entry → known c r mine ≡ known_told c r mine r verb answer
told_some c r mine (Verb.PutSlot p i b v) answer entry some = refl
told_some c r mine verb answer entry some = absurd (none_some entry some)

-- a verb that is not of the leader commits nothing
pub beside_commits_none : (c : Config) (r : ℕ) (mine : List Event) (leading : Bool) (verb : Verb) (answer : Answer) → is_beside leading verb ≡ true → commit_of c r mine (event_by r verb answer) ≡ None
beside_commits_none c r mine leading (Verb.PutSlot p i b v) answer is = absurd (true≢false (sym is))
beside_commits_none c r mine leading verb answer is = refl

-- a list that grew by nothing has no value more
grown_by_none : (values : List ℕ) (o : Option ℕ) → values ≡ grown values o → o ≡ None
grown_by_none values None is = refl
grown_by_none values (Some v) is = let long = ap length is in let more = length_push values v in absurd (omega (arith, long, more))

-- a list that grew by a value has this one
grown_by_some : (values : List ℕ) (v : ℕ) (o : Option ℕ) → values ++ v ∷ [] ≡ grown values o → o ≡ Some v
grown_by_some values v None is = let long = ap length is in let more = length_push values v in absurd (omega (arith, long, more))
grown_by_some values v (Some w) is = ap Some (last_same values v w is)
  where
    last_same : (xs : List ℕ) (v w : ℕ) → xs ++ v ∷ [] ≡ xs ++ w ∷ [] → w ≡ v
    last_same [] v w is = cc
    last_same (x ∷ xs) v w is = last_same xs v w (tail_same x (xs ++ v ∷ []) (xs ++ w ∷ []) is)
      where
        tail_same : (x : ℕ) (xs ys : List ℕ) → x ∷ xs ≡ x ∷ ys → xs ≡ ys
        tail_same x xs ys is = cc

-- a verb of the host is not of the leader
pub host_beside : (leading : Bool) (place : ℕ) (verb : Verb) → is_of_place place verb ≡ true → is_beside leading verb ≡ true
host_beside leading place Verb.Close is = refl
host_beside leading place Verb.LookTarget is = refl
host_beside leading place Verb.Drain is = refl
host_beside leading place (Verb.Grant w) is = refl
host_beside leading place verb is = absurd (true≢false (sym is))

-- nor is one of the replayer
pub replay_beside : (leading : Bool) (verb : Verb) → is_replay leading verb ≡ true → is_beside leading verb ≡ true
replay_beside leading (Verb.Fuo p) is = is
replay_beside leading (Verb.Look p i) is = is
replay_beside leading (Verb.ReadRow v k) is = refl
replay_beside leading (Verb.RaiseFuo p u) is = refl
replay_beside leading (Verb.RaiseHead h) is = refl
replay_beside leading (Verb.Head q) is = refl
replay_beside leading verb is = absurd (true≢false (sym is))

-- such an event keeps what the leader stands for
pub lead_stays : (c : Config) (r : ℕ) (mine : List Event) (lead : Lead) (verb : Verb) (answer : Answer) → writes_row verb ≡ false → is_beside (leads_at lead.place) verb ≡ true → IsPossible c r (event_by r verb answer ∷ mine) → StandsForLead c r mine lead
    → StandsForLead c r (event_by r verb answer ∷ mine) lead
lead_stays c r mine lead verb answer none beside possible held =
    let a = subst (λ k. IsPossible k r (event_by r verb answer ∷ mine)) (sym held.config) possible in
    let b = subst (λ i. IsPossible lead.config i (event_by i verb answer ∷ mine)) (sym held.id) a in
    record {
      config = held.config;
      id = held.id;
      stands = subst (λ i. StandsFor (event_by i verb answer ∷ mine) lead) held.id (others_kept mine lead verb answer none beside b held.stands);
    }

asks : (t : Bool) (due : Option Verb) (verb : Verb) → (if t then due else None) ≡ Some verb → due ≡ Some verb
asks true due verb is = is
asks false due verb is = absurd (none_some verb is)

-- the verb was due by the leader's own configuration and id, and was answered so
record IsOwnStep (mine : List Event) (old : Lead) (verb : Verb) (answer : Answer) (values : List ℕ) : Type 0 where
  due : verb_of old (known old.config old.id mine) ≡ Some verb
  possible : IsPossible old.config old.id (event_by old.id verb answer ∷ mine)
  told : values ≡ known_told old.config old.id mine old.id verb answer

-- what holds of a configuration and a replica holds of the leader's
to_lead : (F : Config → ℕ → Type 0) (c : Config) (r : ℕ) (lead : Lead) → lead.config ≡ c → lead.id ≡ r → F c r → F lead.config lead.id
to_lead F c r lead same_c same_r it = subst (F lead.config) (sym same_r) (subst (λ k. F k r) (sym same_c) it)

own_step : (c : Config) (r : ℕ) (mine : List Event) (old : Lead) (verb : Verb) (answer : Answer) (values : List ℕ) → StandsForLead c r mine old → lead_due c r mine old ≡ Some verb → IsPossible c r (event_by r verb answer ∷ mine)
    → values ≡ known_told c r mine r verb answer → IsOwnStep mine old verb answer values
own_step c r mine old verb answer values held due possible told =
    let config = held.config in
    let id = held.id in
    record {
      due = to_lead (λ k i. verb_of old (known k i mine) ≡ Some verb) c r old config id (asks (leader c r mine == r) (verb_of old (known c r mine)) verb due);
      possible = to_lead (λ k i. IsPossible k i (event_by i verb answer ∷ mine)) c r old config id possible;
      told = to_lead (λ k i. values ≡ known_told k i mine i verb answer) c r old config id told;
    }

-- the answer of its own verb does
pub lead_takes : (c : Config) (r : ℕ) (mine : List Event) (old new : Lead) (verb : Verb) (answer : Answer) (values : List ℕ) → StandsForLead c r mine old → new.config ≡ old.config → new.id ≡ old.id → TakesNext mine old values answer new
    → lead_due c r mine old ≡ Some verb → IsPossible c r (event_by r verb answer ∷ mine) → values ≡ known_told c r mine r verb answer → StandsForLead c r (event_by r verb answer ∷ mine) new
lead_takes c r mine old new verb answer values held same_config same_id takes due possible told =
    let own = own_step c r mine old verb answer values held due possible told in
    record {
      config = same_config ∙ held.config;
      id = same_id ∙ held.id;
      stands = subst (λ i. StandsFor (event_by i verb answer ∷ mine) new) held.id (takes verb own.due own.possible own.told);
    }

-- what is due is allowed, and so is a beat
pub made_allowed : (c : Config) (r : ℕ) (mine : List Event) (due : Option Verb) → length mine < c.budget → r < c.replicas → IfSome due (λ verb. Allowed c r mine verb) → Allowed c r mine (verb_or_beat due)
made_allowed c r mine None short inside may = record { budget = short; replica = inside; may = tt }
made_allowed c r mine (Some verb) short inside may = may

pub allowed_of : (c : Config) (r : ℕ) (mine : List Event) (due : Option Verb) → IfSome due (λ verb. Allowed c r mine verb × IsReplay false verb) → IfSome due (λ verb. Allowed c r mine verb)
allowed_of c r mine None may = tt
allowed_of c r mine (Some verb) may = may.0

-- the allowed verb of the leader is one of r
pub lead_allowed : (c : Config) (r : ℕ) (mine : List Event) (lead : Lead) (due : Option Verb) → lead.config ≡ c → lead.id ≡ r → IfSome due (λ verb. Allowed lead.config lead.id mine verb) → IfSome due (λ verb. Allowed c r mine verb)
lead_allowed c r mine lead due same_config same_id may =
    let a = subst (λ k. IfSome due (λ verb. Allowed k lead.id mine verb)) same_config may in
    subst (λ i. IfSome due (λ verb. Allowed c i mine verb)) same_id a

-- what the host has due may be made beside the leader
pub host_may : (c : Config) (r : ℕ) (mine : List Event) (lead : Lead) (place : ℕ) (due : Option Verb) → Gives c r mine place due → IfSome due (λ verb. MayBeside c r mine lead verb)
host_may c r mine lead place None gives = tt
host_may c r mine lead place (Some verb) gives = let g = gives.given verb refl in record { allowed = g.1; beside = host_beside (leads_at lead.place) place verb g.0 }

-- and a beat, a read of another's beat or a read of asks
pub read_may : (c : Config) (r : ℕ) (mine : List Event) (lead : Lead) (place : ℕ) (verb : Verb) → length mine < c.budget → r < c.replicas → place < 2 * c.replicas → verb ≡ read_at c.replicas r place → MayBeside c r mine lead verb
read_may c r mine lead place verb short inside low is = subst (λ v. MayBeside c r mine lead v) (sym is) (go (place == 0) refl (nat_lt place c.replicas) refl)
  where
    may : (v : Verb) → Needs c r mine v → is_beside (leads_at lead.place) v ≡ true → MayBeside c r mine lead v
    may v needs beside = record { allowed = record { budget = short; replica = inside; may = needs }; beside = beside }

    other : (t : Bool) → nat_lt r place ≡ t → place < c.replicas → (place == 0) ≡ false → ((if t then place else place - 1) < c.replicas) × ((if t then place else place - 1) ≢ r)
    other true above few first = let up = ltb-true r place above in (few, λ e. omega (arith, up, e))
    other false above few first = let down = ltb-false r place above in let some = eqb-false place 0 first in (omega (arith, few), λ e. absurd (some (omega (arith, down, e))))

    go : (s : Bool) → (place == 0) ≡ s → (t : Bool) → nat_lt place c.replicas ≡ t → MayBeside c r mine lead (if s then Verb.Beat else if t then Verb.ReadBeat (other_at r place) else Verb.ReadAsk (place - c.replicas))
    go true first t few = may Verb.Beat tt refl
    go false first true few = let one = other (nat_lt r place) refl (ltb-true place c.replicas few) first in may (Verb.ReadBeat (other_at r place)) (one.0, (one.1, tt)) refl
    go false first false few = let high = ltb-false place c.replicas few in may (Verb.ReadAsk (place - c.replicas)) (omega (arith, low, high), tt) refl

-- and what the replayer has due
pub replay_may : (c : Config) (r : ℕ) (mine : List Event) (lead : Lead) (leading : Bool) (due : Option Verb) → leading ≡ leads_at lead.place → IfSome due (λ verb. Allowed c r mine verb × IsReplay leading verb) → IfSome due (λ verb. MayBeside c r mine lead verb)
replay_may c r mine lead leading None same may = tt
replay_may c r mine lead leading (Some verb) same may = record { allowed = may.0; beside = subst (λ t. is_beside t verb ≡ true) same (replay_beside leading verb may.1) }

-- nor does a word that is written ahead
pub lead_ahead : (c : Config) (r j : ℕ) (mine : List Event) (lead next : Lead) (answer : Answer) → next.config ≡ lead.config → next.id ≡ lead.id → IsPossible c r (event_by r (ahead_verb lead j) answer ∷ mine) → StandsForLead c r mine lead
    → (IsPossible lead.config lead.id (ahead_event lead j answer ∷ mine) → StandsFor (ahead_event lead j answer ∷ mine) next) → StandsForLead c r (event_by r (ahead_verb lead j) answer ∷ mine) next
lead_ahead c r j mine lead next answer same_c same_r possible held stands =
    let a = subst (λ k. IsPossible k r (event_by r (ahead_verb lead j) answer ∷ mine)) (sym held.config) possible in
    let b = subst (λ i. IsPossible lead.config i (event_by i (ahead_verb lead j) answer ∷ mine)) (sym held.id) a in
    record { config = same_c ∙ held.config; id = same_r ∙ held.id; stands = subst (λ i. StandsFor (event_by i (ahead_verb lead j) answer ∷ mine) next) held.id (stands b) }

-- in a turn of the leader its verb is due
pub fits_led : (c : Config) (r : ℕ) (mine : List Event) (lead : Lead) (leads : Bool) (due : Option Verb) (verb : Verb) → FitsLead c r mine lead leads due → leads ≡ true → due ≡ Some verb → HasHeeded mine lead × (lead_due c r mine lead ≡ Some verb)
fits_led c r mine lead true due verb fits is some = (fits.0, sym fits.1 ∙ some)
fits_led c r mine lead false due verb fits is some = absurd (true≢false (sym is))

-- what is due is what is made, if something is
pub due_kept : (due : Option Verb) (verb : Verb) (is : Bool) → verb ≡ verb_or_beat due → is ≡ is_some due → (if is then Some verb else None) ≡ due
due_kept None verb is made some = rw some refl
due_kept (Some due) verb is made some = rw (some, made) refl

-- what is made is what is due, if something is
pub some_made : (due : Option Verb) (verb : Verb) → is_some due ≡ true → verb ≡ verb_or_beat due → due ≡ Some verb
some_made None verb some made = absurd (true≢false (sym some))
some_made (Some due) verb some made = ap (λ v. Some v) (sym made)

-- in another turn the verb is not of the listing
abbrev pub IsOther : Config → ℕ → List Event → Lead → Verb → Type 0
IsOther c r mine lead verb = (is_beside (leads_at lead.place) verb ≡ true) × WritesAhead lead verb

pub fits_other : (c : Config) (r : ℕ) (mine : List Event) (lead : Lead) (leads : Bool) (due : Option Verb) (verb : Verb) → FitsLead c r mine lead leads due → leads ≡ false → verb ≡ verb_or_beat due → IsOther c r mine lead verb
fits_other c r mine lead true due verb fits is made = absurd (true≢false is)
fits_other c r mine lead false due verb fits is made = subst (λ v. IsOther c r mine lead v) (sym made) fits

-- the value that the leader tells its put made known is the one that r learns
pub lead_tells : (c : Config) (r : ℕ) (mine : List Event) (old : Lead) (verb : Verb) (answer : Answer) (values : List ℕ) (note : Note) → StandsForLead c r mine old → TellsNext mine old values answer note
    → lead_due c r mine old ≡ Some verb → IsPossible c r (event_by r verb answer ∷ mine) → values ≡ known_told c r mine r verb answer → known c r (event_by r verb answer ∷ mine) ≡ grown values (value_committed note)
lead_tells c r mine old verb answer values note held tells due possible told =
    let own = own_step c r mine old verb answer values held due possible told in
    subst (λ k. known k r (event_by r verb answer ∷ mine) ≡ grown values (value_committed note)) held.config
    (subst (λ i. known old.config i (event_by i verb answer ∷ mine) ≡ grown values (value_committed note)) held.id (tells verb own.due own.possible own.told))

-- and what its contract says of the note is
pub lead_says : (c : Config) (r : ℕ) (mine : List Event) (old : Lead) (verb : Verb) (answer : Answer) (values : List ℕ) (note : Note) → StandsForLead c r mine old → SaysNext mine old values answer note
    → lead_due c r mine old ≡ Some verb → IsPossible c r (event_by r verb answer ∷ mine) → values ≡ known_told c r mine r verb answer → Says c r mine old.up old.place verb answer note
lead_says c r mine old verb answer values note held says due possible told =
    let own = own_step c r mine old verb answer values held due possible told in
    subst (λ k. Says k r mine old.up old.place verb answer note) held.config
    (subst (λ i. Says old.config i mine old.up old.place verb answer note) held.id (says verb own.due own.possible own.told))

-- so is which note the place gives
pub lead_noted : (c : Config) (r : ℕ) (mine : List Event) (old : Lead) (verb : Verb) (answer : Answer) (values : List ℕ) (note : Note) → StandsForLead c r mine old → NotedNext mine old values answer note
    → lead_due c r mine old ≡ Some verb → IsPossible c r (event_by r verb answer ∷ mine) → values ≡ known_told c r mine r verb answer → note ≡ note_at c r mine (tables_of old) old.place verb answer
lead_noted c r mine old verb answer values note held noted due possible told =
    let own = own_step c r mine old verb answer values held due possible told in
    let now = event_by old.id verb answer ∷ mine in
    subst (λ k. note ≡ note_at k r mine (tables_of old) old.place verb answer) held.config
    (subst (λ i. note ≡ note_at old.config i mine (tables_of old) old.place verb answer) held.id
    (noted verb own.due own.possible own.told ∙ ap (or_idle (holds_all old.config (known old.config old.id now))) (same_number_note old.config old.id old.number mine now old.up old.reach old.written.items (tables_of old) answer old.place held.stands.at)))

-- the node with other parts beside the leader
pub parts_take : (F G : Follow → Type 0) (c : Config) (r : ℕ) (mine now : List Event) (node : Node) (grants : Grants) (watch : Watch) (follow : Follow) → HoldsWith F c r mine node → HostStandsFor c.replicas r now grants → StandsForWatch c r now watch → G follow
    → HoldsWith G c r now (record node { grants = grants; watch = watch; follow = follow })
parts_take F G c r mine now node grants watch follow held hosts watches follows = record {
  id = held.id;
  replicas = held.replicas;
  budget = held.budget;
  grants = hosts;
  watch = watches;
  follow = follows;
  no_log = held.no_log;
  log_room = held.log_room;
  no_commits = held.no_commits;
  commit_room = held.commit_room;
}

-- the node with another leader
abbrev pub with_lead : Node → Lead → Node
with_lead node lead = record {
  id = node.id;
  replicas = node.replicas;
  zeal = node.zeal;
  budget = node.budget;
  stops = node.stops;
  grants = node.grants;
  watch = node.watch;
  lead = lead;
  follow = node.follow;
  log = node.log;
  commits = node.commits;
  answers = node.answers;
}

-- holds what it held beside it
pub beside_lead : (Follows : Follow → Type 0) (c : Config) (r : ℕ) (mine : List Event) (node : Node) (lead : Lead) → HoldsWith Follows c r mine node → HoldsWith Follows c r mine (with_lead node lead)
beside_lead Follows c r mine node lead held = record {
  id = held.id;
  replicas = held.replicas;
  budget = held.budget;
  grants = held.grants;
  watch = held.watch;
  follow = held.follow;
  no_log = held.no_log;
  log_room = held.log_room;
  no_commits = held.no_commits;
  commit_room = held.commit_room;
}

-- what the leader was told is what its contract asks for
pub led_told : (c : Config) (r : ℕ) (mine : List Event) (verb : Verb) (answer : Answer) (noted : Node) (values : List ℕ)
    → (commit_of c r mine (event_by r verb answer) ≡ None → HoldsBeside c r (event_by r verb answer ∷ mine) noted)
    → ((entry : ℕ × ℕ) → commit_of c r mine (event_by r verb answer) ≡ Some entry → AwaitsBeside c r mine (event_by r verb answer) noted)
    → ((l : List Event) (n : ℕ) → HoldsFollow c r l n noted.follow → values ≡ known c r l)
    → values ≡ known_told c r mine r verb answer
led_told c r mine verb answer noted values stands awaits reads = go (commit_of c r mine (event_by r verb answer)) refl
  where
    now : List Event
    now = event_by r verb answer ∷ mine

    go : (o : Option (ℕ × ℕ)) → commit_of c r mine (event_by r verb answer) ≡ o → values ≡ known_told c r mine r verb answer
    go None none = reads now (length now) (stands none).follow ∙ told_none c r mine verb answer none
    go (Some entry) some = reads mine (length mine + 1) (awaits entry some).follow ∙ told_some c r mine verb answer entry some

-- the log that the leader was told of holds what it was told
pub led_log : (c : Config) (r : ℕ) (mine : List Event) (verb : Verb) (answer : Answer) (noted : Node) (values : List ℕ) (log : KnownLog)
    → (commit_of c r mine (event_by r verb answer) ≡ None → HoldsBeside c r (event_by r verb answer ∷ mine) noted)
    → ((entry : ℕ × ℕ) → commit_of c r mine (event_by r verb answer) ≡ Some entry → AwaitsBeside c r mine (event_by r verb answer) noted)
    → ((l : List Event) (n : ℕ) → HoldsFollow c r l n noted.follow → values ≡ known c r l)
    → ((l : List Event) (n : ℕ) → HoldsFollow c r l n noted.follow → HoldsValues c (known c r l) log)
    → HoldsValues c values log
led_log c r mine verb answer noted values log stands awaits reads holding = go (commit_of c r mine (event_by r verb answer)) refl
  where
    now : List Event
    now = event_by r verb answer ∷ mine

    here : (l : List Event) (n : ℕ) → HoldsFollow c r l n noted.follow → HoldsValues c values log
    here l n holds = subst (λ v. HoldsValues c v log) (sym (reads l n holds)) (holding l n holds)

    go : (o : Option (ℕ × ℕ)) → commit_of c r mine (event_by r verb answer) ≡ o → HoldsValues c values log
    go None none = here now (length now) (stands none).follow
    go (Some entry) some = here mine (length mine + 1) (awaits entry some).follow

-- an event of the leader: the other parts took it, and the replayer was told what it committed
pub led_beside : (c : Config) (r : ℕ) (mine : List Event) (verb : Verb) (answer : Answer) (noted last : Node) (lead : Lead) (values : List ℕ) (position : ℕ) (note : Note) → IsConfig c → IsPossible c r (event_by r verb answer ∷ mine)
    → (commit_of c r mine (event_by r verb answer) ≡ None → HoldsBeside c r (event_by r verb answer ∷ mine) noted)
    → ((entry : ℕ × ℕ) → commit_of c r mine (event_by r verb answer) ≡ Some entry → AwaitsBeside c r mine (event_by r verb answer) noted)
    → ((l : List Event) (n : ℕ) → HoldsFollow c r l n noted.follow → values ≡ known c r l)
    → position ≡ length values
    → known c r (event_by r verb answer ∷ mine) ≡ grown values (value_committed note)
    → (value_committed note ≡ None → last ≡ with_lead noted lead)
    → ((value : ℕ) → value_committed note ≡ Some value → position < 65536 → commit_of c r mine (event_by r verb answer) ≡ Some (position, value) → AwaitsBeside c r mine (event_by r verb answer) (with_lead noted lead)
    → HoldsBeside c r (event_by r verb answer ∷ mine) last)
    → HoldsBeside c r (event_by r verb answer ∷ mine) last
led_beside c r mine verb answer noted last lead values position note good possible stands awaits reads at tells keeps learns = go (commit_of c r mine (event_by r verb answer)) refl
  where
    now : List Event
    now = event_by r verb answer ∷ mine

    go : (o : Option (ℕ × ℕ)) → commit_of c r mine (event_by r verb answer) ≡ o → HoldsBeside c r now last
    go None none =
        let held = stands none in
        let is : values ≡ known c r now = reads now (length now) held.follow in
        let quiet : value_committed note ≡ None = grown_by_none values (value_committed note) (is ∙ tells) in
        subst (λ n. HoldsBeside c r now n) (sym (keeps quiet)) (beside_lead (StandsForFollow c r now) c r now noted lead held)
    go (Some entry) some =
        let held = awaits entry some in
        let is : values ≡ known c r mine = reads mine (length mine + 1) held.follow in
        let done = is_committed c r r verb answer mine entry.0 entry.1 held.follow.inside some in
        let value : value_committed note ≡ Some entry.1 = grown_by_some values entry.1 (value_committed note) (ap (λ l. l ++ entry.1 ∷ []) is ∙ (sym done.learnt ∙ tells)) in
        let long : position ≡ length (known c r mine) = at ∙ ap length is in
        let here : entry.0 ≡ position = done.next ∙ sym long in
        let few = known_few c r now good possible in
        let more : length (known c r now) ≡ length (known c r mine) + 1 = ap length done.learnt ∙ length_push (known c r mine) entry.1 in
        let committed_here : commit_of c r mine (event_by r verb answer) ≡ Some (position, entry.1) = subst (λ p. commit_of c r mine (event_by r verb answer) ≡ Some (p, entry.1)) here some in
        learns entry.1 value (omega (arith, few, more, long)) committed_here (beside_lead (AwaitsEntry c r mine) c r now noted lead held)

-- what the leader has due stays if the scores name r
pub heed_due : (c : Config) (r : ℕ) (mine : List Event) (old new : Lead) → (nat_lt (leader c r mine) r ≡ false → (values : List ℕ) → verb_of new values ≡ verb_of old values) → lead_due c r mine new ≡ lead_due c r mine old
heed_due c r mine old new same = go (leader c r mine == r) refl
  where
    go : (t : Bool) → (leader c r mine == r) ≡ t → (if t then verb_of new (known c r mine) else None) ≡ (if t then verb_of old (known c r mine) else None)
    go true is = let here = eqb-true (leader c r mine) r is in same (le-ltb (leader c r mine) r (omega (arith, here))) (known c r mine)
    go false is = refl

-- if the leader has something due, it did not resign
pub due_unresigned : (c : Config) (r : ℕ) (mine : List Event) (lead : Lead) (verb : Verb) → lead_due c r mine lead ≡ Some verb → heed_note c r mine lead ≡ Note.Working
due_unresigned c r mine lead verb due = go (leader c r mine == r) refl due
  where
    go : (t : Bool) → (leader c r mine == r) ≡ t → (if t then verb_of lead (known c r mine) else None) ≡ Some verb → heed_note c r mine lead ≡ Note.Working
    go true is some =
        let here = eqb-true (leader c r mine) r is in
        ap (λ t. if (lead.under_way && t) then Note.Resigned (leader c r mine) else Note.Working) (le-ltb (leader c r mine) r (omega (arith, here))) ∙ ap (λ t. if t then Note.Resigned (leader c r mine) else Note.Working) (and-false lead.under_way)
    go false is none = absurd (none_some verb none)

-- nor do the scores name a lower replica
pub due_named : (c : Config) (r : ℕ) (mine : List Event) (lead : Lead) (verb : Verb) → lead_due c r mine lead ≡ Some verb → nat_lt (leader c r mine) r ≡ false
due_named c r mine lead verb due = go (leader c r mine == r) refl due
  where
    go : (t : Bool) → (leader c r mine == r) ≡ t → (if t then verb_of lead (known c r mine) else None) ≡ Some verb → nat_lt (leader c r mine) r ≡ false
    go true is some = let here = eqb-true (leader c r mine) r is in le-ltb (leader c r mine) r (omega (arith, here))
    go false is none = absurd (none_some verb none)

-- the note of a step of the leader, which is made only if nothing was noted before it
pub tells_led : (c : Config) (r : ℕ) (mine : List Event) (leads : Bool) (due : Option Verb) (verb : Verb) (heeded : Note) (answer : Answer) (note : Note) → TellsTook c r mine true (Some verb) Note.Working answer note
    → leads ≡ true → due ≡ Some verb → TellsTook c r mine leads due heeded answer note
tells_led c r mine leads due verb heeded answer note tells on some = record {
  idle = λ none. absurd (none_some verb (sym none ∙ some));
  beside = λ off. absurd (true≢false (sym on ∙ off));
  taken = λ v led is working possible. tells.taken v refl (sym some ∙ is) refl possible;
}

-- and what the leader's contract says of it
pub says_led : (c : Config) (r : ℕ) (mine : List Event) (leads : Bool) (due : Option Verb) (verb : Verb) (heeded : Note) (lead next : Lead) (answer : Answer) (note : Note) → SaysTook c r mine true (Some verb) Note.Working lead next answer note
    → leads ≡ true → due ≡ Some verb → SaysTook c r mine leads due heeded lead next answer note
says_led c r mine leads due verb heeded lead next answer note says on some = record {
  idle = λ none. absurd (none_some verb (sym none ∙ some));
  beside = λ off. absurd (true≢false (sym on ∙ off));
  says = λ v led is working possible. says.says v refl (sym some ∙ is) refl possible;
  noted = λ v led is working possible. says.noted v refl (sym some ∙ is) refl possible;
  going = λ v led is working. says.going v refl (sym some ∙ is) refl;
}
