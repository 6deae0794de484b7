-- What a node stands for, with one row more.
use Rattle.std.proofs.Common.{◌≡◌, ◌∙◌, ◌%◌, ◌+◌, ◌<◌, ◌≤◌, ◌∷◌, List, [], ap, arith, length, refl, subst, sym, take, ℕ, inl}
use Rattle.std.specs.Prelude.{if◌then◌else◌, vec_capacity}
use Rattle.std.specs.List.{slice_get}
use Rattle.kv_store.specs.Commands.{Request}
use Rattle.kv_store.specs.Tables.{replies, store}
use Rattle.kv_store.proofs.Runs.{length-replies}
use Rattle.mu_model.specs.declared.config.Config.{Config}
use Rattle.mu_model.specs.declared.config.Row.{Row}
use Rattle.mu_model.specs.declared.event.Event.{Event}
use Rattle.mu_model.specs.declared.event.Verb.{Verb}
use Rattle.mu_model.specs.Contents.{IsConfig, row_count}
use Rattle.mu_model.specs.Growing.{with_more}
use Rattle.mu_model.specs.Knowledge.{applied, known}
use Rattle.mu_model.specs.Parts.{IsPossible}
use Rattle.mu_agree.proofs.Growing.{applied_stays_law, entry_kept, known_kept, rest_kept}
use Rattle.mu_agree.proofs.Possible.{parts_shorten_law}
use Rattle.mu_agree.proofs.Sessions.{row_within}
use Rattle.mu_knowledge.specs.declared.known_log.KnownLog.{KnownLog}
use Rattle.mu_knowledge.specs.KnownLog.{HoldsValues}
use Rattle.mu_knowledge.specs.RowWords.{IsOfKnown}
use Rattle.mu_follow.specs.declared.follow.Follow.{Follow}
use Rattle.mu_follow.specs.Follow.{StandsForFollow}
use Rattle.mu_follow.specs.Growing.{HasRoomToFollow}
use Rattle.mu_follow.specs.Groups.{AreSpelled, groups_of}
use Rattle.mu_follow.proofs.Growing.{applied_entries, one_more, taken_entries}
use Rattle.mu_follow.proofs.Spelled.{groups_kept, spelled_before}
use Rattle.mu_lead.specs.declared.lead.Lead.{Lead}
use Rattle.mu_lead.specs.Standing.{StandsFor as LeadStandsFor}
use Rattle.mu_node.specs.declared.node.Node.{Node}
use Rattle.mu_node.specs.Answering.{Answering}
use Rattle.mu_node.specs.Answers.{HoldsAnswers}
use Rattle.mu_node.specs.Cycle.{handed_before, hands_on}
use Rattle.mu_node.specs.Growing.{HasRoomForRow, StandsInTurn}
use Rattle.mu_node.specs.Node.{HoldsNode, StandsForLead, StandsForNode}
use Rattle.mu_node.specs.Reads.{IsNext, IsReadNext, ReadsNext}

-- how far it has handed on
pub handed_kept : (c : Config) (more : List Row) (r : ℕ) (mine : List Event) → IsConfig c → IsConfig (with_more c more) → IsPossible c r mine → handed_before (with_more c more) r mine ≡ handed_before c r mine
handed_kept c more r [] good grown possible = refl
handed_kept c more r (e ∷ mine) good grown possible =
    let before = (parts_shorten_law c r mine e possible).before in
    ap (λ l. if hands_on c mine then length l else handed_before (with_more c more) r mine) (applied_stays_law c more r mine good grown before)
    ∙ ap (λ n. if hands_on c mine then length (applied c r mine) else n) (handed_kept c more r mine good grown before)

-- which rows it read
next_kept : (c : Config) (more : List Row) (r : ℕ) (mine : List Event) (w : ℕ) → IsConfig c → IsConfig (with_more c more) → IsPossible c r mine → IsNext c r mine w → IsNext (with_more c more) r mine w
next_kept c more r mine w good grown possible next = record { of = of; low = low }
  where
    was : IsOfKnown c r mine w
    was = next.of

    of : IsOfKnown (with_more c more) r mine w
    of = record {
      position = was.position;
      value = was.value;
      row = was.row;
      known = ap (λ l. slice_get l was.position) (known_kept c more r mine) ∙ was.known;
      batch = entry_kept c more was.value good grown (inl was.batch) ∙ was.batch;
      within = subst (λ n. was.row ≤ n) (sym (rest_kept c more (was.value % 4096) (row_within c was.value was.batch))) was.within;
      is = was.is;
    }

    low : was.position ≤ length (applied (with_more c more) r mine)
    low = subst (λ l. was.position ≤ length l) (sym (applied_stays_law c more r mine good grown possible)) next.low

pub read_kept : (c : Config) (more : List Row) (r : ℕ) (mine : List Event) (verb : Verb) → IsConfig c → IsConfig (with_more c more) → IsPossible c r mine → IsReadNext c r mine verb → IsReadNext (with_more c more) r mine verb
read_kept c more r mine (Verb.ReadRow w k) good grown possible next = next_kept c more r mine w good grown possible next
read_kept c more r mine verb good grown possible next = tt

pub reads_kept : (c : Config) (more : List Row) (r : ℕ) (mine : List Event) → IsConfig c → IsConfig (with_more c more) → IsPossible c r mine → ReadsNext c r mine → ReadsNext (with_more c more) r mine
reads_kept c more r [] good grown possible reads = tt
reads_kept c more r (e ∷ mine) good grown possible reads =
    let before = (parts_shorten_law c r mine e possible).before in
    (reads_kept c more r mine good grown before reads.0, read_kept c more r mine e.verb good grown before reads.1)

-- what it answered, if there is room for one reply more
answers_kept : (c : Config) (row : Row) (r n : ℕ) (mine : List Event) (a : Answering) → IsConfig c → IsConfig (with_more c (row ∷ [])) → IsPossible c r mine → row_count c < a.left + length a.replies
    → ((commands : List Request) → AreSpelled c commands → HoldsAnswers c commands (take n (applied c r mine)) a)
    → (commands : List Request) → AreSpelled (with_more c (row ∷ [])) commands → HoldsAnswers (with_more c (row ∷ [])) commands (take n (applied (with_more c (row ∷ [])) r mine)) a
answers_kept c row r n mine a good grown possible room held commands are = record {
  replies = told;
  table = was.table ∙ ap store (sym same);
  left = (let long = ap length told in let count = length-replies (groups_of c2 commands now) in let one = one_more c row in omega (arith, long, count, one, room));
}
  where
    c2 : Config
    c2 = with_more c (row ∷ [])

    now : List ℕ
    now = take n (applied c2 r mine)

    first : List Request
    first = take (row_count c) commands

    was : HoldsAnswers c first (take n (applied c r mine)) a
    was = held first (spelled_before c (row ∷ []) commands are)

    same : groups_of c2 commands now ≡ groups_of c first (take n (applied c r mine))
    same =
        ap (λ l. groups_of c2 commands (take n l)) (applied_stays_law c (row ∷ []) r mine good grown possible)
        ∙ groups_kept c (row ∷ []) commands (take n (applied c r mine)) good grown (taken_entries c n (applied c r mine) (applied_entries c r mine possible))

    told : a.replies ≡ replies (groups_of c2 commands now)
    told = was.replies ∙ ap replies (sym same)

-- what holds with this many entries handed on
pub with_count : (c : Config) (r m n : ℕ) (mine : List Event) (node : Node) → m ≡ n → HoldsNode c r mine m node → HoldsNode c r mine n node
with_count c r m n mine node same held = record {
  beside = held.beside;
  lead = held.lead;
  handed = held.handed ∙ same;
  answers = λ commands are. subst (λ (k : ℕ). HoldsAnswers c commands (take k (applied c r mine)) node.answers) same (held.answers commands are);
  reads = held.reads;
}

-- one that stands for events stands for them in its turn
pub in_turn : (c : Config) (r : ℕ) (mine : List Event) (node : Node) → StandsForNode c r mine node → StandsInTurn c r mine node
in_turn c r mine node held = with_count c r (handed_before c r mine) node.follow.progress.handed mine node (sym held.handed) held

-- the node stands for the same events with one row more if its replayer and its leader do
pub node_more : (c : Config) (row : Row) (r : ℕ) (mine : List Event) (old new : Node) → IsConfig c → IsConfig (with_more c (row ∷ [])) → IsPossible c r mine → StandsInTurn c r mine old → HasRoomForRow c old
    → StandsForFollow (with_more c (row ∷ [])) r mine new.follow → new.follow.progress.handed ≡ old.follow.progress.handed → StandsForLead (with_more c (row ∷ [])) r mine new.lead
    → new.id ≡ old.id → new.replicas ≡ old.replicas → new.budget ≡ old.budget → new.grants ≡ old.grants → new.watch ≡ old.watch → new.log.items ≡ old.log.items → vec_capacity old.log ≤ vec_capacity new.log
    → new.commits.items ≡ old.commits.items → vec_capacity old.commits ≤ vec_capacity new.commits → new.answers ≡ old.answers → StandsInTurn (with_more c (row ∷ [])) r mine new
node_more c row r mine old new good grown possible held room follow handed lead id replicas budget grants watch log log_grows commits commits_grow answers =
    let one = one_more c row in
    let logs = room.log_room in
    let list = room.commit_room in
    let c2 = with_more c (row ∷ []) in
    let told : (commands : List Request) → AreSpelled c2 commands → HoldsAnswers c2 commands (take old.follow.progress.handed (applied c2 r mine)) new.answers =
    λ commands are. subst (λ (a : Answering). HoldsAnswers c2 commands (take old.follow.progress.handed (applied c2 r mine)) a) (sym answers) (answers_kept c row r old.follow.progress.handed mine old.answers good grown possible room.answers held.answers commands are) in
    record {
      beside = record {
        id = id ∙ held.beside.id;
        replicas = replicas ∙ held.beside.replicas;
        budget = budget ∙ held.beside.budget;
        grants = rw grants held.beside.grants;
        watch = rw watch (record { scores = held.beside.watch.scores; named = held.beside.watch.named; failed = held.beside.watch.failed });
        follow = follow;
        no_log = log ∙ held.beside.no_log;
        log_room = omega (arith, one, logs, log_grows);
        no_commits = commits ∙ held.beside.no_commits;
        commit_room = omega (arith, one, list, commits_grow);
      };
      lead = lead;
      handed = refl;
      answers = λ commands are. subst (λ (k : ℕ). HoldsAnswers c2 commands (take k (applied c2 r mine)) new.answers) (sym handed) (told commands are);
      reads = reads_kept c (row ∷ []) r mine good grown possible held.reads;
    }

-- and for the same rows with other room in its parts
pub node_same : (c : Config) (r n : ℕ) (mine : List Event) (old new : Node) → HoldsNode c r mine n old → StandsForFollow c r mine new.follow → new.follow.progress.handed ≡ old.follow.progress.handed → StandsForLead c r mine new.lead
    → new.id ≡ old.id → new.replicas ≡ old.replicas → new.budget ≡ old.budget → new.grants ≡ old.grants → new.watch ≡ old.watch → new.log.items ≡ old.log.items → vec_capacity old.log ≤ vec_capacity new.log
    → new.commits.items ≡ old.commits.items → vec_capacity old.commits ≤ vec_capacity new.commits → new.answers.table ≡ old.answers.table → new.answers.replies ≡ old.answers.replies → old.answers.left ≤ new.answers.left → HoldsNode c r mine n new
node_same c r n mine old new held follow handed lead id replicas budget grants watch log log_grows commits commits_grow table told left =
    let logs = held.beside.log_room in
    let list = held.beside.commit_room in
    record {
      beside = record {
        id = id ∙ held.beside.id;
        replicas = replicas ∙ held.beside.replicas;
        budget = budget ∙ held.beside.budget;
        grants = rw grants held.beside.grants;
        watch = rw watch held.beside.watch;
        follow = follow;
        no_log = log ∙ held.beside.no_log;
        log_room = omega (arith, logs, log_grows);
        no_commits = commits ∙ held.beside.no_commits;
        commit_room = omega (arith, list, commits_grow);
      };
      lead = lead;
      handed = handed ∙ held.handed;
      answers = λ commands are. (let was = held.answers commands are in let room = was.left in record { replies = told ∙ was.replies; table = table ∙ was.table; left = omega (arith, room, left) });
      reads = held.reads;
    }

-- what makes room in its replayer and its leader, whatever its configuration is called
pub follow_roomy : (c : Config) (r : ℕ) (mine : List Event) (old new : Follow) → StandsForFollow c r mine old → (StandsForFollow old.config r mine old → StandsForFollow old.config r mine new) → StandsForFollow c r mine new
follow_roomy c r mine old new held keeps = subst (λ z. StandsForFollow z r mine new) held.config (keeps (subst (λ z. StandsForFollow z r mine old) (sym held.config) held))

pub lead_roomy : (c : Config) (r : ℕ) (mine : List Event) (old new : Lead) → StandsForLead c r mine old → new.config ≡ old.config → new.id ≡ old.id → (LeadStandsFor mine old → LeadStandsFor mine new) → StandsForLead c r mine new
lead_roomy c r mine old new held config id keeps = record { config = config ∙ held.config; id = id ∙ held.id; stands = keeps held.stands }

-- the replayer goes over
pub follow_over : (c : Config) (row : Row) (r : ℕ) (mine : List Event) (config copy : Config) (old new : Follow) → copy ≡ config → config ≡ with_more c (row ∷ []) → IsPossible c r mine → HasRoomToFollow c old → StandsForFollow c r mine old
    → (copy ≡ with_more old.config (row ∷ []) → IsPossible old.config r mine → HasRoomToFollow old.config old → StandsForFollow old.config r mine old → StandsForFollow copy r mine new) → StandsForFollow (with_more c (row ∷ [])) r mine new
follow_over c row r mine config copy old new same grown possible room held adds =
    let is = sym held.config in
    subst (λ z. StandsForFollow z r mine new) (same ∙ grown)
    (adds (same ∙ (grown ∙ ap (λ z. with_more z (row ∷ [])) is)) (subst (λ z. IsPossible z r mine) is possible) (subst (λ z. HasRoomToFollow z old) is room) (subst (λ z. StandsForFollow z r mine old) is held))

-- the leader is told what its replica knows, of which no row is that one
pub known_before : (c : Config) (row : Row) (r : ℕ) (mine : List Event) (values : List ℕ) (lead : Lead) → StandsForLead c r mine lead → values ≡ known (with_more c (row ∷ [])) r mine → values ≡ known lead.config lead.id mine
known_before c row r mine values lead held is =
    is ∙ (known_kept c (row ∷ []) r mine ∙ (ap (λ z. known z r mine) (sym held.config) ∙ ap (λ i. known lead.config i mine) (sym held.id)))

-- what is told is what it knows with the row
pub values_there : (c : Config) (row : Row) (r : ℕ) (mine : List Event) (config : Config) (values : List ℕ) (log : KnownLog) → config ≡ with_more c (row ∷ []) → values ≡ known (with_more c (row ∷ [])) r mine → HoldsValues (with_more c (row ∷ [])) (known (with_more c (row ∷ [])) r mine) log → HoldsValues config values log
values_there c row r mine config values log grown is holds = subst (λ z. HoldsValues z values log) (sym grown) (subst (λ l. HoldsValues (with_more c (row ∷ [])) l log) (sym is) holds)

pub lead_over : (c : Config) (row : Row) (r : ℕ) (mine : List Event) (config : Config) (values : List ℕ) (log : KnownLog) (old new : Lead) → config ≡ with_more c (row ∷ []) → StandsForLead c r mine old
    → HoldsValues (with_more c (row ∷ [])) (known (with_more c (row ∷ [])) r mine) log → values ≡ known (with_more c (row ∷ [])) r mine → new.config ≡ config → new.id ≡ old.id
    → ((next : Row) → config ≡ with_more old.config (next ∷ []) → HoldsValues config values log → LeadStandsFor mine new) → StandsForLead (with_more c (row ∷ [])) r mine new
lead_over c row r mine config values log old new grown held holds is same id adds = record {
  config = same ∙ grown;
  id = id ∙ held.id;
  stands = adds row (grown ∙ ap (λ z. with_more z (row ∷ [])) (sym held.config)) (values_there c row r mine config values log grown is holds);
}
