-- What each replica leaves stands in the lists of an outcome, and the outcome is a run.
use Rattle.std.proofs.Common.{Bool, ◌≡◌, ◌∙◌, ℕ, suc, zero, ◌+◌, ◌<◌, ◌≤◌, true, List, [], ◌∷◌, ◌++◌, None, Some, ap, append-nil, arith, inl, inr, length, map, refl, subst, sym}
use Rattle.std.specs.declared.option.Option.{Option}
use Rattle.std.specs.Prelude.{slice_index}
use Rattle.std.specs.List.{slice_get}
use Rattle.std.proofs.lemmas.Bool.{cases_lt}
use Rattle.std.proofs.lemmas.List.{length_push, length-map}
use Rattle.std.proofs.lemmas.Option.{slice_get_within}
use Rattle.kv_store.specs.Tables.{replies}
use Rattle.kv_store.specs.declared.store.Reply.{Reply}
use Rattle.kv_store.proofs.Runs.{length-replies}
use Rattle.mu_follow.specs.Groups.{AreSpelled, groups_of}
use Rattle.mu_node.proofs.FewRows.{few_applied}
use Rattle.mu_outcome.proofs.Journals.{journal_is, length_at, length_of_part, order_parts}
use Rattle.mu_outcome.proofs.LongestLogs.{longest_is}
use Rattle.mu_input.specs.declared.job.Job.{Job}
use Rattle.mu_model.specs.declared.config.Config.{Config}
use Rattle.mu_model.specs.declared.event.Event.{Event}
use Rattle.mu_model.specs.declared.script.End.{End}
use Rattle.mu_model.specs.declared.script.Script.{Script}
use Rattle.mu_model.specs.Contents.{IsConfig, row_count}
use Rattle.mu_model.specs.Ends.{EndsBy, Obeys}
use Rattle.mu_model.specs.Histories.{history, part}
use Rattle.mu_model.specs.Journals.{Record}
use Rattle.mu_model.specs.Knowledge.{applied, commits}
use Rattle.mu_model.specs.Legal.{IsLegal}
use Rattle.mu_model.specs.Parts.{HasParts}
use Rattle.mu_model.proofs.Basics.{same_some}
use Rattle.mu_model.proofs.Lists.{get_front, get_push_here, item_below}
use Rattle.mu_model.proofs.Parts.{part_is_possible}
use Rattle.mu_knowledge.specs.declared.commit.Commit.{Commit}
use Rattle.mu_knowledge.specs.Commits.{pair_of}
use Rattle.mu_node.specs.declared.result.NodeResult.{NodeResult}
use Rattle.mu_node.specs.declared.zeal.Zeal.{Zeal}
use Rattle.mu_model.specs.Diligence.{IsDiligentBy}
use Rattle.mu_node.specs.Due.{is_eager}
use Rattle.mu_node.specs.Turns.{IsLeft, TellsEnd}
use Rattle.mu_node.specs.declared.node.Node.{Node}
use Rattle.mu_node.specs.Following.{FollowsTurns}
use Rattle.mu_model.specs.Parts.{IsPossible}
use Rattle.mu_lively.proofs.Diligent.{listed_is_diligent}
use Rattle.mu_cluster.specs.declared.lists.Lists.{Lists}
use Rattle.mu_outcome.specs.declared.outcome.Outcome.{Outcome}
use Rattle.mu_cluster.specs.declared.rounds.Seat.{Seat}
use Rattle.mu_outcome.specs.Entries.{commands_in, commands_of, longest}
use Rattle.mu_cluster.specs.Lists.{Adds, AreOf, HasRoom, HoldsLists, Leaves}
use Rattle.mu_cluster.specs.Paces.{AreDiligentBy, AreNodesOf}
use Rattle.mu_node.specs.Journal.{IsListed}
use Rattle.mu_agree.specs.Moments.{AtEachStep}
use Rattle.mu_outcome.specs.Outcomes.{IsRun, journal_of, journals_of, or_empty}
use Rattle.mu_outcome.specs.Runs.{IsRunOver}
use Rattle.mu_cluster.specs.Rounds.{EndsNowhereBefore, MayTake, PlayedBy, Sits, part_of}
use Rattle.mu_outcome.specs.Turns.{ids_after, pace}

-- an end that is told if there is one
end_told : (c : Config) (script : Script) (r : ℕ) (mine : List Event) (o : Option End) → TellsEnd c script r mine o → (end : End) × EndsBy c script r mine end → (e : End) × ((o ≡ Some e) × EndsBy c script r mine e)
end_told c script r mine None none ends = absurd (none ends.0 ends.1)
end_told c script r mine (Some e) told ends = (e, (refl, told))

-- the commands of a job by its rows
pub commands_grouped : (job : Job) (values : List ℕ) → groups_of job.config job.commands values ≡ commands_in job values
commands_grouped job [] = refl
commands_grouped job (v ∷ vs) = ap (λ l. commands_of job v ++ l) (commands_grouped job vs)

-- longer lists still hold it
leaves_front : (again : Bool) (c : Config) (script : Script) (r : ℕ) (mine : List Event) (ls ms : List (List ℕ)) (cs ds : List (List Commit)) (rs ts : List (List Reply)) (es fs : List End)
    → Leaves again c script r mine ls cs rs es → Leaves again c script r mine (ls ++ ms) (cs ++ ds) (rs ++ ts) (es ++ fs)
leaves_front again c script r mine ls ms cs ds rs ts es fs was = record {
  log_at = get_front ls ms r (applied c r mine) was.log_at;
  made = was.made;
  made_at = get_front cs ds r was.made was.made_at;
  made_is = was.made_is;
  told = was.told;
  told_at = get_front rs ts r was.told was.told_at;
  told_is = was.told_is;
  end = was.end;
  end_at = get_front es fs r was.end was.end_at;
  obeys = was.obeys;
  diligent = was.diligent;
}

-- the same of lists that are equal to these
leaves_in : (again : Bool) (c : Config) (script : Script) (r : ℕ) (mine : List Event) (ls ms : List (List ℕ)) (cs ds : List (List Commit)) (rs ts : List (List Reply)) (es fs : List End)
    → ms ≡ ls → ds ≡ cs → ts ≡ rs → fs ≡ es → Leaves again c script r mine ls cs rs es → Leaves again c script r mine ms ds ts fs
leaves_in again c script r mine ls ms cs ds rs ts es fs b d t e was =
    subst (λ x. Leaves again c script r mine ms ds ts x) (sym e) (subst (λ x. Leaves again c script r mine ms ds x es) (sym t)
    (subst (λ x. Leaves again c script r mine ms x rs es) (sym d) (subst (λ x. Leaves again c script r mine x cs rs es) (sym b) was)))

-- what a replica left, and that its events are diligent
pub record IsResult (again : Bool) (c : Config) (r : ℕ) (mine : List Event) (result : NodeResult) : Type 0 where
  pub left : IsLeft c r mine result
  pub diligent : IsDiligentBy again c r mine

pub result_of : (kind : Zeal) (c : Config) (r : ℕ) (mine : List Event) (node : Node) (result : NodeResult) → IsConfig c → IsPossible c r mine → FollowsTurns c r mine node → node.zeal ≡ kind → IsLeft c r mine result → IsResult (is_eager kind) c r mine result
result_of kind c r mine node result good possible follows zeal left = record {
  left = left;
  diligent = listed_is_diligent kind c r mine good follows.stands.beside.follow.inside possible follows.made (subst (λ z. AtEachStep (IsListed z c r) mine) zeal follows.listed);
}

-- one more replica
pub held_left : (again : Bool) (c : Config) (script : Script) (events : List Event) (n : ℕ) (old new : Lists) (result : NodeResult) → HoldsLists again c script events n old → Adds old new result → EndsNowhereBefore c script n (part_of n events)
    → (end : End) × EndsBy c script n (part_of n events) end → IsResult again c n (part_of n events) result → TellsEnd c script n (part_of n events) result.end → HoldsLists again c script events (n + 1) new
held_left again c script events n old new result was adds before ends is told = record { room = room; each = each }
  where
    end : (e : End) × ((result.end ≡ Some e) × EndsBy c script n (part_of n events) e)
    end = end_told c script n (part_of n events) result.end told ends

    ends_are : new.ends.items ≡ old.ends.items ++ end.0 ∷ []
    ends_are = adds.ends.0 end.0 end.1.0

    room : HasRoom c.replicas (n + 1) new
    room = record {
      logs = (ap length adds.logs.0 ∙ (length_push old.logs.items result.log ∙ ap (λ m. m + 1) was.room.logs.0), (let a = was.room.logs.1 in let b = adds.logs.1 in omega (arith, a, b)));
      commits = (ap length adds.commits.0 ∙ (length_push old.commits.items result.commits ∙ ap (λ m. m + 1) was.room.commits.0), (let a = was.room.commits.1 in let b = adds.commits.1 in omega (arith, a, b)));
      replies = (ap length adds.replies.0 ∙ (length_push old.replies.items result.replies ∙ ap (λ m. m + 1) was.room.replies.0), (let a = was.room.replies.1 in let b = adds.replies.1 in omega (arith, a, b)));
      ends = (ap length ends_are ∙ (length_push old.ends.items end.0 ∙ ap (λ m. m + 1) was.room.ends.0), (let a = was.room.ends.1 in let b = adds.ends.1 in omega (arith, a, b)));
    }

    here : Leaves again c script n (part_of n events) (old.logs.items ++ result.log ∷ []) (old.commits.items ++ result.commits ∷ []) (old.replies.items ++ result.replies ∷ []) (old.ends.items ++ end.0 ∷ [])
    here = record {
      log_at = get_push_here old.logs.items n result.log (sym was.room.logs.0) ∙ ap (λ l. Some l) is.left.log;
      made = result.commits;
      made_at = get_push_here old.commits.items n result.commits (sym was.room.commits.0);
      made_is = is.left.commits;
      told = result.replies;
      told_at = get_push_here old.replies.items n result.replies (sym was.room.replies.0);
      told_is = is.left.replies;
      end = end.0;
      end_at = get_push_here old.ends.items n end.0 (sym was.room.ends.0);
      obeys = record { ends = end.1.1; first = λ newer older other same some there. before newer older other same some there };
      diligent = is.diligent;
    }

    both : (r : ℕ) → Leaves again c script r (part_of r events) (old.logs.items ++ result.log ∷ []) (old.commits.items ++ result.commits ∷ []) (old.replies.items ++ result.replies ∷ []) (old.ends.items ++ end.0 ∷ [])
        → Leaves again c script r (part_of r events) new.logs.items new.commits.items new.replies.items new.ends.items
    both r leaves =
        leaves_in again c script r (part_of r events) (old.logs.items ++ result.log ∷ []) new.logs.items (old.commits.items ++ result.commits ∷ []) new.commits.items (old.replies.items ++ result.replies ∷ []) new.replies.items (old.ends.items ++ end.0 ∷ []) new.ends.items
        adds.logs.0 adds.commits.0 adds.replies.0 ends_are leaves

    each : (r : ℕ) → r < n + 1 → Leaves again c script r (part_of r events) new.logs.items new.commits.items new.replies.items new.ends.items
    each r low = both r (elim (cases_lt r n) [
      | inl below ↦ leaves_front again c script r (part_of r events) old.logs.items (result.log ∷ []) old.commits.items (result.commits ∷ []) old.replies.items (result.replies ∷ []) old.ends.items (end.0 ∷ []) (was.each r below)
      | inr above ↦
          let same : n ≡ r = omega (arith, low, above) in
          subst (λ i. Leaves again c script i (part_of i events) (old.logs.items ++ result.log ∷ []) (old.commits.items ++ result.commits ∷ []) (old.replies.items ++ result.replies ∷ []) (old.ends.items ++ end.0 ∷ [])) same here
    ])

-- the same if the replica sits in rounds
pub held_next : {kind : Zeal} (c : Config) (script : Script) (events : List Event) (n rounds : ℕ) (old new : Lists) (result : NodeResult) (seat : Seat) → HoldsLists (is_eager kind) c script events n old → Adds old new result
    → Sits kind c script n (part_of n events) seat rounds → seat.ended ≡ true → IsResult (is_eager kind) c n (part_of n events) result → TellsEnd c script n (part_of n events) result.end → HoldsLists (is_eager kind) c script events (n + 1) new
held_next {kind} c script events n rounds old new result seat was adds sits ended is told = held_left (is_eager kind) c script events n old new result was adds sits.before (sits.ended ended) is told

pub get_map : {A : Type 0} {B : Type 0} (f : A → B) (xs : List A) (i : ℕ) (x : A) → slice_get xs i ≡ Some x → slice_get (map f xs) i ≡ Some (f x)
get_map f [] i x at = cc
get_map f (y ∷ ys) zero x at = ap (λ v. Some (f v)) (same_some y x at)
get_map f (y ∷ ys) (suc i) x at = get_map f ys i x at

-- what a run leaves is what the definitions give of the parts of its list
pub run_over : (again : Bool) (o : Outcome) (events : List Event) (lists : Lists) → IsLegal o.job.config events → HasParts o.job.config events (journals_of o) → o.logs ≡ lists.logs.items → o.commits ≡ lists.commits.items → o.own_replies ≡ lists.replies.items → o.ends ≡ lists.ends.items
    → HoldsLists again o.job.config o.job.script events o.job.config.replicas lists → AreSpelled o.job.config o.job.commands
    → o.replies ≡ replies (commands_in o.job (longest lists.logs.items)) → IsRunOver events o
run_over again o events lists legal parts ls cs rs es held are answered = record {
  legal = legal;
  parts = parts;
  counts = (ap length ls ∙ held.room.logs.0, ap length cs ∙ held.room.commits.0, ap length es ∙ held.room.ends.0);
  ended = λ r low. let l = left r low in (l.end, l.end_at, subst (λ h. Obeys o.job.config o.job.script r h l.end) (sym (own r low)) l.obeys);
  logs = λ r low. let l = left r low in ap or_empty l.log_at ∙ ap (applied o.job.config r) (sym (own r low));
  commits = λ r low. let l = left r low in ap or_empty (get_map (map pair_of) o.commits r l.made l.made_at) ∙ (l.made_is ∙ ap (commits o.job.config r) (sym (own r low)));
  replies = answered ∙ ap (λ l. replies (commands_in o.job (longest l))) (sym ls);
  reply_count = ap length rs ∙ held.room.replies.0;
  own_replies = λ r low.
      let l = left r low in
      let log = applied o.job.config r (part_of r events) in
      ap or_empty l.told_at ∙ (l.told_is o.job.commands are ∙ ap replies (commands_grouped o.job log)) ∙ ap (λ x. replies (commands_in o.job (or_empty x))) (sym l.log_at);
}
  where
    left : (r : ℕ) → r < o.job.config.replicas → Leaves again o.job.config o.job.script r (part_of r events) o.logs o.commits o.own_replies o.ends
    left r low = leaves_in again o.job.config o.job.script r (part_of r events) lists.logs.items o.logs lists.commits.items o.commits lists.replies.items o.own_replies lists.ends.items o.ends ls cs rs es (held.each r low)

    own : (r : ℕ) → r < o.job.config.replicas → history (journal_of o r) ≡ part_of r events
    own r low = journal_is o events parts r low

-- the journals are diligent, as those of the replicas were
pub diligent_of : (again : Bool) (o : Outcome) (events : List Event) (lists : Lists) → HasParts o.job.config events (journals_of o) → HoldsLists again o.job.config o.job.script events o.job.config.replicas lists → AreDiligentBy again o
diligent_of again o events lists parts held r low = subst (λ h. IsDiligentBy again o.job.config r h) (sym (journal_is o events parts r low)) (held.each r low).diligent

-- and made as by nodes of the kind that these were
pub kinds_of : {kind : Zeal} (o : Outcome) (order : Record) (seats : List Seat) (rounds : ℕ) → HasParts o.job.config order.events (journals_of o) → PlayedBy kind o.job.config o.job.script order.events seats rounds 0 → AreNodesOf kind o
kinds_of {kind} o order seats rounds parts played r low =
    let c = o.job.config in
    let count = played.count in
    let found = item_below seats r (omega (arith, low, count)) in
    let sits = played.waits r found.0 found.1 (omega arith) in
    subst (λ h. AtEachStep (IsListed kind c r) h) (sym (journal_is o order.events parts r low)) (subst (λ z. AtEachStep (IsListed z c r) (part_of r order.events)) sits.zeal sits.follows.listed)

-- what a replay leaves is a run of its job
pub run_of : {kind : Zeal} (again : Bool) (o : Outcome) (order : Record) (lists : Lists) (seats : List Seat) (rounds : ℕ) → o.order ≡ Some order → IsLegal o.job.config order.events → o.logs ≡ lists.logs.items
    → o.commits ≡ lists.commits.items → o.own_replies ≡ lists.replies.items → o.ends ≡ lists.ends.items → HoldsLists again o.job.config o.job.script order.events o.job.config.replicas lists
    → PlayedBy kind o.job.config o.job.script order.events seats rounds 0 → ((r : ℕ) (seat : Seat) → slice_get seats r ≡ Some seat → seat.ended ≡ true) → AreSpelled o.job.config o.job.commands → o.replies ≡ replies (commands_in o.job (longest lists.logs.items)) → IsRun o
run_of again o order lists seats rounds given legal ls cs rs es held played ended are answered = record {
  order = order;
  given = given;
  legal = legal;
  parts = over.parts;
  turns = record {
    rounds = rounds;
    all = λ r low. turn_at r low;
    is = played.ids lengths may ∙ append-nil (ids_after o.job.script.pauses lengths rounds);
  };
  counts = over.counts;
  ended = over.ended;
  logs = over.logs;
  commits = over.commits;
  replies = over.replies;
  reply_count = over.reply_count;
  own_replies = over.own_replies;
}
  where
    over : IsRunOver order.events o
    over = run_over again o order.events lists legal (order_parts o order given played.own) ls cs rs es held are answered

    lengths : List ℕ
    lengths = map length (journals_of o)

    many : length lengths ≡ o.job.config.replicas
    many = length-map (journals_of o) length ∙ over.parts.count

    long : (r : ℕ) → r < o.job.config.replicas → slice_index lengths r ≡ length (part_of r order.events)
    long r low = length_at (journals_of o) r (part r order.events) (over.parts.each r low) ∙ length_of_part r order.events

    may : MayTake order.events seats lengths
    may = record {
      count = many ∙ sym played.count;
      each = λ r seat at.
          let low = slice_get_within seats r seat at in let count = played.count in
          let is = long r (omega (arith, low, count)) in
          (omega (arith, is), λ _. is);
    }

    turn_at : (r : ℕ) → r < length lengths → (pace o.job.script.pauses r (slice_index lengths r) rounds).taken ≡ slice_index lengths r
    turn_at r low =
        let count = played.count in
        let inside : r < length seats = omega (arith, low, many, count) in
        let found = item_below seats r inside in
        let sits = played.waits r found.0 found.1 (omega arith) in
        let is = long r (omega (arith, low, many)) in
        (sits.keeps (slice_index lengths r) (omega (arith, is)) (λ _. is)).0 ∙ sym is

-- each replica's replies are those over the commands of its log
pub replies_are : (again : Bool) (job : Job) (script : Script) (events : List Event) (lists : Lists) → AreSpelled job.config job.commands → HoldsLists again job.config script events job.config.replicas lists → AreOf (λ log. replies (commands_in job log)) lists
replies_are again job script events lists are held r log at =
    let low = slice_get_within lists.logs.items r log at in
    let count = held.room.logs.0 in
    let l = held.each r (omega (arith, low, count)) in
    let mine = applied job.config r (part_of r events) in
    let same : mine ≡ log = same_some mine log (sym l.log_at ∙ at) in
    l.told_at ∙ ap (λ x. Some x) (l.told_is job.commands are ∙ ap replies (commands_grouped job mine) ∙ ap (λ x. replies (commands_in job x)) same)

-- the longest log is that of a replica, or there is nothing in any: it tells no more commands than there are rows
few_longest : (again : Bool) (job : Job) (script : Script) (events : List Event) (lists : Lists) → IsConfig job.config → IsLegal job.config events → HoldsLists again job.config script events job.config.replicas lists
    → length (commands_in job (longest lists.logs.items)) ≤ row_count job.config
few_longest again job script events lists good legal held = elim (longest_is lists.logs.items) [
  | inl none ↦ (let few = ap (λ l. length (commands_in job l)) none in omega (arith, few))
  | inr some ↦ (
      let r = some.0 in
      let count = held.room.logs.0 in
      let low = slice_get_within lists.logs.items r (longest lists.logs.items) some.1 in
      let l = held.each r (omega (arith, low, count)) in
      let mine = part_of r events in
      let is = same_some (applied job.config r mine) (longest lists.logs.items) (sym l.log_at ∙ some.1) in
      let told = ap length (commands_grouped job (applied job.config r mine)) in
      let same = ap (λ x. length (commands_in job x)) is in
      let few = few_applied job.config r mine job.commands good (part_is_possible job.config r (history events) legal) in
      omega (arith, told, same, few))
]

-- there are few replies to the longest log
pub few_replies : (again : Bool) (job : Job) (script : Script) (events : List Event) (lists : Lists) → IsConfig job.config → IsLegal job.config events → HoldsLists again job.config script events job.config.replicas lists
    → length (replies (commands_in job (longest lists.logs.items))) ≤ row_count job.config
few_replies again job script events lists good legal held =
    let few = few_longest again job script events lists good legal held in
    let each = length-replies (commands_in job (longest lists.logs.items)) in
    omega (arith, few, each)

-- and room for all rows is enough for them
pub printed_fit : (again : Bool) (job : Job) (script : Script) (events : List Event) (lists : Lists) (room : ℕ) → IsConfig job.config → IsLegal job.config events → AreSpelled job.config job.commands
    → HoldsLists again job.config script events job.config.replicas lists → row_count job.config ≤ room
    → (f : List ℕ → List Reply) × (f [] ≡ []) × AreOf f lists × (length (f (longest lists.logs.items)) ≤ room)
printed_fit again job script events lists room good legal are held wide =
    let few = few_replies again job script events lists good legal held in
    (λ log. replies (commands_in job log), refl, replies_are again job script events lists are held, omega (arith, few, wide))

-- what is printed are the replies over the longest log
pub printed_is : (again : Bool) (job : Job) (script : Script) (events : List Event) (lists : Lists) (told : List Reply) → AreSpelled job.config job.commands → HoldsLists again job.config script events job.config.replicas lists
    → ((f : List ℕ → List Reply) → f [] ≡ [] → AreOf f lists → told ≡ f (longest lists.logs.items)) → told ≡ replies (commands_in job (longest lists.logs.items))
printed_is again job script events lists told are held is = is (λ log. replies (commands_in job log)) refl (replies_are again job script events lists are held)
