-- In a run of threads that is fair for long enough the least that goes on has every command.
use Rattle.std.proofs.Common.{◌≡◌, ◌∙◌, ℕ, ◌+◌, ◌<◌, ◌≤◌, ◌==◌, true, None, Some, List, [], ◌++◌, ap, arith, length, refl, subst, sym, true≢false, inl, inr}
use Rattle.std.specs.declared.option.Option.{Option}
use Rattle.std.specs.List.{slice_get}
use Rattle.std.proofs.lemmas.Bool.{and_parts}
use Rattle.std.proofs.lemmas.List.{length-append}
use Rattle.mu_input.specs.Heads.{HaveHeads}
use Rattle.mu_model.specs.declared.config.Config.{Config}
use Rattle.mu_model.specs.declared.event.Event.{Event}
use Rattle.mu_model.specs.declared.script.End.{End}
use Rattle.mu_model.specs.declared.script.Script.{Script}
use Rattle.mu_model.specs.Contents.{IsConfig, holds_all}
use Rattle.mu_model.specs.Diligence.{IsDiligentBy}
use Rattle.mu_model.specs.Ends.{EndsBy, full_length, is_finished, is_full, outrun}
use Rattle.mu_model.specs.Histories.{history, part}
use Rattle.mu_model.specs.Knowledge.{applied}
use Rattle.mu_model.specs.Legal.{IsLegal}
use Rattle.mu_model.specs.Parts.{HasParts}
use Rattle.mu_model.proofs.Basics.{same_some}
use Rattle.mu_model.proofs.Parts.{filter-append, history-part}
use Rattle.mu_node.specs.declared.node.Node.{Node}
use Rattle.mu_node.specs.declared.zeal.Zeal.{Zeal}
use Rattle.mu_node.specs.Following.{FollowsTurns}
use Rattle.mu_model.proofs.Parts.{part_is_possible}
use Rattle.mu_lively.proofs.Listed.{listed_is_paced}
use Rattle.mu_lively.proofs.Order.{in_order}
use Rattle.mu_agree.specs.Moments.{AtEachStep}
use Rattle.mu_alive.specs.Enough.{HasLargeRing}
use Rattle.mu_alive.specs.Resuming.{LeadsAfter}
use Rattle.mu_alive.proofs.Enough.{outrun_before}
use Rattle.mu_outcome.specs.declared.outcome.Outcome.{Outcome}
use Rattle.mu_outcome.specs.Outcomes.{journal_of, journals_of, log_of, or_empty}
use Rattle.mu_outcome.specs.Runs.{IsRunOver}
use Rattle.mu_outcome.proofs.Completing.{all_from_log}
use Rattle.shared_fabric.proofs.Gathers.{some_at}
use Rattle.mu_cluster.specs.Branches.{AreLeft}
use Rattle.mu_cluster.specs.Fair.{AppliesAllIfFair, HasAllIfFair, HasAllRows, LastsToEnd, steps_if_fair}
use Rattle.mu_cluster.specs.Outliving.{is_stop}
use Rattle.mu_cluster.specs.Paces.{AreDiligentBy, AreEager}
use Rattle.mu_cluster.specs.Rounds.{part_of}
use Rattle.mu_cluster.proofs.Agreeing.{agrees_over}
use Rattle.mu_cluster.proofs.Branching.{mine_part}
use Rattle.mu_cluster.proofs.Fair.{AreRunNodes, applies_in, leads_in}
use Rattle.mu_cluster.proofs.Pausing.{none_outrun_large}
use Rattle.mu_cluster.proofs.Raised.{full_holds, holds_whole}
use Rattle.mu_node.specs.Journal.{IsListed}
use Rattle.mu_outcome.proofs.Journals.{journal_is}

-- an eager node stands for the part of each replica, in any list that has the parts
left_node : (c : Config) (script : Script) (parts : List (List Event)) (nodes : List Node) (events : List Event) → AreLeft c script parts nodes → HasParts c events parts → (r : ℕ) → r < c.replicas → (node : Node) × FollowsTurns c r (part_of r events) node × (node.zeal ≡ Zeal.Eager)
left_node c script parts nodes events left has r low =
    let count = left.count in
    let found = some_at nodes r (omega (arith, low, count)) in
    let l = left.each r found.0 found.1 in
    (found.0, subst (λ m. FollowsTurns c r m found.0) (mine_part c events parts r l.0 low has l.1) l.2.follows, l.2.zeal)

-- so in each turn it did what is due to one
pub eager_left : (o : Outcome) (events : List Event) (nodes : List Node) → HasParts o.job.config events (journals_of o) → AreLeft o.job.config o.job.script (journals_of o) nodes → AreEager o
eager_left o events nodes has left r low =
    let node = left_node o.job.config o.job.script (journals_of o) nodes events left has r low in
    subst (λ h. AtEachStep (IsListed Zeal.Eager o.job.config r) h) (sym (journal_is o events has r low)) (subst (λ z. AtEachStep (IsListed z o.job.config r) (part_of r events)) node.2 node.1.listed)

left_nodes : (c : Config) (script : Script) (parts : List (List Event)) (nodes : List Node) (events : List Event) → AreLeft c script parts nodes → IsLegal c events → HasParts c events parts → ((r : ℕ) → r < c.replicas → IsDiligentBy true c r (part_of r events)) → AreRunNodes true c events
left_nodes c script parts nodes events left legal has diligent = record {
  legal = legal;
  made = λ r low. (left_node c script parts nodes events left has r low).1.made;
  order = λ r low. in_order c r (part_of r events) ((left_node c script parts nodes events left has r low).1.made);
  led = λ r low. let node = left_node c script parts nodes events left has r low in (listed_is_paced Zeal.Eager c r (part_of r events) (subst IsConfig node.1.stands.lead.config node.1.stands.lead.stands.config) low (part_is_possible c r (history events) legal) node.1.made (subst (λ z. AtEachStep (IsListed z c r) (part_of r events)) node.2 node.1.listed)).led;
  diligent = diligent;
}

-- in a large ring nobody is outrun
none_outrun : (c : Config) (events : List Event) (s : ℕ) → IsConfig c → HasLargeRing c → AreRunNodes true c events → s < c.replicas → outrun c s (part_of s events) ≡ None
none_outrun c events s good large run low = go (outrun c s (part_of s events)) refl
  where
    go : (o : Option (ℕ × ℕ)) → outrun c s (part_of s events) ≡ o → o ≡ None
    go None is = refl
    go (Some (p, i)) is = absurd (none_outrun_large c events s p i good large run.legal low (run.made s low) is)

-- a replica that finished has every row in its log
finished_holds : (o : Outcome) (events : List Event) → IsRunOver events o → (r : ℕ) (heads : List ℕ) → r < o.job.config.replicas → slice_get o.ends r ≡ Some (End.Finished heads) → holds_all o.job.config (log_of o r) ≡ true
finished_holds o events over r heads low is = by_end (over.ended r low).0 (same_some (over.ended r low).0 (End.Finished heads) (sym (over.ended r low).1 ∙ is)) (over.ended r low).2.ends
  where
    c : Config
    c = o.job.config

    mine : List Event
    mine = history (journal_of o r)

    holds : is_finished c r mine ≡ true → holds_all c (log_of o r) ≡ true
    holds done = ap (holds_all c) (over.logs r low) ∙ holds_whole c (full_length c r mine) (applied c r mine) (full_holds c r mine (and_parts (is_full c r mine) _ done).0)

    by_end : (end : End) → end ≡ End.Finished heads → EndsBy c o.job.script r mine end → holds_all c (log_of o r) ≡ true
    by_end End.Stopped same ends = cc
    by_end End.Budget same ends = cc
    by_end (End.Outrun p i) same ends = cc
    by_end (End.Finished found) same ends = holds ends.2

pub applies_if_fair : (o : Outcome) (events : List Event) (nodes : List Node) → IsConfig o.job.config → IsRunOver events o → AreLeft o.job.config o.job.script (journals_of o) nodes → AreDiligentBy true o → AppliesAllIfFair o
applies_if_fair o events nodes good over left diligent s f = elim f.enough [
  | inl many ↦ by_steps many
  | inr lasts ↦ by_lasting lasts
]
  where
    c : Config
    c = o.job.config

    journal : (r : ℕ) → r < c.replicas → history (journal_of o r) ≡ part_of r f.events
    journal r low = ap (λ l. history (or_empty l)) (f.parts.each r low) ∙ history-part r f.events

    run : AreRunNodes true c f.events
    run = left_nodes c o.job.script (journals_of o) nodes f.events left f.legal f.parts (λ r low. subst (IsDiligentBy true c r) (journal r low) (diligent r low))

    split : part_of s f.events ≡ part s f.latest ++ part s (f.newer ++ f.older)
    split = ap (part s) f.is ∙ filter-append (λ e. e.by == s) f.latest (f.newer ++ f.older)

    none : outrun c s (part_of s f.events) ≡ None
    none = none_outrun c f.events s good f.large run f.fair.inside

    leads : LeadsAfter true c f.live f.ratio f.lag s f.newer f.older
    leads = leads_in true c f.live f.ratio f.lag s f.events f.latest f.newer f.older run f.is f.fair (outrun_before c s (part s f.latest) (part s (f.newer ++ f.older)) (sym (ap (outrun c s) split) ∙ none))

    by_steps : steps_if_fair c f.ratio f.lag ≤ length (part s f.newer) → HasAllRows o
    by_steps many = record { by = s; inside = f.fair.inside; holds = ap (holds_all c) (over.logs s f.fair.inside ∙ ap (applied c s) (journal s f.fair.inside)) ∙ applies_in true c f.live f.ratio f.lag s f.events f.latest f.newer f.older good f.large run f.is leads many }

    -- if s spent its budget, it took these steps
    spent : LastsToEnd o s (steps_if_fair c f.ratio f.lag) f.latest f.older → part s f.latest ≡ [] → length (history (journal_of o s)) ≡ c.budget → steps_if_fair c f.ratio f.lag ≤ length (part s f.newer)
    spent lasts last all =
        let room = lasts.budget in
        let whole = ap length (journal s f.fair.inside ∙ split ∙ ap (λ l. l ++ part s (f.newer ++ f.older)) last) in
        let sum = ap length (filter-append (λ e. e.by == s) f.newer f.older) ∙ length-append (part s f.newer) (part s f.older) in
        omega (arith, room, whole, sum, all)

    by_end : LastsToEnd o s (steps_if_fair c f.ratio f.lag) f.latest f.older → part s f.latest ≡ [] → (end : End) → slice_get o.ends s ≡ Some end → EndsBy c o.job.script s (history (journal_of o s)) end → HasAllRows o
    by_end lasts last End.Stopped is ends = absurd (true≢false (sym (ap is_stop is) ∙ lasts.going))
    by_end lasts last End.Budget is ends = by_steps (spent lasts last ends.1)
    by_end lasts last (End.Outrun p i) is ends = let k = sym (ap (outrun c s) (journal s f.fair.inside) ∙ none) ∙ ends.1 in cc
    by_end lasts last (End.Finished heads) is ends = record { by = s; inside = f.fair.inside; holds = finished_holds o events over s heads f.fair.inside is }

    by_lasting : LastsToEnd o s (steps_if_fair c f.ratio f.lag) f.latest f.older → HasAllRows o
    by_lasting lasts = elim lasts.lasts [
      | inl last ↦ by_end lasts last (over.ended s f.fair.inside).0 (over.ended s f.fair.inside).1 (over.ended s f.fair.inside).2.ends
      | inr one ↦ record { by = one.by; inside = one.inside; holds = finished_holds o events over one.by one.heads one.inside one.ended }
    ]

pub has_all_if_fair : (o : Outcome) (events : List Event) → IsConfig o.job.config → HaveHeads o.job.config.width o.job.commands o.job.config.rows → IsRunOver events o → AppliesAllIfFair o → HasAllIfFair o
has_all_if_fair o events good have over applies s f = let all = applies s f in all_from_log o events good have over (agrees_over o events good have over) all.by all.inside all.holds
