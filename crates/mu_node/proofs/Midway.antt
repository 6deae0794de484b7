-- What a replica decided to do it may do with one row more too, and with other room in its parts.
use Rattle.std.proofs.Common.{◌≡◌, ◌∙◌, ◌==◌, ◌<◌, ◌≤◌, ◌∷◌, ◌++◌, ℕ, Bool, true, false, List, [], None, ap, length, refl, subst, sym, true≢false}
use Rattle.std.specs.declared.option.Option.{Option}
use Rattle.std.specs.Prelude.{get_or, if◌then◌else◌, is_some, vec_capacity}
use Rattle.mu_model.specs.declared.config.Config.{Config}
use Rattle.mu_model.specs.declared.config.Row.{Row}
use Rattle.mu_model.specs.declared.event.Event.{Event}
use Rattle.mu_model.specs.declared.event.Verb.{Verb}
use Rattle.mu_model.specs.Again.{asks_again}
use Rattle.mu_model.specs.Allowed.{Allowed}
use Rattle.mu_model.specs.Answers.{answer_of}
use Rattle.mu_model.specs.Contents.{IsConfig, config_word}
use Rattle.mu_model.specs.Growing.{with_more}
use Rattle.mu_model.specs.Histories.{event_by, part}
use Rattle.mu_model.specs.Knowledge.{applied, known}
use Rattle.mu_model.specs.Legal.{IsLegalHistory}
use Rattle.mu_model.specs.Parts.{IsPossible}
use Rattle.mu_model.specs.Scores.{leader}
use Rattle.mu_model.specs.Steps.{is_named}
use Rattle.mu_agree.proofs.Growing.{applied_stays_law, known_kept, legal_kept}
use Rattle.mu_follow.specs.Follow.{StandsForFollow}
use Rattle.mu_lead.specs.declared.lead.Lead.{Lead}
use Rattle.mu_lead.specs.declared.place.Offer.{Offer}
use Rattle.mu_lead.specs.declared.place.Place.{Place}
use Rattle.mu_lead.specs.Ahead.{IsAhead, ahead_verb}
use Rattle.mu_lead.specs.Beside.{is_beside, leads_at}
use Rattle.mu_lead.specs.Growing.{rests}
use Rattle.mu_lead.specs.Listing.{late_from}
use Rattle.mu_lead.specs.Standing.{HasHeeded, StandsFor as LeadStandsFor, verb_at, verb_of}
use Rattle.mu_lead.proofs.Growing.{late_leads, late_writes_none, next_word_grown, verb_grown, write_grown}
use Rattle.mu_node.specs.declared.deciding.Decision.{Decision}
use Rattle.mu_node.specs.declared.node.Node.{Node}
use Rattle.mu_node.specs.Cycle.{handed, handed_before, hands_on}
use Rattle.mu_node.specs.Deciding.{AsksAnew, GoesOnByPlan, HasDecided}
use Rattle.mu_node.specs.Due.{FitsLead, WritesAhead, is_eager, lead_due, verb_or_beat}
use Rattle.mu_node.specs.Growing.{StandsInTurn, StandsOn}
use Rattle.mu_node.specs.Node.{HasPlanned, HoldsNode, StandsForNode}
use Rattle.mu_node.specs.Plans.{due_of}
use Rattle.mu_node.specs.Reads.{IsReadNext}
use Rattle.mu_node.proofs.Growing.{follow_roomy, handed_kept, in_turn, lead_roomy, node_same, read_kept, with_count}

-- what holds of a configuration and a replica holds of those of a node that has them, and back
owned : {k own : Config} {n id : ℕ} (F : Config → ℕ → Type 0) → own ≡ k → id ≡ n → F k n → F own id
owned {own = own} {n = n} F same_k same_n it = subst (λ i. F own i) (sym same_n) (subst (λ x. F x n) (sym same_k) it)

ported : {k own : Config} {n id : ℕ} (F : Config → ℕ → Type 0) → own ≡ k → id ≡ n → F own id → F k n
ported {own = own} {n = n} F same_k same_n it = subst (λ x. F x n) same_k (subst (λ i. F own i) same_n it)

-- what may be made may be made with rows more
pub allowed_more : (c : Config) (more : List Row) (r : ℕ) (mine : List Event) (verb : Verb) → IsConfig c → IsConfig (with_more c more) → IsPossible c r mine → Allowed c r mine verb → Allowed (with_more c more) r mine verb
allowed_more c more r mine verb good grown possible allowed =
    let past = possible.past in
    let here : Allowed c r (part r past) verb = subst (λ l. Allowed c r l verb) (sym possible.is) allowed in
    let legal : IsLegalHistory c (event_by r verb (answer_of c r past verb) ∷ past) = (possible.legal, record { allowed = here; answer = refl }) in
    let more_legal = legal_kept c more (event_by r verb (answer_of c r past verb) ∷ past) good grown legal in
    subst (λ l. Allowed (with_more c more) r l verb) possible.is more_legal.1.allowed

-- how far it hands on before the next event
now_handed_kept : (c : Config) (more : List Row) (r : ℕ) (mine : List Event) → IsConfig c → IsConfig (with_more c more) → IsPossible c r mine → handed (with_more c more) r mine ≡ handed c r mine
now_handed_kept c more r mine good grown possible =
    ap (λ l. if hands_on c mine then length l else handed_before (with_more c more) r mine) (applied_stays_law c more r mine good grown possible)
    ∙ ap (λ n. if hands_on c mine then length (applied c r mine) else n) (handed_kept c more r mine good grown possible)

-- a leader that went over to one row more
pub record IsLeadOver (row : Row) (mine : List Event) (old new : Lead) : Type 0 where
  pub stands : LeadStandsFor mine old
  pub others : new ≡ record old { config = with_more old.config (row ∷ []); place = new.place; written = new.written }
  pub written : new.written.items ≡ old.written.items ++ 0 ∷ []
  pub stays : rests old.place ≡ false → new.place ≡ old.place
  pub wakes : rests old.place ≡ true → new.place ≡ late_from (with_more old.config (row ∷ [])) old.id mine old.heads 0

-- it has heeded the scores
heeded_over : (row : Row) (mine : List Event) (old new : Lead) → IsLeadOver row mine old new → HasHeeded mine old → HasHeeded mine new
heeded_over row mine old new over heeded = subst (λ (l : Lead). HasHeeded mine l) (sym over.others) heeded

-- the verb of its place, unless it rested
verb_over : (row : Row) (mine : List Event) (old new : Lead) (values : List ℕ) → IsLeadOver row mine old new → rests old.place ≡ false → verb_of new values ≡ verb_of old values
verb_over row mine old new values over off =
    let k = with_more old.config (row ∷ []) in
    ap (λ (l : Lead). verb_at l.config l.number values l.up new.written.items new.place) over.others
    ∙ (ap (λ w. verb_at k old.number values old.up w new.place) over.written
    ∙ (ap (λ p. verb_at k old.number values old.up (old.written.items ++ 0 ∷ []) p) (over.stays off)
    ∙ verb_grown old.config row old.id old.number mine values old.up old.reach old.written.items old.place over.stands.tables.rows over.stands.at))

due_over : (c : Config) (row : Row) (r : ℕ) (mine : List Event) (old new : Lead) → IsLeadOver row mine old new → rests old.place ≡ false → lead_due (with_more c (row ∷ [])) r mine new ≡ lead_due c r mine old
due_over c row r mine old new over off =
    ap (λ values. if leader c r mine == r then verb_of new values else None) (known_kept c (row ∷ []) r mine)
    ∙ ap (λ (v : Option Verb). if leader c r mine == r then v else None) (verb_over row mine old new (known c r mine) over off)

-- one at rest has none due
rest_has_none : (c : Config) (b : ℕ) (values up written : List ℕ) (place : Place) → rests place ≡ true → verb_at c b values up written place ≡ None
rest_has_none c b values up written Place.Rest on = refl
rest_has_none c b values up written place on = absurd (true≢false (sym on))

no_choice : (t : Bool) (v : Option Verb) → v ≡ None → (if t then v else None) ≡ None
no_choice true v none = none
no_choice false v none = refl

works_if_due : (c : Config) (r : ℕ) (mine : List Event) (lead : Lead) (due : Option Verb) → due ≡ lead_due c r mine lead → is_some due ≡ true → rests lead.place ≡ false
works_if_due c r mine lead due is some = go (rests lead.place) refl
  where
    go : (t : Bool) → rests lead.place ≡ t → rests lead.place ≡ false
    go true on = absurd (true≢false (sym some ∙ (ap is_some is ∙ ap is_some (no_choice (leader c r mine == r) (verb_of lead (known c r mine)) (rest_has_none lead.config lead.number (known c r mine) lead.up lead.written.items lead.place on)))))
    go false off = off

-- whether it leads
rest_leads : (place : Place) → rests place ≡ true → leads_at place ≡ true
rest_leads Place.Rest on = refl
rest_leads place on = absurd (true≢false (sym on))

leads_over : (row : Row) (mine : List Event) (old new : Lead) → IsLeadOver row mine old new → leads_at new.place ≡ leads_at old.place
leads_over row mine old new over = go (rests old.place) refl
  where
    go : (t : Bool) → rests old.place ≡ t → leads_at new.place ≡ leads_at old.place
    go true on = ap leads_at (over.wakes on) ∙ (late_leads (with_more old.config (row ∷ [])) old.id mine old.heads 0 ∙ sym (rest_leads old.place on))
    go false off = ap leads_at (over.stays off)

-- which rows it writes ahead
ahead_verb_over : (row : Row) (mine : List Event) (old new : Lead) (j : ℕ) → IsLeadOver row mine old new → get_or old.written.items j 12 < 12 → ahead_verb new j ≡ ahead_verb old j
ahead_verb_over row mine old new j over lacks =
    ap (λ (l : Lead). Verb.WriteRow j (get_or new.written.items j 12) (config_word l.config j (get_or new.written.items j 12))) over.others
    ∙ (ap (λ w. Verb.WriteRow j (get_or w j 12) (config_word (with_more old.config (row ∷ [])) j (get_or w j 12))) over.written
    ∙ write_grown old.config row old.written.items j over.stands.tables.rows lacks)

ahead_over : (row : Row) (mine : List Event) (old new : Lead) (j : ℕ) → IsLeadOver row mine old new → IsAhead old j → IsAhead new j
ahead_over row mine old new j over ahead = record {
  leads = leads_over row mine old new over ∙ ahead.leads;
  lacks = subst (λ k. k < 12) (sym (ap (λ w. get_or w j 12) over.written ∙ (next_word_grown old.written.items j ahead.lacks).1)) ahead.lacks;
  after = λ u last offer is. after (rests old.place) u last offer refl is;
}
  where
    after : (t : Bool) (u last : ℕ) (offer : Offer) → rests old.place ≡ t → new.place ≡ Place.Write u last offer → last < j
    after true u last offer on is = absurd (late_writes_none (with_more old.config (row ∷ [])) old.id mine old.heads 0 u last offer (sym (over.wakes on) ∙ is))
    after false u last offer off is = ahead.after u last offer (sym (over.stays off) ∙ is)

writes_over : (row : Row) (mine : List Event) (old new : Lead) (verb : Verb) → IsLeadOver row mine old new → WritesAhead old verb → WritesAhead new verb
writes_over row mine old new verb over writes = λ on. (let was = writes on in (was.0, (was.1.0 ∙ sym (ahead_verb_over row mine old new was.0 over was.1.1.lacks), ahead_over row mine old new was.0 over was.1.1)))

-- so what was planned fits it
fits_over : (c : Config) (row : Row) (r : ℕ) (mine : List Event) (old new : Lead) (leads : Bool) (due : Option Verb) → IsLeadOver row mine old new → (leads ≡ true → is_some due ≡ true) → FitsLead c r mine old leads due → FitsLead (with_more c (row ∷ [])) r mine new leads due
fits_over c row r mine old new true due over some fits = (heeded_over row mine old new over fits.0, fits.1 ∙ sym (due_over c row r mine old new over (works_if_due c r mine old due fits.1 (some refl))))
fits_over c row r mine old new false due over some fits = (ap (λ t. is_beside t (verb_or_beat due)) (leads_over row mine old new over) ∙ fits.0, writes_over row mine old new (verb_or_beat due) over fits.1)

-- a node that went over to one row more, and the events that it stands for
pub record IsOver (c : Config) (row : Row) (r : ℕ) (mine : List Event) (old new : Node) : Type 0 where
  pub good : IsConfig c
  pub grown : IsConfig (with_more c (row ∷ []))
  pub possible : IsPossible c r mine
  pub was : old.follow.config ≡ c
  pub config : new.follow.config ≡ with_more c (row ∷ [])
  pub own : old.id ≡ r
  pub id : new.id ≡ old.id
  pub zeal : new.zeal ≡ old.zeal
  pub handed : new.follow.progress.handed ≡ old.follow.progress.handed
  pub lead : IsLeadOver row mine old.lead new.lead
  pub stands : StandsInTurn (with_more c (row ∷ [])) r mine new

asks_over : (c : Config) (row : Row) (r : ℕ) (mine : List Event) (old new : Node) (d : Decision) → IsOver c row r mine old new → AsksAnew mine old d → AsksAnew mine new d
asks_over c row r mine old new d over it =
    let c2 = with_more c (row ∷ []) in
    let stands = ported (λ k i. StandsForNode k i mine old) over.was over.own it.stands in
    let count = over.handed ∙ (stands.handed ∙ sym (handed_kept c (row ∷ []) r mine over.good over.grown over.possible)) in
    let id = over.id ∙ over.own in
    record {
      verb = it.verb;
      stands = owned (λ k i. StandsForNode k i mine new) over.config id (with_count c2 r new.follow.progress.handed (handed_before c2 r mine) mine new count over.stands);
      begins = over.lead.stays (ap rests it.begins) ∙ it.begins;
      heeded = heeded_over row mine old.lead new.lead over.lead it.heeded;
      odd = it.odd;
      named = owned (λ k i. is_named k i mine ≡ true) over.config id (ported (λ k i. is_named k i mine ≡ true) over.was over.own it.named);
      asks = owned (λ k i. asks_again k i mine ≡ true) over.config id (ported (λ k i. asks_again k i mine ≡ true) over.was over.own it.asks);
      eager = ap is_eager over.zeal ∙ it.eager;
    }

plans_over : (c : Config) (row : Row) (r : ℕ) (mine : List Event) (old new : Node) (d : Decision) → IsOver c row r mine old new → GoesOnByPlan mine old d → GoesOnByPlan mine new d
plans_over c row r mine old new d over it =
    let c2 = with_more c (row ∷ []) in
    let planned = ported (λ k i. HasPlanned k i mine old) over.was over.own it.planned in
    let count = over.handed ∙ (planned.handed ∙ sym (now_handed_kept c (row ∷ []) r mine over.good over.grown over.possible)) in
    let id = over.id ∙ over.own in
    let due = due_of d.plan in
    let fits = ported (λ k i. FitsLead k i mine old.lead d.plan.leads due) over.was over.own it.fits in
    let reads = ported (λ k i. IsReadNext k i mine (verb_or_beat due)) over.was over.own it.reads in
    record {
      fits = owned (λ k i. FitsLead k i mine new.lead d.plan.leads due) over.config id (fits_over c row r mine old.lead new.lead d.plan.leads due over.lead it.some fits);
      turn = it.turn;
      planned = owned (λ k i. HasPlanned k i mine new) over.config id (with_count c2 r new.follow.progress.handed (handed c2 r mine) mine new count over.stands);
      made = it.made;
      some = it.some;
      reads = owned (λ k i. IsReadNext k i mine (verb_or_beat due)) over.config id (read_kept c (row ∷ []) r mine (verb_or_beat due) over.good over.grown over.possible reads);
    }

-- it has decided what it had
pub decided_over : (c : Config) (row : Row) (r : ℕ) (mine : List Event) (old new : Node) (d : Decision) → IsOver c row r mine old new → HasDecided mine old d → HasDecided mine new d
decided_over c row r mine old new d over it =
    let id = over.id ∙ over.own in
    let verb = d.plan.verb in
    let may = ported (λ k i. Allowed k i mine verb) over.was over.own it.allowed in
    record {
      config = subst IsConfig (sym over.config) over.grown;
      allowed = owned (λ k i. Allowed k i mine verb) over.config id (allowed_more c (row ∷ []) r mine verb over.good over.grown over.possible may);
      asks = λ on. asks_over c row r mine old new d over (it.asks on);
      plans = λ off. plans_over c row r mine old new d over (it.plans off);
    }

-- one that has decided stands in its turn
pub decided_in_turn : (mine : List Event) (node : Node) (d : Decision) → HasDecided mine node d → StandsInTurn node.follow.config node.id mine node
decided_in_turn mine node d it = go d.again refl
  where
    k : Config
    k = node.follow.config

    go : (t : Bool) → d.again ≡ t → StandsInTurn k node.id mine node
    go true on = in_turn k node.id mine node (it.asks on).stands
    go false off = let planned = (it.plans off).planned in with_count k node.id (handed k node.id mine) node.follow.progress.handed mine node (sym planned.handed) planned

-- a node with other room in its parts
record IsRoomier (old new : Node) : Type 0 where
  pub follow : (r : ℕ) (mine : List Event) → StandsForFollow old.follow.config r mine old.follow → StandsForFollow old.follow.config r mine new.follow
  pub config : new.follow.config ≡ old.follow.config
  pub handed : new.follow.progress.handed ≡ old.follow.progress.handed
  pub others : new.lead ≡ record old.lead { written = new.lead.written }
  pub written : new.lead.written.items ≡ old.lead.written.items
  pub lead : (mine : List Event) → LeadStandsFor mine old.lead → LeadStandsFor mine new.lead
  pub id : new.id ≡ old.id
  pub replicas : new.replicas ≡ old.replicas
  pub zeal : new.zeal ≡ old.zeal
  pub budget : new.budget ≡ old.budget
  pub grants : new.grants ≡ old.grants
  pub watch : new.watch ≡ old.watch
  pub log : new.log.items ≡ old.log.items
  pub log_grows : vec_capacity old.log ≤ vec_capacity new.log
  pub commits : new.commits.items ≡ old.commits.items
  pub commits_grow : vec_capacity old.commits ≤ vec_capacity new.commits
  pub table : new.answers.table ≡ old.answers.table
  pub told : new.answers.replies ≡ old.answers.replies
  pub left : old.answers.left ≤ new.answers.left

roomier_holds : (c : Config) (r n : ℕ) (mine : List Event) (old new : Node) → IsRoomier old new → HoldsNode c r mine n old → HoldsNode c r mine n new
roomier_holds c r n mine old new is held =
    let follow = follow_roomy c r mine old.follow new.follow held.beside.follow (is.follow r mine) in
    let lead = lead_roomy c r mine old.lead new.lead held.lead (ap (λ (l : Lead). l.config) is.others) (ap (λ (l : Lead). l.id) is.others) (is.lead mine) in
    node_same c r n mine old new held follow is.handed lead is.id is.replicas is.budget is.grants is.watch is.log is.log_grows is.commits is.commits_grow is.table is.told is.left

-- its leader has due what it had
verb_roomy : (old new : Lead) (values : List ℕ) → new ≡ record old { written = new.written } → new.written.items ≡ old.written.items → verb_of new values ≡ verb_of old values
verb_roomy old new values others written =
    ap (λ (l : Lead). verb_at l.config l.number values l.up new.written.items l.place) others
    ∙ ap (λ w. verb_at old.config old.number values old.up w old.place) written

ahead_verb_roomy : (old new : Lead) (j : ℕ) → new ≡ record old { written = new.written } → new.written.items ≡ old.written.items → ahead_verb new j ≡ ahead_verb old j
ahead_verb_roomy old new j others written =
    ap (λ (l : Lead). Verb.WriteRow j (get_or new.written.items j 12) (config_word l.config j (get_or new.written.items j 12))) others
    ∙ ap (λ w. Verb.WriteRow j (get_or w j 12) (config_word old.config j (get_or w j 12))) written

ahead_roomy : (old new : Lead) (j : ℕ) → new ≡ record old { written = new.written } → new.written.items ≡ old.written.items → IsAhead old j → IsAhead new j
ahead_roomy old new j others written ahead = record {
  leads = ap (λ (l : Lead). leads_at l.place) others ∙ ahead.leads;
  lacks = subst (λ k. k < 12) (sym (ap (λ w. get_or w j 12) written)) ahead.lacks;
  after = λ u last offer is. ahead.after u last offer (sym (ap (λ (l : Lead). l.place) others) ∙ is);
}

fits_roomy : (c : Config) (r : ℕ) (mine : List Event) (old new : Lead) (leads : Bool) (due : Option Verb) → new ≡ record old { written = new.written } → new.written.items ≡ old.written.items → FitsLead c r mine old leads due → FitsLead c r mine new leads due
fits_roomy c r mine old new true due others written fits = (
  subst (λ (l : Lead). HasHeeded mine l) (sym others) fits.0,
  fits.1 ∙ sym (ap (λ (v : Option Verb). if leader c r mine == r then v else None) (verb_roomy old new (known c r mine) others written)),
)
fits_roomy c r mine old new false due others written fits = (
  ap (λ (l : Lead). is_beside (leads_at l.place) (verb_or_beat due)) others ∙ fits.0,
  λ on. (let was = fits.1 on in (was.0, (was.1.0 ∙ sym (ahead_verb_roomy old new was.0 others written), ahead_roomy old new was.0 others written was.1.1))),
)

roomier_asks : (mine : List Event) (old new : Node) (d : Decision) → IsRoomier old new → AsksAnew mine old d → AsksAnew mine new d
roomier_asks mine old new d is it =
    let k = old.follow.config in
    record {
      verb = it.verb;
      stands = owned (λ k i. StandsForNode k i mine new) is.config is.id (roomier_holds k old.id (handed_before k old.id mine) mine old new is it.stands);
      begins = ap (λ (l : Lead). l.place) is.others ∙ it.begins;
      heeded = subst (λ (l : Lead). HasHeeded mine l) (sym is.others) it.heeded;
      odd = it.odd;
      named = owned (λ k i. is_named k i mine ≡ true) is.config is.id it.named;
      asks = owned (λ k i. asks_again k i mine ≡ true) is.config is.id it.asks;
      eager = ap is_eager is.zeal ∙ it.eager;
    }

roomier_plans : (mine : List Event) (old new : Node) (d : Decision) → IsRoomier old new → GoesOnByPlan mine old d → GoesOnByPlan mine new d
roomier_plans mine old new d is it =
    let k = old.follow.config in
    let due = due_of d.plan in
    record {
      fits = owned (λ k i. FitsLead k i mine new.lead d.plan.leads due) is.config is.id (fits_roomy k old.id mine old.lead new.lead d.plan.leads due is.others is.written it.fits);
      turn = it.turn;
      planned = owned (λ k i. HasPlanned k i mine new) is.config is.id (roomier_holds k old.id (handed k old.id mine) mine old new is it.planned);
      made = it.made;
      some = it.some;
      reads = owned (λ k i. IsReadNext k i mine (verb_or_beat due)) is.config is.id it.reads;
    }

-- it stands on
pub stands_on : (old new : Node) → ((r : ℕ) (mine : List Event) → StandsForFollow old.follow.config r mine old.follow → StandsForFollow old.follow.config r mine new.follow) → new.follow.config ≡ old.follow.config → new.follow.progress.handed ≡ old.follow.progress.handed
    → new.lead ≡ record old.lead { written = new.lead.written } → new.lead.written.items ≡ old.lead.written.items → ((mine : List Event) → LeadStandsFor mine old.lead → LeadStandsFor mine new.lead)
    → new.id ≡ old.id → new.replicas ≡ old.replicas → new.zeal ≡ old.zeal → new.budget ≡ old.budget → new.grants ≡ old.grants → new.watch ≡ old.watch → new.log.items ≡ old.log.items → vec_capacity old.log ≤ vec_capacity new.log
    → new.commits.items ≡ old.commits.items → vec_capacity old.commits ≤ vec_capacity new.commits → new.answers.table ≡ old.answers.table → new.answers.replies ≡ old.answers.replies → old.answers.left ≤ new.answers.left → StandsOn old new
stands_on old new follow config same others items lead id replicas zeal budget grants watch log log_grows commits commits_grow table told left = record {
  stands = λ c r mine held. roomier_holds c r (handed_before c r mine) mine old new is held;
  decided = λ mine d it. record {
    config = subst IsConfig (sym config) it.config;
    allowed = owned (λ k i. Allowed k i mine d.plan.verb) config id it.allowed;
    asks = λ on. roomier_asks mine old new d is (it.asks on);
    plans = λ off. roomier_plans mine old new d is (it.plans off);
  };
}
  where
    is : IsRoomier old new
    is = record {
      follow = follow;
      config = config;
      handed = same;
      others = others;
      written = items;
      lead = lead;
      id = id;
      replicas = replicas;
      zeal = zeal;
      budget = budget;
      grants = grants;
      watch = watch;
      log = log;
      log_grows = log_grows;
      commits = commits;
      commits_grow = commits_grow;
      table = table;
      told = told;
      left = left;
    }
