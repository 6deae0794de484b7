use Rattle.std.proofs.Common.{◌≡◌, List, set, slice_index, subst, sym, ℕ}
use Rattle.mu_model.specs.declared.event.Event.{Event}
use Rattle.mu_model.specs.Allowed.{Allowed}
use Rattle.mu_model.specs.Answers.{answer_of}
use Rattle.mu_model.specs.Histories.{history, part}
use Rattle.mu_model.specs.Packing.{FitsJournal}
use Rattle.mu_model.proofs.Unpacking.{answered_fits}
use Rattle.mu_port.specs.Keeping.{Kept}
use Rattle.word_fabric.specs.Kept.{IsMade, IsWordsKept, place_at}
use Rattle.word_fabric.proofs.Going.{found_there, has_room, kept_next, ready, refilled}
use Rattle.word_fabric.proofs.fabric.WordFabric.make.Goals as goal
use Rattle.mu_words.specs.Verbs.{WordFits}

pub make_step-answer-requires-clause-fields : goal.make_step-answer-requires-clause-fields
make_step-answer-requires-clause-fields c =
    let f = c.self.inside in
    let may = subst (λ (k : Kept). Allowed k.config c.args.by (part c.args.by (history k.events)) c.args.verb) (sym c.self.view_is) c.requires in
    let there = found_there f.founds.items f.config.replicas c.from.result c.args.by c.index_mut-found.result.now c.self.invariant.all_founds may.replica c.from.ensures c.index_mut-found.ensures.value in
    (ready f.config f.kept.events f.kept.room f.layout f.words.items f.founds.items c.index_mut-found.result.now c.args.by c.args.verb c.self.invariant may there).fields

pub make_step-answer-requires-clause-named : goal.make_step-answer-requires-clause-named
make_step-answer-requires-clause-named c =
    let f = c.self.inside in
    let may = subst (λ (k : Kept). Allowed k.config c.args.by (part c.args.by (history k.events)) c.args.verb) (sym c.self.view_is) c.requires in
    let there = found_there f.founds.items f.config.replicas c.from.result c.args.by c.index_mut-found.result.now c.self.invariant.all_founds may.replica c.from.ensures c.index_mut-found.ensures.value in
    (ready f.config f.kept.events f.kept.room f.layout f.words.items f.founds.items c.index_mut-found.result.now c.args.by c.args.verb c.self.invariant may there).named

pub make_step-answer-requires-clause-room : goal.make_step-answer-requires-clause-room
make_step-answer-requires-clause-room c =
    let f = c.self.inside in
    let may = subst (λ (k : Kept). Allowed k.config c.args.by (part c.args.by (history k.events)) c.args.verb) (sym c.self.view_is) c.requires in
    let there = found_there f.founds.items f.config.replicas c.from.result c.args.by c.index_mut-found.result.now c.self.invariant.all_founds may.replica c.from.ensures c.index_mut-found.ensures.value in
    subst (λ ws. WordFits c.args.verb (slice_index ws (place_at f.layout c.args.by c.index_mut-found.result.now c.args.verb))) (sym c.deref_mut.ensures.value)
    (ready f.config f.kept.events f.kept.room f.layout f.words.items f.founds.items c.index_mut-found.result.now c.args.by c.args.verb c.self.invariant may there).room

pub push-requires-clause-room : goal.push-requires-clause-room
push-requires-clause-room c =
    let f = c.self.inside in
    let may = subst (λ (k : Kept). Allowed k.config c.args.by (part c.args.by (history k.events)) c.args.verb) (sym c.self.view_is) c.requires in
    has_room f.config f.kept.events f.kept.room f.layout f.words.items f.founds.items c.args.by c.args.verb c.self.invariant may

pub push-requires-clause-fits : goal.push-requires-clause-fits
push-requires-clause-fits c =
    let f = c.self.inside in
    let r = c.args.by in
    let v = c.args.verb in
    let found = c.index_mut-found.result.now in
    let answer = c.make_step-answer.result in
    let new = c.make_step-answer.new.words in
    let kept = c.make_step-answer.new.found in
    let may = subst (λ (k : Kept). Allowed k.config r (part r (history k.events)) v) (sym c.self.view_is) c.requires in
    let there = found_there f.founds.items f.config.replicas c.from.result r found c.self.invariant.all_founds may.replica c.from.ensures c.index_mut-found.ensures.value in
    let made : IsMade f.layout r v f.words.items found answer new kept = subst (λ ws. IsMade f.layout r v ws found answer new kept) c.deref_mut.ensures.value c.make_step-answer.ensures in
    let is = (ready f.config f.kept.events f.kept.room f.layout f.words.items f.founds.items found r v c.self.invariant may there).answer answer new kept made in
    subst (λ a. FitsJournal (record { by = r; verb = v; answer = a })) (sym is) (answered_fits f.config r (history f.kept.events) v)

pub invariant_of-self : goal.invariant_of-self
invariant_of-self c =
    let f = c.self.inside in
    let r = c.args.by in
    let found = c.index_mut-found.result.now in
    let answer = c.make_step-answer.result in
    let new = c.make_step-answer.new.words in
    let kept = c.make_step-answer.new.found in
    let may = subst (λ (k : Kept). Allowed k.config r (part r (history k.events)) c.args.verb) (sym c.self.view_is) c.requires in
    let there = found_there f.founds.items f.config.replicas c.from.result r found c.self.invariant.all_founds may.replica c.from.ensures c.index_mut-found.ensures.value in
    let made : IsMade f.layout r c.args.verb f.words.items found answer new kept = subst (λ ws. IsMade f.layout r c.args.verb ws found answer new kept) c.deref_mut.ensures.value c.make_step-answer.ensures in
    let same = (ready f.config f.kept.events f.kept.room f.layout f.words.items f.founds.items found r c.args.verb c.self.invariant may there).words answer new kept made in
    let next = kept_next f.config f.kept.events f.kept.room c.push.new.self.room f.layout f.words.items new f.founds.items found kept r c.args.verb answer c.self.invariant may there made c.push.ensures.room in
    let events = subst (λ (es : List Event). IsWordsKept f.config es c.push.new.self.room f.layout new (set f.founds.items r kept)) (sym c.push.ensures.events) next in
    let founds = subst (λ k. IsWordsKept f.config c.push.new.self.events c.push.new.self.room f.layout new (set f.founds.items k kept)) (sym c.from.ensures) events in
    subst (λ (ws : List ℕ). IsWordsKept f.config c.push.new.self.events c.push.new.self.room f.layout ws (set f.founds.items c.from.result kept)) (sym (refilled f.words.items new f.words.len f.words.ok.0 same.1)) founds

pub returns-clause-answer : goal.returns-clause-answer
returns-clause-answer c =
    let f = c.self.inside in
    let r = c.args.by in
    let found = c.index_mut-found.result.now in
    let answer = c.make_step-answer.result in
    let new = c.make_step-answer.new.words in
    let kept = c.make_step-answer.new.found in
    let may = subst (λ (k : Kept). Allowed k.config r (part r (history k.events)) c.args.verb) (sym c.self.view_is) c.requires in
    let there = found_there f.founds.items f.config.replicas c.from.result r found c.self.invariant.all_founds may.replica c.from.ensures c.index_mut-found.ensures.value in
    let made : IsMade f.layout r c.args.verb f.words.items found answer new kept = subst (λ ws. IsMade f.layout r c.args.verb ws found answer new kept) c.deref_mut.ensures.value c.make_step-answer.ensures in
    let is = (ready f.config f.kept.events f.kept.room f.layout f.words.items f.founds.items found r c.args.verb c.self.invariant may there).answer answer new kept made in
    subst (λ (k : Kept). answer ≡ answer_of k.config r (history k.events) c.args.verb) c.self.view_is is

pub returns-clause-legal : goal.returns-clause-legal
returns-clause-legal c = (invariant_of-self c).legal
