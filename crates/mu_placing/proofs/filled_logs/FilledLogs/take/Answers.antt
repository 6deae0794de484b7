use Rattle.std.proofs.Common.{rules, List, ◌∷◌, ◌∙◌, length, drop, sym, ap, subst}
use Rattle.mu_placing.specs.FilledLogs.{HoldsCoverages}
use Rattle.std.proofs.lemmas.List.{take_at}
use Rattle.mu_placing.specs.declared.filled_logs.Coverage.{Coverage}
use Rattle.mu_placing.proofs.LogsKept.{covering_kept}
use Rattle.mu_placing.proofs.filled_logs.FilledLogs.take.Goals as goal

pub returns : goal.returns
returns c c' mine config possible before after landings held =
    let same = c.deref_mut.ensures.value in
    let long = c.take_at_regions.auto.regions in
    let back = take_at c.take_at_regions.new.regions (drop (length c.take_at_regions.new.regions) c.args.self.now.regions.items) c.args.self.now.regions.len (long ∙ c.deref_mut.ensures.len) in
    let was = subst (λ (regions : List Coverage). HoldsCoverages c' c.args.r mine regions) (sym same) held.each in
    record {
      count = ap length back ∙ (long ∙ (ap length same ∙ held.count));
      each = subst (λ (regions : List Coverage). HoldsCoverages c' c.args.r (c.args.event.now ∷ mine) regions) (sym back) (c.take_at_regions.ensures c' mine config possible before after landings was);
    }

pub returns-then-not-is_leader_verb : goal.returns-then-not-is_leader_verb
returns-then-not-is_leader_verb c c' mine config possible before after landings held = covering_kept c' c.args.r c.args.event.now mine c.args.self.now (search rules) held
