use Rattle.std.proofs.Common.{sym, subst}
use Rattle.std.specs.Prelude.{IsTrue, ◌↔◌}
use Rattle.mu_model.specs.declared.event.Verb.{Verb}
use Rattle.mu_model.specs.Points.{AreMet, points}
use Rattle.mu_replicas.proofs.Points.{met_by}
use Rattle.mu_replicas.proofs.replica.Replica.meets_points.Goals as goal

pub returns-in-Beat : goal.returns-in-Beat
returns-in-Beat c r mine possible held met = met_by c.args.config.now r mine c.args.verb.now Verb.Beat _ _ _ c.new-found.ensures.none c.in-Beat.is (λ start. start) (c.is_none.ensures c.args.config.now r mine) met

pub returns-in-ReadRow : goal.returns-in-ReadRow
returns-in-ReadRow c r mine possible held met = met_by c.args.config.now r mine c.args.verb.now (Verb.ReadRow c.in-ReadRow.v c.in-ReadRow.k) _ _ _ c.new-found.ensures.none c.in-ReadRow.is (c.why_no_read_row.ensures r mine held) (c.is_none-in-ReadRow.ensures c.args.config.now r mine) met

pub returns-in-ReadAsk : goal.returns-in-ReadAsk
returns-in-ReadAsk c r mine possible held met = met_by c.args.config.now r mine c.args.verb.now (Verb.ReadAsk c.in-ReadAsk.w) _ _ _ c.new-found.ensures.none c.in-ReadAsk.is (c.why_no_read_ask.ensures r mine held) (c.is_none-in-ReadAsk.ensures c.args.config.now r mine) met

pub returns-in-ReadBeat : goal.returns-in-ReadBeat
returns-in-ReadBeat c r mine possible held met = met_by c.args.config.now r mine c.args.verb.now (Verb.ReadBeat c.in-ReadBeat.q) _ _ _ c.new-found.ensures.none c.in-ReadBeat.is (c.why_no_read_beat.ensures r mine held) (c.is_none-in-ReadBeat.ensures c.args.config.now r mine) met

pub returns-in-Look : goal.returns-in-Look
returns-in-Look c r mine possible held met = met_by c.args.config.now r mine c.args.verb.now (Verb.Look c.in-Look.p c.in-Look.i) _ _ _ c.new-found.ensures.none c.in-Look.is (c.why_no_look.ensures r mine held) (c.is_none-in-Look.ensures c.args.config.now r mine) met

pub returns-in-WriteRow : goal.returns-in-WriteRow
returns-in-WriteRow c r mine possible held met = met_by c.args.config.now r mine c.args.verb.now (Verb.WriteRow c.in-WriteRow.j c.in-WriteRow.k c.in-WriteRow.x) _ _ _ c.new-found.ensures.none c.in-WriteRow.is (c.why_no_write_row.ensures r mine held) (c.is_none-in-WriteRow.ensures c.args.config.now r mine) met

pub returns-in-Head : goal.returns-in-Head
returns-in-Head c r mine possible held met = met_by c.args.config.now r mine c.args.verb.now (Verb.Head c.in-Head.q) _ _ _ c.new-found.ensures.none c.in-Head.is (c.why_no_head.ensures r mine held) (c.is_none-in-Head.ensures c.args.config.now r mine) met

pub returns-in-Fuo : goal.returns-in-Fuo
returns-in-Fuo c r mine possible held met = met_by c.args.config.now r mine c.args.verb.now (Verb.Fuo c.in-Fuo.p) _ _ _ c.new-found.ensures.none c.in-Fuo.is (c.why_no_fuo.ensures r mine held) (c.is_none-in-Fuo.ensures c.args.config.now r mine) met

pub returns-in-Enter : goal.returns-in-Enter
returns-in-Enter c r mine possible held met = met_by c.args.config.now r mine c.args.verb.now (Verb.Enter c.in-Enter.p c.in-Enter.target) _ _ _ c.new-found.ensures.none c.in-Enter.is (c.why_no_enter.ensures r mine held) (c.is_none-in-Enter.ensures c.args.config.now r mine) met

pub returns-in-RaiseFuo : goal.returns-in-RaiseFuo
returns-in-RaiseFuo c r mine possible held met = met_by c.args.config.now r mine c.args.verb.now (Verb.RaiseFuo c.in-RaiseFuo.p c.in-RaiseFuo.u) _ _ _ c.new-found.ensures.none c.in-RaiseFuo.is (c.why_no_raise_fuo.ensures r mine possible held) (c.is_none-in-RaiseFuo.ensures c.args.config.now r mine) met

pub returns-in-RaiseHead : goal.returns-in-RaiseHead
returns-in-RaiseHead c r mine possible held met = met_by c.args.config.now r mine c.args.verb.now (Verb.RaiseHead c.in-RaiseHead.h) _ _ _ c.new-found.ensures.none c.in-RaiseHead.is (c.why_no_raise_head.ensures r mine held) (c.is_none-in-RaiseHead.ensures c.args.config.now r mine) met

pub returns-in-PutSlot : goal.returns-in-PutSlot
returns-in-PutSlot c r mine possible held met =
    let k = c.args.config.now in
    subst (λ v. IsTrue c.meets_put.result ↔ AreMet k r mine (points k r mine v)) (sym c.in-PutSlot.is) (c.meets_put.ensures r mine possible held met)

pub returns-in_default : goal.returns-in_default
returns-in_default c r mine possible held met = c.meets_any.ensures r mine possible held met
