use Rattle.std.proofs.Common.{◌≡◌, ◌∙◌, [], Some, length, refl, subst, sym, true, arith}
use Rattle.std.proofs.lemmas.Option.{slice_get_read}
use Rattle.std.specs.List.{slice_get}
use Rattle.mu_server.proofs.Steps.{rests-of}
use Rattle.mu_server.proofs.single.state_at.Goals as goal

pub returns : goal.returns
returns c = λ rests life connection session here holds.
    let all = c.args.connections.now in
    let held = c.index-connections-at.result in
    let there : slice_get all c.args.at ≡ Some held = slice_get_read all (length all) c.args.at held refl (omega arith) c.index-connections-at.is in
    let both : Some held ≡ Some connection = sym there ∙ here in
    let same : held ≡ connection = cc in
    let known = c.state.ensures.rests rests in
    rests-of life c.args.at session connection (subst (λ n. n.is_read ≡ true) same known.0) (subst (λ n. n.waiting.items ≡ []) same known.1) (subst (λ n. n.output ≡ []) same known.2) holds
