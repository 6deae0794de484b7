use Rattle.std.proofs.Common.{◌≡◌, true, ap, get_or, refl, subst, sym}
use Rattle.std.proofs.lemmas.Option.{slice_get-get_or}
use Rattle.mu_server.specs.Holding.{IsReadUp}
use Rattle.mu_server.specs.Serving.{no_bytes}
use Rattle.mu_server.proofs.Slots.{moves-at}
use Rattle.mu_server.proofs.Steps.{moves-parts}
use Rattle.mu_server.proofs.single.close_at.Goals as goal

pub returns : goal.returns
returns c = λ life k connection session here holds.
    let all = c.args.connections.now in
    let at = c.args.at in
    let old = get_or all at c.index-connections-at.result in
    let closed = c.close.ensures in
    moves-at life all at old c.close.new.self no_bytes no_bytes (slice_get-get_or all at c.index-connections-at.result c.requires) (λ number is. (refl, refl))
    (λ s held. moves-parts life at s old c.close.new.self (ap (λ n. n.input) closed) (ap (λ n. n.output) closed) (ap (λ n. n.waiting.items) closed) (ap (λ n. n.is_ending) closed)
    (subst (λ n. n.is_read ≡ true → IsReadUp n.input n.is_ending) (sym closed) held.read_up) held) k connection session here holds
