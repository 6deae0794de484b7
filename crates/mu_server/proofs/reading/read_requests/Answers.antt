use Rattle.mu_server.proofs.Slots.{one-along, one-same}
use Rattle.mu_server.proofs.reading.read_requests.Goals as goal

pub requests-init : goal.requests-init
requests-init g c = λ life number now. one-same _ _ life number c.args.connection.now now

pub returns-in_err-step : goal.returns-in_err-step
returns-in_err-step g c = λ life number now.
    let first = c.requests.invariant life number now in
    one-along _ _ _ _ life number _ _ _ first (c.read_next.ensures first.after number first.now)

pub returns-then-ne : goal.returns-then-ne
returns-then-ne g c = λ life number now.
    let first = c.requests.invariant life number now in
    one-along _ _ _ _ life number _ _ _ first (c.read_next.ensures first.after number first.now)

pub requests-preserved : goal.requests-preserved
requests-preserved g c = λ life number now.
    let first = c.requests.invariant life number now in
    one-along _ _ _ _ life number _ _ _ first (c.read_next.ensures first.after number first.now)
