-- What readers saw of a replay is short enough to be printed.
use Rattle.std.proofs.Common.{◌≡◌, ℕ, ◌+◌, ◌<◌, ◌≤◌, ◌^◌, List, [], ◌∷◌, ap, length, length-append, arith}
use Rattle.std.proofs.lemmas.List.{length-map}
use Rattle.kv_store.specs.Commands.{Request}
use Rattle.mu_outcome.specs.declared.outcome.Outcome.{Outcome}
use Rattle.mu_report.specs.Lives.{HasShortSights}
use Rattle.snap_reads.specs.declared.sight.Sight.{Sight}
use Rattle.snap_reads.specs.Keys.{gets, gets_beside, keys_of, round}
use Rattle.snap_reads.specs.Lives.{keys_seen, told_commands, AreAllSights, AreSights}
use Rattle.snap_reads.proofs.Keying.{keys_few}
use Rattle.snap_reads.proofs.Watched.{round_length}

few_beside : (keys : List (List ℕ)) → gets_beside keys ≤ 200
few_beside [] = omega arith
few_beside (key ∷ keys) = omega arith

few_sights : (commands : List Request) (sights : List Sight) → length commands ≤ 1500 → AreSights commands (keys_of commands) sights → length sights < 2 ^ 32
few_sights commands sights few seen =
    let all = keys_of commands in
    let one : length (keys_seen sights) ≡ length sights = length-map sights (λ sight. sight.key) in
    let same : length (keys_seen sights) ≡ length (gets all) = ap length seen.keys in
    let parts : length (gets all) ≡ length (round all (gets_beside all)) + length all = length-append (round all (gets_beside all)) all in
    omega (arith, few, one, same, parts, round_length all (gets_beside all), few_beside all, keys_few commands)

pub short_sights : (o : Outcome) (readers : ℕ) (lists : List (List Sight)) → readers ≤ 4 → length (told_commands o) ≤ 1500 → AreAllSights o readers lists → HasShortSights lists
short_sights o readers lists low few seen =
    let count = seen.count in
    (omega (arith, count, low), λ i d within. few_sights (told_commands o) _ few (seen.each i d within))
