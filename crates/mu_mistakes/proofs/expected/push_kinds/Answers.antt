use Rattle.std.proofs.Common.{◌≡◌, ◌+◌, ◌≤◌, ℕ, List, ◌++◌, ap, arith, length, length-append}
use Rattle.kv_store.specs.declared.command.TheConstants.{OP_KINDS}
use Rattle.mu_mistakes.specs.Expected.{kinds_words}
use Rattle.mu_mistakes.proofs.expected.push_kinds.Goals as goal

-- what is there so far is no longer than all that will be there
so_far : (out rest before all : List ℕ) → out ++ rest ≡ before ++ all → length out ≤ length before + length all
so_far out rest before all same = let long = ap length same in omega (arith, long, length-append out rest, length-append before all)

pub push-requires : goal.push-requires
push-requires c =
    let few = so_far c.loop-kind.out _ c.args.out.now (kinds_words OP_KINDS) c.loop-kind.invariant in
    omega (arith, few, c.requires, c.name.ensures.short)

pub push-requires-in-loop-kind : goal.push-requires-in-loop-kind
push-requires-in-loop-kind c =
    let few = so_far c.loop-kind.out _ c.args.out.now (kinds_words OP_KINDS) c.loop-kind.invariant in
    omega (arith, few, c.requires, c.name.ensures.short, c.push.ensures.len, c.behind_name.ensures.short)
