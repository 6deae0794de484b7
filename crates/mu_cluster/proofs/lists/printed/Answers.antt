use Rattle.std.proofs.Common.{◌∙◌, ◌++◌, ap, arith, cond, is_ok, length}
use Rattle.mu_cluster.proofs.lists.printed.Goals as goal

pub unwrap-requires : goal.unwrap-requires
unwrap-requires c =
    let room = c.requires.room in
    let long = ap length (c.longest_replies.ensures room.0 room.1 room.2) in
    let none = ap length c.requires.empty in
    c.extend_from_slice.ensures.succeeds (omega (arith, none, long, room.3))

pub returns : goal.returns
returns c f nil are =
    let told = c.longest_replies.result.now in
    let before = c.args.room.items in
    c.from_vec.ensures
    ∙ (c.extend_from_slice.ensures.items
    ∙ (ap (λ x. cond (is_ok x) (before ++ told) before) c.unwrap.ensures ∙ (ap (λ l. l ++ told) c.requires.empty ∙ c.longest_replies.ensures f nil are)))
