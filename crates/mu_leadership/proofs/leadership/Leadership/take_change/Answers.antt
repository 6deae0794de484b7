use Rattle.mu_leadership.proofs.leadership.Leadership.take_change.Goals as goal

pub returns-in-Enter : goal.returns-in-Enter
returns-in-Enter c c' mine few possible held = c.take_entry.ensures c' c.args.r mine c.in-Enter.is possible held

pub returns-in-PutSlot : goal.returns-in-PutSlot
returns-in-PutSlot c c' mine few possible held =
    c.take_put.ensures c' c.args.r c.in-PutSlot.field-1 c.in-PutSlot.field-2 c.in-PutSlot.field-3 mine c.in-PutSlot.is possible held

pub returns-in-Fence : goal.returns-in-Fence
returns-in-Fence c c' mine few possible held = c.take_fence.ensures c' mine few c.in-Fence.is possible held
