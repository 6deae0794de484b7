-- What is said in a lane and beside the lanes.
use Rattle.std.specs.Prelude.{ℕ, ◌+◌, ◌-◌, ◌%◌, Bool, true, false, if◌then◌else◌, None, Some, List, [], ◌∷◌, ◌++◌, codes}
use Rattle.std.specs.Fmt.{decimal}
use Rattle.std.specs.declared.option.Option.{Option}
use Rattle.kv_store.specs.Commands.{Request}
use Rattle.mu_events.specs.Lines.{event_line}
use Rattle.mu_input.specs.JobLines.{op_words}
use Rattle.mu_input.specs.declared.job.Job.{Job}
use Rattle.mu_model.specs.Contents.{is_mark}
use Rattle.mu_model.specs.declared.event.Event.{Event}
use Rattle.mu_outcome.specs.Entries.{commands_of}
use Rattle.mu_picture.specs.declared.deeds.Deed.{Deed}
use Rattle.mu_course.specs.declared.halts.Halt.{Halt}
use Rattle.mu_picture.specs.declared.marks.Mark.{Mark}
use Rattle.mu_picture.specs.declared.standings.Resumed.{Resumed}

-- what is said in the lane of a deed's replica
abbrev pub label_words : Option Deed → List ℕ
label_words (Some Deed.Close) = codes "close"
label_words (Some Deed.Drain) = codes "drain"
label_words (Some (Deed.Grant w granted)) =
    codes "to " ++ (decimal w ++ (codes ", grant " ++ decimal (granted + 1)))
label_words (Some (Deed.PutMin p b landed)) = codes "number " ++ decimal b
label_words (Some (Deed.Put p i landed)) = codes "put " ++ decimal i
label_words (Some (Deed.Commit p i v)) = codes "commit " ++ decimal i
label_words (Some (Deed.Learn p i v)) = codes "learns " ++ decimal i
label_words (Some (Deed.Head h)) = codes "applied to " ++ decimal h
label_words (Some (Deed.Fails q named)) = decimal q ++ codes " failed"
label_words (Some (Deed.Trusts q named)) = decimal q ++ codes " alive"
label_words deed = []

-- commands, each with its client and number
abbrev pub commands_words : List Request → List ℕ
commands_words [] = []
commands_words (command ∷ commands) =
    (codes ", " ++ decimal command.client ++ codes "." ++ decimal command.number ++ codes " "
    ++ op_words command.op)
    ++ commands_words commands

-- the mark or the commands that a payload number stands for
abbrev pub entry_words : Job → ℕ → List ℕ
entry_words job v =
    if is_mark job.config (v % 4096 - 4080) v
    then codes ", " ++ decimal (v % 4096 - 4080) ++ codes " is gone"
    else commands_words (commands_of job v)

-- a put that missed
abbrev pub missed_words : Bool → List ℕ → ℕ → ℕ → List ℕ
missed_words true what number p = []
missed_words false what number p =
    codes " misses region "
    ++ (decimal p ++ (what ++ (decimal number ++ codes ", it leads no more")))

-- what ends a leadership, by a region or a replica
abbrev pub lost_words : List ℕ → ℕ → List ℕ
lost_words what id = what ++ (decimal id ++ codes ", it leads no more")

-- whom a replica holds to be failed or alive, and whom it names
abbrev pub held_words : ℕ → List ℕ → ℕ → List ℕ
held_words q how named = codes " holds " ++ (decimal q ++ (how ++ (decimal named ++ [])))

-- where a replica is outrun
abbrev pub outrun_words : ℕ → ℕ → List ℕ
outrun_words p i =
    codes " is outrun at " ++ (decimal p ++ (codes ", position " ++ (decimal i ++ [])))

-- for how many rounds a replica is passed over
abbrev pub pause_words : ℕ → List ℕ
pause_words rounds = codes " pauses for " ++ (decimal rounds ++ codes " rounds")

-- what a commit commits
abbrev pub committed_words : Job → ℕ → ℕ → List ℕ
committed_words job i v = codes " commits " ++ (decimal i ++ entry_words job v)

-- the words on what a step does
abbrev pub done_words : Job → Deed → List ℕ
done_words job (Deed.PutMin p b landed) = missed_words landed (codes " with number ") b p
done_words job (Deed.Put p i landed) = missed_words landed (codes " with position ") i p
done_words job (Deed.Commit p i v) = committed_words job i v
done_words job (Deed.Barred p) = lost_words (codes " is not let into ") p
done_words job (Deed.Deposed p) = lost_words (codes " sees another grant at ") p
done_words job (Deed.Outbid p) = lost_words (codes " reads a greater number at ") p
done_words job (Deed.Resign q) = lost_words (codes " resigns to ") q
done_words job (Deed.Fails q named) = held_words q (codes " failed, names ") named
done_words job (Deed.Trusts q named) = held_words q (codes " alive, names ") named
done_words job (Deed.Outrun p i) = outrun_words p i
done_words job _ = []

-- what is said of a deed
abbrev pub deed_words : Job → Option Deed → List ℕ
deed_words job None = []
deed_words job (Some deed) = done_words job deed

-- the words on what befalls the replica
abbrev pub halt_words : Option Halt → List ℕ
halt_words None = []
halt_words (Some Halt.Stop) = codes " stops"
halt_words (Some Halt.Spent) = codes " has spent its budget"
halt_words (Some Halt.Finish) = codes " has finished"
halt_words (Some (Halt.Pause rounds)) = pause_words rounds

-- the words on a replica that goes on, and on what it does then
abbrev pub resumed_words : Option Resumed → List ℕ → List ℕ
resumed_words None words = words
resumed_words (Some resumed) [] = codes " goes on"
resumed_words (Some resumed) (byte ∷ bytes) = codes " goes on:" ++ (byte ∷ bytes)

-- what is said of a step of r, if there are words for it
abbrev pub note_with : ℕ → ℕ → List ℕ → List ℕ
note_with step r [] = []
note_with step r (byte ∷ bytes) =
    decimal step ++ (codes ": replica " ++ (decimal r ++ (byte ∷ bytes)))

-- what is said of a mark beside the lanes
abbrev pub note_words : Job → Mark → List ℕ
note_words job mark =
    note_with mark.step mark.event.by
    (resumed_words mark.resumed (deed_words job mark.deed ++ halt_words mark.halt))

-- a step, its line if step 0 stands in this one, and its event as a trace has it
abbrev pub step_words : ℕ → ℕ → Event → List ℕ
step_words line step e =
    codes "step " ++ (decimal step ++ (codes ", line "
    ++ (decimal (line + step) ++ (codes ": " ++ (event_line e ++ [])))))
