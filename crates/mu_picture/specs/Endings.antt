-- That the ends of journals are drawn.
use Rattle.std.specs.Prelude.{◌≡◌, Bool, None, Some, List, ◌∷◌}
use Rattle.std.specs.declared.option.Option.{Option}
use Rattle.mu_model.specs.declared.config.Config.{Config}
use Rattle.mu_model.specs.declared.event.Event.{Event}
use Rattle.mu_model.specs.declared.script.End.{End}
use Rattle.mu_model.specs.declared.script.Script.{Script}
use Rattle.mu_model.specs.Ends.{Obeys}
use Rattle.mu_model.specs.Histories.{part}
use Rattle.mu_picture.specs.Marks.{kept, mark_of}
use Rattle.mu_picture.specs.declared.deeds.Deed.{Deed}
use Rattle.mu_course.specs.declared.halts.Halt.{Halt}
use Rattle.mu_picture.specs.declared.marks.Mark.{Mark}

-- what the replica does by a mark, if there is one
abbrev pub deed_in : Option Mark → Option Deed
deed_in None = None
deed_in (Some mark) = mark.deed

-- what befalls it by one
abbrev pub halt_in : Option Mark → Option Halt
halt_in None = None
halt_in (Some mark) = mark.halt

-- the mark tells this end
abbrev pub Shows : Option Mark → End → Type 0
Shows mark End.Stopped = halt_in mark ≡ Some Halt.Stop
Shows mark End.Budget = halt_in mark ≡ Some Halt.Spent
Shows mark (End.Outrun p i) = deed_in mark ≡ Some (Deed.Outrun p i)
Shows mark (End.Finished heads) = halt_in mark ≡ Some Halt.Finish

-- of each journal that obeys its script the last step has a mark, which tells the journal's end, in
-- brief or not
abbrev pub EndsAreDrawn : Type 0
EndsAreDrawn =
    (c : Config) (script : Script) (brief : Bool) (past : List Event) (e : Event) (end : End)
    → Obeys c script e.by (part e.by (e ∷ past)) end
    → Shows (kept brief (mark_of c script past e)) end
