-- How lanes and marks are drawn, as shapes.
use Rattle.std.specs.Prelude.{ℕ, ◌+◌, ◌-◌, ◌==◌, Bool, true, false, if◌then◌else◌, nat_lt, None, Some, List, [], ◌∷◌}
use Rattle.std.specs.declared.option.Option.{Option}
use Rattle.mu_picture.specs.Layout.{lane_of}
use Rattle.mu_picture.specs.declared.deeds.Deed.{Deed}
use Rattle.mu_course.specs.declared.halts.Halt.{Halt}
use Rattle.mu_picture.specs.declared.openings.Opening.{Opening}
use Rattle.mu_picture.specs.declared.shapes.Look.{Look}
use Rattle.mu_picture.specs.declared.shapes.Shape.{Shape}
use Rattle.mu_picture.specs.declared.shapes.Way.{Way}
use Rattle.mu_picture.specs.declared.standings.Resumed.{Resumed}

-- the bar of the region of r, owned from y on
abbrev pub owned_shape : ℕ → ℕ → ℕ → Shape
owned_shape r y owner = Shape.Bar (Look.Of owner) (lane_of r + 44) y 8

-- the bar of the region of r, closing from y on
abbrev pub closing_shape : ℕ → ℕ → Shape
closing_shape r y = Shape.Bar Look.Closing (lane_of r + 44) y 8

-- a leadership of r from y on
abbrev pub leading_shape : ℕ → ℕ → Shape
leading_shape r y = Shape.Bar (Look.Of r) (lane_of r + 2) y 12

-- no leadership of r from y on
abbrev pub resting_shape : ℕ → ℕ → Shape
resting_shape r y = Shape.Bar Look.Ground (lane_of r + 1) y 14

-- whom r names from y on
abbrev pub naming_shape : ℕ → ℕ → ℕ → Shape
naming_shape r y named = Shape.Bar (Look.Of named) (lane_of r - 7) y 3

-- the line of the lane of r from y on
abbrev pub lane_shape : ℕ → ℕ → Shape
lane_shape r y = Shape.Bar Look.Lane (lane_of r) y 1

-- a dot in the lane of r
abbrev pub dot_shape : Look → ℕ → ℕ → Shape
dot_shape look r y = Shape.Dot look (lane_of r + 8) y

-- a pause of r from y on
abbrev pub paused_shape : ℕ → ℕ → Shape
paused_shape r y = Shape.Bar Look.Hatched (lane_of r + 2) y 12

-- no more of the lane of r from y on
abbrev pub bare_shape : ℕ → ℕ → Shape
bare_shape r y = Shape.Bar Look.Ground (lane_of r - 8) y 24

-- the edge of a square that a line goes to the left from, or to the right
abbrev pub edge_of : Bool → ℕ
edge_of true = 5
edge_of false = 11

-- the end of a line at a bar of a region: in the middle if it missed, else the nearer side
abbrev pub tip_of : Bool → Bool → ℕ
tip_of true left = 48
tip_of false true = 52
tip_of false false = 44

-- a line from the lane of r to the region of p
abbrev pub across_shape : Look → Bool → ℕ → ℕ → ℕ → Shape
across_shape look missed r y p =
    Shape.Line look
    (Way.Across (lane_of r + edge_of (nat_lt p r)) y
    (lane_of p + tip_of missed (nat_lt p r)) missed (nat_lt p r))

-- a put: if it missed, it ends a leadership
abbrev pub put_shapes : Bool → ℕ → ℕ → ℕ → List Shape
put_shapes true r y p = across_shape Look.Landed false r y p ∷ []
put_shapes false r y p = resting_shape r y ∷ across_shape Look.Missed true r y p ∷ []

-- an ask: the first begins a leadership
abbrev pub ask_shapes : ℕ → ℕ → ℕ → List Shape
ask_shapes r y p =
    if p == 0 then leading_shape r y ∷ across_shape Look.Asks false r y p ∷ []
    else across_shape Look.Asks false r y p ∷ []

-- the end of the lane of r below y, with a cross
abbrev pub ended_shapes : ℕ → ℕ → List Shape
ended_shapes r y =
    bare_shape r (y + 6) ∷ Shape.Line Look.Sign (Way.Cross (lane_of r + 4) (y + 2)) ∷ []

-- the end of the lane of r below y, if it has finished
abbrev pub finished_shapes : ℕ → ℕ → List Shape
finished_shapes r y =
    bare_shape r (y + 6) ∷ Shape.Line Look.Sign (Way.Level (lane_of r) (y + 5)) ∷ []

-- what a deed of r is drawn as, in the row at y
abbrev pub deed_shapes : ℕ → ℕ → Option Deed → List Shape
deed_shapes r y None = []
deed_shapes r y (Some (Deed.Ask p)) = ask_shapes r y p
deed_shapes r y (Some Deed.Close) = closing_shape r y ∷ []
deed_shapes r y (Some Deed.Drain) = []
deed_shapes r y (Some (Deed.Grant w granted)) = owned_shape r y w ∷ []
deed_shapes r y (Some (Deed.PutMin p b landed)) = put_shapes landed r y p
deed_shapes r y (Some (Deed.Put p i landed)) = put_shapes landed r y p
deed_shapes r y (Some (Deed.Commit p i v)) = across_shape Look.Commits false r y p ∷ []
deed_shapes r y (Some (Deed.Learn p i v)) = dot_shape Look.Landed r y ∷ []
deed_shapes r y (Some (Deed.Head h)) = dot_shape Look.Closing r y ∷ []
deed_shapes r y (Some (Deed.Barred p)) = resting_shape r y ∷ []
deed_shapes r y (Some (Deed.Deposed p)) = resting_shape r y ∷ []
deed_shapes r y (Some (Deed.Outbid p)) = resting_shape r y ∷ []
deed_shapes r y (Some (Deed.Resign q)) = resting_shape r y ∷ []
deed_shapes r y (Some (Deed.Fails q named)) = naming_shape r y named ∷ []
deed_shapes r y (Some (Deed.Trusts q named)) = naming_shape r y named ∷ []
deed_shapes r y (Some (Deed.Outrun p i)) = ended_shapes r y

-- what befalls r is drawn as this, in the row at y
abbrev pub halt_shapes : ℕ → ℕ → Option Halt → List Shape
halt_shapes r y None = []
halt_shapes r y (Some Halt.Stop) = ended_shapes r y
halt_shapes r y (Some Halt.Spent) = ended_shapes r y
halt_shapes r y (Some Halt.Finish) = finished_shapes r y
halt_shapes r y (Some (Halt.Pause rounds)) = paused_shape r (y + 6) ∷ []

-- the lane of r from y on: whether it leads, and whom it names
abbrev pub lane_shapes : ℕ → ℕ → Bool → ℕ → List Shape
lane_shapes r y true named =
    naming_shape r y named ∷ lane_shape r y ∷ leading_shape r y ∷ []
lane_shapes r y false named = naming_shape r y named ∷ lane_shape r y ∷ []

-- the lane of a replica that goes on, in the row at y
abbrev pub resumed_shapes : ℕ → ℕ → Option Resumed → List Shape
resumed_shapes r y None = []
resumed_shapes r y (Some resumed) =
    bare_shape r y ∷ lane_shapes r y resumed.leads resumed.named

-- the bar of a region with this owner before the first step
abbrev pub owner_shapes : ℕ → Option ℕ → List Shape
owner_shapes r None = []
owner_shapes r (Some owner) = owned_shape r 92 owner ∷ []

-- the bar of a region before the first step
abbrev pub region_shapes : ℕ → Opening → List Shape
region_shapes r opening =
    if opening.closing then closing_shape r 92 ∷ [] else owner_shapes r opening.owner
