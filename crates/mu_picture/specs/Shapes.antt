-- The shapes and texts that a drawing is made of, as bytes.
use Rattle.std.specs.Prelude.{ℕ, Bool, true, false, ◌==◌, ◌&&◌, if◌then◌else◌, nat_le, List, [], ◌∷◌, ◌++◌, codes}
use Rattle.std.specs.Fmt.{decimal}
use Rattle.mu_picture.specs.declared.shapes.Look.{Look}
use Rattle.mu_picture.specs.declared.shapes.Part.{Part}
use Rattle.mu_picture.specs.declared.shapes.Shape.{Shape}
use Rattle.mu_picture.specs.declared.shapes.Way.{Way}

-- what a byte of a text is written as: an entity if it has a meaning in XML, and a question mark
-- if it isn't visible
abbrev pub escape : ℕ → List ℕ
escape byte =
    if byte == 60 then codes "&lt;"
    else if byte == 62 then codes "&gt;"
    else if byte == 38 then codes "&amp;"
    else if byte == 39 then codes "&apos;"
    else if byte == 34 then codes "&quot;"
    else if nat_le 32 byte && nat_le byte 126 then byte ∷ []
    else codes "?"

-- a text as content
abbrev pub escaped : List ℕ → List ℕ
escaped [] = []
escaped (byte ∷ bytes) = escape byte ++ escaped bytes

-- the class of a look
abbrev pub look_class : Look → List ℕ
look_class Look.Ground = codes "w"
look_class Look.Lane = codes "l"
look_class Look.Closing = codes "c"
look_class Look.Hatched = codes "z"
look_class Look.Folded = codes "f"
look_class Look.Asks = codes "a"
look_class Look.Landed = codes "p"
look_class Look.Missed = codes "q"
look_class Look.Commits = codes "k"
look_class Look.Sign = codes "x"
look_class Look.Wrong = codes "r"
look_class Look.Label = codes "n"
look_class Look.Axis = codes "s"
look_class Look.Note = codes "t"
look_class Look.Fault = codes "t e"
look_class (Look.Of r) = codes "o" ++ decimal r

-- what is at the far end of a line: a cross, or an arrow head to the left or to the right; and the
-- way on to the square
abbrev pub head_bytes : Bool → Bool → List ℕ
head_bytes true left = codes "m-4-4l8 8m0-8l-8 8m4-4H"
head_bytes false true = codes "l6-3v6zH"
head_bytes false false = codes "l-6-3v6zH"

-- the square at its near end
abbrev pub square_bytes : Bool → List ℕ
square_bytes true = codes "v3h6v-6h-6v3"
square_bytes false = codes "v3h-6v-6h6v3"

-- a part of an element
abbrev pub part_bytes : Part → List ℕ
part_bytes (Part.Words words) = words.now
part_bytes (Part.Text words) = escaped words.now
part_bytes (Part.Number number) = decimal number
part_bytes (Part.Class look) = look_class look
part_bytes (Part.Head missed left) = head_bytes missed left
part_bytes (Part.Square left) = square_bytes left

-- parts, one after another
abbrev pub parts_bytes : List Part → List ℕ
parts_bytes [] = []
parts_bytes (part ∷ parts) = part_bytes part ++ parts_bytes parts

-- the way of a line, and what follows it
abbrev pub way_then : Way → List ℕ → List ℕ
way_then (Way.Across x y to missed left) rest =
    codes "M"
    ++ (decimal to ++ (codes " "
    ++ (decimal y ++ (head_bytes missed left ++ (decimal x ++ (square_bytes left ++ rest))))))
way_then (Way.Cross x y) rest =
    codes "M" ++ (decimal x ++ (codes " " ++ (decimal y ++ (codes "l8 8m0-8l-8 8" ++ rest))))
way_then (Way.Level x y) rest =
    codes "M" ++ (decimal x ++ (codes " " ++ (decimal y ++ (codes "h16" ++ rest))))

-- a shape
abbrev pub shape_piece : Shape → List ℕ
shape_piece (Shape.Bar look x y width) =
    codes "<rect class='"
    ++ (look_class look ++ (codes "' x='" ++ (decimal x ++ (codes "' y='"
    ++ (decimal y ++ (codes "' width='" ++ (decimal width ++ codes "' height='100%'/>\n")))))))
shape_piece (Shape.Block look x y width height) =
    codes "<rect class='"
    ++ (look_class look ++ (codes "' x='" ++ (decimal x ++ (codes "' y='"
    ++ (decimal y ++ (codes "' width='" ++ (decimal width ++ (codes "' height='"
    ++ (decimal height ++ codes "'/>\n")))))))))
shape_piece (Shape.Line look way) =
    codes "<path class='"
    ++ (look_class look ++ (codes "' d='" ++ way_then way (codes "'/>\n")))
shape_piece (Shape.Dot look x y) =
    codes "<circle class='"
    ++ (look_class look ++ (codes "' cx='" ++ (decimal x ++ (codes "' cy='"
    ++ (decimal y ++ codes "' r='3'/>\n")))))

-- shapes, one after another
abbrev pub shape_pieces : List Shape → List ℕ
shape_pieces [] = []
shape_pieces (shape ∷ shapes) = shape_piece shape ++ shape_pieces shapes

-- words
abbrev pub text_piece : Look → ℕ → ℕ → List ℕ → List ℕ
text_piece look x y words =
    codes "<text class='"
    ++ (look_class look ++ (codes "' x='" ++ (decimal x ++ (codes "' y='"
    ++ (decimal y ++ (codes "'>" ++ (escaped words ++ codes "</text>\n")))))))

-- words if there are any
abbrev pub said_piece : Look → ℕ → ℕ → List ℕ → List ℕ
said_piece look x y [] = []
said_piece look x y (byte ∷ bytes) = text_piece look x y (byte ∷ bytes)

-- what begins pieces with a tooltip
abbrev pub tooltip_piece : List ℕ → List ℕ
tooltip_piece words = codes "<g><title>" ++ (escaped words ++ codes "</title>\n")

-- pieces with a tooltip
abbrev pub group_piece : List ℕ → List ℕ → List ℕ
group_piece words pieces = tooltip_piece words ++ (pieces ++ codes "</g>\n")
