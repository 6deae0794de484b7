-- How a picture is drawn: what stands above the lanes, the lanes, and the rows of its marks.
use Rattle.std.specs.Prelude.{ℕ, ◌+◌, ◌-◌, ◌*◌, Bool, true, false, zero, suc, if◌then◌else◌, nat_lt, min, max, None, Some, List, [], ◌∷◌, ◌++◌, codes, length}
use Rattle.std.specs.Fmt.{decimal}
use Rattle.std.specs.declared.option.Option.{Option}
use Rattle.mu_events.specs.Lines.{event_line}
use Rattle.mu_input.specs.declared.job.Job.{Job}
use Rattle.mu_model.specs.declared.config.Config.{Config}
use Rattle.mu_picture.specs.Lanes.{deed_shapes, halt_shapes, lane_shapes, paused_shape, region_shapes, resumed_shapes}
use Rattle.mu_picture.specs.Layout.{after, after_marks, bottom_of, has_titles, lane_of, row_of, stretch_top_of, top}
use Rattle.mu_picture.specs.Shapes.{group_piece, said_piece, shape_piece, shape_pieces, text_piece}
use Rattle.mu_picture.specs.Words.{label_words, note_words, step_words}
use Rattle.mu_picture.specs.declared.drawing.Breach.{Breach}
use Rattle.mu_picture.specs.declared.layout.Cursor.{Cursor}
use Rattle.mu_picture.specs.declared.marks.Mark.{Mark}
use Rattle.mu_picture.specs.declared.openings.Opening.{Opening}
use Rattle.mu_picture.specs.declared.pictures.Picture.{Picture}
use Rattle.mu_picture.specs.declared.shapes.Look.{Look}
use Rattle.mu_picture.specs.declared.shapes.Shape.{Shape}
use Rattle.mu_picture.specs.declared.shapes.Way.{Way}
use Rattle.mu_picture.specs.declared.standings.Standing.{Standing}

-- a word at the axis
abbrev pub axis_piece : ℕ → List ℕ → List ℕ
axis_piece y words = text_piece Look.Axis 56 y words

-- what is said of a mark of r beside n lanes, with a dot in the colour of r
abbrev pub note_piece : ℕ → ℕ → ℕ → List ℕ → List ℕ
note_piece n r y [] = []
note_piece n r y (byte ∷ bytes) =
    shape_piece (Shape.Dot (Look.Of r) (lane_of n + 4) y)
    ++ text_piece Look.Note (lane_of n + 12) (y + 3) (byte ∷ bytes)

-- what a mark is drawn as in the row at y, in its lane
abbrev pub figure_pieces : ℕ → Mark → List ℕ
figure_pieces y mark =
    shape_pieces (resumed_shapes mark.event.by y mark.resumed)
    ++ (shape_pieces (deed_shapes mark.event.by y mark.deed)
    ++ (shape_pieces (halt_shapes mark.event.by y mark.halt)
    ++ said_piece Look.Label (lane_of mark.event.by + 58) (y + 3) (label_words mark.deed)))

-- a mark, in the row at y, beside n lanes: its lane, its step and what is said of it
abbrev pub mark_pieces : Job → ℕ → ℕ → ℕ → Mark → List ℕ
mark_pieces job line n y mark =
    group_piece (step_words line mark.step mark.event)
    (figure_pieces y mark
    ++ (axis_piece (y + 3) ([] ++ decimal mark.step)
    ++ note_piece n mark.event.by y (note_words job mark)))

-- what stands above a lane and its region
abbrev pub title_pieces : ℕ → ℕ → List ℕ
title_pieces r y =
    text_piece Look.Label (lane_of r - 2) y (codes "replica " ++ decimal r)
    ++ text_piece Look.Label (lane_of r + 42) y (codes "region " ++ decimal r)

-- the titles of the first n lanes
abbrev pub titles_pieces : ℕ → ℕ → List ℕ
titles_pieces zero y = []
titles_pieces (suc n) y = titles_pieces n y ++ title_pieces n y

-- the titles again, if they stand above the next row
abbrev pub titles_again : ℕ → Cursor → List ℕ
titles_again n cursor =
    if has_titles cursor then titles_pieces n (cursor.y + 11) else []

-- a strip across n lanes
abbrev pub strip_shape : Look → ℕ → ℕ → ℕ → Shape
strip_shape look n y height =
    Shape.Block look (lane_of 0 - 10) y (lane_of n - lane_of 0) height

-- a folded stretch breaks the bars, and says how many steps it hides
abbrev pub fold_pieces : ℕ → ℕ → ℕ → List ℕ
fold_pieces n y steps =
    if nat_lt 31 steps
    then shape_piece (strip_shape Look.Folded n (y + 3) 10)
    ++ axis_piece (y + 11) (decimal steps ++ codes " steps")
    else []

-- the row of a mark, with the stretch before it
abbrev pub row_pieces : Job → ℕ → ℕ → Cursor → Mark → List ℕ
row_pieces job line n cursor mark =
    titles_again n cursor
    ++ (fold_pieces n (stretch_top_of cursor) (mark.step - cursor.at)
    ++ mark_pieces job line n (row_of cursor mark.step + 6) mark)

-- the rows of the marks
abbrev pub rows_from : Job → ℕ → ℕ → Cursor → List Mark → List ℕ
rows_from job line n cursor [] = []
rows_from job line n cursor (mark ∷ marks) =
    row_pieces job line n cursor mark
    ++ rows_from job line n (after cursor mark.step) marks

-- where the next row of a picture would go
abbrev pub last_cursor : Picture → Cursor
last_cursor picture = after_marks (top picture.first) picture.marks.items

-- where the steps of a picture end
abbrev pub foot_of : Picture → ℕ
foot_of picture = bottom_of picture.end (last_cursor picture)

-- with which step a picture goes on
abbrev pub goes_on_pieces : ℕ → ℕ → List ℕ
goes_on_pieces end y =
    axis_piece (y + 12) (codes "goes on")
    ++ text_piece Look.Label (lane_of 0 - 10) (y + 12) (codes "with step " ++ decimal end)

-- that, if not all steps that are asked for have room
abbrev pub more_pieces : Picture → ℕ → List ℕ
more_pieces picture y =
    if nat_lt picture.end picture.asked then goes_on_pieces picture.end y else []

-- a cross in the lane of r
abbrev pub breach_shape : ℕ → ℕ → Shape
breach_shape r y = Shape.Line Look.Wrong (Way.Cross (lane_of r + 4) y)

-- a line across n lanes, and a cross below it in that of r
abbrev pub breach_figure : ℕ → ℕ → ℕ → List ℕ
breach_figure n r y =
    shape_piece (strip_shape Look.Wrong n (y + 17) 1) ++ shape_piece (breach_shape r (y + 22))

-- words on an event that breaks the list, beside n lanes
abbrev pub fault_piece : ℕ → ℕ → List ℕ → List ℕ
fault_piece n y words = text_piece Look.Fault (lane_of n + 12) y words

-- what is drawn of the event that breaks the list, below y: where, its step, the event, and what is
-- wrong
abbrev pub breach_inside : ℕ → ℕ → Breach → List ℕ
breach_inside n y breach =
    breach_figure n breach.event.by y
    ++ (axis_piece (y + 29) ([] ++ decimal breach.step)
    ++ (fault_piece n (y + 29) (event_line breach.event) ++ fault_piece 0 (y + 41) breach.fault))

-- that, with its step and line as a tooltip
abbrev pub breach_pieces : ℕ → ℕ → ℕ → Option Breach → List ℕ
breach_pieces line n y None = []
breach_pieces line n y (Some breach) =
    group_piece (step_words line breach.step breach.event) (breach_inside n y breach)

-- what stands below the rows; the next row would go at the cursor
abbrev pub foot_pieces : ℕ → ℕ → Picture → Option Breach → Cursor → List ℕ
foot_pieces line n picture breach cursor =
    fold_pieces n cursor.y (picture.end - cursor.at)
    ++ (more_pieces picture (bottom_of picture.end cursor)
    ++ breach_pieces line n (bottom_of picture.end cursor) breach)

-- a lane that stands so before the first step
abbrev pub standing_pieces : ℕ → Opening → Standing → List ℕ
standing_pieces r opening Standing.Going =
    shape_pieces (lane_shapes r 92 opening.leads opening.named)
standing_pieces r opening Standing.Paused =
    shape_pieces (lane_shapes r 92 opening.leads opening.named)
    ++ shape_piece (paused_shape r 92)
standing_pieces r opening Standing.Ended = []

-- a lane with its region before the first step
abbrev pub lane_pieces : ℕ → Opening → List ℕ
lane_pieces r opening =
    title_pieces r 84
    ++ (shape_pieces (region_shapes r opening) ++ standing_pieces r opening opening.standing)

-- the lanes, the first of them r
abbrev pub lanes_from : ℕ → List Opening → List ℕ
lanes_from r [] = []
lanes_from r (opening ∷ openings) = lane_pieces r opening ++ lanes_from (r + 1) openings

-- what the picture is, for who doesn't see it
abbrev pub title : List ℕ
title = codes "<title>A run of replicas: their steps from top to bottom</title>\n"

-- how text and shapes look
abbrev pub style : List ℕ
style =
    codes "<style>text{font:9px sans-serif;paint-order:stroke;stroke:#fff;stroke-width:5px}"
    ++ codes ".t{font-family:monospace}.s{text-anchor:end;fill:#555}path{stroke:#000;fill:none}"
    ++ codes "rect,circle{stroke:#000;stroke-width:.6}.w,.l,.z{stroke:none}.w,.c{fill:#fff}"
    ++ codes ".l{fill:#888}.z{fill:url(#z)}.f{fill:#fff;stroke:#888;stroke-dasharray:2 2}"
    ++ codes ".p,.k{fill:#000}.q{stroke-dasharray:4 2}.k,.x,.r{stroke-width:2}"
    ++ codes ".a{stroke:#333;stroke-dasharray:2 2}.e{fill:#c00}.r{stroke:#c00}"
    ++ codes ".o0{fill:#e69f00}.o1{fill:#56b4e9}.o2{fill:#009e73}.o3{fill:#f0e442}"
    ++ codes ".o4{fill:#0072b2}.o5{fill:#d55e00}.o6{fill:#cc79a7}</style>\n"

-- how a pause is hatched
abbrev pub hatching : List ℕ
hatching =
    codes "<pattern id='z' patternUnits='userSpaceOnUse' width='4' height='4'>"
    ++ codes "<path d='M0 4l4-4'/></pattern>\n"

-- the words of a sample in the legend
abbrev pub sample_piece : ℕ → ℕ → Shape → List ℕ → List ℕ
sample_piece x y shape words = shape_piece shape ++ text_piece Look.Label x y words

-- a line in the legend
abbrev pub sample_line : Look → Bool → ℕ → ℕ → Shape
sample_line look missed x y =
    Shape.Line look (Way.Across x y (if missed then x + 14 else x + 18) missed false)

-- a block in the legend
abbrev pub sample_block : Look → ℕ → ℕ → ℕ → Shape
sample_block look x y width = Shape.Block look x y width 8

-- a dot in the legend
abbrev pub sample_dot : Look → ℕ → ℕ → Shape
sample_dot look x y = Shape.Dot look x y

-- the ends of lanes in the legend
abbrev pub sample_cross : ℕ → ℕ → Shape
sample_cross x y = Shape.Line Look.Sign (Way.Cross x y)

abbrev pub sample_level : ℕ → ℕ → Shape
sample_level x y = Shape.Line Look.Sign (Way.Level x y)

-- samples of lines and dots
abbrev pub legend_of_lines : List ℕ
legend_of_lines =
    sample_piece 36 33 (sample_line Look.Asks false 14 30) (codes "asks")
    ++ (sample_piece 146 33 (sample_line Look.Landed false 124 30) (codes "put landed")
    ++ (sample_piece 256 33 (sample_line Look.Missed true 234 30) (codes "put missed")
    ++ (sample_piece 366 33 (sample_line Look.Commits false 344 30) (codes "put commits")
    ++ (sample_piece 476 33 (sample_dot Look.Landed 460 30) (codes "learns")
    ++ sample_piece 36 47 (sample_dot Look.Closing 20 44) (codes "applied to")))))

-- samples of bands, and of the ends of lanes
abbrev pub legend_of_lanes : List ℕ
legend_of_lanes =
    sample_piece 146 47 (sample_block (Look.Of 0) 124 40 12) (codes "leads")
    ++ (sample_piece 256 47 (sample_block Look.Hatched 234 40 12) (codes "pauses")
    ++ (sample_piece 366 47 (sample_cross 346 40) (codes "stops, outrun")
    ++ sample_piece 476 47 (sample_level 452 44) (codes "has finished")))

-- samples of bars of regions, and of the others
abbrev pub legend_of_bars : List ℕ
legend_of_bars =
    sample_piece 36 61 (sample_block (Look.Of 0) 16 54 8) (codes "owns the region")
    ++ (sample_piece 146 61 (sample_block Look.Closing 126 54 8) (codes "closing")
    ++ (sample_piece 256 61 (sample_block (Look.Of 0) 239 54 3) (codes "whom it names")
    ++ sample_piece 366 61 (sample_block Look.Folded 340 54 22) (codes "folded steps")))

-- the legend
abbrev pub legend : List ℕ
legend = legend_of_lines ++ (legend_of_lanes ++ legend_of_bars)

-- that a picture is in brief, if it is
abbrev pub brief_words : Bool → List ℕ
brief_words true = codes ", in brief"
brief_words false = []

-- a version, replicas, a ring, how many of how many steps are drawn, in brief or not, and the first
abbrev pub facts_with : ℕ → ℕ → ℕ → ℕ → ℕ → List ℕ → ℕ → List ℕ
facts_with version replicas ring drawn steps brief first =
    codes "version " ++ (decimal version ++ (codes ", " ++ (decimal replicas
    ++ (codes " replicas, ring " ++ (decimal ring ++ (codes ": " ++ (decimal drawn ++ (codes " of "
    ++ (decimal steps ++ (codes " steps drawn"
    ++ (brief ++ (codes ", from step " ++ (decimal first ++ codes " on")))))))))))))

-- what a picture is of: the settings, and how many of its steps are drawn
abbrev pub facts_words : Config → Picture → List ℕ
facts_words c picture =
    facts_with c.version c.replicas c.ring (length picture.marks.items)
    (picture.end - picture.first) (brief_words picture.brief) picture.first

-- what stands above the lanes: how it looks, a white ground of this width, what the picture is of,
-- and the legend
abbrev pub head_pieces : Config → Picture → ℕ → List ℕ
head_pieces c picture width =
    title
    ++ (style
    ++ (hatching
    ++ (shape_piece (Shape.Bar Look.Ground 0 0 width)
    ++ (text_piece Look.Label 4 14 (facts_words c picture)
    ++ legend))))

-- what stands in the document
abbrev pub content_of : Job → ℕ → Picture → Option Breach → ℕ → List ℕ
content_of job line picture breach width =
    head_pieces job.config picture width
    ++ (lanes_from 0 picture.openings.items
    ++ (rows_from job line (length picture.openings.items) (top picture.first)
    picture.marks.items
    ++ foot_pieces line (length picture.openings.items) picture breach (last_cursor picture)))

-- the front of a document of this width and height
abbrev pub front_of : ℕ → ℕ → List ℕ
front_of width height =
    codes "<svg xmlns='http://www.w3.org/2000/svg' role='img' viewBox='0 0 "
    ++ (decimal width ++ (codes " " ++ (decimal height ++ (codes "' width='"
    ++ (decimal width ++ (codes "' height='" ++ (decimal height ++ codes "'>\n")))))))

-- a document of this width and height
abbrev pub document_of : ℕ → ℕ → List ℕ → List ℕ
document_of width height content = front_of width height ++ (content ++ codes "</svg>\n")

-- how many bytes the longest note has
abbrev pub longest_of : Job → List Mark → ℕ
longest_of job [] = 0
longest_of job (mark ∷ marks) = max (length (note_words job mark)) (longest_of job marks)

-- how many bytes the event that breaks the list has, and what is wrong with it
abbrev pub event_length : Option Breach → ℕ
event_length None = 0
event_length (Some breach) = length (event_line breach.event)

abbrev pub fault_length : Option Breach → ℕ
fault_length None = 0
fault_length (Some breach) = length breach.fault

-- how wide a picture is that has words with this many bytes to the right of n lanes; the legend has
-- room too
abbrev pub width_for : ℕ → ℕ → ℕ
width_for n longest = max 580 (lane_of n + 24 + 6 * min 5000 longest)

-- how wide a picture is: the notes have room, and what is wrong, which stands below the lanes
abbrev pub width_of : Job → Picture → Option Breach → ℕ
width_of job picture breach =
    max
    (width_for (length picture.openings.items)
    (max (longest_of job picture.marks.items) (event_length breach)))
    (width_for 0 (fault_length breach))

-- how high it is
abbrev pub height_of : Picture → ℕ
height_of picture = foot_of picture + 56

-- the whole document of a picture of a trace, in which step 0 stands in this line, and of the event
-- that breaks its list
abbrev pub svg_of : Job → ℕ → Picture → Option Breach → List ℕ
svg_of job line picture breach =
    document_of (width_of job picture breach) (height_of picture)
    (content_of job line picture breach (width_of job picture breach))
