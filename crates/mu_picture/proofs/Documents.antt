-- Every drawing is a document of XML.
use Rattle.std.proofs.Common.{◌≡◌, ℕ, zero, suc, ◌+◌, ◌-◌, ◌/◌, ◌%◌, ◌<◌, ◌==◌, ◌&&◌, Bool, true, false, not, List, [], ◌∷◌, ◌++◌, refl, sym, ◌∙◌, ap, subst, arith, append_assoc, None, Some, length}
use Rattle.std.specs.Prelude.{codes, if◌then◌else◌, nat_le, nat_lt}
use Rattle.std.specs.Fmt.{decimal, digits, digits_onto, digit_glyph}
use Rattle.std.specs.List.{list_all}
use Rattle.std.specs.declared.option.Option.{Option}
use Rattle.std.proofs.lemmas.Bool.{and_from, and_parts, le-leb, lt-ltb, ne_eqb}
use Rattle.mu_model.proofs.Basics.{true_or}
use Rattle.mu_input.specs.declared.job.Job.{Job}
use Rattle.mu_events.specs.Lines.{event_line}
use Rattle.mu_model.specs.declared.config.Config.{Config}
use Rattle.mu_picture.specs.Drawing.{axis_piece, breach_inside, breach_pieces, breach_shape, content_of, document_of, facts_words, fault_piece, figure_pieces, fold_pieces, foot_pieces, front_of, hatching, head_pieces, last_cursor, lane_pieces, lanes_from, legend, mark_pieces, more_pieces, note_piece, row_pieces, rows_from, sample_block, sample_cross, sample_dot, sample_level, sample_line, sample_piece, standing_pieces, strip_shape, style, svg_of, title, title_pieces, titles_again, titles_pieces}
use Rattle.mu_picture.specs.Lanes.{deed_shapes, halt_shapes, lane_shapes, paused_shape, region_shapes, resumed_shapes}
use Rattle.mu_picture.specs.Layout.{after, bottom_of, has_titles, lane_of, row_of, stretch_top_of, top}
use Rattle.mu_picture.specs.Shapes.{escape, escaped, group_piece, head_bytes, look_class, said_piece, shape_piece, shape_pieces, square_bytes, text_piece, way_then}
use Rattle.mu_picture.specs.Words.{label_words, note_words, step_words}
use Rattle.mu_picture.specs.declared.drawing.Breach.{Breach}
use Rattle.mu_picture.specs.declared.layout.Cursor.{Cursor}
use Rattle.mu_picture.specs.declared.shapes.Look.{Look}
use Rattle.mu_picture.specs.declared.shapes.Shape.{Shape}
use Rattle.mu_picture.specs.declared.shapes.Way.{Way}
use Rattle.mu_picture.specs.declared.standings.Standing.{Standing}
use Rattle.mu_picture.specs.Xml.{IsContent, IsDocument, IsTag, is_plain, nothing, character, entity, element, attribute, empty, whole}
use Rattle.mu_picture.specs.declared.marks.Mark.{Mark}
use Rattle.mu_picture.specs.declared.pictures.Picture.{Picture}
use Rattle.mu_picture.specs.declared.openings.Opening.{Opening}

mutual
  -- content behind content is content
  both : {a b : List ℕ} → IsContent a → IsContent b → IsContent (a ++ b)
  both nothing q = q
  both (character c p) q = character c (both p q)
  both {b = b} (entity word {rest} e p) q = subst IsContent (sym (append_assoc word rest b)) (entity word e (both p q))
  both {b = b} (element {name} {rest} n t) q = subst (λ l. IsContent (60 ∷ l)) (sym (append_assoc name rest b)) (element n (behind t q))

  behind : {of : List ℕ} {names : List (List ℕ)} {a b : List ℕ} → IsTag of names a → IsContent b → IsTag of names (a ++ b)
  behind {of} {names} {b = b} (attribute {name = name} {rest = rest} value n d v t) q =
      subst (IsTag of names)
      (sym (ap (λ l. 32 ∷ l) (append_assoc name (61 ∷ 39 ∷ (value ++ 39 ∷ rest)) b ∙ ap (λ l. name ++ 61 ∷ 39 ∷ l) (append_assoc value (39 ∷ rest) b))))
      (attribute value n d v (behind t q))
  behind (empty p) q = empty (both p q)
  behind {of} {names} {b = b} (whole {content = content} {rest = rest} c p) q =
      subst (IsTag of names)
      (sym (ap (λ l. 62 ∷ l) (append_assoc content (60 ∷ 47 ∷ (of ++ 62 ∷ rest)) b ∙ ap (λ l. content ++ 60 ∷ 47 ∷ l) (append_assoc of (62 ∷ rest) b))))
      (whole c (both p q))

either : (P : List ℕ → Type 0) (t : Bool) (x y : List ℕ) → (t ≡ true → P x) → (t ≡ false → P y) → P (if t then x else y)
either P true x y p q = p refl
either P false x y p q = q refl

plain_digit : (d : ℕ) → d < 10 → is_plain (48 + d) ≡ true
plain_digit d low =
    and_from _ _ (le-leb 32 (48 + d) (omega arith))
    (and_from _ _ (le-leb (48 + d) 126 (omega (arith, low)))
    (and_from _ _ (ap not (ne_eqb (48 + d) 60 (λ e. absurd (omega (arith, e, low)))))
    (and_from _ _ (ap not (ne_eqb (48 + d) 62 (λ e. absurd (omega (arith, e, low)))))
    (and_from _ _ (ap not (ne_eqb (48 + d) 38 (λ e. absurd (omega (arith, e)))))
    (and_from _ _ (ap not (ne_eqb (48 + d) 39 (λ e. absurd (omega (arith, e))))) (ap not (ne_eqb (48 + d) 34 (λ e. absurd (omega (arith, e))))))))))

glyph_plain : (d : ℕ) → d < 10 → is_plain (digit_glyph false d) ≡ true
glyph_plain d low = subst (λ t. is_plain (if t then 48 + d else 87 + d) ≡ true) (sym (lt-ltb d 10 low)) (plain_digit d low)

digits_plain : (k n : ℕ) (acc : List ℕ) → list_all is_plain acc ≡ true → list_all is_plain (digits_onto k 10 false n acc) ≡ true
digits_plain zero n acc p = p
digits_plain (suc k) n acc p =
    let more : list_all is_plain (digit_glyph false (n % 10) ∷ acc) ≡ true = and_from _ _ (glyph_plain (n % 10) (omega arith)) p in
    either (λ l. list_all is_plain l ≡ true) (n / 10 == 0) _ _ (λ h. more) (λ h. digits_plain k (n / 10) _ more)

onto_nothing : (n : ℕ) → digits_onto 64 10 false n [] ≡ digits 10 false n
unfolding digits
onto_nothing n = refl

number_plain : (n : ℕ) → list_all is_plain (decimal n) ≡ true
number_plain n = subst (λ l. list_all is_plain l ≡ true) (onto_nothing n) (digits_plain 64 n [] refl)

all_both : (xs ys : List ℕ) → list_all is_plain xs ≡ true → list_all is_plain ys ≡ true → list_all is_plain (xs ++ ys) ≡ true
all_both [] ys p q = q
all_both (x ∷ xs) ys p q =
    let parts = and_parts (is_plain x) (list_all is_plain xs) p in
    and_from _ _ parts.0 (all_both xs ys parts.1 q)

plain_content : (xs : List ℕ) → list_all is_plain xs ≡ true → IsContent xs
plain_content [] p = nothing
plain_content (x ∷ xs) p =
    let parts = and_parts (is_plain x) (list_all is_plain xs) p in
    character (true_or (is_plain x) (x == 10) parts.0) (plain_content xs parts.1)

visible_plain : (b : ℕ) → (nat_le 32 b && nat_le b 126) ≡ true → (b == 60) ≡ false → (b == 62) ≡ false → (b == 38) ≡ false → (b == 39) ≡ false → (b == 34) ≡ false
    → is_plain b ≡ true
visible_plain b seen bracket other ampersand quote double =
    let parts = and_parts (nat_le 32 b) (nat_le b 126) seen in
    and_from _ _ parts.0
    (and_from _ _ parts.1
    (and_from _ _ (ap not bracket)
    (and_from _ _ (ap not other) (and_from _ _ (ap not ampersand) (and_from _ _ (ap not quote) (ap not double))))))

-- what a byte is written as is content
escape_is : (b : ℕ) → IsContent (escape b)
escape_is b =
    either IsContent (b == 60) _ _ (λ h. entity (codes "&lt;") refl nothing) (λ bracket.
    either IsContent (b == 62) _ _ (λ h. entity (codes "&gt;") refl nothing) (λ other.
    either IsContent (b == 38) _ _ (λ h. entity (codes "&amp;") refl nothing) (λ ampersand.
    either IsContent (b == 39) _ _ (λ h. entity (codes "&apos;") refl nothing) (λ quote.
    either IsContent (b == 34) _ _ (λ h. entity (codes "&quot;") refl nothing) (λ double.
    either IsContent (nat_le 32 b && nat_le b 126) _ _
    (λ seen. character (true_or (is_plain b) (b == 10) (visible_plain b seen bracket other ampersand quote double)) nothing)
    (λ h. character {byte = 63} refl nothing))))))

-- a text is content, whatever it holds
escaped_is : (words : List ℕ) → IsContent (escaped words)
escaped_is [] = nothing
escaped_is (b ∷ bs) = both (escape_is b) (escaped_is bs)

class_plain : (look : Look) → list_all is_plain (look_class look) ≡ true
class_plain Look.Ground = refl
class_plain Look.Lane = refl
class_plain Look.Closing = refl
class_plain Look.Hatched = refl
class_plain Look.Folded = refl
class_plain Look.Asks = refl
class_plain Look.Landed = refl
class_plain Look.Missed = refl
class_plain Look.Commits = refl
class_plain Look.Sign = refl
class_plain Look.Wrong = refl
class_plain Look.Label = refl
class_plain Look.Axis = refl
class_plain Look.Note = refl
class_plain Look.Fault = refl
class_plain (Look.Of r) = all_both (codes "o") (decimal r) refl (number_plain r)

head_plain : (missed left : Bool) → list_all is_plain (head_bytes missed left) ≡ true
head_plain true left = refl
head_plain false true = refl
head_plain false false = refl

square_plain : (left : Bool) → list_all is_plain (square_bytes left) ≡ true
square_plain true = refl
square_plain false = refl

-- the way of a line, as the value of an attribute
abbrev way_value : Way → List ℕ
way_value way = way_then way []

-- a place and what follows it
place_plain : (x y : ℕ) (rest : List ℕ) → list_all is_plain rest ≡ true → list_all is_plain (codes "M" ++ (decimal x ++ (codes " " ++ (decimal y ++ rest)))) ≡ true
place_plain x y rest is =
    let third = decimal y ++ rest in
    let second = codes " " ++ third in
    all_both (codes "M") (decimal x ++ second) refl
    (all_both (decimal x) second (number_plain x) (all_both (codes " ") third refl (all_both (decimal y) rest (number_plain y) is)))

way_plain : (way : Way) → list_all is_plain (way_value way) ≡ true
way_plain (Way.Across x y to missed left) =
    let square = square_bytes left ++ [] in
    let side = decimal x ++ square in
    place_plain to y (head_bytes missed left ++ side)
    (all_both (head_bytes missed left) side (head_plain missed left)
    (all_both (decimal x) square (number_plain x) (all_both (square_bytes left) [] (square_plain left) refl)))
way_plain (Way.Cross x y) = place_plain x y (codes "l8 8m0-8l-8 8") refl
way_plain (Way.Level x y) = place_plain x y (codes "h16") refl

-- what follows a way stands behind it
way_before : (way : Way) (rest : List ℕ) → way_then way rest ≡ way_value way ++ rest
way_before (Way.Across x y to missed left) rest =
    ap (λ l. codes "M" ++ l)
    (sym (append_assoc (decimal to) _ rest
    ∙ ap (λ l. decimal to ++ (codes " " ++ l))
    (append_assoc (decimal y) _ rest
    ∙ ap (λ l. decimal y ++ l)
    (append_assoc (head_bytes missed left) _ rest
    ∙ ap (λ l. head_bytes missed left ++ l)
    (append_assoc (decimal x) _ rest ∙ ap (λ l. decimal x ++ l) (append_assoc (square_bytes left) [] rest))))))
way_before (Way.Cross x y) rest =
    ap (λ l. codes "M" ++ l)
    (sym (append_assoc (decimal x) _ rest ∙ ap (λ l. decimal x ++ (codes " " ++ l)) (append_assoc (decimal y) _ rest)))
way_before (Way.Level x y) rest =
    ap (λ l. codes "M" ++ l)
    (sym (append_assoc (decimal x) _ rest ∙ ap (λ l. decimal x ++ (codes " " ++ l)) (append_assoc (decimal y) _ rest)))

line_feed : IsContent (10 ∷ [])
line_feed = character {byte = 10} refl nothing

-- a shape is content
shape_is : (shape : Shape) → IsContent (shape_piece shape)
shape_is (Shape.Bar look x y width) =
    element {name = codes "rect"} refl
    (attribute {name = codes "class"} (look_class look) refl refl (class_plain look)
    (attribute {name = codes "x"} (decimal x) refl refl (number_plain x)
    (attribute {name = codes "y"} (decimal y) refl refl (number_plain y)
    (attribute {name = codes "width"} (decimal width) refl refl (number_plain width)
    (attribute {name = codes "height"} (codes "100%") refl refl refl (empty line_feed))))))
shape_is (Shape.Block look x y width height) =
    element {name = codes "rect"} refl
    (attribute {name = codes "class"} (look_class look) refl refl (class_plain look)
    (attribute {name = codes "x"} (decimal x) refl refl (number_plain x)
    (attribute {name = codes "y"} (decimal y) refl refl (number_plain y)
    (attribute {name = codes "width"} (decimal width) refl refl (number_plain width)
    (attribute {name = codes "height"} (decimal height) refl refl (number_plain height) (empty line_feed))))))
shape_is (Shape.Line look way) =
    element {name = codes "path"} refl
    (attribute {name = codes "class"} (look_class look) refl refl (class_plain look)
    (subst (λ l. IsTag (codes "path") (codes "class" ∷ []) (codes " d='" ++ l)) (sym (way_before way (codes "'/>\n")))
    (attribute {name = codes "d"} (way_value way) refl refl (way_plain way) (empty line_feed))))
shape_is (Shape.Dot look x y) =
    element {name = codes "circle"} refl
    (attribute {name = codes "class"} (look_class look) refl refl (class_plain look)
    (attribute {name = codes "cx"} (decimal x) refl refl (number_plain x)
    (attribute {name = codes "cy"} (decimal y) refl refl (number_plain y)
    (attribute {name = codes "r"} (codes "3") refl refl refl (empty line_feed)))))

-- and so are shapes
shapes_are : (shapes : List Shape) → IsContent (shape_pieces shapes)
shapes_are [] = nothing
shapes_are (shape ∷ shapes) = both (shape_is shape) (shapes_are shapes)

-- words are content, whatever they hold
text_is : (look : Look) (x y : ℕ) (words : List ℕ) → IsContent (text_piece look x y words)
text_is look x y words =
    element {name = codes "text"} refl
    (attribute {name = codes "class"} (look_class look) refl refl (class_plain look)
    (attribute {name = codes "x"} (decimal x) refl refl (number_plain x)
    (attribute {name = codes "y"} (decimal y) refl refl (number_plain y) (whole {content = escaped words} (escaped_is words) line_feed))))

said_is : (look : Look) (x y : ℕ) (words : List ℕ) → IsContent (said_piece look x y words)
said_is look x y [] = nothing
said_is look x y (byte ∷ bytes) = text_is look x y (byte ∷ bytes)

-- content with a tooltip is content
group_is : (words pieces : List ℕ) → IsContent pieces → IsContent (group_piece words pieces)
group_is words pieces is =
    let title = codes "</title>\n" in
    let end = codes "</g>\n" in
    subst IsContent (ap (λ l. codes "<g><title>" ++ l) (append_assoc (escaped words) (title ++ pieces) end ∙ sym (append_assoc (escaped words) title (pieces ++ end))))
    (element {name = codes "g"} refl
    (whole {content = codes "<title>" ++ (escaped words ++ (codes "</title>\n" ++ pieces))}
    (element {name = codes "title"} refl (whole {content = escaped words} (escaped_is words) (character {byte = 10} refl is))) line_feed))

axis_is : (y : ℕ) (words : List ℕ) → IsContent (axis_piece y words)
axis_is y words = text_is Look.Axis 56 y words

note_is : (n r y : ℕ) (words : List ℕ) → IsContent (note_piece n r y words)
note_is n r y [] = nothing
note_is n r y (byte ∷ bytes) = both (shape_is (Shape.Dot (Look.Of r) (lane_of n + 4) y)) (text_is Look.Note (lane_of n + 12) (y + 3) (byte ∷ bytes))

figure_is : (y : ℕ) (mark : Mark) → IsContent (figure_pieces y mark)
figure_is y mark =
    both (shapes_are (resumed_shapes mark.event.by y mark.resumed))
    (both (shapes_are (deed_shapes mark.event.by y mark.deed))
    (both (shapes_are (halt_shapes mark.event.by y mark.halt)) (said_is Look.Label (lane_of mark.event.by + 58) (y + 3) (label_words mark.deed))))

mark_is : (job : Job) (line n y : ℕ) (mark : Mark) → IsContent (mark_pieces job line n y mark)
mark_is job line n y mark =
    group_is (step_words line mark.step mark.event) _
    (both (figure_is y mark) (both (axis_is (y + 3) (decimal mark.step)) (note_is n mark.event.by y (note_words job mark))))

title_is : (r y : ℕ) → IsContent (title_pieces r y)
title_is r y = both (text_is Look.Label (lane_of r - 2) y (codes "replica " ++ decimal r)) (text_is Look.Label (lane_of r + 42) y (codes "region " ++ decimal r))

titles_are : (n y : ℕ) → IsContent (titles_pieces n y)
titles_are zero y = nothing
titles_are (suc n) y = both (titles_are n y) (title_is n y)

again_is : (n : ℕ) (cursor : Cursor) → IsContent (titles_again n cursor)
again_is n cursor = either IsContent (has_titles cursor) _ _ (λ h. titles_are n (cursor.y + 11)) (λ h. nothing)

fold_is : (n y steps : ℕ) → IsContent (fold_pieces n y steps)
fold_is n y steps =
    either IsContent (nat_lt 31 steps) _ _ (λ h. both (shape_is (strip_shape Look.Folded n (y + 3) 10)) (axis_is (y + 11) (decimal steps ++ codes " steps"))) (λ h. nothing)

row_is : (job : Job) (line n : ℕ) (cursor : Cursor) (mark : Mark) → IsContent (row_pieces job line n cursor mark)
row_is job line n cursor mark =
    both (again_is n cursor) (both (fold_is n (stretch_top_of cursor) (mark.step - cursor.at)) (mark_is job line n (row_of cursor mark.step + 6) mark))

rows_are : (job : Job) (line n : ℕ) (cursor : Cursor) (marks : List Mark) → IsContent (rows_from job line n cursor marks)
rows_are job line n cursor [] = nothing
rows_are job line n cursor (mark ∷ marks) = both (row_is job line n cursor mark) (rows_are job line n (after cursor mark.step) marks)

more_is : (picture : Picture) (y : ℕ) → IsContent (more_pieces picture y)
more_is picture y =
    either IsContent (nat_lt picture.end picture.asked) _ _
    (λ h. both (axis_is (y + 12) (codes "goes on")) (text_is Look.Label (lane_of 0 - 10) (y + 12) (codes "with step " ++ decimal picture.end))) (λ h. nothing)

fault_is : (n y : ℕ) (words : List ℕ) → IsContent (fault_piece n y words)
fault_is n y words = text_is Look.Fault (lane_of n + 12) y words

breach_is : (line n y : ℕ) (breach : Option Breach) → IsContent (breach_pieces line n y breach)
breach_is line n y None = nothing
breach_is line n y (Some breach) =
    group_is (step_words line breach.step breach.event) (breach_inside n y breach)
    (both (both (shape_is (strip_shape Look.Wrong n (y + 17) 1)) (shape_is (breach_shape breach.event.by (y + 22))))
    (both (axis_is (y + 29) (decimal breach.step)) (both (fault_is n (y + 29) (event_line breach.event)) (fault_is 0 (y + 41) breach.fault))))

foot_is : (line n : ℕ) (picture : Picture) (breach : Option Breach) (cursor : Cursor) → IsContent (foot_pieces line n picture breach cursor)
foot_is line n picture breach cursor =
    both (fold_is n cursor.y (picture.end - cursor.at)) (both (more_is picture (bottom_of picture.end cursor)) (breach_is line n (bottom_of picture.end cursor) breach))

standing_is : (r : ℕ) (opening : Opening) (standing : Standing) → IsContent (standing_pieces r opening standing)
standing_is r opening Standing.Going = shapes_are (lane_shapes r 92 opening.leads opening.named)
standing_is r opening Standing.Paused = both (shapes_are (lane_shapes r 92 opening.leads opening.named)) (shape_is (paused_shape r 92))
standing_is r opening Standing.Ended = nothing

lane_is : (r : ℕ) (opening : Opening) → IsContent (lane_pieces r opening)
lane_is r opening = both (title_is r 84) (both (shapes_are (region_shapes r opening)) (standing_is r opening opening.standing))

lanes_are : (r : ℕ) (openings : List Opening) → IsContent (lanes_from r openings)
lanes_are r [] = nothing
lanes_are r (opening ∷ openings) = both (lane_is r opening) (lanes_are (r + 1) openings)

picture_title_is : IsContent title
picture_title_is = element {name = codes "title"} refl (whole {content = codes "A run of replicas: their steps from top to bottom"} (plain_content (codes "A run of replicas: their steps from top to bottom") refl) line_feed)

style_is : IsContent style
style_is = element {name = codes "style"} refl (whole {content = codes "text{font:9px sans-serif;paint-order:stroke;stroke:#fff;stroke-width:5px}.t{font-family:monospace}.s{text-anchor:end;fill:#555}path{stroke:#000;fill:none}rect,circle{stroke:#000;stroke-width:.6}.w,.l,.z{stroke:none}.w,.c{fill:#fff}.l{fill:#888}.z{fill:url(#z)}.f{fill:#fff;stroke:#888;stroke-dasharray:2 2}.p,.k{fill:#000}.q{stroke-dasharray:4 2}.k,.x,.r{stroke-width:2}.a{stroke:#333;stroke-dasharray:2 2}.e{fill:#c00}.r{stroke:#c00}.o0{fill:#e69f00}.o1{fill:#56b4e9}.o2{fill:#009e73}.o3{fill:#f0e442}.o4{fill:#0072b2}.o5{fill:#d55e00}.o6{fill:#cc79a7}"} (plain_content (codes "text{font:9px sans-serif;paint-order:stroke;stroke:#fff;stroke-width:5px}.t{font-family:monospace}.s{text-anchor:end;fill:#555}path{stroke:#000;fill:none}rect,circle{stroke:#000;stroke-width:.6}.w,.l,.z{stroke:none}.w,.c{fill:#fff}.l{fill:#888}.z{fill:url(#z)}.f{fill:#fff;stroke:#888;stroke-dasharray:2 2}.p,.k{fill:#000}.q{stroke-dasharray:4 2}.k,.x,.r{stroke-width:2}.a{stroke:#333;stroke-dasharray:2 2}.e{fill:#c00}.r{stroke:#c00}.o0{fill:#e69f00}.o1{fill:#56b4e9}.o2{fill:#009e73}.o3{fill:#f0e442}.o4{fill:#0072b2}.o5{fill:#d55e00}.o6{fill:#cc79a7}") refl) line_feed)

hatching_is : IsContent hatching
hatching_is =
    element {name = codes "pattern"} refl
    (attribute {name = codes "id"} (codes "z") refl refl refl
    (attribute {name = codes "patternUnits"} (codes "userSpaceOnUse") refl refl refl
    (attribute {name = codes "width"} (codes "4") refl refl refl
    (attribute {name = codes "height"} (codes "4") refl refl refl
    (whole {content = codes "<path d='M0 4l4-4'/>"} (element {name = codes "path"} refl (attribute {name = codes "d"} (codes "M0 4l4-4") refl refl refl (empty nothing))) line_feed)))))

sample_is : (x y : ℕ) (shape : Shape) (words : List ℕ) → IsContent (sample_piece x y shape words)
sample_is x y shape words = both (shape_is shape) (text_is Look.Label x y words)

legend_is : IsContent legend
legend_is =
    both
    (both (sample_is 36 33 (sample_line Look.Asks false 14 30) (codes "asks"))
    (both (sample_is 146 33 (sample_line Look.Landed false 124 30) (codes "put landed"))
    (both (sample_is 256 33 (sample_line Look.Missed true 234 30) (codes "put missed"))
    (both (sample_is 366 33 (sample_line Look.Commits false 344 30) (codes "put commits"))
    (both (sample_is 476 33 (sample_dot Look.Landed 460 30) (codes "learns")) (sample_is 36 47 (sample_dot Look.Closing 20 44) (codes "applied to")))))))
    (both
    (both (sample_is 146 47 (sample_block (Look.Of 0) 124 40 12) (codes "leads"))
    (both (sample_is 256 47 (sample_block Look.Hatched 234 40 12) (codes "pauses"))
    (both (sample_is 366 47 (sample_cross 346 40) (codes "stops, outrun")) (sample_is 476 47 (sample_level 452 44) (codes "has finished")))))
    (both (sample_is 36 61 (sample_block (Look.Of 0) 16 54 8) (codes "owns the region"))
    (both (sample_is 146 61 (sample_block Look.Closing 126 54 8) (codes "closing"))
    (both (sample_is 256 61 (sample_block (Look.Of 0) 239 54 3) (codes "whom it names")) (sample_is 366 61 (sample_block Look.Folded 340 54 22) (codes "folded steps"))))))

head_is : (c : Config) (picture : Picture) (width : ℕ) → IsContent (head_pieces c picture width)
head_is c picture width =
    both picture_title_is
    (both style_is (both hatching_is (both (shape_is (Shape.Bar Look.Ground 0 0 width)) (both (text_is Look.Label 4 14 (facts_words c picture)) legend_is))))

content_is : (job : Job) (line : ℕ) (picture : Picture) (breach : Option Breach) (width : ℕ) → IsContent (content_of job line picture breach width)
content_is job line picture breach width =
    both (head_is job.config picture width)
    (both (lanes_are 0 picture.openings.items)
    (both (rows_are job line (length picture.openings.items) (top picture.first) picture.marks.items)
    (foot_is line (length picture.openings.items) picture breach (last_cursor picture))))

-- the places of a view, as the value of an attribute
view_plain : (width height : ℕ) → list_all is_plain (codes "0 0 " ++ (decimal width ++ (codes " " ++ decimal height))) ≡ true
view_plain width height =
    all_both (codes "0 0 ") (decimal width ++ (codes " " ++ decimal height)) refl
    (all_both (decimal width) (codes " " ++ decimal height) (number_plain width) (all_both (codes " ") (decimal height) refl (number_plain height)))

-- the front of a document with what follows, as the name of an element and its attributes
front_before : (width height : ℕ) (rest : List ℕ) → front_of width height ++ rest
    ≡ codes "<svg xmlns='http://www.w3.org/2000/svg' role='img' viewBox='"
    ++ ((codes "0 0 " ++ (decimal width ++ (codes " " ++ decimal height)))
    ++ (codes "' width='" ++ (decimal width ++ (codes "' height='" ++ (decimal height ++ (codes "'>\n" ++ rest))))))
front_before width height rest =
    let end = codes "'>\n" in
    let third = codes "' height='" ++ (decimal height ++ end) in
    let second = codes "' width='" ++ (decimal width ++ third) in
    let more = codes "' width='" ++ (decimal width ++ (codes "' height='" ++ (decimal height ++ (end ++ rest)))) in
    ap (λ l. codes "<svg xmlns='http://www.w3.org/2000/svg' role='img' viewBox='0 0 " ++ l)
    (append_assoc (decimal width) (codes " " ++ (decimal height ++ second)) rest
    ∙ (ap (λ l. decimal width ++ (codes " " ++ l))
    (append_assoc (decimal height) second rest
    ∙ ap (λ l. decimal height ++ (codes "' width='" ++ l))
    (append_assoc (decimal width) third rest ∙ ap (λ l. decimal width ++ (codes "' height='" ++ l)) (append_assoc (decimal height) end rest)))
    ∙ (ap (λ l. decimal width ++ (32 ∷ l)) refl ∙ sym (append_assoc (decimal width) (codes " " ++ decimal height) more))))

document_is : (width height : ℕ) (content : List ℕ) → IsContent content → IsDocument (document_of width height content)
document_is width height content is = subst IsDocument (sym (front_before width height (content ++ codes "</svg>\n"))) (record {
  name = codes "svg";
  rest = _;
  named = refl;
  tag =
      attribute {name = codes "xmlns"} (codes "http://www.w3.org/2000/svg") refl refl refl
      (attribute {name = codes "role"} (codes "img") refl refl refl
      (attribute {name = codes "viewBox"} (codes "0 0 " ++ (decimal width ++ (codes " " ++ decimal height))) refl refl (view_plain width height)
      (attribute {name = codes "width"} (decimal width) refl refl (number_plain width)
      (attribute {name = codes "height"} (decimal height) refl refl (number_plain height) (whole {content = 10 ∷ content} (character {byte = 10} refl is) line_feed)))));
  is = refl;
})

-- the drawing of every picture is a document
pub drawing_is : (job : Job) (line : ℕ) (picture : Picture) (breach : Option Breach) → IsDocument (svg_of job line picture breach)
drawing_is job line picture breach = document_is _ _ _ (content_is job line picture breach _)
