-- What reading the header answers (RULES 3.5 to 3.7 and 3.14), with the checks 1 to 5, 15 and 16 (RULES 2.2).
use Rattle.std.specs.Prelude.{ℕ, min, Bool, true, not, ◌&&◌, ◌||◌, List, [], ◌∷◌, ◌≡◌, ltb, Option, Some, None, Result}
use Rattle.steps.specs.Answer.{Answer, done, refuse, paper_of, Check, check, checked}
use Rattle.steps.specs.Loop.{pick}
use Rattle.steps.specs.declared.Reading.{Reading}
use Rattle.steps.specs.declared.Reading.TheVariants.{Crate, Document}
use Rattle.steps.specs.declared.refusal.Refusal.{Refusal}
use Rattle.words.specs.Lines.{line_feed, past, first_line, is_first, lines_end}
use Rattle.words.specs.Fields.{Fields, fields_at}
use Rattle.words.specs.Axes.{upright, axes_of}
use Rattle.words.specs.Sizes.{size_of, is_size}
use Rattle.words.specs.declared.axes.Orientation.{Orientation}
use Rattle.stated.specs.declared.Said.{Said}
use Rattle.stated.specs.Said.{said_by, fault_of, heard_in}
use Rattle.header.specs.declared.Head.{Head}

-- the fields after the lines
unfoldable pub fields_of : List ℕ → Fields
fields_of bytes = fields_at bytes (lines_end bytes (past line_feed bytes 0))

-- the size behind Y is the height and that behind X the width, whichever is named first
abbrev pub height_field : Option Orientation → Fields → List ℕ
height_field (Some o) f = pick o.columns f.fourth f.second
height_field None f = []

abbrev pub width_field : Option Orientation → Fields → List ℕ
width_field (Some o) f = pick o.columns f.second f.fourth
width_field None f = []

-- by the document reading any of the eight, by the crate reading -Y +X and +X -Y alone
abbrev pub takes : Reading → Orientation → Bool
takes Crate o = not (o.upward || o.leftward)
takes Document o = true

-- any other pair of axes
abbrev pub is_other : Reading → Option Orientation → Bool
is_other reading (Some o) = not (takes reading o)
is_other reading None = true

-- how the stored rows lie: by the crate reading both pairs are h rows of w, from the top and from the left
abbrev pub lies_by : Reading → Orientation → Orientation
lies_by Crate o = upright
lies_by Document o = o

abbrev pub orientation_of : Reading → Option Orientation → Orientation
orientation_of reading (Some o) = lies_by reading o
orientation_of reading None = upright

-- a limit above 65,535 counts as 65,535
abbrev pub limit : ℕ → ℕ
limit most = min most 65535

-- the checks 3 to 5, of the fields of height and width
abbrev pub size_checks : List ℕ → List ℕ → ℕ → ℕ → List Check
size_checks height width widest highest =
    check 3 (not (is_size height && is_size width))
    ∷ check 4 (ltb (limit highest) (size_of height))
    ∷ check 5 (ltb (limit widest) (size_of width))
    ∷ []

-- the checks 2 to 5: axes are judged before numbers
abbrev pub field_checks : Reading → Option Orientation → Fields → ℕ → ℕ → List Check
field_checks reading axes f widest highest = check 2 (is_other reading axes) ∷ size_checks (height_field axes f) (width_field axes f) widest highest

-- what the lines after the first say, by a reading
unfoldable pub said_in : Reading → List ℕ → Answer Said
said_in reading bytes = said_by reading bytes (past line_feed bytes 0)

-- check 1; 15 or 16, whichever the lines come to first; and the checks 2 to 5
unfoldable pub head_checks : Reading → List ℕ → ℕ → ℕ → List Check
head_checks reading bytes widest highest =
    let f = fields_of bytes in
    check 1 (not (is_first (first_line bytes))) ∷ fault_of (said_in reading bytes) ∷ field_checks reading (axes_of f.first f.third) f widest highest

-- a header whose lines say this and whose rows lie so, of this width and height, and so many bytes taken
abbrev pub head : Said → Orientation → ℕ → ℕ → ℕ → Head
head said lies width height taken =
    record { width = width; height = height; taken = taken; colour = said.colour; exposure = said.exposure; orientation = lies }

-- the same header, with another count of bytes taken
abbrev pub taking : Head → ℕ → Head
taking head taken =
    record { width = head.width; height = head.height; taken = taken; colour = head.colour; exposure = head.exposure; orientation = head.orientation }

-- width, height, the count of bytes taken, what the lines say, and how the rows lie
abbrev pub head_by : Said → Orientation → List ℕ → List ℕ → ℕ → Head
head_by said lies height width taken = head said lies (size_of width) (size_of height) taken

unfoldable pub head_of : Reading → Said → Fields → Head
head_of reading said f =
    let axes = axes_of f.first f.third in
    head_by said (orientation_of reading axes) (height_field axes f) (width_field axes f) f.taken

-- the header of the bytes
abbrev pub head_in : Reading → List ℕ → Head
head_in reading bytes = head_of reading (heard_in (said_in reading bytes)) (fields_of bytes)

-- what reading the header answers
unfoldable pub header_of : Reading → List ℕ → ℕ → ℕ → Answer Head
header_of reading bytes widest highest = checked refuse (head_checks reading bytes widest highest) (done (head_in reading bytes))

-- what `header::read` promises
abbrev pub HeaderPromise : Reading → List ℕ → ℕ → ℕ → Result Head Refusal → Type 0
HeaderPromise reading bytes widest highest answer = paper_of answer ≡ header_of reading bytes widest highest
