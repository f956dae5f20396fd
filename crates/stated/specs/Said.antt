-- RULES 3.9 to 3.13: what the FORMAT and EXPOSURE lines of a header say, by a reading.
use Rattle.std.specs.Prelude.{ℕ, ◌+◌, Bool, true, false, ◌&&◌, List, [], ◌∷◌, eqb, leb, length, get_or, take, drop, Some, None, Result, Ok, Err}
use Rattle.steps.specs.Loop.{pick, Turn, more, halt, run}
use Rattle.steps.specs.Answer.{Answer, done, refused, refuse, Check, check}
use Rattle.steps.specs.Refusal.{reason_number}
use Rattle.steps.specs.declared.Reading.{Reading}
use Rattle.steps.specs.declared.Reading.TheVariants.{Crate, Document}
use Rattle.steps.specs.declared.refusal.Reason.{Reason}
use Rattle.pixel.specs.Units.{of_units, mag}
use Rattle.words.specs.Lines.{line_feed, past, between, same}
use Rattle.words.specs.Fields.{trim}
use Rattle.stated.specs.declared.Exposure.{Exposure}
use Rattle.stated.specs.declared.Exposure.TheVariants.{Stated, NotStated}
use Rattle.stated.specs.Rounded.{product, usable}
use Rattle.stated.specs.Exposure.{Units, units, unread, exposure_of}
use Rattle.stated.specs.declared.Colour.{Colour}
use Rattle.stated.specs.declared.Colour.TheVariants.{Rgbe, Xyze}
use Rattle.stated.specs.declared.Said.{Said}

-- neither is stated
abbrev pub nothing : Said
nothing = record { colour = None; exposure = NotStated }

-- ---- A line counts if it starts FORMAT= or EXPOSURE=; its rest is trimmed

abbrev pub format_key : List ℕ
format_key = 70 ∷ 79 ∷ 82 ∷ 77 ∷ 65 ∷ 84 ∷ 61 ∷ []

abbrev pub exposure_key : List ℕ
exposure_key = 69 ∷ 88 ∷ 80 ∷ 79 ∷ 83 ∷ 85 ∷ 82 ∷ 69 ∷ 61 ∷ []

unfoldable pub starts : List ℕ → List ℕ → Bool
starts key line = same (take (length key) line) key

abbrev pub rest_of : List ℕ → List ℕ → List ℕ
rest_of key line = trim (drop (length key) line)

-- ---- The last FORMAT line counts; any unknown one is refusal 15

-- 32-bit_rle_rgbe
abbrev pub rgbe_format : List ℕ
rgbe_format = 51 ∷ 50 ∷ 45 ∷ 98 ∷ 105 ∷ 116 ∷ 95 ∷ 114 ∷ 108 ∷ 101 ∷ 95 ∷ 114 ∷ 103 ∷ 98 ∷ 101 ∷ []

-- 32-bit_rle_xyze
abbrev pub xyze_format : List ℕ
xyze_format = 51 ∷ 50 ∷ 45 ∷ 98 ∷ 105 ∷ 116 ∷ 95 ∷ 114 ∷ 108 ∷ 101 ∷ 95 ∷ 120 ∷ 121 ∷ 122 ∷ 101 ∷ []

abbrev pub coloured : Said → Colour → Said
coloured said kind = record { colour = Some kind; exposure = said.exposure }

unfoldable pub formatted : Said → List ℕ → Answer Said
formatted said rest =
    pick (same rest rgbe_format) (done (coloured said Rgbe))
    (pick (same rest xyze_format) (done (coloured said Xyze)) (refuse 15))

-- ---- Several EXPOSURE lines multiply in file order; one that can't be read, or is or becomes zero or infinite, is refusal 16

-- what is stated together with a line of u times 2^-149
abbrev pub together : Exposure → ℕ → ℕ
together (Stated x) u = product (mag x) u
together NotStated u = u

abbrev pub stating : Said → ℕ → Said
stating said n = record { colour = said.colour; exposure = Stated (of_units n) }

unfoldable pub exposed : Said → Units → Answer Said
exposed said (units u) = let n = together said.exposure u in pick (usable u && usable n) (done (stating said n)) (refuse 16)
exposed said unread = refuse 16

-- ---- Line after line, in file order, to the line that ends the header or to the end of the bytes

-- a line more
unfoldable pub heard : Said → List ℕ → Answer Said
heard said line =
    pick (starts format_key line) (formatted said (rest_of format_key line))
    (pick (starts exposure_key line) (exposed said (exposure_of (rest_of exposure_key line))) (done said))

-- where a line starts, and what those before it said
pub record Place : Type 0 where
  pub at : ℕ
  pub said : Said

-- the next line is looked at, unless this one is at fault
abbrev pub going_on : ℕ → Answer Said → Turn Place (Answer Said)
going_on next (done said) = more record { at = next; said = said }
going_on next (refused number place) = halt (refused number place)

unfoldable pub said_turn : List ℕ → Place → Turn Place (Answer Said)
said_turn bytes p =
    pick (leb (length bytes) p.at) (halt (done p.said))
    (pick (eqb (get_or bytes p.at 0) line_feed) (halt (done p.said))
    (let next = past line_feed bytes p.at in going_on next (heard p.said (between bytes p.at next))))

abbrev pub no_turns : Place → Answer Said
no_turns p = done p.said

-- what the lines from a place on say; each line takes a byte or more, so that as many turns as there are bytes are enough
unfoldable pub said_of : List ℕ → ℕ → Answer Said
said_of bytes at = run (said_turn bytes) no_turns (length bytes + 1) record { at = at; said = nothing }

-- by a reading: the crate reading ignores both lines
abbrev pub said_by : Reading → List ℕ → ℕ → Answer Said
said_by Crate bytes at = done nothing
said_by Document bytes at = said_of bytes at

-- ---- What a header makes of it

-- the check that a line at fault fails, 15 or 16
abbrev pub fault_of : Answer Said → Check
fault_of (done said) = check 0 false
fault_of (refused number place) = check number true

-- what is said where no line is at fault
abbrev pub heard_in : Answer Said → Said
heard_in (done said) = said
heard_in (refused number place) = nothing

-- the paper's answer, for each case of the call's answer
abbrev pub paper_of : Result Said Reason → Answer Said
paper_of (Ok said) = done said
paper_of (Err reason) = refuse (reason_number reason)
