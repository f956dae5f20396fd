-- The laws of the numbers of refusals: each names one check.
use Prim.Native.Nat.{ℕ}
use mathlib.Core.Path.{◌≡◌, refl, sym, ap, ◌∙◌}
use Rattle.std.specs.Prelude.{eqb}
use Rattle.steps.specs.Loop.{pick}
use Rattle.steps.specs.Refusal.{reason_number}
use Rattle.steps.specs.declared.refusal.Reason.{Reason}
use Rattle.steps.specs.declared.refusal.Reason.TheVariants.{FirstLine, Axes, Size, TooHigh, TooWide, ShortOutput, NoWidth, ShortStore, BytesEnd, OverLimit, WrongLength, TooBright, NoRoom, BrokenRow, UnknownFormat, Exposure, OldRun}

-- the check of a number, and the last of them for any other
abbrev pub reason_of : ℕ → Reason
reason_of n =
    pick (eqb n 1) FirstLine
    (pick (eqb n 2) Axes
    (pick (eqb n 3) Size
    (pick (eqb n 4) TooHigh
    (pick (eqb n 5) TooWide
    (pick (eqb n 6) ShortOutput
    (pick (eqb n 7) NoWidth
    (pick (eqb n 8) ShortStore
    (pick (eqb n 9) BytesEnd
    (pick (eqb n 10) OverLimit
    (pick (eqb n 11) WrongLength
    (pick (eqb n 12) TooBright
    (pick (eqb n 13) NoRoom
    (pick (eqb n 14) BrokenRow
    (pick (eqb n 15) UnknownFormat
    (pick (eqb n 16) Exposure OldRun)))))))))))))))

pub reason_again : (r : Reason) → reason_of (reason_number r) ≡ r
reason_again FirstLine = refl
reason_again Axes = refl
reason_again Size = refl
reason_again TooHigh = refl
reason_again TooWide = refl
reason_again ShortOutput = refl
reason_again NoWidth = refl
reason_again ShortStore = refl
reason_again BytesEnd = refl
reason_again OverLimit = refl
reason_again WrongLength = refl
reason_again TooBright = refl
reason_again NoRoom = refl
reason_again BrokenRow = refl
reason_again UnknownFormat = refl
reason_again Exposure = refl
reason_again OldRun = refl

-- so two reasons of one number are one
pub one_reason : (r s : Reason) → reason_number r ≡ reason_number s → r ≡ s
one_reason r s e = sym (reason_again r) ∙ ap reason_of e ∙ reason_again s
