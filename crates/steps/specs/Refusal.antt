-- RULES 2.2: the checks by their numbers, and a refusal that reports place 0.
use Rattle.std.specs.Prelude.{ℕ}
use Rattle.steps.specs.declared.refusal.Reason.{Reason}
use Rattle.steps.specs.declared.refusal.Reason.TheVariants.{FirstLine, Axes, Size, TooHigh, TooWide, ShortOutput, NoWidth, ShortStore, BytesEnd, OverLimit, WrongLength, TooBright, NoRoom, BrokenRow, UnknownFormat, Exposure, OldRun}
use Rattle.steps.specs.declared.refusal.Refusal.{Refusal}

abbrev pub reason_number : Reason → ℕ
reason_number FirstLine = 1
reason_number Axes = 2
reason_number Size = 3
reason_number TooHigh = 4
reason_number TooWide = 5
reason_number ShortOutput = 6
reason_number NoWidth = 7
reason_number ShortStore = 8
reason_number BytesEnd = 9
reason_number OverLimit = 10
reason_number WrongLength = 11
reason_number TooBright = 12
reason_number NoRoom = 13
reason_number BrokenRow = 14
reason_number UnknownFormat = 15
reason_number Exposure = 16
reason_number OldRun = 25

abbrev pub at_no_place : Reason → Refusal
at_no_place reason = record { reason = reason; place = 0 }
