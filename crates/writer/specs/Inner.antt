-- What only the contracts of inner functions cite.
use Rattle.std.specs.Prelude.{ℕ, ◌*◌, ◌≡◌, List, Result, Ok, Err, length, Float}
use Rattle.steps.specs.declared.refusal.Reason.{Reason}
use Rattle.steps.specs.declared.refusal.Refusal.{Refusal}
use Rattle.steps.specs.Refusal.{reason_number}
use Rattle.steps.specs.Answer.{Answer, done, refuse, refusal_of, Check, checked}
use Rattle.frames_written.specs.Samples.{first_bright}
use Rattle.writer.specs.Write.{frame_checks, length_of, write_of}

-- the first check that fails, where nothing is asked for but that they pass
abbrev pub verdict : List Check → Answer (Unit {0})
verdict checks = checked refuse checks (done tt)

-- the same, of what a function answers
abbrev pub told : Result (Unit {0}) Reason → Answer (Unit {0})
told (Ok u) = done tt
told (Err reason) = refuse (reason_number reason)

-- the samples can be written, or the calls refuse them so
abbrev pub Checked : ℕ → ℕ → List Float → Result (Unit {0}) Refusal → Type 0
Checked w h samples (Ok u) = (done tt ≡ verdict (frame_checks w h (length samples) 3)) × (first_bright samples 0 (w * h) ≡ w * h)
Checked w h samples (Err refusal) = (length_of w h samples ≡ refusal_of refusal) × ((out : List ℕ) → write_of w h samples out ≡ (refusal_of refusal, out))
