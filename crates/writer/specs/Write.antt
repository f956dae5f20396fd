-- What each call of the writer answers, and what it leaves in the output.
use Rattle.std.specs.Prelude.{ℕ, ◌+◌, ◌*◌, not, ◌||◌, List, [], ◌∷◌, ◌++◌, ◌≡◌, Option, Result, length, ltb, eqb, Float}
use Rattle.steps.specs.Loop.{pick}
use Rattle.steps.specs.Place.{spread}
use Rattle.steps.specs.Amount.{amount_of}
use Rattle.steps.specs.declared.refusal.Refusal.{Refusal}
use Rattle.steps.specs.Answer.{Answer, done, refused, refuse, paper_of, Check, check, checked}
use Rattle.frames_written.specs.Samples.{first_bright}
use Rattle.frames_written.specs.Frame.{frame_of, file_of, worst_of}

-- ---- The checks

-- the checks 7 and 10
abbrev pub size_checks : ℕ → ℕ → List Check
size_checks w h = check 7 (eqb w 0) ∷ check 10 (ltb 65535 w || ltb 65535 h) ∷ []

-- the checks 7, 10 and 11, of a frame that has `got` samples or bytes, `each` to a pixel
abbrev pub frame_checks : ℕ → ℕ → ℕ → ℕ → List Check
frame_checks w h got each = size_checks w h ++ check 11 (not (eqb got (each * (w * h)))) ∷ []

-- check 12, of a frame of n pixels: the first that cannot be written is named
unfoldable pub bright_checked : {A : Type 0} → (Answer ℕ → A) → List Float → ℕ → A → A
bright_checked answer samples n rest = let k = first_bright samples 0 n in pick (ltb k n) (answer (refused 12 k)) rest

-- ---- What is answered where they pass

-- the answer, and the output
abbrev pub Left : Type 0
Left = Answer ℕ × List ℕ

-- check 13, and then the file is stored from the output's start on
unfoldable pub stored : List ℕ → List ℕ → Left
stored file out = checked (λ n. (refuse n, out)) (check 13 (ltb (length out) (length file)) ∷ []) (done (length file), spread 1 out 0 file)

-- ---- The calls

-- the frame's length, from samples
unfoldable pub length_of : ℕ → ℕ → List Float → Answer ℕ
length_of w h samples =
    checked refuse (frame_checks w h (length samples) 3) (bright_checked (λ a. a) samples (w * h) (done (length (file_of samples w h))))

-- the frame's length, from four-byte pixels
unfoldable pub length4_of : ℕ → ℕ → List ℕ → Answer ℕ
length4_of w h px = checked refuse (frame_checks w h (length px) 4) (done (length (frame_of px w h)))

-- the worst length
unfoldable pub worst_answer : ℕ → ℕ → Answer ℕ
worst_answer w h = checked refuse (size_checks w h) (done (worst_of w h))

-- the file, from samples
unfoldable pub write_of : ℕ → ℕ → List Float → List ℕ → Left
write_of w h samples out =
    checked (λ n. (refuse n, out)) (frame_checks w h (length samples) 3)
    (bright_checked (λ a. (a, out)) samples (w * h) (stored (file_of samples w h) out))

-- the file, from four-byte pixels
unfoldable pub write4_of : ℕ → ℕ → List ℕ → List ℕ → Left
write4_of w h px out = checked (λ n. (refuse n, out)) (frame_checks w h (length px) 4) (stored (frame_of px w h) out)

-- ---- What the calls promise

-- `writer::length`
abbrev pub LengthPromise : ℕ → ℕ → List Float → Result ℕ Refusal → Type 0
LengthPromise w h samples answer = paper_of answer ≡ length_of w h samples

-- `writer::length4`
abbrev pub Length4Promise : ℕ → ℕ → List ℕ → Result ℕ Refusal → Type 0
Length4Promise w h px answer = paper_of answer ≡ length4_of w h px

-- `writer::worst`
abbrev pub WorstPromise : ℕ → ℕ → Result ℕ Refusal → Type 0
WorstPromise w h answer = paper_of answer ≡ worst_answer w h

-- `writer::write`: its answer, and the output afterwards
abbrev pub WritePromise : ℕ → ℕ → List Float → List ℕ → Result ℕ Refusal → List ℕ → Type 0
WritePromise w h samples out answer out' = (paper_of answer, out') ≡ write_of w h samples out

-- `writer::write4`
abbrev pub Write4Promise : ℕ → ℕ → List ℕ → List ℕ → Result ℕ Refusal → List ℕ → Type 0
Write4Promise w h px out answer out' = (paper_of answer, out') ≡ write4_of w h px out

-- RULES 7.1: 4wh + 1,024, and "none" where that passes 2^64 - 1
abbrev pub expected_size : ℕ → ℕ → Option ℕ
expected_size w h = amount_of (w * h * 4 + 1024)

-- `writer::expected_buffer_size`
abbrev pub ExpectedPromise : ℕ → ℕ → Option ℕ → Type 0
ExpectedPromise w h answer = answer ≡ expected_size w h
