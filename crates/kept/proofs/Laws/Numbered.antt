-- "Numbered exactly": for each call the number answered is n exactly if check n is the first in the call's order that fails.
use Prim.Native.Nat.{ℕ, ◌*◌}
use mathlib.Core.Bool.{Bool, true, false}
use mathlib.Core.List.{List, [], ◌∷◌, ◌++◌}
use mathlib.Core.Logic.{◌⊎◌, inl, inr}
use mathlib.Core.Path.{◌≡◌, refl, sym, ap, ◌∙◌}
use lib.ListN.{length}
use lib.Dec.{ltb}
use lib.Ieee.{Float}
use Rattle.steps.specs.Loop.{pick}
use Rattle.steps.specs.Answer.{Answer, done, refused, refuse, Check, check, checked}
use Rattle.steps.specs.Numbered.{number_of, first_of, Exactly}
use Rattle.steps.proofs.Laws.Numbered.{number_checked, first_append, exactly, checked_of}
use Rattle.header.specs.declared.Head.{Head}
use Rattle.header.specs.Head.{head_checks, header_of, head_in}
use Rattle.steps.specs.declared.Reading.{Reading}
use Rattle.rows_read.specs.Row.{RowRule, row_of, RowFault}
use Rattle.reader.specs.Samples.{SampleRule}
use Rattle.places.specs.Places.{Stored}
use Rattle.reader.specs.Frame.{stored_of, cleared, rows_of, fault_of}
use Rattle.reader.specs.Read.{frame_checks, answer_of, framed, pixel_by, read_by, read_of}
use Rattle.reader.proofs.Laws.Read.{rows_number}
use Rattle.frames_written.specs.Samples.{first_bright}
use Rattle.frames_written.specs.Frame.{frame_of, worst_of, file_of}
use Rattle.writer.specs.Write as writer
use Rattle.writer.specs.Write.{size_checks, bright_checked, stored, length_of, length4_of, worst_answer, write_of, write4_of}
use Rattle.kept.specs.Numbered.{read_checks, length_checks, write_checks, write4_checks}

-- `header::read`: 1, 15 or 16, and 2 to 5
pub header_numbered : (reading : Reading) (bytes : List ℕ) (widest highest : ℕ) → Exactly (head_checks reading bytes widest highest) (number_of (header_of reading bytes widest highest))
unfolding header_of
header_numbered reading bytes widest highest = exactly (head_checks reading bytes widest highest) _ (number_checked (head_checks reading bytes widest highest) (done (head_in reading bytes)))

-- ---- The reader, by any rule for a row and for a pixel

module _ (reading : Reading) (row_rule : RowRule) (rule : SampleRule) (bytes : List ℕ) (widest highest : ℕ) (out : List Float) (store : List ℕ) where
  head : Head
  head = head_in reading bytes

  rows : Answer ℕ × List Float × List ℕ
  rows = rows_of row_rule rule bytes (stored_of head) head.taken out (cleared (stored_of head).long store)

  -- the number of the rows is that of their check
  same_number : (h : Head) (a : Answer ℕ) → number_of (answer_of h a) ≡ first_of (fault_of a ∷ []) 0
  same_number h (done n) = refl
  same_number h (refused n p) = refl

  read_number : number_of (read_by reading row_rule rule bytes widest highest out store).0 ≡ first_of (read_checks reading row_rule rule bytes widest highest out store) 0
  unfolding read_by read_checks head rows
  read_number =
      let cs = head_checks reading bytes widest highest in
      let ds = frame_checks head out store in
      ap number_of (checked_of (λ (z : Answer Head × List Float × List ℕ). z.0) (λ n. (refuse n, out, store)) (cs ++ ds) (framed head rows))
      ∙ number_checked (cs ++ ds) (answer_of head rows.0)
      ∙ first_append cs ds _
      ∙ ap (λ (n : ℕ). first_of cs (first_of ds n)) (same_number head rows.0)
      ∙ ap (first_of cs) (sym (first_append ds (fault_of rows.0 ∷ []) 0))
      ∙ sym (first_append cs (ds ++ fault_of rows.0 ∷ []) 0)

  pub read_numbered_by : Exactly (read_checks reading row_rule rule bytes widest highest out store) (number_of (read_by reading row_rule rule bytes widest highest out store).0)
  read_numbered_by = exactly (read_checks reading row_rule rule bytes widest highest out store) _ read_number

-- `reader::read`: 1, 15 or 16, 2 to 8, and the number of a row
pub read_numbered : (reading : Reading) (bytes : List ℕ) (widest highest : ℕ) (out : List Float) (store : List ℕ)
    → Exactly (read_checks reading (row_of reading) (pixel_by reading) bytes widest highest out store) (number_of (read_of reading bytes widest highest out store).0)
read_numbered reading = read_numbered_by reading (row_of reading) (pixel_by reading)

-- the check of a reading's rows is 9, or 25 or 14, where it fails
pub fault_known : (reading : Reading) (rule : SampleRule) (bytes : List ℕ) (stored : Stored) (at : ℕ) (out : List Float) (store : List ℕ)
    → let fault = fault_of (rows_of (row_of reading) rule bytes stored at out store).0 in (fault ≡ check 0 false) ⊎ ((n : ℕ) × RowFault reading n × (fault ≡ check n true))
fault_known reading rule bytes stored at out store = by (rows_of (row_of reading) rule bytes stored at out store).0 (λ number row e. rows_number reading rule bytes stored at out store number row e)
  where
    by : (a : Answer ℕ) → ((number row : ℕ) → a ≡ refused number row → RowFault reading number) → (fault_of a ≡ check 0 false) ⊎ ((n : ℕ) × RowFault reading n × (fault_of a ≡ check n true))
    by (done next) faults = inl refl
    by (refused number row) faults = inr (number, faults number row refl, refl)

-- ---- The writer's calls

-- `writer::worst`: 7, 10
pub worst_numbered : (w h : ℕ) → Exactly (size_checks w h) (number_of (worst_answer w h))
unfolding worst_answer
worst_numbered w h = exactly (size_checks w h) _ (number_checked (size_checks w h) (done (worst_of w h)))

-- `writer::length4`: 7, 10, 11
pub length4_numbered : (w h : ℕ) (px : List ℕ) → Exactly (writer.frame_checks w h (length px) 4) (number_of (length4_of w h px))
unfolding length4_of
length4_numbered w h px = exactly (writer.frame_checks w h (length px) 4) _ (number_checked (writer.frame_checks w h (length px) 4) (done (length (frame_of px w h))))

-- check 12 by its number
bright_number : {A : Type 0} (f : A → ℕ) (answer : Answer ℕ → A) (samples : List Float) (n : ℕ) (rest : A) → ((a : Answer ℕ) → f (answer a) ≡ number_of a)
    → f (bright_checked answer samples n rest) ≡ first_of (check 12 (ltb (first_bright samples 0 n) n) ∷ []) (f rest)
unfolding bright_checked
bright_number f answer samples n rest h = by (ltb (first_bright samples 0 n) n)
  where
    by : (t : Bool) → f (pick t (answer (refused 12 (first_bright samples 0 n))) rest) ≡ pick t 12 (f rest)
    by true = h (refused 12 (first_bright samples 0 n))
    by false = refl

-- `writer::length`: 7, 10, 11, 12
pub length_numbered : (w h : ℕ) (samples : List Float) → Exactly (length_checks w h samples) (number_of (length_of w h samples))
unfolding length_of length_checks
length_numbered w h samples =
    let cs = writer.frame_checks w h (length samples) 3 in
    exactly (length_checks w h samples) _
    (number_checked cs _
    ∙ ap (first_of cs) (bright_number number_of (λ a. a) samples (w * h) _ (λ a. refl))
    ∙ sym (first_append cs (check 12 (ltb (first_bright samples 0 (w * h)) (w * h)) ∷ []) 0))

-- what is stored, or refused by 13
stored_number : (file out : List ℕ) → number_of (stored file out).0 ≡ first_of (check 13 (ltb (length out) (length file)) ∷ []) 0
unfolding stored
stored_number file out =
    ap number_of (checked_of (λ (z : Answer ℕ × List ℕ). z.0) (λ n. (refuse n, out)) (check 13 (ltb (length out) (length file)) ∷ []) _)
    ∙ number_checked (check 13 (ltb (length out) (length file)) ∷ []) _

first_of_left : (cs : List Check) (out : List ℕ) (rest : Answer ℕ × List ℕ) → number_of (checked (λ n. (refuse n, out)) cs rest).0 ≡ first_of cs (number_of rest.0)
first_of_left cs out rest = ap number_of (checked_of (λ (z : Answer ℕ × List ℕ). z.0) (λ n. (refuse n, out)) cs rest) ∙ number_checked cs rest.0

-- `writer::write4`: 7, 10, 11, 13
pub write4_numbered : (w h : ℕ) (px out : List ℕ) → Exactly (write4_checks w h px out) (number_of (write4_of w h px out).0)
unfolding write4_of write4_checks
write4_numbered w h px out =
    let cs = writer.frame_checks w h (length px) 4 in
    exactly (write4_checks w h px out) _
    (first_of_left cs out (stored (frame_of px w h) out) ∙ ap (first_of cs) (stored_number (frame_of px w h) out) ∙ sym (first_append cs (check 13 (ltb (length out) (length (frame_of px w h))) ∷ []) 0))

-- `writer::write`: 7, 10, 11, 12, 13
pub write_numbered : (w h : ℕ) (samples : List Float) (out : List ℕ) → Exactly (write_checks w h samples out) (number_of (write_of w h samples out).0)
unfolding write_of write_checks length_checks
write_numbered w h samples out =
    let cs = writer.frame_checks w h (length samples) 3 in
    let bright : List Check = check 12 (ltb (first_bright samples 0 (w * h)) (w * h)) ∷ [] in
    let room : List Check = check 13 (ltb (length out) (length (file_of samples w h))) ∷ [] in
    exactly (write_checks w h samples out) _
    (first_of_left cs out _
    ∙ ap (first_of cs) (bright_number (λ (z : Answer ℕ × List ℕ). number_of z.0) (λ a. (a, out)) samples (w * h) _ (λ a. refl) ∙ ap (first_of bright) (stored_number (file_of samples w h) out))
    ∙ sym (first_append (cs ++ bright) room 0 ∙ first_append cs bright (first_of room 0)))
