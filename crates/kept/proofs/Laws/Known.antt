-- Every refusal has a number of the table, over what the calls promise: 1 to 9 where a file is read, and 25 in the crate reading and 14 to 16 in the document reading, 7 to 13 where one is written.
use Prim.{Unit}
use Prim.Native.Nat.{ℕ, ◌*◌, ◌≤◌}
use mathlib.Core.Bool.{true, false≢true}
use mathlib.Core.List.{List, [], ◌∷◌, ◌++◌}
use mathlib.Core.Logic.{◌⊎◌, inl, inr}
use mathlib.Core.Path.{◌≡◌, refl, sym, subst}
use lib.Dec.{ltb, lit≤}
use lib.Ieee.{Float}
use lib.ListN.{length}
use Rattle.steps.specs.Refusal.{reason_number}
use Rattle.std.specs.Prelude.{Err}
use Rattle.steps.specs.Place.{spread}
use Rattle.steps.specs.Answer.{Answer, done, refused, refuse, Check, check, checked}
use Rattle.steps.specs.declared.refusal.Refusal.{Refusal}
use Rattle.steps.proofs.Laws.Answer.{differ}
use Rattle.steps.proofs.Laws.Turns.{by_test}
use Rattle.words.specs.Axes.{axes_of}
use Rattle.stated.specs.declared.Said.{Said}
use Rattle.stated.specs.Said.{nothing, fault_of}
use Rattle.stated.proofs.Laws.Lines.{LineFault, said_number}
use Rattle.header.specs.declared.Head.{Head}
use Rattle.header.specs.Head.{fields_of, field_checks, said_in, head_checks, head_in, header_of, HeaderPromise}
use Rattle.steps.specs.declared.Reading.{Reading}
use Rattle.steps.specs.declared.Reading.TheVariants.{Crate, Document}
use Rattle.rows_read.specs.Row.{row_of, RowFault}
use Rattle.reader.specs.Frame.{stored_of, cleared, rows_of}
use Rattle.reader.specs.Read.{frame_checks, pixel_by, answer_of, framed, read_by, ReadPromise}
use Rattle.reader.proofs.Laws.Read.{rows_number}
use Rattle.frames_written.specs.Samples.{first_bright}
use Rattle.frames_written.specs.Frame.{frame_of, worst_of, file_of}
use Rattle.writer.specs.Write as writer
use Rattle.writer.specs.Write.{size_checks, bright_checked, stored, length_of, length4_of, worst_answer, write_of, write4_of, LengthPromise, Length4Promise, WorstPromise, WritePromise, Write4Promise}

-- from one number to another
abbrev pub Within : ℕ → ℕ → ℕ → Type 0
Within low high n = (low ≤ n) × (n ≤ high)

-- that of a line at fault, which the crate reading knows not
abbrev pub LineNumber : Reading → ℕ → Type 0
LineNumber Crate n = ⊥
LineNumber Document n = LineFault n

-- one of those where a header is read
abbrev pub HeadNumber : Reading → ℕ → Type 0
HeadNumber reading n = Within 1 5 n ⊎ LineNumber reading n

-- one of those where a file is read
abbrev pub ReadNumber : Reading → ℕ → Type 0
ReadNumber reading n = Within 1 8 n ⊎ (LineNumber reading n ⊎ RowFault reading n)

module _ (N : ℕ → Type 0) where
  -- the numbers of all checks that fail are among those
  abbrev AllKnown : List Check → Type 0
  AllKnown [] = Unit {0}
  AllKnown (check n t ∷ checks) = (t ≡ true → N n) × AllKnown checks

  known_line : (a : Answer Said) (checks : List Check) → ((number place : ℕ) → a ≡ refused number place → N number) → AllKnown checks → AllKnown (fault_of a ∷ checks)
  known_line (done said) checks faults all = (λ e. absurd (false≢true e), all)
  known_line (refused number place) checks faults all = (λ e. faults number place refl, all)

  -- so is that of a refusal
  abbrev Known : {A : Type 0} → Answer A → Type 0
  Known a = (n k : ℕ) → a ≡ refused n k → N n

  known_done : {A : Type 0} (a : A) → Known (done a)
  known_done a n k e = absurd (differ a n k e)

  known_refused : {A : Type 0} (m j : ℕ) → N m → Known {A = A} (refused m j)
  known_refused m j h n k e = let same : m ≡ n = cc in subst N same h

  -- an answer that comes from the checks or from the rest, with whatever it leaves
  known_checked : {A B : Type 0} (answer : B → Answer A) (f : ℕ → B) (checks : List Check) (rest : B) → AllKnown checks → ((n : ℕ) → answer (f n) ≡ refuse n) → Known (answer rest)
      → Known (answer (checked f checks rest))
  known_checked answer f [] rest all is passes = passes
  known_checked answer f (check n t ∷ checks) rest all is passes =
      by_test (λ z. Known (answer z)) t (λ e. subst Known (sym (is n)) (known_refused n 0 (all.0 e))) (λ e. known_checked answer f checks rest all.1 is passes)

-- ---- Reading

-- a line at fault
line_number : (reading : Reading) (bytes : List ℕ) (number place : ℕ) → said_in reading bytes ≡ refused number place → LineNumber reading number
unfolding said_in
line_number Crate bytes number place e = differ nothing number place e
line_number Document bytes number place e = (said_number Document bytes _ number place e).0

pub header_known : (reading : Reading) (bytes : List ℕ) (widest highest : ℕ) (refusal : Refusal) → HeaderPromise reading bytes widest highest (Err refusal) → HeadNumber reading (reason_number refusal.reason)
unfolding header_of head_checks
header_known reading bytes widest highest refusal promise =
    let f = fields_of bytes in
    let checks = field_checks reading (axes_of f.first f.third) f widest highest in
    subst (Known (HeadNumber reading)) (sym promise)
    (known_checked (HeadNumber reading) (λ a. a) refuse (head_checks reading bytes widest highest) (done (head_in reading bytes)) (
      λ e. inl (lit≤ tt, lit≤ tt),
      known_line (HeadNumber reading) (said_in reading bytes) checks (λ number place e. inr (line_number reading bytes number place e))
          (λ e. inl (lit≤ tt, lit≤ tt), (λ e. inl (lit≤ tt, lit≤ tt), (λ e. inl (lit≤ tt, lit≤ tt), (λ e. inl (lit≤ tt, lit≤ tt), tt)))),
    ) (λ n. refl) (known_done (HeadNumber reading) (head_in reading bytes)))
    (reason_number refusal.reason) refusal.place refl

rows_known : (reading : Reading) (head : Head) (a : Answer ℕ) → ((number row : ℕ) → a ≡ refused number row → RowFault reading number) → Known (ReadNumber reading) (answer_of head a)
rows_known reading head (done at) faults = known_done (ReadNumber reading) _
rows_known reading head (refused number row) faults = known_refused (ReadNumber reading) number row (inr (inr (faults number row refl)))

pub read_known : (reading : Reading) (bytes : List ℕ) (widest highest : ℕ) (out out' : List Float) (store store' : List ℕ) (refusal : Refusal)
    → ReadPromise reading bytes widest highest out store (Err refusal) out' store' → ReadNumber reading (reason_number refusal.reason)
unfolding read_by head_checks
read_known reading bytes widest highest out out' store store' refusal promise =
    let f = fields_of bytes in
    let head = head_in reading bytes in
    let checks = field_checks reading (axes_of f.first f.third) f widest highest ++ frame_checks head out store in
    let rows = rows_of (row_of reading) (pixel_by reading) bytes (stored_of head) head.taken out (cleared (stored_of head).long store) in
    subst (λ (z : Answer Head × List Float × List ℕ). Known (ReadNumber reading) z.0) (sym promise)
    (known_checked (ReadNumber reading) (λ (z : Answer Head × List Float × List ℕ). z.0) (λ n. (refuse n, out, store)) (head_checks reading bytes widest highest ++ frame_checks head out store) (framed head rows) (
      λ e. inl (lit≤ tt, lit≤ tt),
      known_line (ReadNumber reading) (said_in reading bytes) checks (λ number place e. inr (inl (line_number reading bytes number place e)))
          (λ e. inl (lit≤ tt, lit≤ tt), (λ e. inl (lit≤ tt, lit≤ tt), (λ e. inl (lit≤ tt, lit≤ tt), (λ e. inl (lit≤ tt, lit≤ tt), (λ e. inl (lit≤ tt, lit≤ tt), (λ e. inl (lit≤ tt, lit≤ tt), (λ e. inl (lit≤ tt, lit≤ tt), tt))))))),
    )
    (λ n. refl)
    (rows_known reading head rows.0 (λ number row e. rows_number reading (pixel_by reading) bytes (stored_of head) head.taken out (cleared (stored_of head).long store) number row e)))
    (reason_number refusal.reason) refusal.place refl

-- ---- Writing

module _ (w h : ℕ) where
  sizes_within : AllKnown (Within 7 13) (size_checks w h)
  sizes_within = (λ e. (lit≤ tt, lit≤ tt), (λ e. (lit≤ tt, lit≤ tt), tt))

  frame_within : (got each : ℕ) → AllKnown (Within 7 13) (writer.frame_checks w h got each)
  frame_within got each = (λ e. (lit≤ tt, lit≤ tt), (λ e. (lit≤ tt, lit≤ tt), (λ e. (lit≤ tt, lit≤ tt), tt)))

  bright_known : {B : Type 0} (answer : B → Answer ℕ) (f : Answer ℕ → B) (samples : List Float) (n : ℕ) (rest : B) → ((a : Answer ℕ) → answer (f a) ≡ a) → Known (Within 7 13) (answer rest)
      → Known (Within 7 13) (answer (bright_checked f samples n rest))
  unfolding bright_checked
  bright_known answer f samples n rest is passes =
      by_test (λ z. Known (Within 7 13) (answer z)) (ltb (first_bright samples 0 n) n)
      (λ t. subst (Known (Within 7 13)) (sym (is (refused 12 (first_bright samples 0 n)))) (known_refused (Within 7 13) 12 (first_bright samples 0 n) (lit≤ tt, lit≤ tt))) (λ t. passes)

  stored_known : (file out : List ℕ) → Known (Within 7 13) (stored file out).0
  unfolding stored
  stored_known file out =
      known_checked (Within 7 13) (λ (z : writer.Left). z.0) (λ n. (refuse n, out)) (check 13 (ltb (length out) (length file)) ∷ []) (done (length file), spread 1 out 0 file)
      (λ e. (lit≤ tt, lit≤ tt), tt) (λ n. refl) (known_done (Within 7 13) (length file))

  module _ (refusal : Refusal) where
    pub worst_known : WorstPromise w h (Err refusal) → Within 7 13 (reason_number refusal.reason)
    unfolding worst_answer
    worst_known promise =
        subst (Known (Within 7 13)) (sym promise) (known_checked (Within 7 13) (λ a. a) refuse (size_checks w h) (done (worst_of w h)) sizes_within (λ n. refl) (known_done (Within 7 13) (worst_of w h)))
        (reason_number refusal.reason) refusal.place refl

    pub length_known : (samples : List Float) → LengthPromise w h samples (Err refusal) → Within 7 13 (reason_number refusal.reason)
    unfolding length_of
    length_known samples promise =
        let size : Answer ℕ = done (length (file_of samples w h)) in
        subst (Known (Within 7 13)) (sym promise)
        (known_checked (Within 7 13) (λ a. a) refuse (writer.frame_checks w h (length samples) 3) (bright_checked (λ a. a) samples (w * h) size) (frame_within (length samples) 3) (λ n. refl)
        (bright_known (λ a. a) (λ a. a) samples (w * h) size (λ a. refl) (known_done (Within 7 13) (length (file_of samples w h)))))
        (reason_number refusal.reason) refusal.place refl

    pub length4_known : (px : List ℕ) → Length4Promise w h px (Err refusal) → Within 7 13 (reason_number refusal.reason)
    unfolding length4_of
    length4_known px promise =
        subst (Known (Within 7 13)) (sym promise)
        (known_checked (Within 7 13) (λ a. a) refuse (writer.frame_checks w h (length px) 4) (done (length (frame_of px w h))) (frame_within (length px) 4) (λ n. refl) (known_done (Within 7 13) (length (frame_of px w h))))
        (reason_number refusal.reason) refusal.place refl

    pub write_known : (samples : List Float) (out out' : List ℕ) → WritePromise w h samples out (Err refusal) out' → Within 7 13 (reason_number refusal.reason)
    unfolding write_of
    write_known samples out out' promise =
        let rest : writer.Left = stored (file_of samples w h) out in
        subst (λ (z : writer.Left). Known (Within 7 13) z.0) (sym promise)
        (known_checked (Within 7 13) (λ (z : writer.Left). z.0) (λ n. (refuse n, out)) (writer.frame_checks w h (length samples) 3) (bright_checked (λ a. (a, out)) samples (w * h) rest)
        (frame_within (length samples) 3) (λ n. refl)
        (bright_known (λ (z : writer.Left). z.0) (λ a. (a, out)) samples (w * h) rest (λ a. refl) (stored_known (file_of samples w h) out)))
        (reason_number refusal.reason) refusal.place refl

    pub write4_known : (px out out' : List ℕ) → Write4Promise w h px out (Err refusal) out' → Within 7 13 (reason_number refusal.reason)
    unfolding write4_of
    write4_known px out out' promise =
        subst (λ (z : writer.Left). Known (Within 7 13) z.0) (sym promise)
        (known_checked (Within 7 13) (λ (z : writer.Left). z.0) (λ n. (refuse n, out)) (writer.frame_checks w h (length px) 4) (stored (frame_of px w h) out) (frame_within (length px) 4) (λ n. refl)
        (stored_known (frame_of px w h) out))
        (reason_number refusal.reason) refusal.place refl
