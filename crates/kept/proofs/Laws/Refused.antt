-- A refusal changes no lent memory, over what the calls promise; 9, and 25 or 14, of the reader are the only ones that may.
use Prim.Native.Nat.{ℕ, ◌*◌}
use mathlib.Core.List.{List, [], ◌∷◌, ◌++◌}
use mathlib.Core.Path.{◌≡◌, refl, sym, subst}
use lib.Dec.{ltb}
use lib.Ieee.{Float}
use lib.ListN.{length}
use Rattle.steps.specs.Refusal.{reason_number}
use Rattle.std.specs.Prelude.{Err}
use Rattle.steps.specs.Place.{spread}
use Rattle.steps.specs.Answer.{Answer, done, refused, refuse, Check, check, checked}
use Rattle.steps.specs.declared.refusal.Refusal.{Refusal}
use Rattle.steps.proofs.Laws.Answer.{differ}
use Rattle.steps.proofs.Laws.Turns.{by_test}
use Rattle.header.specs.declared.Head.{Head}
use Rattle.header.specs.Head.{head_checks, head_in}
use Rattle.steps.specs.declared.Reading.{Reading}
use Rattle.rows_read.specs.Row.{row_of, RowFault}
use Rattle.reader.specs.Frame.{stored_of, cleared, rows_of}
use Rattle.reader.specs.Read.{frame_checks, pixel_by, answer_of, framed, read_by, read_of, ReadPromise}
use Rattle.reader.proofs.Laws.Read.{rows_number}
use Rattle.frames_written.specs.Samples.{first_bright}
use Rattle.frames_written.specs.Frame.{frame_of, file_of}
use Rattle.writer.specs.Write as writer
use Rattle.writer.specs.Write.{Left, bright_checked, stored, write_of, write4_of, WritePromise, Write4Promise}

-- what holds of each refusal and of the rest holds of the checks
every : {A : Type 0} (P : A → Type 0) (f : ℕ → A) (checks : List Check) (rest : A) → ((n : ℕ) → P (f n)) → P rest → P (checked f checks rest)
every P f [] rest fails passes = passes
every P f (check n t ∷ checks) rest fails passes = by_test P t (λ e. fails n) (λ e. every P f checks rest fails passes)

number_of : {A : Type 0} {n m k j : ℕ} → ◌≡◌ {A = Answer A} (refused n k) (refused m j) → n ≡ m
number_of e = cc

-- ---- The reader

abbrev Read : Type 0
Read = Answer Head × List Float × List ℕ

module _ (reading : Reading) (bytes : List ℕ) (widest highest : ℕ) (out : List Float) (store : List ℕ) where
  -- a refusal that is not a row's leaves both as they were
  abbrev Same : Read → Type 0
  Same z = (n k : ℕ) → z.0 ≡ refused n k → (RowFault reading n → ⊥) → (z.1 ≡ out) × (z.2 ≡ store)

  by_rows : (head : Head) (a : Answer ℕ) (o : List Float) (s : List ℕ) → ((number row : ℕ) → a ≡ refused number row → RowFault reading number) → Same (answer_of head a, o, s)
  by_rows head (done at) o s faults n k e not = absurd (differ _ n k e)
  by_rows head (refused number row) o s faults n k e not = absurd (not (subst (RowFault reading) (number_of e) (faults number row refl)))

  same : Same (read_of reading bytes widest highest out store)
  unfolding read_by
  same =
      let head = head_in reading bytes in
      let rows = rows_of (row_of reading) (pixel_by reading) bytes (stored_of head) head.taken out (cleared (stored_of head).long store) in
      every Same (λ n. (refuse n, out, store)) (head_checks reading bytes widest highest ++ frame_checks head out store) (framed head rows) (λ m n k e not. (refl, refl))
      (by_rows head rows.0 rows.1 rows.2 (λ number row e. rows_number reading (pixel_by reading) bytes (stored_of head) head.taken out (cleared (stored_of head).long store) number row e))

  pub read_refused_same : (refusal : Refusal) (out' : List Float) (store' : List ℕ) → ReadPromise reading bytes widest highest out store (Err refusal) out' store'
      → (RowFault reading (reason_number refusal.reason) → ⊥) → (out' ≡ out) × (store' ≡ store)
  read_refused_same refusal out' store' promise = subst Same (sym promise) same (reason_number refusal.reason) refusal.place refl

-- ---- The writer

module _ (w h : ℕ) (out : List ℕ) where
  abbrev Unchanged : Left → Type 0
  Unchanged z = (n k : ℕ) → z.0 ≡ refused n k → z.1 ≡ out

  fails : (n : ℕ) → Unchanged (refuse n, out)
  fails n m k e = refl

  stored_unchanged : (file : List ℕ) → Unchanged (stored file out)
  unfolding stored
  stored_unchanged file =
      every Unchanged (λ n. (refuse n, out)) (check 13 (ltb (length out) (length file)) ∷ []) (done (length file), spread 1 out 0 file) fails (λ n k e. absurd (differ (length file) n k e))

  bright_unchanged : (samples : List Float) (n : ℕ) (rest : Left) → Unchanged rest → Unchanged (bright_checked (λ a. (a, out)) samples n rest)
  unfolding bright_checked
  bright_unchanged samples n rest passes = by_test Unchanged (ltb (first_bright samples 0 n) n) (λ t m k e. refl) (λ t. passes)

  write_unchanged : (samples : List Float) → Unchanged (write_of w h samples out)
  unfolding write_of
  write_unchanged samples =
      every Unchanged (λ n. (refuse n, out)) (writer.frame_checks w h (length samples) 3) (bright_checked (λ a. (a, out)) samples (w * h) (stored (file_of samples w h) out)) fails
      (bright_unchanged samples (w * h) (stored (file_of samples w h) out) (stored_unchanged (file_of samples w h)))

  write4_unchanged : (px : List ℕ) → Unchanged (write4_of w h px out)
  unfolding write4_of
  write4_unchanged px = every Unchanged (λ n. (refuse n, out)) (writer.frame_checks w h (length px) 4) (stored (frame_of px w h) out) fails (stored_unchanged (frame_of px w h))

  pub write_refused_same : (samples : List Float) (refusal : Refusal) (out' : List ℕ) → WritePromise w h samples out (Err refusal) out' → out' ≡ out
  write_refused_same samples refusal out' promise = subst Unchanged (sym promise) (write_unchanged samples) (reason_number refusal.reason) refusal.place refl

  pub write4_refused_same : (px : List ℕ) (refusal : Refusal) (out' : List ℕ) → Write4Promise w h px out (Err refusal) out' → out' ≡ out
  write4_refused_same px refusal out' promise = subst Unchanged (sym promise) (write4_unchanged px) (reason_number refusal.reason) refusal.place refl
