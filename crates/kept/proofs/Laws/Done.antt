-- A file that is read, by any rules: its header is read, the checks pass and its rows are done; and the other way.
use Prim.Native.Nat.{ℕ}
use mathlib.Core.List.{List}
use mathlib.Core.Path.{◌≡◌, refl, sym, ap, ◌∙◌}
use lib.Ieee.{Float}
use Rattle.steps.specs.Answer.{Answer, done, refused, refuse}
use Rattle.steps.specs.declared.Reading.{Reading}
use Rattle.steps.proofs.Laws.Answer.{Passed, differ, pass, passed_by}
use Rattle.header.specs.declared.Head.{Head}
use Rattle.header.specs.Head.{header_of, taking}
use Rattle.rows_read.specs.Row.{RowRule}
use Rattle.reader.specs.Samples.{SampleRule}
use Rattle.reader.specs.Frame.{stored_of, cleared, Left, rows_of}
use Rattle.reader.specs.Read.{frame_checks, framed, read_by}
use Rattle.reader.specs.Inner.{frame_answer}
use Rattle.reader.proofs.Laws.Read.{read_frame, read_refused}

-- a refusal is not what was done
pub refused_done : {A X : Type 0} (number place : ℕ) (a : A) (out out' : List Float) (store store' : List ℕ)
    → ◌≡◌ {A = Answer A × List Float × List ℕ} (refused number place, out, store) (done a, out', store') → X
refused_done {A} number place a out out' store store' e = absurd (differ a number place (sym (ap (λ (z : Answer A × List Float × List ℕ). z.0) e)))

module _ (reading : Reading) (row_rule : RowRule) (rule : SampleRule) (bytes : List ℕ) (widest highest : ℕ) (out : List Float) (store : List ℕ) where
  -- the rows of a file whose header says h
  abbrev pub rows_by : Head → Left
  rows_by h = rows_of row_rule rule bytes (stored_of h) h.taken out (cleared (stored_of h).long store)

  pub record FileRead (head : Head) (out' : List Float) (store' : List ℕ) : Type 0 where
    -- the header, with the count of its own bytes
    pub own : Head
    pub header : header_of reading bytes widest highest ≡ done own
    pub checks : Passed (frame_checks own out store)
    pub rows : rows_by own ≡ (done head.taken, out', store')
    pub said : taking own head.taken ≡ head

  module _ (head : Head) (out' : List Float) (store' : List ℕ) where
    framed_done : (h : Head) (a : Left) → framed h a ≡ (done head, out', store') → (a ≡ (done head.taken, out', store')) × (taking h head.taken ≡ head)
    framed_done h (done p, o, s) e =
        let same : taking h p ≡ head = ap head_of (ap (λ (z : Answer Head × List Float × List ℕ). z.0) e) in
        let count : p ≡ head.taken = ap (λ (x : Head). x.taken) same in
        (ap (λ (q : ℕ). (done q, o, s)) count ∙ ap (λ (z : Answer Head × List Float × List ℕ). (done head.taken, z.1, z.2)) e, ap (taking h) (sym count) ∙ same)
      where
        head_of : Answer Head → Head
        head_of (done x) = x
        head_of (refused n q) = h
    framed_done h (refused n q, o, s) e = refused_done n q head o out' s store' e

    by_header : (a : Answer Head) → header_of reading bytes widest highest ≡ a → read_by reading row_rule rule bytes widest highest out store ≡ (done head, out', store') → FileRead head out' store'
    unfolding frame_answer
    by_header (refused n p) eh e =
        refused_done n p head out out' store store' (read_refused reading row_rule rule bytes widest highest out store (refused n p) (sym eh) n p refl ∙ e)
    by_header (done h) eh e =
        let through = passed_by (λ n. (refuse n, out, store)) (frame_checks h out store) (framed h (rows_by h)) (done head, out', store') (λ n k. refused_done n 0 head out out' store store' k)
        (read_frame reading row_rule rule bytes widest highest out store (done h) (sym eh) h _ refl refl ∙ e) in
        let left = framed_done h (rows_by h) through.1 in
        record { own = h; header = eh; checks = through.0; rows = left.0; said = left.1 }

    pub file_read : read_by reading row_rule rule bytes widest highest out store ≡ (done head, out', store') → FileRead head out' store'
    file_read = by_header (header_of reading bytes widest highest) refl

    pub read_file : FileRead head out' store' → read_by reading row_rule rule bytes widest highest out store ≡ (done head, out', store')
    unfolding frame_answer
    read_file f =
        let h = f.own in
        sym (read_frame reading row_rule rule bytes widest highest out store (done h) (sym f.header) h _ refl refl) ∙ pass (λ n. (refuse n, out, store)) (frame_checks h out store) (framed h (rows_by h)) f.checks
        ∙ ap (framed h) f.rows ∙ ap (λ (x : Head). (done x, out', store')) f.said
