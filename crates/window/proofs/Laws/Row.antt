-- The laws of `specs/Row.antt`: of what the code finds, and that what a part says of a row holds of the whole file, by any rule.
use Prim.Native.Nat.{ℕ, ◌+◌, ◌≤◌}
use mathlib.Core.Bool.{Bool, true, false, ◌&&◌}
use mathlib.Core.List.{List, ◌++◌, append-nil}
use mathlib.Core.Path.{◌≡◌, refl, sym, ap, ◌∙◌}
use borrow.Author.Tests.{leb-false, eqb-false}
use lib.ListN.{length}
use lib.Dec.{leb, eqb}
use Rattle.std.specs.Prelude.{Option, Ok, Err}
use Rattle.steps.specs.Answer.{Taken}
use Rattle.steps.specs.Refusal.{reason_number}
use Rattle.steps.proofs.Laws.Turns.{by_test}
use Rattle.steps.specs.declared.Reading.{Reading}
use Rattle.rows_read.specs.Row.{RowRule, row_of}
use Rattle.rows_read.specs.Middle.{Settled, later, Before, Behind}
use Rattle.rows_read.proofs.Laws.Bounds.{row_onward, reading_sound}
use Rattle.rows_read.proofs.Laws.Before.{anywhere, reading_before}
use Rattle.rows_read.proofs.Laws.Behind.{reading_behind}
use Rattle.window.specs.Row.{row_part, part_by, RowWithin, Goes, OfFile}

-- the next place lies in the part
within : (more : Bool) (n : ℕ) (t : Taken) → ((next : ℕ) → t ≡ Ok next → next ≤ n) → RowWithin n (row_part more n t)
unfolding row_part
within more n (Ok next) h = by_test (RowWithin n) (more && leb n next) (λ _. tt) (λ _. h next refl)
within more n (Err reason) h = by_test (RowWithin n) (more && eqb (reason_number reason) 9) (λ _. tt) (λ _. tt)

module _ (reading : Reading) (part : List ℕ) (more : Bool) (at : ℕ) (store store' : List ℕ) (width : ℕ) (t : Taken) (n : ℕ) (r : Option Taken) (e : (t, store') ≡ row_of reading part at store width) (en : n ≡ length part) (er : r ≡ row_part more n t) where
  pub part_is : (r, store') ≡ part_by (row_of reading) part more at store width
  unfolding part_by
  part_is = rw (er, en) (ap (λ (z : Taken × List ℕ). (row_part more (length part) z.0, z.1)) e)

  pub part_within : at ≤ length part → RowWithin (length part) r
  part_within h =
      let et : t ≡ (row_of reading part at store width).0 = ap (λ (z : Taken × List ℕ). z.0) e in
      rw (er, en) (within more (length part) t (λ next k. (row_onward (row_of reading) (reading_sound reading) part at store width next (sym et ∙ k) h).1))

-- ---- What a part says of a row holds of the whole file

module _ (rule : RowRule) (before : Before rule) (behind : Behind rule) (pre part rest : List ℕ) (at : ℕ) (store : List ℕ) (width : ℕ) where
  abbrev there : Taken × List ℕ
  there = rule part at store width

  abbrev in_file : Taken × List ℕ
  in_file = rule (pre ++ (part ++ rest)) (length pre + at) store width

  -- an answer of the part that cannot be another in the file
  same : (more b : Bool) → Goes more rest → (more && b) ≡ false → (b ≡ false → Settled (length part) there.0) → in_file ≡ (later (length pre) there.0, there.1)
  same true b goes e settled = anywhere rule before behind pre part rest at store width (settled e)
  same false b goes e settled = rw (goes, append-nil part) (before pre part at store width)

  -- what the part says of a row, by the rule's answer
  by_answer : (more : Bool) → Goes more rest → (t : Taken) (s : List ℕ) → there ≡ (t, s) → OfFile (length pre) (row_part more (length part) t) s in_file
  unfolding row_part
  by_answer more goes (Ok next) s e =
      by_test (λ (r : Option Taken). OfFile (length pre) r s in_file) (more && leb (length part) next) (λ _. tt)
      (λ u. same more (leb (length part) next) goes u (λ v. rw e (leb-false (length part) next v)) ∙ rw e)
  by_answer more goes (Err reason) s e =
      by_test (λ (r : Option Taken). OfFile (length pre) r s in_file) (more && eqb (reason_number reason) 9) (λ _. tt)
      (λ u. same more (eqb (reason_number reason) 9) goes u (λ v. rw e (λ k. eqb-false (reason_number reason) 9 v (ap reason_number k))) ∙ rw e)

  -- a row of the part is that row of the file, so many places later, with the same number or the same place after it and the same row store
  pub row_of_file : (more : Bool) → Goes more rest → OfFile (length pre) (part_by rule part more at store width).0 (part_by rule part more at store width).1 in_file
  unfolding part_by
  row_of_file more goes = by_answer more goes there.0 there.1 refl

-- by either reading
pub reading_row_of_file : (reading : Reading) (pre part rest : List ℕ) (at : ℕ) (store : List ℕ) (width : ℕ) (more : Bool) → Goes more rest
    → OfFile (length pre) (part_by (row_of reading) part more at store width).0 (part_by (row_of reading) part more at store width).1 (row_of reading (pre ++ (part ++ rest)) (length pre + at) store width)
reading_row_of_file reading = row_of_file (row_of reading) (reading_before reading) (reading_behind reading)
