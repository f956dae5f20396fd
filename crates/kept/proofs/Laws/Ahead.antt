-- What can be known of a file before it is written, over what the calls promise: its length, and that it is not longer than the worst.
use Prim.Native.Nat.{ℕ, ◌+◌, ◌*◌, ◌≤◌}
use mathlib.Core.List.{List}
use mathlib.Core.Bool.{◌&&◌}
use mathlib.Core.Path.{◌≡◌, refl, sym, subst, ◌∙◌}
use native.Mathlib.Nat.{mul_comm, mul_assoc, mul-le-mul_left}
use native.Mathlib.Omega.{arith}
use borrow.Author.Tests.{leb-true}
use lib.Dec.{leb}
use lib.ListN.{length}
use lib.Ieee.{Float}
use Rattle.std.specs.Prelude.{Result, Ok}
use Rattle.steps.specs.declared.refusal.Refusal.{Refusal}
use Rattle.steps.specs.Answer.{Answer, done, refuse}
use Rattle.steps.proofs.Laws.Answer.{differ, passed_by}
use Rattle.steps.proofs.Laws.Turns.{by_test, and_left}
use Rattle.header.specs.Written.{digits_by, digits, written}
use Rattle.rows_written.specs.Row.{worst_row}
use Rattle.steps.specs.Width.{is_coded}
use Rattle.frames_written.specs.Frame.{worst_of}
use Rattle.writer.specs.Write.{size_checks, worst_answer, LengthPromise, Length4Promise, WorstPromise, WritePromise, Write4Promise}
use Rattle.writer.proofs.Laws.Told.{write_told, write4_told, length_once, length4_once}
use Rattle.kept.proofs.Laws.Longest.{never_longer, never_longer_4}

-- ---- The length that `writer::length` or `writer::length4` answers is that of the file

module _ (w h n : ℕ) (lent left : List ℕ) (answer : Result ℕ Refusal) where
  pub length_ahead : (samples : List Float) → WritePromise w h samples lent (Ok n) left → LengthPromise w h samples answer → answer ≡ Ok n
  length_ahead samples wrote asked = length_once w h answer (Ok n) samples asked (sym (write_told w h n samples lent left (sym wrote)).1)

  pub length4_ahead : (px : List ℕ) → Write4Promise w h px lent (Ok n) left → Length4Promise w h px answer → answer ≡ Ok n
  length4_ahead px wrote asked = length4_once w h answer (Ok n) px asked (sym (write4_told w h n px lent left (sym wrote)).1)

-- ---- No file that `writer::write` or `writer::write4` writes is longer than the worst length, and none than `writer::worst` answers

module _ (w h n : ℕ) (lent left : List ℕ) where
  pub write_no_longer : (samples : List Float) → WritePromise w h samples lent (Ok n) left → n ≤ worst_of w h
  write_no_longer samples wrote = never_longer w h samples n (write_told w h n samples lent left (sym wrote)).1

  pub write4_no_longer : (px : List ℕ) → Write4Promise w h px lent (Ok n) left → n ≤ worst_of w h
  write4_no_longer px wrote = never_longer_4 w h px n (write4_told w h n px lent left (sym wrote)).1

pub worst_told : (w h m : ℕ) → WorstPromise w h (Ok m) → m ≡ worst_of w h
unfolding worst_answer
worst_told w h m asked = same (passed_by refuse (size_checks w h) (done (worst_of w h)) (done m) (λ k e. differ m k 0 (sym e)) (sym asked)).1
  where
    same : {a b : ℕ} → ◌≡◌ {A = Answer ℕ} (done a) (done b) → b ≡ a
    same e = cc

module _ (w h n m : ℕ) (lent left : List ℕ) (asked : WorstPromise w h (Ok m)) where
  pub write_under_worst : (samples : List Float) → WritePromise w h samples lent (Ok n) left → n ≤ m
  write_under_worst samples wrote = subst (λ (z : ℕ). n ≤ z) (sym (worst_told w h m asked)) (write_no_longer w h n lent left samples wrote)

  pub write4_under_worst : (px : List ℕ) → Write4Promise w h px lent (Ok n) left → n ≤ m
  write4_under_worst px wrote = subst (λ (z : ℕ). n ≤ z) (sym (worst_told w h m asked)) (write4_no_longer w h n lent left px wrote)

-- ---- The worst length is at most five bytes a pixel and the header

row_five : (w : ℕ) → worst_row w ≤ 5 * w
unfolding worst_row is_coded
row_five w = by_test (λ (n : ℕ). n ≤ 5 * w) (leb 8 w && leb w 32767) (λ t. let h = leb-true 8 w (and_left (leb 8 w) (leb w 32767) t) in omega arith) (λ t. omega arith)

pub worst_five : (w h : ℕ) → worst_of w h ≤ length (written w h) + 5 * (w * h)
unfolding worst_of
worst_five w h =
    let rows : h * worst_row w ≤ h * (5 * w) = mul-le-mul_left h (row_five w) in
    let area : h * (5 * w) ≡ 5 * (w * h) = mul_comm h (5 * w) ∙ mul_assoc 5 w h in
    omega (arith, rows, area)

-- ---- A sky of 4,096 by 2,048: its worst length, and how much more that is than `expected_buffer_size` answers

pub dome_worst : worst_of 4096 2048 ≡ 33824837
unfolding worst_of worst_row is_coded written digits digits_by
dome_worst = refl

pub dome_expected : 4096 * 2048 * 4 + 1024 + 269381 ≡ 33824837
dome_expected = refl

-- ---- A frame of 8 by 120 can be a byte longer than `expected_buffer_size` answers

pub small_worst : worst_of 8 120 ≡ 4865
unfolding worst_of worst_row is_coded written digits digits_by
small_worst = refl

pub small_expected : 8 * 120 * 4 + 1024 + 1 ≡ 4865
small_expected = refl
