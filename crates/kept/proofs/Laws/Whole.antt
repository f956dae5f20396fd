-- A file that is read has all its bytes, and more behind them change nothing; or it is cut inside what its last count asks for.
use Prim.Native.Nat.{ℕ, zero, suc, ◌+◌, ◌*◌, ◌<◌, ◌≤◌}
use mathlib.Core.List.{List, ◌++◌}
use mathlib.Core.Logic.{◌⊎◌, inl, inr, ⊎_elim}
use mathlib.Core.Path.{◌≡◌, refl, sym, ap, ◌∙◌}
use native.Mathlib.Omega.{arith}
use borrow.Author.Tests.{le-ltb, ltb-false, eqb-false}
use lib.Ieee.{Float}
use lib.ListN.{length}
use Rattle.steps.specs.Refusal.{reason_number}
use Rattle.steps.proofs.Laws.Order.{by_order}
use Rattle.steps.specs.Loop.{Turn, more, halt, run, lead}
use Rattle.steps.specs.Answer.{done}
use Rattle.steps.specs.Answer.{Taken}
use Rattle.std.specs.Prelude.{Ok, Err}
use Rattle.header.specs.declared.Head.{Head}
use Rattle.header.proofs.Laws.Head.{header_upright, header_within}
use Rattle.steps.specs.declared.Reading.TheVariants.{Crate}
use Rattle.rows_read.specs.Row.{crate_row}
use Rattle.rows_read.specs.Middle.{Alike}
use Rattle.rows_read.specs.Cut.{Short, CutRow}
use Rattle.rows_read.proofs.Laws.Alike.{front_alike}
use Rattle.rows_read.proofs.Laws.Bounds.{reading_sound}
use Rattle.rows_read.proofs.Laws.Cut.{cut_row}
use Rattle.rows_read.proofs.Laws.Whole.{row_or_cut}
use Rattle.words.specs.Axes.{upright}
use Rattle.words.specs.declared.axes.Orientation.{Orientation}
use Rattle.places.specs.Places.{Stored, long_of, count_of}
use Rattle.reader.specs.Frame.{stored_of, cleared, step_of, Rows, rows, Left, row_turn, no_rows, rows_of}
use Rattle.reader.specs.Read.{crate_pixel}
use Rattle.reader.proofs.Laws.Frame.{went_on, rows_cases}
use Rattle.kept.specs.Cut.{AfterRows, WholeOrCut}
use Rattle.kept.proofs.Laws.Done.{refused_done, file_read, read_file}
use Rattle.kept.proofs.Laws.Least.{row_some}
use Rattle.kept.proofs.Laws.Alone.{header_alone}

abbrev next_of : Taken → ℕ
next_of (Ok next) = next
next_of (Err reason) = 0

-- ---- The rows

module _ (bytes : List ℕ) (stored : Stored) (some : 0 < stored.long) where
  abbrev T : List ℕ → Rows → Turn Rows Left
  T b = row_turn crate_row crate_pixel b stored

  -- at the end of the bytes all rows are done already
  at_end : (k : ℕ) (x : Rows) (p : ℕ) (o : List Float) (s : List ℕ) → x.at ≤ length bytes → run (T bytes) no_rows k x ≡ (done p, o, s) → length bytes ≤ x.at → stored.count ≤ x.row
  unfolding run
  at_end zero x p o s in_b e h = refused_done 9 _ p _ o _ s e
  at_end (suc k) x p o s in_b e h =
      rows_cases crate_row crate_pixel bytes stored x (λ (z : Turn Rows Left). lead (run (T bytes) no_rows k) z ≡ (done p, o, s) → stored.count ≤ x.row)
      (λ next o' s' l f r.
      let read = ap (λ (z : Taken × List ℕ). z.0) (sym (went_on crate_row crate_pixel stored.long (stored.place x.row) bytes x.at x.out o' x.store s' next f).0) in
      absurd (omega (arith, row_some bytes x.at x.store stored.long next some in_b read)))
      (λ reason o' s' l f r. refused_done (reason_number reason) _ p _ o _ s r)
      (λ l r. l)
      e

  -- after some rows from x on stands the last, and is cut
  abbrev Cut : Rows → Type 0
  Cut x = (n : ℕ) × (y : Rows) × AfterRows bytes stored n x y × (y.row + 1 ≡ stored.count) × (c : CutRow bytes y.at y.store stored.long) × Short bytes stored.long c.end

  -- a row of which no byte is missing
  turn_same : (other : List ℕ) (x : Rows) → crate_row other x.at x.store stored.long ≡ crate_row bytes x.at x.store stored.long → T other x ≡ T bytes x
  unfolding row_turn step_of
  turn_same other x e = rw e

  turn_over : (other : List ℕ) (x : Rows) → stored.count ≤ x.row → T other x ≡ halt (done x.at, x.out, x.store)
  unfolding row_turn
  turn_over other x h = simp (le-ltb x.row stored.count h)

  rows_or : (k : ℕ) (x : Rows) (p : ℕ) (o : List Float) (s : List ℕ) → x.at ≤ length bytes → run (T bytes) no_rows k x ≡ (done p, o, s)
      → Cut x ⊎ ((rest : List ℕ) → run (T (bytes ++ rest)) no_rows k x ≡ (done p, o, s))
  unfolding run
  rows_or zero x p o s in_b e = refused_done 9 _ p _ o _ s e
  rows_or (suc k) x p o s in_b e =
      rows_cases crate_row crate_pixel bytes stored x (λ (z : Turn Rows Left). T bytes x ≡ z → lead (run (T bytes) no_rows k) z ≡ (done p, o, s) → Or)
      (λ next o' s' l f et r.
      let row = sym (went_on crate_row crate_pixel stored.long (stored.place x.row) bytes x.at x.out o' x.store s' next f).0 in
      let inside = ((reading_sound Crate bytes x.at x.store stored.long).onward next (ap (λ (z : Taken × List ℕ). z.0) row) in_b).1 in
      more_rows next o' s' l et r row inside (row_or_cut bytes x.at x.store stored.long next s' in_b row) (rows_or k (rows next (x.row + 1) s' o') p o s inside r))
      (λ reason o' s' l f et r. refused_done (reason_number reason) _ p _ o _ s r)
      (λ l et r. inr (λ rest. ap (lead (run (T (bytes ++ rest)) no_rows k)) (turn_over (bytes ++ rest) x l) ∙ r))
      refl e
    where
      Or : Type 0
      Or = Cut x ⊎ ((rest : List ℕ) → lead (run (T (bytes ++ rest)) no_rows k) (T (bytes ++ rest) x) ≡ (done p, o, s))

      more_rows : (next : ℕ) (o' : List Float) (s' : List ℕ) → x.row < stored.count → T bytes x ≡ more (rows next (x.row + 1) s' o')
          → run (T bytes) no_rows k (rows next (x.row + 1) s' o') ≡ (done p, o, s) → crate_row bytes x.at x.store stored.long ≡ (Ok next, s') → next ≤ length bytes
          → ((c : CutRow bytes x.at x.store stored.long) × Short bytes stored.long c.end) ⊎ ((other : List ℕ) → Alike (length bytes) bytes other → crate_row other x.at x.store stored.long ≡ (Ok next, s'))
          → Cut (rows next (x.row + 1) s' o') ⊎ ((rest : List ℕ) → run (T (bytes ++ rest)) no_rows k (rows next (x.row + 1) s' o') ≡ (done p, o, s))
          → Or
      more_rows next o' s' l et r row inside (inl (c, short)) after =
          let end : next ≡ length bytes = ap (λ (z : Taken × List ℕ). next_of z.0) (sym row ∙ cut_row bytes x.at x.store stored.long c) in
          let last = at_end k (rows next (x.row + 1) s' o') p o s inside r (omega arith) in
          inl (0, x, refl, omega arith, c, short)
      more_rows next o' s' l et r row inside (inr full) (inl (n, y, after, last, c, short)) = inl (suc n, y, (_, et, after), last, c, short)
      more_rows next o' s' l et r row inside (inr full) (inr same) =
          inr (λ rest. ap (lead (run (T (bytes ++ rest)) no_rows k)) (turn_same (bytes ++ rest) x (full (bytes ++ rest) (front_alike bytes rest) ∙ sym row) ∙ et) ∙ same rest)

-- ---- The whole file

pub whole_or_cut : WholeOrCut
unfolding rows_of
whole_or_cut bytes widest highest out out' store store' head e high =
    let f = file_read Crate crate_row crate_pixel bytes widest highest out store head out' store' e in
    let h = f.own in
    let stored = stored_of h in
    let lies : h.orientation ≡ upright = header_upright Crate bytes widest highest h f.header refl in
    let count : stored.count ≡ head.height = ap (λ (o : Orientation). count_of o h.width h.height) lies ∙ ap (λ (x : Head). x.height) f.said in
    let some : 0 < h.width = omega (arith, eqb-false h.width 0 f.checks.1.0) in
    let long : stored.long ≡ h.width = ap (λ (o : Orientation). long_of o h.width h.height) lies in
    let wide : 0 < stored.long = omega (arith, long, some) in
    let inside = header_within Crate bytes widest highest h f.header in
    let x = rows h.taken 0 (cleared stored.long store) out in
    let begun : h.taken < length bytes = by_order h.taken (length bytes) (λ l. l) (λ l. absurd (omega (arith, at_end bytes stored wide (stored.count + 1) x head.taken out' store' inside f.rows l))) in
    ⊎_elim
    (λ (n, y, after, last, c, short). inl (
      record {
        head = h;
        header = f.header;
        room = ltb-false (length out) (h.height * (3 * h.width)) f.checks.0;
        some = some;
        row = ltb-false (length store) (4 * stored.long) f.checks.1.1.0;
        count = n;
        last = y;
        before = after;
        is_last = last;
        cut = c;
      },
      short,
    ))
    (λ same. inr (λ rest.
    read_file Crate crate_row crate_pixel (bytes ++ rest) widest highest out store head out' store' (record {
      own = h;
      header = header_alone Crate bytes (bytes ++ rest) (length bytes) widest highest h (front_alike bytes rest) f.header (omega arith, omega arith);
      checks = f.checks;
      rows = same rest;
      said = f.said;
    })))
    (rows_or bytes stored wide (stored.count + 1) x head.taken out' store' inside f.rows)
