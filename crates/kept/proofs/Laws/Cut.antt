-- A file that is cut inside what its last count asks for is read to its end: it is not refused, and the pixels whose exponents are missing are black.
use Prim.{Unit}
use Prim.Native.Nat.{ℕ, zero, suc, ◌+◌, ◌-◌, ◌*◌, ◌<◌, ◌≤◌}
use mathlib.Core.List.{List}
use mathlib.Core.Path.{◌≡◌, refl, sym, ap, ◌∙◌, subst}
use native.Mathlib.Omega.{arith}
use lib.Ieee.{Float}
use lib.ListN.{length}
use Rattle.std.specs.Prelude.{Ok}
use Rattle.steps.specs.Answer.{done}
use Rattle.std.specs.Prelude.{Ok}
use Rattle.steps.proofs.Laws.Loop.{Runs, runs_more}
use Rattle.steps.proofs.Laws.Turns.{Leads, Falls}
use Rattle.pixel.specs.declared.Rgbe.{Rgbe}
use Rattle.pixel.specs.Units.{of_units}
use Rattle.steps.specs.declared.Reading.{Reading}
use Rattle.steps.specs.declared.Reading.TheVariants.{Crate}
use Rattle.pixel.specs.Rgbe.{units_of, rgbe_at}
use Rattle.loss.specs.Kept.{zeros}
use Rattle.loss.proofs.Laws.Values.{black_zero}
use Rattle.header.specs.Head.{taking}
use Rattle.rows_read.specs.Row.{crate_row}
use Rattle.rows_read.specs.Cut.{behind}
use Rattle.rows_read.proofs.Laws.Cut.{cut_store, cut_row, cut_exponents}
use Rattle.reader.specs.Samples.{placed}
use Rattle.places.specs.Places.{Stored}
use Rattle.reader.specs.Frame.{stored_of, cleared, step_of, Rows, Left, row_turn, no_rows, rows_of}
use Rattle.reader.specs.Read.{pixel_by, crate_pixel, framed, read_by}
use Rattle.reader.proofs.Laws.Frame.{went_on, rows_start, rows_cases, rows_again, rows_done}
use Rattle.reader.proofs.Laws.Read.{frame_rows, read_frame}
use Rattle.kept.proofs.Laws.Lent.{length_placed, placed_here, stored_apart, stored_inside}
use Rattle.kept.specs.Back.{pixel}
use Rattle.kept.specs.Cut.{AfterRows, CutFile}

-- ---- The rows

module _ (bytes : List ℕ) (stored : Stored) (a : Left) where
  abbrev Going : Rows → Type 0
  Going x = Runs (row_turn crate_row crate_pixel bytes stored) no_rows (stored.count - x.row) x a

  falls : (x : Rows) → Falls (λ (y : Rows). stored.count - y.row) x (row_turn crate_row crate_pixel bytes stored x)
  falls x = rows_cases crate_row crate_pixel bytes stored x (Falls (λ (y : Rows). stored.count - y.row) x) (λ at o s h e. omega arith) (λ reason o s h e. tt) (λ h. tt)

  follow : (n : ℕ) (x y : Rows) → AfterRows bytes stored n x y → Going x → Going y
  follow zero x y e r = subst Going e r
  follow (suc n) x y s r = follow n s.0 y s.2 (runs_more r s.1 (subst (Falls (λ (y : Rows). stored.count - y.row) x) s.1 (falls x)))

module _ (bytes : List ℕ) (widest highest : ℕ) (out : List Float) (store : List ℕ) (c : CutFile bytes widest highest out store) where
  -- the row store and the output after the last row
  abbrev pub last_store : List ℕ
  last_store = cut_store bytes c.last.at c.last.store (stored_of c.head).long c.cut

  abbrev pub last_out : List Float
  last_out = placed crate_pixel ((stored_of c.head).place c.last.row) last_store 0 (stored_of c.head).long c.last.out

  last_step : (Ok (length bytes), last_out, last_store) ≡ step_of crate_row crate_pixel (stored_of c.head).long ((stored_of c.head).place c.last.row) bytes c.last.at c.last.out c.last.store
  unfolding step_of
  last_step = sym (rw (cut_row bytes c.last.at c.last.store (stored_of c.head).long c.cut))

  all_rows : (done (length bytes), last_out, last_store) ≡ rows_of crate_row crate_pixel bytes (stored_of c.head) c.head.taken out (cleared (stored_of c.head).long store)
  all_rows =
      let stored = stored_of c.head in
      let a = rows_of crate_row crate_pixel bytes stored c.head.taken out (cleared (stored_of c.head).long store) in
      let x = c.last in
      let r = follow bytes stored a c.count _ x c.before (rows_start crate_row crate_pixel bytes stored c.head.taken out (cleared (stored_of c.head).long store)) in
      let next = rows_again crate_row crate_pixel bytes stored x.at x.row x.store x.out a r (omega (arith, c.is_last)) (Ok (length bytes)) last_out last_store last_step (length bytes) refl in
      rows_done crate_row crate_pixel bytes stored (length bytes) (x.row + 1) last_store last_out a next (omega (arith, c.is_last))

  -- it is done, and all its bytes are taken
  pub cut_file : read_by Crate crate_row crate_pixel bytes widest highest out store ≡ (done (taking c.head (length bytes)), last_out, last_store)
  cut_file =
      sym (read_frame Crate crate_row crate_pixel bytes widest highest out store (done c.head) (sym c.header) c.head _ refl
      (frame_rows crate_row crate_pixel bytes c.head out store c.room (λ e. omega (arith, c.some)) (stored_of c.head).long refl (cleared (stored_of c.head).long store) _ c.row refl (ap (framed c.head) all_rows)))

-- ---- A pixel whose exponent byte is 0 is black

pub no_exponent : (reading : Reading) (q : Rgbe) → q.e ≡ 0 → pixel_by reading q ≡ zeros
unfolding pixel_by
no_exponent reading q e =
    let zero-at : (m : ℕ) → units_of reading m q.e ≡ 0 = λ m. ap (units_of reading m) e ∙ black_zero reading m in
    λ t. record { r = of_units (zero-at q.r t); g = of_units (zero-at q.g t); b = of_units (zero-at q.b t) }

-- ---- The pixels of the last row in the output

-- the rows before it keep the output's length
module _ (bytes : List ℕ) (stored : Stored) where
  abbrev SameLong : Rows → Rows → Type 0
  SameLong x y = length y.out ≡ length x.out

  turn_long : (x : Rows) → Leads (SameLong x) (λ (z : Left). Unit {0}) (row_turn crate_row crate_pixel bytes stored x)
  turn_long x =
      rows_cases crate_row crate_pixel bytes stored x (Leads (SameLong x) (λ (z : Left). Unit {0}))
      (λ at o s h e. ap length (went_on crate_row crate_pixel stored.long (stored.place x.row) bytes x.at x.out o x.store s at e).1
      ∙ length_placed crate_pixel (stored.place x.row) s 0 stored.long x.out)
      (λ reason o s h e. tt) (λ h. tt)

  rows_long : (n : ℕ) (x y : Rows) → AfterRows bytes stored n x y → SameLong x y
  rows_long zero x y e = ap (λ (z : Rows). length z.out) (sym e)
  rows_long (suc n) x y s = rows_long n s.0 y s.2 ∙ subst (Leads (SameLong x) (λ (z : Left). Unit {0})) s.1 (turn_long x)

module _ (bytes : List ℕ) (widest highest : ℕ) (out : List Float) (store : List ℕ) (c : CutFile bytes widest highest out store) (i : ℕ) (h : i < (stored_of c.head).long) where
  -- each is what its four bytes stand for
  pub cut_pixel : pixel (last_out bytes widest highest out store c) ((stored_of c.head).place c.last.row i) ≡ crate_pixel (rgbe_at (last_store bytes widest highest out store c) (4 * i))
  cut_pixel =
      let stored = stored_of c.head in
      let long = rows_long bytes stored c.count _ c.last c.before in
      let last : c.last.row < stored.count = omega (arith, c.is_last) in
      placed_here crate_pixel (stored.place c.last.row) (last_store bytes widest highest out store c) i 0 stored.long c.last.out
      (λ d l m. rw long (stored_inside c.head (length out) c.room c.last.row d last (omega arith)))
      (λ d e l m l' m' same. (stored_apart c.head c.last.row d c.last.row e last (omega arith) last (omega arith) same).1) (omega arith) (omega arith)

  -- those whose exponents are missing are black
  pub cut_black : c.cut.end.done + behind bytes c.cut.end ≤ i → pixel (last_out bytes widest highest out store c) ((stored_of c.head).place c.last.row i) ≡ zeros
  cut_black l = cut_pixel ∙ no_exponent Crate (rgbe_at (last_store bytes widest highest out store c) (4 * i)) (cut_exponents bytes c.last.at c.last.store (stored_of c.head).long c.cut i l h)
