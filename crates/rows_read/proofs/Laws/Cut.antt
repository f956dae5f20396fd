-- A row whose last count asks for more than there is, is done: what is missing is read as 0, and the place after it is the end of the bytes.
use Prim.Native.Nat.{ℕ, zero, suc, ◌+◌, ◌-◌, ◌*◌, min, ◌<◌, ◌≤◌}
use native.Mathlib.Nat.{not-suc-le-zero}
use native.Mathlib.Numerals.{add-one}
use native.Mathlib.Omega.{arith}
use mathlib.Core.Bool.{true, false}
use mathlib.Core.List.{List, [], ◌∷◌, ◌++◌}
use mathlib.Core.Path.{◌≡◌, refl, sym, ap, ◌∙◌, subst}
use borrow.Author.Tests.{lt-ltb, le-ltb}
use lib.ListN.{length, get_or, set, drop, replicate, length-drop, drop_of_length-le, get_or-eq_default}
use lib.Seq.{drop-cons, get_or-set_same, get_or-set_other, set_out}
use Rattle.steps.proofs.Laws.Order.{by_order}
use Rattle.steps.specs.Place.{bytes_from, spread}
use Rattle.steps.specs.Answer.{Taken}
use Rattle.std.specs.Prelude.{Ok}
use Rattle.steps.proofs.Laws.Loop.{Runs, runs_more, runs_halt}
use Rattle.steps.proofs.Laws.Place.{spread_append}
use Rattle.steps.proofs.Laws.Turns.{Falls}
use Rattle.channels_read.specs.Channel.{Chan, chan, crate_count, is_run, span_length, span_bytes, span_taken, span_of, channel_turn, channel_out, channel_of}
use Rattle.channels_read.specs.Channels.{channels_of}
use Rattle.channels_read.proofs.Laws.Channel.{length_run, length_literals, crate_count_lem, taken_run, taken_literals, turn_span, turn_done, span_onward, channel_starts, channel_falls}
use Rattle.channels_read.proofs.Laws.Channels.{together}
use Rattle.steps.specs.declared.Reading.TheVariants.{Crate}
use Rattle.rows_read.specs.Row.{crate_start, crate_row}
use Rattle.rows_read.specs.Cut.{After, CutAt, behind, filled, CutRow}
use Rattle.rows_read.proofs.Laws.Row.{marked_right, row_marked}

-- ---- Bytes of which some are missing

-- behind the end there is nothing
past_end : (src : List ℕ) (p n m : ℕ) → length src ≤ p → n ≡ m → replicate n 0 ≡ drop p src ++ replicate m 0
past_end src p n m h e = ap (λ (k : ℕ). replicate k 0) e ∙ ap (λ (r : List ℕ). r ++ replicate m 0) (sym (drop_of_length-le src h))

zeros_past : (src : List ℕ) (p n : ℕ) → length src ≤ p → bytes_from src p n ≡ replicate n 0
unfolding bytes_from
zeros_past src p zero h = refl
zeros_past src p (suc n) h = rw (get_or-eq_default src 0 h, zeros_past src (p + 1) n (omega arith))

-- n bytes from p on, where the input ends before more than n: those that are there, and 0 for the others
bytes_short : (src : List ℕ) (p n : ℕ) → length src ≤ p + n → bytes_from src p n ≡ drop p src ++ replicate (n - (length src - p)) 0
unfolding bytes_from
bytes_short src p zero h = past_end src p 0 (0 - (length src - p)) (omega arith) (omega arith)
bytes_short src p (suc n) h =
    by_order p (length src)
    (λ l. let left : n - (length src - (p + 1)) ≡ suc n - (length src - p) = omega arith in
    ap (λ (r : List ℕ). get_or src p 0 ∷ r) (bytes_short src (p + 1) n (omega arith) ∙ ap (λ (k : ℕ). drop (p + 1) src ++ replicate k 0) left ∙ ap (λ (k : ℕ). drop k src ++ replicate (suc n - (length src - p)) 0) (add-one p))
    ∙ ap (λ (r : List ℕ). r ++ replicate (suc n - (length src - p)) 0) (sym (drop-cons src p 0 l)))
    (λ l. zeros_past src p (suc n) l ∙ past_end src p (suc n) (suc n - (length src - p)) l (omega arith))

-- ---- The channel

module _ (src : List ℕ) (width : ℕ) (x : Chan) (cut : CutAt src width x) where
  -- the count at the cut, and how many bytes it puts
  abbrev count : ℕ
  count = get_or src x.at 0

  abbrev left : ℕ
  left = width - x.done

  cut_bytes : span_bytes src (x.at + 1) count left ≡ filled src width x
  unfolding span_bytes is_run
  cut_bytes =
      by_order 128 count
      (λ l. let none = cut.run l in
      let first : get_or src (x.at + 1) 0 ≡ 0 = get_or-eq_default src 0 (omega arith) in
      simp (lt-ltb 128 count l) (ap (replicate left) first ∙ past_end src (x.at + 1) left (left - behind src x) (omega arith) (omega arith)))
      (λ l. simp (le-ltb 128 count l) (bytes_short src (x.at + 1) left (cut.literals l)))

  cut_end : min (x.at + 1 + span_taken count left) (length src) ≡ length src
  cut_end =
      by_order 128 count
      (λ l. omega (arith, taken_run count left l, cut.run l))
      (λ l. omega (arith, taken_literals count left l, cut.literals l))

  cut_span : (channel : ℕ) → span_of src channel count left x ≡ chan (length src) (x.done + left) (spread 4 x.store (channel + 4 * x.done) (filled src width x))
  unfolding span_of
  cut_span channel = rw (cut_end, cut_bytes)

module _ (src : List ℕ) (channel width : ℕ) (a : Taken × List ℕ) where
  abbrev Going : Chan → Type 0
  Going x = Runs (channel_turn crate_count src channel width) channel_out (length src - x.at) x a

  follow : (n : ℕ) (x y : Chan) → After src channel width n x y → Going x → Going y
  follow zero x y e r = subst Going e r
  follow (suc n) x y s r =
      follow n s.0 y s.2 (runs_more r s.1 (subst (Falls (λ (z : Chan). length src - z.at) x) s.1 (channel_falls crate_count src channel width x)))

  ends : (x : Chan) → CutAt src width x → Going x → a ≡ (Ok (length src), spread 4 x.store (channel + 4 * x.done) (filled src width x))
  ends x cut r =
      let c : ℕ = get_or src x.at 0 in
      let left : ℕ = width - x.done in
      let takes = crate_count_lem src x.at x.done width c (span_length c) left refl refl (omega (arith, cut.last)) in
      let onward : length src - (span_of src channel c left x).at < length src - x.at = omega (arith, span_onward src channel c left x cut.there, cut.there) in
      let next = runs_more r (turn_span crate_count src channel width x left cut.wants cut.there takes) onward in
      let done = chan (length src) (x.done + left) (spread 4 x.store (channel + 4 * x.done) (filled src width x)) in
      sym (runs_halt (subst Going (cut_span src width x cut channel) next) (turn_done crate_count src channel width done (omega (arith, cut.wants))))

-- "the bytes that it still asks for are read as 0, the channel is done, and the place after it is the end of the bytes"
pub cut_channel : (src : List ℕ) (at : ℕ) (store : List ℕ) (channel width n : ℕ) (x : Chan) → After src channel width n (chan at 0 store) x → CutAt src width x
    → channel_of crate_count src at store channel width ≡ (Ok (length src), spread 4 x.store (channel + 4 * x.done) (filled src width x))
cut_channel src at store channel width n x after cut =
    let a = channel_of crate_count src at store channel width in
    ends src channel width a x cut (follow src channel width a n (chan at 0 store) x after (channel_starts crate_count src at store channel width))

-- ---- The row

module _ (src : List ℕ) (at : ℕ) (store : List ℕ) (width : ℕ) (c : CutRow src at store width) where
  -- the row store afterwards
  abbrev pub cut_store : List ℕ
  cut_store = spread 4 c.end.store (3 + 4 * c.end.done) (filled src width c.end)

  channels_cut : (Ok (length src), cut_store) ≡ channels_of crate_count src (at + 4) (crate_start src at store) width
  channels_cut =
      sym (together crate_count src (at + 4) (crate_start src at store) width (length src) cut_store (record {
        green = c.green;
        blue = c.blue;
        exponent = c.exponent;
        reds = c.reds;
        greens = c.greens;
        blues = c.blues;
        first = c.first;
        second = c.second;
        third = c.third;
        fourth = cut_channel src c.exponent c.blues 3 width c.counts c.end c.after c.cut;
      }))

  -- the row is done, and the place after it is the end of the bytes
  pub cut_row : crate_row src at store width ≡ (Ok (length src), cut_store)
  cut_row =
      sym (row_marked Crate src at store width false (sym c.coded) refl _ (crate_start src at store) (sym c.mark) refl (Ok (length src), cut_store) (at + 4) refl
      (marked_right Crate src at (at + 4) (crate_start src at store) width true refl (Ok (length src), cut_store) refl channels_cut))

-- at most 128 bytes are missing, since a count is a byte
pub cut_most : (src : List ℕ) (width : ℕ) (x : Chan) → CutAt src width x → get_or src x.at 0 < 256 → width - x.done - behind src x ≤ 128
cut_most src width x cut byte =
    let c : ℕ = get_or src x.at 0 in
    by_order 128 c
    (λ l. omega (arith, length_run c l, cut.last))
    (λ l. omega (arith, length_literals c l, cut.last))

-- ---- The pixels whose exponents are missing have the exponent 0

spread_before : (s : List ℕ) (i k : ℕ) (vs : List ℕ) → k < i → get_or (spread 4 s i vs) k 0 ≡ get_or s k 0
unfolding spread
spread_before s i k [] h = refl
spread_before s i k (v ∷ vs) h = spread_before (set s i v) (i + 4) k vs (omega arith) ∙ get_or-set_other s i k v 0 (λ e. omega arith)

set_zero : (s : List ℕ) (i : ℕ) → get_or (set s i 0) i 0 ≡ 0
set_zero s i = by_order i (length s) (λ l. get_or-set_same s i 0 0 l) (λ l. ap (λ (r : List ℕ). get_or r i 0) (set_out s i 0 l) ∙ get_or-eq_default s 0 l)

spread_zeros : (s : List ℕ) (i n j : ℕ) → j < n → get_or (spread 4 s i (replicate n 0)) (i + 4 * j) 0 ≡ 0
unfolding spread
spread_zeros s i zero j h = absurd (not-suc-le-zero h)
spread_zeros s i (suc n) zero h =
    let here : i + 4 * 0 ≡ i = omega arith in
    rw here (spread_before (set s i 0) (i + 4) i (replicate n 0) (omega arith) ∙ set_zero s i)
spread_zeros s i (suc n) (suc j) h =
    let next : i + 4 * suc j ≡ i + 4 + 4 * j = omega arith in
    rw next (spread_zeros (set s i 0) (i + 4) n j (omega arith))

pub cut_exponents : (src : List ℕ) (at : ℕ) (store : List ℕ) (width : ℕ) (c : CutRow src at store width) (i : ℕ) → c.end.done + behind src c.end ≤ i → i < width
    → get_or (cut_store src at store width c) (4 * i + 3) 0 ≡ 0
cut_exponents src at store width c i l h =
    let x : Chan = c.end in
    let front = drop (x.at + 1) src in
    let size = length-drop (x.at + 1) src in
    let zeros : ℕ = width - x.done - behind src x in
    let start : ℕ = 3 + 4 * x.done + 4 * length front in
    let place : 4 * i + 3 ≡ start + 4 * (i - (x.done + behind src x)) = omega arith in
    ap (λ (s : List ℕ). get_or s (4 * i + 3) 0) (spread_append 4 x.store (3 + 4 * x.done) front (replicate zeros 0))
    ∙ ap (λ (k : ℕ). get_or (spread 4 (spread 4 x.store (3 + 4 * x.done) front) start (replicate zeros 0)) k 0) place
    ∙ spread_zeros _ start zeros (i - (x.done + behind src x)) (omega arith)
