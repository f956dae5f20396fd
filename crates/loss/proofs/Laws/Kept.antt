-- RULES 8.4 at one pixel: each sample comes back as near as the reading gives it; a black pixel comes back as zeros.
use mathlib.Core.Path.{◌≡◌, sym, ap, ◌∙◌, subst}
use mathlib.Core.Bool.{true, false}
use mathlib.Core.Logic.{⊎_elim}
use Prim.Native.Nat.{ℕ, ◌+◌, ◌-◌, ◌*◌, ◌%◌, ◌^◌, ◌≤◌, ◌<◌}
use native.Mathlib.Nat.{mod-lt, zero-mul, not-suc-le-zero, lt_of_le_of_lt, lt_of_lt_of_le}
use native.Mathlib.Omega.{arith}
use lib.Dec.{T, eqb→eq, lit<, lit≤}
use lib.Pow.{pow_pos, split}
use lib.Ieee.{Float, nan, inf, fin, binary32, up, down, fits, size}
use lib.Ieee.Digits.{Equals, size-lt, size-le, size_reaches}
use Rattle.steps.specs.declared.Reading.{Reading}
use Rattle.steps.specs.declared.Reading.TheVariants.{Crate, Document}
use Rattle.pixel.specs.declared.Pixel.{Pixel}
use Rattle.pixel.specs.declared.Rgbe.{Rgbe}
use Rattle.pixel.specs.Units.{of_units, mag, plain}
use Rattle.pixel.specs.Rgbe.{units_of, pixel_of, peak, dark, byte_of, coded, bytes_of}
use Rattle.loss.specs.Kept.{range_of, InRange, Lies, step, half_step, near_of, Kept, KeptAll, zeros}
use Rattle.pixel.proofs.Laws.Units.{exact_plain, mag_is}
use Rattle.pixel.proofs.Laws.Samples.{shape, own_mag}
use Rattle.loss.proofs.Laws.Scales.{doubled, halves, step_halves, crate_worth, doc_worth}
use Rattle.loss.proofs.Laws.Values.{sample_exact, black_zero}
use Rattle.pixel.proofs.Laws.Digits.{size_gt, size_is, size_low}
use Rattle.pixel.proofs.Laws.Bytes.{r_peak, g_peak, b_peak, coded_bytes, black_bytes, by_step, byte_lt}

-- ---- the whole number of any sample that is finite and not negative is its value
pub plain_exact : (x : Float) → T (fits binary32 x) → T (plain x) → Equals x (mag x) (2 ^ 149)
unfolding mag
plain_exact nan p h = absurd h
plain_exact (inf s) p h = absurd h
plain_exact (fin true m e) p h = ap (λ (z : ℕ). z * up e * 2 ^ 149) (eqb→eq m 0 h) ∙ simp zero-mul
plain_exact (fin false m e) p h = let k = shape false m e p in k.2 ∙ ap (λ (z : ℕ). z * down e) (sym (own_mag m e k))

-- ---- black comes back as zeros, by every reading
pub black_back : (reading : Reading) (p : Pixel) → peak p ≤ dark → pixel_of (units_of reading) (bytes_of p) ≡ zeros
black_back reading p h =
    ap (pixel_of (units_of reading)) (black_bytes p h)
    ∙ (λ i. record { r = of_units (black_zero reading 0 i); g = of_units (black_zero reading 0 i); b = of_units (black_zero reading 0 i) })

-- ---- a sample of b steps and a rest comes back as b steps, or as 2b + 1 half steps

below : (b s r n y : ℕ) → b * s + r ≡ n → r < s → y ≡ b * s → (y ≤ n) × (n < y + s)
below b s r n y parts short is = (omega arith, omega arith)

beside : (b s t r n y : ℕ) → s ≡ 2 * t → b * s + r ≡ n → r < s → y ≡ (2 * b + 1) * t → (y ≤ n + t) × (n ≤ y + t)
beside b s t r n y e parts short is =
    let whole : b * s ≡ 2 * b * t = ap (λ (z : ℕ). b * z) e ∙ doubled b t in
    let odd : y ≡ 2 * b * t + t = is ∙ halves b t in
    (omega arith, omega arith)

-- the digits of the largest at which a reading gives it back
abbrev pub Gives : Reading → ℕ → Type 0
Gives Crate N = (118 ≤ N) × (N ≤ 180)
Gives Document N = Unit {0}

module _ (n N : ℕ) (l : 22 ≤ N) where
  parts : byte_of N n * step N + n % step N ≡ n
  parts = ap (λ (z : ℕ). z * step N + n % step N) (by_step n N (omega arith)) ∙ split n (N - 8)

  short : n % step N < step N
  short = mod-lt n (pow_pos (N - 8))

  near : (reading : Reading) → Gives reading N → near_of reading N n (units_of reading (byte_of N n) (N - 21))
  near Crate g = below (byte_of N n) (step N) (n % step N) n _ parts short (crate_worth (byte_of N n) N g.0 g.1)
  near Document g = beside (byte_of N n) (step N) (half_step N) (n % step N) n _ (step_halves N (omega arith)) parts short (doc_worth (byte_of N n) N l)

kept : (reading : Reading) (x : Float) (N : ℕ) → 22 ≤ N → N ≤ 276 → Gives reading N → mag x < 2 ^ N → Kept (near_of reading N) x (of_units (units_of reading (byte_of N (mag x)) (N - 21)))
kept reading x N l h gives u =
    let n : ℕ = units_of reading (byte_of N (mag x)) (N - 21) in
    let exact = sample_exact reading (byte_of N (mag x)) (N - 21) (byte_lt (mag x) N u) (omega arith) in
    record {
      number = exact_plain (of_units n) n exact;
      value = subst (near_of reading N (mag x)) (sym (mag_is (of_units n) n exact)) (near (mag x) N l reading gives);
    }

-- ---- a pixel whose largest lies from 2^(n-1) to below 2^n has n binary digits

pub lies_size : (p : Pixel) (n : ℕ) → Lies p n → size (peak p) ≡ n
lies_size p n l = size_is (peak p) n l.from l.below

-- and every pixel that is not black has such an n
pub lies_somewhere : (p : Pixel) → 0 < peak p → Lies p (size (peak p))
lies_somewhere p h =
    let some : 0 < size (peak p) = size_gt (peak p) 0 h in
    record { from = size_reaches (peak p) (size (peak p) - 1) (omega arith); below = size-lt (peak p) }

-- a black one has none
black_lies : (p : Pixel) (n : ℕ) → peak p ≡ 0 → Lies p n → ⊥
black_lies p n e l = not-suc-le-zero (lt_of_lt_of_le (pow_pos (n - 1)) (subst (λ (v : ℕ). 2 ^ (n - 1) ≤ v) e l.from))

-- ---- RULES 8.4 at a pixel

-- at the digits at which a reading gives the largest back
pub kept_at_digits : (reading : Reading) (p : Pixel) → dark < peak p → peak p < 2 ^ 276 → (n : ℕ) → Lies p n → Gives reading n → KeptAll (near_of reading n) p (pixel_of (units_of reading) (bytes_of p))
kept_at_digits reading p l h n lies gives =
    let is = lies_size p n lies in
    let low : 22 ≤ n = omega (arith, size_low (peak p) l) in
    let high : n ≤ 276 = omega (arith, size-le (peak p) 276 h) in
    let under : (k : ℕ) → k ≤ peak p → k < 2 ^ n = λ k w. lt_of_le_of_lt w lies.below in
    subst (λ (q : Rgbe). KeptAll (near_of reading n) p (pixel_of (units_of reading) q)) (sym (coded_bytes p l ∙ ap (λ (d : ℕ). coded d p) is))
    (record {
      r = kept reading p.r n low high gives (under _ (r_peak p));
      g = kept reading p.g n low high gives (under _ (g_peak p));
      b = kept reading p.b n low high gives (under _ (b_peak p));
    })

-- where a reading's range lies
record Reaches (reading : Reading) (p : Pixel) (n : ℕ) : Type 0 where
  low : dark < peak p
  high : peak p < 2 ^ 276
  gives : Gives reading n

reaches : (reading : Reading) (p : Pixel) (n : ℕ) → range_of reading (peak p) → Lies p n → Reaches reading p n
reaches Crate p n range lies =
    ⊎_elim (λ e. absurd (black_lies p n e lies))
    (λ h. let is = lies_size p n lies in record {
      low = lt_of_lt_of_le (lit< {m = dark} {n = 2 ^ 117} tt) h.0;
      high = lt_of_lt_of_le h.1 (lit≤ {m = 2 ^ 180} {n = 2 ^ 276} tt);
      gives = (omega (arith, size_gt (peak p) 117 h.0), omega (arith, size-le (peak p) 180 h.1));
    }) range
reaches Document p n range lies =
    ⊎_elim (λ e. absurd (black_lies p n e lies))
    (λ h. record { low = h.0; high = h.1; gives = tt }) range

pub kept_at_a_pixel : (reading : Reading) (p : Pixel) (n : ℕ) → InRange (range_of reading) p → Lies p n → KeptAll (near_of reading n) p (pixel_of (units_of reading) (bytes_of p))
kept_at_a_pixel reading p n range lies =
    let r = reaches reading p n range.largest lies in
    kept_at_digits reading p r.low r.high n lies r.gives
