-- The laws that the writing loops ask: what is left to store, stored, gives what was to be stored.
use mathlib.Core.Path.{◌≡◌, refl, sym, ap, ◌∙◌}
use mathlib.Core.Logic.{⊎_elim}
use mathlib.Core.List.{List, [], ◌∷◌, ◌++◌}
use Prim.Native.Nat.{ℕ, zero, suc, ◌+◌, ◌-◌, ◌*◌, ◌/◌, ◌%◌, ◌≤◌, ◌<◌, min}
use native.Mathlib.Numerals.{add-one}
use native.Mathlib.Omega.{arith}
use lib.ListN.{length, get_or, take, drop, set, length-append, drop_of_length-le}
use lib.Seq.{take_all}
use Rattle.steps.proofs.Laws.Order.{lt_or_ge}
use Rattle.steps.specs.Place.{spread, bytes_from}
use Rattle.channels_written.specs.Channel.{literals, code, gather, stretch, cut, channel}
use Rattle.rows_written.specs.Row.{mark, coded_row, worst_channel}
use Rattle.rows_written.specs.Inner.{Stored}
use Rattle.channels_written.specs.Inner.{run_of, Parted}
use Rattle.channels_written.proofs.Laws.Channel.{literals_packet, length_literals}
use Rattle.steps.proofs.Laws.Place.{spread_append, spread_snoc}
use Rattle.channels_written.proofs.Laws.Places.{length_channel, drop_channel, take_channel, get_or_channel}
use Rattle.channels_written.proofs.Laws.Part.{run_some}

-- once p has been stored, what is left to store
stored_then : (out d : List ℕ) (o e : ℕ) (p q : List ℕ) → Stored out o p e d → spread 1 out o (p ++ q) ≡ spread 1 d e q
stored_then out d o e p q w =
    let next : o + 1 * length p ≡ e = omega arith in
    spread_append 1 out o p q ∙ rw (w.1, next)

-- ---- nothing is left

pub none_left : (f : List ℕ → List ℕ) (px : List ℕ) (a left : ℕ) → f [] ≡ [] → left ≤ 0 → f (channel px a left) ≡ []
none_left f px a zero z h = z
none_left f px a (suc n) z h = absurd (omega arith)

pub code_nil : code [] ≡ []
unfolding code gather cut stretch
code_nil = refl

pub stored_end : (f : List ℕ → List ℕ) (px : List ℕ) (a left : ℕ) (out w : List ℕ) (o : ℕ) → f [] ≡ [] → left ≤ 0 → spread 1 out o (f (channel px a left)) ≡ w → out ≡ w
unfolding spread
stored_end f px a left out w o z h e = sym (ap (spread 1 out o) (none_left f px a left z h)) ∙ e

-- ---- a loop that stores a channel's bytes from the front: what is stored is the first k of them

pub copy_start : (s : List ℕ) (i : ℕ) → s ≡ spread 1 s i []
unfolding spread
copy_start s i = refl

channel_snoc : (px : List ℕ) (at k : ℕ) → channel px at k ++ get_or px (at + 4 * k) 0 ∷ [] ≡ channel px at (suc k)
channel_snoc px at zero = ap (λ (a : ℕ). get_or px a 0 ∷ []) (omega arith)
channel_snoc px at (suc k) =
    let next : at + 4 * suc k ≡ at + 4 + 4 * k = omega arith in
    rw next (ap (λ (l : List ℕ). get_or px at 0 ∷ l) (channel_snoc px (at + 4) k))

pub copy_next : (s s' : List ℕ) (i k : ℕ) (px : List ℕ) (at j b : ℕ) → s' ≡ spread 1 s i (channel px at k) → j ≡ i + k → b ≡ get_or px (at + 4 * k) 0
    → set s' j b ≡ spread 1 s i (channel px at (k + 1))
copy_next s s' i k px at j b e ej eb =
    let place : j ≡ i + 1 * length (channel px at k) = omega (arith, length_channel px at k) in
    rw (e, place, eb, add-one k) (spread_snoc 1 s i (channel px at k) (get_or px (at + 4 * k) 0) ∙ ap (spread 1 s i) (channel_snoc px at k))

-- ---- literals

take_min : (n : ℕ) (xs : List ℕ) → take n xs ≡ take (min n (length xs)) xs
take_min n xs =
    ⊎_elim
    (λ h. let e : n ≡ min n (length xs) = omega arith in ap (λ (k : ℕ). take k xs) e)
    (λ h. take_all n xs h ∙ sym (take_all (min n (length xs)) xs (omega arith)))
    (lt_or_ge n (length xs))

drop_min : (n : ℕ) (xs : List ℕ) → drop n xs ≡ drop (min n (length xs)) xs
drop_min n xs =
    ⊎_elim
    (λ h. let e : n ≡ min n (length xs) = omega arith in ap (λ (k : ℕ). drop k xs) e)
    (λ h. drop_of_length-le xs h ∙ sym (drop_of_length-le xs {i = min n (length xs)} (omega arith)))
    (lt_or_ge n (length xs))

-- the first packet of literals
literals_first : (xs : List ℕ) (c : ℕ) → 0 < length xs → c ≡ min 128 (length xs) → literals 0 xs ≡ c ∷ (take c xs ++ literals 0 (drop c xs))
literals_first [] c h e = absurd (omega arith)
literals_first (x ∷ xs) c h e =
    ap (λ (k : ℕ). k ∷ x ∷ literals 127 xs) (sym e)
    ∙ ap (λ (l : List ℕ). c ∷ x ∷ l) (literals_packet 127 xs)
    ∙ ap (λ (l : List ℕ). c ∷ (l ++ literals 0 (drop 127 xs))) (take_min 128 (x ∷ xs) ∙ ap (λ (k : ℕ). take k (x ∷ xs)) (sym e))
    ∙ ap (λ (l : List ℕ). c ∷ (take c (x ∷ xs) ++ literals 0 l)) (drop_min 128 (x ∷ xs) ∙ ap (λ (k : ℕ). drop k (x ∷ xs)) (sym e))

literals_turn : (px : List ℕ) (a left c : ℕ) → 0 < left → c ≡ min 128 left → literals 0 (channel px a left) ≡ c ∷ (channel px a c ++ literals 0 (channel px (a + 4 * c) (left - c)))
literals_turn px a left c h e =
    let n = length_channel px a left in
    literals_first (channel px a left) c (omega arith) (omega arith)
    ∙ ap (λ (l : List ℕ). c ∷ (l ++ literals 0 (drop c (channel px a left)))) (take_channel px a c left (omega arith))
    ∙ ap (λ (l : List ℕ). c ∷ (channel px a c ++ literals 0 l)) (drop_channel px a c left)

pub literals_size : (px : List ℕ) (at n : ℕ) → length (literals 0 (channel px at n)) ≡ worst_channel n
literals_size px at n = omega (arith, length_literals 0 (channel px at n) (omega arith), length_channel px at n)

-- a packet of literals is stored
pub literals_store : (px out d : List ℕ) (a left c o : ℕ) → 0 < left → c ≡ min 128 left → d ≡ spread 1 (set out o c) (o + 1) (channel px a c)
    → spread 1 out o (literals 0 (channel px a left)) ≡ spread 1 d (o + (1 + c)) (literals 0 (channel px (a + 4 * c) (left - c)))
unfolding spread
literals_store px out d a left c o h e w =
    ap (spread 1 out o) (literals_turn px a left c h e)
    ∙ stored_then (set out o c) d (o + 1) (o + (1 + c)) (channel px a c) (literals 0 (channel px (a + 4 * c) (left - c))) (omega (arith, length_channel px a c), w)

-- ---- a run

pub run_store : (out : List ℕ) (to v n : ℕ) → 0 < n → set (set out to (128 + n)) (to + 1) v ≡ spread 1 out to (run_of v n)
unfolding spread
run_store out to v n h = sym (ap (spread 1 out to) (run_some v n h))

-- ---- a part

run_channel : (px : List ℕ) (at left i n : ℕ) → i + n ≤ left → run_of (get_or (channel px at left) i 0) n ≡ run_of (get_or px (at + 4 * i) 0) n
run_channel px at left i zero h = refl
run_channel px at left i (suc n) h = ap (λ (v : ℕ). run_of v (suc n)) (get_or_channel px at i left (omega arith))

module _ (px : List ℕ) (at left l s r : ℕ) where
  abbrev pub lits : List ℕ
  lits = literals 0 (channel px at l)

  abbrev pub short : List ℕ
  short = run_of (get_or px (at + 4 * l) 0) s

  abbrev pub long : List ℕ
  long = run_of (get_or px (at + 4 * (l + s)) 0) r

  abbrev pub rest : List ℕ
  rest = code (channel px (at + 4 * (l + s + r)) (left - (l + s + r)))

  module _ (P : Parted left (channel px at left) l s r) where
    -- what a part of a channel is coded as, and what is left of the channel
    part_code : code (channel px at left) ≡ lits ++ (short ++ (long ++ rest))
    part_code =
        let w = P.within in
        rw (take_channel px at l left (omega arith), run_channel px at left l s (omega arith), run_channel px at left (l + s) r (omega arith), drop_channel px at (l + s + r) left) at P.parted

    pub part_size : length (code (channel px at left)) ≡ length lits + (length short + (length long + length rest))
    part_size = ap length part_code ∙ simp length-append

    -- a part is stored
    pub part_store : (d₀ d₁ d₂ d₃ : List ℕ) (o₀ o₁ o₂ o₃ : ℕ) → Stored d₀ o₀ lits o₁ d₁ → Stored d₁ o₁ short o₂ d₂ → Stored d₂ o₂ long o₃ d₃
        → spread 1 d₀ o₀ (code (channel px at left)) ≡ spread 1 d₃ o₃ rest
    part_store d₀ d₁ d₂ d₃ o₀ o₁ o₂ o₃ a b c =
        ap (spread 1 d₀ o₀) part_code ∙ stored_then d₀ d₁ o₀ o₁ lits _ a ∙ stored_then d₁ d₂ o₁ o₂ short _ b ∙ stored_then d₂ d₃ o₂ o₃ long rest c

-- ---- a row

pub mark_store : (out bs : List ℕ) (to w : ℕ) → w < 65536 → bs ≡ (w / 256 % 256) ∷ (w % 256) ∷ []
    → spread 1 out to (bytes_from (2 ∷ 2 ∷ get_or bs 0 0 ∷ get_or bs 1 0 ∷ []) 0 4) ≡ spread 1 out to (mark w)
unfolding bytes_from
mark_store out bs to w h e =
    let high : w / 256 % 256 ≡ w / 256 = omega arith in
    rw (e, high)

pub row_store : (px d₀ d₁ d₂ d₃ d₄ d₅ : List ℕ) (at w o₀ o₂ o₃ o₄ : ℕ) → d₁ ≡ spread 1 d₀ o₀ (mark w)
    → Stored d₁ (o₀ + 4) (code (channel px at w)) o₂ d₂
    → Stored d₂ o₂ (code (channel px (at + 1) w)) o₃ d₃
    → Stored d₃ o₃ (code (channel px (at + 2) w)) o₄ d₄
    → d₅ ≡ spread 1 d₄ o₄ (code (channel px (at + 3) w))
    → d₅ ≡ spread 1 d₀ o₀ (coded_row px at w)
unfolding coded_row
row_store px d₀ d₁ d₂ d₃ d₄ d₅ at w o₀ o₂ o₃ o₄ m a b c e =
    let p : List ℕ = code (channel px at w) in
    let q : List ℕ = code (channel px (at + 1) w) in
    let r : List ℕ = code (channel px (at + 2) w) in
    let s : List ℕ = code (channel px (at + 3) w) in
    e
    ∙ sym
    (stored_then d₀ d₁ o₀ (o₀ + 4) (mark w) (p ++ (q ++ (r ++ s))) (refl, m)
    ∙ stored_then d₁ d₂ (o₀ + 4) o₂ p (q ++ (r ++ s)) a
    ∙ stored_then d₂ d₃ o₂ o₃ q (r ++ s) b
    ∙ stored_then d₃ d₄ o₃ o₄ r s c)
