-- What only the contracts of inner functions cite: the scan of a channel, and the part that it finds.
use Rattle.std.specs.Prelude.{ℕ, zero, suc, ◌+◌, ◌-◌, ◌*◌, ◌<◌, ◌≤◌, ◌≡◌, ◌⊎◌, Bool, true, false, ◌&&◌, List, [], ◌∷◌, ◌++◌, length, get_or, take, drop, eqb, leb}
use Rattle.steps.specs.Loop.{pick}
use Rattle.channels_written.specs.Channel.{Run, run, cut, bytes, literals, packet, code}
use Rattle.channels_written.specs.declared.Part.{Part}

-- ---- the search for four equal bytes

-- four bytes of the channel from place at on are v
abbrev pub Four : List ℕ → ℕ → ℕ → Type 0
Four px at v = (get_or px at 0 ≡ v) × (get_or px (at + 4) 0 ≡ v) × (get_or px (at + 8) 0 ≡ v) × (get_or px (at + 12) 0 ≡ v)

-- these four bytes are equal
abbrev pub FourEqual : List ℕ → ℕ → Type 0
FourEqual px at = Four px at (get_or px at 0)

-- of four bytes from place at on, byte r differs from the one before it; or r is 0, and they are equal
pub record Skip (px : List ℕ) (at r : ℕ) : Type 0 where
  pub small : r ≤ 3
  pub equal : r ≡ 0 → FourEqual px at
  pub differ : 0 < r → get_or px (at + 4 * (r - 1)) 0 ≡ get_or px (at + 4 * r) 0 → ⊥

-- runs shorter than 4
abbrev pub Short : List Run → Type 0
Short [] = Unit {0}
Short (run v n ∷ rs) = (n < 4) × Short rs

-- the first h bytes of xs gather: the channel is cut after them, and they into runs shorter than 4
pub record Gathers (xs : List ℕ) (h : ℕ) : Type 0 where
  pub within : h ≤ length xs
  pub border : cut xs ≡ cut (take h xs) ++ cut (drop h xs)
  pub short : Short (cut (take h xs))

-- the search stops at byte r of n: at the end, or before four equal bytes
abbrev pub Stops : List ℕ → ℕ → ℕ → ℕ → Type 0
Stops px at n r = (r ≡ n) ⊎ ((r + 4 ≤ n) × FourEqual px (at + 4 * r))

-- ---- the runs

-- n bytes of the channel from place at on are equal
abbrev pub Equal : List ℕ → ℕ → ℕ → Type 0
Equal px at n = (k : ℕ) → k < n → get_or px (at + 4 * k) 0 ≡ get_or px at 0

-- 2 or 3 bytes that are equal
abbrev pub one_run : List ℕ → Bool
one_run [] = false
one_run (a ∷ []) = false
one_run (a ∷ b ∷ []) = eqb b a
one_run (a ∷ b ∷ c ∷ []) = eqb b a && eqb c b
one_run (a ∷ b ∷ c ∷ d ∷ xs) = false

-- the first run of xs, which has n bytes, is a long one of r
pub record Front (n : ℕ) (xs : List ℕ) (r : ℕ) : Type 0 where
  pub long : 4 ≤ r
  pub small : r ≤ 127
  pub within : r ≤ n
  pub front : cut xs ≡ run (get_or xs 0 0) r ∷ cut (drop r xs)

-- a run of n times v as it is written, which is nothing where n is 0
abbrev pub run_of : ℕ → ℕ → List ℕ
run_of v zero = []
run_of v (suc n) = packet v (suc n)

-- ---- the part

-- the runs before the first of 4 or more
unfoldable pub gathered_of : List Run → List Run
gathered_of [] = []
gathered_of (run v n ∷ rs) = elim (leb 4 n) [ true ↦ [] | false ↦ run v n ∷ gathered_of rs ]

-- how many bytes the first run of 4 or more has; 0 where there is none
unfoldable pub long_of : List Run → ℕ
long_of [] = 0
long_of (run v n ∷ rs) = elim (leb 4 n) [ true ↦ n | false ↦ long_of rs ]

-- the part whose bytes ys gather, as one short run or as literals, and whose long run has so many bytes
abbrev pub part_of : List ℕ → ℕ → Part
part_of ys long = record { literals = pick (one_run ys) 0 (length ys); short = pick (one_run ys) (length ys) 0; long = long }

-- the first part of a channel
unfoldable pub first_part : List ℕ → Part
first_part xs = part_of (bytes (gathered_of (cut xs))) (long_of (cut xs))

-- xs, which has n bytes, starts with l that are literals, s that are a short run and r that are a long one
pub record Parted (n : ℕ) (xs : List ℕ) (l s r : ℕ) : Type 0 where
  pub some : 1 ≤ l + s + r
  pub within : l + s + r ≤ n
  pub short : s ≤ 127
  pub small : r ≤ 127
  pub parted : code xs ≡ literals 0 (take l xs) ++ (run_of (get_or xs l 0) s ++ (run_of (get_or xs (l + s) 0) r ++ code (drop (l + s + r) xs)))
