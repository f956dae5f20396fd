-- One channel as it is written: RULES 5.3 and 5.4. A pixel is four bytes of px.
use Rattle.std.specs.Prelude.{ℕ, zero, suc, ◌+◌, min, true, false, ◌&&◌, List, [], ◌∷◌, ◌++◌, length, get_or, replicate, eqb, ltb, leb}

-- a channel of w pixels: one byte in four, the first at place at
abbrev pub channel : List ℕ → ℕ → ℕ → List ℕ
channel px at zero = []
channel px at (suc w) = get_or px at 0 ∷ channel px (at + 4) w

-- a run: a byte, and how often it stands there
pub data Run : Type 0 where
  run : ℕ → ℕ → Run

-- a run of n times v is in hand, and the bytes xs follow
unfoldable pub grow : ℕ → ℕ → List ℕ → List Run
grow v n [] = run v n ∷ []
grow v n (x ∷ xs) = elim (eqb x v && ltb n 127) [ true ↦ grow v (suc n) xs | false ↦ run v n ∷ grow x 1 xs ]

-- a channel is cut from its start on into runs of equal bytes, each as long as it can be but at most 127
unfoldable pub cut : List ℕ → List Run
cut [] = []
cut (x ∷ xs) = grow x 1 xs

-- the bytes that runs stand for
abbrev pub bytes : List Run → List ℕ
bytes [] = []
bytes (run v n ∷ rs) = replicate n v ++ bytes rs

-- a run as it is written: the count, which is over 128, and the byte
abbrev pub packet : ℕ → ℕ → List ℕ
packet v n = (128 + n) ∷ v ∷ []

-- literals, at most 128 to a count, which stands in front of them; k bytes more belong to the count in hand
abbrev pub literals : ℕ → List ℕ → List ℕ
literals k [] = []
literals zero (x ∷ xs) = min 128 (suc (length xs)) ∷ x ∷ literals 127 xs
literals (suc k) (x ∷ xs) = x ∷ literals k xs

-- a gathered stretch that is a single run of 2 or 3 is written as a run, any other as literals
unfoldable pub stretch : List Run → List ℕ
stretch [] = []
stretch (run v n ∷ []) = elim (leb 2 n) [ true ↦ packet v n | false ↦ literals 0 (bytes (run v n ∷ [])) ]
stretch (r ∷ s ∷ g) = literals 0 (bytes (r ∷ s ∷ g))

-- runs shorter than 4 are gathered, up to a run of 4 or more or to the end: the runs g are gathered, and the runs rs follow
unfoldable pub gather : List Run → List Run → List ℕ
gather g [] = stretch g
gather g (run v n ∷ rs) =
    elim (leb 4 n) [ true ↦ stretch g ++ (packet v n ++ gather [] rs) | false ↦ gather (g ++ run v n ∷ []) rs ]

-- a channel as it is written
unfoldable pub code : List ℕ → List ℕ
code xs = gather [] (cut xs)
