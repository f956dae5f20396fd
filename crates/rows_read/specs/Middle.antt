-- A row in the middle of bytes: what stands before it and behind it changes nothing but places.
use Rattle.std.specs.Prelude.{ℕ, ◌+◌, ◌<◌, ◌≤◌, List, ◌++◌, ◌≡◌, length, take}
use Rattle.steps.specs.declared.refusal.Reason.TheVariants.{BytesEnd}
use Rattle.steps.specs.Answer.{Taken}
use Rattle.std.specs.Prelude.{Ok, Err}
use Rattle.steps.specs.declared.Reading.{Reading}
use Rattle.steps.specs.declared.Reading.TheVariants.{Crate, Document}
use Rattle.rows_read.specs.Row.{RowRule}

-- An answer in which no missing byte has a part, of n bytes: the next place lies before their end, or the fault is not that bytes are missing.
abbrev pub Settled : ℕ → Taken → Type 0
Settled n (Ok next) = next < n
Settled n (Err reason) = reason ≡ BytesEnd → ⊥

-- an answer where n bytes more stand before
abbrev pub later : ℕ → Taken → Taken
later n (Ok next) = Ok (n + next)
later n (Err reason) = Err reason

-- bytes before a row: it is the same, so many places later
abbrev pub Before : RowRule → Type 0
Before rule =
    (pre src : List ℕ) (at : ℕ) (store : List ℕ) (width : ℕ)
    → rule (pre ++ src) (length pre + at) store width ≡ (later (length pre) (rule src at store width).0, (rule src at store width).1)

-- bytes behind it: an answer that is settled is the same
abbrev pub Behind : RowRule → Type 0
Behind rule =
    (src rest : List ℕ) (at : ℕ) (store : List ℕ) (width : ℕ) → Settled (length src) (rule src at store width).0 → rule (src ++ rest) at store width ≡ rule src at store width

-- the first n bytes are there in both, and the same
abbrev pub Alike : ℕ → List ℕ → List ℕ → Type 0
Alike n src other = (n ≤ length src) × (n ≤ length other) × (take n other ≡ take n src)

-- An answer that rests on the first n bytes of `long`: none behind them was taken, or the fault is not that bytes are missing and those are all.
-- Where a reading takes a row whose last bytes are missing, `gap` bytes behind those taken show that none was.
abbrev pub Rests : ℕ → ℕ → ℕ → Taken → Type 0
Rests gap long n (Ok next) = (next ≤ n) × (next + gap ≤ long)
Rests gap long n (Err reason) = (reason ≡ BytesEnd → ⊥) × (long ≤ n)

-- one in the crate reading (RULES 4.8); the document reading refuses every missing byte
abbrev pub gap_of : Reading → ℕ
gap_of Crate = 1
gap_of Document = 0

-- other bytes behind those that an answer rests on, more of them or fewer: it is the same
abbrev pub Alone : ℕ → RowRule → Type 0
Alone gap rule =
    (src other : List ℕ) (n at : ℕ) (store : List ℕ) (width : ℕ) → Alike n src other → Rests gap (length src) n (rule src at store width).0 → rule other at store width ≡ rule src at store width

-- bytes before it and behind it
abbrev pub Anywhere : RowRule → Type 0
Anywhere rule =
    (pre src rest : List ℕ) (at : ℕ) (store : List ℕ) (width : ℕ) → Settled (length src) (rule src at store width).0
    → rule (pre ++ (src ++ rest)) (length pre + at) store width ≡ (later (length pre) (rule src at store width).0, (rule src at store width).1)
