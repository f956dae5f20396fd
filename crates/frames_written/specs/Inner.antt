-- What only the contracts of inner functions cite: samples that may be too bright, and the pixels of a frame.
use Rattle.std.specs.Prelude.{ℕ, zero, suc, ◌+◌, ◌<◌, Bool, false, ◌||◌, List, ◌≡◌, get_or, Float}
use Rattle.std.specs.Float.{nan}
use Rattle.pixel.specs.Inner.{near}

-- one of n samples from sample i on is above 2^126
unfoldable pub any_near : List Float → ℕ → ℕ → Bool
any_near samples i zero = false
any_near samples i (suc n) = near (get_or samples i nan) || any_near samples (i + 1) n

-- row k is one of some rows that can be written
abbrev pub RowOf : (ℕ → Type 0) → ℕ → Type 0
RowOf CanWrite k = (h : ℕ) × (k < h) × CanWrite h

-- the same pixels as they were lent, with another line to work in: what could be written still can, and is the same
pub record Kept {A B : Type 0} (CanWrite : A → ℕ → ℕ → Type 0) (line : A → ℕ → ℕ → List ℕ) (lent : A → B) (old new : A) : Type 0 where
  pub can : (w h : ℕ) → CanWrite old w h → CanWrite new w h
  pub same : (w k : ℕ) → line new w k ≡ line old w k
  pub as_lent : lent new ≡ lent old
