-- What follows from RULES 5.1 for the four bytes of a written pixel.
use Rattle.std.specs.Prelude.{◌≡◌, ◌⊎◌, ◌≤◌}
use Rattle.pixel.specs.declared.Rgbe.{Rgbe}
use Rattle.pixel.specs.Rgbe.{black}

-- none is over 255
pub record Fits (q : Rgbe) : Type 0 where
  pub r : q.r ≤ 255
  pub g : q.g ≤ 255
  pub b : q.b ≤ 255
  pub e : q.e ≤ 255

-- black, or one of the three is at least 128 and the last at least 22
abbrev pub Written : Rgbe → Type 0
Written q = (q ≡ black) ⊎ (((128 ≤ q.r) ⊎ ((128 ≤ q.g) ⊎ (128 ≤ q.b))) × (22 ≤ q.e))

-- what starts an old run: the first three are 1,1,1
pub record Ones (q : Rgbe) : Type 0 where
  pub r : q.r ≡ 1
  pub g : q.g ≡ 1
  pub b : q.b ≡ 1
