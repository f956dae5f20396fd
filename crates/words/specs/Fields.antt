-- RULES 3.3 and 3.4: four fields, with white space trimmed at both ends.
use Rattle.std.specs.Prelude.{ℕ, Bool, ◌&&◌, ◌||◌, List, [], ◌∷◌, reverse, eqb, leb}
use Rattle.steps.specs.Loop.{pick}
use Rattle.words.specs.Lines.{line_feed, space, past, between}

-- white space: 9 to 13, and 32
unfoldable pub is_blank : ℕ → Bool
is_blank x = (leb 9 x && leb x 13) || eqb x 32

unfoldable pub trim_start : List ℕ → List ℕ
trim_start [] = []
trim_start (x ∷ xs) = pick (is_blank x) (trim_start xs) (x ∷ xs)

unfoldable pub trim_end : List ℕ → List ℕ
trim_end xs = reverse (trim_start (reverse xs))

-- trimmed at both ends
abbrev pub trim : List ℕ → List ℕ
trim xs = trim_end (trim_start xs)

-- the four fields, and how many bytes were taken up to the end of the last
pub record Fields : Type 0 where
  pub first : List ℕ
  pub second : List ℕ
  pub third : List ℕ
  pub fourth : List ℕ
  pub taken : ℕ

-- up to a space, a space, a space, a line feed; a field may also end with the bytes
unfoldable pub fields_at : List ℕ → ℕ → Fields
fields_at bytes at =
    let a = past space bytes at in
    let b = past space bytes a in
    let c = past space bytes b in
    let d = past line_feed bytes c in
    record {
      first = trim (between bytes at a);
      second = trim (between bytes a b);
      third = trim (between bytes b c);
      fourth = trim (between bytes c d);
      taken = d;
    }
