-- What only the contract of an inner function cites: what a field says as a size.
use Rattle.std.specs.Prelude.{ℕ, List, Option, Some, None}
use Rattle.steps.specs.Loop.{pick}
use Rattle.words.specs.Sizes.{is_size, size_of}

unfoldable pub size_answer : List ℕ → Option ℕ
size_answer field = pick (is_size field) (Some (size_of field)) None
