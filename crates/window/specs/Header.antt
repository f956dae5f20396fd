-- The header of a file of which a part is at hand.
use Prim.{Unit}
use Rattle.std.specs.Prelude.{ℕ, ◌≤◌, Bool, not, ◌&&◌, List, [], ◌∷◌, ◌++◌, ◌≡◌, length, leb, eqb, Option, Some, None, option_map, Result, Ok, Err}
use Rattle.steps.specs.Loop.{pick}
use Rattle.steps.specs.Answer.{Answer, done, refused, paper_of}
use Rattle.steps.specs.declared.Reading.{Reading}
use Rattle.steps.specs.declared.refusal.Refusal.{Refusal}
use Rattle.header.specs.declared.Head.{Head}
use Rattle.header.specs.Head.{fields_of, header_of}

-- A header ends inside the part where a byte behind the part is not taken: its lines and its four fields have then found their ends.
unfoldable pub ends_inside : List ℕ → Bool
ends_inside part = leb (fields_of (part ++ 0 ∷ [])).taken (length part)

-- A refusal of the part is one of the file where it is that of the first line and the part has the 11 bytes of the longest right one, where the
-- file ends with the part, or where the header ends inside it.
unfoldable pub refused_part : Bool → List ℕ → ℕ → ℕ → Option (Answer Head)
refused_part more part number place =
    pick (eqb number 1 && leb 11 (length part)) (Some (refused number place))
    (pick (more && not (ends_inside part)) None (Some (refused number place)))

-- What a part says of the header, of which it answers so: where the file goes on, a header that is read ends before the part does.
unfoldable pub head_part : Bool → List ℕ → Answer Head → Option (Answer Head)
head_part more part (done head) = pick (more && leb (length part) head.taken) None (Some (done head))
head_part more part (refused number place) = refused_part more part number place

-- `window::read_header`
abbrev pub HeadPromise : Reading → List ℕ → Bool → Option (Result Head Refusal) → Type 0
HeadPromise reading part more answer = option_map paper_of answer ≡ head_part more part (header_of reading part 65535 65535)

-- a header that is read lies in a part of n bytes, and its sizes are within the format's limits
abbrev pub HeadWithin : ℕ → Option (Result Head Refusal) → Type 0
HeadWithin n (Some (Ok head)) = (head.taken ≤ n) × (head.width ≤ 65535) × (head.height ≤ 65535)
HeadWithin n (Some (Err refusal)) = Unit {0}
HeadWithin n None = Unit {0}
