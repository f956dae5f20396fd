-- What only the contracts of inner functions cite: an answer that names no place, both sizes alone, and all four fields.
use Rattle.std.specs.Prelude.{ℕ, List, Result, Ok, Err}
use Rattle.steps.specs.declared.Reading.{Reading}
use Rattle.steps.specs.declared.refusal.Reason.{Reason}
use Rattle.steps.specs.Answer.{Answer, done, refuse, checked}
use Rattle.steps.specs.Refusal.{reason_number}
use Rattle.words.specs.Axes.{axes_of}
use Rattle.words.specs.Fields.{Fields}
use Rattle.words.specs.Sizes.{size_of}
use Rattle.stated.specs.declared.Said.{Said}
use Rattle.header.specs.declared.Head.{Head}
use Rattle.header.specs.Head.{size_checks, field_checks, head_of}

-- the paper's answer, for each case of an answer that names no place
abbrev pub answer_of : {A : Type 0} → Result A Reason → Answer A
answer_of (Ok a) = done a
answer_of (Err reason) = refuse (reason_number reason)

-- the width and the height
unfoldable pub sizes_answer : List ℕ → List ℕ → ℕ → ℕ → Answer (ℕ × ℕ)
sizes_answer height width widest highest = checked refuse (size_checks height width widest highest) (done (size_of width, size_of height))

unfoldable pub fields_answer : Reading → Said → Fields → ℕ → ℕ → Answer Head
fields_answer reading said f widest highest =
    checked refuse (field_checks reading (axes_of f.first f.third) f widest highest) (done (head_of reading said f))
