-- What only the contracts of inner functions cite.
use Prim.{Unit}
use Rattle.std.specs.Prelude.{ℕ, ◌+◌, ◌*◌, ◌≤◌, List, Result, Ok, Err}
use Rattle.steps.specs.Loop.{Turn, more, halt}
use Rattle.steps.specs.Answer.{Taken}
use Rattle.steps.specs.declared.refusal.Reason.{Reason}
use Rattle.flat_read.specs.Flat.{Flat, flat}
use Rattle.flat_read.specs.declared.part.Ahead.{Ahead}

-- the turn of the definition that a pixel's answer is, from a place of the input on and with the store that it left
abbrev pub turn_of : ℕ → Result Ahead Reason → List ℕ → Turn Flat (Taken × List ℕ)
turn_of at (Ok a) store = more (flat (at + 4) a.place a.wanted a.repeats store)
turn_of at (Err reason) store = halt (Err reason, store)

-- there is room for what is wanted in a store of n bytes, and no more repeats are counted than bytes were taken
abbrev pub Fits : ℕ → ℕ → Ahead → Type 0
Fits n at a = (a.place + 4 * a.wanted ≤ n) × (a.wanted ≤ 65535) × (a.repeats ≤ at)

-- so it is after a pixel that goes on
abbrev pub Within : ℕ → ℕ → Result Ahead Reason → Type 0
Within n at (Ok a) = Fits n (at + 4) a
Within n at (Err reason) = Unit {0}
