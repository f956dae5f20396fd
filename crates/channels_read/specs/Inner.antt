-- What only the contract of an inner function cites.
use Rattle.std.specs.Prelude.{ℕ, List, Result, Ok, Err}
use Rattle.steps.specs.Loop.{Turn, more, halt}
use Rattle.steps.specs.Answer.{Taken}
use Rattle.steps.specs.declared.refusal.Reason.{Reason}
use Rattle.channels_read.specs.Channel.{Chan, chan}
use Rattle.channels_read.specs.declared.span.Span.{Span}

-- the turn of the definition that a count's answer is, with the store that it left
abbrev pub turn_of : Result Span Reason → List ℕ → Turn Chan (Taken × List ℕ)
turn_of (Ok span) store = more (chan span.next span.done store)
turn_of (Err reason) store = halt (Err reason, store)
