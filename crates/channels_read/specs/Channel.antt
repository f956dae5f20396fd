-- One channel of one row (RULES 4.6 to 4.8), over a rule for its counts.
use Rattle.std.specs.Prelude.{ℕ, ◌+◌, ◌-◌, ◌*◌, min, List, Bool, length, get_or, replicate, ltb}
use Rattle.steps.specs.Loop.{pick, Turn, more, halt, run}
use Rattle.steps.specs.Place.{bytes_from, spread}
use Rattle.steps.specs.Answer.{Taken}
use Rattle.std.specs.Prelude.{Ok, Err}
use Rattle.steps.specs.declared.refusal.Reason.{Reason}
use Rattle.steps.specs.declared.refusal.Reason.TheVariants.{BrokenRow, BytesEnd}
use Rattle.steps.specs.declared.Reading.{Reading}
use Rattle.steps.specs.declared.Reading.TheVariants.{Crate, Document}

-- how far a channel is: the next place in the input, how many of its bytes are done, and the row store
pub record Chan : Type 0 where
  pub at : ℕ
  pub done : ℕ
  pub store : List ℕ

-- that record, from its three fields
abbrev pub chan : ℕ → ℕ → List ℕ → Chan
chan at done store = record { at = at; done = done; store = store }

-- ---- What a count asks for

-- "count c over 128 repeats the next byte"
unfoldable pub is_run : ℕ → Bool
is_run c = ltb 128 c

-- "c - 128 times; 1 to 128 takes that many literal bytes; 0 does nothing": how many bytes of the channel a count asks for
unfoldable pub span_length : ℕ → ℕ
span_length c = pick (is_run c) (c - 128) c

-- ---- What a span of n bytes does, in any reading

-- the n bytes that a count c puts into the channel, where p is the place after the count; "a missing literal or run byte is read as 0"
unfoldable pub span_bytes : List ℕ → ℕ → ℕ → ℕ → List ℕ
span_bytes src p c n = pick (is_run c) (replicate n (get_or src p 0)) (bytes_from src p n)

-- how many bytes after the count they take: the run byte, or n literal bytes
unfoldable pub span_taken : ℕ → ℕ → ℕ
span_taken c n = pick (is_run c) 1 n

-- a count c with n bytes: every fourth place of the store from the channel's own; a missing byte is "not counted as taken"
unfoldable pub span_of : List ℕ → ℕ → ℕ → ℕ → Chan → Chan
span_of src channel c n x = record {
  at = min (x.at + 1 + span_taken c n) (length src);
  done = x.done + n;
  store = spread 4 x.store (channel + 4 * x.done) (span_bytes src (x.at + 1) c n);
}

-- ---- What a reading does with a count

-- so many of the bytes that it asks for are put into the channel; or the row is at fault, by the reason of its refusal; or so many literal
-- bytes are put, and then the row is at fault by 9, since the next is missing
pub data Count : Type 0 where
  span : ℕ → Count
  fault : Reason → Count
  short : ℕ → Count

-- of the input, the count's place, how many bytes of the channel are done, and the width
abbrev pub CountRule : Type 0
CountRule = List ℕ → ℕ → ℕ → ℕ → Count

-- the crate reading: "A run or literal stops at the row's end, and unread literal bytes stay in the input."
unfoldable pub crate_count : CountRule
crate_count src at done width = span (min (span_length (get_or src at 0)) (width - done))

-- how many bytes stand behind a count
abbrev pub behind : List ℕ → ℕ → ℕ
behind src at = length src - (at + 1)

-- "missing bytes are 9 always": of a run nothing is put, and of literals those that are there
abbrev pub lacking : List ℕ → ℕ → ℕ → Count
lacking src at c = pick (is_run c) (fault BytesEnd) (short (behind src at))

-- the document reading: 14 for "a count .. that passes the row's end", before its bytes are looked at; "a count .. at fault writes nothing"
unfoldable pub document_count : CountRule
document_count src at done width =
    let c = get_or src at 0 in
    let n = span_length c in
    pick (ltb (width - done) n) (fault BrokenRow)
    (pick (ltb (behind src at) (span_taken c n)) (lacking src at c) (span n))

-- by either reading
abbrev pub count_rule : Reading → CountRule
count_rule Crate = crate_count
count_rule Document = document_count

-- ---- The channel, by any such rule

-- what a count does: its bytes are put, or the row is at fault
abbrev pub counted : List ℕ → ℕ → Chan → Count → Turn Chan (Taken × List ℕ)
counted src channel x (span n) = more (span_of src channel (get_or src x.at 0) n x)
counted src channel x (fault reason) = halt (Err reason, x.store)
counted src channel x (short n) = halt (Err BytesEnd, (span_of src channel (get_or src x.at 0) n x).store)

-- one more count, until the row's end; "A missing count is refusal 9"
unfoldable pub channel_turn : CountRule → List ℕ → ℕ → ℕ → Chan → Turn Chan (Taken × List ℕ)
channel_turn rule src channel width x =
    pick (ltb x.done width)
    (pick (ltb x.at (length src)) (counted src channel x (rule src x.at x.done width)) (halt (Err BytesEnd, x.store)))
    (halt (Ok x.at, x.store))

-- where the turns are used up, which never happens
abbrev pub channel_out : Chan → Taken × List ℕ
channel_out x = (Err BytesEnd, x.store)

-- the channel, from a place of the input on. Each turn but the last takes a byte, so the turns never run out
unfoldable pub channel_of : CountRule → List ℕ → ℕ → List ℕ → ℕ → ℕ → Taken × List ℕ
channel_of rule src at store channel width = run (channel_turn rule src channel width) channel_out (length src + 1) (chan at 0 store)
