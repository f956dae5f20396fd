-- A flat part of a row (RULES 4.9 to 4.12), over a rule for what a pixel 1,1,1,n does.
use Rattle.std.specs.Prelude.{ℕ, zero, suc, ◌+◌, ◌-◌, ◌*◌, ◌^◌, min, List, [], ◌++◌, Bool, ◌&&◌, length, get_or, ltb, eqb}
use Rattle.steps.specs.Loop.{pick, Turn, more, halt, run}
use Rattle.steps.specs.Place.{bytes_from, spread}
use Rattle.steps.specs.Answer.{Taken}
use Rattle.std.specs.Prelude.{Ok, Err}
use Rattle.steps.specs.declared.refusal.Reason.TheVariants.{BrokenRow, BytesEnd, OldRun}
use Rattle.steps.specs.declared.Reading.{Reading}
use Rattle.steps.specs.declared.Reading.TheVariants.{Crate, Document}

-- how far a flat part is: the next place in the input, the current place in the store, how many pixels are wanted, how many repeats 1,1,1,n
-- stand directly ahead, and the store
pub record Flat : Type 0 where
  pub at : ℕ
  pub place : ℕ
  pub wanted : ℕ
  pub repeats : ℕ
  pub store : List ℕ

-- that record, from its five fields
abbrev pub flat : ℕ → ℕ → ℕ → ℕ → List ℕ → Flat
flat at place wanted repeats store = record { at = at; place = place; wanted = wanted; repeats = repeats; store = store }

-- "four bytes .. go one by one as read to the current place": of the four, those that are there
unfoldable pub four_to : List ℕ → ℕ → List ℕ → ℕ → List ℕ
four_to src at store place = spread 1 store place (bytes_from src at (min 4 (length src - at)))

-- a pixel 1,1,1,n: "the first three are 1"
unfoldable pub is_repeat : List ℕ → ℕ → Bool
is_repeat src at = eqb (get_or src at 0) 1 && (eqb (get_or src (at + 1) 0) 1 && eqb (get_or src (at + 2) 0) 1)

-- a pixel, stored
abbrev pub stored : List ℕ → Flat → Flat
stored src x = flat x.at x.place x.wanted x.repeats (four_to src x.at x.store x.place)

-- ---- What a reading does in a flat part

pub record FlatRule : Type 0 where
  -- with a pixel of which bytes are missing: the store afterwards
  pub missing : List ℕ → Flat → List ℕ
  -- with a pixel 1,1,1,n of which none is missing
  pub ones : List ℕ → Flat → Turn Flat (Taken × List ℕ)

-- The crate reading: "four bytes, each missing one refused, go one by one as read to the current place"; those of 1,1,1,n too, which is
-- refused by "25 .. when the fourth byte of such a pixel has been read".
unfoldable pub crate_flat : FlatRule
crate_flat = record { missing = λ src x. (stored src x).store; ones = λ src x. halt (Err OldRun, (stored src x).store) }

-- n times the bytes q
abbrev pub copies : ℕ → List ℕ → List ℕ
copies zero q = []
copies (suc n) q = q ++ copies n q

-- the store with n copies, from a place on, of the pixel before it
unfoldable pub copies_to : List ℕ → ℕ → ℕ → List ℕ
copies_to store place n = spread 1 store place (copies n (bytes_from store (place - 4) 4))

-- "A pixel 1,1,1,n repeats the pixel before it n·256^k times, k being the repeats directly ahead of it"
abbrev pub times_of : List ℕ → Flat → ℕ
times_of src x = get_or src (x.at + 3) 0 * 256 ^ x.repeats

-- n copies more
abbrev pub repeated : Flat → ℕ → Flat
repeated x n = flat (x.at + 4) (x.place + 4 * n) (x.wanted - n) (x.repeats + 1) (copies_to x.store x.place n)

-- The document reading: "Only whole flat pixels" and "the copies a repeat makes" enter the store; 14 for "a repeat with no pixel before it in its
-- row", and for one "that passes the row's end". A row's pixels stand in the store from place 0 on, so that none ends before place 4.
unfoldable pub document_ones : List ℕ → Flat → Turn Flat (Taken × List ℕ)
document_ones src x =
    pick (ltb x.place 4) (halt (Err BrokenRow, x.store))
    (pick (ltb x.wanted (times_of src x)) (halt (Err BrokenRow, x.store)) (more (repeated x (times_of src x))))

unfoldable pub document_flat : FlatRule
document_flat = record { missing = λ src x. x.store; ones = document_ones }

-- by either reading
abbrev pub flat_rule : Reading → FlatRule
flat_rule Crate = crate_flat
flat_rule Document = document_flat

-- ---- The flat part, by any such rule

-- "An ordinary pixel moves the place four on, wants one fewer", and no repeat stands directly ahead of what follows it
abbrev pub ordinary : Flat → Flat
ordinary x = flat (x.at + 4) (x.place + 4) (x.wanted - 1) 0 x.store

-- one more pixel, while pixels are wanted: "four bytes, each missing one refused"; 1,1,1,n, or an ordinary one
unfoldable pub flat_turn : FlatRule → List ℕ → Flat → Turn Flat (Taken × List ℕ)
flat_turn rule src x =
    pick (ltb 0 x.wanted)
    (pick (ltb (length src) (x.at + 4))
    (halt (Err BytesEnd, rule.missing src x))
    (pick (is_repeat src x.at) (rule.ones src x) (more (ordinary (stored src x)))))
    (halt (Ok x.at, x.store))

-- where the turns are used up, which never happens
abbrev pub flat_out : Flat → Taken × List ℕ
flat_out x = (Err BytesEnd, x.store)

-- the part that starts at byte `start` of the store. Each turn but the last takes four bytes, so the turns never run out
unfoldable pub flat_of : FlatRule → List ℕ → ℕ → List ℕ → ℕ → ℕ → Taken × List ℕ
flat_of rule src at store start wanted = run (flat_turn rule src) flat_out (length src + 1) (flat at start wanted 0 store)
