-- A pixel's answer is a turn of the definition: the laws of a part's loop, by any rule, and what either reading's code does of a pixel.
use Prim.Native.Nat.{ℕ, ◌+◌, ◌-◌, ◌*◌, ◌^◌, min, ◌<◌, ◌≤◌}
use native.Mathlib.Omega.{arith}
use mathlib.Core.List.{List}
use mathlib.Core.Bool.{Bool, true, false}
use mathlib.Core.Path.{◌≡◌, sym, subst, ◌∙◌}
use borrow.Author.Tests.{lt-ltb, le-ltb}
use lib.ListN.{length, get_or}
use Rattle.std.specs.Prelude.{Result, Ok, Err}
use Rattle.steps.specs.Loop.{Turn, more, halt}
use Rattle.steps.specs.Place.{bytes_from, spread}
use Rattle.steps.proofs.Laws.Loop.{Runs, runs_more, runs_halt}
use Rattle.steps.specs.Answer.{Taken}
use Rattle.steps.specs.declared.refusal.Reason.{Reason}
use Rattle.steps.specs.declared.refusal.Reason.TheVariants.{BrokenRow, BytesEnd, OldRun}
use Rattle.flat_read.specs.Flat.{Flat, FlatRule, flat, is_repeat, four_to, copies_to, crate_flat, document_ones, document_flat, flat_turn, flat_out}
use Rattle.flat_read.specs.Inner.{turn_of, Fits, Within}
use Rattle.flat_read.specs.declared.part.Ahead.{Ahead}
use Rattle.flat_read.proofs.Laws.Flat.{four_there, flat_missing}
use Rattle.flat_read.proofs.Laws.Document.{past, exact}

-- ---- The next pixel, and the loop, by any rule

module _ (rule : FlatRule) (src : List ℕ) (p place wanted repeats : ℕ) (store : List ℕ) (w : 0 < wanted) where
  abbrev here : Flat
  here = flat p place wanted repeats store

  module _ (l : p + 4 ≤ length src) (b : Bool) (eb : b ≡ is_repeat src p) where
    pub pixel_ones : (z : Turn Flat (Taken × List ℕ)) → b ≡ true → z ≡ rule.ones src here → z ≡ flat_turn rule src here
    unfolding flat_turn
    pixel_ones z t e = e ∙ simp (lt-ltb 0 wanted w, le-ltb (length src) (p + 4) l, sym eb ∙ t)

    pub pixel_ordinary : (store' : List ℕ) → b ≡ false → store' ≡ spread 1 store place (bytes_from src p 4) → more (flat (p + 4) (place + 4) (wanted - 1) 0 store') ≡ flat_turn rule src here
    unfolding flat_turn
    pixel_ordinary store' t es = rw (es, ← four_there src p store place l) (simp (lt-ltb 0 wanted w, le-ltb (length src) (p + 4) l, sym eb ∙ t))

  module _ (a : Taken × List ℕ) (r : Runs (flat_turn rule src) flat_out (length src - p) here a) where
    pub part_missing : (store' : List ℕ) (n : ℕ) → n ≡ length src - p → n < 4 → ((m k : ℕ) → store' ≡ rule.missing src (flat p place m k store)) → (Err BytesEnd, store') ≡ a
    part_missing store' n en h e = rw (e wanted repeats) (flat_missing rule src p place wanted repeats store a r w (omega arith))

    module _ (s : Result Ahead Reason) (store' : List ℕ) (e : turn_of p s store' ≡ flat_turn rule src here) where
      pub part_err : (reason : Reason) → s ≡ Err reason → (Err reason, store') ≡ a
      part_err reason is = runs_halt r (sym e ∙ rw is)

      pub part_again : (n : ℕ) (x : Ahead) → n ≡ length src - p → 4 ≤ n → s ≡ Ok x → Runs (flat_turn rule src) flat_out (length src - (p + 4)) (flat (p + 4) x.place x.wanted x.repeats store') a
      part_again n x en h is = runs_more r (sym e ∙ rw is) (omega arith)

-- what a pixel that goes on leaves
pub part_fits : (n n' at : ℕ) (s : Result Ahead Reason) (x : Ahead) → Within n at s → s ≡ Ok x → n' ≡ n → Fits n' (at + 4) x
part_fits n n' at s x h is en = rw en (subst (Within n at) is h)

-- ---- The crate reading

pub crate_missing : (src : List ℕ) (p place : ℕ) (store store' : List ℕ) (n wanted repeats : ℕ) → length src - p < 4 → n ≡ length src - p
    → store' ≡ spread 1 store place (bytes_from src p n) → store' ≡ crate_flat.missing src (flat p place wanted repeats store)
unfolding crate_flat four_to
crate_missing src p place store store' n wanted repeats h en es =
    let m : min 4 (length src - p) ≡ n = omega arith in
    rw (es, m)

pub crate_ones : (src : List ℕ) (p place wanted repeats : ℕ) (store store' : List ℕ) → p + 4 ≤ length src → store' ≡ spread 1 store place (bytes_from src p 4)
    → halt (Err OldRun, store') ≡ crate_flat.ones src (flat p place wanted repeats store)
unfolding crate_flat
crate_ones src p place wanted repeats store store' l es = rw (es, four_there src p store place l)

-- ---- The document reading

module _ (src : List ℕ) (p place wanted repeats : ℕ) (store : List ℕ) where
  abbrev this : Flat
  this = flat p place wanted repeats store

  pub ones_first : place < 4 → halt (Err BrokenRow, store) ≡ document_flat.ones src this
  unfolding document_flat document_ones
  ones_first h = simp (lt-ltb place 4 h)

  module _ (h : 4 ≤ place) (v n : ℕ) (ev : v ≡ get_or src (p + 3) 0) (en : n ≡ min (v * 256 ^ repeats) 65536) (w : wanted ≤ 65535) where
    pub ones_past : wanted < n → halt (Err BrokenRow, store) ≡ document_flat.ones src this
    unfolding document_flat document_ones
    ones_past l = rw (← ev) (simp (le-ltb place 4 h, lt-ltb wanted (v * 256 ^ repeats) (past (v * 256 ^ repeats) n wanted en w l)))

    pub ones_copies : (store' : List ℕ) → n ≤ wanted → store' ≡ copies_to store place n → more (flat (p + 4) (place + 4 * n) (wanted - n) (repeats + 1) store') ≡ document_flat.ones src this
    unfolding document_flat document_ones
    ones_copies store' l es =
        let is : n ≡ v * 256 ^ repeats = exact (v * 256 ^ repeats) n wanted en w l in
        let fits : v * 256 ^ repeats ≤ wanted = rw (← is) l in
        rw (← ev, es) (simp (le-ltb place 4 h, le-ltb wanted (v * 256 ^ repeats) fits, is))
