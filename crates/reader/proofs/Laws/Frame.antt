-- The laws that proofs use of `specs/Frame.antt`, over any rules.
use Prim.{Unit}
use Prim.Native.Nat.{ℕ, ◌+◌, ◌-◌, ◌*◌, ◌^◌, ◌<◌, ◌≤◌}
use mathlib.Core.Bool.{Bool}
use mathlib.Core.List.{List, ◌++◌}
use lib.ListN.{length, take, drop, replicate, length-replicate, length-take}
use Rattle.steps.specs.Place.{spread}
use Rattle.steps.proofs.Laws.Place.{spread_front}
use mathlib.Core.Path.{◌≡◌, refl, sym, ap, subst, ◌∙◌}
use native.Mathlib.Nat.{mul-le-mul, mul-le-mul_left, mul_left_comm}
use native.Mathlib.Omega.{arith}
use borrow.Author.Tests.{lt-ltb, le-ltb, ltb-true, ltb-false}
use lib.Dec.{ltb}
use lib.Ieee.{Float}
use Rattle.steps.specs.Loop.{pick, run, Turn, more, halt}
use Rattle.steps.specs.Answer.{Answer, done, refused}
use Rattle.steps.proofs.Laws.Taken.{never_both}
use Rattle.steps.specs.Answer.{Taken}
use Rattle.std.specs.Prelude.{Ok, Err}
use Rattle.steps.specs.Refusal.{reason_number}
use Rattle.steps.specs.declared.refusal.Reason.{Reason}
use Rattle.steps.proofs.Laws.Loop.{Runs, runs_start, runs_more, runs_halt}
use Rattle.steps.proofs.Laws.Turns.{by_test, Leads, run_keeps, Falls, never_out}
use Rattle.words.specs.declared.axes.Orientation.{Orientation}
use Rattle.places.specs.declared.Layout.{Layout}
use Rattle.places.specs.declared.Line.{Line}
use Rattle.places.specs.Places.{Stored, long_of, count_of, place_of}
use Rattle.places.specs.Inner.{line_at, line_of}
use Rattle.places.proofs.Laws.Places.{either_small, line_place}
use Rattle.places.proofs.Laws.Eight.{rearranged}
use Rattle.rows_read.specs.Row.{RowRule}
use Rattle.reader.specs.Samples.{SampleRule, placed}
use Rattle.reader.specs.Frame.{cleared, stepped, step_of, Rows, rows, Left, after_step, row_turn, no_rows, rows_of}
use Rattle.reader.proofs.Laws.Samples.{placed_same}

-- ---- Places

-- what a layout says is what the header says whose layout it is
pub of_layout : {X : Type 0} (f : Orientation → ℕ → ℕ → X) (o : Orientation) (width height : ℕ) (layout : Layout) (x : X) → layout ≡ record { orientation = o; width = width; height = height }
    → x ≡ f layout.orientation layout.width layout.height → x ≡ f o width height
of_layout f o width height layout x is e = e ∙ ap (λ (l : Layout). f l.orientation l.width l.height) is

-- a stored row's samples lie within those of all rows
pub line_room : (o : Orientation) (width height k m n : ℕ) (line : Line) (count long : ℕ) → line ≡ line_of o width height k → count ≡ count_of o width height → k < count → width ≤ 65535 → height ≤ 65535 → height * (3 * width) ≤ m → n ≡ m → long ≡ long_of o width height
    → (i : ℕ) → i < long → (line_at line i ≤ 4294901760) × (3 * line_at line i + 3 ≤ n)
line_room o width height k m n line count long e ec h wide high room same el i l =
    let within : i < long_of o width height = rw el at l in
    let before_last : k < count_of o width height = rw ec at h in
    let here : line_at line i ≡ place_of o width height k i = ap (λ (x : Line). line_at x i) e ∙ line_place o width height k i within in
    let under : place_of o width height k i < height * width = (rearranged o width height).inside k i before_last within in
    let all : 3 * (height * width) ≤ m = rw mul_left_comm at room in
    (omega (arith, here, under, mul-le-mul high wide), omega (arith, here, under, all))

pub four_fit : (columns : Bool) (width height n : ℕ) → n ≡ pick columns height width → width ≤ 65535 → height ≤ 65535 → 4 * n < 2 ^ 64
four_fit columns width height n e h k = omega (arith, either_small columns n height width e k h)

pub count_most : (columns : Bool) (width height n k : ℕ) → n ≡ pick columns width height → width ≤ 65535 → height ≤ 65535 → k < n → k ≤ 65535
count_most columns width height n k e h l m = omega (arith, m, either_small columns n width height e h l)

-- within the limits nothing wraps
pub area_fits : (width height : ℕ) → width ≤ 65535 → height ≤ 65535 → height * (3 * width) ≤ 65535 * (3 * 65535)
area_fits width height h k = mul-le-mul k (mul-le-mul_left 3 h)

-- the first bytes of the row store set to 0
pub cleared_by : (long : ℕ) (store zeros : List ℕ) → zeros ≡ replicate (length (take (4 * long) store)) 0 → 4 * long ≤ length store → zeros ++ drop (4 * long) store ≡ cleared long store
cleared_by long store zeros e h =
    let all : length (take (4 * long) store) ≡ 4 * long = omega (arith, length-take (4 * long) store) in
    let size : length (replicate {A = ℕ} (4 * long) 0) ≡ 4 * long = length-replicate (4 * long) 0 in
    let front : spread 1 store 0 (replicate (4 * long) 0) ≡ replicate (4 * long) 0 ++ drop (4 * long) store = rw size at (spread_front store (replicate (4 * long) 0) (rw size h)) in
    rw (e, all) (sym front)

-- ---- One step

module _ (row_rule : RowRule) (rule : SampleRule) (long : ℕ) (place : ℕ → ℕ) (bytes : List ℕ) (at : ℕ) (out : List Float) (store : List ℕ)
    (t : Taken) (store' : List ℕ) (e : (t, store') ≡ row_rule bytes at store long) where
  stepped_by : stepped rule long place out t store' ≡ step_of row_rule rule long place bytes at out store
  unfolding step_of
  stepped_by = ap (λ (z : Taken × List ℕ). stepped rule long place out z.0 z.1) e

  pub step_fault : (reason : Reason) → t ≡ Err reason → (Err reason, out, store') ≡ step_of row_rule rule long place bytes at out store
  step_fault reason k = rw k at stepped_by

  pub step_done : (next : ℕ) (out' : List Float) → t ≡ Ok next → out' ≡ placed rule place store' 0 long out → (Ok next, out', store') ≡ step_of row_rule rule long place bytes at out store
  step_done next out' k es = ap (λ (l : List Float). (Ok next, l, store')) es ∙ (rw k at stepped_by)

-- ---- What a step did, from its answer

abbrev Answered : Type 0
Answered = Taken × List Float × List ℕ

abbrev OfRow : Type 0
OfRow = Taken × List ℕ

abbrev row_of : Answered → OfRow
row_of z = (z.0, z.2)

module _ (row_rule : RowRule) (rule : SampleRule) (long : ℕ) (place : ℕ → ℕ) (bytes : List ℕ) (at : ℕ) (out o : List Float) (store s : List ℕ) where
  by_row : (L : Answered → OfRow → Type 0) → ((t : Taken) (s' : List ℕ) → L (stepped rule long place out t s') (t, s'))
      → L (step_of row_rule rule long place bytes at out store) (row_rule bytes at store long)
  unfolding step_of
  by_row L all = all (row_rule bytes at store long).0 (row_rule bytes at store long).1

  -- at fault: its row is, and the output is as it was
  pub faulted : (reason : Reason) → (Err reason, o, s) ≡ step_of row_rule rule long place bytes at out store → ((Err reason, s) ≡ row_rule bytes at store long) × (o ≡ out)
  faulted reason = by_row (λ x y. ◌≡◌ {A = Answered} (Err reason, o, s) x → (◌≡◌ {A = OfRow} (Err reason, s) y) × (o ≡ out)) by_taken
    where
      by_taken : (t : Taken) (s' : List ℕ) → (Err reason, o, s) ≡ stepped rule long place out t s' → (◌≡◌ {A = OfRow} (Err reason, s) (t, s')) × (o ≡ out)
      by_taken (Ok next) s' e = never_both next reason (sym (ap (λ (z : Answered). z.0) e))
      by_taken (Err m) s' e = (ap row_of e, ap (λ (z : Answered). z.1) e)

  -- done: its row is read, and its samples are put
  pub went_on : (next : ℕ) → (Ok next, o, s) ≡ step_of row_rule rule long place bytes at out store → ((Ok next, s) ≡ row_rule bytes at store long) × (o ≡ placed rule place s 0 long out)
  went_on next = by_row (λ x y. ◌≡◌ {A = Answered} (Ok next, o, s) x → (◌≡◌ {A = OfRow} (Ok next, s) y) × (o ≡ placed rule place s 0 long out)) by_taken
    where
      by_taken : (t : Taken) (s' : List ℕ) → (Ok next, o, s) ≡ stepped rule long place out t s' → (◌≡◌ {A = OfRow} (Ok next, s) (t, s')) × (o ≡ placed rule place s 0 long out)
      by_taken (Ok m) s' e = (ap row_of e, ap (λ (z : Answered). z.1) e ∙ ap (λ (l : List ℕ). placed rule place l 0 long out) (sym (ap (λ (z : Answered). z.2) e)))
      by_taken (Err m) s' e = never_both next m (ap (λ (z : Answered). z.0) e)

-- places that agree on the row's pixels give the same step
pub step_same : (row_rule : RowRule) (rule : SampleRule) (long : ℕ) (p q : ℕ → ℕ) (bytes : List ℕ) (at : ℕ) (out : List Float) (store : List ℕ) → ((i : ℕ) → i < long → p i ≡ q i)
    → step_of row_rule rule long p bytes at out store ≡ step_of row_rule rule long q bytes at out store
unfolding step_of
step_same row_rule rule long p q bytes at out store h = by_taken (row_rule bytes at store long).0 (row_rule bytes at store long).1
  where
    by_taken : (t : Taken) (s : List ℕ) → stepped rule long p out t s ≡ stepped rule long q out t s
    by_taken (Ok next) s = ap (λ (l : List Float). (Ok next, l, s)) (placed_same rule p q s 0 long out (λ c l m. h c (omega arith)))
    by_taken (Err reason) s = refl

-- ---- Rows

-- no refusal, or one by a number of which P holds
abbrev By : (ℕ → Type 0) → Answer ℕ → Type 0
By P (done at) = Unit {0}
By P (refused number row) = P number

-- what else could stand for the turns that are used up
abbrev none : Rows → Left
none x = (done x.at, x.out, x.store)

module _ (row_rule : RowRule) (rule : SampleRule) (bytes : List ℕ) (stored : Stored) where
  pub rows_start : (at : ℕ) (out : List Float) (store : List ℕ)
      → Runs (row_turn row_rule rule bytes stored) no_rows (stored.count - 0) (rows at 0 store out) (rows_of row_rule rule bytes stored at out store)
  unfolding rows_of
  rows_start at out store = runs_start _ _ _ _ _ (omega arith)

  module _ (p row : ℕ) (store : List ℕ) (out : List Float) (a : Left)
      (r : Runs (row_turn row_rule rule bytes stored) no_rows (stored.count - row) (rows p row store out) a) where
    pub rows_done : stored.count ≤ row → (done p, out, store) ≡ a
    unfolding row_turn
    rows_done h = runs_halt r (simp (le-ltb row stored.count h))

    module _ (h : row < stored.count) (t : Taken) (out' : List Float) (store' : List ℕ)
        (e : (t, out', store') ≡ step_of row_rule rule stored.long (stored.place row) bytes p out store) where
      read_on : row_turn row_rule rule bytes stored (rows p row store out) ≡ after_step row t out' store'
      unfolding row_turn
      read_on = simp (lt-ltb row stored.count h) (ap (λ (z : Answered). after_step row z.0 z.1 z.2) (sym e))

      pub rows_fault : (reason : Reason) → t ≡ Err reason → (refused (reason_number reason) row, out', store') ≡ a
      rows_fault reason k = runs_halt r (read_on ∙ rw k)

      pub rows_again : (at : ℕ) → t ≡ Ok at → Runs (row_turn row_rule rule bytes stored) no_rows (stored.count - (row + 1)) (rows at (row + 1) store' out') a
      rows_again at k = runs_more r (read_on ∙ rw k) (omega arith)

  -- a turn, case by case
  pub rows_cases : (x : Rows) (L : Turn Rows Left → Type 0)
      → ((at : ℕ) (out : List Float) (store : List ℕ) → x.row < stored.count
      → (Ok at, out, store) ≡ step_of row_rule rule stored.long (stored.place x.row) bytes x.at x.out x.store → L (more (rows at (x.row + 1) store out)))
      → ((reason : Reason) (out : List Float) (store : List ℕ) → x.row < stored.count
      → (Err reason, out, store) ≡ step_of row_rule rule stored.long (stored.place x.row) bytes x.at x.out x.store → L (halt (refused (reason_number reason) x.row, out, store)))
      → (stored.count ≤ x.row → L (halt (done x.at, x.out, x.store))) → L (row_turn row_rule rule bytes stored x)
  unfolding row_turn
  rows_cases x L next faults end =
      let step = step_of row_rule rule stored.long (stored.place x.row) bytes x.at x.out x.store in
      by_test L (ltb x.row stored.count) (λ t. after (ltb-true x.row stored.count t) step.0 step.1 step.2 refl) (λ t. end (ltb-false x.row stored.count t))
    where
      after : x.row < stored.count → (t : Taken) (o : List Float) (s : List ℕ)
          → (t, o, s) ≡ step_of row_rule rule stored.long (stored.place x.row) bytes x.at x.out x.store → L (after_step x.row t o s)
      after h (Ok at) o s e = next at o s h e
      after h (Err reason) o s e = faults reason o s h e

  -- the turns are never used up: each row takes one, and there is one for each and one for the end
  pub rows_never_out : (at : ℕ) (out : List Float) (store : List ℕ) (other : Rows → Left)
      → rows_of row_rule rule bytes stored at out store ≡ run (row_turn row_rule rule bytes stored) other (stored.count + 1) (rows at 0 store out)
  unfolding rows_of
  rows_never_out at out store other =
      let μ : Rows → ℕ = λ x. stored.count - x.row in
      never_out (row_turn row_rule rule bytes stored) no_rows other μ (λ x. rows_cases x (Falls μ x) (λ at o s h e. omega arith) (λ reason o s h e. tt) (λ h. tt)) _ _ (omega arith)

  -- a refusal of the rows is a row's own, with the number that its rule gave
  pub rows_faults : (P : ℕ → Type 0) → ((at : ℕ) (s : List ℕ) (reason : Reason) (s' : List ℕ) → (Err reason, s') ≡ row_rule bytes at s stored.long → P (reason_number reason))
      → (at : ℕ) (out : List Float) (store : List ℕ) (number row : ℕ) → (rows_of row_rule rule bytes stored at out store).0 ≡ refused number row → P number
  rows_faults P given at out store number row e =
      let kept = run_keeps (row_turn row_rule rule bytes stored) none (λ x. Unit {0}) (λ (z : Left). By P z.0)
      (λ x u. rows_cases x (Leads (λ (y : Rows). Unit {0}) (λ (z : Left). By P z.0)) (λ q o s h f. tt)
      (λ n o s h f. given x.at x.store n s (faulted row_rule rule stored.long (stored.place x.row) bytes x.at x.out o x.store s n f).0) (λ h. tt))
      (λ x u. tt) (stored.count + 1) (rows at 0 store out) tt in
      subst (By P) (sym (ap (λ (z : Left). z.0) (rows_never_out at out store none)) ∙ e) kept
