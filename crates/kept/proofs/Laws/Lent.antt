-- What lent memory holds after a read, on any bytes: rows 0 to k-1 and the rest as lent; the row store beyond a row's bytes.
use Prim.Native.Nat.{ℕ, zero, suc, ◌+◌, ◌-◌, ◌*◌, ◌/◌, ◌%◌, ◌<◌, ◌≤◌}
use mathlib.Core.Bool.{true, false}
use mathlib.Core.List.{List, [], ◌∷◌, ◌++◌}
use mathlib.Core.Logic.{◌⊎◌, inl, inr, ⊎_elim}
use mathlib.Core.Path.{◌≡◌, refl, sym, ap, subst, ◌∙◌}
use native.Mathlib.Nat.{mul_comm, mul_left_comm}
use native.Mathlib.Numerals.{add-one}
use native.Mathlib.Omega.{arith}
use borrow.Author.Tests.{ltb-false}
use lib.Ieee.{Float, nan}
use lib.ListN.{length, get_or, drop, set, replicate, length-set, length-drop, length-replicate}
use lib.Seq.{get_or-set_same, get_or-set_other, get_or-drop, ext_get_or}
use Rattle.steps.proofs.Laws.Order.{lt_or_ge}
use Rattle.steps.specs.Place.{spread}
use Rattle.steps.specs.Answer.{Answer, done, refused, refuse, Check, check, checked}
use Rattle.steps.specs.Numbered.{FirstFails}
use Rattle.steps.specs.Answer.{Taken}
use Rattle.std.specs.Prelude.{Ok, Err}
use Rattle.steps.proofs.Laws.Answer.{Passed, pass, differ}
use Rattle.steps.proofs.Laws.Loop.{Runs}
use Rattle.steps.proofs.Laws.Place.{length_spread}
use Rattle.pixel.specs.declared.Pixel.{Pixel}
use Rattle.header.specs.declared.Head.{Head}
use Rattle.header.specs.Head.{head_checks, head_in, taking}
use Rattle.steps.specs.declared.Reading.{Reading}
use Rattle.rows_read.specs.Row.{RowRule, row_of}
use Rattle.rows_read.proofs.Laws.Kept.{Kept, kept_same, kept_then, kept_spread}
use Rattle.rows_read.proofs.Laws.Bounds.{SoundRow, reading_sound}
use Rattle.pixel.specs.Rgbe.{rgbe_at}
use Rattle.reader.specs.Samples.{SampleRule, three, placed}
use Rattle.places.specs.Places.{Stored}
use Rattle.places.proofs.Laws.Eight.{rearranged}
use Rattle.reader.specs.Frame.{stored_of, cleared, step_of, Left, rows, row_turn, no_rows, rows_of}
use Rattle.reader.specs.Read.{frame_checks, answer_of, framed, pixel_by, read_by, read_of}
use Rattle.reader.proofs.Laws.Frame.{faulted, went_on, rows_start, rows_done, rows_fault, rows_again}
use Rattle.kept.specs.Back.{pixel, Beyond}
use Rattle.kept.specs.Lent.{onward, before, row_at, Stand, RowsRead, RowsLeft, FrameLeft, early_checks, ReadLeft}

-- ---- One pixel that is put into the output

module _ (out : List Float) (p : ℕ) (q : Pixel) where
  -- it is there
  put_same : 3 * p + 3 ≤ length out → pixel (spread 1 out (3 * p) (three q [])) p ≡ q
  unfolding spread
  put_same h =
      let o : ℕ = 3 * p in
      let one : List Float = set out o q.r in
      let two : List Float = set one (o + 1) q.g in
      let all : List Float = set two (o + 1 + 1) q.b in
      let long-one : length one ≡ length out = length-set out o q.r in
      let long-two : length two ≡ length one = length-set one (o + 1) q.g in
      let r : get_or all o nan ≡ q.r =
      get_or-set_other two (o + 1 + 1) o q.b nan (λ e. omega arith) ∙ get_or-set_other one (o + 1) o q.g nan (λ e. omega arith) ∙ get_or-set_same out o q.r nan (omega arith) in
      let g : get_or all (o + 1) nan ≡ q.g = get_or-set_other two (o + 1 + 1) (o + 1) q.b nan (λ e. omega arith) ∙ get_or-set_same one (o + 1) q.g nan (omega arith) in
      let third : o + 2 ≡ o + 1 + 1 = omega arith in
      let b : get_or all (o + 2) nan ≡ q.b = ap (λ (i : ℕ). get_or all i nan) third ∙ get_or-set_same two (o + 1 + 1) q.b nan (omega arith) in
      λ t. record { r = r t; g = g t; b = b t }

  -- and every other is as it was
  put_other : (j : ℕ) → (j ≡ p → ⊥) → pixel (spread 1 out (3 * p) (three q [])) j ≡ pixel out j
  unfolding spread
  put_other j h = λ t. record {
    r = other (3 * j) (λ e. h (omega arith)) (λ e. h (omega arith)) (λ e. h (omega arith)) t;
    g = other (3 * j + 1) (λ e. h (omega arith)) (λ e. h (omega arith)) (λ e. h (omega arith)) t;
    b = other (3 * j + 2) (λ e. h (omega arith)) (λ e. h (omega arith)) (λ e. h (omega arith)) t;
  }
    where
      other : (x : ℕ) → (x ≡ 3 * p → ⊥) → (x ≡ 3 * p + 1 → ⊥) → (x ≡ 3 * p + 1 + 1 → ⊥)
          → get_or (set (set (set out (3 * p) q.r) (3 * p + 1) q.g) (3 * p + 1 + 1) q.b) x nan ≡ get_or out x nan
      other x h0 h1 h2 =
          let one : List Float = set out (3 * p) q.r in
          get_or-set_other (set one (3 * p + 1) q.g) (3 * p + 1 + 1) x q.b nan h2 ∙ get_or-set_other one (3 * p + 1) x q.g nan h1 ∙ get_or-set_other out (3 * p) x q.r nan h0

-- ---- One row

module _ (rule : SampleRule) (place : ℕ → ℕ) (store : List ℕ) where
  pub length_placed : (i n : ℕ) (out : List Float) → length (placed rule place store i n out) ≡ length out
  unfolding placed
  length_placed i zero out = refl
  length_placed i (suc n) out = length_placed (i + 1) n _ ∙ length_spread 1 out (3 * place i) (three (rule (rgbe_at store (4 * i))) [])

  -- a pixel that is none of the row's is as it was
  placed_other : (p i n : ℕ) (out : List Float) → ((c : ℕ) → i ≤ c → c < i + n → p ≡ place c → ⊥) → pixel (placed rule place store i n out) p ≡ pixel out p
  unfolding placed
  placed_other p i zero out h = refl
  placed_other p i (suc n) out h =
      placed_other p (i + 1) n _ (λ c l m e. h c (omega arith) (omega arith) e) ∙ put_other out (place i) (rule (rgbe_at store (4 * i))) p (λ e. h i (omega arith) (omega arith) e)

  -- each of the row's is there, where the places are apart and lie in the output
  pub placed_here : (c i n : ℕ) (out : List Float) → ((d : ℕ) → i ≤ d → d < i + n → 3 * place d + 3 ≤ length out)
      → ((d e : ℕ) → i ≤ d → d < i + n → i ≤ e → e < i + n → place d ≡ place e → d ≡ e) → i ≤ c → c < i + n → pixel (placed rule place store i n out) (place c) ≡ rule (rgbe_at store (4 * c))
  unfolding placed
  placed_here c i zero out room apart l m = absurd (omega arith)
  placed_here c i (suc n) out room apart l m =
      let size = length_spread 1 out (3 * place i) (three (rule (rgbe_at store (4 * i))) []) in
      ⊎_elim
      (λ h. placed_here c (i + 1) n _ (λ d a b. rw size (room d (omega arith) (omega arith))) (λ d e a b a' b' s. apart d e (omega arith) (omega arith) (omega arith) (omega arith) s) (omega arith) (omega arith))
      (λ h. let same : i ≡ c = omega arith in
      subst (λ (k : ℕ). pixel (placed rule place store (i + 1) n (spread 1 out (3 * place i) (three (rule (rgbe_at store (4 * i))) []))) (place k) ≡ rule (rgbe_at store (4 * k))) same
      (placed_other (place i) (i + 1) n _ (λ d a b s. later i d (omega arith) (apart i d (omega arith) (omega arith) (omega arith) (omega arith) s))
      ∙ put_same out (place i) (rule (rgbe_at store (4 * i))) (room i (omega arith) (omega arith))))
      (lt_or_ge i c)
    where
      later : (i d : ℕ) → i < d → i ≡ d → ⊥
      later i d h e = omega arith

-- ---- What is asked of the places of stored rows

-- no two pixels have the same place
abbrev pub Apart : Stored → Type 0
Apart stored =
    (k i l j : ℕ) → k < stored.count → i < stored.long → l < stored.count → j < stored.long → stored.place k i ≡ stored.place l j → (k ≡ l) × (i ≡ j)

-- every pixel lies in an output of so many samples
abbrev pub Inside : Stored → ℕ → Type 0
Inside stored size = (k i : ℕ) → k < stored.count → i < stored.long → 3 * stored.place k i + 3 ≤ size

pub stored_apart : (head : Head) → Apart (stored_of head)
stored_apart head = (rearranged head.orientation head.width head.height).apart

pub stored_inside : (head : Head) (size : ℕ) → head.height * (3 * head.width) ≤ size → Inside (stored_of head) size
stored_inside head size room k i hk hi =
    let all : 3 * (head.height * head.width) ≤ size = rw mul_left_comm at room in
    omega (arith, (rearranged head.orientation head.width head.height).inside k i hk hi, all)

-- ---- The rows

module _ (rule : SampleRule) (stored : Stored) (apart : Apart stored) (after : ℕ → List ℕ) (lent : List Float) (inside : Inside stored (length lent)) where
  stand_none : Stand rule stored after 0 lent lent
  stand_none = record { rows = λ k i h l. absurd (omega arith); rest = λ p h. refl; size = refl }

  -- one row more
  stand_more : (n : ℕ) (out out' : List Float) → n < stored.count → Stand rule stored after n lent out → out' ≡ placed rule (stored.place n) (after n) 0 stored.long out
      → Stand rule stored after (n + 1) lent out'
  stand_more n out out' more s e =
      let size : length out' ≡ length lent = ap length e ∙ length_placed rule (stored.place n) (after n) 0 stored.long out ∙ s.size in
      record {
        rows = λ k i h l. ap (λ (o : List Float). pixel o (stored.place k i)) e
            ∙ ⊎_elim
            (λ old. placed_other rule (stored.place n) (after n) (stored.place k i) 0 stored.long out
            (λ c a b q. older k n old (apart k i n c (omega arith) l more (omega arith) q).0) ∙ s.rows k i old l)
            (λ this. let same : n ≡ k = omega arith in
            subst (λ (m : ℕ). pixel (placed rule (stored.place n) (after n) 0 stored.long out) (stored.place m i) ≡ rule (rgbe_at (after m) (4 * i))) same
            (placed_here rule (stored.place n) (after n) i 0 stored.long out (λ d a b. rw s.size (inside n d more (omega arith)))
            (λ c d a b a' b' q. (apart n c n d more (omega arith) more (omega arith) q).1) (omega arith) (omega arith)))
            (lt_or_ge k n);
        rest = λ p h. ap (λ (o : List Float). pixel o p) e
            ∙ placed_other rule (stored.place n) (after n) p 0 stored.long out (λ c a b q. h n c (omega arith) (omega arith) q)
            ∙ s.rest p (λ k i m l q. h k i (omega arith) l q);
        size = size;
      }
    where
      older : (k n : ℕ) → k < n → k ≡ n → ⊥
      older k n h q = omega arith

-- where the places of the rows that stand are below m, everything from pixel m on is as lent
module _ (rule : SampleRule) (stored : Stored) (after : ℕ → List ℕ) (n m : ℕ) (lent out : List Float) (stand : Stand rule stored after n lent out)
    (below : (k i : ℕ) → k < n → i < stored.long → stored.place k i < m) where
  as_lent : (p : ℕ) → m ≤ p → pixel out p ≡ pixel lent p
  as_lent p h = stand.rest p (λ k i l j e. omega (arith, below k i l j))

  sample_as_lent : (x : ℕ) → 3 * m ≤ x → get_or out x nan ≡ get_or lent x nan
  sample_as_lent x h =
      let p : ℕ = x / 3 in
      let there = as_lent p (omega arith) in
      ⊎_elim (λ a. let is : x ≡ 3 * p = omega arith in rw is (ap (λ (q : Pixel). q.r) there))
      (λ a. ⊎_elim (λ b. let is : x ≡ 3 * p + 1 = omega arith in rw is (ap (λ (q : Pixel). q.g) there))
      (λ b. let is : x ≡ 3 * p + 2 = omega arith in rw is (ap (λ (q : Pixel). q.b) there)) (lt_or_ge (x % 3) 2))
      (lt_or_ge (x % 3) 1)

  pub stand_beyond : Beyond (3 * m) lent out
  stand_beyond = record {
    long = stand.size;
    rest = ext_get_or nan (drop (3 * m) out) (drop (3 * m) lent) (length-drop (3 * m) out ∙ ap (λ (l : ℕ). l - 3 * m) stand.size ∙ sym (length-drop (3 * m) lent))
        (λ i h. get_or-drop (3 * m) out i nan ∙ sample_as_lent (3 * m + i) (omega arith) ∙ sym (get_or-drop (3 * m) lent i nan));
  }

module _ (row_rule : RowRule) (rule : SampleRule) (bytes : List ℕ) (stored : Stored) (at : ℕ) (store : List ℕ) where
  -- the place and the store before row k, and what the rule says of it
  abbrev start : ℕ → ℕ × List ℕ
  start = before row_rule bytes stored.long at store

  abbrev row : ℕ → Taken × List ℕ
  row = row_at row_rule bytes stored.long at store

  row_is : (k p : ℕ) (s : List ℕ) → (p, s) ≡ start k → row_rule bytes p s stored.long ≡ row k
  row_is k p s e = ap (λ (z : ℕ × List ℕ). row_rule bytes z.0 z.1 stored.long) e

  start_next : (k next : ℕ) (s : List ℕ) → (Ok next, s) ≡ row k → (next, s) ≡ start (k + 1)
  unfolding before
  start_next k next s e = rw add-one (ap (λ (z : Taken × List ℕ). (onward z.0 (start k).0, z.1)) e)

  module _ (apart : Apart stored) (lent : List Float) (inside : Inside stored (length lent)) where
    abbrev Stands : ℕ → List Float → Type 0
    Stands n out = RowsRead row_rule rule bytes stored at store n lent out

    stood_none : Stands 0 lent
    stood_none = record { read = λ k h. absurd (omega arith); stand = stand_none rule stored apart (λ k. (row k).1) lent inside }

    stood_more : (n next : ℕ) (out out' : List Float) (s : List ℕ) → n < stored.count → Stands n out → (Ok next, s) ≡ row n → out' ≡ placed rule (stored.place n) s 0 stored.long out
        → Stands (n + 1) out'
    stood_more n next out out' s more stood e eo = record {
      read = λ k h. ⊎_elim (λ old. stood.read k old) (λ this. let same : n ≡ k = omega arith in subst (λ (m : ℕ). (row m).0 ≡ Ok (start (m + 1)).0) same this_read) (lt_or_ge k n);
      stand = stand_more rule stored apart (λ k. (row k).1) lent inside n out out' more stood.stand
          (eo ∙ ap (λ (l : List ℕ). placed rule (stored.place n) l 0 stored.long out) (ap (λ (z : Taken × List ℕ). z.1) e));
    }
      where
        this_read : (row n).0 ≡ Ok (start (n + 1)).0
        this_read = sym (ap (λ (z : Taken × List ℕ). z.0) e) ∙ ap (λ (z : ℕ × List ℕ). Ok z.0) (start_next n next s e)

    abbrev Right : Left → Type 0
    Right z = RowsLeft row_rule rule bytes stored at lent store z.0 z.1 z.2

    -- from row k on, with n rows to come
    rows_from : (n k p : ℕ) (s : List ℕ) (out : List Float) (a : Left) → k + n ≡ stored.count → (p, s) ≡ start k → Stands k out
        → Runs (row_turn row_rule rule bytes stored) no_rows (stored.count - k) (rows p k s out) a → Right a
    rows_from zero k p s out a count is stood r =
        let all : k ≡ stored.count = omega arith in
        subst Right (rows_done row_rule rule bytes stored p k s out a r (omega arith))
        (subst (λ (m : ℕ). Stands m out) all stood, is ∙ ap start all)
    rows_from (suc n) k p s out a count is stood r =
        let step = step_of row_rule rule stored.long (stored.place k) bytes p out s in
        by (λ next s' o is' stood' r'. rows_from n (k + 1) next s' o a (omega arith) is' stood' r') step.0 step.1 step.2 refl
      where
        more : k < stored.count
        more = omega arith

        Later : Type 0
        Later = (next : ℕ) (s' : List ℕ) (o : List Float) → (next, s') ≡ start (k + 1) → Stands (k + 1) o
            → Runs (row_turn row_rule rule bytes stored) no_rows (stored.count - (k + 1)) (rows next (k + 1) s' o) a → Right a

        by : Later → (t : Taken) (o : List Float) (s' : List ℕ) → (t, o, s') ≡ step_of row_rule rule stored.long (stored.place k) bytes p out s → Right a
        by later (Ok next) o s' e =
            let went = went_on row_rule rule stored.long (stored.place k) bytes p out o s s' next e in
            let this = went.0 ∙ row_is k p s is in
            later next s' o (start_next k next s' this) (stood_more k next out o s' more stood this went.1)
            (rows_again row_rule rule bytes stored p k s out a r more (Ok next) o s' e next refl)
        by later (Err reason) o s' e =
            let fell = faulted row_rule rule stored.long (stored.place k) bytes p out o s s' reason e in
            subst Right (rows_fault row_rule rule bytes stored p k s out a r more (Err reason) o s' e reason refl)
            (more, subst (Stands k) (sym fell.1) stood, (reason, refl, fell.0 ∙ row_is k p s is))

    pub rows_left : Right (rows_of row_rule rule bytes stored at lent store)
    unfolding before
    rows_left = rows_from stored.count 0 at store lent _ (omega arith) refl stood_none (rows_start row_rule rule bytes stored at lent store)

  -- ---- The row store

  module _ (sound : SoundRow row_rule) where
    start_kept : (k : ℕ) → Kept (4 * stored.long) store (start k).1
    unfolding before
    start_kept zero = kept_same (4 * stored.long) store
    start_kept (suc k) = kept_then (start_kept k) (sound bytes (start k).0 (start k).1 stored.long).kept

    row_kept : (k : ℕ) → Kept (4 * stored.long) store (row k).1
    row_kept k = kept_then (start_kept k) (sound bytes (start k).0 (start k).1 stored.long).kept

    pub rows_kept : (lent : List Float) (answer : Answer ℕ) (out : List Float) (s : List ℕ) → RowsLeft row_rule rule bytes stored at lent store answer out s → Kept (4 * stored.long) store s
    rows_kept lent (done next) out s left = subst (Kept (4 * stored.long) store) (sym (ap (λ (z : ℕ × List ℕ). z.1) left.1)) (start_kept stored.count)
    rows_kept lent (refused number k) out s left = subst (Kept (4 * stored.long) store) (sym (ap (λ (z : Taken × List ℕ). z.1) left.2.2)) (row_kept k)

pub cleared_kept : (long : ℕ) (store : List ℕ) → Kept (4 * long) store (cleared long store)
cleared_kept long store = kept_spread (4 * long) 1 store 0 (replicate (4 * long) 0) (omega (arith, length-replicate {A = ℕ} (4 * long) 0))

-- ---- The checks before the rows

-- one of the checks is the first that fails, or all pass
fails_or_passed : (checks : List Check) → ((n : ℕ) × FirstFails n checks) ⊎ Passed checks
fails_or_passed [] = inr tt
fails_or_passed (check number true ∷ checks) = inl (number, refl)
fails_or_passed (check number false ∷ checks) = ⊎_elim (λ f. inl f) (λ p. inr (refl, p)) (fails_or_passed checks)

fails_answers : {A : Type 0} (refusing : ℕ → A) (checks : List Check) (rest : A) (n : ℕ) → FirstFails n checks → checked refusing checks rest ≡ refusing n
fails_answers refusing [] rest n f = absurd f
fails_answers refusing (check number true ∷ checks) rest n f = ap refusing (sym f)
fails_answers refusing (check number false ∷ checks) rest n f = fails_answers refusing checks rest n f

passed_right : (cs ds : List Check) → Passed (cs ++ ds) → Passed ds
passed_right [] ds p = p
passed_right (check number fails ∷ cs) ds p = passed_right cs ds p.1

-- ---- The whole reader

module _ (reading : Reading) (row_rule : RowRule) (rule : SampleRule) (bytes : List ℕ) (widest highest : ℕ) (out : List Float) (store : List ℕ) where
  abbrev head : Head
  head = head_in reading bytes

  abbrev left : Left
  left = rows_of row_rule rule bytes (stored_of head) head.taken out (cleared (stored_of head).long store)

  at_once : (n : ℕ) → FirstFails n (early_checks reading bytes widest highest out store) → read_by reading row_rule rule bytes widest highest out store ≡ (refuse n, out, store)
  unfolding read_by
  at_once n f = fails_answers (λ m. (refuse m, out, store)) (early_checks reading bytes widest highest out store) (framed head left) n f

  by_rows : Passed (early_checks reading bytes widest highest out store) → read_by reading row_rule rule bytes widest highest out store ≡ framed head left
  unfolding read_by
  by_rows p = pass (λ m. (refuse m, out, store)) (early_checks reading bytes widest highest out store) (framed head left) p

  frame_left : SoundRow row_rule → Passed (early_checks reading bytes widest highest out store) → FrameLeft row_rule rule bytes head out store left
  frame_left sound p =
      let room : head.height * (3 * head.width) ≤ length out = ltb-false (length out) _ (passed_right (head_checks reading bytes widest highest) (frame_checks head out store) p).0 in
      let there = rows_left row_rule rule bytes (stored_of head) head.taken (cleared (stored_of head).long store) (stored_apart head) out (stored_inside head (length out) room) in
      let kept = kept_then (cleared_kept (stored_of head).long store) (rows_kept row_rule rule bytes (stored_of head) head.taken (cleared (stored_of head).long store) sound out left.0 left.1 left.2 there) in
      record { rows = there; row_store = record { size = kept.long; beyond = kept.beyond } }

  pub lent_left_by : SoundRow row_rule → ReadLeft reading row_rule rule bytes widest highest out store
  lent_left_by sound = record {
    early = at_once;
    later = λ none. ⊎_elim (λ f. absurd (none f.0 f.1)) (λ p. (left, by_rows p, frame_left sound p)) (fails_or_passed (early_checks reading bytes widest highest out store));
  }

-- ---- Either reading

pub lent_left : (reading : Reading) (bytes : List ℕ) (widest highest : ℕ) (out : List Float) (store : List ℕ) → ReadLeft reading (row_of reading) (pixel_by reading) bytes widest highest out store
lent_left reading bytes widest highest out store = lent_left_by reading (row_of reading) (pixel_by reading) bytes widest highest out store (reading_sound reading)

-- a read that is done leaves everything beyond the frame's samples as lent
pub lent_done : (reading : Reading) (bytes : List ℕ) (widest highest : ℕ) (out : List Float) (store : List ℕ) (head : Head) → (read_of reading bytes widest highest out store).0 ≡ done head
    → Beyond (3 * (head.width * head.height)) out (read_of reading bytes widest highest out store).1
lent_done reading bytes widest highest out store head e =
    ⊎_elim
    (λ f. absurd (differ head f.0 0 (sym e ∙ ap (λ (z : Answer Head × List Float × List ℕ). z.0) (at_once reading (row_of reading) (pixel_by reading) bytes widest highest out store f.0 f.1))))
    (λ p. let is = by_rows reading (row_of reading) (pixel_by reading) bytes widest highest out store p in
    let z : Left = left reading (row_of reading) (pixel_by reading) bytes widest highest out store in
    subst (Beyond (3 * (head.width * head.height)) out) (sym (ap (λ (z : Answer Head × List Float × List ℕ). z.1) is))
    (by_answer (head_in reading bytes) z.0 z.1 z.2 (sym (ap (λ (z : Answer Head × List Float × List ℕ). z.0) is) ∙ e) (frame_left reading (row_of reading) (pixel_by reading) bytes widest highest out store (reading_sound reading) p).rows))
    (fails_or_passed (early_checks reading bytes widest highest out store))
  where
    by_answer : (h : Head) (a : Answer ℕ) (o : List Float) (s : List ℕ) → answer_of h a ≡ done head
        → RowsLeft (row_of reading) (pixel_by reading) bytes (stored_of h) h.taken out (cleared (stored_of h).long store) a o s → Beyond (3 * (head.width * head.height)) out o
    by_answer h (done next) o s e left =
        let same : taking h next ≡ head = cc in
        let area : h.height * h.width ≡ head.width * head.height = mul_comm h.height h.width ∙ ap (λ (x : Head). x.width * x.height) same in
        subst (λ (n : ℕ). Beyond (3 * n) out o) area
        (stand_beyond (pixel_by reading) (stored_of h) _ (stored_of h).count (h.height * h.width) out o left.0.stand (rearranged h.orientation h.width h.height).inside)
    by_answer h (refused n k) o s e left = absurd (differ head n k (sym e))
