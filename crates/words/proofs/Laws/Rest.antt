-- Bytes behind change nothing: what ends inside xs, and before the end of xs ++ ys, ends there in xs ++ zs too.
use Prim.Native.Nat.{ℕ, zero, suc, ◌+◌, ◌-◌, ◌<◌, ◌≤◌}
use mathlib.Core.Bool.{Bool, true, false}
use mathlib.Core.List.{List, [], ◌∷◌, ◌++◌, append-nil}
use mathlib.Core.Path.{◌≡◌, refl, sym, ap, subst, ◌∙◌}
use native.Mathlib.Nat.{not-suc-le-zero, lt_of_not-le}
use native.Mathlib.Omega.{arith}
use borrow.Author.Tests.{le-leb, lt-leb, leb-true, leb-false, ltb-true, ltb-false, eqb-true, eqb-false}
use lib.ListN.{length, get_or, drop, length-append, length-take, length-drop, get_or-append}
use lib.Seq.{take-append-le, drop-append-le}
use lib.Dec.{eqb, leb, ltb}
use Rattle.steps.specs.Loop.{pick, Turn, more, halt, lead, run}
use Rattle.steps.proofs.Laws.Turns.{by_test, Leads, Falls, run_keeps}
use Rattle.words.specs.Lines.{line_feed, space, up_to, past, between, radiance_line, rgbe_line, first_line, is_first, line_turn, no_lines, lines_end}
use Rattle.words.specs.Fields.{fields_at}
use Rattle.words.proofs.Laws.Lines.{up_to_some, past_from, past_within, past_moves, past_byte, past_most, same_length, lines_fall}

-- the place n lies in xs, and before the end of xs ++ ys
abbrev pub Inside : ℕ → List ℕ → List ℕ → Type 0
Inside n xs ys = (n ≤ length xs) × (n < length (xs ++ ys))

-- ---- Up to a byte

up_to_rest : (b : ℕ) (xs ys zs : List ℕ) → Inside (up_to b (xs ++ ys)) xs ys → up_to b (xs ++ zs) ≡ up_to b (xs ++ ys)
unfolding up_to
up_to_rest b [] [] zs h = absurd (not-suc-le-zero h.1)
up_to_rest b [] (y ∷ ys) zs h = absurd (not-suc-le-zero {n = 0} (omega (arith, up_to_some b y ys)))
up_to_rest b (x ∷ xs) ys zs h = go (eqb x b) (up_to_rest b xs ys zs) h
  where
    go : (t : Bool) {m n : ℕ} → (Inside n xs ys → m ≡ n) → Inside (pick t 1 (1 + n)) (x ∷ xs) ys → pick t 1 (1 + m) ≡ pick t 1 (1 + n)
    go true rec h = refl
    go false rec h = ap (λ (k : ℕ). 1 + k) (rec (omega arith, omega arith))

module _ (xs ys zs : List ℕ) where
  pub past_rest : (b at : ℕ) → Inside (past b (xs ++ ys) at) xs ys → past b (xs ++ zs) at ≡ past b (xs ++ ys) at
  unfolding past
  past_rest b at h =
      let l : at ≤ length xs = omega arith in
      let front : (vs : List ℕ) → up_to b (drop at (xs ++ vs)) ≡ up_to b (drop at xs ++ vs) = λ vs. ap (up_to b) (drop-append-le at xs vs l) in
      let same = front ys in
      let part = length-drop at xs in
      let whole = length-append xs ys in
      let both = length-append (drop at xs) ys in
      let inside : Inside (up_to b (drop at xs ++ ys)) (drop at xs) ys = (omega arith, omega arith) in
      ap (λ (n : ℕ). at + n) (front zs ∙ up_to_rest b (drop at xs) ys zs inside ∙ sym same)

  pub between_rest : (from to : ℕ) → from ≤ to → to ≤ length xs → between (xs ++ zs) from to ≡ between (xs ++ ys) from to
  between_rest from to f t = front zs ∙ sym (front ys)
    where
      front : (vs : List ℕ) → between (xs ++ vs) from to ≡ between xs from to
      front vs =
          rw (drop-append-le from xs vs (omega arith))
          (take-append-le (to - from) (drop from xs) vs (omega (arith, length-drop from xs)))

-- a byte more is not taken exactly if the last byte that is taken is the one looked for
pub past_more : (b : ℕ) (xs : List ℕ) (at y : ℕ) → at < length xs → eqb (get_or xs (past b xs at - 1) 0) b ≡ leb (past b (xs ++ y ∷ []) at) (length xs)
past_more b xs at y h = by_byte (eqb (get_or xs (past b xs at - 1) 0) b) refl
  where
    bounds : (at < past b xs at) × (past b xs at ≤ length xs) × (length (xs ++ y ∷ []) ≡ length xs + 1)
    bounds = (past_moves b xs at h, past_within b xs at (omega arith), length-append xs (y ∷ []))

    there : get_or (xs ++ y ∷ []) (past b xs at - 1) 0 ≡ get_or xs (past b xs at - 1) 0
    there = get_or-append xs (y ∷ []) 0 (past b xs at - 1) (omega (arith, bounds))

    is_byte : past b (xs ++ y ∷ []) at ≤ length xs → get_or xs (past b xs at - 1) 0 ≡ b
    is_byte l =
        let inside : Inside (past b (xs ++ y ∷ []) at) xs (y ∷ []) = (l, omega (arith, bounds)) in
        let same : past b xs at ≡ past b (xs ++ y ∷ []) at = ap (λ (vs : List ℕ). past b vs at) (sym (append-nil xs)) ∙ past_rest xs (y ∷ []) [] b at inside in
        sym there ∙ rw same (past_byte b (xs ++ y ∷ []) at inside.1)

    by_byte : (t : Bool) → eqb (get_or xs (past b xs at - 1) 0) b ≡ t → t ≡ leb (past b (xs ++ y ∷ []) at) (length xs)
    by_byte true e =
        let most = past_most b (xs ++ y ∷ []) at (past b xs at - 1) (omega (arith, bounds)) (omega (arith, bounds)) (there ∙ eqb-true _ _ e) in
        let l : past b (xs ++ y ∷ []) at ≤ length xs = omega (arith, bounds) in
        sym (le-leb _ _ l)
    by_byte false e = sym (lt-leb _ _ (lt_of_not-le (λ l. eqb-false _ _ e (is_byte l))))

-- ---- The first line

pub first_rest : (xs ys zs : List ℕ) → Inside (past line_feed (xs ++ ys) 0) xs ys → first_line (xs ++ zs) ≡ first_line (xs ++ ys)
first_rest xs ys zs h = rw (past_rest xs ys zs line_feed 0 h) (between_rest xs ys zs 0 _ (omega arith) h.0)

first_length : (bytes : List ℕ) → length (first_line bytes) ≡ past line_feed bytes 0
first_length bytes = simp length-take (omega (arith, past_within line_feed bytes 0 (omega arith)))

-- a line of more bytes than #?RADIANCE and its line feed is no first line
too_long : (line : List ℕ) → 11 < length line → is_first line ≡ false
unfolding is_first
too_long line h = simp (sym (same_length line radiance_line (λ e. omega arith)), sym (same_length line rgbe_line (λ e. omega arith)))

-- eleven bytes are enough to know a wrong first line
pub wrong_rest : (xs zs : List ℕ) → 11 ≤ length xs → is_first (first_line xs) ≡ false → is_first (first_line (xs ++ zs)) ≡ false
wrong_rest xs [] h e = rw (append-nil xs) e
wrong_rest xs (z ∷ zs) h e = by_length (ltb 11 (past line_feed (xs ++ z ∷ zs) 0)) refl
  where
    by_length : (t : Bool) → ltb 11 (past line_feed (xs ++ z ∷ zs) 0) ≡ t → is_first (first_line (xs ++ z ∷ zs)) ≡ false
    by_length true t = too_long _ (rw (first_length (xs ++ z ∷ zs)) (ltb-true _ _ t))
    by_length false t =
        let l : past line_feed (xs ++ z ∷ zs) 0 ≤ 11 = ltb-false _ _ t in
        let inside : Inside (past line_feed (xs ++ z ∷ zs) 0) xs (z ∷ zs) = (omega arith, omega (arith, length-append xs (z ∷ zs))) in
        let same : first_line xs ≡ first_line (xs ++ z ∷ zs) = ap first_line (sym (append-nil xs)) ∙ first_rest xs (z ∷ zs) [] inside in
        rw (← same) e

-- ---- The further lines

-- the lines never go back
run_from : (bytes : List ℕ) (k at : ℕ) → at ≤ run (line_turn bytes) no_lines k at
unfolding line_turn
run_from bytes k at = run_keeps (line_turn bytes) no_lines P P step (λ p h. h) k at (omega arith)
  where
    P : ℕ → Type 0
    P p = at ≤ p

    step : (p : ℕ) → P p → Leads P P (line_turn bytes p)
    step p h =
        by_test (Leads P P) (leb (length bytes) p) (λ _. h)
        (λ _. by_test (Leads P P) (eqb (get_or bytes p 0) line_feed) (λ _. omega arith) (λ _. omega (arith, past_from line_feed bytes p)))

pub lines_from : (bytes : List ℕ) (at : ℕ) → at ≤ lines_end bytes at
unfolding lines_end
lines_from bytes at = run_from bytes _ at

-- a line that begins in xs
line_there : (xs vs : List ℕ) (p : ℕ) → p < length xs → line_turn (xs ++ vs) p ≡ pick (eqb (get_or xs p 0) line_feed) (halt (p + 1)) (more (past line_feed (xs ++ vs) p))
unfolding line_turn
line_there xs vs p h =
    let l : p < length (xs ++ vs) = omega (arith, length-append xs vs) in
    simp (lt-leb (length (xs ++ vs)) p l, get_or-append xs vs 0 p h)

module _ (xs ys zs : List ℕ) where
  line_rest : (p : ℕ) → Inside (lead (λ q. q) (line_turn (xs ++ ys) p)) xs ys → line_turn (xs ++ zs) p ≡ line_turn (xs ++ ys) p
  unfolding line_turn
  line_rest p = by_test L (leb (length (xs ++ ys)) p) (λ t h. absurd (no (leb-true _ _ t) h)) (λ t. by_test L (eqb (get_or (xs ++ ys) p 0) line_feed) (blank t) (goes t))
    where
      L : Turn ℕ ℕ → Type 0
      L z = Inside (lead (λ q. q) z) xs ys → line_turn (xs ++ zs) p ≡ z

      no : length (xs ++ ys) ≤ p → Inside p xs ys → ⊥
      no t h = omega arith

      blank : leb (length (xs ++ ys)) p ≡ false → eqb (get_or (xs ++ ys) p 0) line_feed ≡ true → L (halt (p + 1))
      blank t u h =
          let l : p < length xs = omega arith in
          let b : eqb (get_or xs p 0) line_feed ≡ true = ap (λ (x : ℕ). eqb x line_feed) (sym (get_or-append xs ys 0 p l)) ∙ u in
          line_there xs zs p l ∙ simp b

      goes : leb (length (xs ++ ys)) p ≡ false → eqb (get_or (xs ++ ys) p 0) line_feed ≡ false → L (more (past line_feed (xs ++ ys) p))
      goes t u h =
          let l : p < length xs = omega (arith, past_moves line_feed (xs ++ ys) p (leb-false _ _ t)) in
          let b : eqb (get_or xs p 0) line_feed ≡ false = ap (λ (x : ℕ). eqb x line_feed) (sym (get_or-append xs ys 0 p l)) ∙ u in
          line_there xs zs p l ∙ simp b (ap more (past_rest xs ys zs line_feed p h))

  run_rest : (k k' p : ℕ) → length (xs ++ ys) - p < k → length (xs ++ zs) - p < k' → Inside (run (line_turn (xs ++ ys)) no_lines k p) xs ys
      → run (line_turn (xs ++ zs)) no_lines k' p ≡ run (line_turn (xs ++ ys)) no_lines k p
  unfolding run
  run_rest zero k' p h l i = absurd (not-suc-le-zero h)
  run_rest (suc k) zero p h l i = absurd (not-suc-le-zero l)
  run_rest (suc k) (suc k') p h l i = by_turn (run_rest k k') (line_turn (xs ++ ys) p) refl i
    where
      by_turn : ((q : ℕ) → length (xs ++ ys) - q < k → length (xs ++ zs) - q < k' → Inside (run (line_turn (xs ++ ys)) no_lines k q) xs ys
          → run (line_turn (xs ++ zs)) no_lines k' q ≡ run (line_turn (xs ++ ys)) no_lines k q)
          → (z : Turn ℕ ℕ) → line_turn (xs ++ ys) p ≡ z → Inside (lead (run (line_turn (xs ++ ys)) no_lines k) z) xs ys
          → lead (run (line_turn (xs ++ zs)) no_lines k') (line_turn (xs ++ zs) p) ≡ lead (run (line_turn (xs ++ ys)) no_lines k) z
      by_turn rec (more q) e i =
          let from = run_from (xs ++ ys) k q in
          let same : line_turn (xs ++ zs) p ≡ more q = line_rest p (rw e (omega arith, omega arith)) ∙ e in
          let less : length (xs ++ ys) - q < length (xs ++ ys) - p = subst (Falls (λ (r : ℕ). length (xs ++ ys) - r) p) e (lines_fall (xs ++ ys) p) in
          let less' : length (xs ++ zs) - q < length (xs ++ zs) - p = subst (Falls (λ (r : ℕ). length (xs ++ zs) - r) p) same (lines_fall (xs ++ zs) p) in
          rw same (rec q (omega arith) (omega arith) i)
      by_turn rec (halt a) e i = rw (line_rest p (rw e i) ∙ e)

  pub lines_rest : (at : ℕ) → Inside (lines_end (xs ++ ys) at) xs ys → lines_end (xs ++ zs) at ≡ lines_end (xs ++ ys) at
  unfolding lines_end
  lines_rest at h = run_rest _ _ at (omega arith) (omega arith) h

-- ---- The four fields

-- the place after n fields that end by a space
abbrev pub spaces : ℕ → List ℕ → ℕ → ℕ
spaces zero bytes at = at
spaces (suc n) bytes at = past space bytes (spaces n bytes at)

pub spaces_from : (n : ℕ) (bytes : List ℕ) (at : ℕ) → at ≤ spaces n bytes at
spaces_from zero bytes at = omega arith
spaces_from (suc n) bytes at = omega (arith, spaces_from n bytes at, past_from space bytes (spaces n bytes at))

module _ (xs ys zs : List ℕ) where
  pub spaces_rest : (n at : ℕ) → Inside (spaces n (xs ++ ys) at) xs ys → spaces n (xs ++ zs) at ≡ spaces n (xs ++ ys) at
  spaces_rest zero at h = refl
  spaces_rest (suc n) at h =
      let from = past_from space (xs ++ ys) (spaces n (xs ++ ys) at) in
      rw (spaces_rest n at (omega arith, omega arith)) (past_rest xs ys zs space _ h)

  pub fields_rest : (at : ℕ) → Inside (fields_at (xs ++ ys) at).taken xs ys → fields_at (xs ++ zs) at ≡ fields_at (xs ++ ys) at
  unfolding fields_at
  fields_rest at h =
      let a = spaces 1 (xs ++ ys) at in
      let b = spaces 2 (xs ++ ys) at in
      let c = spaces 3 (xs ++ ys) at in
      let ea = past_from space (xs ++ ys) at in
      let eb = past_from space (xs ++ ys) a in
      let ec = past_from space (xs ++ ys) b in
      let ed = past_from line_feed (xs ++ ys) c in
      let ia : Inside a xs ys = (omega arith, omega arith) in
      let ib : Inside b xs ys = (omega arith, omega arith) in
      let ic : Inside c xs ys = (omega arith, omega arith) in
      simp (
        past_rest xs ys zs space at ia,
        past_rest xs ys zs space a ib,
        past_rest xs ys zs space b ic,
        past_rest xs ys zs line_feed c h,
        between_rest xs ys zs at a ea ia.0,
        between_rest xs ys zs a b eb ib.0,
        between_rest xs ys zs b c ec ic.0,
        between_rest xs ys zs c _ ed h.0,
      )
