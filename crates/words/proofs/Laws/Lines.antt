-- The laws that proofs use of `specs/Lines.antt`.
use Prim.Native.Nat.{ℕ, zero, suc, ◌+◌, ◌-◌, ◌<◌, ◌≤◌}
use mathlib.Core.Bool.{Bool, true, false, cond, ◌&&◌}
use mathlib.Core.List.{List, [], ◌∷◌}
use mathlib.Core.Path.{◌≡◌, refl, sym, ap, ◌∙◌}
use native.Mathlib.Nat.{not-suc-le-zero, lt_of_not-le}
use native.Mathlib.Omega.{arith}
use borrow.Author.Tests.{eq-eqb, eqb-true, ne_eqb, le-leb, lt-leb, leb-false, ltb-true, ltb-false}
use lib.ListN.{length, take, get_or, drop, length-drop, drop_of_length-le}
use lib.Seq.{take_all, drop-cons, get_or-drop}
use lib.Dec.{eqb, leb, ltb}
use lib.Pointwise.{pointwise}
use Rattle.std.specs.Prelude.{Option, Some, None, MatchOption, position}
use Rattle.std.specs.List.{position_from}
use Rattle.std.proofs.lemmas.Iterator.Adapters.{position_from-zero}
use Rattle.std.proofs.lemmas.Option.{MatchOption-at_none, MatchOption-at_some}
use Rattle.steps.specs.Loop.{pick, more, run}
use Rattle.steps.proofs.Laws.Loop.{Runs, runs_start, runs_more, runs_halt}
use Rattle.steps.proofs.Laws.Turns.{by_test, Leads, Falls, run_keeps, never_out}
use Rattle.words.specs.Lines.{up_to, past, same, line_feed, line_turn, no_lines, lines_end}

-- ---- Up to a byte

pick_bound : (t : Bool) (n m : ℕ) → n ≤ m → pick t 1 (1 + n) ≤ 1 + m
pick_bound true n m h = omega arith
pick_bound false n m h = omega arith

up_to_bound : (b : ℕ) (xs : List ℕ) → up_to b xs ≤ length xs
unfolding up_to
up_to_bound b [] = omega arith
up_to_bound b (x ∷ xs) = omega (arith, pick_bound (eqb x b) (up_to b xs) (length xs) (up_to_bound b xs))

pub up_to_some : (b x : ℕ) (xs : List ℕ) → 1 ≤ up_to b (x ∷ xs)
unfolding up_to
up_to_some b x xs = some (eqb x b) (up_to b xs)
  where
    some : (t : Bool) (n : ℕ) → 1 ≤ pick t 1 (1 + n)
    some true n = omega arith
    some false n = omega arith

pub up_to_found : (b x : ℕ) (xs : List ℕ) → x ≡ b → up_to b (x ∷ xs) ≡ 1
unfolding up_to
up_to_found b x xs e = simp (eq-eqb x b e)

pub up_to_on : (b x : ℕ) (xs : List ℕ) → (x ≡ b → ⊥) → up_to b (x ∷ xs) ≡ 1 + up_to b xs
unfolding up_to
up_to_on b x xs e = simp (ne_eqb x b e)

pub past_from : (b : ℕ) (bytes : List ℕ) (at : ℕ) → at ≤ past b bytes at
unfolding past
past_from b bytes at = omega arith

pub past_within : (b : ℕ) (bytes : List ℕ) (at : ℕ) → at ≤ length bytes → past b bytes at ≤ length bytes
unfolding past
past_within b bytes at h = omega (arith, up_to_bound b (drop at bytes), length-drop at bytes)

pub past_moves : (b : ℕ) (bytes : List ℕ) (at : ℕ) → at < length bytes → at < past b bytes at
unfolding past
past_moves b bytes at h = rw (drop-cons bytes at 0 h) (omega (arith, up_to_some b (get_or bytes at 0) (drop (suc at) bytes)))

-- a search that ends before the end of the bytes has found its byte
up_to_byte : (b : ℕ) (xs : List ℕ) → up_to b xs < length xs → get_or xs (up_to b xs - 1) 0 ≡ b
unfolding up_to
up_to_byte b [] h = absurd (not-suc-le-zero h)
up_to_byte b (x ∷ xs) h = go (eqb x b) refl (up_to_byte b xs) h
  where
    some : up_to b xs < length xs → 1 ≤ up_to b xs
    some l = rw (drop-cons xs 0 0 (omega arith)) (up_to_some b (get_or xs 0 0) (drop 1 xs))

    go : (t : Bool) → eqb x b ≡ t → (up_to b xs < length xs → get_or xs (up_to b xs - 1) 0 ≡ b) → pick t 1 (1 + up_to b xs) < suc (length xs)
        → get_or (x ∷ xs) (pick t 1 (1 + up_to b xs) - 1) 0 ≡ b
    go true e rec h = eqb-true x b e
    go false e rec h =
        let l : up_to b xs < length xs = omega arith in
        let k : 1 + up_to b xs - 1 ≡ suc (up_to b xs - 1) = omega (arith, some l) in
        rw k (rec l)

-- and it goes no further than to a place that has its byte
up_to_most : (b : ℕ) (xs : List ℕ) (p : ℕ) → p < length xs → get_or xs p 0 ≡ b → up_to b xs ≤ 1 + p
unfolding up_to
up_to_most b [] p h e = absurd (not-suc-le-zero h)
up_to_most b (x ∷ xs) zero h e = omega (arith, up_to_found b x xs e)
up_to_most b (x ∷ xs) (suc p) h e = omega (arith, pick_bound (eqb x b) (up_to b xs) (1 + p) (up_to_most b xs p (omega arith) e))

pub past_byte : (b : ℕ) (bytes : List ℕ) (at : ℕ) → past b bytes at < length bytes → get_or bytes (past b bytes at - 1) 0 ≡ b
unfolding past
past_byte b bytes at h =
    let u = up_to b (drop at bytes) in
    let k : at + u - 1 ≡ at + (u - 1) = omega (arith, past_moves b bytes at (omega arith)) in
    rw k (sym (get_or-drop at bytes (u - 1) 0) ∙ up_to_byte b (drop at bytes) (omega (arith, length-drop at bytes)))

pub past_most : (b : ℕ) (bytes : List ℕ) (at p : ℕ) → at ≤ p → p < length bytes → get_or bytes p 0 ≡ b → past b bytes at ≤ p + 1
unfolding past
past_most b bytes at p h l e =
    let k : at + (p - at) ≡ p = omega arith in
    let there : get_or (drop at bytes) (p - at) 0 ≡ b = rw (get_or-drop at bytes (p - at) 0, k) e in
    omega (arith, up_to_most b (drop at bytes) (p - at) (omega (arith, length-drop at bytes)) there)

pub past_end : (b : ℕ) (bytes : List ℕ) (at : ℕ) → length bytes ≤ at → past b bytes at ≡ at
unfolding past up_to
past_end b bytes at h = rw (drop_of_length-le bytes h) (omega arith)

-- what the library's search from a place on has told
position_up_to : (b i : ℕ) (xs : List ℕ) → MatchOption (position_from (λ x. eqb x b) i xs) (up_to b xs ≡ length xs) (λ n. (i ≤ n) × (up_to b xs + i ≡ n + 1))
unfolding up_to
position_up_to b i [] = refl
position_up_to b i (x ∷ xs) = go (eqb x b) (position_from (λ x. eqb x b) (i + 1) xs) (position_up_to b (i + 1) xs)
  where
    go : (t : Bool) (r : Option ℕ) → MatchOption r (up_to b xs ≡ length xs) (λ n. (i + 1 ≤ n) × (up_to b xs + (i + 1) ≡ n + 1))
        → MatchOption (cond t (Some i) r) (pick t 1 (1 + up_to b xs) ≡ suc (length xs)) (λ n. (i ≤ n) × (pick t 1 (1 + up_to b xs) + i ≡ n + 1))
    go true r h = (omega arith, omega arith)
    go false None h = omega (arith, h)
    go false (Some n) h = (omega arith, omega arith)

module _ (b : ℕ) (bytes : List ℕ) (at : ℕ) (r : Option ℕ) (e : r ≡ position (λ x. eqb x b) (take (length bytes - at) (drop at bytes))) where
  told : MatchOption r (up_to b (drop at bytes) ≡ length (drop at bytes)) (λ n. (0 ≤ n) × (up_to b (drop at bytes) + 0 ≡ n + 1))
  told =
      let all : take (length bytes - at) (drop at bytes) ≡ drop at bytes = take_all (length bytes - at) (drop at bytes) (omega (arith, length-drop at bytes)) in
      rw (e, all, position_from-zero (λ x. eqb x b) (drop at bytes)) (position_up_to b 0 (drop at bytes))

  pub past_missing : at ≤ length bytes → r ≡ None → length bytes ≡ past b bytes at
  unfolding past
  past_missing h k = omega (arith, MatchOption-at_none _ _ k told, length-drop at bytes)

  pub past_found : (n : ℕ) → r ≡ Some n → at + n + 1 ≡ past b bytes at
  unfolding past
  past_found n k = omega (arith, MatchOption-at_some _ _ n k told)

-- a search takes nothing exactly at the end of the bytes
module _ (b : ℕ) (bytes : List ℕ) (at : ℕ) where
  pub past_none : past b bytes at ≤ at → length bytes ≤ at
  past_none h = by_place (ltb at (length bytes)) refl
    where
      no : at < past b bytes at → ⊥
      no m = omega arith

      by_place : (t : Bool) → ltb at (length bytes) ≡ t → length bytes ≤ at
      by_place true t = absurd (no (past_moves b bytes at (ltb-true _ _ t)))
      by_place false t = ltb-false _ _ t

  pub past_some : at < past b bytes at → at < length bytes
  past_some h = lt_of_not-le (λ l. no (sym (past_end b bytes at l)))
    where
      no : at ≡ past b bytes at → ⊥
      no e = omega arith

-- ---- Two byte strings

pub same_length : (xs ys : List ℕ) → (length xs ≡ length ys → ⊥) → false ≡ same xs ys
unfolding same
same_length [] [] h = absurd (h refl)
same_length [] (y ∷ ys) h = refl
same_length (x ∷ xs) [] h = refl
same_length (x ∷ xs) (y ∷ ys) h = and_false (eqb x y) (same xs ys) (same_length xs ys (λ e. h (ap suc e)))
  where
    and_false : (s t : Bool) → false ≡ t → false ≡ (s && t)
    and_false true t e = e
    and_false false t e = refl

-- the library's test of two byte strings
pub same_bytes : (xs ys : List ℕ) → pointwise eqb xs ys ≡ same xs ys
unfolding same
same_bytes [] [] = refl
same_bytes [] (y ∷ ys) = refl
same_bytes (x ∷ xs) [] = refl
same_bytes (x ∷ xs) (y ∷ ys) = ap (λ (t : Bool). eqb x y && t) (same_bytes xs ys)

-- ---- The further lines

pub lines_start : (bytes : List ℕ) (at : ℕ) → Runs (line_turn bytes) no_lines (length bytes - at) at (lines_end bytes at)
unfolding lines_end
lines_start bytes at = runs_start _ _ _ _ _ (omega arith)

module _ (bytes : List ℕ) (p a : ℕ) (r : Runs (line_turn bytes) no_lines (length bytes - p) p a) where
  pub lines_done : length bytes ≤ p → p ≡ a
  unfolding line_turn
  lines_done h = runs_halt r (simp (le-leb (length bytes) p h))

  module _ (h : p < length bytes) where
    pub lines_blank : get_or bytes p 0 ≡ line_feed → p + 1 ≡ a
    unfolding line_turn
    lines_blank e = runs_halt r (simp (lt-leb (length bytes) p h, eq-eqb (get_or bytes p 0) line_feed e))

    pub lines_on : (q : ℕ) → (get_or bytes p 0 ≡ line_feed → ⊥) → q ≡ past line_feed bytes p → Runs (line_turn bytes) no_lines (length bytes - q) q a
    unfolding line_turn
    lines_on q e k =
        runs_more r (simp (lt-leb (length bytes) p h, ne_eqb (get_or bytes p 0) line_feed e) (ap more (sym k)))
        (omega (arith, past_moves line_feed bytes p h))

pub line_less : (bytes : List ℕ) (p q : ℕ) → p < length bytes → q ≡ past line_feed bytes p → length bytes - q < length bytes - p
line_less bytes p q h e = omega (arith, past_moves line_feed bytes p h)

-- the turns are never used up, since each line takes a byte or more
pub lines_fall : (bytes : List ℕ) (p : ℕ) → Falls (λ (q : ℕ). length bytes - q) p (line_turn bytes p)
unfolding line_turn
lines_fall bytes p =
    by_test (Falls (λ (q : ℕ). length bytes - q) p) (leb (length bytes) p) (λ t. tt)
    (λ t. by_test (Falls (λ (q : ℕ). length bytes - q) p) (eqb (get_or bytes p 0) line_feed) (λ u. tt) (λ u. line_less bytes p _ (leb-false (length bytes) p t) refl))

pub lines_never_out : (bytes : List ℕ) (at : ℕ) (other : ℕ → ℕ) → lines_end bytes at ≡ run (line_turn bytes) other (length bytes + 1) at
unfolding lines_end
lines_never_out bytes at other = never_out (line_turn bytes) no_lines other (λ p. length bytes - p) (lines_fall bytes) _ _ (omega arith)

-- and the lines end within the bytes
pub lines_within : (bytes : List ℕ) (at : ℕ) → at ≤ length bytes → lines_end bytes at ≤ length bytes
unfolding lines_end line_turn
lines_within bytes at h = run_keeps (line_turn bytes) no_lines P P step (λ p q. q) _ _ h
  where
    P : ℕ → Type 0
    P p = p ≤ length bytes

    step : (p : ℕ) → P p → Leads P P (line_turn bytes p)
    step p q =
        by_test (Leads P P) (leb (length bytes) p) (λ _. q)
        (λ t. by_test (Leads P P) (eqb (get_or bytes p 0) line_feed) (λ _. let l = leb-false (length bytes) p t in omega arith) (λ _. past_within line_feed bytes p q))
