-- The laws of `specs/Header.antt`.
use Prim.{Unit}
use Prim.Native.Nat.{ℕ, ◌-◌, ◌<◌, ◌≤◌}
use mathlib.Core.Bool.{Bool, true, false, not, ◌&&◌}
use mathlib.Core.List.{List, [], ◌∷◌, ◌++◌, append-nil}
use mathlib.Core.Path.{◌≡◌, refl, sym, ap, subst, ◌∙◌}
use native.Mathlib.Nat.{lt_of_not-le}
use native.Mathlib.Omega.{arith}
use borrow.Author.Tests.{eqb-true, lt-leb, leb-true, leb-false, not-false}
use lib.ListN.{length, get_or, length-append}
use lib.Dec.{eqb, leb}
use Rattle.std.specs.Prelude.{Option, Some, None, option_map, Result, Ok, Err}
use Rattle.steps.specs.Answer.{Answer, done, refused, refusal_of, paper_of}
use Rattle.steps.specs.declared.Reading.{Reading}
use Rattle.steps.specs.declared.refusal.Refusal.{Refusal}
use Rattle.steps.specs.Loop.{pick}
use Rattle.steps.proofs.Laws.Turns.{by_test, and_left, and_right}
use Rattle.words.specs.Lines.{line_feed, space, past, lines_end}
use Rattle.words.proofs.Laws.Lines.{past_from, past_moves, past_none, past_some}
use Rattle.words.proofs.Laws.Rest.{Inside, past_more}
use Rattle.header.specs.declared.Head.{Head}
use Rattle.header.specs.Head.{fields_of, header_of}
use Rattle.header.proofs.Laws.Head.{header_limits, header_taken, header_within}
use Rattle.header.proofs.Laws.Rest.{last_start, taken_last, last_rest, header_rest, wrong_line}
use Rattle.window.specs.Header.{ends_inside, refused_part, head_part, HeadPromise, HeadWithin}
use Rattle.window.specs.Row.{Goes}

-- ---- Whether the header ends inside the part

module _ (part : List ℕ) where
  ends_in : last_start part < length part → eqb (get_or part (past line_feed part (last_start part) - 1) 0) line_feed ≡ ends_inside part
  unfolding ends_inside
  ends_in h =
      let inside : Inside (last_start (part ++ [])) part [] = rw (append-nil part) (omega arith, h) in
      let same : last_start (part ++ 0 ∷ []) ≡ last_start part = last_rest part [] (0 ∷ []) inside ∙ ap last_start (append-nil part) in
      rw (taken_last (part ++ 0 ∷ []), same) (past_more line_feed part (last_start part) 0 h)

  ends_out : length part ≤ last_start part → false ≡ ends_inside part
  unfolding ends_inside
  ends_out h = sym (lt-leb _ _ (lt_of_not-le no))
    where
      c : ℕ
      c = last_start (part ++ 0 ∷ [])

      no : (fields_of (part ++ 0 ∷ [])).taken ≤ length part → ⊥
      no l =
          let taken = taken_last (part ++ 0 ∷ []) in
          let one = length-append part (0 ∷ []) in
          let from = past_from line_feed (part ++ 0 ∷ []) c in
          let inside : Inside c part (0 ∷ []) = (omega arith, omega arith) in
          let same : last_start part ≡ c = ap last_start (sym (append-nil part)) ∙ last_rest part (0 ∷ []) [] inside in
          omega (arith, past_moves line_feed (part ++ 0 ∷ []) c inside.1)

  -- the last field begins at c, and the header is taken up to d
  module _ (d c b a at l : ℕ) (ed : d ≡ past line_feed part c) (ec : c ≡ past space part b) (eb : b ≡ past space part a) (ea : a ≡ past space part at) (et : at ≡ lines_end part l)
      (el : l ≡ past line_feed part 0) where
    last_is : c ≡ last_start part
    last_is = rw (ec, eb, ea, et, el)

    pub ends_not : d ≤ c → false ≡ ends_inside part
    ends_not h = ends_out (rw (← last_is) (past_none line_feed part c (rw (← ed) h)))

    pub ends_by : c < d → eqb (get_or part (d - 1) 0) 10 ≡ ends_inside part
    ends_by h =
        let inside : last_start part < length part = rw (← last_is) (past_some line_feed part c (rw (← ed) h)) in
        rw (ed, last_is) (ends_in inside)

-- ---- What the code finds

module _ (more : Bool) (part : List ℕ) (number place : ℕ) where
  by_tests : (a m c : Bool) (b : Bool) → (not a && m && c) ≡ b
      → ◌≡◌ {A = Option (Answer Head)} (pick a (Some (refused number place)) (pick (m && c) None (Some (refused number place)))) (pick b None (Some (refused number place)))
  by_tests true m c b e = rw (← e)
  by_tests false true c b e = rw (← e)
  by_tests false false c b e = rw (← e)

  pub refused_long : (not (eqb number 1 && leb 11 (length part)) && more && not (ends_inside part)) ≡ true → refused_part more part number place ≡ None
  unfolding refused_part
  refused_long h = by_tests (eqb number 1 && leb 11 (length part)) more (not (ends_inside part)) true h

  pub refused_whole : (not (eqb number 1 && leb 11 (length part)) && more && not (ends_inside part)) ≡ false → refused_part more part number place ≡ Some (refused number place)
  unfolding refused_part
  refused_whole h = by_tests (eqb number 1 && leb 11 (length part)) more (not (ends_inside part)) false h

-- ---- A header that is read lies in the part

-- what the paper's answer says of that
abbrev PaperWithin : ℕ → Option (Answer Head) → Type 0
PaperWithin n (Some (done head)) = (head.taken ≤ n) × (head.width ≤ 65535) × (head.height ≤ 65535)
PaperWithin n (Some (refused number place)) = Unit {0}
PaperWithin n None = Unit {0}

by_paper : (n : ℕ) (p : Option (Result Head Refusal)) → PaperWithin n (option_map paper_of p) → HeadWithin n p
by_paper n (Some (Ok head)) h = h
by_paper n (Some (Err refusal)) h = tt
by_paper n None h = tt

refused_within : (n : ℕ) (more : Bool) (part : List ℕ) (number place : ℕ) → PaperWithin n (refused_part more part number place)
unfolding refused_part
refused_within n more part number place =
    by_test (PaperWithin n) (eqb number 1 && leb 11 (length part)) (λ _. tt) (λ _. by_test (PaperWithin n) (more && not (ends_inside part)) (λ _. tt) (λ _. tt))

answer_within : (reading : Reading) (part : List ℕ) (more : Bool) (a : Answer Head) → a ≡ header_of reading part 65535 65535 → PaperWithin (length part) (head_part more part a)
unfolding head_part
answer_within reading part more (done head) e =
    by_test (PaperWithin (length part)) (more && leb (length part) head.taken) (λ _. tt)
    (λ _. let l = header_limits reading part 65535 65535 head (sym e) in (header_within reading part 65535 65535 head (sym e), l.0, l.1))
answer_within reading part more (refused number place) e = refused_within (length part) more part number place

pub head_within : (reading : Reading) (part : List ℕ) (more : Bool) (p : Option (Result Head Refusal)) → HeadPromise reading part more p → HeadWithin (length part) p
head_within reading part more p e = by_paper (length part) p (subst (PaperWithin (length part)) (sym e) (answer_within reading part more (header_of reading part 65535 65535) refl))

-- ---- What a part says of the header holds of the whole file

-- the bytes answer what a part says
abbrev Answers : Reading → List ℕ → Option (Answer Head) → Type 0
Answers reading bytes (Some a) = header_of reading bytes 65535 65535 ≡ a
Answers reading bytes None = Unit {0}

module _ (reading : Reading) (part rest : List ℕ) where
  -- a header that ends before the part does
  read_whole : (fields_of part).taken < length part → header_of reading (part ++ rest) 65535 65535 ≡ header_of reading part 65535 65535
  read_whole h =
      let inside : Inside (fields_of (part ++ [])).taken part [] = rw (append-nil part) (omega arith, h) in
      header_rest part [] rest reading 65535 65535 inside ∙ rw (append-nil part)

  -- one that ends inside the part
  ended_whole : ends_inside part ≡ true → header_of reading (part ++ rest) 65535 65535 ≡ header_of reading part 65535 65535
  unfolding ends_inside
  ended_whole t =
      let l = leb-true _ _ t in
      let inside : Inside (fields_of (part ++ 0 ∷ [])).taken part (0 ∷ []) = (l, omega (arith, length-append part (0 ∷ []))) in
      let same : header_of reading (part ++ []) 65535 65535 ≡ header_of reading part 65535 65535 = rw (append-nil part) in
      header_rest part (0 ∷ []) rest reading 65535 65535 inside ∙ sym (header_rest part (0 ∷ []) [] reading 65535 65535 inside) ∙ same

  -- one whose first line is wrong
  wrong_whole : (number place : ℕ) → header_of reading part 65535 65535 ≡ refused number place → (eqb number 1 && leb 11 (length part)) ≡ true
      → header_of reading (part ++ rest) 65535 65535 ≡ refused number place
  wrong_whole number place e t =
      let one : number ≡ 1 = eqb-true _ _ (and_left (eqb number 1) _ t) in
      rw one (wrong_line reading part rest 65535 65535 place (leb-true _ _ (and_right (eqb number 1) _ t)) (rw (← one) e))

  answers : (more : Bool) → Goes more rest → (a : Answer Head) → header_of reading part 65535 65535 ≡ a → Answers reading (part ++ rest) (head_part more part a)
  unfolding head_part refused_part
  answers false g (done head) e = rw (g, append-nil part) e
  answers false g (refused number place) e =
      by_test (Answers reading (part ++ rest)) (eqb number 1 && leb 11 (length part)) (λ _. rw (g, append-nil part) e) (λ _. rw (g, append-nil part) e)
  answers true g (done head) e =
      by_test (Answers reading (part ++ rest)) (leb (length part) head.taken) (λ _. tt)
      (λ t. read_whole (rw (header_taken reading part 65535 65535 head e) (leb-false _ _ t)) ∙ e)
  answers true g (refused number place) e =
      by_test (Answers reading (part ++ rest)) (eqb number 1 && leb 11 (length part)) (wrong_whole number place e)
      (λ _. by_test (Answers reading (part ++ rest)) (not (ends_inside part)) (λ _. tt) (λ t. ended_whole (not-false _ t) ∙ e))

  module _ (more : Bool) (g : Goes more rest) where
    -- a header that is read in the part is the file's
    pub header_of_file : (head : Head) → HeadPromise reading part more (Some (Ok head)) → header_of reading (part ++ rest) 65535 65535 ≡ done head
    header_of_file head e = subst (Answers reading (part ++ rest)) (sym e) (answers more g _ refl)

    -- and one that is refused there is refused so in the file
    pub refusal_of_file : (r : Refusal) → HeadPromise reading part more (Some (Err r)) → header_of reading (part ++ rest) 65535 65535 ≡ refusal_of r
    refusal_of_file r e = subst (Answers reading (part ++ rest)) (sym e) (answers more g _ refl)
