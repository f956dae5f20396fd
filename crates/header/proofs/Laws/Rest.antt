-- Bytes behind a header change nothing: one that ends inside xs, and before the end of xs ++ ys, is the header of xs ++ zs too.
use Prim.{Unit}
use Prim.Native.Nat.{ℕ, ◌≤◌}
use mathlib.Core.Bool.{Bool, true, false, not}
use mathlib.Core.Logic.{inl, inr}
use mathlib.Core.List.{List, [], ◌∷◌, ◌++◌}
use mathlib.Core.Path.{◌≡◌, refl, ap, ◌∙◌}
use native.Mathlib.Omega.{arith}
use lib.ListN.{length}
use Rattle.steps.specs.Answer.{Answer, done, refused, refuse, Check, check, checked}
use Rattle.steps.specs.declared.Reading.{Reading}
use Rattle.steps.proofs.Laws.Answer.{differ}
use Rattle.words.specs.Lines.{line_feed, past, first_line, is_first, lines_end}
use Rattle.words.specs.Fields.{Fields, fields_at}
use Rattle.words.specs.Axes.{axes_of}
use Rattle.words.proofs.Laws.Lines.{past_from}
use Rattle.words.proofs.Laws.Rest.{Inside, spaces, past_rest, first_rest, wrong_rest, lines_from, lines_rest, spaces_from, spaces_rest, fields_rest}
use Rattle.stated.specs.declared.Said.{Said}
use Rattle.stated.specs.Said.{fault_of, heard_in}
use Rattle.stated.proofs.Laws.Lines.{LineFault, said_number, said_rest}
use Rattle.header.specs.declared.Head.{Head}
use Rattle.header.specs.Head.{fields_of, said_in, field_checks, head_checks, head_of, head_in, header_of}

-- ---- A header that ends inside xs

-- the place where the fields begin
abbrev pub fields_start : List ℕ → ℕ
fields_start bytes = lines_end bytes (past line_feed bytes 0)

-- and that where the last of them does
abbrev pub last_start : List ℕ → ℕ
last_start bytes = spaces 3 bytes (fields_start bytes)

pub taken_last : (bytes : List ℕ) → (fields_of bytes).taken ≡ past line_feed bytes (last_start bytes)
unfolding fields_of fields_at
taken_last bytes = refl

-- the answer goes by the first line, what the further lines say, and the fields
by_parts : (reading : Reading) (bytes bytes' : List ℕ) (widest highest : ℕ) → first_line bytes ≡ first_line bytes' → said_in reading bytes ≡ said_in reading bytes' → fields_of bytes ≡ fields_of bytes'
    → header_of reading bytes widest highest ≡ header_of reading bytes' widest highest
unfolding header_of head_checks
by_parts reading bytes bytes' widest highest line said fields =
    ap (λ (l : List ℕ). answer l (said_in reading bytes) (fields_of bytes)) line
    ∙ ap (λ (s : Answer Said). answer (first_line bytes') s (fields_of bytes)) said
    ∙ ap (answer (first_line bytes') (said_in reading bytes')) fields
  where
    answer : List ℕ → Answer Said → Fields → Answer Head
    answer l s f = checked refuse (check 1 (not (is_first l)) ∷ fault_of s ∷ field_checks reading (axes_of f.first f.third) f widest highest) (done (head_of reading (heard_in s) f))

module _ (xs ys zs : List ℕ) where
  line_inside : Inside (fields_start (xs ++ ys)) xs ys → Inside (past line_feed (xs ++ ys) 0) xs ys
  line_inside h = let from = lines_from (xs ++ ys) (past line_feed (xs ++ ys) 0) in (omega arith, omega arith)

  start_rest : Inside (fields_start (xs ++ ys)) xs ys → fields_start (xs ++ zs) ≡ fields_start (xs ++ ys)
  start_rest h = rw (past_rest xs ys zs line_feed 0 (line_inside h)) (lines_rest xs ys zs _ h)

  last_inside : Inside (last_start (xs ++ ys)) xs ys → Inside (fields_start (xs ++ ys)) xs ys
  last_inside h = let from = spaces_from 3 (xs ++ ys) (fields_start (xs ++ ys)) in (omega arith, omega arith)

  pub last_rest : Inside (last_start (xs ++ ys)) xs ys → last_start (xs ++ zs) ≡ last_start (xs ++ ys)
  last_rest h = rw (start_rest (last_inside h)) (spaces_rest xs ys zs 3 _ h)

  lines_say : (reading : Reading) → Inside (fields_start (xs ++ ys)) xs ys → said_in reading (xs ++ zs) ≡ said_in reading (xs ++ ys)
  unfolding said_in
  lines_say reading h = rw (past_rest xs ys zs line_feed 0 (line_inside h)) (said_rest xs ys zs reading _ h)

  pub header_rest : (reading : Reading) (widest highest : ℕ) → Inside (fields_of (xs ++ ys)).taken xs ys → header_of reading (xs ++ zs) widest highest ≡ header_of reading (xs ++ ys) widest highest
  unfolding fields_of
  header_rest reading widest highest h =
      let from = past_from line_feed (xs ++ ys) (last_start (xs ++ ys)) in
      let taken = taken_last (xs ++ ys) in
      let start = last_inside (omega arith, omega arith) in
      by_parts reading (xs ++ zs) (xs ++ ys) widest highest (first_rest xs ys zs (line_inside start)) (lines_say reading start) (rw (start_rest start) (fields_rest xs ys zs _ h))

-- ---- A first line that is wrong

-- no check of the list has the number n
abbrev Others : ℕ → List Check → Type 0
Others n [] = Unit {0}
Others n (check number fails ∷ checks) = (number ≡ n → ⊥) × Others n checks

module _ (n place : ℕ) (head : Head) where
  others : (checks : List Check) → Others n checks → checked refuse checks (done head) ≡ refused n place → ⊥
  others [] o e = differ head n place e
  others (check number true ∷ checks) o e = o.0 (cc)
  others (check number false ∷ checks) o e = others checks o.1 e

  by_first : (t : Bool) (checks : List Check) → Others n checks → checked refuse (check n (not t) ∷ checks) (done head) ≡ refused n place → (place ≡ 0) × (t ≡ false)
  by_first false checks o e = (cc, refl)
  by_first true checks o e = absurd (others checks o e)

-- a line at fault is no wrong first line
no_first : (a : Answer Said) (checks : List Check) → ((number place : ℕ) → a ≡ refused number place → LineFault number × (place ≡ 0)) → Others 1 checks → Others 1 (fault_of a ∷ checks)
no_first (done said) checks faults o = (λ e. omega arith, o)
no_first (refused number place) checks faults o = (not_one number (faults number place refl).0, o)
  where
    not_one : (number : ℕ) → LineFault number → number ≡ 1 → ⊥
    not_one number (inl is) e = omega arith
    not_one number (inr is) e = omega arith

-- eleven bytes are enough to know it
pub wrong_line : (reading : Reading) (xs zs : List ℕ) (widest highest place : ℕ) → 11 ≤ length xs → header_of reading xs widest highest ≡ refused 1 place
    → header_of reading (xs ++ zs) widest highest ≡ refused 1 place
unfolding header_of head_checks said_in
wrong_line reading xs zs widest highest place h e =
    let f = fields_of xs in
    let checks = field_checks reading (axes_of f.first f.third) f widest highest in
    let others = no_first (said_in reading xs) checks (said_number reading xs (past line_feed xs 0)) (λ z. omega arith, (λ z. omega arith, (λ z. omega arith, (λ z. omega arith, tt)))) in
    let wrong = by_first 1 place (head_in reading xs) (is_first (first_line xs)) (fault_of (said_in reading xs) ∷ checks) others e in
    simp (wrong_rest xs zs h wrong.1, wrong.0)
