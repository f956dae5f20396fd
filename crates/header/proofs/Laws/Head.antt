-- The laws that proofs use of `specs/Head.antt`, and that two answers which meet the promise of `header::read` are equal.
use Prim.Native.Nat.{ℕ, ◌-◌, ◌<◌, ◌≤◌, min}
use mathlib.Core.Bool.{Bool, true, false, ◌&&◌}
use mathlib.Core.List.{List, ◌∷◌}
use mathlib.Core.Path.{◌≡◌, refl, sym, ap, subst, ◌∙◌}
use native.Mathlib.Omega.{arith}
use borrow.Author.Tests.{lt-ltb, le-ltb, ltb-false}
use lib.ListN.{length, take}
use Rattle.std.specs.Prelude.{Option, Some, None, Result, Ok, Err}
use Rattle.std.proofs.lemmas.Option.{none-some}
use Rattle.steps.specs.Loop.{pick}
use Rattle.steps.specs.Answer.{Answer, refuse, refused, done, Check, checked}
use Rattle.steps.specs.Refusal.{reason_number}
use Rattle.steps.specs.declared.refusal.Reason.{Reason}
use Rattle.steps.specs.declared.refusal.Refusal.{Refusal}
use Rattle.steps.specs.declared.Reading.{Reading}
use Rattle.steps.specs.declared.Reading.TheVariants.{Crate}
use Rattle.steps.proofs.Laws.Answer.{Passed, passed, pass, failed, one_answer}
use Rattle.words.specs.Lines.{line_feed, space, past, between, first_line, is_first, lines_end}
use Rattle.words.specs.Fields.{Fields, trim, fields_at}
use Rattle.words.specs.Axes.{upright, axes_of}
use Rattle.words.specs.Sizes.{size_of, is_size}
use Rattle.words.specs.Inner.{size_answer}
use Rattle.words.proofs.Laws.Lines.{past_within, lines_within}
use Rattle.stated.specs.declared.Said.{Said}
use Rattle.stated.specs.Said as stated
use Rattle.stated.specs.Said.{said_by, fault_of}
use Rattle.header.specs.Head.{takes, lies_by, orientation_of, head, head_by, fields_of, height_field, width_field, is_other, said_in, size_checks, field_checks, head_of, head_in, head_checks, header_of, HeaderPromise}
use Rattle.header.specs.Inner.{sizes_answer, fields_answer}
use Rattle.words.specs.declared.axes.Orientation.{Orientation}
use Rattle.stated.proofs.Laws.Usable.{Above, said_above}
use Rattle.header.specs.declared.Head.{Head}

-- ---- What a size's answer tells

tells : (field : List ℕ) (t : Bool) → is_size field ≡ t → size_answer field ≡ pick t (Some (size_of field)) None
unfolding size_answer
tells field t e = simp e

size_is : (field : List ℕ) (k : ℕ) → size_answer field ≡ Some k → (is_size field ≡ true) × (size_of field ≡ k)
size_is field k h = go (is_size field) refl
  where
    go : (t : Bool) → is_size field ≡ t → (is_size field ≡ true) × (size_of field ≡ k)
    go true e = let same : Some k ≡ Some (size_of field) = sym h ∙ tells field true e in (e, cc)
    go false e = absurd (none-some k (sym (tells field false e) ∙ h))

no_size : (field : List ℕ) → size_answer field ≡ None → is_size field ≡ false
no_size field h = go (is_size field) refl
  where
    go : (t : Bool) → is_size field ≡ t → is_size field ≡ false
    go true e = absurd (none-some (size_of field) (sym h ∙ tells field true e))
    go false e = e

-- ---- The sizes

module _ (height width : List ℕ) (widest highest : ℕ) where
  pub sizes_no_height : size_answer height ≡ None → refuse 3 ≡ sizes_answer height width widest highest
  unfolding sizes_answer
  sizes_no_height n = simp (no_size height n)

  module _ (h : ℕ) (eh : size_answer height ≡ Some h) where
    pub sizes_no_width : size_answer width ≡ None → refuse 3 ≡ sizes_answer height width widest highest
    unfolding sizes_answer
    sizes_no_width n = simp ((size_is height h eh).0, no_size width n)

    module _ (w : ℕ) (ew : size_answer width ≡ Some w) where
      both : is_size height && is_size width ≡ true
      both = simp ((size_is height h eh).0, (size_is width w ew).0)

      pub sizes_high : (l : ℕ) → l ≡ min highest 65535 → l < h → refuse 4 ≡ sizes_answer height width widest highest
      unfolding sizes_answer
      sizes_high l el over = let k : min highest 65535 < h = rw (← el) over in simp (both, (size_is height h eh).1, lt-ltb (min highest 65535) h k)

      module _ (l : ℕ) (el : l ≡ min highest 65535) (fits : h ≤ l) (m : ℕ) (em : m ≡ min widest 65535) where
        pub sizes_wide : m < w → refuse 5 ≡ sizes_answer height width widest highest
        unfolding sizes_answer
        sizes_wide over =
            let i : h ≤ min highest 65535 = rw (← el) fits in
            let k : min widest 65535 < w = rw (← em) over in
            simp (both, (size_is height h eh).1, (size_is width w ew).1, le-ltb (min highest 65535) h i, lt-ltb (min widest 65535) w k)

        pub sizes_read : w ≤ m → done (w, h) ≡ sizes_answer height width widest highest
        unfolding sizes_answer
        sizes_read under =
            let i : h ≤ min highest 65535 = rw (← el) fits in
            let k : w ≤ min widest 65535 = rw (← em) under in
            simp (both, (size_is height h eh).1, (size_is width w ew).1, le-ltb (min highest 65535) h i, le-ltb (min widest 65535) w k)

-- ---- The four fields, where a, b, c and d are the places after them

module _ (bytes : List ℕ) (at a b c d : ℕ) (ea : a ≡ past space bytes at) (eb : b ≡ past space bytes a) (ec : c ≡ past space bytes b) (ed : d ≡ past line_feed bytes c)
    (first second third fourth : List ℕ)
    (e1 : first ≡ trim (between bytes at a)) (e2 : second ≡ trim (between bytes a b)) (e3 : third ≡ trim (between bytes b c)) (e4 : fourth ≡ trim (between bytes c d)) where
  fields : Fields
  fields = record { first = first; second = second; third = third; fourth = fourth; taken = d }

  fields_are : fields_at bytes at ≡ fields
  unfolding fields_at fields
  fields_are = simp (← ea, ← eb, ← ec, ← ed, ← e1, ← e2, ← e3, ← e4)

  module _ (reading : Reading) (said : Said) (widest highest : ℕ) where
    module _ (axes : Option Orientation) (is : axes ≡ axes_of first third) where
      by_axes : fields_answer reading said (fields_at bytes at) widest highest
          ≡ checked refuse (field_checks reading axes fields widest highest) (done (head said (orientation_of reading axes) (size_of (width_field axes fields)) (size_of (height_field axes fields)) d))
      unfolding fields_answer head_of fields
      by_axes = rw fields_are (simp (← is))

      -- the axes are judged before the sizes
      answer_by : fields_answer reading said (fields_at bytes at) widest highest
          ≡ pick (is_other reading axes) (refuse 2)
          (checked refuse (size_checks (height_field axes fields) (width_field axes fields) widest highest) (done (head_by said (orientation_of reading axes) (height_field axes fields) (width_field axes fields) d)))
      unfolding fields_answer head_of fields
      answer_by = rw fields_are (simp (← is))

      pub fields_none : axes ≡ None → refuse 2 ≡ fields_answer reading said (fields_at bytes at) widest highest
      fields_none k = sym (by_axes ∙ simp k)

      module _ (o : Orientation) (k : axes ≡ Some o) where
        pub fields_other : takes reading o ≡ false → refuse 2 ≡ fields_answer reading said (fields_at bytes at) widest highest
        fields_other t = sym (by_axes ∙ rw k (simp t))

        module _ (t : takes reading o ≡ true) (height width : List ℕ) (eh : height ≡ pick o.columns fourth second) (ew : width ≡ pick o.columns second fourth) where
          by_sizes : fields_answer reading said (fields_at bytes at) widest highest ≡ checked refuse (size_checks height width widest highest) (done (head said (lies_by reading o) (size_of width) (size_of height) d))
          unfolding fields
          by_sizes = by_axes ∙ rw (k, eh, ew) (simp t)

          pub fields_fault : (number place : ℕ) → sizes_answer height width widest highest ≡ refused number place → fields_answer reading said (fields_at bytes at) widest highest ≡ refused number place
          unfolding sizes_answer
          fields_fault number place e =
              let f = failed refuse (size_checks height width widest highest) (size_of width, size_of height) (done (head said (lies_by reading o) (size_of width) (size_of height) d)) number place e in
              by_sizes ∙ f.1 ∙ ap (refused number) (sym f.0)

          pub fields_read : (w h : ℕ) → sizes_answer height width widest highest ≡ done (w, h) → fields_answer reading said (fields_at bytes at) widest highest ≡ done (head said (lies_by reading o) w h d)
          unfolding sizes_answer
          fields_read w h e =
              let p = passed (size_checks height width widest highest) (size_of width, size_of height) (w, h) e in
              by_sizes ∙ pass refuse (size_checks height width widest highest) (done (head said (lies_by reading o) (size_of width) (size_of height) d)) p.0
              ∙ ap (λ (z : ℕ × ℕ). done (head said (lies_by reading o) z.0 z.1 d)) p.1

-- ---- The whole header

module _ (reading : Reading) (bytes : List ℕ) (widest highest at : ℕ) (ea : at ≡ past line_feed bytes 0) (t : Bool) (is : t ≡ is_first (take at bytes)) where
  first_is : is_first (first_line bytes) ≡ t
  first_is =
      let none : at - 0 ≡ at = omega arith in
      ap (λ (n : ℕ). is_first (between bytes 0 n)) (sym ea) ∙ ap (λ (n : ℕ). is_first (take n bytes)) none ∙ sym is

  pub header_wrong : t ≡ false → refuse 1 ≡ header_of reading bytes widest highest
  unfolding header_of head_checks
  header_wrong k = simp (first_is, k)

  module _ (k : t ≡ true) (s : Result Said Reason) (es : stated.paper_of s ≡ said_by reading bytes at) where
    said_is : said_in reading bytes ≡ stated.paper_of s
    unfolding said_in
    said_is = ap (said_by reading bytes) (sym ea) ∙ sym es

    pub header_fault : (reason : Reason) → s ≡ Err reason → refuse (reason_number reason) ≡ header_of reading bytes widest highest
    unfolding header_of head_checks
    header_fault reason l = simp (first_is, k, said_is, l)

    pub header_right : (said : Said) (end : ℕ) → s ≡ Ok said → end ≡ lines_end bytes at → header_of reading bytes widest highest ≡ fields_answer reading said (fields_at bytes end) widest highest
    unfolding header_of head_checks fields_answer fields_of
    header_right said end l m = rw (m, ea) (simp (first_is, k, said_is, l))

-- ---- One answer

pub header_once : (reading : Reading) (bytes : List ℕ) (widest highest : ℕ) (a b : Result Head Refusal) → HeaderPromise reading bytes widest highest a → HeaderPromise reading bytes widest highest b → a ≡ b
header_once reading bytes widest highest a b p q = one_answer a b (p ∙ sym q)

-- ---- A header that is read is within the limits

-- the checks behind that of the lines
passed_lines : (a : Answer Said) (checks : List Check) → Passed (fault_of a ∷ checks) → Passed checks
passed_lines (done said) checks p = p.1
passed_lines (refused number place) checks p = p.1

module _ (reading : Reading) (bytes : List ℕ) (widest highest : ℕ) (head : Head) (e : header_of reading bytes widest highest ≡ done head) where
  pub header_passed : Passed (head_checks reading bytes widest highest) × (head_in reading bytes ≡ head)
  unfolding header_of
  header_passed = passed (head_checks reading bytes widest highest) (head_in reading bytes) head e

  pub header_limits : (head.width ≤ 65535) × (head.height ≤ 65535)
  unfolding head_checks head_of
  header_limits =
      let f = fields_of bytes in
      let axes = axes_of f.first f.third in
      let both = header_passed in
      let sizes = passed_lines (said_in reading bytes) (field_checks reading axes f widest highest) both.0.1 in
      let high : size_of (height_field axes f) ≤ min highest 65535 = ltb-false _ _ sizes.1.1.0 in
      let wide : size_of (width_field axes f) ≤ min widest 65535 = ltb-false _ _ sizes.1.1.1.0 in
      (subst (λ (x : Head). x.width ≤ 65535) both.1 (omega arith), subst (λ (x : Head). x.height ≤ 65535) both.1 (omega arith))

  -- by the crate reading its rows lie upright
  pub header_upright : reading ≡ Crate → head.orientation ≡ upright
  unfolding head_of
  header_upright k = sym (ap (λ (x : Head). x.orientation) header_passed.1) ∙ rw k (lies_upright (axes_of (fields_of bytes).first (fields_of bytes).third))
    where
      lies_upright : (axes : Option Orientation) → orientation_of Crate axes ≡ upright
      lies_upright (Some o) = refl
      lies_upright None = refl

  -- the exposure that it states is above zero
  pub header_above : Above head.exposure
  unfolding head_of said_in
  header_above = subst (λ (h : Head). Above h.exposure) header_passed.1 (said_above reading bytes (past line_feed bytes 0))

-- ---- and lies in the bytes

taken_within : (bytes : List ℕ) → (fields_of bytes).taken ≤ length bytes
unfolding fields_of fields_at
taken_within bytes =
    past_within line_feed bytes _ (past_within space bytes _ (past_within space bytes _ (past_within space bytes _ (lines_within bytes _ (past_within line_feed bytes 0 (omega arith))))))

module _ (reading : Reading) (bytes : List ℕ) (widest highest : ℕ) (head : Head) (e : header_of reading bytes widest highest ≡ done head) where
  pub header_taken : (fields_of bytes).taken ≡ head.taken
  unfolding head_of
  header_taken = ap (λ (h : Head). h.taken) (header_passed reading bytes widest highest head e).1

  pub header_within : head.taken ≤ length bytes
  header_within = rw (← header_taken) (taken_within bytes)
