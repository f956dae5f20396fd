-- A header that is written is read back, whatever stands after it: its sizes are answered, and exactly its bytes are taken.
use Prim.Native.Nat.{ℕ, zero, suc, ◌+◌, ◌-◌, ◌*◌, ◌/◌, ◌%◌, ◌^◌, ◌<◌, ◌≤◌}
use mathlib.Core.Bool.{Bool, true, false, false≢true}
use mathlib.Core.List.{List, [], ◌∷◌, ◌++◌, append_assoc}
use mathlib.Core.Path.{◌≡◌, refl, sym, ap, subst, ◌∙◌}
use native.Mathlib.Nat.{not-suc-le-zero}
use native.Mathlib.Omega.{arith}
use borrow.Author.Tests.{lt-ltb, lt-leb, leb-true, ltb-true, ltb-false}
use lib.ListN.{length, get_or, drop, length-append}
use lib.Seq.{take-append_seam}
use lib.Dec.{ltb, leb, lit<}
use Rattle.std.specs.Prelude.{Ok, Some}
use Rattle.steps.specs.Answer.{done}
use Rattle.steps.specs.declared.Reading.{Reading}
use Rattle.steps.specs.declared.Reading.TheVariants.{Crate, Document}
use Rattle.steps.proofs.Laws.Turns.{and_left, and_right}
use Rattle.steps.proofs.Laws.Place.{drop_past}
use Rattle.words.specs.Lines.{line_feed, space, up_to, past, between, same, is_first, lines_end}
use Rattle.words.specs.Fields.{is_blank, trim_start, trim_end, trim}
use Rattle.words.specs.Axes.{minus_y, plus_x, upright, axis_of, axes_of}
use Rattle.words.specs.Sizes.{is_digit, all_digits, value_from, is_number, is_some, is_size, size_of}
use Rattle.words.specs.Inner.{size_answer}
use Rattle.words.specs.declared.axes.Orientation.{Orientation}
use Rattle.stated.specs.declared.Colour.TheVariants.{Rgbe}
use Rattle.stated.specs.Said.{nothing, coloured, starts, formatted, heard, said_of, said_by}
use Rattle.stated.proofs.Laws.Said.{place}
use Rattle.stated.proofs.Laws.Lines.{said_on, said_blank}
use Rattle.header.specs.Head.{takes, lies_by, limit, head, header_of}
use Rattle.header.specs.Written.{digits, written, written_said}
use Rattle.words.proofs.Laws.Lines.{up_to_found, up_to_on, lines_start, lines_on, lines_blank}
use Rattle.words.proofs.Laws.Fields.{blank_by, blank_space, end_by}
use Rattle.words.proofs.Laws.Sizes.{digit, unsigned_plain}
use Rattle.header.proofs.Laws.Head.{sizes_read, fields_read, header_right}
use Rattle.header.proofs.Laws.Written.{digits_one, digits_more, written_length}

-- ---- A field where it stands

-- reading up to the byte b takes these bytes, whatever stands after them
abbrev Ended : ℕ → List ℕ → Type 0
Ended b field = (after : List ℕ) → up_to b (field ++ after) ≡ length field

module _ (bytes : List ℕ) (at : ℕ) (field after : List ℕ) (here : drop at bytes ≡ field ++ after) where
  past_there : (b : ℕ) → Ended b field → at + length field ≡ past b bytes at
  unfolding past
  past_there b ended = ap (λ (n : ℕ). at + n) (sym (ended after)) ∙ ap (λ (l : List ℕ). at + up_to b l) (sym here)

  between_there : between bytes at (at + length field) ≡ field
  between_there =
      let size : at + length field - at ≡ length field = omega arith in
      rw (size, here) (take-append_seam field after)

-- ---- The digits of a number

-- what holds of one digit, and of digits with one more after them, holds of the digits of every number
by_digits : (P : ℕ → List ℕ → Type 0) → ((n : ℕ) → n < 10 → P n ((48 + n) ∷ [])) → ((n : ℕ) (xs : List ℕ) → 10 ≤ n → P (n / 10) xs → P n (xs ++ (48 + n % 10) ∷ []))
    → (k n : ℕ) → n < k → P n (digits n)
by_digits P one more zero n h = absurd (not-suc-le-zero h)
by_digits P one more (suc k) n h = by_case (λ l. by_digits P one more k (n / 10) l) (ltb n 10) refl
  where
    by_case : (n / 10 < k → P (n / 10) (digits (n / 10))) → (t : Bool) → ltb n 10 ≡ t → P n (digits n)
    by_case rec true e = let l = ltb-true n 10 e in subst (P n) (sym (digits_one n l)) (one n l)
    by_case rec false e =
        let l = ltb-false n 10 e in
        subst (P n) (sym (digits_more n l)) (more n (digits (n / 10)) l (rec (omega arith)))

-- one digit or more, which stand for n, and the last is no white space
record Digits (n : ℕ) (xs : List ℕ) : Type 0 where
  some : is_some xs ≡ true
  all : all_digits xs ≡ true
  value : value_from 0 xs ≡ n
  trimmed : trim_end xs ≡ xs

some_more : (xs : List ℕ) (x : ℕ) → is_some (xs ++ x ∷ []) ≡ true
some_more [] x = refl
some_more (y ∷ ys) x = refl

all_more : (xs : List ℕ) (x : ℕ) → all_digits xs ≡ true → is_digit x ≡ true → all_digits (xs ++ x ∷ []) ≡ true
unfolding all_digits
all_more [] x e d = simp d
all_more (y ∷ ys) x e d = simp (and_left (is_digit y) (all_digits ys) e) (all_more ys x (and_right (is_digit y) (all_digits ys) e) d)

value_more : (n : ℕ) (xs : List ℕ) (x : ℕ) → value_from n (xs ++ x ∷ []) ≡ value_from n xs * 10 + (x - 48)
unfolding value_from
value_more n [] x = refl
value_more n (y ∷ ys) x = value_more (n * 10 + (y - 48)) ys x

from_48 : (x : ℕ) → is_digit x ≡ true → 48 ≤ x
unfolding is_digit
from_48 x e = leb-true 48 x (and_left (leb 48 x) (leb x 57) e)

no_blank : (x : ℕ) → 48 ≤ x → false ≡ is_blank x
no_blank x h = sym (lt-leb x 13 (omega arith)) ∙ blank_by x (omega arith) (λ e. omega arith)

trimmed_more : (xs : List ℕ) (x : ℕ) → 48 ≤ x → trim_end (xs ++ x ∷ []) ≡ xs ++ x ∷ []
trimmed_more xs x h = end_by xs x false (no_blank x h)

one_digit : (n : ℕ) → n < 10 → Digits n ((48 + n) ∷ [])
unfolding all_digits value_from
one_digit n h = record {
  some = refl;
  all = all_more [] (48 + n) refl (digit (48 + n) (omega arith) (omega arith));
  value = let e : 0 * 10 + (48 + n - 48) ≡ n = omega arith in e;
  trimmed = trimmed_more [] (48 + n) (omega arith);
}

digit_more : (n : ℕ) (xs : List ℕ) → 10 ≤ n → Digits (n / 10) xs → Digits n (xs ++ (48 + n % 10) ∷ [])
digit_more n xs h d = record {
  some = some_more xs (48 + n % 10);
  all = all_more xs (48 + n % 10) d.all (digit (48 + n % 10) (omega arith) (omega arith));
  value = let v = d.value in value_more 0 xs (48 + n % 10) ∙ omega arith;
  trimmed = trimmed_more xs (48 + n % 10) (omega arith);
}

digits_are : (n : ℕ) → Digits n (digits n)
digits_are n = by_digits Digits one_digit digit_more (suc n) n (omega arith)

-- ---- A field of digits, ended by a space or a line feed

start_there : (xs ys : List ℕ) → is_some xs ≡ true → all_digits xs ≡ true → trim_start (xs ++ ys) ≡ xs ++ ys
unfolding trim_start all_digits
start_there [] ys e d = absurd (false≢true e)
start_there (x ∷ xs) ys e d = simp (sym (no_blank x (from_48 x (and_left (is_digit x) (all_digits xs) d))))

trimmed_there : (n : ℕ) (xs : List ℕ) (b : ℕ) → true ≡ is_blank b → Digits n xs → trim (xs ++ b ∷ []) ≡ xs
trimmed_there n xs b e d = ap trim_end (start_there xs (b ∷ []) d.some d.all) ∙ end_by xs b true e ∙ d.trimmed

ended_there : (xs : List ℕ) (b : ℕ) → b < 48 → all_digits xs ≡ true → Ended b (xs ++ b ∷ [])
unfolding all_digits
ended_there [] b h d after = up_to_found b b after refl
ended_there (x ∷ xs) b h d after =
    let k = from_48 x (and_left (is_digit x) (all_digits xs) d) in
    let others = ended_there xs b h (and_right (is_digit x) (all_digits xs) d) after in
    omega (arith, up_to_on b x ((xs ++ b ∷ []) ++ after) (λ e. omega arith))

first_no_plus : (xs : List ℕ) → all_digits xs ≡ true → get_or xs 0 0 ≡ 43 → ⊥
unfolding all_digits
first_no_plus [] d e = omega arith
first_no_plus (x ∷ xs) d e = let k = from_48 x (and_left (is_digit x) (all_digits xs) d) in let f : x ≡ 43 = e in omega arith

size_there : (n : ℕ) (xs : List ℕ) → n < 2 ^ 64 → Digits n xs → Some n ≡ size_answer xs
unfolding size_answer is_size size_of is_number
size_there n xs h d = rw (← unsigned_plain xs (λ l. first_no_plus xs d.all)) (simp (d.some, d.all, d.value, lt-ltb n (2 ^ 64) h))

feed_blank : true ≡ is_blank line_feed
unfolding is_blank
feed_blank = refl

-- ---- The whole header

module _ (w h : ℕ) (rest : List ℕ) where
  abbrev bytes : List ℕ
  bytes = written w h ++ rest

  abbrev first : List ℕ
  first = minus_y ++ space ∷ []

  abbrev second : List ℕ
  second = digits h ++ space ∷ []

  abbrev third : List ℕ
  third = plus_x ++ space ∷ []

  abbrev fourth : List ℕ
  fourth = digits w ++ line_feed ∷ []

  first_line : 11 ≡ past line_feed bytes 0
  unfolding written past up_to
  first_line = refl

  is_first_lem : true ≡ is_first (between bytes 0 11)
  unfolding written is_first same
  is_first_lem = refl

  second_line : 29 ≡ past line_feed bytes 11
  unfolding written past up_to
  second_line = refl

  third_line : 52 ≡ past line_feed bytes 29
  unfolding written past up_to
  third_line = refl

  starts_with : (get_or bytes 11 0 ≡ 83) × (get_or bytes 29 0 ≡ 70) × (get_or bytes 52 0 ≡ line_feed)
  unfolding written
  starts_with = (refl, refl, refl)

  lines_there : 53 ≡ lines_end bytes 11
  lines_there =
      let long : 61 ≤ length bytes = omega (arith, length-append (written w h) rest, written_length w h) in
      let at = starts_with in
      let one = lines_on bytes 11 _ (lines_start bytes 11) (omega arith) 29 (λ e. omega arith) second_line in
      let two = lines_on bytes 29 _ one (omega arith) 52 (λ e. omega arith) third_line in
      lines_blank bytes 52 _ two (omega arith) at.2

  -- and what they say
  lines_say : (heard nothing (between bytes 11 29) ≡ done nothing) × (heard nothing (between bytes 29 52) ≡ done (coloured nothing Rgbe))
  unfolding written heard starts same formatted trim_start trim_end is_blank
  lines_say = (refl, refl)

  said_there : (reading : Reading) → said_by reading bytes 11 ≡ done (written_said reading)
  unfolding said_of
  said_there Crate = refl
  said_there Document =
      let long : 61 ≤ length bytes = omega (arith, length-append (written w h) rest, written_length w h) in
      let at = starts_with in
      said_on bytes (place 11 nothing) (omega arith) 29 nothing (λ e. omega arith) second_line lines_say.0
      ∙ said_on bytes (place 29 nothing) (omega arith) 52 (coloured nothing Rgbe) (λ e. omega arith) third_line lines_say.1
      ∙ said_blank bytes (place 52 (coloured nothing Rgbe)) (omega arith) at.2

  fields_there : drop 53 bytes ≡ first ++ (second ++ (third ++ (fourth ++ rest)))
  unfolding written
  fields_there = simp append_assoc

  axes_fields : (Ended space first) × (Ended space third) × (trim first ≡ minus_y) × (trim third ≡ plus_x) × (Some upright ≡ axes_of minus_y plus_x)
  unfolding up_to trim_start trim_end is_blank same axis_of axes_of
  axes_fields = (λ after. refl, λ after. refl, refl, refl, refl)

  taken_there : 53 + length first + length second + length third + length fourth ≡ length (written w h)
  taken_there = omega (arith, written_length w h, length-append (digits h) (space ∷ []), length-append (digits w) (line_feed ∷ []))

  upright_taken : (reading : Reading) → true ≡ takes reading upright
  upright_taken Crate = refl
  upright_taken Document = refl

  upright_lies : (reading : Reading) → upright ≡ lies_by reading upright
  upright_lies Crate = refl
  upright_lies Document = refl

  -- the written header, with any bytes after it, is read within the limits
  pub header_back : (reading : Reading) (widest highest : ℕ) → w ≤ limit widest → h ≤ limit highest
      → header_of reading bytes widest highest ≡ done (head (written_said reading) upright w h (length (written w h)))
  header_back reading widest highest wide high =
      let W = digits_are w in
      let H = digits_are h in
      let A = axes_fields in
      let height : Some h ≡ size_answer (digits h) = size_there h (digits h) (omega arith) H in
      let width : Some w ≡ size_answer (digits w) = size_there w (digits w) (omega arith) W in
      let a : ℕ = 53 + length first in
      let b : ℕ = a + length second in
      let c : ℕ = b + length third in
      let d : ℕ = c + length fourth in
      let e1 = fields_there in
      let e2 = drop_past bytes 53 first _ e1 in
      let e3 = drop_past bytes a second _ e2 in
      let e4 = drop_past bytes b third _ e3 in
      let fields = fields_read bytes 53 a b c d
      (past_there bytes 53 first _ e1 space A.0)
      (past_there bytes a second _ e2 space (ended_there (digits h) space (lit< tt) H.all))
      (past_there bytes b third _ e3 space A.1)
      (past_there bytes c fourth _ e4 line_feed (ended_there (digits w) line_feed (lit< tt) W.all))
      minus_y (digits h) plus_x (digits w)
      (sym (ap trim (between_there bytes 53 first _ e1) ∙ A.2))
      (sym (ap trim (between_there bytes a second _ e2) ∙ trimmed_there h (digits h) space (blank_space space refl) H))
      (sym (ap trim (between_there bytes b third _ e3) ∙ A.3))
      (sym (ap trim (between_there bytes c fourth _ e4) ∙ trimmed_there w (digits w) line_feed feed_blank W))
      reading (written_said reading) widest highest (Some upright) A.4 upright refl (sym (upright_taken reading)) (digits h) (digits w) refl refl w h
      (sym (sizes_read (digits h) (digits w) widest highest h (sym height) w (sym width) (limit highest) refl high (limit widest) refl wide)) in
      header_right reading bytes widest highest 11 first_line true is_first_lem refl (Ok (written_said reading)) (sym (said_there reading)) (written_said reading) 53 refl lines_there
      ∙ fields ∙ ap (λ (o : Orientation). done (head (written_said reading) o w h d)) (sym (upright_lies reading)) ∙ ap (λ (n : ℕ). done (head (written_said reading) upright w h n)) taken_there
