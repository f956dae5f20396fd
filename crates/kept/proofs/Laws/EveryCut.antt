-- By the document reading every cut is refused: by 9, in the row in which it lies, with the rows before it in the output.
use Prim.Native.Nat.{ℕ, ◌+◌, ◌*◌, ◌<◌, ◌≤◌}
use mathlib.Core.Bool.{Bool, true, false}
use mathlib.Core.List.{List}
use mathlib.Core.Path.{◌≡◌, refl, sym, ap, subst, ◌∙◌}
use native.Mathlib.Omega.{arith}
use borrow.Author.Tests.{ltb-false, eqb-true, eqb-false}
use lib.Dec.{eqb}
use lib.Ieee.{Float}
use lib.ListN.{length, take}
use lib.Seq.{length-take-le, take-take}
use Rattle.std.specs.Prelude.{Ok}
use Rattle.steps.specs.Answer.{Answer, done, refused, refuse}
use Rattle.steps.proofs.Laws.Answer.{pass}
use Rattle.steps.proofs.Laws.Order.{by_order}
use Rattle.steps.proofs.Laws.Taken.{never_both}
use Rattle.steps.specs.Answer.{Taken}
use Rattle.std.specs.Prelude.{Ok}
use Rattle.steps.specs.declared.Reading.TheVariants.{Document}
use Rattle.header.specs.declared.Head.{Head}
use Rattle.header.specs.Head.{header_of}
use Rattle.rows_read.specs.Row.{document_row}
use Rattle.rows_read.specs.Middle.{Alike, Rests}
use Rattle.rows_read.proofs.Laws.Bounds.{reading_sound}
use Rattle.rows_read.proofs.Laws.Behind.{reading_alone, reading_past}
use Rattle.pixel.specs.Rgbe.{rgbe_at}
use Rattle.places.specs.Places.{Stored}
use Rattle.reader.specs.Frame.{stored_of, cleared, Left, rows_of}
use Rattle.reader.specs.Read.{frame_checks, framed, document_pixel, read_of}
use Rattle.reader.specs.Inner.{frame_answer}
use Rattle.reader.proofs.Laws.Read.{read_frame}
use Rattle.kept.specs.Lent.{before, row_at, RowsRead, RowsLeft}
use Rattle.kept.specs.Cut.{CutIn, RefusedIn, EveryCut}
use Rattle.kept.proofs.Laws.Done.{refused_done, FileRead, file_read}
use Rattle.kept.proofs.Laws.Lent.{stored_apart, stored_inside, rows_left}
use Rattle.kept.proofs.Laws.Starts.{start_within, starts_same, rows_same}
use Rattle.kept.proofs.Laws.Alone.{Firm, rows_alone, header_alone, rows_there, taken_there}

module _ (bytes : List ℕ) (m : ℕ) (short : m ≤ length bytes) where
  abbrev cut : List ℕ
  cut = take m bytes

  cut_long : length cut ≡ m
  cut_long = length-take-le m bytes short

  -- what the whole file and its beginning share
  to_cut : Alike m bytes cut
  to_cut = (short, omega (arith, cut_long), take-take m m bytes (omega arith))

  to_whole : Alike m cut bytes
  to_whole = (omega (arith, cut_long), short, sym (take-take m m bytes (omega arith)))

module _ (bytes : List ℕ) (m widest highest : ℕ) (out out' : List Float) (store store' : List ℕ) (head : Head)
    (f : FileRead Document document_row document_pixel bytes widest highest out store head out' store') (holds : f.own.taken ≤ m) (shorter : m < head.taken) where
  abbrev own : Head
  own = f.own

  abbrev stored : Stored
  stored = stored_of own

  abbrev begun : List ℕ
  begun = cleared stored.long store

  abbrev begin : List ℕ
  begin = take m bytes

  there : (own.taken ≤ head.taken) × (head.taken ≤ length bytes)
  there = taken_there Document bytes widest highest out out' store store' head f

  short : m ≤ length bytes
  short = omega (arith, there.1)

  long : length begin ≡ m
  long = cut_long bytes m short

  -- the rows of the beginning
  abbrev rows : Left
  rows = rows_of document_row document_pixel begin stored own.taken out begun

  abbrev start : List ℕ → ℕ → ℕ
  start b k = (before document_row b stored.long own.taken begun k).0

  abbrev row : List ℕ → ℕ → Taken × List ℕ
  row b k = row_at document_row b stored.long own.taken begun k

  -- an answer that rests on the bytes that are left would be that of the whole file
  same_rows : Firm 0 (length begin) m rows.0 → rows_of document_row document_pixel bytes stored own.taken out begun ≡ rows
  same_rows firm =
      rows_alone 0 document_row document_pixel (reading_alone Document) (reading_past Document) begin bytes m (to_whole bytes m short) stored own.taken out begun firm

  room : own.height * (3 * own.width) ≤ length out
  room = ltb-false (length out) _ f.checks.0

  left : RowsLeft document_row document_pixel begin stored own.taken out begun rows.0 rows.1 rows.2
  left = rows_left document_row document_pixel begin stored own.taken begun (stored_apart own) out (stored_inside own (length out) room)

  within : (k : ℕ) → start begin k ≤ m
  within k = omega (arith, long, (start_within document_row (reading_sound Document) begin stored.long own.taken begun (omega (arith, long)) k).1)

  -- ---- The row at fault

  module _ (k : ℕ) (o : List Float) (s : List ℕ) (at-fault : RowsLeft document_row document_pixel begin stored own.taken out begun (refused 9 k) o s) where
    done_rows : (j : ℕ) → j < k → Rests 0 (length begin) m (row begin j).0
    done_rows j h = subst (Rests 0 (length begin) m) (sym (at-fault.1.read j h)) (within (j + 1), omega (arith, long, within (j + 1)))

    starts : (j : ℕ) → j ≤ k → before document_row bytes stored.long own.taken begun j ≡ before document_row begin stored.long own.taken begun j
    starts j h =
        starts_same document_row (reading_alone Document) begin bytes m (to_whole bytes m short) stored.long own.taken begun j (λ i l. done_rows i (omega arith))

    rows_are : (j : ℕ) → j < k → row bytes j ≡ row begin j
    rows_are j h = rows_same document_row (reading_alone Document) begin bytes m (to_whole bytes m short) stored.long own.taken begun k done_rows j h

    -- the row k of the whole file is done, and ends behind the cut
    whole_row : (row bytes k).0 ≡ Ok (start bytes (k + 1))
    whole_row = (rows_there Document bytes widest highest out out' store store' head f).0.read k at-fault.0

    ends_behind : m < start bytes (k + 1)
    ends_behind =
        by_order m (start bytes (k + 1)) (λ h. h)
        (λ h. let rests : Rests 0 (length bytes) m (row bytes k).0 = subst (Rests 0 (length bytes) m) (sym whole_row) (h, omega (arith, short)) in
        let same = reading_alone Document bytes begin m (before document_row bytes stored.long own.taken begun k).0 (before document_row bytes stored.long own.taken begun k).1 stored.long (to_cut bytes m short) rests in
        let here : row begin k ≡ row bytes k = ap (λ (z : ℕ × List ℕ). document_row begin z.0 z.1 stored.long) (sym (starts k (omega arith))) ∙ same in
        never_both (start bytes (k + 1)) at-fault.2.0 (sym whole_row ∙ sym (ap (λ (z : Taken × List ℕ). z.0) here) ∙ sym (ap (λ (z : Taken × List ℕ). z.0) at-fault.2.2)))

    in_row : CutIn bytes own store m k
    in_row = record {
      row = at-fault.0;
      from = subst (λ (z : ℕ × List ℕ). z.0 ≤ m) (sym (starts k (omega arith))) (within k);
      behind = ends_behind;
    }

    -- the rows before it are those of the whole file
    stand : RowsRead document_row document_pixel bytes stored own.taken begun k out o
    stand = record {
      read = λ j h. ap (λ (z : Taken × List ℕ). z.0) (rows_are j h) ∙ at-fault.1.read j h ∙ ap (λ (z : ℕ × List ℕ). Ok z.0) (sym (starts (j + 1) (omega arith)));
      stand = record {
        rows = λ j i h l. at-fault.1.stand.rows j i h l ∙ ap (λ (z : Taken × List ℕ). document_pixel (rgbe_at z.1 (4 * i))) (sym (rows_are j h));
        rest = at-fault.1.stand.rest;
        size = at-fault.1.stand.size;
      };
    }

  -- ---- The answer

  header_there : header_of Document begin widest highest ≡ done own
  header_there = header_alone Document bytes begin m widest highest own (to_cut bytes m short) f.header (holds, omega (arith, there.1))

  answered : read_of Document begin widest highest out store ≡ framed own rows
  unfolding frame_answer
  answered =
      sym (read_frame Document document_row document_pixel begin widest highest out store (done own) (sym header_there) own _ refl refl) ∙ pass (λ n. (refuse n, out, store)) (frame_checks own out store) (framed own rows) f.checks

  abbrev Ended : Left → Type 0
  Ended z = RowsLeft document_row document_pixel begin stored own.taken out begun z.0 z.1 z.2

  abbrev Refused : Left → Type 0
  Refused z = (k : ℕ) × CutIn bytes own store m k × RefusedIn bytes own out store k (framed own z)

  by_answer : (a : Answer ℕ) (o : List Float) (s : List ℕ) → (a, o, s) ≡ rows → Refused (a, o, s)
  by_answer (done p) o s e =
      let ended = subst Ended (sym e) left in
      let last : p ≤ m = subst (λ (q : ℕ). q ≤ m) (sym (ap (λ (z : ℕ × List ℕ). z.0) ended.1)) (within stored.count) in
      let firm : Firm 0 (length begin) m rows.0 = subst (λ (z : Left). Firm 0 (length begin) m z.0) e (last, omega (arith, long)) in
      let both : ◌≡◌ {A = Answer ℕ} (done head.taken) (done p) = ap (λ (z : Left). z.0) (sym f.rows ∙ same_rows firm ∙ sym e) in
      let same : head.taken ≡ p = cc in
      absurd (omega arith)
  by_answer (refused number k) o s e = go (eqb number 9) refl
    where
      go : (b : Bool) → eqb number 9 ≡ b → Refused (refused number k, o, s)
      go true t =
          let nine = eqb-true number 9 t in
          let fault = subst (λ (n : ℕ). Ended (refused n k, o, s)) nine (subst Ended (sym e) left) in
          (k, in_row k o s fault, record { number = ap (λ (n : ℕ). refused n k) nine; rows = stand k o s fault })
      go false t =
          let firm : Firm 0 (length begin) m rows.0 = subst (λ (z : Left). Firm 0 (length begin) m z.0) e (eqb-false number 9 t, omega (arith, long)) in
          refused_done number k head.taken o out' s store' (e ∙ sym (same_rows firm) ∙ f.rows)

  pub cut_refused : (k : ℕ) × CutIn bytes own store m k × RefusedIn bytes own out store k (read_of Document begin widest highest out store)
  cut_refused =
      let (k, in_row, refusal) = by_answer rows.0 rows.1 rows.2 refl in
      (k, in_row, subst (RefusedIn bytes own out store k) (sym answered) refusal)

pub every_cut : EveryCut
every_cut bytes m widest highest out out' store store' head own e header holds shorter =
    let f = file_read Document document_row document_pixel bytes widest highest out store head out' store' e in
    let both : ◌≡◌ {A = Answer Head} (done f.own) (done own) = sym f.header ∙ header in
    let same : f.own ≡ own = cc in
    subst (λ (h : Head). (k : ℕ) × CutIn bytes h store m k × RefusedIn bytes h out store k (read_of Document (take m bytes) widest highest out store)) same
    (cut_refused bytes m widest highest out out' store store' head f (subst (λ (h : Head). h.taken ≤ m) (sym same) holds) shorter)
