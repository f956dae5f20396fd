-- A file that is read has the bytes that `specs/Least.antt` says: the last law; those before it go from a flat part and a channel to a row and to the rows.
use Prim.Native.Nat.{ℕ, ◌+◌, ◌-◌, ◌*◌, ◌/◌, min, ◌<◌, ◌≤◌}
use native.Mathlib.Nat.{mul-le-mul_right, suc-mul}
use native.Mathlib.Numerals.{add-one}
use native.Mathlib.Omega.{arith}
use mathlib.Core.List.{List}
use mathlib.Core.Bool.{true, false, false≢true}
use mathlib.Core.Path.{◌≡◌, refl, sym, ap, subst, ◌∙◌}
use lib.ListN.{length, get_or}
use lib.Ieee.{Float}
use Rattle.steps.specs.declared.refusal.Reason.TheVariants.{BytesEnd}
use Rattle.steps.specs.Answer.{Answer, done, refused}
use Rattle.steps.proofs.Laws.Taken.{never_both}
use Rattle.steps.specs.Answer.{Taken}
use Rattle.std.specs.Prelude.{Ok, Err}
use Rattle.steps.specs.declared.refusal.Reason.{Reason}
use Rattle.steps.proofs.Laws.Order.{by_order}
use Rattle.steps.proofs.Laws.Turns.{by_test, Leads, run_keeps}
use Rattle.steps.proofs.Laws.Answer.{differ}
use Rattle.header.specs.declared.Head.{Head}
use Rattle.header.specs.Head.{header_of}
use Rattle.header.proofs.Laws.Head.{header_upright, header_within}
use Rattle.channels_read.specs.Channel.{Chan, channel_of, channel_out, channel_turn, crate_count, span_length, span_of, span_taken}
use Rattle.channels_read.specs.Channels.{Chans, channels_of, chans_out, chans_turn}
use Rattle.channels_read.proofs.Laws.Channel.{length_run, length_literals, taken_run, taken_literals, channel_cases}
use Rattle.channels_read.proofs.Laws.Channels.{chans_cases}
use Rattle.steps.specs.declared.Reading.TheVariants.{Crate}
use Rattle.flat_read.specs.Flat.{crate_flat, flat_of}
use Rattle.flat_read.proofs.Laws.Flat.{crate_plain}
use Rattle.rows_read.specs.Row.{parts_of, row_of, crate_row, crate_start, is_flat_width, kind_of, rest_by, row_by}
use Rattle.rows_read.proofs.Laws.Row.{kind_cases, not_flat}
use Rattle.rows_read.proofs.Laws.Bounds.{reading_sound}
use Rattle.reader.specs.Samples.{SampleRule}
use Rattle.words.specs.Axes.{upright}
use Rattle.words.specs.declared.axes.Orientation.{Orientation}
use Rattle.places.specs.Places.{Stored, long_of, count_of}
use Rattle.reader.specs.Frame.{stored_of, cleared, step_of, Rows, Left, row_turn, no_rows, rows_of}
use Rattle.reader.specs.Read.{read_by}
use Rattle.reader.proofs.Laws.Frame.{rows_cases, went_on}
use Rattle.kept.specs.Least.{AreBytes, counts_of, coded_least, least_of}
use Rattle.kept.proofs.Laws.Done.{file_read}

-- ---- An answer that is no fault is not before a place

record Took (p : ℕ) (a : Taken × List ℕ) : Type 0 where
  pub upto : (next : ℕ) → a.0 ≡ Ok next → p ≤ next

took_done : {p q : ℕ} {s : List ℕ} → p ≤ q → Took p (Ok q, s)
took_done {p} {q} h = record { upto = λ next e. let f : q ≡ next = cc in omega arith }

took_fault : {p : ℕ} {reason : Reason} {s : List ℕ} → Took p (Err reason, s)
took_fault {reason = reason} = record { upto = λ next e. never_both next reason (sym e) }

took_less : {p q : ℕ} {a : Taken × List ℕ} → p ≤ q → Took q a → Took p a
took_less h t = record { upto = λ next e. omega (arith, t.upto next e) }

-- ---- A flat part: four bytes for each pixel

flat_took : (src : List ℕ) (at : ℕ) (store : List ℕ) (start wanted : ℕ) → Took (at + 4 * wanted) (flat_of crate_flat src at store start wanted)
flat_took src at store start wanted = record { upto = λ next e. omega (arith, ((crate_plain src at store start wanted).upto next e).0) }

-- ---- The channels: in each a count and a byte for at most 127 pixels; where the input ends, a last count alone for at most 128

-- an answer that is no fault: the input has a byte at the place, and n bytes are taken from it on, or one less where the input ends
record Coded (src : List ℕ) (at n : ℕ) (a : Taken × List ℕ) : Type 0 where
  pub upto : (next : ℕ) → a.0 ≡ Ok next → (at < length src) × (at + n ≤ next + 1) × (next < length src → at + n ≤ next)

coded_fault : {src : List ℕ} {at n : ℕ} {reason : Reason} {s : List ℕ} → Coded src at n (Err reason, s)
coded_fault {reason = reason} = record { upto = λ next e. never_both next reason (sym e) }

-- after some counts, d pixels of a channel from `at` on are done at the place p
abbrev Counted : List ℕ → ℕ → ℕ → ℕ → Type 0
Counted src at p d = (at ≤ p) × (0 < d → at < length src) × (at + 2 * counts_of d ≤ p + 1) × (p < length src → at + 2 * ((d + 126) / 127) ≤ p)

-- one count more, for n pixels and with t bytes behind it
count_more : (src : List ℕ) (at p d c n : ℕ) → Counted src at p d → p < length src → c < 256 → n ≤ span_length c → Counted src at (min (p + 1 + span_taken c n) (length src)) (d + n)
count_more src at p d c n x l b h =
    let was = x.3 l in
    by_order 128 c
    (λ r. let m = length_run c r in rw (taken_run c n r) (omega (arith, x.0), λ d. omega (arith, x.0), omega arith, λ k. omega arith))
    (λ r. let m = length_literals c r in rw (taken_literals c n r) (omega (arith, x.0), λ d. omega (arith, x.0), omega arith, λ k. omega arith))

module _ (src : List ℕ) (bytes : AreBytes src) where
  channel_took : (at : ℕ) (store : List ℕ) (channel width : ℕ) → 0 < width → Coded src at (2 * counts_of width) (channel_of crate_count src at store channel width)
  unfolding channel_of crate_count span_of
  channel_took at store channel width h = run_keeps (channel_turn crate_count src channel width) channel_out P Q step (λ x p. coded_fault) _ _ (omega arith, (omega arith, λ d. absurd (omega arith), omega arith, λ d. omega arith))
    where
      P : Chan → Type 0
      P x = (x.done ≤ width) × Counted src at x.at x.done

      Q : Taken × List ℕ → Type 0
      Q = Coded src at (2 * counts_of width)

      step : (x : Chan) → P x → Leads P Q (channel_turn crate_count src channel width x)
      step x p =
          channel_cases crate_count src channel width x (Leads P Q)
          (λ n d l e. let c = get_or src x.at 0 in
          let m : min (span_length c) (width - x.done) ≡ n = cc in
          (omega arith, count_more src at x.at x.done c n p.1 l (bytes x.at) (omega arith)))
          (λ reason d l e. coded_fault)
          (λ n d l e. coded_fault)
          (λ d l. coded_fault)
          (λ d. record {
            upto = λ next e. let f : x.at ≡ next = cc in
                let all : x.done ≡ width = omega (arith, p.0) in
                let q : Counted src at x.at width = subst (Counted src at x.at) all p.1 in
                (q.1 h, omega (arith, q.2), λ k. omega (arith, q.3 (omega arith)));
          })

  -- four of them
  channels_took : (at : ℕ) (store : List ℕ) (width : ℕ) → 8 ≤ width → Coded src at (8 * counts_of width) (channels_of crate_count src at store width)
  unfolding channels_of
  channels_took at store width h = run_keeps (chans_turn crate_count src width) chans_out P Q step (λ x p. coded_fault) _ _ (omega arith, omega arith, omega arith, λ c. absurd (omega arith), λ l. omega arith)
    where
      n : ℕ
      n = counts_of width

      P : Chans → Type 0
      P x = (x.channel ≤ 4) × (at ≤ x.at) × (at + x.channel * (2 * n) ≤ x.at + 1) × (0 < x.channel → at < length src) × (x.at < length src → at + x.channel * (2 * n) ≤ x.at)

      Q : Taken × List ℕ → Type 0
      Q = Coded src at (8 * n)

      step : (x : Chans) → P x → Leads P Q (chans_turn crate_count src width x)
      step x p =
          chans_cases crate_count src width x (Leads P Q)
          (λ next s c e. let r = (channel_took x.at x.store x.channel width (omega arith)).upto next (ap (λ (z : Taken × List ℕ). z.0) (sym e)) in
          let l = r.0 in
          let q = p.4 l in
          let m : (x.channel + 1) * (2 * n) ≡ x.channel * (2 * n) + 2 * n = rw (add-one, suc-mul) in
          (omega arith, omega (arith, p.1, r.1), omega (arith, r.1), λ z. omega (arith, p.1), λ k. omega (arith, r.2 k)))
          (λ reason s c e. coded_fault)
          (λ c. record {
            upto = λ next e. let f : x.at ≡ next = cc in
                let all : x.channel ≡ 4 = omega (arith, p.0) in
                let four : x.channel * (2 * n) ≡ 8 * n = rw all (omega arith) in
                (p.3 (omega arith), omega (arith, p.2), λ k. omega (arith, p.4 (omega arith)));
          })

-- ---- The row

-- a row that is flat by its width takes four bytes for each pixel; another takes those of a coded one at least, or one less where the input ends
row_took : (src : List ℕ) → AreBytes src → (at : ℕ) (store : List ℕ) (width : ℕ)
    → (is_flat_width width ≡ true → Took (at + 4 * width) (crate_row src at store width)) × (is_flat_width width ≡ false → Coded src at (coded_least width) (crate_row src at store width))
unfolding row_of row_by parts_of
row_took src bytes at store width =
    by_test (λ (a : Taken × List ℕ). (is_flat_width width ≡ true → Took (at + 4 * width) a) × (is_flat_width width ≡ false → Coded src at (coded_least width) a)) (is_flat_width width)
    (λ t. (λ _. flat_took src at store 0 width, λ f. absurd (false≢true (sym f ∙ t))))
    (λ t. (λ f. absurd (false≢true (sym t ∙ f)), λ _. coded (not_flat width false (sym t) refl)))
  where
    s : List ℕ
    s = crate_start src at store

    coded : 8 ≤ width → Coded src at (coded_least width) (rest_by (parts_of Crate) src at width (kind_of src at) s)
    coded w =
        kind_cases src at (λ z. Coded src at (coded_least width) (rest_by (parts_of Crate) src at width z s)) coded_fault
        (λ h e. record { upto = λ next f. let r = (flat_took src at s 0 width).upto next f in (h, omega (arith, r), λ l. omega (arith, r)) })
        (λ h e m. record { upto = λ next f. let r = (channels_took src bytes (at + 4) s width w).upto next f in (omega arith, omega (arith, r.1), λ l. omega (arith, r.2 l)) })
        (λ h e m. record { upto = λ next f. let r = (flat_took src (at + 4) s 4 (width - 1)).upto next f in (omega arith, omega (arith, r), λ l. omega (arith, r)) })

-- where there are pixels, a row that is done has its first byte
pub row_some : (src : List ℕ) (at : ℕ) (store : List ℕ) (width next : ℕ) → 0 < width → at ≤ length src → (crate_row src at store width).0 ≡ Ok next → at < length src
unfolding row_of row_by parts_of
row_some src at store width next w inside =
    by_test (λ (a : Taken × List ℕ). a.0 ≡ Ok next → at < length src) (is_flat_width width)
    (λ t e. omega (arith, ((crate_plain src at store 0 width).upto next e).0, ((crate_plain src at store 0 width).upto next e).1 w))
    (λ t. kind_cases src at (λ z. (rest_by (parts_of Crate) src at width z (crate_start src at store)).0 ≡ Ok next → at < length src)
    (λ e. never_both next BytesEnd (sym e)) (λ h f e. h) (λ h f m e. omega arith) (λ h f m e. omega arith))

-- ---- The rows of a file

-- rows that are done end at a place of the bytes that is not before p
record Ends (bytes : List ℕ) (p : ℕ) (a : Left) : Type 0 where
  pub upto : (next : ℕ) → a.0 ≡ done next → (p ≤ next) × (next ≤ length bytes)

ends_done : {bytes : List ℕ} {p q : ℕ} {out : List Float} {store : List ℕ} → p ≤ q → q ≤ length bytes → Ends bytes p (done q, out, store)
ends_done {bytes} {p} {q} h k = record { upto = λ next e. let f : q ≡ next = cc in (omega arith, omega arith) }

ends_refused : {bytes : List ℕ} {p number row : ℕ} {out : List Float} {store : List ℕ} → Ends bytes p (refused number row, out, store)
ends_refused {number = number} {row = row} = record { upto = λ next e. absurd (differ next number row (sym e)) }

module _ (rule : SampleRule) (bytes : List ℕ) (are : AreBytes bytes) (stored : Stored) (at : ℕ) (inside : at ≤ length bytes) (out : List Float) (store : List ℕ) where
  -- a row that a step read, by its answer
  read_row : (x : Rows) (next : ℕ) (o : List Float) (s : List ℕ) → (Ok next, o, s) ≡ step_of crate_row rule stored.long (stored.place x.row) bytes x.at x.out x.store
      → (crate_row bytes x.at x.store stored.long).0 ≡ Ok next
  read_row x next o s e = ap (λ (z : Taken × List ℕ). z.0) (sym (went_on crate_row rule stored.long (stored.place x.row) bytes x.at x.out o x.store s next e).0)

  on : (x : Rows) (next : ℕ) → x.at ≤ length bytes → (crate_row bytes x.at x.store stored.long).0 ≡ Ok next → (x.at ≤ next) × (next ≤ length bytes)
  on x next h e = (reading_sound Crate bytes x.at x.store stored.long).onward next e h

  flat_rows : is_flat_width stored.long ≡ true → Ends bytes (at + stored.count * (4 * stored.long)) (rows_of crate_row rule bytes stored at out store)
  unfolding rows_of
  flat_rows t = run_keeps (row_turn crate_row rule bytes stored) no_rows P Q step (λ x p. ends_refused) _ _ (omega arith, inside)
    where
      n : ℕ
      n = 4 * stored.long

      P : Rows → Type 0
      P x = (at + x.row * n ≤ x.at) × (x.at ≤ length bytes)

      Q : Left → Type 0
      Q = Ends bytes (at + stored.count * n)

      step : (x : Rows) → P x → Leads P Q (row_turn crate_row rule bytes stored x)
      step x p =
          rows_cases crate_row rule bytes stored x (Leads P Q)
          (λ next o s h e. let d = read_row x next o s e in
          let r = ((row_took bytes are x.at x.store stored.long).0 t).upto next d in
          let m : (x.row + 1) * n ≡ x.row * n + n = rw (add-one, suc-mul) in
          (omega (arith, r, m, p.0), (on x next p.1 d).1))
          (λ reason o s h e. ends_refused)
          (λ h. let m : stored.count * n ≤ x.row * n = mul-le-mul_right n h in ends_done (omega (arith, m, p.0)) p.1)

  coded_rows : is_flat_width stored.long ≡ false → Ends bytes (at + (stored.count * coded_least stored.long - 1)) (rows_of crate_row rule bytes stored at out store)
  unfolding rows_of
  coded_rows t = run_keeps (row_turn crate_row rule bytes stored) no_rows P Q step (λ x p. ends_refused) _ _ (omega arith, omega arith, inside, λ l. omega arith)
    where
      n : ℕ
      n = coded_least stored.long

      P : Rows → Type 0
      P x = (at + x.row * n ≤ x.at + 1) × (at ≤ x.at) × (x.at ≤ length bytes) × (x.at < length bytes → at + x.row * n ≤ x.at)

      Q : Left → Type 0
      Q = Ends bytes (at + (stored.count * n - 1))

      step : (x : Rows) → P x → Leads P Q (row_turn crate_row rule bytes stored x)
      step x p =
          rows_cases crate_row rule bytes stored x (Leads P Q)
          (λ next o s h e. let d = read_row x next o s e in
          let r = ((row_took bytes are x.at x.store stored.long).1 t).upto next d in
          let q = p.3 r.0 in
          let o = on x next p.2 d in
          let m : (x.row + 1) * n ≡ x.row * n + n = rw (add-one, suc-mul) in
          (omega (arith, r.1, q), omega (arith, p.1, o.0), o.1, λ l. omega (arith, r.2 l, q)))
          (λ reason o s h e. ends_refused)
          (λ h. let m : stored.count * n ≤ x.row * n = mul-le-mul_right n h in ends_done (omega (arith, m, p.0, p.1)) p.2)

  rows_took : Ends bytes (at + least_of stored.long stored.count) (rows_of crate_row rule bytes stored at out store)
  rows_took = by_test (λ (n : ℕ). Ends bytes (at + n) (rows_of crate_row rule bytes stored at out store)) (is_flat_width stored.long) flat_rows coded_rows

-- ---- The whole file

-- a file that is read, by any rule for a pixel: at least so many bytes are taken after its header, and all that are taken are there
pub least_read : (rule : SampleRule) (bytes : List ℕ) → AreBytes bytes → (widest highest : ℕ) (out : List Float) (store : List ℕ) (head a : Head) → header_of Crate bytes widest highest ≡ done head
    → (read_by Crate crate_row rule bytes widest highest out store).0 ≡ done a → (head.taken + least_of head.width head.height ≤ a.taken) × (a.taken ≤ length bytes)
least_read rule bytes are widest highest out store head a e f =
    let answer = read_by Crate crate_row rule bytes widest highest out store in
    let r = file_read Crate crate_row rule bytes widest highest out store a answer.1 answer.2 (ap (λ (z : Answer Head). (z, answer.1, answer.2)) f) in
    let h = r.own in
    let both : ◌≡◌ {A = Answer Head} (done h) (done head) = sym r.header ∙ e in
    let is : h ≡ head = cc in
    let took = rows_took rule bytes are (stored_of h) h.taken (header_within Crate bytes widest highest h r.header) out (cleared (stored_of h).long store) in
    let lies : h.orientation ≡ upright = header_upright Crate bytes widest highest h r.header refl in
    subst (λ (x : Head). (x.taken + least_of x.width x.height ≤ a.taken) × (a.taken ≤ length bytes)) is
    (subst (λ (o : Orientation). (h.taken + least_of (long_of o h.width h.height) (count_of o h.width h.height) ≤ a.taken) × (a.taken ≤ length bytes)) lies
    (took.upto a.taken (ap (λ (z : Left). z.0) r.rows)))
