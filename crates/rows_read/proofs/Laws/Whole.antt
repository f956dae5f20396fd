-- A row that is done has all its bytes, and more behind them change nothing; or it is cut inside what its last count asks for.
use Prim.{Unit}
use Prim.Native.Nat.{ℕ, zero, suc, ◌+◌, ◌-◌, min, ◌<◌, ◌≤◌}
use mathlib.Core.Bool.{Bool, true, false}
use mathlib.Core.List.{List}
use mathlib.Core.Logic.{◌⊎◌, inl, inr, ⊎_elim}
use mathlib.Core.Path.{◌≡◌, refl, sym, ap, subst, ◌∙◌}
use native.Mathlib.Omega.{arith}
use lib.ListN.{length, get_or}
use Rattle.steps.proofs.Laws.Order.{by_order}
use Rattle.steps.specs.Loop.{Turn, more, run, lead}
use Rattle.steps.proofs.Laws.Machines.{same_run}
use Rattle.steps.proofs.Laws.Taken.{fault_done}
use Rattle.steps.specs.declared.refusal.Reason.TheVariants.{BytesEnd}
use Rattle.steps.specs.Answer.{Taken}
use Rattle.std.specs.Prelude.{Ok}
use Rattle.steps.specs.declared.Reading.TheVariants.{Crate}
use Rattle.channels_read.specs.Channel.{Chan, chan, span, crate_count, channel_turn, channel_out, channel_of, span_length, span_taken, span_of}
use Rattle.channels_read.proofs.Laws.Channel.{channel_cases, taken_run, taken_literals, turn_done, turn_short, turn_span}
use Rattle.channels_read.proofs.Laws.Channels.{Four, apart, together}
use Rattle.flat_read.specs.Flat.{crate_flat, flat_of}
use Rattle.rows_read.specs.declared.kind.Kind.{Kind}
use Rattle.rows_read.specs.declared.kind.Kind.TheVariants as kind
use Rattle.rows_read.specs.Row.{is_flat_width, kind_of, rest_by, row_by, crate_start, parts_of, row_of, crate_row}
use Rattle.rows_read.specs.Middle.{Alike, Rests}
use Rattle.rows_read.specs.Cut.{After, CutAt, Short, CutRow}
use Rattle.rows_read.proofs.Laws.Alike.{byte_same}
use Rattle.rows_read.proofs.Laws.AloneChannels.{CountRests, span_same, channel_alone}
use Rattle.rows_read.proofs.Laws.AloneFlat.{flat_alone}
use Rattle.rows_read.proofs.Laws.Behind.{KindRests, kind_same, start_alone, crate_count_alone, crate_flat_alone}
use Rattle.rows_read.proofs.Laws.Row.{kind_cases, not_flat}
use Rattle.rows_read.proofs.Laws.Bounds.{row_onward, reading_sound}

-- ---- A channel

module _ (src : List ℕ) (channel width : ℕ) where
  -- at the end of the bytes it is done already
  at_end : (k : ℕ) (x : Chan) (next : ℕ) (s : List ℕ) → run (channel_turn crate_count src channel width) channel_out k x ≡ (Ok next, s) → length src ≤ x.at → width ≤ x.done
  unfolding run
  at_end zero x next s e h = fault_done BytesEnd next _ s e
  at_end (suc k) x next s e h =
      by_order x.done width
      (λ l. fault_done BytesEnd next _ s (ap (lead (run (channel_turn crate_count src channel width) channel_out k)) (sym (turn_short crate_count src channel width x l h)) ∙ e))
      (λ l. l)

  -- after some counts from x on stands one of which bytes are missing
  abbrev Cut : Chan → Type 0
  Cut x = (n : ℕ) × (y : Chan) × After src channel width n x y × CutAt src width y × Short src width y

  -- the count at x, where its bytes are not all there
  cut_here : (x : Chan) (m : ℕ) → x.done < width → x.at < length src → crate_count src x.at x.done width ≡ span m → length src < x.at + 1 + span_taken (get_or src x.at 0) m
      → width ≤ x.done + m → CutAt src width x × Short src width x
  unfolding crate_count
  cut_here x m d l f h w =
      let c : ℕ = get_or src x.at 0 in
      let em : min (span_length c) (width - x.done) ≡ m = cc in
      let rest : m ≡ width - x.done = omega arith in (
        record {
          wants = d;
          there = l;
          last = omega arith;
          run = λ g. omega (arith, taken_run c m g);
          literals = λ g. omega (arith, taken_literals c m g);
        },
        subst (λ (k : ℕ). length src < x.at + 1 + span_taken c k) rest h,
      )

  -- the count at x, where they are
  turn_same : (other : List ℕ) → Alike (length src) src other → (x : Chan) (m : ℕ) → x.done < width → x.at < length src → crate_count src x.at x.done width ≡ span m
      → x.at + 1 + span_taken (get_or src x.at 0) m ≤ length src → channel_turn crate_count other channel width x ≡ more (span_of src channel (get_or src x.at 0) m x)
  turn_same other alike x m d l f h =
      let here = byte_same src other (length src) alike x.at l in
      turn_span crate_count other channel width x m d (omega (arith, alike.1)) (crate_count_alone.same src other (length src) x.at x.done width alike l (subst (CountRests src (length src) x.at) (sym f) h) ∙ f)
      ∙ rw here (ap more (span_same src other (length src) alike channel (get_or src x.at 0) m x h))

  -- a channel that is done: cut so, or the same whatever follows
  channel_or : (k : ℕ) (x : Chan) (next : ℕ) (s : List ℕ) → run (channel_turn crate_count src channel width) channel_out k x ≡ (Ok next, s)
      → Cut x ⊎ ((other : List ℕ) → Alike (length src) src other → run (channel_turn crate_count other channel width) channel_out k x ≡ (Ok next, s))
  unfolding run span_of
  channel_or zero x next s e = fault_done BytesEnd next _ s e
  channel_or (suc k) x next s e =
      channel_cases crate_count src channel width x (λ (z : Turn Chan (Taken × List ℕ)). channel_turn crate_count src channel width x ≡ z → lead (run (channel_turn crate_count src channel width) channel_out k) z ≡ (Ok next, s) → Or)
      (λ m d l f et r. spans m d l f et r (channel_or k _ next s r))
      (λ reason d l f et r. fault_done reason next _ s r)
      (λ m d l f et r. fault_done BytesEnd next _ s r)
      (λ d l et r. fault_done BytesEnd next _ s r)
      (λ d et r. inr (λ other alike. ap (lead (run (channel_turn crate_count other channel width) channel_out k)) (turn_done crate_count other channel width x d) ∙ r))
      refl e
    where
      Or : Type 0
      Or = Cut x ⊎ ((other : List ℕ) → Alike (length src) src other → lead (run (channel_turn crate_count other channel width) channel_out k) (channel_turn crate_count other channel width x) ≡ (Ok next, s))

      spans : (m : ℕ) → x.done < width → x.at < length src → crate_count src x.at x.done width ≡ span m
          → channel_turn crate_count src channel width x ≡ more (span_of src channel (get_or src x.at 0) m x)
          → run (channel_turn crate_count src channel width) channel_out k (span_of src channel (get_or src x.at 0) m x) ≡ (Ok next, s)
          → Cut (span_of src channel (get_or src x.at 0) m x) ⊎ ((other : List ℕ) → Alike (length src) src other → run (channel_turn crate_count other channel width) channel_out k (span_of src channel (get_or src x.at 0) m x) ≡ (Ok next, s))
          → Or
      spans m d l f et r (inl (n, y, after, cut, short)) = inl (suc n, y, (_, et, after), cut, short)
      spans m d l f et r (inr same) =
          let c : ℕ = get_or src x.at 0 in
          by_order (length src) (x.at + 1 + span_taken c m)
          (λ h. let here = cut_here x m d l f h (at_end k (span_of src channel c m x) next s r (omega arith)) in inl (0, x, refl, here.0, here.1))
          (λ h. inr (λ other alike. ap (lead (run (channel_turn crate_count other channel width) channel_out k)) (turn_same other alike x m d l f h) ∙ same other alike))

-- the same of the channel from its start on
module _ (src : List ℕ) (at : ℕ) (store : List ℕ) (channel width next : ℕ) (s : List ℕ) (e : channel_of crate_count src at store channel width ≡ (Ok next, s)) where
  some_left : 0 < width → at < length src
  unfolding channel_of
  some_left w = by_order at (length src) (λ l. l) (λ l. let none = at_end src channel width (length src + 1) (chan at 0 store) next s e l in absurd (omega arith))

  channel_or_cut : Cut src channel width (chan at 0 store) ⊎ ((other : List ℕ) → Alike (length src) src other → channel_of crate_count other at store channel width ≡ (Ok next, s))
  unfolding channel_of
  channel_or_cut =
      ⊎_elim inl
      (λ same. inr (λ other alike.
      same_run (channel_turn crate_count other channel width) (channel_turn crate_count other channel width) channel_out channel_out (Ok next, s) (λ (x : Chan). Unit {0})
      (λ x k. fault_done BytesEnd next _ s k) (λ k x r. tt) (λ x t k b. k) (λ x k. k) _ _ _ (omega (arith, alike.1)) (same other alike)))
      (channel_or src channel width (length src + 1) (chan at 0 store) next s e)

-- ---- Four channels

module _ (src : List ℕ) (at : ℕ) (store : List ℕ) (width next : ℕ) (s : List ℕ) where
  -- with a fourth channel that is the same whatever follows, so are the four
  four_same : 0 < width → (f : Four crate_count src at store width next s) → (other : List ℕ) → Alike (length src) src other → channel_of crate_count other f.exponent f.blues 3 width ≡ (Ok next, s)
      → Four crate_count other at store width next s
  four_same some f other alike fourth =
      let in_g = some_left src f.green f.reds 1 width _ _ f.second some in
      let in_b = some_left src f.blue f.greens 2 width _ _ f.third some in
      let in_e = some_left src f.exponent f.blues 3 width _ _ f.fourth some in
      record {
        green = f.green;
        blue = f.blue;
        exponent = f.exponent;
        reds = f.reds;
        greens = f.greens;
        blues = f.blues;
        first = before 0 at store f.green f.reds f.first in_g;
        second = before 1 f.green f.reds f.blue f.greens f.second in_b;
        third = before 2 f.blue f.greens f.exponent f.blues f.third in_e;
        fourth = fourth;
      }
    where
      before : (c p : ℕ) (store : List ℕ) (n : ℕ) (after : List ℕ) → channel_of crate_count src p store c width ≡ (Ok n, after) → n < length src → channel_of crate_count other p store c width ≡ (Ok n, after)
      before c p store n after e h =
          channel_alone 1 (omega arith) crate_count crate_count_alone src other (length src) alike c width p store (subst (λ (z : Taken × List ℕ). Rests 1 (length src) (length src) z.0) (sym e) (omega arith, omega arith)) ∙ e

-- ---- The row

-- a row is the same whatever follows
abbrev pub Full : List ℕ → ℕ → List ℕ → ℕ → Taken × List ℕ → Type 0
Full src at store width a = (other : List ℕ) → Alike (length src) src other → crate_row other at store width ≡ a

module _ (src : List ℕ) (at : ℕ) (store : List ℕ) (width next : ℕ) (s : List ℕ) (inside : next ≤ length src) where
  -- a flat part never takes a byte that is missing
  flat_full : (p : ℕ) (store : List ℕ) (start wanted : ℕ) → flat_of crate_flat src p store start wanted ≡ (Ok next, s) → (other : List ℕ) → Alike (length src) src other
      → flat_of crate_flat other p store start wanted ≡ (Ok next, s)
  flat_full p store start wanted e other alike =
      flat_alone 0 (omega arith) crate_flat crate_flat_alone src other (length src) alike p store start wanted (subst (λ (z : Taken × List ℕ). Rests 0 (length src) (length src) z.0) (sym e) (omega arith, omega arith)) ∙ e

  module _ (coded : is_flat_width width ≡ false) where
    abbrev Or : Type 0
    Or = ((c : CutRow src at store width) × Short src width c.end) ⊎ Full src at store width (Ok next, s)

    -- what stands before the rest of the row is all there
    by_start : (k : Kind) → kind_of src at ≡ k → KindRests (length src) at k → ((other : List ℕ) → Alike (length src) src other → rest_by (parts_of Crate) other at width k (crate_start src at store) ≡ (Ok next, s)) → Full src at store width (Ok next, s)
    unfolding row_of row_by parts_of
    by_start k ek rests same other alike =
        let there : KindRests (length src) at (kind_of src at) = subst (KindRests (length src) at) (sym ek) rests in
        simp coded (rw (kind_same src other (length src) alike at there, start_alone src other (length src) alike at store Crate there, ek) (same other alike))

    four_or : kind_of src at ≡ kind.Channels (at + 4) → at + 4 ≤ length src → Four crate_count src (at + 4) (crate_start src at store) width next s → Or
    unfolding parts_of
    four_or ek h f =
        let some : 0 < width = omega (arith, not_flat width false (sym coded) refl) in
        ⊎_elim
        (λ (n, y, after, cut, short). inl (
          record {
            coded = coded;
            mark = ek;
            green = f.green;
            blue = f.blue;
            exponent = f.exponent;
            reds = f.reds;
            greens = f.greens;
            blues = f.blues;
            first = f.first;
            second = f.second;
            third = f.third;
            counts = n;
            end = y;
            after = after;
            cut = cut;
          },
          short,
        ))
        (λ same. inr (by_start (kind.Channels (at + 4)) ek h (λ other alike. together crate_count other (at + 4) (crate_start src at store) width next s (four_same src (at + 4) (crate_start src at store) width next s some f other alike (same other alike)))))
        (channel_or_cut src f.exponent f.blues 3 width next s f.fourth)

    by_kind : rest_by (parts_of Crate) src at width (kind_of src at) (crate_start src at store) ≡ (Ok next, s) → Or
    unfolding parts_of
    by_kind =
        kind_cases src at (λ (z : Kind). kind_of src at ≡ z → rest_by (parts_of Crate) src at width z (crate_start src at store) ≡ (Ok next, s) → Or)
        (λ ek e. fault_done BytesEnd next _ s e)
        (λ h b ek e. inr (by_start kind.Flat ek h (flat_full at (crate_start src at store) 0 width e)))
        (λ h b m ek e. four_or ek h (apart crate_count src (at + 4) (crate_start src at store) width next s e))
        (λ h b m ek e. inr (by_start (kind.Pixel (at + 4)) ek h (flat_full (at + 4) (crate_start src at store) 4 (width - 1) e)))
        refl

  by_width : crate_row src at store width ≡ (Ok next, s) → ((c : CutRow src at store width) × Short src width c.end) ⊎ Full src at store width (Ok next, s)
  unfolding row_of row_by parts_of
  by_width e = go (is_flat_width width) refl
    where
      go : (b : Bool) → is_flat_width width ≡ b → ((c : CutRow src at store width) × Short src width c.end) ⊎ Full src at store width (Ok next, s)
      go true t = inr (λ other alike. simp t (flat_full at store 0 width (simp t at e) other alike))
      go false t = by_kind t (simp t at e)

-- "no answer but 9 rests on a missing byte", but for that cut
pub row_or_cut : (src : List ℕ) (at : ℕ) (store : List ℕ) (width next : ℕ) (s : List ℕ) → at ≤ length src → crate_row src at store width ≡ (Ok next, s)
    → ((c : CutRow src at store width) × Short src width c.end) ⊎ Full src at store width (Ok next, s)
row_or_cut src at store width next s h e = by_width src at store width next s (row_onward crate_row (reading_sound Crate) src at store width next (ap (λ (z : Taken × List ℕ). z.0) e) h).1 e
