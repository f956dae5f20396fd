-- A count's answer is a turn of the definition: the laws of a channel's loop, by any rule, and what either reading's code does of a count.
use Prim.Native.Nat.{ℕ, ◌-◌, min, ◌<◌, ◌≤◌}
use native.Mathlib.Omega.{arith}
use mathlib.Core.Bool.{Bool, true, false}
use mathlib.Core.List.{List}
use mathlib.Core.Path.{◌≡◌, refl, sym, ap, ◌∙◌}
use lib.Dec.{ltb}
use lib.ListN.{length, get_or}
use Rattle.std.specs.Prelude.{Result, Ok, Err}
use Rattle.steps.specs.Loop.{more, halt}
use Rattle.steps.specs.Answer.{Taken}
use Rattle.steps.specs.declared.refusal.Reason.{Reason}
use Rattle.steps.specs.declared.refusal.Reason.TheVariants.{BrokenRow, BytesEnd}
use Rattle.steps.proofs.Laws.Loop.{Runs, runs_more, runs_halt}
use Rattle.steps.proofs.Laws.Machines.{more_halt}
use Rattle.channels_read.specs.Channel.{Chan, chan, Count, span, fault, short, CountRule, crate_count, document_count, behind, lacking, counted, channel_turn, channel_out, span_length, span_of, span_taken}
use Rattle.channels_read.specs.Inner.{turn_of}
use Rattle.channels_read.specs.declared.span.Span.{Span}
use Rattle.channels_read.proofs.Laws.Channel.{span_onward, turn_count, crate_count_lem, document_past, document_lacks, document_span}

-- ---- The loop, by any rule

module _ (rule : CountRule) (src : List ℕ) (channel p done width : ℕ) (store : List ℕ) (a : Taken × List ℕ)
    (r : Runs (channel_turn rule src channel width) channel_out (length src - p) (chan p done store) a) (h : done < width) (k : p < length src)
    (answer : Result Span Reason) (store' : List ℕ) (e : turn_of answer store' ≡ counted src channel (chan p done store) (rule src p done width)) where
  turn : channel_turn rule src channel width (chan p done store) ≡ turn_of answer store'
  turn = turn_count rule src channel width (chan p done store) (rule src p done width) h k refl ∙ sym e

  onward : (z : Count) (x : Chan) → more x ≡ counted src channel (chan p done store) z → length src - x.at < length src - p
  onward (span n) x is =
      let same : x ≡ span_of src channel (get_or src p 0) n (chan p done store) = cc in
      omega (arith, ap (λ (y : Chan). y.at) same, span_onward src channel (get_or src p 0) n (chan p done store) k)
  onward (fault reason) x is = more_halt x (Err reason, store) is
  onward (short n) x is = more_halt x (Err BytesEnd, (span_of src channel (get_or src p 0) n (chan p done store)).store) is

  pub put_err : (reason : Reason) → answer ≡ Err reason → (Err reason, store') ≡ a
  put_err reason is = runs_halt r (turn ∙ ap (λ (z : Result Span Reason). turn_of z store') is)

  pub put_less : (s : Span) → answer ≡ Ok s → length src - s.next < length src - p
  put_less s is = onward (rule src p done width) (chan s.next s.done store') (sym (ap (λ (z : Result Span Reason). turn_of z store') is) ∙ e)

  pub put_again : (s : Span) → answer ≡ Ok s → Runs (channel_turn rule src channel width) channel_out (length src - s.next) (chan s.next s.done store') a
  put_again s is = runs_more r (turn ∙ ap (λ (z : Result Span Reason). turn_of z store') is) (put_less s is)

-- ---- What the code does of a count, which it has in hand

module _ (src : List ℕ) (channel p done width : ℕ) (store : List ℕ) (c : ℕ) (ec : c ≡ get_or src p 0) where
  -- so many of its bytes are put
  counted_span : (n : ℕ) (s : Span) (store' : List ℕ) → chan s.next s.done store' ≡ span_of src channel c n (chan p done store)
      → more (chan s.next s.done store') ≡ counted src channel (chan p done store) (span n)
  counted_span n s store' e = rw (e, ec)

  pub crate_put : (m n : ℕ) (s : Span) (store' : List ℕ) → m ≡ span_length c → n ≡ min m (width - done) → chan s.next s.done store' ≡ span_of src channel c n (chan p done store)
      → more (chan s.next s.done store') ≡ counted src channel (chan p done store) (crate_count src p done width)
  crate_put m n s store' em en e = counted_span n s store' e ∙ ap (counted src channel (chan p done store)) (sym (crate_count_lem src p done width c m n ec em en))

  module _ (n : ℕ) (en : n ≡ span_length c) where
    pub document_broken : width - done < n → halt (Err BrokenRow, store) ≡ counted src channel (chan p done store) (document_count src p done width)
    document_broken l = ap (counted src channel (chan p done store)) (sym (document_past src p done width c n ec en l))

    module _ (l : n ≤ width - done) (b : Bool) (eb : b ≡ ltb (behind src p) (span_taken c n)) where
      pub document_lacking : (store' : List ℕ) → b ≡ true → counted src channel (chan p done store) (lacking src p c) ≡ halt (Err BytesEnd, store')
          → halt (Err BytesEnd, store') ≡ counted src channel (chan p done store) (document_count src p done width)
      document_lacking store' t e = sym e ∙ ap (counted src channel (chan p done store)) (sym (document_lacks src p done width c n ec en l b eb t))

      pub document_put : (s : Span) (store' : List ℕ) → b ≡ false → chan s.next s.done store' ≡ span_of src channel c n (chan p done store)
          → more (chan s.next s.done store') ≡ counted src channel (chan p done store) (document_count src p done width)
      document_put s store' t e = counted_span n s store' e ∙ ap (counted src channel (chan p done store)) (sym (document_span src p done width c n ec en l b eb t))
