-- The numbers by which a row is refused: 9, and those by which its counts and its pixels 1,1,1,n are. By the crate reading 9 and 25, by the document reading 9 and 14.
use Prim.{Unit}
use Prim.Native.Nat.{ℕ, ◌+◌, ◌-◌}
use mathlib.Core.Bool.{false, false≢true}
use mathlib.Core.List.{List}
use mathlib.Core.Logic.{inl, inr}
use mathlib.Core.Path.{◌≡◌, refl, sym, subst}
use lib.Dec.{ltb}
use lib.ListN.{length, get_or}
use Rattle.steps.specs.Loop.{Turn}
use Rattle.steps.specs.Answer.{Taken}
use Rattle.std.specs.Prelude.{Ok, Err}
use Rattle.steps.specs.Refusal.{reason_number}
use Rattle.steps.specs.declared.refusal.Reason.{Reason}
use Rattle.steps.proofs.Laws.Turns.{by_test, Leads, run_keeps}
use Rattle.steps.specs.declared.Reading.{Reading}
use Rattle.steps.specs.declared.Reading.TheVariants.{Crate, Document}
use Rattle.channels_read.specs.Channel.{Count, CountRule, chan, is_run, span_length, span_taken, behind, crate_count, document_count, count_rule, span, fault, short, channel_out, channel_turn, channel_of}
use Rattle.channels_read.specs.Channels.{chans, chans_out, chans_turn, channels_of}
use Rattle.channels_read.proofs.Laws.Channel.{channel_cases}
use Rattle.channels_read.proofs.Laws.Channels.{chans_cases}
use Rattle.flat_read.specs.Flat.{Flat, FlatRule, flat, times_of, crate_flat, document_ones, document_flat, flat_rule, flat_out, flat_turn, flat_of}
use Rattle.flat_read.proofs.Laws.Flat.{flat_cases}
use Rattle.rows_read.specs.declared.kind.Kind.{Kind}
use Rattle.rows_read.specs.Row.{RowParts, is_flat_width, rest_by, row_by, mark_of, parts_of, row_of, RowFault}
use Rattle.rows_read.proofs.Laws.Row.{kind_cases}

-- no fault, or one of those
abbrev By : (ℕ → Type 0) → Taken × List ℕ → Type 0
By N (Ok next, store) = Unit {0}
By N (Err reason, store) = N (reason_number reason)

-- what a rule may say of a count
abbrev pub Counts : (ℕ → Type 0) → Count → Type 0
Counts N (span n) = Unit {0}
Counts N (fault reason) = N (reason_number reason)
Counts N (short n) = Unit {0}

module _ (N : ℕ → Type 0) (nine : N 9) where
  -- a turn that goes on, or ends so
  abbrev Ends : {S : Type 0} → Turn S (Taken × List ℕ) → Type 0
  Ends = Leads (λ s. Unit {0}) (By N)

  -- ---- The parts of a row

  module _ (rule : CountRule) (counts : (src : List ℕ) (at done width : ℕ) → Counts N (rule src at done width)) where
    channel_faults : (src : List ℕ) (at : ℕ) (store : List ℕ) (channel width : ℕ) → By N (channel_of rule src at store channel width)
    unfolding channel_of
    channel_faults src at store channel width =
        run_keeps (channel_turn rule src channel width) channel_out (λ x. Unit {0}) (By N)
        (λ x u. channel_cases rule src channel width x Ends (λ n d l e. tt) (λ reason d l e. subst (Counts N) e (counts src x.at x.done width)) (λ n d l e. nine) (λ d l. nine) (λ d. tt))
        (λ x u. nine) (length src + 1) (chan at 0 store) tt

    channels_faults : (src : List ℕ) (at : ℕ) (store : List ℕ) (width : ℕ) → By N (channels_of rule src at store width)
    unfolding channels_of
    channels_faults src at store width =
        run_keeps (chans_turn rule src width) chans_out (λ x. Unit {0}) (By N)
        (λ x u. chans_cases rule src width x Ends (λ next s h e. tt) (λ reason s h e. subst (By N) (sym e) (channel_faults src x.at x.store x.channel width)) (λ h. tt))
        (λ x u. nine) 5 (chans at 0 store) tt

  flat_faults : (rule : FlatRule) → ((src : List ℕ) (x : Flat) → Ends (rule.ones src x)) → (src : List ℕ) (at : ℕ) (store : List ℕ) (start wanted : ℕ) → By N (flat_of rule src at store start wanted)
  unfolding flat_of
  flat_faults rule ones src at store start wanted =
      run_keeps (flat_turn rule src) flat_out (λ x. Unit {0}) (By N)
      (λ x u. flat_cases rule src x Ends (λ h l e. ones src x) (λ h l e. tt) (λ h. nine) (λ h. tt))
      (λ x u. nine) (length src + 1) (flat at start wanted 0 store) tt

  -- ---- The row

  row_faults : (parts : RowParts) → ((src : List ℕ) (at : ℕ) (store : List ℕ) (start wanted : ℕ) → By N (parts.flat src at store start wanted))
      → ((src : List ℕ) (at : ℕ) (store : List ℕ) (width : ℕ) → By N (parts.channels src at store width))
      → ((src : List ℕ) (at width : ℕ) → parts.mark src at width ≡ false → N 14)
      → (src : List ℕ) (at : ℕ) (store : List ℕ) (width : ℕ) → By N (row_by parts src at store width)
  unfolding row_by
  row_faults parts flats channels marks src at store width =
      let s = parts.start src at store in
      by_test (By N) (is_flat_width width) (λ t. flats src at store 0 width)
      (λ t. kind_cases src at (λ (k : Kind). By N (rest_by parts src at width k s)) nine
      (λ h l. flats src at s 0 width) (λ h l m. by_test (By N) (parts.mark src at width) (λ u. channels src (at + 4) s width) (marks src at width))
      (λ h l m. flats src (at + 4) s 4 (width - 1)))

-- ---- Either reading

count_faults : (reading : Reading) (src : List ℕ) (at done width : ℕ) → Counts (RowFault reading) (count_rule reading src at done width)
unfolding crate_count document_count
count_faults Crate src at done width = tt
count_faults Document src at done width =
    let c : ℕ = get_or src at 0 in
    let C : Count → Type 0 = Counts (RowFault Document) in
    by_test C (ltb (width - done) (span_length c)) (λ t. inr refl)
    (λ t. by_test C (ltb (behind src at) (span_taken c (span_length c))) (λ u. by_test C (is_run c) (λ v. inl refl) (λ v. tt)) (λ u. tt))

ones_faults : (reading : Reading) (src : List ℕ) (x : Flat) → Leads (λ (y : Flat). Unit {0}) (By (RowFault reading)) ((flat_rule reading).ones src x)
unfolding crate_flat document_flat document_ones
ones_faults Crate src x = inr refl
ones_faults Document src x =
    let E : Turn Flat (Taken × List ℕ) → Type 0 = Leads (λ (y : Flat). Unit {0}) (By (RowFault Document)) in
    by_test E (ltb x.place 4) (λ t. inr refl) (λ t. by_test E (ltb x.wanted (times_of src x)) (λ u. inr refl) (λ u. tt))

mark_faults : (reading : Reading) (src : List ℕ) (at width : ℕ) → mark_of reading src at width ≡ false → RowFault reading 14
mark_faults Crate src at width e = absurd (false≢true (sym e))
mark_faults Document src at width e = inr refl

reading_by : (reading : Reading) (src : List ℕ) (at : ℕ) (store : List ℕ) (width : ℕ) → By (RowFault reading) (row_of reading src at store width)
unfolding row_of parts_of
reading_by reading =
    row_faults (RowFault reading) (inl refl) (parts_of reading) (flat_faults (RowFault reading) (inl refl) (flat_rule reading) (ones_faults reading))
    (channels_faults (RowFault reading) (inl refl) (count_rule reading) (count_faults reading)) (mark_faults reading)

pub reading_faults : (reading : Reading) (src : List ℕ) (at : ℕ) (store : List ℕ) (width : ℕ) (reason : Reason) (store' : List ℕ) → (Err reason, store') ≡ row_of reading src at store width → RowFault reading (reason_number reason)
reading_faults reading src at store width reason store' e = subst (By (RowFault reading)) (sym e) (reading_by reading src at store width)
