-- The laws of `specs/Channel.antt`: of a span, of a rule for counts, and of the channel by any such rule.
use Prim.{Unit}
use Prim.Native.Nat.{ℕ, ◌+◌, ◌-◌, ◌*◌, min, ◌<◌, ◌≤◌}
use native.Mathlib.Omega.{arith}
use mathlib.Core.Bool.{Bool, true, false}
use mathlib.Core.List.{List}
use mathlib.Core.Path.{◌≡◌, refl, sym, ap, subst, ◌∙◌}
use borrow.Author.Tests.{lt-ltb, le-ltb, ltb-true, ltb-false}
use lib.Dec.{ltb}
use lib.ListN.{length, get_or, replicate}
use Rattle.steps.specs.Loop.{Turn, more, halt, run}
use Rattle.steps.specs.Place.{bytes_from, spread}
use Rattle.steps.proofs.Laws.Loop.{Runs, runs_start, runs_more, runs_halt}
use Rattle.steps.proofs.Laws.Order.{by_order}
use Rattle.steps.proofs.Laws.Turns.{by_test, Falls, never_out}
use Rattle.steps.specs.Answer.{Taken}
use Rattle.std.specs.Prelude.{Ok, Err}
use Rattle.steps.specs.declared.refusal.Reason.{Reason}
use Rattle.steps.specs.declared.refusal.Reason.TheVariants.{BrokenRow, BytesEnd}
use Rattle.steps.specs.declared.Reading.{Reading}
use Rattle.steps.specs.declared.Reading.TheVariants.{Crate, Document}
use Rattle.channels_read.specs.Channel.{Chan, chan, Count, span, fault, short, CountRule, crate_count, document_count, count_rule, behind, lacking, counted, channel_of, channel_out, channel_turn, is_run, span_bytes, span_length, span_of, span_taken}

-- ---- A span

pub length_run : (c : ℕ) → 128 < c → c - 128 ≡ span_length c
unfolding span_length is_run
length_run c h = simp (lt-ltb 128 c h)

pub length_literals : (c : ℕ) → c ≤ 128 → c ≡ span_length c
unfolding span_length is_run
length_literals c h = simp (le-ltb 128 c h)

-- how many bytes a run and literals take
pub taken_run : (c n : ℕ) → 128 < c → span_taken c n ≡ 1
unfolding span_taken is_run
taken_run c n h = simp (lt-ltb 128 c h)

pub taken_literals : (c n : ℕ) → c ≤ 128 → span_taken c n ≡ n
unfolding span_taken is_run
taken_literals c n h = simp (le-ltb 128 c h)

-- what the code does of a run, and of literals
pub span_run : (src store store' : List ℕ) (channel p done c n v next : ℕ) → 128 < c → v ≡ get_or src (p + 1) 0
    → store' ≡ spread 4 store (channel + 4 * done) (replicate n v) → next ≡ min (p + 1 + 1) (length src)
    → chan next (done + n) store' ≡ span_of src channel c n (chan p done store)
unfolding span_of span_bytes span_taken is_run
span_run src store store' channel p done c n v next h ev es ex = rw (ex, es, ev) (simp (lt-ltb 128 c h))

pub span_literals : (src store store' : List ℕ) (channel p done c n next : ℕ) → c ≤ 128
    → store' ≡ spread 4 store (channel + 4 * done) (bytes_from src (p + 1) n) → next ≡ min (p + 1 + n) (length src)
    → chan next (done + n) store' ≡ span_of src channel c n (chan p done store)
unfolding span_of span_bytes span_taken is_run
span_literals src store store' channel p done c n next h es ex = rw (ex, es) (simp (le-ltb 128 c h))

-- a span takes its count at least, and nothing past the end
pub span_onward : (src : List ℕ) (channel c n : ℕ) (x : Chan) → x.at < length src
    → (x.at < (span_of src channel c n x).at) × ((span_of src channel c n x).at ≤ length src)
unfolding span_of
span_onward src channel c n x h = omega arith

-- ---- What a rule for counts may promise

-- no bytes are put past the row's end
abbrev pub PutsInside : ℕ → ℕ → Count → Type 0
PutsInside done width (span n) = done + n ≤ width
PutsInside done width (fault reason) = Unit {0}
PutsInside done width (short n) = done + n ≤ width

abbrev pub StaysInside : CountRule → Type 0
StaysInside rule = (src : List ℕ) (at done width : ℕ) → done < width → PutsInside done width (rule src at done width)

-- a count that fits into the row, with all its bytes there, is taken whole
abbrev pub TakesWhole : CountRule → Type 0
TakesWhole rule =
    (src : List ℕ) (at done width c n : ℕ) → c ≡ get_or src at 0 → n ≡ span_length c → done + n ≤ width → at + 1 + span_taken c n ≤ length src → rule src at done width ≡ span n

pub crate_inside : StaysInside crate_count
unfolding crate_count
crate_inside src at done width h = omega arith

-- what the code finds of a count
pub crate_count_lem : (src : List ℕ) (p done width c m n : ℕ) → c ≡ get_or src p 0 → m ≡ span_length c → n ≡ min m (width - done) → crate_count src p done width ≡ span n
unfolding crate_count
crate_count_lem src p done width c m n ec em en = rw (en, em, ec)

pub crate_whole : TakesWhole crate_count
crate_whole src at done width c n ec en h k = crate_count_lem src at done width c n n ec en (omega arith)

-- ---- The document reading

-- what a count takes is no more than it asks for
taken_most : (c : ℕ) → span_taken c (span_length c) ≤ span_length c
taken_most c =
    by_order 128 c (λ h. omega (arith, taken_run c (span_length c) h, length_run c h)) (λ h. omega (arith, taken_literals c (span_length c) h))

pub lacks_run : (there c n : ℕ) → 128 < c → ltb there 1 ≡ ltb there (span_taken c n)
lacks_run there c n h = rw (taken_run c n h)

pub lacks_literals : (there c n : ℕ) → c ≤ 128 → ltb there n ≡ ltb there (span_taken c n)
lacks_literals there c n h = rw (taken_literals c n h)

pub lacking_run : (src : List ℕ) (p c : ℕ) → 128 < c → lacking src p c ≡ fault BytesEnd
unfolding is_run
lacking_run src p c h = simp (lt-ltb 128 c h)

pub lacking_literals : (src : List ℕ) (p c : ℕ) → c ≤ 128 → lacking src p c ≡ short (behind src p)
unfolding is_run
lacking_literals src p c h = simp (le-ltb 128 c h)

-- what the code puts of a count that lacks bytes
pub put_none : (src : List ℕ) (channel p done c : ℕ) (store : List ℕ) → 128 < c → counted src channel (chan p done store) (lacking src p c) ≡ halt (Err BytesEnd, store)
put_none src channel p done c store h = rw (lacking_run src p c h)

pub put_some : (src : List ℕ) (channel p done c next done' n : ℕ) (store store' : List ℕ) → c ≤ 128 → c ≡ get_or src p 0 → n ≡ length src
    → chan next done' store' ≡ span_of src channel c (n - (p + 1)) (chan p done store) → counted src channel (chan p done store) (lacking src p c) ≡ halt (Err BytesEnd, store')
put_some src channel p done c next done' n store store' h ec en e = rw (lacking_literals src p c h, ← ec, ← en, ← e)

module _ (src : List ℕ) (p done width c n : ℕ) (ec : c ≡ get_or src p 0) (en : n ≡ span_length c) where
  pub document_past : width - done < n → document_count src p done width ≡ fault BrokenRow
  unfolding document_count
  document_past h = rw (← ec, ← en) (simp (lt-ltb (width - done) n h))

  module _ (h : n ≤ width - done) (b : Bool) (eb : b ≡ ltb (behind src p) (span_taken c n)) where
    pub document_lacks : b ≡ true → document_count src p done width ≡ lacking src p c
    unfolding document_count
    document_lacks t = rw (← ec, ← en) (simp (le-ltb (width - done) n h, sym eb ∙ t))

    pub document_span : b ≡ false → document_count src p done width ≡ span n
    unfolding document_count
    document_span t = rw (← ec, ← en) (simp (le-ltb (width - done) n h, sym eb ∙ t))

    -- so many bytes have room in the row
    pub lacking_room : b ≡ true → (m m' : ℕ) → done < width → 4 * width ≤ m → m' ≡ m → 4 * (done + behind src p) ≤ m'
    lacking_room t m m' d l e =
        let short = ltb-true (behind src p) (span_taken c n) (sym eb ∙ t) in
        let most : span_taken c n ≤ n = rw en (taken_most c) in
        omega arith

-- a span is all that its count asks for, and all of it is there
pub document_spans : (src : List ℕ) (at done width k : ℕ) → at < length src → document_count src at done width ≡ span k
    → (k ≡ span_length (get_or src at 0)) × (at + 1 + span_taken (get_or src at 0) k ≤ length src)
unfolding document_count
document_spans src at done width k l =
    let c : ℕ = get_or src at 0 in
    let n : ℕ = span_length c in
    by_test L (ltb (width - done) n) (λ t e. absurd (no_span BrokenRow k e))
    (λ t. by_test L (ltb (behind src at) (span_taken c n))
    (λ u. by_test L (is_run c) (λ _ e. absurd (no_span BytesEnd k e)) (λ _ e. absurd (no_short _ k e)))
    (λ u e. let is : n ≡ k = cc in
    let there = ltb-false (behind src at) (span_taken c n) u in
    (sym is, subst (λ (i : ℕ). at + 1 + span_taken c i ≤ length src) is (omega arith))))
  where
    L : Count → Type 0
    L z = z ≡ span k → (k ≡ span_length (get_or src at 0)) × (at + 1 + span_taken (get_or src at 0) k ≤ length src)

    no_span : (reason : Reason) (k : ℕ) → ◌≡◌ {A = Count} (fault reason) (span k) → ⊥
    no_span reason k e = let z : ◌≡◌ {A = ℕ} 0 1 = cc in omega arith

    no_short : (n k : ℕ) → ◌≡◌ {A = Count} (short n) (span k) → ⊥
    no_short n k e = let z : ◌≡◌ {A = ℕ} 0 1 = cc in omega arith

pub document_whole : TakesWhole document_count
document_whole src at done width c n ec en h k = document_span src at done width c n ec en (omega arith) false (sym (le-ltb (behind src at) (span_taken c n) (omega arith))) refl

pub document_inside : StaysInside document_count
unfolding document_count
document_inside src at done width h =
    let c : ℕ = get_or src at 0 in
    let n : ℕ = span_length c in
    by_test (PutsInside done width) (ltb (width - done) n) (λ t. tt)
    (λ t. let l = ltb-false (width - done) n t in
    by_test (PutsInside done width) (ltb (behind src at) (span_taken c n))
    (λ u. let s = ltb-true (behind src at) (span_taken c n) u in by_test (PutsInside done width) (is_run c) (λ _. tt) (λ _. omega (arith, taken_most c)))
    (λ u. omega arith))

pub reading_inside : (reading : Reading) → StaysInside (count_rule reading)
reading_inside Crate = crate_inside
reading_inside Document = document_inside

pub reading_whole : (reading : Reading) → TakesWhole (count_rule reading)
reading_whole Crate = crate_whole
reading_whole Document = document_whole

-- ---- A turn

-- case by case
pub channel_cases : (rule : CountRule) (src : List ℕ) (channel width : ℕ) (x : Chan) (L : Turn Chan (Taken × List ℕ) → Type 0)
    → ((n : ℕ) → x.done < width → x.at < length src → rule src x.at x.done width ≡ span n → L (more (span_of src channel (get_or src x.at 0) n x)))
    → ((reason : Reason) → x.done < width → x.at < length src → rule src x.at x.done width ≡ fault reason → L (halt (Err reason, x.store)))
    → ((n : ℕ) → x.done < width → x.at < length src → rule src x.at x.done width ≡ short n → L (halt (Err BytesEnd, (span_of src channel (get_or src x.at 0) n x).store)))
    → (x.done < width → length src ≤ x.at → L (halt (Err BytesEnd, x.store)))
    → (width ≤ x.done → L (halt (Ok x.at, x.store))) → L (channel_turn rule src channel width x)
unfolding channel_turn
channel_cases rule src channel width x L spans faults shorts missing done =
    by_test L (ltb x.done width)
    (λ t. let h = ltb-true x.done width t in
    by_test L (ltb x.at (length src))
    (λ u. by_count h (ltb-true x.at (length src) u) (rule src x.at x.done width) refl)
    (λ u. missing h (ltb-false x.at (length src) u)))
    (λ t. done (ltb-false x.done width t))
  where
    by_count : x.done < width → x.at < length src → (z : Count) → rule src x.at x.done width ≡ z → L (counted src channel x z)
    by_count h k (span n) e = spans n h k e
    by_count h k (fault reason) e = faults reason h k e
    by_count h k (short n) e = shorts n h k e

module _ (rule : CountRule) (src : List ℕ) (channel width : ℕ) (x : Chan) where
  pub turn_done : width ≤ x.done → channel_turn rule src channel width x ≡ halt (Ok x.at, x.store)
  unfolding channel_turn
  turn_done h = simp (le-ltb x.done width h)

  pub turn_short : x.done < width → length src ≤ x.at → channel_turn rule src channel width x ≡ halt (Err BytesEnd, x.store)
  unfolding channel_turn
  turn_short h k = simp (lt-ltb x.done width h, le-ltb x.at (length src) k)

  -- what the rule says of a count
  pub turn_count : (z : Count) → x.done < width → x.at < length src → rule src x.at x.done width ≡ z → channel_turn rule src channel width x ≡ counted src channel x z
  unfolding channel_turn
  turn_count z h k e = simp (lt-ltb x.done width h, lt-ltb x.at (length src) k, e)

  pub turn_span : (n : ℕ) → x.done < width → x.at < length src → rule src x.at x.done width ≡ span n
      → channel_turn rule src channel width x ≡ more (span_of src channel (get_or src x.at 0) n x)
  turn_span n = turn_count (span n)

  pub turn_fault : (reason : Reason) → x.done < width → x.at < length src → rule src x.at x.done width ≡ fault reason → channel_turn rule src channel width x ≡ halt (Err reason, x.store)
  turn_fault reason = turn_count (fault reason)

-- a turn of the code, over the values that it has in hand
module _ (src : List ℕ) (channel p done : ℕ) (store : List ℕ) (next done' : ℕ) (store' : List ℕ) (c n : ℕ) where
  pub span_less : p < length src → chan next done' store' ≡ span_of src channel c n (chan p done store) → length src - next < length src - p
  span_less h e = omega (arith, ap (λ (x : Chan). x.at) e, span_onward src channel c n (chan p done store) h)

  pub span_again : (rule : CountRule) (width : ℕ) (a : Taken × List ℕ) → Runs (channel_turn rule src channel width) channel_out (length src - p) (chan p done store) a
      → done < width → p < length src → c ≡ get_or src p 0 → rule src p done width ≡ span n
      → chan next done' store' ≡ span_of src channel c n (chan p done store)
      → Runs (channel_turn rule src channel width) channel_out (length src - next) (chan next done' store') a
  span_again rule width a r h k ec en e =
      runs_more r (turn_span rule src channel width (chan p done store) n h k en ∙ rw (e, ec)) (span_less k e)

  pub crate_again : (width m : ℕ) (a : Taken × List ℕ) → Runs (channel_turn crate_count src channel width) channel_out (length src - p) (chan p done store) a
      → done < width → p < length src → c ≡ get_or src p 0 → m ≡ span_length c → n ≡ min m (width - done)
      → chan next done' store' ≡ span_of src channel c n (chan p done store)
      → Runs (channel_turn crate_count src channel width) channel_out (length src - next) (chan next done' store') a
  crate_again width m a r h k ec em en e = span_again crate_count width a r h k ec (crate_count_lem src p done width c m n ec em en) e

  pub document_again : (width : ℕ) (b : Bool) (a : Taken × List ℕ) → Runs (channel_turn document_count src channel width) channel_out (length src - p) (chan p done store) a
      → done < width → p < length src → c ≡ get_or src p 0 → n ≡ span_length c → n ≤ width - done → b ≡ ltb (behind src p) (span_taken c n) → b ≡ false
      → chan next done' store' ≡ span_of src channel c n (chan p done store)
      → Runs (channel_turn document_count src channel width) channel_out (length src - next) (chan next done' store') a
  document_again width b a r h k ec en l eb t e = span_again document_count width a r h k ec (document_span src p done width c n ec en l b eb t) e

-- a row at fault by the document reading, over the same
module _ (src : List ℕ) (channel p done : ℕ) (store : List ℕ) (c n width : ℕ) (a : Taken × List ℕ)
    (r : Runs (channel_turn document_count src channel width) channel_out (length src - p) (chan p done store) a)
    (h : done < width) (k : p < length src) (ec : c ≡ get_or src p 0) (en : n ≡ span_length c) where
  pub document_fault : width - done < n → (Err BrokenRow, store) ≡ a
  document_fault l = runs_halt r (turn_fault document_count src channel width (chan p done store) BrokenRow h k (document_past src p done width c n ec en l))

  pub document_short : (b : Bool) (store' : List ℕ) → n ≤ width - done → b ≡ ltb (behind src p) (span_taken c n) → b ≡ true
      → counted src channel (chan p done store) (lacking src p c) ≡ halt (Err BytesEnd, store') → (Err BytesEnd, store') ≡ a
  document_short b store' l eb t e =
      runs_halt r (turn_count document_count src channel width (chan p done store) (lacking src p c) h k (document_lacks src p done width c n ec en l b eb t) ∙ e)

-- ---- The channel

-- by the reading that the code has in hand
module _ (reading : Reading) (src : List ℕ) (at : ℕ) (store : List ℕ) (channel width : ℕ) (a : Taken × List ℕ) where
  pub by_crate : reading ≡ Crate → a ≡ channel_of crate_count src at store channel width → a ≡ channel_of (count_rule reading) src at store channel width
  by_crate r e = rw r e

  pub by_document : reading ≡ Document → a ≡ channel_of document_count src at store channel width → a ≡ channel_of (count_rule reading) src at store channel width
  by_document r e = rw r e

pub channel_starts : (rule : CountRule) (src : List ℕ) (at : ℕ) (store : List ℕ) (channel width : ℕ)
    → Runs (channel_turn rule src channel width) channel_out (length src - at) (chan at 0 store) (channel_of rule src at store channel width)
unfolding channel_of
channel_starts rule src at store channel width = runs_start _ _ _ _ _ (omega arith)

-- each turn that goes on takes a byte
pub channel_falls : (rule : CountRule) (src : List ℕ) (channel width : ℕ) (x : Chan) → Falls (λ (y : Chan). length src - y.at) x (channel_turn rule src channel width x)
channel_falls rule src channel width x =
    channel_cases rule src channel width x (Falls (λ (y : Chan). length src - y.at) x)
    (λ n h k e. omega (arith, span_onward src channel (get_or src x.at 0) n x k))
    (λ reason h k e. tt)
    (λ n h k e. tt)
    (λ h k. tt)
    (λ h. tt)

-- so the turns never run out: what `channel_out` says is nowhere the answer
pub channel_never_out : (rule : CountRule) (src : List ℕ) (at : ℕ) (store : List ℕ) (channel width : ℕ) (out : Chan → Taken × List ℕ)
    → channel_of rule src at store channel width ≡ run (channel_turn rule src channel width) out (length src + 1) (chan at 0 store)
unfolding channel_of
channel_never_out rule src at store channel width out =
    never_out (channel_turn rule src channel width) channel_out out (λ x. length src - x.at) (channel_falls rule src channel width) _ _ (omega arith)
