-- A row with a count of 0 is no scanline by the document, though the document reading passes over the count.
use mathlib.Core.List.{List, [], ◌∷◌}
use mathlib.Core.Option.{none, some}
use mathlib.Core.Path.{◌≡◌, refl, sym, ap, ◌∙◌, subst}
use mathlib.Core.Logic.{⊎_elim}
use Prim.Native.Nat.{ℕ, zero, suc, ◌+◌, ◌-◌, min, ◌<◌}
use native.Mathlib.Numerals.{add-one}
use native.Mathlib.Omega.{arith}
use lib.Dec.{leb}
use lib.ListN.{length, get_or, drop}
use lib.Seq.{drop-cons}
use Rattle.steps.specs.Loop.{Turns, pick, Turn, more}
use Rattle.steps.specs.Width.{is_coded}
use Rattle.steps.proofs.Laws.Order.{by_order}
use Rattle.steps.proofs.Laws.Place.{drop_past}
use Rattle.steps.proofs.Laws.Turns.{by_test}
use Rattle.steps.specs.Answer.{Taken}
use Rattle.channels_read.specs.Channel as read
use Rattle.channels_read.specs.Channel.{Chan, chan, document_count, span_taken, span_of, channel_turn}
use Rattle.channels_read.specs.Channels.{Chans, chans, chans_turn}
use Rattle.channels_read.proofs.Laws.Channel.{channel_cases}
use Rattle.channels_read.proofs.Laws.Channels.{chans_cases}
use Rattle.pixel.specs.declared.Rgbe.{Rgbe}
use Rattle.kept.specs.Radiance.{Found, after, and_then, is_over, span, spans, component, components, mark, past, coded, scanline}
use Rattle.kept.specs.RadianceZero.{ZeroAt, ZeroRow}
use Rattle.kept.proofs.Laws.RadianceRows.{past_there}
use Rattle.kept.proofs.Laws.RadianceCounts.{Zero, counted, span_found, component_or}

-- ---- A component

-- none starts with a count of 0
zero_first : (counts n : ℕ) (bytes : List ℕ) → spans counts (suc n) (0 ∷ bytes) ≡ none
unfolding spans span is_over
zero_first zero n bytes = refl
zero_first (suc counts) n [] = refl
zero_first (suc counts) n (b ∷ bytes) = refl

-- a count with its bytes, where there is nothing behind them
nothing_behind : (counts n c : ℕ) (bytes ys rest : List ℕ) → span c bytes ≡ some (ys, rest) → ((k : ℕ) → spans k (suc n - length ys) rest ≡ none) → spans counts (suc n) (c ∷ bytes) ≡ none
unfolding spans
nothing_behind zero n c bytes ys rest e none-there = refl
nothing_behind (suc counts) n c bytes ys rest e none-there =
    ap (λ (z : Found (List ℕ)). and_then z (λ xs more. pick (leb (length xs) (suc n)) (after xs (spans counts (suc n - length xs) more)) none)) e
    ∙ ap (λ (z : Found (List ℕ)). pick (leb (length ys) (suc n)) (after ys z) none) (none-there counts)
    ∙ by_test (λ (z : Found (List ℕ)). z ≡ none) (leb (length ys) (suc n)) (λ _. refl) (λ _. refl)

module _ (src : List ℕ) (channel width : ℕ) where
  -- by the document there is nothing at x
  abbrev Nothing : Chan → Type 0
  Nothing x = (counts : ℕ) → spans counts (width - x.done) (drop x.at src) ≡ none

  -- the bytes at x, with what they start with
  front : (x : Chan) → x.at < length src → drop x.at src ≡ get_or src x.at 0 ∷ drop (x.at + 1) src
  front x l = rw (add-one x.at) (drop-cons src x.at 0 l)

  zero_here : (x : Chan) → ZeroAt src width x → Nothing x
  zero_here x count counts =
      let d = count.wants in
      let wide : width - x.done ≡ suc (width - x.done - 1) = omega arith in
      rw (wide, front x count.there, count.zero) (zero_first counts _ _)

  nothing_before : (x : Chan) (m : ℕ) → x.done < width → x.at < length src → document_count src x.at x.done width ≡ read.span m → 0 < get_or src x.at 0
      → Nothing (span_of src channel (get_or src x.at 0) m x) → Nothing x
  unfolding span_of
  nothing_before x m d l f h behind counts =
      let c : ℕ = get_or src x.at 0 in
      let (em, fits, there) = counted src x.at x.done width m f in
      let (ys, size, is) = span_found src c (x.at + 1) m em h (omega arith) in
      let j : ℕ = width - x.done - 1 in
      let wide : width - x.done ≡ suc j = omega arith in
      let left : suc j - length ys ≡ width - (x.done + m) = omega arith in
      let place : min (x.at + 1 + span_taken c m) (length src) ≡ x.at + 1 + span_taken c m = omega arith in
      rw (wide, front x l) (nothing_behind counts j c (drop (x.at + 1) src) ys (drop (x.at + 1 + span_taken c m) src) is (λ k. rw (left, ← place) (behind k)))

  -- so many counts before one that is 0
  zero_spans : (n : ℕ) (x y : Chan) → Turns (channel_turn document_count src channel width) n x y → ZeroAt src width y → Nothing x
  zero_spans zero x y e count = zero_here x (subst (ZeroAt src width) (sym e) count)
  zero_spans (suc n) x y (z, turn, turns) count =
      channel_cases document_count src channel width x (λ (t : Turn Chan (Taken × List ℕ)). t ≡ more z → Nothing x)
      (λ m d l f e. by_order 0 (get_or src x.at 0)
      (λ c. let is : z ≡ span_of src channel (get_or src x.at 0) m x = cc in nothing_before x m d l f c (subst Nothing is (zero_spans n z y turns count)))
      (λ c. zero_here x (record { wants = d; there = l; zero = omega arith })))
      (λ reason d l f e. let no : ◌≡◌ {A = ℕ} 0 1 = cc in absurd (omega arith))
      (λ m d l f e. let no : ◌≡◌ {A = ℕ} 0 1 = cc in absurd (omega arith))
      (λ d l e. let no : ◌≡◌ {A = ℕ} 0 1 = cc in absurd (omega arith))
      (λ d e. let no : ◌≡◌ {A = ℕ} 0 1 = cc in absurd (omega arith))
      turn

  zero_component : (p : ℕ) (store : List ℕ) → Zero src channel width (chan p 0 store) → component width (drop p src) ≡ none
  zero_component p store (n, y, turns, count) =
      let all : width - 0 ≡ width = omega arith in
      subst (λ (k : ℕ). spans width k (drop p src) ≡ none) all (zero_spans n (chan p 0 store) y turns count width)

-- ---- The row

module _ (src : List ℕ) (w : ℕ) where
  -- where the component has a count of 0 nothing is found, whatever comes next
  zero_then : (k p : ℕ) (store : List ℕ) (next : List ℕ → List ℕ → Found (List Rgbe)) → Zero src k w (chan p 0 store) → and_then (component w (drop p src)) next ≡ none
  zero_then k p store next z = ap (λ (u : Found (List ℕ)). and_then u next) (zero_component src k w p store z)

  -- nor where nothing is found behind it
  done_then : (x z : Chans) (next : List ℕ → List ℕ → Found (List Rgbe)) → chans_turn document_count src w x ≡ more z → ((xs : List ℕ) → next xs (drop z.at src) ≡ none) → and_then (component w (drop x.at src)) next ≡ none
  done_then x z next turn behind =
      chans_cases document_count src w x (λ (t : Turn Chans (Taken × List ℕ)). t ≡ more z → and_then (component w (drop x.at src)) next ≡ none)
      (λ n s h e t. let is : chans n (x.channel + 1) s ≡ z = cc in
      let place : z.at ≡ n = ap (λ (y : Chans). y.at) (sym is) in
      ⊎_elim (zero_then x.channel x.at x.store next)
      (λ (xs, found). ap (λ (u : Found (List ℕ)). and_then u next) found ∙ (rw place at (behind xs)))
      (component_or src x.at x.store x.channel w n s (sym e)))
      (λ reason s h e t. let no : ◌≡◌ {A = ℕ} 0 1 = cc in absurd (omega arith))
      (λ h t. let no : ◌≡◌ {A = ℕ} 0 1 = cc in absurd (omega arith))
      turn

  module _ (place : ℕ) (before : List ℕ) where
    at_place : (k : ℕ) (z : Chans) (next : List ℕ → List ℕ → Found (List Rgbe)) → z ≡ chans place k before → Zero src k w (chan place 0 before) → and_then (component w (drop z.at src)) next ≡ none
    at_place k z next e count =
        let is : z.at ≡ place = ap (λ (y : Chans). y.at) e in
        rw is (zero_then k place before next count)

    zero_components : (k : ℕ) (x : Chans) → k < 4 → Turns (chans_turn document_count src w) k x (chans place k before) → Zero src k w (chan place 0 before) → components w (drop x.at src) ≡ none
    unfolding components
    zero_components zero x h e count = at_place 0 x _ e count
    zero_components (suc zero) x h (z, t, e) count = done_then x z _ t (λ rs. at_place 1 z _ e count)
    zero_components (suc (suc zero)) x h (z, t, (z1, t1, e)) count = done_then x z _ t (λ rs. done_then z z1 _ t1 (λ gs. at_place 2 z1 _ e count))
    zero_components (suc (suc (suc zero))) x h (z, t, (z1, t1, (z2, t2, e))) count = done_then x z _ t (λ rs. done_then z z1 _ t1 (λ gs. done_then z1 z2 _ t2 (λ bs. at_place 3 z2 _ e count)))
    zero_components (suc (suc (suc (suc k)))) x h reached count = absurd (omega arith)

-- by the document there is no such row
pub zero_none : (src : List ℕ) (at : ℕ) (store : List ℕ) (w : ℕ) → ZeroRow src at store w → scanline w (drop at src) ≡ none
unfolding scanline is_coded coded
zero_none src at store w row =
    simp (row.coded, row.new) (go (past (mark w) (drop at src)) refl)
  where
    nothing : components w (drop (at + 4) src) ≡ none
    nothing = zero_components src w row.place row.before row.channel (chans (at + 4) 0 store) row.inside row.reached (row.counts, row.here, row.after, row.count)

    go : (z : Found (Unit {0})) → past (mark w) (drop at src) ≡ z → and_then z (λ _ rest. components w rest) ≡ none
    go none e = refl
    go (some u) e =
        let behind : drop (at + 4) src ≡ u.1 = drop_past src at (mark w) u.1 (past_there (mark w) (drop at src) u e) in
        rw (← behind) nothing
