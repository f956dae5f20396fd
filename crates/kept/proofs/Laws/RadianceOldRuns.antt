-- A flat scanline with its old runs: the document reading leaves the document's pixels in the store and takes just their bytes, or neither has any.
use mathlib.Core.Bool.{Bool, true, false}
use mathlib.Core.List.{List, [], ◌∷◌, ◌++◌}
use mathlib.Core.Option.{Option, none, some}
use mathlib.Core.Path.{◌≡◌, refl, sym, ap, ◌∙◌, subst}
use Prim.Native.Nat.{ℕ, zero, suc, ◌+◌, ◌-◌, ◌*◌, ◌^◌, ◌≤◌, ◌<◌}
use native.Mathlib.Omega.{arith}
use borrow.Author.Tests.{le-leb, lt-leb, lt-ltb, le-ltb}
use lib.Dec.{leb}
use lib.ListN.{length, get_or, drop, set, replicate, length-append, length-replicate, length-drop, length-set}
use lib.Pow.{pow-add}
use lib.Seq.{get_or-set_same, get_or-set_other}
use Rattle.steps.specs.Loop.{pick, more, halt}
use Rattle.steps.specs.Place.{bytes_from, spread}
use Rattle.steps.proofs.Laws.Loop.{Runs, runs_more, runs_halt}
use Rattle.steps.proofs.Laws.Order.{by_order}
use Rattle.steps.proofs.Laws.Place.{length_spread, spread_append, drop_past, bytes_there, get_or_bytes}
use Rattle.steps.specs.Answer.{Taken}
use Rattle.std.specs.Prelude.{Ok, Err}
use Rattle.steps.specs.declared.refusal.Reason.{Reason}
use Rattle.steps.specs.declared.refusal.Reason.TheVariants.{BrokenRow, BytesEnd}
use Rattle.pixel.specs.declared.Rgbe.{Rgbe}
use Rattle.flat_read.specs.Flat.{is_repeat, document_ones, document_flat, copies_to, flat_turn, flat_out}
use Rattle.flat_read.specs.Flat as read
use Rattle.flat_read.proofs.Laws.Flat.{four_there, flat_starts, flat_done, flat_missing, flat_ordinary}
use Rattle.flat_read.proofs.Laws.Pixels.{ones_first, pixel_ones}
use Rattle.kept.specs.Radiance.{rgbe, Found, after, is_old_run, Meaning, meaning, onward, ended, flat_from, flat, flat_bytes}
use Rattle.kept.proofs.Laws.RadianceFlat.{length_flat, itself}

-- ---- Stores

-- a pixel's four bytes
abbrev four : Rgbe → List ℕ
four q = q.r ∷ q.g ∷ q.b ∷ q.e ∷ []

-- what stands before a place is not touched by what is stored from there on
before_kept : (s : List ℕ) (i j : ℕ) (vs : List ℕ) → j < i → get_or (spread 1 s i vs) j 0 ≡ get_or s j 0
unfolding spread
before_kept s i j [] h = refl
before_kept s i j (v ∷ vs) h = before_kept (set s i v) (i + 1) j vs (omega arith) ∙ get_or-set_other s i j v 0 (λ e. omega arith)

-- what was stored stands there
stored_there : (s : List ℕ) (i : ℕ) (vs : List ℕ) → i + length vs ≤ length s → bytes_from (spread 1 s i vs) i (length vs) ≡ vs
unfolding spread bytes_from
stored_there s i [] h = refl
stored_there s i (v ∷ vs) h =
    let first : get_or (spread 1 (set s i v) (i + 1) vs) i 0 ≡ v = before_kept (set s i v) (i + 1) i vs (omega arith) ∙ get_or-set_same s i v 0 (omega arith) in
    rw first (ap (λ (l : List ℕ). v ∷ l) (stored_there (set s i v) (i + 1) vs (omega (arith, length-set s i v))))

pub flat_append : (ps qs : List Rgbe) → flat_bytes (ps ++ qs) ≡ flat_bytes ps ++ flat_bytes qs
flat_append [] qs = refl
flat_append (p ∷ ps) qs = ap (λ (l : List ℕ). p.r ∷ p.g ∷ p.b ∷ p.e ∷ l) (flat_append ps qs)

copies_bytes : (n : ℕ) (q : Rgbe) → read.copies n (four q) ≡ flat_bytes (replicate n q)
copies_bytes zero q = refl
copies_bytes (suc n) q = ap (λ (l : List ℕ). q.r ∷ q.g ∷ q.b ∷ q.e ∷ l) (copies_bytes n q)

-- the pixel before a place of the store, where there is one
abbrev Before : List ℕ → ℕ → Option Rgbe → Type 0
Before store place none = place < 4
Before store place (some q) = (4 ≤ place) × (bytes_from store (place - 4) 4 ≡ four q)

-- after n copies of it, it stands before the next place too
copied : (n : ℕ) (s : List ℕ) (i : ℕ) (q : Rgbe) → i + 4 * n ≤ length s → Before s i (some q) → Before (spread 1 s i (flat_bytes (replicate n q))) (i + 4 * n) (some q)
unfolding spread
copied zero s i q h b = subst (λ (k : ℕ). Before s k (some q)) (omega arith) b
copied (suc n) s i q h b =
    let s' : List ℕ = spread 1 s i (four q) in
    let size = length_spread 1 s i (four q) in
    let here : i + 4 - 4 ≡ i = omega arith in
    let next : i + 4 + 4 * n ≡ i + 4 * suc n = omega arith in
    let place : i + 1 * 4 ≡ i + 4 = omega arith in
    let first : bytes_from s' (i + 4 - 4) 4 ≡ four q = rw here (stored_there s i (four q) (omega arith)) in
    let split : spread 1 s i (flat_bytes (replicate (suc n) q)) ≡ spread 1 s' (i + 4) (flat_bytes (replicate n q)) = spread_append 1 s i (four q) (flat_bytes (replicate n q)) ∙ ap (λ (k : ℕ). spread 1 s' k (flat_bytes (replicate n q))) place in
    subst (λ (l : List ℕ). Before l (i + 4 * suc n) (some q)) (sym split)
    (subst (λ (k : ℕ). Before (spread 1 s' (i + 4) (flat_bytes (replicate n q))) k (some q)) next (copied n s' (i + 4) q (omega arith) (omega arith, first)))

-- ---- What both have

-- The document has nothing from a place on, and the row is at fault; or it has so many pixels, which are in the store from a place on, and just their
-- bytes are taken.
abbrev pub Both : List ℕ → ℕ → List ℕ → ℕ → ℕ → Found (List Rgbe) → Taken × List ℕ → Type 0
Both src at store place wanted none a = (reason : Reason) × (s : List ℕ) × (a ≡ (Err reason, s))
Both src at store place wanted (some z) a =
    (front : List ℕ) × (drop at src ≡ front ++ z.1) × (length z.0 ≡ wanted) × (a ≡ (Ok (at + length front), spread 1 store place (flat_bytes z.0)))

-- a stored pixel that stands for the pixels ps, and then what both have
both_after : (src : List ℕ) (at : ℕ) (store : List ℕ) (place wanted : ℕ) (a : Taken × List ℕ) (q : Rgbe) (bytes : List ℕ) (ps : List Rgbe) (z : Found (List Rgbe)) → drop at src ≡ four q ++ bytes → drop (at + 4) src ≡ bytes → length ps ≤ wanted
    → Both src (at + 4) (spread 1 store place (flat_bytes ps)) (place + 4 * length ps) (wanted - length ps) z a → Both src at store place wanted (after ps z) a
both_after src at store place wanted a q bytes ps none e d h both = both
both_after src at store place wanted a q bytes ps (some (qs, rest)) e d h (front, there, size, is) =
    let stored : spread 1 (spread 1 store place (flat_bytes ps)) (place + 4 * length ps) (flat_bytes qs) ≡ spread 1 store place (flat_bytes (ps ++ qs)) =
    ap (λ (k : ℕ). spread 1 (spread 1 store place (flat_bytes ps)) k (flat_bytes qs)) (omega (arith, length_flat ps))
    ∙ sym (spread_append 1 store place (flat_bytes ps) (flat_bytes qs)) ∙ ap (spread 1 store place) (sym (flat_append ps qs)) in
    let ends : at + 4 + length front ≡ at + length (four q ++ front) = omega arith in (
      four q ++ front,
      e ∙ ap (λ (l : List ℕ). four q ++ l) (sym d ∙ there),
      omega (arith, length-append ps qs),
      is ∙ rw (ends, stored),
    )

-- ---- Pixel by pixel

module _ (src : List ℕ) (a : Taken × List ℕ) where
  -- the document reading goes on from there to the answer a
  abbrev From : ℕ → ℕ → ℕ → ℕ → List ℕ → Type 0
  From at place wanted repeats store = Runs (flat_turn document_flat src) flat_out (length src - at) (read.flat at place wanted repeats store) a

  -- whatever was read before, both have the same from a place on
  abbrev Goes : List ℕ → ℕ → Type 0
  Goes bytes at =
      (place repeats : ℕ) (store : List ℕ) (before : Option Rgbe) (weight wanted : ℕ) → weight ≡ 256 ^ repeats → Before store place before → place + 4 * wanted ≤ length store
      → From at place wanted repeats store → Both src at store place wanted (flat_from bytes before weight wanted) a

  -- no pixel is wanted, or fewer than four bytes are left
  both_ended : (bytes : List ℕ) (at place wanted repeats : ℕ) (store : List ℕ) → drop at src ≡ bytes → (0 < wanted → length bytes < 4) → From at place wanted repeats store
      → Both src at store place wanted (ended wanted bytes) a
  unfolding spread
  both_ended bytes at place zero repeats store e h r =
      let here : at ≡ at + 0 = omega arith in
      ([], e, refl, sym (flat_done document_flat src at place 0 repeats store a r (omega arith)) ∙ ap (λ (i : ℕ). (Ok i, store)) here)
  both_ended bytes at place (suc n) repeats store e h r =
      let few = h (omega arith) in
      (BytesEnd, _, sym (flat_missing document_flat src at place (suc n) repeats store a r (omega arith) (omega (arith, ap length e, length-drop at src))))

  -- a pixel of which all four bytes are there
  module _ (q : Rgbe) (bytes : List ℕ) (at : ℕ) (e : drop at src ≡ four q ++ bytes) where
    room : at + 4 ≤ length src
    room = omega (arith, ap length e, length-drop at src)

    next : drop (at + 4) src ≡ bytes
    next = drop_past src at (four q) bytes e

    same : bytes_from src at 4 ≡ four q
    same = bytes_there src at (four q) bytes e

    byte : (i : ℕ) → i < 4 → get_or src (at + i) 0 ≡ get_or (four q) i 0
    byte i h = sym (get_or_bytes src at 4 i h) ∙ ap (λ (l : List ℕ). get_or l i 0) same

    old_run : is_repeat src at ≡ is_old_run q
    unfolding is_repeat is_old_run
    old_run =
        let first : get_or src at 0 ≡ q.r = ap (λ (i : ℕ). get_or src i 0) (omega arith) ∙ byte 0 (omega arith) in
        rw (first, byte 1 (omega arith), byte 2 (omega arith))

    module _ (goes : Goes bytes (at + 4)) (place repeats : ℕ) (store : List ℕ) (weight n : ℕ) (inside : place + 4 * suc n ≤ length store) (r : From at place (suc n) repeats store) where
      both_ordinary : (before : Option Rgbe) → is_old_run q ≡ false → Both src at store place (suc n) (onward (meaning before weight q) (suc n) (flat_from bytes)) a
      both_ordinary before t =
          let s : List ℕ = spread 1 store place (four q) in
          let filled : s ≡ read.four_to src at store place = ap (spread 1 store place) (sym same) ∙ sym (four_there src at store place room) in
          let here : place + 4 - 4 ≡ place = omega arith in
          let means : onward (meaning before weight q) (suc n) (flat_from bytes) ≡ after (q ∷ []) (flat_from bytes (some q) 1 (suc n - 1)) =
          ap (λ (z : Option Meaning). onward z (suc n) (flat_from bytes)) (itself q before weight t) ∙ simp (le-leb 1 (suc n) (omega arith)) in
          subst (λ (z : Found (List Rgbe)). Both src at store place (suc n) z a) (sym means)
          (both_after src at store place (suc n) a q bytes (q ∷ []) (flat_from bytes (some q) 1 (suc n - 1)) e next (omega arith)
          (goes (place + 4) 0 s (some q) 1 (suc n - 1) refl (omega arith, rw here (stored_there store place (four q) (omega arith))) (omega (arith, length_spread 1 store place (four q)))
          (flat_ordinary document_flat src at place (suc n) repeats store a r (omega arith) _ room (old_run ∙ t) (ap (read.flat (at + 4) (place + 4) (suc n - 1) 0) filled))))

      -- what the document reading does with a 1,1,1,n
      turn : is_old_run q ≡ true → document_ones src (read.flat at place (suc n) repeats store) ≡ flat_turn document_flat src (read.flat at place (suc n) repeats store)
      unfolding document_flat
      turn t = pixel_ones document_flat src at place (suc n) repeats store (omega arith) room true (sym (old_run ∙ t)) _ refl refl

      both_first : is_old_run q ≡ true → place < 4 → Both src at store place (suc n) (onward (meaning none weight q) (suc n) (flat_from bytes)) a
      unfolding meaning document_flat
      both_first t h = simp t (BrokenRow, store, sym (runs_halt r (sym (turn t) ∙ sym (ones_first src at place (suc n) repeats store h))))

      module _ (p : Rgbe) (t : is_old_run q ≡ true) (ew : weight ≡ 256 ^ repeats) (before : Before store place (some p)) where
        abbrev ps : List Rgbe
        ps = replicate (q.e * weight) p

        abbrev others : Found (List Rgbe)
        others = flat_from bytes (some p) (weight * 256) (suc n - length ps)

        means_copies : onward (meaning (some p) weight q) (suc n) (flat_from bytes) ≡ pick (leb (length ps) (suc n)) (after ps others) none
        unfolding meaning
        means_copies = simp t

        times : read.times_of src (read.flat at place (suc n) repeats store) ≡ length ps
        times = rw (byte 3 (omega arith), ← ew) (sym (length-replicate (q.e * weight) p))

        past_end : suc n < length ps → document_ones src (read.flat at place (suc n) repeats store) ≡ halt (Err BrokenRow, store)
        unfolding document_ones
        past_end h = rw times (simp (le-ltb place 4 before.0, lt-ltb (suc n) (length ps) h))

        copies_made : length ps ≤ suc n → document_ones src (read.flat at place (suc n) repeats store) ≡ more (read.flat (at + 4) (place + 4 * length ps) (suc n - length ps) (repeats + 1) (spread 1 store place (flat_bytes ps)))
        unfolding document_ones copies_to
        copies_made h =
            let bytes_of : read.copies (length ps) (bytes_from store (place - 4) 4) ≡ flat_bytes ps = ap (read.copies (length ps)) before.1 ∙ copies_bytes (length ps) p ∙ ap (λ (k : ℕ). flat_bytes (replicate k p)) (length-replicate (q.e * weight) p) in
            rw times (simp (le-ltb place 4 before.0, le-ltb (suc n) (length ps) h, bytes_of))

        both_copies : Both src at store place (suc n) (onward (meaning (some p) weight q) (suc n) (flat_from bytes)) a
        both_copies = subst (λ (z : Found (List Rgbe)). Both src at store place (suc n) z a) (sym means_copies) (by_order (suc n) (length ps) past fits)
          where
            past : suc n < length ps → Both src at store place (suc n) (pick (leb (length ps) (suc n)) (after ps others) none) a
            past h = simp (lt-leb (length ps) (suc n) h) (BrokenRow, store, sym (runs_halt r (sym (turn t) ∙ past_end h)))

            fits : length ps ≤ suc n → Both src at store place (suc n) (pick (leb (length ps) (suc n)) (after ps others) none) a
            fits h =
                let size : length ps ≡ q.e * weight = length-replicate (q.e * weight) p in
                let heavier : weight * 256 ≡ 256 ^ (repeats + 1) = ap (λ (k : ℕ). k * 256) ew ∙ sym (pow-add 256 repeats 1) in
                let again : Before (spread 1 store place (flat_bytes ps)) (place + 4 * length ps) (some p) = rw size (copied (q.e * weight) store place p (omega arith) before) in
                simp (le-leb (length ps) (suc n) h)
                (both_after src at store place (suc n) a q bytes ps others e next h
                (goes (place + 4 * length ps) (repeats + 1) (spread 1 store place (flat_bytes ps)) (some p) (weight * 256) (suc n - length ps) heavier again (omega (arith, length_spread 1 store place (flat_bytes ps)))
                (runs_more r (sym (turn t) ∙ copies_made h) (omega (arith, room)))))

      both_pixel : (before : Option Rgbe) → weight ≡ 256 ^ repeats → Before store place before → (t : Bool) → is_old_run q ≡ t → Both src at store place (suc n) (onward (meaning before weight q) (suc n) (flat_from bytes)) a
      both_pixel before ew b false t = both_ordinary before t
      both_pixel none ew b true t = both_first t b
      both_pixel (some p) ew b true t = both_copies p t ew b

  both_goes : (bytes : List ℕ) (at : ℕ) → drop at src ≡ bytes → Goes bytes at
  unfolding flat_from
  both_goes [] at e place repeats store before weight wanted ew b h r = both_ended [] at place wanted repeats store e (λ _. omega arith) r
  both_goes (x ∷ []) at e place repeats store before weight wanted ew b h r = both_ended (x ∷ []) at place wanted repeats store e (λ _. omega arith) r
  both_goes (x ∷ y ∷ []) at e place repeats store before weight wanted ew b h r = both_ended (x ∷ y ∷ []) at place wanted repeats store e (λ _. omega arith) r
  both_goes (x ∷ y ∷ z ∷ []) at e place repeats store before weight wanted ew b h r = both_ended (x ∷ y ∷ z ∷ []) at place wanted repeats store e (λ _. omega arith) r
  both_goes (x ∷ y ∷ z ∷ l ∷ bytes) at e place repeats store before weight zero ew b h r = both_ended (x ∷ y ∷ z ∷ l ∷ bytes) at place zero repeats store e (λ some-wanted. absurd (omega arith)) r
  both_goes (x ∷ y ∷ z ∷ l ∷ bytes) at e place repeats store before weight (suc n) ew b h r =
      both_pixel (rgbe x y z l) bytes at e (both_goes bytes (at + 4) (next (rgbe x y z l) bytes at e)) place repeats store weight n h r before ew b (is_old_run (rgbe x y z l)) refl

-- the whole flat part, from the start of the store
pub flat_both : (src : List ℕ) (at : ℕ) (store : List ℕ) (w : ℕ) → 4 * w ≤ length store → Both src at store 0 w (flat w (drop at src)) (read.flat_of document_flat src at store 0 w)
flat_both src at store w h = both_goes src _ (drop at src) at refl 0 0 store none 1 w refl (omega arith) (omega arith) (flat_starts document_flat src at store 0 w)
