-- The part that the scan finds: what gathers is one short run or literals, and a long run may follow.
use mathlib.Core.Path.{◌≡◌, refl, sym, ap, ◌∙◌, subst}
use mathlib.Core.Logic.{⊎_elim}
use mathlib.Core.Bool.{Bool, true, false}
use mathlib.Core.List.{List, [], ◌∷◌, ◌++◌, append_assoc, append-nil}
use Prim.Native.Nat.{ℕ, zero, suc, ◌+◌, ◌-◌, ◌*◌, ◌≤◌, ◌<◌}
use native.Mathlib.Omega.{arith}
use native.Mathlib.Nat.{add-zero}
use lib.ListN.{length, get_or, take, drop, drop_of_length-le}
use lib.Seq.{drop-drop, get_or-drop, get_or-take, length-take-le}
use borrow.Author.Tests.{le-leb, lt-leb}
use Rattle.steps.specs.Loop.{pick}
use Rattle.channels_written.specs.Channel.{Run, run, cut, literals, packet, stretch, gather, code, channel}
use Rattle.channels_written.specs.Inner.{FourEqual, Short, one_run, run_of, Gathers, Stops, Front, gathered_of, long_of, part_of, first_part, Parted}
use Rattle.channels_written.specs.declared.Part.{Part}
use Rattle.channels_written.proofs.Laws.Channel.{bytes_cut, gather_long}
use Rattle.channels_written.proofs.Laws.Gather.{gathers_code, short_size}
use Rattle.channels_written.proofs.Laws.OneRun.{one_run_lem, not_one_run}
use Rattle.channels_written.proofs.Laws.Places.{length_channel, drop_channel, take_channel}

-- ---- a run that may be none

pub run_none : (v n : ℕ) → n ≡ 0 → run_of v n ≡ []
run_none v zero h = refl
run_none v (suc n) h = absurd (omega arith)

pub run_some : (v n : ℕ) → 0 < n → run_of v n ≡ packet v n
run_some v zero h = absurd (omega arith)
run_some v (suc n) h = refl

-- ---- the first part, by its runs

gathered_short : (g rs : List Run) → Short g → gathered_of (g ++ rs) ≡ g ++ gathered_of rs
unfolding gathered_of
gathered_short [] rs h = refl
gathered_short (run v n ∷ g) rs h = rw (lt-leb 4 n h.0, gathered_of) (ap (λ (l : List Run). run v n ∷ l) (gathered_short g rs h.1))

long_short : (g rs : List Run) → Short g → long_of (g ++ rs) ≡ long_of rs
unfolding long_of
long_short [] rs h = refl
long_short (run v n ∷ g) rs h = rw (lt-leb 4 n h.0, long_of) (long_short g rs h.1)

module _ (xs : List ℕ) (h : ℕ) (G : Gathers xs h) where
  -- what gathers is the front, where a long run follows, or the end
  first_is : gathered_of (cut (drop h xs)) ≡ [] → part_of (take h xs) (long_of (cut (drop h xs))) ≡ first_part xs
  unfolding first_part
  first_is e =
      let front : gathered_of (cut xs) ≡ cut (take h xs) =
      ap gathered_of G.border ∙ gathered_short (cut (take h xs)) (cut (drop h xs)) G.short ∙ rw e (append-nil (cut (take h xs))) in
      let long : long_of (cut xs) ≡ long_of (cut (drop h xs)) = ap long_of G.border ∙ long_short (cut (take h xs)) (cut (drop h xs)) G.short in
      rw (front, long, bytes_cut)

  is_end : h ≡ length xs → part_of (take h xs) 0 ≡ first_part xs
  unfolding cut gathered_of long_of
  is_end e =
      let none : cut (drop h xs) ≡ [] = ap cut (drop_of_length-le xs {i = h} (omega arith)) in
      rw none at (first_is (ap gathered_of none))

  is_long : (v r : ℕ) (rs : List Run) → cut (drop h xs) ≡ run v r ∷ rs → 4 ≤ r → part_of (take h xs) r ≡ first_part xs
  unfolding gathered_of long_of
  is_long v r rs e l =
      let none : gathered_of (cut (drop h xs)) ≡ [] = ap gathered_of e ∙ rw (le-leb 4 r l, gathered_of) in
      let long : long_of (cut (drop h xs)) ≡ r = ap long_of e ∙ rw (le-leb 4 r l, long_of) in
      ap (part_of (take h xs)) (sym long) ∙ first_is none

-- ---- the part

-- of the h bytes ys that gather, l are literals and s a short run: all are the one or the other
abbrev Share : List ℕ → ℕ → ℕ → ℕ → Type 0
Share ys h l s = (l ≡ pick (one_run ys) 0 h) × (s ≡ pick (one_run ys) h 0)

-- h bytes gather, of which l are literals and s a short run
module _ (xs : List ℕ) (h l s : ℕ) (G : Gathers xs h) (S : Share (take h xs) h l s) where
  abbrev ys : List ℕ
  ys = take h xs

  size : length ys ≡ h
  size = length-take-le h xs G.within

  pub sum_of : l + s ≡ h
  sum_of = go (one_run ys) S.0 S.1
    where
      go : (t : Bool) → l ≡ pick t 0 h → s ≡ pick t h 0 → l + s ≡ h
      go true a b = omega arith
      go false a b = omega arith

  pub short_of : s ≤ 3
  short_of = go (one_run ys) refl S.1
    where
      go : (t : Bool) → one_run ys ≡ t → s ≡ pick t h 0 → s ≤ 3
      go true e b = omega (arith, (one_run_lem ys e).1, size)
      go false e b = omega arith

  stretch_of : stretch (cut ys) ≡ literals 0 (take l xs) ++ run_of (get_or xs l 0) s
  stretch_of = go (one_run ys) refl S.0 S.1
    where
      go : (t : Bool) → one_run ys ≡ t → l ≡ pick t 0 h → s ≡ pick t h 0 → stretch (cut ys) ≡ literals 0 (take l xs) ++ run_of (get_or xs l 0) s
      go true e a b =
          let one = one_run_lem ys e in
          let some : 0 < h = omega (arith, one.0, size) in
          rw (a, b)
          (one.2 ∙ ap (packet (get_or ys 0 0)) size ∙ ap (λ (v : ℕ). packet v h) (get_or-take h xs 0 0 some) ∙ sym (run_some (get_or xs 0 0) h some))
      go false e a b =
          rw (a, b) (not_one_run ys e (omega (arith, short_size (cut ys) G.short, ap length (bytes_cut ys), size)) ∙ sym (append-nil (literals 0 ys)))

  -- what the channel is coded as, where a long run of r bytes follows, or none and the end
  abbrev pub Found : ℕ → Type 0
  Found r = code xs ≡ literals 0 (take l xs) ++ (run_of (get_or xs l 0) s ++ (run_of (get_or xs (l + s) 0) r ++ code (drop (l + s + r) xs)))

  found : (r : ℕ) → code xs ≡ stretch (cut ys) ++ (run_of (get_or xs h 0) r ++ code (drop (h + r) xs)) → Found r
  found r e =
      rw sum_of
      (e
      ∙ ap (λ (z : List ℕ). z ++ (run_of (get_or xs h 0) r ++ code (drop (h + r) xs))) stretch_of
      ∙ append_assoc (literals 0 (take l xs)) (run_of (get_or xs l 0) s) (run_of (get_or xs h 0) r ++ code (drop (h + r) xs)))

  pub found_end : h ≡ length xs → Found 0
  unfolding code gather cut stretch
  found_end e =
      let none : drop h xs ≡ [] = drop_of_length-le xs {i = h} (omega arith) in
      let past : drop (h + 0) xs ≡ [] = drop_of_length-le xs {i = h + 0} (omega arith) in
      found 0 (gathers_code xs h G ∙ rw (none, past) (sym (append-nil (stretch (cut ys)))))

  pub found_long : (r : ℕ) → cut (drop h xs) ≡ run (get_or (drop h xs) 0 0) r ∷ cut (drop r (drop h xs)) → 4 ≤ r → Found r
  unfolding code
  found_long r e b =
      let v : get_or (drop h xs) 0 0 ≡ get_or xs h 0 = get_or-drop h xs 0 0 ∙ ap (λ (a : ℕ). get_or xs a 0) (add-zero h) in
      found r
      (gathers_code xs h G
      ∙ ap (gather (cut ys)) e
      ∙ gather_long (cut ys) (get_or (drop h xs) 0 0) r (cut (drop r (drop h xs))) b
      ∙ ap (λ (p : List ℕ). stretch (cut ys) ++ (p ++ code (drop r (drop h xs)))) (sym (run_some (get_or (drop h xs) 0 0) r (omega arith)) ∙ ap (λ (a : ℕ). run_of a r) v)
      ∙ ap (λ (y : List ℕ). stretch (cut ys) ++ (run_of (get_or xs h 0) r ++ code y)) (drop-drop r h xs))

-- ---- the same, of a channel, over the values that the code has in hand

-- four equal bytes follow what gathers, where the channel does not end
pub long_follows : (px : List ℕ) (at left h : ℕ) → Stops px at left h → (h ≡ left → ⊥) → (h + 4 ≤ left) × FourEqual px (at + 4 * h)
long_follows px at left h e n = ⊎_elim (λ q. absurd (n q)) (λ q. q) e

module _ (px : List ℕ) (at left h : ℕ) (r : Part) (n : ℕ) (G : Gathers (channel px at left) h) (e : r ≡ part_of (channel px at h) n) where
  abbrev xs : List ℕ
  xs = channel px at left

  within : h ≤ left
  within = omega (arith, G.within, length_channel px at left)

  part_is : part_of (take h xs) n ≡ r
  part_is = ap (λ (y : List ℕ). part_of y n) (take_channel px at h left within) ∙ sym e

  share : Share (take h xs) h r.literals r.short
  share =
      let size : length (take h xs) ≡ h = length-take-le h xs G.within in
      (ap (λ (p : Part). p.literals) (sym part_is) ∙ ap (pick (one_run (take h xs)) 0) size, ap (λ (p : Part). p.short) (sym part_is) ∙ ap (λ (k : ℕ). pick (one_run (take h xs)) k 0) size)

  sum : r.literals + r.short ≡ h
  sum = sum_of xs h r.literals r.short G share

  short : r.short ≤ 127
  short = omega (arith, short_of xs h r.literals r.short G share)

  long_is : r.long ≡ n
  long_is = ap (λ (p : Part). p.long) (sym part_is)

  pub first_end : h ≡ left → n ≡ 0 → r ≡ first_part xs
  first_end l z = sym part_is ∙ rw z (is_end xs h G (l ∙ sym (length_channel px at left)))

  pub parted_end : 0 < left → h ≡ left → n ≡ 0 → Parted left xs r.literals r.short r.long
  parted_end some l z = record {
    some = omega (arith, sum);
    within = omega (arith, sum, long_is);
    short = short;
    small = omega (arith, long_is);
    parted = rw (long_is ∙ z) (found_end xs h r.literals r.short G share (l ∙ sym (length_channel px at left)));
  }

  module _ (F : Front (left - h) (channel px (at + 4 * h) (left - h)) n) where
    follows : cut (drop h xs) ≡ run (get_or (drop h xs) 0 0) n ∷ cut (drop n (drop h xs))
    follows = subst (λ (y : List ℕ). cut y ≡ run (get_or y 0 0) n ∷ cut (drop n y)) (sym (drop_channel px at h left)) F.front

    pub first_long : r ≡ first_part xs
    first_long = sym part_is ∙ is_long xs h G (get_or (drop h xs) 0 0) n (cut (drop n (drop h xs))) follows F.long

    pub parted_long : Parted left xs r.literals r.short r.long
    parted_long =
        let room = within in
        record {
          some = omega (arith, long_is, F.long);
          within = omega (arith, sum, long_is, F.within);
          short = short;
          small = omega (arith, long_is, F.small);
          parted = rw long_is (found_long xs h r.literals r.short G share n follows F.long);
        }
