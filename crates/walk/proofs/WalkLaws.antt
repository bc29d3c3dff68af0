-- The walk before the atom at surface s, row h, column w: its position by the paper's formula, the raw index of its first element, and what is left.
-- A stride leads from it to the walk of the next atom in scan order, by the facts of a valid layout. Assumes nothing.
--     walk_of, first_is     the walk before an atom, and before the first
--     next-column, next-line, next-surface, next-none     the walk a stride further on
--     some-channel         an atom of the cube has a channel
--     step-atom, step-none     what a step then gives
use Prim.Native.Nat.{ℕ, suc, ◌+◌, ◌-◌, ◌*◌, ◌^◌, ◌≤◌, ◌<◌}
use native.Mathlib.Nat.{mul-le-mul_right}
use native.Mathlib.Decide.{dec_lt}
use native.Mathlib.Omega.{arith}
use mathlib.Core.Path.{◌≡◌, refl, ap, subst⁻¹}
use mathlib.Core.Bool.{true}
use mathlib.Core.List.{List}
use lib.IntN.{ℤ}
use lib.ListN.{replicate}
use borrow.Author.Tests.{lt-ltb, le-ltb}
use Rattle.std.specs.Prelude.{Some, None}
use Rattle.general.proofs.TestLaws.{and_both}
use Rattle.elements.proofs.ByteLaws.{element_bytes-pos}
use Rattle.layout.specs.declared.CubeLayout.{CubeLayout}
use Rattle.layout.specs.Geometry.{size_of, surfaces, raw_index}
use Rattle.layout.proofs.Valid.{Valid}
use Rattle.walk.specs.declared.Walk.{Walk}
use Rattle.walk.specs.Walks.{atom_elements, first_walk, stride_of, moved, atom_left, atom_bytes, walk_step}
use Rattle.walk.specs.Scans.{scan_position, InScan}
use Rattle.walk.proofs.SizeLaws.{atom_elements-bytes, atom_elements-pos}

-- ---- a step of any walk

-- behind its atom a walk comes to `after`, by sums of 64 bits
pub record Goes (w after : Walk) : Type 0 where
  pub some : 0 < w.channels
  pub moves : moved w (stride_of w) ≡ after
  pub position_lt : after.position < 2 ^ 64
  pub index_lt : after.index < 2 ^ 64

module _ (w : Walk) (raw : List ℤ) where
  left : (after : Walk) → Goes w after → atom_left w ≡ true
  unfolding atom_left moved
  left after g =
      let at = subst⁻¹ (λ (x : Walk). x.position < 2 ^ 64) g.moves g.position_lt in
      let i = subst⁻¹ (λ (x : Walk). x.index < 2 ^ 64) g.moves g.index_lt in
      and_both (and_both (lt-ltb 0 w.channels g.some) (lt-ltb (w.position + (stride_of w).bytes) (2 ^ 64) at)) (lt-ltb (w.index + (stride_of w).elements) (2 ^ 64) i)

  pub step-atom : (after : Walk) → Goes w after → walk_step w raw ≡ record { atom = Some w.position; bytes = atom_bytes w raw; walk = after }
  unfolding walk_step
  step-atom after g = rw (left after g, g.moves)

  pub step-none : w.channels ≡ 0 → walk_step w raw ≡ record { atom = None; bytes = replicate 32 0; walk = w }
  unfolding walk_step atom_left
  step-none e = rw (le-ltb 0 w.channels (omega (arith, e)))

-- ---- the walks of a cube
module _ (q : CubeLayout) where
  abbrev full : ℕ
  full = atom_elements q.precision

  -- the walk of a cube with these running numbers
  abbrev pub walk_from : (position index columns rows channels : ℕ) → Walk
  walk_from position index columns rows channels =
      record {
        position = position;
        index = index;
        columns = columns;
        rows = rows;
        channels = channels;
        precision = q.precision;
        width = q.width;
        height = q.height;
        plane = q.height * q.width;
        line = q.line - 32 * (q.width - 1);
        surface = q.surface - (q.height - 1) * q.line - 32 * (q.width - 1);
        group = (full - 1) * (q.height * q.width) + 1;
      }

  -- the walk before the atom at surface s, row h, column w
  abbrev pub walk_of : (s h w : ℕ) → Walk
  walk_of s h w = walk_from (scan_position q s h w) (raw_index q (s * full) h w) (q.width - w) (q.height - h) (q.channels - s * full)

  -- behind the last atom, whose position and index stay
  abbrev pub walk_done : (position index : ℕ) → Walk
  walk_done position index = walk_from position index 0 0 0

  same : {p p' i i' c c' r r' n n' : ℕ} → p ≡ p' → i ≡ i' → c ≡ c' → r ≡ r' → n ≡ n' → walk_from p i c r n ≡ walk_from p' i' c' r' n'
  same ep ei ec er en = cc

  pub first_is : first_walk q ≡ walk_of 0 0 0
  unfolding first_walk raw_index
  first_is = same (omega arith) (omega arith) (omega arith) (omega arith) (omega arith)

  module _ (ok : Valid q) (s h w : ℕ) (i : InScan q s h w) where
    -- the first channel of the next surface, counted in bytes
    next-bytes : suc s * full * size_of q ≡ 32 * suc s
    next-bytes = omega (arith, ap (λ (x : ℕ). suc s * x) (atom_elements-bytes q.precision))

    -- an atom of the cube has a channel
    pub some-channel : s * full < q.channels
    unfolding surfaces
    some-channel =
        elim (dec_lt (s * full) q.channels) [
          | yes f ↦ f
          | no f ↦ absurd (omega (arith, i.surface_lt, next-bytes, ap (λ (x : ℕ). s * x) (atom_elements-bytes q.precision), mul-le-mul_right {m = q.channels} {n = s * full} (size_of q) (omega arith)))
        ]

    -- and so has the next surface, where there is one
    more-channels : suc s < surfaces q → suc s * full < q.channels
    unfolding surfaces
    more-channels lt =
        elim (dec_lt (suc s * full) q.channels) [
          | yes f ↦ f
          | no f ↦ absurd (omega (arith, lt, next-bytes, mul-le-mul_right {m = q.channels} {n = suc s * full} (size_of q) (omega arith)))
        ]

    no_more : suc s ≡ surfaces q → q.channels ≤ suc s * full
    unfolding surfaces
    no_more e =
        elim (dec_lt (suc s * full) q.channels) [
          | yes f ↦ absurd (omega (arith, e, next-bytes, element_bytes-pos q.precision, mul-le-mul_right {m = suc (suc s * full)} {n = q.channels} (size_of q) f))
          | no f ↦ omega arith
        ]

    pub next-column : suc w < q.width → moved (walk_of s h w) (stride_of (walk_of s h w)) ≡ walk_of s h (suc w)
    unfolding moved stride_of raw_index
    next-column lt =
        rw (lt-ltb 1 (q.width - w) (omega arith))
        (same (omega arith) (omega arith) (omega arith) refl refl)

    module _ (ew : suc w ≡ q.width) where
      pub next-line : suc h < q.height → moved (walk_of s h w) (stride_of (walk_of s h w)) ≡ walk_of s (suc h) 0
      unfolding moved stride_of raw_index
      next-line lt =
          rw (le-ltb 1 (q.width - w) (omega (arith, ew)), lt-ltb 1 (q.height - h) (omega arith))
          (same (omega (arith, ew, ok.line_ge)) (omega (arith, ew)) (omega arith) (omega arith) refl)

      module _ (eh : suc h ≡ q.height) where
        rows-bytes : (q.height - 1) * q.line ≡ h * q.line
        rows-bytes = ap (λ (x : ℕ). x * q.line) (omega (arith, eh))

        rows-elements : q.height * q.width ≡ h * q.width + q.width
        rows-elements = omega (arith, ap (λ (x : ℕ). x * q.width) eh)

        group-elements : full * (q.height * q.width) ≡ (full - 1) * (q.height * q.width) + q.height * q.width
        group-elements =
            let m : full ≡ full - 1 + 1 = omega (arith, atom_elements-pos q.precision) in
            omega (arith, ap (λ (x : ℕ). x * (q.height * q.width)) m)

        pub next-surface : suc s < surfaces q → moved (walk_of s h w) (stride_of (walk_of s h w)) ≡ walk_of (suc s) 0 0
        unfolding moved stride_of raw_index
        next-surface lt =
            rw (le-ltb 1 (q.width - w) (omega (arith, ew)), le-ltb 1 (q.height - h) (omega (arith, eh)), lt-ltb full (q.channels - s * full) (omega (arith, more-channels lt)))
            (same
            (omega (arith, ew, ok.surface_ge, rows-bytes))
            (omega (arith, ew, rows-elements, group-elements))
            (omega arith)
            (omega arith)
            (omega arith))

        pub next-none : suc s ≡ surfaces q → moved (walk_of s h w) (stride_of (walk_of s h w)) ≡ walk_done (scan_position q s h w) (raw_index q (s * full) h w)
        unfolding moved stride_of
        next-none e =
            rw (le-ltb 1 (q.width - w) (omega (arith, ew)), le-ltb 1 (q.height - h) (omega (arith, eh)), le-ltb full (q.channels - s * full) (omega (arith, no_more e)))
            (same (omega arith) (omega arith) refl refl refl)
