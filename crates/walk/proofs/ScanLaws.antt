-- Step n of a started walk. Row by row and surface by surface the walk before each atom is reached after as many steps as atoms stand before it; behind
-- the last one nothing is left, and the walk stays. An atom's number in scan order is its raw order in a box of surfaces, rows and columns. Assumes nothing.
--     scan_index-lt             an atom's number is below their count
--     scan-at                  the atom that has a number
--     scan_position-own         a position is one atom's
--     told-atom, told_none     what step n tells
use Prim.Native.Nat.{ℕ, zero, suc, ◌+◌, ◌-◌, ◌*◌, ◌^◌, ◌≤◌, ◌<◌}
use native.Mathlib.Nat.{mul-le-mul}
use native.Mathlib.Decide.{dec_lt}
use native.Mathlib.Omega.{arith}
use mathlib.Core.Path.{◌≡◌, sym, ap, ◌∙◌}
use mathlib.Core.List.{List}
use lib.Arith.{digits_lt}
use lib.IntN.{ℤ}
use Rattle.std.specs.Prelude.{Some}
use Rattle.elements.proofs.TabulateLaws.{tabulate-ext}
use Rattle.layout.specs.declared.CubeLayout.{CubeLayout}
use Rattle.layout.specs.declared.ElementBox.{ElementBox}
use Rattle.layout.specs.Geometry.{surfaces, raw_index, atom_position, cube_extent}
use Rattle.layout.specs.Boxes.{box_count, box_index, channel_at, row_at, column_at}
use Rattle.layout.specs.Owners.{surface_of, row_of, column_of}
use Rattle.layout.proofs.Valid.{Valid}
use Rattle.layout.proofs.Atoms.{atom-surface, atom-row, atom-column}
use Rattle.layout.proofs.BoxLaws.{at_in, box_index-at}
use Rattle.layout.proofs.Extents.{atom-within, surfaces-pos}
use Rattle.walk.specs.declared.Walk.{Walk}
use Rattle.walk.specs.declared.Step.{Step}
use Rattle.walk.specs.Walks.{atom_bytes, first_walk, stride_of, moved, walk_step}
use Rattle.walk.specs.Scans.{told_by, walk_after, step_told, InScan, atom_count, scan_index, ScanAt, scan_position, atom_told, none_told}
use Rattle.walk.proofs.AtomLaws.{atom_byte-packed}
use Rattle.walk.proofs.WalkLaws.{Goes, step-atom, step-none, walk_of, walk_done, first_is, some-channel, next-column, next-line, next-surface, next-none}

-- ---- numbers in scan order
module _ (q : CubeLayout) where
  pub scan_index-lt : (s h w : ℕ) → InScan q s h w → scan_index q s h w < atom_count q
  scan_index-lt s h w i = digits_lt (digits_lt i.surface_lt i.row_lt) i.column_lt

  -- the atoms as a box, surfaces in place of channels: its raw order is scan order
  abbrev atoms : ElementBox
  atoms = record { channel = 0; row = 0; column = 0; channels = surfaces q; rows = q.height; columns = q.width }

  module _ (ok : Valid q) where
    pub scan-at : (n : ℕ) → n < atom_count q → ScanAt q n
    unfolding box_count box_index
    scan-at n lt =
        let i = at_in atoms n lt ok.height_pos ok.width_pos in
        let s = channel_at atoms n in
        let h = row_at atoms n in
        let w = column_at atoms n in
        let zs : s - 0 ≡ s = omega arith in
        let zh : h - 0 ≡ h = omega arith in
        let zw : w - 0 ≡ w = omega arith in
        record {
          s = s;
          h = h;
          w = w;
          in_scan = record { surface_lt = omega (arith, i.channel_lt); row_lt = omega (arith, i.row_lt); column_lt = omega (arith, i.column_lt) };
          index = rw (sym zs, sym zh, sym zw) (box_index-at atoms n lt ok.height_pos ok.width_pos);
        }

    -- the position as byte 0 of the atom
    pub scan-atom : (s h w : ℕ) → scan_position q s h w ≡ atom_position q s h w 0
    unfolding atom_position
    scan-atom s h w = omega arith

    pub scan_position-own : (s h w s' h' w' : ℕ) → InScan q s h w → InScan q s' h' w' → scan_position q s h w ≡ scan_position q s' h' w' → (s ≡ s') × (h ≡ h') × (w ≡ w')
    scan_position-own s h w s' h' w' i i' e =
        let at : atom_position q s h w 0 ≡ atom_position q s' h' w' 0 = sym (scan-atom s h w) ∙ e ∙ scan-atom s' h' w' in
        let z : 0 < 32 = omega arith in (
          sym (atom-surface q ok s h w 0 i.surface_lt i.row_lt i.column_lt z) ∙ ap (surface_of q) at ∙ atom-surface q ok s' h' w' 0 i'.surface_lt i'.row_lt i'.column_lt z,
          sym (atom-row q ok s h w 0 i.surface_lt i.row_lt i.column_lt z) ∙ ap (row_of q) at ∙ atom-row q ok s' h' w' 0 i'.surface_lt i'.row_lt i'.column_lt z,
          sym (atom-column q ok s h w 0 i.surface_lt i.row_lt i.column_lt z) ∙ ap (column_of q) at ∙ atom-column q ok s' h' w' 0 i'.surface_lt i'.row_lt i'.column_lt z,
        )

-- ---- step by step
module _ (q : CubeLayout) (ok : Valid q) (raw : List ℤ) (room : q.start + cube_extent q < 2 ^ 64) where
  -- an atom's position and index are numbers of 64 bits
  position_fits : (s h w : ℕ) → InScan q s h w → scan_position q s h w < 2 ^ 64
  position_fits s h w i = omega (arith, scan-atom q ok s h w, room, atom-within q ok s h w 0 i.surface_lt i.row_lt i.column_lt (omega arith))

  index_fits : (s h w : ℕ) → (i : InScan q s h w) → (walk_of q s h w).index < 2 ^ 64
  unfolding raw_index
  index_fits s h w i =
      let c = some-channel q ok s h w i in
      let a : (walk_of q s h w).index < q.channels * q.height * q.width = digits_lt (digits_lt c i.row_lt) i.column_lt in
      let b : q.channels * q.height * q.width ≤ 8192 * 8192 * 8192 = mul-le-mul (mul-le-mul ok.channels_le ok.height_le) ok.width_le in
      omega arith

  channels-left : (s h w : ℕ) → InScan q s h w → 0 < (walk_of q s h w).channels
  channels-left s h w i = omega (arith, some-channel q ok s h w i)

  -- the atom told before any walk that the step leads to
  gives : (s h w : ℕ) (i : InScan q s h w) (after : Walk) → Goes (walk_of q s h w) after → told_by (walk_step (walk_of q s h w) raw) ≡ atom_told q raw s h w
  unfolding atom_told atom_bytes
  gives s h w i after g =
      ap told_by (step-atom (walk_of q s h w) raw after g)
      ∙ ap (λ (l : List ℕ). record { atom = Some (scan_position q s h w); bytes = l }) (tabulate-ext 0 32 _ _ (λ k lt. atom_byte-packed q s raw h w k))

  -- the walk before the first atom
  abbrev first : Walk
  first = first_walk q

  -- so many steps lead to the walk before this atom
  Reached : (s h w : ℕ) → Type 0
  Reached s h w = walk_after (scan_index q s h w) first raw ≡ walk_of q s h w

  -- one step further on
  on : (n : ℕ) (w after : Walk) → walk_after n first raw ≡ w → Goes w after → walk_after (suc n) first raw ≡ after
  unfolding walk_after
  on n w after e g = ap (λ (x : Walk). (walk_step x raw).walk) e ∙ ap (λ (x : Step). x.walk) (step-atom w raw after g)

  -- the same to an atom of the cube, whose number is one more
  to : (s h w s' h' w' : ℕ) → InScan q s h w → InScan q s' h' w' → suc (scan_index q s h w) ≡ scan_index q s' h' w'
      → moved (walk_of q s h w) (stride_of (walk_of q s h w)) ≡ walk_of q s' h' w' → Reached s h w → Reached s' h' w'
  unfolding Reached
  to s h w s' h' w' i i' e m r =
      ap (λ (n : ℕ). walk_after n first raw) (sym e)
      ∙ on (scan_index q s h w) (walk_of q s h w) (walk_of q s' h' w') r (record { some = channels-left s h w i; moves = m; position_lt = position_fits s' h' w' i'; index_lt = index_fits s' h' w' i' })

  along : (s h : ℕ) → s < surfaces q → h < q.height → Reached s h 0 → (w : ℕ) → w < q.width → Reached s h w
  along s h ls lh r zero lw = r
  along s h ls lh r (suc w) lw =
      let i : InScan q s h w = record { surface_lt = ls; row_lt = lh; column_lt = omega arith } in
      to s h w s h (suc w) i (record { surface_lt = ls; row_lt = lh; column_lt = lw }) (omega arith) (next-column q ok s h w i lw) (along s h ls lh r w (omega arith))

  down : (s : ℕ) → s < surfaces q → Reached s 0 0 → (h : ℕ) → h < q.height → Reached s h 0
  down s ls r zero lh = r
  down s ls r (suc h) lh =
      let w = q.width - 1 in
      let ew : suc w ≡ q.width = omega (arith, ok.width_pos) in
      let i : InScan q s h w = record { surface_lt = ls; row_lt = omega arith; column_lt = omega arith } in
      to s h w s (suc h) 0 i (record { surface_lt = ls; row_lt = lh; column_lt = ok.width_pos }) (omega (arith, ew)) (next-line q ok s h w i ew lh)
      (along s h ls (omega arith) (down s ls r h (omega arith)) w (omega arith))

  deep : (s : ℕ) → s < surfaces q → Reached s 0 0
  unfolding Reached walk_after
  deep zero ls =
      let none : scan_index q 0 0 0 ≡ 0 = omega arith in
      ap (λ (n : ℕ). walk_after n first raw) none ∙ first_is q
  deep (suc s) ls =
      let w = q.width - 1 in
      let h = q.height - 1 in
      let ew : suc w ≡ q.width = omega (arith, ok.width_pos) in
      let eh : suc h ≡ q.height = omega (arith, ok.height_pos) in
      let i : InScan q s h w = record { surface_lt = omega arith; row_lt = omega arith; column_lt = omega arith } in
      to s h w (suc s) 0 0 i (record { surface_lt = ls; row_lt = ok.height_pos; column_lt = ok.width_pos }) (omega (arith, ew, ap (λ (x : ℕ). x * q.width) eh))
      (next-surface q ok s h w i ew eh ls)
      (along s h (omega arith) (omega arith) (down s (omega arith) (deep s (omega arith)) h (omega arith)) w (omega arith))

  reached : (s h w : ℕ) → InScan q s h w → Reached s h w
  reached s h w i = along s h i.surface_lt i.row_lt (down s i.surface_lt (deep s i.surface_lt) h i.row_lt) w i.column_lt

  -- ---- what step n tells

  -- every atom of the cube has a walk behind it: the next atom's, or the last
  record Onward (w : Walk) : Type 0 where
    after : Walk
    goes : Goes w after

  module _ (s h w : ℕ) (i : InScan q s h w) where
    to-atom : (s' h' w' : ℕ) → InScan q s' h' w' → moved (walk_of q s h w) (stride_of (walk_of q s h w)) ≡ walk_of q s' h' w' → Onward (walk_of q s h w)
    to-atom s' h' w' i' m =
        record { after = walk_of q s' h' w'; goes = record { some = channels-left s h w i; moves = m; position_lt = position_fits s' h' w' i'; index_lt = index_fits s' h' w' i' } }

    to_end : (ew : suc w ≡ q.width) (eh : suc h ≡ q.height) → suc s ≡ surfaces q → Goes (walk_of q s h w) (walk_done q (walk_of q s h w).position (walk_of q s h w).index)
    to_end ew eh es = record { some = channels-left s h w i; moves = next-none q ok s h w i ew eh es; position_lt = position_fits s h w i; index_lt = index_fits s h w i }

    onward : Onward (walk_of q s h w)
    onward =
        elim (dec_lt (suc w) q.width) [
          | yes lw ↦ to-atom s h (suc w) (record { surface_lt = i.surface_lt; row_lt = i.row_lt; column_lt = lw }) (next-column q ok s h w i lw)
          | no fw ↦
              let ew : suc w ≡ q.width = omega (arith, i.column_lt) in
              elim (dec_lt (suc h) q.height) [
                | yes lh ↦ to-atom s (suc h) 0 (record { surface_lt = i.surface_lt; row_lt = lh; column_lt = ok.width_pos }) (next-line q ok s h w i ew lh)
                | no fh ↦
                    let eh : suc h ≡ q.height = omega (arith, i.row_lt) in
                    elim (dec_lt (suc s) (surfaces q)) [
                      | yes ls ↦ to-atom (suc s) 0 0 (record { surface_lt = ls; row_lt = ok.height_pos; column_lt = ok.width_pos }) (next-surface q ok s h w i ew eh ls)
                      | no fs ↦ record { after = _; goes = to_end ew eh (omega (arith, i.surface_lt)) }
                    ]
              ]
        ]

    pub told-atom : step_told (scan_index q s h w) first raw ≡ atom_told q raw s h w
    unfolding step_told Reached
    told-atom = ap (λ (x : Walk). told_by (walk_step x raw)) (reached s h w i) ∙ gives s h w i onward.after onward.goes

  -- behind the last atom no channel is left
  ended : (walk_after (atom_count q) first raw).channels ≡ 0
  unfolding Reached
  ended =
      let s = surfaces q - 1 in
      let h = q.height - 1 in
      let w = q.width - 1 in
      let es : suc s ≡ surfaces q = omega (arith, surfaces-pos q ok) in
      let eh : suc h ≡ q.height = omega (arith, ok.height_pos) in
      let ew : suc w ≡ q.width = omega (arith, ok.width_pos) in
      let i : InScan q s h w = record { surface_lt = omega arith; row_lt = omega arith; column_lt = omega arith } in
      let count : atom_count q ≡ suc (scan_index q s h w) = omega (arith, ew, ap (λ (x : ℕ). x * q.width) eh, ap (λ (x : ℕ). x * q.height * q.width) es) in
      ap (λ (n : ℕ). (walk_after n first raw).channels) count ∙ ap (λ (x : Walk). x.channels) (on (scan_index q s h w) (walk_of q s h w) _ (reached s h w i) (to_end s h w i ew eh es))

  stays : (m : ℕ) → (walk_after (atom_count q + m) first raw).channels ≡ 0
  unfolding walk_after
  stays zero = let e : atom_count q + 0 ≡ atom_count q = omega arith in ap (λ (n : ℕ). (walk_after n first raw).channels) e ∙ ended
  stays (suc m) =
      let e : atom_count q + suc m ≡ suc (atom_count q + m) = omega arith in
      ap (λ (n : ℕ). (walk_after n first raw).channels) e
      ∙ ap (λ (x : Step). x.walk.channels) (step-none (walk_after (atom_count q + m) first raw) raw (stays m))
      ∙ stays m

  pub told_none : (n : ℕ) → atom_count q ≤ n → step_told n first raw ≡ none_told
  unfolding step_told
  told_none n le =
      let e : n ≡ atom_count q + (n - atom_count q) = omega arith in
      ap told_by (step-none (walk_after n first raw) raw (ap (λ (m : ℕ). (walk_after m first raw).channels) e ∙ stays (n - atom_count q)))
