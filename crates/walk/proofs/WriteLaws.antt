-- The atoms that the steps of a started walk tell, written one after another, leave what packing leaves. Each write comes toward the packed buffer: it
-- makes the 32 bytes of one atom packing's, and keeps every other byte; a byte of no atom is as packing keeps it. Assumes nothing.
--     atom-reached, atom-toward     one atom written
--     all-written                   all of them
use Prim.Native.Nat.{ℕ, zero, suc, ◌+◌, ◌-◌, ◌*◌, ◌/◌, ◌%◌, ◌^◌, ◌≤◌, ◌<◌}
use native.Mathlib.Nat.{not-suc-le-zero, eq-or-lt_of_le}
use native.Mathlib.Decide.{dec_lt}
use native.Mathlib.Omega.{arith}
use mathlib.Core.Path.{◌≡◌, refl, sym, ap, subst, subst⁻¹, ◌∙◌}
use mathlib.Core.Logic.{◌⊎◌, inl, inr, ⊎_elim}
use mathlib.Core.Bool.{Bool, true, false, cond, ◌&&◌}
use mathlib.Core.List.{List}
use lib.Dec.{leb, ltb}
use lib.IntN.{ℤ}
use lib.ListN.{length, get_or, get_or-eq_default}
use lib.Seq.{ext_get_or}
use borrow.Author.Tests.{lt-ltb, le-ltb, le-leb, lt-leb}
use Rattle.std.specs.Prelude.{Some}
use Rattle.general.proofs.TestLaws.{and_both}
use Rattle.general.proofs.Toward.{Toward, toward-refl, toward-trans, reached-kept}
use Rattle.elements.specs.Lists.{tabulate}
use Rattle.elements.proofs.ListLaws.{length-remade, get_or-remade}
use Rattle.elements.proofs.TabulateLaws.{get_d_tabulate}
use Rattle.layout.specs.declared.CubeLayout.{CubeLayout}
use Rattle.layout.specs.Geometry.{size_of, atom_position, cube_extent}
use Rattle.layout.specs.Owners.{Owner, element, padding, outside, surface_of, row_of, column_of, byte_in_atom, in_atom, atom_owner, owner}
use Rattle.layout.specs.Contents.{packed_byte, packed}
use Rattle.layout.proofs.Valid.{Valid}
use Rattle.layout.proofs.Atoms.{atom-owner, atom-of}
use Rattle.layout.proofs.ContentLaws.{packed-length, packed-at, packed-outside}
use Rattle.layout.proofs.Extents.{atom-within}
use Rattle.walk.specs.declared.Walk.{Walk}
use Rattle.walk.specs.Walks.{first_walk}
use Rattle.walk.specs.Scans.{Told, step_told, InScan, atom_count, scan_index, scan_position, atom_told, written_at, steps_written}
use Rattle.walk.proofs.ScanLaws.{scan_index-lt, scan-at, told-atom, told_none}

-- ---- 32 bytes written
module _ (position : ℕ) (bytes buf : List ℕ) where
  abbrev put : ℕ → ℕ → ℕ
  put p old = cond (leb position p && ltb p (position + 32)) (get_or bytes (p - position) 0) old

  written-length : length (written_at (Some position) bytes buf) ≡ length buf
  unfolding written_at
  written-length = length-remade put buf

  written-there : (k : ℕ) → k < 32 → position + k < length buf → get_or (written_at (Some position) bytes buf) (position + k) 0 ≡ get_or bytes k 0
  unfolding written_at
  written-there k lt room =
      let p = position + k in
      let inside = and_both (le-leb position p (omega arith)) (lt-ltb p (position + 32) (omega arith)) in
      let back : p - position ≡ k = omega arith in
      get_or-remade put buf p 0 room ∙ ap (λ (t : Bool). cond t (get_or bytes (p - position) 0) (get_or buf p 0)) inside ∙ ap (λ (n : ℕ). get_or bytes n 0) back

  -- a byte that is none of the 32, or past the buffer's end
  kept_by : (p : ℕ) → (leb position p && ltb p (position + 32)) ≡ false → get_or (written_at (Some position) bytes buf) p 0 ≡ get_or buf p 0
  unfolding written_at
  kept_by p e =
      elim (dec_lt p (length buf)) [
        | yes lt ↦ get_or-remade put buf p 0 lt ∙ ap (λ (t : Bool). cond t (get_or bytes (p - position) 0) (get_or buf p 0)) e
        | no f ↦ past p (omega arith)
      ]
    where
      past : (p : ℕ) → length buf ≤ p → get_or (written_at (Some position) bytes buf) p 0 ≡ get_or buf p 0
      past p le = get_or-eq_default (written_at (Some position) bytes buf) 0 (omega (arith, written-length)) ∙ sym (get_or-eq_default buf 0 le)

  written-kept : (p : ℕ) → (p < position) ⊎ (position + 32 ≤ p) → get_or (written_at (Some position) bytes buf) p 0 ≡ get_or buf p 0
  written-kept p other =
      kept_by p
      (⊎_elim
      (λ below. ap (λ (t : Bool). t && ltb p (position + 32)) (lt-leb position p below))
      (λ above. ap (λ (t : Bool). leb position p && t) (le-ltb p (position + 32) above) ∙ and-false (leb position p))
      other)
    where
      and-false : (t : Bool) → (t && false) ≡ false
      and-false true = refl
      and-false false = refl

-- ---- one atom
module _ (q : CubeLayout) (ok : Valid q) (raw : List ℤ) (before : List ℕ) (room : q.start + cube_extent q ≤ length before) where
  abbrev goal : List ℕ
  goal = packed q raw before

  -- packing asks nothing of the old bytes of an atom
  packed-over : (s h w k old : ℕ) → packed_byte q raw (atom_owner q s h w k) old ≡ packed_byte q raw (atom_owner q s h w k) 0
  unfolding atom_owner packed_byte
  packed-over s h w k old = go (ltb (32 * s + k) (q.channels * size_of q))
    where
      go : (t : Bool)
          → packed_byte q raw (cond t (element ((32 * s + k) / size_of q) h w ((32 * s + k) % size_of q)) padding) old
          ≡ packed_byte q raw (cond t (element ((32 * s + k) / size_of q) h w ((32 * s + k) % size_of q)) padding) 0
      go true = refl
      go false = refl

  module _ (s h w : ℕ) (i : InScan q s h w) where
    at_byte : (k : ℕ) → scan_position q s h w + k ≡ atom_position q s h w k
    unfolding atom_position
    at_byte k = refl

    byte_inside : (k : ℕ) → k < 32 → scan_position q s h w + k < length before
    byte_inside k lt = omega (arith, room, at_byte (suc k), at_byte k, atom-within q ok s h w (suc k) i.surface_lt i.row_lt i.column_lt lt)

    -- the packed byte
    goal-byte : (k : ℕ) → k < 32 → get_or goal (scan_position q s h w + k) 0 ≡ packed_byte q raw (atom_owner q s h w k) 0
    goal-byte k lt =
        packed-at q raw before (scan_position q s h w + k) (byte_inside k lt)
        ∙ ap (λ (o : Owner). packed_byte q raw o (get_or before (scan_position q s h w + k) 0))
        (ap (owner q) (at_byte k) ∙ atom-owner q ok s h w k i.surface_lt i.row_lt i.column_lt lt)
        ∙ packed-over s h w k (get_or before (scan_position q s h w + k) 0)

    module _ (buf : List ℕ) (long : length buf ≡ length before) where
      abbrev after : List ℕ
      after = written_at (atom_told q raw s h w).atom (atom_told q raw s h w).bytes buf

      atom-reached : (k : ℕ) → k < 32 → get_or after (scan_position q s h w + k) 0 ≡ get_or goal (scan_position q s h w + k) 0
      unfolding atom_told
      atom-reached k lt =
          written-there (scan_position q s h w) (tabulate 32 (λ (k : ℕ). packed_byte q raw (atom_owner q s h w k) 0)) buf k lt (omega (arith, long, byte_inside k lt))
          ∙ get_d_tabulate (λ (k : ℕ). packed_byte q raw (atom_owner q s h w k) 0) 32 k 0 lt
          ∙ sym (goal-byte k lt)

      atom-toward : Toward 0 goal buf after
      unfolding atom_told
      atom-toward = record { long = written-length (scan_position q s h w) _ buf; each = λ p. each p }
        where
          each : (p : ℕ) → (get_or after p 0 ≡ get_or buf p 0) ⊎ (get_or after p 0 ≡ get_or goal p 0)
          each p =
              elim (dec_lt p (scan_position q s h w)) [
                | yes below ↦ inl (written-kept (scan_position q s h w) _ buf p (inl below))
                | no f ↦
                    elim (dec_lt p (scan_position q s h w + 32)) [
                      | yes lt ↦
                          let back : scan_position q s h w + (p - scan_position q s h w) ≡ p = omega arith in
                          inr (subst (λ (n : ℕ). get_or after n 0 ≡ get_or goal n 0) back (atom-reached (p - scan_position q s h w) (omega arith)))
                      | no g ↦ inl (written-kept (scan_position q s h w) _ buf p (inr (omega arith)))
                    ]
              ]

  -- ---- all atoms
  module _ (fits : q.start + cube_extent q < 2 ^ 64) where
    abbrev first : Walk
    first = first_walk q

    -- after n steps
    record Progress (n : ℕ) : Type 0 where
      near : Toward 0 goal before (steps_written n first raw before)
      there : (s h w k : ℕ) → InScan q s h w → scan_index q s h w < n → k < 32
          → get_or (steps_written n first raw before) (scan_position q s h w + k) 0 ≡ get_or goal (scan_position q s h w + k) 0

    -- step n writes what it tells
    writes : (n : ℕ) (t : Told) → step_told n first raw ≡ t → steps_written (suc n) first raw before ≡ written_at t.atom t.bytes (steps_written n first raw before)
    unfolding steps_written
    writes n t e = ap (λ (x : Told). written_at x.atom x.bytes (steps_written n first raw before)) e

    -- told at the number of an atom
    told_at : (s h w n : ℕ) → InScan q s h w → scan_index q s h w ≡ n → step_told n first raw ≡ atom_told q raw s h w
    told_at s h w n i e = ap (λ (m : ℕ). step_told m first raw) (sym e) ∙ told-atom q ok raw fits s h w i

    one-near : (n : ℕ) → length (steps_written n first raw before) ≡ length before → Toward 0 goal (steps_written n first raw before) (steps_written (suc n) first raw before)
    unfolding written_at
    one-near n long =
        elim (dec_lt n (atom_count q)) [
          | yes lt ↦
              let a = scan-at q ok n lt in
              subst⁻¹ (λ (l : List ℕ). Toward 0 goal (steps_written n first raw before) l) (writes n _ (told_at a.s a.h a.w n a.in_scan a.index))
              (atom-toward a.s a.h a.w a.in_scan (steps_written n first raw before) long)
          | no f ↦
              subst⁻¹ (λ (l : List ℕ). Toward 0 goal (steps_written n first raw before) l) (writes n _ (told_none q ok raw fits n (omega arith)))
              (toward-refl 0 goal (steps_written n first raw before))
        ]

    progress : (n : ℕ) → Progress n
    unfolding steps_written
    progress zero = record { near = toward-refl 0 goal before; there = λ s h w k i lt hk. absurd (not-suc-le-zero lt) }
    progress (suc n) = step (progress n)
      where
        step : Progress n → Progress (suc n)
        step p =
            let one = one-near n p.near.long in
            record {
              near = toward-trans 0 goal p.near one;
              there =
                  λ s h w k i lt hk.
                  ⊎_elim
                  (λ e.
                  subst⁻¹ (λ (l : List ℕ). get_or l (scan_position q s h w + k) 0 ≡ get_or goal (scan_position q s h w + k) 0) (writes n _ (told_at s h w n i e))
                  (atom-reached s h w i (steps_written n first raw before) p.near.long k hk))
                  (λ less. reached-kept 0 goal one (scan_position q s h w + k) (p.there s h w k i less hk))
                  (eq-or-lt_of_le (omega (arith, lt)));
            }

    module _ (n : ℕ) (enough : atom_count q ≤ n) where
      in-atom : (p : ℕ) → in_atom q p ≡ true → get_or (steps_written n first raw before) p 0 ≡ get_or goal p 0
      in-atom p e =
          let a = atom-of q ok p e in
          let i : InScan q (surface_of q p) (row_of q p) (column_of q p) = record { surface_lt = a.surface_lt; row_lt = a.row_below; column_lt = a.column_below } in
          let at = a.place ∙ sym (at_byte (surface_of q p) (row_of q p) (column_of q p) i (byte_in_atom q p)) in
          subst⁻¹ (λ (x : ℕ). get_or (steps_written n first raw before) x 0 ≡ get_or goal x 0) at
          ((progress n).there (surface_of q p) (row_of q p) (column_of q p) (byte_in_atom q p) i (omega (arith, enough, scan_index-lt q (surface_of q p) (row_of q p) (column_of q p) i)) a.byte_lt)

      no-atom : (p : ℕ) → in_atom q p ≡ false → get_or (steps_written n first raw before) p 0 ≡ get_or goal p 0
      unfolding owner
      no-atom p e =
          let kept = packed-outside q raw before p (ap (λ (t : Bool). cond t (atom_owner q (surface_of q p) (row_of q p) (column_of q p) (byte_in_atom q p)) outside) e) in
          ⊎_elim (λ same. same ∙ sym kept) (λ there. there) ((progress n).near.each p)

      byte : (p : ℕ) → get_or (steps_written n first raw before) p 0 ≡ get_or goal p 0
      byte p = go (in_atom q p) refl
        where
          go : (t : Bool) → in_atom q p ≡ t → get_or (steps_written n first raw before) p 0 ≡ get_or goal p 0
          go true e = in-atom p e
          go false e = no-atom p e

      pub all-written : steps_written n first raw before ≡ packed q raw before
      all-written = ext_get_or 0 (steps_written n first raw before) goal ((progress n).near.long ∙ sym (packed-length q raw before)) (λ p h. byte p)
