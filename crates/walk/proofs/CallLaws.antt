-- A started walk, by its call: it was started where packing is accepted, and then it is the first walk of a valid layout whose extent a length of 64 bits
-- holds. Assumes nothing.
--     start-answer      a start is answered as packing is
--     whole             the steps of a started walk
use Prim.Native.Nat.{ℕ, ◌+◌, ◌^◌, ◌≤◌, ◌<◌}
use native.Mathlib.Decide.{dec_lt}
use native.Mathlib.Omega.{arith}
use mathlib.Core.Path.{◌≡◌, refl, sym, ap, subst, subst⁻¹, ◌∙◌}
use mathlib.Core.List.{List}
use lib.IntN.{ℤ}
use lib.ListN.{length}
use Rattle.std.specs.Prelude.{Ok, Err, Some}
use Rattle.refusal.specs.Checks.{Answer, Accepted, given}
use Rattle.refusal.specs.Codes.{answer_of}
use Rattle.refusal.proofs.CheckLaws.{leaves-done, given-ok}
use Rattle.layout.specs.declared.CubeLayout.{CubeLayout}
use Rattle.layout.specs.Geometry.{cube_extent}
use Rattle.layout.specs.Boxes.{whole_box}
use Rattle.layout.specs.Contents.{packed}
use Rattle.layout.specs.Calls.{pack_answer, pack_buffer}
use Rattle.layout.proofs.Valid.{Valid}
use Rattle.layout.proofs.CallLaws.{Admitted, pack-admitted}
use Rattle.walk.specs.declared.Walk.{Walk}
use Rattle.walk.specs.Walks.{first_walk, walk_start}
use Rattle.walk.specs.Scans.{Told, step_told, InScan, atom_count, scan_index, scan_position, atom_told, steps_written, WholeWalk}
use Rattle.walk.proofs.ScanLaws.{scan-at, scan_position-own, told-atom, told_none}
use Rattle.walk.proofs.WriteLaws.{all-written}

module _ (q : CubeLayout) (raw : List ℤ) (len : ℕ) where
  pub start-answer : answer_of (walk_start q raw len) ≡ pack_answer q raw len
  unfolding walk_start given
  start-answer = go (pack_answer q raw len)
    where
      go : (a : Answer) → answer_of (given a (first_walk q)) ≡ a
      go (Ok _) = refl
      go (Err fault) = refl

  started : (walk : Walk) → walk_start q raw len ≡ Ok walk → first_walk q ≡ walk
  unfolding walk_start
  started walk e = (given-ok (pack_answer q raw len) (first_walk q) walk e).1

  module _ (bits : len < 2 ^ 64) (accepted : pack_answer q raw len ≡ Accepted) where
    adm : Admitted q (whole_box q) (length raw) len
    adm = pack-admitted q raw len accepted

    ok : Valid q
    ok = adm.layout

    fits : q.start + cube_extent q < 2 ^ 64
    fits = omega (arith, adm.room, bits)

    told : (s h w : ℕ) → InScan q s h w → step_told (scan_index q s h w) (first_walk q) raw ≡ atom_told q raw s h w
    told = told-atom q ok raw fits

    once : (n s h w : ℕ) → InScan q s h w → (step_told n (first_walk q) raw).atom ≡ Some (scan_position q s h w) → n ≡ scan_index q s h w
    unfolding atom_told
    once n s h w i e =
        elim (dec_lt n (atom_count q)) [
          | yes lt ↦
              let a = scan-at q ok n lt in
              let here = ap (λ (m : ℕ). step_told m (first_walk q) raw) a.index in
              let both : Some (scan_position q a.s a.h a.w) ≡ Some (scan_position q s h w) =
              ap (λ (t : Told). t.atom) (sym (told a.s a.h a.w a.in_scan) ∙ here) ∙ e in
              let same = scan_position-own q ok a.s a.h a.w s h w a.in_scan i (cc) in
              sym a.index ∙ rw (same.0, same.1, same.2)
          | no f ↦
              let none = ap (λ (t : Told). t.atom) (told_none q ok raw fits n (omega arith)) in
              let z : ◌≡◌ {A = ℕ} 0 1 = cc in
              absurd (omega arith)
        ]

    packs : (before : List ℕ) → length before ≡ len → (n : ℕ) → atom_count q ≤ n → steps_written n (first_walk q) raw before ≡ pack_buffer q raw before
    unfolding pack_buffer
    packs before long n enough =
        all-written q ok raw before (subst⁻¹ (λ (m : ℕ). q.start + cube_extent q ≤ m) long adm.room) fits n enough
        ∙ sym (leaves-done (packed q raw before) before (ap (pack_answer q raw) long ∙ accepted))

    from_first : WholeWalk q raw len (first_walk q)
    from_first = record { in_order = told; each_step = scan-at q ok; none_left = told_none q ok raw fits; once = once; packs = packs }

  pub whole : len < 2 ^ 64 → (walk : Walk) → walk_start q raw len ≡ Ok walk → WholeWalk q raw len walk
  whole bits walk e =
      subst (λ (w : Walk). WholeWalk q raw len w) (started walk e) (from_first bits (sym start-answer ∙ ap answer_of e))
