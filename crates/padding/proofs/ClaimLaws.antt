-- The claims (Claims.antt), each from the laws of bytes, calls and files. Assumes nothing.
use Prim.Native.Nat.{ℕ, ◌+◌, ◌≤◌, ◌<◌}
use native.Mathlib.Omega.{arith}
use mathlib.Core.Path.{◌≡◌, sym, ap, subst, subst⁻¹, ◌∙◌}
use mathlib.Core.Logic.{◌↔◌}
use mathlib.Core.List.{List}
use lib.ListN.{length, get_or}
use lib.IntN.{ℤ}
use Rattle.std.specs.Prelude.{Ok}
use Rattle.refusal.specs.Checks.{in_order, Accepted}
use Rattle.refusal.proofs.CheckLaws.{in_order-front}
use Rattle.elements.specs.Values.{value_checks}
use Rattle.layout.specs.declared.CubeLayout.{CubeLayout}
use Rattle.layout.specs.Geometry.{element_count}
use Rattle.layout.specs.Rules.{layout_checks, storage_checks, cube_checks}
use Rattle.layout.specs.Places.{PaddingByte}
use Rattle.layout.specs.Calls.{pack_answer, pack_buffer, unpack_answer, unpack_elements}
use Rattle.layout.proofs.Valid.{Valid, valid}
use Rattle.layout.proofs.CallLaws.{pack-admitted}
use Rattle.layout.proofs.PackLaws as pack
use Rattle.padding.specs.Mending.{Dirt, mended, reported}
use Rattle.padding.specs.Calls.{Lent, lent, mend_answer, mend_count, mend_left}
use Rattle.padding.specs.Files.{report_given, DirtyByte, One_of, Ascending, Roomy, file_bytes, file_left, file_report, All_roomy, All_accepted, written_back}
use Rattle.padding.proofs.MendLaws.{mended-length, Clean, mended-clean}
use Rattle.padding.proofs.CheckLaws.{Mendable, mendable, mend-accepted}
use Rattle.padding.proofs.CallLaws.{part-accepted, given-reported}
use Rattle.padding.proofs.FileLaws.{accepted-part, parts-accepted, parts-left, parts-report, clean-call, written-back}
use Rattle.padding.proofs.PlaceLaws as place
use Rattle.padding.proofs.PackedLaws as read

module _ (q : CubeLayout) (first len : ℕ) (l : Lent) (accepted : mend_answer q first len l ≡ Accepted) where
  held : Mendable q first len (length l.part) (length l.positions) (length l.olds)
  unfolding mend_answer
  held = mendable q first len (length l.part) (length l.positions) (length l.olds) accepted

  ok : Valid q
  ok = valid q held.layout_ok

  left : (mend_left q first len l).part ≡ mended q first l.part
  left = part-accepted q first len l accepted

  given : report_given q first len l ≡ reported q first l.part
  given = given-reported q first len l accepted

  pub padding-zero : (p : ℕ) → p < length l.part → PaddingByte q (first + p) → get_or (mend_left q first len l).part p 0 ≡ 0
  padding-zero p h b = ap (λ (x : List ℕ). get_or x p 0) left ∙ place.pad-zero q ok first l.part p h b

  pub other-kept : (p : ℕ) → (PaddingByte q (first + p) → ⊥) → get_or (mend_left q first len l).part p 0 ≡ get_or l.part p 0
  other-kept p f = ap (λ (x : List ℕ). get_or x p 0) left ∙ place.other-kept q ok first l.part p f

  pub length-kept : length (mend_left q first len l).part ≡ length l.part
  length-kept = ap length left ∙ mended-length q first l.part

  pub report-exactly : (d : Dirt) → One_of d (report_given q first len l) ↔ DirtyByte q first l.part d
  report-exactly d =
      (λ x. place.told q ok first l.part d (subst (One_of d) given x), λ x. subst⁻¹ (One_of d) given (place.every q ok first l.part d x))

  pub report-ascending : Ascending first (report_given q first len l)
  report-ascending = subst⁻¹ (Ascending first) given (place.rising q first l.part)

  pub second_none : (positions olds : List ℕ) → let again = lent (mend_left q first len l).part positions olds in
      Roomy again → (mend_count q first len again ≡ Ok 0) × (mend_left q first len again ≡ again)
  second_none positions olds r =
      let again = lent (mend_left q first len l).part positions olds in
      clean-call q len first again (accepted-part q len first l first again accepted (subst⁻¹ (λ (n : ℕ). first + n ≤ len) length-kept held.part_le) r)
      (subst⁻¹ (λ (x : List ℕ). Clean q first x) left (mended-clean q first l.part))

  pub restored : written_back first (report_given q first len l) (mend_left q first len l).part ≡ l.part
  restored = rw (given, left) (written-back q first l.part)

  pub part-by-part : (ls : List Lent) → file_bytes ls ≡ l.part → All_roomy ls
      → All_accepted q first len ls × (file_left q first len ls ≡ (mend_left q first len l).part) × (file_report q first len ls ≡ report_given q first len l)
  part-by-part ls e r =
      let inside : first + length (file_bytes ls) ≤ len = subst⁻¹ (λ (x : List ℕ). first + length x ≤ len) e held.part_le in
      let all = parts-accepted q len first l accepted first ls r inside in (
        all,
        parts-left q len first ls all ∙ ap (mended q first) e ∙ sym left,
        parts-report q len first ls all ∙ ap (reported q first) e ∙ sym given,
      )

module _ (q : CubeLayout) (l : Lent) (accepted : mend_answer q 0 (length l.part) l ≡ Accepted) where
  pub unpacks-same : (cells : List ℤ) → let mended = (mend_left q 0 (length l.part) l).part in
      (unpack_answer q (length cells) (length mended) ≡ unpack_answer q (length cells) (length l.part)) × (unpack_elements q mended cells ≡ unpack_elements q l.part cells)
  unpacks-same cells =
      let n = length l.part in
      let is = left q 0 n l accepted in
      let v = ok q 0 n l accepted in (
        ap (λ (x : List ℕ). unpack_answer q (length cells) (length x)) is ∙ read.answer-same q v l.part (length cells),
        ap (λ (x : List ℕ). unpack_elements q x cells) is ∙ read.read_same q v l.part cells,
      )

module _ (q : CubeLayout) (raw : List ℤ) (before : List ℕ) (accepted : pack_answer q raw (length before) ≡ Accepted) where
  layout-taken : in_order (layout_checks q) ≡ Accepted
  unfolding pack_answer cube_checks
  layout-taken =
      in_order-front (layout_checks q) (storage_checks q (element_count q) (length raw) (length before))
      (in_order-front (cube_checks q (length raw) (length before)) (value_checks q.precision raw) accepted)

  -- what is as long as the buffer, with room for its report, is taken
  taken : (l : Lent) → length l.part ≡ length before → Roomy l → mend_answer q 0 (length before) l ≡ Accepted
  unfolding mend_answer
  taken l e r =
      mend-accepted q 0 (length before) (length l.part) (length l.positions) (length l.olds)
      (record {
        layout_ok = layout-taken;
        room_le = (pack-admitted q raw (length before) accepted).room;
        part_le = omega (arith, e);
        positions_ge = r.positions_ge;
        olds_ge = r.olds_ge;
      })

  pub packed-clean : (positions olds : List ℕ) → let packed = lent (pack_buffer q raw before) positions olds in
      Roomy packed → (mend_count q 0 (length before) packed ≡ Ok 0) × (mend_left q 0 (length before) packed ≡ packed)
  packed-clean positions olds r =
      let packed = lent (pack_buffer q raw before) positions olds in
      clean-call q (length before) 0 packed (taken packed (pack.length-kept q raw before accepted) r) (read.packed-clean q raw before accepted)
