-- A packed buffer has nothing to mend; reading gives the same before and after (demand 2). By the owner of each byte. Assumes nothing.
--     packed-clean      no byte of a packed buffer is reported
--     unpacked-same     the raw tensor that is read
--     read_same, answer-same     what unpacking leaves and answers
use Prim.Native.Nat.{ℕ, ◌+◌, ◌<◌}
use native.Mathlib.Omega.{arith}
use mathlib.Core.Path.{◌≡◌, refl, sym, ap, subst, ◌∙◌}
use mathlib.Core.Bool.{true, false, not}
use mathlib.Core.List.{List}
use lib.Dec.{eqb}
use lib.ListN.{length, get_or}
use lib.IntN.{ℤ}
use Rattle.refusal.specs.Checks.{Accepted}
use Rattle.refusal.proofs.CheckLaws.{leaves-done}
use Rattle.layout.specs.declared.CubeLayout.{CubeLayout}
use Rattle.layout.specs.Geometry.{size_of, element_position}
use Rattle.layout.specs.Boxes.{box_has, whole_box}
use Rattle.layout.specs.Owners.{Owner, element, padding, outside, owner}
use Rattle.layout.specs.Contents.{packed, unpacked}
use Rattle.layout.specs.Calls.{pack_answer, pack_buffer, unpack_answer, unpack_elements}
use Rattle.layout.proofs.Valid.{Valid}
use Rattle.layout.proofs.Views.{element-owner}
use Rattle.layout.proofs.BoxLaws.{whole-valid, in_cube, box_has-in}
use Rattle.layout.proofs.ContentLaws.{packed-length, packed-padding}
use Rattle.layout.proofs.SameLaws.{box-same}
use Rattle.padding.specs.Mending.{mended, is_dirty}
use Rattle.padding.proofs.MendLaws.{mended-length, Clean}
use Rattle.padding.proofs.PlaceLaws.{other_byte}

-- a byte is not reported where, if it is padding, it is zero
clean-if : (o : Owner) (b : ℕ) → (o ≡ padding → b ≡ 0) → is_dirty o b ≡ false
unfolding is_dirty
clean-if (element c h w k) b f = refl
clean-if padding b f = ap (λ (n : ℕ). not (eqb n 0)) (f refl)
clean-if outside b f = refl

module _ (q : CubeLayout) (raw : List ℤ) (before : List ℕ) where
  pub packed-clean : pack_answer q raw (length before) ≡ Accepted → Clean q 0 (pack_buffer q raw before)
  unfolding pack_buffer
  packed-clean ok i h =
      let done = leaves-done (packed q raw before) before ok in
      let below : i < length before = subst (λ (n : ℕ). i < n) (ap length done ∙ packed-length q raw before) h in
      let at : 0 + i ≡ i = omega arith in
      clean-if (owner q (0 + i)) (get_or (pack_buffer q raw before) i 0) (λ e. ap (λ (l : List ℕ). get_or l i 0) done ∙ packed-padding q raw before i below (sym (ap (owner q) at) ∙ e))

module _ (q : CubeLayout) (ok : Valid q) (bytes : List ℕ) where
  -- an element's byte stays
  element-same : (c h w k : ℕ) → box_has (whole_box q) c h w ≡ true → k < size_of q → get_or (mended q 0 bytes) (element_position q c h w + k) 0 ≡ get_or bytes (element_position q c h w + k) 0
  element-same c h w k i l =
      let cube = in_cube q (whole_box q) c h w (whole-valid q ok) (box_has-in (whole_box q) c h w i) in
      let at : 0 + (element_position q c h w + k) ≡ element_position q c h w + k = omega arith in
      let own = element-owner q ok c h w k cube.channel_lt cube.row_lt cube.column_lt l in
      other_byte q ok 0 bytes (element_position q c h w + k) (λ e. let z : element c h w k ≡ padding = sym own ∙ sym (ap (owner q) at) ∙ e in let n : ◌≡◌ {A = ℕ} 0 1 = cc in omega arith)

  pub unpacked-same : unpacked q (mended q 0 bytes) ≡ unpacked q bytes
  unfolding unpacked
  unpacked-same = box-same q (whole_box q) (mended q 0 bytes) bytes element-same (whole-valid q ok)

  pub read_same : (cells : List ℤ) → unpack_elements q (mended q 0 bytes) cells ≡ unpack_elements q bytes cells
  unfolding unpack_elements
  read_same cells = rw (mended-length q 0 bytes, unpacked-same)

  pub answer-same : (given : ℕ) → unpack_answer q given (length (mended q 0 bytes)) ≡ unpack_answer q given (length bytes)
  answer-same given = ap (unpack_answer q given) (mended-length q 0 bytes)
