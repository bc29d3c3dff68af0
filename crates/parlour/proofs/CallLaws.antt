-- Painting is an edit of the whole region with the converted components: where it is accepted, so is the edit, and both leave the same. Assumes nothing.
--     whole-image                         all of the region is a box of the picture's sizes
--     paint-accepted                      what an accepted painting tells
--     paint-as-edit                       the edit is accepted, too
--     paint-writes, paint-kept            the buffer of an accepted and of a refused painting
--     paint-denied                        what is accepted of the owner is refused by 25 of anybody else
--     component-in-pixel, component-in-buffer   where the components of an accepted painting lie
use Prim.Native.Nat.{ℕ, ◌+◌, ◌*◌, ◌≤◌, ◌<◌}
use native.Mathlib.Omega.{arith}
use native.Mathlib.Nat.{mul-le-mul_right}
use mathlib.Core.Path.{◌≡◌, sym, ap, ◌∙◌}
use mathlib.Core.List.{List}
use mathlib.Core.Logic.{◌≢◌}
use lib.ListN.{length}
use borrow.Author.Tests.{le-leb, eq-eqb}
use Rattle.std.specs.Prelude.{Err}
use Rattle.refusal.specs.declared.Fault.{Fault}
use Rattle.refusal.specs.declared.Refusal.TheVariants.{ElementCount, BufferLength, OwnerId}
use Rattle.refusal.specs.Checks.{in_order, Accepted, Refused}
use Rattle.refusal.proofs.CheckLaws.{in_order-next, in_order-front, in_order-back, in_order-passed, leaves-done, leaves-before}
use Rattle.layout.specs.declared.ElementBox.{ElementBox}
use Rattle.layout.specs.Geometry.{cube_extent}
use Rattle.layout.specs.Boxes.{box_count}
use Rattle.layout.specs.Rules.{storage_checks}
use Rattle.pixels.specs.declared.PixelSetting.{PixelSetting}
use Rattle.pixels.specs.Formats.{format_of}
use Rattle.pixels.specs.Places.{InImage}
use Rattle.pixels.specs.Settings.{pixel_bytes, pixel_position}
use Rattle.pixels.proofs.Valid.{valid}
use Rattle.quantize.proofs.AnswerLaws.{checked}
use Rattle.regions.specs.declared.RegionTable.{RegionTable}
use Rattle.regions.specs.Rules.{Access, access_of, whole_region, edit_checks}
use Rattle.regions.specs.Calls.{edit_answer, edit_buffer}
use Rattle.regions.proofs.CallLaws.{others-denied}
use Rattle.parlour.specs.declared.Conversion.{Conversion}
use Rattle.parlour.specs.Components.{component_bytes, image_box, painted_elements}
use Rattle.parlour.specs.Rules.{picture_checks, target_checks, paint_checks}
use Rattle.parlour.specs.Calls.{paint_answer, paint_buffer}
use Rattle.parlour.proofs.RuleLaws.{ValidPicture, picture-accepted, ValidTarget, target-accepted}
use Rattle.parlour.proofs.ComponentLaws.{Parts, parts, strip-end}
use Rattle.parlour.proofs.ElementLaws.{painted-length, painted-valid}

module _ (a : Access) (image : PixelSetting) where
  pub whole-image : {shift given len : ℕ} → ValidPicture a.layout image shift given → ValidTarget a image len → whole_region a ≡ image_box image
  whole-image v t =
      λ i. record { channel = 0; row = 0; column = 0; channels = sym v.channels i; rows = sym t.height i; columns = sym t.width i }

  module _ (k : Conversion) (pixels : List ℕ) (len : ℕ) (ok : in_order (paint_checks a image k.shift (length pixels) len) ≡ Accepted) where
    pub paint-accepted : ValidPicture a.layout image k.shift (length pixels) × ValidTarget a image len
    unfolding paint_checks
    paint-accepted =
        let picture = picture_checks a.layout image k.shift (length pixels) in
        (picture-accepted a.layout image k.shift (length pixels) (in_order-front picture _ ok), target-accepted a image len (in_order-back picture _ ok))

    pub paint-as-edit : in_order (edit_checks a (whole_region a) (painted_elements image pixels k a.layout.precision) len) ≡ Accepted
    unfolding edit_checks storage_checks
    paint-as-edit =
        let q = a.layout in
        let t = paint-accepted.1 in
        let xs = painted_elements image pixels k q.precision in
        let count : length xs ≡ box_count (whole_region a) = painted-length image pixels k q.precision ∙ ap box_count (sym (whole-image paint-accepted.0 t)) in
        in_order-passed _ _ t.checked
        ∙ in_order-next 0 ElementCount _ (eq-eqb (length xs) (box_count (whole_region a)) count)
        ∙ in_order-next 0 BufferLength _ (le-leb (q.start + cube_extent q) len t.room)
        ∙ painted-valid image pixels k q.precision (checked q.precision k.shift paint-accepted.0.conversion).0

module _ (t : RegionTable) (n id : ℕ) (image : PixelSetting) (pixels : List ℕ) (k : Conversion) (before : List ℕ) where
  abbrev all : ElementBox
  all = whole_region (access_of t n id)

  module _ (ok : paint_answer t n id image (length pixels) k (length before) ≡ Accepted) where
    pub paint-edits : edit_answer t n id all (painted_elements image pixels k t.layout.precision) (length before) ≡ Accepted
    unfolding edit_answer paint_answer
    paint-edits = paint-as-edit (access_of t n id) image k pixels (length before) ok

    pub paint-writes : paint_buffer t n id image pixels k before ≡ edit_buffer t n id all (painted_elements image pixels k t.layout.precision) before
    unfolding paint_buffer edit_buffer
    paint-writes = leaves-done _ before ok ∙ sym (leaves-done _ before paint-edits)

  pub paint-kept : {f : Fault} → paint_answer t n id image (length pixels) k (length before) ≡ Err f → paint_buffer t n id image pixels k before ≡ before
  unfolding paint_buffer
  paint-kept e = leaves-before _ before e

-- ---- another owner's id
module _ (t : RegionTable) (n id id' : ℕ) (other : id ≢ id') where
  pub paint-denied : (image : PixelSetting) (given : ℕ) (k : Conversion) (len : ℕ) → paint_answer t n id image given k len ≡ Accepted → paint_answer t n id' image given k len ≡ Refused OwnerId 0
  unfolding paint_answer paint_checks target_checks
  paint-denied image given k len ok =
      let a = access_of t n id in
      let picture = picture_checks t.layout image k.shift given in
      in_order-passed picture _ (in_order-front picture _ ok)
      ∙ others-denied a (whole_region a) id' other (in_order-front _ _ (in_order-back picture _ ok)) (whole_region (access_of t n id')) _

-- ---- where the components of an accepted painting lie
module _ (t : RegionTable) (n id : ℕ) (image : PixelSetting) (k : Conversion) (given len : ℕ) (ok : paint_answer t n id image given k len ≡ Accepted) where
  picture : ValidPicture t.layout image k.shift given
  unfolding paint_answer paint_checks
  picture = picture-accepted t.layout image k.shift given (in_order-front _ _ ok)

  module _ (c : ℕ) (h : c < image.channels) where
    filled : Parts image.format
    filled = parts image.format (omega (arith, h, (valid image picture.setting).channels_is))

    pub component-in-pixel : (c + 1) * component_bytes image.format ≤ pixel_bytes image
    component-in-pixel =
        let same = (valid image picture.setting).channels_is in
        omega (
          arith,
          mul-le-mul_right {m = c + 1} {n = (format_of image.format).channels} (component_bytes image.format) (omega (arith, h, same)),
          filled.whole,
        )

    pub component-in-buffer : (x y : ℕ) → InImage image x y → pixel_position image x y + (c + 1) * component_bytes image.format ≤ given
    component-in-buffer x y i = omega (arith, component-in-pixel, strip-end image x y 1 (omega arith) (omega (arith, i.x_lt)) i.y_lt, picture.room)
