-- The claims about painting a region (change request K3). That lists of calls have it, and what it leaves to others, is claimed with the lists of calls.
-- Assumes nothing.
use Prim.Native.Nat.{ℕ, ◌+◌, ◌*◌, ◌≤◌, ◌<◌}
use mathlib.Core.Path.{◌≡◌}
use mathlib.Core.Logic.{◌≢◌}
use mathlib.Core.List.{List}
use lib.ListN.{length}
use Rattle.refusal.specs.declared.Refusal.TheVariants.{OwnerId}
use Rattle.refusal.specs.Checks.{Accepted, Refused}
use Rattle.pixels.specs.declared.PixelSetting.{PixelSetting}
use Rattle.pixels.specs.Places.{InImage}
use Rattle.pixels.specs.Settings.{pixel_bytes, pixel_position}
use Rattle.regions.specs.declared.RegionTable.{RegionTable}
use Rattle.regions.specs.Rules.{access_of, whole_region}
use Rattle.regions.specs.Calls.{edit_answer, edit_buffer}
use Rattle.parlour.specs.declared.Conversion.{Conversion}
use Rattle.parlour.specs.Components.{component_bytes, painted_elements}
use Rattle.parlour.specs.Calls.{paint_answer, paint_buffer}
use Rattle.parlour.proofs.CallLaws.{paint-edits, paint-writes, paint-denied, component-in-pixel, component-in-buffer}

module _ (t : RegionTable) (n id : ℕ) (image : PixelSetting) (k : Conversion) where
  -- where a painting is accepted, so is an edit of the whole region with the converted components, and both leave the same buffer
  pub paint-is-edit : (pixels before : List ℕ) → paint_answer t n id image (length pixels) k (length before) ≡ Accepted
      → let all = whole_region (access_of t n id) in
      let elements = painted_elements image pixels k t.layout.precision in
      (edit_answer t n id all elements (length before) ≡ Accepted) × (paint_buffer t n id image pixels k before ≡ edit_buffer t n id all elements before)
  paint-is-edit pixels before ok = (paint-edits t n id image pixels k before ok, paint-writes t n id image pixels k before ok)

  -- then every component of every pixel lies in its pixel, behind those before it, and in the pixel buffer
  pub components-inside : (given len : ℕ) → paint_answer t n id image given k len ≡ Accepted → (c x y : ℕ) → c < image.channels → InImage image x y
      → ((c + 1) * component_bytes image.format ≤ pixel_bytes image) × (pixel_position image x y + (c + 1) * component_bytes image.format ≤ given)
  components-inside given len ok c x y h i = (component-in-pixel t n id image k given len ok c h, component-in-buffer t n id image k given len ok c h x y i)

  -- what is accepted of a region's owner is refused by 25 of anybody else
  pub paint-owned : (id' : ℕ) → id ≢ id' → (given len : ℕ) → paint_answer t n id image given k len ≡ Accepted → paint_answer t n id' image given k len ≡ Refused OwnerId 0
  paint-owned id' other given len ok = paint-denied t n id id' other image given k len ok
