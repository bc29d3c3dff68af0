-- What painting a region from a camera's picture answers and leaves (change requests K3, K5). Where it is refused, the buffer stays as it was and there is
-- no count; the table is handed back as it came, always. Assumes nothing.
use Rattle.std.specs.Prelude.{ℕ, List, length}
use Rattle.refusal.specs.Checks.{in_order, leaves, quantity, Answer, Quantity}
use Rattle.layout.specs.Contents.{edited}
use Rattle.pixels.specs.declared.PixelSetting.{PixelSetting}
use Rattle.regions.specs.declared.RegionTable.{RegionTable}
use Rattle.regions.specs.Rules.{access_of, region_box, whole_region}
use Rattle.parlour.specs.declared.Conversion.{Conversion}
use Rattle.parlour.specs.Components.{painted_elements}
use Rattle.parlour.specs.Counts.{held_count}
use Rattle.parlour.specs.Rules.{paint_checks}

-- 19, 1, 20, 21, 22, 29, 2, 16, 30, then 1 to 4, 8, 25, 9, 5
unfoldable pub paint_answer : RegionTable → (n id : ℕ) → PixelSetting → (given : ℕ) → Conversion → (len : ℕ) → Answer
paint_answer t n id image given k len = in_order (paint_checks (access_of t n id) image k.shift given len)

-- how many components were held at a limit, or the refusal
unfoldable pub paint_held : RegionTable → (n id : ℕ) → PixelSetting → List ℕ → Conversion → (len : ℕ) → Quantity
paint_held t n id image pixels k len = quantity (paint_answer t n id image (length pixels) k len) (held_count image pixels k t.layout.precision)

-- every element of the region becomes its converted component
unfoldable pub paint_buffer : RegionTable → (n id : ℕ) → PixelSetting → List ℕ → Conversion → List ℕ → List ℕ
paint_buffer t n id image pixels k before =
    let box = region_box (access_of t n id) (whole_region (access_of t n id)) in
    leaves (paint_answer t n id image (length pixels) k (length before)) (edited t.layout box (painted_elements image pixels k t.layout.precision) before) before
