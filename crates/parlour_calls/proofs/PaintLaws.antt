-- Painting as the code does it: what was checked of picture and region, and that the box painted is the region edited. Assumes nothing.
--     same-elements                      a picture's elements, counted from the region's corner and from the cube's
--     picture-refused, target-refused    picture or region refused
--     paintable                          a picture that may be painted
--     paint-counts, paint-leaves         the region painted
use Prim.Native.Nat.{ℕ, ◌+◌, ◌-◌, ◌/◌, ◌%◌}
use native.Mathlib.Omega.{arith}
use mathlib.Core.Path.{◌≡◌, refl, sym, ap, subst⁻¹, ◌∙◌}
use mathlib.Core.List.{List}
use lib.ListN.{length}
use lib.IntN.{ℤ, pos}
use Rattle.std.specs.Prelude.{Ok, Err}
use Rattle.refusal.specs.declared.Fault.{Fault}
use Rattle.refusal.specs.Checks.{in_order, Answer, Accepted}
use Rattle.refusal.proofs.CheckLaws.{in_order-passed, in_order-refused, leaves-done, given-accepted, given-refused, given-ok, given-err}
use Rattle.elements.proofs.TabulateLaws.{tabulate-ext}
use Rattle.layout.specs.declared.ElementBox.{ElementBox}
use Rattle.layout.specs.Boxes.{box_count, channel_at, row_at, column_at}
use Rattle.layout.specs.Contents.{edited, elements_by}
use Rattle.layout.proofs.CallLaws.{clear-valid}
use Rattle.pixels.specs.declared.PixelSetting.{PixelSetting}
use Rattle.regions.specs.declared.RegionTable.{RegionTable}
use Rattle.regions.specs.Rules.{Access, access_of, region_box, whole_region}
use Rattle.regions.proofs.CallLaws.{box-passes}
use Rattle.parlour.specs.declared.Conversion.{Conversion}
use Rattle.parlour.specs.Components.{image_box, painted_elements}
use Rattle.parlour.specs.Rules.{picture_checks, target_checks, paint_checks}
use Rattle.parlour.specs.Counts.{held_count}
use Rattle.parlour.specs.Calls.{paint_answer, paint_held, paint_buffer}
use Rattle.parlour.proofs.RuleLaws.{ValidPicture, picture-accepted, ValidTarget, target-accepted}
use Rattle.parlour.proofs.CallLaws.{whole-image, paint-kept}
use Rattle.parlour_calls.specs.Steps.{target_found, Paintable, painted_at, part_painted}

-- ---- the elements, counted from the region's corner and from the cube's
module _ (a : Access) (image : PixelSetting) (pixels : List ℕ) (k : Conversion) (p : ℕ) where
  abbrev moved : ElementBox
  moved = region_box a (image_box image)

  same-elements : elements_by moved (painted_at moved image pixels k p) ≡ painted_elements image pixels k p
  unfolding painted_elements painted_at box_count channel_at row_at column_at
  same-elements =
      tabulate-ext (pos 0) (box_count moved) _ _
      (λ i h.
      let column : moved.column + i % image.width - moved.column ≡ 0 + i % image.width = omega arith in
      let row : moved.row + i / image.width % image.height - moved.row ≡ 0 + i / image.width % image.height = omega arith in
      rw (column, row))

module _ (t : RegionTable) (n id : ℕ) (image : PixelSetting) (pixels : List ℕ) (k : Conversion) (before : List ℕ) where
  abbrev a : Access
  a = access_of t n id

  abbrev picture : Answer
  picture = in_order (picture_checks t.layout image k.shift (length pixels))

  -- the picture is refused
  pub picture-refused : {f : Fault} → picture ≡ Err f
      → (Err f ≡ paint_held t n id image pixels k (length before)) × (before ≡ paint_buffer t n id image pixels k before)
  unfolding paint_held paint_answer paint_checks
  picture-refused e =
      let denied = in_order-refused _ (target_checks a image (length before)) e in
      (sym (given-refused _ denied), sym (paint-kept t n id image pixels k before denied))

  module _ (ok : picture ≡ Accepted) where
    -- the region is
    pub target-refused : {f : Fault} → target_found a image (length before) ≡ Err f
        → (Err f ≡ paint_held t n id image pixels k (length before)) × (before ≡ paint_buffer t n id image pixels k before)
    unfolding paint_held paint_answer paint_checks target_found
    target-refused e =
        let denied = in_order-passed _ _ ok ∙ given-err _ _ _ e in
        (sym (given-refused _ denied), sym (paint-kept t n id image pixels k before denied))

    module _ {box : ElementBox} (found : target_found a image (length before) ≡ Ok box) where
      accepted : in_order (target_checks a image (length before)) ≡ Accepted
      unfolding target_found
      accepted = (given-ok _ _ _ found).0

      box-is : box ≡ region_box a (whole_region a)
      unfolding target_found
      box-is = sym (given-ok _ _ _ found).1

      valid-picture : ValidPicture t.layout image k.shift (length pixels)
      valid-picture = picture-accepted t.layout image k.shift (length pixels) ok

      valid-target : ValidTarget a image (length before)
      valid-target = target-accepted a image (length before) accepted

      pub paintable : Paintable t.layout box image k.shift (length pixels) (length before)
      paintable =
          let v = valid-target in
          subst⁻¹ (λ (b : ElementBox). Paintable t.layout b image k.shift (length pixels) (length before)) box-is
          (record {
            picture = ok;
            room = sym (clear-valid t.layout (region_box a (whole_region a)) (length before) (box-passes a (whole_region a) v.checked) v.room);
            channel = refl;
            channels = sym valid-picture.channels;
            rows = sym v.height;
            columns = sym v.width;
          })

      answered : paint_answer t n id image (length pixels) k (length before) ≡ Accepted
      unfolding paint_answer paint_checks
      answered = in_order-passed _ _ ok ∙ accepted

      -- the region is painted
      pub paint-counts : Ok (held_count image pixels k t.layout.precision) ≡ paint_held t n id image pixels k (length before)
      unfolding paint_held
      paint-counts = sym (given-accepted _ answered)

      pub paint-leaves : part_painted t.layout box box image pixels k before ≡ paint_buffer t n id image pixels k before
      unfolding part_painted paint_buffer
      paint-leaves =
          let q = t.layout in
          let whole = whole-image a image valid-picture valid-target in
          let same = box-is ∙ ap (region_box a) whole in
          ap (λ (b : ElementBox). edited q b (elements_by b (painted_at b image pixels k q.precision)) before) same
          ∙ ap (λ (xs : List ℤ). edited q (region_box a (image_box image)) xs before) (same-elements a image pixels k q.precision)
          ∙ ap (λ (b : ElementBox). edited q (region_box a b) (painted_elements image pixels k q.precision) before) (sym whole)
          ∙ sym (leaves-done _ before answered)
