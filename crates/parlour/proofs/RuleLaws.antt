-- The checks of painting: what accepted ones tell, and their order as the code goes through it. By taking the lists of checks apart. Assumes nothing.
--     ValidPicture, picture-accepted      what accepted checks of the picture tell
--     ValidTarget, target-accepted        what accepted checks of the region tell
--     picture-setting .. picture-valid    the picture's checks, one after another
--     target-region .. target_room        the region's
use Prim.Native.Nat.{ℕ, ◌+◌, ◌≤◌, ◌<◌}
use mathlib.Core.Path.{◌≡◌, sym, ◌∙◌}
use mathlib.Core.Bool.{true, false, not}
use mathlib.Core.List.{[]}
use lib.Dec.{eqb}
use borrow.Author.Tests.{leb-true, eqb-true, le-leb, lt-leb}
use Rattle.general.proofs.TestLaws.{and_left, and_right}
use Rattle.std.specs.Prelude.{Err}
use Rattle.refusal.specs.declared.Fault.{Fault}
use Rattle.refusal.specs.declared.Refusal.TheVariants.{BufferLength, Bounds, ImageKind, PixelLength}
use Rattle.refusal.specs.Checks.{in_order, Accepted, Refused}
use Rattle.refusal.proofs.CheckLaws.{in_order-nil, in_order-next, in_order-stop, in_order-held, in_order-rest, in_order-front, in_order-back, in_order-passed, in_order-refused}
use Rattle.layout.specs.declared.CubeLayout.{CubeLayout}
use Rattle.layout.specs.Geometry.{cube_extent}
use Rattle.layout.specs.Rules.{room_checks}
use Rattle.pixels.specs.declared.PixelSetting.{PixelSetting}
use Rattle.pixels.specs.Formats.{format_of}
use Rattle.pixels.specs.Settings.{setting_checks, setting_answer}
use Rattle.quantize.specs.Quantize.{quantize_checks}
use Rattle.regions.specs.Rules.{Access, rectangle_named, whole_region, region_box_checks}
use Rattle.regions.proofs.RuleLaws.{ValidBox, box-accepted}
use Rattle.parlour.specs.Rules.{kind_taken, image_end, fills_rectangle, picture_checks, target_checks}

-- ---- the picture: 19, 1, 20, 21, 22, 29, 2, 16, 30

-- its setting and its conversion are accepted, its channels are the cube's, and the pixel buffer has its last pixel
pub record ValidPicture (q : CubeLayout) (image : PixelSetting) (shift given : ℕ) : Type 0 where
  pub setting : setting_answer image ≡ Accepted
  pub channels : image.channels ≡ q.channels
  pub conversion : in_order (quantize_checks q.precision shift) ≡ Accepted
  pub room : image_end image ≤ given

module _ (q : CubeLayout) (image : PixelSetting) (shift given : ℕ) where
  pub picture-accepted : in_order (picture_checks q image shift given) ≡ Accepted → ValidPicture q image shift given
  unfolding picture_checks setting_answer kind_taken
  picture-accepted e =
      let kind = in_order-back (setting_checks image) _ e in
      let rest = in_order-rest 0 ImageKind _ _ kind in
      record {
        setting = in_order-front (setting_checks image) _ e;
        channels = eqb-true image.channels q.channels (and_right (not (eqb (format_of image.format).precision 2)) _ (in_order-held 0 ImageKind _ _ kind));
        conversion = in_order-front (quantize_checks q.precision shift) _ rest;
        room = leb-true (image_end image) given (in_order-held 0 PixelLength _ _ (in_order-back (quantize_checks q.precision shift) _ rest));
      }

  pub picture-setting : {f : Fault} → setting_answer image ≡ Err f → Err f ≡ in_order (picture_checks q image shift given)
  unfolding picture_checks setting_answer
  picture-setting e = sym (in_order-refused (setting_checks image) _ e)

  module _ (ok : setting_answer image ≡ Accepted) where
    pub picture-kind : kind_taken q image ≡ false → Refused ImageKind 0 ≡ in_order (picture_checks q image shift given)
    unfolding picture_checks setting_answer
    picture-kind e = sym (in_order-passed (setting_checks image) _ ok ∙ in_order-stop 0 ImageKind _ e)

    module _ (kind : kind_taken q image ≡ true) where
      pub picture-conversion : {f : Fault} → in_order (quantize_checks q.precision shift) ≡ Err f → Err f ≡ in_order (picture_checks q image shift given)
      unfolding picture_checks setting_answer
      picture-conversion e = sym (in_order-passed (setting_checks image) _ ok ∙ in_order-next 0 ImageKind _ kind ∙ in_order-refused (quantize_checks q.precision shift) _ e)

      module _ (conversion : in_order (quantize_checks q.precision shift) ≡ Accepted) where
        pub picture-short : given < image_end image → Refused PixelLength 0 ≡ in_order (picture_checks q image shift given)
        unfolding picture_checks setting_answer
        picture-short h =
            sym
            (in_order-passed (setting_checks image) _ ok
            ∙ in_order-next 0 ImageKind _ kind
            ∙ in_order-passed (quantize_checks q.precision shift) _ conversion
            ∙ in_order-stop 0 PixelLength [] (lt-leb (image_end image) given h))

        pub picture-valid : image_end image ≤ given → Accepted ≡ in_order (picture_checks q image shift given)
        unfolding picture_checks setting_answer
        picture-valid h =
            sym
            (in_order-passed (setting_checks image) _ ok
            ∙ in_order-next 0 ImageKind _ kind
            ∙ in_order-passed (quantize_checks q.precision shift) _ conversion
            ∙ in_order-next 0 PixelLength [] (le-leb (image_end image) given h)
            ∙ in_order-nil)

-- ---- the region: 1 to 4, 8, 25, 9, 5

-- the region is the owner's and in the cube, the picture is of its size, and the buffer holds the extent
pub record ValidTarget (a : Access) (image : PixelSetting) (len : ℕ) : Type 0 where
  pub checked : in_order (region_box_checks a (whole_region a)) ≡ Accepted
  pub region : ValidBox a (whole_region a)
  pub width : image.width ≡ (rectangle_named a).columns
  pub height : image.height ≡ (rectangle_named a).rows
  pub room : a.layout.start + cube_extent a.layout ≤ len

module _ (a : Access) (image : PixelSetting) (len : ℕ) where
  pub target-accepted : in_order (target_checks a image len) ≡ Accepted → ValidTarget a image len
  unfolding target_checks fills_rectangle
  target-accepted e =
      let g = rectangle_named a in
      let ok = in_order-front (region_box_checks a (whole_region a)) _ e in
      let rest = in_order-back (region_box_checks a (whole_region a)) _ e in
      let fills = in_order-held 0 Bounds _ _ rest in
      record {
        checked = ok;
        region = box-accepted a (whole_region a) ok;
        width = eqb-true image.width g.columns (and_left _ _ fills);
        height = eqb-true image.height g.rows (and_right (eqb image.width g.columns) _ fills);
        room = leb-true (a.layout.start + cube_extent a.layout) len (in_order-held 0 BufferLength _ _ (in_order-rest 0 Bounds _ _ rest));
      }

  pub target-region : {f : Fault} → in_order (region_box_checks a (whole_region a)) ≡ Err f → Err f ≡ in_order (target_checks a image len)
  unfolding target_checks
  target-region e = sym (in_order-refused (region_box_checks a (whole_region a)) _ e)

  module _ (ok : in_order (region_box_checks a (whole_region a)) ≡ Accepted) where
    pub target-unlike : fills_rectangle image (rectangle_named a) ≡ false → Refused Bounds 0 ≡ in_order (target_checks a image len)
    unfolding target_checks
    target-unlike e = sym (in_order-passed (region_box_checks a (whole_region a)) _ ok ∙ in_order-stop 0 Bounds _ e)

    -- past 9 what is left is 5
    pub target_room : fills_rectangle image (rectangle_named a) ≡ true → in_order (target_checks a image len) ≡ in_order (room_checks a.layout len)
    unfolding target_checks
    target_room fills = in_order-passed (region_box_checks a (whole_region a)) _ ok ∙ in_order-next 0 Bounds _ fills
