-- The box that is painted, as the code finds it: test after test. Assumes nothing.
--     target-denied                      the region is refused
--     target-wide, target-high           a picture of another size
--     target-refused, target-found       and then by the room for it
use Prim.Native.Nat.{ℕ}
use mathlib.Core.Path.{◌≡◌, sym, ap, ◌∙◌}
use mathlib.Core.Bool.{Bool, true, false, ◌&&◌}
use lib.Dec.{eqb}
use borrow.Author.Tests.{eq-eqb, ne_eqb}
use Rattle.general.proofs.TestLaws.{and_both}
use Rattle.std.specs.Prelude.{Ok, Err}
use Rattle.refusal.specs.declared.Fault.{Fault}
use Rattle.refusal.specs.declared.Refusal.TheVariants.{Bounds}
use Rattle.refusal.specs.Checks.{in_order, Accepted, refused_at}
use Rattle.refusal.proofs.CheckLaws.{in_order-passed, given-accepted, given-refused}
use Rattle.layout.specs.declared.ElementBox.{ElementBox}
use Rattle.layout.specs.Rules.{box_checks, room_checks}
use Rattle.layout.specs.Calls.{clear_box_answer}
use Rattle.pixels.specs.declared.PixelSetting.{PixelSetting}
use Rattle.regions.specs.declared.RegionTable.{RegionTable}
use Rattle.regions.specs.Rules.{Access, access_of, rectangle_named, region_box, whole_region, region_box_checks}
use Rattle.regions.specs.Calls.{region_found}
use Rattle.regions.proofs.CallLaws.{box-passes}
use Rattle.regions_calls.specs.Steps.{found_box}
use Rattle.regions_calls.proofs.StepLaws.{found-refused, found_at}
use Rattle.parlour.specs.Rules.{fills_rectangle, target_checks}
use Rattle.parlour.proofs.RuleLaws.{target-region, target-unlike, target_room}
use Rattle.parlour_calls.specs.Steps.{target_found}

module _ (t : RegionTable) (n id : ℕ) (image : PixelSetting) (len : ℕ) where
  abbrev a : Access
  a = access_of t n id

  refused : {f : Fault} → Err f ≡ in_order (target_checks a image len) → Err f ≡ target_found a image len
  unfolding target_found
  refused e = sym (given-refused _ (sym e))

  pub target-denied : {f : Fault} → region_found t n id ≡ Err f → Err f ≡ target_found a image len
  unfolding region_found found_box
  target-denied e = refused (target-region a image len (found-refused a (whole_region a) e))

  module _ {b : ElementBox} (found : region_found t n id ≡ Ok b) where
    checked : in_order (region_box_checks a (whole_region a)) ≡ Accepted
    unfolding region_found found_box
    checked = (found_at a (whole_region a) found).0

    is-box : b ≡ region_box a (whole_region a)
    unfolding region_found found_box
    is-box = (found_at a (whole_region a) found).1

    unlike : (fills_rectangle image (rectangle_named a) ≡ false) → Err (refused_at 0 Bounds) ≡ target_found a image len
    unlike e = refused (target-unlike a image len checked e)

    pub target-wide : (image.width ≡ b.columns → ⊥) → Err (refused_at 0 Bounds) ≡ target_found a image len
    unfolding fills_rectangle
    target-wide f =
        let e : eqb image.width (rectangle_named a).columns ≡ false = ne_eqb _ _ (λ s. f (s ∙ sym (ap (λ (x : ElementBox). x.columns) is-box))) in
        unlike (ap (λ (x : Bool). x && eqb image.height (rectangle_named a).rows) e)

    module _ (wide : image.width ≡ b.columns) where
      wide_is : eqb image.width (rectangle_named a).columns ≡ true
      wide_is = eq-eqb _ _ (wide ∙ ap (λ (x : ElementBox). x.columns) is-box)

      pub target-high : (image.height ≡ b.rows → ⊥) → Err (refused_at 0 Bounds) ≡ target_found a image len
      unfolding fills_rectangle
      target-high f =
          let e : eqb image.height (rectangle_named a).rows ≡ false = ne_eqb _ _ (λ s. f (s ∙ sym (ap (λ (x : ElementBox). x.rows) is-box))) in
          unlike (rw (wide_is, e))

      module _ (high : image.height ≡ b.rows) where
        fills : fills_rectangle image (rectangle_named a) ≡ true
        unfolding fills_rectangle
        fills = and_both wide_is (eq-eqb _ _ (high ∙ ap (λ (x : ElementBox). x.rows) is-box))

        room-is : clear_box_answer t.layout b len ≡ in_order (target_checks a image len)
        unfolding clear_box_answer
        room-is =
            ap (λ (x : ElementBox). clear_box_answer t.layout x len) is-box
            ∙ in_order-passed (box_checks t.layout (region_box a (whole_region a))) (room_checks t.layout len) (box-passes a (whole_region a) checked)
            ∙ sym (target_room a image len checked fills)

        pub target-refused : {f : Fault} → clear_box_answer t.layout b len ≡ Err f → Err f ≡ target_found a image len
        target-refused e = refused (sym e ∙ room-is)

        pub target-found : clear_box_answer t.layout b len ≡ Accepted → Ok b ≡ target_found a image len
        unfolding target_found
        target-found e = ap (λ (x : ElementBox). Ok x) is-box ∙ sym (given-accepted _ (sym room-is ∙ e))
