-- How many components are held, as the code counts them: run by run of a strip, strip by strip of a row. Assumes nothing.
--     run_none, run_more, run-le      a run: no component, one more, how many at most
--     strip-of, strip-le              the runs of a strip are its pixels
--     row-more                        a strip more of a row
use Prim.Native.Nat.{ℕ, ◌+◌, ◌-◌, ◌*◌, ◌≤◌, ◌<◌, min}
use native.Mathlib.Omega.{arith}
use mathlib.Core.Path.{◌≡◌, sym, ap, ◌∙◌}
use mathlib.Core.Bool.{cond}
use mathlib.Core.List.{List}
use mir.Val.{bool_byte}
use Rattle.general.proofs.Casts.{bool-number}
use Rattle.pixels.specs.declared.PixelSetting.{PixelSetting}
use Rattle.pixels.specs.Settings.{pixel_bytes, pixel_position}
use Rattle.quantize.specs.declared.Converted.{Converted}
use Rattle.quantize.specs.Quantize.{conversion}
use Rattle.parlour.specs.declared.Conversion.{Conversion}
use Rattle.parlour.specs.Components.{component_bytes, component_at, component}
use Rattle.parlour.specs.Counts.{total, held_one, pixel_held}
use Rattle.parlour.proofs.ComponentLaws.{pixel-step}
use Rattle.parlour.proofs.CountLaws.{total-none, total-more, total-add, total-same, total-swap, total-le, held_one-le, pixel_held-le}
use Rattle.parlour_calls.specs.Steps.{run_held, strip_held, pixels_held}

-- ---- a run
module _ (code : ℕ) (k : Conversion) (p : ℕ) (pixels : List ℕ) (at step : ℕ) where
  abbrev one : ℕ → ℕ
  one i = held_one k p (component_at code pixels (at + step * i))

  pub run_none : 0 ≡ run_held code k p pixels at step 0
  unfolding run_held
  run_none = total-none one

  counts : (i : ℕ) {c : Converted} → c ≡ conversion (component_at code pixels (at + step * i)) k.offset k.scale k.shift p → bool_byte c.held ≡ one i
  unfolding held_one
  counts i {c} e = bool-number c.held ∙ ap (λ (x : Converted). cond x.held 1 0) e

  pub run_more : (i : ℕ) {held : ℕ} {c : Converted} → held ≡ run_held code k p pixels at step i
      → c ≡ conversion (component_at code pixels (at + step * i)) k.offset k.scale k.shift p → held + bool_byte c.held ≡ run_held code k p pixels at step (i + 1)
  unfolding run_held
  run_more i e f = omega (arith, e, counts i f, total-more one i)

  pub run-le : (i : ℕ) → run_held code k p pixels at step i ≤ i
  unfolding run_held
  run-le i = omega (arith, total-le one 1 i (λ m h. held_one-le k p _))

-- ---- a strip
module _ (image : PixelSetting) (pixels : List ℕ) (k : Conversion) (p : ℕ) (x y count : ℕ) where
  -- component n of pixel i, by the run of component n and by the pixel
  same-one : (channels size : ℕ) → channels * size ≡ pixel_bytes image → size ≡ component_bytes image.format → (n i : ℕ)
      → held_one k p (component_at image.format pixels (pixel_position image x y + n * size + channels * size * i)) ≡ held_one k p (component image pixels n (x + i) y)
  unfolding component
  same-one channels size whole same n i =
      ap (λ (a : ℕ). held_one k p (component_at image.format pixels a)) (sym (pixel-step image x y n i size channels whole))
      ∙ ap (λ (e : ℕ). held_one k p (component_at image.format pixels (pixel_position image (x + i) y + n * e))) same

  pub strip-of : (channels size : ℕ) → channels ≡ image.channels → channels * size ≡ pixel_bytes image → size ≡ component_bytes image.format
      → strip_held image.format size channels k p pixels (pixel_position image x y) count ≡ pixels_held image pixels k p x y count
  unfolding strip_held run_held pixels_held pixel_held
  strip-of channels size all whole same =
      total-same
      (λ (n : ℕ). total (λ (i : ℕ). held_one k p (component_at image.format pixels (pixel_position image x y + n * size + channels * size * i))) count)
      (λ (n : ℕ). total (λ (i : ℕ). held_one k p (component image pixels n (x + i) y)) count)
      channels
      (λ n h. total-same _ _ count (λ i l. same-one channels size whole same n i))
      ∙ total-swap (λ (n i : ℕ). held_one k p (component image pixels n (x + i) y)) channels count
      ∙ ap (λ (c : ℕ). total (λ (i : ℕ). total (λ (n : ℕ). held_one k p (component image pixels n (x + i) y)) c) count) all

  -- the strips of a row of so many pixels before pixel x, and the next one, of at most 256
  pub row-more : (width : ℕ) → x < width → count ≡ min (width - x) 256 → {held more : ℕ} → held ≡ total (λ (i : ℕ). pixel_held image pixels k p i y) (min x width)
      → more ≡ pixels_held image pixels k p x y count → held + more ≡ total (λ (i : ℕ). pixel_held image pixels k p i y) (min (x + 256) width)
  unfolding pixels_held
  row-more width lt is e w =
      let pixel : ℕ → ℕ = λ (i : ℕ). pixel_held image pixels k p i y in
      let first : min x width ≡ x = omega arith in
      let next : x + count ≡ min (x + 256) width = omega arith in
      omega (arith, e, w, ap (total pixel) first, total-add pixel x count) ∙ ap (total pixel) next

  pub strip-le : pixels_held image pixels k p x y count ≤ image.channels * count
  unfolding pixels_held
  strip-le = total-le (λ (i : ℕ). pixel_held image pixels k p (x + i) y) image.channels count (λ i h. pixel_held-le image pixels k p (x + i) y)
