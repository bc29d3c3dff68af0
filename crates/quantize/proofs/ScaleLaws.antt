-- The scaled difference as the code computes it: difference and product stay within 64 bits, so each is the whole numbers' own. Assumes nothing.
--     diff-fits, product-fits     the difference and the product are below 2 ^ 63
--     product_value               the product, read back
--     product_small               its magnitude
use Prim.Native.Nat.{◌+◌, ◌*◌, ◌^◌, ◌≤◌}
use native.Mathlib.Omega.{arith}
use mathlib.Core.Path.{◌≡◌, sym, subst, ◌∙◌}
use lib.Dec.{lit<}
use lib.IntN.{ℤ, nat_abs, ◌-ℤ◌, ◌*ℤ◌}
use mir.Syntax.{w16, w32, w64}
use mir.Val.{SFits}
use mir.Facts.{sfits_widen, to_z-of_z}
use Rattle.general.proofs.Ranges.{Within, within-take, within-times, fits-within, within-fits}
use Rattle.general.proofs.Casts.{cast-value}
use Rattle.general.proofs.NumberLaws.{from16, from32, held, within-abs}

module _ {d offset scale : ℤ} (fd : SFits w32 d) (fo : SFits w16 offset) (fs : SFits w16 scale) where
  diff-within : Within (2 ^ 31 + 2 ^ 15) (d -ℤ offset)
  diff-within = within-take (fits-within fd) (fits-within fo)

  product-within : Within ((2 ^ 31 + 2 ^ 15) * 2 ^ 15) ((d -ℤ offset) *ℤ scale)
  product-within = within-times diff-within (fits-within fs)

  diff_is : from32 d -ℤ from16 offset ≡ d -ℤ offset
  diff_is = rw (cast-value fd (sfits_widen tt fd), cast-value fo (sfits_widen tt fo))

  pub diff-fits : SFits w64 (from32 d -ℤ from16 offset)
  diff-fits = subst (λ (v : ℤ). SFits w64 v) (sym diff_is) (within-fits diff-within (lit< tt))

  product_is : held (from32 d -ℤ from16 offset) *ℤ from16 scale ≡ (d -ℤ offset) *ℤ scale
  product_is = rw (to_z-of_z diff-fits, diff_is, cast-value fs (sfits_widen tt fs))

  pub product-fits : SFits w64 (held (from32 d -ℤ from16 offset) *ℤ from16 scale)
  product-fits = subst (λ (v : ℤ). SFits w64 v) (sym product_is) (within-fits product-within (lit< tt))

  pub product_value : held (held (from32 d -ℤ from16 offset) *ℤ from16 scale) ≡ (d -ℤ offset) *ℤ scale
  product_value = to_z-of_z product-fits ∙ product_is

  pub product_small : nat_abs ((d -ℤ offset) *ℤ scale) ≤ 2 ^ 47
  product_small = omega (arith, within-abs ((d -ℤ offset) *ℤ scale) product-within)
