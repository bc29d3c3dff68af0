-- What an accepted layout tells: the facts behind checks 1 to 4. By taking the checks' tests apart. Assumes nothing.
--     Valid, valid                      the facts of an accepted layout
use Prim.Native.Nat.{ℕ, ◌+◌, ◌-◌, ◌*◌, ◌%◌, ◌≤◌, ◌<◌}
use mathlib.Core.Path.{◌≡◌}
use mathlib.Core.Bool.{true}
use mathlib.Core.List.{[], ◌∷◌}
use lib.Dec.{leb}
use borrow.Author.Tests.{ltb-true, leb-true, eqb-true}
use Rattle.general.proofs.TestLaws.{and-all}
use Rattle.refusal.specs.Checks.{in_order, Accepted}
use Rattle.refusal.specs.Sizes.{size_valid}
use Rattle.refusal.proofs.CheckLaws.{Held, in_order-all, require_at-held}
use Rattle.refusal.proofs.SizeLaws.{size-pos, size-le}
use Rattle.layout.specs.declared.CubeLayout.{CubeLayout}
use Rattle.layout.specs.Rules.{sizes_valid, whole_atoms, strides_valid, layout_checks}

pub record Valid (q : CubeLayout) : Type 0 where
  pub width_pos : 0 < q.width
  pub width_le : q.width ≤ 8192
  pub height_pos : 0 < q.height
  pub height_le : q.height ≤ 8192
  pub channels_pos : 0 < q.channels
  pub channels_le : q.channels ≤ 8192
  pub precision_lt : q.precision < 3
  pub line_atoms : q.line % 32 ≡ 0
  pub surface_atoms : q.surface % 32 ≡ 0
  pub line_ge : 32 * q.width ≤ q.line
  pub surface_ge : (q.height - 1) * q.line + 32 * q.width ≤ q.surface
  pub start_atoms : q.start % 32 ≡ 0

atoms : (n : ℕ) → whole_atoms n ≡ true → n % 32 ≡ 0
unfolding whole_atoms
atoms n e = eqb-true (n % 32) 0 e

pub valid : (q : CubeLayout) → in_order (layout_checks q) ≡ Accepted → Valid q
unfolding layout_checks strides_valid sizes_valid Held
valid q e =
    let held = in_order-all _ e in
    let sizes = and-all (size_valid 8192 q.width) (size_valid 8192 q.height ∷ size_valid 8192 q.channels ∷ []) (require_at-held _ _ _ held.0) in
    let strides =
    and-all (whole_atoms q.line)
    (whole_atoms q.surface ∷ leb (32 * q.width) q.line ∷ leb ((q.height - 1) * q.line + 32 * q.width) q.surface ∷ [])
    (require_at-held _ _ _ held.1.1.0) in
    record {
      width_pos = size-pos 8192 q.width sizes.0;
      width_le = size-le 8192 q.width sizes.0;
      height_pos = size-pos 8192 q.height sizes.1.0;
      height_le = size-le 8192 q.height sizes.1.0;
      channels_pos = size-pos 8192 q.channels sizes.1.1;
      channels_le = size-le 8192 q.channels sizes.1.1;
      precision_lt = ltb-true q.precision 3 (require_at-held _ _ _ held.1.0);
      line_atoms = atoms q.line strides.0;
      surface_atoms = atoms q.surface strides.1.0;
      line_ge = leb-true (32 * q.width) q.line strides.1.1.0;
      surface_ge = leb-true ((q.height - 1) * q.line + 32 * q.width) q.surface strides.1.1.1;
      start_atoms = atoms q.start (require_at-held _ _ _ held.1.1.1.0);
    }
