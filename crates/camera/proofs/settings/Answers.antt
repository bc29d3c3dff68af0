-- `camera::settings` meets its contract: it fills in the definition's fields. Assumes nothing.
use mathlib.Core.Path.{◌≡◌, ap, ◌∙◌}
use lib.Dec.{lit≤}
use lib.IntN.{ℤ, pos, ◌-ℤ◌}
use borrow.Author.Rules.{sfits_of}
use mir.Syntax.{w32}
use mir.Val.{to_z, of_z}
use mir.Facts.{to_z-of_z}
use Rattle.lut.specs.declared.XMode.TheVariants.{Linear}
use Rattle.lut.specs.Numbers.{scaled}
use Rattle.camera.specs.Ready.{flat, ready_settings}
use Rattle.camera.proofs.ReadyLaws.{low_fits, low_value, low-valid, select-valid}
use Rattle.camera.proofs.settings.Goals as goal

pub overflow_sub-x_select : goal.overflow_sub-x_select
overflow_sub-x_select c = low_fits c.ranges.select c.requires

pub end_of-requires : goal.end_of-requires
end_of-requires c = (lit≤ tt, rw (low_value c.ranges.select c.requires) (low-valid c.ranges.select c.requires))

pub end_of-requires-2 : goal.end_of-requires-2
end_of-requires-2 c = let s = c in (lit≤ tt, rw (to_z-of_z s.ranges.select) (select-valid s.ranges.select s.requires))

pub returns : goal.returns
unfolding ready_settings flat
returns c =
    let a = c.args in
    let f = c.ranges in
    -- the two ends
    let x_end : to_z w32 (of_z w32 c.end_of.result) ≡ pos (scaled 64 (a.select -ℤ pos 2)) =
    to_z-of_z {w = w32} (sfits_of c.end_of.type_inv) ∙ c.end_of.ensures ∙ ap (λ (v : ℤ). pos (scaled 64 v)) (low_value f.select c.requires) in
    let y_end : to_z w32 (of_z w32 c.end_of-2.result) ≡ pos (scaled 256 a.select) =
    to_z-of_z {w = w32} (sfits_of c.end_of-2.type_inv) ∙ c.end_of-2.ensures ∙ ap (λ (v : ℤ). pos (scaled 256 v)) (to_z-of_z f.select) in
    λ i. record {
      x = record { mode = Linear (low_value f.select c.requires i); start = pos 0; end = x_end i; below = flat; above = flat };
      y = record { select = to_z-of_z f.select i; start = pos 0; end = y_end i; below = flat; above = flat };
      priority = c.unwrap_or.ensures i;
      overflow = c.unwrap_or-2.ensures i;
      underflow = c.unwrap_or-3.ensures i;
    }
