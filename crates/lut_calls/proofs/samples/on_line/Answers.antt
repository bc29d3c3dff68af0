-- `lut_calls::samples::on_line` meets its contract: the product and the sum stay within 64 bits. Assumes nothing.
use Prim.Native.Nat.{◌^◌}
use mathlib.Core.Path.{◌≡◌, sym, ap, subst, ◌∙◌}
use lib.IntN.{ℤ, pos, negsuc}
use borrow.Author.Rules.{sfits_of}
use mir.Syntax.{w32, w64}
use mir.Val.{SFits}
use mir.Facts.{sfits_lit}
use Rattle.general.proofs.Casts.{cast_fits, cast-value}
use Rattle.integers.specs.Saturate.{saturate}
use Rattle.integers.proofs.SaturateLaws.{fits-saturate}
use Rattle.lut.proofs.HeldLaws.{line-fits, line-value}
use Rattle.lut_calls.specs.StepsRows.{on_line}
use Rattle.lut_calls.proofs.samples.on_line.Goals as goal

result-is : (c : goal.After-saturate) → let a = c.args in c.saturate.result ≡ on_line a.first a.rise a.f (2 ^ a.shift)
unfolding on_line
result-is c =
    let s = c in
    let f = s.ranges in
    c.saturate.ensures
    ∙ ap (λ (z : ℤ). saturate (negsuc 2147483647) (pos 2147483647) z) (line-value (2 ^ s.args.shift) f.first f.rise f.f s.requires.1)

result_fits : (c : goal.After-saturate) → SFits w32 c.saturate.result
unfolding on_line
result_fits c = subst (λ (z : ℤ). SFits w32 z) (sym (result-is c)) (fits-saturate _ (sfits_lit tt) (sfits_lit tt))

pub overflow_add-first : goal.overflow_add-first
overflow_add-first c = line-fits (2 ^ c.args.shift) c.ranges.first c.ranges.rise c.ranges.f c.requires.1

pub overflow_cast-result : goal.overflow_cast-result
overflow_cast-result c = cast_fits {w = w64} (sfits_of c.saturate.type_inv) (result_fits c)

pub returns : goal.returns
returns c = cast-value {w = w64} (sfits_of c.saturate.type_inv) (result_fits c) ∙ result-is c
