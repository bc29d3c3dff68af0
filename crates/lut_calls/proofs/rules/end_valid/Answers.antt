-- `lut_calls::rules::end_valid` meets its contract: its cases are the definition's. Assumes nothing.
use mathlib.Core.Path.{◌≡◌, refl, ◌∙◌}
use lib.IntN.{pos, negsuc, ◌+ℤ◌}
use lib.Dec.{lit≤}
use mir.Syntax.{w32}
use mir.Facts.{sfits_lit}
use Rattle.general.proofs.NumberLaws.{back32}
use Rattle.lut.specs.Numbers.{scaled}
use Rattle.lut.specs.Rules.{same_z}
use Rattle.lut.proofs.AnswerLaws.{mode_valid-linear, end_valid-linear, end_valid-exponential}
use Rattle.lut.proofs.SideLaws.{wider}
use Rattle.lut.proofs.RuleLaws.{same_bits}
use Rattle.lut_calls.proofs.rules.end_valid.Goals as goal

pub linear_end-requires : goal.linear_end-requires
linear_end-requires c =
    let s = c in
    rw (back32 c.in-Linear.select c.in-Linear.known_told-1-own.given.0.1)
    (lit≤ tt, wider (negsuc 5) (pos 25) (negsuc 7) (pos 25) c.in-Linear.select refl refl (mode_valid-linear s.args.s.mode c.in-Linear.select c.in-Linear.is ∙ s.requires))

pub returns-in-Linear : goal.returns-in-Linear
returns-in-Linear c =
    let k = c in
    let d = k in
    let a = d.args in
    let r : c.linear_end.result ≡ same_z a.s.end (a.s.start +ℤ pos (scaled 64 k.in-Linear.select))
    = simp (
      back32 k.in-Linear.select k.in-Linear.known_told-1-own.given.0.1,
      back32 a.s.start d.struct_told-1.given.1.0.1,
      back32 a.s.end d.struct_told-2-1.given.1.1.0.1,
    ) at c.linear_end.ensures in
    r ∙ end_valid-linear a.s k.in-Linear.select k.in-Linear.is

pub returns-in-Exponential : goal.returns-in-Exponential
returns-in-Exponential c = let m = c.struct_told-2-1.given.1.1.0.1 in
    same_bits {w = w32} (record { sfits = m }) (sfits_lit tt) ∙ end_valid-exponential c.args.s c.in-Exponential.offset c.in-Exponential.is
