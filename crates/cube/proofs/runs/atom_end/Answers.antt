-- `cube::runs::atom_end` meets its contract: 32 / e channels fill an atom. Assumes nothing.
use Prim.Native.Nat.{ℕ, ◌+◌, ◌-◌, ◌*◌, ◌/◌, ◌%◌}
use native.Mathlib.Omega.{arith}
use native.Mathlib.Nat.{mod-lt, mul-le-mul_right}
use mathlib.Core.Path.{◌≡◌, ap, ◌∙◌}
use Rattle.cube.proofs.RowLaws.{Next, atom-next, atom-channels}
use Rattle.cube.proofs.runs.atom_end.Goals as goal

pub returns : goal.returns
returns c =
    let a = c.args in
    let x : Next a.e (a.channel + a.n) (a.channel + a.n + 32 / a.e - (a.channel + a.n) % (32 / a.e)) = atom-next a.e (a.channel + a.n) c.requires.0 c.requires.1 in
    let part = mod-lt (a.channel + a.n) (atom-channels a.e c.requires.0 c.requires.1).0 in
    let m = c.min.result in
    record {
      some = omega (arith, part, x.later);
      le = omega arith;
      one = omega (arith, x.fill, mul-le-mul_right {m = m - a.n} {n = a.channel + a.n + 32 / a.e - (a.channel + a.n) % (32 / a.e) - (a.channel + a.n)} a.e (omega (arith, part)));
      next = λ h.
          let is : a.channel + m ≡ a.channel + a.n + 32 / a.e - (a.channel + a.n) % (32 / a.e) = omega (arith, part) in
          ap (λ (y : ℕ). y * a.e % 32) is ∙ x.begins;
    }
