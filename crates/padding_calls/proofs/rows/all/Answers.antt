-- `padding_calls::rows::all` meets its contract: what stands before the loop's byte is mended; each turn ends a stretch, or the part. Assumes nothing.
use Prim.Native.Nat.{ℕ, ◌+◌, ◌%◌, ◌≤◌, ◌<◌}
use native.Mathlib.Omega.{arith}
use mathlib.Core.Path.{◌≡◌, refl, sym, ap, ◌∙◌}
use mathlib.Core.Bool.{◌&&◌}
use lib.Dec.{leb}
use lib.ListN.{length}
use Rattle.layout.specs.Owners.{owner}
use Rattle.padding.specs.Calls.{lent}
use Rattle.padding_calls.specs.Steps.{is_padding}
use Rattle.padding_calls.proofs.DoneLaws.{done-start}
use Rattle.padding_calls.proofs.rows.all.Goals as goal

pub loop-i-init : goal.loop-i-init
loop-i-init c =
    let a = c.args in
    (refl, refl, omega arith, omega arith, refl, refl, refl, done-start a.layout a.first (lent a.part.now a.positions.now a.olds.now))

pub loop-i-preserved : goal.loop-i-preserved
loop-i-preserved c =
    let l = c.loop-i in
    let a = c.args in
    let s = c.next-s.result in
    let pad = c.elements_end-pad.result in
    -- which of the turn's bytes are padding
    let owners : (x : ℕ) → l.i ≤ x → x < c.min-to.result → is_padding (owner a.layout (a.first + x)) ≡ (s.atoms && leb pad ((a.first + x) % 32)) =
    λ x hi hx. c.next-s.ensures.owners (a.first + x) (omega (arith, hi)) (omega (arith, hx, c.min-to.ensures))
    ∙ ap (λ (n : ℕ). s.atoms && leb n ((a.first + x) % 32)) (sym c.elements_end-pad.ensures) in
    let within : c.min-to.result ≤ length l.part = omega (arith, c.min-to.ensures) in
    let m = c.stretch.ensures in
    let g = m.goes in (
      m.same_positions ∙ l.invariant.0,
      m.same_olds ∙ l.invariant.1,
      omega (arith, within, l.invariant.4),
      g.count_le,
      g.part_length ∙ l.invariant.4,
      g.positions_length ∙ l.invariant.5,
      g.olds_length ∙ l.invariant.6,
      g.goes a.layout (lent a.part.now a.positions.now a.olds.now) (sym l.invariant.4) l.invariant.7 owners,
    )
