-- `parlour_calls::strips::Painter::convert_strip` meets its contract. The loop's invariant: the first n components are converted, and those of them that were
-- held are counted. Assumes nothing.
use Prim.Native.Nat.{ℕ, ◌+◌, ◌*◌, ◌≤◌, ◌<◌}
use native.Mathlib.Omega.{arith}
use native.Mathlib.Nat.{mul_comm}
use mathlib.Core.Path.{◌≡◌, ap, ◌∙◌}
use Rattle.parlour.specs.Counts.{total}
use Rattle.parlour.proofs.CountLaws.{total-none, total-more, total-le}
use Rattle.parlour_calls.specs.Steps.{run_held, strip_held}
use Rattle.parlour_calls.proofs.CountLaws.{run-le as counted-le}
use Rattle.parlour_calls.proofs.TileLaws.{tile-none, tile-more, below}
use Rattle.parlour_calls.proofs.strips.Painter.convert_strip.Goals as goal

-- the run of component n in the tile, where there are `channels` of them
run-within : (n channels count : ℕ) → n < channels → channels * count ≤ 1024 → count * n + count ≤ 1024
run-within n channels count h fits = let same : count * n ≡ n * count = mul_comm count n in omega (arith, same, below n channels count h, fits)

pub loop-n-init : goal.loop-n-init
loop-n-init c =
    let a = c.args in
    let s = a.self.now in (
      tile-none s.image.format s.size s.image.channels s.conversion s.layout.precision a.pixels.now a.at a.count a.tile.now,
      total-none (λ (m : ℕ). run_held s.image.format s.conversion s.layout.precision a.pixels.now (a.at + m * s.size) (s.image.channels * s.size) a.count),
    )

pub convert_run-held-requires : goal.convert_run-held-requires
convert_run-held-requires c =
    let a = c.args in
    let s = a.self.now in
    let n = c.loop-n.n in (
      omega (arith, below n s.image.channels s.size c.loop-n-test.true, c.requires.1),
      run-within n s.image.channels a.count c.loop-n-test.true c.requires.2,
    )

pub overflow_add-held : goal.overflow_add-held
overflow_add-held c =
    let a = c.args in
    let s = a.self.now in
    let n = c.loop-n.n in
    let runs : ℕ → ℕ = λ (m : ℕ). run_held s.image.format s.conversion s.layout.precision a.pixels.now (a.at + m * s.size) (s.image.channels * s.size) a.count in
    let le : (m : ℕ) → runs m ≤ a.count = λ m. counted-le s.image.format s.conversion s.layout.precision a.pixels.now (a.at + m * s.size) (s.image.channels * s.size) a.count in
    omega (
      arith,
      c.loop-n.invariant.1,
      c.convert_run-held.ensures.counted,
      total-le runs a.count n (λ m h. le m),
      le n,
      run-within n s.image.channels a.count c.loop-n-test.true c.requires.2,
    )

pub loop-n-preserved : goal.loop-n-preserved
loop-n-preserved c =
    let a = c.args in
    let s = a.self.now in
    let n = c.loop-n.n in (
      tile-more s.image.format s.size s.image.channels s.conversion s.layout.precision a.pixels.now a.at a.count a.tile.now n c.loop-n.invariant.0 c.convert_run-held.ensures.converted,
      omega (
        arith,
        c.loop-n.invariant.1,
        c.convert_run-held.ensures.counted,
        total-more (λ (m : ℕ). run_held s.image.format s.conversion s.layout.precision a.pixels.now (a.at + m * s.size) (s.image.channels * s.size) a.count) n,
      ),
    )

pub returns-clause-counted : goal.returns-clause-counted
unfolding strip_held
returns-clause-counted c =
    let a = c.args in
    let s = a.self.now in
    let all : c.loop-n.n ≡ s.image.channels = omega arith in
    c.loop-n.invariant.1
    ∙ ap (total (λ (m : ℕ). run_held s.image.format s.conversion s.layout.precision a.pixels.now (a.at + m * s.size) (s.image.channels * s.size) a.count)) all
