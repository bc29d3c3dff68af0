-- `cube::write::zeros` meets its contract. The loop's invariant: the first `done` columns of the box, or all where these are fewer, are cleared. Assumes nothing.
use Prim.Native.Nat.{ℕ, ◌+◌, min}
use native.Mathlib.Omega.{arith}
use mathlib.Core.Path.{◌≡◌, sym, ap, subst⁻¹, ◌∙◌}
use lib.ListN.{length}
use Rattle.refusal.specs.Checks.{Accepted}
use Rattle.layout.specs.Contents.{zeros_of}
use Rattle.layout.specs.Calls.{clear_box_answer}
use Rattle.layout.proofs.ContentLaws.{edited-length}
use Rattle.layout.proofs.CallLaws.{clear-admitted}
use Rattle.layout.proofs.JoinLaws.{strip}
use Rattle.cube.specs.Steps.{run_from}
use Rattle.cube.proofs.StripLaws.{strip-accepted, cleared-none, cleared-all, cleared-next}
use Rattle.cube.proofs.write.zeros.Goals as goal

pub loop-done-init : goal.loop-done-init
loop-done-init c = let a = c.args in sym (cleared-none a.layout a.b a.buffer.now)

pub overflow_add-strip : goal.overflow_add-strip
overflow_add-strip c =
    let a = c.args in
    let d = clear-admitted a.layout a.b (length a.buffer.now) c.requires in
    omega (arith, d.inside.columns.fit, d.layout.width_le)

pub all-requires-clause-buffer_value : goal.all-requires-clause-buffer_value
all-requires-clause-buffer_value c =
    let a = c.args in
    let s = strip a.b 0 (min c.loop-done.done a.b.columns) in
    let long : length c.loop-done.buffer ≡ length a.buffer.now = ap length c.loop-done.invariant ∙ edited-length a.layout s (zeros_of s) a.buffer.now in
    subst⁻¹ (λ (n : ℕ). clear_box_answer a.layout (strip a.b c.loop-done.done c.min.result) n ≡ Accepted) long
    (strip-accepted a.layout a.b (length a.buffer.now) c.requires c.loop-done.done c.min.result (omega arith) (omega arith))

pub all-requires-clause-columns_in_bounds : goal.all-requires-clause-columns_in_bounds
unfolding run_from
all-requires-clause-columns_in_bounds c = omega arith

pub loop-done-preserved : goal.loop-done-preserved
loop-done-preserved c =
    let a = c.args in
    let d = clear-admitted a.layout a.b (length a.buffer.now) c.requires in
    cleared-next a.layout a.b d.inside c.loop-done.done c.min.result 64 c.loop-done-test.true (omega arith) c.min.ensures a.buffer.now c.loop-done.invariant c.all.ensures

-- behind the last strip
pub returns : goal.returns
returns c = let a = c.args in c.loop-done.invariant ∙ cleared-all a.layout a.b a.buffer.now c.loop-done.done c.loop-done-test.false

pub returns-2 : goal.returns-2
returns-2 c =
    let a = c.args in
    let d = clear-admitted a.layout a.b (length a.buffer.now) c.requires in
    cleared-next a.layout a.b d.inside c.loop-done.done c.min.result 64 c.loop-done-test.true (omega arith) c.min.ensures a.buffer.now c.loop-done.invariant c.all.ensures
    ∙ cleared-all a.layout a.b a.buffer.now (c.loop-done.done + 64) (omega arith)
