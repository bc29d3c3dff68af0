-- `columns_calls::clear` meets its contract. Assumes nothing.
use Prim.Native.Nat.{ℕ}
use native.Mathlib.Omega.{arith}
use mathlib.Core.Path.{ap, ◌∙◌}
use lib.ListN.{replicate, length-drop}
use Rattle.std.proofs.lemmas.List.{length-take}
use Rattle.columns.proofs.ClearLaws.{cleared-past, cleared-filled}
use Rattle.columns_calls.proofs.clear.Goals as goal

pub returns-then-at-len : goal.returns-then-at-len
returns-then-at-len c =
    let a = c.args in
    cleared-filled a.at _ a.count c.fill.new.self a.buffer.now c.if-at-len.true
    (c.fill.ensures.after (λ y h. h) ∙ ap (λ (n : ℕ). replicate n 0) (simp (length-take, length-drop) (omega arith))) (omega (arith, c.min.ensures))

pub returns-else-at-len : goal.returns-else-at-len
returns-else-at-len c = let a = c.args in cleared-past a.at a.count a.buffer.now c.if-at-len.false
