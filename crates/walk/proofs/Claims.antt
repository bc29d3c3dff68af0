-- The claims about a walk (change request K6), of the calls themselves. A start is answered as packing into a buffer of that length is, number and index at
-- fault. Where it gave a walk, and each step gets the walk last handed back and the same elements, the steps tell the S·H·W atoms of the cube, each at the
-- paper's position with the bytes that packing writes there, columns fastest, then rows, then surfaces, each once, and then that none is left, however
-- often they are asked; written as they are told, the atoms leave in any buffer of that length what packing leaves. The words are those of specs/Scans.antt;
-- a length is a number of 64 bits, as the call takes it. Once over the three precisions. Assumes nothing.
use Prim.Native.Nat.{ℕ, ◌^◌, ◌<◌}
use mathlib.Core.Path.{◌≡◌}
use mathlib.Core.List.{List}
use lib.IntN.{ℤ}
use Rattle.std.specs.Prelude.{Ok}
use Rattle.refusal.specs.Codes.{answer_of}
use Rattle.layout.specs.declared.CubeLayout.{CubeLayout}
use Rattle.layout.specs.Calls.{pack_answer}
use Rattle.walk.specs.declared.Walk.{Walk}
use Rattle.walk.specs.Walks.{walk_start}
use Rattle.walk.specs.Scans.{WholeWalk}
use Rattle.walk.proofs.CallLaws as call

module _ (q : CubeLayout) (raw : List ℤ) (len : ℕ) where
  pub same_answer : answer_of (walk_start q raw len) ≡ pack_answer q raw len
  same_answer = call.start-answer q raw len

  pub whole-walk : len < 2 ^ 64 → (walk : Walk) → walk_start q raw len ≡ Ok walk → WholeWalk q raw len walk
  whole-walk = call.whole q raw len
