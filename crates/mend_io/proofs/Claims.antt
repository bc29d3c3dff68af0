-- What the number that a run hands back tells, by the contract of `run` (change request K8). Each proof cites a law. Assumes nothing.
use Prim.Native.Nat.{ℕ, ◌+◌, ◌<◌}
use mathlib.Core.Path.{◌≡◌}
use mathlib.Core.Logic.{◌⊎◌}
use mathlib.Core.List.{List, ◌++◌}
use Rattle.refusal.specs.Codes.{answer_code}
use Rattle.refusal.specs.Checks.{in_order}
use Rattle.layout.specs.declared.CubeLayout.{CubeLayout}
use Rattle.layout.specs.Geometry.{cube_extent}
use Rattle.layout.specs.Rules.{layout_checks, room_checks}
use Rattle.mend_text.specs.Requests.{unreadable, mending}
use Rattle.mend_io.specs.declared.Ended.{Ended}
use Rattle.mend_io.specs.Ending.{Whole, Ends}
use Rattle.mend_io.proofs.CodeLaws.{ends-unreadable-24, ends-code, ends-whole, ends-short}

-- an input that is not readable is 24
pub unreadable-24 : (e : Ended) → Ends unreadable e → e.code ≡ 24
unreadable-24 = ends-unreadable-24

module _ (q : CubeLayout) (e : Ended) (first second : List ℕ) (h : Ends (mending q first second) e) where
  -- any other is 24, which the system decides, or what the frame's checks over the length read answer, 0 where they accept
  pub system-or-checks : (e.code ≡ 24) ⊎ (e.code ≡ answer_code (in_order (layout_checks q ++ room_checks q e.length)))
  system-or-checks = ends-code q e first second h

  -- 0: the whole text of the whole report was printed
  pub whole-0 : e.code ≡ 0 → Whole q e
  whole-0 = ends-whole q e first second h

  -- 5: start and extent pass the length read
  pub short-5 : e.code ≡ 5 → e.length < q.start + cube_extent q
  short-5 = ends-short q e first second h
