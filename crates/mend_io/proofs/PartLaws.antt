-- What an accepted mending of a part tells the program: the part ends within the file, and its report stands in the first places. Assumes nothing.
--     part-within                     the part ends within the file
--     count-positions, count-olds     the report has so many places
--     count-report                    what stands in them
use Prim.Native.Nat.{ℕ, ◌+◌, ◌≤◌}
use native.Mathlib.Omega.{arith}
use mathlib.Core.Path.{◌≡◌, sym, ap, ◌∙◌}
use mathlib.Core.List.{List}
use lib.ListN.{length, take}
use Rattle.std.specs.Prelude.{Ok}
use Rattle.refusal.specs.Checks.{Accepted, Quantity}
use Rattle.refusal.proofs.CheckLaws.{given-ok}
use Rattle.layout.specs.declared.CubeLayout.{CubeLayout}
use Rattle.padding.specs.Mending.{reported}
use Rattle.padding.specs.Calls.{Lent, mend_answer, mend_count, mend_left}
use Rattle.padding.specs.Files.{lines, first_lines}
use Rattle.padding.proofs.MendLaws.{reported-le}
use Rattle.padding.proofs.CheckLaws.{Mendable, mendable}
use Rattle.padding.proofs.CallLaws.{given-reported}

module _ (q : CubeLayout) (first len : ℕ) (l : Lent) (n : ℕ) (given : mend_count q first len l ≡ Ok n) where
  counted : (mend_answer q first len l ≡ Accepted) × (length (reported q first l.part) ≡ n)
  unfolding mend_count
  counted = given-ok (mend_answer q first len l) (length (reported q first l.part)) n given

  taken : Mendable q first len (length l.part) (length l.positions) (length l.olds)
  unfolding mend_answer
  taken = mendable q first len (length l.part) (length l.positions) (length l.olds) counted.0

  pub part-within : first + length l.part ≤ len
  part-within = taken.part_le

  -- ---- the lists after the call
  module _ (positions olds : List ℕ) where
    pub count-positions : length positions ≡ length l.positions → n ≤ length positions
    count-positions same = omega (arith, same, counted.1, reported-le q first l.part, taken.positions_ge)

    pub count-olds : length olds ≡ length l.olds → n ≤ length olds
    count-olds same = omega (arith, same, counted.1, reported-le q first l.part, taken.olds_ge)

    pub count-report : positions ≡ (mend_left q first len l).positions → olds ≡ (mend_left q first len l).olds → lines (take n positions) (take n olds) ≡ reported q first l.part
    unfolding first_lines
    count-report p o =
        let left = mend_left q first len l in
        rw (p, o) (ap (λ (x : Quantity). first_lines x left) (sym given) ∙ given-reported q first len l counted.0)
