-- `lut_calls::samples::each` meets its contract. The loop's invariant: the first i outputs are the rows' answers, the pairs of the first i samples are counted, and
-- those samples are numbers of 32 bits. Assumes nothing.
use Prim.Native.Nat.{ℕ, ◌<◌}
use mathlib.Core.Path.{◌≡◌}
use mathlib.Core.List.{map}
use lib.ListN.{length, get_or, take}
use lib.IntN.{pos}
use lib.Signed.{mag}
use Rattle.lut_calls.specs.StepsLoop.{pair_of, pair_answer, Tally}
use Rattle.lut_calls.proofs.samples.each.Given as goal

abbrev pub invariant-loop-i : goal.invariant-loop-i
invariant-loop-i l = record {
  outputs_long : length l.outputs ≡ length l.samples;
  seen_long : length l.seen ≡ 9;
  answered : take l.i l.outputs ≡ map (pair_answer l.rows l.b l.firsts l.rises l.wide) (take l.i l.samples);
  tallied : Tally (pair_of l.b) (take l.i l.samples) l.seen;
  ranged : (j : ℕ) → j < l.i → mag (get_or l.samples j (pos 0)) < 2147483648;
}
