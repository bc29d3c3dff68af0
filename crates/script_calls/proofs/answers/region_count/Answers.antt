-- `script_calls::answers::region_count` meets its contract: a placed region lies in a cube of sizes up to 8192, so that the product is below 2 ^ 40.
-- Assumes nothing.
use native.Mathlib.Omega.{arith}
use Rattle.script_calls.proofs.AnswerLaws.{count-all-le}
use Rattle.script_calls.proofs.answers.region_count.Goals as goal

pub overflow_mul-result-2 : goal.overflow_mul-result-2
overflow_mul-result-2 c = let a = c.args in omega (arith, count-all-le a.table a.slot a.id a.rectangle c.requires)
