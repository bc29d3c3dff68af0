-- `script_calls::answers::after_record` meets its contract: each case calls its own. Assumes nothing.
use Rattle.std.proofs.Common.{None, refl}
use Rattle.script.specs.Rows.{record_answer}
use Rattle.script_calls.proofs.AnswerLaws.{recorded-refused}
use Rattle.script_calls.proofs.answers.after_record.Goals as goal

pub returns-in-None : goal.returns-in-None
unfolding record_answer
returns-in-None c = rw c.in-None.is (recorded-refused c.args.desk None refl)
