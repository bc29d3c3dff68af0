-- What the code goes by, between a record and its row: no public promise rests on it. Assumes nothing.
use Rattle.std.specs.Prelude.{Option, Result}
use Rattle.refusal.specs.declared.Fault.{Fault}
use Rattle.refusal.specs.Checks.{given}
use Rattle.records.specs.declared.Record.{Record}
use Rattle.script.specs.declared.Desk.{Desk}
use Rattle.script.specs.Rows.{record_answer, record_value, record_done}
use Rattle.script_calls.specs.declared.answers.Done.{Done}

-- an accepted record's value, and the desk after it; or its refusal
unfoldable pub recorded : Desk → Option Record → Result Done Fault
recorded d r = given (record_answer d r) (record { value = record_value d r; desk = record_done d r })
