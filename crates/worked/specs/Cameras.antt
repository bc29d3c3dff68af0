-- The starred cases of the camera curve and its ready-made settings (scope paper, "Worked on squared paper"). Assumes nothing.
use Rattle.std.specs.Prelude.{List, [], ◌∷◌, ℤ, pos, negsuc, replicate, None, Result, Ok, Err}
use Rattle.lut.specs.declared.Counters.{Counters}
use Rattle.lut.specs.Calls.{run_outputs, run_counters}
use Rattle.refusal.specs.declared.Fault.{Fault}
use Rattle.lut.specs.declared.LutSettings.{LutSettings}
use Rattle.camera.specs.Curve.{curve_y, x_table, y_table}
use Rattle.camera.specs.Ready.{ready_answer}
use Rattle.worked.specs.Cases.{Case, gives}
use Rattle.worked.specs.Lookups.{none}

abbrev pub samples : List ℤ
samples = pos 256 ∷ pos 257 ∷ pos 4097 ∷ negsuc 0 ∷ []

-- the outputs of a run on settings that a call gave, over sevens
abbrev pub outputs_of : Result LutSettings Fault → List ℤ
outputs_of (Ok s) = run_outputs s x_table y_table samples none (replicate 4 (pos 7))
outputs_of (Err fault) = []

-- its counters: X, Y, underflow, overflow, priority
abbrev pub counts : Counters → List ℤ
counts c = pos c.x ∷ pos c.y ∷ pos c.underflow ∷ pos c.overflow ∷ pos c.priority ∷ []

abbrev pub counters_of : Result LutSettings Fault → List ℤ
counters_of (Ok s) = counts (run_counters s x_table y_table samples 4 none)
counters_of (Err fault) = []

unfoldable pub camera_cases : List Case
camera_cases =
    -- curve entries 2 and 255: 1448 and 16351
    gives (curve_y 2 ∷ curve_y 255 ∷ []) (pos 1448 ∷ pos 16351 ∷ [])
    -- ready-made s = 4: 256, 257, 4097, -1 give 4096, 4103, 4096, 0
    ∷ gives (outputs_of (ready_answer (pos 4) None None None)) (pos 4096 ∷ pos 4103 ∷ pos 4096 ∷ pos 0 ∷ [])
    -- X 0, Y 1, underflow 1, overflow 1, priority 1
    ∷ gives (counters_of (ready_answer (pos 4) None None None)) (pos 0 ∷ pos 1 ∷ pos 1 ∷ pos 1 ∷ pos 1 ∷ [])
    ∷ []
