-- The starred cases of conversion (scope paper, "Worked on squared paper"). Assumes nothing.
use Rattle.std.specs.Prelude.{List, [], ◌∷◌, ℤ, pos, negsuc, Result, Ok, Err}
use Rattle.refusal.specs.declared.Fault.{Fault}
use Rattle.quantize.specs.declared.Converted.{Converted}
use Rattle.quantize.specs.Quantize.{quantize_answer}
use Rattle.worked.specs.Cases.{Case, gives}

abbrev pub converted : Result Converted Fault → List ℤ
converted (Ok c) = c.value ∷ []
converted (Err fault) = []

unfoldable pub conversion_cases : List Case
conversion_cases =
    -- 100, offset 128, SF 3, shift 2: -21. 255, 0, 1, 0 to int8: 127
    gives (converted (quantize_answer (pos 100) (pos 128) (pos 3) 2 0)) (negsuc 20 ∷ [])
    ∷ gives (converted (quantize_answer (pos 255) (pos 0) (pos 1) 0 0)) (pos 127 ∷ [])
    ∷ []
