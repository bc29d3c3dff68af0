-- The starred cases of the two-table lookup (scope paper, "Worked on squared paper"), each a run. Assumes nothing.
use Rattle.std.specs.Prelude.{ℕ, zero, suc, ◌+◌, List, [], ◌∷◌, ℤ, pos, negsuc, length, set, replicate}
use Rattle.lut.specs.declared.XMode.{XMode}
use Rattle.lut.specs.declared.XMode.TheVariants.{Linear, Exponential}
use Rattle.lut.specs.declared.Slope.{Slope}
use Rattle.lut.specs.declared.Table.TheVariants.{X}
use Rattle.lut.specs.declared.LutSettings.{LutSettings}
use Rattle.lut.specs.declared.Counters.{Counters}
use Rattle.lut.specs.Tables.{entry}
use Rattle.lut.specs.Calls.{run_outputs, run_counters}
use Rattle.worked.specs.Cases.{Case, gives, number}

-- n entries, ten more each
unfoldable pub tens_from : ℕ → ℕ → List ℤ
tens_from first zero = []
tens_from first (suc n) = pos first ∷ tens_from (first + 10) n

-- the X table with entries 10·i
abbrev pub tens : List ℤ
tens = tens_from 0 65

-- scale 3, shift 1
abbrev pub slope : Slope
slope = record { scale = pos 3; shift = pos 1 }

-- X from 0 in a mode with its end, slope 3 over 2 on both sides; Y from 1000, select 0, no slope; every priority bit 0
abbrev pub settings : XMode → ℕ → LutSettings
settings mode end =
    let flat : Slope = record { scale = pos 0; shift = pos 0 } in
    record {
      x = record { mode = mode; start = pos 0; end = pos end; below = slope; above = slope };
      y = record { select = pos 0; start = pos 1000; end = pos 1256; below = flat; above = flat };
      priority = X;
      overflow = X;
      underflow = X;
    }

abbrev pub linear : LutSettings
linear = settings (Linear (pos 2)) 256

abbrev pub exponential : ℕ → LutSettings
exponential offset = settings (Exponential (pos offset)) 2147483647

abbrev pub none : Counters
none = record { x = 0; y = 0; underflow = 0; overflow = 0; priority = 0 }

-- a run's outputs, over sevens
abbrev pub outputs : LutSettings → List ℤ → List ℤ → List ℤ
outputs s xs samples = run_outputs s xs (replicate 257 (pos 0)) samples none (replicate (length samples) (pos 7))

-- how many samples of a run underflow
abbrev pub underflows : LutSettings → List ℤ → List ℤ → ℕ
underflows s xs samples = (run_counters s xs (replicate 257 (pos 0)) samples (length samples) none).underflow

unfoldable pub lookup_cases : List Case
lookup_cases =
    -- X linear, start 0, select 2, end 256, entries 10·i: 6 gives 15; above with scale 3, shift 1: 258 gives 643; below, same slope: -1 gives -2
    gives (outputs linear tens (pos 6 ∷ pos 258 ∷ negsuc 0 ∷ [])) (pos 15 ∷ pos 643 ∷ negsuc 1 ∷ [])
    -- the same, but entry 2 is 7: 6 gives 8
    ∷ gives (outputs linear (set tens 2 (pos 7)) (pos 6 ∷ [])) (pos 8 ∷ [])
    -- X exponential, start 0, offset 0, entries 10·i: 6 gives 25; 0 underflows
    ∷ gives (outputs (exponential 0) tens (pos 6 ∷ [])) (pos 25 ∷ [])
    ∷ number (underflows (exponential 0) tens (pos 0 ∷ [])) 1
    -- offset 3: 7 underflows, 8 gives entry 0
    ∷ number (underflows (exponential 3) tens (pos 7 ∷ [])) 1
    ∷ gives (outputs (exponential 3) tens (pos 8 ∷ [])) (entry tens 0 ∷ [])
    ∷ []
