-- The ready-made settings for the camera curve (scope paper, "Two tables"). Assumes nothing.
use Rattle.std.specs.Prelude.{List, [], ◌∷◌, ℤ, pos, ◌-ℤ◌, Option, Result}
use Rattle.std.specs.Option.{unwrap_or}
use Rattle.refusal.specs.declared.Refusal.TheVariants.{YSelect}
use Rattle.refusal.specs.declared.Fault.{Fault}
use Rattle.refusal.specs.Checks.{require, in_order, given, Answer}
use Rattle.lut.specs.declared.XMode.TheVariants.{Linear}
use Rattle.lut.specs.declared.Slope.{Slope}
use Rattle.lut.specs.declared.Table.{Table}
use Rattle.lut.specs.declared.Table.TheVariants.{X}
use Rattle.lut.specs.declared.LutSettings.{LutSettings}
use Rattle.lut.specs.Numbers.{between, scaled}

-- no slope: scale and shift 0
unfoldable pub flat : Slope
flat = record { scale = pos 0; shift = pos 0 }

-- Y select s, X linear select s − 2, both from 0 to their last entry; no slopes; each bit is the table named (X is 0, Y is 1), and one left unnamed is 0, the X table
unfoldable pub ready_settings : ℤ → Option Table → Option Table → Option Table → LutSettings
ready_settings s priority overflow underflow =
    record {
      x = record { mode = Linear (s -ℤ pos 2); start = pos 0; end = pos (scaled 64 (s -ℤ pos 2)); below = flat; above = flat };
      y = record { select = s; start = pos 0; end = pos (scaled 256 s); below = flat; above = flat };
      priority = unwrap_or priority X;
      overflow = unwrap_or overflow X;
      underflow = unwrap_or underflow X;
    }

-- 14: s from 2 to 22
unfoldable pub ready_checks : ℤ → List Answer
ready_checks s = require YSelect (between (pos 2) (pos 22) s) ∷ []

-- the settings where the call is accepted, else its refusal
unfoldable pub ready_answer : ℤ → Option Table → Option Table → Option Table → Result LutSettings Fault
ready_answer s priority overflow underflow = given (in_order (ready_checks s)) (ready_settings s priority overflow underflow)
