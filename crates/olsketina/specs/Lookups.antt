-- Lookup settings and counters as arrays of words (include/olsketina.h). Assumes nothing.
use Rattle.std.specs.Prelude.{ℕ, Bool, true, false, List, [], ◌∷◌, get_or, ℤ, pos}
use Rattle.refusal.specs.Checks.{leaves}
use Rattle.lut.specs.declared.XMode.{XMode}
use Rattle.lut.specs.declared.XMode.TheVariants.{Linear, Exponential}
use Rattle.lut.specs.declared.Slope.{Slope}
use Rattle.lut.specs.declared.Table.{Table}
use Rattle.lut.specs.declared.Table.TheVariants.{X, Y}
use Rattle.lut.specs.declared.LutSettings.{LutSettings}
use Rattle.lut.specs.declared.Counters.{Counters}
use Rattle.lut.specs.Calls.{run_answer, run_counters}
use Rattle.olsketina.specs.Words.{word}

-- number i of signed words
abbrev pub number : List ℤ → ℕ → ℤ
number l i = get_or l i (pos 0)

-- false is X, true is Y
abbrev pub table_named : Bool → Table
table_named false = X
table_named true = Y

-- slopes stand in the order X below, X above, Y below, Y above
abbrev pub slope_at : List ℤ → List ℤ → ℕ → Slope
slope_at scales shifts i = record { scale = number scales i; shift = number shifts i }

-- both tables: x and y have select (or offset), start and end; Priority, OverflowPriority, UnderflowPriority say Y
unfoldable pub settings_from : XMode → List ℤ → List ℤ → List ℤ → List ℤ → Bool → Bool → Bool → LutSettings
settings_from mode x y scales shifts priority overflow underflow =
    record {
      x = record { mode = mode; start = number x 1; end = number x 2; below = slope_at scales shifts 0; above = slope_at scales shifts 1 };
      y = record { select = number y 0; start = number y 1; end = number y 2; below = slope_at scales shifts 2; above = slope_at scales shifts 3 };
      priority = table_named priority;
      overflow = table_named overflow;
      underflow = table_named underflow;
    }

-- with X linear, x[0] its select
abbrev pub linear_from : List ℤ → List ℤ → List ℤ → List ℤ → Bool → Bool → Bool → LutSettings
linear_from x y scales shifts priority overflow underflow = settings_from (Linear (number x 0)) x y scales shifts priority overflow underflow

-- with X exponential, x[0] its offset
abbrev pub exponential_from : List ℤ → List ℤ → List ℤ → List ℤ → Bool → Bool → Bool → LutSettings
exponential_from x y scales shifts priority overflow underflow = settings_from (Exponential (number x 0)) x y scales shifts priority overflow underflow

-- X only, Y only, underflow, overflow, priority
abbrev pub counters_from : List ℕ → Counters
counters_from l = record { x = word l 0; y = word l 1; underflow = word l 2; overflow = word l 3; priority = word l 4 }

abbrev pub counter_words : Counters → List ℕ
counter_words c = c.x ∷ c.y ∷ c.underflow ∷ c.overflow ∷ c.priority ∷ []

-- the counters' words after a run; a refused one leaves them
unfoldable pub run_counter_words : LutSettings → List ℤ → List ℤ → List ℤ → ℕ → List ℕ → List ℕ
run_counter_words s xs ys samples outputs l =
    leaves (run_answer s xs ys samples outputs (counters_from l)) (counter_words (run_counters s xs ys samples outputs (counters_from l))) l
