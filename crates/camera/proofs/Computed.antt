-- Roots and the ready-made settings, computed; what the lookup answers to them where two checks fail (scope paper, "Two tables", "Refusal numbers"). Assumes
-- nothing.
use mathlib.Core.Path.{◌≡◌, refl, ◌∙◌}
use mathlib.Core.List.{[]}
use lib.Dec.{lit≤}
use lib.IntN.{pos, negsuc}
use Rattle.std.specs.Prelude.{None, Some, Ok, Err}
use Rattle.refusal.specs.declared.Refusal.TheVariants.{YSelect, OutputLength}
use Rattle.refusal.specs.Checks.{require_at, in_order, given, Refused, refused_at}
use Rattle.refusal.proofs.CheckLaws.{in_order-stop}
use Rattle.lut.specs.declared.Table.TheVariants.{X, Y}
use Rattle.lut.specs.declared.LutSettings.{LutSettings}
use Rattle.lut.specs.Numbers.{between, scaled}
use Rattle.lut.specs.Calls.{run_answer}
use Rattle.camera.specs.Curve.{root_up_to, root, curve_entry, x_table, y_table}
use Rattle.camera.specs.Ready.{flat, ready_settings, ready_checks, ready_answer}
use Rattle.camera.proofs.AcceptedLaws.{accepted-but}

-- the greatest whole e with e² ≤ n: a square's own root, and the same below the next square
pub roots : (root 0 ≡ 0) × (root 9 ≡ 3) × (root 15 ≡ 3) × (root 16 ≡ 4)
unfolding root_up_to root
roots = (refl, refl, refl, refl)

-- entry 2 of entries 0 to 2 in steps of 8, and past the last
pub entries : (curve_entry 2 8 2 ≡ pos 4) × (curve_entry 2 8 9 ≡ pos 4)
unfolding root_up_to root curve_entry
entries = (refl, refl)

-- ---- s = 4, a bit named

abbrev settings : LutSettings
settings = ready_settings (pos 4) None (Some Y) None

-- X in 64 steps of 4, Y in 256 steps of 16
pub ends : (settings.x.end ≡ pos 256) × (settings.y.end ≡ pos 4096)
unfolding scaled ready_settings
ends = (refl, refl)

pub slopes : (settings.x.below.scale ≡ pos 0) × (settings.x.above.scale ≡ pos 0) × (settings.y.below.scale ≡ pos 0) × (settings.y.above.scale ≡ pos 0)
unfolding flat ready_settings
slopes = (refl, refl, refl, refl)

-- a bit left unnamed is X
pub bits : (settings.priority ≡ X) × (settings.overflow ≡ Y) × (settings.underflow ≡ X)
unfolding ready_settings
bits = (refl, refl, refl)

-- ---- 14 outside 2 to 22, and nothing else is refused

pub refusals : (ready_answer (negsuc 3) None None None ≡ Err (refused_at 0 YSelect)) × (ready_answer (pos 1) None None None ≡ Err (refused_at 0 YSelect))
    × (ready_answer (pos 23) None None None ≡ Err (refused_at 0 YSelect))
unfolding require_at in_order given between ready_checks ready_answer
refusals = (refl, refl, refl)

pub limits : (ready_answer (pos 2) None None None ≡ Ok (ready_settings (pos 2) None None None))
    × (ready_answer (pos 22) None None None ≡ Ok (ready_settings (pos 22) None None None))
unfolding require_at in_order given between ready_checks ready_answer
limits = (refl, refl)

-- a run on the settings and the two tables: of 18 and 17 at once, 18
pub order : run_answer settings x_table y_table [] 1 (record { x = 4294967295; y = 1; underflow = 0; overflow = 0; priority = 0 }) ≡ Refused OutputLength 0
order = accepted-but 4 (lit≤ tt) (lit≤ tt) None (Some Y) None [] 1 _ ∙ in_order-stop 0 OutputLength _ refl
