-- `pixels_calls::table::format_of` meets its contract: one test over the whole table compares it with the paper's rows. Assumes nothing.
use Prim.Native.Nat.{ℕ, ◌≤◌, ◌<◌}
use native.Mathlib.Omega.{arith}
use lib.ListN.{length, get_or}
use mathlib.Core.Path.{◌≡◌, refl}
use mathlib.Core.List.{List}
use Rattle.std.specs.Option.{MatchOption, option_copied}
use Rattle.std.specs.Slice.{IsItemAt}
use denote.Bor.{Bor}
use Rattle.std.specs.Prelude.{Option, Some, None}
use Rattle.std.proofs.lemmas.Option.{gets, get_or_from_slice_get}
use Rattle.std.proofs.lemmas.Grind.{common_steps}
use Rattle.pixels.specs.declared.PixelFormat.{PixelFormat}
use Rattle.pixels.specs.Formats.{no_format, format_table, format_in, format_of}
use Rattle.pixels.proofs.FormatLaws.{table_at}
use Rattle.pixels_calls.specs.declared.table.TheConstants.{FORMATS}
use Rattle.pixels_calls.proofs.table.format_of.Goals as goal

found : (l : List PixelFormat) (code : ℕ) (r : Option (Bor PixelFormat)) → length l ≡ 17 → ((k : ℕ) → k < 17 → get_or l k no_format ≡ format_of k)
    → IsItemAt l code r → MatchOption (option_copied r) (16 < code) (λ f. (code ≤ 16) × (f ≡ format_of code))
found l code None long every there = grind (arith, common_steps, gets)
found l code (Some x) long every there = grind (arith, common_steps, gets, every code, get_or_from_slice_get l code x.now no_format)

pub returns : goal.returns
unfolding format_of format_in format_table
returns c = rw c.copied.ensures (found FORMATS c.args.code c.get.result refl (λ k h. table_at FORMATS k tt h) c.get.ensures.lookup)
