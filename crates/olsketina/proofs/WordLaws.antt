-- A flag as a word: what it says, and written over itself. Assumes nothing.
use Prim.Native.Nat.{ℕ, zero, suc}
use mathlib.Core.Path.{◌≡◌, refl}
use mathlib.Core.Bool.{Bool, true, false}
use lib.Dec.{eqb-suc-zero}
use Rattle.olsketina.specs.Tables.{says, flag_word}

-- a flag's word says the flag
pub says-flag : (yes : Bool) (old : ℕ) → says (flag_word yes old) ≡ yes
unfolding flag_word
says-flag false old = refl
says-flag true zero = refl
says-flag true (suc old) = rw (eqb-suc-zero old) (rw (eqb-suc-zero old))

-- a flag's word written over itself
pub flag_word-says : (w : ℕ) → flag_word (says w) w ≡ w
unfolding flag_word
flag_word-says zero = refl
flag_word-says (suc w) = rw (eqb-suc-zero w) (rw (eqb-suc-zero w))
