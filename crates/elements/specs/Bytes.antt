-- How an element, the scope paper's "cell", is stored: its size, its bytes, and the number that bytes are (scope paper, "Cells and
-- cubes"). Low byte first; a negative number in two's complement; an fp16 element is its bit pattern. Assumes nothing.
use Rattle.std.specs.Prelude.{ℕ, zero, suc, ◌+◌, ◌-◌, ◌*◌, ◌/◌, ◌%◌, ◌^◌, cond, List, get_or, ltb, ℤ, pos, negsuc}

-- bytes an element, by the precision code: 0 int8 has 1, 1 int16 and 2 fp16 have 2; so has every number that is no precision's code
unfoldable pub element_bytes : ℕ → ℕ
element_bytes zero = 1
element_bytes (suc p) = 2

-- byte b of a signed number in two's complement, counted from the low byte
unfoldable pub byte_of : ℤ → ℕ → ℕ
byte_of (pos n) b = n / 256 ^ b % 256
byte_of (negsuc n) b = 255 - n / 256 ^ b % 256

-- the sixteen bits of an element as one unsigned number
abbrev pub bit_pattern : ℤ → ℕ
bit_pattern z = byte_of z 0 + 256 * byte_of z 1

-- e bytes from `at` on, low byte first, as one unsigned number
unfoldable pub word_at : ℕ → List ℕ → ℕ → ℕ
word_at zero l at = 0
word_at (suc e) l at = get_or l at 0 + 256 * word_at e l (at + 1)

-- the signed number that an unsigned one of e bytes is in two's complement
unfoldable pub signed : ℕ → ℕ → ℤ
signed e n = cond (ltb n (256 ^ e / 2)) (pos n) (negsuc (256 ^ e - suc n))

-- the element that the e bytes from `at` on are
unfoldable pub element_at : ℕ → List ℕ → ℕ → ℤ
element_at e l at = signed e (word_at e l at)
