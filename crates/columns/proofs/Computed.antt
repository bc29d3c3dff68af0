-- Two blocks, computed: what the definitions come to. Assumes nothing.
use mathlib.Core.Path.{◌≡◌, refl}
use mathlib.Core.List.{[], ◌∷◌}
use lib.IntN.{pos, negsuc}
use Rattle.elements.specs.Lists.{remade, remade_from}
use Rattle.elements.specs.Bytes.{byte_of, element_at, word_at, signed}
use Rattle.columns.specs.Columns.{columns, in_columns, column_byte, rows_written, listed, column_element, rows_read}

-- three rows of two one-byte elements, written in two columns that begin 4 bytes apart at byte 1
bytes-written : rows_written 1 (listed (pos 1 ∷ pos 2 ∷ pos 3 ∷ pos 4 ∷ negsuc 0 ∷ pos 6 ∷ [])) 0 2 3 2 1 4 (9 ∷ 9 ∷ 9 ∷ 9 ∷ 9 ∷ 9 ∷ 9 ∷ 9 ∷ 9 ∷ 9 ∷ [])
    ≡ 9 ∷ 1 ∷ 3 ∷ 255 ∷ 9 ∷ 2 ∷ 4 ∷ 6 ∷ 9 ∷ 9 ∷ []
unfolding rows_written columns in_columns column_byte listed remade remade_from byte_of
bytes-written = refl

-- two rows of two two-byte elements, 2 apart, read back from columns that begin 5 bytes apart
words-read : rows_read 2 (1 ∷ 0 ∷ 254 ∷ 255 ∷ 7 ∷ 3 ∷ 1 ∷ 4 ∷ 0 ∷ []) 0 5 2 2 1 3 (pos 0 ∷ pos 0 ∷ pos 0 ∷ pos 0 ∷ pos 0 ∷ pos 0 ∷ [])
    ≡ pos 0 ∷ pos 1 ∷ pos 259 ∷ pos 0 ∷ negsuc 1 ∷ pos 4 ∷ []
unfolding rows_read columns in_columns column_element remade remade_from element_at word_at signed
words-read = refl
