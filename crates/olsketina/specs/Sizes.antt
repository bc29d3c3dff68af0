-- How many words each setting has, as in include/olsketina.h and src/words.rt. Assumes nothing.
use Rattle.std.specs.Prelude.{ℕ, ◌+◌, ◌*◌}

-- the version of the header
abbrev pub version : ℕ
version = 9

-- words of a layout, and of a slot
abbrev pub layout_size : ℕ
layout_size = 7

abbrev pub slot_size : ℕ
slot_size = 6

-- slots of a table, and its words: the layout's, then those of each slot
abbrev pub slot_count : ℕ
slot_count = 16

abbrev pub table_size : ℕ
table_size = layout_size + slot_size * slot_count

-- a sheet's state: its word that says whether a frame was accepted, its words before those of its table, and all
abbrev pub frame_word : ℕ
frame_word = 3

abbrev pub state_table : ℕ
state_table = 4

abbrev pub state_size : ℕ
state_size = state_table + table_size
