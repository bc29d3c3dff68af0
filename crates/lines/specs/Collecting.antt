-- Lines collected from parts of the input (scope paper, "The sheet program"): what each call answers. Assumes nothing.
use Rattle.std.specs.Prelude.{ℕ, ◌+◌, ◌%◌, ◌^◌, min, Bool, true, false, cond, List, [], ◌∷◌, leb, ltb, length, take, set, replicate}
use Rattle.lines.specs.declared.Line.{Line}
use Rattle.lines.specs.declared.Lines.{Lines}
use Rattle.lines.specs.declared.Collected.{Collected}
use Rattle.lines.specs.Texts.{longest, padded, part_length}

-- ---- a line

abbrev pub empty_line : Line
empty_line = record { length = 0; bytes = replicate 120 0 }

-- one more byte: the first 120 are kept, and the length is held at 121
unfoldable pub with_byte : Line → ℕ → Line
with_byte l b = record { length = min (l.length + 1) 121; bytes = cond (ltb l.length 120) (set l.bytes l.length b) l.bytes }

-- more bytes
unfoldable pub added : Line → List ℕ → Line
added l [] = l
added l (b ∷ bytes) = added (with_byte l b) bytes

-- all bytes of the line are kept
abbrev pub is_whole : Line → Bool
is_whole l = leb l.length longest

-- its bytes, if all are kept
unfoldable pub line_text : Line → List ℕ
line_text l = take l.length l.bytes

-- the line of a text of at most 120 bytes, 0 behind it
abbrev pub written : List ℕ → Line
written text = record { length = length text; bytes = padded 120 text }

-- ---- lines

abbrev pub start_lines : Lines
start_lines = record { count = 0; line = empty_line }

-- the line in progress ended: after 2^64 − 1 lines the count begins again
unfoldable pub next_lines : Lines → Lines
next_lines s = record { count = (s.count + 1) % 2 ^ 64; line = record { length = 0; bytes = s.line.bytes } }

-- a part of the input is read up to its first newline, or whole
unfoldable pub collected : Lines → List ℕ → Collected
collected s part =
    let n = part_length 10 part in
    let after : Lines = record { count = s.count; line = added s.line (take n part) } in
    cond (ltb n (length part)) (record { lines = after; read = n + 1; ended = true }) (record { lines = after; read = n; ended = false })
