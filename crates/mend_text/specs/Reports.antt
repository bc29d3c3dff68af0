-- The text that the mending program prints (change request K8): a header, then a line for each byte of the report, position and old value, parted by a tab.
-- Assumes nothing.
use Rattle.std.specs.Prelude.{ℕ, zero, suc, ◌+◌, ◌-◌, cond, leb, length, take, drop}
use mathlib.Core.List.{List, [], ◌∷◌, ◌++◌, map, flatten}
use Rattle.layout.specs.declared.CubeLayout.{CubeLayout}
use Rattle.lines.specs.Digits.{digits}
use Rattle.padding.specs.Mending.{Dirt, reported}
use Rattle.padding.specs.Calls.{Lent, filled}
use Rattle.padding.specs.Files.{lines, report_given}
use Rattle.mend_text.specs.declared.Gathered.{Gathered}

-- `position`, `old`, parted by a tab
abbrev pub header : List ℕ
header = 112 ∷ 111 ∷ 115 ∷ 105 ∷ 116 ∷ 105 ∷ 111 ∷ 110 ∷ 9 ∷ 111 ∷ 108 ∷ 100 ∷ 10 ∷ []

-- one byte of a report
unfoldable pub dirt_text : Dirt → List ℕ
dirt_text d = digits d.position ++ 9 ∷ digits d.old ++ 10 ∷ []

unfoldable pub report_text : List Dirt → List ℕ
report_text report = flatten (map dirt_text report)

-- a refusal: its number alone
unfoldable pub number_text : ℕ → List ℕ
number_text n = digits n ++ 10 ∷ []

-- the whole text for a whole file
unfoldable pub output : CubeLayout → List ℕ → List ℕ
output q file = header ++ report_text (reported q 0 file)

-- ---- a file of `len` bytes handed over in parts, from position `first` on: what there is to write for each, joined

unfoldable pub parts_text : CubeLayout → ℕ → ℕ → List Lent → List ℕ
parts_text q first len [] = []
parts_text q first len (l ∷ ls) = report_text (report_given q first len l) ++ parts_text q (first + length l.part) len ls

-- ---- `gather`: a report's lines, as many whole ones as there is room for

unfoldable pub fitting : ℕ → List Dirt → List Dirt
fitting room [] = []
fitting room (d ∷ report) = let n = length (dirt_text d) in cond (leb n room) (d ∷ fitting (room - n) report) []

unfoldable pub gathered : List ℕ → List ℕ → ℕ → Gathered
gathered positions olds room = let given = fitting room (lines positions olds) in record { lines = length given; bytes = length (report_text given) }

unfoldable pub gather_text : List ℕ → List ℕ → List ℕ → List ℕ
gather_text positions olds before = filled (report_text (fitting (length before) (lines positions olds))) before

-- so many calls with one buffer, each for what is not yet gathered: what they give, joined
unfoldable pub all_gathered : ℕ → List ℕ → List ℕ → List ℕ → List ℕ
all_gathered zero positions olds buffer = []
all_gathered (suc calls) positions olds buffer =
    let g = gathered positions olds (length buffer) in
    let left = gather_text positions olds buffer in
    take g.bytes left ++ all_gathered calls (drop g.lines positions) (drop g.lines olds) left
