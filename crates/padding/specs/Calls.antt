-- What mending a part of a file answers and leaves (change request K8). `first` is the part's first position in the file, `len` the file's length. Where the call is
-- refused, every lent list stays as it was. Assumes nothing.
use Rattle.std.specs.Prelude.{ℕ, ◌+◌, ◌&&◌, List, [], ◌∷◌, ◌++◌, map, leb, length, drop}
use Rattle.refusal.specs.declared.Refusal.TheVariants.{BufferLength, OutputLength}
use Rattle.refusal.specs.Checks.{require, in_order, leaves, quantity, Answer, Quantity}
use Rattle.layout.specs.declared.CubeLayout.{CubeLayout}
use Rattle.layout.specs.Rules.{layout_checks, room_checks}
use Rattle.padding.specs.Mending.{Dirt, mended, reported}

-- what a call lends: a part of the file, and a report's positions and old values
pub record Lent : Type 0 where
  pub part : List ℕ
  pub positions : List ℕ
  pub olds : List ℕ

abbrev pub lent : List ℕ → List ℕ → List ℕ → Lent
lent part positions olds = record { part = part; positions = positions; olds = olds }

-- 5: a part of n bytes ends within the file
abbrev pub part_checks : ℕ → ℕ → ℕ → List Answer
part_checks first len n = require BufferLength (leb (first + n) len) ∷ []

-- 18: both lists of the report have a place for each byte of the part
abbrev pub report_checks : ℕ → ℕ → ℕ → List Answer
report_checks n positions olds = require OutputLength (leb n positions && leb n olds) ∷ []

-- 1, 2, 3, 4, then 5 for the frame and for the part, then 18, by the lengths of what is lent
unfoldable pub mend_checks : CubeLayout → ℕ → ℕ → ℕ → ℕ → ℕ → List Answer
mend_checks q first len n positions olds = (layout_checks q ++ room_checks q len) ++ (part_checks first len n ++ report_checks n positions olds)

unfoldable pub mend_answer : CubeLayout → ℕ → ℕ → Lent → Answer
mend_answer q first len l = in_order (mend_checks q first len (length l.part) (length l.positions) (length l.olds))

-- how many bytes are reported
unfoldable pub mend_count : CubeLayout → ℕ → ℕ → Lent → Quantity
mend_count q first len l = quantity (mend_answer q first len l) (length (reported q first l.part))

-- a report's places: the first ones are filled, those past them stay
unfoldable pub filled : List ℕ → List ℕ → List ℕ
filled given before = given ++ drop (length given) before

unfoldable pub mended_lists : CubeLayout → ℕ → Lent → Lent
mended_lists q first l =
    let report = reported q first l.part in
    lent (mended q first l.part) (filled (map (λ (d : Dirt). d.position) report) l.positions) (filled (map (λ (d : Dirt). d.old) report) l.olds)

unfoldable pub mend_left : CubeLayout → ℕ → ℕ → Lent → Lent
mend_left q first len l = leaves (mend_answer q first len l) (mended_lists q first l) l
