-- The region table as an array of words: the layout's, then for each slot placed, owner, first column, first row, columns, rows. Any contents are a
-- table. Assumes nothing.
use Rattle.std.specs.Prelude.{ℕ, ◌+◌, ◌-◌, ◌*◌, ◌/◌, ◌%◌, ◌≤◌, ◌<◌, Bool, true, false, not, cond, List, [], ◌∷◌, get_or, ltb, eqb}
use Rattle.refusal.specs.Checks.{leaves}
use Rattle.elements.specs.Lists.{tabulate}
use Rattle.layout.specs.declared.CubeLayout.{CubeLayout}
use Rattle.regions.specs.declared.Rectangle.{Rectangle}
use Rattle.regions.specs.declared.Region.{Region}
use Rattle.regions.specs.declared.RegionTable.{RegionTable}
use Rattle.regions.specs.Slots.{rectangle}
use Rattle.regions.specs.Calls.{no_region, place_answer, place_table, release_answer, release_table}
use Rattle.olsketina.specs.Sizes.{layout_size, slot_size, slot_count, table_size}
use Rattle.olsketina.specs.Words.{word, overwritten, layout_at}

-- ---- the table that words say

-- a word says yes unless it is 0
abbrev pub says : ℕ → Bool
says w = not (eqb w 0)

-- the slot whose words stand from `at` on
abbrev pub region_at : List ℕ → ℕ → Region
region_at l at =
    record { placed = says (word l at); owner = word l (at + 1); rectangle = rectangle (word l (at + 2)) (word l (at + 3)) (word l (at + 4)) (word l (at + 5)) }

unfoldable pub slots_at : List ℕ → ℕ → List Region
slots_at l at = tabulate slot_count (λ (i : ℕ). region_at l (at + slot_size * i))

-- the table whose words stand from `at` on
unfoldable pub table_at : List ℕ → ℕ → RegionTable
table_at l at = record { layout = layout_at l at; slots = slots_at l (at + layout_size) }

-- ---- the words of a table

-- the word that says yes or no: 1 or 0, and a word that says yes already stays
unfoldable pub flag_word : Bool → ℕ → ℕ
flag_word false old = 0
flag_word true old = cond (eqb old 0) 1 old

-- a layout's words
abbrev pub layout_words : CubeLayout → List ℕ
layout_words q = q.width ∷ q.height ∷ q.channels ∷ q.precision ∷ q.line ∷ q.surface ∷ q.start ∷ []

-- a slot's words, the first over an old one
abbrev pub region_words : Region → ℕ → List ℕ
region_words g old = flag_word g.placed old ∷ g.owner ∷ g.rectangle.column ∷ g.rectangle.row ∷ g.rectangle.columns ∷ g.rectangle.rows ∷ []

-- word i of a table, over an old one
unfoldable pub table_word : RegionTable → ℕ → ℕ → ℕ
table_word t i old =
    cond (ltb i layout_size) (word (layout_words t.layout) i)
    (word (region_words (get_or t.slots ((i - layout_size) / slot_size) no_region) old) ((i - layout_size) % slot_size))

-- a table's words written from `at` on, every other word as it was
abbrev pub with_table : RegionTable → ℕ → List ℕ → List ℕ
with_table t at l = overwritten 0 (table_word t) at table_size l

-- a table's words after a placing, and after a release; a refused call leaves them
abbrev pub place_words : List ℕ → ℕ → ℕ → Rectangle → List ℕ
place_words l n id g = let t = table_at l 0 in leaves (place_answer t n id g) (with_table (place_table t n id g) 0 l) l

abbrev pub release_words : List ℕ → ℕ → ℕ → ℕ → List ℕ
release_words l n id len = let t = table_at l 0 in leaves (release_answer t n id len) (with_table (release_table t n id len) 0 l) l

-- p is none of n words from `at` on
abbrev pub Outside : ℕ → ℕ → ℕ → Type 0
Outside at n p = at ≤ p → p < at + n → ⊥
