-- The steps of mending a part, as the code makes them: no public promise rests on them. Assumes nothing.
use Rattle.std.specs.Prelude.{ℕ, ◌+◌, ◌-◌, ◌*◌, ◌%◌, ◌≤◌, ◌<◌, ◌^◌, ◌≡◌, Bool, true, false, ◌&&◌, List, ◌++◌, map, leb, length, get_or, take, drop}
use Rattle.layout.specs.declared.CubeLayout.{CubeLayout}
use Rattle.layout.specs.Geometry.{size_of, surfaces}
use Rattle.layout.specs.Owners.{Owner, element, padding, outside, owner}
use Rattle.padding.specs.Mending.{Dirt, mended, reported}
use Rattle.padding.specs.Calls.{Lent, filled}
use Rattle.padding_calls.specs.declared.rows.Report.{Report}
use Rattle.padding_calls.specs.declared.stretches.Stretch.{Stretch}

-- ---- where padding lies

unfoldable pub is_padding : Owner → Bool
is_padding (element c h w b) = false
is_padding padding = true
is_padding outside = false

-- where the last surface begins: no other has padding
unfoldable pub last_surface : CubeLayout → ℕ
last_surface q = q.start + (surfaces q - 1) * q.surface

-- bytes of its atoms that are elements': those from there on are padding
unfoldable pub elements_end : CubeLayout → ℕ
elements_end q = q.channels * size_of q - 32 * (surfaces q - 1)

-- the positions from p to the stretch's end: all in atoms of a row of the last surface, or none in padding; an atom begins at a multiple of 32
pub record IsStretch (q : CubeLayout) (p : ℕ) (s : Stretch) : Type 0 where
  pub onward : p < s.end
  pub owners : (x : ℕ) → p ≤ x → x < s.end → is_padding (owner q x) ≡ (s.atoms && leb (elements_end q) (x % 32))

-- ---- a part of which the first bytes are mended

-- the bytes from `from` to `to` are zero
unfoldable pub Zeros : ℕ → ℕ → List ℕ → Type 0
Zeros from to part = (x : ℕ) → from ≤ x → x < to → get_or part x 0 ≡ 0

-- there is room for the steps from byte `from` to byte `to`, after n lines
pub record Room (first from to n : ℕ) (part positions olds : List ℕ) : Type 0 where
  pub from_le : from ≤ to
  pub to_le : to ≤ length part
  pub count_le : n ≤ from
  pub positions_ge : length part ≤ length positions
  pub olds_ge : length part ≤ length olds
  pub last_lt : first + length part < 2 ^ 64

abbrev pub HasRoom : ℕ → ℕ → ℕ → List ℕ → Report → Type 0
HasRoom first from to part report = Room first from to report.lines part report.positions.now report.olds.now

-- of what was lent the first i bytes are mended, and n lines are reported
pub record Done (q : CubeLayout) (first : ℕ) (l : Lent) (i n : ℕ) (part positions olds : List ℕ) : Type 0 where
  pub part_is : part ≡ mended q first (take i l.part) ++ drop i l.part
  pub count_is : n ≡ length (reported q first (take i l.part))
  pub positions_are : positions ≡ filled (map (λ (d : Dirt). d.position) (reported q first (take i l.part))) l.positions
  pub olds_are : olds ≡ filled (map (λ (d : Dirt). d.old) (reported q first (take i l.part))) l.olds

-- three lists before and after steps from byte `from` to byte `to`, which are padding exactly where `pads` says it of a position
pub record Goes (pads : ℕ → Bool) (first from to n r : ℕ) (part positions olds part' positions' olds' : List ℕ) : Type 0 where
  pub count_le : r ≤ to
  pub part_length : length part' ≡ length part
  pub positions_length : length positions' ≡ length positions
  pub olds_length : length olds' ≡ length olds
  pub goes : (q : CubeLayout) (l : Lent) → length l.part ≡ length part → Done q first l from n part positions olds
      → ((x : ℕ) → from ≤ x → x < to → is_padding (owner q (first + x)) ≡ pads (first + x)) → Done q first l to r part' positions' olds'

-- the same of a part and the report that is being filled: it fills what was lent to it
pub record Mends (pads : ℕ → Bool) (first from to : ℕ) (part : List ℕ) (report : Report) (part' : List ℕ) (report' : Report) : Type 0 where
  pub same_positions : report'.positions.ghost_name ≡ report.positions.ghost_name
  pub same_olds : report'.olds.ghost_name ≡ report.olds.ghost_name
  pub goes : Goes pads first from to report.lines report'.lines part report.positions.now report.olds.now part' report'.positions.now report'.olds.now
