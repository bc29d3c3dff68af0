-- The words of the theorem about a whole walk (proofs/Claims.antt): steps one after another, an atom by the paper's formula (scope paper, "Cells and
-- cubes"), and atoms written as they are told. Assumes nothing.
use Rattle.std.specs.Prelude.{ℕ, zero, suc, ◌+◌, ◌-◌, ◌*◌, ◌≤◌, ◌<◌, ◌≡◌, cond, ◌&&◌, List, leb, ltb, ℤ, length, get_or, replicate, Option, Some, None}
use Rattle.elements.specs.Lists.{remade, tabulate}
use Rattle.layout.specs.declared.CubeLayout.{CubeLayout}
use Rattle.layout.specs.Geometry.{surfaces}
use Rattle.layout.specs.Owners.{atom_owner}
use Rattle.layout.specs.Contents.{packed_byte}
use Rattle.layout.specs.Calls.{pack_buffer}
use Rattle.walk.specs.declared.Walk.{Walk}
use Rattle.walk.specs.declared.Step.{Step}
use Rattle.walk.specs.Walks.{walk_step}

-- ---- steps one after another

-- what a step tells: a position, or that none is left, and the bytes
pub record Told : Type 0 where
  pub atom : Option ℕ
  pub bytes : List ℕ

abbrev pub told_by : Step → Told
told_by s = record { atom = s.atom; bytes = s.bytes }

-- the walk after n steps: each step gets the walk that the one before handed back, and all get the same elements
unfoldable pub walk_after : ℕ → Walk → List ℤ → Walk
walk_after zero w raw = w
walk_after (suc n) w raw = (walk_step (walk_after n w raw) raw).walk

-- what step n tells, counted from 0
unfoldable pub step_told : ℕ → Walk → List ℤ → Told
step_told n w raw = told_by (walk_step (walk_after n w raw) raw)

-- ---- the atoms of a cube

-- the cube has an atom at surface s, row h, column w
pub record InScan (q : CubeLayout) (s h w : ℕ) : Type 0 where
  pub surface_lt : s < surfaces q
  pub row_lt : h < q.height
  pub column_lt : w < q.width

-- how many it has, S·H·W
abbrev pub atom_count : CubeLayout → ℕ
atom_count q = surfaces q * q.height * q.width

-- how many stand before the one at surface s, row h, column w: columns fastest, then rows, then surfaces
abbrev pub scan_index : CubeLayout → ℕ → ℕ → ℕ → ℕ
scan_index q s h w = (s * q.height + h) * q.width + w

-- the atom before which n stand
pub record ScanAt (q : CubeLayout) (n : ℕ) : Type 0 where
  pub s : ℕ
  pub h : ℕ
  pub w : ℕ
  pub in_scan : InScan q s h w
  pub index : scan_index q s h w ≡ n

-- where the atom at surface s, row h, column w begins
abbrev pub scan_position : CubeLayout → ℕ → ℕ → ℕ → ℕ
scan_position q s h w = q.start + s * q.surface + h * q.line + 32 * w

-- that atom told: its position, and the bytes that packing writes there
unfoldable pub atom_told : CubeLayout → List ℤ → ℕ → ℕ → ℕ → Told
atom_told q raw s h w = record { atom = Some (scan_position q s h w); bytes = tabulate 32 (λ (k : ℕ). packed_byte q raw (atom_owner q s h w k) 0) }

-- that none is left
abbrev pub none_told : Told
none_told = record { atom = None; bytes = replicate 32 0 }

-- ---- atoms written

-- the 32 bytes of an atom written at its position, every other byte as it was; where none is left all bytes as they were
unfoldable pub written_at : Option ℕ → List ℕ → List ℕ → List ℕ
written_at (Some position) bytes before =
    remade (λ (p old : ℕ). cond (leb position p && ltb p (position + 32)) (get_or bytes (p - position) 0) old) before
written_at None bytes before = before

-- the atoms that n steps tell, written one after another
unfoldable pub steps_written : ℕ → Walk → List ℤ → List ℕ → List ℕ
steps_written zero w raw before = before
steps_written (suc n) w raw before = written_at (step_told n w raw).atom (step_told n w raw).bytes (steps_written n w raw before)

-- ---- the whole walk

-- what the steps from a walk on come to, for a cube, its elements and buffers of `len` bytes
pub record WholeWalk (q : CubeLayout) (raw : List ℤ) (len : ℕ) (walk : Walk) : Type 0 where
  -- the steps tell the cube's atoms in scan order,
  pub in_order : (s h w : ℕ) → InScan q s h w → step_told (scan_index q s h w) walk raw ≡ atom_told q raw s h w
  -- each of the first S·H·W steps one of them,
  pub each_step : (n : ℕ) → n < atom_count q → ScanAt q n
  -- every later step that none is left,
  pub none_left : (n : ℕ) → atom_count q ≤ n → step_told n walk raw ≡ none_told
  -- and no other step tells an atom's position;
  pub once : (n s h w : ℕ) → InScan q s h w → (step_told n walk raw).atom ≡ Some (scan_position q s h w) → n ≡ scan_index q s h w
  -- written as they are told, they leave what packing leaves
  pub packs : (before : List ℕ) → length before ≡ len → (n : ℕ) → atom_count q ≤ n → steps_written n walk raw before ≡ pack_buffer q raw before
