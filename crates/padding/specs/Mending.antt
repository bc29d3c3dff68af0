-- Padding made zero again, and what stood there (change request K8): by whose each byte is, so that padding is packing's own. Positions are those of a
-- file that holds a frame. Assumes nothing.
use Rattle.std.specs.Prelude.{ℕ, suc, Bool, false, cond, not, List, [], ◌∷◌, eqb}
use Rattle.elements.specs.Lists.{remade_from}
use Rattle.layout.specs.declared.CubeLayout.{CubeLayout}
use Rattle.layout.specs.Owners.{Owner, element, padding, outside, owner}

-- a byte after mending, by its owner: 0 in the padding, else as it was
unfoldable pub mended_byte : Owner → ℕ → ℕ
mended_byte (element c h w b) old = old
mended_byte padding old = 0
mended_byte outside old = old

-- the bytes from position p on, after mending
unfoldable pub mended : CubeLayout → ℕ → List ℕ → List ℕ
mended q p bytes = remade_from (λ (x old : ℕ). mended_byte (owner q x) old) p bytes

-- a byte is reported, by its owner: it is padding, and not zero
unfoldable pub is_dirty : Owner → ℕ → Bool
is_dirty (element c h w b) old = false
is_dirty padding old = not (eqb old 0)
is_dirty outside old = false

-- one line of a report: a position, and the byte that stood there
pub record Dirt : Type 0 where
  pub position : ℕ
  pub old : ℕ

-- the report of the bytes from position p on, ascending
unfoldable pub reported : CubeLayout → ℕ → List ℕ → List Dirt
reported q p [] = []
reported q p (b ∷ bytes) = let more = reported q (suc p) bytes in cond (is_dirty (owner q p) b) (record { position = p; old = b } ∷ more) more
