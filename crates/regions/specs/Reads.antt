-- What a read through a region depends on (scope paper, "Stalls"; change request K1): the layout, the named slot, the id given, the box, the two
-- lengths and the bytes of the box's elements. Assumes nothing.
use Rattle.std.specs.Prelude.{ℕ, ◌+◌, ◌<◌, ◌≡◌, true, List, length, get_or, ℤ}
use Rattle.layout.specs.declared.ElementBox.{ElementBox}
use Rattle.layout.specs.Geometry.{size_of, element_position}
use Rattle.layout.specs.Boxes.{box_has}
use Rattle.regions.specs.declared.RegionTable.{RegionTable}
use Rattle.regions.specs.Slots.{slots_of}
use Rattle.regions.specs.Rules.{slot_at, access_of, region_box}

-- two tables, ids given, buffers and lent elements agree on what a read of box b through slot n depends on
pub record SameRead (n : ℕ) (b : ElementBox) (t t' : RegionTable) (id id' : ℕ) (buffer buffer' : List ℕ) (xs xs' : List ℤ) : Type 0 where
  pub layout : t.layout ≡ t'.layout
  pub slot : slot_at (slots_of t) n ≡ slot_at (slots_of t') n
  pub given : id ≡ id'
  pub buffers : length buffer ≡ length buffer'
  pub lent : length xs ≡ length xs'
  pub bytes : (c h w k : ℕ) → box_has (region_box (access_of t n id) b) c h w ≡ true → k < size_of t.layout
      → get_or buffer (element_position t.layout c h w + k) 0 ≡ get_or buffer' (element_position t.layout c h w + k) 0
