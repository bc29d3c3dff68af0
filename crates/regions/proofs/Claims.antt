-- The claims about placings, releases and owners (scope paper, "Stalls"; change request K1). What a read depends on is claimed with the lists of calls.
-- Assumes nothing.
use Prim.Native.Nat.{ℕ}
use mathlib.Core.Path.{◌≡◌}
use mathlib.Core.Logic.{◌↔◌, ◌≢◌}
use mathlib.Core.Bool.{true}
use mathlib.Core.List.{List}
use lib.ListN.{length}
use lib.IntN.{ℤ}
use Rattle.refusal.specs.declared.Refusal.TheVariants.{OwnerId}
use Rattle.refusal.specs.Checks.{Accepted, Refused}
use Rattle.layout.specs.declared.ElementBox.{ElementBox}
use Rattle.layout.specs.Contents.{zeros_of}
use Rattle.regions.specs.declared.Rectangle.{Rectangle}
use Rattle.regions.specs.declared.RegionTable.{RegionTable}
use Rattle.regions.specs.Slots.{Slot, overlaps}
use Rattle.regions.specs.Rules.{access_of, whole_region}
use Rattle.regions.specs.Calls.{edit_answer, edit_buffer, read_answer, release_answer, release_buffer}
use Rattle.regions.specs.Overlaps.{Shared}
use Rattle.regions.proofs.OverlapLaws.{overlaps-shared, shared-overlaps}
use Rattle.regions.proofs.CallLaws.{release-answers, release-writes, edit-denied, read_denied, release-denied}

-- a placing is refused as overlapping exactly if some (w, h) position is in a region already placed
pub overlaps-exactly : (slots : List Slot) (g : Rectangle) → (overlaps slots g ≡ true) ↔ Shared slots g
overlaps-exactly slots g = (overlaps-shared slots g, shared-overlaps slots g)

-- a release answers, and leaves in the buffer, what an edit of the whole region with zeros does
pub release-is-edit : (t : RegionTable) (n id : ℕ) (before : List ℕ)
    → let all = whole_region (access_of t n id) in
    (release_answer t n id (length before) ≡ edit_answer t n id all (zeros_of all) (length before)) × (release_buffer t n id before ≡ edit_buffer t n id all (zeros_of all) before)
release-is-edit t n id before = (release-answers t n id before, release-writes t n id before)

-- what is accepted of a region's owner is refused by 25 of anybody else
module _ (t : RegionTable) (n id id' : ℕ) (other : id ≢ id') where
  pub edit-owned : (b : ElementBox) (xs : List ℤ) (len : ℕ) → edit_answer t n id b xs len ≡ Accepted → edit_answer t n id' b xs len ≡ Refused OwnerId 0
  edit-owned = edit-denied t n id id' other

  pub read_owned : (b : ElementBox) (given len : ℕ) → read_answer t n id b given len ≡ Accepted → read_answer t n id' b given len ≡ Refused OwnerId 0
  read_owned = read_denied t n id id' other

  pub release-owned : (len : ℕ) → release_answer t n id len ≡ Accepted → release_answer t n id' len ≡ Refused OwnerId 0
  release-owned = release-denied t n id id' other
