-- What a read depends on: two reads that agree on it answer the same and, accepted, give the same elements. Element by element. Assumes nothing.
--     same_answer, same-elements      two reads that agree
use Prim.Native.Nat.{ℕ}
use mathlib.Core.Path.{◌≡◌, sym, ◌∙◌}
use mathlib.Core.List.{List}
use lib.ListN.{length}
use lib.IntN.{ℤ}
use Rattle.refusal.specs.Checks.{Accepted}
use Rattle.refusal.proofs.CheckLaws.{leaves-done}
use Rattle.layout.specs.declared.ElementBox.{ElementBox}
use Rattle.layout.specs.Contents.{box_elements}
use Rattle.layout.proofs.SameLaws.{box-same}
use Rattle.regions.specs.declared.RegionTable.{RegionTable}
use Rattle.regions.specs.Rules.{access_of, region_box, slot_checks, region_box_checks, read_checks}
use Rattle.regions.specs.Calls.{read_answer, read_elements}
use Rattle.regions.specs.Reads.{SameRead}
use Rattle.regions.proofs.CallLaws.{read-accepted}

module _ (n : ℕ) (b : ElementBox) (t t' : RegionTable) (id id' : ℕ) (buffer buffer' : List ℕ) (xs xs' : List ℤ) (same : SameRead n b t t' id id' buffer buffer' xs xs') where
  pub same_answer : read_answer t n id b (length xs) (length buffer) ≡ read_answer t' n id' b (length xs') (length buffer')
  unfolding read_answer read_checks region_box_checks slot_checks
  same_answer = rw (same.slot, same.layout, same.given, same.buffers, same.lent)

  pub same-elements : read_answer t n id b (length xs) (length buffer) ≡ Accepted → read_elements t n id b buffer xs ≡ read_elements t' n id' b buffer' xs'
  unfolding read_elements read_answer
  same-elements a =
      let box = region_box (access_of t n id) b in
      let box' = region_box (access_of t' n id') b in
      let v = read-accepted (access_of t n id) b (length xs) (length buffer) a in
      let moved : box_elements t.layout box buffer' ≡ box_elements t'.layout box' buffer' = rw (same.slot, same.layout) in
      leaves-done (box_elements t.layout box buffer) xs a
      ∙ box-same t.layout box buffer buffer' same.bytes v.region.bounds.box
      ∙ moved
      ∙ sym (leaves-done (box_elements t'.layout box' buffer') xs' (sym same_answer ∙ a))
