-- The claims about every list of calls (scope paper, "The plain picture"; demand 3; change requests K1, K3, K5, K7). `program` folds the steps that `begin`, `place`,
-- `edit`, `read`, `release` and `paint` of `history_calls` promise, and these do nothing but call `pack`, `empty`, `place`, `edit`, `read`, `release` and `paint`;
-- `model` has no buffer and no table of the program.
-- Premises: packing was accepted; lent elements are 16-bit numbers, as in every slice of i16. Lent pixels are bytes, as in every slice of u8, but nothing is
-- asked of them: what they are converted to is held to the cube's precision, whatever they are. Assumes nothing.
use Prim.Native.Nat.{ℕ, ◌+◌, ◌<◌}
use mathlib.Core.Path.{◌≡◌}
use mathlib.Core.Logic.{◌≢◌}
use mathlib.Core.Bool.{true, false}
use mathlib.Core.List.{List, ◌∷◌, map, ◌++◌}
use lib.ListN.{length, get_or}
use lib.IntN.{ℤ, pos}
use Rattle.refusal.specs.Checks.{Accepted}
use Rattle.elements.specs.Values.{is_nan}
use Rattle.layout.specs.declared.CubeLayout.{CubeLayout}
use Rattle.layout.specs.declared.ElementBox.{ElementBox}
use Rattle.layout.specs.Geometry.{size_of, element_position}
use Rattle.layout.specs.Calls.{pack_answer}
use Rattle.layout.proofs.CallLaws.{pack-admitted}
use Rattle.regions.specs.declared.Rectangle.{Rectangle}
use Rattle.regions.specs.declared.RegionTable.{RegionTable}
use Rattle.regions.specs.Slots.{filled, rectangle_has}
use Rattle.regions.specs.Rules.{slot_at, rectangle_at}
use Rattle.regions.specs.Calls.{read_answer, read_elements}
use Rattle.regions.specs.Reads.{SameRead}
use Rattle.regions.proofs.ReadLaws as reads
use Rattle.history.specs.Program.{Call, read, release, SixteenBit, Lends_sixteen_bit, beginning, step, program, moment, slots_at}
use Rattle.history.specs.Writes.{slot_of_call, writes_element, Unwritten, Reads_zero}
use Rattle.history.specs.Model.{model, model_to, shown, given}
use Rattle.history.proofs.Simulation as simulation
use Rattle.history.proofs.Nans as nans
use Rattle.history.proofs.Apart as apart
use Rattle.history.proofs.BufferLaws as buffers
use Rattle.history.proofs.Separation as separation
use Rattle.history.proofs.Released as released

module _ (q : CubeLayout) (raw : List ℤ) (before : List ℕ) (accepted : pack_answer q raw (length before) ≡ Accepted) where
  module _ (sixteen : SixteenBit raw) (calls : List Call) (lent : Lends_sixteen_bit calls) where
    -- after every call of every list: the reply (of an accepted painting also how many components were held), the caller's elements and the buffer are the
    -- model's, its raw tensor packed over the bytes from before the packing
    pub every-list : program (beginning q raw before).state calls ≡ map (shown q before) (model q (length before) (given raw) calls)
    every-list = simulation.every-list q raw before accepted sixteen calls lent

    -- at every moment packing the model's raw tensor is accepted
    pub still-packs : pack_answer q (model_to q (length before) (given raw) calls).raw (length before) ≡ Accepted
    still-packs = simulation.packs-at q raw before accepted sixteen calls lent

    -- at every moment no NaN is in the raw tensor of an fp16 model: the packing refuses one, and no accepted call puts one in; a missing element counts as 0
    pub no_nan : q.precision ≡ 2 → (i : ℕ) → is_nan (get_or (model_to q (length before) (given raw) calls).raw i (pos 0)) ≡ false
    no_nan = nans.no_nan q raw before accepted sixteen calls lent

    -- so an accepted read of an fp16 cube gives none, at every moment
    pub no-nan-read : q.precision ≡ 2 → (n id : ℕ) (b : ElementBox) (ys : List ℤ) → (step (moment q raw before calls) (read n id b ys)).reply.answer ≡ Accepted
        → (i : ℕ) → is_nan (get_or (step (moment q raw before calls) (read n id b ys)).elements i (pos 0)) ≡ false
    no-nan-read = nans.no-nan-read q raw before accepted sixteen calls lent

    -- at every moment the slots are the model's
    pub slots-are : slots_at q raw before calls ≡ (model_to q (length before) (given raw) calls).slots
    slots-are = (simulation.agrees_at q raw before accepted sixteen calls lent).slots

  -- at every moment no two placed regions share a byte: element (c, h, w) has the bytes from its position on
  pub regions-apart : (calls : List Call) (n m : ℕ) → n ≢ m → (i j : ℕ) (f g : Rectangle)
      → slot_at (slots_at q raw before calls) n ≡ filled i f → slot_at (slots_at q raw before calls) m ≡ filled j g
      → (c h w k c' h' w' k' : ℕ) → c < q.channels → rectangle_has f w h ≡ true → k < size_of q → c' < q.channels → rectangle_has g w' h' ≡ true → k' < size_of q
      → element_position q c h w + k ≡ element_position q c' h' w' + k' → ⊥
  regions-apart calls = apart.no-shared-byte q (pack-admitted q raw (length before) accepted).layout (slots_at q raw before calls) (apart.apart-at q raw before calls)

module _ (q : CubeLayout) (raw : List ℤ) (before : List ℕ) where
  module _ (calls : List Call) where
    -- at every moment a call changes only bytes of the elements that it names to be written: an edit those of its box, a release and a painting those of its
    -- region, a placing and a read none
    pub edit-changes : (call : Call) (p : ℕ)
        → ((c h w k : ℕ) → writes_element (moment q raw before calls).table call c h w ≡ true → k < size_of q → p ≡ element_position q c h w + k → ⊥)
        → get_or (step (moment q raw before calls) call).state.buffer p 0 ≡ get_or (moment q raw before calls).buffer p 0
    edit-changes = buffers.call-changes q (moment q raw before calls) (apart.layout-at q raw before calls)

    -- at every moment, whatever a call through one slot does, a read through another replies and gives the same just before it and just after
    pub read-undisturbed : (call : Call) (m id : ℕ) → slot_of_call call ≢ m → (b : ElementBox) (ys : List ℤ)
        → ((step (step (moment q raw before calls) call).state (read m id b ys)).reply ≡ (step (moment q raw before calls) (read m id b ys)).reply)
        × ((step (step (moment q raw before calls) call).state (read m id b ys)).elements ≡ (step (moment q raw before calls) (read m id b ys)).elements)
    read-undisturbed = separation.read-undisturbed q (moment q raw before calls) (apart.layout-at q raw before calls) (apart.apart-at q raw before calls)

  -- after an accepted release, and however the list goes on, an element of the region that was released, unless an accepted edit has written it since, a
  -- painting being an edit of its whole region, is read as 0 by every accepted read of it, whoever owns a region there
  pub released-zero : (first rest : List Call) (n id : ℕ) → (step (moment q raw before first) (release n id)).reply.answer ≡ Accepted
      → (c h w : ℕ) → c < q.channels → rectangle_has (rectangle_at (slots_at q raw before first) n) w h ≡ true
      → Unwritten (step (moment q raw before first) (release n id)).state rest c h w → Reads_zero (moment q raw before (first ++ (release n id ∷ rest))) c h w
  released-zero = released.released-zero q raw before

-- what a read depends on: two reads of any two tables that agree on it answer the same and, accepted, give the same elements
pub read-depends : (n : ℕ) (b : ElementBox) (t t' : RegionTable) (id id' : ℕ) (buffer buffer' : List ℕ) (xs xs' : List ℤ) → SameRead n b t t' id id' buffer buffer' xs xs'
    → (read_answer t n id b (length xs) (length buffer) ≡ read_answer t' n id' b (length xs') (length buffer'))
    × (read_answer t n id b (length xs) (length buffer) ≡ Accepted → read_elements t n id b buffer xs ≡ read_elements t' n id' b buffer' xs')
read-depends n b t t' id id' buffer buffer' xs xs' same =
    (reads.same_answer n b t t' id id' buffer buffer' xs xs' same, reads.same-elements n b t t' id id' buffer buffer' xs xs' same)
