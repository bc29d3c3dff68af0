-- The orders of checks: what an accepted call tells, and that a call on the whole cube is one on its whole box. Assumes nothing.
--     Admitted, admitted     what an accepted box call tells
--     admit-whole            the box check of the whole cube never refuses
--     pack-admitted, pack-values     what an accepted packing tells
--     box-layout .. box-accepted     checks 1 to 4, 9, one after another
--     admit-box .. admit-valid       checks 6 and 5 after them
--     box-counts             a box's counts are at most 8192
--     write-refused .. write-admitted    7 or 26 after the others
--     zeros-stored, clear-as-write   clearing a box is judged as writing zeros to it
--     clear-box .. clear-front       check 5 after checks 1 to 4, 9
--     clear-admitted, admit-clear    what an accepted clearing tells; a call that is admitted has room for one
--     pack-whole, unpack-whole       calls on the whole cube are box calls
--     admit-front            an accepted box call passed checks 1 to 4, 9
use Prim.Native.Nat.{ℕ, ◌+◌, ◌≤◌, ◌<◌}
use native.Mathlib.Omega.{arith}
use mathlib.Core.Path.{◌≡◌, refl, sym, ap, ◌∙◌}
use mathlib.Core.Bool.{true, false}
use mathlib.Core.List.{List, [], ◌∷◌, ◌++◌, append_assoc}
use lib.ListN.{length, replicate, length-replicate}
use lib.Dec.{leb}
use lib.IntN.{ℤ, pos}
use borrow.Author.Tests.{leb-true, eqb-true, le-leb, lt-leb, eq-eqb, ne_eqb}
use Rattle.std.specs.Prelude.{Err, Ok}
use Rattle.refusal.specs.declared.Fault.{Fault}
use Rattle.refusal.specs.declared.Refusal.{Refusal}
use Rattle.refusal.specs.declared.Refusal.TheVariants.{BufferLength, ElementCount, Bounds}
use Rattle.refusal.specs.Checks.{require, in_order, Answer, Accepted, Refused}
use Rattle.refusal.proofs.CheckLaws.{Held, in_order-all, require_at-held, in_order-nil, in_order-next, in_order-stop, in_order-front, in_order-back, in_order-passed, in_order-refused, in_order-same, in_order-then}
use Rattle.elements.specs.Values.{value_checks}
use Rattle.elements.proofs.ValueLaws.{value_checks-zeros}
use Rattle.layout.specs.declared.CubeLayout.{CubeLayout}
use Rattle.layout.specs.declared.ElementBox.{ElementBox}
use Rattle.layout.specs.Geometry.{cube_extent}
use Rattle.layout.specs.Boxes.{whole_box, box_count, box_inside}
use Rattle.layout.specs.Rules.{layout_checks, box_checks, room_checks, storage_checks, cube_checks, admit_checks}
use Rattle.layout.specs.Contents.{zeros_of}
use Rattle.layout.specs.Calls.{pack_answer, unpack_answer, write_box_answer, clear_box_answer, read_box_answer}
use Rattle.layout.proofs.Valid.{Valid, valid}
use Rattle.layout.proofs.BoxLaws.{BoxValid, box-valid, whole-inside, whole-count}

-- an accepted call: the layout and the box are valid, the elements are as many as the box has, the buffer holds the extent
pub record Admitted (q : CubeLayout) (box : ElementBox) (given len : ℕ) : Type 0 where
  pub layout : Valid q
  pub inside : BoxValid q box
  pub count : given ≡ box_count box
  pub room : q.start + cube_extent q ≤ len

-- checks 6 and 5 of an accepted call
storage-accepted : (q : CubeLayout) (count given len : ℕ) → in_order (storage_checks q count given len) ≡ Accepted → (given ≡ count) × (q.start + cube_extent q ≤ len)
unfolding storage_checks Held
storage-accepted q count given len e =
    let held = in_order-all _ e in
    (eqb-true given count (require_at-held _ _ _ held.0), leb-true (q.start + cube_extent q) len (require_at-held _ _ _ held.1.0))

-- ---- checks 1 to 4, 9
module _ (q : CubeLayout) (box : ElementBox) where
  pub box-layout : in_order (box_checks q box) ≡ Accepted → in_order (layout_checks q) ≡ Accepted
  unfolding box_checks
  box-layout e = in_order-front (layout_checks q) (require Bounds (box_inside q box) ∷ []) e

  pub box-inside : in_order (box_checks q box) ≡ Accepted → box_inside q box ≡ true
  unfolding box_checks Held
  box-inside e = require_at-held _ _ _ (in_order-all _ (in_order-back (layout_checks q) _ e)).0

  pub box-refused : {f : Fault} → in_order (layout_checks q) ≡ Err f → Err f ≡ in_order (box_checks q box)
  unfolding box_checks
  box-refused e = sym (in_order-refused (layout_checks q) (require Bounds (box_inside q box) ∷ []) e)

  pub box-outside : in_order (layout_checks q) ≡ Accepted → box_inside q box ≡ false → Refused Bounds 0 ≡ in_order (box_checks q box)
  unfolding box_checks
  box-outside ok e = sym (in_order-passed (layout_checks q) (require Bounds (box_inside q box) ∷ []) ok ∙ in_order-stop 0 Bounds [] e)

  pub box-accepted : in_order (layout_checks q) ≡ Accepted → box_inside q box ≡ true → Accepted ≡ in_order (box_checks q box)
  unfolding box_checks
  box-accepted ok e = sym (in_order-passed (layout_checks q) (require Bounds (box_inside q box) ∷ []) ok ∙ in_order-next 0 Bounds [] e ∙ in_order-nil)

-- what accepted checks 1 to 4, 9 tell
pub box-layout-valid : (q : CubeLayout) (box : ElementBox) → in_order (box_checks q box) ≡ Accepted → Valid q
box-layout-valid q box e = valid q (box-layout q box e)

pub box_checks-valid : (q : CubeLayout) (box : ElementBox) → in_order (box_checks q box) ≡ Accepted → BoxValid q box
box_checks-valid q box e = box-valid q box (box-inside q box e)

pub admitted : (q : CubeLayout) (box : ElementBox) (given len : ℕ) → in_order (admit_checks q box given len) ≡ Accepted → Admitted q box given len
unfolding admit_checks
admitted q box given len e =
    let front = in_order-front (box_checks q box) (storage_checks q (box_count box) given len) e in
    let storage = storage-accepted q (box_count box) given len (in_order-back (box_checks q box) (storage_checks q (box_count box) given len) e) in
    record {
      layout = box-layout-valid q box front;
      inside = box_checks-valid q box front;
      count = storage.0;
      room = storage.1;
    }

-- the box check of the whole cube holds once the layout is valid
whole-front : (q : CubeLayout) (a : Answer) → in_order (layout_checks q) ≡ a → in_order (box_checks q (whole_box q)) ≡ a
whole-front q (Ok _) e = sym (box-accepted q (whole_box q) e (whole-inside q (valid q e)))
whole-front q (Err f) e = sym (box-refused q (whole_box q) e)

pub admit-whole : (q : CubeLayout) (given len : ℕ) → in_order (admit_checks q (whole_box q) given len) ≡ in_order (cube_checks q given len)
unfolding admit_checks cube_checks
admit-whole q given len =
    in_order-same (box_checks q (whole_box q)) (layout_checks q) (storage_checks q (box_count (whole_box q)) given len) (in_order (layout_checks q))
    (whole-front q (in_order (layout_checks q)) refl)
    refl
    ∙ ap (λ (n : ℕ). in_order (layout_checks q ++ storage_checks q n given len)) (whole-count q)

pub cube-admitted : (q : CubeLayout) (given len : ℕ) → in_order (cube_checks q given len) ≡ Accepted → Admitted q (whole_box q) given len
cube-admitted q given len e = admitted q (whole_box q) given len (admit-whole q given len ∙ e)

pub pack-admitted : (q : CubeLayout) (raw : List ℤ) (len : ℕ) → pack_answer q raw len ≡ Accepted → Admitted q (whole_box q) (length raw) len
unfolding pack_answer
pack-admitted q raw len e = cube-admitted q (length raw) len (in_order-front (cube_checks q (length raw) len) (value_checks q.precision raw) e)

pub pack-values : (q : CubeLayout) (raw : List ℤ) (len : ℕ) → pack_answer q raw len ≡ Accepted → in_order (value_checks q.precision raw) ≡ Accepted
unfolding pack_answer
pack-values q raw len e = in_order-back (cube_checks q (length raw) len) (value_checks q.precision raw) e

-- ---- checks 1 to 4, 9, 6, 5 as the code goes through them
module _ (q : CubeLayout) (box : ElementBox) (given len : ℕ) where
  pub admit-box : {f : Fault} → in_order (box_checks q box) ≡ Err f → Err f ≡ in_order (admit_checks q box given len)
  unfolding admit_checks
  admit-box e = sym (in_order-refused (box_checks q box) (storage_checks q (box_count box) given len) e)

  module _ (ok : in_order (box_checks q box) ≡ Accepted) where
    to-storage : in_order (admit_checks q box given len) ≡ in_order (storage_checks q (box_count box) given len)
    unfolding admit_checks
    to-storage = in_order-passed (box_checks q box) (storage_checks q (box_count box) given len) ok

    pub admit-count : (given ≡ box_count box → ⊥) → Refused ElementCount 0 ≡ in_order (admit_checks q box given len)
    unfolding storage_checks
    admit-count f = sym (to-storage ∙ in_order-stop 0 ElementCount (require BufferLength (leb (q.start + cube_extent q) len) ∷ []) (ne_eqb given (box_count box) f))

    module _ (count : given ≡ box_count box) where
      pub admit-room : len < q.start + cube_extent q → Refused BufferLength 0 ≡ in_order (admit_checks q box given len)
      unfolding storage_checks
      admit-room h =
          sym
          (to-storage
          ∙ in_order-next 0 ElementCount (require BufferLength (leb (q.start + cube_extent q) len) ∷ []) (eq-eqb given (box_count box) count)
          ∙ in_order-stop 0 BufferLength [] (lt-leb (q.start + cube_extent q) len h))

      pub admit-valid : q.start + cube_extent q ≤ len → Accepted ≡ in_order (admit_checks q box given len)
      unfolding storage_checks
      admit-valid h =
          sym
          (to-storage
          ∙ in_order-next 0 ElementCount (require BufferLength (leb (q.start + cube_extent q) len) ∷ []) (eq-eqb given (box_count box) count)
          ∙ in_order-next 0 BufferLength [] (le-leb (q.start + cube_extent q) len h)
          ∙ in_order-nil)

-- the counts of a box inside a valid cube
pub box-counts : (q : CubeLayout) (box : ElementBox) → Valid q → BoxValid q box → (box.channels ≤ 8192) × (box.rows ≤ 8192) × (box.columns ≤ 8192)
box-counts q box ok t =
    (omega (arith, t.channels.fit, ok.channels_le), omega (arith, t.rows.fit, ok.height_le), omega (arith, t.columns.fit, ok.width_le))

pub admit-front : (q : CubeLayout) (box : ElementBox) (given len : ℕ) → in_order (admit_checks q box given len) ≡ Accepted → in_order (box_checks q box) ≡ Accepted
unfolding admit_checks
admit-front q box given len e = in_order-front (box_checks q box) (storage_checks q (box_count box) given len) e

-- ---- calls that write: 7 or 26 after the others
module _ (q : CubeLayout) (box : ElementBox) (xs : List ℤ) (len : ℕ) where
  pub write-refused : {f : Fault} → in_order (admit_checks q box (length xs) len) ≡ Err f → Err f ≡ write_box_answer q box xs len
  unfolding write_box_answer
  write-refused e = sym (in_order-refused (admit_checks q box (length xs) len) (value_checks q.precision xs) e)

  pub write-values : in_order (admit_checks q box (length xs) len) ≡ Accepted → in_order (value_checks q.precision xs) ≡ write_box_answer q box xs len
  unfolding write_box_answer
  write-values e = sym (in_order-passed (admit_checks q box (length xs) len) (value_checks q.precision xs) e)

  pub write-admitted : write_box_answer q box xs len ≡ Accepted → in_order (admit_checks q box (length xs) len) ≡ Accepted
  unfolding write_box_answer
  write-admitted e = in_order-front (admit_checks q box (length xs) len) (value_checks q.precision xs) e

-- zeros, as many as are wanted, are never refused by 6, 7 or 26
pub zeros-stored : (q : CubeLayout) (n len : ℕ) → in_order (storage_checks q n (length (replicate n (pos 0))) len ++ value_checks q.precision (replicate n (pos 0))) ≡ in_order (room_checks q len)
unfolding storage_checks
zeros-stored q n len =
    in_order-next 0 ElementCount _ (eq-eqb _ _ (length-replicate n (pos 0)))
    ∙ in_order-then (room_checks q len) (value_checks q.precision (replicate n (pos 0))) [] (value_checks-zeros q.precision n ∙ sym in_order-nil)

-- clearing a box is judged as writing zeros to it
pub clear-as-write : (q : CubeLayout) (box : ElementBox) (len : ℕ) → clear_box_answer q box len ≡ write_box_answer q box (zeros_of box) len
unfolding clear_box_answer write_box_answer admit_checks
clear-as-write q box len =
    in_order-then (box_checks q box) _ _ (sym (zeros-stored q (box_count box) len)) ∙ sym (ap in_order (append_assoc (box_checks q box) _ _))

-- ---- checks 1 to 4, 9, 5 as the code goes through them
module _ (q : CubeLayout) (box : ElementBox) (len : ℕ) where
  pub clear-box : {f : Fault} → in_order (box_checks q box) ≡ Err f → Err f ≡ clear_box_answer q box len
  unfolding clear_box_answer
  clear-box e = sym (in_order-refused (box_checks q box) (room_checks q len) e)

  pub clear_room : in_order (box_checks q box) ≡ Accepted → len < q.start + cube_extent q → Refused BufferLength 0 ≡ clear_box_answer q box len
  unfolding clear_box_answer
  clear_room ok h = sym (in_order-passed (box_checks q box) (room_checks q len) ok ∙ in_order-stop 0 BufferLength [] (lt-leb (q.start + cube_extent q) len h))

  pub clear-valid : in_order (box_checks q box) ≡ Accepted → q.start + cube_extent q ≤ len → Accepted ≡ clear_box_answer q box len
  unfolding clear_box_answer
  clear-valid ok h = sym (in_order-passed (box_checks q box) (room_checks q len) ok ∙ in_order-next 0 BufferLength [] (le-leb (q.start + cube_extent q) len h) ∙ in_order-nil)

  pub clear-front : clear_box_answer q box len ≡ Accepted → in_order (box_checks q box) ≡ Accepted
  unfolding clear_box_answer
  clear-front e = in_order-front (box_checks q box) (room_checks q len) e

  pub clear-admitted : clear_box_answer q box len ≡ Accepted → Admitted q box (length (zeros_of box)) len
  clear-admitted e = admitted q box (length (zeros_of box)) len (write-admitted q box (zeros_of box) len (sym (clear-as-write q box len) ∙ e))

  pub admit-clear : (given : ℕ) → in_order (admit_checks q box given len) ≡ Accepted → clear_box_answer q box len ≡ Accepted
  admit-clear given e = sym (clear-valid (admit-front q box given len e) (admitted q box given len e).room)

-- packing is judged as writing the whole box
pub pack-whole : (q : CubeLayout) (raw : List ℤ) (len : ℕ) → pack_answer q raw len ≡ write_box_answer q (whole_box q) raw len
unfolding pack_answer write_box_answer
pack-whole q raw len =
    sym (in_order-same (admit_checks q (whole_box q) (length raw) len) (cube_checks q (length raw) len) (value_checks q.precision raw) (in_order (cube_checks q (length raw) len)) (admit-whole q (length raw) len) refl)

-- and unpacking as reading it
pub unpack-whole : (q : CubeLayout) (given len : ℕ) → unpack_answer q given len ≡ read_box_answer q (whole_box q) given len
unfolding unpack_answer read_box_answer
unpack-whole q given len = sym (admit-whole q given len)
