-- What the calls' loops come to in the terms of the promises: packing, unpacking, and writing and reading a box. Assumes nothing.
--     write-valid, write-ready, raw-written                            what an accepted writing gives to the loops, and they to it
--     written, was-cleared, was_read, packed-whole, unpacked-whole     accepted calls
--     write_kept, clear_kept, read_kept, pack-kept, unpack-kept        refused calls
use Prim.Native.Nat.{ℕ, ◌+◌, ◌-◌, ◌*◌, ◌≤◌}
use mathlib.Core.Path.{◌≡◌, sym, ap, ◌∙◌}
use mathlib.Core.Bool.{Bool, true, false}
use mathlib.Core.List.{List}
use lib.ListN.{length}
use lib.IntN.{ℤ}
use Rattle.std.specs.Prelude.{Err}
use Rattle.refusal.specs.declared.Fault.{Fault}
use Rattle.refusal.specs.Checks.{Answer, Accepted}
use Rattle.refusal.proofs.CheckLaws.{leaves-done, leaves-before}
use Rattle.layout.specs.declared.CubeLayout.{CubeLayout}
use Rattle.layout.specs.declared.ElementBox.{ElementBox}
use Rattle.layout.specs.Boxes.{whole_box}
use Rattle.layout.specs.Contents.{packed, edited, zeros_of, box_elements, unpacked}
use Rattle.layout.specs.Calls.{pack_answer, pack_buffer, unpack_elements, write_box_answer, write_box_buffer, clear_box_answer, clear_box_buffer, read_box_answer, read_box_elements}
use Rattle.layout.proofs.CallLaws.{Admitted, admitted, admit-clear, write-admitted, unpack-whole}
use Rattle.cube.specs.Steps.{run_index, gathered, box_written}
use Rattle.cube.proofs.RunLaws.{box-enough}
use Rattle.cube.proofs.GatherLaws.{gathered-raw}

-- ---- writing a box
module _ (q : CubeLayout) (box : ElementBox) (xs : List ℤ) (before : List ℕ) where
  module _ (a : write_box_answer q box xs (length before) ≡ Accepted) where
    pub write-valid : Admitted q box (length xs) (length before)
    write-valid = admitted q box (length xs) (length before) (write-admitted q box xs (length before) a)

    -- what the loops ask for: room, and elements for every run
    pub write-ready : (clear_box_answer q box (length before) ≡ Accepted) × (run_index box (box.channels - 1) (box.rows - 1) + box.columns ≤ length xs)
    write-ready =
        (admit-clear q box (length before) (length xs) (write-admitted q box xs (length before) a), box-enough q box write-valid.inside (length xs) write-valid.count)

    -- the elements in raw order are the caller's
    pub raw-written : (pad : Bool) → box_written q box pad (gathered box (box.rows * box.columns) box.columns xs) before ≡ box_written q box pad xs before
    raw-written pad = ap (λ (ys : List ℤ). box_written q box pad ys before) (gathered-raw q box write-valid.inside xs write-valid.count)

    pub written : {after : List ℕ} → after ≡ box_written q box false xs before → after ≡ write_box_buffer q box xs before
    unfolding write_box_buffer box_written
    written e = e ∙ sym (leaves-done (edited q box xs before) before a)

  pub write_kept : {f : Fault} → write_box_answer q box xs (length before) ≡ Err f → before ≡ write_box_buffer q box xs before
  unfolding write_box_buffer
  write_kept a = sym (leaves-before (edited q box xs before) before a)

-- ---- clearing a box
module _ (q : CubeLayout) (box : ElementBox) (before : List ℕ) where
  pub was-cleared : {after : List ℕ} → clear_box_answer q box (length before) ≡ Accepted → after ≡ edited q box (zeros_of box) before → after ≡ clear_box_buffer q box before
  unfolding clear_box_buffer
  was-cleared a e = e ∙ sym (leaves-done (edited q box (zeros_of box) before) before a)

  pub clear_kept : {f : Fault} → clear_box_answer q box (length before) ≡ Err f → before ≡ clear_box_buffer q box before
  unfolding clear_box_buffer
  clear_kept a = sym (leaves-before (edited q box (zeros_of box) before) before a)

-- ---- reading a box
module _ (q : CubeLayout) (box : ElementBox) (buf : List ℕ) (before : List ℤ) where
  pub was_read : {after : List ℤ} → read_box_answer q box (length before) (length buf) ≡ Accepted → after ≡ box_elements q box buf → after ≡ read_box_elements q box buf before
  unfolding read_box_elements
  was_read a e = e ∙ sym (leaves-done (box_elements q box buf) before a)

  pub read_kept : {f : Fault} → read_box_answer q box (length before) (length buf) ≡ Err f → before ≡ read_box_elements q box buf before
  unfolding read_box_elements
  read_kept a = sym (leaves-before (box_elements q box buf) before a)

-- ---- packing
module _ (q : CubeLayout) (raw : List ℤ) (before : List ℕ) where
  pub packed-whole : {after : List ℕ} → pack_answer q raw (length before) ≡ Accepted → after ≡ box_written q (whole_box q) true raw before → after ≡ pack_buffer q raw before
  unfolding pack_buffer box_written
  packed-whole a e = e ∙ sym (leaves-done (packed q raw before) before a)

  pub pack-kept : {f : Fault} → pack_answer q raw (length before) ≡ Err f → before ≡ pack_buffer q raw before
  unfolding pack_buffer
  pack-kept a = sym (leaves-before (packed q raw before) before a)

-- ---- unpacking
module _ (q : CubeLayout) (buf : List ℕ) (before : List ℤ) where
  same-call : read_box_elements q (whole_box q) buf before ≡ unpack_elements q buf before
  unfolding read_box_elements unpack_elements unpacked
  same-call = ap (λ (a : Answer). Rattle.refusal.specs.Checks.leaves a (box_elements q (whole_box q) buf) before) (sym (unpack-whole q (length before) (length buf)))

  pub unpacked-whole : {after : List ℤ} → read_box_answer q (whole_box q) (length before) (length buf) ≡ Accepted → after ≡ box_elements q (whole_box q) buf
      → after ≡ unpack_elements q buf before
  unpacked-whole a e = was_read q (whole_box q) buf before a e ∙ same-call

  pub unpack-kept : {f : Fault} → read_box_answer q (whole_box q) (length before) (length buf) ≡ Err f → before ≡ unpack_elements q buf before
  unpack-kept a = read_kept q (whole_box q) buf before a ∙ same-call
