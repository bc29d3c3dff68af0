-- The walk over the atoms of a cube, one at a time (change request K6): its start, and a step of any walk over any elements. Only sums lead from one
-- atom to the next. That the steps of a started walk give every atom of the paper's formula once, and what packing writes, is a theorem
-- (proofs/Claims.antt). Assumes nothing.
use Rattle.std.specs.Prelude.{ℕ, ◌+◌, ◌-◌, ◌*◌, ◌/◌, ◌%◌, ◌^◌, Bool, cond, ◌&&◌, List, ltb, ℤ, pos, get_or, replicate, Result, Some, None}
use Rattle.refusal.specs.declared.Fault.{Fault}
use Rattle.refusal.specs.Checks.{given}
use Rattle.elements.specs.Bytes.{element_bytes, byte_of}
use Rattle.elements.specs.Lists.{tabulate}
use Rattle.layout.specs.declared.CubeLayout.{CubeLayout}
use Rattle.layout.specs.Calls.{pack_answer}
use Rattle.walk.specs.declared.Walk.{Walk}
use Rattle.walk.specs.declared.Stride.{Stride}
use Rattle.walk.specs.declared.Step.{Step}

-- elements of an atom, by the precision code: 32 of one byte, 16 of two
unfoldable pub atom_elements : ℕ → ℕ
atom_elements p = 32 / element_bytes p

-- ---- the start

-- the walk before the first atom of a cube
unfoldable pub first_walk : CubeLayout → Walk
first_walk q =
    record {
      position = q.start;
      index = 0;
      columns = q.width;
      rows = q.height;
      channels = q.channels;
      precision = q.precision;
      width = q.width;
      height = q.height;
      plane = q.height * q.width;
      line = q.line - 32 * (q.width - 1);
      surface = q.surface - (q.height - 1) * q.line - 32 * (q.width - 1);
      group = (atom_elements q.precision - 1) * (q.height * q.width) + 1;
    }

-- start: what packing answers over a buffer of `len` bytes, 1, 2, 3, 4, 6, 5, then 7 or 26
unfoldable pub walk_start : CubeLayout → List ℤ → ℕ → Result Walk Fault
walk_start q raw len = given (pack_answer q raw len) (first_walk q)

-- ---- a step, of any walk over any elements

-- from an atom to the next: in its line; in the next line of its surface; in the next surface; behind the last atom nothing is left
unfoldable pub stride_of : Walk → Stride
stride_of w =
    cond (ltb 1 w.columns)
    (record { columns = w.columns - 1; rows = w.rows; channels = w.channels; bytes = 32; elements = 1 })
    (cond (ltb 1 w.rows)
    (record { columns = w.width; rows = w.rows - 1; channels = w.channels; bytes = w.line; elements = 1 })
    (cond (ltb (atom_elements w.precision) w.channels)
    (record { columns = w.width; rows = w.height; channels = w.channels - atom_elements w.precision; bytes = w.surface; elements = w.group })
    (record { columns = 0; rows = 0; channels = 0; bytes = 0; elements = 0 })))

-- the walk a stride further on
unfoldable pub moved : Walk → Stride → Walk
moved w s =
    record {
      position = w.position + s.bytes;
      index = w.index + s.elements;
      columns = s.columns;
      rows = s.rows;
      channels = s.channels;
      precision = w.precision;
      width = w.width;
      height = w.height;
      plane = w.plane;
      line = w.line;
      surface = w.surface;
      group = w.group;
    }

-- an atom is left, and the sums that lead behind it are numbers of 64 bits
unfoldable pub atom_left : Walk → Bool
atom_left w =
    ltb 0 w.channels && ltb (w.position + (stride_of w).bytes) (2 ^ 64) && ltb (w.index + (stride_of w).elements) (2 ^ 64)

-- byte k of an atom of elements of e bytes, its first one at an index, its channels `plane` apart: of the element of channel k / e, 0 where the elements
-- have none there; 0 past the last channel
unfoldable pub atom_byte : (e channels index plane : ℕ) → List ℤ → ℕ → ℕ
atom_byte e channels index plane raw k = cond (ltb (k / e) channels) (byte_of (get_or raw (index + k / e * plane) (pos 0)) (k % e)) 0

-- the bytes of the next atom
unfoldable pub atom_bytes : Walk → List ℤ → List ℕ
atom_bytes w raw = tabulate 32 (atom_byte (element_bytes w.precision) w.channels w.index w.plane raw)

-- step: the next atom and the walk behind it, or that none is left and the walk as it came. What the papers leave free, a step of another walk or over other
-- elements than its start's, is answered by the same rule: a missing element is 0, and where a sum would pass 64 bits none is left
unfoldable pub walk_step : Walk → List ℤ → Step
walk_step w raw =
    cond (atom_left w)
    (record { atom = Some w.position; bytes = atom_bytes w raw; walk = moved w (stride_of w) })
    (record { atom = None; bytes = replicate 32 0; walk = w })
