-- The checks of mending (specs/Calls.antt), one after another. By the laws of checks made in order. Assumes nothing.
--     part-refused, report-refused, both-accepted           the part and the report, each answer from the first test that fails
--     mend-refused, mend-short, mend-framed                 all checks: the frame refused, too long for the file, or taken
--     Mendable, mendable, mend-accepted                     what an accepted call tells, and back
use Prim.Native.Nat.{ℕ, ◌+◌, ◌≤◌, ◌<◌}
use mathlib.Core.Path.{◌≡◌, ◌∙◌}
use mathlib.Core.Bool.{true, false, ◌&&◌}
use mathlib.Core.List.{List, [], ◌++◌}
use lib.Dec.{leb}
use borrow.Author.Tests.{le-leb, lt-leb, leb-true}
use Rattle.general.proofs.TestLaws.{and_left, and_right, and_both}
use Rattle.refusal.specs.declared.Fault.{Fault}
use Rattle.refusal.specs.declared.Refusal.TheVariants.{BufferLength, OutputLength}
use Rattle.std.specs.Prelude.{Err}
use Rattle.refusal.specs.Checks.{in_order, Answer, Accepted, Refused}
use Rattle.refusal.proofs.CheckLaws.{in_order-nil, in_order-next, in_order-stop, in_order-passed, in_order-refused, in_order-front, in_order-back, in_order-held, in_order-rest}
use Rattle.layout.specs.declared.CubeLayout.{CubeLayout}
use Rattle.layout.specs.Geometry.{cube_extent}
use Rattle.layout.specs.Rules.{layout_checks, room_checks}
use Rattle.padding.specs.Calls.{part_checks, report_checks, mend_checks}

-- ---- the part and the report

module _ (first len n positions olds : ℕ) where
  abbrev both : List Answer
  both = part_checks first len n ++ report_checks n positions olds

  pub part-refused : leb (first + n) len ≡ false → in_order both ≡ Refused BufferLength 0
  part-refused e = in_order-stop 0 BufferLength (report_checks n positions olds) e

  module _ (inside : leb (first + n) len ≡ true) where
    part-passed : in_order both ≡ in_order (report_checks n positions olds)
    part-passed = in_order-next 0 BufferLength (report_checks n positions olds) inside

    pub report-refused : (leb n positions && leb n olds) ≡ false → in_order both ≡ Refused OutputLength 0
    report-refused e = part-passed ∙ in_order-stop 0 OutputLength [] e

    pub both-accepted : (leb n positions && leb n olds) ≡ true → in_order both ≡ Accepted
    both-accepted e = part-passed ∙ in_order-next 0 OutputLength [] e ∙ in_order-nil

-- ---- all checks

module _ (q : CubeLayout) (first len n positions olds : ℕ) where
  -- what an accepted call tells
  pub record Mendable : Type 0 where
    pub layout_ok : in_order (layout_checks q) ≡ Accepted
    pub room_le : q.start + cube_extent q ≤ len
    pub part_le : first + n ≤ len
    pub positions_ge : n ≤ positions
    pub olds_ge : n ≤ olds

  abbrev frame : List Answer
  frame = layout_checks q ++ room_checks q len

  pub mend-refused : (f : Fault) → in_order (layout_checks q) ≡ Err f → in_order (mend_checks q first len n positions olds) ≡ Err f
  unfolding mend_checks
  mend-refused f e = in_order-refused frame (both first len n positions olds) (in_order-refused (layout_checks q) (room_checks q len) e)

  pub mend-short : in_order (layout_checks q) ≡ Accepted → len < q.start + cube_extent q → in_order (mend_checks q first len n positions olds) ≡ Refused BufferLength 0
  unfolding mend_checks
  mend-short ok h =
      in_order-refused frame (both first len n positions olds) (in_order-passed (layout_checks q) (room_checks q len) ok ∙ in_order-stop 0 BufferLength [] (lt-leb (q.start + cube_extent q) len h))

  -- the frame is valid and in the file: the part and the report decide
  pub mend-framed : in_order (layout_checks q) ≡ Accepted → q.start + cube_extent q ≤ len → in_order (mend_checks q first len n positions olds) ≡ in_order (both first len n positions olds)
  unfolding mend_checks
  mend-framed ok h =
      in_order-passed frame (both first len n positions olds)
      (in_order-passed (layout_checks q) (room_checks q len) ok ∙ in_order-next 0 BufferLength [] (le-leb (q.start + cube_extent q) len h) ∙ in_order-nil)

  pub mend-accepted : Mendable → in_order (mend_checks q first len n positions olds) ≡ Accepted
  mend-accepted m =
      mend-framed m.layout_ok m.room_le
      ∙ both-accepted first len n positions olds (le-leb (first + n) len m.part_le) (and_both (le-leb n positions m.positions_ge) (le-leb n olds m.olds_ge))

  pub mendable : in_order (mend_checks q first len n positions olds) ≡ Accepted → Mendable
  unfolding mend_checks
  mendable e =
      let framed = in_order-front frame (both first len n positions olds) e in
      let parted = in_order-back frame (both first len n positions olds) e in
      let report = in_order-held 0 OutputLength (leb n positions && leb n olds) [] (in_order-rest 0 BufferLength (leb (first + n) len) (report_checks n positions olds) parted) in
      record {
        layout_ok = in_order-front (layout_checks q) (room_checks q len) framed;
        room_le = leb-true (q.start + cube_extent q) len (in_order-held 0 BufferLength (leb (q.start + cube_extent q) len) [] (in_order-back (layout_checks q) (room_checks q len) framed));
        part_le = leb-true (first + n) len (in_order-held 0 BufferLength (leb (first + n) len) (report_checks n positions olds) parted);
        positions_ge = leb-true n positions (and_left (leb n positions) (leb n olds) report);
        olds_ge = leb-true n olds (and_right (leb n positions) (leb n olds) report);
      }
