-- `mend_text::read_input` meets its contract, by the ends of the first three lines. Assumes nothing.
use Prim.Native.Nat.{ℕ, ◌+◌, ◌≤◌, ◌<◌, zero-le}
use native.Mathlib.Omega.{arith}
use borrow.Author.Rules.{rules}
use mathlib.Core.Path.{◌≡◌, refl, sym, ap, ◌∙◌}
use mathlib.Core.List.{List}
use Rattle.std.specs.Prelude.{Option}
use lib.ListN.{length, drop}
use lib.Seq.{slice, length-take-le}
use Rattle.lines.specs.Texts.{part_length}
use Rattle.records.specs.declared.Record.{Record}
use Rattle.mend_text.specs.Requests.{with_names, meant, Placed}
use Rattle.mend_text.proofs.InputLaws.{line-within, request-one, request-two, request-more, request-three}
use Rattle.mend_text.proofs.NameLaws.{part_slice, stands}
use Rattle.mend_text.proofs.read_input.Goals as goal

-- a line that does not end with the text ends in it
ends-in : (text : List ℕ) (from to : ℕ) → from ≤ length text → to ≡ from + part_length 10 (drop from text) → (to ≡ length text → ⊥) → to < length text
ends-in text from to h e n = omega (arith, (line-within text from to h e).1, n)

pub returns-then-a-text : goal.returns-then-a-text
unfolding meant Placed
returns-then-a-text c =
    record {
      asked = request-one c.args.text.now c.line_end-a.result c.line_end-a.ensures (omega (arith, c.if-a-text.true));
      placed = tt;
    }

pub overflow_add-a : goal.overflow_add-a
overflow_add-a c = omega (arith, ends-in c.args.text.now 0 c.line_end-a.result zero-le c.line_end-a.ensures c.if-a-text.false)

pub line_end-b-requires : goal.line_end-b-requires
line_end-b-requires c = omega (arith, ends-in c.args.text.now 0 c.line_end-a.result zero-le c.line_end-a.ensures c.if-a-text.false)

pub returns-then-b-text : goal.returns-then-b-text
unfolding meant Placed
returns-then-b-text c =
    let text = c.args.text.now in
    let first = ends-in text 0 c.line_end-a.result zero-le c.line_end-a.ensures c.if-a-text.false in
    record {
      asked = request-two text c.line_end-a.result c.line_end-a.ensures first c.line_end-b.result c.line_end-b.ensures (omega (arith, c.if-b-text.true));
      placed = tt;
    }

pub overflow_add-b : goal.overflow_add-b
overflow_add-b c =
    let text = c.args.text.now in
    let first = ends-in text 0 c.line_end-a.result zero-le c.line_end-a.ensures c.if-a-text.false in
    omega (arith, ends-in text (c.line_end-a.result + 1) c.line_end-b.result (omega (arith, first)) c.line_end-b.ensures c.if-b-text.false)

pub line_end-c-requires : goal.line_end-c-requires
line_end-c-requires c =
    let text = c.args.text.now in
    let first = ends-in text 0 c.line_end-a.result zero-le c.line_end-a.ensures c.if-a-text.false in
    omega (arith, ends-in text (c.line_end-a.result + 1) c.line_end-b.result (omega (arith, first)) c.line_end-b.ensures c.if-b-text.false)

pub overflow_add-c : goal.overflow_add-c
overflow_add-c c =
    let text = c.args.text.now in
    let first = ends-in text 0 c.line_end-a.result zero-le c.line_end-a.ensures c.if-a-text.false in
    let second = ends-in text (c.line_end-a.result + 1) c.line_end-b.result (omega (arith, first)) c.line_end-b.ensures c.if-b-text.false in
    omega (arith, (line-within text (c.line_end-b.result + 1) c.line_end-c.result (omega (arith, second)) c.line_end-c.ensures).1)

pub returns-then-c-text : goal.returns-then-c-text
unfolding meant Placed
returns-then-c-text c =
    let text = c.args.text.now in
    let first = ends-in text 0 c.line_end-a.result zero-le c.line_end-a.ensures c.if-a-text.false in
    let second = ends-in text (c.line_end-a.result + 1) c.line_end-b.result (omega (arith, first)) c.line_end-b.ensures c.if-b-text.false in
    record {
      asked = request-more text c.line_end-a.result c.line_end-a.ensures first c.line_end-b.result c.line_end-b.ensures second
          c.line_end-c.result c.line_end-c.ensures c.if-c-text.true;
      placed = tt;
    }

pub slice_bounds-read-end : goal.slice_bounds-read-end
slice_bounds-read-end c =
    let first = ends-in c.args.text.now 0 c.line_end-a.result zero-le c.line_end-a.ensures c.if-a-text.false in
    sym (length-take-le _ _ (omega (arith, first)))

pub slice_bounds-with_names-end : goal.slice_bounds-with_names-end
slice_bounds-with_names-end c =
    let text = c.args.text.now in
    let a = c.line_end-a.result in
    let b = c.line_end-b.result in
    let first = ends-in text 0 a zero-le c.line_end-a.ensures c.if-a-text.false in
    let second : b < length text = ends-in text (a + 1) b (omega (arith, first)) c.line_end-b.ensures c.if-b-text.false in
    let within : a + 1 ≤ b = (line-within text (a + 1) b (omega (arith, first)) c.line_end-b.ensures).0 in
    search rules

pub slice_bounds-with_names-end-2 : goal.slice_bounds-with_names-end-2
slice_bounds-with_names-end-2 c =
    let text = c.args.text.now in
    let a = c.line_end-a.result in
    let b = c.line_end-b.result in
    let first = ends-in text 0 a zero-le c.line_end-a.ensures c.if-a-text.false in
    let second : b < length text = ends-in text (a + 1) b (omega (arith, first)) c.line_end-b.ensures c.if-b-text.false in
    let third = line-within text (b + 1) c.line_end-c.result (omega (arith, second)) c.line_end-c.ensures in
    let past : b + 1 ≤ c.line_end-c.result = third.0 in
    let inside : c.line_end-c.result ≤ length text = third.1 in
    search rules

pub returns : goal.returns
returns c =
    let text = c.args.text.now in
    let a = c.line_end-a.result in
    let b = c.line_end-b.result in
    let first = ends-in text 0 a zero-le c.line_end-a.ensures c.if-a-text.false in
    let second = ends-in text (a + 1) b (omega (arith, first)) c.line_end-b.ensures c.if-b-text.false in
    let c-end = c.line_end-c.result in
    let within : a + 1 ≤ b = (line-within text (a + 1) b (omega (arith, first)) c.line_end-b.ensures).0 in
    let third = line-within text (b + 1) c-end (omega (arith, second)) c.line_end-c.ensures in
    let past : b + 1 ≤ c-end = third.0 in
    record {
      asked = c.with_names.ensures.asked
          ∙ rw (part_slice text (a + 1) b within, part_slice text (b + 1) c-end past)
          (ap (λ (r : Option Record). with_names r (slice (a + 1) b text) (slice (b + 1) c-end text)) c.read.ensures
          ∙ request-three text a c.line_end-a.ensures first b c.line_end-b.ensures second c-end c.line_end-c.ensures c.if-c-text.false);
      placed = c.with_names.ensures.placed text (stands text _ (a + 1) b within (omega (arith, second)) refl) (stands text _ (b + 1) c-end past third.1 refl);
    }
