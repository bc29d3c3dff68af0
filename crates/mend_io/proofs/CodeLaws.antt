-- The number that a run hands back, by the frame's checks over the length read. By cases on the checks. Assumes nothing.
--     ends-unreadable-24     of an input that is not readable
--     ends-code              of any other: 24, or what the checks answer
--     ends-whole             0: the checks accepted, and all was printed
--     ends-short             5: the length is too short for the frame
use Prim.Native.Nat.{ℕ, ◌+◌, ◌<◌}
use native.Mathlib.Omega.{arith}
use mathlib.Core.Path.{◌≡◌, refl, sym, ap, ◌∙◌}
use mathlib.Core.Bool.{Bool, true, false}
use mathlib.Core.Logic.{◌⊎◌, inl, inr}
use mathlib.Core.List.{List, [], ◌∷◌}
use lib.Dec.{leb, ltb}
use borrow.Author.Tests.{leb-false}
use Rattle.refusal.specs.declared.Refusal.TheVariants.{Size, Precision, CubeStrides, CubeStart, BufferLength}
use Rattle.refusal.specs.Codes.{answer_code}
use Rattle.std.specs.Prelude.{Ok, Err}
use Rattle.refusal.specs.Checks.{require_at, require, in_order, Answer, Accepted}
use Rattle.layout.specs.declared.CubeLayout.{CubeLayout}
use Rattle.layout.specs.Geometry.{cube_extent}
use Rattle.layout.specs.Rules.{sizes_valid, whole_atoms, strides_valid, layout_checks}
use Rattle.mend_text.specs.Requests.{unreadable, mending}
use Rattle.mend_io.specs.declared.Ended.{Ended}
use Rattle.mend_io.specs.Ending.{Whole, Checked, Ends}
use Rattle.mend_io.proofs.EndLaws.{frame_answer}

-- ---- the frame's checks, by their tests

abbrev five_checks : Bool → Bool → Bool → Bool → Bool → Answer
five_checks a b c d e = in_order (require Size a ∷ require Precision b ∷ require CubeStrides c ∷ require CubeStart d ∷ require BufferLength e ∷ [])

accepted-0 : (a b c d e : Bool) → answer_code (five_checks a b c d e) ≡ 0 → five_checks a b c d e ≡ Accepted
unfolding in_order require_at
accepted-0 false b c d e z = absurd (omega arith)
accepted-0 true false c d e z = absurd (omega arith)
accepted-0 true true false d e z = absurd (omega arith)
accepted-0 true true true false e z = absurd (omega arith)
accepted-0 true true true true false z = absurd (omega arith)
accepted-0 true true true true true z = refl

short-5 : (a b c d e : Bool) → answer_code (five_checks a b c d e) ≡ 5 → e ≡ false
unfolding in_order require_at
short-5 false b c d e z = absurd (omega arith)
short-5 true false c d e z = absurd (omega arith)
short-5 true true false d e z = absurd (omega arith)
short-5 true true true false e z = absurd (omega arith)
short-5 true true true true false z = refl
short-5 true true true true true z = absurd (omega arith)

module _ (q : CubeLayout) (n : ℕ) where
  frame-0 : answer_code (frame_answer q n) ≡ 0 → frame_answer q n ≡ Accepted
  unfolding layout_checks
  frame-0 =
      accepted-0 (sizes_valid q) (ltb q.precision 3) (strides_valid q.width q.height q.line q.surface) (whole_atoms q.start) (leb (q.start + cube_extent q) n)

  frame-5 : answer_code (frame_answer q n) ≡ 5 → n < q.start + cube_extent q
  unfolding layout_checks
  frame-5 z =
      leb-false (q.start + cube_extent q) n
      (short-5 (sizes_valid q) (ltb q.precision 3) (strides_valid q.width q.height q.line q.surface) (whole_atoms q.start) (leb (q.start + cube_extent q) n) z)

-- ---- the number

pub ends-unreadable-24 : (e : Ended) → Ends unreadable e → e.code ≡ 24
unfolding Ends
ends-unreadable-24 e a = a.code

module _ (q : CubeLayout) (e : Ended) where
  checked-code : (a : Answer) → Checked a q e → (e.code ≡ 24) ⊎ (e.code ≡ answer_code a)
  unfolding Checked
  checked-code (Err f) c = inr c.code
  checked-code (Ok _) (inl w) = inr w.code
  checked-code (Ok _) (inr b) = inl b.code

  checked-whole : (a : Answer) → frame_answer q e.length ≡ a → Checked a q e → e.code ≡ 0 → Whole q e
  unfolding Checked
  checked-whole (Err f) same c z =
      let taken : frame_answer q e.length ≡ Accepted = frame-0 q e.length (ap answer_code same ∙ sym c.code ∙ z) in
      absurd (let no_more : ◌≡◌ {A = ℕ} 0 1 = cc in omega arith)
  checked-whole (Ok _) same (inl w) z = w
  checked-whole (Ok _) same (inr b) z = absurd (omega (arith, b.code))

  checked-short : (a : Answer) → frame_answer q e.length ≡ a → Checked a q e → e.code ≡ 5 → e.length < q.start + cube_extent q
  unfolding Checked
  checked-short (Err f) same c z = frame-5 q e.length (ap answer_code same ∙ sym c.code ∙ z)
  checked-short (Ok _) same (inl w) z = absurd (omega (arith, w.code))
  checked-short (Ok _) same (inr b) z = absurd (omega (arith, b.code))

  module _ (first second : List ℕ) where
    pub ends-code : Ends (mending q first second) e → (e.code ≡ 24) ⊎ (e.code ≡ answer_code (frame_answer q e.length))
    unfolding Ends
    ends-code (inl a) = inl a.code
    ends-code (inr c) = checked-code (frame_answer q e.length) c

    pub ends-whole : Ends (mending q first second) e → e.code ≡ 0 → Whole q e
    unfolding Ends
    ends-whole (inl a) z = absurd (omega (arith, a.code))
    ends-whole (inr c) z = checked-whole (frame_answer q e.length) refl c z

    pub ends-short : Ends (mending q first second) e → e.code ≡ 5 → e.length < q.start + cube_extent q
    unfolding Ends
    ends-short (inl a) z = absurd (omega (arith, a.code))
    ends-short (inr c) z = checked-short (frame_answer q e.length) refl c z
