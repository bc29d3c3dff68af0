-- How a run ends. Assumes nothing.
--     written_none, written-broken, written-whole     a run whose frame was accepted
--     frame_answer                                     the frame's checks over a length
--     mends-failed, mends-refused, mends-written      a run whose input was readable
--     alone-end, ends-unreadable, ends-mending        a run, by its input
--     room-checks                                     the box check of the whole cube never refuses
use Prim.Native.Nat.{ℕ}
use mathlib.Core.Path.{◌≡◌, refl, sym, ap, subst, ◌∙◌}
use mathlib.Core.Bool.{true}
use mathlib.Core.Logic.{◌⊎◌, inl, inr}
use mathlib.Core.List.{List, ◌++◌}
use lib.ListN.{take}
use Rattle.std.specs.Prelude.{Option, None, Some, Ok, Err}
use Rattle.refusal.specs.declared.Fault.{Fault}
use Rattle.refusal.specs.Codes.{code_of}
use Rattle.refusal.specs.Checks.{in_order, Answer, Accepted}
use Rattle.refusal.proofs.CheckLaws.{in_order-same}
use Rattle.layout.specs.declared.CubeLayout.{CubeLayout}
use Rattle.layout.specs.Boxes.{whole_box}
use Rattle.layout.specs.Rules.{layout_checks, box_checks, room_checks}
use Rattle.layout.specs.Calls.{clear_box_answer}
use Rattle.layout.proofs.Valid.{valid}
use Rattle.layout.proofs.BoxLaws.{whole-inside}
use Rattle.layout.proofs.CallLaws.{box-accepted, box-refused}
use Rattle.lines.specs.Sums.{checksum}
use Rattle.lines.proofs.SumLaws.{checksum-append}
use Rattle.padding.specs.Mending.{Dirt, reported}
use Rattle.mend_text.specs.declared.Names.{Names}
use Rattle.mend_text.specs.Requests.{Request, meant, request_of}
use Rattle.mend_text.specs.Reports.{header, report_text, number_text, output}
use Rattle.mend_io.specs.declared.Ended.{Ended}
use Rattle.mend_io.specs.declared.printing.Printed.{Printed}
use Rattle.mend_io.specs.Ending.{Alone, Whole, BrokenOff, Checked, Ends}
use Rattle.mend_io.specs.Steps.{number_end, Copied, Written, Mends}

module _ (q : CubeLayout) (len : ℕ) (p : Printed) (c : Copied q len p) where
  pub written-broken : {e : Ended} → e ≡ number_end p.sum 24 len → Written q len e
  written-broken {e} same =
      let text = ap (λ (k : ℕ). checksum k (number_text 24)) c.text ∙ sym (checksum-append (header ++ report_text (take c.shown (reported q 0 c.file))) (number_text 24) 0) in
      subst (Written q len) (sym same) (record { read = refl; ended = inr (inr (record { file = c.file; shown = c.shown; code = refl; sum = text })) })

  pub written-whole : p.whole ≡ true → Written q len (record { code = 0; length = len; sum = p.sum })
  unfolding output
  written-whole w =
      let all = c.all w in
      record {
        read = refl;
        ended = inr (inl (record { file = c.file; all = all.0; code = refl; sum = c.text ∙ ap (λ (l : List Dirt). checksum 0 (header ++ report_text l)) all.1 }));
      }

alone : (n len : ℕ) → Alone n (number_end 0 n len)
alone n len = record { code = refl; sum = refl }

pub alone-end : {n len : ℕ} {e : Ended} → e ≡ number_end 0 n len → Alone n e
alone-end {n} {len} same = subst (Alone n) (sym same) (alone n len)

pub written_none : (q : CubeLayout) (len : ℕ) {e : Ended} → e ≡ number_end 0 24 len → Written q len e
written_none q len same = record { read = ap (λ (x : Ended). x.length) same; ended = inl (alone-end same) }

pub mends-failed : (q : CubeLayout) (len : ℕ) {e : Ended} → e ≡ number_end 0 24 len → Mends q e
mends-failed q len same = inl (alone-end same)

-- the frame's checks over a length
abbrev pub frame_answer : CubeLayout → ℕ → Answer
frame_answer q n = in_order (layout_checks q ++ room_checks q n)

module _ (q : CubeLayout) (len : ℕ) {e : Ended} where
  pub mends-refused : {f : Fault} → frame_answer q len ≡ Err f → e ≡ number_end 0 (code_of f.0) len → Mends q e
  unfolding Checked
  mends-refused {f} a same =
      let here : frame_answer q e.length ≡ Err f = ap (λ (x : Ended). frame_answer q x.length) same ∙ a in
      inr (subst (λ (x : Answer). Checked x q e) (sym here) (alone-end same))

  accepted : frame_answer q e.length ≡ Accepted → Alone 24 e ⊎ (Whole q e ⊎ BrokenOff q e) → Mends q e
  unfolding Checked
  accepted a (inl x) = inl x
  accepted a (inr x) = inr (subst (λ (y : Answer). Checked y q e) (sym a) x)

  pub mends-written : frame_answer q len ≡ Accepted → Written q len e → Mends q e
  mends-written a w = accepted (ap (frame_answer q) w.read ∙ a) w.ended

-- ---- by the input

module _ (text : List ℕ) {i : Option Names} {e : Ended} (m : meant i ≡ request_of text) where
  pub ends-unreadable : i ≡ None → Alone 24 e → Ends (request_of text) e
  unfolding Ends meant
  ends-unreadable same a = subst (λ (r : Request). Ends r e) (ap meant (sym same) ∙ m) a

  pub ends-mending : {n : Names} → i ≡ Some n → Mends n.layout e → Ends (request_of text) e
  unfolding Ends meant
  ends-mending same h = subst (λ (r : Request). Ends r e) (ap meant (sym same) ∙ m) h

-- ---- the frame's checks

whole-front : (q : CubeLayout) (a : Answer) → in_order (layout_checks q) ≡ a → in_order (box_checks q (whole_box q)) ≡ a
whole-front q (Ok _) e = sym (box-accepted q (whole_box q) e (whole-inside q (valid q e)))
whole-front q (Err f) e = sym (box-refused q (whole_box q) e)

pub room-checks : (q : CubeLayout) (len : ℕ) → clear_box_answer q (whole_box q) len ≡ in_order (layout_checks q ++ room_checks q len)
unfolding clear_box_answer
room-checks q len = in_order-same (box_checks q (whole_box q)) (layout_checks q) (room_checks q len) (in_order (layout_checks q)) (whole-front q (in_order (layout_checks q)) refl) refl
