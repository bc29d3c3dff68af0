-- A file copied part by part: the reports of its parts, one behind the other, are the report of the whole. Assumes nothing.
--     step-none, step_end, step-failed, step-more     what a step answers
--     stepped-more, stepped-failed                    and tells
--     Copying                                         the header and the reports of some parts were printed
--     copying-none, copying-more                      no part yet, and one part more
--     copied-begun, copied-end, copied-failed         the copying ends
use Prim.Native.Nat.{ℕ, ◌+◌, ◌≤◌, ◌<◌}
use native.Mathlib.Nat.{zero-add}
use native.Mathlib.Omega.{arith}
use mathlib.Core.Path.{◌≡◌, refl, sym, ap, subst, ◌∙◌}
use mathlib.Core.Bool.{true, false}
use mathlib.Core.List.{List, [], ◌++◌, flatten, append_assoc, append-nil}
use lib.Dec.{eqb}
use lib.ListN.{length, take, length-append}
use lib.Seq.{take-length, take-append-add}
use borrow.Author.Tests.{eqb-true}
use Rattle.layout.specs.declared.CubeLayout.{CubeLayout}
use Rattle.lines.specs.Sums.{checksum}
use Rattle.lines.proofs.SumLaws.{checksum-append}
use Rattle.padding.specs.Mending.{Dirt, reported}
use Rattle.padding.proofs.MendLaws.{reported-append}
use Rattle.mend_text.specs.Reports.{header, report_text}
use Rattle.mend_text.proofs.TextLaws.{report_text-append}
use Rattle.mend_io.specs.declared.printing.Printed.{Printed}
use Rattle.mend_io.specs.declared.copying.Step.{Step}
use Rattle.mend_io.specs.declared.copying.Step.TheVariants.{More, End, Failed}
use Rattle.mend_io.specs.Steps.{Shown, PartCopied, PartBroken, Stepped, Copied}

-- the header and the reports of some parts were printed, up to position `at`
pub record Copying (q : CubeLayout) (at sum : ℕ) : Type 0 where
  pub file : List ℕ
  pub position : at ≡ length file
  pub text : sum ≡ checksum 0 (header ++ report_text (reported q 0 file))

-- text printed behind the header and a report
more-text : (front : List Dirt) (sum : ℕ) (more : List Dirt) → sum ≡ checksum 0 (header ++ report_text front) → checksum sum (report_text more) ≡ checksum 0 (header ++ report_text (front ++ more))
more-text front sum more e =
    ap (λ (k : ℕ). checksum k (report_text more)) e
    ∙ sym (checksum-append (header ++ report_text front) (report_text more) 0)
    ∙ ap (checksum 0) (append_assoc header (report_text front) (report_text more) ∙ ap (λ (t : List ℕ). header ++ t) (sym (report_text-append front more)))

-- ---- one part

module _ (q : CubeLayout) (len at sum : ℕ) where
  pub step-none : Stepped q len at sum (Failed sum)
  unfolding Stepped checksum report_text flatten
  step-none = record { bytes = []; shown = 0; text = refl }

  pub step_end : Stepped q len at sum End
  unfolding Stepped
  step_end = tt

  module _ (bytes : List ℕ) {p : Printed} (s : Shown sum (reported q at bytes) p) where
    pub step-failed : Stepped q len at sum (Failed p.sum)
    unfolding Stepped
    step-failed = record { bytes = bytes; shown = s.shown; text = s.text }

    pub step-more : (n : ℕ) → p.whole ≡ true → length bytes ≡ n → 0 < n → at + n ≤ len → Stepped q len at sum (More (at + n) p.sum)
    unfolding Stepped
    step-more n w e h fits =
        record { bytes = bytes; some = omega (arith, e); next = ap (λ (k : ℕ). at + k) (sym e); within = fits; text = s.text ∙ ap (λ (l : List Dirt). checksum sum (report_text l)) (s.all w) }

  module _ {s : Step} (h : Stepped q len at sum s) where
    pub stepped-more : {to after : ℕ} → s ≡ More to after → PartCopied q len at sum to after
    unfolding Stepped
    stepped-more e = subst (Stepped q len at sum) e h

    pub stepped-failed : {after : ℕ} → s ≡ Failed after → PartBroken q at sum after
    unfolding Stepped
    stepped-failed e = subst (Stepped q len at sum) e h

-- ---- part by part

pub copying-none : (q : CubeLayout) {sum : ℕ} → sum ≡ checksum 0 header → Copying q 0 sum
unfolding reported report_text flatten
copying-none q e = record { file = []; position = refl; text = e ∙ ap (checksum 0) (sym (append-nil header)) }

module _ (q : CubeLayout) (at sum : ℕ) (c : Copying q at sum) where
  -- the report of the file with a part more
  longer : (bytes : List ℕ) → reported q 0 c.file ++ reported q at bytes ≡ reported q 0 (c.file ++ bytes)
  longer bytes = ap (λ (k : ℕ). reported q 0 c.file ++ reported q k bytes) (c.position ∙ sym (zero-add (length c.file))) ∙ sym (reported-append q 0 c.file bytes)

  pub copying-more : {len to after : ℕ} → PartCopied q len at sum to after → Copying q to after
  copying-more p =
      record {
        file = c.file ++ p.bytes;
        position = p.next ∙ ap (λ (k : ℕ). k + length p.bytes) c.position ∙ sym (length-append c.file p.bytes);
        text = p.text ∙ more-text (reported q 0 c.file) sum (reported q at p.bytes) c.text ∙ ap (λ (l : List Dirt). checksum 0 (header ++ report_text l)) (longer p.bytes);
      }

  pub copied-end : (len : ℕ) → Copied q len (record { whole = eqb at len; sum = sum })
  copied-end len =
      let all = take-length (reported q 0 c.file) in
      record {
        file = c.file;
        shown = length (reported q 0 c.file);
        text = c.text ∙ ap (λ (l : List Dirt). checksum 0 (header ++ report_text l)) (sym all);
        all = λ e. (sym c.position ∙ eqb-true at len e, all);
      }

  pub copied-failed : (len : ℕ) {after : ℕ} → PartBroken q at sum after → Copied q len (record { whole = false; sum = after })
  copied-failed len p =
      let front = reported q 0 c.file in
      let some = take p.shown (reported q at p.bytes) in
      let cut : front ++ some ≡ take (length front + p.shown) (reported q 0 (c.file ++ p.bytes)) =
      sym (take-append-add front (reported q at p.bytes) p.shown) ∙ ap (take (length front + p.shown)) (longer p.bytes) in
      record {
        file = c.file ++ p.bytes;
        shown = length front + p.shown;
        text = p.text ∙ more-text front sum some c.text ∙ ap (λ (l : List Dirt). checksum 0 (header ++ report_text l)) cut;
        all = λ e. absurd (let z : ◌≡◌ {A = ℕ} 0 1 = cc in omega arith);
      }

-- the header could not be printed
pub copied-begun : (q : CubeLayout) (len : ℕ) (p : Printed) → p.sum ≡ checksum 0 header → p.whole ≡ false → Copied q len p
unfolding reported report_text flatten
copied-begun q len p e f =
    record {
      file = [];
      shown = 0;
      text = e ∙ ap (checksum 0) (sym (append-nil header));
      all = λ t. absurd (let z : ◌≡◌ {A = ℕ} 0 1 = cc in omega arith);
    }
