-- A box cleared strip by strip, from its first column on. Assumes nothing.
--     strip-accepted          a strip of a box that may be cleared may be cleared
--     cleared_to              the first columns of the box cleared: none, all, and those of a further strip
use Prim.Native.Nat.{ℕ, ◌+◌, ◌-◌, ◌≤◌, ◌<◌, min}
use native.Mathlib.Omega.{arith}
use mathlib.Core.Path.{◌≡◌, sym, ap, ◌∙◌}
use mathlib.Core.Bool.{false}
use mathlib.Core.List.{List}
use lib.ListN.{replicate, get_or-replicate}
use lib.IntN.{ℤ, pos}
use Rattle.refusal.specs.Checks.{Accepted}
use Rattle.layout.specs.declared.CubeLayout.{CubeLayout}
use Rattle.layout.specs.declared.ElementBox.{ElementBox}
use Rattle.layout.specs.Boxes.{box_index, box_count}
use Rattle.layout.specs.Contents.{edited, zeros_of}
use Rattle.layout.specs.Calls.{clear_box_answer}
use Rattle.layout.proofs.BoxLaws.{BoxValid, valid-box, box_index-lt}
use Rattle.layout.proofs.CallLaws.{box-layout, box-accepted, clear-valid, clear-front, clear-admitted}
use Rattle.layout.proofs.JoinLaws.{Gives, strip, strip-valid, columns-join, no-columns, strip-all, edited-join, edited-none}
use Rattle.cube.specs.Steps.{gathered, box_written}
use Rattle.cube.proofs.GatherLaws.{gathered-zeros}

-- zeros have 0 at every element
zeros-give : (box : ElementBox) → Gives (λ (c h w : ℕ). pos 0) box (zeros_of box)
zeros-give box c h w i = get_or-replicate (box_count box) (box_index box c h w) (pos 0) (pos 0) (box_index-lt box c h w i)

module _ (q : CubeLayout) (box : ElementBox) where
  pub strip-accepted : (len : ℕ) → clear_box_answer q box len ≡ Accepted → (first count : ℕ) → 0 < count → first + count ≤ box.columns → clear_box_answer q (strip box first count) len ≡ Accepted
  strip-accepted len a first count some fit =
      let d = clear-admitted q box len a in
      let s = strip box first count in
      sym (clear-valid q s len (sym (box-accepted q s (box-layout q box (clear-front q box len a)) (valid-box q s (strip-valid box q d.inside first count some fit)))) d.room)

  -- the first `done` columns cleared, or all where these are fewer
  abbrev pub cleared_to : (before : List ℕ) (done : ℕ) → List ℕ
  cleared_to before done = edited q (strip box 0 (min done box.columns)) (zeros_of (strip box 0 (min done box.columns))) before

  to-columns : (before : List ℕ) (done n : ℕ) → min done box.columns ≡ n → cleared_to before done ≡ edited q (strip box 0 n) (zeros_of (strip box 0 n)) before
  to-columns before done n e = ap (λ (x : ℕ). edited q (strip box 0 x) (zeros_of (strip box 0 x)) before) e

  pub cleared-none : (before : List ℕ) → cleared_to before 0 ≡ before
  cleared-none before = to-columns before 0 0 (omega arith) ∙ edited-none (strip box 0 0) (zeros_of (strip box 0 0)) (no-columns box) q before

  pub cleared-all : (before : List ℕ) (done : ℕ) → box.columns ≤ done → cleared_to before done ≡ edited q box (zeros_of box) before
  cleared-all before done h = to-columns before done box.columns (omega arith) ∙ ap (λ (b : ElementBox). edited q b (zeros_of b) before) (strip-all box)

  -- the same k zeros written to each run of the next strip
  pub cleared-next : BoxValid q box → (done width k : ℕ) → done < box.columns → 0 < k → width ≡ min (box.columns - done) k → (before : List ℕ) {buf after : List ℕ}
      → buf ≡ cleared_to before done
      → after ≡ box_written q (strip box done width) false (gathered (strip box done width) 0 0 (replicate k (pos 0))) buf
      → after ≡ cleared_to before (done + k)
  unfolding box_written
  cleared-next t done width k more some is before {buf} {after} e w =
      let l = strip box 0 done in
      let s = strip box done width in
      let all = strip box 0 (done + width) in
      w
      ∙ ap (λ (ys : List ℤ). edited q s ys buf) (gathered-zeros q s (strip-valid box q t done width (omega arith) (omega arith)) k (omega arith))
      ∙ ap (edited q s (zeros_of s)) (e ∙ to-columns before done done (omega arith))
      ∙ edited-join (λ (c h w : ℕ). pos 0) l s all (zeros_of l) (zeros_of s) (zeros_of all) (columns-join box done width) (zeros-give l) (zeros-give s) (zeros-give all) q before
      ∙ sym (to-columns before (done + k) (done + width) (omega arith))
