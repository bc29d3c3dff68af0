-- A walk over the runs toward a goal list (elements' Toward), whichever the direction: what the numbers of the runs behind it stand for has
-- reached the goal, and at its end so have all. By the order of the runs. Assumes nothing.
--     RunHas                               a run whose elements have reached the goal
--     Walked, walked-first, walked_next    the walk stands at a run
--     walked_all                           behind the last run
use Prim.Native.Nat.{ℕ, ◌*◌, ◌/◌, ◌%◌, ◌≤◌, ◌<◌}
use native.Mathlib.Omega.{arith}
use mathlib.Core.Path.{◌≡◌, ap, ◌∙◌, subst}
use mathlib.Core.Logic.{⊎_elim}
use mathlib.Core.List.{List}
use Rattle.general.proofs.Toward.{Toward, toward-refl, toward-trans}
use Rattle.weights.specs.declared.WeightLayout.{WeightLayout}
use Rattle.weights.specs.Geometry.{group_of, element_count, group_kernels, block_channels, group_at, block_at, pixel_at, in_block}
use Rattle.weights.specs.StepsPixels.{pixel_number}
use Rattle.weights.proofs.Valid.{Valid}
use Rattle.weights.proofs.OffsetLaws.{group-below, block-below, place_at, number-at}
use Rattle.weights_calls.specs.declared.runs.Run.{Run}
use Rattle.weights_calls.specs.Steps.{group_in, AtKernel, AtRun, rank_of, NextRun}
use Rattle.weights_calls.proofs.RunLaws.{run_small, group-of, first_run}
use Rattle.weights_calls.proofs.CellLaws.{OfRun}

-- `Has i l`: what the element of number i stands for in the list has reached the goal
module _ (q : WeightLayout) {A : Type 0} (d : A) (goal : List A) (Has : ℕ → List A → Type 0) where
  -- so have kernel j's channels of block b
  abbrev KernelHas : (g b j : ℕ) → List A → Type 0
  KernelHas g b j l = (t c : ℕ) → t < q.rows * q.columns → c < block_channels q b → Has (pixel_number q g b t j c) l

  -- and those of a run
  abbrev pub RunHas : Run → List A → Type 0
  RunHas x l = (j : ℕ) → OfRun q x j → KernelHas (group_in q x) x.block j l

  -- the walk stands at run x, or behind the last
  pub record Walked (before l : List A) (x : Run) : Type 0 where
    pub at : x.first < q.kernels → AtRun q x
    pub toward : Toward d goal before l
    pub has : (z : Run) → AtKernel q z → rank_of z < rank_of x → KernelHas (group_in q z) z.block z.kernel l

  module _ (ok : Valid q) where
    pub walked-first : (before : List A) → Walked before before (record { first = 0; block = 0; kernel = 0 })
    walked-first before =
        record {
          at = first_run q ok 0 (omega arith);
          toward = toward-refl d goal before;
          has = λ z a h. absurd (omega arith);
        }

    -- ..and what has reached the goal stays there
    pub walked_next : ((l₁ l₂ : List A) → Toward d goal l₁ l₂ → (i : ℕ) → Has i l₁ → Has i l₂)
        → {before l₁ l₂ : List A} (x y : Run) → AtRun q x → Walked before l₁ x → Toward d goal l₁ l₂ → RunHas x l₂ → NextRun q x y → Walked before l₂ y
    walked_next kept {l₁ = l₁} {l₂} x y a w step own next =
        record {
          at = next.at;
          toward = toward-trans d goal w.toward step;
          has = λ z b h.
              ⊎_elim
              (λ e t c ht hc. kept l₁ l₂ step _ (w.has z b e t c ht hc))
              (λ i t c ht hc. rw (i.first_is, i.block_is) (own z.kernel (rw i.first_is at b.kernel_lt, i.kernel_is) t c ht (rw i.block_is at hc)))
              (next.between z b h);
        }

    pub walked_all : {before l : List A} (x : Run) → q.kernels ≤ x.first → Walked before l x → (i : ℕ) → i < element_count q → Has i l
    walked_all {l = l} x past w i hi =
        let p = place_at q ok i hi in
        let g = group_at q i in
        let is : g * group_of q / group_of q ≡ g = group-of q ok g in
        let z : Run = record { first = g * group_of q; block = block_at q i; kernel = in_block q i / block_channels q (block_at q i) % group_kernels q g } in
        let b : AtKernel q z = record { first_lt = group-below q ok i hi; group_is = ap (λ (n : ℕ). n * group_of q) is; block_lt = block-below q ok i hi; kernel_lt = rw is p.kernel_lt } in
        let s = run_small q ok z b in
        let c = in_block q i % block_channels q (block_at q i) in
        subst (λ (n : ℕ). Has n l) (ap (λ (n : ℕ). pixel_number q n (block_at q i) (pixel_at q i) z.kernel c) is ∙ number-at q ok i hi)
        (w.has z b (omega (arith, b.first_lt, s.block_lt, s.kernel_lt)) (pixel_at q i) c p.pixel_lt p.channel_lt)
