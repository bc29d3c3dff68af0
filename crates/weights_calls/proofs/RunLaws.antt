-- Runs (specs/Steps.antt): their digits, and the run behind a run. By cases on the group. Assumes nothing.
--     Small, run_small                        a run's digits are small
--     group-of, first_run, kernels-of         the first kernel of a group, its run, and its kernels
--     next-whole, next-kernel, next-block, next-group     the run behind a run
--     next-less                               a walk comes to its end
use Prim.Native.Nat.{ℕ, ◌+◌, ◌-◌, ◌*◌, ◌/◌, ◌^◌, ◌≤◌, ◌<◌, min}
use native.Mathlib.Nat.{eq-or-lt_of_le, mul-le-mul_right, lt_of_mul-lt-mul_right}
use native.Mathlib.Decide.{ℕ_discrete}
use native.Mathlib.Omega.{arith}
use mathlib.Core.Path.{◌≡◌, refl, sym, ap, ◌∙◌}
use mathlib.Core.Logic.{◌⊎◌, inl, inr, ⊎_elim}
use lib.Arith.{digits_div}
use Rattle.weights.specs.declared.WeightLayout.{WeightLayout}
use Rattle.weights_calls.specs.declared.runs.Run.{Run}
use Rattle.weights.specs.Geometry.{group_of, group_kernels}
use Rattle.weights_calls.specs.Steps.{group_in, AtKernel, AtRun, InRun, rank_of, NextRun}
use Rattle.weights.proofs.Valid.{Valid}
use Rattle.weights.proofs.NumberLaws.{group_size-pos, group_size-le}

module _ (q : WeightLayout) (ok : Valid q) where
  -- a kernel's digits
  pub record Small (x : Run) : Type 0 where
    pub block_lt : x.block < 128
    pub kernel_lt : x.kernel < 32
    pub kernel_in : x.first + x.kernel < q.kernels

  pub run_small : (x : Run) → AtKernel q x → Small x
  unfolding group_kernels
  run_small x a =
      record {
        block_lt = omega (arith, a.block_lt, ok.channels.most_le);
        kernel_lt = omega (arith, a.kernel_lt, group_size-le q.precision);
        kernel_in = omega (arith, a.kernel_lt, a.group_is);
      }

  -- the first kernel of group g
  pub group-of : (g : ℕ) → g * group_of q / group_of q ≡ g
  group-of g =
      let none : g * group_of q ≡ g * group_of q + 0 = omega arith in
      ap (λ (n : ℕ). n / group_of q) none ∙ digits_div g (group_size-pos q.precision)

  pub first_run : {n : ℕ} (g : ℕ) → n ≡ g * group_of q → n < q.kernels → AtRun q (record { first = n; block = 0; kernel = 0 })
  unfolding group_kernels
  first_run g e h =
      let is : group_in q (record { first = g * group_of q; block = 0; kernel = 0 }) * group_of q ≡ g * group_of q = ap (λ (k : ℕ). k * group_of q) (group-of g) in
      rw e (record {
        here = record { first_lt = omega (arith, e); group_is = is; block_lt = omega (arith, ok.channels.some); kernel_lt = omega (arith, e, h, is, group_size-pos q.precision) };
        alone = λ _. refl;
      })

  pub kernels-of : (x : Run) → AtKernel q x → min (group_of q) (q.kernels - x.first) ≡ group_kernels q (group_in q x)
  unfolding group_kernels
  kernels-of x a = ap (λ (n : ℕ). min (group_of q) (q.kernels - n)) (sym a.group_is)

  -- runs of one group have as many kernels
  kernels_le : (x z : Run) → AtKernel q z → group_kernels q (group_in q x) ≤ x.kernel + 1 → z.first ≡ x.first → z.kernel ≤ x.kernel
  kernels_le x z a h e = omega (arith, a.kernel_lt, ap (λ (n : ℕ). group_kernels q (n / group_of q)) e)

  module _ (x : Run) (a : AtRun q x) where
    -- up to the run itself
    up_to : (z : Run) → AtKernel q z → rank_of z ≤ rank_of x → (rank_of z < rank_of x) ⊎ InRun q x z
    up_to z b h =
        let sx = run_small x a.here in
        let sz = run_small z b in
        ⊎_elim
        (λ e. inr (record {
          first_is = omega (arith, sx.block_lt, sx.kernel_lt, sz.block_lt, sz.kernel_lt);
          block_is = omega (arith, sx.block_lt, sx.kernel_lt, sz.block_lt, sz.kernel_lt);
          kernel_is = λ _. omega (arith, sx.block_lt, sx.kernel_lt, sz.block_lt, sz.kernel_lt);
        }))
        inl (eq-or-lt_of_le h)

    -- no group begins between this one and the next
    no-group : (z : Run) → AtKernel q z → rank_of z < rank_of (record { first = x.first + group_of q; block = 0; kernel = 0 }) → z.first ≤ x.first
    no-group z b h =
        let sz = run_small z b in
        let below : group_in q z < group_in q x + 1 = lt_of_mul-lt-mul_right (group_of q) (omega (arith, b.group_is, a.here.group_is)) in
        omega (arith, mul-le-mul_right {m = group_in q z} {n = group_in q x} (group_of q) (omega arith), b.group_is, a.here.group_is)

    behind : x.first + group_of q < q.kernels → AtRun q (record { first = x.first + group_of q; block = 0; kernel = 0 })
    behind = first_run (group_in q x + 1) (omega (arith, a.here.group_is))

    -- where the tensor has one block: the next group
    pub next-whole : q.channels ≤ 64 → NextRun q x (record { first = x.first + group_of q; block = 0; kernel = 0 })
    next-whole h =
        let none = a.alone h in
        record {
          later = omega (arith, a.here.block_lt, none, group_size-pos q.precision);
          between = λ z b l. (let sz = run_small z b in
              elim (ℕ_discrete z.first x.first) [
                | yes e ↦ inr (record { first_is = e; block_is = omega (arith, b.block_lt, a.here.block_lt); kernel_is = λ m. absurd (omega arith) })
                | no f ↦ inl (omega (arith, no-group z b l, sz.kernel_lt, sz.block_lt, f))
              ]);
          at = behind;
        }

    module _ (more : 64 < q.channels) where
      pub next-kernel : x.kernel + 1 < group_kernels q (group_in q x) → NextRun q x (record { first = x.first; block = x.block; kernel = x.kernel + 1 })
      next-kernel h =
          record {
            later = omega arith;
            between = λ z b l. up_to z b (omega arith);
            at = λ _. record { here = record { first_lt = a.here.first_lt; group_is = a.here.group_is; block_lt = a.here.block_lt; kernel_lt = h }; alone = λ m. absurd (omega arith) };
          }

      module _ (last : group_kernels q (group_in q x) ≤ x.kernel + 1) where
        pub next-block : (x.block + 1) * 64 < q.channels → NextRun q x (record { first = x.first; block = x.block + 1; kernel = 0 })
        next-block h =
            let sx = run_small x a.here in
            record {
              later = omega (arith, sx.kernel_lt);
              between = λ z b l. (let sz = run_small z b in
                  up_to z b (elim (ℕ_discrete z.first x.first) [
                    | yes e ↦ omega (arith, kernels_le x z b last e, sz.kernel_lt)
                    | no f ↦ omega (arith, sz.kernel_lt, sz.block_lt, h, ok.channels.most_le, f)
                  ]));
              at = λ _. record { here = record { first_lt = a.here.first_lt; group_is = a.here.group_is; block_lt = h; kernel_lt = omega (arith, a.here.kernel_lt) }; alone = λ _. refl };
            }

        pub next-group : q.channels ≤ (x.block + 1) * 64 → NextRun q x (record { first = x.first + group_of q; block = 0; kernel = 0 })
        next-group h =
            let sx = run_small x a.here in
            record {
              later = omega (arith, sx.kernel_lt, sx.block_lt, group_size-pos q.precision);
              between = λ z b l. (let sz = run_small z b in
                  up_to z b (elim (ℕ_discrete z.first x.first) [
                    | yes e ↦ omega (arith, kernels_le x z b last e, sz.kernel_lt, b.block_lt)
                    | no f ↦ omega (arith, no-group z b l, sz.kernel_lt, sz.block_lt, f)
                  ]));
              at = behind;
            }

  -- so that a walk comes to its end
  pub next-less : (x y : Run) → AtRun q x → NextRun q x y → 2 ^ 25 - rank_of y < 2 ^ 25 - rank_of x
  next-less x y a next = let s = run_small x a.here in omega (arith, next.later, s.kernel_in, ok.kernels.most_le, s.block_lt, s.kernel_lt)
