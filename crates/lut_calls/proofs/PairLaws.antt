-- The counters from the samples of each pair of sides, as the code counts them. By cases on the sides, and by induction on the samples. Assumes nothing.
--     count-pairs                       the samples of a kind, by the pairs of sides
--     seen-room, seen-counted           the counters of a run
use Prim.Native.Nat.{ℕ, ◌+◌, ◌*◌, ◌≤◌}
use mathlib.Core.Path.{◌≡◌, refl}
use mathlib.Core.Bool.{cond}
use mathlib.Core.List.{List, [], ◌∷◌}
use native.Mathlib.Omega.{arith}
use lib.Dec.{eqb}
use lib.IntN.{ℤ}
use lib.ListN.{length}
use Rattle.lut.specs.declared.Kind.TheVariants.{XOnly, YOnly, Underflow, Overflow, Priority}
use Rattle.lut.specs.declared.Side.{Side}
use Rattle.lut.specs.declared.Side.TheVariants.{Below, Hit, Above}
use Rattle.lut.specs.declared.LutSettings.{LutSettings}
use Rattle.lut.specs.declared.Counters.{Counters}
use Rattle.lut.specs.Tables.{side_x, side_y}
use Rattle.lut.specs.Samples.{kind_of, kind_number, same_kind, sample_kind, count_of, counted}
use Rattle.lut.specs.Rules.{counter_sum}
use Rattle.lut_calls.specs.StepsLoop.{count_at, Tally, summed, Roomy}
use Rattle.lut_calls.proofs.PlanLaws.{side_number, pair_number}
use Rattle.lut.proofs.KindLaws.{one, count_of-sum}

-- ---- the kind of a pair of sides

pub record ByPairs (n : ℕ → ℕ) (x y underflow overflow priority : ℕ) : Type 0 where
  pub x_is : x ≡ n 3 + n 5
  pub y_is : y ≡ n 1 + n 7
  pub underflow_is : underflow ≡ n 0
  pub overflow_is : overflow ≡ n 8
  pub priority_is : priority ≡ n 2 + n 4 + n 6

abbrev Paired : Side → Side → Type 0
Paired p q =
    let k = kind_of p q in
    ByPairs (λ (n : ℕ). cond (eqb n (3 * side_number p + side_number q)) 1 0) (one XOnly k) (one YOnly k) (one Underflow k) (one Overflow k) (one Priority k)

paired : (p q : Side) → Paired p q
unfolding kind_of same_kind kind_number
paired Below Below = record { x_is = refl; y_is = refl; underflow_is = refl; overflow_is = refl; priority_is = refl }
paired Below Hit = record { x_is = refl; y_is = refl; underflow_is = refl; overflow_is = refl; priority_is = refl }
paired Below Above = record { x_is = refl; y_is = refl; underflow_is = refl; overflow_is = refl; priority_is = refl }
paired Hit Below = record { x_is = refl; y_is = refl; underflow_is = refl; overflow_is = refl; priority_is = refl }
paired Hit Hit = record { x_is = refl; y_is = refl; underflow_is = refl; overflow_is = refl; priority_is = refl }
paired Hit Above = record { x_is = refl; y_is = refl; underflow_is = refl; overflow_is = refl; priority_is = refl }
paired Above Below = record { x_is = refl; y_is = refl; underflow_is = refl; overflow_is = refl; priority_is = refl }
paired Above Hit = record { x_is = refl; y_is = refl; underflow_is = refl; overflow_is = refl; priority_is = refl }
paired Above Above = record { x_is = refl; y_is = refl; underflow_is = refl; overflow_is = refl; priority_is = refl }

module _ (s : LutSettings) where
  count-pairs : (samples : List ℤ)
      → ByPairs (λ (n : ℕ). count_at (pair_number s) n samples) (count_of s XOnly samples) (count_of s YOnly samples) (count_of s Underflow samples) (count_of s Overflow samples) (count_of s Priority samples)
  unfolding count_of count_at sample_kind
  count-pairs [] = record { x_is = refl; y_is = refl; underflow_is = refl; overflow_is = refl; priority_is = refl }
  count-pairs (x ∷ samples) =
      let h = paired (side_x s.x x) (side_y s.y x) in
      let t = count-pairs samples in
      record {
        x_is = omega (arith, h.x_is, t.x_is);
        y_is = omega (arith, h.y_is, t.y_is);
        underflow_is = omega (arith, h.underflow_is, t.underflow_is);
        overflow_is = omega (arith, h.overflow_is, t.overflow_is);
        priority_is = omega (arith, h.priority_is, t.priority_is);
      }

  -- ---- the counters of a run

  module _ (samples : List ℤ) (c : Counters) (seen : List ℕ) (tally : Tally (pair_number s) samples seen) where
    pub seen-counted : summed c seen ≡ counted s samples c
    unfolding counted
    seen-counted =
        let t = count-pairs samples in
        same
        (omega (arith, t.x_is, tally 3, tally 5))
        (omega (arith, t.y_is, tally 1, tally 7))
        (omega (arith, t.underflow_is, tally 0))
        (omega (arith, t.overflow_is, tally 8))
        (omega (arith, t.priority_is, tally 2, tally 4, tally 6))
      where
        same : {a b d e f a' b' d' e' f' : ℕ} → a ≡ a' → b ≡ b' → d ≡ d' → e ≡ e' → f ≡ f'
            → ◌≡◌ {A = Counters} (record { x = a; y = b; underflow = d; overflow = e; priority = f }) (record { x = a'; y = b'; underflow = d'; overflow = e'; priority = f' })
        same p q r u v = rw (p, q, r, u, v)

    pub seen-room : counter_sum c + length samples ≤ 4294967295 → Roomy c seen
    unfolding counter_sum
    seen-room h =
        let t = count-pairs samples in
        let all = count_of-sum s samples in
        record {
          x_room = omega (arith, t.x_is, tally 3, tally 5, all);
          y_room = omega (arith, t.y_is, tally 1, tally 7, all);
          underflow_room = omega (arith, t.underflow_is, tally 0, all);
          overflow_room = omega (arith, t.overflow_is, tally 8, all);
          priority_room = omega (arith, t.priority_is, tally 2, tally 4, tally 6, all);
        }
