-- Lists that come nearer to a goal list: every entry is as it was or as it is in the goal. Steps compose, and
-- an entry that has reached the goal stays there, so what a nest of loops leaves is known from the entries that it reached. Assumes nothing.
--     Toward            a list after such steps
--     toward-refl, toward-trans     no step; steps after steps
--     reached-kept      an entry that has reached the goal stays there
use Prim.Native.Nat.{ℕ}
use mathlib.Core.Path.{◌≡◌, refl, ◌∙◌}
use mathlib.Core.Logic.{◌⊎◌, inl, inr, ⊎_elim}
use mathlib.Core.List.{List}
use lib.ListN.{length, get_or}

module _ {A : Type 0} (d : A) (goal : List A) where
  -- from `before` to `after` every entry stays or reaches the goal's
  pub record Toward (before after : List A) : Type 0 where
    pub long : length after ≡ length before
    pub each : (p : ℕ) → (get_or after p d ≡ get_or before p d) ⊎ (get_or after p d ≡ get_or goal p d)

  pub toward-refl : (l : List A) → Toward l l
  toward-refl l = record { long = refl; each = λ p. inl refl }

  pub toward-trans : {l₁ l₂ l₃ : List A} → Toward l₁ l₂ → Toward l₂ l₃ → Toward l₁ l₃
  toward-trans {l₁} {l₂} {l₃} a b =
      record {
        long = b.long ∙ a.long;
        each = λ p. ⊎_elim (λ i. ⊎_elim (λ j. inl (i ∙ j)) (λ j. inr (i ∙ j)) (a.each p)) (λ i. inr i) (b.each p);
      }

  pub reached-kept : {l₁ l₂ : List A} → Toward l₁ l₂ → (p : ℕ) → get_or l₁ p d ≡ get_or goal p d → get_or l₂ p d ≡ get_or goal p d
  reached-kept a p e = ⊎_elim (λ i. i ∙ e) (λ i. i) (a.each p)
