-- Two texts compared byte by byte, and a list with 0 behind it. By induction on the text. Assumes nothing.
--     same_text-is     it is what `==` says of the texts
--     padded-set       one element more, and 0 behind it
use Prim.Native.Nat.{ℕ, suc, ◌-◌, ◌<◌}
use mathlib.Core.Path.{◌≡◌, refl, sym, ap, ◌∙◌}
use mathlib.Core.Bool.{Bool, ◌&&◌}
use mathlib.Core.List.{List, [], ◌∷◌, ◌++◌, append_assoc}
use native.Mathlib.Omega.{arith}
use lib.Dec.{eqb}
use lib.ListN.{length, set, replicate, length-append}
use lib.Seq.{set_at}
use Rattle.std.specs.Cmp.Lexicographic.{pointwise}
use Rattle.lines.specs.Texts.{padded, same_text}

pub padded-set : (size : ℕ) (l : List ℕ) (v : ℕ) → length l < size → set (padded size l) (length l) v ≡ padded size (l ++ v ∷ [])
padded-set size l v h =
    let n = size - length (l ++ v ∷ []) in
    let more : size - length l ≡ suc n = omega (arith, length-append l (v ∷ [])) in
    rw more (set_at l 0 (replicate n 0) v (length l) refl ∙ sym (append_assoc l (v ∷ []) (replicate n 0)))

pub same_text-is : (s t : List ℕ) → pointwise eqb s t ≡ same_text s t
unfolding same_text
same_text-is [] [] = refl
same_text-is [] (b ∷ t) = refl
same_text-is (a ∷ s) [] = refl
same_text-is (a ∷ s) (b ∷ t) = ap (λ (r : Bool). eqb a b && r) (same_text-is s t)
