-- A step from its parts, and the reply of a painting. Assumes nothing.
use Prim.Native.Nat.{ℕ}
use mathlib.Core.Path.{◌≡◌, refl, ap, ◌∙◌}
use mathlib.Core.List.{List}
use lib.IntN.{ℤ}
use Rattle.std.specs.Prelude.{Ok, Err}
use Rattle.refusal.specs.Checks.{leaves, given, quantity, Answer, Quantity}
use Rattle.regions.specs.declared.RegionTable.{RegionTable}
use Rattle.history.specs.Program.{held, Reply, reply_of, held_reply, step_with, step_of}

pub step_of-ext : {a a' : Answer} {xs xs' : List ℤ} {t t' : RegionTable} {b b' : List ℕ} → a ≡ a' → xs ≡ xs' → t ≡ t' → b ≡ b' → step_of a xs t b ≡ step_of a' xs' t' b'
step_of-ext p q r s = λ i. step_of (p i) (q i) (r i) (s i)

pub step_with-ext : {a a' : Reply} {xs : List ℤ} {t t' : RegionTable} {b b' : List ℕ} → a ≡ a' → t ≡ t' → b ≡ b' → step_with a xs t b ≡ step_with a' xs t' b'
step_with-ext {xs} p r s = λ i. step_with (p i) xs (r i) (s i)

reply-is : (a : Answer) (n : ℕ) → held_reply (quantity a n) ≡ reply_of a (held n)
unfolding leaves given
reply-is (Ok _) n = refl
reply-is (Err fault) n = refl

pub reply-of : {q : Quantity} (a : Answer) (n : ℕ) → q ≡ quantity a n → held_reply q ≡ reply_of a (held n)
reply-of a n e = ap held_reply e ∙ reply-is a n
