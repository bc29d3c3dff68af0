-- Laws of checks made in order. By induction on the list of checks. Assumes nothing.
--     refused-same                          two refusals that are the same
--     require_at-true, require_at-false     what one check answers
--     in_order-next, in_order-stop          the first check of a list held, or failed
--     in_order-passed, in_order-refused     the first part of a list passed, or was refused
--     in_order-same, in_order-then          two first parts with one answer, and two last parts
--     in_order-held, in_order-rest          an accepted list: its first check held, and the rest is accepted
--     in_order-all, require_at-held         an accepted list: every check held
--     leaves-done, leaves-before          what a call leaves, by its answer
--     leaves-ap, leaves-same              a part of what a call leaves
--     given-accepted, given-refused       what a call gives, by its answer
--     given-ok, given-err                 a value was given: the call was accepted, and it is its value; or it was refused so
--     handed-on                           what `?` returns where a call was refused
use Prim.Native.Nat.{ℕ}
use native.Mathlib.Omega.{arith}
use mathlib.Core.Path.{◌≡◌, refl, sym, ap, ◌∙◌}
use mathlib.Core.Bool.{Bool, true, false}
use mathlib.Core.List.{List, [], ◌∷◌, ◌++◌}
use Rattle.std.specs.Prelude.{Result, Ok, Err}
use Rattle.std.specs.Result.{IsErrAnd}
use Rattle.std.proofs.lemmas.Result.{err_from_is_err_and}
use Rattle.refusal.specs.declared.Refusal.{Refusal}
use Rattle.refusal.specs.declared.Fault.{Fault}
use Rattle.refusal.specs.Checks.{Answer, Accepted, Refused, refused_at, require_at, in_order, leaves, given}

-- one refusal: its number and its index
pub refused-same : {r r' : Refusal} {i i' : ℕ} → Refused r i ≡ Refused r' i' → (r ≡ r') × (i ≡ i')
refused-same {r} {r'} {i} {i'} e =
    let same : ◌≡◌ {A = Fault} (refused_at i r) (refused_at i' r') = cc e in (ap (λ (f : Fault). f.0) same, ap (λ (f : Fault). f.1) same)

pub require_at-true : (i : ℕ) (r : Refusal) {b : Bool} → b ≡ true → require_at i r b ≡ Accepted
unfolding require_at
require_at-true i r e = rw e

pub require_at-false : (i : ℕ) (r : Refusal) {b : Bool} → b ≡ false → require_at i r b ≡ Refused r i
unfolding require_at
require_at-false i r e = rw e

pub in_order-nil : in_order [] ≡ Accepted
unfolding in_order
in_order-nil = refl

pub in_order-accepted : {a : Answer} (rest : List Answer) → a ≡ Accepted → in_order (a ∷ rest) ≡ in_order rest
unfolding in_order
in_order-accepted rest e = rw e

pub in_order-first : {a : Answer} {f : Fault} (rest : List Answer) → a ≡ Err f → in_order (a ∷ rest) ≡ Err f
unfolding in_order
in_order-first rest e = rw e

pub in_order-next : (i : ℕ) (r : Refusal) {b : Bool} (rest : List Answer) → b ≡ true → in_order (require_at i r b ∷ rest) ≡ in_order rest
in_order-next i r rest e = in_order-accepted rest (require_at-true i r e)

pub in_order-stop : (i : ℕ) (r : Refusal) {b : Bool} (rest : List Answer) → b ≡ false → in_order (require_at i r b ∷ rest) ≡ Refused r i
in_order-stop i r rest e = in_order-first rest (require_at-false i r e)

pub in_order-passed : (xs ys : List Answer) → in_order xs ≡ Accepted → in_order (xs ++ ys) ≡ in_order ys
unfolding in_order
in_order-passed [] ys e = refl
in_order-passed (Ok _ ∷ xs) ys e = in_order-passed xs ys e
in_order-passed (Err f ∷ xs) ys e = let z : ◌≡◌ {A = Answer} (in_order ys) (Err f) = cc in sym z

pub in_order-refused : (xs ys : List Answer) {f : Fault} → in_order xs ≡ Err f → in_order (xs ++ ys) ≡ Err f
unfolding in_order
in_order-refused [] ys {f} e = cc
in_order-refused (Ok _ ∷ xs) ys e = in_order-refused xs ys e
in_order-refused (Err f' ∷ xs) ys e = e

pub in_order-held : (i : ℕ) (r : Refusal) (b : Bool) (rest : List Answer) → in_order (require_at i r b ∷ rest) ≡ Accepted → b ≡ true
unfolding in_order require_at
in_order-held i r true rest e = refl
in_order-held i r false rest e = cc

pub in_order-rest : (i : ℕ) (r : Refusal) (b : Bool) (rest : List Answer) → in_order (require_at i r b ∷ rest) ≡ Accepted → in_order rest ≡ Accepted
unfolding in_order require_at
in_order-rest i r true rest e = e
in_order-rest i r false rest e = cc

pub in_order-front : (xs ys : List Answer) → in_order (xs ++ ys) ≡ Accepted → in_order xs ≡ Accepted
unfolding in_order
in_order-front [] ys e = refl
in_order-front (Ok _ ∷ xs) ys e = in_order-front xs ys e
in_order-front (Err f ∷ xs) ys e = e

pub in_order-back : (xs ys : List Answer) → in_order (xs ++ ys) ≡ Accepted → in_order ys ≡ Accepted
in_order-back xs ys e = sym (in_order-passed xs ys (in_order-front xs ys e)) ∙ e

-- two lists of checks with one answer, followed by the same checks
pub in_order-same : (xs ys zs : List Answer) (a : Answer) → in_order xs ≡ a → in_order ys ≡ a → in_order (xs ++ zs) ≡ in_order (ys ++ zs)
in_order-same xs ys zs (Ok _) p q = in_order-passed xs zs p ∙ sym (in_order-passed ys zs q)
in_order-same xs ys zs (Err f) p q = in_order-refused xs zs p ∙ sym (in_order-refused ys zs q)

-- the same checks, followed by two lists of checks with one answer
pub in_order-then : (xs ys zs : List Answer) → in_order ys ≡ in_order zs → in_order (xs ++ ys) ≡ in_order (xs ++ zs)
unfolding in_order
in_order-then [] ys zs e = e
in_order-then (Ok _ ∷ xs) ys zs e = in_order-then xs ys zs e
in_order-then (Err f ∷ xs) ys zs e = refl

-- ---- every check of an accepted list held
unfoldable pub Held : List Answer → Type 0
Held [] = Unit {0}
Held (a ∷ rest) = (a ≡ Accepted) × Held rest

pub in_order-all : (checks : List Answer) → in_order checks ≡ Accepted → Held checks
unfolding Held in_order
in_order-all [] e = tt
in_order-all (Ok _ ∷ rest) e = (refl, in_order-all rest e)
in_order-all (Err f ∷ rest) e = absurd (let z : ◌≡◌ {A = ℕ} 0 1 = cc in omega arith)

pub require_at-held : (i : ℕ) (r : Refusal) (b : Bool) → require_at i r b ≡ Accepted → b ≡ true
unfolding require_at
require_at-held i r true e = refl
require_at-held i r false e = cc

pub leaves-done : {A : Type 0} {a : Answer} (done before : A) → a ≡ Accepted → leaves a done before ≡ done
unfolding leaves
leaves-done done before e = rw e

pub leaves-before : {A : Type 0} {a : Answer} {f : Fault} (done before : A) → a ≡ Err f → leaves a done before ≡ before
unfolding leaves
leaves-before done before e = rw e

pub leaves-ap : {A B : Type 0} (f : A → B) (a : Answer) (done before : A) → f (leaves a done before) ≡ leaves a (f done) (f before)
unfolding leaves
leaves-ap f (Ok _) done before = refl
leaves-ap f (Err fault) done before = refl

pub leaves-same : {A : Type 0} (a : Answer) (x : A) → leaves a x x ≡ x
unfolding leaves
leaves-same (Ok _) x = refl
leaves-same (Err f) x = refl

pub given-accepted : {A : Type 0} {a : Answer} (v : A) → a ≡ Accepted → given a v ≡ Ok v
unfolding given
given-accepted v e = rw e

pub given-refused : {A : Type 0} {a : Answer} {f : Fault} (v : A) → a ≡ Err f → given a v ≡ Err f
unfolding given
given-refused v e = rw e

pub given-ok : {A : Type 0} (a : Answer) (v w : A) → given a v ≡ Ok w → (a ≡ Accepted) × (v ≡ w)
unfolding given
given-ok (Ok _) v w e = (refl, cc)
given-ok (Err f) v w e = absurd (let z : ◌≡◌ {A = ℕ} 0 1 = cc in omega arith)

pub given-err : {A : Type 0} (a : Answer) (v : A) (f : Fault) → given a v ≡ Err f → a ≡ Err f
unfolding given
given-err (Ok _) v f e = absurd (let z : ◌≡◌ {A = ℕ} 0 1 = cc in omega arith)
given-err (Err f') v f e = ap (λ (x : Fault). Err x) cc

-- ---- a refusal handed on by `?`
pub handed-on : {A : Type 0} (r : Result A Fault) {f : Fault} → IsErrAnd r (λ e. e ≡ f) → r ≡ Err f
handed-on r w = let v = err_from_is_err_and r w in v.1 ∙ ap (λ (x : Fault). Err x) v.2
