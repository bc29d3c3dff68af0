-- `walk_calls::step` meets its contract: where a walk is behind the next atom, that atom is left. Assumes nothing.
use Prim.Native.Nat.{ℕ}
use native.Mathlib.Omega.{arith}
use mathlib.Core.Path.{◌≡◌, refl, sym, ap, ◌∙◌}
use mathlib.Core.Bool.{Bool, true, false, cond}
use mathlib.Core.List.{List}
use lib.IntN.{ℤ}
use lib.ListN.{replicate}
use Rattle.std.specs.Prelude.{Option, Some, None}
use Rattle.walk.specs.declared.Walk.{Walk}
use Rattle.walk.specs.declared.Step.{Step}
use Rattle.walk.specs.Walks.{stride_of, moved, atom_left, atom_bytes, walk_step}
use Rattle.walk_calls.specs.Steps.{walk_behind}
use Rattle.walk_calls.proofs.step.Goals as goal

module _ (w : Walk) (raw : List ℤ) where
  none : Step
  none = record { atom = None; bytes = replicate 32 0; walk = w }

  next : Walk → Step
  next on = record { atom = Some w.position; bytes = atom_bytes w raw; walk = on }

  step_none : walk_behind w ≡ None → none ≡ walk_step w raw
  unfolding walk_behind walk_step none next
  step_none = go (atom_left w)
    where
      go : (t : Bool) → ◌≡◌ {A = Option Walk} (cond t (Some (moved w (stride_of w))) None) None → none ≡ cond t (next (moved w (stride_of w))) none
      go true e = let z : ◌≡◌ {A = ℕ} 0 1 = cc in absurd (omega arith)
      go false e = refl

  step_some : (on : Walk) → walk_behind w ≡ Some on → next on ≡ walk_step w raw
  unfolding walk_behind walk_step next none
  step_some on = go (atom_left w)
    where
      go : (t : Bool) → ◌≡◌ {A = Option Walk} (cond t (Some (moved w (stride_of w))) None) (Some on) → next on ≡ cond t (next (moved w (stride_of w))) none
      go true e = ap next (let same : on ≡ moved w (stride_of w) = cc in same)
      go false e = let z : ◌≡◌ {A = ℕ} 0 1 = cc in absurd (omega arith)

pub returns-in_default : goal.returns-in_default
unfolding none
returns-in_default c = let a = c.args in step_none a.walk a.elements.now (sym c.behind.ensures ∙ c.in_default.is)

pub returns : goal.returns
unfolding next atom_bytes
returns c =
    let a = c.args in
    ap (λ (l : List ℕ). record { atom = Some a.walk.position; bytes = l; walk = c.in-Some.behind }) c.bytes_of-bytes.ensures
    ∙ step_some a.walk a.elements.now c.in-Some.behind (sym c.behind.ensures ∙ c.in-Some.is)
