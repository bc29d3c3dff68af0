-- `camera::ready_made` meets its contract: its test is the definition's check. Assumes nothing.
use borrow.Author.Rules.{rules}
use mathlib.Core.Path.{◌≡◌, ap, ◌∙◌}
use mathlib.Core.Bool.{true, false}
use lib.IntN.{pos}
use mir.Facts.{to_z-of_z}
use Rattle.std.specs.Prelude.{Ok}
use Rattle.lut.specs.Numbers.{between}
use Rattle.camera.proofs.ReadyLaws.{answer-refused, answer-setting}
use Rattle.camera.proofs.ready_made.Goals as goal

outside : (c : goal.Then-not-contains) → between (pos 2) (pos 22) c.args.select ≡ false
unfolding between
outside c = search rules

inside : (c : goal.Else-not-contains) → between (pos 2) (pos 22) c.args.select ≡ true
unfolding between
inside c = search rules

pub returns-then-not-contains : goal.returns-then-not-contains
returns-then-not-contains c = let a = c.args in answer-refused a.select a.priority a.overflow a.underflow (outside c)

pub settings-requires : goal.settings-requires
settings-requires c = rw (to_z-of_z c.ranges.select) (inside c)

pub returns : goal.returns
returns c = let a = c.args in
    ap (λ s. Ok s) (c.settings.ensures ∙ rw (to_z-of_z c.ranges.select)) ∙ answer-setting a.select a.priority a.overflow a.underflow (inside c.before)
