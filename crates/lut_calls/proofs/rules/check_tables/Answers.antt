-- `lut_calls::rules::check_tables` meets its contract: it makes the definition's checks in their order, and after each the rest is left. Assumes nothing.
use Prim.Native.Nat.{ℕ}
use mathlib.Core.Path.{◌≡◌, sym, ◌∙◌}
use mathlib.Core.Bool.{true}
use mathlib.Core.List.{List, [], ◌∷◌}
use borrow.Author.Tests.{eq-eqb, ne_eqb}
use Rattle.refusal.specs.declared.Refusal.TheVariants.{TableLength, XSelect, XEnd, YSelect, YEnd}
use Rattle.refusal.specs.Checks.{require, in_order, Answer}
use Rattle.refusal.proofs.CheckLaws.{in_order-nil, in_order-next, in_order-stop}
use Rattle.lut.specs.declared.LutSettings.{LutSettings}
use Rattle.lut.specs.Rules.{y_select_valid, y_end_valid, mode_valid, end_valid, table_checks}
use Rattle.lut_calls.proofs.rules.check_tables.Goals as goal

module _ (s : LutSettings) (xs ys : ℕ) where
  -- ---- the checks that are left, from each on

  abbrev from15 : List Answer
  from15 = require YEnd (y_end_valid s.y) ∷ []

  abbrev from14 : List Answer
  from14 = require YSelect (y_select_valid s.y) ∷ from15

  abbrev from13 : List Answer
  from13 = require XEnd (end_valid s.x) ∷ from14

  abbrev from12 : List Answer
  from12 = require XSelect (mode_valid s.x.mode) ∷ from13

  -- ---- what was passed

  to12 : xs ≡ 65 → ys ≡ 257 → in_order (table_checks s xs ys) ≡ in_order from12
  unfolding table_checks
  to12 e f = in_order-next 0 TableLength _ (rw (eq-eqb xs 65 e, eq-eqb ys 257 f))

  to13 : xs ≡ 65 → ys ≡ 257 → mode_valid s.x.mode ≡ true → in_order (table_checks s xs ys) ≡ in_order from13
  to13 e f g = to12 e f ∙ in_order-next 0 XSelect _ g

  to14 : xs ≡ 65 → ys ≡ 257 → mode_valid s.x.mode ≡ true → end_valid s.x ≡ true → in_order (table_checks s xs ys) ≡ in_order from14
  to14 e f g h = to13 e f g ∙ in_order-next 0 XEnd _ h

  to15 : xs ≡ 65 → ys ≡ 257 → mode_valid s.x.mode ≡ true → end_valid s.x ≡ true → y_select_valid s.y ≡ true → in_order (table_checks s xs ys) ≡ in_order from15
  to15 e f g h i = to14 e f g h ∙ in_order-next 0 YSelect _ i

-- ---- the goals

pub returns-then-xs-ne65 : goal.returns-then-xs-ne65
unfolding table_checks
returns-then-xs-ne65 c = let a = c.args in sym (in_order-stop 0 TableLength _ (rw (ne_eqb a.xs 65 c.if-xs-ne65.true)))

pub returns-then-ys-ne257 : goal.returns-then-ys-ne257
unfolding table_checks
returns-then-ys-ne257 c =
    let a = c.args in
    sym (in_order-stop 0 TableLength _ (rw (eq-eqb a.xs 65 c.if-xs-ne65.false, ne_eqb a.ys 257 c.if-ys-ne257.true)))

pub returns-then-not-mode_valid : goal.returns-then-not-mode_valid
returns-then-not-mode_valid c =
    let a = c.args in
    sym (to12 a.s a.xs a.ys c.if-xs-ne65.false c.if-ys-ne257.false ∙ in_order-stop 0 XSelect _ (sym c.mode_valid.ensures ∙ c.if-not-mode_valid.true))

pub returns-then-not-end_valid : goal.returns-then-not-end_valid
returns-then-not-end_valid c =
    let a = c.args in
    let mode = sym c.mode_valid.ensures ∙ c.if-not-mode_valid.false in
    sym (to13 a.s a.xs a.ys c.if-xs-ne65.false c.if-ys-ne257.false mode ∙ in_order-stop 0 XEnd _ (sym c.end_valid.ensures ∙ c.if-not-end_valid.true))

pub returns-then-not-select_valid : goal.returns-then-not-select_valid
returns-then-not-select_valid c =
    let a = c.args in
    let mode = sym c.mode_valid.ensures ∙ c.if-not-mode_valid.false in
    let end = sym c.end_valid.ensures ∙ c.if-not-end_valid.false in
    sym (to14 a.s a.xs a.ys c.if-xs-ne65.false c.if-ys-ne257.false mode end ∙ in_order-stop 0 YSelect _ (sym c.select_valid.ensures ∙ c.if-not-select_valid.true))

pub returns-then-not-y_end_valid : goal.returns-then-not-y_end_valid
returns-then-not-y_end_valid c =
    let a = c.args in
    let mode = sym c.mode_valid.ensures ∙ c.if-not-mode_valid.false in
    let end = sym c.end_valid.ensures ∙ c.if-not-end_valid.false in
    let select = sym c.select_valid.ensures ∙ c.if-not-select_valid.false in
    sym (to15 a.s a.xs a.ys c.if-xs-ne65.false c.if-ys-ne257.false mode end select ∙ in_order-stop 0 YEnd _ (sym c.y_end_valid.ensures ∙ c.if-not-y_end_valid.true))

pub returns : goal.returns
returns c =
    let a = c.args in
    let mode = sym c.mode_valid.ensures ∙ c.if-not-mode_valid.false in
    let end = sym c.end_valid.ensures ∙ c.if-not-end_valid.false in
    let select = sym c.select_valid.ensures ∙ c.if-not-select_valid.false in
    sym (to15 a.s a.xs a.ys c.if-xs-ne65.false c.if-ys-ne257.false mode end select ∙ in_order-next 0 YEnd [] (sym c.y_end_valid.ensures ∙ c.if-not-y_end_valid.false) ∙ in_order-nil)
