-- `lut_calls::rules::check` meets its contract: the first checks are those of the tables, and after each of the others the rest is left. Assumes nothing.
use Prim.Native.Nat.{ℕ, ◌+◌}
use mathlib.Core.Path.{◌≡◌, sym, ◌∙◌}
use mathlib.Core.Bool.{true}
use mathlib.Core.List.{List, [], ◌∷◌}
use lib.Dec.{leb, eqb}
use borrow.Author.Tests.{eq-eqb, ne_eqb}
use Rattle.refusal.specs.declared.Refusal.TheVariants.{Shift, Counters as CounterLimit, OutputLength}
use Rattle.refusal.specs.Checks.{require, in_order, Answer, Accepted}
use Rattle.refusal.proofs.CheckLaws.{in_order-nil, in_order-next, in_order-stop, in_order-passed, in_order-refused, handed-on}
use Rattle.lut.specs.declared.LutSettings.{LutSettings}
use Rattle.lut.specs.declared.Counters.{Counters}
use Rattle.lut.specs.Rules.{shifts_valid, counter_sum, table_checks, lut_checks}
use Rattle.lut_calls.proofs.rules.check.Goals as goal

module _ (s : LutSettings) (xs ys samples outputs : ℕ) (k : Counters) where
  -- ---- the checks that are left, from each on

  abbrev from17 : List Answer
  from17 = require CounterLimit (leb (counter_sum k + samples) 4294967295) ∷ []

  abbrev from18 : List Answer
  from18 = require OutputLength (eqb outputs samples) ∷ from17

  abbrev from16 : List Answer
  from16 = require Shift (shifts_valid s) ∷ from18

  -- ---- what was passed

  to16 : in_order (table_checks s xs ys) ≡ Accepted → in_order (lut_checks s xs ys samples outputs k) ≡ in_order from16
  unfolding lut_checks table_checks
  to16 e = in_order-passed (table_checks s xs ys) from16 e

  to18 : in_order (table_checks s xs ys) ≡ Accepted → shifts_valid s ≡ true → in_order (lut_checks s xs ys samples outputs k) ≡ in_order from18
  to18 e f = to16 e ∙ in_order-next 0 Shift _ f

  to17 : in_order (table_checks s xs ys) ≡ Accepted → shifts_valid s ≡ true → outputs ≡ samples → in_order (lut_checks s xs ys samples outputs k) ≡ in_order from17
  to17 e f g = to18 e f ∙ in_order-next 0 OutputLength _ (eq-eqb _ _ g)

-- ---- the goals

pub returns-in_err-check_tables : goal.returns-in_err-check_tables
unfolding lut_checks table_checks
returns-in_err-check_tables c =
    let a = c.args in
    let refused = c.in_err-check_tables.was in
    handed-on _ c.from_residual.ensures.1 ∙ sym (in_order-refused (table_checks a.s a.xs a.ys) (from16 a.s a.xs a.ys a.samples a.outputs a.c) (sym c.check_tables.ensures ∙ refused))

pub returns-then-not-shifts_valid : goal.returns-then-not-shifts_valid
returns-then-not-shifts_valid c =
    let a = c.args in
    let passed = sym c.check_tables.ensures ∙ c.in_ok-check_tables.was in
    sym (to16 a.s a.xs a.ys a.samples a.outputs a.c passed ∙ in_order-stop 0 Shift _ (sym c.shifts_valid.ensures ∙ c.if-not-shifts_valid.true))

pub returns-then-outputs-samples : goal.returns-then-outputs-samples
returns-then-outputs-samples c =
    let a = c.args in
    let passed = sym c.check_tables.ensures ∙ c.in_ok-check_tables.was in
    let shifts = sym c.shifts_valid.ensures ∙ c.if-not-shifts_valid.false in
    sym (to18 a.s a.xs a.ys a.samples a.outputs a.c passed shifts ∙ in_order-stop 0 OutputLength _ (ne_eqb _ _ c.if-outputs-samples.true))

pub returns-then-not-counters_valid : goal.returns-then-not-counters_valid
returns-then-not-counters_valid c =
    let a = c.args in
    let passed = sym c.check_tables.ensures ∙ c.in_ok-check_tables.was in
    let shifts = sym c.shifts_valid.ensures ∙ c.if-not-shifts_valid.false in
    sym (to17 a.s a.xs a.ys a.samples a.outputs a.c passed shifts c.if-outputs-samples.false
    ∙ in_order-stop 0 CounterLimit _ (sym c.counters_valid.ensures ∙ c.if-not-counters_valid.true))

pub returns : goal.returns
returns c =
    let a = c.args in
    let passed = sym c.check_tables.ensures ∙ c.in_ok-check_tables.was in
    let shifts = sym c.shifts_valid.ensures ∙ c.if-not-shifts_valid.false in
    sym (to17 a.s a.xs a.ys a.samples a.outputs a.c passed shifts c.if-outputs-samples.false
    ∙ in_order-next 0 CounterLimit [] (sym c.counters_valid.ensures ∙ c.if-not-counters_valid.false) ∙ in_order-nil)
