-- `mend_text::with_names` meets its contract, by the record: names stand behind a frame alone. Assumes nothing.
use mathlib.Core.Path.{◌≡◌, refl, sym, ap, subst, ◌∙◌}
use mathlib.Core.List.{List}
use Prim.Native.Nat.{ℕ}
use Rattle.std.specs.Prelude.{Option, Some}
use Rattle.layout.specs.declared.CubeLayout.{CubeLayout}
use Rattle.records.specs.declared.Record.{Record}
use Rattle.records.specs.declared.Record.TheVariants.{Frame, Stall, Cell, Leave}
use Rattle.mend_text.specs.Requests.{unreadable, with_names, meant, StandsIn, Placed}
use Rattle.mend_text.proofs.NameLaws.{named-no, named-yes, frameless}
use Rattle.mend_text.proofs.with_names.Goals as goal

-- a record that is no frame
not-frame : (first second : List ℕ) (r : Record) → ((q : CubeLayout) → r ≡ Frame q → ⊥) → unreadable ≡ with_names (Some r) first second
unfolding with_names
not-frame first second (Frame q) k = absurd (k q refl)
not-frame first second (Stall slot w0 h0 w h id) k = refl
not-frame first second (Cell slot c h w id) k = refl
not-frame first second (Leave slot id) k = refl

pub returns-then-not-are_names : goal.returns-then-not-are_names
unfolding meant Placed
returns-then-not-are_names c =
    let a = c.args in
    record {
      asked = named-no a.first.now a.second.now a.item (sym c.are_names.ensures ∙ c.if-not-are_names.true);
      placed = λ (text : List ℕ) (f : StandsIn text a.first.now) (s : StandsIn text a.second.now). tt;
    }

pub returns-in_err-layout : goal.returns-in_err-layout
unfolding meant Placed
returns-in_err-layout c =
    let first = c.args.first.now in
    let second = c.args.second.now in
    record {
      asked = ap meant c.from_residual.ensures ∙ frameless first second ∙ ap (λ (r : Option Record). with_names r first second) (sym c.in_err-layout.was);
      placed = λ (text : List ℕ) (f : StandsIn text first) (s : StandsIn text second). subst (Placed text) (sym c.from_residual.ensures) tt;
    }

pub returns-in_default : goal.returns-in_default
unfolding meant Placed
returns-in_default c =
    let first = c.args.first.now in
    let second = c.args.second.now in
    record {
      asked = not-frame first second c.in_ok-layout.field-0 c.in_default.not-Frame ∙ ap (λ (r : Option Record). with_names r first second) (sym c.in_ok-layout.was);
      placed = λ (text : List ℕ) (f : StandsIn text first) (s : StandsIn text second). tt;
    }

pub returns : goal.returns
unfolding meant Placed
returns c =
    let a = c.args in
    let first = a.first.now in
    let second = a.second.now in
    record {
      asked = named-yes first second c.in-Frame.layout (sym c.are_names.ensures ∙ c.if-not-are_names.false)
          ∙ ap (λ (r : Option Record). with_names r first second) (ap (λ (r : Record). Some r) (sym c.in-Frame.is) ∙ sym c.in_ok-layout.was);
      placed = λ (text : List ℕ) (f : StandsIn text first) (s : StandsIn text second). (f, s);
    }
