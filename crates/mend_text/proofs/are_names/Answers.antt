-- `mend_text::are_names` meets its contract: behind two names it tells whether they differ. Assumes nothing.
use Prim.Native.Nat.{ℕ, ◌-◌}
use mathlib.Core.Path.{◌≡◌, sym, ap, ◌∙◌}
use native.Mathlib.Omega.{arith}
use mathlib.Core.Bool.{true, false, not}
use mathlib.Core.List.{List}
use lib.ListN.{length, take}
use Rattle.std.proofs.Math.Seq.{take-length}
use Rattle.lines.proofs.TextLaws.{same_text-is}
use Rattle.mend_text.specs.Requests.{is_name}
use Rattle.mend_text.proofs.NameLaws.{names-both}
use Rattle.mend_text.proofs.are_names.Goals as goal
use Rattle.mend_text.proofs.are_names.Goals.{then-is_name, else-is_name}

pub returns-then-is_name-2 : goal.returns-then-is_name-2
returns-then-is_name-2 c =
    -- a text cut from its beginning to its end is that text: the name may be given so
    let whole : (text : List ℕ) → text ≡ take (length text) text = λ text. sym (take-length text) in
    let none : (n : ℕ) → n - 0 ≡ n = λ n. omega arith in
    elim c.if-is_name.branch [
      | then-is_name w ↦ grind (
        arith,
        c.ne.ensures,
        ap not (same_text-is c.args.first.now c.args.second.now),
        names-both c.args.first.now c.args.second.now (sym c.is_name.ensures ∙ w.if-is_name.true)
            (ap is_name {x = c.args.second.now} (search (whole, none)) ∙ sym w.is_name-then-is_name.ensures ∙ sym w.value-is ∙ c.if-is_name-2.true),
      )
      | else-is_name w ↦ let no : false ≡ true = sym w.if-is_name.false ∙ sym w.value-is ∙ c.if-is_name-2.true in absurd (cc)
    ]
