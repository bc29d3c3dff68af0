-- `mend_text::is_name` meets its contract: a line of one field ends where its first field does. Assumes nothing.
use Prim.Native.Nat.{ℕ, ◌≤◌}
use native.Mathlib.Omega.{arith}
use borrow.Author.Rules.{rules}
use mathlib.Core.Path.{◌≡◌, sym, ◌∙◌, ap}
use mathlib.Core.Bool.{false, ◌&&◌}
use lib.Dec.{eqb, leb}
use lib.ListN.{length}
use Rattle.mend_text.proofs.NameLaws.{name-out, name-is}
use Rattle.mend_text.proofs.is_name.Goals as goal

pub returns-then-contains : goal.returns-then-contains
returns-then-contains c =
    let line = c.args.line.now in
    let least : 1 ≤ length line = search rules in
    let most : length line ≤ 120 = search rules in
    ap (λ (n : ℕ). eqb n (length line)) c.part_length.ensures ∙ name-is line (λ e. omega (arith, e, least)) most

pub returns-else-contains : goal.returns-else-contains
returns-else-contains c =
    let line = c.args.line.now in
    let out : (leb 1 (length line) && leb (length line) 120) ≡ false = search rules in
    c.if-contains.false ∙ sym (name-out line out)
