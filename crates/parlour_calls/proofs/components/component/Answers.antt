-- `parlour_calls::components::component` meets its contract: two bytes, by the format. Assumes nothing.
use Prim.Native.Nat.{ℕ, ◌+◌, ◌*◌, ◌%◌}
use native.Mathlib.Omega.{arith}
use mathlib.Core.Path.{◌≡◌, sym, ap, ◌∙◌}
use lib.ListN.{get_or}
use lib.IntN.{pos}
use borrow.Author.Rules.{sfits_of}
use mir.Syntax.{w16, w32}
use mir.Facts.{to_z-of_z}
use Rattle.parlour_calls.proofs.ComponentLaws.{component-two, value-ten, value-twelve, value-signed, value-plain}
use Rattle.parlour_calls.proofs.components.component.Goals as goal

pub returns-then-code-eq4 : goal.returns-then-code-eq4
returns-then-code-eq4 c =
    let a = c.args in
    let word : ℕ = get_or a.pixels.now a.p 0 + 256 * get_or a.pixels.now (a.p + 1) 0 in
    to_z-of_z {w = w32} (sfits_of c.from.type_inv)
    ∙ c.from.ensures
    ∙ to_z-of_z {w = w16} (sfits_of c.from_bytes.type_inv)
    ∙ c.from_bytes.ensures
    ∙ sym (component-two a.code a.pixels.now a.p c.requires.0 ∙ value-signed a.code word c.if-code-eq4.true)

pub returns-then-code-eq1 : goal.returns-then-code-eq1
returns-then-code-eq1 c =
    let a = c.args in
    let word : ℕ = get_or a.pixels.now a.p 0 + 256 * get_or a.pixels.now (a.p + 1) 0 in
    let same : c.from_le_bytes-word.result ≡ word = omega (arith, c.from_le_bytes-word.ensures) in
    to_z-of_z {w = w32} (sfits_of c.from-then-code-eq1.type_inv)
    ∙ c.from-then-code-eq1.ensures
    ∙ ap (λ (n : ℕ). pos (n % 1024)) same
    ∙ sym (component-two a.code a.pixels.now a.p c.requires.0 ∙ value-ten a.code word c.if-code-eq1.true)

pub returns-then-code-eq2 : goal.returns-then-code-eq2
returns-then-code-eq2 c =
    let a = c.args in
    let word : ℕ = get_or a.pixels.now a.p 0 + 256 * get_or a.pixels.now (a.p + 1) 0 in
    let same : c.from_le_bytes-word.result ≡ word = omega (arith, c.from_le_bytes-word.ensures) in
    to_z-of_z {w = w32} (sfits_of c.from-then-code-eq2.type_inv)
    ∙ c.from-then-code-eq2.ensures
    ∙ ap (λ (n : ℕ). pos (n % 4096)) same
    ∙ sym (component-two a.code a.pixels.now a.p c.requires.0 ∙ value-twelve a.code word c.if-code-eq2.true)

pub returns : goal.returns
returns c =
    let a = c.args in
    let word : ℕ = get_or a.pixels.now a.p 0 + 256 * get_or a.pixels.now (a.p + 1) 0 in
    let same : c.from_le_bytes-word.result ≡ word = omega (arith, c.from_le_bytes-word.ensures) in
    to_z-of_z {w = w32} (sfits_of c.from-2.type_inv)
    ∙ c.from-2.ensures
    ∙ ap (λ (n : ℕ). pos n) same
    ∙ sym (component-two a.code a.pixels.now a.p c.requires.0 ∙ value-plain a.code word c.if-code-eq1.false c.if-code-eq2.false c.if-code-eq4.false)
