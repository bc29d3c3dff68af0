-- `layout_calls::check` meets its contract: it makes the definition's checks in their order. Assumes nothing.
use mathlib.Core.Path.{◌≡◌, sym, ◌∙◌}
use mathlib.Core.Bool.{true}
use Rattle.layout.specs.declared.CubeLayout.{CubeLayout}
use Rattle.layout.specs.Rules.{sizes_valid, strides_valid}
use Rattle.layout.proofs.RuleLaws.{sizes, check-sizes, check-precision, check-strides, check-start, check-valid}
use Rattle.layout_calls.proofs.check.Goals as goal

pub returns-then-not-sizes_valid : goal.returns-then-not-sizes_valid
returns-then-not-sizes_valid c = check-sizes c.args.layout (sym c.sizes_valid.ensures ∙ c.if-not-sizes_valid.true)

pub returns-then-layout-ge3 : goal.returns-then-layout-ge3
returns-then-layout-ge3 c =
    let sizes-held : sizes_valid c.args.layout ≡ true = sym c.sizes_valid.ensures ∙ c.if-not-sizes_valid.false in
    let q = c.args.layout in
    check-precision q sizes-held c.if-layout-ge3.true

pub strides_valid-requires : goal.strides_valid-requires
strides_valid-requires c =
    let sizes-held : sizes_valid c.args.layout ≡ true = sym c.sizes_valid.ensures ∙ c.if-not-sizes_valid.false in
    let s = sizes c.args.layout sizes-held in
    (s.width_le, s.height_pos, s.height_le)

pub returns-then-not-strides_valid : goal.returns-then-not-strides_valid
returns-then-not-strides_valid c =
    let sizes-held : sizes_valid c.args.layout ≡ true = sym c.sizes_valid.ensures ∙ c.if-not-sizes_valid.false in
    let d = c in
    check-strides d.args.layout sizes-held d.if-layout-ge3.false
    (sym c.strides_valid.ensures ∙ c.if-not-strides_valid.true)

pub returns-then-layout-ne0 : goal.returns-then-layout-ne0
returns-then-layout-ne0 c =
    let sizes-held : sizes_valid c.args.layout ≡ true = sym c.sizes_valid.ensures ∙ c.if-not-sizes_valid.false in
    let layout-at : CubeLayout = c.args.layout in
    let strides-held : strides_valid layout-at.width layout-at.height layout-at.line layout-at.surface ≡ true = sym c.strides_valid.ensures ∙ c.if-not-strides_valid.false in
    let s = c in
    let d = s in
    check-start layout-at sizes-held d.if-layout-ge3.false strides-held c.if-layout-ne0.true

pub returns : goal.returns
returns c =
    let sizes-held : sizes_valid c.args.layout ≡ true = sym c.sizes_valid.ensures ∙ c.if-not-sizes_valid.false in
    let layout-at : CubeLayout = c.args.layout in
    let strides-held : strides_valid layout-at.width layout-at.height layout-at.line layout-at.surface ≡ true = sym c.strides_valid.ensures ∙ c.if-not-strides_valid.false in
    let s = c in
    let d = s in
    check-valid layout-at sizes-held d.if-layout-ge3.false strides-held c.if-layout-ne0.false
