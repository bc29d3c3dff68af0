-- `parlour_calls::strips::Painter::paint_strip` meets its contract: the tile has the strip's converted components, and they are written as a box; those that
-- were held are counted. Assumes nothing.
use Prim.Native.Nat.{ℕ, ◌*◌, ◌≤◌}
use native.Mathlib.Omega.{arith}
use native.Mathlib.Nat.{mul-le-mul}
use mathlib.Core.Path.{refl, sym, ◌∙◌}
use lib.ListN.{length}
use lib.Seq.{length-take-le}
use Rattle.parlour_calls.proofs.AnswerLaws.{is-given}
use Rattle.parlour_calls.proofs.TileLaws.{tile-long}
use Rattle.parlour_calls.proofs.StripLaws.{ready, strip-room, strip-elements, strip-accepted, strip-written, strip-counted}
use Rattle.parlour_calls.proofs.strips.Painter.paint_strip.Goals as goal

-- the elements fit the tile
fits : (channels count : ℕ) → channels ≤ 4 → count ≤ 256 → channels * count ≤ 1024
fits channels count four narrow = mul-le-mul {n₁ = channels} {m₁ = count} {n₂ = 4} {m₂ = 256} four narrow

pub pixel_at-at-requires : goal.pixel_at-at-requires
pixel_at-at-requires c =
    let t = ready _ _ _ _ _ _ c.requires.paintable in
    let r = c.requires.y_lt_height in
    (t.picture.setting, omega (arith, r), r.0)

pub convert_strip-held-requires : goal.convert_strip-held-requires
convert_strip-held-requires c =
    let a = c.args in
    let s = a.self.now in
    let p = c.requires.paintable in
    let r = c.requires.y_lt_height in
    let t = ready _ _ _ _ _ _ p in (
      r.1,
      strip-room s.layout s.target s.image s.conversion.shift (length a.pixels.now) (length a.buffer.now) p a.x a.y a.count r.0 r.1 r.3 c.pixel_at-at.ensures t.setting.channels_is s.sized.0,
      fits s.image.channels a.count s.sized.4 r.2,
    )

pub overflow_add-strip : goal.overflow_add-strip
overflow_add-strip c =
    let p = c.requires.paintable in
    let d = (ready _ _ _ _ _ _ p).box-in in
    omega (arith, c.requires.y_lt_height.0, p.rows, d.inside.rows.fit, d.layout.height_le)

pub overflow_add-strip-2 : goal.overflow_add-strip-2
overflow_add-strip-2 c =
    let p = c.requires.paintable in
    let d = (ready _ _ _ _ _ _ p).box-in in
    omega (arith, c.requires.y_lt_height.3, p.columns, d.inside.columns.fit, d.layout.width_le)

pub overflow_mul-n : goal.overflow_mul-n
overflow_mul-n c =
    let a = c.args in
    let s = a.self.now in
    omega (arith, fits s.image.channels a.count s.sized.4 c.requires.y_lt_height.2)

pub slice_bounds-tile-end : goal.slice_bounds-tile-end
slice_bounds-tile-end c =
    let a = c.args in
    let s = a.self.now in
    omega (arith, fits s.image.channels a.count s.sized.4 c.requires.y_lt_height.2, tile-long _ _ _ _ refl c.convert_strip-held.ensures.converted)

pub slice_bounds-write_box-end : goal.slice_bounds-write_box-end
slice_bounds-write_box-end c =
    let a = c.args in
    let s = a.self.now in
    sym (length-take-le _ _ (omega (arith, fits s.image.channels a.count s.sized.4 c.requires.y_lt_height.2, tile-long _ _ _ _ refl c.convert_strip-held.ensures.converted)))

pub unwrap-requires : goal.unwrap-requires
unwrap-requires c =
    let a = c.args in
    let s = a.self.now in
    let r = c.requires.y_lt_height in
    let t = ready _ _ _ _ _ _ c.requires.paintable in
    let same = strip-elements s.layout s.target s.image a.pixels.now s.conversion (length a.buffer.now) c.requires.paintable a.x a.y a.count r.0 r.1 r.2 r.3 c.pixel_at-at.ensures t.setting.channels_is s.sized.0
    _ _ refl c.convert_strip-held.ensures.converted in
    is-given
    (c.write_box.ensures.answered
    ∙ strip-accepted s.layout s.target s.image a.pixels.now s.conversion (length a.buffer.now) c.requires.paintable a.x a.y a.count r.0 r.1 r.2 r.3 same refl)

pub returns-clause-painted : goal.returns-clause-painted
returns-clause-painted c =
    let a = c.args in
    let s = a.self.now in
    let r = c.requires.y_lt_height in
    let t = ready _ _ _ _ _ _ c.requires.paintable in
    let same = strip-elements s.layout s.target s.image a.pixels.now s.conversion (length a.buffer.now) c.requires.paintable a.x a.y a.count r.0 r.1 r.2 r.3 c.pixel_at-at.ensures t.setting.channels_is s.sized.0
    _ _ refl c.convert_strip-held.ensures.converted in
    c.write_box.ensures.left
    ∙ strip-written s.layout s.target s.image a.pixels.now s.conversion (length a.buffer.now) c.requires.paintable a.x a.y a.count r.0 r.1 r.2 r.3 same a.buffer.now refl

pub returns-clause-counted : goal.returns-clause-counted
returns-clause-counted c =
    let a = c.args in
    let s = a.self.now in
    let r = c.requires.y_lt_height in
    let t = ready _ _ _ _ _ _ c.requires.paintable in
    c.convert_strip-held.ensures.counted
    ∙ strip-counted s.layout s.target s.image a.pixels.now s.conversion (length a.buffer.now) c.requires.paintable a.x a.y a.count r.0 r.1 r.2 r.3 c.pixel_at-at.ensures t.setting.channels_is s.sized.0
