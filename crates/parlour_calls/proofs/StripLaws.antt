-- Strips of a picture: what the tile has, and that writing it is painting the strip; strips side by side, and rows below rows. Assumes nothing.
--     Ready, ready                what a picture that may be painted tells
--     strip-room, strip-fits      the pixels of a strip, and its elements
--     strip-elements              the tile has the strip's elements
--     strip-accepted, strip-written     which are accepted, and written they are the strip painted
--     strip-counted               how many of its components are held
--     painted-length .. rows_all  the buffer's length; no row or column, a further one, all of them
use Prim.Native.Nat.{ℕ, ◌+◌, ◌-◌, ◌*◌, ◌≤◌, ◌<◌, min}
use native.Mathlib.Omega.{arith}
use native.Mathlib.Nat.{le_refl, mul-le-mul, mul_comm}
use mathlib.Core.Path.{◌≡◌, refl, sym, ap, subst, ◌∙◌}
use mathlib.Core.List.{List}
use lib.ListN.{length, get_or, take}
use lib.Seq.{length-take-le, get_or-take}
use lib.IntN.{ℤ, pos}
use Rattle.refusal.specs.Checks.{in_order, Accepted}
use Rattle.refusal.proofs.CheckLaws.{leaves-done}
use Rattle.elements.specs.Values.{value_valid, value_checks}
use Rattle.elements.proofs.TabulateLaws.{length-tabulate, get_d_tabulate}
use Rattle.elements.proofs.ValueLaws.{value_checks-all}
use Rattle.columns.specs.Columns.{columns}
use Rattle.columns.proofs.ColumnLaws.{columns-length, columns-hit}
use Rattle.layout.specs.declared.CubeLayout.{CubeLayout}
use Rattle.layout.specs.declared.ElementBox.{ElementBox}
use Rattle.layout.specs.Boxes.{box_index, box_count, channel_at, row_at, column_at}
use Rattle.layout.specs.Contents.{edited, elements_by}
use Rattle.layout.specs.Calls.{write_box_answer, write_box_buffer}
use Rattle.layout.proofs.BoxLaws.{InBox, BoxValid, valid-box}
use Rattle.layout.proofs.CallLaws.{Admitted, box-layout, box-accepted, clear-front, clear-admitted, admit-valid, write-values}
use Rattle.layout.proofs.ContentLaws.{edited-length}
use Rattle.layout.proofs.JoinLaws.{Gives, by-gives, gives-list, band, strip-valid, band-valid, columns-join, rows_join, no-columns, no_rows, strip-all, band-all, edited-join, edited-none}
use Rattle.pixels.specs.declared.PixelSetting.{PixelSetting}
use Rattle.pixels.specs.Formats.{format_of}
use Rattle.pixels.specs.Places.{ValidSetting}
use Rattle.pixels.specs.Settings.{pixel_position}
use Rattle.pixels.proofs.Valid.{valid}
use Rattle.quantize.proofs.AnswerLaws.{checked}
use Rattle.parlour.specs.declared.Conversion.{Conversion}
use Rattle.parlour.specs.Components.{component_bytes, component_at, component, converted}
use Rattle.parlour.proofs.RuleLaws.{ValidPicture, picture-accepted}
use Rattle.parlour.proofs.ComponentLaws.{Parts, parts, strip-end, pixel-step}
use Rattle.parlour.proofs.ElementLaws.{converted-valid}
use Rattle.parlour_calls.specs.Steps.{run_element, strip_element, strip_held, pixels_held, Paintable, painted_at, row_of, strip_of, part_painted}
use Rattle.parlour_calls.proofs.CountLaws.{strip-of}
use Rattle.parlour_calls.proofs.TileLaws.{below}

-- the picture is accepted, the box is in the cube, and the components fill the pixels
pub record Ready (q : CubeLayout) (box : ElementBox) (image : PixelSetting) (shift given len : ℕ) : Type 0 where
  pub picture : ValidPicture q image shift given
  pub setting : ValidSetting image
  pub box-in : Admitted q box (box_count box) len
  pub components : Parts image.format
  pub some : 0 < (format_of image.format).channels

module _ (q : CubeLayout) (box : ElementBox) (image : PixelSetting) (shift given len : ℕ) (p : Paintable q box image shift given len) where
  pub ready : Ready q box image shift given len
  ready =
      let v = picture-accepted q image shift given p.picture in
      let s = valid image v.setting in
      let d = clear-admitted q box len p.room in
      let some : 0 < (format_of image.format).channels = omega (arith, s.channels_is, p.channels, d.inside.channels.some) in
      record {
        picture = v;
        setting = s;
        box-in = record { layout = d.layout; inside = d.inside; count = refl; room = d.room };
        components = parts image.format some;
        some = some;
      }

  module _ (x y count : ℕ) (high : y < image.height) (some : 1 ≤ count) (wide : x + count ≤ image.width) where
    -- the strip's pixels are in the buffer
    strip-pixels : pixel_position image x y + (format_of image.format).channels * component_bytes image.format * count ≤ given
    strip-pixels =
        let r = ready in
        omega (arith, strip-end image x y count some wide high, r.picture.room, ap (λ (b : ℕ). b * count) r.components.whole)

    -- by the position, the channels and the bytes of a component that were found
    pub strip-room : {at channels size : ℕ} → at ≡ pixel_position image x y → channels ≡ (format_of image.format).channels → size ≡ component_bytes image.format
        → at + channels * size * count ≤ given
    strip-room ea ec es = rw (ea, ec, es) strip-pixels

    -- and the strip is in the cube
    strip-inside : BoxValid q (strip_of box x y count)
    strip-inside =
        strip-valid (row_of box y) q (band-valid box q ready.box-in.inside y 1 (omega arith) (omega (arith, high, p.rows))) x count some (omega (arith, wide, p.columns))

pub strip-fits : (code count : ℕ) → Parts code → count ≤ 256 → (format_of code).channels * count ≤ 1024
strip-fits code count t h = mul-le-mul {n₁ = (format_of code).channels} {m₁ = count} {n₂ = 4} {m₂ = 256} t.four h

-- ---- the tile of a strip
module _ (q : CubeLayout) (box : ElementBox) (image : PixelSetting) (pixels : List ℕ) (k : Conversion) (len : ℕ) (p : Paintable q box image k.shift (length pixels) len)
    (x y count : ℕ) (high : y < image.height) (some : 1 ≤ count) (narrow : count ≤ 256) (wide : x + count ≤ image.width) where
  abbrev channels : ℕ
  channels = (format_of image.format).channels

  abbrev size : ℕ
  size = component_bytes image.format

  abbrev rule : ℕ → ℕ → ℕ → ℤ
  rule = painted_at box image pixels k q.precision

  abbrev part : ElementBox
  part = strip_of box x y count

  abbrev r : Ready q box image k.shift (length pixels) len
  r = ready q box image k.shift (length pixels) len p

  -- the box's channels are the format's
  channels-are : box.channels ≡ channels
  channels-are = p.channels ∙ r.setting.channels_is

  -- component n of pixel i of the strip is the cube's element there
  element-is : (n i c h w : ℕ) → n ≡ c → w - box.column ≡ x + i → h - box.row ≡ y
      → strip_element image.format size channels k q.precision pixels (pixel_position image x y) n i ≡ rule c h w
  unfolding strip_element run_element painted_at component
  element-is n i c h w en ei ey =
      ap (λ (a : ℕ). converted k q.precision (component_at image.format pixels a))
      (sym (pixel-step image x y n i size channels r.components.whole)
      ∙ rw (en, ei, ey))

  module _ (before : List ℤ) (long : length before ≡ 1024) where
    abbrev tile : List ℤ
    tile = columns (strip_element image.format size channels k q.precision pixels (pixel_position image x y)) count channels 0 count before

    tile-long : length tile ≡ 1024
    tile-long = columns-length (strip_element image.format size channels k q.precision pixels (pixel_position image x y)) count channels 0 count before ∙ long

    within : channels * count ≤ 1024
    within = strip-fits image.format count r.components narrow

    tile-gives : Gives rule part (take (channels * count) tile)
    unfolding box_index
    tile-gives c h w i =
        let n = c - box.channel in
        let j = w - (box.column + x) in
        let hn : n < channels = omega (arith, i.channel_ge, i.channel_lt, channels-are) in
        let hj : j < count = omega (arith, i.column_ge, i.column_lt) in
        let row : h - (box.row + y) ≡ 0 = omega (arith, i.row_ge, i.row_lt) in
        let index : box_index part c h w ≡ 0 + count * n + j = ap (λ (m : ℕ). (n * 1 + m) * count + j) row ∙ omega arith in
        let same : count * n ≡ n * count = mul_comm count n in
        let lt : 0 + count * n + j < channels * count = omega (arith, same, below n channels count hn, hj) in
        ap (λ (m : ℕ). get_or (take (channels * count) tile) m (pos 0)) index
        ∙ get_or-take (channels * count) tile (0 + count * n + j) (pos 0) lt
        ∙ columns-hit (pos 0) (strip_element image.format size channels k q.precision pixels (pixel_position image x y)) count channels 0 count (le_refl count) before n j hn hj
        (omega (arith, lt, within, long))
        ∙ element-is n j c h w (omega (arith, p.channel, i.channel_ge)) (omega (arith, i.column_ge)) (omega (arith, i.row_ge, i.row_lt))

    tile-count : length (take (channels * count) tile) ≡ box_count part
    unfolding box_count
    tile-count =
        length-take-le (channels * count) tile (omega (arith, tile-long, within))
        ∙ ap (λ (m : ℕ). m * count) (sym channels-are)
        ∙ omega arith

    tile-list : take (channels * count) tile ≡ elements_by part rule
    tile-list = gives-list rule part (take (channels * count) tile) (omega arith) some tile-count tile-gives

  part-values : in_order (value_checks q.precision (elements_by part rule)) ≡ Accepted
  unfolding painted_at
  part-values =
      value_checks-all q.precision (elements_by part rule)
      (λ i h.
      let hi = subst (λ (n : ℕ). i < n) (length-tabulate _ (box_count part)) h in
      ap (value_valid q.precision) (get_d_tabulate (λ (n : ℕ). rule (channel_at part n) (row_at part n) (column_at part n)) (box_count part) i (pos 0) hi)
      ∙ converted-valid k _ q.precision (checked q.precision k.shift r.picture.conversion).0)

  part-accepted : write_box_answer q part (elements_by part rule) len ≡ Accepted
  part-accepted =
      let inside = strip-inside q box image k.shift (length pixels) len p x y count high some wide in
      let ok = box-accepted q part (box-layout q box (clear-front q box len p.room)) (valid-box q part inside) in
      sym (write-values q part (elements_by part rule) len (sym (admit-valid q part (length (elements_by part rule)) len (sym ok) (length-tabulate _ (box_count part)) r.box-in.room)))
      ∙ part-values

  -- the tile has the strip's elements, by the position, the channels and the bytes of a component that were found
  pub strip-elements : {at m e : ℕ} → at ≡ pixel_position image x y → m ≡ channels → e ≡ size → (before tile' : List ℤ) → length before ≡ 1024
      → tile' ≡ columns (strip_element image.format e m k q.precision pixels at) count m 0 count before → take (m * count) tile' ≡ elements_by part rule
  strip-elements {at} {m} {e} ea em ee before tile' long et =
      ap (λ (c : ℕ). take (c * count) tile') em
      ∙ ap (take (channels * count))
      (et
      ∙ ap (λ (c : ℕ). columns (strip_element image.format e c k q.precision pixels at) count c 0 count before) em
      ∙ ap (λ (s : ℕ). columns (strip_element image.format s channels k q.precision pixels at) count channels 0 count before) ee
      ∙ ap (λ (a : ℕ). columns (strip_element image.format size channels k q.precision pixels a) count channels 0 count before) ea)
      ∙ tile-list before long

  -- which are accepted, and written they are the strip painted
  pub strip-accepted : {xs : List ℤ} → xs ≡ elements_by part rule → {n : ℕ} → n ≡ len → write_box_answer q part xs n ≡ Accepted
  strip-accepted e {n} same = ap (λ (ys : List ℤ). write_box_answer q part ys n) e ∙ ap (write_box_answer q part (elements_by part rule)) same ∙ part-accepted

  pub strip-written : {xs : List ℤ} → xs ≡ elements_by part rule → (buffer : List ℕ) → length buffer ≡ len → write_box_buffer q part xs buffer ≡ part_painted q box part image pixels k buffer
  unfolding write_box_buffer part_painted
  strip-written e buffer same =
      ap (λ (ys : List ℤ). write_box_buffer q part ys buffer) e
      ∙ leaves-done (edited q part (elements_by part rule) buffer) buffer (strip-accepted refl same)

  -- and how many of its components are held
  pub strip-counted : {at m e : ℕ} → at ≡ pixel_position image x y → m ≡ channels → e ≡ size
      → strip_held image.format e m k q.precision pixels at count ≡ pixels_held image pixels k q.precision x y count
  strip-counted {at} {m} {e} ea em ee =
      ap (λ (c : ℕ). strip_held image.format e c k q.precision pixels at count) em
      ∙ ap (λ (s : ℕ). strip_held image.format s channels k q.precision pixels at count) ee
      ∙ ap (λ (a : ℕ). strip_held image.format size channels k q.precision pixels a count) ea
      ∙ strip-of image pixels k q.precision x y count channels size (sym r.setting.channels_is) r.components.whole refl

-- ---- strips side by side, rows below rows
pub painted-length : (q : CubeLayout) (box part : ElementBox) (image : PixelSetting) (pixels : List ℕ) (k : Conversion) (before : List ℕ) → length (part_painted q box part image pixels k before) ≡ length before
unfolding part_painted
painted-length q box part image pixels k before = edited-length q part _ before

module _ (q : CubeLayout) (box : ElementBox) (image : PixelSetting) (pixels : List ℕ) (k : Conversion) (before : List ℕ) where
  abbrev painted : ElementBox → List ℕ → List ℕ
  painted part buf = part_painted q box part image pixels k buf

  -- no element
  none : (part : ElementBox) → ((c h w : ℕ) → InBox part c h w → ⊥) → before ≡ painted part before
  unfolding part_painted
  none part void = sym (edited-none part _ void q before)

  pub row-none : (y : ℕ) → before ≡ painted (strip_of box 0 y 0) before
  row-none y = none (strip_of box 0 y 0) (no-columns (row_of box y))

  pub rows_none : before ≡ painted (band box 0 0) before
  rows_none = none (band box 0 0) (no_rows box)

  pub row_more : (x y count : ℕ) {buf after : List ℕ} → buf ≡ painted (strip_of box 0 y x) before → after ≡ painted (strip_of box x y count) buf → after ≡ painted (strip_of box 0 y (x + count)) before
  unfolding part_painted
  row_more x y count {buf} e w =
      let f = painted_at box image pixels k q.precision in
      let l = strip_of box 0 y x in
      let n = strip_of box x y count in
      let all = strip_of box 0 y (x + count) in
      w
      ∙ ap (edited q n (elements_by n f)) e
      ∙ edited-join f l n all (elements_by l f) (elements_by n f) (elements_by all f) (columns-join (row_of box y) x count) (by-gives f l) (by-gives f n) (by-gives f all) q before

  -- the next strip of a row of so many columns, at most 256 of them
  pub row-next : (x y count width : ℕ) → x < width → count ≡ min (width - x) 256 → {buf after : List ℕ} → buf ≡ painted (strip_of box 0 y (min x width)) before
      → after ≡ painted (strip_of box x y count) buf → after ≡ painted (strip_of box 0 y (min (x + 256) width)) before
  row-next x y count width lt is e w =
      let first : min x width ≡ x = omega arith in
      let next : x + count ≡ min (x + 256) width = omega arith in
      row_more x y count (e ∙ ap (λ (n : ℕ). painted (strip_of box 0 y n) before) first) w ∙ ap (λ (n : ℕ). painted (strip_of box 0 y n) before) next

  pub rows_more : (y : ℕ) {buf after : List ℕ} → buf ≡ painted (band box 0 y) before → after ≡ painted (row_of box y) buf → after ≡ painted (band box 0 (y + 1)) before
  unfolding part_painted
  rows_more y {buf} e w =
      let f = painted_at box image pixels k q.precision in
      let l = band box 0 y in
      let n = band box y 1 in
      let all = band box 0 (y + 1) in
      w
      ∙ ap (edited q n (elements_by n f)) e
      ∙ edited-join f l n all (elements_by l f) (elements_by n f) (elements_by all f) (rows_join box y 1) (by-gives f l) (by-gives f n) (by-gives f all) q before

  row-all : (y : ℕ) → painted (strip_of box 0 y box.columns) before ≡ painted (row_of box y) before
  row-all y = ap (λ (b : ElementBox). painted b before) (strip-all (row_of box y))

  pub row-end : (x y width : ℕ) → width ≤ x → box.columns ≡ width → painted (strip_of box 0 y (min x width)) before ≡ painted (row_of box y) before
  row-end x y width past same = let all : min x width ≡ box.columns = omega arith in ap (λ (n : ℕ). painted (strip_of box 0 y n) before) all ∙ row-all y

  pub rows_all : painted (band box 0 box.rows) before ≡ painted box before
  rows_all = ap (λ (b : ElementBox). painted b before) (band-all box)
