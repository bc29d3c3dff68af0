-- A row of a box written, its atoms cleared before or not, comes toward what the buffer is to become, and reaches it in its channels; where the
-- atoms are cleared, they hold the last channels and the padding alone. Assumes nothing.
--     RowDone, row_done     one row written comes toward the goal, and reaches it in each of its channels
use Prim.Native.Nat.{ℕ, ◌+◌, ◌-◌, ◌*◌, ◌/◌, ◌%◌, ◌≤◌, ◌<◌}
use native.Mathlib.Omega.{arith}
use native.Mathlib.Decide.{dec_lt}
use native.Mathlib.Nat.{add-mul, div-add-mod', mod-lt, mul-le-mul_right}
use mathlib.Core.Path.{◌≡◌, sym, ap, subst, ◌∙◌}
use mathlib.Core.Bool.{Bool, true, false, ◌&&◌}
use mathlib.Core.Logic.{inl, inr, ⊎_elim}
use mathlib.Core.List.{List}
use lib.Dec.{ltb}
use lib.ListN.{length, get_or}
use lib.IntN.{ℤ, pos}
use borrow.Author.Tests.{ltb-true, lt-ltb}
use Rattle.general.proofs.Toward.{Toward}
use Rattle.general.proofs.TestLaws.{and-true}
use Rattle.elements.specs.Bytes.{byte_of}
use Rattle.elements.proofs.ByteLaws.{element_bytes-pos}
use Rattle.columns.specs.Blocks.{block_written, cleared}
use Rattle.columns.proofs.BlockLaws.{BlockFits}
use Rattle.columns.proofs.TowardLaws.{block-written-toward, block-written-reached}
use Rattle.columns.proofs.ClearLaws.{cleared-length, cleared-in, cleared-out, where-is}
use Rattle.layout.specs.declared.CubeLayout.{CubeLayout}
use Rattle.layout.specs.declared.ElementBox.{ElementBox}
use Rattle.layout.specs.Geometry.{size_of, surfaces, element_position, atom_position, cube_extent}
use Rattle.layout.specs.Boxes.{whole_box}
use Rattle.layout.proofs.Valid.{Valid}
use Rattle.layout.proofs.BoxLaws.{BoxValid}
use Rattle.layout.proofs.Views.{element-surface}
use Rattle.layout.proofs.Formulas.{AtomByte, PaddingByte, padding-exactly}
use Rattle.layout.proofs.Extents.{atom-within}
use Rattle.cube.specs.Steps.{run_from, run_position, AtomEnd, row_block, row_written}
use Rattle.cube.proofs.RowLaws.{row-index, row-position, row_fits}
use Rattle.cube.proofs.GoalLaws.{Goal, Reached}

module _ (q : CubeLayout) (ok : Valid q) (box : ElementBox) (inside : BoxValid q box) (pad : Bool) (plane line : ℕ) (xs : List ℤ)
    (enough : run_from plane line (box.channels - 1) (box.rows - 1) + box.columns ≤ length xs) (before goal : List ℕ)
    (room : q.start + cube_extent q ≤ length before) (g : Goal q box pad plane line xs before goal)
    (n m r : ℕ) (end : AtomEnd (size_of q) box.channel box.channels n m) (hr : r < box.rows) where
  hn : n < box.channels
  hn = omega (arith, end.some, end.le)

  -- ---- the block alone

  same : (k i j : ℕ) → k < m - n → i < box.columns → j < size_of q
      → byte_of (get_or xs (run_from plane line n r + i + k * plane) (pos 0)) j ≡ get_or goal (run_position q box n r + 32 * i + k * size_of q + j) 0
  same k i j hk hi hj =
      ap (λ (x : ℕ). byte_of (get_or xs x (pos 0)) j) (row-index plane line n r k i)
      ∙ g.held (n + k) r i j (omega (arith, hk, end.le)) hr hi hj
      ∙ ap (λ (x : ℕ). get_or goal (x + j) 0) (sym (row-position q box n m r end k i hk))

  module _ (l : List ℕ) (long : length l ≡ length before) where
    fits : BlockFits (row_block q box plane line n m r) (length xs) (length l)
    fits = row_fits q box n m r end ok inside hr plane line (length xs) (length l) enough (subst (λ (x : ℕ). q.start + cube_extent q ≤ x) (sym long) room)

    block-toward : Toward 0 goal l (block_written (row_block q box plane line n m r) xs l)
    block-toward = block-written-toward (row_block q box plane line n m r) xs goal l fits same

    block-reached : (k i j : ℕ) → k < m - n → i < box.columns → j < size_of q
        → get_or (block_written (row_block q box plane line n m r) xs l) (run_position q box n r + 32 * i + k * size_of q + j) 0 ≡ get_or goal (run_position q box n r + 32 * i + k * size_of q + j) 0
    block-reached = block-written-reached (row_block q box plane line n m r) xs goal l fits same

    channel-reached : (c : ℕ) → n ≤ c → c < m → (i b : ℕ) → i < box.columns → b < size_of q
        → get_or (block_written (row_block q box plane line n m r) xs l) (run_position q box c r + 32 * i + b) 0 ≡ get_or goal (run_position q box c r + 32 * i + b) 0
    channel-reached c low high i b hi hb =
        let k = c - n in
        let hk : k < m - n = omega arith in
        let at : run_position q box n r + 32 * i + k * size_of q ≡ run_position q box c r + 32 * i =
        row-position q box n m r end k i hk ∙ ap (λ (x : ℕ). run_position q box x r + 32 * i) (omega arith) in
        subst (λ (p : ℕ). get_or (block_written (row_block q box plane line n m r) xs l) (p + b) 0 ≡ get_or goal (p + b) 0) at (block-reached k i b hk hi hb)

  -- ---- in the whole cube only the last channels may leave their atoms unfilled: behind full atoms others follow

  some-bytes : 0 < (m - n) * size_of q
  some-bytes = omega (arith, mul-le-mul_right {m = 1} {n = m - n} (size_of q) (omega (arith, end.some)), element_bytes-pos q.precision)

  part-last : pad ≡ true → n * size_of q % 32 ≡ 0 → (m - n) * size_of q < 32 → m ≡ box.channels
  part-last t aligned part =
      elim (dec_lt m box.channels) [
        | yes h ↦
            let same : (box.channel + m) * size_of q ≡ n * size_of q + (m - n) * size_of q =
            ap (λ (x : ℕ). x * size_of q) (omega (arith, end.some, ap (λ (b : ElementBox). b.channel) (g.whole t))) ∙ add-mul n (m - n) (size_of q) in
            absurd (omega (arith, same, end.next h, aligned, part, some-bytes))
        | no f ↦ omega (arith, end.le)
      ]

  -- ---- the last surface of the whole cube: its row's atoms begin with channel n

  module _ (t : pad ≡ true) (last : m ≡ box.channels) (aligned : n * size_of q % 32 ≡ 0) where
    is_whole : box ≡ whole_box q
    is_whole = g.whole t

    -- where the row's atoms begin
    line_at : (c h : ℕ) → c * size_of q % 32 ≡ 0 → element_position q c h 0 ≡ atom_position q (c * size_of q / 32) h 0 0
    unfolding element_position atom_position
    line_at c h e = omega arith

    at-line : run_position q box n r ≡ atom_position q (n * size_of q / 32) r 0 0
    unfolding run_position
    at-line =
        let zn : 0 + n ≡ n = omega arith in
        let zr : 0 + r ≡ r = omega arith in
        ap (λ (b : ElementBox). element_position q (b.channel + n) (b.row + r) b.column) is_whole
        ∙ ap (λ (x : ℕ). element_position q x (0 + r) 0) zn
        ∙ ap (λ (x : ℕ). element_position q n x 0) zr
        ∙ line_at n r aligned

    -- the channels from n on are those of the last surface
    bytes : q.channels * size_of q ≡ n * size_of q + (m - n) * size_of q
    bytes =
        let all : q.channels ≡ n + (m - n) = omega (arith, last, end.some, ap (λ (b : ElementBox). b.channels) is_whole) in
        ap (λ (x : ℕ). x * size_of q) all ∙ add-mul n (m - n) (size_of q)

    fill : (m - n) * size_of q ≤ 32
    fill = omega (arith, end.one)

    some_bytes : n * size_of q < q.channels * size_of q
    some_bytes = omega (arith, bytes, some-bytes)

    -- where padding follows, they do not fill their atoms
    padded-part : {p : ℕ} → PaddingByte q p → (m - n) * size_of q < 32
    unfolding surfaces
    padded-part x = omega (arith, x.atom.surface_lt, x.atom.byte_lt, x.past, bytes, aligned)

    surface_lt : n * size_of q / 32 < surfaces q
    surface_lt = element-surface q ok n (omega (arith, hn, ap (λ (b : ElementBox). b.channels) is_whole))

    row_lt : r < q.height
    row_lt = omega (arith, hr, ap (λ (b : ElementBox). b.rows) is_whole)

    width : box.columns ≡ q.width
    width = ap (λ (b : ElementBox). b.columns) is_whole

    -- byte i of the row's atoms is byte i % 32 of its atom i / 32
    column_lt : (i : ℕ) → i < 32 * box.columns → i / 32 < q.width
    column_lt i hi = omega (arith, width)

    atom-place : (i : ℕ) → run_position q box n r + i ≡ q.start + n * size_of q / 32 * q.surface + r * q.line + 32 * (i / 32) + i % 32
    unfolding atom_position
    atom-place i = omega (arith, at-line)

    abbrev atom-at : (i : ℕ) → i < 32 * box.columns → AtomByte q (run_position q box n r + i)
    atom-at i hi =
        record {
          s = n * size_of q / 32;
          h = r;
          w = i / 32;
          k = i % 32;
          surface_lt = surface_lt;
          row_lt = row_lt;
          column_lt = column_lt i hi;
          byte_lt = mod-lt i (omega arith);
          place = atom-place i;
        }

    atom-room : (i : ℕ) → i < 32 * box.columns → run_position q box n r + i < length before
    unfolding atom_position
    atom-room i hi = omega (arith, atom-place i, room, atom-within q ok (n * size_of q / 32) r (i / 32) 32 surface_lt row_lt (column_lt i hi) (omega arith))

    module _ (l : List ℕ) (long : length l ≡ length before) where
      after : List ℕ
      after = block_written (row_block q box plane line n m r) xs (cleared (run_position q box n r) (32 * box.columns) l)

      long-cleared : length (cleared (run_position q box n r) (32 * box.columns) l) ≡ length before
      long-cleared = cleared-length (run_position q box n r) (32 * box.columns) l ∙ long

      -- each byte of the row's atoms is a channel's, and written, or padding, and cleared
      line-reached : (i : ℕ) → i < 32 * box.columns → get_or after (run_position q box n r + i) 0 ≡ get_or goal (run_position q box n r + i) 0
      unfolding after
      line-reached i hi =
          let e = size_of q in
          let x = i % 32 in
          elim (dec_lt (x / e) (m - n)) [
            | yes h ↦
                let p : run_position q box n r + 32 * (i / 32) + x / e * e + x % e ≡ run_position q box n r + i = omega (arith, div-add-mod' x e) in
                subst (λ (y : ℕ). get_or (block_written (row_block q box plane line n m r) xs (cleared (run_position q box n r) (32 * box.columns) l)) y 0 ≡ get_or goal y 0) p
                (block-reached (cleared (run_position q box n r) (32 * box.columns) l) long-cleared (x / e) (i / 32) (x % e) h (omega arith) (mod-lt x (element_bytes-pos q.precision)))
            | no f ↦
                let past : q.channels * e ≤ 32 * (n * e / 32) + x = omega (arith, bytes, aligned, div-add-mod' x e, mul-le-mul_right {m = m - n} {n = x / e} e (omega arith)) in
                let pd : PaddingByte q (run_position q box n r + i) = record { atom = atom-at i hi; past = past } in
                let none = g.zero t (run_position q box n r + i) (atom-room i hi) ((padding-exactly q ok (run_position q box n r + i)).1 pd) in
                ⊎_elim
                (λ s. s ∙ cleared-in (run_position q box n r) (32 * box.columns) l (run_position q box n r + i) (omega (arith, atom-room i hi, long)) (omega arith) (omega arith) ∙ sym none)
                (λ s. s)
                ((block-toward (cleared (run_position q box n r) (32 * box.columns) l) long-cleared).each (run_position q box n r + i))
          ]

      cleared-toward : Toward 0 goal l after
      unfolding after
      cleared-toward =
          let near = block-toward (cleared (run_position q box n r) (32 * box.columns) l) long-cleared in
          record {
            long = near.long ∙ cleared-length (run_position q box n r) (32 * box.columns) l;
            each = λ p. ⊎_elim
                (λ w.
                let i = p - run_position q box n r in
                let is : run_position q box n r + i ≡ p = omega (arith, w.0) in
                inr (subst (λ (y : ℕ). get_or (block_written (row_block q box plane line n m r) xs (cleared (run_position q box n r) (32 * box.columns) l)) y 0 ≡ get_or goal y 0) is (line-reached i (omega (arith, w.0, w.1)))))
                (λ o. ⊎_elim (λ s. inl (s ∙ cleared-out (run_position q box n r) (32 * box.columns) l p o)) (λ s. inr s) (near.each p))
                (where-is (run_position q box n r) (32 * box.columns) p);
          }

      -- padding lies in the last surface
      pads-reached : (p : ℕ) (x : PaddingByte q p) → x.atom.h ≡ r → get_or after p 0 ≡ get_or goal p 0
      unfolding surfaces atom_position
      pads-reached p x here =
          let a = x.atom in
          let s : a.s ≡ n * size_of q / 32 = omega (arith, a.surface_lt, a.byte_lt, x.past, bytes, fill, some_bytes, aligned) in
          let i = 32 * a.w + a.k in
          let is : run_position q box n r + i ≡ p = omega (arith, at-line, a.place, ap (λ (y : ℕ). y * q.surface) s, ap (λ (y : ℕ). y * q.line) here) in
          subst (λ (y : ℕ). get_or after y 0 ≡ get_or goal y 0) is (line-reached i (omega (arith, a.column_lt, a.byte_lt, width)))

  -- ---- both

  -- a list comes toward the goal, and reaches it in the row's channels
  pub record RowDone (l after : List ℕ) : Type 0 where
    pub near : Toward 0 goal l after
    pub reached : (c : ℕ) → n ≤ c → c < m → Reached q box pad goal after c r

  module _ (aligned : pad ≡ true → n * size_of q % 32 ≡ 0) (l : List ℕ) (long : length l ≡ length before) where
    pub row_done : (clear : Bool) → clear ≡ pad && ltb ((m - n) * size_of q) 32 → RowDone l (row_written (row_block q box plane line n m r) clear xs l)
    unfolding row_written after
    row_done false e =
        record {
          near = block-toward l long;
          reached = λ c low high. record {
            elements = channel-reached l long c low high;
            pads = λ t z p x h.
                let part = padded-part t (omega (arith, z, high, end.le)) (aligned t) x in
                absurd (differ (e ∙ ap (λ (b : Bool). b && ltb ((m - n) * size_of q) 32) t ∙ lt-ltb ((m - n) * size_of q) 32 part));
          };
        }
      where
        differ : false ≡ true → ⊥
        differ z = let y : ◌≡◌ {A = ℕ} 0 1 = cc in omega arith
    row_done true e =
        let b = and-true pad (ltb ((m - n) * size_of q) 32) (sym e) in
        let last = part-last b.0 (aligned b.0) (ltb-true ((m - n) * size_of q) 32 b.1) in
        record {
          near = cleared-toward b.0 last (aligned b.0) l long;
          reached = λ c low high. record {
            elements = channel-reached (cleared (run_position q box n r) (32 * box.columns) l) (cleared-length (run_position q box n r) (32 * box.columns) l ∙ long) c low high;
            pads = λ t z p x h. pads-reached b.0 last (aligned b.0) l long p x h;
          };
        }
