-- What writing all runs leaves, and clearing the fill behind them: the packed buffer (weights/specs/Contents.antt). Each run is a step toward it. Assumes
-- nothing.
--     Writing                                 the walk that writes
--     write-first, write-next, write_done     its start, a turn and its end
--     write-packed                            ..and the fill cleared
use Prim.Native.Nat.{ℕ, ◌+◌, ◌-◌, ◌*◌, ◌/◌, ◌%◌, ◌≤◌, ◌<◌}
use native.Mathlib.Nat.{div-add-mod', div-lt_iff_lt-mul, mod-lt}
use native.Mathlib.Decide.{dec_lt}
use native.Mathlib.Omega.{arith}
use mathlib.Core.Path.{◌≡◌, sym, ap, ◌∙◌, subst}
use mathlib.Core.Logic.{inl, inr, ⊎_elim}
use mathlib.Core.List.{List}
use lib.ListN.{length, get_or}
use lib.IntN.{ℤ, pos}
use lib.Seq.{ext_get_or}
use borrow.Author.Tests.{lt-ltb, le-ltb}
use Rattle.general.proofs.Toward.{Toward, reached-kept}
use Rattle.elements.specs.Bytes.{byte_of}
use Rattle.elements.proofs.ByteLaws.{element_bytes-pos}
use Rattle.elements.proofs.ListLaws.{length-remade, get_or-remade}
use Rattle.columns.specs.Blocks.{block_written, cleared}
use Rattle.columns.proofs.BlockLaws.{BlockFits}
use Rattle.columns.proofs.TowardLaws.{block-written-toward, block-written-reached}
use Rattle.columns.proofs.ClearLaws.{cleared-length, cleared-in, cleared-out}
use Rattle.weights.specs.declared.WeightLayout.{WeightLayout}
use Rattle.weights.specs.Geometry.{size_of, element_count, surface_bytes, raw_at}
use Rattle.weights.specs.Contents.{packed}
use Rattle.weights.proofs.Valid.{Valid}
use Rattle.weights.proofs.SurfaceLaws.{surface_ge, byte-within, packed-length, packed-at, packed-byte, packed-fill, packed-past}
use Rattle.weights_calls.specs.declared.runs.Run.{Run}
use Rattle.weights_calls.specs.Steps.{AtRun, NextRun, run_columns, written}
use Rattle.weights_calls.proofs.CellLaws.{Holds, run_holds, holds_fits}
use Rattle.weights_calls.proofs.WalkLaws.{RunHas, Walked, walked-first, walked_next, walked_all}

module _ (q : WeightLayout) (raw : List ℤ) (before : List ℕ) where
  written-length : length (written q raw before) ≡ length before
  unfolding written
  written-length = length-remade _ before

  written-inside : (p : ℕ) → p < element_count q * size_of q → p < length before → get_or (written q raw before) p 0 ≡ get_or (packed q raw before) p 0
  unfolding written
  written-inside p h lt = get_or-remade _ before p 0 lt ∙ rw (lt-ltb p (element_count q * size_of q) h) (sym (packed-at q raw before p lt))

  written-outside : (p : ℕ) → element_count q * size_of q ≤ p → p < length before → get_or (written q raw before) p 0 ≡ get_or before p 0
  unfolding written
  written-outside p h lt = get_or-remade _ before p 0 lt ∙ rw (le-ltb p (element_count q * size_of q) h)

  -- the bytes of the element with number i are written
  abbrev Written : ℕ → List ℕ → Type 0
  Written i l = (b : ℕ) → b < size_of q → get_or l (i * size_of q + b) 0 ≡ get_or (written q raw before) (i * size_of q + b) 0

  -- the walk stands at run x
  abbrev pub Writing : List ℕ → Run → Type 0
  Writing l x = Walked q 0 (written q raw before) Written before l x

  pub write-first : Valid q → Writing before (record { first = 0; block = 0; kernel = 0 })
  write-first ok = walked-first q 0 (written q raw before) Written ok before

  written-kept : (l₁ l₂ : List ℕ) → Toward 0 (written q raw before) l₁ l₂ → (i : ℕ) → Written i l₁ → Written i l₂
  written-kept l₁ l₂ step i h b hb = reached-kept 0 (written q raw before) step (i * size_of q + b) (h b hb)

  module _ (room : surface_bytes q ≤ length before) where
    element-byte : (k b : ℕ) → k < element_count q → b < size_of q → byte_of (get_or raw (raw_at q k) (pos 0)) b ≡ get_or (written q raw before) (k * size_of q + b) 0
    element-byte k b hk hb =
        let within = byte-within q k b hk hb in
        let lt : k * size_of q + b < length before = omega (arith, within, surface_ge q) in
        sym (written-inside (k * size_of q + b) within lt ∙ packed-byte q raw before k b hk hb lt)

    -- ---- one run

    module _ (ok : Valid q) (count : length raw ≡ element_count q) (x : Run) (a : AtRun q x) (l : List ℕ) (long : length l ≡ length before) where
      held : Holds q x (run_columns q x)
      held = run_holds q ok x a

      fits : BlockFits (run_columns q x) (length raw) (length l)
      fits = holds_fits q ok x a (run_columns q x) held (length raw) (length l) count (omega (arith, long, room, surface_ge q))

      same : (r i b : ℕ) → r < (run_columns q x).rows → i < (run_columns q x).count → b < (run_columns q x).size
          → (let k = run_columns q x in
          byte_of (get_or raw (k.from + i + r * k.plane) (pos 0)) b ≡ get_or (written q raw before) (k.at + k.stride * i + r * k.size + b) 0)
      same r i b hr hi hb =
          let k = run_columns q x in
          let w = held.each i r hi hr in
          let source : k.from + i + r * k.plane ≡ raw_at q w.0 = omega (arith, w.1.index) in
          ap (λ (j : ℕ). byte_of (get_or raw j (pos 0)) b) source
          ∙ element-byte w.0 b w.1.number_lt (omega (arith, held.size_is))
          ∙ ap (λ (p : ℕ). get_or (written q raw before) (p + b) 0) (sym w.1.byte)

      write-has : RunHas q 0 (written q raw before) Written x (block_written (run_columns q x) raw l)
      write-has j of t c ht hc b hb =
          let w = held.all j t c of ht hc in
          subst (λ (p : ℕ). get_or (block_written (run_columns q x) raw l) (p + b) 0 ≡ get_or (written q raw before) (p + b) 0) w.2.byte
          (block-written-reached (run_columns q x) raw (written q raw before) l fits same w.1 w.0 b w.2.row_lt w.2.column_lt (omega (arith, held.size_is)))

    -- a turn of the walk
    pub write-next : (ok : Valid q) → length raw ≡ element_count q → (x y : Run) {l l' : List ℕ} → AtRun q x → Writing l x
        → l' ≡ block_written (run_columns q x) raw l → NextRun q x y → Writing l' y
    write-next ok count x y {l} a w e next =
        let long = w.toward.long in
        rw e
        (walked_next q 0 (written q raw before) Written ok written-kept x y a w (block-written-toward (run_columns q x) raw (written q raw before) l (fits ok count x a l long) (same ok count x a l long)) (write-has ok count x a l long) next)

    -- ---- all runs, and the fill

    written_all : (l : List ℕ) → Toward 0 (written q raw before) before l → ((i : ℕ) → i < element_count q → Written i l) → l ≡ written q raw before
    written_all l step all =
        ext_get_or 0 l (written q raw before) (step.long ∙ sym written-length)
        (λ p h.
        let lt : p < length before = subst (λ (n : ℕ). p < n) step.long h in
        let e = size_of q in
        let some : 0 < e = element_bytes-pos q.precision in
        elim (dec_lt p (element_count q * e)) [
          | yes b ↦ subst (λ (n : ℕ). get_or l n 0 ≡ get_or (written q raw before) n 0) (div-add-mod' p e) (all (p / e) ((div-lt_iff_lt-mul some).1 b) (p % e) (mod-lt p some))
          | no f ↦ ⊎_elim (λ s. s ∙ sym (written-outside p (omega arith) lt)) (λ s. s) (step.each p)
        ])

    pub write_done : (ok : Valid q) (x : Run) (l : List ℕ) → q.kernels ≤ x.first → Writing l x → l ≡ written q raw before
    write_done ok x l past w = written_all l w.toward (walked_all q 0 (written q raw before) Written ok x past w)

    pub write-packed : {end whole : ℕ} {l after : List ℕ} → end ≡ element_count q * size_of q → whole ≡ surface_bytes q → l ≡ written q raw before
        → after ≡ cleared end (whole - end) l → after ≡ packed q raw before
    write-packed e s w a =
        let end = element_count q * size_of q in
        let n = surface_bytes q - end in
        let long = cleared-length end n (written q raw before) in
        a ∙ rw (e, s, w)
        (ext_get_or 0 (cleared end n (written q raw before)) (packed q raw before) (long ∙ written-length ∙ sym (packed-length q raw before))
        (λ p h.
        let lw : p < length (written q raw before) = subst (λ (m : ℕ). p < m) long h in
        let lt : p < length before = subst (λ (m : ℕ). p < m) written-length lw in
        elim (dec_lt p end) [
          | yes b ↦ cleared-out end n (written q raw before) p (inl b) ∙ written-inside p b lt
          | no f ↦ elim (dec_lt p (surface_bytes q)) [
            | yes b ↦ cleared-in end n (written q raw before) p lw (omega arith) (omega arith) ∙ sym (packed-fill q raw before p (omega arith) b lt)
            | no g ↦ cleared-out end n (written q raw before) p (inr (omega (arith, surface_ge q))) ∙ written-outside p (omega arith) lt ∙ sym (packed-past q raw before p (omega arith))
          ]
        ]))
