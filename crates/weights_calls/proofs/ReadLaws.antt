-- What reading all runs leaves: the raw weights (weights/specs/Contents.antt). Each run is a step toward them. Assumes nothing.
--     Reading                              the walk that reads
--     read_first, read_next, read_done     its start, a turn and its end
use Prim.Native.Nat.{ℕ, ◌+◌, ◌*◌, ◌≤◌, ◌<◌}
use native.Mathlib.Omega.{arith}
use mathlib.Core.Path.{◌≡◌, sym, ap, ap₂, ◌∙◌, subst}
use mathlib.Core.List.{List}
use lib.ListN.{length, get_or}
use lib.IntN.{ℤ, pos}
use lib.Seq.{ext_get_or}
use Rattle.general.proofs.Toward.{Toward, reached-kept}
use Rattle.elements.specs.Bytes.{element_at}
use Rattle.elements.proofs.TabulateLaws.{length-tabulate, get_d_tabulate}
use Rattle.columns.specs.Blocks.{block_read}
use Rattle.columns.proofs.BlockLaws.{BlockFits}
use Rattle.columns.proofs.TowardLaws.{block-read-toward, block-read-reached}
use Rattle.weights.specs.declared.WeightLayout.{WeightLayout}
use Rattle.weights.specs.Geometry.{size_of, element_count, surface_bytes, raw_at, number_at}
use Rattle.weights.specs.Contents.{unpacked}
use Rattle.weights.proofs.Valid.{Valid}
use Rattle.weights.proofs.IndexLaws.{raw_at-lt, number_at-lt, number_at-raw_at, raw_at-number_at}
use Rattle.weights.proofs.SurfaceLaws.{surface_ge}
use Rattle.weights_calls.specs.declared.runs.Run.{Run}
use Rattle.weights_calls.specs.Steps.{AtRun, NextRun, run_columns}
use Rattle.weights_calls.proofs.CellLaws.{Holds, run_holds, holds_fits}
use Rattle.weights_calls.proofs.WalkLaws.{RunHas, Walked, walked-first, walked_next, walked_all}

module _ (q : WeightLayout) (buffer : List ℕ) where
  -- the element with number i is read
  abbrev Read : ℕ → List ℤ → Type 0
  Read i l = get_or l (raw_at q i) (pos 0) ≡ get_or (unpacked q buffer) (raw_at q i) (pos 0)

  -- the walk stands at run x
  abbrev pub Reading : List ℤ → List ℤ → Run → Type 0
  Reading before l x = Walked q (pos 0) (unpacked q buffer) Read before l x

  read_kept : (l₁ l₂ : List ℤ) → Toward (pos 0) (unpacked q buffer) l₁ l₂ → (i : ℕ) → Read i l₁ → Read i l₂
  read_kept l₁ l₂ step i e = reached-kept (pos 0) (unpacked q buffer) step (raw_at q i) e

  module _ (ok : Valid q) where
    pub read_first : (before : List ℤ) → Reading before before (record { first = 0; block = 0; kernel = 0 })
    read_first = walked-first q (pos 0) (unpacked q buffer) Read ok

    element : (k : ℕ) → k < element_count q → element_at (size_of q) buffer (k * size_of q) ≡ get_or (unpacked q buffer) (raw_at q k) (pos 0)
    unfolding unpacked
    element k hk =
        ap (λ (n : ℕ). element_at (size_of q) buffer (n * size_of q)) (sym (number_at-raw_at q ok k hk))
        ∙ sym (get_d_tabulate (λ (i : ℕ). element_at (size_of q) buffer (number_at q i * size_of q)) (element_count q) (raw_at q k) (pos 0) (raw_at-lt q ok k hk))

    -- ---- one run

    module _ (room : surface_bytes q ≤ length buffer) (x : Run) (a : AtRun q x) (l : List ℤ) (count : length l ≡ element_count q) where
      held : Holds q x (run_columns q x)
      held = run_holds q ok x a

      fits : BlockFits (run_columns q x) (length l) (length buffer)
      fits = holds_fits q ok x a (run_columns q x) held (length l) (length buffer) count (omega (arith, room, surface_ge q))

      same : (r i : ℕ) → r < (run_columns q x).rows → i < (run_columns q x).count
          → (let k = run_columns q x in
          element_at k.size buffer (k.at + k.stride * i + r * k.size) ≡ get_or (unpacked q buffer) (k.from + k.plane * r + i) (pos 0))
      same r i hr hi =
          let w = held.each i r hi hr in
          ap₂ (λ (e p : ℕ). element_at e buffer p) held.size_is w.1.byte
          ∙ element w.0 w.1.number_lt
          ∙ ap (λ (p : ℕ). get_or (unpacked q buffer) p (pos 0)) (sym w.1.index)

      read_has : RunHas q (pos 0) (unpacked q buffer) Read x (block_read (run_columns q x) buffer l)
      read_has j of t c ht hc =
          let w = held.all j t c of ht hc in
          subst (λ (p : ℕ). get_or (block_read (run_columns q x) buffer l) p (pos 0) ≡ get_or (unpacked q buffer) p (pos 0)) w.2.index
          (block-read-reached (run_columns q x) buffer (unpacked q buffer) l fits held.wide same w.1 w.0 w.2.row_lt w.2.column_lt)

    -- a turn of the walk
    pub read_next : surface_bytes q ≤ length buffer → (before : List ℤ) → length before ≡ element_count q → (x y : Run) {l l' : List ℤ} → AtRun q x
        → Reading before l x → l' ≡ block_read (run_columns q x) buffer l → NextRun q x y → Reading before l' y
    read_next room before count x y {l} a w e next =
        let long = w.toward.long ∙ count in
        rw e
        (walked_next q (pos 0) (unpacked q buffer) Read ok read_kept x y a w (block-read-toward (run_columns q x) buffer (unpacked q buffer) l (fits room x a l long) (run_holds q ok x a).wide (same room x a l long)) (read_has room x a l long) next)

    -- ---- all runs

    unpacked-all : (l : List ℤ) → length l ≡ element_count q → ((i : ℕ) → i < element_count q → Read i l) → l ≡ unpacked q buffer
    unfolding unpacked
    unpacked-all l count all =
        ext_get_or (pos 0) l (unpacked q buffer) (count ∙ sym (length-tabulate (λ (i : ℕ). element_at (size_of q) buffer (number_at q i * size_of q)) (element_count q)))
        (λ i h.
        let hi : i < element_count q = subst (λ (n : ℕ). i < n) count h in
        subst (λ (j : ℕ). get_or l j (pos 0) ≡ get_or (unpacked q buffer) j (pos 0)) (raw_at-number_at q ok i hi) (all (number_at q i) (number_at-lt q ok i hi)))

    pub read_done : (before : List ℤ) → length before ≡ element_count q → (x : Run) (l : List ℤ) → q.kernels ≤ x.first
        → Reading before l x → l ≡ unpacked q buffer
    read_done before count x l past w = unpacked-all l (w.toward.long ∙ count) (walked_all q (pos 0) (unpacked q buffer) Read ok x past w)
