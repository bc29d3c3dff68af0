-- What packing and unpacking weights leave (scope paper, "Weights"). Assumes nothing.
use Rattle.std.specs.Prelude.{ℕ, ◌*◌, ◌/◌, ◌%◌, cond, List, get_or, ltb, ℤ, pos}
use Rattle.elements.specs.Bytes.{byte_of, element_at}
use Rattle.elements.specs.Lists.{remade, tabulate}
use Rattle.weights.specs.declared.WeightLayout.{WeightLayout}
use Rattle.weights.specs.Geometry.{size_of, element_count, surface_bytes, raw_at, number_at}

-- byte p after packing: a byte of the element whose number is p / e, 0 from the last element to the surface's end, else as it was
unfoldable pub packed_byte : WeightLayout → List ℤ → ℕ → ℕ → ℕ
packed_byte q raw p old =
    cond (ltb p (element_count q * size_of q)) (byte_of (get_or raw (raw_at q (p / size_of q)) (pos 0)) (p % size_of q)) (cond (ltb p (surface_bytes q)) 0 old)

-- the buffer after packing raw weights over `before`
unfoldable pub packed : WeightLayout → List ℤ → List ℕ → List ℕ
packed q raw before = remade (packed_byte q raw) before

-- the raw weights that a buffer holds
unfoldable pub unpacked : WeightLayout → List ℕ → List ℤ
unpacked q buffer = tabulate (element_count q) (λ (i : ℕ). element_at (size_of q) buffer (number_at q i * size_of q))
