-- What each call on weights answers and leaves (scope paper, "Weights", "Refusal numbers": "Orders"). Where a call is refused, every lent list
-- stays as it was. Assumes nothing.
use Rattle.std.specs.Prelude.{ℕ, List, ◌++◌, length, ℤ}
use Rattle.refusal.specs.Checks.{in_order, leaves, quantity, Answer, Quantity}
use Rattle.elements.specs.Values.{value_checks}
use Rattle.weights.specs.declared.WeightLayout.{WeightLayout}
use Rattle.weights.specs.Geometry.{element_count, element_position, surface_bytes}
use Rattle.weights.specs.Rules.{setting_checks, weight_checks, element_checks}
use Rattle.weights.specs.Contents.{packed, unpacked}

-- pack: 1, 2, 6, 5, then 7 or 26
unfoldable pub pack_answer : WeightLayout → List ℤ → ℕ → Answer
pack_answer q raw len = in_order (weight_checks q (length raw) len ++ value_checks q.precision raw)

unfoldable pub pack_buffer : WeightLayout → List ℤ → List ℕ → List ℕ
pack_buffer q raw before = leaves (pack_answer q raw (length before)) (packed q raw before) before

-- unpack: 1, 2, 6, 5
unfoldable pub unpack_answer : WeightLayout → ℕ → ℕ → Answer
unpack_answer q given len = in_order (weight_checks q given len)

unfoldable pub unpack_elements : WeightLayout → List ℕ → List ℤ → List ℤ
unpack_elements q buffer before = leaves (unpack_answer q (length before) (length buffer)) (unpacked q buffer) before

-- the count of elements: 1, 2
unfoldable pub count_quantity : WeightLayout → Quantity
count_quantity q = quantity (in_order (setting_checks q)) (element_count q)

-- the bytes of the packed surface: 1, 2
unfoldable pub extent_quantity : WeightLayout → Quantity
extent_quantity q = quantity (in_order (setting_checks q)) (surface_bytes q)

-- the position of an element: 1, 2, 9
unfoldable pub position_quantity : WeightLayout → ℕ → ℕ → ℕ → ℕ → Quantity
position_quantity q k c r s = quantity (in_order (element_checks q k c r s)) (element_position q k c r s)
