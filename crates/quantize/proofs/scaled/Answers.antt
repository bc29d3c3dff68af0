-- `quantize::scaled` meets its contract: difference and product stay within 64 bits. Assumes nothing.
use Rattle.quantize.proofs.ScaleLaws.{product-fits, product_value, product_small}
use Rattle.quantize.proofs.scaled.Goals as goal

pub overflow_mul-result : goal.overflow_mul-result
overflow_mul-result c = product-fits c.ranges.d c.ranges.offset c.ranges.scale

pub returns : goal.returns
returns c = let e = product_value c.ranges.d c.ranges.offset c.ranges.scale in (e, rw e (product_small c.ranges.d c.ranges.offset c.ranges.scale))
