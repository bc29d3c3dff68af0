-- `regions_calls::find` meets its contract: the box that is found is all of the region. Assumes nothing.
use Rattle.regions.specs.Calls.{region_found}
use Rattle.regions_calls.specs.Steps.{found_box}
use Rattle.regions_calls.proofs.find.Goals as goal

pub returns : goal.returns
unfolding region_found found_box
returns c = c.find_box.ensures
