-- `parlour_calls::strips::pixel_at` meets its contract: a pixel of an accepted picture has a position. Assumes nothing.
use mathlib.Core.Path.{◌∙◌}
use Rattle.parlour_calls.proofs.AnswerLaws.{is-given, taken, pixel-given}
use Rattle.parlour_calls.proofs.strips.pixel_at.Goals as goal

pub unwrap-requires : goal.unwrap-requires
unwrap-requires c = let a = c.args in is-given (c.position.ensures ∙ pixel-given a.image a.x a.y c.requires.0 c.requires.1 c.requires.2)

pub returns : goal.returns
returns c = let a = c.args in taken (c.position.ensures ∙ pixel-given a.image a.x a.y c.requires.0 c.requires.1 c.requires.2) c.unwrap.ensures
