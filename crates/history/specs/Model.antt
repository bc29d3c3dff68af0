-- The reference model (the scope paper's "plain picture"): a raw tensor and sixteen slots, with no buffer and no table of the program in reach. It
-- is given the packed tensor, the layout and the buffer's length, and then each call's own arguments. A filled slot holds its owner's id beside the
-- rectangle. Assumes nothing.
use Rattle.std.specs.Prelude.{ℕ, cond, List, [], ◌∷◌, length, get_or, set, ℤ, pos}
use Rattle.refusal.specs.Checks.{in_order, leaves, Answer}
use Rattle.elements.specs.Lists.{remade}
use Rattle.layout.specs.declared.CubeLayout.{CubeLayout}
use Rattle.layout.specs.declared.ElementBox.{ElementBox}
use Rattle.layout.specs.Geometry.{raw_index}
use Rattle.layout.specs.Boxes.{whole_box, box_has, box_index, channel_at, row_at, column_at}
use Rattle.layout.specs.Contents.{zeros_of, elements_by}
use Rattle.layout.specs.Calls.{pack_buffer}
use Rattle.regions.specs.Slots.{Slot, empty, filled, empty_slots}
use Rattle.regions.specs.Rules.{Access, access, region_box, whole_region, place_checks, read_checks, edit_checks, release_checks}
use Rattle.parlour.specs.Components.{painted_elements}
use Rattle.parlour.specs.Counts.{held_count}
use Rattle.parlour.specs.Rules.{paint_checks}
use Rattle.history.specs.Program.{Call, place, edit, read, release, paint, none, held, Reply, reply_of, Shown}

-- the raw tensor with elements written at a box, in raw order over the box
unfoldable pub box_written : CubeLayout → ElementBox → List ℤ → List ℤ → List ℤ
box_written q box elements raw =
    remade
    (λ (i : ℕ) (old : ℤ).
    let c = channel_at (whole_box q) i in
    let h = row_at (whole_box q) i in
    let w = column_at (whole_box q) i in
    cond (box_has box c h w) (get_or elements (box_index box c h w) (pos 0)) old)
    raw

-- the raw tensor's elements at a box, in raw order over the box
unfoldable pub box_read : CubeLayout → ElementBox → List ℤ → List ℤ
box_read q box raw = elements_by box (λ (c h w : ℕ). get_or raw (raw_index q c h w) (pos 0))

-- what the model keeps
pub record Plain : Type 0 where
  pub raw : List ℤ
  pub slots : List Slot

-- what a call gives: its reply, the caller's elements and the model after it
pub record PlainStep : Type 0 where
  pub reply : Reply
  pub elements : List ℤ
  pub state : Plain

-- the model's step from its parts
abbrev pub plain_step_with : Reply → List ℤ → List ℤ → List Slot → PlainStep
plain_step_with reply elements raw slots = record { reply = reply; elements = elements; state = record { raw = raw; slots = slots } }

-- the step of a call that gives no value
abbrev pub plain_step_of : Answer → List ℤ → List ℤ → List Slot → PlainStep
plain_step_of answer elements raw slots = plain_step_with (record { answer = answer; value = none }) elements raw slots

module _ (q : CubeLayout) (len : ℕ) where
  -- what a call through slot n with an id goes by
  abbrev pub named : Plain → ℕ → ℕ → Access
  named s n id = access q s.slots n id

  -- the answer to a call, by its order of checks
  unfoldable pub plain_answer : Plain → Call → Answer
  plain_answer s (place n id g) = in_order (place_checks (named s n id) g)
  plain_answer s (edit n id b xs) = in_order (edit_checks (named s n id) b xs len)
  plain_answer s (read n id b xs) = in_order (read_checks (named s n id) b (length xs) len)
  plain_answer s (release n id) = in_order (release_checks (named s n id) len)
  plain_answer s (paint n id image pixels k) = in_order (paint_checks (named s n id) image k.shift (length pixels) len)

  -- one call: refused, it changes nothing; a release is an edit of zeros to the whole region, and empties the slot; a painting is an edit of the converted
  -- components to the whole region, and its reply tells how many of them were held at a limit
  unfoldable pub plain_step : Plain → Call → PlainStep
  plain_step s (place n id g) = let a = plain_answer s (place n id g) in plain_step_of a [] s.raw (leaves a (set s.slots n (filled id g)) s.slots)
  plain_step s (edit n id b xs) = let a = plain_answer s (edit n id b xs) in plain_step_of a xs (leaves a (box_written q (region_box (named s n id) b) xs s.raw) s.raw) s.slots
  plain_step s (read n id b xs) = let a = plain_answer s (read n id b xs) in plain_step_of a (leaves a (box_read q (region_box (named s n id) b) s.raw) xs) s.raw s.slots
  plain_step s (release n id) =
      let a = plain_answer s (release n id) in
      let box = region_box (named s n id) (whole_region (named s n id)) in
      plain_step_of a [] (leaves a (box_written q box (zeros_of box) s.raw) s.raw) (leaves a (set s.slots n empty) s.slots)
  plain_step s (paint n id image pixels k) =
      let a = plain_answer s (paint n id image pixels k) in
      let box = region_box (named s n id) (whole_region (named s n id)) in
      let reply = reply_of a (held (held_count image pixels k q.precision)) in
      plain_step_with reply [] (leaves a (box_written q box (painted_elements image pixels k q.precision) s.raw) s.raw) s.slots

  -- what the model gives after each call of a list
  unfoldable pub model : Plain → List Call → List PlainStep
  model s [] = []
  model s (c ∷ calls) = plain_step s c ∷ model (plain_step s c).state calls

  -- the model after a list of calls
  unfoldable pub model_to : Plain → List Call → Plain
  model_to s [] = s
  model_to s (c ∷ calls) = model_to (plain_step s c).state calls

-- what the model gives, shown as the program shows it: its raw tensor packed over the bytes from before the packing
unfoldable pub shown : CubeLayout → List ℕ → PlainStep → Shown
shown q before g = record { reply = g.reply; elements = g.elements; buffer = pack_buffer q g.state.raw before }

-- the model when it has been given the packed raw tensor
abbrev pub given : List ℤ → Plain
given raw = record { raw = raw; slots = empty_slots }
