-- A list of calls, and what the program does at each: the promises of `begin`, `place`, `edit`, `read`, `release` and `paint` cite these steps, and the
-- fold goes from one to the next (scope paper, "The plain picture"; change requests K1, K3, K5). Assumes nothing.
use Rattle.std.specs.Prelude.{ℕ, List, [], ◌∷◌, length, ℤ, Option, Some, None}
pub use Rattle.elements.specs.Values.{SixteenBit}
use Rattle.refusal.specs.Codes.{answer_of, quantity_value}
use Rattle.refusal.specs.Checks.{leaves, Answer, Quantity}
use Rattle.layout.specs.declared.CubeLayout.{CubeLayout}
use Rattle.layout.specs.declared.ElementBox.{ElementBox}
use Rattle.layout.specs.Calls.{pack_answer, pack_buffer}
use Rattle.pixels.specs.declared.PixelSetting.{PixelSetting}
use Rattle.regions.specs.declared.Rectangle.{Rectangle}
use Rattle.regions.specs.declared.RegionTable.{RegionTable}
use Rattle.regions.specs.Slots.{Slot, slots_of}
use Rattle.regions.specs.Calls.{empty_table, place_answer, place_table, edit_answer, edit_buffer, read_answer, read_elements, release_answer, release_table, release_buffer}
use Rattle.parlour.specs.declared.Conversion.{Conversion}
use Rattle.parlour.specs.Counts.{held_count}
use Rattle.parlour.specs.Calls.{paint_answer, paint_buffer}

-- a call with its arguments, save the table and the buffer: the slot, the owner's id, and what else it gives; the elements, and the pixel buffer of a
-- painting, are those that the caller lends
pub data Call : Type 0 where
  place : (slot id : ℕ) → Rectangle → Call
  edit : (slot id : ℕ) → ElementBox → List ℤ → Call
  read : (slot id : ℕ) → ElementBox → List ℤ → Call
  release : (slot id : ℕ) → Call
  paint : (slot id : ℕ) → PixelSetting → (pixels : List ℕ) → Conversion → Call

-- the elements that a call lends; placing, releasing and painting lend none
unfoldable pub lends : Call → List ℤ
lends (place n id g) = []
lends (edit n id b xs) = xs
lends (read n id b xs) = xs
lends (release n id) = []
lends (paint n id image pixels k) = []

-- every call of a list lends such elements
unfoldable pub Lends_sixteen_bit : List Call → Type 0
Lends_sixteen_bit [] = Unit {0}
Lends_sixteen_bit (c ∷ calls) = SixteenBit (lends c) × Lends_sixteen_bit calls

-- what a call gives beside its answer: an accepted painting how many components were held at a limit, every other call no value
abbrev pub Value : Type 0
Value = Option ℕ

abbrev pub none : Value
none = None

abbrev pub held : ℕ → Value
held n = Some n

pub record Reply : Type 0 where
  pub answer : Answer
  pub value : Value

-- the reply of a call that gives a value where it is accepted
abbrev pub reply_of : Answer → Value → Reply
reply_of answer value = record { answer = answer; value = leaves answer value none }

-- that of a painting, as its call gives it
abbrev pub held_reply : Quantity → Reply
held_reply quantity = reply_of (answer_of quantity) (held (quantity_value quantity))

-- what the program keeps between calls
pub record State : Type 0 where
  pub table : RegionTable
  pub buffer : List ℕ

abbrev pub state_of : RegionTable → List ℕ → State
state_of table buffer = record { table = table; buffer = buffer }

-- what a call does: its reply, the caller's elements after it, the state after it
pub record Step : Type 0 where
  pub reply : Reply
  pub elements : List ℤ
  pub state : State

-- a step from its parts
abbrev pub step_with : Reply → List ℤ → RegionTable → List ℕ → Step
step_with reply elements table buffer = record { reply = reply; elements = elements; state = state_of table buffer }

-- the step of a call that gives no value
abbrev pub step_of : Answer → List ℤ → RegionTable → List ℕ → Step
step_of answer elements table buffer = step_with (record { answer = answer; value = none }) elements table buffer

-- a raw tensor is packed over `before`, and the table is the empty one of the same layout
abbrev pub beginning : CubeLayout → List ℤ → List ℕ → Step
beginning q raw before = step_of (pack_answer q raw (length before)) raw (empty_table q) (pack_buffer q raw before)

-- one call; placing, releasing and painting lend no elements
unfoldable pub step : State → Call → Step
step s (place n id g) = step_of (place_answer s.table n id g) [] (place_table s.table n id g) s.buffer
step s (edit n id b xs) = step_of (edit_answer s.table n id b xs (length s.buffer)) xs s.table (edit_buffer s.table n id b xs s.buffer)
step s (read n id b xs) = step_of (read_answer s.table n id b (length xs) (length s.buffer)) (read_elements s.table n id b s.buffer xs) s.table s.buffer
step s (release n id) = step_of (release_answer s.table n id (length s.buffer)) [] (release_table s.table n id (length s.buffer)) (release_buffer s.table n id s.buffer)
step s (paint n id image pixels k) =
    let a = paint_answer s.table n id image (length pixels) k (length s.buffer) in
    step_with (reply_of a (held (held_count image pixels k s.table.layout.precision))) [] s.table (paint_buffer s.table n id image pixels k s.buffer)

-- the program's state after a list of calls
unfoldable pub run_to : State → List Call → State
run_to s [] = s
run_to s (c ∷ calls) = run_to (step s c).state calls

-- what a call shows: its reply, the caller's elements and the buffer after it
pub record Shown : Type 0 where
  pub reply : Reply
  pub elements : List ℤ
  pub buffer : List ℕ

abbrev pub shows : Step → Shown
shows t = record { reply = t.reply; elements = t.elements; buffer = t.state.buffer }

-- what the program shows after each call of a list
unfoldable pub program : State → List Call → List Shown
program s [] = []
program s (c ∷ calls) = shows (step s c) ∷ program (step s c).state calls

-- a moment: the state after a packing and a list of calls
abbrev pub moment : CubeLayout → List ℤ → List ℕ → List Call → State
moment q raw before calls = run_to (beginning q raw before).state calls

-- the slots at a moment
abbrev pub slots_at : CubeLayout → List ℤ → List ℕ → List Call → List Slot
slots_at q raw before calls = slots_of (moment q raw before calls).table
