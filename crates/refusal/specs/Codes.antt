-- The number of each refusal, and number, index and value of each result (scope paper, "Refusal numbers"). Assumes nothing.
use Rattle.std.specs.Prelude.{ℕ, Result, Ok, Err}
use Rattle.refusal.specs.declared.Refusal.{Refusal}
use Rattle.refusal.specs.declared.Refusal.TheVariants.{Size, Precision, CubeStrides, CubeStart, BufferLength, ElementCount, Int8Range, Slot, Bounds, Overlap, TableLength, XSelect, XEnd, YSelect, YEnd, Shift, Counters, OutputLength, PixelFormat, PixelKind, XOffset, PixelStrides, PixelOutside, ScriptLine, OwnerId, ImageKind, PixelLength, Fp16Nan}
use Rattle.refusal.specs.declared.Fault.{Fault}
use Rattle.refusal.specs.Checks.{Answer, Quantity}

-- the paper's number
abbrev pub code_of : Refusal → ℕ
-- a size out of its range
code_of Size = 1
-- precision code unknown, or 2 in a conversion
code_of Precision = 2
-- cube strides
code_of CubeStrides = 3
-- cube start
code_of CubeStart = 4
-- packed buffer too short
code_of BufferLength = 5
-- cell count not exact
code_of ElementCount = 6
-- int8 cell outside −128..127
code_of Int8Range = 7
-- slot above 15; not placed; already placed when placing
code_of Slot = 8
-- box empty or outside stall or frame
code_of Bounds = 9
-- overlap
code_of Overlap = 10
-- X or Y table length
code_of TableLength = 11
-- X select or offset
code_of XSelect = 12
-- X end
code_of XEnd = 13
-- Y select, or ready-made s
code_of YSelect = 14
-- Y end
code_of YEnd = 15
-- a shift out of range
code_of Shift = 16
-- five counters plus new samples above 4294967295
code_of Counters = 17
-- output length differs from samples
code_of OutputLength = 18
-- format code
code_of PixelFormat = 19
-- channels or precision not the table's
code_of PixelKind = 20
-- X offset
code_of XOffset = 21
-- pixel start or line
code_of PixelStrides = 22
-- pixel outside the image
code_of PixelOutside = 23
-- sheet line unreadable
code_of ScriptLine = 24
-- number 0, above 65535 or, save when placing, not the stall's
code_of OwnerId = 25
-- fp16 cell that is NaN
code_of Fp16Nan = 26
-- an image of an fp16 format, or of channels unlike the frame's
code_of ImageKind = 29
-- pixel buffer ends before the last pixel's end
code_of PixelLength = 30

-- 0 where the call was accepted, else the refusal's number
abbrev pub answer_code : Answer → ℕ
answer_code (Ok _) = 0
answer_code (Err fault) = code_of fault.0

-- the index at fault, 0 where the call was accepted (the paper's "place")
abbrev pub fault_index : Answer → ℕ
fault_index (Ok _) = 0
fault_index (Err fault) = fault.1

-- a result's answer: accepted where there is a value
abbrev pub answer_of : {A : Type 0} → Result A Fault → Answer
answer_of (Ok v) = Ok tt
answer_of (Err fault) = Err fault

-- a quantity's value, 0 where there is none
abbrev pub quantity_value : Quantity → ℕ
quantity_value (Ok n) = n
quantity_value (Err fault) = 0
