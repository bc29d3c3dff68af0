-- An answer as C gets it: a number returned, and numbers stored, each as it was where the call is refused (scope paper, "Refusal numbers"). Assumes nothing.
use Rattle.std.specs.Prelude.{ℕ, ◌≡◌, cond, ℤ, Result, Ok, Err}
use Rattle.refusal.specs.declared.Fault.{Fault}
use Rattle.refusal.specs.Codes.{answer_code, fault_index, answer_of}
use Rattle.refusal.specs.Checks.{Answer}
use Rattle.quantize.specs.declared.Converted.{Converted}

-- what is stored: made of the value that a call gave, or as it was where it is refused
abbrev pub stored : {A B : Type 0} → (A → B) → Result A Fault → B → B
stored made (Ok v) before = made v
stored made (Err fault) before = before

-- the number returned and the index at fault stored are an answer's
pub record Answered (answer : Answer) (code fault : ℕ) : Type 0 where
  pub coded : code ≡ answer_code answer
  pub indexed : fault ≡ fault_index answer

-- the number returned, the value stored and the index at fault stored are those of what a call gave: a quantity, or another value
pub record Valued {A : Type 0} (given : Result A Fault) (before : A) (code : ℕ) (value : A) (fault : ℕ) : Type 0 where
  pub answered : Answered (answer_of given) code fault
  pub valued : value ≡ stored (λ (v : A). v) given before

-- the number returned, the value stored, the word that is 1 where it was held and else 0, and the index at fault stored are a conversion's
pub record ConversionGiven (converted : Result Converted Fault) (before : ℤ) (word code : ℕ) (value : ℤ) (held fault : ℕ) : Type 0 where
  pub answered : Answered (answer_of converted) code fault
  pub valued : value ≡ stored (λ (c : Converted). c.value) converted before
  pub told : held ≡ stored (λ (c : Converted). cond c.held 1 0) converted word
