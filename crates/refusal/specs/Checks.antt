-- Checks made in order: the first that fails is the answer (scope paper, "Refusal numbers": "Orders"). Assumes nothing.
use Rattle.std.specs.Prelude.{ℕ, Bool, true, false, List, [], ◌∷◌, Result, Ok, Err}
use Rattle.refusal.specs.declared.Refusal.{Refusal}
use Rattle.refusal.specs.declared.Fault.{Fault}

-- a refusal with its index at fault
abbrev pub refused_at : ℕ → Refusal → Fault
refused_at at r = record { 0 = r; 1 = at }

-- what a call answers: accepted, or refused
abbrev pub Answer : Type 0
Answer = Result (Unit {0}) Fault

-- what a call that counts or measures answers: a number, or refused
abbrev pub Quantity : Type 0
Quantity = Result ℕ Fault

abbrev pub Accepted : Answer
Accepted = Ok tt

abbrev pub Refused : Refusal → ℕ → Answer
Refused r at = Err (record { 0 = r; 1 = at })

-- one check, at an index of the caller's elements: refused unless the test holds
unfoldable pub require_at : ℕ → Refusal → Bool → Answer
require_at at r true = Accepted
require_at at r false = Refused r at

-- one check that concerns no single element: its index at fault is 0
abbrev pub require : Refusal → Bool → Answer
require r holds = require_at 0 r holds

-- the first refusal of a list of checks, or accepted
unfoldable pub in_order : List Answer → Answer
in_order [] = Accepted
in_order (Ok _ ∷ rest) = in_order rest
in_order (Err fault ∷ rest) = Err fault

-- what a call leaves: `done` where it was accepted, `before` where it was refused
unfoldable pub leaves : {A : Type 0} → Answer → A → A → A
leaves (Ok _) done before = done
leaves (Err fault) done before = before

-- what a call gives: a value where it was accepted, else its refusal
unfoldable pub given : {A : Type 0} → Answer → A → Result A Fault
given (Ok _) v = Ok v
given (Err fault) v = Err fault

-- where the value is a number
abbrev pub quantity : Answer → ℕ → Quantity
quantity a n = given a n
