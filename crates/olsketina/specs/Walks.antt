-- A walk as an array of words, and what its calls store (include/olsketina.h). Any words are a walk. A refused start, and a step that has no atom left,
-- leave every word and byte. Assumes nothing.
use Rattle.std.specs.Prelude.{ℕ, ◌≡◌, List, [], ◌∷◌, Option, Some, None, Result}
use Rattle.refusal.specs.declared.Fault.{Fault}
use Rattle.walk.specs.declared.Walk.{Walk}
use Rattle.walk.specs.declared.Step.{Step}
use Rattle.olsketina.specs.Answers.{stored}
use Rattle.olsketina.specs.Words.{word}

-- position and index of the next atom; columns, rows and channels left; precision, width, height and plane; the strides of a line, a surface and a group
abbrev pub walk_from : List ℕ → Walk
walk_from l =
    record {
      position = word l 0;
      index = word l 1;
      columns = word l 2;
      rows = word l 3;
      channels = word l 4;
      precision = word l 5;
      width = word l 6;
      height = word l 7;
      plane = word l 8;
      line = word l 9;
      surface = word l 10;
      group = word l 11;
    }

abbrev pub walk_words : Walk → List ℕ
walk_words w =
    w.position ∷ w.index ∷ w.columns ∷ w.rows ∷ w.channels ∷ w.precision ∷ w.width ∷ w.height ∷ w.plane ∷ w.line ∷ w.surface ∷ w.group ∷ []

-- the words after a start
abbrev pub start_words : Result Walk Fault → List ℕ → List ℕ
start_words started before = stored walk_words started before

-- 1 where a step gives an atom, else 0
abbrev pub atom_word : Option ℕ → ℕ
atom_word (Some position) = 1
atom_word None = 0

-- made of the atom's position, or as it was where none is left
abbrev pub atom_over : {A : Type 0} → (ℕ → A) → Option ℕ → A → A
atom_over made (Some position) before = made position
atom_over made None before = before

-- the number returned, and the walk's words, the position and the bytes stored, are a step's
pub record StepGiven (s : Step) (walk : List ℕ) (position : ℕ) (bytes : List ℕ) (given : ℕ) (walk' : List ℕ) (position' : ℕ) (bytes' : List ℕ) : Type 0 where
  pub told : given ≡ atom_word s.atom
  pub walk_stored : walk' ≡ atom_over (λ (p : ℕ). walk_words s.walk) s.atom walk
  pub position_stored : position' ≡ atom_over (λ (p : ℕ). p) s.atom position
  pub bytes_stored : bytes' ≡ atom_over (λ (p : ℕ). s.bytes) s.atom bytes
