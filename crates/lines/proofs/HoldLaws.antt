-- A collected line holds its text: all of it up to 120 bytes, and of a longer one that it is longer. Each step keeps this. Assumes nothing.
--     Holds                                what a line says of its text
--     holds-empty, holds-next              a line of no bytes, and one that begins after another
--     holds-byte, holds-added              after a byte, after more
--     holds-none, holds-some               whether the text is empty
--     holds-whole, holds_text              whether all bytes are kept, and which
--     added-append                         bytes added one after another
--     written-added, written-text          a text written to a line
--     kept-bytes                           the bytes of a line that are kept
use Prim.Native.Nat.{ℕ, suc, ◌+◌, ◌-◌, ◌≤◌, ◌<◌, min}
use native.Mathlib.Nat.{min-eq_left, min-eq_right}
use native.Mathlib.Numerals.{add-one}
use native.Mathlib.Decide.{dec_le}
use native.Mathlib.Omega.{arith}
use mathlib.Core.Path.{◌≡◌, refl, sym, ap, ◌∙◌, subst}
use mathlib.Core.List.{List, [], ◌∷◌, ◌++◌, append-nil}
use lib.ListN.{length, take, set, replicate, length-set, length-append, length-replicate}
use lib.Seq.{take_all, take-suc-set, take-append_seam, append_snoc}
use lib.Dec.{leb}
use borrow.Author.Tests.{lt-leb}
use Rattle.lines.specs.declared.Line.{Line}
use Rattle.lines.specs.Texts.{longest}
use Rattle.lines.specs.Collecting.{empty_line, with_byte, added, is_whole, line_text, written}
use Rattle.lines.proofs.TextLaws.{padded-set}
use Rattle.lines.proofs.StepLaws.{byte-kept, byte-lost}

pub record Holds (l : Line) (text : List ℕ) : Type 0 where
  pub room : length l.bytes ≡ 120
  pub counted : length text ≤ 120 → l.length ≡ length text
  pub kept_text : length text ≤ 120 → take (length text) l.bytes ≡ text
  pub over : 120 < length text → l.length ≡ 121

pub holds-empty : Holds empty_line []
holds-empty = record { room = length-replicate {A = ℕ} 120 0; counted = λ h. refl; kept_text = λ h. refl; over = λ h. omega arith }

pub holds-next : (l : Line) (text : List ℕ) → Holds l text → Holds (record { length = 0; bytes = l.bytes }) []
holds-next l text o = record { room = o.room; counted = λ h. refl; kept_text = λ h. refl; over = λ h. omega arith }

-- ---- the text that a line holds

module _ (l : Line) (text : List ℕ) (b : ℕ) (o : Holds l text) where
  longer : length (text ++ b ∷ []) ≡ suc (length text)
  longer = length-append text (b ∷ []) ∙ add-one (length text)

  full : 120 ≤ length text → 120 ≤ l.length
  full h = elim (dec_le (length text) 120) [ yes s ↦ omega (arith, o.counted s) | no f ↦ omega (arith, o.over (omega arith)) ]

  kept : length text < 120 → Holds (record { length = l.length + 1; bytes = set l.bytes l.length b }) (text ++ b ∷ [])
  kept h =
      let n : l.length ≡ length text = o.counted (omega arith) in
      record {
        room = length-set l.bytes l.length b ∙ o.room;
        counted = λ s. omega (arith, longer, n);
        kept_text = λ s. rw (longer, n) (take-suc-set l.bytes (length text) b (omega (arith, o.room)) ∙ ap (λ (t : List ℕ). t ++ b ∷ []) (o.kept_text (omega arith)));
        over = λ s. omega (arith, longer);
      }

  lost : 120 ≤ length text → Holds (record { length = 121; bytes = l.bytes }) (text ++ b ∷ [])
  lost h =
      record {
        room = o.room;
        counted = λ s. omega (arith, longer);
        kept_text = λ s. absurd (omega (arith, longer));
        over = λ s. refl;
      }

  pub holds-byte : Holds (with_byte l b) (text ++ b ∷ [])
  holds-byte =
      elim (dec_le 120 (length text)) [
        | yes h ↦ subst (λ (m : Line). Holds m (text ++ b ∷ [])) (byte-lost l b (full h)) (lost h)
        | no f ↦ subst (λ (m : Line). Holds m (text ++ b ∷ [])) (byte-kept l b (omega (arith, o.counted (omega arith)))) (kept (omega arith))
      ]

pub holds-added : (bytes : List ℕ) (l : Line) (text : List ℕ) → Holds l text → Holds (added l bytes) (text ++ bytes)
unfolding added
holds-added [] l text o = rw (append-nil text) o
holds-added (b ∷ bytes) l text o = rw (append_snoc text b bytes) at (holds-added bytes (with_byte l b) (text ++ b ∷ []) (holds-byte l text b o))

-- ---- what the line says

pub holds-none : (l : Line) → Holds l [] → l.length ≡ 0
holds-none l o = o.counted (omega arith)

pub holds-some : (l : Line) (b : ℕ) (text : List ℕ) → Holds l (b ∷ text) → l.length ≡ 0 → ⊥
holds-some l b text o e =
    elim (dec_le (length (b ∷ text)) 120) [ yes h ↦ omega (arith, o.counted h) | no f ↦ omega (arith, o.over (omega arith)) ]

module _ (l : Line) (text : List ℕ) (o : Holds l text) where
  pub holds-whole : is_whole l ≡ leb (length text) longest
  holds-whole =
      elim (dec_le (length text) 120) [ yes h ↦ ap (λ (n : ℕ). leb n 120) (o.counted h) | no f ↦ ap (λ (n : ℕ). leb n 120) (o.over (omega arith)) ∙ sym (lt-leb (length text) 120 (omega arith)) ]

  pub holds_text : length text ≤ longest → line_text l ≡ text
  unfolding line_text
  holds_text h = rw (o.counted h) (o.kept_text h)

-- ---- a text written to a line

written_byte : (text : List ℕ) (b : ℕ) → length text < 120 → with_byte (written text) b ≡ written (text ++ b ∷ [])
written_byte text b h =
    let one : length text + 1 ≡ length (text ++ b ∷ []) = omega (arith, length-append text (b ∷ [])) in
    sym (byte-kept (written text) b h) ∙ rw (padded-set 120 text b h, one)

pub written-added : (bytes text : List ℕ) → length text + length bytes ≤ 120 → added (written text) bytes ≡ written (text ++ bytes)
unfolding added
written-added [] text h = rw (append-nil text)
written-added (b ∷ bytes) text h =
    let fits : length (text ++ b ∷ []) + length bytes ≤ 120 = omega (arith, length-append text (b ∷ [])) in
    ap (λ (l : Line). added l bytes) (written_byte text b (omega arith)) ∙ written-added bytes (text ++ b ∷ []) fits ∙ ap written (append_snoc text b bytes)

pub added-append : (xs ys : List ℕ) (l : Line) → added (added l xs) ys ≡ added l (xs ++ ys)
unfolding added
added-append [] ys l = refl
added-append (b ∷ xs) ys l = added-append xs ys (with_byte l b)

pub written-text : (text : List ℕ) → line_text (written text) ≡ text
unfolding line_text
written-text text = take-append_seam text (replicate (120 - length text) 0)

-- a line has room for 120 bytes
pub kept-bytes : (l : Line) (n : ℕ) → length l.bytes ≡ 120 → n ≡ min l.length 120 → take n l.bytes ≡ line_text l
unfolding line_text
kept-bytes l n room e =
    elim (dec_le l.length 120) [
      | yes h ↦ ap (λ (k : ℕ). take k l.bytes) (e ∙ min-eq_left h)
      | no f ↦ ap (λ (k : ℕ). take k l.bytes) (e ∙ min-eq_right (omega arith)) ∙ take_all 120 l.bytes (omega (arith, room)) ∙ sym (take_all l.length l.bytes (omega (arith, room)))
    ]
