-- One call of `feed`, by whether its part has a newline; and the calls for a part, one after another. By induction on the calls. Assumes nothing.
--     longer, fed-open, fed-ended             what a call gives
--     feed-ended, feed-open                   what the code makes of a call
--     read-within, read_some                  how many bytes of a part a call reads
--     calls-enough                            calls past a part's length give nothing more
--     part-next                               one call more for a part
use Prim.Native.Nat.{ℕ, zero, suc, ◌+◌, ◌-◌, ◌≤◌, ◌<◌}
use native.Mathlib.Nat.{not-suc-le-zero}
use native.Mathlib.Decide.{dec_le}
use native.Mathlib.Omega.{arith}
use mathlib.Core.Path.{◌≡◌, refl, sym, ap, ◌∙◌}
use mathlib.Core.Bool.{true, false}
use mathlib.Core.List.{List, [], ◌∷◌}
use lib.ListN.{length, take, drop, length-drop}
use lib.Seq.{drop-drop}
use Rattle.lines.specs.declared.Collected.{Collected}
use Rattle.lines.specs.Texts.{part_length}
use Rattle.lines.specs.Collecting.{added, collected}
use Rattle.lines.proofs.SplitLaws.{part_length-le, part-whole}
use Rattle.lines.proofs.StepLaws.{collected-ended, collected-open}
use Rattle.script.specs.declared.Sheet.{Sheet}
use Rattle.script.specs.declared.Fed.{Fed}
use Rattle.std.proofs.Common.{None}
use Rattle.script.specs.Feed.{with_lines, line_fed, fed, and_then, then_fed, part_fed}

-- ---- one call

module _ (s : Sheet) (part : List ℕ) where
  -- the state with what the part adds to the line
  abbrev pub longer : Sheet
  longer = with_lines s (record { count = s.lines.count; line = added s.lines.line (take (part_length 10 part) part) })

  pub fed-open : length part ≤ part_length 10 part → fed s part ≡ record { sheet = longer; read = part_length 10 part; given = None }
  unfolding fed
  fed-open h = rw (← collected-open s.lines part refl refl h)

  pub fed-ended : part_length 10 part < length part → fed s part ≡ line_fed longer (part_length 10 part + 1)
  unfolding fed
  fed-ended h = rw (← collected-ended s.lines part refl refl h)

  pub read-within : (fed s part).read ≤ length part
  read-within =
      elim (dec_le (length part) (part_length 10 part)) [
        | yes h ↦ rw (fed-open h) (part_length-le 10 part)
        | no f ↦ rw (fed-ended (omega arith)) (omega arith)
      ]

  pub read_some : 0 < length part → 0 < (fed s part).read
  read_some p =
      elim (dec_le (length part) (part_length 10 part)) [
        | yes h ↦ rw (fed-open h) (omega arith)
        | no f ↦ rw (fed-ended (omega arith)) (omega arith)
      ]

  -- ---- as the code makes it
  module _ {c : Collected} (e : c ≡ collected s.lines part) where
    pub feed-ended : c.ended ≡ true → line_fed (with_lines s c.lines) c.read ≡ fed s part
    unfolding fed
    feed-ended t = rw (← e, t)

    pub feed-open : c.ended ≡ false → ◌≡◌ {A = Fed} (record { sheet = with_lines s c.lines; read = c.read; given = None }) (fed s part)
    unfolding fed
    feed-open t = rw (← e, t)

-- ---- calls enough

fed-nothing : (calls : ℕ) (s : Sheet) → part_fed calls s [] ≡ record { rows = []; sheet = s }
unfolding part_fed fed collected part_length added and_then
fed-nothing zero s = refl
fed-nothing (suc calls) s = fed-nothing calls s

pub no_bytes : (part : List ℕ) → length part ≤ 0 → part ≡ []
no_bytes [] h = refl
no_bytes (b ∷ part) h = absurd (not-suc-le-zero h)

fed-none : (a b : ℕ) (s : Sheet) (part : List ℕ) → length part ≤ 0 → part_fed a s part ≡ part_fed b s part
fed-none a b s part h = rw (no_bytes part h) (fed-nothing a s ∙ sym (fed-nothing b s))

pub calls-enough : (a b : ℕ) (s : Sheet) (part : List ℕ) → length part ≤ a → length part ≤ b → part_fed a s part ≡ part_fed b s part
unfolding part_fed
calls-enough zero b s part h k = fed-none zero b s part h
calls-enough (suc a) zero s part h k = fed-none (suc a) zero s part k
calls-enough (suc a) (suc b) s part h k =
    elim (dec_le (length part) 0) [
      | yes z ↦ fed-none (suc a) (suc b) s part z
      | no f ↦ (
          let g = fed s part in
          let read : 0 < g.read = read_some s part (omega arith) in
          let less : length (drop g.read part) ≡ length part - g.read = length-drop g.read part in
          ap (then_fed g.given) (calls-enough a b g.sheet (drop g.read part) (omega arith) (omega arith))
          )
    ]

-- one call more for a part of which `from` bytes are read
pub part-next : (s : Sheet) (part : List ℕ) (from : ℕ) {f : Fed} → from < length part → f ≡ fed s (take (length part - from) (drop from part))
    → part_fed (length part - from) s (drop from part) ≡ then_fed f.given (part_fed (length part - (from + f.read)) f.sheet (drop (from + f.read) part))
unfolding part_fed
part-next s part from {f} h e =
    let rest = drop from part in
    let left = length part - from - 1 in
    let same : f ≡ fed s rest = e ∙ ap (fed s) (part-whole part from) in
    let long : length rest ≡ length part - from = length-drop from part in
    let read : 0 < f.read = rw same (read_some s rest (omega arith)) in
    let less : length (drop f.read rest) ≡ length rest - f.read = length-drop f.read rest in
    let one : length part - from ≡ suc left = omega arith in
    ap (λ (k : ℕ). part_fed k s rest) one
    ∙ first rest left same
    ∙ ap
    (then_fed f.given)
    (calls-enough left (length part - (from + f.read)) f.sheet (drop f.read rest) (omega arith) (omega arith)
    ∙ ap (part_fed (length part - (from + f.read)) f.sheet) (drop-drop f.read from part))
  where
    first : (rest : List ℕ) (left : ℕ) → f ≡ fed s rest → part_fed (suc left) s rest ≡ then_fed f.given (part_fed left f.sheet (drop f.read rest))
    first rest left same = rw same
