-- What accepted sizes tell: the facts behind check 1, which are all that the laws of places need, whatever the precision code. By taking the
-- check's tests apart. Assumes nothing.
--     Valid, valid            the facts of a layout that check 1 takes
--     element, inside         the facts of an element that check 9 takes, and back
use Prim.Native.Nat.{ℕ, ◌≤◌, ◌<◌}
use mathlib.Core.Path.{◌≡◌}
use mathlib.Core.Bool.{true, ◌&&◌}
use lib.Dec.{ltb}
use borrow.Author.Tests.{ltb-true, lt-ltb}
use Rattle.general.proofs.TestLaws.{and_left, and_right, and_both}
use Rattle.refusal.specs.Sizes.{size_valid}
use Rattle.refusal.proofs.SizeLaws.{size-pos, size-le}
use Rattle.weights.specs.declared.WeightLayout.{WeightLayout}
use Rattle.weights.specs.Places.{Element}
use Rattle.weights.specs.Rules.{sizes_valid, element_inside}

-- a size is 1 to `most`
pub record Within (most n : ℕ) : Type 0 where
  pub some : 0 < n
  pub most_le : n ≤ most

size-within : (most n : ℕ) → size_valid most n ≡ true → Within most n
size-within most n e = record { some = size-pos most n e; most_le = size-le most n e }

pub record Valid (q : WeightLayout) : Type 0 where
  pub kernels : Within 8192 q.kernels
  pub channels : Within 8192 q.channels
  pub rows : Within 32 q.rows
  pub columns : Within 32 q.columns

pub valid : (q : WeightLayout) → sizes_valid q ≡ true → Valid q
unfolding sizes_valid
valid q e =
    let k = size_valid 8192 q.kernels in
    let c = size_valid 8192 q.channels in
    let r = size_valid 32 q.rows in
    let s = size_valid 32 q.columns in
    let e3 = and_left (k && c && r) s e in
    let e2 = and_left (k && c) r e3 in
    record {
      kernels = size-within 8192 q.kernels (and_left k c e2);
      channels = size-within 8192 q.channels (and_right k c e2);
      rows = size-within 32 q.rows (and_right (k && c) r e3);
      columns = size-within 32 q.columns (and_right (k && c && r) s e);
    }

pub element : (q : WeightLayout) (k c r s : ℕ) → element_inside q k c r s ≡ true → Element q k c r s
unfolding element_inside
element q k c r s e =
    let kk = ltb k q.kernels in
    let cc = ltb c q.channels in
    let rr = ltb r q.rows in
    let ss = ltb s q.columns in
    let e3 = and_left (kk && cc && rr) ss e in
    let e2 = and_left (kk && cc) rr e3 in
    record {
      kernel_lt = ltb-true k q.kernels (and_left kk cc e2);
      channel_lt = ltb-true c q.channels (and_right kk cc e2);
      row_lt = ltb-true r q.rows (and_right (kk && cc) rr e3);
      column_lt = ltb-true s q.columns (and_right (kk && cc && rr) ss e);
    }

pub inside : (q : WeightLayout) (k c r s : ℕ) → Element q k c r s → element_inside q k c r s ≡ true
unfolding element_inside
inside q k c r s x =
    and_both (and_both (and_both (lt-ltb k q.kernels x.kernel_lt) (lt-ltb c q.channels x.channel_lt)) (lt-ltb r q.rows x.row_lt)) (lt-ltb s q.columns x.column_lt)
