-- A part whose first bytes are mended, one byte further (specs/Steps.antt). By the laws of appended bytes and of a store at the seam. Assumes nothing.
--     done-start, done_all                  no byte, and all bytes
--     done-clean, done-dirt, done-skip      one byte that stays, one that is reported, several that are no padding
--     zero-clean, padding-dirty             whether a byte is reported
use Prim.Native.Nat.{ℕ, zero, suc, ◌+◌, ◌≤◌, ◌<◌}
use native.Mathlib.Omega.{arith}
use mathlib.Core.Path.{◌≡◌, refl, sym, ap, subst, ◌∙◌}
use mathlib.Core.Bool.{true, false}
use mathlib.Core.List.{List, [], ◌∷◌, ◌++◌, map, map-append, append-nil}
use mathlib.Core.Logic.{◌≢◌}
use borrow.Author.Tests.{ne_eqb}
use lib.ListN.{length, get_or, set, take, drop, length-append, length-map}
use lib.Seq.{length-take-le, take-suc, drop-cons, append_snoc, set_at, get_or_at, take-length, drop-length, set-append_seam}
use Rattle.elements.specs.Lists.{remade_from}
use Rattle.layout.specs.declared.CubeLayout.{CubeLayout}
use Rattle.layout.specs.Owners.{Owner, element, padding, outside, owner}
use Rattle.padding.specs.Mending.{Dirt, mended_byte, mended, is_dirty, reported}
use Rattle.padding.specs.Calls.{Lent, filled}
use Rattle.padding.proofs.MendLaws.{mended-length, mended-append, mended-one, reported-append, reported-clean, reported-dirt, clean-kept, dirt-zero}
use Rattle.padding_calls.specs.Steps.{is_padding, Done}

-- one place more
filled_more : (given : List ℕ) (v : ℕ) (before : List ℕ) → length given < length before → filled (given ++ v ∷ []) before ≡ set (filled given before) (length given) v
unfolding filled
filled_more given v before h =
    let n : length (given ++ v ∷ []) ≡ suc (length given) = length-append given (v ∷ []) ∙ omega arith in
    ap (λ (n : ℕ). (given ++ v ∷ []) ++ drop n before) n
    ∙ append_snoc given v (drop (suc (length given)) before)
    ∙ sym (set-append_seam given (get_or before (length given) 0) (drop (suc (length given)) before) v)
    ∙ sym (ap (λ (l : List ℕ). set (given ++ l) (length given) v) (drop-cons before (length given) 0 h))

-- a byte that is no padding is not reported, nor is a zero; padding that is not zero is
not-dirty : (o : Owner) (b : ℕ) → is_padding o ≡ false → is_dirty o b ≡ false
unfolding is_padding is_dirty
not-dirty (element c h w k) b e = refl
not-dirty padding b e = cc
not-dirty outside b e = refl

pub zero-clean : (o : Owner) → is_dirty o 0 ≡ false
unfolding is_dirty
zero-clean (element c h w k) = refl
zero-clean padding = refl
zero-clean outside = refl

pub padding-dirty : (o : Owner) (b : ℕ) → is_padding o ≡ true → b ≢ 0 → is_dirty o b ≡ true
unfolding is_padding is_dirty
padding-dirty (element c h w k) b e f = cc
padding-dirty padding b e f = rw (ne_eqb b 0 f)
padding-dirty outside b e f = cc

module _ (q : CubeLayout) (first : ℕ) (l : Lent) where
  abbrev report : ℕ → List Dirt
  report i = reported q first (take i l.part)

  pub done-start : Done q first l 0 0 l.part l.positions l.olds
  unfolding mended remade_from reported filled
  done-start = record { part_is = refl; count_is = refl; positions_are = refl; olds_are = refl }

  pub done_all : (n : ℕ) (part positions olds : List ℕ) → Done q first l (length l.part) n part positions olds
      → (n ≡ length (reported q first l.part)) × (part ≡ mended q first l.part)
      × (positions ≡ filled (map (λ (d : Dirt). d.position) (reported q first l.part)) l.positions)
      × (olds ≡ filled (map (λ (d : Dirt). d.old) (reported q first l.part)) l.olds)
  done_all n part positions olds d =
      let whole : take (length l.part) l.part ≡ l.part = take-length l.part in (
        simp whole at d.count_is,
        simp (whole, drop-length l.part, append-nil (mended q first l.part)) at d.part_is,
        simp whole at d.positions_are,
        simp whole at d.olds_are,
      )

  module _ (i : ℕ) (h : i < length l.part) where
    abbrev byte : ℕ
    byte = get_or l.part i 0

    abbrev whose : Owner
    whose = owner q (first + i)

    part-more : mended q first (take (suc i) l.part) ++ drop (suc i) l.part ≡ mended q first (take i l.part) ++ mended_byte whose byte ∷ drop (suc i) l.part
    part-more =
        rw (take-suc l.part i 0 h, mended-append q first (take i l.part) (byte ∷ []), length-take-le i l.part (omega (arith, h)), mended-one q (first + i) byte)
        (append_snoc (mended q first (take i l.part)) (mended_byte whose byte) (drop (suc i) l.part))

    report-more : report (suc i) ≡ report i ++ reported q (first + i) (byte ∷ [])
    report-more = rw (take-suc l.part i 0 h, reported-append q first (take i l.part) (byte ∷ []), length-take-le i l.part (omega (arith, h))) refl

    report-same : is_dirty whose byte ≡ false → report (suc i) ≡ report i
    report-same e = report-more ∙ ap (λ (r : List Dirt). report i ++ r) (reported-clean q (first + i) byte e) ∙ append-nil (report i)

    pub done-clean : (n : ℕ) (part positions olds : List ℕ) → is_dirty whose byte ≡ false → Done q first l i n part positions olds → Done q first l (suc i) n part positions olds
    done-clean n part positions olds e d =
        let same = report-same e in
        record {
          part_is =
              d.part_is
              ∙ ap (λ (r : List ℕ). mended q first (take i l.part) ++ r) (drop-cons l.part i 0 h)
              ∙ ap (λ (b : ℕ). mended q first (take i l.part) ++ b ∷ drop (suc i) l.part) (sym (clean-kept whose byte e))
              ∙ sym part-more;
          count_is = d.count_is ∙ ap length (sym same);
          positions_are = d.positions_are ∙ ap (λ (r : List Dirt). filled (map (λ (x : Dirt). x.position) r) l.positions) (sym same);
          olds_are = d.olds_are ∙ ap (λ (r : List Dirt). filled (map (λ (x : Dirt). x.old) r) l.olds) (sym same);
        }

    -- the byte is still there
    pub done-byte : (n : ℕ) (part positions olds : List ℕ) → Done q first l i n part positions olds → get_or part i 0 ≡ byte
    done-byte n part positions olds d =
        ap (λ (p : List ℕ). get_or p i 0) (d.part_is ∙ ap (λ (r : List ℕ). mended q first (take i l.part) ++ r) (drop-cons l.part i 0 h))
        ∙ get_or_at (mended q first (take i l.part)) byte (drop (suc i) l.part) 0 i (mended-length q first (take i l.part) ∙ length-take-le i l.part (omega (arith, h)))

    -- a list of the report with one place more
    list-more : (f : Dirt → ℕ) (before : List ℕ) (n : ℕ) (now : List ℕ) → is_dirty whose byte ≡ true → n ≡ length (report i) → n < length before
        → now ≡ filled (map f (report i)) before → set now n (f (record { position = first + i; old = byte })) ≡ filled (map f (report (suc i))) before
    list-more f before n now e c room is =
        let d : Dirt = record { position = first + i; old = byte } in
        let m : length (map f (report i)) ≡ n = length-map (report i) f ∙ sym c in
        let more : report (suc i) ≡ report i ++ d ∷ [] = report-more ∙ ap (λ (r : List Dirt). report i ++ r) (reported-dirt q (first + i) byte e) in
        ap (λ (x : List ℕ). set x n (f d)) is
        ∙ ap (λ (k : ℕ). set (filled (map f (report i)) before) k (f d)) (sym m)
        ∙ sym (filled_more (map f (report i)) (f d) before (subst (λ (k : ℕ). k < length before) (sym m) room))
        ∙ ap (λ (x : List ℕ). filled x before) (sym (map-append f (report i) (d ∷ [])))
        ∙ ap (λ (r : List Dirt). filled (map f r) before) (sym more)

    pub done-dirt : (n : ℕ) (part positions olds : List ℕ) → is_dirty whose byte ≡ true → n < length l.positions → n < length l.olds
        → Done q first l i n part positions olds → Done q first l (suc i) (suc n) (set part i 0) (set positions n (first + i)) (set olds n byte)
    done-dirt n part positions olds e hp ho d =
        record {
          part_is =
              ap (λ (p : List ℕ). set p i 0) (d.part_is ∙ ap (λ (r : List ℕ). mended q first (take i l.part) ++ r) (drop-cons l.part i 0 h))
              ∙ set_at (mended q first (take i l.part)) byte (drop (suc i) l.part) 0 i (mended-length q first (take i l.part) ∙ length-take-le i l.part (omega (arith, h)))
              ∙ ap (λ (b : ℕ). mended q first (take i l.part) ++ b ∷ drop (suc i) l.part) (sym (dirt-zero whose byte e))
              ∙ sym part-more;
          count_is =
              ap suc d.count_is
              ∙ sym (ap length (report-more ∙ ap (λ (r : List Dirt). report i ++ r) (reported-dirt q (first + i) byte e)) ∙ length-append (report i) (record { position = first + i; old = byte } ∷ []) ∙ omega arith);
          positions_are = list-more (λ (x : Dirt). x.position) l.positions n positions e d.count_is hp d.positions_are;
          olds_are = list-more (λ (x : Dirt). x.old) l.olds n olds e d.count_is ho d.olds_are;
        }

  -- several bytes that are no padding: n of them from byte i on
  pub done-skip : (k i n : ℕ) (part positions olds : List ℕ) → i + k ≤ length l.part
      → ((x : ℕ) → i ≤ x → x < i + k → is_padding (owner q (first + x)) ≡ false) → Done q first l i n part positions olds → Done q first l (i + k) n part positions olds
  done-skip zero i n part positions olds h none d = subst (λ (j : ℕ). Done q first l j n part positions olds) (omega arith) d
  done-skip (suc k) i n part positions olds h none d =
      subst (λ (j : ℕ). Done q first l j n part positions olds) (omega arith)
      (done-clean (i + k) (omega (arith, h)) n part positions olds (not-dirty _ _ (none (i + k) (omega arith) (omega arith)))
      (done-skip k i n part positions olds (omega (arith, h)) (λ x hi hx. none x hi (omega (arith, hx))) d))
