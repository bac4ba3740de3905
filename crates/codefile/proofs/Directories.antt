-- The head of a file, read from its first 36 bytes. Assumes nothing.
use Rattle.std.proofs.Common.{add-zero, add_assoc, drop}
use Rattle.std.proofs.lemmas.List.{drop-drop, get_or-drop}
use Rattle.codefile.specs.declared.directory.Pair.{Pair}
use Rattle.codefile.specs.declared.directory.Directory.{Directory}
use Rattle.std.proofs.Common.{◌≡◌, ℕ, ◌+◌, ◌<◌, ◌≤◌, List, length, take, Err, ap, sym, ◌∙◌, arith, if◌then◌else◌, nat_eq}
use Rattle.std.proofs.lemmas.List.{get_or-take, take-take}
use Rattle.std.specs.Cmp.Lexicographic.{pointwise}
use Rattle.std.proofs.lemmas.Bool.{cond-false, le-ltb}
use Rattle.faults.specs.declared.FileFault.TheVariants.{NoMark}
use Rattle.codefile.specs.Format.{mark}
use Rattle.codefile.specs.File.{le_at, pair_at, directory_of, marked, broken_pair, layout_in, layout_of}

le_front : (bs : List ℕ) (i : ℕ) → i + 3 < 36 → le_at (take 36 bs) i ≡ le_at bs i
le_front bs i h =
    rw (get_or-take 36 bs i 0 (omega arith), get_or-take 36 bs (i + 1) 0 (omega arith), get_or-take 36 bs (i + 2) 0 (omega arith), get_or-take 36 bs (i + 3) 0 (omega arith))

directory_front : (bs : List ℕ) → directory_of (take 36 bs) ≡ directory_of bs
directory_front bs =
    rw (le_front bs 4 (omega arith), le_front bs 8 (omega arith), le_front bs 12 (omega arith), le_front bs 16 (omega arith), le_front bs 20 (omega arith), le_front bs 24 (omega arith), le_front bs 28 (omega arith), le_front bs 32 (omega arith))

marked_front : (bs : List ℕ) → marked (take 36 bs) ≡ marked bs
marked_front bs = ap (pointwise nat_eq mark) (take-take 4 36 bs (omega arith))

pub head_reads : (bs hd : List ℕ) → 36 ≤ length bs → hd ≡ take 36 bs
    → layout_of bs ≡ (if marked hd then layout_in (directory_of hd) (broken_pair (directory_of hd) (length bs)) else Err NoMark)
head_reads bs hd long e =
    let same : marked hd ≡ marked bs = ap marked e ∙ marked_front bs in
    let read : directory_of hd ≡ directory_of bs = ap directory_of e ∙ directory_front bs in
    cond-false _ _ _ (le-ltb (length bs) 36 long)
    ∙ ap (λ d. if marked bs then layout_in d (broken_pair d (length bs)) else Err NoMark) (sym read)
    ∙ ap (λ b. if b then layout_in (directory_of hd) (broken_pair (directory_of hd) (length bs)) else Err NoMark) (sym same)

-- ---- the pairs, one behind the other
-- where the front k bytes are gone, the first pair is the one at k
pub pair_drop : (k : ℕ) (xs ys : List ℕ) (p : Pair) → ys ≡ drop k xs → p ≡ pair_at ys 0 → p ≡ pair_at xs k
pair_drop k xs ys p e f = f ∙ ap (λ zs. pair_at zs 0) e ∙ simp (get_or-drop, add-zero, add_assoc)

pub rest_drop : (k : ℕ) (xs ys zs : List ℕ) → ys ≡ drop k xs → zs ≡ drop 8 ys → zs ≡ drop (k + 8) xs
rest_drop k xs ys zs e f = f ∙ ap (drop 8) e ∙ drop-drop 8 k xs

abbrev all : Pair → Pair → Pair → Pair → Directory
all a b c d = record { initial = a; clear = b; enter = c; hold = d }

pub directory_is : (bs : List ℕ) (a b c d : Pair) → a ≡ pair_at bs 4 → b ≡ pair_at bs 12 → c ≡ pair_at bs 20 → d ≡ pair_at bs 28 → all a b c d ≡ directory_of bs
directory_is bs a b c d e f g h =
    ap (λ x. all x b c d) e ∙ ap (λ x. all (pair_at bs 4) x c d) f ∙ ap (λ x. all (pair_at bs 4) (pair_at bs 12) x d) g
    ∙ ap (λ x. all (pair_at bs 4) (pair_at bs 12) (pair_at bs 20) x) h
