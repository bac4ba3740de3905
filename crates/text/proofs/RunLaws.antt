-- A run is the bytes before the first that does not go on with it. Assumes nothing.
use Rattle.std.proofs.Common.{◌≡◌, ℕ, suc, ◌+◌, ◌-◌, ◌*◌, ◌<◌, ◌≤◌, Bool, true, false, cond, List, [], ◌∷◌, ◌++◌, length, get_or, take, refl, ap, ◌∙◌, arith}
use lib.Seq.{take-append_seam}
use Rattle.std.specs.Char.{is_ascii_digit}
use Rattle.std.specs.List.{prefix_len}
use Rattle.std.proofs.lemmas.Bool.{cond-true, cond-false}
use Rattle.std.proofs.lemmas.Bool.Decides.{nat_tests}
use Rattle.std.proofs.lemmas.List.Sums.{prefix_len-le-length, prefix_len_passes, fold_more}
use Rattle.text.specs.Lex.{value_of}
use Rattle.text.specs.Runs.{digits}

module _ (p : ℕ → Bool) where
  -- a run of its own and what stands behind it
  pub run_append : (s rest : List ℕ) → prefix_len p s ≡ length s → prefix_len p (s ++ rest) ≡ length s + prefix_len p rest
  run_append [] rest h = omega arith
  run_append (b ∷ s) rest h = by (p b) h (run_append s rest)
    where
      by : (t : Bool) → cond t (1 + prefix_len p s) 0 ≡ suc (length s) → (prefix_len p s ≡ length s → prefix_len p (s ++ rest) ≡ length s + prefix_len p rest) → cond t (1 + prefix_len p (s ++ rest)) 0 ≡ suc (length s) + prefix_len p rest
      by true h more = omega (arith, more (omega arith))
      by false h more = absurd (omega arith)

  pub first_passes : (b : ℕ) (bs : List ℕ) → 0 < prefix_len p (b ∷ bs) → p b ≡ true
  first_passes b bs h = by (p b) h
    where
      by : (t : Bool) → 0 < cond t (1 + prefix_len p bs) 0 → t ≡ true
      by true h = refl
      by false h = absurd (omega arith)

-- the run that the bytes begin with, and the rest
pub record Split (p : ℕ → Bool) (bs : List ℕ) : Type 0 where
  pub run : List ℕ
  pub rest : List ℕ
  pub cut : bs ≡ run ++ rest
  pub all : prefix_len p run ≡ length run
  pub stops : prefix_len p rest ≡ 0
  pub long : prefix_len p bs ≡ length run

module _ (p : ℕ → Bool) where
  pub split : (bs : List ℕ) → Split p bs
  split [] = record { run = []; rest = []; cut = refl; all = refl; stops = refl; long = refl }
  split (b ∷ bs) = by (p b) refl (split bs)
    where
      by : (t : Bool) → p b ≡ t → Split p bs → Split p (b ∷ bs)
      by true e s = record {
        run = b ∷ s.run;
        rest = s.rest;
        cut = ap (λ l. b ∷ l) s.cut;
        all = cond-true (p b) (1 + prefix_len p s.run) 0 e ∙ omega (arith, s.all);
        stops = s.stops;
        long = cond-true (p b) (1 + prefix_len p bs) 0 e ∙ omega (arith, s.long);
      }
      by false e s = record {
        run = [];
        rest = b ∷ bs;
        cut = refl;
        all = refl;
        stops = cond-false (p b) (1 + prefix_len p bs) 0 e;
        long = cond-false (p b) (1 + prefix_len p bs) 0 e;
      }

  -- the run, taken from the bytes by its length
  pub taken : (bs : List ℕ) (s : Split p bs) → take (prefix_len p bs) bs ≡ s.run
  taken bs s = ap (λ n. take n bs) s.long ∙ ap (λ l. take (length s.run) l) s.cut ∙ take-append_seam s.run s.rest

-- each of the digits that the bytes begin with is one
pub digit_at : (bs : List ℕ) (i : ℕ) → i < digits bs → (48 ≤ get_or bs i 0) × (get_or bs i 0 ≤ 57)
digit_at bs i h = ranged (get_or bs i 0) (prefix_len_passes is_ascii_digit bs i 0 h)
  where
    ranged : (b : ℕ) → is_ascii_digit b ≡ true → (48 ≤ b) × (b ≤ 57)
    ranged b e = (grind (arith, nat_tests), grind (arith, nat_tests))

-- the value of one digit more
pub one_digit_more : (bs : List ℕ) (i : ℕ) → i < digits bs → value_of (i + 1) bs ≡ value_of i bs * 10 + (get_or bs i 0 - 48)
one_digit_more bs i h = fold_more (λ v b. v * 10 + (b - 48)) 0 bs i 0 (omega (arith, prefix_len-le-length is_ascii_digit bs))
