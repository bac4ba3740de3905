-- The code file that is written: its length, and its parts put one after another. Assumes nothing.
use Rattle.std.proofs.Common.{◌≡◌, ℕ, ◌+◌, ◌*◌, ◌≤◌, Bool, true, false, cond, ltb, List, [], ◌∷◌, ◌++◌, length, Ok, Err, Result, refl, ap, ◌∙◌, arith}
use Rattle.std.proofs.lemmas.List.{append_assoc, length-append}
use Rattle.std.proofs.lemmas.Bool.{ltb-true, ltb-false}
use Rattle.codefile.specs.declared.write.WriteFault.{WriteFault}
use Rattle.codefile.specs.declared.write.WriteFault.TheVariants.{TooManyWords, BufferTooShort}
use Rattle.codefile.specs.Format.{longest_file}
use Rattle.codefile.specs.File.{Code}
use Rattle.codefile.specs.Written.{word_bytes, directory_for, head_bytes, file_of, word_count, written, over}
use Rattle.codefile.proofs.Overwrites.{puts_more}

pub length_words : (ws : List ℕ) → length (word_bytes ws) ≡ 4 * length ws
length_words [] = omega arith
length_words (w ∷ ws) = let more = length_words ws in omega arith

pub length_file : (c : Code) → length (file_of c) ≡ 44 + 4 * word_count c
unfolding file_of
length_file c =
    let clear = length_words c.clear in
    let enter = length_words c.enter in
    let hold = length_words c.hold in
    let back = length-append (word_bytes c.enter) (word_bytes c.hold) in
    let parts = length-append (word_bytes c.clear) (word_bytes c.enter ++ word_bytes c.hold) in
    omega arith

-- ---- room for the longest file is room for any
within_longest : (c : Code) → word_count c ≤ 4096 → length (file_of c) ≤ longest_file
within_longest c few = let size = length_file c in omega arith

module _ (c : Code) (room : ℕ) (h : longest_file ≤ room) where
  abbrev size : ℕ
  size = length (file_of c)

  abbrev by_tests : Bool → Bool → Result (List ℕ) WriteFault
  by_tests many short = cond many (Err TooManyWords) (cond short (Err (BufferTooShort size)) (Ok (file_of c)))

  never : (r : ℕ) → longest_file ≤ r → ltb 4096 (word_count c) ≡ false → ltb r size ≡ true → ⊥
  never r long few short = let fits = within_longest c (ltb-false 4096 _ few) in let over = ltb-true r size short in omega arith

  pub same_written : written c room ≡ written c longest_file
  same_written = by (ltb 4096 (word_count c)) (ltb room size) (ltb longest_file size) refl refl refl
    where
      by : (many short still : Bool) → ltb 4096 (word_count c) ≡ many → ltb room size ≡ short → ltb longest_file size ≡ still → by_tests many short ≡ by_tests many still
      by true short still few s t = refl
      by false true still few s t = absurd (never room h few s)
      by false false true few s t = absurd (never longest_file (omega arith) few t)
      by false false false few s t = refl

  pub never_too_short : (n : ℕ) → written c room ≡ Err (BufferTooShort n) → ⊥
  never_too_short n = by (ltb 4096 (word_count c)) (ltb room size) refl refl
    where
      by : (many short : Bool) → ltb 4096 (word_count c) ≡ many → ltb room size ≡ short → by_tests many short ≡ Err (BufferTooShort n) → ⊥
      by true short few s e = let z : ◌≡◌ {A = ℕ} 0 1 = cc in omega arith
      by false true few s e = never room h few s
      by false false few s e = let z : ◌≡◌ {A = ℕ} 0 1 = cc in omega arith

-- the head, and the parts behind it one after another
pub puts_file : (code : Code) (old a b d new : List ℕ) → 44 + 4 * word_count code ≤ length old → a ≡ over 0 (head_bytes (directory_for code) code.initial) old → b ≡ over 44 (word_bytes code.clear) a → d ≡ over (44 + 4 * length code.clear) (word_bytes code.enter) b → new ≡ over (44 + 4 * length code.clear + 4 * length code.enter) (word_bytes code.hold) d → new ≡ over 0 (file_of code) old
unfolding file_of
puts_file code old a b d new room e f g h =
    let head = head_bytes (directory_for code) code.initial in
    let clear = word_bytes code.clear in
    let enter = word_bytes code.enter in
    let hold = word_bytes code.hold in
    let l = length_words code.clear in
    let m = length_words code.enter in
    let n = length-append (head ++ clear) enter in
    let two = puts_more 0 44 head clear old a b refl (omega arith) e f in
    let three = puts_more 0 (44 + 4 * length code.clear) (head ++ clear) enter old b d (omega arith) (omega arith) two g in
    let four = puts_more 0 (44 + 4 * length code.clear + 4 * length code.enter) ((head ++ clear) ++ enter) hold old d new (omega arith) (omega arith) three h in
    four ∙ ap (λ file. over 0 file old) (append_assoc (head ++ clear) enter hold ∙ append_assoc head clear (enter ++ hold))
