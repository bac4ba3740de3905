-- A written file is accepted, and says what was written. Assumes nothing.
use Rattle.std.proofs.Common.{◌≡◌, ℕ, ◌+◌, ◌*◌, ◌/◌, ◌%◌, ◌<◌, ◌≤◌, true, false, eqb, nat_lt, List, [], ◌∷◌, ◌++◌, length, take, drop, None, Ok, refl, ap, ◌∙◌, arith}
use Rattle.std.proofs.lemmas.Nat.{from_le_bytes-to_le_bytes_4}
use Rattle.std.proofs.lemmas.List.{take_at, drop_at}
use Rattle.std.proofs.lemmas.Bool.{and_parts, le-ltb}
use Rattle.std.proofs.lemmas.Bool.Decides.{nat_tests}
use Rattle.words.specs.declared.instruction.Part.{Part}
use Rattle.words.specs.declared.instruction.Part.TheVariants.{Clear, Enter, Hold}
use Rattle.words.specs.Words.{lawful, pairs, numbers, operator_of, area_of, number_of}
use Rattle.words.specs.Brackets.{sound, after}
use Rattle.codefile.specs.declared.directory.Directory.{Directory}
use Rattle.codefile.specs.Parts.{chain, scanned}
use Rattle.codefile.specs.File.{Layout, Code, le32, le_at, words_of, marked, directory_of, broken_pair, too_many, layout_in, layout_of, clear_bytes, enter_bytes, hold_bytes, checked, contents, code_of}
use Rattle.codefile.specs.Written.{word_bytes, directory_for, file_of, word_count, SoundCode, LoadsBack}
use Rattle.codefile.proofs.Layouts.{lengths}
use Rattle.codefile.proofs.Loading.{accepted_by}
use Rattle.codefile.proofs.Scans.{sound_scan}
use Rattle.codefile.proofs.WrittenFiles.{length_words, length_file}

-- ---- numbers and words are read back
number_back : (n : ℕ) → n < 4294967296 → le32 (n % 256) (n / 256 % 256) (n / 65536 % 256) (n / 16777216 % 256) ≡ n
number_back = from_le_bytes-to_le_bytes_4

below_fourteen : (p : Part) (o a : ℕ) → pairs p o a ≡ true → o < 14
below_fourteen p o a h = grind (arith, nat_tests)

lawful_fits : (p : Part) (w : ℕ) → lawful p w ≡ true → w < 4294967296
lawful_fits p w h =
    let whole = and_parts (eqb (w % 16384) 0) _ h in
    let both = and_parts (pairs p (operator_of w) (area_of w)) (numbers (area_of w) (number_of w)) whole.1 in
    omega (arith, below_fourteen p (operator_of w) (area_of w) both.0)

words_back : (p : Part) (depth : ℕ) (ws : List ℕ) → sound p depth ws ≡ true → words_of (word_bytes ws) ≡ ws
words_back p depth [] h = refl
words_back p depth (w ∷ ws) h =
    let first = and_parts _ _ h in
    let rest = and_parts _ _ first.1 in
    ap (λ v. v ∷ words_of (word_bytes ws)) (number_back w (lawful_fits p w first.0))
    ∙ ap (λ vs. w ∷ vs) (words_back p (after depth w) ws rest.1)

-- ---- the head is accepted
layout_from : (bs : List ℕ) (d : Directory) → 36 ≤ length bs → marked bs ≡ true → directory_of bs ≡ d → broken_pair d (length bs) ≡ None → too_many d ≡ false → layout_of bs ≡ Ok (lengths d)
layout_from bs d long mark e none few =
    let at : nat_lt (length bs) 36 ≡ false = le-ltb (length bs) 36 long in
    rw (at, mark) (ap (λ x. layout_in x (broken_pair x (length bs))) e ∙ ap (layout_in d) none ∙ rw few)

directory_back : (c : Code) → word_count c ≤ 4096 → directory_of (file_of c) ≡ directory_for c
unfolding file_of
directory_back c few =
    let clear = length c.clear in
    let enter = length c.enter in
    let hold = length c.hold in
    let a = number_back (4 * clear) (omega arith) in
    let b = number_back (44 + 4 * clear) (omega arith) in
    let d = number_back (4 * enter) (omega arith) in
    let e = number_back (44 + 4 * clear + 4 * enter) (omega arith) in
    let f = number_back (4 * hold) (omega arith) in
    cc

unbroken_directory : (c : Code) → broken_pair (directory_for c) (44 + 4 * word_count c) ≡ None
unbroken_directory c =
    let clear = length c.clear in
    let enter = length c.enter in
    let hold = length c.hold in
    grind (arith, nat_tests)

abbrev layout_for : Code → Layout
layout_for c = lengths (directory_for c)

is_marked : (c : Code) → marked (file_of c) ≡ true
unfolding file_of
is_marked c = refl

layout_back : (c : Code) → word_count c ≤ 4096 → layout_of (file_of c) ≡ Ok (layout_for c)
layout_back c few =
    let size = length_file c in
    layout_from (file_of c) (directory_for c) (omega arith) (is_marked c) (directory_back c few)
    (ap (broken_pair (directory_for c)) size ∙ unbroken_directory c)
    (le-ltb 4096 ((4 * length c.clear + 4 * length c.enter + 4 * length c.hold) / 4) (omega arith))

-- ---- the parts are found where they lie
module _ (c : Code) where
  words_behind : drop 44 (file_of c) ≡ word_bytes c.clear ++ (word_bytes c.enter ++ word_bytes c.hold)
  unfolding file_of
  words_behind = refl

  behind_clear : drop (4 * length c.clear) (drop 44 (file_of c)) ≡ word_bytes c.enter ++ word_bytes c.hold
  behind_clear = ap (drop (4 * length c.clear)) words_behind ∙ drop_at (word_bytes c.clear) _ _ (length_words c.clear)

  clear_bytes_back : clear_bytes (file_of c) (layout_for c) ≡ word_bytes c.clear
  clear_bytes_back = ap (take (4 * length c.clear)) words_behind ∙ take_at (word_bytes c.clear) _ _ (length_words c.clear)

  enter_bytes_back : enter_bytes (file_of c) (layout_for c) ≡ word_bytes c.enter
  enter_bytes_back = ap (take (4 * length c.enter)) behind_clear ∙ take_at (word_bytes c.enter) _ _ (length_words c.enter)

  hold_bytes_back : hold_bytes (file_of c) (layout_for c) ≡ word_bytes c.hold
  hold_bytes_back = ap (drop (4 * length c.enter)) behind_clear ∙ drop_at (word_bytes c.enter) _ _ (length_words c.enter)

-- ---- and their words are those of the program
record PartsAre (bs : List ℕ) (l : Layout) (c : Code) : Type 0 where
  clear : words_of (clear_bytes bs l) ≡ c.clear
  enter : words_of (enter_bytes bs l) ≡ c.enter
  hold : words_of (hold_bytes bs l) ≡ c.hold

parts_back : (c : Code) → SoundCode c → PartsAre (file_of c) (layout_for c) c
parts_back c s = record {
  clear = ap words_of (clear_bytes_back c) ∙ words_back Clear 0 c.clear s.clears;
  enter = ap words_of (enter_bytes_back c) ∙ words_back Enter 0 c.enter s.enters;
  hold = ap words_of (hold_bytes_back c) ∙ words_back Hold 0 c.hold s.holds;
}

checked_from : (bs : List ℕ) (l : Layout) (c : Code) → PartsAre bs l c → SoundCode c → checked bs l ≡ Ok tt
checked_from bs l c is s =
    let end = length bs in
    let clear : scanned Clear 44 false 0 (words_of (clear_bytes bs l)) ≡ Ok false =
    ap (scanned Clear 44 false 0) is.clear ∙ sound_scan Clear 44 0 c.clear s.clears in
    let enter : scanned Enter (44 + l.clear) false 0 (words_of (enter_bytes bs l)) ≡ Ok false =
    ap (scanned Enter (44 + l.clear) false 0) is.enter ∙ sound_scan Enter (44 + l.clear) 0 c.enter s.enters in
    let hold : scanned Hold (44 + l.clear + l.enter) false 0 (words_of (hold_bytes bs l)) ≡ Ok false =
    ap (scanned Hold (44 + l.clear + l.enter) false 0) is.hold ∙ sound_scan Hold (44 + l.clear + l.enter) 0 c.hold s.holds in
    rw (clear, enter, hold)

contents_from : (bs : List ℕ) (l : Layout) (c : Code) → le_at bs 36 + le_at bs 40 * 4294967296 ≡ c.initial → PartsAre bs l c → contents bs l ≡ c
contents_from bs l c e is = rw (e, is.clear, is.enter, is.hold)

halves : (n low high : ℕ) → low ≡ n % 4294967296 → high ≡ n / 4294967296 → low + high * 4294967296 ≡ n
halves n low high e f = omega arith

initial_back : (c : Code) → c.initial < 18446744073709551616 → le_at (file_of c) 36 + le_at (file_of c) 40 * 4294967296 ≡ c.initial
unfolding file_of
initial_back c h =
    halves c.initial _ _
    (number_back (c.initial % 4294967296) (omega arith))
    (number_back (c.initial / 4294967296) (omega arith))

-- ---- what is written loads
loads_back : (c : Code) → c.initial < 18446744073709551616 → word_count c ≤ 4096 → SoundCode c → code_of (file_of c) ≡ Ok c
loads_back c steps few s =
    let bs = file_of c in
    let l = layout_for c in
    let is = parts_back c s in
    let accepted = accepted_by bs l (Ok tt) (layout_back c few) (checked_from bs l c is s) in
    ap (λ r. chain r (λ m. Ok (contents bs m))) accepted
    ∙ ap (λ x. Ok x) (contents_from bs l c (initial_back c steps) is)

pub written_loads : (c : Code) (n : ℕ) (rest new : List ℕ) → c.initial < 18446744073709551616 → word_count c ≤ 4096 → length (file_of c) ≡ n → new ≡ file_of c ++ rest → LoadsBack c (take n new)
written_loads c n rest new steps few long e s = ap code_of (ap (take n) e ∙ take_at (file_of c) rest n long) ∙ loads_back c steps few s
