-- One word of a part, as the scan meets it. Assumes nothing.
use Rattle.std.specs.Prelude.{Option, Some, None, if◌then◌else◌}
use Rattle.std.proofs.Common.{◌≡◌, ℕ, ◌+◌, Bool, true, false, cond, ◌||◌, eqb, ltb, List, [], ◌∷◌, Ok, Err, Result, refl, ap, ◌∙◌, arith, ◌-◌, ◌≤◌, take, drop, length, sym}
use Rattle.std.proofs.lemmas.List.{take_rest}
use Rattle.std.proofs.lemmas.Bool.{cond-true, cond-false, or_parts, or_from, or_left, or_right, and_from, and_parts, not_from_false, not-true, ltb-false, le-ltb, eq-eqb, eqb-true}
use Rattle.std.proofs.lemmas.Option.{none-some}
use Rattle.words.specs.declared.instruction.Part.{Part}
use Rattle.words.specs.declared.instruction.Instruction.{Instruction}
use Rattle.words.specs.Words.{word_of, lawful, decoded}
use Rattle.words.specs.Brackets.{spoils, after, sound}
use Rattle.words.proofs.Inverse.{decoded_word, not_decoded}
use Rattle.faults.specs.declared.FileFault.{FileFault}
use Rattle.faults.specs.declared.FileFault.TheVariants.{UnlawfulWord, Unbalanced}
use Rattle.codefile.specs.Parts.{scanned}
use Rattle.codefile.specs.File.{le32, le_at, words_of}
use Rattle.codefile.proofs.Verdicts.{refused_not, ok_is}

-- how many brackets are open behind a word, if it does not spoil them
abbrev depth_behind : ℕ → ℕ → Option ℕ
depth_behind depth word = if spoils depth word then None else Some (after depth word)

steady : (depth word next : ℕ) → Some next ≡ depth_behind depth word → (spoils depth word ≡ false) × (next ≡ after depth word)
steady depth word next h = cases (spoils depth word) refl h
  where
    cases : (b : Bool) → spoils depth word ≡ b → Some next ≡ (if b then None else Some (after depth word)) → (spoils depth word ≡ false) × (next ≡ after depth word)
    cases true e h = let z : ◌≡◌ {A = ℕ} 0 1 = cc in absurd (omega arith)
    cases false e h = let same : next ≡ after depth word = cc in (e, same)

spoiled : (depth word : ℕ) → None ≡ depth_behind depth word → spoils depth word ≡ true
spoiled depth word h = cases (spoils depth word) h
  where
    cases : (b : Bool) → None ≡ (if b then None else Some (after depth word)) → b ≡ true
    cases true h = refl
    cases false h = absurd (none-some (after depth word) h)

-- the first word, and the rest as the checker reads it
pub words_more : (xs : List ℕ) → 4 ≤ length xs → words_of xs ≡ le_at xs 0 ∷ words_of (take (length xs - 4) (drop 4 xs))
words_more [] h = absurd (omega arith)
words_more (a ∷ []) h = absurd (omega arith)
words_more (a ∷ (b ∷ [])) h = absurd (omega arith)
words_more (a ∷ (b ∷ (c ∷ []))) h = absurd (omega arith)
words_more (a ∷ (b ∷ (c ∷ (d ∷ rest)))) h = ap (λ ys. le32 a b c d ∷ words_of ys) (sym (take_rest (a ∷ (b ∷ (c ∷ (d ∷ rest)))) 4))

first_word : (p : Part) (at : ℕ) (owed : Bool) (depth : ℕ) (xs : List ℕ) → 4 ≤ length xs → (w : ℕ) → w ≡ le_at xs 0 → scanned p at owed depth (words_of xs) ≡ scanned p at owed depth (w ∷ words_of (take (length xs - 4) (drop 4 xs)))
first_word p at owed depth xs h w e = ap (scanned p at owed depth) (words_more xs h ∙ ap (λ v. v ∷ words_of (take (length xs - 4) (drop 4 xs))) (sym e))

-- ---- what the first word comes to
pub scan_undecoded : (p : Part) (at : ℕ) (owed : Bool) (depth : ℕ) (xs : List ℕ) → 4 ≤ length xs → (w : ℕ) → w ≡ le_at xs 0 → decoded p w ≡ None → Err (UnlawfulWord at) ≡ scanned p at owed depth (words_of xs)
scan_undecoded p at owed depth xs h w e none = sym (first_word p at owed depth xs h w e ∙ cond-false (lawful p w) _ _ (not_decoded p w none))

pub scan_owed : (p : Part) (at : ℕ) (owed : Bool) (depth : ℕ) (xs : List ℕ) → 4 ≤ length xs → (w : ℕ) → w ≡ le_at xs 0 → (i : Instruction) → decoded p w ≡ Some i → owed ≡ true → Err (Unbalanced at) ≡ scanned p at owed depth (words_of xs)
scan_owed p at owed depth xs h w e i is was_owed =
    sym (first_word p at owed depth xs h w e
    ∙ cond-true (lawful p w) _ _ (decoded_word p w i is).0
    ∙ cond-true (owed || spoils depth w) _ _ (or_left owed (spoils depth w) was_owed))

pub scan_spoiled : (p : Part) (at : ℕ) (owed : Bool) (depth : ℕ) (xs : List ℕ) → 4 ≤ length xs → (w : ℕ) → w ≡ le_at xs 0 → (i : Instruction) → decoded p w ≡ Some i → None ≡ depth_behind depth (word_of i) → Err (Unbalanced at) ≡ scanned p at owed depth (words_of xs)
scan_spoiled p at owed depth xs h w e i is none =
    let word = decoded_word p w i is in
    let bad = spoiled depth w (none ∙ ap (depth_behind depth) word.1) in
    sym (first_word p at owed depth xs h w e
    ∙ cond-true (lawful p w) _ _ word.0
    ∙ cond-true (owed || spoils depth w) _ _ (or_right owed (spoils depth w) bad))

pub scan_more : (p : Part) (at : ℕ) (owed : Bool) (depth : ℕ) (xs : List ℕ) → 4 ≤ length xs → (w : ℕ) → w ≡ le_at xs 0 → (i : Instruction) → decoded p w ≡ Some i → owed ≡ false → (next : ℕ) → Some next ≡ depth_behind depth (word_of i) → scanned p (at + 4) false next (words_of (take (length xs - 4) (drop 4 xs))) ≡ scanned p at owed depth (words_of xs)
scan_more p at owed depth xs h w e i is none next more =
    let word = decoded_word p w i is in
    let fine = steady depth w next (more ∙ ap (depth_behind depth) word.1) in
    let rest = words_of (take (length xs - 4) (drop 4 xs)) in
    ap (λ d. scanned p (at + 4) false d rest) fine.1
    ∙ sym (first_word p at owed depth xs h w e
    ∙ cond-true (lawful p w) _ _ word.0
    ∙ cond-false (owed || spoils depth w) _ _ (or_from owed (spoils depth w) none fine.0))

zero_depth : (depth : ℕ) → ltb 0 depth ≡ false → eqb depth 0 ≡ true
zero_depth depth e = eq-eqb depth 0 (omega (arith, ltb-false 0 depth e))

passes : (good bad : Bool) (e f : FileFault) (rest : Result Bool FileFault) → cond good (cond bad (Err e) rest) (Err f) ≡ Ok false → (good ≡ true) × (bad ≡ false) × (rest ≡ Ok false)
passes true true e f rest h = absurd (refused_not e false h)
passes true false e f rest h = (refl, refl, h)
passes false bad e f rest h = absurd (refused_not f false h)

-- a scan that ends with no bracket open began with none owed, and the words are sound
pub scan_sound : (p : Part) (at : ℕ) (owed : Bool) (depth : ℕ) (ws : List ℕ) → scanned p at owed depth ws ≡ Ok false → (owed ≡ false) × (sound p depth ws ≡ true)
scan_sound p at owed depth [] e = let none = or_parts owed (ltb 0 depth) (ok_is (owed || ltb 0 depth) false e) in (none.0, zero_depth depth none.1)
scan_sound p at owed depth (w ∷ ws) e =
    let fine = passes (lawful p w) (owed || spoils depth w) _ _ _ e in
    let none = or_parts owed (spoils depth w) fine.1 in
    let rest = scan_sound p (at + 4) false (after depth w) ws fine.2 in
    (none.0, and_from _ _ fine.0 (and_from _ _ (not_from_false (spoils depth w) none.1) rest.1))

-- sound words are scanned to their end, with no bracket open there
pub sound_scan : (p : Part) (at depth : ℕ) (ws : List ℕ) → sound p depth ws ≡ true → scanned p at false depth ws ≡ Ok false
sound_scan p at depth [] h = ap (λ b. Ok b) (le-ltb 0 depth (omega (arith, eqb-true depth 0 h)))
sound_scan p at depth (w ∷ ws) h =
    let first = and_parts _ _ h in
    let rest = and_parts _ _ first.1 in
    cond-true (lawful p w) _ _ first.0
    ∙ cond-false (spoils depth w) _ _ (not-true (spoils depth w) rest.0)
    ∙ sound_scan p (at + 4) (after depth w) ws rest.1
