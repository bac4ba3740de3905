-- What a list that was emitted to keeps. Assumes nothing.
use Rattle.std.proofs.Common.{◌≡◌, ℕ, ◌<◌, ◌≤◌, true, false, List, map, length, sym, ap, ◌∙◌, arith}
use Rattle.std.proofs.lemmas.List.{length-map, take_all}
use Rattle.std.proofs.lemmas.Bool.{ltb-true, ltb-false}
use Rattle.words.specs.declared.instruction.Instruction.{Instruction}
use Rattle.words.specs.Words.{word_of}
use Rattle.words.specs.Emitted.{Kept, kept_in, nothing, pushed}
use Rattle.words.proofs.Emitting.{pushed_first}
use Rattle.lines.specs.Grammar.{Tree}
use Rattle.translation.specs.declared.draft.Draft.{Draft}
use Rattle.translation.specs.Translation.{clear_part, enter_part, hold_part}
use Rattle.translation.specs.Drafts.{Drafted}
use Rattle.translation.specs.Limits.{longest_part}

-- ---- one list
pub record Whole (is : List Instruction) (ws : List ℕ) : Type 0 where
  pub words : ws ≡ map word_of is
  pub few : length is ≤ 4096

-- a list that had no more keeps all of its words
pub kept_whole : (k : Kept) (is : List Instruction) (ws : List ℕ) → k ≡ pushed nothing is → (k.more ≡ false) × (ws ≡ k.words) → Whole is ws
kept_whole k is ws e m =
    let first = e ∙ pushed_first is in
    let few = ltb-false 4096 (length (map word_of is)) (sym (ap (λ k. k.more) first) ∙ m.0) in
    let all = m.1 ∙ ap (λ k. k.words) first ∙ take_all 4096 (map word_of is) few in
    record { words = all; few = omega (arith, few, length-map is word_of) }

kept_more : (k : Kept) (is : List Instruction) → k ≡ pushed nothing is → k.more ≡ true → 4096 < length is
kept_more k is e m =
    let first = e ∙ pushed_first is in
    let many = ltb-true 4096 (length (map word_of is)) (sym (ap (λ k. k.more) first) ∙ m) in
    omega (arith, length-map is word_of)

-- ---- the three parts: one of them has too many words
pub clear_over : (ls : List Tree) (d : Draft) → Drafted ls d → (kept_in d.clear).more ≡ true → 4096 < longest_part ls
clear_over ls d h m = let o = kept_more (kept_in d.clear) (clear_part ls) h.clear m in omega arith

pub enter_over : (ls : List Tree) (d : Draft) → Drafted ls d → (kept_in d.enter).more ≡ true → 4096 < longest_part ls
enter_over ls d h m = let o = kept_more (kept_in d.enter) (enter_part ls) h.enter m in omega arith

pub hold_over : (ls : List Tree) (d : Draft) → Drafted ls d → (kept_in d.hold).more ≡ true → 4096 < longest_part ls
hold_over ls d h m = let o = kept_more (kept_in d.hold) (hold_part ls) h.hold m in omega arith

-- none of them has too many words
pub longest_fits : (ls : List Tree) → length (clear_part ls) ≤ 4096 → length (enter_part ls) ≤ 4096 → length (hold_part ls) ≤ 4096 → longest_part ls ≤ 4096
longest_fits ls clear enter hold = omega arith
