-- What the words of a sound part require of the machine, and what running them does. Assumes nothing.
use Rattle.std.proofs.Common.{◌≡◌, ℕ, ◌+◌, ◌<◌, ◌≤◌, true, false, not, List, ◌∷◌, map, length, get_or, drop, sym, ap, ◌∙◌, add-one, drop-cons}
use Rattle.std.proofs.lemmas.Bool.{and_parts, not-true}
use Rattle.std.proofs.lemmas.Option.{cond_some}
use Rattle.std.proofs.lemmas.List.{drop_all}
use Rattle.words.specs.declared.instruction.Part.{Part}
use Rattle.words.specs.Words.{lawful, admitted, instruction_of, word_of}
use Rattle.words.specs.Brackets.{sound, spoils, after}
use Rattle.words.proofs.Inverse.{written_back}
use Rattle.machine.specs.declared.memory.Memory.{Memory}
use Rattle.machine.specs.Machine.{Machine, run, step}

-- a lawful word is the word of its instruction
is_word : (p : Part) (w : ℕ) → lawful p w ≡ true → word_of (instruction_of w) ≡ w
is_word p w h = let i = instruction_of w in (cond_some (admitted p i) (word_of i) w (written_back p w h)).1

-- the word at i, where the words are sound from i on
pub record Next (p : Part) (depth w : ℕ) (rest : List ℕ) : Type 0 where
  pub brackets : spoils depth (word_of (instruction_of w)) ≡ false
  pub sound : sound p (after depth (word_of (instruction_of w))) rest ≡ true

dropped : (ws : List ℕ) (i : ℕ) → i < length ws → drop i ws ≡ get_or ws i 0 ∷ drop (i + 1) ws
dropped ws i h = rw (add-one, drop-cons ws i 0)

pub next : (p : Part) (depth i : ℕ) (ws : List ℕ) → i < length ws → sound p depth (drop i ws) ≡ true → Next p depth (get_or ws i 0) (drop (i + 1) ws)
next p depth i ws h e =
    let w = get_or ws i 0 in
    let both = and_parts (lawful p w) _ (ap (sound p depth) (sym (dropped ws i h)) ∙ e) in
    let rest = and_parts (not (spoils depth w)) (sound p (after depth w) (drop (i + 1) ws)) both.1 in
    let is = is_word p w both.0 in
    record {
      brackets = ap (spoils depth) is ∙ not-true (spoils depth w) rest.0;
      sound = ap (λ v. sound p (after depth v) (drop (i + 1) ws)) is ∙ rest.1;
    }

pub run-more : (i : ℕ) (ws : List ℕ) (m : Machine) → i < length ws → (run (map instruction_of (drop i ws)) m).memory ≡ (run (map instruction_of (drop (i + 1) ws)) (step (instruction_of (get_or ws i 0)) m)).memory
run-more i ws m h = ap (λ us. (run (map instruction_of us) m).memory) (dropped ws i h)

-- at the end of the words
pub run-all : (i : ℕ) (ws : List ℕ) (m : Machine) {n : Memory} → length ws ≤ i → (run (map instruction_of (drop i ws)) m).memory ≡ n → m.memory ≡ n
run-all i ws m h e = ap (λ us. (run (map instruction_of us) m).memory) (sym (drop_all i ws h)) ∙ e
