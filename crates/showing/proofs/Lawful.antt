-- Each word of a sound part has an instruction. Assumes nothing.
use Rattle.std.proofs.Common.{◌≡◌, ℕ, zero, suc, ◌<◌, Bool, true, false, cond, not, List, [], ◌∷◌, length, get_or, Some, None, Option, refl, sym, subst, arith}
use Rattle.std.specs.Prelude.{IsSome}
use Rattle.std.proofs.lemmas.Bool.{and_parts}
use Rattle.words.specs.declared.instruction.Instruction.{Instruction}
use Rattle.words.specs.declared.instruction.Part.{Part}
use Rattle.words.specs.Brackets.{sound, spoils, after}
use Rattle.words.specs.Words.{lawful, decoded, instruction_of}

lawful_at : (p : Part) (depth : ℕ) (ws : List ℕ) → sound p depth ws ≡ true → (i d : ℕ) → i < length ws → lawful p (get_or ws i d) ≡ true
lawful_at p depth [] e i d h = absurd (omega arith)
lawful_at p depth (w ∷ ws) e zero d h = (and_parts (lawful p w) _ e).0
lawful_at p depth (w ∷ ws) e (suc i) d h =
    lawful_at p (after depth w) ws (and_parts (not (spoils depth w)) _ (and_parts (lawful p w) _ e).1).1 i d (omega arith)

some : (b : Bool) (i : Instruction) (o : Option Instruction) → b ≡ true → o ≡ cond b (Some i) None → IsSome o
some true i o t e = subst IsSome (sym e) refl
some false i o t e = let z : ◌≡◌ {A = ℕ} 0 1 = cc in absurd (omega arith)

pub has_instruction : (p : Part) (ws : List ℕ) (i : ℕ) (o : Option Instruction) → sound p 0 ws ≡ true → i < length ws → o ≡ decoded p (get_or ws i 0) → IsSome o
has_instruction p ws i o e h is = some (lawful p (get_or ws i 0)) (instruction_of (get_or ws i 0)) o (lawful_at p 0 ws e i 0 h) is
