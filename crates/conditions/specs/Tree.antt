-- The condition tree: what it is spelled as, and the words that it gives. Assumes nothing.
use Rattle.std.specs.Prelude.{ℕ, ◌+◌, ◌≤◌, Bool, true, false, List, [], ◌∷◌, ◌++◌}
use Rattle.text.specs.declared.token.Letter.{Letter}
use Rattle.conditions.specs.declared.tree.Atom.{Atom}
use Rattle.conditions.specs.declared.tree.Atom.TheVariants.{Plain, Rise, Fall, Always}
use Rattle.text.specs.declared.token.Letter.TheVariants.{I, Q, X}
use Rattle.text.specs.declared.token.TokenKind.{TokenKind}
use Rattle.text.specs.declared.token.TokenKind.TheVariants.{Digits, Operand, Dot, Plus, Bang, Open, Close, Slash}
use Rattle.text.specs.declared.token.TokenKind.TheVariants.{Backslash}
use Rattle.words.specs.declared.instruction.Operand.{Operand as Source}
use Rattle.words.specs.declared.instruction.Operand.TheVariants as operand
use Rattle.words.specs.declared.instruction.Operand.TheVariants.{Input, Step, Output}
use Rattle.words.specs.declared.instruction.Instruction.{Instruction}
use Rattle.words.specs.declared.instruction.Instruction.TheVariants as instruction
use Rattle.words.specs.declared.instruction.Instruction.TheVariants.{Load, LoadNot, AndOpen, OrOpen, Not}

mutual
  -- a condition is its terms, a term its factors, the last one outermost
  pub data Cond : Type 0 where
    term : Term → Cond
    or : Cond → Term → Cond

  pub data Term : Type 0 where
    factor : Factor → Term
    and : Term → Factor → Term

  -- a factor with or without a `!`
  pub data Factor : Type 0 where
    is : Primary → Factor
    not : Primary → Factor

  pub data Primary : Type 0 where
    atom : Atom → Primary
    bracket : Cond → Primary

abbrev pub spell_atom : Atom → List TokenKind
spell_atom (Plain l n) = Operand l n ∷ []
spell_atom (Rise n) = Slash ∷ Operand I n ∷ []
spell_atom (Fall n) = Backslash ∷ Operand I n ∷ []
spell_atom Always = Digits 1 ∷ []

abbrev mutual
  pub spell : Cond → List TokenKind
  spell (term t) = spell_term t
  spell (or c t) = spell c ++ Plus ∷ spell_term t

  pub spell_term : Term → List TokenKind
  spell_term (factor f) = spell_factor f
  spell_term (and t f) = spell_term t ++ Dot ∷ spell_factor f

  pub spell_factor : Factor → List TokenKind
  spell_factor (is p) = spell_primary p
  spell_factor (not p) = Bang ∷ spell_primary p

  pub spell_primary : Primary → List TokenKind
  spell_primary (atom a) = spell_atom a
  spell_primary (bracket c) = Open ∷ spell c ++ Close ∷ []

-- what an atom is read as by the machine
abbrev pub plain_operand : Letter → ℕ → Source
plain_operand I n = Input n
plain_operand Q n = Output n
plain_operand X n = Step n

abbrev pub operand_of : Atom → Source
operand_of (Plain l n) = plain_operand l n
operand_of (Rise n) = operand.Rise n
operand_of (Fall n) = operand.Fall n
operand_of Always = operand.Always

-- what loads it, or its negation
abbrev pub loaded : Bool → Atom → Instruction
loaded false a = Load (operand_of a)
loaded true a = LoadNot (operand_of a)

-- an opening bracket, what stands inside, and the closing one
abbrev pub enclosed : Instruction → List Instruction → List Instruction
enclosed opening inner = opening ∷ (inner ++ (instruction.Close ∷ []))

-- the words of a condition: terms joined by OR( ), factors by AND( ), and a negated bracket negated at its end
abbrev mutual
  pub words : Cond → List Instruction
  words (term t) = words_term t
  words (or c t) = words c ++ enclosed OrOpen (words_term t)

  pub words_term : Term → List Instruction
  words_term (factor f) = words_factor f
  words_term (and t f) = words_term t ++ enclosed AndOpen (words_factor f)

  pub words_factor : Factor → List Instruction
  words_factor (is p) = words_primary false p
  words_factor (not p) = words_primary true p

  -- the Bool says whether a `!` stood before it
  pub words_primary : Bool → Primary → List Instruction
  words_primary b (atom a) = loaded b a ∷ []
  words_primary false (bracket c) = words c
  words_primary true (bracket c) = words c ++ (Not ∷ [])

-- each number is at most 63
abbrev pub SmallAtom : Atom → Type 0
SmallAtom (Plain l n) = n ≤ 63
SmallAtom (Rise n) = n ≤ 63
SmallAtom (Fall n) = n ≤ 63
SmallAtom Always = Unit {0}

-- Fits d c: each number is at most 63, and inside d brackets no bracket of c is the eighth
abbrev mutual
  pub Fits : ℕ → Cond → Type 0
  Fits d (term t) = FitsTerm d t
  Fits d (or c t) = Fits d c × FitsTerm d t

  pub FitsTerm : ℕ → Term → Type 0
  FitsTerm d (factor f) = FitsFactor d f
  FitsTerm d (and t f) = FitsTerm d t × FitsFactor d f

  pub FitsFactor : ℕ → Factor → Type 0
  FitsFactor d (is p) = FitsPrimary d p
  FitsFactor d (not p) = FitsPrimary d p

  pub FitsPrimary : ℕ → Primary → Type 0
  FitsPrimary d (atom a) = SmallAtom a
  FitsPrimary d (bracket c) = (d + 1 ≤ 7) × Fits (d + 1) c
