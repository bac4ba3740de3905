-- What the readers answer, of what is left of the tokens. Assumes nothing.
use Rattle.std.specs.Prelude.{◌≡◌, ◌≢◌, ℕ, ◌≤◌, Bool, ◌⊎◌, List, [], ◌∷◌, length}
use Rattle.faults.specs.declared.TextFault.{TextFault}
use Rattle.faults.specs.declared.TextFault.TheVariants.{Unexpected, NumberTooLarge}
use Rattle.text.specs.declared.token.Letter.{Letter}
use Rattle.text.specs.declared.token.Token.{Token}
use Rattle.text.specs.declared.token.TokenKind.{TokenKind}
use Rattle.text.specs.declared.token.TokenKind.TheVariants.{Dot, Plus, Operand}
use Rattle.words.specs.declared.instruction.Instruction.{Instruction}
use Rattle.words.specs.Emitted.{Kept, pushed}
use Rattle.conditions.specs.declared.rest.Rest.{Rest}
use Rattle.conditions.specs.declared.tree.Atom.{Atom}
use Rattle.conditions.specs.Read.{Heads, Lacks}
use Rattle.conditions.specs.Scan.{State, Scan, fails, scan, wants, primary, sign, Terms, no_terms, Factors}
use Rattle.conditions.specs.Scan.{no_factors, join, extend, Brackets, deep, read}
use Rattle.conditions.specs.Tree as tree
use Rattle.conditions.specs.Tree.{Term, Factor, Primary, words, words_term, words_factor, words_primary}

-- ---- one token
-- the next token, and what is left behind it
pub record Takes (from : Rest) (t : Token) (rest : Rest) : Type 0 where
  pub split : from.tokens.now ≡ t ∷ rest.tokens.now
  pub same_end : rest.end ≡ from.end

-- no token is left, and the fault stands where they ran out
pub record NoneLeft (from : Rest) (f : TextFault) : Type 0 where
  pub none : from.tokens.now ≡ []
  pub at : f ≡ Unexpected from.end

-- the next token is of this kind, and rest is what is left behind it
pub record Behind (k : TokenKind) (from rest : Rest) : Type 0 where
  pub heads : Heads k from.tokens.now rest.tokens.now
  pub same_end : rest.end ≡ from.end

-- the next token is an operand of this letter, whose number is n, up to 63
pub record TakesOperand (l : Letter) (from : Rest) (n : ℕ) (rest : Rest) : Type 0 where
  pub token : Token
  pub takes : Takes from token rest
  pub is : token.kind ≡ Operand l n
  pub small : n ≤ 63

-- the next token is another one, or such an operand whose number is above 63
pub record OtherFirst (l : Letter) (from : Rest) (f : TextFault) : Type 0 where
  pub token : Token
  pub rest : List Token
  pub split : from.tokens.now ≡ token ∷ rest
  pub other : (n : ℕ) → token.kind ≢ Operand l n
  pub at : f ≡ Unexpected token.place

pub record LargeFirst (l : Letter) (from : Rest) (f : TextFault) : Type 0 where
  pub token : Token
  pub rest : List Token
  pub number : ℕ
  pub split : from.tokens.now ≡ token ∷ rest
  pub is : token.kind ≡ Operand l number
  pub large : 64 ≤ number
  pub at : f ≡ NumberTooLarge token.place

-- why the next token is no operand of this letter whose number is up to 63
abbrev pub LacksOperand : Letter → Rest → TextFault → Type 0
LacksOperand l from f = NoneLeft from f ⊎ (OtherFirst l from f ⊎ LargeFirst l from f)

-- ---- the parts of a condition
-- what the scan makes of what is left, from a state on
abbrev pub going : State → Rest → Scan
going x left = scan left.tokens.now x left.end

-- rest is what is left behind some of the tokens
pub record Later (from rest : Rest) : Type 0 where
  pub within : length rest.tokens.now ≤ length from.tokens.now
  pub same_end : rest.end ≡ from.end

-- a refusal: the scan gives the same fault, wherever it comes to the part
pub record NoAtom (from : Rest) (f : TextFault) : Type 0 where
  pub fails : (h : Brackets) (s : Terms) (p : Factors) (b : Bool) → going (primary h s p b) from ≡ fails f

pub record NoPrimary (b : Bool) (d : ℕ) (from : Rest) (f : TextFault) : Type 0 where
  pub fails : (h : Brackets) (s : Terms) (p : Factors) → deep h ≡ d → going (primary h s p b) from ≡ fails f

pub record NoFactor (d : ℕ) (from : Rest) (f : TextFault) : Type 0 where
  pub fails : (h : Brackets) (s : Terms) (p : Factors) → deep h ≡ d → going (wants h s p) from ≡ fails f

pub record NoTerm (d : ℕ) (from : Rest) (f : TextFault) : Type 0 where
  pub fails : (h : Brackets) (s : Terms) → deep h ≡ d → going (wants h s no_factors) from ≡ fails f

pub record NoCond (d : ℕ) (from : Rest) (f : TextFault) : Type 0 where
  pub fails : (h : Brackets) → deep h ≡ d → going (wants h no_terms no_factors) from ≡ fails f

-- a refusal leaves the words of before, and some words behind them
pub record Grown (before after : Kept) : Type 0 where
  pub more : List Instruction
  pub emitted : after ≡ pushed before more

-- the scan goes on to rest with the part read, wherever it comes to it; the part's words stand behind those of before
pub record ReadsAtom (from : Rest) (a : Atom) (rest : Rest) : Type 0 where
  pub passes :
      (h : Brackets) (s : Terms) (p : Factors) (b : Bool) →
      going (primary h s p b) from ≡ going (read h s p b (tree.atom a)) rest
  pub later : Later from rest

pub record ReadsPrimary (b : Bool) (d : ℕ) (from : Rest) (before : Kept) (rest : Rest) (after : Kept) : Type 0 where
  pub tree : Primary
  pub emitted : after ≡ pushed before (words_primary b tree)
  pub passes :
      (h : Brackets) (s : Terms) (p : Factors) → deep h ≡ d →
      going (primary h s p b) from ≡ going (read h s p b tree) rest
  pub later : Later from rest

pub record ReadsFactor (d : ℕ) (from : Rest) (before : Kept) (rest : Rest) (after : Kept) : Type 0 where
  pub tree : Factor
  pub emitted : after ≡ pushed before (words_factor tree)
  pub passes :
      (h : Brackets) (s : Terms) (p : Factors) → deep h ≡ d →
      going (wants h s p) from ≡ going (sign h s (extend p tree)) rest
  pub later : Later from rest

pub record ReadsTerm (d : ℕ) (from : Rest) (before : Kept) (rest : Rest) (after : Kept) : Type 0 where
  pub tree : Term
  pub emitted : after ≡ pushed before (words_term tree)
  pub passes : (h : Brackets) (s : Terms) → deep h ≡ d → going (wants h s no_factors) from ≡ going (sign h s tree) rest
  pub undotted : Lacks Dot rest.tokens.now
  pub later : Later from rest

pub record ReadsCondition (d : ℕ) (from : Rest) (before : Kept) (rest : Rest) (after : Kept) : Type 0 where
  -- the condition's last term, and those before it
  pub others : Terms
  pub last : Term
  pub emitted : after ≡ pushed before (words (join others last))
  pub passes : (h : Brackets) → deep h ≡ d → going (wants h no_terms no_factors) from ≡ going (sign h others last) rest
  pub undotted : Lacks Dot rest.tokens.now
  pub unadded : Lacks Plus rest.tokens.now
  pub later : Later from rest
