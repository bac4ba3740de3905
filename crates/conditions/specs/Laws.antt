-- What the scan of a condition means in words of the tree. Assumes nothing.
use Rattle.std.specs.Prelude.{◌≡◌, ℕ, ◌+◌, ◌≤◌, List, [], ◌∷◌, ◌++◌}
use Rattle.faults.specs.declared.TextFault.{TextFault}
use Rattle.faults.specs.declared.TextFault.TheVariants.{TooLong, NoToken, TooManyDigits, Unexpected, EighthBracket}
use Rattle.faults.specs.declared.TextFault.TheVariants.{NumberTooLarge}
use Rattle.faults.specs.Numbers.{text_place}
use Rattle.text.specs.declared.token.Letter.{Letter}
use Rattle.text.specs.declared.token.Token.{Token}
use Rattle.text.specs.declared.token.TokenKind.{TokenKind}
use Rattle.text.specs.declared.token.TokenKind.TheVariants.{Keyword, Digits, Operand, Comma, Dot, Plus, Bang, Open}
use Rattle.text.specs.declared.token.TokenKind.TheVariants.{Close, Slash, Backslash, LineEnd}
use Rattle.words.specs.Emitted.{Kept, pushed}
use Rattle.conditions.specs.declared.rest.Rest.{Rest}
use Rattle.conditions.specs.Read.{kinds, Lacks, placed}
use Rattle.conditions.specs.Scan.{condition_of, stops}
use Rattle.conditions.specs.Tree.{Cond, spell, words, Fits}

-- the tokens begin with the whole condition c, which fits, and rest is what it leaves
pub record Begins (c : Cond) (ts rest : List Token) : Type 0 where
  pub used : List Token
  pub split : ts ≡ used ++ rest
  pub spelled : kinds used ≡ spell c
  pub fits : Fits 0 c
  pub undotted : Lacks Dot rest
  pub unadded : Lacks Plus rest

-- a viable prefix: some condition within the limits begins with these kinds
pub record Viable (ks : List TokenKind) : Type 0 where
  pub tree : Cond
  pub more : List TokenKind
  pub spelled : ks ++ more ≡ spell tree
  pub fits : Fits 0 tree

-- these kinds spell a condition of the grammar, whatever the limits say of it
pub record Spells (ks : List TokenKind) : Type 0 where
  pub tree : Cond
  pub spelled : ks ≡ spell tree

-- some condition of the grammar begins with these kinds, whatever the limits say of it
pub record Possible (ks : List TokenKind) : Type 0 where
  pub tree : Cond
  pub more : List TokenKind
  pub spelled : ks ++ more ≡ spell tree

-- o for an opening bracket, c for a closing one
abbrev pub bracketed : ℕ → ℕ → TokenKind → ℕ
bracketed o c (Keyword w) = 0
bracketed o c (Digits n) = 0
bracketed o c (Operand l n) = 0
bracketed o c Comma = 0
bracketed o c Dot = 0
bracketed o c Plus = 0
bracketed o c Bang = 0
bracketed o c Open = o
bracketed o c Close = c
bracketed o c Slash = 0
bracketed o c Backslash = 0
bracketed o c LineEnd = 0

abbrev pub tally : ℕ → ℕ → List TokenKind → ℕ
tally o c [] = 0
tally o c (k ∷ ks) = bracketed o c k + tally o c ks

-- how many opening brackets there are
abbrev pub opened : List TokenKind → ℕ
opened ks = tally 1 0 ks

-- how many closing ones
abbrev pub closed : List TokenKind → ℕ
closed ks = tally 0 1 ks

-- fault 4: the grammar has no condition that ends behind the kinds, and none that continues with the next token
abbrev pub Unfit : List TokenKind → List Token → Type 0
Unfit ks [] = Spells ks → ⊥
Unfit ks (t ∷ us) = (Spells ks → ⊥) × (Possible (ks ++ t.kind ∷ []) → ⊥)

-- fault 5: the next kind opens a bracket inside seven others, where the grammar has one
pub record Eighth (ks : List TokenKind) (k : TokenKind) : Type 0 where
  pub opens : k ≡ Open
  pub seven : opened ks ≡ closed ks + 7
  pub otherwise : Possible (ks ++ k ∷ [])

-- fault 6: the next kind is an operand, where the grammar has one, but its number is too large
pub record Large (ks : List TokenKind) (k : TokenKind) : Type 0 where
  pub letter : Letter
  pub number : ℕ
  pub operand : k ≡ Operand letter number
  pub above : 64 ≤ number
  pub otherwise : Possible (ks ++ k ∷ [])

-- there is a next token, and its kind is such
abbrev pub AtNext : List Token → (TokenKind → Type 0) → Type 0
AtNext [] P = ⊥
AtNext (t ∷ us) P = P t.kind

-- what a fault says of the tokens before it and of those from it on
abbrev pub Why : List Token → List Token → TextFault → Type 0
Why before rest TooLong = ⊥
Why before rest (NoToken p) = ⊥
Why before rest (TooManyDigits p) = ⊥
Why before rest (Unexpected p) = Unfit (kinds before) rest
Why before rest (EighthBracket p) = AtNext rest (λ k. Eighth (kinds before) k)
Why before rest (NumberTooLarge p) = AtNext rest (λ k. Large (kinds before) k)

-- the fault's place is that of the first token that does not extend a viable prefix
pub record Stuck (ts : List Token) (e : ℕ) (f : TextFault) : Type 0 where
  pub before : List Token
  pub rest : List Token
  pub split : ts ≡ before ++ rest
  pub goes : Viable (kinds before)
  pub at : text_place f ≡ placed rest e
  pub stuck : (t : Token) (us : List Token) → rest ≡ t ∷ us → Viable (kinds before ++ t.kind ∷ []) → ⊥
  pub why : Why before rest f

-- what the reader of a whole condition answers: the scan's condition, what is left behind it, and its words behind
-- those of before
pub record Wholly (from : Rest) (before : Kept) (rest : Rest) (after : Kept) : Type 0 where
  pub tree : Cond
  pub is : condition_of from.tokens.now from.end ≡ stops tree rest.tokens.now
  pub begins : Begins tree from.tokens.now rest.tokens.now
  pub emitted : after ≡ pushed before (words tree)
  pub same_end : rest.end ≡ from.end

-- a condition that the tokens begin with is the one that leaves rest
abbrev pub Only : List Token → List Token → Type 0
Only ts rest = (c d : Cond) (us : List Token) → Begins c ts rest → Begins d ts us → (d ≡ c) × (us ≡ rest)

-- the tokens begin with no condition
abbrev pub Nowhere : List Token → Type 0
Nowhere ts = (c : Cond) (us : List Token) → Begins c ts us → ⊥
