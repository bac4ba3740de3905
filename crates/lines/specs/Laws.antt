-- What the scan of a line means in words of the tree. Assumes nothing.
use Rattle.std.specs.Prelude.{◌≡◌, ℕ, ◌+◌, ◌<◌, ◌≤◌, ◌⊎◌, List, [], ◌∷◌, ◌++◌, length}
use Rattle.faults.specs.declared.TextFault.{TextFault}
use Rattle.faults.specs.declared.TextFault.TheVariants.{TooLong, NoToken, TooManyDigits, Unexpected, EighthBracket}
use Rattle.faults.specs.declared.TextFault.TheVariants.{NumberTooLarge}
use Rattle.text.specs.declared.token.Token.{Token}
use Rattle.text.specs.declared.token.Letter.{Letter}
use Rattle.text.specs.declared.token.TokenKind.TheVariants.{Digits, Operand, Open, LineEnd}
use Rattle.lines.specs.Grammar.{Tree, empty, step, trans, hold, enter, spell, Matches, FitsLine}
use Rattle.lines.specs.Scan.{refs}
use Rattle.faults.specs.Numbers.{text_place}
use Rattle.conditions.specs.Read.{kinds, placed}
use Rattle.conditions.specs.Laws.{opened, closed}

-- a transition's last part is the steps that its tokens name after X
abbrev pub Uses : Tree → List Token → Type 0
Uses empty used = Unit {0}
Uses (step n b) used = Unit {0}
Uses (trans n fs ts c us) used = us ≡ refs used
Uses (hold n q) used = Unit {0}
Uses (enter n b q) used = Unit {0}

-- the tokens are used up to the line's end, which is a token or where they run out
abbrev pub Ends : List Token → List Token → List Token → Type 0
Ends ts used rest = ((ts ≡ used) × (rest ≡ [])) ⊎ ((t : Token) × (t.kind ≡ LineEnd) × (ts ≡ used ++ t ∷ rest))

-- the tokens begin with the line l, which fits, and rest is what it leaves
pub record Begins (l : Tree) (ts rest : List Token) : Type 0 where
  pub used : List Token
  pub ends : Ends ts used rest
  pub spelled : Matches used (spell l)
  pub uses : Uses l used
  pub fits : FitsLine l

-- a line that the tokens begin with is the one that leaves rest
abbrev pub Only : List Token → List Token → Type 0
Only ts rest = (l m : Tree) (us : List Token) → Begins l ts rest → Begins m ts us → (m ≡ l) × (us ≡ rest)

-- the tokens begin with no line
abbrev pub Nowhere : List Token → Type 0
Nowhere ts = (l : Tree) (us : List Token) → Begins l ts us → ⊥

-- a viable prefix: some line within the limits begins with these tokens
pub record Viable (ts : List Token) : Type 0 where
  pub tree : Tree
  pub more : List Token
  pub spelled : Matches (ts ++ more) (spell tree)
  pub fits : FitsLine tree

-- these tokens spell a line of the grammar, whatever the limits say of it
pub record Spells (ts : List Token) : Type 0 where
  pub tree : Tree
  pub spelled : Matches ts (spell tree)

-- some line of the grammar begins with these tokens, whatever the limits say of it
pub record Possible (ts : List Token) : Type 0 where
  pub tree : Tree
  pub more : List Token
  pub spelled : Matches (ts ++ more) (spell tree)

-- fault 4: the grammar has no line that continues with the next token; none that ends here, where a line end or no
-- token is next
abbrev pub Unfit : List Token → List Token → Type 0
Unfit before [] = Spells before → ⊥
Unfit before (t ∷ us) = (Possible (before ++ t ∷ []) → ⊥) × (t.kind ≡ LineEnd → Spells before → ⊥)

-- fault 5: the next token opens a bracket inside seven others, where the grammar has one
pub record Eighth (before : List Token) (t : Token) : Type 0 where
  pub opens : t.kind ≡ Open
  pub seven : opened (kinds before) ≡ closed (kinds before) + 7
  pub otherwise : Possible (before ++ t ∷ [])

-- fault 6: the next token is or has a number, where the grammar has one, but it is too large
pub record Large (before : List Token) (t : Token) : Type 0 where
  pub number : ℕ
  pub named : (t.kind ≡ Digits number) ⊎ ((l : Letter) × (t.kind ≡ Operand l number))
  pub above : 64 ≤ number
  pub otherwise : Possible (before ++ t ∷ [])

-- there is a next token, and it is such
abbrev pub AtNext : List Token → (Token → Type 0) → Type 0
AtNext [] P = ⊥
AtNext (t ∷ us) P = P t

-- what a fault says of the tokens before it and of those from it on
abbrev pub Why : List Token → List Token → TextFault → Type 0
Why before rest TooLong = ⊥
Why before rest (NoToken p) = ⊥
Why before rest (TooManyDigits p) = ⊥
Why before rest (Unexpected p) = Unfit before rest
Why before rest (EighthBracket p) = AtNext rest (λ t. Eighth before t)
Why before rest (NumberTooLarge p) = AtNext rest (λ t. Large before t)

-- the fault's place is that of the first token, or of the end, that does not extend a viable prefix
pub record Stuck (ts : List Token) (e : ℕ) (f : TextFault) : Type 0 where
  pub before : List Token
  pub rest : List Token
  pub split : ts ≡ before ++ rest
  pub goes : Viable before
  pub at : text_place f ≡ placed rest e
  pub stuck : (t : Token) (us : List Token) → rest ≡ t ∷ us → Viable (before ++ t ∷ []) → ⊥
  pub why : Why before rest f

-- the tokens begin with these lines, one behind the other, and rest is what they leave
pub data LinesUpTo : List Token → List Tree → List Token → Type 0 where
  here : {ts : List Token} → LinesUpTo ts [] ts
  line :
      {t : Token} {ts rest left : List Token} {l : Tree} {ls : List Tree} →
      Begins l (t ∷ ts) rest → LinesUpTo rest ls left → LinesUpTo (t ∷ ts) (l ∷ ls) left

-- the tokens are these lines
abbrev pub Spelled : List Token → List Tree → Type 0
Spelled ts ls = LinesUpTo ts ls []

-- some lines are spelled, and the next one is stuck
pub record StuckText (ts : List Token) (e : ℕ) (f : TextFault) : Type 0 where
  pub lines : List Tree
  pub rest : List Token
  pub read : LinesUpTo ts lines rest
  pub more : 0 < length rest
  pub stuck : Stuck rest e f
