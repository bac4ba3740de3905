-- The lines of a chart text: what each is spelled as. Assumes nothing.
use Rattle.std.specs.Prelude.{◌≡◌, ◌≤◌, Bool, true, false, List, [], ◌∷◌, ◌++◌, map}
use Rattle.text.specs.declared.token.Word.TheVariants.{Step, Initial, Trans, From, To, When, Hold, Enter, Set, Reset}
use Rattle.text.specs.declared.token.Letter.TheVariants.{Q}
use Rattle.text.specs.declared.token.Token.{Token}
use Rattle.text.specs.declared.token.TokenKind.{TokenKind}
use Rattle.text.specs.declared.token.TokenKind.TheVariants.{Keyword, Digits, Operand, Comma}
use Rattle.conditions.specs.Tree.{Cond, Fits}
use Rattle.conditions.specs.Tree.{spell as spell_cond}
use Rattle.lines.specs.declared.shape.Number.{Number}
use Rattle.lines.specs.declared.shape.Action.{Action}
use Rattle.lines.specs.declared.shape.Action.TheVariants as action

-- numbers with commas between them, the last one outermost
pub data Numbers : Type 0 where
  one : Number → Numbers
  more : Numbers → Number → Numbers

abbrev pub items : Numbers → List Number
items (one n) = n ∷ []
items (more ns n) = items ns ++ n ∷ []

-- a transition has its number, its preceding and succeeding steps, its condition, and the steps
-- that the condition names, with their places
pub data Tree : Type 0 where
  empty : Tree
  step : Number → Bool → Tree
  trans : Number → Numbers → Numbers → Cond → List Number → Tree
  hold : Number → Number → Tree
  enter : Number → Action → Number → Tree

-- what a token of a line has to be: of this kind, or this token, place and all
pub data Mark : Type 0 where
  kind : TokenKind → Mark
  exactly : Token → Mark

abbrev pub digits : Number → Token
digits n = record { kind = Digits n.value; place = n.place }

abbrev pub output : Number → Token
output n = record { kind = Operand Q n.value; place = n.place }

abbrev pub spell_numbers : Numbers → List Mark
spell_numbers (one n) = exactly (digits n) ∷ []
spell_numbers (more ns n) = spell_numbers ns ++ kind Comma ∷ exactly (digits n) ∷ []

-- a transition up to its condition
abbrev pub prefix : Number → Numbers → Numbers → List Mark
prefix n fs ts =
    kind (Keyword Trans) ∷ exactly (digits n) ∷ kind (Keyword From) ∷
    (spell_numbers fs ++ kind (Keyword To) ∷ []) ++ (spell_numbers ts ++ kind (Keyword When) ∷ [])

-- a line without its end
abbrev pub spell : Tree → List Mark
spell empty = []
spell (step n true) = kind (Keyword Step) ∷ exactly (digits n) ∷ kind (Keyword Initial) ∷ []
spell (step n false) = kind (Keyword Step) ∷ exactly (digits n) ∷ []
spell (trans n fs ts c us) = prefix n fs ts ++ map kind (spell_cond c)
spell (hold n q) = kind (Keyword Hold) ∷ exactly (digits n) ∷ exactly (output q) ∷ []
spell (enter n action.Set q) = kind (Keyword Enter) ∷ exactly (digits n) ∷ kind (Keyword Set) ∷ exactly (output q) ∷ []
spell (enter n action.Reset q) =
    kind (Keyword Enter) ∷ exactly (digits n) ∷ kind (Keyword Reset) ∷ exactly (output q) ∷ []

abbrev pub Meets : Token → Mark → Type 0
Meets t (kind k) = t.kind ≡ k
Meets t (exactly u) = t ≡ u

-- the tokens are spelled so
abbrev pub Matches : List Token → List Mark → Type 0
Matches [] [] = Unit {0}
Matches [] (m ∷ ms) = ⊥
Matches (t ∷ ts) [] = ⊥
Matches (t ∷ ts) (m ∷ ms) = Meets t m × Matches ts ms

abbrev pub Small : Number → Type 0
Small n = n.value ≤ 63

abbrev pub AllSmall : Numbers → Type 0
AllSmall (one n) = Small n
AllSmall (more ns n) = AllSmall ns × Small n

-- each number is at most 63, and no bracket is the eighth
abbrev pub FitsLine : Tree → Type 0
FitsLine empty = Unit {0}
FitsLine (step n b) = Small n
FitsLine (trans n fs ts c us) = Small n × AllSmall fs × AllSmall ts × Fits 0 c
FitsLine (hold n q) = Small n × Small q
FitsLine (enter n a q) = Small n × Small q
