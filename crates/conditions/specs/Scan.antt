-- The condition that the tokens begin with, or the fault of the first token that fits none. Assumes nothing.
use Rattle.std.specs.Prelude.{ℕ, ◌+◌, Bool, true, false, cond, List, [], ◌∷◌, ◌==◌, nat_le}
use Rattle.faults.specs.declared.TextFault.{TextFault}
use Rattle.faults.specs.declared.TextFault.TheVariants.{Unexpected, EighthBracket, NumberTooLarge}
use Rattle.text.specs.declared.token.Letter.{Letter}
use Rattle.text.specs.declared.token.Letter.TheVariants.{I, Q, X}
use Rattle.text.specs.declared.token.Token.{Token}
use Rattle.text.specs.declared.token.TokenKind.{TokenKind}
use Rattle.text.specs.declared.token.TokenKind.TheVariants.{Keyword, Digits, Operand, Comma, Dot, Plus, Bang, Open}
use Rattle.text.specs.declared.token.TokenKind.TheVariants.{Close, Slash, Backslash, LineEnd}
use Rattle.conditions.specs.declared.tree.Atom.{Atom}
use Rattle.conditions.specs.declared.tree.Atom.TheVariants.{Plain, Rise, Fall, Always}
use Rattle.conditions.specs.Tree as tree
use Rattle.conditions.specs.Tree.{Cond, Term, Factor, Primary}

-- the terms of a condition before the one that is being read
pub data Terms : Type 0 where
  no_terms : Terms
  terms : Cond → Terms

-- the factors of a term before the one that is being read
pub data Factors : Type 0 where
  no_factors : Factors
  factors : Term → Factors

abbrev pub join : Terms → Term → Cond
join no_terms t = tree.term t
join (terms c) t = tree.or c t

abbrev pub extend : Factors → Factor → Term
extend no_factors f = tree.factor f
extend (factors t) f = tree.and t f

-- the Bool says whether a `!` stood before the primary
abbrev pub signed : Bool → Primary → Factor
signed true p = tree.not p
signed false p = tree.is p

-- the open brackets, each with what stands before it in its condition
pub data Brackets : Type 0 where
  none : Brackets
  inside : Brackets → Terms → Factors → Bool → Brackets

abbrev pub deep : Brackets → ℕ
deep none = 0
deep (inside h s p b) = deep h + 1

-- what is read so far, by what is wanted next: a factor; a primary, which a `!` (true) stands
-- before; after `/` (true) or `\` an input; after a whole factor a sign
pub data State : Type 0 where
  wants : Brackets → Terms → Factors → State
  primary : Brackets → Terms → Factors → Bool → State
  edge : Brackets → Terms → Factors → Bool → Bool → State
  sign : Brackets → Terms → Term → State

-- the condition continues; it ends before this token; or the token is at fault
pub data Step : Type 0 where
  goes : State → Step
  ends : Cond → Step
  fault : TextFault → Step

-- after a whole primary
abbrev pub read : Brackets → Terms → Factors → Bool → Primary → State
read h s p b x = sign h s (extend p (signed b x))

-- an operand's number is up to 63
abbrev pub numbered : ℕ → ℕ → State → Step
numbered at n next = cond (nat_le n 63) (goes next) (fault (NumberTooLarge at))

abbrev pub begins : Brackets → Terms → Factors → Bool → ℕ → TokenKind → Step
begins h s p b at (Keyword w) = fault (Unexpected at)
begins h s p b at (Digits n) = cond (n == 1) (goes (read h s p b (tree.atom Always))) (fault (Unexpected at))
begins h s p b at (Operand l n) = numbered at n (read h s p b (tree.atom (Plain l n)))
begins h s p b at Comma = fault (Unexpected at)
begins h s p b at Dot = fault (Unexpected at)
begins h s p b at Plus = fault (Unexpected at)
begins h s p b at Bang = fault (Unexpected at)
begins h s p b at Open =
    cond (nat_le 7 (deep h)) (fault (EighthBracket at)) (goes (wants (inside h s p b) no_terms no_factors))
begins h s p b at Close = fault (Unexpected at)
begins h s p b at Slash = goes (edge h s p b true)
begins h s p b at Backslash = goes (edge h s p b false)
begins h s p b at LineEnd = fault (Unexpected at)

abbrev pub negates : Brackets → Terms → Factors → ℕ → TokenKind → Step
negates h s p at (Keyword w) = fault (Unexpected at)
negates h s p at (Digits n) = begins h s p false at (Digits n)
negates h s p at (Operand l n) = begins h s p false at (Operand l n)
negates h s p at Comma = fault (Unexpected at)
negates h s p at Dot = fault (Unexpected at)
negates h s p at Plus = fault (Unexpected at)
negates h s p at Bang = goes (primary h s p true)
negates h s p at Open = begins h s p false at Open
negates h s p at Close = fault (Unexpected at)
negates h s p at Slash = begins h s p false at Slash
negates h s p at Backslash = begins h s p false at Backslash
negates h s p at LineEnd = fault (Unexpected at)

abbrev pub edged : Bool → ℕ → Atom
edged true n = Rise n
edged false n = Fall n

abbrev pub input : ℕ → Letter → ℕ → State → Step
input at I n next = numbered at n next
input at Q n next = fault (Unexpected at)
input at X n next = fault (Unexpected at)

abbrev pub inputs : Brackets → Terms → Factors → Bool → Bool → ℕ → TokenKind → Step
inputs h s p b r at (Keyword w) = fault (Unexpected at)
inputs h s p b r at (Digits n) = fault (Unexpected at)
inputs h s p b r at (Operand l n) = input at l n (read h s p b (tree.atom (edged r n)))
inputs h s p b r at Comma = fault (Unexpected at)
inputs h s p b r at Dot = fault (Unexpected at)
inputs h s p b r at Plus = fault (Unexpected at)
inputs h s p b r at Bang = fault (Unexpected at)
inputs h s p b r at Open = fault (Unexpected at)
inputs h s p b r at Close = fault (Unexpected at)
inputs h s p b r at Slash = fault (Unexpected at)
inputs h s p b r at Backslash = fault (Unexpected at)
inputs h s p b r at LineEnd = fault (Unexpected at)

-- a token that is no sign ends the condition if no bracket is open
abbrev pub other : Brackets → Terms → Term → ℕ → Step
other none s t at = ends (join s t)
other (inside h z p b) s t at = fault (Unexpected at)

abbrev pub closes : Brackets → Terms → Term → ℕ → Step
closes none s t at = ends (join s t)
closes (inside h z p b) s t at = goes (read h z p b (tree.bracket (join s t)))

abbrev pub signs : Brackets → Terms → Term → ℕ → TokenKind → Step
signs h s t at (Keyword w) = other h s t at
signs h s t at (Digits n) = other h s t at
signs h s t at (Operand l n) = other h s t at
signs h s t at Comma = other h s t at
signs h s t at Dot = goes (wants h s (factors t))
signs h s t at Plus = goes (wants h (terms (join s t)) no_factors)
signs h s t at Bang = other h s t at
signs h s t at Open = other h s t at
signs h s t at Close = closes h s t at
signs h s t at Slash = other h s t at
signs h s t at Backslash = other h s t at
signs h s t at LineEnd = other h s t at

abbrev pub step : State → ℕ → TokenKind → Step
step (wants h s p) at k = negates h s p at k
step (primary h s p b) at k = begins h s p b at k
step (edge h s p b r) at k = inputs h s p b r at k
step (sign h s t) at k = signs h s t at k

-- where the tokens run out, at the place `at`
abbrev pub out : State → ℕ → Step
out (wants h s p) at = fault (Unexpected at)
out (primary h s p b) at = fault (Unexpected at)
out (edge h s p b r) at = fault (Unexpected at)
out (sign h s t) at = other h s t at

-- the condition and the tokens that it ends before, or its fault
pub data Scan : Type 0 where
  stops : Cond → List Token → Scan
  fails : TextFault → Scan

-- what a step gives: k takes over from a state
abbrev pub follow : Step → (State → Scan) → List Token → Scan
follow (goes x) k here = k x
follow (ends c) k here = stops c here
follow (fault f) k here = fails f

-- along the tokens from a state; e is the place where the tokens run out
abbrev pub scan : List Token → State → ℕ → Scan
scan [] x e = follow (out x e) (λ x. fails (Unexpected e)) []
scan (t ∷ ts) x e = follow (step x t.place t.kind) (λ x. scan ts x e) (t ∷ ts)

abbrev pub start : State
start = wants none no_terms no_factors

-- the condition that the tokens begin with
abbrev pub condition_of : List Token → ℕ → Scan
condition_of ts e = scan ts start e
