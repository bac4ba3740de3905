-- Texts and what they are cut into. Assumes nothing.
use Rattle.std.specs.Prelude.{◌≡◌, ℕ, List, [], ◌∷◌, ◌++◌, replicate, Some, None, codes}
use Rattle.faults.specs.declared.TextFault.{TextFault}
use Rattle.faults.specs.declared.TextFault.TheVariants.{TooLong, NoToken, TooManyDigits}
use Rattle.text.specs.declared.token.Letter.TheVariants.{I, Q}
use Rattle.text.specs.declared.token.Token.{Token}
use Rattle.text.specs.declared.token.TokenKind.{TokenKind}
use Rattle.text.specs.declared.token.TokenKind.TheVariants.{Keyword, Digits, Operand, Comma, Dot, Plus, Bang, Open}
use Rattle.text.specs.declared.token.TokenKind.TheVariants.{Close, Slash, Backslash, LineEnd}
use Rattle.text.specs.declared.token.Word.TheVariants.{Step, Initial, Trans, From, To, When, Hold, Enter, Set, Reset}
use Rattle.text.specs.Lex.{tokens_of}

abbrev pub at : ℕ → TokenKind → Token
at p k = record { kind = k; place = p }

-- the whole text is cut into the tokens
abbrev pub Cuts : List ℕ → List Token → Type 0
Cuts text ts = tokens_of text ≡ record { tokens = ts; stop = None }

-- the text is cut into the tokens up to the fault
abbrev pub Halts : List ℕ → List Token → TextFault → Type 0
Halts text ts f = tokens_of text ≡ record { tokens = ts; stop = Some f }

-- each text is cut as the row says
pub record Lexings : Type 0 where
  pub empty : Cuts [] []
  pub blanks : Cuts (codes "   ") []
  pub no_blanks : Cuts (codes "step0initial") (at 0 (Keyword Step) ∷ at 4 (Digits 0) ∷ at 5 (Keyword Initial) ∷ [])
  pub words :
      Cuts (codes "enter from hold initial reset set step to trans when")
      (
      at 0 (Keyword Enter) ∷ at 6 (Keyword From) ∷ at 11 (Keyword Hold) ∷ at 16 (Keyword Initial) ∷
      at 24 (Keyword Reset) ∷ at 30 (Keyword Set) ∷ at 34 (Keyword Step) ∷ at 39 (Keyword To) ∷
      at 42 (Keyword Trans) ∷ at 48 (Keyword When) ∷ []
      )
  pub list :
      Cuts (codes "from0,01to 2")
      (
      at 0 (Keyword From) ∷ at 4 (Digits 0) ∷ at 5 Comma ∷ at 6 (Digits 1) ∷ at 8 (Keyword To) ∷
      at 11 (Digits 2) ∷ []
      )
  pub signs :
      Cuts (codes "!(/I9.Q9999)+1")
      (
      at 0 Bang ∷ at 1 Open ∷ at 2 Slash ∷ at 3 (Operand I 9) ∷ at 5 Dot ∷ at 6 (Operand Q 9999) ∷
      at 11 Close ∷ at 12 Plus ∷ at 13 (Digits 1) ∷ []
      )
  pub line_ends : Cuts (10 ∷ 92 ∷ 10 ∷ []) (at 0 LineEnd ∷ at 1 Backslash ∷ at 2 LineEnd ∷ [])
  pub five_digits : Halts (codes "I00000") [] (TooManyDigits 0)
  pub five_digits_later : Halts (codes "step 12345") (at 0 (Keyword Step) ∷ []) (TooManyDigits 5)
  pub no_such_letter : Halts (codes "I0+ J") (at 0 (Operand I 0) ∷ at 2 Plus ∷ []) (NoToken 4)
  pub no_digit : Halts (codes "set Q") (at 0 (Keyword Set) ∷ []) (NoToken 4)
  pub no_word : Halts (codes "stepinitial") [] (NoToken 0)
  pub tabulator : Halts (codes "step" ++ (9 ∷ [])) (at 0 (Keyword Step) ∷ []) (NoToken 4)
  pub longest : Cuts (replicate 32768 32) []
  pub too_long : Halts (replicate 32769 32) [] TooLong
