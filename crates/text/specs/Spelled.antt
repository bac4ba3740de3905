-- What it means that tokens spell a text. Assumes nothing.
use Rattle.std.specs.Prelude.{◌≡◌, ℕ, ◌+◌, ◌<◌, ◌≤◌, ◌⊎◌, List, [], ◌∷◌, ◌++◌, length, Some, None, Ok, Err, codes}
use Rattle.std.specs.Prelude.{Option, Result, ◌≢◌}
use Rattle.std.specs.List.{AllByRecursion}
use Rattle.faults.specs.declared.TextFault.{TextFault}
use Rattle.faults.specs.declared.TextFault.TheVariants.{TooLong, NoToken, TooManyDigits, Unexpected, EighthBracket}
use Rattle.faults.specs.declared.TextFault.TheVariants.{NumberTooLarge}
use Rattle.faults.specs.Numbers.{text_place}
use Rattle.text.specs.declared.token.Letter.{Letter}
use Rattle.text.specs.declared.token.Letter.TheVariants.{I, Q, X}
use Rattle.text.specs.declared.token.Token.{Token}
use Rattle.text.specs.declared.token.TokenKind.{TokenKind}
use Rattle.text.specs.declared.token.TokenKind.TheVariants.{Keyword, Digits, Operand, Comma, Dot, Plus, Bang, Open}
use Rattle.text.specs.declared.token.TokenKind.TheVariants.{Close, Slash, Backslash, LineEnd}
use Rattle.text.specs.Runs.{digits, letters, worth}
use Rattle.text.specs.Spelling.{spelling}

-- one to four digits, and nothing else, of the value v
pub record Numeral (v : ℕ) (ds : List ℕ) : Type 0 where
  pub all : digits ds ≡ length ds
  pub some : 0 < length ds
  pub few : length ds ≤ 4
  pub value : v ≡ worth ds

abbrev pub byte_of : Letter → ℕ
byte_of I = 73
byte_of Q = 81
byte_of X = 88

-- how a token is written
abbrev pub Written : TokenKind → List ℕ → Type 0
Written (Keyword w) s = s ≡ spelling w
Written (Digits v) s = Numeral v s
Written (Operand l v) s = (ds : List ℕ) × (s ≡ byte_of l ∷ ds) × Numeral v ds
Written Comma s = s ≡ codes ","
Written Dot s = s ≡ codes "."
Written Plus s = s ≡ codes "+"
Written Bang s = s ≡ codes "!"
Written Open s = s ≡ codes "("
Written Close s = s ≡ codes ")"
Written Slash s = s ≡ codes "/"
Written Backslash s = s ≡ 92 ∷ []
Written LineEnd s = s ≡ 10 ∷ []

-- behind a word stands no letter, behind a number no digit
abbrev pub Ends : TokenKind → List ℕ → Type 0
Ends (Keyword w) rest = letters rest ≡ 0
Ends (Digits v) rest = digits rest ≡ 0
Ends (Operand l v) rest = digits rest ≡ 0
Ends Comma rest = Unit {0}
Ends Dot rest = Unit {0}
Ends Plus rest = Unit {0}
Ends Bang rest = Unit {0}
Ends Open rest = Unit {0}
Ends Close rest = Unit {0}
Ends Slash rest = Unit {0}
Ends Backslash rest = Unit {0}
Ends LineEnd rest = Unit {0}

-- the bytes begin with a token of this kind
pub record Begins (k : TokenKind) (bs : List ℕ) : Type 0 where
  pub token : List ℕ
  pub rest : List ℕ
  pub cut : bs ≡ token ++ rest
  pub written : Written k token
  pub ends : Ends k rest

-- the bytes begin with five digits, or with the letter of an operand and five digits
abbrev pub TooMany : List ℕ → Type 0
TooMany bs = (5 ≤ digits bs) ⊎ ((l : Letter) × (ds : List ℕ) × (bs ≡ byte_of l ∷ ds) × (5 ≤ digits ds))

-- there are bytes, and they begin with no blank, no token, and not with too many digits
pub record NothingBegins (bs : List ℕ) : Type 0 where
  pub some : bs ≡ [] → ⊥
  pub no_blank : (rest : List ℕ) → bs ≢ 32 ∷ rest
  pub no_token : (k : TokenKind) → Begins k bs → ⊥
  pub few : TooMany bs → ⊥

-- the bytes at place p are refused
abbrev pub Refused : ℕ → List ℕ → TextFault → Type 0
Refused p bs TooLong = ⊥
Refused p bs (NoToken q) = (q ≡ p) × NothingBegins bs
Refused p bs (TooManyDigits q) = (q ≡ p) × TooMany bs
Refused p bs (Unexpected q) = ⊥
Refused p bs (EighthBracket q) = ⊥
Refused p bs (NumberTooLarge q) = ⊥

-- no byte is left at place p, or what is left is refused
abbrev pub Stops : ℕ → List ℕ → Result (Unit {0}) TextFault → Type 0
Stops p bs (Ok u) = bs ≡ []
Stops p bs (Err f) = Refused p bs f

-- some blanks, or none, and then the rest
pub record Apart (bs : List ℕ) : Type 0 where
  pub blanks : List ℕ
  pub rest : List ℕ
  pub cut : bs ≡ blanks ++ rest
  pub blank : AllByRecursion (λ b. b ≡ 32) blanks

-- the bytes from place p on are the tokens, with blanks before each, and blanks before the end or the fault
abbrev pub Spells : ℕ → List ℕ → List Token → Result (Unit {0}) TextFault → Type 0
Spells p bs [] r = (a : Apart bs) × Stops (p + length a.blanks) a.rest r
Spells p bs (t ∷ ts) r =
    (a : Apart bs) × (t.place ≡ p + length a.blanks) × (b : Begins t.kind a.rest) ×
    Spells (t.place + length b.token) b.rest ts r

-- the text is spelled by its tokens, or is too long
pub record Spelled (text : List ℕ) (ts : List Token) (r : Result (Unit {0}) TextFault) : Type 0 where
  pub short : length text ≤ 32768 → Spells 0 text ts r
  pub long : 32768 < length text → (ts ≡ []) × (r ≡ Err TooLong)

-- no other tokens and no other answer spell the text
abbrev pub Alone : List ℕ → List Token → Result (Unit {0}) TextFault → Type 0
Alone text ts r = (us : List Token) (s : Result (Unit {0}) TextFault) → Spelled text us s → (us ≡ ts) × (s ≡ r)

-- the places rise from p on, and all are below e
abbrev pub Rising : ℕ → List Token → ℕ → Type 0
Rising p [] e = p ≤ e
Rising p (t ∷ ts) e = (p ≤ t.place) × Rising (t.place + 1) ts e

-- the place at which the tokens of a text of n bytes end
abbrev pub end_of : Option TextFault → ℕ → ℕ
end_of None n = n
end_of (Some f) n = text_place f
