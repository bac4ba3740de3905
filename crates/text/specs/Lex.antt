-- What a text is cut into. Assumes nothing.
use Rattle.std.specs.Prelude.{ℕ, zero, suc, ◌+◌, ◌-◌, ◌<◌, ◌≤◌, if◌then◌else◌, List, [], ◌∷◌, ◌++◌, length, take}
use Rattle.std.specs.Prelude.{Some, None, Ok, Err, Option, Result, ◌==◌, nat_le}
use Rattle.std.specs.Char.{is_ascii_digit, is_ascii_lowercase}
use Rattle.faults.specs.declared.TextFault.{TextFault}
use Rattle.faults.specs.declared.TextFault.TheVariants.{TooLong, NoToken, TooManyDigits}
use Rattle.text.specs.declared.token.Letter.{Letter}
use Rattle.text.specs.declared.token.Letter.TheVariants.{I, Q, X}
use Rattle.text.specs.declared.token.Token.{Token}
use Rattle.text.specs.declared.token.TokenKind.{TokenKind}
use Rattle.text.specs.declared.token.TokenKind.TheVariants.{Keyword, Digits, Operand, Comma, Dot, Plus, Bang, Open}
use Rattle.text.specs.declared.token.TokenKind.TheVariants.{Close, Slash, Backslash, LineEnd}
use Rattle.text.specs.declared.token.Word.{Word}
use Rattle.text.specs.declared.tokens.Tokens.{Tokens}
use Rattle.text.specs.Spelling.{word_of}
use Rattle.text.specs.Runs.{digits, letters, worth}

-- the token that a text goes on with and its number of bytes, or a fault
abbrev pub Lexeme : Type 0
Lexeme = Result (TokenKind × ℕ) TextFault

-- what a text goes on with: a blank is Ok None, a token of n bytes is Ok (Some (kind, n)), and anything else is a fault
abbrev pub Piece : Type 0
Piece = Result (Option (TokenKind × ℕ)) TextFault

-- the letters I, Q and X
abbrev pub letter_of : ℕ → Option Letter
letter_of b =
    if b == 73 then Some I
    else (if b == 81 then Some Q
    else (if b == 88 then Some X
    else None))

-- , . + ! ( ) / \ and the line end
abbrev pub sign_of : ℕ → Option TokenKind
sign_of b =
    if b == 10 then Some LineEnd
    else (if b == 44 then Some Comma
    else (if b == 46 then Some Dot
    else (if b == 43 then Some Plus
    else (if b == 33 then Some Bang
    else (if b == 40 then Some Open
    else (if b == 41 then Some Close
    else (if b == 47 then Some Slash
    else (if b == 92 then Some Backslash
    else None))))))))

-- the value of the first n bytes as digits
abbrev pub value_of : ℕ → List ℕ → ℕ
value_of n bs = worth (take n bs)

-- the value of the digits that the bytes begin with, and how many they are, at most four
abbrev pub numeral : List ℕ → Option (ℕ × ℕ)
numeral bs = if nat_le (digits bs) 4 then Some (value_of (digits bs) bs, digits bs) else None

-- a token of n bytes at place p, whose digits these bytes begin with
abbrev pub few : (ℕ → TokenKind) → ℕ → ℕ → List ℕ → Lexeme
few kind n p bs = if nat_le (digits bs) 4 then Ok (kind (value_of (digits bs) bs), n) else Err (TooManyDigits p)

-- the number at place p
abbrev pub number : ℕ → List ℕ → Lexeme
number p bs = few Digits (digits bs) p bs

-- the operand whose letter stands at place p
abbrev pub operand : Letter → ℕ → List ℕ → Lexeme
operand l p bs = if digits bs == 0 then Err (NoToken p) else few (Operand l) (digits bs + 1) p bs

-- letters that are a word, n of them, or no word
abbrev pub as_word : Option Word → ℕ → ℕ → Lexeme
as_word None n p = Err (NoToken p)
as_word (Some w) n p = Ok (Keyword w, n)

-- the word at place p
abbrev pub keyword : ℕ → List ℕ → Lexeme
keyword p bs = as_word (word_of (take (letters bs) bs)) (letters bs) p

-- a capital letter at place p, with these bytes behind it
abbrev pub capital : Option Letter → ℕ → List ℕ → Lexeme
capital None p bs = Err (NoToken p)
capital (Some l) p bs = operand l p bs

-- the sign, or what else there is
abbrev pub signed : Option TokenKind → Lexeme → Lexeme
signed None other = other
signed (Some k) other = Ok (k, 1)

-- the token at place p
abbrev pub lexeme : ℕ → List ℕ → Lexeme
lexeme p [] = Err (NoToken p)
lexeme p (b ∷ bs) =
    if is_ascii_digit b then number p (b ∷ bs)
    else (if is_ascii_lowercase b then keyword p (b ∷ bs)
    else signed (sign_of b) (capital (letter_of b) p bs))

-- the same as a piece, which is no blank
abbrev pub as_piece : Lexeme → Piece
as_piece (Ok t) = Ok (Some t)
as_piece (Err f) = Err f

-- what begins at place p
abbrev pub piece : ℕ → List ℕ → Piece
piece p [] = Err (NoToken p)
piece p (b ∷ bs) = if b == 32 then Ok None else as_piece (lexeme p (b ∷ bs))

-- a token of n bytes has at least one, and no more than there are
abbrev pub Within : ℕ → ℕ → Type 0
Within n len = (0 < n) × (n ≤ len)

-- the tokens, and the fault before which they end
pub record Lexed : Type 0 where
  pub tokens : List Token
  pub stop : Option TextFault

-- these tokens, and then those
abbrev pub after : List Token → Lexed → Lexed
after ts l = record { tokens = ts ++ l.tokens; stop = l.stop }

-- next: the lexing of what stands one byte on, past n more bytes
abbrev pub follow : Piece → ℕ → (ℕ → Lexed) → Lexed
follow (Ok None) p next = next 0
follow (Ok (Some (k, n))) p next = after (record { kind = k; place = p } ∷ []) (next (n - 1))
follow (Err f) p next = record { tokens = []; stop = Some f }

-- the bytes from place p on, of which the first skip belong to a token that is taken
abbrev pub lex : List ℕ → ℕ → ℕ → Lexed
lex [] skip p = record { tokens = []; stop = None }
lex (b ∷ bs) zero p = follow (piece p (b ∷ bs)) p (λ n. lex bs n (p + 1))
lex (b ∷ bs) (suc k) p = lex bs k (p + 1)

-- a text of at most 32,768 bytes as its tokens
abbrev pub tokens_of : List ℕ → Lexed
tokens_of text = if nat_le (length text) 32768 then lex text 0 0 else record { tokens = []; stop = Some TooLong }

-- what a cut answers
abbrev pub answer : Option TextFault → Result (Unit {0}) TextFault
answer None = Ok tt
answer (Some f) = Err f

-- the tokens in the list
abbrev pub list_in : Tokens → List Token
list_in t = t.list
