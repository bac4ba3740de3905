-- The kinds of tokens, and where they stand. Assumes nothing.
use Rattle.std.specs.Prelude.{◌≡◌, ℕ, List, [], ◌∷◌, map}
use Rattle.text.specs.declared.token.Token.{Token}
use Rattle.text.specs.declared.token.TokenKind.{TokenKind}

abbrev pub kinds : List Token → List TokenKind
kinds ts = map (λ t. t.kind) ts

-- the tokens are one of this kind, and then rest
abbrev pub Heads : TokenKind → List Token → List Token → Type 0
Heads k ts rest = (t : Token) × (t.kind ≡ k) × (ts ≡ t ∷ rest)

-- the tokens do not begin with one of this kind
abbrev pub Lacks : TokenKind → List Token → Type 0
Lacks k [] = Unit {0}
Lacks k (t ∷ ts) = t.kind ≡ k → ⊥

-- where the next token begins
abbrev pub placed : List Token → ℕ → ℕ
placed [] e = e
placed (t ∷ ts) e = t.place
