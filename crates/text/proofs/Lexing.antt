-- What the lexer's loop keeps. Assumes nothing.
use Rattle.std.proofs.Common.{◌≡◌, ℕ, zero, suc, ◌+◌, ◌<◌, ◌≤◌, List, [], ◌∷◌, ◌++◌, length, drop, Some, Ok, sym, ap, ◌∙◌, append_assoc, add-zero, arith}
use Rattle.text.specs.declared.token.Token.{Token}
use Rattle.text.specs.declared.token.TokenKind.{TokenKind}
use Rattle.text.specs.Lex.{Lexed, lex, piece, follow, after}

pub skip_on : (bs : List ℕ) (k p : ℕ) → k ≤ length bs → lex bs k p ≡ lex (drop k bs) 0 (p + k)
skip_on [] zero p h = ap (λ q. lex [] 0 q) (sym (add-zero p))
skip_on [] (suc k) p h = absurd (omega arith)
skip_on (b ∷ bs) zero p h = ap (λ q. lex (b ∷ bs) 0 q) (sym (add-zero p))
skip_on (b ∷ bs) (suc k) p h = skip_on bs k (p + 1) (omega arith) ∙ ap (λ q. lex (drop k bs) 0 q) (omega arith)

-- past a token that begins at p
past : (bs : List ℕ) (p n : ℕ) (k : TokenKind) → Ok (Some (k, n)) ≡ piece p bs → 0 < n → n ≤ length bs → lex bs 0 p ≡ after (record { kind = k; place = p } ∷ []) (lex (drop n bs) 0 (p + n))
past bs p zero k e some fits = absurd (omega arith)
past [] p (suc n) k e some fits = absurd (omega arith)
past (b ∷ bs) p (suc n) k e some fits =
    ap (λ q. follow q p (λ m. lex bs m (p + 1))) (sym e) ∙
    ap (λ m. after (record { kind = k; place = p } ∷ []) (lex bs m (p + 1))) (omega arith) ∙
    ap (λ l. after (record { kind = k; place = p } ∷ []) l) (skip_on bs n (p + 1) (omega arith)) ∙
    ap (λ q. after (record { kind = k; place = p } ∷ []) (lex (drop n bs) 0 q)) (omega arith)

after_after : (xs ys : List Token) (l : Lexed) → after xs (after ys l) ≡ after (xs ++ ys) l
after_after xs ys l = ap (λ ts. record { tokens = ts; stop = l.stop }) (sym (append_assoc xs ys l.tokens))

-- past a token, which goes to the others
pub one_more : (items : List Token) (bs : List ℕ) (p n : ℕ) (k : TokenKind) → Ok (Some (k, n)) ≡ piece p bs → 0 < n → n ≤ length bs → after items (lex bs 0 p) ≡ after (items ++ record { kind = k; place = p } ∷ []) (lex (drop n bs) 0 (p + n))
one_more items bs p n k e some fits =
    ap (λ l. after items l) (past bs p n k e some fits) ∙
    after_after items (record { kind = k; place = p } ∷ []) (lex (drop n bs) 0 (p + n))
