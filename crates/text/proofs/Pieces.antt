-- What begins at a place, told by its spelling. Assumes nothing.
use Rattle.std.proofs.Common.{◌≡◌, ℕ, suc, ◌+◌, ◌<◌, ◌≤◌, true, false, cond, eqb, leb, List, [], ◌∷◌, ◌++◌, length, take, Some, None, Ok, Err, Option, sym, refl, ap, ◌∙◌, subst, inl, inr, arith}
use lib.Seq.{take-append_seam}
use Rattle.std.specs.Char.{is_ascii_digit, is_ascii_lowercase}
use Rattle.std.proofs.lemmas.Bool.{cond_both, cond-true, cond-false, eqb-true, leb-true, leb-false, le-leb, lt-leb, ne_eqb}
use Rattle.std.proofs.lemmas.Bool.Decides.{nat_tests}
use Rattle.faults.specs.declared.TextFault.TheVariants.{TooLong, NoToken, TooManyDigits, Unexpected, EighthBracket, NumberTooLarge}
use Rattle.text.specs.declared.token.Letter.{Letter}
use Rattle.text.specs.declared.token.Letter.TheVariants.{I, Q, X}
use Rattle.text.specs.declared.token.TokenKind.{TokenKind}
use Rattle.text.specs.declared.token.TokenKind.TheVariants.{Keyword, Digits, Operand, Comma, Dot, Plus, Bang, Open, Close, Slash, Backslash, LineEnd}
use Rattle.text.specs.declared.token.Word.{Word}
use Rattle.text.specs.Lex.{Lexeme, Piece, letter_of, sign_of, value_of, few, number, operand, as_word, keyword, capital, signed, lexeme, as_piece, piece}
use Rattle.text.specs.Runs.{digits, letters, worth}
use Rattle.text.specs.Spelled.{Numeral, byte_of, Written, Ends, Begins, TooMany}
use Rattle.text.specs.Spelling.{word_of}
use Rattle.text.proofs.RunLaws.{Split, split, taken, run_append, first_passes}
use Rattle.text.proofs.Spellings.{word_is, spells, lowers, no_letters}

-- what a piece at place p says of the bytes there
abbrev pub Told : ℕ → List ℕ → Piece → Type 0
Told p bs (Ok None) = (rest : List ℕ) × (bs ≡ 32 ∷ rest)
Told p bs (Ok (Some (k, n))) = (b : Begins k bs) × (n ≡ length b.token)
Told p bs (Err TooLong) = ⊥
Told p bs (Err (NoToken q)) = q ≡ p
Told p bs (Err (TooManyDigits q)) = (q ≡ p) × TooMany bs
Told p bs (Err (Unexpected q)) = ⊥
Told p bs (Err (EighthBracket q)) = ⊥
Told p bs (Err (NumberTooLarge q)) = ⊥

-- what a token at place p says of them
abbrev Says : ℕ → List ℕ → Lexeme → Type 0
Says p bs l = Told p bs (as_piece l)

-- the digits that the bytes begin with
numeral : (bs : List ℕ) (s : Split is_ascii_digit bs) → 0 < digits bs → digits bs ≤ 4 → Numeral (value_of (digits bs) bs) s.run
numeral bs s some few = record {
  all = s.all;
  some = omega (arith, s.long);
  few = omega (arith, s.long);
  value = ap worth (taken is_ascii_digit bs s);
}

number_told : (p : ℕ) (bs : List ℕ) → 0 < digits bs → Says p bs (number p bs)
number_told p bs some =
    let s = split is_ascii_digit bs in
    cond_both (leb (digits bs) 4) (Ok (Digits (value_of (digits bs) bs), digits bs)) (Err (TooManyDigits p)) (Says p bs)
    (λ e. (record { token = s.run; rest = s.rest; cut = s.cut; written = numeral bs s some (leb-true (digits bs) 4 e); ends = s.stops }, s.long))
    (λ e. (refl, inl (leb-false (digits bs) 4 e)))

operand_told : (l : Letter) (p : ℕ) (bs : List ℕ) → Says p (byte_of l ∷ bs) (operand l p bs)
operand_told l p bs =
    let s = split is_ascii_digit bs in
    let P : Lexeme → Type 0 = Says p (byte_of l ∷ bs) in
    cond_both (eqb (digits bs) 0) (Err (NoToken p)) (few (Operand l) (digits bs + 1) p bs) P
    (λ e. refl)
    (λ some. cond_both (leb (digits bs) 4) (Ok (Operand l (value_of (digits bs) bs), digits bs + 1)) (Err (TooManyDigits p)) P
    (λ e. (record { token = byte_of l ∷ s.run; rest = s.rest; cut = ap (λ x. byte_of l ∷ x) s.cut; written = (s.run, refl, numeral bs s (grind (arith, nat_tests)) (leb-true (digits bs) 4 e)); ends = s.stops }, omega (arith, s.long)))
    (λ e. (refl, inr (l, bs, refl, leb-false (digits bs) 4 e))))

word_told : (p : ℕ) (bs : List ℕ) (s : Split is_ascii_lowercase bs) (o : Option Word) → o ≡ word_of s.run → Says p bs (as_word o (letters bs) p)
word_told p bs s None e = refl
word_told p bs s (Some w) e = (record { token = s.run; rest = s.rest; cut = s.cut; written = spells s.run w (sym e); ends = s.stops }, s.long)

keyword_told : (p : ℕ) (bs : List ℕ) → Says p bs (keyword p bs)
keyword_told p bs = let s = split is_ascii_lowercase bs in word_told p bs s (word_of (take (letters bs) bs)) (ap word_of (taken is_ascii_lowercase bs s))

capital_told : (p b : ℕ) (bs : List ℕ) → Says p (b ∷ bs) (capital (letter_of b) p bs)
capital_told p b bs =
    let P : Option Letter → Type 0 = λ o. Says p (b ∷ bs) (capital o p bs) in
    let at : (l : Letter) → eqb b (byte_of l) ≡ true → Says p (b ∷ bs) (operand l p bs) = λ l e. subst (λ (c : ℕ). Says p (c ∷ bs) (operand l p bs)) (sym (eqb-true b (byte_of l) e)) (operand_told l p bs) in
    cond_both (eqb b 73) (Some I) (cond (eqb b 81) (Some Q) (cond (eqb b 88) (Some X) None)) P (at I)
    (λ _. cond_both (eqb b 81) (Some Q) (cond (eqb b 88) (Some X) None) P (at Q)
    (λ _. cond_both (eqb b 88) (Some X) None P (at X) (λ _. refl)))

-- a sign, by its byte
one : (k : TokenKind) (c b p : ℕ) (bs : List ℕ) → Written k (c ∷ []) → Ends k bs → eqb b c ≡ true → Says p (b ∷ bs) (Ok (k, 1))
one k c b p bs written ends e = (record { token = c ∷ []; rest = bs; cut = ap (λ x. x ∷ bs) (eqb-true b c e); written = written; ends = ends }, refl)

signed_told : (p b : ℕ) (bs : List ℕ) (other : Lexeme) → Says p (b ∷ bs) other → Says p (b ∷ bs) (signed (sign_of b) other)
signed_told p b bs other t =
    let P : Option TokenKind → Type 0 = λ o. Says p (b ∷ bs) (signed o other) in
    cond_both (eqb b 10) (Some LineEnd) _ P (one LineEnd 10 b p bs refl tt)
    (λ _. cond_both (eqb b 44) (Some Comma) _ P (one Comma 44 b p bs refl tt)
    (λ _. cond_both (eqb b 46) (Some Dot) _ P (one Dot 46 b p bs refl tt)
    (λ _. cond_both (eqb b 43) (Some Plus) _ P (one Plus 43 b p bs refl tt)
    (λ _. cond_both (eqb b 33) (Some Bang) _ P (one Bang 33 b p bs refl tt)
    (λ _. cond_both (eqb b 40) (Some Open) _ P (one Open 40 b p bs refl tt)
    (λ _. cond_both (eqb b 41) (Some Close) _ P (one Close 41 b p bs refl tt)
    (λ _. cond_both (eqb b 47) (Some Slash) _ P (one Slash 47 b p bs refl tt)
    (λ _. cond_both (eqb b 92) (Some Backslash) None P (one Backslash 92 b p bs refl tt) (λ _. t)))))))))

lexeme_told : (p b : ℕ) (bs : List ℕ) → Says p (b ∷ bs) (lexeme p (b ∷ bs))
lexeme_told p b bs =
    let P : Lexeme → Type 0 = Says p (b ∷ bs) in
    cond_both (is_ascii_digit b) (number p (b ∷ bs)) _ P (λ e. number_told p (b ∷ bs) (rw e (omega arith)))
    (λ _. cond_both (is_ascii_lowercase b) (keyword p (b ∷ bs)) _ P (λ e. keyword_told p (b ∷ bs))
    (λ _. signed_told p b bs (capital (letter_of b) p bs) (capital_told p b bs)))

-- each piece tells the truth
pub told : (p b : ℕ) (bs : List ℕ) → Told p (b ∷ bs) (piece p (b ∷ bs))
told p b bs = cond_both (eqb b 32) (Ok None) _ (Told p (b ∷ bs)) (λ e. (bs, ap (λ x. x ∷ bs) (eqb-true b 32 e))) (λ _. lexeme_told p b bs)

digit_first : (p b : ℕ) (bs : List ℕ) → is_ascii_digit b ≡ true → piece p (b ∷ bs) ≡ as_piece (number p (b ∷ bs))
digit_first p b bs e =
    let dark : eqb b 32 ≡ false = grind (arith, nat_tests) in
    cond-false (eqb b 32) (Ok None) _ dark ∙ ap as_piece (cond-true (is_ascii_digit b) (number p (b ∷ bs)) _ e)

lower_first : (p b : ℕ) (bs : List ℕ) → is_ascii_lowercase b ≡ true → piece p (b ∷ bs) ≡ as_piece (keyword p (b ∷ bs))
lower_first p b bs e =
    let dark : eqb b 32 ≡ false = grind (arith, nat_tests) in
    let other : is_ascii_digit b ≡ false = grind (arith, nat_tests) in
    cond-false (eqb b 32) (Ok None) _ dark ∙ ap as_piece (cond-false (is_ascii_digit b) (number p (b ∷ bs)) _ other ∙ cond-true (is_ascii_lowercase b) (keyword p (b ∷ bs)) _ e)

capital_first : (l : Letter) (p : ℕ) (bs : List ℕ) → piece p (byte_of l ∷ bs) ≡ as_piece (operand l p bs)
capital_first I p bs = refl
capital_first Q p bs = refl
capital_first X p bs = refl

few_at : (kind : ℕ → TokenKind) (n p v : ℕ) (ds rest : List ℕ) → Numeral v ds → digits rest ≡ 0 → few kind n p (ds ++ rest) ≡ Ok (kind v, n)
few_at kind n p v ds rest m ends =
    let long : digits (ds ++ rest) ≡ length ds = run_append is_ascii_digit ds rest m.all ∙ omega arith in
    cond-true (leb (digits (ds ++ rest)) 4) _ (Err (TooManyDigits p)) (le-leb (digits (ds ++ rest)) 4 (omega (arith, m.few))) ∙
    ap (λ x. Ok (kind (value_of x (ds ++ rest)), n)) long ∙
    ap (λ x. Ok (kind (worth x), n)) (take-append_seam ds rest) ∙
    ap (λ x. Ok (kind x, n)) (sym m.value)

many_at : (kind : ℕ → TokenKind) (n p : ℕ) (bs : List ℕ) → 5 ≤ digits bs → few kind n p bs ≡ Err (TooManyDigits p)
many_at kind n p bs h = cond-false (leb (digits bs) 4) _ (Err (TooManyDigits p)) (lt-leb (digits bs) 4 (omega arith))

number_whole : (p v : ℕ) (ds rest : List ℕ) → Numeral v ds → digits rest ≡ 0 → piece p (ds ++ rest) ≡ Ok (Some (Digits v, length ds))
number_whole p v [] rest m ends = absurd (omega (arith, m.some))
number_whole p v (b ∷ ds) rest m ends =
    digit_first p b (ds ++ rest) (first_passes is_ascii_digit b ds (omega (arith, m.all))) ∙
    ap (λ n. as_piece (few Digits n p (b ∷ (ds ++ rest)))) (run_append is_ascii_digit (b ∷ ds) rest m.all ∙ omega arith) ∙
    ap as_piece (few_at Digits (length (b ∷ ds)) p v (b ∷ ds) rest m ends)

operand_whole : (l : Letter) (p v : ℕ) (ds rest : List ℕ) → Numeral v ds → digits rest ≡ 0 → piece p (byte_of l ∷ (ds ++ rest)) ≡ Ok (Some (Operand l v, suc (length ds)))
operand_whole l p v ds rest m ends =
    let long : digits (ds ++ rest) ≡ length ds = run_append is_ascii_digit ds rest m.all ∙ omega arith in
    let some : eqb (digits (ds ++ rest)) 0 ≡ false = ne_eqb (digits (ds ++ rest)) 0 (λ z. omega (arith, m.some)) in
    let n : digits (ds ++ rest) + 1 ≡ suc (length ds) = omega arith in
    capital_first l p (ds ++ rest) ∙
    ap as_piece (cond-false (eqb (digits (ds ++ rest)) 0) (Err (NoToken p)) _ some ∙
    ap (λ x. few (Operand l) x p (ds ++ rest)) n ∙
    few_at (Operand l) (suc (length ds)) p v ds rest m ends)

word_whole : (p : ℕ) (w : Word) (s rest : List ℕ) → letters s ≡ length s → word_of s ≡ Some w → letters rest ≡ 0 → piece p (s ++ rest) ≡ Ok (Some (Keyword w, length s))
word_whole p w [] rest all is ends = absurd (no_letters w is)
word_whole p w (b ∷ s) rest all is ends =
    let long : letters (b ∷ (s ++ rest)) ≡ length (b ∷ s) = run_append is_ascii_lowercase (b ∷ s) rest all ∙ omega arith in
    lower_first p b (s ++ rest) (first_passes is_ascii_lowercase b s (omega (arith, all))) ∙
    ap (λ n. as_piece (as_word (word_of (take n (b ∷ (s ++ rest)))) n p)) long ∙
    ap (λ x. as_piece (as_word (word_of x) (length (b ∷ s)) p)) (take-append_seam (b ∷ s) rest) ∙
    ap (λ o. as_piece (as_word o (length (b ∷ s)) p)) is

sign_whole : (p c : ℕ) (k : TokenKind) (s rest : List ℕ) → s ≡ c ∷ [] → piece p (c ∷ rest) ≡ Ok (Some (k, 1)) → piece p (s ++ rest) ≡ Ok (Some (k, length s))
sign_whole p c k s rest e h = ap (λ x. piece p (x ++ rest)) e ∙ h ∙ ap (λ x. Ok (Some (k, length x))) (sym e)

written_whole : (p : ℕ) (k : TokenKind) (s rest : List ℕ) → Written k s → Ends k rest → piece p (s ++ rest) ≡ Ok (Some (k, length s))
written_whole p (Keyword w) s rest e ends = word_whole p w s rest (ap letters e ∙ lowers w ∙ ap length (sym e)) (sym (word_is s w e)) ends
written_whole p (Digits v) s rest m ends = number_whole p v s rest m ends
written_whole p (Operand l v) s rest m ends = ap (λ x. piece p (x ++ rest)) m.1 ∙ operand_whole l p v m.0 rest m.2 ends ∙ ap (λ x. Ok (Some (Operand l v, length x))) (sym m.1)
written_whole p Comma s rest e ends = sign_whole p 44 Comma s rest e refl
written_whole p Dot s rest e ends = sign_whole p 46 Dot s rest e refl
written_whole p Plus s rest e ends = sign_whole p 43 Plus s rest e refl
written_whole p Bang s rest e ends = sign_whole p 33 Bang s rest e refl
written_whole p Open s rest e ends = sign_whole p 40 Open s rest e refl
written_whole p Close s rest e ends = sign_whole p 41 Close s rest e refl
written_whole p Slash s rest e ends = sign_whole p 47 Slash s rest e refl
written_whole p Backslash s rest e ends = sign_whole p 92 Backslash s rest e refl
written_whole p LineEnd s rest e ends = sign_whole p 10 LineEnd s rest e refl

-- a token that the bytes begin with is the piece
pub whole : (p : ℕ) (k : TokenKind) (bs : List ℕ) (b : Begins k bs) → piece p bs ≡ Ok (Some (k, length b.token))
whole p k bs b = ap (λ x. piece p x) b.cut ∙ written_whole p k b.token b.rest b.written b.ends

-- so are too many digits
pub many : (p : ℕ) (bs : List ℕ) → TooMany bs → piece p bs ≡ Err (TooManyDigits p)
many p [] (inl h) = absurd (omega arith)
many p (b ∷ bs) (inl h) = digit_first p b bs (first_passes is_ascii_digit b bs (omega arith)) ∙ ap as_piece (many_at Digits (digits (b ∷ bs)) p (b ∷ bs) h)
many p bs (inr (l, ds, e, h)) =
    let some : eqb (digits ds) 0 ≡ false = ne_eqb (digits ds) 0 (λ z. omega arith) in
    ap (λ x. piece p x) e ∙ capital_first l p ds ∙ ap as_piece (cond-false (eqb (digits ds) 0) (Err (NoToken p)) _ some ∙ many_at (Operand l) (digits ds + 1) p ds h)
