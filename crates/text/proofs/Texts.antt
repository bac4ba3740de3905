-- A text is spelled by its tokens, and by no others. Assumes nothing.
use Rattle.std.proofs.Common.{◌≡◌, ℕ, zero, suc, ◌+◌, ◌<◌, ◌≤◌, leb, List, [], ◌∷◌, ◌++◌, length, Some, None, Ok, Err, Result, sym, refl, ap, ◌∙◌, subst, ⊎_elim, arith, length-append}
use lib.Seq.{drop-append_seam}
use Rattle.std.specs.List.{AllByRecursion}
use Rattle.std.proofs.lemmas.Bool.{cond-true, cond-false, le-leb, lt-leb, cases_lt}
use Rattle.faults.specs.declared.TextFault.{TextFault}
use Rattle.faults.specs.declared.TextFault.TheVariants.{TooLong, NoToken, TooManyDigits, Unexpected, EighthBracket, NumberTooLarge}
use Rattle.text.specs.declared.token.Token.{Token}
use Rattle.text.specs.declared.token.TokenKind.{TokenKind}
use Rattle.text.specs.declared.token.TokenKind.TheVariants.{Keyword, Digits, Operand, Comma, Dot, Plus, Bang, Open, Close, Slash, Backslash, LineEnd}
use Rattle.text.specs.Lex.{Piece, Lexed, piece, follow, after, lex, tokens_of, answer}
use Rattle.text.specs.Spelled.{Written, Begins, Refused, Stops, Apart, Spells, Spelled, Alone}
use Rattle.text.proofs.Lexing.{skip_on}
use Rattle.text.proofs.Pieces.{Told, told, whole, many}
use Rattle.text.proofs.Spellings.{word_is, no_letters}

-- a token has at least one byte
pub written_some : (k : TokenKind) (s : List ℕ) → Written k s → 0 < length s
written_some (Keyword w) [] e = absurd (no_letters w (sym (word_is [] w e)))
written_some (Keyword w) (c ∷ s) e = omega arith
written_some (Digits v) s m = m.some
written_some (Operand l v) s m = omega (arith, ap length m.1)
written_some Comma s e = omega (arith, ap length e)
written_some Dot s e = omega (arith, ap length e)
written_some Plus s e = omega (arith, ap length e)
written_some Bang s e = omega (arith, ap length e)
written_some Open s e = omega (arith, ap length e)
written_some Close s e = omega (arith, ap length e)
written_some Slash s e = omega (arith, ap length e)
written_some Backslash s e = omega (arith, ap length e)
written_some LineEnd s e = omega (arith, ap length e)

-- what is cut off at p
cut_at : (p b : ℕ) (bs : List ℕ) (q : Piece) → piece p (b ∷ bs) ≡ q → lex (b ∷ bs) 0 p ≡ follow q p (λ n. lex bs n (p + 1))
cut_at p b bs q e = ap (λ x. follow x p (λ n. lex bs n (p + 1))) e

past_bytes : (p : ℕ) (k : TokenKind) (s rest : List ℕ) → 0 < length s → piece p (s ++ rest) ≡ Ok (Some (k, length s)) → lex (s ++ rest) 0 p ≡ after (record { kind = k; place = p } ∷ []) (lex rest 0 (p + length s))
past_bytes p k [] rest some e = absurd (omega arith)
past_bytes p k (c ∷ s) rest some e =
    let fits : length s ≤ length (s ++ rest) = omega (arith, length-append s rest) in
    cut_at p c (s ++ rest) (Ok (Some (k, suc (length s)))) e ∙
    ap (λ n. after (record { kind = k; place = p } ∷ []) (lex (s ++ rest) n (p + 1))) (omega arith) ∙
    ap (λ l. after (record { kind = k; place = p } ∷ []) l) (skip_on (s ++ rest) (length s) (p + 1) fits) ∙
    ap (λ l. after (record { kind = k; place = p } ∷ []) (lex l 0 (p + 1 + length s))) (drop-append_seam s rest) ∙
    ap (λ q. after (record { kind = k; place = p } ∷ []) (lex rest 0 q)) (omega arith)

-- past a token that the bytes begin with
past_token : (p : ℕ) (k : TokenKind) (bs : List ℕ) (b : Begins k bs) → lex bs 0 p ≡ after (record { kind = k; place = p } ∷ []) (lex b.rest 0 (p + length b.token))
past_token p k bs b =
    ap (λ l. lex l 0 p) b.cut ∙
    past_bytes p k b.token b.rest (written_some k b.token b.written) (ap (λ l. piece p l) (sym b.cut) ∙ whole p k bs b)

-- past blanks
past_blanks : (p : ℕ) (blanks rest : List ℕ) → AllByRecursion (λ b. b ≡ 32) blanks → lex (blanks ++ rest) 0 p ≡ lex rest 0 (p + length blanks)
past_blanks p [] rest h = ap (λ q. lex rest 0 q) (omega arith)
past_blanks p (b ∷ blanks) rest h =
    ap (λ x. lex (x ∷ (blanks ++ rest)) 0 p) h.0 ∙
    past_blanks (p + 1) blanks rest h.1 ∙
    ap (λ q. lex rest 0 q) (omega arith)

-- a fault that is cut off at p is one of the bytes there
refused_by : (p b : ℕ) (bs : List ℕ) (f : TextFault) → piece p (b ∷ bs) ≡ Err f → Told p (b ∷ bs) (Err f) → Refused p (b ∷ bs) f
refused_by p b bs TooLong e t = t
refused_by p b bs (NoToken q) e t = (
  t,
  record {
    some = λ h. absurd (omega (arith, ap length h));
    no_blank = λ rest h. let g : piece p (b ∷ bs) ≡ Ok None = ap (λ x. piece p x) h in let z : ◌≡◌ {A = ℕ} 0 1 = cc in absurd (omega arith);
    no_token = λ k h. let g = whole p k (b ∷ bs) h in let z : ◌≡◌ {A = ℕ} 0 1 = cc in absurd (omega arith);
    few = λ h. let g = many p (b ∷ bs) h in let z : ◌≡◌ {A = ℕ} 0 1 = cc in absurd (omega arith);
  },
)
refused_by p b bs (TooManyDigits q) e t = t
refused_by p b bs (Unexpected q) e t = t
refused_by p b bs (EighthBracket q) e t = t
refused_by p b bs (NumberTooLarge q) e t = t

-- bytes that are refused at p are cut off as that fault
refused_piece : (p : ℕ) (bs : List ℕ) (f : TextFault) → Refused p bs f → piece p bs ≡ Err f
refused_piece p bs TooLong h = absurd h
refused_piece p [] (NoToken q) h = absurd (h.1.some refl)
refused_piece p (b ∷ bs) (NoToken q) h = by (piece p (b ∷ bs)) (told p b bs)
  where
    wrong : (f : TextFault) → Told p (b ∷ bs) (Err f) → ◌≡◌ {A = Piece} (Err f) (Err (NoToken q))
    wrong TooLong t = absurd t
    wrong (NoToken o) t = ap (λ x. Err (NoToken x)) (t ∙ sym h.0)
    wrong (TooManyDigits o) t = absurd (h.1.few t.1)
    wrong (Unexpected o) t = absurd t
    wrong (EighthBracket o) t = absurd t
    wrong (NumberTooLarge o) t = absurd t

    by : (x : Piece) → Told p (b ∷ bs) x → x ≡ Err (NoToken q)
    by (Ok None) t = absurd (h.1.no_blank t.0 t.1)
    by (Ok (Some (k, n))) t = absurd (h.1.no_token k t.0)
    by (Err f) t = wrong f t
refused_piece p bs (TooManyDigits q) h = many p bs h.1 ∙ ap (λ x. Err (TooManyDigits x)) (sym h.0)
refused_piece p bs (Unexpected q) h = absurd h
refused_piece p bs (EighthBracket q) h = absurd h
refused_piece p bs (NumberTooLarge q) h = absurd h

-- what is cut from the bytes at p
abbrev CutAs : ℕ → List ℕ → Lexed → Type 0
CutAs p bs l = Spells p bs l.tokens (answer l.stop)

abbrev at_once : (bs : List ℕ) → Apart bs
at_once bs = record { blanks = []; rest = bs; cut = refl; blank = tt }

abbrev wider : (b : ℕ) (bs : List ℕ) → b ≡ 32 → Apart bs → Apart (b ∷ bs)
wider b bs e a = record { blanks = b ∷ a.blanks; rest = a.rest; cut = ap (λ l. b ∷ l) a.cut; blank = (e, a.blank) }

one_blank : (p b : ℕ) (bs : List ℕ) (ts : List Token) (r : Result (Unit {0}) TextFault) → b ≡ 32 → Spells (p + 1) bs ts r → Spells p (b ∷ bs) ts r
one_blank p b bs [] r e (a, s) = (wider b bs e a, subst (λ (q : ℕ). Stops q a.rest r) (omega arith) s)
one_blank p b bs (t ∷ ts) r e (a, at, next, s) = (wider b bs e a, at ∙ omega arith, next, s)

sound : (n p : ℕ) (bs : List ℕ) → length bs ≤ n → CutAs p bs (lex bs 0 p)
sound n p [] h = (at_once [], refl)
sound zero p (b ∷ bs) h = absurd (omega arith)
sound (suc n) p (b ∷ bs) h = by (piece p (b ∷ bs)) refl (told p b bs) (sound n)
  where
    by : (q : Piece) → piece p (b ∷ bs) ≡ q → Told p (b ∷ bs) q → ((o : ℕ) (cs : List ℕ) → length cs ≤ n → CutAs o cs (lex cs 0 o)) → CutAs p (b ∷ bs) (lex (b ∷ bs) 0 p)
    by (Ok None) e t more =
        let blank : b ≡ 32 = cc t.1 in
        subst (CutAs p (b ∷ bs)) (sym (cut_at p b bs (Ok None) e)) (one_blank p b bs _ _ blank (more (p + 1) bs (omega arith)))
    by (Ok (Some (k, m))) e t more =
        let token = t.0 in
        let long = written_some k token.token token.written in
        let parts = length-append token.token token.rest in
        let fits : length token.rest ≤ n = omega (arith, ap length token.cut, parts, long) in
        subst (CutAs p (b ∷ bs)) (sym (past_token p k (b ∷ bs) token)) (at_once (b ∷ bs), omega arith, token, more (p + length token.token) token.rest fits)
    by (Err f) e t more =
        subst (CutAs p (b ∷ bs)) (sym (cut_at p b bs (Err f) e)) (at_once (b ∷ bs), subst (λ (q : ℕ). Refused q (b ∷ bs) f) (omega arith) (refused_by p b bs f e t))

-- the tokens that spell the bytes are cut from them
abbrev Same : Lexed → List Token → Result (Unit {0}) TextFault → Type 0
Same l ts r = (ts ≡ l.tokens) × (r ≡ answer l.stop)

stopped : (p : ℕ) (bs : List ℕ) (r : Result (Unit {0}) TextFault) → Stops p bs r → Same (lex bs 0 p) [] r
stopped p bs (Ok u) e = (ap (λ l. (lex l 0 p).tokens) (sym e), ap (λ l. answer (lex l 0 p).stop) (sym e))
stopped p [] (Err f) h = absurd (wrong_end f h)
  where
    wrong_end : (f : TextFault) → Refused p [] f → ⊥
    wrong_end TooLong h = h
    wrong_end (NoToken q) h = h.1.some refl
    wrong_end (TooManyDigits q) h = let e = many p [] h.1 in let z : ◌≡◌ {A = ℕ} 0 1 = cc in omega arith
    wrong_end (Unexpected q) h = h
    wrong_end (EighthBracket q) h = h
    wrong_end (NumberTooLarge q) h = h
stopped p (b ∷ bs) (Err f) h = subst (λ (l : Lexed). Same l [] (Err f)) (sym (cut_at p b bs (Err f) (refused_piece p (b ∷ bs) f h))) (refl, refl)

past_apart : (p : ℕ) (bs : List ℕ) (a : Apart bs) → lex bs 0 p ≡ lex a.rest 0 (p + length a.blanks)
past_apart p bs a = ap (λ l. lex l 0 p) a.cut ∙ past_blanks p a.blanks a.rest a.blank

only : (p : ℕ) (bs : List ℕ) (ts : List Token) (r : Result (Unit {0}) TextFault) → Spells p bs ts r → Same (lex bs 0 p) ts r
only p bs [] r (a, s) = subst (λ (l : Lexed). Same l [] r) (sym (past_apart p bs a)) (stopped (p + length a.blanks) a.rest r s)
only p bs (t ∷ ts) r (a, at, b, s) =
    let rest = only (t.place + length b.token) b.rest ts r s in
    let e : lex bs 0 p ≡ after (t ∷ []) (lex b.rest 0 (t.place + length b.token)) = past_apart p bs a ∙ ap (λ q. lex a.rest 0 q) (sym at) ∙ past_token t.place t.kind a.rest b in
    subst (λ (l : Lexed). Same l (t ∷ ts) r) (sym e) (ap (λ l. t ∷ l) rest.0, rest.1)

-- a text of at most 32,768 bytes
pub cut_short : (text : List ℕ) → length text ≤ 32768 → tokens_of text ≡ lex text 0 0
cut_short text h = cond-true (leb (length text) 32768) (lex text 0 0) _ (le-leb (length text) 32768 h)

-- a longer text
pub cut_long : (text : List ℕ) → 32768 < length text → tokens_of text ≡ record { tokens = []; stop = Some TooLong }
cut_long text h = cond-false (leb (length text) 32768) (lex text 0 0) (record { tokens = []; stop = Some TooLong }) (lt-leb (length text) 32768 h)

-- the text is spelled by its tokens
pub text_spelled : (text : List ℕ) → Spelled text (tokens_of text).tokens (answer (tokens_of text).stop)
text_spelled text = record {
  short = λ h. subst (CutAs 0 text) (sym (cut_short text h)) (sound (length text) 0 text (omega arith));
  long = λ h. (ap (λ l. l.tokens) (cut_long text h), ap (λ l. answer l.stop) (cut_long text h));
}

-- and by no others
pub text_alone : (text : List ℕ) → Alone text (tokens_of text).tokens (answer (tokens_of text).stop)
text_alone text us r s = ⊎_elim over under (cases_lt 32768 (length text))
  where
    over : 32768 < length text → Same (tokens_of text) us r
    over h = subst (λ (l : Lexed). Same l us r) (sym (cut_long text h)) (s.long h)

    under : length text ≤ 32768 → Same (tokens_of text) us r
    under h = subst (λ (l : Lexed). Same l us r) (sym (cut_short text h)) (only 0 text us r (s.short h))
