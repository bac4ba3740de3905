-- The places of a text's tokens rise, and stay below the place where the tokens end. Assumes nothing.
use Rattle.std.proofs.Common.{◌≡◌, ℕ, ◌+◌, ◌<◌, ◌≤◌, List, [], ◌∷◌, length, Some, None, Option, Result, sym, ap, ◌∙◌, subst, ⊎_elim, arith, length-append}
use Rattle.std.specs.List.{AllByRecursion}
use Rattle.std.proofs.lemmas.Bool.{cases_lt}
use Rattle.faults.specs.Numbers.{text_place}
use Rattle.faults.specs.declared.TextFault.{TextFault}
use Rattle.faults.specs.declared.TextFault.TheVariants.{TooLong, NoToken, TooManyDigits, Unexpected, EighthBracket, NumberTooLarge}
use Rattle.text.specs.declared.token.Token.{Token}
use Rattle.text.specs.Lex.{Lexed, tokens_of, answer}
use Rattle.text.specs.Spelled.{Refused, Apart, Spells, Spelled, Alone, Rising, end_of}
use Rattle.text.proofs.Texts.{written_some, cut_long, text_spelled, text_alone}

-- places that rise from p on rise from any place before it
sooner : (q p : ℕ) (ts : List Token) (e : ℕ) → q ≤ p → Rising p ts e → Rising q ts e
sooner q p [] e h r = omega arith
sooner q p (t ∷ ts) e h r = (omega (arith, r.0), r.1)

-- places that rise from p on end behind it
pub rising_ends : (p : ℕ) (ts : List Token) (e : ℕ) → Rising p ts e → p ≤ e
rising_ends p [] e r = r
rising_ends p (t ∷ ts) e r = omega (arith, r.0, rising_ends (t.place + 1) ts e r.1)

-- each place is below the end
pub rising_below : (p : ℕ) (ts : List Token) (e : ℕ) → Rising p ts e → AllByRecursion (λ t. t.place < e) ts
rising_below p [] e r = tt
rising_below p (t ∷ ts) e r = (omega (arith, rising_ends (t.place + 1) ts e r.1), rising_below (t.place + 1) ts e r.1)

-- a fault lies at the bytes that it refuses
refused_at : (p : ℕ) (bs : List ℕ) (f : TextFault) → Refused p bs f → text_place f ≡ p
refused_at p bs TooLong h = absurd h
refused_at p bs (NoToken q) h = h.0
refused_at p bs (TooManyDigits q) h = h.0
refused_at p bs (Unexpected q) h = absurd h
refused_at p bs (EighthBracket q) h = absurd h
refused_at p bs (NumberTooLarge q) h = absurd h

parts : (bs : List ℕ) (a : Apart bs) → length bs ≡ length a.blanks + length a.rest
parts bs a = ap length a.cut ∙ length-append a.blanks a.rest

-- the places of tokens that spell n - p bytes from p on, and the end within them
rising_by : (p n : ℕ) (bs : List ℕ) (ts : List Token) (o : Option TextFault) → n ≡ p + length bs → Spells p bs ts (answer o) → Rising p ts (end_of o n) × (end_of o n ≤ n)
rising_by p n bs [] None e (a, s) = (omega arith, omega arith)
rising_by p n bs [] (Some f) e (a, s) =
    let at = refused_at (p + length a.blanks) a.rest f s in
    let long = parts bs a in
    (omega arith, omega arith)
rising_by p n bs (t ∷ ts) o e (a, at, b, s) =
    let long = parts bs a in
    let some = written_some t.kind b.token b.written in
    let whole : length a.rest ≡ length b.token + length b.rest = ap length b.cut ∙ length-append b.token b.rest in
    let more = rising_by (t.place + length b.token) n b.rest ts o (omega arith) s in
    ((omega arith, sooner (t.place + 1) (t.place + length b.token) ts (end_of o n) (omega arith) more.0), more.1)

-- where the tokens of a text end
abbrev Placed : List ℕ → Lexed → Type 0
Placed text l = Rising 0 l.tokens (end_of l.stop (length text)) × (end_of l.stop (length text) ≤ length text)

placed : (text : List ℕ) → Placed text (tokens_of text)
placed text = ⊎_elim over under (cases_lt 32768 (length text))
  where
    over : 32768 < length text → Placed text (tokens_of text)
    over h = subst (Placed text) (sym (cut_long text h)) (omega arith, omega arith)

    under : length text ≤ 32768 → Placed text (tokens_of text)
    under h = rising_by 0 (length text) text (tokens_of text).tokens (tokens_of text).stop (omega arith) ((text_spelled text).short h)

-- the places rise up to the end
pub places_rise : (text : List ℕ) → Rising 0 (tokens_of text).tokens (end_of (tokens_of text).stop (length text))
places_rise text = (placed text).0

-- the end is within the text
pub end_within : (text : List ℕ) → end_of (tokens_of text).stop (length text) ≤ length text
end_within text = (placed text).1

-- each token stands before the end
pub places_below : (text : List ℕ) → AllByRecursion (λ t. t.place < end_of (tokens_of text).stop (length text)) (tokens_of text).tokens
places_below text = rising_below 0 (tokens_of text).tokens (end_of (tokens_of text).stop (length text)) (places_rise text)

-- what a cut promises of its tokens and its answer
pub record Laws (text : List ℕ) (ts : List Token) (r : Result (Unit {0}) TextFault) : Type 0 where
  pub tokens : ts ≡ (tokens_of text).tokens
  pub stop : r ≡ answer (tokens_of text).stop
  pub spelled : Spelled text ts r
  pub alone : Alone text ts r
  pub rising : Rising 0 ts (end_of (tokens_of text).stop (length text))

pub laws : (text : List ℕ) (ts : List Token) (r : Result (Unit {0}) TextFault) (l : Lexed) → tokens_of text ≡ l → ts ≡ l.tokens → r ≡ answer l.stop → Laws text ts r
laws text ts r l e tokens stop =
    let same_tokens : ts ≡ (tokens_of text).tokens = tokens ∙ ap (λ x. x.tokens) (sym e) in
    let same_stop : r ≡ answer (tokens_of text).stop = stop ∙ ap (λ x. answer x.stop) (sym e) in
    record {
      tokens = same_tokens;
      stop = same_stop;
      spelled = rw (same_tokens, same_stop) (text_spelled text);
      alone = rw (same_tokens, same_stop) (text_alone text);
      rising = rw same_tokens (places_rise text);
    }
