-- A text, cut at its line ends. Assumes nothing.
use Rattle.std.proofs.Common.{◌≡◌, ℕ, suc, ◌+◌, ◌<◌, ◌≤◌, Bool, true, false, cond, not, ltb, List, [], ◌∷◌, ◌++◌, map, length, take, drop, Some, None, Option, refl, sym, ap, ◌∙◌, subst, arith, append_assoc}
use Rattle.std.specs.Option.{MatchOption}
use Rattle.std.specs.List.{before_first, after_first, position_or_len}
use Rattle.std.proofs.lemmas.Bool.{ltb-false}
use Rattle.std.proofs.lemmas.List.{map-append, length-drop}
use Rattle.plain.specs.declared.calls.Call.{Call}
use Rattle.plain.specs.Shown.{call_word, call_named}
use Rattle.plain.proofs.Naming.{named_word}
use Rattle.running.specs.CallLists.{is_line_end, with_byte, lines_of, NoCallAt}

abbrev pub line_end : List ℕ → ℕ
line_end bs = position_or_len is_line_end bs

-- the place of the first line end, if there is one
pub place_of : (bs : List ℕ) (r : Option ℕ) → r ≡ cond (ltb (line_end bs) (length bs)) (Some (line_end bs)) None → MatchOption r (length bs ≤ line_end bs) (λ k. k ≡ line_end bs)
place_of bs r e = subst At (sym e) (by (ltb (line_end bs) (length bs)) refl)
  where
    At : Option ℕ → Type 0
    At x = MatchOption x (length bs ≤ line_end bs) (λ k. k ≡ line_end bs)

    by : (t : Bool) → ltb (line_end bs) (length bs) ≡ t → At (cond t (Some (line_end bs)) None)
    by true t = refl
    by false t = ltb-false _ _ t

-- a byte in front of a text goes into its first line
longer : (b : ℕ) (bs : List ℕ) (n m k : ℕ) → m ≡ suc n → k ≡ suc (n + 1) → with_byte b (take n bs ∷ lines_of (drop (n + 1) bs)) ≡ take m (b ∷ bs) ∷ lines_of (drop k (b ∷ bs))
longer b bs n m k e f = rw (e, f) refl

-- the first line stands before the first line end, and the others behind it
pub lines_cut : (bs : List ℕ) → 0 < length bs → lines_of bs ≡ before_first is_line_end bs ∷ lines_of (after_first is_line_end bs)
lines_cut [] h = absurd (omega arith)
lines_cut (b ∷ bs) h = by (is_line_end b) bs (lines_cut bs)
  where
    by : (t : Bool) (bs : List ℕ) → (0 < length bs → lines_of bs ≡ before_first is_line_end bs ∷ lines_of (after_first is_line_end bs)) → cond t ([] ∷ lines_of bs) (with_byte b (lines_of bs)) ≡ take (cond (not t) (1 + line_end bs) 0) (b ∷ bs) ∷ lines_of (drop (cond (not t) (1 + line_end bs) 0 + 1) (b ∷ bs))
    by true bs more = refl
    by false [] more = refl
    by false (x ∷ xs) more = ap (with_byte b) (more (omega arith)) ∙ longer b (x ∷ xs) (line_end (x ∷ xs)) _ _ (omega arith) (omega arith)

-- what stands behind a line is shorter
pub behind_shorter : (bs : List ℕ) → 0 < length bs → length (after_first is_line_end bs) < length bs
behind_shorter bs h = omega (arith, length-drop (line_end bs + 1) bs)

-- one call more
pub one_more : (text rest : List ℕ) (calls : List Call) (call : Call) (line behind : List ℕ) → lines_of text ≡ map call_word calls ++ lines_of rest → 0 < length rest → line ≡ before_first is_line_end rest → behind ≡ after_first is_line_end rest → Some call ≡ call_named line → lines_of text ≡ map call_word (calls ++ call ∷ []) ++ lines_of behind
one_more text rest calls call line behind so few l b w = so ∙ ap (λ ls. map call_word calls ++ ls) next ∙ sym (append_assoc (map call_word calls) (call_word call ∷ []) (lines_of behind)) ∙ ap (λ ls. ls ++ lines_of behind) (sym (map-append call_word calls (call ∷ [])))
  where
    next : lines_of rest ≡ call_word call ∷ lines_of behind
    next = lines_cut rest few ∙ ap (λ l. l ∷ lines_of (after_first is_line_end rest)) (sym l ∙ named_word line call (sym w)) ∙ ap (λ bs. call_word call ∷ lines_of bs) (sym b)

pub no_call_at : (text rest : List ℕ) (calls : List Call) (line : List ℕ) (n : ℕ) → lines_of text ≡ map call_word calls ++ lines_of rest → 0 < length rest → line ≡ before_first is_line_end rest → n ≡ length calls + 1 → None ≡ call_named line → NoCallAt n (lines_of text)
no_call_at text rest calls line n so few l e none = record {
  calls = calls;
  line = line;
  more = lines_of (after_first is_line_end rest);
  stands = so ∙ ap (λ ls. map call_word calls ++ ls) (lines_cut rest few ∙ ap (λ l. l ∷ lines_of (after_first is_line_end rest)) (sym l));
  number = e;
  no_call = sym none;
}
