-- What a word list keeps of the words that are emitted to it. Assumes nothing.
use Rattle.std.proofs.Common.{◌≡◌, ℕ, zero, suc, ◌+◌, ◌≤◌, min, Bool, true, cond, ◌||◌, ltb, List, [], ◌∷◌, ◌++◌, map, length, take, sym, refl, ap, ◌∙◌, ap₂, ⊎_elim, arith}
use Rattle.std.proofs.lemmas.List.{append-nil, append_assoc, map-append, length-append, length-take, length-take-le, take_all, take-take, take-append-le}
use Rattle.std.proofs.lemmas.Bool.{lt-ltb, le-ltb, cond-true, cond-false, cases_lt}
use Rattle.std.proofs.lemmas.Bool.Decides.{nat_tests}
use Rattle.words.specs.declared.instruction.Instruction.{Instruction}
use Rattle.words.specs.Words.{word_of}
use Rattle.words.specs.Emitted.{Kept, nothing, push, pushed, appended, joined, first_of}

-- ---- emitted in several parts
pub pushed_words : (k : Kept) (xs : List Instruction) → pushed k xs ≡ appended k (map word_of xs)
unfolding pushed
pushed_words k [] = refl
pushed_words k (x ∷ xs) = pushed_words (push k (word_of x)) xs

-- ---- the first 4,096: as with any limit n
same_kept : (us vs : List ℕ) (b c : Bool) → us ≡ vs → b ≡ c → ◌≡◌ {A = Kept} (record { words = us; more = b }) (record { words = vs; more = c })
same_kept us vs b c p q = cc

abbrev first : ℕ → List ℕ → Kept
first n ws = record { words = take n ws; more = ltb n (length ws) }

abbrev push_to : ℕ → Kept → ℕ → Kept
push_to n k w = cond (ltb (length k.words) n) (record { words = k.words ++ (w ∷ []); more = k.more }) (record { words = k.words; more = true })

push_first : (n : ℕ) (us : List ℕ) (w : ℕ) → push_to n (first n us) w ≡ first n (us ++ (w ∷ []))
push_first n us w =
    let longer = length-append us (w ∷ []) in
    ⊎_elim
    (λ h.
    ap (λ xs. push_to n (record { words = xs; more = ltb n (length us) }) w) (take_all n us (omega arith))
    ∙ cond-true (ltb (length us) n) _ _ (lt-ltb _ _ h)
    ∙ same_kept (us ++ (w ∷ [])) (take n (us ++ (w ∷ []))) (ltb n (length us)) (ltb n (length (us ++ (w ∷ []))))
    (sym (take_all n (us ++ (w ∷ [])) (omega arith)))
    (le-ltb n (length us) (omega arith) ∙ sym (le-ltb n (length (us ++ (w ∷ []))) (omega arith))))
    (λ h.
    cond-false (ltb (length (take n us)) n) _ _ (le-ltb _ _ (omega (arith, length-take-le n us h)))
    ∙ same_kept (take n us) (take n (us ++ (w ∷ []))) true (ltb n (length (us ++ (w ∷ []))))
    (sym (take-append-le n us (w ∷ []) h))
    (sym (lt-ltb n (length (us ++ (w ∷ []))) (omega arith))))
    (cases_lt (length us) n)

pub push_first_of : (us : List ℕ) (w : ℕ) → push (first_of us) w ≡ first_of (us ++ (w ∷ []))
push_first_of us w = push_first 4096 us w

appended_first : (us vs : List ℕ) → appended (first_of us) vs ≡ first_of (us ++ vs)
appended_first us [] = ap first_of (sym (append-nil us))
appended_first us (v ∷ vs) = ap (λ k. appended k vs) (push_first_of us v) ∙ appended_first (us ++ (v ∷ [])) vs ∙ ap first_of (append_assoc us (v ∷ []) vs)

-- what is emitted to an empty list
pub pushed_first : (xs : List Instruction) → pushed nothing xs ≡ first_of (map word_of xs)
pushed_first xs = pushed_words nothing xs ∙ appended_first [] (map word_of xs)

-- the first n of two lists want no more than the first n of the second
take_short : (n m : ℕ) (us vs : List ℕ) → n ≤ m → take n (us ++ take m vs) ≡ take n (us ++ vs)
take_short n m [] vs h = take-take n m vs h
take_short zero m (u ∷ us) vs h = refl
take_short (suc n) m (u ∷ us) vs h = ap (λ ws. u ∷ ws) (take_short n m us vs (omega arith))

more_of_both : (n a b c : ℕ) → c ≡ a + min n b → (ltb n c || ltb n b) ≡ ltb n (a + b)
more_of_both n a b c e = grind (arith, nat_tests)

pub joined_first : (us vs : List ℕ) → joined (first_of us) (first_of vs) ≡ first_of (us ++ vs)
joined_first us vs =
    let e = appended_first us (take 4096 vs) in
    let short : length (us ++ take 4096 vs) ≡ length us + min 4096 (length vs) = length-append us (take 4096 vs) ∙ ap (λ k. length us + k) (length-take 4096 vs) in
    same_kept _ (take 4096 (us ++ vs)) _ (ltb 4096 (length (us ++ vs)))
    (ap (λ k. k.words) e ∙ take_short 4096 4096 us vs (omega arith))
    (ap (λ k. k.more || ltb 4096 (length vs)) e ∙ more_of_both 4096 (length us) (length vs) _ short ∙ ap (ltb 4096) (sym (length-append us vs)))

-- one list behind another
pub pushed_joined : (xs ys : List Instruction) → joined (pushed nothing xs) (pushed nothing ys) ≡ pushed nothing (xs ++ ys)
pushed_joined xs ys =
    ap₂ joined (pushed_first xs) (pushed_first ys) ∙ joined_first (map word_of xs) (map word_of ys)
    ∙ ap first_of (sym (map-append word_of xs ys)) ∙ sym (pushed_first (xs ++ ys))
