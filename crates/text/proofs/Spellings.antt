-- The word that letters spell is the only one with that spelling. Assumes nothing.
use Rattle.std.proofs.Common.{◌≡◌, ℕ, Bool, true, false, cond, List, [], ◌∷◌, length, Some, None, Decides, sym, refl, ap, ◌∙◌, arith}
use Rattle.std.specs.Str.{bytes_eq}
use Rattle.std.proofs.lemmas.Slice.Eq.{bytes_eq-Decides}
use Rattle.text.specs.declared.token.Word.{Word}
use Rattle.text.specs.declared.token.Word.TheVariants.{Step, Initial, Trans, From, To, When, Hold, Enter, Set, Reset}
use Rattle.text.specs.Runs.{letters}
use Rattle.text.specs.Spelling.{spelling, among, ten, word_of}

own : (w : Word) → word_of (spelling w) ≡ Some w
own Step = refl
own Initial = refl
own Trans = refl
own From = refl
own To = refl
own When = refl
own Hold = refl
own Enter = refl
own Set = refl
own Reset = refl

-- letters that spell a word are that word
pub word_is : (bs : List ℕ) (w : Word) → bs ≡ spelling w → Some w ≡ word_of bs
word_is bs w e = sym (ap word_of e ∙ own w)

spells_among : (ws : List Word) (bs : List ℕ) (w : Word) → among ws bs ≡ Some w → bs ≡ spelling w
spells_among [] bs w e = absurd (apart e)
  where
    apart : None ≡ Some w → ⊥
    apart e = let z : ◌≡◌ {A = ℕ} 0 1 = cc in omega arith
spells_among (v ∷ ws) bs w e = by (bytes_eq bs (spelling v)) (bytes_eq-Decides bs (spelling v)) e (spells_among ws bs w)
  where
    by : (t : Bool) → Decides t (bs ≡ spelling v) → cond t (Some v) (among ws bs) ≡ Some w → (among ws bs ≡ Some w → bs ≡ spelling w) → bs ≡ spelling w
    by true d e more = let same : v ≡ w = cc in d.0 refl ∙ ap spelling same
    by false d e more = more e

-- a word is what its letters spell
pub spells : (bs : List ℕ) (w : Word) → word_of bs ≡ Some w → bs ≡ spelling w
spells bs w e = spells_among ten bs w e

-- each is spelled by letters a to z
pub lowers : (w : Word) → letters (spelling w) ≡ length (spelling w)
lowers Step = refl
lowers Initial = refl
lowers Trans = refl
lowers From = refl
lowers To = refl
lowers When = refl
lowers Hold = refl
lowers Enter = refl
lowers Set = refl
lowers Reset = refl

-- no letters are no word
pub no_letters : (w : Word) → word_of [] ≡ Some w → ⊥
no_letters w e = let z : ◌≡◌ {A = ℕ} 0 1 = cc in omega arith
