-- The ten words and their letters. Assumes nothing.
use Rattle.std.specs.Prelude.{ℕ, List, [], ◌∷◌, codes, Option, find}
use Rattle.std.specs.Str.{bytes_eq}
use Rattle.text.specs.declared.token.Word.{Word}
use Rattle.text.specs.declared.token.Word.TheVariants.{Step, Initial, Trans, From, To, When, Hold, Enter, Set, Reset}

abbrev pub spelling : Word → List ℕ
spelling Step = codes "step"
spelling Initial = codes "initial"
spelling Trans = codes "trans"
spelling From = codes "from"
spelling To = codes "to"
spelling When = codes "when"
spelling Hold = codes "hold"
spelling Enter = codes "enter"
spelling Set = codes "set"
spelling Reset = codes "reset"

-- the first of these words that is spelled so
abbrev pub among : List Word → List ℕ → Option Word
among ws bs = find (λ w. bytes_eq bs (spelling w)) ws

abbrev pub ten : List Word
ten = Step ∷ Initial ∷ Trans ∷ From ∷ To ∷ When ∷ Hold ∷ Enter ∷ Set ∷ Reset ∷ []

-- the word that is spelled so
abbrev pub word_of : List ℕ → Option Word
word_of bs = among ten bs
