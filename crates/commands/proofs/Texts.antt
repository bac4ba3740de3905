-- The arguments of the program as texts. Assumes nothing.
use Rattle.std.proofs.Common.{◌≡◌, ℕ, ◌-◌, ◌<◌, take, drop, List, [], map, length, get_or, nat_eq, true, string_bytes, String, Global, sym, ap, ◌∙◌, refl}
pub use Rattle.std.proofs.lemmas.List.{length-map}
use Rattle.std.proofs.lemmas.List.{get_or-map, take_rest, drop-map}
use Rattle.std.specs.Cmp.Lexicographic.{pointwise, bytes_decides}

-- The first equation of a conclusion has the call by which `grind` takes the lemma up.
pub text_at : (args : List (String Global)) (i : ℕ) (s : String Global) → s ≡ get_or args i s → i < length args
    → (get_or args i s ≡ get_or args i s) × (get_or (map string_bytes args) i [] ≡ string_bytes s)
text_at args i s e h = (refl, get_or-map string_bytes args i s [] h ∙ ap string_bytes (sym e))

pub same_text : (xs ys : List ℕ) → pointwise nat_eq xs ys ≡ true → (pointwise nat_eq xs ys ≡ pointwise nat_eq xs ys) × (xs ≡ ys)
same_text xs ys e = (refl, (bytes_decides xs ys).0 e)

-- the texts behind the first k
pub texts_behind : (args : List (String Global)) (k : ℕ) → map string_bytes (take (length args - k) (drop k args)) ≡ drop k (map string_bytes args)
texts_behind args k = ap (map string_bytes) (take_rest args k) ∙ sym (drop-map string_bytes k args)

pub ruleset texts = (length-map, text_at, same_text, texts_behind)
