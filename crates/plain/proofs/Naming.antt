-- The call that a word names has that word. Assumes nothing.
use Rattle.std.proofs.Common.{◌≡◌, ℕ, Bool, true, false, cond, List, [], ◌∷◌, Some, Decides, refl, ap, ◌∙◌, arith}
use Rattle.std.specs.List.{find}
use Rattle.std.specs.Str.{bytes_eq}
use Rattle.std.proofs.lemmas.Slice.Eq.{bytes_eq-Decides}
use Rattle.plain.specs.declared.calls.Call.{Call}
use Rattle.plain.specs.Shown.{call_word, six, call_named}

found_word : (calls : List Call) (word : List ℕ) (call : Call) → find (λ c. bytes_eq word (call_word c)) calls ≡ Some call → word ≡ call_word call
found_word [] word call e = let z : ◌≡◌ {A = ℕ} 0 1 = cc in absurd (omega arith)
found_word (c ∷ calls) word call e = by (bytes_eq word (call_word c)) (bytes_eq-Decides word (call_word c)) e (found_word calls word call)
  where
    by : (t : Bool) → Decides t (word ≡ call_word c) → cond t (Some c) (find (λ c. bytes_eq word (call_word c)) calls) ≡ Some call → (find (λ c. bytes_eq word (call_word c)) calls ≡ Some call → word ≡ call_word call) → word ≡ call_word call
    by true d e more = let same : c ≡ call = cc in d.0 refl ∙ ap call_word same
    by false d e more = more e

pub named_word : (word : List ℕ) (call : Call) → call_named word ≡ Some call → word ≡ call_word call
named_word word call e = found_word six word call e
