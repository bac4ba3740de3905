-- A checked file has sound parts. Assumes nothing.
use Rattle.std.proofs.Common.{◌≡◌, ℕ, ◌+◌, ◌*◌, ◌<◌, get_or, take, drop, w64, arith, Bool, true, false, cond, List, length, Ok, Err, Result, refl, ap, ◌∙◌}
use Rattle.std.specs.Int.{from_le_bytes}
use Rattle.std.proofs.lemmas.List.{get_or-take, get_or-drop}
use Rattle.faults.specs.declared.FileFault.{FileFault}
use Rattle.words.specs.declared.instruction.Part.TheVariants.{Clear, Enter, Hold}
use Rattle.words.specs.Brackets.{sound}
use Rattle.faults.specs.declared.FileFault.TheVariants.{Unbalanced}
use Rattle.codefile.specs.Parts.{chain, scanned}
use Rattle.codefile.specs.File.{Layout, le_at, layout_of, checked, words_of, clear_bytes, enter_bytes, hold_bytes, accepted_layout}
use Rattle.codefile.proofs.Verdicts.{refused_not}
use Rattle.codefile.proofs.Scans.{scan_sound}

chain_ok : {A B : Type 0} (r : Result A FileFault) (f : A → Result B FileFault) (y : B) → chain r f ≡ Ok y → (x : A) × (r ≡ Ok x) × (f x ≡ Ok y)
chain_ok (Ok x) f y e = (x, refl, e)
chain_ok (Err d) f y e = absurd (refused_not d y e)

last : (b : Bool) (f : FileFault) → ◌≡◌ {A = Result (Unit {0}) FileFault} (cond b (Err f) (Ok tt)) (Ok tt) → b ≡ false
last true f e = absurd (refused_not f tt e)
last false f e = refl

pub record Sound (bs : List ℕ) (l : Layout) : Type 0 where
  pub clears : sound Clear 0 (words_of (clear_bytes bs l)) ≡ true
  pub enters : sound Enter 0 (words_of (enter_bytes bs l)) ≡ true
  pub holds : sound Hold 0 (words_of (hold_bytes bs l)) ≡ true

pub checked_sound : (bs : List ℕ) (l : Layout) → checked bs l ≡ Ok tt → Sound bs l
checked_sound bs l e =
    let one = chain_ok (scanned Clear 44 false 0 (words_of (clear_bytes bs l))) _ tt e in
    let two = chain_ok (scanned Enter (44 + l.clear) one.0 0 (words_of (enter_bytes bs l))) _ tt one.2 in
    let three = chain_ok (scanned Hold (44 + l.clear + l.enter) two.0 0 (words_of (hold_bytes bs l))) _ tt two.2 in
    let none = last three.0 (Unbalanced (length bs)) three.2 in
    let hold = scan_sound Hold (44 + l.clear + l.enter) two.0 0 (words_of (hold_bytes bs l)) (three.1 ∙ ap (λ b. Ok b) none) in
    let enter = scan_sound Enter (44 + l.clear) one.0 0 (words_of (enter_bytes bs l)) (two.1 ∙ ap (λ b. Ok b) hold.0) in
    let clear = scan_sound Clear 44 false 0 (words_of (clear_bytes bs l)) (one.1 ∙ ap (λ b. Ok b) enter.0) in
    record { clears = clear.1; enters = enter.1; holds = hold.1 }

-- with its head accepted, a file is judged by its words
pub accepted_by : (bs : List ℕ) (l : Layout) (v : Result (Unit {0}) FileFault) → layout_of bs ≡ Ok l → checked bs l ≡ v → accepted_layout bs ≡ chain v (λ _. Ok l)
accepted_by bs l v head words = rw (head, words)

at_end : (bs : List ℕ) (i : ℕ) → i < 8 → get_or (take 8 (drop 36 bs)) i 0 ≡ get_or bs (36 + i) 0
at_end bs i h = get_or-take 8 (drop 36 bs) i 0 h ∙ get_or-drop 36 bs i 0

-- the eight bytes of the initial steps, as two numbers
pub initial_is : (bs back : List ℕ) → back ≡ drop 36 bs → from_le_bytes w64 (take 8 back) ≡ le_at bs 36 + le_at bs 40 * 4294967296
initial_is bs back e =
    rw e (omega (arith, at_end bs 0 (omega arith), at_end bs 1 (omega arith), at_end bs 2 (omega arith), at_end bs 3 (omega arith), at_end bs 4 (omega arith), at_end bs 5 (omega arith), at_end bs 6 (omega arith), at_end bs 7 (omega arith)))
