-- The frame of the initial steps, by its bits. Assumes nothing.
use Rattle.std.proofs.Common.{◌≡◌, ℕ, ◌^◌, ◌<◌, Bool, true, false, ◌||◌, List, [], ◌∷◌, refl, ap, ◌∙◌, arith}
use Rattle.std.specs.List.{list_any}
use Rattle.frames.specs.Bits.{bit}
use Rattle.frames.proofs.BitLaws.{bit_on, bit_nought, on_fits, packs}
use Rattle.lines.specs.Grammar.{Tree, empty, step, trans, hold, enter}
use Rattle.translation.specs.Translation.{makes_initial, initial_frame}
use Rattle.translation.specs.Drafts.{started, started_all}

or_none : (b : Bool) → b ≡ (b || false)
or_none true = refl
or_none false = refl

or_append : (a b c : Bool) → ((a || b) || c) ≡ (a || (b || c))
or_append true b c = refl
or_append false b c = refl

-- one line
started_bit : (n x : ℕ) (l : Tree) → n < 64 → bit n (started x l) ≡ (bit n x || makes_initial n l)
started_bit n x empty h = or_none (bit n x)
started_bit n x (step m true) h = bit_on n x m.value h
started_bit n x (step m false) h = or_none (bit n x)
started_bit n x (trans m fs ts c us) h = or_none (bit n x)
started_bit n x (hold m q) h = or_none (bit n x)
started_bit n x (enter m a q) h = or_none (bit n x)

started_fits : (x : ℕ) (l : Tree) → x < 2 ^ 64 → started x l < 2 ^ 64
started_fits x empty h = h
started_fits x (step m true) h = on_fits x m.value h
started_fits x (step m false) h = h
started_fits x (trans m fs ts c us) h = h
started_fits x (hold m q) h = h
started_fits x (enter m a q) h = h

-- all lines
all_started_bit : (n x : ℕ) (ls : List Tree) → n < 64 → bit n (started_all x ls) ≡ (bit n x || list_any (makes_initial n) ls)
all_started_bit n x [] h = or_none (bit n x)
all_started_bit n x (l ∷ ls) h =
    all_started_bit n (started x l) ls h ∙ ap (λ b. b || list_any (makes_initial n) ls) (started_bit n x l h)
    ∙ or_append (bit n x) (makes_initial n l) (list_any (makes_initial n) ls)

all_started_fits : (x : ℕ) (ls : List Tree) → x < 2 ^ 64 → started_all x ls < 2 ^ 64
all_started_fits x [] h = h
all_started_fits x (l ∷ ls) h = all_started_fits (started x l) ls (started_fits x l h)

pub started_frame : (ls : List Tree) → started_all 0 ls ≡ initial_frame ls
unfolding initial_frame
started_frame ls =
    packs 64 (started_all 0 ls) (λ n. list_any (makes_initial n) ls) (all_started_fits 0 ls (omega arith))
    (λ n h. all_started_bit n 0 ls h ∙ ap (λ b. b || list_any (makes_initial n) ls) (bit_nought n))
