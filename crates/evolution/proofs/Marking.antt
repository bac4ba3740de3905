-- What the tests of the transitions do to T. Assumes nothing.
use Rattle.std.proofs.Common.{◌≡◌, ℕ, ◌<◌, ◌^◌, Bool, true, false, cond, not, ◌&&◌, ◌||◌, ◌==◌, List, [], ◌∷◌, ◌++◌, map, eqb, ltb, refl, sym, ap, ap₂, ◌∙◌, arith}
use Rattle.std.specs.List.{list_any, list_all}
use Rattle.std.proofs.lemmas.Bool.{and_parts, or_parts, ltb-true, eqb-true, eq-eqb, not-true, true≢false}
use Rattle.std.proofs.Math.Bool.{and_assoc, and-true}
use Rattle.frames.specs.Bits.{bit, pack}
use Rattle.frames.proofs.BitLaws.{bit_on, bit_off, bit_nought, on_fits, off_fits, packs}
use Rattle.words.specs.declared.instruction.Instruction.{Instruction}
use Rattle.words.specs.declared.instruction.Instruction.TheVariants.{AndOpen, Store}
use Rattle.conditions.specs.Tree.{Cond, words, enclosed}
use Rattle.lines.specs.declared.shape.Number.{Number}
use Rattle.lines.specs.Grammar.{Tree, Numbers, one, more, items, trans}
use Rattle.lines.specs.Guards.{step_test, step_tests, transition_test, guard_words}
use Rattle.lines.proofs.Testing.{none_yet, empty_yet}
use Rattle.translation.specs.Translation.{each}
use Rattle.machine.specs.declared.memory.Memory.{Memory}
use Rattle.machine.specs.Machine.{Machine, load, with_cleared, written, run}
use Rattle.machine.specs.Machine as machine
use Rattle.evolution.specs.Chart.{Transition, transition, transitions_in}
use Rattle.evolution.specs.Rules.{Situation, holds, clearable}
use Rattle.evolution.proofs.Numbered.{Numbered, apart}
use Rattle.evolution.proofs.Running.{situation_in, run_append, and_bracket, condition_run, on_line, through, lines_run}

-- ---- the words
abbrev all_active : List ℕ → Memory → Bool
all_active ns x = list_all (λ n. bit n x.active) ns

others_run : (ns : List Number) (m : Machine) →
    run (map (λ k. step_test false k) ns) m ≡ load (m.result && all_active (map (λ n. n.value) ns) m.memory) m
others_run [] m = ap (λ (b : Bool). load b m) (sym (and-true m.result))
others_run (n ∷ ns) m =
    others_run ns (machine.step (step_test false n) m)
    ∙ ap (λ (b : Bool). load b m) (and_assoc m.result (bit n.value m.memory.active) (all_active (map (λ n. n.value) ns) m.memory))

-- a list of steps is not empty
items_some : (ns : Numbers) → none_yet (items ns) ≡ false
items_some (one n) = refl
items_some (more ns n) = empty_yet (items ns) n

steps_run : (ns : List Number) (m : Machine) → none_yet ns ≡ false →
    run (step_tests ns) m ≡ load (all_active (map (λ n. n.value) ns) m.memory) m
steps_run [] m some = absurd (true≢false some)
steps_run (n ∷ ns) m some = others_run ns (load (bit n.value m.memory.active) m)

-- a transition's bit is on in T if it is clearable, and off if not
abbrev marking : Transition → Memory → Memory
marking t x = with_cleared (written (clearable t (situation_in x)) t.number x.cleared) x

test_run : (n : Number) (fs ts : Numbers) (c : Cond) (m : Machine) →
    (run (transition_test n fs c) m).memory ≡ marking (transition n fs ts c) m.memory
test_run n fs ts c m =
    let tested : Machine = load (all_active (map (λ n. n.value) (items fs)) m.memory) m in
    let last : List Instruction = Store n.value ∷ [] in
    ap (λ (k : Machine). k.memory)
    (run_append (step_tests (items fs)) (enclosed AndOpen (words c) ++ last) m
    ∙ ap (run (enclosed AndOpen (words c) ++ last)) (steps_run (items fs) m (items_some fs))
    ∙ run_append (enclosed AndOpen (words c)) last tested
    ∙ ap (run last) (and_bracket (holds c (situation_in m.memory)) (words c) tested (condition_run c (machine.step AndOpen tested))))

test_line : (l : Tree) (m : Machine) → (run (guard_words l) m).memory ≡ on_line marking l m.memory
test_line (trans n fs ts c us) m = test_run n fs ts c m
test_line _ m = refl

-- T after the tests
abbrev pub marks : List Transition → Situation → ℕ → ℕ
marks [] s w = w
marks (t ∷ ts) s w = marks ts s (written (clearable t s) t.number w)

through_marking : (ts : List Transition) (x : Memory) →
    through marking ts x ≡ with_cleared (marks ts (situation_in x) x.cleared) x
through_marking [] x = refl
through_marking (t ∷ ts) x = through_marking ts (marking t x)

pub tests_run : (ls : List Tree) (m : Machine) →
    (run (each guard_words ls) m).memory ≡ with_cleared (marks (transitions_in ls) (situation_in m.memory) m.memory.cleared) m.memory
tests_run ls m = lines_run guard_words marking test_line ls m ∙ through_marking (transitions_in ls) m.memory

-- ---- the bits of T
bit_written : (r : Bool) (m n w : ℕ) → m < 64 → bit m (written r n w) ≡ cond (eqb m n) r (bit m w)
bit_written true m n w h = bit_on m w n h ∙ grind arith
bit_written false m n w h = bit_off m w n h ∙ grind arith

written_fits : (r : Bool) (n w : ℕ) → w < 2 ^ 64 → written r n w < 2 ^ 64
written_fits true n w h = on_fits w n h
written_fits false n w h = off_fits w n h

marks_fit : (ts : List Transition) (s : Situation) (w : ℕ) → w < 2 ^ 64 → marks ts s w < 2 ^ 64
marks_fit [] s w h = h
marks_fit (t ∷ ts) s w h = marks_fit ts s _ (written_fits (clearable t s) t.number w h)

abbrev has_number : ℕ → List Transition → Bool
has_number n ts = list_any (λ t. eqb n t.number) ts

-- a transition is clearable; one with number n is
abbrev pub any_clearable : List Transition → Situation → Bool
any_clearable ts s = list_any (λ t. clearable t s) ts

abbrev pub clearable_at : List Transition → Situation → ℕ → Bool
clearable_at ts s n = list_any (λ t. n == t.number && clearable t s) ts

not_numbered : (n : ℕ) (ts : List Transition) (s : Situation) → has_number n ts ≡ false → clearable_at ts s n ≡ false
not_numbered n [] s h = refl
not_numbered n (t ∷ ts) s h =
    let p = or_parts (eqb n t.number) (has_number n ts) h in
    let i = not_numbered n ts s p.1 in
    grind (arith, p.0, i)

-- k: the first transition has the number; y: one of the others has; c, d: the first is clearable, or one of the others that has
mark_bools : (k y c w d : Bool) → (k ≡ true → y ≡ false) → (y ≡ false → d ≡ false) →
    cond y d (cond k c w) ≡ cond (k || y) ((k && c) || d) w
mark_bools true true c w d h g = absurd (true≢false (h refl))
mark_bools true false c w d h g = let z = g refl in grind (arith, z)
mark_bools false y c w d h g = refl

bit_marks : (ts : List Transition) (s : Situation) (n w : ℕ) → n < 64 → apart ts ≡ true →
    bit n (marks ts s w) ≡ cond (has_number n ts) (clearable_at ts s n) (bit n w)
bit_marks [] s n w hn ha = refl
bit_marks (t ∷ ts) s n w hn ha =
    let a = and_parts (not (has_number t.number ts)) (apart ts) ha in
    let new = not-true (has_number t.number ts) a.0 in
    bit_marks ts s n (written (clearable t s) t.number w) hn a.1
    ∙ ap (λ x. cond (has_number n ts) (clearable_at ts s n) x) (bit_written (clearable t s) n t.number w hn)
    ∙ mark_bools (eqb n t.number) (has_number n ts) (clearable t s) (bit n w) (clearable_at ts s n)
    (λ k. ap (λ x. has_number x ts) (eqb-true n t.number k) ∙ new)
    (not_numbered n ts s)

-- each transition's own bit says whether it was clearable
own_bit : (t : Transition) (ts : List Transition) (s : Situation) (w : ℕ) → Numbered (t ∷ ts) →
    bit t.number (marks (t ∷ ts) s w) ≡ clearable t s
own_bit t ts s w k =
    let a = and_parts (not (has_number t.number ts)) (apart ts) k.apart in
    let l = ltb-true t.number 64 (and_parts (ltb t.number 64) (list_all (λ t. ltb t.number 64) ts) k.small).0 in
    let v : ℕ = written (clearable t s) t.number w in
    bit_marks ts s t.number v l a.1
    ∙ ap (λ b. cond b (clearable_at ts s t.number) (bit t.number v)) (not-true (has_number t.number ts) a.0)
    ∙ bit_written (clearable t s) t.number t.number w l
    ∙ ap (λ b. cond b (clearable t s) (bit t.number w)) (eq-eqb t.number t.number refl)

numbered_rest : (t : Transition) (ts : List Transition) → Numbered (t ∷ ts) → Numbered ts
numbered_rest t ts k = record {
  small = (and_parts (ltb t.number 64) (list_all (λ t. ltb t.number 64) ts) k.small).1;
  apart = (and_parts (not (has_number t.number ts)) (apart ts) k.apart).1;
}

pub marked : (r : Transition → Bool) (ts : List Transition) (s : Situation) (w : ℕ) → Numbered ts →
    list_any (λ t. bit t.number (marks ts s w) && r t) ts ≡ list_any (λ t. clearable t s && r t) ts
marked r [] s w k = refl
marked r (t ∷ ts) s w k =
    ap₂ (λ a b. (a && r t) || b) (own_bit t ts s w k) (marked r ts s (written (clearable t s) t.number w) (numbered_rest t ts k))

-- the frame whose bit n is on exactly if a transition with number n is clearable
abbrev pub cleared_frame : List Transition → Situation → ℕ
cleared_frame ts s = pack 64 (clearable_at ts s)

unmarked : (y d : Bool) → (y ≡ false → d ≡ false) → cond y d false ≡ d
unmarked true d h = refl
unmarked false d h = sym (h refl)

pub marks_frame : (ts : List Transition) (s : Situation) → apart ts ≡ true → marks ts s 0 ≡ cleared_frame ts s
marks_frame ts s a =
    packs 64 (marks ts s 0) (clearable_at ts s) (marks_fit ts s 0 (omega arith))
    (λ n l.
    bit_marks ts s n 0 l a
    ∙ ap (λ b. cond (has_number n ts) (clearable_at ts s n) b) (bit_nought n)
    ∙ unmarked (has_number n ts) (clearable_at ts s n) (not_numbered n ts s))
