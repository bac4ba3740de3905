-- What is known of the program and the chart of a text: the instructions of its lines, and that no two transitions have
-- the same number. Assumes nothing.
use Rattle.std.proofs.Common.{◌≡◌, ℕ, suc, ◌<◌, Bool, true, false, not, ◌&&◌, ◌||◌, eqb, ltb, List, [], ◌∷◌, map, length, get_or, Ok, Err, Result, sym, refl, ap, ◌∙◌, subst, inr, arith}
use Rattle.std.specs.List.{list_any, list_all}
use Rattle.std.proofs.lemmas.Bool.{and_from, or_from, not_from_false, false_from_ne_true, eqb-true, lt-ltb}
use Rattle.faults.specs.declared.TextFault.{TextFault}
use Rattle.faults.specs.declared.ChartFault.{ChartFault}
use Rattle.faults.specs.declared.ChartFault.TheVariants.{DeclaredTwice}
use Rattle.words.specs.declared.instruction.Part.{Part}
use Rattle.words.specs.declared.instruction.Part.TheVariants.{Clear, Enter, Hold}
use Rattle.words.specs.declared.instruction.Instruction.{Instruction}
use Rattle.words.specs.Words.{word_of, instruction_of}
use Rattle.codefile.specs.declared.program.Program.{Program}
use Rattle.codefile.specs.Loads.{code_in, words_in}
use Rattle.lines.specs.declared.shape.Number.{Number}
use Rattle.lines.specs.Grammar.{Tree, trans}
use Rattle.chart.specs.Said.{transitions_of, all}
use Rattle.chart.specs.Checks.{chart_of, same_number, has}
use Rattle.chart.specs.First.{NumberTwice, Faultless, First}
use Rattle.chart.proofs.FirstFaults.{chart_law}
use Rattle.translation.specs.Translation.{clear_part, enter_part, hold_part}
use Rattle.translation.specs.Soundness.{AllFit, Sound}
use Rattle.translation.proofs.PartLaws.{parts_sound}
use Rattle.compile.specs.Compiled.{lines_of, passed, chart_in, program_of}
use Rattle.compile.proofs.Compiling.{lines_fit}
use Rattle.machine.specs.Machine.{instructions}
use Rattle.evolution.specs.Chart.{Chart, transitions_in}
use Rattle.evolution.specs.Agreement.{CompiledFrom}
use Rattle.evolution.proofs.Numbered.{apart, Numbered}

-- ---- the instructions
-- the words of each part are decoded to the part of the lines
pub record ChartInstructions (p : Program) (ls : List Tree) : Type 0 where
  pub clear : instructions Clear p ≡ clear_part ls
  pub enter : instructions Enter p ≡ enter_part ls
  pub hold : instructions Hold p ≡ hold_part ls

-- what is decoded of a program that has the words of the lines
decoded :
    (part : Part) (p : Program) (ls : List Tree) (is : List Instruction) →
    code_in p ≡ program_of ls → words_in part (program_of ls) ≡ map word_of is → Sound part is → instructions part p ≡ is
decoded part p ls is code words s =
    ap (λ c. map instruction_of (words_in part c)) code ∙ ap (map instruction_of) words ∙ s.back

pub lines_of_chart : (c : Chart) (p : Program) (k : CompiledFrom c p) → AllFit k.made.lines
lines_of_chart c p k = lines_fit k.text k.made.lines k.made.passes

pub chart_instructions : (c : Chart) (p : Program) (k : CompiledFrom c p) → ChartInstructions p k.made.lines
chart_instructions c p k =
    let s = parts_sound k.made.lines (lines_of_chart c p k) in record {
      clear = decoded Clear p k.made.lines (clear_part k.made.lines) k.made.code refl s.clear;
      enter = decoded Enter p k.made.lines (enter_part k.made.lines) k.made.code refl s.enter;
      hold = decoded Hold p k.made.lines (hold_part k.made.lines) k.made.code refl s.hold;
    }

-- ---- no fault
-- lines that pass are without fault
checked : (ks ls : List Tree) (e : ℕ) (r : Result (Unit {0}) ChartFault) → First ks e r → passed ks r ≡ Ok ls → Faultless ls
checked ks ls e (Ok u) f h = let z : ks ≡ ls = cc in subst Faultless z f.0
checked ks ls e (Err g) f h = let z : ◌≡◌ {A = ℕ} 0 1 = cc in absurd (omega arith)

no_fault : (r : Result (List Tree) TextFault) (e : ℕ) (ls : List Tree) → chart_in r e ≡ Ok ls → Faultless ls
no_fault (Ok ks) e ls h = checked ks ls e (chart_of ks e) (chart_law ks e) h
no_fault (Err g) e ls h = let z : ◌≡◌ {A = ℕ} 0 1 = cc in absurd (omega arith)

pub faultless : (c : Chart) (p : Program) (k : CompiledFrom c p) → Faultless k.made.lines
faultless c p k = no_fault (lines_of k.text) (length k.text) k.made.lines k.made.passes

-- ---- numbers that stand once
-- that one of the numbers, at this place, is m
abbrev At : List Number → ℕ → ℕ → ℕ → Type 0
At ns m i place = (i < length ns) × ((d : Number) → (get_or ns i d).value ≡ m) × ((d : Number) → place ≡ (get_or ns i d).place)

none_same : (m : Number) (ns : List Number) → ((i place : ℕ) → At ns m.value i place → ⊥) → has same_number m ns ≡ false
none_same m [] absent = refl
none_same m (n ∷ ns) absent =
    or_from (same_number m n) (has same_number m ns)
    (false_from_ne_true (same_number m n)
    (λ e. absent 0 n.place (omega arith, λ d. sym (eqb-true m.value n.value e), λ d. refl)))
    (none_same m ns (λ i place a. absent (suc i) place (omega (arith, a.0), a.1, a.2)))

abbrev once : List Number → Bool
once [] = true
once (n ∷ ns) = not (has same_number n ns) && once ns

twice_later : (n : Number) (ns : List Number) (place : ℕ) → NumberTwice ns place → NumberTwice (n ∷ ns) place
twice_later n ns place r = record {
  first = suc r.first;
  second = suc r.second;
  order = omega (arith, r.order);
  inside = omega (arith, r.inside);
  same = r.same;
  stands = r.stands;
}

all_once : (ns : List Number) → ((place : ℕ) → NumberTwice ns place → ⊥) → once ns ≡ true
all_once [] absent = refl
all_once (n ∷ ns) absent =
    and_from (not (has same_number n ns)) (once ns)
    (not_from_false (has same_number n ns)
    (none_same n ns (λ i place a. absent place (record {
      first = 0;
      second = suc i;
      order = omega arith;
      inside = omega (arith, a.0);
      same = a.1;
      stands = a.2;
    }))))
    (all_once ns (λ place r. absent place (twice_later n ns place r)))

-- ---- the transitions of lines
same_any : (m : Number) (ls : List Tree) →
    list_any (λ u. eqb m.value u.number) (transitions_in ls) ≡ has same_number m (all transitions_of ls)
same_any m [] = refl
same_any m (trans n fs ts c us ∷ ls) = ap (λ b. eqb m.value n.value || b) (same_any m ls)
same_any m (_ ∷ ls) = same_any m ls

apart_once : (ls : List Tree) → apart (transitions_in ls) ≡ once (all transitions_of ls)
apart_once [] = refl
apart_once (trans n fs ts c us ∷ ls) =
    ap (λ b. not b && apart (transitions_in ls)) (same_any n ls)
    ∙ ap (λ b. not (has same_number n (all transitions_of ls)) && b) (apart_once ls)
apart_once (_ ∷ ls) = apart_once ls

all_small : (ls : List Tree) → AllFit ls → list_all (λ t. ltb t.number 64) (transitions_in ls) ≡ true
all_small [] f = refl
all_small (trans n fs ts c us ∷ ls) f = and_from (ltb n.value 64) _ (lt-ltb n.value 64 (omega (arith, f.0.0))) (all_small ls f.1)
all_small (_ ∷ ls) f = all_small ls f.1

pub numbered : (c : Chart) (p : Program) → CompiledFrom c p → Numbered c.transitions
numbered c p k =
    let is = faultless c p k in
    subst (λ (d : Chart). Numbered d.transitions) (sym k.chart)
    (record {
      small = all_small k.made.lines (lines_of_chart c p k);
      apart = apart_once k.made.lines ∙ all_once (all transitions_of k.made.lines) (λ place r. is (DeclaredTwice place) (inr r));
    })
