-- The checks of a chart: the first of the faults 7 to 11 that its lines have. Assumes nothing.
use Rattle.std.specs.Prelude.{ℕ, Bool, false, cond, ◌&&◌, ◌||◌, List, [], ◌∷◌, ◌++◌, map, Some, None, Ok, Err, Option}
use Rattle.std.specs.Prelude.{Result, ◌==◌, nat_lt}
use Rattle.faults.specs.declared.TextFault.{TextFault}
use Rattle.faults.specs.declared.ChartFault.{ChartFault}
use Rattle.faults.specs.declared.ChartFault.TheVariants.{Text, DeclaredTwice, UndeclaredStep, ListedTwice, HeldTwice}
use Rattle.faults.specs.declared.ChartFault.TheVariants.{NoInitialStep}
use Rattle.faults.specs.Numbers.{chart_number, chart_place}
use Rattle.lines.specs.declared.shape.Number.{Number}
use Rattle.lines.specs.Grammar.{Tree}
use Rattle.chart.specs.Said.{Holding, steps_of, transitions_of, uses_of, lists_of, holdings_of, is_initial, all}

-- ---- repetitions
abbrev pub same_number : Number → Number → Bool
same_number m n = m.value == n.value

abbrev pub same_holding : Holding → Holding → Bool
same_holding g h = g.step == h.step && g.output == h.output

-- whether one of the entries is the same as x
abbrev pub has : {A : Type 0} → (A → A → Bool) → A → List A → Bool
has same x [] = false
has same x (y ∷ ys) = same x y || has same x ys

-- the entries that are the same as one before them
abbrev pub repeated : {A : Type 0} → (A → A → Bool) → List A → List A → List A
repeated same before [] = []
repeated same before (x ∷ xs) = cond (has same x before) (x ∷ []) [] ++ repeated same (x ∷ before) xs

-- ---- the faults of a line
abbrev pub declared_twice : Number → ChartFault
declared_twice n = DeclaredTwice n.place

abbrev pub undeclared_step : Number → ChartFault
undeclared_step n = UndeclaredStep n.place

abbrev pub listed_twice : Number → ChartFault
listed_twice n = ListedTwice n.place

abbrev pub held_twice : Holding → ChartFault
held_twice h = HeldTwice h.place

-- 7: a number that is declared before
abbrev pub declarations : List Number → List Number → List ChartFault
declarations before ns = map declared_twice (repeated same_number before ns)

-- the steps that are not declared
abbrev pub undeclared : List Number → List Number → List Number
undeclared declared [] = []
undeclared declared (n ∷ ns) = cond (has same_number n declared) [] (n ∷ []) ++ undeclared declared ns

-- 8: a step that is not declared
abbrev pub uses : List Number → List Number → List ChartFault
uses declared ns = map undeclared_step (undeclared declared ns)

-- 9: a number that its list has before
abbrev pub listings : List Number → List Number → List ChartFault
listings before ns = map listed_twice (repeated same_number before ns)

abbrev pub repetitions : List Number → List ChartFault
repetitions ns = listings [] ns

abbrev pub lists : List (List Number) → List ChartFault
lists [] = []
lists (ns ∷ nss) = repetitions ns ++ lists nss

-- 10: an output that its step holds before
abbrev pub holdings : List Holding → List Holding → List ChartFault
holdings before hs = map held_twice (repeated same_holding before hs)

-- the faults of a line behind the lines `before`
abbrev pub faults_in : List Number → List Tree → Tree → List ChartFault
faults_in declared before t =
    declarations (all steps_of before) (steps_of t) ++
    (declarations (all transitions_of before) (transitions_of t) ++
    (uses declared (uses_of t) ++
    (lists (lists_of t) ++
    holdings (all holdings_of before) (holdings_of t))))

-- the faults of all lines; the lines before them are given last one first
abbrev pub chart_faults : List Number → List Tree → List Tree → List ChartFault
chart_faults declared before [] = []
chart_faults declared before (t ∷ ts) = faults_in declared before t ++ chart_faults declared (t ∷ before) ts

-- ---- the first fault: by place, and on a tie by number
abbrev pub precedes : ChartFault → ChartFault → Bool
precedes f g =
    nat_lt (chart_place f) (chart_place g) ||
    (chart_place f == chart_place g && nat_lt (chart_number f) (chart_number g))

abbrev pub keep : Option ChartFault → ChartFault → Option ChartFault
keep None f = Some f
keep (Some g) f = Some (cond (precedes f g) f g)

-- the first of the fault that is kept and of more faults
abbrev pub noted : Option ChartFault → List ChartFault → Option ChartFault
noted kept [] = kept
noted kept (f ∷ fs) = noted (keep kept f) fs

abbrev pub first_of : List ChartFault → Option ChartFault
first_of fs = noted None fs

-- ---- the whole text, which ends at the place e
abbrev pub has_initial : List Tree → Bool
has_initial [] = false
has_initial (t ∷ ts) = is_initial t || has_initial ts

-- by the first of 7 to 10, if any, and by whether a step is initial
abbrev pub judged : Option ChartFault → Bool → ℕ → Result (Unit {0}) ChartFault
judged (Some f) initial e = Err f
judged None initial e = cond initial (Ok tt) (Err (NoInitialStep e))

abbrev pub chart_of : List Tree → ℕ → Result (Unit {0}) ChartFault
chart_of ls e = judged (first_of (chart_faults (all steps_of ls) [] ls)) (has_initial ls) e

-- what is made of the lines of a text; a text that is not read keeps its fault
abbrev pub on_lines : {A : Type 0} → (List Tree → A) → Result (List Tree) TextFault → Result A TextFault
on_lines f (Ok ls) = Ok (f ls)
on_lines f (Err e) = Err e

abbrev pub checked : Result (List Tree) TextFault → ℕ → Result (Unit {0}) ChartFault
checked (Ok ls) e = chart_of ls e
checked (Err f) e = Err (Text f)
