-- The two passes over the lines of a text. Assumes nothing.
use Rattle.std.proofs.Common.{◌≡◌, ℕ, Bool, ◌||◌, eqb, List, [], ◌∷◌, ◌++◌, Ok, Err, Option, Result, sym, refl, ap, ◌∙◌, subst, arith}
use Rattle.faults.specs.declared.TextFault.{TextFault}
use Rattle.faults.specs.declared.ChartFault.{ChartFault}
use Rattle.lines.specs.declared.shape.Number.{Number}
use Rattle.lines.specs.Grammar.{Tree}
use Rattle.lines.specs.Text.{put}
use Rattle.chart.specs.Said.{steps_of, is_initial, all}
use Rattle.chart.specs.Checks.{has, same_number, noted, faults_in, chart_faults, has_initial, first_of, judged, checked, on_lines}
use Rattle.chart.specs.declared.set.NumberSet.{NumberSet}
use Rattle.chart.specs.Numbers.{member}
use Rattle.chart.specs.Sets.{Knows}
use Rattle.chart.specs.First.{FirstFault}
use Rattle.chart.specs.Seen.{Declared}
use Rattle.chart.proofs.Least.{noted_append}
use Rattle.chart.proofs.FirstFaults.{checked_law}

-- ---- the first pass: one line more at the end
has_append : (m : Number) (ns ms : List Number) → has same_number m (ns ++ ms) ≡ (has same_number m ns || has same_number m ms)
has_append m [] ms = refl
has_append m (n ∷ ns) ms = rw (has_append m ns ms) (grind arith)

pub has_push : (m : Number) (ls : List Tree) (t : Tree) → has same_number m (all steps_of (ls ++ t ∷ [])) ≡ (has same_number m (steps_of t) || has same_number m (all steps_of ls))
has_push m [] t = has_append m (steps_of t) []
has_push m (l ∷ ls) t =
    rw (has_append m (steps_of l) (all steps_of (ls ++ t ∷ [])), has_append m (steps_of l) (all steps_of ls), has_push m ls t) (grind arith)

pub initial_push : (ls : List Tree) (t : Tree) → has_initial (ls ++ t ∷ []) ≡ (has_initial ls || is_initial t)
initial_push [] t = grind arith
initial_push (l ∷ ls) t = rw (initial_push ls t) (grind arith)

-- some numbers have the values of a set
some_values : (vs : List ℕ) → (ns : List Number) × ((n : Number) → member n.value vs ≡ has same_number n ns)
some_values [] = ([], λ n. refl)
some_values (v ∷ vs) =
    let rest = some_values vs in
    (record { value = v; place = 0 } ∷ rest.0, λ n. ap (λ b. eqb n.value v || b) (rest.1 n))

pub knows_some : (set : NumberSet) → (ns : List Number) × Knows set ns
knows_some set = some_values set.numbers

-- ---- the second pass: what is left, behind the lines before, gives the whole
abbrev pub faults_from : List Number → List Tree → Option ChartFault → List Tree → Option ChartFault
faults_from ns before first ls = noted first (chart_faults ns before ls)

on_put : {A : Type 0} (f g : List Tree → A) (t : Tree) (r : Result (List Tree) TextFault) → ((ls : List Tree) → f (t ∷ ls) ≡ g ls) → on_lines f (put t r) ≡ on_lines g r
on_put f g t (Ok ls) h = ap (λ x. Ok x) (h ls)
on_put f g t (Err e) h = refl

pub fault_more : (ns : List Number) (before : List Tree) (t : Tree) (first last : Option ChartFault) (rest after : Result (List Tree) TextFault) (whole : Result (Option ChartFault) TextFault) → rest ≡ put t after → last ≡ noted first (faults_in ns before t) → on_lines (faults_from ns before first) rest ≡ whole → on_lines (faults_from ns (t ∷ before) last) after ≡ whole
fault_more ns before t first last rest after whole is n h =
    sym (on_put (faults_from ns before first) (faults_from ns (t ∷ before) last) t after (λ ls. noted_append first (faults_in ns before t) (chart_faults ns (t ∷ before) ls) ∙ ap (λ k. noted k (chart_faults ns (t ∷ before) ls)) (sym n))) ∙
    (ap (on_lines (faults_from ns before first)) (sym is) ∙ h)

-- ---- the answer of both passes
abbrev pub faults_by : List Number → List Tree → Option ChartFault
faults_by ns ls = first_of (chart_faults ns [] ls)

-- a text that was read once is read again
pub never_fails : (text : Result (List Tree) TextFault) (initial : Bool) (declared : NumberSet) (x : TextFault) (d : Declared text initial declared) → Err x ≡ on_lines (faults_by (all steps_of d.lines)) text → ⊥
never_fails text initial declared x d h =
    let F = faults_by (all steps_of d.lines) in
    let at : ◌≡◌ {A = Result (Option ChartFault) TextFault} (Err x) (Ok (F d.lines)) = h ∙ ap (on_lines F) d.read in
    cc

-- what is answered is what the checks give, and it obeys the law
pub answered : (text : Result (List Tree) TextFault) (initial : Bool) (declared : NumberSet) (e : ℕ) (o : Option ChartFault) (d : Declared text initial declared) → Ok o ≡ on_lines (faults_by (all steps_of d.lines)) text → (r : Result (Unit {0}) ChartFault) → r ≡ judged o initial e → (r ≡ checked text e) × FirstFault text e r
answered text initial declared e o d h r is =
    let F = faults_by (all steps_of d.lines) in
    let at : ◌≡◌ {A = Result (Option ChartFault) TextFault} (Ok o) (Ok (F d.lines)) = h ∙ ap (on_lines F) d.read in
    let same : o ≡ F d.lines = cc in
    let all : r ≡ checked text e = is ∙ (ap (λ x. judged x initial e) same ∙ (ap (λ b. judged (F d.lines) b e) d.one ∙ sym (ap (λ t. checked t e) d.read))) in
    (all, subst (FirstFault text e) (sym all) (checked_law text e))
