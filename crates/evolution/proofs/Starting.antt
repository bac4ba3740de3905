-- The start state, by the words of a program and by its chart. Assumes nothing.
use Rattle.std.proofs.Common.{◌≡◌, ℕ, true, false, cond, not, ◌&&◌, ◌||◌, eqb, List, [], ◌∷◌, sym, refl, ap, ◌∙◌}
use Rattle.std.specs.List.{list_any}
use Rattle.std.proofs.Math.Bool.{and-true}
use Rattle.codefile.specs.declared.program.Program.{Program}
use Rattle.codefile.specs.File.{Code}
use Rattle.codefile.specs.Loads.{code_in}
use Rattle.frames.specs.Bits.{bit, pack}
use Rattle.frames.specs.Edges.{no_edges}
use Rattle.frames.proofs.BitLaws.{bit_nought, bit_pack, pack_fits, packs}
use Rattle.lines.specs.Grammar.{Tree, step}
use Rattle.translation.specs.Translation.{enter_part, makes_initial, initial_frame}
use Rattle.machine.specs.declared.memory.Memory.{Memory}
use Rattle.machine.specs.Machine.{begin, run, after}
use Rattle.evolution.specs.declared.state.State.{State}
use Rattle.evolution.specs.Chart.{Chart, Entry, initials_in, entries_in, chart_of_lines}
use Rattle.evolution.specs.Rules as rules
use Rattle.evolution.specs.Rules.{member, acted, entered, newly_active, initial_steps}
use Rattle.evolution.specs.Words.{showing, state_in, start}
use Rattle.evolution.specs.Agreement.{CompiledFrom}
use Rattle.evolution.proofs.Lawful.{chart_instructions}
use Rattle.evolution.proofs.Running.{enter_run}

-- what is on of the initial steps was not before
entered_first : (es : List Entry) (x q : ℕ) → entered (newly_active 0 x) es q ≡ entered (λ n. bit n x) es q
entered_first [] x q = refl
entered_first (e ∷ es) x q =
    entered_first es x (cond (newly_active 0 x e.step) (acted e.action e.output q) q)
    ∙ ap (λ b. entered (λ n. bit n x) es (cond b (acted e.action e.output q) q))
    (ap (λ b. bit e.step x && not b) (bit_nought e.step) ∙ and-true (bit e.step x))

-- ---- the initial steps
initial_any : (n : ℕ) (ls : List Tree) → list_any (makes_initial n) ls ≡ member n (initials_in ls)
initial_any n [] = refl
initial_any n (step m true ∷ ls) = ap (λ b. eqb n m.value || b) (initial_any n ls)
initial_any n (step m false ∷ ls) = initial_any n ls
initial_any n (_ ∷ ls) = initial_any n ls

-- the frame of the file has the chart's initial steps
pub initial_as : (ls : List Tree) → initial_frame ls ≡ initial_steps (chart_of_lines ls)
unfolding initial_frame initial_steps
initial_as ls =
    let f = λ (n : ℕ). list_any (makes_initial n) ls in
    packs 64 (pack 64 f) (λ n. member n (initials_in ls)) (pack_fits 64 f) (λ n l. bit_pack 64 f n l ∙ initial_any n ls)

-- ---- the start state
-- the memory before the enter part, with these steps initial
abbrev begun : ℕ → Memory
begun initial = showing 0 no_edges (record { active = initial; stored = 0 })

-- the start state of these entries, with these steps initial
abbrev first : List Entry → ℕ → State
first es x = record { active = x; stored = entered (λ n. bit n x) es 0 }

start_run : (ls : List Tree) (x : ℕ) → state_in (run (enter_part ls) (begin (begun x))).memory ≡ first (entries_in ls) x
start_run ls x =
    ap state_in (enter_run ls (begin (begun x)))
    ∙ ap (λ (q : ℕ). let s : State = record { active = x; stored = q } in s) (entered_first (entries_in ls) x 0)

pub start_as : (c : Chart) (p : Program) → CompiledFrom c p → start p ≡ rules.start c
unfolding after rules.start
start_as c p k =
    ap (λ is. state_in (run is (begin (begun (code_in p).initial))).memory) (chart_instructions c p k).enter
    ∙ ap (λ (d : Code). state_in (run (enter_part k.made.lines) (begin (begun d.initial))).memory) k.made.code
    ∙ start_run k.made.lines (initial_frame k.made.lines)
    ∙ ap (first (entries_in k.made.lines)) (initial_as k.made.lines)
    ∙ ap rules.start (sym k.chart)
