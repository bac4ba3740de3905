-- A controller that a text's file was loaded into. Assumes nothing.
use Rattle.std.proofs.Common.{◌≡◌, ℕ, List, take, Ok, Err, Result, OnOk, sym, ap, ◌∙◌}
use Rattle.faults.specs.declared.Fault.{Fault}
use Rattle.codefile.specs.declared.program.Program.{Program}
use Rattle.compile.specs.Laws.{LoadsAs, ProgramOf}
use Rattle.evolution.specs.Agreement.{CompiledFrom}
use Rattle.evolution.specs.Chart.{Chart, chart_of_lines}
use Rattle.plain.specs.Behaviours.{by_chart}
use Rattle.controller.specs.declared.controller.Controller.{Controller}
use Rattle.controller.specs.Calls.{Loaded}
use Rattle.controller.proofs.Loading.{program_of_file}
use Rattle.running.specs.Texts.{ChartOf, BeginsWith}

-- the program of an accepted text is compiled from its chart
pub compiled_from : (text : List ℕ) (p : Program) (c : Chart) → ProgramOf text p → ChartOf text c → CompiledFrom c p
compiled_from text p c m h =
    let both = sym h.passes ∙ m.passes in
    let same : h.lines ≡ m.lines = cc in
    record { text = text; made = m; chart = h.chart ∙ ap chart_of_lines same }

begins_with : (text file : List ℕ) (n : ℕ) (c : Controller) → LoadsAs text n file → Loaded (take n file) c → ((a : Chart) → CompiledFrom a c.program → c.state ≡ (by_chart a).begins) → BeginsWith text c
begins_with text file n c l k b =
    let program = program_of_file text (take n file) c l k.program in record {
      program = program;
      phase = k.phase;
      previous = k.previous;
      state = λ a h. b a (compiled_from text c.program a program h);
    }

pub loaded_text : (text file : List ℕ) (n : ℕ) (c : Controller) → LoadsAs text n file → (r : Result (Unit {0}) Fault) → OnOk r (Loaded (take n file) c) → ((a : Chart) → CompiledFrom a c.program → OnOk r (c.state ≡ (by_chart a).begins)) → OnOk r (BeginsWith text c)
loaded_text text file n c l (Ok u) k b = begins_with text file n c l k b
loaded_text text file n c l (Err f) k b = tt
