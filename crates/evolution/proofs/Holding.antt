-- The output frame, by the words of a program and by its chart. Assumes nothing.
use Rattle.std.proofs.Common.{◌≡◌, ℕ, ◌^◌, ◌<◌, Bool, cond, ◌&&◌, ◌||◌, eqb, List, [], ◌∷◌, bit_or, sym, refl, ap, ◌∙◌, arith}
use lib.Bits.{or_lt}
use Rattle.std.specs.List.{list_any}
use Rattle.std.proofs.Math.Bool.{or_assoc, or-false}
use Rattle.codefile.specs.declared.program.Program.{Program}
use Rattle.frames.specs.Bits.{bit, on}
use Rattle.frames.specs.Edges.{no_edges}
use Rattle.frames.proofs.BitLaws.{bit_nought, bit_or_lem, packs}
use Rattle.lines.specs.Grammar.{Tree, hold}
use Rattle.translation.specs.Translation.{hold_part}
use Rattle.machine.specs.Machine.{Machine, begin, with_held, run, after}
use Rattle.evolution.specs.declared.state.State.{State}
use Rattle.evolution.specs.Chart.{Chart, Holding, holdings_in, chart_of_lines}
use Rattle.evolution.specs.Rules as rules
use Rattle.evolution.specs.Words.{showing, frame_in, output_frame}
use Rattle.evolution.specs.Agreement.{CompiledFrom}
use Rattle.lines.specs.declared.shape.Action.TheVariants.{Set}
use Rattle.evolution.proofs.Lawful.{chart_instructions}
use Rattle.evolution.proofs.Switching.{bit_acted_if, acted_fits}

-- H after the hold lines, by the active steps
abbrev held_by : List Holding → ℕ → ℕ → ℕ
held_by [] x w = w
held_by (h ∷ hs) x w = held_by hs x (cond (bit h.step x) (on w h.output) w)

holds_run : (ls : List Tree) (m : Machine) →
    (run (hold_part ls) m).memory ≡ with_held (held_by (holdings_in ls) m.memory.active m.memory.held) m.memory
holds_run [] m = refl
holds_run (hold n q ∷ ls) m = holds_run ls _
holds_run (_ ∷ ls) m = holds_run ls m

-- an active step holds this output
abbrev held_on : ℕ → ℕ → Holding → Bool
held_on x q h = bit h.step x && eqb q h.output

bit_held : (hs : List Holding) (x n w : ℕ) → n < 64 → bit n (held_by hs x w) ≡ (bit n w || list_any (held_on x n) hs)
bit_held [] x n w l = sym (or-false (bit n w))
bit_held (h ∷ hs) x n w l =
    bit_held hs x n (cond (bit h.step x) (on w h.output) w) l
    ∙ ap (λ b. b || list_any (held_on x n) hs) (bit_acted_if Set (bit h.step x) n h.output w l)
    ∙ or_assoc (bit n w) (held_on x n h) (list_any (held_on x n) hs)

held_fits : (hs : List Holding) (x w : ℕ) → w < 2 ^ 64 → held_by hs x w < 2 ^ 64
held_fits [] x w f = f
held_fits (h ∷ hs) x w f = held_fits hs x _ (acted_fits Set (bit h.step x) h.output w f)

-- Q and H together
frame_as : (ls : List Tree) (s : State) → s.stored < 2 ^ 64 →
    bit_or s.stored (held_by (holdings_in ls) s.active 0) ≡ rules.output_frame (chart_of_lines ls) s
unfolding rules.output_frame
frame_as ls s f =
    let h = held_by (holdings_in ls) s.active 0 in
    packs 64 (bit_or s.stored h) (rules.output_on (chart_of_lines ls) s)
    (or_lt 64 s.stored h f (held_fits (holdings_in ls) s.active 0 (omega arith)))
    (λ n l.
    bit_or_lem n s.stored h
    ∙ ap (λ b. bit n s.stored || b)
    (bit_held (holdings_in ls) s.active n 0 l ∙ ap (λ b. b || list_any (held_on s.active n) (holdings_in ls)) (bit_nought n)))

-- the frame that the words give
frame_run : (ls : List Tree) (inputs : ℕ) (s : State) →
    frame_in (run (hold_part ls) (begin (showing inputs no_edges s))).memory ≡ bit_or s.stored (held_by (holdings_in ls) s.active 0)
frame_run ls inputs s = ap frame_in (holds_run ls (begin (showing inputs no_edges s)))

pub outputs_as : (c : Chart) (p : Program) (inputs : ℕ) (s : State) → CompiledFrom c p → s.stored < 2 ^ 64 →
    output_frame p inputs s ≡ rules.output_frame c s
unfolding after
outputs_as c p inputs s k f =
    ap (λ is. frame_in (run is (begin (showing inputs no_edges s))).memory) (chart_instructions c p k).hold
    ∙ frame_run k.made.lines inputs s
    ∙ frame_as k.made.lines s f
    ∙ ap (λ (d : Chart). rules.output_frame d s) (sym k.chart)
