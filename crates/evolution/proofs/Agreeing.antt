-- A program's words and its chart's rules give the same evolution. Assumes nothing.
use Rattle.std.proofs.Common.{◌≡◌, ℕ, ◌<◌, ◌^◌, Bool, true, false, ◌==◌, if◌then◌else◌, Some, None, is_none, sym, refl, ap, ap₂, ◌∙◌, subst}
use Rattle.frames.specs.Edges.{no_edges}
use Rattle.frames.proofs.BitLaws.{pack_fits}
use Rattle.frames.specs.declared.edges.Edges.{Edges}
use Rattle.codefile.specs.declared.program.Program.{Program}
use Rattle.machine.specs.declared.memory.Memory.{Memory}
use Rattle.machine.specs.Machine.{begin, run, after}
use Rattle.evolution.specs.declared.state.State.{State}
use Rattle.evolution.specs.Chart.{Chart}
use Rattle.evolution.specs.Rules.{situation, active_after, evolved, at_rest}
use Rattle.evolution.specs.Rules as rules
use Rattle.evolution.specs.Words.{showing, prepared, ran, reached, kept}
use Rattle.evolution.specs.Words as words
use Rattle.evolution.specs.Agreement.{CompiledFrom}
use Rattle.evolution.proofs.Numbered.{Numbered}
use Rattle.evolution.proofs.Lawful.{chart_instructions, numbered}
use Rattle.evolution.proofs.Evolving.{evolved_memory, parts_evolve, evolved_stays, empty_at_rest}

-- the memory after an evolution
pub ran_as : (c : Chart) (p : Program) (inputs : ℕ) (edges : Edges) (s : State) → CompiledFrom c p →
    s.active < 2 ^ 64 → ran p inputs edges s ≡ evolved_memory c inputs edges s
unfolding ran after
ran_as c p inputs edges s k h =
    let i = chart_instructions c p k in
    let x : Memory = prepared (showing inputs edges s) in
    ap₂ (λ clear enter. (run enter (begin (run clear (begin x)).memory)).memory) i.clear i.enter
    ∙ parts_evolve k.made.lines inputs edges s (subst (λ (d : Chart). Numbered d.transitions) k.chart (numbered c p k)) h
    ∙ ap (λ (d : Chart). evolved_memory d inputs edges s) (sym k.chart)

-- T is empty where the chart is at rest
pub cleared_as : (c : Chart) (p : Program) (inputs : ℕ) (edges : Edges) (s : State) → CompiledFrom c p →
    s.active < 2 ^ 64 → ((ran p inputs edges s).cleared == 0) ≡ at_rest c inputs edges s
cleared_as c p inputs edges s k h =
    ap (λ (m : Memory). m.cleared == 0) (ran_as c p inputs edges s k h) ∙ empty_at_rest c inputs edges s (numbered c p k)

-- the state that is reached, if the chart is not at rest
pub reached_as : (c : Chart) (p : Program) (inputs : ℕ) (edges : Edges) (s : State) → CompiledFrom c p →
    s.active < 2 ^ 64 →
    reached (ran p inputs edges s) ≡ (if at_rest c inputs edges s then None else Some (evolved c inputs edges s))
reached_as c p inputs edges s k h =
    ap reached (ran_as c p inputs edges s k h)
    ∙ ap (λ (b : Bool). if b then None else Some (evolved c inputs edges s)) (empty_at_rest c inputs edges s (numbered c p k))

none_of : (b : Bool) (t : State) → is_none (if b then None else Some t) ≡ b
none_of true t = refl
none_of false t = refl

-- none is reached exactly if the chart is at rest
pub none_as : (c : Chart) (p : Program) (inputs : ℕ) (edges : Edges) (s : State) → CompiledFrom c p →
    s.active < 2 ^ 64 → is_none (reached (ran p inputs edges s)) ≡ at_rest c inputs edges s
none_as c p inputs edges s k h =
    ap is_none (reached_as c p inputs edges s k h) ∙ none_of (at_rest c inputs edges s) (evolved c inputs edges s)

kept_of : (b : Bool) (s t : State) → (b ≡ true → t ≡ s) → kept s (if b then None else Some t) ≡ t
kept_of true s t h = sym (h refl)
kept_of false s t h = refl

-- the state after an evolution is the chart's
pub evolved_as : (c : Chart) (p : Program) (inputs : ℕ) (edges : Edges) (s : State) → CompiledFrom c p →
    s.active < 2 ^ 64 → words.evolved p inputs edges s ≡ evolved c inputs edges s
evolved_as c p inputs edges s k h =
    ap (kept s) (reached_as c p inputs edges s k h)
    ∙ kept_of (at_rest c inputs edges s) s (evolved c inputs edges s) (evolved_stays c inputs edges s h)

-- what is stable by the words is stable by the rules
pub stable_as : (c : Chart) (p : Program) (inputs : ℕ) (s : State) → CompiledFrom c p → s.active < 2 ^ 64 →
    words.stable p inputs s ≡ rules.stable c inputs s
stable_as c p inputs s k h = cleared_as c p inputs no_edges s k h

-- the steps are a frame
pub evolved_fits : (c : Chart) (inputs : ℕ) (edges : Edges) (s : State) → (evolved c inputs edges s).active < 2 ^ 64
unfolding evolved
evolved_fits c inputs edges s = pack_fits 64 (active_after c.transitions (situation inputs edges s))
