-- The states of a scan by a program's words and by a chart's rules. Assumes nothing.
use Rattle.std.proofs.Common.{◌≡◌, ℕ, zero, suc, ◌<◌, ◌≤◌, ◌^◌, true, eqb, refl, ap, ◌∙◌, arith}
use Rattle.std.proofs.lemmas.Bool.{cond-true}
use Rattle.codefile.specs.declared.program.Program.{Program}
use Rattle.frames.specs.declared.edges.Edges.{Edges}
use Rattle.frames.specs.Edges.{no_edges}
use Rattle.evolution.specs.declared.state.State.{State}
use Rattle.evolution.specs.Agreement.{CompiledFrom}
use Rattle.evolution.specs.Chart.{Chart}
use Rattle.evolution.specs.Rules as chart
use Rattle.evolution.specs.Words.{ran, reached, kept}
use Rattle.evolution.specs.Words as words
use Rattle.evolution.proofs.Agreeing.{evolved_as, stable_as, evolved_fits}
use Rattle.evolution.proofs.Evolving.{evolved_stays}
use Rattle.verdict.specs.declared.outcome.Outcome.{Outcome}
use Rattle.verdict.specs.declared.outcome.Verdict.{Verdict}
use Rattle.verdict.specs.declared.outcome.Verdict.TheVariants.{Stable, Circling, Overlong}
use Rattle.verdict.specs.Rules.{by_words, by_chart}
use Rattle.verdict.specs.Scans.{Rules, edges_from, states, settled, Scanned}
use Rattle.verdict.proofs.Judging.{Follows, Alike, verdicts_as}

-- ---- a stable state evolves to itself
follows : (rules : Rules) (edges : Edges) (s : State) → ((n : ℕ) → rules.stable (states rules edges s (suc n)) ≡ true → rules.evolved no_edges (states rules edges s (suc n)) ≡ states rules edges s (suc n)) → Follows rules.stable (states rules edges s)
follows rules edges s rests = record { alike = alike; stays = stays }
  where
    all : ℕ → State
    all = states rules edges s

    alike : (m n : ℕ) → 1 ≤ m → 1 ≤ n → all m ≡ all n → all (suc m) ≡ all (suc n)
    alike zero n l h e = absurd (omega arith)
    alike (suc m) zero l h e = absurd (omega arith)
    alike (suc m) (suc n) l h e = ap (rules.evolved no_edges) e

    stays : (n : ℕ) → 1 ≤ n → rules.stable (all n) ≡ true → all (suc n) ≡ all n
    stays zero l q = absurd (omega arith)
    stays (suc n) l q = rests n q

pub by_program : (p : Program) (inputs : ℕ) (edges : Edges) (s : State) → Follows (words.stable p inputs) (states (by_words p inputs) edges s)
by_program p inputs edges s = follows (by_words p inputs) edges s (λ n q. ap (kept _) (cond-true (eqb (ran p inputs no_edges _).cleared 0) _ _ q))

pub by_rules : (c : Chart) (inputs : ℕ) (edges : Edges) (s : State) → Follows (chart.stable c inputs) (states (by_chart c inputs) edges s)
by_rules c inputs edges s = follows (by_chart c inputs) edges s (λ n q. evolved_stays c inputs no_edges _ (evolved_fits c inputs _ _) q)

-- ---- what the one rules give, others give as well that agree with them on every state that comes up
settled_as : (v : Verdict) (s s′ : ℕ → State) → ((n : ℕ) → s n ≡ s′ n) → settled v s ≡ settled v s′
settled_as (Stable m) s s′ e = e m
settled_as (Circling j k) s s′ e = e 0
settled_as Overlong s s′ e = e 0

pub scanned_as : {rules rules′ : Rules} {edges : Edges} {s : State} {r : Outcome} → Alike rules.stable rules′.stable (states rules edges s) (states rules′ edges s) → Scanned rules edges s r → Scanned rules′ edges s r
scanned_as {r = r} a h = record { verdict = verdicts_as a h.verdict; state = h.state ∙ settled_as r.verdict _ _ a.same }

-- ---- by words and by a chart that the program was compiled from: they agree, since every state that comes up fits
record SameAt (c : Chart) (p : Program) (inputs : ℕ) (edges : Edges) (s : State) (n : ℕ) : Type 0 where
  same : states (by_words p inputs) edges s n ≡ states (by_chart c inputs) edges s n
  stable : words.stable p inputs (states (by_words p inputs) edges s n) ≡ chart.stable c inputs (states (by_chart c inputs) edges s n)
  fits : (states (by_chart c inputs) edges s n).active < 2 ^ 64

same_at : {c : Chart} {p : Program} (inputs : ℕ) (edges : Edges) (s : State) → CompiledFrom c p → s.active < 2 ^ 64 → (n : ℕ) → SameAt c p inputs edges s n
same_at {c} {p} inputs edges s k l zero = record { same = refl; stable = stable_as c p inputs s k l; fits = l }
same_at {c} {p} inputs edges s k l (suc n) =
    let i = same_at inputs edges s k l n in
    let e = edges_from edges n in
    let same = ap (words.evolved p inputs e) i.same ∙ evolved_as c p inputs e _ k i.fits in
    let fits = evolved_fits c inputs e _ in
    record { same = same; stable = ap (words.stable p inputs) same ∙ stable_as c p inputs _ k fits; fits = fits }

pub by_chart_too : (p : Program) (inputs : ℕ) (edges : Edges) (s : State) (r : Outcome) → s.active < 2 ^ 64 → Scanned (by_words p inputs) edges s r → (c : Chart) → CompiledFrom c p → Scanned (by_chart c inputs) edges s r
by_chart_too p inputs edges s r l h c f = scanned_as (record { same = λ n. (same_at inputs edges s f l n).same; rest = λ n. (same_at inputs edges s f l n).stable }) h
