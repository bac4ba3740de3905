-- What the loop of a scan knows, and the scan that each way out of it gives. Assumes nothing.
use Rattle.std.proofs.Common.{◌≡◌, ℕ, zero, suc, ◌+◌, ◌<◌, ◌≤◌, ◌≢◌, true, false, eqb, List, length, get_or, take, set, None, Some, refl, sym, ap, ◌∙◌, subst, ⊎_elim, add-one, arith, get_or-set_same, get_or-set_other}
use Rattle.std.proofs.lemmas.Bool.{cond-true, cases_Bool, cases_lt}
use Rattle.std.proofs.lemmas.List.{get_or-take, length-take}
use Rattle.codefile.specs.declared.program.Program.{Program}
use Rattle.frames.specs.declared.edges.Edges.{Edges}
use Rattle.frames.specs.Edges.{no_edges}
use Rattle.search.specs.Earliest.{Earliest}
use Rattle.machine.specs.declared.memory.Memory.{Memory}
use Rattle.evolution.specs.declared.state.State.{State}
use Rattle.evolution.specs.Words.{ran, reached, kept}
use Rattle.evolution.specs.Words as words
use Rattle.verdict.specs.declared.outcome.Verdict.TheVariants.{Stable, Circling, Overlong}
use Rattle.verdict.specs.Rules.{by_words}
use Rattle.verdict.specs.Scans.{Rules, states, Settled}
use Rattle.verdict.proofs.Judging.{Follows, verdicts}
use Rattle.verdict.proofs.Looping.{Before, before_first, before_next, found_stable, found_circle, found_neither}
use Rattle.verdict.proofs.Scanning.{by_program}

-- ---- s(n) of a scan, and what is known of the states before one; tactics carry both without opening them
unfoldable pub reach : Rules → Edges → State → ℕ → State
reach rules edges s n = states rules edges s n

-- none of s(1) to s(m - 1) is stable, and no two of them are equal; and a stable one would stay
unfoldable pub Fresh : Rules → Edges → State → ℕ → Type 0
Fresh rules edges s m = Follows rules.stable (reach rules edges s) × Before rules.stable (reach rules edges s) m

-- ---- what the loop knows
-- x is s(n + 1), and the list begins with the states before it, which are fresh
pub record Past (rules : Rules) (edges : Edges) (s : State) (n : ℕ) (x : State) (xs : List State) : Type 0 where
  pub fresh : Fresh rules edges s (n + 1)
  pub current : x ≡ reach rules edges s (n + 1)
  pub held : (i : ℕ) (d : State) → i < n → get_or xs i d ≡ reach rules edges s (i + 1)

-- the loop has come past s(1) to s(n), by the words of a program
unfoldable pub Known : Program → ℕ → Edges → State → ℕ → State → List State → Type 0
Known p inputs edges s n x xs = Past (by_words p inputs) edges s n x xs

-- what is in it; the premise stands in the conclusion, as in `ends` below, since tactics find a lemma by its conclusion
pub opens : (p : Program) (inputs : ℕ) (edges : Edges) (s : State) (n : ℕ) (x : State) (xs : List State) → Known p inputs edges s n x xs → Known p inputs edges s n x xs × Past (by_words p inputs) edges s n x xs
unfolding Known
opens p inputs edges s n x xs k = (k, k)

-- before s(1), and from s(n + 1) to s(n + 2)
pub begins : (p : Program) (inputs : ℕ) (edges : Edges) (s x : State) (xs : List State) → x ≡ words.evolved p inputs edges s → Known p inputs edges s 0 x xs
unfolding reach Fresh Known
begins p inputs edges s x xs h = record { fresh = (by_program p inputs edges s, before_first _ _); current = h; held = λ i d l. absurd (omega arith) }

-- T is empty where the evolution gives no state
moved : (m : Memory) (y : State) → Some y ≡ reached m → eqb m.cleared 0 ≡ false
moved m y h = ⊎_elim (λ t. let e = h ∙ cond-true (eqb m.cleared 0) _ _ t in cc) (λ f. f) (cases_Bool (eqb m.cleared 0))

reach_next : (rules : Rules) (edges : Edges) (s : State) (n : ℕ) → rules.evolved no_edges (reach rules edges s (n + 1)) ≡ reach rules edges s (n + 1 + 1)
unfolding reach
reach_next rules edges s n = rw (add-one n, add-one (suc n)) refl

pub goes_on : (p : Program) (inputs : ℕ) (edges : Edges) (s : State) (n : ℕ) (x y : State) (xs : List State) → Known p inputs edges s n x xs → n < length xs → Some y ≡ reached (ran p inputs no_edges x) → Earliest (take n xs) x None → Known p inputs edges s (n + 1) y (set xs n x)
unfolding Fresh Known
goes_on p inputs edges s n x y xs k l h none = record {
  fresh = (k.fresh.0, before_next k.fresh.1 (ap (words.stable p inputs) (sym k.current) ∙ moved (ran p inputs no_edges x) y h) new);
  current = ap (kept x) h ∙ ap (words.evolved p inputs no_edges) k.current ∙ reach_next (by_words p inputs) edges s n;
  held = held;
}
  where
    all : ℕ → State
    all = reach (by_words p inputs) edges s

    new : (i : ℕ) → 1 ≤ i → i < n + 1 → all i ≡ all (n + 1) → ⊥
    new zero low few e = omega arith
    new (suc i) low few e =
        let less : i < n = omega arith in
        none i (omega (arith, length-take n xs)) (get_or-take n xs i x less ∙ k.held i x less ∙ ap all (add-one i) ∙ e ∙ sym k.current)

    held : (i : ℕ) (d : State) → i < n + 1 → get_or (set xs n x) i d ≡ all (i + 1)
    held i d few =
        ⊎_elim
        (λ b. let ne : i ≢ n = omega arith in get_or-set_other xs n i x d ne ∙ k.held i d b)
        (λ b. let e : i ≡ n = omega arith in subst (λ a. get_or (set xs n x) a d ≡ all (a + 1)) (sym e) (get_or-set_same xs n x d l ∙ k.current))
        (cases_lt i n)

-- ---- the ways out
-- where the searched part holds the state
pub held_at : (n : ℕ) (xs : List State) (j : ℕ) (x : State) → j < length (take n xs) → (get_or (take n xs) j x ≡ get_or xs j x) × (j < n)
held_at n xs j x l = let less : j < n = omega (arith, length-take n xs) in (get_or-take n xs j x less, less)

pub stops : (rules : Rules) (edges : Edges) (s : State) (m : ℕ) → Fresh rules edges s m → 1 ≤ m → m ≤ 64 → rules.stable (reach rules edges s m) ≡ true → Settled rules edges s (record { verdict = Stable m; state = reach rules edges s m })
unfolding reach Fresh Settled
stops rules edges s m f low few q = record { verdict = verdicts f.0 (Stable m) (found_stable f.1 low few q); state = refl }

pub repeats : (rules : Rules) (edges : Edges) (s : State) (j k : ℕ) → Fresh rules edges s k → k ≤ 64 → rules.stable (reach rules edges s k) ≡ false → 1 ≤ j → j < k → reach rules edges s j ≡ reach rules edges s k → Settled rules edges s (record { verdict = Circling j k; state = s })
unfolding reach Fresh Settled
repeats rules edges s j k f few q low less e = record { verdict = verdicts f.0 (Circling j k) (found_circle f.0 f.1 few q low less e); state = refl }

pub ends : (rules : Rules) (edges : Edges) (s : State) (m : ℕ) → Fresh rules edges s m → 64 < m → Fresh rules edges s m × Settled rules edges s (record { verdict = Overlong; state = s })
unfolding reach Fresh Settled
ends rules edges s m f l = (f, record { verdict = verdicts f.0 Overlong (found_neither l f.1); state = refl })

-- what the loop's goals follow from
pub ruleset loop_lemmas = (begins, goes_on, opens, held_at, stops, repeats, ends)
