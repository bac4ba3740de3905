-- The words of a clear and an enter part make the chart's evolution, and at rest nothing changes. Assumes nothing.
use Rattle.std.proofs.Common.{◌≡◌, ℕ, ◌<◌, ◌^◌, Bool, true, false, cond, not, ◌&&◌, ◌||◌, ◌==◌, List, [], ◌∷◌, ◌++◌, eqb, ltb, refl, sym, ap, ap₂, ◌∙◌, ⊎_elim, arith}
use Rattle.std.specs.List.{list_any, list_all}
use Rattle.std.proofs.lemmas.Bool.{and_parts, or_parts, and_left, ltb-true, eq-eqb, ne_eqb, not-true, cases_Bool, both_ways}
use Rattle.std.proofs.Math.Bool.{or_comm, and-true, and-not_self}
use Rattle.frames.specs.Bits.{bit}
use Rattle.frames.specs.declared.edges.Edges.{Edges}
use Rattle.frames.proofs.BitLaws.{bit_nought, bit_pack, packs}
use Rattle.lines.specs.declared.shape.Action.TheVariants.{Set, Reset}
use Rattle.lines.specs.Grammar.{Tree}
use Rattle.lines.specs.Guards.{guard_words}
use Rattle.translation.specs.Translation.{each, reset_words, set_words, clear_part, enter_part}
use Rattle.machine.specs.declared.memory.Memory.{Memory}
use Rattle.machine.specs.Machine.{Machine, begin, with_cleared, with_state, run}
use Rattle.evolution.specs.declared.state.State.{State}
use Rattle.evolution.specs.Chart.{Chart, Transition, Entry, transitions_in, entries_in, chart_of_lines}
use Rattle.evolution.specs.Rules.{Situation, situation, clearable, member, deactivated, activated, active_after, steps_after, acted, entered, newly_active, evolved, at_rest}
use Rattle.evolution.specs.Words.{showing, prepared}
use Rattle.evolution.proofs.Numbered.{Numbered}
use Rattle.evolution.proofs.Running.{situation_in, run_append, enter_run}
use Rattle.evolution.proofs.Switching.{with_active, switched, bit_switched, switched_fits, preceding, succeeding, resets_run, sets_run}
use Rattle.evolution.proofs.Marking.{marks, marks_frame, marked, any_clearable, clearable_at, cleared_frame, tests_run}

-- ---- the clear part
-- the steps after all resets and then all sets
abbrev all_switched : List Transition → ℕ → ℕ → ℕ
all_switched ts done x = switched Set succeeding done ts (switched Reset preceding done ts x)

-- T has the marks of the tests, and the steps are switched by them; nothing else changes
clear_run : (ls : List Tree) (x : Memory) →
    let done = marks (transitions_in ls) (situation_in x) x.cleared in
    (run (clear_part ls) (begin x)).memory ≡ with_active (all_switched (transitions_in ls) done) (with_cleared done x)
clear_run ls x =
    let ts = transitions_in ls in
    let tested : Machine = run (each guard_words ls) (begin x) in
    let reset : Machine = run (each reset_words ls) tested in
    ap (λ (k : Machine). k.memory) (run_append (each guard_words ls) (each reset_words ls ++ each set_words ls) (begin x))
    ∙ ap (λ (k : Machine). k.memory) (run_append (each reset_words ls) (each set_words ls) tested)
    ∙ sets_run ls reset
    ∙ ap (λ (y : Memory). with_active (switched Set succeeding y.cleared ts) y) (resets_run ls tested)
    ∙ ap (λ (y : Memory). with_active (all_switched ts y.cleared) y) (tests_run ls (begin x))

-- the steps are those of rule 5
switched_steps : (ts : List Transition) (s : Situation) → Numbered ts → s.state.active < 2 ^ 64 →
    all_switched ts (marks ts s 0) s.state.active ≡ steps_after ts s
switched_steps ts s k h =
    packs 64 (all_switched ts done x) (active_after ts s)
    (switched_fits Set succeeding done ts _ (switched_fits Reset preceding done ts x h))
    each_bit
  where
    x : ℕ
    x = s.state.active

    done : ℕ
    done = marks ts s 0

    each_bit : (n : ℕ) → n < 64 → bit n (all_switched ts done x) ≡ active_after ts s n
    each_bit n l =
        bit_switched Set succeeding done n ts (switched Reset preceding done ts x) l
        ∙ ap₂ (λ b a. b || a)
        (bit_switched Reset preceding done n ts x l ∙ ap (λ d. bit n x && not d) (marked (λ t. member n t.preceding) ts s 0 k))
        (marked (λ t. member n t.succeeding) ts s 0 k)
        ∙ or_comm (bit n x && not (deactivated ts s n)) (activated ts s n)

-- ---- the evolution
-- the memory after the clear and the enter part of these lines
abbrev pub ran_lines : List Tree → ℕ → Edges → State → Memory
ran_lines ls inputs edges s =
    (run (enter_part ls) (begin (run (clear_part ls) (begin (prepared (showing inputs edges s)))).memory)).memory

-- the memory with the state after a chart's evolution, the steps before it, and the cleared transitions
abbrev pub evolved_memory : Chart → ℕ → Edges → State → Memory
evolved_memory c inputs edges s =
    record {
      active = (evolved c inputs edges s).active;
      stored = (evolved c inputs edges s).stored;
      before = s.active;
      cleared = cleared_frame c.transitions (situation inputs edges s);
      held = 0;
      inputs = inputs;
      rises = edges.rises;
      falls = edges.falls;
    }

-- the words make the evolution
pub parts_evolve : (ls : List Tree) (inputs : ℕ) (edges : Edges) (s : State) → Numbered (transitions_in ls) →
    s.active < 2 ^ 64 → ran_lines ls inputs edges s ≡ evolved_memory (chart_of_lines ls) inputs edges s
unfolding evolved
parts_evolve ls inputs edges s k h =
    let x : Memory = prepared (showing inputs edges s) in
    let ts = transitions_in ls in
    let sit : Situation = situation inputs edges s in
    enter_run ls (begin (run (clear_part ls) (begin x)).memory)
    ∙ ap (λ (y : Memory). with_state y.active (entered (newly_active y.before y.active) (entries_in ls) y.stored) y) (clear_run ls x)
    ∙ ap₂ (λ (n t : ℕ). with_state n (entered (newly_active s.active n) (entries_in ls) s.stored) (with_cleared t x))
    (switched_steps ts sit k h)
    (marks_frame ts sit k.apart)

-- ---- at rest
none_both : (r : Transition → Bool) (ts : List Transition) (s : Situation) → any_clearable ts s ≡ false →
    list_any (λ t. clearable t s && r t) ts ≡ false
none_both r [] s h = refl
none_both r (t ∷ ts) s h =
    let p = or_parts (clearable t s) (any_clearable ts s) h in
    ap₂ (λ x y. x || y) (and_left (clearable t s) (r t) p.0) (none_both r ts s p.1)

entered_none : (went : ℕ → Bool) → ((n : ℕ) → went n ≡ false) → (es : List Entry) (q : ℕ) → entered went es q ≡ q
entered_none went h [] q = refl
entered_none went h (e ∷ es) q = ap (λ b. entered went es (cond b (acted e.action e.output q) q)) (h e.step) ∙ entered_none went h es q

steps_stay : (ts : List Transition) (s : Situation) → s.state.active < 2 ^ 64 → any_clearable ts s ≡ false →
    steps_after ts s ≡ s.state.active
steps_stay ts s fits h =
    let x = s.state.active in
    let none_up = λ (n : ℕ). none_both (λ t. member n t.succeeding) ts s h in
    let none_down = λ (n : ℕ). none_both (λ t. member n t.preceding) ts s h in
    let same : (n : ℕ) → active_after ts s n ≡ bit n x
    = λ n. ap₂ (λ a d. a || (bit n x && not d)) (none_up n) (none_down n) ∙ and-true (bit n x) in
    sym (packs 64 x (active_after ts s) fits (λ n l. sym (same n)))

abbrev state_at : Chart → State → ℕ → State
state_at c s x = record { active = x; stored = entered (newly_active s.active x) c.entries s.stored }

-- where no transition is clearable, an evolution changes nothing
pub evolved_stays : (c : Chart) (inputs : ℕ) (edges : Edges) (s : State) → s.active < 2 ^ 64 →
    at_rest c inputs edges s ≡ true → evolved c inputs edges s ≡ s
unfolding evolved at_rest
evolved_stays c inputs edges s fits h =
    let sit : Situation = situation inputs edges s in
    ap (state_at c s) (steps_stay c.transitions sit fits (not-true (any_clearable c.transitions sit) h))
    ∙ ap (λ q. record { active = s.active; stored = q })
    (entered_none (newly_active s.active s.active) (λ n. and-not_self (bit n s.active)) c.entries s.stored)

-- ---- T is empty exactly at rest
none_clearable_at : (n : ℕ) (ts : List Transition) (s : Situation) → any_clearable ts s ≡ false →
    clearable_at ts s n ≡ false
none_clearable_at n [] s h = refl
none_clearable_at n (t ∷ ts) s h =
    let p = or_parts (clearable t s) (any_clearable ts s) h in
    let i = none_clearable_at n ts s p.1 in
    grind (arith, p.0, i)

-- where no number below 64 is that of a clearable transition, none is clearable
none_clearable : (ts : List Transition) (s : Situation) → list_all (λ t. ltb t.number 64) ts ≡ true →
    ((n : ℕ) → n < 64 → clearable_at ts s n ≡ false) → any_clearable ts s ≡ false
none_clearable [] s small h = refl
none_clearable (t ∷ ts) s small h =
    let p = and_parts (ltb t.number 64) (list_all (λ t. ltb t.number 64) ts) small in
    let i = none_clearable ts s p.1 (λ n l. (or_parts (eqb n t.number && clearable t s) _ (h n l)).1) in
    let k = (or_parts (eqb t.number t.number && clearable t s) _ (h t.number (ltb-true t.number 64 p.0))).0 in
    let r = eq-eqb t.number t.number refl in
    grind (arith, i, k, r)

cleared_empty : (ts : List Transition) (s : Situation) → any_clearable ts s ≡ false → cleared_frame ts s ≡ 0
cleared_empty ts s h =
    sym (packs 64 0 (clearable_at ts s) (omega arith) (λ n l. bit_nought n ∙ sym (none_clearable_at n ts s h)))

empty_cleared : (ts : List Transition) (s : Situation) → list_all (λ t. ltb t.number 64) ts ≡ true →
    cleared_frame ts s ≡ 0 → any_clearable ts s ≡ false
empty_cleared ts s small z =
    none_clearable ts s small
    (λ n l. sym (bit_pack 64 (clearable_at ts s) n l) ∙ ap (bit n) z ∙ bit_nought n)

pub cleared_none : (ts : List Transition) (s : Situation) → Numbered ts →
    (cleared_frame ts s == 0) ≡ not (any_clearable ts s)
cleared_none ts s k = ⊎_elim some none (cases_Bool (any_clearable ts s))
  where
    some : any_clearable ts s ≡ true → (cleared_frame ts s == 0) ≡ not (any_clearable ts s)
    some h = ne_eqb (cleared_frame ts s) 0 (λ z. both_ways _ (empty_cleared ts s k.small z) h) ∙ sym (ap not h)

    none : any_clearable ts s ≡ false → (cleared_frame ts s == 0) ≡ not (any_clearable ts s)
    none h = eq-eqb (cleared_frame ts s) 0 (cleared_empty ts s h) ∙ sym (ap not h)

pub empty_at_rest : (c : Chart) (inputs : ℕ) (edges : Edges) (s : State) → Numbered c.transitions →
    (cleared_frame c.transitions (situation inputs edges s) == 0) ≡ at_rest c inputs edges s
unfolding at_rest
empty_at_rest c inputs edges s k = cleared_none c.transitions (situation inputs edges s) k
