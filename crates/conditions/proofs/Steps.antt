-- What each reader's step keeps. Assumes nothing.
use Rattle.std.proofs.Common.{◌≡◌, ℕ, ◌+◌, ◌<◌, ◌≤◌, Bool, true, false, cond, leb, List, [], ◌∷◌, ◌++◌, length, sym, refl, ap, ◌∙◌, append_assoc, append-nil, arith}
use Rattle.std.proofs.lemmas.Bool.Decides.{nat_tests}
use Rattle.faults.specs.declared.TextFault.{TextFault}
use Rattle.faults.specs.declared.TextFault.TheVariants.{EighthBracket}
use Rattle.text.specs.declared.token.Token.{Token}
use Rattle.text.specs.declared.token.TokenKind.{TokenKind}
use Rattle.text.specs.declared.token.TokenKind.TheVariants.{Keyword, Digits, Operand, Comma, Dot, Plus, Bang, Open, Close, Slash, Backslash, LineEnd}
use Rattle.words.specs.declared.instruction.Instruction.{Instruction}
use Rattle.words.specs.declared.instruction.Instruction.TheVariants as instruction
use Rattle.words.specs.declared.instruction.Instruction.TheVariants.{AndOpen, OrOpen, Not}
use Rattle.words.specs.Emitted.{Kept, pushed}
use Rattle.conditions.specs.declared.tree.Atom.{Atom}
use Rattle.conditions.specs.Scan.{Step, State, scan, step, follow, goes, fault, begins, negates, wants, primary, sign, Terms, no_terms, terms, Factors, no_factors, factors, join, Brackets, inside, deep, read}
use Rattle.conditions.specs.Tree as tree
use Rattle.conditions.specs.Tree.{Cond, Term, words, words_term, words_factor, words_primary, loaded, enclosed}
use Rattle.conditions.specs.declared.rest.Rest.{Rest}
use Rattle.conditions.specs.Read.{Heads, Lacks}
use Rattle.conditions.specs.Readers.{Behind, Later, going, ReadsAtom, ReadsPrimary, ReadsFactor, ReadsTerm, ReadsCondition, NoPrimary, NoFactor}
use Rattle.conditions.proofs.Pushing.{pushed_append}

-- one step of the scan
pub on : (x : State) (e : ℕ) (t : Token) (rest : List Token) (s : Step) → step x t.place t.kind ≡ s → scan (t ∷ rest) x e ≡ follow s (λ x. scan rest x e) (t ∷ rest)
on x e t rest s h = ap (λ s. follow s (λ x. scan rest x e) (t ∷ rest)) h

-- the same at tokens that are known to begin with a kind
pub ahead : (k : TokenKind) {ts rest : List Token} (x y : State) (e : ℕ) → Heads k ts rest → ((at : ℕ) → step x at k ≡ goes y) → scan ts x e ≡ scan rest y e
ahead k x y e h s = ap (λ l. scan l x e) h.2 ∙ on x e h.0 _ _ (ap (λ k. step x h.0.place k) h.1 ∙ s _)

-- the same of what is left
pub past : (k : TokenKind) {from rest : Rest} (x y : State) → Behind k from rest → ((at : ℕ) → step x at k ≡ goes y) → going x from ≡ going y rest
past k {from} {rest} x y h s = ahead k x y from.end h.heads s ∙ ap (λ e. scan rest.tokens.now y e) (sym h.same_end)

-- ---- what is later
pub behind_later : {k : TokenKind} {from rest : Rest} → Behind k from rest → length rest.tokens.now + 1 ≡ length from.tokens.now
behind_later h = omega (arith, ap length h.heads.2)

pub later_behind : {k : TokenKind} {from after rest : Rest} → Behind k from after → Later after rest → Later from rest
later_behind h l = record { within = omega (arith, behind_later h, l.within); same_end = l.same_end ∙ h.same_end }

pub later_later : {from after rest : Rest} → Later from after → Later after rest → Later from rest
later_later l m = record { within = omega (arith, l.within, m.within); same_end = m.same_end ∙ l.same_end }

later_by : {k : TokenKind} {from rest : Rest} → Behind k from rest → Later from rest
later_by h = record { within = omega (arith, behind_later h); same_end = h.same_end }

-- a factor with a `!`
pub bang_on : (h : Brackets) (s : Terms) (p : Factors) {from after : Rest} → Behind Bang from after → going (wants h s p) from ≡ going (primary h s p true) after
bang_on h s p x = past Bang (wants h s p) (primary h s p true) x (λ at. refl)

pub bang_read : {d : ℕ} {from after rest : Rest} {before now : Kept} → Behind Bang from after → ReadsPrimary true d after before rest now → ReadsFactor d from before rest now
bang_read x r = record {
  tree = tree.not r.tree;
  emitted = r.emitted;
  passes = λ h s p z. bang_on h s p x ∙ r.passes h s p z;
  later = later_behind x r.later;
}

pub bang_none : {d : ℕ} {from after : Rest} {f : TextFault} → Behind Bang from after → NoPrimary true d after f → NoFactor d from f
bang_none x r = record { fails = λ h s p z. bang_on h s p x ∙ r.fails h s p z }

-- a factor without one
plainly : (h : Brackets) (s : Terms) (p : Factors) (at : ℕ) (k : TokenKind) → (k ≡ Bang → ⊥) → negates h s p at k ≡ begins h s p false at k
plainly h s p at (Keyword w) n = refl
plainly h s p at (Digits i) n = refl
plainly h s p at (Operand l i) n = refl
plainly h s p at Comma n = refl
plainly h s p at Dot n = refl
plainly h s p at Plus n = refl
plainly h s p at Bang n = absurd (n refl)
plainly h s p at Open n = refl
plainly h s p at Close n = refl
plainly h s p at Slash n = refl
plainly h s p at Backslash n = refl
plainly h s p at LineEnd n = refl

pub no_bang : (h : Brackets) (s : Terms) (p : Factors) (e : ℕ) (ts : List Token) → Lacks Bang ts → scan ts (wants h s p) e ≡ scan ts (primary h s p false) e
no_bang h s p e [] n = refl
no_bang h s p e (t ∷ ts) n = on (wants h s p) e t ts _ (plainly h s p t.place t.kind n)

pub plain_read_factor : {d : ℕ} {from rest : Rest} {before now : Kept} → Lacks Bang from.tokens.now → ReadsPrimary false d from before rest now → ReadsFactor d from before rest now
plain_read_factor {from = from} x r = record { tree = tree.is r.tree; emitted = r.emitted; passes = λ h s p z. no_bang h s p from.end from.tokens.now x ∙ r.passes h s p z; later = r.later }

pub plain_none : {d : ℕ} {from : Rest} {f : TextFault} → Lacks Bang from.tokens.now → NoPrimary false d from f → NoFactor d from f
plain_none {from = from} x r = record { fails = λ h s p z. no_bang h s p from.end from.tokens.now x ∙ r.fails h s p z }

-- one operand
pub atom_read : {d : ℕ} {b : Bool} {from rest : Rest} {a : Atom} {before now : Kept} → ReadsAtom from a rest → now ≡ pushed before (loaded b a ∷ []) → ReadsPrimary b d from before rest now
atom_read {b = b} {a = a} r out = record { tree = tree.atom a; emitted = out; passes = λ h s p z. r.passes h s p b; later = r.later }

-- a bracket
pub opened : (h : Brackets) (s : Terms) (p : Factors) (b : Bool) (at : ℕ) → deep h < 7 → begins h s p b at Open ≡ goes (wants (inside h s p b) no_terms no_factors)
opened h s p b at lt = let z : leb 7 (deep h) ≡ false = grind (arith, nat_tests) in ap (λ q. cond q (fault (EighthBracket at)) (goes (wants (inside h s p b) no_terms no_factors))) z

pub open_on : (h : Brackets) (s : Terms) (p : Factors) (b : Bool) {from after : Rest} → Behind Open from after → deep h < 7 → going (primary h s p b) from ≡ going (wants (inside h s p b) no_terms no_factors) after
open_on h s p b x lt = past Open (primary h s p b) (wants (inside h s p b) no_terms no_factors) x (λ at. opened h s p b at lt)

-- what stands behind a bracket's words
abbrev pub negating : Bool → List Instruction
negating true = Not ∷ []
negating false = []

bracketed : (b : Bool) (c : Cond) → words_primary b (tree.bracket c) ≡ words c ++ negating b
bracketed true c = refl
bracketed false c = sym (append-nil (words c))

pub bracket_read : {d w : ℕ} {b : Bool} {from after inner rest : Rest} {before mid now : Kept} → Behind Open from after → (w ≡ d + 1) × (w ≤ 7) → ReadsCondition w after before inner mid → Behind Close inner rest → now ≡ pushed mid (negating b) → ReadsPrimary b d from before rest now
bracket_read {d} {w} {b} {before = before} o deeper r x out =
    let c = join r.others r.last in
    record {
      tree = tree.bracket c;
      emitted = out ∙ ap (λ k. pushed k (negating b)) r.emitted ∙ pushed_append before (words c) (negating b) ∙ ap (λ l. pushed before l) (sym (bracketed b c));
      passes = λ h s p z. open_on h s p b o (omega (arith, deeper.0, deeper.1)) ∙ r.passes (inside h s p b) (omega (arith, deeper.0)) ∙ past Close (sign (inside h s p b) r.others r.last) (read h s p b (tree.bracket c)) x (λ at. refl);
      later = later_behind o (later_later r.later (later_by x));
    }

pub plus_on : (h : Brackets) (s : Terms) (t : Term) {from after : Rest} → Behind Plus from after → going (sign h s t) from ≡ going (wants h (terms (join s t)) no_factors) after
plus_on h s t x = past Plus (sign h s t) (wants h (terms (join s t)) no_factors) x (λ at. refl)

pub dot_on : (h : Brackets) (s : Terms) (t : Term) {from after : Rest} → Behind Dot from after → going (sign h s t) from ≡ going (wants h s (factors t)) after
dot_on h s t x = past Dot (sign h s t) (wants h s (factors t)) x (λ at. refl)

-- a condition so far, and a term so far
pub record SoFar (d : ℕ) (from : Rest) (before : Kept) (rest : Rest) (after : Kept) : Type 0 where
  pub others : Terms
  pub last : Term
  pub emitted : after ≡ pushed before (words (join others last))
  pub passes : (h : Brackets) → deep h ≡ d → going (wants h no_terms no_factors) from ≡ going (sign h others last) rest
  pub undotted : Lacks Dot rest.tokens.now
  pub later : Later from rest

pub record TermSoFar (d : ℕ) (from : Rest) (before : Kept) (rest : Rest) (after : Kept) : Type 0 where
  pub tree : Term
  pub emitted : after ≡ pushed before (words_term tree)
  pub passes : (h : Brackets) (s : Terms) → deep h ≡ d → going (wants h s no_factors) from ≡ going (sign h s tree) rest
  pub later : Later from rest

-- the words of one more part
more : (before mid mid' now now' : Kept) (ws vs : List Instruction) (op : Instruction) → mid ≡ pushed before ws → mid' ≡ pushed mid (op ∷ []) → now ≡ pushed mid' vs → now' ≡ pushed now (instruction.Close ∷ []) → now' ≡ pushed before (ws ++ enclosed op vs)
more before mid mid' now now' ws vs op a b c d = d ∙ ap (λ k. pushed k (instruction.Close ∷ [])) (c ∙ ap (λ k. pushed k vs) (b ∙ ap (λ k. pushed k (op ∷ [])) a)) ∙ simp (pushed_append, append_assoc)

pub or_more : {d : ℕ} {from rest after rest' : Rest} {before mid mid' now now' : Kept} → SoFar d from before rest mid → Behind Plus rest after → mid' ≡ pushed mid (OrOpen ∷ []) → ReadsTerm d after mid' rest' now → now' ≡ pushed now (instruction.Close ∷ []) → SoFar d from before rest' now'
or_more {before = before} {mid} {mid'} {now} {now'} x h opens y shuts =
    let c = join x.others x.last in
    record {
      others = terms c;
      last = y.tree;
      emitted = more before mid mid' now now' (words c) (words_term y.tree) OrOpen x.emitted opens y.emitted shuts;
      passes = λ k z. x.passes k z ∙ plus_on k x.others x.last h ∙ y.passes k (terms c) z;
      undotted = y.undotted;
      later = later_later x.later (later_behind h y.later);
    }

pub and_more : {d : ℕ} {from rest after rest' : Rest} {before mid mid' now now' : Kept} → TermSoFar d from before rest mid → Behind Dot rest after → mid' ≡ pushed mid (AndOpen ∷ []) → ReadsFactor d after mid' rest' now → now' ≡ pushed now (instruction.Close ∷ []) → TermSoFar d from before rest' now'
and_more {before = before} {mid} {mid'} {now} {now'} x h opens y shuts = record {
  tree = tree.and x.tree y.tree;
  emitted = more before mid mid' now now' (words_term x.tree) (words_factor y.tree) AndOpen x.emitted opens y.emitted shuts;
  passes = λ k s z. x.passes k s z ∙ dot_on k s x.tree h ∙ y.passes k s (factors x.tree) z;
  later = later_later x.later (later_behind h y.later);
}

pub term_started : {d : ℕ} {from rest : Rest} {before after : Kept} → ReadsFactor d from before rest after → TermSoFar d from before rest after
term_started r = record { tree = tree.factor r.tree; emitted = r.emitted; passes = λ h s z. r.passes h s no_factors z; later = r.later }
