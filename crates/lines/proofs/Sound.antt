-- What the scan reads is spelled by its line. Assumes nothing.
use Rattle.std.proofs.Common.{◌≡◌, ℕ, ◌<◌, List, [], ◌∷◌, ◌++◌, length, sym, refl, ap, ◌∙◌, subst, inl, inr, ⊎_elim, append_assoc, append-nil, arith, length-append}
use Rattle.faults.specs.declared.TextFault.{TextFault}
use Rattle.faults.specs.declared.TextFault.TheVariants.{Unexpected}
use Rattle.text.specs.declared.token.Token.{Token}
use Rattle.text.specs.declared.token.TokenKind.TheVariants.{LineEnd}
use Rattle.words.specs.Emitted.{Kept}
use Rattle.lines.specs.declared.shape.Line.{Line}
use Rattle.lines.specs.Grammar.{Tree, spell, Matches, FitsLine}
use Rattle.lines.specs.Scan.{State, Move, scan, step, follow, goes, done, fault, reads, fails, start, line_of}
use Rattle.conditions.specs.declared.rest.Rest.{Rest}
use Rattle.lines.specs.Parts.{LineFrom, ReadsLine}
use Rattle.lines.specs.Laws.{Uses, Ends, Begins}
use Rattle.lines.proofs.Along.{Spelt, Within, Next, advance}

-- the line is spelled by u and what is used of toks
record Came (u toks rest : List Token) (l : Tree) : Type 0 where
  used : List Token
  ends : Ends toks used rest
  spelled : Matches (u ++ used) (spell l)
  uses : Uses l (u ++ used)
  fits : FitsLine l

never : {A : Type 0} {f : TextFault} {l : List Token} {c : Tree} → fails f ≡ reads c l → A
never h = let z : ◌≡◌ {A = ℕ} 0 1 = cc in absurd (omega arith)

came_out : (u rest : List Token) (l d : Tree) → Matches u (spell d) → Uses d u → FitsLine d → reads d [] ≡ reads l rest → Came u [] rest l
came_out u rest l d m s f h =
    let a : d ≡ l = cc in
    let b : rest ≡ [] = cc in
    record { used = []; ends = inl (refl, b); spelled = subst (λ v. Matches v (spell l)) (sym (append-nil u)) (subst (λ z. Matches u (spell z)) a m); uses = subst (λ v. Uses l v) (sym (append-nil u)) (subst (λ z. Uses z u) a s); fits = subst (λ z. FitsLine z) a f }

came_end : (u : List Token) (t : Token) (toks rest : List Token) (l d : Tree) → t.kind ≡ LineEnd → Matches u (spell d) → Uses d u → FitsLine d → reads d toks ≡ reads l rest → Came u (t ∷ toks) rest l
came_end u t toks rest l d k m s f h =
    let a : d ≡ l = cc in
    let b : toks ≡ rest = cc in
    record { used = []; ends = inr (t, k, ap (λ r. t ∷ r) b); spelled = subst (λ v. Matches v (spell l)) (sym (append-nil u)) (subst (λ z. Matches u (spell z)) a m); uses = subst (λ v. Uses l v) (sym (append-nil u)) (subst (λ z. Uses z u) a s); fits = subst (λ z. FitsLine z) a f }

out_came : (u rest : List Token) (e : ℕ) (l : Tree) (s : Move) → Next u (record { kind = LineEnd; place = e }) s → follow s (λ x. fails (Unexpected e)) [] ≡ reads l rest → Came u [] rest l
out_came u rest e l (goes x) n r = never r
out_came u rest e l (done d) n r = came_out u rest l d n.1 n.2 n.3 r
out_came u rest e l (fault f) n r = never r

one_more : (u : List Token) (t : Token) (toks rest : List Token) (l : Tree) → Came (u ++ t ∷ []) toks rest l → Came u (t ∷ toks) rest l
one_more u t toks rest l c =
    let e = append_assoc u (t ∷ []) c.used in
    record { used = t ∷ c.used; ends = ⊎_elim (λ h. inl (ap (λ r. t ∷ r) h.0, h.1)) (λ h. inr (h.0, h.1, ap (λ r. t ∷ r) h.2)) c.ends; spelled = subst (λ v. Matches v (spell l)) e c.spelled; uses = subst (λ v. Uses l v) e c.uses; fits = c.fits }

token_came : (u : List Token) (t : Token) (toks rest : List Token) (e : ℕ) (l : Tree) (s : Move) → Next u t s → ((x : State) → Spelt (u ++ t ∷ []) x → Within x → scan toks x e ≡ reads l rest → Came (u ++ t ∷ []) toks rest l) → follow s (λ x. scan toks x e) toks ≡ reads l rest → Came u (t ∷ toks) rest l
token_came u t toks rest e l (goes x) n ih r = one_more u t toks rest l (ih x n.0 n.1 r)
token_came u t toks rest e l (done d) n ih r = came_end u t toks rest l d n.0 n.1 n.2 n.3 r
token_came u t toks rest e l (fault f) n ih r = never r

came : (toks : List Token) (x : State) (u rest : List Token) (e : ℕ) (l : Tree) → Spelt u x → Within x → scan toks x e ≡ reads l rest → Came u toks rest l
came [] x u rest e l g b r = out_came u rest e l (step x e LineEnd) (advance x u (record { kind = LineEnd; place = e }) g b) r
came (t ∷ toks) x u rest e l g b r = token_came u t toks rest e l (step x t.place t.kind) (advance x u t g b) (λ y h c q. came toks y (u ++ t ∷ []) rest e l h c q) r

pub sound : (ts rest : List Token) (e : ℕ) (l : Tree) → line_of ts e ≡ reads l rest → Begins l ts rest
sound ts rest e l r = let c = came ts start [] rest e l refl tt r in record { used = c.used; ends = c.ends; spelled = c.spelled; uses = c.uses; fits = c.fits }

-- a whole line
pub ends_shorter : (ts used rest : List Token) → Ends ts used rest → 0 < length ts → length rest < length ts
ends_shorter ts used rest e h =
    ⊎_elim
    (λ a. omega (arith, ap length a.1))
    (λ a. omega (arith, ap length a.2 ∙ length-append used (a.0 ∷ rest)))
    e

pub whole_line_read : {from rest : Rest} {l : Line} {before after : Kept} → LineFrom [] start from l rest before after → ReadsLine start from l rest before after
whole_line_read {from} {rest} r =
    let b = sound from.tokens.now rest.tokens.now from.end r.tree r.is in
    record { tree = r.tree; is = r.is; shown = r.shown; parts = r.parts; emitted = r.emitted; begins = b; fits = b.fits; shorter = ends_shorter from.tokens.now b.used rest.tokens.now b.ends; same_end = r.same_end }
