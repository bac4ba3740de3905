-- What each kind of line does to a draft. Assumes nothing.
use Rattle.std.proofs.Common.{◌≡◌, ℕ, Bool, List, [], sym, refl}
use Rattle.words.specs.Emitted.{Kept, pushed}
use Rattle.conditions.specs.Tree.{Cond}
use Rattle.lines.specs.declared.shape.Number.{Number}
use Rattle.lines.specs.declared.shape.Action.{Action}
use Rattle.lines.specs.Grammar.{Numbers, items, empty, step, trans, hold, enter}
use Rattle.translation.specs.Translation.{newly, held}
use Rattle.translation.specs.Drafts.{Sketch, started, with_switches, noted}
use Rattle.conditions.proofs.Pushing.{pushed_none}

-- drafts that hold the same
pub same_sketch : {i j : ℕ} {c r s e h c' r' s' e' h' : Kept} → i ≡ j → c ≡ c' → r ≡ r' → s ≡ s' → e ≡ e' → h ≡ h' → ◌≡◌ {A = Sketch} (record { initial = i; clear = c; resets = r; sets = s; enter = e; hold = h }) (record { initial = j; clear = c'; resets = r'; sets = s'; enter = e'; hold = h' })
same_sketch i c r s e h = cc

-- a list that gets no words
none : (k : Kept) → k ≡ pushed k []
none k = sym (pushed_none k)

pub noted_empty : (d : Sketch) → d ≡ noted d empty
noted_empty d = same_sketch refl refl (none _) (none _) (none _) (none _)

pub noted_step : (d : Sketch) (n : Number) (b : Bool) (x : ℕ) → x ≡ started d.initial (step n b) → ◌≡◌ {A = Sketch} (record { initial = x; clear = d.clear; resets = d.resets; sets = d.sets; enter = d.enter; hold = d.hold }) (noted d (step n b))
noted_step d n b x e = same_sketch e refl (none _) (none _) (none _) (none _)

pub noted_trans : (d : Sketch) (n : Number) (fs ts : Numbers) (c : Cond) (us : List Number) → with_switches d n.value (items fs) (items ts) ≡ noted d (trans n fs ts c us)
noted_trans d n fs ts c us = same_sketch refl refl refl refl (none _) (none _)

pub noted_hold : (d : Sketch) (n q : Number) (k : Kept) → k ≡ pushed d.hold (held n.value q.value) → ◌≡◌ {A = Sketch} (record { initial = d.initial; clear = d.clear; resets = d.resets; sets = d.sets; enter = d.enter; hold = k }) (noted d (hold n q))
noted_hold d n q k e = same_sketch refl refl (none _) (none _) (none _) e

pub noted_enter : (d : Sketch) (n : Number) (a : Action) (q : Number) (k : Kept) → k ≡ pushed d.enter (newly n.value a q.value) → ◌≡◌ {A = Sketch} (record { initial = d.initial; clear = d.clear; resets = d.resets; sets = d.sets; enter = k; hold = d.hold }) (noted d (enter n a q))
noted_enter d n a q k e = same_sketch refl refl (none _) (none _) e (none _)
