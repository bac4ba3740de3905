-- A campaign, read call by call. Assumes nothing.
use Rattle.std.proofs.Common.{◌≡◌, List, [], ◌∷◌, ◌++◌, map, get_or, refl, ap, ◌∙◌, subst₂}
use Rattle.image.specs.Meaning.{Meaning, Touch}
use Rattle.plain.specs.declared.calls.Call.{Call}
use Rattle.plain.specs.declared.calls.Entry.{Entry}
use Rattle.plain.specs.Behaviours.{Behaviour}
use Rattle.plain.specs.Charts.{Plain}
use Rattle.plain.specs.Moments.{Moment, call_of, entry_of, Linked, last_of, Beside, Alike}

module _ {I : Type 0} (meaning : I → Meaning) (becomes : I → Touch → I → Type 0) (b : Behaviour) where
  -- the moment of this call, made over this image
  abbrev pub of_call : Call → I → Moment I → Moment I
  of_call call i m =
      record { call = call; before = i; answer = m.answer; active = m.active; after = m.after; plain = m.plain }

  -- these calls are made one after the other, and written down as these entries: from the plain chart p and the image i to
  -- q and j
  abbrev pub Made : Plain → I → List Call → List Entry → Plain → I → Type 0
  Made p i [] entries q j = (entries ≡ []) × ((q ≡ p) × (j ≡ i))
  Made p i (call ∷ calls) entries q j =
      (m : Moment I) × (Beside meaning becomes b p (of_call call i m) × ((rest : List Entry) × ((entries ≡ entry_of m ∷ rest) × Made m.plain m.after calls rest q j)))

  pub made : (calls : List Call) (p : Plain) (i : I) (ms : List (Moment I)) (j : I) → map call_of ms ≡ calls → Linked i ms j → Alike meaning becomes b p ms → Made p i calls (map entry_of ms) (last_of p ms) j
  made [] p i [] j c l a = (refl, (refl, l))
  made [] p i (m ∷ ms) j c l a = cc
  made (call ∷ calls) p i [] j c l a = cc
  made (call ∷ calls) p i (m ∷ ms) j c l a =
      let first : m.call ≡ call = cc in
      let others : map call_of ms ≡ calls = cc in
      (m, (subst₂ (λ x y. Beside meaning becomes b p (of_call x y m)) first l.0 a.0, (map entry_of ms, (refl, made calls m.plain m.after ms j others l.1 a.1))))

-- the entry of the second call
pub second_entry : {A : Type 0} (x y none : A) (others rest after log : List A) → log ≡ (x ∷ others) ++ after → others ≡ y ∷ rest → get_or log 1 none ≡ y
second_entry x y none others rest after log e f = ap (λ l. get_or l 1 none) (e ∙ ap (λ l. (x ∷ l) ++ after) f)
