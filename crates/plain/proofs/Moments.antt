-- A campaign so far, and one call more. Assumes nothing.
use Rattle.std.proofs.Common.{◌≡◌, ℕ, ◌≤◌, List, [], ◌∷◌, ◌++◌, map, take, drop, length, refl, sym, ap, ◌∙◌, subst, take-append-drop, length-take-le}
use Rattle.std.proofs.lemmas.List.{map-append, length-map}
use Rattle.image.specs.Meaning.{Meaning, Touch}
use Rattle.plain.specs.declared.calls.Call.{Call}
use Rattle.plain.specs.declared.calls.Entry.{Entry}
use Rattle.plain.specs.Behaviours.{Behaviour}
use Rattle.plain.specs.Charts.{Plain}
use Rattle.plain.specs.Moments.{Moment, call_of, entry_of, Linked, last_of, Beside, Alike}
use Rattle.plain.specs.Campaigns.{begun_over, Campaign}
use Rattle.plain.proofs.Laws.{counted, off, circles}

linked_push : {I : Type 0} (i : I) (ms : List (Moment I)) (m : Moment I) → Linked i ms m.before → Linked i (ms ++ (m ∷ [])) m.after
linked_push i [] m l = (l, refl)
linked_push i (x ∷ ms) m l = (l.0, linked_push x.after ms m l.1)

last_push : {I : Type 0} (p : Plain) (ms : List (Moment I)) (m : Moment I) → m.plain ≡ last_of p (ms ++ (m ∷ []))
last_push p [] m = refl
last_push p (x ∷ ms) m = last_push x.plain ms m

module _ {I : Type 0} (meaning : I → Meaning) (becomes : I → Touch → I → Type 0) (b : Behaviour) where
  alike_push : (p : Plain) (ms : List (Moment I)) (m : Moment I) → Alike meaning becomes b p ms → Beside meaning becomes b (last_of p ms) m → Alike meaning becomes b p (ms ++ (m ∷ []))
  alike_push p [] m a h = (h, tt)
  alike_push p (x ∷ ms) m a h = (a.0, alike_push x.plain ms m a.1 h)

  -- these calls were made from the image i, and are in the log; then the plain chart is p, and the image j
  pub record Sofar (i : I) (calls : List Call) (log : List Entry) (p : Plain) (j : I) : Type 0 where
    pub moments : List (Moment I)
    pub calls_made : map call_of moments ≡ calls
    pub log_kept : map entry_of moments ≡ log
    pub linked : Linked i moments j
    pub alike : Alike meaning becomes b (begun_over meaning b i) moments
    pub ends : p ≡ last_of (begun_over meaning b i) moments

  pub none_yet : (i : I) → Sofar i [] [] (begun_over meaning b i) i
  none_yet i = record { moments = []; calls_made = refl; log_kept = refl; linked = refl; alike = tt; ends = refl }

  pub one_more : {i : I} {calls : List Call} {log : List Entry} {p : Plain} {j : I} (m : Moment I) → Sofar i calls log p j → Beside meaning becomes b p m → m.before ≡ j → Sofar i (calls ++ (m.call ∷ [])) (log ++ (entry_of m ∷ [])) m.plain m.after
  one_more {i} {calls} {log} {p} {j} m s h e = record {
    moments = s.moments ++ (m ∷ []);
    calls_made = map-append call_of s.moments (m ∷ []) ∙ ap (λ l. l ++ (m.call ∷ [])) s.calls_made;
    log_kept = map-append entry_of s.moments (m ∷ []) ∙ ap (λ l. l ++ (entry_of m ∷ [])) s.log_kept;
    linked = linked_push i s.moments m (subst (λ x. Linked i s.moments x) (sym e) s.linked);
    alike = alike_push (begun_over meaning b i) s.moments m s.alike (subst (λ q. Beside meaning becomes b q m) s.ends h);
    ends = last_push (begun_over meaning b i) s.moments m;
  }

  -- the same, with the longer lists by equations
  pub one_more_is : {i : I} {calls : List Call} {log : List Entry} {p : Plain} {j : I} (m : Moment I) → Sofar i calls log p j → Beside meaning becomes b p m → m.before ≡ j → (longer : List Call) (written : List Entry) → longer ≡ calls ++ (m.call ∷ []) → written ≡ log ++ (entry_of m ∷ []) → Sofar i longer written m.plain m.after
  one_more_is {i} {calls} {log} m s h e longer written c w = subst (λ x. Sofar i x written m.plain m.after) (sym c) (subst (λ x. Sofar i (calls ++ (m.call ∷ [])) x m.plain m.after) (sym w) (one_more m s h e))

  -- the first n entries of the log are those of the calls, and the others those of the old log
  pub finished : {i : I} {calls : List Call} {p : Plain} {j : I} (n : ℕ) (old log : List Entry) → n ≤ length log → drop n log ≡ drop n old → Sofar i calls (take n log) p j → Campaign meaning becomes b i calls old log p j
  finished {i} n old log few rest s = record {
    moments = s.moments;
    calls_made = s.calls_made;
    log_kept = sym (take-append-drop n log) ∙ ap (λ l. l ++ drop n log) (sym s.log_kept) ∙ ap (λ l. map entry_of s.moments ++ l) (rest ∙ ap (λ k. drop k old) many);
    linked = s.linked;
    alike = s.alike;
    ends = s.ends;
    counted = counted meaning becomes b (meaning i).outputs s.moments s.alike;
    off = off meaning becomes b (meaning i).outputs s.moments s.alike;
    circles = circles meaning becomes b (begun_over meaning b i) s.moments s.alike;
  }
    where
      many : n ≡ length s.moments
      many = sym (length-take-le n log few) ∙ ap length (sym s.log_kept) ∙ length-map s.moments entry_of
