-- The frames of a trace, as chunks of its bytes, and the list after n advances. Assumes nothing.
use Rattle.std.proofs.Common.{◌≡◌, ℕ, zero, suc, ◌+◌, ◌*◌, ◌/◌, ◌%◌, ◌<◌, ◌≤◌, min, true, false, nat_lt, List, [], ◌∷◌, map, length, get_or, drop, sym, refl, ap, ap₂, ◌∙◌, ⊎_elim, Ok, arith}
use Rattle.std.proofs.lemmas.List.{drop-drop, drop_all, take-take, length-map, get_or-map}
use Rattle.std.proofs.lemmas.Bool.{cases_lt, lt-ltb, le-ltb, ltb-true}
use Rattle.std.proofs.lemmas.Bool.Decides.{nat_tests}
use Rattle.std.specs.Simd.{first_chunks}
use Rattle.image.specs.Meaning.{sampled}
use Rattle.image.specs.Playback.{Playback, number_of, frame_of, frames_in, frames_of, shown, advanced, from_first, shown_from, is_trace_length, list_of}

-- a frame, from its bytes one by one
pub frame_sum : (bs : List ℕ) → frame_of bs ≡ get_or bs 0 0 + get_or bs 1 0 * 256 + get_or bs 2 0 * 65536 + get_or bs 3 0 * 16777216 + get_or bs 4 0 * 4294967296 + get_or bs 5 0 * 1099511627776 + get_or bs 6 0 * 281474976710656 + get_or bs 7 0 * 72057594037927936
frame_sum [] = refl
frame_sum (a ∷ []) = omega arith
frame_sum (a ∷ (b ∷ [])) = omega arith
frame_sum (a ∷ (b ∷ (c ∷ []))) = omega arith
frame_sum (a ∷ (b ∷ (c ∷ (d ∷ [])))) = omega arith
frame_sum (a ∷ (b ∷ (c ∷ (d ∷ (e ∷ []))))) = omega arith
frame_sum (a ∷ (b ∷ (c ∷ (d ∷ (e ∷ (f ∷ [])))))) = omega arith
frame_sum (a ∷ (b ∷ (c ∷ (d ∷ (e ∷ (f ∷ (g ∷ []))))))) = omega arith
frame_sum (a ∷ (b ∷ (c ∷ (d ∷ (e ∷ (f ∷ (g ∷ (h ∷ rest)))))))) = omega arith

pub frames_chunks : (n : ℕ) (bs : List ℕ) → map frame_of (first_chunks 8 n bs) ≡ frames_in n bs
frames_chunks zero bs = refl
frames_chunks (suc n) bs = ap₂ ◌∷◌ (ap number_of (take-take 8 8 bs (omega arith))) (frames_chunks n (drop 8 bs))

pub length-frames_in : (n : ℕ) (bs : List ℕ) → length (frames_in n bs) ≡ n
length-frames_in zero bs = refl
length-frames_in (suc n) bs = ap (λ k. suc k) (length-frames_in n (drop 8 bs))

frame_at : (n k : ℕ) (bs : List ℕ) → n < k → get_or (frames_in k bs) n 0 ≡ frame_of (drop (8 * n) bs)
frame_at n zero bs less = absurd (omega arith)
frame_at zero (suc k) bs less = refl
frame_at (suc n) (suc k) bs less =
    let far : 8 + 8 * n ≡ 8 * suc n = omega arith in
    frame_at n k (drop 8 bs) (omega arith) ∙ ap frame_of (drop-drop (8 * n) 8 bs ∙ ap (λ i. drop i bs) far)

no_frame : (k : ℕ) (bs : List ℕ) → get_or (frames_in k bs) k 0 ≡ 0
no_frame zero bs = refl
no_frame (suc k) bs = no_frame k (drop 8 bs)

abbrev at_position : Playback → ℕ → Playback
at_position list p = record list { position = p }

advanced_by : (n : ℕ) (list : Playback) → list.position ≤ length list.frames → advanced n list ≡ at_position list (min (list.position + n) (length list.frames))
advanced_by zero list few =
    let here : list.position ≡ min (list.position + 0) (length list.frames) = omega arith in
    ap (at_position list) here
advanced_by (suc n) list few =
    let next : min (min (list.position + n) (length list.frames) + 1) (length list.frames) ≡ min (list.position + suc n) (length list.frames) = omega arith in
    ap (λ l. at_position l (min (l.position + 1) (length l.frames))) (advanced_by n list few) ∙ ap (at_position list) next

advanced_from : (trace : List ℕ) (n p : ℕ) → p ≡ min n (length trace / 8) → advanced n (from_first trace) ≡ at_position (from_first trace) p
advanced_from trace n p e =
    let count : length (frames_of trace) ≡ length trace / 8 = length-frames_in (length trace / 8) trace in
    let there : min (0 + n) (length (frames_of trace)) ≡ p = omega arith in
    advanced_by n (from_first trace) (omega arith) ∙ ap (at_position (from_first trace)) there

-- after n advances the list shows the frame that begins at byte 8 * n
pub plays : (trace : List ℕ) → length trace % 8 ≡ 0 → (n : ℕ) → shown (advanced n (from_first trace)) ≡ shown_from n trace
plays trace whole n = ⊎_elim inside past (cases_lt n (length trace / 8))
  where
    count : length (frames_of trace) ≡ length trace / 8
    count = length-frames_in (length trace / 8) trace

    inside : n < length trace / 8 → shown (advanced n (from_first trace)) ≡ shown_from n trace
    inside less =
        let left : nat_lt n (length (frames_of trace)) ≡ true = lt-ltb n (length (frames_of trace)) (omega (arith, count)) in
        let bytes : nat_lt (8 * n) (length trace) ≡ true = lt-ltb (8 * n) (length trace) (omega arith) in
        let frame = frame_at n (length trace / 8) trace less in
        ap shown (advanced_from trace n n (omega arith)) ∙ rw (left, bytes, frame) refl

    past : length trace / 8 ≤ n → shown (advanced n (from_first trace)) ≡ shown_from n trace
    past all =
        let none : nat_lt (length trace / 8) (length (frames_of trace)) ≡ false = le-ltb (length trace / 8) (length (frames_of trace)) (omega (arith, count)) in
        let bytes : nat_lt (8 * n) (length trace) ≡ false = le-ltb (8 * n) (length trace) (omega arith) in
        let frame = no_frame (length trace / 8) trace in
        let end = drop_all (8 * n) trace (omega arith) in
        ap shown (advanced_from trace n (length trace / 8) (omega arith)) ∙ rw (none, bytes, frame, end) refl

-- a trace has whole frames
whole_frames : (trace : List ℕ) → is_trace_length (length trace) ≡ true → length trace % 8 ≡ 0
whole_frames trace passes = grind (arith, nat_tests)

-- the chunks of a trace are its list
pub list_of_chunks : (trace : List ℕ) (chunks : List (List ℕ)) → chunks ≡ first_chunks 8 (length trace / 8) trace → is_trace_length (length trace) ≡ true → list_of trace ≡ Ok (record { frames = map frame_of chunks; position = 0; outputs = 0 })
list_of_chunks trace chunks e passes =
    let frames : map frame_of chunks ≡ frames_of trace = ap (map frame_of) e ∙ frames_chunks (length trace / 8) trace in
    rw (frames, passes) refl

pub chunks_play : (trace : List ℕ) (chunks : List (List ℕ)) (n : ℕ) → chunks ≡ first_chunks 8 (length trace / 8) trace → is_trace_length (length trace) ≡ true → shown (advanced n (record { frames = map frame_of chunks; position = 0; outputs = 0 })) ≡ shown_from n trace
chunks_play trace chunks n e passes =
    let frames : map frame_of chunks ≡ frames_of trace = ap (map frame_of) e ∙ frames_chunks (length trace / 8) trace in
    rw frames (plays trace (whole_frames trace passes) n)

-- the frame that is read at a position before the last frame's end
pub frame_read : (frames : List (List ℕ)) (at outputs : ℕ) (frame : List ℕ) → nat_lt at (length frames) ≡ true → frame ≡ get_or frames at frame → Ok (frame_of frame) ≡ sampled (shown (record { frames = map frame_of frames; position = at; outputs = outputs }))
frame_read frames at outputs frame left e =
    let here : nat_lt at (length (map frame_of frames)) ≡ true = ap (nat_lt at) (length-map frames frame_of) ∙ left in
    let value : get_or (map frame_of frames) at 0 ≡ frame_of frame = get_or-map frame_of frames at frame 0 (ltb-true at (length frames) left) ∙ ap frame_of (sym e) in
    rw (here, value)
