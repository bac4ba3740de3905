-- The words of the calls, and what is printed of an answer. Assumes nothing.
use Rattle.std.specs.Prelude.{ℕ, List, [], ◌∷◌, ◌++◌, codes, Option, find}
use Rattle.std.specs.Str.{bytes_eq}
use Rattle.faults.specs.Shown.{fault_text}
use Rattle.verdict.specs.Shown.{verdict_text}
use Rattle.plain.specs.declared.calls.Call.{Call}
use Rattle.plain.specs.declared.calls.Call.TheVariants.{Sample, Work, Deliver, Abandon, Restart, Advance}
use Rattle.plain.specs.declared.calls.Answer.{Answer}
use Rattle.plain.specs.declared.calls.Answer.TheVariants.{Done, Found, Delivered, Refused}

abbrev pub call_word : Call → List ℕ
call_word Sample = codes "sample"
call_word Work = codes "work"
call_word Deliver = codes "deliver"
call_word Abandon = codes "abandon"
call_word Restart = codes "restart"
call_word Advance = codes "advance"

abbrev pub six : List Call
six = Sample ∷ Work ∷ Deliver ∷ Abandon ∷ Restart ∷ Advance ∷ []

-- the call with this word, if one of the six has it
abbrev pub call_named : List ℕ → Option Call
call_named word = find (λ call. bytes_eq word (call_word call)) six

-- a delivery is done, whatever frame it brings
abbrev pub answer_text : Answer → List ℕ
answer_text Done = codes "done"
answer_text (Found v) = verdict_text v
answer_text (Delivered frame) = codes "done"
answer_text (Refused f) = codes "refused " ++ fault_text f
