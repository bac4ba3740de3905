-- The outputs, as the answers tell them. Assumes nothing.
use Rattle.std.specs.Prelude.{ℕ}
use Rattle.plain.specs.declared.calls.Answer.{Answer}
use Rattle.plain.specs.declared.calls.Answer.TheVariants.{Done, Found, Delivered, Refused}

-- a delivery brings its frame, and no other call changes them
abbrev pub outputs_after : Answer → ℕ → ℕ
outputs_after Done before = before
outputs_after (Found v) before = before
outputs_after (Delivered frame) before = frame
outputs_after (Refused f) before = before
