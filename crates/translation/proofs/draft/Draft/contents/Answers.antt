use Rattle.words.specs.Emitted.{kept_in}
use Rattle.translation.specs.Translation.{clear_part, enter_part, hold_part}
use Rattle.translation.proofs.Limiting.{kept_whole, clear_over, enter_over, hold_over, longest_fits}
use Rattle.translation.proofs.draft.Draft.contents.Goals as goal

pub returns-in_err-clear : goal.returns-in_err-clear
returns-in_err-clear c = λ ls d. rw c.from_residual.ensures (clear_over ls c.args.self.now d c.in_err-clear.ensures)

pub returns-in_err-enter : goal.returns-in_err-enter
returns-in_err-enter c = λ ls d. rw c.from_residual-in_err-enter.ensures (enter_over ls c.args.self.now d c.in_err-enter.ensures)

pub returns-in_err-hold : goal.returns-in_err-hold
returns-in_err-hold c = λ ls d. rw c.from_residual-in_err-hold.ensures (hold_over ls c.args.self.now d c.in_err-hold.ensures)

pub returns : goal.returns
returns c = λ ls d.
    let s = c.args.self.now in
    let clear = kept_whole (kept_in s.clear) (clear_part ls) _ d.clear c.in_ok-clear.ensures in
    let enter = kept_whole (kept_in s.enter) (enter_part ls) _ d.enter c.in_ok-enter.ensures in
    let hold = kept_whole (kept_in s.hold) (hold_part ls) _ d.hold c.in_ok-hold.ensures in (
      record { initial = d.initial; clear = clear.words; enter = enter.words; hold = hold.words },
      longest_fits ls clear.few enter.few hold.few,
    )
