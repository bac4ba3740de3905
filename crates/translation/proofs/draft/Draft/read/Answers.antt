use Rattle.std.proofs.Common.{[], ◌∷◌, ◌++◌}
use Rattle.words.specs.Emitted.{kept_in}
use Rattle.lines.proofs.WholeText.{left_all, left_less}
use Rattle.translation.specs.Drafts.{sketch_of}
use Rattle.translation.proofs.Reading.{read_none, read_more}
use Rattle.translation.proofs.draft.Draft.read.Goals as goal

pub loop-line-init : goal.loop-line-init
loop-line-init c = ([], left_all c.args.text, read_none (sketch_of c.args.self.now))

pub loop-line-preserved : goal.loop-line-preserved
loop-line-preserved c =
    let inv = c.loop-line.invariant in
    let line = rw c.in-Some.is at c.in_ok-line.ensures in (
      inv.0 ++ line.tree ∷ [],
      left_less c.args.text c.loop-line.rest c.in-Some.behind inv.0 line.tree inv.1 line.first,
      read_more (sketch_of c.args.self.now) (sketch_of c.loop-line.self) (sketch_of c.note.new.self) (kept_in c.next_line.new.guards) inv.0 line.tree inv.2 line.emitted (c.note.ensures line.tree line.shown),
    )
