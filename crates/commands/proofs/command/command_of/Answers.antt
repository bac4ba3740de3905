use Rattle.std.proofs.Common.{arith}
use Rattle.commands.proofs.Texts.{texts, texts_behind}
use Rattle.commands.proofs.command.command_of.Goals as goal

pub returns-in-len3-up : goal.returns-in-len3-up
returns-in-len3-up c = (grind (arith, texts), grind (arith, texts), grind (arith, texts), texts_behind c.args.args.now 3)
