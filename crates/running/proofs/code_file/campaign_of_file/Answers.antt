use Rattle.std.proofs.Common.{rules}
use Rattle.controller.specs.Standing.{stage_of}
use Rattle.controller.proofs.Loading.{loads_text}
use Rattle.running.proofs.Loading.{compiled_from}
use Rattle.running.proofs.code_file.campaign_of_file.Goals as goal

pub returns-clause-text : goal.returns-clause-text
returns-clause-text g c =
    λ text room h. loads_text text c.args.file.now room (stage_of c.args.controller.now.phase) c.campaign.new.controller c.campaign.result (search rules) (search rules) h

pub returns-clause-chart : goal.returns-clause-chart
returns-clause-chart g c =
    λ text room k h f. c.campaign.ensures.chart k (compiled_from text _ k (c.in_ok-load.ensures.text text room h).program f)
