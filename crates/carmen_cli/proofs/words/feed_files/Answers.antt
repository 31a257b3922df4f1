use Rattle.std.proofs.Common.{map, string_bytes, arith}
use Rattle.std.proofs.lemmas.Grind.{common_steps}
use Rattle.carmen_cli.proofs.FeedFiles.{few_in}
use Rattle.carmen_cli.proofs.words.feed_files.Goals as goal

pub returns-clause-files : goal.returns-clause-files
returns-clause-files c = grind (arith, common_steps)

pub returns-clause-few : goal.returns-clause-few
returns-clause-few c = few_in (λ files. files.items) c.files_named.result (map string_bytes c.args.words.now) (returns-clause-files c)
