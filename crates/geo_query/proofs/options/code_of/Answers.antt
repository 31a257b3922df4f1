use Rattle.std.proofs.Common.{rules}
use Rattle.geo_query.proofs.Codes.{no_code}
use Rattle.geo_query.proofs.options.code_of.Goals as goal

pub returns-in_err-ascii : goal.returns-in_err-ascii
returns-in_err-ascii c = search (rules, no_code)
