use Rattle.std.proofs.Common.{None, Some, sym, arith}
use Rattle.std.proofs.lemmas.Str.Pattern.{strip_suffix_char}
use Rattle.session_text.proofs.Returns.{taken_off, none_off}
use Rattle.session_text.proofs.fields.line_text.Goals as goal

pub returns-in-Some : goal.returns-in-Some
returns-in-Some c = sym (taken_off c.in-Some.text.now c.args.line.now (strip_suffix_char 13 c.args.line.now (Some c.in-Some.text) c.in-Some.ensures.cases (omega arith)))

pub returns-in-None : goal.returns-in-None
returns-in-None c = sym (none_off c.args.line.now (strip_suffix_char 13 c.args.line.now None c.in-None.ensures.cases (omega arith)))
