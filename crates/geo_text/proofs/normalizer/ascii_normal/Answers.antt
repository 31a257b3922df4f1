use Rattle.std.proofs.Common.{◌∙◌, sym, ap, encode_utf8_all}
use Rattle.geo_text.proofs.AsciiTokens.{normal_chars-ascii}
use Rattle.geo_text.proofs.normalizer.ascii_normal.Goals as goal

pub returns : goal.returns
returns c = c.from_string.ensures ∙ (c.in_ok-lower_case.ensures ∙ ap encode_utf8_all (sym (normal_chars-ascii c.args.text.now c.requires)))
