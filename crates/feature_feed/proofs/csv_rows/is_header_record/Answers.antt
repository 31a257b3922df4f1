use Rattle.std.proofs.Common.{sym, ◌∙◌, arith}
use Rattle.csv.specs.Records.{fields_of}
use Rattle.feature_feed.proofs.CsvFacts.{header_is}
use Rattle.feature_feed.proofs.csv_rows.is_header_record.Goals as goal

pub returns : goal.returns
returns c =
    c.all_four.ensures ∙ sym (header_is (fields_of c.args.row.now) _ _ _ _ (omega arith) c.is_field-id.ensures c.is_field-text.ensures c.is_field-zxy.ensures c.is_field-score.ensures)
