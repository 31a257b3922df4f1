use Rattle.std.proofs.Common.{sym, option_map}
use Rattle.csv.specs.Records.{fields_of}
use Rattle.feature_feed.proofs.CsvFacts.{if_ok_map, none_first, row_first, header_first}
use Rattle.feature_feed.proofs.csv_rows.Records.first.Goals as goal

pub returns-in_default-clause-taken : goal.returns-in_default-clause-taken
returns-in_default-clause-taken c = λ rows is.
    none_first rows c.next.new.self (rw c.in_default.is at c.in_ok-row.ensures.taken rows is)

pub returns-then-is_header_record-clause-taken : goal.returns-then-is_header_record-clause-taken
returns-then-is_header_record-clause-taken c =
    if_ok_map c.next-then-is_header_record.result (λ o next. λ rows is.
    header_first rows (fields_of c.in-Some.row) (option_map fields_of o) c.next.new.self c.next-then-is_header_record.new.self (sym c.if-is_header_record.ensures)
    (rw c.in-Some.is at c.in_ok-row.ensures.taken rows is) next) c.next-then-is_header_record.ensures.taken

pub returns-clause-taken : goal.returns-clause-taken
returns-clause-taken c = λ rows is.
    row_first rows (fields_of c.in-Some.row) c.next.new.self (sym c.if-is_header_record.ensures) (rw c.in-Some.is at c.in_ok-row.ensures.taken rows is)
