use Rattle.std.proofs.Common.{◌≡◌, Some, refl, sym, ◌∙◌}
use Rattle.std.specs.Io.Cursor.{cursor_remaining}
use Rattle.csv.specs.Records.{fields_of}
use Rattle.feature_feed.proofs.CsvFacts.{took_row, still_plain, no_row, rows_open}
use Rattle.feature_feed.specs.CsvRows.{rows_at, rows_of}
use Rattle.feature_feed.proofs.csv_rows.Records.next.Goals as goal

pub invariant_of-self : goal.invariant_of-self
invariant_of-self c = λ _.
    let plain = c.self.invariant c.in-Open.is in
    let reads = rw (c.in-Ok-true.is, c.in-Ok-true.field-0-test) at c.read_byte_record.ensures.reads in
    let first = rw c.in-Ok-true.is at c.read_byte_record.ensures.ready in
    let same = rw c.in-Ok-true.is at c.read_byte_record.ensures.flexible in
    still_plain (cursor_remaining (λ v. Some v.items)) c.self.inside.reader c.read_byte_record.new.self (fields_of c.read_byte_record.new.row) plain (reads plain.1 plain.0)
    (first plain.1) same

pub returns-in-Ok-true-clause-taken : goal.returns-in-Ok-true-clause-taken
returns-in-Ok-true-clause-taken c = λ rows is.
    let plain = c.self.invariant c.in-Open.is in
    let reads = rw (c.in-Ok-true.is, c.in-Ok-true.field-0-test) at c.read_byte_record.ensures.reads in
    let here : rows_at c.self.inside.stage (rows_of (cursor_remaining (λ v. Some v.items)) c.self.inside.reader) ≡ Some rows = c.self.view_is ∙ is in
    let left : rows_of (cursor_remaining (λ v. Some v.items)) c.self.inside.reader ≡ Some rows = sym (rows_open c.self.inside.stage _ c.in-Open.is) ∙ here in
    let went = took_row (cursor_remaining (λ v. Some v.items)) c.self.inside.reader c.read_byte_record.new.self (fields_of c.read_byte_record.new.row) rows plain (reads plain.1 plain.0) left in
    (went.0, went.1, rows_open c.self.inside.stage (rows_of (cursor_remaining (λ v. Some v.items)) c.read_byte_record.new.self) c.in-Open.is ∙ went.2)

pub returns-in-Ok-false-clause-taken : goal.returns-in-Ok-false-clause-taken
returns-in-Ok-false-clause-taken c = λ rows is.
    let plain = c.self.invariant c.in-Open.is in
    let reads = rw (c.in-Ok-false.is, c.in-Ok-false.field-0-test) at c.read_byte_record.ensures.reads in
    let here : rows_at c.self.inside.stage (rows_of (cursor_remaining (λ v. Some v.items)) c.self.inside.reader) ≡ Some rows = c.self.view_is ∙ is in
    let left : rows_of (cursor_remaining (λ v. Some v.items)) c.self.inside.reader ≡ Some rows = sym (rows_open c.self.inside.stage _ c.in-Open.is) ∙ here in
    (no_row (cursor_remaining (λ v. Some v.items)) c.self.inside.reader c.read_byte_record.new.self (fields_of c.read_byte_record.new.row) rows plain (reads plain.1 plain.0) left, refl)
